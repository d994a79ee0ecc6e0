use Rattle.cell_isa.proofs.Law.{encode_decoded, decode_encoded}
use Rattle.cell_isa.proofs.agreement.decode_and_encode_agree.Goals as goal

pub returns-clause-encoded : goal.returns-clause-encoded
returns-clause-encoded c = encode_decoded c.args.word c.args.insn c.ranges.word.fits

pub returns-clause-decoded : goal.returns-clause-decoded
returns-clause-decoded c = decode_encoded c.args.word c.args.insn
