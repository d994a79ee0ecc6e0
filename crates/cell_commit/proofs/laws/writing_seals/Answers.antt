use Rattle.cell_commit.proofs.Sealing.{all_in_space, written_sealed}
use Rattle.cell_commit.proofs.laws.writing_seals.Goals as goal

pub returns : goal.returns
returns c =
    let inside = all_in_space c.args.memory.now c.args.fields.now c.laid_out.ensures c.requires.mapped in
    written_sealed c.args.memory.now c.args.spans.now c.args.fields.now inside c.requires.spans
