use Rattle.cell_audit_laws.proofs.Describes.{dump_is_of}
use Rattle.cell_audit_laws.proofs.dump_describes.Goals as goal

pub returns : goal.returns
returns c = dump_is_of
