use Rattle.cell_audit_laws.proofs.Clean.{coherent_clean}
use Rattle.cell_audit_laws.proofs.Spelled.{from_one, spelled_writable}
use Rattle.cell_audit_laws.proofs.Transcript.{transcript_clean}
use Rattle.cell_audit_laws.proofs.coherent_is_clean.Goals as goal

pub returns-clause-lines : goal.returns-clause-lines
returns-clause-lines c = λ sources w h read spelled bytes. coherent_clean sources w h read (from_one w spelled) (spelled_writable w h spelled bytes)

pub returns-clause-transcripts : goal.returns-clause-transcripts
returns-clause-transcripts c = λ sources w h read spelled bytes. transcript_clean sources w h read (from_one w spelled) (spelled_writable w h spelled bytes)
