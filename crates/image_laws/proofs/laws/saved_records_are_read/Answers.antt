use Rattle.image_laws.proofs.ChangeLaws.{saved_are_read, deleted_are_gone}
use Rattle.image_laws.proofs.laws.saved_records_are_read.Goals as goal

pub returns-clause-saved : goal.returns-clause-saved
returns-clause-saved c = saved_are_read

pub returns-clause-deleted : goal.returns-clause-deleted
returns-clause-deleted c = deleted_are_gone
