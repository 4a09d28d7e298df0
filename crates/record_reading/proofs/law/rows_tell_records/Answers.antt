use Rattle.record_reading.proofs.RecordLaws.{rows_tell}
use Rattle.record_reading.proofs.law.rows_tell_records.Goals as goal

pub returns : goal.returns
returns c = rows_tell
