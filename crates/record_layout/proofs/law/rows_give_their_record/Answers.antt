use Rattle.record_layout.proofs.KeyLaws.{one_list, array-way, way-array, no_lower}
use Rattle.record_layout.proofs.RecordLaws.{rows_are_read}
use Rattle.record_layout.proofs.law.rows_give_their_record.Goals as goal

pub returns : goal.returns
returns c = rows_are_read
