use Rattle.record_reading.proofs.RecordLaws.{nodes_are_rows, rows_are_nodes}
use Rattle.record_reading.proofs.law.records_come_from_their_rows.Goals as goal

pub returns : goal.returns
returns c = λ classes key nodes r rising storable. (λ h. nodes_are_rows classes key nodes r rising storable h.0 h.1, λ h. rows_are_nodes classes key nodes r rising storable h.0 h.1)
