use Rattle.record_layout.specs.Rows.{rows}
use Rattle.storage_map.proofs.ApartLaws.{none_below_rows}
use Rattle.storage_map.proofs.ChangeLaws.{changes_turn}
use Rattle.storage_map.proofs.law.changes_turn_rows.Goals as goal

pub returns : goal.returns
returns c = λ classes key old new n same. changes_turn (rows classes key old) (rows classes key new) n (none_below_rows classes key old new same)
