use Rattle.record_layout.proofs.ItemLaws.{items_tell}
use Rattle.record_layout.proofs.law.items_tell_fields.Goals as goal

pub returns : goal.returns
returns c = items_tell
