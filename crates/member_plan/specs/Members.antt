-- A many side, as the calls of objects mean it.
use Rattle.object_calls.specs.Keys.{ManySide}
use Rattle.member_plan.specs.declared.side.ManySide.{ManySide as Seen}

abbrev pub side_of : Seen → ManySide
side_of s = record { class = s.class.now; side = s.side.now }
