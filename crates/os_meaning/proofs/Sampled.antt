-- What the small scripts show, by computation.
use Rattle.std.proofs.Common.{refl}
use Rattle.std.specs.Fmt.{digits}
use Rattle.obj_kinds.specs.declared.value.Value as stored
use Rattle.obj_kinds.specs.Subscript as subs
use Rattle.obj_kinds.specs.Subscript.{whole_of, is_number}
use Rattle.os_meaning.specs.Values.{joins, subscript_of, after_of}
use Rattle.os_meaning.specs.Frames.{at_node, gets, sets, increments, orders, calls, calls_own, writes}
use Rattle.os_meaning.specs.Meaning.{frame}
use Rattle.os_meaning.specs.Samples.{samples, AreShown}

pub all_shown : AreShown samples
unfolding frame joins digits whole_of is_number subs.number_in subscript_of after_of at_node gets sets increments orders calls calls_own writes stored.out-Value denote.Hole.Carrier.out
all_shown = (refl, (refl, (refl, (refl, (refl, (refl, (refl, (refl, (refl, (refl, (refl, (refl, (refl, (refl, (refl, (refl, (refl, (refl, (refl, (refl, (refl, (refl, (refl, (refl, tt))))))))))))))))))))))))
