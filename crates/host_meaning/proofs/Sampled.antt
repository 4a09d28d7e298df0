-- What the small processes show, by computation.
use Rattle.std.proofs.Common.{refl}
use Rattle.std.specs.Fmt.{digits}
use Rattle.obj_kinds.specs.declared.value.Value as stored
use Rattle.obj_kinds.specs.Subscript as subs
use Rattle.obj_kinds.specs.Subscript.{whole_of, is_number}
use Rattle.os_meaning.specs.Values.{joins, subscript_of}
use Rattle.os_meaning.specs.Frames.{at_node, gets, sets, calls_own}
use Rattle.os_meaning.specs.Meaning.{frame}
use Rattle.host_meaning.specs.Methods.{method_of}
use Rattle.host_meaning.specs.Process.{process}
use Rattle.host_meaning.specs.Samples.{samples, AreSeen}

pub all_seen : AreSeen samples
unfolding process method_of frame joins digits whole_of is_number subs.number_in subscript_of at_node gets sets calls_own stored.out-Value denote.Hole.Carrier.out
all_seen = (refl, (refl, (refl, (refl, (refl, (refl, (refl, (refl, (refl, (refl, (refl, (refl, (refl, (refl, tt))))))))))))))
