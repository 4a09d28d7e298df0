-- Which holds are in conflict, and which one refuses another.
use Rattle.std.specs.Prelude.{Bool, cond, not, ◌&&◌, ◌||◌, Option, Some, None, is_some, ◌==◌}
use Rattle.std.specs.List.{find}
use Rattle.std.specs.FinMap.{keys}
use Rattle.obj_kinds.specs.declared.node.Node.{Node}
use Rattle.obj_kinds.specs.declared.op.Pid.{Pid}
use Rattle.obj_kinds.specs.declared.op.Mode.{Mode}
use Rattle.obj_kinds.specs.declared.op.Keep.{Keep}
use Rattle.obj_kinds.specs.declared.op.Reply.{Reply}
use Rattle.obj_kinds.specs.declared.op.Reply.TheVariants.{Done, Granted, Held, NotHeld}
use Rattle.obj_kinds.specs.Order.{covers}
use Rattle.lock_table.specs.declared.hold.Hold.{Hold}
use Rattle.lock_table.specs.Holds.{Holds, is_exclusive, is_counted, kept, granted}

-- whether one node is the other or an ancestor of it
abbrev pub in_line : Node → Node → Bool
in_line a b = covers a b || covers b a

-- whether a hold keeps a process from holding a node in line in this mode: it is another process's, and not both are shared
abbrev pub excludes : Pid → Mode → Hold → Bool
excludes p m x = not (p.0 == x.pid.0) && (is_exclusive m || is_exclusive x.mode)

unfoldable pub conflicts : Hold → Hold → Bool
conflicts a b = excludes a.pid a.mode b && in_line a.node b.node

-- the first hold, in the order of holds, that is in conflict with this one
unfoldable pub refusing : Holds → Hold → Option Hold
refusing hs h = find (conflicts h) (keys hs)

abbrev pub told : Option Hold → Reply
told None = Granted
told (Some x) = Held x.pid x.node x.mode

-- what the answer to a lock is, and what the table is then
abbrev pub ask_reply : Holds → Hold → Reply
ask_reply hs h = told (refusing hs h)

abbrev pub asked : Holds → Hold → Keep → Holds
asked hs h k = cond (is_some (refusing hs h)) hs (granted hs h k)

-- what the answer to an unlock is
abbrev pub release_reply : Holds → Hold → Reply
release_reply hs h = cond (is_counted (kept hs h)) Done NotHeld
