-- How much of the volume of a history an entry takes.
use Rattle.std.specs.Prelude.{ℕ, ◌+◌, List, [], ◌∷◌, length, map, Option, None, Some}
use Rattle.obj_kinds.specs.declared.node.Node.{Node}
use Rattle.obj_kinds.specs.declared.sub.Sub.{Sub}
use Rattle.obj_kinds.specs.declared.sub.Sub.TheVariants.{Num, Str}
use Rattle.obj_kinds.specs.declared.value.Value.{Value}
use Rattle.obj_kinds.specs.declared.value.Value.TheOpen.{Value-F}
use Rattle.obj_kinds.specs.declared.value.Value.TheFolds.{fold-Value}
use Rattle.obj_kinds.specs.declared.op.Op.{Op}
use Rattle.obj_kinds.specs.declared.op.Op.TheVariants.{Get, Defined, Order, Set, Kill, Incr, Lock, Unlock, End}
use Rattle.obj_kinds.specs.declared.op.Reply.{Reply}
use Rattle.obj_kinds.specs.declared.op.Reply.TheVariants.{Found, Next, Number, Held}
use Rattle.store_core.specs.declared.entry.Entry.{Entry}

abbrev pub total : List ℕ → ℕ
total [] = 0
total (n ∷ ns) = n + total ns

-- a number counts 8, a text its bytes
abbrev pub sub_volume : Sub → ℕ
sub_volume (Num z) = 8
sub_volume (Str text) = length text

-- the subscripts and the global's name
abbrev pub node_volume : Node → ℕ
node_volume n = length n.global + total (map sub_volume n.subs)

abbrev pub value_step : Value-F ℕ → ℕ
value_step (Value-F.Str text) = length text
value_step (Value-F.List parts) = total parts

-- all bytes of its texts
abbrev pub value_volume : Value → ℕ
value_volume = fold-Value ℕ value_step

abbrev pub after_volume : Option Sub → ℕ
after_volume None = 0
after_volume (Some s) = sub_volume s

unfoldable pub op_volume : Op → ℕ
op_volume (Get n) = node_volume n
op_volume (Defined n) = node_volume n
op_volume (Order n s) = node_volume n + after_volume s
op_volume (Set n v) = node_volume n + value_volume v
op_volume (Kill n) = node_volume n
op_volume (Incr n k) = node_volume n + 8
op_volume (Lock n m o k) = node_volume n
op_volume (Unlock n m o) = node_volume n
op_volume _ = 0

unfoldable pub reply_volume : Reply → ℕ
reply_volume (Found v) = value_volume v
reply_volume (Next s) = sub_volume s
reply_volume (Number z) = 8
reply_volume (Held p n m) = node_volume n
reply_volume _ = 0

-- the end of a process takes nothing
abbrev pub op_room : Op → ℕ → ℕ
op_room End rest = 0
op_room op rest = 64 + (op_volume op + rest)

unfoldable pub entry_volume : Entry → ℕ
entry_volume e = op_room e.op (reply_volume e.reply)

abbrev pub volume : List Entry → ℕ
volume [] = 0
volume (e ∷ es) = entry_volume e + volume es
