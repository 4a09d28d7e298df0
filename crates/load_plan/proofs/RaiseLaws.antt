-- Raises by their phases.
use Rattle.std.proofs.Common.{◌≡◌, true, List, refl}
use Rattle.std.specs.Prelude.{nat_lt}
use Rattle.obj_kinds.specs.declared.name.ClassName.{ClassName}
use Rattle.obj_kinds.specs.declared.op.Mode.{Mode}
use Rattle.obj_kinds.specs.declared.op.Reply.{Reply}
use Rattle.record_layout.specs.Rows.{data_node}
use Rattle.store_calls.specs.Calls.{bind, Plain, Tried, Got, Lost, try, run}
use Rattle.object_calls.specs.Asking.{lock_counted}
use Rattle.object_calls.specs.Loads.{raise_lock, raise_ends, raise}
use Rattle.load_plan.specs.declared.raise.RaiseCall.{RaiseCall}
use Rattle.load_plan.specs.Raises.{locked}
use Rattle.load_plan.proofs.LoadLaws.{same_behind}

ends_the_same : (c : RaiseCall) (class : ClassName) (x : Tried (Unit {0})) (rs : List Reply) → run (locked c x) rs ≡ run (raise_ends c.tries c.key class c.from c.to x) rs
ends_the_same c class (Lost x) rs = refl
ends_the_same c class (Got u) rs = refl

-- a raise tries its lock first
pub begun : (c : RaiseCall) (class : ClassName) (mode : Mode) (rs : List Reply) → nat_lt c.from c.to ≡ true
    → raise_lock c.tries c.key class c.to ≡ try Plain c.tries (lock_counted mode (data_node c.key))
    → run (bind (try Plain c.tries (lock_counted mode (data_node c.key))) (locked c)) rs ≡ run (raise c.tries c.key class c.from c.to) rs
unfolding raise
begun c class mode rs up same =
    rw up (rw same
    (same_behind (try Plain c.tries (lock_counted mode (data_node c.key))) (locked c) (raise_ends c.tries c.key class c.from c.to) (ends_the_same c class) rs))
