-- The holders of one node, and what becomes of a process's holds.
use Rattle.std.specs.Prelude.{Bool, false, cond, not, ◌&&◌, ◌||◌, ◌==◌, Option, Some, None}
use Rattle.std.specs.declared.cmp.Ordering.{Ordering}
use Rattle.std.specs.Ordering.{nat_cmp, ordering_then}
use Rattle.std.specs.Cmp.{IsTotalOrder, nat_cmp_total, then_total, on_total}
use Rattle.obj_kinds.specs.declared.op.Pid.{Pid}
use Rattle.obj_kinds.specs.declared.op.Mode.{Mode}
use Rattle.obj_kinds.specs.declared.node.Node.{Node}
use Rattle.lock_table.specs.declared.hold.Hold.{Hold}
use Rattle.lock_table.specs.declared.hold.Kept.{Kept}
use Rattle.lock_table.specs.declared.holder.Holder.{Holder}
use Rattle.lock_table.specs.declared.holder.Change.{Change}
use Rattle.lock_table.specs.declared.holder.Change.TheVariants.{GiveBack, EndTran, Drop}
use Rattle.lock_table.specs.Holds.{mode_rank, owner_rank, is_exclusive, is_script, is_counted, is_held, lowered, unheld}

-- by pid, then by mode, then by owner
unfoldable pub holder_cmp : Holder → Holder → Ordering
holder_cmp a b = ordering_then (nat_cmp a.pid.0 b.pid.0) (ordering_then (nat_cmp (mode_rank a.mode) (mode_rank b.mode)) (nat_cmp (owner_rank a.owner) (owner_rank b.owner)))

pub holder_total : IsTotalOrder holder_cmp
unfolding holder_cmp
holder_total =
    then_total (on_total (λ h. h.pid.0) nat_cmp_total)
    (then_total (on_total (λ h. mode_rank h.mode) nat_cmp_total) (on_total (λ h. owner_rank h.owner) nat_cmp_total))

-- a hold without its node, and with it
abbrev pub holder_of : Hold → Holder
holder_of h = record { pid = h.pid; mode = h.mode; owner = h.owner }

abbrev pub hold_on : Node → Holder → Hold
hold_on n h = record { node = n; pid = h.pid; mode = h.mode; owner = h.owner }

-- whether a holder keeps a process from holding a node in line in this mode
abbrev pub keeps_out : Pid → Mode → Holder → Bool
keeps_out p m x = not (p.0 == x.pid.0) && (is_exclusive m || is_exclusive x.mode)

-- whether its hold stays to the end of a transaction when it is given back
abbrev pub remains : Bool → Holder → Bool
remains in_tran h = in_tran && is_script h.owner && is_exclusive h.mode

-- how a hold of the process is kept after a change of all its holds
abbrev pub changed_by : Change → Holder → Kept → Kept
changed_by (GiveBack o in_tran) h c = cond (owner_rank h.owner == owner_rank o && is_counted c) (lowered (remains in_tran h) 0 c) c
changed_by EndTran h c = record { counted = c.counted; to_end = false }
changed_by Drop h c = unheld

-- what is no longer held is in no table
abbrev pub some_held : Kept → Option Kept
some_held c = cond (is_held c) (Some c) None

abbrev pub left_by : Change → Holder → Option Kept → Option Kept
left_by change h None = None
left_by change h (Some c) = some_held (changed_by change h c)
