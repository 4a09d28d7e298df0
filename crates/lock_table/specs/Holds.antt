-- The holds of all processes, and what becomes of them when locks are granted and given back.
use Rattle.std.specs.Prelude.{ℕ, ◌+◌, ◌-◌, Bool, true, false, cond, not, ◌&&◌, ◌||◌, List, [], ◌∷◌, unwrap_or, ◌==◌, nat_lt}
use Rattle.std.specs.declared.cmp.Ordering.{Ordering}
use Rattle.std.specs.Ordering.{nat_cmp, ordering_then, eq_by_cmp}
use Rattle.std.specs.FinMap.{FinMap, get, insert, remove, retain_keys, entries, from_sorted}
use Rattle.obj_kinds.specs.declared.op.Pid.{Pid}
use Rattle.obj_kinds.specs.declared.op.Mode.{Mode}
use Rattle.obj_kinds.specs.declared.op.Mode.TheVariants.{Shared, Exclusive}
use Rattle.obj_kinds.specs.declared.op.Owner.{Owner}
use Rattle.obj_kinds.specs.declared.op.Owner.TheVariants.{Script, Object}
use Rattle.obj_kinds.specs.declared.op.Keep.{Keep}
use Rattle.obj_kinds.specs.declared.op.Keep.TheVariants.{Counted, ToEnd}
use Rattle.obj_kinds.specs.declared.node.Node.{Node}
use Rattle.obj_kinds.specs.Order.{node_cmp}
use Rattle.lock_table.specs.declared.hold.Hold.{Hold}
use Rattle.lock_table.specs.declared.hold.Kept.{Kept}

abbrev pub is_exclusive : Mode → Bool
is_exclusive Shared = false
is_exclusive Exclusive = true

abbrev pub is_script : Owner → Bool
is_script Script = true
is_script Object = false

-- shared before exclusive
abbrev pub mode_rank : Mode → ℕ
mode_rank Shared = 0
mode_rank Exclusive = 1

-- the script's before the objects'
abbrev pub owner_rank : Owner → ℕ
owner_rank Script = 0
owner_rank Object = 1

-- by node, then by pid, then by mode, then by owner
unfoldable pub hold_cmp : Hold → Hold → Ordering
hold_cmp a b =
    ordering_then (node_cmp a.node b.node) (ordering_then (nat_cmp a.pid.0 b.pid.0)
    (ordering_then (nat_cmp (mode_rank a.mode) (mode_rank b.mode)) (nat_cmp (owner_rank a.owner) (owner_rank b.owner))))

abbrev pub hold : Pid → Node → Mode → Owner → Hold
hold p n m o = record { node = n; pid = p; mode = m; owner = o }

-- how each hold is kept
abbrev pub Holds : Type 0
Holds = FinMap hold_cmp Kept

-- what is in no table
abbrev pub unheld : Kept
unheld = record { counted = 0; to_end = false }

abbrev pub is_counted : Kept → Bool
is_counted c = nat_lt 0 c.counted

abbrev pub is_held : Kept → Bool
is_held c = is_counted c || c.to_end

abbrev pub kept : Holds → Hold → Kept
kept hs h = unwrap_or (get hs h) unheld

abbrev pub is_same : Hold → Hold → Bool
is_same a b = eq_by_cmp hold_cmp a b

-- a hold that is no longer held is in no table
unfoldable pub put : Holds → Hold → Kept → Holds
put hs h c = cond (is_held c) (insert hs h c) (remove hs h)

-- what is left in a table where each hold is then kept as the function says
abbrev pub rekept : (Hold → Kept → Kept) → List (Hold × Kept) → List (Hold × Kept)
rekept f [] = []
rekept f (e ∷ es) = let c = f e.0 e.1 in cond (is_held c) ((e.0, c) ∷ rekept f es) (rekept f es)

unfoldable pub changed : (Hold → Kept → Kept) → Holds → Holds
changed f hs = from_sorted (rekept f (entries hs))

-- GRANTED

-- once more, or to the end
abbrev pub raised : Keep → Kept → Kept
raised Counted c = record { counted = c.counted + 1; to_end = c.to_end }
raised ToEnd c = record { counted = c.counted; to_end = true }

unfoldable pub granted : Holds → Hold → Keep → Holds
granted hs h k = insert hs h (raised k (kept hs h))

-- GIVEN BACK

-- a script's exclusive lock that is given back in a transaction stays to its end
abbrev pub stays : Bool → Hold → Bool
stays in_tran h = in_tran && is_script h.owner && is_exclusive h.mode

-- so many of the counts are left
abbrev pub lowered : Bool → ℕ → Kept → Kept
lowered stay n c = record { counted = n; to_end = c.to_end || stay }

-- with one count less
abbrev pub one_back : Bool → Hold → Kept → Kept
one_back in_tran h c = lowered (stays in_tran h) (c.counted - 1) c

-- one count is given back, where there is one
unfoldable pub given_back : Holds → Hold → Bool → Holds
given_back hs h in_tran = let c = kept hs h in cond (is_counted c) (put hs h (one_back in_tran h c)) hs

abbrev pub is_of : Pid → Owner → Hold → Bool
is_of p o h = h.pid.0 == p.0 && owner_rank h.owner == owner_rank o

abbrev pub all_back : Pid → Owner → Bool → Hold → Kept → Kept
all_back p o in_tran h c = cond (is_of p o h && is_counted c) (lowered (stays in_tran h) 0 c) c

-- all counts of a process and an owner are given back
unfoldable pub all_given_back : Holds → Pid → Owner → Bool → Holds
all_given_back hs p o in_tran = changed (all_back p o in_tran) hs

abbrev pub without_end : Pid → Hold → Kept → Kept
without_end p h c = cond (h.pid.0 == p.0) (record { counted = c.counted; to_end = false }) c

-- the process's outermost transaction has ended
unfoldable pub tran_ended : Holds → Pid → Holds
tran_ended hs p = changed (without_end p) hs

-- the process has ended
unfoldable pub all_dropped : Holds → Pid → Holds
all_dropped hs p = retain_keys hs (λ h. not (h.pid.0 == p.0))
