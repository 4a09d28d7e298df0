-- Who may hold a node: no two processes, unless both share it.
use Rattle.std.proofs.Common.{◌≡◌, inl, inr, ℕ, Bool, true, false, not, ◌==◌, ◌&&◌, ◌||◌, Option, Some, None, is_some, unwrap_or, refl, arith}
use Rattle.std.proofs.lemmas.Bool.Decides.{nat_tests}
use Rattle.std.specs.FinMap.{get, contains_key}
use Rattle.obj_kinds.specs.declared.node.Node.{Node}
use Rattle.obj_kinds.specs.declared.op.Pid.{Pid}
use Rattle.obj_kinds.specs.declared.op.Mode.TheVariants.{Shared, Exclusive}
use Rattle.global_tree.proofs.StepLaws.{covers_itself}
use Rattle.lock_table.specs.declared.hold.Hold.{Hold}
use Rattle.lock_table.specs.declared.hold.Kept.{Kept}
use Rattle.lock_table.specs.Holds.{Holds, hold, kept, unheld}
use Rattle.lock_table.specs.Conflict.{conflicts}
use Rattle.lock_table.specs.Calls.{IsFree}
use Rattle.store_core.specs.Guard.{HoldsToEnd}
use Rattle.store_core.proofs.GuardHolds.{one_holder}
use Rattle.object_runs.specs.Invariant.{HoldsShared}

there : (hs : Holds) (h : Hold) → (kept hs h).to_end ≡ true → contains_key hs h ≡ true
there hs h e = by (get hs h) e
  where
    by : (o : Option Kept) → (unwrap_or o unheld).to_end ≡ true → is_some o ≡ true
    by None e = cc
    by (Some c) e = refl

both : (t c : Bool) → c ≡ true → (not t && true) && (c || c) ≡ false → t ≡ true
both true c e f = refl
both false true e f = cc
both false false e f = cc

tested : (p q : ℕ) → (p == q) ≡ true → p ≡ q
tested p q e = grind (arith, nat_tests)

-- who holds a node exclusively keeps the others from sharing it
pub shared_apart : (hs : Holds) (q p : Pid) (n : Node) → IsFree hs → HoldsShared hs q n → HoldsToEnd hs p n → q.0 ≡ p.0
unfolding conflicts
shared_apart hs q p n free (inl h) k = one_holder hs q p n free h k
shared_apart hs q p n free (inr h) k =
    let apart = free (hold q n Shared h.0) (hold p n Exclusive k.0) (there hs _ h.1) (there hs _ k.1) in
    tested q.0 p.0 (both (q.0 == p.0) _ (covers_itself n) apart)
