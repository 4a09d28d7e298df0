-- How each hold is kept after each change of the table.
use Rattle.std.proofs.Common.{◌≡◌, ℕ, Bool, true, false, cond, not, ◌&&◌, ◌||◌, ◌==◌, nat_lt, Option, Some, None, unwrap_or, refl, sym, ap, ◌∙◌, arith}
use Rattle.std.specs.FinMap.{get, get-insert}
use Rattle.std.proofs.lemmas.Bool.Decides.{nat_tests}
use Rattle.obj_kinds.specs.declared.op.Pid.{Pid}
use Rattle.obj_kinds.specs.declared.op.Owner.{Owner}
use Rattle.obj_kinds.specs.declared.op.Keep.{Keep}
use Rattle.lock_table.specs.declared.hold.Hold.{Hold}
use Rattle.lock_table.specs.declared.hold.Kept.{Kept}
use Rattle.lock_table.specs.Holds.{Holds, is_same, kept, unheld, is_counted, is_held, put, changed, raised, granted, lowered, stays, one_back, given_back, is_of, all_back, all_given_back, without_end, tran_ended, all_dropped}
use Rattle.lock_table.proofs.HoldOrder.{hold_total}
use Rattle.lock_table.proofs.HoldLaws.{one_hold, rekept_at, get-changed, get-put, get-dropped}

none_counted : (n : ℕ) (b : Bool) → nat_lt 0 n || b ≡ false → n ≡ 0
none_counted n b e = grind (arith, nat_tests)

none_to_end : (a b : Bool) → a || b ≡ false → b ≡ false
none_to_end true b e = cc
none_to_end false b e = e

unheld_is : (c : Kept) → is_held c ≡ false → c ≡ unheld
unheld_is c e =
    let n = none_counted c.counted c.to_end e in
    let b = none_to_end (is_counted c) c.to_end e in
    λ i. record { counted = n i; to_end = b i }

kept_if : (c : Kept) → unwrap_or (cond (is_held c) (Some c) None) unheld ≡ c
kept_if c = by (is_held c) refl
  where
    by : (b : Bool) → is_held c ≡ b → unwrap_or (cond b (Some c) None) unheld ≡ c
    by true e = refl
    by false e = sym (unheld_is c e)

kept_put : (hs : Holds) (h x : Hold) (c : Kept) → kept (put hs h c) x ≡ cond (is_same x h) c (kept hs x)
kept_put hs h x c = ap (λ v. unwrap_or v unheld) (get-put hs h c x) ∙ by (is_same x h)
  where
    by : (t : Bool) → unwrap_or (cond t (cond (is_held c) (Some c) None) (get hs x)) unheld ≡ cond t c (kept hs x)
    by true = kept_if c
    by false = refl

kept_changed : (f : Hold → Kept → Kept) (hs : Holds) (x : Hold) → f x unheld ≡ unheld → kept (changed f hs) x ≡ f x (kept hs x)
kept_changed f hs x idle = ap (λ v. unwrap_or v unheld) (get-changed f hs x) ∙ by (get hs x)
  where
    by : (o : Option Kept) → unwrap_or (rekept_at f x o) unheld ≡ f x (unwrap_or o unheld)
    by None = sym idle
    by (Some c) = kept_if (f x c)

pub kept_granted : (hs : Holds) (h x : Hold) (k : Keep) → kept (granted hs h k) x ≡ cond (is_same x h) (raised k (kept hs x)) (kept hs x)
unfolding granted
kept_granted hs h x k = ap (λ v. unwrap_or v unheld) (get-insert hold_total hs h (raised k (kept hs h)) x) ∙ by (is_same x h) refl
  where
    by : (t : Bool) → is_same x h ≡ t → unwrap_or (cond t (Some (raised k (kept hs h))) (get hs x)) unheld ≡ cond t (raised k (kept hs x)) (kept hs x)
    by true e = ap (λ y. raised k (kept hs y)) (sym (one_hold x h e))
    by false e = refl

abbrev back_at : Bool → Hold → Kept → Kept
back_at in_tran h c = cond (is_counted c) (one_back in_tran h c) c

pub kept_given_back : (hs : Holds) (h x : Hold) (in_tran : Bool) → kept (given_back hs h in_tran) x ≡ cond (is_same x h) (back_at in_tran x (kept hs x)) (kept hs x)
unfolding given_back
kept_given_back hs h x in_tran = by (is_counted (kept hs h)) refl
  where
    at : (t : Bool) (v w : Kept) → is_same x h ≡ t → (x ≡ h → v ≡ w) → cond t v (kept hs x) ≡ cond t w (kept hs x)
    at true v w e same = same (one_hold x h e)
    at false v w e same = refl

    unchanged : (t : Bool) (v w : Kept) → is_same x h ≡ t → (x ≡ h → v ≡ w) → v ≡ cond t w v
    unchanged true v w e same = same (one_hold x h e)
    unchanged false v w e same = refl

    by : (b : Bool) → is_counted (kept hs h) ≡ b → kept (cond b (put hs h (one_back in_tran h (kept hs h))) hs) x ≡ cond (is_same x h) (back_at in_tran x (kept hs x)) (kept hs x)
    by true e = kept_put hs h x (one_back in_tran h (kept hs h)) ∙ at (is_same x h) _ _ refl (λ same. sym (ap (λ y. back_at in_tran y (kept hs y)) same ∙ ap (λ b. cond b (one_back in_tran h (kept hs h)) (kept hs h)) e))
    by false e = unchanged (is_same x h) (kept hs x) _ refl (λ same. ap (kept hs) same ∙ sym (ap (λ y. back_at in_tran y (kept hs y)) same ∙ ap (λ b. cond b (one_back in_tran h (kept hs h)) (kept hs h)) e))

pub kept_all_given_back : (hs : Holds) (p : Pid) (o : Owner) (in_tran : Bool) (x : Hold) → kept (all_given_back hs p o in_tran) x ≡ all_back p o in_tran x (kept hs x)
unfolding all_given_back
kept_all_given_back hs p o in_tran x = kept_changed (all_back p o in_tran) hs x (idle (is_of p o x))
  where
    idle : (b : Bool) → cond (b && false) (lowered (stays in_tran x) 0 unheld) unheld ≡ unheld
    idle true = refl
    idle false = refl

pub kept_tran_ended : (hs : Holds) (p : Pid) (x : Hold) → kept (tran_ended hs p) x ≡ without_end p x (kept hs x)
unfolding tran_ended
kept_tran_ended hs p x = kept_changed (without_end p) hs x (idle (x.pid.0 == p.0))
  where
    idle : (b : Bool) → cond b unheld unheld ≡ unheld
    idle true = refl
    idle false = refl

pub kept_all_dropped : (hs : Holds) (p : Pid) (x : Hold) → kept (all_dropped hs p) x ≡ cond (x.pid.0 == p.0) unheld (kept hs x)
unfolding all_dropped
kept_all_dropped hs p x = ap (λ v. unwrap_or v unheld) (get-dropped hs (λ h. not (h.pid.0 == p.0)) x) ∙ by (x.pid.0 == p.0)
  where
    by : (b : Bool) → unwrap_or (cond (not b) (get hs x) None) unheld ≡ cond b unheld (kept hs x)
    by true = refl
    by false = refl
