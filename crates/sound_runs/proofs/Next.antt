-- The worlds that are or may come behind an entry, by those before it.
use Rattle.std.proofs.Common.{◌≡◌, ◌≢◌, ◌⊎◌, inl, inr, ⊎_elim, ℕ, Bool, true, false, List, [], ◌∷◌, ◌++◌, unwrap_or, refl, sym, ap, ◌∙◌, subst, arith}
use Rattle.std.proofs.lemmas.Bool.Decides.{nat_tests}
use Rattle.std.specs.Ordering.{nat_cmp}
use Rattle.std.specs.FinMap.{FinMap, get, insert, gets}
use Rattle.obj_kinds.specs.declared.op.Pid.{Pid}
use Rattle.obj_kinds.specs.declared.op.Op.{Op}
use Rattle.obj_kinds.specs.declared.op.Op.TheVariants.{Begin, Commit, RollbackOne, RollbackAll, End}
use Rattle.obj_kinds.specs.declared.op.Reply.{Reply}
use Rattle.obj_kinds.specs.declared.op.Reply.TheVariants.{Number}
use Rattle.schema_kinds.specs.declared.record.Part.{Part}
use Rattle.schema_kinds.specs.Worlds.{World, Change, apply}
use Rattle.store_calls.specs.Calls.{Tag, Plain, Opens, Inside, Closes, Fails}
use Rattle.object_runs.specs.ObjectMachine.{Desk, Desks, desk_at, clear_desk, apply_all, with_change, joined, committed, without_top, lists_after, world_after, desk_after, desks_after}
use Rattle.object_runs.specs.Invariant.{IsBelowTop, IsPossible, Present, Pending, IsPending}
use Rattle.object_runs.specs.Causes.{Has}
use Rattle.sound_runs.proofs.Changes.{apply-append, has-append}

-- ---- desks

desk_in : (m : FinMap nat_cmp Desk) (p : ℕ) (d e : Desk) → unwrap_or (get (insert m p d) p) e ≡ d
desk_in m p d e = grind (arith, gets, nat_tests)

desk_out : (m : FinMap nat_cmp Desk) (p q : ℕ) (d e : Desk) → q ≢ p → unwrap_or (get (insert m p d) q) e ≡ unwrap_or (get m q) e
desk_out m p q d e ne = grind (arith, gets, nat_tests)

pub desk_own : (o : Desks) (p : ℕ) (op : Op) (r : Reply) (tag : Tag) → desk_at (desks_after o p op r tag) p ≡ desk_after op r tag o.world (desk_at o p)
unfolding desks_after
desk_own o p op r tag = desk_in o.desks p (desk_after op r tag o.world (desk_at o p)) clear_desk

pub desk_other : (o : Desks) (p : ℕ) (op : Op) (r : Reply) (tag : Tag) (q : ℕ) → q ≢ p → desk_at (desks_after o p op r tag) q ≡ desk_at o q
unfolding desks_after
desk_other o p op r tag q ne = desk_out o.desks p q (desk_after op r tag o.world (desk_at o p)) clear_desk ne

pub own_lists : (o : Desks) (p : ℕ) (op : Op) (r : Reply) (tag : Tag) → (desk_at (desks_after o p op r tag) p).lists ≡ lists_after op r tag (desk_at o p).lists
unfolding desk_after
own_lists o p op r tag = ap (λ (d : Desk). d.lists) (desk_own o p op r tag)

pub other_lists : (o : Desks) (p : ℕ) (op : Op) (r : Reply) (tag : Tag) (q : ℕ) → q ≢ p → (desk_at (desks_after o p op r tag) q).lists ≡ (desk_at o q).lists
other_lists o p op r tag q ne = ap (λ (d : Desk). d.lists) (desk_other o p op r tag q ne)

pub next_world : (o : Desks) (p : ℕ) (op : Op) (r : Reply) (tag : Tag) → (desks_after o p op r tag).world ≡ world_after op r tag (desk_at o p).lists o.world
unfolding desks_after
next_world o p op r tag = refl

pub same_or : (p q : ℕ) → (p ≡ q) ⊎ (p ≢ q)
same_or p q = by (Rattle.std.specs.Prelude.nat_eq p q) refl
  where
    by : (b : Bool) → Rattle.std.specs.Prelude.nat_eq p q ≡ b → (p ≡ q) ⊎ (p ≢ q)
    by true e = inl (grind (arith, nat_tests))
    by false e = inr (λ is. grind (arith, nat_tests))

-- ---- lists

-- one list is what ends the other
abbrev pub IsSuffix : List Change → List Change → Type 0
IsSuffix ds cs = (front : List Change) × (cs ≡ front ++ ds)

suffix_nil : (ds : List Change) → IsSuffix ds [] → ds ≡ []
suffix_nil ds s = by s.0 s.1
  where
    by : (front : List Change) → [] ≡ front ++ ds → ds ≡ []
    by [] e = sym e
    by (c ∷ front) e = absurd (cc e)

suffix_cons : (ds : List Change) (c : Change) (cs : List Change) → IsSuffix ds (c ∷ cs) → (ds ≡ c ∷ cs) ⊎ IsSuffix ds cs
suffix_cons ds c cs s = by s.0 s.1
  where
    tails : (f : Change) (front : List Change) → c ∷ cs ≡ f ∷ (front ++ ds) → cs ≡ front ++ ds
    tails f front e = cc e

    by : (front : List Change) → c ∷ cs ≡ front ++ ds → (ds ≡ c ∷ cs) ⊎ IsSuffix ds cs
    by [] e = inl (sym e)
    by (f ∷ front) e = inr (front, tails f front e)

-- the tail of the lists with a change is that of the lists
pub tail_with_change : (tag : Tag) (xs : List Change) (c : Change) (ys : List Change) → with_change tag xs ≡ c ∷ ys → (d : Change) × (xs ≡ d ∷ ys)
tail_with_change (Closes c) [] d ys e = absurd (cc e)
tail_with_change (Closes c) (x ∷ xs) d ys e = (x, ap (λ y. x ∷ y) (tails e))
  where
    tails : (x ++ c) ∷ xs ≡ d ∷ ys → xs ≡ ys
    tails e = cc e
tail_with_change Plain xs d ys e = (d, e)
tail_with_change Opens xs d ys e = (d, e)
tail_with_change Inside xs d ys e = (d, e)
tail_with_change Fails xs d ys e = (d, e)

-- a change that goes to the end of the top list is carried out on the view
pub apply_with_change : (change d : Change) (ds : List Change) (w : World) → apply_all (with_change (Closes change) (d ∷ ds)) w ≡ apply change (apply_all (d ∷ ds) w)
apply_with_change change d ds w = apply-append d change (apply_all ds w)

-- ---- the next worlds

module _ (o : Desks) (p : Pid) where
  abbrev pub lists : List Change
  lists = (desk_at o p.0).lists

  -- it was possible, or it is the view with the change of a commit, or this comes under the lists of another process
  pub data Next (op : Op) (tag : Tag) (w : World) : Type 0 where
    Old : IsPossible o w → Next op tag w
    Closed : op ≡ Commit → w ≡ apply_all (with_change tag (desk_at o p.0).lists) o.world → Next op tag w
    Crossed : op ≡ Commit → (c : Change) → with_change tag (desk_at o p.0).lists ≡ c ∷ [] → (q : ℕ) → q ≢ p.0 → (ds : List Change) → IsBelowTop o q ds
        → w ≡ apply_all ds (apply c o.world) → Next op tag w

  below : (ds : List Change) (w : World) → IsSuffix ds (desk_at o p.0).lists → w ≡ apply_all ds o.world → IsPossible o w
  below ds w suffix e = Pending p.0 ds suffix e

  none : (op : Op) (tag : Tag) (ds : List Change) (w : World) → IsSuffix ds [] → w ≡ apply_all ds o.world → Next op tag w
  none op tag ds w suffix e = Old (Present (e ∙ ap (λ x. apply_all x o.world) (suffix_nil ds suffix)))

  begun : (tag : Tag) (ds : List Change) (w : World) → IsSuffix ds ([] ∷ (desk_at o p.0).lists) → w ≡ apply_all ds o.world → Next Begin tag w
  unfolding apply
  begun tag ds w suffix e =
      ⊎_elim (λ is. Old (below (desk_at o p.0).lists w ([], refl) (e ∙ ap (λ x. apply_all x o.world) is))) (λ g. Old (below ds w g e))
      (suffix_cons ds [] (desk_at o p.0).lists suffix)

  rolled : (xs : List Change) → (desk_at o p.0).lists ≡ xs → (tag : Tag) (ds : List Change) (w : World) → IsSuffix ds (without_top xs) → w ≡ apply_all ds o.world → Next RollbackOne tag w
  rolled [] is tag ds w suffix e = Old (below ds w (suffix.0, is ∙ suffix.1) e)
  rolled (c ∷ xs) is tag ds w suffix e = Old (below ds w (c ∷ suffix.0, is ∙ ap (λ y. c ∷ y) suffix.1) e)

  closed : (tag : Tag) (ms : List Change) → with_change tag (desk_at o p.0).lists ≡ ms → (ds : List Change) (w : World) → IsSuffix ds (joined ms) → w ≡ apply_all ds (committed ms o.world) → Next Commit tag w
  closed tag [] is ds w suffix e = none Commit tag ds w suffix e
  closed tag (c ∷ []) is ds w suffix e = Closed refl (e ∙ ap (λ x. apply_all x (apply c o.world)) (suffix_nil ds suffix) ∙ ap (λ x. apply_all x o.world) (sym is))
  closed tag (c ∷ d ∷ es) is ds w suffix e =
      let tail = tail_with_change tag (desk_at o p.0).lists c (d ∷ es) is in
      ⊎_elim
      (λ g. Closed refl (e ∙ ap (λ x. apply_all x o.world) g ∙ apply-append d c (apply_all es o.world) ∙ ap (λ x. apply_all x o.world) (sym is)))
      (λ g. Old (below ds w (tail.0 ∷ d ∷ g.0, tail.1 ∙ ap (λ y. tail.0 ∷ d ∷ y) g.1) e))
      (suffix_cons ds (d ++ c) es suffix)

  own_next : (op : Op) (r : Reply) (tag : Tag) (ds : List Change) (w : World) → IsSuffix ds (lists_after op r tag (desk_at o p.0).lists)
      → w ≡ apply_all ds (world_after op r tag (desk_at o p.0).lists o.world) → Next op tag w
  own_next Begin (Number z) tag ds w suffix e = begun tag ds w suffix e
  own_next Commit (Number z) tag ds w suffix e = closed tag (with_change tag (desk_at o p.0).lists) refl ds w suffix e
  own_next RollbackOne (Number z) tag ds w suffix e = rolled (desk_at o p.0).lists refl tag ds w suffix e
  own_next RollbackAll r tag ds w suffix e = none RollbackAll tag ds w suffix e
  own_next End r tag ds w suffix e = none End tag ds w suffix e
  own_next _ r tag ds w suffix e = Old (below ds w suffix e)

  other_closed : (tag : Tag) (ms : List Change) → with_change tag (desk_at o p.0).lists ≡ ms → (q : ℕ) → q ≢ p.0 → (ds : List Change) (w : World) → IsBelowTop o q ds → w ≡ apply_all ds (committed ms o.world) → Next Commit tag w
  other_closed tag [] is q ne ds w suffix e = Old (Pending q ds suffix e)
  other_closed tag (c ∷ []) is q ne ds w suffix e = Crossed refl c is q ne ds suffix e
  other_closed tag (c ∷ d ∷ es) is q ne ds w suffix e = Old (Pending q ds suffix e)

  other_next : (op : Op) (r : Reply) (tag : Tag) (q : ℕ) → q ≢ p.0 → (ds : List Change) (w : World) → IsBelowTop o q ds
      → w ≡ apply_all ds (world_after op r tag (desk_at o p.0).lists o.world) → Next op tag w
  other_next Commit (Number z) tag q ne ds w suffix e = other_closed tag (with_change tag (desk_at o p.0).lists) refl q ne ds w suffix e
  other_next _ r tag q ne ds w suffix e = Old (Pending q ds suffix e)

  present_closed : (tag : Tag) (ms : List Change) → with_change tag (desk_at o p.0).lists ≡ ms → (w : World) → w ≡ committed ms o.world → Next Commit tag w
  present_closed tag [] is w e = Old (Present e)
  present_closed tag (c ∷ []) is w e = Closed refl (e ∙ ap (λ x. apply_all x o.world) (sym is))
  present_closed tag (c ∷ d ∷ es) is w e = Old (Present e)

  present_next : (op : Op) (r : Reply) (tag : Tag) (w : World) → w ≡ world_after op r tag (desk_at o p.0).lists o.world → Next op tag w
  present_next Commit (Number z) tag w e = present_closed tag (with_change tag (desk_at o p.0).lists) refl w e
  present_next _ r tag w e = Old (Present e)

  pub next_possible : (op : Op) (r : Reply) (tag : Tag) (w : World) → IsPossible (desks_after o p.0 op r tag) w → Next op tag w
  next_possible op r tag w (Present e) = present_next op r tag w (e ∙ next_world o p.0 op r tag)
  next_possible op r tag w (Pending q ds suffix e) = by (same_or q p.0)
    where
      now : w ≡ apply_all ds (world_after op r tag (desk_at o p.0).lists o.world)
      now = e ∙ ap (apply_all ds) (next_world o p.0 op r tag)

      by : (q ≡ p.0) ⊎ (q ≢ p.0) → Next op tag w
      by (inl is) = own_next op r tag ds w (suffix.0, sym (own_lists o p.0 op r tag) ∙ ap (λ x. (desk_at (desks_after o p.0 op r tag) x).lists) (sym is) ∙ suffix.1) now
      by (inr ne) = other_next op r tag q ne ds w (suffix.0, sym (other_lists o p.0 op r tag q ne) ∙ suffix.1) now

  -- ---- what is pending then

  -- it was pending, or it is of the change
  pub data Pends (op : Op) (tag : Tag) (x : Part) : Type 0 where
    Before : IsPending (desk_at o p.0).lists x → Pends op tag x
    Added : (change : Change) → tag ≡ Closes change → op ≡ Commit → Has x change → Pends op tag x

  pub added : (tag : Tag) (xs : List Change) (x : Part) → IsPending (with_change tag xs) x → IsPending xs x ⊎ ((change : Change) × (tag ≡ Closes change) × Has x change)
  added (Closes c) [] x h = absurd h
  added (Closes c) (d ∷ ds) x (inl h) = by (has-append d c x h)
    where
      by : Has x d ⊎ Has x c → (Has x d ⊎ IsPending ds x) ⊎ ((change : Change) × (Closes c ≡ Closes change) × Has x change)
      by (inl g) = inl (inl g)
      by (inr g) = inr (c, refl, g)
  added (Closes c) (d ∷ ds) x (inr h) = inl (inr h)
  added Plain xs x h = inl h
  added Opens xs x h = inl h
  added Inside xs x h = inl h
  added Fails xs x h = inl h

  joined_pending : (ms : List Change) (x : Part) → IsPending (joined ms) x → IsPending ms x
  joined_pending [] x h = absurd h
  joined_pending (c ∷ []) x h = absurd h
  joined_pending (c ∷ d ∷ es) x (inl h) = by (has-append d c x h)
    where
      by : Has x d ⊎ Has x c → Has x c ⊎ (Has x d ⊎ IsPending es x)
      by (inl g) = inr (inl g)
      by (inr g) = inl g
  joined_pending (c ∷ d ∷ es) x (inr h) = inr (inr h)

  top_pending : (xs : List Change) (x : Part) → IsPending (without_top xs) x → IsPending xs x
  top_pending [] x h = absurd h
  top_pending (c ∷ xs) x h = inr h

  next_pending : (op : Op) (r : Reply) (tag : Tag) (x : Part) → IsPending (lists_after op r tag (desk_at o p.0).lists) x → Pends op tag x
  next_pending Begin (Number z) tag x (inl h) = absurd h
  next_pending Begin (Number z) tag x (inr h) = Before h
  next_pending Commit (Number z) tag x h = ⊎_elim (λ g. Before g) (λ g. Added g.0 g.1 refl g.2) (added tag (desk_at o p.0).lists x (joined_pending (with_change tag (desk_at o p.0).lists) x h))
  next_pending RollbackOne (Number z) tag x h = Before (top_pending (desk_at o p.0).lists x h)
  next_pending RollbackAll r tag x h = absurd h
  next_pending End r tag x h = absurd h
  next_pending _ r tag x h = Before h

  pub pending_next : (op : Op) (r : Reply) (tag : Tag) (x : Part) → IsPending (desk_at (desks_after o p.0 op r tag) p.0).lists x → Pends op tag x
  pending_next op r tag x h = next_pending op r tag x (subst (λ cs. IsPending cs x) (own_lists o p.0 op r tag) h)
