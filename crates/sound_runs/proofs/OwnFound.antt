-- What is known stays so by the process's own entries within its save or delete.
use Rattle.std.proofs.Common.{◌≡◌, inl, inr, ℕ, Bool, true, false, not, ◌&&◌, List, [], ◌∷◌, length, Option, Some, is_some, refl, sym, ap, ◌∙◌, subst, arith}
use Rattle.std.specs.FinMap.{get}
use Rattle.obj_kinds.specs.declared.node.Node.{Node}
use Rattle.obj_kinds.specs.declared.op.Pid.{Pid}
use Rattle.obj_kinds.specs.declared.op.Op.{Op}
use Rattle.obj_kinds.specs.declared.op.Op.TheVariants.{Begin, Commit, RollbackOne, RollbackAll, End}
use Rattle.obj_kinds.specs.declared.op.Mode.TheVariants.{Shared, Exclusive}
use Rattle.obj_kinds.specs.declared.op.Reply.{Reply}
use Rattle.schema_kinds.specs.declared.class.Class.{Class}
use Rattle.schema_kinds.specs.declared.key.Key.{Key}
use Rattle.schema_kinds.specs.Worlds.{World, Change}
use Rattle.lock_table.specs.declared.hold.Hold.{Hold}
use Rattle.lock_table.specs.Holds.{hold, kept}
use Rattle.tran_log.specs.Levels.{Levels}
use Rattle.store_core.specs.Machine.{State, levels_at, is_open, after, reply}
use Rattle.store_core.specs.Guard.{HoldsToEnd, ends}
use Rattle.store_core.proofs.GuardLaws.{end_stays}
use Rattle.store_calls.specs.Calls.{Tag, Inside}
use Rattle.object_runs.specs.ObjectMachine.{Own, Within, Desk, Desks, desk_at, view, apply_all, lists_after, world_after, within_after, desk_after, desks_after}
use Rattle.object_runs.specs.Causes.{Has}
use Rattle.object_runs.specs.Invariant.{HoldsShared, IsInvariant}
use Rattle.sound_runs.specs.Closing.{IsVacant, IsUnnamed, entries_within, Draws, IsDrawn, IsSafeChange}
use Rattle.sound_runs.specs.Backed.{IsWithinLevel, IsInPlace, IsOrderly}
use Rattle.sound_runs.specs.Laws.{later, desks_later}
use Rattle.sound_runs.specs.Stays.{OwnKeepsView, OwnHoldsStay, OwnSafeStays}
use Rattle.sound_runs.proofs.Next.{desk_own, own_lists, next_world}
use Rattle.sound_runs.proofs.Carried.{safe_kept}

-- an operation within a level leaves lists and world
lists_stay : (x : Op) (r : Reply) (tag : Tag) (cs : List Change) → IsWithinLevel x → lists_after x r tag cs ≡ cs
lists_stay Begin r tag cs h = absurd h
lists_stay Commit r tag cs h = absurd h
lists_stay RollbackOne r tag cs h = absurd h
lists_stay RollbackAll r tag cs h = absurd h
lists_stay End r tag cs h = absurd h
lists_stay _ r tag cs h = refl

world_stays : (x : Op) (r : Reply) (tag : Tag) (cs : List Change) (w : World) → IsWithinLevel x → world_after x r tag cs w ≡ w
world_stays Commit r tag cs w h = absurd h
world_stays _ r tag cs w h = refl

open_levels : (ls : Levels) (n : ℕ) → length ls ≡ n → (n ≡ 0 → ⊥) → is_open ls ≡ true
open_levels [] n e h = absurd (h (sym e))
open_levels (l ∷ ls) n e h = refl

not_ended : (x : Op) (ls later : Levels) → is_open later ≡ true → IsWithinLevel x → ends x ls later ≡ false
not_ended End ls later e h = absurd h
not_ended _ ls later e h = ap (λ b. is_open ls && not b) e ∙ never (is_open ls)
  where
    never : (b : Bool) → (b && false) ≡ false
    never true = refl
    never false = refl

module _ (classes : List Class) (s : State) (o : Desks) (p : Pid) (op : Op) (tag : Tag) (inv : IsInvariant classes s o) (orderly : IsOrderly classes s o p op tag) (inside : tag ≡ Inside) (level : IsWithinLevel op) where
  abbrev next : Desks
  next = desks_later s o p op tag

  in_save : (x : Op) → IsWithinLevel x → IsInPlace (desk_at o p.0).within x Inside → (b : Within) × ((desk_at o p.0).within ≡ Some b)
  in_save End h place = absurd h
  in_save _ h place = place.0

  saving : (b : Within) × ((desk_at o p.0).within ≡ Some b)
  saving = in_save op level (subst (λ t. IsInPlace (desk_at o p.0).within op t) inside orderly.in_place)

  same_lists : (desk_at next p.0).lists ≡ (desk_at o p.0).lists
  same_lists = own_lists o p.0 op (reply s p op) tag ∙ lists_stay op (reply s p op) tag (desk_at o p.0).lists level

  pub same_view : view next p.0 ≡ view o p.0
  same_view = (λ i. apply_all (same_lists i) next.world) ∙ ap (apply_all (desk_at o p.0).lists) (next_world o p.0 op (reply s p op) tag ∙ world_stays op (reply s p op) tag (desk_at o p.0).lists o.world level)

  -- a level is open, that of the save
  still_open : is_open (levels_at (after s p op) p.0) ≡ true
  still_open = open_levels (levels_at (after s p op) p.0) (length (desk_at next p.0).lists) orderly.aligned some
    where
      some : length (desk_at next p.0).lists ≡ 0 → ⊥
      some e =
          let top = (inv.aligned p).1 (ap is_some saving.1) in
          none top.0 (sym (ap (λ (cs : List Change). length cs) (same_lists ∙ top.1)) ∙ e)
        where
          none : (ds : List Change) → length ([] ∷ ds) ≡ 0 → ⊥
          none ds e = omega arith

  hold_stays : (h : Hold) → (kept s.holds h).to_end ≡ true → (kept (after s p op).holds h).to_end ≡ true
  hold_stays h e = end_stays s p op h e (λ is. not_ended op (levels_at s p.0) (levels_at (after s p op) p.0) still_open level)

  pub end_kept : (n : Node) → HoldsToEnd s.holds p n → HoldsToEnd (after s p op).holds p n
  end_kept n h = (h.0, hold_stays (hold p n Exclusive h.0) h.1)

  pub shared_kept : (n : Node) → HoldsShared s.holds p n → HoldsShared (after s p op).holds p n
  shared_kept n (inl h) = inl (end_kept n h)
  shared_kept n (inr h) = inr (h.0, hold_stays (hold p n Shared h.0) h.1)

  -- ---- draws

  within_then : (x : Op) (r : Reply) → IsWithinLevel x → within_after x r Inside (desk_at o p.0).lists (desk_at o p.0).within ≡ Some (record { before = saving.0.before; asked = x ∷ saving.0.asked })
  within_then x r h = by x h ∙ ap (λ w. Rattle.object_runs.specs.ObjectMachine.one_more x w) saving.1
    where
      by : (x : Op) → IsWithinLevel x → within_after x r Inside (desk_at o p.0).lists (desk_at o p.0).within ≡ Rattle.object_runs.specs.ObjectMachine.one_more x (desk_at o p.0).within
      by End h = absurd h
      by _ h = refl

  abbrev newest : Own
  newest = record { op = op; reply = reply s p op; view = apply_all (desk_at o p.0).lists o.world }

  abbrev DrawnAt : Key → Option Within → List Own → Type 0
  DrawnAt key w os = (e : Own) × Has e (entries_within w os) × Draws key e

  pub drawn_kept : (key : Key) → IsDrawn o p.0 key → IsDrawn next p.0 key
  unfolding desk_after
  drawn_kept key d =
      let was : DrawnAt key (Some saving.0) (desk_at o p.0).own = subst (λ w. DrawnAt key w (desk_at o p.0).own) saving.1 d in
      let now : DrawnAt key (Some (record { before = saving.0.before; asked = op ∷ saving.0.asked })) (newest ∷ (desk_at o p.0).own) = (was.0, inr was.1, was.2) in
      subst (λ (x : Desk). DrawnAt key x.within x.own) (sym (desk_own o p.0 op (reply s p op) tag))
      (subst (λ w. DrawnAt key w (newest ∷ (desk_at o p.0).own)) (sym (ap (λ t. within_after op (reply s p op) t (desk_at o p.0).lists (desk_at o p.0).within) inside ∙ within_then op (reply s p op) level)) now)

  pub safe_then : (change : Change) → IsSafeChange classes s o p change → IsSafeChange classes (later s p op) next p change
  safe_then change x =
      safe_kept classes s (later s p op) o next p end_kept shared_kept (λ k h. ap (λ w. get w k) same_view)
      (λ front key back n h v. subst (λ w. IsVacant classes w front key back n) (sym same_view) v)
      (λ key m h u. subst (λ w. IsUnnamed classes w key m) (sym same_view) u)
      drawn_kept change x

pub own_keeps_view : OwnKeepsView
own_keeps_view classes s o p op tag inv orderly inside level = same_view classes s o p op tag inv orderly inside level

pub own_holds_stay : OwnHoldsStay
own_holds_stay classes s o p op tag n inv orderly inside level = (end_kept classes s o p op tag inv orderly inside level n, shared_kept classes s o p op tag inv orderly inside level n)

pub own_safe_stays : OwnSafeStays
own_safe_stays classes s o p op tag change inv orderly inside level x = safe_then classes s o p op tag inv orderly inside level change x
