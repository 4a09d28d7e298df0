-- What is known at a commit stays so by the entries of the others.
use Rattle.std.proofs.Common.{◌≡◌, inl, inr, ⊎_elim, ℕ, Bool, true, false, ◌&&◌, ◌||◌, List, [], ◌∷◌, Option, Some, None, refl, sym, ap, ◌∙◌, subst}
use Rattle.std.specs.FinMap.{get}
use Rattle.obj_kinds.specs.declared.node.Node.{Node}
use Rattle.obj_kinds.specs.declared.op.Pid.{Pid}
use Rattle.obj_kinds.specs.declared.op.Op.{Op}
use Rattle.obj_kinds.specs.declared.op.Op.TheVariants.{Commit}
use Rattle.obj_kinds.specs.declared.op.Mode.TheVariants.{Exclusive}
use Rattle.obj_kinds.specs.declared.op.Reply.{Reply}
use Rattle.obj_kinds.specs.declared.op.Reply.TheVariants.{Number}
use Rattle.schema_kinds.specs.declared.class.Class.{Class}
use Rattle.schema_kinds.specs.declared.key.Key.{Key}
use Rattle.schema_kinds.specs.declared.record.Record.{Record}
use Rattle.schema_kinds.specs.Worlds.{Change, apply}
use Rattle.record_layout.specs.Rows.{data_node}
use Rattle.storage_map.specs.SoundWorlds.{HasSide, has_key_node}
use Rattle.storage_map.specs.Keys.{Side, sides_of, target_key}
use Rattle.store_core.specs.Machine.{State, reply}
use Rattle.store_core.specs.Guard.{HoldsToEnd}
use Rattle.store_core.proofs.GuardHolds.{one_holder}
use Rattle.store_calls.specs.Calls.{Tag}
use Rattle.object_calls.specs.Keys.{ManySide}
use Rattle.object_runs.specs.ObjectMachine.{Desk, Desks, desk_at, view, apply_all, with_change, committed, world_after, desks_after}
use Rattle.object_runs.specs.Causes.{Each, uniques_in, sides_in_view, keys_changed, sides_changed}
use Rattle.object_runs.specs.Invariant.{HoldsRow, HoldsShared, changes, some_changes}
use Rattle.sound_runs.specs.Closing.{put_in, has_node_if, stands_by, entry_stands, IsVacant, IsUnnamed, entries_within, Draws, IsDrawn, IsSafeChange}
use Rattle.sound_runs.specs.Laws.{later, desks_later}
use Rattle.sound_runs.specs.Reads.{HoldsSome}
use Rattle.sound_runs.specs.Stays.{IsOthers, HoldsStay, HeldViewsStay, VacantStays, UnnamedStays, SafeStays, NoMembersUnnamed}
use Rattle.sound_runs.proofs.Changes.{not_both, not_true, unchanged, all_unchanged, all_alike}
use Rattle.sound_runs.proofs.Next.{desk_other, other_lists, next_world}
use Rattle.sound_runs.proofs.Apart.{shared_apart}
use Rattle.sound_runs.proofs.Sound.{mine, my_node, put_of}
use Rattle.sound_runs.proofs.Kept.{end_left, shared_left, IsTargeted, fresh_target}
use Rattle.sound_runs.proofs.Viewed.{some_apart, there}
use Rattle.sound_runs.proofs.Carried.{safe_kept}
use Rattle.sound_runs.proofs.Deleted.{no_members_unnamed}

or_none : (a : Bool) → (a || false) ≡ a
or_none true = refl
or_none false = refl

module _ (classes : List Class) (s : State) (o : Desks) (p a : Pid) (op : Op) (tag : Tag) (h : IsOthers classes s o p a op tag) where
  abbrev next : Desks
  next = desks_later s o a op tag

  pub end_stays : (n : Node) → HoldsToEnd s.holds p n → HoldsToEnd (later s a op).holds p n
  end_stays n x = end_left classes s o a h.invariant h.backed op tag h.orderly p n (λ e. absurd (h.another (sym e))) x

  pub shared_stays : (n : Node) → HoldsShared s.holds p n → HoldsShared (later s a op).holds p n
  shared_stays n x = shared_left classes s o a h.invariant h.backed op tag h.orderly p n (λ e. absurd (h.another (sym e))) x

  -- ---- what the commit of the other changes

  -- the world stays, or the other commits its only list
  data Carried : Type 0 where
    Same : next.world ≡ o.world → Carried
    Out : op ≡ Commit → (c : Change) → with_change tag (desk_at o a.0).lists ≡ c ∷ [] → next.world ≡ apply c o.world → Carried

  carried : Carried
  carried = by op (reply s a op) refl (next_world o a.0 op (reply s a op) tag)
    where
      out : op ≡ Commit → (ms : List Change) → with_change tag (desk_at o a.0).lists ≡ ms → (desks_after o a.0 op (reply s a op) tag).world ≡ committed ms o.world → Carried
      out is [] l e = Same e
      out is (c ∷ []) l e = Out is c l e
      out is (c ∷ d ∷ es) l e = Same e

      by : (x : Op) (r : Reply) → op ≡ x → (desks_after o a.0 op (reply s a op) tag).world ≡ world_after x r tag (desk_at o a.0).lists o.world → Carried
      by Commit (Number z) is e = out is (with_change tag (desk_at o a.0).lists) refl e
      by _ r is e = Same e

  -- its rows are its own
  theirs : op ≡ Commit → (c : Change) → with_change tag (desk_at o a.0).lists ≡ c ∷ [] → (k : Key) → changes c k ≡ true → HoldsRow s.holds a k
  theirs is c only k e = mine classes s o a h.invariant h.backed op tag h.orderly is k (ap (λ cs. some_changes cs k) only ∙ or_none (changes c k) ∙ e)

  same_lists : (desk_at next p.0).lists ≡ (desk_at o p.0).lists
  same_lists = other_lists o a.0 op (reply s a op) tag p.0 (λ e. h.another (sym e))

  -- the view then, by the world then
  view_then : view next p.0 ≡ apply_all (desk_at o p.0).lists next.world
  view_then = ap (λ cs. apply_all cs next.world) same_lists

  world_kept : (k : Key) → HoldsSome s.holds p (data_node k) → get next.world k ≡ get o.world k
  world_kept k x = by carried
    where
      by : Carried → get next.world k ≡ get o.world k
      by (Same e) = ap (λ w. get w k) e
      by (Out is c only e) = ap (λ w. get w k) e ∙ unchanged c o.world k (not_true (changes c k) (λ f. h.another (some_apart s.holds p a (data_node k) h.invariant.rows.free x (theirs is c only k f))))

  pub view_kept : (k : Key) → HoldsSome s.holds p (data_node k) → get (view next p.0) k ≡ get (view o p.0) k
  view_kept k x = ap (λ w. get w k) view_then ∙ all_alike (desk_at o p.0).lists o.world next.world k (world_kept k x)

  pub row_some : (k : Key) → HoldsRow s.holds p k → HoldsSome s.holds p (data_node k)
  row_some k x = (Exclusive, x.0, there s.holds p (data_node k) x)

  -- ---- a key node that is held

  -- nobody has the node anew
  gains : (k : Key) (n : Node) → HoldsToEnd s.holds p n → has_node_if classes k (get (view next p.0) k) n ≡ true → has_node_if classes k (get (view o p.0) k) n ≡ true
  gains k n x e = by (some_changes (desk_at o p.0).lists k) refl
    where
      by : (b : Bool) → some_changes (desk_at o p.0).lists k ≡ b → has_node_if classes k (get (view o p.0) k) n ≡ true
      by true f = ap (λ y. has_node_if classes k y n) (sym (view_kept k (row_some k (h.invariant.pending p k f)))) ∙ e
      by false f = ap (λ y. has_node_if classes k y n) (all_unchanged (desk_at o p.0).lists o.world k f) ∙ at carried
        where
          now : has_node_if classes k (get next.world k) n ≡ true
          now = ap (λ y. has_node_if classes k y n) (sym (ap (λ w. get w k) view_then ∙ all_unchanged (desk_at o p.0).lists next.world k f)) ∙ e

          out : op ≡ Commit → (c : Change) → with_change tag (desk_at o a.0).lists ≡ c ∷ [] → has_node_if classes k (get (apply c o.world) k) n ≡ true → (d : Bool) → changes c k ≡ d → (g : Bool) → has_node_if classes k (get o.world k) n ≡ g
              → has_node_if classes k (get o.world k) n ≡ true
          out is c only i d j true l = l
          out is c only i false j false l = ap (λ y. has_node_if classes k y n) (sym (unchanged c o.world k j)) ∙ i
          out is c only i true j false l =
              absurd (h.another (one_holder s.holds a p n h.invariant.rows.free
              (my_node classes s o a h.invariant h.backed op tag h.orderly is c only p.0 (λ q. h.another (sym q)) (desk_at o p.0).lists ([], refl) k n j i l) x))

          at : Carried → has_node_if classes k (get o.world k) n ≡ true
          at (Same i) = ap (λ w. has_node_if classes k (get w k) n) (sym i) ∙ now
          at (Out is c only i) = out is c only (ap (λ w. has_node_if classes k (get w k) n) (sym i) ∙ now) (changes c k) refl (has_node_if classes k (get o.world k) n) refl

  pub vacant_kept : (front : Change) (key : Key) (back : Change) (n : Node) → HoldsToEnd s.holds p n → IsVacant classes (view o p.0) front key back n → IsVacant classes (view next p.0) front key back n
  vacant_kept front key back n x v id ne = not_true (entry_stands classes (view next p.0) front back (record { extent = key.extent; id = id }) n) (λ e. not_both (before (record { extent = key.extent; id = id }) e) (v id ne))
    where
      both : (i j k l : Bool) → (i ≡ true → k ≡ true) → (i && j) ≡ true → (k && j) ≡ true
      both true j k l f e = ap (λ y. y && j) (f refl) ∙ e
      both false j k l f e = absurd (cc e)

      by : (k : Key) (y z : Option Record) → stands_by classes y z (get (view next p.0) k) k n ≡ true → stands_by classes y z (get (view o p.0) k) k n ≡ true
      by k (Some q) z e = e
      by k None (Some q) e = both (has_node_if classes k (get (view next p.0) k) n) (has_key_node classes k q n) (has_node_if classes k (get (view o p.0) k) n) true (λ f. gains k n x f) e
      by k None None e = gains k n x e

      before : (k : Key) → entry_stands classes (view next p.0) front back k n ≡ true → entry_stands classes (view o p.0) front back k n ≡ true
      before k e = by k (put_in front k) (put_in back k) e

  -- ---- a key whose row is held

  targeted : (key k : Key) (u : Side) (id : List ℕ) → HoldsRow s.holds p key → target_key classes u.class id ≡ key → IsTargeted classes s o a h.invariant h.backed op tag h.orderly s o a k u id
      → (old : Record) × (get o.world k ≡ Some old) × HasSide u (sides_of classes old)
  targeted key k u id row is (inl x) = absurd (h.another (shared_apart s.holds a p (data_node key) h.invariant.rows.free (subst (λ y. HoldsShared s.holds a (data_node y)) is x) row))
  targeted key k u id row is (inr (inl x)) = absurd (h.another (one_holder s.holds a p (data_node key) h.invariant.rows.free (subst (HoldsRow s.holds a) is (h.invariant.pending a (target_key classes u.class id) x)) row))
  targeted key k u id row is (inr (inr x)) = x

  pub unnamed_kept : (key : Key) (m : ManySide) → HoldsRow s.holds p key → IsUnnamed classes (view o p.0) key m → IsUnnamed classes (view next p.0) key m
  unnamed_kept key m row none k r u id e has t extent name is = by (some_changes (desk_at o p.0).lists k) refl
    where
      by : (b : Bool) → some_changes (desk_at o p.0).lists k ≡ b → ⊥
      by true f = none k r u id (sym (view_kept k (row_some k (h.invariant.pending p k f))) ∙ e) has t extent name is
      by false f = at carried
        where
          now : get next.world k ≡ Some r
          now = sym (ap (λ w. get w k) view_then ∙ all_unchanged (desk_at o p.0).lists next.world k f) ∙ e

          old_named : (old : Record) → get o.world k ≡ Some old → HasSide u (sides_of classes old) → ⊥
          old_named old g x = none k old u id (all_unchanged (desk_at o p.0).lists o.world k f ∙ g) x t extent name is

          put : op ≡ Commit → (c : Change) (only : with_change tag (desk_at o a.0).lists ≡ c ∷ []) → get (apply c o.world) k ≡ Some r → changes c k ≡ true → ⊥
          put commits c only g j =
              let old = targeted key k u id row is (⊎_elim
              (λ x. h.invariant.targets a k r u id x has t)
              (λ x. fresh_target classes s o a h.invariant h.backed op tag h.orderly x.0 k r u id x.1 commits x.2 has t)
              (put_of classes s o a h.invariant h.backed op tag h.orderly commits c only p.0 (λ q. h.another (sym q)) (desk_at o p.0).lists ([], refl) k r j g)) in
              old_named old.0 old.1 old.2

          out : op ≡ Commit → (c : Change) → with_change tag (desk_at o a.0).lists ≡ c ∷ [] → get (apply c o.world) k ≡ Some r → (d : Bool) → changes c k ≡ d → ⊥
          out commits c only g false j = old_named r (sym (unchanged c o.world k j) ∙ g) has
          out commits c only g true j = put commits c only g j

          at : Carried → ⊥
          at (Same g) = old_named r (ap (λ w. get w k) (sym g) ∙ now) has
          at (Out commits c only g) = out commits c only (ap (λ w. get w k) (sym g) ∙ now) (changes c k) refl

  -- ---- draws

  pub drawn_kept : (key : Key) → IsDrawn o p.0 key → IsDrawn next p.0 key
  drawn_kept key d = subst (λ (x : Desk). (e : Rattle.object_runs.specs.ObjectMachine.Own) × Rattle.object_runs.specs.Causes.Has e (entries_within x.within x.own) × Draws key e) (sym (desk_other o a.0 op (reply s a op) tag p.0 (λ e. h.another (sym e)))) d

  -- ---- the whole

  pub safe_then : (change : Change) → IsSafeChange classes s o p change → IsSafeChange classes (later s a op) next p change
  safe_then change x =
      safe_kept classes s (later s a op) o next p end_stays shared_stays view_kept vacant_kept unnamed_kept drawn_kept change x

pub holds_stay : HoldsStay
holds_stay classes s o p a op tag n h = (end_stays classes s o p a op tag h n, shared_stays classes s o p a op tag h n)

pub held_views_stay : HeldViewsStay
held_views_stay classes s o p a op tag key h x = view_kept classes s o p a op tag h key x

pub vacant_stays : VacantStays
vacant_stays classes s o p a op tag front key back n h x v = vacant_kept classes s o p a op tag h front key back n x v

pub unnamed_stays : UnnamedStays
unnamed_stays classes s o p a op tag key m h row x = unnamed_kept classes s o p a op tag h key m row x

pub safe_stays : SafeStays
safe_stays classes s o p a op tag change h x = safe_then classes s o p a op tag h change x

pub no_members_leave_unnamed : NoMembersUnnamed
no_members_leave_unnamed classes v key m none = no_members_unnamed classes v key m none
