-- The targets, members' nodes and key nodes of what is pending stay held.
use Rattle.std.proofs.Common.{◌≡◌, ◌≢◌, ◌⊎◌, inl, inr, ⊎_elim, ℕ, Bool, true, false, not, ◌&&◌, ◌||◌, List, [], ◌∷◌, length, Option, Some, None, refl, sym, ap, ◌∙◌, subst, arith}
use Rattle.std.specs.FinMap.{get}
use Rattle.obj_kinds.specs.declared.node.Node.{Node}
use Rattle.obj_kinds.specs.declared.op.Pid.{Pid}
use Rattle.obj_kinds.specs.declared.op.Op.{Op}
use Rattle.obj_kinds.specs.declared.op.Op.TheVariants.{Commit, End}
use Rattle.obj_kinds.specs.declared.op.Mode.TheVariants.{Shared, Exclusive}
use Rattle.obj_kinds.specs.declared.op.Reply.{Reply}
use Rattle.obj_kinds.specs.declared.op.Reply.TheVariants.{Number}
use Rattle.schema_kinds.specs.declared.class.Class.{Class}
use Rattle.schema_kinds.specs.declared.key.Key.{Key}
use Rattle.schema_kinds.specs.declared.record.Record.{Record}
use Rattle.schema_kinds.specs.declared.record.Part.{Part}
use Rattle.schema_kinds.specs.declared.record.Part.TheVariants.{Put, Del}
use Rattle.schema_kinds.specs.Worlds.{Change, apply}
use Rattle.record_layout.specs.Rows.{data_node}
use Rattle.storage_map.specs.SoundWorlds.{HasSide, has_key_node}
use Rattle.storage_map.specs.Keys.{Side, sides_of, target_key}
use Rattle.lock_table.specs.declared.hold.Hold.{Hold}
use Rattle.lock_table.specs.Holds.{hold, kept}
use Rattle.tran_log.specs.Levels.{Levels}
use Rattle.store_core.specs.Machine.{State, levels_at, is_open, after, reply}
use Rattle.store_core.specs.Guard.{HoldsToEnd, ends}
use Rattle.store_core.proofs.GuardLaws.{end_stays}
use Rattle.store_core.proofs.GuardHolds.{one_holder}
use Rattle.store_calls.specs.Calls.{Tag, Closes}
use Rattle.object_calls.specs.Keys.{MovedKey, MovedSide, ManySide, many_sides, members_node}
use Rattle.object_runs.specs.ObjectMachine.{Desks, desk_at, view, with_change, joined, committed, lists_after, world_after, desks_after}
use Rattle.object_runs.specs.Causes.{Has, keys_changed, sides_in_view, sides_changed}
use Rattle.object_runs.specs.Invariant.{HoldsRow, HoldsShared, changes, some_changes, IsPending, Present, IsInvariant}
use Rattle.sound_runs.specs.Closing.{has_node_if, IsTakenNode, IsMetTarget, IsSafePut, AreDistinct, AreSafe, IsSafeDelete, HasNoMembers, IsSafeChange, Saves, Deletes}
use Rattle.sound_runs.specs.Backed.{IsBacked, IsOrderly}
use Rattle.sound_runs.proofs.Changes.{unchanged, all_unchanged, all_was_put, has_changed, pending_changed}
use Rattle.sound_runs.proofs.Puts.{IsPut, IsMoved, each_has, moved_node}
use Rattle.sound_runs.proofs.Sides.{SideComes, Moves, Stays, Empty}
use Rattle.sound_runs.proofs.Saved.{all_put, put_safe, put_side}
use Rattle.sound_runs.proofs.Next.{own_lists, other_lists, next_world, same_or, Pends, Before, Added, pending_next}
use Rattle.sound_runs.proofs.Sound.{change_held, view_possible, unborn, mine}

-- what is pending stands in some list
some_list : (cs : List Change) (x : Part) → IsPending cs x → length cs ≡ 0 → ⊥
some_list [] x h e = h
some_list (c ∷ cs) x h e = omega arith

open_levels : (ls : Levels) → (length ls ≡ 0 → ⊥) → is_open ls ≡ true
open_levels [] h = absurd (h refl)
open_levels (l ∷ ls) h = refl

-- where a list is left, no process ends and no transaction does
not_ended : (op : Op) (ls later : Levels) → is_open later ≡ true → (op ≡ End → ⊥) → ends op ls later ≡ false
not_ended End ls later e ne = absurd (ne refl)
not_ended _ ls later e ne = ap (λ b. is_open ls && not b) e ∙ never (is_open ls)
  where
    never : (b : Bool) → (b && false) ≡ false
    never true = refl
    never false = refl

module _ (classes : List Class) (s : State) (o : Desks) (p : Pid) (inv : IsInvariant classes s o) (backed : IsBacked classes s o) (op : Op) (tag : Tag) (orderly : IsOrderly classes s o p op tag) where
  abbrev later : State
  later = after s p op

  abbrev next : Desks
  next = desks_after o p.0 op (reply s p op) tag

  -- ---- holds

  hold_stays : (h : Hold) → (kept s.holds h).to_end ≡ true → (h.pid.0 ≡ p.0 → (x : Part) × IsPending (desk_at next p.0).lists x) → (kept later.holds h).to_end ≡ true
  hold_stays h e own = end_stays s p op h e (λ is. stays (own is))
    where
      no_end : (x : Op) (r : Reply) → x ≡ End → (y : Part) → IsPending (lists_after x r tag (desk_at o p.0).lists) y → ⊥
      no_end End r is y h = h
      no_end _ r is y h = cc is

      stays : (x : Part) × IsPending (desk_at next p.0).lists x → ends op (levels_at s p.0) (levels_at (after s p op) p.0) ≡ false
      stays x =
          not_ended op (levels_at s p.0) (levels_at (after s p op) p.0)
          (open_levels (levels_at (after s p op) p.0) (λ e. some_list (desk_at next p.0).lists x.0 x.1 (sym orderly.aligned ∙ e)))
          (λ is. no_end op (reply s p op) is x.0 (subst (λ cs. IsPending cs x.0) (own_lists o p.0 op (reply s p op) tag) x.1))

  abbrev IsLeft : Pid → Type 0
  IsLeft q = q.0 ≡ p.0 → (x : Part) × IsPending (desk_at next p.0).lists x

  pub end_left : (q : Pid) (n : Node) → IsLeft q → HoldsToEnd s.holds q n → HoldsToEnd later.holds q n
  end_left q n left h = (h.0, hold_stays (hold q n Exclusive h.0) h.1 left)

  pub shared_left : (q : Pid) (n : Node) → IsLeft q → HoldsShared s.holds q n → HoldsShared later.holds q n
  shared_left q n left (inl h) = inl (end_left q n left h)
  shared_left q n left (inr h) = inr (h.0, hold_stays (hold q n Shared h.0) h.1 left)

  -- ---- the world

  -- where a list is left, no world is carried out
  own_world : (x : Op) (r : Reply) (y : Part) → IsPending (lists_after x r tag (desk_at o p.0).lists) y → world_after x r tag (desk_at o p.0).lists o.world ≡ o.world
  own_world Commit (Number z) y h = by (with_change tag (desk_at o p.0).lists) h
    where
      by : (ms : List Change) → IsPending (joined ms) y → committed ms o.world ≡ o.world
      by [] h = absurd h
      by (c ∷ []) h = absurd h
      by (c ∷ d ∷ es) h = refl
  own_world _ r y h = refl

  pub world_left : (x : Part) → IsPending (desk_at next p.0).lists x → next.world ≡ o.world
  world_left x h = next_world o p.0 op (reply s p op) tag ∙ own_world op (reply s p op) x (subst (λ cs. IsPending cs x) (own_lists o p.0 op (reply s p op) tag) h)

  -- what another process changes stays in the world
  pub others_left : (q : Pid) → q.0 ≢ p.0 → (k : Key) → some_changes (desk_at o q.0).lists k ≡ true → get next.world k ≡ get o.world k
  others_left q ne k e = ap (λ w. get w k) (next_world o p.0 op (reply s p op) tag) ∙ by op (reply s p op) refl
    where
      out : op ≡ Commit → (ms : List Change) → with_change tag (desk_at o p.0).lists ≡ ms → get (committed ms o.world) k ≡ get o.world k
      out is [] l = refl
      out is (c ∷ []) l = at (changes c k) refl
        where
          or_none : (a : Bool) → (a || false) ≡ a
          or_none true = refl
          or_none false = refl

          at : (b : Bool) → changes c k ≡ b → get (apply c o.world) k ≡ get o.world k
          at false f = unchanged c o.world k f
          at true f =
              absurd (ne (one_holder s.holds q p (data_node k) inv.rows.free (inv.pending q k e)
              (mine classes s o p inv backed op tag orderly is k (ap (λ cs. some_changes cs k) l ∙ or_none (changes c k) ∙ f))))
      out is (c ∷ d ∷ es) l = refl

      by : (x : Op) (r : Reply) → op ≡ x → get (world_after x r tag (desk_at o p.0).lists o.world) k ≡ get o.world k
      by Commit (Number z) is = out is (with_change tag (desk_at o p.0).lists) refl
      by _ r is = refl

  -- ---- targets

  abbrev pub IsTargeted : State → Desks → Pid → Key → Side → List ℕ → Type 0
  IsTargeted t d q k u id =
      HoldsShared t.holds q (data_node (target_key classes u.class id)) ⊎ (some_changes (desk_at d q.0).lists (target_key classes u.class id) ≡ true)
      ⊎ ((old : Record) × (get d.world k ≡ Some old) × HasSide u (sides_of classes old))

  other_target : (q : Pid) → q.0 ≢ p.0 → (k : Key) (u : Side) (id : List ℕ) → some_changes (desk_at o q.0).lists k ≡ true → IsTargeted s o q k u id → IsTargeted later next q k u id
  other_target q ne k u id e (inl h) = inl (shared_left q (data_node (target_key classes u.class id)) (λ is. absurd (ne is)) h)
  other_target q ne k u id e (inr (inl h)) = inr (inl (ap (λ cs. some_changes cs (target_key classes u.class id)) (other_lists o p.0 op (reply s p op) tag q.0 ne) ∙ h))
  other_target q ne k u id e (inr (inr h)) = inr (inr (h.0, others_left q ne k e ∙ h.1, h.2))

  own_target : (q : Pid) → q.0 ≡ p.0 → (x : Part) → IsPending (desk_at next p.0).lists x → (k : Key) (u : Side) (id : List ℕ) → IsTargeted s o p k u id → IsTargeted later next q k u id
  own_target q is x left k u id (inl h) = inl (subst (λ y. HoldsShared later.holds y (data_node (target_key classes u.class id))) (one_pid is) (shared_left p (data_node (target_key classes u.class id)) (λ _. (x, left)) h))
    where
      one_pid : q.0 ≡ p.0 → p ≡ q
      one_pid e = λ i. record { 0 = sym e i }
  own_target q is x left k u id (inr (inl h)) =
      inl (subst (λ y. HoldsShared later.holds y (data_node (target_key classes u.class id))) (one_pid is) (shared_left p (data_node (target_key classes u.class id)) (λ _. (x, left)) (inl (inv.pending p (target_key classes u.class id) h))))
    where
      one_pid : q.0 ≡ p.0 → p ≡ q
      one_pid e = λ i. record { 0 = sym e i }
  own_target q is x left k u id (inr (inr h)) = inr (inr (h.0, ap (λ w. get w k) (world_left x left) ∙ h.1, h.2))

  -- a put of a change that has just been made
  fresh_put : (change : Change) (k : Key) (r : Record) → tag ≡ Closes change → op ≡ Commit → Has (Put k r) change
      → (f : Change) × (b : Change) × AreDistinct change × AreSafe classes s o p change [] change × IsSafePut classes s o p change f k r b
  fresh_put change k r is c has = by (orderly.safe change is c)
    where
      none : {A : Type 0} (key : Key) → Has (Put k r) (Del key ∷ []) → A
      none key (inl e) = absurd (cc e)
      none key (inr e) = absurd e

      by : IsSafeChange classes s o p change → (f : Change) × (b : Change) × AreDistinct change × AreSafe classes s o p change [] change × IsSafePut classes s o p change f k r b
      by (Saves distinct safe) = let at = put_safe classes s o p change distinct safe k r has in (at.0, at.1, distinct, safe, at.2)
      by (Deletes key e safe) = none key (subst (Has (Put k r)) e has)

  -- what the view has of a key is pending, or stands in the world
  pub of_view : (k : Key) (q : Record) → get (view o p.0) k ≡ Some q → IsPending (desk_at o p.0).lists (Put k q) ⊎ (get o.world k ≡ Some q)
  of_view k q e = by (some_changes (desk_at o p.0).lists k) refl
    where
      by : (b : Bool) → some_changes (desk_at o p.0).lists k ≡ b → IsPending (desk_at o p.0).lists (Put k q) ⊎ (get o.world k ≡ Some q)
      by true f = inl (all_was_put (desk_at o p.0).lists o.world k q f e)
      by false f = inr (sym (all_unchanged (desk_at o p.0).lists o.world k f) ∙ e)

  pub fresh_target : (change : Change) (k : Key) (r : Record) (u : Side) (id : List ℕ) → tag ≡ Closes change → op ≡ Commit → Has (Put k r) change → HasSide u (sides_of classes r) → u.target ≡ Some id → IsTargeted s o p k u id
  fresh_target change k r u id is c has side t =
      let at = fresh_put change k r is c has in
      of_side at.0 at.1 at.4 (put_side classes s o p change at.2 at.3 (inv.sound (view o p.0) (view_possible classes s o p inv backed op tag orderly)) (unborn classes s o p inv backed op tag orderly) k r u at.0 at.1 at.4 side)
    where
      moved : (m : MovedSide) (y : Option (List ℕ)) → m.class ≡ u.class → y ≡ Some id → IsMetTarget classes s o p change m y → IsTargeted s o p k u id
      moved m None g h x = absurd (cc h)
      moved m (Some i) g h (inl x) =
          inl (inl (subst (HoldsRow s.holds p) (same g h) (change_held classes s o p change (target_key classes m.class i) (orderly.safe change is c) (has_changed change (Put (target_key classes m.class i) x.0) x.1))))
        where
          same : m.class ≡ u.class → Some i ≡ Some id → target_key classes m.class i ≡ target_key classes u.class id
          same g h = cc (g, h)
      moved m (Some i) g h (inr x) = inl (subst (λ y. HoldsShared s.holds p (data_node y)) (same g h) x.3)
        where
          same : m.class ≡ u.class → Some i ≡ Some id → target_key classes m.class i ≡ target_key classes u.class id
          same g h = cc (g, h)

      stayed : (x : Option Record) → get (view o p.0) k ≡ x → HasSide u (sides_in_view classes x) → IsTargeted s o p k u id
      stayed None e h = absurd h
      stayed (Some q) e h = ⊎_elim (λ y. inv.targets p k q u id y h t) (λ y. inr (inr (q, y, h))) (of_view k q e)

      of_side : (f b : Change) → IsSafePut classes s o p change f k r b → SideComes (sides_in_view classes (get (view o p.0) k)) (sides_changed classes (view o p.0) k r) u → IsTargeted s o p k u id
      of_side f b at (Moves m h g i) = moved m m.new g (i ∙ t) (each_has (λ (m : MovedSide). IsMetTarget classes s o p change m m.new) (sides_changed classes (view o p.0) k r) m at.sides h)
      of_side f b at (Stays h) = stayed (get (view o p.0) k) refl h
      of_side f b at (Empty h) = absurd (cc (sym h ∙ t))

  pub targets_then : (q : Pid) (k : Key) (r : Record) (u : Side) (id : List ℕ) → IsPending (desk_at next q.0).lists (Put k r) → HasSide u (sides_of classes r) → u.target ≡ Some id → IsTargeted later next q k u id
  targets_then q k r u id h side t = ⊎_elim (λ is. own is (subst (λ x. IsPending (desk_at next x).lists (Put k r)) is h)) (λ ne. other ne) (same_or q.0 p.0)
    where
      own : q.0 ≡ p.0 → IsPending (desk_at next p.0).lists (Put k r) → IsTargeted later next q k u id
      own is left = own_target q is (Put k r) left k u id (by (pending_next o p op (reply s p op) tag (Put k r) left))
        where
          by : Pends o p op tag (Put k r) → IsTargeted s o p k u id
          by (Before g) = inv.targets p k r u id g side t
          by (Added change e c has) = fresh_target change k r u id e c has side t

      other : q.0 ≢ p.0 → IsTargeted later next q k u id
      other ne =
          let was = subst (λ cs. IsPending cs (Put k r)) (other_lists o p.0 op (reply s p op) tag q.0 ne) h in
          other_target q ne k u id (pending_changed (desk_at o q.0).lists (Put k r) was) (inv.targets q k r u id was side t)

  -- ---- nodes of unique keys

  abbrev HasNodeHeld : State → Desks → Pid → Key → Node → Type 0
  HasNodeHeld t d q k n = HoldsToEnd t.holds q n ⊎ ((old : Record) × (get d.world k ≡ Some old) × (has_key_node classes k old n ≡ true))

  fresh_node : (change : Change) (k : Key) (r : Record) (n : Node) → tag ≡ Closes change → op ≡ Commit → Has (Put k r) change → has_key_node classes k r n ≡ true → HasNodeHeld s o p k n
  fresh_node change k r n is c has e =
      let at = fresh_put change k r is c has in
      ⊎_elim (λ m. inl (taken at.0 at.1 at.4 m)) (λ h. had (get (view o p.0) k) refl h) (moved_node classes (view o p.0) change k r n e)
    where
      taken : (f b : Change) → IsSafePut classes s o p change f k r b → IsMoved (keys_changed classes (view o p.0) k r) n → HoldsToEnd s.holds p n
      taken f b at m =
          (subst (IsTakenNode classes s o p f k b) m.2 (each_has (λ (m : MovedKey). IsTakenNode classes s o p f k b m.new) (keys_changed classes (view o p.0) k r) m.0 at.keys m.1)).0

      had : (x : Option Record) → get (view o p.0) k ≡ x → has_node_if classes k x n ≡ true → HasNodeHeld s o p k n
      had None g h = absurd (cc h)
      had (Some q) g h = ⊎_elim (λ y. backed.nodes p k q n y h) (λ y. inr (q, y, h)) (of_view k q g)

  own_node : (q : Pid) → q.0 ≡ p.0 → (x : Part) → IsPending (desk_at next p.0).lists x → (k : Key) (n : Node) → HasNodeHeld s o p k n → HasNodeHeld later next q k n
  own_node q is x left k n (inl h) = inl (subst (λ y. HoldsToEnd later.holds y n) (one_pid is) (end_left p n (λ _. (x, left)) h))
    where
      one_pid : q.0 ≡ p.0 → p ≡ q
      one_pid e = λ i. record { 0 = sym e i }
  own_node q is x left k n (inr h) = inr (h.0, ap (λ w. get w k) (world_left x left) ∙ h.1, h.2)

  other_node : (q : Pid) → q.0 ≢ p.0 → (k : Key) (n : Node) → some_changes (desk_at o q.0).lists k ≡ true → HasNodeHeld s o q k n → HasNodeHeld later next q k n
  other_node q ne k n e (inl h) = inl (end_left q n (λ is. absurd (ne is)) h)
  other_node q ne k n e (inr h) = inr (h.0, others_left q ne k e ∙ h.1, h.2)

  pub nodes_then : (q : Pid) (k : Key) (r : Record) (n : Node) → IsPending (desk_at next q.0).lists (Put k r) → has_key_node classes k r n ≡ true → HasNodeHeld later next q k n
  nodes_then q k r n h e = ⊎_elim (λ is. own is (subst (λ x. IsPending (desk_at next x).lists (Put k r)) is h)) (λ ne. other ne) (same_or q.0 p.0)
    where
      own : q.0 ≡ p.0 → IsPending (desk_at next p.0).lists (Put k r) → HasNodeHeld later next q k n
      own is left = own_node q is (Put k r) left k n (by (pending_next o p op (reply s p op) tag (Put k r) left))
        where
          by : Pends o p op tag (Put k r) → HasNodeHeld s o p k n
          by (Before g) = backed.nodes p k r n g e
          by (Added change f c has) = fresh_node change k r n f c has e

      other : q.0 ≢ p.0 → HasNodeHeld later next q k n
      other ne =
          let was = subst (λ cs. IsPending cs (Put k r)) (other_lists o p.0 op (reply s p op) tag q.0 ne) h in
          other_node q ne k n (pending_changed (desk_at o q.0).lists (Put k r) was) (backed.nodes q k r n was e)

  -- ---- nodes of members

  pub deletes_then : (q : Pid) (k : Key) (r : Record) (m : ManySide) → IsPending (desk_at next q.0).lists (Del k) → get next.world k ≡ Some r → Has m (many_sides classes r.class) → HoldsToEnd later.holds q (members_node classes m k.id)
  deletes_then q k r m h there has = ⊎_elim (λ is. own is (subst (λ x. IsPending (desk_at next x).lists (Del k)) is h)) (λ ne. other ne) (same_or q.0 p.0)
    where
      none : {A : Type 0} (change : Change) → AreSafe classes s o p change [] change → Has (Del k) change → A
      none change safe x = absurd (each_has IsPut change (Del k) (all_put classes s o p change [] change safe) x)

      one_key : (key : Key) → Has (Del k) (Del key ∷ []) → k ≡ key
      one_key key (inl e) = cc e
      one_key key (inr e) = absurd e

      of_delete : (key : Key) → k ≡ key → IsSafeDelete classes s o p key → get o.world k ≡ Some r → HoldsToEnd s.holds p (members_node classes m k.id)
      of_delete key is safe e =
          let class : r.class ≡ safe.object.class =
          inv.classes_agree o.world (view o p.0) key r safe.object (Present refl) (view_possible classes s o p inv backed op tag orderly) (ap (get o.world) (sym is) ∙ e) safe.there in
          subst (λ (x : Key). HoldsToEnd s.holds p (members_node classes m x.id)) (sym is)
          (each_has (HasNoMembers classes s o p key) (many_sides classes safe.object.class) m safe.members (subst (λ c. Has m (many_sides classes c)) class has)).held

      fresh : (change : Change) → tag ≡ Closes change → op ≡ Commit → Has (Del k) change → get o.world k ≡ Some r → HoldsToEnd s.holds p (members_node classes m k.id)
      fresh change e c x there = by (orderly.safe change e c)
        where
          by : IsSafeChange classes s o p change → HoldsToEnd s.holds p (members_node classes m k.id)
          by (Saves distinct safe) = none change safe x
          by (Deletes key is safe) = of_delete key (one_key key (subst (Has (Del k)) is x)) safe there

      own : q.0 ≡ p.0 → IsPending (desk_at next p.0).lists (Del k) → HoldsToEnd later.holds q (members_node classes m k.id)
      own is left = subst (λ y. HoldsToEnd later.holds y (members_node classes m k.id)) (λ i. record { 0 = sym is i }) (end_left p (members_node classes m k.id) (λ _. (Del k, left)) (by (pending_next o p op (reply s p op) tag (Del k) left)))
        where
          was_there : get o.world k ≡ Some r
          was_there = ap (λ w. get w k) (sym (world_left (Del k) left)) ∙ there

          by : Pends o p op tag (Del k) → HoldsToEnd s.holds p (members_node classes m k.id)
          by (Before g) = inv.deletes p k r m g was_there has
          by (Added change e c x) = fresh change e c x was_there

      other : q.0 ≢ p.0 → HoldsToEnd later.holds q (members_node classes m k.id)
      other ne =
          let was = subst (λ cs. IsPending cs (Del k)) (other_lists o p.0 op (reply s p op) tag q.0 ne) h in
          end_left q (members_node classes m k.id) (λ is. absurd (ne is))
          (inv.deletes q k r m was (sym (others_left q ne k (pending_changed (desk_at o q.0).lists (Del k) was)) ∙ there) has)
