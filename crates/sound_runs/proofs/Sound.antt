-- Every orderly entry leaves all worlds that are or may come sound.
use Rattle.std.proofs.Common.{◌≡◌, ◌≢◌, ◌⊎◌, inl, inr, ⊎_elim, ℕ, Bool, true, false, ◌||◌, List, [], ◌∷◌, ◌++◌, Option, Some, None, is_some, refl, sym, ap, ◌∙◌, subst}
use Rattle.std.specs.FinMap.{get}
use Rattle.obj_kinds.specs.declared.node.Node.{Node}
use Rattle.obj_kinds.specs.declared.op.Pid.{Pid}
use Rattle.obj_kinds.specs.declared.op.Op.{Op}
use Rattle.obj_kinds.specs.declared.op.Op.TheVariants.{Commit}
use Rattle.schema_kinds.specs.declared.class.Class.{Class}
use Rattle.schema_kinds.specs.declared.key.Key.{Key}
use Rattle.schema_kinds.specs.declared.record.Record.{Record}
use Rattle.schema_kinds.specs.declared.record.Part.TheVariants.{Put, Del}
use Rattle.schema_kinds.specs.Worlds.{World, Change, apply}
use Rattle.record_layout.specs.Rows.{data_node}
use Rattle.storage_map.specs.SoundWorlds.{IsSound, HasSide, has_key_node}
use Rattle.storage_map.specs.Keys.{Side, sides_of, target_key}
use Rattle.store_core.specs.Machine.{State, reply}
use Rattle.store_core.specs.Guard.{HoldsToEnd}
use Rattle.store_core.proofs.GuardHolds.{one_holder}
use Rattle.store_calls.specs.Calls.{Tag, Plain, Opens, Inside, Closes, Fails}
use Rattle.object_calls.specs.Keys.{MovedKey, MovedSide}
use Rattle.object_calls.specs.Saves.{is_key}
use Rattle.object_runs.specs.ObjectMachine.{Desks, desk_at, view, apply_all, with_change, desks_after}
use Rattle.object_runs.specs.Causes.{Has, keys_changed, sides_changed, sides_in_view}
use Rattle.object_runs.specs.Invariant.{HoldsRow, HoldsShared, changes, some_changes, IsPending, IsBelowTop, IsPossible, Pending, IsInvariant}
use Rattle.sound_runs.specs.Closing.{has_node_if, AreDistinct, IsDrawn, IsTakenNode, IsMetTarget, IsSafePut, AreSafe, IsSafeChange, Saves, Deletes}
use Rattle.sound_runs.specs.Backed.{IsBacked, IsInPlace, IsOrderly}
use Rattle.sound_runs.specs.Pairs.{ArePaired}
use Rattle.sound_runs.proofs.Changes.{not_both, or_true, key_is, changes-append, unchanged, was_put, all_unchanged, all_alike, all_was_put, has_changed, some_front, pending_front}
use Rattle.sound_runs.proofs.Puts.{IsMoved, each_has, moved_node}
use Rattle.sound_runs.proofs.Sides.{SideComes, Moves, Stays, Empty}
use Rattle.sound_runs.proofs.Saved.{put_safe, put_side, saved_sound}
use Rattle.sound_runs.proofs.Deleted.{deleted_sound}
use Rattle.sound_runs.proofs.Both.{both_sound}
use Rattle.sound_runs.proofs.Apart.{shared_apart}
use Rattle.sound_runs.proofs.Next.{Next, Old, Closed, Crossed, next_possible, apply_with_change, added}

or_none : (a : Bool) → (a || false) ≡ a
or_none true = refl
or_none false = refl

module _ (classes : List Class) (s : State) (o : Desks) (p : Pid) where
  -- the rows of a safe change are held
  rows_held : (change front rest : Change) (k : Key) → AreSafe classes s o p change front rest → changes rest k ≡ true → HoldsRow s.holds p k
  rows_held change front [] k safe e = absurd (cc e)
  rows_held change front (Put j r ∷ rest) k safe e = by (λ f. rows_held change (front ++ Put j r ∷ []) rest k safe.1 f) (or_true (is_key k j) (changes rest k) e)
    where
      by : (changes rest k ≡ true → HoldsRow s.holds p k) → (is_key k j ≡ true) ⊎ (changes rest k ≡ true) → HoldsRow s.holds p k
      by more (inl f) = subst (HoldsRow s.holds p) (sym (key_is k j f)) safe.0.row
      by more (inr f) = more f
  rows_held change front (Del j ∷ rest) k safe e = absurd safe.0

  pub change_held : (change : Change) (k : Key) → IsSafeChange classes s o p change → changes change k ≡ true → HoldsRow s.holds p k
  change_held change k (Saves distinct safe) e = rows_held change [] change k safe e
  change_held change k (Deletes key is safe) e =
      subst (HoldsRow s.holds p) (sym (key_is k key (sym (or_none (is_key k key)) ∙ ap (λ c. changes c k) (sym is) ∙ e))) safe.row

  module _ (inv : IsInvariant classes s o) (backed : IsBacked classes s o) (op : Op) (tag : Tag) (orderly : IsOrderly classes s o p op tag) where
    abbrev marked : List Change
    marked = with_change tag (desk_at o p.0).lists

    pub view_possible : IsPossible o (view o p.0)
    view_possible = Pending p.0 (desk_at o p.0).lists ([], refl) refl

    pub unborn : (k : Key) → IsDrawn o p.0 k → get (view o p.0) k ≡ None
    unborn k d = (backed.drawn p.0 k d).nowhere (view o p.0) view_possible

    -- within a save or delete the top list is empty
    pub top_empty : (change : Change) → tag ≡ Closes change → op ≡ Commit → (ds : List Change) × ((desk_at o p.0).lists ≡ [] ∷ ds)
    top_empty change e f =
        let place = subst (λ t. IsInPlace (desk_at o p.0).within Commit t) e (subst (λ x. IsInPlace (desk_at o p.0).within x tag) f orderly.in_place) in
        (inv.aligned p).1 (ap is_some place.0.1)

    -- the rows of what a commit carries out or joins are held
    pub mine : op ≡ Commit → (k : Key) → some_changes marked k ≡ true → HoldsRow s.holds p k
    mine c k e = by tag refl (desk_at o p.0).lists refl e
      where
        of_change : (change : Change) → tag ≡ Closes change → changes change k ≡ true → HoldsRow s.holds p k
        of_change change is f = change_held change k (orderly.safe change is c) f

        pending : (cs : List Change) → (desk_at o p.0).lists ≡ cs → some_changes cs k ≡ true → HoldsRow s.holds p k
        pending cs is f = inv.pending p k (ap (λ x. some_changes x k) is ∙ f)

        either : (change d : Change) (ds : List Change) → tag ≡ Closes change → (desk_at o p.0).lists ≡ d ∷ ds → (changes (d ++ change) k || some_changes ds k) ≡ true → HoldsRow s.holds p k
        either change d ds is l f = at (or_true (changes (d ++ change) k) (some_changes ds k) f)
          where
            inner : (changes d k ≡ true) ⊎ (changes change k ≡ true) → HoldsRow s.holds p k
            inner (inl g) = pending (d ∷ ds) l (ap (λ b. b || some_changes ds k) g)
            inner (inr g) = of_change change is g

            at : (changes (d ++ change) k ≡ true) ⊎ (some_changes ds k ≡ true) → HoldsRow s.holds p k
            at (inl g) = inner (or_true (changes d k) (changes change k) (sym (changes-append d change k) ∙ g))
            at (inr g) = pending (d ∷ ds) l (some_front (d ∷ []) ds k g)

        by : (t : Tag) → tag ≡ t → (cs : List Change) → (desk_at o p.0).lists ≡ cs → some_changes (with_change t cs) k ≡ true → HoldsRow s.holds p k
        by (Closes change) is [] l f = absurd (cc f)
        by (Closes change) is (d ∷ ds) l f = either change d ds is l f
        by Plain is cs l f = pending cs l f
        by Opens is cs l f = pending cs l f
        by Inside is cs l f = pending cs l f
        by Fails is cs l f = pending cs l f

    -- ---- the view with the change of a commit

    pub change_view : (change : Change) → tag ≡ Closes change → op ≡ Commit → apply_all marked o.world ≡ apply change (view o p.0)
    change_view change e f =
        let top = top_empty change e f in
        ap (λ t. apply_all (with_change t (desk_at o p.0).lists) o.world) e
        ∙ ap (λ cs. apply_all (with_change (Closes change) cs) o.world) top.1
        ∙ apply_with_change change [] top.0 o.world
        ∙ ap (λ cs. apply change (apply_all cs o.world)) (sym top.1)

    -- without a change it is the view
    pub plain_view : (t : Tag) → tag ≡ t → ((change : Change) → t ≢ Closes change) → marked ≡ (desk_at o p.0).lists
    plain_view (Closes change) is ne = absurd (ne change refl)
    plain_view Plain is ne = ap (λ t. with_change t (desk_at o p.0).lists) is
    plain_view Opens is ne = ap (λ t. with_change t (desk_at o p.0).lists) is
    plain_view Inside is ne = ap (λ t. with_change t (desk_at o p.0).lists) is
    plain_view Fails is ne = ap (λ t. with_change t (desk_at o p.0).lists) is

    -- ---- with the lists of another process over it

    module _ (commits : op ≡ Commit) (c : Change) (only : marked ≡ c ∷ []) (q : ℕ) (ne : q ≢ p.0) (ds : List Change) (below : IsBelowTop o q ds) where
      abbrev other : Pid
      other = record { 0 = q }

      mine_c : (k : Key) → changes c k ≡ true → HoldsRow s.holds p k
      mine_c k e = mine commits k (ap (λ cs. some_changes cs k) only ∙ or_none (changes c k) ∙ e)

      theirs : (k : Key) → some_changes ds k ≡ true → HoldsRow s.holds other k
      theirs k e = inv.pending other k (ap (λ cs. some_changes cs k) below.1 ∙ some_front below.0 ds k e)

      pub keys_apart : (k : Key) → changes c k ≡ true → some_changes ds k ≡ true → ⊥
      keys_apart k e f = ne (one_holder s.holds other p (data_node k) inv.rows.free (theirs k f) (mine_c k e))

      -- with a change of its own the process has no other list, so its view is the world
      view_is_world : (change : Change) → tag ≡ Closes change → view o p.0 ≡ o.world
      unfolding apply
      view_is_world change is =
          let top = top_empty change is commits in
          let one : with_change (Closes change) ([] ∷ top.0) ≡ c ∷ [] = ap (with_change (Closes change)) (sym top.1) ∙ ap (λ t. with_change t (desk_at o p.0).lists) (sym is) ∙ only in
          ap (λ cs. apply_all cs o.world) top.1 ∙ ap (λ cs. apply_all ([] ∷ cs) o.world) (rest change top.0 one)
        where
          rest : (change : Change) (cs : List Change) → change ∷ cs ≡ c ∷ [] → cs ≡ []
          rest change cs e = cc e

      pub put_of : (k : Key) (r : Record) → changes c k ≡ true → get (apply c o.world) k ≡ Some r
          → IsPending (desk_at o p.0).lists (Put k r) ⊎ ((change : Change) × (tag ≡ Closes change) × Has (Put k r) change)
      put_of k r e f =
          added o p tag (desk_at o p.0).lists (Put k r) (subst (λ cs. IsPending cs (Put k r)) (sym only) (inl (was_put c o.world k r e f)))

      -- a put of a change that has just been made
      fresh_put : (change : Change) (k : Key) (r : Record) → tag ≡ Closes change → Has (Put k r) change → (f : Change) × (b : Change) × AreDistinct change × AreSafe classes s o p change [] change × IsSafePut classes s o p change f k r b
      fresh_put change k r is has = by (orderly.safe change is commits)
        where
          none : {A : Type 0} (key : Key) → Has (Put k r) (Del key ∷ []) → A
          none key (inl e) = absurd (cc e)
          none key (inr e) = absurd e

          by : IsSafeChange classes s o p change → (f : Change) × (b : Change) × AreDistinct change × AreSafe classes s o p change [] change × IsSafePut classes s o p change f k r b
          by (Saves distinct safe) = let at = put_safe classes s o p change distinct safe k r has in (at.0, at.1, distinct, safe, at.2)
          by (Deletes key e safe) = none key (subst (Has (Put k r)) e has)

      -- a node that the process has anew is held
      pub my_node : (k : Key) (n : Node) → changes c k ≡ true → has_node_if classes k (get (apply c o.world) k) n ≡ true → has_node_if classes k (get o.world k) n ≡ false → HoldsToEnd s.holds p n
      my_node k n e has had = by (get (apply c o.world) k) refl has
        where
          had_before : {A : Type 0} → ((old : Record) × (get o.world k ≡ Some old) × (has_key_node classes k old n ≡ true)) → A
          had_before x = not_both (ap (λ y. has_node_if classes k y n) x.1 ∙ x.2) had

          of_pending : (r : Record) → has_key_node classes k r n ≡ true → IsPending (desk_at o p.0).lists (Put k r) → HoldsToEnd s.holds p n
          of_pending r h x = ⊎_elim (λ y. y) (λ y. had_before y) (backed.nodes p k r n x h)

          taken : (change : Change) (r : Record) (f b : Change) → IsSafePut classes s o p change f k r b → IsMoved (keys_changed classes (view o p.0) k r) n → HoldsToEnd s.holds p n
          taken change r f b at m =
              (subst (IsTakenNode classes s o p f k b) m.2 (each_has (λ (m : MovedKey). IsTakenNode classes s o p f k b m.new) (keys_changed classes (view o p.0) k r) m.0 at.keys m.1)).0

          of_change : (r : Record) → has_key_node classes k r n ≡ true → ((change : Change) × (tag ≡ Closes change) × Has (Put k r) change) → HoldsToEnd s.holds p n
          of_change r h x =
              let at = fresh_put x.0 k r x.1 x.2 in
              ⊎_elim (λ m. taken x.0 r at.0 at.1 at.4 m)
              (λ y. not_both (ap (λ w. has_node_if classes k (get w k) n) (sym (view_is_world x.0 x.1)) ∙ y) had)
              (moved_node classes (view o p.0) x.0 k r n h)

          by : (x : Option Record) → get (apply c o.world) k ≡ x → has_node_if classes k x n ≡ true → HoldsToEnd s.holds p n
          by None f h = absurd (cc h)
          by (Some r) f h = ⊎_elim (λ x. of_pending r h x) (λ x. of_change r h x) (put_of k r e f)

      their_put : (k : Key) (r : Record) → some_changes ds k ≡ true → get (apply_all ds o.world) k ≡ Some r → IsPending (desk_at o q).lists (Put k r)
      their_put k r e f = subst (λ cs. IsPending cs (Put k r)) (sym below.1) (pending_front below.0 ds (Put k r) (all_was_put ds o.world k r e f))

      their_node : (k : Key) (n : Node) → some_changes ds k ≡ true → has_node_if classes k (get (apply_all ds o.world) k) n ≡ true → has_node_if classes k (get o.world k) n ≡ false → HoldsToEnd s.holds other n
      their_node k n e has had = by (get (apply_all ds o.world) k) refl has
        where
          by : (x : Option Record) → get (apply_all ds o.world) k ≡ x → has_node_if classes k x n ≡ true → HoldsToEnd s.holds other n
          by None f h = absurd (cc h)
          by (Some r) f h =
              ⊎_elim (λ y. y) (λ y. not_both (ap (λ z. has_node_if classes k z n) y.1 ∙ y.2) had) (backed.nodes other k r n (their_put k r e f) h)

      not_shared : {A : Type 0} (k : Key) → HoldsShared s.holds p (data_node k) → HoldsRow s.holds other k → A
      not_shared k h x = absurd (ne (sym (shared_apart s.holds p other (data_node k) inv.rows.free h x)))

      my_older : (k : Key) (r : Record) (u : Side) (id : List ℕ) → changes c k ≡ true → get (apply c o.world) k ≡ Some r → HasSide u (sides_of classes r) → u.target ≡ Some id
          → some_changes ds (target_key classes u.class id) ≡ true → (old : Record) × (get o.world k ≡ Some old) × HasSide u (sides_of classes old)
      my_older k r u id e f has t d = ⊎_elim (λ x. of_pending x) (λ x. of_change x) (put_of k r e f)
        where
          row : HoldsRow s.holds other (target_key classes u.class id)
          row = theirs (target_key classes u.class id) d

          of_pending : IsPending (desk_at o p.0).lists (Put k r) → (old : Record) × (get o.world k ≡ Some old) × HasSide u (sides_of classes old)
          of_pending x = by (inv.targets p k r u id x has t)
            where
              by : HoldsShared s.holds p (data_node (target_key classes u.class id))
                  ⊎ (some_changes (desk_at o p.0).lists (target_key classes u.class id) ≡ true)
                  ⊎ ((old : Record) × (get o.world k ≡ Some old) × HasSide u (sides_of classes old))
                  → (old : Record) × (get o.world k ≡ Some old) × HasSide u (sides_of classes old)
              by (inl h) = not_shared (target_key classes u.class id) h row
              by (inr (inl h)) = not_shared (target_key classes u.class id) (inl (inv.pending p (target_key classes u.class id) h)) row
              by (inr (inr h)) = h

          moved : (change : Change) (m : MovedSide) (y : Option (List ℕ)) → tag ≡ Closes change → m.class ≡ u.class → y ≡ Some id → IsMetTarget classes s o p change m y
              → (old : Record) × (get o.world k ≡ Some old) × HasSide u (sides_of classes old)
          moved change m None is g h x = absurd (cc h)
          moved change m (Some i) is g h (inl x) =
              not_shared (target_key classes m.class i) (inl (change_held change (target_key classes m.class i) (orderly.safe change is commits) (has_changed change (Put (target_key classes m.class i) x.0) x.1))) (subst (HoldsRow s.holds other) (sym (same g h)) row)
            where
              same : m.class ≡ u.class → Some i ≡ Some id → target_key classes m.class i ≡ target_key classes u.class id
              same g h = cc (g, h)
          moved change m (Some i) is g h (inr x) =
              not_shared (target_key classes m.class i) x.3 (subst (HoldsRow s.holds other) (sym (same g h)) row)
            where
              same : m.class ≡ u.class → Some i ≡ Some id → target_key classes m.class i ≡ target_key classes u.class id
              same g h = cc (g, h)

          stayed : (change : Change) → tag ≡ Closes change → HasSide u (sides_in_view classes (get (view o p.0) k)) → (old : Record) × (get o.world k ≡ Some old) × HasSide u (sides_of classes old)
          stayed change is h = by (get o.world k) refl (subst (λ w. HasSide u (sides_in_view classes (get w k))) (view_is_world change is) h)
            where
              by : (x : Option Record) → get o.world k ≡ x → HasSide u (sides_in_view classes x) → (old : Record) × (get o.world k ≡ Some old) × HasSide u (sides_of classes old)
              by None g h = absurd h
              by (Some old) g h = (old, g, h)

          of_side : (change : Change) (fr b : Change) → tag ≡ Closes change → IsSafePut classes s o p change fr k r b
              → SideComes (sides_in_view classes (get (view o p.0) k)) (sides_changed classes (view o p.0) k r) u → (old : Record) × (get o.world k ≡ Some old) × HasSide u (sides_of classes old)
          of_side change fr b is at (Moves m h g i) =
              moved change m m.new is g (i ∙ t) (each_has (λ (m : MovedSide). IsMetTarget classes s o p change m m.new) (sides_changed classes (view o p.0) k r) m at.sides h)
          of_side change fr b is at (Stays h) = stayed change is h
          of_side change fr b is at (Empty h) = absurd (cc (sym h ∙ t))

          of_change : ((change : Change) × (tag ≡ Closes change) × Has (Put k r) change) → (old : Record) × (get o.world k ≡ Some old) × HasSide u (sides_of classes old)
          of_change x =
              let at = fresh_put x.0 k r x.1 x.2 in
              of_side x.0 at.0 at.1 x.1 at.4 (put_side classes s o p x.0 at.2 at.3 (inv.sound (view o p.0) view_possible) unborn k r u at.0 at.1 at.4 has)

      their_older : (k : Key) (r : Record) (u : Side) (id : List ℕ) → some_changes ds k ≡ true → get (apply_all ds o.world) k ≡ Some r → HasSide u (sides_of classes r) → u.target ≡ Some id
          → changes c (target_key classes u.class id) ≡ true → (old : Record) × (get o.world k ≡ Some old) × HasSide u (sides_of classes old)
      their_older k r u id e f has t d = by (inv.targets other k r u id (their_put k r e f) has t)
        where
          row : HoldsRow s.holds p (target_key classes u.class id)
          row = mine_c (target_key classes u.class id) d

          by : HoldsShared s.holds other (data_node (target_key classes u.class id))
              ⊎ (some_changes (desk_at o q).lists (target_key classes u.class id) ≡ true)
              ⊎ ((old : Record) × (get o.world k ≡ Some old) × HasSide u (sides_of classes old))
              → (old : Record) × (get o.world k ≡ Some old) × HasSide u (sides_of classes old)
          by (inl h) = absurd (ne (shared_apart s.holds other p (data_node (target_key classes u.class id)) inv.rows.free h row))
          by (inr (inl h)) = absurd (ne (one_holder s.holds other p (data_node (target_key classes u.class id)) inv.rows.free (inv.pending other (target_key classes u.class id) h) row))
          by (inr (inr h)) = h

    module _ (pairs : ArePaired classes) where
      safe_sound : (change : Change) → IsSafeChange classes s o p change → IsSound classes (apply change (view o p.0))
      safe_sound change (Saves distinct safe) = saved_sound classes s o p change distinct safe (inv.sound (view o p.0) view_possible) unborn
      safe_sound change (Deletes key is safe) = subst (λ c. IsSound classes (apply c (view o p.0))) (sym is) (deleted_sound classes s o p key safe pairs (inv.sound (view o p.0) view_possible))

      pub own_sound : op ≡ Commit → IsSound classes (apply_all marked o.world)
      own_sound c = by tag refl
        where
          unmarked : (t : Tag) → tag ≡ t → ((change : Change) → t ≢ Closes change) → IsSound classes (apply_all marked o.world)
          unmarked t is ne = subst (λ cs. IsSound classes (apply_all cs o.world)) (sym (plain_view t is ne)) (inv.sound (view o p.0) view_possible)

          by : (t : Tag) → tag ≡ t → IsSound classes (apply_all marked o.world)
          by (Closes change) is = subst (IsSound classes) (sym (change_view change is c)) (safe_sound change (orderly.safe change is c))
          by Plain is = unmarked Plain is (λ x e. cc e)
          by Opens is = unmarked Opens is (λ x e. cc e)
          by Inside is = unmarked Inside is (λ x e. cc e)
          by Fails is = unmarked Fails is (λ x e. cc e)

      pub crossed_sound : (commits : op ≡ Commit) (c : Change) (only : with_change tag (desk_at o p.0).lists ≡ c ∷ []) (q : ℕ) (ne : q ≢ p.0) (ds : List Change) (below : IsBelowTop o q ds) → IsSound classes (apply_all ds (apply c o.world))
      crossed_sound commits c only q ne ds below =
          both_sound classes o.world (apply c o.world) (apply_all ds o.world) (apply_all ds (apply c o.world)) (changes c) (some_changes ds)
          (λ k e. unchanged c o.world k e)
          (λ k e. all_unchanged ds o.world k e)
          (λ k e. all_unchanged ds (apply c o.world) k e)
          (λ k e. all_alike ds o.world (apply c o.world) k (unchanged c o.world k e))
          (keys_apart commits c only q ne ds below)
          (λ k j n ck has had dj jas jad. ne (one_holder s.holds (record { 0 = q }) p n inv.rows.free (their_node commits c only q ne ds below j n dj jas jad) (my_node commits c only q ne ds below k n ck has had)))
          (my_older commits c only q ne ds below) (their_older commits c only q ne ds below)
          (subst (λ cs. IsSound classes (apply_all cs o.world)) only (own_sound commits))
          (inv.sound (apply_all ds o.world) (Pending q ds below refl))

      pub next_sound : (w : World) → IsPossible (desks_after o p.0 op (reply s p op) tag) w → IsSound classes w
      next_sound w possible = by (next_possible o p op (reply s p op) tag w possible)
        where
          by : Next o p op tag w → IsSound classes w
          by (Old h) = inv.sound w h
          by (Closed c e) = subst (IsSound classes) (sym e) (own_sound c)
          by (Crossed commits c only q ne ds below e) = subst (IsSound classes) (sym e) (crossed_sound commits c only q ne ds below)
