-- A safe save turns a sound view into a sound world.
use Rattle.std.proofs.Common.{◌≡◌, inl, inr, ℕ, Bool, true, false, cond, List, [], ◌∷◌, ◌++◌, Option, Some, None, refl, sym, ap, ◌∙◌, subst}
use Rattle.std.specs.FinMap.{get}
use Rattle.obj_kinds.specs.declared.op.Pid.{Pid}
use Rattle.schema_kinds.specs.declared.class.Class.{Class}
use Rattle.schema_kinds.specs.declared.key.Key.{Key}
use Rattle.schema_kinds.specs.declared.record.Record.{Record}
use Rattle.schema_kinds.specs.declared.record.Part.{Part}
use Rattle.schema_kinds.specs.declared.record.Part.TheVariants.{Put, Del}
use Rattle.schema_kinds.specs.Classes.{IsBelow}
use Rattle.schema_kinds.specs.Worlds.{World, Change, apply}
use Rattle.storage_map.specs.SoundWorlds.{IsSound, IsSoundAt, Clash, HasSide, IsMet}
use Rattle.storage_map.specs.Keys.{Side, sides_of, target_key}
use Rattle.store_core.specs.Machine.{State}
use Rattle.object_calls.specs.Keys.{MovedKey, MovedSide, moved_sides}
use Rattle.object_calls.specs.Saves.{is_key}
use Rattle.object_runs.specs.ObjectMachine.{Desks, view}
use Rattle.object_runs.specs.Causes.{Each, Has, keys_changed, sides_in_view, sides_changed}
use Rattle.object_runs.specs.Invariant.{changes}
use Rattle.sound_runs.specs.Closing.{put_in, has_node_if, AreDistinct, IsDrawn, IsKnownOrDrawn, IsTakenNode, IsMetTarget, IsSafePut, IsSafePart, AreSafe}
use Rattle.sound_runs.proofs.Changes.{key_is, same_key}
use Rattle.sound_runs.proofs.Puts.{IsPut, or_else, put_none, put_final, Place, place_of, AreVacant, IsClear, each_has, clear_after}
use Rattle.sound_runs.proofs.Sides.{SideComes, Moves, Stays, Empty, new_side, old_side}

append_nil : {A : Type 0} (xs : List A) → xs ++ [] ≡ xs
append_nil [] = refl
append_nil (x ∷ xs) = ap (λ ys. x ∷ ys) (append_nil xs)

append_one : {A : Type 0} (xs ys : List A) (x : A) → (xs ++ x ∷ []) ++ ys ≡ xs ++ x ∷ ys
append_one [] ys x = refl
append_one (y ∷ xs) ys x = ap (λ zs. y ∷ zs) (append_one xs ys x)

-- the record that a change puts is the one that it has
pub put_once : (c : Change) (k : Key) (r : Record) → AreDistinct c → Has (Put k r) c → put_in c k ≡ Some r
put_once [] k r d h = absurd h
put_once (Put j q ∷ c) k r d (inl e) = ap (λ b. cond b (Some q) (put_in c k)) (ap (is_key k) (sym (keys e)) ∙ same_key k) ∙ records e
  where
    keys : Put k r ≡ Put j q → k ≡ j
    keys e = cc e

    records : Put k r ≡ Put j q → Some q ≡ Some r
    records e = cc e
put_once (Put j q ∷ c) k r d (inr h) = by (is_key k j) refl (put_once c k r d.1 h)
  where
    by : (b : Bool) → is_key k j ≡ b → put_in c k ≡ Some r → cond (is_key k j) (Some q) (put_in c k) ≡ Some r
    by true f g = absurd (cc (sym (put_none c k (ap (changes c) (key_is k j f) ∙ d.0)) ∙ g))
    by false f g = ap (λ b. cond b (Some q) (put_in c k)) f ∙ g
put_once (Del j ∷ c) k r d (inl e) = absurd (cc e)
put_once (Del j ∷ c) k r d (inr h) = put_once c k r d.1 h

pub put_has : (c : Change) (k : Key) (r : Record) → put_in c k ≡ Some r → Has (Put k r) c
put_has c k r e = let at = place_of c k r e in subst (Has (Put k r)) (sym at.parts) (among at.front at.back)
  where
    among : (f b : Change) → Has (Put k r) (f ++ Put k r ∷ b)
    among [] b = inl refl
    among (x ∷ f) b = inr (among f b)

module _ (classes : List Class) (s : State) (o : Desks) (p : Pid) where
  pub safe_at : (change front rest f : Change) (x : Part) (b : Change) → rest ≡ f ++ x ∷ b → AreSafe classes s o p change front rest → IsSafePart classes s o p change (front ++ f) x b
  safe_at change front [] [] x b e safe = absurd (cc e)
  safe_at change front [] (y ∷ f) x b e safe = absurd (cc e)
  safe_at change front (z ∷ rest) [] x b e safe =
      subst (λ g. IsSafePart classes s o p change g x b) (sym (append_nil front))
      (both (heads e) (tails e) safe.0)
    where
      heads : z ∷ rest ≡ x ∷ b → z ≡ x
      heads e = cc e

      tails : z ∷ rest ≡ x ∷ b → rest ≡ b
      tails e = cc e

      both : z ≡ x → rest ≡ b → IsSafePart classes s o p change front z rest → IsSafePart classes s o p change front x b
      both g h i = subst (λ y. IsSafePart classes s o p change front y b) g (subst (IsSafePart classes s o p change front z) h i)
  safe_at change front (z ∷ rest) (y ∷ f) x b e safe =
      subst (λ g. IsSafePart classes s o p change g x b) (append_one front f y)
      (safe_at change (front ++ y ∷ []) rest f x b (tails e) (subst (λ w. AreSafe classes s o p change (front ++ w ∷ []) rest) (heads e) safe.1))
    where
      heads : z ∷ rest ≡ y ∷ (f ++ x ∷ b) → z ≡ y
      heads e = cc e

      tails : z ∷ rest ≡ y ∷ (f ++ x ∷ b) → rest ≡ f ++ x ∷ b
      tails e = cc e

  pub all_put : (change front rest : Change) → AreSafe classes s o p change front rest → Each IsPut rest
  all_put change front [] safe = tt
  all_put change front (Put k r ∷ rest) safe = (tt, all_put change (front ++ Put k r ∷ []) rest safe.1)
  all_put change front (Del k ∷ rest) safe = absurd safe.0

  module _ (c : Change) (distinct : AreDistinct c) (safe : AreSafe classes s o p c [] c) where
    pub put_at : (k : Key) (r : Record) (at : Place c k r) → IsSafePut classes s o p c at.front k r at.back
    put_at k r at = safe_at c [] c at.front (Put k r) at.back at.parts safe

    pub put_safe : (k : Key) (r : Record) → Has (Put k r) c → (f : Change) × (b : Change) × IsSafePut classes s o p c f k r b
    put_safe k r h = let at = place_of c k r (put_once c k r distinct h) in (at.front, at.back, put_at k r at)

    final : (k : Key) → get (apply c (view o p.0)) k ≡ or_else (put_in c k) (get (view o p.0) k)
    final k = put_final c (view o p.0) k (all_put c [] c safe) distinct

    vacant : AreVacant classes (view o p.0) c
    vacant k r at n moved =
        let m = moved.0 in
        (subst (IsTakenNode classes s o p at.front k at.back) moved.2
        (each_has (λ (m : MovedKey). IsTakenNode classes s o p at.front k at.back m.new) (keys_changed classes (view o p.0) k r) m (put_at k r at).keys moved.1)).1

    module _ (sound : IsSound classes (view o p.0)) (unborn : (k : Key) → IsDrawn o p.0 k → get (view o p.0) k ≡ None) where
      clear_of : (w : World) → ((a b : Key) → Clash classes w a b → ⊥) → IsClear classes (view o p.0) c w
      clear_of w apart a b n e f ne = by (get w a) refl e (get w b) refl f
        where
          by : (x : Option Record) → get w a ≡ x → has_node_if classes a x n ≡ true → (y : Option Record) → get w b ≡ y → has_node_if classes b y n ≡ true → ⊥
          by None g e y h f = cc e
          by (Some q) g e None h f = cc f
          by (Some q) g e (Some r) h f = apart a b (record { node = n; one = q; other = r; apart = ne; first = (g, e); second = (h, f) })

      pub apart_after : (a b : Key) → Clash classes (apply c (view o p.0)) a b → ⊥
      apart_after a b x =
          clear_after classes (view o p.0) c vacant (all_put c [] c safe) distinct (clear_of (view o p.0) sound.apart) a b x.node
          (ap (λ y. has_node_if classes a y x.node) x.first.0 ∙ x.first.1) (ap (λ y. has_node_if classes b y x.node) x.second.0 ∙ x.second.1) x.apart

      -- a key of the view keeps its class
      pub still_there : (k : Key) (q : Record) → get (view o p.0) k ≡ Some q → (r : Record) × (get (apply c (view o p.0)) k ≡ Some r) × (r.class ≡ q.class)
      still_there k q e = by (put_in c k) refl
        where
          known : (r : Record) → IsKnownOrDrawn classes s o p k r → r.class ≡ q.class
          known r (inl h) = sym h.2 ∙ classes_of (sym h.1 ∙ e)
            where
              classes_of : {x y : Record} → Some x ≡ Some y → x.class ≡ y.class
              classes_of g = cc g
          known r (inr h) = absurd (cc (sym (unborn k h) ∙ e))

          by : (x : Option Record) → put_in c k ≡ x → (r : Record) × (get (apply c (view o p.0)) k ≡ Some r) × (r.class ≡ q.class)
          by None f = (q, final k ∙ ap (λ x. or_else x (get (view o p.0) k)) f ∙ e, refl)
          by (Some r) f = (r, final k ∙ ap (λ x. or_else x (get (view o p.0) k)) f, known r (put_at k r (place_of c k r f)).known)

      met_by_view : (m : Side) (id : List ℕ) → IsMet classes (view o p.0) m (Some id) → IsMet classes (apply c (view o p.0)) m (Some id)
      met_by_view m id h =
          let there = still_there (target_key classes m.class id) h.0 h.1 in
          (there.0, there.1, subst (λ x. IsBelow classes x m.class) (sym there.2) h.2)

      met_target : (m : Side) (t : Option (List ℕ)) → IsMet classes (view o p.0) m t → IsMet classes (apply c (view o p.0)) m t
      met_target m None h = tt
      met_target m (Some id) h = met_by_view m id h

      moved_met : (u : Side) (m : MovedSide) (t : Option (List ℕ)) → m.class ≡ u.class → IsMetTarget classes s o p c m t → IsMet classes (apply c (view o p.0)) u t
      moved_met u m None e h = tt
      moved_met u m (Some id) e (inl h) =
          subst (λ cl. (q : Record) × (get (apply c (view o p.0)) (target_key classes cl id) ≡ Some q) × IsBelow classes q.class cl) e
          (h.0, final (target_key classes m.class id) ∙ ap (λ x. or_else x (get (view o p.0) (target_key classes m.class id))) (put_once c (target_key classes m.class id) h.0 distinct h.1), h.2)
      moved_met u m (Some id) e (inr h) =
          let there = still_there (target_key classes m.class id) h.0 h.1 in
          subst (λ cl. (q : Record) × (get (apply c (view o p.0)) (target_key classes cl id) ≡ Some q) × IsBelow classes q.class cl) e
          (there.0, there.1, subst (λ x. IsBelow classes x m.class) (sym there.2) h.2)

      none_met : (u : Side) → u.target ≡ None → IsMet classes (apply c (view o p.0)) u u.target
      none_met u e = subst (IsMet classes (apply c (view o p.0)) u) (sym e) tt

      -- a side of a put object
      pub put_side : (k : Key) (r : Record) (u : Side) (f b : Change) → IsSafePut classes s o p c f k r b → HasSide u (sides_of classes r)
          → SideComes (sides_in_view classes (get (view o p.0) k)) (sides_changed classes (view o p.0) k r) u
      put_side k r u f b at has = by at.known
        where
          by : IsKnownOrDrawn classes s o p k r → SideComes (sides_in_view classes (get (view o p.0) k)) (sides_changed classes (view o p.0) k r) u
          by (inl h) = subst (λ x. SideComes (sides_in_view classes x) (moved_sides (sides_in_view classes x) (sides_of classes r)) u) (sym h.1) (old_side classes h.0 r u h.2 has)
          by (inr h) = subst (λ x. SideComes (sides_in_view classes x) (moved_sides (sides_in_view classes x) (sides_of classes r)) u) (sym (unborn k h)) (new_side (sides_of classes r) u has)

      side_met : (k : Key) (r : Record) (u : Side) (f b : Change) → IsSafePut classes s o p c f k r b
          → SideComes (sides_in_view classes (get (view o p.0) k)) (sides_changed classes (view o p.0) k r) u → IsMet classes (apply c (view o p.0)) u u.target
      side_met k r u f b at (Moves m has e t) =
          subst (IsMet classes (apply c (view o p.0)) u) t (moved_met u m m.new e (each_has (λ (m : MovedSide). IsMetTarget classes s o p c m m.new) (sides_changed classes (view o p.0) k r) m at.sides has))
      side_met k r u f b at (Empty e) = none_met u e
      side_met k r u f b at (Stays has) = by (get (view o p.0) k) refl has
        where
          by : (x : Option Record) → get (view o p.0) k ≡ x → HasSide u (sides_in_view classes x) → IsMet classes (apply c (view o p.0)) u u.target
          by None e h = absurd h
          by (Some q) e h = met_target u u.target (sound.targets k q u e h)

      pub saved_sound : IsSound classes (apply c (view o p.0))
      saved_sound = record { records = records; apart = apart_after; targets = targets }
        where
          records : (k : Key) (r : Record) → get (apply c (view o p.0)) k ≡ Some r → IsSoundAt classes k r
          records k r e = by (put_in c k) refl
            where
              by : (x : Option Record) → put_in c k ≡ x → IsSoundAt classes k r
              by None f = sound.records k r (sym (final k ∙ ap (λ x. or_else x (get (view o p.0) k)) f) ∙ e)
              by (Some q) f = subst (IsSoundAt classes k) (same (sym (final k ∙ ap (λ x. or_else x (get (view o p.0) k)) f) ∙ e)) (put_at k q (place_of c k q f)).sound
                where
                  same : Some q ≡ Some r → q ≡ r
                  same g = cc g

          targets : (k : Key) (r : Record) (u : Side) → get (apply c (view o p.0)) k ≡ Some r → HasSide u (sides_of classes r) → IsMet classes (apply c (view o p.0)) u u.target
          targets k r u e has = by (put_in c k) refl
            where
              by : (x : Option Record) → put_in c k ≡ x → IsMet classes (apply c (view o p.0)) u u.target
              by None f = met_target u u.target (sound.targets k r u (sym (final k ∙ ap (λ x. or_else x (get (view o p.0) k)) f) ∙ e) has)
              by (Some q) f =
                  let at = place_of c k q f in
                  let same : Some q ≡ Some r = sym (final k ∙ ap (λ x. or_else x (get (view o p.0) k)) f) ∙ e in
                  side_met k q u at.front at.back (put_at k q at) (put_side k q u at.front at.back (put_at k q at) (of_one same has))
                where
                  of_one : Some q ≡ Some r → HasSide u (sides_of classes r) → HasSide u (sides_of classes q)
                  of_one g h = subst (λ x. HasSide u (sides_in_view classes x)) (sym g) h
