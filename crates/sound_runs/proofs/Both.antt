-- The changes of two processes that are kept apart may be carried out one after the other.
use Rattle.std.proofs.Common.{◌≡◌, ◌≢◌, ℕ, Bool, true, false, List, Option, Some, None, refl, sym, ap, ◌∙◌, subst}
use Rattle.std.specs.FinMap.{get}
use Rattle.obj_kinds.specs.declared.node.Node.{Node}
use Rattle.schema_kinds.specs.declared.class.Class.{Class}
use Rattle.schema_kinds.specs.declared.key.Key.{Key}
use Rattle.schema_kinds.specs.declared.record.Record.{Record}
use Rattle.schema_kinds.specs.Worlds.{World}
use Rattle.storage_map.specs.SoundWorlds.{IsSound, IsSoundAt, HasSide, IsMet, has_key_node}
use Rattle.storage_map.specs.Keys.{Side, sides_of, target_key}
use Rattle.sound_runs.specs.Closing.{has_node_if}

-- a one side whose target the other process changes was there before
abbrev pub IsOlder : List Class → World → World → (Key → Bool) → (Key → Bool) → Type 0
IsOlder classes w changed c d =
    (k : Key) (r : Record) (u : Side) (id : List ℕ) → c k ≡ true → get changed k ≡ Some r → HasSide u (sides_of classes r) → u.target ≡ Some id → d (target_key classes u.class id) ≡ true
    → (old : Record) × (get w k ≡ Some old) × HasSide u (sides_of classes old)

-- w' is w with one process's changes, v with the other's, and both with both; c and d tell which keys these change
module _ (classes : List Class) (w w' v both : World) (c d : Key → Bool)
    (left_c : (k : Key) → c k ≡ false → get w' k ≡ get w k)
    (left_d : (k : Key) → d k ≡ false → get v k ≡ get w k)
    (both_c : (k : Key) → d k ≡ false → get both k ≡ get w' k)
    (both_d : (k : Key) → c k ≡ false → get both k ≡ get v k)
    (keys : (k : Key) → c k ≡ true → d k ≡ true → ⊥)
    (nodes : (k j : Key) (n : Node) → c k ≡ true → has_node_if classes k (get w' k) n ≡ true → has_node_if classes k (get w k) n ≡ false
    → d j ≡ true → has_node_if classes j (get v j) n ≡ true → has_node_if classes j (get w j) n ≡ false → ⊥)
    (older_c : IsOlder classes w w' c d) (older_d : IsOlder classes w v d c)
    (sc : IsSound classes w') (sd : IsSound classes v) where
  -- the key is as the one process leaves it, or as the other does
  data Comes (k : Key) : Type 0 where
    One : c k ≡ true → d k ≡ false → Comes k
    Other : c k ≡ false → d k ≡ true → Comes k
    Neither : c k ≡ false → d k ≡ false → Comes k

  comes : (k : Key) → Comes k
  comes k = at (c k) (d k) refl refl
    where
      at : (a b : Bool) → c k ≡ a → d k ≡ b → Comes k
      at true true e f = absurd (keys k e f)
      at true false e f = One e f
      at false true e f = Other e f
      at false false e f = Neither e f

  clash_c : (a b : Key) (n : Node) (q r : Record) → a ≢ b → get w' a ≡ Some q → has_key_node classes a q n ≡ true → get w' b ≡ Some r → has_key_node classes b r n ≡ true → ⊥
  clash_c a b n q r ne e f g h = sc.apart a b (record { node = n; one = q; other = r; apart = ne; first = (e, f); second = (g, h) })

  clash_d : (a b : Key) (n : Node) (q r : Record) → a ≢ b → get v a ≡ Some q → has_key_node classes a q n ≡ true → get v b ≡ Some r → has_key_node classes b r n ≡ true → ⊥
  clash_d a b n q r ne e f g h = sd.apart a b (record { node = n; one = q; other = r; apart = ne; first = (e, f); second = (g, h) })

  -- one that the first process has anew and one that the other has
  crossed : (a b : Key) (n : Node) (q r : Record) → a ≢ b → c a ≡ true → d a ≡ false → c b ≡ false → d b ≡ true
      → get both a ≡ Some q → has_key_node classes a q n ≡ true → get both b ≡ Some r → has_key_node classes b r n ≡ true → ⊥
  crossed a b n q r ne ca da cb db e f g h = by (get w a) refl (get w b) refl
    where
      in_w' : get w' a ≡ Some q
      in_w' = sym (both_c a da) ∙ e

      in_v : get v b ≡ Some r
      in_v = sym (both_d b cb) ∙ g

      -- neither had the node before
      at : (x y : Bool) → has_node_if classes a (get w a) n ≡ x → has_node_if classes b (get w b) n ≡ y → x ≡ false → y ≡ false → ⊥
      at x y i j k l =
          nodes a b n ca (ap (λ z. has_node_if classes a z n) in_w' ∙ f) (i ∙ k) db (ap (λ z. has_node_if classes b z n) in_v ∙ h) (j ∙ l)

      new_b : (x : Bool) → has_node_if classes a (get w a) n ≡ x → x ≡ false → (y : Option Record) → get w b ≡ y → (z : Bool) → has_node_if classes b y n ≡ z → ⊥
      new_b x i k None j z l = at x false i (ap (λ m. has_node_if classes b m n) j) k refl
      new_b x i k (Some old) j true l = clash_c a b n q old ne in_w' f (left_c b cb ∙ j) l
      new_b x i k (Some old) j false l = at x false i (ap (λ m. has_node_if classes b m n) j ∙ l) k refl

      with_a : (old : Record) → get w a ≡ Some old → (z : Bool) → has_key_node classes a old n ≡ z → (y : Option Record) → get w b ≡ y → ⊥
      with_a old i true l y j = clash_d a b n old r ne (left_d a da ∙ i) l in_v h
      with_a old i false l y j = new_b false (ap (λ m. has_node_if classes a m n) i ∙ l) refl y j (has_node_if classes b y n) refl

      by : (x : Option Record) → get w a ≡ x → (y : Option Record) → get w b ≡ y → ⊥
      by None i y j = new_b false (ap (λ m. has_node_if classes a m n) i) refl y j (has_node_if classes b y n) refl
      by (Some old) i y j = with_a old i (has_key_node classes a old n) refl y j

  -- what a key that isn't the other's has in the one process's world
  as_c : (k : Key) (r : Record) → d k ≡ false → get both k ≡ Some r → get w' k ≡ Some r
  as_c k r e f = sym (both_c k e) ∙ f

  as_d : (k : Key) (r : Record) → c k ≡ false → get both k ≡ Some r → get v k ≡ Some r
  as_d k r e f = sym (both_d k e) ∙ f

  apart : (a b : Key) (n : Node) (q r : Record) → Comes a → Comes b → a ≢ b → get both a ≡ Some q → has_key_node classes a q n ≡ true → get both b ≡ Some r → has_key_node classes b r n ≡ true → ⊥
  apart a b n q r (One ca da) (One cb db) ne e f g h = clash_c a b n q r ne (as_c a q da e) f (as_c b r db g) h
  apart a b n q r (One ca da) (Neither cb db) ne e f g h = clash_c a b n q r ne (as_c a q da e) f (as_c b r db g) h
  apart a b n q r (Neither ca da) (One cb db) ne e f g h = clash_c a b n q r ne (as_c a q da e) f (as_c b r db g) h
  apart a b n q r (Neither ca da) (Neither cb db) ne e f g h = clash_c a b n q r ne (as_c a q da e) f (as_c b r db g) h
  apart a b n q r (Other ca da) (Other cb db) ne e f g h = clash_d a b n q r ne (as_d a q ca e) f (as_d b r cb g) h
  apart a b n q r (Other ca da) (Neither cb db) ne e f g h = clash_d a b n q r ne (as_d a q ca e) f (as_d b r cb g) h
  apart a b n q r (Neither ca da) (Other cb db) ne e f g h = clash_d a b n q r ne (as_d a q ca e) f (as_d b r cb g) h
  apart a b n q r (One ca da) (Other cb db) ne e f g h = crossed a b n q r ne ca da cb db e f g h
  apart a b n q r (Other ca da) (One cb db) ne e f g h = crossed b a n r q (λ x. ne (sym x)) cb db ca da g h e f

  record_of : (k : Key) (r : Record) → Comes k → get both k ≡ Some r → IsSoundAt classes k r
  record_of k r (One ck dk) e = sc.records k r (as_c k r dk e)
  record_of k r (Neither ck dk) e = sc.records k r (as_c k r dk e)
  record_of k r (Other ck dk) e = sd.records k r (as_d k r ck e)

  -- ---- targets

  met_c : (u : Side) (id : List ℕ) → d (target_key classes u.class id) ≡ false → IsMet classes w' u (Some id) → IsMet classes both u (Some id)
  met_c u id e met = (met.0, both_c (target_key classes u.class id) e ∙ met.1, met.2)

  met_d : (u : Side) (id : List ℕ) → c (target_key classes u.class id) ≡ false → IsMet classes v u (Some id) → IsMet classes both u (Some id)
  met_d u id e met = (met.0, both_d (target_key classes u.class id) e ∙ met.1, met.2)

  not_c : (k : Key) → d k ≡ true → c k ≡ false
  not_c k e = by (c k) refl
    where
      by : (b : Bool) → c k ≡ b → c k ≡ false
      by true f = absurd (keys k f e)
      by false f = f

  not_d : (k : Key) → c k ≡ true → d k ≡ false
  not_d k e = by (d k) refl
    where
      by : (b : Bool) → d k ≡ b → d k ≡ false
      by true f = absurd (keys k e f)
      by false f = f

  target_of : (k : Key) (r : Record) (u : Side) (id : List ℕ) → Comes k → get both k ≡ Some r → HasSide u (sides_of classes r) → u.target ≡ Some id
      → (x y : Bool) → c (target_key classes u.class id) ≡ x → d (target_key classes u.class id) ≡ y → IsMet classes both u (Some id)
  target_of k r u id (One ck dk) e has t x false f g = met_c u id g (subst (IsMet classes w' u) t (sc.targets k r u (as_c k r dk e) has))
  target_of k r u id (One ck dk) e has t x true f g =
      let old = older_c k r u id ck (as_c k r dk e) has t g in
      met_d u id (not_c (target_key classes u.class id) g) (subst (IsMet classes v u) t (sd.targets k old.0 u (left_d k dk ∙ old.1) old.2))
  target_of k r u id (Other ck dk) e has t false y f g = met_d u id f (subst (IsMet classes v u) t (sd.targets k r u (as_d k r ck e) has))
  target_of k r u id (Other ck dk) e has t true y f g =
      let old = older_d k r u id dk (as_d k r ck e) has t f in
      met_c u id (not_d (target_key classes u.class id) f) (subst (IsMet classes w' u) t (sc.targets k old.0 u (left_c k ck ∙ old.1) old.2))
  target_of k r u id (Neither ck dk) e has t x false f g = met_c u id g (subst (IsMet classes w' u) t (sc.targets k r u (as_c k r dk e) has))
  target_of k r u id (Neither ck dk) e has t x true f g =
      met_d u id (not_c (target_key classes u.class id) g) (subst (IsMet classes v u) t (sd.targets k r u (as_d k r ck e) has))

  pub both_sound : IsSound classes both
  both_sound = record {
    records = λ k r e. record_of k r (comes k) e;
    apart = λ a b x. apart a b x.node x.one x.other (comes a) (comes b) x.apart x.first.0 x.first.1 x.second.0 x.second.1;
    targets = λ k r u e has. target_at k r u e has u.target refl;
  }
    where
      target_at : (k : Key) (r : Record) (u : Side) → get both k ≡ Some r → HasSide u (sides_of classes r) → (t : Option (List ℕ)) → u.target ≡ t → IsMet classes both u u.target
      target_at k r u e has None t = subst (IsMet classes both u) (sym t) tt
      target_at k r u e has (Some id) t =
          subst (IsMet classes both u) (sym t)
          (target_of k r u id (comes k) e has t (c (target_key classes u.class id)) (d (target_key classes u.class id)) refl refl)
