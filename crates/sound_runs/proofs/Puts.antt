-- A safe save leaves a sound view sound.
use Rattle.std.proofs.Common.{◌≡◌, ◌≢◌, ◌⊎◌, inl, inr, ℕ, Bool, true, false, cond, ◌||◌, ◌&&◌, List, [], ◌∷◌, ◌++◌, map, filter, codes, Option, Some, None, option_map, refl, sym, ap, ◌∙◌, subst, arith}
use Rattle.std.proofs.lemmas.List.{append_cancel_right}
use Rattle.std.specs.List.{list_any}
use Rattle.std.specs.FinMap.{get, insert, get-insert}
use Rattle.obj_kinds.specs.declared.node.Node.{Node}
use Rattle.obj_kinds.specs.declared.sub.Sub.{Sub}
use Rattle.schema_kinds.specs.declared.class.Class.{Class}
use Rattle.schema_kinds.specs.declared.class.Index.{Index}
use Rattle.schema_kinds.specs.declared.prop.Prop.{Prop}
use Rattle.schema_kinds.specs.declared.record.Field.{Field}
use Rattle.schema_kinds.specs.Classes.{class_of}
use Rattle.storage_map.specs.Entries.{index_key, key_node, index_global, indexes_of, props_in, with_fields}
use Rattle.schema_kinds.specs.declared.key.Key.{Key}
use Rattle.schema_kinds.specs.declared.record.Record.{Record}
use Rattle.schema_kinds.specs.declared.record.Part.{Part}
use Rattle.schema_kinds.specs.declared.record.Part.TheVariants.{Put, Del}
use Rattle.schema_kinds.specs.Worlds.{World, Change, apply}
use Rattle.schema_kinds.specs.KeyLaws.{key_total}
use Rattle.global_tree.proofs.MapLaws.{one_key}
use Rattle.obj_kinds.specs.OrderLaws.{node_exact}
use Rattle.storage_map.specs.SoundWorlds.{has_key_node}
use Rattle.storage_map.specs.Keys.{same_node, Unique, unique_in, uniques_of}
use Rattle.object_calls.specs.Keys.{MovedKey, moved_key, moved_keys}
use Rattle.object_calls.specs.Saves.{is_key}
use Rattle.object_runs.specs.Causes.{Each, Has, uniques_in, keys_changed}
use Rattle.object_runs.specs.Invariant.{changes}
use Rattle.sound_runs.specs.Closing.{put_in, has_node_if, stands_by, entry_stands, IsVacant, AreDistinct}
use Rattle.sound_runs.proofs.Changes.{or_false, not_both, same_key, key_is, apart_key, put_same}

-- ---- changes that only put

abbrev pub IsPut : Part → Type 0
IsPut (Put k r) = Unit {0}
IsPut (Del k) = ⊥

abbrev pub or_else : {A : Type 0} → Option A → Option A → Option A
or_else None y = y
or_else (Some x) y = Some x

pub put_none : (c : Change) (k : Key) → changes c k ≡ false → put_in c k ≡ None
put_none [] k e = refl
put_none (Put j r ∷ c) k e =
    let h = or_false (is_key k j) (changes c k) e in
    ap (λ b. cond b (Some r) (put_in c k)) h.0 ∙ put_none c k h.1
put_none (Del j ∷ c) k e = put_none c k (or_false (is_key k j) (changes c k) e).1

put_step : (b : Bool) (x : Option Record) (r : Record) (y : Option Record) → (b ≡ true → x ≡ None) → or_else x (cond b (Some r) y) ≡ or_else (cond b (Some r) x) y
put_step true x r y h = ap (λ z. or_else z (Some r)) (h refl)
put_step false x r y h = refl

-- the record that a key has behind a change that only puts
pub put_final : (c : Change) (v : World) (k : Key) → Each IsPut c → AreDistinct c → get (apply c v) k ≡ or_else (put_in c k) (get v k)
unfolding apply
put_final [] v k puts d = refl
put_final (Put j r ∷ c) v k puts d =
    put_final c (insert v j r) k puts.1 d.1 ∙ ap (or_else (put_in c k)) (get-insert key_total v j r k)
    ∙ put_step (is_key k j) (put_in c k) r (get v k) (λ e. put_none c k (ap (changes c) (key_is k j e) ∙ d.0))
put_final (Del j ∷ c) v k puts d = absurd puts.0

pub put_append : (f g : Change) (k : Key) → put_in (f ++ g) k ≡ or_else (put_in f k) (put_in g k)
put_append [] g k = refl
put_append (Put j r ∷ f) g k = ap (cond (is_key k j) (Some r)) (put_append f g k) ∙ by (is_key k j)
  where
    by : (b : Bool) → cond b (Some r) (or_else (put_in f k) (put_in g k)) ≡ or_else (cond b (Some r) (put_in f k)) (put_in g k)
    by true = refl
    by false = refl
put_append (Del j ∷ f) g k = put_append f g k

-- where the record of a key stands in a change
pub record Place (c : Change) (k : Key) (r : Record) : Type 0 where
  pub front : Change
  pub back : Change
  pub parts : c ≡ front ++ Put k r ∷ back
  pub none_before : put_in front k ≡ None

pub place_of : (c : Change) (k : Key) (r : Record) → put_in c k ≡ Some r → Place c k r
place_of [] k r e = absurd (cc e)
place_of (Put j q ∷ c) k r e = by (λ f. place_of c k r f) (is_key k j) refl
  where
    by : (put_in c k ≡ Some r → Place c k r) → (b : Bool) → is_key k j ≡ b → Place (Put j q ∷ c) k r
    by more true f =
        let rec : Some q ≡ Some r = sym (ap (λ b. cond b (Some q) (put_in c k)) f) ∙ e in
        record { front = []; back = c; parts = ap (λ x. x ∷ c) (sym (put_same k j r q (key_is k j f) rec)); none_before = refl }
    by more false f =
        let at = more (sym (ap (λ b. cond b (Some q) (put_in c k)) f) ∙ e) in
        record { front = Put j q ∷ at.front; back = at.back; parts = ap (λ y. Put j q ∷ y) at.parts; none_before = ap (λ b. cond b (Some q) (put_in at.front k)) f ∙ at.none_before }
place_of (Del j ∷ c) k r e =
    let at = place_of c k r e in
    record { front = Del j ∷ at.front; back = at.back; parts = ap (λ y. Del j ∷ y) at.parts; none_before = at.none_before }

-- what another key has in it
pub at_place : (c : Change) (a b : Key) (r : Record) (p : Place c a r) → b ≢ a → put_in c b ≡ or_else (put_in p.front b) (put_in p.back b)
at_place c a b r p ne =
    ap (λ x. put_in x b) p.parts ∙ put_append p.front (Put a r ∷ p.back) b
    ∙ ap (λ d. or_else (put_in p.front b) (cond d (Some r) (put_in p.back b))) (apart_key b a ne)

-- of two keys one comes first
pub one_first : (a b : Key) (ra rb : Record) (fa ba fb bb : Change) → fa ++ Put a ra ∷ ba ≡ fb ++ Put b rb ∷ bb → a ≢ b → put_in fa b ≡ None → put_in fb a ≡ None → ⊥
one_first a b ra rb [] ba [] bb e ne f g = ne (heads e)
  where
    heads : Put a ra ∷ ba ≡ Put b rb ∷ bb → a ≡ b
    heads e = cc e
one_first a b ra rb [] ba (y ∷ fb) bb e ne f g = cc (sym g ∙ ap (λ z. put_in (z ∷ fb) a) (sym (heads e)) ∙ ap (λ d. cond d (Some ra) (put_in fb a)) (same_key a))
  where
    heads : Put a ra ∷ ba ≡ y ∷ (fb ++ Put b rb ∷ bb) → Put a ra ≡ y
    heads e = cc e
one_first a b ra rb (x ∷ fa) ba [] bb e ne f g = cc (sym f ∙ ap (λ z. put_in (z ∷ fa) b) (heads e) ∙ ap (λ d. cond d (Some rb) (put_in fa b)) (same_key b))
  where
    heads : x ∷ (fa ++ Put a ra ∷ ba) ≡ Put b rb ∷ bb → x ≡ Put b rb
    heads e = cc e
one_first a b ra rb (x ∷ fa) ba (y ∷ fb) bb e ne f g = one_first a b ra rb fa ba fb bb (tails e) ne (rest x fa b f) (rest y fb a g)
  where
    tails : x ∷ (fa ++ Put a ra ∷ ba) ≡ y ∷ (fb ++ Put b rb ∷ bb) → fa ++ Put a ra ∷ ba ≡ fb ++ Put b rb ∷ bb
    tails e = cc e

    rest : (x : Part) (c : Change) (k : Key) → put_in (x ∷ c) k ≡ None → put_in c k ≡ None
    rest (Put j r) c k e = by (is_key k j) e
      where
        by : (d : Bool) → cond d (Some r) (put_in c k) ≡ None → put_in c k ≡ None
        by true e = absurd (cc e)
        by false e = e
    rest (Del j) c k e = e

-- ---- keys that move

pub same_is : (a b : Option Node) → same_node a b ≡ true → a ≡ b
same_is None None e = refl
same_is (Some a) (Some b) e = ap Some (one_key node_exact a b e)
same_is None (Some b) e = absurd (cc e)
same_is (Some a) None e = absurd (cc e)

-- one of these has the node as its new one
abbrev pub IsMoved : List MovedKey → Node → Type 0
IsMoved ms n = (m : MovedKey) × Has m ms × (m.new ≡ Some n)

moved_step : (old : Option Node) (u : Unique) (rest : List MovedKey) (n : Node) (more : Bool) (P : Type 0) → (same_node old (Some n) ≡ true → P)
    → (more ≡ true → IsMoved rest n ⊎ P) → (same_node u.node (Some n) || more) ≡ true → IsMoved (moved_key old u rest) n ⊎ P
moved_step old u rest n more P had later e = by (same_node old u.node) refl (same_node u.node (Some n)) refl
  where
    shift : (m : MovedKey) → IsMoved rest n ⊎ P → IsMoved (m ∷ rest) n ⊎ P
    shift m (inl h) = inl (h.0, inr h.1, h.2)
    shift m (inr h) = inr h

    by : (b : Bool) → same_node old u.node ≡ b → (d : Bool) → same_node u.node (Some n) ≡ d
        → IsMoved (cond b rest (record { index = u.index; old = old; new = u.node } ∷ rest)) n ⊎ P
    by true f true g = inr (had (ap (λ x. same_node x (Some n)) (same_is old u.node f) ∙ g))
    by true f false g = later (sym (ap (λ b. b || more) g) ∙ e)
    by false f true g = inl (record { index = u.index; old = old; new = u.node }, inl refl, same_is u.node (Some n) g)
    by false f false g = shift (record { index = u.index; old = old; new = u.node }) (later (sym (ap (λ b. b || more) g) ∙ e))

abbrev pub has_unique : List Unique → Node → Bool
has_unique us n = list_any (λ u. same_node u.node (Some n)) us

-- a node that a record has moved there, or the older record had it
pub moved_or : (olds news : List Unique) (n : Node) → has_unique news n ≡ true → IsMoved (moved_keys olds news) n ⊎ (has_unique olds n ≡ true)
moved_or olds [] n e = absurd (cc e)
moved_or [] (u ∷ us) n e = moved_step None u (moved_keys [] us) n (has_unique us n) (false ≡ true) (λ h. h) (moved_or [] us n) e
moved_or (o ∷ os) (u ∷ us) n e =
    moved_step o.node u (moved_keys os us) n (has_unique us n) ((same_node o.node (Some n) || has_unique os n) ≡ true)
    (λ h. ap (λ b. b || has_unique os n) h) (λ h. keep (moved_or os us n h)) e
  where
    right : (a b : Bool) → b ≡ true → (a || b) ≡ true
    right a b e = grind arith

    keep : IsMoved (moved_keys os us) n ⊎ (has_unique os n ≡ true) → IsMoved (moved_keys os us) n ⊎ ((same_node o.node (Some n) || has_unique os n) ≡ true)
    keep (inl h) = inl h
    keep (inr h) = inr (right (same_node o.node (Some n)) (has_unique os n) h)

pub each_has : {A : Type 0} (P : A → Type 0) (xs : List A) (x : A) → Each P xs → Has x xs → P x
each_has P [] x e h = absurd h
each_has P (y ∷ xs) x e (inl is) = subst P (sym is) e.0
each_has P (y ∷ xs) x e (inr h) = each_has P xs x e.1 h

-- ---- the node tells the extent

unique_global : (key : Key) (name : List ℕ) (subs : Option (List Sub)) (n : Node) → same_node (option_map (key_node key name) subs) (Some n) ≡ true → n.global ≡ index_global key
unfolding key_node
unique_global key name None n e = absurd (cc e)
unique_global key name (Some ss) n e = sym (ap (λ (m : Node). m.global) (one_key node_exact _ n e))

module _ (key : Key) (valued : List (Prop × Field)) (n : Node) where
  among : (is : List Index) → has_unique (map (unique_in key valued) (filter (λ i. i.unique) is)) n ≡ true → n.global ≡ index_global key
  among [] e = absurd (cc e)
  among (i ∷ is) e = by i.unique (λ h. among is h) e
    where
      later : (a b : Bool) → (a ≡ true → n.global ≡ index_global key) → (b ≡ true → n.global ≡ index_global key) → (a || b) ≡ true → n.global ≡ index_global key
      later true b f g e = f refl
      later false b f g e = g e

      by : (u : Bool) → (has_unique (map (unique_in key valued) (filter (λ i. i.unique) is)) n ≡ true → n.global ≡ index_global key)
          → has_unique (map (unique_in key valued) (cond u (i ∷ filter (λ i. i.unique) is) (filter (λ i. i.unique) is))) n ≡ true → n.global ≡ index_global key
      by true more h = later (same_node (unique_in key valued i).node (Some n)) _ (λ f. unique_global key i.name (index_key i valued) n f) more h
      by false more h = more h

node_global : (classes : List Class) (key : Key) (o : Option Record) (n : Node) → has_node_if classes key o n ≡ true → n.global ≡ index_global key
node_global classes key None n e = absurd (cc e)
node_global classes key (Some r) n e = among key (with_fields (props_in (class_of classes r.class)) r.fields) n (indexes_of (class_of classes r.class)) e

pub same_extent : (classes : List Class) (a b : Key) (q r : Option Record) (n : Node) → has_node_if classes a q n ≡ true → has_node_if classes b r n ≡ true → a.extent ≡ b.extent
same_extent classes a b q r n e f =
    let names : a.extent.0 ≡ b.extent.0 = append_cancel_right a.extent.0 b.extent.0 (codes "I") (sym (node_global classes a q n e) ∙ node_global classes b r n f) in
    λ i. record { 0 = names i }

-- ---- no clash

module _ (classes : List Class) (v : World) (c : Change) where
  -- each node that a put moves a key to was vacant
  abbrev pub AreVacant : Type 0
  AreVacant = (k : Key) (r : Record) (p : Place c k r) (n : Node) → IsMoved (keys_changed classes v k r) n → IsVacant classes v p.front k p.back n

  abbrev pub IsClear : World → Type 0
  IsClear w = (a b : Key) (n : Node) → has_node_if classes a (get w a) n ≡ true → has_node_if classes b (get w b) n ≡ true → a ≢ b → ⊥

  pub moved_node : (k : Key) (r : Record) (n : Node) → has_key_node classes k r n ≡ true → IsMoved (keys_changed classes v k r) n ⊎ (has_node_if classes k (get v k) n ≡ true)
  moved_node k r n e = by (get v k) (moved_or (uniques_in classes k (get v k)) (uniques_of classes k r) n e)
    where
      by : (o : Option Record) → IsMoved (keys_changed classes v k r) n ⊎ (has_unique (uniques_in classes k o) n ≡ true) → IsMoved (keys_changed classes v k r) n ⊎ (has_node_if classes k o n ≡ true)
      by None (inl h) = inl h
      by None (inr h) = absurd (cc h)
      by (Some q) h = h

  module _ (vacant : AreVacant) (puts : Each IsPut c) (distinct : AreDistinct c) (clear : IsClear v) where
    final : (k : Key) → get (apply c v) k ≡ or_else (put_in c k) (get v k)
    final k = put_final c v k puts distinct

    -- of an object that isn't put, and of one that is, with how it got the node
    data Comes (k : Key) (n : Node) : Type 0 where
      Stayed : put_in c k ≡ None → has_node_if classes k (get v k) n ≡ true → Comes k n
      Kept : (r : Record) → Place c k r → has_key_node classes k r n ≡ true → has_node_if classes k (get v k) n ≡ true → Comes k n
      Moved : (r : Record) → Place c k r → has_key_node classes k r n ≡ true → IsMoved (keys_changed classes v k r) n → Comes k n

    comes : (k : Key) (n : Node) → has_node_if classes k (get (apply c v) k) n ≡ true → Comes k n
    comes k n e = by (put_in c k) refl
      where
        put : (r : Record) → put_in c k ≡ Some r → has_key_node classes k r n ≡ true → IsMoved (keys_changed classes v k r) n ⊎ (has_node_if classes k (get v k) n ≡ true) → Comes k n
        put r f g (inl m) = Moved r (place_of c k r f) g m
        put r f g (inr h) = Kept r (place_of c k r f) g h

        by : (o : Option Record) → put_in c k ≡ o → Comes k n
        by None f = Stayed f (ap (λ o. has_node_if classes k o n) (sym (final k ∙ ap (λ o. or_else o (get v k)) f)) ∙ e)
        by (Some r) f =
            let g : has_key_node classes k r n ≡ true = ap (λ o. has_node_if classes k o n) (sym (final k ∙ ap (λ o. or_else o (get v k)) f)) ∙ e in
            put r f g (moved_node k r n g)

    -- an object that moved to a node says of another one of its extent that no entry of it stood there
    stands_not : (a b : Key) (ra : Record) (n : Node) → b ≢ a → a.extent ≡ b.extent → (pa : Place c a ra) → IsMoved (keys_changed classes v a ra) n → entry_stands classes v pa.front pa.back b n ≡ false
    stands_not a b ra n ne extent pa moved =
        let is : record { extent = a.extent; id = b.id } ≡ b = λ i. record { extent = extent i; id = b.id } in
        ap (λ k. entry_stands classes v pa.front pa.back k n) (sym is)
        ∙ vacant a ra pa n moved b.id (λ e. ne (λ i. record { extent = sym extent i; id = e i }))

    -- so that one wasn't put before it
    not_put_before : (a b : Key) (ra rb : Record) (n : Node) → b ≢ a → a.extent ≡ b.extent → (pa : Place c a ra) → IsMoved (keys_changed classes v a ra) n
        → put_in c b ≡ Some rb → has_key_node classes b rb n ≡ true → put_in pa.front b ≡ None
    not_put_before a b ra rb n ne extent pa moved f e = by (put_in pa.front b) refl
      where
        by : (o : Option Record) → put_in pa.front b ≡ o → put_in pa.front b ≡ None
        by None g = g
        by (Some q) g =
            let same : Some q ≡ Some rb = sym (ap (λ o. or_else o (put_in pa.back b)) g) ∙ sym (at_place c a b ra pa ne) ∙ f in
            not_both (at q same) (ap (λ o. stands_by classes o (put_in pa.back b) (get v b) b n) (sym g) ∙ stands_not a b ra n ne extent pa moved)
          where
            at : (q : Record) → Some q ≡ Some rb → has_key_node classes b q n ≡ true
            at q s = ap (λ o. has_node_if classes b o n) s ∙ e

    -- and had no such node before, where it has it then
    had_not : (a b : Key) (ra rb : Record) (n : Node) → b ≢ a → a.extent ≡ b.extent → (pa : Place c a ra) → IsMoved (keys_changed classes v a ra) n
        → put_in c b ≡ Some rb → has_key_node classes b rb n ≡ true → has_node_if classes b (get v b) n ≡ false
    had_not a b ra rb n ne extent pa moved f e =
        let none = not_put_before a b ra rb n ne extent pa moved f e in
        let back : put_in pa.back b ≡ Some rb = sym (ap (λ o. or_else o (put_in pa.back b)) none) ∙ sym (at_place c a b ra pa ne) ∙ f in
        let stands : (has_node_if classes b (get v b) n && has_key_node classes b rb n) ≡ false =
        (λ i. stands_by classes (sym none i) (sym back i) (get v b) b n) ∙ stands_not a b ra n ne extent pa moved in
        and_not (has_node_if classes b (get v b) n) (has_key_node classes b rb n) e stands
      where
        and_not : (x y : Bool) → y ≡ true → (x && y) ≡ false → x ≡ false
        and_not x y e f = grind arith

    -- and where it isn't put, it hasn't it
    unput : (a b : Key) (ra : Record) (n : Node) → b ≢ a → a.extent ≡ b.extent → (pa : Place c a ra) → IsMoved (keys_changed classes v a ra) n → put_in c b ≡ None → has_node_if classes b (get v b) n ≡ false
    unput a b ra n ne extent pa moved f =
        let nowhere = neither (put_in pa.front b) (put_in pa.back b) (sym (at_place c a b ra pa ne) ∙ f) in
        (λ i. stands_by classes (sym nowhere.0 i) (sym nowhere.1 i) (get v b) b n) ∙ stands_not a b ra n ne extent pa moved
      where
        neither : (x y : Option Record) → or_else x y ≡ None → (x ≡ None) × (y ≡ None)
        neither None y e = (refl, e)
        neither (Some q) y e = absurd (cc e)

    in_change : (k : Key) (r : Record) → Place c k r → put_in c k ≡ Some r
    in_change k r p = ap (λ x. put_in x k) p.parts ∙ put_append p.front (Put k r ∷ p.back) k ∙ (λ i. or_else (p.none_before i) (cond (same_key k i) (Some r) (put_in p.back k)))

    both : (a b : Key) (n : Node) → Comes a n → Comes b n → a ≢ b → a.extent ≡ b.extent → ⊥
    both a b n (Stayed f e) (Stayed g h) ne x = clear a b n e h ne
    both a b n (Stayed f e) (Kept r p g h) ne x = clear a b n e h ne
    both a b n (Stayed f e) (Moved r p g m) ne x = not_both e (unput b a r n ne (sym x) p m f)
    both a b n (Kept q p e f) (Stayed g h) ne x = clear a b n f h ne
    both a b n (Kept q p e f) (Kept r t g h) ne x = clear a b n f h ne
    both a b n (Kept q p e f) (Moved r t g m) ne x = not_both f (had_not b a r q n ne (sym x) t m (in_change a q p) e)
    both a b n (Moved q p e m) (Stayed g h) ne x = not_both h (unput a b q n (λ y. ne (sym y)) x p m g)
    both a b n (Moved q p e m) (Kept r t g h) ne x = not_both h (had_not a b q r n (λ y. ne (sym y)) x p m (in_change b r t) g)
    both a b n (Moved q p e m) (Moved r t g l) ne x =
        one_first a b q r p.front p.back t.front t.back (sym p.parts ∙ t.parts) ne
        (not_put_before a b q r n (λ y. ne (sym y)) x p m (in_change b r t) g)
        (not_put_before b a r q n ne (sym x) t l (in_change a q p) e)

    pub clear_after : IsClear (apply c v)
    clear_after a b n e f ne = both a b n (comes a n e) (comes b n f) ne (same_extent classes a b (get (apply c v) a) (get (apply c v) b) n e f)
