-- Entries that stand while a save writes are keys of the searched world.
use Rattle.std.proofs.Common.{◌≡◌, ◌≢◌, ◌⊎◌, inl, inr, ℕ, Bool, true, false, cond, ◌||◌, ◌&&◌, List, [], ◌∷◌, ◌++◌, map, filter, Option, Some, None, option_map, refl, sym, ap, ◌∙◌, subst, arith}
use Rattle.std.specs.FinMap.{get, remove, get-remove}
use Rattle.obj_kinds.specs.declared.name.ClassName.{ClassName}
use Rattle.obj_kinds.specs.declared.node.Node.{Node}
use Rattle.obj_kinds.specs.declared.sub.Sub.{Sub}
use Rattle.obj_kinds.specs.declared.sub.Sub.TheVariants.{Str}
use Rattle.obj_kinds.specs.Texts.{same_text}
use Rattle.obj_kinds.proofs.TextLaws.{same_text-is, is-same_text}
use Rattle.schema_kinds.specs.declared.class.Class.{Class}
use Rattle.schema_kinds.specs.declared.class.Index.{Index}
use Rattle.schema_kinds.specs.declared.key.Key.{Key}
use Rattle.schema_kinds.specs.declared.prop.Prop.{Prop}
use Rattle.schema_kinds.specs.declared.record.Field.{Field}
use Rattle.schema_kinds.specs.declared.record.Record.{Record}
use Rattle.schema_kinds.specs.declared.record.Part.TheVariants.{Put, Del}
use Rattle.schema_kinds.specs.Classes.{class_of}
use Rattle.schema_kinds.specs.KeyLaws.{key_total}
use Rattle.schema_kinds.specs.Worlds.{World, Change, apply}
use Rattle.storage_map.specs.Entries.{index_key, key_node, indexes_of, props_in, with_fields}
use Rattle.storage_map.specs.Keys.{same_node, Unique, unique_in, uniques_of}
use Rattle.storage_map.specs.SoundWorlds.{has_key_node}
use Rattle.object_calls.specs.Keys.{MovedKey, moved_key, moved_keys}
use Rattle.object_calls.specs.Saves.{is_key}
use Rattle.object_runs.specs.Causes.{Each, HasKeyNode, moves_index, without_movers, searched, uniques_in, keys_changed}
use Rattle.object_runs.specs.Invariant.{changes}
use Rattle.sound_runs.specs.Closing.{put_in, has_node_if, stands_by, entry_stands, AreDistinct}
use Rattle.sound_runs.specs.Taken.{IsNoName, AreNamedApart, HasApartIndexes, KeepsClass, KeepClasses, IsSaved, IsOfIndex, StandsWhereSearched, NotItself, VacantIsFree}
use Rattle.sound_runs.proofs.Changes.{or_false, or_true, not_both, not_true, same_key, key_is, apart_key, changes-append}
use Rattle.sound_runs.proofs.Puts.{IsPut, or_else, put_none, put_final, put_append, same_is, has_unique}

-- ---- the index of a node

module _ (key : Key) (n : Node) (index : List ℕ) (named : IsOfIndex n index) where
  -- a unique index of the key with the node has the name
  index_is : (name : List ℕ) (subs : Option (List Sub)) → same_node (option_map (key_node key name) subs) (Some n) ≡ true → name ≡ index
  unfolding key_node
  index_is name None e = absurd (cc e)
  index_is name (Some ss) e = texts (heads (inner (same_is (Some (key_node key name ss)) (Some n) e)))
    where
      inner : Some (key_node key name ss) ≡ Some n → Str name ∷ ss ≡ Str index ∷ named.0
      inner g = nodes g ∙ named.1
        where
          nodes : Some (key_node key name ss) ≡ Some n → Str name ∷ ss ≡ n.subs
          nodes g = ap (λ (m : Node). m.subs) (one g)
            where
              one : Some (key_node key name ss) ≡ Some n → record { global = (key_node key name ss).global; subs = Str name ∷ ss } ≡ n
              one g = cc g

      heads : Str name ∷ ss ≡ Str index ∷ named.0 → Str name ≡ Str index
      heads g = cc g

      texts : Str name ≡ Str index → name ≡ index
      texts g = cc g

  module _ (old now : List (Prop × Field)) where
    abbrev olds : List Index → List Unique
    olds is = map (unique_in key old) is

    abbrev news : List Index → List Unique
    news is = map (unique_in key now) is

    -- where no index has the name, none has the node, and none of that name moves
    no_name_no_node : (valued : List (Prop × Field)) (is : List Index) → IsNoName index is → has_unique (map (unique_in key valued) is) n ≡ false
    no_name_no_node valued [] h = refl
    no_name_no_node valued (i ∷ is) h = neither (not_true (same_node (unique_in key valued i).node (Some n)) (λ e. not_both (is-same_text i.name index (index_is i.name (index_key i valued) e)) h.0)) (no_name_no_node valued is h.1)
      where
        neither : {a b : Bool} → a ≡ false → b ≡ false → (a || b) ≡ false
        neither e f = grind arith

    moves_in : (i : Index) (rest : List MovedKey) → same_text i.name index ≡ false → moves_index index (moved_key (unique_in key old i).node (unique_in key now i) rest) ≡ moves_index index rest
    moves_in i rest e = by (same_node (unique_in key old i).node (unique_in key now i).node)
      where
        by : (b : Bool) → moves_index index (cond b rest (record { index = i.name; old = (unique_in key old i).node; new = (unique_in key now i).node } ∷ rest)) ≡ moves_index index rest
        by true = refl
        by false = ap (λ b. b || moves_index index rest) e

    no_name_no_move : (is : List Index) → IsNoName index is → moves_index index (moved_keys (olds is) (news is)) ≡ false
    no_name_no_move [] h = refl
    no_name_no_move (i ∷ is) h = moves_in i (moved_keys (olds is) (news is)) h.0 ∙ no_name_no_move is h.1

    -- an index that has the node before and after doesn't move
    both_still : (is : List Index) → AreNamedApart is → has_unique (olds is) n ≡ true → has_unique (news is) n ≡ true → moves_index index (moved_keys (olds is) (news is)) ≡ false
    both_still [] apart e f = refl
    both_still (i ∷ is) apart e f = by (same_text i.name index) refl (λ g h. both_still is apart.1 g h)
      where
        only : (b c : Bool) → (b || c) ≡ true → c ≡ false → b ≡ true
        only b c e f = grind arith

        other : (b c : Bool) → (b || c) ≡ true → b ≡ false → c ≡ true
        other b c e f = grind arith

        away : (valued : List (Prop × Field)) → same_text i.name index ≡ false → same_node (unique_in key valued i).node (Some n) ≡ false
        away valued g = not_true (same_node (unique_in key valued i).node (Some n)) (λ h. not_both (is-same_text i.name index (index_is i.name (index_key i valued) h)) g)

        by : (b : Bool) → same_text i.name index ≡ b → (has_unique (olds is) n ≡ true → has_unique (news is) n ≡ true → moves_index index (moved_keys (olds is) (news is)) ≡ false)
            → moves_index index (moved_key (unique_in key old i).node (unique_in key now i) (moved_keys (olds is) (news is))) ≡ false
        by false g more =
            moves_in i (moved_keys (olds is) (news is)) g
            ∙ more (other (same_node (unique_in key old i).node (Some n)) (has_unique (olds is) n) e (away old g)) (other (same_node (unique_in key now i).node (Some n)) (has_unique (news is) n) f (away now g))
        by true g more =
            let none : IsNoName index is = subst (λ x. IsNoName x is) (same_text-is i.name index g) apart.0 in
            let was = same_is (unique_in key old i).node (Some n) (only (same_node (unique_in key old i).node (Some n)) (has_unique (olds is) n) e (no_name_no_node old is none)) in
            let now_is = same_is (unique_in key now i).node (Some n) (only (same_node (unique_in key now i).node (Some n)) (has_unique (news is) n) f (no_name_no_node now is none)) in
            ap (λ b. moves_index index (cond b (moved_keys (olds is) (news is)) (record { index = i.name; old = (unique_in key old i).node; new = (unique_in key now i).node } ∷ moved_keys (olds is) (news is))))
            (ap (λ x. same_node x (unique_in key now i).node) was ∙ ap (same_node (Some n)) now_is ∙ itself)
            ∙ no_name_no_move is none
          where
            itself : same_node (Some n) (Some n) ≡ true
            itself = Rattle.sound_runs.proofs.Counters.same_node n

    -- an index that doesn't move has the node after, where it had it before
    still_has : (is : List Index) → moves_index index (moved_keys (olds is) (news is)) ≡ false → has_unique (olds is) n ≡ true → has_unique (news is) n ≡ true
    still_has [] e f = f
    still_has (i ∷ is) e f = by (same_node (unique_in key old i).node (unique_in key now i).node) refl (λ g h. still_has is g h) e (or_true (same_node (unique_in key old i).node (Some n)) (has_unique (olds is) n) f)
      where
        left : (a b : Bool) → a ≡ true → (a || b) ≡ true
        left a b e = grind arith

        right : (a b : Bool) → b ≡ true → (a || b) ≡ true
        right a b e = grind arith

        by : (b : Bool) → same_node (unique_in key old i).node (unique_in key now i).node ≡ b → (moves_index index (moved_keys (olds is) (news is)) ≡ false → has_unique (olds is) n ≡ true → has_unique (news is) n ≡ true)
            → moves_index index (cond b (moved_keys (olds is) (news is)) (record { index = i.name; old = (unique_in key old i).node; new = (unique_in key now i).node } ∷ moved_keys (olds is) (news is))) ≡ false
            → (same_node (unique_in key old i).node (Some n) ≡ true) ⊎ (has_unique (olds is) n ≡ true) → (same_node (unique_in key now i).node (Some n) || has_unique (news is) n) ≡ true
        by true g more h (inl x) = left (same_node (unique_in key now i).node (Some n)) (has_unique (news is) n) (ap (λ y. same_node y (Some n)) (sym (same_is (unique_in key old i).node (unique_in key now i).node g)) ∙ x)
        by true g more h (inr x) = right (same_node (unique_in key now i).node (Some n)) (has_unique (news is) n) (more h x)
        by false g more h (inl x) = not_both (left (same_text i.name index) (moves_index index (moved_keys (olds is) (news is))) (is-same_text i.name index (index_is i.name (index_key i old) x))) h
        by false g more h (inr x) = right (same_node (unique_in key now i).node (Some n)) (has_unique (news is) n) (more (or_false (same_text i.name index) (moves_index index (moved_keys (olds is) (news is))) h).1 x)

-- ---- of records

abbrev uniques_by : List Class → Key → Record → ClassName → List Unique
uniques_by classes key r class = map (unique_in key (with_fields (props_in (class_of classes class)) r.fields)) (filter (λ i. i.unique) (indexes_of (class_of classes class)))

module _ (classes : List Class) (key : Key) (old r : Record) (n : Node) (index : List ℕ) (named : IsOfIndex n index) (same : old.class ≡ r.class) where
  valued : Record → List (Prop × Field)
  valued q = with_fields (props_in (class_of classes r.class)) q.fields

  pub record_still : HasApartIndexes classes r.class → has_key_node classes key old n ≡ true → has_key_node classes key r n ≡ true → moves_index index (moved_keys (uniques_of classes key old) (uniques_of classes key r)) ≡ false
  record_still apart e f =
      subst (λ c. has_unique (uniques_by classes key old c) n ≡ true → moves_index index (moved_keys (uniques_by classes key old c) (uniques_of classes key r)) ≡ false) (sym same)
      (λ g. both_still key n index named (with_fields (props_in (class_of classes r.class)) old.fields) (with_fields (props_in (class_of classes r.class)) r.fields) (filter (λ i. i.unique) (indexes_of (class_of classes r.class))) apart g f) e

  pub record_keeps : moves_index index (moved_keys (uniques_of classes key old) (uniques_of classes key r)) ≡ false → has_key_node classes key old n ≡ true → has_key_node classes key r n ≡ true
  record_keeps e f =
      subst (λ c. moves_index index (moved_keys (uniques_by classes key old c) (uniques_of classes key r)) ≡ false → has_unique (uniques_by classes key old c) n ≡ true → has_key_node classes key r n ≡ true) (sym same)
      (λ g h. still_has key n index named (with_fields (props_in (class_of classes r.class)) old.fields) (with_fields (props_in (class_of classes r.class)) r.fields) (filter (λ i. i.unique) (indexes_of (class_of classes r.class))) g h) e f

-- ---- the searched world

module _ (classes : List Class) (v : World) (index : List ℕ) where
  removed : (m : Bool) (w : World) (k b : Key) → is_key b k ≡ false → get (cond m (remove w k) w) b ≡ get w b
  removed true w k b e = get-remove key_total w k b ∙ ap (λ x. cond x None (get w b)) e
  removed false w k b e = refl

  -- a key that isn't put stays
  unmoved_stays : (c : Change) (w : World) (b : Key) → Each IsPut c → put_in c b ≡ None → get (without_movers classes v index c w) b ≡ get w b
  unmoved_stays [] w b puts e = refl
  unmoved_stays (Put k r ∷ c) w b puts e = by (is_key b k) refl (λ u f. unmoved_stays c u b puts.1 f)
    where
      by : (x : Bool) → is_key b k ≡ x → ((u : World) → put_in c b ≡ None → get (without_movers classes v index c u) b ≡ get u b)
          → get (without_movers classes v index c (cond (moves_index index (keys_changed classes v k r)) (remove w k) w)) b ≡ get w b
      by true f more = absurd (cc (sym (ap (λ x. cond x (Some r) (put_in c b)) f) ∙ e))
      by false f more =
          more (cond (moves_index index (keys_changed classes v k r)) (remove w k) w) (sym (ap (λ x. cond x (Some r) (put_in c b)) f) ∙ e)
          ∙ removed (moves_index index (keys_changed classes v k r)) w k b f
  unmoved_stays (Del k ∷ c) w b puts e = absurd puts.0

  -- one that is put stays unless it moves its key of the index
  mover_goes : (c : Change) (w : World) (b : Key) (q : Record) → Each IsPut c → AreDistinct c → put_in c b ≡ Some q
      → get (without_movers classes v index c w) b ≡ cond (moves_index index (keys_changed classes v b q)) None (get w b)
  mover_goes [] w b q puts d e = absurd (cc e)
  mover_goes (Put k r ∷ c) w b q puts d e = by (is_key b k) refl (λ u f. mover_goes c u b q puts.1 d.1 f)
    where
      at : (m : Bool) → get (cond m (remove w b) w) b ≡ cond m None (get w b)
      at true = get-remove key_total w b b ∙ ap (λ x. cond x None (get w b)) (same_key b)
      at false = refl

      inner : Some r ≡ Some q → r ≡ q
      inner g = cc g

      here : b ≡ k → r ≡ q → get (cond (moves_index index (keys_changed classes v k r)) (remove w k) w) b ≡ cond (moves_index index (keys_changed classes v b q)) None (get w b)
      here is same =
          (λ i. get (cond (moves_index index (keys_changed classes v (sym is i) (same i))) (remove w (sym is i)) w) b)
          ∙ at (moves_index index (keys_changed classes v b q))

      by : (x : Bool) → is_key b k ≡ x → ((u : World) → put_in c b ≡ Some q → get (without_movers classes v index c u) b ≡ cond (moves_index index (keys_changed classes v b q)) None (get u b))
          → get (without_movers classes v index c (cond (moves_index index (keys_changed classes v k r)) (remove w k) w)) b ≡ cond (moves_index index (keys_changed classes v b q)) None (get w b)
      by true f more =
          unmoved_stays c (cond (moves_index index (keys_changed classes v k r)) (remove w k) w) b puts.1 (put_none c b (ap (changes c) (key_is b k f) ∙ d.0))
          ∙ here (key_is b k f) (inner (sym (ap (λ x. cond x (Some r) (put_in c b)) f) ∙ e))
      by false f more =
          more (cond (moves_index index (keys_changed classes v k r)) (remove w k) w) (sym (ap (λ x. cond x (Some r) (put_in c b)) f) ∙ e)
          ∙ ap (cond (moves_index index (keys_changed classes v b q)) None) (removed (moves_index index (keys_changed classes v k r)) w k b f)
  mover_goes (Del k ∷ c) w b q puts d e = absurd puts.0

-- ---- changes of a save

pub kept_puts : (classes : List Class) (v : World) (c : Change) → KeepClasses classes v c → Each IsPut c
kept_puts classes v [] h = tt
kept_puts classes v (Put k r ∷ c) h = (tt, kept_puts classes v c h.1)
kept_puts classes v (Del k ∷ c) h = absurd h.0

puts_front : (f g : Change) → Each IsPut (f ++ g) → Each IsPut f
puts_front [] g h = tt
puts_front (x ∷ f) g h = (h.0, puts_front f g h.1)

puts_back : (f g : Change) → Each IsPut (f ++ g) → Each IsPut g
puts_back [] g h = h
puts_back (x ∷ f) g h = puts_back f g h.1

distinct_front : (f g : Change) → AreDistinct (f ++ g) → AreDistinct f
distinct_front [] g h = tt
distinct_front (Put k r ∷ f) g h = ((or_false (changes f k) (changes g k) (sym (changes-append f g k) ∙ h.0)).0, distinct_front f g h.1)
distinct_front (Del k ∷ f) g h = ((or_false (changes f k) (changes g k) (sym (changes-append f g k) ∙ h.0)).0, distinct_front f g h.1)

distinct_back : (f g : Change) → AreDistinct (f ++ g) → AreDistinct g
distinct_back [] g h = h
distinct_back (Put k r ∷ f) g h = distinct_back f g h.1
distinct_back (Del k ∷ f) g h = distinct_back f g h.1

-- what is put in front isn't put behind
front_not_back : (f g : Change) (b : Key) (q : Record) → AreDistinct (f ++ g) → put_in f b ≡ Some q → put_in g b ≡ None
front_not_back [] g b q d e = absurd (cc e)
front_not_back (Put k r ∷ f) g b q d e = by (is_key b k) refl (λ x. front_not_back f g b q d.1 x)
  where
    by : (x : Bool) → is_key b k ≡ x → (put_in f b ≡ Some q → put_in g b ≡ None) → put_in g b ≡ None
    by true h more = put_none g b (ap (changes g) (key_is b k h) ∙ (or_false (changes f k) (changes g k) (sym (changes-append f g k) ∙ d.0)).1)
    by false h more = more (sym (ap (λ x. cond x (Some r) (put_in f b)) h) ∙ e)
front_not_back (Del k ∷ f) g b q d e = front_not_back f g b q d.1 e

kept_at : (classes : List Class) (v : World) (c : Change) (b : Key) (q : Record) → KeepClasses classes v c → put_in c b ≡ Some q → KeepsClass classes v (Put b q)
kept_at classes v [] b q h e = absurd (cc e)
kept_at classes v (Put k r ∷ c) b q h e = by (is_key b k) refl (λ x. kept_at classes v c b q h.1 x)
  where
    inner : Some r ≡ Some q → r ≡ q
    inner g = cc g

    by : (x : Bool) → is_key b k ≡ x → (put_in c b ≡ Some q → KeepsClass classes v (Put b q)) → KeepsClass classes v (Put b q)
    by true f more =
        subst (λ j. KeepsClass classes v (Put j q)) (sym (key_is b k f))
        (subst (λ y. KeepsClass classes v (Put k y)) (inner (sym (ap (λ x. cond x (Some r) (put_in c b)) f) ∙ e)) h.0)
    by false f more = more (sym (ap (λ x. cond x (Some r) (put_in c b)) f) ∙ e)
kept_at classes v (Del k ∷ c) b q h e = absurd h.0

module _ (classes : List Class) (v : World) (front : Change) (key : Key) (r : Record) (back : Change) (index : List ℕ) (n : Node) (saved : IsSaved classes v (front ++ Put key r ∷ back)) where
  abbrev place : World
  place = searched classes v front key index back

  abbrev c : Change
  c = front ++ Put key r ∷ back

  puts : Each IsPut (front ++ Put key r ∷ back)
  puts = kept_puts classes v (front ++ Put key r ∷ back) saved.classes_kept

  back_puts : Each IsPut back
  back_puts = (puts_back front (Put key r ∷ back) puts).1

  back_distinct : AreDistinct (Put key r ∷ back)
  back_distinct = distinct_back front (Put key r ∷ back) saved.distinct

  -- before the later movers are left out
  before : (b : Key) → b ≢ key → get (remove (apply front v) key) b ≡ or_else (put_in front b) (get v b)
  before b ne =
      get-remove key_total (apply front v) key b ∙ ap (λ x. cond x None (get (apply front v) b)) (apart_key b key ne)
      ∙ put_final front v b (puts_front front (Put key r ∷ back) puts) (distinct_front front (Put key r ∷ back) saved.distinct)

  pub not_itself : get place key ≡ None
  not_itself =
      unmoved_stays classes v index back (remove (apply front v) key) key back_puts (put_none back key back_distinct.0)
      ∙ get-remove key_total (apply front v) key key ∙ ap (λ x. cond x None (get (apply front v) key)) (same_key key)

  back_in : (b : Key) → b ≢ key → put_in front b ≡ None → put_in (front ++ Put key r ∷ back) b ≡ put_in back b
  back_in b ne f = put_append front (Put key r ∷ back) b ∙ ap (λ x. or_else x (put_in (Put key r ∷ back) b)) f ∙ ap (λ x. cond x (Some r) (put_in back b)) (apart_key b key ne)

  module _ (named : IsOfIndex n index) where
    -- the searched world has the node of another key exactly where an entry stands
    same_there : (b : Key) → b ≢ key → (x y : Option Record) → put_in front b ≡ x → put_in back b ≡ y → has_node_if classes b (get place b) n ≡ entry_stands classes v front back b n
    same_there b ne (Some q) y f g =
        ap (λ z. has_node_if classes b z n)
        (unmoved_stays classes v index back (remove (apply front v) key) b back_puts (back_none b ne q f) ∙ before b ne ∙ ap (λ z. or_else z (get v b)) f)
        ∙ sym (ap (λ z. stands_by classes z (put_in back b) (get v b) b n) f)
      where
        back_none : (b : Key) → b ≢ key → (q : Record) → put_in front b ≡ Some q → put_in back b ≡ None
        back_none b ne q f = sym (ap (λ x. cond x (Some r) (put_in back b)) (apart_key b key ne)) ∙ front_not_back front (Put key r ∷ back) b q saved.distinct f
    same_there b ne None None f g =
        ap (λ z. has_node_if classes b z n)
        (unmoved_stays classes v index back (remove (apply front v) key) b back_puts g ∙ before b ne ∙ ap (λ z. or_else z (get v b)) f)
        ∙ sym (λ i. stands_by classes (f i) (g i) (get v b) b n)
    same_there b ne None (Some q) f g =
        ap (λ z. has_node_if classes b z n)
        (mover_goes classes v index back (remove (apply front v) key) b q back_puts back_distinct.1 g ∙ ap (cond (moves_index index (keys_changed classes v b q)) None) (before b ne ∙ ap (λ z. or_else z (get v b)) f))
        ∙ at (get v b) refl
        ∙ sym (λ i. stands_by classes (f i) (g i) (get v b) b n)
      where
        kept : KeepsClass classes v (Put b q)
        kept = kept_at classes v (front ++ Put key r ∷ back) b q saved.classes_kept (back_in b ne f ∙ g)

        old_at : (old : Record) → get v b ≡ Some old → (m h l : Bool) → moves_index index (moved_keys (uniques_of classes b old) (uniques_of classes b q)) ≡ m → has_key_node classes b old n ≡ h → has_key_node classes b q n ≡ l
            → has_node_if classes b (cond m None (Some old)) n ≡ (h && l)
        old_at old e true true true i j k = not_both i (record_still classes b old q n index named (kept.0 old e) kept.1 j k)
        old_at old e true true false i j k = refl
        old_at old e true false l i j k = refl
        old_at old e false true true i j k = j
        old_at old e false true false i j k = not_both (record_keeps classes b old q n index named (kept.0 old e) i j) k
        old_at old e false false l i j k = j

        at : (x : Option Record) → get v b ≡ x → has_node_if classes b (cond (moves_index index (keys_changed classes v b q)) None (get v b)) n ≡ (has_node_if classes b (get v b) n && has_key_node classes b q n)
        at None e = ap (λ y. has_node_if classes b (cond (moves_index index (keys_changed classes v b q)) None y) n) e ∙ none (moves_index index (keys_changed classes v b q)) ∙ sym (ap (λ y. has_node_if classes b y n && has_key_node classes b q n) e)
          where
            none : (m : Bool) → has_node_if classes b (cond m None None) n ≡ false
            none true = refl
            none false = refl
        at (Some old) e =
            (λ i. has_node_if classes b (cond (moves_index index (moved_keys (uniques_in classes b (e i)) (uniques_of classes b q))) None (e i)) n)
            ∙ old_at old e (moves_index index (moved_keys (uniques_of classes b old) (uniques_of classes b q))) (has_key_node classes b old n) (has_key_node classes b q n) refl refl refl
            ∙ sym (ap (λ y. has_node_if classes b y n && has_key_node classes b q n) e)

    pub there_as_stands : (b : Key) → b ≢ key → has_node_if classes b (get place b) n ≡ entry_stands classes v front back b n
    there_as_stands b ne = same_there b ne (put_in front b) (put_in back b) refl refl

has_node : (classes : List Class) (w : World) (extent : ClassName) (n : Node) (id : List ℕ) → HasKeyNode classes w extent n id → has_node_if classes (record { extent = extent; id = id }) (get w (record { extent = extent; id = id })) n ≡ true
has_node classes w extent n id h = ap (λ x. has_node_if classes (record { extent = extent; id = id }) x n) h.there ∙ h.node

node_has : (classes : List Class) (w : World) (extent : ClassName) (n : Node) (id : List ℕ) → has_node_if classes (record { extent = extent; id = id }) (get w (record { extent = extent; id = id })) n ≡ true → HasKeyNode classes w extent n id
node_has classes w extent n id e = by (get w (record { extent = extent; id = id })) refl e
  where
    by : (x : Option Record) → get w (record { extent = extent; id = id }) ≡ x → has_node_if classes (record { extent = extent; id = id }) x n ≡ true → HasKeyNode classes w extent n id
    by None f g = absurd (cc g)
    by (Some r) f g = record { object = r; there = f; node = g }

pub stands_where_searched : StandsWhereSearched
stands_where_searched classes v front key r back index n id saved named ne =
    let same = there_as_stands classes v front key r back index n saved named (record { extent = key.extent; id = id }) (λ e. ne (ap (λ (k : Key). k.id) e)) in (
      (λ e. node_has classes (searched classes v front key index back) key.extent n id (same ∙ e)),
      (λ h. sym same ∙ has_node classes (searched classes v front key index back) key.extent n id h),
    )

pub itself_not : NotItself
itself_not classes v front key r back index n saved h = cc (sym (not_itself classes v front key r back index n saved) ∙ h.there)

pub vacant_is_free : VacantIsFree
vacant_is_free classes v front key r back index n saved named vacant id h = by (same_text id key.id) refl
  where
    by : (b : Bool) → same_text id key.id ≡ b → ⊥
    by true e = itself_not classes v front key r back index n saved (subst (λ x. HasKeyNode classes (searched classes v front key index back) key.extent n x) (same_text-is id key.id e) h)
    by false e =
        let other : id ≢ key.id = λ is. not_both (is-same_text id key.id is) e in
        not_both ((stands_where_searched classes v front key r back index n id saved named other).1 h) (vacant id other)
