-- What is found below a new key node is the first that the true cause names.
use Rattle.std.proofs.Common.{◌≡◌, ◌≢◌, inl, inr, ℕ, Bool, true, false, cond, ◌||◌, ◌&&◌, List, [], ◌∷◌, ◌++◌, map, filter, Option, Some, None, option_map, refl, sym, ap, ◌∙◌, subst, arith}
use Rattle.std.specs.FinMap.{get}
use Rattle.std.specs.declared.cmp.Ordering.TheVariants.{Greater}
use Rattle.obj_kinds.specs.declared.node.Node.{Node}
use Rattle.obj_kinds.specs.declared.sub.Sub.{Sub}
use Rattle.obj_kinds.specs.Ids.{id_text}
use Rattle.obj_kinds.specs.Order.{sub_cmp}
use Rattle.obj_kinds.specs.Subscript.{sub_of}
use Rattle.obj_kinds.specs.Texts.{same_text}
use Rattle.obj_kinds.proofs.TextLaws.{same_text-is, is-same_text}
use Rattle.schema_kinds.specs.declared.class.Class.{Class}
use Rattle.schema_kinds.specs.declared.class.Index.{Index}
use Rattle.schema_kinds.specs.declared.key.Key.{Key}
use Rattle.schema_kinds.specs.declared.prop.Prop.{Prop}
use Rattle.schema_kinds.specs.declared.record.Field.{Field}
use Rattle.schema_kinds.specs.declared.record.Record.{Record}
use Rattle.schema_kinds.specs.declared.record.Part.{Part}
use Rattle.schema_kinds.specs.declared.record.Part.TheVariants.{Put, Del}
use Rattle.schema_kinds.specs.Classes.{class_of}
use Rattle.schema_kinds.specs.Worlds.{World, Change, apply}
use Rattle.storage_map.specs.Entries.{index_key, key_node, indexes_of, props_in, with_fields}
use Rattle.storage_map.specs.Keys.{same_node, Unique, unique_in, uniques_of}
use Rattle.storage_map.specs.SoundWorlds.{Clash, has_key_node}
use Rattle.object_calls.specs.Keys.{MovedKey, moved_key, moved_keys}
use Rattle.object_runs.specs.Causes.{Each, Has, HasKeyNode, searched, IsFree, AreFree, IsFreePart, IsFirstTaken, uniques_in, keys_changed}
use Rattle.sound_runs.specs.Closing.{put_in, has_node_if, stands_by}
use Rattle.sound_runs.specs.Taken.{IsSaved, IsOfIndex, IsVacantNode, AreVacant, IsVacantPart, IsFoundBelow, FoundIsTaken}
use Rattle.sound_runs.proofs.Changes.{not_both, apart_key}
use Rattle.sound_runs.proofs.Puts.{IsPut, or_else, put_final, put_append, has_unique}
use Rattle.sound_runs.proofs.Saved.{put_once}
use Rattle.sound_runs.proofs.Counters.{same_node as node_itself}
use Rattle.sound_runs.proofs.Searched.{kept_puts, stands_where_searched, itself_not, vacant_is_free}

-- ---- a moved key is one of the record, and its node begins with its name

abbrev IsOneOf : List Unique → MovedKey → Type 0
IsOneOf us m = (u : Unique) × Has u us × (m.index ≡ u.index) × (m.new ≡ u.node)

moved_here : (old : Option Node) (u : Unique) (us : List Unique) (rest : List MovedKey) (m : MovedKey) → (Has m rest → IsOneOf us m) → Has m (moved_key old u rest) → IsOneOf (u ∷ us) m
moved_here old u us rest m more h = by (same_node old u.node) h
  where
    shift : IsOneOf us m → IsOneOf (u ∷ us) m
    shift x = (x.0, inr x.1, x.2, x.3)

    by : (b : Bool) → Has m (cond b rest (record { index = u.index; old = old; new = u.node } ∷ rest)) → IsOneOf (u ∷ us) m
    by true g = shift (more g)
    by false (inl e) = (u, inl refl, ap (λ (x : MovedKey). x.index) e, ap (λ (x : MovedKey). x.new) e)
    by false (inr g) = shift (more g)

moved_one : (olds news : List Unique) (m : MovedKey) → Has m (moved_keys olds news) → IsOneOf news m
moved_one olds [] m h = absurd h
moved_one [] (u ∷ us) m h = moved_here None u us (moved_keys [] us) m (λ g. moved_one [] us m g) h
moved_one (o ∷ os) (u ∷ us) m h = moved_here o.node u us (moved_keys os us) m (λ g. moved_one os us m g) h

abbrev IsMade : Key → List (Prop × Field) → Unique → Type 0
IsMade key valued u = (i : Index) × (u ≡ unique_in key valued i)

made : (key : Key) (valued : List (Prop × Field)) (is : List Index) (u : Unique) → Has u (map (unique_in key valued) is) → IsMade key valued u
made key valued [] u h = absurd h
made key valued (i ∷ is) u (inl e) = (i, e)
made key valued (i ∷ is) u (inr h) = made key valued is u h

of_index : (key : Key) (name : List ℕ) (subs : Option (List Sub)) (n : Node) → option_map (key_node key name) subs ≡ Some n → IsOfIndex n name
unfolding key_node
of_index key name None n e = absurd (cc e)
of_index key name (Some ss) n e = (ss, ap (λ (m : Node). m.subs) (inner e))
  where
    inner : Some (key_node key name ss) ≡ Some n → n ≡ key_node key name ss
    inner g = cc g

moved_index : (classes : List Class) (v : World) (key : Key) (r : Record) (m : MovedKey) (n : Node) → Has m (keys_changed classes v key r) → m.new ≡ Some n → IsOfIndex n m.index
moved_index classes v key r m n has e =
    let one = moved_one (uniques_in classes key (get v key)) (uniques_of classes key r) m has in
    let i = made key (with_fields (props_in (class_of classes r.class)) r.fields) (filter (λ i. i.unique) (indexes_of (class_of classes r.class))) one.0 one.1 in
    subst (IsOfIndex n) (sym (one.2 ∙ ap (λ (u : Unique). u.index) i.1))
    (of_index key i.0.name (index_key i.0 (with_fields (props_in (class_of classes r.class)) r.fields)) n (sym (ap (λ (u : Unique). u.node) i.1) ∙ sym one.3 ∙ e))

unique_has : (us : List Unique) (u : Unique) (n : Node) → Has u us → u.node ≡ Some n → has_unique us n ≡ true
unique_has [] u n h e = absurd h
unique_has (w ∷ us) u n (inl is) e = left (same_node w.node (Some n)) (has_unique us n) (ap (λ x. same_node x (Some n)) (ap (λ (y : Unique). y.node) (sym is) ∙ e) ∙ node_itself n)
  where
    left : (a b : Bool) → a ≡ true → (a || b) ≡ true
    left a b e = grind arith
unique_has (w ∷ us) u n (inr h) e = right (same_node w.node (Some n)) (has_unique us n) (unique_has us u n h e)
  where
    right : (a b : Bool) → b ≡ true → (a || b) ≡ true
    right a b e = grind arith

moved_has : (classes : List Class) (v : World) (key : Key) (r : Record) (m : MovedKey) (n : Node) → Has m (keys_changed classes v key r) → m.new ≡ Some n → has_key_node classes key r n ≡ true
moved_has classes v key r m n has e =
    let one = moved_one (uniques_in classes key (get v key)) (uniques_of classes key r) m has in
    unique_has (uniques_of classes key r) one.0 n one.1 (sym one.3 ∙ e)

-- ---- parts of lists

amid : {A : Type 0} (f : List A) (x : A) (b : List A) → Has x (f ++ x ∷ b)
amid [] x b = inl refl
amid (y ∷ f) x b = inr (amid f x b)

in_front : {A : Type 0} (f b : List A) (x : A) → Has x f → Has x (f ++ b)
in_front [] b x h = absurd h
in_front (y ∷ f) b x (inl e) = inl e
in_front (y ∷ f) b x (inr h) = inr (in_front f b x h)

append_assoc : {A : Type 0} (f b c : List A) → (f ++ b) ++ c ≡ f ++ (b ++ c)
append_assoc [] b c = refl
append_assoc (y ∷ f) b c = ap (λ z. y ∷ z) (append_assoc f b c)

module _ (classes : List Class) (v : World) (change : Change) (saved : IsSaved classes v change) where
  -- vacant nodes are free
  free_node : (front : Change) (key : Key) (r : Record) (back : Change) (m : MovedKey) (x : Option Node) → change ≡ front ++ Put key r ∷ back → Has m (keys_changed classes v key r) → m.new ≡ x
      → IsVacantNode classes v front key back x → IsFree classes (searched classes v front key m.index back) key.extent x
  free_node front key r back m None parts has e h = tt
  free_node front key r back m (Some n) parts has e h = vacant_is_free classes v front key r back m.index n (subst (IsSaved classes v) parts saved) (moved_index classes v key r m n has e) h

  are_free : (front : Change) (key : Key) (r : Record) (back : Change) (ms : List MovedKey) → change ≡ front ++ Put key r ∷ back → ((m : MovedKey) → Has m ms → Has m (keys_changed classes v key r))
      → AreVacant classes v front key back ms → AreFree classes v front key ms back
  are_free front key r back [] parts within h = tt
  are_free front key r back (m ∷ ms) parts within h =
      (free_node front key r back m m.new parts (within m (inl refl)) refl h.0, are_free front key r back ms parts (λ x g. within x (inr g)) h.1)

  free_part : (front : Change) (x : Part) (back : Change) → change ≡ front ++ x ∷ back → IsVacantPart classes v front x back → IsFreePart classes v front x back
  free_part front (Put key r) back parts h = are_free front key r back (keys_changed classes v key r) parts (λ m g. g) h
  free_part front (Del key) back parts h = tt

  module _ (index id : List ℕ) (n : Node) (found : IsFoundBelow classes v change index id n) where
    within_save : IsSaved classes v (found.front ++ Put found.key found.object ∷ found.back)
    within_save = subst (IsSaved classes v) found.parts saved

    has_moved : Has found.moved (keys_changed classes v found.key found.object)
    has_moved = subst (Has found.moved) (sym found.keys) (amid found.earlier found.moved found.later)

    of_name : IsOfIndex n index
    of_name = subst (IsOfIndex n) found.named (moved_index classes v found.key found.object found.moved n has_moved found.at)

    is_first : IsFirstTaken classes v change index id n
    is_first = record {
      front = found.front;
      key = found.key;
      object = found.object;
      back = found.back;
      parts = found.parts;
      earlier = found.earlier;
      moved = found.moved;
      later = found.later;
      keys = found.keys;
      named = found.named;
      at = found.at;
      taken = record {
        has = (stands_where_searched classes v found.front found.key found.object found.back index n id within_save of_name found.another).0 found.stands;
        least = least;
      };
      free = are_free found.front found.key found.object found.back found.earlier found.parts (λ m h. subst (Has m) (sym found.keys) (in_front found.earlier (found.moved ∷ found.later) m h)) found.vacant;
      before = λ f x b e. free_part f x (b ++ Put found.key found.object ∷ found.back) (found.parts ∙ ap (λ y. y ++ Put found.key found.object ∷ found.back) e ∙ append_assoc f (x ∷ b) (Put found.key found.object ∷ found.back)) (found.before f x b e);
    }
      where
        least : (other : List ℕ) → HasKeyNode classes (searched classes v found.front found.key index found.back) found.key.extent n other → sub_cmp (sub_of (id_text id)) (sub_of (id_text other)) ≢ Greater
        least other h = by (same_text other found.key.id) refl
          where
            by : (b : Bool) → same_text other found.key.id ≡ b → sub_cmp (sub_of (id_text id)) (sub_of (id_text other)) ≢ Greater
            by true e =
                absurd (itself_not classes v found.front found.key found.object found.back index n within_save
                (subst (λ x. HasKeyNode classes (searched classes v found.front found.key index found.back) found.key.extent n x) (same_text-is other found.key.id e) h))
            by false e =
                let ne : other ≢ found.key.id = λ is. not_both (is-same_text other found.key.id is) e in
                found.least other ne ((stands_where_searched classes v found.front found.key found.object found.back index n other within_save of_name ne).1 h)

    -- ---- the clash

    abbrev taker : Key
    taker = record { extent = found.key.extent; id = id }

    other_key : taker ≢ found.key
    other_key e = found.another (ap (λ (k : Key). k.id) e)

    puts : Each IsPut change
    puts = kept_puts classes v change saved.classes_kept

    final : (k : Key) → get (apply change v) k ≡ or_else (put_in change k) (get v k)
    final k = put_final change v k puts saved.distinct

    own_record : get (apply change v) found.key ≡ Some found.object
    own_record = final found.key ∙ ap (λ x. or_else x (get v found.key)) (put_once change found.key found.object saved.distinct (subst (Has (Put found.key found.object)) (sym found.parts) (amid found.front (Put found.key found.object) found.back)))

    placed : put_in change taker ≡ or_else (put_in found.front taker) (put_in found.back taker)
    placed =
        ap (λ x. put_in x taker) found.parts ∙ put_append found.front (Put found.key found.object ∷ found.back) taker
        ∙ ap (λ d. or_else (put_in found.front taker) (cond d (Some found.object) (put_in found.back taker))) (apart_key taker found.key other_key)

    takes : has_node_if classes taker (get (apply change v) taker) n ≡ true
    takes = ap (λ x. has_node_if classes taker x n) (final taker ∙ ap (λ x. or_else x (get v taker)) placed) ∙ by (put_in found.front taker) (put_in found.back taker) refl refl found.stands
      where
        second : (a b : Bool) → (a && b) ≡ true → b ≡ true
        second true b e = e
        second false b e = absurd (cc e)

        by : (x y : Option Record) → put_in found.front taker ≡ x → put_in found.back taker ≡ y → stands_by classes x y (get v taker) taker n ≡ true → has_node_if classes taker (or_else (or_else x y) (get v taker)) n ≡ true
        by (Some q) y e f h = h
        by None (Some q) e f h = second (has_node_if classes taker (get v taker) n) (has_key_node classes taker q n) h
        by None None e f h = h

    clash : (a : Key) × (b : Key) × Clash classes (apply change v) a b
    clash = by (get (apply change v) taker) refl takes
      where
        by : (x : Option Record) → get (apply change v) taker ≡ x → has_node_if classes taker x n ≡ true → (a : Key) × (b : Key) × Clash classes (apply change v) a b
        by None e h = absurd (cc h)
        by (Some q) e h = (
          taker,
          found.key,
          record {
            node = n;
            one = q;
            other = found.object;
            apart = other_key;
            first = (e, h);
            second = (own_record, moved_has classes v found.key found.object found.moved n has_moved found.at);
          },
        )

pub found_is_taken : FoundIsTaken
found_is_taken classes v change index id n saved found = (is_first classes v change saved index id n found, clash classes v change saved index id n found)
