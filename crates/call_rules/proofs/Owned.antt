-- Of which index or one side an entry is, and what guards it.
use Rattle.std.proofs.Common.{◌≡◌, ◌⊎◌, inl, inr, ⊎_elim, ℕ, zero, suc, Bool, true, false, cond, ◌&&◌, ◌||◌, not, List, [], ◌∷◌, ◌++◌, map, filter, slice_get, Option, Some, None, is_some, option_map, refl, sym, ap, subst, ◌∙◌}
use Rattle.std.specs.List.{list_any, filter_map, cons_option}
use Rattle.std.specs.Fmt.{digits}
use Rattle.std.specs.Ordering.{eq_by_cmp}
use Rattle.std.specs.FinMap.{find, get, get-from_entries}
use Rattle.obj_kinds.specs.declared.name.ClassName.{ClassName}
use Rattle.obj_kinds.specs.declared.node.Node.{Node}
use Rattle.obj_kinds.specs.declared.sub.Sub.{Sub}
use Rattle.obj_kinds.specs.declared.sub.Sub.TheVariants.{Str}
use Rattle.obj_kinds.specs.declared.value.Value.{Value}
use Rattle.obj_kinds.specs.declared.value.Value.TheVariants as value
use Rattle.obj_kinds.specs.declared.op.Pid.{Pid}
use Rattle.obj_kinds.specs.Ids.{id_text}
use Rattle.obj_kinds.specs.Subscript.{sub_of, whole_of, is_number, number_in}
use Rattle.obj_kinds.specs.IdReading.{id_in, part_in}
use Rattle.obj_kinds.specs.Order.{node_cmp}
use Rattle.obj_kinds.specs.Texts.{same_text}
use Rattle.obj_kinds.proofs.OrderLemmas.{node_total, node_exact}
use Rattle.obj_kinds.proofs.TextLaws.{is-same_text, same_text-is}
use Rattle.global_tree.proofs.MapLaws.{one_key}
use Rattle.schema_kinds.specs.declared.class.Class.{Class}
use Rattle.schema_kinds.specs.declared.class.Index.{Index}
use Rattle.schema_kinds.specs.declared.key.Key.{Key}
use Rattle.schema_kinds.specs.declared.kind.Kind.{Kind}
use Rattle.schema_kinds.specs.declared.kind.Kind.TheVariants as kind
use Rattle.schema_kinds.specs.declared.prop.Prop.{Prop}
use Rattle.schema_kinds.specs.declared.record.Field.{Field}
use Rattle.schema_kinds.specs.declared.record.Field.TheOpen.{Field-F}
use Rattle.schema_kinds.specs.declared.record.Field.TheViews.{out-Field}
use Rattle.schema_kinds.specs.declared.record.Record.{Record}
use Rattle.schema_kinds.specs.Classes.{class_names, class_of, extent_of}
use Rattle.storage_map.specs.Markers.{is_extent}
use Rattle.storage_map.specs.Entries.{pair_up, with_fields, indexed, value_of, or_blank, index_key, key_node, entry_node, entry_if, side_entry, index_entries, side_entries, indexes_of, props_in, entry_list, valued_empty, entries}
use Rattle.storage_map.specs.Worlds.{extent_with, owner, IsKeyOf}
use Rattle.world_images.proofs.EntryLaws.{index_extent, class_listed, IsListed, entries_belong}
use Rattle.world_images.proofs.TurnLaws.{entry_global, entry_subs}
use Rattle.lock_table.specs.Holds.{Holds}
use Rattle.store_core.specs.Guard.{Guarding, Unguarded, GuardedBy, HoldsGuard, HoldsToEnd}
use Rattle.object_runs.specs.Causes.{Has}
use Rattle.object_runs.specs.Invariant.{is_unique_name, is_side_name, names_target, without_last, entry_guarding, guarding_in, key_guard}
use Rattle.call_rules.specs.Schemas.{IsOnSide, IsStorableSchema}

-- ---- lists

pub has_append : {A : Type 0} (x : A) (xs ys : List A) → Has x (xs ++ ys) → Has x xs ⊎ Has x ys
has_append x [] ys h = inr h
has_append x (y ∷ xs) ys (inl e) = inl (inl e)
has_append x (y ∷ xs) ys (inr h) = ⊎_elim (λ g. inl (inr g)) (λ g. inr g) (has_append x xs ys h)

pub has_mapped : {A B : Type 0} (f : A → Option B) (xs : List A) (b : B) → Has b (filter_map f xs) → (a : A) × Has a xs × (f a ≡ Some b)
has_mapped f [] b h = absurd h
has_mapped {A} {B} f (x ∷ xs) b h = by (f x) refl h (has_mapped f xs b)
  where
    later : (a : A) × Has a xs × (f a ≡ Some b) → (a : A) × Has a (x ∷ xs) × (f a ≡ Some b)
    later g = (g.0, inr g.1, g.2)

    by : (o : Option B) → f x ≡ o → Has b (cons_option o (filter_map f xs)) → (Has b (filter_map f xs) → (a : A) × Has a xs × (f a ≡ Some b)) → (a : A) × Has a (x ∷ xs) × (f a ≡ Some b)
    by None e g more = later (more g)
    by (Some c) e (inl same) more = (x, inl refl, e ∙ ap Some (sym same))
    by (Some c) e (inr g) more = later (more g)

pub any_at : {A : Type 0} (p : A → Bool) (xs : List A) (i : ℕ) (x : A) → slice_get xs i ≡ Some x → p x ≡ true → list_any p xs ≡ true
any_at p [] i x at h = absurd (cc at)
any_at p (y ∷ ys) zero x at h = let same : y ≡ x = cc at in ap (λ b. b || list_any p ys) (ap p same ∙ h)
any_at p (y ∷ ys) (suc i) x at h = or_right (p y) (list_any p ys) (any_at p ys i x at h)
  where
    or_right : (a b : Bool) → b ≡ true → (a || b) ≡ true
    or_right true b e = refl
    or_right false b e = e

pub any_has : {A : Type 0} (p : A → Bool) (xs : List A) (x : A) → Has x xs → p x ≡ true → list_any p xs ≡ true
any_has p [] x h e = absurd h
any_has p (y ∷ ys) x (inl same) e = ap (λ b. b || list_any p ys) (ap p (sym same) ∙ e)
any_has p (y ∷ ys) x (inr h) e = or_right (p y) (list_any p ys) (any_has p ys x h e)
  where
    or_right : (a b : Bool) → b ≡ true → (a || b) ≡ true
    or_right true b e = refl
    or_right false b e = e

found_has : (n : Node) (ns : List Node) (v : Value) → find node_cmp n (valued_empty ns) ≡ Some v → Has n ns × (v ≡ value.Str [])
found_has n [] v h = absurd (cc h)
found_has n (m ∷ ns) v h = by (eq_by_cmp node_cmp n m) refl h (found_has n ns v)
  where
    by : (b : Bool) → eq_by_cmp node_cmp n m ≡ b → cond b (Some (value.Str [])) (find node_cmp n (valued_empty ns)) ≡ Some v → (find node_cmp n (valued_empty ns) ≡ Some v → Has n ns × (v ≡ value.Str [])) → Has n (m ∷ ns) × (v ≡ value.Str [])
    by true e g more = (inl (one_key node_exact n m e), let same : value.Str [] ≡ v = cc g in sym same)
    by false e g more = let r = more g in (inr r.0, r.1)

-- ---- of what an entry is

-- the properties of the record's class that have fields, with these
abbrev pub valued_of : List Class → Record → List (Prop × Field)
valued_of classes r = with_fields (props_in (class_of classes r.class)) r.fields

pub data Came (classes : List Class) (key : Key) (r : Record) (m : Node) : Type 0 where
  ByIndex : (i : Index) → Has i (indexes_of (class_of classes r.class)) → (subs : List Sub) → index_key i (valued_of classes r) ≡ Some subs → m ≡ entry_node key i.name subs → Came classes key r m
  BySide : (e : Prop × Field) → Has e (valued_of classes r) → (class : ClassName) (inverse : List ℕ) → e.0.kind ≡ kind.One class inverse
      → (s : Sub) → indexed e.0.kind (out-Field e.1) ≡ Some s → m ≡ entry_node key e.0.name (s ∷ []) → Came classes key r m

by_key : (key : Key) (name : List ℕ) (o : Option (List Sub)) (m : Node) → entry_if key name o ≡ Some m → (subs : List Sub) × (o ≡ Some subs) × (m ≡ entry_node key name subs)
by_key key name None m e = absurd (cc e)
by_key key name (Some subs) m e = (subs, refl, let same : entry_node key name subs ≡ m = cc e in sym same)

pub value_and_came : (classes : List Class) (key : Key) (r : Record) (m : Node) (v : Value) → get (entries classes key r) m ≡ Some v → Came classes key r m × (v ≡ value.Str [])
unfolding entries entry_list
value_and_came classes key r m v h =
    let valued = valued_of classes r in
    let indexes = indexes_of (class_of classes r.class) in
    let f = found_has m (index_entries key indexes valued ++ side_entries key valued) v (sym (get-from_entries node_total (valued_empty (index_entries key indexes valued ++ side_entries key valued)) m) ∙ h) in
    (⊎_elim (λ g. by_index (has_mapped (λ i. entry_if key i.name (index_key i valued)) indexes m g)) (λ g. by_side (has_mapped (λ e. side_entry key e e.0.kind) valued m g)) (has_append m (index_entries key indexes valued) (side_entries key valued) f.0), f.1)
  where
    by_index : (i : Index) × Has i (indexes_of (class_of classes r.class)) × (entry_if key i.name (index_key i (valued_of classes r)) ≡ Some m) → Came classes key r m
    by_index g = let k = by_key key g.0.name (index_key g.0 (valued_of classes r)) m g.2 in ByIndex g.0 g.1 k.0 k.1 k.2

    side_of : (e : Prop × Field) → Has e (valued_of classes r) → (k : Kind) → e.0.kind ≡ k → side_entry key e k ≡ Some m → Came classes key r m
    side_of e has (kind.One class inverse) is g = on (indexed e.0.kind (out-Field e.1)) refl g
      where
        on : (o : Option Sub) → indexed e.0.kind (out-Field e.1) ≡ o → entry_if key e.0.name (option_map (λ s. s ∷ []) o) ≡ Some m → Came classes key r m
        on None f g = absurd (cc g)
        on (Some s) f g = BySide e has class inverse is s f (let same : entry_node key e.0.name (s ∷ []) ≡ m = cc g in sym same)
    side_of e has k is g = absurd (cc g)

    by_side : (e : Prop × Field) × Has e (valued_of classes r) × (side_entry key e e.0.kind ≡ Some m) → Came classes key r m
    by_side g = side_of g.0 g.1 g.0.0.kind refl g.2

-- ---- what guards it

last_off : (xs : List Sub) (s : Sub) → without_last (xs ++ s ∷ []) ≡ xs
last_off [] s = refl
last_off (x ∷ []) s = refl
last_off (x ∷ y ∷ xs) s = ap (λ ys. x ∷ ys) (last_off (y ∷ xs) s)

abbrev guard_by : List Class → ClassName → List ℕ → Node → List Sub → Node → Guarding
guard_by classes extent name x ss m = cond (is_unique_name classes extent name) (GuardedBy x) (cond (is_side_name classes extent name && names_target ss) (GuardedBy m) Unguarded)

-- the value of a property is that of one of its name
pub value_has : (name : List ℕ) (es : List (Prop × Field)) (s : Sub) → value_of name es ≡ Some s → (e : Prop × Field) × Has e es × (same_text name e.0.name ≡ true) × (indexed e.0.kind (out-Field e.1) ≡ Some s)
value_has name [] s h = absurd (cc h)
value_has name (e ∷ es) s h = by (same_text name e.0.name) refl h (value_has name es s)
  where
    by : (b : Bool) → same_text name e.0.name ≡ b → cond b (indexed e.0.kind (out-Field e.1)) (value_of name es) ≡ Some s
        → (value_of name es ≡ Some s → (d : Prop × Field) × Has d es × (same_text name d.0.name ≡ true) × (indexed d.0.kind (out-Field d.1) ≡ Some s))
        → (d : Prop × Field) × Has d (e ∷ es) × (same_text name d.0.name ≡ true) × (indexed d.0.kind (out-Field d.1) ≡ Some s)
    by true same g more = (e, inl refl, same, g)
    by false same g more = let r = more g in (r.0, inr r.1, r.2, r.3)

-- the key of an index on one property that isn't unique
pub alone_key : (i : Index) (name : List ℕ) (es : List (Prop × Field)) → i.unique ≡ false → i.props ≡ name ∷ [] → index_key i es ≡ Some (or_blank (value_of name es) ∷ [])
unfolding index_key
alone_key i name es plain alone =
    ap (λ u. cond (u && list_any (λ v. not (is_some v)) (map (λ n. value_of n es) i.props)) None (Some (map or_blank (map (λ n. value_of n es) i.props)))) plain
    ∙ ap (λ names. Some (map or_blank (map (λ n. value_of n es) names))) alone

-- a blank is no id
pub blank_apart : (ss : List Sub) → names_target (or_blank None ∷ ss) ≡ false
unfolding digits id_in part_in whole_of is_number number_in
blank_apart ss = refl

module _ (classes : List Class) (key : Key) (real : IsKeyOf classes key) where
  key_off : (name : List ℕ) (subs : List Sub) → record { global = (entry_node key name subs).global; subs = without_last (entry_node key name subs).subs } ≡ key_node key name subs
  unfolding entry_node key_node
  key_off name subs = λ i. record { global = (key_node key name subs).global; subs = last_off (Str name ∷ subs) (sub_of (id_text key.id)) i }

  key_off_key : (name : List ℕ) (subs : List Sub) → entry_guarding classes key.extent (entry_node key name subs) (entry_node key name subs).subs
      ≡ guard_by classes key.extent name (key_node key name subs) (subs ++ sub_of (id_text key.id) ∷ []) (entry_node key name subs)
  key_off_key name subs =
      ap (entry_guarding classes key.extent (entry_node key name subs)) (entry_subs key name subs)
      ∙ ap (λ x. guard_by classes key.extent name x (subs ++ sub_of (id_text key.id) ∷ []) (entry_node key name subs)) (key_off name subs)

  pub entry_guard : (name : List ℕ) (subs : List Sub) → owner classes (entry_node key name subs) ≡ Some key
      → key_guard classes (entry_node key name subs) ≡ cond (is_unique_name classes key.extent name) (GuardedBy (key_node key name subs))
      (cond (is_side_name classes key.extent name && names_target (subs ++ sub_of (id_text key.id) ∷ [])) (GuardedBy (entry_node key name subs)) Unguarded)
  entry_guard name subs own =
      ap (λ o. guarding_in classes (entry_node key name subs) o (owner classes (entry_node key name subs))) (ap (λ g. extent_with (class_names classes) 73 g classes) (entry_global key name subs) ∙ index_extent (class_names classes) key.extent classes real.extent)
      ∙ ap (guarding_in classes (entry_node key name subs) (Some key.extent)) own
      ∙ key_off_key name subs

  module _ (schema : IsStorableSchema classes) (r : Record) (in' : extent_of classes r.class ≡ Some key.extent) where
    -- a unique index of the class names one of the extent
    pub unique_named : (i : Index) → Has i (indexes_of (class_of classes r.class)) → i.unique ≡ true → is_unique_name classes key.extent i.name ≡ true
    unique_named i has unique = by (class_of classes r.class) refl has
      where
        both : (a b : Bool) → a ≡ true → b ≡ true → (a && b) ≡ true
        both true b e f = f
        both false b e f = absurd (cc e)

        of_extent : (o : Option ClassName) → o ≡ Some key.extent → is_extent key.extent o ≡ true
        of_extent (Some e) is = let same : e ≡ key.extent = cc is in ap (λ (x : ClassName). is_extent key.extent (Some x)) same ∙ is-same_text key.extent.0 key.extent.0 refl
        of_extent None is = absurd (cc is)

        by : (o : Option Class) → class_of classes r.class ≡ o → Has i (indexes_of o) → is_unique_name classes key.extent i.name ≡ true
        by None e h = absurd h
        by (Some c) e h =
            let l = class_listed classes r.class c e in
            any_at _ classes l.place c l.there
            (both _ _ (of_extent (extent_of classes c.name) (ap (extent_of classes) l.named ∙ in')) (any_has (λ j. j.unique && same_text j.name i.name) c.indexes i h (both _ _ unique (is-same_text i.name i.name refl))))

    paired_has : (ps : List Prop) (fs : List Field) (e : Prop × Field) → Has e (pair_up ps fs) → Has e.0 ps
    paired_has [] fs e h = absurd h
    paired_has (p ∷ ps) [] e h = absurd h
    paired_has (p ∷ ps) (f ∷ fs) e (inl is) = inl (ap (λ (x : Prop × Field). x.0) is)
    paired_has (p ∷ ps) (f ∷ fs) e (inr h) = inr (paired_has ps fs e h)

    kept_has : (q : Prop → Bool) (ps : List Prop) (p : Prop) → Has p (filter q ps) → Has p ps
    kept_has q [] p h = absurd h
    kept_has q (x ∷ ps) p h = by (q x) h (kept_has q ps p)
      where
        by : (b : Bool) → Has p (cond b (x ∷ filter q ps) (filter q ps)) → (Has p (filter q ps) → Has p ps) → Has p (x ∷ ps)
        by true (inl e) more = inl e
        by true (inr g) more = inr (more g)
        by false g more = inr (more g)

    pub prop_has : (e : Prop × Field) → Has e (valued_of classes r) → Has e.0 (props_in (class_of classes r.class))
    prop_has e h = kept_has _ (props_in (class_of classes r.class)) e.0 (paired_has (filter _ (props_in (class_of classes r.class))) r.fields e h)

    -- the guard of an entry is held where the node of its unique key is, or the entry of its one side
    pub guard_held : (hs : Holds) (p : Pid) (m : Node) → owner classes m ≡ Some key → Came classes key r m
        → ((i : Index) → Has i (indexes_of (class_of classes r.class)) → i.unique ≡ true → (subs : List Sub) → index_key i (valued_of classes r) ≡ Some subs → m ≡ entry_node key i.name subs → HoldsToEnd hs p (key_node key i.name subs))
        → ((e : Prop × Field) → Has e (valued_of classes r) → (class : ClassName) (inverse : List ℕ) → e.0.kind ≡ kind.One class inverse → (s : Sub) → indexed e.0.kind (out-Field e.1) ≡ Some s → m ≡ entry_node key e.0.name (s ∷ []) → HoldsToEnd hs p m)
        → HoldsGuard hs p (key_guard classes m)
    guard_held hs p m own (ByIndex i has subs is at) unique side =
        subst (λ n. HoldsGuard hs p (key_guard classes n)) (sym at)
        (subst (HoldsGuard hs p) (sym (entry_guard i.name subs (ap (owner classes) (sym at) ∙ own))) (by i.unique refl))
      where
        tail : List Sub
        tail = subs ++ sub_of (id_text key.id) ∷ []

        e_node : Node
        e_node = entry_node key i.name subs

        free : (c d : Bool) → c ≡ false → HoldsGuard hs p (cond (c && d) (GuardedBy e_node) Unguarded)
        free true d e = absurd (cc e)
        free false d e = tt

        unnamed : (c d : Bool) → d ≡ false → HoldsGuard hs p (cond (c && d) (GuardedBy e_node) Unguarded)
        unnamed true d e = subst (λ x. HoldsGuard hs p (cond x (GuardedBy e_node) Unguarded)) (sym e) tt
        unnamed false d e = tt

        holding : (b : Bool) → HoldsToEnd hs p m → HoldsGuard hs p (cond b (GuardedBy e_node) Unguarded)
        holding true h = subst (HoldsToEnd hs p) at h
        holding false h = tt

        on_side : i.unique ≡ false → IsOnSide classes r.class i → HoldsGuard hs p (cond (is_side_name classes key.extent i.name && names_target tail) (GuardedBy e_node) Unguarded)
        on_side plain on = of_value (value_of i.name (valued_of classes r)) refl
          where
            of_value : (o : Option Sub) → value_of i.name (valued_of classes r) ≡ o → HoldsGuard hs p (cond (is_side_name classes key.extent i.name && names_target tail) (GuardedBy e_node) Unguarded)
            of_value o f = by o f (subs_are o f)
              where
                subs_are : (o : Option Sub) → value_of i.name (valued_of classes r) ≡ o → subs ≡ or_blank o ∷ []
                subs_are o f =
                    let same : Some (or_blank (value_of i.name (valued_of classes r)) ∷ []) ≡ Some subs = sym (alone_key i i.name (valued_of classes r) plain on.alone) ∙ is in
                    let one : or_blank (value_of i.name (valued_of classes r)) ∷ [] ≡ subs = cc same in
                    sym one ∙ ap (λ v. or_blank v ∷ []) f

                by : (o : Option Sub) → value_of i.name (valued_of classes r) ≡ o → subs ≡ or_blank o ∷ [] → HoldsGuard hs p (cond (is_side_name classes key.extent i.name && names_target tail) (GuardedBy e_node) Unguarded)
                by None f same = unnamed (is_side_name classes key.extent i.name) (names_target tail) (ap (λ (ss : List Sub). names_target (ss ++ sub_of (id_text key.id) ∷ [])) same ∙ blank_apart (sub_of (id_text key.id) ∷ []))
                by (Some s) f same =
                    let v = value_has i.name (valued_of classes r) s f in
                    let k = on.side v.0.0 (prop_has v.0 v.1) v.2 in
                    let name : i.name ≡ v.0.0.name = same_text-is i.name v.0.0.name v.2 in
                    holding (is_side_name classes key.extent i.name && names_target tail)
                    (side v.0 v.1 k.0 k.1 k.2 s v.3 (at ∙ ap (entry_node key i.name) same ∙ ap (λ w. entry_node key w (s ∷ [])) name))

        by : (u : Bool) → i.unique ≡ u → HoldsGuard hs p (cond (is_unique_name classes key.extent i.name) (GuardedBy (key_node key i.name subs)) (cond (is_side_name classes key.extent i.name && names_target tail) (GuardedBy e_node) Unguarded))
        by true e = subst (λ c. HoldsGuard hs p (cond c (GuardedBy (key_node key i.name subs)) (cond (is_side_name classes key.extent i.name && names_target tail) (GuardedBy e_node) Unguarded))) (sym (unique_named i has e)) (unique i has e subs is at)
        by false e =
            let n = schema.plain r.class key.extent i in' has e in
            subst (λ c. HoldsGuard hs p (cond c (GuardedBy (key_node key i.name subs)) (cond (is_side_name classes key.extent i.name && names_target tail) (GuardedBy e_node) Unguarded))) (sym n.0)
            (⊎_elim (λ none. free (is_side_name classes key.extent i.name) (names_target tail) none) (on_side e) n.1)
    guard_held hs p m own (BySide e has class inverse kind s is at) unique side =
        subst (λ n. HoldsGuard hs p (key_guard classes n)) (sym at)
        (subst (HoldsGuard hs p) (sym (entry_guard e.0.name (s ∷ []) (ap (owner classes) (sym at) ∙ own)))
        (subst (λ c. HoldsGuard hs p (cond c (GuardedBy (key_node key e.0.name (s ∷ []))) (cond (is_side_name classes key.extent e.0.name && names_target (s ∷ sub_of (id_text key.id) ∷ [])) (GuardedBy (entry_node key e.0.name (s ∷ []))) Unguarded)))
        (sym (schema.sides r.class key.extent e.0 class inverse in' (prop_has e has) kind))
        (by (is_side_name classes key.extent e.0.name && names_target (s ∷ sub_of (id_text key.id) ∷ [])))))
      where
        by : (c : Bool) → HoldsGuard hs p (cond c (GuardedBy (entry_node key e.0.name (s ∷ []))) Unguarded)
        by true = subst (HoldsToEnd hs p) at (side e has class inverse kind s is at)
        by false = tt
