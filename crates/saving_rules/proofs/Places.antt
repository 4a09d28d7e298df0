-- An entry that only one of two records of a key has: the key or side that it came by moves.
use Rattle.std.proofs.Common.{◌≡◌, inl, inr, ⊎_elim, ℕ, true, List, [], ◌∷◌, ◌++◌, filter, Option, Some, None, is_some, option_map, refl, sym, ap, subst, ◌∙◌}
use Rattle.std.specs.FinMap.{get, get-from_entries}
use Rattle.obj_kinds.specs.declared.name.ClassName.{ClassName}
use Rattle.obj_kinds.specs.declared.node.Node.{Node}
use Rattle.obj_kinds.specs.declared.sub.Sub.{Sub}
use Rattle.obj_kinds.specs.declared.value.Value.TheVariants as value
use Rattle.obj_kinds.specs.Ids.{id_text}
use Rattle.obj_kinds.specs.Subscript.{sub_of}
use Rattle.obj_kinds.proofs.OrderLemmas.{node_total}
use Rattle.schema_kinds.specs.declared.class.Class.{Class}
use Rattle.schema_kinds.specs.declared.class.Index.{Index}
use Rattle.schema_kinds.specs.declared.key.Key.{Key}
use Rattle.schema_kinds.specs.declared.kind.Kind.TheVariants as kind
use Rattle.schema_kinds.specs.declared.prop.Prop.{Prop}
use Rattle.schema_kinds.specs.declared.record.Field.{Field}
use Rattle.schema_kinds.specs.declared.record.Field.TheViews.{out-Field}
use Rattle.schema_kinds.specs.declared.record.Record.{Record}
use Rattle.schema_kinds.specs.Classes.{class_of}
use Rattle.record_layout.specs.Shapes.{form_of, forms_of, AreOfForms}
use Rattle.storage_map.specs.Entries.{indexed, index_key, key_node, entry_node, entry_if, side_entry, side_entries, index_entries, indexes_of, props_in, entry_list, valued_empty, entries}
use Rattle.storage_map.specs.Keys.{unique_in, uniques_of, target_in, sides_of}
use Rattle.object_calls.specs.Keys.{side_node, MovedKey, moved_keys, MovedSide, moved_sides}
use Rattle.object_runs.specs.Causes.{Each, Has}
use Rattle.call_rules.proofs.Owned.{valued_of}
use Rattle.good_deletes.proofs.Locks.{side_target}
use Rattle.good_deletes.proofs.NoMembers.{has_found, mapped_has, side_stands, target_out}
use Rattle.saving_rules.proofs.Moved.{key_moves, new_key_moves, fields_even, target_at, IsMovedAt, side_moves, side_came, new_side_came}
use Rattle.saving_rules.proofs.Lists.{filter_has}

front_has : {A : Type 0} (x : A) (xs ys : List A) → Has x xs → Has x (xs ++ ys)
front_has x [] ys h = absurd h
front_has x (y ∷ xs) ys (inl e) = inl e
front_has x (y ∷ xs) ys (inr h) = inr (front_has x xs ys h)

-- an entry of an index stands
pub index_stands : (classes : List Class) (key : Key) (q : Record) (i : Index) (subs : List Sub) → Has i (indexes_of (class_of classes q.class)) → index_key i (valued_of classes q) ≡ Some subs
    → get (entries classes key q) (entry_node key i.name subs) ≡ Some (value.Str [])
unfolding entries entry_list
index_stands classes key q i subs has is =
    let valued = valued_of classes q in
    let indexes = indexes_of (class_of classes q.class) in
    let n = entry_node key i.name subs in
    get-from_entries node_total (valued_empty (index_entries key indexes valued ++ side_entries key valued)) n
    ∙ has_found n (index_entries key indexes valued ++ side_entries key valued)
    (front_has n (index_entries key indexes valued) (side_entries key valued) (mapped_has (λ i. entry_if key i.name (index_key i valued)) indexes i n has (ap (entry_if key i.name) is)))

same_subs : (key : Key) (name : List ℕ) (a b : List Sub) → key_node key name a ≡ key_node key name b → a ≡ b
unfolding key_node
same_subs key name a b e = by (ap (λ (n : Node). n.subs) e)
  where
    rest_of : List Sub → List Sub
    rest_of [] = []
    rest_of (s ∷ ss) = ss

    by : Rattle.obj_kinds.specs.declared.sub.Sub.TheVariants.Str name ∷ a ≡ Rattle.obj_kinds.specs.declared.sub.Sub.TheVariants.Str name ∷ b → a ≡ b
    by g = ap rest_of g

not_there : {A : Type 0} (o : Option A) (a : A) → o ≡ Some a → o ≡ None → ⊥
not_there o a e f = cc (sym e ∙ f)

module _ (classes : List Class) (key : Key) (c : ClassName) where
  abbrev pub of_class : List Field → Record
  of_class fs = record { class = c; fields = fs }

  abbrev indexes : List Index
  indexes = filter (λ (i : Index). i.unique) (indexes_of (class_of classes c))

  abbrev node_in : List Field → Index → Option Node
  node_in fs i = (unique_in key (valued_of classes (of_class fs)) i).node

  same_index : (fs gs : List Field) (i : Index) (subs : List Sub) → Has i (indexes_of (class_of classes c)) → index_key i (valued_of classes (of_class fs)) ≡ Some subs → node_in fs i ≡ node_in gs i
      → get (entries classes key (of_class gs)) (entry_node key i.name subs) ≡ None → ⊥
  same_index fs gs i subs has is same none = by (index_key i (valued_of classes (of_class gs))) refl (sym (ap (option_map (key_node key i.name)) is) ∙ same)
    where
      by : (o : Option (List Sub)) → index_key i (valued_of classes (of_class gs)) ≡ o → Some (key_node key i.name subs) ≡ option_map (key_node key i.name) o → ⊥
      by None f e = cc e
      by (Some others) f e =
          let one : key_node key i.name subs ≡ key_node key i.name others = cc e in
          not_there _ _ (ap (λ ss. get (entries classes key (of_class gs)) (entry_node key i.name ss)) (same_subs key i.name subs others one) ∙ index_stands classes key (of_class gs) i others has f) none

  -- ---- the sides

  same_side : (gs : List Field) (p : Prop) (g : Field) (class : ClassName) (inverse : List ℕ) (id : List ℕ) → p.kind ≡ kind.One class inverse → Has (p, g) (valued_of classes (of_class gs)) → target_at g ≡ Some id
      → get (entries classes key (of_class gs)) (entry_node key p.name (sub_of (id_text id) ∷ [])) ≡ None → ⊥
  same_side gs p g class inverse id is has at none =
      let found : side_entry key (p, g) p.kind ≡ Some (entry_node key p.name (sub_of (id_text id) ∷ [])) =
      ap (side_entry key (p, g)) is
      ∙ ap (λ o. entry_if key p.name (option_map (λ s. s ∷ []) o)) (ap (λ k. indexed k (out-Field g)) is ∙ target_out (out-Field g) id class inverse at) in
      not_there _ _ (side_stands classes key (of_class gs) (p, g) (entry_node key p.name (sub_of (id_text id) ∷ [])) has found) none

  module _ (Q : Option Node → Type 0) (fs gs : List Field) (good_f : AreOfForms classes (forms_of (props_in (class_of classes c))) fs) (good_g : AreOfForms classes (forms_of (props_in (class_of classes c))) gs) where
    abbrev pub KeysKnown : Type 0
    KeysKnown = Each (λ (m : MovedKey). Q m.old × Q m.new) (moved_keys (uniques_of classes key (of_class fs)) (uniques_of classes key (of_class gs)))

    abbrev pub SidesKnown : Type 0
    SidesKnown = Each (λ (m : MovedSide). Q (side_node key m.name m.old) × Q (side_node key m.name m.new)) (moved_sides (sides_of classes (of_class fs)) (sides_of classes (of_class gs)))

    pub old_key : KeysKnown → (i : Index) → Has i (indexes_of (class_of classes c)) → i.unique ≡ true → (subs : List Sub) → index_key i (valued_of classes (of_class fs)) ≡ Some subs
        → get (entries classes key (of_class gs)) (entry_node key i.name subs) ≡ None → Q (Some (key_node key i.name subs))
    old_key h i has unique subs is none = ⊎_elim
        (λ q. subst Q (ap (option_map (key_node key i.name)) is) q.0)
        (λ same. absurd (same_index fs gs i subs has is same none))
        (key_moves Q (unique_in key (valued_of classes (of_class fs))) (unique_in key (valued_of classes (of_class gs))) indexes i (filter_has (λ (i : Index). i.unique) (indexes_of (class_of classes c)) i has unique) h)

    pub new_key : KeysKnown → (i : Index) → Has i (indexes_of (class_of classes c)) → i.unique ≡ true → (subs : List Sub) → index_key i (valued_of classes (of_class gs)) ≡ Some subs
        → get (entries classes key (of_class fs)) (entry_node key i.name subs) ≡ None → Q (Some (key_node key i.name subs))
    new_key h i has unique subs is none = ⊎_elim
        (λ q. subst Q (ap (option_map (key_node key i.name)) is) q.1)
        (λ same. absurd (same_index gs fs i subs has is (sym same) none))
        (key_moves Q (unique_in key (valued_of classes (of_class fs))) (unique_in key (valued_of classes (of_class gs))) indexes i (filter_has (λ (i : Index). i.unique) (indexes_of (class_of classes c)) i has unique) h)

    abbrev SideHeld : MovedSide → Type 0
    SideHeld m = Q (side_node key m.name m.old) × Q (side_node key m.name m.new)

    pub old_side : SidesKnown → (e : Prop × Field) → Has e (valued_of classes (of_class fs)) → (class : ClassName) (inverse : List ℕ) → e.0.kind ≡ kind.One class inverse → (s : Sub) → indexed e.0.kind (out-Field e.1) ≡ Some s
        → get (entries classes key (of_class gs)) (entry_node key e.0.name (s ∷ [])) ≡ None → Q (Some (entry_node key e.0.name (s ∷ [])))
    old_side h e has class inverse is s at none =
        let t = side_target classes (of_class fs) e class inverse s good_f has is at in
        let target : target_at e.1 ≡ Some t.0 = ap target_in t.1 in
        let node : entry_node key e.0.name (s ∷ []) ≡ entry_node key e.0.name (sub_of (id_text t.0) ∷ []) = ap (λ x. entry_node key e.0.name (x ∷ [])) t.2 in
        let m = side_moves SideHeld (filter (λ p. is_some (form_of p.kind)) (props_in (class_of classes c))) fs gs (fields_even classes (props_in (class_of classes c)) fs good_f) (fields_even classes (props_in (class_of classes c)) gs good_g) h e.0 e.1 has class inverse is in
        ⊎_elim
        (λ (k : IsMovedAt SideHeld e.0 (target_at e.1) (target_at m.0)). subst Q (ap (λ x. side_node key x k.side.old) k.name ∙ ap (side_node key e.0.name) (k.was ∙ target) ∙ ap Some (sym node)) k.known.0)
        (λ same. absurd (same_side gs e.0 m.0 class inverse t.0 is m.1 (sym same ∙ target) (ap (get (entries classes key (of_class gs))) (sym node) ∙ none)))
        m.2

    pub new_side : SidesKnown → (e : Prop × Field) → Has e (valued_of classes (of_class gs)) → (class : ClassName) (inverse : List ℕ) → e.0.kind ≡ kind.One class inverse → (s : Sub) → indexed e.0.kind (out-Field e.1) ≡ Some s
        → get (entries classes key (of_class fs)) (entry_node key e.0.name (s ∷ [])) ≡ None → Q (Some (entry_node key e.0.name (s ∷ [])))
    new_side h e has class inverse is s at none =
        let t = side_target classes (of_class gs) e class inverse s good_g has is at in
        let target : target_at e.1 ≡ Some t.0 = ap target_in t.1 in
        let node : entry_node key e.0.name (s ∷ []) ≡ entry_node key e.0.name (sub_of (id_text t.0) ∷ []) = ap (λ x. entry_node key e.0.name (x ∷ [])) t.2 in
        let m = side_came SideHeld (filter (λ p. is_some (form_of p.kind)) (props_in (class_of classes c))) fs gs (fields_even classes (props_in (class_of classes c)) fs good_f) (fields_even classes (props_in (class_of classes c)) gs good_g) h e.0 e.1 has class inverse is in
        ⊎_elim
        (λ (k : IsMovedAt SideHeld e.0 (target_at m.0) (target_at e.1)). subst Q (ap (λ x. side_node key x k.side.new) k.name ∙ ap (side_node key e.0.name) (k.now ∙ target) ∙ ap Some (sym node)) k.known.1)
        (λ same. absurd (same_side fs e.0 m.0 class inverse t.0 is m.1 (same ∙ target) (ap (get (entries classes key (of_class fs))) (sym node) ∙ none)))
        m.2

  -- ---- of an object that is new

  module _ (Q : Option Node → Type 0) (gs : List Field) (good_g : AreOfForms classes (forms_of (props_in (class_of classes c))) gs) where
    pub born_key : Each (λ (m : MovedKey). Q m.old × Q m.new) (moved_keys [] (uniques_of classes key (of_class gs))) → (i : Index) → Has i (indexes_of (class_of classes c)) → i.unique ≡ true → (subs : List Sub)
        → index_key i (valued_of classes (of_class gs)) ≡ Some subs → Q (Some (key_node key i.name subs))
    born_key h i has unique subs is = ⊎_elim
        (λ q. subst Q (ap (option_map (key_node key i.name)) is) q)
        (λ none. absurd (not_there (node_in gs i) (key_node key i.name subs) (ap (option_map (key_node key i.name)) is) none))
        (new_key_moves Q (unique_in key (valued_of classes (of_class gs))) indexes i (filter_has (λ (i : Index). i.unique) (indexes_of (class_of classes c)) i has unique) h)

    pub born_side : Each (λ (m : MovedSide). Q (side_node key m.name m.old) × Q (side_node key m.name m.new)) (moved_sides [] (sides_of classes (of_class gs))) → (e : Prop × Field) → Has e (valued_of classes (of_class gs))
        → (class : ClassName) (inverse : List ℕ) → e.0.kind ≡ kind.One class inverse → (s : Sub) → indexed e.0.kind (out-Field e.1) ≡ Some s → Q (Some (entry_node key e.0.name (s ∷ [])))
    born_side h e has class inverse is s at =
        let t = side_target classes (of_class gs) e class inverse s good_g has is at in
        let target : target_at e.1 ≡ Some t.0 = ap target_in t.1 in
        ⊎_elim
        (λ (k : IsMovedAt (λ (m : MovedSide). Q (side_node key m.name m.old) × Q (side_node key m.name m.new)) e.0 None (target_at e.1)). subst Q
        (ap (λ x. side_node key x k.side.new) k.name ∙ ap (side_node key e.0.name) (k.now ∙ target) ∙ ap (λ x. Some (entry_node key e.0.name (x ∷ []))) (sym t.2)) k.known.1)
        (λ none. absurd (not_there (target_at e.1) t.0 target none))
        (new_side_came (λ (m : MovedSide). Q (side_node key m.name m.old) × Q (side_node key m.name m.new)) (filter (λ p. is_some (form_of p.kind)) (props_in (class_of classes c))) gs h e.0 e.1 has class inverse is)
