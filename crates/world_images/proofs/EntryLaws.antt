-- Entries belong to the key of their record, and those of one name have as many subscripts.
use Rattle.std.proofs.Common.{◌≡◌, ◌≤◌, ◌+◌, ℕ, zero, suc, Bool, true, false, cond, not, ◌&&◌, ◌||◌, nat_eq, List, [], ◌∷◌, ◌++◌, map, filter, length, reverse, get_or, slice_get, Option, None, Some, is_some, option_map, refl, sym, ap, subst, ◌∙◌, arith, ◌⊎◌, inl, inr}
use Rattle.std.specs.List.{list_any, filter_map, cons_option}
use Rattle.std.specs.Option.{option_and_then}
use Rattle.std.specs.Ordering.{eq_by_cmp}
use Rattle.std.specs.FinMap.{find, get, entries as listed, contains_key, get-entries, get-from_entries}
use Rattle.std.proofs.lemmas.Bool.{eq-eqb}
use Rattle.std.proofs.lemmas.List.{append_cancel_right, reverse-append, length-append}
use Rattle.std.proofs.lemmas.List.Quantifiers.{position-Some}
use Rattle.obj_kinds.specs.declared.name.ClassName.{ClassName}
use Rattle.obj_kinds.specs.declared.node.Node.{Node}
use Rattle.obj_kinds.specs.declared.sub.Sub.{Sub}
use Rattle.obj_kinds.specs.declared.sub.Sub.TheVariants.{Str}
use Rattle.obj_kinds.specs.declared.value.Value.{Value}
use Rattle.obj_kinds.specs.Ids.{id_text}
use Rattle.obj_kinds.specs.Subscript.{sub_of}
use Rattle.obj_kinds.specs.Texts.{same_text}
use Rattle.obj_kinds.specs.Order.{text_cmp, sub_cmp, node_cmp, covers, is_front}
use Rattle.obj_kinds.proofs.OrderLemmas.{node_total, node_exact, sub_exact}
use Rattle.obj_kinds.proofs.TextLaws.{same_text-is, is-same_text}
use Rattle.global_tree.proofs.MapLaws.{one_key}
use Rattle.schema_kinds.specs.declared.class.Class.{Class}
use Rattle.schema_kinds.specs.declared.class.Index.{Index}
use Rattle.schema_kinds.specs.declared.key.Key.{Key}
use Rattle.schema_kinds.specs.declared.kind.Kind.{Kind}
use Rattle.schema_kinds.specs.declared.kind.Kind.TheVariants as kind
use Rattle.schema_kinds.specs.declared.prop.Prop.{Prop}
use Rattle.schema_kinds.specs.declared.record.Field.{Field}
use Rattle.schema_kinds.specs.declared.record.Field.TheViews.{out-Field}
use Rattle.schema_kinds.specs.declared.record.Record.{Record}
use Rattle.schema_kinds.specs.Hierarchy.{place_of}
use Rattle.schema_kinds.specs.Classes.{class_names, class_of, extent_of, is_with, is_root}
use Rattle.record_layout.specs.Shapes.{form_of, id_length}
use Rattle.storage_map.specs.Markers.{is_extent}
use Rattle.storage_map.specs.Entries.{pair_up, with_fields, indexed, or_blank, value_of, index_key, key_node, entry_node, entry_if, side_entry, index_entries, side_entries, entry_nodes, indexes_of, props_in, entry_list, valued_empty, entries}
use Rattle.storage_map.specs.Worlds.{first_sub, last_sub, extent_with, key_with, key_at, or_key, is_side_named, has_entries, extent_has, entry_key, owner, is_root_named, IsKeyOf}
use Rattle.storage_map.proofs.OwnerLaws.{id_back}

pub and_first : (a b : Bool) → (a && b) ≡ true → a ≡ true
and_first true b h = refl
and_first false b h = cc

pub and_second : (a b : Bool) → (a && b) ≡ true → b ≡ true
and_second true b h = h
and_second false b h = cc

and_both : (a b : Bool) → a ≡ true → b ≡ true → (a && b) ≡ true
and_both a b h k = rw (h, k) refl

or_left : (a b : Bool) → a ≡ true → (a || b) ≡ true
or_left a b h = rw h refl

or_right : (a b : Bool) → b ≡ true → (a || b) ≡ true
or_right true b h = refl
or_right false b h = h

same_itself : (t : List ℕ) → same_text t t ≡ true
same_itself t = is-same_text t t refl

any_at : {A : Type 0} (p : A → Bool) (xs : List A) (i : ℕ) (x : A) → slice_get xs i ≡ Some x → p x ≡ true → list_any p xs ≡ true
any_at p [] i x at h = cc
any_at p (y ∷ ys) zero x at h = let same : y ≡ x = cc in or_left (p y) (list_any p ys) (ap p same ∙ h)
any_at p (y ∷ ys) (suc i) x at h = or_right (p y) (list_any p ys) (any_at p ys i x at h)

-- THE EXTENT OF A GLOBAL

pub last_letter : (xs ys : List ℕ) (a b : ℕ) → xs ++ a ∷ [] ≡ ys ++ b ∷ [] → a ≡ b
last_letter xs ys a b h =
    let turned : a ∷ reverse xs ≡ b ∷ reverse ys = sym (reverse-append xs (a ∷ [])) ∙ ap reverse h ∙ reverse-append ys (b ∷ []) in cc

pub other_letter : (names : List (List ℕ)) (extent : List ℕ) (cs : List Class) → extent_with names 68 (extent ++ 73 ∷ []) cs ≡ None
other_letter names extent [] = refl
other_letter names extent (c ∷ cs) = by (is_with (extent ++ 73 ∷ []) c.name.0 68) refl (other_letter names extent cs)
  where
    by : (b : Bool) → is_with (extent ++ 73 ∷ []) c.name.0 68 ≡ b → extent_with names 68 (extent ++ 73 ∷ []) cs ≡ None → extent_with names 68 (extent ++ 73 ∷ []) (c ∷ cs) ≡ None
    by true h rest = let letter : 73 ≡ 68 = last_letter extent c.name.0 73 68 (same_text-is (extent ++ 73 ∷ []) (c.name.0 ++ 68 ∷ []) h) in absurd (omega (arith, letter))
    by false h rest = ap (λ b. cond (b && is_root names c) (Some c.name) (extent_with names 68 (extent ++ 73 ∷ []) cs)) h ∙ rest

pub index_extent : (names : List (List ℕ)) (extent : ClassName) (cs : List Class) → list_any (is_root_named names extent) cs ≡ true → extent_with names 73 (extent.0 ++ 73 ∷ []) cs ≡ Some extent
index_extent names extent [] h = cc
index_extent names extent (c ∷ cs) h = by (is_with (extent.0 ++ 73 ∷ []) c.name.0 73 && is_root names c) refl (is_root_named names extent c) refl h (index_extent names extent cs)
  where
    here : (is_with (extent.0 ++ 73 ∷ []) c.name.0 73 && is_root names c) ≡ true → Some c.name ≡ Some extent
    here e =
        let text : extent.0 ++ 73 ∷ [] ≡ c.name.0 ++ 73 ∷ [] = same_text-is (extent.0 ++ 73 ∷ []) (c.name.0 ++ 73 ∷ []) (and_first (is_with (extent.0 ++ 73 ∷ []) c.name.0 73) (is_root names c) e) in
        let name : c.name.0 ≡ extent.0 = sym (append_cancel_right extent.0 c.name.0 (73 ∷ []) text) in
        λ i. Some (record { 0 = name i })

    is_here : is_root_named names extent c ≡ true → (is_with (extent.0 ++ 73 ∷ []) c.name.0 73 && is_root names c) ≡ true
    is_here e =
        let name : c.name.0 ≡ extent.0 = same_text-is c.name.0 extent.0 (and_first (same_text c.name.0 extent.0) (is_root names c) e) in
        let global : is_with (extent.0 ++ 73 ∷ []) c.name.0 73 ≡ true = is-same_text (extent.0 ++ 73 ∷ []) (c.name.0 ++ 73 ∷ []) (ap (λ t. t ++ 73 ∷ []) (sym name)) in
        ap (λ b. b && is_root names c) global ∙ and_second (same_text c.name.0 extent.0) (is_root names c) e

    by : (t : Bool) → (is_with (extent.0 ++ 73 ∷ []) c.name.0 73 && is_root names c) ≡ t → (r : Bool) → is_root_named names extent c ≡ r → (r || list_any (is_root_named names extent) cs) ≡ true
        → (list_any (is_root_named names extent) cs ≡ true → extent_with names 73 (extent.0 ++ 73 ∷ []) cs ≡ Some extent) → cond t (Some c.name) (extent_with names 73 (extent.0 ++ 73 ∷ []) cs) ≡ Some extent
    by true e r d any rest = here e
    by false e true d any rest = let no = is_here d in cc
    by false e false d any rest = rest any

-- THE KEY OF AN ENTRY

last_is : (values : List Sub) (id : Sub) → last_sub (values ++ id ∷ []) ≡ Some id
last_is [] id = refl
last_is (v ∷ []) id = refl
last_is (v ∷ w ∷ vs) id = last_is (w ∷ vs) id

one_longer : (values : List Sub) (id : Sub) → length (values ++ id ∷ []) ≡ suc (length values)
one_longer [] id = refl
one_longer (v ∷ vs) id = ap suc (one_longer vs id)

key_of_values : (classes : List Class) (name : List ℕ) (id : Sub) (values : List Sub) (extent : ClassName) → entry_key classes (Str name ∷ values ++ id ∷ []) extent ≡ cond (extent_has classes extent name (length values)) (key_at classes (Some id) extent) None
key_of_values classes name id [] extent = refl
key_of_values classes name id (v ∷ vs) extent =
    ap (λ n. cond (extent_has classes extent name n) (key_at classes (last_sub (v ∷ vs ++ id ∷ [])) extent) None) (one_longer vs id)
    ∙ ap (λ o. cond (extent_has classes extent name (suc (length vs))) (key_at classes o extent) None) (last_is (v ∷ vs) id)

key_back : (classes : List Class) (key : Key) → IsKeyOf classes key → key_at classes (Some (sub_of (id_text key.id))) key.extent ≡ Some key
key_back classes key real =
    ap (option_and_then (key_with classes key.extent)) (id_back key.id real.id.0 real.id.1)
    ∙ ap (λ b. cond b (Some key) None) (eq-eqb (length key.id) (id_length classes key.extent) real.id.1)

pub entry_owner : (classes : List Class) (key : Key) (name : List ℕ) (values : List Sub) → IsKeyOf classes key → extent_has classes key.extent name (length values) ≡ true → owner classes (entry_node key name values) ≡ Some key
unfolding owner entry_node key_node
entry_owner classes key name values real has =
    let id = sub_of (id_text key.id) in
    let names = class_names classes in
    let global = key.extent.0 ++ 73 ∷ [] in
    let subs = Str name ∷ values ++ id ∷ [] in
    ap (λ o. or_key (option_and_then (key_at classes (first_sub subs)) o) (option_and_then (entry_key classes subs) (extent_with names 73 global classes))) (other_letter names key.extent.0 classes)
    ∙ ap (option_and_then (entry_key classes subs)) (index_extent names key.extent classes real.extent)
    ∙ key_of_values classes name id values key.extent
    ∙ ap (λ b. cond b (key_at classes (Some id) key.extent) None) has
    ∙ key_back classes key real

-- WHAT ENTRIES THERE ARE

abbrev pub IsOneOf : Node → List Node → Type 0
IsOneOf n [] = ⊥
IsOneOf n (m ∷ ms) = (n ≡ m) ⊎ IsOneOf n ms

one_append : (n : Node) (ms ks : List Node) → IsOneOf n (ms ++ ks) → IsOneOf n ms ⊎ IsOneOf n ks
one_append n [] ks is = inr is
one_append n (m ∷ ms) ks (inl same) = inl (inl same)
one_append n (m ∷ ms) ks (inr is) = by (one_append n ms ks is)
  where
    by : IsOneOf n ms ⊎ IsOneOf n ks → IsOneOf n (m ∷ ms) ⊎ IsOneOf n ks
    by (inl a) = inl (inr a)
    by (inr b) = inr b

one_found : (n : Node) (ms : List Node) (v : Value) → find node_cmp n (valued_empty ms) ≡ Some v → IsOneOf n ms
one_found n [] v h = cc
one_found n (m ∷ ms) v h = by (eq_by_cmp node_cmp n m) refl h (one_found n ms v)
  where
    by : (b : Bool) → eq_by_cmp node_cmp n m ≡ b → cond b (Some (Rattle.obj_kinds.specs.declared.value.Value.TheVariants.Str [])) (find node_cmp n (valued_empty ms)) ≡ Some v → (find node_cmp n (valued_empty ms) ≡ Some v → IsOneOf n ms) → (n ≡ m) ⊎ IsOneOf n ms
    by true e k more = inl (one_key node_exact n m e)
    by false e k more = inr (more k)

abbrev is_index_of : List ℕ → ℕ → Index → Bool
is_index_of name n i = same_text i.name name && nat_eq (length i.props) n

-- an entry of an index
record IsIndexEntry (key : Key) (indexes : List Index) (n : Node) : Type 0 where
  name : List ℕ
  values : List Sub
  node : n ≡ entry_node key name values
  has : list_any (is_index_of name (length values)) indexes ≡ true

long_map : {A B : Type 0} (g : A → B) (xs : List A) → length (map g xs) ≡ length xs
long_map g [] = refl
long_map g (x ∷ xs) = ap suc (long_map g xs)

key_long : (i : Index) (valued : List (Prop × Field)) (values : List Sub) → index_key i valued ≡ Some values → length i.props ≡ length values
unfolding index_key
key_long i valued values h = by (i.unique && list_any (λ v. not (is_some v)) (map (λ name. value_of name valued) i.props)) h
  where
    by : (b : Bool) → cond b None (Some (map or_blank (map (λ name. value_of name valued) i.props))) ≡ Some values → length i.props ≡ length values
    by true k = cc
    by false k =
        let same : map or_blank (map (λ name. value_of name valued) i.props) ≡ values = cc in
        sym (long_map (λ name. value_of name valued) i.props) ∙ sym (long_map or_blank (map (λ name. value_of name valued) i.props)) ∙ ap length same

index_entry : (key : Key) (indexes : List Index) (valued : List (Prop × Field)) (n : Node) → IsOneOf n (index_entries key indexes valued) → IsIndexEntry key indexes n
index_entry key [] valued n is = absurd is
index_entry key (i ∷ is') valued n is = by (index_key i valued) refl is (index_entry key is' valued n)
  where
    later : IsIndexEntry key is' n → IsIndexEntry key (i ∷ is') n
    later p = record { name = p.name; values = p.values; node = p.node; has = or_right (is_index_of p.name (length p.values) i) (list_any (is_index_of p.name (length p.values)) is') p.has }

    by : (o : Option (List Sub)) → index_key i valued ≡ o → IsOneOf n (cons_option (entry_if key i.name o) (index_entries key is' valued)) → (IsOneOf n (index_entries key is' valued) → IsIndexEntry key is' n) → IsIndexEntry key (i ∷ is') n
    by None h one more = later (more one)
    by (Some values) h (inr one) more = later (more one)
    by (Some values) h (inl same) more = record {
      name = i.name;
      values = values;
      node = same;
      has = or_left (is_index_of i.name (length values) i) (list_any (is_index_of i.name (length values)) is')
          (and_both (same_text i.name i.name) (nat_eq (length i.props) (length values)) (same_itself i.name) (eq-eqb (length i.props) (length values) (key_long i valued values h)));
    }

-- an entry of a one side
record IsSideEntry (key : Key) (props : List Prop) (n : Node) : Type 0 where
  name : List ℕ
  value : Sub
  node : n ≡ entry_node key name (value ∷ [])
  has : list_any (λ p. is_side_named name p p.kind) props ≡ true

side_entry_is : (key : Key) (valued : List (Prop × Field)) (n : Node) → IsOneOf n (side_entries key valued) → IsSideEntry key (map (λ e. e.0) valued) n
side_entry_is key [] n is = absurd is
side_entry_is key (e ∷ es) n is = by e.0.kind refl is (side_entry_is key es n)
  where
    later : IsSideEntry key (map (λ d. d.0) es) n → IsSideEntry key (map (λ d. d.0) (e ∷ es)) n
    later p = record { name = p.name; value = p.value; node = p.node; has = or_right (is_side_named p.name e.0 e.0.kind) (list_any (λ q. is_side_named p.name q q.kind) (map (λ d. d.0) es)) p.has }

    one : (k : Kind) → e.0.kind ≡ k → is_side_named e.0.name e.0 k ≡ true → (o : Option Sub) → IsOneOf n (cons_option (entry_if key e.0.name (option_map (λ s. s ∷ []) o)) (side_entries key es))
        → (IsOneOf n (side_entries key es) → IsSideEntry key (map (λ d. d.0) es) n) → IsSideEntry key (map (λ d. d.0) (e ∷ es)) n
    one k h side None is more = later (more is)
    one k h side (Some s) (inr is) more = later (more is)
    one k h side (Some s) (inl same) more = record {
      name = e.0.name;
      value = s;
      node = same;
      has = or_left (is_side_named e.0.name e.0 e.0.kind) (list_any (λ q. is_side_named e.0.name q q.kind) (map (λ d. d.0) es)) (ap (is_side_named e.0.name e.0) h ∙ side);
    }

    by : (k : Kind) → e.0.kind ≡ k → IsOneOf n (cons_option (side_entry key e k) (side_entries key es)) → (IsOneOf n (side_entries key es) → IsSideEntry key (map (λ d. d.0) es) n) → IsSideEntry key (map (λ d. d.0) (e ∷ es)) n
    by (kind.One class side) h is more = one (kind.One class side) h (same_itself e.0.name) (indexed e.0.kind (out-Field e.1)) is more
    by k h is more = later (more is)

any_paired : (p : Prop → Bool) (ps : List Prop) (fs : List Field) → list_any p (map (λ e. e.0) (pair_up ps fs)) ≡ true → list_any p ps ≡ true
any_paired p [] fs h = cc
any_paired p (q ∷ qs) [] h = cc
any_paired p (q ∷ qs) (f ∷ fs) h = by (p q) h (any_paired p qs fs)
  where
    by : (b : Bool) → (b || list_any p (map (λ e. e.0) (pair_up qs fs))) ≡ true → (list_any p (map (λ e. e.0) (pair_up qs fs)) ≡ true → list_any p qs ≡ true) → (b || list_any p qs) ≡ true
    by true k more = refl
    by false k more = more k

any_kept : (p t : Prop → Bool) (ps : List Prop) → list_any p (filter t ps) ≡ true → list_any p ps ≡ true
any_kept p t [] h = cc
any_kept p t (q ∷ qs) h = by (t q) h (any_kept p t qs)
  where
    at : (a : Bool) → (a || list_any p (filter t qs)) ≡ true → (list_any p (filter t qs) ≡ true → list_any p qs ≡ true) → (a || list_any p qs) ≡ true
    at true j more = refl
    at false j more = more j

    by : (b : Bool) → list_any p (cond b (q ∷ filter t qs) (filter t qs)) ≡ true → (list_any p (filter t qs) ≡ true → list_any p qs ≡ true) → list_any p (q ∷ qs) ≡ true
    by true k more = at (p q) k more
    by false k more = or_right (p q) (list_any p qs) (more k)

-- an entry of a record of the class
pub record IsEntry (key : Key) (c : Class) (n : Node) : Type 0 where
  pub name : List ℕ
  pub values : List Sub
  pub node : n ≡ entry_node key name values
  pub has : has_entries name (length values) c ≡ true

entry_in : (key : Key) (c : Class) (fields : List Field) (n : Node) → IsOneOf n (entry_nodes key c.indexes (with_fields c.props fields)) → IsEntry key c n
entry_in key c fields n is = by (one_append n (index_entries key c.indexes (with_fields c.props fields)) (side_entries key (with_fields c.props fields)) is)
  where
    by : IsOneOf n (index_entries key c.indexes (with_fields c.props fields)) ⊎ IsOneOf n (side_entries key (with_fields c.props fields)) → IsEntry key c n
    by (inl one) =
        let p = index_entry key c.indexes (with_fields c.props fields) n one in
        record { name = p.name; values = p.values; node = p.node; has = or_left (list_any (is_index_of p.name (length p.values)) c.indexes) (nat_eq (length p.values) 1 && list_any (λ q. is_side_named p.name q q.kind) c.props) p.has }
    by (inr one) =
        let p = side_entry_is key (with_fields c.props fields) n one in
        let side = any_kept (λ q. is_side_named p.name q q.kind) (λ q. is_some (form_of q.kind)) c.props (any_paired (λ q. is_side_named p.name q q.kind) (filter (λ q. is_some (form_of q.kind)) c.props) fields p.has) in
        record { name = p.name; values = p.value ∷ []; node = p.node; has = or_right (list_any (is_index_of p.name 1) c.indexes) (list_any (λ q. is_side_named p.name q q.kind) c.props) side }

-- the entries of a record are those of its class
pub entry_there : (classes : List Class) (key : Key) (r : Record) (n : Node) (v : Value) → get (entries classes key r) n ≡ Some v → (c : Class) × (class_of classes r.class ≡ Some c) × IsEntry key c n
unfolding entries entry_list
entry_there classes key r n v h =
    by (class_of classes r.class) refl (one_found n (entry_nodes key (indexes_of (class_of classes r.class)) (with_fields (props_in (class_of classes r.class)) r.fields)) v (sym (get-from_entries node_total (valued_empty (entry_nodes key (indexes_of (class_of classes r.class)) (with_fields (props_in (class_of classes r.class)) r.fields))) n) ∙ h))
  where
    by : (o : Option Class) → class_of classes r.class ≡ o → IsOneOf n (entry_nodes key (indexes_of o) (with_fields (props_in o) r.fields)) → (c : Class) × (class_of classes r.class ≡ Some c) × IsEntry key c n
    by None e is = absurd is
    by (Some c) e is = (c, e, entry_in key c r.fields n is)

-- the class of a name has the name
pub class_named : (cs : List Class) (i : ℕ) (c : Class) → slice_get cs i ≡ Some c → get_or (class_names cs) i [] ≡ c.name.0
class_named [] i c h = cc
class_named (d ∷ ds) zero c h = let same : d ≡ c = cc in ap (λ (e : Class). e.name.0) same
class_named (d ∷ ds) (suc i) c h = class_named ds i c h

pub record IsListed (classes : List Class) (name : ClassName) (c : Class) : Type 0 where
  pub place : ℕ
  pub there : slice_get classes place ≡ Some c
  pub named : c.name ≡ name

pub class_listed : (classes : List Class) (name : ClassName) (c : Class) → class_of classes name ≡ Some c → IsListed classes name c
class_listed classes name c h = by (place_of (class_names classes) name) refl h
  where
    by : (o : Option ℕ) → place_of (class_names classes) name ≡ o → option_and_then (λ i. slice_get classes i) o ≡ Some c → IsListed classes name c
    by None e k = cc
    by (Some i) e k =
        let there = position-Some (same_text name.0) (class_names classes) i [] e in
        let text : c.name.0 ≡ name.0 = sym (same_text-is name.0 (get_or (class_names classes) i []) there.1 ∙ class_named classes i c k) in
        record { place = i; there = k; named = λ j. record { 0 = text j } }

-- the extent has what its classes have
pub extent_entry : (classes : List Class) (extent : ClassName) (name : ClassName) (c : Class) (word : List ℕ) (n : ℕ) → class_of classes name ≡ Some c → extent_of classes name ≡ Some extent → has_entries word n c ≡ true → extent_has classes extent word n ≡ true
extent_entry classes extent name c word n is in' has =
    let p = class_listed classes name c is in
    any_at (λ d. is_extent extent (extent_of classes d.name) && has_entries word n d) classes p.place c p.there
    (and_both (is_extent extent (extent_of classes c.name)) (has_entries word n c) (ap (λ m. is_extent extent (extent_of classes m)) p.named ∙ ap (is_extent extent) in' ∙ same_itself extent.0) has)

pub entries_belong : (classes : List Class) (key : Key) (r : Record) (n : Node) (v : Value) → IsKeyOf classes key → extent_of classes r.class ≡ Some key.extent → get (entries classes key r) n ≡ Some v → owner classes n ≡ Some key
entries_belong classes key r n v real in' h =
    let p = entry_there classes key r n v h in
    ap (owner classes) p.2.node ∙ entry_owner classes key p.2.name p.2.values real (extent_entry classes key.extent r.class p.0 p.2.name (length p.2.values) p.1 in' p.2.has)

-- HOW MANY SUBSCRIPTS

entry_long : (key : Key) (name : List ℕ) (values : List Sub) → length (entry_node key name values).subs ≡ suc (suc (length values))
unfolding entry_node key_node
entry_long key name values = ap suc (one_longer values (sub_of (id_text key.id)))

-- an entry that covers another has its name
pub one_entry_name : (key other : Key) (a b : List ℕ) (vs ws : List Sub) → covers (entry_node key a vs) (entry_node other b ws) ≡ true → a ≡ b
unfolding covers entry_node key_node
one_entry_name key other a b vs ws h =
    let id = sub_of (id_text key.id) in let id' = sub_of (id_text other.id) in
    let front = and_second (eq_by_cmp text_cmp (key.extent.0 ++ 73 ∷ []) (other.extent.0 ++ 73 ∷ [])) (is_front (Str a ∷ vs ++ id ∷ []) (Str b ∷ ws ++ id' ∷ [])) h in
    let head = and_first (eq_by_cmp sub_cmp (Str a) (Str b)) (is_front (vs ++ id ∷ []) (ws ++ id' ∷ [])) front in
    let same : Str a ≡ Str b = one_key sub_exact (Str a) (Str b) head in
    cc

pub even_long : (key other : Key) (n m : Node) (c d : Class) (p : IsEntry key c n) (q : IsEntry other d m) → length p.values ≡ length q.values → length n.subs ≡ length m.subs
even_long key other n m c d p q same =
    ap (λ (k : Node). length k.subs) p.node ∙ entry_long key p.name p.values ∙ ap (λ k. suc (suc k)) same ∙ sym (entry_long other q.name q.values) ∙ ap (λ (k : Node). length k.subs) (sym q.node)
