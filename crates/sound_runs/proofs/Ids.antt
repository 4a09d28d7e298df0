-- What is found below a key node is an id of the extent.
use Rattle.std.proofs.Common.{◌≡◌, ℕ, suc, ◌+◌, Bool, true, false, cond, nat_eq, List, [], ◌∷◌, ◌++◌, length, take, drop, Option, Some, None, is_some, refl, sym, ap, ◌∙◌, arith}
use Rattle.std.proofs.lemmas.List.{take-append-drop}
use Rattle.std.specs.Option.{option_and_then}
use Rattle.std.specs.FinMap.{get, contains_key}
use Rattle.obj_kinds.specs.declared.name.ClassName.{ClassName}
use Rattle.obj_kinds.specs.declared.node.Node.{Node}
use Rattle.obj_kinds.specs.declared.sub.Sub.{Sub}
use Rattle.obj_kinds.specs.declared.sub.Sub.TheVariants.{Str}
use Rattle.obj_kinds.specs.Order.{covers}
use Rattle.obj_kinds.proofs.LineLaws.{covers_is}
use Rattle.obj_kinds.specs.Ids.{id_text}
use Rattle.obj_kinds.specs.Subscript.{sub_of}
use Rattle.global_tree.specs.Contents.{Globals}
use Rattle.global_tree.specs.Below.{child}
use Rattle.global_tree.proofs.NextLaws.{is_next, is_last}
use Rattle.global_tree.proofs.StepLaws.{covers_itself}
use Rattle.obj_kinds.specs.declared.value.Value.{Value}
use Rattle.schema_kinds.specs.declared.class.Class.{Class}
use Rattle.schema_kinds.specs.declared.key.Key.{Key}
use Rattle.schema_kinds.specs.Classes.{class_names}
use Rattle.storage_map.specs.Entries.{key_node, entry_node, index_global}
use Rattle.storage_map.specs.Worlds.{id_of_sub, last_sub, first_sub, extent_with, extent_has, key_with, key_at, or_key, entry_key, owner, IsKeyOf}
use Rattle.record_layout.specs.Items.{if_long}
use Rattle.record_layout.specs.Shapes.{id_length}
use Rattle.world_images.specs.Images.{IsEvenExtent}
use Rattle.world_images.proofs.EntryLaws.{other_letter, index_extent, entry_owner}
use Rattle.object_calls.specs.Extents.{id_below}
use Rattle.world_audit.specs.Openings.{is_object_node}
use Rattle.object_runs.proofs.StartLaws.{owned_is_object}
use Rattle.sound_runs.specs.Ids.{NextIsAnId, NoNextIsBare}

-- the index node of an extent belongs to the key that its entry tells
index_owner : (classes : List Class) (key : Key) (subs : List Sub) → IsKeyOf classes key → owner classes (record { global = index_global key; subs = subs }) ≡ entry_key classes subs key.extent
unfolding owner
index_owner classes key subs real =
    ap (λ o. or_key (option_and_then (key_at classes (first_sub subs)) o) (option_and_then (entry_key classes subs) (extent_with (class_names classes) 73 (index_global key) classes))) (other_letter (class_names classes) key.extent.0 classes)
    ∙ ap (option_and_then (entry_key classes subs)) (index_extent (class_names classes) key.extent classes real.extent)

-- where it belongs to one, nothing but the id is behind the values, of which there are as many as the index has
last_of : (values rest : List Sub) (t : Sub) → rest ≡ [] → last_sub (values ++ t ∷ rest) ≡ Some t
last_of [] rest t e = ap (λ r. last_sub (t ∷ r)) e
last_of (v ∷ []) rest t e = ap (λ r. last_sub (v ∷ t ∷ r)) e
last_of (v ∷ w ∷ vs) rest t e = last_of (w ∷ vs) rest t e

long_of : (values rest : List Sub) (t : Sub) → length (values ++ t ∷ rest) ≡ suc (length values + length rest)
long_of [] rest t = omega arith
long_of (v ∷ vs) rest t = ap suc (long_of vs rest t) ∙ (omega arith)

none_left : (n : ℕ) (rest : List Sub) → n + length rest ≡ n → rest ≡ []
none_left n [] e = refl
none_left n (r ∷ rest) e = absurd (omega arith)

-- the key of an entry with so many subscripts behind its name
key_of_way : (classes : List Class) (name : List ℕ) (t : Sub) (values rest : List Sub) (extent : ClassName)
    → entry_key classes (Str name ∷ values ++ t ∷ rest) extent ≡ cond (extent_has classes extent name (length values + length rest)) (key_at classes (last_sub (values ++ t ∷ rest)) extent) None
key_of_way classes name t [] rest extent =
    let n : length rest ≡ 0 + length rest = omega arith in
    ap (λ k. cond (extent_has classes extent name k) (key_at classes (last_sub (t ∷ rest)) extent) None) n
key_of_way classes name t (v ∷ vs) rest extent = ap (λ n. cond (extent_has classes extent name n) (key_at classes (last_sub (v ∷ vs ++ t ∷ rest)) extent) None) (long_of vs rest t ∙ (omega arith))

module _ (classes : List Class) (key : Key) (name : List ℕ) (values : List Sub) (t : Sub) (rest : List Sub) (even : IsEvenExtent classes key.extent) (has : extent_has classes key.extent name (length values) ≡ true) where
  told : (k : Key) → entry_key classes (Str name ∷ values ++ t ∷ rest) key.extent ≡ Some k → (rest ≡ []) × ((id : List ℕ) × (id_below classes key.extent t ≡ Some id))
  told k e = by (extent_has classes key.extent name (length values + length rest)) refl (sym (key_of_way classes name t values rest key.extent) ∙ e)
    where
      found : (o : Option (List ℕ)) → option_and_then (key_with classes key.extent) o ≡ Some k → (id : List ℕ) × (option_and_then (if_long (id_length classes key.extent)) o ≡ Some id)
      found None f = absurd (cc f)
      found (Some id) f = long (nat_eq (length id) (id_length classes key.extent)) f
        where
          long : (b : Bool) → cond b (Some (record { extent = key.extent; id = id })) None ≡ Some k → (x : List ℕ) × (cond b (Some id) None ≡ Some x)
          long true g = (id, refl)
          long false g = absurd (cc g)

      by : (b : Bool) → extent_has classes key.extent name (length values + length rest) ≡ b → cond b (key_at classes (last_sub (values ++ t ∷ rest)) key.extent) None ≡ Some k → (rest ≡ []) × ((id : List ℕ) × (id_below classes key.extent t ≡ Some id))
      by false f g = absurd (cc g)
      by true f g =
          let bare : rest ≡ [] = none_left (length values) rest (even name (length values + length rest) (length values) f has) in
          (bare, found (id_of_sub t) (ap (λ x. key_at classes x key.extent) (sym (last_of values rest t bare)) ∙ g))

-- ---- what is found

-- an index node with subscripts is one of the schema, where another one is
same_kind : (classes : List Class) (key : Key) (s : Sub) (ss : List Sub) (u : Sub) (us : List Sub)
    → is_object_node classes (record { global = index_global key; subs = s ∷ ss }) ≡ is_object_node classes (record { global = index_global key; subs = u ∷ us })
unfolding is_object_node
same_kind classes key s ss u us = refl

append_last : (xs ys : List Sub) (t : Sub) → (xs ++ t ∷ []) ++ ys ≡ xs ++ t ∷ ys
append_last [] ys t = refl
append_last (x ∷ xs) ys t = ap (λ zs. x ∷ zs) (append_last xs ys t)

-- a node at or below the child of a key node
under : (key : Key) (name : List ℕ) (values : List Sub) (t : Sub) (m : Node) → covers (child (key_node key name values) t) m ≡ true
    → (rest : List Sub) × (m ≡ record { global = index_global key; subs = Str name ∷ values ++ t ∷ rest })
unfolding key_node
under key name values t m e =
    let is = covers_is (child (record { global = index_global key; subs = Str name ∷ values }) t) m e in
    let global : m.global ≡ index_global key = ap (λ (n : Node). n.global) (sym is.0) in
    let front : take (length (Str name ∷ values ++ t ∷ [])) m.subs ≡ Str name ∷ values ++ t ∷ [] = ap (λ (n : Node). n.subs) (sym is.0) in
    let rest : List Sub = drop (length (Str name ∷ values ++ t ∷ [])) m.subs in
    let subs : m.subs ≡ Str name ∷ values ++ t ∷ rest =
    sym (take-append-drop (length (Str name ∷ values ++ t ∷ [])) m.subs) ∙ ap (λ xs. xs ++ rest) front ∙ append_last (Str name ∷ values) rest t in
    (rest, λ i. record { global = global i; subs = subs i })

key_node_is : (key : Key) (name : List ℕ) (values : List Sub) (t : Sub) → child (key_node key name values) t ≡ record { global = index_global key; subs = Str name ∷ values ++ t ∷ [] }
unfolding key_node
key_node_is key name values t = refl

entry_is_object : (classes : List Class) (key : Key) (name : List ℕ) (values : List Sub) (u : Sub) (us : List Sub) → IsKeyOf classes key → extent_has classes key.extent name (length values) ≡ true
    → is_object_node classes (record { global = index_global key; subs = u ∷ us }) ≡ true
unfolding entry_node key_node
entry_is_object classes key name values u us real has =
    same_kind classes key u us (Str name) (values ++ sub_of (id_text key.id) ∷ [])
    ∙ owned_is_object classes (entry_node key name values) key (entry_owner classes key name values real has)

there_is : (g : Globals) (m : Node) → contains_key g m ≡ true → get g m ≡ None → ⊥
there_is g m e f = cc (sym (ap is_some f) ∙ e)

pub next_is_an_id : NextIsAnId
next_is_an_id classes s o key name values t inv real even has next = by (owner classes (is_next s.globals (key_node key name values) None t next).there.0) refl
  where
    way : (rest : List Sub) × ((is_next s.globals (key_node key name values) None t next).there.0 ≡ record { global = index_global key; subs = Str name ∷ values ++ t ∷ rest })
    way = under key name values t (is_next s.globals (key_node key name values) None t next).there.0 (is_next s.globals (key_node key name values) None t next).there.1

    by : (x : Option Key) → owner classes (is_next s.globals (key_node key name values) None t next).there.0 ≡ x
        → (id : List ℕ) × (id_below classes key.extent t ≡ Some id) × (contains_key s.globals (child (key_node key name values) t) ≡ true)
    by None e =
        absurd (there_is s.globals (is_next s.globals (key_node key name values) None t next).there.0 (is_next s.globals (key_node key name values) None t next).there.2
        (inv.strays (is_next s.globals (key_node key name values) None t next).there.0 (ap (is_object_node classes) way.1 ∙ entry_is_object classes key name values (Str name) (values ++ t ∷ way.0) real has) e))
    by (Some k) e =
        let id = told classes key name values t way.0 even has k (sym (index_owner classes key (Str name ∷ values ++ t ∷ way.0) real) ∙ ap (owner classes) (sym way.1) ∙ e) in
        let here : (is_next s.globals (key_node key name values) None t next).there.0 ≡ child (key_node key name values) t =
        way.1 ∙ (λ i. record { global = index_global key; subs = Str name ∷ values ++ t ∷ id.0 i }) ∙ sym (key_node_is key name values t) in
        (id.1.0, id.1.1, ap (contains_key s.globals) (sym here) ∙ (is_next s.globals (key_node key name values) None t next).there.2)

pub no_next_is_bare : NoNextIsBare
no_next_is_bare g n t e = by (get g (child n t)) refl
  where
    by : (x : Option Value) → get g (child n t) ≡ x → get g (child n t) ≡ None
    by None f = f
    by (Some v) f = absurd (is_last g n None e t refl (child n t, covers_itself (child n t), ap is_some f))
