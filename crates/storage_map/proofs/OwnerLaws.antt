-- The nodes at or below a key's row belong to the key.
use Rattle.std.proofs.Common.{◌≡◌, ◌≤◌, ℕ, zero, suc, pos, Bool, true, false, cond, ◌&&◌, ◌||◌, nat_eq, List, [], ◌∷◌, ◌++◌, length, Option, None, Some, refl, sym, ap, subst, ◌∙◌, arith}
use Rattle.std.specs.List.{list_any}
use Rattle.std.specs.Fmt.{decimal}
use Rattle.std.specs.Option.{option_and_then}
use Rattle.std.proofs.lemmas.List.{append_cancel_right}
use Rattle.std.proofs.lemmas.Bool.{eq-eqb}
use Rattle.obj_kinds.specs.declared.name.ClassName.{ClassName}
use Rattle.obj_kinds.specs.declared.node.Node.{Node}
use Rattle.obj_kinds.specs.declared.sub.Sub.{Sub}
use Rattle.obj_kinds.specs.declared.sub.Sub.TheVariants.{Num}
use Rattle.obj_kinds.specs.Ids.{IsPart, IsId, id_text}
use Rattle.obj_kinds.specs.Subscript.{sub_of, sub_by}
use Rattle.obj_kinds.specs.Texts.{same_text}
use Rattle.obj_kinds.proofs.Numbers.{whole_of-printed}
use Rattle.obj_kinds.proofs.TextLaws.{same_text-is, is-same_text}
use Rattle.schema_kinds.specs.declared.class.Class.{Class}
use Rattle.schema_kinds.specs.declared.key.Key.{Key}
use Rattle.schema_kinds.specs.Classes.{class_names, is_with, is_root}
use Rattle.record_layout.specs.Shapes.{IsIdOf, id_length}
use Rattle.record_layout.specs.Rows.{data_node, below}
use Rattle.storage_map.specs.Worlds.{id_of_sub, first_sub, extent_with, key_with, key_at, or_key, entry_key, owner, is_root_named, IsKeyOf}

and_first : (a b : Bool) → (a && b) ≡ true → a ≡ true
and_first true b h = refl
and_first false b h = cc

and_second : (a b : Bool) → (a && b) ≡ true → b ≡ true
and_second true b h = h
and_second false b h = cc

-- the extent of its data global
pub extent_found : (names : List (List ℕ)) (extent : ClassName) (cs : List Class) → list_any (is_root_named names extent) cs ≡ true → extent_with names 68 (extent.0 ++ 68 ∷ []) cs ≡ Some extent
extent_found names extent [] h = cc
extent_found names extent (c ∷ cs) h = by (is_with (extent.0 ++ 68 ∷ []) c.name.0 68 && is_root names c) refl (is_root_named names extent c) refl h (extent_found names extent cs)
  where
    here : (is_with (extent.0 ++ 68 ∷ []) c.name.0 68 && is_root names c) ≡ true → Some c.name ≡ Some extent
    here e =
        let text : extent.0 ++ 68 ∷ [] ≡ c.name.0 ++ 68 ∷ [] = same_text-is (extent.0 ++ 68 ∷ []) (c.name.0 ++ 68 ∷ []) (and_first (is_with (extent.0 ++ 68 ∷ []) c.name.0 68) (is_root names c) e) in
        let name : c.name.0 ≡ extent.0 = sym (append_cancel_right extent.0 c.name.0 (68 ∷ []) text) in
        λ i. Some (record { 0 = name i })

    is_here : is_root_named names extent c ≡ true → (is_with (extent.0 ++ 68 ∷ []) c.name.0 68 && is_root names c) ≡ true
    is_here e =
        let name : c.name.0 ≡ extent.0 = same_text-is c.name.0 extent.0 (and_first (same_text c.name.0 extent.0) (is_root names c) e) in
        let global : is_with (extent.0 ++ 68 ∷ []) c.name.0 68 ≡ true = is-same_text (extent.0 ++ 68 ∷ []) (c.name.0 ++ 68 ∷ []) (ap (λ t. t ++ 68 ∷ []) (sym name)) in
        ap (λ b. b && is_root names c) global ∙ and_second (same_text c.name.0 extent.0) (is_root names c) e

    by : (t : Bool) → (is_with (extent.0 ++ 68 ∷ []) c.name.0 68 && is_root names c) ≡ t → (r : Bool) → is_root_named names extent c ≡ r → (r || list_any (is_root_named names extent) cs) ≡ true
        → (list_any (is_root_named names extent) cs ≡ true → extent_with names 68 (extent.0 ++ 68 ∷ []) cs ≡ Some extent) → cond t (Some c.name) (extent_with names 68 (extent.0 ++ 68 ∷ []) cs) ≡ Some extent
    by true e r d any rest = here e
    by false e true d any rest = let no = is_here d in cc
    by false e false d any rest = rest any

pub id_back : (id : List ℕ) → IsId id → length id ≡ 1 → id_of_sub (sub_of (id_text id)) ≡ Some id
id_back [] h one = absurd h
id_back (zero ∷ []) h one = let low : 1 ≤ 0 = h.0 in absurd (omega (arith, low))
id_back (suc n ∷ []) h one = ap (λ o. id_of_sub (sub_by (decimal (suc n)) o)) (whole_of-printed (decimal (suc n)) (pos (suc n)) h.1 refl)
id_back (a ∷ b ∷ more) h one = absurd (omega (arith, one))

pub rows_belong : (classes : List Class) (key : Key) (way : List Sub) → IsKeyOf classes key → owner classes (below (data_node key) way) ≡ Some key
unfolding owner data_node
rows_belong classes key way real =
    let extent = extent_found (class_names classes) key.extent classes real.extent in
    let id = id_back key.id real.id.0 real.id.1 in
    let long : nat_eq (length key.id) (id_length classes key.extent) ≡ true = eq-eqb (length key.id) (id_length classes key.extent) real.id.1 in
    let other = option_and_then (entry_key classes (sub_of (id_text key.id) ∷ way)) (extent_with (class_names classes) 73 (key.extent.0 ++ 68 ∷ []) classes) in
    ap (λ o. or_key (option_and_then (key_at classes (Some (sub_of (id_text key.id)))) o) other) extent
    ∙ ap (λ o. or_key (option_and_then (key_with classes key.extent) o) other) id
    ∙ ap (λ b. or_key (cond b (Some key) None) other) long

pub keys_apart : (classes : List Class) (a b : Key) (way other : List Sub) → IsKeyOf classes a → IsKeyOf classes b → below (data_node a) way ≡ below (data_node b) other → a ≡ b
keys_apart classes a b way other real also same = one (sym (rows_belong classes a way real) ∙ ap (owner classes) same ∙ rows_belong classes b other also)
  where
    one : Some a ≡ Some b → a ≡ b
    one e = cc
