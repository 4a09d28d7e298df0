-- The marker of a row and the class that it names.
use Rattle.std.proofs.Common.{◌≡◌, ◌<◌, ℕ, zero, suc, Bool, true, false, cond, ◌&&◌, List, [], ◌∷◌, ◌++◌, map, length, get_or, slice_get, Option, None, Some, option_map, refl, sym, ap, ◌∙◌, arith}
use Rattle.std.specs.List.{find}
use Rattle.std.specs.Option.{option_and_then}
use Rattle.std.proofs.lemmas.List.{append_cancel_right}
use Rattle.std.proofs.lemmas.List.Quantifiers.{position-Some}
use Rattle.obj_kinds.specs.declared.name.ClassName.{ClassName}
use Rattle.obj_kinds.specs.declared.value.Value.{Value}
use Rattle.obj_kinds.specs.declared.value.Value.TheVariants as value
use Rattle.obj_kinds.specs.declared.value.Value.TheVariants.{rolls-Str, rolls-List}
use Rattle.obj_kinds.specs.declared.value.Value.TheOpen.{Value-F}
use Rattle.obj_kinds.specs.declared.value.Value.TheViews.{out-Value, roll-Value, roll-out-Value}
use Rattle.obj_kinds.specs.Texts.{same_text}
use Rattle.obj_kinds.proofs.TextLaws.{same_text-is, is-same_text}
use Rattle.schema_kinds.specs.declared.class.Class.{Class}
use Rattle.schema_kinds.specs.Hierarchy.{place_of}
use Rattle.schema_kinds.specs.Classes.{class_names, extent_of, root_if}
use Rattle.record_layout.specs.Rows.{marker}
use Rattle.record_layout.proofs.ItemLaws.{str-out, list-out}
use Rattle.storage_map.specs.Markers.{is_extent, is_marked, class_marked, marked_by, marked_in, row_class}
use Rattle.record_reading.specs.Rows.{items_behind}

pub and_first : (a b : Bool) → (a && b) ≡ true → a ≡ true
and_first true b h = refl
and_first false b h = cc

pub and_second : (a b : Bool) → (a && b) ≡ true → b ≡ true
and_second true b h = h
and_second false b h = cc

same_itself : (t : List ℕ) → same_text t t ≡ true
same_itself t = is-same_text t t refl

one_name : (a b : ClassName) → a.0 ≡ b.0 → a ≡ b
one_name a b e = λ i. record { 0 = e i }

-- markers of different classes differ
pub one_marker : (extent a b : ClassName) → marker extent a ≡ marker extent b → a ≡ b
unfolding marker
one_marker extent a b same = by (same_text a.0 extent.0) refl (same_text b.0 extent.0) refl same
  where
    by : (p : Bool) → same_text a.0 extent.0 ≡ p → (q : Bool) → same_text b.0 extent.0 ≡ q → cond p [] (126 ∷ a.0 ++ 126 ∷ []) ≡ cond q [] (126 ∷ b.0 ++ 126 ∷ []) → a ≡ b
    by true h true k e = one_name a b (same_text-is a.0 extent.0 h ∙ sym (same_text-is b.0 extent.0 k))
    by true h false k e = cc
    by false h true k e = cc
    by false h false k e = let tails : a.0 ++ 126 ∷ [] ≡ b.0 ++ 126 ∷ [] = cc in one_name a b (append_cancel_right a.0 b.0 (126 ∷ []) tails)

in_extent : (extent : ClassName) (o : Option ClassName) → is_extent extent o ≡ true → o ≡ Some extent
in_extent extent None h = cc
in_extent extent (Some root) h = ap Some (one_name root extent (same_text-is root.0 extent.0 h))

pub list_behind : (w : Value) (ws : List Value) → items_behind (value.List (w ∷ ws)) ≡ ws
list_behind w ws = rw (list-out (w ∷ ws)) refl

module _ (classes : List Class) (extent : ClassName) where
  -- what is found has the marker and is of the extent
  found_is : (mark : List ℕ) (cs : List Class) (c : ClassName) → option_map (λ k. k.name) (find (is_marked classes extent mark) cs) ≡ Some c → (mark ≡ marker extent c) × (extent_of classes c ≡ Some extent)
  found_is mark [] c h = cc
  found_is mark (k ∷ ks) c h = by (is_marked classes extent mark k) refl h (found_is mark ks c)
    where
      by : (b : Bool) → is_marked classes extent mark k ≡ b → option_map (λ (d : Class). d.name) (cond b (Some k) (find (is_marked classes extent mark) ks)) ≡ Some c
          → (option_map (λ d. d.name) (find (is_marked classes extent mark) ks) ≡ Some c → (mark ≡ marker extent c) × (extent_of classes c ≡ Some extent)) → (mark ≡ marker extent c) × (extent_of classes c ≡ Some extent)
      by true m e more =
          let same : k.name ≡ c = cc in (
            same_text-is mark (marker extent k.name) (and_first (same_text mark (marker extent k.name)) (is_extent extent (extent_of classes k.name)) m) ∙ ap (marker extent) same,
            ap (extent_of classes) (sym same) ∙ in_extent extent (extent_of classes k.name) (and_second (same_text mark (marker extent k.name)) (is_extent extent (extent_of classes k.name)) m),
          )
      by false m e more = more e

  -- a class of the extent is found by its marker, where it is listed
  is_found : (c : ClassName) → extent_of classes c ≡ Some extent → (cs : List Class) (i : ℕ) → i < length (class_names cs) → same_text c.0 (get_or (class_names cs) i []) ≡ true
      → option_map (λ k. k.name) (find (is_marked classes extent (marker extent c)) cs) ≡ Some c
  is_found c in' [] i lt h = absurd (omega (arith, lt))
  is_found c in' (k ∷ ks) i lt h = by (is_marked classes extent (marker extent c) k) refl i lt h (is_found c in' ks)
    where
      here : same_text c.0 k.name.0 ≡ true → is_marked classes extent (marker extent c) k ≡ true
      here e =
          let same : c ≡ k.name = one_name c k.name (same_text-is c.0 k.name.0 e) in
          ap (λ n. same_text (marker extent c) (marker extent n) && is_extent extent (extent_of classes n)) (sym same)
          ∙ ap (λ b. b && is_extent extent (extent_of classes c)) (same_itself (marker extent c)) ∙ ap (is_extent extent) in' ∙ same_itself extent.0

      by : (b : Bool) → is_marked classes extent (marker extent c) k ≡ b → (j : ℕ) → j < length (class_names (k ∷ ks)) → same_text c.0 (get_or (class_names (k ∷ ks)) j []) ≡ true
          → ((a : ℕ) → a < length (class_names ks) → same_text c.0 (get_or (class_names ks) a []) ≡ true → option_map (λ (d : Class). d.name) (find (is_marked classes extent (marker extent c)) ks) ≡ Some c)
          → option_map (λ (d : Class). d.name) (cond b (Some k) (find (is_marked classes extent (marker extent c)) ks)) ≡ Some c
      by true m j lt e more = ap Some (sym (one_marker extent c k.name (same_text-is (marker extent c) (marker extent k.name) (and_first (same_text (marker extent c) (marker extent k.name)) (is_extent extent (extent_of classes k.name)) m))))
      by false m zero lt e more = let found = here e in cc
      by false m (suc j) lt e more = more j (omega (arith, lt)) e

  place_there : (c : ClassName) → extent_of classes c ≡ Some extent → (i : ℕ) × (place_of (class_names classes) c ≡ Some i)
  place_there c h = by (place_of (class_names classes) c) refl h
    where
      by : (o : Option ℕ) → place_of (class_names classes) c ≡ o → option_and_then (λ i. option_and_then (root_if classes i) (slice_get classes i)) o ≡ Some extent → (i : ℕ) × (place_of (class_names classes) c ≡ Some i)
      by None p e = cc
      by (Some i) p e = (i, p)

  pub class_is : (c : ClassName) (v : Value) → row_class classes extent v ≡ Some c → (v ≡ value.List (value.Str (marker extent c) ∷ items_behind v)) × (extent_of classes c ≡ Some extent)
  unfolding row_class
  class_is c v h = by (out-Value v) (roll-out-Value v) h
    where
      marked : (w : Value) (ws : List Value) → value.List (w ∷ ws) ≡ v → (u : Value-F Value) → roll-Value u ≡ w → marked_by classes extent u ≡ Some c → (v ≡ value.List (value.Str (marker extent c) ∷ items_behind v)) × (extent_of classes c ≡ Some extent)
      marked w ws is (Value-F.Str mark) e k =
          let p = found_is mark classes c k in
          let first : value.Str (marker extent c) ≡ w = ap value.Str (sym p.0) ∙ sym (rolls-Str mark) ∙ e in
          (sym is ∙ ap (λ x. value.List (x ∷ ws)) (sym first) ∙ ap (λ xs. value.List (value.Str (marker extent c) ∷ xs)) (sym (list_behind w ws) ∙ ap items_behind is), p.1)
      marked w ws is (Value-F.List vs) e k = cc

      by : (u : Value-F Value) → roll-Value u ≡ v → marked_in classes extent u ≡ Some c → (v ≡ value.List (value.Str (marker extent c) ∷ items_behind v)) × (extent_of classes c ≡ Some extent)
      by (Value-F.Str t) e k = cc
      by (Value-F.List []) e k = cc
      by (Value-F.List (w ∷ ws)) e k = marked w ws (sym (rolls-List (w ∷ ws)) ∙ e) (out-Value w) (roll-out-Value w) k

  pub is_class : (c : ClassName) (v : Value) → v ≡ value.List (value.Str (marker extent c) ∷ items_behind v) → extent_of classes c ≡ Some extent → row_class classes extent v ≡ Some c
  unfolding row_class
  is_class c v is in' =
      let place = place_there c in' in
      let there = position-Some (same_text c.0) (class_names classes) place.0 [] place.1 in
      ap (λ u. marked_in classes extent (out-Value u)) is ∙ rw (list-out (value.Str (marker extent c) ∷ items_behind v), str-out (marker extent c)) (is_found c in' classes place.0 there.0 there.1)
