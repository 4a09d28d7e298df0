-- When a load reads more nodes than a row.
use Rattle.std.proofs.Common.{◌≡◌, ◌↔◌, suc, Bool, true, false, List, [], ◌∷◌, ◌++◌, Option, None, Some, refl, sym, arith}
use Rattle.std.specs.Prelude.{is_some, map, nat_lt, length}
use Rattle.std.specs.List.{list_any, filter_map}
use Rattle.std.proofs.lemmas.Bool.{lt-ltb}
use Rattle.obj_kinds.specs.declared.name.ClassName.{ClassName}
use Rattle.schema_kinds.specs.declared.class.Class.{Class}
use Rattle.schema_kinds.specs.Classes.{IsBelow}
use Rattle.schema_kinds.specs.declared.prop.Prop.{Prop}
use Rattle.record_layout.specs.Shapes.{form_of, row_forms}
use Rattle.record_layout.specs.Layout.{array_of, arrays_of, own_props}
use Rattle.object_calls.specs.Extents.{is_at_or_below, is_filled, last_own}
use Rattle.call_laws.proofs.BelowLaws.{below_told}

any_filled : {A B : Type 0} (f : A → Option B) (xs : List A) → list_any (λ x. is_some (f x)) xs ≡ is_filled (filter_map f xs)
any_filled f [] = refl
any_filled {A} {B} f (x ∷ xs) = by (f x) refl (any_filled f xs)
  where
    by : (y : Option B) → f x ≡ y → list_any (λ x. is_some (f x)) xs ≡ is_filled (filter_map f xs) → list_any (λ x. is_some (f x)) (x ∷ xs) ≡ is_filled (filter_map f (x ∷ xs))
    by None e more = rw e more
    by (Some y) e more = rw e refl

pub arrays_filled : (props : List Prop) → list_any (λ p. is_some (array_of p (form_of p.kind))) props ≡ is_filled (arrays_of props)
arrays_filled props = any_filled (λ p. array_of p (form_of p.kind)) props

-- what the last of two or more classes has beside the one above it
pub last_two : {A : Type 0} (f : A → Class) (front : List A) (above c : A) → last_own (map f ((front ++ above ∷ []) ++ c ∷ [])) ≡ row_forms (own_props (f above) (f c))
last_two f [] above c = refl
last_two f (x ∷ []) above c = refl
last_two {A} f (x ∷ y ∷ front) above c = step front (last_two f (y ∷ front) above c)
  where
    step : (front : List A) → last_own (f y ∷ map f ((front ++ above ∷ []) ++ c ∷ [])) ≡ row_forms (own_props (f above) (f c))
        → last_own (f x ∷ f y ∷ map f ((front ++ above ∷ []) ++ c ∷ [])) ≡ row_forms (own_props (f above) (f c))
    step [] more = more
    step (z ∷ front) more = more

pub count_filled : {A : Type 0} (xs : List A) → nat_lt 0 (length xs) ≡ is_filled xs
count_filled [] = refl
count_filled (x ∷ xs) = lt-ltb 0 (suc (length xs)) (omega arith)

-- a test that tells what is below is the test of classes
pub test_of : (classes : List Class) (a b : ClassName) (t : Bool) → ((t ≡ true) ↔ IsBelow classes a b) → t ≡ is_at_or_below classes a b
test_of classes a b t h = by t (is_at_or_below classes a b) h (below_told classes a b)
  where
    by : (t u : Bool) → ((t ≡ true) ↔ IsBelow classes a b) → ((u ≡ true) ↔ IsBelow classes a b) → t ≡ u
    by true true h k = refl
    by true false h k = sym (k.1 (h.0 refl))
    by false true h k = h.1 (k.0 refl)
    by false false h k = refl
