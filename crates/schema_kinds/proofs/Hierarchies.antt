-- The places that a hierarchy has are places of its classes.
use Rattle.std.proofs.Common.{◌≡◌, ℕ, zero, suc, Bool, true, false, cond, List, [], ◌∷◌, ◌++◌, map, length, get_or, slice_get, Option, Some, None, option_to_list, refl, ap}
use Rattle.std.proofs.lemmas.List.Quantifiers.{position-Some}
use Rattle.obj_kinds.specs.declared.name.ClassName.{ClassName}
use Rattle.schema_kinds.specs.declared.hierarchy.Header.{Header}
use Rattle.schema_kinds.specs.Links.{IsWithin, AreWithin}
use Rattle.schema_kinds.specs.Hierarchy.{same_text, is_system, place_of, later_places, super_places}

pub get_or-None : {X : Type 0} (xs : List X) (i : ℕ) (d : X) → None ≡ slice_get xs i → d ≡ get_or xs i d
get_or-None [] i d h = refl
get_or-None (x ∷ xs) zero d h = cc
get_or-None (x ∷ xs) (suc i) d h = get_or-None xs i d h

IsWithin-append : (xs ys : List ℕ) (n : ℕ) → IsWithin xs n → IsWithin ys n → IsWithin (xs ++ ys) n
IsWithin-append [] ys n p q = q
IsWithin-append (x ∷ xs) ys n p q = (p.0, IsWithin-append xs ys n p.1 q)

place-within : (names : List (List ℕ)) (name : ClassName) → IsWithin (option_to_list (place_of names name)) (length names)
place-within names name = by (place_of names name) refl
  where
    by : (o : Option ℕ) → place_of names name ≡ o → IsWithin (option_to_list o) (length names)
    by None e = tt
    by (Some i) e = ((position-Some (same_text name.0) names i [] e).0, tt)

later-within : (names : List (List ℕ)) (supers : List ClassName) → IsWithin (later_places names supers) (length names)
later-within names [] = tt
later-within names (s ∷ ss) = IsWithin-append (cond (is_system s) [] (option_to_list (place_of names s))) (later_places names ss) (length names) (by (is_system s)) (later-within names ss)
  where
    by : (b : Bool) → IsWithin (cond b [] (option_to_list (place_of names s))) (length names)
    by true = tt
    by false = place-within names s

super-within : (names : List (List ℕ)) (supers : List ClassName) → IsWithin (super_places names supers) (length names)
super-within names [] = tt
super-within names (s ∷ ss) = IsWithin-append (option_to_list (place_of names s)) (later_places names ss) (length names) (place-within names s) (later-within names ss)

pub links-within : (names : List (List ℕ)) (headers : List Header) → AreWithin (map (λ h. super_places names h.supers) headers) (length names)
links-within names [] = tt
links-within names (h ∷ hs) = (super-within names h.supers, links-within names hs)

pub length-map : {A B : Type 0} (f : A → B) (xs : List A) → length (map f xs) ≡ length xs
length-map f [] = refl
length-map f (x ∷ xs) = ap suc (length-map f xs)
