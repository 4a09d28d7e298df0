-- Which class extends which, and the first superclasses up to a root.
use Rattle.std.specs.Prelude.{◌≡◌, ℕ, zero, suc, Bool, cond, List, [], ◌∷◌, ◌++◌, map, position, nat_eq, length, get_or, Option, Some, None, option_to_list}
use Rattle.obj_kinds.specs.declared.name.ClassName.{ClassName}
pub use Rattle.obj_kinds.specs.Texts.{same_text}
use Rattle.schema_kinds.specs.declared.hierarchy.Header.{Header}
use Rattle.schema_kinds.specs.declared.hierarchy.Hierarchy.{Hierarchy}
use Rattle.schema_kinds.specs.Links.{AreAllAbove}

-- whether a name begins with `%`
abbrev pub is_system : ClassName → Bool
is_system name = nat_eq (get_or name.0 0 0) 37

-- the place of the first class of that name
abbrev pub place_of : List (List ℕ) → ClassName → Option ℕ
place_of names name = position (same_text name.0) names

abbrev pub later_places : List (List ℕ) → List ClassName → List ℕ
later_places names [] = []
later_places names (s ∷ ss) = cond (is_system s) [] (option_to_list (place_of names s)) ++ later_places names ss

-- the places of the superclasses that are listed; a later one whose name begins with `%` is skipped
abbrev pub super_places : List (List ℕ) → List ClassName → List ℕ
super_places names [] = []
super_places names (s ∷ ss) = option_to_list (place_of names s) ++ later_places names ss

-- the place of the first superclass, where it is listed
abbrev pub first_place : List (List ℕ) → List ClassName → Option ℕ
first_place names [] = None
first_place names (s ∷ ss) = place_of names s

abbrev pub names_of : List Header → List (List ℕ)
names_of headers = map (λ h. h.name.0) headers

abbrev pub links_of : List Header → List (List ℕ)
links_of headers = map (λ h. super_places (names_of headers) h.supers) headers

abbrev pub firsts_of : List Header → List (Option ℕ)
firsts_of headers = map (λ h. first_place (names_of headers) h.supers) headers

-- a class, its first superclass, the first one of that, and so on, at most n more
abbrev pub chain_on : (ℕ → List ℕ) → Option ℕ → List ℕ
chain_on rest None = []
chain_on rest (Some j) = rest j

abbrev pub chain : ℕ → List (Option ℕ) → ℕ → List ℕ
chain zero firsts i = i ∷ []
chain (suc n) firsts i = i ∷ chain_on (λ j. chain n firsts j) (get_or firsts i None)

abbrev pub top_on : (ℕ → ℕ) → ℕ → Option ℕ → ℕ
top_on rest i None = i
top_on rest i (Some j) = rest j

-- the last class of that chain
abbrev pub top : ℕ → List (Option ℕ) → ℕ → ℕ
top zero firsts i = i
top (suc n) firsts i = top_on (λ j. top n firsts j) i (get_or firsts i None)

-- the tables say what the headers say
pub record IsHierarchyOf (headers : List Header) (h : Hierarchy) : Type 0 where
  pub names : h.names ≡ names_of headers
  pub firsts : h.firsts ≡ firsts_of headers
  pub links : h.links ≡ links_of headers
  pub above : AreAllAbove (links_of headers) (length headers) h.above
