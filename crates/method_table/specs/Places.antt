-- Names of methods with the places where they are declared, gathered round by round.
use Rattle.std.specs.Prelude.{ℕ, zero, suc, cond, List, [], ◌∷◌, ◌++◌, length, slice_get, Option, Some, None, is_some, fold}
use Rattle.std.specs.Map.{lookup}
use Rattle.obj_kinds.specs.declared.name.ClassName.{ClassName}
use Rattle.obj_kinds.specs.Texts.{same_text}
use Rattle.schema_kinds.specs.declared.class.Class.{Class}
use Rattle.schema_kinds.specs.declared.method.Method.{Method}
use Rattle.schema_kinds.specs.Hierarchy.{place_of}
use Rattle.schema_kinds.specs.Classes.{class_names}
use Rattle.method_table.specs.declared.table.MethodPlace.{MethodPlace}

-- names with places
abbrev pub Names : Type 0
Names = List (List ℕ × MethodPlace)

abbrev pub place_in : List ℕ → Names → Option MethodPlace
place_in name names = lookup (same_text name) names

-- a pair goes last, where its name isn't there yet
abbrev pub put_last : Names → List ℕ × MethodPlace → Names
put_last names pair = cond (is_some (place_in pair.0 names)) names (names ++ pair ∷ [])

abbrev pub put_all : Names → Names → Names
put_all names pairs = fold put_last names pairs

-- the methods that a class declares
abbrev pub own_places : ℕ → ℕ → List Method → Names
own_places class at [] = []
own_places class at (m ∷ ms) = (m.name, record { class = class; method = at }) ∷ own_places class (suc at) ms

-- what is known of a class
abbrev pub known : Option Names → Names
known None = []
known (Some names) = names

abbrev pub names_at : List Names → Option ℕ → Names
names_at tables None = []
names_at tables (Some i) = known (slice_get tables i)

abbrev pub put_super : List (List ℕ) → List Names → Names → ClassName → Names
put_super classes tables names super = put_all names (names_at tables (place_of classes super))

abbrev pub put_above : List (List ℕ) → List Names → Names → List ClassName → Names
put_above classes tables names supers = fold (put_super classes tables) names supers

-- its own methods, and then those of its superclasses from left to right
abbrev pub gathered : List (List ℕ) → List Names → ℕ → Class → Names
gathered classes tables at c = put_above classes tables (put_all [] (own_places at 0 c.methods)) c.supers

abbrev pub round_from : List (List ℕ) → List Names → ℕ → List Class → List Names
round_from classes tables at [] = []
round_from classes tables at (c ∷ cs) = gathered classes tables at c ∷ round_from classes tables (suc at) cs

abbrev pub round : List Class → List Names → List Names
round classes tables = round_from (class_names classes) tables 0 classes

-- what is known of all classes after so many rounds
abbrev pub rounds : List Class → ℕ → List Names
rounds classes zero = []
rounds classes (suc n) = round classes (rounds classes n)

-- the place of the method that a class has by a name
unfoldable pub method_place : List Class → ClassName → List ℕ → Option MethodPlace
method_place classes class name = place_in name (names_at (rounds classes (suc (length classes))) (place_of (class_names classes) class))
