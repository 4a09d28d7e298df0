-- The names of the data and index globals of all extents, as one list.
use Rattle.std.specs.Prelude.{ℕ, cond, List, [], ◌∷◌, ◌++◌}
use Rattle.std.specs.List.{list_any}
use Rattle.obj_kinds.specs.Texts.{same_text}
use Rattle.schema_kinds.specs.declared.class.Class.{Class}
use Rattle.schema_kinds.specs.Classes.{is_root}

-- a name once
abbrev pub put_name : List (List ℕ) → List ℕ → List (List ℕ)
put_name names name = cond (list_any (same_text name) names) names (names ++ name ∷ [])

-- the data global (`D`) and the index global (`I`) of the extent of which the class is the root
abbrev pub put_globals : List (List ℕ) → Class → List (List ℕ) → List (List ℕ)
put_globals names c globals = cond (is_root names c) (put_name (put_name globals (c.name.0 ++ 68 ∷ [])) (c.name.0 ++ 73 ∷ [])) globals

abbrev pub put_all_globals : List (List ℕ) → List Class → List (List ℕ) → List (List ℕ)
put_all_globals names [] globals = globals
put_all_globals names (c ∷ cs) globals = put_all_globals names cs (put_globals names c globals)
