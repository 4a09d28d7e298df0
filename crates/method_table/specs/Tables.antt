-- What a table of methods keeps, and what its places are to the methods that calls mean.
use Rattle.std.specs.Prelude.{◌≡◌, ℕ, suc, List, [], ◌∷◌, length, slice_get, Option, Some, None}
use Rattle.obj_kinds.specs.declared.name.ClassName.{ClassName}
use Rattle.schema_kinds.specs.declared.class.Class.{Class}
use Rattle.schema_kinds.specs.declared.method.Method.{Method}
use Rattle.os_meaning.specs.Syntax.{Block}
use Rattle.host_meaning.specs.Methods.{Program, Found, method_of}
use Rattle.method_table.specs.declared.table.MethodPlace.{MethodPlace}
use Rattle.method_table.specs.declared.methods.MethodTable.{MethodTable}
use Rattle.method_table.specs.Places.{rounds, method_place}

abbrev pub IsTableOf : List Class → MethodTable → Type 0
IsTableOf classes t = t.tables ≡ rounds classes (suc (length classes))

-- each method that a class declares has a body
abbrev pub HaveBodies : List Class → List (List Block) → Type 0
HaveBodies [] [] = Unit {0}
HaveBodies (c ∷ cs) (b ∷ bs) = (length c.methods ≡ length b) × HaveBodies cs bs
HaveBodies _ _ = ⊥

abbrev pub with_body : Class → Option Method → Option Block → Option Found
with_body c (Some m) (Some b) = Some (record { class = c.name; method = m; body = b })
with_body c _ _ = None

abbrev pub method_at : Option Class → Option (List Block) → ℕ → Option Found
method_at (Some c) (Some bs) at = with_body c (slice_get c.methods at) (slice_get bs at)
method_at _ _ at = None

-- what stands at a place
abbrev pub found_at : Program → MethodPlace → Option Found
found_at p x = method_at (slice_get p.classes x.class) (slice_get p.bodies x.class) x.method

-- neither is there, or both, and the method stands at the place
abbrev pub Leads : Program → Option MethodPlace → Option Found → Type 0
Leads p None None = Unit {0}
Leads p (Some x) (Some f) = found_at p x ≡ Some f
Leads p _ _ = ⊥

abbrev pub PlacesAreMethods : Type 0
PlacesAreMethods = (p : Program) → HaveBodies p.classes p.bodies → (class : ClassName) (name : List ℕ) → Leads p (method_place p.classes class name) (method_of p class name)
