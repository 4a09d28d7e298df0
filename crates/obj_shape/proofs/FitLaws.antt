-- What a table that fits the schema gives for one object.
use Rattle.std.proofs.Common.{◌≡◌, ℕ, Bool, true, false, cond, List, [], ◌∷◌, Option, None, Some, subst}
use Rattle.std.specs.List.{AllByRecursion}
use Rattle.schema_kinds.specs.declared.class.Class.{Class}
use Rattle.oref_table.specs.Memory.{Object, Memory, object_of, is_numbered}
use Rattle.obj_shape.specs.Fitting.{FitsSchema, TableFits}

each-at : (P : Object → Type 0) (n : ℕ) (os : List Object) (o : Object) → AllByRecursion P os → object_of n os ≡ Some o → P o
each-at P n [] o all e = absurd (cc)
each-at P n (x ∷ xs) o all e = by (is_numbered n x) e (each-at P n xs o all.1)
  where
    by : (b : Bool) → cond b (Some x) (object_of n xs) ≡ Some o → (object_of n xs ≡ Some o → P o) → P o
    by true h rest = let is : x ≡ o = cc in subst P is all.0
    by false h rest = rest h

pub fits-at : (classes : List Class) (m : Memory) (n : ℕ) (o : Object) → TableFits classes m → object_of n m.objects ≡ Some o → FitsSchema classes m o
unfolding TableFits
fits-at classes m n o fits e = each-at (FitsSchema classes m) n m.objects o fits e
