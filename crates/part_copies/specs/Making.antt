-- A part is copied: memory gets the objects that the copy takes.
use Rattle.std.specs.Prelude.{◌≡◌, ◌+◌, ℕ, List, [], ◌∷◌, Some}
use Rattle.schema_kinds.specs.declared.class.Class.{Class}
use Rattle.oref_table.specs.declared.obj.NewObj.{NewObj}
use Rattle.oref_table.specs.Memory.{Object, Memory, object_of}
use Rattle.oref_table.specs.Sound.{IsSound}
use Rattle.part_copies.specs.declared.make.PartCopy.{PartCopy}
use Rattle.part_copies.specs.Copies.{Copies, copy_part, with_copies}
use Rattle.part_copies.specs.Holding.{AreLive}
use Rattle.part_copies.specs.Sums.{AddsUp}

-- what a copy of an object takes; parts nest at most 4 deep
abbrev pub copy_of : List Class → Memory → ℕ → Object → Copies ℕ
copy_of classes m level o = copy_part 4 classes m level o.class o.slots m.last

-- the objects that are to be made are these
pub record IsWholly (c : Copies ℕ) (copy : PartCopy) : Type 0 where
  pub number : copy.number ≡ c.copy
  pub objects : copy.made.objects.items ≡ c.made
  pub named : copy.made.named.items ≡ c.named

abbrev pub IsCopyOf : List Class → Memory → ℕ → ℕ → PartCopy → Type 0
IsCopyOf classes m level n copy = (o : Object) × (object_of n m.objects ≡ Some o) × IsWholly (copy_of classes m level o) copy

-- copies that may be made in memory: what they name is live, and each but the first is named once
pub record AreCopies (m : Memory) (c : Copies ℕ) : Type 0 where
  pub adds : AddsUp m.last c.last c.made c.named (c.copy ∷ [])
  pub first : c.copy ≡ m.last + 1
  pub live : AreLive m c.named
  pub sound : IsSound m
  pub some : (n : NewObj) × (ns : List NewObj) × (c.made ≡ n ∷ ns)

-- the object of the number is copied, and the copy has that other number
abbrev pub IsCopied : List Class → Memory → ℕ → ℕ → Memory → ℕ → Type 0
IsCopied classes m level n w k =
    (o : Object) × (object_of n m.objects ≡ Some o) × (w ≡ with_copies m (copy_of classes m level o)) × (k ≡ (copy_of classes m level o).copy)
