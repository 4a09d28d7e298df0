-- What the copies of parts that are made so far add to what was made.
use Rattle.std.specs.Prelude.{◌≡◌, ◌++◌}
use Rattle.part_copies.specs.declared.copies.Made.{Made}
use Rattle.part_copies.specs.Copies.{Copies}
use Rattle.oref_table.specs.declared.slot.Slot.{Slot}
use Rattle.oref_table.specs.declared.slot.Slot.TheOpen.{Slot-F}

pub record IsAdded {X : Type 0} (old new : Made) (c : Copies X) (x : X) : Type 0 where
  pub copy : x ≡ c.copy
  pub last : new.last ≡ c.last
  pub made : new.objects.items ≡ old.objects.items ++ c.made
  pub named : new.named.items ≡ old.named.items ++ c.named

-- what may stand in a reference: an object, or nothing that names one
abbrev pub HoldsReference : Slot-F Slot → Type 0
HoldsReference (Slot-F.To o) = Unit {0}
HoldsReference (Slot-F.Target id) = Unit {0}
HoldsReference _ = ⊥
