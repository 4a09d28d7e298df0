-- A live object as the table tells it.
use Rattle.std.proofs.Common.{◌≡◌, ℕ, List, [], Option, None, Some, refl, ap}
use Rattle.std.specs.Option.{option_map}
use Rattle.oref_table.specs.declared.obj.Obj.{Obj}
use Rattle.oref_table.specs.declared.slot.Slot.{Slot}
use Rattle.oref_table.specs.Memory.{Object}
use Rattle.oref_table.specs.Kept.{as_kept}
use Rattle.obj_shape.specs.Records.{id_part, slots_part}

pub id_kept : (objects : List Object) (x : Option Object) (v : Obj) → Some v ≡ option_map (as_kept objects) x → v.id ≡ id_part x
id_kept objects None v e = absurd (cc)
id_kept objects (Some o) v e = let is : v ≡ as_kept objects o = cc in ap (λ (u : Obj). u.id) is

pub no_id : (objects : List Object) (x : Option Object) → None ≡ option_map (as_kept objects) x → None ≡ id_part x
no_id objects None e = refl
no_id objects (Some o) e = absurd (cc)

pub slots_kept : (objects : List Object) (x : Option Object) (v : Obj) → Some v ≡ option_map (as_kept objects) x → v.slots ≡ slots_part x
slots_kept objects None v e = absurd (cc)
slots_kept objects (Some o) v e = let is : v ≡ as_kept objects o = cc in ap (λ (u : Obj). u.slots) is

pub no_slots : (objects : List Object) (x : Option Object) → None ≡ option_map (as_kept objects) x → [] ≡ slots_part x
no_slots objects None e = refl
no_slots objects (Some o) e = absurd (cc)
