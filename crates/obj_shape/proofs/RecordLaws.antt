-- The record of an object as the table tells it.
use Rattle.std.proofs.Common.{◌≡◌, ℕ, List, Option, None, Some, refl, ap, sym}
use Rattle.std.specs.Option.{option_map}
use Rattle.schema_kinds.specs.declared.class.Class.{Class}
use Rattle.schema_kinds.specs.declared.record.Record.{Record}
use Rattle.schema_kinds.specs.Classes.{class_of, props_of}
use Rattle.oref_table.specs.declared.obj.Obj.{Obj}
use Rattle.oref_table.specs.Memory.{Object, Memory}
use Rattle.oref_table.specs.Kept.{as_kept}
use Rattle.obj_shape.specs.Records.{fields_by, part_fields, record_of}

abbrev told : List Class → Memory → List (ℕ × List ℕ) → Obj → Record
told classes m drawn v = record { class = v.class; fields = fields_by m drawn (part_fields 4 classes m drawn) (props_of (class_of classes v.class)) v.slots }

pub record_told : (classes : List Class) (m : Memory) (drawn : List (ℕ × List ℕ)) (objects : List Object) (x : Option Object) (v : Obj) → Some v ≡ option_map (as_kept objects) x
    → option_map (record_of classes m drawn) x ≡ Some (record { class = v.class; fields = fields_by m drawn (part_fields 4 classes m drawn) (props_of (class_of classes v.class)) v.slots })
unfolding record_of
record_told classes m drawn objects None v e = absurd (cc)
record_told classes m drawn objects (Some o) v e =
    let is : v ≡ as_kept objects o = cc in
    ap (λ (u : Obj). Some (told classes m drawn u)) (sym is)
