-- The class of a live object as the table tells it.
use Rattle.std.proofs.Common.{◌≡◌, List, [], Option, None, Some, refl, ap}
use Rattle.std.specs.Option.{option_map}
use Rattle.oref_table.specs.declared.obj.Obj.{Obj}
use Rattle.oref_table.specs.Memory.{Object}
use Rattle.oref_table.specs.Kept.{as_kept}
use Rattle.prop_setting.specs.Elements.{class_part}

pub class_kept : (objects : List Object) (x : Option Object) (v : Obj) → Some v ≡ option_map (as_kept objects) x → v.class.0 ≡ class_part x
class_kept objects None v e = absurd (cc)
class_kept objects (Some o) v e = let is : v ≡ as_kept objects o = cc in ap (λ (u : Obj). u.class.0) is

pub no_class : (objects : List Object) (x : Option Object) → None ≡ option_map (as_kept objects) x → [] ≡ class_part x
no_class objects None e = refl
no_class objects (Some o) e = absurd (cc)
