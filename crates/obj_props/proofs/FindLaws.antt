-- What a property that is looked up in an object says of its memory.
use Rattle.std.proofs.Common.{◌≡◌, ℕ, List, Some}
use Rattle.std.specs.Prelude.{Result, Ok, Err, IfOk, IfErr}
use Rattle.std.specs.Option.{option_map}
use Rattle.schema_kinds.specs.declared.class.Class.{Class}
use Rattle.schema_kinds.specs.Classes.{class_of, props_of}
use Rattle.oref_table.specs.declared.obj.Obj.{Obj}
use Rattle.oref_table.specs.Memory.{Memory, object_of}
use Rattle.oref_table.specs.Kept.{as_kept}
use Rattle.obj_shape.specs.Fitting.{TableFits}
use Rattle.obj_props.specs.declared.get.Found.{Found}
use Rattle.obj_props.specs.declared.got.ShapeError.{ShapeError}
use Rattle.obj_props.specs.Changes.{HasSlot}
use Rattle.obj_props.specs.Contents.{IsFound, IsMissing, MayBeRead, Tells}
use Rattle.obj_props.specs.Properties.{alone, prop_place, prop_read, read_of}
use Rattle.obj_props.proofs.ContentLaws.{is_read, is_missing}

module _ (classes : List Class) (m : Memory) (n : ℕ) (name : List ℕ) (v : Obj) (is : Some v ≡ option_map (as_kept m.objects) (object_of n m.objects)) where
  pub ok_read : TableFits classes m → (r : Result Found ShapeError)
      → IfOk r (λ f. IsFound classes (props_of (class_of classes v.class)) v (prop_place name (props_of (class_of classes v.class))) f.at f.level f.content)
      → IfOk r (λ f. prop_read classes m n name ≡ read_of classes m n f.level f.at alone f.content)
  ok_read fits (Ok f) h = (is_read classes m n name v f.at f.level f.content fits is h).0
  ok_read fits (Err e) h = tt

  pub ok_slot : TableFits classes m → (r : Result Found ShapeError)
      → IfOk r (λ f. IsFound classes (props_of (class_of classes v.class)) v (prop_place name (props_of (class_of classes v.class))) f.at f.level f.content)
      → IfOk r (λ f. HasSlot m n f.at)
  ok_slot fits (Ok f) h = (is_read classes m n name v f.at f.level f.content fits is h).1
  ok_slot fits (Err e) h = tt

  pub ok_content : TableFits classes m → (r : Result Found ShapeError)
      → IfOk r (λ f. IsFound classes (props_of (class_of classes v.class)) v (prop_place name (props_of (class_of classes v.class))) f.at f.level f.content)
      → IfOk r (λ f. MayBeRead m f.content)
  ok_content fits (Ok f) h = (is_read classes m n name v f.at f.level f.content fits is h).2
  ok_content fits (Err e) h = tt

  pub err_missing : (r : Result Found ShapeError) → IfErr r (IsMissing (props_of (class_of classes v.class)) v (prop_place name (props_of (class_of classes v.class)))) → IfErr r (Tells (prop_read classes m n name))
  err_missing (Ok f) h = tt
  err_missing (Err e) h = is_missing classes m n name v e is h
