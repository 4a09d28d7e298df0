-- What stored values and fields show, and how fields are written: each by one step.
use Rattle.std.proofs.Common.{◌≡◌, ℕ, Bool, List, map, Option, sym, ap, ◌∙◌}
use Rattle.obj_kinds.specs.declared.sub.Sub.{Sub}
use Rattle.obj_kinds.specs.declared.value.Value.{Value}
use Rattle.obj_kinds.specs.declared.value.Value.TheVariants as value
use Rattle.obj_kinds.specs.declared.value.Value.TheVariants.{rolls-Str, rolls-List}
use Rattle.obj_kinds.specs.declared.value.Value.TheOpen.{Value-F}
use Rattle.obj_kinds.specs.declared.value.Value.TheViews.{out-Value, out-roll-Value}
use Rattle.obj_kinds.specs.declared.value.Value.TheFolds.{fold-roll-Value}
use Rattle.obj_kinds.specs.Values.{same_value, same_layer, same_step}
use Rattle.schema_kinds.specs.declared.record.Field.{Field}
use Rattle.schema_kinds.specs.declared.record.Field.TheVariants as field
use Rattle.schema_kinds.specs.declared.record.Field.TheVariants.{rolls-Plain, rolls-Target, rolls-Map}
use Rattle.schema_kinds.specs.declared.record.Field.TheOpen.{Field-F}
use Rattle.schema_kinds.specs.declared.record.Field.TheViews.{out-Field, out-roll-Field}
use Rattle.schema_kinds.specs.declared.record.Field.TheFolds.{fold-roll-Field}
use Rattle.record_layout.specs.Items.{item, item_step, target_text}

pub list_out : (vs : List Value) → out-Value (value.List vs) ≡ Value-F.List vs
list_out vs = ap out-Value (sym (rolls-List vs)) ∙ out-roll-Value (Value-F.List vs)

pub text_out : (t : List ℕ) → out-Value (value.Str t) ≡ Value-F.Str t
text_out t = ap out-Value (sym (rolls-Str t)) ∙ out-roll-Value (Value-F.Str t)

pub plain_out : (t : List ℕ) → out-Field (field.Plain t) ≡ Field-F.Plain t
plain_out t = ap out-Field (sym (rolls-Plain t)) ∙ out-roll-Field (Field-F.Plain t)

pub target_out : (id : Option (List ℕ)) → out-Field (field.Target id) ≡ Field-F.Target id
target_out id = ap out-Field (sym (rolls-Target id)) ∙ out-roll-Field (Field-F.Target id)

pub map_out : (pairs : List (Sub × Field)) → out-Field (field.Map pairs) ≡ Field-F.Map pairs
map_out pairs = ap out-Field (sym (rolls-Map pairs)) ∙ out-roll-Field (Field-F.Map pairs)

pub plain_item : (t : List ℕ) → item (field.Plain t) ≡ value.Str t
plain_item t = ap item (sym (rolls-Plain t)) ∙ fold-roll-Field Value item_step (Field-F.Plain t)

pub target_item : (id : Option (List ℕ)) → item (field.Target id) ≡ value.Str (target_text id)
target_item id = ap item (sym (rolls-Target id)) ∙ fold-roll-Field Value item_step (Field-F.Target id)

pub same_texts : (t : List ℕ) (w : Value) → same_value (value.Str t) w ≡ same_layer (Value-F.Str t) (out-Value w)
same_texts t w = ap (λ v. same_value v w) (sym (rolls-Str t)) ∙ ap (λ f. f w) (fold-roll-Value (Value → Bool) same_step (Value-F.Str t))

pub same_lists : (vs : List Value) (w : Value) → same_value (value.List vs) w ≡ same_layer (Value-F.List (map same_value vs)) (out-Value w)
same_lists vs w = ap (λ v. same_value v w) (sym (rolls-List vs)) ∙ ap (λ f. f w) (fold-roll-Value (Value → Bool) same_step (Value-F.List vs))
