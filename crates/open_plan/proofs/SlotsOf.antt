-- The slots of a record name no object.
use Rattle.std.proofs.Common.{◌≡◌, ℕ, List, [], ◌∷◌, ◌++◌, map, None, Some, refl, ap, subst, ◌∙◌}
use Rattle.obj_kinds.specs.declared.sub.Sub.{Sub}
use Rattle.obj_kinds.specs.declared.value.Value.TheVariants as value
use Rattle.schema_kinds.specs.declared.prop.Prop.{Prop}
use Rattle.schema_kinds.specs.declared.kind.Kind.{Kind}
use Rattle.schema_kinds.specs.declared.kind.Kind.TheVariants as kind
use Rattle.schema_kinds.specs.declared.record.Field.{Field, map-Field}
use Rattle.schema_kinds.specs.declared.record.Field.TheOpen.{Field-F}
use Rattle.schema_kinds.specs.declared.record.Field.TheViews.{roll-Field}
use Rattle.schema_kinds.specs.declared.record.Field.TheFolds.{fold-roll-Field, ind-Field}
use Rattle.oref_table.specs.declared.slot.Slot.{Slot}
use Rattle.oref_table.specs.Refs.{refs_of, refs_in, refs_of_pairs}
use Rattle.oref_table.proofs.RefLaws.{refs-plain, refs-target, refs-items, refs-map, refs-members}
use Rattle.obj_shape.specs.Slots.{slot_with, slot_step, slot_of, next_slot, fields_left, slots_of}

abbrev IsBare : Field → Type 0
IsBare f = refs_of (slot_of f) ≡ []

abbrev Bare : Type 0
Bare = (f : Field) × IsBare f

all_bare : (ps : List Bare) → refs_in (map slot_of (map (λ p. p.0) ps)) ≡ []
all_bare [] = refl
all_bare (p ∷ ps) = ap (λ r. r ++ refs_in (map slot_of (map (λ p. p.0) ps))) p.1 ∙ all_bare ps

pairs_bare : (ps : List (Sub × Bare)) → refs_of_pairs (map (λ (q : Sub × Field). (q.0, slot_of q.1)) (map (λ (q : Sub × Bare). (q.0, q.1.0)) ps)) ≡ []
pairs_bare [] = refl
pairs_bare (p ∷ ps) = ap (λ r. r ++ refs_of_pairs (map (λ (q : Sub × Field). (q.0, slot_of q.1)) (map (λ (q : Sub × Bare). (q.0, q.1.0)) ps))) p.1.1 ∙ pairs_bare ps

layer_bare : (y : Field-F Bare) → refs_of (slot_step (map-Field Field Slot slot_of (map-Field Bare Field (λ p. p.0) y))) ≡ []
layer_bare (Field-F.Plain t) = refs-plain (value.Str t)
layer_bare (Field-F.Target id) = refs-target id
layer_bare (Field-F.Part None) = refs-target None
layer_bare (Field-F.Part (Some ps)) = refs-items (map slot_of (map (λ p. p.0) ps)) ∙ all_bare ps
layer_bare (Field-F.List ps) = refs-items (map slot_of (map (λ p. p.0) ps)) ∙ all_bare ps
layer_bare (Field-F.Map ps) = refs-map (map (λ (q : Sub × Field). (q.0, slot_of q.1)) (map (λ (q : Sub × Bare). (q.0, q.1.0)) ps)) ∙ pairs_bare ps

roll_bare : (y : Field-F Bare) → IsBare (roll-Field (map-Field Bare Field (λ p. p.0) y))
roll_bare y = ap refs_of (fold-roll-Field Slot slot_step (map-Field Bare Field (λ p. p.0) y)) ∙ layer_bare y

field_bare : (f : Field) → refs_of (slot_of f) ≡ []
field_bare = ind-Field IsBare (λ x y is. subst (λ z. IsBare (roll-Field z)) is (roll_bare y))

with_bare : (text : List ℕ) (k : Kind) → refs_of (slot_with text k) ≡ []
with_bare text kind.Text = refs-plain (value.Str text)
with_bare text kind.Whole = refs-plain (value.Str text)
with_bare text kind.Truth = refs-plain (value.Str text)
with_bare text (kind.Ref c) = refs-target None
with_bare text (kind.Serial c) = refs-target None
with_bare text (kind.ListOf i) = refs-items []
with_bare text (kind.ArrayOf i) = refs-map []
with_bare text (kind.Many c side) = refs-members []
with_bare text (kind.One c side) = refs-target None

next_bare : (k : Kind) (fields : List Field) → refs_of (next_slot k fields) ≡ []
next_bare (kind.Many c side) fields = refs-members []
next_bare kind.Text [] = with_bare [] kind.Text
next_bare kind.Text (f ∷ fields) = field_bare f
next_bare kind.Whole [] = with_bare [] kind.Whole
next_bare kind.Whole (f ∷ fields) = field_bare f
next_bare kind.Truth [] = with_bare [] kind.Truth
next_bare kind.Truth (f ∷ fields) = field_bare f
next_bare (kind.Ref c) [] = with_bare [] (kind.Ref c)
next_bare (kind.Ref c) (f ∷ fields) = field_bare f
next_bare (kind.Serial c) [] = with_bare [] (kind.Serial c)
next_bare (kind.Serial c) (f ∷ fields) = field_bare f
next_bare (kind.ListOf i) [] = with_bare [] (kind.ListOf i)
next_bare (kind.ListOf i) (f ∷ fields) = field_bare f
next_bare (kind.ArrayOf i) [] = with_bare [] (kind.ArrayOf i)
next_bare (kind.ArrayOf i) (f ∷ fields) = field_bare f
next_bare (kind.One c side) [] = with_bare [] (kind.One c side)
next_bare (kind.One c side) (f ∷ fields) = field_bare f

pub slots_bare : (props : List Prop) (fields : List Field) → refs_in (slots_of props fields) ≡ []
slots_bare [] fields = refl
slots_bare (p ∷ ps) fields = ap (λ r. r ++ refs_in (slots_of ps (fields_left p.kind fields))) (next_bare p.kind fields) ∙ slots_bare ps (fields_left p.kind fields)
