-- The first rule that an object breaks, by the order of its properties.
use Rattle.std.specs.Prelude.{ℕ, zero, suc, ◌+◌, Bool, true, false, cond, ◌&&◌, nat_le, List, [], ◌∷◌, map, take, drop, length, slice_get, Option, None, Some, is_none, option_map}
use Rattle.std.specs.List.{list_any, list_all}
use Rattle.std.specs.Option.{option_and_then}
use Rattle.obj_kinds.specs.declared.cause.Why.{Why}
use Rattle.obj_kinds.specs.declared.cause.Why.TheVariants as why
use Rattle.obj_kinds.specs.declared.cause.Cause.{Cause}
use Rattle.obj_kinds.specs.declared.cause.Cause.TheVariants.{Invalid}
use Rattle.obj_kinds.specs.declared.name.ClassName.{ClassName}
use Rattle.obj_kinds.specs.declared.sub.Sub.{Sub}
use Rattle.obj_kinds.specs.declared.value.Value.{Value}
use Rattle.obj_kinds.specs.declared.value.Value.TheOpen.{Value-F}
use Rattle.obj_kinds.specs.declared.value.Value.TheViews.{out-Value}
use Rattle.obj_kinds.specs.Texts.{same_text}
use Rattle.schema_kinds.specs.declared.class.Class.{Class}
use Rattle.schema_kinds.specs.declared.class.Index.{Index}
use Rattle.schema_kinds.specs.declared.kind.Item.{Item}
use Rattle.schema_kinds.specs.declared.kind.Item.TheVariants as of
use Rattle.schema_kinds.specs.declared.prop.Prop.{Prop}
use Rattle.schema_kinds.specs.Hierarchy.{chain, firsts_of, place_of}
use Rattle.schema_kinds.specs.Classes.{class_of, class_names, headers_of, props_of}
use Rattle.record_layout.specs.Shapes.{Form, single, listed, keyed, form_of}
use Rattle.record_layout.specs.Rows.{marker}
use Rattle.oref_table.specs.declared.slot.Slot.{Slot}
use Rattle.oref_table.specs.declared.slot.Slot.TheOpen.{Slot-F}
use Rattle.oref_table.specs.declared.slot.Slot.TheViews.{out-Slot}
use Rattle.oref_table.specs.declared.obj.Obj.{Obj}
use Rattle.oref_table.specs.Memory.{Memory, object_of}
use Rattle.oref_table.specs.Kept.{as_kept}
use Rattle.obj_shape.specs.Records.{text_of, text_in, items_of, pairs_of, part_slots, element_field, fields_by, part_fields}
use Rattle.obj_validity.specs.declared.fault.Fault.{Fault}
use Rattle.obj_validity.specs.Values.{or_later, broken_if, value_fault}
use Rattle.obj_validity.specs.Weights.{share, total}

-- the first that is broken
abbrev pub first_broken : {X : Type 0} → (X → Option Why) → List X → Option Why
first_broken f [] = None
first_broken f (x ∷ xs) = or_later (f x) (first_broken f xs)

abbrev pub part_fault_in : (List Slot → Option Why) → Option (List Slot) → Option Why
part_fault_in fault None = None
part_fault_in fault (Some slots) = fault slots

-- of an element; it is said what is of a part, and whether the property is one of an index
abbrev pub element_fault : Memory → (ClassName → List Slot → Option Why) → Prop → Bool → Item → Slot-F Slot → Option Why
element_fault m part p indexed (of.Serial c) s = part_fault_in (part c) (part_slots m s)
element_fault m part p indexed i s = value_fault p indexed i (text_of s)

abbrev pub is_empty_text : List ℕ → Bool
is_empty_text [] = true
is_empty_text (byte ∷ text) = false

-- an empty text, no id, no part
abbrev pub is_unset : Slot-F Slot → Bool
is_unset (Slot-F.Plain v) = is_empty_text (text_in (out-Value v))
is_unset (Slot-F.Target id) = is_none id
is_unset _ = false

abbrev pub has_none : {X : Type 0} → List X → Bool
has_none [] = true
has_none (x ∷ xs) = false

-- an empty value or reference, no part, or an empty collection
abbrev pub is_lacking : Form → Slot-F Slot → Bool
is_lacking (single i) s = is_unset s
is_lacking (listed i) s = has_none (items_of s)
is_lacking (keyed i) s = has_none (pairs_of s)

abbrev pub content_fault : Memory → (ClassName → List Slot → Option Why) → Prop → Bool → Form → Slot-F Slot → Option Why
content_fault m part p indexed (single i) s = element_fault m part p indexed i s
content_fault m part p indexed (listed i) s = first_broken (λ t. element_fault m part p indexed i (out-Slot t)) (items_of s)
content_fault m part p indexed (keyed i) s = first_broken (λ e. element_fault m part p indexed i (out-Slot e.1)) (pairs_of s)

abbrev pub lacks_kind : Option Form → Slot-F Slot → Bool
lacks_kind None s = false
lacks_kind (Some form) s = is_lacking form s

abbrev pub kind_fault : Memory → (ClassName → List Slot → Option Why) → Prop → Bool → Slot-F Slot → Option Form → Option Why
kind_fault m part p indexed s None = None
kind_fault m part p indexed s (Some form) = content_fault m part p indexed form s

-- of a property: it isn't lacking where it is required, and each element is in order; a many side always is
abbrev pub prop_fault : Memory → (ClassName → List Slot → Option Why) → Prop → Bool → Slot-F Slot → Option Why
prop_fault m part p indexed s =
    or_later (broken_if (p.required && lacks_kind (form_of p.kind) s) why.Required) (kind_fault m part p indexed s (form_of p.kind))

-- of the properties of a part
abbrev pub props_fault : Memory → (ClassName → List Slot → Option Why) → List Prop → List Slot → Option Why
props_fault m part [] slots = None
props_fault m part (p ∷ ps) [] = None
props_fault m part (p ∷ ps) (s ∷ ss) = or_later (prop_fault m part p false (out-Slot s)) (props_fault m part ps ss)

-- of a part of the class, with no more than n parts one in the other
abbrev pub part_fault : ℕ → List Class → Memory → ClassName → List Slot → Option Why
part_fault zero classes m c slots = None
part_fault (suc n) classes m c slots = props_fault m (part_fault n classes m) (props_of (class_of classes c)) slots

-- the property is one of an index
abbrev pub is_indexed : List Index → Prop → Bool
is_indexed indexes p = list_any (λ ix. list_any (same_text p.name) ix.props) indexes

abbrev pub or_next : ℕ → Option Why → Option Fault → Option Fault
or_next at None later = later
or_next at (Some w) later = Some (record { prop = Some at; why = w })

-- the first property of the object that isn't in order, by its place, counted on from a number
abbrev pub place_fault : Memory → (ClassName → List Slot → Option Why) → List Index → ℕ → List Prop → List Slot → Option Fault
place_fault m part indexes at [] slots = None
place_fault m part indexes at (p ∷ ps) [] = None
place_fault m part indexes at (p ∷ ps) (s ∷ ss) =
    or_next at (prop_fault m part p (is_indexed indexes p) (out-Slot s)) (place_fault m part indexes (at + 1) ps ss)

-- ---- the lists of a row

abbrev pub class_indexes : Option Class → List Index
class_indexes None = []
class_indexes (Some c) = c.indexes

-- the places of the class, of its first superclass and so on
abbrev pub line_up : List Class → Option ℕ → List ℕ
line_up classes None = []
line_up classes (Some i) = chain (length classes) (firsts_of (headers_of classes)) i

-- how many properties the class at the place has
abbrev pub count_at : List Class → ℕ → ℕ
count_at classes i = length (props_of (slice_get classes i))

abbrev pub between : {X : Type 0} → ℕ → ℕ → List X → List X
between from to xs = drop from (take to xs)

-- what the fields of the properties from one place up to another add to their list
abbrev pub span_share : List Class → Memory → Obj → ℕ → ℕ → ℕ
span_share classes m o from to =
    total (map share (fields_by m [] (part_fields 4 classes m []) (between from to (props_of (class_of classes o.class))) (between from to o.slots)))

-- the item that tells the class
abbrev pub marker_of : Obj → Option ClassName → List ℕ
marker_of o None = []
marker_of o (Some extent) = marker extent o.class

-- the row of the root class has that item and the root's own properties
unfoldable pub root_fits : List Class → Memory → Obj → ℕ → Bool
root_fits classes m o i = nat_le (2 + (2 + length (marker_of o o.extent)) + span_share classes m o 0 (count_at classes i)) 32767

-- the list of a class below has the properties that the class above it hasn't
unfoldable pub list_fits : List Class → Memory → Obj → ℕ → ℕ → Bool
list_fits classes m o above i = nat_le (2 + span_share classes m o (count_at classes above) (count_at classes i)) 32767

abbrev pub lists_fit : List Class → Memory → Obj → List ℕ → Bool
lists_fit classes m o [] = true
lists_fit classes m o (i ∷ []) = root_fits classes m o i
lists_fit classes m o (i ∷ j ∷ js) = list_fits classes m o j i && lists_fit classes m o (j ∷ js)

-- an element of an array is a value of its own
abbrev pub element_fits : List Class → Memory → Item → Sub × Slot → Bool
element_fits classes m i e = nat_le (share (element_field m [] (part_fields 4 classes m []) i (out-Slot e.1))) 32769

abbrev pub form_fits : List Class → Memory → Option Form → Slot-F Slot → Bool
form_fits classes m (Some (keyed i)) s = list_all (element_fits classes m i) (pairs_of s)
form_fits classes m _ s = true

abbrev pub arrays_fit : List Class → Memory → List Prop → List Slot → Bool
arrays_fit classes m [] slots = true
arrays_fit classes m (p ∷ ps) [] = true
arrays_fit classes m (p ∷ ps) (s ∷ ss) = form_fits classes m (form_of p.kind) (out-Slot s) && arrays_fit classes m ps ss

-- no list and no element of an array weighs more than a value may. Nor is one nested deeper than a value may be: with parts
-- in lists, 4 deep, ten lists stand in one another at most
abbrev pub row_fits : List Class → Memory → Obj → Bool
row_fits classes m o =
    lists_fit classes m o (line_up classes (place_of (class_names classes) o.class)) && arrays_fit classes m (props_of (class_of classes o.class)) o.slots

abbrev pub row_fault : Bool → Option Fault
row_fault fits = cond fits None (Some (record { prop = None; why = why.RowTooLong }))

abbrev pub or_row : Option Fault → Option Fault → Option Fault
or_row None row = row
or_row (Some f) row = Some f

unfoldable pub object_fault : List Class → Memory → Obj → Option Fault
object_fault classes m o =
    or_row (place_fault m (part_fault 4 classes m) (class_indexes (class_of classes o.class)) 0 (props_of (class_of classes o.class)) o.slots)
    (row_fault (row_fits classes m o))

-- the first rule that the object of the number breaks
abbrev pub first_fault : List Class → Memory → ℕ → Option Fault
first_fault classes m n = option_and_then (object_fault classes m) (option_map (as_kept m.objects) (object_of n m.objects))

-- ---- its cause

abbrev pub name_part : Option Prop → List ℕ
name_part None = []
name_part (Some p) = p.name

abbrev pub prop_name : List Prop → Option ℕ → List ℕ
prop_name props None = []
prop_name props (Some i) = name_part (slice_get props i)

-- the property of the fault by its name, none where it is the row's
abbrev pub cause_of : List Class → ClassName → Fault → Cause
cause_of classes class f = Invalid class (prop_name (props_of (class_of classes class)) f.prop) f.why
