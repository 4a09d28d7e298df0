-- What a read has still to do in each of its phases.
use Rattle.std.specs.Prelude.{◌≡◌, ℕ, Bool, true, false, List, [], ◌∷◌, ◌++◌, drop, length, Option, None, Some, Result, Ok, Err}
use Rattle.std.specs.Option.{option_copied}
use Rattle.std.specs.List.{flat_map}
use Rattle.obj_kinds.specs.declared.name.ClassName.{ClassName}
use Rattle.obj_kinds.specs.declared.node.Node.{Node}
use Rattle.obj_kinds.specs.declared.sub.Sub.{Sub}
use Rattle.obj_kinds.specs.declared.sub.Sub.TheVariants.{Str}
use Rattle.obj_kinds.specs.declared.op.Op.{Op}
use Rattle.obj_kinds.specs.declared.op.Op.TheVariants.{Get, Order}
use Rattle.obj_kinds.specs.declared.op.Reply.{Reply}
use Rattle.obj_kinds.specs.declared.cause.Cause.{Cause}
use Rattle.schema_kinds.specs.declared.class.Class.{Class}
use Rattle.schema_kinds.specs.declared.key.Key.{Key}
use Rattle.schema_kinds.specs.declared.record.Field.{Field}
use Rattle.schema_kinds.specs.declared.record.Record.{Record}
use Rattle.record_layout.specs.Rows.{data_node, below}
use Rattle.record_layout.specs.Shapes.{Form}
use Rattle.record_layout.specs.Reading.{merged}
use Rattle.record_reading.specs.Steps.{list_seen, layout_seen}
use Rattle.store_calls.specs.Calls.{Call, Give, Cut, Tag, Tried, Got, Lost, then, each}
use Rattle.store_calls.specs.Plans.{Bounded, IsAfter, AsksFor, SaysNext}
use Rattle.store_calls.specs.Walks.{Elements, child, walk}
use Rattle.store_calls.specs.WalkPlan.{AtElement as at_element, walk_to_come}
use Rattle.object_calls.specs.Extents.{refuses_other, refuses_none}
use Rattle.object_calls.specs.Reading.{is_element, element_fields, read_list, read_array, within_limits, read}
use Rattle.read_plan.specs.declared.call.ReadCall.{ReadCall}
use Rattle.read_plan.specs.declared.call.ReadStep.{ReadStep}
use Rattle.read_plan.specs.declared.call.ReadStep.TheVariants as step
use Rattle.read_plan.specs.declared.phase.Begun.{Begun}
use Rattle.read_plan.specs.declared.phase.Listing.{Listing}
use Rattle.read_plan.specs.declared.phase.Walking.{Walking}
use Rattle.read_plan.specs.declared.phase.Pending.{Pending}
use Rattle.read_plan.specs.declared.phase.Phase.{Phase}
use Rattle.read_plan.specs.declared.phase.Phase.TheVariants.{AtRow, AtList, AtKey, AtElement, Full, Over, Told}

-- a list or an array below the row
abbrev pub named_node : Key → List ℕ → Node
named_node key name = below (data_node key) (Str name ∷ [])

-- what is asked of the store; nothing where no reply is awaited
abbrev pub asked_in : Key → Phase → Option Op
asked_in key AtRow = Some (Get (data_node key))
asked_in key (AtList l) = Some (Get (named_node key l.list.name.now))
asked_in key (AtKey w behind) = Some (Order (named_node key w.array.name.now) behind)
asked_in key (AtElement p) = Some (Get (child (named_node key p.walking.array.name.now) p.key))
asked_in key (Full b maps) = None
asked_in key (Over o) = None
asked_in key Told = None

-- the node is the row of the key, or stands below it
abbrev pub IsOwnNode : Key → Node → Type 0
IsOwnNode key n = (way : List Sub) × (n ≡ below (data_node key) way)

-- only nodes of the key are read
abbrev pub IsOwn : Key → Op → Type 0
IsOwn key (Get n) = IsOwnNode key n
IsOwn key (Order n behind) = IsOwnNode key n
IsOwn key op = ⊥

abbrev pub IsOwnStep : Key → ReadStep → Type 0
IsOwnStep key (step.Ask op) = IsOwn key op
IsOwnStep key (step.Read o) = Unit {0}

abbrev pub is_asking : Phase → Bool
is_asking (Full b maps) = false
is_asking (Over o) = false
is_asking Told = false
is_asking _ = true

abbrev pub is_told : Phase → Bool
is_told Told = true
is_told _ = false

-- where a class is asked for, one that is not at or below it is refused
abbrev pub refuses : List Class → Option ClassName → ClassName → Option Cause
refuses classes None = refuses_none
refuses classes (Some wanted) = refuses_other classes wanted

abbrev pub tried_of : {A : Type 0} → Result A Cause → Tried A
tried_of (Ok a) = Got a
tried_of (Err x) = Lost x

-- the elements of an array
abbrev pub Pairs : Type 0
Pairs = List (Sub × Field)

module _ (classes : List Class) (key : Key) (tag : Tag) (most : ℕ) where
  -- all was read: these are the fields of the lists, and the arrays
  abbrev pub gathered : Begun → List (List Field) → List Pairs → Tried (Option Record)
  gathered b lists maps =
      within_limits classes key tag most (record {
        class = b.class.now;
        fields = merged (layout_seen b.steps).forms (b.first ++ flat_map (λ fields. fields) lists) maps;
      })

  -- these arrays were read, and those behind them are left
  abbrev pub arrays_left : Begun → List Pairs → Call (Tried (Option Record))
  arrays_left b maps =
      then (each (read_array classes key tag most) (drop (length maps) (layout_seen b.steps).arrays))
      (λ more. Give (gathered b b.lists (maps ++ more)))

  -- these lists were read, and those behind them and all arrays are left
  abbrev pub lists_left : Begun → List (List Field) → Call (Tried (Option Record))
  lists_left b lists =
      then (each (read_list classes key tag most) (drop (length lists) (layout_seen b.steps).lower))
      (λ more. then (each (read_array classes key tag most) (layout_seen b.steps).arrays)
      (λ maps. Give (gathered b (lists ++ more) maps)))

  -- the rest of the array has these elements
  abbrev pub array_ends : Walking → Elements → Call (Tried (Option Record))
  array_ends w es = arrays_left w.begun (w.maps ++ (w.pairs ++ element_fields classes key tag most w.array.item.now es) ∷ [])

  -- behind this key of the array
  abbrev pub keys_left : Walking → Option Sub → Call (Tried (Option Record))
  keys_left w behind =
      then (walk (named_node key w.array.name.now) tag (is_element classes key tag most w.array.item.now) most (record { behind = behind; found = [] }))
      (array_ends w)

  -- the element of this key, and what comes behind it
  abbrev pub element_left : Walking → Sub → Call (Tried (Option Record))
  element_left w k =
      then (walk_to_come (named_node key w.array.name.now) tag (is_element classes key tag most w.array.item.now) (at_element [] k) most)
      (array_ends w)

  abbrev pub list_left : Begun → List ℕ × List Form → Call (Tried (Option Record))
  list_left b l = then (read_list classes key tag most l) (λ fields. lists_left b (b.lists ++ fields ∷ []))

  -- the call that is left in each phase
  unfoldable pub to_come_within : Option ClassName → Phase → Call (Tried (Option Record))
  to_come_within wanted AtRow = read classes key tag most (refuses classes wanted)
  to_come_within wanted (AtList l) = list_left l.begun (list_seen l.list)
  to_come_within wanted (AtKey w behind) = keys_left w behind
  to_come_within wanted (AtElement p) = element_left p.walking p.key
  to_come_within wanted (Full b maps) = Give (gathered b b.lists maps)
  to_come_within wanted (Over o) = Give (tried_of o)
  to_come_within wanted Told = Cut

-- for each number of turns that its walks may have
abbrev pub to_come : List Class → Key → Option ClassName → Tag → Phase → Bounded (Tried (Option Record))
to_come classes key wanted tag phase = λ most. to_come_within classes key tag most wanted phase

-- a read that asks stays as it is; one that has answered is over
abbrev pub StaysAt : ReadStep → Phase → Phase → Type 0
StaysAt (step.Ask op) before now = (is_asking before ≡ true) × (now ≡ before)
StaysAt (step.Read o) before now = now ≡ Told

-- the phase leaves the read, whatever is read
abbrev pub IsBegun : Phase → Type 0
IsBegun phase =
    (classes : List Class) (key : Key) (wanted : Option ClassName) (tag : Tag) (most : ℕ)
    → to_come_within classes key tag most wanted phase ≡ read classes key tag most (refuses classes wanted)

-- the phase leaves this call
abbrev pub Leaves : (List Class → Key → Tag → ℕ → Call (Tried (Option Record))) → Phase → Type 0
Leaves call phase =
    (classes : List Class) (key : Key) (wanted : Option ClassName) (tag : Tag) (most : ℕ) → to_come_within classes key tag most wanted phase ≡ call classes key tag most

-- and this one, for the read that was called
abbrev pub LeavesOf : ReadCall → (Tag → ℕ → Call (Tried (Option Record))) → Phase → Type 0
LeavesOf c call phase = (tag : Tag) (most : ℕ) → to_come_within c.schema.now c.key.now tag most (option_copied c.wanted) phase ≡ call tag most

-- the one phase is behind the other by the reply
abbrev pub IsTaken : ReadCall → Reply → Phase → Phase → Type 0
IsTaken c r before now = (tag : Tag) → IsAfter r (to_come c.schema.now c.key.now (option_copied c.wanted) tag before) (to_come c.schema.now c.key.now (option_copied c.wanted) tag now)

-- behind the list, whose fields were put to the others
abbrev pub IsBehindList : Phase → Phase → Type 0
IsBehindList (AtList l) now = Leaves (λ classes key tag most. lists_left classes key tag most l.begun l.begun.lists) now
IsBehindList before now = ⊥

-- behind the array, which was put to the others
abbrev pub IsBehindArray : Phase → Phase → Type 0
IsBehindArray (AtKey w behind) now = Leaves (λ classes key tag most. arrays_left classes key tag most w.begun w.maps) now
IsBehindArray before now = ⊥

-- the array has no further element
abbrev pub EndsArray : Phase → Phase → Type 0
EndsArray (AtKey w behind) now = Leaves (λ classes key tag most. array_ends classes key tag most w []) now
EndsArray before now = ⊥

abbrev pub is_at_list : Phase → Bool
is_at_list (AtList l) = true
is_at_list _ = false

abbrev pub is_at_key : Phase → Bool
is_at_key (AtKey w behind) = true
is_at_key _ = false

abbrev pub is_at_element : Phase → Bool
is_at_element (AtElement p) = true
is_at_element _ = false

-- the element of this key is awaited
abbrev pub at_key : Phase → Sub → Phase
at_key (AtKey w behind) k = AtElement (record { walking = w; key = k })
at_key p k = p

-- behind the key whose element was put to the others
abbrev pub behind_key : Phase → Phase
behind_key (AtElement p) = AtKey p.walking (Some p.key)
behind_key p = p

-- with the fields of a list, and with an element
abbrev pub with_list : Listing → List Field → Listing
with_list l fields = record { begun = record { class = l.begun.class; steps = l.begun.steps; first = l.begun.first; lists = l.begun.lists ++ fields ∷ [] }; list = l.list }

abbrev pub with_pair : Walking → Sub → Field → Walking
with_pair w k f = record { begun = w.begun; maps = w.maps; array = w.array; pairs = w.pairs ++ (k, f) ∷ [] }

abbrev pub with_element : Pending → Field → Pending
with_element p f = record { walking = with_pair p.walking p.key f; key = p.key }

-- the array has no further element, and is put to the others
abbrev pub with_array : Walking → Walking
with_array w = record { begun = w.begun; maps = w.maps ++ w.pairs ∷ []; array = w.array; pairs = [] }

-- what the step says comes next: it asks that, or the whole call answers this
abbrev pub IsNext : ReadCall → ReadStep → Phase → Type 0
IsNext c (step.Ask op) phase = (tag : Tag) → SaysNext (AsksFor op) (to_come c.schema.now c.key.now (option_copied c.wanted) tag phase)
IsNext c (step.Read o) phase = (tag : Tag) (most : ℕ) → to_come_within c.schema.now c.key.now tag most (option_copied c.wanted) phase ≡ Give (tried_of o)
