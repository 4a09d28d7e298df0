-- Reads, phase by phase.
use Rattle.std.proofs.Common.{◌≡◌, ℕ, zero, suc, Bool, true, false, List, [], ◌∷◌, ◌++◌, drop, length, append-nil, Option, None, Some, Err, refl, sym, ap, subst, ◌∙◌, arith}
use Rattle.std.specs.Prelude.{◌↔◌, slice_get, cond, not, is_some, Result}
use Rattle.std.specs.Option.{option_copied}
use Rattle.std.specs.List.{flat_map}
use Rattle.std.proofs.lemmas.List.{append_assoc, length-append}
use Rattle.obj_kinds.specs.declared.name.ClassName.{ClassName}
use Rattle.obj_kinds.specs.declared.node.Node.{Node}
use Rattle.obj_kinds.specs.declared.sub.Sub.{Sub}
use Rattle.obj_kinds.specs.declared.sub.Sub.TheVariants.{Str}
use Rattle.obj_kinds.specs.declared.value.Value.{Value}
use Rattle.obj_kinds.specs.declared.cause.Cause.{Cause}
use Rattle.obj_kinds.specs.declared.cause.Cause.TheVariants.{Damaged, OtherClass}
use Rattle.obj_kinds.specs.declared.op.Op.{Op}
use Rattle.obj_kinds.specs.declared.op.Op.TheVariants.{Get, Order}
use Rattle.record_layout.specs.Rows.{data_node, below}
use Rattle.obj_kinds.specs.declared.op.Reply.{Reply}
use Rattle.obj_kinds.specs.declared.op.Reply.TheVariants.{Found, Next}
use Rattle.schema_kinds.specs.declared.class.Class.{Class}
use Rattle.schema_kinds.specs.Classes.{IsBelow}
use Rattle.schema_kinds.specs.declared.key.Key.{Key}
use Rattle.schema_kinds.specs.declared.kind.Item.{Item}
use Rattle.schema_kinds.specs.declared.record.Field.{Field}
use Rattle.schema_kinds.specs.declared.record.Record.{Record}
use Rattle.record_layout.specs.Shapes.{Form, single, row_forms}
use Rattle.record_layout.specs.Items.{row_field}
use Rattle.record_layout.specs.Layout.{Layout, layout_of}
use Rattle.record_layout.specs.Inverse.{each_read}
use Rattle.record_layout.specs.Reading.{fields_in, element_at, merged}
use Rattle.record_reading.specs.declared.steps.ListBelow.{ListBelow}
use Rattle.record_reading.specs.declared.steps.ArrayBelow.{ArrayBelow}
use Rattle.record_reading.specs.Steps.{list_seen, array_seen, layout_seen}
use Rattle.store_calls.specs.Calls.{Call, Give, Tag, Tried, Got, Lost, bind, then, then_on, each, Again, round, turns, run}
use Rattle.store_calls.specs.Walks.{Elements, child, on_key, walk_turn, walk, first_walk}
use Rattle.store_calls.specs.WalkPlan.{AtKey as walk_at_key, AtElement as walk_at_element, walk_to_come}
use Rattle.store_calls.proofs.TurnRules.{after_bind}
use Rattle.store_calls.proofs.WalkRules.{walk_after}
use Rattle.object_calls.specs.Extents.{is_at_or_below, refuses_other}
use Rattle.object_calls.specs.Reading.{is_element, element_fields, read_list, read_array, within_limits, value_found, or_damaged_at, on_row, read_as, read}
use Rattle.call_laws.proofs.BelowLaws.{below_told}
use Rattle.read_plan.specs.declared.call.ReadCall.{ReadCall}
use Rattle.read_plan.specs.declared.call.ReadStep.TheVariants as step
use Rattle.read_plan.specs.declared.phase.Begun.{Begun}
use Rattle.read_plan.specs.declared.phase.Listing.{Listing}
use Rattle.read_plan.specs.declared.phase.Walking.{Walking}
use Rattle.read_plan.specs.declared.phase.Pending.{Pending}
use Rattle.read_plan.specs.declared.phase.Phase.{Phase}
use Rattle.read_plan.specs.declared.phase.Phase.TheVariants.{AtRow, AtList, AtKey, AtElement, Full, Over, Told}
use Rattle.read_plan.specs.Reads.{Pairs, named_node, gathered, arrays_left, lists_left, list_left, array_ends, keys_left, refuses, with_list, with_pair, with_element, to_come_within, LeavesOf, IsTaken, IsNext, IsOwn, IsBehindList, EndsArray, is_asking, is_at_key, at_key, behind_key, asked_in, tried_of}
use Rattle.read_plan.proofs.CallLaws.{then_then, each_step, seen_at, seen_end}
use Rattle.read_plan.proofs.WalkLaws.{walk_shift}

-- one more
one_more : {A : Type 0} (xs : List A) (x : A) → length (xs ++ x ∷ []) ≡ suc (length xs)
one_more xs x = let l = length-append xs (x ∷ []) in omega arith

module _ (classes : List Class) (key : Key) (tag : Tag) (most : ℕ) where
  -- ---- lists

  pub list_comes : (b : Begun) (l : ListBelow) → slice_get b.steps.lists.items (length b.lists) ≡ Some l
      → list_left classes key tag most b (list_seen l) ≡ lists_left classes key tag most b b.lists
  list_comes b l e = sym (
      ap (λ ls. then (each f ls) g) (seen_at list_seen b.steps.lists.items (length b.lists) l e)
      ∙ each_step f (list_seen l) rest g
      ∙ (λ i. then (f (list_seen l)) (λ fields. same fields i)))
    where
      f : List ℕ × List Form → Call (Tried (List Field))
      f = read_list classes key tag most

      rest : List (List ℕ × List Form)
      rest = drop (suc (length b.lists)) (layout_seen b.steps).lower

      g : List (List Field) → Call (Tried (Option Record))
      g more = then (each (read_array classes key tag most) (layout_seen b.steps).arrays) (λ maps. Give (gathered classes key tag most b (b.lists ++ more) maps))

      behind : List (List Field) → List (List Field) → Call (Tried (Option Record))
      behind lists more = then (each (read_array classes key tag most) (layout_seen b.steps).arrays) (λ maps. Give (gathered classes key tag most b (lists ++ more) maps))

      same : (fields : List Field) → then (each f rest) (λ more. g (fields ∷ more)) ≡ lists_left classes key tag most b (b.lists ++ fields ∷ [])
      same fields =
          sym (λ i. then (each f rest) (λ more. then (each (read_array classes key tag most) (layout_seen b.steps).arrays) (λ maps. Give (gathered classes key tag most b (append_assoc b.lists (fields ∷ []) more i) maps))))
          ∙ ap (λ n. then (each f (drop n (layout_seen b.steps).lower)) (behind (b.lists ++ fields ∷ []))) (sym (one_more b.lists fields))

  pub lists_end : (b : Begun) → slice_get b.steps.lists.items (length b.lists) ≡ None
      → arrays_left classes key tag most b [] ≡ lists_left classes key tag most b b.lists
  lists_end b e = sym (
      ap (λ ls. then (each (read_list classes key tag most) ls) (λ more. then (each (read_array classes key tag most) (layout_seen b.steps).arrays) (λ maps. Give (gathered classes key tag most b (b.lists ++ more) maps))))
      (seen_end list_seen b.steps.lists.items (length b.lists) e)
      ∙ ap (λ lists. then (each (read_array classes key tag most) (layout_seen b.steps).arrays) (λ maps. Give (gathered classes key tag most b lists maps))) (append-nil b.lists))

  -- ---- arrays

  pub array_comes : (b : Begun) (maps : List Pairs) (a : ArrayBelow) → slice_get b.steps.arrays.items (length maps) ≡ Some a
      → keys_left classes key tag most (record { begun = b; maps = maps; array = a; pairs = [] }) None ≡ arrays_left classes key tag most b maps
  array_comes b maps a e = sym (
      ap (λ rest. then (each f rest) g) (seen_at array_seen b.steps.arrays.items (length maps) a e)
      ∙ each_step f (array_seen a) rest g
      ∙ then_then (walk (named_node key a.name.now) tag (is_element classes key tag most a.item.now) most first_walk) (λ es. Give (Got (element_fields classes key tag most a.item.now es))) (λ pairs. then (each f rest) (λ more. g (pairs ∷ more)))
      ∙ (λ i. then (walk (named_node key a.name.now) tag (is_element classes key tag most a.item.now) most first_walk) (λ es. same (element_fields classes key tag most a.item.now es) i)))
    where
      f : List ℕ × Item → Call (Tried Pairs)
      f = read_array classes key tag most

      rest : List (List ℕ × Item)
      rest = drop (suc (length maps)) (layout_seen b.steps).arrays

      g : List Pairs → Call (Tried (Option Record))
      g more = Give (gathered classes key tag most b b.lists (maps ++ more))

      same : (pairs : Pairs) → then (each f rest) (λ more. g (pairs ∷ more)) ≡ arrays_left classes key tag most b (maps ++ pairs ∷ [])
      same pairs =
          sym (λ i. then (each f rest) (λ more. Give (gathered classes key tag most b b.lists (append_assoc maps (pairs ∷ []) more i))))
          ∙ ap (λ n. then (each f (drop n (layout_seen b.steps).arrays)) (λ more. Give (gathered classes key tag most b b.lists ((maps ++ pairs ∷ []) ++ more)))) (sym (one_more maps pairs))

  pub arrays_end : (b : Begun) (maps : List Pairs) → slice_get b.steps.arrays.items (length maps) ≡ None
      → Give (gathered classes key tag most b b.lists maps) ≡ arrays_left classes key tag most b maps
  arrays_end b maps e = sym (
      ap (λ rest. then (each (read_array classes key tag most) rest) (λ more. Give (gathered classes key tag most b b.lists (maps ++ more)))) (seen_end array_seen b.steps.arrays.items (length maps) e)
      ∙ ap (λ ms. Give (gathered classes key tag most b b.lists ms)) (append-nil maps))

  pub keys_end : (w : Walking) → arrays_left classes key tag most w.begun (w.maps ++ w.pairs ∷ []) ≡ array_ends classes key tag most w []
  keys_end w = ap (λ ps. arrays_left classes key tag most w.begun (w.maps ++ ps ∷ [])) (sym (append-nil w.pairs))

  -- ---- elements

  -- an element that was found comes first of those that are left
  found_first : (w : Walking) (k : Sub) (v : Value) (f : Field) (es : Elements) → row_field classes (single w.array.item.now) v ≡ Some f
      → array_ends classes key tag most (with_pair w k f) es ≡ array_ends classes key tag most w ((k, v) ∷ es)
  found_first w k v f es e =
      ap (λ ps. arrays_left classes key tag most w.begun (w.maps ++ ps ∷ []))
      (append_assoc w.pairs ((k, f) ∷ []) (element_fields classes key tag most w.array.item.now es)
      ∙ ap (λ ps. w.pairs ++ ps) (first e))
    where
      first : row_field classes (single w.array.item.now) v ≡ Some f → (k, f) ∷ element_fields classes key tag most w.array.item.now es ≡ element_fields classes key tag most w.array.item.now ((k, v) ∷ es)
      first e = rw e refl

  pub element_behind : (w : Walking) (k : Sub) (v : Value) (f : Field) → row_field classes (single w.array.item.now) v ≡ Some f
      → keys_left classes key tag most (with_pair w k f) (Some k)
      ≡ then (walk (named_node key w.array.name.now) tag (is_element classes key tag most w.array.item.now) most (record { behind = Some k; found = (k, v) ∷ [] })) (array_ends classes key tag most w)
  element_behind w k v f e = sym (
      ap (λ c. then c (array_ends classes key tag most w)) (walk_shift node tag form ((k, v) ∷ []) [] most (Some k))
      ∙ then_then (walk node tag form most (record { behind = Some k; found = [] })) (λ es. Give (Got ((k, v) ∷ es))) (array_ends classes key tag most w)
      ∙ sym (λ i. then (walk node tag form most (record { behind = Some k; found = [] })) (λ es. found_first w k v f es e i)))
    where
      node : Node
      node = named_node key w.array.name.now

      form : Node → Value → Bool
      form = is_element classes key tag most w.array.item.now

-- ---- the class of a row

same_test : {P : Type 0} (a b : Bool) → ((a ≡ true) ↔ P) → ((b ≡ true) ↔ P) → a ≡ b
same_test true true h k = refl
same_test true false h k = sym (k.1 (h.0 refl))
same_test false true h k = h.1 (k.0 refl)
same_test false false h k = refl

-- a class is refused exactly where it isn't below the one that is asked for
pub refused : (classes : List Class) (class wanted : ClassName) (b : Bool) → ((b ≡ true) ↔ IsBelow classes class wanted)
    → refuses_other classes wanted class ≡ cond (not b) (Some (OtherClass class)) None
refused classes class wanted b h = by (is_at_or_below classes class wanted) b (same_test (is_at_or_below classes class wanted) b (below_told classes class wanted) h)
  where
    by : (a b : Bool) → a ≡ b → cond a None (Some (OtherClass class)) ≡ cond (not b) (Some (OtherClass class)) None
    by true true e = refl
    by true false e = absurd (cc e)
    by false true e = absurd (cc e)
    by false false e = refl

-- ---- the row

-- the call that is left where the row has these items behind its marker
pub begun : (classes : List Class) (key : Key) (tag : Tag) (most : ℕ) (b : Begun) (items : List Value)
    → layout_seen b.steps ≡ layout_of classes b.class.now → each_read (row_field classes) (layout_of classes b.class.now).root items ≡ Some b.first
    → lists_left classes key tag most b [] ≡ read_as classes key tag most b.class.now items
unfolding read_as
begun classes key tag most b items e was = rw was (ap with_layout e)
  where
    with_layout : Layout → Call (Tried (Option Record))
    with_layout layout =
        then (each (read_list classes key tag most) layout.lower) (λ lists.
        then (each (read_array classes key tag most) layout.arrays) (λ maps.
        Give (within_limits classes key tag most (record { class = b.class.now; fields = merged layout.forms (b.first ++ flat_map (λ fields. fields) lists) maps }))))

module _ (c : ReadCall) where
  is_own : (op asked : Op) → op ≡ asked → IsOwn c.key.now op → IsOwn c.key.now asked
  is_own op asked e = subst (λ o. IsOwn c.key.now o) e

  pub row_behind : (now : Phase) (r : Reply)
      → LeavesOf c (λ tag most. on_row c.schema.now c.key.now tag most (refuses c.schema.now (option_copied c.wanted)) (value_found r)) now → IsTaken c r AtRow now
  unfolding read to_come_within
  row_behind now r left tag most rs le = ap (λ d. run d rs) (left tag most)

  -- ---- a list

  -- what is left where these are the fields of the list
  abbrev list_behind : Listing → Tag → ℕ → Option (List Field) → Call (Tried (Option Record))
  list_behind l tag most fields =
      then (Give (or_damaged_at (named_node c.key.now l.list.name.now) fields)) (λ fields. lists_left c.schema.now c.key.now tag most l.begun (l.begun.lists ++ fields ∷ []))

  pub list_lost : (l : Listing) (r : Reply) → fields_in c.schema.now (row_forms l.list.props.now) (value_found r) ≡ None
      → IsTaken c r (AtList l) (Over (Err (Damaged (named_node c.key.now l.list.name.now))))
  unfolding to_come_within
  list_lost l r e tag most rs le = sym (ap (λ fields. run (list_behind l tag most fields) rs) e)

  pub list_found : (l : Listing) (fields : List Field) (now : Phase) (r : Reply) → fields_in c.schema.now (row_forms l.list.props.now) (value_found r) ≡ Some fields
      → IsBehindList (AtList (with_list l fields)) now → IsTaken c r (AtList l) now
  unfolding to_come_within
  list_found l fields now r e left tag most rs le =
      ap (λ d. run d rs) (left c.schema.now c.key.now (option_copied c.wanted) tag most) ∙ sym (ap (λ fields. run (list_behind l tag most fields) rs) e)

  -- ---- an array

  pub key_next : (p : Phase) (k : Sub) → is_at_key p ≡ true → IsTaken c (Next k) p (at_key p k)
  unfolding to_come_within
  key_next (AtKey w behind) k h tag =
      after_bind (Next k)
      (walk_to_come (named_node c.key.now w.array.name.now) tag (form w) (walk_at_key (record { behind = behind; found = [] })))
      (walk_to_come (named_node c.key.now w.array.name.now) tag (form w) (walk_at_element [] k))
      (λ most. then_on (array_ends c.schema.now c.key.now tag most w))
      (walk_after (named_node c.key.now w.array.name.now) tag (form w) (walk_at_key (record { behind = behind; found = [] })) (Next k) refl)
    where
      form : Walking → Node → Value → Bool
      form w = is_element c.schema.now c.key.now tag 0 w.array.item.now
  key_next p k h tag = absurd (cc h)

  pub key_last : (p now : Phase) (r : Reply) → ((k : Sub) → r ≡ Next k → ⊥) → EndsArray p now → IsTaken c r p now
  unfolding to_come_within walk
  key_last (AtKey w behind) now r last left tag zero rs le = absurd (omega arith)
  key_last (AtKey w behind) now r last left tag (suc m) rs le = ap (λ d. run d rs) (left c.schema.now c.key.now (option_copied c.wanted) tag (suc m)) ∙ by r last
    where
      ends : Tried Elements → Call (Tried (Option Record))
      ends = then_on (array_ends c.schema.now c.key.now tag (suc m) w)

      node : Node
      node = named_node c.key.now w.array.name.now

      form : Node → Value → Bool
      form = is_element c.schema.now c.key.now tag (suc m) w.array.item.now

      by : (r : Reply) → ((k : Sub) → r ≡ Next k → ⊥)
          → run (array_ends c.schema.now c.key.now tag (suc m) w []) rs ≡ run (bind (then (on_key node tag form [] r) (round (turns m (walk_turn node tag form)))) ends) rs
      by (Next k) last = absurd (last k refl)
      by r last = refl
  key_last p now r last left tag most rs le = absurd left

  -- ---- an element

  -- what is left where this is the element of a value
  abbrev element_read : Pending → Tag → ℕ → Value → Option Field → Call (Tried (Option Record))
  element_read p tag most v f =
      then (then_on (round (walk (named_node c.key.now p.walking.array.name.now) tag (is_element c.schema.now c.key.now tag most p.walking.array.item.now) most))
      (cond (is_some f) (Got (Again (record { behind = Some p.key; found = (p.key, v) ∷ [] }))) (Lost (Damaged (child (named_node c.key.now p.walking.array.name.now) p.key)))))
      (array_ends c.schema.now c.key.now tag most p.walking)

  pub element_lost : (p : Pending) (r : Reply) → element_at c.schema.now p.walking.array.item.now (value_found r) ≡ None
      → IsTaken c r (AtElement p) (Over (Err (Damaged (child (named_node c.key.now p.walking.array.name.now) p.key))))
  unfolding to_come_within
  element_lost p (Found v) e tag most rs le = sym (ap (λ f. run (element_read p tag most v f) rs) e)
  element_lost p r e tag most rs le = refl

  pub element_found : (p : Pending) (f : Field) (r : Reply) → element_at c.schema.now p.walking.array.item.now (value_found r) ≡ Some f
      → IsTaken c r (AtElement p) (behind_key (AtElement (with_element p f)))
  unfolding to_come_within
  element_found p f (Found v) e tag most rs le =
      ap (λ d. run d rs) (element_behind c.schema.now c.key.now tag most p.walking p.key v f e) ∙ sym (ap (λ f. run (element_read p tag most v f) rs) e)
  element_found p f r e tag most rs le = absurd (cc e)

  -- ---- what is asked

  pub asks : (p : Phase) (op : Op) → asked_in c.key.now p ≡ Some op → IsNext c (step.Ask op) p
  unfolding to_come_within read walk
  asks AtRow op e tag most = (tag, cc)
  asks (AtList l) op e tag most = (tag, cc)
  asks (AtKey w behind) op e tag most = (tag, cc)
  asks (AtElement p) op e tag most = (tag, cc)
  asks (Full b maps) op e tag most = absurd (cc e)
  asks (Over o) op e tag most = absurd (cc e)
  asks Told op e tag most = absurd (cc e)

  pub asking : (p : Phase) (op : Op) → asked_in c.key.now p ≡ Some op → is_asking p ≡ true
  asking (Full b maps) op e = absurd (cc e)
  asking (Over o) op e = absurd (cc e)
  asking Told op e = absurd (cc e)
  asking p op e = refl

  pub own : (p : Phase) (op : Op) → asked_in c.key.now p ≡ Some op → IsOwn c.key.now op
  unfolding child
  own AtRow op e = is_own (Get (data_node c.key.now)) op (cc e) ([], at_row)
    where
      at_row : data_node c.key.now ≡ below (data_node c.key.now) []
      at_row = ap (λ subs. record { global = (data_node c.key.now).global; subs = subs }) (sym (append-nil (data_node c.key.now).subs))
  own (AtList l) op e = is_own (Get (named_node c.key.now l.list.name.now)) op (cc e) (Str l.list.name.now ∷ [], refl)
  own (AtKey w behind) op e = is_own (Order (named_node c.key.now w.array.name.now) behind) op (cc e) (Str w.array.name.now ∷ [], refl)
  own (AtElement p) op e = is_own (Get (child (named_node c.key.now p.walking.array.name.now) p.key)) op (cc e) (Str p.walking.array.name.now ∷ p.key ∷ [], below_name)
    where
      below_name : child (named_node c.key.now p.walking.array.name.now) p.key ≡ below (data_node c.key.now) (Str p.walking.array.name.now ∷ p.key ∷ [])
      below_name = ap (λ subs. record { global = (data_node c.key.now).global; subs = subs }) (append_assoc (data_node c.key.now).subs (Str p.walking.array.name.now ∷ []) (p.key ∷ []))
  own (Full b maps) op e = absurd (cc e)
  own (Over o) op e = absurd (cc e)
  own Told op e = absurd (cc e)

  pub tells : (p : Phase) (b : Begun) (maps : List Pairs) (o : Result (Option Record) Cause) → p ≡ Full b maps
      → ((tag : Tag) (most : ℕ) → tried_of o ≡ gathered c.schema.now c.key.now tag most b b.lists maps) → IsNext c (step.Read o) p
  unfolding to_come_within
  tells p b maps o e same tag most = rw e (ap (λ x. Give x) (sym (same tag most)))
