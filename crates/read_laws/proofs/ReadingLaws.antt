-- A read by replies is the reading of nodes, step by step.
use Rattle.std.proofs.Common.{◌≡◌, ℕ, zero, suc, ◌<◌, Bool, true, false, cond, List, [], ◌∷◌, ◌++◌, length, Option, Some, None, is_some, option_map, refl, sym, ap, subst, ◌∙◌, arith, append_assoc, append-nil}
use Rattle.std.specs.List.{filter_map, flat_map, cons_option}
use Rattle.std.proofs.lemmas.List.Elements.{filter_map-append}
use Rattle.std.specs.Ordering.{is_lt}
use Rattle.std.specs.FinMap.{find, entries, get-entries}
use Rattle.std.proofs.lemmas.Cmp.{tied_itself}
use Rattle.obj_kinds.specs.declared.name.ClassName.{ClassName}
use Rattle.obj_kinds.specs.declared.node.Node.{Node}
use Rattle.obj_kinds.specs.declared.sub.Sub.{Sub}
use Rattle.obj_kinds.specs.declared.sub.Sub.TheVariants.{Str}
use Rattle.obj_kinds.specs.declared.value.Value.{Value}
use Rattle.obj_kinds.specs.declared.op.Op.{Op}
use Rattle.obj_kinds.specs.declared.op.Op.TheVariants.{Get, Order}
use Rattle.obj_kinds.specs.declared.op.Pid.{Pid}
use Rattle.obj_kinds.specs.declared.op.Reply.{Reply}
use Rattle.obj_kinds.specs.declared.cause.Cause.TheVariants as cause
use Rattle.obj_kinds.specs.Order.{sub_cmp, node_cmp}
use Rattle.obj_kinds.proofs.OrderLemmas.{sub_total}
use Rattle.schema_kinds.specs.declared.class.Class.{Class}
use Rattle.schema_kinds.specs.declared.key.Key.{Key}
use Rattle.schema_kinds.specs.declared.kind.Item.{Item}
use Rattle.schema_kinds.specs.declared.record.Field.{Field}
use Rattle.schema_kinds.specs.declared.record.Record.{Record}
use Rattle.global_tree.specs.Below.{step_below, is_after, if_after, or_else, next_in, next_below}
use Rattle.global_tree.proofs.StepLaws.{lesser}
use Rattle.record_layout.specs.Inverse.{each_read}
use Rattle.record_layout.specs.Shapes.{Form, single}
use Rattle.record_layout.specs.Items.{row_field}
use Rattle.record_layout.specs.Layout.{Layout, layout_of}
use Rattle.record_layout.specs.Rows.{data_node, below}
use Rattle.record_layout.specs.Reading.{Reading, Read, Damaged, Source, then_read, or_damaged, fields_in, merged, read_lower, element_at, read_elements, read_arrays}
use Rattle.storage_map.specs.Markers.{row_class}
use Rattle.storage_map.specs.Entries.{has_legal_entries}
use Rattle.record_reading.specs.Keys.{key_then, keys_after, keys_below}
use Rattle.record_reading.specs.Rows.{source_in, items_behind, read_as as read_as_class, read_by_row, read_record}
use Rattle.record_reading.specs.Damage.{missing_row, past_limit, over, over_read, damage}
use Rattle.store_core.specs.Machine.{State, found_or, next_or, answer, reply}
use Rattle.store_calls.specs.Calls.{Call, Give, Ask, Tell, Cut, Tag, Tried, Got, Lost, bind, then, then_on, each, Again, round, turns}
use Rattle.store_calls.specs.Walks.{child, Elements, first_walk, on_element, on_key, walk_turn, walk}
use Rattle.object_calls.specs.Extents.{refuses_none}
use Rattle.object_calls.specs.Reading as calls
use Rattle.object_calls.specs.Reading.{value_found, or_damaged_at, read}
use Rattle.read_laws.specs.Undisturbed.{undisturbed, limited, told_reading, told_by_row, record_told, HasFewElements, ReadsTellNodes, ReadsAnswerRecords}

-- ---- calls

pub undisturbed_bind : {A B : Type 0} → (r : Op → Reply) (c : Call A) (f : A → Call B) (a : A) → undisturbed r c ≡ Some a → undisturbed r (bind c f) ≡ undisturbed r (f a)
undisturbed_bind r (Give b) f a h = let same : b ≡ a = cc in ap (λ x. undisturbed r (f x)) same
undisturbed_bind r (Ask op tag k) f a h = undisturbed_bind r (k (r op)) f a h
undisturbed_bind r (Tell x c) f a h = undisturbed_bind r c f a h
undisturbed_bind r Cut f a h = cc

-- ---- readings as answers

-- what was read, or the damaged node below the row
abbrev tried : {A : Type 0} → Node → Reading A → Tried A
tried row (Read a) = Got a
tried row (Damaged way) = Lost (cause.Damaged (below row way))

abbrev read_each : {X Y : Type 0} → (X → Reading Y) → List X → Reading (List Y)
read_each f [] = Read []
read_each f (x ∷ xs) = then_read (f x) (λ y. then_read (read_each f xs) (λ ys. Read (y ∷ ys)))

-- one after the other
each_reads : {X Y : Type 0} → (r : Op → Reply) (row : Node) (f : X → Call (Tried Y)) (g : X → Reading Y) (xs : List X) → ((x : X) → undisturbed r (f x) ≡ Some (tried row (g x)))
    → undisturbed r (each f xs) ≡ Some (tried row (read_each g xs))
each_reads r row f g [] h = refl
each_reads {X} {Y} r row f g (x ∷ xs) h = undisturbed_bind r (f x) (then_on (λ y. then (each f xs) (λ ys. Give (Got (y ∷ ys))))) (tried row (g x)) (h x) ∙ by (each_reads r row f g xs h) (g x)
  where
    more : (y : Y) (rest : Reading (List Y)) → undisturbed r (then_on (λ ys. Give (Got (y ∷ ys))) (tried row rest)) ≡ Some (tried row (then_read rest (λ ys. Read (y ∷ ys))))
    more y (Read ys) = refl
    more y (Damaged way) = refl

    by : undisturbed r (each f xs) ≡ Some (tried row (read_each g xs)) → (first : Reading Y) → undisturbed r (then_on (λ y. then (each f xs) (λ ys. Give (Got (y ∷ ys)))) (tried row first)) ≡ Some (tried row (then_read first (λ y. then_read (read_each g xs) (λ ys. Read (y ∷ ys)))))
    by others (Read y) = undisturbed_bind r (each f xs) (then_on (λ ys. Give (Got (y ∷ ys)))) (tried row (read_each g xs)) others ∙ more y (read_each g xs)
    by others (Damaged way) = refl

-- ---- keys: the search for the next one and the list of all

late_only : (last p : Option Sub) (k : Sub) → if_after last p ≡ Some k → (p ≡ Some k) × (is_after last k ≡ true)
late_only last None k h = cc
late_only last (Some u) k h = at (is_after last u) refl h
  where
    at : (b : Bool) → is_after last u ≡ b → cond b (Some u) None ≡ Some k → (Some u ≡ Some k) × (is_after last k ≡ true)
    at true g j = let same : u ≡ k = cc in (j, ap (is_after last) (sym same) ∙ g)
    at false g j = cc

-- what isn't behind an earlier key isn't behind a later one
not_late : (last p : Option Sub) (k : Sub) → if_after last p ≡ None → is_after last k ≡ true → if_after (Some k) p ≡ None
not_late last None k none late = refl
not_late last (Some u) k none late = by (is_lt (sub_cmp k u)) refl
  where
    behind : (l : Option Sub) → if_after l (Some u) ≡ None → is_after l k ≡ true → is_lt (sub_cmp k u) ≡ true → if_after l (Some u) ≡ Some u
    behind None n l e = refl
    behind (Some a) n l e = ap (λ b. cond b (Some u) None) (ap is_lt (sub_total.trans a k u (lesser _ l) (lesser _ e)))

    by : (b : Bool) → is_lt (sub_cmp k u) ≡ b → cond b (Some u) None ≡ None
    by true e = let found = behind last none late e in cc
    by false e = refl

-- a key isn't behind itself
not_itself : (k : Sub) → if_after (Some k) (Some k) ≡ None
not_itself k = ap (λ r. cond (is_lt r) (Some k) None) (tied_itself sub_total k)

next_late : {X : Type 0} → (n : Node) (last : Option Sub) (es : List (Node × X)) (k : Sub) → next_in n last es ≡ Some k → is_after last k ≡ true
next_late n last [] k h = cc
next_late {X} n last (e ∷ es) k h = by (next_late n last es k) (if_after last (step_below n e.0)) refl h
  where
    by : (next_in n last es ≡ Some k → is_after last k ≡ true) → (o : Option Sub) → if_after last (step_below n e.0) ≡ o → or_else o (next_in n last es) ≡ Some k → is_after last k ≡ true
    by later None g j = later j
    by later (Some u) g j = let p = late_only last (step_below n e.0) u g in let same : u ≡ k = cc in subst (λ x. is_after last x ≡ true) same p.1

-- the keys behind one are the next of them, and the keys behind that
pub keys_by_next : (n : Node) (last : Option Sub) (es : List (Node × Value)) → keys_after n last es ≡ key_then (next_in n last es) [] (λ k. keys_after n (Some k) es)
keys_by_next n last [] = refl
keys_by_next n last (e ∷ es) = by (keys_by_next n last es) (if_after last (step_below n e.0)) refl
  where
    rest : (k : Sub) → if_after (Some k) (step_below n e.0) ≡ None → keys_after n (Some k) es ≡ keys_after n (Some k) (e ∷ es)
    rest k none = sym (ap (λ o. key_then o (keys_after n (Some k) es) (λ j. keys_after n (Some j) es)) none)

    others : if_after last (step_below n e.0) ≡ None → (o : Option Sub) → next_in n last es ≡ o → key_then o [] (λ k. keys_after n (Some k) es) ≡ key_then o [] (λ k. keys_after n (Some k) (e ∷ es))
    others none None g = refl
    others none (Some k) g = ap (λ ks. k ∷ ks) (rest k (not_late last (step_below n e.0) k none (next_late n last es k g)))

    by : keys_after n last es ≡ key_then (next_in n last es) [] (λ k. keys_after n (Some k) es) → (o : Option Sub) → if_after last (step_below n e.0) ≡ o
        → key_then o (keys_after n last es) (λ k. keys_after n (Some k) es) ≡ key_then (or_else o (next_in n last es)) [] (λ k. keys_after n (Some k) (e ∷ es))
    by later None g = later ∙ others g (next_in n last es) refl
    by later (Some k) g = ap (λ ks. k ∷ ks) (rest k (ap (if_after (Some k)) (late_only last (step_below n e.0) k g).0 ∙ not_itself k))

-- ---- a store that replies by these nodes

pub record RepliesBy (r : Op → Reply) (nodes : List (Node × Value)) : Type 0 where
  pub gets : (n : Node) → r (Get n) ≡ found_or (find node_cmp n nodes)
  pub orders : (n : Node) (after : Option Sub) → r (Order n after) ≡ next_or (next_in n after nodes)

found_value : (o : Option Value) → value_found (found_or o) ≡ o
found_value None = refl
found_value (Some v) = refl

abbrev mapped : {A B : Type 0} → (A → B) → Tried A → Tried B
mapped f (Got a) = Got (f a)
mapped f (Lost x) = Lost x

abbrev read_map : {A B : Type 0} → (A → B) → Reading A → Reading B
read_map f (Read a) = Read (f a)
read_map f (Damaged way) = Damaged way

-- the last part of a call makes something of what was got
got_map : {A B : Type 0} → (r : Op → Reply) (f : A → B) (t : Tried A) → undisturbed r (then_on (λ a. Give (Got (f a))) t) ≡ Some (mapped f t)
got_map r f (Got a) = refl
got_map r f (Lost x) = refl

-- ---- walks

module _ (nodes : List (Node × Value)) (is_form : Node → Value → Bool) (n : Node) where
  -- the elements at these keys, up to the first that is missing or has the wrong form
  abbrev walked_on : Sub → (Elements → Tried Elements) → Elements → Option Value → Tried Elements
  walked_on k more found None = Lost (cause.Damaged (child n k))
  walked_on k more found (Some v) = cond (is_form (child n k) v) (more (found ++ (k, v) ∷ [])) (Lost (cause.Damaged (child n k)))

  abbrev walked : List Sub → Elements → Tried Elements
  walked [] found = Got found
  walked (k ∷ ks) found = walked_on k (walked ks) found (find node_cmp (child n k) nodes)

module _ (r : Op → Reply) (nodes : List (Node × Value)) (by_nodes : RepliesBy r nodes) (is_form : Node → Value → Bool) (n : Node) (tag : Tag) where
  -- a walk of so many turns at most, from behind a key, with what was found so far
  abbrev walks : ℕ → Option Sub → Elements → Option (Tried Elements)
  walks most behind found = undisturbed r (turns most (walk_turn n tag is_form) (record { behind = behind; found = found }))

  tested : (most : ℕ) (k : Sub) (js : List Sub) (v : Value) (found : Elements) → walks most (Some k) (found ++ (k, v) ∷ []) ≡ Some (walked nodes is_form n js (found ++ (k, v) ∷ [])) → (b : Bool)
      → undisturbed r (then_on (round (turns most (walk_turn n tag is_form))) (cond b (Got (Again (record { behind = Some k; found = found ++ (k, v) ∷ [] }))) (Lost (cause.Damaged (child n k)))))
      ≡ Some (cond b (walked nodes is_form n js (found ++ (k, v) ∷ [])) (Lost (cause.Damaged (child n k))))
  tested most k js v found more true = more
  tested most k js v found more false = refl

  found_on : (most : ℕ) (k : Sub) (js : List Sub) (found : Elements) → ((f : Elements) → walks most (Some k) f ≡ Some (walked nodes is_form n js f)) → (v : Option Value)
      → undisturbed r (then_on (round (turns most (walk_turn n tag is_form))) (on_element n tag is_form found k (found_or v))) ≡ Some (walked_on nodes is_form n k (walked nodes is_form n js) found v)
  found_on most k js found more None = refl
  found_on most k js found more (Some v) = tested most k js v found (more (found ++ (k, v) ∷ [])) (is_form (child n k) v)

  walks_by : (most : ℕ) (found : Elements) (ks : List Sub) → length ks < suc most → ((k : Sub) (js : List Sub) (f : Elements) → js ≡ keys_after n (Some k) nodes → length js < most → walks most (Some k) f ≡ Some (walked nodes is_form n js f))
      → (o : Option Sub) → ks ≡ key_then o [] (λ k. keys_after n (Some k) nodes)
      → undisturbed r (bind (on_key n tag is_form found (next_or o)) (then_on (round (turns most (walk_turn n tag is_form))))) ≡ Some (walked nodes is_form n ks found)
  walks_by most found ks few again None first = ap (λ js. Some (walked nodes is_form n js found)) (sym first)
  walks_by most found ks few again (Some k) first =
      let shorter : length (keys_after n (Some k) nodes) < most = (let long = ap length first in omega (arith, long, few)) in
      ap (λ x. undisturbed r (then_on (round (turns most (walk_turn n tag is_form))) (on_element n tag is_form found k x))) (by_nodes.gets (child n k))
      ∙ found_on most k (keys_after n (Some k) nodes) found (λ f. again k (keys_after n (Some k) nodes) f refl shorter) (find node_cmp (child n k) nodes)
      ∙ ap (λ l. Some (walked nodes is_form n l found)) (sym first)

  walks_on : (most : ℕ) (behind : Option Sub) (found : Elements) (ks : List Sub) → ks ≡ keys_after n behind nodes → length ks < most → walks most behind found ≡ Some (walked nodes is_form n ks found)
  walks_on zero behind found ks keys few = absurd (omega arith)
  walks_on (suc most) behind found ks keys few =
      ap (λ x. undisturbed r (bind (on_key n tag is_form found x) (then_on (round (turns most (walk_turn n tag is_form)))))) (by_nodes.orders n behind)
      ∙ walks_by most found ks few (λ k js f h l. walks_on most (Some k) f js h l) (next_in n behind nodes) (keys ∙ keys_by_next n behind nodes)

-- ---- a key

module _ (classes : List Class) (key : Key) (nodes : List (Node × Value)) where
  abbrev source : Source
  source = source_in nodes (data_node key)

  child_is : (name : List ℕ) (k : Sub) → child (below (data_node key) (Str name ∷ [])) k ≡ below (data_node key) (Str name ∷ k ∷ [])
  unfolding child
  child_is name k = λ i. record { global = (data_node key).global; subs = append_assoc (data_node key).subs (Str name ∷ []) (k ∷ []) i }

  abbrev fields : Item → Elements → List (Sub × Field)
  fields i es = filter_map (λ e. option_map (λ f. (e.0, f)) (row_field classes (single i) e.1)) es

  abbrev tells : Item → Node → Value → Bool
  tells i n v = is_some (row_field classes (single i) v)

  one_more : (i : Item) (es : Elements) (k : Sub) (v : Value) (f : Field) → row_field classes (single i) v ≡ Some f → fields i (es ++ (k, v) ∷ []) ≡ fields i es ++ (k, f) ∷ []
  one_more i es k v f e = filter_map-append (λ x. option_map (λ g. (x.0, g)) (row_field classes (single i) x.1)) es ((k, v) ∷ []) ∙ ap (λ o. fields i es ++ cons_option (option_map (λ g. (k, g)) o) []) e

  abbrev with_found : Item → Elements → Reading (List (Sub × Field)) → Tried (List (Sub × Field))
  with_found i found rest = tried (data_node key) (read_map (λ more. fields i found ++ more) rest)

  moved : (i : Item) (found : Elements) (k : Sub) (v : Value) (f : Field) → row_field classes (single i) v ≡ Some f → (rest : Reading (List (Sub × Field)))
      → with_found i (found ++ (k, v) ∷ []) rest ≡ with_found i found (then_read rest (λ more. Read ((k, f) ∷ more)))
  moved i found k v f e (Read more) = ap Got (ap (λ l. l ++ more) (one_more i found k v f e) ∙ append_assoc (fields i found) ((k, f) ∷ []) more)
  moved i found k v f e (Damaged way) = refl

  element_by : (name : List ℕ) (i : Item) (k : Sub) (ks : List Sub) (found : Elements) (v : Value)
      → ((f : Elements) → mapped (fields i) (walked nodes (tells i) (below (data_node key) (Str name ∷ [])) ks f) ≡ with_found i f (read_elements classes source name i ks))
      → (o : Option Field) → row_field classes (single i) v ≡ o
      → mapped (fields i) (cond (is_some o) (walked nodes (tells i) (below (data_node key) (Str name ∷ [])) ks (found ++ (k, v) ∷ [])) (Lost (cause.Damaged (child (below (data_node key) (Str name ∷ [])) k))))
      ≡ with_found i found (then_read (or_damaged (Str name ∷ k ∷ []) o) (λ f. then_read (read_elements classes source name i ks) (λ more. Read ((k, f) ∷ more))))
  element_by name i k ks found v more None e = ap (λ m. Lost (cause.Damaged m)) (child_is name k)
  element_by name i k ks found v more (Some f) e = more (found ++ (k, v) ∷ []) ∙ moved i found k v f e (read_elements classes source name i ks)

  element_on : (name : List ℕ) (i : Item) (k : Sub) (ks : List Sub) (found : Elements)
      → ((f : Elements) → mapped (fields i) (walked nodes (tells i) (below (data_node key) (Str name ∷ [])) ks f) ≡ with_found i f (read_elements classes source name i ks))
      → (x : Option Value)
      → mapped (fields i) (walked_on nodes (tells i) (below (data_node key) (Str name ∷ [])) k (walked nodes (tells i) (below (data_node key) (Str name ∷ [])) ks) found x)
      ≡ with_found i found (then_read (or_damaged (Str name ∷ k ∷ []) (element_at classes i x)) (λ f. then_read (read_elements classes source name i ks) (λ more. Read ((k, f) ∷ more))))
  element_on name i k ks found more None = ap (λ m. Lost (cause.Damaged m)) (child_is name k)
  element_on name i k ks found more (Some v) = element_by name i k ks found v more (row_field classes (single i) v) refl

  elements : (name : List ℕ) (i : Item) (ks : List Sub) (found : Elements)
      → mapped (fields i) (walked nodes (tells i) (below (data_node key) (Str name ∷ [])) ks found) ≡ with_found i found (read_elements classes source name i ks)
  elements name i [] found = ap Got (sym (append-nil (fields i found)))
  elements name i (k ∷ ks) found =
      element_on name i k ks found (elements name i ks) (find node_cmp (child (below (data_node key) (Str name ∷ [])) k) nodes)
      ∙ ap (λ m. with_found i found (then_read (or_damaged (Str name ∷ k ∷ []) (element_at classes i (find node_cmp m nodes))) (λ f. then_read (read_elements classes source name i ks) (λ more. Read ((k, f) ∷ more))))) (child_is name k)

  nothing_found : (i : Item) (rest : Reading (List (Sub × Field))) → with_found i [] rest ≡ tried (data_node key) rest
  nothing_found i (Read more) = refl
  nothing_found i (Damaged way) = refl

  -- ---- lists and arrays, one after the other

  abbrev list_reading : List ℕ × List Form → Reading (List Field)
  list_reading l = or_damaged (Str l.0 ∷ []) (fields_in classes l.1 (source.value (Str l.0 ∷ [])))

  abbrev array_reading : List ℕ × Item → Reading (List (Sub × Field))
  array_reading a = read_elements classes source a.0 a.1 (source.keys a.0)

  damaged_by : {A : Type 0} → (way : List Sub) (o : Option A) → or_damaged_at (below (data_node key) way) o ≡ tried (data_node key) (or_damaged way o)
  damaged_by way None = refl
  damaged_by way (Some a) = refl

  lists_flat : (ls : List (List ℕ × List Form)) → read_lower classes source ls ≡ read_map (λ lists. flat_map (λ fields. fields) lists) (read_each list_reading ls)
  lists_flat [] = refl
  lists_flat (l ∷ ls) = ap (λ rest. then_read (list_reading l) (λ fields. then_read rest (λ more. Read (fields ++ more)))) (lists_flat ls) ∙ by (list_reading l) (read_each list_reading ls)
    where
      rest_by : (fields : List Field) (q : Reading (List (List Field))) → then_read (read_map (λ lists. flat_map (λ fields. fields) lists) q) (λ more. Read (fields ++ more)) ≡ read_map (λ lists. flat_map (λ fields. fields) lists) (then_read q (λ ys. Read (fields ∷ ys)))
      rest_by fields (Read lists) = refl
      rest_by fields (Damaged way) = refl

      by : (p : Reading (List Field)) (q : Reading (List (List Field)))
          → then_read p (λ fields. then_read (read_map (λ lists. flat_map (λ fields. fields) lists) q) (λ more. Read (fields ++ more))) ≡ read_map (λ lists. flat_map (λ fields. fields) lists) (then_read p (λ y. then_read q (λ ys. Read (y ∷ ys))))
      by (Read fields) q = rest_by fields q
      by (Damaged way) q = refl

  arrays_each : (arrays : List (List ℕ × Item)) → read_arrays classes source arrays ≡ read_each array_reading arrays
  arrays_each [] = refl
  arrays_each (a ∷ arrays) = ap (λ rest. then_read (array_reading a) (λ pairs. then_read rest (λ more. Read (pairs ∷ more)))) (arrays_each arrays)

module _ (r : Op → Reply) (classes : List Class) (key : Key) (tag : Tag) (most : ℕ) (nodes : List (Node × Value)) (by_nodes : RepliesBy r nodes) (few : HasFewElements key nodes most) where
  reads_list : (l : List ℕ × List Form) → undisturbed r (calls.read_list classes key tag most l) ≡ Some (tried (data_node key) (list_reading classes key nodes l))
  reads_list l =
      ap (λ x. Some (or_damaged_at (below (data_node key) (Str l.0 ∷ [])) (fields_in classes l.1 (value_found x)))) (by_nodes.gets (below (data_node key) (Str l.0 ∷ [])))
      ∙ ap (λ x. Some (or_damaged_at (below (data_node key) (Str l.0 ∷ [])) (fields_in classes l.1 x))) (found_value (find node_cmp (below (data_node key) (Str l.0 ∷ [])) nodes))
      ∙ ap Some (damaged_by classes key nodes (Str l.0 ∷ []) (fields_in classes l.1 (find node_cmp (below (data_node key) (Str l.0 ∷ [])) nodes)))

  reads_array : (a : List ℕ × Item) → undisturbed r (calls.read_array classes key tag most a) ≡ Some (tried (data_node key) (array_reading classes key nodes a))
  unfolding walk keys_below
  reads_array a =
      undisturbed_bind r (walk (below (data_node key) (Str a.0 ∷ [])) tag (tells classes key nodes a.1) most first_walk) (then_on (λ es. Give (Got (fields classes key nodes a.1 es))))
      (walked nodes (tells classes key nodes a.1) (below (data_node key) (Str a.0 ∷ [])) (keys_after (below (data_node key) (Str a.0 ∷ [])) None nodes) [])
      (walks_on r nodes by_nodes (tells classes key nodes a.1) (below (data_node key) (Str a.0 ∷ [])) tag most None [] (keys_after (below (data_node key) (Str a.0 ∷ [])) None nodes) refl (few a.0))
      ∙ got_map r (fields classes key nodes a.1) (walked nodes (tells classes key nodes a.1) (below (data_node key) (Str a.0 ∷ [])) (keys_after (below (data_node key) (Str a.0 ∷ [])) None nodes) [])
      ∙ ap Some (elements classes key nodes a.0 a.1 (keys_after (below (data_node key) (Str a.0 ∷ [])) None nodes) [] ∙ nothing_found classes key nodes a.1 (array_reading classes key nodes a))

  -- ---- the record

  abbrev record_of : ClassName → Layout → List Field → List (List Field) → List (List (Sub × Field)) → Record
  record_of class layout first lists maps = record { class = class; fields = merged layout.forms (first ++ flat_map (λ fields. fields) lists) maps }

  -- a record that was read so far, in three parts
  abbrev limited_reading : Reading Record → Tried (Option Record)
  limited_reading (Read q) = limited classes key q
  limited_reading (Damaged way) = Lost (cause.Damaged (below (data_node key) way))

  by_maps : (class : ClassName) (layout : Layout) (first : List Field) (lists : List (List Field)) (maps : Reading (List (List (Sub × Field))))
      → undisturbed r (then_on (λ ms. Give (limited classes key (record_of class layout first lists ms))) (tried (data_node key) maps))
      ≡ Some (limited_reading (then_read maps (λ ms. Read (record_of class layout first lists ms))))
  by_maps class layout first lists (Read ms) = refl
  by_maps class layout first lists (Damaged way) = refl

  by_lists : (class : ClassName) (layout : Layout) (first : List Field) (lists : Reading (List (List Field)))
      → undisturbed r (then_on (λ ls. then (each (calls.read_array classes key tag most) layout.arrays) (λ ms. Give (limited classes key (record_of class layout first ls ms)))) (tried (data_node key) lists))
      ≡ Some (limited_reading (then_read lists (λ ls. then_read (read_each (array_reading classes key nodes) layout.arrays) (λ ms. Read (record_of class layout first ls ms)))))
  by_lists class layout first (Read ls) =
      undisturbed_bind r (each (calls.read_array classes key tag most) layout.arrays) (then_on (λ ms. Give (limited classes key (record_of class layout first ls ms))))
      (tried (data_node key) (read_each (array_reading classes key nodes) layout.arrays))
      (each_reads r (data_node key) (calls.read_array classes key tag most) (array_reading classes key nodes) layout.arrays reads_array)
      ∙ by_maps class layout first ls (read_each (array_reading classes key nodes) layout.arrays)
  by_lists class layout first (Damaged way) = refl

  -- the same, as the reading has it
  same_parts : (class : ClassName) (layout : Layout) (first : List Field) (lists : Reading (List (List Field)))
      → then_read lists (λ ls. then_read (read_each (array_reading classes key nodes) layout.arrays) (λ ms. Read (record_of class layout first ls ms)))
      ≡ then_read (then_read (read_map (λ ls. flat_map (λ fields. fields) ls) lists) (λ more. then_read (read_each (array_reading classes key nodes) layout.arrays) (λ maps. Read (merged layout.forms (first ++ more) maps)))) (λ fields. Read (record { class = class; fields = fields }))
  same_parts class layout first (Damaged way) = refl
  same_parts class layout first (Read ls) = by (read_each (array_reading classes key nodes) layout.arrays)
    where
      by : (maps : Reading (List (List (Sub × Field)))) → then_read maps (λ ms. Read (record_of class layout first ls ms)) ≡ then_read (then_read maps (λ ms. Read (merged layout.forms (first ++ flat_map (λ fields. fields) ls) ms))) (λ fields. Read (record { class = class; fields = fields }))
      by (Read ms) = refl
      by (Damaged way) = refl

  reads_below : (class : ClassName) (layout : Layout) (first : List Field)
      → undisturbed r (calls.read_below classes key tag most class layout first)
      ≡ Some (limited_reading (then_read (then_read (read_lower classes (source classes key nodes) layout.lower) (λ more. then_read (read_arrays classes (source classes key nodes) layout.arrays) (λ maps. Read (merged layout.forms (first ++ more) maps)))) (λ fields. Read (record { class = class; fields = fields }))))
  reads_below class layout first =
      undisturbed_bind r (each (calls.read_list classes key tag most) layout.lower)
      (then_on (λ ls. then (each (calls.read_array classes key tag most) layout.arrays) (λ ms. Give (limited classes key (record_of class layout first ls ms)))))
      (tried (data_node key) (read_each (list_reading classes key nodes) layout.lower))
      (each_reads r (data_node key) (calls.read_list classes key tag most) (list_reading classes key nodes) layout.lower reads_list)
      ∙ by_lists class layout first (read_each (list_reading classes key nodes) layout.lower)
      ∙ ap (λ x. Some (limited_reading x)) (same_parts class layout first (read_each (list_reading classes key nodes) layout.lower))
      ∙ ap (λ x. Some (limited_reading (then_read (then_read x (λ more. then_read (read_each (array_reading classes key nodes) layout.arrays) (λ maps. Read (merged layout.forms (first ++ more) maps)))) (λ fields. Read (record { class = class; fields = fields }))))) (sym (lists_flat classes key nodes layout.lower))
      ∙ ap (λ x. Some (limited_reading (then_read (then_read (read_lower classes (source classes key nodes) layout.lower) (λ more. then_read x (λ maps. Read (merged layout.forms (first ++ more) maps)))) (λ fields. Read (record { class = class; fields = fields }))))) (sym (arrays_each classes key nodes layout.arrays))

  below_nothing : below (data_node key) [] ≡ data_node key
  below_nothing = λ i. record { global = (data_node key).global; subs = append-nil (data_node key).subs i }

  by_first : (class : ClassName) (layout : Layout) (o : Option (List Field))
      → undisturbed r (then (Give (or_damaged_at (data_node key) o)) (calls.read_below classes key tag most class layout))
      ≡ Some (limited_reading (then_read (then_read (or_damaged [] o) (λ first. then_read (read_lower classes (source classes key nodes) layout.lower) (λ more. then_read (read_arrays classes (source classes key nodes) layout.arrays) (λ maps. Read (merged layout.forms (first ++ more) maps))))) (λ fields. Read (record { class = class; fields = fields }))))
  by_first class layout None = ap (λ m. Some (Lost (cause.Damaged m))) (sym below_nothing)
  by_first class layout (Some first) = reads_below class layout first

  reads_as : (class : ClassName) (items : List Value) → undisturbed r (calls.read_as classes key tag most class items) ≡ Some (limited_reading (read_as_class classes (source classes key nodes) class items))
  unfolding calls.read_as
  reads_as class items = by_first class (layout_of classes class) (each_read (row_field classes) (layout_of classes class).root items)

  by_class : (items : List Value) (o : Option ClassName) → undisturbed r (calls.on_marker classes key tag most refuses_none items o)
      ≡ Some (limited_reading (then_read (or_damaged [] o) (λ class. read_as_class classes (source classes key nodes) class items)))
  by_class items None = ap (λ m. Some (Lost (cause.Damaged m))) (sym below_nothing)
  by_class items (Some class) = reads_as class items

  same_limit : (x : Reading Record) → limited_reading x ≡ told_reading classes key x
  same_limit (Read q) = refl
  same_limit (Damaged way) = refl

  by_row : (o : Option Value) → find node_cmp (data_node key) nodes ≡ o → undisturbed r (calls.on_row classes key tag most refuses_none o) ≡ Some (told_by_row classes key nodes o)
  unfolding read_record
  by_row None e = refl
  by_row (Some row) e =
      by_class (items_behind row) (row_class classes key.extent row)
      ∙ ap (λ x. Some (limited_reading x)) (sym (ap (λ o. then_read (or_damaged [] o) (λ v. read_by_row classes key.extent (source classes key nodes) v)) e))
      ∙ ap Some (same_limit (read_record classes key nodes))

  reads_key : undisturbed r (read classes key tag most refuses_none) ≡ Some (record_told classes key nodes)
  unfolding read record_told
  reads_key =
      ap (λ x. undisturbed r (calls.on_row classes key tag most refuses_none (value_found x))) (by_nodes.gets (data_node key))
      ∙ ap (λ x. undisturbed r (calls.on_row classes key tag most refuses_none x)) (found_value (find node_cmp (data_node key) nodes))
      ∙ by_row (find node_cmp (data_node key) nodes) refl

-- ---- the store

store_replies : (s : State) (p : Pid) → RepliesBy (reply s p) (entries s.globals)
unfolding reply answer next_below
store_replies s p = record { gets = λ n. ap found_or (get-entries s.globals n); orders = λ n after. refl }

pub reads_tell_nodes : ReadsTellNodes
reads_tell_nodes classes key tag most s p few = reads_key (reply s p) classes key tag most (entries s.globals) (store_replies s p) few

-- the node of a refusal, in parts
first_none : {A : Type 0} → (p q : Option A) → or_else p q ≡ None → p ≡ None
first_none None q h = refl
first_none (Some a) q h = cc

second_none : {A : Type 0} → (p q : Option A) → or_else p q ≡ None → q ≡ None
second_none None q h = h
second_none (Some a) q h = cc

within_limits : (classes : List Class) (key : Key) (r : Record) (b : Bool) → cond b None (Some (data_node key)) ≡ None → cond b (Got (Some r)) (Lost (cause.Damaged (data_node key))) ≡ Got (Some r)
within_limits classes key r true h = refl
within_limits classes key r false h = cc

told_whole : (classes : List Class) (key : Key) (nodes : List (Node × Value)) (r : Record) (o : Option Value) → find node_cmp (data_node key) nodes ≡ o → damage classes key nodes ≡ None
    → read_record classes key nodes ≡ Read r → told_by_row classes key nodes o ≡ Got (Some r)
unfolding damage
told_whole classes key nodes r None e none is_read =
    let missing : missing_row key nodes ≡ Some (data_node key) = ap (λ o. cond (is_some o) None (Some (data_node key))) e in
    let not_missing : missing_row key nodes ≡ None = first_none (missing_row key nodes) _ none in
    cc
told_whole classes key nodes r (Some row) e none is_read =
    let over_none : over_read classes key nodes (read_record classes key nodes) ≡ None = second_none _ _ (second_none _ _ none) in
    let limit_none : over classes key nodes r ≡ None = sym (ap (over_read classes key nodes) is_read) ∙ over_none in
    ap (told_reading classes key) is_read ∙ within_limits classes key r (has_legal_entries classes key r) (first_none (past_limit classes key r) _ limit_none)

pub reads_answer_records : ReadsAnswerRecords
unfolding record_told
reads_answer_records classes key tag most s p r few none read' = reads_tell_nodes classes key tag most s p few ∙ ap Some (told_whole classes key (entries s.globals) r (find node_cmp (data_node key) (entries s.globals)) refl none read')
