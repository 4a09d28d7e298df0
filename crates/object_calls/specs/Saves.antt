-- Saves: the objects that a root reaches are stored in one transaction, with their keys and targets locked and tested.
use Rattle.std.specs.Prelude.{ℕ, suc, pos, Bool, true, false, cond, ◌||◌, ◌==◌, nat_lt, List, [], ◌∷◌, map, Option, None, Some}
use Rattle.std.specs.Ordering.{eq_by_cmp}
use Rattle.std.specs.List.{list_any}
use Rattle.obj_kinds.specs.declared.name.ClassName.{ClassName}
use Rattle.obj_kinds.specs.declared.node.Node.{Node}
use Rattle.obj_kinds.specs.declared.value.Value.{Value}
use Rattle.obj_kinds.specs.declared.op.Op.TheVariants.{Get, Defined, Order, Set, Incr, Begin, Commit, RollbackOne}
use Rattle.obj_kinds.specs.declared.op.Mode.TheVariants.{Shared, Exclusive}
use Rattle.obj_kinds.specs.declared.op.Reply.{Reply}
use Rattle.obj_kinds.specs.declared.op.Reply.TheVariants.{Found, Next, State, Number, NumberLimit, TooDeep as NoLevel}
use Rattle.obj_kinds.specs.declared.cause.Cause.TheVariants.{Gone, NotUnique, NoTarget, IdLimit, IdTaken, Damaged, TooDeep}
use Rattle.obj_kinds.specs.Texts.{same_text}
use Rattle.schema_kinds.specs.declared.class.Class.{Class}
use Rattle.schema_kinds.specs.declared.key.Key.{Key}
use Rattle.schema_kinds.specs.declared.record.Record.{Record}
use Rattle.schema_kinds.specs.declared.record.Part.TheVariants.{Put}
use Rattle.schema_kinds.specs.Worlds.{Change, key_cmp}
use Rattle.record_layout.specs.Rows.{data_node}
use Rattle.store_calls.specs.Calls.{Call, Give, Ask, bind, Saving, Opens, Inside, Closes, Fails, Tried, Got, Lost, then, each, all}
use Rattle.object_calls.specs.Asking.{Does, done, does, when, kill, failing}
use Rattle.object_calls.specs.Extents.{counter_node, id_below, refuses_none}
use Rattle.object_calls.specs.Reading.{read}
use Rattle.object_calls.specs.Keys.{uniques_of, MovedKey, moved_keys, Unique, Side, sides_of, side_node, target_key, MovedSide, moved_sides}
use Rattle.object_calls.specs.Edits.{edits_of}
use Rattle.object_calls.specs.Deletes.{lock_end, lock_if}

-- ---- what is saved

-- the numbers of new objects with the ids that were drawn for them
abbrev pub Drawn : Type 0
Drawn = List (ℕ × List ℕ)

-- A modified object that the root reaches: its number, its extent, its id where it isn't new, its level, and its record once the ids
-- of the new objects are drawn.
pub record ToSave : Type 0 where
  pub number : ℕ
  pub extent : ClassName
  pub id : Option (List ℕ)
  pub level : ℕ
  pub record_with : Drawn → Record

-- with its key
pub record Item : Type 0 where
  pub key : Key
  pub level : ℕ
  pub is_new : Bool
  pub now : Record

-- and with the record that stood under the key
pub record Work : Type 0 where
  pub item : Item
  pub old : Option Record

-- the change that a save of the items makes: each object's record is put under its key
abbrev pub change_of : List Item → Change
change_of items = map (λ i. Put i.key i.now) items

abbrev pub is_key : Key → Key → Bool
is_key a b = eq_by_cmp key_cmp a b

-- ---- ids for new objects

-- the id that a counter gives; a live object may have it, or an earlier object of the save
abbrev pub on_number : (Key → Bool) → List Key → ClassName → Reply → Tried Key
on_number is_live drawn extent (Number (pos (suc i))) =
    let key : Key = record { extent = extent; id = suc i ∷ [] } in
    cond (is_live key || list_any (is_key key) drawn) (Lost (IdTaken (suc i ∷ []))) (Got key)
on_number is_live drawn extent NumberLimit = Lost IdLimit
on_number is_live drawn extent _ = Lost (Damaged (counter_node extent))

abbrev pub draw_one : (Key → Bool) → List Key → ClassName → Call (Tried Key)
draw_one is_live drawn extent = Ask (Incr (counter_node extent) (pos 1)) Inside (λ r. Give (on_number is_live drawn extent r))

abbrev pub draw_if : (Key → Bool) → (List Key → Call (Tried Drawn)) → List Key → ℕ → ClassName → Option (List ℕ) → Call (Tried Drawn)
draw_if is_live rest drawn number extent (Some id) = rest drawn
draw_if is_live rest drawn number extent None =
    then (draw_one is_live drawn extent) (λ key. then (rest (key ∷ drawn)) (λ ids. Give (Got ((number, key.id) ∷ ids))))

abbrev pub draw : (Key → Bool) → List Key → List ToSave → Call (Tried Drawn)
draw is_live drawn [] = Give (Got [])
draw is_live drawn (o ∷ os) = draw_if is_live (λ keys. draw is_live keys os) drawn o.number o.extent o.id

-- the objects with their keys
abbrev pub item_with : Drawn → ToSave → Bool → List ℕ → Item
item_with drawn o is_new id = record { key = record { extent = o.extent; id = id }; level = o.level; is_new = is_new; now = o.record_with drawn }

-- the ids of the new ones are those drawn, in turn
abbrev pub keyed : (Drawn → List Item) → Drawn → ToSave → Option (List ℕ) → Drawn → List Item
keyed rest all o (Some id) ids = item_with all o false id ∷ rest ids
keyed rest all o None [] = []
keyed rest all o None (d ∷ ids) = item_with all o true d.1 ∷ rest ids

abbrev pub items_from : Drawn → List ToSave → Drawn → List Item
items_from all [] ids = []
items_from all (o ∷ os) ids = keyed (items_from all os) all o o.id ids

abbrev pub items_of : Drawn → List ToSave → List Item
items_of drawn os = items_from drawn os drawn

-- ---- what stood there

abbrev pub on_new : Item → Reply → Tried Work
on_new i (Found v) = Lost (IdTaken i.key.id)
on_new i _ = Got (record { item = i; old = None })

abbrev pub on_old : Item → Option Record → Tried Work
on_old i None = Lost (Gone i.key.id)
on_old i (Some r) = cond (same_text r.class.0 i.now.class.0) (Got (record { item = i; old = Some r })) (Lost (Damaged (data_node i.key)))

-- ---- tests

abbrev pub taken_by : Node → List ℕ → Option (List ℕ) → Tried (Unit {0})
taken_by n index None = Lost (Damaged n)
taken_by n index (Some id) = Lost (NotUnique index id)

abbrev pub on_key_below : List Class → ClassName → Node → List ℕ → Reply → Tried (Unit {0})
on_key_below classes extent n index (Next s) = taken_by n index (id_below classes extent s)
on_key_below classes extent n index _ = Got tt

-- a row without value is no target, whether anything stands below it or not
abbrev pub on_target : ClassName → List ℕ → Reply → Tried (Unit {0})
on_target class id (State n) = cond (n == 0 || n == 10) (Lost (NoTarget class id)) (Got tt)
on_target class id _ = Got tt

module _ (classes : List Class) (tries most : ℕ) where
  abbrev pub lock_row : Item → Does
  lock_row i = when (nat_lt 0 i.level) (lock_end classes tries most Exclusive (data_node i.key))

  abbrev pub look_by : Item → Bool → Call (Tried Work)
  look_by i true = Ask (Get (data_node i.key)) Inside (λ r. Give (on_new i r))
  look_by i false = then (read classes i.key Inside most refuses_none) (λ r. Give (on_old i r))

  -- what stands under the key of an object
  unfoldable pub look : Item → Call (Tried Work)
  look i = look_by i i.is_new

  -- ---- what of an object's keys and sides changes

  abbrev pub uniques_if : Key → Option Record → List Unique
  uniques_if key None = []
  uniques_if key (Some r) = uniques_of classes key r

  abbrev pub sides_if : Option Record → List Side
  sides_if None = []
  sides_if (Some r) = sides_of classes r

  abbrev pub keys_moved : Work → List MovedKey
  keys_moved w = moved_keys (uniques_if w.item.key w.old) (uniques_of classes w.item.key w.item.now)

  abbrev pub sides_moved : Work → List MovedSide
  sides_moved w = moved_sides (sides_if w.old) (sides_of classes w.item.now)

  -- the new target of a side, where the save doesn't put it
  abbrev pub is_put : List Item → Key → Bool
  is_put items key = list_any (λ i. is_key key i.key) items

  abbrev pub if_other : List Item → Key → Option Key
  if_other items key = cond (is_put items key) None (Some key)

  abbrev pub other_target : List Item → ClassName → Option (List ℕ) → Option Key
  other_target items class None = None
  other_target items class (Some id) = if_other items (target_key classes class id)

  -- ---- locks of keys, entries and targets

  abbrev pub lock_key : MovedKey → Does
  lock_key k = then (lock_if classes tries most k.old) (λ _. lock_if classes tries most k.new)

  abbrev pub lock_target : Option Key → Does
  lock_target None = done
  lock_target (Some key) = lock_end classes tries most Shared (data_node key)

  abbrev pub lock_side : List Item → Key → MovedSide → Does
  lock_side items key s =
      then (lock_if classes tries most (side_node key s.name s.old)) (λ _.
      then (lock_if classes tries most (side_node key s.name s.new)) (λ _.
      lock_target (other_target items s.class s.new)))

  unfoldable pub lock_keys : List Item → Work → Does
  lock_keys items w = when (nat_lt 0 w.item.level) (then (all lock_key (keys_moved w)) (λ _. all (lock_side items w.item.key) (sides_moved w)))

  -- ---- tests of targets and keys, and the writes

  abbrev pub test_target : ClassName → Option Key → Does
  test_target class None = done
  test_target class (Some key) = Ask (Defined (data_node key)) Inside (λ r. Give (on_target class key.id r))

  unfoldable pub test_targets : List Item → Work → Does
  test_targets items w = all (λ s. test_target s.class (other_target items s.class s.new)) (sides_moved w)

  -- nothing stands below the new node of a key
  abbrev pub test_below : ClassName → List ℕ → Option Node → Does
  test_below extent index None = done
  test_below extent index (Some n) = Ask (Order n None) Inside (λ r. Give (on_key_below classes extent n index r))

  abbrev pub set : Node × Value → Does
  set e = does Inside (Set e.0 e.1)

  unfoldable pub kill_entries : Work → Does
  kill_entries w = all kill (edits_of classes w.item.key w.old (Some w.item.now)).entry_kills

  unfoldable pub write : Work → Does
  write w =
      let edits = edits_of classes w.item.key w.old (Some w.item.now) in
      then (all (λ k. test_below w.item.key.extent k.index k.new) (keys_moved w)) (λ _.
      then (all kill edits.row_kills) (λ _.
      then (all set edits.row_sets) (λ _.
      all set edits.entry_sets)))

  -- ---- the whole

  -- what is done with the objects once they have their keys
  unfoldable pub save_items : List Item → Call (Tried (List Work))
  save_items items =
      then (all lock_row items) (λ _.
      then (each look items) (λ ws.
      then (all (lock_keys items) ws) (λ _.
      then (all (test_targets items) ws) (λ _.
      then (all kill_entries ws) (λ _.
      then (all write ws) (λ _. Give (Got ws)))))))

  abbrev pub save_ends : Drawn → List Item → Tried (List Work) → Call (Tried Drawn)
  save_ends drawn items (Got ws) = Ask Commit (Closes (change_of items)) (λ r. Give (Got drawn))
  save_ends drawn items (Lost x) = Ask RollbackOne Fails (λ r. failing (Saving (change_of items)) 1 x)

  -- the ids are drawn, or not
  abbrev pub save_drawn : List ToSave → Tried Drawn → Call (Tried Drawn)
  save_drawn os (Got drawn) = bind (save_items (items_of drawn os)) (save_ends drawn (items_of drawn os))
  save_drawn os (Lost x) = Ask RollbackOne Fails (λ r. failing (Saving []) 1 x)

  abbrev pub save_begun : (Key → Bool) → List ToSave → Reply → Call (Tried Drawn)
  save_begun is_live os NoLevel = failing (Saving []) 0 TooDeep
  save_begun is_live os _ = bind (draw is_live [] os) (save_drawn os)

  -- The save of these objects, of which there is one at least and each is valid: it answers the ids that were drawn. `is_live` tells
  -- whether an object in memory has a key.
  unfoldable pub save : (Key → Bool) → List ToSave → Call (Tried Drawn)
  save is_live os = Ask Begin Opens (save_begun is_live os)
