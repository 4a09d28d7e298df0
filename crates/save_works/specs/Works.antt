-- What a save asks of the store for one object, as lists.
use Rattle.std.specs.Prelude.{ℕ, Bool, cond, List, [], ◌∷◌, ◌++◌, map, filter, drop, Option, None, Some, option_map}
use Rattle.std.specs.List.{filter_map, flat_map, list_any}
use Rattle.std.specs.BTreeMap.{is_at}
use Rattle.obj_kinds.specs.declared.name.ClassName.{ClassName}
use Rattle.obj_kinds.specs.declared.node.Node.{Node}
use Rattle.obj_kinds.specs.declared.value.Value.{Value}
use Rattle.obj_kinds.specs.declared.op.Mode.TheVariants.{Shared, Exclusive}
use Rattle.schema_kinds.specs.declared.class.Class.{Class}
use Rattle.schema_kinds.specs.declared.class.Index.{Index}
use Rattle.schema_kinds.specs.declared.key.Key.{Key}
use Rattle.schema_kinds.specs.declared.prop.Prop.{Prop}
use Rattle.schema_kinds.specs.declared.record.Field.{Field}
use Rattle.schema_kinds.specs.declared.record.Record.{Record}
use Rattle.schema_kinds.specs.Worlds.{key_cmp}
use Rattle.record_layout.specs.Rows.{data_node}
use Rattle.storage_map.specs.Entries.{index_key, key_node, with_fields}
use Rattle.storage_map.specs.Keys.{same_node, Unique, unique_in, uniques_of, Side, side_in, sides_of, target_key}
use Rattle.object_calls.specs.Keys.{MovedKey, moved_keys, side_node, MovedSide, moved_side, moved_sides}
use Rattle.object_calls.specs.Edits.{edits_of}
use Rattle.object_calls.specs.Saves.{uniques_if, sides_if}
use Rattle.asking_plan.specs.declared.asking.Asking.{Asking}
use Rattle.asking_plan.specs.declared.asking.Asking.TheVariants as ask
use Rattle.save_works.specs.declared.keys.MovedKey.{MovedKey as KeyMoved}
use Rattle.save_works.specs.declared.sides.MovedSide.{MovedSide as SideMoved}

-- ---- what changes of keys and sides

abbrev pub key_seen : KeyMoved → MovedKey
key_seen k = record { index = k.index; old = k.old; new = k.new }

abbrev pub side_seen : SideMoved → MovedSide
side_seen s = record { name = s.name; class = s.class; old = s.old; new = s.new }

abbrev pub keys_moved_of : List Class → Key → Option Record → Record → List MovedKey
keys_moved_of classes key old now = moved_keys (uniques_if classes 0 0 key old) (uniques_of classes key now)

abbrev pub sides_moved_of : List Class → Option Record → Record → List MovedSide
sides_moved_of classes old now = moved_sides (sides_if classes 0 0 old) (sides_of classes now)

-- the first of what may be none
abbrev pub first_in : {X : Type 0} → List (Option X) → Option X
first_in [] = None
first_in (x ∷ xs) = x

-- the node of the key of an index
abbrev pub node_in : Key → List (Prop × Field) → Index → Option Node
node_in key valued i = option_map (key_node key i.name) (index_key i valued)

abbrev pub uniques_at : Key → List Index → List Prop → List Field → List Unique
uniques_at key indexes props fields = map (unique_in key (with_fields props fields)) (filter (λ i. i.unique) indexes)

abbrev pub unique_nodes : List Unique → List (Option Node)
unique_nodes us = map (λ u. u.node) us

abbrev pub old_nodes : List Class → Key → Option Record → List (Option Node)
old_nodes classes key old = unique_nodes (uniques_if classes 0 0 key old)

-- where the old nodes are these
abbrev pub one_moved : List ℕ → Option Node → Option Node → List MovedKey
one_moved index old new = cond (same_node old new) [] (record { index = index; old = old; new = new } ∷ [])

abbrev pub moved_by : List (Option Node) → List Unique → List MovedKey
moved_by olds [] = []
moved_by olds (u ∷ us) = one_moved u.index (first_in olds) u.node ++ moved_by (drop 1 olds) us

abbrev pub side_with : List ℕ → ClassName → Option (List ℕ) → Side
side_with name class target = record { name = name; class = class; target = target }

abbrev pub sides_in : List (Prop × Field) → List Side
sides_in valued = filter_map (λ e. side_in e e.0.kind) valued

abbrev pub targets_in : List (Prop × Field) → List (Option (List ℕ))
targets_in valued = map (λ s. s.target) (sides_in valued)

abbrev pub targets_before : List Class → Option Record → List (Option (List ℕ))
targets_before classes old = map (λ s. s.target) (sides_if classes 0 0 old)

abbrev pub one_side_moved : Option (List ℕ) → Side → List MovedSide
one_side_moved old s = moved_side old s []

abbrev pub moved_targets : List (Option (List ℕ)) → List Side → List MovedSide
moved_targets olds [] = []
moved_targets olds (s ∷ ss) = one_side_moved (first_in olds) s ++ moved_targets (drop 1 olds) ss

abbrev pub sides_by : List (Option (List ℕ)) → List (Prop × Field) → List MovedSide
sides_by olds valued = moved_targets olds (sides_in valued)

-- ---- locks

abbrev pub lock_if : Option Node → List Asking
lock_if None = []
lock_if (Some n) = ask.Lock Exclusive n ∷ []

abbrev pub key_locks : MovedKey → List Asking
key_locks k = lock_if k.old ++ lock_if k.new

-- among these keys
abbrev pub put_in : List Key → Key → Bool
put_in put key = list_any (is_at (key_cmp key)) put

-- the new target of a side, where it is none of the keys that are put
abbrev pub other_key : List Class → List Key → ClassName → Option (List ℕ) → Option Key
other_key classes put class None = None
other_key classes put class (Some id) = cond (put_in put (target_key classes class id)) None (Some (target_key classes class id))

abbrev pub target_lock : Option Key → List Asking
target_lock None = []
target_lock (Some key) = ask.Lock Shared (data_node key) ∷ []

abbrev pub side_locks : List Class → List Key → Key → MovedSide → List Asking
side_locks classes put key s = lock_if (side_node key s.name s.old) ++ lock_if (side_node key s.name s.new) ++ target_lock (other_key classes put s.class s.new)

unfoldable pub locks_of : List Class → List Key → Key → Option Record → Record → List Asking
locks_of classes put key old now = flat_map key_locks (keys_moved_of classes key old now) ++ flat_map (side_locks classes put key) (sides_moved_of classes old now)

-- ---- tests

abbrev pub target_test : ClassName → Option Key → List Asking
target_test class None = []
target_test class (Some key) = ask.Target (record { class = class; id = key.id; row = data_node key }) ∷ []

abbrev pub side_test : List Class → List Key → MovedSide → List Asking
side_test classes put s = target_test s.class (other_key classes put s.class s.new)

unfoldable pub side_tests_of : List Class → List Key → Option Record → Record → List Asking
side_tests_of classes put old now = flat_map (side_test classes put) (sides_moved_of classes old now)

abbrev pub below_test : ClassName → List ℕ → Option Node → List Asking
below_test extent index None = []
below_test extent index (Some n) = ask.NoKey (record { extent = extent; index = index; node = n }) ∷ []

abbrev pub key_test : ClassName → MovedKey → List Asking
key_test extent k = below_test extent k.index k.new

unfoldable pub key_tests_of : List Class → Key → Option Record → Record → List Asking
key_tests_of classes key old now = flat_map (key_test key.extent) (keys_moved_of classes key old now)

-- ---- kills and sets

abbrev pub kill_of : Node → Asking
kill_of n = ask.Kill n

abbrev pub set_of : Node × Value → Asking
set_of e = ask.Set e.0 e.1

unfoldable pub kills_of : List Class → Key → Option Record → Record → List Asking
kills_of classes key old now = map kill_of (edits_of classes key old (Some now)).entry_kills

unfoldable pub writes_of : List Class → Key → Option Record → Record → List Asking
writes_of classes key old now =
    let edits = edits_of classes key old (Some now) in
    key_tests_of classes key old now ++ map kill_of edits.row_kills ++ map set_of edits.row_sets ++ map set_of edits.entry_sets
