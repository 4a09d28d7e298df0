-- The objects of a save with what is stored under their keys, and what a pass asks for each of them.
use Rattle.std.specs.Prelude.{◌≡◌, ◌≤◌, ◌-◌, ℕ, cond, nat_lt, List, [], ◌∷◌, slice_get, Option, None}
use Rattle.std.specs.Option.{option_and_then}
use Rattle.obj_kinds.specs.declared.op.Mode.TheVariants.{Exclusive}
use Rattle.schema_kinds.specs.declared.class.Class.{Class}
use Rattle.schema_kinds.specs.declared.key.Key.{Key}
use Rattle.schema_kinds.specs.declared.record.Record.{Record}
use Rattle.record_layout.specs.Rows.{data_node}
use Rattle.store_calls.specs.Calls.{all}
use Rattle.object_calls.specs.Asking.{Does}
use Rattle.object_calls.specs.Saves.{Item, Work, lock_row, lock_keys, test_targets, kill_entries, write}
use Rattle.asking_plan.specs.declared.asking.Asking.{Asking}
use Rattle.asking_plan.specs.declared.asking.Asking.TheVariants as ask
use Rattle.asking_plan.specs.Asked.{asks}
use Rattle.save_works.specs.Works.{locks_of, side_tests_of, kills_of, writes_of}
use Rattle.save_works.specs.Steps.{AreKeysOf}
use Rattle.save_looks.specs.declared.call.SaveItem.{SaveItem}
use Rattle.save_looks.specs.Looks.{item_of}
use Rattle.save_passes.specs.declared.asking.Stage.{Stage}
use Rattle.save_passes.specs.declared.asking.Stage.TheVariants as stage

-- the old record at a place; none where nothing was looked up yet
abbrev pub old_in : ℕ → List (Option Record) → Option Record
old_in place olds = option_and_then (λ x. x) (slice_get olds place)

abbrev pub work_of : SaveItem → Option Record → Work
work_of i old = record { item = item_of i; old = old }

-- each object with its old record
abbrev pub works_of : List SaveItem → List (Option Record) → List Work
works_of [] olds = []
works_of (i ∷ is) [] = work_of i None ∷ works_of is []
works_of (i ∷ is) (o ∷ os) = work_of i o ∷ works_of is os

-- ---- what is asked for one object, as a list

abbrev pub if_level : ℕ → List Asking → List Asking
if_level level askings = cond (nat_lt 0 level) askings []

abbrev pub row_lock_of : Item → List Asking
row_lock_of i = if_level i.level (ask.Lock Exclusive (data_node i.key) ∷ [])

abbrev pub key_locks_of : List Class → List Key → ℕ → Key → Option Record → Record → List Asking
key_locks_of classes put level key old now = if_level level (locks_of classes put key old now)

abbrev pub askings_of : List Class → List Key → Stage → Work → List Asking
askings_of classes put stage.Rows w = row_lock_of w.item
askings_of classes put stage.Keys w = key_locks_of classes put w.item.level w.item.key w.old w.item.now
askings_of classes put stage.Targets w = side_tests_of classes put w.old w.item.now
askings_of classes put stage.Kills w = kills_of classes w.item.key w.old w.item.now
askings_of classes put stage.Writes w = writes_of classes w.item.key w.old w.item.now

-- ---- what a save does with it at that step

module _ (classes : List Class) (tries most : ℕ) where
  abbrev pub does_at : Stage → List Item → Work → Does
  does_at stage.Rows items w = lock_row classes tries most w.item
  does_at stage.Keys items w = lock_keys classes tries most items w
  does_at stage.Targets items w = test_targets classes tries most items w
  does_at stage.Kills items w = kill_entries classes tries most w
  does_at stage.Writes items w = write classes tries most w

abbrev pub AsksWhatASaveDoes : Type 0
AsksWhatASaveDoes =
    (classes : List Class) (tries most : ℕ) (items : List Item) (put : List Key) (s : Stage) (w : Work) → 1 ≤ tries → AreKeysOf items put
    → all (asks classes (tries - 1)) (askings_of classes put s w) ≡ does_at classes tries most s items w
