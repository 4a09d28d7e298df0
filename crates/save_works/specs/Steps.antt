-- What the lists of an object are to a save.
use Rattle.std.specs.Prelude.{◌≡◌, ◌-◌, ◌≤◌, ℕ, List}
use Rattle.std.specs.List.{list_any}
use Rattle.schema_kinds.specs.declared.class.Class.{Class}
use Rattle.schema_kinds.specs.declared.key.Key.{Key}
use Rattle.store_calls.specs.Calls.{all, then}
use Rattle.object_calls.specs.Saves.{Item, Work, is_key, keys_moved, sides_moved, lock_key, lock_side, test_targets, kill_entries, write}
use Rattle.asking_plan.specs.Asked.{asks}
use Rattle.save_works.specs.Works.{locks_of, put_in, side_tests_of, kills_of, writes_of}

-- the keys are those of the items
abbrev pub AreKeysOf : List Item → List Key → Type 0
AreKeysOf items put = (key : Key) → put_in put key ≡ list_any (λ i. is_key key i.key) items

abbrev pub AsksLocks : Type 0
AsksLocks =
    (classes : List Class) (tries most : ℕ) (items : List Item) (put : List Key) (w : Work) → 1 ≤ tries → AreKeysOf items put
    → all (asks classes (tries - 1)) (locks_of classes put w.item.key w.old w.item.now)
    ≡ then (all (lock_key classes tries most) (keys_moved classes tries most w)) (λ _. all (lock_side classes tries most items w.item.key) (sides_moved classes tries most w))

abbrev pub AsksTargets : Type 0
AsksTargets =
    (classes : List Class) (tries most : ℕ) (items : List Item) (put : List Key) (w : Work) → AreKeysOf items put
    → all (asks classes (tries - 1)) (side_tests_of classes put w.old w.item.now) ≡ test_targets classes tries most items w

abbrev pub AsksKills : Type 0
AsksKills =
    (classes : List Class) (tries most : ℕ) (w : Work) → all (asks classes (tries - 1)) (kills_of classes w.item.key w.old w.item.now) ≡ kill_entries classes tries most w

abbrev pub AsksWrites : Type 0
AsksWrites =
    (classes : List Class) (tries most : ℕ) (w : Work) → all (asks classes (tries - 1)) (writes_of classes w.item.key w.old w.item.now) ≡ write classes tries most w
