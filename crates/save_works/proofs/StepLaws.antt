-- Asking the lists of an object is what a save does with it.
use Rattle.std.proofs.Common.{◌≡◌, ℕ, suc, ◌-◌, ◌≤◌, cond, List, [], ◌∷◌, ◌++◌, map, Option, None, Some, refl, ap, ◌∙◌, arith}
use Rattle.std.specs.List.{flat_map}
use Rattle.obj_kinds.specs.declared.name.ClassName.{ClassName}
use Rattle.obj_kinds.specs.declared.node.Node.{Node}
use Rattle.obj_kinds.specs.declared.value.Value.{Value}
use Rattle.obj_kinds.specs.declared.op.Mode.{Mode}
use Rattle.obj_kinds.specs.declared.op.Mode.TheVariants.{Shared, Exclusive}
use Rattle.schema_kinds.specs.declared.class.Class.{Class}
use Rattle.schema_kinds.specs.declared.key.Key.{Key}
use Rattle.record_layout.specs.Rows.{data_node}
use Rattle.storage_map.specs.Keys.{target_key}
use Rattle.store_calls.specs.Calls.{Give, Ask, Tell, Cut, Got, Lost, Inside, then, all, try}
use Rattle.object_calls.specs.Asking.{Does, done, kill, lock_to_end}
use Rattle.object_calls.specs.Keys.{MovedKey, MovedSide, side_node}
use Rattle.object_calls.specs.Edits.{edits_of}
use Rattle.object_calls.specs.Deletes.{lock_if as locks_if}
use Rattle.object_calls.specs.Saves.{Item, Work, other_target, keys_moved, sides_moved, lock_key, lock_target, lock_side, test_target, test_targets, test_below, set, kill_entries, write}
use Rattle.read_plan.proofs.CallLaws.{then_then}
use Rattle.asking_plan.specs.declared.asking.Asking.{Asking}
use Rattle.asking_plan.specs.declared.asking.Asking.TheVariants as ask
use Rattle.asking_plan.specs.Asked.{asks}
use Rattle.asking_plan.proofs.AskedLaws.{all_append, all_flat}
use Rattle.save_works.specs.Works.{lock_if, key_locks, other_key, target_lock, side_locks, locks_of, target_test, side_test, side_tests_of, below_test, key_test, key_tests_of, kill_of, set_of, kills_of, writes_of}
use Rattle.save_works.specs.Steps.{AreKeysOf, AsksLocks, AsksTargets, AsksKills, AsksWrites}

-- nothing more behind something
then_done : (c : Does) → then c (λ _. done) ≡ c
then_done (Give (Got u)) = refl
then_done (Give (Lost x)) = refl
then_done (Ask op tag k) = λ i. Ask op tag (λ r. then_done (k r) i)
then_done (Tell x c) = ap (λ d. Tell x d) (then_done c)
then_done Cut = refl

-- each of several in another way
all_same : {A : Type 0} (f g : A → Does) → ((x : A) → f x ≡ g x) → (xs : List A) → all f xs ≡ all g xs
all_same f g h [] = refl
all_same f g h (x ∷ xs) = ap (λ c. then c (λ _. all f xs)) (h x) ∙ (λ i. then (g x) (λ _. all_same f g h xs i))

all_map : {A B : Type 0} (f : B → Does) (g : A → B) (xs : List A) → all f (map g xs) ≡ all (λ x. f (g x)) xs
all_map f g [] = refl
all_map f g (x ∷ xs) = λ i. then (f (g x)) (λ _. all_map f g xs i)

module _ (classes : List Class) (tries most : ℕ) where
  abbrev asked : Asking → Does
  asked = asks classes (tries - 1)

  two_then : (xs ys : List Asking) (c d : Does) → all asked xs ≡ c → all asked ys ≡ d → all asked (xs ++ ys) ≡ then c (λ _. d)
  two_then xs ys c d e f = all_append asked xs ys ∙ ap (λ x. then x (λ _. all asked ys)) e ∙ (λ i. then c (λ _. f i))

  three_then : (xs ys zs : List Asking) (c d e : Does) → all asked xs ≡ c → all asked ys ≡ d → all asked zs ≡ e → all asked (xs ++ ys ++ zs) ≡ then c (λ _. then d (λ _. e))
  three_then xs ys zs c d e f g h = two_then (xs ++ ys) zs (then c (λ _. d)) e (two_then xs ys c d f g) h ∙ then_then c (λ _. d) (λ _. e)

  four_then : (xs ys zs vs : List Asking) (b c d e : Does) → all asked xs ≡ b → all asked ys ≡ c → all asked zs ≡ d → all asked vs ≡ e
      → all asked (xs ++ ys ++ zs ++ vs) ≡ then b (λ _. then c (λ _. then d (λ _. e)))
  four_then xs ys zs vs b c d e f g h k =
      two_then (xs ++ ys ++ zs) vs (then b (λ _. then c (λ _. d))) e (three_then xs ys zs b c d f g h) k
      ∙ then_then b (λ _. then c (λ _. d)) (λ _. e)
      ∙ (λ i. then b (λ _. then_then c (λ _. d) (λ _. e) i))

  module _ (some_tries : 1 ≤ tries) where
    lock_asked : (mode : Mode) (n : Node) → asked (ask.Lock mode n) ≡ try Inside tries (lock_to_end mode n)
    unfolding asks
    lock_asked mode n = let same : suc (tries - 1) ≡ tries = omega (arith, some_tries) in ap (λ t. try Inside t (lock_to_end mode n)) same

    if_asked : (x : Option Node) → all asked (lock_if x) ≡ locks_if classes tries most x
    if_asked None = refl
    if_asked (Some n) = then_done (asked (ask.Lock Exclusive n)) ∙ lock_asked Exclusive n

    key_asked : (k : MovedKey) → all asked (key_locks k) ≡ lock_key classes tries most k
    key_asked k =
        all_append asked (lock_if k.old) (lock_if k.new)
        ∙ ap (λ c. then c (λ _. all asked (lock_if k.new))) (if_asked k.old)
        ∙ (λ i. then (locks_if classes tries most k.old) (λ _. if_asked k.new i))

    target_asked : (x : Option Key) → all asked (target_lock x) ≡ lock_target classes tries most x
    target_asked None = refl
    target_asked (Some key) = then_done (asked (ask.Lock Shared (data_node key))) ∙ lock_asked Shared (data_node key)

    module _ (items : List Item) (put : List Key) (same : AreKeysOf items put) where
      other_is : (class : ClassName) (x : Option (List ℕ)) → other_key classes put class x ≡ other_target classes tries most items class x
      other_is class None = refl
      other_is class (Some id) = ap (λ b. cond b None (Some (target_key classes class id))) (same (target_key classes class id))

      side_asked : (key : Key) (s : MovedSide) → all asked (side_locks classes put key s) ≡ lock_side classes tries most items key s
      side_asked key s =
          let target : all asked (target_lock (other_key classes put s.class s.new)) ≡ lock_target classes tries most (other_target classes tries most items s.class s.new) =
          ap (λ x. all asked (target_lock x)) (other_is s.class s.new) ∙ target_asked (other_target classes tries most items s.class s.new) in
          three_then (lock_if (side_node key s.name s.old)) (lock_if (side_node key s.name s.new)) (target_lock (other_key classes put s.class s.new)) _ _ _ (if_asked (side_node key s.name s.old)) (if_asked (side_node key s.name s.new)) target

      locks_asked : (w : Work) → all asked (locks_of classes put w.item.key w.old w.item.now)
          ≡ then (all (lock_key classes tries most) (keys_moved classes tries most w)) (λ _. all (lock_side classes tries most items w.item.key) (sides_moved classes tries most w))
      unfolding locks_of
      locks_asked w =
          let keys : all asked (flat_map key_locks (keys_moved classes tries most w)) ≡ all (lock_key classes tries most) (keys_moved classes tries most w) =
          all_flat asked key_locks (keys_moved classes tries most w) ∙ all_same (λ k. all asked (key_locks k)) (lock_key classes tries most) key_asked (keys_moved classes tries most w) in
          let sides : all asked (flat_map (side_locks classes put w.item.key) (sides_moved classes tries most w)) ≡ all (lock_side classes tries most items w.item.key) (sides_moved classes tries most w) =
          all_flat asked (side_locks classes put w.item.key) (sides_moved classes tries most w)
          ∙ all_same (λ s. all asked (side_locks classes put w.item.key s)) (lock_side classes tries most items w.item.key) (side_asked w.item.key) (sides_moved classes tries most w) in
          all_append asked (flat_map key_locks (keys_moved classes tries most w)) (flat_map (side_locks classes put w.item.key) (sides_moved classes tries most w))
          ∙ ap (λ c. then c (λ _. all asked (flat_map (side_locks classes put w.item.key) (sides_moved classes tries most w)))) keys
          ∙ (λ i. then (all (lock_key classes tries most) (keys_moved classes tries most w)) (λ _. sides i))

  module _ (items : List Item) (put : List Key) (same : AreKeysOf items put) where
    other_as : (class : ClassName) (x : Option (List ℕ)) → other_key classes put class x ≡ other_target classes tries most items class x
    other_as class None = refl
    other_as class (Some id) = ap (λ b. cond b None (Some (target_key classes class id))) (same (target_key classes class id))

    test_asked : (class : ClassName) (x : Option Key) → all asked (target_test class x) ≡ test_target classes tries most class x
    unfolding asks
    test_asked class None = refl
    test_asked class (Some key) = then_done (asked (ask.Target (record { class = class; id = key.id; row = data_node key })))

    tests_asked : (w : Work) → all asked (side_tests_of classes put w.old w.item.now) ≡ test_targets classes tries most items w
    unfolding side_tests_of test_targets
    tests_asked w =
        all_flat asked (side_test classes put) (sides_moved classes tries most w)
        ∙ all_same (λ s. all asked (side_test classes put s)) (λ s. test_target classes tries most s.class (other_target classes tries most items s.class s.new))
        (λ s. ap (λ x. all asked (target_test s.class x)) (other_as s.class s.new) ∙ test_asked s.class (other_target classes tries most items s.class s.new)) (sides_moved classes tries most w)

  kill_asked : (n : Node) → asked (kill_of n) ≡ kill n
  unfolding asks
  kill_asked n = refl

  set_asked : (e : Node × Value) → asked (set_of e) ≡ set classes tries most e
  unfolding asks
  set_asked e = refl

  all_kills : (ns : List Node) → all asked (map kill_of ns) ≡ all kill ns
  all_kills ns = all_map asked kill_of ns ∙ all_same (λ n. asked (kill_of n)) kill kill_asked ns

  all_sets : (es : List (Node × Value)) → all asked (map set_of es) ≡ all (set classes tries most) es
  all_sets es = all_map asked set_of es ∙ all_same (λ e. asked (set_of e)) (set classes tries most) set_asked es

  kills_asked : (w : Work) → all asked (kills_of classes w.item.key w.old w.item.now) ≡ kill_entries classes tries most w
  unfolding kills_of kill_entries
  kills_asked w = all_kills (edits_of classes w.item.key w.old (Some w.item.now)).entry_kills

  below_asked : (extent : ClassName) (index : List ℕ) (x : Option Node) → all asked (below_test extent index x) ≡ test_below classes tries most extent index x
  unfolding asks
  below_asked extent index None = refl
  below_asked extent index (Some n) = then_done (asked (ask.NoKey (record { extent = extent; index = index; node = n })))

  keys_asked : (w : Work) → all asked (key_tests_of classes w.item.key w.old w.item.now) ≡ all (λ k. test_below classes tries most w.item.key.extent k.index k.new) (keys_moved classes tries most w)
  unfolding key_tests_of
  keys_asked w =
      all_flat asked (key_test w.item.key.extent) (keys_moved classes tries most w)
      ∙ all_same (λ k. all asked (key_test w.item.key.extent k)) (λ k. test_below classes tries most w.item.key.extent k.index k.new) (λ k. below_asked w.item.key.extent k.index k.new) (keys_moved classes tries most w)

  writes_asked : (w : Work) → all asked (writes_of classes w.item.key w.old w.item.now) ≡ write classes tries most w
  unfolding writes_of write
  writes_asked w =
      let edits = edits_of classes w.item.key w.old (Some w.item.now) in
      four_then (key_tests_of classes w.item.key w.old w.item.now) (map kill_of edits.row_kills) (map set_of edits.row_sets) (map set_of edits.entry_sets) _ _ _ _
      (keys_asked w) (all_kills edits.row_kills) (all_sets edits.row_sets) (all_sets edits.entry_sets)

pub asks_locks : AsksLocks
asks_locks classes tries most items put w some_tries same = locks_asked classes tries most some_tries items put same w

pub asks_targets : AsksTargets
asks_targets classes tries most items put w same = tests_asked classes tries most items put same w

pub asks_kills : AsksKills
asks_kills classes tries most w = kills_asked classes tries most w

pub asks_writes : AsksWrites
asks_writes classes tries most w = writes_asked classes tries most w
