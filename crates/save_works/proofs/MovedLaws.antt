-- What changes of keys and sides, by the old nodes and targets alone.
use Rattle.std.proofs.Common.{◌≡◌, ℕ, Bool, true, false, cond, List, [], ◌∷◌, ◌++◌, map, Option, None, refl, sym, ap, ◌∙◌}
use Rattle.obj_kinds.specs.declared.node.Node.{Node}
use Rattle.schema_kinds.specs.declared.class.Class.{Class}
use Rattle.schema_kinds.specs.declared.key.Key.{Key}
use Rattle.schema_kinds.specs.declared.record.Record.{Record}
use Rattle.storage_map.specs.Keys.{same_node, Unique, uniques_of, Side, sides_of}
use Rattle.object_calls.specs.Keys.{MovedKey, moved_key, moved_keys, same_target, MovedSide, moved_side, moved_sides}
use Rattle.object_calls.specs.Saves.{uniques_if, sides_if}
use Rattle.save_works.specs.Works.{unique_nodes, one_moved, moved_by, keys_moved_of, old_nodes, one_side_moved, moved_targets, sides_moved_of, targets_before}

key_split : (old : Option Node) (u : Unique) (rest : List MovedKey) → moved_key old u rest ≡ one_moved u.index old u.node ++ rest
key_split old u rest = by (same_node old u.node)
  where
    by : (b : Bool) → cond b rest (record { index = u.index; old = old; new = u.node } ∷ rest) ≡ cond b [] (record { index = u.index; old = old; new = u.node } ∷ []) ++ rest
    by true = refl
    by false = refl

keys_by : (olds us : List Unique) → moved_keys olds us ≡ moved_by (unique_nodes olds) us
keys_by olds [] = none olds
  where
    none : (olds : List Unique) → moved_keys olds [] ≡ []
    none [] = refl
    none (o ∷ os) = refl
keys_by [] (u ∷ us) = key_split None u (moved_keys [] us) ∙ ap (λ rest. one_moved u.index None u.node ++ rest) (keys_by [] us)
keys_by (o ∷ os) (u ∷ us) = key_split o.node u (moved_keys os us) ∙ ap (λ rest. one_moved u.index o.node u.node ++ rest) (keys_by os us)

pub keys_are : (classes : List Class) (key : Key) (old : Option Record) (now : Record) → moved_by (old_nodes classes key old) (uniques_of classes key now) ≡ keys_moved_of classes key old now
keys_are classes key old now = sym (keys_by (uniques_if classes 0 0 key old) (uniques_of classes key now))

side_split : (old : Option (List ℕ)) (s : Side) (rest : List MovedSide) → moved_side old s rest ≡ one_side_moved old s ++ rest
side_split old s rest = by (same_target old s.target)
  where
    by : (b : Bool) → cond b rest (record { name = s.name; class = s.class; old = old; new = s.target } ∷ rest) ≡ cond b [] (record { name = s.name; class = s.class; old = old; new = s.target } ∷ []) ++ rest
    by true = refl
    by false = refl

sides_each : (olds ss : List Side) → moved_sides olds ss ≡ moved_targets (map (λ (s : Side). s.target) olds) ss
sides_each olds [] = none olds
  where
    none : (olds : List Side) → moved_sides olds [] ≡ []
    none [] = refl
    none (o ∷ os) = refl
sides_each [] (s ∷ ss) = side_split None s (moved_sides [] ss) ∙ ap (λ rest. one_side_moved None s ++ rest) (sides_each [] ss)
sides_each (o ∷ os) (s ∷ ss) = side_split o.target s (moved_sides os ss) ∙ ap (λ rest. one_side_moved o.target s ++ rest) (sides_each os ss)

pub sides_are : (classes : List Class) (old : Option Record) (now : Record) → moved_targets (targets_before classes old) (sides_of classes now) ≡ sides_moved_of classes old now
sides_are classes old now = sym (sides_each (sides_if classes 0 0 old) (sides_of classes now))
