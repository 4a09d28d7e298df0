-- Deletes: a stored object is taken away with its entries, unless it has members.
use Rattle.std.specs.Prelude.{ℕ, nat_lt, List, [], ◌∷◌, Option, None, Some}
use Rattle.obj_kinds.specs.declared.name.ClassName.{ClassName}
use Rattle.obj_kinds.specs.declared.node.Node.{Node}
use Rattle.obj_kinds.specs.declared.op.Op.TheVariants.{Order, Begin, Commit, RollbackOne}
use Rattle.obj_kinds.specs.declared.op.Mode.{Mode}
use Rattle.obj_kinds.specs.declared.op.Mode.TheVariants.{Exclusive}
use Rattle.obj_kinds.specs.declared.op.Reply.{Reply}
use Rattle.obj_kinds.specs.declared.op.Reply.TheVariants.{Next, TooDeep as NoLevel}
use Rattle.obj_kinds.specs.declared.cause.Cause.TheVariants.{HasMembers, NotFound, Damaged, TooDeep}
use Rattle.schema_kinds.specs.declared.class.Class.{Class}
use Rattle.schema_kinds.specs.declared.key.Key.{Key}
use Rattle.schema_kinds.specs.declared.record.Record.{Record}
use Rattle.schema_kinds.specs.declared.record.Part.TheVariants.{Del}
use Rattle.record_layout.specs.Rows.{data_node}
use Rattle.store_calls.specs.Calls.{Give, Ask, bind, Deleting, Opens, Inside, Closes, Fails, Tried, Got, Lost, then, all, try}
use Rattle.object_calls.specs.Asking.{Does, done, when, kill, lock_to_end, failing}
use Rattle.object_calls.specs.Extents.{extent_at, id_below, refuses_other}
use Rattle.object_calls.specs.Reading.{read}
use Rattle.object_calls.specs.Keys.{uniques_of, sides_of, side_node, ManySide, many_sides, members_node}
use Rattle.object_calls.specs.Edits.{edits_of}

-- the first member, where there is one
abbrev pub member_by : Node → Option (List ℕ) → Tried (Unit {0})
member_by n None = Lost (Damaged n)
member_by n (Some id) = Lost (HasMembers id)

abbrev pub on_member : List Class → ClassName → Node → Reply → Tried (Unit {0})
on_member classes extent n (Next s) = member_by n (id_below classes extent s)
on_member classes extent n _ = Got tt

module _ (classes : List Class) (tries most : ℕ) where
  -- locks to the end, within a save or delete
  abbrev pub lock_end : Mode → Node → Does
  lock_end mode n = try Inside tries (lock_to_end mode n)

  abbrev pub lock_if : Option Node → Does
  lock_if None = done
  lock_if (Some n) = lock_end Exclusive n

  abbrev pub lock_keys_of : Key → Record → Does
  lock_keys_of key r = then (all (λ u. lock_if u.node) (uniques_of classes key r)) (λ _. all (λ s. lock_if (side_node key s.name s.target)) (sides_of classes r))

  -- no member of a many side names the object
  abbrev pub has_no_members : Key → ℕ → ManySide → Does
  has_no_members key level m =
      let n = members_node classes m key.id in
      then (when (nat_lt 0 level) (lock_end Exclusive n)) (λ _. Ask (Order n None) Inside (λ r. Give (on_member classes (extent_at classes m.class) n r)))

  abbrev pub delete_record : Key → ℕ → Record → Does
  delete_record key level r =
      then (when (nat_lt 0 level) (lock_keys_of key r)) (λ _.
      then (all (has_no_members key level) (many_sides classes r.class)) (λ _.
      then (all kill (edits_of classes key (Some r) None).entry_kills) (λ _.
      kill (data_node key))))

  abbrev pub delete_found : Key → ℕ → Option Record → Does
  delete_found key level None = Give (Lost NotFound)
  delete_found key level (Some r) = delete_record key level r

  -- between the Begin and the Commit
  unfoldable pub deleting : Key → ClassName → ℕ → Does
  deleting key class level =
      then (when (nat_lt 0 level) (lock_end Exclusive (data_node key))) (λ _.
      then (read classes key Inside most (refuses_other classes class)) (delete_found key level))

  abbrev pub delete_ends : Key → ClassName → Tried (Unit {0}) → Does
  delete_ends key class (Got _) = Ask Commit (Closes (Del key ∷ [])) (λ r. done)
  delete_ends key class (Lost x) = Ask RollbackOne Fails (λ r. failing (Deleting key class) 1 x)

  abbrev pub delete_begun : Key → ClassName → ℕ → Reply → Does
  delete_begun key class level NoLevel = failing (Deleting key class) 0 TooDeep
  delete_begun key class level _ = bind (deleting key class level) (delete_ends key class)

  -- the delete of an object of a class, at a level
  unfoldable pub delete : Key → ClassName → ℕ → Does
  delete key class level = Ask Begin Opens (delete_begun key class level)
