-- What every entry of a run keeps of the two machines, so that the headline holds.
use Rattle.std.specs.Prelude.{◌≡◌, ◌≢◌, ◌⊎◌, ℕ, ◌≤◌, Bool, true, false, cond, ◌||◌, ◌&&◌, List, [], ◌∷◌, ◌++◌, length, Option, Some, None, unwrap_or, is_some}
use Rattle.std.specs.List.{list_any}
use Rattle.std.specs.Ordering.{eq_by_cmp}
use Rattle.std.specs.FinMap.{get}
use Rattle.obj_kinds.specs.declared.name.ClassName.{ClassName}
use Rattle.obj_kinds.specs.declared.node.Node.{Node}
use Rattle.obj_kinds.specs.declared.sub.Sub.{Sub}
use Rattle.obj_kinds.specs.declared.sub.Sub.TheVariants.{Str}
use Rattle.obj_kinds.specs.declared.value.Value.{Value}
use Rattle.obj_kinds.specs.declared.op.Pid.{Pid}
use Rattle.obj_kinds.specs.declared.op.Owner.{Owner}
use Rattle.obj_kinds.specs.declared.op.Mode.TheVariants.{Shared}
use Rattle.obj_kinds.specs.declared.op.Op.{Op}
use Rattle.obj_kinds.specs.declared.op.Op.TheVariants.{Set, Kill}
use Rattle.obj_kinds.specs.Order.{node_cmp, covers}
use Rattle.obj_kinds.specs.Texts.{same_text}
use Rattle.schema_kinds.specs.declared.class.Class.{Class}
use Rattle.schema_kinds.specs.declared.key.Key.{Key}
use Rattle.schema_kinds.specs.declared.record.Record.{Record}
use Rattle.schema_kinds.specs.declared.record.Part.{Part}
use Rattle.schema_kinds.specs.declared.record.Part.TheVariants.{Put, Del}
use Rattle.schema_kinds.specs.Classes.{class_names, extent_of}
use Rattle.schema_kinds.specs.Worlds.{World, Change}
use Rattle.record_layout.specs.Rows.{data_node}
use Rattle.storage_map.specs.Markers.{is_extent}
use Rattle.storage_map.specs.Worlds.{id_of_sub, extent_with, owner, stands_at, is_side_named}
use Rattle.lock_table.specs.Holds.{Holds, hold, kept}
use Rattle.tran_log.specs.Levels.{Levels}
use Rattle.store_core.specs.Machine.{State, levels_at}
use Rattle.store_core.specs.Guard.{Guarding, Unguarded, GuardedBy, Closed, Guard, IsGuarded, HoldsToEnd, names}
use Rattle.object_calls.specs.Keys.{Side, sides_of, ManySide, many_sides, members_node, target_key}
use Rattle.object_calls.specs.Saves.{is_key}
use Rattle.object_runs.specs.ObjectMachine.{Desks, Within, desk_at, apply_all}
use Rattle.storage_map.specs.SoundWorlds.{IsSound, HasSide}
use Rattle.object_runs.specs.Causes.{Has}
use Rattle.object_runs.specs.Headline.{is_object_node, is_extent_of, IsCounted, first_number}

-- ---- guards: who writes a node of an object holds its row to the end, and of an entry also what stands above it

abbrev pub row_guarding : List Class → Node → Option Key → Guarding
row_guarding classes n (Some key) = GuardedBy (data_node key)
row_guarding classes n None = cond (is_object_node classes n) Closed Unguarded

abbrev pub row_guard : List Class → Guard
row_guard classes n = row_guarding classes n (owner classes n)

abbrev pub without_last : List Sub → List Sub
without_last [] = []
without_last (s ∷ []) = []
without_last (s ∷ t ∷ ss) = s ∷ without_last (t ∷ ss)

-- a class of the extent has a unique index of that name
abbrev pub is_unique_name : List Class → ClassName → List ℕ → Bool
is_unique_name classes extent name =
    list_any (λ c. is_extent extent (extent_of classes c.name) && list_any (λ i. i.unique && same_text i.name name) c.indexes) classes

-- a class of the extent has a one side of that name
abbrev pub is_side_name : List Class → ClassName → List ℕ → Bool
is_side_name classes extent name = list_any (λ c. is_extent extent (extent_of classes c.name) && list_any (λ p. is_side_named name p p.kind) c.props) classes

-- The subscripts behind an entry's name begin with the id of a target. An index on a one side alone may have the side's name; its entries are then the
-- side's, but where there is no target: there it has a blank, and the side has no entry.
abbrev pub names_target : List Sub → Bool
names_target [] = false
names_target (s ∷ ss) = is_some (id_of_sub s)

-- entries of a unique index are guarded by the node of their key, those of one sides by themselves, all others by the row alone
abbrev pub entry_guarding : List Class → ClassName → Node → List Sub → Guarding
entry_guarding classes extent n (Str name ∷ ss) =
    cond (is_unique_name classes extent name) (GuardedBy (record { global = n.global; subs = without_last n.subs })) (cond (is_side_name classes extent name && names_target ss) (GuardedBy n) Unguarded)
entry_guarding classes extent n ss = Unguarded

abbrev pub guarding_in : List Class → Node → Option ClassName → Option Key → Guarding
guarding_in classes n (Some extent) (Some key) = entry_guarding classes extent n n.subs
guarding_in classes n _ _ = Unguarded

abbrev pub key_guard : List Class → Guard
key_guard classes n = guarding_in classes n (extent_with (class_names classes) 73 n.global classes) (owner classes n)

-- the process holds the row of the key exclusively to the end
abbrev pub HoldsRow : Holds → Pid → Key → Type 0
HoldsRow hs p key = HoldsToEnd hs p (data_node key)

-- at least shared
abbrev pub HoldsShared : Holds → Pid → Node → Type 0
HoldsShared hs p n = HoldsToEnd hs p n ⊎ ((o : Owner) × ((kept hs (hold p n Shared o)).to_end ≡ true))

-- ---- pending changes

abbrev pub key_of : Part → Key
key_of (Put key r) = key
key_of (Del key) = key

abbrev pub changes : Change → Key → Bool
changes [] key = false
changes (x ∷ c) key = is_key key (key_of x) || changes c key

abbrev pub some_changes : List Change → Key → Bool
some_changes [] key = false
some_changes (c ∷ cs) key = changes c key || some_changes cs key

abbrev pub IsPending : List Change → Part → Type 0
IsPending [] x = ⊥
IsPending (c ∷ cs) x = Has x c ⊎ IsPending cs x

-- ---- writes of a save in progress

abbrev pub wrote : Op → Node → Option Value → Option Value
wrote (Set m v) n x = cond (eq_by_cmp node_cmp n m) (Some v) x
wrote (Kill m) n x = cond (covers m n) None x
wrote _ n x = x

-- the newest first
abbrev pub written : List Op → Node → Option Value → Option Value
written [] n x = x
written (op ∷ ops) n x = wrote op n (written ops n x)

-- ---- levels and lists agree at a node of a key

abbrev pub shown : List Class → Key → Node → Option Record → Option Value
shown classes key n None = None
shown classes key n (Some r) = stands_at classes key n r

module _ (classes : List Class) (n : Node) (key : Key) where
  abbrev pub shown_in : List Change → World → Option Value
  shown_in cs w = shown classes key n (get (apply_all cs w) key)

  -- with each level undone from the top, the node is that of the world under the lists below it
  abbrev pub Rest : Levels → List Change → Option Value → World → Type 0
  Rest [] [] v w = v ≡ shown classes key n (get w key)
  Rest (l ∷ ls) (c ∷ cs) v w = (v ≡ shown_in (c ∷ cs) w) × Rest ls cs (unwrap_or (get l n) v) w
  Rest [] (c ∷ cs) v w = ⊥
  Rest (l ∷ ls) [] v w = ⊥

  -- within a save the top level is the save's, and its writes stand over the view
  abbrev pub Stands : Option Within → Levels → List Change → Option Value → World → Type 0
  Stands None ls cs v w = Rest ls cs v w
  Stands (Some s) [] cs v w = ⊥
  Stands (Some s) (l ∷ ls) [] v w = ⊥
  Stands (Some s) (l ∷ ls) (c ∷ cs) v w = (v ≡ written s.asked n (shown_in (c ∷ cs) w)) × Rest ls cs (unwrap_or (get l n) v) w

-- no other process has the node in a level, or the key in a list
abbrev pub IsAlone : State → Desks → ℕ → Node → Key → Type 0
IsAlone s o p n key = (q : ℕ) → q ≢ p → (names (levels_at s q) n ≡ false) × (some_changes (desk_at o q).lists key ≡ false)

-- a process has as many levels as lists; within a save the top list is empty
abbrev pub IsAligned : Option Within → Levels → List Change → Type 0
IsAligned s ls cs = (length ls ≡ length cs) × (is_some s ≡ true → (ds : List Change) × (cs ≡ [] ∷ ds))

-- ---- worlds that are or may come

abbrev pub IsBelowTop : Desks → ℕ → List Change → Type 0
IsBelowTop o p cs = (front : List Change) × ((desk_at o p).lists ≡ front ++ cs)

-- the world itself, or under the lists of a process from some level down
pub data IsPossible (o : Desks) (w : World) : Type 0 where
  Present : w ≡ o.world → IsPossible o w
  Pending : (p : ℕ) (cs : List Change) → IsBelowTop o p cs → w ≡ apply_all cs o.world → IsPossible o w

-- ---- the invariant

pub record IsInvariant (classes : List Class) (s : State) (o : Desks) : Type 0 where
  -- no two holds are in conflict, and who has a node in a level holds its guards
  pub rows : IsGuarded (row_guard classes) s
  pub keys : IsGuarded (key_guard classes) s
  pub aligned : (p : Pid) → IsAligned (desk_at o p.0).within (levels_at s p.0) (desk_at o p.0).lists
  -- a key of a pending change has its row held, also where no node of it is in a level
  pub pending : (p : Pid) (key : Key) → some_changes (desk_at o p.0).lists key ≡ true → HoldsRow s.holds p key
  -- a save in progress writes only what it holds
  pub foreign : (p : Pid) (n : Node) (key : Key) (w : Within) → owner classes n ≡ Some key → (desk_at o p.0).within ≡ Some w
      → (HoldsRow s.holds p key → ⊥) → (x : Option Value) → written w.asked n x ≡ x
  -- levels and lists agree, and a node of the schema that belongs to no key has no value
  pub stands : (p : Pid) (n : Node) (key : Key) → owner classes n ≡ Some key → IsAlone s o p.0 n key
      → Stands classes n key (desk_at o p.0).within (levels_at s p.0) (desk_at o p.0).lists (get s.globals n) o.world
  pub strays : (n : Node) → is_object_node classes n ≡ true → owner classes n ≡ None → get s.globals n ≡ None
  -- the target of a pending one side is held at least shared, or is pending itself, or was there before
  pub targets : (p : Pid) (key : Key) (r : Record) (side : Side) (id : List ℕ) → IsPending (desk_at o p.0).lists (Put key r) → HasSide side (sides_of classes r)
      → side.target ≡ Some id → HoldsShared s.holds p (data_node (target_key classes side.class id))
      ⊎ (some_changes (desk_at o p.0).lists (target_key classes side.class id) ≡ true)
      ⊎ ((old : Record) × (get o.world key ≡ Some old) × HasSide side (sides_of classes old))
  -- while a delete is pending, the nodes of its members are held
  pub deletes : (p : Pid) (key : Key) (r : Record) (m : ManySide) → IsPending (desk_at o p.0).lists (Del key) → get o.world key ≡ Some r
      → Has m (many_sides classes r.class) → HoldsToEnd s.holds p (members_node classes m key.id)
  -- each possible world is sound, its counters are high enough, and a key has one class in all of them
  pub sound : (w : World) → IsPossible o w → IsSound classes w
  pub counted : (w : World) (extent : ClassName) → is_extent_of classes extent ≡ true → IsPossible o w → IsCounted s.globals w extent
  pub classes_agree : (v w : World) (key : Key) (q r : Record) → IsPossible o v → IsPossible o w → get v key ≡ Some q → get w key ≡ Some r → q.class ≡ r.class

-- What a process knows of an object in its memory, whatever the others do: its class is that of its key wherever this is stored, and the
-- counter of its extent is at least its id.
pub record IsKnown (s : State) (o : Desks) (key : Key) (class : ClassName) : Type 0 where
  pub class_is : (w : World) (r : Record) → IsPossible o w → get w key ≡ Some r → r.class ≡ class
  pub counted : (w : World) → IsPossible o w → (n : IsCounted s.globals w key.extent) × (first_number key.id ≤ n.number)
