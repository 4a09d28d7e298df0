-- What a load shows, and when the cause of a failure is true: at the reply that decided, in the view of the process just before it.
use Rattle.std.specs.Prelude.{◌≡◌, ◌≢◌, ◌⊎◌, ℕ, zero, suc, pos, Bool, true, false, cond, List, [], ◌∷◌, ◌++◌, take, drop, length, Option, Some, None}
use Rattle.std.specs.List.{list_any}
use Rattle.std.specs.declared.cmp.Ordering.TheVariants.{Greater}
use Rattle.std.specs.FinMap.{get, remove}
use Rattle.obj_kinds.specs.declared.name.ClassName.{ClassName}
use Rattle.obj_kinds.specs.declared.node.Node.{Node}
use Rattle.obj_kinds.specs.declared.op.Pid.{Pid}
use Rattle.obj_kinds.specs.declared.op.Mode.{Mode}
use Rattle.obj_kinds.specs.declared.op.Owner.{Owner}
use Rattle.obj_kinds.specs.declared.op.Keep.{Keep}
use Rattle.obj_kinds.specs.declared.op.Op.{Op}
use Rattle.obj_kinds.specs.declared.op.Op.TheVariants.{Get, Defined, Order, Incr, Lock, Begin}
use Rattle.obj_kinds.specs.declared.op.Reply.TheVariants.{Found, Number, NumberLimit, Held, TooDeep as NoLevel}
use Rattle.obj_kinds.specs.declared.value.Value.{Value}
use Rattle.obj_kinds.specs.declared.cause.Cause.{Cause}
use Rattle.obj_kinds.specs.declared.cause.Cause.TheVariants.{Busy, Gone, NotUnique, NoTarget, HasMembers, NotMember, NotFound, OtherClass, IdLimit, IdTaken, Damaged, TooDeep}
use Rattle.obj_kinds.specs.Ids.{id_text}
use Rattle.obj_kinds.specs.Order.{sub_cmp, covers}
use Rattle.obj_kinds.specs.Subscript.{sub_of}
use Rattle.obj_kinds.specs.Texts.{same_text}
use Rattle.schema_kinds.specs.declared.class.Class.{Class}
use Rattle.schema_kinds.specs.declared.key.Key.{Key}
use Rattle.schema_kinds.specs.declared.record.Record.{Record}
use Rattle.schema_kinds.specs.declared.record.Part.{Part}
use Rattle.schema_kinds.specs.declared.record.Part.TheVariants.{Put, Del}
use Rattle.schema_kinds.specs.Worlds.{World, Change, apply}
use Rattle.record_layout.specs.Rows.{data_node}
use Rattle.store_calls.specs.Calls.{About, Opening, Saving, Deleting, Walking, Told, Loaded, Failed}
use Rattle.object_calls.specs.Extents.{extent_at, counter_node, is_at_or_below}
use Rattle.object_calls.specs.Keys.{Unique, uniques_of, MovedKey, moved_keys, Side, sides_of, MovedSide, moved_sides, ManySide, many_sides, members_node, target_key}
use Rattle.object_runs.specs.ObjectMachine.{Own}
use Rattle.storage_map.specs.SoundWorlds.{Clash, has_key_node}

abbrev pub Each : {A : Type 0} → (A → Type 0) → List A → Type 0
Each P [] = Unit {0}
Each P (x ∷ xs) = P x × Each P xs

abbrev pub Has : {A : Type 0} → A → List A → Type 0
Has x [] = ⊥
Has x (y ∷ ys) = (x ≡ y) ⊎ Has x ys

-- ---- the entry that is meant

abbrev pub own_at : List Own → ℕ → Option Own
own_at [] i = None
own_at (o ∷ os) zero = Some o
own_at (o ∷ os) (suc i) = own_at os i

-- so many entries back something holds of an entry
abbrev pub IsAt : List Own → ℕ → (Own → Type 0) → Type 0
IsAt os i P = (o : Own) × (own_at os i ≡ Some o) × P o

-- the row of the key was asked for
abbrev pub AsksRow : Key → Own → Type 0
AsksRow key o = o.op ≡ Get (data_node key)

-- ---- loads

-- the view had the record under the key at the first Get
abbrev pub Shows : Key → Record → Own → Type 0
Shows key r o = AsksRow key o × (get o.view key ≡ Some r)

-- ---- what a call was about

abbrev pub Puts : Change → Key → Record → Type 0
Puts change key r = Has (Put key r) change

abbrev pub IsAboutKey : About → Key → Type 0
IsAboutKey (Opening k class) key = key ≡ k
IsAboutKey (Saving change) key = (r : Record) × Puts change key r
IsAboutKey (Deleting k class) key = key ≡ k
IsAboutKey Walking key = ⊥

abbrev pub IsWanted : About → Key → ClassName → Type 0
IsWanted (Opening k class) key wanted = (key ≡ k) × (wanted ≡ class)
IsWanted (Deleting k class) key wanted = (key ≡ k) × (wanted ≡ class)
IsWanted _ key wanted = ⊥

-- ---- locks

-- the lock was refused
abbrev pub IsRefused : Op → Own → Type 0
IsRefused op o = (o.op ≡ op) × ((p : Pid) × (n : Node) × (m : Mode) × (o.reply ≡ Held p n m))

-- each of so many tries of one lock was refused, and the last by this process and node
pub record IsBusy (tries : ℕ) (before : List Own) (p : Pid) (n : Node) (o : Own) : Type 0 where
  pub lock : (at : Node) × (mode : Mode) × (owner : Owner) × (keep : Keep) × (o.op ≡ Lock at mode owner keep)
  pub last : (mode : Mode) × (o.reply ≡ Held p n mode)
  pub many : length (take tries before) ≡ tries
  pub all : Each (IsRefused o.op) (take tries before)

-- ---- the keys that a save moves

abbrev pub uniques_in : List Class → Key → Option Record → List Unique
uniques_in classes key None = []
uniques_in classes key (Some r) = uniques_of classes key r

abbrev pub sides_in_view : List Class → Option Record → List Side
sides_in_view classes None = []
sides_in_view classes (Some r) = sides_of classes r

-- the unique keys, and the one sides, that the putting of a record changes
abbrev pub keys_changed : List Class → World → Key → Record → List MovedKey
keys_changed classes v key r = moved_keys (uniques_in classes key (get v key)) (uniques_of classes key r)

abbrev pub sides_changed : List Class → World → Key → Record → List MovedSide
sides_changed classes v key r = moved_sides (sides_in_view classes (get v key)) (sides_of classes r)

-- ---- a unique key that is taken

-- an object of the extent has the key node
pub record HasKeyNode (classes : List Class) (w : World) (extent : ClassName) (n : Node) (id : List ℕ) : Type 0 where
  pub object : Record
  pub there : get w (record { extent = extent; id = id }) ≡ Some object
  pub node : has_key_node classes (record { extent = extent; id = id }) object n ≡ true

-- the first of them, in the order of subscripts
pub record IsFirstWith (classes : List Class) (w : World) (extent : ClassName) (n : Node) (id : List ℕ) : Type 0 where
  pub has : HasKeyNode classes w extent n id
  pub least : (other : List ℕ) → HasKeyNode classes w extent n other → sub_cmp (sub_of (id_text id)) (sub_of (id_text other)) ≢ Greater

abbrev pub moves_index : List ℕ → List MovedKey → Bool
moves_index index ms = list_any (λ m. same_text m.index index) ms

-- a world without the objects of a change whose key of the index changes
abbrev pub without_movers : List Class → World → List ℕ → Change → World → World
without_movers classes v index [] w = w
without_movers classes v index (Put key r ∷ change) w =
    without_movers classes v index change (cond (moves_index index (keys_changed classes v key r)) (remove w key) w)
without_movers classes v index (Del key ∷ change) w = without_movers classes v index change w

-- Where the new key of an object is looked for: the view with the puts before it, without the object itself and without later ones
-- whose key of that index changes.
abbrev pub searched : List Class → World → Change → Key → List ℕ → Change → World
searched classes v front key index back = without_movers classes v index back (remove (apply front v) key)

abbrev pub IsFree : List Class → World → ClassName → Option Node → Type 0
IsFree classes w extent None = Unit {0}
IsFree classes w extent (Some n) = (id : List ℕ) → HasKeyNode classes w extent n id → ⊥

-- none of the changed keys of an object is taken
abbrev pub AreFree : List Class → World → Change → Key → List MovedKey → Change → Type 0
AreFree classes v front key ms back = Each (λ m. IsFree classes (searched classes v front key m.index back) key.extent m.new) ms

abbrev pub IsFreePart : List Class → World → Change → Part → Change → Type 0
IsFreePart classes v front (Put key r) back = AreFree classes v front key (keys_changed classes v key r) back
IsFreePart classes v front (Del key) back = Unit {0}

-- the objects of a save in order, and of each its unique indexes in order: the first of which the new key is taken, and by whom
pub record IsFirstTaken (classes : List Class) (v : World) (change : Change) (index other : List ℕ) (n : Node) : Type 0 where
  pub front : Change
  pub key : Key
  pub object : Record
  pub back : Change
  pub parts : change ≡ front ++ Put key object ∷ back
  pub earlier : List MovedKey
  pub moved : MovedKey
  pub later : List MovedKey
  pub keys : keys_changed classes v key object ≡ earlier ++ moved ∷ later
  pub named : moved.index ≡ index
  pub at : moved.new ≡ Some n
  pub taken : IsFirstWith classes (searched classes v front key index back) key.extent n other
  pub free : AreFree classes v front key earlier back
  pub before : (f : Change) (x : Part) (b : Change) → front ≡ f ++ x ∷ b → IsFreePart classes v f x (b ++ Put key object ∷ back)

pub record IsNotUnique (classes : List Class) (change : Change) (index other : List ℕ) (o : Own) : Type 0 where
  pub node : Node
  pub asks : o.op ≡ Order node None
  pub clash : (a : Key) × (b : Key) × Clash classes (apply change o.view) a b
  pub first : IsFirstTaken classes o.view change index other node

-- ---- targets and members

-- a changed one side, declared with the class, names a key that is neither in the view nor put by the save
pub record LacksTarget (classes : List Class) (change : Change) (class : ClassName) (id : List ℕ) (o : Own) : Type 0 where
  pub asks : o.op ≡ Defined (data_node (target_key classes class id))
  pub absent : get o.view (target_key classes class id) ≡ None
  pub no_put : (r : Record) → Puts change (target_key classes class id) r → ⊥
  pub key : Key
  pub object : Record
  pub put : Puts change key object
  pub side : MovedSide
  pub changed : Has side (sides_changed classes o.view key object)
  pub declared : side.class ≡ class
  pub names : side.new ≡ Some id

-- an object of the members' extent whose one side names the key
pub record IsMember (classes : List Class) (v : World) (m : ManySide) (key : Key) (id : List ℕ) : Type 0 where
  pub object : Record
  pub there : get v (record { extent = extent_at classes m.class; id = id }) ≡ Some object
  pub side : Side
  pub has : Has side (sides_of classes object)
  pub named : side.name ≡ m.side
  pub target : side.target ≡ Some key.id

-- the first many side in order that has a member, and its first member in the order of subscripts
pub record HasFirstMember (classes : List Class) (key : Key) (id : List ℕ) (o : Own) : Type 0 where
  pub object : Record
  pub there : get o.view key ≡ Some object
  pub earlier : List ManySide
  pub side : ManySide
  pub later : List ManySide
  pub sides : many_sides classes object.class ≡ earlier ++ side ∷ later
  pub asks : o.op ≡ Order (members_node classes side key.id) None
  pub member : IsMember classes o.view side key id
  pub least : (other : List ℕ) → IsMember classes o.view side key other → sub_cmp (sub_of (id_text id)) (sub_of (id_text other)) ≢ Greater
  pub none : Each (λ m. (other : List ℕ) → IsMember classes o.view m key other → ⊥) earlier

-- ---- nodes that are damaged

abbrev pub Looks : Op → Node → Type 0
Looks (Get n) m = n ≡ m
Looks (Order n s) m = n ≡ m
Looks (Incr n k) m = n ≡ m
Looks _ m = ⊥

-- the node was looked at, or one below it: of a record whose entries would pass a limit the row is damaged
abbrev pub LooksAt : Node → Own → Type 0
LooksAt n o = (m : Node) × Looks o.op m × (covers n m ≡ true)

-- the id was given by the counter, or something stands at its row
abbrev pub IsTaken : List ℕ → Own → Type 0
IsTaken id o =
    ((extent : ClassName) × (i : ℕ) × (o.op ≡ Incr (counter_node extent) (pos 1)) × (o.reply ≡ Number (pos i)) × (id ≡ i ∷ []))
    ⊎ ((key : Key) × (v : Value) × (key.id ≡ id) × AsksRow key o × (o.reply ≡ Found v))

-- ---- causes

-- How the reply that decided makes the cause true; `before` has it and all entries before it, the newest first. Of a member that doesn't
-- name the holder the memory decides, and a fault of an object comes before anything is asked.
abbrev pub Decides : List Class → ℕ → List Own → About → Cause → Own → Type 0
Decides classes tries before about TooDeep o = (o.op ≡ Begin) × (o.reply ≡ NoLevel)
Decides classes tries before about (Busy p n) o = IsBusy tries before p n o
Decides classes tries before about IdLimit o = (extent : ClassName) × (o.op ≡ Incr (counter_node extent) (pos 1)) × (o.reply ≡ NumberLimit)
Decides classes tries before about (Gone id) o = (key : Key) × (key.id ≡ id) × IsAboutKey about key × AsksRow key o × (get o.view key ≡ None)
Decides classes tries before about NotFound o = (key : Key) × IsAboutKey about key × AsksRow key o × (get o.view key ≡ None)
Decides classes tries before about (OtherClass class) o =
    (key : Key) × (wanted : ClassName) × (r : Record) × IsWanted about key wanted × Shows key r o × (r.class ≡ class) × (is_at_or_below classes class wanted ≡ false)
Decides classes tries before (Saving change) (NoTarget class id) o = LacksTarget classes change class id o
Decides classes tries before (Saving change) (NotUnique index other) o = IsNotUnique classes change index other o
Decides classes tries before (Deleting key class) (HasMembers id) o = HasFirstMember classes key id o
Decides classes tries before about (NotMember id) o = Unit {0}
Decides classes tries before about (IdTaken id) o = IsTaken id o
Decides classes tries before about (Damaged n) o = LooksAt n o
Decides classes tries before about _ o = ⊥

-- the cause of a failure is true
abbrev pub HasTrueCause : List Class → ℕ → List Own → About → ℕ → Cause → Type 0
HasTrueCause classes tries os about back x = IsAt os back (Decides classes tries (drop back os) about x)

-- what a process tells is true, where this is what it asked
abbrev pub IsTrueTold : List Class → ℕ → List Own → Told → Type 0
IsTrueTold classes tries os (Loaded back key r) = IsAt os back (Shows key r)
IsTrueTold classes tries os (Failed about back x) = HasTrueCause classes tries os about back x
IsTrueTold classes tries os _ = Unit {0}
