-- Loads: opening a stored object, and raising the level of a live one.
use Rattle.std.specs.Prelude.{ℕ, ◌+◌, ◌-◌, Bool, true, false, cond, ◌&&◌, ◌||◌, ◌==◌, nat_lt, List, Option, None, Some}
use Rattle.obj_kinds.specs.declared.name.ClassName.{ClassName}
use Rattle.obj_kinds.specs.declared.op.Mode.{Mode}
use Rattle.obj_kinds.specs.declared.op.Mode.TheVariants.{Shared, Exclusive}
use Rattle.obj_kinds.specs.declared.cause.Cause.{Cause}
use Rattle.obj_kinds.specs.declared.cause.Cause.TheVariants.{Gone, NotFound}
use Rattle.schema_kinds.specs.declared.class.Class.{Class}
use Rattle.schema_kinds.specs.declared.key.Key.{Key}
use Rattle.schema_kinds.specs.declared.record.Record.{Record}
use Rattle.record_layout.specs.Rows.{data_node}
use Rattle.store_calls.specs.Calls.{Call, Give, Ask, Tell, bind, Plain, About, Opening, Loaded, Tried, Got, Lost, try}
use Rattle.object_calls.specs.Asking.{Does, does, when, lock_counted, unlock, timed, failing}
use Rattle.object_calls.specs.Extents.{refuses_other, has_several}
use Rattle.object_calls.specs.Reading.{read}

-- what is opened, for which class, at which level; a touch and the opening of a member say that it is gone, where it isn't there
pub record LoadCall : Type 0 where
  pub key : Key
  pub class : ClassName
  pub level : ℕ
  pub touch : Bool

module _ (classes : List Class) (tries most : ℕ) where
  -- the mode of the lock that the load takes: from level 2 on, and at level 1 where it reads several nodes
  abbrev pub load_mode : LoadCall → Option Mode
  load_mode l =
      cond (nat_lt 1 l.level || (l.level == 1 && has_several classes l.class)) (Some (cond (l.level == 4) Exclusive Shared)) None

  abbrev pub about : LoadCall → About
  about l = Opening l.key l.class

  abbrev pub missing : LoadCall → Cause
  missing l = cond l.touch (Gone l.key.id) NotFound

  -- the end of a load that asked so many operations to read, and then so many more
  abbrev pub load_gives : LoadCall → ℕ → Tried (Option Record) × ℕ → Call (Tried Record)
  load_gives l more (Got (Some r), reads) = Tell (Loaded ((reads - 1) + more) l.key r) (Give (Got r))
  load_gives l more (Got None, reads) = failing (about l) more (missing l)
  load_gives l more (Lost x, reads) = failing (about l) more x

  -- the lock stays where an object of level 3 or 4 is made
  abbrev pub keeps_lock : LoadCall → Tried (Option Record) → Bool
  keeps_lock l (Got (Some r)) = nat_lt 2 l.level
  keeps_lock l _ = false

  abbrev pub load_ends : LoadCall → Mode → Tried (Option Record) × ℕ → Bool → Call (Tried Record)
  load_ends l mode x true = load_gives l 0 x
  load_ends l mode x false = Ask (unlock mode (data_node l.key)) Plain (λ r. load_gives l 1 x)

  abbrev pub load_read : LoadCall → Call (Tried (Option Record) × ℕ)
  load_read l = timed (read classes l.key Plain most (refuses_other classes l.class))

  abbrev pub load_locked : LoadCall → Mode → Tried (Unit {0}) → Call (Tried Record)
  load_locked l mode (Lost x) = failing (about l) 0 x
  load_locked l mode (Got _) = bind (load_read l) (λ x. load_ends l mode x (keeps_lock l x.0))

  abbrev pub load_by : LoadCall → Option Mode → Call (Tried Record)
  load_by l None = bind (load_read l) (load_gives l 0)
  load_by l (Some mode) = bind (try Plain tries (lock_counted mode (data_node l.key))) (load_locked l mode)

  -- the load of an object that isn't live
  unfoldable pub load : LoadCall → Call (Tried Record)
  load l = load_by l (load_mode l)

-- ---- a live object of a key, which is opened for a class, is raised from level u to level v

module _ (tries : ℕ) (key : Key) (class : ClassName) where
  abbrev pub raise_lock : ℕ → Does
  raise_lock v = cond (v == 4) (try Plain tries (lock_counted Exclusive (data_node key))) (when (v == 3) (try Plain tries (lock_counted Shared (data_node key))))

  abbrev pub raise_ends : ℕ → ℕ → Tried (Unit {0}) → Does
  raise_ends u v (Lost x) = failing (Opening key class) 0 x
  raise_ends u v (Got _) = when (v == 4 && u == 3) (does Plain (unlock Shared (data_node key)))

  unfoldable pub raise : ℕ → ℕ → Does
  raise u v = when (nat_lt u v) (bind (raise_lock v) (raise_ends u v))
