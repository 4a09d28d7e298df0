-- The many side of an object: its members one after the other.
use Rattle.std.specs.Prelude.{ℕ, Bool, true, false, nat_lt, List, Option, None, Some, option_map}
use Rattle.obj_kinds.specs.declared.name.ClassName.{ClassName}
use Rattle.obj_kinds.specs.declared.node.Node.{Node}
use Rattle.obj_kinds.specs.declared.op.Op.TheVariants.{Order}
use Rattle.obj_kinds.specs.declared.op.Mode.TheVariants.{Shared}
use Rattle.obj_kinds.specs.declared.op.Reply.{Reply}
use Rattle.obj_kinds.specs.declared.op.Reply.TheVariants.{Next}
use Rattle.obj_kinds.specs.declared.cause.Cause.TheVariants.{Damaged}
use Rattle.obj_kinds.specs.Ids.{id_text}
use Rattle.obj_kinds.specs.Subscript.{sub_of}
use Rattle.schema_kinds.specs.declared.class.Class.{Class}
use Rattle.store_calls.specs.Calls.{Call, Give, Ask, bind, Walking, Plain, Tried, Got, Lost, try}
use Rattle.object_calls.specs.Asking.{lock_counted, unlock, failing}
use Rattle.object_calls.specs.Extents.{extent_at, id_below}
use Rattle.object_calls.specs.Keys.{ManySide, members_node}

-- the id of a member, or of none at the end
abbrev pub member_or : Node → Option (List ℕ) → Tried (Option (List ℕ))
member_or n None = Lost (Damaged n)
member_or n (Some id) = Got (Some id)

abbrev pub on_next_member : List Class → ClassName → Node → Reply → Tried (Option (List ℕ))
on_next_member classes extent n (Next s) = member_or n (id_below classes extent s)
on_next_member classes extent n _ = Got None

-- a failure is told when the lock is given back
abbrev pub next_ends : ℕ → Tried (Option (List ℕ)) → Call (Tried (Option (List ℕ)))
next_ends back (Got a) = Give (Got a)
next_ends back (Lost x) = failing Walking back x

module _ (classes : List Class) (tries : ℕ) (side : ManySide) (holder : List ℕ) where
  abbrev pub member_after : Option (List ℕ) → Call (Tried (Option (List ℕ)))
  member_after behind =
      let n = members_node classes side holder in
      Ask (Order n (option_map (λ id. sub_of (id_text id)) behind)) Plain (λ r. Give (on_next_member classes (extent_at classes side.class) n r))

  abbrev pub next_locked : Option (List ℕ) → Tried (Unit {0}) → Call (Tried (Option (List ℕ)))
  next_locked behind (Lost x) = failing Walking 0 x
  next_locked behind (Got _) = bind (member_after behind) (λ a. Ask (unlock Shared (members_node classes side holder)) Plain (λ r. next_ends 1 a))

  abbrev pub next_by : Option (List ℕ) → Bool → Call (Tried (Option (List ℕ)))
  next_by behind true = bind (try Plain tries (lock_counted Shared (members_node classes side holder))) (next_locked behind)
  next_by behind false = bind (member_after behind) (next_ends 0)

  -- the member behind one, or the first; the holder has this id, and this level
  unfoldable pub next_member : ℕ → Option (List ℕ) → Call (Tried (Option (List ℕ)))
  next_member level behind = next_by behind (nat_lt 0 level)
