-- A worked save: two accounts swap their numbers.
use Rattle.std.specs.Prelude.{◌≡◌, [], ◌∷◌, codes, Some, None}
use Rattle.std.specs.FinMap.{get}
use Rattle.obj_kinds.specs.declared.op.Pid.{Pid}
use Rattle.schema_kinds.specs.declared.record.Record.{Record}
use Rattle.schema_kinds.specs.declared.record.Part.TheVariants.{Put}
use Rattle.schema_kinds.specs.Worlds.{Change}
use Rattle.storage_map.specs.SoundWorlds.{IsSound}
use Rattle.store_core.specs.Machine.{State}
use Rattle.store_core.specs.Guard.{HoldsToEnd}
use Rattle.object_calls.specs.Banking.{bank, account, key_in, number_node, account_record}
use Rattle.object_runs.specs.ObjectMachine.{Desks, view}
use Rattle.object_runs.specs.Invariant.{HoldsRow}
use Rattle.sound_runs.specs.Closing.{IsSafeChange}

abbrev pub ann7 : Record
ann7 = account_record (codes "Ann") (codes "7") None

abbrev pub ann8 : Record
ann8 = account_record (codes "Ann") (codes "8") None

abbrev pub bob7 : Record
bob7 = account_record (codes "Bob") (codes "7") None

abbrev pub bob8 : Record
bob8 = account_record (codes "Bob") (codes "8") None

abbrev pub swap : Change
swap = Put (key_in account 1) ann8 ∷ Put (key_in account 2) bob7 ∷ []

-- what the process holds and sees before the swap commits: rows and key nodes, and two accounts of a sound world
pub record IsBeforeSwap (s : State) (o : Desks) (p : Pid) : Type 0 where
  pub first_row : HoldsRow s.holds p (key_in account 1)
  pub second_row : HoldsRow s.holds p (key_in account 2)
  pub seven : HoldsToEnd s.holds p (number_node 7)
  pub eight : HoldsToEnd s.holds p (number_node 8)
  pub first : get (view o p.0) (key_in account 1) ≡ Some ann7
  pub second : get (view o p.0) (key_in account 2) ≡ Some bob8
  pub sound : IsSound bank (view o p.0)

abbrev pub SwapsAreSafe : Type 0
SwapsAreSafe = (s : State) (o : Desks) (p : Pid) → IsBeforeSwap s o p → IsSafeChange bank s o p swap
