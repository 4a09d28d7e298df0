-- In which surroundings a call is judged: whose it is, what holds of every state, and what the others may ask.
use Rattle.std.specs.Prelude.{List}
use Rattle.obj_kinds.specs.declared.op.Pid.{Pid}
use Rattle.obj_kinds.specs.declared.op.Op.{Op}
use Rattle.schema_kinds.specs.declared.class.Class.{Class}
use Rattle.schema_kinds.specs.Worlds.{Change}
use Rattle.storage_map.specs.SoundWorlds.{IsSound}
use Rattle.store_core.specs.Machine.{State}
use Rattle.store_calls.specs.Calls.{Tag}
use Rattle.object_runs.specs.ObjectMachine.{Desks, view}
use Rattle.object_runs.specs.Runs.{Both}
use Rattle.run_rules.specs.Steps.{IsFit, next}
use Rattle.run_rules.specs.Structure.{IsStructured}
use Rattle.run_rules.specs.Good.{Truth}

pub record Setting : Type 1 where
  pub classes : List Class
  -- what is to hold at the Commit of a change
  pub Facts : State → Desks → Pid → Change → Type 0
  pub truth : Truth
  -- what each entry that may come keeps; it tells that store and objects are in step, and that each view is sound
  pub Inv : Both → Type 0
  pub keeps : (b : Both) (p : Pid) (op : Op) (tag : Tag) → Inv b → IsFit classes Facts b p op tag → Inv (next b p op tag)
  pub has : (b : Both) → Inv b → IsStructured classes b.store b.objects
  pub sound : (b : Both) (p : Pid) → Inv b → IsSound classes (view b.objects p.0)
  -- whose call it is
  pub p : Pid
