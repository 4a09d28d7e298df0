-- What is asked of the memory of a process in a state of the run: it is good, and names no keys but those that the process knows.
use Rattle.std.specs.Prelude.{List}
use Rattle.obj_kinds.specs.declared.op.Pid.{Pid}
use Rattle.schema_kinds.specs.declared.class.Class.{Class}
use Rattle.oref_table.specs.Memory.{Memory}
use Rattle.object_runs.specs.Runs.{Both}
use Rattle.known_objects.specs.Classed.{Classed}
use Rattle.known_keys.specs.Knowledge.{IsKnowledge}
use Rattle.quiet_members.specs.Quiet.{IsFine}

pub record IsMemory (classes : List Class) (p : Pid) (m : Memory) (b : Both) : Type 0 where
  pub known : Classed
  pub fine : IsFine classes known m
  pub knowledge : IsKnowledge classes p known b
