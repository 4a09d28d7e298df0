-- What a process knows of keys: each with one class, and known in a state of the run.
use Rattle.std.specs.Prelude.{◌≡◌, List}
use Rattle.obj_kinds.specs.declared.name.ClassName.{ClassName}
use Rattle.obj_kinds.specs.declared.op.Pid.{Pid}
use Rattle.schema_kinds.specs.declared.class.Class.{Class}
use Rattle.schema_kinds.specs.declared.key.Key.{Key}
use Rattle.storage_map.specs.Worlds.{IsKeyOf}
use Rattle.object_runs.specs.Causes.{Each, Has}
use Rattle.object_runs.specs.Runs.{Both}
use Rattle.sound_runs.specs.Backed.{Knows}
use Rattle.sound_runs.specs.Closing.{IsDrawn}
use Rattle.steady_runs.specs.Steady.{IsSteady}
use Rattle.good_saves.specs.Laws.{KnowsAll}
use Rattle.known_objects.specs.Classed.{Classed}

-- no key stands with two classes
abbrev pub AgreesWithItself : Classed → Type 0
AgreesWithItself known = (key : Key) (c d : ClassName) → Has (key, c) known → Has (key, d) known → c ≡ d

-- each key is one of the schema, with one class, and the process knows it in this state
pub record IsKnowledge (classes : List Class) (p : Pid) (known : Classed) (b : Both) : Type 0 where
  pub keys : Each (λ (k : Key × ClassName). IsKeyOf classes k.0) known
  pub agrees : AgreesWithItself known
  pub knows : KnowsAll classes p known b

-- One key is known with its class, and the process's own save in progress doesn't draw it. Outside of saves that is no more than that it is
-- known.
pub record IsHeldKnown (classes : List Class) (p : Pid) (key : Key) (class : ClassName) (b : Both) : Type 0 where
  pub steady : IsSteady classes b
  pub knows : Knows classes b.store b.objects p.0 key class
  pub undrawn : IsDrawn b.objects p.0 key → ⊥
