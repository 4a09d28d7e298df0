-- What a pass has still to ask.
use Rattle.std.specs.Prelude.{◌≡◌, ◌-◌, ℕ, List, drop, Option, None, Some}
use Rattle.obj_kinds.specs.declared.op.Op.{Op}
use Rattle.obj_kinds.specs.declared.op.Reply.{Reply}
use Rattle.obj_kinds.specs.declared.cause.Cause.{Cause}
use Rattle.schema_kinds.specs.declared.class.Class.{Class}
use Rattle.schema_kinds.specs.declared.key.Key.{Key}
use Rattle.store_calls.specs.Calls.{Give, Inside, Lost, then, all, answered, step, Asks}
use Rattle.object_calls.specs.Asking.{Does, done}
use Rattle.object_calls.specs.Saves.{Work}
use Rattle.asking_plan.specs.Asked.{asks, is_asking as is_list_asking, to_come as list_to_come}
use Rattle.save_passes.specs.declared.asking.Stage.{Stage}
use Rattle.save_passes.specs.declared.pass.Pass.{Pass}
use Rattle.save_passes.specs.declared.works.Works.{Works}
use Rattle.save_passes.specs.Works.{works_of, askings_of}

-- what is asked for the objects of a save
pub record Asked : Type 0 where
  pub classes : List Class
  pub put : List Key
  pub works : List Work
  pub each : ℕ

abbrev pub asked_of : Works → Asked
asked_of w = record { classes = w.schema.now; put = w.put.now.keys; works = works_of w.items.now w.olds.now; each = w.tries - 1 }

-- all that is asked at a stage for an object
abbrev pub asks_at : Asked → Stage → Work → Does
asks_at a s w = all (asks a.classes a.each) (askings_of a.classes a.put s w)

-- for all of them
abbrev pub asks_all : Asked → Stage → Does
asks_all a s = all (asks_at a s) a.works

-- the list of one object, and then those of the objects behind it
unfoldable pub to_come : Asked → Pass → Does
to_come a p = then (list_to_come a.classes p.asking) (λ _. all (asks_at a p.stage) (drop p.at a.works))

abbrev pub is_asking : Pass → Type 0
is_asking p = is_list_asking p.asking

-- what is asked next; nothing where all was asked
abbrev pub Says : Asked → Option Op → Pass → Pass → Type 0
Says a None before now = to_come a before ≡ done
Says a (Some op) before now = is_asking now × (to_come a now ≡ to_come a before) × (step (to_come a before) ≡ Asks op Inside)

-- the pass is behind the other by the reply, or has failed by it
abbrev pub IsTaken : Asked → Reply → Pass → Pass → Option Cause → Type 0
IsTaken a r before now None = answered (to_come a before) r ≡ to_come a now
IsTaken a r before now (Some x) = answered (to_come a before) r ≡ Give (Lost x)
