-- What processes have done of what they were to ask.
use Rattle.std.specs.Prelude.{◌≡◌, ◌≢◌, ℕ, true, suc, List, [], ◌∷◌, ◌++◌, map, All}
use Rattle.obj_kinds.specs.declared.op.Op.{Op}
use Rattle.obj_kinds.specs.declared.op.Op.TheVariants.{End}
use Rattle.obj_kinds.specs.Limits.{is_legal_op}
use Rattle.store_core.specs.declared.entry.Entry.{Entry}
use Rattle.store_core.specs.History.{part_of}
use Rattle.turn_queue.specs.declared.view.Part.{Part}
use Rattle.turn_trials.specs.declared.plan.Plan.{Plan}

abbrev pub asked : List Entry → List Op
asked es = map (λ (e : Entry). e.op) es

-- a turn may ask it: the end comes only once, and last
abbrev pub IsAskable : Op → Type 0
IsAskable op = (op ≢ End) × (is_legal_op op ≡ true)

abbrev pub AreAskable : List Op → Type 0
AreAskable ops = All IsAskable ops

abbrev pub AreAllAskable : List Plan → Type 0
AreAllAskable plans = All (λ (p : Plan). AreAskable p.ops.items) plans

-- these are the first of the operations, each once and in order, and then the end
abbrev pub HasRun : List Op → List Entry → Type 0
HasRun ops es = (done : List Op) × (later : List Op) × (ops ≡ done ++ later) × (asked es ≡ done ++ End ∷ [])

-- the processes from p on have run these plans
abbrev pub HaveRun : ℕ → List Plan → List Part → Type 0
HaveRun p [] [] = Unit {0}
HaveRun p [] (o ∷ os) = ⊥
HaveRun p (q ∷ qs) [] = ⊥
HaveRun p (q ∷ qs) (o ∷ os) = (o.pid.0 ≡ p) × HasRun q.ops.items o.entries × HaveRun (suc p) qs os

-- in the history the processes from p on have run these plans
abbrev pub AreRun : ℕ → List Plan → List Entry → Type 0
AreRun p [] es = Unit {0}
AreRun p (q ∷ qs) es = HasRun q.ops.items (part_of p es) × AreRun (suc p) qs es
