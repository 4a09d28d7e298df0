-- Calls of which each operation may come whatever the other processes do meanwhile, and each telling is true.
use Rattle.std.specs.Prelude.{◌≡◌, ◌≢◌, ℕ, true, List, [], ◌∷◌}
use Rattle.obj_kinds.specs.declared.op.Pid.{Pid}
use Rattle.schema_kinds.specs.declared.class.Class.{Class}
use Rattle.schema_kinds.specs.Worlds.{Change}
use Rattle.store_core.specs.Machine.{State, is_live, reply}
use Rattle.store_calls.specs.Calls.{Call, Give, Ask, Tell, Cut, Told}
use Rattle.object_runs.specs.ObjectMachine.{Desks, Own, desk_at}
use Rattle.object_runs.specs.Runs.{Both}
use Rattle.run_rules.specs.Steps.{MayCome, Event, next, after_all, AreFit}

-- whether what is told is true, by what the process asked, the newest first
abbrev pub Truth : Type 1
Truth = List Own → Told → Type 0

abbrev pub AreOthers : Pid → List Event → Type 0
AreOthers p [] = Unit {0}
AreOthers p (e ∷ es) = (e.pid.0 ≢ p.0) × AreOthers p es

-- Each operation of the call may come when it is asked, each telling is true, and what is answered in the end is as stated. Others ask
-- what may come in between, as long as the process is live; what is cut claims nothing.
module _ (classes : List Class) (Facts : State → Desks → Pid → Change → Type 0) (truth : Truth) (p : Pid) where
  abbrev pub Meets : {A : Type 0} → Call A → (A → Both → Type 0) → Both → Type 0
  Meets (Give a) post b = post a b
  Meets Cut post b = Unit {0}
  Meets (Tell x c) post b = truth (desk_at b.objects p.0).own x × Meets c post b
  Meets (Ask op tag k) post b =
      (es : List Event) → AreOthers p es → AreFit classes Facts b es → is_live (after_all b es).store p ≡ true
      → MayCome classes Facts (after_all b es).store (after_all b es).objects p op tag
      × Meets (k (reply (after_all b es).store p op)) post (next (after_all b es) p op tag)

  -- whatever it answers
  abbrev pub IsGood : {A : Type 0} → Call A → Both → Type 0
  IsGood c b = Meets c (λ a b. Unit {0}) b
