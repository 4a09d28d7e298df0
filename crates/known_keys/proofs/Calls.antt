-- Calls that come to rest again leave all that was known, key after key.
use Rattle.std.proofs.Common.{◌≡◌, List, [], ◌∷◌, Option, None, subst}
use Rattle.obj_kinds.specs.declared.op.Pid.{Pid}
use Rattle.schema_kinds.specs.declared.class.Class.{Class}
use Rattle.schema_kinds.specs.declared.key.Key.{Key}
use Rattle.store_core.specs.Machine.{reply}
use Rattle.store_calls.specs.Calls.{Call, Give, Ask, Tell, Cut}
use Rattle.object_runs.specs.ObjectMachine.{Own, Within, desk_at}
use Rattle.object_runs.specs.Causes.{Has}
use Rattle.object_runs.specs.Runs.{Both}
use Rattle.run_rules.specs.Steps.{next, after_all}
use Rattle.run_rules.specs.Good.{Truth, Meets}
use Rattle.sound_runs.specs.Closing.{entries_within, Draws, IsDrawn, IsSafeChange}
use Rattle.sound_runs.specs.Pairs.{ArePaired}
use Rattle.good_calls.specs.Laws.{ShowsLoads, IsAtRest}
use Rattle.good_saves.specs.Laws.{KnowsAll}
use Rattle.known_objects.specs.Classed.{Classed}
use Rattle.known_keys.specs.Knowledge.{IsKnowledge, IsHeldKnown}
use Rattle.known_keys.specs.Laws.{CallsKeepKnowledge}
use Rattle.known_keys.proofs.OneKept.{known_is_kept}

-- a process that is within no save draws nothing
none_drawn : (b : Both) (p : Pid) (key : Key) → (desk_at b.objects p.0).within ≡ None → IsDrawn b.objects p.0 key → ⊥
none_drawn b p key idle d = by (subst (λ (w : Option Within). (e : Own) × Has e (entries_within w (desk_at b.objects p.0).own) × Draws key e) idle d)
  where
    by : ((e : Own) × Has e [] × Draws key e) → ⊥
    by h = h.1

module _ (classes : List Class) (truth : Truth) (p : Pid) where
  -- what is answered may be weakened
  weaker : {A : Type 0} (c : Call A) (mid post : A → Both → Type 0) (b : Both) → ((a : A) (b : Both) → mid a b → post a b)
      → Meets classes (IsSafeChange classes) truth p c mid b → Meets classes (IsSafeChange classes) truth p c post b
  weaker (Give a) mid post b to m = to a b m
  weaker Cut mid post b to m = tt
  weaker (Tell x c) mid post b to m = (m.0, weaker c mid post b to m.1)
  weaker (Ask op tag k) mid post b to m = λ es others fit live.
      let h = m es others fit live in
      (h.0, weaker (k (reply (after_all b es).store p op)) mid post (next (after_all b es) p op tag) to h.1)

module _ (classes : List Class) (truth : Truth) (p : Pid) (paired : ArePaired classes) where
  all_kept : {A : Type 0} (c : Call A) (post : A → Both → Type 0) (b : Both) (known : Classed) → IsAtRest classes p b → KnowsAll classes p known b
      → Meets classes (IsSafeChange classes) truth p c post b → Meets classes (IsSafeChange classes) truth p c (λ a b. post a b × KnowsAll classes p known b) b
  all_kept c post b [] rest h m = weaker classes truth p c post (λ a b. post a b × KnowsAll classes p [] b) b (λ a b g. (g, tt)) m
  all_kept {A} c post b (k ∷ known) rest h m =
      let held : IsHeldKnown classes p k.0 k.1 b = record { steady = rest.steady; knows = h.0; undrawn = none_drawn b p k.0 rest.idle } in
      let more = known_is_kept classes truth p k.0 k.1 A c (λ a b. post a b × KnowsAll classes p known b) b paired held (all_kept c post b known rest h.1 m) in
      weaker classes truth p c (λ a b. (post a b × KnowsAll classes p known b) × IsHeldKnown classes p k.0 k.1 b) (λ a b. post a b × KnowsAll classes p (k ∷ known) b) b (λ a b g. (g.0.0, (g.1.knows, g.0.1))) more

pub calls_keep_knowledge : CallsKeepKnowledge
calls_keep_knowledge classes p known A c b paired rests rest h =
    weaker classes ShowsLoads p c (λ (a : A) b. IsAtRest classes p b × KnowsAll classes p known b) (λ (a : A) b. IsAtRest classes p b × IsKnowledge classes p known b) b
    (λ a b g. (g.0, record { keys = h.keys; agrees = h.agrees; knows = g.1 }))
    (all_kept classes ShowsLoads p paired c (λ (a : A) b. IsAtRest classes p b) b known rest h.knows (rests b rest))
