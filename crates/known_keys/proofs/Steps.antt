-- What a process knows stays known by what the others ask and by the plain operations of its script.
use Rattle.std.proofs.Common.{◌≡◌, ◌≢◌, inr, true, List, [], ◌∷◌, sym}
use Rattle.obj_kinds.specs.declared.op.Pid.{Pid}
use Rattle.obj_kinds.specs.declared.op.Op.{Op}
use Rattle.obj_kinds.specs.declared.op.Op.TheVariants.{End}
use Rattle.schema_kinds.specs.declared.class.Class.{Class}
use Rattle.schema_kinds.specs.Worlds.{Change}
use Rattle.store_core.specs.Machine.{is_live}
use Rattle.store_calls.specs.Calls.{Tag, Plain, Closes}
use Rattle.object_runs.specs.Runs.{Both}
use Rattle.run_rules.specs.Steps.{WritesNone, IsFit, Event, next, step_by}
use Rattle.sound_runs.specs.Closing.{IsSafeChange}
use Rattle.sound_runs.proofs.Laws.{knowledge_stays}
use Rattle.steady_runs.specs.Steady.{IsSteady}
use Rattle.steady_runs.proofs.Keeping.{orderly}
use Rattle.good_calls.specs.Laws.{IsAtRest}
use Rattle.good_saves.specs.Laws.{KnowsAll}
use Rattle.known_objects.specs.Classed.{Classed}
use Rattle.known_keys.specs.Laws.{OthersKeepKnowledge, PlainKeepsKnowledge}

module _ (classes : List Class) (p : Pid) where
  -- a commit of the process itself puts no key of these
  abbrev Spares : Pid → Tag → Type 0
  Spares q tag = p.0 ≡ q.0 → (change : Change) → tag ≡ Closes change → ⊥

  all_known : (b : Both) (q : Pid) (op : Op) (tag : Tag) → IsSteady classes b → IsFit classes (IsSafeChange classes) b q op tag → Spares q tag
      → (known : Classed) → KnowsAll classes p known b → KnowsAll classes p known (next b q op tag)
  all_known b q op tag steady fit spares [] h = h
  all_known b q op tag steady fit spares (k ∷ known) h = (
    knowledge_stays classes b.store b.objects q op tag p.0 k.0 k.1 steady.invariant steady.backed (orderly classes b q op tag steady fit) h.0 (λ is change r e put. absurd (spares is change e)),
    all_known b q op tag steady fit spares known h.1,
  )

  not_closing : (change : Change) → Plain ≡ Closes change → ⊥
  not_closing change e = absurd (cc e)

  by_others : (b : Both) (e : Event) (known : Classed) → e.pid.0 ≢ p.0 → IsAtRest classes p b → IsFit classes (IsSafeChange classes) b e.pid e.op e.tag → KnowsAll classes p known b → KnowsAll classes p known (step_by b e)
  by_others b e known ne rest fit h = all_known b e.pid e.op e.tag rest.steady fit (λ is change c. ne (sym is)) known h

  by_plain : (b : Both) (op : Op) (known : Classed) → IsAtRest classes p b → is_live b.store p ≡ true → WritesNone classes op → op ≢ End → KnowsAll classes p known b → KnowsAll classes p known (next b p op Plain)
  by_plain b op known rest live free no_end h = all_known b p op Plain rest.steady (live, inr (rest.idle, free, no_end)) (λ is change c. not_closing change c) known h

pub others_keep_knowledge : OthersKeepKnowledge
others_keep_knowledge classes p known b e ne rest fit h = record { keys = h.keys; agrees = h.agrees; knows = by_others classes p b e known ne rest fit h.knows }

pub plain_keeps_knowledge : PlainKeepsKnowledge
plain_keeps_knowledge classes p known b op rest live free no_end h = record { keys = h.keys; agrees = h.agrees; knows = by_plain classes p b op known rest live free no_end h.knows }
