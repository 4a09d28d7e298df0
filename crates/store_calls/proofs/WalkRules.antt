-- The plan of a walk keeps its promise.
use Rattle.std.proofs.Common.{◌≡◌, ℕ, zero, suc, ◌<◌, ◌≤◌, Bool, true, List, [], ◌∷◌, length, refl, sym, ap, ◌∙◌, arith}
use Rattle.obj_kinds.specs.declared.node.Node.{Node}
use Rattle.obj_kinds.specs.declared.sub.Sub.{Sub}
use Rattle.obj_kinds.specs.declared.value.Value.{Value}
use Rattle.obj_kinds.specs.declared.op.Reply.{Reply}
use Rattle.obj_kinds.specs.declared.op.Reply.TheVariants.{Next}
use Rattle.store_calls.specs.Calls.{Call, Tag, Tried, Got, Lost, then, then_on, Round, Again, Ends, round, turns, Turn, Awaits, Gives, Breaks, run, go_on}
use Rattle.store_calls.specs.Plans.{IsAfter, SaysNext, TakesReplies}
use Rattle.store_calls.specs.Walks.{Elements, Walk, on_element, element, on_key, walk_turn, walk}
use Rattle.store_calls.specs.WalkPlan.{WalkPhase, AtKey, AtElement, Walked, walk_to_come, walk_says, by_round, by_key, walk_takes, is_walking}
use Rattle.store_calls.proofs.TurnRules.{run_bind, run_leaves, turns_enough}

-- what follows a turn, with bounds that are large enough
round_enough : {S A : Type 0} (body : S → Call (Tried (Round S A))) → TakesReplies body → (c : Call (Tried (Round S A))) (m n : ℕ) (rs : List Reply)
    → ((s : S) (rest : List Reply) → run c rs ≡ Gives (Got (Again s)) rest → (length rest < m) × (length rest < n))
    → run (then c (round (turns m body))) rs ≡ run (then c (round (turns n body))) rs
round_enough {S} {A} body takes c m n rs h =
    run_bind c (then_on (round (turns m body))) rs ∙ by (run c rs) refl ∙ sym (run_bind c (then_on (round (turns n body))) rs)
  where
    by : (x : Turn (Tried (Round S A))) → run c rs ≡ x → go_on (then_on (round (turns m body))) (run c rs) ≡ go_on (then_on (round (turns n body))) (run c rs)
    by (Awaits op tag) e = rw e refl
    by Breaks e = rw e refl
    by (Gives (Got (Again s)) rest) e = rw e (let g = h s rest e in turns_enough body takes m n s rest g.0 g.1)
    by (Gives (Got (Ends a)) rest) e = rw e refl
    by (Gives (Lost x) rest) e = rw e refl

module _ (n : Node) (tag : Tag) (is_form : Node → Value → Bool) where
  turn_takes : TakesReplies (walk_turn n tag is_form)
  turn_takes w w' [] rest e = absurd (cc e)
  turn_takes w w' (r ∷ rs) rest e = by r e
    where
      by : (r : Reply) → run (on_key n tag is_form w.found r) rs ≡ Gives (Got (Again w')) rest → length rest < length (r ∷ rs)
      by (Next k) e = let g = run_leaves (element n tag is_form w.found k) rs rest (Got (Again w')) e in omega arith
      by r e = absurd (cc e)

  pub walk_after : (ph : WalkPhase) (r : Reply) → is_walking ph ≡ true → IsAfter r (walk_to_come n tag is_form ph) (walk_to_come n tag is_form (walk_takes n tag is_form ph r))
  unfolding walk
  walk_after (AtKey w) r h zero rs le = absurd (omega arith)
  walk_after (AtKey w) r h (suc m) rs le = by r
    where
      long : (rs : List Reply) → length rs ≤ m → (k : Sub) (s : Walk) (rest : List Reply) → run (element n tag is_form w.found k) rs ≡ Gives (Got (Again s)) rest → length rest < m
      long [] le k s rest e = absurd (cc e)
      long (q ∷ qs) le k s rest e = let same : qs ≡ rest = cc in let l = ap length same in omega arith

      by : (r : Reply) → run (walk_to_come n tag is_form (by_key n tag is_form w.found r) (suc m)) rs ≡ run (then (on_key n tag is_form w.found r) (round (turns m (walk_turn n tag is_form)))) rs
      by (Next k) = round_enough (walk_turn n tag is_form) turn_takes (element n tag is_form w.found k) (suc m) m rs (λ s rest e. let g = long rs (omega arith) k s rest e in (omega arith, g))
      by r = refl
  walk_after (AtElement found k) r h most rs le = by (on_element n tag is_form found k r)
    where
      by : (x : Tried (Round Walk Elements)) → run (walk_to_come n tag is_form (by_round n tag is_form x) most) rs ≡ run (then_on (round (walk n tag is_form most)) x) rs
      by (Got (Again w)) = refl
      by (Got (Ends a)) = refl
      by (Lost x) = refl
  walk_after (Walked a) r h most rs le = absurd (cc h)

  pub walk_says_next : (ph : WalkPhase) → SaysNext (walk_says n tag is_form ph) (walk_to_come n tag is_form ph)
  unfolding walk
  walk_says_next (AtKey w) most = (tag, refl)
  walk_says_next (AtElement found k) most = (tag, refl)
  walk_says_next (Walked a) most = refl
