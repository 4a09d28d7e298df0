use Rattle.std.proofs.Common.{◌∙◌, ap, sym, refl}
use Rattle.read_plan.specs.Reads.{tried_of}
use Rattle.load_plan.specs.Loads.{load_of, read_ends, to_come_within}
use Rattle.load_plan.proofs.LoadLaws.{kept, given_back}
use Rattle.load_plan.proofs.taking.read_ends.Goals as goal

pub returns-then-is_kept : goal.returns-then-is_kept
unfolding to_come_within
returns-then-is_kept c = record {
  left = λ classes most.
      kept classes (load_of c.args.call.now) most c.in-Some.mode (tried_of c.args.outcome) (tried_of c.answer-answer.result) c.keeps_lock-is_kept.result
      (c.keeps_lock-is_kept.ensures classes 0 most) (c.answer-answer.ensures classes 0 most) c.if-is_kept.true
      ∙ ap (λ lock. read_ends classes (load_of c.args.call.now) 0 most lock (tried_of c.args.outcome)) (sym c.in-Some.is);
  ended = refl;
  told = refl;
}

pub returns-else-is_kept : goal.returns-else-is_kept
unfolding to_come_within
returns-else-is_kept c = record {
  left = λ classes most.
      given_back classes (load_of c.args.call.now) most c.in-Some.mode (tried_of c.args.outcome) (tried_of c.answer-answer.result) c.keeps_lock-is_kept.result
      (c.keeps_lock-is_kept.ensures classes 0 most) (c.answer-answer.ensures classes 0 most) c.if-is_kept.false
      ∙ ap (λ lock. read_ends classes (load_of c.args.call.now) 0 most lock (tried_of c.args.outcome)) (sym c.in-Some.is);
  ended = refl;
  told = refl;
}
