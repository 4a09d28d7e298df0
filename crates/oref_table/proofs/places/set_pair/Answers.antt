use Rattle.std.proofs.Common.{ap, sym, ◌∙◌, slice_set}
use Rattle.oref_table.proofs.SetLaws.{set-set}
use Rattle.oref_table.proofs.PlaceLaws.{at-any}
use Rattle.oref_table.proofs.places.set_pair.Goals as goal

pub returns-clause-pairs : goal.returns-clause-pairs
returns-clause-pairs c = λ d.
    c.set.ensures
    ∙ ap (λ ps. slice_set ps c.args.at (c.replace-key.result.0, c.args.slot)) c.replace-key.ensures.rest
    ∙ set-set c.args.pairs c.args.at _ (c.replace-key.result.0, c.args.slot)
    ∙ ap (λ p. slice_set c.args.pairs c.args.at (p.0, c.args.slot)) (sym (at-any c.args.pairs c.args.at c.replace-key.result d c.replace-key.ensures.item))

pub returns-clause-old : goal.returns-clause-old
returns-clause-old c = λ d. ap (λ p. p.1) (sym (at-any c.args.pairs c.args.at c.replace-key.result d c.replace-key.ensures.item))
