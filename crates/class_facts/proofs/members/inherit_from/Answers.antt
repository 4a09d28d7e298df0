use Rattle.std.proofs.Common.{ap, sym, ◌∙◌, ◌++◌, subst}
use Rattle.class_facts.specs.Spots.{add_spots, HaveSameNames}
use Rattle.class_facts.proofs.SpotLists.{fresh-same, names-more}
use Rattle.class_facts.proofs.members.inherit_from.Goals as goal

pub returns-clause-gathered : goal.returns-clause-gathered
returns-clause-gathered c = c.in_ok-push_fresh.ensures ∙ ap (λ l. c.args.pairs.now ++ l) (fresh-same c.args.names.now c.args.pairs.now c.args.more.now c.requires)

pub returns-clause-named : goal.returns-clause-named
returns-clause-named c =
    subst (λ spots. HaveSameNames spots c.push_fresh.new.pairs) (sym c.in_ok-add_pairs.ensures)
    (subst (HaveSameNames (add_spots c.args.names.now c.args.more.now))
    (sym (c.in_ok-push_fresh.ensures ∙ ap (λ l. c.args.pairs.now ++ l) (fresh-same c.args.names.now c.args.pairs.now c.args.more.now c.requires)))
    (names-more c.args.names.now c.args.pairs.now c.args.more.now c.requires))
