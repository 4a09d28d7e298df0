use Rattle.std.proofs.Common.{length, subst, sym}
use Rattle.class_facts.specs.Facts.{Facts, seen}
use Rattle.class_link.specs.Refusal.{late_reason}
use Rattle.class_link.specs.Passes.{IsFirstOf}
use Rattle.class_link.proofs.FirstReason.{IsGroup, found-first, none-more, late-group}
use Rattle.class_link.proofs.Groups.{refused-is}
use Rattle.class_link.proofs.linking.check_rest.Goals as goal

pub returns-in-Some-clause-refused : goal.returns-in-Some-clause-refused
returns-in-Some-clause-refused c =
    let group = subst (λ (f : Facts). IsGroup c.args.trees.now 4 (late_reason c.args.trees.now f)) (sym c.requires.facts) (late-group c.args.trees.now) in
    refused-is c.args.trees.now c.in-Some.class c.in-Some.why c.refuse.result
    (found-first c.args.trees.now 4 (late_reason c.args.trees.now (seen c.args.hierarchy.now c.args.tables.now)) group c.requires.before c.in-Some.class c.in-Some.why
    (subst (IsFirstOf (late_reason c.args.trees.now (seen c.args.hierarchy.now c.args.tables.now)) (length c.args.trees.now)) c.in-Some.is c.in_ok-class.ensures))
    c.refuse.ensures

pub returns-clause-none : goal.returns-clause-none
returns-clause-none c =
    let group = subst (λ (f : Facts). IsGroup c.args.trees.now 4 (late_reason c.args.trees.now f)) (sym c.requires.facts) (late-group c.args.trees.now) in
    none-more c.args.trees.now 4 (late_reason c.args.trees.now (seen c.args.hierarchy.now c.args.tables.now)) group c.requires.before
    (subst (IsFirstOf (late_reason c.args.trees.now (seen c.args.hierarchy.now c.args.tables.now)) (length c.args.trees.now)) c.in-None.is c.in_ok-class.ensures)
