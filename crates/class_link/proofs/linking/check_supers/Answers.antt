use Rattle.class_link.specs.Passes.{super_reason}
use Rattle.class_link.proofs.FirstReason.{found-first, none-more}
use Rattle.class_link.proofs.Groups.{super-group, refused-is}
use Rattle.class_link.proofs.linking.check_supers.Goals as goal

pub returns-in-Some-clause-refused : goal.returns-in-Some-clause-refused
returns-in-Some-clause-refused c =
    refused-is c.args.trees.now c.in-Some.class c.in-Some.why c.refuse.result
    (found-first c.args.trees.now 2 (super_reason c.args.trees.now c.args.hierarchy.now) (super-group c.args.trees.now c.args.hierarchy.now c.requires.hierarchy) c.requires.before c.in-Some.class c.in-Some.why c.in-Some.ensures)
    c.refuse.ensures

pub returns-in-None-clause-none : goal.returns-in-None-clause-none
returns-in-None-clause-none c =
    none-more c.args.trees.now 2 (super_reason c.args.trees.now c.args.hierarchy.now) (super-group c.args.trees.now c.args.hierarchy.now c.requires.hierarchy) c.requires.before c.in-None.ensures
