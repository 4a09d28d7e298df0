use Rattle.std.proofs.Common.{[], ap, sym, ◌∙◌}
use Rattle.schema_kinds.specs.Hierarchy.{names_of}
use Rattle.class_facts.specs.Trees.{tree_names}
use Rattle.class_link.specs.declared.error.LinkWhy.TheVariants.{RepeatedClass}
use Rattle.class_link.specs.Passes.{name_reason, first_repeated}
use Rattle.class_link.proofs.FirstReason.{found-first, none-more, none-first}
use Rattle.class_link.proofs.Groups.{name-group, names-first, names-none, refused-is}
use Rattle.class_link.proofs.linking.check_names.Goals as goal

pub returns-in-Some-clause-refused : goal.returns-in-Some-clause-refused
returns-in-Some-clause-refused c =
    refused-is c.args.trees.now c.in-Some.class RepeatedClass c.refuse.result
    (found-first c.args.trees.now 1 (name_reason (tree_names c.args.trees.now)) (name-group c.args.trees.now) (none-first c.args.trees.now) c.in-Some.class RepeatedClass
    (names-first c.args.trees.now c.in-Some.class (sym c.in-Some.is ∙ c.in_ok-names.ensures.first ∙ ap (λ hs. first_repeated 0 [] (names_of hs)) c.in_ok-headers.ensures)))
    c.refuse.ensures

pub returns-clause-none : goal.returns-clause-none
returns-clause-none c =
    none-more c.args.trees.now 1 (name_reason (tree_names c.args.trees.now)) (name-group c.args.trees.now) (none-first c.args.trees.now)
    (names-none c.args.trees.now (sym c.in-None.is ∙ c.in_ok-names.ensures.first ∙ ap (λ hs. first_repeated 0 [] (names_of hs)) c.in_ok-headers.ensures))
