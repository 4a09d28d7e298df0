use Rattle.std.proofs.Common.{◌≡◌, ◌+◌, length, slice_get, Some, ap, ◌∙◌, arith}
use Rattle.schema_kinds.specs.Links.{rank}
use Rattle.class_facts.proofs.FactLemmas.{get-count}
use Rattle.class_facts.proofs.members.rank_at.Goals as goal

pub returns-in-Some : goal.returns-in-Some
returns-in-Some c =
    let zero_more : 0 + c.args.class ≡ c.args.class = omega arith in
    let found = c.in-Some.ensures.value ∙ ap (λ l. slice_get l c.args.class) c.requires.ranks
    ∙ get-count (λ i. rank c.args.hierarchy.now.above i) 0 (length c.args.trees.now) c.args.class c.requires.class
    ∙ ap (λ i. Some (rank c.args.hierarchy.now.above i)) zero_more in
    cc
