use Rattle.std.proofs.Common.{◌≡◌, ◌+◌, filter_map, slice_get, ap, subst, sym, ◌∙◌, arith}
use Rattle.schema_kinds.specs.Links.{rank, row}
use Rattle.class_facts.specs.Trees.{members_with}
use Rattle.class_facts.specs.Gathered.{AreGatheredTo}
use Rattle.class_facts.proofs.Gathering.{gathered-set}
use Rattle.class_facts.proofs.members.gather_at.Goals as goal

pub returns-in_ok-members : goal.returns-in_ok-members
returns-in_ok-members c =
    let trees = c.args.trees.now in
    let at : rank c.args.hierarchy.now.above c.args.class ≡ c.args.rank = omega (arith, c.requires.here) in
    let members : c.in_ok-members.members ≡ members_with c.args.trees.now c.args.class (filter_map (slice_get c.args.done.now) (row c.args.hierarchy.now.links c.args.class)) =
    c.in_ok-members.ensures ∙ ap (λ d. members_with c.args.trees.now c.args.class (filter_map (slice_get d) c.supers_at.result.now)) c.as_slice.ensures
    ∙ ap (λ s. members_with c.args.trees.now c.args.class (filter_map (slice_get c.args.done.now) s)) c.supers_at.ensures in
    subst (AreGatheredTo c.args.trees.now c.args.hierarchy.now.above c.args.rank (c.args.class + 1)) (sym c.set.ensures)
    (gathered-set c.args.trees.now c.args.hierarchy.now c.requires.hierarchy c.requires.no_ring c.args.rank c.args.class c.args.done.now c.in_ok-members.members c.requires.class at c.requires.before members)
