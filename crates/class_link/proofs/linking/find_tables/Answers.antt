use Rattle.std.proofs.Common.{map, slice_get, ap, ◌∙◌}
use Rattle.class_facts.specs.Trees.{sort_above, supers_of}
use Rattle.class_facts.proofs.FactLemmas.{seen-facts}
use Rattle.class_link.proofs.Groups.{no-ring}
use Rattle.class_link.proofs.linking.find_tables.Goals as goal

pub gather_all-requires-clause-no_ring : goal.gather_all-requires-clause-no_ring
gather_all-requires-clause-no_ring c = no-ring c.args.trees.now c.requires.before

pub returns : goal.returns
returns c =
    seen-facts c.args.trees.now c.args.hierarchy.now (record { sorts = c.in_ok-sorts.sorts; tops = c.in_ok-tops.tops; members = c.in_ok-members.members }) c.requires.hierarchy
    c.in_ok-tops.ensures
    (c.in_ok-sorts.ensures ∙ ap (map (λ i. sort_above (supers_of (slice_get c.args.trees.now i)))) c.as_slice.ensures)
    c.in_ok-members.ensures
