use Rattle.std.proofs.Common.{◌∙◌}
use Rattle.class_facts.specs.Facts.{seen}
use Rattle.class_link.proofs.Preparing.{extent-right}
use Rattle.class_link.proofs.linking.prepared_reason.Goals as goal

pub late_reason_of-requires-clause-extent : goal.late_reason_of-requires-clause-extent
late_reason_of-requires-clause-extent c =
    let f = seen c.args.hierarchy.now c.args.tables.now in
    let there = c.in-Some.ensures ∙ extent-right c.args.trees.now f c.requires.facts c.args.prepared.now.extents c.args.class c.requires.prepared.extents c.requires.class in
    cc

pub late_reason_of-requires-in-None-clause-extent : goal.late_reason_of-requires-in-None-clause-extent
late_reason_of-requires-in-None-clause-extent c =
    let f = seen c.args.hierarchy.now c.args.tables.now in
    let there = c.in-None.ensures ∙ extent-right c.args.trees.now f c.requires.facts c.args.prepared.now.extents c.args.class c.requires.prepared.extents c.requires.class in
    cc
