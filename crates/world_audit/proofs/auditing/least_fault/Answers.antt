use Rattle.std.proofs.Common.{ap, ◌∙◌}
use Rattle.world_audit.specs.Finds.{broken_of}
use Rattle.world_audit.specs.Least.{note_each}
use Rattle.world_audit.specs.Strays.{note_strays}
use Rattle.world_audit.proofs.AuditLaws.{judged_by}
use Rattle.world_audit.proofs.auditing.least_fault.Goals as goal

pub returns : goal.returns
returns c =
    let classes = c.args.on.now.schema.now in
    let nodes = c.args.on.now.nodes.now in
    let finds = c.args.finds.now.entries in
    judged_by classes nodes finds c.in_ok-marks.marks.items c.in_ok-firsts.firsts.entries c.note_all_broken.new.least c.mark_finds.new.least c.note_seconds.new.least c.note_untargeted.new.least c.note_strays.new.least c.note_lows.new.least c.into_node.result
    (record { rising = c.as_slice.ensures.rising; within = c.requires.within }) c.requires.finds c.in_ok-marks.ensures.marks c.in_ok-firsts.ensures
    (c.in_ok-note_all_broken.ensures ∙ ap (λ l. note_each broken_of l finds) c.new-least.ensures) c.in_ok-marks.ensures.least c.in_ok-note_seconds.ensures c.in_ok-note_untargeted.ensures
    (c.in_ok-note_strays.ensures ∙ (λ i. note_strays classes finds c.note_untargeted.new.least (c.as_slice.ensures.pairs i) (c.as_slice-2.ensures.value i))) c.in_ok-note_lows.ensures (c.into_node.ensures ∙ c.in_ok-note_counts.ensures)
