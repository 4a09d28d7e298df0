use Rattle.std.proofs.Common.{ap, option_to_list, slice_get, ◌∙◌}
use Rattle.method_table.specs.Places.{put_last, put_all}
use Rattle.method_table.proofs.Tables.{fold_turn}
use Rattle.method_table.proofs.table.PlaceTable.put_all.Goals as goal

pub loop-at-preserved : goal.loop-at-preserved
loop-at-preserved c =
    c.in_ok-put_from.ensures ∙ ap (λ s. put_all s (option_to_list (slice_get c.args.other.now c.loop-at.at))) c.loop-at.invariant
    ∙ fold_turn put_last c.args.self.now c.args.other.now c.loop-at.at
