use Rattle.std.proofs.Common.{◌≡◌, ◌∙◌, ap}
use Rattle.first_path.specs.Image.{row_of}
use Rattle.first_path.proofs.ImageLaws.{pinned_by, row_set}
use Rattle.first_path.proofs.imaging.set_rows.Goals as goal

pub loop-index-preserved : goal.loop-index-preserved
loop-index-preserved c =
    let row = c.in_ok-row_value.ensures ∙ ap row_of c.as_slice.ensures in
    record {
      rows = row_set c.args.class.now.0 c.loop-index.index c.args.saved.now c.index-saved-index.result c.loop-index.tree.globals c.set.new.self.globals _ _ c.loop-index-test.true c.index-saved-index.is c.in_ok-row.ensures row c.in_ok-set.ensures.values
          ∙ c.loop-index.invariant.rows;
      pins = pinned_by c.loop-index.tree.pins c.set.new.self.pins _ _ c.in_ok-set.ensures.pins c.loop-index.invariant.pins;
    }
