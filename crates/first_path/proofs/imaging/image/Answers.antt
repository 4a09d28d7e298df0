use Rattle.std.proofs.Common.{◌≡◌, ◌∙◌, ap, subst}
use Rattle.std.specs.FinMap.{entries}
use Rattle.std.proofs.lemmas.Result.{IfOk-equal}
use Rattle.first_path.specs.Image.{rows_from, counter_of}
use Rattle.first_path.specs.Sets.{after_sets}
use Rattle.first_path.proofs.ImageLaws.{made_image, pinned_none, listed}
use Rattle.first_path.proofs.imaging.image.Goals as goal

pub set_counter-requires : goal.set_counter-requires
set_counter-requires c = pinned_none c.new-tree.result.pins c.new-tree.ensures.pins

pub returns : goal.returns
returns c =
    let class = c.args.class.now.0 in
    let saved = c.args.saved.now in
    let made = c.in_ok-set_rows.ensures ∙ ap (λ g. after_sets g (rows_from class 1 saved)) (c.in_ok-set_counter.ensures.globals ∙ ap (λ g. after_sets g (counter_of class saved)) c.new-tree.ensures.values) ∙ made_image class saved in
    listed c.nodes.result made c.nodes.ensures
