use Rattle.std.proofs.Common.{List, Some, ap, ◌∙◌, slice_set}
use Rattle.oref_table.specs.declared.slot.Slot.{Slot}
use Rattle.oref_table.specs.declared.slot.Slot.TheVariants.{Items}
use Rattle.oref_table.proofs.SetLaws.{set-set, set-same}
use Rattle.oref_table.proofs.items.insert_into.Goals as goal

pub returns-in-Items-clause-added : goal.returns-in-Items-clause-added
returns-in-Items-clause-added c = λ e. (
  c.in-Items.items,
  c.replace.ensures.item ∙ ap Some c.in-Items.is,
  c.set.ensures
      ∙ ap (λ (xs : List Slot). slice_set xs c.args.at (Items c.with_item-items.result.0)) c.replace.ensures.rest
      ∙ set-set c.args.slots.now c.args.at _ (Items c.with_item-items.result.0)
      ∙ ap (λ (xs : List Slot). slice_set c.args.slots.now c.args.at (Items xs)) (c.with_item-items.ensures.added e),
)

pub returns-in-Items-clause-refused : goal.returns-in-Items-clause-refused
returns-in-Items-clause-refused c = λ back e. (
  (c.with_item-items.ensures.refused back e).0,
  c.set.ensures
      ∙ ap (λ (xs : List Slot). slice_set xs c.args.at (Items c.with_item-items.result.0)) c.replace.ensures.rest
      ∙ set-set c.args.slots.now c.args.at _ (Items c.with_item-items.result.0)
      ∙ ap (λ (xs : List Slot). slice_set c.args.slots.now c.args.at (Items xs)) (c.with_item-items.ensures.refused back e).1
      ∙ set-same c.args.slots.now c.args.at (Items c.in-Items.items) (c.replace.ensures.item ∙ ap Some c.in-Items.is),
)
