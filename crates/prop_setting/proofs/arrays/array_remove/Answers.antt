use Rattle.std.proofs.Common.{◌≡◌, [], IsSome, IsTrue, None, Option, refl, subst, sym}
use Rattle.std.specs.FinMap.{find, is_sorted}
use Rattle.obj_kinds.specs.SubOrder.{sub_cmp}
use Rattle.oref_table.specs.Memory.{without_first}
use Rattle.oref_table.specs.Places.{has_key}
use Rattle.oref_table.specs.declared.slot.Slot.{Slot}
use Rattle.oref_table.specs.declared.slot.Slot.TheVariants.{Map}
use Rattle.prop_setting.specs.Elements.{slot_set}
use Rattle.prop_setting.specs.Arrays.{IsArrayAt}
use Rattle.prop_setting.proofs.ArrayLaws.{array-at, array-elements, takes-without}
use Rattle.prop_setting.proofs.arrays.array_remove.Goals as goal

pub pair_place-requires : goal.pair_place-requires
pair_place-requires c =
    let l = c.find_array-spot.ensures.spot in
    let each = array-elements c.args.array.now.schema.now c.args.table.now c.args.array.now.oref.0 c.find_array-spot.result.at c.find_array-spot.result.item.now l.0 c.requires.fits l.1 l.3 in
    subst (λ xs. IsTrue (is_sorted sub_cmp xs)) (sym (c.array_pairs-pairs.ensures l.0 l.1)) each.0

pub returns-in_default-clause-answer : goal.returns-in_default-clause-answer
returns-in_default-clause-answer c = λ at level i pairs h.
    let same = c.find_array-spot.ensures.same at level i pairs h in
    let here = subst (λ a. IsArrayAt c.args.table.now c.args.array.now.oref.0 a pairs) (sym same.0) (array-at c.args.array.now.schema.now c.args.table.now c.args.array.now.oref.0 c.args.array.now.prop.now at level i pairs h) in
    (subst (λ xs. find sub_cmp c.args.key xs ≡ None) (c.array_pairs-pairs.ensures pairs here) c.in_default.ensures.absent, refl)

pub take_pair-requires : goal.take_pair-requires
take_pair-requires c =
    let l = c.find_array-spot.ensures.spot in
    let each = array-elements c.args.array.now.schema.now c.args.table.now c.args.array.now.oref.0 c.find_array-spot.result.at c.find_array-spot.result.item.now l.0 c.requires.fits l.1 l.3 in
    (l.0, l.1, each.0, subst (λ xs. IsSome (find sub_cmp c.args.key xs)) (c.array_pairs-pairs.ensures l.0 l.1) (subst (λ (x : Option Slot). IsSome x) (sym c.in-Ok.ensures.found.2) refl))

pub returns-clause-answer : goal.returns-clause-answer
returns-clause-answer c = λ at level i pairs h.
    let same = c.find_array-spot.ensures.same at level i pairs h in
    let here = subst (λ a. IsArrayAt c.args.table.now c.args.array.now.oref.0 a pairs) (sym same.0) (array-at c.args.array.now.schema.now c.args.table.now c.args.array.now.oref.0 c.args.array.now.prop.now at level i pairs h) in
    let is = subst (λ a. c.take_pair.new.table ≡ slot_set c.args.table.now c.args.array.now.oref.0 a (Map (without_first (has_key c.args.key) pairs)) []) same.0 (c.take_pair.ensures.memory pairs here) in
    (subst (λ xs. IsSome (find sub_cmp c.args.key xs)) (c.array_pairs-pairs.ensures pairs here) (subst (λ (x : Option Slot). IsSome x) (sym c.in-Ok.ensures.found.2) refl), is)

pub returns-clause-fits : goal.returns-clause-fits
returns-clause-fits c =
    let l = c.find_array-spot.ensures.spot in
    let each = array-elements c.args.array.now.schema.now c.args.table.now c.args.array.now.oref.0 c.find_array-spot.result.at c.find_array-spot.result.item.now l.0 c.requires.fits l.1 l.3 in
    c.take_pair.ensures.fits c.args.array.now.schema.now l.0 l.1 (takes-without c.args.array.now.schema.now c.args.table.now c.args.array.now.oref.0 c.find_array-spot.result.at c.find_array-spot.result.item.now c.args.key l.0 l.3 each) c.requires.fits
