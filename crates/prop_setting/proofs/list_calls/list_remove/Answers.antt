use Rattle.std.proofs.Common.{◌≡◌, ◌<◌, [], refl, subst, sym, w64}
use Rattle.std.proofs.lemmas.Int.{to_z-of_z}
use Rattle.std.specs.List.{remove}
use Rattle.oref_table.specs.declared.slot.Slot.TheVariants.{Items}
use Rattle.prop_setting.specs.Elements.{slot_set}
use Rattle.prop_setting.specs.Lists.{IsAt, IsListAt, IsNowhere}
use Rattle.prop_setting.proofs.ListLaws.{list-at, list-elements, takes-remove}
use Rattle.prop_setting.proofs.list_calls.list_remove.Goals as goal

pub returns-in-None-clause-err : goal.returns-in-None-clause-err
returns-in-None-clause-err c = λ at level i items h. (refl, subst (λ n. IsNowhere c.args.position n) (c.find_list-spot.ensures.same at level i items h).2 (subst (λ z. IsNowhere z c.find_list-spot.result.len) (to_z-of_z w64 c.args.position c.ranges.position) c.in-None.ensures.none), refl)

pub returns-in-Some-clause-ok : goal.returns-in-Some-clause-ok
returns-in-Some-clause-ok c = λ at level i items h.
    let same = c.find_list-spot.ensures.same at level i items h in
    let here = subst (λ a. IsListAt c.args.table.now c.args.list.now.oref.0 a items) (sym same.0) (list-at c.args.list.now.schema.now c.args.table.now c.args.list.now.oref.0 c.args.list.now.prop.now at level i items h) in
    let is = subst (λ a. c.take_item.new.table ≡ slot_set c.args.table.now c.args.list.now.oref.0 a (Items (remove items c.in-Some.place)) []) same.0 (c.take_item.ensures.memory items here) in
    (c.in-Some.place, subst (λ z. IsAt z c.in-Some.place) (to_z-of_z w64 c.args.position c.ranges.position) c.in-Some.ensures.some.0, subst (λ n. c.in-Some.place < n) same.2 c.in-Some.ensures.some.1, is)

pub returns-in-Some-clause-fits : goal.returns-in-Some-clause-fits
returns-in-Some-clause-fits c =
    let list = c.find_list-spot.ensures.spot in
    let spot = c.find_list-spot.result in
    let each = list-elements c.args.list.now.schema.now c.args.table.now c.args.list.now.oref.0 spot.at spot.item.now list.0 c.requires.fits list.1 list.3 in
    c.take_item.ensures.fits c.args.list.now.schema.now list.0 list.1 (takes-remove c.args.list.now.schema.now c.args.table.now c.args.list.now.oref.0 spot.at c.in-Some.place spot.item.now list.0 list.3 each) c.requires.fits
