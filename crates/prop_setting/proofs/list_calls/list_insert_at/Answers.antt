use Rattle.std.proofs.Common.{◌+◌, length, subst, sym, w64}
use Rattle.std.proofs.lemmas.Int.{to_z-of_z}
use Rattle.obj_kinds.specs.declared.error_name.ErrorName.TheVariants.{IllegalValue}
use Rattle.prop_setting.specs.Lists.{IsAt, IsListAt, IsNowhere, ItemRefuses}
use Rattle.prop_setting.specs.Standings.{IsNoCopy}
use Rattle.prop_setting.proofs.ListLaws.{less-more, list-at, list-inserted, nowhere-more, refused-tells, refuses-item, refuses-position}
use Rattle.prop_setting.proofs.list_calls.list_insert_at.Goals as goal

pub returns-then-not-takes-clause-err : goal.returns-then-not-takes-clause-err
returns-then-not-takes-clause-err c = λ at level i items h.
    let same = c.find_list-spot.ensures.same at level i items h in
    refused-tells (ItemRefuses c.args.list.now.schema.now c.args.table.now i (length items + 1) c.args.position c.args.with) c.refuse.result c.error_of.result c.refuse.new.table _ c.refuse.ensures.refused c.refuse.ensures.memory
    (refuses-item c.args.list.now.schema.now c.args.table.now i c.find_list-spot.result.item.now (length items + 1) c.args.position c.args.with c.error_of.result same.1 (λ t. let yes = c.takes.ensures.1 t in cc) c.error_of.ensures)

pub add_element-requires-clause-no_copy : goal.add_element-requires-clause-no_copy
add_element-requires-clause-no_copy c =
    let l = c.requires.list in
    let same = c.find_list-spot.ensures.same l.0 l.1 l.2 l.3 l.4 in
    subst (λ j. IsNoCopy j c.args.with) (sym same.1) (c.requires.no_copy l.0 l.1 l.2 l.3 l.4)

pub returns-in-None-clause-err : goal.returns-in-None-clause-err
returns-in-None-clause-err c = λ at level i items h.
    let same = c.find_list-spot.ensures.same at level i items h in
    let none = subst (λ z. IsNowhere z c.saturating_add.result) (to_z-of_z w64 c.args.position c.ranges.position) c.in-None.ensures.none in
    let nowhere = subst (λ n. IsNowhere c.args.position (n + 1)) same.2 (nowhere-more c.args.position c.find_list-spot.result.len c.saturating_add.result c.saturating_add.ensures c.ranges.position none) in
    refused-tells (ItemRefuses c.args.list.now.schema.now c.args.table.now i (length items + 1) c.args.position c.args.with) c.refuse-in-None.result IllegalValue c.refuse-in-None.new.table _ c.refuse-in-None.ensures.refused c.refuse-in-None.ensures.memory
    (refuses-position c.args.list.now.schema.now c.args.table.now i c.find_list-spot.result.item.now (length items + 1) c.args.position c.args.with same.1 (c.takes.ensures.0 c.if-not-takes.false) nowhere)

pub returns-in-Some-clause-ok : goal.returns-in-Some-clause-ok
returns-in-Some-clause-ok c = λ at level i items h.
    let same = c.find_list-spot.ensures.same at level i items h in
    let here = subst (λ a. IsListAt c.args.table.now c.args.list.now.oref.0 a items) (sym same.0) (list-at c.args.list.now.schema.now c.args.table.now c.args.list.now.oref.0 c.args.list.now.prop.now at level i items h) in
    let place = subst (λ z. IsAt z c.in-Some.place) (to_z-of_z w64 c.args.position c.ranges.position) c.in-Some.ensures.some.0 in
    list-inserted c.args.list.now.schema.now c.args.table.now c.add_element.new.table c.args.list.now.oref.0 at c.find_list-spot.result.at level i c.find_list-spot.result.item.now items c.args.position c.in-Some.place c.find_list-spot.result.len c.args.with c.add_element.result same.0 same.1 same.2 place (less-more c.in-Some.place c.find_list-spot.result.len c.saturating_add.result c.saturating_add.ensures c.in-Some.ensures.some.1) (c.takes.ensures.0 c.if-not-takes.false) (c.add_element.ensures.ok items here)
