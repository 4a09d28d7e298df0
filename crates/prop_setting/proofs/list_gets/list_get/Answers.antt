use Rattle.std.proofs.Common.{inr, ap, refl, subst, sym, w64}
use Rattle.std.proofs.lemmas.Int.{to_z-of_z}
use Rattle.obj_kinds.specs.declared.value.Value.TheVariants as value
use Rattle.obj_props.specs.declared.got.Got.TheVariants as got
use Rattle.prop_setting.specs.Lists.{IsAt, IsListAt, IsNowhere}
use Rattle.prop_setting.proofs.ListLaws.{list-at}
use Rattle.prop_setting.proofs.ReadLaws.{read-is}
use Rattle.prop_setting.proofs.list_gets.list_get.Goals as goal

pub returns-in_default-clause-ok : goal.returns-in_default-clause-ok
returns-in_default-clause-ok c = λ at level i items h.
    let same = c.find_list-spot.ensures.same at level i items h in
    let none = subst (λ z. IsNowhere z c.find_list-spot.result.len) (to_z-of_z w64 c.args.position c.ranges.position) c.in_default.ensures.none in
    inr (subst (λ n. IsNowhere c.args.position n) same.2 none, ap (λ t. got.Plain (value.Str t)) c.new.ensures, refl)

pub returns-clause-ok : goal.returns-clause-ok
returns-clause-ok c = λ at level i items h.
    let same = c.find_list-spot.ensures.same at level i items h in
    let here = subst (λ a. IsListAt c.args.table.now c.args.list.now.oref.0 a items) (sym same.0) (list-at c.args.list.now.schema.now c.args.table.now c.args.list.now.oref.0 c.args.list.now.prop.now at level i items h) in
    let place = subst (λ z. IsAt z c.in-Some.place) (to_z-of_z w64 c.args.position c.ranges.position) c.in-Some.ensures.some.0 in
    read-is c.args.list.now.schema.now c.args.table.now c.read_item.new.table c.args.list.now.oref.0 at c.find_list-spot.result.at level h.object.level i c.find_list-spot.result.item.now items c.args.position c.in-Some.place c.in_ok-content.content c.read_item.result
    same.0 same.1 h.level_is place (c.in_ok-content.ensures.content items here) (c.read_item.ensures.ok h.object items h.found here)
