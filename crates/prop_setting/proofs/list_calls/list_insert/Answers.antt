use Rattle.std.proofs.Common.{◌≡◌, ap, subst, sym, ◌∙◌}
use Rattle.prop_setting.specs.Elements.{Takes, error_of}
use Rattle.prop_setting.specs.Lists.{IsListAt}
use Rattle.prop_setting.specs.Standings.{IsNoCopy}
use Rattle.prop_setting.proofs.ListLaws.{list-added, list-at, refused-tells}
use Rattle.prop_setting.proofs.list_calls.list_insert.Goals as goal

pub returns-then-not-takes-clause-err : goal.returns-then-not-takes-clause-err
returns-then-not-takes-clause-err c = λ at level i items h.
    let same = c.find_list-spot.ensures.same at level i items h in
    refused-tells (λ n. (¬ Takes c.args.list.now.schema.now c.args.table.now i c.args.with) × (n ≡ error_of i)) c.refuse.result c.error_of.result c.refuse.new.table _ c.refuse.ensures.refused c.refuse.ensures.memory
    ((λ t. let yes = c.takes.ensures.1 (subst (λ j. Takes c.args.list.now.schema.now c.args.table.now j c.args.with) (sym same.1) t) in cc), c.error_of.ensures ∙ ap error_of same.1)

pub add_element-requires-clause-no_copy : goal.add_element-requires-clause-no_copy
add_element-requires-clause-no_copy c =
    let l = c.requires.list in
    let same = c.find_list-spot.ensures.same l.0 l.1 l.2 l.3 l.4 in
    subst (λ j. IsNoCopy j c.args.with) (sym same.1) (c.requires.no_copy l.0 l.1 l.2 l.3 l.4)

pub returns-clause-ok : goal.returns-clause-ok
returns-clause-ok c = λ at level i items h.
    let same = c.find_list-spot.ensures.same at level i items h in
    let here = subst (λ a. IsListAt c.args.table.now c.args.list.now.oref.0 a items) (sym same.0) (list-at c.args.list.now.schema.now c.args.table.now c.args.list.now.oref.0 c.args.list.now.prop.now at level i items h) in
    list-added c.args.list.now.schema.now c.args.table.now c.add_element.new.table c.args.list.now.oref.0 at c.find_list-spot.result.at level i c.find_list-spot.result.item.now items c.find_list-spot.result.len c.args.with c.add_element.result same.0 same.1 same.2 (c.takes.ensures.0 c.if-not-takes.false) (c.add_element.ensures.ok items here)
