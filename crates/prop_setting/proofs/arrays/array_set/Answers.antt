use Rattle.std.proofs.Common.{◌≡◌, ap, subst, sym, ◌∙◌}
use Rattle.prop_setting.specs.Elements.{Takes, error_of}
use Rattle.prop_setting.specs.Arrays.{IsArrayAt}
use Rattle.prop_setting.specs.Standings.{IsNoCopy}
use Rattle.prop_setting.proofs.ArrayLaws.{array-at, array-set}
use Rattle.prop_setting.proofs.ListLaws.{refused-tells}
use Rattle.prop_setting.proofs.arrays.array_set.Goals as goal

pub returns-then-not-takes-clause-err : goal.returns-then-not-takes-clause-err
returns-then-not-takes-clause-err c = λ at level i pairs h.
    let same = c.find_array-spot.ensures.same at level i pairs h in
    refused-tells (λ n. (¬ Takes c.args.array.now.schema.now c.args.table.now i c.args.with) × (n ≡ error_of i)) c.refuse.result c.error_of.result c.refuse.new.table _ c.refuse.ensures.refused c.refuse.ensures.memory
    ((λ t. let yes = c.takes.ensures.1 (subst (λ j. Takes c.args.array.now.schema.now c.args.table.now j c.args.with) (sym same.1) t) in cc), c.error_of.ensures ∙ ap error_of same.1)

pub put_under-requires-clause-no_copy : goal.put_under-requires-clause-no_copy
put_under-requires-clause-no_copy c =
    let l = c.requires.array in
    let same = c.find_array-spot.ensures.same l.0 l.1 l.2 l.3 l.4 in
    subst (λ j. IsNoCopy j c.args.with) (sym same.1) (c.requires.no_copy l.0 l.1 l.2 l.3 l.4)

pub returns-clause-ok : goal.returns-clause-ok
returns-clause-ok c = λ at level i pairs h.
    let same = c.find_array-spot.ensures.same at level i pairs h in
    let here = subst (λ a. IsArrayAt c.args.table.now c.args.array.now.oref.0 a pairs) (sym same.0) (array-at c.args.array.now.schema.now c.args.table.now c.args.array.now.oref.0 c.args.array.now.prop.now at level i pairs h) in
    array-set c.args.array.now.schema.now c.args.table.now c.put_under.new.table c.args.array.now.oref.0 at c.find_array-spot.result.at level i c.find_array-spot.result.item.now pairs c.args.key c.args.with c.put_under.result same.0 same.1 (c.takes.ensures.0 c.if-not-takes.false) (c.put_under.ensures.ok pairs here)
