use Rattle.std.proofs.Common.{IsTrue, ap, slice_get, subst, sym, ◌∙◌}
use Rattle.std.specs.FinMap.{is_sorted}
use Rattle.obj_kinds.specs.SubOrder.{sub_cmp}
use Rattle.std.specs.Option.{option_copied}
use Rattle.oref_table.specs.Memory.{first_that}
use Rattle.prop_setting.specs.Arrays.{IsArrayAt, is_behind, key_part, next_key}
use Rattle.prop_setting.proofs.ArrayLaws.{array-at, array-elements}
use Rattle.prop_setting.proofs.array_keys.array_next.Goals as goal

pub next_place-requires : goal.next_place-requires
next_place-requires c =
    let l = c.find_array-spot.ensures.spot in
    let each = array-elements c.args.array.now.schema.now c.args.table.now c.args.array.now.oref.0 c.find_array-spot.result.at c.find_array-spot.result.item.now l.0 c.requires.fits l.1 l.3 in
    subst (λ xs. IsTrue (is_sorted sub_cmp xs)) (sym (c.array_pairs-pairs.ensures l.0 l.1)) each.0

pub returns-in-Some : goal.returns-in-Some
returns-in-Some c = λ at level i pairs h.
    let same = c.find_array-spot.ensures.same at level i pairs h in
    let here = subst (λ a. IsArrayAt c.args.table.now c.args.array.now.oref.0 a pairs) (sym same.0) (array-at c.args.array.now.schema.now c.args.table.now c.args.array.now.oref.0 c.args.array.now.prop.now at level i pairs h) in
    let is = c.array_pairs-pairs.ensures pairs here in
    c.key_at.ensures ∙ ap key_part c.next_place.ensures ∙ ap (λ xs. key_part (first_that (is_behind c.in-Some.key.now) xs)) is ∙ sym (ap (λ a. next_key (option_copied a) pairs) c.in-Some.is)

pub returns-in-None : goal.returns-in-None
returns-in-None c = λ at level i pairs h.
    let same = c.find_array-spot.ensures.same at level i pairs h in
    let here = subst (λ a. IsArrayAt c.args.table.now c.args.array.now.oref.0 a pairs) (sym same.0) (array-at c.args.array.now.schema.now c.args.table.now c.args.array.now.oref.0 c.args.array.now.prop.now at level i pairs h) in
    let is = c.array_pairs-pairs.ensures pairs here in
    c.key_at-in-None.ensures ∙ ap (λ xs. key_part (slice_get xs 0)) is ∙ sym (ap (λ a. next_key (option_copied a) pairs) c.in-None.is)
