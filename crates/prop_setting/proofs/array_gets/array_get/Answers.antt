use Rattle.std.proofs.Common.{◌≡◌, IsSome, IsTrue, None, Option, Some, ap, refl, subst, sym}
use Rattle.std.specs.FinMap.{find, is_sorted}
use Rattle.obj_kinds.specs.SubOrder.{sub_cmp}
use Rattle.obj_kinds.specs.declared.value.Value.TheVariants as value
use Rattle.oref_table.specs.declared.slot.Slot.{Slot}
use Rattle.oref_table.specs.declared.slot.Slot.TheViews.{out-Slot}
use Rattle.obj_props.specs.Contents.{MayBeRead}
use Rattle.obj_props.specs.declared.got.Got.TheVariants as got
use Rattle.prop_setting.specs.Arrays.{IsArrayAt}
use Rattle.prop_setting.proofs.ArrayLaws.{array-at, array-elements}
use Rattle.prop_setting.proofs.ArrayReadLaws.{found-fits, none-read, pair-read}
use Rattle.prop_setting.proofs.ReadLaws.{element-read}
use Rattle.prop_setting.proofs.array_gets.array_get.Goals as goal

pub pair_slot-requires : goal.pair_slot-requires
pair_slot-requires c =
    let l = c.find_array-spot.ensures.spot in
    let each = array-elements c.args.array.now.schema.now c.args.table.now c.args.array.now.oref.0 c.find_array-spot.result.at c.find_array-spot.result.item.now l.0 c.requires.fits l.1 l.3 in
    subst (λ xs. IsTrue (is_sorted sub_cmp xs)) (sym (c.array_pairs-pairs.ensures l.0 l.1)) each.0

pub returns-in_default-clause-ok : goal.returns-in_default-clause-ok
returns-in_default-clause-ok c = λ at level i pairs h.
    let same = c.find_array-spot.ensures.same at level i pairs h in
    let here = subst (λ a. IsArrayAt c.args.table.now c.args.array.now.oref.0 a pairs) (sym same.0) (array-at c.args.array.now.schema.now c.args.table.now c.args.array.now.oref.0 c.args.array.now.prop.now at level i pairs h) in
    let none = subst (λ xs. find sub_cmp c.args.key xs ≡ None) (c.array_pairs-pairs.ensures pairs here) c.in_default.ensures.none in
    none-read c.args.array.now.schema.now c.args.table.now c.args.table.now c.args.array.now.oref.0 at level i pairs c.args.key (got.Plain (value.Str c.new.result)) none (ap (λ t. got.Plain (value.Str t)) c.new.ensures, refl)

pub read_pair-requires-clause-array : goal.read_pair-requires-clause-array
read_pair-requires-clause-array c =
    let l = c.find_array-spot.ensures.spot in
    let each = array-elements c.args.array.now.schema.now c.args.table.now c.args.array.now.oref.0 c.find_array-spot.result.at c.find_array-spot.result.item.now l.0 c.requires.fits l.1 l.3 in
    let found = subst (λ xs. find sub_cmp c.args.key xs ≡ Some c.in-Some.slot.now) (c.array_pairs-pairs.ensures l.0 l.1) c.in-Some.ensures.some in
    (l.0, l.1, each.0, subst (λ (x : Option Slot). IsSome x) (sym found) refl)

pub read_pair-requires-clause-content : goal.read_pair-requires-clause-content
read_pair-requires-clause-content c =
    let l = c.find_array-spot.ensures.spot in
    let each = array-elements c.args.array.now.schema.now c.args.table.now c.args.array.now.oref.0 c.find_array-spot.result.at c.find_array-spot.result.item.now l.0 c.requires.fits l.1 l.3 in
    let found = subst (λ xs. find sub_cmp c.args.key xs ≡ Some c.in-Some.slot.now) (c.array_pairs-pairs.ensures l.0 l.1) c.in-Some.ensures.some in
    let fits = found-fits c.args.array.now.schema.now c.args.table.now c.find_array-spot.result.item.now c.args.key c.in-Some.slot.now l.0 each.1 found in
    subst (λ x. MayBeRead c.args.table.now x) (sym c.in_ok-content.ensures) (element-read c.args.array.now.schema.now c.args.table.now c.find_array-spot.result.item.now (out-Slot c.in-Some.slot.now) fits)

pub returns-clause-ok : goal.returns-clause-ok
returns-clause-ok c = λ at level i pairs h.
    let same = c.find_array-spot.ensures.same at level i pairs h in
    let here = subst (λ a. IsArrayAt c.args.table.now c.args.array.now.oref.0 a pairs) (sym same.0) (array-at c.args.array.now.schema.now c.args.table.now c.args.array.now.oref.0 c.args.array.now.prop.now at level i pairs h) in
    let found = subst (λ xs. find sub_cmp c.args.key xs ≡ Some c.in-Some.slot.now) (c.array_pairs-pairs.ensures pairs here) c.in-Some.ensures.some in
    pair-read c.args.array.now.schema.now c.args.table.now c.read_pair.new.table c.args.array.now.oref.0 at c.find_array-spot.result.at level h.object.level i c.find_array-spot.result.item.now pairs c.args.key c.in-Some.slot.now c.in_ok-content.content c.read_pair.result same.0 same.1 h.level_is found c.in_ok-content.ensures (c.read_pair.ensures.ok h.object pairs h.found here)
