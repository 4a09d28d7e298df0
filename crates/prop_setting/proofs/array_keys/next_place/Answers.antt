use Rattle.std.proofs.Common.{◌≡◌, ◌+◌, rules, suc, slice_get, IfErr, IfOk, arith, subst}
use Rattle.std.proofs.lemmas.Fn.{always_returns_same}
use Rattle.obj_kinds.specs.SubOrder.{sub_cmp}
use Rattle.obj_kinds.specs.OrderLaws.{sub_total}
use Rattle.obj_kinds.specs.Search.{IsGap, IsHit}
use Rattle.obj_kinds.proofs.Sorted.{searched}
use Rattle.oref_table.specs.Memory.{first_that}
use Rattle.prop_setting.specs.Arrays.{is_behind}
use Rattle.prop_setting.proofs.KeyLaws.{behind-gap, behind-hit}
use Rattle.prop_setting.proofs.array_keys.next_place.Goals as goal

pub returns-in-Ok : goal.returns-in-Ok
returns-in-Ok c =
    let facts = c.binary_search_by.ensures in
    let places = facts.position (λ e. sub_cmp e.0 c.args.after.now) (always_returns_same _ _ _ (λ a r h called. search rules)) in
    let found = searched sub_cmp sub_total c.args.pairs.now c.requires c.args.after.now c.binary_search_by.result facts.bound places in
    let hit = subst (λ r. IfOk r (IsHit sub_cmp c.args.pairs.now c.args.after.now)) c.in-Ok.is found.found in
    let next : suc c.in-Ok.at ≡ c.in-Ok.at + 1 = omega arith in
    subst (λ j. slice_get c.args.pairs.now j ≡ first_that (is_behind c.args.after.now) c.args.pairs.now) next (behind-hit c.args.pairs.now c.args.after.now c.in-Ok.at c.requires hit)

pub returns-in-Err : goal.returns-in-Err
returns-in-Err c =
    let facts = c.binary_search_by.ensures in
    let places = facts.position (λ e. sub_cmp e.0 c.args.after.now) (always_returns_same _ _ _ (λ a r h called. search rules)) in
    let found = searched sub_cmp sub_total c.args.pairs.now c.requires c.args.after.now c.binary_search_by.result facts.bound places in
    behind-gap c.args.pairs.now c.args.after.now c.in-Err.at (subst (λ r. IfErr r (IsGap sub_cmp c.args.pairs.now c.args.after.now)) c.in-Err.is found.absent)
