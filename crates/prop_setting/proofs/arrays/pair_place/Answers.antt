use Rattle.std.proofs.Common.{rules}
use Rattle.std.proofs.lemmas.Fn.{always_returns_same}
use Rattle.obj_kinds.specs.SubOrder.{sub_cmp}
use Rattle.obj_kinds.specs.OrderLaws.{sub_total}
use Rattle.obj_kinds.proofs.Sorted.{searched}
use Rattle.prop_setting.proofs.ArrayLaws.{key-found}
use Rattle.prop_setting.proofs.arrays.pair_place.Goals as goal

-- the closure compares the pair's key with the one that is sought
pub returns : goal.returns
returns c =
    let facts = c.binary_search_by.ensures in
    let places = facts.position (λ e. sub_cmp e.0 c.args.key.now) (always_returns_same _ _ _ (λ a r h called. search rules)) in
    let at = searched sub_cmp sub_total c.args.pairs.now c.requires c.args.key.now c.binary_search_by.result facts.bound places in
    let found = key-found c.binary_search_by.result c.args.key.now c.args.pairs.now c.requires at.found at.absent in
    record { found = found.0; absent = found.1 }
