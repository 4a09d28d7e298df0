use Rattle.std.proofs.Common.{rules}
use Rattle.std.proofs.lemmas.Fn.{always_returns_same}
use Rattle.obj_kinds.specs.Order.{node_cmp}
use Rattle.obj_kinds.proofs.OrderLemmas.{node_total}
use Rattle.obj_kinds.proofs.Sorted.{searched}
use Rattle.global_tree.proofs.search.search_node.Goals as goal

-- the closure compares the pair's node with the one that is sought
pub returns : goal.returns
returns g c =
    let facts = c.binary_search_by.ensures in
    let places = facts.position (λ e. node_cmp e.0 c.args.node.now) (always_returns_same _ _ _ (λ a r h called. search rules)) in
    let found = searched node_cmp node_total c.args.pairs.now c.requires c.args.node.now _ facts.bound places in
    record { found = found.found; absent = found.absent }
