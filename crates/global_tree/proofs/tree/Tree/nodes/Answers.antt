use Rattle.global_tree.proofs.Seen.{entries_seen}
use Rattle.global_tree.proofs.tree.Tree.nodes.Goals as goal

pub returns : goal.returns
returns c =
    let is = entries_seen c.self.inside.places.items _ (record { rising = c.self.invariant.rising; as_is = c.self.view_is }) in
    rw (is, ← c.as_slice.ensures.value) c.copy_valued.ensures
