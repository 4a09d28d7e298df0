use Rattle.std.proofs.Common.{ap, ◌∙◌, arith}
use Rattle.global_tree.specs.Contents.{pins_of, pinned, unpinned}
use Rattle.store_core.proofs.Restored.{pins_again, pinned_here}
use Rattle.store_core.proofs.writes.put.Goals as goal

pub unpin-requires : goal.unpin-requires
unpin-requires c =
    let p = c.args.tree.now.pins in
    let n = c.args.node.now in
    let is = ap (λ q. pins_of q n) (c.in_ok-set.ensures.pins ∙ ap (pinned p) c.in_ok-key.ensures) in
    omega (arith, is, pinned_here p n)

pub returns-clause-pins : goal.returns-clause-pins
returns-clause-pins c = λ m.
    let p = c.args.tree.now.pins in
    let n = c.args.node.now in
    ap (λ q. pins_of q m) (c.unpin.ensures.pins ∙ ap (λ q. unpinned q n) (c.in_ok-set.ensures.pins ∙ ap (pinned p) c.in_ok-key.ensures)) ∙ pins_again p n m
