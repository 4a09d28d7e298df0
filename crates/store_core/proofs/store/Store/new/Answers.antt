use Rattle.std.proofs.Common.{◌∙◌, sym, ap, subst}
use Rattle.std.specs.Vec.{vec_capacity}
use Rattle.std.specs.FinMap.{from_entries}
use Rattle.store_core.specs.Stands.{IsStore}
use Rattle.store_core.proofs.OpenLaws.{new_store, opened_is}
use Rattle.store_core.proofs.store.Store.new.Goals as goal

pub invariant_of-result : goal.invariant_of-result
invariant_of-result c =
    let logs = c.in_ok-logs.logs.items in
    let places = vec_capacity c.in_ok-told.told in
    subst (λ hs. IsStore c.args.nodes c.in_ok-tree.tree hs logs c.in_ok-told.told.items places c.args.volume) (sym c.new.ensures)
    (subst (λ es. IsStore c.args.nodes c.in_ok-tree.tree _ logs es places c.args.volume) (sym c.in_ok-told.ensures.items)
    (new_store c.args.nodes c.in_ok-tree.tree logs c.args.pids places c.args.volume c.requires.pids.0 c.requires.pids.1 c.requires.rising c.requires.limits
    (c.in_ok-tree.ensures.globals ∙ ap from_entries c.as_slice.ensures) c.in_ok-tree.ensures.pins c.in_ok-logs.ensures c.in_ok-told.ensures.capacity c.ranges.volume.fits))

pub returns : goal.returns
returns c = opened_is c.args.nodes c.in_ok-logs.logs.items c.in_ok-told.told.items c.args.pids c.args.volume c.in_ok-logs.ensures c.in_ok-told.ensures.items
