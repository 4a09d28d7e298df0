use Rattle.std.proofs.Common.{◌-◌, take, drop, ap, ◌∙◌}
use Rattle.global_tree.proofs.RunLaws.{Emptied, run_emptied, run_taken, run_pins}
use Rattle.global_tree.specs.Places.{part, value_in}
use Rattle.global_tree.proofs.LiveLaws.{live_run}
use Rattle.global_tree.proofs.tree.Tree.take_under.Goals as goal

pub empty_run-requires-clause-pins : goal.empty_run-requires-clause-pins
empty_run-requires-clause-pins c =
    let run = rw c.as_slice.ensures.value at c.run_of-start.ensures in
    run_pins c.self.inside.places.items _ c.args.node.now c.run_of-start.result.0 c.run_of-start.result.1 (record { rising = c.self.invariant.rising; as_is = c.self.view_is }) run c.requires

emptied : (c : goal.After-empty_run) → Emptied c.args.self.now c.empty_run.new.places.items c.args.node.now
emptied c =
    let run = rw c.as_slice.ensures.value at c.run_of-start.ensures in
    rw c.empty_run.ensures (run_emptied c.self.inside.places.items _ c.args.node.now c.run_of-start.result.0 c.run_of-start.result.1 (record { rising = c.self.invariant.rising; as_is = c.self.view_is }) run)

pub invariant_of-self : goal.invariant_of-self
invariant_of-self c = record {
  rising = (emptied c).rising;
  live = rw c.empty_run.ensures (live_run c.self.inside.places.items c.run_of-start.result.0 (c.run_of-start.result.1 - c.run_of-start.result.0) c.self.invariant.live);
}

pub returns-clause-taken : goal.returns-clause-taken
returns-clause-taken c =
    let run = rw c.as_slice.ensures.value at c.run_of-start.ensures in
    let taken = run_taken c.self.inside.places.items _ c.args.node.now c.run_of-start.result.0 c.run_of-start.result.1 (record { rising = c.self.invariant.rising; as_is = c.self.view_is }) run in
    c.in_ok-taken.ensures ∙ ap (λ l. part value_in (take (c.run_of-start.result.1 - c.run_of-start.result.0) (drop c.run_of-start.result.0 l))) c.as_slice-2.ensures.value ∙ taken

pub returns-clause-values : goal.returns-clause-values
returns-clause-values c = (emptied c).globals

pub returns-clause-pins : goal.returns-clause-pins
returns-clause-pins c = (emptied c).pins
