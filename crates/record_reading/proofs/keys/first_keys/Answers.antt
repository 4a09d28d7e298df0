use Rattle.std.proofs.Common.{◌≡◌, ◌++◌, ◌∷◌, [], List, None, rules, sym, ap, ◌∙◌, append-nil}
use Rattle.std.specs.Option.{option_copied}
use Rattle.obj_kinds.specs.declared.sub.Sub.{Sub}
use Rattle.global_tree.specs.Below.{step_below}
use Rattle.global_tree.proofs.Parts.{first}
use Rattle.record_reading.specs.Keys.{keys_after}
use Rattle.record_reading.proofs.KeyLaws.{none_ahead}
use Rattle.record_reading.proofs.keys.first_keys.Goals as goal

pub returns-in_default-step_below : goal.returns-in_default-step_below
returns-in_default-step_below c =
    let last = option_copied c.loop-pair.last in
    let none : step_below c.args.node.now c.in-Some.pair.now.0 ≡ None = search rules in
    none_ahead c.args.node.now last c.loop-pair.keys.items c.loop-pair.rest.now c.in-Some.pair.now c.in-Some.more.now c.in-Some.ensures.cases.0 none c.loop-pair.invariant.1 c.loop-pair.invariant.2 c.loop-pair.invariant.0
