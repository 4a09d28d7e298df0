use Rattle.std.proofs.Common.{◌+◌, ◌≤◌, arith}
use Rattle.std.specs.Vec.Iter.{into_iter_items}
use Rattle.tran_log.specs.Levels.{pins_of, times, has}
use Rattle.tran_log.specs.Kept.{level_of}
use Rattle.tran_log.proofs.LevelLaws.{times_here}
use Rattle.tran_log.proofs.kept.note_all.Goals as goal

pub note_one-requires-clause-pin : goal.note_one-requires-clause-pin
note_one-requires-clause-pin c =
    let at = c.loop-old in
    let n = c.in-Some.old.0 in
    let here : 1 ≤ times (into_iter_items at.old-iterator) n = rw c.in-Some.ensures.steps.0 (times_here c.in-Some.old (into_iter_items c.next.new.self)) in
    let owed : has (level_of at.kept) n + times (into_iter_items at.old-iterator) n ≤ pins_of at.tree.pins n = omega (arith, at.invariant.pins n, c.requires.pins n) in
    let enough : has (level_of at.kept) n + 1 ≤ pins_of at.tree.pins n = omega arith in
    enough
