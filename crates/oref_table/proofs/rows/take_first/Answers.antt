use Rattle.std.proofs.Common.{ap, sym, subst, ◌∙◌, arith}
use Rattle.std.specs.BinaryHeap.{heap_items, heap_len, heap_capacity}
use Rattle.oref_table.specs.Entries.{is_uncounted}
use Rattle.oref_table.specs.Memory.{first_that, without_first}
use Rattle.oref_table.specs.Rows.{AreRows, entries_in}
use Rattle.oref_table.proofs.RowLaws.{IsOut, IsTurn, turn-taken, turn-skipped, none-waits}
use Rattle.oref_table.proofs.rows.take_first.Goals as goal
use Rattle.oref_table.proofs.rows.take_first.Goals.{After-take_idle, In-Some-take_idle, In_default-take_idle}

out : (c : In-Some-take_idle) → IsOut c.in-Some.field-0 (heap_items c.loop-number.waiting) (heap_items c.pop.new.self) (heap_len c.loop-number.waiting) (heap_len c.pop.new.self)
out c = record { moved = c.in-Some.ensures.permutation; order = c.in-Some.ensures.heap_order; shorter = c.in-Some.ensures.len }

turned : (c : In-Some-take_idle) → IsTurn c.in-Some.field-0 c.in-Some-take_idle.obj c.loop-number.rows.entries c.take_idle.new.rows.entries (heap_items c.pop.new.self) (heap_len c.pop.new.self) (heap_capacity c.pop.new.self)
turned c =
    let s = c.in-Some-take_idle.ensures.some in
    subst (λ k. IsTurn c.in-Some.field-0 c.in-Some-take_idle.obj c.loop-number.rows.entries c.take_idle.new.rows.entries (heap_items c.pop.new.self) (heap_len c.pop.new.self) k) (sym c.pop.ensures.capacity)
    (turn-taken c.in-Some.field-0 c.in-Some-take_idle.obj c.loop-number.rows.entries c.take_idle.new.rows.entries (heap_items c.loop-number.waiting) (heap_items c.pop.new.self) (heap_len c.loop-number.waiting) (heap_len c.pop.new.self) (heap_capacity c.loop-number.waiting) c.loop-number.invariant.rows (out c) s.0 s.1 s.2 c.take_idle.ensures.rising)

pub returns-in-Some-take_idle-clause-some : goal.returns-in-Some-take_idle-clause-some
returns-in-Some-take_idle-clause-some c =
    let t = turned c in
    (ap (λ rows. first_that is_uncounted (entries_in rows)) (sym c.loop-number.invariant.same) ∙ t.first, t.others ∙ ap (λ rows. without_first is_uncounted (entries_in rows)) c.loop-number.invariant.same)

pub returns-in-Some-take_idle-clause-rows : goal.returns-in-Some-take_idle-clause-rows
returns-in-Some-take_idle-clause-rows c = (turned c).stand

pub loop-number-preserved : goal.loop-number-preserved
loop-number-preserved c =
    let n = c.in_default-take_idle.ensures.none in
    record {
      same = n.0 ∙ c.loop-number.invariant.same;
      rows =
          subst (λ k. AreRows c.take_idle.new.rows.entries (heap_items c.pop.new.self) (heap_len c.pop.new.self) k) (sym c.pop.ensures.capacity)
          (turn-skipped c.in-Some.field-0 c.loop-number.rows.entries c.take_idle.new.rows.entries (heap_items c.loop-number.waiting) (heap_items c.pop.new.self) (heap_len c.loop-number.waiting) (heap_len c.pop.new.self) (heap_capacity c.loop-number.waiting) c.loop-number.invariant.rows
          (record { moved = c.in-Some.ensures.permutation; order = c.in-Some.ensures.heap_order; shorter = c.in-Some.ensures.len }) n.1 n.0);
    }

pub returns-clause-none : goal.returns-clause-none
returns-clause-none c =
    (c.loop-number.invariant.same, ap (λ rows. first_that is_uncounted (entries_in rows)) (sym c.loop-number.invariant.same) ∙ none-waits (heap_items c.loop-number.waiting) (omega (arith, c.in_default.ensures.none)) c.loop-number.rows.entries c.loop-number.invariant.rows.awaited)
