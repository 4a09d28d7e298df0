use Rattle.std.proofs.Common.{◌≡◌, ◌<◌, ◌+◌, ◌∷◌, [], drop, drop-cons, slice_index_or, ap, sym, subst, ◌∙◌, arith, add-one}
use Rattle.std.proofs.lemmas.List.{drop_all}
use Rattle.oref_table.specs.Memory.{Memory, loosed, outside_of}
use Rattle.oref_table.specs.Dropping.{dropped}
use Rattle.part_copies.specs.Holding.{AreLive, tightened}
use Rattle.part_copies.proofs.HoldLaws.{gone-one, held-one, live-rest, tight-none}
use Rattle.part_copies.proofs.hold.let_all_go.Goals as goal
use Rattle.part_copies.proofs.hold.let_all_go.Goals.{After-let_go}

pub unpark-held-requires : goal.unpark-held-requires
unpark-held-requires c =
    let s = c.loop-number.invariant.some in
    let next = drop-cons c.args.numbers.now c.loop-number.number-index 0 c.loop-number-test.true in
    held-one s.0 c.loop-number.table (slice_index_or c.args.numbers.now c.loop-number.number-index 0) _ (subst (λ xs. AreLive s.0 xs) next s.2) (s.3 ∙ ap (tightened s.0) next)

pub let_go-requires : goal.let_go-requires
let_go-requires c =
    let s = c.loop-number.invariant.some in
    let next = drop-cons c.args.numbers.now c.loop-number.number-index 0 c.loop-number-test.true in
    let held = held-one s.0 c.loop-number.table (slice_index_or c.args.numbers.now c.loop-number.number-index 0) _ (subst (λ xs. AreLive s.0 xs) next s.2) (s.3 ∙ ap (tightened s.0) next) in
    subst (λ (x : Memory). 0 < outside_of x c.unpark-held.result.number) (sym c.unpark-held.ensures.same) (subst (λ k. 0 < outside_of c.loop-number.table k) (sym c.unpark-held.ensures.held) held)

pub loop-number-preserved : goal.loop-number-preserved
loop-number-preserved c =
    let s = c.loop-number.invariant.some in
    let n = slice_index_or c.args.numbers.now c.loop-number.number-index 0 in
    let next = drop-cons c.args.numbers.now c.loop-number.number-index 0 c.loop-number-test.true ∙ ap (λ k. n ∷ drop k c.args.numbers.now) (sym (add-one c.loop-number.number-index)) in
    let rest = drop (c.loop-number.number-index + 1) c.args.numbers.now in
    let went : c.let_go.new.self ≡ dropped (loosed c.loop-number.table (n ∷ [])) =
    c.let_go.ensures.memory ∙ ap (λ x. dropped (loosed x (c.unpark-held.result.number ∷ []))) c.unpark-held.ensures.same ∙ ap (λ k. dropped (loosed c.loop-number.table (k ∷ []))) c.unpark-held.ensures.held in
    record {
      left = λ m kept start. gone-one m c.loop-number.table c.let_go.new.self n rest kept (c.loop-number.invariant.left m kept start ∙ ap (tightened m) next) went;
      some = (s.0, s.1, live-rest s.0 n rest (subst (λ xs. AreLive s.0 xs) next s.2), gone-one s.0 c.loop-number.table c.let_go.new.self n rest s.1 (s.3 ∙ ap (tightened s.0) next) went);
    }

pub returns : goal.returns
returns c = λ m kept start.
    c.loop-number.invariant.left m kept start ∙ ap (tightened m) (drop_all c.loop-number.number-index c.args.numbers.now (omega arith)) ∙ tight-none m
