use Rattle.std.proofs.Common.{◌≡◌, [], ◌++◌, length, sym, ap, subst, ◌∙◌, arith}
use Rattle.schema_kinds.specs.Links.{row, mark_all, news, unmarked, IsWithin}
use Rattle.schema_kinds.proofs.Closure.{Worked, Worked-next, Worked-end, row-inside, turn-smaller}
use Rattle.schema_kinds.proofs.links.marks_above.Goals as goal

pub mark_row-requires : goal.mark_row-requires
mark_row-requires c =
    let worked = subst (Worked c.args.links.now c.args.start c.loop-place.marks) c.in-Some.ensures c.loop-place.invariant in
    subst (λ r. IsWithin r (length c.loop-place.marks)) (sym c.row_at.ensures)
    (row-inside c.args.links.now c.args.start c.loop-place.marks c.pop.new.self c.in-Some.place worked c.requires.within)

pub loop-place-smaller : goal.loop-place-smaller
loop-place-smaller c =
    let worked = subst (Worked c.args.links.now c.args.start c.loop-place.marks) c.in-Some.ensures c.loop-place.invariant in
    let fewer = turn-smaller c.args.links.now c.args.start c.loop-place.marks c.pop.new.self c.in-Some.place worked c.requires.within in
    let marks : c.mark_row.new.marks ≡ mark_all (row c.args.links.now c.in-Some.place) c.loop-place.marks = c.in_ok-mark_row.ensures.marks ∙ ap (λ r. mark_all r c.loop-place.marks) c.row_at.ensures in
    let ahead : c.mark_row.new.ahead ≡ c.pop.new.self ++ news (row c.args.links.now c.in-Some.place) c.loop-place.marks = c.in_ok-mark_row.ensures.ahead ∙ ap (λ r. c.pop.new.self ++ news r c.loop-place.marks) c.row_at.ensures in
    let was = ap length c.in-Some.ensures in
    omega (arith, fewer, was, ap unmarked marks, ap length ahead)

pub loop-place-preserved : goal.loop-place-preserved
loop-place-preserved c =
    let worked = subst (Worked c.args.links.now c.args.start c.loop-place.marks) c.in-Some.ensures c.loop-place.invariant in
    let marks : c.mark_row.new.marks ≡ mark_all (row c.args.links.now c.in-Some.place) c.loop-place.marks = c.in_ok-mark_row.ensures.marks ∙ ap (λ r. mark_all r c.loop-place.marks) c.row_at.ensures in
    let ahead : c.mark_row.new.ahead ≡ c.pop.new.self ++ news (row c.args.links.now c.in-Some.place) c.loop-place.marks = c.in_ok-mark_row.ensures.ahead ∙ ap (λ r. c.pop.new.self ++ news r c.loop-place.marks) c.row_at.ensures in
    subst (λ ms. Worked c.args.links.now c.args.start ms c.mark_row.new.ahead) (sym marks)
    (subst (Worked c.args.links.now c.args.start (mark_all (row c.args.links.now c.in-Some.place) c.loop-place.marks)) (sym ahead)
    (Worked-next c.args.links.now c.args.start c.loop-place.marks c.pop.new.self c.in-Some.place worked c.requires.within))

pub returns : goal.returns
returns c =
    let none : c.loop-place.ahead ≡ [] = c.in_default.ensures.0 in
    Worked-end c.args.links.now c.args.start c.loop-place.marks (subst (Worked c.args.links.now c.args.start c.loop-place.marks) none c.loop-place.invariant)
