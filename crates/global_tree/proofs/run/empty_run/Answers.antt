use Rattle.std.proofs.Common.{◌≡◌, ◌+◌, ◌-◌, ◌<◌, ◌≤◌, zero, suc, [], ◌∷◌, ◌^◌, ℕ, length, get_or, set, OnSome, refl, ap, sym, ◌∙◌, subst, arith}
use Rattle.obj_kinds.specs.declared.node.Node.{Node}
use Rattle.global_tree.specs.declared.place.Place.{Place}
use Rattle.global_tree.specs.Places.{emptied}
use Rattle.global_tree.specs.Run.{emptied_in, empty_one}
use Rattle.global_tree.proofs.Seen.{Places}
use Rattle.global_tree.proofs.RunLaws.{emptied_get, emptied_more}
use Rattle.global_tree.proofs.run.empty_run.Goals as goal

none_yet : (start n : ℕ) (es : Places) → n ≡ 0 → es ≡ emptied_in start n es
none_yet start n es e = start_is start es ∙ ap (λ m. emptied_in start m es) (sym e)
  where
    start_is : (i : ℕ) (es : Places) → es ≡ emptied_in i 0 es
    start_is zero es = refl
    start_is (suc i) [] = refl
    start_is (suc i) (x ∷ es) = ap (λ l. x ∷ l) (start_is i es)

-- the place that comes next is still as it was
next_is : (c : goal.After-empty-arg-1) → c.index_mut.result.now ≡ get_or c.args.places.now.items c.loop-at.at c.index_mut.result.now
next_is c =
    c.index_mut.ensures.value
    ∙ ap (λ l. get_or l c.loop-at.at c.index_mut.result.now) c.loop-at.invariant
    ∙ emptied_get c.args.places.now.items c.args.start (c.loop-at.at - c.args.start) c.loop-at.at c.index_mut.result.now (omega arith)

pub loop-at-init : goal.loop-at-init
loop-at-init c = none_yet c.args.start (c.args.start - c.args.start) c.args.places.now.items (omega arith)

pub empty-requires : goal.empty-requires
empty-requires c =
    subst (λ (e : Node × Place). OnSome e.1.value (e.1.pins + 1 < 2 ^ 64)) (sym (next_is c)) (c.requires.pins c.loop-at.at c.index_mut.result.now (omega arith) (omega arith))

more : (es items : Places) (start at n : ℕ) (e : Node × Place) (p : Place) → start ≤ at → at < length es → items ≡ emptied_in start (at - start) es → e ≡ get_or items at e → p ≡ emptied e.1 → n ≡ suc (at - start) → set items at (e.0, p) ≡ emptied_in start n es
more es items start at n e p le lt is here new next =
    let was : e ≡ get_or es at e = here ∙ ap (λ l. get_or l at e) is ∙ emptied_get es start (at - start) at e (omega arith) in
    (λ i. set (is i) at (e.0, new i))
    ∙ ap (λ x. set (emptied_in start (at - start) es) at (empty_one x)) was
    ∙ emptied_more es start (at - start) at e (omega arith) lt
    ∙ ap (λ m. emptied_in start m es) (sym next)

pub loop-at-preserved : goal.loop-at-preserved
loop-at-preserved c =
    more c.args.places.now.items c.loop-at.places.items c.args.start c.loop-at.at (c.loop-at.at + 1 - c.args.start) c.index_mut.result.now c.empty.new.self
    (omega arith) (omega arith) c.loop-at.invariant c.index_mut.ensures.value c.empty.ensures (omega arith)
