use Rattle.std.proofs.Common.{◌≡◌, suc, ◌+◌, ap, ◌∙◌, sym, drop, [], ◌++◌, ◌∷◌, add-one, drop-cons}
use Rattle.os_meaning.specs.Frames.{subs_by}
use Rattle.os_machine.specs.Plains.{subs_after}
use Rattle.os_machine.proofs.ValueLaws.{ahead}
use Rattle.os_machine.proofs.nodes.subscripts.Goals as goal

pub loop-others-preserved : goal.loop-others-preserved
loop-others-preserved c =
    let i = c.loop-others.others in
    let xs = c.args.values.now in
    let v = c.index-values-others.result in
    let opens : drop i xs ≡ v ∷ drop (suc i) xs = drop-cons xs i v c.loop-others-test.true ∙ ap (λ x. x ∷ drop (suc i) xs) (sym c.index-values-others.is) in
    ap (λ l. subs_after l (subs_by (i + 1) (drop (i + 1) xs))) c.in_ok-push-in-Ok.ensures.ok
    ∙ ap (λ n. subs_after (c.loop-others.subs ++ c.in-Ok.sub ∷ []) (subs_by n (drop n xs))) (add-one i)
    ∙ ahead c.loop-others.subs c.in-Ok.sub i v (drop (suc i) xs) (sym c.in_ok-sub.ensures ∙ c.in-Ok.is)
    ∙ ap (λ l. subs_after c.loop-others.subs (subs_by i l)) (sym opens)
    ∙ c.loop-others.invariant
