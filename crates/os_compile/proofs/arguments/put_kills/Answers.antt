use Rattle.std.proofs.Common.{◌≡◌, [], ◌∷◌, map, reverse, sym, ap, ◌∙◌}
use Rattle.os_meaning.specs.Tree.{place_of}
use Rattle.os_code.specs.Coding.{kills_code}
use Rattle.os_compile.proofs.Blocks.{kill_put}
use Rattle.os_compile.proofs.Loops.{all_yielded, one_more}
use Rattle.os_compile.proofs.arguments.put_kills.Goals as goal

pub returns : goal.returns
returns c =
    let all : map (λ b. b.now) (reverse c.loop-place.yielded) ≡ c.args.places.now = all_yielded c.args.places.now c.loop-place.yielded _ _ _ (cc) c.loop-place.yielded_by c.in-None.ensures.steps in
    c.loop-place.invariant ∙ ap (λ xs. kills_code c.args.line (map place_of (xs)) c.args.out.now) all

pub loop-place-preserved : goal.loop-place-preserved
loop-place-preserved c =
    c.in_ok-put_kill.ensures
    ∙ ap (λ l. kills_code c.args.line (place_of c.in-Some.place.now ∷ []) l) c.loop-place.invariant
    ∙ kill_put c.args.line (place_of c.in-Some.place.now) (map place_of (map (λ b. b.now) (reverse c.loop-place.yielded))) c.args.out.now
    ∙ sym (ap (λ xs. kills_code c.args.line xs c.args.out.now) (one_more place_of c.loop-place.yielded c.in-Some.place))
