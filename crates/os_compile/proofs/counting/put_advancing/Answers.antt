use Rattle.std.proofs.Common.{◌≡◌, ◌∷◌, ap, ◌∙◌}
use Rattle.os_code.specs.declared.instruction.Instruction.TheVariants as i
use Rattle.os_code.specs.Coding.{is_bounded}
use Rattle.os_compile.specs.Pieces.{counting_of}
use Rattle.os_compile.proofs.Loops.{made}
use Rattle.os_compile.proofs.Blocks.{bounded_is, advancing_put}
use Rattle.os_compile.proofs.counting.put_advancing.Goals as goal

pub returns : goal.returns
returns c =
    let n = counting_of c.args.counting.now in
    let there : c.is_some-bounded.result ≡ is_bounded c.args.line n.last = c.is_some-bounded.ensures ∙ bounded_is c.args.line c.args.counting.now.last in
    let all : c.put.new.self ≡ i.Advance n.variable c.is_some-bounded.result c.distance-jump.result c.args.line ∷ c.args.turn =
    c.in_ok-put.ensures ∙ ap (λ v. i.Advance v c.is_some-bounded.result c.distance-jump.result c.args.line ∷ c.args.turn) c.in_ok-variable.ensures in
    made c.put_loop.result c.put_loop.new.out _ _ c.put_loop.ensures
    (advancing_put c.args.line n c.is_some-bounded.result c.distance-jump.result c.args.turn c.put.new.self c.args.out.now there c.distance-jump.ensures all)
