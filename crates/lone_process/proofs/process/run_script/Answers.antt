use Rattle.std.proofs.Common.{◌≡◌, IfOk, ◌∙◌, subst}
use Rattle.lone_process.specs.Plays.{fresh, plays}
use Rattle.lone_process.proofs.Playing.{means}
use Rattle.lone_process.proofs.process.run_script.Goals as goal

pub returns : goal.returns
returns c =
    subst (λ f. IfOk c.play.result (λ end. plays f fresh c.args.store.now c.args.out.now ≡ (end, (c.play.new.out, c.play.new.store)))) (means c.args.script.now c.as_slice.result.now c.args.units (c.as_slice.ensures ∙ c.in_ok-code.ensures)) c.play.ensures
