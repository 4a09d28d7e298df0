use Rattle.std.proofs.Common.{None, refl, sym, ap, ◌∙◌}
use Rattle.os_code.specs.Machine.{flat}
use Rattle.host_meaning.specs.Samples.{no_objects}
use Rattle.frame_stack.proofs.StackLaws.{scripts_begin}
use Rattle.process_core.specs.Left.{alone}
use Rattle.process_core.proofs.Turns.{begun_alone, running_left}
use Rattle.process_core.proofs.process.Proc.new.Goals as goal

pub returns-clause-stands : goal.returns-clause-stands
returns-clause-stands c script is =
    let at = begun_alone script c.new-3.result (record { machine = c.new-2.result; declarer = None; called_on = None }) c.args.code.now c.new-3.ensures.top c.new-3.ensures.alone refl refl c.new-2.ensures.ready (λ n. c.new-2.ensures.frame n ∙ ap (λ v. flat None n c.args.code.now v) c.new.ensures) is in
    ((scripts_begin no_objects alone c.args.limits.now.fuel script c.new-3.result at).0, at.1)

pub returns-clause-means : goal.returns-clause-means
returns-clause-means c script is =
    let at = begun_alone script c.new-3.result (record { machine = c.new-2.result; declarer = None; called_on = None }) c.args.code.now c.new-3.ensures.top c.new-3.ensures.alone refl refl c.new-2.ensures.ready (λ n. c.new-2.ensures.frame n ∙ ap (λ v. flat None n c.args.code.now v) c.new.ensures) is in
    running_left _ refl ∙ sym (scripts_begin no_objects alone c.args.limits.now.fuel script c.new-3.result at).1
