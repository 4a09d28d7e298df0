use Rattle.std.proofs.Common.{inl, refl, sym, ◌∙◌}
use Rattle.process_core.specs.declared.process.Phase.TheVariants as phase
use Rattle.process_core.proofs.Turns.{trying_left, refused}
use Rattle.process_core.proofs.process.Proc.take_lock.Goals as goal

pub returns-in_default : goal.returns-in_default
returns-in_default c =
    let p = c.args.self.now in
    record {
      stands = (c.requires.asked, c.requires.script);
      takes = inl (trying_left (record p { phase = phase.Tries c.args.claim }) c.args.claim refl ∙ sym (refused c.args.reply c.in_default.not-Granted _ _));
      asks = refl;
    }
