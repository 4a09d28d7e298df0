use Rattle.std.proofs.Common.{subst, sym}
use Rattle.oref_table.specs.Memory.{Memory}
use Rattle.oref_table.specs.Sound.{IsSound}
use Rattle.obj_shape.specs.Fitting.{TableFits}
use Rattle.prop_setting.proofs.SetLaws.{fits-gone}
use Rattle.prop_setting.proofs.changes.drop_given.Goals as goal

pub returns-clause-fits : goal.returns-clause-fits
returns-clause-fits c = λ classes fits.
    subst (λ (x : Memory). TableFits classes x) (sym c.give_back.ensures)
    (fits-gone classes c.args.table.now c.args.with c.soundness.ensures (subst (λ (x : Memory). IsSound x) c.give_back.ensures c.soundness-2.ensures) fits)
