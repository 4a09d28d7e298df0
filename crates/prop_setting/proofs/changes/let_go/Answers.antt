use Rattle.std.proofs.Common.{◌∷◌, [], subst, sym}
use Rattle.oref_table.specs.Memory.{Memory}
use Rattle.oref_table.specs.Sound.{IsSound}
use Rattle.obj_shape.specs.Fitting.{TableFits}
use Rattle.prop_setting.specs.Elements.{given_back}
use Rattle.prop_setting.proofs.SetLaws.{fits-let_go}
use Rattle.prop_setting.proofs.changes.let_go.Goals as goal

pub returns-clause-memory : goal.returns-clause-memory
unfolding given_back
returns-clause-memory c = c.let_go.ensures.memory

pub returns-clause-fits : goal.returns-clause-fits
returns-clause-fits c = λ classes fits.
    subst (λ (x : Memory). TableFits classes x) (sym c.let_go.ensures.memory)
    (fits-let_go classes c.args.table.now (c.args.held.number ∷ []) c.soundness.ensures (subst (λ (x : Memory). IsSound x) c.let_go.ensures.memory c.soundness-2.ensures) fits)
