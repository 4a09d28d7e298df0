use Rattle.std.proofs.Common.{◌≡◌, ℕ, List, Result, Err, ◌∙◌, ap, subst, inl, inr}
use Rattle.std.proofs.lemmas.Result.{err_from_is_err_and}
use Rattle.first_path.specs.Lines.{New, Fill, Save}
use Rattle.first_path.specs.LineReading.{new_in}
use Rattle.first_path.specs.Reading.{IsUnderstood, IsNoAct}
use Rattle.first_path.proofs.LineParts.{line_in-new, line_in-fill, line_in-save, line_in-none}
use Rattle.first_path.proofs.script.Reading.turn.Goals as goal

same_error : {T E : Type 0} (r : Result T E) (e y d : E) → r ≡ Err y → y ≡ e → r ≡ Err d → e ≡ d
same_error r e y d is same refused = cc

pub returns-in-Some-clause-ok : goal.returns-in-Some-clause-ok
returns-in-Some-clause-ok c =
    let found = c.in-Some.ensures ∙ ap (λ name. new_in name c.args.text.now) c.as_slice.ensures in (
      New c.in-Some.found.piece.now,
      line_in-new c.args.class.now.name.0 c.args.text.now _ found,
      subst (λ (props : List (List ℕ)). IsUnderstood props (New c.in-Some.found.piece.now) c.args.self.now c.make.new.self) c.as_slice-in-Some.ensures c.in_ok-make.ensures,
    )

pub returns-in-Some-fill_line_at-clause-ok : goal.returns-in-Some-fill_line_at-clause-ok
returns-in-Some-fill_line_at-clause-ok c =
    let none = c.in_default.ensures ∙ ap (λ name. new_in name c.args.text.now) c.as_slice.ensures in
    let setting = c.in-Some-fill_line_at.setting in
    let line = Fill setting.var.now setting.prop.now setting.text.now in (
      line,
      line_in-fill c.args.class.now.name.0 c.args.text.now _ none c.in-Some-fill_line_at.ensures,
      subst (λ (props : List (List ℕ)). IsUnderstood props line c.args.self.now c.fill.new.self) c.as_slice-in-Some-fill_line_at.ensures c.in_ok-fill.ensures.ok,
    )

pub returns-in_err-fill-clause-refused : goal.returns-in_err-fill-clause-refused
returns-in_err-fill-clause-refused c refused =
    let none = c.in_default.ensures ∙ ap (λ name. new_in name c.args.text.now) c.as_slice.ensures in
    let setting = c.in-Some-fill_line_at.setting in
    let line = Fill setting.var.now setting.prop.now setting.text.now in
    let exit = err_from_is_err_and c.from_residual-in_err-fill.result c.from_residual-in_err-fill.ensures.1 in
    let no_act = c.in_err-fill.ensures.refused (ap Err (same_error _ _ _ _ exit.1 exit.2 refused)) in
    inr (
      line,
      setting.rest.now,
      line_in-fill c.args.class.now.name.0 c.args.text.now _ none c.in-Some-fill_line_at.ensures,
      subst (λ (props : List (List ℕ)). IsNoAct props line c.args.self.now) c.as_slice-in-Some-fill_line_at.ensures no_act,
    )

pub returns-in-Some-save_line_at-clause-ok : goal.returns-in-Some-save_line_at-clause-ok
returns-in-Some-save_line_at-clause-ok c =
    let none = c.in_default.ensures ∙ ap (λ name. new_in name c.args.text.now) c.as_slice.ensures in
    let line = Save c.in-Some-save_line_at.found.piece.now in (
      line,
      line_in-save c.args.class.now.name.0 c.args.text.now _ none c.in_default-fill_line_at.ensures c.in-Some-save_line_at.ensures,
      subst (λ (props : List (List ℕ)). IsUnderstood props line c.args.self.now c.save.new.self) c.as_slice-in-Some-save_line_at.ensures c.in_ok-save.ensures.ok,
    )

pub returns-in_err-save-clause-refused : goal.returns-in_err-save-clause-refused
returns-in_err-save-clause-refused c refused =
    let none = c.in_default.ensures ∙ ap (λ name. new_in name c.args.text.now) c.as_slice.ensures in
    let line = Save c.in-Some-save_line_at.found.piece.now in
    let exit = err_from_is_err_and c.from_residual-in_err-save.result c.from_residual-in_err-save.ensures.1 in
    let no_act = c.in_err-save.ensures.refused (ap Err (same_error _ _ _ _ exit.1 exit.2 refused)) in
    inr (
      line,
      c.in-Some-save_line_at.found.rest.now,
      line_in-save c.args.class.now.name.0 c.args.text.now _ none c.in_default-fill_line_at.ensures c.in-Some-save_line_at.ensures,
      subst (λ (props : List (List ℕ)). IsNoAct props line c.args.self.now) c.as_slice-in-Some-save_line_at.ensures no_act,
    )

pub returns-clause-refused : goal.returns-clause-refused
returns-clause-refused c refused =
    let none = c.in_default.ensures ∙ ap (λ name. new_in name c.args.text.now) c.as_slice.ensures in
    inl (line_in-none c.args.class.now.name.0 c.args.text.now none c.in_default-fill_line_at.ensures c.in_default-save_line_at.ensures)
