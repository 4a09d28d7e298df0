use Rattle.std.proofs.Common.{◌≡◌, ◌+◌, ◌==◌, Result, Ok, Err, OnOk, IfErr, ap, sym, ◌∙◌}
use Rattle.std.specs.Option.{option_copied_mut}
use Rattle.obj_kinds.specs.declared.memory.Lack.TheVariants.{Count}
use Rattle.oref_table.specs.declared.obj.Obj.{Obj}
use Rattle.oref_table.specs.Entries.{raised}
use Rattle.oref_table.specs.Rows.{IsRowEdit}
use Rattle.oref_table.proofs.RowLaws.{numbered, edit-none, edit-some, edit-back, held-at, raised-idle}
use Rattle.oref_table.proofs.edits.raise.Goals as goal

pub returns-in-None-clause-ok : goal.returns-in-None-clause-ok
returns-in-None-clause-ok c =
    edit-none c.args.number raised c.args.rows.now.entries c.get_mut.follows.lender-at-none.entries
    (sym c.get_mut.ensures.value ∙ ap option_copied_mut c.in-None.is) (ap (λ m. m.entries) c.get_mut.follows.holds-at-none)

on-ok : {X E : Type 0} (P Q : Type 0) (r : Result X E) → (P → Q) → OnOk r P → OnOk r Q
on-ok P Q (Ok x) h i = h i
on-ok P Q (Err e) h i = tt

if-err : {X E : Type 0} (P Q : E → Type 0) (r : Result X E) → ((e : E) → P e → Q e) → IfErr r P → IfErr r Q
if-err P Q (Ok x) h i = tt
if-err P Q (Err e) h i = h e i

pub returns-in-Some-clause-ok : goal.returns-in-Some-clause-ok
returns-in-Some-clause-ok c =
    on-ok (c.raise_count.new.obj ≡ record c.in-Some.obj.now { count = c.in-Some.obj.now.count + 1 }) (IsRowEdit c.args.number raised c.args.rows.now.entries (c.get_mut.follows.lender c.raise_count.new.obj).entries) c.raise_count.result
    (λ e. edit-some c.args.number raised c.in-Some.obj.now c.raise_count.new.obj c.args.rows.now.entries (c.get_mut.follows.lender c.raise_count.new.obj).entries
    (sym c.get_mut.ensures.value ∙ ap option_copied_mut c.in-Some.is) (c.get_mut.follows.holds c.raise_count.new.obj).0
    (ap (numbered c.args.number) (sym e))
    (ap (λ (o : Obj). o.count == 0) e ∙ raised-idle c.in-Some.obj.now.count (held-at c.args.number c.in-Some.obj.now c.args.rows.now.entries (sym c.get_mut.ensures.value ∙ ap option_copied_mut c.in-Some.is) c.requires)))
    c.raise_count.ensures.ok

pub returns-in-Some-clause-err : goal.returns-in-Some-clause-err
returns-in-Some-clause-err c =
    if-err (λ e. (e ≡ Count) × (c.raise_count.new.obj ≡ c.in-Some.obj.now)) (λ e. (e ≡ Count) × ((c.get_mut.follows.lender c.raise_count.new.obj).entries ≡ c.args.rows.now.entries)) c.raise_count.result
    (λ e h. (h.0, edit-back c.args.number c.in-Some.obj.now c.raise_count.new.obj c.args.rows.now.entries (c.get_mut.follows.lender c.raise_count.new.obj).entries (sym c.get_mut.ensures.value ∙ ap option_copied_mut c.in-Some.is) (c.get_mut.follows.holds c.raise_count.new.obj).0 h.1))
    c.raise_count.ensures.err
