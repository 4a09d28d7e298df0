-- A process within no save or delete, and its plain operations.
use Rattle.std.proofs.Common.{◌≡◌, ◌≢◌, ℕ, suc, Bool, true, false, List, [], ◌∷◌, Option, Some, None, refl, sym, ap, subst, ◌∙◌}
use Rattle.obj_kinds.specs.declared.op.Op.{Op}
use Rattle.obj_kinds.specs.declared.op.Op.TheVariants.{End}
use Rattle.obj_kinds.specs.declared.op.Reply.{Reply}
use Rattle.schema_kinds.specs.Worlds.{Change}
use Rattle.store_core.specs.Machine.{is_live, reply}
use Rattle.store_calls.specs.Calls.{Tag, Plain}
use Rattle.object_runs.specs.ObjectMachine.{Desk, Own, Within, desk_at, desk_after, view, within_after}
use Rattle.object_runs.specs.Causes.{IsAt}
use Rattle.object_runs.specs.Runs.{Both}
use Rattle.run_rules.specs.Steps.{WritesNone, MayCome, IsFit, next, Event, step_by, after_all, AreFit}
use Rattle.run_rules.specs.Good.{AreOthers}
use Rattle.run_rules.proofs.Whole.{desk_own, desk_other}
use Rattle.call_rules.specs.Settings.{Setting}

module _ (t : Setting) where
  pub record IsIdle (b : Both) : Type 0 where
    pub whole : t.Inv b
    pub is : (desk_at b.objects t.p.0).within ≡ None

  pub same_desk : (b : Both) (e : Event) → e.pid.0 ≢ t.p.0 → desk_at (step_by b e).objects t.p.0 ≡ desk_at b.objects t.p.0
  same_desk b e ne = desk_other b.objects e.pid.0 e.op (reply b.store e.pid e.op) e.tag t.p.0 (λ is. ne (sym is))

  pub idle_all : (b : Both) (es : List Event) → AreOthers t.p es → AreFit t.classes t.Facts b es → IsIdle b → IsIdle (after_all b es)
  idle_all b [] others fit i = i
  idle_all b (e ∷ es) others fit i = idle_all (step_by b e) es others.1 fit.1 (record {
    whole = t.keeps b e.pid e.op e.tag i.whole fit.0;
    is = ap (λ (x : Desk). x.within) (same_desk b e others.0) ∙ i.is;
  })

  pub idle_next : (b : Both) (op : Op) (tag : Tag) → t.Inv b → IsFit t.classes t.Facts b t.p op tag
      → within_after op (reply b.store t.p op) tag (desk_at b.objects t.p.0).lists (desk_at b.objects t.p.0).within ≡ None → IsIdle (next b t.p op tag)
  unfolding desk_after
  idle_next b op tag w fit e = record {
    whole = t.keeps b t.p op tag w fit;
    is = ap (λ (x : Desk). x.within) (desk_own b.objects t.p.0 op (reply b.store t.p op) tag) ∙ e;
  }

  plain_none : (op : Op) (r : Reply) (cs : List Change) (m : Option Within) → within_after op r Plain cs m ≡ None
  plain_none End r cs m = refl
  plain_none _ r cs m = refl

  pub plain_may : (b : Both) (op : Op) → WritesNone t.classes op → op ≢ End → IsIdle b → MayCome t.classes t.Facts b.store b.objects t.p op Plain
  plain_may b op free ne i = (i.is, free, ne)

  pub plain_next : (b : Both) (op : Op) → is_live b.store t.p ≡ true → WritesNone t.classes op → op ≢ End → IsIdle b → IsIdle (next b t.p op Plain)
  plain_next b op live free ne i =
      idle_next b op Plain i.whole (live, Rattle.std.proofs.Common.inr (plain_may b op free ne i)) (plain_none op (reply b.store t.p op) (desk_at b.objects t.p.0).lists (desk_at b.objects t.p.0).within)

  pub own_next : (b : Both) (op : Op) → (desk_at (next b t.p op Plain).objects t.p.0).own ≡ record { op = op; reply = reply b.store t.p op; view = view b.objects t.p.0 } ∷ (desk_at b.objects t.p.0).own
  unfolding desk_after
  own_next b op = ap (λ (d : Desk). d.own) (desk_own b.objects t.p.0 op (reply b.store t.p op) Plain)

  pub later : (b : Both) (op : Op) (j : ℕ) (P : Own → Type 0) → IsAt (desk_at b.objects t.p.0).own j P → IsAt (desk_at (next b t.p op Plain).objects t.p.0).own (suc j) P
  later b op j P h = subst (λ os. IsAt os (suc j) P) (sym (own_next b op)) (h.0, h.1, h.2)
