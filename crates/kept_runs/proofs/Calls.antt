-- Rules for calls that are good up to a mark of a raw write or a low level.
use Rattle.std.proofs.Common.{◌≡◌, ◌≢◌, ℕ, Bool, true, false, ◌||◌, ⊎_elim, List, [], ◌∷◌, refl, sym, ap, subst, ◌∙◌}
use Rattle.std.specs.List.{list_any}
use Rattle.obj_kinds.specs.declared.op.Pid.{Pid}
use Rattle.obj_kinds.specs.declared.op.Op.{Op}
use Rattle.obj_kinds.specs.declared.op.Op.TheVariants.{Set, Kill, Incr, End}
use Rattle.schema_kinds.specs.declared.class.Class.{Class}
use Rattle.schema_kinds.specs.Worlds.{Change}
use Rattle.store_core.specs.declared.entry.Entry.{Entry}
use Rattle.store_core.specs.Machine.{State, is_live, reply}
use Rattle.store_calls.specs.Calls.{Call, Give, Ask, Tell, Cut, Tag, Plain, Told, Step, Asks, bind, step, told, answered}
use Rattle.host_meaning.specs.declared.ending.Ending.{Ending}
use Rattle.object_runs.specs.ObjectMachine.{Desks, Desk, desk_at}
use Rattle.object_runs.specs.Causes.{Each}
use Rattle.object_runs.specs.Runs.{Both, tag_by}
use Rattle.run_rules.specs.Steps.{WritesNone, MayCome, IsFit, Event, next, step_by}
use Rattle.run_rules.specs.Good.{Truth, AreOthers, Meets}
use Rattle.run_rules.proofs.Whole.{desk_other}
use Rattle.run_rules.proofs.Weave.{Goodness}
use Rattle.kept_runs.specs.Kept.{is_raw_write, is_low_told, IsKeptNext, MeetsKept, IsKeptGood}

-- a script's operation that is no raw write writes no global of the schema
pub writes_none : (classes : List Class) (op : Op) → is_raw_write classes op Plain ≡ false → WritesNone classes op
writes_none classes (Set n v) e = e
writes_none classes (Kill n) e = e
writes_none classes (Incr n k) e = e
writes_none classes _ e = tt

bracketed : (a b c : Bool) → (a || (b || c)) ≡ false → ((a || b) || c) ≡ false
bracketed true b c e = absurd (cc e)
bracketed false b c e = e

module _ (classes : List Class) (Facts : State → Desks → Pid → Change → Type 0) (truth : Truth) (p : Pid) where
  -- what may come whatever was told may come here
  pub meets_kept : {A : Type 0} (c : Call A) (low : Bool) (post : A → Both → Type 0) (b : Both) → Meets classes Facts truth p c post b → MeetsKept classes Facts truth p c low post b
  meets_kept (Give a) low post b m = m
  meets_kept Cut low post b m = tt
  meets_kept (Tell x c) low post b m = (m.0, meets_kept c (low || is_low_told x) post b m.1)
  meets_kept (Ask op tag k) low post b m = λ no_low no_raw no_end es others fit live. let h = m es others fit live in (h.0, meets_kept (k _) false post _ h.1)

  pub kept_bind : {A B : Type 0} (c : Call A) (f : A → Call B) (low : Bool) (mid : A → Both → Type 0) (post : B → Both → Type 0) (b : Both) → MeetsKept classes Facts truth p c low mid b
      → ((a : A) (low : Bool) (b : Both) → mid a b → MeetsKept classes Facts truth p (f a) low post b) → MeetsKept classes Facts truth p (bind c f) low post b
  kept_bind (Give a) f low mid post b m next = next a low b m
  kept_bind Cut f low mid post b m next = tt
  kept_bind (Tell x c) f low mid post b m next = (m.0, kept_bind c f (low || is_low_told x) mid post b m.1 next)
  kept_bind (Ask op tag k) f low mid post b m next = λ no_low no_raw no_end es others fit live. let h = m no_low no_raw no_end es others fit live in (h.0, kept_bind (k _) f false mid post _ h.1 next)

  pub kept_post : {A : Type 0} (c : Call A) (low : Bool) (mid post : A → Both → Type 0) (b : Both) → ((a : A) (b : Both) → mid a b → post a b)
      → MeetsKept classes Facts truth p c low mid b → MeetsKept classes Facts truth p c low post b
  kept_post (Give a) low mid post b to m = to a b m
  kept_post Cut low mid post b to m = tt
  kept_post (Tell x c) low mid post b to m = (m.0, kept_post c (low || is_low_told x) mid post b to m.1)
  kept_post (Ask op tag k) low mid post b to m = λ no_low no_raw no_end es others fit live. let h = m no_low no_raw no_end es others fit live in (h.0, kept_post (k _) false mid post _ to h.1)

-- ---- a notion of good calls

module _ (classes : List Class) (Facts : State → Desks → Pid → Change → Type 0) (truth : Truth) where
  pub stays : (q : Pid) (c : Call Ending) (low : Bool) (b : Both) (e : Event) → e.pid.0 ≢ q.0 → IsFit classes Facts b e.pid e.op e.tag
      → MeetsKept classes Facts truth q c low (λ a b. Unit {0}) b → MeetsKept classes Facts truth q c low (λ a b. Unit {0}) (step_by b e)
  stays q (Give a) low b e ne fit m = tt
  stays q Cut low b e ne fit m = tt
  stays q (Tell x c) low b e ne fit m = (
    subst (λ (d : Desk). truth d.own x) (sym (desk_other b.objects e.pid.0 e.op (reply b.store e.pid e.op) e.tag q.0 (λ is. ne (sym is)))) m.0,
    stays q c (low || is_low_told x) b e ne fit m.1,
  )
  stays q (Ask op tag k) low b e ne fit m = λ no_low no_raw no_end es others more. m no_low no_raw no_end (e ∷ es) (ne, others) (fit, more)

  pub tells : (q : Pid) (c : Call Ending) (low : Bool) (b : Both) → MeetsKept classes Facts truth q c low (λ a b. Unit {0}) b → Each (truth (desk_at b.objects q.0).own) (told c)
  tells q (Give a) low b m = tt
  tells q Cut low b m = tt
  tells q (Ask op tag k) low b m = tt
  tells q (Tell x c) low b m = (m.0, tells q c (low || is_low_told x) b m.1)

  abbrev Comes : Call Ending → Both → Pid → Op → Tag → Type 0
  Comes c b p op tag = MayCome classes Facts b.store b.objects p op tag × MeetsKept classes Facts truth p (answered c (reply b.store p op)) false (λ a b. Unit {0}) (next b p op tag)

  comes : (p : Pid) (c : Call Ending) (low : Bool) (b : Both) (op : Op) (tag : Tag) → MeetsKept classes Facts truth p c low (λ a b. Unit {0}) b → is_live b.store p ≡ true → step c ≡ Asks op tag
      → is_raw_write classes op tag ≡ false → op ≢ End → (low || list_any is_low_told (told c)) ≡ false → Comes c b p op tag
  comes p (Give a) low b op tag m live is raw end quiet = absurd (cc is)
  comes p Cut low b op tag m live is raw end quiet = absurd (cc is)
  comes p (Tell x c) low b op tag m live is raw end quiet = comes p c (low || is_low_told x) b op tag m.1 live is raw end (bracketed low (is_low_told x) (list_any is_low_told (told c)) quiet)
  comes p (Ask op' tag' k) low b op tag m live is raw end quiet =
      let same_op : op' ≡ op = cc is in
      let same_tag : tag' ≡ tag = cc is in
      let g = m (first low quiet) (ap (λ x. is_raw_write classes x tag') same_op ∙ ap (is_raw_write classes op) same_tag ∙ raw) (λ e. end (sym same_op ∙ e)) [] tt tt live in
      subst (λ x. Comes (Ask op' tag' k) b p op x) same_tag (subst (λ x. Comes (Ask op' tag' k) b p x tag') same_op g)
    where
      first : (a : Bool) → (a || false) ≡ false → a ≡ false
      first true e = absurd (cc e)
      first false e = refl

  pub asked_comes : (c : Call Ending) (b : Both) (e : Entry) → IsKeptNext classes c e → IsKeptGood classes Facts truth e.pid c b → is_live b.store e.pid ≡ true
      → MayCome classes Facts b.store b.objects e.pid e.op (tag_by (step c))
      × (e.reply ≡ reply b.store e.pid e.op → IsKeptGood classes Facts truth e.pid (answered c e.reply) (next b e.pid e.op (tag_by (step c))))
  asked_comes c b e h good live =
      let m = comes e.pid c false b e.op h.0 good live h.1 h.2 h.3 h.4 in
      let tag_is : tag_by (step c) ≡ h.0 = ap tag_by h.1 in (
        subst (MayCome classes Facts b.store b.objects e.pid e.op) (sym tag_is) m.0,
        λ is. subst (λ x. IsKeptGood classes Facts truth e.pid (answered c x) (next b e.pid e.op (tag_by (step c)))) (sym is)
            (subst (λ x. IsKeptGood classes Facts truth e.pid (answered c (reply b.store e.pid e.op)) (next b e.pid e.op x)) (sym tag_is) m.1),
      )

  abbrev pub kept_goodness : Goodness classes Facts truth
  kept_goodness = record {
    Good = λ p c b. IsKeptGood classes Facts truth p c b;
    IsAsked = IsKeptNext classes;
    stays = λ q c b e ne fit good. stays q c false b e ne fit good;
    comes = asked_comes;
    tells = λ q c b good. tells q c false b good;
  }
