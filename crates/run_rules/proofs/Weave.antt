-- Where each process asks only what may come, every entry of a run may come, whatever the schedule.
use Rattle.std.proofs.Common.{◌≡◌, ◌≢◌, ℕ, ◌≤◌, ◌<◌, Bool, true, false, cond, ◌⊎◌, inl, inr, ⊎_elim, List, [], ◌∷◌, ◌++◌, filter, Option, Some, None, is_some, ◌==◌, refl, sym, ap, ◌∙◌, subst, arith}
use Rattle.std.proofs.lemmas.Bool.Decides.{nat_tests}
use Rattle.std.specs.FinMap.{get}
use Rattle.obj_kinds.specs.declared.op.Pid.{Pid}
use Rattle.obj_kinds.specs.declared.op.Op.{Op}
use Rattle.obj_kinds.specs.declared.op.Op.TheVariants.{RollbackOne, End}
use Rattle.obj_kinds.specs.declared.op.Reply.{Reply}
use Rattle.schema_kinds.specs.declared.class.Class.{Class}
use Rattle.schema_kinds.specs.Worlds.{World, Change}
use Rattle.global_tree.specs.Contents.{Globals}
use Rattle.tran_log.specs.Levels.{Levels}
use Rattle.store_core.specs.declared.entry.Entry.{Entry}
use Rattle.store_core.specs.Machine.{State, is_live, is_open, levels_at, left_reply, after, reply, answer, opening}
use Rattle.store_core.specs.History.{IsLegal, IsStep, part_of}
use Rattle.store_core.specs.Live.{is_end}
use Rattle.store_core.proofs.LedgerLaws.{end_live}
use Rattle.store_core.proofs.GuardLaws.{opening_guarded}
use Rattle.host_meaning.specs.declared.ending.Ending.{Ending}
use Rattle.store_calls.specs.Calls.{Call, Give, Ask, Tell, Cut, Tag, Plain, Opens, Inside, Closes, Fails, Told, Step, Asks, Answers, step, answered, told}
use Rattle.object_runs.specs.ObjectMachine.{Desks, Desk, Within, Own, desk_at, desk_after, desks_after, lists_after, world_after, first_desks}
use Rattle.object_runs.specs.Runs.{Meaning, Both, AreAsked, IsProcessOf, Outcome, Runs, tag_by, moved, meaning_after, ran, meaning_ran, start}
use Rattle.object_runs.specs.Causes.{Each}
use Rattle.object_runs.specs.Headline.{told_behind, tag_of, IsUndone, KeepsWorld, FailuresChangeNothing, Opening}
use Rattle.object_runs.specs.Invariant.{row_guard}
use Rattle.run_rules.specs.Steps.{MayCome, IsFit, next, Event, step_by, after_all, AreFit}
use Rattle.run_rules.specs.Structure.{IsStructured}
use Rattle.run_rules.specs.Good.{Truth, AreOthers, Meets, IsGood}
use Rattle.run_rules.specs.Laws.{NoFacts, Anything, KeepsStructure, KeepsWorlds, GoodRunsKeepWorlds}
use Rattle.run_rules.proofs.Held.{same_or, one_pid, live_other}
use Rattle.run_rules.proofs.Whole.{desk_own, desk_other, saving_open}
use Rattle.run_rules.proofs.Step.{whole_step, start_structured, cleared_image, levels_show}

-- each entry of a process is asked by what is left of its call, or its End
abbrev pub AreAskedOrEnd : (Call Ending → Entry → Type 0) → Call Ending → List Entry → Type 0
AreAskedOrEnd IsAsked c [] = Unit {0}
AreAskedOrEnd IsAsked c (e ∷ es) = ((e.op ≡ End) ⊎ IsAsked c e) × AreAskedOrEnd IsAsked (answered c e.reply) es

-- its next operation
abbrev pub IsNext : Call Ending → Entry → Type 0
IsNext c e = (tag : Tag) × (step c ≡ Asks e.op tag)

-- What is asked of a notion of good calls: what another process asks leaves a call good; an entry that is asked may come, and leaves the rest good; what is
-- told is true.
pub record Goodness (classes : List Class) (Facts : State → Desks → Pid → Change → Type 0) (truth : Truth) : Type 1 where
  pub Good : Pid → Call Ending → Both → Type 0
  pub IsAsked : Call Ending → Entry → Type 0
  pub stays : (q : Pid) (c : Call Ending) (b : Both) (e : Event) → e.pid.0 ≢ q.0 → IsFit classes Facts b e.pid e.op e.tag → Good q c b → Good q c (step_by b e)
  pub comes : (c : Call Ending) (b : Both) (e : Entry) → IsAsked c e → Good e.pid c b → is_live b.store e.pid ≡ true
      → MayCome classes Facts b.store b.objects e.pid e.op (tag_by (step c)) × (e.reply ≡ reply b.store e.pid e.op → Good e.pid (answered c e.reply) (next b e.pid e.op (tag_by (step c))))
  pub tells : (q : Pid) (c : Call Ending) (b : Both) → Good q c b → Each (truth (desk_at b.objects q.0).own) (told c)

module _ (classes : List Class) (Facts : State → Desks → Pid → Change → Type 0) (truth : Truth) where
  -- what another process asks leaves a call good
  pub meets_after : {A : Type 0} (q : Pid) (c : Call A) (post : A → Both → Type 0) (b : Both) (e : Event) → ((a : A) → post a b → post a (step_by b e)) → e.pid.0 ≢ q.0 → IsFit classes Facts b e.pid e.op e.tag
      → Meets classes Facts truth q c post b → Meets classes Facts truth q c post (step_by b e)
  meets_after q (Give a) post b e stable ne fit m = stable a m
  meets_after q Cut post b e stable ne fit m = tt
  meets_after q (Tell x c) post b e stable ne fit m = (
    subst (λ (d : Desk). truth d.own x) (sym (desk_other b.objects e.pid.0 e.op (reply b.store e.pid e.op) e.tag q.0 (λ is. ne (sym is)))) m.0,
    meets_after q c post b e stable ne fit m.1,
  )
  meets_after q (Ask op tag k) post b e stable ne fit m = λ es others more. m (e ∷ es) (ne, others) (fit, more)

  -- what is told is true
  pub told_is_true : {A : Type 0} (q : Pid) (c : Call A) (post : A → Both → Type 0) (b : Both) → Meets classes Facts truth q c post b → Each (truth (desk_at b.objects q.0).own) (told c)
  told_is_true q (Give a) post b m = tt
  told_is_true q Cut post b m = tt
  told_is_true q (Ask op tag k) post b m = tt
  told_is_true q (Tell x c) post b m = (m.0, told_is_true q c post b m.1)

  -- the next operation of a live process may come, and leaves the rest good
  asks_fit : {A : Type 0} (p : Pid) (c : Call A) (b : Both) (op : Op) (tag : Tag) → IsGood classes Facts truth p c b → is_live b.store p ≡ true → step c ≡ Asks op tag
      → MayCome classes Facts b.store b.objects p op tag × IsGood classes Facts truth p (answered c (reply b.store p op)) (next b p op tag)
  asks_fit p (Give a) b op tag good live is = absurd (cc is)
  asks_fit p Cut b op tag good live is = absurd (cc is)
  asks_fit p (Tell x c) b op tag good live is = asks_fit p c b op tag good.1 live is
  asks_fit p (Ask op' tag' k) b op tag good live is =
      let g = good [] tt tt live in
      let same_op : op' ≡ op = cc is in
      let same_tag : tag' ≡ tag = cc is in
      subst (λ x. MayCome classes Facts b.store b.objects p op x × IsGood classes Facts truth p (k (reply b.store p op)) (next b p op x)) same_tag
      (subst (λ x. MayCome classes Facts b.store b.objects p x tag' × IsGood classes Facts truth p (k (reply b.store p x)) (next b p x tag')) same_op g)

  pub asked_comes : (c : Call Ending) (b : Both) (e : Entry) → IsNext c e → IsGood classes Facts truth e.pid c b → is_live b.store e.pid ≡ true
      → MayCome classes Facts b.store b.objects e.pid e.op (tag_by (step c))
      × (e.reply ≡ reply b.store e.pid e.op → IsGood classes Facts truth e.pid (answered c e.reply) (next b e.pid e.op (tag_by (step c))))
  asked_comes c b e h good live =
      let m = asks_fit e.pid c b e.op h.0 good live h.1 in
      let tag_is : tag_by (step c) ≡ h.0 = ap tag_by h.1 in (
        subst (MayCome classes Facts b.store b.objects e.pid e.op) (sym tag_is) m.0,
        λ is. subst (λ x. IsGood classes Facts truth e.pid (answered c x) (next b e.pid e.op (tag_by (step c)))) (sym is)
            (subst (λ x. IsGood classes Facts truth e.pid (answered c (reply b.store e.pid e.op)) (next b e.pid e.op x)) (sym tag_is) m.1),
      )

  -- calls of which each operation may come are good
  abbrev pub plain_goodness : Goodness classes Facts truth
  plain_goodness = record {
    Good = λ p c b. IsGood classes Facts truth p c b;
    IsAsked = IsNext;
    stays = λ q c b e ne fit good. meets_after q c (λ a b. Unit {0}) b e (λ a u. tt) ne fit good;
    comes = asked_comes;
    tells = λ q c b good. told_is_true q c (λ a b. Unit {0}) b good;
  }

  -- ---- one entry

  abbrev tag_at : Meaning → Entry → Tag
  tag_at meaning e = tag_by (step (meaning e.pid.0))

  module _ (G : Goodness classes Facts truth) (Inv : Both → Type 0) (keeps : (b : Both) (p : Pid) (op : Op) (tag : Tag) → Inv b → IsFit classes Facts b p op tag → Inv (next b p op tag))
      (has : (b : Both) → Inv b → IsStructured classes b.store b.objects) where
    -- the good meanings of the live processes, and what is left of the history
    pub record IsRunning (meaning : Meaning) (b : Both) (es : List Entry) : Type 0 where
      pub whole : Inv b
      pub good : (q : Pid) → is_live b.store q ≡ true → G.Good q (meaning q.0) b
      pub asked : (q : Pid) → is_live b.store q ≡ true → AreAskedOrEnd G.IsAsked (meaning q.0) (part_of q.0 es)
      pub legal : IsLegal b.store es

    own_same : (e : Entry) (es : List Entry) → part_of e.pid.0 (e ∷ es) ≡ e ∷ part_of e.pid.0 es
    own_same e es = ap (λ b. cond b (e ∷ part_of e.pid.0 es) (part_of e.pid.0 es)) (same e.pid.0)
      where
        same : (p : ℕ) → (p == p) ≡ true
        same p = grind (arith, nat_tests)

    own_other : (q : Pid) (e : Entry) (es : List Entry) → e.pid.0 ≢ q.0 → part_of q.0 (e ∷ es) ≡ part_of q.0 es
    own_other q e es ne = ap (λ b. cond b (e ∷ part_of q.0 es) (part_of q.0 es)) (differ e.pid.0 q.0 ne)
      where
        differ : (p q : ℕ) → p ≢ q → (p == q) ≡ false
        differ p q ne = grind (arith, nat_tests)

    next_of : (meaning : Meaning) (e : Entry) (es : List Entry) → AreAskedOrEnd G.IsAsked (meaning e.pid.0) (part_of e.pid.0 (e ∷ es))
        → ((e.op ≡ End) ⊎ G.IsAsked (meaning e.pid.0) e) × AreAskedOrEnd G.IsAsked (answered (meaning e.pid.0) e.reply) (part_of e.pid.0 es)
    next_of meaning e es a = subst (AreAskedOrEnd G.IsAsked (meaning e.pid.0)) (own_same e es) a

    left_same : (meaning : Meaning) (e : Entry) → meaning_after meaning e e.pid.0 ≡ answered (meaning e.pid.0) e.reply
    left_same meaning e = ap (λ b. cond b (answered (meaning e.pid.0) e.reply) (meaning e.pid.0)) (same e.pid.0)
      where
        same : (p : ℕ) → (p == p) ≡ true
        same p = grind (arith, nat_tests)

    left_other : (meaning : Meaning) (e : Entry) (q : ℕ) → q ≢ e.pid.0 → meaning_after meaning e q ≡ meaning q
    left_other meaning e q ne = ap (λ b. cond b (answered (meaning q) e.reply) (meaning q)) (differ q e.pid.0 ne)
      where
        differ : (p q : ℕ) → p ≢ q → (p == q) ≡ false
        differ p q ne = grind (arith, nat_tests)

    -- a legal entry moves the machines as its operation does
    moved_is : (meaning : Meaning) (b : Both) (e : Entry) → e.reply ≡ reply b.store e.pid e.op → moved meaning b e ≡ next b e.pid e.op (tag_at meaning e)
    moved_is meaning b e is = ap (λ r. record { store = after b.store e.pid e.op; objects = desks_after b.objects e.pid.0 e.op r (tag_at meaning e) }) is

    -- the entry may come, and what it leaves of its process is good where that is still live
    entry_fits : (meaning : Meaning) (b : Both) (e : Entry) (es : List Entry) → IsRunning meaning b (e ∷ es)
        → IsFit classes Facts b e.pid e.op (tag_at meaning e) × (e.op ≢ End → G.Good e.pid (answered (meaning e.pid.0) e.reply) (moved meaning b e))
    entry_fits meaning b e es r =
        let live = r.legal.0.0 in
        ⊎_elim
        (λ is. ((live, inl is), λ ne. absurd (ne is)))
        (λ h. let m = G.comes (meaning e.pid.0) b e h (r.good e.pid live) live in
        ((live, inr m.0), λ ne. subst (G.Good e.pid (answered (meaning e.pid.0) e.reply)) (sym (moved_is meaning b e r.legal.0.1)) (m.1 r.legal.0.1)))
        (next_of meaning e es (r.asked e.pid live)).0

    ended_dead : (s : State) (p : Pid) (op : Op) → op ≡ End → is_live (after s p op) p ≡ true → ⊥
    ended_dead s p op is live = by (end_live s p) (subst (λ x. is_live (after s p x) p ≡ true) is live)
      where
        by : {b : Bool} → b ≡ false → b ≡ true → ⊥
        by e f = cc e

    end_or : (op : Op) → (op ≡ End) ⊎ (op ≢ End)
    end_or op = by op
      where
        by : (op : Op) → (op ≡ End) ⊎ (op ≢ End)
        by End = inl refl
        by _ = inr (λ is. cc is)

    pub running_after : (meaning : Meaning) (b : Both) (e : Entry) (es : List Entry) → IsRunning meaning b (e ∷ es) → IsRunning (meaning_after meaning e) (moved meaning b e) es
    running_after meaning b e es r =
        let f = entry_fits meaning b e es r in
        record {
          whole = subst Inv (sym (moved_is meaning b e r.legal.0.1)) (keeps b e.pid e.op (tag_at meaning e) r.whole f.0);
          good = λ q live. good_at q live (same_or q.0 e.pid.0) f;
          asked = λ q live. asked_at q live (same_or q.0 e.pid.0);
          legal = r.legal.1;
        }
      where
        was_live : (q : Pid) → q.0 ≢ e.pid.0 → is_live (moved meaning b e).store q ≡ true → is_live b.store q ≡ true
        was_live q ne live = ap is_some (sym (live_other b.store e.pid e.op q.0 ne)) ∙ live

        good_at : (q : Pid) → is_live (moved meaning b e).store q ≡ true → (q.0 ≡ e.pid.0) ⊎ (q.0 ≢ e.pid.0)
            → IsFit classes Facts b e.pid e.op (tag_at meaning e) × (e.op ≢ End → G.Good e.pid (answered (meaning e.pid.0) e.reply) (moved meaning b e)) → G.Good q (meaning_after meaning e q.0) (moved meaning b e)
        good_at q live (inl is) f =
            let at_p : is_live (moved meaning b e).store e.pid ≡ true = subst (λ x. is_live (moved meaning b e).store x ≡ true) (one_pid q e.pid is) live in
            subst (λ x. G.Good x (meaning_after meaning e x.0) (moved meaning b e)) (sym (one_pid q e.pid is))
            (subst (λ c. G.Good e.pid c (moved meaning b e)) (sym (left_same meaning e)) (f.1 (λ end. ended_dead b.store e.pid e.op end at_p)))
        good_at q live (inr ne) f =
            let ev : Event = record { pid = e.pid; op = e.op; tag = tag_at meaning e } in
            subst (λ c. G.Good q c (moved meaning b e)) (sym (left_other meaning e q.0 ne))
            (subst (G.Good q (meaning q.0)) (sym (moved_is meaning b e r.legal.0.1))
            (G.stays q (meaning q.0) b ev (λ is. ne (sym is)) f.0 (r.good q (was_live q ne live))))

        asked_at : (q : Pid) → is_live (moved meaning b e).store q ≡ true → (q.0 ≡ e.pid.0) ⊎ (q.0 ≢ e.pid.0) → AreAskedOrEnd G.IsAsked (meaning_after meaning e q.0) (part_of q.0 es)
        asked_at q live (inl is) = subst (λ x. AreAskedOrEnd G.IsAsked (meaning_after meaning e x.0) (part_of x.0 es)) (sym (one_pid q e.pid is)) (subst (λ c. AreAskedOrEnd G.IsAsked c (part_of e.pid.0 es)) (sym (left_same meaning e)) (next_of meaning e es (r.asked e.pid r.legal.0.0)).1)
        asked_at q live (inr ne) = subst (λ c. AreAskedOrEnd G.IsAsked c (part_of q.0 es)) (sym (left_other meaning e q.0 ne)) (subst (AreAskedOrEnd G.IsAsked (meaning q.0)) (own_other q e es (λ is. ne (sym is))) (r.asked q (was_live q ne live)))

    -- ---- the whole history

    -- what a process tells behind an entry is true
    pub told_at : (meaning : Meaning) (b : Both) (e : Entry) (es : List Entry) → IsRunning meaning b (e ∷ es) → Each (truth (desk_at (moved meaning b e).objects e.pid.0).own) (told_behind (meaning_after meaning e) e)
    told_at meaning b e es r = ⊎_elim
        (λ is. subst (λ x. Each (truth (desk_at (moved meaning b e).objects e.pid.0).own) (cond (is_end x) [] (told (meaning_after meaning e e.pid.0)))) (sym is) tt)
        (λ ne. by (is_end e.op) ne)
        (end_or e.op)
      where
        by : (c : Bool) → e.op ≢ End → Each (truth (desk_at (moved meaning b e).objects e.pid.0).own) (cond c [] (told (meaning_after meaning e e.pid.0)))
        by true ne = tt
        by false ne = subst (λ c. Each (truth (desk_at (moved meaning b e).objects e.pid.0).own) (told c)) (sym (left_same meaning e))
            (G.tells e.pid (answered (meaning e.pid.0) e.reply) (moved meaning b e) ((entry_fits meaning b e es r).1 ne))

    -- after a front of the history
    pub running_at : (meaning : Meaning) (b : Both) (es fs : List Entry) → IsRunning meaning b (es ++ fs) → IsRunning (meaning_ran meaning es) (ran meaning b es) fs
    running_at meaning b [] fs r = r
    running_at meaning b (e ∷ es) fs r = running_at (meaning_after meaning e) (moved meaning b e) es fs (running_after meaning b e (es ++ fs) r)

    -- ---- failures change nothing

    top_off : (ls : Levels) (cs : List Change) (before : List Change) → is_open ls ≡ true → cs ≡ [] ∷ before → lists_after RollbackOne (left_reply ls) Fails cs ≡ before
    top_off [] cs before some is = absurd (cc some)
    top_off (l ∷ ls) cs before some is = ap (lists_after RollbackOne (left_reply (l ∷ ls)) Fails) is

    rolled : (b : Both) (p : Pid) → Inv b → (s : Within) → (desk_at b.objects p.0).within ≡ Some s → (desk_at (next b p RollbackOne Fails).objects p.0).lists ≡ s.before
    unfolding desk_after reply answer
    rolled b p i s e =
        let w = has b i in
        ap (λ (d : Desk). d.lists) (desk_own b.objects p.0 RollbackOne (reply b.store p RollbackOne) Fails)
        ∙ top_off (levels_at b.store p.0) (desk_at b.objects p.0).lists s.before (saving_open (levels_at b.store p.0) (desk_at b.objects p.0).lists (desk_at b.objects p.0).within s e (w.aligned p)) (w.before p s e)

    undone_by : (b : Both) (p : Pid) (op : Op) (tag : Tag) → Inv b → MayCome classes Facts b.store b.objects p op tag
        → (o : Option Within) → (desk_at b.objects p.0).within ≡ o → IsUndone o tag (desk_at (next b p op tag).objects p.0)
    undone_by b p op Plain i may None e = tt
    undone_by b p op Plain i may (Some s) e = tt
    undone_by b p op Opens i may None e = tt
    undone_by b p op Opens i may (Some s) e = tt
    undone_by b p op Inside i may None e = tt
    undone_by b p op Inside i may (Some s) e = tt
    undone_by b p op (Closes c) i may None e = tt
    undone_by b p op (Closes c) i may (Some s) e = tt
    undone_by b p op Fails i may None e = tt
    undone_by b p op Fails i may (Some s) e = subst (λ x. (desk_at (next b p x Fails).objects p.0).lists ≡ s.before) (sym may.1) (rolled b p i s e)

    world_kept : (b : Both) (p : Pid) (op : Op) (tag : Tag) → MayCome classes Facts b.store b.objects p op tag → KeepsWorld tag b.objects.world (next b p op tag).objects.world
    unfolding desks_after
    world_kept b p op Plain may = tt
    world_kept b p op Opens may = subst (λ x. (next b p x Opens).objects.world ≡ b.objects.world) (sym may.1) refl
    world_kept b p op (Closes c) may = tt
    world_kept b p op Fails may = subst (λ x. (next b p x Fails).objects.world ≡ b.objects.world) (sym may.1) refl
    world_kept b p op Inside may = by op may.1
      where
        by : (op : Op) → Rattle.run_rules.specs.Steps.IsWithinLevel op → world_after op (reply b.store p op) Inside (desk_at b.objects p.0).lists b.objects.world ≡ b.objects.world
        by Rattle.obj_kinds.specs.declared.op.Op.TheVariants.Commit i = absurd i
        by _ i = refl

    pub failure_at : (meaning : Meaning) (b : Both) (e : Entry) (es : List Entry) → IsRunning meaning b (e ∷ es) → FailuresChangeNothing meaning b e
    failure_at meaning b e es r = ⊎_elim
        (λ is. subst (λ x. let tag = cond (is_end x) Plain (tag_at meaning e) in IsUndone (desk_at b.objects e.pid.0).within tag (desk_at (moved meaning b e).objects e.pid.0) × KeepsWorld tag b.objects.world (moved meaning b e).objects.world) (sym is) (ended (desk_at b.objects e.pid.0).within, tt))
        (λ h. by (is_end e.op) refl (entry_fits meaning b e es r).0.1)
        (next_of meaning e es (r.asked e.pid r.legal.0.0)).0
      where
        ended : (o : Option Within) → IsUndone o Plain (desk_at (moved meaning b e).objects e.pid.0)
        ended None = tt
        ended (Some s) = tt

        by : (c : Bool) → is_end e.op ≡ c → (e.op ≡ End) ⊎ MayCome classes Facts b.store b.objects e.pid e.op (tag_at meaning e)
            → let tag = cond c Plain (tag_at meaning e) in IsUndone (desk_at b.objects e.pid.0).within tag (desk_at (moved meaning b e).objects e.pid.0) × KeepsWorld tag b.objects.world (moved meaning b e).objects.world
        by true f m = (ended (desk_at b.objects e.pid.0).within, tt)
        by false f (inr may) = subst (λ x. IsUndone (desk_at b.objects e.pid.0).within (tag_at meaning e) (desk_at x.objects e.pid.0) × KeepsWorld (tag_at meaning e) b.objects.world x.objects.world) (sym (moved_is meaning b e r.legal.0.1))
            (undone_by b e.pid e.op (tag_at meaning e) r.whole may (desk_at b.objects e.pid.0).within refl, world_kept b e.pid e.op (tag_at meaning e) may)
        by false f (inl is) = absurd (cc (sym (ap is_end is) ∙ f))

-- ---- the laws

pub keeps_structure : KeepsStructure
keeps_structure classes b p op tag whole fit = whole_step classes NoFacts b p op tag whole fit

part_append : (p : ℕ) (es fs : List Entry) → part_of p (es ++ fs) ≡ part_of p es ++ part_of p fs
part_append p [] fs = refl
part_append p (e ∷ es) fs = by (e.pid.0 == p) (part_append p es fs)
  where
    by : (b : Bool) → part_of p (es ++ fs) ≡ part_of p es ++ part_of p fs → cond b (e ∷ part_of p (es ++ fs)) (part_of p (es ++ fs)) ≡ cond b (e ∷ part_of p es) (part_of p es) ++ part_of p fs
    by true h = ap (λ xs. e ∷ xs) h
    by false h = h

asked_then_end : (IsAsked : Call Ending → Entry → Type 0) (c : Call Ending) (es : List Entry) (e : Entry) → e.op ≡ End → AreAskedOrEnd IsAsked c es → AreAskedOrEnd IsAsked c (es ++ e ∷ [])
asked_then_end IsAsked c [] e is asked = (inl is, tt)
asked_then_end IsAsked c (x ∷ es) e is asked = (asked.0, asked_then_end IsAsked (answered c x.reply) es e is asked.1)

pub asked_next : (c : Call Ending) (es : List Entry) → AreAsked c es → AreAskedOrEnd IsNext c es
asked_next c [] asked = tt
asked_next c (e ∷ es) asked = (inr asked.0, asked_next (answered c e.reply) es asked.1)

-- the entries of a process in a history
pub process_asked : (IsAsked : Call Ending → Entry → Type 0) (classes : List Class) (c : Call Ending) (most : ℕ) (s : State) (p : Pid) (history : List Entry) (o : Outcome) (is : IsProcessOf classes c most s p history o)
    → AreAskedOrEnd IsAsked c is.own → AreAskedOrEnd IsAsked c (part_of p.0 history)
process_asked IsAsked classes c most s p history o is asked = subst (AreAskedOrEnd IsAsked c) (sym parts) (asked_then_end IsAsked c is.own is.last is.is_end.1 asked)
  where
    same : (q : ℕ) → (q == q) ≡ true
    same q = grind (arith, nat_tests)

    parts : part_of p.0 history ≡ is.own ++ is.last ∷ []
    parts =
        ap (part_of p.0) is.parts ∙ part_append p.0 is.front (is.last ∷ is.rest)
        ∙ ap (λ xs. xs ++ part_of p.0 (is.last ∷ is.rest)) is.entries
        ∙ ap (λ b. is.own ++ cond b (is.last ∷ part_of p.0 is.rest) (part_of p.0 is.rest)) (ap (λ q. q == p.0) (ap (λ (q : Pid). q.0) is.is_end.0) ∙ same p.0)
        ∙ ap (λ xs. is.own ++ is.last ∷ xs) is.no_more

module _ (classes : List Class) (Facts : State → Desks → Pid → Change → Type 0) (truth : Truth) (G : Goodness classes Facts truth) (Inv : Both → Type 0)
    (keeps : (b : Both) (p : Pid) (op : Op) (tag : Tag) → Inv b → IsFit classes Facts b p op tag → Inv (next b p op tag)) (has : (b : Both) → Inv b → IsStructured classes b.store b.objects) where
  pub start_running : (meaning : Meaning) (pids most : ℕ) (g : Globals) (w : World) (history : List Entry) (outcome : ℕ → Outcome) → Inv (start pids g w) → (runs : Runs classes meaning pids most g history outcome)
      → ((p : Pid) → 1 ≤ p.0 → p.0 ≤ pids → G.Good p (meaning p.0) (start pids g w))
      → ((p : Pid) (from : 1 ≤ p.0) (to : p.0 ≤ pids) → AreAskedOrEnd G.IsAsked (meaning p.0) (runs.processes p from to).own)
      → IsRunning classes Facts truth G Inv keeps has meaning (start pids g w) history
  start_running meaning pids most g w history outcome i runs good asked = record {
    whole = i;
    good = λ q live. let n = (opening_guarded (row_guard classes) pids g).numbered q live in good q (omega (arith, n.0)) n.1;
    asked = λ q live. let n = (opening_guarded (row_guard classes) pids g).numbered q live in
        process_asked G.IsAsked classes (meaning q.0) most (opening pids g) q history (outcome q.0) (runs.processes q (omega (arith, n.0)) n.1) (asked q (omega (arith, n.0)) n.1);
    legal = runs.legal.0;
  }

  pub keeps_worlds : (meaning : Meaning) (b : Both) (history : List Entry) → IsRunning classes Facts truth G Inv keeps has meaning b history → KeepsWorlds classes meaning b history
  keeps_worlds meaning b history r = record {
    whole = λ es fs is. let h = running_at classes Facts truth G Inv keeps has meaning b es fs (subst (IsRunning classes Facts truth G Inv keeps has meaning b) (sym is) r) in
        cleared_image classes (ran meaning b es).store (ran meaning b es).objects (has (ran meaning b es) h.whole);
    levels = λ es fs is. let h = running_at classes Facts truth G Inv keeps has meaning b es fs (subst (IsRunning classes Facts truth G Inv keeps has meaning b) (sym is) r) in
        levels_show classes (ran meaning b es).store (ran meaning b es).objects (has (ran meaning b es) h.whole);
    failures = λ es fs e is. let h = running_at classes Facts truth G Inv keeps has meaning b es (e ∷ fs) (subst (IsRunning classes Facts truth G Inv keeps has meaning b) (sym is) r) in
        failure_at classes Facts truth G Inv keeps has (meaning_ran meaning es) (ran meaning b es) e fs h;
  }

pub good_runs_keep_worlds : GoodRunsKeepWorlds
good_runs_keep_worlds classes meaning pids most g w history outcome opens runs good =
    let Inv : Both → Type 0 = λ b. IsStructured classes b.store b.objects in
    let keeps : (b : Both) (p : Pid) (op : Op) (tag : Tag) → Inv b → IsFit classes NoFacts b p op tag → Inv (next b p op tag) = whole_step classes NoFacts in
    let has : (b : Both) → Inv b → IsStructured classes b.store b.objects = λ b i. i in
    keeps_worlds classes NoFacts Anything (plain_goodness classes NoFacts Anything) Inv keeps has meaning (start pids g w) history
    (start_running classes NoFacts Anything (plain_goodness classes NoFacts Anything) Inv keeps has meaning pids most g w history outcome (start_structured classes pids g w opens) runs good
    (λ p from to. asked_next (meaning p.0) (runs.processes p from to).own (runs.processes p from to).asked))
