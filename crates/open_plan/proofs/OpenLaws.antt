-- Openings by their phases.
use Rattle.std.proofs.Common.{◌≡◌, ℕ, suc, true, false, cond, List, [], Option, None, Some, Result, Ok, Err, refl, sym, ap, subst, ◌∙◌}
use Rattle.std.specs.Prelude.{nat_lt}
use Rattle.std.specs.Option.{IsSomeAnd, option_map}
use Rattle.obj_kinds.specs.declared.name.ClassName.{ClassName}
use Rattle.obj_kinds.specs.declared.cause.Cause.{Cause}
use Rattle.obj_kinds.specs.declared.cause.Cause.TheVariants.{OtherClass}
use Rattle.obj_kinds.specs.declared.op.Op.{Op}
use Rattle.obj_kinds.specs.declared.op.Reply.{Reply}
use Rattle.schema_kinds.specs.declared.class.Class.{Class}
use Rattle.schema_kinds.specs.declared.record.Record.{Record}
use Rattle.oref_table.specs.declared.obj.Obj.{Obj}
use Rattle.oref_table.specs.Memory.{Object, Memory, object_of, edited, tighten, with_level, IsLive}
use Rattle.oref_table.specs.Kept.{as_kept}
use Rattle.oref_table.specs.Sound.{HasKey, IsFree, IsSound}
use Rattle.store_calls.specs.Calls.{Call, Give, bind, Tried, Got, Lost, run, go_on}
use Rattle.store_calls.specs.Plans.{Bounded, IsAfter, AsksFor, SaysNext, IsSaid}
use Rattle.store_calls.proofs.TurnRules.{run_bind, after_bind, asks_bind}
use Rattle.object_calls.specs.Extents.{is_at_or_below}
use Rattle.object_calls.specs.Loads.{LoadCall, load, raise}
use Rattle.object_calls.specs.Memories.{Seen}
use Rattle.object_calls.specs.ObjectCalls.{loaded, live_opened, open_seen, open_by, refusing, open_object}
use Rattle.object_members.specs.Seeing.{seen_part, with_loaded, memories}
use Rattle.load_plan.specs.declared.call.LoadCall.{LoadCall as Called}
use Rattle.load_plan.specs.declared.call.LoadStep.{LoadStep}
use Rattle.load_plan.specs.declared.call.LoadStep.TheVariants as load_step
use Rattle.load_plan.specs.declared.phase.Phase.{Phase as LoadPhase}
use Rattle.load_plan.specs.declared.plan.LoadPlan.{LoadPlan}
use Rattle.load_plan.specs.declared.raise.RaiseCall.{RaiseCall}
use Rattle.load_plan.specs.declared.raise.RaiseStep.{RaiseStep}
use Rattle.load_plan.specs.declared.raise.RaiseStep.TheVariants as raise_step
use Rattle.load_plan.specs.declared.raise.RaisePhase.{RaisePhase}
use Rattle.load_plan.specs.Loads.{load_of, to_come_within as load_to_come, is_told, IsBegun as IsLoadBegun, IsNext as IsLoadNext, GoesOn as LoadGoesOn, LeavesTheSame as LoadLeaves, IsTaken as IsLoadTaken}
use Rattle.load_plan.specs.Raises.{StaysAt, is_asking as is_raise_asking, to_come as raise_to_come, IsBegun as IsRaiseBegun, IsNext as IsRaiseNext, IsTaken as IsRaiseTaken}
use Rattle.load_plan.proofs.LoadLaws.{same_behind}
use Rattle.open_plan.specs.declared.phase.Phase.{Phase}
use Rattle.open_plan.specs.declared.phase.Phase.TheVariants as phase
use Rattle.open_plan.specs.declared.phase.Raising.{Raising}
use Rattle.open_plan.specs.declared.phase.Found.{Found}
use Rattle.open_plan.specs.declared.phase.Raised.{Raised}
use Rattle.open_plan.specs.declared.step.OpenStep.{OpenStep}
use Rattle.open_plan.specs.declared.step.OpenStep.TheVariants as step
use Rattle.open_plan.specs.Opens.{wanting, made, raised, to_come_within, to_come, IsBegun, IsLiveBegun, LeavesTheSame, IsTaken, is_opened, is_settled, load_ended, raise_ended, KeepsPlace, Stays, TurnsOn, IsNext, GoesOn}
use Rattle.open_plan.proofs.LiveLaws.{none_live, one_live}

-- ---- an opening begins

loaded_the_same : (m : Memory) (classes : List Class) (l : LoadCall) (tries most : ℕ) (x : Tried Record) (rs : List Reply)
    → run (Give (made m classes l x)) rs ≡ run (Give (loaded (memories classes) classes tries most m l x)) rs
loaded_the_same m classes l tries most (Got r) rs = refl
loaded_the_same m classes l tries most (Lost x) rs = refl

module _ (m : Memory) (classes : List Class) (l : LoadCall) (tries most : ℕ) (rs : List Reply) where
  abbrev opens : Option ℕ → Call (Memory × Tried ℕ)
  opens x = open_by (memories classes) classes tries most m l x

  load_begun : (p : LoadPhase) → IsLoadBegun classes l tries p → run (bind (load_to_come classes l 0 most p) (λ x. Give (made m classes l x))) rs ≡ run (opens None) rs
  load_begun p begun =
      same_behind (load_to_come classes l 0 most p) (λ x. Give (made m classes l x)) (λ x. Give (loaded (memories classes) classes tries most m l x)) (loaded_the_same m classes l tries most) rs
      ∙ run_bind (load_to_come classes l 0 most p) (λ x. Give (loaded (memories classes) classes tries most m l x)) rs
      ∙ ap (go_on (λ x. Give (loaded (memories classes) classes tries most m l x))) (begun most rs)
      ∙ sym (run_bind (load classes tries most l) (λ x. Give (loaded (memories classes) classes tries most m l x)) rs)

-- the key has no live object: it is loaded
pub begun_loading : (m : Memory) (classes : List Class) (l : LoadCall) (tries : ℕ) (p : LoadPlan) → p.schema.now ≡ classes → load_of p.call ≡ l → IsLoadBegun classes l tries p.phase
    → IsFree l.key.extent l.key.id m.objects → IsBegun m classes l tries (phase.Loading p)
unfolding to_come_within open_object
begun_loading m classes l tries p schema call begun free most rs =
    ap (λ s. run (bind (load_to_come s (load_of p.call) 0 most p.phase) (λ x. Give (made m s (load_of p.call) x))) rs) schema
    ∙ ap (λ k. run (bind (load_to_come classes k 0 most p.phase) (λ x. Give (made m classes k x))) rs) call
    ∙ load_begun m classes l tries most rs p.phase begun
    ∙ ap (λ x. run (opens m classes l tries most rs x) rs) (sym (none_live l.key classes m free))

-- the live object of the key is opened
pub begun_live : (m : Memory) (classes : List Class) (l : LoadCall) (tries most n : ℕ) (o : Object) (rs : List Reply) → IsSound m → object_of n m.objects ≡ Some o → HasKey l.key.extent l.key.id o
    → run (open_seen (memories classes) classes tries most m l n (Some (record { class = o.class; extent = o.extent; id = o.id; level = o.level }))) rs ≡ run (open_object (memories classes) classes tries most m l) rs
unfolding open_object
begun_live m classes l tries most n o rs sound e h =
    ap (λ x. run (open_seen (memories classes) classes tries most m l n (seen_part x)) rs) (sym e)
    ∙ ap (λ x. run (open_by (memories classes) classes tries most m l x) rs) (sym (one_live l.key classes m sound n o e h))

-- it is of another class
pub begun_other : (m : Memory) (classes : List Class) (l : LoadCall) (tries most n : ℕ) (s : Seen) (class : ClassName) (rs : List Reply) → s.class ≡ class → is_at_or_below classes class l.class ≡ false
    → run (to_come m (phase.Refused (OtherClass class)) most) rs ≡ run (open_seen (memories classes) classes tries most m l n (Some s)) rs
unfolding to_come_within
begun_other m classes l tries most n s class rs same off =
    ap (λ (c : ClassName). run (refusing {M = Memory} (memories classes) classes tries most {A = ℕ} m (OtherClass c)) rs) (sym same)
    ∙ ap (λ b. run (cond b (bind (raise tries l.key l.class s.level l.level) (λ x. Give (live_opened (memories classes) classes tries most m l n s.level x))) (refusing (memories classes) classes tries most m (OtherClass s.class))) rs)
    (sym (ap (λ c. is_at_or_below classes c l.class) same ∙ off))

raised_the_same : (m : Memory) (classes : List Class) (l : LoadCall) (tries most n from : ℕ) (x : Tried (Unit {0})) (rs : List Reply)
    → run (Give (raised m l.key.extent l.key n from l.level x)) rs ≡ run (Give (live_opened (memories classes) classes tries most m l n from x)) rs
raised_the_same m classes l tries most n from (Got u) rs = refl
raised_the_same m classes l tries most n from (Lost x) rs = refl

module _ (m : Memory) (classes : List Class) (l : LoadCall) (tries most n : ℕ) (s : Seen) (rs : List Reply) where
  raise_begun : (c : RaiseCall) (p : RaisePhase) → c ≡ record { key = l.key; from = s.level; to = l.level; tries = tries } → IsRaiseBegun c p
      → run (bind (raise_to_come c p) (λ x. Give (raised m c.key.extent c.key n c.from c.to x))) rs
      ≡ run (bind (raise tries l.key l.class s.level l.level) (λ x. Give (live_opened (memories classes) classes tries most m l n s.level x))) rs
  raise_begun c p same begun =
      run_bind (raise_to_come c p) (λ x. Give (raised m c.key.extent c.key n c.from c.to x)) rs
      ∙ ap (go_on (λ x. Give (raised m c.key.extent c.key n c.from c.to x))) (begun l.class rs)
      ∙ sym (run_bind (raise c.tries c.key l.class c.from c.to) (λ x. Give (raised m c.key.extent c.key n c.from c.to x)) rs)
      ∙ ap (λ (d : RaiseCall). run (bind (raise d.tries d.key l.class d.from d.to) (λ x. Give (raised m d.key.extent d.key n d.from d.to x))) rs) same
      ∙ same_behind (raise tries l.key l.class s.level l.level) (λ x. Give (raised m l.key.extent l.key n s.level l.level x)) (λ x. Give (live_opened (memories classes) classes tries most m l n s.level x))
      (raised_the_same m classes l tries most n s.level) rs

  -- it is raised
  pub begun_raising : (r : Raising) → r.oref.0 ≡ n → r.plan.call ≡ record { key = l.key; from = s.level; to = l.level; tries = tries } → IsRaiseBegun r.plan.call r.plan.phase
      → is_at_or_below classes s.class l.class ≡ true → run (to_come m (phase.Raising r) most) rs ≡ run (open_seen (memories classes) classes tries most m l n (Some s)) rs
  unfolding to_come_within
  begun_raising r number same begun on =
      ap (λ k. run (bind (raise_to_come r.plan.call r.plan.phase) (λ x. Give (raised m r.plan.call.key.extent r.plan.call.key k r.plan.call.from r.plan.call.to x))) rs) number
      ∙ raise_begun r.plan.call r.plan.phase same begun
      ∙ ap (λ b. run (cond b (bind (raise tries l.key l.class s.level l.level) (λ x. Give (live_opened (memories classes) classes tries most m l n s.level x))) (refusing (memories classes) classes tries most m (OtherClass s.class))) rs)
      (sym on)

-- ---- its load goes on

module _ (p q : LoadPlan) (schema : q.schema.now ≡ p.schema.now) (call : q.call ≡ p.call) where
  -- what is left of the load of a plan
  abbrev left_of : LoadPlan → Bounded (Tried Record)
  left_of d most = load_to_come d.schema.now (load_of d.call) 0 most d.phase

  turned : (P : List Class → Called → Type 0) → P p.schema.now p.call → P q.schema.now q.call
  turned P h = subst (λ s. P s q.call) (sym schema) (subst (λ c. P p.schema.now c) (sym call) h)

  -- behind the load
  module _ (m : Memory) where
    abbrev goes_on_with : ℕ → Tried Record → Call (Memory × Tried ℕ)
    goes_on_with most x = Give (made m p.schema.now (load_of p.call) x)

  pub load_stays : LoadLeaves p.schema.now (load_of p.call) p.phase q.phase → (m : Memory) → LeavesTheSame m (phase.Loading p) (phase.Loading q)
  unfolding to_come_within
  load_stays h m most =
      turned (λ s c. bind (load_to_come s (load_of c) 0 most q.phase) (λ x. Give (made m s (load_of c) x)) ≡ bind (load_to_come p.schema.now (load_of p.call) 0 most p.phase) (goes_on_with m most))
      (ap (λ d. bind d (goes_on_with m most)) (h most))

  pub load_place : KeepsPlace (phase.Loading p) (phase.Loading q)
  load_place m h = turned (λ s c. IsFree c.key.extent c.key.id m.objects) h

  pub load_asks : (op : Op) → IsLoadNext p.schema.now (load_of p.call) (load_step.Ask op) p.phase → (m : Memory) → SaysNext (AsksFor op) (to_come m (phase.Loading p))
  unfolding to_come_within
  load_asks op h m = asks_bind op (left_of p) (goes_on_with m) h

  pub load_taken : (r : Reply) → IsLoadTaken p.schema.now (load_of p.call) r p.phase q.phase → (m : Memory) → IsTaken m r (phase.Loading p) (phase.Loading q)
  unfolding to_come_within
  load_taken r h m =
      turned (λ s c. IsAfter r (λ most. bind (left_of p most) (goes_on_with m most)) (λ most. bind (load_to_come s (load_of c) 0 most q.phase) (λ x. Give (made m s (load_of c) x))))
      (after_bind r (left_of p) (λ most. load_to_come p.schema.now (load_of p.call) 0 most q.phase) (goes_on_with m) h)

  -- it is over
  pub load_over : (a : Result Record Cause) → IsLoadNext p.schema.now (load_of p.call) (load_step.Load a) p.phase → (m : Memory) → LeavesTheSame m (phase.Loading p) (load_ended a (phase.Loading q))
  unfolding to_come_within with_loaded
  load_over (Ok r) h m most =
      turned (λ s c. Give (made m s (wanting c.key r.class c.level) (Got r)) ≡ bind (left_of p most) (goes_on_with m most))
      (sym (ap (λ d. bind d (goes_on_with m most)) (h most)))
  load_over (Err x) h m most = sym (ap (λ d. bind d (goes_on_with m most)) (h most))

  pub load_place_kept : (a : Result Record Cause) → KeepsPlace (phase.Loading p) (load_ended a (phase.Loading q))
  load_place_kept (Ok r) m h = load_place m h
  load_place_kept (Err x) m h = tt

-- ---- its raise goes on

module _ (r s : Raising) (oref : s.oref ≡ r.oref) (call : s.plan.call ≡ r.plan.call) where
  behind : (P : ℕ → RaiseCall → Type 0) → P r.oref.0 r.plan.call → P s.oref.0 s.plan.call
  behind P h = subst (λ o. P o.0 s.plan.call) (sym oref) (subst (λ c. P r.oref.0 c) (sym call) h)

  module _ (m : Memory) where
    abbrev raises_to : Tried (Unit {0}) → Call (Memory × Tried ℕ)
    raises_to x = Give (raised m r.plan.call.key.extent r.plan.call.key r.oref.0 r.plan.call.from r.plan.call.to x)

  pub raise_place : KeepsPlace (phase.Raising r) (phase.Raising s)
  raise_place m h = behind (λ n c. IsLive m n) h

  pub raise_stays : s.plan.phase ≡ r.plan.phase → (m : Memory) → LeavesTheSame m (phase.Raising r) (phase.Raising s)
  unfolding to_come_within
  raise_stays same m most =
      behind (λ n c. bind (raise_to_come c s.plan.phase) (λ x. Give (raised m c.key.extent c.key n c.from c.to x)) ≡ bind (raise_to_come r.plan.call r.plan.phase) (raises_to m))
      (ap (λ p. bind (raise_to_come r.plan.call p) (raises_to m)) same)

  pub raise_asks : (op : Op) → IsRaiseNext r.plan.call (raise_step.Ask op) r.plan.phase → (m : Memory) → SaysNext (AsksFor op) (to_come m (phase.Raising r))
  unfolding to_come_within
  raise_asks op h m = asks_bind op (λ most. raise_to_come r.plan.call r.plan.phase) (λ most. raises_to m) h

  pub raise_taken : (q : Reply) → IsRaiseTaken r.plan.call q r.plan.phase s.plan.phase → (m : Memory) → IsTaken m q (phase.Raising r) (phase.Raising s)
  unfolding to_come_within
  raise_taken q h m =
      behind (λ n c. IsAfter q (λ most. bind (raise_to_come r.plan.call r.plan.phase) (raises_to m)) (λ most. bind (raise_to_come c s.plan.phase) (λ x. Give (raised m c.key.extent c.key n c.from c.to x))))
      (after_bind q (λ most. raise_to_come r.plan.call r.plan.phase) (λ most. raise_to_come r.plan.call s.plan.phase) (λ most. raises_to m) h)

  pub raise_over : (a : Result (Unit {0}) Cause) → IsRaiseNext r.plan.call (raise_step.Raise a) r.plan.phase → (m : Memory) → LeavesTheSame m (phase.Raising r) (raise_ended a (phase.Raising s))
  unfolding to_come_within
  raise_over (Ok u) h m most =
      behind (λ n c. Give (raised m c.key.extent c.key n c.from c.to (Got tt)) ≡ bind (raise_to_come r.plan.call r.plan.phase) (raises_to m))
      (sym (ap (λ d. bind d (raises_to m)) h))
  raise_over (Err x) h m most = sym (ap (λ d. bind d (raises_to m)) h)

  pub raise_place_kept : (a : Result (Unit {0}) Cause) → KeepsPlace (phase.Raising r) (raise_ended a (phase.Raising s))
  raise_place_kept (Ok u) m h = raise_place m h
  raise_place_kept (Err x) m h = tt

-- ---- the live object of a key, as the table tells it

pub begun_at : (m : Memory) (classes : List Class) (l : LoadCall) (tries n : ℕ) (x : Option Object) → IsSound m → object_of n m.objects ≡ x → IsSomeAnd x (HasKey l.key.extent l.key.id)
    → (v : Obj) → Some v ≡ option_map (as_kept m.objects) x → (p : Phase) → IsLiveBegun classes l tries n v.class v.level p → IsBegun m classes l tries p
begun_at m classes l tries n None sound e h v k p b most rs = absurd h
begun_at m classes l tries n (Some o) sound e h v k p b most rs =
    let is : v ≡ as_kept m.objects o = cc in
    b m (record { class = o.class; extent = o.extent; id = o.id; level = o.level }) most rs (ap (λ (u : Obj). u.class) (sym is)) (ap (λ (u : Obj). u.level) (sym is))
    ∙ begun_live m classes l tries most n o rs sound e h

-- ---- an opening that goes on behind its load or raise

pub settled_open : (p : Phase) → is_settled p ≡ true → is_opened p ≡ false
settled_open (phase.Loading p) h = cc
settled_open (phase.Found f) h = refl
settled_open (phase.Raising r) h = cc
settled_open (phase.Raised r) h = refl
settled_open (phase.Refused x) h = refl
settled_open (phase.Opened r) h = cc

module _ (before mid : Phase) (on : TurnsOn None before mid) where
  pub next_behind : (m w : Memory) (s : OpenStep) → IsNext m w s mid → IsNext m w s before
  next_behind m w (step.Ask op) h = (h.0, λ most. subst (λ c. IsSaid (AsksFor op) (run c [])) (on.2 m (suc most)) (h.1 most))
  next_behind m w (step.Open (Ok h)) k = λ most. sym (on.2 m most) ∙ k most
  next_behind m w (step.Open (Err x)) k = λ most. sym (on.2 m most) ∙ k most

  pub goes_behind : (m w : Memory) (s : OpenStep) (after : Phase) → GoesOn m w s mid after → GoesOn m w s before after
  goes_behind m w (step.Ask op) after h = (h.0, (λ k place. h.1 k (on.1 k place)), λ k most. h.2 k most ∙ on.2 k most)
  goes_behind m w (step.Open (Ok h)) after g = g
  goes_behind m w (step.Open (Err x)) after g = g

  pub stays_behind : Stays before mid
  stays_behind = (settled_open mid on.0, on.1, on.2)

-- ---- an opening ends

pub made_tells : (f : Found) (m w : Memory) (n : ℕ) → with_loaded f.schema.now (wanting f.key f.read.class f.level) f.read m ≡ (w, n) → (most : ℕ) → to_come m (phase.Found f) most ≡ Give (w, Got n)
unfolding to_come_within
made_tells f m w n e most = ap (λ (new : Memory × ℕ). Give (new.0, Got new.1)) e

pub raised_tells : (r : Raised) (m w : Memory) (n : ℕ) → w ≡ edited (cond (nat_lt r.from r.to) (edited m r.oref.0 (with_level r.to)) m) r.oref.0 tighten → n ≡ r.oref.0
    → (most : ℕ) → to_come m (phase.Raised r) most ≡ Give (w, Got n)
unfolding to_come_within
raised_tells r m w n e same most = let answer : (w, Got n) ≡ (edited (cond (nat_lt r.from r.to) (edited m r.oref.0 (with_level r.to)) m) r.oref.0 tighten, Got r.oref.0) = λ i. (e i, Got (same i)) in ap Give (sym answer)

pub refused_tells : (x : Cause) (m : Memory) (most : ℕ) → to_come m (phase.Refused x) most ≡ Give (m, Lost x)
unfolding to_come_within
refused_tells x m most = refl

-- ---- the load or the raise of an opening asks, or is over

load_settled : (a : Result Record Cause) (q : LoadPlan) → is_settled (load_ended a (phase.Loading q)) ≡ true
load_settled (Ok r) q = refl
load_settled (Err x) q = refl

raise_settled : (a : Result (Unit {0}) Cause) (s : Raising) → is_settled (raise_ended a (phase.Raising s)) ≡ true
raise_settled (Ok u) s = refl
raise_settled (Err x) s = refl

module _ (p q : LoadPlan) (schema : q.schema.now ≡ p.schema.now) (call : q.call ≡ p.call) where
  pub load_turns_on : (st : LoadStep) (op : Op) → st ≡ load_step.Ask op → IsLoadNext p.schema.now (load_of p.call) st p.phase → LoadGoesOn p.schema.now (load_of p.call) st p.phase q.phase → TurnsOn (Some op) (phase.Loading p) (phase.Loading q)
  load_turns_on st op is says goes =
      let on = subst (λ x. LoadGoesOn p.schema.now (load_of p.call) x p.phase q.phase) is goes in
      (on.0, load_place p q schema call, load_stays p q schema call on.1, load_asks p q schema call op (subst (λ x. IsLoadNext p.schema.now (load_of p.call) x p.phase) is says))

  pub load_turns_off : (st : LoadStep) (a : Result Record Cause) → st ≡ load_step.Load a → IsLoadNext p.schema.now (load_of p.call) st p.phase → TurnsOn None (phase.Loading p) (load_ended a (phase.Loading q))
  load_turns_off st a is says =
      (load_settled a q, load_place_kept p q schema call a, load_over p q schema call a (subst (λ x. IsLoadNext p.schema.now (load_of p.call) x p.phase) is says))

module _ (r s : Raising) (oref : s.oref ≡ r.oref) (call : s.plan.call ≡ r.plan.call) where
  pub raise_turns_on : (st : RaiseStep) (op : Op) → st ≡ raise_step.Ask op → IsRaiseNext r.plan.call st r.plan.phase → StaysAt st r.plan.phase s.plan.phase → TurnsOn (Some op) (phase.Raising r) (phase.Raising s)
  raise_turns_on st op is says stays =
      let on = subst (λ x. StaysAt x r.plan.phase s.plan.phase) is stays in
      (ap is_raise_asking on.1 ∙ on.0, raise_place r s oref call, raise_stays r s oref call on.1, raise_asks r s oref call op (subst (λ x. IsRaiseNext r.plan.call x r.plan.phase) is says))

  pub raise_turns_off : (st : RaiseStep) (a : Result (Unit {0}) Cause) → st ≡ raise_step.Raise a → IsRaiseNext r.plan.call st r.plan.phase → TurnsOn None (phase.Raising r) (raise_ended a (phase.Raising s))
  raise_turns_off st a is says =
      (raise_settled a s, raise_place_kept r s oref call a, raise_over r s oref call a (subst (λ x. IsRaiseNext r.plan.call x r.plan.phase) is says))

module _ (p q : LoadPlan) (schema : q.schema.now ≡ p.schema.now) (call : q.call ≡ p.call) where
  -- a load that took no reply for want of memory
  pub load_keeps : is_told q.phase ≡ false → q.phase ≡ p.phase → Stays (phase.Loading p) (phase.Loading q)
  load_keeps told same = (told, load_place p q schema call, load_stays p q schema call (λ most. ap (λ (d : LoadPhase). load_to_come p.schema.now (load_of p.call) 0 most d) same))
