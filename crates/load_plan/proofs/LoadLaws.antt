-- Loads by their phases.
use Rattle.std.proofs.Common.{◌≡◌, ℕ, suc, Bool, true, false, List, [], ◌∷◌, Option, None, Some, refl, sym, ap, subst, ◌∙◌}
use Rattle.std.specs.Prelude.{cond, Result}
use Rattle.std.specs.Option.{option_copied}
use Rattle.obj_kinds.specs.declared.name.ClassName.{ClassName}
use Rattle.obj_kinds.specs.declared.op.Op.{Op}
use Rattle.obj_kinds.specs.declared.cause.Cause.{Cause}
use Rattle.obj_kinds.specs.declared.op.Reply.{Reply}
use Rattle.obj_kinds.specs.declared.op.Mode.{Mode}
use Rattle.schema_kinds.specs.declared.class.Class.{Class}
use Rattle.schema_kinds.specs.declared.key.Key.{Key}
use Rattle.schema_kinds.specs.declared.record.Record.{Record}
use Rattle.record_layout.specs.Rows.{data_node}
use Rattle.store_calls.specs.Calls.{Call, Give, Ask, Tell, Cut, bind, Tag, Plain, Tried, Got, Lost, try, run}
use Rattle.store_calls.specs.Plans.{Bounded, IsAfter, AsksFor, SaysNext}
use Rattle.store_calls.proofs.TurnRules.{after_bind, asks_bind}
use Rattle.object_calls.specs.Asking.{timed_from, lock_counted}
use Rattle.object_calls.specs.Extents.{refuses_other}
use Rattle.object_calls.specs.Reading.{read}
use Rattle.object_calls.specs.Loads.{LoadCall, load_gives, load_ends, load_locked, keeps_lock, load_mode, load}
use Rattle.read_plan.specs.declared.call.ReadCall.{ReadCall}
use Rattle.read_plan.specs.declared.call.ReadStep.{ReadStep}
use Rattle.read_plan.specs.declared.call.ReadStep.TheVariants as read_step
use Rattle.read_plan.specs.declared.phase.Phase.{Phase as ReadPhase}
use Rattle.read_plan.specs.Reads.{tried_of, is_asking as is_read_asking, StaysAt, to_come_within as read_to_come, IsNext as IsNextRead, IsTaken as IsReadTaken}
use Rattle.load_plan.specs.declared.phase.Reading.{Reading}
use Rattle.load_plan.specs.declared.phase.Phase.{Phase}
use Rattle.load_plan.specs.declared.phase.Phase.TheVariants as phase
use Rattle.load_plan.specs.declared.call.LoadStep.{LoadStep}
use Rattle.load_plan.specs.declared.call.LoadStep.TheVariants as step
use Rattle.load_plan.specs.Loads.{answer_of, unlocking, read_ends, reading, locked, to_come_within, to_come, LeavesTheSame, IsTaken, IsNext, ReadSays, GoesToRead}

-- the number of operations that were asked doesn't show in what is asked and answered
timed_runs : {A B : Type 0} (c : Call A) (n : ℕ) (f : A × ℕ → Call B) (g : A → Call B) → ((a : A) (m : ℕ) (rs : List Reply) → run (f (a, m)) rs ≡ run (g a) rs)
    → (rs : List Reply) → run (bind (timed_from n c) f) rs ≡ run (bind c g) rs
timed_runs (Give a) n f g h rs = h a n rs
timed_runs (Tell x c) n f g h rs = timed_runs c n f g h rs
timed_runs Cut n f g h rs = refl
timed_runs (Ask op tag k) n f g h [] = refl
timed_runs (Ask op tag k) n f g h (r ∷ rs) = timed_runs (k r) (suc n) f g h rs

pub same_behind : {A B : Type 0} (c : Call A) (f g : A → Call B) → ((a : A) (rs : List Reply) → run (f a) rs ≡ run (g a) rs) → (rs : List Reply) → run (bind c f) rs ≡ run (bind c g) rs
same_behind (Give a) f g h rs = h a rs
same_behind (Tell x c) f g h rs = same_behind c f g h rs
same_behind Cut f g h rs = refl
same_behind (Ask op tag k) f g h [] = refl
same_behind (Ask op tag k) f g h (r ∷ rs) = same_behind (k r) f g h rs

module _ (classes : List Class) (tries most : ℕ) (l : LoadCall) where
  gives_answer : (x : Tried (Option Record)) (more m : ℕ) (rs : List Reply) → run (load_gives classes tries most l more (x, m)) rs ≡ run (Give (answer_of classes l 0 most x)) rs
  gives_answer (Got (Some r)) more m rs = refl
  gives_answer (Got None) more m rs = refl
  gives_answer (Lost x) more m rs = refl

  ends_by : (mode : Mode) (x : Tried (Option Record)) (m : ℕ) (b : Bool) (rs : List Reply)
      → run (load_ends classes tries most l mode (x, m) b) rs ≡ run (cond b (Give (answer_of classes l 0 most x)) (unlocking classes l 0 most mode (answer_of classes l 0 most x))) rs
  ends_by mode x m true rs = gives_answer x 0 m rs
  ends_by mode x m false [] = refl
  ends_by mode x m false (r ∷ rs) = gives_answer x 1 m rs

  locked_the_same : (mode : Mode) (x : Tried (Unit {0})) (rs : List Reply) → run (locked classes l 0 most mode x) rs ≡ run (load_locked classes tries most l mode x) rs
  locked_the_same mode (Lost x) rs = refl
  locked_the_same mode (Got u) rs =
      sym (timed_runs (read classes l.key Plain most (refuses_other classes l.class)) 0
      (λ x. load_ends classes tries most l mode x (keeps_lock classes tries most l x.0))
      (read_ends classes l 0 most (Some mode))
      (λ x m qs. ends_by mode x m (keeps_lock classes tries most l x) qs) rs)

-- a load without a lock is its read
pub begun_free : (classes : List Class) (tries most : ℕ) (l : LoadCall) (rs : List Reply) → load_mode classes tries most l ≡ None
    → run (reading classes l 0 most None) rs ≡ run (load classes tries most l) rs
unfolding load
begun_free classes tries most l rs e = rw e (
    sym (timed_runs (read classes l.key Plain most (refuses_other classes l.class)) 0 (load_gives classes tries most l 0) (read_ends classes l 0 most None)
    (λ x m qs. gives_answer classes tries most l x 0 m qs) rs))

-- one with a lock tries it first
pub begun_locked : (classes : List Class) (tries most : ℕ) (l : LoadCall) (mode : Mode) (rs : List Reply) → load_mode classes tries most l ≡ Some mode
    → run (bind (try Plain tries (lock_counted mode (data_node l.key))) (locked classes l 0 most mode)) rs ≡ run (load classes tries most l) rs
unfolding load
begun_locked classes tries most l mode rs e = rw e (
    same_behind (try Plain tries (lock_counted mode (data_node l.key))) (locked classes l 0 most mode) (load_locked classes tries most l mode) (locked_the_same classes tries most l mode) rs)

-- ---- the read of a load

module _ (c : ReadCall) (classes : List Class) (l : LoadCall) (schema : c.schema.now ≡ classes) (key : c.key.now ≡ l.key) (wanted : option_copied c.wanted ≡ Some l.class) where
  -- what holds of the read that was called holds of that of the load
  turned : (P : List Class → Key → Option ClassName → Type 0) → P c.schema.now c.key.now (option_copied c.wanted) → P classes l.key (Some l.class)
  turned P h = subst (λ s. P s l.key (Some l.class)) schema (subst (λ k. P c.schema.now k (Some l.class)) key (subst (λ w. P c.schema.now c.key.now w) wanted h))

  abbrev left_of : ReadPhase → Bounded (Tried (Option Record))
  left_of p most = read_to_come classes l.key Plain most (Some l.class) p

  pub read_asks : (r : Reading) (op : Op) → IsNextRead c (read_step.Ask op) r.read.phase → SaysNext (AsksFor op) (to_come classes l (phase.Reading r))
  unfolding to_come_within
  read_asks r op h = asks_bind op (left_of r.read.phase) (λ most. read_ends classes l 0 most r.lock) (turned (λ s k w. (tag : Tag) → SaysNext (AsksFor op) (λ most. read_to_come s k tag most w r.read.phase)) h Plain)

  pub read_tells : (r : Reading) (o : Result (Option Record) Cause) → IsNextRead c (read_step.Read o) r.read.phase
      → (most : ℕ) → to_come classes l (phase.Reading r) most ≡ read_ends classes l 0 most r.lock (tried_of o)
  unfolding to_come_within
  read_tells r o h most =
      ap (λ d. bind d (read_ends classes l 0 most r.lock)) (turned (λ s k w. (tag : Tag) (most : ℕ) → read_to_come s k tag most w r.read.phase ≡ Give (tried_of o)) h Plain most)

  pub read_says : (r : Reading) (s : ReadStep) → IsNextRead c s r.read.phase → ReadSays classes l s r
  read_says r (read_step.Ask op) h = read_asks r op h
  read_says r (read_step.Read o) h = read_tells r o h

  pub read_taken : (before now : Reading) (r : Reply) → now.lock ≡ before.lock → IsReadTaken c r before.read.phase now.read.phase → IsTaken classes l r (phase.Reading before) (phase.Reading now)
  unfolding to_come_within
  read_taken before now r same h =
      subst (λ lock. IsAfter r (λ most. bind (left_of before.read.phase most) (read_ends classes l 0 most before.lock)) (λ most. bind (left_of now.read.phase most) (read_ends classes l 0 most lock))) (sym same)
      (after_bind r (left_of before.read.phase) (left_of now.read.phase) (λ most. read_ends classes l 0 most before.lock)
      (turned (λ s k w. (tag : Tag) → IsAfter r (λ most. read_to_come s k tag most w before.read.phase) (λ most. read_to_come s k tag most w now.read.phase)) h Plain))

-- ---- behind the read

pub kept : (classes : List Class) (l : LoadCall) (most : ℕ) (mode : Mode) (x : Tried (Option Record)) (a : Tried Record) (b : Bool)
    → b ≡ keeps_lock classes 0 most l x → a ≡ answer_of classes l 0 most x → b ≡ true → Give a ≡ read_ends classes l 0 most (Some mode) x
kept classes l most mode x a b keeps same on =
    ap (λ y. Give y) same ∙ ap (λ k. cond k (Give (answer_of classes l 0 most x)) (unlocking classes l 0 most mode (answer_of classes l 0 most x))) (sym on ∙ keeps)

pub given_back : (classes : List Class) (l : LoadCall) (most : ℕ) (mode : Mode) (x : Tried (Option Record)) (a : Tried Record) (b : Bool)
    → b ≡ keeps_lock classes 0 most l x → a ≡ answer_of classes l 0 most x → b ≡ false → unlocking classes l 0 most mode a ≡ read_ends classes l 0 most (Some mode) x
given_back classes l most mode x a b keeps same off =
    ap (λ y. unlocking classes l 0 most mode y) same ∙ ap (λ k. cond k (Give (answer_of classes l 0 most x)) (unlocking classes l 0 most mode (answer_of classes l 0 most x))) (sym off ∙ keeps)

-- ---- steps

-- a read at the same place, under the same lock, leaves the same to do
pub same_reading : (classes : List Class) (l : LoadCall) (before now : Reading) → now.read.phase ≡ before.read.phase → now.lock ≡ before.lock
    → LeavesTheSame classes l (phase.Reading before) (phase.Reading now)
unfolding to_come_within
same_reading classes l before now same lock most =
    ap (λ p. bind (read_to_come classes l.key Plain most (Some l.class) p) (read_ends classes l 0 most now.lock)) same
    ∙ ap (λ k. bind (read_to_come classes l.key Plain most (Some l.class) before.read.phase) (read_ends classes l 0 most k)) lock

-- where both have the same to do, what comes next is the same
pub next_of_same : (classes : List Class) (l : LoadCall) (before now : Phase) (s : LoadStep) → LeavesTheSame classes l before now → IsNext classes l s now → IsNext classes l s before
next_of_same classes l before now (step.Ask op) same h = λ most. (let next = h most in (next.0, ap (λ d. run d []) (sym (same (suc most))) ∙ next.1))
next_of_same classes l before now (step.Load a) same h = λ most. (sym (same most) ∙ h most)

pub no_read : (classes : List Class) (l : LoadCall) (before now : Phase) (op : Option Op) → op ≡ None → GoesToRead classes l op before now → LeavesTheSame classes l before now
no_read classes l before now None e h = h.2
no_read classes l before now (Some op) e h = absurd (cc e)

-- the read asks, and the load has the same to do
pub goes_on_asking : (classes : List Class) (l : LoadCall) (before now : Reading) (s : ReadStep) (op : Op) → s ≡ read_step.Ask op
    → ReadSays classes l s before → StaysAt s before.read.phase now.read.phase → now.lock ≡ before.lock → GoesToRead classes l (Some op) (phase.Reading before) (phase.Reading now)
goes_on_asking classes l before now (read_step.Ask asked) op e says stays lock =
    (ap is_read_asking stays.1 ∙ stays.0, same_reading classes l before now stays.1 lock, subst (λ o. SaysNext (AsksFor o) (to_come classes l (phase.Reading before))) (cc e) says)
goes_on_asking classes l before now (read_step.Read o) op e says stays lock = absurd (cc e)

-- the read has ended, and the load goes on behind it
pub goes_behind : (classes : List Class) (l : LoadCall) (before : Reading) (now : Phase) (lock : Option Mode) (s : ReadStep) (o : Result (Option Record) Cause) → s ≡ read_step.Read o
    → ReadSays classes l s before → lock ≡ before.lock → ((most : ℕ) → to_come classes l now most ≡ read_ends classes l 0 most lock (tried_of o)) → LeavesTheSame classes l (phase.Reading before) now
goes_behind classes l before now lock (read_step.Ask op) o e says same left most = absurd (cc e)
goes_behind classes l before now lock (read_step.Read told) o e says same left most =
    left most
    ∙ ap (λ k. read_ends classes l 0 most k (tried_of o)) same
    ∙ ap (λ x. read_ends classes l 0 most before.lock (tried_of x)) (sym (is_told e))
    ∙ sym (says most)
  where
    is_told : read_step.Read told ≡ read_step.Read o → told ≡ o
    is_told e = cc
