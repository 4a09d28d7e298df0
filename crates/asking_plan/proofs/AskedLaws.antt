-- What is left behind each reply.
use Rattle.std.proofs.Common.{◌≡◌, ◌≢◌, ℕ, zero, suc, ◌-◌, ◌+◌, ◌==◌, ◌<◌, Bool, true, false, cond, List, [], ◌∷◌, ◌++◌, drop, length, slice_index_or, Option, None, Some, refl, sym, ap, ◌∙◌, true≢false, arith}
use Rattle.std.proofs.Math.Seq.{drop-cons}
use Rattle.std.proofs.lemmas.Bool.{eqb-true, eq-eqb}
use Rattle.std.specs.List.{flat_map}
use Rattle.std.specs.Prelude.{slice_get}
use Rattle.obj_kinds.specs.declared.node.Node.{Node}
use Rattle.obj_kinds.specs.declared.value.Value.{Value}
use Rattle.obj_kinds.specs.declared.op.Mode.{Mode}
use Rattle.obj_kinds.specs.declared.op.Reply.{Reply}
use Rattle.obj_kinds.specs.declared.op.Reply.TheVariants as reply
use Rattle.obj_kinds.specs.declared.cause.Cause.{Cause}
use Rattle.obj_kinds.specs.declared.cause.Cause.TheVariants.{Busy, NotFound}
use Rattle.schema_kinds.specs.declared.class.Class.{Class}
use Rattle.store_calls.specs.Calls.{Give, Inside, Tried, Lost, then, all, try_from, answered, step, Asks}
use Rattle.object_calls.specs.Asking.{Does, done, lock_to_end}
use Rattle.object_calls.specs.Deletes.{on_member}
use Rattle.object_calls.specs.Saves.{on_key_below, on_target}
use Rattle.read_plan.proofs.CallLaws.{then_then, drop_at, drop_end}
use Rattle.asking_plan.specs.declared.asking.Asking.{Asking}
use Rattle.asking_plan.specs.declared.asking.KeyBelow.{KeyBelow}
use Rattle.asking_plan.specs.declared.asking.MemberBelow.{MemberBelow}
use Rattle.asking_plan.specs.declared.asking.TargetRow.{TargetRow}
use Rattle.asking_plan.specs.declared.asking.Asking.TheVariants as ask
use Rattle.asking_plan.specs.declared.verdict.Verdict.{Verdict}
use Rattle.asking_plan.specs.declared.verdict.Verdict.TheVariants.{Done, Again, Refused}
use Rattle.asking_plan.specs.declared.plan.AskingPlan.{AskingPlan}
use Rattle.asking_plan.specs.Asked.{asked_of, asks, left_of, to_come, tried_with, tested, lock_refused, lock_tells, behind, IsVerdict}

-- ---- what a reply tells

-- the last refusal doesn't show where the lock is asked once more
refused_told : (classes : List Class) (more : ℕ) (mode : Mode) (n : Node) (x : Cause) → try_from x Inside more (lock_to_end mode n) ≡ behind classes more (ask.Lock mode n) (lock_refused more x)
unfolding asks
refused_told classes more mode n x = by (more == 0) refl
  where
    again : (m : ℕ) → m ≢ 0 → try_from x Inside m (lock_to_end mode n) ≡ try_from NotFound Inside (suc (m - 1)) (lock_to_end mode n)
    again zero h = absurd (h refl)
    again (suc k) h = let less : k ≡ suc k - 1 = omega arith in ap (λ j. try_from NotFound Inside (suc j) (lock_to_end mode n)) less

    by : (b : Bool) → (more == 0) ≡ b → try_from x Inside more (lock_to_end mode n) ≡ behind classes more (ask.Lock mode n) (cond b (Refused x) Again)
    by true e = ap (λ m. try_from x Inside m (lock_to_end mode n)) (eqb-true more 0 e)
    by false e = again more (λ z. let wrong = sym e ∙ eq-eqb more 0 z in true≢false (sym wrong))

pub lock_told : (more : ℕ) (mode : Mode) (n : Node) (r : Reply) → IsVerdict more (ask.Lock mode n) r (lock_tells more r)
unfolding asks
lock_told more mode n reply.Granted classes = refl
lock_told more mode n (reply.Held p m k) classes = refused_told classes more mode n (Busy p m)
lock_told more mode n reply.Done classes = refused_told classes more mode n NotFound
lock_told more mode n (reply.Found v) classes = refused_told classes more mode n NotFound
lock_told more mode n reply.Absent classes = refused_told classes more mode n NotFound
lock_told more mode n (reply.Next s) classes = refused_told classes more mode n NotFound
lock_told more mode n reply.NoNext classes = refused_told classes more mode n NotFound
lock_told more mode n (reply.State k) classes = refused_told classes more mode n NotFound
lock_told more mode n (reply.Number z) classes = refused_told classes more mode n NotFound
lock_told more mode n reply.NotHeld classes = refused_told classes more mode n NotFound
lock_told more mode n reply.NoTran classes = refused_told classes more mode n NotFound
lock_told more mode n reply.TooDeep classes = refused_told classes more mode n NotFound
lock_told more mode n reply.NumberLimit classes = refused_told classes more mode n NotFound

pub kill_told : (more : ℕ) (n : Node) (r : Reply) → IsVerdict more (ask.Kill n) r Done
unfolding asks
kill_told more n r classes = refl

pub set_told : (more : ℕ) (n : Node) (v : Value) (r : Reply) → IsVerdict more (ask.Set n v) r Done
unfolding asks
set_told more n v r classes = refl

by_test : (classes : List Class) (more : ℕ) (a : Asking) (x : Option Cause) → Give (tried_with x) ≡ behind classes more a (tested x)
by_test classes more a None = refl
by_test classes more a (Some x) = refl

pub key_told : (more : ℕ) (t : KeyBelow) (r : Reply) (x : Option Cause) → ((classes : List Class) → tried_with x ≡ on_key_below classes t.extent t.node t.index r) → IsVerdict more (ask.NoKey t) r (tested x)
unfolding asks
key_told more t r x e classes = ap (λ (y : Tried (Unit {0})). Give y) (sym (e classes)) ∙ by_test classes more (ask.NoKey t) x

pub member_told : (more : ℕ) (t : MemberBelow) (r : Reply) (x : Option Cause) → ((classes : List Class) → tried_with x ≡ on_member classes t.extent t.node r) → IsVerdict more (ask.NoMember t) r (tested x)
unfolding asks
member_told more t r x e classes = ap (λ (y : Tried (Unit {0})). Give y) (sym (e classes)) ∙ by_test classes more (ask.NoMember t) x

pub target_told : (more : ℕ) (t : TargetRow) (r : Reply) (x : Option Cause) → tried_with x ≡ on_target t.class t.id r → IsVerdict more (ask.Target t) r (tested x)
unfolding asks
target_told more t r x e classes = ap (λ (y : Tried (Unit {0})). Give y) (sym e) ∙ by_test classes more (ask.Target t) x

-- ---- one after the other

pub all_left : (classes : List Class) (more : ℕ) (qs : List Asking) → left_of classes more more qs ≡ all (asks classes more) qs
all_left classes more [] = refl
all_left classes more (a ∷ qs) = refl

-- all that is asked for each of several is asked one after the other
pub all_append : {A : Type 0} (f : A → Does) (xs ys : List A) → all f (xs ++ ys) ≡ then (all f xs) (λ _. all f ys)
all_append f [] ys = refl
all_append f (x ∷ xs) ys = (λ i. then (f x) (λ _. all_append f xs ys i)) ∙ sym (then_then (f x) (λ _. all f xs) (λ _. all f ys))

pub all_flat : {A B : Type 0} (f : A → Does) (g : B → List A) (xs : List B) → all f (flat_map g xs) ≡ all (λ x. all f (g x)) xs
all_flat f g [] = refl
all_flat f g (x ∷ xs) = all_append f (g x) (flat_map g xs) ∙ (λ i. then (all f (g x)) (λ _. all_flat f g xs i))

-- it asks its operation, and goes on behind the reply
asks_step : (classes : List Class) (more : ℕ) (a : Asking) → step (asks classes more a) ≡ Asks (asked_of a) Inside
unfolding asks
asks_step classes more (ask.Lock mode n) = refl
asks_step classes more (ask.Kill n) = refl
asks_step classes more (ask.Set n v) = refl
asks_step classes more (ask.NoKey t) = refl
asks_step classes more (ask.NoMember t) = refl
asks_step classes more (ask.Target t) = refl

then_step : (classes : List Class) (more : ℕ) (a : Asking) (f : Unit {0} → Does) → step (then (asks classes more a) f) ≡ Asks (asked_of a) Inside
unfolding asks
then_step classes more (ask.Lock mode n) f = refl
then_step classes more (ask.Kill n) f = refl
then_step classes more (ask.Set n v) f = refl
then_step classes more (ask.NoKey t) f = refl
then_step classes more (ask.NoMember t) f = refl
then_step classes more (ask.Target t) f = refl

then_answered : (classes : List Class) (more : ℕ) (a : Asking) (f : Unit {0} → Does) (r : Reply) → answered (then (asks classes more a) f) r ≡ then (answered (asks classes more a) r) f
unfolding asks
then_answered classes more (ask.Lock mode n) f r = refl
then_answered classes more (ask.Kill n) f r = refl
then_answered classes more (ask.Set n v) f r = refl
then_answered classes more (ask.NoKey t) f r = refl
then_answered classes more (ask.NoMember t) f r = refl
then_answered classes more (ask.Target t) f r = refl

-- ---- the plan

pub says_none : (p : AskingPlan) (classes : List Class) → slice_get p.askings p.at ≡ None → to_come classes p ≡ done
unfolding to_come
says_none p classes e = ap (left_of classes p.each p.more) (drop_end p.askings p.at e)

pub says_some : (p : AskingPlan) (a : Asking) (classes : List Class) → slice_get p.askings p.at ≡ Some a → step (to_come classes p) ≡ Asks (asked_of a) Inside
unfolding to_come
says_some p a classes e =
    ap (λ qs. step (left_of classes p.each p.more qs)) (drop_at p.askings p.at a e)
    ∙ then_step classes p.more a (λ _. all (asks classes p.each) (drop (suc p.at) p.askings))

module _ (p : AskingPlan) (a : Asking) (d : Asking) (r : Reply) (classes : List Class) (there : p.at < length p.askings) (is : slice_index_or p.askings p.at d ≡ a) where
  abbrev rest : List Asking
  rest = drop (suc p.at) p.askings

  here : drop p.at p.askings ≡ a ∷ rest
  here = drop-cons p.askings p.at d there ∙ ap (λ x. x ∷ rest) is

  answered_by : (v : Verdict) → IsVerdict p.more a r v → answered (to_come classes p) r ≡ then (behind classes p.more a v) (λ _. all (asks classes p.each) rest)
  unfolding to_come
  answered_by v h =
      ap (λ qs. answered (left_of classes p.each p.more qs) r) here
      ∙ then_answered classes p.more a (λ _. all (asks classes p.each) rest) r
      ∙ ap (λ c. then c (λ _. all (asks classes p.each) rest)) (h classes)

  pub taken_done : (q : AskingPlan) → IsVerdict p.more a r Done → q.askings ≡ p.askings → q.at ≡ p.at + 1 → q.each ≡ p.each → q.more ≡ p.each → answered (to_come classes p) r ≡ to_come classes q
  unfolding to_come
  taken_done q h askings at each more =
      let next : suc p.at ≡ q.at = omega (arith, at) in
      answered_by Done h
      ∙ sym (all_left classes p.each rest)
      ∙ ap (λ n. left_of classes p.each p.each (drop n p.askings)) next
      ∙ ap (λ qs. left_of classes p.each p.each (drop q.at qs)) (sym askings)
      ∙ ap (λ n. left_of classes n p.each (drop q.at q.askings)) (sym each)
      ∙ ap (λ n. left_of classes q.each n (drop q.at q.askings)) (sym more)

  pub taken_again : (q : AskingPlan) → IsVerdict p.more a r Again → q.askings ≡ p.askings → q.at ≡ p.at → q.each ≡ p.each → q.more ≡ p.more - 1 → answered (to_come classes p) r ≡ to_come classes q
  unfolding to_come
  taken_again q h askings at each more =
      answered_by Again h
      ∙ sym (ap (left_of classes p.each (p.more - 1)) here)
      ∙ ap (λ n. left_of classes p.each (p.more - 1) (drop n p.askings)) (sym at)
      ∙ ap (λ qs. left_of classes p.each (p.more - 1) (drop q.at qs)) (sym askings)
      ∙ ap (λ n. left_of classes n (p.more - 1) (drop q.at q.askings)) (sym each)
      ∙ ap (λ n. left_of classes q.each n (drop q.at q.askings)) (sym more)

  pub taken_refused : (x : Cause) → IsVerdict p.more a r (Refused x) → answered (to_come classes p) r ≡ Give (Lost x)
  taken_refused x h = answered_by (Refused x) h

pub begun : (askings : List Asking) (each : ℕ) (classes : List Class) → to_come classes (record { askings = askings; at = 0; each = each; more = each }) ≡ all (asks classes each) askings
unfolding to_come
begun askings each classes = all_left classes each askings

pub is_there : (xs : List Asking) (n : ℕ) (x : Asking) → slice_get xs n ≡ Some x → n < length xs
is_there [] n x e = absurd (cc e)
is_there (y ∷ ys) zero x e = omega arith
is_there (y ∷ ys) (suc n) x e = let less = is_there ys n x e in omega (arith, less)
