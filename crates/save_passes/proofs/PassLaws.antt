-- Passes, object after object.
use Rattle.std.proofs.Common.{◌≡◌, ℕ, zero, suc, ◌+◌, ◌-◌, ◌<◌, ◌≤◌, Bool, true, false, cond, nat_lt, List, [], ◌∷◌, drop, length, Option, None, Some, refl, sym, ap, ◌∙◌, arith}
use Rattle.std.specs.Prelude.{slice_get, Result, Ok, Err, IfOk}
use Rattle.obj_kinds.specs.declared.memory.NoMemory.{NoMemory}
use Rattle.obj_kinds.specs.declared.node.Node.{Node}
use Rattle.obj_kinds.specs.declared.op.Op.{Op}
use Rattle.obj_kinds.specs.declared.op.Mode.TheVariants.{Exclusive}
use Rattle.obj_kinds.specs.declared.op.Reply.{Reply}
use Rattle.obj_kinds.specs.declared.cause.Cause.{Cause}
use Rattle.schema_kinds.specs.declared.class.Class.{Class}
use Rattle.schema_kinds.specs.declared.key.Key.{Key}
use Rattle.schema_kinds.specs.declared.record.Record.{Record}
use Rattle.record_layout.specs.Rows.{data_node}
use Rattle.store_calls.specs.Calls.{Give, Ask, Tell, Cut, Inside, Got, Lost, then, all, try, answered, step, Asks}
use Rattle.object_calls.specs.Asking.{Does, done, when, lock_to_end}
use Rattle.object_calls.specs.Saves.{Item, Work, lock_keys}
use Rattle.object_calls.specs.Deletes.{lock_end}
use Rattle.asking_plan.specs.declared.asking.Asking.{Asking}
use Rattle.asking_plan.specs.declared.asking.Asking.TheVariants as ask
use Rattle.asking_plan.specs.declared.plan.AskingPlan.{AskingPlan}
use Rattle.asking_plan.specs.Asked.{asks, asked_of, is_asking as is_list_asking, to_come as list_to_come, IsTaken as IsListTaken, Says as ListSays}
use Rattle.asking_plan.proofs.AskedLaws.{says_some}
use Rattle.save_works.specs.Steps.{AreKeysOf}
use Rattle.save_works.proofs.StepLaws.{asks_locks, asks_targets, asks_kills, asks_writes}
use Rattle.read_plan.proofs.CallLaws.{drop_at}
use Rattle.save_looks.specs.declared.call.SaveItem.{SaveItem}
use Rattle.save_passes.specs.declared.asking.Stage.{Stage}
use Rattle.save_passes.specs.declared.asking.Stage.TheVariants as stage
use Rattle.save_passes.specs.declared.pass.Pass.{Pass}
use Rattle.save_passes.specs.Works.{old_in, work_of, works_of, askings_of, AsksWhatASaveDoes}
use Rattle.save_passes.specs.declared.works.Works.{Works}
use Rattle.save_passes.specs.Passes.{Asked, asked_of as asked_from, asks_at, to_come, Says, IsTaken}

-- nothing comes behind
then_done : (c : Does) → then c (λ _. done) ≡ c
then_done (Give (Got u)) = refl
then_done (Give (Lost x)) = refl
then_done (Ask op tag k) = λ i. Ask op tag (λ r. then_done (k r) i)
then_done (Tell x c) = ap (λ d. Tell x d) (then_done c)
then_done Cut = refl

-- ---- what a save does at a stage

module _ (classes : List Class) (tries most : ℕ) where
  level_asked : (level : ℕ) (askings : List Asking) (c : Does) (b : Bool) → all (asks classes (tries - 1)) askings ≡ c → all (asks classes (tries - 1)) (cond b askings []) ≡ when b c
  level_asked level askings c true e = e
  level_asked level askings c false e = refl

  row_asked : (n : Node) → 1 ≤ tries → all (asks classes (tries - 1)) (ask.Lock Exclusive n ∷ []) ≡ lock_end classes tries most Exclusive n
  unfolding asks
  row_asked n some_tries =
      let same : suc (tries - 1) ≡ tries = omega (arith, some_tries) in
      then_done (try Inside (suc (tries - 1)) (lock_to_end Exclusive n)) ∙ ap (λ t. try Inside t (lock_to_end Exclusive n)) same

  keys_asked : (items : List Item) (put : List Key) (w : Work) → 1 ≤ tries → AreKeysOf items put → all (asks classes (tries - 1)) (askings_of classes put stage.Keys w) ≡ lock_keys classes tries most items w
  unfolding lock_keys
  keys_asked items put w some_tries same = level_asked w.item.level _ _ (nat_lt 0 w.item.level) (asks_locks classes tries most items put w some_tries same)

pub stage_asked : AsksWhatASaveDoes
stage_asked classes tries most items put stage.Rows w some_tries same =
    level_asked classes tries most w.item.level _ _ (nat_lt 0 w.item.level) (row_asked classes tries most (data_node w.item.key) some_tries)
stage_asked classes tries most items put stage.Keys w some_tries same = keys_asked classes tries most items put w some_tries same
stage_asked classes tries most items put stage.Targets w some_tries same = asks_targets classes tries most items put w same
stage_asked classes tries most items put stage.Kills w some_tries same = asks_kills classes tries most w
stage_asked classes tries most items put stage.Writes w some_tries same = asks_writes classes tries most w

-- ---- places

works_get : (is : List SaveItem) (os : List (Option Record)) (n : ℕ) (i : SaveItem) → slice_get is n ≡ Some i → slice_get (works_of is os) n ≡ Some (work_of i (old_in n os))
works_get [] os n i e = absurd (cc e)
works_get (j ∷ is) [] zero i e = cc
works_get (j ∷ is) (o ∷ os) zero i e = cc
works_get (j ∷ is) [] (suc n) i e = works_get is [] n i e
works_get (j ∷ is) (o ∷ os) (suc n) i e = works_get is os n i e

works_end : (is : List SaveItem) (os : List (Option Record)) (n : ℕ) → length is ≤ n → drop n (works_of is os) ≡ []
works_end [] os zero h = refl
works_end [] os (suc n) h = refl
works_end (j ∷ is) [] zero h = absurd (omega (arith, h))
works_end (j ∷ is) (o ∷ os) zero h = absurd (omega (arith, h))
works_end (j ∷ is) [] (suc n) h = works_end is [] n (omega (arith, h))
works_end (j ∷ is) (o ∷ os) (suc n) h = works_end is os n (omega (arith, h))

-- ---- one object after the other

-- what comes behind is asked behind
step_then : (c : Does) (f : Unit {0} → Does) (op : Op) → step c ≡ Asks op Inside → step (then c f) ≡ Asks op Inside
step_then (Give a) f op e = absurd (cc e)
step_then (Ask o tag k) f op e = cc
step_then (Tell x c) f op e = step_then c f op e
step_then Cut f op e = absurd (cc e)

answered_then : (c : Does) (f : Unit {0} → Does) (op : Op) (r : Reply) → step c ≡ Asks op Inside → answered (then c f) r ≡ then (answered c r) f
answered_then (Give a) f op r e = absurd (cc e)
answered_then (Ask o tag k) f op r e = refl
answered_then (Tell x c) f op r e = answered_then c f op r e
answered_then Cut f op r e = absurd (cc e)

module _ (a : Asked) (p q : Pass) (is_stage : q.stage ≡ p.stage) where
  abbrev behind : Stage → ℕ → Unit {0} → Does
  behind s n _ = all (asks_at a s) (drop n a.works)

  -- the next object's list stands ready
  pub next_ready : (w : Work) (askings : List Asking) → list_to_come a.classes p.asking ≡ done → slice_get a.works p.at ≡ Some w → askings ≡ askings_of a.classes a.put p.stage w
      → list_to_come a.classes q.asking ≡ all (asks a.classes a.each) askings → q.at ≡ p.at + 1 → to_come a q ≡ to_come a p
  unfolding to_come
  next_ready w askings ended there is ready at =
      ap (λ c. then c (behind q.stage q.at)) (ready ∙ ap (all (asks a.classes a.each)) is)
      ∙ ap (λ s. then (asks_at a p.stage w) (behind s q.at)) is_stage
      ∙ ap (λ n. then (asks_at a p.stage w) (behind p.stage n)) (at ∙ plus_one p.at)
      ∙ sym (ap (λ ws. all (asks_at a p.stage) ws) (drop_at a.works p.at w there))
      ∙ sym (ap (λ c. then c (behind p.stage p.at)) ended)
    where
      plus_one : (n : ℕ) → n + 1 ≡ suc n
      plus_one n = omega arith

-- all was asked for all objects
pub all_asked : (a : Asked) (p : Pass) → list_to_come a.classes p.asking ≡ done → drop p.at a.works ≡ [] → to_come a p ≡ done
unfolding to_come
all_asked a p ended over = ap (λ c. then c (λ _. all (asks_at a p.stage) (drop p.at a.works))) ended ∙ ap (all (asks_at a p.stage)) over

pub asks_first : (a : Asked) (p : Pass) (op : Op) → step (list_to_come a.classes p.asking) ≡ Asks op Inside → step (to_come a p) ≡ Asks op Inside
unfolding to_come
asks_first a p op e = step_then (list_to_come a.classes p.asking) (λ _. all (asks_at a p.stage) (drop p.at a.works)) op e

-- ---- replies

lacks : {A : Type 0} (xs : List A) (n : ℕ) → slice_get xs n ≡ None → n < length xs → ⊥
lacks [] n e h = omega (arith, h)
lacks (x ∷ xs) zero e h = absurd (cc e)
lacks (x ∷ xs) (suc n) e h = lacks xs n e (omega (arith, h))

-- a list that isn't at its end asks
list_asks : (classes : List Class) (p : AskingPlan) (x : Option Asking) → slice_get p.askings p.at ≡ x → is_list_asking p → (op : Op) × (step (list_to_come classes p) ≡ Asks op Inside)
list_asks classes p None e h = absurd (lacks p.askings p.at e h)
list_asks classes p (Some a) e h = (asked_of a, says_some p a classes e)

list_answered : (a : Asked) (p : Pass) (r : Reply) → is_list_asking p.asking
    → answered (to_come a p) r ≡ then (answered (list_to_come a.classes p.asking) r) (λ _. all (asks_at a p.stage) (drop p.at a.works))
unfolding to_come
list_answered a p r h =
    let asks = list_asks a.classes p.asking (slice_get p.asking.askings p.asking.at) refl h in
    answered_then (list_to_come a.classes p.asking) (λ _. all (asks_at a p.stage) (drop p.at a.works)) asks.0 r asks.1

pub taken_by : (a : Asked) (p q : Pass) (r : Reply) (x : Option Cause) → is_list_asking p.asking → IsListTaken r p.asking q.asking x → q.stage ≡ p.stage → q.at ≡ p.at → IsTaken a r p q x
unfolding to_come
taken_by a p q r None h taken stage at =
    list_answered a p r h
    ∙ ap (λ c. then c (λ _. all (asks_at a p.stage) (drop p.at a.works))) (taken a.classes)
    ∙ sym (ap (λ s. then (list_to_come a.classes q.asking) (λ _. all (asks_at a s) (drop p.at a.works))) stage)
    ∙ sym (ap (λ n. then (list_to_come a.classes q.asking) (λ _. all (asks_at a q.stage) (drop n a.works))) at)
taken_by a p q r (Some x) h taken stage at = list_answered a p r h ∙ ap (λ c. then c (λ _. all (asks_at a p.stage) (drop p.at a.works))) (taken a.classes)

-- ---- what comes next

pub said_some : (a : Asked) (first p : Pass) (op : Op) → to_come a p ≡ to_come a first → ListSays p.asking (Some op) → Says a (Some op) first p
said_some a first p op same says = (says.0, same, ap step (sym same) ∙ asks_first a p op (says.1 a.classes))

pub said_none : (a : Asked) (first p : Pass) → to_come a p ≡ to_come a first → ListSays p.asking None → drop p.at a.works ≡ [] → Says a None first p
said_none a first p same says over = sym same ∙ all_asked a p (says a.classes) over

said_last : (a : Asked) (first p : Pass) (x : Option Op) → to_come a p ≡ to_come a first → drop p.at a.works ≡ [] → ListSays p.asking x → Says a x first p
said_last a first p None same over says = said_none a first p same says over
said_last a first p (Some op) same over says = said_some a first p op same says

pub said_end : (a : Asked) (first p : Pass) (r : Result (Option Op) NoMemory) → to_come a p ≡ to_come a first → drop p.at a.works ≡ [] → IfOk r (ListSays p.asking) → IfOk r (λ x. Says a x first p)
said_end a first p (Ok x) same over says = said_last a first p x same over says
said_end a first p (Err e) same over says = says

pub taken_ok : (p q : Pass) (r : Reply) (x : Result (Option Cause) NoMemory) → is_list_asking p.asking → IfOk x (IsListTaken r p.asking q.asking) → q.stage ≡ p.stage → q.at ≡ p.at → IfOk x (λ y. (a : Asked) → IsTaken a r p q y)
taken_ok p q r (Ok y) h taken stage at = λ a. taken_by a p q r y h taken stage at
taken_ok p q r (Err e) h taken stage at = taken

pub works_over : (is : List SaveItem) (os : List (Option Record)) (n : ℕ) → ¬ (n < length is) → drop n (works_of is os) ≡ []
works_over is os n h = works_end is os n (omega (arith, h))

-- the next object's list, as it is worked out
pub next_object : (w : Works) (p q : Pass) (i : SaveItem) (old : Option Record) (askings : List Asking) → slice_get w.items.now p.at ≡ Some i → old ≡ old_in p.at w.olds.now
    → ((classes : List Class) → list_to_come classes p.asking ≡ done) → askings ≡ askings_of w.schema.now w.put.now.keys p.stage (work_of i old)
    → ((classes : List Class) → list_to_come classes q.asking ≡ all (asks classes (w.tries - 1)) askings) → q.stage ≡ p.stage → q.at ≡ p.at + 1 → to_come (asked_from w) q ≡ to_come (asked_from w) p
next_object w p q i old askings there is ended list ready stage at =
    next_ready (asked_from w) p q stage (work_of i old) askings (ended w.schema.now)
    (works_get w.items.now w.olds.now p.at i there ∙ ap (λ o. Some (work_of i o)) (sym is)) list (ready w.schema.now) at
