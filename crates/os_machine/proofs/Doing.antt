-- What an instruction does to the machine is what it does to the frame.
use Rattle.std.proofs.Common.{◌≡◌, ℕ, zero, suc, ℤ, pos, negsuc, ◌+ℤ◌, Bool, true, false, cond, List, [], ◌∷◌, take, drop, reverse, length, Option, Some, None, Ok, Err, refl, sym, ap, ◌∙◌}
use std.Path.{fun_ext}
use Rattle.obj_kinds.specs.declared.node.Node.{Node}
use Rattle.obj_kinds.specs.declared.sub.Sub.{Sub}
use Rattle.obj_kinds.specs.declared.op.Op.{Op}
use Rattle.obj_kinds.specs.declared.op.Owner.TheVariants.{Script}
use Rattle.obj_kinds.specs.declared.op.Op.TheVariants as ops
use Rattle.obj_kinds.specs.declared.op.Reply.{Reply}
use Rattle.obj_kinds.specs.declared.value.Value.{Value}
use Rattle.obj_kinds.specs.declared.error_name.ErrorName.TheVariants as error
use Rattle.os_kinds.specs.declared.val.Val.{Val}
use Rattle.os_kinds.specs.declared.val.Val.TheVariants.{Data, Ref}
use Rattle.os_kinds.specs.declared.call.Call.{Call}
use Rattle.os_kinds.specs.declared.call.Call.TheVariants as call
use Rattle.os_kinds.specs.declared.call.Answer.{Answer}
use Rattle.os_kinds.specs.declared.call.ScriptEnd.TheVariants as end
use Rattle.os_value.specs.Answers.{and_then}
use Rattle.os_value.specs.Readings.{whole}
use Rattle.os_meaning.specs.Syntax.{Name}
use Rattle.os_meaning.specs.Values.{Checked, plain, text_of, text_value, number_of, number_value, truth, joins, signs, applies, subscript_of, after_of}
use Rattle.os_meaning.specs.Frames.{Frame, Ends, Loses, Asks, Vars, Whole, Collection, checked, holds, loses, loses_some, loses_vars, prints, misfit, value_in, with_var, read, current, object_in, object_here, node, subs_by, on_tried, on_got, on_reply, next, given_back, at_node, gets, defines, sets, kills, increments, orders, calls, calls_own, writes}
use Rattle.os_meaning.specs.Expressions.{copied_or, next_value}
use Rattle.os_meaning.specs.Commands.{is_within, tries_of}
use Rattle.os_code.specs.declared.instruction.Instruction.{Instruction}
use Rattle.os_code.specs.declared.instruction.Instruction.TheVariants as i
use Rattle.os_code.specs.Machine.{Next, act, on_top, last_of, called_by, owned_by, timed_by}
use Rattle.os_machine.specs.Stacks.{top_of}
use Rattle.os_machine.specs.Plains.{node_by}
use Rattle.os_machine.specs.Variables.{last_object, behind_var}
use Rattle.os_machine.specs.Moves.{Moved, move, lost, lost_some, pushed, popped, on, tested, puts, copies, asks_op, asks_node, asks_after, asks_next, asks_object, own_number, calls_of, calls_items, calls_here, is_value, locks_by, shows_text, sheds}
use Rattle.os_machine.specs.Receiving.{Taken, takes, puts_value, replies, found_by}
use Rattle.os_machine.specs.Leading.{at, goes_with, Leads}
use Rattle.os_machine.specs.declared.stepped.Wanted.{Wanted}
use Rattle.os_machine.specs.declared.stepped.Wanted.TheVariants as want
use Rattle.os_machine.specs.declared.stepped.Awaits.{Awaits}
use Rattle.os_machine.specs.declared.stepped.Awaits.TheVariants as awaits
use Rattle.os_machine.specs.declared.stepped.Stepped.TheVariants as step
use Rattle.os_machine.specs.declared.stepped.Received.TheVariants as got
use Rattle.os_machine.specs.declared.work.Work.{Work}
use Rattle.os_machine.proofs.Answering.{value_taken, subject_taken, own_subject_taken, written_taken, tried_taken, reply_taken, found_replied, state_replied, next_replied, counted_replied, done_replied, given_back_replied, begun_replied, committed_replied, undone_replied}

-- variables that are lost, up to the last one with an object
abbrev Shed : Option (ℕ × Vars) → Frame → (Vars → Frame) → Type 0
Shed None f g = f ≡ g []
Shed (Some p) f g = f ≡ Loses p.0 (g p.1)

shed : (vars : Vars) (f : Frame) → Shed (last_object vars) (loses_vars vars f) (λ vars. loses_vars vars f)
shed [] f = refl
shed (x ∷ vars) f = by x.value (last_object vars) (shed vars (loses x.value f))
  where
    by : (v : Val) (o : Option (ℕ × Vars)) → Shed o (loses_vars vars (loses v f)) (λ vars. loses_vars vars (loses v f)) → Shed (behind_var (record { name = x.name; value = v }) o) (loses_vars vars (loses v f)) (λ vars. loses_vars vars f)
    by (Data d) None h = h
    by (Ref number class) None h = h
    by (Data d) (Some p) h = h
    by (Ref number class) (Some p) h = h

module _ (this : Option Val) (go : ℕ → Next) (spend : Next) (again : ℕ → Next) where
  -- whatever the instruction does from then on
  abbrev Does : Frame → Moved → Type 0
  Does f m = (same : Frame) → Leads this go spend again f same m

  -- ---- results and values that may be there

  tests : {A : Type 0} (r : Checked A) (line : ℕ) (w : Work) (F : A → Frame) (M : A → Moved) → ((a : A) → Does (F a) (M a)) → Does (checked r line F) (tested r line w M)
  tests (Ok a) line w F M h = h a
  tests (Err e) line w F M h = λ same. refl

  tests_two : {A B : Type 0} (r : Checked A) (f : A → Checked B) (line : ℕ) (w : Work) (F : B → Frame) (M : B → Moved) → ((b : B) → Does (F b) (M b)) → Does (checked r line (λ a. checked (f a) line F)) (tested (and_then r f) line w M)
  tests_two (Ok a) f line w F M h = tests (f a) line w F M h
  tests_two (Err e) f line w F M h = λ same. refl

  tests_three : {A B C : Type 0} (r : Checked A) (f : A → Checked B) (g : A → B → Checked C) (line : ℕ) (w : Work) (F : C → Frame) (M : C → Moved) → ((c : C) → Does (F c) (M c)) → Does (checked r line (λ a. checked (f a) line (λ b. checked (g a b) line F))) (tested (and_then r (λ a. and_then (f a) (g a))) line w M)
  tests_three (Ok a) f g line w F M h = tests_two (f a) (g a) line w F M h
  tests_three (Err e) f g line w F M h = λ same. refl

  copied : (o : Option Val) (w : Work) (f : Frame) (m : Moved) → Does f m → Does (copied_or o (λ v. at (go 0) (pushed v w)) f) (copies o m w)
  copied None w f m h = h
  copied (Some (Data v)) w f m h = λ same. refl
  copied (Some (Ref number class)) w f m h = λ same. refl

  loaded : (o : Option Val) (line : ℕ) (w : Work) → Does (checked (read o) line (λ v. holds v (at (go 0) (pushed v w)))) (copies o (step.Fails error.Undefined line, w) w)
  loaded None line w = λ same. refl
  loaded (Some (Data v)) line w = λ same. refl
  loaded (Some (Ref number class)) line w = λ same. refl

  here : (o : Option Val) (line : ℕ) (w : Work) → Does (checked (object_here o) line (λ v. holds v (at (go 0) (pushed v w)))) (copies o (step.Fails error.InvalidOref line, w) w)
  here None line w = λ same. refl
  here (Some (Data v)) line w = λ same. refl
  here (Some (Ref number class)) line w = λ same. refl

  made : (r : Checked Value) (line : ℕ) (w : Work) → Does (checked r line (λ v. at (go 0) (pushed (Data v) w))) (puts r line w)
  made (Ok v) line w = λ same. refl
  made (Err e) line w = λ same. refl

  loses_one : (v : Val) (over : ℕ) (w : Work) → Does (loses v (at (go over) w)) (lost v over, w)
  loses_one (Data v) over w = λ same. refl
  loses_one (Ref number class) over w = λ same. refl

  loses_old : (o : Option Val) (w : Work) → Does (loses_some o (at (go 0) w)) (lost_some o, w)
  loses_old None w = λ same. refl
  loses_old (Some v) w = loses_one v 0 w

  skips : (t : Bool) (j k : ℕ) (w : Work) → Does (cond t (at (go j) w) (at (go k) w)) (step.Goes (cond t j k), w)
  skips true j k w = λ same. refl
  skips false j k w = λ same. refl

  -- the top of what is left of the stack
  tops : (st : List Val) (w : Work) (F : Val → List Val → Frame) (M : Val → Moved) → ((v : Val) (rest : List Val) → Does (F v rest) (M v)) → Does (on_top st F) (on (top_of st) w M)
  tops [] w F M h = λ same. refl
  tops (v ∷ rest) w F M h = h v rest

  -- ---- what is asked

  asks : (c : Call) (a : Awaits) (w : Work) (k : Answer → Frame) → ((x : Answer) → k x ≡ goes_with go (takes a x w)) → Does (Asks c k) (step.Asks c a, w)
  asks c a w k h = λ same. ap (Asks c) (fun_ext h)

  asks_store : (op : Op) (want : Wanted) (w : Work) (k : Reply → Frame) → ((r : Reply) → k r ≡ goes_with go (replies want r w)) → Does (Asks (call.Store op) (λ a. on_reply a k)) (asks_op op want, w)
  asks_store op want w k h = asks (call.Store op) (awaits.Reply want) w (λ a. on_reply a k) (reply_taken go w k (λ r. replies want r w) h)

  at_some_node : (r : Checked (List Sub)) (g : Name) (line : ℕ) (w : Work) (op : Node → Op) (want : Wanted) (F : Node → Frame) → ((n : Node) → Does (F n) (asks_op (op n) want, w)) → Does (checked r line (λ subs. F (node g subs))) (asks_node (and_then r (λ subs. Ok (node g subs))) line op want, w)
  at_some_node (Ok subs) g line w op want F h = h (node g subs)
  at_some_node (Err e) g line w op want F h = λ same. refl

  tests_node : (r : Checked (List Sub)) (g : Name) (line : ℕ) (w : Work) (F : Node → Frame) (M : Node → Moved) → ((n : Node) → Does (F n) (M n)) → Does (checked r line (λ subs. F (node g subs))) (tested (and_then r (λ subs. Ok (node g subs))) line w M)
  tests_node (Ok subs) g line w F M h = h (node g subs)
  tests_node (Err e) g line w F M h = λ same. refl

  asks_some : (r : Checked ℕ) (line : ℕ) (c : ℕ → Call) (a : Awaits) (w : Work) (F : ℕ → Frame) → ((n : ℕ) → Does (F n) (step.Asks (c n) a, w)) → Does (checked r line F) (asks_object r line c a, w)
  asks_some (Ok n) line c a w F h = h n
  asks_some (Err e) line c a w F h = λ same. refl

  asks_some_of : {A : Type 0} (r : Checked A) (f : A → Checked ℕ) (line : ℕ) (c : ℕ → Call) (a : Awaits) (w : Work) (F : ℕ → Frame) → ((n : ℕ) → Does (F n) (step.Asks (c n) a, w)) → Does (checked r line (λ o. checked (f o) line F)) (asks_object (and_then r f) line c a, w)
  asks_some_of (Ok o) f line c a w F h = asks_some (f o) line c a w F h
  asks_some_of (Err e) f line c a w F h = λ same. refl

  reads : (p : Name) (line : ℕ) (w : Work) (n : ℕ) → Does (Asks (call.Read n p) (λ a. on_got line a (λ v. at (go 0) (pushed v w)))) (step.Asks (call.Read n p) (awaits.Value line), w)
  reads p line w n = asks (call.Read n p) (awaits.Value line) w _ (value_taken go w line)

  called : (o : Val) (m : Name) (vs : List Val) (line : ℕ) (w : Work) → Does (calls (Whole o) m vs line (λ v. at (go 0) (pushed v w))) (calls_of o m (reverse vs) line, w)
  unfolding calls
  called o m vs line w = asks_some (object_in o) line _ _ w _ (λ n. asks _ (awaits.Value line) w _ (value_taken go w line))

  called_items : (o : Checked ℕ) (p m : Name) (vs : List Val) (line : ℕ) (w : Work) → Does (checked o line (λ number. calls (Collection number p) m vs line (λ v. at (go 0) (pushed v w)))) (calls_items o p m (reverse vs) line, w)
  unfolding calls
  called_items o p m vs line w = asks_some o line _ _ w _ (λ n. asks _ (awaits.Value line) w _ (value_taken go w line))

  called_own_items : (o : Option Val) (p m : Name) (vs : List Val) (line : ℕ) (w : Work) → Does (checked (object_here o) line (λ object. checked (object_in object) line (λ number. calls (Collection number p) m vs line (λ v. at (go 0) (pushed v w))))) (calls_items (own_number o) p m (reverse vs) line, w)
  unfolding calls
  called_own_items o p m vs line w = asks_some_of (object_here o) object_in line _ _ w _ (λ n. asks _ (awaits.Value line) w _ (value_taken go w line))

  called_here : (o : Option Val) (m : Name) (vs : List Val) (line : ℕ) (w : Work) → Does (calls_own o m vs line (λ v. at (go 0) (pushed v w))) (calls_here o m (reverse vs) line, w)
  unfolding calls_own
  called_here None m vs line w = asks _ (awaits.Value line) w _ (value_taken go w line)
  called_here (Some o) m vs line w = asks_some (object_in o) line _ _ w _ (λ n. asks _ (awaits.Value line) w _ (value_taken go w line))

  kinds : (kind : ℤ) (o : Val) (p m : Name) (vs : List Val) (line : ℕ) (w : Work) → Does (called_by kind o p m vs line (λ v. at (go 0) (pushed v w))) (cond (is_value kind) (calls_of o m (reverse vs) line) (calls_items (object_in o) p m (reverse vs) line), w)
  kinds (pos zero) o p m vs line w = called o m vs line w
  kinds (pos (suc n)) o p m vs line w = called_items (object_in o) p m vs line w
  kinds (negsuc n) o p m vs line w = called_items (object_in o) p m vs line w

  own_kinds : (kind : ℤ) (v : Val) (p m : Name) (vs : List Val) (line : ℕ) (w : Work) → Does (owned_by kind this v p m vs line (λ r. at (go 0) (pushed r w))) (cond (is_value kind) (calls_of v m (reverse vs) line) (calls_items (own_number this) p m (reverse vs) line), w)
  own_kinds (pos zero) v p m vs line w = called v m vs line w
  own_kinds (pos (suc n)) v p m vs line w = called_own_items this p m vs line w
  own_kinds (negsuc n) v p m vs line w = called_own_items this p m vs line w

  written : (o : Val) (p : Name) (v : Val) (line : ℕ) (w : Work) → Does (writes o p v line (at (go 0) w)) (asks_object (object_in o) line (λ number. call.Write number p v) (awaits.Written line), w)
  unfolding writes
  written o p v line w = asks_some (object_in o) line _ _ w _ (λ n. asks _ (awaits.Written line) w _ (written_taken go w line))

  written_own : (o : Option Val) (p : Name) (v : Val) (line : ℕ) (w : Work) → Does (checked (object_here o) line (λ o. writes o p v line (at (go 0) w))) (asks_object (own_number o) line (λ number. call.Write number p v) (awaits.Written line), w)
  unfolding writes
  written_own o p v line w = asks_some_of (object_here o) object_in line _ _ w _ (λ n. asks _ (awaits.Written line) w _ (written_taken go w line))

  -- ---- what is asked of the store

  found_at : (g : Name) (vs : List Val) (line : ℕ) (w : Work) (want : Wanted) (f : Frame) (t : Taken) → f ≡ goes_with go t → ((r : Reply) → replies want r w ≡ found_by r t w) → Does (gets g vs line (λ v. at (go 0) (pushed v w)) f) (asks_node (node_by g (reverse vs)) line ops.Get want, w)
  unfolding gets at_node
  found_at g vs line w want f t h same =
      at_some_node (subs_by 0 (reverse vs)) g line w ops.Get want _ (λ n. asks_store (ops.Get n) want w _ (λ r. found_replied go w f t h r ∙ ap (goes_with go) (sym (same r))))

  defined : (g : Name) (vs : List Val) (line : ℕ) (w : Work) → Does (defines g vs line (λ n. at (go 0) (pushed (number_value (pos n)) w))) (asks_node (node_by g (reverse vs)) line ops.Defined want.State, w)
  unfolding defines at_node
  defined g vs line w = at_some_node (subs_by 0 (reverse vs)) g line w ops.Defined want.State _ (λ n. asks_store (ops.Defined n) want.State w _ (state_replied go w))

  incremented : (g : Name) (vs : List Val) (by : ℤ) (line : ℕ) (w : Work) → Does (increments g vs by line (λ z. at (go 0) (pushed (number_value z) w))) (asks_node (node_by g (reverse vs)) line (λ n. ops.Incr n by) (want.Counted line), w)
  unfolding increments at_node
  incremented g vs by line w = at_some_node (subs_by 0 (reverse vs)) g line w (λ n. ops.Incr n by) (want.Counted line) _ (λ n. asks_store (ops.Incr n by) (want.Counted line) w _ (counted_replied go w line))

  set_at : (g : Name) (vs : List Val) (v : Val) (line : ℕ) (w : Work) → Does (sets g vs v line (at (go 0) w)) (asks_node (node_by g (reverse vs)) line (λ n. ops.Set n (plain v)) want.Done, w)
  unfolding sets at_node
  set_at g vs v line w = at_some_node (subs_by 0 (reverse vs)) g line w (λ n. ops.Set n (plain v)) want.Done _ (λ n. asks_store (ops.Set n (plain v)) want.Done w _ (done_replied go w))

  killed : (g : Name) (vs : List Val) (line : ℕ) (w : Work) → Does (kills g vs line (at (go 0) w)) (asks_node (node_by g (reverse vs)) line ops.Kill want.Done, w)
  unfolding kills at_node
  killed g vs line w = at_some_node (subs_by 0 (reverse vs)) g line w ops.Kill want.Done _ (λ n. asks_store (ops.Kill n) want.Done w _ (done_replied go w))

  next_behind : (after : Checked (Option Sub)) (g : Name) (vs : List Val) (line : ℕ) (w : Work) → Does (checked after line (λ after. at_node g vs line (λ n. Asks (call.Store (ops.Order n after)) (λ a. on_reply a (λ r. next r (λ s. at (go 0) (pushed (next_value s) w))))))) (asks_after after (node_by g (reverse vs)) line, w)
  unfolding at_node
  next_behind (Ok after) g vs line w = at_some_node (subs_by 0 (reverse vs)) g line w (λ n. ops.Order n after) want.Next _ (λ n. asks_store (ops.Order n after) want.Next w _ (next_replied go w))
  next_behind (Err e) g vs line w = λ same. refl

  ordered : (g : Name) (vs : List Val) (line : ℕ) (w : Work) → Does (orders g vs line (λ s. at (go 0) (pushed (next_value s) w))) (asks_next g vs line, w)
  unfolding orders
  ordered g [] line w = λ same. refl
  ordered g (last ∷ vs) line w = next_behind (after_of (length vs) last) g vs line w

  -- ---- locks

  timed_at : (r : Checked ℤ) (g : Name) (vs : List Val) (line : ℕ) (w : Work) (F : Option ℕ → Node → Frame) (M : Option ℕ → Node → Moved) → ((t : Option ℕ) (n : Node) → Does (F t n) (M t n))
      → Does (checked r line (λ z. at_node g vs line (λ n. F (Some (tries_of z)) n))) (tested (and_then r (λ z. Ok (Some (tries_of z)))) line w (λ t. tested (node_by g (reverse vs)) line w (λ n. M t n)))
  unfolding at_node
  timed_at (Ok z) g vs line w F M h = tests_node (subs_by 0 (reverse vs)) g line w _ _ (λ n. h (Some (tries_of z)) n)
  timed_at (Err e) g vs line w F M h = λ same. refl

  locked : (st : List Val) (ns : List ℤ) (vars : Vars) (g : Name) (k : ℕ) (timed : Bool) (line : ℕ) (F : Option ℕ → Node → Frame) (M : Option ℕ → Node → Moved) → ((t : Option ℕ) (n : Node) → Does (F t n) (M t n))
      → Does (timed_by timed line st (λ times rest. at_node g (take k rest) line (λ n. F times n))) (locks_by g k timed line (record { stack = st; numbers = ns; vars = vars }) M)
  unfolding at_node
  locked st ns vars g k false line F M h = tests_node (subs_by 0 (reverse (take k st))) g line _ _ _ (λ n. h None n)
  locked [] ns vars g k true line F M h = λ same. refl
  locked (v ∷ st) ns vars g k true line F M h = timed_at (number_of v) g (take k st) line _ F M h

  -- ---- loops

  counted_to : (t : Bool) (o : Option Val) (w v : Work) (over : ℕ) → Does (cond t (loses_some o (at (go 0) w)) (at (go over) v)) (cond t (lost_some o, w) (step.Goes over, v))
  counted_to true o w v over = loses_old o w
  counted_to false o w v over = λ same. refl

  dropped_where : (t : Bool) (v : Val) (over : ℕ) (w : Work) → Does (loses v (cond t (at (go 0) w) (at (go over) w))) (lost v (cond t 0 over), w)
  dropped_where true v over w = loses_one v 0 w
  dropped_where false v over w = loses_one v over w

  printed : (t : List ℕ) (w : Work) → Does (prints t (at (go 0) w)) (shows_text t, w)
  printed [] w = λ same. refl
  printed (b ∷ t) w = λ same. refl

  -- ---- all instructions but those that lose variables one by one

  abbrev works : List Val → List ℤ → Vars → Work
  works st ns vars = record { stack = st; numbers = ns; vars = vars }

  abbrev Deed : Instruction → List Val → List ℤ → Vars → Type 0
  Deed x st ns vars = Leads this go spend again (act this x go spend again st ns vars) (at (act this x go spend again) (move this x (works st ns vars)).1) (move this x (works st ns vars))

  pub does : (x : Instruction) (st : List Val) (ns : List ℤ) (vars : Vars) → Deed x st ns vars
  does (i.Push t) st ns vars = refl
  does (i.PushTruth t) st ns vars = refl
  does (i.Load x line) st ns vars = loaded (value_in x vars) line (works st ns vars) _
  does (i.LoadOrEmpty x) st ns vars = copied (value_in x vars) (works st ns vars) _ _ (λ same. refl) _
  does (i.LoadOrJump x k) st ns vars = copied (value_in x vars) (works st ns vars) _ _ (λ same. refl) _
  does (i.IsSet x) st ns vars = refl
  does (i.This line) st ns vars = here this line (works st ns vars) _
  does (i.TestThis line) st ns vars = tests (object_here this) line (works st ns vars) _ _ (λ _ same. refl) _
  does (i.Sign s line) [] ns vars = refl
  does (i.Sign s line) (x ∷ st) ns vars = made (signs s x) line (works (x ∷ st) ns vars) _
  does (i.Operate op line) [] ns vars = refl
  does (i.Operate op line) (y ∷ []) ns vars = refl
  does (i.Operate op line) (y ∷ x ∷ st) ns vars = made (joins op x y) line (works (y ∷ x ∷ st) ns vars) _
  does (i.Apply f k line) st ns vars = made (applies f (reverse (take k st))) line (works st ns vars) _
  does (i.SkipUnless k line) [] ns vars = refl
  does (i.SkipUnless k line) (v ∷ st) ns vars = tests (truth v) line (works (v ∷ st) ns vars) _ _ (λ t. skips t 0 k (works (v ∷ st) ns vars)) _
  does (i.SkipWhere k line) [] ns vars = refl
  does (i.SkipWhere k line) (v ∷ st) ns vars = tests (truth v) line (works (v ∷ st) ns vars) _ _ (λ t. skips t k 0 (works (v ∷ st) ns vars)) _
  does (i.Truth line) [] ns vars = refl
  does (i.Truth line) (v ∷ st) ns vars = tests (truth v) line (works (v ∷ st) ns vars) _ _ (λ t same. refl) _
  does i.DropUnder [] ns vars = refl
  does i.DropUnder (r ∷ []) ns vars = refl
  does i.DropUnder (r ∷ v ∷ st) ns vars = loses_one v 0 (works (r ∷ st) ns vars) _
  does i.DropTop [] ns vars = refl
  does i.DropTop (v ∷ st) ns vars = loses_one v 0 (works st ns vars) _
  does (i.Increment x line) st ns vars = tests_two (current (value_in x vars)) (λ a. whole (a +ℤ pos 1)) line (works st ns vars) _ _ (λ z. loses_old (value_in x vars) (works (number_value z ∷ st) ns (with_var x (number_value z) vars))) _
  does (i.IncrementBy x line) [] ns vars = refl
  does (i.IncrementBy x line) (k ∷ st) ns vars = tests_three (number_of k) (λ b. current (value_in x vars)) (λ b a. whole (a +ℤ b)) line (works (k ∷ st) ns vars) _ _ (λ z. loses_old (value_in x vars) (works (number_value z ∷ k ∷ st) ns (with_var x (number_value z) vars))) _
  does (i.TestSubscript others line) [] ns vars = refl
  does (i.TestSubscript others line) (v ∷ st) ns vars = tests (subscript_of others v) line (works (v ∷ st) ns vars) _ _ (λ _ same. refl) _
  does (i.TestAfter others line) [] ns vars = refl
  does (i.TestAfter others line) (v ∷ st) ns vars = tests (after_of others v) line (works (v ∷ st) ns vars) _ _ (λ _ same. refl) _
  does (i.Get g k line) st ns vars = found_at g (take k st) line (works st ns vars) (want.Found line) _ (got.Fails error.Undefined line, works st ns vars) refl (λ r. refl) _
  does (i.GetOrEmpty g k line) st ns vars = found_at g (take k st) line (works st ns vars) want.FoundOrEmpty _ (puts_value (text_value []) (works st ns vars)) refl (λ r. refl) _
  does (i.GetOrSkip g k line) [] ns vars = refl
  does (i.GetOrSkip g k line) (v ∷ st) ns vars = found_at g (take k st) line (works (v ∷ st) ns vars) want.FoundOrSkip _ (got.Goes 1, works (v ∷ st) ns vars) refl (λ r. refl) _
  does (i.Defined g k line) st ns vars = defined g (take k st) line (works st ns vars) _
  does (i.Order g k line) st ns vars = ordered g (take k st) line (works st ns vars) _
  does (i.Incr g k line) st ns vars = incremented g (take k st) (pos 1) line (works st ns vars) _
  does (i.IncrBy g k line) [] ns vars = refl
  does (i.IncrBy g k line) (v ∷ st) ns vars = tests (number_of v) line (works (v ∷ st) ns vars) _ _ (λ b. incremented g (take k st) b line (works (v ∷ st) ns vars)) _
  does (i.Set g k line) [] ns vars = refl
  does (i.Set g k line) (v ∷ st) ns vars = set_at g (take k st) v line (works (v ∷ st) ns vars) _
  does (i.Kill g k line) st ns vars = killed g (take k st) line (works st ns vars) _
  does i.UnlockAll st ns vars = asks_store _ want.Done (works st ns vars) _ (done_replied go (works st ns vars)) misfit
  does (i.Begin line) st ns vars = asks_store ops.Begin (want.Begun line) (works st ns vars) _ (begun_replied go (works st ns vars) line) misfit
  does (i.Commit line) st ns vars = asks_store ops.Commit (want.Committed line) (works st ns vars) _ (committed_replied go (works st ns vars) line) misfit
  does i.RollbackAll st ns vars = asks_store ops.RollbackAll want.Done (works st ns vars) _ (done_replied go (works st ns vars)) misfit
  does i.RollbackOne st ns vars = asks_store ops.RollbackOne want.Undone (works st ns vars) _ (undone_replied go (works st ns vars)) misfit
  does (i.TestLock g k timed line) st ns vars = locked st ns vars g k timed line (λ t n. at (go 0) (works st ns vars)) _ (λ t n same. refl) _
  does (i.TryLock g k mode timed line) st ns vars =
      locked st ns vars g k timed line (λ t n. Asks (call.TryLock n mode t) (λ a. on_tried a (at (go 0) (works st ns vars)))) _ (λ t n. asks (call.TryLock n mode t) awaits.Tried (works st ns vars) _ (tried_taken go (works st ns vars))) _
  does (i.Unlock g k mode timed line) st ns vars =
      locked st ns vars g k timed line (λ t n. Asks (call.Store (ops.Unlock n mode Script)) (λ a. on_reply a (λ r. given_back r (at (go 0) (works st ns vars))))) _ (λ t n. asks_store (ops.Unlock n mode Script) want.GivenBack (works st ns vars) _ (given_back_replied go (works st ns vars))) _
  does (i.Special special line) st ns vars = asks (call.Special special) (awaits.Value line) (works st ns vars) _ (value_taken go (works st ns vars) line) misfit
  does (i.CallClass class m k line) st ns vars = asks _ (awaits.Value line) (works st ns vars) _ (value_taken go (works st ns vars) line) misfit
  does (i.CallMember m k line) st ns vars = tops (drop k st) (works st ns vars) _ _ (λ o rest. called o m (take k st) line (works st ns vars)) _
  does (i.CallOwn m k line) st ns vars = called_here this m (take k st) line (works st ns vars) _
  does (i.Read p line) [] ns vars = refl
  does (i.Read p line) (o ∷ st) ns vars = asks_some (object_in o) line _ _ (works (o ∷ st) ns vars) _ (reads p line (works (o ∷ st) ns vars)) _
  does (i.ReadOwn p line) st ns vars = asks_some_of (object_here this) object_in line _ _ (works st ns vars) _ (reads p line (works st ns vars)) _
  does (i.ReadSubject p line) [] ns vars = refl
  does (i.ReadSubject p line) (o ∷ st) ns vars =
      asks_some (object_in o) line _ _ (works (o ∷ st) ns vars) _ (λ n. asks (call.Read n p) (awaits.Subject line) (works (o ∷ st) ns vars) _ (subject_taken go (works (o ∷ st) ns vars) line)) _
  does (i.ReadOwnSubject p line) st ns vars =
      asks_some_of (object_here this) object_in line _ _ (works st ns vars) _ (λ n. asks (call.Read n p) (awaits.OwnSubject line) (works st ns vars) _ (own_subject_taken go (works st ns vars) line)) _
  does (i.CallSubject p m k line) st [] vars = refl
  does (i.CallSubject p m k line) st (kind ∷ ns) vars = tops (drop k st) (works st (kind ∷ ns) vars) _ _ (λ o rest. kinds kind o p m (take k st) line (works st ns vars)) _
  does (i.CallOwnSubject p m k line) st [] vars = refl
  does (i.CallOwnSubject p m k line) st (kind ∷ ns) vars = tops (drop k st) (works st (kind ∷ ns) vars) _ _ (λ v rest. own_kinds kind v p m (take k st) line (works st ns vars)) _
  does (i.Write p line) [] ns vars = refl
  does (i.Write p line) (v ∷ []) ns vars = refl
  does (i.Write p line) (v ∷ o ∷ st) ns vars = written o p v line (works (v ∷ o ∷ st) ns vars) _
  does (i.WriteOwn p line) [] ns vars = refl
  does (i.WriteOwn p line) (v ∷ st) ns vars = written_own this p v line (works (v ∷ st) ns vars) _
  does (i.Store x) [] ns vars = refl
  does (i.Store x) (v ∷ st) ns vars = loses_old (value_in x vars) (works st ns (with_var x v vars)) _
  does i.Unit st ns vars = refl
  does i.Point st ns vars = refl
  does (i.Print line) [] ns vars = refl
  does (i.Print line) (v ∷ st) ns vars = tests (text_of v) line (works (v ∷ st) ns vars) _ _ (λ t. printed t (works (v ∷ st) ns vars)) _
  does i.PrintLine st ns vars = refl
  does (i.Go k) st ns vars = refl
  does (i.JumpUnless k line) [] ns vars = refl
  does (i.JumpUnless k line) (v ∷ st) ns vars = tests (truth v) line (works (v ∷ st) ns vars) _ _ (λ t. dropped_where t v k (works st ns vars)) _
  does (i.Again b) st ns vars = refl
  does (i.TakeNumber line) [] ns vars = refl
  does (i.TakeNumber line) (v ∷ st) ns vars = tests (number_of v) line (works (v ∷ st) ns vars) _ _ (λ z. loses_one v 0 (works st (z ∷ ns) vars)) _
  does i.NoLast st ns vars = refl
  does (i.BeginFor x) st [] vars = refl
  does (i.BeginFor x) st (a ∷ []) vars = refl
  does (i.BeginFor x) st (a ∷ b ∷ []) vars = refl
  does (i.BeginFor x) st (a ∷ b ∷ first ∷ ns) vars = loses_old (value_in x vars) _ _
  does (i.FirstTest bounded k) st [] vars = refl
  does (i.FirstTest bounded k) st (a ∷ []) vars = refl
  does (i.FirstTest bounded k) st (a ∷ b ∷ []) vars = refl
  does (i.FirstTest bounded k) st (last ∷ by ∷ first ∷ ns) vars = skips (is_within (last_of bounded last) by first) 1 k (works st (last ∷ by ∷ ns) vars) misfit
  does (i.Advance x bounded k line) st [] vars = refl
  does (i.Advance x bounded k line) st (a ∷ []) vars = refl
  does (i.Advance x bounded k line) st (last ∷ by ∷ ns) vars =
      tests_three (read (value_in x vars)) number_of (λ v a. whole (a +ℤ by)) line (works st (last ∷ by ∷ ns) vars) _ _ (λ z. counted_to (is_within (last_of bounded last) by z) (value_in x vars) (works st (last ∷ by ∷ ns) (with_var x (number_value z) vars)) (works st (last ∷ by ∷ ns) vars) k) _
  does i.EndFor st [] vars = refl
  does i.EndFor st (a ∷ []) vars = refl
  does i.EndFor st (a ∷ b ∷ ns) vars = refl
  does (i.Clear x) st ns vars = loses_old (value_in x vars) _ _
  does i.ClearAll st ns vars = by (last_object vars) (shed vars (go 0 st ns []))
    where
      by : (o : Option (ℕ × Vars)) → Shed o (loses_vars vars (go 0 st ns [])) (λ vars. loses_vars vars (go 0 st ns []))
          → Leads this go spend again (loses_vars vars (go 0 st ns [])) (at (act this i.ClearAll go spend again) (sheds o (λ w. (step.Goes 0, w)) (works st ns vars)).1) (sheds o (λ w. (step.Goes 0, w)) (works st ns vars))
      by None h = h
      by (Some p) h = h
  does i.Return [] ns vars = refl
  does i.Return (v ∷ st) ns vars = by (last_object vars) (shed vars (loses_some this (Ends (end.Done v))))
    where
      by : (o : Option (ℕ × Vars)) → Shed o (loses_vars vars (loses_some this (Ends (end.Done v)))) (λ vars. loses_vars vars (loses_some this (Ends (end.Done v))))
          → Leads this go spend again (loses_vars vars (loses_some this (Ends (end.Done v)))) (at (act this i.Return go spend again) (sheds o (λ w. (step.Leaves v, popped w)) (works (v ∷ st) ns vars)).1) (sheds o (λ w. (step.Leaves v, popped w)) (works (v ∷ st) ns vars))
      by None h = h
      by (Some p) h = h
  does i.Halt st ns vars = refl
