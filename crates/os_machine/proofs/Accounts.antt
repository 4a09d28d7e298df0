-- Each move keeps the count of an object's places, but for what it shows.
use Rattle.std.proofs.Common.{◌≡◌, ℕ, ◌+◌, ℤ, pos, Bool, true, false, cond, List, [], ◌∷◌, take, drop, reverse, length, Option, Some, None, is_some, Ok, Err, refl, sym, ap, ◌∙◌, subst, arith}
use Rattle.obj_kinds.specs.declared.node.Node.{Node}
use Rattle.obj_kinds.specs.declared.sub.Sub.{Sub}
use Rattle.obj_kinds.specs.declared.op.Op.{Op}
use Rattle.obj_kinds.specs.declared.value.Value.{Value}
use Rattle.os_kinds.specs.declared.val.Val.{Val}
use Rattle.os_kinds.specs.declared.val.Val.TheVariants.{Data, Ref}
use Rattle.os_kinds.specs.declared.call.Call.{Call}
use Rattle.os_meaning.specs.Syntax.{Name}
use Rattle.os_meaning.specs.Values.{Checked, text_of, number_of, number_value, bit, truth, signs, joins, applies, subscript_of, after_of}
use Rattle.os_meaning.specs.Frames.{Vars, value_in, with_var, without_var, object_in, object_here}
use Rattle.os_meaning.specs.Commands.{is_within}
use Rattle.os_meaning.specs.Accounts.{one_of, count, count_some, count_each, count_vars}
use Rattle.os_meaning.proofs.Balances.{set_counts, kill_counts}
use Rattle.os_code.specs.declared.instruction.Instruction.{Instruction}
use Rattle.os_code.specs.declared.instruction.Instruction.TheVariants as i
use Rattle.os_code.specs.Machine.{last_of}
use Rattle.os_machine.specs.Stacks.{top_of, without_under}
use Rattle.os_machine.specs.Plains.{node_by}
use Rattle.os_machine.specs.Variables.{last_object, behind_var}
use Rattle.os_machine.specs.Moves.{Moved, move, lost, lost_some, pushed, popped, with_vars, with_numbers, on, tested, puts, copies, raised, raised_by, advanced, asks_node, asks_after, asks_next, asks_object, own_number, calls_here, is_value, counts, span, lock_times, locks_by, above, shows_text, sheds}
use Rattle.os_machine.specs.Places.{places_in, places_at, Counts, CountsStep, CountsTelling, CountsTold, CountsTo}
use Rattle.os_machine.specs.States.{Took, Passes}
use Rattle.os_machine.specs.declared.stepped.Sight.{Sight}
use Rattle.os_machine.specs.declared.local.Told.{Told}
use Rattle.os_machine.specs.declared.local.Told.TheVariants as told
use Rattle.os_machine.specs.declared.local.Local.{Local}
use Rattle.os_machine.specs.declared.stepped.Sight.TheVariants as sight
use Rattle.os_machine.specs.declared.stepped.Wanted.{Wanted}
use Rattle.os_machine.specs.declared.stepped.Awaits.{Awaits}
use Rattle.os_machine.specs.declared.stepped.Stepped.{Stepped}
use Rattle.os_machine.specs.declared.stepped.Stepped.TheVariants as step
use Rattle.os_machine.specs.declared.work.Work.{Work}

module _ (o : ℕ) where
  -- the variables that are lost up to one with an object
  abbrev Shed : Option (ℕ × Vars) → ℕ → Type 0
  Shed None n = n ≡ 0
  Shed (Some p) n = n ≡ count_vars o p.1 + one_of o p.0

  shed : (vars : Vars) → Shed (last_object vars) (count_vars o vars)
  shed [] = refl
  shed (x ∷ vars) = by x.value (last_object vars) (shed vars)
    where
      by : (v : Val) (p : Option (ℕ × Vars)) → Shed p (count_vars o vars) → Shed (behind_var (record { name = x.name; value = v }) p) (count o v + count_vars o vars)
      by (Data d) None h = omega (arith, h)
      by (Ref number class) None h = omega (arith, h)
      by v (Some p) h = omega (arith, h)

  abbrev places : Work → ℕ
  places = places_in o

  -- a move from here
  abbrev Keeps : Work → Moved → Type 0
  Keeps w m = CountsStep m.0 o (places w) (places m.1)

  tests : {A : Type 0} (r : Checked A) (line : ℕ) (w : Work) (M : A → Moved) → ((a : A) → Keeps w (M a)) → Keeps w (tested r line w M)
  tests (Ok a) line w M h = h a
  tests (Err e) line w M h = refl

  ons : {A : Type 0} (x : Option A) (w : Work) (M : A → Moved) → ((a : A) → x ≡ Some a → Keeps w (M a)) → Keeps w (on x w M)
  ons None w M h = refl
  ons (Some a) w M h = h a refl

  made : (r : Checked Value) (line : ℕ) (w : Work) → Keeps w (puts r line w)
  made (Ok v) line w = omega arith
  made (Err e) line w = refl

  copied : (x : Option Val) (w : Work) (m : Moved) → Keeps w m → Keeps w (copies x m w)
  copied None w m h = h
  copied (Some (Data v)) w m h = omega arith
  copied (Some (Ref number class)) w m h = omega arith

  loses_one : (v : Val) (over : ℕ) (w new : Work) → places w ≡ places new + count o v → Keeps w (lost v over, new)
  loses_one (Data v) over w new h = omega (arith, h)
  loses_one (Ref number class) over w new h = h

  loses_old : (x : Option Val) (w new : Work) → places w ≡ places new + count_some o x → Keeps w (lost_some x, new)
  loses_old None w new h = omega (arith, h)
  loses_old (Some v) w new h = loses_one v 0 w new h

  popped_one : (st : List Val) (v : Val) → top_of st ≡ Some v → count_each o st ≡ count_each o (drop 1 st) + count o v
  popped_one [] v h = cc
  popped_one (x ∷ st) v h = let e : x ≡ v = cc in let same : count o x ≡ count o v = ap (count o) e in omega arith

  under_one : (st : List Val) (v : Val) → top_of (drop 1 st) ≡ Some v → count_each o st ≡ count_each o (without_under st) + count o v
  under_one [] v h = cc
  under_one (r ∷ []) v h = cc
  under_one (r ∷ x ∷ st) v h = let e : x ≡ v = cc in let same : count o x ≡ count o v = ap (count o) e in omega arith

  takes_off : (v : Val) (over : ℕ) (w : Work) (numbers : List ℤ) → top_of w.stack ≡ Some v → Keeps w (lost v over, with_numbers numbers (popped w))
  takes_off v over w numbers h = loses_one v over w (with_numbers numbers (popped w)) (omega (arith, popped_one w.stack v h))

  sets : (x : Name) (v : Val) (w : Work) → count o v ≡ 0 → Keeps w (lost_some (value_in x w.vars), with_vars (with_var x v w.vars) w)
  sets x v w h = loses_old (value_in x w.vars) w (with_vars (with_var x v w.vars) w) (omega (arith, set_counts o x v w.vars, h))

  asks_of_node : (n : Checked Node) (line : ℕ) (op : Node → Op) (want : Wanted) (w : Work) → Keeps w (asks_node n line op want, w)
  asks_of_node (Ok n) line op want w = refl
  asks_of_node (Err e) line op want w = refl

  asks_behind : (after : Checked (Option Sub)) (n : Checked Node) (line : ℕ) (w : Work) → Keeps w (asks_after after n line, w)
  asks_behind (Ok after) n line w = asks_of_node n line _ _ w
  asks_behind (Err e) n line w = refl

  asks_order : (g : Name) (vs : List Val) (line : ℕ) (w : Work) → Keeps w (asks_next g vs line, w)
  asks_order g [] line w = refl
  asks_order g (v ∷ vs) line w = asks_behind (after_of (length vs) v) (node_by g (reverse vs)) line w

  asks_of_object : (r : Checked ℕ) (line : ℕ) (c : ℕ → Call) (a : Awaits) (w new : Work) → places new ≡ places w → Keeps w (asks_object r line c a, new)
  asks_of_object (Ok n) line c a w new h = h
  asks_of_object (Err e) line c a w new h = h

  asks_here : (this : Option Val) (m : Name) (args : List Val) (line : ℕ) (w : Work) → Keeps w (calls_here this m args line, w)
  asks_here None m args line w = refl
  asks_here (Some v) m args line w = asks_of_object (object_in v) line _ _ w w refl

  asks_kind : (b : Bool) (p q : Checked ℕ) (line : ℕ) (c d : ℕ → Call) (a : Awaits) (w new : Work) → places new ≡ places w → Keeps w (cond b (asks_object p line c a) (asks_object q line d a), new)
  asks_kind true p q line c d a w new h = asks_of_object p line c a w new h
  asks_kind false p q line c d a w new h = asks_of_object q line d a w new h

  locked : (g : Name) (k : ℕ) (timed : Bool) (line : ℕ) (w : Work) (M : Option ℕ → Node → Moved) → ((t : Option ℕ) (n : Node) → Keeps w (M t n)) → Keeps w (locks_by g k timed line w M)
  locked g k timed line w M h = ons (lock_times timed (top_of w.stack)) w _ (λ times e. tests times line w _ (λ t. tests (node_by g (span (above timed) k w)) line w _ (λ n. h t n)))

  counted_to : (t : Bool) (x : Name) (z : ℤ) (over : ℕ) (w : Work) → Keeps w (cond t (counts x z w) (step.Goes over, w))
  counted_to true x z over w = sets x (number_value z) w refl
  counted_to false x z over w = refl

  truths : (t : Bool) → count o (bit t) ≡ 0
  truths true = refl
  truths false = refl

  printed : (t : List ℕ) (w : Work) → Keeps w (shows_text t, w)
  printed [] w = refl
  printed (b ∷ t) w = refl

  stored_one : (x : Name) (st : List Val) (ns : List ℤ) (vars : Vars) → Keeps (record { stack = st; numbers = ns; vars = vars }) (move None (i.Store x) (record { stack = st; numbers = ns; vars = vars }))
  stored_one x [] ns vars = refl
  stored_one x (v ∷ st) ns vars =
      loses_old (value_in x vars) (record { stack = v ∷ st; numbers = ns; vars = vars }) (record { stack = st; numbers = ns; vars = with_var x v vars }) (omega (arith, set_counts o x v vars))

  cleared : (p : Option (ℕ × Vars)) (w : Work) → Shed p (count_vars o w.vars) → Keeps w (sheds p (λ w. (step.Goes 0, w)) w)
  cleared None w h = omega (arith, h)
  cleared (Some p) w h = omega (arith, h)

  left_with : (p : Option (ℕ × Vars)) (v : Val) (w : Work) → top_of w.stack ≡ Some v → Shed p (count_vars o w.vars) → Keeps w (sheds p (λ w. (step.Leaves v, popped w)) w)
  left_with None v w e h = omega (arith, h, popped_one w.stack v e)
  left_with (Some p) v w e h = omega (arith, h)

  pub keeps : (this : Option Val) (x : Instruction) (w : Work) → Keeps w (move this x w)
  keeps this (i.Push t) w = omega arith
  keeps this (i.PushTruth t) w = omega (arith, truths t)
  keeps this (i.Load x line) w = copied (value_in x w.vars) w _ refl
  keeps this (i.LoadOrEmpty x) w = copied (value_in x w.vars) w _ (omega arith)
  keeps this (i.LoadOrJump x k) w = copied (value_in x w.vars) w _ refl
  keeps this (i.IsSet x) w = omega (arith, truths (is_some (value_in x w.vars)))
  keeps this (i.This line) w = copied this w _ refl
  keeps this (i.TestThis line) w = tests (object_here this) line w _ (λ _. refl)
  keeps this (i.Sign s line) w = ons (top_of w.stack) w _ (λ x e. made (signs s x) line w)
  keeps this (i.Operate op line) w = ons (top_of w.stack) w _ (λ y e. ons (top_of (drop 1 w.stack)) w _ (λ x d. made (joins op x y) line w))
  keeps this (i.Apply f k line) w = made (applies f (span 0 k w)) line w
  keeps this (i.SkipUnless k line) w = ons (top_of w.stack) w _ (λ v e. tests (truth v) line w _ (λ _. refl))
  keeps this (i.SkipWhere k line) w = ons (top_of w.stack) w _ (λ v e. tests (truth v) line w _ (λ _. refl))
  keeps this (i.Truth line) w = ons (top_of w.stack) w _ (λ v e. tests (truth v) line w _ (λ t. omega (arith, truths t)))
  keeps this i.DropUnder w = ons (top_of (drop 1 w.stack)) w _ (λ v e. loses_one v 0 w (record w { stack = without_under w.stack }) (omega (arith, under_one w.stack v e)))
  keeps this i.DropTop w = ons (top_of w.stack) w _ (λ v e. loses_one v 0 w (popped w) (omega (arith, popped_one w.stack v e)))
  keeps this (i.Increment x line) w =
      tests (raised (value_in x w.vars) (pos 1)) line w _ (λ z. loses_old (value_in x w.vars) w (pushed (number_value z) (with_vars (with_var x (number_value z) w.vars) w)) (omega (arith, set_counts o x (number_value z) w.vars)))
  keeps this (i.IncrementBy x line) w =
      ons (top_of w.stack) w _ (λ k e. tests (raised_by (value_in x w.vars) k) line w _ (λ z. loses_old (value_in x w.vars) w (pushed (number_value z) (with_vars (with_var x (number_value z) w.vars) w)) (omega (arith, set_counts o x (number_value z) w.vars))))
  keeps this (i.TestSubscript others line) w = ons (top_of w.stack) w _ (λ v e. tests (subscript_of others v) line w _ (λ _. refl))
  keeps this (i.TestAfter others line) w = ons (top_of w.stack) w _ (λ v e. tests (after_of others v) line w _ (λ _. refl))
  keeps this (i.Get g k line) w = asks_of_node (node_by g (span 0 k w)) line _ _ w
  keeps this (i.GetOrEmpty g k line) w = asks_of_node (node_by g (span 0 k w)) line _ _ w
  keeps this (i.GetOrSkip g k line) w = ons (top_of w.stack) w _ (λ v e. asks_of_node (node_by g (span 1 k w)) line _ _ w)
  keeps this (i.Defined g k line) w = asks_of_node (node_by g (span 0 k w)) line _ _ w
  keeps this (i.Order g k line) w = asks_order g (take k w.stack) line w
  keeps this (i.Incr g k line) w = asks_of_node (node_by g (span 0 k w)) line _ _ w
  keeps this (i.IncrBy g k line) w = ons (top_of w.stack) w _ (λ v e. tests (number_of v) line w _ (λ b. asks_of_node (node_by g (span 1 k w)) line _ _ w))
  keeps this (i.Set g k line) w = ons (top_of w.stack) w _ (λ v e. asks_of_node (node_by g (span 1 k w)) line _ _ w)
  keeps this (i.Kill g k line) w = asks_of_node (node_by g (span 0 k w)) line _ _ w
  keeps this i.UnlockAll w = refl
  keeps this (i.Begin line) w = refl
  keeps this (i.Commit line) w = refl
  keeps this i.RollbackAll w = refl
  keeps this i.RollbackOne w = refl
  keeps this (i.TestLock g k timed line) w = locked g k timed line w _ (λ t n. refl)
  keeps this (i.TryLock g k mode timed line) w = locked g k timed line w _ (λ t n. refl)
  keeps this (i.Unlock g k mode timed line) w = locked g k timed line w _ (λ t n. refl)
  keeps this (i.Special special line) w = refl
  keeps this (i.CallClass class m k line) w = refl
  keeps this (i.CallMember m k line) w = ons (top_of (drop k w.stack)) w _ (λ v e. asks_of_object (object_in v) line _ _ w w refl)
  keeps this (i.CallOwn m k line) w = asks_here this m (span 0 k w) line w
  keeps this (i.Read p line) w = ons (top_of w.stack) w _ (λ v e. asks_of_object (object_in v) line _ _ w w refl)
  keeps this (i.ReadOwn p line) w = asks_of_object (own_number this) line _ _ w w refl
  keeps this (i.ReadSubject p line) w = ons (top_of w.stack) w _ (λ v e. asks_of_object (object_in v) line _ _ w w refl)
  keeps this (i.ReadOwnSubject p line) w = asks_of_object (own_number this) line _ _ w w refl
  keeps this (i.CallSubject p m k line) w = ons (top_of w.numbers) w _ (λ kind e. ons (top_of (drop k w.stack)) w _ (λ v d. asks_kind (is_value kind) (object_in v) (object_in v) line _ _ _ w (with_numbers (drop 1 w.numbers) w) refl))
  keeps this (i.CallOwnSubject p m k line) w = ons (top_of w.numbers) w _ (λ kind e. ons (top_of (drop k w.stack)) w _ (λ v d. asks_kind (is_value kind) (object_in v) (own_number this) line _ _ _ w (with_numbers (drop 1 w.numbers) w) refl))
  keeps this (i.Write p line) w = ons (top_of w.stack) w _ (λ v e. ons (top_of (drop 1 w.stack)) w _ (λ x d. asks_of_object (object_in x) line _ _ w w refl))
  keeps this (i.WriteOwn p line) w = ons (top_of w.stack) w _ (λ v e. asks_of_object (own_number this) line _ _ w w refl)
  keeps this (i.Store x) w = stored_one x w.stack w.numbers w.vars
  keeps this i.Unit w = refl
  keeps this i.Point w = refl
  keeps this (i.Print line) w = ons (top_of w.stack) w _ (λ v e. tests (text_of v) line w _ (λ t. printed t w))
  keeps this i.PrintLine w = refl
  keeps this (i.Go k) w = refl
  keeps this (i.JumpUnless k line) w = ons (top_of w.stack) w _ (λ v e. tests (truth v) line w _ (λ t. takes_off v (cond t 0 k) w w.numbers e))
  keeps this (i.Again b) w = refl
  keeps this (i.TakeNumber line) w = ons (top_of w.stack) w _ (λ v e. tests (number_of v) line w _ (λ z. takes_off v 0 w (z ∷ w.numbers) e))
  keeps this i.NoLast w = refl
  keeps this (i.BeginFor x) w = ons (top_of (drop 2 w.numbers)) w _ (λ z e. sets x (number_value z) w refl)
  keeps this (i.FirstTest bounded k) w = ons (top_of w.numbers) w _ (λ a e. ons (top_of (drop 1 w.numbers)) w _ (λ b d. ons (top_of (drop 2 w.numbers)) w _ (λ c f. refl)))
  keeps this (i.Advance x bounded k line) w =
      ons (top_of w.numbers) w _ (λ last e. ons (top_of (drop 1 w.numbers)) w _ (λ by d. tests (advanced (value_in x w.vars) by) line w _ (λ z. counted_to (is_within (last_of bounded last) by z) x z k w)))
  keeps this i.EndFor w = ons (top_of (drop 1 w.numbers)) w _ (λ a e. refl)
  keeps this (i.Clear x) w = loses_old (value_in x w.vars) w (with_vars (without_var x w.vars) w) (omega (arith, kill_counts o x w.vars))
  keeps this i.ClearAll w = cleared (last_object w.vars) w (shed w.vars)
  keeps this i.Return w = ons (top_of w.stack) w _ (λ v e. left_with (last_object w.vars) v w e (shed w.vars))
  keeps this i.Halt w = refl

-- ---- a step, and what is told of it

module _ (old mid new : Local) where
  tells : (t : Option Told) (x : Told) → t ≡ Some x → CountsTold x old new → CountsTo t old new
  tells t x e h = subst (λ y. CountsTo y old new) (sym e) h

  quiet : (t : Option Told) → t ≡ None → ((o : ℕ) → places_at o new ≡ places_at o old) → CountsTo t old new
  quiet t e h = subst (λ y. CountsTo y old new) (sym e) h

  -- what was shown behind the move is shown behind the step
  shown : (s : Sight) → ((o : ℕ) → Counts s o (places_at o old) (places_at o mid)) → ((o : ℕ) → places_at o new ≡ places_at o mid) → (o : ℕ) → Counts s o (places_at o old) (places_at o new)
  shown s h same o = subst (Counts s o (places_at o old)) (sym (same o)) (h o)

  took_place : (next before after last : ℕ) (t : Option Told) → ((o : ℕ) → places_at o mid ≡ places_at o old) → Took next before after mid new t → CountsTo t old new
  took_place next before after last None h p = λ o. ap (places_at o) p.none.0 ∙ h o
  took_place next before after last (Some x) h p = tells (Some x) told.Fuel (ap Some p.some.0) (λ o. ap (places_at o) p.some.1 ∙ h o)

  counts_step : (s : Stepped) (last before after : ℕ) (t : Option Told) → ((o : ℕ) → CountsStep s o (places_at o old) (places_at o mid)) → Passes last before after s mid t new → CountsTo t old new
  counts_step (step.Goes k) last before after t h p = quiet t p.0 (λ o. ap (places_at o) p.1 ∙ h o)
  counts_step (step.Shows s k) last before after t h p = tells t (told.Shows s) p.0 (shown s h (λ o. ap (places_at o) p.1))
  counts_step (step.Stays s) last before after t h p = tells t (told.Shows s) p.0 (shown s h (λ o. ap (places_at o) p.1))
  counts_step (step.Asks c a) last before after t h p = tells t (told.Asks c a) p.0 (λ o. ap (places_at o) p.1 ∙ h o)
  counts_step (step.Leaves v) last before after t h p = tells t (told.Leaves v) p.0 (λ o. h o ∙ ap (λ l. places_at o l + count o v) (sym p.1))
  counts_step step.Spends last before after t h p = took_place _ before after last t h p
  counts_step (step.Returns b) last before after t h p = took_place _ before after last t h p
  counts_step (step.Fails e line) last before after t h p = tells t (told.Fails e line) p.0 (λ o. ap (places_at o) p.1 ∙ h o)
  counts_step step.Halts last before after t h p = tells t told.Halts p.0 (λ o. ap (places_at o) p.1 ∙ h o)

-- the object whose method runs has its place beside the others
beside_sight : (s : Sight) (o b x y : ℕ) → Counts s o x y → Counts s o (b + x) (b + y)
beside_sight (sight.More n) o b x y h = omega (arith, h)
beside_sight (sight.Less n) o b x y h = omega (arith, h)
beside_sight (sight.Print t) o b x y h = omega (arith, h)
beside_sight sight.Point o b x y h = omega (arith, h)

beside : (s : Stepped) (o b x y : ℕ) → CountsStep s o x y → CountsStep s o (b + x) (b + y)
beside (step.Goes k) o b x y h = omega (arith, h)
beside (step.Shows s k) o b x y h = beside_sight s o b x y h
beside (step.Stays s) o b x y h = beside_sight s o b x y h
beside (step.Asks c a) o b x y h = omega (arith, h)
beside (step.Leaves v) o b x y h = omega (arith, h)
beside step.Spends o b x y h = omega (arith, h)
beside (step.Returns back) o b x y h = omega (arith, h)
beside (step.Fails e line) o b x y h = omega (arith, h)
beside step.Halts o b x y h = omega (arith, h)

pub step_counts : (i : Instruction) (old new : Local) (w : Work) (s : Stepped) (last before after : ℕ) (t : Option Told) → (s, w) ≡ move old.this i old.work → Passes last before after s (record old { work = w }) t new → CountsTo t old new
step_counts i old new w s last before after t is p =
    counts_step old (record old { work = w }) new s last before after t
    (λ o. beside s o (count_some o old.this) (places_in o old.work) (places_in o w) (subst (λ m. CountsStep m.0 o (places_in o old.work) (places_in o m.1)) (sym is) (keeps o old.this i old.work))) p

-- what is told behind a quiet run
pub told_after : (t : Told) (old mid new : Local) → ((o : ℕ) → places_at o mid ≡ places_at o old) → CountsTold t mid new → CountsTold t old new
told_after t old mid new h now o = subst (λ n. CountsTelling t o n (places_at o new)) (h o) (now o)
