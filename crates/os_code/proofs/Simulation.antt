-- Flat code does what its script means: from each place on, what the code does is what follows there.
use Rattle.std.proofs.Common.{◌≡◌, ℕ, zero, suc, ◌+◌, ◌-◌, ◌≤◌, ℤ, pos, ◌+ℤ◌, Bool, true, false, cond, ◌||◌, List, [], ◌∷◌, ◌++◌, length, take, drop, reverse, Option, Some, None, is_some, refl, sym, ap, ◌∙◌, arith, append_assoc, length-append, length-drop, take-append-drop}
use Rattle.obj_kinds.specs.declared.op.Mode.{Mode}
use Rattle.obj_kinds.specs.declared.op.Owner.TheVariants.{Script}
use Rattle.obj_kinds.specs.declared.op.Op.TheVariants as ops
use Rattle.os_kinds.specs.declared.val.Val.{Val}
use Rattle.os_kinds.specs.declared.val.Val.TheVariants.{Data}
use Rattle.os_kinds.specs.declared.call.Call.TheVariants as call
use Rattle.os_kinds.specs.declared.command.LockAction.{LockAction}
use Rattle.os_kinds.specs.declared.command.LockAction.TheVariants.{Renew, Add, Remove}
use Rattle.os_value.specs.Readings.{whole}
use Rattle.os_meaning.specs.Syntax as s
use Rattle.os_meaning.specs.Syntax.{Name, Expr, Exprs, Place, Target, Assignment, Claim, Action, Command, Block, Branches}
use Rattle.os_meaning.specs.Values.{Checked, text_of, text_value, number_of, number_value, bit, truth, joins, signs, applies, subscript_of, after_of}
use Rattle.os_meaning.specs.Frames.{Frame, Prints, Points, Spends, Asks, within, Vars, Use, Rest, Whole, Collection, checked, loses_each, loses_some, value_in, with_var, without_var, read, current, object_in, object_here, on_got, at_node, gets, defines, sets, kills, increments, orders, calls, calls_own, writes}
use Rattle.os_meaning.specs.Expressions.{value, values, subscripts, steps, tested, next_value}
use Rattle.os_meaning.specs.Commands.{tries, tries_of, locks, renews, is_within, advances, meets, assigns, assigns_all, writes_all, calls_all, kills_all, timed, locks_all, leaves, acts, acts_where, chooses, number, last_number}
use Rattle.os_meaning.specs.Meaning.{Test, Body, turn, turns, does, runs, takes, frame}
use Rattle.os_code.specs.declared.instruction.Instruction.{Instruction}
use Rattle.os_code.specs.declared.instruction.Instruction.TheVariants as i
use Rattle.os_code.specs.Machine.{Next, on_top, last_of, as_value, as_items, gives_back, called_by, owned_by, back, walk, spent, from}
use Rattle.os_code.specs.Coding.{count, expr_size, meets_size, action_size, chooses_size, block_size, branches_size, drops, drops_top, step_test, expr_code, args_code, subs_code, steps_code, meets_code, assigned_code, assigns_code, writes_code, calls_code, kills_code, timeout_code, is_timed, untimed, lock_code, locks_code, action_code, plain_code, chooses_code, while_code, number_code, last_code, is_bounded, for_code, command_code, block_code, branches_code, script_code}
use Rattle.os_code.proofs.Sizes.{Passes, passes_two, passes_one, expr_passes, meets_pass, action_passes, chooses_pass, last_passes, command_passes, block_passes, branches_pass}
use Rattle.os_code.proofs.Same.{checked_same, checked_with, cond_same, holds_same, loses_same, loses_some_same, loses_vars_same, prints_same, asks_same, copied_same, on_got_same, on_read_same, begun_same, committed_same, undone_same, asks_op_same, asks_done_same, tries_same, gives_back_same, at_node_with, at_node_same, gets_same, defines_same, sets_same, kills_same, increments_same, orders_same, calls_same, calls_own_same, writes_same, tested_same}
use Rattle.os_code.specs.Laws.{Agrees, BoundsAgree}

-- ---- lists

take_front : (ws st : List Val) → take (length ws) (ws ++ st) ≡ ws
take_front [] st = refl
take_front (w ∷ ws) st = ap (λ l. w ∷ l) (take_front ws st)

drop_front : (ws st : List Val) → drop (length ws) (ws ++ st) ≡ st
drop_front [] st = refl
drop_front (w ∷ ws) st = drop_front ws st

taken : (k : ℕ) (ws st : List Val) → length ws ≡ k → take k (ws ++ st) ≡ ws
taken k ws st e = ap (λ j. take j (ws ++ st)) (sym e) ∙ take_front ws st

dropped : (k : ℕ) (ws st : List Val) → length ws ≡ k → drop k (ws ++ st) ≡ st
dropped k ws st e = ap (λ j. drop j (ws ++ st)) (sym e) ∙ drop_front ws st

-- ---- the machine

module _ (this : Option Val) (code : List Instruction) where
  abbrev go : ℕ → List Instruction → Next
  go = from this code

  skips : (f : List Instruction → Next) (k : ℕ) (xs : List Instruction) (stack : List Val) (numbers : List ℤ) (vars : Vars) → walk this code f k xs stack numbers vars ≡ walk this code f 0 (drop k xs) stack numbers vars
  skips f zero xs stack numbers vars = refl
  skips f (suc k) [] stack numbers vars = refl
  skips f (suc k) (x ∷ xs) stack numbers vars = skips f k xs stack numbers vars

  -- a jump over k instructions
  jumps : (n k : ℕ) (xs ys : List Instruction) (stack : List Val) (numbers : List ℤ) (vars : Vars) → Passes k xs ys → walk this code (spent this code n) k xs stack numbers vars ≡ go n ys stack numbers vars
  jumps n k xs ys stack numbers vars h = skips (spent this code n) k xs stack numbers vars ∙ ap (λ c. go n c stack numbers vars) h.by

  -- values below the top one
  drops_run : (n : ℕ) (ws : List Val) (rest : List Instruction) (r : Val) (st : List Val) (ns : List ℤ) (vars : Vars) (f : Frame) → go n rest (r ∷ st) ns vars ≡ within f n → go n (drops (length ws) rest) (r ∷ (ws ++ st)) ns vars ≡ within (loses_each ws f) n
  drops_run n [] rest r st ns vars f h = h
  drops_run n (w ∷ ws) rest r st ns vars f h = loses_same w _ _ n (drops_run n ws rest r st ns vars f h)

  drops_all : (n k : ℕ) (ws : List Val) (rest : List Instruction) (r : Val) (st : List Val) (ns : List ℤ) (vars : Vars) (f : Frame) → length ws ≡ k → go n rest (r ∷ st) ns vars ≡ within f n → go n (drops k rest) (r ∷ (ws ++ st)) ns vars ≡ within (loses_each ws f) n
  drops_all n k ws rest r st ns vars f e h = ap (λ j. go n (drops j rest) (r ∷ (ws ++ st)) ns vars) (sym e) ∙ drops_run n ws rest r st ns vars f h

  drops_top_run : (n : ℕ) (ws : List Val) (rest : List Instruction) (st : List Val) (ns : List ℤ) (vars : Vars) (f : Frame) → go n rest st ns vars ≡ within f n → go n (drops_top (length ws) rest) (ws ++ st) ns vars ≡ within (loses_each ws f) n
  drops_top_run n [] rest st ns vars f h = h
  drops_top_run n (w ∷ ws) rest st ns vars f h = loses_same w _ _ n (drops_top_run n ws rest st ns vars f h)

  drops_top_all : (n k : ℕ) (ws : List Val) (rest : List Instruction) (st : List Val) (ns : List ℤ) (vars : Vars) (f : Frame) → length ws ≡ k → go n rest st ns vars ≡ within f n → go n (drops_top k rest) (ws ++ st) ns vars ≡ within (loses_each ws f) n
  drops_top_all n k ws rest st ns vars f e h = ap (λ j. go n (drops_top j rest) (ws ++ st) ns vars) (sym e) ∙ drops_top_run n ws rest st ns vars f h

  -- a call of what stands below the arguments
  abbrev asks_member : ℕ → Name → ℕ → ℕ → List Instruction → List Val → Next
  asks_member n m k line rest below stack ns vars =
      on_top below (λ o _. calls (Whole o) m (take k stack) line (λ v. go n rest (v ∷ stack) ns vars))

  abbrev asks_subject : ℕ → ℤ → Name → Name → ℕ → ℕ → List Instruction → List Val → Next
  asks_subject n kind p m k line rest below stack ns vars =
      on_top below (λ o _. called_by kind o p m (take k stack) line (λ v. go n rest (v ∷ stack) ns vars))

  abbrev asks_own_subject : ℕ → ℤ → Name → Name → ℕ → ℕ → List Instruction → List Val → Next
  asks_own_subject n kind p m k line rest below stack ns vars =
      on_top below (λ v _. owned_by kind this v p m (take k stack) line (λ r. go n rest (r ∷ stack) ns vars))

  module _ (line : ℕ) where
    -- the test of a subscript of `$ORDER`
    step_runs : (es : Exprs) (others n : ℕ) (rest : List Instruction) (v : Val) (st : List Val) (ns : List ℤ) (vars : Vars) (f : Frame) → go n rest (v ∷ st) ns vars ≡ within f n → go n (step_test line es others ∷ rest) (v ∷ st) ns vars ≡ within (checked (tested es others v) line (λ _. f)) n
    step_runs s.NoMore others n rest v st ns vars f h = checked_same (after_of others v) line _ _ n (λ _. h)
    step_runs (s.More e es) others n rest v st ns vars f h = tested_same (subscript_of others v) line _ _ n h

    mutual
      value_runs : (e : Expr) (n : ℕ) (rest : List Instruction) (st : List Val) (ns : List ℤ) (vars : Vars) (k : Use) → ((v : Val) (vars : Vars) → go n rest (v ∷ st) ns vars ≡ within (k v vars) n) → go n (expr_code line e rest) st ns vars ≡ within (value this line e vars k) n
      value_runs (s.Literal t) n rest st ns vars k h = h (text_value t) vars
      value_runs (s.Read (s.Local x)) n rest st ns vars k h = checked_same (read (value_in x vars)) line _ _ n (λ v. holds_same v _ _ n (h v vars))
      value_runs (s.Read (s.Global g subs)) n rest st ns vars k h =
          subs_run subs n _ st ns [] vars (count subs) _ (omega arith) (λ ws us e.
          ap (λ vs. gets g vs line (λ v. go n (drops (count subs) rest) (v ∷ (ws ++ st)) ns us) (checked (read None) line (λ v. go n (drops (count subs) rest) (ws ++ st) ns us))) (taken (count subs) ws st e)
          ∙ gets_same g ws line _ _ _ _ n (λ v. drops_all n (count subs) ws rest v st ns us _ e (h v us)) refl)
      value_runs (s.Kept special) n rest st ns vars k h = asks_same (call.Special special) _ _ n (λ a. on_got_same line a _ _ n (λ v. h v vars))
      value_runs s.This n rest st ns vars k h = checked_same (object_here this) line _ _ n (λ v. holds_same v _ _ n (h v vars))
      value_runs (s.Apply f args) n rest st ns vars k h =
          values_run args n _ st ns [] vars (count args) _ (omega arith) (λ ws us e.
          ap (λ vs. checked (applies f (reverse vs)) line (λ r. go n (drops (count args) rest) (Data r ∷ (ws ++ st)) ns us)) (taken (count args) ws st e)
          ∙ checked_same (applies f (reverse ws)) line _ _ n (λ r. drops_all n (count args) ws rest (Data r) st ns us _ e (h (Data r) us)))
      value_runs (s.Get (s.Local x)) n rest st ns vars k h = copied_same (value_in x vars) _ _ _ _ n (λ v. h v vars) (h (text_value []) vars)
      value_runs (s.Get (s.Global g subs)) n rest st ns vars k h =
          subs_run subs n _ st ns [] vars (count subs) _ (omega arith) (λ ws us e.
          ap (λ vs. gets g vs line (λ v. go n (drops (count subs) rest) (v ∷ (ws ++ st)) ns us) (go n (drops (count subs) rest) (text_value [] ∷ (ws ++ st)) ns us)) (taken (count subs) ws st e)
          ∙ gets_same g ws line _ _ _ _ n (λ v. drops_all n (count subs) ws rest v st ns us _ e (h v us)) (drops_all n (count subs) ws rest (text_value []) st ns us _ e (h (text_value []) us)))
      value_runs (s.GetOr (s.Local x) other) n rest st ns vars k h =
          value_runs other n _ st ns vars _ (λ d us. copied_same (value_in x us) _ _ _ _ n (λ v. loses_same d _ _ n (h v us)) (h d us))
      value_runs (s.GetOr (s.Global g subs) other) n rest st ns vars k h =
          subs_run subs n _ st ns [] vars (count subs) _ (omega arith) (λ ws us e. value_runs other n _ (ws ++ st) ns us _ (λ d ys.
          ap (λ vs. gets g vs line (λ v. go n (i.DropUnder ∷ drops (count subs) rest) (v ∷ d ∷ (ws ++ st)) ns ys) (go n (drops (count subs) rest) (d ∷ (ws ++ st)) ns ys)) (taken (count subs) ws st e)
          ∙ gets_same g ws line _ _ _ _ n (λ v. loses_same d _ _ n (drops_all n (count subs) ws rest v st ns ys _ e (h v ys))) (drops_all n (count subs) ws rest d st ns ys _ e (h d ys))))
      value_runs (s.Defined (s.Local x)) n rest st ns vars k h = h (bit (is_some (value_in x vars))) vars
      value_runs (s.Defined (s.Global g subs)) n rest st ns vars k h =
          subs_run subs n _ st ns [] vars (count subs) _ (omega arith) (λ ws us e.
          ap (λ vs. defines g vs line (λ m. go n (drops (count subs) rest) (number_value (pos m) ∷ (ws ++ st)) ns us)) (taken (count subs) ws st e)
          ∙ defines_same g ws line _ _ n (λ m. drops_all n (count subs) ws rest (number_value (pos m)) st ns us _ e (h (number_value (pos m)) us)))
      value_runs (s.Order g subs) n rest st ns vars k h =
          steps_run subs n _ st ns [] vars (count subs) _ (omega arith) (λ ws us e.
          ap (λ vs. orders g vs line (λ m. go n (drops (count subs) rest) (next_value m ∷ (ws ++ st)) ns us)) (taken (count subs) ws st e)
          ∙ orders_same g ws line _ _ n (λ m. drops_all n (count subs) ws rest (next_value m) st ns us _ e (h (next_value m) us)))
      value_runs (s.Increment (s.Local x)) n rest st ns vars k h =
          checked_same (current (value_in x vars)) line _ _ n (λ a. checked_same (whole (a +ℤ pos 1)) line _ _ n (λ z. loses_some_same (value_in x vars) _ _ n (h (number_value z) (with_var x (number_value z) vars))))
      value_runs (s.Increment (s.Global g subs)) n rest st ns vars k h =
          subs_run subs n _ st ns [] vars (count subs) _ (omega arith) (λ ws us e.
          ap (λ vs. increments g vs (pos 1) line (λ z. go n (drops (count subs) rest) (number_value z ∷ (ws ++ st)) ns us)) (taken (count subs) ws st e)
          ∙ increments_same g ws (pos 1) line _ _ n (λ z. drops_all n (count subs) ws rest (number_value z) st ns us _ e (h (number_value z) us)))
      value_runs (s.IncrementBy (s.Local x) by) n rest st ns vars k h =
          value_runs by n _ st ns vars _ (λ d us. checked_same (number_of d) line _ _ n (λ b. checked_same (current (value_in x us)) line _ _ n (λ a. checked_same (whole (a +ℤ b)) line _ _ n (λ z.
          loses_some_same (value_in x us) _ _ n (loses_same d _ _ n (h (number_value z) (with_var x (number_value z) us)))))))
      value_runs (s.IncrementBy (s.Global g subs) by) n rest st ns vars k h =
          subs_run subs n _ st ns [] vars (count subs) _ (omega arith) (λ ws us e. value_runs by n _ (ws ++ st) ns us _ (λ d ys. checked_same (number_of d) line _ _ n (λ b.
          ap (λ vs. increments g vs b line (λ z. go n (i.DropUnder ∷ drops (count subs) rest) (number_value z ∷ d ∷ (ws ++ st)) ns ys)) (taken (count subs) ws st e)
          ∙ increments_same g ws b line _ _ n (λ z. loses_same d _ _ n (drops_all n (count subs) ws rest (number_value z) st ns ys _ e (h (number_value z) ys))))))
      value_runs (s.OnClass class m args) n rest st ns vars k h =
          values_run args n _ st ns [] vars (count args) _ (omega arith) (λ ws us e.
          ap (λ vs. Asks (call.OnClass class m (reverse vs)) (λ a. on_got line a (λ v. go n (drops (count args) rest) (v ∷ (ws ++ st)) ns us))) (taken (count args) ws st e)
          ∙ asks_same (call.OnClass class m (reverse ws)) _ _ n (λ a. on_got_same line a _ _ n (λ v. drops_all n (count args) ws rest v st ns us _ e (h v us))))
      value_runs (s.OwnProperty p) n rest st ns vars k h =
          checked_same (object_here this) line _ _ n (λ o. checked_same (object_in o) line _ _ n (λ number. asks_same (call.Read number p) _ _ n (λ a. on_got_same line a _ _ n (λ v. h v vars))))
      value_runs (s.OwnMethod m args) n rest st ns vars k h =
          values_run args n _ st ns [] vars (count args) _ (omega arith) (λ ws us e.
          ap (λ vs. calls_own this m vs line (λ v. go n (drops (count args) rest) (v ∷ (ws ++ st)) ns us)) (taken (count args) ws st e)
          ∙ calls_own_same this m ws line _ _ n (λ v. drops_all n (count args) ws rest v st ns us _ e (h v us)))
      value_runs (s.OwnPropertyMethod p m args) n rest st ns vars k h =
          checked_with (object_here this) line _ _ n (λ o eo. checked_with (object_in o) line _ _ n (λ number en. asks_same (call.Read number p) _ _ n (λ a. on_read_same line a _ _ _ _ n
          (λ v. values_run args n _ (v ∷ st) (as_value ∷ ns) [] vars (count args) _ (omega arith) (λ ws us e.
          ap (λ vs. asks_own_subject n as_value p m (count args) line (drops (count args) (i.DropUnder ∷ rest)) vs (ws ++ (v ∷ st)) ns us) (dropped (count args) ws (v ∷ st) e)
          ∙ ap (λ vs. calls (Whole v) m vs line (λ r. go n (drops (count args) (i.DropUnder ∷ rest)) (r ∷ (ws ++ (v ∷ st))) ns us)) (taken (count args) ws (v ∷ st) e)
          ∙ calls_same (Whole v) m ws line _ _ n (λ r. drops_all n (count args) ws (i.DropUnder ∷ rest) r (v ∷ st) ns us _ e (loses_same v _ _ n (h r us)))))
          (values_run args n _ (text_value [] ∷ st) (as_items ∷ ns) [] vars (count args) _ (omega arith) (λ ws us e.
          ap (λ vs. asks_own_subject n as_items p m (count args) line (drops (count args) (i.DropUnder ∷ rest)) vs (ws ++ (text_value [] ∷ st)) ns us) (dropped (count args) ws (text_value [] ∷ st) e)
          ∙ ap (λ vs. owned_by as_items this (text_value []) p m vs line (λ r. go n (drops (count args) (i.DropUnder ∷ rest)) (r ∷ (ws ++ (text_value [] ∷ st))) ns us)) (taken (count args) ws (text_value [] ∷ st) e)
          ∙ ap (λ (x : Checked Val). checked x line (λ object. checked (object_in object) line (λ number. calls (Collection number p) m ws line (λ r. go n (drops (count args) (i.DropUnder ∷ rest)) (r ∷ (ws ++ (text_value [] ∷ st))) ns us)))) eo
          ∙ ap (λ (x : Checked ℕ). checked x line (λ number. calls (Collection number p) m ws line (λ r. go n (drops (count args) (i.DropUnder ∷ rest)) (r ∷ (ws ++ (text_value [] ∷ st))) ns us))) en
          ∙ calls_same (Collection number p) m ws line _ _ n (λ r. drops_all n (count args) ws (i.DropUnder ∷ rest) r (text_value [] ∷ st) ns us _ e (h r us)))))))
      value_runs (s.Property o p) n rest st ns vars k h =
          value_runs o n _ st ns vars _ (λ x us. checked_same (object_in x) line _ _ n (λ number. asks_same (call.Read number p) _ _ n (λ a. on_got_same line a _ _ n (λ v. loses_same x _ _ n (h v us)))))
      value_runs (s.Method o m args) n rest st ns vars k h =
          value_runs o n _ st ns vars _ (λ x us. values_run args n _ (x ∷ st) ns [] us (count args) _ (omega arith) (λ ws ys e.
          ap (λ vs. asks_member n m (count args) line (drops (count args) (i.DropUnder ∷ rest)) vs (ws ++ (x ∷ st)) ns ys) (dropped (count args) ws (x ∷ st) e)
          ∙ ap (λ vs. calls (Whole x) m vs line (λ v. go n (drops (count args) (i.DropUnder ∷ rest)) (v ∷ (ws ++ (x ∷ st))) ns ys)) (taken (count args) ws (x ∷ st) e)
          ∙ calls_same (Whole x) m ws line _ _ n (λ v. drops_all n (count args) ws (i.DropUnder ∷ rest) v (x ∷ st) ns ys _ e (loses_same x _ _ n (h v ys)))))
      value_runs (s.PropertyMethod o p m args) n rest st ns vars k h =
          value_runs o n _ st ns vars _ (λ x us. checked_with (object_in x) line _ _ n (λ number en. asks_same (call.Read number p) _ _ n (λ a. on_read_same line a _ _ _ _ n
          (λ v. loses_same x _ _ n (values_run args n _ (v ∷ st) (as_value ∷ ns) [] us (count args) _ (omega arith) (λ ws ys e.
          ap (λ vs. asks_subject n as_value p m (count args) line (drops (count args) (i.DropUnder ∷ rest)) vs (ws ++ (v ∷ st)) ns ys) (dropped (count args) ws (v ∷ st) e)
          ∙ ap (λ vs. calls (Whole v) m vs line (λ r. go n (drops (count args) (i.DropUnder ∷ rest)) (r ∷ (ws ++ (v ∷ st))) ns ys)) (taken (count args) ws (v ∷ st) e)
          ∙ calls_same (Whole v) m ws line _ _ n (λ r. drops_all n (count args) ws (i.DropUnder ∷ rest) r (v ∷ st) ns ys _ e (loses_same v _ _ n (h r ys))))))
          (values_run args n _ (x ∷ st) (as_items ∷ ns) [] us (count args) _ (omega arith) (λ ws ys e.
          ap (λ vs. asks_subject n as_items p m (count args) line (drops (count args) (i.DropUnder ∷ rest)) vs (ws ++ (x ∷ st)) ns ys) (dropped (count args) ws (x ∷ st) e)
          ∙ ap (λ vs. called_by as_items x p m vs line (λ r. go n (drops (count args) (i.DropUnder ∷ rest)) (r ∷ (ws ++ (x ∷ st))) ns ys)) (taken (count args) ws (x ∷ st) e)
          ∙ ap (λ (y : Checked ℕ). checked y line (λ number. calls (Collection number p) m ws line (λ r. go n (drops (count args) (i.DropUnder ∷ rest)) (r ∷ (ws ++ (x ∷ st))) ns ys))) en
          ∙ calls_same (Collection number p) m ws line _ _ n (λ r. drops_all n (count args) ws (i.DropUnder ∷ rest) r (x ∷ st) ns ys _ e (loses_same x _ _ n (h r ys))))))))
      value_runs (s.Signed sign e) n rest st ns vars k h =
          value_runs e n _ st ns vars _ (λ x us. checked_same (signs sign x) line _ _ n (λ r. loses_same x _ _ n (h (Data r) us)))
      value_runs (s.Binary op a b) n rest st ns vars k h =
          value_runs a n _ st ns vars _ (λ x us. value_runs b n _ (x ∷ st) ns us _ (λ y ys.
          checked_same (joins op x y) line _ _ n (λ r. loses_same y _ _ n (loses_same x _ _ n (h (Data r) ys)))))
      value_runs (s.AndThen a b) n rest st ns vars k h =
          value_runs a n _ st ns vars _ (λ x us. checked_same (truth x) line _ _ n (λ t. cond_same t _ _ _ _ n
          (value_runs b n _ (x ∷ st) ns us _ (λ y ys. checked_same (truth y) line _ _ n (λ u. loses_same y _ _ n (loses_same x _ _ n (h (bit u) ys)))))
          (jumps n (expr_size b + 3) _ (i.PushTruth false ∷ i.DropUnder ∷ rest) (x ∷ st) ns us (passes_two _ 3 _ _ _ (expr_passes line b _) (record { by = refl })) ∙ loses_same x _ _ n (h (bit false) us))))
      value_runs (s.OrElse a b) n rest st ns vars k h =
          value_runs a n _ st ns vars _ (λ x us. checked_same (truth x) line _ _ n (λ t. cond_same t _ _ _ _ n
          (jumps n (expr_size b + 3) _ (i.PushTruth true ∷ i.DropUnder ∷ rest) (x ∷ st) ns us (passes_two _ 3 _ _ _ (expr_passes line b _) (record { by = refl })) ∙ loses_same x _ _ n (h (bit true) us))
          (value_runs b n _ (x ∷ st) ns us _ (λ y ys. checked_same (truth y) line _ _ n (λ u. loses_same y _ _ n (loses_same x _ _ n (h (bit u) ys)))))))

      values_run : (es : Exprs) (n : ℕ) (rest : List Instruction) (st : List Val) (ns : List ℤ) (vs : List Val) (vars : Vars) (all : ℕ) (k : List Val → Rest) → count es + length vs ≡ all → ((ws : List Val) (vars : Vars) → length ws ≡ all → go n rest (ws ++ st) ns vars ≡ within (k ws vars) n) → go n (args_code line es rest) (vs ++ st) ns vars ≡ within (values this line es vs vars k) n
      values_run s.NoMore n rest st ns vs vars all k e h = h vs vars (omega arith)
      values_run (s.More x es) n rest st ns vs vars all k e h =
          value_runs x n _ (vs ++ st) ns vars _ (λ v us. values_run es n rest st ns (v ∷ vs) us all k (omega arith) h)

      subs_run : (es : Exprs) (n : ℕ) (rest : List Instruction) (st : List Val) (ns : List ℤ) (vs : List Val) (vars : Vars) (all : ℕ) (k : List Val → Rest) → count es + length vs ≡ all → ((ws : List Val) (vars : Vars) → length ws ≡ all → go n rest (ws ++ st) ns vars ≡ within (k ws vars) n) → go n (subs_code line (length vs) es rest) (vs ++ st) ns vars ≡ within (subscripts this line es vs vars k) n
      subs_run s.NoMore n rest st ns vs vars all k e h = h vs vars (omega arith)
      subs_run (s.More x es) n rest st ns vs vars all k e h =
          value_runs x n _ (vs ++ st) ns vars _ (λ v us. checked_same (subscript_of (length vs) v) line _ _ n (λ _. subs_run es n rest st ns (v ∷ vs) us all k (omega arith) h))

      steps_run : (es : Exprs) (n : ℕ) (rest : List Instruction) (st : List Val) (ns : List ℤ) (vs : List Val) (vars : Vars) (all : ℕ) (k : List Val → Rest) → count es + length vs ≡ all → ((ws : List Val) (vars : Vars) → length ws ≡ all → go n rest (ws ++ st) ns vars ≡ within (k ws vars) n) → go n (steps_code line (length vs) es rest) (vs ++ st) ns vars ≡ within (steps this line es vs vars k) n
      steps_run s.NoMore n rest st ns vs vars all k e h = h vs vars (omega arith)
      steps_run (s.More x es) n rest st ns vs vars all k e h =
          value_runs x n _ (vs ++ st) ns vars _ (λ v us. step_runs es (length vs) n _ v (vs ++ st) ns us _ (steps_run es n rest st ns (v ∷ vs) us all k (omega arith) h))

  -- from this place on the code does what follows, with any units up to a bound
  record Serves (n : ℕ) (rest : List Instruction) (st : List Val) (ns : List ℤ) (k : Rest) : Type 0 where
    by : (units : ℕ) → units ≤ n → (vars : Vars) → go units rest st ns vars ≡ within (k vars) units

  fewer : (m n : ℕ) (rest : List Instruction) (st : List Val) (ns : List ℤ) (k : Rest) → m ≤ n → Serves n rest st ns k → Serves m rest st ns k
  fewer m n rest st ns k le h = record { by = λ units lt vars. h.by units (omega arith) vars }

  unit_serves : (n : ℕ) (rest : List Instruction) (st : List Val) (ns : List ℤ) (k : Rest) → Serves n rest st ns k → Serves n (i.Unit ∷ rest) st ns (λ vars. Spends (k vars))
  unit_serves n rest st ns k h = record { by = at }
    where
      at : (units : ℕ) → units ≤ n → (vars : Vars) → go units (i.Unit ∷ rest) st ns vars ≡ within (Spends (k vars)) units
      at zero le vars = refl
      at (suc units) le vars = ap Spends (h.by units (omega arith) vars)

  point_serves : (n : ℕ) (rest : List Instruction) (st : List Val) (ns : List ℤ) (k : Rest) → Serves n rest st ns k → Serves n (i.Point ∷ rest) st ns (λ vars. Points (k vars))
  point_serves n rest st ns k h = record { by = λ units le vars. ap Points (h.by units le vars) }

  module _ (line : ℕ) where
    value_serves : (e : Expr) (n : ℕ) (rest : List Instruction) (st : List Val) (ns : List ℤ) (k : Use) → ((v : Val) → Serves n rest (v ∷ st) ns (k v)) → Serves n (expr_code line e rest) st ns (λ vars. value this line e vars k)
    value_serves e n rest st ns k h = record { by = λ units le vars. value_runs line e units rest st ns vars k (λ v vars. (h v).by units le vars) }

    subs_serve : (es : Exprs) (n : ℕ) (rest : List Instruction) (st : List Val) (ns : List ℤ) (k : List Val → Rest) → ((ws : List Val) → length ws ≡ count es → Serves n rest (ws ++ st) ns (k ws)) → Serves n (subs_code line 0 es rest) st ns (λ vars. subscripts this line es [] vars k)
    subs_serve es n rest st ns k h = record { by = λ units le vars. subs_run line es units rest st ns [] vars (count es) k (omega arith) (λ ws vars e. (h ws e).by units le vars) }

    -- conditions, where a jump leads to what follows a miss
    meets_serve : (cs : List Expr) (miss n : ℕ) (rest away : List Instruction) (st : List Val) (ns : List ℤ) (hit other : Rest) → Passes miss rest away → Serves n rest st ns hit → Serves n away st ns other → Serves n (meets_code line miss cs rest) st ns (λ vars. meets this line cs vars hit other)
    meets_serve [] miss n rest away st ns hit other p h g = record { by = h.by }
    meets_serve (c ∷ cs) miss n rest away st ns hit other p h g =
        let more = meets_serve cs miss n rest away st ns hit other p h g in
        value_serves c n _ st ns _ (λ v. record {
          by = λ units le vars.
              checked_same (truth v) line _ _ units (λ t. loses_same v _ _ units (cond_same t _ _ _ _ units
              (more.by units le vars)
              (jumps units (meets_size cs + miss) _ away st ns vars (passes_two _ miss _ rest away (meets_pass line miss cs rest) p) ∙ g.by units le vars)));
        })

    assigned_serves : (target : Target) (e : Expr) (n : ℕ) (rest : List Instruction) (st : List Val) (ns : List ℤ) (k : Rest) → Serves n rest st ns k → Serves n (assigned_code line target e rest) st ns (λ vars. Spends (assigns this line target e vars k))
    assigned_serves (s.OfPlace (s.Local x)) e n rest st ns k h =
        unit_serves n _ st ns _ (value_serves e n _ st ns _ (λ v. record {
          by = λ units le vars.
              loses_some_same (value_in x vars) _ _ units (ap Points (h.by units le (with_var x v vars)));
        }))
    assigned_serves (s.OfPlace (s.Global g subs)) e n rest st ns k h =
        unit_serves n _ st ns _ (subs_serve subs n _ st ns _ (λ ws len. value_serves e n _ (ws ++ st) ns _ (λ v. record {
          by = λ units le vars.
              ap (λ vs. sets g vs v line (go units (i.DropTop ∷ drops_top (count subs) (i.Point ∷ rest)) (v ∷ (ws ++ st)) ns vars)) (taken (count subs) ws st len)
              ∙ sets_same g ws v line _ _ units (loses_same v _ _ units (drops_top_all units (count subs) ws (i.Point ∷ rest) st ns vars _ len (ap Points (h.by units le vars))));
        })))
    assigned_serves (s.OfOwn p) e n rest st ns k h =
        unit_serves n _ st ns _ (record {
          by = λ units le vars. checked_with (object_here this) line _ _ units (λ o eo.
              value_runs line e units _ st ns vars _ (λ v us.
              ap (λ (x : Checked Val). checked x line (λ object. writes object p v line (go units (i.DropTop ∷ i.Point ∷ rest) (v ∷ st) ns us))) eo
              ∙ writes_same o p v line _ _ units (loses_same v _ _ units (ap Points (h.by units le us)))));
        })
    assigned_serves (s.OfProperty o p) e n rest st ns k h =
        unit_serves n _ st ns _ (value_serves o n _ st ns _ (λ x. value_serves e n _ (x ∷ st) ns _ (λ v. record {
          by = λ units le vars. writes_same x p v line _ _ units (loses_same v _ _ units (loses_same x _ _ units (ap Points (h.by units le vars))));
        })))

    assigns_serve : (list : List Assignment) (n : ℕ) (rest : List Instruction) (st : List Val) (ns : List ℤ) (k : Rest) → Serves n rest st ns k → Serves n (assigns_code line list rest) st ns (λ vars. assigns_all this line list vars k)
    assigns_serve [] n rest st ns k h = record { by = h.by }
    assigns_serve (a ∷ list) n rest st ns k h = assigned_serves a.target a.value n _ st ns _ (assigns_serve list n rest st ns k h)

    writes_serve : (list : List (Option Expr)) (n : ℕ) (rest : List Instruction) (st : List Val) (ns : List ℤ) (k : Rest) → Serves n rest st ns k → Serves n (writes_code line list rest) st ns (λ vars. writes_all this line list vars k)
    writes_serve [] n rest st ns k h = record { by = h.by }
    writes_serve (None ∷ list) n rest st ns k h =
        let more = point_serves n _ st ns _ (writes_serve list n rest st ns k h) in
        unit_serves n _ st ns _ (record { by = λ units le vars. ap (Prints (10 ∷ [])) (more.by units le vars) })
    writes_serve (Some e ∷ list) n rest st ns k h =
        let more = point_serves n _ st ns _ (writes_serve list n rest st ns k h) in
        unit_serves n _ st ns _ (value_serves e n _ st ns _ (λ v. record {
          by = λ units le vars.
              checked_same (text_of v) line _ _ units (λ t. prints_same t _ _ units (loses_same v _ _ units (more.by units le vars)));
        }))

    calls_serve : (list : List Expr) (n : ℕ) (rest : List Instruction) (st : List Val) (ns : List ℤ) (k : Rest) → Serves n rest st ns k → Serves n (calls_code line list rest) st ns (λ vars. calls_all this line list vars k)
    calls_serve [] n rest st ns k h = record { by = h.by }
    calls_serve (e ∷ list) n rest st ns k h =
        let more = point_serves n _ st ns _ (calls_serve list n rest st ns k h) in
        unit_serves n _ st ns _ (value_serves e n _ st ns _ (λ v. record { by = λ units le vars. loses_same v _ _ units (more.by units le vars) }))

    kills_serve : (list : List Place) (n : ℕ) (rest : List Instruction) (st : List Val) (ns : List ℤ) (k : Rest) → Serves n rest st ns k → Serves n (kills_code line list rest) st ns (λ vars. kills_all this line list vars k)
    kills_serve [] n rest st ns k h = record { by = h.by }
    kills_serve (s.Local x ∷ list) n rest st ns k h =
        let more = point_serves n _ st ns _ (kills_serve list n rest st ns k h) in
        unit_serves n _ st ns _ (record { by = λ units le vars. loses_some_same (value_in x vars) _ _ units (more.by units le (without_var x vars)) })
    kills_serve (s.Global g subs ∷ list) n rest st ns k h =
        let more = point_serves n _ st ns _ (kills_serve list n rest st ns k h) in
        unit_serves n _ st ns _ (subs_serve subs n _ st ns _ (λ ws len. record {
          by = λ units le vars.
              ap (λ vs. kills g vs line (go units (drops_top (count subs) (i.Point ∷ kills_code line list rest)) (ws ++ st) ns vars)) (taken (count subs) ws st len)
              ∙ kills_same g ws line _ _ units (drops_top_all units (count subs) ws (i.Point ∷ kills_code line list rest) st ns vars _ len (more.by units le vars));
        }))

    -- ---- locks: the instructions on one, without a timeout and with one

    lock_runs : (g : Name) (j : ℕ) (mode : Mode) (action : LockAction) (renewed : Bool) (stack ws : List Val) → take j stack ≡ ws
        → (n : ℕ) (rest : List Instruction) (ns : List ℤ) (vars : Vars) (f : Frame) → go n rest stack ns vars ≡ within f n
        → go n (lock_code line g j mode false action renewed rest) stack ns vars ≡ within (at_node g ws line (λ x. locks action renewed x mode None f)) n
    lock_runs g j mode Renew false stack ws same n rest ns vars f h =
        ap (λ vs. at_node g vs line (λ x. go n (i.UnlockAll ∷ i.TryLock g j mode false line ∷ rest) stack ns vars)) same
        ∙ at_node_with g ws line _ _ n (λ x at. asks_done_same (ops.UnlockAll Script) _ _ n
        (ap (λ vs. at_node g vs line (λ y. tries y mode None (go n rest stack ns vars))) same
        ∙ at (λ y. tries y mode None (go n rest stack ns vars)) ∙ tries_same x mode None _ _ n h))
    lock_runs g j mode Renew true stack ws same n rest ns vars f h =
        ap (λ vs. at_node g vs line (λ y. tries y mode None (go n rest stack ns vars))) same ∙ at_node_same g ws line _ _ n (λ x. tries_same x mode None _ _ n h)
    lock_runs g j mode Add renewed stack ws same n rest ns vars f h =
        ap (λ vs. at_node g vs line (λ y. tries y mode None (go n rest stack ns vars))) same ∙ at_node_same g ws line _ _ n (λ x. tries_same x mode None _ _ n h)
    lock_runs g j mode Remove renewed stack ws same n rest ns vars f h =
        ap (λ vs. at_node g vs line (λ y. gives_back y mode (go n rest stack ns vars))) same ∙ at_node_same g ws line _ _ n (λ x. gives_back_same (ops.Unlock x mode Script) _ _ n h)

    timed_lock_runs : (g : Name) (j : ℕ) (mode : Mode) (action : LockAction) (renewed : Bool) (v : Val) (below ws : List Val) → take j below ≡ ws
        → (n : ℕ) (rest : List Instruction) (ns : List ℤ) (vars : Vars) (f : Frame) → go n rest (v ∷ below) ns vars ≡ within f n
        → go n (lock_code line g j mode true action renewed rest) (v ∷ below) ns vars ≡ within (checked (number_of v) line (λ z. at_node g ws line (λ x. locks action renewed x mode (Some (tries_of z)) f))) n
    timed_lock_runs g j mode Renew false v below ws same n rest ns vars f h =
        checked_with (number_of v) line _ _ n (λ z e.
        ap (λ vs. at_node g vs line (λ x. go n (i.UnlockAll ∷ i.TryLock g j mode true line ∷ rest) (v ∷ below) ns vars)) same
        ∙ at_node_with g ws line _ _ n (λ x at. asks_done_same (ops.UnlockAll Script) _ _ n
        (ap (λ (r : Checked ℤ). checked r line (λ z. at_node g (take j below) line (λ y. tries y mode (Some (tries_of z)) (go n rest (v ∷ below) ns vars)))) e
        ∙ ap (λ vs. at_node g vs line (λ y. tries y mode (Some (tries_of z)) (go n rest (v ∷ below) ns vars))) same
        ∙ at (λ y. tries y mode (Some (tries_of z)) (go n rest (v ∷ below) ns vars)) ∙ tries_same x mode (Some (tries_of z)) _ _ n h)))
    timed_lock_runs g j mode Renew true v below ws same n rest ns vars f h =
        checked_same (number_of v) line _ _ n (λ z.
        ap (λ vs. at_node g vs line (λ y. tries y mode (Some (tries_of z)) (go n rest (v ∷ below) ns vars))) same ∙ at_node_same g ws line _ _ n (λ x. tries_same x mode (Some (tries_of z)) _ _ n h))
    timed_lock_runs g j mode Add renewed v below ws same n rest ns vars f h =
        checked_same (number_of v) line _ _ n (λ z.
        ap (λ vs. at_node g vs line (λ y. tries y mode (Some (tries_of z)) (go n rest (v ∷ below) ns vars))) same ∙ at_node_same g ws line _ _ n (λ x. tries_same x mode (Some (tries_of z)) _ _ n h))
    timed_lock_runs g j mode Remove renewed v below ws same n rest ns vars f h =
        checked_same (number_of v) line _ _ n (λ z.
        ap (λ vs. at_node g vs line (λ y. gives_back y mode (go n rest (v ∷ below) ns vars))) same ∙ at_node_same g ws line _ _ n (λ x. gives_back_same (ops.Unlock x mode Script) _ _ n h))

    -- a lock with its timeout, and what takes its values away
    claimed_runs : (g : Name) (j : ℕ) (mode : Mode) (action : LockAction) (renewed : Bool) (e : Option Expr) (n : ℕ) (rest : List Instruction) (st : List Val) (ns : List ℤ) (vars : Vars) (ws : List Val) (k : Rest) → length ws ≡ j → ((us : Vars) → go n rest st ns us ≡ within (k us) n)
        → go n (timeout_code line e (lock_code line g j mode (is_timed line e) action renewed (untimed line e (drops_top j rest)))) (ws ++ st) ns vars
        ≡ within (timed this line e vars (λ times held us. at_node g ws line (λ x. locks action renewed x mode times (loses_some held (loses_each ws (k us)))))) n
    claimed_runs g j mode action renewed None n rest st ns vars ws k len h =
        lock_runs g j mode action renewed (ws ++ st) ws (taken j ws st len) n _ ns vars _ (drops_top_all n j ws rest st ns vars _ len (h vars))
    claimed_runs g j mode action renewed (Some e) n rest st ns vars ws k len h =
        value_runs line e n _ (ws ++ st) ns vars _ (λ v us.
        timed_lock_runs g j mode action renewed v (ws ++ st) ws (taken j ws st len) n _ ns us _ (loses_same v _ _ n (drops_top_all n j ws rest st ns us _ len (h us))))

    locks_serve : (renewed : Bool) (list : List Claim) (n : ℕ) (rest : List Instruction) (st : List Val) (ns : List ℤ) (k : Rest) → Serves n rest st ns k → Serves n (locks_code line renewed list rest) st ns (λ vars. locks_all this line renewed list vars k)
    locks_serve renewed [] n rest st ns k h = record { by = h.by }
    locks_serve renewed (c ∷ list) n rest st ns k h =
        let more = point_serves n _ st ns _ (locks_serve (renewed || renews c.action) list n rest st ns k h) in
        unit_serves n _ st ns _ (subs_serve c.subs n _ st ns _ (λ ws len. record {
          by = λ units le vars. claimed_runs c.global (count c.subs) c.mode c.action renewed c.timeout units (i.Point ∷ locks_code line (renewed || renews c.action) list rest) st ns vars ws _ len (λ us. more.by units le us);
        }))

    -- a frame ends
    returned : (v : Val) (vars : Vars) (units : ℕ) → leaves this 0 v vars ≡ within (leaves this line v vars) units
    returned v vars units = loses_vars_same vars _ _ units (loses_some_same this _ _ units refl)

    action_serves : (action : Action) (out n : ℕ) (rest away : List Instruction) (st : List Val) (ns : List ℤ) (k quit : Rest) → Passes out rest away → Serves n rest st ns k → Serves n away st ns quit → Serves n (action_code line out action rest) st ns (λ vars. acts this line action vars k quit)
    action_serves (s.Set list) out n rest away st ns k quit p h g = assigns_serve list n rest st ns k h
    action_serves (s.Write list) out n rest away st ns k quit p h g = writes_serve list n rest st ns k h
    action_serves (s.Do list) out n rest away st ns k quit p h g = calls_serve list n rest st ns k h
    action_serves (s.Kill list) out n rest away st ns k quit p h g = kills_serve list n rest st ns k h
    action_serves s.KillAll out n rest away st ns k quit p h g =
        unit_serves n _ st ns _ (record { by = λ units le vars. loses_vars_same vars _ _ units (ap Points (h.by units le [])) })
    action_serves (s.Lock list) out n rest away st ns k quit p h g = locks_serve false list n rest st ns k h
    action_serves s.UnlockAll out n rest away st ns k quit p h g =
        unit_serves n _ st ns _ (record { by = λ units le vars. asks_done_same (ops.UnlockAll Script) _ _ units (ap Points (h.by units le vars)) })
    action_serves s.TStart out n rest away st ns k quit p h g =
        unit_serves n _ st ns _ (record { by = λ units le vars. asks_op_same ops.Begin _ _ units (λ r. begun_same line r _ _ units (ap Points (h.by units le vars))) })
    action_serves s.TCommit out n rest away st ns k quit p h g =
        unit_serves n _ st ns _ (record { by = λ units le vars. asks_op_same ops.Commit _ _ units (λ r. committed_same line r _ _ units (ap Points (h.by units le vars))) })
    action_serves s.TRollback out n rest away st ns k quit p h g =
        unit_serves n _ st ns _ (record { by = λ units le vars. asks_done_same ops.RollbackAll _ _ units (ap Points (h.by units le vars)) })
    action_serves s.TRollbackOne out n rest away st ns k quit p h g =
        unit_serves n _ st ns _ (record { by = λ units le vars. asks_op_same ops.RollbackOne _ _ units (λ r. undone_same r _ _ units (ap Points (h.by units le vars))) })
    action_serves s.Quit out n rest away st ns k quit p h g =
        unit_serves n _ st ns _ (point_serves n _ st ns _ (record { by = λ units le vars. jumps units out rest away st ns vars p ∙ g.by units le vars }))
    action_serves (s.QuitWith e) out n rest away st ns k quit p h g =
        unit_serves n _ st ns _ (value_serves e n _ st ns _ (λ v. record { by = λ units le vars. ap Points (returned v vars units) }))
    action_serves s.Halt out n rest away st ns k quit p h g =
        unit_serves n _ st ns _ (record { by = λ units le vars. refl })

    plain_serves : (post : Option Expr) (action : Action) (out n : ℕ) (rest away : List Instruction) (st : List Val) (ns : List ℤ) (k quit : Rest) → Passes out rest away → Serves n rest st ns k → Serves n away st ns quit → Serves n (plain_code line out post action rest) st ns (λ vars. acts_where this line post action vars k quit)
    plain_serves None action out n rest away st ns k quit p h g = action_serves action out n rest away st ns k quit p h g
    plain_serves (Some c) action out n rest away st ns k quit p h g =
        let behind : List Instruction = i.Go 1 ∷ i.Point ∷ rest in
        meets_serve (c ∷ []) (1 + (action_size action + 1)) n _ (i.Point ∷ rest) st ns _ _
        (passes_one _ _ _ _ (passes_two _ 1 _ behind (i.Point ∷ rest) (action_passes line (2 + out) action behind) (record { by = refl })))
        (point_serves n _ st ns _ (action_serves action (2 + out) n behind away st ns k quit (passes_two 2 out behind rest away (record { by = refl }) p) (record { by = h.by }) g))
        (point_serves n rest st ns k h)

    chooses_serve : (cs : List Expr) (miss n : ℕ) (rest away : List Instruction) (st : List Val) (ns : List ℤ) (hit other : Rest) → Passes miss rest (i.Point ∷ away) → Serves n rest st ns hit → Serves n away st ns other → Serves n (chooses_code line miss cs rest) st ns (λ vars. chooses this line cs vars hit other)
    chooses_serve [] miss n rest away st ns hit other p h g = record { by = h.by }
    chooses_serve (c ∷ cs) miss n rest away st ns hit other p h g =
        unit_serves n _ st ns _ (meets_serve (c ∷ []) (1 + (chooses_size cs + miss)) n _ (i.Point ∷ away) st ns _ _
        (passes_one _ _ _ _ (passes_two _ miss _ rest (i.Point ∷ away) (chooses_pass line miss cs rest) p))
        (point_serves n _ st ns _ (chooses_serve cs miss n rest away st ns hit other p h g))
        (point_serves n away st ns other g))

    number_serves : (e : Expr) (n : ℕ) (rest : List Instruction) (st : List Val) (ns : List ℤ) (k : ℤ → Rest) → ((z : ℤ) → Serves n rest st (z ∷ ns) (k z)) → Serves n (number_code line e rest) st ns (λ vars. number this line e vars k)
    number_serves e n rest st ns k h =
        value_serves e n _ st ns _ (λ v. record { by = λ units le vars. checked_same (number_of v) line _ _ units (λ z. loses_same v _ _ units ((h z).by units le vars)) })

    last_serves : (e : Option Expr) (n : ℕ) (rest : List Instruction) (st : List Val) (ns : List ℤ) (k : Option ℤ → Rest) → ((z : ℤ) → Serves n rest st (z ∷ ns) (k (last_of (is_bounded line e) z))) → Serves n (last_code line e rest) st ns (λ vars. last_number this line e vars k)
    last_serves None n rest st ns k h = record { by = λ units le vars. (h (pos 0)).by units le vars }
    last_serves (Some e) n rest st ns k h = number_serves e n rest st ns (λ z. k (Some z)) h

  -- ---- loops

  -- the rest of the code at some place
  record IsRest (rest : List Instruction) : Type 0 where
    before : List Instruction
    is : before ++ rest ≡ code

  later : (k : ℕ) (xs ys : List Instruction) → Passes k xs ys → IsRest xs → IsRest ys
  later k xs ys p r =
      record {
        before = r.before ++ take k xs;
        is = ap (λ l. (r.before ++ take k xs) ++ l) (sym p.by) ∙ append_assoc r.before (take k xs) (drop k xs) ∙ ap (λ l. r.before ++ l) (take-append-drop k xs) ∙ r.is;
      }

  drop_before : (xs ys : List Instruction) → drop (length xs) (xs ++ ys) ≡ ys
  drop_before [] ys = refl
  drop_before (x ∷ xs) ys = drop_before xs ys

  -- back to the rest that has b instructions more
  leads_back : (b : ℕ) (head : List Instruction) (x : Instruction) (rest : List Instruction) → Passes b head (x ∷ rest) → IsRest head → back this code b (x ∷ rest) ≡ head
  leads_back b head x rest p r =
      let long : length head - b ≡ length (x ∷ rest) = sym (length-drop b head) ∙ ap length p.by in
      let all : length r.before + length head ≡ length code = sym (length-append r.before head) ∙ ap length r.is in
      let e : length code - (length (x ∷ rest) + b) ≡ length r.before = omega arith in
      ap (λ j. drop j code) e ∙ ap (drop (length r.before)) (sym r.is) ∙ drop_before r.before head

  module _ (test : Test) (body : Body) (n b : ℕ) (head block tail : List Instruction) (st : List Val) (ns : List ℤ) (k : Rest)
      (back_is : back this code b (i.Point ∷ tail) ≡ head)
      (ends : Serves n tail st ns k)
      (tests : (u : ℕ) (hit miss : Rest) → Serves u (i.Point ∷ block) st ns hit → Serves u (i.Point ∷ tail) st ns miss → Serves u head st ns (λ vars. test vars hit miss))
      (makes : (u : ℕ) (next : Rest) → u ≤ n → Serves u (i.Again b ∷ i.Point ∷ tail) st ns next → Serves u block st ns (λ vars. body vars next k)) where
    no_turn : (u : ℕ) → u ≤ 0 → Serves u (i.Again b ∷ i.Point ∷ tail) st ns (turns zero test body k)
    no_turn u small = record { by = at }
      where
        at : (units : ℕ) → units ≤ u → (vars : Vars) → go units (i.Again b ∷ i.Point ∷ tail) st ns vars ≡ within (turns zero test body k vars) units
        at zero lt vars = refl
        at (suc units) lt vars = absurd (omega arith)

    one_turn : (most u : ℕ) → u ≤ suc most → u ≤ n → ((v : ℕ) → v ≤ most → v ≤ n → Serves v (i.Again b ∷ i.Point ∷ tail) st ns (turns most test body k)) → Serves u (i.Again b ∷ i.Point ∷ tail) st ns (turns (suc most) test body k)
    one_turn most u small le next = record { by = at }
      where
        at : (units : ℕ) → units ≤ u → (vars : Vars) → go units (i.Again b ∷ i.Point ∷ tail) st ns vars ≡ within (turns (suc most) test body k vars) units
        at zero lt vars = refl
        at (suc units) lt vars =
            let made = makes units (turns most test body k) (omega arith) (next units (omega arith) (omega arith)) in
            let turned = tests units (λ vars. Points (body vars (turns most test body k) k)) (λ vars. Points (k vars)) (point_serves units block st ns _ made) (point_serves units tail st ns _ (fewer units n tail st ns k (omega arith) ends)) in
            ap Spends (ap (λ c. go units c st ns vars) back_is ∙ turned.by units (omega arith) vars)

    turns_serve : (most u : ℕ) → u ≤ most → u ≤ n → Serves u (i.Again b ∷ i.Point ∷ tail) st ns (turns most test body k)
    turns_serve zero u small le = no_turn u small
    turns_serve (suc most) u small le = one_turn most u small le (λ v lt lv. turns_serve most v lt lv)

    -- a first turn, with a test of its own
    first_serves : (first : Test) (start : List Instruction) (begun : List ℤ) (most : ℕ) → n ≤ most → ((hit miss : Rest) → Serves n (i.Point ∷ block) st ns hit → Serves n (i.Point ∷ tail) st ns miss → Serves n start st begun (λ vars. first vars hit miss)) → Serves n start st begun (λ vars. first vars (λ vars. Points (body vars (turns most test body k) k)) (λ vars. Points (k vars)))
    first_serves first start begun most le begins =
        let made = makes n (turns most test body k) (omega arith) (turns_serve most n le (omega arith)) in
        begins (λ vars. Points (body vars (turns most test body k) k)) (λ vars. Points (k vars)) (point_serves n block st ns _ made) (point_serves n tail st ns k ends)

  -- the tests of a FOR
  first_test : (a step last : ℤ) (is : Bool) (b n : ℕ) (x : Instruction) (inner away : List Instruction) (st : List Val) (ns : List ℤ) (hit miss : Rest) → Passes b (x ∷ inner) away → Serves n inner st (last ∷ step ∷ ns) hit → Serves n away st (last ∷ step ∷ ns) miss → Serves n (i.FirstTest is b ∷ x ∷ inner) st (last ∷ step ∷ a ∷ ns) (λ vars. cond (is_within (last_of is last) step a) (hit vars) (miss vars))
  first_test a step last is b n x inner away st ns hit miss p f g = record {
    by = λ units le vars.
        cond_same (is_within (last_of is last) step a) _ _ _ _ units (f.by units le vars) (jumps units b (x ∷ inner) away st (last ∷ step ∷ ns) vars p ∙ g.by units le vars);
  }

  advance_serves : (line : ℕ) (x : Name) (last step : ℤ) (is : Bool) (b n : ℕ) (inner away : List Instruction) (st : List Val) (ns : List ℤ) (hit miss : Rest) → Passes b inner away → Serves n inner st (last ∷ step ∷ ns) hit → Serves n away st (last ∷ step ∷ ns) miss → Serves n (i.Advance x is b line ∷ inner) st (last ∷ step ∷ ns) (λ vars. advances line x (last_of is last) step vars hit miss)
  advance_serves line x last step is b n inner away st ns hit miss p f g = record {
    by = λ units le vars.
        checked_same (read (value_in x vars)) line _ _ units (λ v. checked_same (number_of v) line _ _ units (λ a. checked_same (whole (a +ℤ step)) line _ _ units (λ c. cond_same (is_within (last_of is last) step c) _ _ _ _ units
        (loses_some_same (value_in x vars) _ _ units (f.by units le (with_var x (number_value c) vars)))
        (jumps units b inner away st (last ∷ step ∷ ns) vars p ∙ g.by units le vars))));
  }

  module _ (most : ℕ) where
    -- what a block's code does, wherever it stands
    abbrev Makes : Block → Type 0
    Makes block = (out n : ℕ) (rest away : List Instruction) (st : List Val) (ns : List ℤ) (k quit : Rest) → n ≤ most → Passes out rest away → IsRest (block_code out block rest) → Serves n rest st ns k → Serves n away st ns quit → Serves n (block_code out block rest) st ns (λ vars. runs this most block vars k quit)

    while_serves : (line : ℕ) (cs : List Expr) (block : Block) (made : Makes block) (n : ℕ) (rest : List Instruction) (st : List Val) (ns : List ℤ) (k : Rest) → n ≤ most → IsRest (while_code line cs (block_code 2 block) (block_size block) rest) → Serves n rest st ns k → Serves n (i.Unit ∷ while_code line cs (block_code 2 block) (block_size block) rest) st ns (turn (meets this line cs) (runs this most block) (turns most (meets this line cs) (runs this most block) k) k)
    while_serves line cs block made n rest st ns k le r h =
        let size = block_size block in
        let b = meets_size cs + (1 + (size + 1)) in
        let again : List Instruction = i.Again b ∷ i.Point ∷ rest in
        let inner = block_code 2 block again in
        let head = meets_code line (1 + (size + 1)) cs (i.Point ∷ inner) in
        let away : Passes (1 + (size + 1)) (i.Point ∷ inner) (i.Point ∷ rest) = passes_one _ _ _ _ (passes_two _ 1 _ again (i.Point ∷ rest) (block_passes block 2 again) (record { by = refl })) in
        let tests = λ (u : ℕ) (hit miss : Rest) (f : Serves u (i.Point ∷ inner) st ns hit) (g : Serves u (i.Point ∷ rest) st ns miss). meets_serve line cs (1 + (size + 1)) u (i.Point ∷ inner) (i.Point ∷ rest) st ns hit miss away f g in
        let makes = λ (u : ℕ) (next : Rest) (lt : u ≤ n) (f : Serves u again st ns next). made 2 u again rest st ns next k (omega arith) (record { by = refl }) (later _ head inner (passes_two _ 1 head (i.Point ∷ inner) inner (meets_pass line _ cs _) (record { by = refl })) r) f (fewer u n rest st ns k lt h) in
        let back_is = leads_back b head i.Point rest (passes_two _ _ head (i.Point ∷ inner) (i.Point ∷ rest) (meets_pass line _ cs _) away) r in
        unit_serves n head st ns _ (first_serves (meets this line cs) (runs this most block) n b head inner rest st ns k back_is h tests makes (meets this line cs) head ns most le (tests n))

    for_serves : (line : ℕ) (x : Name) (a step last : ℤ) (is : Bool) (block : Block) (made : Makes block) (n : ℕ) (rest : List Instruction) (st : List Val) (ns : List ℤ) (k : Rest) → n ≤ most → IsRest (for_code line x is (block_code 2 block) (block_size block) rest) → Serves n rest st ns k → Serves n (i.Unit ∷ i.FirstTest is (2 + (block_size block + 1)) ∷ for_code line x is (block_code 2 block) (block_size block) rest) st (last ∷ step ∷ a ∷ ns) (turn (λ vars hit miss. cond (is_within (last_of is last) step a) (hit vars) (miss vars)) (runs this most block) (turns most (advances line x (last_of is last) step) (runs this most block) k) k)
    for_serves line x a step last is block made n rest st ns k le r h =
        let size = block_size block in
        let b = 2 + (size + 1) in
        let tail : List Instruction = i.EndFor ∷ rest in
        let again : List Instruction = i.Again b ∷ i.Point ∷ tail in
        let inner = block_code 2 block again in
        let head : List Instruction = i.Advance x is (1 + (size + 1)) line ∷ i.Point ∷ inner in
        let numbers = last ∷ step ∷ ns in
        let first : Test = λ vars hit miss. cond (is_within (last_of is last) step a) (hit vars) (miss vars) in
        let ends : Serves n tail st numbers k = record { by = h.by } in
        let away : Passes (1 + (size + 1)) (i.Point ∷ inner) (i.Point ∷ tail) = passes_one _ _ _ _ (passes_two _ 1 _ again (i.Point ∷ tail) (block_passes block 2 again) (record { by = refl })) in
        let away_too : Passes b head (i.Point ∷ tail) = passes_two 2 (size + 1) head inner (i.Point ∷ tail) (record { by = refl }) (passes_two _ 1 inner again (i.Point ∷ tail) (block_passes block 2 again) (record { by = refl })) in
        let tests = λ (u : ℕ) (hit miss : Rest) (f : Serves u (i.Point ∷ inner) st numbers hit) (g : Serves u (i.Point ∷ tail) st numbers miss). advance_serves line x last step is (1 + (size + 1)) u (i.Point ∷ inner) (i.Point ∷ tail) st ns hit miss away f g in
        let makes = λ (u : ℕ) (next : Rest) (lt : u ≤ n) (f : Serves u again st numbers next). made 2 u again tail st numbers next k (omega arith) (record { by = refl }) (later 2 head inner (record { by = refl }) r) f (fewer u n tail st numbers k lt ends) in
        let back_is = leads_back b head i.Point tail away_too r in
        unit_serves n _ st (last ∷ step ∷ a ∷ ns) _ (first_serves (advances line x (last_of is last) step) (runs this most block) n b head inner tail st numbers k back_is ends tests makes first (i.FirstTest is b ∷ head) (last ∷ step ∷ a ∷ ns) most le (λ hit miss f g. first_test a step last is b n (i.Advance x is (1 + (size + 1)) line) (i.Point ∷ inner) (i.Point ∷ tail) st ns hit miss away_too f g))

    mutual
      does_serve : (c : Command) (out n : ℕ) (rest away : List Instruction) (st : List Val) (ns : List ℤ) (k quit : Rest) → n ≤ most → Passes out rest away → IsRest (command_code out c rest) → Serves n rest st ns k → Serves n away st ns quit → Serves n (command_code out c rest) st ns (λ vars. does this most c vars k quit)
      does_serve (s.Plain line post action) out n rest away st ns k quit le p r h g = plain_serves line post action out n rest away st ns k quit p h g
      does_serve (s.If branches) out n rest away st ns k quit le p r h g = takes_serve branches out n rest away st ns k quit le p r h g
      does_serve (s.While line cs block) out n rest away st ns k quit le p r h g =
          while_serves line cs block (runs_serve block) n rest st ns k le (later 1 _ _ (record { by = refl }) r) h
      does_serve (s.Loop line block) out n rest away st ns k quit le p r h g =
          unit_serves n _ st ns _ (point_serves n _ st ns _ (while_serves line [] block (runs_serve block) n rest st ns k le (later 3 _ _ (record { by = refl }) r) h))
      does_serve (s.For line x first step last block) out n rest away st ns k quit le p r h g =
          let is = is_bounded line last in
          let behind = for_code line x is (block_code 2 block) (block_size block) rest in
          let at : List Instruction = i.BeginFor x ∷ i.Point ∷ i.Unit ∷ i.FirstTest is (2 + (block_size block + 1)) ∷ behind in
          let header = number_code line first (number_code line step (last_code line last at)) in
          let there = passes_two _ _ header _ behind (expr_passes line first _) (passes_one _ _ _ _ (passes_two _ _ _ _ behind (expr_passes line step _) (passes_one _ _ _ _ (passes_two _ 4 _ at behind (last_passes line last at) (record { by = refl }))))) in
          let behind_is = later _ header behind there (later 1 _ header (record { by = refl }) r) in
          unit_serves n _ st ns _ (number_serves line first n _ st ns _ (λ a. number_serves line step n _ st (a ∷ ns) _ (λ d. last_serves line last n at st (d ∷ a ∷ ns) _ (λ b. record {
            by = λ units lt vars.
                let looped = for_serves line x a d b is block (runs_serve block) n rest st ns k le behind_is h in
                loses_some_same (value_in x vars) _ _ units (ap Points (looped.by units lt (with_var x (number_value a) vars)));
          }))))

      runs_serve : (block : Block) (out n : ℕ) (rest away : List Instruction) (st : List Val) (ns : List ℤ) (k quit : Rest) → n ≤ most → Passes out rest away → IsRest (block_code out block rest) → Serves n rest st ns k → Serves n away st ns quit → Serves n (block_code out block rest) st ns (λ vars. runs this most block vars k quit)
      runs_serve s.Empty out n rest away st ns k quit le p r h g = record { by = h.by }
      runs_serve (s.Then c block) out n rest away st ns k quit le p r h g =
          let more = block_code out block rest in
          does_serve c (block_size block + out) n more away st ns _ quit le (passes_two _ out more rest away (block_passes block out rest) p) r
          (runs_serve block out n rest away st ns k quit le p (later _ _ more (command_passes c (block_size block + out) more) r) h g) g

      takes_serve : (branches : Branches) (out n : ℕ) (rest away : List Instruction) (st : List Val) (ns : List ℤ) (k quit : Rest) → n ≤ most → Passes out rest away → IsRest (branches_code out branches rest) → Serves n rest st ns k → Serves n away st ns quit → Serves n (branches_code out branches rest) st ns (λ vars. takes this most branches vars k quit)
      takes_serve (s.Else block) out n rest away st ns k quit le p r h g = runs_serve block out n rest away st ns k quit le p r h g
      takes_serve (s.Branch line cs block more) out n rest away st ns k quit le p r h g =
          let others = branches_code out more rest in
          let after : List Instruction = i.Go (1 + branches_size more) ∷ i.Point ∷ others in
          let over : Passes (branches_size more) others rest = branches_pass more out rest in
          let inner = block_code (2 + (branches_size more + out)) block after in
          let inner_is = later _ _ inner (chooses_pass line (block_size block + 1) cs inner) r in
          let others_is = later 2 after others (record { by = refl }) (later _ inner after (block_passes block _ after) inner_is) in
          let gone : Serves n after st ns k = record { by = λ units lt vars. jumps units (1 + branches_size more) (i.Point ∷ others) rest st ns vars (passes_one _ _ others rest over) ∙ h.by units lt vars } in
          chooses_serve line cs (block_size block + 1) n inner others st ns _ _
          (passes_two _ 1 inner after (i.Point ∷ others) (block_passes block _ after) (record { by = refl }))
          (runs_serve block (2 + (branches_size more + out)) n after away st ns k quit le (passes_two 2 _ after others away (record { by = refl }) (passes_two _ out others rest away over p)) inner_is gone g)
          (takes_serve more out n rest away st ns k quit le p others_is h g)

-- ---- the whole code

pub agrees : Agrees
unfolding script_code frame
agrees script this vars units most le =
    let end : List Instruction = i.Push [] ∷ i.Return ∷ [] in
    let code = block_code 0 script end in
    let last : Serves this code units end [] [] (leaves this 0 (text_value [])) = record { by = λ u lt vars. returned this code 0 (text_value []) vars u } in
    let whole : IsRest this code code = record { before = []; is = refl } in
    (runs_serve this code most script 0 units end end [] [] (leaves this 0 (text_value [])) (leaves this 0 (text_value [])) le (record { by = refl }) whole last last).by units (omega arith) vars

pub bounds_agree : BoundsAgree
bounds_agree script this vars units most more le lt = sym (agrees script this vars units most le) ∙ agrees script this vars units more lt
