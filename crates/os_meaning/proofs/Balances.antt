-- Each step keeps the account of the places of an object, and takes no unit but that of an argument, a condition or a turn.
use Rattle.std.proofs.Common.{◌≡◌, ℕ, zero, suc, ◌+◌, Bool, true, false, cond, List, [], ◌∷◌, Option, Some, None, Ok, Err, refl, subst, arith, ℤ}
use Rattle.std.specs.Str.{bytes_eq}
use Rattle.obj_kinds.specs.declared.value.Value.{Value}
use Rattle.obj_kinds.specs.declared.node.Node.{Node}
use Rattle.obj_kinds.specs.declared.sub.Sub.{Sub}
use Rattle.obj_kinds.specs.declared.op.Reply.{Reply}
use Rattle.obj_kinds.specs.declared.op.Reply.TheVariants as reply
use Rattle.os_kinds.specs.declared.val.Val.{Val}
use Rattle.os_kinds.specs.declared.val.Val.TheVariants.{Data, Ref}
use Rattle.os_kinds.specs.declared.call.Call.{Call}
use Rattle.os_kinds.specs.declared.call.Answer.{Answer}
use Rattle.os_kinds.specs.declared.call.ScriptEnd.{ScriptEnd}
use Rattle.os_kinds.specs.declared.call.Answer.TheVariants as answer
use Rattle.os_meaning.specs.Syntax.{Name}
use Rattle.os_meaning.specs.Values.{Checked}
use Rattle.os_meaning.specs.Frames.{Frame, Ends, Prints, Holds, Loses, Points, Spends, Asks, Vars, Subject, Whole, Collection, within, checked, holds, loses, loses_each, loses_some, loses_vars, prints, value_in, with_var, without_var, on_got, on_read, on_written, on_tried, on_reply, found, done, given_back, state, next, counted, begun, committed, undone, at_node, gets, defines, sets, kills, increments, orders, calls, calls_own, writes}
use Rattle.os_meaning.specs.Units.{IsMetered}
use Rattle.os_meaning.specs.Accounts.{one_of, count, count_some, count_each, count_vars, given, IsLeft, Balances}

-- the account as a record, so that a lemma's frame is found
pub record Keeps (o : ℕ) (taken : Bool) (f : Frame) (k : ℕ) : Type 0 where
  pub it : Balances o f k
  pub meter : IsMetered taken f

-- ---- units and points

pub cut : (o : ℕ) (f : Frame) (units k : ℕ) → Balances o f k → Balances o (within f units) k
cut o (Ends e) units k b = b
cut o (Prints t f) units k b = cut o f units k b
cut o (Holds n f) units k b = cut o f units (k + one_of o n) b
cut o (Loses n f) units k b = (b.0, b.1, cut o f units b.0 b.2)
cut o (Points f) units k b = cut o f units k b
cut o (Spends f) zero k b = tt
cut o (Spends f) (suc units) k b = cut o f units k b
cut o (Asks c f) units k b = λ a. cut o (f a) units (k + given o a) (b a)

pub spends : (o : ℕ) (f : Frame) (k : ℕ) → Keeps o true f k → Keeps o false (Spends f) k
spends o f k b = record { it = b.it; meter = (refl, b.meter) }

module _ (o : ℕ) where
  -- ---- variables

  pub set_counts : (x : Name) (v : Val) (vars : Vars) → count_vars o (with_var x v vars) + count_some o (value_in x vars) ≡ count_vars o vars + count o v
  set_counts x v [] = omega arith
  set_counts x v (y ∷ vars) = by (bytes_eq y.name x) (set_counts x v vars)
    where
      by : (b : Bool) → count_vars o (with_var x v vars) + count_some o (value_in x vars) ≡ count_vars o vars + count o v
          → count_vars o (cond b (record { name = y.name; value = v } ∷ vars) (y ∷ with_var x v vars)) + count_some o (cond b (Some y.value) (value_in x vars)) ≡ (count o y.value + count_vars o vars) + count o v
      by true e = omega arith
      by false e = omega (arith, e)

  pub kill_counts : (x : Name) (vars : Vars) → count_vars o (without_var x vars) + count_some o (value_in x vars) ≡ count_vars o vars
  kill_counts x [] = omega arith
  kill_counts x (y ∷ vars) = by (bytes_eq y.name x) (kill_counts x vars)
    where
      by : (b : Bool) → count_vars o (without_var x vars) + count_some o (value_in x vars) ≡ count_vars o vars
          → count_vars o (cond b vars (y ∷ without_var x vars)) + count_some o (cond b (Some y.value) (value_in x vars)) ≡ count o y.value + count_vars o vars
      by true e = omega arith
      by false e = omega (arith, e)

module _ (o : ℕ) {taken : Bool} where
  pub kept : {f : Frame} (j k : ℕ) → j ≡ k → Keeps o taken f j → Keeps o taken f k
  kept {f} j k e b = subst (Keeps o taken f) e b

  pub ends : (e : ScriptEnd) (k : ℕ) → IsLeft o e k → Keeps o taken (Ends e) k
  ends e k left = record { it = left; meter = tt }

  pub points : (f : Frame) (k : ℕ) → Keeps o false f k → Keeps o taken (Points f) k
  points f k b = record { it = b.it; meter = b.meter }

  pub asks : (c : Call) (f : Answer → Frame) (k : ℕ) → ((a : Answer) → Keeps o taken (f a) (k + given o a)) → Keeps o taken (Asks c f) k
  asks c f k b = record { it = λ a. (b a).it; meter = λ a. (b a).meter }

  -- ---- places

  pub held : (v : Val) (f : Frame) (k : ℕ) → Keeps o taken f (k + count o v) → Keeps o taken (holds v f) k
  held (Data v) f k b = kept _ _ (omega arith) b
  held (Ref number class) f k b = record { it = b.it; meter = b.meter }

  pub lost : (v : Val) (f : Frame) (j k : ℕ) → k ≡ j + count o v → Keeps o taken f j → Keeps o taken (loses v f) k
  lost (Data v) f j k e b = kept _ _ (omega (arith, e)) b
  lost (Ref number class) f j k e b = record { it = (j, e, b.it); meter = b.meter }

  pub lost_each : (vs : List Val) (f : Frame) (j k : ℕ) → k ≡ j + count_each o vs → Keeps o taken f j → Keeps o taken (loses_each vs f) k
  lost_each [] f j k e b = kept _ _ (omega (arith, e)) b
  lost_each (v ∷ vs) f j k e b = lost v (loses_each vs f) (j + count_each o vs) k (omega (arith, e)) (lost_each vs f j _ refl b)

  pub lost_some : (v : Option Val) (f : Frame) (j k : ℕ) → k ≡ j + count_some o v → Keeps o taken f j → Keeps o taken (loses_some v f) k
  lost_some None f j k e b = kept _ _ (omega (arith, e)) b
  lost_some (Some v) f j k e b = lost v f j k e b

  pub lost_vars : (vars : Vars) (f : Frame) (j k : ℕ) → k ≡ j + count_vars o vars → Keeps o taken f j → Keeps o taken (loses_vars vars f) k
  lost_vars [] f j k e b = kept _ _ (omega (arith, e)) b
  lost_vars (x ∷ vars) f j k e b = lost_vars vars (loses x.value f) (j + count o x.value) k (omega (arith, e)) (lost x.value f j _ refl b)

  pub printed : (t : List ℕ) (f : Frame) (k : ℕ) → Keeps o taken f k → Keeps o taken (prints t f) k
  printed [] f k b = b
  printed (x ∷ t) f k b = record { it = b.it; meter = b.meter }

  -- ---- results and answers

  pub checks : {A : Type 0} (r : Checked A) (line : ℕ) (go : A → Frame) (k : ℕ) → ((a : A) → Keeps o taken (go a) k) → Keeps o taken (checked r line go) k
  checks (Ok a) line go k b = b a
  checks (Err e) line go k b = record { it = tt; meter = tt }

  pub got : (line : ℕ) (a : Answer) (go : Val → Frame) (k : ℕ) → ((v : Val) → Keeps o taken (go v) (k + count o v)) → Keeps o taken (on_got line a go) (k + given o a)
  got line (answer.Got v) go k b = b v
  got line (answer.Error e) go k b = record { it = tt; meter = tt }
  got line answer.Items go k b = record { it = tt; meter = tt }
  got line answer.Done go k b = record { it = tt; meter = tt }
  got line (answer.Reply r) go k b = record { it = tt; meter = tt }

  pub was_read : (line : ℕ) (a : Answer) (go : Val → Frame) (items : Frame) (k : ℕ) → ((v : Val) → Keeps o taken (go v) (k + count o v)) → Keeps o taken items k → Keeps o taken (on_read line a go items) (k + given o a)
  was_read line (answer.Got v) go items k b i = b v
  was_read line (answer.Error e) go items k b i = record { it = tt; meter = tt }
  was_read line answer.Items go items k b i = kept _ _ (omega arith) i
  was_read line answer.Done go items k b i = record { it = tt; meter = tt }
  was_read line (answer.Reply r) go items k b i = record { it = tt; meter = tt }

  pub was_written : (line : ℕ) (a : Answer) (f : Frame) (k : ℕ) → Keeps o taken f k → Keeps o taken (on_written line a f) (k + given o a)
  was_written line answer.Done f k b = kept _ _ (omega arith) b
  was_written line (answer.Error e) f k b = record { it = tt; meter = tt }
  was_written line answer.Items f k b = record { it = tt; meter = tt }
  was_written line (answer.Got v) f k b = record { it = tt; meter = tt }
  was_written line (answer.Reply r) f k b = record { it = tt; meter = tt }

  pub was_tried : (a : Answer) (f : Frame) (k : ℕ) → Keeps o taken f k → Keeps o taken (on_tried a f) (k + given o a)
  was_tried answer.Done f k b = kept _ _ (omega arith) b
  was_tried (answer.Error e) f k b = record { it = tt; meter = tt }
  was_tried answer.Items f k b = record { it = tt; meter = tt }
  was_tried (answer.Got v) f k b = record { it = tt; meter = tt }
  was_tried (answer.Reply r) f k b = record { it = tt; meter = tt }

  pub replied : (a : Answer) (go : Reply → Frame) (k : ℕ) → ((r : Reply) → Keeps o taken (go r) k) → Keeps o taken (on_reply a go) (k + given o a)
  replied (answer.Reply r) go k b = kept _ _ (omega arith) (b r)
  replied answer.Done go k b = record { it = tt; meter = tt }
  replied (answer.Error e) go k b = record { it = tt; meter = tt }
  replied answer.Items go k b = record { it = tt; meter = tt }
  replied (answer.Got v) go k b = record { it = tt; meter = tt }

  pub was_found : (r : Reply) (go : Val → Frame) (absent : Frame) (k : ℕ) → ((v : Value) → Keeps o taken (go (Data v)) k) → Keeps o taken absent k → Keeps o taken (found r go absent) k
  was_found (reply.Found v) go absent k b i = b v
  was_found reply.Absent go absent k b i = i
  was_found _ go absent k b i = record { it = tt; meter = tt }

  pub was_done : (r : Reply) (f : Frame) (k : ℕ) → Keeps o taken f k → Keeps o taken (done r f) k
  was_done reply.Done f k b = b
  was_done _ f k b = record { it = tt; meter = tt }

  pub was_back : (r : Reply) (f : Frame) (k : ℕ) → Keeps o taken f k → Keeps o taken (given_back r f) k
  was_back reply.NotHeld f k b = b
  was_back reply.Done f k b = b
  was_back _ f k b = record { it = tt; meter = tt }

  pub was_state : (r : Reply) (go : ℕ → Frame) (k : ℕ) → ((n : ℕ) → Keeps o taken (go n) k) → Keeps o taken (state r go) k
  was_state (reply.State n) go k b = b n
  was_state _ go k b = record { it = tt; meter = tt }

  pub was_next : (r : Reply) (go : Option Sub → Frame) (k : ℕ) → ((s : Option Sub) → Keeps o taken (go s) k) → Keeps o taken (next r go) k
  was_next (reply.Next s) go k b = b (Some s)
  was_next reply.NoNext go k b = b None
  was_next _ go k b = record { it = tt; meter = tt }

  pub was_counted : (line : ℕ) (r : Reply) (go : ℤ → Frame) (k : ℕ) → ((z : ℤ) → Keeps o taken (go z) k) → Keeps o taken (counted line r go) k
  was_counted line (reply.Number z) go k b = b z
  was_counted line reply.NumberLimit go k b = record { it = tt; meter = tt }
  was_counted line _ go k b = record { it = tt; meter = tt }

  pub was_begun : (line : ℕ) (r : Reply) (f : Frame) (k : ℕ) → Keeps o taken f k → Keeps o taken (begun line r f) k
  was_begun line (reply.Number z) f k b = b
  was_begun line reply.TooDeep f k b = record { it = tt; meter = tt }
  was_begun line _ f k b = record { it = tt; meter = tt }

  pub was_committed : (line : ℕ) (r : Reply) (f : Frame) (k : ℕ) → Keeps o taken f k → Keeps o taken (committed line r f) k
  was_committed line (reply.Number z) f k b = b
  was_committed line reply.NoTran f k b = record { it = tt; meter = tt }
  was_committed line _ f k b = record { it = tt; meter = tt }

  pub was_undone : (r : Reply) (f : Frame) (k : ℕ) → Keeps o taken f k → Keeps o taken (undone r f) k
  was_undone (reply.Number z) f k b = b
  was_undone reply.NoTran f k b = b
  was_undone _ f k b = record { it = tt; meter = tt }

  -- ---- what is asked

  pub noded : (g : Name) (vs : List Val) (line : ℕ) (go : Node → Frame) (k : ℕ) → ((n : Node) → Keeps o taken (go n) k) → Keeps o taken (at_node g vs line go) k
  unfolding at_node
  noded g vs line go k b = checks _ line _ k (λ subs. b _)

  pub got_at : (g : Name) (vs : List Val) (line : ℕ) (go : Val → Frame) (absent : Frame) (k : ℕ) → ((v : Value) → Keeps o taken (go (Data v)) k) → Keeps o taken absent k → Keeps o taken (gets g vs line go absent) k
  unfolding gets
  got_at g vs line go absent k b i = noded g vs line _ k (λ n. asks _ _ k (λ a. replied a _ k (λ r. was_found r go absent k b i)))

  pub defined_at : (g : Name) (vs : List Val) (line : ℕ) (go : ℕ → Frame) (k : ℕ) → ((n : ℕ) → Keeps o taken (go n) k) → Keeps o taken (defines g vs line go) k
  unfolding defines
  defined_at g vs line go k b = noded g vs line _ k (λ n. asks _ _ k (λ a. replied a _ k (λ r. was_state r go k b)))

  pub set_at : (g : Name) (vs : List Val) (v : Val) (line : ℕ) (f : Frame) (k : ℕ) → Keeps o taken f k → Keeps o taken (sets g vs v line f) k
  unfolding sets
  set_at g vs v line f k b = noded g vs line _ k (λ n. asks _ _ k (λ a. replied a _ k (λ r. was_done r f k b)))

  pub killed_at : (g : Name) (vs : List Val) (line : ℕ) (f : Frame) (k : ℕ) → Keeps o taken f k → Keeps o taken (kills g vs line f) k
  unfolding kills
  killed_at g vs line f k b = noded g vs line _ k (λ n. asks _ _ k (λ a. replied a _ k (λ r. was_done r f k b)))

  pub counted_at : (g : Name) (vs : List Val) (by : ℤ) (line : ℕ) (go : ℤ → Frame) (k : ℕ) → ((z : ℤ) → Keeps o taken (go z) k) → Keeps o taken (increments g vs by line go) k
  unfolding increments
  counted_at g vs by line go k b = noded g vs line _ k (λ n. asks _ _ k (λ a. replied a _ k (λ r. was_counted line r go k b)))

  pub ordered_at : (g : Name) (vs : List Val) (line : ℕ) (go : Option Sub → Frame) (k : ℕ) → ((s : Option Sub) → Keeps o taken (go s) k) → Keeps o taken (orders g vs line go) k
  unfolding orders
  ordered_at g [] line go k b = record { it = tt; meter = tt }
  ordered_at g (last ∷ vs) line go k b = checks _ line _ k (λ after. noded g vs line _ k (λ n. asks _ _ k (λ a. replied a _ k (λ r. was_next r go k b))))

  pub called : (on : Subject) (m : Name) (vs : List Val) (line : ℕ) (go : Val → Frame) (k : ℕ) → ((v : Val) → Keeps o taken (go v) (k + count o v)) → Keeps o taken (calls on m vs line go) k
  unfolding calls
  called (Whole object) m vs line go k b = checks _ line _ k (λ number. asks _ _ k (λ a. got line a go k b))
  called (Collection number property) m vs line go k b = asks _ _ k (λ a. got line a go k b)

  pub called_own : (this : Option Val) (m : Name) (vs : List Val) (line : ℕ) (go : Val → Frame) (k : ℕ) → ((v : Val) → Keeps o taken (go v) (k + count o v)) → Keeps o taken (calls_own this m vs line go) k
  unfolding calls_own
  called_own None m vs line go k b = asks _ _ k (λ a. got line a go k b)
  called_own (Some object) m vs line go k b = checks _ line _ k (λ number. asks _ _ k (λ a. got line a go k b))

  pub written : (object : Val) (p : Name) (v : Val) (line : ℕ) (f : Frame) (k : ℕ) → Keeps o taken f k → Keeps o taken (writes object p v line f) k
  unfolding writes
  written object p v line f k b = checks _ line _ k (λ number. asks _ _ k (λ a. was_written line a f k b))
