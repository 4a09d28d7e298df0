-- The steps that meaning and code share are alike where what follows is, up to the units that are left.
use Rattle.std.proofs.Common.{◌≡◌, ℕ, ℤ, Bool, true, false, cond, List, [], ◌∷◌, reverse, length, Option, Some, None, Ok, Err, refl, ap}
use std.Path.{fun_ext}
use Rattle.obj_kinds.specs.declared.node.Node.{Node}
use Rattle.obj_kinds.specs.declared.sub.Sub.{Sub}
use Rattle.obj_kinds.specs.declared.op.Mode.{Mode}
use Rattle.obj_kinds.specs.declared.op.Op.{Op}
use Rattle.obj_kinds.specs.declared.op.Op.TheVariants as ops
use Rattle.obj_kinds.specs.declared.op.Reply.{Reply}
use Rattle.obj_kinds.specs.declared.op.Reply.TheVariants as reply
use Rattle.os_kinds.specs.declared.val.Val.{Val}
use Rattle.os_kinds.specs.declared.val.Val.TheVariants.{Data, Ref}
use Rattle.os_kinds.specs.declared.call.Call.{Call}
use Rattle.os_kinds.specs.declared.call.Call.TheVariants as call
use Rattle.os_kinds.specs.declared.call.Answer.{Answer}
use Rattle.os_kinds.specs.declared.call.Answer.TheVariants as answer
use Rattle.os_value.specs.Answers.{and_then}
use Rattle.os_meaning.specs.Syntax.{Name}
use Rattle.os_meaning.specs.Values.{Checked, plain, after_of}
use Rattle.os_meaning.specs.Frames.{Frame, Prints, Holds, Loses, Asks, Vars, Subject, Whole, Collection, within, checked, holds, loses, loses_some, loses_vars, prints, on_got, on_read, on_written, on_tried, on_reply, found, done, given_back, state, next, counted, begun, committed, undone, object_in, node, subs_by, at_node, gets, defines, sets, kills, increments, orders, calls, calls_own, writes}
use Rattle.os_meaning.specs.Expressions.{copied_or}
use Rattle.os_meaning.specs.Commands.{tries, asks, asks_done}

pub checked_same : {A : Type 0} (r : Checked A) (line : ℕ) (f g : A → Frame) (n : ℕ) → ((a : A) → f a ≡ within (g a) n) → checked r line f ≡ within (checked r line g) n
checked_same (Ok a) line f g n h = h a
checked_same (Err e) line f g n h = refl

-- with what is known of the result
pub checked_with : {A : Type 0} (r : Checked A) (line : ℕ) (f g : A → Frame) (n : ℕ) → ((a : A) → r ≡ Ok a → f a ≡ within (g a) n) → checked r line f ≡ within (checked r line g) n
checked_with (Ok a) line f g n h = h a refl
checked_with (Err e) line f g n h = refl

pub cond_same : (t : Bool) (a b c d : Frame) (n : ℕ) → a ≡ within c n → b ≡ within d n → cond t a b ≡ within (cond t c d) n
cond_same true a b c d n h g = h
cond_same false a b c d n h g = g

pub holds_same : (v : Val) (f g : Frame) (n : ℕ) → f ≡ within g n → holds v f ≡ within (holds v g) n
holds_same (Data v) f g n h = h
holds_same (Ref number class) f g n h = ap (Holds number) h

pub loses_same : (v : Val) (f g : Frame) (n : ℕ) → f ≡ within g n → loses v f ≡ within (loses v g) n
loses_same (Data v) f g n h = h
loses_same (Ref number class) f g n h = ap (Loses number) h

pub loses_some_same : (v : Option Val) (f g : Frame) (n : ℕ) → f ≡ within g n → loses_some v f ≡ within (loses_some v g) n
loses_some_same None f g n h = h
loses_some_same (Some v) f g n h = loses_same v f g n h

pub loses_vars_same : (vars : Vars) (f g : Frame) (n : ℕ) → f ≡ within g n → loses_vars vars f ≡ within (loses_vars vars g) n
loses_vars_same [] f g n h = h
loses_vars_same (x ∷ vars) f g n h = loses_vars_same vars _ _ n (loses_same x.value f g n h)

pub prints_same : (t : List ℕ) (f g : Frame) (n : ℕ) → f ≡ within g n → prints t f ≡ within (prints t g) n
prints_same [] f g n h = h
prints_same (b ∷ t) f g n h = ap (Prints (b ∷ t)) h

pub asks_same : (c : Call) (f g : Answer → Frame) (n : ℕ) → ((a : Answer) → f a ≡ within (g a) n) → Asks c f ≡ within (Asks c g) n
asks_same c f g n h = ap (Asks c) (fun_ext h)

pub copied_same : (x : Option Val) (f g : Val → Frame) (a b : Frame) (n : ℕ) → ((v : Val) → f v ≡ within (g v) n) → a ≡ within b n → copied_or x f a ≡ within (copied_or x g b) n
copied_same None f g a b n h e = e
copied_same (Some v) f g a b n h e = holds_same v (f v) (g v) n (h v)

pub on_got_same : (line : ℕ) (a : Answer) (f g : Val → Frame) (n : ℕ) → ((v : Val) → f v ≡ within (g v) n) → on_got line a f ≡ within (on_got line a g) n
on_got_same line (answer.Got v) f g n h = h v
on_got_same line (answer.Error e) f g n h = refl
on_got_same line answer.Items f g n h = refl
on_got_same line answer.Done f g n h = refl
on_got_same line (answer.Reply r) f g n h = refl

pub on_read_same : (line : ℕ) (a : Answer) (f g : Val → Frame) (x y : Frame) (n : ℕ) → ((v : Val) → f v ≡ within (g v) n) → x ≡ within y n → on_read line a f x ≡ within (on_read line a g y) n
on_read_same line (answer.Got v) f g x y n h e = h v
on_read_same line (answer.Error err) f g x y n h e = refl
on_read_same line answer.Items f g x y n h e = e
on_read_same line answer.Done f g x y n h e = refl
on_read_same line (answer.Reply r) f g x y n h e = refl

on_written_same : (line : ℕ) (a : Answer) (f g : Frame) (n : ℕ) → f ≡ within g n → on_written line a f ≡ within (on_written line a g) n
on_written_same line answer.Done f g n h = h
on_written_same line (answer.Error e) f g n h = refl
on_written_same line answer.Items f g n h = refl
on_written_same line (answer.Got v) f g n h = refl
on_written_same line (answer.Reply r) f g n h = refl

on_tried_same : (a : Answer) (f g : Frame) (n : ℕ) → f ≡ within g n → on_tried a f ≡ within (on_tried a g) n
on_tried_same answer.Done f g n h = h
on_tried_same (answer.Error e) f g n h = refl
on_tried_same answer.Items f g n h = refl
on_tried_same (answer.Got v) f g n h = refl
on_tried_same (answer.Reply r) f g n h = refl

on_reply_same : (a : Answer) (f g : Reply → Frame) (n : ℕ) → ((r : Reply) → f r ≡ within (g r) n) → on_reply a f ≡ within (on_reply a g) n
on_reply_same (answer.Reply r) f g n h = h r
on_reply_same answer.Done f g n h = refl
on_reply_same (answer.Error e) f g n h = refl
on_reply_same answer.Items f g n h = refl
on_reply_same (answer.Got v) f g n h = refl

found_same : (r : Reply) (f g : Val → Frame) (x y : Frame) (n : ℕ) → ((v : Val) → f v ≡ within (g v) n) → x ≡ within y n → found r f x ≡ within (found r g y) n
found_same (reply.Found v) f g x y n h e = h (Data v)
found_same reply.Absent f g x y n h e = e
found_same _ f g x y n h e = refl

done_same : (r : Reply) (f g : Frame) (n : ℕ) → f ≡ within g n → done r f ≡ within (done r g) n
done_same reply.Done f g n h = h
done_same _ f g n h = refl

given_back_same : (r : Reply) (f g : Frame) (n : ℕ) → f ≡ within g n → given_back r f ≡ within (given_back r g) n
given_back_same reply.NotHeld f g n h = h
given_back_same reply.Done f g n h = h
given_back_same _ f g n h = refl

state_same : (r : Reply) (f g : ℕ → Frame) (n : ℕ) → ((m : ℕ) → f m ≡ within (g m) n) → state r f ≡ within (state r g) n
state_same (reply.State m) f g n h = h m
state_same _ f g n h = refl

next_same : (r : Reply) (f g : Option Sub → Frame) (n : ℕ) → ((s : Option Sub) → f s ≡ within (g s) n) → next r f ≡ within (next r g) n
next_same (reply.Next s) f g n h = h (Some s)
next_same reply.NoNext f g n h = h None
next_same _ f g n h = refl

counted_same : (line : ℕ) (r : Reply) (f g : ℤ → Frame) (n : ℕ) → ((z : ℤ) → f z ≡ within (g z) n) → counted line r f ≡ within (counted line r g) n
counted_same line (reply.Number z) f g n h = h z
counted_same line reply.NumberLimit f g n h = refl
counted_same line _ f g n h = refl

pub begun_same : (line : ℕ) (r : Reply) (f g : Frame) (n : ℕ) → f ≡ within g n → begun line r f ≡ within (begun line r g) n
begun_same line (reply.Number z) f g n h = h
begun_same line reply.TooDeep f g n h = refl
begun_same line _ f g n h = refl

pub committed_same : (line : ℕ) (r : Reply) (f g : Frame) (n : ℕ) → f ≡ within g n → committed line r f ≡ within (committed line r g) n
committed_same line (reply.Number z) f g n h = h
committed_same line reply.NoTran f g n h = refl
committed_same line _ f g n h = refl

pub undone_same : (r : Reply) (f g : Frame) (n : ℕ) → f ≡ within g n → undone r f ≡ within (undone r g) n
undone_same (reply.Number z) f g n h = h
undone_same reply.NoTran f g n h = h
undone_same _ f g n h = refl

-- ---- what is asked

pub asks_op_same : (op : Op) (f g : Reply → Frame) (n : ℕ) → ((r : Reply) → f r ≡ within (g r) n) → asks op f ≡ within (asks op g) n
asks_op_same op f g n h = asks_same (call.Store op) _ _ n (λ a. on_reply_same a f g n h)

pub asks_done_same : (op : Op) (f g : Frame) (n : ℕ) → f ≡ within g n → asks_done op f ≡ within (asks_done op g) n
asks_done_same op f g n h = asks_op_same op _ _ n (λ r. done_same r f g n h)

pub tries_same : (x : Node) (mode : Mode) (times : Option ℕ) (f g : Frame) (n : ℕ) → f ≡ within g n → tries x mode times f ≡ within (tries x mode times g) n
tries_same x mode times f g n h = asks_same (call.TryLock x mode times) _ _ n (λ a. on_tried_same a f g n h)

pub gives_back_same : (op : Op) (f g : Frame) (n : ℕ) → f ≡ within g n → Asks (call.Store op) (λ a. on_reply a (λ r. given_back r f)) ≡ within (Asks (call.Store op) (λ a. on_reply a (λ r. given_back r g))) n
gives_back_same op f g n h = asks_op_same op _ _ n (λ r. given_back_same r f g n h)

-- with the fact that the node is the same whatever follows
pub at_node_with : (g : Name) (vs : List Val) (line : ℕ) (f f' : Node → Frame) (n : ℕ)
    → ((x : Node) → ((F : Node → Frame) → at_node g vs line F ≡ F x) → f x ≡ within (f' x) n) → at_node g vs line f ≡ within (at_node g vs line f') n
unfolding at_node
at_node_with g vs line f f' n h =
    checked_with (subs_by 0 (reverse vs)) line (λ subs. f (node g subs)) (λ subs. f' (node g subs)) n
    (λ subs e. h (node g subs) (λ F. ap (λ (r : Checked (List Sub)). checked r line (λ subs. F (node g subs))) e))

pub at_node_same : (g : Name) (vs : List Val) (line : ℕ) (f f' : Node → Frame) (n : ℕ) → ((x : Node) → f x ≡ within (f' x) n) → at_node g vs line f ≡ within (at_node g vs line f') n
at_node_same g vs line f f' n h = at_node_with g vs line f f' n (λ x _. h x)

pub gets_same : (g : Name) (vs : List Val) (line : ℕ) (f f' : Val → Frame) (x y : Frame) (n : ℕ) → ((v : Val) → f v ≡ within (f' v) n) → x ≡ within y n → gets g vs line f x ≡ within (gets g vs line f' y) n
unfolding gets
gets_same g vs line f f' x y n h e = at_node_same g vs line _ _ n (λ m. asks_op_same (ops.Get m) _ _ n (λ r. found_same r f f' x y n h e))

pub defines_same : (g : Name) (vs : List Val) (line : ℕ) (f f' : ℕ → Frame) (n : ℕ) → ((m : ℕ) → f m ≡ within (f' m) n) → defines g vs line f ≡ within (defines g vs line f') n
unfolding defines
defines_same g vs line f f' n h = at_node_same g vs line _ _ n (λ m. asks_op_same (ops.Defined m) _ _ n (λ r. state_same r f f' n h))

pub sets_same : (g : Name) (vs : List Val) (v : Val) (line : ℕ) (f f' : Frame) (n : ℕ) → f ≡ within f' n → sets g vs v line f ≡ within (sets g vs v line f') n
unfolding sets
sets_same g vs v line f f' n h = at_node_same g vs line _ _ n (λ m. asks_op_same (ops.Set m (plain v)) _ _ n (λ r. done_same r f f' n h))

pub kills_same : (g : Name) (vs : List Val) (line : ℕ) (f f' : Frame) (n : ℕ) → f ≡ within f' n → kills g vs line f ≡ within (kills g vs line f') n
unfolding kills
kills_same g vs line f f' n h = at_node_same g vs line _ _ n (λ m. asks_op_same (ops.Kill m) _ _ n (λ r. done_same r f f' n h))

pub increments_same : (g : Name) (vs : List Val) (by : ℤ) (line : ℕ) (f f' : ℤ → Frame) (n : ℕ) → ((z : ℤ) → f z ≡ within (f' z) n) → increments g vs by line f ≡ within (increments g vs by line f') n
unfolding increments
increments_same g vs by line f f' n h = at_node_same g vs line _ _ n (λ m. asks_op_same (ops.Incr m by) _ _ n (λ r. counted_same line r f f' n h))

pub orders_same : (g : Name) (vs : List Val) (line : ℕ) (f f' : Option Sub → Frame) (n : ℕ) → ((s : Option Sub) → f s ≡ within (f' s) n) → orders g vs line f ≡ within (orders g vs line f') n
unfolding orders
orders_same g [] line f f' n h = refl
orders_same g (last ∷ vs) line f f' n h =
    checked_same (after_of (length vs) last) line _ _ n (λ after. at_node_same g vs line _ _ n (λ m. asks_op_same (ops.Order m after) _ _ n (λ r. next_same r f f' n h)))

pub calls_same : (on : Subject) (m : Name) (vs : List Val) (line : ℕ) (f f' : Val → Frame) (n : ℕ) → ((v : Val) → f v ≡ within (f' v) n) → calls on m vs line f ≡ within (calls on m vs line f') n
unfolding calls
calls_same (Whole object) m vs line f f' n h =
    checked_same (object_in object) line _ _ n (λ number. asks_same (call.OnObject number m (reverse vs)) _ _ n (λ a. on_got_same line a f f' n h))
calls_same (Collection number property) m vs line f f' n h = asks_same (call.OnItems number property m (reverse vs)) _ _ n (λ a. on_got_same line a f f' n h)

pub calls_own_same : (this : Option Val) (m : Name) (vs : List Val) (line : ℕ) (f f' : Val → Frame) (n : ℕ) → ((v : Val) → f v ≡ within (f' v) n) → calls_own this m vs line f ≡ within (calls_own this m vs line f') n
unfolding calls_own
calls_own_same None m vs line f f' n h = asks_same (call.OnOwn m (reverse vs)) _ _ n (λ a. on_got_same line a f f' n h)
calls_own_same (Some object) m vs line f f' n h =
    checked_same (object_in object) line _ _ n (λ number. asks_same (call.OnObject number m (reverse vs)) _ _ n (λ a. on_got_same line a f f' n h))

pub writes_same : (object : Val) (p : Name) (v : Val) (line : ℕ) (f f' : Frame) (n : ℕ) → f ≡ within f' n → writes object p v line f ≡ within (writes object p v line f') n
unfolding writes
writes_same object p v line f f' n h = checked_same (object_in object) line _ _ n (λ number. asks_same (call.Write number p v) _ _ n (λ a. on_written_same line a f f' n h))

-- a test whose result is used no further
pub tested_same : (r : Checked Sub) (line : ℕ) (f g : Frame) (n : ℕ) → f ≡ within g n → checked r line (λ _. f) ≡ within (checked (and_then r (λ s. Ok (Some s))) line (λ (_ : Option Sub). g)) n
tested_same (Ok s) line f g n h = h
tested_same (Err e) line f g n h = refl
