-- What is seen of a process, step by step of its frame and of its calls of objects.
use Rattle.std.proofs.Common.{◌≡◌, ℕ, zero, suc, false, List, [], ◌∷◌, ◌++◌, None, refl, sym, ap, ◌∙◌}
use Rattle.obj_kinds.specs.declared.name.ClassName.{ClassName}
use Rattle.obj_kinds.specs.declared.op.Op.{Op}
use Rattle.obj_kinds.specs.declared.op.Reply.{Reply}
use Rattle.schema_kinds.specs.declared.class.Class.{Class}
use Rattle.os_kinds.specs.declared.val.Val.{Val}
use Rattle.os_kinds.specs.declared.call.Special.{Special}
use Rattle.os_kinds.specs.declared.call.Call.TheVariants as call
use Rattle.os_kinds.specs.declared.call.Answer.{Answer}
use Rattle.os_kinds.specs.declared.call.Answer.TheVariants as answer
use Rattle.os_kinds.specs.declared.call.ScriptEnd.{ScriptEnd}
use Rattle.os_meaning.specs.Syntax.{Name, Block}
use Rattle.os_meaning.specs.Frames.{Frame, Ends, Prints as Printing, Holds, Loses, Points, Spends, Asks}
use Rattle.oref_table.specs.Memory.{Memory, edited, tighten, loosed}
use Rattle.oref_table.specs.Dropping.{dropped}
use Rattle.store_calls.specs.Calls.{Call, Give, Ask, Tell, Cut, Prints}
use Rattle.object_calls.specs.Shown.{Noted, Asked, Answers, shown, asked_as}
use Rattle.host_meaning.specs.declared.ending.Ending.{Ending}
use Rattle.host_meaning.specs.declared.ending.Ending.TheVariants as ending
use Rattle.host_meaning.specs.Objects.{Known, ObjectCall}
use Rattle.host_meaning.specs.Process.{Begun, Meant, Method, Wrong, BuiltIn, level_after, ending_of, calls, unlocks, special, of_class, of_object, meant, runs, method, whole, process}
use Rattle.object_members.specs.Seeing.{class_at}
use Rattle.object_members.specs.Ends.{with_memory}
use Rattle.object_members.specs.MemberObjects.{waiting, objects_of, nothing_in_memory}
use Rattle.object_members.specs.Members.{on_class, on_object, on_items}
use Rattle.object_members.specs.Reads.{read_prop}
use Rattle.object_members.specs.Writes.{write_prop}
use Rattle.worked_processes.specs.Bank.{Seen, program}

abbrev pub levelled : Op → Reply → Known Memory → Known Memory
levelled op r s = record { memory = s.memory; level = level_after op r s.level; test = s.test; last_error = s.last_error }

abbrev pub at_first : Known Memory
at_first = record { memory = nothing_in_memory; level = 0; test = false; last_error = [] }

pub data Outcome : Type 0 where
  stopped : List Seen → Outcome
  went : List Seen → Known Memory × Answer → ℕ → List Reply → Outcome

abbrev pub noted : Seen → Outcome → Outcome
noted x (stopped shows) = stopped (x ∷ shows)
noted x (went shows a u rs) = went (x ∷ shows) a u rs

module _ (classes : List Class) (tries fuel : ℕ) (body : Block) where
  abbrev ends : ScriptEnd → ℕ → Known Memory → Call Ending
  ends e units s = Give (ending_of None e)

  -- the frame of the script
  abbrev its : Begun
  its = record { body = body; this = None; vars = []; declarer = None; called_on = None }

  abbrev goes : Frame → ℕ → Known Memory → Call Ending
  goes f u s = runs (objects_of classes tries fuel) (program classes) fuel (method (objects_of classes tries fuel) (program classes) fuel 63) its f u s ends

  -- of what is left of the script's frame
  pub plays : Frame → ℕ → Known Memory → List Reply → List Seen
  plays f u s rs = shown (goes f u s) rs

  -- of what is left of a call of an object, and then of the frame
  pub asks : Call (Known Memory × Answer) → ℕ → (Answer → Frame) → List Reply → List Seen
  asks c u k rs = shown (calls (objects_of classes tries fuel) (program classes) fuel c u (λ a u s. goes (k a) u s)) rs

  -- of locks that are given back at a point
  pub gives : List Op → ℕ → Known Memory → Frame → List Reply → List Seen
  gives ops u s f rs = shown (unlocks (objects_of classes tries fuel) (program classes) fuel ops u s (λ u s. goes f u s)) rs

  -- ---- frames

  pub plays-ends : (e : ScriptEnd) (u : ℕ) (s : Known Memory) (rs : List Reply) → plays (Ends e) u s rs ≡ Answers (ending_of None e) ∷ []
  unfolding plays
  plays-ends e u s rs = refl

  pub plays-prints : (t : List ℕ) (f : Frame) (u : ℕ) (s : Known Memory) (rs : List Reply) → plays (Printing t f) u s rs ≡ Noted (Prints t) ∷ plays f u s rs
  unfolding plays
  plays-prints t f u s rs = refl

  pub plays-holds : (n : ℕ) (f : Frame) (u : ℕ) (s : Known Memory) (rs : List Reply) → plays (Holds n f) u s rs ≡ plays f u (with_memory (edited s.memory n tighten) s) rs
  unfolding plays
  plays-holds n f u s rs = refl

  pub plays-loses : (n : ℕ) (f : Frame) (u : ℕ) (s : Known Memory) (rs : List Reply) → plays (Loses n f) u s rs ≡ plays f u (with_memory (dropped (loosed s.memory (n ∷ []))) s) rs
  unfolding plays
  plays-loses n f u s rs = refl

  abbrev pub spends_on : ℕ → Frame → Known Memory → List Reply → List Seen
  spends_on zero f s rs = Answers ending.Fuel ∷ []
  spends_on (suc u) f s rs = plays f u s rs

  pub plays-spends : (f : Frame) (u : ℕ) (s : Known Memory) (rs : List Reply) → plays (Spends f) u s rs ≡ spends_on u f s rs
  unfolding plays
  plays-spends f zero s rs = refl
  plays-spends f (suc u) s rs = refl

  pub plays-points : (f : Frame) (u : ℕ) (s : Known Memory) (rs : List Reply) → plays (Points f) u s rs ≡ gives (waiting s.memory) u (with_memory (record s.memory { freed = [] }) s) f rs
  unfolding plays gives
  plays-points f u s rs = refl

  pub gives-none : (u : ℕ) (s : Known Memory) (f : Frame) (rs : List Reply) → gives [] u s f rs ≡ plays f u s rs
  unfolding plays gives
  gives-none u s f rs = refl

  abbrev pub gives_on : Op → List Op → ℕ → Known Memory → Frame → List Reply → List Seen
  gives_on op ops zero s f rs = Answers ending.Fuel ∷ []
  gives_on op ops (suc u) s f [] = Asked op ∷ []
  gives_on op ops (suc u) s f (r ∷ rs) = Asked op ∷ gives ops u (levelled op r s) f rs

  pub gives-some : (op : Op) (ops : List Op) (u : ℕ) (s : Known Memory) (f : Frame) (rs : List Reply) → gives (op ∷ ops) u s f rs ≡ gives_on op ops u s f rs
  unfolding gives
  gives-some op ops zero s f rs = refl
  gives-some op ops (suc u) s f [] = refl
  gives-some op ops (suc u) s f (r ∷ rs) = refl

  -- ---- what a frame asks

  abbrev pub store_on : Op → ℕ → (Answer → Frame) → Known Memory → List Reply → List Seen
  store_on op zero k s rs = Answers ending.Fuel ∷ []
  store_on op (suc u) k s [] = Asked op ∷ []
  store_on op (suc u) k s (r ∷ rs) = Asked op ∷ plays (k (answer.Reply r)) u (levelled op r s) rs

  pub plays-store : (op : Op) (k : Answer → Frame) (u : ℕ) (s : Known Memory) (rs : List Reply) → plays (Asks (call.Store op) k) u s rs ≡ store_on op u k s rs
  unfolding plays
  plays-store op k zero s rs = refl
  plays-store op k (suc u) s [] = refl
  plays-store op k (suc u) s (r ∷ rs) = refl

  pub plays-special : (x : Special) (k : Answer → Frame) (u : ℕ) (s : Known Memory) (rs : List Reply)
      → plays (Asks (call.Special x) k) u s rs ≡ plays (k (answer.Got (special (objects_of classes tries fuel) (program classes) fuel x s))) u s rs
  unfolding plays
  plays-special x k u s rs = refl

  -- where no class declares the member
  abbrev pub meant_on : Meant → ObjectCall Memory → ℕ → (Answer → Frame) → Known Memory → List Reply → List Seen
  meant_on BuiltIn built u k s rs = asks (built s) u k rs
  meant_on (Wrong e) built u k s rs = plays (k (answer.Error e)) u s rs
  meant_on (Method b) built u k s rs = shown (method (objects_of classes tries fuel) (program classes) fuel 63 b u s (λ a u s. goes (k a) u s)) rs

  pub plays-class : (class : ClassName) (name : Name) (args : List Val) (k : Answer → Frame) (u : ℕ) (s : Known Memory) (rs : List Reply)
      → plays (Asks (call.OnClass class name args) k) u s rs
      ≡ meant_on (of_class (objects_of classes tries fuel) (program classes) fuel class name args) (on_class classes tries fuel class name args) u k s rs
  unfolding plays asks
  plays-class class name args k u s rs = by (of_class (objects_of classes tries fuel) (program classes) fuel class name args)
    where
      by : (m : Meant) → shown (meant (objects_of classes tries fuel) (program classes) fuel (method (objects_of classes tries fuel) (program classes) fuel 63) m (on_class classes tries fuel class name args) u s (λ a u s. goes (k a) u s)) rs ≡ meant_on m (on_class classes tries fuel class name args) u k s rs
      by BuiltIn = refl
      by (Wrong e) = refl
      by (Method b) = refl

  pub plays-object : (number : ℕ) (name : Name) (args : List Val) (k : Answer → Frame) (u : ℕ) (s : Known Memory) (rs : List Reply)
      → plays (Asks (call.OnObject number name args) k) u s rs
      ≡ meant_on (of_object (objects_of classes tries fuel) (program classes) fuel (class_at s.memory number) number name args) (on_object classes tries fuel number name args) u k s rs
  unfolding plays asks
  plays-object number name args k u s rs = by (of_object (objects_of classes tries fuel) (program classes) fuel (class_at s.memory number) number name args)
    where
      by : (m : Meant) → shown (meant (objects_of classes tries fuel) (program classes) fuel (method (objects_of classes tries fuel) (program classes) fuel 63) m (on_object classes tries fuel number name args) u s (λ a u s. goes (k a) u s)) rs ≡ meant_on m (on_object classes tries fuel number name args) u k s rs
      by BuiltIn = refl
      by (Wrong e) = refl
      by (Method b) = refl

  pub plays-items : (number : ℕ) (property name : Name) (args : List Val) (k : Answer → Frame) (u : ℕ) (s : Known Memory) (rs : List Reply)
      → plays (Asks (call.OnItems number property name args) k) u s rs ≡ asks (on_items classes tries fuel number property name args s) u k rs
  unfolding plays asks
  plays-items number property name args k u s rs = refl

  pub plays-read : (number : ℕ) (property : Name) (k : Answer → Frame) (u : ℕ) (s : Known Memory) (rs : List Reply)
      → plays (Asks (call.Read number property) k) u s rs ≡ asks (read_prop classes tries fuel number property s) u k rs
  unfolding plays asks
  plays-read number property k u s rs = refl

  pub plays-write : (number : ℕ) (property : Name) (v : Val) (k : Answer → Frame) (u : ℕ) (s : Known Memory) (rs : List Reply)
      → plays (Asks (call.Write number property v) k) u s rs ≡ asks (write_prop classes number property v s) u k rs
  unfolding plays asks
  plays-write number property v k u s rs = refl

  -- ---- calls of objects

  -- what a call of an object shows in one go: it stops for want of units or of replies, or the frame goes on
  abbrev pub outcome : Call (Known Memory × Answer) → ℕ → List Reply → Outcome
  outcome (Give a) u rs = went [] a u rs
  outcome (Tell x c) u rs = noted (Noted x) (outcome c u rs)
  outcome Cut u rs = stopped []
  outcome (Ask op tag h) zero rs = stopped (Answers ending.Fuel ∷ [])
  outcome (Ask op tag h) (suc u) [] = stopped (asked_as tag op ∷ [])
  outcome (Ask op tag h) (suc u) (r ∷ rs) = noted (asked_as tag op) (outcome (h r) u rs)

  abbrev pub joined : (Answer → Frame) → Outcome → List Seen
  joined k (stopped shows) = shows
  joined k (went shows a u rs) = shows ++ plays (k a.1) u a.0 rs

  joined-noted : (x : Seen) (k : Answer → Frame) (o : Outcome) → joined k (noted x o) ≡ x ∷ joined k o
  joined-noted x k (stopped shows) = refl
  joined-noted x k (went shows a u rs) = refl

  pub asks-outcome : (c : Call (Known Memory × Answer)) (u : ℕ) (k : Answer → Frame) (rs : List Reply) → asks c u k rs ≡ joined k (outcome c u rs)
  unfolding plays asks
  asks-outcome (Give a) u k rs = refl
  asks-outcome (Tell x c) u k rs = ap (λ l. Noted x ∷ l) (asks-outcome c u k rs) ∙ sym (joined-noted (Noted x) k (outcome c u rs))
  asks-outcome Cut u k rs = refl
  asks-outcome (Ask op tag h) zero k rs = refl
  asks-outcome (Ask op tag h) (suc u) k [] = refl
  asks-outcome (Ask op tag h) (suc u) k (r ∷ rs) = ap (λ l. asked_as tag op ∷ l) (asks-outcome (h r) u k rs) ∙ sym (joined-noted (asked_as tag op) k (outcome (h r) u rs))

  -- the whole process
  pub process-plays : (rs : List Reply) → shown (process (objects_of classes tries fuel) (program classes) fuel body) rs ≡ plays (whole (objects_of classes tries fuel) (program classes) fuel its) fuel at_first rs
  unfolding process plays
  process-plays rs = refl

pub ruleset playing = (process-plays, plays-ends, plays-prints, plays-holds, plays-loses, plays-spends, plays-points, gives-none, gives-some, plays-store, plays-special, plays-class, plays-object, plays-items, plays-read, plays-write, asks-outcome)
