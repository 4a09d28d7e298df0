-- The objects of a process, as its meaning needs them: what a memory is, and what the calls of objects ask and answer.
use Rattle.std.specs.Prelude.{ℕ, Bool, List, Option}
use Rattle.obj_kinds.specs.declared.name.ClassName.{ClassName}
use Rattle.obj_kinds.specs.declared.op.Op.{Op}
use Rattle.os_kinds.specs.declared.val.Val.{Val}
use Rattle.os_kinds.specs.declared.call.Answer.{Answer}
use Rattle.os_meaning.specs.Syntax.{Name}
use Rattle.store_calls.specs.Calls.{Call}

-- what a process knows beside its frames
pub record Known (M : Type 0) : Type 0 where
  -- its objects
  pub memory : M
  -- how many transactions are open, by the replies so far
  pub level : ℕ
  -- whether the last lock with a timeout was granted
  pub test : Bool
  -- the status text of the last failed call of an object
  pub last_error : List ℕ

-- a call of an object: what it asks of the store, and then its answer and what is known
abbrev pub ObjectCall : Type 0 → Type 0
ObjectCall M = Known M → Call (Known M × Answer)

pub record Objects (M : Type 0) : Type 0 where
  -- nothing is in memory
  pub empty : M
  -- an object gets a place, or loses one, and what nothing holds leaves memory
  pub more : ℕ → M → M
  pub less : ℕ → M → M
  -- the locks of objects that left memory, in rising number, and memory without them
  pub waiting : M → List Op
  pub given : M → M
  -- the class of an object
  pub class : M → ℕ → Option ClassName
  -- the members that no class declares: of a class, of an object, of a collection
  pub on_class : ClassName → Name → List Val → ObjectCall M
  pub on_object : ℕ → Name → List Val → ObjectCall M
  pub on_items : ℕ → Name → Name → List Val → ObjectCall M
  -- properties
  pub read : ℕ → Name → ObjectCall M
  pub write : ℕ → Name → Val → ObjectCall M
