-- How a call of an object ends: what is known then, and what is answered.
use Rattle.std.specs.Prelude.{ℕ, zero, suc, pos, List, [], ◌++◌, codes, Option, None, Some}
use Rattle.obj_kinds.specs.declared.name.ClassName.{ClassName}
use Rattle.obj_kinds.specs.declared.error_name.ErrorName.{ErrorName}
use Rattle.obj_kinds.specs.declared.cause.Cause.{Cause}
use Rattle.obj_kinds.specs.Causes.{cause_text}
use Rattle.os_kinds.specs.declared.val.Val.{Val}
use Rattle.os_kinds.specs.declared.val.Val.TheVariants.{Ref}
use Rattle.os_kinds.specs.declared.call.Answer.{Answer}
use Rattle.os_kinds.specs.declared.call.Answer.TheVariants as answer
use Rattle.os_meaning.specs.Values.{text_value, number_value}
use Rattle.oref_table.specs.Memory.{Memory}
use Rattle.store_calls.specs.Calls.{Call, Give, bind, Tried, Got, Lost}
use Rattle.object_calls.specs.Asking.{timed}
use Rattle.host_meaning.specs.Objects.{Known}
use Rattle.object_members.specs.Seeing.{class_at}

-- ---- what is known

abbrev pub with_memory : Memory → Known Memory → Known Memory
with_memory m s = record s { memory = m }

abbrev pub with_error : List ℕ → Known Memory → Known Memory
with_error text s = record s { last_error = text }

-- a failure is told by its status
abbrev pub status_text : Cause → List ℕ
status_text x = codes "0 " ++ cause_text x

-- a call that succeeds forgets the last failure, where it asked an operation
abbrev pub succeeded : ℕ → Known Memory → Known Memory
succeeded zero s = s
succeeded (suc asked) s = with_error [] s

-- ---- what is answered

abbrev pub nothing : Val
nothing = text_value []

-- a status of success, and the answer of what writes to a collection
abbrev pub yes : Val
yes = number_value (pos 1)

abbrev pub no : Val
no = number_value (pos 0)

abbrev pub ref_by : ℕ → Option ClassName → Val
ref_by n None = nothing
ref_by n (Some class) = Ref n class

-- the object of a number
abbrev pub ref_at : Memory → ℕ → Val
ref_at m n = ref_by n (class_at m n)

-- nothing is asked
abbrev pub answers : Known Memory → Val → Call (Known Memory × Answer)
answers s v = Give (s, answer.Got v)

abbrev pub errs : Known Memory → ErrorName → Call (Known Memory × Answer)
errs s e = Give (s, answer.Error e)

-- the end of a call that asked so many operations
abbrev pub ended : {A : Type 0} → Known Memory → (Memory → A → Memory × Val) → (Cause → Val) → (Memory × Tried A) × ℕ → Known Memory × Answer
ended s good bad ((m, Got a), asked) = (with_memory (good m a).0 (succeeded asked s), answer.Got (good m a).1)
ended s good bad ((m, Lost x), asked) = (with_error (status_text x) (with_memory m s), answer.Got (bad x))

abbrev pub answered_by : {A : Type 0} → Known Memory → (Memory → A → Memory × Val) → (Cause → Val) → Call (Memory × Tried A) → Call (Known Memory × Answer)
answered_by s good bad c = bind (timed c) (λ x. Give (ended s good bad x))

-- an object, or the empty text where there is none
abbrev pub opens : Known Memory → Call (Memory × Tried ℕ) → Call (Known Memory × Answer)
opens s c = answered_by s (λ m n. (m, ref_at m n)) (λ x. nothing) c

-- a status
abbrev pub stores : Known Memory → Call (Memory × Tried (Unit {0})) → Call (Known Memory × Answer)
stores s c = answered_by s (λ m _. (m, yes)) (λ x. text_value (status_text x)) c

-- a text, the empty one where it fails
abbrev pub tells : Known Memory → Call (Memory × Tried (List ℕ)) → Call (Known Memory × Answer)
tells s c = answered_by s (λ m text. (m, text_value text)) (λ x. nothing) c
