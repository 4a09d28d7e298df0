-- What an answer does: to the values in progress and the numbers that are kept, and where the code goes on.
use Rattle.std.specs.Prelude.{ℕ, pos, [], ◌∷◌, Some, None}
use Rattle.obj_kinds.specs.declared.op.Reply.{Reply}
use Rattle.obj_kinds.specs.declared.op.Reply.TheVariants as reply
use Rattle.obj_kinds.specs.declared.error_name.ErrorName.TheVariants as error
use Rattle.os_kinds.specs.declared.val.Val.{Val}
use Rattle.os_kinds.specs.declared.val.Val.TheVariants.{Data}
use Rattle.os_kinds.specs.declared.call.Answer.{Answer}
use Rattle.os_kinds.specs.declared.call.Answer.TheVariants as answer
use Rattle.os_meaning.specs.Values.{text_value, number_value}
use Rattle.os_meaning.specs.Expressions.{next_value}
use Rattle.os_code.specs.Machine.{as_value, as_items}
use Rattle.os_machine.specs.Moves.{pushed, with_numbers}
use Rattle.os_machine.specs.declared.stepped.Wanted.{Wanted}
use Rattle.os_machine.specs.declared.stepped.Wanted.TheVariants as want
use Rattle.os_machine.specs.declared.stepped.Awaits.{Awaits}
use Rattle.os_machine.specs.declared.stepped.Awaits.TheVariants as awaits
use Rattle.os_machine.specs.declared.stepped.Received.{Received}
use Rattle.os_machine.specs.declared.stepped.Received.TheVariants as got
use Rattle.os_machine.specs.declared.work.Work.{Work}

abbrev pub Taken : Type 0
Taken = Received × Work

abbrev pub goes_on : Work → Taken
goes_on w = (got.Goes 0, w)

abbrev pub puts_value : Val → Work → Taken
puts_value v w = (got.Goes 0, pushed v w)

abbrev pub misfits : Work → Taken
misfits w = (got.Halts, w)

-- an answer that doesn't fit; a value that it brings stays in the machine
abbrev pub unfit : Answer → Work → Taken
unfit (answer.Got v) w = (got.Halts, pushed v w)
unfit _ w = misfits w

abbrev pub takes_value : ℕ → Answer → Work → Taken
takes_value line (answer.Got v) w = puts_value v w
takes_value line (answer.Error e) w = (got.Fails e line, w)
takes_value line answer.Items w = (got.Fails error.InvalidOref line, w)
takes_value line a w = unfit a w

abbrev pub takes_subject : ℕ → Answer → Work → Taken
takes_subject line (answer.Got v) w = puts_value v (with_numbers (as_value ∷ w.numbers) w)
takes_subject line answer.Items w = (got.Goes 1, with_numbers (as_items ∷ w.numbers) w)
takes_subject line a w = takes_value line a w

abbrev pub takes_own_subject : ℕ → Answer → Work → Taken
takes_own_subject line answer.Items w = puts_value (text_value []) (with_numbers (as_items ∷ w.numbers) w)
takes_own_subject line a w = takes_subject line a w

abbrev pub takes_written : ℕ → Answer → Work → Taken
takes_written line answer.Done w = goes_on w
takes_written line (answer.Error e) w = (got.Fails e line, w)
takes_written line a w = unfit a w

abbrev pub takes_tried : Answer → Work → Taken
takes_tried answer.Done w = goes_on w
takes_tried a w = unfit a w

abbrev pub takes_reply : Answer → (Reply → Taken) → Work → Taken
takes_reply (answer.Reply r) go w = go r
takes_reply a go w = unfit a w

-- ---- replies of the store

abbrev pub found_by : Reply → Taken → Work → Taken
found_by (reply.Found v) absent w = puts_value (Data v) w
found_by reply.Absent absent w = absent
found_by _ absent w = misfits w

abbrev pub state_by : Reply → Work → Taken
state_by (reply.State n) w = puts_value (number_value (pos n)) w
state_by _ w = misfits w

abbrev pub next_by : Reply → Work → Taken
next_by (reply.Next s) w = puts_value (next_value (Some s)) w
next_by reply.NoNext w = puts_value (next_value None) w
next_by _ w = misfits w

abbrev pub counted_by : ℕ → Reply → Work → Taken
counted_by line (reply.Number z) w = puts_value (number_value z) w
counted_by line reply.NumberLimit w = (got.Fails error.MaxNumber line, w)
counted_by line _ w = misfits w

abbrev pub done_by : Reply → Work → Taken
done_by reply.Done w = goes_on w
done_by _ w = misfits w

abbrev pub given_back_by : Reply → Work → Taken
given_back_by reply.NotHeld w = goes_on w
given_back_by r w = done_by r w

abbrev pub begun_by : ℕ → Reply → Work → Taken
begun_by line (reply.Number level) w = goes_on w
begun_by line reply.TooDeep w = (got.Fails error.TransactionLevel line, w)
begun_by line _ w = misfits w

abbrev pub committed_by : ℕ → Reply → Work → Taken
committed_by line (reply.Number level) w = goes_on w
committed_by line reply.NoTran w = (got.Fails error.Command line, w)
committed_by line _ w = misfits w

abbrev pub undone_by : Reply → Work → Taken
undone_by (reply.Number level) w = goes_on w
undone_by reply.NoTran w = goes_on w
undone_by _ w = misfits w

abbrev pub replies : Wanted → Reply → Work → Taken
replies (want.Found line) r w = found_by r (got.Fails error.Undefined line, w) w
replies want.FoundOrEmpty r w = found_by r (puts_value (text_value []) w) w
replies want.FoundOrSkip r w = found_by r (got.Goes 1, w) w
replies want.State r w = state_by r w
replies want.Next r w = next_by r w
replies (want.Counted line) r w = counted_by line r w
replies want.Done r w = done_by r w
replies want.GivenBack r w = given_back_by r w
replies (want.Begun line) r w = begun_by line r w
replies (want.Committed line) r w = committed_by line r w
replies want.Undone r w = undone_by r w

abbrev pub takes : Awaits → Answer → Work → Taken
takes (awaits.Value line) a w = takes_value line a w
takes (awaits.Subject line) a w = takes_subject line a w
takes (awaits.OwnSubject line) a w = takes_own_subject line a w
takes (awaits.Written line) a w = takes_written line a w
takes awaits.Tried a w = takes_tried a w
takes (awaits.Reply want) a w = takes_reply a (λ r. replies want r w) w
