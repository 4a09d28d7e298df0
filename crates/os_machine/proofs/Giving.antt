-- The places of an object behind an answer.
use Rattle.std.proofs.Common.{◌≡◌, ℕ, ◌+◌, [], refl, arith}
use Rattle.obj_kinds.specs.declared.sub.Sub.TheVariants.{Num, Str as TextSub}
use Rattle.obj_kinds.specs.declared.op.Reply.{Reply}
use Rattle.obj_kinds.specs.declared.op.Reply.TheVariants as reply
use Rattle.os_kinds.specs.declared.call.Answer.{Answer}
use Rattle.os_kinds.specs.declared.call.Answer.TheVariants as answer
use Rattle.os_meaning.specs.Values.{text_value}
use Rattle.os_meaning.specs.Accounts.{given}
use Rattle.os_machine.specs.Places.{places_in}
use Rattle.os_machine.specs.Receiving.{Taken, takes, puts_value, replies, found_by, state_by, next_by, counted_by, done_by, given_back_by, begun_by, committed_by, undone_by}
use Rattle.os_machine.specs.declared.stepped.Wanted.{Wanted}
use Rattle.os_machine.specs.declared.stepped.Wanted.TheVariants as want
use Rattle.os_machine.specs.declared.stepped.Awaits.{Awaits}
use Rattle.os_machine.specs.declared.stepped.Awaits.TheVariants as awaits
use Rattle.os_machine.specs.declared.work.Work.{Work}

module _ (o : ℕ) (w : Work) where
  -- nothing is added to the places
  abbrev Same : Taken → Type 0
  Same t = places_in o t.1 ≡ places_in o w

  -- the places of the answer are added
  abbrev Gives : Answer → Taken → Type 0
  Gives a t = places_in o t.1 ≡ places_in o w + given o a

  found_same : (t : Taken) → Same t → (r : Reply) → Same (found_by r t w)
  found_same t h reply.Done = refl
  found_same t h (reply.Found v) = omega arith
  found_same t h reply.Absent = h
  found_same t h (reply.Next s) = refl
  found_same t h reply.NoNext = refl
  found_same t h (reply.State n) = refl
  found_same t h (reply.Number z) = refl
  found_same t h reply.Granted = refl
  found_same t h (reply.Held p n m) = refl
  found_same t h reply.NotHeld = refl
  found_same t h reply.NoTran = refl
  found_same t h reply.TooDeep = refl
  found_same t h reply.NumberLimit = refl

  state_same : (r : Reply) → Same (state_by r w)
  state_same reply.Done = refl
  state_same (reply.Found v) = refl
  state_same reply.Absent = refl
  state_same (reply.Next s) = refl
  state_same reply.NoNext = refl
  state_same (reply.State n) = omega arith
  state_same (reply.Number z) = refl
  state_same reply.Granted = refl
  state_same (reply.Held p n m) = refl
  state_same reply.NotHeld = refl
  state_same reply.NoTran = refl
  state_same reply.TooDeep = refl
  state_same reply.NumberLimit = refl

  next_same : (r : Reply) → Same (next_by r w)
  next_same reply.Done = refl
  next_same (reply.Found v) = refl
  next_same reply.Absent = refl
  next_same (reply.Next (Num z)) = omega arith
  next_same (reply.Next (TextSub t)) = omega arith
  next_same reply.NoNext = omega arith
  next_same (reply.State n) = refl
  next_same (reply.Number z) = refl
  next_same reply.Granted = refl
  next_same (reply.Held p n m) = refl
  next_same reply.NotHeld = refl
  next_same reply.NoTran = refl
  next_same reply.TooDeep = refl
  next_same reply.NumberLimit = refl

  counted_same : (line : ℕ) (r : Reply) → Same (counted_by line r w)
  counted_same line reply.Done = refl
  counted_same line (reply.Found v) = refl
  counted_same line reply.Absent = refl
  counted_same line (reply.Next s) = refl
  counted_same line reply.NoNext = refl
  counted_same line (reply.State n) = refl
  counted_same line (reply.Number z) = omega arith
  counted_same line reply.Granted = refl
  counted_same line (reply.Held p n m) = refl
  counted_same line reply.NotHeld = refl
  counted_same line reply.NoTran = refl
  counted_same line reply.TooDeep = refl
  counted_same line reply.NumberLimit = refl

  done_same : (r : Reply) → Same (done_by r w)
  done_same reply.Done = refl
  done_same (reply.Found v) = refl
  done_same reply.Absent = refl
  done_same (reply.Next s) = refl
  done_same reply.NoNext = refl
  done_same (reply.State n) = refl
  done_same (reply.Number z) = refl
  done_same reply.Granted = refl
  done_same (reply.Held p n m) = refl
  done_same reply.NotHeld = refl
  done_same reply.NoTran = refl
  done_same reply.TooDeep = refl
  done_same reply.NumberLimit = refl

  given_back_same : (r : Reply) → Same (given_back_by r w)
  given_back_same reply.Done = refl
  given_back_same (reply.Found v) = refl
  given_back_same reply.Absent = refl
  given_back_same (reply.Next s) = refl
  given_back_same reply.NoNext = refl
  given_back_same (reply.State n) = refl
  given_back_same (reply.Number z) = refl
  given_back_same reply.Granted = refl
  given_back_same (reply.Held p n m) = refl
  given_back_same reply.NotHeld = refl
  given_back_same reply.NoTran = refl
  given_back_same reply.TooDeep = refl
  given_back_same reply.NumberLimit = refl

  begun_same : (line : ℕ) (r : Reply) → Same (begun_by line r w)
  begun_same line reply.Done = refl
  begun_same line (reply.Found v) = refl
  begun_same line reply.Absent = refl
  begun_same line (reply.Next s) = refl
  begun_same line reply.NoNext = refl
  begun_same line (reply.State n) = refl
  begun_same line (reply.Number z) = refl
  begun_same line reply.Granted = refl
  begun_same line (reply.Held p n m) = refl
  begun_same line reply.NotHeld = refl
  begun_same line reply.NoTran = refl
  begun_same line reply.TooDeep = refl
  begun_same line reply.NumberLimit = refl

  committed_same : (line : ℕ) (r : Reply) → Same (committed_by line r w)
  committed_same line reply.Done = refl
  committed_same line (reply.Found v) = refl
  committed_same line reply.Absent = refl
  committed_same line (reply.Next s) = refl
  committed_same line reply.NoNext = refl
  committed_same line (reply.State n) = refl
  committed_same line (reply.Number z) = refl
  committed_same line reply.Granted = refl
  committed_same line (reply.Held p n m) = refl
  committed_same line reply.NotHeld = refl
  committed_same line reply.NoTran = refl
  committed_same line reply.TooDeep = refl
  committed_same line reply.NumberLimit = refl

  undone_same : (r : Reply) → Same (undone_by r w)
  undone_same reply.Done = refl
  undone_same (reply.Found v) = refl
  undone_same reply.Absent = refl
  undone_same (reply.Next s) = refl
  undone_same reply.NoNext = refl
  undone_same (reply.State n) = refl
  undone_same (reply.Number z) = refl
  undone_same reply.Granted = refl
  undone_same (reply.Held p n m) = refl
  undone_same reply.NotHeld = refl
  undone_same reply.NoTran = refl
  undone_same reply.TooDeep = refl
  undone_same reply.NumberLimit = refl

  replies_same : (x : Wanted) (r : Reply) → Same (replies x r w)
  replies_same (want.Found line) r = found_same _ refl r
  replies_same want.FoundOrEmpty r = found_same (puts_value (text_value []) w) (omega arith) r
  replies_same want.FoundOrSkip r = found_same _ refl r
  replies_same want.State r = state_same r
  replies_same want.Next r = next_same r
  replies_same (want.Counted line) r = counted_same line r
  replies_same want.Done r = done_same r
  replies_same want.GivenBack r = given_back_same r
  replies_same (want.Begun line) r = begun_same line r
  replies_same (want.Committed line) r = committed_same line r
  replies_same want.Undone r = undone_same r

  pub takes_given : (x : Awaits) (a : Answer) → Gives a (takes x a w)
  takes_given (awaits.Value line) (answer.Reply r) = omega arith
  takes_given (awaits.Value line) (answer.Got v) = omega arith
  takes_given (awaits.Value line) answer.Items = omega arith
  takes_given (awaits.Value line) answer.Done = omega arith
  takes_given (awaits.Value line) (answer.Error e) = omega arith
  takes_given (awaits.Subject line) (answer.Reply r) = omega arith
  takes_given (awaits.Subject line) (answer.Got v) = omega arith
  takes_given (awaits.Subject line) answer.Items = omega arith
  takes_given (awaits.Subject line) answer.Done = omega arith
  takes_given (awaits.Subject line) (answer.Error e) = omega arith
  takes_given (awaits.OwnSubject line) (answer.Reply r) = omega arith
  takes_given (awaits.OwnSubject line) (answer.Got v) = omega arith
  takes_given (awaits.OwnSubject line) answer.Items = omega arith
  takes_given (awaits.OwnSubject line) answer.Done = omega arith
  takes_given (awaits.OwnSubject line) (answer.Error e) = omega arith
  takes_given (awaits.Written line) (answer.Reply r) = omega arith
  takes_given (awaits.Written line) (answer.Got v) = omega arith
  takes_given (awaits.Written line) answer.Items = omega arith
  takes_given (awaits.Written line) answer.Done = omega arith
  takes_given (awaits.Written line) (answer.Error e) = omega arith
  takes_given awaits.Tried (answer.Reply r) = omega arith
  takes_given awaits.Tried (answer.Got v) = omega arith
  takes_given awaits.Tried answer.Items = omega arith
  takes_given awaits.Tried answer.Done = omega arith
  takes_given awaits.Tried (answer.Error e) = omega arith
  takes_given (awaits.Reply x) (answer.Reply r) = omega (arith, replies_same x r)
  takes_given (awaits.Reply x) (answer.Got v) = omega arith
  takes_given (awaits.Reply x) answer.Items = omega arith
  takes_given (awaits.Reply x) answer.Done = omega arith
  takes_given (awaits.Reply x) (answer.Error e) = omega arith
