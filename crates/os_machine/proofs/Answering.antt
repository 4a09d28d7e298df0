-- What an answer does is what follows it in the code.
use Rattle.std.proofs.Common.{◌≡◌, ℕ, pos, [], ◌∷◌, refl}
use Rattle.obj_kinds.specs.declared.op.Reply.{Reply}
use Rattle.obj_kinds.specs.declared.op.Reply.TheVariants as reply
use Rattle.os_kinds.specs.declared.val.Val.{Val}
use Rattle.os_kinds.specs.declared.call.Answer.{Answer}
use Rattle.os_kinds.specs.declared.call.Answer.TheVariants as answer
use Rattle.os_meaning.specs.Values.{text_value, number_value}
use Rattle.os_meaning.specs.Frames.{Frame, on_got, on_read, on_written, on_tried, on_reply, found, done, given_back, state, next, counted, begun, committed, undone}
use Rattle.os_meaning.specs.Expressions.{next_value}
use Rattle.os_code.specs.Machine.{Next, as_value, as_items}
use Rattle.os_machine.specs.Moves.{pushed, with_numbers}
use Rattle.os_machine.specs.Receiving.{Taken, takes_value, takes_subject, takes_own_subject, takes_written, takes_tried, takes_reply, found_by, state_by, next_by, counted_by, done_by, given_back_by, begun_by, committed_by, undone_by}
use Rattle.os_machine.specs.Leading.{at, goes_with}
use Rattle.os_machine.specs.declared.work.Work.{Work}

module _ (go : ℕ → Next) (w : Work) where
  -- a value goes on the stack
  abbrev put : Val → Frame
  put v = at (go 0) (pushed v w)

  pub value_taken : (line : ℕ) (a : Answer) → on_got line a put ≡ goes_with go (takes_value line a w)
  value_taken line (answer.Got v) = refl
  value_taken line (answer.Error e) = refl
  value_taken line answer.Items = refl
  value_taken line (answer.Reply r) = refl
  value_taken line answer.Done = refl

  pub subject_taken : (line : ℕ) (a : Answer) → on_read line a (λ v. at (go 0) (pushed v (with_numbers (as_value ∷ w.numbers) w))) (at (go 1) (with_numbers (as_items ∷ w.numbers) w)) ≡ goes_with go (takes_subject line a w)
  subject_taken line (answer.Got v) = refl
  subject_taken line (answer.Error e) = refl
  subject_taken line answer.Items = refl
  subject_taken line (answer.Reply r) = refl
  subject_taken line answer.Done = refl

  pub own_subject_taken : (line : ℕ) (a : Answer) → on_read line a (λ v. at (go 0) (pushed v (with_numbers (as_value ∷ w.numbers) w))) (at (go 0) (pushed (text_value []) (with_numbers (as_items ∷ w.numbers) w))) ≡ goes_with go (takes_own_subject line a w)
  own_subject_taken line (answer.Got v) = refl
  own_subject_taken line (answer.Error e) = refl
  own_subject_taken line answer.Items = refl
  own_subject_taken line (answer.Reply r) = refl
  own_subject_taken line answer.Done = refl

  pub written_taken : (line : ℕ) (a : Answer) → on_written line a (at (go 0) w) ≡ goes_with go (takes_written line a w)
  written_taken line (answer.Got v) = refl
  written_taken line (answer.Error e) = refl
  written_taken line answer.Items = refl
  written_taken line (answer.Reply r) = refl
  written_taken line answer.Done = refl

  pub tried_taken : (a : Answer) → on_tried a (at (go 0) w) ≡ goes_with go (takes_tried a w)
  tried_taken (answer.Got v) = refl
  tried_taken (answer.Error e) = refl
  tried_taken answer.Items = refl
  tried_taken (answer.Reply r) = refl
  tried_taken answer.Done = refl

  pub reply_taken : (f : Reply → Frame) (t : Reply → Taken) → ((r : Reply) → f r ≡ goes_with go (t r)) → (a : Answer) → on_reply a f ≡ goes_with go (takes_reply a t w)
  reply_taken f t h (answer.Got v) = refl
  reply_taken f t h (answer.Error e) = refl
  reply_taken f t h answer.Items = refl
  reply_taken f t h (answer.Reply r) = h r
  reply_taken f t h answer.Done = refl

  pub found_replied : (f : Frame) (t : Taken) → f ≡ goes_with go t → (r : Reply) → found r put f ≡ goes_with go (found_by r t w)
  found_replied f t h reply.Done = refl
  found_replied f t h (reply.Found v) = refl
  found_replied f t h reply.Absent = h
  found_replied f t h (reply.Next s) = refl
  found_replied f t h reply.NoNext = refl
  found_replied f t h (reply.State n) = refl
  found_replied f t h (reply.Number z) = refl
  found_replied f t h reply.Granted = refl
  found_replied f t h (reply.Held p n m) = refl
  found_replied f t h reply.NotHeld = refl
  found_replied f t h reply.NoTran = refl
  found_replied f t h reply.TooDeep = refl
  found_replied f t h reply.NumberLimit = refl

  pub state_replied : (r : Reply) → state r (λ n. put (number_value (pos n))) ≡ goes_with go (state_by r w)
  state_replied reply.Done = refl
  state_replied (reply.Found v) = refl
  state_replied reply.Absent = refl
  state_replied (reply.Next s) = refl
  state_replied reply.NoNext = refl
  state_replied (reply.State n) = refl
  state_replied (reply.Number z) = refl
  state_replied reply.Granted = refl
  state_replied (reply.Held p n m) = refl
  state_replied reply.NotHeld = refl
  state_replied reply.NoTran = refl
  state_replied reply.TooDeep = refl
  state_replied reply.NumberLimit = refl

  pub next_replied : (r : Reply) → next r (λ s. put (next_value s)) ≡ goes_with go (next_by r w)
  next_replied reply.Done = refl
  next_replied (reply.Found v) = refl
  next_replied reply.Absent = refl
  next_replied (reply.Next s) = refl
  next_replied reply.NoNext = refl
  next_replied (reply.State n) = refl
  next_replied (reply.Number z) = refl
  next_replied reply.Granted = refl
  next_replied (reply.Held p n m) = refl
  next_replied reply.NotHeld = refl
  next_replied reply.NoTran = refl
  next_replied reply.TooDeep = refl
  next_replied reply.NumberLimit = refl

  pub counted_replied : (line : ℕ) (r : Reply) → counted line r (λ z. put (number_value z)) ≡ goes_with go (counted_by line r w)
  counted_replied line reply.Done = refl
  counted_replied line (reply.Found v) = refl
  counted_replied line reply.Absent = refl
  counted_replied line (reply.Next s) = refl
  counted_replied line reply.NoNext = refl
  counted_replied line (reply.State n) = refl
  counted_replied line (reply.Number z) = refl
  counted_replied line reply.Granted = refl
  counted_replied line (reply.Held p n m) = refl
  counted_replied line reply.NotHeld = refl
  counted_replied line reply.NoTran = refl
  counted_replied line reply.TooDeep = refl
  counted_replied line reply.NumberLimit = refl

  pub done_replied : (r : Reply) → done r (at (go 0) w) ≡ goes_with go (done_by r w)
  done_replied reply.Done = refl
  done_replied (reply.Found v) = refl
  done_replied reply.Absent = refl
  done_replied (reply.Next s) = refl
  done_replied reply.NoNext = refl
  done_replied (reply.State n) = refl
  done_replied (reply.Number z) = refl
  done_replied reply.Granted = refl
  done_replied (reply.Held p n m) = refl
  done_replied reply.NotHeld = refl
  done_replied reply.NoTran = refl
  done_replied reply.TooDeep = refl
  done_replied reply.NumberLimit = refl

  pub given_back_replied : (r : Reply) → given_back r (at (go 0) w) ≡ goes_with go (given_back_by r w)
  given_back_replied reply.Done = refl
  given_back_replied (reply.Found v) = refl
  given_back_replied reply.Absent = refl
  given_back_replied (reply.Next s) = refl
  given_back_replied reply.NoNext = refl
  given_back_replied (reply.State n) = refl
  given_back_replied (reply.Number z) = refl
  given_back_replied reply.Granted = refl
  given_back_replied (reply.Held p n m) = refl
  given_back_replied reply.NotHeld = refl
  given_back_replied reply.NoTran = refl
  given_back_replied reply.TooDeep = refl
  given_back_replied reply.NumberLimit = refl

  pub begun_replied : (line : ℕ) (r : Reply) → begun line r (at (go 0) w) ≡ goes_with go (begun_by line r w)
  begun_replied line reply.Done = refl
  begun_replied line (reply.Found v) = refl
  begun_replied line reply.Absent = refl
  begun_replied line (reply.Next s) = refl
  begun_replied line reply.NoNext = refl
  begun_replied line (reply.State n) = refl
  begun_replied line (reply.Number z) = refl
  begun_replied line reply.Granted = refl
  begun_replied line (reply.Held p n m) = refl
  begun_replied line reply.NotHeld = refl
  begun_replied line reply.NoTran = refl
  begun_replied line reply.TooDeep = refl
  begun_replied line reply.NumberLimit = refl

  pub committed_replied : (line : ℕ) (r : Reply) → committed line r (at (go 0) w) ≡ goes_with go (committed_by line r w)
  committed_replied line reply.Done = refl
  committed_replied line (reply.Found v) = refl
  committed_replied line reply.Absent = refl
  committed_replied line (reply.Next s) = refl
  committed_replied line reply.NoNext = refl
  committed_replied line (reply.State n) = refl
  committed_replied line (reply.Number z) = refl
  committed_replied line reply.Granted = refl
  committed_replied line (reply.Held p n m) = refl
  committed_replied line reply.NotHeld = refl
  committed_replied line reply.NoTran = refl
  committed_replied line reply.TooDeep = refl
  committed_replied line reply.NumberLimit = refl

  pub undone_replied : (r : Reply) → undone r (at (go 0) w) ≡ goes_with go (undone_by r w)
  undone_replied reply.Done = refl
  undone_replied (reply.Found v) = refl
  undone_replied reply.Absent = refl
  undone_replied (reply.Next s) = refl
  undone_replied reply.NoNext = refl
  undone_replied (reply.State n) = refl
  undone_replied (reply.Number z) = refl
  undone_replied reply.Granted = refl
  undone_replied (reply.Held p n m) = refl
  undone_replied reply.NotHeld = refl
  undone_replied reply.NoTran = refl
  undone_replied reply.TooDeep = refl
  undone_replied reply.NumberLimit = refl
