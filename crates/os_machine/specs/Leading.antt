-- What a move shows of a frame, and what follows it.
use Rattle.std.specs.Prelude.{◌≡◌, ℕ, Option}
use Rattle.os_kinds.specs.declared.val.Val.{Val}
use Rattle.os_kinds.specs.declared.call.ScriptEnd.TheVariants as end
use Rattle.os_meaning.specs.Frames.{Frame, Ends, Prints, Holds, Loses, Points, Asks, fails, misfit, loses_some}
use Rattle.os_code.specs.Machine.{Next}
use Rattle.os_machine.specs.Moves.{Moved}
use Rattle.os_machine.specs.Receiving.{Taken, takes}
use Rattle.os_machine.specs.declared.stepped.Sight.{Sight}
use Rattle.os_machine.specs.declared.stepped.Sight.TheVariants as sight
use Rattle.os_machine.specs.declared.stepped.Stepped.{Stepped}
use Rattle.os_machine.specs.declared.stepped.Stepped.TheVariants as step
use Rattle.os_machine.specs.declared.stepped.Received.{Received}
use Rattle.os_machine.specs.declared.stepped.Received.TheVariants as got
use Rattle.os_machine.specs.declared.work.Work.{Work}

-- a frame that shows something first
abbrev pub showing : Sight → Frame → Frame
showing (sight.Print t) f = Prints t f
showing (sight.More o) f = Holds o f
showing (sight.Less o) f = Loses o f
showing sight.Point f = Points f

abbrev pub at : Next → Work → Frame
at next w = next w.stack w.numbers w.vars

abbrev pub goes_by : (ℕ → Next) → Received → Work → Frame
goes_by go (got.Goes over) w = at (go over) w
goes_by go (got.Fails e line) w = fails line e
goes_by go got.Halts w = misfit

-- what follows an answer, where `go` is what follows so many instructions
abbrev pub goes_with : (ℕ → Next) → Taken → Frame
goes_with go t = goes_by go t.0 t.1

-- What a step says of the frame `f` before it. `go` is what follows so many instructions, `spend` takes a unit and goes on, `again`
-- takes a unit and goes back; `same` is what the instruction does from then on.
module _ (this : Option Val) (go : ℕ → Next) (spend : Next) (again : ℕ → Next) where
  abbrev pub LeadsBy : Stepped → Work → Frame → Frame → Type 0
  LeadsBy (step.Goes over) w f same = f ≡ at (go over) w
  LeadsBy (step.Shows s over) w f same = f ≡ showing s (at (go over) w)
  LeadsBy (step.Stays s) w f same = f ≡ showing s same
  LeadsBy (step.Asks c awaits) w f same = f ≡ Asks c (λ a. goes_with go (takes awaits a w))
  LeadsBy (step.Leaves v) w f same = f ≡ loses_some this (Ends (end.Done v))
  LeadsBy step.Spends w f same = f ≡ at spend w
  LeadsBy (step.Returns back) w f same = f ≡ at (again back) w
  LeadsBy (step.Fails e line) w f same = f ≡ fails line e
  LeadsBy step.Halts w f same = f ≡ misfit

  abbrev pub Leads : Frame → Frame → Moved → Type 0
  Leads f same m = LeadsBy m.0 m.1 f same
