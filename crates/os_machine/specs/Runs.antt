-- What is said of a machine: the frame that it runs, what an answer leaves, and the places of objects in it.
use Rattle.std.specs.Prelude.{◌≡◌, ℕ, ◌+◌, Bool, true, false, Option, Some, None}
use Rattle.os_kinds.specs.declared.val.Val.{Val}
use Rattle.os_kinds.specs.declared.val.Val.TheVariants.{Data, Ref}
use Rattle.os_kinds.specs.declared.call.Answer.{Answer}
use Rattle.os_kinds.specs.declared.call.Event.{Event}
use Rattle.os_kinds.specs.declared.call.Event.TheVariants as event
use Rattle.os_kinds.specs.declared.call.ScriptEnd.TheVariants as end
use Rattle.os_meaning.specs.Frames.{Ends, Prints, Holds, Loses, Points, Asks, fails, misfit}
use Rattle.os_meaning.specs.Accounts.{one_of, count}
use Rattle.os_machine.specs.Moves.{event_of}
use Rattle.os_machine.specs.States.{Left, behind, Quiets, IsOut, frame_at, frame_with}
use Rattle.os_machine.specs.Places.{places_at}
use Rattle.os_machine.specs.declared.stepped.Awaits.{Awaits}
use Rattle.os_machine.specs.declared.local.Told.{Told}
use Rattle.os_machine.specs.declared.local.Told.TheVariants as told
use Rattle.os_machine.specs.declared.machine.Phase.{Phase}
use Rattle.os_machine.specs.declared.machine.Phase.TheVariants as phase
use Rattle.os_machine.specs.declared.machine.Machine.{Machine}

abbrev pub left_by : Phase → Left → Left
left_by phase.Runs f n = f n
left_by (phase.Waits awaits) f n = misfit
left_by (phase.Done v) f n = Ends (end.Done v)
left_by (phase.Fails e line) f n = fails line e
left_by phase.Halts f n = misfit

-- what is left of the frame, for each number of units; where the machine waits, the answer says it
unfoldable pub running : Machine → Left
running m = left_by m.phase (behind m.owed (frame_at m.code.now m.local))

abbrev pub awaited_by : Phase → (Awaits → Left) → Left
awaited_by (phase.Waits awaits) f = f awaits
awaited_by _ f = λ n. misfit

-- what is left of the frame where a machine that waits is given this answer
unfoldable pub awaited : Machine → Answer → Left
awaited m a = awaited_by m.phase (λ awaits. frame_with m.code.now m.local awaits a)

abbrev pub waits_in : Phase → Bool
waits_in (phase.Waits awaits) = true
waits_in _ = false

-- whether it has asked, and waits for the answer
abbrev pub is_waiting : Machine → Bool
is_waiting m = waits_in m.phase

abbrev pub is_need : Event → Bool
is_need (event.Need c) = true
is_need _ = false

-- What is seen of a frame where `before` units have become `after`: the old frame is, behind the units that were taken, this event
-- and then what the machine has left. Out of fuel is where one unit more than there are would be taken.
abbrev pub Sees : Event → ℕ → ℕ → Left → Machine → Type 0
Sees (event.Need c) before after old new = Quiets before after old (λ n. Asks c (λ a. awaited new a n))
Sees (event.Print t) before after old new = Quiets before after old (λ n. Prints t (running new n))
Sees (event.More o) before after old new = Quiets before after old (λ n. Holds o (running new n))
Sees (event.Less o) before after old new = Quiets before after old (λ n. Loses o (running new n))
Sees event.Point before after old new = Quiets before after old (λ n. Points (running new n))
Sees (event.Finished end.Fuel) before after old new = IsOut before after old
Sees (event.Finished e) before after old new = Quiets before after old (λ n. Ends e)

-- ---- places of objects

abbrev pub places_of : ℕ → Phase → ℕ
places_of o (phase.Done v) = count o v
places_of o _ = 0

-- each place of the object once: as the object whose method runs, among the values in progress, among the variables, and as the value
-- that the frame ends with
abbrev pub places : ℕ → Machine → ℕ
places o m = places_at o m.local + places_of o m.phase

-- an event adds a place or takes one, and the end hands its value on
abbrev pub CountsEvent : Event → ℕ → ℕ → ℕ → Type 0
CountsEvent (event.More number) o old new = new ≡ old + one_of o number
CountsEvent (event.Less number) o old new = old ≡ new + one_of o number
CountsEvent (event.Finished (end.Done v)) o old new = old ≡ new + count o v
CountsEvent _ o old new = new ≡ old

-- ---- what is told

abbrev pub left_with : Option Val → Val → Machine → Event × Machine
left_with None v m = (event.Finished (end.Done v), record m { local = record m.local { this = None } })
left_with (Some (Data d)) v m = (event.Finished (end.Done v), record m { local = record m.local { this = None } })
left_with (Some (Ref number class)) v m = (event.Less number, record m { local = record m.local { this = None }; phase = phase.Done v })

-- the event of what was told, and the machine behind it
abbrev pub announced : Told → Machine → Event × Machine
announced (told.Shows s) m = (event_of s, record m { phase = phase.Runs })
announced (told.Asks c awaits) m = (event.Need c, record m { phase = phase.Waits awaits })
announced (told.Leaves v) m = left_with m.local.this v m
announced (told.Fails e line) m = (event.Finished (end.Error e line), m)
announced told.Halts m = (event.Finished end.Halt, m)
announced told.Fuel m = (event.Finished end.Fuel, m)
