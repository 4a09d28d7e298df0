-- What stands after an event, and after an answer.
use Rattle.std.proofs.Common.{◌≡◌, ℕ, ◌+◌, ◌≤◌, true, false, List, [], Result, Ok, Err, IfOk, refl, sym, ap, ◌∙◌, subst, arith}
use Rattle.os_kinds.specs.declared.call.Answer.{Answer}
use Rattle.os_kinds.specs.declared.call.Event.{Event}
use Rattle.os_kinds.specs.declared.call.Event.TheVariants as event
use Rattle.os_kinds.specs.declared.call.ScriptEnd.TheVariants as end
use Rattle.os_meaning.specs.Accounts.{count, one_of, given}
use Rattle.os_machine.specs.Runs.{running, awaited, is_waiting, is_need, Sees, CountsEvent, places}
use Rattle.os_machine.specs.declared.machine.Machine.{Machine}
use Rattle.frame_stack.specs.declared.stack.Stack.{Stack}
use Rattle.frame_stack.specs.Stacks.{with_machine, callers, IsReady, IsAsked, StandsAfter, all_places, places_below}
use Rattle.frame_stack.proofs.Steady.{same_steady, print_steady, more_steady, less_steady, point_steady, need_steady}

pub stands : (e : Event) (before after : ℕ) (old : Stack) (m : Machine) → IsReady old → Sees e before after (running old.top.machine) m → is_waiting m ≡ is_need e → StandsAfter e (with_machine m old)
stands (event.Need c) before after old m ready sees waits = ((waits, need_steady (running old.top.machine) ready.0.1 before after m c sees), ready.1)
stands (event.Print t) before after old m ready sees waits = ((waits, print_steady (running old.top.machine) ready.0.1 before after m t sees), ready.1)
stands (event.More o) before after old m ready sees waits = ((waits, more_steady (running old.top.machine) ready.0.1 before after m o sees), ready.1)
stands (event.Less o) before after old m ready sees waits = ((waits, less_steady (running old.top.machine) ready.0.1 before after m o sees), ready.1)
stands event.Point before after old m ready sees waits = ((waits, point_steady (running old.top.machine) ready.0.1 before after m sees), ready.1)
stands (event.Finished e) before after old m ready sees waits = ready.1

pub if_stands : {E : Type 0} (r : Result Event E) (before after : ℕ) (old : Stack) (m : Machine) → IsReady old
    → IfOk r (λ e. Sees e before after (running old.top.machine) m) → IfOk r (λ e. is_waiting m ≡ is_need e) → IfOk r (λ e. StandsAfter e (with_machine m old))
if_stands (Ok e) before after old m ready sees waits = stands e before after old m ready sees waits
if_stands (Err x) before after old m ready sees waits = tt

pub fewer : (e : Event) (before after : ℕ) (old new : Machine) → Sees e before after (running old) new → after ≤ before
fewer (event.Need c) before after old new sees = omega (arith, sees.1)
fewer (event.Print t) before after old new sees = omega (arith, sees.1)
fewer (event.More o) before after old new sees = omega (arith, sees.1)
fewer (event.Less o) before after old new sees = omega (arith, sees.1)
fewer event.Point before after old new sees = omega (arith, sees.1)
fewer (event.Finished (end.Done v)) before after old new sees = omega (arith, sees.1)
fewer (event.Finished end.Halt) before after old new sees = omega (arith, sees.1)
fewer (event.Finished (end.Error name line)) before after old new sees = omega (arith, sees.1)
fewer (event.Finished end.Fuel) before after old new sees = omega (arith, sees.0)

-- a machine that has left what it had
pub still_ready : (old : Stack) (m : Machine) → IsReady old → ((n : ℕ) → running m n ≡ running old.top.machine n) → is_waiting m ≡ false → IsReady (with_machine m old)
still_ready old m ready same waits = ((waits, same_steady (running m) (running old.top.machine) same ready.0.1), ready.1)

pub answered_ready : (a : Answer) (old : Stack) (m : Machine) → IsAsked old → ((n : ℕ) → running m n ≡ awaited old.top.machine a n) → is_waiting m ≡ false → IsReady (with_machine m old)
answered_ready a old m asked same waits = ((waits, same_steady (running m) (awaited old.top.machine a) same (asked.0.1 a)), asked.1)

-- the frames below have their places
pub counts : (e : Event) (o old new below : ℕ) → CountsEvent e o old new → CountsEvent e o (old + below) (new + below)
counts (event.More number) o old new below c = omega (arith, c)
counts (event.Less number) o old new below c = omega (arith, c)
counts (event.Finished (end.Done v)) o old new below c = omega (arith, c)
counts (event.Finished end.Halt) o old new below c = ap (λ n. n + below) c
counts (event.Finished (end.Error name line)) o old new below c = ap (λ n. n + below) c
counts (event.Finished end.Fuel) o old new below c = ap (λ n. n + below) c
counts (event.Need call) o old new below c = ap (λ n. n + below) c
counts (event.Print t) o old new below c = ap (λ n. n + below) c
counts event.Point o old new below c = ap (λ n. n + below) c
