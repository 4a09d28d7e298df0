-- A machine over its frame.
use Rattle.std.proofs.Common.{◌≡◌, ℕ, ◌+◌, ◌-◌, ◌≤◌, false, drop, length, min, Option, Some, None, refl, sym, ap, ◌∙◌, subst, arith}
use std.Path.{fun_ext}
use Rattle.obj_kinds.specs.declared.error_name.ErrorName.{ErrorName}
use Rattle.os_kinds.specs.declared.val.Val.{Val}
use Rattle.os_kinds.specs.declared.val.Val.TheVariants.{Data, Ref}
use Rattle.os_kinds.specs.declared.call.Answer.{Answer}
use Rattle.os_kinds.specs.declared.call.Event.{Event}
use Rattle.os_kinds.specs.declared.call.Event.TheVariants as event
use Rattle.os_kinds.specs.declared.call.ScriptEnd.TheVariants as end
use Rattle.os_meaning.specs.Frames.{Ends, loses_some}
use Rattle.os_meaning.specs.Accounts.{one_of, count, count_some, given}
use Rattle.os_code.specs.Machine.{walk, spent}
use Rattle.os_machine.specs.Moves.{event_of}
use Rattle.os_machine.specs.Receiving.{takes}
use Rattle.os_machine.specs.Leading.{showing, goes_with}
use Rattle.os_machine.specs.States.{Left, behind, Quiets, frame_at, frame_with, TellsOf}
use Rattle.os_machine.specs.Places.{places_in, places_at, Counts, CountsTelling, CountsTold}
use Rattle.os_machine.specs.Runs.{running, awaited, is_waiting, is_need, Sees, places, places_of, CountsEvent, left_with, announced, left_by, awaited_by, waits_in}
use Rattle.os_machine.specs.declared.stepped.Sight.{Sight}
use Rattle.os_machine.specs.declared.stepped.Sight.TheVariants as sight
use Rattle.os_machine.specs.declared.stepped.Awaits.{Awaits}
use Rattle.os_machine.specs.declared.stepped.Received.{Received}
use Rattle.os_machine.specs.declared.stepped.Received.TheVariants as got
use Rattle.os_machine.specs.declared.work.Work.{Work}
use Rattle.os_machine.specs.declared.local.Told.{Told}
use Rattle.os_machine.specs.declared.local.Told.TheVariants as told
use Rattle.os_machine.specs.declared.local.Local.{Local}
use Rattle.os_machine.specs.declared.machine.Phase.TheVariants as phase
use Rattle.os_machine.specs.declared.machine.Machine.{Machine}
use Rattle.os_machine.proofs.Steps.{passed, owed_again}
use Rattle.os_machine.proofs.Giving.{takes_given}

-- a machine that runs and owes nothing
runs_on : (m : Machine) → m.owed ≡ 0 → (n : ℕ) → running (record m { phase = phase.Runs }) n ≡ frame_at m.code.now m.local n
unfolding running
runs_on m h n = ap (λ k. behind k (frame_at m.code.now m.local) n) h

module _ (b a : ℕ) (f : Left) where
  quiets_as : (x y : Left) → ((n : ℕ) → x n ≡ y n) → Quiets b a f x → Quiets b a f y
  quiets_as x y h q = subst (Quiets b a f) (fun_ext h) q

  module _ (m : Machine) where
    sees_sight : (s : Sight) → m.owed ≡ 0 → Quiets b a f (λ n. showing s (frame_at m.code.now m.local n)) → Sees (event_of s) b a f (record m { phase = phase.Runs })
    sees_sight (sight.Print t) h q = quiets_as _ _ (λ n. ap (showing (sight.Print t)) (sym (runs_on m h n))) q
    sees_sight (sight.More o) h q = quiets_as _ _ (λ n. ap (showing (sight.More o)) (sym (runs_on m h n))) q
    sees_sight (sight.Less o) h q = quiets_as _ _ (λ n. ap (showing (sight.Less o)) (sym (runs_on m h n))) q
    sees_sight sight.Point h q = quiets_as _ _ (λ n. ap (showing sight.Point) (sym (runs_on m h n))) q

    sees_left : (o : Option Val) (v : Val) → Quiets b a f (λ n. loses_some o (Ends (end.Done v))) → Sees (left_with o v m).0 b a f (left_with o v m).1
    unfolding running
    sees_left None v q = q
    sees_left (Some (Data d)) v q = q
    sees_left (Some (Ref number class)) v q = q

    sees_all : (t : Told) → m.owed ≡ 0 → TellsOf m.code.now t b a f m.local → Sees (announced t m).0 b a f (announced t m).1
    unfolding awaited
    sees_all (told.Shows s) h q = sees_sight s h q
    sees_all (told.Asks c awaits) h q = q
    sees_all (told.Leaves v) h q = sees_left m.local.this v q
    sees_all (told.Fails e line) h q = q
    sees_all told.Halts h q = q
    sees_all told.Fuel h q = q

  -- what is seen of what was told
  pub sees : (t : Told) (m : Machine) (e : Event) (new : Machine) → (e, new) ≡ announced t m → m.owed ≡ 0 → TellsOf m.code.now t b a f m.local → Sees e b a f new
  sees t m e new is h q = subst (λ p. Sees p.0 b a f p.1) (sym is) (sees_all m t h q)

-- whether it waits
waits_left : (o : Option Val) (v : Val) (m : Machine) → m.phase ≡ phase.Halts → is_waiting (left_with o v m).1 ≡ is_need (left_with o v m).0
waits_left None v m h = ap waits_in h
waits_left (Some (Data d)) v m h = ap waits_in h
waits_left (Some (Ref number class)) v m h = refl

needs_none : (s : Sight) → is_need (event_of s) ≡ false
needs_none (sight.Print t) = refl
needs_none (sight.More o) = refl
needs_none (sight.Less o) = refl
needs_none sight.Point = refl

waits_all : (t : Told) (m : Machine) → m.phase ≡ phase.Halts → is_waiting (announced t m).1 ≡ is_need (announced t m).0
waits_all (told.Shows s) m h = sym (needs_none s)
waits_all (told.Asks c awaits) m h = refl
waits_all (told.Leaves v) m h = waits_left m.local.this v m h
waits_all (told.Fails e line) m h = ap waits_in h
waits_all told.Halts m h = ap waits_in h
waits_all told.Fuel m h = ap waits_in h

pub waits : (t : Told) (m : Machine) (e : Event) (new : Machine) → (e, new) ≡ announced t m → m.phase ≡ phase.Halts → is_waiting new ≡ is_need e
waits t m e new is h = subst (λ p. is_waiting p.1 ≡ is_need p.0) (sym is) (waits_all t m h)

-- ---- places

module _ (o : ℕ) (old : Local) (m : Machine) (h : m.phase ≡ phase.Halts) where
  none_ends : places_of o m.phase ≡ 0
  none_ends = ap (places_of o) h

  counts_sight : (s : Sight) → Counts s o (places_at o old) (places_at o m.local) → CountsEvent (event_of s) o (places_at o old) (places o (record m { phase = phase.Runs }))
  counts_sight (sight.Print t) c = omega (arith, c)
  counts_sight (sight.More n) c = omega (arith, c)
  counts_sight (sight.Less n) c = omega (arith, c)
  counts_sight sight.Point c = omega (arith, c)

  counts_left : (this : Option Val) (v : Val) → m.local.this ≡ this → places_at o old ≡ places_at o m.local + count o v → CountsEvent (left_with this v m).0 o (places_at o old) (places o (left_with this v m).1)
  counts_left None v e c = let was : count_some o m.local.this ≡ 0 = ap (count_some o) e in omega (arith, c, none_ends)
  counts_left (Some (Data d)) v e c = let was : count_some o m.local.this ≡ 0 = ap (count_some o) e in omega (arith, c, none_ends)
  counts_left (Some (Ref number class)) v e c = let was : count_some o m.local.this ≡ one_of o number = ap (count_some o) e in omega (arith, c)

  counts_all : (t : Told) → CountsTelling t o (places_at o old) (places_at o m.local) → CountsEvent (announced t m).0 o (places_at o old) (places o (announced t m).1)
  counts_all (told.Shows s) c = counts_sight s c
  counts_all (told.Asks call awaits) c = omega (arith, c)
  counts_all (told.Leaves v) c = counts_left m.local.this v refl c
  counts_all (told.Fails e line) c = omega (arith, c, none_ends)
  counts_all told.Halts c = omega (arith, c, none_ends)
  counts_all told.Fuel c = omega (arith, c, none_ends)

pub counts : (t : Told) (old : Local) (m : Machine) (e : Event) (new : Machine) → (e, new) ≡ announced t m → m.phase ≡ phase.Halts → CountsTold t old m.local → (o : ℕ) → CountsEvent e o (places_at o old) (places o new)
counts t old m e new is h c o = subst (λ p. CountsEvent p.0 o (places_at o old) (places o p.1)) (sym is) (counts_all o old m h t (c o))

-- ---- units that are owed

pub owes_again : (m : Machine) (k a b : ℕ) (f : Left) → m.phase ≡ phase.Runs → m.owed ≡ a - b → k ≤ a → Quiets (a - k) b f (frame_at m.code.now m.local) → (n : ℕ) → running m n ≡ behind k f n
unfolding running
owes_again m k a b f runs owed le q n =
    ap (λ p. left_by p (behind m.owed (frame_at m.code.now m.local)) n) runs ∙ ap (λ j. behind j (frame_at m.code.now m.local) n) owed
    ∙ owed_again k a b f (frame_at m.code.now m.local) le q n

-- ---- phases

pub runs_now : (m : Machine) → m.phase ≡ phase.Runs → running m ≡ behind m.owed (frame_at m.code.now m.local)
unfolding running
runs_now m h = ap (λ p. left_by p (behind m.owed (frame_at m.code.now m.local))) h

pub ends_done : (m : Machine) (v : Val) (u : ℕ) (new : Machine) → m.phase ≡ phase.Done v → Sees (event.Finished (end.Done v)) u u (running m) new
unfolding running
ends_done m v u new h = (0, omega arith, λ n. ap (λ p. left_by p (behind m.owed (frame_at m.code.now m.local)) n) h)

pub ends_failing : (m : Machine) (name : ErrorName) (line u : ℕ) (new : Machine) → m.phase ≡ phase.Fails name line → Sees (event.Finished (end.Error name line)) u u (running m) new
unfolding running
ends_failing m name line u new h = (0, omega arith, λ n. ap (λ p. left_by p (behind m.owed (frame_at m.code.now m.local)) n) h)

pub ends_halting : (m : Machine) (u : ℕ) (new : Machine) → m.phase ≡ phase.Halts → Sees (event.Finished end.Halt) u u (running m) new
unfolding running
ends_halting m u new h = (0, omega arith, λ n. ap (λ p. left_by p (behind m.owed (frame_at m.code.now m.local)) n) h)

-- ---- answers

pub awaits_now : (m : Machine) (awaits : Awaits) (a : Answer) → m.phase ≡ phase.Waits awaits → awaited m a ≡ frame_with m.code.now m.local awaits a
unfolding awaited
awaits_now m awaits a h = ap (λ p. awaited_by p (λ awaits. frame_with m.code.now m.local awaits a)) h

module _ (old : Machine) (awaits : Awaits) (a : Answer) (w : Work) where
  pub given_goes : (over : ℕ) (new : Machine) → (got.Goes over, w) ≡ takes awaits a old.local.work → new ≡ record old { owed = 0; phase = phase.Runs; local = record old.local { place = min (old.local.place + over) (length old.code.now); work = w } } → (n : ℕ) → running new n ≡ frame_with old.code.now old.local awaits a n
  unfolding running frame_with
  given_goes over new is e n =
      ap (λ m. running m n) e
      ∙ sym (passed old.code.now over old.local (record old.local { place = min (old.local.place + over) (length old.code.now); work = w }) w refl n)
      ∙ ap (λ t. goes_with (λ over. walk old.local.this old.code.now (spent old.local.this old.code.now n) over (drop old.local.place old.code.now)) t) is

  pub given_fails : (name : ErrorName) (line : ℕ) (new : Machine) → (got.Fails name line, w) ≡ takes awaits a old.local.work → new.phase ≡ phase.Fails name line → (n : ℕ) → running new n ≡ frame_with old.code.now old.local awaits a n
  unfolding running frame_with
  given_fails name line new is e n =
      ap (λ p. left_by p (behind new.owed (frame_at new.code.now new.local)) n) e
      ∙ ap (λ t. goes_with (λ over. walk old.local.this old.code.now (spent old.local.this old.code.now n) over (drop old.local.place old.code.now)) t) is

  pub given_halts : (new : Machine) → (got.Halts, w) ≡ takes awaits a old.local.work → new.phase ≡ phase.Halts → (n : ℕ) → running new n ≡ frame_with old.code.now old.local awaits a n
  unfolding running frame_with
  given_halts new is e n =
      ap (λ p. left_by p (behind new.owed (frame_at new.code.now new.local)) n) e
      ∙ ap (λ t. goes_with (λ over. walk old.local.this old.code.now (spent old.local.this old.code.now n) over (drop old.local.place old.code.now)) t) is

  -- the places behind an answer
  pub given_places : (r : Received) (new : Machine) (o : ℕ) → (r, w) ≡ takes awaits a old.local.work → new.local.this ≡ old.local.this → new.local.work ≡ w → places_of o new.phase ≡ 0 → places o new ≡ places_at o old.local + given o a
  given_places r new o is this work none =
      let taken : places_in o w ≡ places_in o old.local.work + given o a = ap (λ t. places_in o t.1) is ∙ takes_given o old.local.work awaits a in
      let same : count_some o new.local.this ≡ count_some o old.local.this = ap (count_some o) this in
      let now : places_in o new.local.work ≡ places_in o w = ap (places_in o) work in
      omega (arith, taken, same, now, none)
