-- Frames one above the other are what is left of a process.
use Rattle.std.proofs.Common.{◌≡◌, ℕ, zero, suc, ◌+◌, ◌-◌, ◌≤◌, ◌<◌, true, false, List, [], ◌∷◌, ◌++◌, reverse, length, Option, Some, None, refl, sym, ap, ◌∙◌, subst, arith}
use Rattle.obj_kinds.specs.declared.name.ClassName.{ClassName}
use Rattle.obj_kinds.specs.declared.error_name.ErrorName.TheVariants as error
use Rattle.os_kinds.specs.declared.val.Val.{Val}
use Rattle.os_kinds.specs.declared.call.Call.{Call as Need}
use Rattle.os_kinds.specs.declared.call.Answer.{Answer}
use Rattle.os_kinds.specs.declared.call.Answer.TheVariants as answer
use Rattle.os_kinds.specs.declared.call.Event.{Event}
use Rattle.os_kinds.specs.declared.call.Event.TheVariants as event
use Rattle.os_kinds.specs.declared.call.ScriptEnd.{ScriptEnd}
use Rattle.os_kinds.specs.declared.call.ScriptEnd.TheVariants as end
use Rattle.os_meaning.specs.Syntax.{Block}
use Rattle.os_meaning.specs.Frames.{Frame, Ends, Prints as Printing, Holds, Loses, Points, Spends, Asks, Vars, within}
use Rattle.os_meaning.specs.Meaning.{frame}
use Rattle.os_code.specs.Machine.{flat}
use Rattle.os_code.specs.Coding.{script_code}
use Rattle.os_code.proofs.Simulation.{agrees}
use Rattle.os_machine.specs.States.{Left, behind, Quiets, IsOut}
use Rattle.os_machine.specs.Runs.{running, awaited, is_waiting, Sees}
use Rattle.os_machine.specs.declared.machine.Machine.{Machine}
use Rattle.store_calls.specs.Calls.{Call, Give, Tell, Prints}
use Rattle.host_meaning.specs.declared.ending.Ending.{Ending}
use Rattle.host_meaning.specs.declared.ending.Ending.TheVariants as ending
use Rattle.host_meaning.specs.Methods.{Program}
use Rattle.host_meaning.specs.Objects.{Known, Objects}
use Rattle.host_meaning.specs.Process.{Begun, ending_of, RunsMethod, needs, runs, answers, method, points, begins, with_memory, script_begun, whole, process}
use Rattle.frame_stack.specs.declared.frame.RunningFrame.{RunningFrame}
use Rattle.frame_stack.specs.declared.stack.Stack.{Stack}
use Rattle.frame_stack.specs.Stacks.{most_callers, declarer_of, called_on_of, callers, with_machine, IsPushed, Runs, AreCallers, IsReady, IsAsked, IsSteady, Popped}
use Rattle.frame_stack.specs.Left.{between, begun_of, at_start, runs_over, ends_in, left, given, ended, shown}
use Rattle.frame_stack.specs.Laws.{AtBeginning, IsBegun, IsAtScript, IsFinal, ScriptsBegin, EventsShow, AnswersGo, MethodsBegin, NoneBegins, ValuesGo, ProcessesEnd}
use Rattle.frame_stack.proofs.Agreeing.{SameTo, RunsSame, Dries, unlocks_same, needs_same, runs_same, runs_within, method_same}
use Rattle.frame_stack.proofs.Steady.{flat_steady, same_steady, print_steady, more_steady, less_steady, point_steady, need_steady}

module _ {M : Type 0} (objects : Objects M) (program : Program) (fuel : ℕ) where
  abbrev Follows : Type 0
  Follows = ScriptEnd → ℕ → Known M → Call Ending

  -- ---- units

  paid : (run : RunsMethod objects program fuel) (b : Begun) (taken : ℕ) (x : Left) (before after : ℕ) → after + taken ≡ before → (k : Known M) (f : Follows)
      → runs objects program fuel run b (behind taken x before) before k f ≡ runs objects program fuel run b (x after) after k f
  paid run b zero x before after e k f = let same : before ≡ after = omega (arith, e) in λ i. runs objects program fuel run b (x (same i)) (same i) k f
  paid run b (suc taken) x zero after e k f = absurd (omega (arith, e))
  paid run b (suc taken) x (suc before) after e k f = paid run b taken x before after (omega (arith, e)) k f

  used : (run : RunsMethod objects program fuel) (b : Begun) (before : ℕ) (x : Left) (k : Known M) (f : Follows)
      → runs objects program fuel run b (behind (suc before) x before) before k f ≡ f end.Fuel 0 k
  used run b zero x k f = refl
  used run b (suc before) x k f = used run b before x k f

  quiet : (run : RunsMethod objects program fuel) (b : Begun) (old x : Left) (before after : ℕ) → Quiets before after old x → (k : Known M) (f : Follows)
      → runs objects program fuel run b (old before) before k f ≡ runs objects program fuel run b (x after) after k f
  quiet run b old x before after q k f = ap (λ g. runs objects program fuel run b g before k f) (q.2 before) ∙ paid run b q.0 x before after q.1 k f

  -- a steady frame with fewer units
  fewer : (run : RunsMethod objects program fuel) (runs_so : RunsSame objects program fuel run) (d o : Option ClassName) (x : Left) → IsSteady x → (most units : ℕ) → units ≤ most → (k : Known M) (f : Follows) → Dries objects program fuel run runs_so f
      → runs objects program fuel run (between d o) (x most) units k f ≡ runs objects program fuel run (between d o) (x units) units k f
  fewer run runs_so d o x steady most units le k f dry =
      sym (runs_within objects program fuel run runs_so d o (x most) units units (omega arith) k f dry)
      ∙ ap (λ g. runs objects program fuel run (between d o) g units k f) (sym (steady units most le))

  -- ---- ends

  ends_dry : (fs : List RunningFrame) (class : Option ClassName) (n : ℕ) (k : Known M) → ends_in objects program fuel fs class end.Fuel n k ≡ Give ending.Fuel
  ends_dry [] class n k = refl
  ends_dry (f ∷ fs) class n k = refl

  final : (e : ScriptEnd) → IsFinal e → (fs : List RunningFrame) (class : Option ClassName) (n : ℕ) (k : Known M) → ends_in objects program fuel fs class e n k ≡ Give (ending_of class e)
  final (end.Done v) is fs class n k = elim is [ ]
  final end.Halt is [] class n k = refl
  final end.Halt is (f ∷ fs) class n k = refl
  final (end.Error name line) is [] class n k = refl
  final (end.Error name line) is (f ∷ fs) class n k = refl
  final end.Fuel is [] class n k = refl
  final end.Fuel is (f ∷ fs) class n k = refl

  -- ---- events

  module _ (s : Stack) where
    abbrev run : RunsMethod objects program fuel
    run = method objects program fuel (most_callers - length (callers s))

    abbrev run_so : RunsSame objects program fuel run
    run_so = method_same objects program fuel (most_callers - length (callers s))

    abbrev follows : Follows
    follows = ends_in objects program fuel (callers s) (declarer_of s.top)

    dry : Dries objects program fuel run run_so follows
    dry n k = ends_dry (callers s) (declarer_of s.top) n k

    less_units : (x : Left) → IsSteady x → (most units : ℕ) → units ≤ most → (k : Known M)
        → runs objects program fuel run (begun_of s.top) (x most) units k follows ≡ runs objects program fuel run (begun_of s.top) (x units) units k follows
    less_units x steady most units le k = fewer run run_so (declarer_of s.top) (called_on_of s.top) x steady most units le k follows dry

  shows : (e : Event) (before after : ℕ) (old : Stack) (m : Machine) → IsReady old → Sees e before after (running old.top.machine) m
      → (k : Known M) → left objects program fuel old before k ≡ shown objects program fuel e (with_machine m old) after k
  unfolding left given ended
  shows (event.Need c) before after old m ready sees k =
      quiet (run old) (begun_of old.top) (running old.top.machine) (λ n. Asks c (λ a. awaited m a n)) before after sees k (follows old)
      ∙ needs_same objects program fuel (run old) (run_so old) (begun_of old.top) c after k _ _ (λ a n t le. less_units old (awaited m a) (need_steady (running old.top.machine) ready.0.1 before after m c sees a) after n le t)
  shows (event.Print t) before after old m ready sees k =
      quiet (run old) (begun_of old.top) (running old.top.machine) (λ n. Printing t (running m n)) before after sees k (follows old)
  shows (event.More number) before after old m ready sees k =
      quiet (run old) (begun_of old.top) (running old.top.machine) (λ n. Holds number (running m n)) before after sees k (follows old)
  shows (event.Less number) before after old m ready sees k =
      quiet (run old) (begun_of old.top) (running old.top.machine) (λ n. Loses number (running m n)) before after sees k (follows old)
  shows event.Point before after old m ready sees k =
      quiet (run old) (begun_of old.top) (running old.top.machine) (λ n. Points (running m n)) before after sees k (follows old)
      ∙ unlocks_same objects program fuel _ after _ _ _ (λ n t le. less_units old (running m) (point_steady (running old.top.machine) ready.0.1 before after m sees) after n le t)
  shows (event.Finished (end.Done v)) before after old m ready sees k =
      quiet (run old) (begun_of old.top) (running old.top.machine) (λ n. Ends (end.Done v)) before after sees k (follows old)
  shows (event.Finished end.Halt) before after old m ready sees k =
      quiet (run old) (begun_of old.top) (running old.top.machine) (λ n. Ends end.Halt) before after sees k (follows old)
  shows (event.Finished (end.Error name line)) before after old m ready sees k =
      quiet (run old) (begun_of old.top) (running old.top.machine) (λ n. Ends (end.Error name line)) before after sees k (follows old)
  shows (event.Finished end.Fuel) before after old m ready sees k =
      ap (λ g. runs objects program fuel (run old) (begun_of old.top) g before k (follows old)) (sees.2 before)
      ∙ used (run old) (begun_of old.top) before sees.1 k (follows old)
      ∙ dry old 0 k ∙ sym (dry old after k)

  -- ---- beginnings

  begins_alone : (script : Block) (s : Stack) → IsAtScript script s → process objects program fuel script ≡ left objects program fuel s fuel (at_start objects)
  unfolding process left
  begins_alone script s at =
      let start = at_start objects in
      let declares = sym at.1.0 in
      let called = sym at.1.1.0 in
      let alone = sym at.1.1.1 in
      let f : Follows = λ e units k. Give (ending_of None e) in
      let m63 = method objects program fuel 63 in
      let so = method_same objects program fuel 63 in
      runs_same objects program fuel m63 so (script_begun objects program fuel script) (frame None fuel script []) fuel start f f (λ e n t le. refl)
      ∙ sym (runs_within objects program fuel m63 so None None (frame None fuel script []) fuel fuel (omega arith) start f (λ n k. refl))
      ∙ ap (λ g. runs objects program fuel m63 (between None None) g fuel start f) (sym (agrees script None [] fuel fuel (omega arith)) ∙ sym (at.0.1 fuel))
      ∙ (λ i. runs objects program fuel (method objects program fuel (most_callers - length (alone i))) (between (declares i) (called i)) (running s.top.machine fuel) fuel start (ends_in objects program fuel (alone i) (declares i)))

  begins_on_top : (b : Begun) (f : RunningFrame) (s new : Stack) → length (callers s) < most_callers → IsBegun b f → IsPushed f s new → (units : ℕ) (k : Known M) → units ≤ fuel
      → method objects program fuel (most_callers - length (callers s)) b units k (given objects program fuel s) ≡ left objects program fuel new units (begins objects program fuel b k)
  unfolding left given
  begins_on_top b f s new lt begun put units k le =
      let declares = sym begun.1.0 in
      let called = sym begun.1.1 in
      let top = sym put.0 in
      let rest = sym put.1 in
      let below = length (callers s) in
      let d = most_callers - suc below in
      let deeper : most_callers - below ≡ suc d = omega (arith, lt) in
      let run = method objects program fuel d in
      let so = method_same objects program fuel d in
      let x = frame b.this fuel b.body b.vars in
      let start = begins objects program fuel b k in
      let g : Follows = λ e n t. answers objects program fuel b.declarer e n t (given objects program fuel s) in
      ap (λ n. method objects program fuel n b units k (given objects program fuel s)) deeper
      ∙ runs_same objects program fuel run so b x units start g g (λ e n t le. refl)
      ∙ sym (runs_within objects program fuel run so b.declarer b.called_on x units units (omega arith) start g (λ n k. refl))
      ∙ ap (λ h. runs objects program fuel run (between b.declarer b.called_on) h units start g) (sym (agrees b.body b.this b.vars units fuel le) ∙ sym (begun.0.1 units))
      ∙ (λ i. runs objects program fuel run (between (declares i) (called i)) (running f.machine units) units start (ends_in objects program fuel (s.top ∷ callers s) (declares i)))
      ∙ (λ i. runs objects program fuel (method objects program fuel (most_callers - length (rest i))) (begun_of (top i)) (running (top i).machine units) units start (ends_in objects program fuel (rest i) (declarer_of (top i))))

-- ---- the laws

pub scripts_begin : {M : Type 0} → ScriptsBegin M
scripts_begin objects program fuel script s at =
    (((at.0.0, same_steady _ _ at.0.1 (flat_steady script None [])), subst AreCallers (sym at.1.1.1) tt), begins_alone objects program fuel script s at)

pub events_show : {M : Type 0} → EventsShow M
events_show objects program fuel e before after old new ready sees is k =
    shows objects program fuel e before after old new.top.machine ready sees k ∙ ap (λ s. shown objects program fuel e s after k) (sym is)

pub answers_go : {M : Type 0} → AnswersGo M
unfolding left given
answers_go objects program fuel a old new goes is units k =
    ap (λ g. runs_over objects program fuel (length (callers old)) old.top (λ n. g) (ends_in objects program fuel (callers old)) units k) (sym (goes units))
    ∙ ap (λ s. runs_over objects program fuel (length (callers s)) s.top (λ n. running new.top.machine units) (ends_in objects program fuel (callers s)) units k) (sym is)

pub methods_begin : {M : Type 0} → MethodsBegin M
methods_begin objects program fuel b f s new asked lt begun put =
    let running_now : Runs f = (begun.0.0, same_steady _ _ begun.0.1 (flat_steady b.body b.this b.vars)) in
    ((subst Runs (sym put.0) running_now, subst AreCallers (sym put.1) asked), λ units k le. begins_on_top objects program fuel b f s new lt begun put units k le)

pub none_begins : {M : Type 0} → NoneBegins M
none_begins objects program fuel b s full units k =
    let none : most_callers - length (callers s) ≡ 0 = omega (arith, full) in
    ap (λ n. method objects program fuel n b units k (given objects program fuel s)) none

pub values_go : {M : Type 0} → ValuesGo M
unfolding ended given
values_go objects program fuel v old new are popped =
    let both = subst AreCallers popped are in
    (both, λ units k. ap (λ fs. ends_in objects program fuel fs (declarer_of old.top) (end.Done v) units k) popped)

alone_ends : {M : Type 0} (objects : Objects M) (program : Program) (fuel : ℕ) (e : ScriptEnd) (s : Stack) (units : ℕ) (k : Known M) → callers s ≡ [] → ended objects program fuel s e units k ≡ Give (ending_of (declarer_of s.top) e)
unfolding ended
alone_ends objects program fuel e s units k none = ap (λ fs. ends_in objects program fuel fs (declarer_of s.top) e units k) none

final_ends : {M : Type 0} (objects : Objects M) (program : Program) (fuel : ℕ) (e : ScriptEnd) (s : Stack) (units : ℕ) (k : Known M) → IsFinal e → ended objects program fuel s e units k ≡ Give (ending_of (declarer_of s.top) e)
unfolding ended
final_ends objects program fuel e s units k is = final objects program fuel e is (callers s) (declarer_of s.top) units k

pub processes_end : {M : Type 0} → ProcessesEnd M
processes_end objects program fuel e s units k = (final_ends objects program fuel e s units k, alone_ends objects program fuel e s units k)
