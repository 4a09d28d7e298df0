-- The laws of calls in steady runs.
use Rattle.std.proofs.Common.{◌≡◌, ◌≤◌, ℕ, Option, None, [], refl}
use Rattle.obj_kinds.specs.declared.op.Pid.{Pid}
use Rattle.obj_kinds.specs.declared.op.Op.{Op}
use Rattle.schema_kinds.specs.declared.class.Class.{Class}
use Rattle.std.specs.Prelude.{List}
use Rattle.storage_map.specs.SoundWorlds.{IsSound}
use Rattle.store_calls.specs.Calls.{Call, Tag}
use Rattle.object_calls.specs.Loads.{load, raise}
use Rattle.object_calls.specs.Members.{next_member}
use Rattle.object_runs.specs.ObjectMachine.{desk_at, view}
use Rattle.object_runs.specs.Causes.{IsTrueTold}
use Rattle.object_runs.specs.Runs.{Both}
use Rattle.object_runs.specs.Invariant.{Pending}
use Rattle.run_rules.specs.Good.{Truth, Meets}
use Rattle.sound_runs.specs.Closing.{IsSafeChange}
use Rattle.steady_runs.specs.Steady.{IsSteady}
use Rattle.steady_runs.proofs.Keeping.{has_structure, entries_keep_steady}
use Rattle.call_rules.specs.Settings.{Setting}
use Rattle.call_rules.proofs.Rules.{Fits, meets_post}
use Rattle.good_calls.specs.Laws.{ShowsLoads, IsAtRest, IsSoundSchema, LoadsAreGood, RaisesAreGood, MembersAreGood, LoadsTellTrue, RaisesTellTrue, MembersTellTrue}
use Rattle.good_calls.proofs.Idle.{IsIdle}
use Rattle.good_calls.proofs.Loads.{MayTell, MayTellTrue, may_tell_true, meets_load, meets_raise}
use Rattle.good_calls.proofs.Walks.{meets_next_member}

pub view_sound : (classes : List Class) (b : Both) (p : Pid) → IsSteady classes b → IsSound classes (view b.objects p.0)
view_sound classes b p i = i.invariant.sound (view b.objects p.0) (Pending p.0 (desk_at b.objects p.0).lists ([], refl) refl)

-- the surroundings of a process in a steady run
abbrev pub steadily : (classes : List Class) → IsSoundSchema classes → Truth → Pid → Setting
steadily classes schema truth p = record {
  classes = classes;
  Facts = IsSafeChange classes;
  truth = truth;
  Inv = IsSteady classes;
  keeps = λ b q op tag i fit. entries_keep_steady classes b q op tag schema.paired i fit;
  has = has_structure classes;
  sound = view_sound classes;
  p = p;
}

module _ (classes : List Class) (schema : IsSoundSchema classes) (p : Pid) where
  pub to_idle : (truth : Truth) (b : Both) → IsAtRest classes p b → IsIdle (steadily classes schema truth p) b
  to_idle truth b r = record { whole = r.steady; is = r.idle }

  pub to_rest : (truth : Truth) (b : Both) → IsIdle (steadily classes schema truth p) b → IsAtRest classes p b
  to_rest truth b i = record { steady = i.whole; idle = i.is }

  pub shows_tells : MayTell (steadily classes schema ShowsLoads p)
  shows_tells = record { loads = λ os back key r h. h; fails = λ os a back x. tt }

  shows_true : (tries : ℕ) → MayTellTrue (steadily classes schema ShowsLoads p) tries
  shows_true tries = may_tell_true (steadily classes schema ShowsLoads p) tries shows_tells

  tells_true : (tries : ℕ) → 1 ≤ tries → MayTellTrue (steadily classes schema (IsTrueTold classes tries) p) tries
  tells_true tries some = record { loads = λ os back key r h. h; fails = λ os a back x h. h some }

  rests_by : (truth : Truth) {A : Type 0} (c : Call A) (b : Both) → Fits (steadily classes schema truth p) c (λ a b. IsIdle (steadily classes schema truth p) b) b
      → Meets classes (IsSafeChange classes) truth p c (λ a b. IsAtRest classes p b) b
  rests_by truth {A} c b h = meets_post (steadily classes schema truth p) c (λ (a : A) b. IsIdle (steadily classes schema truth p) b) (λ (a : A) b. IsAtRest classes p b) b (λ a b' i. to_rest truth b' i) h

  pub rests : {A : Type 0} (c : Call A) (b : Both) → Fits (steadily classes schema ShowsLoads p) c (λ a b. IsIdle (steadily classes schema ShowsLoads p) b) b
      → Meets classes (IsSafeChange classes) ShowsLoads p c (λ a b. IsAtRest classes p b) b
  rests {A} c b h = rests_by ShowsLoads c b h

pub loads_are_good : LoadsAreGood
loads_are_good classes tries most p l schema real level b r =
    rests classes schema p (load classes tries most l) b (meets_load (steadily classes schema ShowsLoads p) schema.storable tries most (shows_true classes schema p tries) l b real level (to_idle classes schema p ShowsLoads b r))

pub raises_are_good : RaisesAreGood
raises_are_good classes tries p key class u v schema b r =
    rests classes schema p (raise tries key class u v) b (meets_raise (steadily classes schema ShowsLoads p) schema.storable tries 0 (shows_true classes schema p tries) key class u v b (to_idle classes schema p ShowsLoads b r))

pub members_are_good : MembersAreGood
members_are_good classes tries p side holder level behind schema b r =
    rests classes schema p (next_member classes tries side holder level behind) b
    (meets_next_member (steadily classes schema ShowsLoads p) schema.storable tries 0 (shows_true classes schema p tries) side holder level behind b (to_idle classes schema p ShowsLoads b r))

-- ---- all that they tell is true

pub loads_tell_true : LoadsTellTrue
loads_tell_true classes tries most p l some schema real level b r =
    let truth = IsTrueTold classes tries in
    rests_by classes schema p truth (load classes tries most l) b (meets_load (steadily classes schema truth p) schema.storable tries most (tells_true classes schema p tries some) l b real level (to_idle classes schema p truth b r))

pub raises_tell_true : RaisesTellTrue
raises_tell_true classes tries p key class u v some schema b r =
    let truth = IsTrueTold classes tries in
    rests_by classes schema p truth (raise tries key class u v) b (meets_raise (steadily classes schema truth p) schema.storable tries 0 (tells_true classes schema p tries some) key class u v b (to_idle classes schema p truth b r))

pub members_tell_true : MembersTellTrue
members_tell_true classes tries p side holder level behind some schema b r =
    let truth = IsTrueTold classes tries in
    rests_by classes schema p truth (next_member classes tries side holder level behind) b
    (meets_next_member (steadily classes schema truth p) schema.storable tries 0 (tells_true classes schema p tries some) side holder level behind b (to_idle classes schema p truth b r))
