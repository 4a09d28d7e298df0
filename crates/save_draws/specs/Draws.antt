-- What the draws of ids have still to do in each of their phases.
use Rattle.std.specs.Prelude.{◌≡◌, ℕ, zero, suc, ℤ, pos, negsuc, Bool, true, false, cond, ◌&&◌, ◌||◌, List, [], ◌∷◌, ◌++◌, drop, slice_get, Option, None, Some, is_some, is_none, Result, Ok, Err}
use Rattle.std.specs.List.{list_any}
use Rattle.obj_kinds.specs.declared.name.ClassName.{ClassName}
use Rattle.obj_kinds.specs.declared.op.Reply.{Reply}
use Rattle.obj_kinds.specs.declared.cause.Cause.{Cause}
use Rattle.obj_kinds.specs.declared.cause.Cause.TheVariants.{IdTaken, Damaged}
use Rattle.obj_kinds.specs.Limits.{is_legal_reply}
use Rattle.schema_kinds.specs.declared.key.Key.{Key}
use Rattle.schema_kinds.specs.Worlds.{key_cmp}
use Rattle.oref_table.specs.Memory.{Object, Memory}
use Rattle.store_calls.specs.Calls.{Call, Give, Cut, Tried, Got, Lost, then, answered}
use Rattle.store_calls.specs.Plans.{IsAfter, AsksFor, SaysNext}
use Rattle.object_calls.specs.Extents.{counter_node}
use Rattle.object_calls.specs.Saves.{Drawn, ToSave, is_key, draw_one, draw}
use Rattle.object_calls.specs.Memories.{key_by, has_key}
use Rattle.save_draws.specs.declared.drawing.Newcomer.{Newcomer}
use Rattle.save_draws.specs.declared.drawing.Drawing.{Drawing}
use Rattle.save_draws.specs.declared.drawing.Phase.{Phase}
use Rattle.save_draws.specs.declared.drawing.Phase.TheVariants as phase
use Rattle.save_draws.specs.declared.drawing.DrawStep.{DrawStep}
use Rattle.save_draws.specs.declared.drawing.DrawStep.TheVariants as step

-- whether an object in memory has the key
abbrev pub is_live_in : Memory → Key → Bool
is_live_in m key = list_any (λ o. has_key key (key_by o.extent o.id)) m.objects

-- those of the objects of a save that are new
abbrev pub newcomer_if : ToSave → Option (List ℕ) → List Newcomer → List Newcomer
newcomer_if o (Some id) rest = rest
newcomer_if o None rest = record { number = o.number; extent = o.extent } ∷ rest

abbrev pub newcomers : List ToSave → List Newcomer
newcomers [] = []
newcomers (o ∷ os) = newcomer_if o o.id (newcomers os)

-- the draws, with the keys that were drawn seen as a list
pub record Draws : Type 0 where
  pub news : List Newcomer
  pub at : ℕ
  pub keys : List Key
  pub ids : Drawn

abbrev pub seen : Drawing → Draws
seen d = record { news = d.news; at = d.at; keys = d.keys.keys; ids = d.ids }

abbrev pub is_told : Phase → Bool
is_told phase.Told = true
is_told _ = false

-- the counter of an object is awaited
abbrev pub is_asking : Draws → Phase → Bool
is_asking d phase.Drawing = is_some (slice_get d.news d.at)
is_asking d _ = false

-- a reply that is to be judged is one of the counter of an object
abbrev pub is_placed : Draws → Phase → Bool
is_placed d (phase.Judging r) = is_some (slice_get d.news d.at) && is_legal_reply r
is_placed d _ = true

abbrev pub is_judging : Phase → Bool
is_judging (phase.Judging r) = true
is_judging _ = false

abbrev pub is_over : Phase → Bool
is_over (phase.Over x) = true
is_over _ = false

-- the id that a number is
abbrev pub id_of_number : ℤ → Option (List ℕ)
id_of_number (pos zero) = None
id_of_number (pos (suc i)) = Some (suc i ∷ [])
id_of_number (negsuc i) = None

-- with one more id drawn
abbrev pub with_drawn : Draws → ℕ → Key → List Key → Draws
with_drawn d number key keys = record { news = d.news; at = suc d.at; keys = keys; ids = d.ids ++ (number, key.id) ∷ [] }

-- where it asks, the counter of an object is awaited
abbrev pub Awaits : DrawStep → Draws → Phase → Type 0
Awaits (step.Ask op) d p = is_asking d p ≡ true
Awaits (step.Draw a) d p = Unit {0}

-- the key of an id, or that it is taken
abbrev pub key_told : (Key → Bool) → List Key → Key → Tried Key
key_told is_live keys key = cond (is_live key || list_any (is_key key) keys) (Lost (IdTaken key.id)) (Got key)

abbrev pub number_judged : (Key → Bool) → List Key → ClassName → Option (List ℕ) → Tried Key
number_judged is_live keys extent None = Lost (Damaged (counter_node extent))
number_judged is_live keys extent (Some id) = key_told is_live keys (record { extent = extent; id = id })

module _ (is_live : Key → Bool) where
  -- an id is drawn for each, where these keys were drawn before
  abbrev pub draw_each : List Key → List Newcomer → Call (Tried Drawn)
  draw_each keys [] = Give (Got [])
  draw_each keys (n ∷ ns) =
      then (draw_one is_live keys n.extent) (λ key. then (draw_each (key ∷ keys) ns) (λ ids. Give (Got ((n.number, key.id) ∷ ids))))

  unfoldable pub left_of : Draws → Call (Tried Drawn)
  left_of d = then (draw_each d.keys (drop d.at d.news)) (λ ids. Give (Got (d.ids ++ ids)))

  -- the call that is left in each phase
  unfoldable pub to_come : Draws → Phase → Call (Tried Drawn)
  to_come d phase.Drawing = left_of d
  to_come d (phase.Judging r) = answered (left_of d) r
  to_come d (phase.Over x) = Give (Lost x)
  to_come d phase.Told = Cut

  -- the draws for these objects of a save
  abbrev pub IsBegun : Draws → Phase → Type 0
  IsBegun d p = (os : List ToSave) → newcomers os ≡ d.news → to_come d p ≡ draw is_live [] os

  -- behind the reply
  abbrev pub IsTaken : Reply → Draws → Phase → Draws → Phase → Type 0
  IsTaken r d before e now = IsAfter r (λ most. to_come d before) (λ most. to_come e now)

  -- the reply of the counter gives the next object an id, or this is why it doesn't
  abbrev pub IsJudged : Draws → Reply → Draws → Option Cause → Type 0
  IsJudged d r e None = answered (left_of d) r ≡ left_of e
  IsJudged d r e (Some x) = answered (left_of d) r ≡ Give (Lost x)

  -- what the step says comes next, and the draws that it leaves
  abbrev pub IsNext : DrawStep → Draws → Phase → Draws → Type 0
  IsNext (step.Ask op) d p e = SaysNext (AsksFor op) (λ most. to_come d p)
  IsNext (step.Draw (Ok _)) d p e = to_come d p ≡ Give (Got e.ids)
  IsNext (step.Draw (Err x)) d p e = to_come d p ≡ Give (Lost x)

  -- draws that ask wait for the reply, and have the same to do; those that have answered are over
  abbrev pub GoesOn : DrawStep → Draws → Phase → Draws → Phase → Type 0
  GoesOn (step.Ask op) d before e now = to_come e now ≡ to_come d before
  GoesOn (step.Draw a) d before e now = now ≡ phase.Told

  -- for want of memory they have the same to do
  abbrev pub Stays : Draws → Phase → Draws → Phase → Type 0
  Stays d before e now = (is_told now ≡ false) × (is_placed e now ≡ true) × (to_come e now ≡ to_come d before)

  -- the reply was judged, where there was one
  abbrev pub GoesBehind : Draws → Phase → Draws → Phase → Type 0
  GoesBehind d before e now = (is_judging now ≡ false) × (is_told now ≡ false) × (to_come e now ≡ to_come d before)
