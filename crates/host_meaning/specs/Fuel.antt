-- How many operations a call asks at most, whatever the replies.
use Rattle.std.specs.Prelude.{◌≡◌, ℕ, suc}
use Rattle.obj_kinds.specs.declared.op.Reply.{Reply}
use Rattle.store_calls.specs.Calls.{Call, Give, Ask, Tell, Cut}

abbrev pub AsksAtMost : {A : Type 0} → ℕ → Call A → Type 0
AsksAtMost units (Give a) = Unit {0}
AsksAtMost units (Tell x c) = AsksAtMost units c
AsksAtMost units Cut = Unit {0}
AsksAtMost units (Ask op tag k) = (left : ℕ) × (units ≡ suc left) × ((r : Reply) → AsksAtMost left (k r))
