-- What stands as an element where no part is copied.
use Rattle.std.specs.Prelude.{◌≡◌, ◌<◌, [], Option, None, Some}
use Rattle.obj_kinds.specs.declared.value.Value.TheViews.{out-Value}
use Rattle.schema_kinds.specs.declared.kind.Item.{Item}
use Rattle.schema_kinds.specs.declared.kind.Item.TheVariants as of
use Rattle.oref_table.specs.declared.oref.Held.{Held}
use Rattle.oref_table.specs.declared.fill.Fill.{Fill}
use Rattle.oref_table.specs.declared.fill.Fill.TheVariants as fill
use Rattle.oref_table.specs.Filling.{passed}
use Rattle.oref_table.specs.Memory.{Memory, outside_of}
use Rattle.obj_shape.specs.Elements.{IsPlain}
use Rattle.prop_setting.specs.Elements.{Standing}
use Rattle.prop_setting.specs.declared.stand.Stand.{Stand}

-- no part is copied
abbrev pub IsNoCopy : Item → Fill → Type 0
IsNoCopy (of.Serial c) (fill.Plain v) = Unit {0}
IsNoCopy (of.Serial c) _ = ⊥
IsNoCopy _ w = Unit {0}

-- it is what is to stand there, and nothing was made for it
pub record IsStanding (st : Standing) (m : Memory) (s : Stand) : Type 0 where
  pub filling : s.filling ≡ st.filling
  pub back : s.back ≡ st.back
  pub memory : st.memory ≡ m

-- a reference and a part take nothing for an empty text
abbrev pub object_filling : Fill → Fill
object_filling (fill.Plain v) = fill.Target None
object_filling w = w

-- the hold that is given back is there, and none passes into the slot
abbrev pub IsHeldBack : Memory → Fill → Option Held → Type 0
IsHeldBack m w None = Unit {0}
IsHeldBack m w (Some h) = (0 < outside_of m h.number) × (passed w ≡ [])

-- a text within the limits
abbrev pub IsPlainFilling : Fill → Type 0
IsPlainFilling (fill.Plain v) = IsPlain (out-Value v)
IsPlainFilling _ = ⊥
