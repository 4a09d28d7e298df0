-- The texts of causes.
use Rattle.std.specs.Prelude.{ℕ, List, [], ◌∷◌, ◌++◌, codes}
use Rattle.std.specs.Fmt.{decimal}
use Rattle.obj_kinds.specs.Ids.{id_text}
use Rattle.obj_kinds.specs.NodeText.{node_text}
use Rattle.obj_kinds.specs.declared.cause.Why.{Why}
use Rattle.obj_kinds.specs.declared.cause.Why.TheVariants.{Required, NotWhole, NotTruth, TooLong, TooSmall, TooLarge, KeyTooLong, RowTooLong}
use Rattle.obj_kinds.specs.declared.cause.Cause.{Cause}
use Rattle.obj_kinds.specs.declared.cause.Cause.TheVariants as cause

abbrev pub why_text : Why → List ℕ
why_text Required = codes "Required"
why_text NotWhole = codes "NotWhole"
why_text NotTruth = codes "NotTruth"
why_text TooLong = codes "TooLong"
why_text TooSmall = codes "TooSmall"
why_text TooLarge = codes "TooLarge"
why_text KeyTooLong = codes "KeyTooLong"
why_text RowTooLong = codes "RowTooLong"

-- a row that is too long has no property, which prints as `%`
abbrev pub prop_text : List ℕ → List ℕ
prop_text [] = codes "%"
prop_text (byte ∷ prop) = byte ∷ prop

-- the cause's word, and what it names, each after one blank
abbrev pub cause_text : Cause → List ℕ
cause_text (cause.Invalid class prop why) = codes "Invalid " ++ class.0 ++ codes " " ++ prop_text prop ++ codes " " ++ why_text why
cause_text (cause.Busy pid node) = codes "Busy " ++ decimal pid.0 ++ codes " " ++ node_text node
cause_text (cause.Gone id) = codes "Gone " ++ id_text id
cause_text (cause.NotUnique index other) = codes "NotUnique " ++ index ++ codes " " ++ id_text other
cause_text (cause.NoTarget class id) = codes "NoTarget " ++ class.0 ++ codes " " ++ id_text id
cause_text (cause.HasMembers id) = codes "HasMembers " ++ id_text id
cause_text (cause.NotMember id) = codes "NotMember " ++ id_text id
cause_text cause.NotFound = codes "NotFound"
cause_text (cause.OtherClass class) = codes "OtherClass " ++ class.0
cause_text cause.IdLimit = codes "IdLimit"
cause_text (cause.IdTaken id) = codes "IdTaken " ++ id_text id
cause_text (cause.Damaged node) = codes "Damaged " ++ node_text node
cause_text cause.TooDeep = codes "TooDeep"
