-- What a process prints and notes, by its meaning and its own replies.
use Rattle.std.specs.Prelude.{ℕ, suc, ◌-◌, Bool, true, false, cond, List, [], ◌∷◌, ◌++◌}
use Rattle.obj_kinds.specs.declared.op.Pid.{Pid}
use Rattle.obj_kinds.specs.declared.op.Op.{Op}
use Rattle.obj_kinds.specs.declared.op.Op.TheVariants.{Set, Kill, Incr, Begin, Commit, RollbackOne, RollbackAll}
use Rattle.obj_kinds.specs.declared.op.Reply.{Reply}
use Rattle.obj_kinds.specs.declared.op.Reply.TheVariants.{Number}
use Rattle.schema_kinds.specs.declared.class.Class.{Class}
use Rattle.schema_kinds.specs.declared.record.Part.TheVariants.{Del}
use Rattle.schema_kinds.specs.Worlds.{Change}
use Rattle.schema_kinds.specs.Classes.{is_own_global}
use Rattle.store_calls.specs.Calls.{Call, Ask, Tell, Tag, Plain, Closes, Told, Prints, Loaded, Failed, Refused, Low}
use Rattle.object_runs.specs.declared.mark.Mark.{Mark}
use Rattle.object_runs.specs.declared.mark.MarkKind.{MarkKind}
use Rattle.object_runs.specs.declared.mark.MarkKind.TheVariants as mark

-- ---- pieces that are printed

abbrev pub piece_of : Told → List (List ℕ)
piece_of (Prints text) = text ∷ []
piece_of _ = []

-- what is printed before the next operation
abbrev pub printed_next : {A : Type 0} → Call A → List (List ℕ)
printed_next (Tell x c) = piece_of x ++ printed_next c
printed_next _ = []

-- all that is printed, with these replies, before the next operation
abbrev pub printed : {A : Type 0} → Call A → List Reply → List (List ℕ)
printed (Tell x c) rs = piece_of x ++ printed c rs
printed (Ask op tag k) (r ∷ rs) = printed (k r) rs
printed _ rs = []

-- and before the last operation to which there is a reply
abbrev pub printed_early : {A : Type 0} → Call A → List Reply → List (List ℕ)
printed_early c [] = []
printed_early (Tell x c) (r ∷ rs) = piece_of x ++ printed_early c (r ∷ rs)
printed_early (Ask op tag k) (r ∷ rs) = printed_early (k r) rs
printed_early _ (r ∷ rs) = []

-- ---- marks

abbrev pub noted : Pid → ℕ → MarkKind → List Mark
noted p at kind = record { pid = p; at = at; kind = kind } ∷ []

-- the mark of a telling, behind so many entries
abbrev pub told_mark : Pid → ℕ → Told → List Mark
told_mark p n (Prints text) = []
told_mark p n (Loaded back key r) = noted p (n - back) (mark.Loaded key r)
told_mark p n (Failed about back x) = noted p n (mark.Failed x)
told_mark p n (Refused x) = noted p n (mark.Failed x)
told_mark p n Low = noted p n mark.Low

-- a script's write of a global that the schema owns
abbrev pub raw_mark : List Class → Pid → ℕ → List ℕ → List Mark
raw_mark classes p n global = cond (is_own_global classes global) (noted p n mark.Raw) []

abbrev pub script_mark : List Class → Pid → ℕ → Op → List Mark
script_mark classes p n (Set at v) = raw_mark classes p n at.global
script_mark classes p n (Kill at) = raw_mark classes p n at.global
script_mark classes p n (Incr at k) = raw_mark classes p n at.global
script_mark classes p n Begin = noted p n mark.TStart
script_mark classes p n Commit = noted p n mark.TCommit
script_mark classes p n RollbackOne = noted p n mark.TRollback
script_mark classes p n RollbackAll = noted p n mark.TRollback
script_mark classes p n _ = []

-- a change that takes away is a delete's
abbrev pub closing_kind : Change → MarkKind
closing_kind (Del key ∷ []) = mark.Deleted (Del key ∷ [])
closing_kind change = mark.Saved change

abbrev pub closing_mark : Pid → ℕ → Change → Reply → List Mark
closing_mark p n change (Number z) = noted p n (closing_kind change)
closing_mark p n change _ = []

-- the mark of the n-th entry; calls of objects write no node outside saves and deletes, and begin and end no level
abbrev pub entry_mark : List Class → Pid → ℕ → Op → Tag → Reply → List Mark
entry_mark classes p n op Plain r = script_mark classes p n op
entry_mark classes p n op (Closes change) r = closing_mark p n change r
entry_mark classes p n op _ r = []

-- all marks behind so many entries, with these replies, before the next operation
abbrev pub marks_from : {A : Type 0} → List Class → Pid → ℕ → Call A → List Reply → List Mark
marks_from classes p n (Tell x c) rs = told_mark p n x ++ marks_from classes p n c rs
marks_from classes p n (Ask op tag k) (r ∷ rs) = entry_mark classes p (suc n) op tag r ++ marks_from classes p (suc n) (k r) rs
marks_from classes p n _ rs = []

abbrev pub marks_of : {A : Type 0} → List Class → Pid → Call A → List Reply → List Mark
marks_of classes p c rs = marks_from classes p 0 c rs

-- those that were noted up to the last reply
abbrev pub marks_early : {A : Type 0} → List Class → Pid → ℕ → Call A → List Reply → List Mark
marks_early classes p n c [] = []
marks_early classes p n (Tell x c) (r ∷ rs) = told_mark p n x ++ marks_early classes p n c (r ∷ rs)
marks_early classes p n (Ask op tag k) (r ∷ rs) = entry_mark classes p (suc n) op tag r ++ marks_early classes p (suc n) (k r) rs
marks_early classes p n _ (r ∷ rs) = []

-- and those behind it
abbrev pub marks_late : {A : Type 0} → Pid → ℕ → Call A → List Mark
marks_late p n (Tell x c) = told_mark p n x ++ marks_late p n c
marks_late p n _ = []

-- marks of the kinds that may be lost where memory runs out
abbrev pub may_be_lost : MarkKind → Bool
may_be_lost (mark.Saved change) = false
may_be_lost (mark.Deleted change) = false
may_be_lost mark.Raw = false
may_be_lost _ = true

abbrev pub is_raw : MarkKind → Bool
is_raw mark.Raw = true
is_raw _ = false

abbrev pub is_low : MarkKind → Bool
is_low mark.Low = true
is_low _ = false
