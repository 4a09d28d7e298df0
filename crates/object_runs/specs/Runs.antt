-- Runs: histories in which each process asks, prints and notes what its meaning says by its own replies, and ends as is told.
use Rattle.std.specs.Prelude.{◌≡◌, ◌⊎◌, ℕ, ◌≤◌, ◌<◌, true, cond, List, [], ◌∷◌, ◌++◌, map, length, ◌==◌}
use Rattle.obj_kinds.specs.declared.op.Pid.{Pid}
use Rattle.obj_kinds.specs.declared.op.Op.{Op}
use Rattle.obj_kinds.specs.declared.op.Op.TheVariants.{End}
use Rattle.obj_kinds.specs.declared.op.Reply.{Reply}
use Rattle.schema_kinds.specs.declared.class.Class.{Class}
use Rattle.global_tree.specs.Contents.{Globals}
use Rattle.store_core.specs.declared.entry.Entry.{Entry}
use Rattle.store_core.specs.Machine.{State, opening, after}
use Rattle.store_core.specs.History.{IsLegalWithin, state_after, entry_of, part_of}
use Rattle.store_core.specs.Volume.{volume}
use Rattle.store_core.specs.Within.{AreLegal, AreLegalOps}
use Rattle.store_calls.specs.Calls.{Call, Tag, Plain, Step, Asks, Answers, step, answered, left}
use Rattle.host_meaning.specs.declared.ending.Ending.{Ending}
use Rattle.host_meaning.specs.declared.ending.Ending.TheVariants as ending
use Rattle.object_runs.specs.declared.mark.Mark.{Mark}
use Rattle.object_runs.specs.Marks.{printed, printed_early, marks_of, marks_early, marks_late, may_be_lost}
use Rattle.object_runs.specs.ObjectMachine.{Desks, desks_after, first_desks}
use Rattle.schema_kinds.specs.Worlds.{World}

-- the meaning of each process
abbrev pub Meaning : Type 0
Meaning = ℕ → Call Ending

-- each operation is the one that is asked by the replies before it
abbrev pub AreAsked : Call Ending → List Entry → Type 0
AreAsked c [] = Unit {0}
AreAsked c (e ∷ es) = ((tag : Tag) × (step c ≡ Asks e.op tag)) × AreAsked (answered c e.reply) es

abbrev pub replies : List Entry → List Reply
replies es = map (λ e. e.reply) es

-- ---- prints

abbrev pub Pieces : Type 0
Pieces = List (List ℕ)

-- the first is the beginning of the second
abbrev pub BeginsWith : Pieces → Pieces → Type 0
BeginsWith all front = (rest : Pieces) × (all ≡ front ++ rest)

-- some of what is printed, with all that is printed before the last operation
abbrev pub IsCutShort : Call Ending → List Reply → Pieces → Type 0
IsCutShort c rs pieces = BeginsWith (printed c rs) pieces × BeginsWith pieces (printed_early c rs)

-- and there is a further piece
abbrev pub HasMore : Call Ending → List Reply → Pieces → Type 0
HasMore c rs pieces = (piece : List ℕ) × (rest : Pieces) × (printed c rs ≡ pieces ++ piece ∷ rest)

-- ---- marks

-- some that may be lost are
abbrev pub LosesSome : List Mark → List Mark → Type 0
LosesSome [] kept = kept ≡ []
LosesSome (m ∷ ms) kept =
    ((rest : List Mark) × (kept ≡ m ∷ rest) × LosesSome ms rest) ⊎ ((may_be_lost m.kind ≡ true) × LosesSome ms kept)

abbrev pub AreNoted : List Class → Pid → Call Ending → List Reply → List Mark → Type 0
AreNoted classes p c rs marks = marks ≡ marks_of classes p c rs

-- where memory ran out, of those behind the last reply
abbrev pub AreMostlyNoted : List Class → Pid → Call Ending → List Reply → List Mark → Type 0
AreMostlyNoted classes p c rs marks =
    (kept : List Mark) × (marks ≡ marks_early classes p 0 c rs ++ kept) × LosesSome (marks_late p (length rs) (left c rs)) kept

-- ---- endings

-- the next operation would pass the volume at the place of the process's End
abbrev pub PassesVolume : ℕ → State → List Entry → Pid → Call Ending → Type 0
PassesVolume most s front p c =
    (op : Op) × (tag : Tag) × (step c ≡ Asks op tag) × (most < volume (front ++ entry_of (state_after s front) p op ∷ []))

-- the process, which got these replies, ended so, where `front` came before its End
pub record EndsByMeaning (e : Ending) (c : Call Ending) (rs : List Reply) (pieces : Pieces) : Type 0 where
  pub answer : step (left c rs) ≡ Answers e
  pub prints : pieces ≡ printed c rs

abbrev pub EndsSo : ℕ → State → List Entry → Pid → Ending → Call Ending → List Reply → Pieces → Type 0
EndsSo most s front p ending.NoMemory c rs pieces = IsCutShort c rs pieces
EndsSo most s front p ending.DeviceFault c rs pieces = IsCutShort c rs pieces × HasMore c rs pieces
EndsSo most s front p ending.Volume c rs pieces = PassesVolume most s front p (left c rs) × (pieces ≡ printed c rs)
EndsSo most s front p e c rs pieces = EndsByMeaning e c rs pieces

abbrev pub NotesSo : List Class → Pid → Ending → Call Ending → List Reply → List Mark → Type 0
NotesSo classes p ending.NoMemory c rs marks = AreMostlyNoted classes p c rs marks
NotesSo classes p e c rs marks = AreNoted classes p c rs marks

-- ---- a process of a run

-- what is told of a process: how it ended, what it printed and what it noted
pub record Outcome : Type 0 where
  pub ending : Ending
  pub prints : Pieces
  pub marks : List Mark

pub record IsProcessOf (classes : List Class) (c : Call Ending) (most : ℕ) (s : State) (p : Pid) (history : List Entry) (o : Outcome) : Type 0 where
  -- its entries, and the End behind them
  pub own : List Entry
  pub front : List Entry
  pub rest : List Entry
  pub last : Entry
  pub parts : history ≡ front ++ last ∷ rest
  pub is_end : (last.pid ≡ p) × (last.op ≡ End)
  pub entries : part_of p.0 front ≡ own
  pub no_more : part_of p.0 rest ≡ []
  -- what it asks, how it ends, what it prints and notes
  pub asked : AreAsked c own
  pub ends : EndsSo most s front p o.ending c (replies own) o.prints
  pub notes : NotesSo classes p o.ending c (replies own) o.marks

-- ---- runs

-- of so many processes, each with its meaning, from globals, within a volume
pub record Runs (classes : List Class) (meaning : Meaning) (pids most : ℕ) (g : Globals) (history : List Entry) (outcome : ℕ → Outcome) : Type 0 where
  pub legal : IsLegalWithin most (opening pids g) history
  pub globals : AreLegal g
  pub ops : AreLegalOps history
  pub processes : (p : Pid) → 1 ≤ p.0 → p.0 ≤ pids → IsProcessOf classes (meaning p.0) most (opening pids g) p history (outcome p.0)

-- ---- both machines side by side

pub record Both : Type 0 where
  pub store : State
  pub objects : Desks

abbrev pub tag_by : Step Ending → Tag
tag_by (Asks op tag) = tag
tag_by _ = Plain

-- what is left of each meaning behind an entry
abbrev pub meaning_after : Meaning → Entry → Meaning
meaning_after meaning e p = cond (p == e.pid.0) (answered (meaning p) e.reply) (meaning p)

abbrev pub moved : Meaning → Both → Entry → Both
moved meaning b e = record { store = after b.store e.pid e.op; objects = desks_after b.objects e.pid.0 e.op e.reply (tag_by (step (meaning e.pid.0))) }

-- both machines behind the entries
abbrev pub ran : Meaning → Both → List Entry → Both
ran meaning b [] = b
ran meaning b (e ∷ es) = ran (meaning_after meaning e) (moved meaning b e) es

-- what is left of each meaning then
abbrev pub meaning_ran : Meaning → List Entry → Meaning
meaning_ran meaning [] = meaning
meaning_ran meaning (e ∷ es) = meaning_ran (meaning_after meaning e) es

abbrev pub start : ℕ → Globals → World → Both
start pids g w = record { store = opening pids g; objects = first_desks w }
