-- The headline, over runs: what is asked of the start and of the marks, and the four parts that then hold.
use Rattle.std.specs.Prelude.{◌≡◌, ℕ, ◌≤◌, true, false, cond, List, [], ◌∷◌, ◌++◌, Option, Some, None}
use Rattle.std.specs.FinMap.{get}
use Rattle.obj_kinds.specs.declared.node.Node.{Node}
use Rattle.obj_kinds.specs.declared.op.Pid.{Pid}
use Rattle.schema_kinds.specs.declared.class.Class.{Class}
use Rattle.schema_kinds.specs.Worlds.{World}
use Rattle.storage_map.specs.Worlds.{image}
use Rattle.global_tree.specs.Contents.{Globals}
use Rattle.store_core.specs.declared.entry.Entry.{Entry}
use Rattle.store_core.specs.Machine.{levels_at}
use Rattle.store_core.specs.Cleared.{cleared}
use Rattle.store_core.specs.Guard.{names}
use Rattle.store_core.specs.Live.{is_end}
use Rattle.store_calls.specs.Calls.{Told, Tag, Plain, Fails, Opens, Inside, step, told}
use Rattle.object_runs.specs.declared.mark.Mark.{Mark}
use Rattle.object_runs.specs.Marks.{is_raw, is_low}
use Rattle.object_runs.specs.ObjectMachine.{Desk, Within, desk_at, view}
use Rattle.object_runs.specs.Runs.{Meaning, Outcome, Runs, Both, start, moved, meaning_after, ran, meaning_ran, tag_by}
use Rattle.object_runs.specs.Causes.{Each, IsTrueTold}
-- ---- the start

-- which nodes are the schema's, and what a run may start with, stand with the audit, which answers such a world
unfoldable pub use Rattle.world_audit.specs.Openings.{is_object_node}
pub use Rattle.world_audit.specs.Openings.{is_bare, is_counter, first_number, Counts, is_extent_of, IsCounted, Opening}

-- ---- the marks

-- processes write persistent data by saves and deletes alone, and keep levels 2 to 4
abbrev pub IsKept : Mark → Type 0
IsKept m = (is_raw m.kind ≡ false) × (is_low m.kind ≡ false)

abbrev pub AreKept : ℕ → (ℕ → Outcome) → Type 0
AreKept pids outcome = (p : ℕ) → 1 ≤ p → p ≤ pids → Each IsKept (outcome p).marks

-- ---- the four parts

-- with open transactions undone the schema's nodes are the image of the committed saves and deletes
abbrev pub ClearedIsImage : List Class → Both → Type 0
ClearedIsImage classes b = (n : Node) → is_object_node classes n ≡ true → cleared b.store n ≡ image classes b.objects.world n

-- what a process within no save or delete has in a level is as its view has it
abbrev pub LevelsShowViews : List Class → Both → Type 0
LevelsShowViews classes b =
    (p : ℕ) (n : Node) → (desk_at b.objects p).within ≡ None → is_object_node classes n ≡ true
    → names (levels_at b.store p) n ≡ true → get b.store.globals n ≡ image classes (view b.objects p) n

-- what a process tells behind an entry; behind its end it tells nothing
abbrev pub told_behind : Meaning → Entry → List Told
told_behind meaning e = cond (is_end e.op) [] (told (meaning e.pid.0))

-- each load shows the view, and each failure has a true cause
abbrev pub TellsTrue : List Class → ℕ → Meaning → Both → List Entry → Type 0
TellsTrue classes tries meaning b [] = Unit {0}
TellsTrue classes tries meaning b (e ∷ es) =
    let next = moved meaning b e in
    let rest = meaning_after meaning e in
    Each (IsTrueTold classes tries (desk_at next.objects e.pid.0).own) (told_behind rest e) × TellsTrue classes tries rest next es

-- where a save or delete fails, the lists of its process are what they were before its Begin
abbrev pub IsUndone : Option Within → Tag → Desk → Type 0
IsUndone (Some s) Fails d = d.lists ≡ s.before
IsUndone s _ d = Unit {0}

-- and no entry of it but its Commit changes the world
abbrev pub KeepsWorld : Tag → World → World → Type 0
KeepsWorld Opens w v = v ≡ w
KeepsWorld Inside w v = v ≡ w
KeepsWorld Fails w v = v ≡ w
KeepsWorld _ w v = Unit {0}

-- what an entry is to the objects: a process that ends asks nothing of its call any more
abbrev pub tag_of : Meaning → Entry → Tag
tag_of meaning e = cond (is_end e.op) Plain (tag_by (step (meaning e.pid.0)))

abbrev pub FailuresChangeNothing : Meaning → Both → Entry → Type 0
FailuresChangeNothing meaning b e =
    let tag = tag_of meaning e in
    let next = moved meaning b e in
    IsUndone (desk_at b.objects e.pid.0).within tag (desk_at next.objects e.pid.0) × KeepsWorld tag b.objects.world next.objects.world

-- of a history, from this start, with these meanings; `tries` is how often a call of an object tries a lock
pub record Headline (classes : List Class) (tries : ℕ) (meaning : Meaning) (b : Both) (history : List Entry) : Type 0 where
  pub whole : (es fs : List Entry) → es ++ fs ≡ history → ClearedIsImage classes (ran meaning b es)
  pub levels : (es fs : List Entry) → es ++ fs ≡ history → LevelsShowViews classes (ran meaning b es)
  pub told_first : (p : Pid) → Each (IsTrueTold classes tries []) (told (meaning p.0))
  pub told_true : TellsTrue classes tries meaning b history
  pub failures : (es fs : List Entry) (e : Entry) → es ++ e ∷ fs ≡ history → FailuresChangeNothing (meaning_ran meaning es) (ran meaning b es) e

-- ---- the statement

-- each run of such meanings that starts as is asked and whose marks are kept has the four parts
abbrev pub KeepsHeadline : List Class → ℕ → (Meaning → Type 0) → Type 0
KeepsHeadline classes tries IsMeaning =
    (meaning : Meaning) (pids most : ℕ) (g : Globals) (w : World) (history : List Entry) (outcome : ℕ → Outcome)
    → IsMeaning meaning → Opening classes g w → AreKept pids outcome → Runs classes meaning pids most g history outcome
    → Headline classes tries meaning (start pids g w) history
