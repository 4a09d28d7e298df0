-- Calls of which each operation may come, as long as no mark tells of a raw write or a low level; behind such a mark nothing is claimed.
use Rattle.std.specs.Prelude.{◌≡◌, ◌≢◌, ℕ, Bool, true, false, ◌||◌, List}
use Rattle.std.specs.List.{list_any}
use Rattle.obj_kinds.specs.declared.op.Pid.{Pid}
use Rattle.obj_kinds.specs.declared.op.Op.{Op}
use Rattle.obj_kinds.specs.declared.op.Op.TheVariants.{Set, Kill, Incr, End}
use Rattle.schema_kinds.specs.declared.class.Class.{Class}
use Rattle.schema_kinds.specs.Classes.{is_own_global}
use Rattle.schema_kinds.specs.Worlds.{Change}
use Rattle.store_core.specs.declared.entry.Entry.{Entry}
use Rattle.store_core.specs.Machine.{State, is_live, reply}
use Rattle.store_calls.specs.Calls.{Call, Give, Ask, Tell, Cut, Tag, Plain, Told, Low, Step, Asks, step, told}
use Rattle.host_meaning.specs.declared.ending.Ending.{Ending}
use Rattle.object_runs.specs.ObjectMachine.{Desks, desk_at}
use Rattle.object_runs.specs.Runs.{Both}
use Rattle.run_rules.specs.Steps.{MayCome, Event, next, after_all, AreFit}
use Rattle.run_rules.specs.Good.{Truth, AreOthers}

-- a script's write of a global that the schema owns
abbrev pub is_raw_write : List Class → Op → Tag → Bool
is_raw_write classes (Set n v) Plain = is_own_global classes n.global
is_raw_write classes (Kill n) Plain = is_own_global classes n.global
is_raw_write classes (Incr n k) Plain = is_own_global classes n.global
is_raw_write classes _ _ = false

abbrev pub is_low_told : Told → Bool
is_low_told Low = true
is_low_told _ = false

-- the entry is the next operation, no raw write, and no low level is told before it
abbrev pub IsKeptNext : List Class → Call Ending → Entry → Type 0
IsKeptNext classes c e = (tag : Tag) × (step c ≡ Asks e.op tag) × (is_raw_write classes e.op tag ≡ false) × (e.op ≢ End) × (list_any is_low_told (told c) ≡ false)

-- Whether a low level was told since the last operation is given with the call.
module _ (classes : List Class) (Facts : State → Desks → Pid → Change → Type 0) (truth : Truth) (p : Pid) where
  abbrev pub MeetsKept : {A : Type 0} → Call A → Bool → (A → Both → Type 0) → Both → Type 0
  MeetsKept (Give a) low post b = post a b
  MeetsKept Cut low post b = Unit {0}
  MeetsKept (Tell x c) low post b = truth (desk_at b.objects p.0).own x × MeetsKept c (low || is_low_told x) post b
  MeetsKept (Ask op tag k) low post b =
      low ≡ false → is_raw_write classes op tag ≡ false → op ≢ End
      → (es : List Event) → AreOthers p es → AreFit classes Facts b es → is_live (after_all b es).store p ≡ true
      → MayCome classes Facts (after_all b es).store (after_all b es).objects p op tag
      × MeetsKept (k (reply (after_all b es).store p op)) false post (next (after_all b es) p op tag)

  -- whatever it answers
  abbrev pub IsKeptGood : {A : Type 0} → Call A → Both → Type 0
  IsKeptGood c b = MeetsKept c false (λ a b. Unit {0}) b
