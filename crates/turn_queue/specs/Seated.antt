-- What a seat is seen as, and what its calls say.
use Rattle.std.specs.Prelude.{◌≡◌, ◌≢◌, ◌<◌, ◌≤◌, List, [], Option, Some, None, refl, All}
use Rattle.std.specs.Coded.{Coded, code_by, coded×, coded_list}
use Rattle.crossbeam_queue.specs.Passes.{Pass, view, IsPassOf, ruled_capacity}
use Rattle.crossbeam_queue.specs.declared.array_queue.Doing.{Doing}
use Rattle.crossbeam_queue.specs.declared.array_queue.Slotted.{Slotted}
use Rattle.atomic_table.specs.Seated.{TableId, table_id_coded}
use Rattle.obj_kinds.specs.declared.op.Pid.{Pid}
use Rattle.obj_kinds.specs.declared.op.Op.{Op}
use Rattle.obj_kinds.specs.declared.op.Reply.{Reply}
use Rattle.store_core.specs.declared.entry.Entry.{Entry}
use Rattle.store_core.specs.Machine.{reply as answer_to}
use Rattle.store_core.specs.Within.{AreLegalOps}
use Rattle.store_core.specs.Ledger.{Ledger, IsSound, state_of, next_entry, end_entry, volume_with}
use Rattle.store_core.specs.LedgerCode.{ledger_code}
use Rattle.turn_queue.specs.declared.view.Part.{Part}
use Rattle.turn_queue.specs.declared.view.View.{View}
use Rattle.turn_queue.specs.contracts.view.Part as part
use Rattle.turn_queue.specs.Parts.{as_opened, Fits, entered}

pub record Seated : Type 0 where
  pub queue : TableId  -- the one that it takes the store from
  pub opened : Ledger  -- the store as it was opened
  pub parts : List Part  -- its processes, and what each has done

abbrev pub seated_code : Coded Seated
seated_code =
    code_by (TableId × (Ledger × List Part)) (coded× table_id_coded (coded× ledger_code (coded_list (part.the_row).coded)))
    (λ s. (s.queue, (s.opened, s.parts)))
    (λ p. record { queue = p.0; opened = p.1.0; parts = p.1.1 })
    (λ _. refl)

abbrev pub seated : Pass Ledger View → Seated
seated p = record { queue = p.table_id; opened = (view p).opened; parts = (view p).parts }

-- no bytes, no slot and no store are out with it, and it speaks for some process
pub record IsIdle {Q A : Type 0} (queue : Slotted (Option Ledger) (Doing Ledger View) Q A) (p : Pass Ledger View) : Type 0 where
  pub pass : IsPassOf queue p
  pub one : ruled_capacity queue ≡ 1
  pub idle : (view p).taken ≡ None
  pub some : (view p).parts ≢ []

-- a store as it can be while the seat has it: its history is legal within its volume, and its operations
-- are within the limits; it was opened as the seat says, and has just the seat's entries of each of the
-- seat's processes
pub record IsAt (s : Seated) (l : Ledger) : Type 0 where
  pub sound : IsSound l
  pub limits : AreLegalOps l.history
  pub opened : as_opened l ≡ s.opened
  pub fits : All (Fits l) s.parts

-- the entry of one of the seat's processes was added, and an operation of it refused or none
abbrev pub seat_entered : Seated → Entry → Option Op → Seated
seat_entered s e refused = record s { parts = entered e refused s.parts }

-- with these of its processes
abbrev pub seat_with : Seated → List Part → Seated
seat_with s parts = record s { parts = parts }

-- a turn carried the operation out while the store was so, and answered what the store machine does
pub record HasReplied (s t : Seated) (l : Ledger) (p : Pid) (op : Op) (r : Reply) : Type 0 where
  pub at : IsAt s l
  pub reply : r ≡ answer_to (state_of l) p op
  pub room : volume_with l (next_entry l p op) ≤ l.limit
  pub entered : t ≡ seat_entered s (next_entry l p op) None

-- a turn found no room for the entry of the operation, and ended the process in its place
pub record HasNoRoom (s t : Seated) (l : Ledger) (p : Pid) (op : Op) : Type 0 where
  pub at : IsAt s l
  pub passes : l.limit < volume_with l (next_entry l p op)
  pub ended : t ≡ seat_entered s (end_entry p) (Some op)
