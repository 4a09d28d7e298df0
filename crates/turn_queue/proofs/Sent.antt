-- A seat may go to another thread, since a store may.
use denote.RattleType.{RattleType}
use denote.Param.Send.{IsSend, view_send, recorded_send, struct_send}
use denote.Struct.Declared.{shape}
use Rattle.store_core.specs.contracts.store.Store as store
use Rattle.std.proofs.option.Option.TheSendSync as option_sent
use Rattle.atomic_table.proofs.shared.Seat.TheSendSync as pass_sent
use Rattle.crossbeam_queue.specs.contracts.array_queue.Slotted as queue
use Rattle.crossbeam_queue.specs.contracts.array_queue.Doing as doing
use Rattle.crossbeam_queue.specs.contracts.array_queue.Turns as turns
use Rattle.crossbeam_queue.specs.contracts.array_queue.TurnsTableRuleOptionDoingUnit.TheImpl as turns_rule
use Rattle.std.specs.contracts.option.Option as option
use Rattle.crossbeam_queue.proofs.array_queue.Slotted.TheSendSync as queue_sent
use Rattle.std.proofs.sync.Arc.TheSendSync as arc_sent
use Rattle.std.specs.contracts.sync.Arc as arc
use Rattle.std.specs.contracts.alloc.Global as heap_type
use Rattle.std.specs.contracts.impls.GlobalAllocator.TheImpl as heap_ghosts
use Rattle.std.proofs.alloc.Global.TheSendSync as heap
use Rattle.std.proofs.Crossing.{frees}
use Rattle.turn_queue.specs.contracts.view.View as view
use Rattle.turn_queue.specs.contracts.rule.OneStore as one_store
use Rattle.turn_queue.specs.contracts.rule.OneStoreProtocolStoreView.TheImpl as protocol
use Rattle.turn_queue.specs.contracts.seat.Seat.{the_row}
use Rattle.turn_queue.specs.contracts.seat.Seat.TheInside as inside

-- a queue that threads share
queue_crosses : (S D Q : RattleType) (g : _) → IsSend S → IsSend (arc.the_row (queue.the_row S D Q heap_type.the_row g heap_ghosts.ghosts) heap_type.the_row heap_ghosts.ghosts)
queue_crosses S D Q g s = arc_sent.the_send _ _ _ (queue_sent.the_send S D Q _ g _ s heap.the_send frees) heap.the_send (queue_sent.the_sync S D Q _ g _ s heap.the_send heap.the_sync frees) heap.the_sync frees

abbrev S : RattleType
S = option.the_row store.the_row

abbrev D : RattleType
D = doing.the_row store.the_row view.the_row

inside_crosses : IsSend store.the_row → IsSend inside.the_row
inside_crosses s =
    let o : IsSend S = option_sent.the_send store.the_row s in
    recorded_send _ _ _ inside.the_type.to_one (struct_send (shape inside.the_type) (
      queue_crosses S D (turns.the_row one_store.the_row) (turns_rule.ghosts store.the_row view.the_row one_store.the_row protocol.ghosts turns_rule.no_dict) o,
      (pass_sent.the_send S D o, tt),
    ))

pub seat_crosses : IsSend store.the_row → IsSend the_row
seat_crosses s = view_send inside.the_row _ _ _ _ (inside_crosses s)
