-- What a call answers where the store replies and nobody writes meanwhile; and what a read of a key then answers, by the nodes of the
-- globals.
use Rattle.std.specs.Prelude.{◌≡◌, ℕ, ◌<◌, cond, List, [], ◌∷◌, length, Option, None, Some}
use Rattle.std.specs.FinMap.{find, get, entries}
use Rattle.obj_kinds.specs.declared.node.Node.{Node}
use Rattle.obj_kinds.specs.declared.sub.Sub.{Sub}
use Rattle.obj_kinds.specs.declared.sub.Sub.TheVariants.{Str}
use Rattle.obj_kinds.specs.declared.value.Value.{Value}
use Rattle.obj_kinds.specs.declared.op.Op.{Op}
use Rattle.obj_kinds.specs.declared.op.Pid.{Pid}
use Rattle.obj_kinds.specs.declared.op.Reply.{Reply}
use Rattle.obj_kinds.specs.declared.cause.Cause.TheVariants as cause
use Rattle.obj_kinds.specs.Order.{node_cmp}
use Rattle.schema_kinds.specs.declared.class.Class.{Class}
use Rattle.schema_kinds.specs.declared.key.Key.{Key}
use Rattle.schema_kinds.specs.declared.record.Record.{Record}
use Rattle.record_layout.specs.Rows.{Globals, data_node, below, rows}
use Rattle.record_layout.specs.Schemas.{IsStorable}
use Rattle.record_layout.specs.Reading.{Reading, Read, Damaged}
use Rattle.storage_map.specs.Entries.{has_legal_entries}
use Rattle.record_reading.specs.Keys.{keys_below}
use Rattle.record_reading.specs.Rows.{read_record}
use Rattle.record_reading.specs.Damage.{damage}
use Rattle.record_reading.specs.Laws.{IsStoredAt}
use Rattle.store_core.specs.Machine.{State, reply}
use Rattle.store_calls.specs.Calls.{Call, Give, Ask, Tell, Cut, Tag, Tried, Got, Lost}
use Rattle.object_calls.specs.Extents.{refuses_none}
use Rattle.object_calls.specs.Reading.{read}

-- none where it is cut
abbrev pub undisturbed : {A : Type 0} → (Op → Reply) → Call A → Option A
undisturbed replies (Give a) = Some a
undisturbed replies (Tell x c) = undisturbed replies c
undisturbed replies Cut = None
undisturbed replies (Ask op tag k) = undisturbed replies (k (replies op))

-- a record of which an entry would pass a limit is damaged at its row
abbrev pub limited : List Class → Key → Record → Tried (Option Record)
limited classes key r = cond (has_legal_entries classes key r) (Got (Some r)) (Lost (cause.Damaged (data_node key)))

-- what was read of nodes, or the node that is damaged
abbrev pub told_reading : List Class → Key → Reading Record → Tried (Option Record)
told_reading classes key (Read r) = limited classes key r
told_reading classes key (Damaged way) = Lost (cause.Damaged (below (data_node key) way))

abbrev pub told_by_row : List Class → Key → List (Node × Value) → Option Value → Tried (Option Record)
told_by_row classes key nodes None = Got None
told_by_row classes key nodes (Some row) = told_reading classes key (read_record classes key nodes)

-- the record of a key that nodes give, none where there is no row, or the node that is damaged
unfoldable pub record_told : List Class → Key → List (Node × Value) → Tried (Option Record)
record_told classes key nodes = told_by_row classes key nodes (find node_cmp (data_node key) nodes)

-- no array of the key has as many elements as a walk may make turns
abbrev pub HasFewElements : Key → List (Node × Value) → ℕ → Type 0
HasFewElements key nodes most = (name : List ℕ) → length (keys_below (below (data_node key) (Str name ∷ [])) nodes) < most

-- a read by the store's replies answers what the nodes of its globals tell
abbrev pub ReadsTellNodes : Type 0
ReadsTellNodes =
    (classes : List Class) (key : Key) (tag : Tag) (most : ℕ) (s : State) (p : Pid) → HasFewElements key (entries s.globals) most
    → undisturbed (reply s p) (read classes key tag most refuses_none) ≡ Some (record_told classes key (entries s.globals))

-- so it answers the record that nodes are read as, where none of them is damaged
abbrev pub ReadsAnswerRecords : Type 0
ReadsAnswerRecords =
    (classes : List Class) (key : Key) (tag : Tag) (most : ℕ) (s : State) (p : Pid) (r : Record) → HasFewElements key (entries s.globals) most
    → damage classes key (entries s.globals) ≡ None → read_record classes key (entries s.globals) ≡ Read r
    → undisturbed (reply s p) (read classes key tag most refuses_none) ≡ Some (Got (Some r))

-- at and below the row of the key the globals have what the rows of the record have there, and nothing else
abbrev pub HoldsRecord : List Class → Key → Globals → Record → Type 0
HoldsRecord classes key g r = (way : List Sub) → get g (below (data_node key) way) ≡ get (rows classes key r) (below (data_node key) way)

-- the record of an object and the rows of its key: a read answers the record whose rows stand there
abbrev pub ReadsAnswerStoredRecords : Type 0
ReadsAnswerStoredRecords =
    (classes : List Class) (key : Key) (tag : Tag) (most : ℕ) (s : State) (p : Pid) (r : Record) → HasFewElements key (entries s.globals) most
    → IsStorable classes r.class → IsStoredAt classes key r → HoldsRecord classes key s.globals r
    → undisturbed (reply s p) (read classes key tag most refuses_none) ≡ Some (Got (Some r))
