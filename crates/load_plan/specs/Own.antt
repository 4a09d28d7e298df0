-- Which operations a load can ask, whatever the replies: those on the nodes of its own key.
use Rattle.std.specs.Prelude.{◌≡◌, List, [], ◌∷◌}
use Rattle.obj_kinds.specs.declared.op.Op.{Op}
use Rattle.obj_kinds.specs.declared.op.Op.TheVariants as ops
use Rattle.obj_kinds.specs.declared.op.Reply.{Reply}
use Rattle.schema_kinds.specs.declared.key.Key.{Key}
use Rattle.record_layout.specs.Rows.{data_node}
use Rattle.store_calls.specs.Calls.{Call, Give, Ask, Tell, Cut}
use Rattle.read_plan.specs.Reads.{IsOwn}

-- a lock of the row of the key, or its giving back, or a read of the row or of a node below it
abbrev pub IsOfKey : Key → Op → Type 0
IsOfKey key (ops.Lock n mode owner keep) = n ≡ data_node key
IsOfKey key (ops.Unlock n mode owner) = n ≡ data_node key
IsOfKey key op = IsOwn key op

-- each operation that the call can ask, by whatever replies, is such a one
abbrev pub AsksOnly : {A : Type 0} → (Op → Type 0) → Call A → Type 0
AsksOnly P (Give a) = Unit {0}
AsksOnly P (Ask op tag k) = P op × ((r : Reply) → AsksOnly P (k r))
AsksOnly P (Tell x c) = AsksOnly P c
AsksOnly P Cut = Unit {0}

abbrev pub AreAll : (Op → Type 0) → List Op → Type 0
AreAll P [] = Unit {0}
AreAll P (op ∷ more) = P op × AreAll P more
