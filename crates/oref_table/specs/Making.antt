-- Objects that are made together: they get the next numbers in order, and the OREFs in their slots may name each other.
use Rattle.std.specs.Prelude.{ℕ, ◌+◌, false, None, List, [], ◌∷◌}
use Rattle.std.specs.List.{flat_map}
use Rattle.oref_table.specs.declared.obj.Entry.{Entry}
use Rattle.oref_table.specs.declared.obj.NewObj.{NewObj}
use Rattle.oref_table.specs.Refs.{refs_in}
use Rattle.oref_table.specs.Memory.{Object, Memory, with_object, fresh}

-- an object of the next number, with one hold outside and neither an id nor a mark
abbrev pub fresh_of : Memory → NewObj → Object
fresh_of m n = fresh m n.class n.extent None n.level n.slots

-- with each of them, in order
abbrev pub with_all : Memory → List NewObj → Memory
with_all m [] = m
with_all m (n ∷ ns) = with_all (with_object m (fresh_of m n)) ns

-- the OREFs that stand in their slots
abbrev pub refs_of_new : List NewObj → List ℕ
refs_of_new ns = flat_map (λ n. refs_in n.slots) ns

-- what the code keeps of them
abbrev pub entry_of_new : ℕ → NewObj → Entry
entry_of_new number n = record {
  number = number;
  obj = record { class = n.class; extent = n.extent; id = None; level = n.level; modified = false; slots = n.slots; count = 1 };
}

abbrev pub new_entries : ℕ → List NewObj → List Entry
new_entries last [] = []
new_entries last (n ∷ ns) = entry_of_new (last + 1) n ∷ new_entries (last + 1) ns
