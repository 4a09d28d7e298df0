use Rattle.std.proofs.Common.{◌≡◌, ◌++◌, map, length, option_map}
use Rattle.storage_map.specs.Entries.{with_fields, value_of}
use Rattle.storage_map.proofs.EntryLaws.{key_from}
use Rattle.storage_map.proofs.entry_nodes.index_subs.Given as goal

-- the subscripts so far, and those of the values that are left
abbrev pub invariant-loop-name : goal.invariant-loop-name
invariant-loop-name l =
    option_map (λ more. l.subs ++ more) (key_from l.index.unique (map (λ name. value_of name (with_fields l.props l.fields)) l.names))
    ≡ key_from l.index.unique (map (λ name. value_of name (with_fields l.props l.fields)) l.index.props)

abbrev pub decreases-loop-name : goal.decreases-loop-name
decreases-loop-name l = length l.names
