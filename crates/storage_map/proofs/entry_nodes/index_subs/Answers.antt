use Rattle.std.proofs.Common.{rules, ◌≡◌, ◌∷◌, [], List, ℕ, true, None, sym, ◌∙◌}
use Rattle.storage_map.specs.Entries.{with_fields, value_of}
use Rattle.storage_map.proofs.EntryLaws.{key_is, key_done, key_refused, nil_of}
use Rattle.storage_map.proofs.entry_nodes.index_subs.Goals as goal

pub returns : goal.returns
returns c =
    let valued = with_fields c.args.props.now c.args.fields.now in
    let none : c.loop-name.names.now ≡ [] = nil_of c.loop-name.names.now c.in_default.ensures.cases in
    key_done c.args.index.now.unique (λ name. value_of name valued) c.loop-name.subs c.loop-name.names.now none c.loop-name.invariant ∙ sym (key_is c.args.index.now valued)

pub returns-then-is_none : goal.returns-then-is_none
returns-then-is_none c =
    let valued = with_fields c.args.props.now c.args.fields.now in
    let next : c.loop-name.names.now ≡ c.in-Some.name.now ∷ c.in-Some.rest.now = search rules in
    let unique : c.args.index.now.unique ≡ true = search rules in
    let empty : value_of c.in-Some.name.now valued ≡ None = search rules in
    key_refused c.args.index.now.unique (λ name. value_of name valued) c.loop-name.subs c.loop-name.names.now c.in-Some.name.now c.in-Some.rest.now next unique empty c.loop-name.invariant ∙ sym (key_is c.args.index.now valued)
