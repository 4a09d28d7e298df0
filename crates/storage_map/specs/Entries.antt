-- The entries of a record in the index global of its extent.
use Rattle.std.specs.Prelude.{ℕ, ◌-◌, cond, not, ◌&&◌, nat_le, Bool, List, [], ◌∷◌, ◌++◌, map, filter, codes, Option, None, Some, is_some, option_map}
use Rattle.std.specs.List.{filter_map, list_all, list_any}
use Rattle.std.specs.FinMap.{from_entries}
use Rattle.obj_kinds.specs.declared.node.Node.{Node}
use Rattle.obj_kinds.specs.declared.sub.Sub.{Sub}
use Rattle.obj_kinds.specs.declared.sub.Sub.TheVariants.{Str}
use Rattle.obj_kinds.specs.declared.value.Value.{Value}
use Rattle.obj_kinds.specs.declared.value.Value.TheVariants as value
use Rattle.obj_kinds.specs.Subscript.{sub_of}
use Rattle.obj_kinds.specs.Ids.{id_text}
use Rattle.obj_kinds.specs.Limits.{is_legal_node}
use Rattle.schema_kinds.specs.declared.class.Class.{Class}
use Rattle.schema_kinds.specs.declared.class.Index.{Index}
use Rattle.schema_kinds.specs.declared.key.Key.{Key}
use Rattle.schema_kinds.specs.declared.kind.Kind.{Kind}
use Rattle.schema_kinds.specs.declared.kind.Kind.TheVariants as kind
use Rattle.schema_kinds.specs.declared.prop.Prop.{Prop}
use Rattle.schema_kinds.specs.declared.record.Field.{Field}
use Rattle.schema_kinds.specs.declared.record.Field.TheOpen.{Field-F}
use Rattle.schema_kinds.specs.declared.record.Field.TheViews.{out-Field}
use Rattle.schema_kinds.specs.declared.record.Record.{Record}
use Rattle.schema_kinds.specs.Hierarchy.{same_text}
use Rattle.schema_kinds.specs.Classes.{class_of}
use Rattle.record_layout.specs.Shapes.{form_of}
use Rattle.record_layout.specs.Rows.{Globals}

-- the properties that have fields, each with its field
abbrev pub pair_up : List Prop → List Field → List (Prop × Field)
pair_up [] fields = []
pair_up (p ∷ ps) [] = []
pair_up (p ∷ ps) (f ∷ fs) = (p, f) ∷ pair_up ps fs

abbrev pub with_fields : List Prop → List Field → List (Prop × Field)
with_fields props fields = pair_up (filter (λ p. is_some (form_of p.kind)) props) fields

abbrev pub capital : ℕ → ℕ
capital byte = cond (nat_le 97 byte && nat_le byte 122) (byte - 32) byte

-- what an indexed value is in an entry; an empty one is nothing
abbrev pub indexed : Kind → Field-F Field → Option Sub
indexed k (Field-F.Plain []) = None
indexed kind.Text (Field-F.Plain (byte ∷ text)) = Some (Str (32 ∷ map capital (byte ∷ text)))
indexed k (Field-F.Plain (byte ∷ text)) = Some (sub_of (byte ∷ text))
indexed k (Field-F.Target (Some id)) = Some (sub_of (id_text id))
indexed k _ = None

-- the value of the property of that name
abbrev pub value_of : List ℕ → List (Prop × Field) → Option Sub
value_of name [] = None
value_of name (e ∷ es) = cond (same_text name e.0.name) (indexed e.0.kind (out-Field e.1)) (value_of name es)

-- an empty value stands as one blank
abbrev pub or_blank : Option Sub → Sub
or_blank None = Str (codes " ")
or_blank (Some s) = s

-- the key of an index; a unique one has none where a part is empty
unfoldable pub index_key : Index → List (Prop × Field) → Option (List Sub)
index_key index valued =
    let values = map (λ name. value_of name valued) index.props in
    cond (index.unique && list_any (λ v. not (is_some v)) values) None (Some (map or_blank values))

abbrev pub index_global : Key → List ℕ
index_global key = key.extent.0 ++ codes "I"

-- the node of a key of that name; entries with the key stand below it
unfoldable pub key_node : Key → List ℕ → List Sub → Node
key_node key name subs = record { global = index_global key; subs = Str name ∷ subs }

unfoldable pub entry_node : Key → List ℕ → List Sub → Node
entry_node key name subs = key_node key name (subs ++ sub_of (id_text key.id) ∷ [])

abbrev pub entry_if : Key → List ℕ → Option (List Sub) → Option Node
entry_if key name None = None
entry_if key name (Some subs) = Some (entry_node key name subs)

abbrev pub side_entry : Key → Prop × Field → Kind → Option Node
side_entry key e (kind.One class side) = entry_if key e.0.name (option_map (λ s. s ∷ []) (indexed e.0.kind (out-Field e.1)))
side_entry key e _ = None

abbrev pub index_entries : Key → List Index → List (Prop × Field) → List Node
index_entries key indexes valued = filter_map (λ i. entry_if key i.name (index_key i valued)) indexes

abbrev pub side_entries : Key → List (Prop × Field) → List Node
side_entries key valued = filter_map (λ e. side_entry key e e.0.kind) valued

-- of the indexes in order, and then of the one sides in order
abbrev pub entry_nodes : Key → List Index → List (Prop × Field) → List Node
entry_nodes key indexes valued = index_entries key indexes valued ++ side_entries key valued

abbrev pub indexes_of : Option Class → List Index
indexes_of None = []
indexes_of (Some c) = c.indexes

abbrev pub props_in : Option Class → List Prop
props_in None = []
props_in (Some c) = c.props

unfoldable pub entry_list : List Class → Key → Record → List Node
entry_list classes key r = let c = class_of classes r.class in entry_nodes key (indexes_of c) (with_fields (props_in c) r.fields)

-- each entry of the record is within the limits of a node
unfoldable pub has_legal_entries : List Class → Key → Record → Bool
has_legal_entries classes key r = list_all is_legal_node (entry_list classes key r)

-- an entry has the empty text
abbrev pub valued_empty : List Node → List (Node × Value)
valued_empty nodes = map (λ n. (n, value.Str [])) nodes

unfoldable pub entries : List Class → Key → Record → Globals
entries classes key r = from_entries (valued_empty (entry_list classes key r))
