-- Classes of worked calls: accounts with a number of their own, savers below them, branches with their clerks.
use Rattle.std.specs.Prelude.{ℕ, pos, true, false, List, [], ◌∷◌, codes, Option, None}
use Rattle.obj_kinds.specs.declared.name.ClassName.{ClassName}
use Rattle.obj_kinds.specs.declared.node.Node.{Node}
use Rattle.obj_kinds.specs.declared.sub.Sub.{Sub}
use Rattle.obj_kinds.specs.declared.sub.Sub.TheVariants as sub
use Rattle.obj_kinds.specs.declared.value.Value.{Value}
use Rattle.obj_kinds.specs.declared.value.Value.TheVariants as value
use Rattle.schema_kinds.specs.declared.class.Class.{Class}
use Rattle.schema_kinds.specs.declared.class.Index.{Index}
use Rattle.schema_kinds.specs.declared.class.Sort.TheVariants.{Persistent}
use Rattle.schema_kinds.specs.declared.prop.Prop.{Prop}
use Rattle.schema_kinds.specs.declared.kind.Kind.{Kind}
use Rattle.schema_kinds.specs.declared.kind.Kind.TheVariants as kind
use Rattle.schema_kinds.specs.declared.kind.Item.TheVariants as of
use Rattle.schema_kinds.specs.declared.key.Key.{Key}
use Rattle.schema_kinds.specs.declared.record.Field.{Field}
use Rattle.schema_kinds.specs.declared.record.Field.TheVariants as field
use Rattle.schema_kinds.specs.declared.record.Record.{Record}

abbrev pub named : List ℕ → ClassName
named t = record { 0 = t }

abbrev pub account : ClassName
account = named (codes "Bank.Account")

abbrev pub saver : ClassName
saver = named (codes "Bank.Saver")

abbrev pub branch : ClassName
branch = named (codes "Bank.Branch")

abbrev pub clerk : ClassName
clerk = named (codes "Bank.Clerk")

abbrev pub prop : List ℕ → Kind → Prop
prop name kind = record { name = name; kind = kind; required = false; initial = []; max_len = None; min_val = None; max_val = None }

abbrev pub class : ClassName → ClassName → List Prop → List Index → Class
class name above props indexes = record { name = name; sort = Persistent; supers = above ∷ []; props = props; indexes = indexes; methods = [] }

abbrev pub account_props : List Prop
account_props = prop (codes "Owner") kind.Text ∷ prop (codes "Number") kind.Whole ∷ prop (codes "Next") (kind.Ref account) ∷ []

abbrev pub saver_props : List Prop
saver_props =
    prop (codes "Owner") kind.Text ∷ prop (codes "Number") kind.Whole ∷ prop (codes "Next") (kind.Ref account) ∷ prop (codes "Rate") kind.Whole
    ∷ prop (codes "Notes") (kind.ArrayOf of.Text) ∷ []

abbrev pub by_number : List Index
by_number = record { name = codes "NumIdx"; props = codes "Number" ∷ []; unique = true } ∷ []

abbrev pub bank : List Class
bank =
    class account (named (codes "%Persistent")) account_props by_number
    ∷ class saver account saver_props by_number
    ∷ class branch (named (codes "%Persistent")) (prop (codes "Name") kind.Text ∷ prop (codes "Clerks") (kind.Many clerk (codes "Branch")) ∷ []) []
    ∷ class clerk (named (codes "%Persistent")) (prop (codes "Name") kind.Text ∷ prop (codes "Branch") (kind.One branch (codes "Clerks")) ∷ []) []
    ∷ []

-- ---- keys, nodes and values

abbrev pub key_in : ClassName → ℕ → Key
key_in extent i = record { extent = extent; id = i ∷ [] }

abbrev pub num : ℕ → Sub
num i = sub.Num (pos i)

abbrev pub word : List ℕ → Sub
word t = sub.Str t

abbrev pub node : List ℕ → List Sub → Node
node global subs = record { global = global; subs = subs }

abbrev pub account_row : ℕ → Node
account_row i = node (codes "Bank.AccountD") (num i ∷ [])

-- the key node of a number, and the entry of an account below it
abbrev pub number_node : ℕ → Node
number_node n = node (codes "Bank.AccountI") (word (codes "NumIdx") ∷ num n ∷ [])

abbrev pub number_entry : ℕ → ℕ → Node
number_entry n i = node (codes "Bank.AccountI") (word (codes "NumIdx") ∷ num n ∷ num i ∷ [])

abbrev pub branch_row : ℕ → Node
branch_row i = node (codes "Bank.BranchD") (num i ∷ [])

abbrev pub clerk_row : ℕ → Node
clerk_row i = node (codes "Bank.ClerkD") (num i ∷ [])

abbrev pub members_of : ℕ → Node
members_of i = node (codes "Bank.ClerkI") (word (codes "Branch") ∷ num i ∷ [])

abbrev pub member_entry : ℕ → ℕ → Node
member_entry b i = node (codes "Bank.ClerkI") (word (codes "Branch") ∷ num b ∷ num i ∷ [])

abbrev pub texts : List (List ℕ) → List Value
texts [] = []
texts (t ∷ ts) = value.Str t ∷ texts ts

-- a row, with its marker first
abbrev pub row : List (List ℕ) → Value
row ts = value.List (texts ts)

abbrev pub nothing : Value
nothing = value.Str []

-- ---- records

abbrev pub account_record : List ℕ → List ℕ → Option (List ℕ) → Record
account_record owner number next = record { class = account; fields = field.Plain owner ∷ field.Plain number ∷ field.Target next ∷ [] }

abbrev pub saver_record : List ℕ → List ℕ → List (Sub × Field) → Record
saver_record owner rate notes =
    record { class = saver; fields = field.Plain owner ∷ field.Plain [] ∷ field.Target None ∷ field.Plain rate ∷ field.Map notes ∷ [] }

abbrev pub branch_record : List ℕ → Record
branch_record name = record { class = branch; fields = field.Plain name ∷ [] }

abbrev pub clerk_record : List ℕ → Option (List ℕ) → Record
clerk_record name target = record { class = clerk; fields = field.Plain name ∷ field.Target target ∷ [] }
