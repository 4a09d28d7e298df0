-- The classes of the worked processes as linking gives them, their scripts' words, and what is seen of a process.
use Rattle.std.specs.Prelude.{◌≡◌, ℕ, false, List, [], ◌∷◌, codes, map, Some, None}
use Rattle.obj_kinds.specs.declared.name.ClassName.{ClassName}
use Rattle.obj_kinds.specs.declared.op.Reply.{Reply}
use Rattle.schema_kinds.specs.declared.class.Class.{Class}
use Rattle.schema_kinds.specs.declared.prop.Prop.{Prop}
use Rattle.schema_kinds.specs.declared.kind.Kind.TheVariants as kind
use Rattle.schema_kinds.specs.declared.kind.Item.TheVariants as of
use Rattle.os_meaning.specs.Syntax as s
use Rattle.os_meaning.specs.Syntax.{Name, Expr, Exprs, Action, Assignment, Command}
use Rattle.os_meaning.specs.Samples.{lit, var, one, block}
use Rattle.store_calls.specs.Calls.{Prints}
use Rattle.object_calls.specs.Banking.{named, account, saver, branch, clerk, prop, class, by_number}
use Rattle.object_calls.specs.Shown.{Shown, Noted, Answers, shown}
use Rattle.host_meaning.specs.declared.ending.Ending.{Ending}
use Rattle.host_meaning.specs.declared.ending.Ending.TheVariants as ending
use Rattle.host_meaning.specs.Methods.{Program}
use Rattle.host_meaning.specs.Process.{process}
use Rattle.object_members.specs.MemberObjects.{objects_of}

-- ---- classes

-- a text has 50 bytes at most, where nothing else is said
abbrev pub text_prop : Name → Prop
text_prop name = record { name = name; kind = kind.Text; required = false; initial = []; max_len = Some 50; min_val = None; max_val = None }

abbrev pub account_props : List Prop
account_props = text_prop (codes "Owner") ∷ prop (codes "Number") kind.Whole ∷ prop (codes "Next") (kind.Ref account) ∷ []

abbrev pub saver_props : List Prop
saver_props =
    text_prop (codes "Owner") ∷ prop (codes "Number") kind.Whole ∷ prop (codes "Next") (kind.Ref account) ∷ prop (codes "Rate") kind.Whole
    ∷ prop (codes "Notes") (kind.ArrayOf of.Text) ∷ []

abbrev pub persistent : ClassName
persistent = named (codes "%Persistent")

-- accounts alone, accounts with savers, and branches with clerks
abbrev pub accounts : List Class
accounts = class account persistent account_props by_number ∷ []

abbrev pub savers : List Class
savers = class account persistent account_props by_number ∷ class saver account saver_props by_number ∷ []

abbrev pub branches : List Class
branches =
    class branch persistent (text_prop (codes "Name") ∷ prop (codes "Clerks") (kind.Many clerk (codes "Branch")) ∷ []) []
    ∷ class clerk persistent (text_prop (codes "Name") ∷ prop (codes "Branch") (kind.One branch (codes "Clerks")) ∷ []) []
    ∷ []

-- ---- words of scripts

abbrev pub new : ClassName → Expr
new class = s.OnClass class (codes "%New") s.NoMore

abbrev pub opened : ClassName → List ℕ → Expr
opened class id = s.OnClass class (codes "%OpenId") (one (lit id))

abbrev pub opened_at : ClassName → List ℕ → List ℕ → Expr
opened_at class id level = s.OnClass class (codes "%OpenId") (s.More (lit id) (one (lit level)))

abbrev pub of_var : Name → Name → Expr
of_var x property = s.Property (var x) property

abbrev pub saves : Name → Expr
saves x = s.Method (var x) (codes "%Save") s.NoMore

abbrev pub to_var : Name → Expr → Assignment
to_var x e = record { target = s.OfPlace (s.Local x); value = e }

abbrev pub to_prop : Name → Name → Expr → Assignment
to_prop x property e = record { target = s.OfProperty (var x) property; value = e }

-- `Write e,!`
abbrev pub writes : Expr → Action
writes e = s.Write (Some e ∷ None ∷ [])

abbrev pub kills : Name → Action
kills x = s.Kill (s.Local x ∷ [])

-- ---- what is seen of a process

abbrev pub Seen : Type 0
Seen = Shown Ending

abbrev pub prints : List ℕ → Seen
prints t = Noted (Prints t)

abbrev pub new_line : Seen
new_line = Noted (Prints (10 ∷ []))

abbrev pub at_end : List Seen
at_end = Answers ending.Done ∷ []

-- a process, with how often it tries a lock and how many units it has, and the replies of the store
pub record Worked : Type 0 where
  pub classes : List Class
  pub tries : ℕ
  pub units : ℕ
  pub script : List Command
  pub replies : List Reply
  pub sees : List Seen

abbrev pub program : List Class → Program
program classes = record { classes = classes; bodies = map (λ c. []) classes; scripts = [] }

abbrev pub IsWorked : Worked → Type 0
IsWorked x = shown (process (objects_of x.classes x.tries x.units) (program x.classes) x.units (block x.script)) x.replies ≡ x.sees

-- with ten tries and a million units, as many as a process has where nothing else is said
abbrev pub plainly : List Class → List Command → List Reply → List Seen → Worked
plainly classes script replies sees = record { classes = classes; tries = 10; units = 1000000; script = script; replies = replies; sees = sees }
