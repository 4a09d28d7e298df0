-- The grammar of scripts, as a manual prints it. The phrases below are these lines, with their limits and what they mean.
--
--   script      = { command | newline }
--   command     = "SET" [ post ] sarg { "," sarg }
--               | "WRITE" [ post ] warg { "," warg }
--               | "DO" [ post ] call { "," call }
--               | "QUIT" [ post ] [ expr ]                                                    no value within a loop
--               | "KILL" [ post ] [ karg { "," karg } ]
--               | "LOCK" [ post ] [ larg { "," larg } ]
--               | "TSTART" [ post ] | "TCOMMIT" [ post ] | "TROLLBACK" [ post ] [ "1" ] | "HALT" [ post ]
--               | "IF" expr { "," expr } block { "ELSEIF" expr { "," expr } block } [ "ELSE" block ]
--               | "FOR" [ name "=" expr ":" expr [ ":" expr ] ] block
--               | "WHILE" expr { "," expr } block
--   block       = { newline } "{" script "}" { newline }
--   post        = ":" expr
--   sarg        = target "=" expr
--   warg        = expr | "!"
--   karg        = name | global
--   larg        = "-" global [ "#" "S" ] | [ "+" ] global [ "#" "S" ] [ ":" expr ]
--   call        = an operand that ends in args
--   target      = name | global | operand "." name | ".." name
--   expr        = operand { operator operand }
--   operand     = { "+" | "-" | "'" } primary { "." name [ args ] }
--   primary     = digits | string | "(" expr ")" | name | global
--               | "%objlasterror" | "$TEST" | "$TLEVEL" | "$THIS"
--               | function args                                                               as many as the function has
--               | ( "$GET" | "$DATA" | "$INCREMENT" ) "(" ( name | global ) [ "," expr ] ")"   one alone for $DATA
--               | "$ORDER" "(" "^" gname "(" expr { "," expr } ")" ")"
--               | "##class(" cname ")." name args
--               | ".." name [ args ]
--   global      = "^" gname [ "(" expr { "," expr } ")" ]
--   args        = "(" [ expr { "," expr } ] ")"
--
-- Limits: 64 blocks and parentheses are open at most; a variable's name has 31 bytes, a member's 31, a class's 60 and a global's 64 at
-- most, a string 32,767. Tokens, short words and where blanks stand are in script_tokens.
--
-- Below, each production says which tokens stand there, which limits keep a token out, and what the tokens
-- mean; its language, its parser and their law come from it alone.
--
-- A phrase of type `Phrase I A` is given an I and says an A: `a & b` is one after the other, and says both, `a &> b` says what b
-- says, and `a <& b` what a says. `Or goes a b` is a where a token of the kinds `goes` comes next, else b, and `Many goes a` as
-- many a as such tokens begin. `f <$> a` says f of what was given and what a says. `With f a` is a, given f of what was given, and
-- `just a` an a that is given nothing. `Nest kinds limit r` is a token that opens, and then the phrase of the rule r.
--
-- The blanks of scripts stand in the tokens: where an operand may stand `-` is a sign, and behind an operand it is an operator.
use Rattle.std.specs.Prelude.{ℕ, ◌+◌, Bool, true, false, ◌&&◌, ◌||◌, if◌then◌else◌, nat_le, nat_lt, Option, Some, None, List, [], ◌∷◌, ◌++◌, length}
use Rattle.text_reading.specs.Tokens.{Bytes}
use Rattle.text_reading.specs.Places.{Placed, place_in}
use Rattle.text_reading.specs.Parsing.{Parser}
use Rattle.text_reading.specs.Phrases as phrases
use Rattle.text_reading.specs.Phrases.{Rules, Pure, Pick, Then, Or, Many, Nest, With, Grammar, reads, rule_parser}
use Rattle.text_reading.specs.PhraseWords.{◌<$>◌, ◌&◌, ◌&>◌, ◌<&◌, just, no_limit, spelled}
use Rattle.text_reading.specs.PhraseWords as words
use Rattle.script_tokens.specs.declared.token.Kind.{Kind}
use Rattle.script_tokens.specs.declared.token.Kind.TheVariants as k
use Rattle.script_tokens.specs.declared.error.ScriptWhy.{ScriptWhy}
use Rattle.script_tokens.specs.declared.error.ScriptWhy.TheVariants as why
use Rattle.script_tokens.specs.ScriptKinds.{is, same_kind, is_member, is_number, is_text, is_sign, is_operator, is_special, is_looking, is_function, begins_operand, is_command}
use Rattle.script_tokens.specs.ScriptTongue.{tongue}
use Rattle.os_kinds.specs.declared.expression.Sign.{Sign}
use Rattle.os_kinds.specs.declared.expression.Operator.{Operator}
use Rattle.os_kinds.specs.declared.expression.Function.{Function}
use Rattle.os_kinds.specs.declared.expression.GlobalReference.{GlobalReference}
use Rattle.os_kinds.specs.declared.expression.Place.{Place}
use Rattle.os_kinds.specs.declared.expression.Place.TheVariants as place
use Rattle.os_kinds.specs.declared.expression.Member.{Member}
use Rattle.os_kinds.specs.declared.expression.Operation.{Operation}
use Rattle.os_kinds.specs.declared.expression.Expression.{Expression}
use Rattle.os_kinds.specs.declared.expression.Expression.TheVariants as e
use Rattle.os_kinds.specs.declared.command.Target.{Target}
use Rattle.os_kinds.specs.declared.command.Target.TheVariants as target
use Rattle.os_kinds.specs.declared.command.Output.{Output}
use Rattle.os_kinds.specs.declared.command.Output.TheVariants as output
use Rattle.os_kinds.specs.declared.command.LockAction.{LockAction}
use Rattle.os_kinds.specs.declared.command.LockAction.TheVariants as lock
use Rattle.os_kinds.specs.declared.command.Claim.{Claim}
use Rattle.os_kinds.specs.declared.command.Assignment.{Assignment}
use Rattle.os_kinds.specs.declared.command.Counting.{Counting}
use Rattle.os_kinds.specs.declared.command.Action.{Action}
use Rattle.os_kinds.specs.declared.command.Action.TheVariants as a
use Rattle.os_kinds.specs.declared.command.Branch.{Branch}
use Rattle.os_kinds.specs.declared.command.Command.{Command}
use Rattle.os_kinds.specs.declared.command.Command.TheVariants as c
use Rattle.os_expressions.specs.declared.given.Spot.{Spot}
use Rattle.os_expressions.specs.declared.given.Calling.{Calling}
use Rattle.os_expressions.specs.declared.given.Ground.{Ground}
use Rattle.os_expressions.specs.declared.given.Looked.{Looked}
use Rattle.os_expressions.specs.declared.given.Path.{Path}
use Rattle.os_expressions.specs.declared.given.Callee.{Callee}
use Rattle.os_expressions.specs.Literals.{significant, content}
use Rattle.os_expressions.specs.Trees.{plain, free_args, Site, ground, site, sign_of, operator_of, special_of, function_of, counted, global_of, class_of, member_of, operation_of, looked_of, looked_as, with_operations, operand_of, path, path_on, callee_of, target_of, own_target_of, assignment_of, claim_of, counting_of, branch_of}

-- ---- rules: how phrases nest

pub data Rule : Type 0 where
  -- expr, in parentheses
  Inside : Rule
  -- expr { "," expr } ")"
  Listed : Rule
  -- [ expr { "," expr } ] ")"
  Arguments : Rule
  -- ( name | global ) [ "," expr ] ")"
  Looking : Rule
  -- global ")"
  Ordering : Rule
  -- { command | newline }
  Script : Rule

abbrev pub Given : Rule → Type 0
Given Inside = Spot
Given Listed = ℕ
Given Arguments = Calling
Given Looking = ℕ × Bool
Given Ordering = ℕ
Given Script = Site

abbrev pub Said : Rule → Type 0
Said Inside = Expression
Said Listed = List Expression
Said Arguments = List Expression
Said Looking = Looked
Said Ordering = GlobalReference
Said Script = List Command

abbrev pub ends : Rule → Kind → Bool
ends Inside h = is k.Close h
ends Script h = is k.RBrace h
ends _ h = true

abbrev pub rules : Rules Kind
rules = record { Rule = Rule; Given = Given; Said = Said; ends = ends }

abbrev pub Phrase : Type 0 → Type 0 → Type 1
Phrase I A = phrases.Phrase Kind ScriptWhy rules I A

-- a token of this kind, which says nothing
abbrev pub mark : {I : Type 0} → Kind → Phrase I (Unit {0})
mark kind = words.mark tongue kind

-- ---- limits

abbrev pub Limit : Type 0
Limit = Option ScriptWhy

-- this reason where the test holds, else a later one
abbrev pub where_holds : Bool → ScriptWhy → Limit → Limit
where_holds test reason later = if test then Some reason else later

-- the value of a `QUIT` that leaves a loop
abbrev pub barred : Bool → Limit
barred b = where_holds b why.QuitValueInLoop None

-- the 65th block or parenthesis
abbrev pub too_deep : ℕ → Limit
too_deep depth = where_holds (nat_le 64 depth) why.TooDeep None

abbrev pub opening : Spot → Limit
opening s = where_holds (nat_le 64 s.depth) why.TooDeep (barred s.barred)

-- more bytes than this
abbrev pub longer : ℕ → Bytes → Limit
longer most z = where_holds (nat_lt most (length z)) why.NameTooLong None

abbrev pub name_limit : Bool → Bytes → Limit
name_limit b z = where_holds (nat_lt 31 (length z)) why.NameTooLong (barred b)

-- a string that says more than 32,767 bytes passes the limit of a text
abbrev pub string_limit : Bool → Bool → Bytes → Limit
string_limit b whole z = where_holds (whole && nat_lt 32767 (length (content z))) why.TextTooLong (barred b)

abbrev pub miscounted : Bool → Limit
miscounted b = where_holds b why.BadArguments None

abbrev pub too_few : Calling → ℕ → Limit
too_few c n = miscounted (nat_lt n c.fewest)

abbrev pub is_full : Option ℕ → ℕ → Bool
is_full None n = false
is_full (Some most) n = nat_le most n

abbrev pub too_many : Calling → ℕ → Limit
too_many c n = miscounted (is_full c.most n)

-- ---- names; given is whether the first token is barred

-- a letter followed by letters and digits, at most 31 bytes
unfoldable pub variable : Phrase Bool Bytes
variable = spelled (is k.Name) (λ b t. name_limit b t.text)

-- behind a dot a name may begin with `%`
unfoldable pub member_name : Phrase (Unit {0}) Bytes
member_name = spelled is_member (λ i t. longer 31 t.text)

unfoldable pub class_name : Phrase (Unit {0}) Bytes
class_name = spelled (is k.ClassName) (λ i t. longer 60 t.text)

unfoldable pub global_name : Phrase (Unit {0}) Bytes
global_name = spelled (is k.GlobalName) (λ i t. longer 64 t.text)

-- a token of this kind that begins an operand
unfoldable pub opens : Kind → Phrase Bool (Unit {0})
opens kind = Pick (is kind) (λ b t. barred b) (λ b t. tt {0})

-- ---- arguments; given is how many blocks and parentheses are open

-- "(" expr { "," expr } ")"
unfoldable pub subscripts : Phrase ℕ (List Expression)
subscripts = Nest (is k.OpenArgs) (λ d t. too_deep d) Listed (λ d t. d + 1) (λ d t xs. xs)

-- args = "(" [ expr { "," expr } ] ")"
unfoldable pub args : Phrase ℕ (List Expression)
args = Nest (is k.OpenArgs) (λ d t. too_deep d) Arguments (λ d t. free_args (d + 1)) (λ d t xs. xs)

unfoldable pub args_given : Phrase ℕ (Option (List Expression))
args_given = Or (is k.OpenArgs) ((λ d xs. Some xs) <$> args) (Pure (λ d. None))

-- the arguments of a function, as many as it has
unfoldable pub counted_args : Phrase (ℕ × Function) (List Expression)
counted_args = Nest (is k.OpenArgs) (λ j t. too_deep j.0) Arguments (λ j t. counted (j.0 + 1) j.1) (λ j t xs. xs)

-- "(" ( name | global ) [ "," expr ] ")"; given also is whether there is one argument alone
unfoldable pub looking_args : Phrase (ℕ × Bool) Looked
looking_args = Nest (is k.OpenArgs) (λ j t. too_deep j.0) Looking (λ j t. (j.0 + 1, j.1)) (λ j t x. x)

-- "(" global ")"
unfoldable pub ordering_args : Phrase ℕ GlobalReference
ordering_args = Nest (is k.OpenArgs) (λ d t. too_deep d) Ordering (λ d t. d + 1) (λ d t x. x)

-- ---- variables, globals and members

unfoldable pub subscripts_given : Phrase ℕ (List Expression)
subscripts_given = Or (is k.OpenArgs) subscripts (Pure (λ d. []))

-- global = "^" gname [ "(" expr { "," expr } ")" ]
unfoldable pub global : Phrase Spot GlobalReference
global = With (λ s. s.barred) (opens k.Caret) &> ((λ s x. global_of x.0 x.1) <$> (just global_name & With (λ s. s.depth) subscripts_given))

-- name | global
unfoldable pub some_place : Phrase Spot Place
some_place = Or (is k.Name) ((λ s x. place.Variable x) <$> With (λ s. s.barred) variable) ((λ s x. place.Global x) <$> global)

-- name [ args ]
unfoldable pub member : Phrase ℕ Member
member = (λ d x. member_of x.0 x.1) <$> (just member_name & args_given)

-- ---- primary

unfoldable pub number : Phrase Bool Expression
number = Pick is_number (λ b t. barred b) (λ b t. e.Literal (significant t.text))

unfoldable pub string : Phrase Bool Expression
string = Pick is_text (λ b t. string_limit b (is k.Text t.kind) t.text) (λ b t. e.Literal (content t.text))

-- "%objlasterror" | "$TEST" | "$TLEVEL" | "$THIS"
unfoldable pub special : Phrase Bool Expression
special = Pick is_special (λ b t. barred b) (λ b t. special_of t.kind)

-- "(" expr ")"
unfoldable pub parens : Phrase Spot Expression
parens = Nest (is k.Open) (λ s t. opening s) Inside (λ s t. plain (s.depth + 1)) (λ s t x. x) <& mark k.Close

unfoldable pub function_word : Phrase Bool Function
function_word = Pick is_function (λ b t. barred b) (λ b t. function_of t.kind)

-- function args
unfoldable pub function : Phrase Spot Expression
function = Then (With (λ s. s.barred) function_word) ((λ j xs. e.Function j.1 xs) <$> With (λ j. (j.0.depth, j.1)) counted_args)

unfoldable pub looking_word : Phrase Bool Kind
looking_word = Pick is_looking (λ b t. barred b) (λ b t. t.kind)

abbrev pub is_data : Kind → Bool
is_data h = same_kind h k.Data

-- the arguments of the function of this word
unfoldable pub looked_args : Phrase (ℕ × Kind) Looked
looked_args = With (λ j. (j.0, is_data j.1)) looking_args

-- ( "$GET" | "$DATA" | "$INCREMENT" ) "(" ( name | global ) [ "," expr ] ")"
unfoldable pub looking_function : Phrase Spot Expression
looking_function = Then (With (λ s. s.barred) looking_word) ((λ j x. looked_as j.1 x) <$> With (λ j. (j.0.depth, j.1)) looked_args)

-- "$ORDER" "(" global ")"
unfoldable pub order_function : Phrase Spot Expression
order_function = With (λ s. s.barred) (opens k.Order) &> ((λ s x. e.Order x) <$> With (λ s. s.depth) ordering_args)

-- "##class(" cname ")." name args
unfoldable pub class_call : Phrase Spot Expression
class_call = With (λ s. s.barred) (opens k.ClassOpen) &>
    ((λ s x. e.ClassCall (class_of x.0) x.1.0 x.1.1) <$> (just class_name <& mark k.ClassClose & just member_name & With (λ s. s.depth) args))

-- ".." name [ args ]
unfoldable pub own : Phrase Spot Expression
own = With (λ s. s.barred) (opens k.Own) &> ((λ s m. e.Own m) <$> With (λ s. s.depth) member)

abbrev pub begins_called : Kind → Bool
begins_called h = is_function h || is_looking h || same_kind h k.Order || same_kind h k.ClassOpen

-- what ends in arguments
unfoldable pub called : Phrase Spot Expression
called = Or is_function function (Or is_looking looking_function (Or (is k.Order) order_function class_call))

unfoldable pub place_value : Phrase Spot Expression
place_value = (λ s x. e.Value x) <$> some_place

-- what doesn't
unfoldable pub uncalled : Phrase Spot Expression
uncalled = Or (is k.Open) parens (Or is_number (With (λ s. s.barred) number) (Or is_text (With (λ s. s.barred) string)
    (Or is_special (With (λ s. s.barred) special) place_value)))

-- digits | string | "(" expr ")" | name | global | special | function args | class args | ".." name [ args ]
unfoldable pub primary : Phrase Spot Expression
primary = Or begins_called called (Or (is k.Own) own uncalled)

-- ---- expr

-- "." name [ args ], behind others
unfoldable pub further_member : Phrase (ℕ × List Member) (List Member)
further_member = mark k.Dot &> ((λ j m. j.1 ++ m ∷ []) <$> With (λ j. j.0) member)

unfoldable pub members : Phrase ℕ (List Member)
members = Many (is k.Dot) (λ d. []) further_member

-- behind a sign nothing is barred
abbrev pub only_first : Bool → List Sign → Bool
only_first b [] = b
only_first b (s ∷ ss) = false

unfoldable pub one_sign : Phrase (Bool × List Sign) (List Sign)
one_sign = Pick is_sign (λ j t. barred (only_first j.0 j.1)) (λ j t. j.1 ++ sign_of t.kind ∷ [])

-- { "+" | "-" | "'" }
unfoldable pub signs : Phrase Bool (List Sign)
signs = Many is_sign (λ b. []) one_sign

-- the spot behind signs
abbrev pub behind_signs : Spot → List Sign → Spot
behind_signs s ss = record { depth = s.depth; barred = only_first s.barred ss }

-- primary { "." name [ args ] }, behind signs
unfoldable pub unsigned : Phrase (Spot × List Sign) Expression
unsigned = (λ j x. operand_of j.1 x.0 x.1) <$> (With (λ j. behind_signs j.0 j.1) primary & With (λ j. j.0.depth) members)

-- operand = { "+" | "-" | "'" } primary { "." name [ args ] }
unfoldable pub operand : Phrase Spot Expression
operand = Then (With (λ s. s.barred) signs) unsigned

unfoldable pub operator : Phrase (Unit {0}) Operator
operator = Pick is_operator no_limit (λ i t. operator_of t.kind)

-- operator operand, behind others
unfoldable pub further_operation : Phrase (ℕ × List Operation) (List Operation)
further_operation = (λ j x. j.1 ++ operation_of x.0 x.1 ∷ []) <$> (just operator & With (λ j. plain j.0) operand)

unfoldable pub operations : Phrase ℕ (List Operation)
operations = Many is_operator (λ d. []) further_operation

-- expr = operand { operator operand }
unfoldable pub expression : Phrase Spot Expression
expression = (λ s x. with_operations x.0 x.1) <$> (operand & With (λ s. s.depth) operations)

-- an expression that may begin with any token
unfoldable pub value : Phrase ℕ Expression
value = With plain expression

-- ---- the rules of arguments

-- ",", where one more has room
unfoldable pub comma : Phrase (Calling × List Expression) (Unit {0})
comma = Pick (is k.Comma) (λ j t. too_many j.0 (length j.1)) (λ j t. tt {0})

-- ")", where there are enough
unfoldable pub close_args : Phrase (Calling × List Expression) (Unit {0})
close_args = Pick (is k.Close) (λ j t. too_few j.0 (length j.1)) (λ j t. tt {0})

unfoldable pub further_arg : Phrase (Calling × List Expression) (List Expression)
further_arg = comma &> ((λ j x. j.1 ++ x ∷ []) <$> With (λ j. j.0.depth) value)

unfoldable pub more_args : Phrase (Calling × List Expression) (List Expression)
more_args = Many (is k.Comma) (λ j. j.1) (With (λ j. (j.0.0, j.1)) further_arg)

-- expr { "," expr }
unfoldable pub some_args : Phrase Calling (List Expression)
some_args = Then ((λ c x. x ∷ []) <$> With (λ c. c.depth) value) more_args

-- [ expr { "," expr } ]
unfoldable pub any_args : Phrase Calling (List Expression)
any_args = Or begins_operand some_args (Pure (λ c. []))

-- expr { "," expr } ")"
unfoldable pub listed : Phrase Calling (List Expression)
listed = Then some_args (Then close_args (Pure (λ j. j.0.1)))

-- [ expr { "," expr } ] ")"
unfoldable pub arguments : Phrase Calling (List Expression)
arguments = Then any_args (Then close_args (Pure (λ j. j.0.1)))

-- ")" or "," where an argument lacks or is one too many: a limit keeps it out
unfoldable pub miscount : Kind → Phrase (Unit {0}) (Unit {0})
miscount kind = Pick (is kind) (λ i t. miscounted true) (λ i t. tt {0})

-- ")", behind the last argument
unfoldable pub closing : Phrase (Unit {0}) (Unit {0})
closing = Or (is k.Comma) (miscount k.Comma) (mark k.Close)

unfoldable pub missing_place : Phrase (Unit {0}) Place
missing_place = (λ i x. place.Variable []) <$> miscount k.Close

unfoldable pub looked_place : Phrase ℕ Place
looked_place = Or (is k.Close) (just missing_place) (With plain some_place)

unfoldable pub second_comma : Phrase Bool (Unit {0})
second_comma = Pick (is k.Comma) (λ b t. miscounted b) (λ b t. tt {0})

unfoldable pub second : Phrase (ℕ × Bool) Expression
second = With (λ j. j.1) second_comma &> (With (λ j. j.0) value <& just closing)

unfoldable pub looked_rest : Phrase (ℕ × Bool) (Option Expression)
looked_rest = Or (is k.Comma) ((λ j x. Some x) <$> second) ((λ j x. None) <$> mark k.Close)

-- ( name | global ) [ "," expr ] ")"
unfoldable pub looking : Phrase (ℕ × Bool) Looked
looking = (λ j x. looked_of x.0 x.1) <$> (With (λ j. j.0) looked_place & looked_rest)

-- "^" gname "(" expr { "," expr } ")"
unfoldable pub ordered_global : Phrase ℕ GlobalReference
ordered_global = With (λ d. false) (opens k.Caret) &> ((λ d x. global_of x.0 x.1) <$> (just global_name & subscripts))

unfoldable pub missing_global : Phrase (Unit {0}) GlobalReference
missing_global = (λ i x. global_of [] []) <$> miscount k.Close

unfoldable pub ordered : Phrase ℕ GlobalReference
ordered = Or (is k.Close) (just missing_global) ordered_global

-- global ")"
unfoldable pub ordering : Phrase ℕ GlobalReference
ordering = ordered <& just closing

-- ---- call: an operand that ends in args

-- "." name { "." name } args, behind others
unfoldable pub further_name : Phrase Path Path
further_name = mark k.Dot &> ((λ p name. path_on p None name) <$> just member_name)

unfoldable pub first_name : Phrase (List Member) Path
first_name = mark k.Dot &> ((λ ms name. path ms name) <$> just member_name)

unfoldable pub more_names : Phrase Path Path
more_names = Many (is k.Dot) (λ p. p) (With (λ j. j.1) further_name)

unfoldable pub names : Phrase (List Member) Path
names = Then first_name (With (λ j. j.1) more_names)

unfoldable pub called_member : Phrase (ℕ × List Member) (List Member)
called_member = Then (With (λ j. j.1) names) ((λ j xs. j.1.members ++ member_of j.1.name (Some xs) ∷ []) <$> With (λ j. j.0.0) args)

unfoldable pub called_members : Phrase (ℕ × List Member) (List Member)
called_members = Many (is k.Dot) (λ j. j.1) (With (λ j. (j.0.0, j.1)) called_member)

-- one or more of these
unfoldable pub some_called : Phrase ℕ (List Member)
some_called = Then (With (λ d. (d, [])) called_member) called_members

-- args and members that are called, behind `..` and the name
unfoldable pub own_method : Phrase (ℕ × Bytes) Callee
own_method = (λ j x. callee_of (e.Own (member_of j.1 (Some x.0))) x.1) <$> (With (λ j. j.0) args & With (λ j. (j.0, [])) called_members)

unfoldable pub own_property : Phrase (ℕ × Bytes) Callee
own_property = (λ j ms. callee_of (e.Own (member_of j.1 None)) ms) <$> With (λ j. j.0) some_called

unfoldable pub own_callee : Phrase (ℕ × Bytes) Callee
own_callee = Or (is k.OpenArgs) own_method own_property

-- ".." name args, or ".." name and members that are called
unfoldable pub own_called : Phrase ℕ Callee
own_called = With (λ d. false) (opens k.Own) &> Then (just member_name) own_callee

unfoldable pub called_callee : Phrase ℕ Callee
called_callee = (λ d x. callee_of x.0 x.1) <$> (With plain called & With (λ d. (d, [])) called_members)

unfoldable pub uncalled_callee : Phrase ℕ Callee
uncalled_callee = (λ d x. callee_of x.0 x.1) <$> (With plain uncalled & some_called)

unfoldable pub callee : Phrase ℕ Callee
callee = Or begins_called called_callee (Or (is k.Own) own_called uncalled_callee)

unfoldable pub call : Phrase ℕ Expression
call = (λ d x. operand_of x.0 x.1.object x.1.members) <$> (With (λ d. false) signs & callee)

-- ---- target = name | global | operand "." name | ".." name

abbrev pub goes_on : Kind → Bool
goes_on h = is k.Dot h || is k.OpenArgs h

-- args "." name
unfoldable pub called_step : Phrase (ℕ × Path) Path
called_step = Then (With (λ j. j.0) args) (mark k.Dot &> ((λ j name. path_on j.0.1 (Some j.1) name) <$> just member_name))

-- [ args ] "." name
unfoldable pub path_step : Phrase (ℕ × Path) Path
path_step = Or (is k.OpenArgs) called_step (With (λ j. j.1) further_name)

unfoldable pub path_rest : Phrase (ℕ × Path) Path
path_rest = Many goes_on (λ j. j.1) (With (λ j. (j.0.0, j.1)) path_step)

-- "." name { [ args ] "." name }
unfoldable pub property_path : Phrase ℕ Path
property_path = Then (With (λ d. []) first_name) path_rest

-- [ "." name { [ args ] "." name } ], behind a variable or a global
unfoldable pub place_property : Phrase (ℕ × Place) Target
place_property = (λ j p. target_of [] (e.Value j.1) p) <$> With (λ j. j.0) property_path

-- ( name | global ) [ "." name { [ args ] "." name } ]
unfoldable pub place_target : Phrase ℕ Target
place_target = Then (With plain some_place) (Or (is k.Dot) place_property (Pure (λ j. target.Place j.1)))

unfoldable pub own_path : Phrase (Unit {0}) Path
own_path = (λ i name. path [] name) <$> member_name

-- ".." name { [ args ] "." name }
unfoldable pub own_target : Phrase ℕ Target
own_target = With (λ d. false) (opens k.Own) &> Then (just own_path) ((λ j p. own_target_of p) <$> path_rest)

-- { sign } primary "." name { [ args ] "." name }
unfoldable pub object_target : Phrase ℕ Target
object_target = (λ d x. target_of x.0 x.1.0 x.1.1) <$> (With (λ d. false) signs & With plain primary & property_path)

abbrev pub begins_place : Kind → Bool
begins_place h = is k.Name h || is k.Caret h

unfoldable pub some_target : Phrase ℕ Target
some_target = Or begins_place place_target (Or (is k.Own) own_target object_target)

-- ---- arguments of commands

-- sarg = target "=" expr
unfoldable pub assignment : Phrase ℕ Assignment
assignment = (λ d x. assignment_of x.0 x.1) <$> (some_target <& mark k.Equals & value)

unfoldable pub further_assignment : Phrase (ℕ × List Assignment) (List Assignment)
further_assignment = mark k.Comma &> ((λ j x. j.1 ++ x ∷ []) <$> With (λ j. j.0) assignment)

unfoldable pub more_assignments : Phrase (ℕ × List Assignment) (List Assignment)
more_assignments = Many (is k.Comma) (λ j. j.1) (With (λ j. (j.0.0, j.1)) further_assignment)

unfoldable pub assignments : Phrase ℕ (List Assignment)
assignments = Then ((λ d x. x ∷ []) <$> assignment) more_assignments

-- warg = expr | "!"
unfoldable pub some_output : Phrase ℕ Output
some_output = Or (is k.Line) ((λ d x. output.NewLine) <$> mark k.Line) ((λ d x. output.Value x) <$> value)

unfoldable pub further_output : Phrase (ℕ × List Output) (List Output)
further_output = mark k.Comma &> ((λ j x. j.1 ++ x ∷ []) <$> With (λ j. j.0) some_output)

unfoldable pub more_outputs : Phrase (ℕ × List Output) (List Output)
more_outputs = Many (is k.Comma) (λ j. j.1) (With (λ j. (j.0.0, j.1)) further_output)

unfoldable pub outputs : Phrase ℕ (List Output)
outputs = Then ((λ d x. x ∷ []) <$> some_output) more_outputs

unfoldable pub further_call : Phrase (ℕ × List Expression) (List Expression)
further_call = mark k.Comma &> ((λ j x. j.1 ++ x ∷ []) <$> With (λ j. j.0) call)

unfoldable pub more_calls : Phrase (ℕ × List Expression) (List Expression)
more_calls = Many (is k.Comma) (λ j. j.1) (With (λ j. (j.0.0, j.1)) further_call)

unfoldable pub calls : Phrase ℕ (List Expression)
calls = Then ((λ d x. x ∷ []) <$> call) more_calls

-- karg = name | global
unfoldable pub further_place : Phrase (ℕ × List Place) (List Place)
further_place = mark k.Comma &> ((λ j x. j.1 ++ x ∷ []) <$> With (λ j. plain j.0) some_place)

unfoldable pub more_places : Phrase (ℕ × List Place) (List Place)
more_places = Many (is k.Comma) (λ j. j.1) (With (λ j. (j.0.0, j.1)) further_place)

unfoldable pub places : Phrase ℕ (List Place)
places = Then ((λ d x. x ∷ []) <$> With plain some_place) more_places

-- [ "#" string ], where the string is "S"
unfoldable pub shared : Phrase (Unit {0}) Bool
shared = Or (is k.Modulo) ((λ i x. true) <$> (mark k.Modulo &> mark k.Shared)) (Pure (λ i. false))

-- [ ":" expr ]
unfoldable pub after_colon : Phrase ℕ (Option Expression)
after_colon = Or (is k.Colon) (mark k.Colon &> ((λ d x. Some x) <$> value)) (Pure (λ d. None))

-- [ "+" ] global [ "#" string ] [ ":" expr ], behind the sign
unfoldable pub asked : LockAction → Phrase ℕ Claim
asked action = (λ d x. claim_of action x.0 x.1.0 x.1.1) <$> (With plain global & just shared & after_colon)

-- "-" global [ "#" string ]
unfoldable pub given_back : Phrase ℕ Claim
given_back = mark k.Minus &> ((λ d x. claim_of lock.Remove x.0 x.1 None) <$> (With plain global & just shared))

unfoldable pub added : Phrase ℕ Claim
added = mark k.Plus &> asked lock.Add

-- larg
unfoldable pub claim : Phrase ℕ Claim
claim = Or (is k.Plus) added (Or (is k.Minus) given_back (asked lock.Renew))

unfoldable pub further_claim : Phrase (ℕ × List Claim) (List Claim)
further_claim = mark k.Comma &> ((λ j x. j.1 ++ x ∷ []) <$> With (λ j. j.0) claim)

unfoldable pub more_claims : Phrase (ℕ × List Claim) (List Claim)
more_claims = Many (is k.Comma) (λ j. j.1) (With (λ j. (j.0.0, j.1)) further_claim)

unfoldable pub claims : Phrase ℕ (List Claim)
claims = Then ((λ d x. x ∷ []) <$> claim) more_claims

unfoldable pub further_condition : Phrase (ℕ × List Expression) (List Expression)
further_condition = mark k.Comma &> ((λ j x. j.1 ++ x ∷ []) <$> With (λ j. j.0) value)

unfoldable pub more_conditions : Phrase (ℕ × List Expression) (List Expression)
more_conditions = Many (is k.Comma) (λ j. j.1) (With (λ j. (j.0.0, j.1)) further_condition)

-- expr { "," expr }
unfoldable pub conditions : Phrase ℕ (List Expression)
conditions = Then ((λ d x. x ∷ []) <$> value) more_conditions

-- ---- commands without blocks

abbrev pub depth_of : Site → ℕ
depth_of s = s.ground.depth

-- the word of a command, which says its line
unfoldable pub word : Kind → Phrase Placed ℕ
word kind = Pick (is kind) no_limit (λ text t. (place_in text t.left).line)

-- word [ ":" expr ], and then the arguments
abbrev pub headed : Kind → Phrase Site Action → Phrase Site Command
headed kind action = (λ s x. c.Plain x.0 x.1.0 x.1.1) <$> (With (λ s. s.text) (word kind) & With depth_of after_colon & action)

-- the value of a `QUIT`: none in a loop
unfoldable pub quit_value : Phrase Ground Expression
quit_value = With (λ g. record { depth = g.depth; barred = g.in_loop }) expression

unfoldable pub quit_action : Phrase Ground Action
quit_action = Or begins_operand ((λ g x. a.Quit (Some x)) <$> quit_value) (Pure (λ g. a.Quit None))

unfoldable pub kill_action : Phrase ℕ Action
kill_action = Or begins_place ((λ d xs. a.Kill xs) <$> places) (Pure (λ d. a.KillAll))

abbrev pub begins_claim : Kind → Bool
begins_claim h = is k.Plus h || is k.Minus h || is k.Caret h

unfoldable pub lock_action : Phrase ℕ Action
lock_action = Or begins_claim ((λ d xs. a.Lock xs) <$> claims) (Pure (λ d. a.UnlockAll))

unfoldable pub rollback_action : Phrase (Unit {0}) Action
rollback_action = Or (is k.One) ((λ i x. a.TRollbackOne) <$> mark k.One) (Pure (λ i. a.TRollback))

-- "SET" [ post ] sarg { "," sarg } | "WRITE" [ post ] warg { "," warg } | "DO" [ post ] call { "," call }
unfoldable pub set_command : Phrase Site Command
set_command = headed k.Set ((λ s xs. a.Set xs) <$> With depth_of assignments)

unfoldable pub write_command : Phrase Site Command
write_command = headed k.Write ((λ s xs. a.Write xs) <$> With depth_of outputs)

unfoldable pub do_command : Phrase Site Command
do_command = headed k.Do ((λ s xs. a.Do xs) <$> With depth_of calls)

-- "QUIT" [ post ] [ expr ] | "KILL" [ post ] [ karg { "," karg } ] | "LOCK" [ post ] [ larg { "," larg } ]
unfoldable pub quit_command : Phrase Site Command
quit_command = headed k.Quit (With (λ s. s.ground) quit_action)

unfoldable pub kill_command : Phrase Site Command
kill_command = headed k.Kill (With depth_of kill_action)

unfoldable pub lock_command : Phrase Site Command
lock_command = headed k.Lock (With depth_of lock_action)

-- "TSTART" [ post ] | "TCOMMIT" [ post ] | "TROLLBACK" [ post ] [ "1" ] | "HALT" [ post ]
unfoldable pub start_command : Phrase Site Command
start_command = headed k.TStart (Pure (λ s. a.TStart))

unfoldable pub commit_command : Phrase Site Command
commit_command = headed k.TCommit (Pure (λ s. a.TCommit))

unfoldable pub rollback_command : Phrase Site Command
rollback_command = headed k.TRollback (just rollback_action)

unfoldable pub halt_command : Phrase Site Command
halt_command = headed k.Halt (Pure (λ s. a.Halt))

-- a word that is no command: a limit keeps it out
unfoldable pub unknown_command : Phrase (Unit {0}) Command
unknown_command = Pick (is k.UnknownCommand) (λ i t. Some why.UnknownCommand) (λ i t. c.Plain 0 None a.Halt)

unfoldable pub tran_command : Phrase Site Command
tran_command = Or (is k.TStart) start_command (Or (is k.TCommit) commit_command (Or (is k.TRollback) rollback_command
    (Or (is k.Halt) halt_command (just unknown_command))))

unfoldable pub simple_command : Phrase Site Command
simple_command = Or (is k.Set) set_command (Or (is k.Write) write_command (Or (is k.Do) do_command (Or (is k.Quit) quit_command
    (Or (is k.Kill) kill_command (Or (is k.Lock) lock_command tran_command)))))

-- ---- commands with blocks

unfoldable pub newline : Phrase (Unit {0}) (Unit {0})
newline = mark k.Newline

unfoldable pub newlines : Phrase (Unit {0}) (Unit {0})
newlines = Many (is k.Newline) (λ i. i) (With (λ j. j.1) newline)

abbrev pub deeper : Site → Site
deeper s = site s.text (ground (s.ground.depth + 1) s.ground.in_loop)

abbrev pub looping : Site → Site
looping s = site s.text (ground s.ground.depth true)

-- "{" script "}"
unfoldable pub braces : Phrase Site (List Command)
braces = Nest (is k.LBrace) (λ s t. too_deep s.ground.depth) Script (λ s t. deeper s) (λ s t x. x) <& mark k.RBrace

-- block = "{" script "}", with newlines around it
unfoldable pub block : Phrase Site (List Command)
block = just newlines &> (braces <& just newlines)

-- word expr { "," expr } block
unfoldable pub branch : Kind → Phrase Site Branch
branch kind = (λ s x. branch_of x.0 x.1.0 x.1.1) <$> (With (λ s. s.text) (word kind) & With depth_of conditions & block)

unfoldable pub further_branch : Phrase (Site × List Branch) (List Branch)
further_branch = (λ j x. j.1 ++ x ∷ []) <$> With (λ j. j.0) (branch k.ElseIf)

unfoldable pub more_branches : Phrase (Site × List Branch) (List Branch)
more_branches = Many (is k.ElseIf) (λ j. j.1) (With (λ j. (j.0.0, j.1)) further_branch)

-- "IF" expr { "," expr } block { "ELSEIF" expr { "," expr } block }
unfoldable pub branches : Phrase Site (List Branch)
branches = Then ((λ s x. x ∷ []) <$> branch k.If) more_branches

-- [ "ELSE" block ]
unfoldable pub otherwise : Phrase Site (Option (List Command))
otherwise = Or (is k.Else) (mark k.Else &> ((λ s x. Some x) <$> block)) (Pure (λ s. None))

unfoldable pub if_command : Phrase Site Command
if_command = (λ s x. c.If x.0 x.1) <$> (branches & otherwise)

-- name "=" expr ":" expr [ ":" expr ]
unfoldable pub counting : Phrase ℕ Counting
counting = (λ d x. counting_of x.0 x.1.0 x.1.1.0 x.1.1.1) <$> (With (λ d. false) variable <& mark k.Equals & value <& mark k.Colon & value & after_colon)

unfoldable pub counting_given : Phrase ℕ (Option Counting)
counting_given = Or (is k.Name) ((λ d x. Some x) <$> counting) (Pure (λ d. None))

-- "FOR" [ name "=" expr ":" expr [ ":" expr ] ] block
unfoldable pub for_command : Phrase Site Command
for_command = (λ s x. c.For x.0 x.1.0 x.1.1) <$> (With (λ s. s.text) (word k.For) & With depth_of counting_given & With looping block)

-- "WHILE" expr { "," expr } block
unfoldable pub while_command : Phrase Site Command
while_command = (λ s x. c.While x.0 x.1.0 x.1.1) <$> (With (λ s. s.text) (word k.While) & With depth_of conditions & With looping block)

-- a newline belongs to the command before it
unfoldable pub lined_command : Phrase Site Command
lined_command = simple_command <& just newlines

unfoldable pub command : Phrase Site Command
command = Or (is k.If) if_command (Or (is k.For) for_command (Or (is k.While) while_command lined_command))

unfoldable pub further_command : Phrase (Site × List Command) (List Command)
further_command = (λ j x. j.1 ++ x ∷ []) <$> With (λ j. j.0) command

unfoldable pub commands : Phrase Site (List Command)
commands = Many is_command (λ s. []) further_command

-- script = { command | newline }
unfoldable pub script : Phrase Site (List Command)
script = just newlines &> commands

-- ---- the grammar

abbrev pub rule : (r : Rule) → Phrase (Given r) (Said r)
rule Inside = expression
rule Listed = With free_args listed
rule Arguments = arguments
rule Looking = looking
rule Ordering = ordering
rule Script = script

abbrev pub grammar : Grammar Kind ScriptWhy
grammar = record { rules = rules; rule = rule }

-- the parser of a phrase, and that of a rule
abbrev pub read : {I A : Type 0} → Phrase I A → I → Parser Kind ScriptWhy A
read p i = reads tongue grammar false p i

abbrev pub nested : (r : Rule) → Given r → Parser Kind ScriptWhy (Said r)
nested r i = rule_parser tongue grammar false r i
