-- The grammar of class files. Each production says which tokens stand there, which limits keep a token out, and what the
-- tokens mean; its language, its parser and their law come from it alone.
--
-- A phrase of type `Phrase I A` is given an I and says an A: `a & b` is one after the other, and says both, `a &> b` says
-- what b says, and `a <& b` what a says. `Or goes a b` is a where a token of the kinds `goes` comes next, else b, and
-- `Many goes a` as many a as such tokens begin. `f <$> a` says f of what was given and what a says. `With f a` is a, given f of
-- what was given, and `just a` an a that is given nothing.
use Rattle.std.specs.Prelude.{ℕ, Bool, true, false, ◌&&◌, ◌||◌, if◌then◌else◌, nat_le, nat_lt, ◌+◌, Option, Some, None, List, [], ◌∷◌, ◌++◌, length}
use Rattle.obj_kinds.specs.declared.name.ClassName.{ClassName}
use Rattle.schema_kinds.specs.declared.class.Index.{Index}
use Rattle.schema_kinds.specs.declared.method.Arg.{Arg}
use Rattle.schema_kinds.specs.declared.method.Method.{Method}
use Rattle.schema_kinds.specs.declared.tree.ClassTree.{ClassTree}
use Rattle.schema_kinds.specs.declared.tree.Form.{Form}
use Rattle.schema_kinds.specs.declared.tree.Form.TheVariants as form
use Rattle.schema_kinds.specs.declared.tree.PropTree.{PropTree}
use Rattle.text_reading.specs.Tokens.{Bytes}
use Rattle.text_reading.specs.Places.{Placed, place_in, whole_text}
use Rattle.text_reading.specs.Parsing.{Parser}
use Rattle.text_reading.specs.Phrases as phrases
use Rattle.text_reading.specs.Phrases.{Pure, Pick, Then, Or, Many, With, Grammar, Free, Is, reads, no_rules, plain}
use Rattle.text_reading.specs.Grammar.{Lang}
use Rattle.text_reading.specs.PhraseWords.{◌<$>◌, ◌&◌, ◌&>◌, ◌<&◌, just, no_limit, spelled}
use Rattle.text_reading.specs.PhraseWords as words
use Rattle.class_tokens.specs.declared.token.Kind.{Kind}
use Rattle.class_tokens.specs.declared.token.Kind.TheVariants as k
use Rattle.class_tokens.specs.declared.error.ClassWhy.{ClassWhy}
use Rattle.class_tokens.specs.declared.error.ClassWhy.TheVariants as why
use Rattle.class_tokens.specs.ClassKinds.{is, is_name, is_word, is_own_word, is_number, is_text, is_block, is_member_word}
use Rattle.class_tokens.specs.ClassTongue.{Token, tongue}
use Rattle.class_reader.specs.declared.keys.Section.{Section}
use Rattle.class_reader.specs.declared.keys.Section.TheVariants as section
use Rattle.class_reader.specs.declared.keys.Rule.{Rule}
use Rattle.class_reader.specs.declared.keys.Rule.TheVariants.{Skipped}
use Rattle.class_reader.specs.declared.keys.Given.{Given}
use Rattle.class_reader.specs.declared.keys.Bounds.{Bounds}
use Rattle.class_reader.specs.declared.keywords.Key.{Key}
use Rattle.class_reader.specs.declared.properties.TypeName.{TypeName}
use Rattle.class_reader.specs.declared.properties.Typed.{Typed}
use Rattle.class_reader.specs.declared.members.Body.{Body}
use Rattle.class_reader.specs.declared.classes.Members.{Members}
use Rattle.class_reader.specs.ClassNames.{whole_name, package_of}
use Rattle.class_reader.specs.ClassLiterals.{significant, negated, content}
use Rattle.class_reader.specs.ClassKeys.{rule_of, is_left_out, is_only, bars_word, bars_block, noted, nothing_given, is_left_out_bound, bound, no_bounds}
use Rattle.class_reader.specs.ClassTrees.{class_in, type_name, typed, text_type, has_prop, prop_of, relation_of, has_index, index_of, has_method, body_of, method_of, Site, site, no_members, with_props, with_indexes, with_methods, tree_of}

abbrev pub Phrase : Type 0 → Type 0 → Type 1
Phrase I A = phrases.Phrase Kind ClassWhy no_rules I A

-- a token of this kind, which says nothing
abbrev pub mark : {I : Type 0} → Kind → Phrase I (Unit {0})
mark kind = words.mark tongue kind

-- ---- limits

abbrev pub Limit : Type 0
Limit = Option ClassWhy

-- this reason where the test holds, else a later one
abbrev pub where_holds : Bool → ClassWhy → Limit → Limit
where_holds test reason later = if test then Some reason else later

abbrev pub barred : Bool → Limit
barred test = where_holds test why.LeftOut None

abbrev pub full : Bool → Limit
full test = where_holds test why.TooMany None

-- more bytes than this
abbrev pub longer : ℕ → Bytes → Limit
longer most z = where_holds (nat_lt most (length z)) why.NameTooLong None

-- ---- names

-- a letter followed by letters and digits, at most 31 bytes
unfoldable pub name : Phrase (Unit {0}) Bytes
name = spelled is_name (λ i t. longer 31 t.text)

abbrev pub fresh_limit : Bool → Bytes → Limit
fresh_limit taken z = where_holds (nat_lt 31 (length z)) why.NameTooLong (where_holds taken why.RepeatedMember None)

-- a name that isn't taken yet
unfoldable pub fresh : Phrase (Bytes → Bool) Bytes
fresh = spelled is_name (λ taken t. fresh_limit (taken t.text) t.text)

-- the first word of a class's name: a name that may begin with `%`, at most 60 bytes
unfoldable pub class_word : Phrase (Unit {0}) Bytes
class_word = spelled is_word (λ i t. longer 60 t.text)

-- A dot, behind which at least one byte has to fit. Given is whether dots are barred, and what was found of the name.
abbrev pub dot_limit : Bool → ℕ → Limit
dot_limit bars found = where_holds (nat_lt 58 found) why.NameTooLong (barred bars)

unfoldable pub name_dot : Phrase (Bool × Bytes) (Unit {0})
name_dot = Pick (is k.Dot) (λ j t. dot_limit j.0 (length j.1)) (λ j t. tt {0})

abbrev pub further_limit : ℕ → Bytes → Limit
further_limit found z = where_holds (nat_lt 59 (found + length z)) why.NameTooLong None

unfoldable pub further_word : Phrase Bytes Bytes
further_word = spelled is_word (λ found t. further_limit (length found) t.text)

-- "." word, behind what was found
unfoldable pub dotted : Phrase (Bool × Bytes) Bytes
dotted = name_dot &> ((λ j word. j.1 ++ 46 ∷ word) <$> With (λ j. j.1) further_word)

-- { "." word }
unfoldable pub name_rest : Phrase (Bool × Bytes) Bytes
name_rest = Many (is k.Dot) (λ j. j.1) (With (λ j. (j.0.0, j.1)) dotted)

-- word { "." word }
unfoldable pub class_name : Phrase (Unit {0}) Bytes
class_name = Then class_word (With (λ j. (false, j.1)) name_rest)

-- The first word of a class's own name: a dot and a byte have to fit behind it, unless it stands alone and lacks a package.
abbrev pub own_limit : Bool → Bytes → Limit
own_limit bare z = where_holds (nat_lt (if bare then 60 else 58) (length z)) why.NameTooLong (where_holds bare why.NoPackage None)

unfoldable pub own_word : Phrase (Unit {0}) Bytes
own_word = spelled is_own_word (λ i t. own_limit (is k.Bare t.kind) t.text)

-- word "." word { "." word }
unfoldable pub own_name : Phrase (Unit {0}) Bytes
own_name = Then own_word (Then (With (λ j. (false, j.1)) dotted) (With (λ j. (false, j.1)) name_rest))

-- ---- values; given is whether they are barred

-- digits
unfoldable pub number : Phrase Bool Bytes
number = Pick is_number (λ b t. barred b) (λ b t. significant t.text)

-- a string that says more than 32,767 bytes passes the limit of a text
abbrev pub string_limit : Bool → Bool → Bytes → Limit
string_limit b whole z = where_holds b why.LeftOut (full (whole && nat_lt 32767 (length (content z))))

unfoldable pub string : Phrase Bool Bytes
string = Pick is_text (λ b t. string_limit b (is k.Text t.kind) t.text) (λ b t. content t.text)

unfoldable pub minus : Phrase Bool (Unit {0})
minus = Pick (is k.Minus) (λ b t. barred b) (λ b t. tt {0})

-- "-" digits
unfoldable pub negative : Phrase Bool Bytes
negative = minus &> ((λ b digits. negated digits) <$> With (λ b. false) number)

-- [ "-" ] digits | string
unfoldable pub literal : Phrase Bool Bytes
literal = Or is_number number (Or is_text string negative)

-- "{" balanced "}" | "(" balanced ")"
unfoldable pub block : Phrase Bool Bytes
block = spelled is_block (λ b t. barred b)

abbrev pub value_limit : Rule → Bool → Bytes → Limit
value_limit r lone z = where_holds (nat_lt 60 (length z)) why.NameTooLong (barred (bars_word r lone z))

unfoldable pub value_word : Phrase Rule Bytes
value_word = spelled is_word (λ r t. value_limit r (is k.Lone t.kind) t.text)

unfoldable pub named_rest : Phrase (Rule × Bytes) Bytes
named_rest = With (λ j. (is_only j.0, j.1)) name_rest

-- word { "." word } as a value
unfoldable pub named_value : Phrase Rule Bytes
named_value = Then value_word named_rest

-- the value of a keyword, by the rule of the keyword
unfoldable pub value : Phrase Rule Bytes
value = Or is_word named_value (Or is_block (With bars_block block) (With is_only literal))

-- [ "=" value ]
unfoldable pub given_value : Phrase Rule (Option Bytes)
given_value = Or (is k.Equals) (mark k.Equals &> ((λ r x. Some x) <$> value)) (Pure (λ r. None))

-- ---- keywords, behind those that were given

abbrev pub key_limit : Section → Bytes → Limit
key_limit s z = where_holds (nat_lt 31 (length z)) why.NameTooLong (barred (is_left_out (rule_of s z)))

unfoldable pub key_word : Phrase Section Bytes
key_word = spelled is_word (λ s t. key_limit s t.text)

abbrev pub key : Bool → Bytes → Key
key negated word = record { negated = negated; word = word }

unfoldable pub not_word : Phrase (Unit {0}) Bytes
not_word = spelled (is k.Not) no_limit

-- "Not" [ word ]; without a word behind it `Not` is the word itself
unfoldable pub negated_key : Phrase Section Key
negated_key = Then (just not_word) (Or is_word ((λ j word. key true word) <$> With (λ j. j.0) key_word) (Pure (λ j. key false j.1)))

-- [ "Not" ] word
unfoldable pub one_key : Phrase Section Key
one_key = Or (is k.Not) negated_key ((λ s word. key false word) <$> key_word)

-- [ "Not" ] word [ "=" value ]
unfoldable pub keyword : Phrase (Section × Given) Given
keyword = Then (With (λ j. j.0) one_key) ((λ j value. noted j.0.0 j.1.negated j.1.word value j.0.1) <$> With (λ j. rule_of j.0.0 j.1.word) given_value)

-- a comma, or the closing bracket, behind keywords; a last one that lacks its value is left out
unfoldable pub key_comma : Phrase Given (Unit {0})
key_comma = Pick (is k.Comma) (λ g t. barred g.lacks) (λ g t. tt {0})

unfoldable pub key_close : Phrase Given (Unit {0})
key_close = Pick (is k.RBracket) (λ g t. barred g.lacks) (λ g t. tt {0})

-- "," keyword
unfoldable pub further_key : Phrase (Section × Given) Given
further_key = With (λ j. j.1) key_comma &> keyword

unfoldable pub more_keys : Phrase (Section × Given) Given
more_keys = Many (is k.Comma) (λ j. j.1) (With (λ j. (j.0.0, j.1)) further_key)

-- keyword { "," keyword }
unfoldable pub all_keys : Phrase Section Given
all_keys = Then (With (λ s. (s, nothing_given)) keyword) more_keys

-- "[" keyword { "," keyword } "]"
unfoldable pub bracketed_keys : Phrase Section Given
bracketed_keys = mark k.LBracket &> Then all_keys (Then (With (λ j. j.1) key_close) (Pure (λ j. j.0.1)))

-- [ "[" keyword { "," keyword } "]" ]
unfoldable pub keywords : Phrase Section Given
keywords = Or (is k.LBracket) bracketed_keys (Pure (λ s. nothing_given))

-- ---- types

abbrev pub bound_limit : Bytes → Limit
bound_limit z = where_holds (nat_lt 31 (length z)) why.NameTooLong (barred (is_left_out_bound z))

unfoldable pub bound_word : Phrase (Unit {0}) Bytes
bound_word = spelled is_word (λ i t. bound_limit t.text)

-- word "=" literal, behind other parameters of a property
unfoldable pub one_bound : Phrase Bounds Bounds
one_bound = (λ b x. bound x.0 x.1 b) <$> (just bound_word <& mark k.Equals & With (λ b. false) literal)

-- "," word "=" literal
unfoldable pub further_bound : Phrase Bounds Bounds
further_bound = mark k.Comma &> one_bound

unfoldable pub more_bounds : Phrase Bounds Bounds
more_bounds = Many (is k.Comma) (λ b. b) (With (λ j. j.1) further_bound)

-- word "=" literal { "," word "=" literal }
unfoldable pub all_bounds : Phrase (Unit {0}) Bounds
all_bounds = Then (With (λ i. no_bounds) one_bound) (With (λ j. j.1) more_bounds)

-- "(" word "=" literal { "," word "=" literal } ")"
unfoldable pub bounds : Phrase (Unit {0}) Bounds
bounds = mark k.LParen &> (all_bounds <& mark k.RParen)

unfoldable pub bounds_given : Phrase (Unit {0}) Bounds
bounds_given = Or (is k.LParen) bounds (Pure (λ i. no_bounds))

unfoldable pub word_of : Kind → Phrase (Unit {0}) Bytes
word_of kind = spelled (is kind) no_limit

-- ( "list" | "array" ) "Of" class, or a class whose name begins with this word
unfoldable pub collection : Kind → Form → Phrase (Unit {0}) TypeName
collection kind f =
    Then (word_of kind) (Or (is k.Of) ((λ j name. type_name f name) <$> (mark k.Of &> just class_name)) ((λ j name. type_name form.Single name) <$> With (λ j. (false, j.1)) name_rest))

-- [ ( "list" | "array" ) "Of" ] class
unfoldable pub formed : Phrase (Unit {0}) TypeName
formed =
    Or (is k.List) (collection k.List form.List) (Or (is k.Array) (collection k.Array form.Array) ((λ i name. type_name form.Single name) <$> class_name))

-- "As" type [ parameters ], in a class of this package
unfoldable pub as_type : Phrase Bytes Typed
as_type = mark k.As &> ((λ home x. typed home x.0 x.1) <$> (just formed & just bounds_given))

-- [ "As" type [ parameters ] ]; a type that isn't written is `%String`
unfoldable pub type_given : Phrase Bytes Typed
type_given = Or (is k.As) as_type (Pure (λ home. text_type))

-- ---- properties and relationships, in a class of this package, behind those that were found

-- a member's first word; given is whether one more has no room
unfoldable pub opens : Kind → Phrase Bool (Unit {0})
opens kind = Pick (is kind) (λ b t. full b) (λ b t. tt {0})

-- "Property" name [ type ] [ keywords ] ";"
unfoldable pub property : Phrase (Bytes × List PropTree) (List PropTree)
property = With (λ j. nat_le 200 (length j.1)) (opens k.Property) &>
    ((λ j x. j.1 ++ prop_of x.0 x.1.0 x.1.1 ∷ []) <$>
    (With (λ j. has_prop j.1) fresh & With (λ j. j.0) type_given & With (λ j. section.Property) keywords <& mark k.Semicolon))

-- "Relationship" name "As" class [ keywords ] ";"
unfoldable pub relation : Phrase (Bytes × List PropTree) (List PropTree)
relation = With (λ j. nat_le 200 (length j.1)) (opens k.Relationship) &>
    ((λ j x. j.1 ++ relation_of x.0 (whole_name j.0 x.1.0) x.1.1 ∷ []) <$>
    (With (λ j. has_prop j.1) fresh <& mark k.As & just class_name & With (λ j. section.Relation) keywords <& mark k.Semicolon))

-- ---- indexes, behind those that were found

-- a comma; given is whether nothing more has room
unfoldable pub comma_within : Phrase Bool (Unit {0})
comma_within = Pick (is k.Comma) (λ b t. full b) (λ b t. tt {0})

-- "," name, at most 3
unfoldable pub further_prop : Phrase (List Bytes) (List Bytes)
further_prop = With (λ props. nat_le 3 (length props)) comma_within &> ((λ props prop. props ++ prop ∷ []) <$> just name)

unfoldable pub more_props : Phrase (List Bytes) (List Bytes)
more_props = Many (is k.Comma) (λ props. props) (With (λ j. j.1) further_prop)

unfoldable pub one_prop : Phrase (Unit {0}) (List Bytes)
one_prop = (λ i prop. prop ∷ []) <$> name

-- "(" name { "," name } ")"
unfoldable pub listed_props : Phrase (Unit {0}) (List Bytes)
listed_props = mark k.LParen &> (Then one_prop (With (λ j. j.1) more_props) <& mark k.RParen)

-- name | "(" name { "," name } ")"
unfoldable pub index_props : Phrase (Unit {0}) (List Bytes)
index_props = Or (is k.LParen) listed_props one_prop

-- "Index" name "On" ( name | "(" name { "," name } ")" ) [ keywords ] ";"
unfoldable pub index : Phrase (List Index) (List Index)
index = With (λ found. nat_le 50 (length found)) (opens k.Index) &>
    ((λ found x. found ++ index_of x.0 x.1.0 x.1.1 ∷ []) <$>
    (With has_index fresh <& mark k.On & just index_props & With (λ found. section.Index) keywords <& mark k.Semicolon))

-- ---- parameters of a class, and storage blocks; both say nothing

-- [ "As" class ]
unfoldable pub result_type : Phrase (Unit {0}) (Unit {0})
result_type = Or (is k.As) ((λ i name. tt {0}) <$> (mark k.As &> class_name)) (Pure (λ i. tt))

-- [ "=" value ]
unfoldable pub skipped_value : Phrase (Unit {0}) (Unit {0})
skipped_value = Or (is k.Equals) ((λ i x. tt {0}) <$> (mark k.Equals &> With (λ i. Skipped) value)) (Pure (λ i. tt))

-- "Parameter" name [ "As" class ] [ "=" value ] ";"
unfoldable pub parameter : Phrase (Unit {0}) (Unit {0})
parameter = mark k.Parameter &> (name &> (result_type &> (skipped_value &> mark k.Semicolon)))

-- "Storage" name "{" balanced "}"
unfoldable pub storage : Phrase (Unit {0}) (Unit {0})
storage = mark k.Storage &> (name &> ((λ i text. tt {0}) <$> With (λ i. false) block))

-- ---- methods, behind those that were found

-- [ "=" literal ]
unfoldable pub default : Phrase (Unit {0}) (Option Bytes)
default = Or (is k.Equals) ((λ i x. Some x) <$> (mark k.Equals &> With (λ i. false) literal)) (Pure (λ i. None))

abbrev pub arg_of : Bytes → Option Bytes → Arg
arg_of name default = record { name = name; default = default }

-- name [ "As" class ] [ "=" literal ]
unfoldable pub argument : Phrase (Unit {0}) Arg
argument = (λ i x. arg_of x.0 x.1) <$> (name & (result_type &> default))

-- "," argument, at most 16
unfoldable pub further_arg : Phrase (List Arg) (List Arg)
further_arg = With (λ args. nat_le 16 (length args)) comma_within &> ((λ args arg. args ++ arg ∷ []) <$> just argument)

unfoldable pub more_args : Phrase (List Arg) (List Arg)
more_args = Many (is k.Comma) (λ args. args) (With (λ j. j.1) further_arg)

-- argument { "," argument }
unfoldable pub some_args : Phrase (Unit {0}) (List Arg)
some_args = Then ((λ i arg. arg ∷ []) <$> argument) (With (λ j. j.1) more_args)

unfoldable pub args_within : Phrase (Unit {0}) (List Arg)
args_within = Or is_name some_args (Pure (λ i. []))

-- "(" [ argument { "," argument } ] ")"
unfoldable pub args : Phrase (Unit {0}) (List Arg)
args = mark k.LParen &> (args_within <& mark k.RParen)

-- "{" body "}"
unfoldable pub body : Phrase (Unit {0}) Body
body = Pick is_block no_limit (λ i t. body_of t)

-- ( "Method" | "ClassMethod" ) name arguments [ "As" class ] [ keywords ] "{" body "}"; the body's place is that of its
-- first byte in the text
unfoldable pub method : Kind → Bool → Phrase (Placed × List Method) (List Method)
method kind of_class = With (λ j. nat_le 500 (length j.1)) (opens kind) &>
    ((λ j x. j.1 ++ method_of x.0 of_class x.1.0 x.1.1.text (place_in j.0 x.1.1.left) ∷ []) <$>
    (With (λ j. has_method j.1) fresh & just args & (just result_type &> (With (λ j. section.Method) keywords &> just body))))

-- ---- members, behind those that were found

-- a member that this profile leaves out: a limit keeps out its first word
unfoldable pub left_out : Phrase (Unit {0}) (Unit {0})
left_out = Pick (is k.LeftOut) (λ i t. barred true) (λ i t. tt {0})

unfoldable pub last_member : Phrase Members Members
last_member = Or (is k.Storage) ((λ m x. m) <$> just storage) ((λ m x. m) <$> just left_out)

unfoldable pub method_member : Phrase (Placed × Members) Members
method_member =
    Or (is k.Method) ((λ j x. with_methods j.1 x) <$> With (λ j. (j.0, j.1.methods)) (method k.Method false))
    (Or (is k.ClassMethod) ((λ j x. with_methods j.1 x) <$> With (λ j. (j.0, j.1.methods)) (method k.ClassMethod true)) (With (λ j. j.1) last_member))

unfoldable pub index_member : Phrase (Placed × Members) Members
index_member =
    Or (is k.Index) ((λ j x. with_indexes j.1 x) <$> With (λ j. j.1.indexes) index) (Or (is k.Parameter) ((λ j x. j.1) <$> just parameter) method_member)

-- property | relationship | index | parameter | method | storage
unfoldable pub member : Phrase (Site × Members) Members
member =
    Or (is k.Property) ((λ j x. with_props j.1 x) <$> With (λ j. (j.0.home, j.1.props)) property)
    (Or (is k.Relationship) ((λ j x. with_props j.1 x) <$> With (λ j. (j.0.home, j.1.props)) relation) (With (λ j. (j.0.text, j.1)) index_member))

-- { member }
unfoldable pub members : Phrase Site Members
members = Many is_member_word (λ s. no_members) member

-- ---- superclasses, in a class of this package

-- class
unfoldable pub one_super : Phrase Bytes ClassName
one_super = (λ home name. class_in home name) <$> just class_name

-- "," class
unfoldable pub further_super : Phrase (Bytes × List ClassName) (List ClassName)
further_super = mark k.Comma &> ((λ j name. j.1 ++ name ∷ []) <$> With (λ j. j.0) one_super)

unfoldable pub more_supers : Phrase (Bytes × List ClassName) (List ClassName)
more_supers = Many (is k.Comma) (λ j. j.1) (With (λ j. (j.0.0, j.1)) further_super)

unfoldable pub first_super : Phrase Bytes (List ClassName)
first_super = (λ home name. name ∷ []) <$> one_super

-- "(" class { "," class } ")"
unfoldable pub listed_supers : Phrase Bytes (List ClassName)
listed_supers = mark k.LParen &> (Then first_super more_supers <& mark k.RParen)

-- class | "(" class { "," class } ")"
unfoldable pub supers : Phrase Bytes (List ClassName)
supers = Or (is k.LParen) listed_supers first_super

-- [ "Extends" supers ]
unfoldable pub supers_given : Phrase Bytes (List ClassName)
supers_given = Or (is k.Extends) (mark k.Extends &> supers) (Pure (λ home. []))

-- ---- classes

-- [ "Extends" supers ] [ keywords ] "{" { member } "}", behind a class's own name
unfoldable pub class_rest : Phrase (Placed × Bytes) ClassTree
class_rest = (λ j x. tree_of j.1 x.0 x.1) <$>
    (With (λ j. package_of j.1) supers_given & (With (λ j. section.Class) keywords &> (mark k.LBrace &>
    (With (λ j. site j.0 (package_of j.1)) members <& mark k.RBrace))))

-- "Class" name [ "Extends" supers ] [ keywords ] "{" { member } "}", behind the classes that were found
unfoldable pub one_class : Phrase (Placed × List ClassTree) (List ClassTree)
one_class = With (λ j. nat_le 500 (length j.1)) (opens k.Class) &>
    Then (just own_name) ((λ j class. j.0.1 ++ class ∷ []) <$> With (λ j. (j.0.0, j.1)) class_rest)

-- { class }
unfoldable pub classes : Phrase Placed (List ClassTree)
classes = Many (is k.Class) (λ text. []) one_class

-- ---- readers and languages of phrases

abbrev pub read : {I A : Type 0} → Phrase I A → I → Parser Kind ClassWhy A
read p i = reads tongue plain false p i

-- the classes of a text; `free` tells which limits don't count for which tokens
abbrev pub Classes : Free Kind ClassWhy → Bytes → Lang Kind (List ClassTree)
Classes free text = Is tongue plain free classes (whole_text text)
