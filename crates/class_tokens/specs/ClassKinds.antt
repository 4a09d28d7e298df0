-- Kinds of tokens: which are words, names, numbers, strings and blocks.
use Rattle.std.specs.Prelude.{◌≡◌, refl, Bool, true, false, ◌||◌}
use denote.Enum.Bare.{sameb, same_true, true_same}
use Rattle.class_tokens.specs.contracts.token.Kind.{the_type}
use Rattle.class_tokens.specs.declared.token.Kind.{Kind}
use Rattle.class_tokens.specs.declared.token.Kind.TheVariants as k

-- `==` on kinds
unfoldable pub same_kind : Kind → Kind → Bool
same_kind = sameb the_type

pub same_kind_is : (a b : Kind) → same_kind a b ≡ true → a ≡ b
unfolding same_kind
same_kind_is = same_true the_type tt

pub same_kind_self : (a : Kind) → same_kind a a ≡ true
unfolding same_kind
same_kind_self a = true_same the_type a a refl

-- the kinds that are this one
abbrev pub is : Kind → Kind → Bool
is wanted kind = same_kind kind wanted

abbrev pub is_head_word : Kind → Bool
is_head_word k.Class = true
is_head_word k.Extends = true
is_head_word k.Not = true
is_head_word k.On = true
is_head_word _ = false

abbrev pub is_type_word : Kind → Bool
is_type_word k.As = true
is_type_word k.List = true
is_type_word k.Array = true
is_type_word k.Of = true
is_type_word _ = false

abbrev pub is_member_word : Kind → Bool
is_member_word k.Property = true
is_member_word k.Relationship = true
is_member_word k.Index = true
is_member_word k.Parameter = true
is_member_word k.Method = true
is_member_word k.ClassMethod = true
is_member_word k.Storage = true
is_member_word k.LeftOut = true
is_member_word _ = false

abbrev is_plain_name : Kind → Bool
is_plain_name k.Name = true
is_plain_name _ = false

abbrev is_other_word : Kind → Bool
is_other_word k.Percent = true
is_other_word k.Lone = true
is_other_word _ = false

abbrev is_bare : Kind → Bool
is_bare k.Bare = true
is_bare _ = false

-- a name: a letter followed by letters and digits
unfoldable pub is_name : Kind → Bool
is_name kind = is_plain_name kind || is_head_word kind || is_type_word kind || is_member_word kind

-- a word: a name that may begin with `%`
unfoldable pub is_word : Kind → Bool
is_word kind = is_name kind || is_other_word kind

unfoldable pub is_own_word : Kind → Bool
is_own_word kind = is_word kind || is_bare kind

abbrev pub is_number : Kind → Bool
is_number k.Digits = true
is_number k.LongDigits = true
is_number _ = false

abbrev pub is_text : Kind → Bool
is_text k.Text = true
is_text k.OpenText = true
is_text k.BadText = true
is_text _ = false

abbrev pub is_block : Kind → Bool
is_block k.Block = true
is_block k.OpenBlock = true
is_block k.BadBlock = true
is_block k.TornBlock = true
is_block _ = false
