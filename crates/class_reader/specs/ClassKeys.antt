-- The table of keywords: which are read, which are left out, and which are skipped. Their words keep their case.
use Rattle.std.specs.Prelude.{Bool, true, false, ◌||◌, ◌&&◌, not, if◌then◌else◌, Option, Some, None, [], codes}
use Rattle.std.specs.Str.{bytes_eq}
use Rattle.class_reader.specs.declared.keys.Section.{Section}
use Rattle.class_reader.specs.declared.keys.Section.TheVariants as section
use Rattle.class_reader.specs.declared.keys.Rule.{Rule}
use Rattle.class_reader.specs.declared.keys.Rule.TheVariants as rule
use Rattle.class_reader.specs.declared.keys.Given.{Given}
use Rattle.class_reader.specs.declared.keys.Bounds.{Bounds}
use Rattle.text_reading.specs.Tokens.{Bytes}

-- ---- what may be said

unfoldable pub property_rule : Bytes → Rule
property_rule word =
    if bytes_eq word (codes "InitialExpression") then rule.Literal
    else (if bytes_eq word (codes "Calculated") || bytes_eq word (codes "MultiDimensional") || bytes_eq word (codes "Transient") || bytes_eq word (codes "SqlComputed") then rule.LeftOut
    else rule.Skipped)

unfoldable pub index_rule : Bytes → Rule
index_rule word =
    if bytes_eq word (codes "IdKey") || bytes_eq word (codes "Condition") then rule.LeftOut
    else (if bytes_eq word (codes "Type") then rule.OnlyIndex else rule.Skipped)

unfoldable pub method_rule : Bytes → Rule
method_rule word =
    if bytes_eq word (codes "Language") then rule.OnlyCache
    else (if bytes_eq word (codes "CodeMode") then rule.OnlyCode else rule.Skipped)

-- Literal: with a number or a string alone. NotRight: with any value but `right`. OnlyIndex, OnlyCache, OnlyCode: with this value alone.
abbrev pub rule_of : Section → Bytes → Rule
rule_of section.Class word = if bytes_eq word (codes "Inheritance") then rule.NotRight else rule.Skipped
rule_of section.Property word = property_rule word
rule_of section.Relation word = if bytes_eq word (codes "OnDelete") then rule.LeftOut else rule.Skipped
rule_of section.Index word = index_rule word
rule_of section.Method word = method_rule word

abbrev pub is_left_out : Rule → Bool
is_left_out rule.LeftOut = true
is_left_out _ = false

-- A value that is a name and begins with this word is left out; `lone` says that the word is the whole name.
abbrev pub bars_word : Rule → Bool → Bytes → Bool
bars_word rule.Literal lone word = true
bars_word rule.NotRight lone word = lone && bytes_eq word (codes "right")
bars_word rule.OnlyIndex lone word = not (bytes_eq word (codes "index"))
bars_word rule.OnlyCache lone word = not (bytes_eq word (codes "cache"))
bars_word rule.OnlyCode lone word = not (bytes_eq word (codes "code"))
bars_word _ lone word = false

-- any other value is left out: a longer name, a number, a string, a value in brackets
abbrev pub is_only : Rule → Bool
is_only rule.OnlyIndex = true
is_only rule.OnlyCache = true
is_only rule.OnlyCode = true
is_only _ = false

abbrev pub is_literal : Rule → Bool
is_literal rule.Literal = true
is_literal _ = false

-- a value in brackets is left out
abbrev pub bars_block : Rule → Bool
bars_block r = is_literal r || is_only r

-- ---- what is said

abbrev pub nothing_given : Given
nothing_given = record { required = false; initial = []; cardinality = None; inverse = None; unique = false; lacks = false }

abbrev pub note_property : Bytes → Bytes → Given → Given
note_property word value g =
    if bytes_eq word (codes "Required") then record g { required = true }
    else (if bytes_eq word (codes "InitialExpression") then record g { initial = value } else g)

abbrev pub note_relation : Bytes → Bytes → Given → Given
note_relation word value g =
    if bytes_eq word (codes "Cardinality") then record g { cardinality = Some value }
    else (if bytes_eq word (codes "Inverse") then record g { inverse = Some value } else g)

abbrev pub note_index : Bytes → Given → Given
note_index word g = if bytes_eq word (codes "Unique") || bytes_eq word (codes "PrimaryKey") then record g { unique = true } else g

-- a keyword that is read; the others say nothing
unfoldable pub note : Section → Bytes → Bytes → Given → Given
note section.Property word value g = note_property word value g
note section.Relation word value g = note_relation word value g
note section.Index word value g = note_index word g
note _ word value g = g

abbrev pub value_or_empty : Option Bytes → Bytes
value_or_empty (Some value) = value
value_or_empty None = []

abbrev pub is_none : Option Bytes → Bool
is_none (Some value) = false
is_none None = true

-- Behind `Not` a keyword says nothing. One that has to have a number or a string lacks it where it has no value.
unfoldable pub noted : Section → Bool → Bytes → Option Bytes → Given → Given
noted s negated word value g =
    let lacks = is_literal (rule_of s word) && is_none value in
    let said = if negated then g else note s word (value_or_empty value) g in
    record said { lacks = lacks }

-- ---- parameters of a property

unfoldable pub is_left_out_bound : Bytes → Bool
is_left_out_bound word =
    bytes_eq word (codes "MINLEN") || bytes_eq word (codes "PATTERN") || bytes_eq word (codes "TRUNCATE") || bytes_eq word (codes "VALUELIST") || bytes_eq word (codes "COLLATION")

abbrev pub no_bounds : Bounds
no_bounds = record { max_len = None; min_val = None; max_val = None }

unfoldable pub bound : Bytes → Bytes → Bounds → Bounds
bound word value b =
    if bytes_eq word (codes "MAXLEN") then record b { max_len = Some value }
    else (if bytes_eq word (codes "MINVAL") then record b { min_val = Some value }
    else (if bytes_eq word (codes "MAXVAL") then record b { max_val = Some value } else b))
