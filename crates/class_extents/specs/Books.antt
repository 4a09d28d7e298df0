-- The entries of an extent, found by their names.
use Rattle.std.specs.Prelude.{ℕ, Bool, List, [], ◌∷◌, ◌++◌, fold, Option, Some, None}
use Rattle.std.specs.Map.{lookup}
use Rattle.indexmap.specs.IndexMap.{insert_entry}
use Rattle.schema_kinds.specs.declared.tree.ClassTree.{ClassTree}
use Rattle.schema_kinds.specs.Hierarchy.{same_text}
use Rattle.class_facts.specs.Facts.{option_any}
use Rattle.class_extents.specs.declared.entry.Entry.{Entry}
use Rattle.class_extents.specs.declared.extent.Extent.{Extent}
use Rattle.class_extents.specs.Extents.{entry_name}

abbrev pub or_nothing : Option (List Entry) → List Entry
or_nothing None = []
or_nothing (Some entries) = entries

-- the entries of a name, in order
abbrev pub group_of : List ℕ → List (List ℕ × List Entry) → List Entry
group_of name book = or_nothing (lookup (same_text name) book)

abbrev pub put_entry : List (List ℕ × List Entry) → List ℕ → Entry → List (List ℕ × List Entry)
put_entry book name e = insert_entry same_text book name (group_of name book ++ e ∷ [])

abbrev pub note_by : List (List ℕ × List Entry) → Entry → Option (List ℕ) → List (List ℕ × List Entry)
note_by book e None = book
note_by book e (Some name) = put_entry book name e

abbrev pub note : List ClassTree → List (List ℕ × List Entry) → Entry → List (List ℕ × List Entry)
note trees book e = note_by book e (entry_name trees e)

abbrev pub book_of : List ClassTree → List Entry → List (List ℕ × List Entry)
book_of trees entries = fold (note trees) [] entries

abbrev pub is_named : List ClassTree → List ℕ → Entry → Bool
is_named trees name e = option_any (same_text name) (entry_name trees e)

-- an extent with these entries
abbrev pub extent_with : List ClassTree → List Entry → Extent
extent_with trees entries = record { entries = entries; book = book_of trees entries }
