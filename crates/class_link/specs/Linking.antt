-- What `link` answers.
use Rattle.std.specs.Prelude.{◌≡◌, ℕ, ◌<◌, ◌≤◌, Bool, List, length, map, option_map, slice_get, Option, Some, None, Result, Ok, Err}
use Rattle.obj_kinds.specs.declared.memory.NoMemory.{NoMemory}
use Rattle.obj_kinds.specs.declared.name.ClassName.{ClassName}
use Rattle.schema_kinds.specs.declared.class.Class.{Class}
use Rattle.schema_kinds.specs.declared.tree.ClassTree.{ClassTree}
use Rattle.schema_kinds.specs.Links.{climbs, mark_at}
use Rattle.class_extents.specs.declared.extent.Extent.{Extent}
use Rattle.class_extents.specs.Books.{extent_with}
use Rattle.class_link.specs.declared.error.LinkWhy.{LinkWhy}
use Rattle.class_link.specs.declared.error.LinkError.{LinkError}
use Rattle.class_link.specs.declared.error.LinkError.TheVariants as error
use Rattle.class_facts.specs.Facts.{Facts, facts_of, count_from}
use Rattle.class_checks.specs.Reasons.{has_serial_ring}
use Rattle.class_extents.specs.Extents.{extent_entries}
use Rattle.class_link.specs.Refusal.{Has, group_of, IsFirstReason}
use Rattle.class_meaning.specs.Meaning.{classes_of}

-- no class has any reason, and the schema is what the trees mean
pub record IsLinked (trees : List ClassTree) (schema : List Class) : Type 0 where
  pub allowed : (i : ℕ) (why : LinkWhy) → i < length trees → ¬ Has trees i why
  pub means : schema ≡ classes_of trees (facts_of trees)

-- the class that is refused, and its reason, are the first
abbrev pub IsRefusal : List ClassTree → LinkError → Type 0
IsRefusal trees error.NoMemory = Unit {0}
IsRefusal trees (error.BadLink class why) = (i : ℕ) × (Some class ≡ option_map (λ t. t.name) (slice_get trees i)) × IsFirstReason trees i why

-- no class has a reason of an earlier group
abbrev pub NoneBelow : List ClassTree → ℕ → Type 0
NoneBelow trees g = (j : ℕ) (other : LinkWhy) → j < length trees → Has trees j other → g ≤ group_of other

-- the refusal of one class, or want of memory
abbrev pub IsOf : List ClassTree → ℕ → LinkWhy → LinkError → Type 0
IsOf trees i why error.NoMemory = Unit {0}
IsOf trees i why (error.BadLink class other) = (Some class ≡ option_map (λ t. t.name) (slice_get trees i)) × (other ≡ why)

-- what is found out before the last pass
pub record ArePrepared (trees : List ClassTree) (f : Facts) (entries : List Extent) (depth parts : List Bool) : Type 0 where
  pub extents : entries ≡ map (λ i. extent_with trees (extent_entries trees f i)) (count_from 0 (length trees))
  pub deep : (i : ℕ) → i < length trees → mark_at depth i ≡ climbs 17 f.links i
  pub nested : (i : ℕ) → i < length trees → mark_at parts i ≡ has_serial_ring trees f i

abbrev pub refusal_of : Result ClassName NoMemory → LinkWhy → LinkError
refusal_of (Ok class) why = error.BadLink class why
refusal_of (Err e) why = error.NoMemory

abbrev pub extent_by : List Extent → Option ℕ → Option Extent
extent_by extents None = None
extent_by extents (Some top) = slice_get extents top

abbrev pub extent_here : List ℕ → List Extent → ℕ → Option Extent
extent_here tops extents class = extent_by extents (slice_get tops class)
