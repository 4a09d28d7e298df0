-- Which class is refused, and why.
use Rattle.std.specs.Prelude.{◌≡◌, ℕ, ◌<◌, ◌≤◌, ◌⊎◌, Bool, false, List, [], ◌∷◌, length, find, Option, Some, None, slice_get, IsTrue}
use Rattle.schema_kinds.specs.declared.tree.ClassTree.{ClassTree}
use Rattle.schema_kinds.specs.Links.{IsInRing}
use Rattle.class_facts.specs.declared.spots.Spot.{Spot}
use Rattle.class_link.specs.declared.error.LinkWhy.{LinkWhy}
use Rattle.class_link.specs.declared.error.LinkWhy.TheVariants.{RepeatedClass, UnknownSuper, SuperRing, KindClash, UnknownType, BadType, SerialRing, NotYet, NoInverse, UnknownIndexProperty, BadIndexProperty, NameClash, BadParameter, TooMany}
use Rattle.class_facts.specs.Trees.{super_links, supers_of}
use Rattle.class_facts.specs.Facts.{Facts, facts_of, props_in, indexes_in}
use Rattle.class_checks.specs.Reasons.{is_repeated, has_unknown, has_unknown_type, has_kind_clash, has_bad_type, has_serial_ring, has_not_yet, has_no_inverse, has_unknown_index_prop, has_bad_index_prop, has_bad_parameter}
use Rattle.class_extents.specs.Extents.{has_name_clash, has_too_many}

-- the reasons that are tests, for a class with these members; that a class is below itself is none
abbrev pub test_with : List ClassTree → Facts → ℕ → List (List ℕ × Spot) → List (List ℕ × Spot) → LinkWhy → Bool
test_with trees f i props indexes RepeatedClass = is_repeated f.names i
test_with trees f i props indexes UnknownSuper = has_unknown f.names (supers_of (slice_get trees i))
test_with trees f i props indexes SuperRing = false
test_with trees f i props indexes KindClash = has_kind_clash trees f i
test_with trees f i props indexes UnknownType = has_unknown_type trees f props
test_with trees f i props indexes BadType = has_bad_type trees f i props
test_with trees f i props indexes SerialRing = has_serial_ring trees f i
test_with trees f i props indexes NotYet = has_not_yet trees props
test_with trees f i props indexes NoInverse = has_no_inverse trees f i
test_with trees f i props indexes UnknownIndexProperty = has_unknown_index_prop trees props indexes
test_with trees f i props indexes BadIndexProperty = has_bad_index_prop trees f props indexes
test_with trees f i props indexes NameClash = has_name_clash trees f i props indexes
test_with trees f i props indexes BadParameter = has_bad_parameter trees props
test_with trees f i props indexes TooMany = has_too_many trees f i props indexes

abbrev pub test_of : List ClassTree → Facts → ℕ → LinkWhy → Bool
test_of trees f i why = test_with trees f i (props_in f i) (indexes_in f i) why

-- a class has a reason
abbrev pub Has : List ClassTree → ℕ → LinkWhy → Type 0
Has trees i RepeatedClass = IsTrue (test_of trees (facts_of trees) i RepeatedClass)
Has trees i UnknownSuper = IsTrue (test_of trees (facts_of trees) i UnknownSuper)
Has trees i SuperRing = IsInRing (super_links trees) i
Has trees i KindClash = IsTrue (test_of trees (facts_of trees) i KindClash)
Has trees i UnknownType = IsTrue (test_of trees (facts_of trees) i UnknownType)
Has trees i BadType = IsTrue (test_of trees (facts_of trees) i BadType)
Has trees i SerialRing = IsTrue (test_of trees (facts_of trees) i SerialRing)
Has trees i NotYet = IsTrue (test_of trees (facts_of trees) i NotYet)
Has trees i NoInverse = IsTrue (test_of trees (facts_of trees) i NoInverse)
Has trees i UnknownIndexProperty = IsTrue (test_of trees (facts_of trees) i UnknownIndexProperty)
Has trees i BadIndexProperty = IsTrue (test_of trees (facts_of trees) i BadIndexProperty)
Has trees i NameClash = IsTrue (test_of trees (facts_of trees) i NameClash)
Has trees i BadParameter = IsTrue (test_of trees (facts_of trees) i BadParameter)
Has trees i TooMany = IsTrue (test_of trees (facts_of trees) i TooMany)

-- the four groups, each tested for all classes before the next
abbrev pub group_of : LinkWhy → ℕ
group_of RepeatedClass = 1
group_of UnknownSuper = 2
group_of SuperRing = 2
group_of UnknownType = 3
group_of KindClash = 4
group_of BadType = 4
group_of SerialRing = 4
group_of NotYet = 4
group_of NoInverse = 4
group_of UnknownIndexProperty = 4
group_of BadIndexProperty = 4
group_of NameClash = 4
group_of BadParameter = 4
group_of TooMany = 4

abbrev pub number_of : LinkWhy → ℕ
number_of RepeatedClass = 1
number_of UnknownSuper = 2
number_of SuperRing = 3
number_of KindClash = 4
number_of UnknownType = 5
number_of BadType = 6
number_of SerialRing = 7
number_of NotYet = 8
number_of NoInverse = 9
number_of UnknownIndexProperty = 10
number_of BadIndexProperty = 11
number_of NameClash = 12
number_of BadParameter = 13
number_of TooMany = 14

-- by the group, then the class, then the number
abbrev pub IsUpTo : ℕ → LinkWhy → ℕ → LinkWhy → Type 0
IsUpTo i why j other =
    (group_of why < group_of other)
    ⊎ ((group_of why ≡ group_of other) × ((i < j) ⊎ ((i ≡ j) × (number_of why ≤ number_of other))))

-- the class has this reason, and no class has one that comes before it
pub record IsFirstReason (trees : List ClassTree) (i : ℕ) (why : LinkWhy) : Type 0 where
  pub within : i < length trees
  pub has : Has trees i why
  pub first : (j : ℕ) (other : LinkWhy) → j < length trees → Has trees j other → IsUpTo i why j other

-- the reasons of the last group, by their numbers
abbrev pub shape_reasons : List LinkWhy
shape_reasons = KindClash ∷ BadType ∷ SerialRing ∷ NotYet ∷ NoInverse ∷ []

abbrev pub name_reasons : List LinkWhy
name_reasons = UnknownIndexProperty ∷ BadIndexProperty ∷ NameClash ∷ BadParameter ∷ TooMany ∷ []

abbrev pub why_or : Option LinkWhy → Option LinkWhy → Option LinkWhy
why_or None other = other
why_or (Some why) other = Some why

abbrev pub late_with : List ClassTree → Facts → ℕ → List (List ℕ × Spot) → List (List ℕ × Spot) → Option LinkWhy
late_with trees f i props indexes = why_or (find (test_with trees f i props indexes) shape_reasons) (find (test_with trees f i props indexes) name_reasons)

-- the first reason of the last group that a class has
abbrev pub late_reason : List ClassTree → Facts → ℕ → Option LinkWhy
late_reason trees f i = late_with trees f i (props_in f i) (indexes_in f i)
