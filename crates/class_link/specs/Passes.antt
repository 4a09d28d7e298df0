-- What the passes over all classes look for, and what they answer.
use Rattle.std.specs.Prelude.{◌≡◌, ℕ, ◌<◌, ◌+◌, ◌++◌, ◌∷◌, Bool, cond, List, [], get_or, slice_get, Option, Some, None}
use Rattle.std.specs.List.{list_any}
use Rattle.schema_kinds.specs.declared.tree.ClassTree.{ClassTree}
use Rattle.schema_kinds.specs.declared.hierarchy.Hierarchy.{Hierarchy}
use Rattle.schema_kinds.specs.Links.{row, mark_at}
use Rattle.schema_kinds.specs.Hierarchy.{same_text}
use Rattle.class_link.specs.declared.error.LinkWhy.{LinkWhy}
use Rattle.class_link.specs.declared.error.LinkWhy.TheVariants.{RepeatedClass, UnknownSuper, SuperRing, UnknownType}
use Rattle.class_facts.specs.Trees.{supers_of}
use Rattle.class_facts.specs.Facts.{Facts, props_in}
use Rattle.class_checks.specs.Reasons.{is_repeated, has_unknown, has_unknown_type}

-- of the places below n, the first that has a reason, with that reason
abbrev pub IsFirstOf : (ℕ → Option LinkWhy) → ℕ → Option (ℕ × LinkWhy) → Type 0
IsFirstOf reason n None = (j : ℕ) → j < n → reason j ≡ None
IsFirstOf reason n (Some p) = (p.0 < n) × (reason p.0 ≡ Some p.1) × ((j : ℕ) → j < p.0 → reason j ≡ None)

-- the place, counted from one on, of the first name that is among those before it
abbrev pub first_repeated : ℕ → List (List ℕ) → List (List ℕ) → Option ℕ
first_repeated from seen [] = None
first_repeated from seen (name ∷ names) = cond (list_any (same_text name) seen) (Some from) (first_repeated (from + 1) (seen ++ name ∷ []) names)

abbrev pub IfNoneThen : Type 0 → Option ℕ → Type 0
IfNoneThen P None = P
IfNoneThen P (Some i) = Unit {0}

abbrev pub name_reason : List (List ℕ) → ℕ → Option LinkWhy
name_reason names i = cond (is_repeated names i) (Some RepeatedClass) None

-- a superclass is marked as at or below the class
abbrev pub ring_mark : List (List ℕ) → List (List Bool) → ℕ → Bool
ring_mark links above i = list_any (λ s. mark_at (get_or above s []) i) (row links i)

abbrev pub super_reason : List ClassTree → Hierarchy → ℕ → Option LinkWhy
super_reason trees h i =
    cond (has_unknown h.names (supers_of (slice_get trees i))) (Some UnknownSuper)
    (cond (ring_mark h.links h.above i) (Some SuperRing) None)

abbrev pub type_reason : List ClassTree → Facts → ℕ → Option LinkWhy
type_reason trees f i = cond (has_unknown_type trees f (props_in f i)) (Some UnknownType) None
