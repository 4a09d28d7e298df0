-- Members that are gathered class by class, those with few classes above them first.
use Rattle.std.specs.Prelude.{◌≡◌, ℕ, ◌<◌, ◌⊎◌, Bool, List, length, slice_get, Some}
use Rattle.schema_kinds.specs.Links.{rank}
use Rattle.schema_kinds.specs.declared.tree.ClassTree.{ClassTree}
use Rattle.class_facts.specs.declared.members.Members.{Members}
use Rattle.class_facts.specs.Trees.{members_of}

-- the members of all classes
pub record AreGathered (trees : List ClassTree) (done : List Members) : Type 0 where
  pub as_many : length done ≡ length trees
  pub each : (i : ℕ) → i < length trees → slice_get done i ≡ Some (members_of trees i)

-- those of the classes with a lower rank, and of those with this rank before this place
pub record AreGatheredTo (trees : List ClassTree) (above : List (List Bool)) (r place : ℕ) (done : List Members) : Type 0 where
  pub as_many : length done ≡ length trees
  pub each : (i : ℕ) → i < length trees → (rank above i < r) ⊎ ((rank above i ≡ r) × (i < place)) → slice_get done i ≡ Some (members_of trees i)
