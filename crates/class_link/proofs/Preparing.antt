-- What is found out before the last pass.
use Rattle.std.proofs.Common.{◌≡◌, ℕ, ◌+◌, ◌<◌, Bool, List, [], ◌∷◌, map, length, slice_get, Some, refl, sym, ap, subst, ◌∙◌, arith}
use Rattle.schema_kinds.specs.declared.tree.ClassTree.{ClassTree}
use Rattle.schema_kinds.specs.declared.class.Class.{Class}
use Rattle.schema_kinds.specs.declared.hierarchy.Hierarchy.{Hierarchy}
use Rattle.schema_kinds.specs.Links.{AreWithin, mark_at}
use Rattle.schema_kinds.specs.Hierarchy.{IsHierarchyOf}
use Rattle.schema_kinds.specs.Classes as classes
use Rattle.class_extents.specs.declared.extent.Extent.{Extent}
use Rattle.class_extents.specs.Books.{extent_with}
use Rattle.class_facts.specs.Trees.{headers_of, top_of}
use Rattle.class_facts.specs.Facts.{Facts, facts_of, count_from}
use Rattle.class_checks.specs.Reasons.{part_links}
use Rattle.class_extents.specs.Extents.{extent_of, extent_entries, entries_at}
use Rattle.class_checks.specs.Climbing.{climb_marks}
use Rattle.class_meaning.specs.Meaning.{classes_from, classes_of}
use Rattle.class_link.specs.Linking.{ArePrepared, extent_here, extent_by}
use Rattle.class_facts.proofs.Gathering.{super-within, length-links}
use Rattle.class_facts.proofs.FactLemmas.{get-count, length-names, top_of-small}
use Rattle.class_checks.proofs.PartLinks.{climb_marks-climbs, parts-within, length-parts}

module _ (trees : List ClassTree) (f : Facts) (are : f ≡ facts_of trees) where
  links-there : AreWithin f.links (length f.links)
  links-there = subst (λ l. AreWithin l (length l)) (sym (ap (λ (g : Facts). g.links) are)) (super-within trees)

  long-links : length f.links ≡ length trees
  long-links = ap (λ (g : Facts). length g.links) are ∙ length-links trees

  long-names : length f.names ≡ length trees
  long-names = ap (λ (g : Facts). length g.names) are ∙ length-names trees

  pub prepared : (entries : List Extent) (depth parts : List Bool) → entries ≡ map (λ i. extent_with trees (extent_entries trees f i)) (count_from 0 (length trees))
      → depth ≡ climb_marks 17 f.links → parts ≡ climb_marks 5 (part_links trees f) → ArePrepared trees f entries depth parts
  prepared entries depth parts e d p = record {
    extents = e;
    deep = λ i small. ap (λ ms. mark_at ms i) d ∙ climb_marks-climbs 17 f.links links-there i (subst (λ n. i < n) (sym long-links) small);
    nested = λ i small. ap (λ ms. mark_at ms i) p ∙ climb_marks-climbs 5 (part_links trees f) (parts-within trees f long-names) i (subst (λ n. i < n) (sym (length-parts trees f)) small);
  }

  top-there : (i : ℕ) → i < length trees → slice_get f.tops i ≡ Some (top_of trees i)
  top-there i small = ap (λ (g : Facts). slice_get g.tops i) are ∙ get-count (λ j. top_of trees j) 0 (length trees) i small ∙ (let e : 0 + i ≡ i = omega arith in ap (λ j. Some (top_of trees j)) e)

  pub extent-right : (extents : List Extent) (i : ℕ) → extents ≡ map (λ j. extent_with trees (extent_entries trees f j)) (count_from 0 (length trees)) → i < length trees
      → extent_here f.tops extents i ≡ Some (extent_with trees (extent_of trees f i))
  extent-right extents i e small =
      ap (extent_by extents) (top-there i small)
      ∙ (ap (λ l. slice_get l (top_of trees i)) e ∙ get-count (λ j. extent_with trees (extent_entries trees f j)) 0 (length trees) (top_of trees i) (top_of-small trees i small))
      ∙ (let same : 0 + top_of trees i ≡ top_of trees i = omega arith in ap (λ j. Some (extent_with trees (extent_entries trees f j))) same)
      ∙ sym (ap (λ o. Some (extent_with trees (entries_at trees f o))) (top-there i small))

-- the classes have the headers of the trees
headers-from : (trees : List ClassTree) (f : Facts) (i : ℕ) (rest : List ClassTree) → classes.headers_of (classes_from trees f i rest) ≡ headers_of rest
headers-from trees f i [] = refl
headers-from trees f i (tree ∷ rest) = ap (λ l. record { name = tree.name; supers = tree.supers } ∷ l) (headers-from trees f (i + 1) rest)

pub classes-fit : (trees : List ClassTree) (f : Facts) (h : Hierarchy) (built : List Class) → built ≡ classes_of trees f → IsHierarchyOf (headers_of trees) h → IsHierarchyOf (classes.headers_of built) h
classes-fit trees f h built e is = subst (λ headers. IsHierarchyOf headers h) (sym (ap classes.headers_of e ∙ headers-from trees f 0 trees)) is
