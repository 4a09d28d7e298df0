-- Ways up are counted by marks, and the parts of a class are classes of the list.
use Rattle.std.proofs.Common.{◌≡◌, ℕ, zero, suc, ◌<◌, Bool, true, false, cond, ◌||◌, List, [], ◌∷◌, map, filter_map, length, Option, Some, None, option_and_then, refl, sym, subst, ◌∙◌, arith}
use Rattle.std.specs.List.{list_any}
use Rattle.std.proofs.lemmas.List.Quantifiers.{position-Some}
use Rattle.obj_kinds.specs.declared.name.ClassName.{ClassName}
use Rattle.schema_kinds.specs.declared.tree.ClassTree.{ClassTree}
use Rattle.schema_kinds.specs.declared.tree.PropTree.{PropTree}
use Rattle.schema_kinds.specs.declared.tree.Form.{Form}
use Rattle.schema_kinds.specs.declared.tree.Form.TheVariants.{Single, List as ListForm, Array, Relation}
use Rattle.schema_kinds.specs.Links.{row, IsWithin, AreWithin, climbs, mark_at}
use Rattle.schema_kinds.specs.Hierarchy.{same_text, place_of}
use Rattle.schema_kinds.proofs.Ranks.{AreWithin-row}
use Rattle.schema_kinds.proofs.Hierarchies.{length-map}
use Rattle.class_facts.specs.Trees.{prop_at}
use Rattle.class_facts.specs.Facts.{Facts, count_from, sort_in}
use Rattle.class_facts.proofs.FactLemmas.{length-count}
use Rattle.class_facts.specs.Sorts.{is_serial}
use Rattle.class_checks.specs.Reasons.{part_place, part_by, part_of, parts_in, part_links}
use Rattle.class_checks.specs.Climbing.{all_true, any_marks, climb_marks}

-- marks that are counted down are on the places that have a way up
mark-all_true : (links : List (List ℕ)) (a : ℕ) → a < length links → mark_at (all_true links) a ≡ true
mark-all_true [] a h = absurd (omega arith)
mark-all_true (r ∷ rows) zero h = refl
mark-all_true (r ∷ rows) (suc a) h = mark-all_true rows a (omega arith)

mark-any_marks : (ms : List Bool) (links : List (List ℕ)) (a : ℕ) → a < length links → mark_at (any_marks ms links) a ≡ list_any (mark_at ms) (row links a)
mark-any_marks ms [] a h = absurd (omega arith)
mark-any_marks ms (r ∷ rows) zero h = refl
mark-any_marks ms (r ∷ rows) (suc a) h = mark-any_marks ms rows a (omega arith)

any-same : (ms : List Bool) (test : ℕ → Bool) (xs : List ℕ) (n : ℕ) → IsWithin xs n → ((s : ℕ) → s < n → mark_at ms s ≡ test s) → list_any (mark_at ms) xs ≡ list_any test xs
any-same ms test [] n w h = refl
any-same ms test (x ∷ xs) n w h = λ i. h x w.0 i || any-same ms test xs n w.1 h i

pub climb_marks-climbs : (k : ℕ) (links : List (List ℕ)) → AreWithin links (length links) → (a : ℕ) → a < length links → mark_at (climb_marks k links) a ≡ climbs k links a
climb_marks-climbs zero links w a small = mark-all_true links a small
climb_marks-climbs (suc k) links w a small =
    mark-any_marks (climb_marks k links) links a small
    ∙ any-same (climb_marks k links) (λ s. climbs k links s) (row links a) (length links) (AreWithin-row links (length links) a w) (λ s inside. climb_marks-climbs k links w s inside)

-- parts are classes of the list
filter_map-within : {X : Type 0} (h : X → Option ℕ) (n : ℕ) → ((x : X) (j : ℕ) → h x ≡ Some j → j < n) → (xs : List X) → IsWithin (filter_map h xs) n
filter_map-within h n small [] = tt
filter_map-within {X} h n small (x ∷ xs) = by (filter_map-within h n small xs) (h x) refl
  where
    by : IsWithin (filter_map h xs) n → (o : Option ℕ) → h x ≡ o → IsWithin (filter_map h (x ∷ xs)) n
    by rest None e = rw e rest
    by rest (Some j) e = rw e (small x j e, rest)

part-small : (f : Facts) (name : ClassName) (j : ℕ) → part_place f name ≡ Some j → j < length f.names
part-small f name j h = by (place_of f.names name) refl h
  where
    inner : (i : ℕ) → place_of f.names name ≡ Some i → (b : Bool) → cond b (Some i) None ≡ Some j → j < length f.names
    inner i e true same = let inside = (position-Some (same_text name.0) f.names i [] e).0 in let is : i ≡ j = cc in omega (arith, is)
    inner i e false same = cc

    by : (o : Option ℕ) → place_of f.names name ≡ o → option_and_then (λ i. cond (is_serial (sort_in f i)) (Some i) None) o ≡ Some j → j < length f.names
    by None e h = cc
    by (Some i) e h = inner i e (is_serial (sort_in f i)) h

part_by-small : (f : Facts) (of : ClassName) (form : Form) (j : ℕ) → part_by f of form ≡ Some j → j < length f.names
part_by-small f of Single j h = part-small f of j h
part_by-small f of ListForm j h = part-small f of j h
part_by-small f of Array j h = part-small f of j h
part_by-small f of (Relation cardinality inverse) j h = cc

part_at-small : (f : Facts) (o : Option PropTree) (j : ℕ) → option_and_then (part_of f) o ≡ Some j → j < length f.names
part_at-small f None j h = cc
part_at-small f (Some p) j h = part_by-small f p.of p.form j h

rows-within : (g : ℕ → List ℕ) (n : ℕ) → ((i : ℕ) → IsWithin (g i) n) → (places : List ℕ) → AreWithin (map g places) n
rows-within g n h [] = tt
rows-within g n h (x ∷ xs) = (h x, rows-within g n h xs)

pub length-parts : (trees : List ClassTree) (f : Facts) → length (part_links trees f) ≡ length trees
length-parts trees f = length-map (parts_in trees f) (count_from 0 (length trees)) ∙ length-count 0 (length trees)

pub parts-within : (trees : List ClassTree) (f : Facts) → length f.names ≡ length trees → AreWithin (part_links trees f) (length (part_links trees f))
parts-within trees f long =
    subst (AreWithin (part_links trees f)) (long ∙ sym (length-parts trees f))
    (rows-within (parts_in trees f) (length f.names)
    (λ i. filter_map-within (λ s. option_and_then (part_of f) (prop_at trees s)) (length f.names) (λ s j h. part_at-small f (prop_at trees s) j h) _)
    (count_from 0 (length trees)))
