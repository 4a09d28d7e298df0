-- Reading stops at the first node that hasn't the right form.
use Rattle.std.proofs.Common.{◌≡◌, ℕ, Bool, true, false, cond, List, [], ◌∷◌, ◌++◌, Option, None, Some, is_some, refl, sym, ap, ◌∙◌}
use Rattle.obj_kinds.specs.declared.sub.Sub.{Sub}
use Rattle.obj_kinds.specs.declared.sub.Sub.TheVariants.{Str}
use Rattle.obj_kinds.specs.declared.value.Value.{Value}
use Rattle.schema_kinds.specs.declared.kind.Item.{Item}
use Rattle.schema_kinds.specs.declared.class.Class.{Class}
use Rattle.schema_kinds.specs.declared.record.Field.{Field}
use Rattle.record_layout.specs.Inverse.{each_read}
use Rattle.record_layout.specs.Shapes.{Form}
use Rattle.record_layout.specs.Items.{row_field}
use Rattle.record_layout.specs.Layout.{Layout}
use Rattle.record_layout.specs.Reading.{Reading, Read, Damaged, Source, then_read, or_damaged, fields_in, read_lower, element_at, read_elements, read_arrays, merged, read_fields, damaged_at, Look, looks_lower, looks_elements, looks_arrays, looks, first_bad}

or_else : {A : Type 0} → Option A → Option A → Option A
or_else None other = other
or_else (Some a) other = Some a

first_bad-append : (xs ys : List Look) → first_bad (xs ++ ys) ≡ or_else (first_bad xs) (first_bad ys)
unfolding or_else
first_bad-append [] ys = refl
first_bad-append (x ∷ xs) ys = by x.1 refl (first_bad-append xs ys)
  where
    by : (b : Bool) → x.1 ≡ b → first_bad (xs ++ ys) ≡ or_else (first_bad xs) (first_bad ys) → cond x.1 (first_bad (xs ++ ys)) (Some x.0) ≡ or_else (cond x.1 (first_bad xs) (Some x.0)) (first_bad ys)
    by true e more = rw e more
    by false e more = rw e refl

-- what is made of the answer doesn't matter
damaged-map : {A B : Type 0} (f : A → B) (r : Reading A) → damaged_at (then_read r (λ a. Read (f a))) ≡ damaged_at r
damaged-map f (Read a) = refl
damaged-map f (Damaged at) = refl

damaged-then : {A B : Type 0} (r : Reading A) (next : A → Reading B) (rest : Option (List Sub)) → ((a : A) → damaged_at (next a) ≡ rest) → damaged_at (then_read r next) ≡ or_else (damaged_at r) rest
unfolding or_else
damaged-then (Read a) next rest h = h a
damaged-then (Damaged at) next rest h = refl

damaged-one : {A : Type 0} (at : List Sub) (o : Option A) (rest : Option (List Sub)) → or_else (damaged_at (or_damaged at o)) rest ≡ cond (is_some o) rest (Some at)
unfolding or_else
damaged-one at None rest = refl
damaged-one at (Some a) rest = refl

module _ (classes : List Class) (s : Source) where
  lower-damaged : (ls : List (List ℕ × List Form)) → damaged_at (read_lower classes s ls) ≡ first_bad (looks_lower classes s ls)
  lower-damaged [] = refl
  lower-damaged (l ∷ ls) =
      let at : List Sub = Str l.0 ∷ [] in
      damaged-then (or_damaged at (fields_in classes l.1 (s.value at))) (λ (fields : List Field). then_read (read_lower classes s ls) (λ more. Read (fields ++ more))) (first_bad (looks_lower classes s ls))
      (λ (fields : List Field). damaged-map (λ (more : List Field). fields ++ more) (read_lower classes s ls) ∙ lower-damaged ls)
      ∙ damaged-one at (fields_in classes l.1 (s.value at)) (first_bad (looks_lower classes s ls))

  elements-damaged : (name : List ℕ) (i : Item) (ks : List Sub) → damaged_at (read_elements classes s name i ks) ≡ first_bad (looks_elements classes s name i ks)
  elements-damaged name i [] = refl
  elements-damaged name i (k ∷ ks) =
      let at : List Sub = Str name ∷ k ∷ [] in
      damaged-then (or_damaged at (element_at classes i (s.value at))) (λ (f : Field). then_read (read_elements classes s name i ks) (λ more. Read ((k, f) ∷ more))) (first_bad (looks_elements classes s name i ks))
      (λ (f : Field). damaged-map (λ (more : List (Sub × Field)). (k, f) ∷ more) (read_elements classes s name i ks) ∙ elements-damaged name i ks)
      ∙ damaged-one at (element_at classes i (s.value at)) (first_bad (looks_elements classes s name i ks))

  arrays-damaged : (as' : List (List ℕ × Item)) → damaged_at (read_arrays classes s as') ≡ first_bad (looks_arrays classes s as')
  arrays-damaged [] = refl
  arrays-damaged (a ∷ as') =
      damaged-then (read_elements classes s a.0 a.1 (s.keys a.0)) (λ (pairs : List (Sub × Field)). then_read (read_arrays classes s as') (λ more. Read (pairs ∷ more))) (first_bad (looks_arrays classes s as'))
      (λ (pairs : List (Sub × Field)). damaged-map (λ (more : List (List (Sub × Field))). pairs ∷ more) (read_arrays classes s as') ∙ arrays-damaged as')
      ∙ ap (λ o. or_else o (first_bad (looks_arrays classes s as'))) (elements-damaged a.0 a.1 (s.keys a.0))
      ∙ sym (first_bad-append (looks_elements classes s a.0 a.1 (s.keys a.0)) (looks_arrays classes s as'))

  pub damaged_first : (layout : Layout) (items : List Value) → damaged_at (read_fields classes s layout items) ≡ first_bad (looks classes s layout items)
  damaged_first layout items =
      let lower = first_bad (looks_lower classes s layout.lower) in
      let arrays = first_bad (looks_arrays classes s layout.arrays) in
      damaged-then (or_damaged [] (each_read (row_field classes) layout.root items)) (λ (first : List Field). then_read (read_lower classes s layout.lower) (λ more. then_read (read_arrays classes s layout.arrays) (λ maps. Read (merged layout.forms (first ++ more) maps)))) (or_else lower arrays)
      (λ (first : List Field).
      damaged-then (read_lower classes s layout.lower) (λ (more : List Field). then_read (read_arrays classes s layout.arrays) (λ maps. Read (merged layout.forms (first ++ more) maps))) arrays
      (λ (more : List Field). damaged-map (λ (maps : List (List (Sub × Field))). merged layout.forms (first ++ more) maps) (read_arrays classes s layout.arrays) ∙ arrays-damaged layout.arrays)
      ∙ ap (λ o. or_else o arrays) (lower-damaged layout.lower))
      ∙ damaged-one [] (each_read (row_field classes) layout.root items) (or_else lower arrays)
      ∙ ap (λ o. cond (is_some (each_read (row_field classes) layout.root items)) o (Some [])) (sym (first_bad-append (looks_lower classes s layout.lower) (looks_arrays classes s layout.arrays)))
