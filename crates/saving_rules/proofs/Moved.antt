-- What of the keys and sides of an object moves, place by place: of each index and each one side either a moved key or side tells, or old and new are the same.
use Rattle.std.proofs.Common.{◌≡◌, ◌⊎◌, inl, inr, Bool, true, false, cond, List, [], ◌∷◌, map, filter, ℕ, Option, Some, None, is_some, refl, sym, ap, subst, ◌∙◌}
use Rattle.std.specs.List.{filter_map, cons_option}
use Rattle.obj_kinds.specs.declared.name.ClassName.{ClassName}
use Rattle.obj_kinds.specs.declared.node.Node.{Node}
use Rattle.obj_kinds.proofs.OrderLemmas.{node_exact}
use Rattle.obj_kinds.proofs.TextLaws.{same_text-is}
use Rattle.global_tree.proofs.MapLaws.{one_key}
use Rattle.schema_kinds.specs.declared.class.Class.{Class}
use Rattle.schema_kinds.specs.declared.class.Index.{Index}
use Rattle.schema_kinds.specs.declared.kind.Kind.{Kind}
use Rattle.schema_kinds.specs.declared.kind.Kind.TheVariants as kind
use Rattle.schema_kinds.specs.declared.prop.Prop.{Prop}
use Rattle.schema_kinds.specs.declared.record.Field.{Field}
use Rattle.schema_kinds.specs.declared.record.Field.TheViews.{out-Field}
use Rattle.record_layout.specs.Shapes.{Form, form_of, forms_of, AreOfForms}
use Rattle.storage_map.specs.Entries.{pair_up}
use Rattle.storage_map.specs.Keys.{same_node, Unique, Side, side_in, target_in}
use Rattle.object_calls.specs.Keys.{MovedKey, moved_keys, same_target, MovedSide, moved_sides}
use Rattle.object_runs.specs.Causes.{Each, Has}

pub same_nodes : (a b : Option Node) → same_node a b ≡ true → a ≡ b
same_nodes None None e = refl
same_nodes (Some a) (Some b) e = ap Some (one_key node_exact a b e)
same_nodes None (Some b) e = absurd (cc e)
same_nodes (Some a) None e = absurd (cc e)

pub same_targets : (a b : Option (List ℕ)) → same_target a b ≡ true → a ≡ b
same_targets None None e = refl
same_targets (Some a) (Some b) e = ap Some (same_text-is a b e)
same_targets None (Some b) e = absurd (cc e)
same_targets (Some a) None e = absurd (cc e)

-- ---- keys of unique indexes

module _ (Q : Option Node → Type 0) where
  abbrev KeyHeld : MovedKey → Type 0
  KeyHeld m = Q m.old × Q m.new

  pub key_moves : (f g : Index → Unique) (is : List Index) (i : Index) → Has i is → Each KeyHeld (moved_keys (map f is) (map g is)) → (Q (f i).node × Q (g i).node) ⊎ ((f i).node ≡ (g i).node)
  key_moves f g [] i has h = absurd has
  key_moves f g (j ∷ is) i has h = by (same_node (f j).node (g j).node) refl h has (key_moves f g is i)
    where
      by : (b : Bool) → same_node (f j).node (g j).node ≡ b → Each KeyHeld (cond b (moved_keys (map f is) (map g is)) (record { index = (g j).index; old = (f j).node; new = (g j).node } ∷ moved_keys (map f is) (map g is)))
          → (i ≡ j) ⊎ Has i is → (Has i is → Each KeyHeld (moved_keys (map f is) (map g is)) → (Q (f i).node × Q (g i).node) ⊎ ((f i).node ≡ (g i).node)) → (Q (f i).node × Q (g i).node) ⊎ ((f i).node ≡ (g i).node)
      by true e h (inl same) more = inr (subst (λ x. (f x).node ≡ (g x).node) (sym same) (same_nodes (f j).node (g j).node e))
      by true e h (inr has) more = more has h
      by false e h (inl same) more = inl (subst (λ x. Q (f x).node × Q (g x).node) (sym same) h.0)
      by false e h (inr has) more = more has h.1

  -- of an object that is new
  pub new_key_moves : (g : Index → Unique) (is : List Index) (i : Index) → Has i is → Each KeyHeld (moved_keys [] (map g is)) → Q (g i).node ⊎ ((g i).node ≡ None)
  new_key_moves g [] i has h = absurd has
  new_key_moves g (j ∷ is) i has h = by (same_node None (g j).node) refl h has (new_key_moves g is i)
    where
      by : (b : Bool) → same_node None (g j).node ≡ b → Each KeyHeld (cond b (moved_keys [] (map g is)) (record { index = (g j).index; old = None; new = (g j).node } ∷ moved_keys [] (map g is)))
          → (i ≡ j) ⊎ Has i is → (Has i is → Each KeyHeld (moved_keys [] (map g is)) → Q (g i).node ⊎ ((g i).node ≡ None)) → Q (g i).node ⊎ ((g i).node ≡ None)
      by true e h (inl same) more = inr (subst (λ x. (g x).node ≡ None) (sym same) (sym (same_nodes None (g j).node e)))
      by true e h (inr has) more = more has h
      by false e h (inl same) more = inl (subst (λ x. Q (g x).node) (sym same) h.0.1)
      by false e h (inr has) more = more has h.1

-- ---- one sides

-- as many of the one as of the other
abbrev pub AreEven : {A B : Type 0} → List A → List B → Type 0
AreEven [] [] = Unit {0}
AreEven (x ∷ xs) (y ∷ ys) = AreEven xs ys
AreEven _ _ = ⊥

pub fields_even : (classes : List Class) (ps : List Prop) (fs : List Field) → AreOfForms classes (forms_of ps) fs → AreEven (filter (λ p. is_some (form_of p.kind)) ps) fs
fields_even classes [] [] h = tt
fields_even classes [] (f ∷ fs) h = absurd h
fields_even classes (p ∷ ps) fs h = by (form_of p.kind) fs h (fields_even classes ps)
  where
    by : (o : Option Form) (fs : List Field) → AreOfForms classes (cons_option o (forms_of ps)) fs → ((gs : List Field) → AreOfForms classes (forms_of ps) gs → AreEven (filter (λ p. is_some (form_of p.kind)) ps) gs)
        → AreEven (cond (is_some o) (p ∷ filter (λ p. is_some (form_of p.kind)) ps) (filter (λ p. is_some (form_of p.kind)) ps)) fs
    by None fs h more = more fs h
    by (Some form) [] h more = absurd h
    by (Some form) (f ∷ fs) h more = more fs h.1

abbrev pub sides_in : List Prop → List Field → List Side
sides_in ps fs = filter_map (λ e. side_in e e.0.kind) (pair_up ps fs)

abbrev pub target_at : Field → Option (List ℕ)
target_at f = target_in (out-Field f)

abbrev with_field : Prop → Field → Prop × Field
with_field p f = (p, f)

module _ (S : MovedSide → Type 0) where
  -- the side of a property with these two fields moves
  pub record IsMovedAt (p : Prop) (old new : Option (List ℕ)) : Type 0 where
    pub side : MovedSide
    pub known : S side
    pub name : side.name ≡ p.name
    pub was : side.old ≡ old
    pub now : side.new ≡ new

  pub record Partner (p : Prop) (f : Field) (gs : List (Prop × Field)) : Type 0 where
    pub field : Field
    pub has : Has (p, field) gs

  -- by the old field
  pub side_moves : (ps : List Prop) (fs gs : List Field) → AreEven ps fs → AreEven ps gs → Each S (moved_sides (sides_in ps fs) (sides_in ps gs)) → (p : Prop) (f : Field) → Has (p, f) (pair_up ps fs)
      → (class : ClassName) (inverse : List ℕ) → p.kind ≡ kind.One class inverse → (g : Field) × Has (p, g) (pair_up ps gs) × (IsMovedAt p (target_at f) (target_at g) ⊎ (target_at f ≡ target_at g))
  side_moves [] fs gs ef eg h p f has class inverse is = absurd has
  side_moves (q ∷ ps) [] gs ef eg h p f has class inverse is = absurd ef
  side_moves (q ∷ ps) (x ∷ fs) [] ef eg h p f has class inverse is = absurd eg
  side_moves (q ∷ ps) (x ∷ fs) (y ∷ gs) ef eg h p f has class inverse is = by has (λ k has'. side_moves ps fs gs ef eg k p f has' class inverse is)
    where
      Ends : Type 0
      Ends = (g : Field) × Has (p, g) ((q, y) ∷ pair_up ps gs) × (IsMovedAt p (target_at f) (target_at g) ⊎ (target_at f ≡ target_at g))

      rest_of : (k : Kind) → Each S (moved_sides (cons_option (side_in (q, x) k) (sides_in ps fs)) (cons_option (side_in (q, y) k) (sides_in ps gs))) → Each S (moved_sides (sides_in ps fs) (sides_in ps gs))
      rest_of (kind.One c i) k = on (same_target (target_at x) (target_at y)) k
        where
          on : (b : Bool) → Each S (cond b (moved_sides (sides_in ps fs) (sides_in ps gs)) (record { name = q.name; class = c; old = target_at x; new = target_at y } ∷ moved_sides (sides_in ps fs) (sides_in ps gs))) → Each S (moved_sides (sides_in ps fs) (sides_in ps gs))
          on true k = k
          on false k = k.1
      rest_of _ k = k

      first_of : (k : Kind) → q.kind ≡ k → k ≡ kind.One class inverse → Each S (moved_sides (cons_option (side_in (q, x) k) (sides_in ps fs)) (cons_option (side_in (q, y) k) (sides_in ps gs))) → IsMovedAt q (target_at x) (target_at y) ⊎ (target_at x ≡ target_at y)
      first_of k at e h' = on (same_target (target_at x) (target_at y)) refl (subst (λ k. Each S (moved_sides (cons_option (side_in (q, x) k) (sides_in ps fs)) (cons_option (side_in (q, y) k) (sides_in ps gs)))) e h')
        where
          on : (b : Bool) → same_target (target_at x) (target_at y) ≡ b → Each S (cond b (moved_sides (sides_in ps fs) (sides_in ps gs)) (record { name = q.name; class = class; old = target_at x; new = target_at y } ∷ moved_sides (sides_in ps fs) (sides_in ps gs)))
              → IsMovedAt q (target_at x) (target_at y) ⊎ (target_at x ≡ target_at y)
          on true e k = inr (same_targets (target_at x) (target_at y) e)
          on false e k = inl (record { side = record { name = q.name; class = class; old = target_at x; new = target_at y }; known = k.0; name = refl; was = refl; now = refl })

      by : (with_field p f ≡ with_field q x) ⊎ Has (p, f) (pair_up ps fs) → (Each S (moved_sides (sides_in ps fs) (sides_in ps gs)) → Has (p, f) (pair_up ps fs) → (g : Field) × Has (p, g) (pair_up ps gs) × (IsMovedAt p (target_at f) (target_at g) ⊎ (target_at f ≡ target_at g))) → Ends
      by (inl e) more =
          let props : p ≡ q = ap (λ (z : Prop × Field). z.0) e in
          let fields : f ≡ x = ap (λ (z : Prop × Field). z.1) e in (
            y,
            inl (λ i. (props i, y)),
            subst (λ (z : Prop × Field). IsMovedAt z.0 (target_at z.1) (target_at y) ⊎ (target_at z.1 ≡ target_at y)) (sym e) (first_of q.kind refl (ap (λ (z : Prop). z.kind) (sym props) ∙ is) h),
          )
      by (inr has) more = let m = more (rest_of q.kind h) has in (m.0, inr m.1, m.2)

  -- by the new field
  pub side_came : (ps : List Prop) (fs gs : List Field) → AreEven ps fs → AreEven ps gs → Each S (moved_sides (sides_in ps fs) (sides_in ps gs)) → (p : Prop) (g : Field) → Has (p, g) (pair_up ps gs)
      → (class : ClassName) (inverse : List ℕ) → p.kind ≡ kind.One class inverse → (f : Field) × Has (p, f) (pair_up ps fs) × (IsMovedAt p (target_at f) (target_at g) ⊎ (target_at f ≡ target_at g))
  side_came [] fs gs ef eg h p g has class inverse is = absurd has
  side_came (q ∷ ps) [] gs ef eg h p g has class inverse is = absurd ef
  side_came (q ∷ ps) (x ∷ fs) [] ef eg h p g has class inverse is = absurd eg
  side_came (q ∷ ps) (x ∷ fs) (y ∷ gs) ef eg h p g has class inverse is = by has (λ k has'. side_came ps fs gs ef eg k p g has' class inverse is)
    where
      Ends : Type 0
      Ends = (f : Field) × Has (p, f) ((q, x) ∷ pair_up ps fs) × (IsMovedAt p (target_at f) (target_at g) ⊎ (target_at f ≡ target_at g))

      rest_of : (k : Kind) → Each S (moved_sides (cons_option (side_in (q, x) k) (sides_in ps fs)) (cons_option (side_in (q, y) k) (sides_in ps gs))) → Each S (moved_sides (sides_in ps fs) (sides_in ps gs))
      rest_of (kind.One c i) k = on (same_target (target_at x) (target_at y)) k
        where
          on : (b : Bool) → Each S (cond b (moved_sides (sides_in ps fs) (sides_in ps gs)) (record { name = q.name; class = c; old = target_at x; new = target_at y } ∷ moved_sides (sides_in ps fs) (sides_in ps gs))) → Each S (moved_sides (sides_in ps fs) (sides_in ps gs))
          on true k = k
          on false k = k.1
      rest_of _ k = k

      first_of : (k : Kind) → k ≡ kind.One class inverse → Each S (moved_sides (cons_option (side_in (q, x) k) (sides_in ps fs)) (cons_option (side_in (q, y) k) (sides_in ps gs))) → IsMovedAt q (target_at x) (target_at y) ⊎ (target_at x ≡ target_at y)
      first_of k e h' = on (same_target (target_at x) (target_at y)) refl (subst (λ k. Each S (moved_sides (cons_option (side_in (q, x) k) (sides_in ps fs)) (cons_option (side_in (q, y) k) (sides_in ps gs)))) e h')
        where
          on : (b : Bool) → same_target (target_at x) (target_at y) ≡ b → Each S (cond b (moved_sides (sides_in ps fs) (sides_in ps gs)) (record { name = q.name; class = class; old = target_at x; new = target_at y } ∷ moved_sides (sides_in ps fs) (sides_in ps gs)))
              → IsMovedAt q (target_at x) (target_at y) ⊎ (target_at x ≡ target_at y)
          on true e k = inr (same_targets (target_at x) (target_at y) e)
          on false e k = inl (record { side = record { name = q.name; class = class; old = target_at x; new = target_at y }; known = k.0; name = refl; was = refl; now = refl })

      by : (with_field p g ≡ with_field q y) ⊎ Has (p, g) (pair_up ps gs) → (Each S (moved_sides (sides_in ps fs) (sides_in ps gs)) → Has (p, g) (pair_up ps gs) → (f : Field) × Has (p, f) (pair_up ps fs) × (IsMovedAt p (target_at f) (target_at g) ⊎ (target_at f ≡ target_at g))) → Ends
      by (inl e) more =
          let props : p ≡ q = ap (λ (z : Prop × Field). z.0) e in (
            x,
            inl (λ i. (props i, x)),
            subst (λ (z : Prop × Field). IsMovedAt z.0 (target_at x) (target_at z.1) ⊎ (target_at x ≡ target_at z.1)) (sym e) (first_of q.kind (ap (λ (z : Prop). z.kind) (sym props) ∙ is) h),
          )
      by (inr has) more = let m = more (rest_of q.kind h) has in (m.0, inr m.1, m.2)

  -- of an object that is new
  pub new_side_came : (ps : List Prop) (gs : List Field) → Each S (moved_sides [] (sides_in ps gs)) → (p : Prop) (g : Field) → Has (p, g) (pair_up ps gs) → (class : ClassName) (inverse : List ℕ) → p.kind ≡ kind.One class inverse
      → IsMovedAt p None (target_at g) ⊎ (target_at g ≡ None)
  new_side_came [] gs h p g has class inverse is = absurd has
  new_side_came (q ∷ ps) [] h p g has class inverse is = absurd has
  new_side_came (q ∷ ps) (y ∷ gs) h p g has class inverse is = by has (λ k has'. new_side_came ps gs k p g has' class inverse is)
    where
      rest_of : (k : Kind) → Each S (moved_sides [] (cons_option (side_in (q, y) k) (sides_in ps gs))) → Each S (moved_sides [] (sides_in ps gs))
      rest_of (kind.One c i) k = on (same_target None (target_at y)) k
        where
          on : (b : Bool) → Each S (cond b (moved_sides [] (sides_in ps gs)) (record { name = q.name; class = c; old = None; new = target_at y } ∷ moved_sides [] (sides_in ps gs))) → Each S (moved_sides [] (sides_in ps gs))
          on true k = k
          on false k = k.1
      rest_of _ k = k

      first_of : (k : Kind) → k ≡ kind.One class inverse → Each S (moved_sides [] (cons_option (side_in (q, y) k) (sides_in ps gs))) → IsMovedAt q None (target_at y) ⊎ (target_at y ≡ None)
      first_of k e h' = on (same_target None (target_at y)) refl (subst (λ k. Each S (moved_sides [] (cons_option (side_in (q, y) k) (sides_in ps gs)))) e h')
        where
          on : (b : Bool) → same_target None (target_at y) ≡ b → Each S (cond b (moved_sides [] (sides_in ps gs)) (record { name = q.name; class = class; old = None; new = target_at y } ∷ moved_sides [] (sides_in ps gs)))
              → IsMovedAt q None (target_at y) ⊎ (target_at y ≡ None)
          on true e k = inr (sym (same_targets None (target_at y) e))
          on false e k = inl (record { side = record { name = q.name; class = class; old = None; new = target_at y }; known = k.0; name = refl; was = refl; now = refl })

      by : (with_field p g ≡ with_field q y) ⊎ Has (p, g) (pair_up ps gs) → (Each S (moved_sides [] (sides_in ps gs)) → Has (p, g) (pair_up ps gs) → IsMovedAt p None (target_at g) ⊎ (target_at g ≡ None)) → IsMovedAt p None (target_at g) ⊎ (target_at g ≡ None)
      by (inl e) more =
          subst (λ (z : Prop × Field). IsMovedAt z.0 None (target_at z.1) ⊎ (target_at z.1 ≡ None)) (sym e) (first_of q.kind (ap (λ (z : Prop × Field). z.0.kind) (sym e) ∙ is) h)
      by (inr has) more = more (rest_of q.kind h) has
