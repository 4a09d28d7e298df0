-- One sides that a save moves, and those that it leaves.
use Rattle.std.proofs.Common.{◌≡◌, inl, inr, ℕ, Bool, true, false, cond, List, [], ◌∷◌, filter, Option, Some, None, is_some, refl, sym, ap, subst}
use Rattle.std.specs.List.{filter_map, cons_option}
use Rattle.obj_kinds.proofs.TextLaws.{same_text-is}
use Rattle.obj_kinds.specs.declared.name.ClassName.{ClassName}
use Rattle.schema_kinds.specs.declared.class.Class.{Class}
use Rattle.schema_kinds.specs.Classes.{class_of}
use Rattle.schema_kinds.specs.declared.kind.Kind.{Kind}
use Rattle.schema_kinds.specs.declared.kind.Kind.TheVariants as kind
use Rattle.schema_kinds.specs.declared.prop.Prop.{Prop}
use Rattle.schema_kinds.specs.declared.record.Field.{Field}
use Rattle.schema_kinds.specs.declared.record.Record.{Record}
use Rattle.record_layout.specs.Shapes.{form_of}
use Rattle.storage_map.specs.Entries.{pair_up, props_in}
use Rattle.storage_map.specs.SoundWorlds.{HasSide}
use Rattle.schema_kinds.specs.declared.record.Field.TheViews.{out-Field}
use Rattle.storage_map.specs.Keys.{Side, side_in, sides_of, target_in}
use Rattle.object_calls.specs.Keys.{MovedSide, same_target, moved_side, moved_sides}
use Rattle.object_runs.specs.Causes.{Has}

same_target_is : (a b : Option (List ℕ)) → same_target a b ≡ true → a ≡ b
same_target_is None None e = refl
same_target_is (Some a) (Some b) e = ap Some (same_text-is a b e)
same_target_is None (Some b) e = absurd (cc e)
same_target_is (Some a) None e = absurd (cc e)

-- a side moves, or it was there, or it has no target
pub data SideComes (olds : List Side) (ms : List MovedSide) (s : Side) : Type 0 where
  Moves : (m : MovedSide) → Has m ms → m.class ≡ s.class → m.new ≡ s.target → SideComes olds ms s
  Stays : HasSide s olds → SideComes olds ms s
  Empty : s.target ≡ None → SideComes olds ms s

later : (o : Side) (old : Option (List ℕ)) (u : Side) (olds : List Side) (ms : List MovedSide) (s : Side) → SideComes olds ms s → SideComes (o ∷ olds) (moved_side old u ms) s
later o old u olds ms s h = by (same_target old u.target) h
  where
    by : (b : Bool) → SideComes olds ms s → SideComes (o ∷ olds) (cond b ms (record { name = u.name; class = u.class; old = old; new = u.target } ∷ ms)) s
    by true (Moves m has c t) = Moves m has c t
    by false (Moves m has c t) = Moves m (inr has) c t
    by b (Stays has) = Stays (inr has)
    by b (Empty e) = Empty e

without_old : (u : Side) (ms : List MovedSide) (s : Side) → SideComes [] ms s → SideComes [] (moved_side None u ms) s
without_old u ms s h = by (same_target None u.target) h
  where
    by : (b : Bool) → SideComes [] ms s → SideComes [] (cond b ms (record { name = u.name; class = u.class; old = None; new = u.target } ∷ ms)) s
    by true (Moves m has c t) = Moves m has c t
    by false (Moves m has c t) = Moves m (inr has) c t
    by b (Stays has) = Stays has
    by b (Empty e) = Empty e

-- of an object that is new
pub new_side : (news : List Side) (s : Side) → HasSide s news → SideComes [] (moved_sides [] news) s
new_side [] s h = absurd h
new_side (u ∷ us) s (inr h) = without_old u (moved_sides [] us) s (new_side us s h)
new_side (u ∷ us) s (inl e) = subst (λ x. SideComes [] (moved_side None u (moved_sides [] us)) x) (sym e) (by u.target refl)
  where
    by : (o : Option (List ℕ)) → u.target ≡ o → SideComes [] (moved_side None u (moved_sides [] us)) u
    by None f = Empty f
    by (Some id) f =
        let m : MovedSide = record { name = u.name; class = u.class; old = None; new = u.target } in
        let moves : moved_side None u (moved_sides [] us) ≡ m ∷ moved_sides [] us = ap (λ t. cond (same_target None t) (moved_sides [] us) (m ∷ moved_sides [] us)) f in
        Moves m (subst (Has m) (sym moves) (inl refl)) refl refl

abbrev sides_in : List Prop → List Field → List Side
sides_in ps fs = filter_map (λ e. side_in e e.0.kind) (pair_up ps fs)

first : (o u : Side) (olds : List Side) (ms : List MovedSide) → o.name ≡ u.name → o.class ≡ u.class → SideComes (o ∷ olds) (moved_side o.target u ms) u
first o u olds ms e f = by (same_target o.target u.target) refl
  where
    m : MovedSide
    m = record { name = u.name; class = u.class; old = o.target; new = u.target }

    by : (b : Bool) → same_target o.target u.target ≡ b → SideComes (o ∷ olds) (cond b ms (record { name = u.name; class = u.class; old = o.target; new = u.target } ∷ ms)) u
    by true g = let t = same_target_is o.target u.target g in Stays (inl (λ i. record { name = sym e i; class = sym f i; target = sym t i }))
    by false g = Moves (record { name = u.name; class = u.class; old = o.target; new = u.target }) (inl refl) refl refl

old_side_in : (ps : List Prop) (fs gs : List Field) (s : Side) → HasSide s (sides_in ps gs) → SideComes (sides_in ps fs) (moved_sides (sides_in ps fs) (sides_in ps gs)) s
old_side_in [] fs gs s h = absurd h
old_side_in (p ∷ ps) fs [] s h = absurd h
old_side_in (p ∷ ps) [] (g ∷ gs) s h = new_side (sides_in (p ∷ ps) (g ∷ gs)) s h
old_side_in (p ∷ ps) (f ∷ fs) (g ∷ gs) s h = by p.kind (λ k. old_side_in ps fs gs s k) h
  where
    by : (k : Kind) → (HasSide s (sides_in ps gs) → SideComes (sides_in ps fs) (moved_sides (sides_in ps fs) (sides_in ps gs)) s)
        → HasSide s (cons_option (side_in (p, g) k) (sides_in ps gs))
        → SideComes (cons_option (side_in (p, f) k) (sides_in ps fs)) (moved_sides (cons_option (side_in (p, f) k) (sides_in ps fs)) (cons_option (side_in (p, g) k) (sides_in ps gs))) s
    by (kind.One class inverse) more (inl e) =
        subst (λ x. SideComes (cons_option (side_in (p, f) (kind.One class inverse)) (sides_in ps fs)) (moved_sides (cons_option (side_in (p, f) (kind.One class inverse)) (sides_in ps fs)) (cons_option (side_in (p, g) (kind.One class inverse)) (sides_in ps gs))) x) (sym e)
        (first (record { name = p.name; class = class; target = target_in (out-Field f) }) (record { name = p.name; class = class; target = target_in (out-Field g) }) (sides_in ps fs) (moved_sides (sides_in ps fs) (sides_in ps gs)) refl refl)
    by (kind.One class inverse) more (inr h) =
        later (record { name = p.name; class = class; target = target_in (out-Field f) }) (target_in (out-Field f)) (record { name = p.name; class = class; target = target_in (out-Field g) }) (sides_in ps fs) (moved_sides (sides_in ps fs) (sides_in ps gs)) s (more h)
    by _ more h = more h

abbrev laid : List Class → ClassName → List Prop
laid classes c = filter (λ p. is_some (form_of p.kind)) (props_in (class_of classes c))

-- of an object that was there, with the class that it has
pub old_side : (classes : List Class) (old r : Record) (s : Side) → old.class ≡ r.class → HasSide s (sides_of classes r) → SideComes (sides_of classes old) (moved_sides (sides_of classes old) (sides_of classes r)) s
old_side classes old r s e h =
    subst (λ c. SideComes (sides_in (laid classes c) old.fields) (moved_sides (sides_in (laid classes c) old.fields) (sides_of classes r)) s) (sym e)
    (old_side_in (laid classes r.class) old.fields r.fields s h)
