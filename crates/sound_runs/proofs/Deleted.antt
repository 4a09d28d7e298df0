-- A safe delete turns a sound view into a sound world.
use Rattle.std.proofs.Common.{◌≡◌, ◌⊎◌, inl, inr, ℕ, Bool, true, false, cond, List, [], ◌∷◌, filter, Option, Some, None, is_some, refl, sym, ap, ◌∙◌, subst}
use Rattle.std.specs.List.{filter_map, cons_option}
use Rattle.std.specs.FinMap.{get, get-remove}
use Rattle.obj_kinds.specs.declared.op.Pid.{Pid}
use Rattle.schema_kinds.specs.declared.class.Class.{Class}
use Rattle.schema_kinds.specs.declared.key.Key.{Key}
use Rattle.schema_kinds.specs.declared.kind.Kind.{Kind}
use Rattle.schema_kinds.specs.declared.kind.Kind.TheVariants as kind
use Rattle.schema_kinds.specs.declared.prop.Prop.{Prop}
use Rattle.schema_kinds.specs.declared.record.Field.{Field}
use Rattle.schema_kinds.specs.declared.record.Record.{Record}
use Rattle.schema_kinds.specs.declared.record.Part.TheVariants.{Del}
use Rattle.schema_kinds.specs.Classes.{class_of}
use Rattle.schema_kinds.specs.KeyLaws.{key_total}
use Rattle.schema_kinds.specs.Worlds.{World, apply}
use Rattle.record_layout.specs.Shapes.{form_of}
use Rattle.storage_map.specs.Entries.{pair_up, props_in}
use Rattle.storage_map.specs.SoundWorlds.{IsSound, HasSide, IsMet}
use Rattle.storage_map.specs.Keys.{Side, side_in, sides_of, target_key}
use Rattle.store_core.specs.Machine.{State}
use Rattle.object_calls.specs.Keys.{ManySide, many_sides}
use Rattle.object_calls.specs.Saves.{is_key}
use Rattle.object_runs.specs.ObjectMachine.{Desks, view}
use Rattle.object_runs.specs.Causes.{Has, IsMember}
use Rattle.sound_runs.specs.Closing.{IsUnnamed, IsSafeDelete, HasNoMembers}
use Rattle.sound_runs.specs.Pairs.{HasOtherSide, ArePaired}
use Rattle.sound_runs.proofs.Changes.{key_is}
use Rattle.sound_runs.proofs.Puts.{each_has}

-- ---- a one side of a record is one of its class

-- the property that it is
abbrev IsSideOf : Side → Prop → Type 0
IsSideOf u p = (inverse : List ℕ) × (p.kind ≡ kind.One u.class inverse) × (p.name ≡ u.name)

among_filtered : (test : Prop → Bool) (ps : List Prop) (p : Prop) → Has p (filter test ps) → Has p ps
among_filtered test [] p h = h
among_filtered test (q ∷ ps) p h = by (test q) (λ g. among_filtered test ps p g) h
  where
    by : (b : Bool) → (Has p (filter test ps) → Has p ps) → Has p (cond b (q ∷ filter test ps) (filter test ps)) → (p ≡ q) ⊎ Has p ps
    by true more (inl e) = inl e
    by true more (inr g) = inr (more g)
    by false more g = inr (more g)

side_among : (ps : List Prop) (fs : List Field) (u : Side) → HasSide u (filter_map (λ e. side_in e e.0.kind) (pair_up ps fs)) → (p : Prop) × Has p ps × IsSideOf u p
side_among [] fs u h = absurd h
side_among (p ∷ ps) [] u h = absurd h
side_among (p ∷ ps) (f ∷ fs) u h = by p.kind refl (λ g. side_among ps fs u g) h
  where
    rest : List Side
    rest = filter_map (λ e. side_in e e.0.kind) (pair_up ps fs)

    shift : (q : Prop) × Has q ps × IsSideOf u q → (q : Prop) × Has q (p ∷ ps) × IsSideOf u q
    shift x = (x.0, inr x.1, x.2)

    by : (k : Kind) → p.kind ≡ k → (HasSide u (filter_map (λ e. side_in e e.0.kind) (pair_up ps fs)) → (q : Prop) × Has q ps × IsSideOf u q)
        → HasSide u (cons_option (side_in (p, f) k) (filter_map (λ e. side_in e e.0.kind) (pair_up ps fs))) → (q : Prop) × Has q (p ∷ ps) × IsSideOf u q
    by (kind.One class inverse) is more (inl e) = (p, inl refl, (inverse, is ∙ ap (λ (x : Side). kind.One x.class inverse) (sym e), ap (λ (x : Side). x.name) (sym e)))
    by (kind.One class inverse) is more (inr g) = shift (more g)
    by _ is more g = shift (more g)

pub side_of_class : (classes : List Class) (r : Record) (u : Side) → HasSide u (sides_of classes r) → (p : Prop) × Has p (props_in (class_of classes r.class)) × IsSideOf u p
side_of_class classes r u h =
    let found = side_among (filter (λ p. is_some (form_of p.kind)) (props_in (class_of classes r.class))) r.fields u h in
    (found.0, among_filtered (λ p. is_some (form_of p.kind)) (props_in (class_of classes r.class)) found.0 found.1, found.2)

has_side : (u : Side) (us : List Side) → HasSide u us → Has u us
has_side u [] h = h
has_side u (v ∷ us) (inl e) = inl e
has_side u (v ∷ us) (inr h) = inr (has_side u us h)

-- ---- an object that a sound world's one side names is of a class with the many side

pub has_other_side : (classes : List Class) (v : World) (k : Key) (r : Record) (u : Side) (id : List ℕ) → ArePaired classes → IsSound classes v → get v k ≡ Some r → HasSide u (sides_of classes r) → u.target ≡ Some id
    → (object : Record) × (get v (target_key classes u.class id) ≡ Some object) × HasOtherSide classes object.class u.name k.extent
has_other_side classes v k r u id pairs sound e has t =
    let met = subst (IsMet classes v u) t (sound.targets k r u e has) in
    let is = side_of_class classes r u has in
    let other = pairs r.class k.extent is.0 u.class is.2.0 met.0.class (sound.records k r e).record_of.extent is.1 is.2.1 met.2 in
    (met.0, met.1, subst (λ n. HasOtherSide classes met.0.class n k.extent) is.2.2 other)

-- ---- a many side without members names no key

pub no_members_unnamed : (classes : List Class) (v : World) (key : Key) (m : ManySide) → ((id : List ℕ) → IsMember classes v m key id → ⊥) → IsUnnamed classes v key m
no_members_unnamed classes v key m none k r u id e has t extent name is = none k.id (record {
  object = r;
  there = ap (λ x. get v (record { extent = x; id = k.id })) (sym extent) ∙ e;
  side = u;
  has = has_side u (sides_of classes r) has;
  named = name;
  target = t ∙ ap (λ (x : Key). Some x.id) is;
})

module _ (classes : List Class) (s : State) (o : Desks) (p : Pid) (key : Key) (safe : IsSafeDelete classes s o p key) (pairs : ArePaired classes) (sound : IsSound classes (view o p.0)) where
  gone : (k : Key) → get (apply (Del key ∷ []) (view o p.0)) k ≡ cond (is_key k key) None (get (view o p.0) k)
  unfolding apply
  gone k = get-remove key_total (view o p.0) key k

  stays : (k : Key) (r : Record) → get (apply (Del key ∷ []) (view o p.0)) k ≡ Some r → get (view o p.0) k ≡ Some r
  stays k r e = by (is_key k key) (sym (gone k) ∙ e)
    where
      by : (b : Bool) → cond b None (get (view o p.0) k) ≡ Some r → get (view o p.0) k ≡ Some r
      by true f = absurd (cc f)
      by false f = f

  not_the_key : (k : Key) (r : Record) (u : Side) (id : List ℕ) → get (view o p.0) k ≡ Some r → HasSide u (sides_of classes r) → u.target ≡ Some id → target_key classes u.class id ≡ key → ⊥
  not_the_key k r u id e has t is =
      let x = has_other_side classes (view o p.0) k r u id pairs sound e has t in
      let same : x.0 ≡ safe.object = one (sym x.1 ∙ ap (get (view o p.0)) is ∙ safe.there) in
      let side = subst (λ y. Has x.2.side (many_sides classes y.class)) same x.2.has in
      (each_has (HasNoMembers classes s o p key) (many_sides classes safe.object.class) x.2.side safe.members side).unnamed k r u id e has t (sym x.2.members) (sym x.2.named) is
    where
      one : {x y : Record} → Some x ≡ Some y → x ≡ y
      one g = cc g

  pub deleted_sound : IsSound classes (apply (Del key ∷ []) (view o p.0))
  deleted_sound = record {
    records = λ k r e. sound.records k r (stays k r e);
    apart = λ a b x. sound.apart a b (record { node = x.node; one = x.one; other = x.other; apart = x.apart; first = (stays a x.one x.first.0, x.first.1); second = (stays b x.other x.second.0, x.second.1) });
    targets = targets;
  }
    where
      targets : (k : Key) (r : Record) (u : Side) → get (apply (Del key ∷ []) (view o p.0)) k ≡ Some r → HasSide u (sides_of classes r) → IsMet classes (apply (Del key ∷ []) (view o p.0)) u u.target
      targets k r u e has = by u.target refl (sound.targets k r u (stays k r e) has)
        where
          by : (t : Option (List ℕ)) → u.target ≡ t → IsMet classes (view o p.0) u t → IsMet classes (apply (Del key ∷ []) (view o p.0)) u t
          by None f met = tt
          by (Some id) f met = at (is_key (target_key classes u.class id) key) refl
            where
              at : (b : Bool) → is_key (target_key classes u.class id) key ≡ b → IsMet classes (apply (Del key ∷ []) (view o p.0)) u (Some id)
              at true g = absurd (not_the_key k r u id (stays k r e) has f (key_is (target_key classes u.class id) key g))
              at false g = (met.0, gone (target_key classes u.class id) ∙ ap (λ b. cond b None (get (view o p.0) (target_key classes u.class id))) g ∙ met.1, met.2)
