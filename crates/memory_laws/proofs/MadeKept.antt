-- New objects, loaded ones and saved ones keep the memory.
use Rattle.std.proofs.Common.{◌≡◌, ◌<◌, ℕ, ◌+◌, ◌==◌, cond, Bool, true, false, List, [], ◌∷◌, ◌++◌, map, IsSome, IsTrue, Option, None, Some, option_map, refl, ap, sym, subst, ◌∙◌, arith}
use Rattle.std.specs.List.{AllByRecursion}
use Rattle.std.specs.Map.{lookup}
use Rattle.std.specs.BTreeMap.{is_at}
use Rattle.std.specs.Ordering.{nat_cmp}
use Rattle.std.proofs.lemmas.Bool.{eq-eqb, ne_eqb}
use Rattle.obj_kinds.specs.declared.name.ClassName.{ClassName}
use Rattle.obj_kinds.specs.declared.id.Id.{Id}
use Rattle.obj_kinds.specs.declared.value.Value.TheVariants as value
use Rattle.obj_kinds.specs.Limits.{is_legal_text}
use Rattle.schema_kinds.specs.declared.class.Class.{Class}
use Rattle.schema_kinds.specs.declared.prop.Prop.{Prop}
use Rattle.schema_kinds.specs.declared.kind.Kind.{Kind}
use Rattle.schema_kinds.specs.declared.kind.Kind.TheVariants as kind
use Rattle.schema_kinds.specs.Classes.{class_of, props_of, extent_of}
use Rattle.record_layout.specs.Inverse.{EachGood, AreGood}
use Rattle.record_layout.proofs.ItemLaws.{str-out}
use Rattle.oref_table.specs.declared.slot.Slot.{Slot}
use Rattle.oref_table.specs.declared.slot.Slot.TheVariants.{Items, rolls-Items, rolls-Map, rolls-Members}
use Rattle.oref_table.specs.declared.slot.Slot.TheOpen.{Slot-F}
use Rattle.oref_table.specs.declared.slot.Slot.TheViews.{out-Slot, out-roll-Slot}
use Rattle.oref_table.specs.Refs.{times}
use Rattle.oref_table.specs.Memory.{Object, Memory, object_refs, refs_among, object_of, outside_part, outside_of, fresh, with_object}
use Rattle.oref_table.specs.Sound.{AreRising, HasKey, IsFree, AreSingle}
use Rattle.oref_table.proofs.Lowered.{times-append}
use Rattle.oref_table.proofs.OutsideLaws.{made-holds}
use Rattle.obj_shape.specs.Elements.{IsPlain, IsTargetOf}
use Rattle.obj_shape.specs.Slots.{slot_with, initial_slots, slots_of}
use Rattle.obj_shape.specs.Records.{drawn_part}
use Rattle.obj_shape.specs.Fitting.{IsOfKind, IsSlotOf, FitsSchema, TableFits}
use Rattle.obj_shape.proofs.Keeping.{fits-added}
use Rattle.obj_shape.proofs.Moves.{objects-move}
use Rattle.object_calls.specs.Saves.{Drawn}
use Rattle.object_members.specs.Seeing.{with_saved, with_loaded}
use Rattle.memory_laws.specs.Kept.{IsGood, Keeps}
use Rattle.memory_laws.specs.Made.{NewObjectsKeep, LoadedObjectsKeep, saved_as, AreDrawn, SavedObjectsKeep}
use Rattle.memory_laws.proofs.Dead.{none-both, dead-object}
use Rattle.memory_laws.proofs.SetsKept.{plain-out, target-out}

-- ---- one more object

rising-push : (first last : ℕ) (os : List Object) (o : Object) → AreRising first last os → last < o.number → AreRising first o.number (os ++ o ∷ [])
rising-push first last [] o h more = (omega arith, omega arith)
rising-push first last (p ∷ os) o h more = (h.0, rising-push p.number last os o h.1 more)

absent-push : (n : ℕ) (os : List Object) (o : Object) → object_of n (os ++ o ∷ []) ≡ None → object_of n os ≡ None
absent-push n [] o e = refl
absent-push n (p ∷ os) o e = by (p.number == n) e (absent-push n os o)
  where
    by : (b : Bool) → cond b (Some p) (object_of n (os ++ o ∷ [])) ≡ None → (object_of n (os ++ o ∷ []) ≡ None → object_of n os ≡ None) → cond b (Some p) (object_of n os) ≡ None
    by true g rest = g
    by false g rest = rest g

free-push : (extent : ClassName) (id : Id) (os : List Object) (o : Object) → IsFree extent id os → ¬ HasKey extent id o → IsFree extent id (os ++ o ∷ [])
free-push extent id [] o h other = (other, tt)
free-push extent id (p ∷ os) o h other = (h.0, free-push extent id os o h.1 other)

single-push : (os : List Object) (o : Object) → AreSingle os → ((extent : ClassName) (id : Id) → HasKey extent id o → IsFree extent id os) → AreSingle (os ++ o ∷ [])
single-push [] o h free = ((λ extent id k. tt), tt)
single-push (p ∷ os) o h free = ((λ extent id k. free-push extent id os o (h.0 extent id k) (λ q. (free extent id q).0 k)), single-push os o h.1 (λ extent id q. (free extent id q).1))

none-push : (k : ℕ) (os : List Object) (o : Object) → times k (refs_among os) ≡ 0 → times k (object_refs o) ≡ 0 → times k (refs_among (os ++ o ∷ [])) ≡ 0
none-push k [] o h new = none-both k (object_refs o) [] new refl
none-push k (p ∷ os) o h new =
    let first : times k (object_refs p) ≡ 0 = omega (arith, h, times-append k (object_refs p) (refs_among os)) in
    let rest : times k (refs_among os) ≡ 0 = omega (arith, h, times-append k (object_refs p) (refs_among os)) in
    none-both k (object_refs p) (refs_among (os ++ o ∷ [])) first (none-push k os o rest new)

module _ (classes : List Class) (m : Memory) (good : IsGood classes m) where
  good-added : (o : Object) → o.number ≡ m.last + 1 → FitsSchema classes m o → ((extent : ClassName) (id : Id) → HasKey extent id o → IsFree extent id m.objects) → IsGood classes (with_object m o)
  unfolding with_object
  good-added o next fits free = record {
    sound = record {
      rising = rising-push 0 m.last m.objects o good.sound.rising (omega (arith, next));
      closed = λ k e. (let dead = absent-push k m.objects o e in none-push k m.objects o (good.sound.closed k dead) (dead-object classes m k dead o fits));
      single = single-push m.objects o good.sound.single free;
    };
    fits = fits-added classes m o fits good.fits;
  }

  fresh-keeps : (class : ClassName) (extent : Option ClassName) (id : Option Id) (level : ℕ) (slots : List Slot) → FitsSchema classes m (fresh m class extent id level slots)
      → ((e : ClassName) (i : Id) → HasKey e i (fresh m class extent id level slots) → IsFree e i m.objects) → Keeps classes m (with_object m (fresh m class extent id level slots)) ((m.last + 1) ∷ []) []
  fresh-keeps class extent id level slots fits free = record {
    good = good-added (fresh m class extent id level slots) refl fits free;
    holds = λ k. omega (arith, made-holds m class extent id level slots good.sound k);
  }

-- ---- initial slots

items-out : (slots : List Slot) → out-Slot (Items slots) ≡ Slot-F.Items slots
items-out slots = ap out-Slot (sym (rolls-Items slots)) ∙ out-roll-Slot (Slot-F.Items slots)

module _ (classes : List Class) (m : Memory) where
  initial-fits : (text : List ℕ) → IsTrue (is_legal_text text) → (kd : Kind) → IsOfKind classes m kd (out-Slot (slot_with text kd))
  initial-fits text legal kind.Text = subst (IsOfKind classes m kind.Text) (sym (plain-out (value.Str text))) (subst IsPlain (sym (str-out text)) legal)
  initial-fits text legal kind.Whole = subst (IsOfKind classes m kind.Whole) (sym (plain-out (value.Str text))) (subst IsPlain (sym (str-out text)) legal)
  initial-fits text legal kind.Truth = subst (IsOfKind classes m kind.Truth) (sym (plain-out (value.Str text))) (subst IsPlain (sym (str-out text)) legal)
  initial-fits text legal (kind.Ref c) = subst (IsOfKind classes m (kind.Ref c)) (sym (target-out None)) tt
  initial-fits text legal (kind.Serial c) = subst (IsOfKind classes m (kind.Serial c)) (sym (target-out None)) refl
  initial-fits text legal (kind.One c side) = subst (IsOfKind classes m (kind.One c side)) (sym (target-out None)) tt
  initial-fits text legal (kind.ListOf i) = subst (IsOfKind classes m (kind.ListOf i)) (sym (items-out [])) tt
  initial-fits text legal (kind.ArrayOf i) = subst (IsOfKind classes m (kind.ArrayOf i)) (sym (ap out-Slot (sym (rolls-Map [])) ∙ out-roll-Slot (Slot-F.Map []))) (refl, tt)
  initial-fits text legal (kind.Many c side) = subst (IsOfKind classes m (kind.Many c side)) (sym (ap out-Slot (sym (rolls-Members [])) ∙ out-roll-Slot (Slot-F.Members []))) tt

  initials-fit : (props : List Prop) → EachGood (λ p. IsTrue (is_legal_text p.initial)) props → AreGood (IsSlotOf classes m) props (initial_slots props)
  initials-fit [] h = tt
  initials-fit (p ∷ ps) h = (initial-fits p.initial h.0 p.kind, initials-fit ps h.1)

class-there : (o : Option Class) (c : Class) → o ≡ Some c → IsSome o
class-there None c e = cc
class-there (Some d) c e = refl

pub new_objects_keep : NewObjectsKeep
new_objects_keep classes m class c good there legal =
    fresh-keeps classes m good class (extent_of classes class) None 2 (initial_slots (props_of (class_of classes class)))
    (record { class = class-there (class_of classes class) c there; extent = refl; id = tt; level = omega arith; slots = initials-fit classes m (props_of (class_of classes class)) legal })
    (λ e i key. absurd (none-some i key.1))
  where
    none-some : (i : Id) → ◌≡◌ {A = Option Id} None (Some i) → ⊥
    none-some i e = cc

extent-there : (o : Option ClassName) (c : ClassName) → o ≡ Some c → IsSome o
extent-there None c e = cc
extent-there (Some d) c e = refl

pub loaded_objects_keep : LoadedObjectsKeep
unfolding with_loaded
loaded_objects_keep classes m l r good h =
    fresh-keeps classes m good r.class (Some l.key.extent) (Some l.key.id) l.level (slots_of (props_of (class_of classes r.class)) r.fields)
    (record {
      class = class-there (class_of classes r.class) h.class h.there;
      extent = sym h.extent;
      id = (extent-there (extent_of classes r.class) l.key.extent h.extent, h.id);
      level = h.level;
      slots = h.slots;
    })
    (λ e i key. (let extent : l.key.extent ≡ e = one-extent e key.0 in let id : l.key.id ≡ i = one-id i key.1 in subst (λ x. IsFree x i m.objects) extent (subst (λ x. IsFree l.key.extent x m.objects) id h.free)))
  where
    one-extent : (e : ClassName) → Some l.key.extent ≡ Some e → l.key.extent ≡ e
    one-extent e same = cc

    one-id : (i : Id) → ◌≡◌ {A = Option Id} (Some l.key.id) (Some i) → l.key.id ≡ i
    one-id i same = cc

-- ---- all objects are changed

each-above : (first last : ℕ) (os : List Object) → AreRising first last os → AllByRecursion (λ o. first < o.number) os
each-above first last [] h = tt
each-above first last (o ∷ os) h = (h.0, lower os (each-above o.number last os h.1))
  where
    lower : (qs : List Object) → AllByRecursion (λ q. o.number < q.number) qs → AllByRecursion (λ q. first < q.number) qs
    lower [] all = tt
    lower (q ∷ qs) all = (omega (arith, all.0, h.0), lower qs all.1)

-- each of them is the object of its number
each-live : (first last : ℕ) (os : List Object) → AreRising first last os → AllByRecursion (λ o. object_of o.number os ≡ Some o) os
each-live first last [] h = tt
each-live first last (o ∷ os) h = (rw (eq-eqb o.number o.number refl) refl, later os (each-above o.number last os h.1) (each-live o.number last os h.1))
  where
    later : (qs : List Object) → AllByRecursion (λ q. o.number < q.number) qs → AllByRecursion (λ q. object_of q.number os ≡ Some q) qs → AllByRecursion (λ q. object_of q.number (o ∷ os) ≡ Some q) qs
    later [] above all = tt
    later (q ∷ qs) above all = (ap (λ b. cond b (Some o) (object_of q.number os)) (ne_eqb o.number q.number (λ (s : o.number ≡ q.number). omega (arith, above.0, s))) ∙ all.0, later qs above.1 all.1)

module _ (f : Object → Object) (number : (o : Object) → (f o).number ≡ o.number) where
  found-map : (k : ℕ) (os : List Object) → object_of k (map f os) ≡ option_map f (object_of k os)
  found-map k [] = refl
  found-map k (o ∷ os) = ap (λ n. cond (n == k) (Some (f o)) (object_of k (map f os))) (number o) ∙ by (o.number == k) (found-map k os)
    where
      by : (b : Bool) → object_of k (map f os) ≡ option_map f (object_of k os) → cond b (Some (f o)) (object_of k (map f os)) ≡ option_map f (cond b (Some o) (object_of k os))
      by true rest = refl
      by false rest = rest

  rising-map : (first last : ℕ) (os : List Object) → AreRising first last os → AreRising first last (map f os)
  rising-map first last [] h = h
  rising-map first last (o ∷ os) h = (omega (arith, number o, h.0), subst (λ n. AreRising n last (map f os)) (sym (number o)) (rising-map o.number last os h.1))

  refs-map : ((o : Object) → object_refs (f o) ≡ object_refs o) → (os : List Object) → refs_among (map f os) ≡ refs_among os
  refs-map same [] = refl
  refs-map same (o ∷ os) = ap (λ r. r ++ refs_among (map f os)) (same o) ∙ ap (λ r. object_refs o ++ r) (refs-map same os)

  -- no two of them have one key, where those that are live are apart
  module _ (Live : Object → Type 0) (apart : (o q : Object) (extent : ClassName) (id : Id) → Live o → Live q → HasKey extent id (f o) → HasKey extent id (f q) → o.number ≡ q.number) where
    free-map : (o : Object) → Live o → (os : List Object) → AllByRecursion (λ q. o.number < q.number) os → AllByRecursion Live os → (extent : ClassName) (id : Id) → HasKey extent id (f o) → IsFree extent id (map f os)
    free-map o here [] above all extent id key = tt
    free-map o here (q ∷ qs) above all extent id key =
        ((λ other. (let same = apart o q extent id here all.0 key other in omega (arith, above.0, same))), free-map o here qs above.1 all.1 extent id key)

    single-map : (first last : ℕ) (os : List Object) → AreRising first last os → AllByRecursion Live os → AreSingle (map f os)
    single-map first last [] h all = tt
    single-map first last (o ∷ os) h all = (free-map o all.0 os (each-above o.number last os h.1) all.1, single-map o.number last os h.1 all.1)

-- ---- saved objects

module _ (classes : List Class) (m : Memory) (good : IsGood classes m) (drawn : Drawn) (numbers : List ℕ) (h : AreDrawn classes m drawn numbers) where
  abbrev saved : Object → Object
  saved o = saved_as classes m drawn numbers o

  saved-id : (o : Object) → object_of o.number m.objects ≡ Some o → IsTargetOf classes o.class o.id → IsTargetOf classes o.class (saved o).id
  saved-id o live old = by (lookup (is_at (nat_cmp o.number)) drawn) refl
    where
      by : (x : Option Id) → lookup (is_at (nat_cmp o.number)) drawn ≡ x → IsTargetOf classes o.class (drawn_part x o.id)
      by None e = old
      by (Some id) e = h.ids o id live e

  saved-fits : (os : List Object) → AllByRecursion (λ o. object_of o.number m.objects ≡ Some o) os → AllByRecursion (FitsSchema classes m) os → AllByRecursion (FitsSchema classes m) (map saved os)
  saved-fits [] live fits = tt
  saved-fits (o ∷ os) live fits =
      (record { class = fits.0.class; extent = fits.0.extent; id = saved-id o live.0 fits.0.id; level = fits.0.level; slots = fits.0.slots }, saved-fits os live.1 fits.1)

  agrees : (k : ℕ) (t : Object) → object_of k m.objects ≡ Some t → (u : Object) × (object_of k (map saved m.objects) ≡ Some u) × (u.class ≡ t.class)
  agrees k t e = (saved t, found-map saved (λ o. refl) k m.objects ∙ ap (option_map saved) e, refl)

  saved-good : IsGood classes (with_saved classes drawn numbers m)
  unfolding with_saved TableFits
  saved-good =
      let live = each-live 0 m.last m.objects good.sound.rising in
      record {
        sound = record {
          rising = rising-map saved (λ o. refl) 0 m.last m.objects good.sound.rising;
          closed = λ k e. ap (times k) (refs-map saved (λ o. refl) (λ o. refl) m.objects) ∙ good.sound.closed k (was-none k (object_of k m.objects) (sym (found-map saved (λ o. refl) k m.objects) ∙ e));
          single = single-map saved (λ o. refl) (λ o. object_of o.number m.objects ≡ Some o) h.apart 0 m.last m.objects good.sound.rising live;
        };
        fits = objects-move classes m (record m { objects = map saved m.objects }) (map saved m.objects) (λ k t at e. agrees k t e) (saved-fits m.objects live good.fits);
      }
    where
      was-none : (k : ℕ) (o : Option Object) → option_map saved o ≡ None → o ≡ None
      was-none k None e = refl
      was-none k (Some o) e = cc

  saved-holds : (k : ℕ) → outside_of (with_saved classes drawn numbers m) k ≡ outside_of m k
  unfolding with_saved outside_of
  saved-holds k = ap outside_part (found-map saved (λ o. refl) k m.objects) ∙ by (object_of k m.objects)
    where
      by : (o : Option Object) → outside_part (option_map saved o) ≡ outside_part o
      by None = refl
      by (Some o) = refl

pub saved_objects_keep : SavedObjectsKeep
saved_objects_keep classes m drawn numbers good h = record { good = saved-good classes m good drawn numbers h; holds = λ k. omega (arith, saved-holds classes m good drawn numbers h k) }
