-- A memory stays good: what is changed fits, and nothing else changes.
use Rattle.std.proofs.Common.{◌≡◌, ◌≤◌, IsSome, ℕ, zero, suc, cond, Bool, true, false, List, [], ◌∷◌, Some, slice_get, slice_set, refl, subst, arith}
use Rattle.schema_kinds.specs.declared.class.Class.{Class}
use Rattle.schema_kinds.specs.declared.prop.Prop.{Prop}
use Rattle.schema_kinds.specs.Classes.{class_of, props_of}
use Rattle.record_layout.specs.Inverse.{AreGood}
use Rattle.oref_table.specs.declared.slot.Slot.{Slot}
use Rattle.oref_table.specs.Refs.{times}
use Rattle.oref_table.specs.Memory.{Object, Memory, object_refs, refs_among, object_of, outside_of, is_numbered, changed, edited, loosed, tighten, with_level}
use Rattle.oref_table.specs.Dropping.{dropped}
use Rattle.oref_table.specs.Sound.{IsSound}
use Rattle.oref_table.proofs.Lowered.{times-append}
use Rattle.oref_table.proofs.AlikeLaws.{AreAlike, rising-alike, single-alike, absent-alike, alike-at_first, sound-loosed}
use Rattle.oref_table.proofs.SoundLaws.{sound-dropped}
use Rattle.oref_table.proofs.OutsideLaws.{outside-edit, held-holds, loosed-holds}
use Rattle.obj_shape.specs.Fitting.{IsSlotOf, FitsSchema, TableFits}
use Rattle.obj_shape.proofs.FitLaws.{fits-at}
use Rattle.obj_shape.proofs.Keeping.{fits-edited, fits-loosed, fits-dropped}
use Rattle.obj_shape.proofs.Moves.{objects-move}
use Rattle.prop_setting.specs.Elements.{changed_slot, slot_set}
use Rattle.memory_laws.specs.Kept.{IsGood, Keeps, StartsGood, PlacesKeep, CallsKeep, SlotSetsKeep}
use Rattle.memory_laws.proofs.Dead.{none-both, dead-object}

-- ---- one object is changed, but not its number, class and key

pub record KeepsKey (f : Object → Object) : Type 0 where
  pub number : (o : Object) → (f o).number ≡ o.number
  pub class : (o : Object) → (f o).class ≡ o.class
  pub extent : (o : Object) → (f o).extent ≡ o.extent
  pub id : (o : Object) → (f o).id ≡ o.id

refs-changed : (k n : ℕ) (f : Object → Object) (os : List Object) → times k (refs_among os) ≡ 0 → ((o : Object) → object_of n os ≡ Some o → times k (object_refs (f o)) ≡ 0) → times k (refs_among (changed n f os)) ≡ 0
refs-changed k n f [] h g = refl
refs-changed k n f (x ∷ os) h g =
    let first : times k (object_refs x) ≡ 0 = omega (arith, h, times-append k (object_refs x) (refs_among os)) in
    let rest : times k (refs_among os) ≡ 0 = omega (arith, h, times-append k (object_refs x) (refs_among os)) in
    by first rest (is_numbered n x) g (refs-changed k n f os rest)
  where
    by : times k (object_refs x) ≡ 0 → times k (refs_among os) ≡ 0 → (b : Bool) → ((o : Object) → cond b (Some x) (object_of n os) ≡ Some o → times k (object_refs (f o)) ≡ 0)
        → (((o : Object) → object_of n os ≡ Some o → times k (object_refs (f o)) ≡ 0) → times k (refs_among (changed n f os)) ≡ 0) → times k (refs_among (cond b (f x ∷ os) (x ∷ changed n f os))) ≡ 0
    by first rest true g more = none-both k (object_refs (f x)) (refs_among os) (g x refl) rest
    by first rest false g more = none-both k (object_refs x) (refs_among (changed n f os)) first (more g)

module _ (classes : List Class) (m : Memory) (good : IsGood classes m) where
  sound-changed : (n : ℕ) (f : Object → Object) → KeepsKey f → ((o : Object) → object_of n m.objects ≡ Some o → FitsSchema classes m (f o)) → IsSound (edited m n f)
  unfolding edited
  sound-changed n f keeps new =
      let alike : AreAlike true false m.objects (changed n f m.objects) =
      alike-at_first true false (is_numbered n) f (λ o. record { number = keeps.number o; extent = λ _. keeps.extent o; id = λ _. keeps.id o; refs = λ (h : false ≡ true). absurd (cc) }) m.objects in
      record {
        rising = rising-alike true false 0 m.last m.objects (changed n f m.objects) alike good.sound.rising;
        closed = λ k e. (
            let dead = absent-alike true false k m.objects (changed n f m.objects) alike e in
            refs-changed k n f m.objects (good.sound.closed k dead) (λ o at. dead-object classes m k dead (f o) (new o at)));
        single = single-alike false m.objects (changed n f m.objects) alike good.sound.single;
      }

  pub good-edited : (n : ℕ) (f : Object → Object) → KeepsKey f → ((o : Object) → object_of n m.objects ≡ Some o → FitsSchema classes m (f o)) → IsGood classes (edited m n f)
  good-edited n f keeps new = record { sound = sound-changed n f keeps new; fits = fits-edited classes m n f keeps.number keeps.class new good.fits }

  pub good-loosed : (ms : List ℕ) → IsGood classes (loosed m ms)
  good-loosed ms = record { sound = sound-loosed m ms good.sound; fits = fits-loosed classes m ms good.fits }

  pub good-dropped : IsGood classes (dropped m)
  good-dropped = record { sound = sound-dropped m good.sound; fits = fits-dropped classes m good.sound.rising (sound-dropped m good.sound) good.fits }

  -- with another list of released objects
  good-freed : IsGood classes (record m { freed = [] })
  unfolding TableFits
  good-freed = record {
    sound = record { rising = good.sound.rising; closed = good.sound.closed; single = good.sound.single };
    fits = objects-move classes m (record m { freed = [] }) m.objects (λ k t at e. (t, e, refl)) good.fits;
  }

  -- ---- holds

  tighten-keeps : KeepsKey tighten
  tighten-keeps = record { number = λ o. refl; class = λ o. refl; extent = λ o. refl; id = λ o. refl }

  tighten-fits : (o : Object) → FitsSchema classes m o → FitsSchema classes m (tighten o)
  tighten-fits o h = record { class = h.class; extent = h.extent; id = h.id; level = h.level; slots = h.slots }

  -- also where no object has the number
  pub tight-good : (n : ℕ) → IsGood classes (edited m n tighten)
  tight-good n = good-edited n tighten tighten-keeps (λ o at. tighten-fits o (fits-at classes m n o good.fits at))

  pub held-keeps : (n : ℕ) → IsSome (object_of n m.objects) → Keeps classes m (edited m n tighten) (n ∷ []) []
  held-keeps n live = record {
    good = tight-good n;
    holds = λ k. omega (arith, held-holds m n live k);
  }

  pub less-keeps : (n : ℕ) → Keeps classes m (dropped (loosed m (n ∷ []))) [] (n ∷ [])
  less-keeps n = record { good = (good-dropped-of (n ∷ [])); holds = λ k. omega (arith, loosed-holds m (n ∷ []) (good-loosed (n ∷ [])).sound k) }
    where
      good-dropped-of : (ms : List ℕ) → IsGood classes (dropped (loosed m ms))
      good-dropped-of ms = record {
        sound = sound-dropped (loosed m ms) (good-loosed ms).sound;
        fits = fits-dropped classes (loosed m ms) (good-loosed ms).sound.rising (sound-dropped (loosed m ms) (good-loosed ms).sound) (good-loosed ms).fits;
      }

  freed-keeps : Keeps classes m (record m { freed = [] }) [] []
  unfolding outside_of
  freed-keeps = record { good = good-freed; holds = λ k. omega arith }

  -- ---- levels

  level-fits : (level : ℕ) (o : Object) → level ≤ 4 → FitsSchema classes m o → FitsSchema classes m (with_level level o)
  level-fits level o few h = record { class = h.class; extent = h.extent; id = h.id; level = few; slots = h.slots }

  level-keeps : (n level : ℕ) → level ≤ 4 → Keeps classes m (edited m n (with_level level)) [] []
  level-keeps n level few = record {
    good = good-edited n (with_level level) (record { number = λ o. refl; class = λ o. refl; extent = λ o. refl; id = λ o. refl }) (λ o at. level-fits level o few (fits-at classes m n o good.fits at));
    holds = λ k. omega (arith, outside-edit m k n (with_level level) (λ o. refl) (λ o. refl));
  }

-- ---- slots

pub good-set : (P : Prop → Slot → Type 0) (props : List Prop) (slots : List Slot) (at : ℕ) (p : Prop) (s : Slot) → AreGood P props slots → slice_get props at ≡ Some p → P p s → AreGood P props (slice_set slots at s)
good-set P [] [] at p s h e new = h
good-set P [] (t ∷ ts) at p s h e new = absurd h
good-set P (q ∷ qs) [] at p s h e new = absurd h
good-set P (q ∷ qs) (t ∷ ts) zero p s h e new = let same : p ≡ q = cc in (subst (λ r. P r s) same new, h.1)
good-set P (q ∷ qs) (t ∷ ts) (suc at) p s h e new = (h.0, good-set P qs ts at p s h.1 e new)

module _ (classes : List Class) (m : Memory) (good : IsGood classes m) where
  -- a slot of an object is changed into one that fits
  pub changed-fits : (o : Object) (at : ℕ) (p : Prop) (slot : Slot) → slice_get (props_of (class_of classes o.class)) at ≡ Some p → IsSlotOf classes m p slot → FitsSchema classes m o → FitsSchema classes m (changed_slot at slot o)
  changed-fits o at p slot there new h = record {
    class = h.class;
    extent = h.extent;
    id = h.id;
    level = h.level;
    slots = good-set (IsSlotOf classes m) (props_of (class_of classes o.class)) o.slots at p slot h.slots there new;
  }

  pub good-slot : (o : Object) (at : ℕ) (p : Prop) (slot : Slot) → object_of o.number m.objects ≡ Some o → slice_get (props_of (class_of classes o.class)) at ≡ Some p → IsSlotOf classes m p slot → IsGood classes (edited m o.number (changed_slot at slot))
  good-slot o at p slot live there new =
      good-edited classes m good o.number (changed_slot at slot) (record { number = λ o. refl; class = λ o. refl; extent = λ o. refl; id = λ o. refl })
      (λ q is. let same : o ≡ q = cc in subst (λ x. FitsSchema classes m (changed_slot at slot x)) same (changed-fits o at p slot there new (fits-at classes m o.number o good.fits live)))

  pub slot-keeps : (o : Object) (at : ℕ) (p : Prop) (slot : Slot) (passed : List ℕ) → object_of o.number m.objects ≡ Some o → slice_get (props_of (class_of classes o.class)) at ≡ Some p → IsSlotOf classes m p slot → Keeps classes m (slot_set m o.number at slot passed) [] passed
  unfolding slot_set
  slot-keeps o at p slot passed live there new =
      let first = good-slot o at p slot live there new in
      let second = good-loosed classes (edited m o.number (changed_slot at slot)) first passed in
      record {
        good = good-dropped classes (loosed (edited m o.number (changed_slot at slot)) passed) second;
        holds = λ k. omega (arith, loosed-holds (edited m o.number (changed_slot at slot)) passed second.sound k, outside-edit m k o.number (changed_slot at slot) (λ o. refl) (λ o. refl));
      }

-- ---- the laws

pub starts_good : StartsGood
unfolding TableFits outside_of
starts_good classes tries most = (record { sound = record { rising = omega arith; closed = λ n e. refl; single = tt }; fits = tt }, λ n. refl)

pub places_keep : PlacesKeep
places_keep classes tries most m good = record { more = held-keeps classes m good; less = less-keeps classes m good; given = freed-keeps classes m good }

pub calls_keep : CallsKeep
calls_keep classes m good = record { held = held-keeps classes m good; level = level-keeps classes m good }

pub slot_sets_keep : SlotSetsKeep
slot_sets_keep classes m o at p slot passed good live there new = slot-keeps classes m good o at p slot passed live there new
