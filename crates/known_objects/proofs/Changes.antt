-- Changes of objects by which they name no more keys.
use Rattle.std.proofs.Common.{◌≡◌, ◌≤◌, ℕ, zero, suc, cond, Bool, true, false, List, [], ◌∷◌, ◌++◌, map, length, Option, None, Some, slice_get, slice_set, refl, ap, sym, subst, ◌∙◌, arith}
use Rattle.std.specs.List.{AllByRecursion}
use Rattle.obj_kinds.specs.declared.name.ClassName.{ClassName}
use Rattle.schema_kinds.specs.declared.class.Class.{Class}
use Rattle.schema_kinds.specs.declared.prop.Prop.{Prop}
use Rattle.schema_kinds.specs.declared.kind.Kind.{Kind}
use Rattle.schema_kinds.specs.declared.kind.Kind.TheVariants as kind
use Rattle.schema_kinds.specs.Classes.{class_of, props_of}
use Rattle.record_layout.specs.Inverse.{AreGood}
use Rattle.oref_table.specs.declared.oref.Oref.{Oref}
use Rattle.oref_table.specs.declared.slot.Slot.{Slot}
use Rattle.oref_table.specs.declared.slot.Slot.TheVariants.{Members, rolls-Members}
use Rattle.oref_table.specs.declared.slot.Slot.TheOpen.{Slot-F}
use Rattle.oref_table.specs.declared.slot.Slot.TheViews.{out-Slot, out-roll-Slot}
use Rattle.oref_table.specs.Memory.{Object, Memory, object_of, is_numbered, changed, edited, loosen, loosened, loosed, tighten, with_level, fresh, with_object}
use Rattle.oref_table.specs.Dropping.{is_unheld, first_unheld, one_less, left_after, dropped}
use Rattle.oref_table.proofs.SoundLaws.{all-less}
use Rattle.obj_shape.specs.Slots.{slot_with, initial_slots}
use Rattle.obj_props.specs.Properties.{alone}
use Rattle.prop_setting.specs.Elements.{changed_slot, slot_set, given_back}
use Rattle.oref_table.specs.declared.oref.Held.{Held}
use Rattle.object_calls.specs.Keys.{ManySide}
use Rattle.object_members.specs.Seeing.{slot_put, slot_changed, holder_put, member_added, members_in, with_member_oref, with_member, many_place}
use Rattle.memory_laws.proofs.SetsKept.{target-out, to-out}
use Rattle.known_objects.specs.Classed.{Classed, IsClassedSlot, IsClassedProp, IsClassed, NamesKnown}
use Rattle.known_objects.specs.Laws.{PlacesNameNoMore, CallsNameNoMore, NewObjectsNameNoMore, SlotSetsNameNoMore}

-- ---- what holds of all objects holds of those that are left

pub all-at : (P : Object → Type 0) (n : ℕ) (os : List Object) (o : Object) → AllByRecursion P os → object_of n os ≡ Some o → P o
all-at P n [] o h e = cc
all-at P n (x ∷ os) o h e = by (is_numbered n x) e (all-at P n os o h.1)
  where
    by : (b : Bool) → cond b (Some x) (object_of n os) ≡ Some o → (object_of n os ≡ Some o → P o) → P o
    by true g rest = let same : x ≡ o = cc in subst P same h.0
    by false g rest = rest g

all-changed : (P : Object → Type 0) (n : ℕ) (f : Object → Object) → ((o : Object) → P o → P (f o)) → (os : List Object) → AllByRecursion P os → AllByRecursion P (changed n f os)
all-changed P n f keeps [] h = h
all-changed P n f keeps (x ∷ os) h = by (is_numbered n x) (all-changed P n f keeps os h.1)
  where
    by : (b : Bool) → AllByRecursion P (changed n f os) → AllByRecursion P (cond b (f x ∷ os) (x ∷ changed n f os))
    by true rest = (keeps x h.0, h.1)
    by false rest = (h.0, rest)

-- where the object of the number is known
all-changed-at : (P : Object → Type 0) (n : ℕ) (f : Object → Object) (os : List Object) → ((o : Object) → object_of n os ≡ Some o → P o → P (f o)) → AllByRecursion P os → AllByRecursion P (changed n f os)
all-changed-at P n f [] new h = h
all-changed-at P n f (x ∷ os) new h = by (is_numbered n x) new (λ later. all-changed-at P n f os later h.1)
  where
    by : (b : Bool) → ((o : Object) → cond b (Some x) (object_of n os) ≡ Some o → P o → P (f o)) → (((o : Object) → object_of n os ≡ Some o → P o → P (f o)) → AllByRecursion P (changed n f os))
        → AllByRecursion P (cond b (f x ∷ os) (x ∷ changed n f os))
    by true new rest = (new x refl h.0, h.1)
    by false new rest = (h.0, rest new)

all-map : (P : Object → Type 0) (f : Object → Object) → ((o : Object) → P o → P (f o)) → (os : List Object) → AllByRecursion P os → AllByRecursion P (map f os)
all-map P f keeps [] h = h
all-map P f keeps (x ∷ os) h = (keeps x h.0, all-map P f keeps os h.1)

all-left : (P : Object → Type 0) (turns : ℕ) (os : List Object) → AllByRecursion P os → AllByRecursion P (left_after turns os)
unfolding left_after
all-left P zero os h = h
all-left P (suc turns) os h = by (first_unheld os) (all-left P turns (one_less os) (all-less P (is_unheld os) os h))
  where
    by : (f : Option Object) → AllByRecursion P (left_after turns (one_less os)) → AllByRecursion P (elim f as (λ _. List Object) [ None ↦ os | Some _ ↦ left_after turns (one_less os) ])
    by None rest = h
    by (Some o) rest = rest

pub all-both : {X : Type 0} (P : X → Type 0) (xs ys : List X) → AllByRecursion P xs → AllByRecursion P ys → AllByRecursion P (xs ++ ys)
all-both P [] ys h more = more
all-both P (x ∷ xs) ys h more = (h.0, all-both P xs ys h.1 more)

pub all-back : {X : Type 0} (P : X → Type 0) (xs ys : List X) → AllByRecursion P (xs ++ ys) → AllByRecursion P ys
all-back P [] ys h = h
all-back P (x ∷ xs) ys h = all-back P xs ys h.1

-- ---- what names no id

abbrev pub NamesNoId : Slot-F Slot → Type 0
NamesNoId (Slot-F.Target (Some id)) = ⊥
NamesNoId _ = Unit {0}

no-id : (classes : List Class) (known : Classed) (kd : Kind) (s : Slot-F Slot) → NamesNoId s → IsClassedSlot classes known kd s
no-id classes known (kind.One c side) (Slot-F.Target None) h = tt
no-id classes known (kind.One c side) (Slot-F.Target (Some id)) h = absurd h
no-id classes known (kind.One c side) (Slot-F.Plain v) h = tt
no-id classes known (kind.One c side) (Slot-F.To q) h = tt
no-id classes known (kind.One c side) (Slot-F.Items slots) h = tt
no-id classes known (kind.One c side) (Slot-F.Map pairs) h = tt
no-id classes known (kind.One c side) (Slot-F.Members orefs) h = tt
no-id classes known kind.Text s h = tt
no-id classes known kind.Whole s h = tt
no-id classes known kind.Truth s h = tt
no-id classes known (kind.Ref c) s h = tt
no-id classes known (kind.Serial c) s h = tt
no-id classes known (kind.ListOf i) s h = tt
no-id classes known (kind.ArrayOf i) s h = tt
no-id classes known (kind.Many c side) s h = tt

pub names-none : (classes : List Class) (known : Classed) (s : Slot) → NamesNoId (out-Slot s) → (p : Prop) → IsClassedProp classes known p s
names-none classes known s h p = no-id classes known p.kind (out-Slot s) h

members-none : (orefs : List Oref) → NamesNoId (out-Slot (Members orefs))
members-none orefs = subst NamesNoId (sym (ap out-Slot (sym (rolls-Members orefs)) ∙ out-roll-Slot (Slot-F.Members orefs))) tt

pub alone-none : (n : ℕ) → NamesNoId (out-Slot (alone n))
alone-none n = subst NamesNoId (sym (to-out (record { 0 = n }))) tt

pub put-slots : (P : Prop → Slot → Type 0) (props : List Prop) (slots : List Slot) (at : ℕ) (s : Slot) → AreGood P props slots → ((p : Prop) → P p s) → AreGood P props (slice_set slots at s)
put-slots P [] [] at s h new = h
put-slots P [] (t ∷ ts) at s h new = absurd h
put-slots P (q ∷ qs) [] at s h new = absurd h
put-slots P (q ∷ qs) (t ∷ ts) zero s h new = (new q, h.1)
put-slots P (q ∷ qs) (t ∷ ts) (suc at) s h new = (h.0, put-slots P qs ts at s h.1 new)

-- ---- one object

module _ (classes : List Class) (known : Classed) where
  tightened : (o : Object) → IsClassed classes known o → IsClassed classes known (tighten o)
  tightened o h = record { level = h.level; key = h.key; targets = h.targets }

  one-loosened : (ms : List ℕ) (o : Object) → IsClassed classes known o → IsClassed classes known (loosen ms o)
  one-loosened ms o h = record { level = h.level; key = h.key; targets = h.targets }

  levelled : (level : ℕ) → 2 ≤ level → (o : Object) → IsClassed classes known o → IsClassed classes known (with_level level o)
  levelled level high o h = record { level = high; key = h.key; targets = h.targets }

  slot-set : (at : ℕ) (s : Slot) → ((p : Prop) → IsClassedProp classes known p s) → (o : Object) → IsClassed classes known o → IsClassed classes known (changed_slot at s o)
  slot-set at s new o h = record { level = h.level; key = h.key; targets = put-slots (IsClassedProp classes known) (props_of (class_of classes o.class)) o.slots at s h.targets new }

  slot-changed : (f : Slot → Slot) → ((s : Slot) → NamesNoId (out-Slot (f s))) → (at : Option ℕ) (o : Object) → IsClassed classes known o → IsClassed classes known (slot_changed f at o)
  slot-changed f none None o h = h
  slot-changed f none (Some at) o h = by (slice_get o.slots at)
    where
      by : (x : Option Slot) → IsClassed classes known (slot_put at f x o)
      by None = h
      by (Some s) =
          record { level = h.level; key = h.key; targets = put-slots (IsClassedProp classes known) (props_of (class_of classes o.class)) o.slots at (f s) h.targets (names-none classes known (f s) (none s)) }

  -- the members in the many side at a place are others
  pub members-changed : (f : List Oref → List Oref) (at : Option ℕ) (o : Object) → IsClassed classes known o → IsClassed classes known (slot_changed (λ s. Members (f (members_in (out-Slot s)))) at o)
  members-changed f at o h = slot-changed (λ s. Members (f (members_in (out-Slot s)))) (λ s. members-none (f (members_in (out-Slot s)))) at o h

  -- ---- memory

  pub edited-names : (m : Memory) (n : ℕ) (f : Object → Object) → ((o : Object) → IsClassed classes known o → IsClassed classes known (f o)) → NamesKnown classes known m → NamesKnown classes known (edited m n f)
  unfolding edited
  edited-names m n f keeps h = all-changed (IsClassed classes known) n f keeps m.objects h

  pub edited-names-at : (m : Memory) (n : ℕ) (f : Object → Object) → ((o : Object) → object_of n m.objects ≡ Some o → IsClassed classes known o → IsClassed classes known (f o)) → NamesKnown classes known m → NamesKnown classes known (edited m n f)
  unfolding edited
  edited-names-at m n f keeps h = all-changed-at (IsClassed classes known) n f m.objects keeps h

  pub dropped-names : (m : Memory) (ms : List ℕ) → NamesKnown classes known m → NamesKnown classes known (dropped (loosed m ms))
  unfolding dropped loosed
  dropped-names m ms h = all-left (IsClassed classes known) (length (loosened ms m.objects)) (loosened ms m.objects) (all-map (IsClassed classes known) (loosen ms) (one-loosened ms) m.objects h)

  pub back-names : (m : Memory) (back : Option Held) → NamesKnown classes known m → NamesKnown classes known (given_back m back)
  unfolding given_back
  back-names m None h = h
  back-names m (Some a) h = dropped-names m (a.number ∷ []) h

  pub set-names : (m : Memory) (n at : ℕ) (slot : Slot) → NamesKnown classes known m → ((p : Prop) → IsClassedProp classes known p slot) → NamesKnown classes known (edited m n (changed_slot at slot))
  set-names m n at slot h new = edited-names m n (changed_slot at slot) (slot-set at slot new) h

  -- ---- places and calls

  module _ (m : Memory) (h : NamesKnown classes known m) where
    pub more-names : (n : ℕ) → NamesKnown classes known (edited m n tighten)
    more-names n = edited-names m n tighten tightened h

    level-names : (n level : ℕ) → 2 ≤ level → NamesKnown classes known (edited m n (with_level level))
    level-names n level high = edited-names m n (with_level level) (levelled level high) h

    member-names : (side : ManySide) (holder member : ℕ) → NamesKnown classes known (with_member classes side holder member m)
    unfolding with_member
    member-names side holder member =
        edited-names (edited m member (holder_put classes side holder)) holder (member_added classes side member) (λ o k. members-changed (with_member_oref member) (many_place classes side o.class) o k)
        (edited-names m member (holder_put classes side holder) (λ o k. slot-changed (λ s. alone holder) (λ s. alone-none holder) _ o k) h)

  -- ---- new objects

  kind-none : (text : List ℕ) (kd : Kind) → IsClassedSlot classes known kd (out-Slot (slot_with text kd))
  kind-none text (kind.One c side) = subst (IsClassedSlot classes known (kind.One c side)) (sym (target-out None)) tt
  kind-none text kind.Text = tt
  kind-none text kind.Whole = tt
  kind-none text kind.Truth = tt
  kind-none text (kind.Ref c) = tt
  kind-none text (kind.Serial c) = tt
  kind-none text (kind.ListOf i) = tt
  kind-none text (kind.ArrayOf i) = tt
  kind-none text (kind.Many c side) = tt

  initials-none : (props : List Prop) → AreGood (IsClassedProp classes known) props (initial_slots props)
  initials-none [] = tt
  initials-none (p ∷ ps) = (kind-none p.initial p.kind, initials-none ps)

  no-key : (extent : Option ClassName) (class : ClassName) (m : Memory) (slots : List Slot) → AreGood (IsClassedProp classes known) (props_of (class_of classes class)) slots → IsClassed classes known (fresh m class extent None 2 slots)
  no-key None class m slots h = record { level = omega arith; key = tt; targets = h }
  no-key (Some e) class m slots h = record { level = omega arith; key = tt; targets = h }

  new-names : (m : Memory) (class : ClassName) (extent : Option ClassName) → NamesKnown classes known m → NamesKnown classes known (with_object m (fresh m class extent None 2 (initial_slots (props_of (class_of classes class)))))
  unfolding with_object
  new-names m class extent h =
      all-both (IsClassed classes known) m.objects (fresh m class extent None 2 (initial_slots (props_of (class_of classes class))) ∷ []) h
      (no-key extent class m (initial_slots (props_of (class_of classes class))) (initials-none (props_of (class_of classes class))), tt)

-- ---- the laws

pub places_name : PlacesNameNoMore
places_name classes known tries most m h = record { empty = tt; more = more-names classes known m h; less = λ n. dropped-names classes known m (n ∷ []) h; given = h }

pub calls_name : CallsNameNoMore
calls_name classes known m h = record { held = more-names classes known m h; level = level-names classes known m h; member = member-names classes known m h }

pub news_name : NewObjectsNameNoMore
news_name classes known m class extent h = new-names classes known m class extent h

pub slots_name : SlotSetsNameNoMore
unfolding slot_set
slots_name classes known m n at slot holds h new = dropped-names classes known (edited m n (changed_slot at slot)) holds (set-names classes known m n at slot h new)
