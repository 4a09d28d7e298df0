-- Sets of one sides keep the memory, and so does a member that was opened.
use Rattle.std.proofs.Common.{◌≡◌, ℕ, zero, suc, cond, not, Bool, true, false, List, [], ◌∷◌, ◌++◌, filter, Option, None, Some, slice_get, refl, ap, sym, subst, ◌∙◌, arith}
use Rattle.std.specs.List.{list_any}
use Rattle.std.specs.Option.{IsSomeAnd}
use Rattle.obj_kinds.specs.declared.name.ClassName.{ClassName}
use Rattle.schema_kinds.specs.declared.class.Class.{Class}
use Rattle.schema_kinds.specs.declared.prop.Prop.{Prop}
use Rattle.schema_kinds.specs.declared.kind.Kind.{Kind}
use Rattle.schema_kinds.specs.declared.kind.Kind.TheVariants as kind
use Rattle.schema_kinds.specs.declared.kind.Item.TheVariants as of
use Rattle.schema_kinds.specs.Classes.{class_of, props_of, IsBelow}
use Rattle.record_layout.specs.Inverse.{EachGood, AreGood}
use Rattle.oref_table.specs.declared.oref.Oref.{Oref}
use Rattle.oref_table.specs.declared.slot.Slot.{Slot}
use Rattle.oref_table.specs.declared.slot.Slot.TheVariants.{Members, rolls-Members}
use Rattle.oref_table.specs.declared.slot.Slot.TheOpen.{Slot-F}
use Rattle.oref_table.specs.declared.slot.Slot.TheViews.{out-Slot, out-roll-Slot}
use Rattle.oref_table.specs.Memory.{Object, Memory, object_of, outside_of, edited, loosed}
use Rattle.oref_table.proofs.OutsideLaws.{outside-edit, loosed-holds}
use Rattle.obj_shape.specs.Fitting.{NamesObject, IsElement, IsOfKind, IsSlotOf, FitsSchema}
use Rattle.obj_shape.proofs.FitLaws.{fits-at}
use Rattle.obj_shape.proofs.Keeping.{changed-agrees}
use Rattle.obj_props.specs.Properties.{alone, prop_place}
use Rattle.prop_setting.specs.Elements.{changed_slot}
use Rattle.object_calls.specs.Keys.{ManySide}
use Rattle.object_members.specs.Seeing.{members_in, is_member_number, with_member_oref, slot_put, slot_changed, many_place, holder_put, member_added, with_member}
use Rattle.object_members.specs.Writes.{without_member_oref, members_changed, member_left, member_joined, left_by, one_side_set}
use Rattle.memory_laws.specs.Kept.{IsGood, Keeps}
use Rattle.memory_laws.specs.Sets.{HasMembersOf, MayName, HasAt, IsInverse, OneSidesKeep, MembersKeep}
use Rattle.memory_laws.proofs.Keeping.{good-edited, good-loosed, good-dropped, good-slot, good-set}
use Rattle.memory_laws.proofs.SetsKept.{to-out}

-- ---- a slot at a place of an object is changed

record IsSameBut (o q : Object) : Type 0 where
  number : q.number ≡ o.number
  class : q.class ≡ o.class
  extent : q.extent ≡ o.extent
  id : q.id ≡ o.id
  outside : q.outside ≡ o.outside

same_itself : (o : Object) → IsSameBut o o
same_itself o = record { number = refl; class = refl; extent = refl; id = refl; outside = refl }

slot-same : (f : Slot → Slot) (place : Option ℕ) (o : Object) → IsSameBut o (slot_changed f place o)
slot-same f None o = same_itself o
slot-same f (Some at) o = by (slice_get o.slots at)
  where
    by : (s : Option Slot) → IsSameBut o (slot_put at f s o)
    by None = same_itself o
    by (Some s) = record { number = refl; class = refl; extent = refl; id = refl; outside = refl }

-- what is good at a place is a property's
pub good-get : (P : Prop → Slot → Type 0) (props : List Prop) (slots : List Slot) (at : ℕ) (s : Slot) → AreGood P props slots → slice_get slots at ≡ Some s → (p : Prop) × (slice_get props at ≡ Some p) × P p s
good-get P [] [] at s h e = cc
good-get P [] (t ∷ ts) at s h e = absurd h
good-get P (q ∷ qs) [] at s h e = absurd h
good-get P (q ∷ qs) (t ∷ ts) zero s h e = let same : t ≡ s = cc in (q, refl, subst (P q) same h.0)
good-get P (q ∷ qs) (t ∷ ts) (suc at) s h e = good-get P qs ts at s h.1 e

module _ (classes : List Class) (m : Memory) where
  -- an object fits with a slot changed at a place where what fits the property still does
  slot-fits : (f : Slot → Slot) (place : Option ℕ) (o : Object) → FitsSchema classes m o
      → ((at : ℕ) (p : Prop) (s : Slot) → place ≡ Some at → slice_get (props_of (class_of classes o.class)) at ≡ Some p → IsSlotOf classes m p s → IsSlotOf classes m p (f s))
      → FitsSchema classes m (slot_changed f place o)
  slot-fits f None o h new = h
  slot-fits f (Some at) o h new = by (slice_get o.slots at) refl
    where
      by : (s : Option Slot) → slice_get o.slots at ≡ s → FitsSchema classes m (slot_put at f s o)
      by None e = h
      by (Some s) e =
          let q = good-get (IsSlotOf classes m) (props_of (class_of classes o.class)) o.slots at s h.slots e in
          record {
            class = h.class;
            extent = h.extent;
            id = h.id;
            level = h.level;
            slots = good-set (IsSlotOf classes m) (props_of (class_of classes o.class)) o.slots at q.0 (f s) h.slots q.1 (new at q.0 s refl q.1 q.2);
          }

  module _ (good : IsGood classes m) (n : ℕ) (f : Slot → Slot) (place : Object → Option ℕ) where
    abbrev at_place : Object → Object
    at_place o = slot_changed f (place o) o

    good-place : ((o : Object) (at : ℕ) (p : Prop) (s : Slot) → object_of n m.objects ≡ Some o → place o ≡ Some at → slice_get (props_of (class_of classes o.class)) at ≡ Some p → IsSlotOf classes m p s → IsSlotOf classes m p (f s))
        → IsGood classes (edited m n at_place)
    good-place new =
        good-edited classes m good n at_place
        (record {
          number = λ o. (slot-same f (place o) o).number;
          class = λ o. (slot-same f (place o) o).class;
          extent = λ o. (slot-same f (place o) o).extent;
          id = λ o. (slot-same f (place o) o).id;
        })
        (λ o is. slot-fits f (place o) o (fits-at classes m n o good.fits is) (λ at p s e there h. new o at p s is e there h))

  place-holds : (k n : ℕ) (f : Slot → Slot) (place : Object → Option ℕ) → outside_of (edited m n (λ o. slot_changed f (place o) o)) k ≡ outside_of m k
  place-holds k n f place = outside-edit m k n (λ o. slot_changed f (place o) o) (λ o. (slot-same f (place o) o).number) (λ o. (slot-same f (place o) o).outside)

  -- an object is still there, of its class
  names-place : (n : ℕ) (f : Slot → Slot) (place : Object → Option ℕ) (k : ℕ) (t : Object) → object_of k m.objects ≡ Some t
      → (u : Object) × (object_of k (edited m n (λ o. slot_changed f (place o) o)).objects ≡ Some u) × (u.class ≡ t.class)
  unfolding edited
  names-place n f place k t e = changed-agrees n (λ o. slot_changed f (place o) o) (λ o. (slot-same f (place o) o).number) (λ o. (slot-same f (place o) o).class) m.objects k t e

-- ---- members

named-as : (m : Memory) (P : ClassName → Type 0) (k : ℕ) (o : Object) → object_of k m.objects ≡ Some o → P o.class → NamesObject m P (record { 0 = k })
named-as m P k o e h = subst (λ x. IsSomeAnd x (λ (t : Object). P t.class)) (sym e) h

kept-members : (P : Oref → Type 0) (test : Oref → Bool) (orefs : List Oref) → EachGood P orefs → EachGood P (filter test orefs)
kept-members P test [] h = tt
kept-members P test (o ∷ os) h = by (test o) (kept-members P test os h.1)
  where
    by : (b : Bool) → EachGood P (filter test os) → EachGood P (cond b (o ∷ filter test os) (filter test os))
    by true rest = (h.0, rest)
    by false rest = rest

more-members : (P : Oref → Type 0) (orefs : List Oref) (o : Oref) → EachGood P orefs → P o → EachGood P (orefs ++ o ∷ [])
more-members P [] o h new = (new, tt)
more-members P (q ∷ qs) o h new = (h.0, more-members P qs o h.1 new)

joined-members : (P : Oref → Type 0) (n : ℕ) (orefs : List Oref) → EachGood P orefs → P (record { 0 = n }) → EachGood P (with_member_oref n orefs)
joined-members P n orefs h new = by (list_any (is_member_number n) orefs)
  where
    by : (b : Bool) → EachGood P (cond b orefs (orefs ++ record { 0 = n } ∷ []))
    by true = h
    by false = more-members P orefs (record { 0 = n }) h new

members-out : (orefs : List Oref) → out-Slot (Members orefs) ≡ Slot-F.Members orefs
members-out orefs = ap out-Slot (sym (rolls-Members orefs)) ∙ out-roll-Slot (Slot-F.Members orefs)

module _ (classes : List Class) (m : Memory) where
  many-in : (c : ClassName) (side : List ℕ) (v : Slot-F Slot) → IsOfKind classes m (kind.Many c side) v → EachGood (NamesObject m (λ name. IsBelow classes name c)) (members_in v)
  many-in c side (Slot-F.Members orefs) h = h
  many-in c side (Slot-F.To o) h = absurd h
  many-in c side (Slot-F.Plain v) h = absurd h
  many-in c side (Slot-F.Target id) h = absurd h
  many-in c side (Slot-F.Items slots) h = absurd h
  many-in c side (Slot-F.Map pairs) h = absurd h

  -- the members in the slot of a many side are changed into good ones
  members-fit : (name : ClassName) (f : List Oref → List Oref) → ((c : ClassName) (orefs : List Oref) → IsBelow classes name c → EachGood (NamesObject m (λ x. IsBelow classes x c)) orefs → EachGood (NamesObject m (λ x. IsBelow classes x c)) (f orefs))
      → (kd : Kind) (s : Slot) → HasMembersOf classes name kd → IsOfKind classes m kd (out-Slot s) → IsOfKind classes m kd (out-Slot (Members (f (members_in (out-Slot s)))))
  members-fit name f new (kind.Many c side) s below h =
      subst (IsOfKind classes m (kind.Many c side)) (sym (members-out (f (members_in (out-Slot s))))) (new c (members_in (out-Slot s)) below (many-in c side (out-Slot s) h))
  members-fit name f new kind.Text s below h = absurd below
  members-fit name f new kind.Whole s below h = absurd below
  members-fit name f new kind.Truth s below h = absurd below
  members-fit name f new (kind.Ref c) s below h = absurd below
  members-fit name f new (kind.Serial c) s below h = absurd below
  members-fit name f new (kind.ListOf i) s below h = absurd below
  members-fit name f new (kind.ArrayOf i) s below h = absurd below
  members-fit name f new (kind.One c side) s below h = absurd below

  -- an object that a slot may name stands alone in it
  pub alone-fits : (n : ℕ) (o : Object) → object_of n m.objects ≡ Some o → (kd : Kind) → MayName classes o.class kd → IsOfKind classes m kd (out-Slot (alone n))
  alone-fits n o is (kind.One c side) below = subst (IsOfKind classes m (kind.One c side)) (sym (to-out (record { 0 = n }))) (named-as m (λ name. IsBelow classes name c) n o is below)
  alone-fits n o is (kind.Ref c) below = subst (IsOfKind classes m (kind.Ref c)) (sym (to-out (record { 0 = n }))) (named-as m (λ name. IsBelow classes name c) n o is below)
  alone-fits n o is kind.Text below = absurd below
  alone-fits n o is kind.Whole below = absurd below
  alone-fits n o is kind.Truth below = absurd below
  alone-fits n o is (kind.Serial c) below = absurd below
  alone-fits n o is (kind.ListOf i) below = absurd below
  alone-fits n o is (kind.ArrayOf i) below = absurd below
  alone-fits n o is (kind.Many c side) below = absurd below

  -- the members of what a slot names are changed
  module _ (good : IsGood classes m) (c : ClassName) (side : List ℕ) (name : ClassName) (inverse : IsInverse classes c side name) (f : List Oref → List Oref)
      (new : (d : ClassName) (orefs : List Oref) → IsBelow classes name d → EachGood (NamesObject m (λ x. IsBelow classes x d)) orefs → EachGood (NamesObject m (λ x. IsBelow classes x d)) (f orefs)) where
    good-members : (q : ℕ) → NamesObject m (λ x. IsBelow classes x c) (record { 0 = q }) → IsGood classes (edited m q (members_changed classes side f))
    good-members q named =
        good-place classes m good q (λ s. Members (f (members_in (out-Slot s)))) (λ o. prop_place side (props_of (class_of classes o.class)))
        (λ o at p s is e there h. members-fit name f new p.kind s (inverse o.class (of-class o is) at p e there) h)
      where
        of-class : (o : Object) → object_of q m.objects ≡ Some o → IsBelow classes o.class c
        of-class o is = subst (λ x. IsSomeAnd x (λ (t : Object). IsBelow classes t.class c)) is named

-- ---- a memory after some changes: good, with the objects of their classes, and as many holds outside

record IsAfter (classes : List Class) (m w : Memory) : Type 0 where
  good : IsGood classes w
  objects : (k : ℕ) (t : Object) → object_of k m.objects ≡ Some t → (u : Object) × (object_of k w.objects ≡ Some u) × (u.class ≡ t.class)
  holds : (k : ℕ) → outside_of w k ≡ outside_of m k

after-names : (classes : List Class) (m w : Memory) → IsAfter classes m w → (P : ClassName → Type 0) (q : Oref) → NamesObject m P q → NamesObject w P q
after-names classes m w after P q h = by (object_of q.0 m.objects) refl h
  where
    by : (x : Option Object) → object_of q.0 m.objects ≡ x → IsSomeAnd x (λ t. P t.class) → NamesObject w P q
    by None e k = absurd k
    by (Some t) e k = let u = after.objects q.0 t e in named-as w P q.0 u.0 u.1 (subst P (sym u.2) k)

after-place : (classes : List Class) (m w : Memory) → IsAfter classes m w → (n : ℕ) (f : Slot → Slot) (place : Object → Option ℕ) → IsGood classes (edited w n (λ o. slot_changed f (place o) o))
    → IsAfter classes m (edited w n (λ o. slot_changed f (place o) o))
after-place classes m w after n f place good = record {
  good = good;
  objects = λ k t e. (let u = after.objects k t e in let v = names-place classes w n f place k u.0 u.1 in (v.0, v.1, v.2 ∙ u.2));
  holds = λ k. place-holds classes w k n f place ∙ after.holds k;
}

-- ---- a one side

module _ (classes : List Class) (m : Memory) (good : IsGood classes m) (o : Object) (live : object_of o.number m.objects ≡ Some o) (at : ℕ) (p : Prop) (there : slice_get (props_of (class_of classes o.class)) at ≡ Some p)
    (c : ClassName) (side : List ℕ) (of_kind : p.kind ≡ kind.One c side) (inverse : IsInverse classes c side o.class) (slot : Slot) (new : IsSlotOf classes m p slot) where
  -- what a one side names is at or below its class
  named-by : (s : Slot) (q : Oref) → out-Slot s ≡ Slot-F.To q → IsSlotOf classes m p s → NamesObject m (λ x. IsBelow classes x c) q
  named-by s q e h =
      let as_side : IsOfKind classes m (kind.One c side) (out-Slot s) = subst (λ k. IsOfKind classes m k (out-Slot s)) of_kind h in
      subst (IsElement classes m (of.Ref c)) e as_side

  abbrev set : Memory
  set = edited m o.number (changed_slot at slot)

  after-set : IsAfter classes m set
  unfolding edited
  after-set = record {
    good = good-slot classes m good o at p slot live there new;
    objects = λ k t e. changed-agrees o.number (changed_slot at slot) (λ q. refl) (λ q. refl) m.objects k t e;
    holds = λ k. outside-edit m k o.number (changed_slot at slot) (λ q. refl) (λ q. refl);
  }

  old-named : (s : Slot) (q : Oref) → slice_get o.slots at ≡ Some s → out-Slot s ≡ Slot-F.To q → NamesObject m (λ x. IsBelow classes x c) q
  old-named s q e out =
      let was = good-get (IsSlotOf classes m) (props_of (class_of classes o.class)) o.slots at s (fits-at classes m o.number o good.fits live).slots e in
      let same : was.0 ≡ p = cc in
      named-by s q out (subst (λ x. IsSlotOf classes m x s) same was.2)

  after-left : (s : Option Slot) → slice_get o.slots at ≡ s → IsAfter classes m (left_by classes side o.number s set)
  after-left None e = after-set
  after-left (Some s) e = by (out-Slot s) refl
    where
      by : (v : Slot-F Slot) → out-Slot s ≡ v → IsAfter classes m (member_left classes side o.number v set)
      by (Slot-F.To q) out =
          after-place classes m set after-set q.0 (λ s. Members (without_member_oref o.number (members_in (out-Slot s)))) (λ x. prop_place side (props_of (class_of classes x.class)))
          (good-members classes set after-set.good c side o.class inverse (without_member_oref o.number) (λ d orefs below h. kept-members (NamesObject set (λ x. IsBelow classes x d)) (λ x. not (is_member_number o.number x)) orefs h) q.0
          (after-names classes m set after-set (λ x. IsBelow classes x c) q (old-named s q e out)))
      by (Slot-F.Plain v) out = after-set
      by (Slot-F.Target id) out = after-set
      by (Slot-F.Items slots) out = after-set
      by (Slot-F.Map pairs) out = after-set
      by (Slot-F.Members orefs) out = after-set

  after-joined : (w : Memory) → IsAfter classes m w → IsAfter classes m (member_joined classes side o.number (out-Slot slot) w)
  after-joined w after = by (out-Slot slot) refl
    where
      itself : (d : ClassName) → IsBelow classes o.class d → NamesObject w (λ x. IsBelow classes x d) (record { 0 = o.number })
      itself d below = let u = after.objects o.number o live in named-as w (λ x. IsBelow classes x d) o.number u.0 u.1 (subst (λ x. IsBelow classes x d) (sym u.2) below)

      by : (v : Slot-F Slot) → out-Slot slot ≡ v → IsAfter classes m (member_joined classes side o.number v w)
      by (Slot-F.To q) out =
          after-place classes m w after q.0 (λ s. Members (with_member_oref o.number (members_in (out-Slot s)))) (λ x. prop_place side (props_of (class_of classes x.class)))
          (good-members classes w after.good c side o.class inverse (with_member_oref o.number) (λ d orefs below h. joined-members (NamesObject w (λ x. IsBelow classes x d)) o.number orefs h (itself d below)) q.0
          (after-names classes m w after (λ x. IsBelow classes x c) q (named-by slot q out new)))
      by (Slot-F.Plain v) out = after
      by (Slot-F.Target id) out = after
      by (Slot-F.Items slots) out = after
      by (Slot-F.Map pairs) out = after
      by (Slot-F.Members orefs) out = after

  side-keeps : (holds : List ℕ) → Keeps classes m (one_side_set classes m o at side slot holds) [] holds
  unfolding one_side_set
  side-keeps holds =
      let w : Memory = member_joined classes side o.number (out-Slot slot) (left_by classes side o.number (slice_get o.slots at) set) in
      let after : IsAfter classes m w = after-joined (left_by classes side o.number (slice_get o.slots at) set) (after-left (slice_get o.slots at) refl) in
      let loose = good-loosed classes w after.good holds in
      record {
        good = good-dropped classes (loosed w holds) loose;
        holds = λ k. omega (arith, loosed-holds w holds loose.sound k, after.holds k);
      }

pub one_sides_keep : OneSidesKeep
one_sides_keep classes m o at p c side slot holds good live there of_kind inverse new = side-keeps classes m good o live at p there c side of_kind inverse slot new holds

-- ---- an opened member

after-itself : (classes : List Class) (m : Memory) → IsGood classes m → IsAfter classes m m
after-itself classes m good = record { good = good; objects = λ k t e. (t, e, refl); holds = λ k. refl }

module _ (classes : List Class) (m : Memory) (side : ManySide) (holder member : ℕ) (h k : Object) (good : IsGood classes m) (has_holder : object_of holder m.objects ≡ Some h) (has_member : object_of member m.objects ≡ Some k)
    (names : HasAt classes k.class (prop_place side.side (props_of (class_of classes k.class))) (MayName classes h.class))
    (takes : HasAt classes h.class (many_place classes side h.class) (HasMembersOf classes k.class)) where
  abbrev put : Memory
  put = edited m member (holder_put classes side holder)

  after-put : IsAfter classes m put
  after-put =
      after-place classes m m (after-itself classes m good) member (λ s. alone holder) (λ o. prop_place side.side (props_of (class_of classes o.class)))
      (good-place classes m good member (λ s. alone holder) (λ o. prop_place side.side (props_of (class_of classes o.class))) (λ o at p s is e there fits. alone-fits classes m holder h has_holder p.kind (of_member o is at p e there)))
    where
      of_member : (o : Object) → object_of member m.objects ≡ Some o → HasAt classes o.class (prop_place side.side (props_of (class_of classes o.class))) (MayName classes h.class)
      of_member o is =
          let same : k ≡ o = cc in
          subst (λ (x : Object). HasAt classes x.class (prop_place side.side (props_of (class_of classes x.class))) (MayName classes h.class)) same names

  after-added : IsAfter classes m (edited put holder (member_added classes side member))
  after-added =
      after-place classes m put after-put holder (λ s. Members (with_member_oref member (members_in (out-Slot s)))) (λ o. many_place classes side o.class)
      (good-place classes put after-put.good holder (λ s. Members (with_member_oref member (members_in (out-Slot s)))) (λ o. many_place classes side o.class)
      (λ o at p s is e there fits. members-fit classes put k.class (with_member_oref member) (λ d orefs below each. joined-members (NamesObject put (λ x. IsBelow classes x d)) member orefs each (itself d below)) p.kind s (of_holder o is at p e there) fits))
    where
      itself : (d : ClassName) → IsBelow classes k.class d → NamesObject put (λ x. IsBelow classes x d) (record { 0 = member })
      itself d below = let u = after-put.objects member k has_member in named-as put (λ x. IsBelow classes x d) member u.0 u.1 (subst (λ x. IsBelow classes x d) (sym u.2) below)

      of_holder : (o : Object) → object_of holder put.objects ≡ Some o → HasAt classes o.class (many_place classes side o.class) (HasMembersOf classes k.class)
      of_holder o is =
          let u = after-put.objects holder h has_holder in
          let same : u.0 ≡ o = cc in
          let class : h.class ≡ o.class = sym u.2 ∙ ap (λ (x : Object). x.class) same in
          subst (λ x. HasAt classes x (many_place classes side x) (HasMembersOf classes k.class)) class takes

  member-keeps : Keeps classes m (with_member classes side holder member m) [] []
  unfolding with_member
  member-keeps = record { good = after-added.good; holds = λ n. omega (arith, after-added.holds n) }

pub members_keep : MembersKeep
members_keep classes m side holder member h k good has_holder has_member names takes = member-keeps classes m side holder member h k good has_holder has_member names takes
