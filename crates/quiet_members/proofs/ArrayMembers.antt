-- The members of an array ask nothing: what is put into it fits, in the order of keys, and the other elements fit as before.
use Rattle.std.proofs.Common.{◌≡◌, ◌≢◌, ℕ, cond, Bool, true, false, IsTrue, List, [], is_some, Some, Ok, Err, refl, ap, sym, subst, ◌∙◌}
use Rattle.std.specs.FinMap.{find, is_sorted, put}
use Rattle.obj_kinds.specs.declared.error_name.ErrorName.TheVariants as error
use Rattle.obj_kinds.specs.declared.sub.Sub.{Sub}
use Rattle.obj_kinds.specs.Limits.{is_legal_sub}
use Rattle.obj_kinds.specs.SubOrder.{sub_cmp}
use Rattle.obj_kinds.specs.OrderLaws.{sub_total}
use Rattle.obj_kinds.proofs.Sorted.{sorted_put}
use Rattle.schema_kinds.specs.declared.class.Class.{Class}
use Rattle.schema_kinds.specs.declared.prop.Prop.{Prop}
use Rattle.schema_kinds.specs.declared.kind.Kind.TheVariants as kind
use Rattle.schema_kinds.specs.declared.kind.Item.{Item}
use Rattle.schema_kinds.specs.Classes.{class_of, props_of}
use Rattle.record_layout.specs.Inverse.{EachGood}
use Rattle.os_kinds.specs.declared.val.Val.{Val}
use Rattle.os_value.specs.Answers.{and_then}
use Rattle.os_meaning.specs.Values.{Checked, subscript_of, after_of}
use Rattle.oref_table.specs.declared.slot.Slot.{Slot}
use Rattle.oref_table.specs.declared.slot.Slot.TheVariants.{Map}
use Rattle.oref_table.specs.declared.slot.Slot.TheOpen.{Slot-F}
use Rattle.oref_table.specs.declared.slot.Slot.TheViews.{out-Slot}
use Rattle.oref_table.specs.declared.fill.Fill.TheVariants as fill
use Rattle.oref_table.specs.Memory.{Object, Memory, without_first}
use Rattle.oref_table.specs.Places.{has_key, pairs_filled}
use Rattle.oref_table.proofs.ElementLaws.{filled-in-order}
use Rattle.obj_shape.specs.Records.{pairs_of}
use Rattle.obj_shape.specs.Fitting.{IsPair, IsOfKind, IsSlotOf}
use Rattle.obj_shape.specs.Wholeness.{part_class}
use Rattle.obj_shape.proofs.FitLaws.{fits-at}
use Rattle.prop_setting.specs.Arrays.{next_key}
use Rattle.prop_setting.specs.Elements.{Standing, slot_set, standing, stood}
use Rattle.prop_setting.proofs.ArrayLaws.{out-Map, each-put, each-without}
use Rattle.host_meaning.specs.Objects.{Known, ObjectCall}
use Rattle.object_members.specs.Ends.{yes, no}
use Rattle.object_members.specs.Arguments.{checks, legal_key, key_from}
use Rattle.object_members.specs.Standing.{fill_with, held_for, takes}
use Rattle.object_members.specs.SetLaws.{IsNoOneSide}
use Rattle.object_members.specs.ItemMembers.{ItemMember, Count, GetAt, SetAt, Insert, InsertAt, RemoveAt, Next, Unknown}
use Rattle.object_members.specs.Arrays as arrays
use Rattle.object_members.specs.Arrays.{key_or, on_array}
use Rattle.memory_laws.specs.Sets.{IsShapeFor}
use Rattle.memory_laws.proofs.Keeping.{slot-keeps}
use Rattle.memory_laws.proofs.SidesKept.{good-get}
use Rattle.known_objects.specs.Classed.{Classed}
use Rattle.known_objects.specs.Laws.{IsPlainItem}
use Rattle.known_objects.proofs.Changes.{NamesNoId, names-none, slots_name}
use Rattle.quiet_members.specs.Quiet.{IsFine, EndsFine, IsSchemaOfMembers}
use Rattle.quiet_members.specs.Laws.{IsArrayAt, ArraysAreQuiet}
use Rattle.quiet_members.proofs.Ends.{ends-answer, ends-error, ends-with, ends-checked, ends-without, ends-arg, ends-args, ends-standing}
use Rattle.quiet_members.proofs.Stood.{each-more, element-more, held-more, stood-fine}

-- ---- a key is within the limits

made-key : (x : Sub) (k : Sub) → legal_key x ≡ Ok k → IsTrue (is_legal_sub k)
made-key x k e = by (is_legal_sub x) refl e
  where
    by : (b : Bool) → is_legal_sub x ≡ b → cond b (Ok x) (Err error.Subscript) ≡ Ok k → IsTrue (is_legal_sub k)
    by true is g = let same : x ≡ k = cc in subst (λ y. IsTrue (is_legal_sub y)) same is
    by false is g = absurd (cc)

legal-key : (v : Val) (k : Sub) → key_from v ≡ Ok k → IsTrue (is_legal_sub k)
legal-key v k e = by (subscript_of 0 v) e
  where
    by : (x : Checked Sub) → and_then x legal_key ≡ Ok k → IsTrue (is_legal_sub k)
    by (Ok x) g = made-key x k g
    by (Err y) g = absurd (cc)

sorted-without : (k : Sub) (pairs : List (Sub × Slot)) → IsTrue (is_sorted sub_cmp pairs) → IsTrue (is_sorted sub_cmp (without_first (has_key k) pairs))
unfolding pairs_filled
sorted-without k pairs h = filled-in-order k fill.Nothing pairs h

module _ (classes : List Class) (known : Classed) (tries most : ℕ) (schema : IsSchemaOfMembers classes) (s : Known Memory) (fine : IsFine classes known s.memory) (o : Object) (at : ℕ) (i : Item) (slot : Slot) (array : IsArrayAt classes s.memory o at i slot) where
  abbrev pairs : List (Sub × Slot)
  pairs = pairs_of (out-Slot slot)

  -- ---- what stands there

  abbrev AreElements : Memory → List (Sub × Slot) → Type 0
  AreElements w ps = IsTrue (is_sorted sub_cmp ps) × EachGood (IsPair classes w i) ps

  of-slot : (v : Slot-F Slot) → IsOfKind classes s.memory (kind.ArrayOf i) v → AreElements s.memory (pairs_of v)
  of-slot (Slot-F.Map ps) h = h
  of-slot (Slot-F.Plain v) h = absurd h
  of-slot (Slot-F.Target id) h = absurd h
  of-slot (Slot-F.To q) h = absurd h
  of-slot (Slot-F.Items slots) h = absurd h
  of-slot (Slot-F.Members orefs) h = absurd h

  pairs-fit : AreElements s.memory pairs
  pairs-fit =
      let was = good-get (IsSlotOf classes s.memory) (props_of (class_of classes o.class)) o.slots at slot (fits-at classes s.memory o.number o fine.good.fits array.live).slots array.stands in
      let same : was.0 ≡ array.prop = (let both : Some was.0 ≡ Some array.prop = sym was.1 ∙ array.there in cc) in
      of-slot (out-Slot slot) (subst (λ k. IsOfKind classes s.memory k (out-Slot slot)) (ap (λ (x : Prop). x.kind) same ∙ array.kind) was.2)

  none : IsNoOneSide array.prop.kind
  none = subst IsNoOneSide (sym array.kind) tt

  plain-item : IsPlainItem classes i
  plain-item c e = schema.plain o.class c array.prop at array.there (ap part_class array.kind ∙ e)

  -- such elements fit as well
  array-fits : (w : Memory) (ps : List (Sub × Slot)) → AreElements w ps → IsSlotOf classes w array.prop (Map ps)
  array-fits w ps h = subst (λ k. IsOfKind classes w k (out-Slot (Map ps))) (sym array.kind) (subst (IsOfKind classes w (kind.ArrayOf i)) (sym (out-Map ps)) h)

  shape-fits : (v : Val) (k : Sub) → IsTrue (is_legal_sub k) → IsShapeFor classes (held_for v s.memory) array.prop i (λ t. Map (put sub_cmp k t pairs))
  shape-fits v k legal w t all e =
      array-fits w (put sub_cmp k t pairs) (
        sorted_put sub_cmp sub_total pairs k t pairs-fit.0,
        each-put (IsPair classes w i) k t pairs (λ q old g. (g.0, e)) (legal, e)
            (each-more (IsPair classes s.memory i) (IsPair classes w i) pairs (λ p h. (h.0, element-more classes s.memory w i (out-Slot p.1) (held-more s.memory w v all) h.1)) pairs-fit.1),
      )

  -- ---- an element is put

  abbrev stand : Val → Standing
  stand v = standing classes (held_for v s.memory) o.level i (fill_with v)

  ends-puts : (v : Val) (k : Sub) → IsTrue (is_legal_sub k) → takes classes (held_for v s.memory) i (fill_with v) ≡ true → EndsFine classes known (arrays.puts_by classes tries most o at pairs i k (stand v) s)
  ends-puts v k legal taken =
      ends-with classes known s fine (stood o.number at (λ t. Map (put sub_cmp k t pairs)) (stand v)) yes
      (stood-fine classes known schema s.memory fine v o array.live at array.prop array.there none i plain-item (λ t. Map (put sub_cmp k t pairs)) (shape-fits v k legal) taken)

  ends-keyed : (v : Val) (go : Sub → ObjectCall Memory) → ((k : Sub) → IsTrue (is_legal_sub k) → EndsFine classes known (go k s)) → EndsFine classes known (checks (key_from v) go s)
  ends-keyed v go h = by (key_from v) refl
    where
      by : (x : Checked Sub) → key_from v ≡ x → EndsFine classes known (checks x go s)
      by (Ok k) e = h k (legal-key v k e)
      by (Err e) is = ends-error classes known s fine e

  ends-set : (v k : Val) → EndsFine classes known (arrays.set_by classes tries most o at pairs i v k s)
  ends-set v k =
      ends-standing classes known s fine tries most o at [] i v (λ st. checks (key_from k) (λ key. arrays.puts_by classes tries most o at pairs i key st)) (λ taken. ends-keyed k _ (λ key legal. ends-puts v key legal taken))

  -- ---- an element is taken out

  ends-takes : (k : Sub) (b : Bool) → EndsFine classes known (arrays.takes_by classes tries most o at pairs i k b s)
  ends-takes k false = ends-answer classes known s fine no
  ends-takes k true =
      let ps : List (Sub × Slot) = without_first (has_key k) pairs in
      ends-with classes known s fine (slot_set s.memory o.number at (Map ps) []) yes (record {
        good = (slot-keeps classes s.memory fine.good o at array.prop (Map ps) [] array.live array.there (array-fits s.memory ps (sorted-without k pairs pairs-fit.0, each-without (IsPair classes s.memory i) (has_key k) pairs pairs-fit.1))).good;
        names = slots_name classes known s.memory o.number at (Map ps) [] fine.names (names-none classes known (Map ps) (subst NamesNoId (sym (out-Map ps)) tt));
      })

  -- ---- the whole

  ends-array : (member : ItemMember) (args : List Val) → member ≢ GetAt → EndsFine classes known (on_array classes tries most o at pairs i member args s)
  unfolding on_array
  ends-array Count args no_get = ends-without classes known s fine args _ (ends-answer classes known s fine _)
  ends-array GetAt args no_get = absurd (no_get refl)
  ends-array SetAt args no_get = ends-args classes known s fine args _ ends-set
  ends-array RemoveAt args no_get = ends-arg classes known s fine args _ (λ k. ends-keyed k _ (λ key legal. ends-takes key (is_some (find sub_cmp key pairs))))
  ends-array Next args no_get = ends-arg classes known s fine args _ (λ k. ends-checked classes known s fine (after_of 0 k) _ (λ behind. ends-answer classes known s fine (key_or (next_key behind pairs))))
  ends-array Insert args no_get = ends-error classes known s fine error.MethodDoesNotExist
  ends-array InsertAt args no_get = ends-error classes known s fine error.MethodDoesNotExist
  ends-array Unknown args no_get = ends-error classes known s fine error.MethodDoesNotExist

pub arrays_quiet : ArraysAreQuiet
arrays_quiet classes known tries most s o at i slot member args schema fine array no_get = ends-array classes known tries most schema s fine o at i slot array member args no_get
