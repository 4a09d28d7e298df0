-- Fields are read exactly where they have the forms of their layout and stand as they are written.
use Rattle.std.proofs.Common.{◌≡◌, ℕ, List, [], ◌∷◌, ◌++◌, map, filter, length, take, drop, Option, None, Some, refl, sym, ap, subst, ◌∙◌, ◌↔◌}
use Rattle.std.specs.List.{filter_map}
use Rattle.std.proofs.lemmas.List.{take-append-drop}
use Rattle.obj_kinds.specs.declared.name.ClassName.{ClassName}
use Rattle.obj_kinds.specs.declared.sub.Sub.{Sub}
use Rattle.obj_kinds.specs.declared.sub.Sub.TheVariants.{Str}
use Rattle.obj_kinds.specs.declared.value.Value.{Value}
use Rattle.obj_kinds.specs.declared.value.Value.TheVariants as value
use Rattle.obj_kinds.specs.declared.value.Value.TheVariants.{rolls-Str, rolls-List}
use Rattle.obj_kinds.specs.declared.value.Value.TheOpen.{Value-F}
use Rattle.obj_kinds.specs.declared.value.Value.TheViews.{out-Value, roll-Value, roll-out-Value}
use Rattle.schema_kinds.specs.declared.kind.Item.{Item}
use Rattle.schema_kinds.specs.declared.kind.Item.TheVariants as of
use Rattle.schema_kinds.specs.declared.class.Class.{Class}
use Rattle.schema_kinds.specs.declared.record.Field.{Field}
use Rattle.schema_kinds.specs.declared.record.Field.TheVariants as field
use Rattle.schema_kinds.specs.declared.record.Field.TheVariants.{rolls-Map}
use Rattle.schema_kinds.specs.declared.record.Field.TheOpen.{Field-F}
use Rattle.schema_kinds.specs.declared.record.Field.TheViews.{out-Field, roll-Field, out-roll-Field, roll-out-Field}
use Rattle.record_layout.specs.Inverse.{IsInverse, each_read, EachGood, AreGood}
use Rattle.record_layout.specs.Shapes.{Form, single, listed, keyed, is_row, IsField, IsRowField, IsArray, AreOfForms, Rise, IsPart}
use Rattle.record_layout.specs.Items.{item, row_field}
use Rattle.record_layout.specs.Layout.{Layout, IsLaidOut, keyed_item, lower_forms}
use Rattle.record_layout.specs.Rows.{pairs_of, if_row, rows_in, maps_in, lower_nodes, element_nodes}
use Rattle.record_layout.specs.Reading.{Reading, Read, Damaged, Source, then_read, or_damaged, items_of, fields_of, fields_in, read_lower, element_at, read_elements, read_arrays, merged, read_fields, AllStand, ArraysStand, FieldsStand}
use Rattle.record_layout.proofs.InverseLaws.{each_inverse, split-good, join-good}
use Rattle.record_layout.proofs.ItemLaws.{items_tell, list-out}

row_inverse : (classes : List Class) (form : Form) → IsInverse (IsRowField classes form) item (row_field classes form)
unfolding IsRowField row_field
row_inverse classes form = items_tell 4 classes form

rows_inverse : (classes : List Class) (forms : List Form) → IsInverse (AreGood (IsRowField classes) forms) (map item) (each_read (row_field classes) forms)
rows_inverse classes forms = each_inverse (IsRowField classes) item (row_field classes) (row_inverse classes) forms

pub then_read-is : {A B : Type 0} (r : Reading A) (next : A → Reading B) (b : B) → then_read r next ≡ Read b → (a : A) × (r ≡ Read a) × (next a ≡ Read b)
then_read-is (Read a) next b h = (a, refl, h)
then_read-is (Damaged at) next b h = cc

pub or_damaged-is : {A : Type 0} (at : List Sub) (o : Option A) (a : A) → or_damaged at o ≡ Read a → o ≡ Some a
or_damaged-is at None a h = cc
or_damaged-is at (Some b) a h = let same : b ≡ a = cc in ap Some same

module _ (classes : List Class) (s : Source) where
  fields-takes : (forms : List Form) (fs : List Field) (o : Option Value) → AreGood (IsRowField classes) forms fs → o ≡ Some (value.List (map item fs)) → fields_in classes forms o ≡ Some fs
  fields-takes forms fs o good is = rw (is, list-out (map item fs)) ((rows_inverse classes forms).takes fs good)

  fields-tells : (forms : List Form) (fs : List Field) (o : Option Value) → fields_in classes forms o ≡ Some fs → AreGood (IsRowField classes) forms fs × (o ≡ Some (value.List (map item fs)))
  fields-tells forms fs None h = cc
  fields-tells forms fs (Some v) h = by (out-Value v) (roll-out-Value v) h
    where
      by : (w : Value-F Value) → roll-Value w ≡ v → fields_of classes forms (items_of w) ≡ Some fs → AreGood (IsRowField classes) forms fs × (Some v ≡ Some (value.List (map item fs)))
      by (Value-F.Str t) e k = cc
      by (Value-F.List vs) e k =
          let q = (rows_inverse classes forms).tells vs fs k in
          (q.0, ap Some (sym e ∙ rolls-List vs ∙ ap value.List (sym q.1)))

  lower-takes : (ls : List (List ℕ × List Form)) (fs : List Field) → AreGood (IsRowField classes) (lower_forms ls) fs → AllStand s (lower_nodes ls fs) → read_lower classes s ls ≡ Read fs
  lower-takes [] [] good stand = refl
  lower-takes [] (f ∷ fs) good stand = absurd good
  lower-takes (l ∷ ls) fs good stand =
      let p = split-good (IsRowField classes) l.1 (lower_forms ls) fs good in
      rw (fields-takes l.1 (take (length l.1) fs) (s.value (Str l.0 ∷ [])) p.0 stand.0, lower-takes ls (drop (length l.1) fs) p.1 stand.1)
      (ap Read (take-append-drop (length l.1) fs))

  lower-tells : (ls : List (List ℕ × List Form)) (fs : List Field) → read_lower classes s ls ≡ Read fs → AreGood (IsRowField classes) (lower_forms ls) fs × AllStand s (lower_nodes ls fs)
  lower-tells [] [] h = (tt, tt)
  lower-tells [] (f ∷ fs) h = cc
  lower-tells (l ∷ ls) fs h =
      let p = then_read-is (or_damaged (Str l.0 ∷ []) (fields_in classes l.1 (s.value (Str l.0 ∷ [])))) (λ (fields : List Field). then_read (read_lower classes s ls) (λ more. Read (fields ++ more))) fs h in
      let q = then_read-is (read_lower classes s ls) (λ (more : List Field). Read (p.0 ++ more)) fs p.2 in
      let first = fields-tells l.1 p.0 (s.value (Str l.0 ∷ [])) (or_damaged-is (Str l.0 ∷ []) (fields_in classes l.1 (s.value (Str l.0 ∷ []))) p.0 p.1) in
      let rest = lower-tells ls q.0 q.1 in
      let j = join-good (IsRowField classes) l.1 (lower_forms ls) p.0 q.0 first.0 rest.0 in
      let same : p.0 ++ q.0 ≡ fs = cc in
      subst (λ (gs : List Field). AreGood (IsRowField classes) (lower_forms (l ∷ ls)) gs × AllStand s (lower_nodes (l ∷ ls) gs)) same
      (j.0, (first.1 ∙ ap (λ gs. Some (value.List (map item gs))) (sym j.1), subst (λ (gs : List Field). AllStand s (lower_nodes ls gs)) (sym j.2) rest.1))

  abbrev AreElements : Item → List (Sub × Field) → Type 0
  AreElements i pairs = EachGood (λ e. IsRowField classes (single i) e.1) pairs

  elements-takes : (name : List ℕ) (i : Item) (pairs : List (Sub × Field)) → AreElements i pairs → AllStand s (element_nodes name pairs) → read_elements classes s name i (map (λ e. e.0) pairs) ≡ Read pairs
  elements-takes name i [] good stand = refl
  elements-takes name i (e ∷ pairs) good stand =
      rw (stand.0, (row_inverse classes (single i)).takes e.1 good.0, elements-takes name i pairs good.1 stand.1) refl

  element-tells : (i : Item) (o : Option Value) (f : Field) → element_at classes i o ≡ Some f → IsRowField classes (single i) f × (o ≡ Some (item f))
  element-tells i None f h = cc
  element-tells i (Some v) f h = let q = (row_inverse classes (single i)).tells v f h in (q.0, ap Some (sym q.1))

  elements-tells : (name : List ℕ) (i : Item) (ks : List Sub) (pairs : List (Sub × Field)) → read_elements classes s name i ks ≡ Read pairs → (ks ≡ map (λ e. e.0) pairs) × AreElements i pairs × AllStand s (element_nodes name pairs)
  elements-tells name i [] [] h = (refl, tt, tt)
  elements-tells name i [] (e ∷ pairs) h = cc
  elements-tells name i (k ∷ ks) pairs h =
      let at : List Sub = Str name ∷ k ∷ [] in
      let p = then_read-is (or_damaged at (element_at classes i (s.value at))) (λ (f : Field). then_read (read_elements classes s name i ks) (λ more. Read ((k, f) ∷ more))) pairs h in
      let q = then_read-is (read_elements classes s name i ks) (λ (more : List (Sub × Field)). Read ((k, p.0) ∷ more)) pairs p.2 in
      let first = element-tells i (s.value at) p.0 (or_damaged-is at (element_at classes i (s.value at)) p.0 p.1) in
      let rest = elements-tells name i ks q.0 q.1 in
      let same : (k, p.0) ∷ q.0 ≡ pairs = cc in
      subst (λ (es : List (Sub × Field)). (k ∷ ks ≡ map (λ e. e.0) es) × AreElements i es × AllStand s (element_nodes name es)) same
      (ap (λ js. k ∷ js) rest.0, (first.0, rest.1), (first.1, rest.2))

  abbrev ArePairs : Item → List (Sub × Field) → Type 0
  ArePairs i pairs = Rise (map (λ e. e.0) pairs) × AreElements i pairs

  arrays-takes : (as' : List (List ℕ × Item)) (maps : List (List (Sub × Field))) → AreGood ArePairs (map (λ a. a.1) as') maps → ArraysStand s as' maps → read_arrays classes s as' ≡ Read maps
  arrays-takes [] [] good stand = refl
  arrays-takes [] (m ∷ maps) good stand = absurd good
  arrays-takes (a ∷ as') [] good stand = absurd good
  arrays-takes (a ∷ as') (m ∷ maps) good stand =
      rw (stand.0, elements-takes a.0 a.1 m good.0.1 stand.1, arrays-takes as' maps good.1 stand.2) refl

  arrays-tells : ((name : List ℕ) → Rise (s.keys name)) → (as' : List (List ℕ × Item)) (maps : List (List (Sub × Field))) → read_arrays classes s as' ≡ Read maps → AreGood ArePairs (map (λ a. a.1) as') maps × ArraysStand s as' maps
  arrays-tells rise [] [] h = (tt, tt)
  arrays-tells rise [] (m ∷ maps) h = cc
  arrays-tells rise (a ∷ as') maps h =
      let p = then_read-is (read_elements classes s a.0 a.1 (s.keys a.0)) (λ (pairs : List (Sub × Field)). then_read (read_arrays classes s as') (λ more. Read (pairs ∷ more))) maps h in
      let q = then_read-is (read_arrays classes s as') (λ (more : List (List (Sub × Field))). Read (p.0 ∷ more)) maps p.2 in
      let first = elements-tells a.0 a.1 (s.keys a.0) p.0 p.1 in
      let rest = arrays-tells rise as' q.0 q.1 in
      let same : p.0 ∷ q.0 ≡ maps = cc in
      subst (λ (ms : List (List (Sub × Field))). AreGood ArePairs (map (λ a. a.1) (a ∷ as')) ms × ArraysStand s (a ∷ as') ms) same
      (((subst Rise first.0 (rise a.0), first.1), rest.0), (first.0, first.2, rest.1))

  no_map : (Good : ClassName → List Field → Type 0) (form : Form) (pairs : List (Sub × Field)) → IsField classes Good form (Field-F.Map pairs) → ⊥
  no_map Good (single of.Text) pairs h = h
  no_map Good (single of.Whole) pairs h = h
  no_map Good (single of.Truth) pairs h = h
  no_map Good (single (of.Ref c)) pairs h = h
  no_map Good (single (of.Serial c)) pairs h = h
  no_map Good (listed i) pairs h = h
  no_map Good (keyed i) pairs h = h

  row-shape : (form : Form) (f : Field) → IsRowField classes form f → (if_row f (out-Field f) ≡ Some f) × (pairs_of (out-Field f) ≡ None)
  unfolding IsRowField
  row-shape form f good = by (out-Field f) refl good
    where
      by : (g : Field-F Field) → out-Field f ≡ g → IsField classes (IsPart 4 classes) form (out-Field f) → (if_row f (out-Field f) ≡ Some f) × (pairs_of (out-Field f) ≡ None)
      by (Field-F.Plain t) e h = (ap (if_row f) e, ap pairs_of e)
      by (Field-F.Target o) e h = (ap (if_row f) e, ap pairs_of e)
      by (Field-F.Part o) e h = (ap (if_row f) e, ap pairs_of e)
      by (Field-F.List fs) e h = (ap (if_row f) e, ap pairs_of e)
      by (Field-F.Map pairs) e h =
          absurd (no_map (IsPart 4 classes) form pairs
          (subst (λ (g : Field-F Field). IsField classes (IsPart 4 classes) form g) e h))

  -- each field goes to its place, and comes back from there
  pub record IsParted (forms : List Form) (fs : List Field) (own : List Field) (maps : List (List (Sub × Field))) : Type 0 where
    pub good : AreOfForms classes forms fs
    pub own_good : AreGood (IsRowField classes) (filter is_row forms) own
    pub maps_good : AreGood ArePairs (filter_map keyed_item forms) maps
    pub own_is : rows_in fs ≡ own
    pub maps_is : maps_in fs ≡ maps
    pub whole : merged forms own maps ≡ fs

  one-row : (form : Form) (forms : List Form) (f : Field) (fs own : List Field) (maps : List (List (Sub × Field))) → IsRowField classes form f → IsParted forms fs own maps → (rows_in (f ∷ fs) ≡ f ∷ own) × (maps_in (f ∷ fs) ≡ maps)
  one-row form forms f fs own maps good p = let q = row-shape form f good in (rw q.0 (ap (λ gs. f ∷ gs) p.own_is), rw q.1 p.maps_is)

  one-map : (i : Item) (forms : List Form) (pairs : List (Sub × Field)) (fs own : List Field) (maps : List (List (Sub × Field))) → IsParted forms fs own maps → (rows_in (field.Map pairs ∷ fs) ≡ own) × (maps_in (field.Map pairs ∷ fs) ≡ pairs ∷ maps)
  one-map i forms pairs fs own maps p =
      let e = ap out-Field (sym (rolls-Map pairs)) ∙ out-roll-Field (Field-F.Map pairs) in
      (rw e p.own_is, rw e (ap (λ ms. pairs ∷ ms) p.maps_is))

  with_map : (i : Item) (forms : List Form) (f : Field) (fs : List Field) → IsParted forms fs (rows_in fs) (maps_in fs) → AreOfForms classes forms fs → (g : Field-F Field) → roll-Field g ≡ f → IsArray classes i g → IsParted (keyed i ∷ forms) (f ∷ fs) (rows_in (f ∷ fs)) (maps_in (f ∷ fs))
  with_map i forms f fs p rest (Field-F.Map pairs) e h =
      let same : field.Map pairs ≡ f = sym (rolls-Map pairs) ∙ e in
      let q = one-map i forms pairs fs (rows_in fs) (maps_in fs) p in
      subst (λ (g : Field). IsParted (keyed i ∷ forms) (g ∷ fs) (rows_in (g ∷ fs)) (maps_in (g ∷ fs))) same
      record {
        good = (subst (IsArray classes i) (sym (ap out-Field (sym (rolls-Map pairs)) ∙ out-roll-Field (Field-F.Map pairs))) h, rest);
        own_good = subst (AreGood (IsRowField classes) (filter is_row forms)) (sym q.0) p.own_good;
        maps_good = subst (λ (ms : List (List (Sub × Field))). AreGood ArePairs (i ∷ filter_map keyed_item forms) ms) (sym q.1) (h, p.maps_good);
        own_is = refl;
        maps_is = refl;
        whole = rw (q.0, q.1) (ap (λ gs. field.Map pairs ∷ gs) p.whole);
      }
  with_map i forms f fs p rest g e h = absurd h

  pub parts : (forms : List Form) (fs : List Field) → AreOfForms classes forms fs → IsParted forms fs (rows_in fs) (maps_in fs)
  parts [] [] good = record { good = tt; own_good = tt; maps_good = tt; own_is = refl; maps_is = refl; whole = refl }
  parts [] (f ∷ fs) good = absurd good
  parts (form ∷ forms) [] good = absurd good
  parts (single i ∷ forms) (f ∷ fs) good =
      let p = parts forms fs good.1 in let q = one-row (single i) forms f fs (rows_in fs) (maps_in fs) good.0 p in
      record {
        good = good;
        own_good = subst (λ (own : List Field). AreGood (IsRowField classes) (single i ∷ filter is_row forms) own) (sym q.0) (good.0, p.own_good);
        maps_good = subst (AreGood ArePairs (filter_map keyed_item forms)) (sym q.1) p.maps_good;
        own_is = refl;
        maps_is = refl;
        whole = rw (q.0, q.1) (ap (λ gs. f ∷ gs) p.whole);
      }
  parts (listed i ∷ forms) (f ∷ fs) good =
      let p = parts forms fs good.1 in let q = one-row (listed i) forms f fs (rows_in fs) (maps_in fs) good.0 p in
      record {
        good = good;
        own_good = subst (λ (own : List Field). AreGood (IsRowField classes) (listed i ∷ filter is_row forms) own) (sym q.0) (good.0, p.own_good);
        maps_good = subst (AreGood ArePairs (filter_map keyed_item forms)) (sym q.1) p.maps_good;
        own_is = refl;
        maps_is = refl;
        whole = rw (q.0, q.1) (ap (λ gs. f ∷ gs) p.whole);
      }
  parts (keyed i ∷ forms) (f ∷ fs) good = with_map i forms f fs (parts forms fs good.1) good.1 (out-Field f) (roll-out-Field f) good.0

  pub joins : (forms : List Form) (own : List Field) (maps : List (List (Sub × Field))) → AreGood (IsRowField classes) (filter is_row forms) own → AreGood ArePairs (filter_map keyed_item forms) maps → IsParted forms (merged forms own maps) own maps
  joins [] [] [] own_good maps_good = record { good = tt; own_good = tt; maps_good = tt; own_is = refl; maps_is = refl; whole = refl }
  joins [] (f ∷ own) maps own_good maps_good = absurd own_good
  joins [] [] (m ∷ maps) own_good maps_good = absurd maps_good
  joins (single i ∷ forms) [] maps own_good maps_good = absurd own_good
  joins (single i ∷ forms) (f ∷ own) maps own_good maps_good =
      let p = joins forms own maps own_good.1 maps_good in let q = one-row (single i) forms f (merged forms own maps) own maps own_good.0 p in
      record { good = (own_good.0, p.good); own_good = own_good; maps_good = maps_good; own_is = q.0; maps_is = q.1; whole = refl }
  joins (listed i ∷ forms) [] maps own_good maps_good = absurd own_good
  joins (listed i ∷ forms) (f ∷ own) maps own_good maps_good =
      let p = joins forms own maps own_good.1 maps_good in let q = one-row (listed i) forms f (merged forms own maps) own maps own_good.0 p in
      record { good = (own_good.0, p.good); own_good = own_good; maps_good = maps_good; own_is = q.0; maps_is = q.1; whole = refl }
  joins (keyed i ∷ forms) own [] own_good maps_good = absurd maps_good
  joins (keyed i ∷ forms) own (pairs ∷ maps) own_good maps_good =
      let p = joins forms own maps own_good maps_good.1 in let q = one-map i forms pairs (merged forms own maps) own maps p in
      record {
        good = (subst (IsArray classes i) (sym (ap out-Field (sym (rolls-Map pairs)) ∙ out-roll-Field (Field-F.Map pairs))) maps_good.0, p.good);
        own_good = own_good;
        maps_good = maps_good;
        own_is = q.0;
        maps_is = q.1;
        whole = refl;
      }

  read-takes : (layout : Layout) (items : List Value) (fields : List Field) → IsLaidOut layout → AreOfForms classes layout.forms fields → FieldsStand s layout items fields → read_fields classes s layout items ≡ Read fields
  read-takes layout items fields laid good stand =
      let p = parts layout.forms fields good in
      let own = rows_in fields in
      let n = length layout.root in
      let halves = split-good (IsRowField classes) layout.root (lower_forms layout.lower) own (subst (λ (fs : List Form). AreGood (IsRowField classes) fs own) (sym laid.own) p.own_good) in
      let maps_good = subst (λ (is : List Item). AreGood ArePairs is (maps_in fields)) (sym laid.arrays) p.maps_good in
      rw (stand.row, (rows_inverse classes layout.root).takes (take n own) halves.0, lower-takes layout.lower (drop n own) halves.1 stand.lower, arrays-takes layout.arrays (maps_in fields) maps_good stand.arrays)
      (ap Read (ap (λ o. merged layout.forms o (maps_in fields)) (take-append-drop n own) ∙ p.whole))

  read-tells : (layout : Layout) (items : List Value) (fields : List Field) → IsLaidOut layout → ((name : List ℕ) → Rise (s.keys name)) → read_fields classes s layout items ≡ Read fields → AreOfForms classes layout.forms fields × FieldsStand s layout items fields
  read-tells layout items fields laid rise h =
      let p = then_read-is (or_damaged [] (each_read (row_field classes) layout.root items)) (λ (first : List Field). then_read (read_lower classes s layout.lower) (λ more. then_read (read_arrays classes s layout.arrays) (λ maps. Read (merged layout.forms (first ++ more) maps)))) fields h in
      let q = then_read-is (read_lower classes s layout.lower) (λ (more : List Field). then_read (read_arrays classes s layout.arrays) (λ maps. Read (merged layout.forms (p.0 ++ more) maps))) fields p.2 in
      let r = then_read-is (read_arrays classes s layout.arrays) (λ (maps : List (List (Sub × Field))). Read (merged layout.forms (p.0 ++ q.0) maps)) fields q.2 in
      let first = (rows_inverse classes layout.root).tells items p.0 (or_damaged-is [] (each_read (row_field classes) layout.root items) p.0 p.1) in
      let rest = lower-tells layout.lower q.0 q.1 in
      let arrays = arrays-tells rise layout.arrays r.0 r.1 in
      let j = join-good (IsRowField classes) layout.root (lower_forms layout.lower) p.0 q.0 first.0 rest.0 in
      let m = joins layout.forms (p.0 ++ q.0) r.0 (subst (λ (fs : List Form). AreGood (IsRowField classes) fs (p.0 ++ q.0)) laid.own j.0) (subst (λ (is : List Item). AreGood ArePairs is r.0) laid.arrays arrays.0) in
      let same : merged layout.forms (p.0 ++ q.0) r.0 ≡ fields = cc in
      subst (λ (fs : List Field). AreOfForms classes layout.forms fs × FieldsStand s layout items fs) same (
        m.good,
        record {
          row = sym first.1 ∙ ap (map item) (sym j.1 ∙ ap (take (length layout.root)) (sym m.own_is));
          lower = subst (λ (fs : List Field). AllStand s (lower_nodes layout.lower fs)) (sym j.2 ∙ ap (drop (length layout.root)) (sym m.own_is)) rest.1;
          arrays = subst (ArraysStand s layout.arrays) (sym m.maps_is) arrays.1;
        },
      )

pub read_where_they_stand : (classes : List Class) (s : Source) (layout : Layout) (items : List Value) (fields : List Field) → IsLaidOut layout → ((name : List ℕ) → Rise (s.keys name)) → (read_fields classes s layout items ≡ Read fields) ↔ (AreOfForms classes layout.forms fields × FieldsStand s layout items fields)
read_where_they_stand classes s layout items fields laid rise =
    (read-tells classes s layout items fields laid rise, λ h. read-takes classes s layout items fields laid h.0 h.1)
