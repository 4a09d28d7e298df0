-- An item is read as a field exactly where the field has the form and is written so.
use Rattle.std.proofs.Common.{◌≡◌, ℕ, zero, suc, Bool, true, false, cond, nat_eq, List, [], ◌∷◌, map, length, Option, None, Some, refl, sym, ap, subst, ◌∙◌}
use Rattle.std.specs.Option.{option_and_then, option_map}
use Rattle.std.proofs.lemmas.Bool.Decides.{Decides-eqb}
use Rattle.std.specs.Fmt.{digits}
use Rattle.obj_kinds.specs.declared.name.ClassName.{ClassName}
use Rattle.obj_kinds.specs.declared.value.Value.{Value}
use Rattle.obj_kinds.specs.declared.value.Value.TheVariants as value
use Rattle.obj_kinds.specs.declared.value.Value.TheVariants.{rolls-Str, rolls-List}
use Rattle.obj_kinds.specs.declared.value.Value.TheOpen.{Value-F}
use Rattle.obj_kinds.specs.declared.value.Value.TheViews.{out-Value, roll-Value, out-roll-Value, roll-out-Value}
use Rattle.obj_kinds.specs.Ids.{IsId, id_text}
use Rattle.obj_kinds.specs.IdReading.{id_in, part_in as id_part}
use Rattle.obj_kinds.specs.Subscript.{whole_of, is_number, number_in}
use Rattle.obj_kinds.proofs.IdTexts.{id_in-is, id_in-takes}
use Rattle.schema_kinds.specs.declared.kind.Item.{Item}
use Rattle.schema_kinds.specs.declared.kind.Item.TheVariants as of
use Rattle.schema_kinds.specs.declared.class.Class.{Class}
use Rattle.schema_kinds.specs.declared.record.Field.{Field}
use Rattle.schema_kinds.specs.declared.record.Field.TheVariants as field
use Rattle.schema_kinds.specs.declared.record.Field.TheVariants.{rolls-Plain, rolls-Target, rolls-Part, rolls-List as rolls-Fields, rolls-Map}
use Rattle.schema_kinds.specs.declared.record.Field.TheOpen.{Field-F}
use Rattle.schema_kinds.specs.declared.record.Field.TheViews.{out-Field, roll-Field, out-roll-Field, roll-out-Field}
use Rattle.schema_kinds.specs.declared.record.Field.TheFolds.{fold-roll-Field}
use Rattle.record_layout.specs.Inverse.{IsInverse, all_read, EachGood}
use Rattle.record_layout.specs.Shapes.{Form, single, listed, IsTarget, IsElement, IsField, IsPart, HasForm, id_length, row_forms}
use Rattle.schema_kinds.specs.Classes.{class_of, props_of}
use Rattle.record_layout.specs.Items.{target_text, item_step, item, if_long, target_in, element_in, field_by, part_in, field_in}
use Rattle.record_layout.proofs.InverseLaws.{option_map-is, and_then-is, all_inverse, each_inverse}

pub str-out : (t : List ℕ) → out-Value (value.Str t) ≡ Value-F.Str t
str-out t = ap out-Value (sym (rolls-Str t)) ∙ out-roll-Value (Value-F.Str t)

pub list-out : (vs : List Value) → out-Value (value.List vs) ≡ Value-F.List vs
list-out vs = ap out-Value (sym (rolls-List vs)) ∙ out-roll-Value (Value-F.List vs)

pub item-Plain : (t : List ℕ) → item (field.Plain t) ≡ value.Str t
item-Plain t = ap item (sym (rolls-Plain t)) ∙ fold-roll-Field Value item_step (Field-F.Plain t)

pub item-Target : (o : Option (List ℕ)) → item (field.Target o) ≡ value.Str (target_text o)
item-Target o = ap item (sym (rolls-Target o)) ∙ fold-roll-Field Value item_step (Field-F.Target o)

pub item-no_part : item (field.Part None) ≡ value.Str []
item-no_part = ap item (sym (rolls-Part None)) ∙ fold-roll-Field Value item_step (Field-F.Part None)

pub item-Part : (fs : List Field) → item (field.Part (Some fs)) ≡ value.List (map item fs)
item-Part fs = ap item (sym (rolls-Part (Some fs))) ∙ fold-roll-Field Value item_step (Field-F.Part (Some fs))

pub item-empty : item (field.List []) ≡ value.Str []
item-empty = ap item (sym (rolls-Fields [])) ∙ fold-roll-Field Value item_step (Field-F.List [])

pub item-List : (f : Field) (fs : List Field) → item (field.List (f ∷ fs)) ≡ value.List (item f ∷ map item fs)
item-List f fs = ap item (sym (rolls-Fields (f ∷ fs))) ∙ fold-roll-Field Value item_step (Field-F.List (f ∷ fs))

pub field-out-Plain : (t : List ℕ) → out-Field (field.Plain t) ≡ Field-F.Plain t
field-out-Plain t = ap out-Field (sym (rolls-Plain t)) ∙ out-roll-Field (Field-F.Plain t)

pub field-out-Target : (o : Option (List ℕ)) → out-Field (field.Target o) ≡ Field-F.Target o
field-out-Target o = ap out-Field (sym (rolls-Target o)) ∙ out-roll-Field (Field-F.Target o)

pub field-out-Part : (o : Option (List Field)) → out-Field (field.Part o) ≡ Field-F.Part o
field-out-Part o = ap out-Field (sym (rolls-Part o)) ∙ out-roll-Field (Field-F.Part o)

pub field-out-List : (fs : List Field) → out-Field (field.List fs) ≡ Field-F.List fs
field-out-List fs = ap out-Field (sym (rolls-Fields fs)) ∙ out-roll-Field (Field-F.List fs)

-- no id has an empty text
no_empty_id : id_in [] ≡ None
unfolding id_in id_part whole_of is_number number_in digits
no_empty_id = refl

target-takes : (classes : List Class) (c : ClassName) (o : Option (List ℕ)) → IsTarget classes c o → target_in classes c (target_text o) ≡ Some o
target-takes classes c None good = refl
target-takes classes c (Some id) good = by (id_text id) (id_in-takes id good.0)
  where
    long : if_long (id_length classes c) id ≡ Some id
    long = rw ((Decides-eqb (length id) (id_length classes c)).1 good.1) refl

    by : (t : List ℕ) → id_in t ≡ Some id → target_in classes c t ≡ Some (Some id)
    by [] e = let n = no_empty_id in cc
    by (byte ∷ t) e = rw (e, long) refl

if_long-is : (n : ℕ) (id jd : List ℕ) → if_long n id ≡ Some jd → (length jd ≡ n) × (id ≡ jd)
if_long-is n id jd h = by (nat_eq (length id) n) refl h
  where
    by : (t : Bool) → nat_eq (length id) n ≡ t → cond t (Some id) None ≡ Some jd → (length jd ≡ n) × (id ≡ jd)
    by true e k = let same : id ≡ jd = cc in (ap length (sym same) ∙ (Decides-eqb (length id) n).0 e, same)
    by false e k = cc

target-tells : (classes : List Class) (c : ClassName) (t : List ℕ) (o : Option (List ℕ)) → target_in classes c t ≡ Some o → IsTarget classes c o × (target_text o ≡ t)
target-tells classes c [] o h =
    let same : None ≡ o = cc in
    subst (λ (q : Option (List ℕ)). IsTarget classes c q × (target_text q ≡ [])) same (tt, refl)
target-tells classes c (byte ∷ t) o h =
    let p = option_map-is Some (option_and_then (if_long (id_length classes c)) (id_in (byte ∷ t))) o h in
    let q = and_then-is (if_long (id_length classes c)) (id_in (byte ∷ t)) p.0 p.1 in
    let long = if_long-is (id_length classes c) q.0 p.0 q.2 in
    let read = id_in-is (byte ∷ t) q.0 q.1 in
    subst (λ (r : Option (List ℕ)). IsTarget classes c r × (target_text r ≡ byte ∷ t)) p.2
    ((subst IsId long.1 read.id, long.0), ap id_text (sym long.1) ∙ sym read.spelt)

module _ (classes : List Class) (Good : ClassName → List Field → Type 0) (read : ClassName → List Value → Option (List Field)) (ok : (c : ClassName) → IsInverse (Good c) (map item) (read c)) where
  abbrev IsAt : Item → Field → Type 0
  IsAt i f = IsElement classes Good i (out-Field f)

  abbrev read_at : Item → Value → Option Field
  read_at i v = element_in classes read i (out-Value v)

  element-takes : (i : Item) (f : Field-F Field) → IsElement classes Good i f → read_at i (item (roll-Field f)) ≡ Some (roll-Field f)
  element-takes of.Text (Field-F.Plain t) good = rw (rolls-Plain t, item-Plain t, str-out t) refl
  element-takes of.Whole (Field-F.Plain t) good = rw (rolls-Plain t, item-Plain t, str-out t) refl
  element-takes of.Truth (Field-F.Plain t) good = rw (rolls-Plain t, item-Plain t, str-out t) refl
  element-takes (of.Ref c) (Field-F.Target o) good = rw (rolls-Target o, item-Target o, str-out (target_text o), target-takes classes c o good) refl
  element-takes (of.Serial c) (Field-F.Part None) good = rw (rolls-Part None, item-no_part, str-out []) refl
  element-takes (of.Serial c) (Field-F.Part (Some fs)) good = rw (rolls-Part (Some fs), item-Part fs, list-out (map item fs), (ok c).takes fs good) refl
  element-takes i f good = absurd good

  -- a field that was made stands for what it was made of
  made : (i : Item) (v : Value) (b c : Field) → IsAt i c → item c ≡ v → Some c ≡ Some b → IsAt i b × (item b ≡ v)
  made i v b c good is h = let same : c ≡ b = cc in subst (λ (f : Field). IsAt i f × (item f ≡ v)) same (good, is)

  element-tells : (i : Item) (v : Value) (b : Field) → read_at i v ≡ Some b → IsAt i b × (item b ≡ v)
  element-tells i v b h = by i (out-Value v) (ap roll-Value refl ∙ roll-out-Value v) h
    where
      by : (i : Item) (w : Value-F Value) → roll-Value w ≡ v → element_in classes read i w ≡ Some b → IsAt i b × (item b ≡ v)
      by of.Text (Value-F.Str t) e k = made of.Text v b (field.Plain t) (rw (field-out-Plain t) tt) (item-Plain t ∙ sym (rolls-Str t) ∙ e) k
      by of.Whole (Value-F.Str t) e k = made of.Whole v b (field.Plain t) (rw (field-out-Plain t) tt) (item-Plain t ∙ sym (rolls-Str t) ∙ e) k
      by of.Truth (Value-F.Str t) e k = made of.Truth v b (field.Plain t) (rw (field-out-Plain t) tt) (item-Plain t ∙ sym (rolls-Str t) ∙ e) k
      by (of.Ref c) (Value-F.Str t) e k =
          let p = option_map-is field.Target (target_in classes c t) b k in
          let q = target-tells classes c t p.0 p.1 in
          made (of.Ref c) v b (field.Target p.0) (rw (field-out-Target p.0) q.0) (item-Target p.0 ∙ ap value.Str q.1 ∙ sym (rolls-Str t) ∙ e) (ap Some p.2)
      by (of.Serial c) (Value-F.Str []) e k =
          made (of.Serial c) v b (field.Part None) (rw (field-out-Part None) tt) (item-no_part ∙ sym (rolls-Str []) ∙ e) k
      by (of.Serial c) (Value-F.List vs) e k =
          let p = option_map-is (λ (fs : List Field). field.Part (Some fs)) (read c vs) b k in
          let q = (ok c).tells vs p.0 p.1 in
          made (of.Serial c) v b (field.Part (Some p.0)) (rw (field-out-Part (Some p.0)) q.0) (item-Part p.0 ∙ ap value.List q.1 ∙ sym (rolls-List vs) ∙ e) (ap Some p.2)
      by i w e k = cc

  pub element_inverse : (i : Item) → IsInverse (IsAt i) item (read_at i)
  element_inverse i = record {
    takes = λ f good. subst (λ (g : Field). read_at i (item g) ≡ Some g) (roll-out-Field f) (element-takes i (out-Field f) good);
    tells = element-tells i;
  }

  abbrev IsFieldAt : Form → Field → Type 0
  IsFieldAt form f = IsField classes Good form (out-Field f)

  abbrev read_field : Form → Value → Option Field
  read_field form v = field_by classes read form (out-Value v)

  elements_inverse : (i : Item) → IsInverse (EachGood (IsAt i)) (map item) (all_read (read_at i))
  elements_inverse i = all_inverse (IsAt i) item (read_at i) (element_inverse i)

  field-takes : (form : Form) (f : Field-F Field) → IsField classes Good form f → read_field form (item (roll-Field f)) ≡ Some (roll-Field f)
  field-takes (single i) f good = element-takes i f good
  field-takes (listed i) (Field-F.List []) good = rw (rolls-Fields [], item-empty, str-out []) refl
  field-takes (listed i) (Field-F.List (f ∷ fs)) good =
      rw (rolls-Fields (f ∷ fs), item-List f fs, list-out (item f ∷ map item fs)) (ap (option_map field.List) ((elements_inverse i).takes (f ∷ fs) good))
  field-takes form f good = absurd good

  found : (form : Form) (v : Value) (b c : Field) → IsFieldAt form c → item c ≡ v → Some c ≡ Some b → IsFieldAt form b × (item b ≡ v)
  found form v b c good is h = let same : c ≡ b = cc in subst (λ (f : Field). IsFieldAt form f × (item f ≡ v)) same (good, is)

  field-tells : (form : Form) (v : Value) (b : Field) → read_field form v ≡ Some b → IsFieldAt form b × (item b ≡ v)
  field-tells form v b h = by form (out-Value v) (roll-out-Value v) h
    where
      of_list : (i : Item) (fs : List Field) (v w : Value) (vs : List Value) → map item fs ≡ w ∷ vs → EachGood (IsAt i) fs → value.List (w ∷ vs) ≡ v → field.List fs ≡ b → IsFieldAt (listed i) b × (item b ≡ v)
      of_list i [] v w vs e good is k = cc
      of_list i (f ∷ fs) v w vs e good is k = found (listed i) v b (field.List (f ∷ fs)) (rw (field-out-List (f ∷ fs)) good) (item-List f fs ∙ ap value.List e ∙ is) (ap Some k)

      by : (form : Form) (w : Value-F Value) → roll-Value w ≡ v → field_by classes read form w ≡ Some b → IsFieldAt form b × (item b ≡ v)
      by (single i) w e k = element-tells i v b (ap (element_in classes read i) (ap out-Value (sym e) ∙ out-roll-Value w) ∙ k)
      by (listed i) (Value-F.Str []) e k = found (listed i) v b (field.List []) (rw (field-out-List []) tt) (item-empty ∙ sym (rolls-Str []) ∙ e) k
      by (listed i) (Value-F.List (w ∷ vs)) e k =
          let p = option_map-is field.List (all_read (read_at i) (w ∷ vs)) b k in
          let q = (elements_inverse i).tells (w ∷ vs) p.0 p.1 in
          of_list i p.0 v w vs q.1 q.0 (sym (rolls-List (w ∷ vs)) ∙ e) p.2
      by form w e k = cc

  pub field_inverse : (form : Form) → IsInverse (IsFieldAt form) item (read_field form)
  field_inverse form = record {
    takes = λ f good. subst (λ (g : Field). read_field form (item g) ≡ Some g) (roll-out-Field f) (field-takes form (out-Field f) good);
    tells = field-tells form;
  }

parts_tell : (n : ℕ) (classes : List Class) (c : ClassName) → IsInverse (IsPart n classes c) (map item) (part_in n classes c)
parts_tell zero classes c = record { takes = λ fs good. absurd good; tells = λ vs fs h. absurd (let n : None ≡ Some fs = h in cc) }
parts_tell (suc n) classes c =
    each_inverse (HasForm n classes) item (field_in n classes)
    (field_inverse classes (IsPart n classes) (part_in n classes) (parts_tell n classes)) (row_forms (props_of (class_of classes c)))

pub items_tell : (n : ℕ) (classes : List Class) (form : Form) → IsInverse (HasForm n classes form) item (field_in n classes form)
items_tell n classes form = field_inverse classes (IsPart n classes) (part_in n classes) (parts_tell n classes) form
