-- One step of the reading of lists and of rows.
use Rattle.std.proofs.Common.{◌==◌, ◌≡◌, ◌≢◌, ℕ, zero, suc, ◌-◌, arith, Bool, true, false, cond, nat_eq, List, [], ◌∷◌, ◌++◌, length, Option, None, Some, refl, ap, ◌∙◌, append_assoc, append-nil}
use Rattle.std.specs.Option.{option_map}
use Rattle.std.proofs.lemmas.Bool.Decides.{Decides-eqb}
use Rattle.obj_kinds.specs.declared.name.ClassName.{ClassName}
use Rattle.obj_kinds.specs.Ids.{IsId, id_text}
use Rattle.obj_kinds.specs.IdReading.{id_in}
use Rattle.obj_kinds.proofs.IdTexts.{id_in-is, id_in-takes}
use Rattle.schema_kinds.specs.declared.class.Class.{Class}
use Rattle.schema_kinds.specs.declared.prop.Prop.{Prop}
use Rattle.record_layout.specs.Inverse.{with_first, each_read}
use Rattle.record_layout.specs.Shapes.{Form, form_of, row_forms, is_row_kind}
use Rattle.obj_kinds.specs.declared.value.Value.{Value}
use Rattle.schema_kinds.specs.Classes.{class_of, props_of}
use Rattle.record_layout.specs.Items.{target_in, part_in, field_in}

-- one more in front of what is still to be read
pub one_more : {B : Type 0} (done : List B) (b : B) (rest : Option (List B)) → option_map (λ more. (done ++ b ∷ []) ++ more) rest ≡ option_map (λ more. done ++ more) (with_first (Some b) rest)
one_more done b None = refl
one_more done b (Some bs) = ap Some (append_assoc done (b ∷ []) bs)

pub none_left : {B : Type 0} (done : List B) → option_map (λ more. done ++ more) (Some []) ≡ Some done
none_left done = ap Some (append-nil done)

pub no_row : (p : Prop) (ps : List Prop) → is_row_kind (form_of p.kind) ≡ false → row_forms (p ∷ ps) ≡ row_forms ps
no_row p ps h = by (form_of p.kind) refl h
  where
    by : (o : Option Form) → form_of p.kind ≡ o → is_row_kind o ≡ false → row_forms (p ∷ ps) ≡ row_forms ps
    by None e k = rw e refl
    by (Some form) e k = rw (e, k) refl

pub one_row : (p : Prop) (ps : List Prop) → is_row_kind (form_of p.kind) ≡ true → (form : Form) × (form_of p.kind ≡ Some form) × (row_forms (p ∷ ps) ≡ form ∷ row_forms ps)
one_row p ps h = by (form_of p.kind) refl h
  where
    by : (o : Option Form) → form_of p.kind ≡ o → is_row_kind o ≡ true → (form : Form) × (form_of p.kind ≡ Some form) × (row_forms (p ∷ ps) ≡ form ∷ row_forms ps)
    by None e k = cc
    by (Some form) e k = (form, e, rw (e, k) refl)

pub target_found : (classes : List Class) (c : ClassName) (text id : List ℕ) → text ≢ [] → IsId id → text ≡ id_text id → length id ≡ 1 → target_in classes c text ≡ Some (Some id)
target_found classes c [] id h good same long = absurd (h refl)
target_found classes c (byte ∷ text) id h good same long =
    let read : id_in (byte ∷ text) ≡ Some id = ap id_in same ∙ id_in-takes id good in
    rw (read, (Decides-eqb (length id) 1).1 long) refl

pub target_long : (classes : List Class) (c : ClassName) (text id : List ℕ) → text ≢ [] → IsId id → text ≡ id_text id → length id ≢ 1 → target_in classes c text ≡ None
target_long classes c [] id h good same long = absurd (h refl)
target_long classes c (byte ∷ text) id h good same long =
    let read : id_in (byte ∷ text) ≡ Some id = ap id_in same ∙ id_in-takes id good in
    rw read (by (nat_eq (length id) 1) refl)
  where
    by : (t : Bool) → nat_eq (length id) 1 ≡ t → option_map Some (cond t (Some id) None) ≡ None
    by true e = absurd (long ((Decides-eqb (length id) 1).0 e))
    by false e = refl

pub target_none : (classes : List Class) (c : ClassName) (text : List ℕ) → text ≢ [] → ((id : List ℕ) → IsId id → text ≢ id_text id) → target_in classes c text ≡ None
target_none classes c [] h none = absurd (h refl)
target_none classes c (byte ∷ text) h none = by (id_in (byte ∷ text)) refl
  where
    by : (o : Option (List ℕ)) → id_in (byte ∷ text) ≡ o → target_in classes c (byte ∷ text) ≡ None
    by None e = rw e refl
    by (Some id) e = let read = id_in-is (byte ∷ text) id e in absurd (none id read.id read.spelt)

pub part_step : (n : ℕ) (classes : List Class) (c : ClassName) (vs : List Value) → n ≢ 0 → part_in n classes c vs ≡ each_read (field_in (n - 1) classes) (row_forms (props_of (class_of classes c))) vs
part_step zero classes c vs h = absurd (h refl)
part_step (suc n) classes c vs h = ap (λ k. each_read (field_in k classes) (row_forms (props_of (class_of classes c))) vs) (let e : n ≡ suc n - 1 = omega arith in e)

pub no_parts : (classes : List Class) (c : ClassName) (vs : List Value) → part_in 0 classes c vs ≡ None
no_parts classes c vs = refl

pub not_empty : (t : List ℕ) → false ≡ (length t == 0) → t ≢ []
not_empty t h e = let is : (length t == 0) ≡ true = ap (λ (u : List ℕ). length u == 0) e in cc
