-- A session that does what an act says shows what stands after it.
use Rattle.std.proofs.Common.{◌≡◌, ◌≢◌, ℕ, zero, suc, ◌+◌, ◌<◌, ◌≤◌, ◌==◌, Bool, true, false, ◌&&◌, cond, List, [], ◌∷◌, ◌++◌, length, map, replicate, Option, Some, None, refl, sym, ap, subst, ◌∙◌, arith, length-append}
use Rattle.std.specs.Prelude.{slice_get, slice_set}
use Rattle.std.specs.Option.{is_some, IfSome}
use Rattle.std.proofs.lemmas.List.{length-map, map-append, length-set}
use Rattle.std.proofs.lemmas.Option.{slice_get_within}
use Rattle.std.proofs.lemmas.Bool.Decides.{Decides-eqb}
use Rattle.first_path.specs.World.{Past, objects_made, value, values_from, fields_of, saved_fields, place_among, first_saves, world_after, IsKnown, AreKnown}
use Rattle.first_path.specs.Amid.{PastKnown}
use Rattle.first_path.specs.Steps.{blank, CanStep, Steps, SavesAt, object_after, Stands}
use Rattle.first_path.specs.declared.act.Act.{Act}
use Rattle.first_path.specs.declared.act.Act.TheVariants.{Make, Fill, Save}
use Rattle.first_path.specs.declared.session.Object.{Object}
use Rattle.first_path.specs.declared.session.Session.{Session}
use Rattle.first_path.proofs.Places.{slice_get-set_same, slice_get-set_other, slice_get-append_old, slice_get-append_new, same_number, number_itself, other_number, IsDistinct, AllBelow, all_below-more, all_below-append, place-above, place-append_new, place-append_other, distinct-append, place-within, map-absent, map-present}

-- WHAT WAS NEVER SET

value-unset : (n : ℕ) (before : Past) (object place : ℕ) → PastKnown n before → objects_made before ≤ object → value before object place ≡ []
value-unset n [] object place known le = refl
value-unset n (Make ∷ before) object place known le = value-unset n before object place known.1 (omega arith)
value-unset n (Fill o p text ∷ before) object place known le =
    let apart : o ≢ object = let e = known.0.0 in omega arith in
    rw (other_number o object apart) (value-unset n before object place known.1 le)
value-unset n (Save o ∷ before) object place known le = value-unset n before object place known.1 le

values-same : (a b : Past) (object place n : ℕ) → ((p : ℕ) → place ≤ p → value a object p ≡ value b object p) → values_from a object place n ≡ values_from b object place n
values-same a b object place zero same = refl
values-same a b object place (suc n) same = λ i. same place (omega arith) i ∷ values-same a b object (suc place) n (λ p le. same p (omega arith)) i

values-unset : (before : Past) (object place n : ℕ) → ((p : ℕ) → value before object p ≡ []) → values_from before object place n ≡ replicate n []
values-unset before object place zero none = refl
values-unset before object place (suc n) none = λ i. none place i ∷ values-unset before object (suc place) n none i

-- ONE PROPERTY IS SET

set_here : (before : Past) (object place : ℕ) (text : List ℕ) → value (Fill object place text ∷ before) object place ≡ text
set_here before object place text = rw (number_itself object, number_itself place) refl

set_elsewhere : (before : Past) (object place p : ℕ) (text : List ℕ) → place ≢ p → value (Fill object place text ∷ before) object p ≡ value before object p
set_elsewhere before object place p text apart = rw (number_itself object, other_number place p apart) refl

other_object : (before : Past) (o object place p : ℕ) (text : List ℕ) → o ≢ object → value (Fill o place text ∷ before) object p ≡ value before object p
other_object before o object place p text apart = rw (other_number o object apart) refl

values-set : (before : Past) (object start k n : ℕ) (text : List ℕ) → k < n → values_from (Fill object (start + k) text ∷ before) object start n ≡ slice_set (values_from before object start n) k text
values-set before object start k zero text less = absurd (omega arith)
values-set before object start zero (suc n) text less =
    let here : start + 0 ≡ start = omega arith in
    subst (λ p. values_from (Fill object p text ∷ before) object start (suc n) ≡ text ∷ values_from before object (suc start) n) (sym here)
    (λ i. set_here before object start text i ∷ values-same (Fill object start text ∷ before) before object (suc start) n (λ p le. set_elsewhere before object start p text (omega arith)) i)
values-set before object start (suc k) (suc n) text less =
    let next : start + suc k ≡ suc start + k = omega arith in
    let first : start + suc k ≢ start = omega arith in
    λ i. set_elsewhere before object (start + suc k) start text first i
    ∷ (ap (λ p. values_from (Fill object p text ∷ before) object (suc start) n) next ∙ values-set before object (suc start) k n text (omega arith)) i

length-values : (before : Past) (object place n : ℕ) → length (values_from before object place n) ≡ n
length-values before object place zero = refl
length-values before object place (suc n) = ap (λ m. suc m) (length-values before object (suc place) n)

-- SAVES

by_some : (o : Option ℕ) (x y : List ℕ) (P : List ℕ → Type 0) → (o ≡ None → P y) → (o ≢ None → P x) → P (cond (is_some o) x y)
by_some None x y P none some = none refl
by_some (Some n) x y P none some = some (λ h. cc)

saves-below : (n : ℕ) (before : Past) → PastKnown n before → AllBelow (objects_made before) (first_saves before)
saves-below n [] known = tt
saves-below n (Make ∷ before) known = all_below-more (objects_made before) (suc (objects_made before)) (first_saves before) (omega arith) (saves-below n before known.1)
saves-below n (Fill object place text ∷ before) known = saves-below n before known.1
saves-below n (Save object ∷ before) known =
    by_some (place_among (first_saves before) object) (first_saves before) (first_saves before ++ object ∷ []) (AllBelow (objects_made before))
    (λ none. all_below-append (objects_made before) (first_saves before) object (saves-below n before known.1) known.0) (λ some. saves-below n before known.1)

saves-distinct : (before : Past) → IsDistinct (first_saves before)
saves-distinct [] = tt
saves-distinct (Make ∷ before) = saves-distinct before
saves-distinct (Fill object place text ∷ before) = saves-distinct before
saves-distinct (Save object ∷ before) =
    by_some (place_among (first_saves before) object) (first_saves before) (first_saves before ++ object ∷ []) IsDistinct
    (λ none. distinct-append (first_saves before) object (saves-distinct before) none) (λ some. saves-distinct before)

first_saves-new : (before : Past) (object : ℕ) → place_among (first_saves before) object ≡ None → first_saves (Save object ∷ before) ≡ first_saves before ++ object ∷ []
first_saves-new before object none = rw none refl

first_saves-old : (before : Past) (object row : ℕ) → place_among (first_saves before) object ≡ Some row → first_saves (Save object ∷ before) ≡ first_saves before
first_saves-old before object row some = rw some refl

map-same : {A : Type 0} (f g : ℕ → A) (xs : List ℕ) → ((x : ℕ) → f x ≡ g x) → map f xs ≡ map g xs
map-same f g [] same = refl
map-same f g (x ∷ xs) same = λ i. same x i ∷ map-same f g xs same i

-- a save gives its object other fields, and no other one
saved-by : (n : ℕ) (before : Past) (object : ℕ) (xs : List ℕ) → map (saved_fields n (Save object ∷ before)) xs ≡ map (λ i. cond (object == i) (fields_of n before object) (saved_fields n before i)) xs
saved-by n before object xs = map-same (saved_fields n (Save object ∷ before)) (λ i. cond (object == i) (fields_of n before object) (saved_fields n before i)) xs (λ x. refl)

saved-here : (n : ℕ) (before : Past) (object : ℕ) → saved_fields n (Save object ∷ before) object ≡ fields_of n before object
saved-here n before object = rw (number_itself object) refl

world-new : (n : ℕ) (before : Past) (object : ℕ) → place_among (first_saves before) object ≡ None → world_after n (Save object ∷ before) ≡ world_after n before ++ fields_of n before object ∷ []
world-new n before object none =
    let saved = saved_fields n (Save object ∷ before) in
    let front = saved-by n before object (first_saves before) ∙ map-absent (saved_fields n before) (first_saves before) object (fields_of n before object) none in
    ap (map saved) (first_saves-new before object none)
    ∙ map-append saved (first_saves before) (object ∷ [])
    ∙ λ i. front i ++ (saved-here n before object i ∷ [])

pub world-old : (n : ℕ) (before : Past) (object row : ℕ) → place_among (first_saves before) object ≡ Some row → world_after n (Save object ∷ before) ≡ slice_set (world_after n before) row (fields_of n before object)
world-old n before object row some =
    ap (map (saved_fields n (Save object ∷ before))) (first_saves-old before object row some)
    ∙ saved-by n before object (first_saves before)
    ∙ map-present (saved_fields n before) (first_saves before) object row (fields_of n before object) (saves-distinct before) some

-- STEPS

some_is : {A : Type 0} (a b : A) (o : Option A) → o ≡ Some a → o ≡ Some b → a ≡ b
some_is a b o h k = cc

module _ (n : ℕ) (before : Past) (s : Session) (stands : Stands n before s) (known : PastKnown n before) where
  -- the object that is found is the one that stands
  found_is : (object : ℕ) (o : Object) → slice_get s.objects.items object ≡ Some o → o ≡ object_after n before object
  found_is object o is =
      let within = slice_get_within s.objects.items object o is in
      some_is o (object_after n before object) (slice_get s.objects.items object) is (stands.objects object (let e = stands.made in omega arith))

  fields_same : (act : Act) → ((object p : ℕ) → value (act ∷ before) object p ≡ value before object p) → (object : ℕ) → fields_of n (act ∷ before) object ≡ fields_of n before object
  fields_same act same object = values-same (act ∷ before) before object 0 n (λ p le. same object p)

  make_step : (new : Session) → Steps Make s new → Stands n (Make ∷ before) new
  make_step new (pushed, saved, properties) = record {
    properties = properties ∙ stands.properties;
    made = let e = stands.made in omega (arith, ap length pushed, length-append s.objects.items (blank s.properties ∷ []));
    objects = λ object less. subst (λ (os : List Object). slice_get os object ≡ Some (object_after n (Make ∷ before) object)) (sym pushed) (at object less (object == objects_made before) refl);
    saved = saved ∙ stands.saved ∙ map-same (saved_fields n before) (saved_fields n (Make ∷ before)) (first_saves before) (λ x. refl);
  }
    where
      old_is : (object : ℕ) → object_after n before object ≡ object_after n (Make ∷ before) object
      old_is object = λ i. record { fields = sym (fields_same Make (λ o p. refl) object) i; row = place_among (first_saves before) object }

      new_is : blank s.properties ≡ object_after n (Make ∷ before) (objects_made before)
      new_is =
          let none = values-unset (Make ∷ before) (objects_made before) 0 n (λ p. value-unset n before (objects_made before) p known (omega arith)) in
          let row = place-above (objects_made before) (first_saves before) (objects_made before) (saves-below n before known) (omega arith) in
          λ i. record { fields = (ap (λ m. replicate m []) stands.properties ∙ sym none) i; row = sym row i }

      at : (object : ℕ) → object < suc (objects_made before) → (b : Bool) → (object == objects_made before) ≡ b → slice_get (s.objects.items ++ blank s.properties ∷ []) object ≡ Some (object_after n (Make ∷ before) object)
      at object less true e =
          let last : object ≡ objects_made before = same_number object (objects_made before) e in
          let place : object ≡ length s.objects.items = last ∙ sym stands.made in
          subst (λ k. slice_get (s.objects.items ++ blank s.properties ∷ []) k ≡ Some (object_after n (Make ∷ before) object)) (sym place)
          (slice_get-append_new s.objects.items (blank s.properties) ∙ ap Some (new_is ∙ ap (object_after n (Make ∷ before)) (sym last)))
      at object less false e =
          let apart : object ≢ objects_made before = λ same. let t = (Decides-eqb object (objects_made before)).1 same in cc in
          let small : object < objects_made before = omega arith in
          slice_get-append_old s.objects.items object (blank s.properties) (object_after n (Make ∷ before) object) (let m = stands.made in omega arith) (stands.objects object small ∙ ap Some (old_is object))

  fill_step : (object place : ℕ) (text : List ℕ) (new : Session) → place < n → Steps (Fill object place text) s new → Stands n (Fill object place text ∷ before) new
  fill_step object place text new less (o, is, set, saved, properties) = record {
    properties = properties ∙ stands.properties;
    made = let e = stands.made in omega (arith, ap length set, length-set s.objects.items object (record o { fields = slice_set o.fields place text }));
    objects = λ k small. subst (λ (os : List Object). slice_get os k ≡ Some (object_after n (Fill object place text ∷ before) k)) (sym set) (at k small (k == object) refl);
    saved = saved ∙ stands.saved ∙ map-same (saved_fields n before) (saved_fields n (Fill object place text ∷ before)) (first_saves before) (λ x. refl);
  }
    where
      set_is : record o { fields = slice_set o.fields place text } ≡ object_after n (Fill object place text ∷ before) object
      set_is =
          let same = found_is object o is in
          let start : 0 + place ≡ place = omega arith in
          let fields = ap (λ p. values_from (Fill object p text ∷ before) object 0 n) (sym start) ∙ values-set before object 0 place n text less in
          λ i. record { fields = (ap (λ (q : Object). slice_set q.fields place text) same ∙ sym fields) i; row = (ap (λ (q : Object). q.row) same) i }

      at : (k : ℕ) → k < objects_made before → (b : Bool) → (k == object) ≡ b → slice_get (slice_set s.objects.items object (record o { fields = slice_set o.fields place text })) k ≡ Some (object_after n (Fill object place text ∷ before) k)
      at k small true e =
          let same : k ≡ object = same_number k object e in
          subst (λ m. slice_get (slice_set s.objects.items object (record o { fields = slice_set o.fields place text })) m ≡ Some (object_after n (Fill object place text ∷ before) m)) (sym same)
          (slice_get-set_same s.objects.items object (record o { fields = slice_set o.fields place text }) (slice_get_within s.objects.items object o is) ∙ ap Some set_is)
      at k small false e =
          let apart : k ≢ object = λ same. let t = (Decides-eqb k object).1 same in cc in
          let apart' : object ≢ k = λ same. apart (sym same) in
          let same : fields_of n (Fill object place text ∷ before) k ≡ fields_of n before k = values-same (Fill object place text ∷ before) before k 0 n (λ p le. other_object before object k place p text apart') in
          slice_get-set_other s.objects.items object k (record o { fields = slice_set o.fields place text }) (object_after n (Fill object place text ∷ before) k) apart (let m = stands.made in omega arith)
          (stands.objects k small ∙ ap Some (λ i. record { fields = sym same i; row = place_among (first_saves before) k }))

  -- a first save
  save_new : (object : ℕ) (new : Session) (o : Object) → slice_get s.objects.items object ≡ Some o → place_among (first_saves before) object ≡ None → o.row ≡ None → new.properties ≡ s.properties
      → (new.objects.items ≡ slice_set s.objects.items object (record o { row = Some (length s.saved) })) → (new.saved ≡ s.saved ++ o.fields ∷ []) → Stands n (Save object ∷ before) new
  save_new object new o is none row properties set saved = record {
    properties = properties ∙ stands.properties;
    made = let e = stands.made in omega (arith, ap length set, length-set s.objects.items object (record o { row = Some (length s.saved) }));
    objects = λ k small. subst (λ (os : List Object). slice_get os k ≡ Some (object_after n (Save object ∷ before) k)) (sym set) (at k small (k == object) refl);
    saved =
        saved ∙ (λ i. stands.saved i ++ (ap (λ (q : Object). q.fields) (found_is object o is) i ∷ [])) ∙ sym (world-new n before object none);
  }
    where
      rows : length s.saved ≡ length (first_saves before)
      rows = ap length stands.saved ∙ length-map (first_saves before) (saved_fields n before)

      set_is : record o { row = Some (length s.saved) } ≡ object_after n (Save object ∷ before) object
      set_is =
          let same = found_is object o is in
          let place = ap (λ fs. place_among fs object) (first_saves-new before object none) ∙ place-append_new (first_saves before) object none in
          λ i. record { fields = (ap (λ (q : Object). q.fields) same ∙ sym (fields_same (Save object) (λ a p. refl) object)) i; row = (ap Some rows ∙ sym place) i }

      at : (k : ℕ) → k < objects_made before → (b : Bool) → (k == object) ≡ b → slice_get (slice_set s.objects.items object (record o { row = Some (length s.saved) })) k ≡ Some (object_after n (Save object ∷ before) k)
      at k small true e =
          let same : k ≡ object = same_number k object e in
          subst (λ m. slice_get (slice_set s.objects.items object (record o { row = Some (length s.saved) })) m ≡ Some (object_after n (Save object ∷ before) m)) (sym same)
          (slice_get-set_same s.objects.items object (record o { row = Some (length s.saved) }) (slice_get_within s.objects.items object o is) ∙ ap Some set_is)
      at k small false e =
          let apart : k ≢ object = λ same. let t = (Decides-eqb k object).1 same in cc in
          let apart' : object ≢ k = λ same. apart (sym same) in
          let place = ap (λ fs. place_among fs k) (first_saves-new before object none) ∙ place-append_other (first_saves before) object k apart' in
          slice_get-set_other s.objects.items object k (record o { row = Some (length s.saved) }) (object_after n (Save object ∷ before) k) apart (let m = stands.made in omega arith)
          (stands.objects k small ∙ ap Some (λ i. record { fields = sym (fields_same (Save object) (λ a p. refl) k) i; row = sym place i }))

  -- a later save
  save_old : (object row : ℕ) (new : Session) (o : Object) → slice_get s.objects.items object ≡ Some o → place_among (first_saves before) object ≡ Some row → new.properties ≡ s.properties
      → (new.objects.items ≡ s.objects.items) → (new.saved ≡ slice_set s.saved row o.fields) → Stands n (Save object ∷ before) new
  save_old object row new o is some properties same_objects saved = record {
    properties = properties ∙ stands.properties;
    made = let e = stands.made in omega (arith, ap length same_objects);
    objects = λ k small. subst (λ (os : List Object). slice_get os k ≡ Some (object_after n (Save object ∷ before) k)) (sym same_objects)
        (stands.objects k small ∙ ap Some (λ i. record { fields = sym (fields_same (Save object) (λ a p. refl) k) i; row = place_among (sym (first_saves-old before object row some) i) k }));
    saved = saved ∙ (λ i. slice_set (stands.saved i) row (ap (λ (q : Object). q.fields) (found_is object o is) i)) ∙ sym (world-old n before object row some);
  }

  save_step : (object : ℕ) (new : Session) → Steps (Save object) s new → Stands n (Save object ∷ before) new
  save_step object new (o, is, change, properties) = by (place_among (first_saves before) object) refl (o.row) refl change
    where
      row_is : o.row ≡ place_among (first_saves before) object
      row_is = ap (λ (q : Object). q.row) (found_is object o is)

      by : (p : Option ℕ) → place_among (first_saves before) object ≡ p → (r : Option ℕ) → o.row ≡ r → SavesAt r object o s new → Stands n (Save object ∷ before) new
      by None e None r change = save_new object new o is e r properties change.0 change.1
      by None e (Some m) r change = let k = row_is in cc
      by (Some row) e None r change = let k = row_is in cc
      by (Some row) e (Some m) r change =
          let same : m ≡ row = let k = row_is in cc in
          save_old object row new o is e properties change.0 (change.1 ∙ ap (λ p. slice_set s.saved p o.fields) same)

  pub next_stands : (act : Act) (new : Session) → IsKnown n before act → Steps act s new → Stands n (act ∷ before) new
  next_stands Make new is steps = make_step new steps
  next_stands (Fill object place text) new is steps = fill_step object place text new is.1 steps
  next_stands (Save object) new is steps = save_step object new steps

  pub can_step : (act : Act) → IsKnown n before act → CanStep act s
  can_step Make is = tt
  can_step (Fill object place text) is = (object_after n before object, stands.objects object is.0, let e = length-values before object 0 n in let less = is.1 in omega arith)
  can_step (Save object) is = (object_after n before object, stands.objects object is, within (place_among (first_saves before) object) refl)
    where
      within : (p : Option ℕ) → place_among (first_saves before) object ≡ p → IfSome p (λ row. row < length s.saved)
      within None e = tt
      within (Some row) e =
          let rows : length s.saved ≡ length (first_saves before) = ap length stands.saved ∙ length-map (first_saves before) (saved_fields n before) in
          let less = place-within (first_saves before) object row e in
          omega arith
