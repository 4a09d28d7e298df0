-- Objects found by their keys: what is kept when one comes, goes, or is given an id.
use Rattle.std.proofs.Common.{◌≡◌, ◌≢◌, ℕ, ◌+◌, ◌≤◌, cond, Bool, true, false, Option, Some, None, IsSome, List, [], ◌∷◌, ◌++◌, length, refl, ap, sym, subst, ◌∙◌, arith, suc, ◌||◌}
use Rattle.std.specs.Option.{option_map}
use Rattle.oref_table.proofs.FirstLaws.{place_in, position-is}
use Rattle.std.specs.List.{AllByRecursion, list_any, position}
use Rattle.std.proofs.lemmas.Bool.{eqb-true, ne_eqb, eq-eqb, true≢false}
use Rattle.obj_kinds.specs.declared.name.ClassName.{ClassName}
use Rattle.obj_kinds.specs.declared.id.Id.{Id}
use Rattle.oref_table.specs.declared.spot.Spot.{Spot}
use Rattle.oref_table.specs.Memory.{first_that}
use Rattle.oref_table.specs.Keys.{Tag, has_number, spot_at, spot_for, spot_in, has_key, keyless, IsKnown, IsIndexed, IsTagOf, KeepsPlaces, IsForgotten, AreSpots, IsFewer, IsPut, IsMore, HasSpare}

-- ---- lists with one item more or less

pub all-insert : {X : Type 0} (P : X → Type 0) (front : List X) (x : X) (back : List X) → AllByRecursion P (front ++ back) → P x → AllByRecursion P (front ++ x ∷ back)
all-insert P [] x back h i = (i, h)
all-insert P (y ∷ front) x back h i = (h.0, all-insert P front x back h.1 i)

pub all-omit : {X : Type 0} (P : X → Type 0) (front : List X) (x : X) (back : List X) → AllByRecursion P (front ++ x ∷ back) → AllByRecursion P (front ++ back)
all-omit P [] x back h = h.1
all-omit P (y ∷ front) x back h = (h.0, all-omit P front x back h.1)

pub all-at : {X : Type 0} (P : X → Type 0) (front : List X) (x : X) (back : List X) → AllByRecursion P (front ++ x ∷ back) → P x
all-at P [] x back h = h.0
all-at P (y ∷ front) x back h = all-at P front x back h.1

pub all-map : {X : Type 0} (P Q : X → Type 0) (xs : List X) → ((x : X) → P x → Q x) → AllByRecursion P xs → AllByRecursion Q xs
all-map P Q [] f h = tt
all-map P Q (x ∷ xs) f h = (f x h.0, all-map P Q xs f h.1)

pub all-both : {X : Type 0} (P Q : X → Type 0) (xs : List X) → AllByRecursion P xs → AllByRecursion Q xs → AllByRecursion (λ x. P x × Q x) xs
all-both P Q [] h i = tt
all-both P Q (x ∷ xs) h i = ((h.0, i.0), all-both P Q xs h.1 i.1)

pub all-found : {X : Type 0} (P : X → Type 0) (p : X → Bool) (xs : List X) (x : X) → AllByRecursion P xs → first_that p xs ≡ Some x → P x × (p x ≡ true)
all-found P p [] x h e = cc
all-found P p (y ∷ xs) x h e = step (p y) refl (λ k. all-found P p xs x h.1 k) e
  where
    step : (b : Bool) → p y ≡ b → (first_that p xs ≡ Some x → P x × (p x ≡ true)) → cond b (Some y) (first_that p xs) ≡ Some x → P x × (p x ≡ true)
    step true is i e = let s : y ≡ x = cc in subst (λ z. P z × (p z ≡ true)) s (h.0, is)
    step false is i e = i e

first-skip : (n : ℕ) (front : List Tag) (t : Tag) (back : List Tag) → has_number n t ≡ false → first_that (has_number n) (front ++ t ∷ back) ≡ first_that (has_number n) (front ++ back)
first-skip n [] t back off = ap (λ b. cond b (Some t) (first_that (has_number n) back)) off
first-skip n (u ∷ front) t back off = ap (cond (has_number n u) (Some u)) (first-skip n front t back off)

first-hit : (n : ℕ) (front : List Tag) (t : Tag) (back : List Tag) → AllByRecursion (λ u. has_number n u ≡ false) front → has_number n t ≡ true → first_that (has_number n) (front ++ t ∷ back) ≡ Some t
first-hit n [] t back h on = ap (λ b. cond b (Some t) (first_that (has_number n) back)) on
first-hit n (u ∷ front) t back h on = ap (λ b. cond b (Some u) (first_that (has_number n) (front ++ t ∷ back))) h.0 ∙ first-hit n front t back h.1 on

all-front : {X : Type 0} (P : X → Type 0) (front back : List X) → AllByRecursion P (front ++ back) → AllByRecursion P front
all-front P [] back h = tt
all-front P (x ∷ front) back h = (h.0, all-front P front back h.1)

pub keyless-insert : (front : List Tag) (t : Tag) (back : List Tag) → keyless (front ++ t ∷ back) ≡ cond (has_key t) 0 1 + keyless (front ++ back)
keyless-insert [] t back = refl
keyless-insert (u ∷ front) t back = let i : keyless (front ++ t ∷ back) ≡ cond (has_key t) 0 1 + keyless (front ++ back) = keyless-insert front t back in omega (arith, i)

length-insert : (front : List Tag) (t : Tag) (back : List Tag) → length (front ++ t ∷ back) ≡ length (front ++ back) + 1
length-insert [] t back = omega arith
length-insert (u ∷ front) t back = let i : length (front ++ t ∷ back) ≡ length (front ++ back) + 1 = length-insert front t back in omega (arith, i)

-- an item of another number than t's
abbrev pub Apart : Tag → Tag → Type 0
Apart t u = has_number t.number u ≡ false

flip-apart : (t u : Tag) → Apart t u → has_number u.number t ≡ false
flip-apart t u h = ne_eqb t.number u.number (λ e. true≢false (sym (eq-eqb u.number t.number (sym e)) ∙ h))

-- ---- a name that is met has a place

any-place : {X : Type 0} (p : X → Bool) (xs : List X) → list_any p xs ≡ true → IsSome (place_in p xs)
any-place p [] e = absurd (let c : false ≡ true = e in cc)
any-place p (x ∷ xs) e = step (p x) refl (λ k. any-place p xs k)
  where
    up : (o : Option ℕ) → IsSome o → IsSome (option_map suc o)
    up None h = cc
    up (Some i) h = refl

    rest : p x ≡ false → list_any p xs ≡ true
    rest off = sym (ap (λ b. b || list_any p xs) off) ∙ e

    step : (b : Bool) → p x ≡ b → (list_any p xs ≡ true → IsSome (place_in p xs)) → IsSome (cond b (Some 0) (option_map suc (place_in p xs)))
    step true is i = refl
    step false is i = up (place_in p xs) (i (rest is))

any-last : {X : Type 0} (p : X → Bool) (xs : List X) (x : X) → p x ≡ true → list_any p (xs ++ x ∷ []) ≡ true
any-last p [] x on = ap (λ b. b || false) on
any-last p (y ∷ xs) x on = step (p y) (any-last p xs x on)
  where
    step : (b : Bool) → list_any p (xs ++ x ∷ []) ≡ true → (b || list_any p (xs ++ x ∷ [])) ≡ true
    step true i = refl
    step false i = i

-- a name that was put among the others has a place
pub met-insert : {X : Type 0} (p : X → Bool) (x : X) (xs now : List X) → p x ≡ true → now ≡ cond (list_any p xs) xs (xs ++ x ∷ []) → IsSome (position p now)
met-insert {X} p x xs now on is = step (list_any p xs) refl is
  where
    some : (ys : List X) → list_any p ys ≡ true → IsSome (position p ys)
    some ys h = subst (λ (o : Option ℕ). IsSome o) (sym (position-is p ys)) (any-place p ys h)

    step : (b : Bool) → list_any p xs ≡ b → now ≡ cond b xs (xs ++ x ∷ []) → IsSome (position p now)
    step true e is = subst (λ ys. IsSome (position p ys)) (sym is) (some xs e)
    step false e is = subst (λ ys. IsSome (position p ys)) (sym is) (some (xs ++ x ∷ []) (any-last p xs x on))

-- ---- which spots are the same

-- an extent has a place of its own
abbrev pub IsPlacing : (ClassName → Option ℕ) → Type 0
IsPlacing place = (e f : ClassName) (x : ℕ) → place e ≡ Some x → place f ≡ Some x → e ≡ f

spot-at-is : (id : Id) (o : Option ℕ) (s : Spot) → spot_at id o ≡ Some s → (o ≡ Some s.extent) × (s.id ≡ id)
spot-at-is id None s e = absurd (let n : None ≡ Some s = e in cc)
spot-at-is id (Some x) s e = let r : Some (record { extent = x; id = id }) ≡ Some s = e in (cc, cc)

pub spot-for-is : (place : ClassName → Option ℕ) (e : Option ClassName) (i : Option Id) (s : Spot) → spot_for place e i ≡ Some s → (x : ClassName) × (e ≡ Some x) × (i ≡ Some s.id) × (place x ≡ Some s.extent)
spot-for-is place None i s h = absurd (let n : None ≡ Some s = h in cc)
spot-for-is place (Some x) None s h = absurd (let n : None ≡ Some s = h in cc)
spot-for-is place (Some x) (Some id) s h = let r = spot-at-is id (place x) s h in (x, refl, ap Some (sym r.1), r.0)

-- two keys at one spot are one
pub same-key : (place : ClassName → Option ℕ) → IsPlacing place → (extent : ClassName) (id : Id) (t : Tag) (s : Spot) → spot_at id (place extent) ≡ Some s → spot_in place t ≡ Some s → IsTagOf extent id t
same-key place one extent id t s h k =
    let a = spot-at-is id (place extent) s h in
    let b = spot-for-is place t.extent t.id s k in
    (b.1 ∙ ap Some (one b.0 extent s.extent b.3 a.0), b.2 ∙ ap Some a.1)

-- ---- a search

-- what is found has the key
pub found-key : (place : ClassName → Option ℕ) → IsPlacing place → (ts : List Tag) (at : Spot → Option ℕ) (long spare : ℕ) → IsIndexed ts place at long spare → (extent : ClassName) (id : Id) (s : Spot) (n : ℕ) → spot_at id (place extent) ≡ Some s → at s ≡ Some n → (t : Tag) × (first_that (has_number n) ts ≡ Some t) × IsTagOf extent id t
found-key place one ts at long spare x extent id s n h k =
    let r = x.right s n k in
    (r.0, r.1, same-key place one extent id r.0 s h r.2)

not-met : (place : ClassName → Option ℕ) (extent : ClassName) (id : Id) (t : Tag) → place extent ≡ None → IsKnown place t.extent → ¬ IsTagOf extent id t
not-met place extent id t none known key = gone (place extent) none (subst (λ (e : Option ClassName). IsKnown place e) key.0 known)
  where
    gone : (o : Option ℕ) → o ≡ None → IsSome o → ⊥
    gone None e h = let c : false ≡ true = h in absurd (true≢false (sym c))
    gone (Some x) e h = absurd (let c : Some x ≡ None = e in cc)

-- where the extent has no place, no object has the key
pub no-place : (place : ClassName → Option ℕ) (ts : List Tag) (at : Spot → Option ℕ) (long spare : ℕ) → IsIndexed ts place at long spare → (extent : ClassName) (id : Id) → place extent ≡ None → AllByRecursion (λ t. ¬ IsTagOf extent id t) ts
no-place place ts at long spare x extent id none = all-map (λ t. IsKnown place t.extent) (λ t. ¬ IsTagOf extent id t) ts (λ t known. not-met place extent id t none known) x.known

spot-of-key : (place : ClassName → Option ℕ) (extent : ClassName) (id : Id) (t : Tag) (s : Spot) → spot_at id (place extent) ≡ Some s → IsTagOf extent id t → spot_in place t ≡ Some s
spot-of-key place extent id t s h key = ap (λ (e : Option ClassName). spot_for place e t.id) key.0 ∙ ap (spot_for place (Some extent)) key.1 ∙ h

-- where nothing stands at the spot, no object has the key
pub no-number : (place : ClassName → Option ℕ) (ts : List Tag) (at : Spot → Option ℕ) (long spare : ℕ) → IsIndexed ts place at long spare → (extent : ClassName) (id : Id) (s : Spot) → spot_at id (place extent) ≡ Some s → at s ≡ None → AllByRecursion (λ t. ¬ IsTagOf extent id t) ts
no-number place ts at long spare x extent id s h none =
    all-map (λ t. (q : Spot) → spot_in place t ≡ Some q → at q ≡ Some t.number) (λ t. ¬ IsTagOf extent id t) ts
    (λ t there key. clash (at s) t.number none (there s (spot-of-key place extent id t s h key))) x.found
  where
    clash : (o : Option ℕ) (n : ℕ) → o ≡ None → o ≡ Some n → ⊥
    clash o n e f = let g : None ≡ Some n = sym e ∙ f in cc

-- ---- more places, more room, another order

known-wider : (place wider : ClassName → Option ℕ) → KeepsPlaces place wider → (e : Option ClassName) → IsKnown place e → IsKnown wider e
known-wider place wider keeps None h = h
known-wider place wider keeps (Some e) h = step (place e) refl h
  where
    step : (o : Option ℕ) → place e ≡ o → IsSome o → IsSome (wider e)
    step None is h = cc
    step (Some x) is h = subst (λ (o : Option ℕ). IsSome o) (sym (keeps e x is)) refl

spot-wider : (place wider : ClassName → Option ℕ) → KeepsPlaces place wider → (t : Tag) → IsKnown place t.extent → spot_in wider t ≡ spot_in place t
spot-wider place wider keeps t h = by t.extent t.id h
  where
    same : (e : ClassName) (o : Option ℕ) → place e ≡ o → IsSome o → wider e ≡ place e
    same e None is h = cc
    same e (Some x) is h = keeps e x is ∙ sym is

    by : (e : Option ClassName) (i : Option Id) → IsKnown place e → spot_for wider e i ≡ spot_for place e i
    by None i h = refl
    by (Some e) None h = refl
    by (Some e) (Some id) h = ap (spot_at id) (same e (place e) refl h)

pub indexed-wider : (ts : List Tag) (place wider : ClassName → Option ℕ) (at now : Spot → Option ℕ) (long spare more : ℕ) → KeepsPlaces place wider → ((s : Spot) → now s ≡ at s) → spare ≤ more → IsIndexed ts place at long spare → IsIndexed ts wider now long more
indexed-wider ts place wider at now long spare more keeps same room x = record {
  found = all-map (λ t. ((s : Spot) → spot_in place t ≡ Some s → at s ≡ Some t.number) × IsKnown place t.extent) (λ t. (s : Spot) → spot_in wider t ≡ Some s → now s ≡ Some t.number) ts
      (λ t h s k. same s ∙ h.0 s (sym (spot-wider place wider keeps t h.1) ∙ k))
      (all-both (λ t. (s : Spot) → spot_in place t ≡ Some s → at s ≡ Some t.number) (λ t. IsKnown place t.extent) ts x.found x.known);
  right = λ s n k. right s n (x.right s n (sym (same s) ∙ k));
  known = all-map (λ t. IsKnown place t.extent) (λ t. IsKnown wider t.extent) ts (λ t h. known-wider place wider keeps t.extent h) x.known;
  few = x.few;
  room = omega (arith, x.room, room);
}
  where
    right : (s : Spot) (n : ℕ) → (t : Tag) × (first_that (has_number n) ts ≡ Some t) × (spot_in place t ≡ Some s) → (t : Tag) × (first_that (has_number n) ts ≡ Some t) × (spot_in wider t ≡ Some s)
    right s n r = (r.0, r.1, spot-wider place wider keeps r.0 (all-found (λ t. IsKnown place t.extent) (has_number n) ts r.0 x.known r.1).0 ∙ r.2)

-- ---- one that goes

key-has-spot : (place : ClassName → Option ℕ) (t : Tag) → IsKnown place t.extent → spot_in place t ≡ None → has_key t ≡ false
key-has-spot place t h e = by t.extent t.id h e
  where
    spot : (id : Id) (o : Option ℕ) → IsSome o → spot_at id o ≡ None → ⊥
    spot id None h e = let c : false ≡ true = h in absurd (true≢false (sym c))
    spot id (Some x) h e = absurd (let r : Some (record { extent = x; id = id }) ≡ None = e in cc)

    by : (e : Option ClassName) (i : Option Id) → IsKnown place e → spot_for place e i ≡ None → has_key (record { number = 0; extent = e; id = i }) ≡ false
    by None i h e = refl
    by (Some x) None h e = refl
    by (Some x) (Some id) h e = absurd (spot id (place x) h e)

spot-has-key : (place : ClassName → Option ℕ) (t : Tag) (s : Spot) → spot_in place t ≡ Some s → has_key t ≡ true
spot-has-key place t s e = let r = spot-for-is place t.extent t.id s e in by t.extent t.id r.0 s.id r.1 r.2
  where
    by : (e : Option ClassName) (i : Option Id) (x : ClassName) (id : Id) → e ≡ Some x → i ≡ Some id → has_key (record { number = 0; extent = e; id = i }) ≡ true
    by None i x id h k = cc
    by (Some y) None x id h k = cc
    by (Some y) (Some j) x id h k = refl

pub indexed-take : (same : Spot → Spot → Bool) → AreSpots same → (place : ClassName → Option ℕ) (front : List Tag) (t : Tag) (back : List Tag) (at now : Spot → Option ℕ) (long fewer spare more : ℕ) → AllByRecursion (Apart t) (front ++ back) → IsForgotten same (spot_in place t) at now → IsFewer (spot_in place t) long fewer → spare ≤ more → IsIndexed (front ++ t ∷ back) place at long spare → IsIndexed (front ++ back) place now fewer more
indexed-take same spots place front t back at now long fewer spare more apart forgot less wide x = by (spot_in place t) refl forgot less
  where
    tags-of : List Tag
    tags-of = front ++ back

    known : AllByRecursion (λ u. IsKnown place u.extent) (front ++ back)
    known = all-omit (λ u. IsKnown place u.extent) front t back x.known

    there : AllByRecursion (λ u. ((s : Spot) → spot_in place u ≡ Some s → at s ≡ Some u.number) × Apart t u) (front ++ back)
    there = all-both (λ u. (s : Spot) → spot_in place u ≡ Some s → at s ≡ Some u.number) (Apart t) (front ++ back) (all-omit (λ u. (s : Spot) → spot_in place u ≡ Some s → at s ≡ Some u.number) front t back x.found) apart

    stays : (s : Spot) (n : ℕ) → spot_in place t ≢ Some s → at s ≡ Some n → (u : Tag) × (first_that (has_number n) (front ++ back) ≡ Some u) × (spot_in place u ≡ Some s)
    stays s n off k = step (has_number n t) refl (x.right s n k)
      where
        step : (b : Bool) → has_number n t ≡ b → (u : Tag) × (first_that (has_number n) (front ++ t ∷ back) ≡ Some u) × (spot_in place u ≡ Some s) → (u : Tag) × (first_that (has_number n) (front ++ back) ≡ Some u) × (spot_in place u ≡ Some s)
        step false is r = (r.0, sym (first-skip n front t back is) ∙ r.1, r.2)
        step true is r =
            let e : t.number ≡ n = eqb-true t.number n is in
            let hit : first_that (has_number n) (front ++ t ∷ back) ≡ Some t = first-hit n front t back (subst (λ (m : ℕ). AllByRecursion (λ u. has_number m u ≡ false) front) e (all-front (Apart t) front back apart)) is in
            let same_tag : r.0 ≡ t = cc in
            absurd (off (ap (spot_in place) (sym same_tag) ∙ r.2))

    by : (o : Option Spot) → spot_in place t ≡ o → IsForgotten same o at now → IsFewer o long fewer → IsIndexed (front ++ back) place now fewer more
    by None is gone count = record {
      found = all-map (λ u. ((s : Spot) → spot_in place u ≡ Some s → at s ≡ Some u.number) × Apart t u) (λ u. (s : Spot) → spot_in place u ≡ Some s → now s ≡ Some u.number) (front ++ back) (λ u h s k. gone s ∙ h.0 s k) there;
      right = λ s n k. stays s n (λ e. let c : None ≡ Some s = sym is ∙ e in cc) (sym (gone s) ∙ k);
      known = known;
      few = omega (arith, x.few, count, keyless-insert front t back, length-insert front t back, ap {B = ℕ} (λ b. cond b 0 1) (key-has-spot place t (all-at (λ u. IsKnown place u.extent) front t back x.known) is));
      room = omega (arith, x.room, wide, keyless-insert front t back);
    }
    by (Some s) is gone count = record {
      found = all-map (λ u. ((q : Spot) → spot_in place u ≡ Some q → at q ≡ Some u.number) × Apart t u) (λ u. (q : Spot) → spot_in place u ≡ Some q → now q ≡ Some u.number) (front ++ back) (λ u h q k. keep u h q k) there;
      right = λ q n k. right q n k;
      known = known;
      few = omega (arith, x.few, count, keyless-insert front t back, length-insert front t back, ap {B = ℕ} (λ b. cond b 0 1) (spot-has-key place t s is));
      room = omega (arith, x.room, wide, keyless-insert front t back);
    }
      where
        at-spot : at s ≡ Some t.number
        at-spot = all-at (λ u. (q : Spot) → spot_in place u ≡ Some q → at q ≡ Some u.number) front t back x.found s is

        keep : (u : Tag) → ((q : Spot) → spot_in place u ≡ Some q → at q ≡ Some u.number) × Apart t u → (q : Spot) → spot_in place u ≡ Some q → now q ≡ Some u.number
        keep u h q k = step (same s q) refl
          where
            step : (b : Bool) → same s q ≡ b → now q ≡ Some u.number
            step false off = gone q ∙ ap (λ b. cond b None (at q)) off ∙ h.0 q k
            step true on =
                let e : s ≡ q = (spots s q).0 on in
                let n : Some t.number ≡ Some u.number = sym at-spot ∙ ap at e ∙ h.0 q k in
                let m : u.number ≡ t.number = cc in
                absurd (true≢false (sym (eq-eqb u.number t.number m) ∙ h.1))

        right : (q : Spot) (n : ℕ) → now q ≡ Some n → (u : Tag) × (first_that (has_number n) (front ++ back) ≡ Some u) × (spot_in place u ≡ Some q)
        right q n k = step (same s q) refl
          where
            step : (b : Bool) → same s q ≡ b → (u : Tag) × (first_that (has_number n) (front ++ back) ≡ Some u) × (spot_in place u ≡ Some q)
            step false off = stays q n (λ e. let c : Some s ≡ Some q = sym is ∙ e in let d : s ≡ q = cc in true≢false (sym ((spots s q).1 d) ∙ off)) (sym (gone q ∙ ap (λ b. cond b None (at q)) off) ∙ k)
            step true on = absurd (let c : None ≡ Some n = sym (gone q ∙ ap (λ b. cond b None (at q)) on) ∙ k in cc)

-- ---- one that comes

-- no tag of the list stands at the spot
abbrev pub IsVacant : (ClassName → Option ℕ) → Option Spot → Tag → Type 0
IsVacant place o u = (s : Spot) → o ≡ Some s → spot_in place u ≢ Some s

pub indexed-put : (same : Spot → Spot → Bool) → AreSpots same → (place : ClassName → Option ℕ) (front : List Tag) (t : Tag) (back : List Tag) (at now : Spot → Option ℕ) (long longer spare left : ℕ) → AllByRecursion (Apart t) (front ++ back) → AllByRecursion (IsVacant place (spot_in place t)) (front ++ back) → IsKnown place t.extent → IsPut same (spot_in place t) t.number at now → IsMore (spot_in place t) long longer → HasSpare (spot_in place t) spare left → keyless (front ++ back) + 1 ≤ spare → IsIndexed (front ++ back) place at long spare → IsIndexed (front ++ t ∷ back) place now longer left
indexed-put same spots place front t back at now long longer spare left apart vacant met put more has wide x = by (spot_in place t) refl vacant put more has
  where
    known : AllByRecursion (λ u. IsKnown place u.extent) (front ++ t ∷ back)
    known = all-insert (λ u. IsKnown place u.extent) front t back x.known met

    hit : first_that (has_number t.number) (front ++ t ∷ back) ≡ Some t
    hit = first-hit t.number front t back (all-front (Apart t) front back apart) (eq-eqb t.number t.number refl)

    stays : (s : Spot) (n : ℕ) → at s ≡ Some n → (u : Tag) × (first_that (has_number n) (front ++ t ∷ back) ≡ Some u) × (spot_in place u ≡ Some s)
    stays s n k =
        let r = x.right s n k in
        let w = all-found (Apart t) (has_number n) (front ++ back) r.0 apart r.1 in
        let e : r.0.number ≡ n = eqb-true r.0.number n w.1 in
        (r.0, first-skip n front t back (subst (λ (m : ℕ). has_number m t ≡ false) e (flip-apart t r.0 w.0)) ∙ r.1, r.2)

    by : (o : Option Spot) → spot_in place t ≡ o → AllByRecursion (IsVacant place o) (front ++ back) → IsPut same o t.number at now → IsMore o long longer → HasSpare o spare left → IsIndexed (front ++ t ∷ back) place now longer left
    by None is vacant gone count has = record {
      found = all-insert (λ u. (s : Spot) → spot_in place u ≡ Some s → now s ≡ Some u.number) front t back
          (all-map (λ u. (s : Spot) → spot_in place u ≡ Some s → at s ≡ Some u.number) (λ u. (s : Spot) → spot_in place u ≡ Some s → now s ≡ Some u.number) (front ++ back) (λ u h s k. gone s ∙ h s k) x.found)
          (λ s k. absurd (let c : None ≡ Some s = sym is ∙ k in cc));
      right = λ s n k. stays s n (sym (gone s) ∙ k);
      known = known;
      few = omega (arith, x.few, count, keyless-insert front t back, length-insert front t back, ap {B = ℕ} (λ b. cond b 0 1) (key-has-spot place t met is));
      room = omega (arith, wide, has, keyless-insert front t back, ap {B = ℕ} (λ b. cond b 0 1) (key-has-spot place t met is));
    }
    by (Some s) is vacant gone count has = record {
      found = all-insert (λ u. (q : Spot) → spot_in place u ≡ Some q → now q ≡ Some u.number) front t back
          (all-map (λ u. ((q : Spot) → spot_in place u ≡ Some q → at q ≡ Some u.number) × IsVacant place (Some s) u) (λ u. (q : Spot) → spot_in place u ≡ Some q → now q ≡ Some u.number) (front ++ back) keep
          (all-both (λ u. (q : Spot) → spot_in place u ≡ Some q → at q ≡ Some u.number) (IsVacant place (Some s)) (front ++ back) x.found vacant))
          (λ q k. let e : Some s ≡ Some q = sym is ∙ k in let d : s ≡ q = cc in gone q ∙ ap (λ b. cond b (Some t.number) (at q)) ((spots s q).1 d));
      right = λ q n k. right q n k;
      known = known;
      few = omega (arith, x.few, count, keyless-insert front t back, length-insert front t back, ap {B = ℕ} (λ b. cond b 0 1) (spot-has-key place t s is));
      room = omega (arith, wide, has, keyless-insert front t back, ap {B = ℕ} (λ b. cond b 0 1) (spot-has-key place t s is));
    }
      where
        keep : (u : Tag) → ((q : Spot) → spot_in place u ≡ Some q → at q ≡ Some u.number) × IsVacant place (Some s) u → (q : Spot) → spot_in place u ≡ Some q → now q ≡ Some u.number
        keep u h q k = step (same s q) refl
          where
            step : (b : Bool) → same s q ≡ b → now q ≡ Some u.number
            step false off = gone q ∙ ap (λ b. cond b (Some t.number) (at q)) off ∙ h.0 q k
            step true on = absurd (h.1 s refl (k ∙ ap Some (sym ((spots s q).0 on))))

        right : (q : Spot) (n : ℕ) → now q ≡ Some n → (u : Tag) × (first_that (has_number n) (front ++ t ∷ back) ≡ Some u) × (spot_in place u ≡ Some q)
        right q n k = step (same s q) refl
          where
            step : (b : Bool) → same s q ≡ b → (u : Tag) × (first_that (has_number n) (front ++ t ∷ back) ≡ Some u) × (spot_in place u ≡ Some q)
            step false off = stays q n (sym (gone q ∙ ap (λ b. cond b (Some t.number) (at q)) off) ∙ k)
            step true on =
                let c : Some t.number ≡ Some n = sym (gone q ∙ ap (λ b. cond b (Some t.number) (at q)) on) ∙ k in
                let m : t.number ≡ n = cc in
                (t, subst (λ (m : ℕ). first_that (has_number m) (front ++ t ∷ back) ≡ Some t) m hit, is ∙ ap Some ((spots s q).0 on))
