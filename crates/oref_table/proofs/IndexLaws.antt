-- The table of keys of a list of objects, when one comes, goes, or is given an id.
use Rattle.std.proofs.Common.{◌≡◌, ℕ, ◌+◌, ◌<◌, ◌≤◌, cond, Bool, true, false, Option, Some, None, List, [], ◌∷◌, ◌++◌, map, length, refl, ap, sym, subst, ◌∙◌, arith, append-nil, get_or, suc, Result, Ok, Err, OnOk, IfOk, IfErr, IfSome, IfNone}
use Rattle.std.specs.List.{AllByRecursion}
use Rattle.std.specs.List.Sorted.{IsStrictlySortedBy}
use Rattle.std.specs.Map.{keys_of}
use Rattle.std.specs.Ordering.{nat_cmp}
use Rattle.std.specs.declared.cmp.Ordering.TheVariants.{Less}
use Rattle.std.proofs.lemmas.Bool.{ne_eqb, eqb-true}
use Rattle.std.proofs.lemmas.List.{map-append}
use Rattle.std.proofs.lemmas.List.Quantifiers.{position-Some}
use Rattle.obj_kinds.specs.declared.name.ClassName.{ClassName}
use Rattle.obj_kinds.specs.declared.id.Id.{Id}
use Rattle.obj_kinds.specs.Texts.{same_text}
use Rattle.obj_kinds.proofs.TextLaws.{same_text-is}
use Rattle.oref_table.specs.declared.spot.Spot.{Spot}
use Rattle.oref_table.specs.declared.obj.Obj.{Obj}
use Rattle.oref_table.specs.declared.obj.Entry.{Entry}
use Rattle.oref_table.specs.Memory.{first_that, without_first, at_first}
use Rattle.oref_table.specs.Entries.{is_entry, lowered, with_entry_id, IsEntryKey}
use Rattle.std.specs.Option.{option_map}
use Rattle.oref_table.specs.declared.slot.Slot.{Slot}
use Rattle.oref_table.specs.declared.fill.Fill.{Fill}
use Rattle.oref_table.specs.declared.fill.Place.{Place}
use Rattle.oref_table.specs.Refs.{refs_of}
use Rattle.oref_table.specs.Exchanges.{FillsRow, InsertsRow}
use Rattle.oref_table.specs.Entries.{with_entry_slots}
use Rattle.oref_table.specs.Rows.{entries_in, IsRowEdit}
use Rattle.oref_table.proofs.FirstLaws.{first-map}
use Rattle.oref_table.specs.Keys.{Tag, tag_of, tags, has_number, place_of, spot_at, spot_for, spot_in, has_key, keyless, same_spot, numbers_in, found_at, IsKnown, IsIndexed, IsTagOf, KeepsPlaces, IsForgotten, IsFewer, IsPut, IsMore, HasSpare}
use Rattle.oref_table.specs.SpotLaws.{spots-are}
use Rattle.oref_table.proofs.RowLaws.{less-below}
use Rattle.oref_table.proofs.KeyIndex.{Apart, IsVacant, IsPlacing, all-found, all-omit, all-map, all-at, keyless-insert, spot-for-is, same-key, found-key, no-place, no-number, indexed-wider, indexed-take, indexed-put}

-- each name has a place of its own
pub placing : (names : List (List ℕ)) → IsPlacing (place_of names)
placing names e f x h k =
    let a = position-Some (same_text e.0) names x [] h in
    let b = position-Some (same_text f.0) names x [] k in
    let s : e.0 ≡ get_or names x [] = same_text-is e.0 (get_or names x []) a.1 in
    let t : f.0 ≡ get_or names x [] = same_text-is f.0 (get_or names x []) b.1 in
    ap (λ (n : List ℕ). record { 0 = n }) (s ∙ sym t)

pub tags-at_first : (p : Entry → Bool) (f : Entry → Entry) → ((e : Entry) → tag_of (f e) ≡ tag_of e) → (es : List Entry) → tags (at_first p f es) ≡ tags es
tags-at_first p f same [] = refl
tags-at_first p f same (e ∷ es) = step (p e) (tags-at_first p f same es)
  where
    step : (b : Bool) → tags (at_first p f es) ≡ tags es → tags (cond b (f e ∷ es) (e ∷ at_first p f es)) ≡ tags (e ∷ es)
    step true i = ap (λ t. t ∷ tags es) (same e)
    step false i = ap (λ ts. tag_of e ∷ ts) i

pub tags-lowered : (ms : List ℕ) (es : List Entry) → tags (lowered ms es) ≡ tags es
tags-lowered ms [] = refl
tags-lowered ms (e ∷ es) = ap (λ ts. tag_of e ∷ ts) (tags-lowered ms es)

-- a list around the first item that passes
pub record IsAround {X : Type 0} (xs : List X) (x : X) (less : List X) (f : X → X) (edited : List X) : Type 0 where
  pub front : List X
  pub back : List X
  pub whole : xs ≡ front ++ x ∷ back
  pub without : less ≡ front ++ back
  pub with : edited ≡ front ++ f x ∷ back

pub around : {X : Type 0} (p : X → Bool) (f : X → X) (xs : List X) (x : X) → first_that p xs ≡ Some x → IsAround xs x (without_first p xs) f (at_first p f xs)
around p f [] x e = cc
around {X} p f (y ∷ xs) x e = step (p y) (λ k. around p f xs x k) e
  where
    step : (b : Bool) → (first_that p xs ≡ Some x → IsAround xs x (without_first p xs) f (at_first p f xs)) → cond b (Some y) (first_that p xs) ≡ Some x → IsAround (y ∷ xs) x (cond b xs (y ∷ without_first p xs)) f (cond b (f y ∷ xs) (y ∷ at_first p f xs))
    step true i e = let s : y ≡ x = cc in record { front = []; back = xs; whole = ap (λ z. z ∷ xs) s; without = refl; with = ap (λ z. f z ∷ xs) s }
    step false i e = let a = i e in record { front = y ∷ a.front; back = a.back; whole = ap (λ zs. y ∷ zs) a.whole; without = ap (λ zs. y ∷ zs) a.without; with = ap (λ zs. y ∷ zs) a.with }

-- ---- numbers apart

abbrev pub numbers_of : List Entry → List ℕ
numbers_of es = map (λ (e : Entry). e.number) es

pub keys-numbers : (rows : List (ℕ × Obj)) → keys_of rows ≡ numbers_of (entries_in rows)
keys-numbers [] = refl
keys-numbers (p ∷ ps) = ap (λ ks. p.0 ∷ ks) (keys-numbers ps)

apart-below : (t : Tag) (u : Tag) → u.number < t.number → Apart t u
apart-below t u h = ne_eqb u.number t.number (λ (e : u.number ≡ t.number). omega (arith, h, e))

apart-above : (t : Tag) (u : Tag) → t.number < u.number → Apart t u
apart-above t u h = ne_eqb u.number t.number (λ (e : u.number ≡ t.number). omega (arith, h, e))

all-above : (e : Entry) (es : List Entry) → AllByRecursion (λ y. nat_cmp e.number y ≡ Less) (numbers_of es) → AllByRecursion (Apart (tag_of e)) (tags es)
all-above e [] h = tt
all-above e (x ∷ es) h = (apart-above (tag_of e) (tag_of x) (less-below e.number x.number h.0), all-above e es h.1)

reached : (x : Entry) (front : List Entry) (e : Entry) (back : List Entry) → AllByRecursion (λ y. nat_cmp x.number y ≡ Less) (numbers_of (front ++ e ∷ back)) → x.number < e.number
reached x [] e back h = less-below x.number e.number h.0
reached x (y ∷ front) e back h = reached x front e back h.1

apart-all : (front : List Entry) (e : Entry) (back : List Entry) → IsStrictlySortedBy nat_cmp (numbers_of (front ++ e ∷ back)) → AllByRecursion (Apart (tag_of e)) (tags (front ++ back))
unfolding IsStrictlySortedBy
apart-all [] e back r = all-above e back r.0
apart-all (x ∷ front) e back r = (apart-below (tag_of e) (tag_of x) (reached x front e back r.0), apart-all front e back r.1)

apart-last : (e : Entry) (es : List Entry) → AllByRecursion (λ (x : Entry). x.number < e.number) es → AllByRecursion (Apart (tag_of e)) (tags es)
apart-last e [] h = tt
apart-last e (x ∷ es) h = (apart-below (tag_of e) (tag_of x) h.0, apart-last e es h.1)

-- ---- no other object at the spot

free-tags : (x : ClassName) (i : Id) (es : List Entry) → AllByRecursion (λ (e : Entry). ¬ IsEntryKey x i e) es → AllByRecursion (λ t. ¬ IsTagOf x i t) (tags es)
free-tags x i [] h = tt
free-tags x i (e ∷ es) h = (h.0, free-tags x i es h.1)

pub entries-free : (x : ClassName) (i : Id) (es : List Entry) → AllByRecursion (λ t. ¬ IsTagOf x i t) (tags es) → AllByRecursion (λ (e : Entry). ¬ IsEntryKey x i e) es
entries-free x i [] h = tt
entries-free x i (e ∷ es) h = (h.0, entries-free x i es h.1)

vacant-by : (place : ClassName → Option ℕ) → IsPlacing place → (extent : Option ClassName) (id : Option Id) (ts : List Tag) → ((x : ClassName) (i : Id) → extent ≡ Some x → id ≡ Some i → AllByRecursion (λ t. ¬ IsTagOf x i t) ts) → AllByRecursion (IsVacant place (spot_for place extent id)) ts
vacant-by place one extent id ts free = by (spot_for place extent id) refl
  where
    none : (ts : List Tag) → AllByRecursion (IsVacant place None) ts
    none [] = tt
    none (t ∷ ts) = ((λ s e. absurd (let c : None ≡ Some s = e in cc)), none ts)

    by : (o : Option Spot) → spot_for place extent id ≡ o → AllByRecursion (IsVacant place o) ts
    by None is = none ts
    by (Some s) is =
        let r = spot-for-is place extent id s is in
        all-map (λ t. ¬ IsTagOf r.0 s.id t) (IsVacant place (Some s)) ts
        (λ t off q e k. let d : s ≡ q = cc in off (same-key place one r.0 s.id t s (ap (spot_at s.id) r.3) (k ∙ ap Some (sym d))))
        (free r.0 s.id r.1 r.2)

no-key : (e : Entry) → e.obj.id ≡ None → has_key (tag_of e) ≡ false
no-key e none = ap (λ (i : Option Id). has_key (record { number = e.number; extent = e.obj.extent; id = i })) none ∙ by e.obj.extent
  where
    by : (x : Option ClassName) → has_key (record { number = e.number; extent = x; id = None }) ≡ false
    by None = refl
    by (Some x) = refl

all-ones : (es : List Entry) → AllByRecursion (λ (y : Entry). ℕ) es
all-ones [] = tt
all-ones (e ∷ es) = (e.number, all-ones es)

-- ---- the three changes

pub added : (es : List Entry) (e : Entry) (names : List (List ℕ)) (ks now : List (Spot × ℕ)) (spare left : ℕ) → AllByRecursion (λ (x : Entry). x.number < e.number) es → ((x : ClassName) (i : Id) → e.obj.extent ≡ Some x → e.obj.id ≡ Some i → AllByRecursion (λ o. ¬ IsEntryKey x i o) es) → IsKnown (place_of names) e.obj.extent → IsPut same_spot (spot_in (place_of names) (tag_of e)) e.number (numbers_in ks) (numbers_in now) → IsMore (spot_in (place_of names) (tag_of e)) (length ks) (length now) → HasSpare (spot_in (place_of names) (tag_of e)) spare left → keyless (tags es) + 1 ≤ spare → IsIndexed (tags es) (place_of names) (numbers_in ks) (length ks) spare → IsIndexed (tags (es ++ e ∷ [])) (place_of names) (numbers_in now) (length now) left
added es e names ks now spare left above free met put more has wide x =
    let n : tags es ++ [] ≡ tags es = append-nil (tags es) in
    subst (λ (ts : List Tag). IsIndexed ts (place_of names) (numbers_in now) (length now) left) (sym (map-append tag_of es (e ∷ [])))
    (indexed-put same_spot spots-are (place_of names) (tags es) (tag_of e) [] (numbers_in ks) (numbers_in now) (length ks) (length now) spare left
    (subst (λ (ts : List Tag). AllByRecursion (Apart (tag_of e)) ts) (sym n) (apart-last e es above))
    (subst (λ (ts : List Tag). AllByRecursion (IsVacant (place_of names) (spot_in (place_of names) (tag_of e))) ts) (sym n) (vacant-by (place_of names) (placing names) e.obj.extent e.obj.id (tags es) (λ x i a b. free-tags x i es (free x i a b))))
    met put more has
    (subst (λ (ts : List Tag). keyless ts + 1 ≤ spare) (sym n) wide)
    (subst (λ (ts : List Tag). IsIndexed ts (place_of names) (numbers_in ks) (length ks) spare) (sym n) x))

pub taken : (p : Entry → Bool) (es : List Entry) (e : Entry) (names : List (List ℕ)) (ks now : List (Spot × ℕ)) (spare more : ℕ) → IsStrictlySortedBy nat_cmp (numbers_of es) → first_that p es ≡ Some e → IsForgotten same_spot (spot_in (place_of names) (tag_of e)) (numbers_in ks) (numbers_in now) → (spot_in (place_of names) (tag_of e) ≡ None → length now ≡ length ks) → ((n : ℕ) → found_at (spot_in (place_of names) (tag_of e)) (numbers_in ks) ≡ Some n → length now + 1 ≡ length ks) → spare ≤ more → IsIndexed (tags es) (place_of names) (numbers_in ks) (length ks) spare → IsIndexed (tags (without_first p es)) (place_of names) (numbers_in now) (length now) more
taken p es e names ks now spare more rising hit forgot none some wide x =
    let a : IsAround es e (without_first p es) (λ y. y) (at_first p (λ y. y) es) = around p (λ y. y) es e hit in
    let w : IsIndexed (tags a.front ++ tag_of e ∷ tags a.back) (place_of names) (numbers_in ks) (length ks) spare = subst (λ (ts : List Tag). IsIndexed ts (place_of names) (numbers_in ks) (length ks) spare) (ap tags a.whole ∙ map-append tag_of a.front (e ∷ a.back)) x in
    subst (λ (ts : List Tag). IsIndexed ts (place_of names) (numbers_in now) (length now) more) (sym (ap tags a.without ∙ map-append tag_of a.front a.back))
    (indexed-take same_spot spots-are (place_of names) (tags a.front) (tag_of e) (tags a.back) (numbers_in ks) (numbers_in now) (length ks) (length now) spare more
    (subst (λ (ts : List Tag). AllByRecursion (Apart (tag_of e)) ts) (map-append tag_of a.front a.back) (apart-all a.front e a.back (subst (λ (xs : List Entry). IsStrictlySortedBy nat_cmp (numbers_of xs)) a.whole rising)))
    forgot (fewer (tags a.front) (tags a.back) w) wide w)
  where
    there : (front back : List Tag) → AllByRecursion (λ t. (s : Spot) → spot_in (place_of names) t ≡ Some s → numbers_in ks s ≡ Some t.number) (front ++ tag_of e ∷ back) → (s : Spot) → spot_in (place_of names) (tag_of e) ≡ Some s → numbers_in ks s ≡ Some e.number
    there [] back h = h.0
    there (t ∷ front) back h = there front back h.1

    fewer : (front back : List Tag) → IsIndexed (front ++ tag_of e ∷ back) (place_of names) (numbers_in ks) (length ks) spare → IsFewer (spot_in (place_of names) (tag_of e)) (length ks) (length now)
    fewer front back w = by (spot_in (place_of names) (tag_of e)) refl none some
      where
        by : (o : Option Spot) → spot_in (place_of names) (tag_of e) ≡ o → (o ≡ None → length now ≡ length ks) → ((n : ℕ) → found_at o (numbers_in ks) ≡ Some n → length now + 1 ≡ length ks) → IsFewer o (length ks) (length now)
        by None is f g = f refl
        by (Some s) is f g = g e.number (there front back w.found s is)

pub given : (n : ℕ) (id : Id) (es : List Entry) (e : Entry) (x : ClassName) (names : List (List ℕ)) (ks now : List (Spot × ℕ)) (spare left : ℕ) → IsStrictlySortedBy nat_cmp (numbers_of es) → first_that (is_entry n) es ≡ Some e → e.obj.extent ≡ Some x → e.obj.id ≡ None → AllByRecursion (λ o. ¬ IsEntryKey x id o) es → IsPut same_spot (spot_for (place_of names) (Some x) (Some id)) n (numbers_in ks) (numbers_in now) → IsMore (spot_for (place_of names) (Some x) (Some id)) (length ks) (length now) → HasSpare (spot_for (place_of names) (Some x) (Some id)) spare left → IsIndexed (tags es) (place_of names) (numbers_in ks) (length ks) spare → IsIndexed (tags (at_first (is_entry n) (with_entry_id id) es)) (place_of names) (numbers_in now) (length now) left
given n id es e x names ks now spare left rising hit extent none free put more has w =
    let a : IsAround es e (without_first (is_entry n) es) (with_entry_id id) (at_first (is_entry n) (with_entry_id id) es) = around (is_entry n) (with_entry_id id) es e hit in
    let place : ClassName → Option ℕ = place_of names in
    let split : tags es ≡ tags a.front ++ tag_of e ∷ tags a.back = ap tags a.whole ∙ map-append tag_of a.front (e ∷ a.back) in
    let there : IsIndexed (tags a.front ++ tag_of e ∷ tags a.back) place (numbers_in ks) (length ks) spare = subst (λ (ts : List Tag). IsIndexed ts place (numbers_in ks) (length ks) spare) split w in
    let apart : AllByRecursion (Apart (tag_of e)) (tags a.front ++ tags a.back) = subst (λ (ts : List Tag). AllByRecursion (Apart (tag_of e)) ts) (map-append tag_of a.front a.back) (apart-all a.front e a.back (subst (λ (xs : List Entry). IsStrictlySortedBy nat_cmp (numbers_of xs)) a.whole rising)) in
    let off : spot_in place (tag_of e) ≡ None = ap (λ (i : Option Id). spot_for place e.obj.extent i) none ∙ ap (λ (y : Option ClassName). spot_for place y None) extent in
    let same : spot_for place (Some x) (Some id) ≡ spot_for place e.obj.extent (Some id) = ap (λ (y : Option ClassName). spot_for place y (Some id)) (sym extent) in
    let m : e.number ≡ n = eqb-true e.number n (all-found (λ (y : Entry). ℕ) (is_entry n) es e (all-ones es) hit).1 in
    let left_out : IsIndexed (tags a.front ++ tags a.back) place (numbers_in ks) (length ks) spare =
    indexed-take same_spot spots-are place (tags a.front) (tag_of e) (tags a.back) (numbers_in ks) (numbers_in ks) (length ks) (length ks) spare spare apart
    (subst (λ (o : Option Spot). IsForgotten same_spot o (numbers_in ks) (numbers_in ks)) (sym off) (λ q. refl)) (subst (λ (o : Option Spot). IsFewer o (length ks) (length ks)) (sym off) refl) (omega arith) there in
    subst (λ (ts : List Tag). IsIndexed ts place (numbers_in now) (length now) left) (sym (ap tags a.with ∙ map-append tag_of a.front (with_entry_id id e ∷ a.back)))
    (indexed-put same_spot spots-are place (tags a.front) (tag_of (with_entry_id id e)) (tags a.back) (numbers_in ks) (numbers_in now) (length ks) (length now) spare left
    apart
    (vacant-by place (placing names) e.obj.extent (Some id) (tags a.front ++ tags a.back) (λ y i h k. frees (tags a.front) (tags a.back) split y i h k))
    (all-at (λ t. IsKnown place t.extent) (tags a.front) (tag_of e) (tags a.back) there.known)
    (subst (λ (o : Option Spot). IsPut same_spot o e.number (numbers_in ks) (numbers_in now)) same (subst (λ k. IsPut same_spot (spot_for place (Some x) (Some id)) k (numbers_in ks) (numbers_in now)) (sym m) put))
    (subst (λ (o : Option Spot). IsMore o (length ks) (length now)) same more)
    (subst (λ (o : Option Spot). HasSpare o spare left) same has)
    (omega (arith, there.room, keyless-insert (tags a.front) (tag_of e) (tags a.back), ap {B = ℕ} (λ b. cond b 0 1) (no-key e none)))
    left_out)
  where
    frees : (front back : List Tag) → tags es ≡ front ++ tag_of e ∷ back → (y : ClassName) (i : Id) → e.obj.extent ≡ Some y → Some id ≡ Some i → AllByRecursion (λ t. ¬ IsTagOf y i t) (front ++ back)
    frees front back split y i h k =
        let s : Some x ≡ Some y = sym extent ∙ h in
        let c : x ≡ y = cc in
        let d : id ≡ i = cc in
        subst (λ (j : Id). AllByRecursion (λ t. ¬ IsTagOf y j t) (front ++ back)) d
        (subst (λ (z : ClassName). AllByRecursion (λ t. ¬ IsTagOf z id t) (front ++ back)) c
        (all-omit (λ t. ¬ IsTagOf x id t) front (tag_of e) back (subst (λ (ts : List Tag). AllByRecursion (λ t. ¬ IsTagOf x id t) ts) split (free-tags x id es free))))

-- an object without an id leaves room for its key
pub has-room : (n : ℕ) (es : List Entry) (e : Entry) (place : ClassName → Option ℕ) (at : Spot → Option ℕ) (long spare : ℕ) → first_that (is_entry n) es ≡ Some e → e.obj.id ≡ None → IsIndexed (tags es) place at long spare → 0 < spare
has-room n es e place at long spare hit none w =
    let a : IsAround es e (without_first (is_entry n) es) (λ y. y) (at_first (is_entry n) (λ y. y) es) = around (is_entry n) (λ y. y) es e hit in
    omega (arith, w.room, ap keyless (ap tags a.whole ∙ map-append tag_of a.front (e ∷ a.back)), keyless-insert (tags a.front) (tag_of e) (tags a.back), ap {B = ℕ} (λ b. cond b 0 1) (no-key e none))

-- more places and more room change nothing else
pub wider : (es : List Entry) (names more : List (List ℕ)) (ks now : List (Spot × ℕ)) (spare room : ℕ) → KeepsPlaces (place_of names) (place_of more) → ((s : Spot) → numbers_in now s ≡ numbers_in ks s) → length now ≡ length ks → spare ≤ room → IsIndexed (tags es) (place_of names) (numbers_in ks) (length ks) spare → IsIndexed (tags es) (place_of more) (numbers_in now) (length now) room
wider es names more ks now spare room keeps same long wide x =
    subst (λ n. IsIndexed (tags es) (place_of more) (numbers_in now) n room) (sym long) (indexed-wider (tags es) (place_of names) (place_of more) (numbers_in ks) (numbers_in now) (length ks) spare room keeps same wide x)

-- objects that have the same tags
pub indexed-kept : (old new : List Entry) (names : List (List ℕ)) (ks : List (Spot × ℕ)) (spare : ℕ) → tags new ≡ tags old → IsIndexed (tags old) (place_of names) (numbers_in ks) (length ks) spare → IsIndexed (tags new) (place_of names) (numbers_in ks) (length ks) spare
indexed-kept old new names ks spare same x = subst (λ (ts : List Tag). IsIndexed ts (place_of names) (numbers_in ks) (length ks) spare) (sym same) x

pub length-tags : (rows : List (ℕ × Obj)) → length (tags (entries_in rows)) ≡ length rows
length-tags [] = refl
length-tags (p ∷ ps) = ap suc (length-tags ps)

-- where the room was made for one more than there are, it has room for the key of a further one
pub room-left : (rows : List (ℕ × Obj)) (names : List (List ℕ)) (ks : List (Spot × ℕ)) (spare room many : ℕ) → many ≡ length rows → many + 1 ≤ length ks + room → IsIndexed (tags (entries_in rows)) (place_of names) (numbers_in ks) (length ks) spare → keyless (tags (entries_in rows)) + 1 ≤ room
room-left rows names ks spare room many e wide x = omega (arith, e, wide, x.few, length-tags rows)

-- ---- what leaves the tags

pub edit-tags : (n : ℕ) (f : Entry → Entry) (old new : List (ℕ × Obj)) → ((e : Entry) → tag_of (f e) ≡ tag_of e) → IsRowEdit n f old new → tags (entries_in new) ≡ tags (entries_in old)
edit-tags n f old new keeps h = ap tags h.entries ∙ tags-at_first (is_entry n) f keeps (entries_in old)

pub ok-tags : {X E : Type 0} (n : ℕ) (f : Entry → Entry) (old new : List (ℕ × Obj)) (r : Result X E) (P : E → Type 0) → ((e : Entry) → tag_of (f e) ≡ tag_of e) → OnOk r (IsRowEdit n f old new) → IfErr r (λ e. P e × (new ≡ old)) → tags (entries_in new) ≡ tags (entries_in old)
ok-tags n f old new (Ok x) P keeps h i = edit-tags n f old new keeps h
ok-tags n f old new (Err e) P keeps h i = ap (λ rows. tags (entries_in rows)) i.1

pub filled-tags : {E : Type 0} (at : Place) (w : Fill) (n : ℕ) (old new : List (ℕ × Obj)) (r : Result Slot E) (P : E → Type 0) → IfOk r (λ out. FillsRow at w n old new (refs_of out)) → IfErr r (λ e. P e × (new ≡ old)) → tags (entries_in new) ≡ tags (entries_in old)
filled-tags at w n old new (Ok out) P h i = edit-tags n (with_entry_slots (λ _. h.1)) old new (λ e. refl) h.4
filled-tags at w n old new (Err e) P h i = ap (λ rows. tags (entries_in rows)) i.1

pub inserted-tags : (n at before : ℕ) (item : Slot) (old new : List (ℕ × Obj)) (r : Option Slot) → (r ≡ None → InsertsRow n at before item old new) → ((back : Slot) → r ≡ Some back → (back ≡ item) × (new ≡ old)) → tags (entries_in new) ≡ tags (entries_in old)
inserted-tags n at before item old new None h i = ap tags (h refl).4.entries ∙ tags-at_first (is_entry n) _ (λ e. refl) (entries_in old)
inserted-tags n at before item old new (Some back) h i = ap (λ rows. tags (entries_in rows)) (i back refl).1

-- ---- a search

entry-of-tag : (n : ℕ) (es : List Entry) (t : Tag) → first_that (has_number n) (tags es) ≡ Some t → (e : Entry) × (first_that (is_entry n) es ≡ Some e) × (tag_of e ≡ t)
entry-of-tag n es t h = by (first_that (is_entry n) es) refl (sym (first-map (is_entry n) (has_number n) tag_of es (alike es)) ∙ h)
  where
    alike : (es : List Entry) → AllByRecursion (λ (e : Entry). is_entry n e ≡ has_number n (tag_of e)) es
    alike [] = tt
    alike (e ∷ es) = (refl, alike es)

    by : (o : Option Entry) → first_that (is_entry n) es ≡ o → option_map tag_of o ≡ Some t → (e : Entry) × (first_that (is_entry n) es ≡ Some e) × (tag_of e ≡ t)
    by None is k = cc
    by (Some e) is k = (e, is, cc)

pub found-entry : (es : List Entry) (names : List (List ℕ)) (ks : List (Spot × ℕ)) (spare : ℕ) (extent : ClassName) (id : Id) (r : Option ℕ) → IsIndexed (tags es) (place_of names) (numbers_in ks) (length ks) spare → r ≡ found_at (spot_at id (place_of names extent)) (numbers_in ks) → IfSome r (λ n. (e : Entry) × (first_that (is_entry n) es ≡ Some e) × IsEntryKey extent id e)
found-entry es names ks spare extent id None w h = tt
found-entry es names ks spare extent id (Some n) w h = by (spot_at id (place_of names extent)) refl h
  where
    by : (o : Option Spot) → spot_at id (place_of names extent) ≡ o → Some n ≡ found_at o (numbers_in ks) → (e : Entry) × (first_that (is_entry n) es ≡ Some e) × IsEntryKey extent id e
    by None is k = absurd (let c : Some n ≡ None = k in cc)
    by (Some s) is k =
        let f = found-key (place_of names) (placing names) (tags es) (numbers_in ks) (length ks) spare w extent id s n is (sym k) in
        let e = entry-of-tag n es f.0 f.1 in
        (e.0, e.1, subst (λ (t : Tag). IsTagOf extent id t) (sym e.2) f.2)

pub none-there : (es : List Entry) (names : List (List ℕ)) (ks : List (Spot × ℕ)) (spare : ℕ) (extent : ClassName) (id : Id) (r : Option ℕ) → IsIndexed (tags es) (place_of names) (numbers_in ks) (length ks) spare → r ≡ found_at (spot_at id (place_of names extent)) (numbers_in ks) → IfNone r (AllByRecursion (λ (e : Entry). ¬ IsEntryKey extent id e) es)
none-there es names ks spare extent id (Some n) w h = tt
none-there es names ks spare extent id None w h = entries-free extent id es (by (place_of names extent) refl h)
  where
    by : (o : Option ℕ) → place_of names extent ≡ o → None ≡ found_at (spot_at id o) (numbers_in ks) → AllByRecursion (λ t. ¬ IsTagOf extent id t) (tags es)
    by None is k = no-place (place_of names) (tags es) (numbers_in ks) (length ks) spare w extent id is
    by (Some x) is k = no-number (place_of names) (tags es) (numbers_in ks) (length ks) spare w extent id (record { extent = x; id = id }) (ap (spot_at id) is) (sym k)
