-- Places lead to the methods that calls mean, round by round.
use Rattle.std.proofs.Common.{◌≡◌, ℕ, zero, suc, ◌+◌, Bool, true, false, not, cond, nat_lt, List, [], ◌∷◌, ◌++◌, map, length, position, fold, slice_get, Option, Some, None, is_some, option_map, refl, sym, ap, ◌∙◌, subst, arith}
use Rattle.std.specs.Str.{bytes_eq}
use Rattle.std.specs.List.{position_or_len}
use Rattle.std.proofs.lemmas.Cmp.{nat_list_eq_equiv}
use Rattle.obj_kinds.specs.declared.name.ClassName.{ClassName}
use Rattle.obj_kinds.specs.Texts.{same_text}
use Rattle.obj_kinds.proofs.TextLaws.{same_text-is}
use Rattle.schema_kinds.specs.declared.class.Class.{Class}
use Rattle.schema_kinds.specs.declared.method.Method.{Method}
use Rattle.schema_kinds.specs.Hierarchy.{place_of}
use Rattle.schema_kinds.specs.Classes.{class_names}
use Rattle.os_meaning.specs.Syntax.{Block}
use Rattle.host_meaning.specs.Methods.{Program, Found, declared, class_at, or_else, first_of, in_class, method_within, method_of}
use Rattle.method_table.specs.declared.table.MethodPlace.{MethodPlace}
use Rattle.method_table.specs.Places.{Names, place_in, put_last, put_all, own_places, known, names_at, put_super, put_above, gathered, round_from, round, rounds, method_place}
use Rattle.method_table.specs.Tables.{HaveBodies, with_body, method_at, found_at, Leads, PlacesAreMethods}

turned : (a b : List ℕ) → same_text a b ≡ bytes_eq b a
turned a b = nat_list_eq_equiv.symm a b

abbrev or_place : Option MethodPlace → Option MethodPlace → Option MethodPlace
or_place None b = b
or_place (Some x) b = Some x

or_none : (a : Option MethodPlace) → or_place a None ≡ a
or_none None = refl
or_none (Some x) = refl

or_later : (a b c : Option MethodPlace) → or_place (or_place a b) c ≡ or_place a (or_place b c)
or_later None b c = refl
or_later (Some x) b c = refl

cond_first : (b : Bool) (x : MethodPlace) (o : Option MethodPlace) → cond b (Some x) o ≡ or_place (cond b (Some x) None) o
cond_first true x o = refl
cond_first false x o = refl

place_apart : (name : List ℕ) (xs ys : Names) → place_in name (xs ++ ys) ≡ or_place (place_in name xs) (place_in name ys)
place_apart name [] ys = refl
place_apart name (x ∷ xs) ys =
    ap (λ o. cond (same_text name x.0) (Some x.1) o) (place_apart name xs ys) ∙ cond_first (same_text name x.0) x.1 _
    ∙ sym (or_later (cond (same_text name x.0) (Some x.1) None) (place_in name xs) (place_in name ys))
    ∙ ap (λ o. or_place o (place_in name ys)) (sym (cond_first (same_text name x.0) x.1 (place_in name xs)))

-- a name that is there stays as it is
place_kept : (name : List ℕ) (xs : Names) (e : List ℕ × MethodPlace) (x : MethodPlace) → place_in e.0 xs ≡ Some x → place_in name xs ≡ or_place (place_in name xs) (cond (same_text name e.0) (Some e.1) None)
place_kept name xs e x h = by (same_text name e.0) refl
  where
    there : (o : Option MethodPlace) (y : MethodPlace) → o ≡ Some y → o ≡ or_place o (Some e.1)
    there None y h = cc
    there (Some z) y h = refl

    by : (b : Bool) → same_text name e.0 ≡ b → place_in name xs ≡ or_place (place_in name xs) (cond b (Some e.1) None)
    by false at = sym (or_none (place_in name xs))
    by true at = there (place_in name xs) x (ap (λ n. place_in n xs) (same_text-is name e.0 at) ∙ h)

place_put : (name : List ℕ) (xs : Names) (e : List ℕ × MethodPlace) → place_in name (put_last xs e) ≡ or_place (place_in name xs) (cond (same_text name e.0) (Some e.1) None)
place_put name xs e = by (place_in e.0 xs) refl
  where
    by : (o : Option MethodPlace) → place_in e.0 xs ≡ o → place_in name (cond (is_some (place_in e.0 xs)) xs (xs ++ e ∷ [])) ≡ or_place (place_in name xs) (cond (same_text name e.0) (Some e.1) None)
    by None at = ap (λ o. place_in name (cond (is_some o) xs (xs ++ e ∷ []))) at ∙ place_apart name xs (e ∷ [])
    by (Some x) at = ap (λ o. place_in name (cond (is_some o) xs (xs ++ e ∷ []))) at ∙ place_kept name xs e x at

place_all : (name : List ℕ) (xs ys : Names) → place_in name (put_all xs ys) ≡ or_place (place_in name xs) (place_in name ys)
place_all name xs [] = sym (or_none (place_in name xs))
place_all name xs (y ∷ ys) =
    place_all name (put_last xs y) ys ∙ ap (λ o. or_place o (place_in name ys)) (place_put name xs y)
    ∙ or_later (place_in name xs) (cond (same_text name y.0) (Some y.1) None) (place_in name ys)
    ∙ ap (or_place (place_in name xs)) (sym (cond_first (same_text name y.0) y.1 (place_in name ys)))

else_none : (f : Option Found) → or_else f None ≡ f
else_none None = refl
else_none (Some f) = refl

else_later : (f g h : Option Found) → or_else (or_else f g) h ≡ or_else f (or_else g h)
else_later None g h = refl
else_later (Some f) g h = refl

-- ---- the class of a name

option_later : (b : Bool) (n k : ℕ) → k ≡ suc n → cond {A = Option ℕ} b (Some k) None ≡ option_map suc (cond b (Some n) None)
option_later true n k e = ap Some e
option_later false n k e = refl

first_place : {X : Type 0} (f : X → Bool) (x : X) (xs : List X) → position f (x ∷ xs) ≡ cond (f x) (Some 0) (option_map suc (position f xs))
first_place f x xs = by (f x) refl
  where
    at_first : nat_lt 0 (length (x ∷ xs)) ≡ true
    at_first = grind arith

    behind : (n : ℕ) → nat_lt (1 + n) (length (x ∷ xs)) ≡ nat_lt n (length xs)
    behind n = grind arith

    by : (b : Bool) → f x ≡ b → position f (x ∷ xs) ≡ cond (f x) (Some 0) (option_map suc (position f xs))
    by true at =
        ap (λ b. cond {A = Option ℕ} (nat_lt (cond (not b) (1 + position_or_len f xs) 0) (length (x ∷ xs))) (Some (cond (not b) (1 + position_or_len f xs) 0)) None) at
        ∙ ap (λ b. cond {A = Option ℕ} b (Some 0) None) at_first
        ∙ sym (ap (λ b. cond b (Some 0) (option_map suc (position f xs))) at)
    by false at =
        ap (λ b. cond {A = Option ℕ} (nat_lt (cond (not b) (1 + position_or_len f xs) 0) (length (x ∷ xs))) (Some (cond (not b) (1 + position_or_len f xs) 0)) None) at
        ∙ ap (λ b. cond {A = Option ℕ} b (Some (1 + position_or_len f xs)) None) (behind (position_or_len f xs))
        ∙ option_later (nat_lt (position_or_len f xs) (length xs)) (position_or_len f xs) (1 + position_or_len f xs) (omega arith)
        ∙ sym (ap (λ b. cond b (Some 0) (option_map suc (position f xs))) at)

abbrev pub Located : List Class → List (List Block) → Option ℕ → Option (Class × List Block) → Type 0
Located cs bs None None = Unit {0}
Located cs bs (Some i) (Some r) = (slice_get cs i ≡ Some r.0) × (slice_get bs i ≡ Some r.1)
Located cs bs _ _ = ⊥

shifted : (c : Class) (b : List Block) (cs : List Class) (bs : List (List Block)) (o : Option ℕ) (r : Option (Class × List Block)) → Located cs bs o r → Located (c ∷ cs) (b ∷ bs) (option_map suc o) r
shifted c b cs bs None None l = tt
shifted c b cs bs (Some i) (Some r) l = l
shifted c b cs bs None (Some r) l = elim l [ ]
shifted c b cs bs (Some i) None l = elim l [ ]

pub located : (cs : List Class) (bs : List (List Block)) → HaveBodies cs bs → (class : ClassName) → Located cs bs (place_of (class_names cs) class) (class_at class cs bs)
located [] [] have class = tt
located [] (b ∷ bs) have class = elim have [ ]
located (c ∷ cs) [] have class = elim have [ ]
located (c ∷ cs) (b ∷ bs) have class =
    let rest = shifted c b cs bs (place_of (class_names cs) class) (class_at class cs bs) (located cs bs have.1 class) in
    subst (λ o. Located (c ∷ cs) (b ∷ bs) o (class_at class (c ∷ cs) (b ∷ bs))) (sym (first_place (same_text class.0) c.name.0 (class_names cs)))
    (subst (λ t. Located (c ∷ cs) (b ∷ bs) (cond (same_text class.0 c.name.0) (Some 0) (option_map suc (place_of (class_names cs) class))) (cond t (Some (c, b)) (class_at class cs bs))) (turned class.0 c.name.0)
    (by (same_text class.0 c.name.0) rest))
  where
    by : (t : Bool) → Located (c ∷ cs) (b ∷ bs) (option_map suc (place_of (class_names cs) class)) (class_at class cs bs)
        → Located (c ∷ cs) (b ∷ bs) (cond t (Some 0) (option_map suc (place_of (class_names cs) class))) (cond t (Some (c, b)) (class_at class cs bs))
    by true rest = (refl, refl)
    by false rest = rest

fits_at : (cs : List Class) (bs : List (List Block)) → HaveBodies cs bs → (i : ℕ) (c : Class) (b : List Block) → slice_get cs i ≡ Some c → slice_get bs i ≡ Some b → length c.methods ≡ length b
fits_at [] bs have i c b e f = cc
fits_at (x ∷ cs) [] have i c b e f = elim have [ ]
fits_at (x ∷ cs) (y ∷ bs) have zero c b e f = sym (ap (length_of) e) ∙ have.0 ∙ ap (body_length) f
  where
    length_of : Option Class → ℕ
    length_of None = 0
    length_of (Some c) = length c.methods

    body_length : Option (List Block) → ℕ
    body_length None = 0
    body_length (Some b) = length b
fits_at (x ∷ cs) (y ∷ bs) have (suc i) c b e f = fits_at cs bs have.1 i c b e f

-- ---- rounds

row_of : (classes : List (List ℕ)) (tables : List Names) (at i j : ℕ) (cs : List Class) (c : Class) → slice_get cs i ≡ Some c → at + i ≡ j → slice_get (round_from classes tables at cs) i ≡ Some (gathered classes tables j c)
row_of classes tables at i j [] c e h = cc
row_of classes tables at zero j (x ∷ cs) c e h = let is : at ≡ j = omega (arith, h) in ap (gathered_of (gathered classes tables at x)) e ∙ ap (λ n. Some (gathered classes tables n c)) is
  where
    gathered_of : Names → Option Class → Option Names
    gathered_of d None = Some d
    gathered_of d (Some c) = Some (gathered classes tables at c)
row_of classes tables at (suc i) j (x ∷ cs) c e h = row_of classes tables (suc at) i j cs c e (omega (arith, h))

module _ (p : Program) (name : List ℕ) where
  or_leads : (a b : Option MethodPlace) (f g : Option Found) → Leads p a f → Leads p b g → Leads p (or_place a b) (or_else f g)
  or_leads None b None g l m = m
  or_leads (Some x) b (Some f) g l m = l
  or_leads None b (Some f) g l m = elim l [ ]
  or_leads (Some x) b None g l m = elim l [ ]

  cond_leads : (t : Bool) (x : MethodPlace) (f : Found) (a : Option MethodPlace) (g : Option Found) → found_at p x ≡ Some f → Leads p a g → Leads p (cond t (Some x) a) (cond t (Some f) g)
  cond_leads true x f a g l m = l
  cond_leads false x f a g l m = m

  own_leads : (i : ℕ) (c : Class) (b : List Block) → slice_get p.classes i ≡ Some c → slice_get p.bodies i ≡ Some b → (at : ℕ) (ms : List Method) (bs : List Block)
      → ((j : ℕ) → slice_get c.methods (at + j) ≡ slice_get ms j) → ((j : ℕ) → slice_get b (at + j) ≡ slice_get bs j) → length ms ≡ length bs
      → Leads p (place_in name (own_places i at ms)) (declared c.name name ms bs)
  own_leads i c b ci bi at [] [] mh bh same = tt
  own_leads i c b ci bi at [] (y ∷ bs) mh bh same = absurd (omega (arith, same))
  own_leads i c b ci bi at (m ∷ ms) [] mh bh same = absurd (omega (arith, same))
  own_leads i c b ci bi at (m ∷ ms) (y ∷ bs) mh bh same =
      let here : at ≡ at + 0 = omega arith in
      let found : found_at p (record { class = i; method = at }) ≡ Some (record { class = c.name; method = m; body = y }) =
      (λ k. method_at (ci k) (bi k) at) ∙ (λ k. with_body c ((ap (slice_get c.methods) here ∙ mh 0) k) ((ap (slice_get b) here ∙ bh 0) k)) in
      subst (λ t. Leads p (cond (same_text name m.name) (Some (record { class = i; method = at })) (place_in name (own_places i (suc at) ms))) (cond t (Some (record { class = c.name; method = m; body = y })) (declared c.name name ms bs))) (turned name m.name)
      (cond_leads (same_text name m.name) _ _ _ _ found
      (own_leads i c b ci bi (suc at) ms bs (λ j. let e : suc at + j ≡ at + suc j = omega arith in ap (slice_get c.methods) e ∙ mh (suc j)) (λ j. let e : suc at + j ≡ at + suc j = omega arith in ap (slice_get b) e ∙ bh (suc j)) (omega (arith, same))))

  above_leads : (tables : List Names) (look : ClassName → Option Found) → ((s : ClassName) → Leads p (place_in name (names_at tables (place_of (class_names p.classes) s))) (look s))
      → (supers : List ClassName) (xs : Names) (f : Option Found) → Leads p (place_in name xs) f → Leads p (place_in name (put_above (class_names p.classes) tables xs supers)) (or_else f (first_of look supers))
  above_leads tables look leads [] xs f l = subst (Leads p (place_in name xs)) (sym (else_none f)) l
  above_leads tables look leads (s ∷ ss) xs f l =
      let more = names_at tables (place_of (class_names p.classes) s) in
      subst (Leads p (place_in name (put_above (class_names p.classes) tables xs (s ∷ ss)))) (else_later f (look s) (first_of look ss))
      (above_leads tables look leads ss (put_all xs more) (or_else f (look s))
      (subst (λ o. Leads p o (or_else f (look s))) (sym (place_all name xs more)) (or_leads (place_in name xs) (place_in name more) f (look s) l (leads s))))

  none_known : (o : Option ℕ) → names_at [] o ≡ []
  none_known None = refl
  none_known (Some i) = refl

  module _ (have : HaveBodies p.classes p.bodies) where
    class_leads : (tables : List Names) (look : ClassName → Option Found) → ((s : ClassName) → Leads p (place_in name (names_at tables (place_of (class_names p.classes) s))) (look s))
        → (o : Option ℕ) (r : Option (Class × List Block)) → Located p.classes p.bodies o r → Leads p (place_in name (names_at (round p.classes tables) o)) (in_class name look r)
    class_leads tables look leads None None l = tt
    class_leads tables look leads None (Some r) l = elim l [ ]
    class_leads tables look leads (Some i) None l = elim l [ ]
    class_leads tables look leads (Some i) (Some r) l =
        let own = own_places i 0 r.0.methods in
        subst (λ names. Leads p (place_in name names) (in_class name look (Some r))) (sym (ap known (row_of (class_names p.classes) tables 0 i i p.classes r.0 l.0 (omega arith))))
        (above_leads tables look leads r.0.supers (put_all [] own) (declared r.0.name name r.0.methods r.1)
        (subst (λ o. Leads p o (declared r.0.name name r.0.methods r.1)) (sym (place_all name [] own))
        (own_leads i r.0 r.1 l.0 l.1 0 r.0.methods r.1 (λ j. let e : 0 + j ≡ j = omega arith in ap (slice_get r.0.methods) e) (λ j. let e : 0 + j ≡ j = omega arith in ap (slice_get r.1) e) (fits_at p.classes p.bodies have i r.0 r.1 l.0 l.1))))

    leads_within : (k : ℕ) (class : ClassName) → Leads p (place_in name (names_at (rounds p.classes k) (place_of (class_names p.classes) class))) (method_within k p name class)
    leads_within zero class = subst (λ names. Leads p (place_in name names) None) (sym (none_known (place_of (class_names p.classes) class))) tt
    leads_within (suc k) class =
        class_leads (rounds p.classes k) (method_within k p name) (leads_within k) (place_of (class_names p.classes) class) (class_at class p.classes p.bodies) (located p.classes p.bodies have class)

pub places_are_methods : PlacesAreMethods
unfolding method_place method_of
places_are_methods p have class name = leads_within p name have (suc (length p.classes)) class

-- ---- what is found

module _ (classes : List Class) (tables : List Names) (is : tables ≡ rounds classes (suc (length classes))) (class : ClassName) (name : List ℕ) where
  pub found : (at : ℕ) (names : Names) → Some at ≡ place_of (class_names classes) class → Some names ≡ slice_get tables at → place_in name names ≡ method_place classes class name
  unfolding method_place
  found at names e f =
      ap (λ o. place_in name (known o)) (f ∙ ap (λ ts. slice_get ts at) is) ∙ ap (λ o. place_in name (names_at (rounds classes (suc (length classes))) o)) e

  pub unknown : (at : ℕ) → Some at ≡ place_of (class_names classes) class → None ≡ slice_get tables at → None ≡ method_place classes class name
  unfolding method_place
  unknown at e f =
      ap (λ o. place_in name (known o)) (f ∙ ap (λ ts. slice_get ts at) is) ∙ ap (λ o. place_in name (names_at (rounds classes (suc (length classes))) o)) e

  pub no_class : None ≡ place_of (class_names classes) class → None ≡ method_place classes class name
  unfolding method_place
  no_class e = ap (λ o. place_in name (names_at (rounds classes (suc (length classes))) o)) e
