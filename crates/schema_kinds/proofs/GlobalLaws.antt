-- The list of own globals has exactly the globals of extents.
use Rattle.std.proofs.Common.{◌≡◌, ℕ, Bool, true, false, cond, ◌&&◌, ◌||◌, List, [], ◌∷◌, ◌++◌, map, refl, sym, ap, ◌∙◌}
use Rattle.std.specs.List.{list_any}
use Rattle.obj_kinds.specs.Texts.{same_text}
use Rattle.obj_kinds.proofs.TextLaws.{same_text-is}
use Rattle.schema_kinds.specs.declared.class.Class.{Class}
use Rattle.schema_kinds.specs.Classes.{is_with, is_root, is_global_of}
use Rattle.schema_kinds.specs.OwnGlobals.{put_name, put_globals, put_all_globals}

-- ---- lists of texts that own their bytes
pub any_map : {X Y : Type 0} (xs : List X) (f : X → Y) (test : Y → Bool) → list_any (λ x. test (f x)) xs ≡ list_any test (map f xs)
any_map [] f test = refl
any_map (x ∷ xs) f test = ap (λ b. test (f x) || b) (any_map xs f test)

map-append : {X Y : Type 0} (f : X → Y) (xs : List X) (x : X) → map f (xs ++ x ∷ []) ≡ map f xs ++ f x ∷ []
map-append f [] x = refl
map-append f (y ∷ ys) x = ap (λ l. f y ∷ l) (map-append f ys x)

pub put_seen : {X : Type 0} (xs : List X) (x : X) (f : X → List ℕ) → map f (cond (list_any (λ y. same_text (f x) (f y)) xs) xs (xs ++ x ∷ [])) ≡ put_name (map f xs) (f x)
put_seen xs x f =
    by (list_any (λ y. same_text (f x) (f y)) xs) ∙ ap (λ b. cond b (map f xs) (map f xs ++ f x ∷ [])) (any_map xs f (same_text (f x)))
  where
    by : (b : Bool) → map f (cond b xs (xs ++ x ∷ [])) ≡ cond b (map f xs) (map f xs ++ f x ∷ [])
    by true = refl
    by false = map-append f xs x

-- ---- what is in the list
any-append : (test : List ℕ → Bool) (xs : List (List ℕ)) (x : List ℕ) → list_any test (xs ++ x ∷ []) ≡ list_any test xs || test x
any-append test [] x = last (test x)
  where
    last : (b : Bool) → b || false ≡ b
    last true = refl
    last false = refl
any-append test (y ∷ ys) x = ap (λ b. test y || b) (any-append test ys x) ∙ grouped (test y) (list_any test ys) (test x)
  where
    grouped : (a b c : Bool) → a || (b || c) ≡ (a || b) || c
    grouped true b c = refl
    grouped false b c = refl

-- a name that is there already adds none
there : (g name : List ℕ) (names : List (List ℕ)) → list_any (same_text name) names ≡ true → same_text g name ≡ true → list_any (same_text g) names ≡ true
there g name names h e = ap (λ n. list_any (same_text n) names) (same_text-is g name e) ∙ h

any-put : (g name : List ℕ) (names : List (List ℕ)) → list_any (same_text g) (put_name names name) ≡ list_any (same_text g) names || same_text g name
any-put g name names = by (list_any (same_text name) names) (same_text g name) refl refl
  where
    or_false : (b : Bool) → b ≡ b || false
    or_false true = refl
    or_false false = refl

    by : (b c : Bool) → list_any (same_text name) names ≡ b → same_text g name ≡ c → list_any (same_text g) (cond b names (names ++ name ∷ [])) ≡ list_any (same_text g) names || c
    by true true h e = there g name names h e ∙ ap (λ a. a || true) (sym (there g name names h e))
    by true false h e = or_false (list_any (same_text g) names)
    by false c h e = any-append (same_text g) names name ∙ ap (λ b. list_any (same_text g) names || b) e

put-one : (g : List ℕ) (names : List (List ℕ)) (c : Class) (globals : List (List ℕ)) → list_any (same_text g) (put_globals names c globals) ≡ list_any (same_text g) globals || is_global_of names g c
put-one g names c globals = by (is_root names c)
  where
    last : (a b c : Bool) → (a || b) || c ≡ a || ((b || c) && true)
    last true b c = refl
    last false true c = refl
    last false false true = refl
    last false false false = refl

    none : (a b : Bool) → a ≡ a || (b && false)
    none true b = refl
    none false true = refl
    none false false = refl

    by : (b : Bool) → list_any (same_text g) (cond b (put_name (put_name globals (c.name.0 ++ 68 ∷ [])) (c.name.0 ++ 73 ∷ [])) globals) ≡ list_any (same_text g) globals || ((is_with g c.name.0 68 || is_with g c.name.0 73) && b)
    by true =
        any-put g (c.name.0 ++ 73 ∷ []) (put_name globals (c.name.0 ++ 68 ∷ [])) ∙ ap (λ b. b || is_with g c.name.0 73) (any-put g (c.name.0 ++ 68 ∷ []) globals)
        ∙ last (list_any (same_text g) globals) (is_with g c.name.0 68) (is_with g c.name.0 73)
    by false = none (list_any (same_text g) globals) (is_with g c.name.0 68 || is_with g c.name.0 73)

put-all : (g : List ℕ) (names : List (List ℕ)) (cs : List Class) (globals : List (List ℕ)) → list_any (same_text g) (put_all_globals names cs globals) ≡ list_any (same_text g) globals || list_any (is_global_of names g) cs
put-all g names [] globals = or_false (list_any (same_text g) globals)
  where
    or_false : (b : Bool) → b ≡ b || false
    or_false true = refl
    or_false false = refl
put-all g names (c ∷ cs) globals =
    put-all g names cs (put_globals names c globals) ∙ ap (λ b. b || list_any (is_global_of names g) cs) (put-one g names c globals)
    ∙ grouped (list_any (same_text g) globals) (is_global_of names g c) (list_any (is_global_of names g) cs)
  where
    grouped : (a b c : Bool) → (a || b) || c ≡ a || (b || c)
    grouped true b c = refl
    grouped false b c = refl

-- a global is in the list exactly where it is one of an extent
pub own_globals : (g : List ℕ) (names : List (List ℕ)) (cs : List Class) → list_any (same_text g) (put_all_globals names cs []) ≡ list_any (is_global_of names g) cs
own_globals g names cs = put-all g names cs []
