-- The variables that are put one after the other are those of the arguments.
use Rattle.std.proofs.Common.{◌≡◌, ℕ, suc, ◌+◌, ◌≤◌, false, cond, List, [], ◌∷◌, ◌++◌, reverse, length, Option, Some, None, refl, sym, ap, ◌∙◌, arith}
use Rattle.std.specs.Str.{bytes_eq}
use Rattle.std.proofs.lemmas.List.{append_assoc, reverse-append, reverse-reverse}
use Rattle.schema_kinds.specs.declared.method.Arg.{Arg}
use Rattle.os_kinds.specs.declared.val.Val.{Val}
use Rattle.os_meaning.specs.Syntax.{Name}
use Rattle.os_meaning.specs.Frames.{Var, Vars, with_var}
use Rattle.host_meaning.specs.Methods.{default_by, defaults, with_value, arguments}
use Rattle.method_calls.specs.Programs.{IsOther, AreApart}
use Rattle.method_calls.specs.Binding.{first, later, or_default, put_value, bound}

abbrev var : Name → Val → Var
var name v = record { name = name; value = v }

-- no variable has that name
abbrev IsNew : Name → Vars → Type 0
IsNew name [] = Unit {0}
IsNew name (x ∷ vars) = (bytes_eq x.name name ≡ false) × IsNew name vars

abbrev AreNew : List Arg → Vars → Type 0
AreNew [] vars = Unit {0}
AreNew (a ∷ args) vars = IsNew a.name vars × AreNew args vars

goes_last : (name : Name) (v : Val) (vars : Vars) → IsNew name vars → with_var name v vars ≡ vars ++ var name v ∷ []
goes_last name v [] new = refl
goes_last name v (x ∷ vars) new = ap (λ b. cond b (var x.name v ∷ vars) (x ∷ with_var name v vars)) new.0 ∙ ap (λ l. x ∷ l) (goes_last name v vars new.1)

still_new : (name other : Name) (v : Val) (vars : Vars) → IsNew name vars → bytes_eq other name ≡ false → IsNew name (vars ++ var other v ∷ [])
still_new name other v [] new is = (is, tt)
still_new name other v (x ∷ vars) new is = (new.0, still_new name other v vars new.1 is)

all_new : (args : List Arg) (other : Name) (v : Val) (vars : Vars) → AreNew args vars → IsOther other args → AreNew args (vars ++ var other v ∷ [])
all_new [] other v vars new is = tt
all_new (a ∷ args) other v vars new is = (still_new a.name other v vars new.0 is.0, all_new args other v vars new.1 is.1)

none_yet : (args : List Arg) → AreNew args []
none_yet [] = tt
none_yet (a ∷ args) = (tt, none_yet args)

-- ---- what is put

abbrev some_var : Name → Option Val → Vars → Vars
some_var name None vars = vars
some_var name (Some v) vars = var name v ∷ vars

abbrev rest_of : List Arg → List Val → Vars
rest_of [] vs = []
rest_of (a ∷ args) vs = some_var a.name (or_default a.default (first vs)) (rest_of args (later vs))

together : (xs : Vars) (x : Var) (ys : Vars) → (xs ++ x ∷ []) ++ ys ≡ xs ++ x ∷ ys
together [] x ys = refl
together (y ∷ xs) x ys = ap (λ l. y ∷ l) (together xs x ys)

without : (xs : Vars) → xs ≡ xs ++ []
without [] = refl
without (x ∷ xs) = ap (λ l. x ∷ l) (without xs)

bound_is : (args : List Arg) (vs : List Val) (vars : Vars) → AreApart args → AreNew args vars → bound args vs vars ≡ vars ++ rest_of args vs
bound_is [] vs vars apart new = without vars
bound_is (a ∷ args) vs vars apart new = by (or_default a.default (first vs)) (λ vars new. bound_is args (later vs) vars apart.1 new)
  where
    by : (o : Option Val) → ((vars : Vars) → AreNew args vars → bound args (later vs) vars ≡ vars ++ rest_of args (later vs)) → bound args (later vs) (put_value a.name o vars) ≡ vars ++ some_var a.name o (rest_of args (later vs))
    by None more = more vars new.1
    by (Some v) more =
        ap (bound args (later vs)) (goes_last a.name v vars new.0)
        ∙ more (vars ++ var a.name v ∷ []) (all_new args a.name v vars new.1 apart.0)
        ∙ together vars (var a.name v) (rest_of args (later vs))

defaults_are : (args : List Arg) → defaults args ≡ rest_of args []
defaults_are [] = refl
defaults_are (a ∷ args) = by a.default ∙ ap (some_var a.name (or_default a.default None)) (defaults_are args)
  where
    by : (d : Option (List ℕ)) → default_by a.name d (defaults args) ≡ some_var a.name (or_default d None) (defaults args)
    by None = refl
    by (Some text) = refl

arguments_are : (args : List Arg) (vs : List Val) → length vs ≤ length args → arguments args vs ≡ Some (rest_of args vs)
arguments_are args [] le = ap Some (defaults_are args)
arguments_are [] (v ∷ vs) le = absurd (omega (arith, le))
arguments_are (a ∷ args) (v ∷ vs) le = ap (with_value a.name v) (arguments_are args vs (omega (arith, le)))

pub binds : (args : List Arg) (vs : List Val) → AreApart args → length vs ≤ length args → Some (bound args vs []) ≡ arguments args vs
binds args vs apart le = ap Some (bound_is args vs [] apart (none_yet args)) ∙ sym (arguments_are args vs le)

pub too_many : (args : List Arg) (vs : List Val) → suc (length args) ≤ length vs → None ≡ arguments args vs
too_many args [] lt = absurd (omega (arith, lt))
too_many [] (v ∷ vs) lt = refl
too_many (a ∷ args) (v ∷ vs) lt = ap (with_value a.name v) (too_many args vs (omega (arith, lt)))

-- ---- values, the last first

turned_first : (vs : List Val) (v : Val) → reverse (vs ++ v ∷ []) ≡ v ∷ reverse vs
turned_first vs v = reverse-append vs (v ∷ [])

-- one more value is taken from the end
pub one_more : (turned old new : List Val) (v : Val) → old ≡ new ++ v ∷ [] → (turned ++ v ∷ []) ++ reverse new ≡ turned ++ reverse old
one_more turned old new v e = append_assoc turned (v ∷ []) (reverse new) ∙ ap (λ vs. turned ++ vs) (sym (ap reverse e ∙ turned_first new v))

pub turned_twice : (vs : List Val) → reverse (reverse vs) ≡ vs
turned_twice vs = reverse-reverse vs
