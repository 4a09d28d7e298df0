-- Variables and the entries of their map.
use Rattle.std.proofs.Common.{◌≡◌, ℕ, Bool, true, false, cond, List, [], ◌∷◌, ◌++◌, Some, None, refl, sym, ap, ◌∙◌}
use Rattle.std.specs.Str.{bytes_eq}
use Rattle.std.specs.Map.{lookup, set_value, remove_entry}
use Rattle.std.proofs.lemmas.Cmp.{nat_list_eq_equiv}
use Rattle.indexmap.specs.IndexMap.{insert_entry}
use Rattle.os_kinds.specs.declared.val.Val.{Val}
use Rattle.os_kinds.specs.declared.val.Val.TheVariants.{Data, Ref}
use Rattle.obj_kinds.specs.declared.value.Value.{Value}
use Rattle.obj_kinds.specs.declared.name.ClassName.{ClassName}
use Rattle.os_meaning.specs.Syntax.{Name}
use Rattle.os_meaning.specs.Frames.{Var, Vars, value_in, with_var, without_var}
use Rattle.os_machine.specs.Variables.{var_of, vars_of, last_object, behind_var}

abbrev pub Entries : Type 0
Entries = List (Name × Val)

turned : (a b : Name) → bytes_eq a b ≡ bytes_eq b a
turned a b = nat_list_eq_equiv.symm a b

pub value_found : (name : Name) (entries : Entries) → lookup (bytes_eq name) entries ≡ value_in name (vars_of entries)
value_found name [] = refl
value_found name (e ∷ es) =
    ap (λ b. cond b (Some e.1) (lookup (bytes_eq name) es)) (turned name e.0) ∙ ap (λ o. cond (bytes_eq e.0 name) (Some e.1) o) (value_found name es)

vars_cond : (b : Bool) (xs ys : Entries) → vars_of (cond b xs ys) ≡ cond b (vars_of xs) (vars_of ys)
vars_cond true xs ys = refl
vars_cond false xs ys = refl

pub entry_inserted : (name : Name) (v : Val) (entries : Entries) → vars_of (insert_entry bytes_eq entries name v) ≡ with_var name v (vars_of entries)
entry_inserted name v [] = refl
entry_inserted name v (e ∷ es) =
    vars_cond (bytes_eq name e.0) ((e.0, v) ∷ es) (e ∷ insert_entry bytes_eq es name v)
    ∙ ap (λ b. cond b (vars_of ((e.0, v) ∷ es)) (var_of e ∷ vars_of (insert_entry bytes_eq es name v))) (turned name e.0)
    ∙ ap (λ l. cond (bytes_eq e.0 name) (vars_of ((e.0, v) ∷ es)) (var_of e ∷ l)) (entry_inserted name v es)

-- where the name is there
pub value_set : (name : Name) (v w : Val) (entries : Entries) → lookup (bytes_eq name) entries ≡ Some w → vars_of (set_value (bytes_eq name) entries v) ≡ with_var name v (vars_of entries)
value_set name v w [] h = cc
value_set name v w (e ∷ es) h =
    vars_cond (bytes_eq name e.0) ((e.0, v) ∷ es) (e ∷ set_value (bytes_eq name) es v) ∙ by (bytes_eq name e.0) refl h (value_set name v w es)
  where
    by : (b : Bool) → bytes_eq name e.0 ≡ b → cond b (Some e.1) (lookup (bytes_eq name) es) ≡ Some w
        → (lookup (bytes_eq name) es ≡ Some w → vars_of (set_value (bytes_eq name) es v) ≡ with_var name v (vars_of es))
        → cond (bytes_eq name e.0) (vars_of ((e.0, v) ∷ es)) (var_of e ∷ vars_of (set_value (bytes_eq name) es v)) ≡ with_var name v (vars_of (e ∷ es))
    by true at h rest =
        ap (λ b. cond b (vars_of ((e.0, v) ∷ es)) (var_of e ∷ vars_of (set_value (bytes_eq name) es v))) at
        ∙ sym (ap (λ b. cond b (vars_of ((e.0, v) ∷ es)) (var_of e ∷ with_var name v (vars_of es))) (turned e.0 name ∙ at))
    by false at h rest =
        ap (λ b. cond b (vars_of ((e.0, v) ∷ es)) (var_of e ∷ vars_of (set_value (bytes_eq name) es v))) at ∙ ap (λ l. var_of e ∷ l) (rest h)
        ∙ sym (ap (λ b. cond b (vars_of ((e.0, v) ∷ es)) (var_of e ∷ with_var name v (vars_of es))) (turned e.0 name ∙ at))

pub entry_removed : (name : Name) (entries : Entries) → vars_of (remove_entry (bytes_eq name) entries) ≡ without_var name (vars_of entries)
entry_removed name [] = refl
entry_removed name (e ∷ es) =
    vars_cond (bytes_eq name e.0) es (e ∷ remove_entry (bytes_eq name) es)
    ∙ ap (λ b. cond b (vars_of es) (var_of e ∷ vars_of (remove_entry (bytes_eq name) es))) (turned name e.0)
    ∙ ap (λ l. cond (bytes_eq e.0 name) (vars_of es) (var_of e ∷ l)) (entry_removed name es)

-- ---- the last variable with an object

pub vars_apart : (xs ys : Entries) → vars_of (xs ++ ys) ≡ vars_of xs ++ vars_of ys
vars_apart [] ys = refl
vars_apart (x ∷ xs) ys = ap (λ l. var_of x ∷ l) (vars_apart xs ys)

ends_with_data : (xs : Vars) (x : Var) (v : Value) → x.value ≡ Data v → last_object (xs ++ x ∷ []) ≡ last_object xs
ends_with_data [] x v h = ap (λ w. behind_var (record { name = x.name; value = w }) None) h
ends_with_data (y ∷ xs) x v h = ap (behind_var y) (ends_with_data xs x v h)

ends_with_object : (xs : Vars) (x : Var) (number : ℕ) (class : ClassName) → x.value ≡ Ref number class → last_object (xs ++ x ∷ []) ≡ Some (number, xs)
ends_with_object [] x number class h = ap (λ w. behind_var (record { name = x.name; value = w }) None) h
ends_with_object (y ∷ xs) x number class h = ap (behind_var y) (ends_with_object xs x number class h)

pub data_dropped : (old new : Entries) (name : Name) (w : Val) (v : Value) → old ≡ new ++ (name, w) ∷ [] → w ≡ Data v → last_object (vars_of new) ≡ last_object (vars_of old)
data_dropped old new name w v h is =
    sym (ap (λ es. last_object (vars_of es)) h ∙ ap last_object (vars_apart new ((name, w) ∷ [])) ∙ ends_with_data (vars_of new) (var_of (name, w)) v is)

pub object_dropped : (old new : Entries) (name : Name) (w : Val) (number : ℕ) (class : ClassName) → old ≡ new ++ (name, w) ∷ [] → w ≡ Ref number class → last_object (vars_of old) ≡ Some (number, vars_of new)
object_dropped old new name w number class h is =
    ap (λ es. last_object (vars_of es)) h ∙ ap last_object (vars_apart new ((name, w) ∷ [])) ∙ ends_with_object (vars_of new) (var_of (name, w)) number class is
