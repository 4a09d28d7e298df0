-- Whether two values are the same, as a test that computes.
use Rattle.std.proofs.Common.{◌≡◌, ◌↔◌, Bool, true, false, Ok, refl, sym, ap, ◌∙◌}
use Rattle.obj_kinds.specs.declared.value.Value.{Value}
use Rattle.obj_kinds.specs.Values.{same_value}
use Rattle.obj_kinds.proofs.ValueLaws.{same_value-is, is-same_value}
use Rattle.os_value.specs.Comparisons.{is_list, of_one_kind, equal}

by_value : (t : Bool) (v w : Value) → same_value v w ≡ t → (r : Bool) → (r ≡ true → v ≡ w) → (v ≡ w → r ≡ true) → r ≡ t
by_value true v w e r is same = same (same_value-is v w e)
by_value false v w e true is same = sym (is-same_value v w (is refl)) ∙ e
by_value false v w e false is same = refl

-- a test that holds exactly where the values are equal
pub decided : (r : Bool) (v w : Value) → (r ≡ true) ↔ (v ≡ w) → r ≡ same_value v w
decided r v w h = by_value (same_value v w) v w refl r h.0 h.1

alike : (l r : Bool) (v w : Value) → l ≡ r → (of_one_kind l r (same_value v w) ≡ Ok true) ↔ (v ≡ w)
alike true true v w e = (λ h. same_value-is v w (cc), λ h. ap Ok (is-same_value v w h))
alike false false v w e = (λ h. same_value-is v w (cc), λ h. ap Ok (is-same_value v w h))
alike true false v w e = cc
alike false true v w e = cc

-- values of one kind are told equal exactly where they are
pub equal_values : (v w : Value) → is_list v ≡ is_list w → (equal v w ≡ Ok true) ↔ (v ≡ w)
equal_values v w e = alike (is_list v) (is_list w) v w e
