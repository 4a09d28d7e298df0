-- The number of a counter is the one that it counts.
use Rattle.std.proofs.Common.{◌≡◌, inl, inr, ℕ, ℤ, pos, negsuc, List, Option, None, Some, refl, sym, ap, subst, ◌∙◌}
use Rattle.obj_kinds.specs.declared.value.Value.{Value}
use Rattle.obj_kinds.specs.declared.value.Value.TheVariants.{Str, rolls-Str}
use Rattle.obj_kinds.specs.declared.value.Value.TheOpen.{Value-F}
use Rattle.obj_kinds.specs.declared.value.Value.TheViews.{out-Value, roll-Value, roll-out-Value}
use Rattle.obj_kinds.specs.Subscript.{whole_of}
use Rattle.obj_kinds.specs.Values.{as_value}
use Rattle.obj_kinds.proofs.Numbers.{whole_of-printed, printed-whole_of}
use Rattle.obj_kinds.proofs.ValueLaws.{out-Str}
use Rattle.std.specs.Fmt.{signed_decimal}
use Rattle.world_audit.specs.Counters.{from_zero, counted, counter_number}
use Rattle.world_audit.specs.Openings.{Counts}

pub number_counts : (v : Option Value) (n : ℕ) → counter_number v ≡ Some n → Counts v n
number_counts None n h = let zero_is : n ≡ 0 = cc in inl (refl, zero_is)
number_counts (Some v) n h = by (out-Value v) (roll-out-Value v) h
  where
    whole : (text : List ℕ) → roll-Value (Value-F.Str text) ≡ v → (z : ℤ) → whole_of text ≡ Some z → from_zero (Some z) ≡ Some n → Counts (Some v) n
    whole text is (negsuc m) e k = cc
    whole text is (pos m) e k =
        let same : m ≡ n = cc in
        let p = printed-whole_of text (pos m) e in
        let value : v ≡ as_value (pos m) = sym is ∙ rolls-Str text ∙ ap Str p.1 in
        subst (Counts (Some v)) same (inr (ap Some value, p.0))

    read : (text : List ℕ) → roll-Value (Value-F.Str text) ≡ v → (o : Option ℤ) → whole_of text ≡ o → from_zero o ≡ Some n → Counts (Some v) n
    read text is None e k = cc
    read text is (Some z) e k = whole text is z e k

    by : (layer : Value-F Value) → roll-Value layer ≡ v → counted layer ≡ Some n → Counts (Some v) n
    by (Value-F.Str text) is k = read text is (whole_of text) refl k
    by (Value-F.List vs) is k = cc

pub counts_number : (v : Option Value) (n : ℕ) → Counts v n → counter_number v ≡ Some n
counts_number v n (inl c) = ap counter_number c.0 ∙ ap Some (sym c.1)
counts_number v n (inr c) =
    ap counter_number c.0 ∙ ap counted (out-Str (signed_decimal (pos n))) ∙ ap from_zero (whole_of-printed (signed_decimal (pos n)) (pos n) c.1 refl)

-- a counter counts one number
pub counts_one : (v : Option Value) (m n : ℕ) → Counts v m → Counts v n → m ≡ n
counts_one v m n first second = let same : Some m ≡ Some n = sym (counts_number v m first) ∙ counts_number v n second in cc
