-- Fields that are taken for a row, and the lists of the classes below the root.
use Rattle.std.proofs.Common.{◌≡◌, ℕ, zero, suc, ◌-◌, List, [], ◌∷◌, ◌++◌, map, take, drop, length, refl, sym, ap, ◌∙◌, arith}
use Rattle.std.proofs.lemmas.List.{append_assoc, append-nil}
use Rattle.obj_kinds.specs.declared.node.Node.{Node}
use Rattle.obj_kinds.specs.declared.sub.Sub.TheVariants.{Str}
use Rattle.obj_kinds.specs.declared.value.Value.{Value}
use Rattle.obj_kinds.specs.declared.value.Value.TheVariants as value
use Rattle.obj_kinds.specs.declared.sub.Sub.{Sub}
use Rattle.schema_kinds.specs.declared.class.Class.{Class}
use Rattle.schema_kinds.specs.declared.record.Field.{Field}
use Rattle.schema_kinds.specs.Classes.{short_name}
use Rattle.record_layout.specs.Shapes.{Form, row_forms}
use Rattle.record_layout.specs.Items.{item}
use Rattle.record_layout.specs.Layout.{own_props, own_list, lower_lists}
use Rattle.record_layout.specs.Rows.{below, lower_nodes}

pub take_next : {A : Type 0} (n : ℕ) (x : A) (xs : List A) → (n ≡ 0 → ⊥) → take n (x ∷ xs) ≡ x ∷ take (n - 1) xs
take_next zero x xs h = absurd (h refl)
take_next (suc n) x xs h = ap (λ k. x ∷ take k xs) (let e : n ≡ suc n - 1 = omega arith in e)

pub drop_next : {A : Type 0} (n : ℕ) (x : A) (xs : List A) → (n ≡ 0 → ⊥) → drop n (x ∷ xs) ≡ drop (n - 1) xs
drop_next zero x xs h = absurd (h refl)
drop_next (suc n) x xs h = ap (λ k. drop k xs) (let e : n ≡ suc n - 1 = omega arith in e)

none_own : (name : List ℕ) (forms : List Form) → length forms ≡ 0 → own_list name forms ≡ []
none_own name [] h = refl
none_own name (f ∷ fs) h = absurd (omega arith)

some_own : (name : List ℕ) (forms : List Form) → (length forms ≡ 0 → ⊥) → own_list name forms ≡ (name, forms) ∷ []
some_own name [] h = absurd (h refl)
some_own name (f ∷ fs) h = refl

pub no_list : (above c : Class) (cs : List Class) → length (row_forms (own_props above c)) ≡ 0 → lower_lists above (c ∷ cs) ≡ lower_lists c cs
no_list above c cs h = ap (λ l. l ++ lower_lists c cs) (none_own (short_name c.name) (row_forms (own_props above c)) h)

pub one_list : (above c : Class) (cs : List Class) (fields : List Field) → (length (row_forms (own_props above c)) ≡ 0 → ⊥)
    → lower_nodes (lower_lists above (c ∷ cs)) fields
    ≡ (Str (short_name c.name) ∷ [], value.List (map item (take (length (row_forms (own_props above c))) fields))) ∷ lower_nodes (lower_lists c cs) (drop (length (row_forms (own_props above c))) fields)
one_list above c cs fields h = ap (λ (l : List (List ℕ × List Form)). lower_nodes (l ++ lower_lists c cs) fields) (some_own (short_name c.name) (row_forms (own_props above c)) h)

-- one more field is taken
pub taken : (items : List Value) {new whole : List Value} {fields rest end : List Field} {f : Field} (n : ℕ) → (n ≡ 0 → ⊥) → fields ≡ f ∷ rest → items ++ map item (take n fields) ≡ whole → drop n fields ≡ end
    → (v : Value) → v ≡ item f → new ≡ items ++ v ∷ [] → (new ++ map item (take (n - 1) rest) ≡ whole) × (drop (n - 1) rest ≡ end)
taken items {new} {whole} {fields} {rest} {end} {f} n some is all behind v written put = (
  ap (λ l. l ++ map item (take (n - 1) rest)) (put ∙ ap (λ w. items ++ w ∷ []) written) ∙ append_assoc items (item f ∷ []) (map item (take (n - 1) rest))
      ∙ ap (λ l. items ++ map item l) (sym (take_next n f rest some) ∙ ap (take n) (sym is)) ∙ all,
  sym (drop_next n f rest some) ∙ ap (drop n) (sym is) ∙ behind,
)

pub below_nothing : (n : Node) → below n [] ≡ n
below_nothing n = ap (λ subs. record { global = n.global; subs = subs }) (append-nil n.subs)
