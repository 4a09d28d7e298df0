-- The keys of an array in the rows of a record are those of its elements.
use Rattle.std.proofs.Common.{◌≡◌, ℕ, Bool, true, false, cond, List, [], ◌∷◌, ◌++◌, map, take, drop, length, Option, None, Some, is_some, refl, sym, ap, subst, ◌∙◌, ◌⊎◌, inl, inr}
use Rattle.std.specs.declared.cmp.Ordering.TheVariants.{Less, Equal, Greater}
use Rattle.std.specs.Ordering.{ordering_reverse}
use Rattle.std.specs.FinMap.{get, contains_key}
use Rattle.obj_kinds.specs.declared.node.Node.{Node}
use Rattle.obj_kinds.specs.declared.sub.Sub.{Sub}
use Rattle.obj_kinds.specs.declared.sub.Sub.TheVariants.{Num, Str}
use Rattle.obj_kinds.specs.declared.value.Value.{Value}
use Rattle.obj_kinds.specs.Order.{sub_cmp}
use Rattle.obj_kinds.proofs.OrderLemmas.{sub_total}
use Rattle.schema_kinds.specs.declared.kind.Item.{Item}
use Rattle.schema_kinds.specs.declared.record.Field.{Field}
use Rattle.record_layout.specs.Shapes.{Rise, RiseFrom, Form}
use Rattle.record_layout.specs.Rows.{element_nodes, array_nodes, lower_nodes}
use Rattle.record_layout.specs.Records.{IsIn, IsNotNamed, HaveNames}

pub not_less : (k : Sub) → sub_cmp k k ≡ Less → ⊥
not_less k h = let other = sub_total.antisymm k k in let turned = ap ordering_reverse h in cc

pub rise-all : (j : Sub) (ks : List Sub) → RiseFrom j ks → (k : Sub) → IsIn k ks → sub_cmp j k ≡ Less
rise-all j [] rise k in' = absurd in'
rise-all j (i ∷ ks) rise k (inl is) = subst (λ (x : Sub). sub_cmp j x ≡ Less) (sym is) rise.0
rise-all j (i ∷ ks) rise k (inr in') = sub_total.trans j i k rise.0 (rise-all i ks rise.1 k in')

rise-tail : (k : Sub) (ks : List Sub) → RiseFrom k ks → Rise ks
rise-tail k [] rise = tt
rise-tail k (j ∷ ks) rise = rise.1

-- rising lists with the same members are one list
pub one_list : (js ks : List Sub) → Rise js → Rise ks → ((k : Sub) → IsIn k js → IsIn k ks) → ((k : Sub) → IsIn k ks → IsIn k js) → js ≡ ks
one_list [] [] a b to from = refl
one_list [] (k ∷ ks) a b to from = absurd (from k (inl refl))
one_list (j ∷ js) [] a b to from = absurd (to j (inl refl))
one_list (j ∷ js) (k ∷ ks) a b to from =
    let same : j ≡ k = first (to j (inl refl)) (from k (inl refl)) in
    let rest : js ≡ ks = one_list js ks (rise-tail j js a) (rise-tail k ks b)
    (λ x in'. behind x (to x (inr in')) (λ is. not_less j (subst (λ (y : Sub). sub_cmp j y ≡ Less) (is ∙ sym same) (rise-all j js a x in'))))
    (λ x in'. before x (from x (inr in')) (λ is. not_less k (subst (λ (y : Sub). sub_cmp k y ≡ Less) (is ∙ same) (rise-all k ks b x in')))) in
    λ i. same i ∷ rest i
  where
    first : IsIn j (k ∷ ks) → IsIn k (j ∷ js) → j ≡ k
    first (inl is) other = is
    first (inr in') (inl is) = sym is
    first (inr in') (inr in'') = absurd (not_less j (sub_total.trans j k j (rise-all j js a k in'') (rise-all k ks b j in')))

    behind : (x : Sub) → IsIn x (k ∷ ks) → (x ≡ k → ⊥) → IsIn x ks
    behind x (inl is) apart = absurd (apart is)
    behind x (inr in') apart = in'

    before : (x : Sub) → IsIn x (j ∷ js) → (x ≡ j → ⊥) → IsIn x js
    before x (inl is) apart = absurd (apart is)
    before x (inr in') apart = in'

-- a way is one of those of some nodes
abbrev pub IsWay : List Sub → List (List Sub × Value) → Type 0
IsWay way [] = ⊥
IsWay way (e ∷ es) = (way ≡ e.0) ⊎ IsWay way es

pub way-append : (way : List Sub) (xs ys : List (List Sub × Value)) → IsWay way (xs ++ ys) → IsWay way xs ⊎ IsWay way ys
way-append way [] ys is = inr is
way-append way (x ∷ xs) ys (inl is) = inl (inl is)
way-append way (x ∷ xs) ys (inr is) = by (way-append way xs ys is)
  where
    by : IsWay way xs ⊎ IsWay way ys → IsWay way (x ∷ xs) ⊎ IsWay way ys
    by (inl a) = inl (inr a)
    by (inr b) = inr b

pub append-first : (way : List Sub) (xs ys : List (List Sub × Value)) → IsWay way xs → IsWay way (xs ++ ys)
append-first way [] ys is = absurd is
append-first way (x ∷ xs) ys (inl is) = inl is
append-first way (x ∷ xs) ys (inr is) = inr (append-first way xs ys is)

pub append-second : (way : List Sub) (xs ys : List (List Sub × Value)) → IsWay way ys → IsWay way (xs ++ ys)
append-second way [] ys is = is
append-second way (x ∷ xs) ys is = inr (append-second way xs ys is)

-- a way of two steps is none of a list below the row
pub no_lower : (name : List ℕ) (k : Sub) (rest : List Sub) (ls : List (List ℕ × List Form)) (fs : List Field) → IsWay (Str name ∷ k ∷ rest) (lower_nodes ls fs) → ⊥
no_lower name k rest [] fs is = is
no_lower name k rest (l ∷ ls) fs (inl is) = cc
no_lower name k rest (l ∷ ls) fs (inr is) = no_lower name k rest ls (drop (length l.1) fs) is

pub element-way : (name other : List ℕ) (k : Sub) (rest : List Sub) (m : List (Sub × Field)) → IsWay (Str name ∷ k ∷ rest) (element_nodes other m) → (name ≡ other) × IsIn k (map (λ e. e.0) m)
element-way name other k rest [] is = absurd is
element-way name other k rest (e ∷ m) (inl is) = let n : name ≡ other = cc in let j : k ≡ e.0 = cc in (n, inl j)
element-way name other k rest (e ∷ m) (inr is) = let p = element-way name other k rest m is in (p.0, inr p.1)

way-element : (name : List ℕ) (k : Sub) (m : List (Sub × Field)) → IsIn k (map (λ e. e.0) m) → IsWay (Str name ∷ k ∷ []) (element_nodes name m)
way-element name k [] is = absurd is
way-element name k (e ∷ m) (inl is) = inl (λ i. Str name ∷ is i ∷ [])
way-element name k (e ∷ m) (inr is) = inr (way-element name k m is)

not_named : (name : List ℕ) (k : Sub) (rest : List Sub) (as' : List (List ℕ × Item)) (maps : List (List (Sub × Field))) → IsNotNamed name as' → IsWay (Str name ∷ k ∷ rest) (array_nodes as' maps) → ⊥
not_named name k rest [] maps apart is = is
not_named name k rest (a ∷ as') [] apart is = is
not_named name k rest (a ∷ as') (m ∷ maps) apart is = by (way-append (Str name ∷ k ∷ rest) (element_nodes a.0 m) (array_nodes as' maps) is) (not_named name k rest as' maps apart.1)
  where
    by : IsWay (Str name ∷ k ∷ rest) (element_nodes a.0 m) ⊎ IsWay (Str name ∷ k ∷ rest) (array_nodes as' maps) → (IsWay (Str name ∷ k ∷ rest) (array_nodes as' maps) → ⊥) → ⊥
    by (inl e) more = apart.0 (element-way name a.0 k rest m e).0
    by (inr r) more = more r

-- the elements of an array are those under its name
pub array-way : (a : List ℕ × Item) (as' : List (List ℕ × Item)) (m : List (Sub × Field)) (maps : List (List (Sub × Field))) (k : Sub) (rest : List Sub) → IsNotNamed a.0 as' → IsWay (Str a.0 ∷ k ∷ rest) (array_nodes (a ∷ as') (m ∷ maps)) → IsIn k (map (λ e. e.0) m)
array-way a as' m maps k rest apart is = by (way-append (Str a.0 ∷ k ∷ rest) (element_nodes a.0 m) (array_nodes as' maps) is)
  where
    by : IsWay (Str a.0 ∷ k ∷ rest) (element_nodes a.0 m) ⊎ IsWay (Str a.0 ∷ k ∷ rest) (array_nodes as' maps) → IsIn k (map (λ e. e.0) m)
    by (inl e) = (element-way a.0 a.0 k rest m e).1
    by (inr r) = absurd (not_named a.0 k rest as' maps apart r)

pub way-array : (a : List ℕ × Item) (as' : List (List ℕ × Item)) (m : List (Sub × Field)) (maps : List (List (Sub × Field))) (k : Sub) → IsIn k (map (λ e. e.0) m) → IsWay (Str a.0 ∷ k ∷ []) (array_nodes (a ∷ as') (m ∷ maps))
way-array a as' m maps k is = append-first (Str a.0 ∷ k ∷ []) (element_nodes a.0 m) (array_nodes as' maps) (way-element a.0 k m is)
