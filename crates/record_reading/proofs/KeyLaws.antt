-- The subscripts below a node: they rise, and each is that of a node that is there.
use Rattle.std.proofs.Common.{◌≡◌, ◌≢◌, ℕ, zero, suc, ◌<◌, ◌≤◌, Bool, true, false, cond, not, List, [], ◌∷◌, ◌++◌, drop, length, get_or, Option, None, Some, is_some, IsTrue, refl, sym, ap, subst, ◌∙◌, arith, ◌⊎◌, inl, inr}
use Rattle.std.specs.declared.cmp.Ordering.{Ordering}
use Rattle.std.specs.declared.cmp.Ordering.TheVariants.{Less, Equal, Greater}
use Rattle.std.specs.Ordering.{eq_by_cmp, is_eq, is_lt, ordering_reverse}
use Rattle.std.specs.Cmp.Lexicographic.{nat_list_cmp_total}
use Rattle.std.specs.FinMap.{find, is_sorted, from_entries, get-from_entries}
use Rattle.std.specs.FinMap.Entries.{below_all}
use Rattle.std.specs.List.Sorted.{IsPartitionedBy}
use Rattle.std.proofs.lemmas.Cmp.{tied_itself}
use Rattle.std.proofs.lemmas.List.{append_assoc, append-nil}
use Rattle.obj_kinds.specs.declared.node.Node.{Node}
use Rattle.obj_kinds.specs.declared.sub.Sub.{Sub}
use Rattle.obj_kinds.specs.declared.sub.Sub.TheVariants.{Str}
use Rattle.obj_kinds.specs.declared.value.Value.{Value}
use Rattle.obj_kinds.specs.Order.{text_cmp, sub_cmp, node_cmp}
use Rattle.obj_kinds.proofs.OrderLemmas.{sub_total, sub_exact, node_total, node_exact}
use Rattle.obj_kinds.proofs.TextLaws.{text_tie-is}
use Rattle.global_tree.specs.Below.{sub_behind, step_below, is_after, if_after}
use Rattle.global_tree.proofs.MapLaws.{one_key}
use Rattle.global_tree.proofs.Parts.{first, second, both}
use Rattle.global_tree.proofs.Parted.{parted_by}
use Rattle.global_tree.proofs.StepLaws.{lesser, step_less, steps_rise, steps_run}
use Rattle.record_layout.specs.Shapes.{Rise, RiseFrom}
use Rattle.record_layout.specs.Rows.{below}
use Rattle.record_layout.specs.Records.{IsIn, StandsAt, IsTrueSource}
use Rattle.record_reading.specs.Keys.{key_then, keys_after, keys_below, IsStart}
use Rattle.record_reading.specs.Rows.{source_in}

abbrev pub NodePairs : Type 0
NodePairs = List (Node × Value)

-- WAYS BELOW A NODE

behind-is : (front way : List Sub) (s : Sub) → sub_behind front way ≡ Some s → (rest : List Sub) × (way ≡ front ++ s ∷ rest)
behind-is [] [] s h = cc
behind-is [] (y ∷ way) s h = let same : y ≡ s = cc in (way, ap (λ t. t ∷ way) same)
behind-is (x ∷ front) [] s h = cc
behind-is (x ∷ front) (y ∷ way) s h = by (eq_by_cmp sub_cmp x y) refl h (behind-is front way s)
  where
    by : (b : Bool) → eq_by_cmp sub_cmp x y ≡ b → cond b (sub_behind front way) None ≡ Some s → (sub_behind front way ≡ Some s → (rest : List Sub) × (way ≡ front ++ s ∷ rest)) → (rest : List Sub) × (y ∷ way ≡ x ∷ front ++ s ∷ rest)
    by true e k more = let p = more k in let same : y ≡ x = sym (one_key sub_exact x y e) in (p.0, λ i. same i ∷ p.1 i)
    by false e k more = cc

is-behind : (front : List Sub) (s : Sub) (rest : List Sub) → sub_behind front (front ++ s ∷ rest) ≡ Some s
is-behind [] s rest = refl
is-behind (x ∷ front) s rest = ap (λ r. cond (is_eq r) (sub_behind front (front ++ s ∷ rest)) None) (tied_itself sub_total x) ∙ is-behind front s rest

pub step-is : (n m : Node) (s : Sub) → step_below n m ≡ Some s → (rest : List Sub) × (m ≡ below n (s ∷ rest))
unfolding step_below
step-is n m s h = by (eq_by_cmp text_cmp n.global m.global) refl h
  where
    by : (b : Bool) → eq_by_cmp text_cmp n.global m.global ≡ b → cond b (sub_behind n.subs m.subs) None ≡ Some s → (rest : List Sub) × (m ≡ below n (s ∷ rest))
    by true e k =
        let p = behind-is n.subs m.subs s k in
        let g : m.global ≡ n.global = sym (one_key (λ x y t. text_tie-is x y t) n.global m.global e) in
        (p.0, λ i. record { global = g i; subs = p.1 i })
    by false e k = cc

pub is-step : (n : Node) (s : Sub) (rest : List Sub) → step_below n (below n (s ∷ rest)) ≡ Some s
unfolding step_below
is-step n s rest = ap (λ r. cond (is_eq r) (sub_behind n.subs (n.subs ++ s ∷ rest)) None) (tied_itself nat_list_cmp_total n.global) ∙ is-behind n.subs s rest

-- KEYS RISE

late-is : (last p : Option Sub) (k : Sub) → if_after last p ≡ Some k → (p ≡ Some k) × (is_after last k ≡ true)
late-is last None k h = cc
late-is last (Some u) k h = at (is_after last u) refl h
  where
    at : (b : Bool) → is_after last u ≡ b → cond b (Some u) None ≡ Some k → (Some u ≡ Some k) × (is_after last k ≡ true)
    at true g j = let same : u ≡ k = cc in (j, ap (is_after last) (sym same) ∙ g)
    at false g j = cc

abbrev RisesAfter : Option Sub → List Sub → Type 0
RisesAfter None ks = Rise ks
RisesAfter (Some j) ks = RiseFrom j ks

keys_rise : (n : Node) (last : Option Sub) (es : NodePairs) → RisesAfter last (keys_after n last es)
keys_rise n None [] = tt
keys_rise n (Some j) [] = tt
keys_rise n last (e ∷ es) = by (if_after last (step_below n e.0)) refl last (keys_rise n last es) (λ k. keys_rise n (Some k) es) (λ k h. (late-is last (step_below n e.0) k h).1)
  where
    by : (o : Option Sub) → if_after last (step_below n e.0) ≡ o → (l : Option Sub) → RisesAfter l (keys_after n last es) → ((k : Sub) → RiseFrom k (keys_after n (Some k) es)) → ((k : Sub) → if_after last (step_below n e.0) ≡ Some k → is_after l k ≡ true)
        → RisesAfter l (key_then o (keys_after n last es) (λ k. keys_after n (Some k) es))
    by None h l others next late = others
    by (Some k) h None others next late = next k
    by (Some k) h (Some j) others next late = (lesser (sub_cmp j k) (late k h), next k)

-- EACH KEY STANDS THERE

abbrev has : Node → NodePairs → Bool
has m es = is_some (find node_cmp m es)

has_first : (e : Node × Value) (es : NodePairs) → has e.0 (e ∷ es) ≡ true
has_first e es = ap (λ r. is_some (cond (is_eq r) (Some e.1) (find node_cmp e.0 es))) (tied_itself node_total e.0)

has_more : (m : Node) (e : Node × Value) (es : NodePairs) → has m es ≡ true → has m (e ∷ es) ≡ true
has_more m e es h = by (eq_by_cmp node_cmp m e.0)
  where
    by : (b : Bool) → is_some (cond b (Some e.1) (find node_cmp m es)) ≡ true
    by true = refl
    by false = h

key-there : (n : Node) (last : Option Sub) (es : NodePairs) (k : Sub) → IsIn k (keys_after n last es) → (m : Node) × (has m es ≡ true) × (step_below n m ≡ Some k)
key-there n last [] k is = absurd is
key-there n last (e ∷ es) k is = by (if_after last (step_below n e.0)) refl is (key-there n last es k) (λ j. key-there n (Some j) es k)
  where
    by : (o : Option Sub) → if_after last (step_below n e.0) ≡ o → IsIn k (key_then o (keys_after n last es) (λ j. keys_after n (Some j) es))
        → (IsIn k (keys_after n last es) → (m : Node) × (has m es ≡ true) × (step_below n m ≡ Some k))
        → ((j : Sub) → IsIn k (keys_after n (Some j) es) → (m : Node) × (has m es ≡ true) × (step_below n m ≡ Some k))
        → (m : Node) × (has m (e ∷ es) ≡ true) × (step_below n m ≡ Some k)
    by None h i others next = let p = others i in (p.0, has_more p.0 e es p.1, p.2)
    by (Some j) h (inl same) others next = (e.0, has_first e es, (late-is last (step_below n e.0) j h).0 ∙ ap Some (sym same))
    by (Some j) h (inr i) others next = let p = next j i in (p.0, has_more p.0 e es p.1, p.2)

found_above : (x : Node) (es : NodePairs) (k : Node) → IsTrue (below_all node_cmp x es) → has k es ≡ true → node_cmp x k ≡ Less
found_above x [] k h is = cc
found_above x (e ∷ es) k h is = by (found_above x es k (second _ _ h)) (eq_by_cmp node_cmp k e.0) refl is
  where
    by : (has k es ≡ true → node_cmp x k ≡ Less) → (b : Bool) → eq_by_cmp node_cmp k e.0 ≡ b → is_some (cond b (Some e.1) (find node_cmp k es)) ≡ true → node_cmp x k ≡ Less
    by rest true g k' = ap (node_cmp x) (one_key node_exact k e.0 g) ∙ lesser _ (first _ _ h)
    by rest false g k' = rest k'

there-key : (n : Node) (last : Option Sub) (es : NodePairs) → IsTrue (is_sorted node_cmp es) → (m : Node) (k : Sub) → has m es ≡ true → step_below n m ≡ Some k → is_after last k ≡ true → IsIn k (keys_after n last es)
there-key n last [] rising m k there step late = cc
there-key n last (e ∷ es) rising m k there step late =
    by (eq_by_cmp node_cmp m e.0) refl there (if_after last (step_below n e.0)) refl (λ h. there-key n last es (second _ _ rising) m k h step late) (λ j h after. there-key n (Some j) es (second _ _ rising) m k h step after)
  where
    here : eq_by_cmp node_cmp m e.0 ≡ true → if_after last (step_below n e.0) ≡ Some k
    here g = ap (if_after last) (ap (step_below n) (sym (one_key node_exact m e.0 g)) ∙ step) ∙ ap (λ b. cond b (Some k) None) late

    later : (j : Sub) → step_below n e.0 ≡ Some j → has m es ≡ true → ((after : is_after (Some j) k ≡ true) → IsIn k (keys_after n (Some j) es)) → (r : Ordering) → sub_cmp j k ≡ r → IsIn k (j ∷ keys_after n (Some j) es)
    later j h is more Less r = inr (more (ap is_lt r))
    later j h is more Equal r = inl (sym (sub_exact j k r))
    later j h is more Greater r = absurd (steps_rise n e.0 m j k (found_above e.0 es m (first _ _ rising) is) h step (sub_total.antisymm k j ∙ ap ordering_reverse r))

    by : (b : Bool) → eq_by_cmp node_cmp m e.0 ≡ b → is_some (cond b (Some e.1) (find node_cmp m es)) ≡ true → (o : Option Sub) → if_after last (step_below n e.0) ≡ o → (has m es ≡ true → IsIn k (keys_after n last es))
        → ((j : Sub) → has m es ≡ true → is_after (Some j) k ≡ true → IsIn k (keys_after n (Some j) es)) → IsIn k (key_then o (keys_after n last es) (λ j. keys_after n (Some j) es))
    by true g is None h others next = let some = here g in cc
    by true g is (Some j) h others next = let some = here g in let same : k ≡ j = cc in inl same
    by false g is None h others next = others is
    by false g is (Some j) h others next = later j (late-is last (step_below n e.0) j h).0 is (next j is) (sub_cmp j k) refl

-- the source of nodes in rising order is a true one
pub true_source : (nodes : NodePairs) (row : Node) → IsTrue (is_sorted node_cmp nodes) → IsTrueSource (from_entries nodes) row (source_in nodes row)
unfolding keys_below
true_source nodes row rising = record {
  values = λ way. sym (get-from_entries node_total nodes (below row way));
  rising = λ name. keys_rise (below row (Str name ∷ [])) None nodes;
  true_keys = λ name k is. stands name k (key-there (below row (Str name ∷ [])) None nodes k is);
  all_keys = λ name k stand. found name k stand;
}
  where
    under : (name : List ℕ) (k : Sub) (rest : List Sub) → below (below row (Str name ∷ [])) (k ∷ rest) ≡ below row (Str name ∷ k ∷ rest)
    under name k rest = λ i. record { global = row.global; subs = append_assoc row.subs (Str name ∷ []) (k ∷ rest) i }

    stands : (name : List ℕ) (k : Sub) → (m : Node) × (has m nodes ≡ true) × (step_below (below row (Str name ∷ [])) m ≡ Some k) → StandsAt (from_entries nodes) row name k
    stands name k p =
        let q = step-is (below row (Str name ∷ [])) p.0 k p.2 in
        let same : p.0 ≡ below row (Str name ∷ k ∷ q.0) = q.1 ∙ under name k q.0 in
        (q.0, ap is_some (get-from_entries node_total nodes (below row (Str name ∷ k ∷ q.0))) ∙ ap (λ m. has m nodes) (sym same) ∙ p.1)

    found : (name : List ℕ) (k : Sub) → StandsAt (from_entries nodes) row name k → IsIn k (keys_after (below row (Str name ∷ [])) None nodes)
    found name k p =
        let m = below row (Str name ∷ k ∷ p.0) in
        there-key (below row (Str name ∷ [])) None nodes rising m k (ap is_some (sym (get-from_entries node_total nodes m)) ∙ p.1)
        (ap (step_below (below row (Str name ∷ []))) (sym (under name k p.0)) ∙ is-step (below row (Str name ∷ [])) k p.0) refl

-- WHERE THE SEARCH BEGINS AND ENDS

-- what stands before the node or at it isn't below it
no_step : (n m : Node) → not (is_lt (node_cmp n m)) ≡ true → step_below n m ≡ None
no_step n m h = by (step_below n m) refl
  where
    by : (o : Option Sub) → step_below n m ≡ o → o ≡ None
    by None e = refl
    by (Some s) e = let less : node_cmp n m ≡ Less = step_less n m s e in let no : is_lt (node_cmp n m) ≡ true = ap is_lt less in cc

-- behind the first node that isn't below n there are none
pub none_behind : (n : Node) (last : Option Sub) (x : Node × Value) (es : NodePairs) → node_cmp n x.0 ≡ Less → step_below n x.0 ≡ None → IsTrue (below_all node_cmp x.0 es) → keys_after n last (x ∷ es) ≡ []
none_behind n last x es less none behind = ap (λ o. key_then (if_after last o) (keys_after n last es) (λ k. keys_after n (Some k) es)) none ∙ past es behind
  where
    past : (ds : NodePairs) → IsTrue (below_all node_cmp x.0 ds) → keys_after n last ds ≡ []
    past [] h = refl
    past (d ∷ ds) h = ap (λ o. key_then (if_after last o) (keys_after n last ds) (λ k. keys_after n (Some k) ds)) (here (step_below n d.0) refl) ∙ past ds (second _ _ h)
      where
        here : (o : Option Sub) → step_below n d.0 ≡ o → o ≡ None
        here None g = refl
        here (Some t) g = absurd (steps_run n x.0 d.0 t less (lesser _ (first _ _ h)) g none)

pub parted_keys : (n : Node) (es : NodePairs) → IsTrue (is_sorted node_cmp es) → IsPartitionedBy (λ e. not (is_lt (node_cmp n e.0))) es
parted_keys n es rising = parted_by (λ m. not (is_lt (node_cmp n m))) falls es rising
  where
    falls : (a b : Node) → node_cmp a b ≡ Less → not (is_lt (node_cmp n b)) ≡ true → not (is_lt (node_cmp n a)) ≡ true
    falls a b less p = by (is_lt (node_cmp n a)) refl
      where
        by : (q : Bool) → is_lt (node_cmp n a) ≡ q → not q ≡ true
        by true g = let b_less : is_lt (node_cmp n b) ≡ true = ap is_lt (node_total.trans n a b (lesser _ g) less) in cc
        by false g = refl

all_behind : (n : Node) (es : NodePairs) → ((j : ℕ) (d : Node × Value) → j < length es → not (is_lt (node_cmp n (get_or es j d).0)) ≡ false) → IsTrue (below_all node_cmp n es)
all_behind n [] h = refl
all_behind n (e ∷ es) h = both _ _ (turned (is_lt (node_cmp n e.0)) (h 0 e (omega arith))) (all_behind n es (λ j d lt. h (suc j) d (omega arith)))
  where
    turned : (b : Bool) → not b ≡ false → IsTrue b
    turned true k = refl
    turned false k = cc

pub start_is : (n : Node) (es : NodePairs) (i : ℕ) → IsTrue (is_sorted node_cmp es) → i ≤ length es
    → ((j : ℕ) (d : Node × Value) → 0 ≤ j → j < i → not (is_lt (node_cmp n (get_or es j d).0)) ≡ true)
    → ((j : ℕ) (d : Node × Value) → i ≤ j → j < length es → not (is_lt (node_cmp n (get_or es j d).0)) ≡ false)
    → IsStart n es i
start_is n [] zero rising within before behind = record { within = within; keys = refl; rising = rising; behind = refl }
start_is n [] (suc i) rising within before behind = absurd (omega arith)
start_is n (e ∷ es) zero rising within before behind = record { within = within; keys = refl; rising = rising; behind = all_behind n (e ∷ es) (λ j d lt. behind j d (omega arith) lt) }
start_is n (e ∷ es) (suc i) rising within before behind =
    let p = start_is n es i (second _ _ rising) (omega arith) (λ j d lo lt. before (suc j) d (omega arith) (omega arith)) (λ j d le lt. behind (suc j) d (omega arith) (omega arith)) in
    record {
      within = within;
      keys = p.keys ∙ sym (ap (λ o. key_then (if_after None o) (keys_after n None es) (λ k. keys_after n (Some k) es)) (no_step n e.0 (before 0 e (omega arith) (omega arith))));
      rising = p.rising;
      behind = p.behind;
    }

-- the keys so far are all, where the first node that is left isn't below n
pub none_ahead : (n : Node) (last : Option Sub) {whole : List Sub} (keys : List Sub) (rest : NodePairs) (x : Node × Value) (more : NodePairs) → rest ≡ x ∷ more → step_below n x.0 ≡ None
    → IsTrue (is_sorted node_cmp rest) → IsTrue (below_all node_cmp n rest) → keys ++ keys_after n last rest ≡ whole → keys ≡ whole
none_ahead n last {whole} keys rest x more is none rising behind h =
    let sorted : IsTrue (is_sorted node_cmp (x ∷ more)) = subst (λ es. IsTrue (is_sorted node_cmp es)) is rising in
    let after : IsTrue (below_all node_cmp n (x ∷ more)) = subst (λ es. IsTrue (below_all node_cmp n es)) is behind in
    let nothing : keys_after n last (x ∷ more) ≡ [] = none_behind n last x more (lesser _ (first _ _ after)) none (first _ _ sorted) in
    sym (append-nil keys) ∙ ap (λ ks. keys ++ ks) (sym nothing) ∙ ap (λ es. keys ++ keys_after n last es) (sym is) ∙ h
