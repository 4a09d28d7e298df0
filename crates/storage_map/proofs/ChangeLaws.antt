-- The changes turn the old nodes into the new ones.
use Rattle.std.proofs.Common.{◌≡◌, ◌↔◌, Bool, true, false, not, cond, ◌&&◌, ◌||◌, List, [], ◌∷◌, map, filter, Option, None, Some, is_some, IsTrue, refl, sym, ap, subst, ◌∙◌}
use Rattle.std.specs.List.{list_any}
use Rattle.std.specs.Ordering.{eq_by_cmp, is_eq, is_lt, ordering_reverse}
use Rattle.std.specs.declared.cmp.Ordering.{Ordering}
use Rattle.std.specs.declared.cmp.Ordering.TheVariants.{Less, Equal, Greater}
use Rattle.std.specs.FinMap.{find, get, entries as listed, entries_sorted, contains_key, get-entries}
use Rattle.std.specs.FinMap.Entries.{is_sorted, below_all, find-where_key}
use Rattle.std.proofs.lemmas.Cmp.{tied_itself}
use Rattle.obj_kinds.specs.declared.node.Node.{Node}
use Rattle.obj_kinds.specs.declared.value.Value.{Value}
use Rattle.obj_kinds.specs.Values.{same_value}
use Rattle.obj_kinds.specs.Order.{node_cmp, covers}
use Rattle.obj_kinds.specs.OrderLaws.{node_total, node_exact}
use Rattle.obj_kinds.proofs.Sorted.{less, first, second, both, stays}
use Rattle.obj_kinds.proofs.ValueLaws.{same_value-is, is-same_value}
use Rattle.global_tree.proofs.MapLaws.{one_key}
use Rattle.global_tree.proofs.StepLaws.{covers_itself}
use Rattle.record_layout.specs.Rows.{Globals}
use Rattle.storage_map.specs.Changes.{same_there, stale, differing, or_set, edited, NoneBelow}

abbrev pub NodePairs : Type 0
NodePairs = List (Node × Value)

pub listed_rises : (m : Globals) → IsTrue (is_sorted node_cmp (listed m))
listed_rises m = stays (is_sorted node_cmp (listed m)) (entries_sorted m)

-- of rising pairs some rise
below_some : (n : Node) (p : Node × Value → Bool) (es : NodePairs) → IsTrue (below_all node_cmp n es) → IsTrue (below_all node_cmp n (filter p es))
below_some n p [] h = h
below_some n p (e ∷ es) h = by (p e) (below_some n p es (second _ _ h))
  where
    by : (b : Bool) → IsTrue (below_all node_cmp n (filter p es)) → IsTrue (below_all node_cmp n (cond b (e ∷ filter p es) (filter p es)))
    by true rest = both _ _ (first _ _ h) rest
    by false rest = rest

pub some_rise : (p : Node × Value → Bool) (es : NodePairs) → IsTrue (is_sorted node_cmp es) → IsTrue (is_sorted node_cmp (filter p es))
some_rise p [] h = h
some_rise p (e ∷ es) h = by (p e) (some_rise p es (second _ _ h))
  where
    by : (b : Bool) → IsTrue (is_sorted node_cmp (filter p es)) → IsTrue (is_sorted node_cmp (cond b (e ∷ filter p es) (filter p es)))
    by true rest = both _ _ (below_some e.0 p es (first _ _ h)) rest
    by false rest = rest

pub differing_rise : (old new : NodePairs) → IsTrue (is_sorted node_cmp new) → IsTrue (is_sorted node_cmp (differing old new))
unfolding differing
differing_rise old new h = some_rise (λ e. not (same_there (find node_cmp e.0 old) e.1)) new h

-- a test that answers whether two values are the same
pub same_from : (b : Bool) (v w : Value) → (IsTrue b ↔ (v ≡ w)) → b ≡ same_value v w
same_from true v w h = sym (is-same_value v w (h.0 refl))
same_from false v w h = by (same_value v w) refl
  where
    by : (c : Bool) → same_value v w ≡ c → false ≡ same_value v w
    by true e = let no : false ≡ true = h.1 (same_value-is v w e) in cc
    by false e = sym e

apart : (n m : Node) → node_cmp n m ≡ Less → eq_by_cmp node_cmp m n ≡ false
apart n m h = ap is_eq (node_total.antisymm m n ∙ ap ordering_reverse h)

-- in rising pairs each node has its value
found_behind : (t : Node → Option Value → Bool) (x : Node × Value) (xs es : NodePairs) → IsTrue (below_all node_cmp x.0 es)
    → filter (λ e. t e.0 (find node_cmp e.0 (x ∷ xs))) es ≡ filter (λ e. t e.0 (find node_cmp e.0 xs)) es
found_behind t x xs [] h = refl
found_behind t x xs (e ∷ es) h =
    let same : find node_cmp e.0 (x ∷ xs) ≡ find node_cmp e.0 xs = ap (λ b. cond b (Some x.1) (find node_cmp e.0 xs)) (apart x.0 e.0 (less _ (first _ _ h))) in
    ap (λ o. cond (t e.0 o) (e ∷ filter (λ d. t d.0 (find node_cmp d.0 (x ∷ xs))) es) (filter (λ d. t d.0 (find node_cmp d.0 (x ∷ xs))) es)) same
    ∙ ap (λ l. cond (t e.0 (find node_cmp e.0 xs)) (e ∷ l) l) (found_behind t x xs es (second _ _ h))

all_found : (t : Node → Option Value → Bool) (es : NodePairs) → IsTrue (is_sorted node_cmp es) → filter (λ e. t e.0 (Some e.1)) es ≡ filter (λ e. t e.0 (find node_cmp e.0 es)) es
all_found t [] h = refl
all_found t (e ∷ es) h =
    let here : find node_cmp e.0 (e ∷ es) ≡ Some e.1 = ap (λ o. cond (is_eq o) (Some e.1) (find node_cmp e.0 es)) (tied_itself node_total e.0) in
    let rest = all_found t es (second _ _ h) ∙ sym (found_behind t e es es (first _ _ h)) in
    ap (λ l. cond (t e.0 (Some e.1)) (e ∷ l) l) rest
    ∙ ap (λ o. cond (t e.0 o) (e ∷ filter (λ d. t d.0 (find node_cmp d.0 (e ∷ es))) es) (filter (λ d. t d.0 (find node_cmp d.0 (e ∷ es))) es)) (sym here)

abbrev pub same_both : Option Value → Option Value → Bool
same_both o None = false
same_both o (Some v) = same_there o v

exactly : (p : Node → Bool) (q x : Node) → node_cmp q x ≡ Equal → p x ≡ p q
exactly p q x h = ap p (sym (node_exact q x h))

set-there : (old new : NodePairs) (n : Node) → IsTrue (is_sorted node_cmp new)
    → find node_cmp n (differing old new) ≡ cond (not (same_both (find node_cmp n old) (find node_cmp n new))) (find node_cmp n new) None
unfolding differing
set-there old new n h =
    let t : Node → Option Value → Bool = λ m o. not (same_both (find node_cmp m old) o) in
    let p : Node → Bool = λ m. t m (find node_cmp m new) in
    ap (find node_cmp n) (all_found t new h) ∙ find-where_key node_cmp p n (exactly p n) new

abbrev any_over : Node → NodePairs → Bool
any_over n fs = list_any (λ k. covers k n) (map (λ d. d.0) fs)

-- a node that is found is among those of a test that it passes
kept_any : (p : Node → Bool) (n : Node) → p n ≡ true → (es : NodePairs) (w : Value) → find node_cmp n es ≡ Some w → list_any (λ k. covers k n) (map (λ e. e.0) (filter (λ e. p e.0) es)) ≡ true
kept_any p n pass [] w h = cc
kept_any p n pass (e ∷ es) w h = by (eq_by_cmp node_cmp n e.0) refl (p e.0) refl (kept_any p n pass es w)
  where
    more : (b : Bool) → any_over n (filter (λ d. p d.0) es) ≡ true → any_over n (cond b (e ∷ filter (λ d. p d.0) es) (filter (λ d. p d.0) es)) ≡ true
    more true rest = by_or (covers e.0 n)
      where
        by_or : (c : Bool) → (c || any_over n (filter (λ d. p d.0) es)) ≡ true
        by_or true = refl
        by_or false = rest
    more false rest = rest

    by : (b : Bool) → eq_by_cmp node_cmp n e.0 ≡ b → (c : Bool) → p e.0 ≡ c → (find node_cmp n es ≡ Some w → any_over n (filter (λ d. p d.0) es) ≡ true) → any_over n (cond (p e.0) (e ∷ filter (λ d. p d.0) es) (filter (λ d. p d.0) es)) ≡ true
    by true t c q rest =
        let same : n ≡ e.0 = one_key node_exact n e.0 t in
        let pass' : p e.0 ≡ true = ap p (sym same) ∙ pass in
        rw pass' (ap (λ b. b || any_over n (filter (λ d. p d.0) es)) (subst (λ (m : Node). covers m n ≡ true) same (covers_itself n)))
    by false t c q rest = more (p e.0) (rest (ap (λ b. cond b (Some e.1) (find node_cmp n es)) (sym t) ∙ h))

stale-there : (old new : NodePairs) (n : Node) (w : Value) → find node_cmp n old ≡ Some w → find node_cmp n new ≡ None → list_any (λ k. covers k n) (stale old new) ≡ true
unfolding stale
stale-there old new n w was gone =
    let p : Node → Bool = λ m. not (is_some (find node_cmp m new)) in
    kept_any p n (ap (λ o. not (is_some o)) gone) old w was

module _ (old new : Globals) (n : Node) (none : NoneBelow old new) where
  abbrev kills : Bool
  kills = list_any (λ k. covers k n) (stale (listed old) (listed new))

  with_sets : edited (stale (listed old) (listed new)) (differing (listed old) (listed new)) old n ≡ or_set (cond (not (same_both (get old n) (get new n))) (get new n) None) (cond kills None (get old n))
  with_sets =
      ap (λ o. or_set o (cond kills None (get old n))) (
      set-there (listed old) (listed new) n (listed_rises new)
      ∙ ap (λ o. cond (not (same_both o (find node_cmp n (listed new)))) (find node_cmp n (listed new)) None) (sym (get-entries old n))
      ∙ ap (λ o. cond (not (same_both (get old n) o)) o None) (sym (get-entries new n))
      )

  kept : (v w : Value) (same : Bool) → same_value w v ≡ same → kills ≡ false → or_set (cond (not (same_value w v)) (Some v) None) (cond kills None (Some w)) ≡ Some v
  kept v w true e free = rw (e, free) (ap Some (same_value-is w v e))
  kept v w false e free = rw e refl

  nothing : (b : Bool) → cond {A = Option Value} b None None ≡ None
  nothing true = refl
  nothing false = refl

  by_values : (o : Option Value) → get new n ≡ o → (b : Option Value) → get old n ≡ b → or_set (cond (not (same_both b o)) o None) (cond kills None b) ≡ o
  by_values (Some v) e None d = refl
  by_values (Some v) e (Some w) d = kept v w (same_value w v) refl (none n (ap is_some e))
  by_values None e None d = nothing kills
  by_values None e (Some w) d = ap (λ b. cond b None (Some w)) (stale-there (listed old) (listed new) n w (sym (get-entries old n) ∙ d) (sym (get-entries new n) ∙ e))

  pub changes_turn : edited (stale (listed old) (listed new)) (differing (listed old) (listed new)) old n ≡ get new n
  changes_turn = with_sets ∙ by_values (get new n) refl (get old n) refl
