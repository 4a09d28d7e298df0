-- A mark stands at each node that is an entry of a whole record, and at no other.
use Rattle.std.proofs.Common.{◌≡◌, ◌⊎◌, inl, inr, Bool, true, false, cond, not, ◌||◌, List, [], ◌∷◌, map, Some, refl, sym, ap, subst, ◌∙◌}
use Rattle.std.specs.Ordering.{eq_by_cmp, is_eq}
use Rattle.std.specs.List.{list_any}
use Rattle.std.specs.FinMap.{find, get, get-from_entries}
use Rattle.std.proofs.lemmas.Cmp.{tied_itself}
use Rattle.obj_kinds.specs.declared.node.Node.{Node}
use Rattle.obj_kinds.specs.declared.value.Value.{Value}
use Rattle.obj_kinds.specs.declared.value.Value.TheVariants as value
use Rattle.obj_kinds.specs.declared.value.Value.TheOpen.{Value-F}
use Rattle.obj_kinds.specs.declared.value.Value.TheViews.{out-Value, roll-Value, roll-out-Value}
use Rattle.obj_kinds.specs.Order.{node_cmp}
use Rattle.obj_kinds.specs.OrderLaws.{node_total, node_exact}
use Rattle.obj_kinds.proofs.ValueLaws.{out-Str}
use Rattle.global_tree.proofs.MapLaws.{one_key}
use Rattle.schema_kinds.specs.declared.class.Class.{Class}
use Rattle.schema_kinds.specs.declared.key.Key.{Key}
use Rattle.schema_kinds.specs.declared.record.Record.{Record}
use Rattle.storage_map.specs.Entries.{entry_list, valued_empty, entries}
use Rattle.world_audit.specs.declared.found.Found.{Found}
use Rattle.world_audit.specs.Finds.{Finds}
use Rattle.world_audit.specs.Least.{IsAmong, IsElement}
use Rattle.world_audit.specs.Marks.{is_no_text, is_entered, lacking, entries_of, mark, mark_all, mark_finds, no_marks}
use Rattle.world_audit.specs.Objects.{Told}

-- ---- entries of a record

among_found : (ns : List Node) (n : Node) → IsAmong n ns → find node_cmp n (valued_empty ns) ≡ Some (value.Str [])
among_found [] n h = absurd h
among_found (m ∷ ms) n h = by (eq_by_cmp node_cmp n m) refl h (among_found ms n)
  where
    by : (b : Bool) → eq_by_cmp node_cmp n m ≡ b → (n ≡ m) ⊎ IsAmong n ms → (IsAmong n ms → find node_cmp n (valued_empty ms) ≡ Some (value.Str [])) → cond b (Some (value.Str [])) (find node_cmp n (valued_empty ms)) ≡ Some (value.Str [])
    by true t k more = refl
    by false t (inl same) more = let tie : eq_by_cmp node_cmp n m ≡ true = ap (λ k. eq_by_cmp node_cmp k m) same ∙ ap is_eq (tied_itself node_total m) in cc
    by false t (inr k) more = more k

pub record IsEmptyEntry (n : Node) (ns : List Node) (v : Value) : Type 0 where
  pub among : IsAmong n ns
  pub empty : v ≡ value.Str []

found_among : (ns : List Node) (n : Node) (v : Value) → find node_cmp n (valued_empty ns) ≡ Some v → IsEmptyEntry n ns v
found_among [] n v h = cc
found_among (m ∷ ms) n v h = by (eq_by_cmp node_cmp n m) refl h (found_among ms n v)
  where
    by : (b : Bool) → eq_by_cmp node_cmp n m ≡ b → cond b (Some (value.Str [])) (find node_cmp n (valued_empty ms)) ≡ Some v → (find node_cmp n (valued_empty ms) ≡ Some v → IsEmptyEntry n ms v) → IsEmptyEntry n (m ∷ ms) v
    by true t k more = let is : v ≡ value.Str [] = cc in record { among = inl (one_key node_exact n m t); empty = is }
    by false t k more = let p = more k in record { among = inr p.among; empty = p.empty }

pub entry_stands : (classes : List Class) (key : Key) (r : Record) (n : Node) → IsAmong n (entry_list classes key r) → get (entries classes key r) n ≡ Some (value.Str [])
unfolding entries
entry_stands classes key r n h = get-from_entries node_total (valued_empty (entry_list classes key r)) n ∙ among_found (entry_list classes key r) n h

pub stands_entry : (classes : List Class) (key : Key) (r : Record) (n : Node) (v : Value) → get (entries classes key r) n ≡ Some v → IsEmptyEntry n (entry_list classes key r) v
unfolding entries
stands_entry classes key r n v h = found_among (entry_list classes key r) n v (sym (get-from_entries node_total (valued_empty (entry_list classes key r)) n) ∙ h)

-- ---- entries that are lacking

pub lacking_is : (nodes : Told) (ns : List Node) (n : Node) → IsAmong n (lacking nodes ns) → IsAmong n ns × (is_entered (find node_cmp n nodes) ≡ false)
lacking_is nodes [] n h = absurd h
lacking_is nodes (m ∷ ms) n h = by (is_entered (find node_cmp m nodes)) refl h (λ k. let p = lacking_is nodes ms n k in (inr p.0, p.1))
  where
    by : (b : Bool) → is_entered (find node_cmp m nodes) ≡ b → IsAmong n (cond (not b) (m ∷ lacking nodes ms) (lacking nodes ms))
        → (IsAmong n (lacking nodes ms) → IsAmong n (m ∷ ms) × (is_entered (find node_cmp n nodes) ≡ false)) → IsAmong n (m ∷ ms) × (is_entered (find node_cmp n nodes) ≡ false)
    by true e k rest = rest k
    by false e (inl same) rest = (inl same, ap (λ j. is_entered (find node_cmp j nodes)) same ∙ e)
    by false e (inr more) rest = rest more

pub is_lacking : (nodes : Told) (ns : List Node) (n : Node) → IsAmong n ns → is_entered (find node_cmp n nodes) ≡ false → IsAmong n (lacking nodes ns)
is_lacking nodes [] n h none = absurd h
is_lacking nodes (m ∷ ms) n (inl same) none =
    let here : is_entered (find node_cmp m nodes) ≡ false = ap (λ j. is_entered (find node_cmp j nodes)) (sym same) ∙ none in
    subst (λ b. IsAmong n (cond (not b) (m ∷ lacking nodes ms) (lacking nodes ms))) (sym here) (inl same)
is_lacking nodes (m ∷ ms) n (inr more) none = by (is_entered (find node_cmp m nodes)) (is_lacking nodes ms n more none)
  where
    by : (b : Bool) → IsAmong n (lacking nodes ms) → IsAmong n (cond (not b) (m ∷ lacking nodes ms) (lacking nodes ms))
    by true k = k
    by false k = inr k

-- an entry is there exactly with the empty text
pub entered_empty : (v : Value) → is_entered (Some v) ≡ true → v ≡ value.Str []
entered_empty v h = by (out-Value v) (roll-out-Value v) h
  where
    by : (layer : Value-F Value) → roll-Value layer ≡ v → is_no_text layer ≡ true → v ≡ value.Str []
    by (Value-F.Str []) is k = sym is ∙ value.rolls-Str []
    by (Value-F.Str (b ∷ t)) is k = cc
    by (Value-F.List vs) is k = cc

pub empty_entered : (v : Value) → v ≡ value.Str [] → is_entered (Some v) ≡ true
empty_entered v is = ap (λ u. is_entered (Some u)) is ∙ ap is_no_text (out-Str [])

-- ---- marks

abbrev any_tied : List Node → Node → Bool
any_tied ns n = list_any (λ m. eq_by_cmp node_cmp m n) ns

abbrev pub in_finds : List Class → Finds → Node → Bool
in_finds classes [] n = false
in_finds classes (e ∷ es) n = any_tied (entries_of classes e) n || in_finds classes es n

or_assoc : (a b c : Bool) → (a || b) || c ≡ a || (b || c)
or_assoc true b c = refl
or_assoc false b c = refl

or_none : (a : Bool) → a || false ≡ a
or_none true = refl
or_none false = refl

marked_one : (nodes : Told) (n : Node) (p : Node → Bool) → mark nodes n (map (λ e. p e.0) nodes) ≡ map (λ e. p e.0 || eq_by_cmp node_cmp n e.0) nodes
marked_one [] n p = refl
marked_one (e ∷ es) n p = ap (λ ms. (p e.0 || eq_by_cmp node_cmp n e.0) ∷ ms) (marked_one es n p)

same_marks : (nodes : Told) (p q : Node → Bool) → ((n : Node) → p n ≡ q n) → map (λ e. p e.0) nodes ≡ map (λ e. q e.0) nodes
same_marks [] p q same = refl
same_marks (e ∷ es) p q same = λ i. same e.0 i ∷ same_marks es p q same i

marked_all : (nodes : Told) (ns : List Node) (p : Node → Bool) → mark_all nodes (map (λ e. p e.0) nodes) ns ≡ map (λ e. p e.0 || any_tied ns e.0) nodes
marked_all nodes [] p = same_marks nodes p (λ n. p n || false) (λ n. sym (or_none (p n)))
marked_all nodes (n ∷ ns) p =
    ap (λ ms. mark_all nodes ms ns) (marked_one nodes n p) ∙ marked_all nodes ns (λ m. p m || eq_by_cmp node_cmp n m)
    ∙ same_marks nodes (λ m. (p m || eq_by_cmp node_cmp n m) || any_tied ns m) (λ m. p m || any_tied (n ∷ ns) m) (λ m. or_assoc (p m) (eq_by_cmp node_cmp n m) (any_tied ns m))

marked_finds : (classes : List Class) (nodes : Told) (es : Finds) (p : Node → Bool) → mark_finds classes nodes (map (λ e. p e.0) nodes) es ≡ map (λ e. p e.0 || in_finds classes es e.0) nodes
marked_finds classes nodes [] p = same_marks nodes p (λ n. p n || false) (λ n. sym (or_none (p n)))
marked_finds classes nodes (e ∷ es) p =
    ap (λ ms. mark_finds classes nodes ms es) (marked_all nodes (entries_of classes e) p) ∙ marked_finds classes nodes es (λ m. p m || any_tied (entries_of classes e) m)
    ∙ same_marks nodes (λ m. (p m || any_tied (entries_of classes e) m) || in_finds classes es m) (λ m. p m || in_finds classes (e ∷ es) m) (λ m. or_assoc (p m) (any_tied (entries_of classes e) m) (in_finds classes es m))

none_first : (nodes : Told) → no_marks nodes ≡ map (λ e. false) nodes
none_first [] = refl
none_first (e ∷ es) = ap (λ ms. false ∷ ms) (none_first es)

pub marks_are : (classes : List Class) (nodes : Told) (es : Finds) → mark_finds classes nodes (no_marks nodes) es ≡ map (λ e. in_finds classes es e.0) nodes
marks_are classes nodes es = ap (λ ms. mark_finds classes nodes ms es) (none_first nodes) ∙ marked_finds classes nodes es (λ n. false)

tied_among : (ns : List Node) (n : Node) → any_tied ns n ≡ true → IsAmong n ns
tied_among [] n h = cc
tied_among (m ∷ ms) n h = by (eq_by_cmp node_cmp m n) refl h (tied_among ms n)
  where
    by : (b : Bool) → eq_by_cmp node_cmp m n ≡ b → (b || any_tied ms n) ≡ true → (any_tied ms n ≡ true → IsAmong n ms) → IsAmong n (m ∷ ms)
    by true t k more = inl (sym (one_key node_exact m n t))
    by false t k more = inr (more k)

among_tied : (ns : List Node) (n : Node) → IsAmong n ns → any_tied ns n ≡ true
among_tied [] n h = absurd h
among_tied (m ∷ ms) n (inl same) = ap (λ b. b || any_tied ms n) (ap (eq_by_cmp node_cmp m) same ∙ ap is_eq (tied_itself node_total m))
among_tied (m ∷ ms) n (inr more) = by (eq_by_cmp node_cmp m n) (among_tied ms n more)
  where
    by : (b : Bool) → any_tied ms n ≡ true → (b || any_tied ms n) ≡ true
    by true k = refl
    by false k = k

pub marked_entry : (classes : List Class) (es : Finds) (n : Node) → in_finds classes es n ≡ true → (e : Key × Found) × IsElement e es × IsAmong n (entries_of classes e)
marked_entry classes [] n h = cc
marked_entry classes (e ∷ es) n h = by (any_tied (entries_of classes e) n) refl h (marked_entry classes es n)
  where
    by : (b : Bool) → any_tied (entries_of classes e) n ≡ b → (b || in_finds classes es n) ≡ true → (in_finds classes es n ≡ true → (f : Key × Found) × IsElement f es × IsAmong n (entries_of classes f))
        → (f : Key × Found) × IsElement f (e ∷ es) × IsAmong n (entries_of classes f)
    by true t k more = (e, inl refl, tied_among (entries_of classes e) n t)
    by false t k more = let p = more k in (p.0, inr p.1, p.2)

pub entry_marked : (classes : List Class) (es : Finds) (e : Key × Found) (n : Node) → IsElement e es → IsAmong n (entries_of classes e) → in_finds classes es n ≡ true
entry_marked classes [] e n is h = absurd is
entry_marked classes (d ∷ ds) e n (inl same) h = ap (λ b. b || in_finds classes ds n) (among_tied (entries_of classes d) n (subst (λ (f : Key × Found). IsAmong n (entries_of classes f)) same h))
entry_marked classes (d ∷ ds) e n (inr more) h = by (any_tied (entries_of classes d) n) (entry_marked classes ds e n more h)
  where
    by : (b : Bool) → in_finds classes ds n ≡ true → (b || in_finds classes ds n) ≡ true
    by true k = refl
    by false k = k
