-- Lists: what holds of each item that is left by a test, and the pairs by which two maps differ.
use Rattle.std.proofs.Common.{Ordering, Less, Equal, Greater, ◌≡◌, ◌⊎◌, inl, inr, Bool, true, false, not, cond, List, [], ◌∷◌, map, filter, Option, Some, None, is_some, refl, sym, ap, subst, ◌∙◌}
use Rattle.std.specs.Ordering.{eq_by_cmp, is_eq, match_ordering}
use Rattle.std.specs.BTreeMap.{insert_entry}
use Rattle.std.proofs.lemmas.Cmp.{tied_itself}
use Rattle.std.specs.FinMap.{find, get, entries as listed, get-entries}
use Rattle.obj_kinds.specs.declared.node.Node.{Node}
use Rattle.obj_kinds.specs.declared.value.Value.{Value}
use Rattle.obj_kinds.specs.declared.value.Value.TheVariants as value
use Rattle.obj_kinds.specs.Order.{node_cmp}
use Rattle.obj_kinds.proofs.OrderLemmas.{node_total}
use Rattle.global_tree.specs.Contents.{Globals}
use Rattle.storage_map.specs.Changes.{stale, differing, same_there}
use Rattle.storage_map.specs.Entries.{valued_empty}
use Rattle.storage_map.specs.Ordered.{put_all}
use Rattle.object_runs.specs.Causes.{Each, Has}
use Rattle.good_deletes.proofs.Locks.{some_of}

pub each_to : {A : Type 0} (P Q : A → Type 0) (xs : List A) → ((x : A) → P x → Q x) → Each P xs → Each Q xs
each_to P Q [] h e = tt
each_to P Q (x ∷ xs) h e = (h x e.0, each_to P Q xs h e.1)

pub each_has : {A : Type 0} (P : A → Type 0) (xs : List A) (x : A) → Each P xs → Has x xs → P x
each_has P [] x h has = absurd has
each_has P (y ∷ ys) x h (inl same) = subst P (sym same) h.0
each_has P (y ∷ ys) x h (inr has) = each_has P ys x h.1 has

pub has_each : {A : Type 0} (P : A → Type 0) (xs : List A) → ((x : A) → Has x xs → P x) → Each P xs
has_each P [] h = tt
has_each P (x ∷ xs) h = (h x (inl refl), has_each P xs (λ y has. h y (inr has)))

pub filter_has : {A : Type 0} (q : A → Bool) (xs : List A) (x : A) → Has x xs → q x ≡ true → Has x (filter q xs)
filter_has q [] x has e = absurd has
filter_has {A} q (y ∷ ys) x has e = by (q y) refl has (filter_has q ys x)
  where
    by : (b : Bool) → q y ≡ b → (x ≡ y) ⊎ Has x ys → (Has x ys → q x ≡ true → Has x (filter q ys)) → Has x (cond b (y ∷ filter q ys) (filter q ys))
    by true f (inl same) more = inl same
    by true f (inr has) more = inr (more has e)
    by false f (inl same) more = absurd (cc (sym f ∙ ap q (sym same) ∙ e))
    by false f (inr has) more = more has e

-- each that is left passed the test
pub each_left : {A : Type 0} (P : A → Type 0) (q : A → Bool) (xs : List A) → Each P xs → Each (λ x. P x × (q x ≡ true)) (filter q xs)
each_left P q [] h = tt
each_left {A} P q (x ∷ xs) h = by (q x) refl (each_left P q xs h.1)
  where
    by : (b : Bool) → q x ≡ b → Each (λ x. P x × (q x ≡ true)) (filter q xs) → Each (λ x. P x × (q x ≡ true)) (cond b (x ∷ filter q xs) (filter q xs))
    by true e rest = ((h.0, e), rest)
    by false e rest = rest

pub each_map : {A B : Type 0} (P : B → Type 0) (f : A → B) (xs : List A) → Each (λ x. P (f x)) xs → Each P (map f xs)
each_map P f [] h = tt
each_map P f (x ∷ xs) h = (h.0, each_map P f xs h.1)

-- each pair of a list is found there
pub each_found : (whole : List (Node × Value)) (es : List (Node × Value)) → ((m : Node) → is_some (find node_cmp m es) ≡ true → is_some (find node_cmp m whole) ≡ true) → Each (λ e. is_some (find node_cmp e.0 whole) ≡ true) es
each_found whole [] h = tt
each_found whole (e ∷ es) h = (h e.0 here, each_found whole es (λ m g. h m (later m g)))
  where
    later : (m : Node) → is_some (find node_cmp m es) ≡ true → is_some (find node_cmp m (e ∷ es)) ≡ true
    later m g = on (eq_by_cmp node_cmp m e.0)
      where
        on : (b : Bool) → is_some (cond b (Some e.1) (find node_cmp m es)) ≡ true
        on true = refl
        on false = g

    here : is_some (find node_cmp e.0 (e ∷ es)) ≡ true
    here = ap (λ b. is_some (cond b (Some e.1) (find node_cmp e.0 es))) (ap is_eq (tied_itself node_total e.0))

none_of : (b : Bool) → not b ≡ true → b ≡ false
none_of true e = absurd (cc e)
none_of false e = refl

pub not_some : (o : Option Value) → is_some o ≡ false → o ≡ None
not_some None e = refl
not_some (Some v) e = absurd (cc e)

-- what is killed was there, and isn't to be there
pub stale_gone : (old new : Globals) → Each (λ m. ((v : Value) × (get old m ≡ Some v)) × (get new m ≡ None)) (stale (listed old) (listed new))
unfolding stale
stale_gone old new =
    each_map (λ m. ((v : Value) × (get old m ≡ Some v)) × (get new m ≡ None)) (λ (e : Node × Value). e.0) (filter (λ e. not (is_some (find node_cmp e.0 (listed new)))) (listed old))
    (each_to _ _ (filter (λ (e : Node × Value). not (is_some (find node_cmp e.0 (listed new)))) (listed old))
    (λ e h. (let g = some_of (find node_cmp e.0 (listed old)) h.0 in (g.0, get-entries old e.0 ∙ g.1), get-entries new e.0 ∙ not_some (find node_cmp e.0 (listed new)) (none_of (is_some (find node_cmp e.0 (listed new))) h.1)))
    (each_left (λ (e : Node × Value). is_some (find node_cmp e.0 (listed old)) ≡ true) (λ e. not (is_some (find node_cmp e.0 (listed new)))) (listed old) (each_found (listed old) (listed old) (λ m h. h))))

-- what is set is to be there, and isn't there with this value
pub differing_new : (old new : Globals) → Each (λ (e : Node × Value). ((v : Value) × (get new e.0 ≡ Some v)) × (same_there (get old e.0) e.1 ≡ false)) (differing (listed old) (listed new))
unfolding differing
differing_new old new =
    each_to _ _ (filter (λ (e : Node × Value). not (same_there (find node_cmp e.0 (listed old)) e.1)) (listed new))
    (λ e h. (let g = some_of (find node_cmp e.0 (listed new)) h.0 in (g.0, get-entries new e.0 ∙ g.1), ap (λ o. same_there o e.1) (get-entries old e.0) ∙ none_of (same_there (find node_cmp e.0 (listed old)) e.1) h.1))
    (each_left (λ (e : Node × Value). is_some (find node_cmp e.0 (listed new)) ≡ true) (λ e. not (same_there (find node_cmp e.0 (listed old)) e.1)) (listed new) (each_found (listed new) (listed new) (λ m h. h)))

-- ---- values of pairs that are put in turn

pub each_put : (V : Value → Type 0) (es : List (Node × Value)) (k : Node) (v : Value) → V v → Each (λ (e : Node × Value). V e.1) es → Each (λ (e : Node × Value). V e.1) (insert_entry node_cmp es k v)
each_put V [] k v p h = (p, tt)
each_put V (e ∷ es) k v p h = by (node_cmp k e.0) (each_put V es k v p h.1)
  where
    by : (o : Ordering) → Each (λ (e : Node × Value). V e.1) (insert_entry node_cmp es k v) → Each (λ (e : Node × Value). V e.1) (match_ordering o ((k, v) ∷ e ∷ es) ((e.0, v) ∷ es) (e ∷ insert_entry node_cmp es k v))
    by Less rest = (p, h)
    by Equal rest = (p, h.1)
    by Greater rest = (h.0, rest)

pub each_put_all : (V : Value → Type 0) (es : List (Node × Value)) → Each (λ (e : Node × Value). V e.1) es → Each (λ (e : Node × Value). V e.1) (put_all [] es)
each_put_all V [] h = tt
each_put_all V (e ∷ es) h = each_put V (put_all [] es) e.0 e.1 h.0 (each_put_all V es h.1)

pub all_empty : (ns : List Node) → Each (λ (e : Node × Value). e.1 ≡ value.Str []) (valued_empty ns)
all_empty [] = tt
all_empty (n ∷ ns) = (refl, all_empty ns)
