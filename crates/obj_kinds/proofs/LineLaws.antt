-- Which nodes are in line with a node, and where they stand in the order of nodes.
use Rattle.std.proofs.Common.{◌≡◌, ◌≢◌, ℕ, zero, suc, ◌+◌, ◌<◌, ◌≤◌, Bool, true, false, ◌&&◌, ◌⊎◌, inl, inr, ⊎_elim, List, [], ◌∷◌, length, take, refl, sym, ap, ap₂, subst, ◌∙◌, arith}
use Rattle.std.specs.declared.cmp.Ordering.{Ordering}
use Rattle.std.specs.declared.cmp.Ordering.TheVariants.{Less, Equal, Greater}
use Rattle.std.specs.Ordering.{ordering_reverse, ordering_then, eq_by_cmp, is_eq}
use Rattle.std.specs.Cmp.{IsTotalOrder, tied_itself, alike_right}
use Rattle.std.specs.Cmp.Lexicographic.{slice_cmp}
use Rattle.std.specs.FinMap.{slice_cmp-IsAntisymmetric, nat_cmp-IsAntisymmetric}
use Rattle.std.proofs.lemmas.Cmp.{nat_list_cmp_total}
use Rattle.std.proofs.lemmas.Bool.Decides.{nat_tests}
use Rattle.std.proofs.Math.Seq.{take-length}
use Rattle.obj_kinds.specs.declared.sub.Sub.{Sub}
use Rattle.obj_kinds.specs.declared.node.Node.{Node}
use Rattle.obj_kinds.specs.Order.{text_cmp, sub_cmp, node_cmp, covers, is_front}
use Rattle.obj_kinds.proofs.OrderLemmas.{sub_total, sub_exact, node_total}
use Rattle.obj_kinds.specs.Line.{ancestor}

pub both : (a b : Bool) → a && b ≡ true → (a ≡ true) × (b ≡ true)
both true b h = (refl, h)
both false b h = cc

pub tie : (r : Ordering) → is_eq r ≡ true → r ≡ Equal
tie Less h = cc
tie Equal h = refl
tie Greater h = cc

-- ---- what is not after something
module _ {K : Type 0} (R : K → K → Ordering) (o : IsTotalOrder R) where
  pub turned : (x y : K) (r : Ordering) → R x y ≡ r → R y x ≡ ordering_reverse r
  turned x y r e = o.antisymm y x ∙ ap ordering_reverse e

  -- x is not after y, which is before z
  pub to_less : (x y z : K) → R x y ≢ Greater → R y z ≡ Less → R x z ≡ Less
  to_less x y z le lt = by (R x y) refl
    where
      by : (r : Ordering) → R x y ≡ r → R x z ≡ Less
      by Less e = o.trans x y z e lt
      by Equal e = o.congr x y z e ∙ lt
      by Greater e = absurd (le e)

  -- x is before y, which is not after z
  pub less_to : (x y z : K) → R x y ≡ Less → R y z ≢ Greater → R x z ≡ Less
  less_to x y z lt le = by (R y z) refl
    where
      by : (r : Ordering) → R y z ≡ r → R x z ≡ Less
      by Less e = o.trans x y z lt e
      by Equal e = sym (alike_right o y z x e) ∙ lt
      by Greater e = absurd (le e)

  -- what is before x isn't x, nor after it
  pub not_less : (x y : K) → R x y ≡ Less → R y x ≢ Less
  not_less x y lt lt' = cc (turned x y Less lt)

  pub not_before : (x y : K) → R y x ≢ Less → R x y ≢ Greater
  not_before x y h e = h (turned x y Greater e)

  pub itself : (x : K) → R x x ≢ Greater
  itself x e = cc (tied_itself o x)

  -- ---- the fronts of a list are in the order of their lengths
  pub fronts_rise : (xs : List K) (i j : ℕ) → i < j → j ≤ length xs → slice_cmp R (take i xs) (take j xs) ≡ Less
  fronts_rise xs i zero lt le = absurd (omega arith)
  fronts_rise [] i (suc j) lt le = absurd (omega arith)
  fronts_rise (x ∷ xs) zero (suc j) lt le = refl
  fronts_rise (x ∷ xs) (suc i) (suc j) lt le = ap (λ r. ordering_then r (slice_cmp R (take i xs) (take j xs))) (tied_itself o x) ∙ fronts_rise xs i j (omega arith) (omega arith)

-- ---- fronts
pub front_is : (front way : List Sub) → is_front front way ≡ true → (front ≡ take (length front) way) × (length front ≤ length way)
front_is [] way h = (refl, omega arith)
front_is (x ∷ front) [] h = cc
front_is (x ∷ front) (y ∷ way) h =
    let parts = both (eq_by_cmp sub_cmp x y) (is_front front way) h in
    let rest = front_is front way parts.1 in
    (ap₂ ◌∷◌ (sub_exact x y (tie _ parts.0)) rest.0, omega (arith, rest.1))

-- ---- a node that covers another is it or an ancestor of it
pub covers_is : (r n : Node) → covers r n ≡ true → (r ≡ ancestor (length r.subs) n) × (length r.subs ≤ length n.subs)
unfolding covers
covers_is r n h =
    let parts = both (eq_by_cmp text_cmp r.global n.global) (is_front r.subs n.subs) h in
    let g = slice_cmp-IsAntisymmetric nat_cmp-IsAntisymmetric r.global n.global (tie _ parts.0) in
    let s = front_is r.subs n.subs parts.1 in
    (λ i. record { global = g i; subs = s.0 i }, s.1)

pub ancestors_rise : (n : Node) (i j : ℕ) → i < j → j ≤ length n.subs → node_cmp (ancestor i n) (ancestor j n) ≡ Less
unfolding node_cmp
ancestors_rise n i j lt le = ap (λ r. ordering_then r (slice_cmp sub_cmp (take i n.subs) (take j n.subs))) (tied_itself nat_list_cmp_total n.global) ∙ fronts_rise sub_cmp sub_total n.subs i j lt le

pub whole_ancestor : (n : Node) → ancestor (length n.subs) n ≡ n
whole_ancestor n = λ i. record { global = n.global; subs = take-length n.subs i }

pub ancestors_in_order : (n : Node) (i j : ℕ) → i ≤ j → j ≤ length n.subs → node_cmp (ancestor i n) (ancestor j n) ≢ Greater
ancestors_in_order n i j le le' = ⊎_elim (λ lt e. cc (ancestors_rise n i j lt le', e)) (λ same. subst (λ k. node_cmp (ancestor i n) (ancestor k n) ≢ Greater) same (itself node_cmp node_total (ancestor i n))) (cases i j le)
  where
    cases : (i j : ℕ) → i ≤ j → (i < j) ⊎ (i ≡ j)
    cases i j le = grind (arith, nat_tests)

-- a node is not after one that it covers
pub covers_in_order : (n r : Node) → covers n r ≡ true → node_cmp n r ≢ Greater
covers_in_order n r h =
    let is = covers_is n r h in
    let le = ancestors_in_order r (length n.subs) (length r.subs) is.1 (omega arith) in
    subst (λ x. node_cmp x r ≢ Greater) (sym is.0) (subst (λ y. node_cmp (ancestor (length n.subs) r) y ≢ Greater) (whole_ancestor r) le)

-- ---- what stands before the node of an ancestor
never : (x : Node) → node_cmp x x ≢ Less
never x e = cc (tied_itself node_total x, e)

pub none_above_first : (n r : Node) → node_cmp r (ancestor 0 n) ≡ Less → covers r n ≢ true
none_above_first n r lt h =
    let is = covers_is r n h in
    let le = subst (λ y. node_cmp (ancestor 0 n) y ≢ Greater) (sym is.0) (ancestors_in_order n 0 (length r.subs) (omega arith) is.1) in
    never r (less_to node_cmp node_total r (ancestor 0 n) r lt le)

pub none_under_before : (n r : Node) (j : ℕ) → j ≤ length n.subs → node_cmp r (ancestor j n) ≡ Less → covers n r ≢ true
none_under_before n r j le lt h =
    let up = subst (λ y. node_cmp (ancestor j n) y ≢ Greater) (whole_ancestor n) (ancestors_in_order n j (length n.subs) le (omega arith)) in
    never r (less_to node_cmp node_total r n r (less_to node_cmp node_total r (ancestor j n) n lt up) (covers_in_order n r h))

-- between two ancestors that follow each other stands only the first of them
pub only_ancestor : (n r : Node) (k : ℕ) → k < length n.subs → node_cmp r (ancestor k n) ≢ Less → node_cmp r (ancestor (k + 1) n) ≡ Less → covers r n ≡ true → r ≡ ancestor k n
only_ancestor n r k in_range from lt h =
    let is = covers_is r n h in
    by (length r.subs) is.0 is.1 (cases (length r.subs) k)
  where
    cases : (i k : ℕ) → (i < k) ⊎ ((i ≡ k) ⊎ (k + 1 ≤ i))
    cases i k = grind (arith, nat_tests)

    by : (i : ℕ) → r ≡ ancestor i n → i ≤ length n.subs → (i < k) ⊎ ((i ≡ k) ⊎ (k + 1 ≤ i)) → r ≡ ancestor k n
    by i is le (inl less) = absurd (from (ap (λ x. node_cmp x (ancestor k n)) is ∙ ancestors_rise n i k less (omega arith)))
    by i is le (inr (inl same)) = is ∙ ap (λ j. ancestor j n) same
    by i is le (inr (inr more)) =
        let up = subst (λ y. node_cmp (ancestor (k + 1) n) y ≢ Greater) (sym is) (ancestors_in_order n (k + 1) i more le) in
        absurd (never r (less_to node_cmp node_total r (ancestor (k + 1) n) r lt up))

pub front_itself : (xs : List Sub) → is_front xs xs ≡ true
front_itself [] = refl
front_itself (x ∷ xs) = ap (λ r. is_eq r && is_front xs xs) (tied_itself sub_total x) ∙ front_itself xs

pub covers_itself : (n : Node) → covers n n ≡ true
unfolding covers
covers_itself n = ap (λ r. is_eq r && is_front n.subs n.subs) (tied_itself nat_list_cmp_total n.global) ∙ front_itself n.subs

-- what is not before a node and covers it is that node
pub only_itself : (n r : Node) → node_cmp r n ≢ Less → covers r n ≡ true → covers n r ≡ true
only_itself n r from h =
    let is = covers_is r n h in
    by (length r.subs) is.0 (cases (length r.subs) (length n.subs) is.1)
  where
    cases : (i k : ℕ) → i ≤ k → (i < k) ⊎ (i ≡ k)
    cases i k le = grind (arith, nat_tests)

    by : (i : ℕ) → r ≡ ancestor i n → (i < length n.subs) ⊎ (i ≡ length n.subs) → covers n r ≡ true
    by i is (inl less) = absurd (from (ap₂ node_cmp is (sym (whole_ancestor n)) ∙ ancestors_rise n i (length n.subs) less (omega arith)))
    by i is (inr same) = subst (λ x. covers n x ≡ true) (sym (is ∙ ap (λ j. ancestor j n) same ∙ whole_ancestor n)) (covers_itself n)

-- ---- the node and its descendants stand in one run
module _ {K : Type 0} (R : K → K → Ordering) (o : IsTotalOrder R) where
  then_first : (a b : Ordering) → ordering_then a b ≢ Greater → a ≢ Greater
  then_first a b h e = h (ap (λ r. ordering_then r b) e)

  then_second : (a b : Ordering) → a ≡ Equal → ordering_then a b ≢ Greater → b ≢ Greater
  then_second a b e h e' = h (ap (λ r. ordering_then r b) e ∙ e')

  -- between two that tie stand only those that tie with both
  pub tied_between : (x y z : K) → R x z ≡ Equal → R x y ≢ Greater → R y z ≢ Greater → R x y ≡ Equal
  tied_between x y z tied le le' = by (R x y) refl
    where
      by : (r : Ordering) → R x y ≡ r → R x y ≡ Equal
      by Less e = absurd (cc (less_to R o x y z e le', tied))
      by Equal e = e
      by Greater e = absurd (le e)

fronts_between : (n r d : List Sub) → is_front n d ≡ true → slice_cmp sub_cmp n r ≢ Greater → slice_cmp sub_cmp r d ≢ Greater → is_front n r ≡ true
fronts_between [] r d h le le' = refl
fronts_between (x ∷ n) [] d h le le' = absurd (le refl)
fronts_between (x ∷ n) (y ∷ r) [] h le le' = cc
fronts_between (x ∷ n) (y ∷ r) (z ∷ d) h le le' =
    let parts = both (eq_by_cmp sub_cmp x z) (is_front n d) h in
    let xy = tied_between sub_cmp sub_total x y z (tie _ parts.0) (then_first sub_cmp sub_total (sub_cmp x y) _ le) (then_first sub_cmp sub_total (sub_cmp y z) _ le') in
    let yz = sym (sub_total.congr x y z xy) ∙ tie _ parts.0 in
    ap (λ q. is_eq q && is_front n r) xy
    ∙ fronts_between n r d parts.1 (then_second sub_cmp sub_total (sub_cmp x y) _ xy le) (then_second sub_cmp sub_total (sub_cmp y z) _ yz le')

pub covers_between : (n r d : Node) → covers n d ≡ true → node_cmp n r ≢ Greater → node_cmp r d ≢ Greater → covers n r ≡ true
unfolding covers node_cmp
covers_between n r d h le le' =
    let parts = both (eq_by_cmp text_cmp n.global d.global) (is_front n.subs d.subs) h in
    let nr = tied_between text_cmp nat_list_cmp_total n.global r.global d.global (tie _ parts.0) (then_first text_cmp nat_list_cmp_total (text_cmp n.global r.global) _ le) (then_first text_cmp nat_list_cmp_total (text_cmp r.global d.global) _ le') in
    let rd = sym (nat_list_cmp_total.congr n.global r.global d.global nr) ∙ tie _ parts.0 in
    ap (λ q. is_eq q && is_front n.subs r.subs) nr
    ∙ fronts_between n.subs r.subs d.subs parts.1 (then_second text_cmp nat_list_cmp_total (text_cmp n.global r.global) _ nr le) (then_second text_cmp nat_list_cmp_total (text_cmp r.global d.global) _ rd le')

-- what stands before a node isn't below it
pub before_apart : (n m : Node) → node_cmp m n ≡ Less → covers n m ≡ false
before_apart n m lt = by (covers n m) refl
  where
    by : (b : Bool) → covers n m ≡ b → b ≡ false
    by true h = absurd (covers_in_order n m h (turned node_cmp node_total m n Less lt))
    by false h = refl

-- what lies between a node and one that it covers is covered too
pub covers_run : (n a b : Node) → node_cmp n a ≡ Less → node_cmp a b ≡ Less → covers n b ≡ true → covers n a ≡ true
covers_run n a b lt gt h = covers_between n a b h (λ e. cc (lt, e)) (λ e. cc (gt, e))

-- a front of a front is a front
front_trans : (xs ys zs : List Sub) → is_front xs ys ≡ true → is_front ys zs ≡ true → is_front xs zs ≡ true
front_trans [] ys zs h k = refl
front_trans (x ∷ xs) [] zs h k = cc
front_trans (x ∷ xs) (y ∷ ys) [] h k = cc
front_trans (x ∷ xs) (y ∷ ys) (z ∷ zs) h k =
    let p = both (eq_by_cmp sub_cmp x y) (is_front xs ys) h in
    let q = both (eq_by_cmp sub_cmp y z) (is_front ys zs) k in
    ap (λ r. is_eq r && is_front xs zs) (sub_total.congr x y z (tie _ p.0) ∙ tie _ q.0) ∙ front_trans xs ys zs p.1 q.1

-- a node covers what a node that it covers covers
pub covers_trans : (n m d : Node) → covers n m ≡ true → covers m d ≡ true → covers n d ≡ true
unfolding covers
covers_trans n m d h k =
    let p = both (eq_by_cmp text_cmp n.global m.global) (is_front n.subs m.subs) h in
    let q = both (eq_by_cmp text_cmp m.global d.global) (is_front m.subs d.subs) k in
    ap (λ r. is_eq r && is_front n.subs d.subs) (nat_list_cmp_total.congr n.global m.global d.global (tie _ p.0) ∙ tie _ q.0) ∙ front_trans n.subs m.subs d.subs p.1 q.1
