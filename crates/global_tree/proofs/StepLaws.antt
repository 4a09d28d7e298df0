-- The way from a node down to others, and the order of nodes.
use Rattle.std.proofs.Common.{◌≡◌, ◌≢◌, Bool, true, false, cond, ◌&&◌, Option, Some, None, refl, sym, ap, ◌∙◌, List, [], ◌∷◌, ◌++◌}
use Rattle.std.specs.declared.cmp.Ordering.{Ordering}
use Rattle.std.specs.declared.cmp.Ordering.TheVariants.{Less, Equal, Greater}
use Rattle.std.specs.Ordering.{eq_by_cmp, is_eq, is_lt, ordering_then, ordering_reverse}
use Rattle.std.specs.Cmp.Lexicographic.{slice_cmp, nat_list_cmp_total}
use Rattle.std.proofs.lemmas.Cmp.{tied_itself, lists_total}
use Rattle.obj_kinds.specs.declared.sub.Sub.{Sub}
use Rattle.obj_kinds.specs.declared.node.Node.{Node}
use Rattle.obj_kinds.specs.Order.{text_cmp, sub_cmp, is_front, node_cmp, covers}
use Rattle.obj_kinds.proofs.OrderLemmas.{sub_total, sub_exact, node_total}
use Rattle.global_tree.specs.Below.{sub_behind, step_below, is_after, beyond_by, is_beyond, child}

pub equal : (r : Ordering) → is_eq r ≡ true → r ≡ Equal
equal Less h = cc
equal Equal h = refl
equal Greater h = cc

pub lesser : (r : Ordering) → is_lt r ≡ true → r ≡ Less
lesser Less h = refl
lesser Equal h = cc
lesser Greater h = cc

-- where the first parts are equal the second ones decide
then_less : (a b : Ordering) → a ≡ Equal → ordering_then a b ≡ Less → b ≡ Less
then_less Less b h k = cc
then_less Equal b h k = k
then_less Greater b h k = cc

then_first : (a b : Ordering) → ordering_then a b ≡ Less → ordering_reverse a ≢ Less
then_first Less b h k = cc
then_first Equal b h k = cc
then_first Greater b h k = cc

-- two parts that both may not fall, turned about, are equal
then_tied : (a b c : Ordering) → ordering_then a b ≡ Less → ordering_then (ordering_reverse a) c ≡ Less → a ≡ Equal
then_tied Less b c h k = cc
then_tied Equal b c h k = refl
then_tied Greater b c h k = cc

-- ---- on lists of subscripts

behind_less : (front way : List Sub) (s : Sub) → sub_behind front way ≡ Some s → slice_cmp sub_cmp front way ≡ Less
behind_less [] [] s h = cc
behind_less [] (y ∷ way) s h = refl
behind_less (x ∷ front) [] s h = cc
behind_less (x ∷ front) (y ∷ way) s h = by (eq_by_cmp sub_cmp x y) refl (behind_less front way s) h
  where
    by : (b : Bool) → eq_by_cmp sub_cmp x y ≡ b → (sub_behind front way ≡ Some s → slice_cmp sub_cmp front way ≡ Less) → cond b (sub_behind front way) None ≡ Some s → ordering_then (sub_cmp x y) (slice_cmp sub_cmp front way) ≡ Less
    by true g rest k = ap (λ r. ordering_then r (slice_cmp sub_cmp front way)) (equal _ g) ∙ rest k
    by false g rest k = cc

-- of two ways that go on from one front the lesser goes on by no greater subscript
subs_rise : (front xs ys : List Sub) (s t : Sub) → slice_cmp sub_cmp xs ys ≡ Less → sub_behind front xs ≡ Some s → sub_behind front ys ≡ Some t → sub_cmp t s ≢ Less
subs_rise [] [] ys s t lt a b = cc
subs_rise [] (x ∷ xs) [] s t lt a b = cc
subs_rise [] (x ∷ xs) (y ∷ ys) s t lt a b =
    let xs_is : x ≡ s = cc in
    let ys_is : y ≡ t = cc in
    λ h. then_first (sub_cmp x y) (slice_cmp sub_cmp xs ys) lt (sym (sub_total.antisymm y x) ∙ ap (sub_cmp y) xs_is ∙ ap (λ u. sub_cmp u s) ys_is ∙ h)
subs_rise (f ∷ front) [] ys s t lt a b = cc
subs_rise (f ∷ front) (x ∷ xs) [] s t lt a b = cc
subs_rise (f ∷ front) (x ∷ xs) (y ∷ ys) s t lt a b = by (λ less' h k. subs_rise front xs ys s t less' h k) (eq_by_cmp sub_cmp f x) (eq_by_cmp sub_cmp f y) refl refl a b
  where
    by : (slice_cmp sub_cmp xs ys ≡ Less → sub_behind front xs ≡ Some s → sub_behind front ys ≡ Some t → sub_cmp t s ≢ Less) → (p q : Bool) → eq_by_cmp sub_cmp f x ≡ p → eq_by_cmp sub_cmp f y ≡ q → cond p (sub_behind front xs) None ≡ Some s → cond q (sub_behind front ys) None ≡ Some t → sub_cmp t s ≢ Less
    by rest true true e g h k =
        let fx : f ≡ x = sub_exact f x (equal (sub_cmp f x) e) in
        let xy : sub_cmp x y ≡ Equal = ap (λ u. sub_cmp u y) (sym fx) ∙ equal (sub_cmp f y) g in
        rest (then_less (sub_cmp x y) (slice_cmp sub_cmp xs ys) xy lt) h k
    by rest true false e g h k = cc
    by rest false q e g h k = cc

-- what lies between a front and a way that goes on from it goes on from it too
subs_run : (front xs ys : List Sub) (t : Sub) → slice_cmp sub_cmp front xs ≡ Less → slice_cmp sub_cmp xs ys ≡ Less → sub_behind front ys ≡ Some t → sub_behind front xs ≢ None
subs_run [] [] ys t a b h = cc
subs_run [] (x ∷ xs) ys t a b h = λ none. cc
subs_run (f ∷ front) [] ys t a b h = cc
subs_run (f ∷ front) (x ∷ xs) [] t a b h = cc
subs_run (f ∷ front) (x ∷ xs) (y ∷ ys) t a b h = by (λ p q k. subs_run front xs ys t p q k) (eq_by_cmp sub_cmp f y) refl h
  where
    by : (slice_cmp sub_cmp front xs ≡ Less → slice_cmp sub_cmp xs ys ≡ Less → sub_behind front ys ≡ Some t → sub_behind front xs ≢ None) → (q : Bool) → eq_by_cmp sub_cmp f y ≡ q → cond q (sub_behind front ys) None ≡ Some t → cond (eq_by_cmp sub_cmp f x) (sub_behind front xs) None ≢ None
    by rest true g k =
        let fy : f ≡ y = sub_exact f y (equal (sub_cmp f y) g) in
        let back : ordering_then (ordering_reverse (sub_cmp f x)) (slice_cmp sub_cmp xs ys) ≡ Less = ap (λ r. ordering_then r (slice_cmp sub_cmp xs ys)) (sym (sub_total.antisymm x f) ∙ ap (sub_cmp x) fy) ∙ b in
        let tied : sub_cmp f x ≡ Equal = then_tied (sub_cmp f x) (slice_cmp sub_cmp front xs) (slice_cmp sub_cmp xs ys) a back in
        let tied' : sub_cmp x y ≡ Equal = ap (sub_cmp x) (sym fy) ∙ sub_total.antisymm x f ∙ ap ordering_reverse tied in
        λ none. rest (then_less (sub_cmp f x) (slice_cmp sub_cmp front xs) tied a) (then_less (sub_cmp x y) (slice_cmp sub_cmp xs ys) tied' b) k (ap (λ r. cond (is_eq r) (sub_behind front xs) None) (sym tied) ∙ none)
    by rest false g k = cc

front_behind : (front way : List Sub) (s : Sub) → is_front (front ++ s ∷ []) way ≡ true → sub_behind front way ≡ Some s
front_behind [] [] s h = cc
front_behind [] (y ∷ way) s h = by (eq_by_cmp sub_cmp s y) refl h
  where
    by : (b : Bool) → eq_by_cmp sub_cmp s y ≡ b → (b && true) ≡ true → Some y ≡ Some s
    by true g k = ap (λ u. Some u) (sym (sub_exact s y (equal (sub_cmp s y) g)))
    by false g k = cc
front_behind (x ∷ front) [] s h = cc
front_behind (x ∷ front) (y ∷ way) s h = by (eq_by_cmp sub_cmp x y) (front_behind front way s) h
  where
    by : (b : Bool) → (is_front (front ++ s ∷ []) way ≡ true → sub_behind front way ≡ Some s) → (b && is_front (front ++ s ∷ []) way) ≡ true → cond b (sub_behind front way) None ≡ Some s
    by true rest k = rest k
    by false rest k = cc

behind_front : (front way : List Sub) (s : Sub) → sub_behind front way ≡ Some s → is_front (front ++ s ∷ []) way ≡ true
behind_front [] [] s h = cc
behind_front [] (y ∷ way) s h =
    let same : y ≡ s = cc in
    ap (λ r. is_eq r && true) (ap (λ u. sub_cmp s u) same ∙ tied_itself sub_total s)
behind_front (x ∷ front) [] s h = cc
behind_front (x ∷ front) (y ∷ way) s h = by (eq_by_cmp sub_cmp x y) (behind_front front way s) h
  where
    by : (b : Bool) → (sub_behind front way ≡ Some s → is_front (front ++ s ∷ []) way ≡ true) → cond b (sub_behind front way) None ≡ Some s → (b && is_front (front ++ s ∷ []) way) ≡ true
    by true rest k = rest k
    by false rest k = cc

-- what lies between a front and a way that begins with it begins with it too
fronts_run : (front xs ys : List Sub) → slice_cmp sub_cmp front xs ≡ Less → slice_cmp sub_cmp xs ys ≡ Less → is_front front ys ≡ true → is_front front xs ≡ true
fronts_run [] xs ys a b h = refl
fronts_run (f ∷ front) [] ys a b h = cc
fronts_run (f ∷ front) (x ∷ xs) [] a b h = cc
fronts_run (f ∷ front) (x ∷ xs) (y ∷ ys) a b h = by (λ p q k. fronts_run front xs ys p q k) (eq_by_cmp sub_cmp f y) refl h
  where
    by : (slice_cmp sub_cmp front xs ≡ Less → slice_cmp sub_cmp xs ys ≡ Less → is_front front ys ≡ true → is_front front xs ≡ true) → (q : Bool) → eq_by_cmp sub_cmp f y ≡ q → (q && is_front front ys) ≡ true → (eq_by_cmp sub_cmp f x && is_front front xs) ≡ true
    by rest true g k =
        let fy : f ≡ y = sub_exact f y (equal (sub_cmp f y) g) in
        let back : ordering_then (ordering_reverse (sub_cmp f x)) (slice_cmp sub_cmp xs ys) ≡ Less = ap (λ r. ordering_then r (slice_cmp sub_cmp xs ys)) (sym (sub_total.antisymm x f) ∙ ap (sub_cmp x) fy) ∙ b in
        let tied : sub_cmp f x ≡ Equal = then_tied (sub_cmp f x) (slice_cmp sub_cmp front xs) (slice_cmp sub_cmp xs ys) a back in
        let tied' : sub_cmp x y ≡ Equal = ap (sub_cmp x) (sym fy) ∙ sub_total.antisymm x f ∙ ap ordering_reverse tied in
        ap (λ r. is_eq r && is_front front xs) tied ∙ rest (then_less (sub_cmp f x) (slice_cmp sub_cmp front xs) tied a) (then_less (sub_cmp x y) (slice_cmp sub_cmp xs ys) tied' b) k
    by rest false g k = cc

front_first : (front way : List Sub) → is_front front way ≡ true → slice_cmp sub_cmp front way ≢ Greater
front_first [] [] h = λ g. cc
front_first [] (y ∷ way) h = λ g. cc
front_first (x ∷ front) [] h = cc
front_first (x ∷ front) (y ∷ way) h = by (eq_by_cmp sub_cmp x y) refl (λ k. front_first front way k) h
  where
    by : (b : Bool) → eq_by_cmp sub_cmp x y ≡ b → (is_front front way ≡ true → slice_cmp sub_cmp front way ≢ Greater) → (b && is_front front way) ≡ true → ordering_then (sub_cmp x y) (slice_cmp sub_cmp front way) ≢ Greater
    by true g rest k = λ more. rest k (ap (λ r. ordering_then r (slice_cmp sub_cmp front way)) (sym (equal _ g)) ∙ more)
    by false g rest k = cc

front_itself : (front : List Sub) → is_front front front ≡ true
front_itself [] = refl
front_itself (x ∷ front) = ap (λ r. is_eq r && is_front front front) (tied_itself sub_total x) ∙ front_itself front

-- ---- on nodes

pub covers_itself : (n : Node) → covers n n ≡ true
unfolding covers
covers_itself n = ap (λ r. is_eq r && is_front n.subs n.subs) (tied_itself nat_list_cmp_total n.global) ∙ front_itself n.subs

-- what stands before a node isn't below it
pub before_apart : (n m : Node) → node_cmp m n ≡ Less → covers n m ≡ false
unfolding node_cmp covers
before_apart n m lt = by (eq_by_cmp text_cmp n.global m.global) (is_front n.subs m.subs) refl refl
  where
    by : (p q : Bool) → eq_by_cmp text_cmp n.global m.global ≡ p → is_front n.subs m.subs ≡ q → (p && q) ≡ false
    by true true e g =
        let one : text_cmp n.global m.global ≡ Equal = equal _ e in
        let tied : text_cmp m.global n.global ≡ Equal = nat_list_cmp_total.antisymm m.global n.global ∙ ap ordering_reverse one in
        let less : slice_cmp sub_cmp m.subs n.subs ≡ Less = then_less (text_cmp m.global n.global) (slice_cmp sub_cmp m.subs n.subs) tied lt in
        absurd (front_first n.subs m.subs g ((lists_total sub_total).antisymm n.subs m.subs ∙ ap ordering_reverse less))
    by true false e g = refl
    by false q e g = refl

-- the descendants of a node stand together
pub covers_run : (n a b : Node) → node_cmp n a ≡ Less → node_cmp a b ≡ Less → covers n b ≡ true → covers n a ≡ true
unfolding node_cmp covers
covers_run n a b lt gt h = by (eq_by_cmp text_cmp n.global b.global) refl h
  where
    by : (q : Bool) → eq_by_cmp text_cmp n.global b.global ≡ q → (q && is_front n.subs b.subs) ≡ true → (eq_by_cmp text_cmp n.global a.global && is_front n.subs a.subs) ≡ true
    by true g k =
        let ab : text_cmp a.global b.global ≡ ordering_reverse (text_cmp n.global a.global) =
        nat_list_cmp_total.antisymm a.global b.global ∙ ap ordering_reverse (sym (nat_list_cmp_total.congr n.global b.global a.global (equal (text_cmp n.global b.global) g))) in
        let back : ordering_then (ordering_reverse (text_cmp n.global a.global)) (slice_cmp sub_cmp a.subs b.subs) ≡ Less = ap (λ r. ordering_then r (slice_cmp sub_cmp a.subs b.subs)) (sym ab) ∙ gt in
        let tied : text_cmp n.global a.global ≡ Equal = then_tied (text_cmp n.global a.global) (slice_cmp sub_cmp n.subs a.subs) (slice_cmp sub_cmp a.subs b.subs) lt back in
        let tied' : text_cmp a.global b.global ≡ Equal = ab ∙ ap ordering_reverse tied in
        ap (λ r. is_eq r && is_front n.subs a.subs) tied ∙ fronts_run n.subs a.subs b.subs (then_less (text_cmp n.global a.global) (slice_cmp sub_cmp n.subs a.subs) tied lt) (then_less (text_cmp a.global b.global) (slice_cmp sub_cmp a.subs b.subs) tied' gt) k
    by false g k = cc

-- a node stands before those below it
pub step_less : (n m : Node) (s : Sub) → step_below n m ≡ Some s → node_cmp n m ≡ Less
unfolding node_cmp step_below
step_less n m s h = by (eq_by_cmp text_cmp n.global m.global) refl h
  where
    by : (b : Bool) → eq_by_cmp text_cmp n.global m.global ≡ b → cond b (sub_behind n.subs m.subs) None ≡ Some s → ordering_then (text_cmp n.global m.global) (slice_cmp sub_cmp n.subs m.subs) ≡ Less
    by true g k = ap (λ r. ordering_then r (slice_cmp sub_cmp n.subs m.subs)) (equal _ g) ∙ behind_less n.subs m.subs s k
    by false g k = cc

pub steps_rise : (n a b : Node) (s t : Sub) → node_cmp a b ≡ Less → step_below n a ≡ Some s → step_below n b ≡ Some t → sub_cmp t s ≢ Less
unfolding node_cmp step_below
steps_rise n a b s t lt h k = by (eq_by_cmp text_cmp n.global a.global) (eq_by_cmp text_cmp n.global b.global) refl refl h k
  where
    by : (p q : Bool) → eq_by_cmp text_cmp n.global a.global ≡ p → eq_by_cmp text_cmp n.global b.global ≡ q → cond p (sub_behind n.subs a.subs) None ≡ Some s → cond q (sub_behind n.subs b.subs) None ≡ Some t
        → sub_cmp t s ≢ Less
    by true true e g h k =
        let ab : text_cmp a.global b.global ≡ Equal = sym (nat_list_cmp_total.congr n.global a.global b.global (equal (text_cmp n.global a.global) e)) ∙ equal (text_cmp n.global b.global) g in
        subs_rise n.subs a.subs b.subs s t (then_less (text_cmp a.global b.global) (slice_cmp sub_cmp a.subs b.subs) ab lt) h k
    by true false e g h k = cc
    by false q e g h k = cc

-- what lies between a node and one below it is below it
pub steps_run : (n a b : Node) (t : Sub) → node_cmp n a ≡ Less → node_cmp a b ≡ Less → step_below n b ≡ Some t → step_below n a ≢ None
unfolding node_cmp step_below
steps_run n a b t lt gt h = by (eq_by_cmp text_cmp n.global b.global) refl h
  where
    by : (q : Bool) → eq_by_cmp text_cmp n.global b.global ≡ q → cond q (sub_behind n.subs b.subs) None ≡ Some t → cond (eq_by_cmp text_cmp n.global a.global) (sub_behind n.subs a.subs) None ≢ None
    by true g k =
        let ab : text_cmp a.global b.global ≡ ordering_reverse (text_cmp n.global a.global) =
        nat_list_cmp_total.antisymm a.global b.global ∙ ap ordering_reverse (sym (nat_list_cmp_total.congr n.global b.global a.global (equal (text_cmp n.global b.global) g))) in
        let back : ordering_then (ordering_reverse (text_cmp n.global a.global)) (slice_cmp sub_cmp a.subs b.subs) ≡ Less = ap (λ r. ordering_then r (slice_cmp sub_cmp a.subs b.subs)) (sym ab) ∙ gt in
        let tied : text_cmp n.global a.global ≡ Equal = then_tied (text_cmp n.global a.global) (slice_cmp sub_cmp n.subs a.subs) (slice_cmp sub_cmp a.subs b.subs) lt back in
        let tied' : text_cmp a.global b.global ≡ Equal = ab ∙ ap ordering_reverse tied in
        λ none. subs_run n.subs a.subs b.subs t (then_less (text_cmp n.global a.global) (slice_cmp sub_cmp n.subs a.subs) tied lt) (then_less (text_cmp a.global b.global) (slice_cmp sub_cmp a.subs b.subs) tied' gt) k
        (ap (λ r. cond (is_eq r) (sub_behind n.subs a.subs) None) (sym tied) ∙ none)
    by false g k = cc

-- the step from n to m is s exactly where the child of n by s covers m
pub covers_step : (n m : Node) (s : Sub) → covers (child n s) m ≡ true → step_below n m ≡ Some s
unfolding covers step_below
covers_step n m s h = by (eq_by_cmp text_cmp n.global m.global) h
  where
    by : (b : Bool) → (b && is_front (n.subs ++ s ∷ []) m.subs) ≡ true → cond b (sub_behind n.subs m.subs) None ≡ Some s
    by true k = front_behind n.subs m.subs s k
    by false k = cc

pub step_covers : (n m : Node) (s : Sub) → step_below n m ≡ Some s → covers (child n s) m ≡ true
unfolding covers step_below
step_covers n m s h = by (eq_by_cmp text_cmp n.global m.global) h
  where
    by : (b : Bool) → cond b (sub_behind n.subs m.subs) None ≡ Some s → (b && is_front (n.subs ++ s ∷ []) m.subs) ≡ true
    by true k = behind_front n.subs m.subs s k
    by false k = cc

-- ---- on what comes after a subscript

not_before : (a s t : Sub) (r : Ordering) → sub_cmp s t ≡ r → sub_cmp a s ≡ Less → sub_cmp t s ≢ Less → sub_cmp a t ≡ Less
not_before a s t Less e h k = sub_total.trans a s t h e
not_before a s t Equal e h k = ap (sub_cmp a) (sym (sub_exact s t e)) ∙ h
not_before a s t Greater e h k = absurd (k (sub_total.antisymm t s ∙ ap ordering_reverse e))

pub after_rises : (after : Option Sub) (s t : Sub) → is_after after s ≡ true → sub_cmp t s ≢ Less → is_after after t ≡ true
after_rises None s t h k = refl
after_rises (Some a) s t h k = ap is_lt (not_before a s t (sub_cmp s t) refl (lesser _ h) k)

pub beyond_rises : (n a b : Node) (after : Option Sub) → node_cmp a b ≡ Less → is_beyond n after a ≡ true → is_beyond n after b ≡ true
unfolding is_beyond
beyond_rises n a b after lt h = by (step_below n a) (step_below n b) refl refl h
  where
    by : (p q : Option Sub) → step_below n a ≡ p → step_below n b ≡ q → beyond_by p after (node_cmp n a) ≡ true → beyond_by q after (node_cmp n b) ≡ true
    by None None e g k = ap is_lt (node_total.trans n a b (lesser _ k) lt)
    by None (Some t) e g k = absurd (steps_run n a b t (lesser _ k) lt g e)
    by (Some s) None e g k = ap is_lt (node_total.trans n a b (step_less n a s e) lt)
    by (Some s) (Some t) e g k = after_rises after s t k (steps_rise n a b s t lt e g)
