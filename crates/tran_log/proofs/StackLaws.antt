-- The vectors of a log, of which the last is the top level.
use Rattle.std.proofs.Common.{◌≡◌, ℕ, zero, suc, ◌+◌, ◌<◌, ◌≤◌, List, [], ◌∷◌, ◌++◌, length, map, reverse, take, set, get_or, Option, true, cond, nat_lt, refl, sym, ap, subst, ◌∙◌, arith, IsTrue}
use Rattle.std.proofs.lemmas.List.{reverse-append, map-append, length-reverse, length-map, length-set, get_or-set_same}
use Rattle.std.proofs.Math.ListN.{get_or-append}
use Rattle.std.proofs.lemmas.Bool.Decides.{nat_tests}
use Rattle.std.proofs.Math.Seq.{map-set_same}
use Rattle.std.specs.FinMap.{empty, entries, from_sorted, is_sorted}
use Rattle.obj_kinds.specs.declared.node.Node.{Node}
use Rattle.obj_kinds.specs.declared.value.Value.{Value}
use Rattle.obj_kinds.specs.Order.{node_cmp}
use Rattle.obj_kinds.proofs.OrderLemmas.{node_total}
use Rattle.obj_kinds.proofs.Sorted.{entries_sorted_list, from_sorted-nil}
use Rattle.tran_log.specs.Levels.{Olds, Levels, Globals, put_all, top_undone, noted, has, kept_by, times, begun, note_top, committed}
use Rattle.tran_log.specs.Kept.{Kept, level_of, levels_of, IsRising, IsLog}
use Rattle.tran_log.proofs.LevelLaws.{times_level}

-- a vector on top is a level on top
pub levels_push : (ks : List Kept) (k : Kept) → levels_of (ks ++ k ∷ []) ≡ level_of k ∷ levels_of ks
levels_push ks k = ap reverse (map-append level_of ks (k ∷ [])) ∙ reverse-append (map level_of ks) (level_of k ∷ [])

pub length_levels : (ks : List Kept) → length (levels_of ks) ≡ length ks
length_levels ks = simp (length-reverse, length-map)

pub levels_top : (ks rest : List Kept) (k : Kept) → ks ≡ rest ++ k ∷ [] → levels_of ks ≡ level_of k ∷ levels_of rest
levels_top ks rest k e = ap levels_of e ∙ levels_push rest k

-- what has the same pairs is the same level
pub levels_same : (ks : List Kept) (i : ℕ) (k d : Kept) → k.items ≡ (get_or ks i d).items → levels_of (set ks i k) ≡ levels_of ks
levels_same ks i k d e = ap reverse (map-set_same level_of ks i k d (ap from_sorted e))

last_of : (rest : List Kept) (k d : Kept) → get_or (rest ++ k ∷ []) (length rest) d ≡ k
last_of [] k d = refl
last_of (x ∷ rest) k d = last_of rest k d

length_more : (rest : List Kept) (k : Kept) → length (rest ++ k ∷ []) ≡ length rest + 1
length_more [] k = refl
length_more (x ∷ rest) k = omega (arith, length_more rest k)

pub top_rises : (ks rest : List Kept) (k : Kept) → IsLog ks → ks ≡ rest ++ k ∷ [] → IsRising k
top_rises ks rest k log e =
    let whole : IsLog (rest ++ k ∷ []) = subst IsLog e log in
    subst IsRising (last_of rest k k) (whole.rising (length rest) k (omega (arith, length_more rest k)))

-- the place of the top level
pub split_last : (ks : List Kept) (t : ℕ) (d : Kept) → t + 1 ≡ length ks → ks ≡ take t ks ++ get_or ks t d ∷ []
split_last [] t d e = absurd (omega arith)
split_last (x ∷ []) zero d e = refl
split_last (x ∷ y ∷ ks) zero d e = absurd (omega arith)
split_last (x ∷ ks) (suc t) d e = ap (λ l. x ∷ l) (split_last ks t d (omega arith))

pub set_last : (ks : List Kept) (t : ℕ) (k : Kept) → t + 1 ≡ length ks → set ks t k ≡ take t ks ++ k ∷ []
set_last [] t k e = absurd (omega arith)
set_last (x ∷ []) zero k e = refl
set_last (x ∷ y ∷ ks) zero k e = absurd (omega arith)
set_last (x ∷ ks) (suc t) k e = ap (λ l. x ∷ l) (set_last ks t k (omega arith))

pub set_again : (ks : List Kept) (t : ℕ) (j k : Kept) → set (set ks t j) t k ≡ set ks t k
set_again [] t j k = refl
set_again (x ∷ ks) zero j k = refl
set_again (x ∷ ks) (suc t) j k = ap (λ l. x ∷ l) (set_again ks t j k)

-- ---- pins

-- the pairs of the top level are no more than the levels keep
pub top_owed : (ks rest : List Kept) (k : Kept) (ls : Levels) (p : ℕ) (n : Node) → IsLog ks → ks ≡ rest ++ k ∷ [] → levels_of ks ≡ ls → kept_by ls n ≤ p → times k.items n + kept_by (levels_of rest) n ≤ p
top_owed ks rest k ls p n log e is le =
    let kept : kept_by ls n ≡ has (level_of k) n + kept_by (levels_of rest) n = ap (λ l. kept_by l n) (sym is ∙ levels_top ks rest k e) in
    let here : times k.items n ≡ has (level_of k) n = times_level k.items (top_rises ks rest k log e) n in
    omega arith

pub top_kept : (ks rest : List Kept) (k : Kept) (ls : Levels) (n : Node) → IsLog ks → ks ≡ rest ++ k ∷ [] → levels_of ks ≡ ls → kept_by ls n ≡ times k.items n + kept_by (levels_of rest) n
top_kept ks rest k ls n log e is =
    let kept : kept_by ls n ≡ has (level_of k) n + kept_by (levels_of rest) n = ap (λ l. kept_by l n) (sym is ∙ levels_top ks rest k e) in
    let here : times k.items n ≡ has (level_of k) n = times_level k.items (top_rises ks rest k log e) n in
    omega arith

pub entries_top : (k : Kept) → IsRising k → entries (level_of k) ≡ k.items
entries_top k h = entries_sorted_list node_cmp node_total k.items h

-- ---- the vectors stay those of a log

rising_set : (ks : List Kept) (i : ℕ) (k : Kept) → ((j : ℕ) (d : Kept) → j < length ks → IsRising (get_or ks j d)) → IsRising k → (j : ℕ) (d : Kept) → j < length (set ks i k) → IsRising (get_or (set ks i k) j d)
rising_set [] i k all is j d lt = absurd (omega arith)
rising_set (x ∷ ks) zero k all is zero d lt = is
rising_set (x ∷ ks) zero k all is (suc j) d lt = all (suc j) d lt
rising_set (x ∷ ks) (suc i) k all is zero d lt = all 0 d (omega arith)
rising_set (x ∷ ks) (suc i) k all is (suc j) d lt = rising_set ks i k (λ m e h. all (suc m) e (omega arith)) is j d (omega arith)

pub log_set : (ks : List Kept) (i : ℕ) (k : Kept) → IsLog ks → IsRising k → IsLog (set ks i k)
log_set ks i k log is = record {
  rising = rising_set ks i k log.rising is;
  few = omega (arith, log.few, length-set {A = Kept});
}

pub log_front : (ks rest : List Kept) (k : Kept) → IsLog ks → ks ≡ rest ++ k ∷ [] → IsLog rest
log_front ks rest k log e =
    let whole : IsLog (rest ++ k ∷ []) = subst IsLog e log in
    record {
      rising = λ i d lt. subst IsRising (get_or-append rest (k ∷ []) d i lt) (whole.rising i d (omega (arith, length_more rest k)));
      few = omega (arith, whole.few, length_more rest k);
    }

pub log_same : (ks : List Kept) (i : ℕ) (k e : Kept) → IsLog ks → i < length ks → k.items ≡ e.items → e ≡ get_or ks i e → IsLog (set ks i k)
log_same ks i k e log lt same is = log_set ks i k log (subst (λ l. IsTrue (is_sorted node_cmp l)) (sym (same ∙ ap (λ (x : Kept). x.items) is)) (log.rising i e lt))

-- ---- what a call makes of the levels

pub begun_levels : (ks more : List Kept) (k : Kept) (ls : Levels) → levels_of ks ≡ ls → more ≡ ks ++ k ∷ [] → k.items ≡ [] → length ks < 255 → levels_of more ≡ begun ls
begun_levels ks more k ls is e none lt =
    levels_top more ks k e
    ∙ (λ i. (ap from_sorted none ∙ from_sorted-nil node_cmp (Option Value)) i ∷ is i)
    ∙ ap (λ b. cond b (empty ∷ ls) ls) (sym (in_bounds (length ls) (omega (arith, length_levels ks, ap length is))))
  where
    in_bounds : (n : ℕ) → n < 255 → nat_lt n 255 ≡ true
    in_bounds n h = grind (arith, nat_tests)

-- the top level e, with room as k, is noted as v
pub record Noted (ks : List Kept) (t : ℕ) (e k here v : Kept) (olds : Olds) : Type 0 where
  pub top : t + 1 ≡ length ks
  pub was : e ≡ get_or ks t e
  pub same : k.items ≡ e.items
  pub is_here : here ≡ get_or (set ks t k) t here
  pub level : level_of v ≡ noted (level_of here) olds

top_is : (ks : List Kept) (t : ℕ) (e k here v : Kept) (olds : Olds) → Noted ks t e k here v olds → level_of here ≡ level_of (get_or ks t e)
top_is ks t e k here v olds n =
    ap level_of (n.is_here ∙ get_or-set_same ks t k here (omega (arith, n.top)))
    ∙ ap from_sorted n.same ∙ ap level_of n.was

levels_split : (ks : List Kept) (t : ℕ) (d : Kept) → t + 1 ≡ length ks → levels_of ks ≡ level_of (get_or ks t d) ∷ levels_of (take t ks)
levels_split ks t d e = levels_top ks (take t ks) (get_or ks t d) (split_last ks t d e)

levels_after : (ks : List Kept) (t : ℕ) (e k here v : Kept) (olds : Olds) → Noted ks t e k here v olds → levels_of (set (set ks t k) t v) ≡ level_of v ∷ levels_of (take t ks)
levels_after ks t e k here v olds n = levels_top (set (set ks t k) t v) (take t ks) v (set_again ks t k v ∙ set_last ks t v n.top)

pub noted_levels : (ks : List Kept) (t : ℕ) (e k here v : Kept) (olds : Olds) (ls : Levels) → Noted ks t e k here v olds → levels_of ks ≡ ls → levels_of (set (set ks t k) t v) ≡ note_top ls olds
noted_levels ks t e k here v olds ls n is =
    levels_after ks t e k here v olds n
    ∙ ap (λ l. l ∷ levels_of (take t ks)) (n.level ∙ ap (λ l. noted l olds) (top_is ks t e k here v olds n))
    ∙ ap (λ l. note_top l olds) (sym (levels_split ks t e n.top) ∙ is)

pub noted_pins : (ks : List Kept) (t : ℕ) (e k here v : Kept) (olds : Olds) (ls : Levels) (n : Node) (p q : ℕ) → Noted ks t e k here v olds → levels_of ks ≡ ls
    → p + has (level_of here) n + times olds n ≡ q + has (level_of v) n → p + kept_by ls n + times olds n ≡ q + kept_by (levels_of (set (set ks t k) t v)) n
noted_pins ks t e k here v olds ls n p q noted_ is pins =
    let before : kept_by ls n ≡ has (level_of here) n + kept_by (levels_of (take t ks)) n =
    ap (λ l. kept_by l n) (sym is ∙ levels_split ks t e noted_.top) ∙ ap (λ l. has l n + kept_by (levels_of (take t ks)) n) (sym (top_is ks t e k here v olds noted_)) in
    let after : kept_by (levels_of (set (set ks t k) t v)) n ≡ has (level_of v) n + kept_by (levels_of (take t ks)) n = ap (λ l. kept_by l n) (levels_after ks t e k here v olds noted_) in
    omega arith

-- the level below the top, e, with room as k, gets what the top has and it lacks
pub record Joined (ks : List Kept) (b : ℕ) (e k : Kept) (rest : List Kept) (top : Kept) : Type 0 where
  pub inner : b + 2 ≡ length ks
  pub was : e ≡ get_or ks b e
  pub same : k.items ≡ e.items
  pub popped : set ks b k ≡ rest ++ top ∷ []
  pub log : IsLog ks

joined_log : (ks : List Kept) (b : ℕ) (e k : Kept) (rest : List Kept) (top : Kept) → Joined ks b e k rest top → IsLog (set ks b k)
joined_log ks b e k rest top j = log_same ks b k e j.log (omega (arith, j.inner)) j.same j.was

pub joined_rest : (ks : List Kept) (b : ℕ) (e k : Kept) (rest : List Kept) (top : Kept) → Joined ks b e k rest top → IsLog rest
joined_rest ks b e k rest top j = log_front (set ks b k) rest top (joined_log ks b e k rest top j) j.popped

joined_length : (ks : List Kept) (b : ℕ) (e k : Kept) (rest : List Kept) (top : Kept) → Joined ks b e k rest top → b + 1 ≡ length rest
joined_length ks b e k rest top j = omega (arith, j.inner, length-set {A = Kept}, ap length j.popped, length_more rest top)

joined_split : (ks : List Kept) (b : ℕ) (e k : Kept) (rest : List Kept) (top here : Kept) → Joined ks b e k rest top → here ≡ get_or rest b here → levels_of ks ≡ level_of top ∷ level_of here ∷ levels_of (take b rest)
joined_split ks b e k rest top here j is =
    sym (levels_same ks b k e (j.same ∙ ap (λ (x : Kept). x.items) j.was))
    ∙ levels_top (set ks b k) rest top j.popped
    ∙ ap (λ l. level_of top ∷ l) (levels_split rest b here (joined_length ks b e k rest top j) ∙ ap (λ x. level_of x ∷ levels_of (take b rest)) (sym is))

joined_after : (ks : List Kept) (b : ℕ) (e k : Kept) (rest : List Kept) (top v : Kept) → Joined ks b e k rest top → levels_of (set rest b v) ≡ level_of v ∷ levels_of (take b rest)
joined_after ks b e k rest top v j = levels_top (set rest b v) (take b rest) v (set_last rest b v (joined_length ks b e k rest top j))

pub joined_levels : (ks : List Kept) (b : ℕ) (e k : Kept) (rest : List Kept) (top here v : Kept) → Joined ks b e k rest top → here ≡ get_or rest b here → level_of v ≡ noted (level_of here) top.items → levels_of (set rest b v) ≡ committed (levels_of ks)
joined_levels ks b e k rest top here v j is level =
    joined_after ks b e k rest top v j
    ∙ ap (λ l. l ∷ levels_of (take b rest)) (level ∙ ap (noted (level_of here)) (sym (entries_top top (top_rises (set ks b k) rest top (joined_log ks b e k rest top j) j.popped))))
    ∙ ap committed (sym (joined_split ks b e k rest top here j is))

joined_top : (ks : List Kept) (b : ℕ) (e k : Kept) (rest : List Kept) (top : Kept) (n : Node) → Joined ks b e k rest top → times top.items n ≡ has (level_of top) n
joined_top ks b e k rest top n j = times_level top.items (top_rises (set ks b k) rest top (joined_log ks b e k rest top j) j.popped) n

pub joined_owed : (ks : List Kept) (b : ℕ) (e k : Kept) (rest : List Kept) (top here : Kept) (n : Node) (p : ℕ) → Joined ks b e k rest top → here ≡ get_or rest b here → kept_by (levels_of ks) n ≤ p → has (level_of here) n + times top.items n ≤ p
joined_owed ks b e k rest top here n p j is le =
    let kept : kept_by (levels_of ks) n ≡ has (level_of top) n + (has (level_of here) n + kept_by (levels_of (take b rest)) n) = ap (λ l. kept_by l n) (joined_split ks b e k rest top here j is) in
    omega (arith, joined_top ks b e k rest top n j)

pub joined_pins : (ks : List Kept) (b : ℕ) (e k : Kept) (rest : List Kept) (top here v : Kept) (n : Node) (p q : ℕ) → Joined ks b e k rest top → here ≡ get_or rest b here
    → p + has (level_of here) n + times top.items n ≡ q + has (level_of v) n → p + kept_by (levels_of ks) n ≡ q + kept_by (levels_of (set rest b v)) n
joined_pins ks b e k rest top here v n p q j is pins =
    let before : kept_by (levels_of ks) n ≡ has (level_of top) n + (has (level_of here) n + kept_by (levels_of (take b rest)) n) = ap (λ l. kept_by l n) (joined_split ks b e k rest top here j is) in
    let after : kept_by (levels_of (set rest b v)) n ≡ has (level_of v) n + kept_by (levels_of (take b rest)) n = ap (λ l. kept_by l n) (joined_after ks b e k rest top v j) in
    omega (arith, joined_top ks b e k rest top n j)

pub undone_top : (ks rest : List Kept) (k : Kept) (ls : Levels) (g : Globals) → IsLog ks → ks ≡ rest ++ k ∷ [] → levels_of ks ≡ ls → put_all g k.items ≡ top_undone g ls
undone_top ks rest k ls g log e is =
    ap (put_all g) (sym (entries_top k (top_rises ks rest k log e)))
    ∙ ap (top_undone g) (sym (levels_top ks rest k e) ∙ is)
