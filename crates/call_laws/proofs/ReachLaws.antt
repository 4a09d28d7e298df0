-- What a root reaches is what a path leads to.
use Rattle.std.proofs.Common.{◌≡◌, ◌⊎◌, inl, inr, ℕ, zero, suc, Bool, true, false, ◌||◌, List, [], ◌∷◌, length, filter, refl, sym, ap, subst, ◌∙◌}
use Rattle.std.specs.List.{list_any}
use Rattle.object_calls.specs.Reach.{is_among, Path, Here, Along, is_next, spread, spread_times, reached}
use Rattle.call_laws.specs.Reaching.{AreClosed, ReachFollowsPaths, ReachKeepsOrder}
use Rattle.call_laws.proofs.Growth.{among_first, among_split, any_some, any_of, among_filter, filter_among, Within, stable, enough}

module _ (refs : ℕ → List ℕ) where
  one_more : (a b c : ℕ) → Path refs a b → is_among c (refs b) ≡ true → Path refs a c
  one_more a b c (Here n) h = Along n c c h (Here c)
  one_more a b c (Along n m k e p) h = Along n m c e (one_more m k c p h)

  -- the last step may be looked at first
  spread_last : (live : List ℕ) (k : ℕ) (found : List ℕ) → spread_times refs k live (spread refs live found) ≡ spread refs live (spread_times refs k live found)
  spread_last live zero found = refl
  spread_last live (suc k) found = spread_last live k (spread refs live found)

  next_found : (found : List ℕ) (n : ℕ) → is_among n found ≡ true → is_next refs found n ≡ true
  next_found found n h = ap (λ b. b || list_any (λ m. is_among n (refs m)) found) h

  next_step : (found : List ℕ) (m n : ℕ) → is_among m found ≡ true → is_among n (refs m) ≡ true → is_next refs found n ≡ true
  next_step found m n h e = by (is_among n found) (any_of (λ m. is_among n (refs m)) found m h e)
    where
      by : (b : Bool) → list_any (λ m. is_among n (refs m)) found ≡ true → (b || list_any (λ m. is_among n (refs m)) found) ≡ true
      by true k = refl
      by false k = k

  next_by : (found : List ℕ) (n : ℕ) → is_next refs found n ≡ true → (is_among n found ≡ true) ⊎ ((m : ℕ) × (is_among m found ≡ true) × (is_among n (refs m) ≡ true))
  next_by found n h = by (is_among n found) refl h
    where
      by : (b : Bool) → is_among n found ≡ b → (b || list_any (λ m. is_among n (refs m)) found) ≡ true → (is_among n found ≡ true) ⊎ ((m : ℕ) × (is_among m found ≡ true) × (is_among n (refs m) ≡ true))
      by true e k = inl e
      by false e k = inr (any_some (λ m. is_among n (refs m)) found k)

module _ (refs : ℕ → List ℕ) (live : List ℕ) (root : ℕ) (is_live : is_among root live ≡ true) where
  abbrev after : ℕ → List ℕ
  after k = spread_times refs k live (root ∷ [])

  abbrev has : ℕ → ℕ → Bool
  has k n = is_among n (after k)

  -- one more step, by the step before it
  has_next : (k n : ℕ) → has (suc k) n ≡ true → (is_among n live ≡ true) × (is_next refs (after k) n ≡ true)
  has_next k n h = among_filter (is_next refs (after k)) live n (sym (ap (is_among n) (spread_last refs live k (root ∷ []))) ∙ h)

  next_has : (k n : ℕ) → is_among n live ≡ true → is_next refs (after k) n ≡ true → has (suc k) n ≡ true
  next_has k n h e = ap (is_among n) (spread_last refs live k (root ∷ [])) ∙ filter_among (is_next refs (after k)) live n h e

  has_live : (k n : ℕ) → has k n ≡ true → is_among n live ≡ true
  has_live zero n h = by (among_split n root [] h)
    where
      by : (root ≡ n) ⊎ (is_among n [] ≡ true) → is_among n live ≡ true
      by (inl same) = sym (ap (λ r. is_among r live) same) ∙ is_live
      by (inr none) = cc
  has_live (suc k) n h = (has_next k n h).0

  base : Within (has 0) (has 1) live
  base n h e = next_has 0 n h (next_found refs (after 0) n e)

  forward : (j k : ℕ) → Within (has j) (has k) live → Within (has (suc j)) (has (suc k)) live
  forward j k w n h e = next_has k n h (by (next_by refs (after j) n (has_next j n e).1))
    where
      by : (is_among n (after j) ≡ true) ⊎ ((m : ℕ) × (is_among m (after j) ≡ true) × (is_among n (refs m) ≡ true)) → is_next refs (after k) n ≡ true
      by (inl k') = next_found refs (after k) n (w n h k')
      by (inr p) = next_step refs (after k) p.0 n (w p.0 (has_live j p.0 p.1) p.1) p.2

  -- each that was found is at the end of a path
  path_to : (k n : ℕ) → has k n ≡ true → Path refs root n
  path_to zero n h = by (among_split n root [] h)
    where
      by : (root ≡ n) ⊎ (is_among n [] ≡ true) → Path refs root n
      by (inl same) = subst (Path refs root) same (Here root)
      by (inr none) = cc
  path_to (suc k) n h = by (next_by refs (after k) n (has_next k n h).1) (path_to k)
    where
      by : (is_among n (after k) ≡ true) ⊎ ((m : ℕ) × (is_among m (after k) ≡ true) × (is_among n (refs m) ≡ true)) → ((m : ℕ) → has k m ≡ true → Path refs root m) → Path refs root n
      by (inl j) before = before n j
      by (inr p) before = one_more refs root p.0 n (before p.0 p.1) p.2

  module _ (closed : AreClosed refs live) where
    -- what was found in all steps holds all that it names
    along : (a b : ℕ) → Path refs a b → has (length live) a ≡ true → has (length live) b ≡ true
    along a b (Here n) h = h
    along a b (Along n m k e p) h =
        let m_live : is_among m live ≡ true = closed n m (has_live (length live) n h) e in
        along m k p (stable live has base forward m m_live (next_has (length live) m m_live (next_step refs (after (length live)) n m h e)))

    found : (n : ℕ) → Path refs root n → has (length live) n ≡ true
    found n p = along root n p (enough live has base forward 0 root is_live (among_first root []))

pub reach_follows : ReachFollowsPaths
unfolding reached
reach_follows refs live root is_live closed n = (path_to refs live root is_live (length live) n, found refs live root is_live closed n)

-- some of the live ones, in their order
kept : (refs : ℕ → List ℕ) (live : List ℕ) (root : ℕ) (k : ℕ) → (keeps : ℕ → Bool) × (spread_times refs (suc k) live (root ∷ []) ≡ filter keeps live)
kept refs live root k = (is_next refs (spread_times refs k live (root ∷ [])), spread_last refs live k (root ∷ []))

pub reach_keeps : ReachKeepsOrder
unfolding reached
reach_keeps refs [] root is_live = cc
reach_keeps refs (x ∷ xs) root is_live = kept refs (x ∷ xs) root (length xs)
