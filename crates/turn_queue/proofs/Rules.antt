-- Each step keeps the rule of the queue.
use Rattle.std.proofs.Common.{◌≡◌, ◌≢◌, ◌⊎◌, inl, inr, ⊎_elim, ℕ, zero, suc, ◌+◌, ◌≤◌, ◌==◌, ◌||◌, Bool, true, false, cond, not, nat_lt, List, [], ◌∷◌, ◌++◌, filter, length, set, refl, sym, ap, ◌∙◌, subst, arith, append_assoc, All, Option, Some, None, IfSome}
use Rattle.std.proofs.lemmas.Bool.Decides.{nat_tests}
use Rattle.std.proofs.lemmas.List.Elements.{All-nil, All-cons, All-head, All-tail, All-append, All-filter, All-map, All-weaker}
use Rattle.std.proofs.lemmas.List.Folds.{list_any-append}
use Rattle.std.proofs.lemmas.List.{append-nil, append_cancel_left}
use mathlib.Core.Option.{some, some-injective, some-ne-none}
use mathlib.Core.Logic.{dite}
use native.Mathlib.Decide.{ℕ_discrete}
use lib.ListN.{get_elem?}
use Rattle.crossbeam_queue.specs.Fifo.{Pushes, Pops, Forks, Merges, Learns}
use Rattle.crossbeam_queue.proofs.Lists.{at_set, set_else, at_longer}
use Rattle.obj_kinds.specs.declared.op.Op.{Op}
use Rattle.obj_kinds.specs.declared.op.Pid.{Pid}
use Rattle.store_core.specs.declared.entry.Entry.{Entry}
use Rattle.store_core.specs.History.{part_of}
use Rattle.store_core.specs.Ledger.{Ledger, opened, with_entry, end_entry}
use Rattle.store_core.proofs.PartLaws.{part_more}
use Rattle.turn_queue.specs.declared.view.Part.{Part}
use Rattle.turn_queue.specs.declared.view.View.{View}
use Rattle.turn_queue.specs.Parts.{as_opened, has, IsRefused, Fits, with_own, entered, fresh, fresh_from, below, from}
use Rattle.turn_queue.specs.Rule.{Knows, AtRest, IsOut, AreApart, IsShared, OneStore, no_store, seat_view, first_view, spent_view, with_store, Opens, Takes, Returns, Enters, history_of, IsEmpty}
use Rattle.turn_queue.proofs.Views.{set_there, snoc_cases, Each, each_set, each_snoc, Spoke, apart_spoke, spoke_set}

-- PROCESSES OF A SEAT

stays_refused : (l : Ledger) (e : Entry) (p : Pid) (op : Op) → IsRefused l p op → IsRefused (with_entry l e) p op
unfolding opened
stays_refused l e p op r =
    record { before = r.before; later = r.later ++ e ∷ []; history = ap (λ k. k ++ e ∷ []) r.history ∙ append_assoc r.before (end_entry p ∷ r.later) (e ∷ []); passes = r.passes }

still_refused : (l : Ledger) (e : Entry) (p : Pid) (r : Option Op) → IfSome r (IsRefused l p) → IfSome r (IsRefused (with_entry l e) p)
still_refused l e p None h = h
still_refused l e p (Some op) h = stays_refused l e p op h

part_same : (p : ℕ) (es : List Entry) (e : Entry) → e.pid.0 == p ≡ false → part_of p (es ++ e ∷ []) ≡ part_of p es
part_same p es e is = part_more p es e ∙ ap (λ b. part_of p es ++ cond b (e ∷ []) []) is ∙ append-nil (part_of p es)

part_longer : (p : ℕ) (es : List Entry) (e : Entry) → e.pid.0 == p ≡ true → part_of p (es ++ e ∷ []) ≡ part_of p es ++ e ∷ []
part_longer p es e is = part_more p es e ∙ ap (λ b. part_of p es ++ cond b (e ∷ []) []) is

pub same_number : (m n : ℕ) → m == n ≡ true → m ≡ n
same_number m n e = grind (arith, nat_tests)

other_fits : (l : Ledger) (e : Entry) (o : Part) → e.pid.0 == o.pid.0 ≡ false → Fits l o → Fits (with_entry l e) o
other_fits l e o is f = record { low = f.low; high = f.high; entries = f.entries ∙ sym (part_same o.pid.0 l.history e is); refused = still_refused l e o.pid o.refused f.refused }

own_fits : (l : Ledger) (e : Entry) (r : Option Op) → IfSome r (IsRefused (with_entry l e) e.pid) → (o : Part) → Fits l o → Fits (with_entry l e) (with_own e r o)
own_fits l e r ref o f = by (e.pid.0 == o.pid.0) refl
  where
    by : (b : Bool) → e.pid.0 == o.pid.0 ≡ b → Fits (with_entry l e) (cond b (record { pid = o.pid; entries = o.entries ++ e ∷ []; refused = r }) o)
    by true is =
        let same : e.pid ≡ o.pid = λ i. record { 0 = same_number e.pid.0 o.pid.0 is i } in
        record { low = f.low; high = f.high; entries = ap (λ k. k ++ e ∷ []) f.entries ∙ sym (part_longer o.pid.0 l.history e is); refused = subst (λ p. IfSome r (IsRefused (with_entry l e) p)) same ref }
    by false is = other_fits l e o is f

pub or_right : (a b : Bool) → b ≡ true → (a || b) ≡ true
or_right true b e = refl
or_right false b e = e

or_neither : (a b : Bool) → (a || b) ≡ false → (a ≡ false) × (b ≡ false)
or_neither true b e = absurd cc
or_neither false b e = (refl, e)

others_fit : (l : Ledger) (e : Entry) (parts : List Part) → has e.pid.0 parts ≡ false → All (Fits l) parts → All (Fits (with_entry l e)) parts
others_fit l e [] is all = All-nil (Fits (with_entry l e))
others_fit l e (o ∷ os) is all =
    let two = or_neither (e.pid.0 == o.pid.0) (has e.pid.0 os) is in
    All-cons (Fits (with_entry l e)) o os (other_fits l e o two.0 (All-head (Fits l) o os all)) (others_fit l e os two.1 (All-tail (Fits l) o os all))

fresh_fit : (l : Ledger) (p n : ℕ) → l.history ≡ [] → 1 ≤ p → p + n ≤ l.pids + 1 → All (Fits l) (fresh_from p n)
fresh_fit l p zero empty low high = All-nil (Fits l)
fresh_fit l p (suc n) empty low high =
    All-cons (Fits l) (fresh p) (fresh_from (suc p) n) (record { low = low; high = omega (arith, high); entries = ap (part_of p) (sym empty); refused = tt }) (fresh_fit l (suc p) n empty (omega arith) (omega (arith, high)))

own_pid : (e : Entry) (r : Option Op) (o : Part) → (with_own e r o).pid ≡ o.pid
own_pid e r o = by (e.pid.0 == o.pid.0)
  where
    by : (b : Bool) → (cond b (record { pid = o.pid; entries = o.entries ++ e ∷ []; refused = r }) o).pid ≡ o.pid
    by true = refl
    by false = refl

pub has_entered : (p : ℕ) (e : Entry) (r : Option Op) (parts : List Part) → has p (entered e r parts) ≡ has p parts
has_entered p e r [] = refl
has_entered p e r (o ∷ os) = ap (λ (k : Pid). (p == k.0) || has p (entered e r os)) (own_pid e r o) ∙ ap (λ b. (p == o.pid.0) || b) (has_entered p e r os)

has_some : (p : ℕ) (parts : List Part) → has p parts ≡ true → parts ≢ []
has_some p parts is none = absurd (let h = ap (has p) none in cc)

-- WHO HAS THE STORE

is_out : (l : Ledger) (items : List Ledger) (views : List View) → AtRest l items views ⊎ IsOut l items views → (port : ℕ) (v : View) (t : Ledger) → get_elem? views port ≡ some v → v.taken ≡ Some t → IsOut l items views
is_out l items views (inl rest) port v t at took = absurd (let h = rest.idle port v at in cc)
is_out l items views (inr out) port v t at took = out

holds_it : (l : Ledger) (items : List Ledger) (views : List View) (out : IsOut l items views) (port : ℕ) (v : View) (t : Ledger) → get_elem? views port ≡ some v → v.taken ≡ Some t → (port ≡ out.holder) × (v ≡ out.hand) × (t ≡ l)
holds_it l items views out port v t at took =
    let same : port ≡ out.holder = dite (ℕ_discrete port out.holder) (λ e. e) (λ ne. absurd (let h = out.idle port v at ne in cc)) in
    let is : v ≡ out.hand = some-injective v out.hand (sym at ∙ ap (λ k. get_elem? views k) same ∙ out.there) in
    let two : Some t ≡ Some l = sym took ∙ ap (λ (u : View). u.taken) is ∙ out.taken in
    (same, is, cc)

not_holder : (l : Ledger) (items : List Ledger) (views : List View) (out : IsOut l items views) (port : ℕ) (v : View) → get_elem? views port ≡ some v → v.taken ≡ None → out.holder ≢ port
not_holder l items views out port v at idle e =
    let is : out.hand ≡ v = some-injective out.hand v (sym out.there ∙ ap (λ k. get_elem? views k) e ∙ at) in
    let two : Some l ≡ None = sym out.taken ∙ ap (λ (u : View). u.taken) is ∙ idle in
    absurd cc

pub empties : (port : ℕ) (v : View) (t : Ledger) → v.taken ≡ Some t → Learns OneStore port v IsEmpty
empties port v t took items views h at = (is_out h.0 items views h.1.place port v t at took).gone

-- THE STEPS

pub begins : OneStore [] (first_view ∷ [])
begins = (
  no_store,
  record {
    knows = λ i v e. first_knows i v e;
    apart = λ i j v w p e e' h h'. absurd (no_part i v p e h);
    place = inr (record { gone = refl; holder = 0; hand = first_view; there = refl; taken = refl; idle = others; first = λ _. (refl, no_parts) });
  },
)
  where
    only : (i : ℕ) (v : View) → get_elem? (first_view ∷ []) i ≡ some v → (i ≡ 0) × (first_view ≡ v)
    only zero v e = (refl, some-injective first_view v e)
    only (suc i) v e = absurd (some-ne-none v (sym e))

    no_parts : (i : ℕ) (v : View) → get_elem? (first_view ∷ []) i ≡ some v → v.parts ≡ []
    no_parts i v e = ap (λ (u : View). u.parts) (sym (only i v e).1)

    no_part : (i : ℕ) (v : View) (p : ℕ) → get_elem? (first_view ∷ []) i ≡ some v → has p v.parts ≡ true → ⊥
    no_part i v p e h = has_some p v.parts h (no_parts i v e)

    first_knows : (i : ℕ) (v : View) → get_elem? (first_view ∷ []) i ≡ some v → Knows no_store v
    first_knows i v e = record { opened = λ some'. absurd (some' (no_parts i v e)); fits = subst (λ ps. All (Fits no_store) ps) (sym (no_parts i v e)) (All-nil (Fits no_store)) }

    others : (i : ℕ) (v : View) → get_elem? (first_view ∷ []) i ≡ some v → i ≢ 0 → v.taken ≡ None
    others i v e ne = absurd (ne (only i v e).0)

take_from : (port : ℕ) (v : View) (x : Ledger) (items : List Ledger) (views : List View) (l : Ledger) → v.parts ≢ [] → IsShared l (x ∷ items) views → get_elem? views port ≡ some v
    → AtRest l (x ∷ items) views ⊎ IsOut l (x ∷ items) views → (w : View) × OneStore items (set views port w) × Takes v x w
take_from port v x items views l spoke s at (inr out) = absurd (let h = out.gone in cc)
take_from port v x items views l spoke s at (inl rest) =
    let same : x ≡ l = let h = rest.here in cc in
    let none : items ≡ [] = let h = rest.here in cc in
    let w : View = with_store v x in
    let mine = s.knows port v at in (
      w,
      (
        l,
        record {
          knows = each_set (λ _ u. Knows l u) views port w (record { opened = mine.opened; fits = mine.fits }) (λ j u ne e. s.knows j u e);
          apart = apart_spoke views (set views port w) s.apart (spoke_set views port v w at (λ p h. h));
          place = inr (record {
            gone = none;
            holder = port;
            hand = w;
            there = set_there views port w v at;
            taken = ap Some same;
            idle = each_set (λ i u. i ≢ port → u.taken ≡ None) views port w (λ ne. absurd (ne refl)) (λ j u ne e _. rest.idle j u e);
            first = λ n. absurd (spoke n);
          });
        },
      ),
      (refl, ap as_opened same ∙ sym (mine.opened spoke), subst (λ k. All (Fits k) v.parts) (sym same) mine.fits),
    )

pub takes : (port : ℕ) (v : View) → v.parts ≢ [] → Pops OneStore port v (Takes v)
takes port v spoke x items views h at = take_from port v x items views h.0 spoke h.1 at h.1.place

pub gives : (n port : ℕ) (v : View) (x : Ledger) → v.taken ≡ Some x → Pushes OneStore n port v x (Returns v x)
gives n port v x took items views room h at =
    let l = h.0 in
    let s = h.1 in
    let out = is_out l items views s.place port v x at took in
    let held = holds_it l items views out port v x at took in
    let w : View = seat_view v.opened v.parts in
    let mine = s.knows port v at in (
      w,
      (
        l,
        record {
          knows = each_set (λ _ u. Knows l u) views port w (record { opened = mine.opened; fits = mine.fits }) (λ j u ne e. s.knows j u e);
          apart = apart_spoke views (set views port w) s.apart (spoke_set views port v w at (λ p k. k));
          place = inl (record {
            here = ap (λ k. k ++ x ∷ []) out.gone ∙ ap (λ k. k ∷ []) held.2;
            idle = each_set (λ _ u. u.taken ≡ None) views port w refl (λ j u ne e. out.idle j u e (λ k. ne (k ∙ sym held.0)));
          });
        },
      ),
      refl,
    )

pub opens : (n port : ℕ) (v : View) (t x : Ledger) → v.parts ≡ [] → v.taken ≡ Some t → x.history ≡ [] → Pushes OneStore n port v x (Opens v x)
opens n port v t x none took empty items views room h at =
    let l = h.0 in
    let s = h.1 in
    let out = is_out l items views s.place port v t at took in
    let held = holds_it l items views out port v t at took in
    let nobody = (out.first (ap (λ (u : View). u.parts) (sym held.1) ∙ none)).1 in
    let w : View = seat_view (as_opened x) (fresh_from 1 x.pids) in
    let only : (i : ℕ) (u : View) → get_elem? (set views port w) i ≡ some u → (p : ℕ) → has p u.parts ≡ true → i ≡ port =
    each_set (λ i u. (p : ℕ) → has p u.parts ≡ true → i ≡ port) views port w (λ _ _. refl) (λ j u ne e p k. absurd (has_some p u.parts k (nobody j u e))) in (
      w,
      (
        x,
        record {
          knows = each_set (λ _ u. Knows x u) views port w (record { opened = λ _. refl; fits = fresh_fit x 1 x.pids empty (omega arith) (omega arith) })
              (λ j u ne e. record { opened = λ some'. absurd (some' (nobody j u e)); fits = subst (λ ps. All (Fits x) ps) (sym (nobody j u e)) (All-nil (Fits x)) });
          apart = λ i j u u' p e e' k k'. only i u e p k ∙ sym (only j u' e' p k');
          place = inl (record {
            here = ap (λ k. k ++ x ∷ []) out.gone;
            idle = each_set (λ _ u. u.taken ≡ None) views port w refl (λ j u ne e. out.idle j u e (λ k. ne (k ∙ sym held.0)));
          });
        },
      ),
      refl,
    )

other_knows : (l : Ledger) (e : Entry) (u : View) → has e.pid.0 u.parts ≢ true → Knows l u → Knows (with_entry l e) u
other_knows l e u away k = record { opened = k.opened; fits = by (has e.pid.0 u.parts) refl }
  where
    by : (b : Bool) → has e.pid.0 u.parts ≡ b → All (Fits (with_entry l e)) u.parts
    by true is = absurd (away is)
    by false is = others_fit l e u.parts is k.fits

-- of the ledger that the rule has, in place of the one that was taken
enter_at : (port : ℕ) (v : View) (l : Ledger) (e : Entry) (r : Option Op) (items : List Ledger) (views : List View) → IsShared l items views → get_elem? views port ≡ some v → (out : IsOut l items views)
    → port ≡ out.holder → has e.pid.0 v.parts ≡ true → IfSome r (IsRefused (with_entry l e) e.pid)
    → IsShared (with_entry l e) (items ++ with_entry l e ∷ []) (set views port (seat_view v.opened (entered e r v.parts)))
enter_at port v l e r items views s at out here own ref =
    let w : View = seat_view v.opened (entered e r v.parts) in
    let mine = s.knows port v at in
    record {
      knows = each_set (λ _ u. Knows (with_entry l e) u) views port w
          (record {
            opened = λ _. mine.opened (has_some e.pid.0 v.parts own);
            fits = All-map (Fits (with_entry l e)) (with_own e r) v.parts (All-weaker (Fits l) (λ o. Fits (with_entry l e) (with_own e r o)) (own_fits l e r ref) v.parts mine.fits);
          })
          (λ j u ne k. other_knows l e u (λ theirs. ne (sym (s.apart port j v u e.pid.0 at k own theirs))) (s.knows j u k));
      apart = apart_spoke views (set views port w) s.apart (spoke_set views port v w at (λ p k. sym (has_entered p e r v.parts) ∙ k));
      place = inl (record {
        here = ap (λ k. k ++ with_entry l e ∷ []) out.gone;
        idle = each_set (λ _ u. u.taken ≡ None) views port w refl (λ j u ne k. out.idle j u k (λ q. ne (q ∙ sym here)));
      });
    }

pub enters : (n port : ℕ) (v : View) (t x : Ledger) (e : Entry) (r : Option Op) → v.taken ≡ Some t → x ≡ with_entry t e → has e.pid.0 v.parts ≡ true → IfSome r (IsRefused x e.pid) → Pushes OneStore n port v x (Enters r v x)
enters n port v t x e r took is own ref items views room h at =
    let l = h.0 in
    let s = h.1 in
    let out = is_out l items views s.place port v t at took in
    let held = holds_it l items views out port v t at took in
    let w : View = seat_view v.opened (entered e r v.parts) in
    let new : x ≡ with_entry l e = is ∙ ap (λ k. with_entry k e) held.2 in
    let shared = enter_at port v l e r items views s at out held.0 own (subst (λ k. IfSome r (IsRefused k e.pid)) new ref) in (
      w,
      (x, subst (λ k. IsShared k (items ++ k ∷ []) (set views port w)) (sym new) shared),
      (e, ap (λ (k : Ledger). k.history) is ∙ ap (λ k. history_of k ++ e ∷ []) (sym took), refl),
    )

-- SPLITTING AND JOINING

pub or_either : (a b : Bool) → (a || b) ≡ true → (a ≡ true) ⊎ (b ≡ true)
or_either true b e = inl refl
or_either false b e = inr e

has_kept : (test : ℕ → Bool) (p : ℕ) (parts : List Part) → has p (filter (λ o. test o.pid.0) parts) ≡ true → (has p parts ≡ true) × (test p ≡ true)
has_kept test p [] h = absurd cc
has_kept test p (o ∷ os) h = by (test o.pid.0) refl h (has_kept test p os)
  where
    later : (has p os ≡ true) × (test p ≡ true) → ((p == o.pid.0 || has p os) ≡ true) × (test p ≡ true)
    later r = (or_right (p == o.pid.0) (has p os) r.0, r.1)

    by : (b : Bool) → test o.pid.0 ≡ b → has p (cond b (o ∷ filter (λ o. test o.pid.0) os) (filter (λ o. test o.pid.0) os)) ≡ true
        → (has p (filter (λ o. test o.pid.0) os) ≡ true → (has p os ≡ true) × (test p ≡ true)) → ((p == o.pid.0 || has p os) ≡ true) × (test p ≡ true)
    by true is k rest = ⊎_elim (λ (q : p == o.pid.0 ≡ true). (ap (λ b. b || has p os) q, ap test (same_number p o.pid.0 q) ∙ is)) (λ q. later (rest q)) (or_either (p == o.pid.0) (has p (filter (λ o. test o.pid.0) os)) k)
    by false is k rest = later (rest k)

below_not : (first p : ℕ) → nat_lt p first ≡ true → not (nat_lt p first) ≡ true → ⊥
below_not first p a b = let h = ap not a in absurd cc

-- a process of one half isn't one of the other
halves : (first p : ℕ) (parts : List Part) → has p (below first parts) ≡ true → has p (from first parts) ≡ true → ⊥
halves first p parts a b = below_not first p (has_kept (λ k. nat_lt k first) p parts a).1 (has_kept (λ k. not (nat_lt k first)) p parts b).1

kept_knows : (test : Part → Bool) (l : Ledger) (v : View) → Knows l v → Knows l (seat_view v.opened (filter test v.parts))
kept_knows test l v k = record { opened = λ some'. k.opened (λ none. some' (ap (filter test) none)); fits = All-filter test (Fits l) v.parts k.fits }

-- the right half stands behind all others
right_apart : (first port : ℕ) (v : View) (views : List View) → AreApart views → get_elem? views port ≡ some v
    → (i : ℕ) (u : View) (p : ℕ) → get_elem? (set views port (seat_view v.opened (below first v.parts))) i ≡ some u → has p u.parts ≡ true → has p (from first v.parts) ≡ true → ⊥
right_apart first port v views apart at = λ i u p. each_set (λ i u. has p u.parts ≡ true → has p (from first v.parts) ≡ true → ⊥) views port (seat_view v.opened (below first v.parts))
    (λ mine right. halves first p v.parts mine right)
    (λ j u' ne e mine right. ne (apart j port u' v p e at mine (has_kept (λ k. not (nat_lt k first)) p v.parts right).0)) i u

fork_place : (first port : ℕ) (v : View) (l : Ledger) (items : List Ledger) (views : List View) → v.taken ≡ None → get_elem? views port ≡ some v → AtRest l items views ⊎ IsOut l items views
    → AtRest l items (set views port (seat_view v.opened (below first v.parts)) ++ seat_view v.opened (from first v.parts) ∷ []) ⊎ IsOut l items (set views port (seat_view v.opened (below first v.parts)) ++ seat_view v.opened (from first v.parts) ∷ [])
fork_place first port v l items views idle at (inl rest) =
    let left : View = seat_view v.opened (below first v.parts) in
    let right : View = seat_view v.opened (from first v.parts) in
    inl (record { here = rest.here; idle = each_snoc (λ _ u. u.taken ≡ None) (set views port left) right refl (each_set (λ _ u. u.taken ≡ None) views port left refl (λ j u ne e. rest.idle j u e)) })
fork_place first port v l items views idle at (inr out) =
    let left : View = seat_view v.opened (below first v.parts) in
    let right : View = seat_view v.opened (from first v.parts) in
    let away = not_holder l items views out port v at idle in
    inr (record {
      gone = out.gone;
      holder = out.holder;
      hand = out.hand;
      there = at_longer (set views port left) (right ∷ []) out.holder out.hand (set_else views port out.holder left away ∙ out.there);
      taken = out.taken;
      idle = each_snoc (λ i u. i ≢ out.holder → u.taken ≡ None) (set views port left) right (λ _. refl) (each_set (λ i u. i ≢ out.holder → u.taken ≡ None) views port left (λ _. refl) (λ j u ne e. out.idle j u e));
      first = λ none. let r = out.first none in let mine = r.1 port v at in
          (r.0, each_snoc (λ _ u. u.parts ≡ []) (set views port left) right (ap (from first) mine) (each_set (λ _ u. u.parts ≡ []) views port left (ap (below first) mine) (λ j u ne e. r.1 j u e)));
    })

pub forks : (first port : ℕ) (v : View) → v.taken ≡ None → Forks OneStore port v (seat_view v.opened (below first v.parts)) (seat_view v.opened (from first v.parts))
forks first port v idle items views h at =
    let l = h.0 in
    let s = h.1 in
    let left : View = seat_view v.opened (below first v.parts) in
    let right : View = seat_view v.opened (from first v.parts) in
    let rest : List View = set views port left in
    let mine = s.knows port v at in
    let apart : AreApart rest = apart_spoke views rest s.apart (spoke_set views port v left at (λ p k. (has_kept (λ k. nat_lt k first) p v.parts k).0)) in (
      l,
      record {
        knows = each_snoc (λ _ u. Knows l u) rest right (kept_knows (λ o. not (nat_lt o.pid.0 first)) l v mine)
            (each_set (λ _ u. Knows l u) views port left (kept_knows (λ o. nat_lt o.pid.0 first) l v mine) (λ j u ne e. s.knows j u e));
        apart = λ i j u w p e e' k k'. ⊎_elim
            (λ (a : get_elem? rest i ≡ some u). ⊎_elim
            (λ (b : get_elem? rest j ≡ some w). apart i j u w p a b k k')
            (λ (b : (j ≡ length rest) × (right ≡ w)). absurd (right_apart first port v views s.apart at i u p a k (ap (λ (y : View). has p y.parts) b.1 ∙ k')))
            (snoc_cases rest right w j e'))
            (λ (a : (i ≡ length rest) × (right ≡ u)). ⊎_elim
            (λ (b : get_elem? rest j ≡ some w). absurd (right_apart first port v views s.apart at j w p b k' (ap (λ (y : View). has p y.parts) a.1 ∙ k)))
            (λ (b : (j ≡ length rest) × (right ≡ w)). a.0 ∙ sym b.0)
            (snoc_cases rest right w j e'))
            (snoc_cases rest right u i e);
        place = fork_place first port v l items views idle at s.place;
      },
    )

-- where a view of a joined list comes from: the same seat before, or the seat that was taken in
join_spoke : (port : ℕ) (v : View) (other : ℕ) (u : View) (views : List View) → get_elem? views port ≡ some v → get_elem? views other ≡ some u
    → (i : ℕ) (w : View) (p : ℕ) → get_elem? (set (set views port (seat_view v.opened (v.parts ++ u.parts))) other spent_view) i ≡ some w → has p w.parts ≡ true
    → ((i ≢ other) × Spoke views i p) ⊎ ((i ≡ port) × Spoke views other p)
join_spoke port v other u views at at' i w p e k =
    let both : View = seat_view v.opened (v.parts ++ u.parts) in
    let F : ℕ → View → Type 0 = λ i w. has p w.parts ≡ true → (i ≢ other → ((i ≢ other) × Spoke views i p) ⊎ ((i ≡ port) × Spoke views other p)) in
    let inner : Each F (set views port both) = each_set F views port both
    (λ h away. ⊎_elim (λ (a : has p v.parts ≡ true). inl (away, (v, at, a))) (λ (b : has p u.parts ≡ true). inr (refl, (u, at', b))) (or_either (has p v.parts) (has p u.parts) (sym (list_any-append (λ o. p == o.pid.0) v.parts u.parts) ∙ h)))
    (λ j y ne e' h away. inl (away, (y, e', h))) in
    each_set (λ i w. has p w.parts ≡ true → ((i ≢ other) × Spoke views i p) ⊎ ((i ≡ port) × Spoke views other p)) (set views port both) other spent_view
    (λ h. absurd cc) (λ j y ne e' h. inner j y e' h ne) i w e k

join_apart : (port : ℕ) (v : View) (other : ℕ) (u : View) (views : List View) → AreApart views → get_elem? views port ≡ some v → get_elem? views other ≡ some u
    → AreApart (set (set views port (seat_view v.opened (v.parts ++ u.parts))) other spent_view)
join_apart port v other u views apart at at' i j w y p e e' k k' =
    let A : (ℕ → Type 0) = λ i. ((i ≢ other) × Spoke views i p) ⊎ ((i ≡ port) × Spoke views other p) in
    let same : (m n : ℕ) → Spoke views m p → Spoke views n p → m ≡ n = λ m n a b. apart m n a.0 b.0 p a.1 b.1 a.2 b.2 in
    ⊎_elim
    (λ (a : (i ≢ other) × Spoke views i p). ⊎_elim
    (λ (b : (j ≢ other) × Spoke views j p). same i j a.1 b.1)
    (λ (b : (j ≡ port) × Spoke views other p). absurd (a.0 (same i other a.1 b.1)))
    (join_spoke port v other u views at at' j y p e' k'))
    (λ (a : (i ≡ port) × Spoke views other p). ⊎_elim
    (λ (b : (j ≢ other) × Spoke views j p). absurd (b.0 (same j other b.1 a.1)))
    (λ (b : (j ≡ port) × Spoke views other p). a.0 ∙ sym b.0)
    (join_spoke port v other u views at at' j y p e' k'))
    (join_spoke port v other u views at at' i w p e k)

join_place : (port : ℕ) (v : View) (other : ℕ) (u : View) (l : Ledger) (items : List Ledger) (views : List View) → v.taken ≡ None → u.taken ≡ None → v.parts ≢ [] → get_elem? views port ≡ some v → get_elem? views other ≡ some u
    → AtRest l items views ⊎ IsOut l items views
    → AtRest l items (set (set views port (seat_view v.opened (v.parts ++ u.parts))) other spent_view) ⊎ IsOut l items (set (set views port (seat_view v.opened (v.parts ++ u.parts))) other spent_view)
join_place port v other u l items views idle idle' spoke at at' (inl rest) =
    let both : View = seat_view v.opened (v.parts ++ u.parts) in
    inl (record { here = rest.here; idle = each_set (λ _ u. u.taken ≡ None) (set views port both) other spent_view refl (λ j y ne e. each_set (λ _ u. u.taken ≡ None) views port both refl (λ j u ne e. rest.idle j u e) j y e) })
join_place port v other u l items views idle idle' spoke at at' (inr out) =
    let both : View = seat_view v.opened (v.parts ++ u.parts) in
    let away = not_holder l items views out port v at idle in
    let away' = not_holder l items views out other u at' idle' in
    let F : ℕ → View → Type 0 = λ i u. i ≢ out.holder → u.taken ≡ None in
    inr (record {
      gone = out.gone;
      holder = out.holder;
      hand = out.hand;
      there = set_else (set views port both) other out.holder spent_view away' ∙ set_else views port out.holder both away ∙ out.there;
      taken = out.taken;
      idle = each_set F (set views port both) other spent_view (λ _. refl) (λ j y ne e. each_set F views port both (λ _. refl) (λ j u ne e. out.idle j u e) j y e);
      first = λ none. absurd (spoke ((out.first none).1 port v at));
    })

pub merges : (port : ℕ) (v : View) (other : ℕ) (u : View) → v.taken ≡ None → u.taken ≡ None → v.parts ≢ [] → Merges OneStore port v other u (seat_view v.opened (v.parts ++ u.parts)) spent_view
merges port v other u idle idle' spoke items views h at two at' =
    let l = h.0 in
    let s = h.1 in
    let both : View = seat_view v.opened (v.parts ++ u.parts) in
    let was : get_elem? views other ≡ some u = ⊎_elim (λ x. absurd (two x.0)) (λ x. x.1) (at_set views port other both u at') in
    let mine = s.knows port v at in
    let theirs = s.knows other u was in (
      l,
      record {
        knows = each_set (λ _ u. Knows l u) (set views port both) other spent_view (record { opened = λ some'. absurd (some' refl); fits = All-nil (Fits l) })
            (λ j y ne e. each_set (λ _ u. Knows l u) views port both (record { opened = λ _. mine.opened spoke; fits = All-append (Fits l) v.parts u.parts mine.fits theirs.fits }) (λ j u ne e. s.knows j u e) j y e);
        apart = join_apart port v other u views s.apart at was;
        place = join_place port v other u l items views idle idle' spoke at was s.place;
      },
    )

-- WHAT THE STEPS TELL

last_same : (es : List Entry) (e f : Entry) → es ++ e ∷ [] ≡ es ++ f ∷ [] → e ≡ f
last_same es e f h = let k = append_cancel_left es (e ∷ []) (f ∷ []) h in cc

pub entered_once : (v w : View) (t x : Ledger) (e : Entry) (r : Option Op) → v.taken ≡ Some t → x ≡ with_entry t e → Enters r v x w → w ≡ seat_view v.opened (entered e r v.parts)
entered_once v w t x e r took is told =
    let f = told.0 in
    let same : t.history ++ f ∷ [] ≡ t.history ++ e ∷ [] = ap (λ k. history_of k ++ f ∷ []) (sym took) ∙ sym told.1 ∙ ap (λ (k : Ledger). k.history) is in
    told.2 ∙ ap (λ k. seat_view v.opened (entered k r v.parts)) (last_same t.history f e same)
