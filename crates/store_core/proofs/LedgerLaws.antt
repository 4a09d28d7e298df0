-- What is true of a ledger after any operations.
use Rattle.std.proofs.Common.{◌≡◌, ◌≢◌, ◌≤◌, ℕ, ◌+◌, true, false, cond, not, ◌==◌, List, [], ◌∷◌, ◌++◌, is_some, None, unwrap_or, refl, sym, ap, ◌∙◌, arith, All, append_assoc}
use Rattle.std.proofs.lemmas.Cmp.{nat_cmp_total, tied_itself}
use Rattle.std.proofs.lemmas.List.{append-nil}
use Rattle.std.proofs.lemmas.List.Elements.{All-cons}
use Rattle.std.specs.Ordering.{is_eq}
use Rattle.std.specs.FinMap.{get, contains_key}
use Rattle.obj_kinds.specs.declared.op.Pid.{Pid}
use Rattle.obj_kinds.specs.declared.op.Op.{Op}
use Rattle.obj_kinds.specs.declared.op.Op.TheVariants.{End}
use Rattle.global_tree.specs.Contents.{Globals}
use Rattle.global_tree.proofs.MapLaws.{get-placed}
use Rattle.lock_table.specs.declared.hold.Hold.{Hold}
use Rattle.lock_table.specs.Holds.{all_dropped}
use Rattle.lock_table.proofs.HoldLaws.{get-dropped}
use Rattle.store_core.specs.declared.entry.Entry.{Entry}
use Rattle.store_core.specs.Machine.{State, turn, after, is_live, levels_at, opening}
use Rattle.store_core.specs.History.{IsLegal, IsLegalWithin, state_after}
use Rattle.store_core.specs.Volume.{volume, entry_volume}
use Rattle.store_core.specs.Live.{is_end, ends, live_count}
use Rattle.store_core.specs.Ledger.{Ledger, opened, state_of, next_entry, end_entry, with_entry, IsSound, ran, AreAccepted, after_all, entries_of}
use Rattle.store_core.proofs.HistoryLaws.{legal_step, state_more, volume_more}
use Rattle.store_core.proofs.LiveLaws.{own_after, other_after, stays_live, ends_counted, opening_within, opening_count, live_has_place}
use Rattle.store_core.proofs.StoreLaws.{reply_end}

-- THE END OF A PROCESS

pub end_live : (s : State) (p : Pid) → is_live (after s p End) p ≡ false
end_live s p = own_after s p End

pub end_levels : (s : State) (p : Pid) → levels_at (after s p End) p.0 ≡ []
unfolding after
end_levels s p =
    ap (λ o. unwrap_or o []) (get-placed nat_cmp_total s.levels p.0 None p.0)
    ∙ ap (λ r. unwrap_or (cond (is_eq r) None (get s.levels p.0)) []) (tied_itself nat_cmp_total p.0)

same_pid : (m n : ℕ) → m ≡ n → m == n ≡ true
same_pid m n e = grind arith

pub end_holds : (s : State) (p : Pid) (h : Hold) → h.pid.0 ≡ p.0 → contains_key (after s p End).holds h ≡ false
unfolding after turn all_dropped
end_holds s p h e =
    ap is_some (get-dropped s.holds (λ x. not (x.pid.0 == p.0)) h)
    ∙ ap (λ b. is_some (cond (not b) (get s.holds h) None)) (same_pid h.pid.0 p.0 e)

pub counted_ends : (pids : ℕ) (g : Globals) (es : List Entry) → IsLegal (opening pids g) es → ends es + live_count (state_after (opening pids g) es) ≡ pids
counted_ends pids g es legal = ends_counted (opening pids g) es (opening_within pids g) legal ∙ opening_count pids g

pub numbered_live : (pids : ℕ) (g : Globals) (es : List Entry) (p : Pid) → IsLegal (opening pids g) es → is_live (state_after (opening pids g) es) p ≡ true → (1 ≤ p.0) × (p.0 ≤ pids)
numbered_live pids g es p legal live = let h = live_has_place pids g es p legal live in (h.0, h.1.0)

-- another process than one that isn't live
another : (s : State) (p q : Pid) → is_live s p ≡ true → is_live s q ≡ false → p.0 ≢ q.0
another s p q live dead e = let h = ap (contains_key s.levels) e in absurd cc

other_dead : (s : State) (p q : Pid) (op : Op) → is_live s p ≡ true → is_live s q ≡ false → is_live (after s p op) q ≡ false
other_dead s p q op live dead = other_after s p op q.0 (λ e. another s p q live dead (sym e)) ∙ dead

pub silent_ended : (s : State) (es : List Entry) (p : Pid) → IsLegal s es → is_live s p ≡ false → All (λ e. e.pid.0 ≢ p.0) es
silent_ended s [] p legal dead = λ k d lt. absurd (omega (arith, lt))
silent_ended s (e ∷ es) p legal dead =
    All-cons (λ x. x.pid.0 ≢ p.0) e es (another s e.pid p legal.0.0 dead) (silent_ended (after s e.pid e.op) es p legal.1 (other_dead s e.pid p e.op legal.0.0 dead))

pub stays_ended : (s : State) (es : List Entry) (p : Pid) → IsLegal s es → is_live s p ≡ false → is_live (state_after s es) p ≡ false
stays_ended s [] p legal dead = dead
stays_ended s (e ∷ es) p legal dead = stays_ended (after s e.pid e.op) es p legal.1 (other_dead s e.pid p e.op legal.0.0 dead)

-- RUNS

pub next_end : (l : Ledger) (p : Pid) → next_entry l p End ≡ end_entry p
next_end l p = ap (λ r. record { pid = p; op = End; reply = r }) (reply_end (state_of l) p)

pub state_with : (l : Ledger) (e : Entry) → state_of (with_entry l e) ≡ after (state_of l) e.pid e.op
unfolding state_of opened
state_with l e = state_more (opened l) l.history e

pub ran_opened : (l : Ledger) (asked : List (Pid × Op)) → ((ran l asked).nodes ≡ l.nodes) × (((ran l asked).pids ≡ l.pids) × ((ran l asked).limit ≡ l.limit))
ran_opened l [] = (refl, (refl, refl))
ran_opened l (a ∷ more) = ran_opened (with_entry l (next_entry l a.0 a.1)) more

pub ran_state : (l : Ledger) (asked : List (Pid × Op)) → state_of (ran l asked) ≡ after_all (state_of l) asked
ran_state l [] = refl
ran_state l (a ∷ more) =
    ran_state (with_entry l (next_entry l a.0 a.1)) more
    ∙ ap (λ s. after_all s more) (state_with l (next_entry l a.0 a.1))

pub ran_history : (l : Ledger) (asked : List (Pid × Op)) → (ran l asked).history ≡ l.history ++ entries_of (state_of l) asked
ran_history l [] = sym (append-nil l.history)
ran_history l (a ∷ more) =
    let e = next_entry l a.0 a.1 in
    ran_history (with_entry l e) more
    ∙ ap (λ s. l.history ++ e ∷ [] ++ entries_of s more) (state_with l e)
    ∙ append_assoc l.history (e ∷ []) (entries_of (after (state_of l) a.0 a.1) more)

sound_with : (l : Ledger) (p : Pid) (op : Op) → IsSound l → is_live (state_of l) p ≡ true → volume l.history + entry_volume (next_entry l p op) ≤ l.limit → IsSound (with_entry l (next_entry l p op))
unfolding state_of opened
sound_with l p op sound live fits =
    let v = volume_more l.history (next_entry l p op) in
    (legal_step (opened l) l.history p op sound.0 live, omega (arith, v, fits))

pub ran_sound : (l : Ledger) (asked : List (Pid × Op)) → IsSound l → AreAccepted l asked → IsSound (ran l asked)
ran_sound l [] sound accepted = sound
ran_sound l (a ∷ more) sound accepted = ran_sound (with_entry l (next_entry l a.0 a.1)) more (sound_with l a.0 a.1 sound accepted.0 accepted.1.0) accepted.1.1

beginning : (s : State) (es fs : List Entry) → IsLegal s (es ++ fs) → IsLegal s es
beginning s [] fs legal = tt
beginning s (e ∷ es) fs legal = (legal.0, beginning (after s e.pid e.op) es fs legal.1)

volume_of_both : (es fs : List Entry) → volume (es ++ fs) ≡ volume es + volume fs
volume_of_both [] fs = omega arith
volume_of_both (e ∷ es) fs = let h = volume_of_both es fs in omega arith

pub beginning_legal : (v : ℕ) (s : State) (es fs : List Entry) → IsLegalWithin v s (es ++ fs) → IsLegalWithin v s es
beginning_legal v s es fs within = (beginning s es fs within.0, let h = volume_of_both es fs in let w = within.1 in omega (arith, h, w))

-- WHO IS LIVE AFTER AN ENTRY

pub lives_with : (l m : Ledger) (p : Pid) (op : Op) → m ≡ with_entry l (next_entry l p op) → is_live (state_of l) p ≡ true → is_end op ≡ false → (q : Pid) → is_live (state_of m) q ≡ is_live (state_of l) q
lives_with l m p op e live stays q =
    ap (λ x. is_live (state_of x) q) e
    ∙ ap (λ s. is_live s q) (state_with l (next_entry l p op))
    ∙ stays_live (state_of l) p op live stays q.0

pub lives_after_end : (l m : Ledger) (p : Pid) → m ≡ with_entry l (end_entry p) → (q : Pid) → q.0 ≢ p.0 → is_live (state_of m) q ≡ is_live (state_of l) q
lives_after_end l m p e q ne =
    ap (λ x. is_live (state_of x) q) e
    ∙ ap (λ s. is_live s q) (state_with l (end_entry p))
    ∙ other_after (state_of l) p End q.0 ne

pub ended_with : (l m : Ledger) (p : Pid) → m ≡ with_entry l (end_entry p) → is_live (state_of m) p ≡ false
ended_with l m p e = ap (λ x. is_live (state_of x) p) e ∙ ap (λ s. is_live s p) (state_with l (end_entry p)) ∙ end_live (state_of l) p
