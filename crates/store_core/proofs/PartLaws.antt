-- What the entries of one process say of it.
use Rattle.std.proofs.Common.{◌≡◌, ◌≢◌, ◌≤◌, ℕ, ◌+◌, ◌==◌, Bool, true, false, cond, not, List, [], ◌∷◌, ◌++◌, refl, sym, ap, ◌∙◌, arith}
use Rattle.std.proofs.lemmas.Bool.Decides.{nat_tests}
use Rattle.std.proofs.lemmas.List.Elements.{filter-append}
use Rattle.std.specs.FinMap.{contains_key, from_entries}
use Rattle.obj_kinds.specs.declared.op.Pid.{Pid}
use Rattle.store_core.specs.declared.entry.Entry.{Entry}
use Rattle.store_core.specs.Machine.{State, after, is_live}
use Rattle.store_core.specs.History.{state_after, part_of}
use Rattle.store_core.specs.Ledger.{Ledger, opened, state_of}
use Rattle.store_core.specs.Live.{is_end, ends}
use Rattle.store_core.proofs.LiveLaws.{own_after, other_after, opening_live}

same_pid : (m n : ℕ) → m == n ≡ true → m ≡ n
same_pid m n e = grind (arith, nat_tests)

other_pid : (m n : ℕ) → m == n ≡ false → n ≢ m
other_pid m n e k = grind (arith, nat_tests)

end_none : (b : Bool) (n : ℕ) → cond b 1 0 + n ≡ 0 → (not b ≡ true) × (n ≡ 0)
end_none true n e = absurd (omega (arith, e))
end_none false n e = (refl, omega (arith, e))

-- a process is live until its own entries have an end
pub live_by_part : (s : State) (es : List Entry) (p : Pid) → is_live s p ≡ true → ends (part_of p.0 es) ≡ 0 → is_live (state_after s es) p ≡ true
live_by_part s [] p live none = live
live_by_part s (e ∷ es) p live none = by (e.pid.0 == p.0) refl none (live_by_part (after s e.pid e.op) es p)
  where
    by : (b : Bool) → e.pid.0 == p.0 ≡ b → ends (cond b (e ∷ part_of p.0 es) (part_of p.0 es)) ≡ 0
        → (is_live (after s e.pid e.op) p ≡ true → ends (part_of p.0 es) ≡ 0 → is_live (state_after (after s e.pid e.op) es) p ≡ true)
        → is_live (state_after (after s e.pid e.op) es) p ≡ true
    by true is h rest =
        let this = same_pid e.pid.0 p.0 is in
        let no_end = end_none (is_end e.op) (ends (part_of p.0 es)) h in
        let here : is_live (after s e.pid e.op) p ≡ true = ap (contains_key (after s e.pid e.op).levels) (sym this) ∙ own_after s e.pid e.op ∙ no_end.0 in
        rest here no_end.1
    by false is h rest = rest (other_after s e.pid e.op p.0 (other_pid e.pid.0 p.0 is) ∙ live) h

pub live_in_ledger : (l : Ledger) (p : Pid) → 1 ≤ p.0 → p.0 ≤ l.pids → ends (part_of p.0 l.history) ≡ 0 → is_live (state_of l) p ≡ true
unfolding state_of opened
live_in_ledger l p low high none = live_by_part (opened l) l.history p (opening_live l.pids (from_entries l.nodes) p low high) none

-- the entries of a process, with one entry more
pub part_more : (p : ℕ) (es : List Entry) (e : Entry) → part_of p (es ++ e ∷ []) ≡ part_of p es ++ cond (e.pid.0 == p) (e ∷ []) []
part_more p es e = filter-append (λ x. x.pid.0 == p) es (e ∷ [])
