-- Each entry of a legal history is of one of the store's processes.
use Rattle.std.proofs.Common.{◌≡◌, ◌≤◌, ℕ, true, List, [], ◌∷◌, ◌∙◌, arith, All}
use Rattle.std.proofs.lemmas.List.Elements.{All-nil, All-cons}
use Rattle.std.specs.FinMap.{from_entries}
use Rattle.store_core.specs.declared.entry.Entry.{Entry}
use Rattle.store_core.specs.Machine.{State, after}
use Rattle.store_core.specs.History.{IsLegal}
use Rattle.store_core.specs.Live.{AreLiveWithin}
use Rattle.store_core.specs.Ledger.{Ledger, IsSound, opened}
use Rattle.store_core.proofs.LiveLaws.{within_legal, pids_legal, opening_within}
use Rattle.turn_queue.specs.declared.view.Part.{Part}
use Rattle.turn_queue.specs.Parts.{has}

numbered : (F : Entry → Type 0) (n : ℕ) → ((e : Entry) → 1 ≤ e.pid.0 → e.pid.0 ≤ n → F e) → (s : State) (es : List Entry) → s.pids ≡ n → AreLiveWithin s → IsLegal s es → All F es
unfolding AreLiveWithin
numbered F n of s [] same within legal = All-nil F
numbered F n of s (e ∷ es) same within legal =
    let h = within e.pid.0 legal.0.0 in
    All-cons F e es (of e h.0 (omega (arith, h.1, same)))
    (numbered F n of (after s e.pid e.op) es (pids_legal s (e ∷ []) ∙ same) (within_legal s (e ∷ []) within (legal.0, tt)) legal.1)

-- a seat that speaks for all processes of a store has the process of each entry
pub all_have : (l : Ledger) (n : ℕ) (parts : List Part) → l.pids ≡ n → IsSound l → ((p : ℕ) → 1 ≤ p → p ≤ n → has p parts ≡ true) → All (λ e. has e.pid.0 parts ≡ true) l.history
unfolding opened
all_have l n parts same sound all =
    numbered (λ e. has e.pid.0 parts ≡ true) n (λ e low high. all e.pid.0 low high) (opened l) l.history same (opening_within l.pids (from_entries l.nodes)) sound.0
