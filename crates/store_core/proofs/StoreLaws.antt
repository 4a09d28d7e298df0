-- How each call keeps what the parts of a store stand for.
use Rattle.std.proofs.Common.{◌≡◌, ◌≢◌, ◌≤◌, ◌<◌, ◌^◌, ℕ, ◌+◌, ◌-◌, Bool, true, false, cond, List, [], ◌∷◌, ◌++◌, length, get_or, is_some, Option, Some, None, refl, sym, ap, ◌∙◌, subst, arith, length-append}
use Rattle.std.specs.FinMap.{get, from_entries}
use Rattle.obj_kinds.specs.declared.op.Pid.{Pid}
use Rattle.obj_kinds.specs.declared.op.Op.{Op}
use Rattle.obj_kinds.specs.declared.op.Op.TheVariants.{End}
use Rattle.obj_kinds.specs.declared.op.Reply.{Reply}
use Rattle.obj_kinds.specs.declared.op.Reply.TheVariants.{Done}
use Rattle.global_tree.specs.Contents.{Contents, Globals}
use Rattle.lock_table.specs.declared.hold.Hold.{Hold}
use Rattle.lock_table.specs.Holds.{Holds, kept}
use Rattle.tran_log.specs.Levels.{Levels}
use Rattle.store_core.specs.declared.entry.Entry.{Entry}
use Rattle.store_core.specs.Machine.{State, is_live, after, reply, opening}
use Rattle.store_core.specs.History.{IsLegal, IsStep, state_after, entry_of}
use Rattle.store_core.specs.Volume.{volume, entry_volume, op_volume, reply_volume, op_room}
use Rattle.store_core.specs.Live.{is_end, ends}
use Rattle.store_core.specs.Ledger.{Pairs, Ledger, opened, state_of, next_entry, end_entry, with_entry, volume_with, IsSound}
use Rattle.store_core.specs.Tied.{Logs, IsOwed, IsTied}
use Rattle.obj_kinds.specs.Limits.{is_legal_op, is_legal_reply}
use Rattle.store_core.specs.Within.{IsWithinLimits, AreLegalOps, AreLegalReplies}
use Rattle.store_core.proofs.WithinLaws.{nodes_legal, opening_within, states_within, replies_within, reply_within}
use Rattle.store_core.specs.Stands.{IsStore}
use Rattle.store_core.proofs.HistoryLaws.{legal_more, state_more, volume_more}
use Rattle.store_core.proofs.LiveLaws.{live_has_place, ends_few}
use Rattle.store_core.proofs.CountLaws.{counts_few, length_few}

-- the state that the parts stand for
abbrev pub stands : Pairs → Logs → List Entry → State
stands nodes logs es = state_after (opening (length logs) (from_entries nodes)) es

-- ENDS

pub reply_end : (s : State) (p : Pid) → reply s p End ≡ Done
unfolding reply Rattle.store_core.specs.Machine.answer
reply_end s p = refl

pub ends_more : (es : List Entry) (e : Entry) → ends (es ++ e ∷ []) ≡ ends es + cond (is_end e.op) 1 0
ends_more [] e = omega arith
ends_more (x ∷ xs) e = let h = ends_more xs e in omega arith

pub not_end : (op : Op) → op ≢ End → is_end op ≡ false
not_end End ne = absurd (ne refl)
not_end _ ne = refl

room_not_end : (op : Op) (rest : ℕ) → op ≢ End → op_room op rest ≡ 64 + (op_volume op + rest)
room_not_end End rest ne = absurd (ne refl)
room_not_end _ rest ne = refl

-- what an operation takes
pub volume_of : (s : State) (p : Pid) (op : Op) → op ≢ End → entry_volume (entry_of s p op) ≡ 64 + (op_volume op + reply_volume (reply s p op))
unfolding entry_volume
volume_of s p op ne = room_not_end op (reply_volume (reply s p op)) ne

pub volume_end : (p : Pid) → entry_volume (end_entry p) ≡ 0
unfolding entry_volume
volume_end p = refl

-- WHAT THE CALLS NEED

-- the log of a live process is there
pub live_log : {nodes : Pairs} {tree : Contents} {hs : Holds} {logs : Logs} {es : List Entry} {places room : ℕ} → IsStore nodes tree hs logs es places room
    → (p : Pid) → is_live (stands nodes logs es) p ≡ true → get_or logs (p.0 - 1) None ≢ None
live_log {nodes} {tree} {hs} {logs} {es} is p live =
    let here = live_has_place (length logs) (from_entries nodes) es p is.legal live in
    let e : p.0 - 1 + 1 ≡ p.0 = omega (arith, here.0) in
    let got : get (stands nodes logs es).levels p.0 ≡ get_or logs (p.0 - 1) None = sym (ap (get (stands nodes logs es).levels) e) ∙ is.tied.same_levels (p.0 - 1) in
    λ none. let k = ap is_some (got ∙ none) in absurd cc

pub live_within : {nodes : Pairs} {tree : Contents} {hs : Holds} {logs : Logs} {es : List Entry} {places room : ℕ} → IsStore nodes tree hs logs es places room
    → (p : Pid) → is_live (stands nodes logs es) p ≡ true → (1 ≤ p.0) × (p.0 ≤ length logs)
live_within {nodes} {tree} {hs} {logs} {es} is p live = let here = live_has_place (length logs) (from_entries nodes) es p is.legal live in (here.0, here.1.0)

pub live_end : {nodes : Pairs} {tree : Contents} {hs : Holds} {logs : Logs} {es : List Entry} {places room : ℕ} → IsStore nodes tree hs logs es places room
    → (p : Pid) → is_live (stands nodes logs es) p ≡ true → length es < places
live_end {nodes} {tree} {hs} {logs} {es} is p live = let here = live_has_place (length logs) (from_entries nodes) es p is.legal live in omega (arith, here.1.1, is.placed)

pub live_is_log : {nodes : Pairs} {tree : Contents} {hs : Holds} {logs : Logs} {es : List Entry} {places room : ℕ} → IsStore nodes tree hs logs es places room
    → (p : Pid) (i : ℕ) → p.0 ≡ i + 1 → is_some (get_or logs i None) ≡ is_live (stands nodes logs es) p
live_is_log {nodes} {tree} {hs} {logs} {es} is p i e = ap is_some (sym (is.tied.same_levels i) ∙ ap (get (stands nodes logs es).levels) (sym e))

pub counts_low : {nodes : Pairs} {tree : Contents} {hs : Holds} {logs : Logs} {es : List Entry} {places room : ℕ} → IsStore nodes tree hs logs es places room → (h : Hold) → (kept hs h).counted < 2 ^ 64 - 1
counts_low {nodes} {tree} {hs} {logs} {es} is h =
    let few = ends_few (length logs) (from_entries nodes) es is.legal in
    let most = is.owed.few in
    let count = counts_few (length logs) (from_entries nodes) es h in
    let same : (kept (stands nodes logs es).holds h).counted ≡ (kept hs h).counted = ap (λ x. (kept x h).counted) is.tied.same_holds in
    let long = length_few es in
    let low = is.low in
    omega (arith, few, most, count, same, long, low)

-- WHAT THE CALLS LEAVE

ops_more : (es : List Entry) (e : Entry) → AreLegalOps es → is_legal_op e.op ≡ true → AreLegalOps (es ++ e ∷ [])
ops_more [] e ops legal = (legal, tt)
ops_more (x ∷ xs) e ops legal = (ops.0, ops_more xs e ops.1 legal)

end_legal : is_legal_op End ≡ true
unfolding is_legal_op
end_legal = refl

pub stepped : {nodes : Pairs} {tree : Contents} {hs : Holds} {logs : Logs} {es : List Entry} {places room : ℕ} → IsStore nodes tree hs logs es places room
    → (e : Entry) (tree' : Contents) (hs' : Holds) (logs' : Logs) (places' room' : ℕ) → length logs' ≡ length logs
    → IsStep (stands nodes logs es) e → is_legal_op e.op ≡ true → IsTied (after (stands nodes logs es) e.pid e.op) tree'.globals hs' logs' → IsOwed tree'.pins logs'
    → length es + 1 + (length logs - (ends es + cond (is_end e.op) 1 0)) ≤ places' → room' + entry_volume e ≡ room
    → IsStore nodes tree' hs' logs' (es ++ e ∷ []) places' room'
stepped {nodes} {tree} {hs} {logs} {es} is e tree' hs' logs' places' room' len step limits tied owed enough pays = record {
  some = let s = is.some in omega (arith, len, s);
  rising = is.rising;
  within = is.within;
  legal_ops = ops_more es e is.legal_ops limits;
  legal = subst (λ k. IsLegal (opening k (from_entries nodes)) (es ++ e ∷ [])) (sym len) (legal_more (opening (length logs) (from_entries nodes)) es e is.legal step);
  tied =
      subst (λ k. IsTied (state_after (opening k (from_entries nodes)) (es ++ e ∷ [])) tree'.globals hs' logs') (sym len)
      (subst (λ x. IsTied x tree'.globals hs' logs') (sym (state_more (opening (length logs) (from_entries nodes)) es e)) tied);
  owed = owed;
  placed = let a = length-append es (e ∷ []) in let b = ends_more es e in omega (arith, a, b, len, enough);
  low = let v = volume_more es e in let l = is.low in omega (arith, v, l, pays);
}

pub refused : {nodes : Pairs} {tree : Contents} {hs : Holds} {logs : Logs} {es : List Entry} {places room : ℕ} → IsStore nodes tree hs logs es places room
    → (tree' : Contents) (hs' : Holds) (logs' : Logs) (places' : ℕ) → length logs' ≡ length logs
    → IsTied (stands nodes logs es) tree'.globals hs' logs' → IsOwed tree'.pins logs' → places ≤ places' → IsStore nodes tree' hs' logs' es places' room
refused {nodes} {tree} {hs} {logs} {es} is tree' hs' logs' places' len tied owed more = record {
  some = let s = is.some in omega (arith, len, s);
  rising = is.rising;
  within = is.within;
  legal_ops = is.legal_ops;
  legal = subst (λ k. IsLegal (opening k (from_entries nodes)) es) (sym len) is.legal;
  tied = subst (λ k. IsTied (state_after (opening k (from_entries nodes)) es) tree'.globals hs' logs') (sym len) tied;
  owed = owed;
  placed = let p = is.placed in omega (arith, len, p, more);
  low = is.low;
}

-- AS THE LEDGER

-- the ledger that the parts make
abbrev pub ledger : Pairs → Logs → List Entry → ℕ → Ledger
ledger nodes logs es room = record { nodes = nodes; pids = length logs; limit = room + volume es; history = es }

pub state_is : (nodes : Pairs) (logs : Logs) (es : List Entry) (room : ℕ) (l : Ledger) → ledger nodes logs es room ≡ l → state_of l ≡ stands nodes logs es
unfolding state_of opened
state_is nodes logs es room l e = subst (λ x. state_of x ≡ stands nodes logs es) e refl

pub sound_is : {nodes : Pairs} {tree : Contents} {hs : Holds} {logs : Logs} {es : List Entry} {places room : ℕ} → IsStore nodes tree hs logs es places room
    → (l : Ledger) → ledger nodes logs es room ≡ l → IsSound l
unfolding opened
sound_is {nodes} {tree} {hs} {logs} {es} {places} {room} is l e = subst (λ x. IsSound x) e (is.legal, omega arith)

pub live_is : {nodes : Pairs} {tree : Contents} {hs : Holds} {logs : Logs} {es : List Entry} {places room : ℕ} → IsStore nodes tree hs logs es places room
    → (l : Ledger) → ledger nodes logs es room ≡ l → (p : Pid) (i : ℕ) → p.0 ≡ i + 1 → is_some (get_or logs i None) ≡ is_live (state_of l) p
live_is {nodes} {tree} {hs} {logs} {es} {places} {room} is l e p i k = live_is_log is p i k ∙ ap (λ s. is_live s p) (sym (state_is nodes logs es room l e))

pub none_is_live : {nodes : Pairs} {tree : Contents} {hs : Holds} {logs : Logs} {es : List Entry} {places room : ℕ} → IsStore nodes tree hs logs es places room
    → (l : Ledger) → ledger nodes logs es room ≡ l → (p : Pid) → p.0 ≡ 0 → false ≡ is_live (state_of l) p
none_is_live {nodes} {tree} {hs} {logs} {es} {places} {room} is l e p zeroth = by (is_live (stands nodes logs es) p) refl ∙ ap (λ s. is_live s p) (sym (state_is nodes logs es room l e))
  where
    by : (b : Bool) → is_live (stands nodes logs es) p ≡ b → false ≡ b
    by true live = let h = live_within is p live in absurd (omega (arith, h.0, zeroth))
    by false dead = refl

pub was_live : (nodes : Pairs) (logs : Logs) (es : List Entry) (room : ℕ) (l : Ledger) → ledger nodes logs es room ≡ l → (p : Pid) → is_live (state_of l) p ≡ true → is_live (stands nodes logs es) p ≡ true
was_live nodes logs es room l e p live = ap (λ s. is_live s p) (sym (state_is nodes logs es room l e)) ∙ live

pub with_is : (nodes : Pairs) (logs logs' : Logs) (es : List Entry) (room room' : ℕ) (l : Ledger) → ledger nodes logs es room ≡ l
    → (e : Entry) → length logs' ≡ length logs → room' + entry_volume e ≡ room → ledger nodes logs' (es ++ e ∷ []) room' ≡ with_entry l e
with_is nodes logs logs' es room room' l is e len pays = subst (λ x. ledger nodes logs' (es ++ e ∷ []) room' ≡ with_entry x e) is (λ i. record {
  nodes = nodes;
  pids = len i;
  limit = spent i;
  history = es ++ e ∷ [];
})
  where
    spent : room' + volume (es ++ e ∷ []) ≡ room + volume es
    spent = let v = volume_more es e in omega (arith, v, pays)

-- THE CALLS

pub ended_step : {nodes : Pairs} {tree : Contents} {hs : Holds} {logs : Logs} {es : List Entry} {places room : ℕ} → IsStore nodes tree hs logs es places room
    → (p : Pid) (tree' : Contents) (hs' : Holds) (logs' : Logs) → is_live (stands nodes logs es) p ≡ true → length logs' ≡ length logs
    → IsTied (after (stands nodes logs es) p End) tree'.globals hs' logs' → IsOwed tree'.pins logs'
    → IsStore nodes tree' hs' logs' (es ++ end_entry p ∷ []) places room
ended_step {nodes} {tree} {hs} {logs} {es} {places} {room} is p tree' hs' logs' live len tied owed =
    let here = live_has_place (length logs) (from_entries nodes) es p is.legal live in
    let v = volume_end p in
    stepped is (end_entry p) tree' hs' logs' places room len (live, sym (reply_end (stands nodes logs es) p)) end_legal tied owed
    (let enough = is.placed in omega (arith, enough, here.1.1)) (omega (arith, v))

-- the reply of an entry is the machine's, and the room pays for the entry
pub record Paid (s : State) (p : Pid) (op : Op) (r : Reply) (room left : ℕ) : Type 0 where
  pub no_end : op ≢ End
  pub reply_is : r ≡ reply s p op
  pub pays : left + (64 + (op_volume op + reply_volume (reply s p op))) ≡ room

abbrev pub told_entry : Pid → Op → Reply → Entry
told_entry p op r = record { pid = p; op = op; reply = r }

pub entry_is : {s : State} {p : Pid} {op : Op} {r : Reply} {room left : ℕ} → Paid s p op r room left → told_entry p op r ≡ entry_of s p op
entry_is {s} {p} {op} is = ap (told_entry p op) is.reply_is

pub entry_pays : {s : State} {p : Pid} {op : Op} {r : Reply} {room left : ℕ} → Paid s p op r room left → left + entry_volume (told_entry p op r) ≡ room
entry_pays {s} {p} {op} {r} {room} {left} is =
    let v : entry_volume (told_entry p op r) ≡ 64 + (op_volume op + reply_volume (reply s p op)) = ap entry_volume (entry_is is) ∙ volume_of s p op is.no_end in
    let a = is.pays in
    omega (arith, v, a)

pub told_step : {nodes : Pairs} {tree : Contents} {hs : Holds} {logs : Logs} {es : List Entry} {places room : ℕ} → IsStore nodes tree hs logs es places room
    → {p : Pid} {op : Op} {r : Reply} {left : ℕ} → Paid (stands nodes logs es) p op r room left
    → (tree' : Contents) (hs' : Holds) (logs' : Logs) (places' : ℕ) → is_live (stands nodes logs es) p ≡ true → is_legal_op op ≡ true → length logs' ≡ length logs
    → IsTied (after (stands nodes logs es) p op) tree'.globals hs' logs' → IsOwed tree'.pins logs' → length es + (length logs + 1) ≤ places'
    → IsStore nodes tree' hs' logs' (es ++ told_entry p op r ∷ []) places' left
told_step {nodes} {tree} {hs} {logs} {es} {places} {room} is {p} {op} {r} {left} paid tree' hs' logs' places' live limits len tied owed enough =
    stepped is (told_entry p op r) tree' hs' logs' places' left len (live, paid.reply_is) limits tied owed (omega (arith, enough)) (entry_pays paid)

-- what the ledger is then
pub told_is : (nodes : Pairs) (logs : Logs) (es : List Entry) {p : Pid} {op : Op} {r : Reply} {room left : ℕ} → Paid (stands nodes logs es) p op r room left
    → (logs' : Logs) (l : Ledger) → ledger nodes logs es room ≡ l → length logs' ≡ length logs
    → ledger nodes logs' (es ++ told_entry p op r ∷ []) left ≡ with_entry l (next_entry l p op)
told_is nodes logs es {p} {op} {r} {room} {left} paid logs' l e len =
    with_is nodes logs logs' es room left l e (told_entry p op r) len (entry_pays paid)
    ∙ ap (with_entry l) (entry_is paid ∙ ap (λ s. entry_of s p op) (sym (state_is nodes logs es room l e)))

pub told_fits : (nodes : Pairs) (logs : Logs) (es : List Entry) {p : Pid} {op : Op} {r : Reply} {room left : ℕ} → Paid (stands nodes logs es) p op r room left
    → (l : Ledger) → ledger nodes logs es room ≡ l → volume_with l (next_entry l p op) ≤ l.limit
told_fits nodes logs es {p} {op} {r} {room} {left} paid l e = subst (λ x. volume_with x (next_entry x p op) ≤ x.limit) e fits
  where
    fits : volume es + entry_volume (entry_of (state_of (ledger nodes logs es room)) p op) ≤ room + volume es
    fits =
        let v : entry_volume (entry_of (state_of (ledger nodes logs es room)) p op) ≡ entry_volume (told_entry p op r) = ap (λ s. entry_volume (entry_of s p op)) (state_is nodes logs es room (ledger nodes logs es room) refl) ∙ sym (ap entry_volume (entry_is paid)) in
        let a = entry_pays paid in
        omega (arith, v, a)

-- where an entry is refused for its volume, it would pass the limit
pub refused_passes : (nodes : Pairs) (logs : Logs) (es : List Entry) (p : Pid) (op : Op) (room : ℕ) (l : Ledger) → ledger nodes logs es room ≡ l → op ≢ End
    → room < 64 + (op_volume op + reply_volume (reply (stands nodes logs es) p op)) → l.limit < volume_with l (next_entry l p op)
refused_passes nodes logs es p op room l e no_end small = subst (λ x. x.limit < volume_with x (next_entry x p op)) e passes
  where
    passes : room + volume es < volume es + entry_volume (entry_of (state_of (ledger nodes logs es room)) p op)
    passes =
        let v : entry_volume (entry_of (state_of (ledger nodes logs es room)) p op) ≡ 64 + (op_volume op + reply_volume (reply (stands nodes logs es) p op)) = ap (λ s. entry_volume (entry_of s p op)) (state_is nodes logs es room (ledger nodes logs es room) refl) ∙ volume_of (stands nodes logs es) p op no_end in
        omega (arith, v, small)

-- a process whose log is there is live
pub tied_live : (s : State) (g : Globals) (hs : Holds) (logs : Logs) (p : Pid) → IsTied s g hs logs → 1 ≤ p.0 → get_or logs (p.0 - 1) None ≢ None → is_live s p ≡ true
tied_live s g hs logs p is low there =
    let e : p.0 - 1 + 1 ≡ p.0 = omega (arith, low) in
    ap is_some (sym (ap (get s.levels) e) ∙ is.same_levels (p.0 - 1)) ∙ by (get_or logs (p.0 - 1) None) there
  where
    by : (o : Option Levels) → o ≢ None → is_some o ≡ true
    by None ne = absurd (ne refl)
    by (Some ls) ne = refl

-- the ledger after the end of a process
pub ended_is : (nodes : Pairs) (logs logs' : Logs) (es es' : List Entry) (room : ℕ) (l : Ledger) → ledger nodes logs es room ≡ l → (p : Pid) → length logs' ≡ length logs → es' ≡ es ++ end_entry p ∷ []
    → ledger nodes logs' es' room ≡ with_entry l (end_entry p)
ended_is nodes logs logs' es es' room l e p len more =
    ap (λ x. ledger nodes logs' x room) more
    ∙ with_is nodes logs logs' es room room l e (end_entry p) len (let v = volume_end p in omega (arith, v))

-- ---- within the limits
pub stands_within : {nodes : Pairs} {tree : Contents} {hs : Holds} {logs : Logs} {es : List Entry} {places room : ℕ} → IsStore nodes tree hs logs es places room → IsWithinLimits (stands nodes logs es)
stands_within {nodes} {tree} {hs} {logs} {es} is = states_within _ es (opening_within (length logs) (from_entries nodes) (nodes_legal nodes is.within)) is.legal_ops

pub answers_within : {nodes : Pairs} {tree : Contents} {hs : Holds} {logs : Logs} {es : List Entry} {places room : ℕ} → IsStore nodes tree hs logs es places room
    → (p : Pid) (op : Op) → is_legal_reply (reply (stands nodes logs es) p op) ≡ true
answers_within is p op = reply_within _ p op (stands_within is)

pub history_within : {nodes : Pairs} {tree : Contents} {hs : Holds} {logs : Logs} {es : List Entry} {places room : ℕ} → IsStore nodes tree hs logs es places room
    → (l : Ledger) → ledger nodes logs es room ≡ l → AreLegalOps l.history × AreLegalReplies l.history
history_within {nodes} {tree} {hs} {logs} {es} {places} {room} is l e =
    subst (λ (x : Ledger). AreLegalOps x.history × AreLegalReplies x.history) e
    (is.legal_ops, replies_within _ es (opening_within (length logs) (from_entries nodes) (nodes_legal nodes is.within)) is.legal is.legal_ops)
