-- One process at its plan.
use Rattle.std.proofs.Common.{◌≡◌, ◌≢◌, ℕ, ◌+◌, ◌==◌, ◌&&◌, ◌||◌, Bool, true, false, cond, List, [], ◌∷◌, ◌++◌, map, refl, sym, ap, ◌∙◌, subst, arith, append_assoc, All, Option, None}
use Rattle.std.proofs.lemmas.Bool.Decides.{nat_tests}
use Rattle.std.proofs.lemmas.List.{map-append}
use Rattle.std.proofs.lemmas.List.Elements.{All-head, All-tail}
use Rattle.obj_kinds.specs.declared.op.Op.{Op}
use Rattle.obj_kinds.specs.declared.op.Op.TheVariants.{End}
use Rattle.obj_kinds.specs.declared.op.Pid.{Pid}
use Rattle.store_core.specs.declared.entry.Entry.{Entry}
use Rattle.store_core.specs.Live.{is_end, ends}
use Rattle.store_core.specs.Ledger.{end_entry}
use Rattle.turn_queue.specs.declared.view.Part.{Part}
use Rattle.turn_queue.specs.Parts.{is_live_in, fresh}
use Rattle.turn_queue.specs.Seated.{Seated, seat_entered, seat_with}
use Rattle.turn_trials.specs.Runs.{asked, IsAskable, AreAskable, HasRun}

-- what a seat of one process knows of it
abbrev pub own : Pid → List Entry → Option Op → Part
own p es r = record { pid = p; entries = es; refused = r }

-- a process that has asked the first of its operations, and has these before it
pub record IsWorking (first now : Seated) (p : Pid) (all ops : List Op) : Type 0 where
  pub entries : List Entry
  pub seat : now ≡ seat_with first (own p entries None ∷ [])
  pub live : ends entries ≡ 0
  pub done : asked entries ++ ops ≡ all
  pub askable : AreAskable ops

same_itself : (n : ℕ) → n == n ≡ true
same_itself n = grind (arith, nat_tests)

same_equal : (m n : ℕ) → m ≡ n → m == n ≡ true
same_equal m n e = grind (arith, nat_tests)

not_end : (op : Op) → op ≢ End → is_end op ≡ false
not_end End ne = absurd (ne refl)
not_end _ ne = refl

ends_more : (es : List Entry) (e : Entry) → ends (es ++ e ∷ []) ≡ ends es + cond (is_end e.op) 1 0
ends_more [] e = omega arith
ends_more (x ∷ xs) e = let h = ends_more xs e in omega arith

pub begins : (s : Seated) (p : Pid) (ops : List Op) → s.parts ≡ fresh p.0 ∷ [] → AreAskable ops → IsWorking s s p ops ops
begins s p ops fresh' none = record { entries = []; seat = ap (λ ps. seat_with s ps) fresh'; live = refl; done = refl; askable = none }

pub goes_on : (first now : Seated) (p : Pid) (all ops : List Op) → IsWorking first now p all ops → is_live_in p.0 now.parts ≡ true
goes_on first now p all ops w =
    ap (λ (s : Seated). is_live_in p.0 s.parts) w.seat ∙ ap (λ b. (b && (ends w.entries == 0)) || false) (same_itself p.0) ∙ ap (λ b. b || false) (same_equal (ends w.entries) 0 w.live)

pub askable_next : (first now : Seated) (p : Pid) (all ops rest : List Op) (op : Op) → IsWorking first now p all ops → ops ≡ op ∷ rest → IsAskable op
askable_next first now p all ops rest op w is = All-head IsAskable op rest (subst AreAskable is w.askable)

own_entered : (p : Pid) (es : List Entry) (e : Entry) (r : Option Op) (b : Bool) → b ≡ true → cond b (own p (es ++ e ∷ []) r) (own p es None) ≡ own p (es ++ e ∷ []) r
own_entered p es e r b is = ap (λ c. cond c (own p (es ++ e ∷ []) r) (own p es None)) is

seat_after : (first now new : Seated) (p : Pid) (e : Entry) (r : Option Op) (es : List Entry) → now ≡ seat_with first (own p es None ∷ []) → e.pid ≡ p → new ≡ seat_entered now e r → new ≡ seat_with first (own p (es ++ e ∷ []) r ∷ [])
seat_after first now new p e r es is by to =
    to ∙ ap (λ s. seat_entered s e r) is
    ∙ ap (λ o. seat_with first (o ∷ [])) (own_entered p es e r (e.pid.0 == p.0) (same_equal e.pid.0 p.0 (ap (λ (q : Pid). q.0) by)))

pub steps : (first now new : Seated) (p : Pid) (all ops rest : List Op) (op : Op) (e : Entry) → IsWorking first now p all ops → ops ≡ op ∷ rest → e.pid ≡ p → e.op ≡ op → new ≡ seat_entered now e None → IsWorking first new p all rest
steps first now new p all ops rest op e w is by what to =
    let none : op ≢ End = (askable_next first now p all ops rest op w is).0 in
    let not' : is_end e.op ≡ false = ap is_end what ∙ not_end op none in
    let more = ends_more w.entries e in
    let zero' = ap (λ b. cond {A = ℕ} b 1 0) not' in
    record {
      entries = w.entries ++ e ∷ [];
      seat = seat_after first now new p e None w.entries w.seat by to;
      live = omega (arith, more, zero', w.live);
      done = ap (λ k. k ++ rest) (map-append (λ (e : Entry). e.op) w.entries (e ∷ [])) ∙ append_assoc (asked w.entries) (e.op ∷ []) rest ∙ ap (λ o. asked w.entries ++ o ∷ rest) what ∙ ap (λ k. asked w.entries ++ k) (sym is) ∙ w.done;
      askable = All-tail IsAskable op rest (subst AreAskable is w.askable);
    }

pub finishes : (first now new : Seated) (p : Pid) (all ops : List Op) (r : Option Op) → IsWorking first now p all ops → new ≡ seat_entered now (end_entry p) r → (o : Part) × (new ≡ seat_with first (o ∷ [])) × (o.pid ≡ p) × HasRun all o.entries
finishes first now new p all ops r w to = (
  own p (w.entries ++ end_entry p ∷ []) r,
  seat_after first now new p (end_entry p) r w.entries w.seat refl to,
  refl,
  (asked w.entries, ops, sym w.done, map-append (λ (e : Entry). e.op) w.entries (end_entry p ∷ [])),
)
