-- What a seat knows, before and after a turn.
use Rattle.std.proofs.Common.{◌≡◌, ◌≢◌, ⊎_elim, ℕ, ◌<◌, ◌==◌, ◌&&◌, ◌||◌, Bool, true, false, List, [], ◌∷◌, ◌++◌, refl, sym, ap, ◌∙◌, subst, arith, All, Option}
use Rattle.std.proofs.lemmas.List.Elements.{All-head, All-tail}
use Rattle.crossbeam_queue.specs.declared.array_queue.Doing.{Doing}
use Rattle.crossbeam_queue.specs.declared.array_queue.Slotted.{Slotted}
use Rattle.crossbeam_queue.specs.Passes.{Pass, view, IsSamePass}
use Rattle.obj_kinds.specs.declared.op.Op.{Op}
use Rattle.obj_kinds.specs.declared.op.Pid.{Pid}
use Rattle.store_core.specs.declared.entry.Entry.{Entry}
use Rattle.store_core.specs.Machine.{is_live}
use Rattle.store_core.specs.History.{part_of}
use Rattle.store_core.specs.Live.{ends}
use Rattle.store_core.specs.Ledger.{Ledger, opened, state_of, with_entry, end_entry, next_entry, volume_with}
use Rattle.store_core.proofs.PartLaws.{live_in_ledger}
use Rattle.turn_queue.specs.declared.view.Part.{Part}
use Rattle.turn_queue.specs.declared.view.View.{View}
use Rattle.turn_queue.specs.Parts.{has, is_live_in, IsRefused, Fits, entered}
use Rattle.turn_queue.specs.Rule.{seat_view, with_store}
use Rattle.turn_queue.specs.Seated.{IsIdle}
use Rattle.turn_queue.proofs.Rules.{or_either, or_right, same_number}

and_both : (a b : Bool) → (a && b) ≡ true → (a ≡ true) × (b ≡ true)
and_both true b e = (refl, e)
and_both false b e = absurd cc

live_part : (l : Ledger) (p : Pid) (o : Part) → Fits l o → p.0 ≡ o.pid.0 → ends o.entries ≡ 0 → is_live (state_of l) p ≡ true
live_part l p o f same none =
    live_in_ledger l p (omega (arith, f.low, same)) (omega (arith, f.high, same))
    (ap (λ k. ends (part_of k l.history)) same ∙ ap ends (sym f.entries) ∙ none)

-- a process that is live by its own entries is live in the store
live_there : (l : Ledger) (p : Pid) (parts : List Part) → All (Fits l) parts → is_live_in p.0 parts ≡ true → is_live (state_of l) p ≡ true
live_there l p [] all h = absurd cc
live_there l p (o ∷ os) all h = ⊎_elim
    (λ (a : ((p.0 == o.pid.0) && (ends o.entries == 0)) ≡ true). let two = and_both (p.0 == o.pid.0) (ends o.entries == 0) a in
    live_part l p o (All-head (Fits l) o os all) (same_number p.0 o.pid.0 two.0) (same_number (ends o.entries) 0 two.1))
    (λ (b : is_live_in p.0 os ≡ true). live_there l p os (All-tail (Fits l) o os all) b)
    (or_either ((p.0 == o.pid.0) && (ends o.entries == 0)) (is_live_in p.0 os) h)

live_has : (p : ℕ) (parts : List Part) → is_live_in p parts ≡ true → has p parts ≡ true
live_has p [] h = absurd cc
live_has p (o ∷ os) h = ⊎_elim
    (λ (a : ((p == o.pid.0) && (ends o.entries == 0)) ≡ true). ap (λ b. b || has p os) (and_both (p == o.pid.0) (ends o.entries == 0) a).0)
    (λ (b : is_live_in p os ≡ true). or_right (p == o.pid.0) (has p os) (live_has p os b))
    (or_either ((p == o.pid.0) && (ends o.entries == 0)) (is_live_in p os) h)

pub live_at : (v : View) (l : Ledger) (p : Pid) (parts : List Part) → v.parts ≡ parts → All (Fits l) v.parts → is_live_in p.0 parts ≡ true → is_live (state_of l) p ≡ true
live_at v l p parts same fits h = live_there l p v.parts fits (ap (is_live_in p.0) same ∙ h)

pub has_at : (v w : View) (l : Ledger) (p : Pid) (parts : List Part) → v.parts ≡ parts → w ≡ with_store v l → is_live_in p.0 parts ≡ true → has p.0 w.parts ≡ true
has_at v w l p parts same is h = ap (λ (k : View). has p.0 k.parts) is ∙ live_has p.0 v.parts (ap (is_live_in p.0) same ∙ h)

entered_some : (e : Entry) (r : Option Op) (parts : List Part) → parts ≢ [] → entered e r parts ≢ []
entered_some e r [] some h = absurd (some refl)
entered_some e r (o ∷ os) some h = absurd cc

append_some : (xs ys : List Part) → xs ≢ [] → xs ++ ys ≢ []
append_some [] ys some h = absurd (some refl)
append_some (x ∷ xs) ys some h = absurd cc

pub refused_now : (t x : Ledger) (p : Pid) (op : Op) → x ≡ with_entry t (end_entry p) → t.limit < volume_with t (next_entry t p op) → IsRefused x p op
unfolding state_of opened
refused_now t x p op is full = subst (λ k. IsRefused k p op) (sym is) (record { before = t.history; later = []; history = refl; passes = full })

module _ {Q A : Type 0} where
  -- the pass after a turn, in two steps
  idle_again : (q : Slotted (Option Ledger) (Doing Ledger View) Q A) (p m n : Pass Ledger View) (o : Ledger) (parts : List Part) → IsIdle q p → IsSamePass p m → IsSamePass m n → view n ≡ seat_view o parts → parts ≢ [] → IsIdle q n
  idle_again q p m n o parts i one two is some = record {
    pass = (two.0 ∙ one.0 ∙ i.pass.0, two.2 ∙ one.2 ∙ i.pass.1);
    one = i.one;
    idle = ap (λ (v : View). v.taken) is;
    some = λ none. some (ap (λ (v : View). v.parts) (sym is) ∙ none);
  }

  pub idle_entered : (q : Slotted (Option Ledger) (Doing Ledger View) Q A) (p m n : Pass Ledger View) (l : Ledger) (e : Entry) (r : Option Op) → IsIdle q p → IsSamePass p m → view m ≡ with_store (view p) l → IsSamePass m n
      → view n ≡ seat_view (view m).opened (entered e r (view m).parts) → IsIdle q n
  idle_entered q p m n l e r i one took two is = idle_again q p m n (view m).opened (entered e r (view m).parts) i one two is
      (entered_some e r (view m).parts (λ none. i.some (ap (λ (v : View). v.parts) (sym took) ∙ none)))

  pub idle_joined : (q : Slotted (Option Ledger) (Doing Ledger View) Q A) (p n : Pass Ledger View) (o : Ledger) (more : List Part) → IsIdle q p → IsSamePass p n → view n ≡ seat_view o ((view p).parts ++ more) → IsIdle q n
  idle_joined q p n o more i one is = idle_again q p p n o ((view p).parts ++ more) i (refl, refl, refl) one is (append_some (view p).parts more i.some)
