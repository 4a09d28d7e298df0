-- Where the records of worlds come from: each has a forebear of its class, or its key was drawn.
use Rattle.std.proofs.Common.{◌≡◌, ◌≢◌, ◌⊎◌, inl, inr, ℕ, pos, Bool, true, false, List, [], ◌∷◌, take, length, Option, Some, None, refl, sym, ap, ◌∙◌, subst}
use Rattle.std.specs.FinMap.{get}
use Rattle.obj_kinds.specs.declared.op.Pid.{Pid}
use Rattle.obj_kinds.specs.declared.op.Op.{Op}
use Rattle.obj_kinds.specs.declared.op.Op.TheVariants.{Incr, Commit, End}
use Rattle.obj_kinds.specs.declared.op.Reply.{Reply}
use Rattle.obj_kinds.specs.declared.op.Reply.TheVariants.{Number}
use Rattle.schema_kinds.specs.declared.class.Class.{Class}
use Rattle.schema_kinds.specs.declared.key.Key.{Key}
use Rattle.schema_kinds.specs.declared.record.Record.{Record}
use Rattle.schema_kinds.specs.declared.record.Part.TheVariants.{Put, Del}
use Rattle.schema_kinds.specs.Worlds.{World, Change, apply}
use Rattle.store_core.specs.Machine.{State, reply}
use Rattle.store_calls.specs.Calls.{Tag, Plain, Opens, Inside, Closes, Fails}
use Rattle.object_calls.specs.Extents.{counter_node}
use Rattle.object_runs.specs.ObjectMachine.{Own, Within, Desks, desk_at, view, apply_all, with_change, within_after, one_more, opened, desks_after}
use Rattle.object_runs.specs.Causes.{Has}
use Rattle.object_runs.specs.Invariant.{changes, some_changes, IsPossible, Pending, IsInvariant}
use Rattle.sound_runs.specs.Closing.{AreDistinct, entries_within, Draws, IsDrawn, IsKnownOrDrawn, IsSafeChange, Saves, Deletes}
use Rattle.sound_runs.specs.Backed.{IsBacked, IsOrderly}
use Rattle.sound_runs.proofs.Changes.{unchanged, was_put, all_unchanged, all_alike}
use Rattle.sound_runs.proofs.Saved.{put_safe}
use Rattle.sound_runs.proofs.Next.{Next, Old, Closed, Crossed, next_possible}
use Rattle.sound_runs.proofs.Sound.{view_possible, change_view, plain_view, keys_apart}

module _ (classes : List Class) (s : State) (o : Desks) (p : Pid) (inv : IsInvariant classes s o) (backed : IsBacked classes s o) (op : Op) (tag : Tag) (orderly : IsOrderly classes s o p op tag) where
  -- a record of the key was possible, with this class, or this commit puts it under a key that it drew
  pub data Kin (k : Key) (r : Record) : Type 0 where
    Seen : (v : World) (q : Record) → IsPossible o v → get v k ≡ Some q → q.class ≡ r.class → Kin k r
    Drawn : (change : Change) → IsDrawn o p.0 k → tag ≡ Closes change → op ≡ Commit → Has (Put k r) change → AreDistinct change → Kin k r

  kin_known : (change : Change) (k : Key) (r : Record) → tag ≡ Closes change → op ≡ Commit → Has (Put k r) change → AreDistinct change → IsKnownOrDrawn classes s o p k r → Kin k r
  kin_known change k r is c has d (inl h) = Seen (view o p.0) h.0 (view_possible classes s o p inv backed op tag orderly) h.1 h.2
  kin_known change k r is c has d (inr h) = Drawn change h is c has d

  kin_put : (change : Change) (k : Key) (r : Record) → tag ≡ Closes change → op ≡ Commit → Has (Put k r) change → Kin k r
  kin_put change k r is c has = by (orderly.safe change is c)
    where
      none : (key : Key) → Has (Put k r) (Del key ∷ []) → ⊥
      none key (inl e) = cc e
      none key (inr e) = e

      by : IsSafeChange classes s o p change → Kin k r
      by (Saves distinct safe) = kin_known change k r is c has distinct (put_safe classes s o p change distinct safe k r has).2.known
      by (Deletes key e safe) = absurd (none key (subst (Has (Put k r)) e has))

  kin_marked : op ≡ Commit → (k : Key) (r : Record) → get (apply_all (with_change tag (desk_at o p.0).lists) o.world) k ≡ Some r → Kin k r
  kin_marked c k r e = by tag refl
    where
      possible : IsPossible o (view o p.0)
      possible = view_possible classes s o p inv backed op tag orderly

      unmarked : (t : Tag) → tag ≡ t → ((change : Change) → t ≢ Closes change) → Kin k r
      unmarked t is ne = Seen (view o p.0) r possible (ap (λ cs. get (apply_all cs o.world) k) (sym (plain_view classes s o p inv backed op tag orderly t is ne)) ∙ e) refl

      with_it : (change : Change) → tag ≡ Closes change → (b : Bool) → changes change k ≡ b → Kin k r
      with_it change is true f = kin_put change k r is c (was_put change (view o p.0) k r f (ap (λ w. get w k) (sym (change_view classes s o p inv backed op tag orderly change is c)) ∙ e))
      with_it change is false f =
          Seen (view o p.0) r possible (sym (unchanged change (view o p.0) k f) ∙ ap (λ w. get w k) (sym (change_view classes s o p inv backed op tag orderly change is c)) ∙ e) refl

      by : (t : Tag) → tag ≡ t → Kin k r
      by (Closes change) is = with_it change is (changes change k) refl
      by Plain is = unmarked Plain is (λ x f. cc f)
      by Opens is = unmarked Opens is (λ x f. cc f)
      by Inside is = unmarked Inside is (λ x f. cc f)
      by Fails is = unmarked Fails is (λ x f. cc f)

  kin_next : (k : Key) (r : Record) (w : World) → Next o p op tag w → get w k ≡ Some r → Kin k r
  kin_next k r w (Old h) e = Seen w r h e refl
  kin_next k r w (Closed c is) e = kin_marked c k r (ap (λ v. get v k) (sym is) ∙ e)
  kin_next k r w (Crossed commits c only q ne ds below is) e = by (changes c k) refl
    where
      now : get (apply_all ds (apply c o.world)) k ≡ Some r
      now = ap (λ v. get v k) (sym is) ∙ e

      alone : changes c k ≡ true → (d : Bool) → some_changes ds k ≡ d → Kin k r
      alone f true g = absurd (keys_apart classes s o p inv backed op tag orderly commits c only q ne ds below k f g)
      alone f false g = kin_marked commits k r (ap (λ cs. get (apply_all cs o.world) k) only ∙ sym (all_unchanged ds (apply c o.world) k g) ∙ now)

      by : (b : Bool) → changes c k ≡ b → Kin k r
      by true f = alone f (some_changes ds k) refl
      by false f = Seen (apply_all ds o.world) r (Pending q ds below refl) (sym (all_alike ds o.world (apply c o.world) k (unchanged c o.world k f)) ∙ now) refl

  pub kin : (k : Key) (r : Record) (w : World) → IsPossible (desks_after o p.0 op (reply s p op) tag) w → get w k ≡ Some r → Kin k r
  kin k r w possible e = kin_next k r w (next_possible o p op (reply s p op) tag w possible) e

  -- ---- draws

  -- a key that is drawn then was drawn before, by another process or within the same save, or this entry draws it
  pub data DrawnThen (q : ℕ) (k : Key) : Type 0 where
    Before : IsDrawn o q k → (q ≡ p.0 → tag ≡ Inside) → DrawnThen q k
    Now : q ≡ p.0 → tag ≡ Inside → (i : ℕ) → op ≡ Incr (counter_node k.extent) (pos 1) → reply s p op ≡ Number (pos i) → k.id ≡ i ∷ [] → DrawnThen q k

  abbrev pub newest : Own
  newest = record { op = op; reply = reply s p op; view = apply_all (desk_at o p.0).lists o.world }

  abbrev pub Then : Key → Option Within → Type 0
  Then k w = (e : Own) × Has e (entries_within w (newest ∷ (desk_at o p.0).own)) × Draws k e

  none_then : (k : Key) → Then k None → DrawnThen p.0 k
  none_then k h = absurd h.1

  -- one entry more within a save
  more_then : (k : Key) (x : Op) → tag ≡ Inside → (w : Option Within) → (desk_at o p.0).within ≡ w → Then k (one_more x w) → DrawnThen p.0 k
  more_then k x inside None is h = absurd h.1
  more_then k x inside (Some w) is h = by h.1
    where
      by : (h.0 ≡ newest) ⊎ Has h.0 (take (length w.asked) (desk_at o p.0).own) → DrawnThen p.0 k
      by (inl e) = Now refl inside h.2.1.0 (ap (λ (x : Own). x.op) (sym e) ∙ h.2.0) (ap (λ (x : Own). x.reply) (sym e) ∙ h.2.1.1) h.2.1.2
      by (inr has) = Before (h.0, subst (λ x. Has h.0 (entries_within x (desk_at o p.0).own)) (sym is) has, h.2) (λ e. inside)

  opened_then : (k : Key) (r : Reply) (cs : List Change) → Then k (opened r cs) → DrawnThen p.0 k
  opened_then k (Number z) cs h = absurd h.1
  opened_then k _ cs h = absurd h.1

  pub own_then : (k : Key) (x : Op) (r : Reply) (t : Tag) → tag ≡ t → (cs : List Change) → Then k (within_after x r t cs (desk_at o p.0).within) → DrawnThen p.0 k
  own_then k End r t is cs h = none_then k h
  own_then k _ r Opens is cs h = opened_then k r cs h
  own_then k x r Inside is cs h = more_then k x is (desk_at o p.0).within refl h
  own_then k _ r Plain is cs h = none_then k h
  own_then k _ r (Closes c) is cs h = none_then k h
  own_then k _ r Fails is cs h = none_then k h
