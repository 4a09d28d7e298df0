-- At the Commit of a save: what it wrote turns its view into the changed one, and the change is safe.
use Rattle.std.proofs.Common.{◌≡◌, inl, inr, ℕ, Bool, List, [], ◌∷◌, ◌++◌, Option, Some, None, option_map, refl, sym, ap, subst, ◌∙◌}
use Rattle.std.specs.FinMap.{get}
use Rattle.obj_kinds.specs.declared.name.ClassName.{ClassName}
use Rattle.obj_kinds.specs.declared.node.Node.{Node}
use Rattle.schema_kinds.specs.declared.key.Key.{Key}
use Rattle.schema_kinds.specs.declared.record.Record.{Record}
use Rattle.schema_kinds.specs.declared.record.Part.TheVariants.{Put}
use Rattle.schema_kinds.specs.Worlds.{World, apply}
use Rattle.storage_map.specs.Keys.{uniques_of, sides_of}
use Rattle.storage_map.specs.Worlds.{owner, IsKeyOf}
use Rattle.object_calls.specs.Keys.{MovedKey, MovedSide, moved_keys, moved_sides}
use Rattle.object_calls.specs.Saves.{Item, Work, change_of, keys_moved}
use Rattle.object_runs.specs.ObjectMachine.{view}
use Rattle.object_runs.specs.Causes.{Each, uniques_in, sides_in_view}
use Rattle.object_runs.specs.Runs.{Both}
use Rattle.object_runs.specs.Invariant.{HoldsRow, written, shown}
use Rattle.run_rules.specs.Steps.{IsWritten}
use Rattle.sound_runs.specs.Closing.{AreDistinct, IsTakenNode, IsMetTarget, IsKnownOrDrawn, IsSafePut, AreSafe, IsSafeChange, Saves}
use Rattle.sound_runs.proofs.Puts.{IsPut, or_else, put_final}
use Rattle.call_rules.specs.Settings.{Setting}
use Rattle.call_rules.specs.Schemas.{IsStorableSchema}
use Rattle.call_rules.proofs.Rules.{In, all_writes, written-append}
use Rattle.saving_rules.proofs.Lists.{each_has}
use Rattle.saving_rules.proofs.Works.{puts, work_at, work_has, puts_at, changed_at, IsWork, first_of, later_of, none_at, one_at, first_leaves, later_leaves, whole_work}
use Rattle.saving_rules.proofs.Facts.{IsSteadySetting}
use Rattle.good_saves.proofs.Writes.{keys_same, sides_same, TakenFrom}
use Rattle.good_saves.proofs.Looks.{KnownBy, IsKnown}
use Rattle.good_saves.proofs.Targets.{AllMet}

puts_all : (ws : List Work) → Each IsPut (puts ws)
puts_all [] = tt
puts_all (w ∷ ws) = (tt, puts_all ws)

puts_on : (front : List Work) (w : Work) → puts (front ++ w ∷ []) ≡ puts front ++ Put w.item.key w.item.now ∷ []
puts_on [] w = refl
puts_on (x ∷ front) w = ap (λ c. Put x.item.key x.item.now ∷ c) (puts_on front w)

module _ (t : Setting) (schema : IsStorableSchema t.classes) (steady : IsSteadySetting t) (is_live : Key → Bool) (tries most : ℕ) where
  abbrev Known : Work → Both → Type 0
  Known w b = IsKnown t schema steady is_live tries most w b

  module _ (ws : List Work) (are : Each (IsWork t.classes) ws) (apart : AreDistinct (puts ws)) (b : Both) (seen : Each (λ w. Known w b) ws) where
    v : World
    v = view b.objects t.p.0

    -- all that is written, at each node of a key
    written_all : (n : Node) (k : Key) → owner t.classes n ≡ Some k
        → written (all_writes (later_of t.classes) ws ++ all_writes (first_of t.classes) ws) n (shown t.classes k n (get (view b.objects t.p.0) k)) ≡ shown t.classes k n (get (apply (puts ws) (view b.objects t.p.0)) k)
    written_all n k own =
        written-append (all_writes (later_of t.classes) ws) (all_writes (first_of t.classes) ws) n (shown t.classes k n (get (view b.objects t.p.0) k))
        ∙ by (work_at k ws) refl
        ∙ sym (ap (shown t.classes k n) (put_final (puts ws) (view b.objects t.p.0) k (puts_all ws) apart ∙ ap (λ o. or_else o (get (view b.objects t.p.0) k)) (puts_at k ws)))
      where
        by : (a : Option Work) → work_at k ws ≡ a
            → written (all_writes (later_of t.classes) ws) n (written (all_writes (first_of t.classes) ws) n (shown t.classes k n (get (view b.objects t.p.0) k)))
            ≡ shown t.classes k n (or_else (option_map (λ (w : Work). w.item.now) (work_at k ws)) (get (view b.objects t.p.0) k))
        by None e =
            none_at t.classes (later_of t.classes) (later_leaves t.classes schema.even) n k own ws are e _
            ∙ none_at t.classes (first_of t.classes) (first_leaves t.classes schema.even) n k own ws are e _
            ∙ sym (ap (λ a. shown t.classes k n (or_else (option_map (λ (w : Work). w.item.now) a) (get (view b.objects t.p.0) k))) e)
        by (Some u) e =
            let h = work_has k ws u e in
            one_at t.classes (later_of t.classes) (later_leaves t.classes schema.even) n k own ws are apart u e _
            ∙ ap (written (later_of t.classes u) n) (one_at t.classes (first_of t.classes) (first_leaves t.classes schema.even) n k own ws are apart u e (shown t.classes k n (get (view b.objects t.p.0) k)))
            ∙ subst (λ j. owner t.classes n ≡ Some j → written (later_of t.classes u) n (written (first_of t.classes u) n (shown t.classes j n (get (view b.objects t.p.0) j))) ≡ shown t.classes j n (Some u.item.now)) (sym h.1)
            (λ own'. ap (λ o. written (later_of t.classes u) n (written (first_of t.classes u) n (shown t.classes u.item.key n o))) (each_has (λ w. Known w b) ws u seen h.0).0.1
            ∙ whole_work t.classes schema.even u (each_has (IsWork t.classes) ws u are h.0) n own') own
            ∙ sym (ap (λ a. shown t.classes k n (or_else (option_map (λ (w : Work). w.item.now) a) (get (view b.objects t.p.0) k))) e)

    pub is_written : (i : In t b (all_writes (later_of t.classes) ws ++ all_writes (first_of t.classes) ws)) → IsWritten t.classes b.store.holds t.p (view b.objects t.p.0) i.now.asked (puts ws)
    is_written i = record {
      held = λ key e. (let u = changed_at key ws e in let h = work_has key ws u.0 u.1 in subst (HoldsRow b.store.holds t.p) (sym h.1) (each_has (λ w. Known w b) ws u.0 seen h.0).0.0);
      whole = λ n k own. i.same n (shown t.classes k n (get (view b.objects t.p.0) k)) ∙ written_all n k own;
    }

  -- ---- the change is safe

  known_or_drawn : (b : Both) (w : Work) (o : Option Record) → get (view b.objects t.p.0) w.item.key ≡ o → KnownBy t schema steady is_live tries most w.item o b → IsKnownOrDrawn t.classes b.store b.objects t.p w.item.key w.item.now
  known_or_drawn b w None e k = inr k
  known_or_drawn b w (Some r) e k = inl (r, e, k)

  module _ (items : List Item) (known : List (Key × ClassName)) (real : Each (λ (k : Key × ClassName). IsKeyOf t.classes k.0) known) (b : Both) where
    abbrev Met : Work → Type 0
    Met w = AllMet t schema steady tries most items known real w b

    safe_put : (front : List Work) (w : Work) (back : List Work) → IsWork t.classes w → Known w b → Met w
        → Each (λ (m : MovedKey). IsTakenNode t.classes b.store b.objects t.p (puts front) w.item.key (puts back) m.new) (keys_moved t.classes tries most w)
        → IsSafePut t.classes b.store b.objects t.p (change_of items) (puts front) w.item.key w.item.now (puts back)
    safe_put front w back is k met taken = record {
      row = k.0.0;
      sound = is.at;
      known = known_or_drawn b w w.old k.0.1 k.1;
      keys = subst (λ o. Each (λ (m : MovedKey). IsTakenNode t.classes b.store b.objects t.p (puts front) w.item.key (puts back) m.new) (moved_keys (uniques_in t.classes w.item.key o) (uniques_of t.classes w.item.key w.item.now))) (sym k.0.1)
          (subst (Each (λ (m : MovedKey). IsTakenNode t.classes b.store b.objects t.p (puts front) w.item.key (puts back) m.new)) (keys_same t tries most w) taken);
      sides = subst (λ o. Each (λ (m : MovedSide). IsMetTarget t.classes b.store b.objects t.p (change_of items) m m.new) (moved_sides (sides_in_view t.classes o) (sides_of t.classes w.item.now))) (sym k.0.1)
          (subst (Each (λ (m : MovedSide). IsMetTarget t.classes b.store b.objects t.p (change_of items) m m.new)) (sides_same t tries most w) met);
    }

    are_safe : (front back : List Work) → Each (IsWork t.classes) back → Each (λ w. Known w b) back → Each Met back → TakenFrom t schema steady tries most front back b → AreSafe t.classes b.store b.objects t.p (change_of items) (puts front) (puts back)
    are_safe front [] is k met taken = tt
    are_safe front (w ∷ back) is k met taken =
        (safe_put front w back is.0 k.0 met.0 taken.0, subst (λ c. AreSafe t.classes b.store b.objects t.p (change_of items) c (puts back)) (puts_on front w) (are_safe (front ++ w ∷ []) back is.1 k.1 met.1 taken.1))

    pub is_safe : (ws : List Work) → puts ws ≡ change_of items → AreDistinct (puts ws) → Each (IsWork t.classes) ws → Each (λ w. Known w b) ws → Each Met ws → TakenFrom t schema steady tries most [] ws b → IsSafeChange t.classes b.store b.objects t.p (change_of items)
    is_safe ws same apart is k met taken =
        Saves (subst AreDistinct same apart) (subst (AreSafe t.classes b.store b.objects t.p (change_of items) []) same (are_safe [] ws is k met taken))
