-- An entry that may come keeps its order, so that it keeps the worlds sound; with the parts of holds, levels and lists this is the whole invariant.
use Rattle.std.proofs.Common.{◌≡◌, ◌≢◌, ◌⊎◌, inl, inr, ⊎_elim, ℕ, pos, Bool, true, false, List, [], ◌∷◌, ◌++◌, length, codes, Option, Some, None, is_some, refl, sym, ap, subst, ◌∙◌}
use Rattle.std.proofs.lemmas.List.{append_cancel_right}
use Rattle.obj_kinds.specs.declared.name.ClassName.{ClassName}
use Rattle.obj_kinds.specs.declared.node.Node.{Node}
use Rattle.obj_kinds.specs.declared.sub.Sub.{Sub}
use Rattle.obj_kinds.specs.declared.op.Pid.{Pid}
use Rattle.obj_kinds.specs.declared.op.Op.{Op}
use Rattle.obj_kinds.specs.declared.op.Op.TheVariants.{Set, Kill, Incr, Begin, Commit, RollbackOne, RollbackAll, End}
use Rattle.obj_kinds.specs.Order.{covers}
use Rattle.schema_kinds.specs.declared.class.Class.{Class}
use Rattle.schema_kinds.specs.declared.key.Key.{Key}
use Rattle.schema_kinds.specs.Classes.{class_names, is_own_global}
use Rattle.schema_kinds.specs.Worlds.{World, Change}
use Rattle.global_tree.specs.Contents.{Globals}
use Rattle.storage_map.specs.Worlds.{owner}
use Rattle.storage_map.proofs.OwnerLaws.{extent_found}
use Rattle.world_images.proofs.TurnLaws.{covers_is}
use Rattle.store_core.specs.declared.entry.Entry.{Entry}
use Rattle.store_core.specs.Machine.{State, levels_at, is_live, after, reply, opening}
use Rattle.store_calls.specs.Calls.{Tag, Plain, Opens, Inside, Closes, Fails}
use Rattle.object_calls.specs.Extents.{counter_node}
use Rattle.object_runs.specs.ObjectMachine.{Desks, Within, desk_at, first_desks}
use Rattle.object_runs.specs.Runs.{Meaning, Outcome, Runs, Both, start, ran, meaning_ran}
use Rattle.object_runs.specs.Headline.{Opening, is_extent_of}
use Rattle.object_runs.specs.Invariant.{IsInvariant}
use Rattle.object_runs.proofs.StartLaws.{start_invariant, data_is_own}
use Rattle.run_rules.specs.Steps.{WritesNone, OwnsWritten, HasOwner, IsCounterOf, MayCome, IsFit, next}
use Rattle.run_rules.specs.Structure.{IsStructured}
use Rattle.run_rules.specs.Good.{IsGood}
use Rattle.run_rules.specs.Laws.{Anything, KeepsWorlds}
use Rattle.run_rules.proofs.Turns.{bare_owner, covers_global, counter_unowned}
use Rattle.run_rules.proofs.Step.{whole_step, structured, start_structured}
use Rattle.run_rules.proofs.Weave.{plain_goodness, asked_next, IsRunning, running_at, start_running, keeps_worlds}
use Rattle.sound_runs.specs.Closing.{IsSafeChange}
use Rattle.sound_runs.specs.Backed.{IsBacked, HasSoundViews, IsInPlace, SparesCounters, DrawsOfExtents, IsOrderly}
use Rattle.sound_runs.specs.Pairs.{ArePaired}
use Rattle.sound_runs.proofs.Laws.{entries_keep_sound, entries_keep_backed, start_is_backed}
use Rattle.steady_runs.specs.Steady.{IsSteady, EntriesKeepSteady, StartsAreSteady, SafeRunsAreSteady}

-- ---- counters

counter_own : (classes : List Class) (extent : ClassName) → is_extent_of classes extent ≡ true → is_own_global classes (counter_node extent).global ≡ true
counter_own classes extent e = data_is_own (class_names classes) (counter_node extent).global classes (ap is_some (extent_found (class_names classes) extent classes e))

no_front : (xs ys : List Sub) → [] ≡ xs ++ ys → xs ≡ []
no_front [] ys e = refl
no_front (x ∷ xs) ys e = absurd (cc e)

-- what covers a node without subscripts has none
covers_bare : (classes : List Class) (n m : Node) → covers n m ≡ true → m.subs ≡ [] → owner classes n ≡ None
covers_bare classes n m c e =
    let rest = covers_is n m c in
    let none = no_front n.subs rest.0 (sym e ∙ ap (λ (k : Node). k.subs) rest.1) in
    ap (owner classes) (λ i. record { global = n.global; subs = none i }) ∙ bare_owner classes n.global

not_true : (b : Bool) → (b ≡ true → ⊥) → b ≡ false
not_true true h = absurd (h refl)
not_true false h = refl

one_extent : (a b : ClassName) → counter_node a ≡ counter_node b → a ≡ b
one_extent a b e = λ i. record { 0 = append_cancel_right a.0 b.0 (codes "D") (ap (λ (n : Node). n.global) e) i }

module _ (classes : List Class) where
  spares_plain : (op : Op) → WritesNone classes op → SparesCounters classes op
  spares_plain (Set n v) free = λ extent is e. let own = counter_own classes extent is in absurd (cc (sym free ∙ ap (λ (m : Node). is_own_global classes m.global) e ∙ own))
  spares_plain (Kill n) free = λ extent is. not_true _ (λ c. let own = counter_own classes extent is in absurd (cc (sym free ∙ ap (is_own_global classes) (sym (covers_global n (counter_node extent) c)) ∙ own)))
  spares_plain (Incr n k) free = λ extent is e. let own = counter_own classes extent is in absurd (cc (sym free ∙ ap (λ (m : Node). is_own_global classes m.global) e ∙ own))
  spares_plain _ free = tt

  spares_inside : (s : State) (p : Pid) (op : Op) → OwnsWritten classes s.holds p op → SparesCounters classes op
  spares_inside s p (Set n v) owns = λ extent is e. absurd (cc (sym owns.0.1 ∙ counter_unowned classes n (extent, is, e)))
  spares_inside s p (Kill n) owns = λ extent is. not_true _ (λ c. absurd (cc (sym owns.0.1 ∙ covers_bare classes n (counter_node extent) c refl)))
  spares_inside s p (Incr n k) owns = λ extent is e. owns.1
  spares_inside s p _ owns = tt

  draws_inside : (s : State) (p : Pid) (op : Op) → OwnsWritten classes s.holds p op → DrawsOfExtents classes op Inside
  draws_inside s p (Incr n k) owns = λ extent e. subst (λ x. is_extent_of classes x ≡ true) (one_extent owns.0.0 extent (sym owns.0.2 ∙ e)) owns.0.1
  draws_inside s p _ owns = tt

  draws_other : (op : Op) (tag : Tag) → (tag ≡ Inside → ⊥) → DrawsOfExtents classes op tag
  draws_other (Incr n k) Inside ne = absurd (ne refl)
  draws_other (Incr n k) Plain ne = tt
  draws_other (Incr n k) Opens ne = tt
  draws_other (Incr n k) (Closes c) ne = tt
  draws_other (Incr n k) Fails ne = tt
  draws_other _ tag ne = tt

  place_plain : (w : Option Within) (op : Op) → w ≡ None → op ≢ End → IsInPlace w op Plain
  place_plain w End e ne = absurd (ne refl)
  place_plain w _ e ne = e

  place_inside : (w : Option Within) (op : Op) → ((b : Within) × (w ≡ Some b)) → Rattle.run_rules.specs.Steps.IsWithinLevel op → IsInPlace w op Inside
  place_inside w Begin e i = absurd i
  place_inside w Commit e i = absurd i
  place_inside w RollbackOne e i = absurd i
  place_inside w RollbackAll e i = absurd i
  place_inside w End e i = absurd i
  place_inside w _ e i = (e, tt)

  place_end : (w : Option Within) (tag : Tag) → IsInPlace w End tag
  place_end w Plain = tt
  place_end w Opens = tt
  place_end w Inside = tt
  place_end w (Closes c) = tt
  place_end w Fails = tt

  draws_end : (tag : Tag) → DrawsOfExtents classes End tag
  draws_end Plain = tt
  draws_end Opens = tt
  draws_end Inside = tt
  draws_end (Closes c) = tt
  draws_end Fails = tt

  -- the place, the counters and the change of an entry
  abbrev Kept : State → Desks → Pid → Op → Tag → Type 0
  Kept s o p op tag =
      IsInPlace (desk_at o p.0).within op tag × SparesCounters classes op × DrawsOfExtents classes op tag
      × ((change : Change) → tag ≡ Closes change → op ≡ Commit → IsSafeChange classes s o p change)

  kept_may : (s : State) (o : Desks) (p : Pid) (op : Op) (tag : Tag) → MayCome classes (IsSafeChange classes) s o p op tag → Kept s o p op tag
  kept_may s o p op Plain may = (place_plain _ op may.0 may.2, spares_plain op may.1, draws_other op Plain (λ e. cc e), λ change e f. absurd (cc e))
  kept_may s o p op Opens may = subst (λ x. Kept s o p x Opens) (sym may.1) ((may.0, refl), tt, tt, λ change e f. absurd (cc e))
  kept_may s o p op Inside may = (place_inside _ op may.0 may.1, spares_inside s p op may.2, draws_inside s p op may.2, λ change e f. absurd (cc e))
  kept_may s o p op (Closes c) may = subst (λ x. Kept s o p x (Closes c)) (sym may.1) (((may.0.0, may.0.1), refl), tt, tt, λ change e f. (let same : c ≡ change = cc e in subst (IsSafeChange classes s o p) same may.2))
  kept_may s o p op Fails may = subst (λ x. Kept s o p x Fails) (sym may.1) ((may.0, refl), tt, tt, λ change e f. absurd (cc e))

  kept_fit : (b : Both) (p : Pid) (op : Op) (tag : Tag) → IsFit classes (IsSafeChange classes) b p op tag → Kept b.store b.objects p op tag
  kept_fit b p op tag fit = ⊎_elim
      (λ is. subst (λ x. Kept b.store b.objects p x tag) (sym is) (place_end (desk_at b.objects p.0).within tag, tt, draws_end tag, λ change e f. absurd (no_end f)))
      (λ may. kept_may b.store b.objects p op tag may) fit.1
    where
      no_end : End ≡ Commit → ⊥
      no_end e = cc e

  pub has_structure : (b : Both) → IsSteady classes b → IsStructured classes b.store b.objects
  has_structure b i = structured classes b.store b.objects i.invariant i.before

  pub orderly : (b : Both) (p : Pid) (op : Op) (tag : Tag) → IsSteady classes b → IsFit classes (IsSafeChange classes) b p op tag → IsOrderly classes b.store b.objects p op tag
  orderly b p op tag i fit =
      let k = kept_fit b p op tag fit in
      record {
        live = fit.0;
        in_place = k.0;
        spares = k.1;
        draws = k.2;
        safe = k.3;
        aligned = ((whole_step classes (IsSafeChange classes) b p op tag (has_structure b i) fit).aligned p).0;
      }

pub entries_keep_steady : EntriesKeepSteady
entries_keep_steady classes b p op tag paired i fit =
    let w = whole_step classes (IsSafeChange classes) b p op tag (has_structure classes b i) fit in
    let o = orderly classes b p op tag i fit in
    let v = entries_keep_sound classes b.store b.objects p op tag paired i.invariant i.backed o in
    record {
      invariant = record {
        rows = w.rows;
        keys = w.keys;
        aligned = w.aligned;
        pending = w.pending;
        foreign = w.foreign;
        stands = w.stands;
        strays = w.strays;
        targets = v.targets;
        deletes = v.deletes;
        sound = v.sound;
        counted = v.counted;
        classes_agree = v.classes_agree;
      };
      before = w.before;
      backed = entries_keep_backed classes b.store b.objects p op tag i.invariant i.backed o;
    }

pub starts_are_steady : StartsAreSteady
starts_are_steady classes pids g w opens =
    record { invariant = start_invariant classes pids g w opens; before = (start_structured classes pids g w opens).before; backed = start_is_backed classes pids g w }

pub safe_runs_are_steady : SafeRunsAreSteady
safe_runs_are_steady classes meaning pids most g w history outcome paired opens runs good =
    let G = plain_goodness classes (IsSafeChange classes) Anything in
    let Inv : Both → Type 0 = IsSteady classes in
    let keeps : (b : Both) (p : Pid) (op : Op) (tag : Tag) → Inv b → IsFit classes (IsSafeChange classes) b p op tag → Inv (next b p op tag) = λ b p op tag i fit. entries_keep_steady classes b p op tag paired i fit in
    let has : (b : Both) → Inv b → IsStructured classes b.store b.objects = has_structure classes in
    let r = start_running classes (IsSafeChange classes) Anything G Inv keeps has meaning pids most g w history outcome (starts_are_steady classes pids g w opens) runs good
    (λ p from to. asked_next (meaning p.0) (runs.processes p from to).own (runs.processes p from to).asked) in (
      keeps_worlds classes (IsSafeChange classes) Anything G Inv keeps has meaning (start pids g w) history r,
      λ es fs is. (running_at classes (IsSafeChange classes) Anything G Inv keeps has meaning (start pids g w) es fs (subst (IsRunning classes (IsSafeChange classes) Anything G Inv keeps has meaning (start pids g w)) (sym is) r)).whole,
    )
