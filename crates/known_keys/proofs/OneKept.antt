-- Each operation that may come leaves what a process knows: its own counts draw no known key, and its commits put known keys with their class alone.
use Rattle.std.proofs.Common.{◌≡◌, ◌≢◌, inl, inr, true, List, [], ◌∷◌, refl, sym, ap, subst, ◌∙◌}
use Rattle.obj_kinds.specs.declared.name.ClassName.{ClassName}
use Rattle.obj_kinds.specs.declared.op.Pid.{Pid}
use Rattle.obj_kinds.specs.declared.op.Op.{Op}
use Rattle.schema_kinds.specs.declared.class.Class.{Class}
use Rattle.schema_kinds.specs.declared.key.Key.{Key}
use Rattle.schema_kinds.specs.declared.record.Record.{Record}
use Rattle.schema_kinds.specs.declared.record.Part.TheVariants.{Put, Del}
use Rattle.schema_kinds.specs.Worlds.{Change}
use Rattle.store_core.specs.Machine.{is_live, reply}
use Rattle.store_calls.specs.Calls.{Call, Give, Ask, Tell, Cut, Tag, Plain, Opens, Inside, Closes, Fails}
use Rattle.object_runs.specs.ObjectMachine.{Desk, Own, desk_at, desk_after, view}
use Rattle.object_runs.specs.Causes.{Has}
use Rattle.object_runs.specs.Runs.{Both}
use Rattle.object_runs.specs.Invariant.{Pending}
use Rattle.run_rules.specs.Steps.{MayCome, IsFit, next, Event, step_by, after_all, AreFit}
use Rattle.run_rules.specs.Good.{Truth, AreOthers, Meets}
use Rattle.sound_runs.specs.Closing.{entries_within, Draws, IsKnownOrDrawn, IsSafeChange, Saves, Deletes}
use Rattle.sound_runs.specs.Pairs.{ArePaired}
use Rattle.sound_runs.proofs.Born.{DrawnThen, Before, Now, own_then}
use Rattle.sound_runs.proofs.Next.{desk_own, desk_other}
use Rattle.sound_runs.proofs.Saved.{put_safe}
use Rattle.sound_runs.proofs.Viewed.{draws_are_fresh}
use Rattle.sound_runs.proofs.Laws.{knowledge_stays}
use Rattle.steady_runs.proofs.Keeping.{entries_keep_steady, orderly}
use Rattle.known_keys.specs.Knowledge.{IsHeldKnown}
use Rattle.known_keys.specs.Laws.{OthersKeepKnown, OwnKeepsKnown, KnownIsKept}

module _ (classes : List Class) (p : Pid) (key : Key) (class : ClassName) (paired : ArePaired classes) where
  abbrev Held : Both → Type 0
  Held b = IsHeldKnown classes p key class b

  abbrev Fit : Both → Pid → Op → Tag → Type 0
  Fit b q op tag = IsFit classes (IsSafeChange classes) b q op tag

  -- ---- the others

  by_other : (b : Both) (e : Event) → e.pid.0 ≢ p.0 → Fit b e.pid e.op e.tag → Held b → Held (step_by b e)
  by_other b e ne fit h = record {
    steady = entries_keep_steady classes b e.pid e.op e.tag paired h.steady fit;
    knows = knowledge_stays classes b.store b.objects e.pid e.op e.tag p.0 key class h.steady.invariant h.steady.backed (orderly classes b e.pid e.op e.tag h.steady fit) h.knows (λ is change r. absurd (ne (sym is)));
    undrawn = λ d. h.undrawn (subst (λ (x : Desk). (o : Own) × Has o (entries_within x.within x.own) × Draws key o) (desk_other b.objects e.pid.0 e.op (reply b.store e.pid e.op) e.tag p.0 (λ is. ne (sym is))) d);
  }

  all_others : (b : Both) (es : List Event) → AreOthers p es → AreFit classes (IsSafeChange classes) b es → Held b → Held (after_all b es)
  all_others b [] others fit h = h
  all_others b (e ∷ es) others fit h = all_others (step_by b e) es others.1 fit.1 (by_other b e others.0 fit.0 h)

  -- ---- its own

  no_put : (k : Key) (r : Record) → Has (Put key r) (Del k ∷ []) → ⊥
  no_put k r (inl e) = cc e
  no_put k r (inr e) = e

  -- a safe change puts the key with its class
  of_class : (b : Both) (change : Change) (r : Record) → Held b → IsSafeChange classes b.store b.objects p change → Has (Put key r) change → r.class ≡ class
  of_class b change r h (Saves distinct safe) put = by (put_safe classes b.store b.objects p change distinct safe key r put).2.known
    where
      by : IsKnownOrDrawn classes b.store b.objects p key r → r.class ≡ class
      by (inl k) = sym k.2 ∙ h.knows.known.class_is (view b.objects p.0) k.0 (Pending p.0 (desk_at b.objects p.0).lists ([], refl) refl) k.1
      by (inr d) = absurd (h.undrawn d)
  of_class b change r h (Deletes k is safe) put = absurd (no_put k r (subst (Has (Put key r)) is put))

  closes : (b : Both) (op : Op) (tag : Tag) → MayCome classes (IsSafeChange classes) b.store b.objects p op tag → Held b → (change : Change) (r : Record) → tag ≡ Closes change → Has (Put key r) change → r.class ≡ class
  closes b op (Closes c) may h change r e put = of_class b c r h may.2 (subst (Has (Put key r)) (sym (one_change e)) put)
    where
      one_change : Closes c ≡ Closes change → c ≡ change
      one_change e = cc e
  closes b op Plain may h change r e put = absurd (cc e)
  closes b op Opens may h change r e put = absurd (cc e)
  closes b op Inside may h change r e put = absurd (cc e)
  closes b op Fails may h change r e put = absurd (cc e)

  own : (b : Both) (op : Op) (tag : Tag) → is_live b.store p ≡ true → MayCome classes (IsSafeChange classes) b.store b.objects p op tag → Held b → Held (next b p op tag)
  unfolding desk_after
  own b op tag live may h =
      let fit : Fit b p op tag = (live, inr may) in
      let order = orderly classes b p op tag h.steady fit in record {
        steady = entries_keep_steady classes b p op tag paired h.steady fit;
        knows = knowledge_stays classes b.store b.objects p op tag p.0 key class h.steady.invariant h.steady.backed order h.knows (λ is change r e put. closes b op tag may h change r e put);
        undrawn = λ d. by (own_then classes b.store b.objects p h.steady.invariant h.steady.backed op tag order key op (reply b.store p op) tag refl (desk_at b.objects p.0).lists
            (subst (λ (x : Desk). (o : Own) × Has o (entries_within x.within x.own) × Draws key o) (desk_own b.objects p.0 op (reply b.store p op) tag) d));
      }
    where
      by : DrawnThen classes b.store b.objects p h.steady.invariant h.steady.backed op tag (orderly classes b p op tag h.steady (live, inr may)) p.0 key → ⊥
      by (Before d is) = h.undrawn d
      by (Now is inside i counts told id) = draws_are_fresh classes b.store b.objects p key class i h.steady.invariant h.steady.backed h.knows (ap (reply b.store p) (sym counts) ∙ told) id

  -- ---- a call

  kept_by : (truth : Truth) {A : Type 0} (c : Call A) (post : A → Both → Type 0) (b : Both) → Held b → Meets classes (IsSafeChange classes) truth p c post b → Meets classes (IsSafeChange classes) truth p c (λ a b. post a b × Held b) b
  kept_by truth (Give a) post b h m = (m, h)
  kept_by truth Cut post b h m = tt
  kept_by truth (Tell x c) post b h m = (m.0, kept_by truth c post b h m.1)
  kept_by truth (Ask op tag k) post b h m = λ es others fit live.
      let b' = after_all b es in
      let r = m es others fit live in
      let h' = all_others b es others fit h in
      (r.0, kept_by truth (k (reply b'.store p op)) post (next b' p op tag) (own b' op tag live r.0 h') r.1)

pub others_keep_known : OthersKeepKnown
others_keep_known classes p key class b es paired others fit h = all_others classes p key class paired b es others fit h

pub own_keeps_known : OwnKeepsKnown
own_keeps_known classes p key class b op tag paired live may h = own classes p key class paired b op tag live may h

pub known_is_kept : KnownIsKept
known_is_kept classes truth p key class A c post b paired h m = kept_by classes p key class paired truth c post b h m
