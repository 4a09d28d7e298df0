-- Where no mark tells of a raw write or a low level, none was asked or told before the last entry.
use Rattle.std.proofs.Common.{◌≡◌, ◌≢◌, ℕ, suc, Bool, true, false, cond, ◌||◌, ◌⊎◌, inl, inr, List, [], ◌∷◌, ◌++◌, refl, sym, ap, subst, ◌∙◌}
use Rattle.std.specs.List.{list_any}
use Rattle.obj_kinds.specs.declared.op.Pid.{Pid}
use Rattle.obj_kinds.specs.declared.op.Op.{Op}
use Rattle.obj_kinds.specs.declared.op.Op.TheVariants.{Set, Kill, Incr, End}
use Rattle.obj_kinds.specs.declared.op.Reply.{Reply}
use Rattle.schema_kinds.specs.declared.class.Class.{Class}
use Rattle.schema_kinds.specs.Classes.{is_own_global}
use Rattle.store_core.specs.declared.entry.Entry.{Entry}
use Rattle.store_calls.specs.Calls.{Call, Give, Ask, Tell, Cut, Tag, Plain, Told, Low, Step, Asks, step, told, answered}
use Rattle.host_meaning.specs.declared.ending.Ending.{Ending}
use Rattle.host_meaning.specs.declared.ending.Ending.TheVariants as ending
use Rattle.object_runs.specs.declared.mark.Mark.{Mark}
use Rattle.object_runs.specs.declared.mark.MarkKind.TheVariants as mark
use Rattle.object_runs.specs.Marks.{noted, told_mark, raw_mark, script_mark, entry_mark, marks_from, marks_of, marks_early, is_raw, is_low}
use Rattle.object_runs.specs.Causes.{Each}
use Rattle.object_runs.specs.Headline.{IsKept}
use Rattle.object_runs.specs.Runs.{AreAsked, replies, NotesSo, AreNoted, AreMostlyNoted}
use Rattle.run_rules.proofs.Weave.{AreAskedOrEnd}
use Rattle.kept_runs.specs.Kept.{is_raw_write, is_low_told, IsKeptNext}

each_front : {A : Type 0} (P : A → Type 0) (xs ys : List A) → Each P (xs ++ ys) → Each P xs
each_front P [] ys h = tt
each_front P (x ∷ xs) ys h = (h.0, each_front P xs ys h.1)

each_back : {A : Type 0} (P : A → Type 0) (xs ys : List A) → Each P (xs ++ ys) → Each P ys
each_back P [] ys h = h
each_back P (x ∷ xs) ys h = each_back P xs ys h.1

module _ (classes : List Class) (p : Pid) where
  no_low : (n : ℕ) (x : Told) → Each IsKept (told_mark p n x) → is_low_told x ≡ false
  no_low n Low h = absurd (cc h.0.1)
  no_low n _ h = refl

  no_raw_at : (n : ℕ) (b : Bool) → Each IsKept (cond b (noted p n mark.Raw) []) → b ≡ false
  no_raw_at n true h = absurd (cc h.0.0)
  no_raw_at n false h = refl

  no_raw : (n : ℕ) (op : Op) (tag : Tag) (r : Reply) → Each IsKept (entry_mark classes p n op tag r) → is_raw_write classes op tag ≡ false
  no_raw n (Set at v) Plain r h = no_raw_at n (is_own_global classes at.global) h
  no_raw n (Kill at) Plain r h = no_raw_at n (is_own_global classes at.global) h
  no_raw n (Incr at k) Plain r h = no_raw_at n (is_own_global classes at.global) h
  no_raw n _ _ r h = refl

  -- what kept marks of one more reply say: of what was told and asked before it, and of the marks behind it
  abbrev SaysOf : Call Ending → Op → Tag → List Mark → Type 0
  SaysOf c op tag behind = (list_any is_low_told (told c) ≡ false) × (is_raw_write classes op tag ≡ false) × Each IsKept behind

  neither : (a b : Bool) → a ≡ false → b ≡ false → (a || b) ≡ false
  neither true b e f = absurd (cc e)
  neither false b e f = f

  one_reply : (c : Call Ending) (n : ℕ) (op : Op) (tag : Tag) (r : Reply) (rs : List Reply) → step c ≡ Asks op tag → Each IsKept (marks_from classes p n c (r ∷ rs))
      → SaysOf c op tag (marks_from classes p (suc n) (answered c r) rs)
  one_reply (Give a) n op tag r rs is h = absurd (cc is)
  one_reply Cut n op tag r rs is h = absurd (cc is)
  one_reply (Tell x c) n op tag r rs is h =
      let m = one_reply c n op tag r rs is (each_back IsKept (told_mark p n x) (marks_from classes p n c (r ∷ rs)) h) in
      (neither (is_low_told x) (list_any is_low_told (told c)) (no_low n x (each_front IsKept (told_mark p n x) (marks_from classes p n c (r ∷ rs)) h)) m.0, m.1, m.2)
  one_reply (Ask op' tag' k) n op tag r rs is h =
      let same_op : op' ≡ op = cc is in
      let same_tag : tag' ≡ tag = cc is in (
        refl,
        ap (λ x. is_raw_write classes x tag) (sym same_op) ∙ ap (is_raw_write classes op') (sym same_tag) ∙ no_raw (suc n) op' tag' r (each_front IsKept (entry_mark classes p (suc n) op' tag' r) (marks_from classes p (suc n) (k r) rs) h),
        each_back IsKept (entry_mark classes p (suc n) op' tag' r) (marks_from classes p (suc n) (k r) rs) h,
      )

  one_early : (c : Call Ending) (n : ℕ) (op : Op) (tag : Tag) (r : Reply) (rs : List Reply) → step c ≡ Asks op tag → Each IsKept (marks_early classes p n c (r ∷ rs))
      → SaysOf c op tag (marks_early classes p (suc n) (answered c r) rs)
  one_early (Give a) n op tag r rs is h = absurd (cc is)
  one_early Cut n op tag r rs is h = absurd (cc is)
  one_early (Tell x c) n op tag r rs is h =
      let m = one_early c n op tag r rs is (each_back IsKept (told_mark p n x) (marks_early classes p n c (r ∷ rs)) h) in
      (neither (is_low_told x) (list_any is_low_told (told c)) (no_low n x (each_front IsKept (told_mark p n x) (marks_early classes p n c (r ∷ rs)) h)) m.0, m.1, m.2)
  one_early (Ask op' tag' k) n op tag r rs is h =
      let same_op : op' ≡ op = cc is in
      let same_tag : tag' ≡ tag = cc is in (
        refl,
        ap (λ x. is_raw_write classes x tag) (sym same_op) ∙ ap (is_raw_write classes op') (sym same_tag) ∙ no_raw (suc n) op' tag' r (each_front IsKept (entry_mark classes p (suc n) op' tag' r) (marks_early classes p (suc n) (k r) rs) h),
        each_back IsKept (entry_mark classes p (suc n) op' tag' r) (marks_early classes p (suc n) (k r) rs) h,
      )

  end_or : (op : Op) → (op ≡ End) ⊎ (op ≢ End)
  end_or End = inl refl
  end_or _ = inr (λ is. cc is)

  entry_by : (c : Call Ending) (e : Entry) (tag : Tag) (behind : List Mark) → step c ≡ Asks e.op tag → SaysOf c e.op tag behind → (e.op ≡ End) ⊎ IsKeptNext classes c e
  entry_by c e tag behind is s = by (end_or e.op)
    where
      by : (e.op ≡ End) ⊎ (e.op ≢ End) → (e.op ≡ End) ⊎ IsKeptNext classes c e
      by (inl end) = inl end
      by (inr ne) = inr (tag, is, s.1, ne, s.0)

  pub asked_kept : (c : Call Ending) (n : ℕ) (es : List Entry) → AreAsked c es → Each IsKept (marks_from classes p n c (replies es)) → AreAskedOrEnd (IsKeptNext classes) c es
  asked_kept c n [] asked kept = tt
  asked_kept c n (e ∷ es) asked kept =
      let s = one_reply c n e.op asked.0.0 e.reply (replies es) asked.0.1 kept in
      (entry_by c e asked.0.0 (marks_from classes p (suc n) (answered c e.reply) (replies es)) asked.0.1 s, asked_kept (answered c e.reply) (suc n) es asked.1 s.2)

  pub asked_early : (c : Call Ending) (n : ℕ) (es : List Entry) → AreAsked c es → Each IsKept (marks_early classes p n c (replies es)) → AreAskedOrEnd (IsKeptNext classes) c es
  asked_early c n [] asked kept = tt
  asked_early c n (e ∷ es) asked kept =
      let s = one_early c n e.op asked.0.0 e.reply (replies es) asked.0.1 kept in
      (entry_by c e asked.0.0 (marks_early classes p (suc n) (answered c e.reply) (replies es)) asked.0.1 s, asked_early (answered c e.reply) (suc n) es asked.1 s.2)

  noted_or : (e : Ending) (c : Call Ending) (rs : List Reply) (marks : List Mark) → NotesSo classes p e c rs marks → AreNoted classes p c rs marks ⊎ AreMostlyNoted classes p c rs marks
  noted_or ending.NoMemory c rs marks h = inr h
  noted_or _ c rs marks h = inl h

  -- the entries of a process whose marks are kept
  pub entries_kept : (e : Ending) (c : Call Ending) (es : List Entry) (marks : List Mark) → NotesSo classes p e c (replies es) marks → Each IsKept marks → AreAsked c es → AreAskedOrEnd (IsKeptNext classes) c es
  entries_kept e c es marks notes kept asked = by (noted_or e c (replies es) marks notes)
    where
      by : AreNoted classes p c (replies es) marks ⊎ AreMostlyNoted classes p c (replies es) marks → AreAskedOrEnd (IsKeptNext classes) c es
      by (inl all) = asked_kept c 0 es asked (subst (Each IsKept) all kept)
      by (inr most) = asked_early c 0 es asked (each_front IsKept (marks_early classes p 0 c (replies es)) most.0 (subst (Each IsKept) most.1 kept))
