-- A read of a key whose row is held tells what the view has there, whatever the others do meanwhile.
use Rattle.std.proofs.Common.{◌≡◌, ◌≢◌, ℕ, zero, suc, Bool, true, false, List, [], ◌∷◌, ◌++◌, Option, Some, None, refl, sym, ap, subst, ◌∙◌, append-nil}
use Rattle.std.specs.FinMap.{get}
use Rattle.obj_kinds.specs.declared.name.ClassName.{ClassName}
use Rattle.obj_kinds.specs.declared.node.Node.{Node}
use Rattle.obj_kinds.specs.declared.value.Value.{Value}
use Rattle.obj_kinds.specs.declared.op.Op.{Op}
use Rattle.obj_kinds.specs.declared.op.Op.TheVariants.{Get, Order}
use Rattle.obj_kinds.specs.declared.cause.Cause.{Cause}
use Rattle.schema_kinds.specs.declared.key.Key.{Key}
use Rattle.schema_kinds.specs.declared.record.Record.{Record}
use Rattle.schema_kinds.specs.Worlds.{World}
use Rattle.record_layout.specs.Rows.{data_node, below}
use Rattle.storage_map.specs.Worlds.{owner, image, IsKeyOf}
use Rattle.store_core.specs.Machine.{State, is_live, reply}
use Rattle.store_calls.specs.Calls.{Call, Give, Ask, Tell, Cut, Tag, Inside, Tried, Got, Lost}
use Rattle.object_calls.specs.Asking.{timed_from}
use Rattle.object_calls.specs.Reading.{value_found, on_row, read}
use Rattle.object_runs.specs.ObjectMachine.{view}
use Rattle.object_runs.specs.Runs.{Both}
use Rattle.object_runs.specs.Invariant.{HoldsRow, shown}
use Rattle.object_runs.proofs.StartLaws.{image_of_key}
use Rattle.read_laws.specs.Undisturbed.{undisturbed}
use Rattle.read_laws.specs.Shown.{ShowsAt}
use Rattle.run_rules.specs.Steps.{MayCome, IsFit, next, Event, step_by, after_all, AreFit}
use Rattle.run_rules.specs.Good.{AreOthers, Meets}
use Rattle.call_rules.specs.Settings.{Setting}
use Rattle.call_rules.specs.Schemas.{IsStorableSchema}
use Rattle.call_rules.proofs.Rules.{Fits, In, IsOut, IsFact, in_all, fact_all, in_next, Post, Does, meets_post, holds_fact}
use Rattle.call_rules.proofs.Seen.{reads, Sees, sees_fact}
use Rattle.call_rules.proofs.Looks.{LooksBelow, OnlyLooks, only_row}
use Rattle.call_rules.proofs.Alike.{replies_alike, read_tells}

pub row_itself : (key : Key) → data_node key ≡ below (data_node key) []
row_itself key = λ i. record { global = (data_node key).global; subs = sym (append-nil (data_node key).subs) i }

module _ (t : Setting) where
  -- what stays true of a process while it looks at and below a row; it counts its operations
  pub record IsReader (key : Key) (tag : Tag) (F : ℕ → Both → Type 0) (o : Option Record) : Type 0 where
    pub others : (j : ℕ) (b : Both) (e : Event) → e.pid.0 ≢ t.p.0 → IsFit t.classes t.Facts b e.pid e.op e.tag → F j b → F j (step_by b e)
    pub may : (j : ℕ) (b : Both) (op : Op) → LooksBelow key op → F j b → MayCome t.classes t.Facts b.store b.objects t.p op tag
    pub own : (j : ℕ) (b : Both) (op : Op) → LooksBelow key op → is_live b.store t.p ≡ true → F j b → F (suc j) (next b t.p op tag)
    pub shows : (j : ℕ) (b : Both) (n : Node) → owner t.classes n ≡ Some key → F j b → get b.store.globals n ≡ shown t.classes key n o

  module _ (key : Key) (real : IsKeyOf t.classes key) (tag : Tag) (F : ℕ → Both → Type 0) (o : Option Record) (reader : IsReader key tag F o)
      (s : State) (base : (n : Node) → owner t.classes n ≡ Some key → get s.globals n ≡ shown t.classes key n o) where
    others_all : (j : ℕ) (b : Both) (es : List Event) → AreOthers t.p es → AreFit t.classes t.Facts b es → F j b → F j (after_all b es)
    others_all j b [] others fit h = h
    others_all j b (e ∷ es) others fit h = others_all j (step_by b e) es others.1 fit.1 (reader.others j b e others.0 fit.0 h)

    same_reply : (j : ℕ) (b : Both) (op : Op) → LooksBelow key op → F j b → reply b.store t.p op ≡ reply s t.p op
    same_reply j b op looks h = replies_alike t.classes key b.store s t.p op real (λ n is. reader.shows j b n is h ∙ sym (base n is)) looks

    -- the replies are those of one store
    pub fits_timed : {A : Type 0} (c : Call A) → OnlyLooks key tag c → (j : ℕ) (b : Both) → F j b
        → Fits t (timed_from j c) (λ x b'. (undisturbed (reply s t.p) c ≡ Some x.0) × F x.1 b') b
    fits_timed (Give a) only j b h = (refl, h)
    fits_timed Cut only j b h = tt
    fits_timed (Tell x c) only j b h = absurd only
    fits_timed {A} (Ask op g k) only j b h = λ es others fit live.
        let b' = after_all b es in
        let h' = others_all j b es others fit h in
        let same : reply b'.store t.p op ≡ reply s t.p op = same_reply j b' op only.0 h' in (
          subst (λ g. MayCome t.classes t.Facts b'.store b'.objects t.p op g) (sym only.1) (reader.may j b' op only.0 h'),
          subst (λ g. Fits t (timed_from (suc j) (k (reply b'.store t.p op))) (λ (x : A × ℕ) b'. (undisturbed (reply s t.p) (k (reply s t.p op)) ≡ Some x.0) × F x.1 b') (next b' t.p op g)) (sym only.1)
              (subst (λ r. Fits t (timed_from (suc j) (k (reply b'.store t.p op))) (λ (x : A × ℕ) b'. (undisturbed (reply s t.p) (k r) ≡ Some x.0) × F x.1 b') (next b' t.p op tag)) same
              (fits_timed (k (reply b'.store t.p op)) (only.2 (reply b'.store t.p op)) (suc j) (next b' t.p op tag) (reader.own j b' op only.0 live h'))),
        )

    pub fits_looks : {A : Type 0} (c : Call A) → OnlyLooks key tag c → (j : ℕ) (b : Both) → F j b
        → Fits t c (λ x b'. (undisturbed (reply s t.p) c ≡ Some x) × ((i : ℕ) × F i b')) b
    fits_looks (Give a) only j b h = (refl, (j, h))
    fits_looks Cut only j b h = tt
    fits_looks (Tell x c) only j b h = absurd only
    fits_looks {A} (Ask op g k) only j b h = λ es others fit live.
        let b' = after_all b es in
        let h' = others_all j b es others fit h in
        let same : reply b'.store t.p op ≡ reply s t.p op = same_reply j b' op only.0 h' in (
          subst (λ g. MayCome t.classes t.Facts b'.store b'.objects t.p op g) (sym only.1) (reader.may j b' op only.0 h'),
          subst (λ g. Fits t (k (reply b'.store t.p op)) (λ (x : A) b'. (undisturbed (reply s t.p) (k (reply s t.p op)) ≡ Some x) × ((i : ℕ) × F i b')) (next b' t.p op g)) (sym only.1)
              (subst (λ r. Fits t (k (reply b'.store t.p op)) (λ (x : A) b'. (undisturbed (reply s t.p) (k r) ≡ Some x) × ((i : ℕ) × F i b')) (next b' t.p op tag)) same
              (fits_looks (k (reply b'.store t.p op)) (only.2 (reply b'.store t.p op)) (suc j) (next b' t.p op tag) (reader.own j b' op only.0 live h'))),
        )

  pub only_read : (key : Key) (tag : Tag) (most : ℕ) (refuses : ClassName → Option Cause) → OnlyLooks key tag (read t.classes key tag most refuses)
  unfolding read
  only_read key tag most refuses = (([], row_itself key), refl, λ r. only_row key tag t.classes most refuses (value_found r))

  -- ---- within a save or delete that has written nothing yet

  module _ (key : Key) (o : Option Record) (R : Both → Type 0) (f : IsFact t R) where
    abbrev pub Within : ℕ → Both → Type 0
    Within j b = In t b [] × Sees t key o b × R b

    looking_may : (b : Both) (op : Op) → LooksBelow key op → (i : In t b []) → MayCome t.classes t.Facts b.store b.objects t.p op Inside
    looking_may b (Get n) looks i = ((i.now, i.is), tt, tt)
    looking_may b (Order n s) looks i = ((i.now, i.is), tt, tt)
    looking_may b op looks i = absurd looks

    looking_in : (b : Both) (op : Op) → LooksBelow key op → is_live b.store t.p ≡ true → In t b [] → In t (next b t.p op Inside) []
    looking_in b (Get n) looks live i = in_next t b [] [] (Get n) live tt tt (λ m x. refl) i
    looking_in b (Order n s) looks live i = in_next t b [] [] (Order n s) live tt tt (λ m x. refl) i
    looking_in b op looks live i = absurd looks

    within_reader : IsReader key Inside Within o
    within_reader = record {
      others = λ j b e ne fit h. (in_all t b (e ∷ []) [] (ne, tt) (fit, tt) h.0, (sees_fact t key o).others b e ne h.0.whole fit h.1, f.others b e ne h.0.whole fit h.2);
      may = λ j b op looks h. looking_may b op looks h.0;
      own = λ j b op looks live h. (
        looking_in b op looks live h.0,
        (sees_fact t key o).own b op h.0.whole live (looking_may b op looks h.0) h.1,
        f.own b op h.0.whole live (looking_may b op looks h.0) h.2,
      );
      shows = λ j b n is h. reads t b [] n key is h.0 h.1.0 ∙ ap (shown t.classes key n) h.1.1;
    }

  pub does_read : IsStorableSchema t.classes → (key : Key) → IsKeyOf t.classes key → (most : ℕ) (refuses : ClassName → Option Cause)
      → Does t [] (λ b. HoldsRow b.store.holds t.p key) (read t.classes key Inside most refuses) (λ o b. Sees t key o b) []
  does_read schema key real most refuses R f b i h r =
      let w = view b.objects t.p.0 in
      let o = get w key in
      let base : (n : Node) → owner t.classes n ≡ Some key → get b.store.globals n ≡ shown t.classes key n o = λ n is. reads t b [] n key is i h in
      let shows : ShowsAt t.classes b.store.globals w key = λ n is. base n is ∙ sym (image_of_key t.classes w n key is) in
      meets_post t (read t.classes key Inside most refuses) (λ x b'. (undisturbed (reply b.store t.p) (read t.classes key Inside most refuses) ≡ Some x) × ((j : ℕ) × Within key o R f j b')) (Post t (λ o b. Sees t key o b) [] R) b
      (λ x b' m. by x b' m.0 m.1.1 shows)
      (fits_looks key real Inside (Within key o R f) o (within_reader key o R f) b.store base (read t.classes key Inside most refuses) (only_read key Inside most refuses) 0 b (i, (h, refl), r))
    where
      by : (x : Tried (Option Record)) (b' : Both) → undisturbed (reply b.store t.p) (read t.classes key Inside most refuses) ≡ Some x
          → In t b' [] × Sees t key (get (view b.objects t.p.0) key) b' × R b' → ShowsAt t.classes b.store.globals (view b.objects t.p.0) key → Post t (λ o b. Sees t key o b) [] R x b'
      by (Lost x) b' e m shows = ([], m.0)
      by (Got q) b' e m shows =
          let same : q ≡ get (view b.objects t.p.0) key = read_tells t.classes key Inside most refuses b.store t.p (view b.objects t.p.0) q schema real (t.sound b t.p i.whole) shows e in
          (m.0, subst (λ o. Sees t key o b') (sym same) m.1, m.2)
