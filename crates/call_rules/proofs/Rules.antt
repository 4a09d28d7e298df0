-- Rules for the calls within a save or delete.
use Rattle.std.proofs.Common.{◌≡◌, ◌≢◌, ℕ, zero, suc, Bool, true, false, cond, ◌⊎◌, inl, inr, List, [], ◌∷◌, ◌++◌, Option, Some, None, refl, sym, ap, ◌∙◌, subst}
use Rattle.std.specs.Ordering.{eq_by_cmp}
use Rattle.std.specs.FinMap.{get}
use Rattle.obj_kinds.specs.declared.node.Node.{Node}
use Rattle.obj_kinds.specs.declared.value.Value.{Value}
use Rattle.obj_kinds.specs.declared.op.Pid.{Pid}
use Rattle.obj_kinds.specs.declared.op.Op.{Op}
use Rattle.obj_kinds.specs.declared.op.Op.TheVariants.{Get, Set, Kill, Lock, Begin, Commit, RollbackOne, RollbackAll, End}
use Rattle.obj_kinds.specs.declared.op.Mode.TheVariants.{Exclusive}
use Rattle.obj_kinds.specs.declared.op.Owner.TheVariants.{Object as ForObjects}
use Rattle.obj_kinds.specs.declared.op.Keep.TheVariants.{ToEnd}
use Rattle.obj_kinds.specs.declared.op.Reply.{Reply}
use Rattle.obj_kinds.specs.declared.op.Reply.TheVariants.{Granted, Held}
use Rattle.obj_kinds.specs.declared.cause.Cause.{Cause}
use Rattle.obj_kinds.specs.declared.cause.Cause.TheVariants.{Busy, NotFound}
use Rattle.obj_kinds.specs.Order.{node_cmp}
use Rattle.schema_kinds.specs.declared.key.Key.{Key}
use Rattle.store_core.specs.Machine.{State, is_live, is_open, levels_at, after, reply}
use Rattle.store_core.specs.Guard.{HoldsToEnd}
use Rattle.call_rules.specs.Settings.{Setting}
use Rattle.object_calls.specs.Asking.{does, lock_to_end}
use Rattle.object_runs.specs.Causes.{Each}
use Rattle.object_runs.specs.Invariant.{written, wrote}
use Rattle.object_runs.specs.ObjectMachine.{Desk, Within, desk_after, desk_at, within_after}
use Rattle.object_runs.specs.Runs.{Both}
use Rattle.run_rules.proofs.Granted.{holds_after}
use Rattle.run_rules.proofs.Held.{open_stays}
use Rattle.run_rules.proofs.Whole.{desk_other, desk_own, saving_open}
use Rattle.run_rules.specs.Good.{AreOthers, Meets}
use Rattle.run_rules.specs.Steps.{AreFit, Event, IsFit, IsWithinLevel, MayCome, OwnsWritten, after_all, and_asked, next, step_by}
use Rattle.schema_kinds.specs.Worlds.{Change}
use Rattle.store_calls.specs.Calls.{Ask, Call, Cut, Give, Got, Inside, Lost, Tell, Tried, all, bind, each, on_lock, then, then_on, try, try_from}

append_assoc : {A : Type 0} (a b c : List A) → (a ++ b) ++ c ≡ a ++ (b ++ c)
append_assoc [] b c = refl
append_assoc (x ∷ a) b c = ap (λ y. x ∷ y) (append_assoc a b c)

-- the writes of several items, those of the later ones first
abbrev pub all_writes : {A : Type 0} → (A → List Op) → List A → List Op
all_writes d [] = []
all_writes d (x ∷ xs) = all_writes d xs ++ d x

pub written-append : (ops es : List Op) (n : Node) (x : Option Value) → written (ops ++ es) n x ≡ written ops n (written es n x)
written-append [] es n x = refl
written-append (op ∷ ops) es n x = ap (wrote op n) (written-append ops es n x)

module _ (t : Setting) where
  abbrev pub Fits : {A : Type 0} → Call A → (A → Both → Type 0) → Both → Type 0
  Fits c post b = Meets t.classes t.Facts t.truth t.p c post b

  -- the process is within a save, and has written as these operations do, the newest first
  pub record In (b : Both) (es : List Op) : Type 0 where
    pub now : Within
    pub whole : t.Inv b
    pub is : (desk_at b.objects t.p.0).within ≡ Some now
    pub same : (n : Node) (x : Option Value) → written now.asked n x ≡ written es n x

  abbrev pub IsOut : Both → Type 0
  IsOut b = (es : List Op) × In b es

  -- what holds from then on to the end of the save, whatever the others do
  pub record IsFact (R : Both → Type 0) : Type 0 where
    pub others : (b : Both) (e : Event) → e.pid.0 ≢ t.p.0 → t.Inv b → IsFit t.classes t.Facts b e.pid e.op e.tag → R b → R (step_by b e)
    pub own : (b : Both) (op : Op) → t.Inv b → is_live b.store t.p ≡ true → MayCome t.classes t.Facts b.store b.objects t.p op Inside → R b → R (next b t.p op Inside)

  pub both_facts : (R S : Both → Type 0) → IsFact R → IsFact S → IsFact (λ b. R b × S b)
  both_facts R S f g = record {
    others = λ b e ne w fit h. (f.others b e ne w fit h.0, g.others b e ne w fit h.1);
    own = λ b op w live may h. (f.own b op w live may h.0, g.own b op w live may h.1);
  }

  pub true_fact : (P : Type 0) → IsFact (λ b. P)
  true_fact P = record { others = λ b e ne w fit h. h; own = λ b op w live may h. h }

  pub each_fact : {A : Type 0} (F : A → Both → Type 0) → ((x : A) → IsFact (F x)) → (xs : List A) → IsFact (λ b. Each (λ x. F x b) xs)
  each_fact F f [] = true_fact (Unit {0})
  each_fact F f (x ∷ xs) = both_facts (F x) (λ b. Each (λ y. F y b) xs) (f x) (each_fact F f xs)

  -- ---- what the others do

  pub inv_all : (b : Both) (es : List Event) → AreFit t.classes t.Facts b es → t.Inv b → t.Inv (after_all b es)
  inv_all b [] fit w = w
  inv_all b (e ∷ es) fit w = inv_all (step_by b e) es fit.1 (t.keeps b e.pid e.op e.tag w fit.0)

  pub in_all : (b : Both) (es : List Event) (d : List Op) → AreOthers t.p es → AreFit t.classes t.Facts b es → In b d → In (after_all b es) d
  in_all b [] d others fit i = i
  in_all b (e ∷ es) d others fit i = in_all (step_by b e) es d others.1 fit.1 (record {
    now = i.now;
    whole = t.keeps b e.pid e.op e.tag i.whole fit.0;
    is = ap (λ (x : Desk). x.within) (desk_other b.objects e.pid.0 e.op (reply b.store e.pid e.op) e.tag t.p.0 (λ is. others.0 (sym is))) ∙ i.is;
    same = i.same;
  })

  pub fact_all : (R : Both → Type 0) → IsFact R → (b : Both) (es : List Event) → AreOthers t.p es → AreFit t.classes t.Facts b es → t.Inv b → R b → R (after_all b es)
  fact_all R f b [] others fit w r = r
  fact_all R f b (e ∷ es) others fit w r = fact_all R f (step_by b e) es others.1 fit.1 (t.keeps b e.pid e.op e.tag w fit.0) (f.others b e others.0 w fit.0 r)

  -- ---- one operation

  pub within_saving : (op : Op) (r : Reply) (cs : List Change) (ops : Within) → IsWithinLevel op → within_after op r Inside cs (Some ops) ≡ Some (and_asked op ops)
  within_saving Begin r cs ops i = absurd i
  within_saving Commit r cs ops i = absurd i
  within_saving RollbackOne r cs ops i = absurd i
  within_saving RollbackAll r cs ops i = absurd i
  within_saving End r cs ops i = absurd i
  within_saving _ r cs ops i = refl

  pub in_next : (b : Both) (es d : List Op) (op : Op) → is_live b.store t.p ≡ true → IsWithinLevel op → OwnsWritten t.classes b.store.holds t.p op → ((n : Node) (x : Option Value) → wrote op n x ≡ written d n x) → In b es → In (next b t.p op Inside) (d ++ es)
  unfolding desk_after
  in_next b es d op live within owns is i =
      let may : MayCome t.classes t.Facts b.store b.objects t.p op Inside = ((i.now, i.is), within, owns) in
      record {
        now = and_asked op i.now;
        whole = t.keeps b t.p op Inside i.whole (live, inr may);
        is =
            ap (λ (x : Desk). x.within) (desk_own b.objects t.p.0 op (reply b.store t.p op) Inside)
            ∙ ap (within_after op (reply b.store t.p op) Inside (desk_at b.objects t.p.0).lists) i.is
            ∙ within_saving op (reply b.store t.p op) (desk_at b.objects t.p.0).lists i.now within;
        same = λ n x. ap (wrote op n) (i.same n x) ∙ is n (written es n x) ∙ sym (written-append d es n x);
      }

  -- ---- rules

  -- a call that begins where P holds and es were written: where it doesn't fail it has written d besides, and F holds of its answer; what holds to the
  -- end of the save stays
  abbrev pub Post : {A : Type 0} → (A → Both → Type 0) → List Op → (Both → Type 0) → Tried A → Both → Type 0
  Post F es R (Got y) b = In b es × F y b × R b
  Post F es R (Lost x) b = IsOut b

  abbrev pub Does : {A : Type 0} → List Op → (Both → Type 0) → Call (Tried A) → (A → Both → Type 0) → List Op → Type 1
  Does es P c F d = (R : Both → Type 0) → IsFact R → (b : Both) → In b es → P b → R b → Fits c (Post F (d ++ es) R) b

  pub meets_bind : {A B : Type 0} (c : Call A) (f : A → Call B) (mid : A → Both → Type 0) (post : B → Both → Type 0) (b : Both)
      → ((a : A) (b' : Both) → mid a b' → Fits (f a) post b') → Fits c mid b → Fits (bind c f) post b
  meets_bind (Give a) f mid post b h m = h a b m
  meets_bind Cut f mid post b h m = tt
  meets_bind (Tell x c) f mid post b h m = (m.0, meets_bind c f mid post b h m.1)
  meets_bind (Ask op tag k) f mid post b h m = λ es others fit live.
      let r = m es others fit live in
      (r.0, meets_bind (k (reply (after_all b es).store t.p op)) f mid post (next (after_all b es) t.p op tag) h r.1)

  pub does_give : {A : Type 0} (es : List Op) (P : Both → Type 0) (y : A) (F : A → Both → Type 0) → ((b : Both) → P b → F y b) → Does es P (Give (Got y)) F []
  does_give es P y F h R f b i pre r = (i, h b pre, r)

  pub does_lose : {A : Type 0} (es : List Op) (P : Both → Type 0) (x : Cause) (F : A → Both → Type 0) (d : List Op) → Does es P (Give (Lost x)) F d
  does_lose es P x F d R f b i pre r = (es, i)

  -- an operation, whose reply decides
  pub does_ask : {A : Type 0} (es : List Op) (P : Both → Type 0) (op : Op) (k : Reply → Tried A) (F : A → Both → Type 0) (d : List Op) → IsFact P → IsWithinLevel op
      → ((n : Node) (x : Option Value) → wrote op n x ≡ written d n x)
      → ((b : Both) → P b → OwnsWritten t.classes b.store.holds t.p op)
      → ((b : Both) (y : A) → In b es → P b → is_live b.store t.p ≡ true → k (reply b.store t.p op) ≡ Got y → F y (next b t.p op Inside))
      → Does es P (Ask op Inside (λ r. Give (k r))) F d
  does_ask {A} es P op k F d fact within is owns gives R f b i pre r evs others fit live =
      let b' = after_all b evs in
      let i' = in_all b evs es others fit i in
      let pre' = fact_all P fact b evs others fit i.whole pre in
      let r' = fact_all R f b evs others fit i.whole r in
      let may : MayCome t.classes t.Facts b'.store b'.objects t.p op Inside = ((i'.now, i'.is), within, owns b' pre') in
      (may, by b' (next b' t.p op Inside) (k (reply b'.store t.p op)) refl (in_next b' es d op live within (owns b' pre') is i') (λ y e. gives b' y i' pre' live e) (f.own b' op i'.whole live may r'))
    where
      by : (b b' : Both) (x : Tried A) → k (reply b.store t.p op) ≡ x → In b' (d ++ es) → ((y : A) → k (reply b.store t.p op) ≡ Got y → F y b') → R b' → Post F (d ++ es) R x b'
      by b b' (Got y) e j h q = (j, h y e, q)
      by b b' (Lost x) e j h q = (d ++ es, j)

  -- one after the other, where the first writes nothing
  pub does_then : {A B : Type 0} (es : List Op) (P : Both → Type 0) (c : Call (Tried A)) (f : A → Call (Tried B)) (F : A → Both → Type 0) (G : B → Both → Type 0) (d : List Op)
      → Does es P c F [] → ((y : A) → Does es (F y) (f y) G d) → Does es P (then c f) G d
  does_then {A} es P c f F G d first second R fact b i pre r = meets_bind c (then_on f) (Post F es R) (Post G (d ++ es) R) b (λ a b' m. by a b' m) (first R fact b i pre r)
    where
      by : (a : Tried A) (b' : Both) → Post F es R a b' → Fits (then_on f a) (Post G (d ++ es) R) b'
      by (Got y) b' m = second y R fact b' m.0 m.1 m.2
      by (Lost x) b' m = m

  -- one after the other, where only failing counts
  pub does_both : {B : Type 0} (es : List Op) (P : Both → Type 0) (c : Call (Tried (Unit {0}))) (f : Unit {0} → Call (Tried B)) (Q : Both → Type 0) (G : B → Both → Type 0) (d e : List Op)
      → Does es P c (λ u. Q) d → Does (d ++ es) Q (f tt) G e → Does es P (then c f) G (e ++ d)
  does_both es P c f Q G d e first second R fact b i pre r =
      subst (λ x. Fits (then c f) (Post G x R) b) (sym (append_assoc e d es))
      (meets_bind c (then_on f) (Post (λ u. Q) (d ++ es) R) (Post G (e ++ (d ++ es)) R) b (λ a b' m. by a b' m) (first R fact b i pre r))
    where
      by : (a : Tried (Unit {0})) (b' : Both) → Post (λ u. Q) (d ++ es) R a b' → Fits (then_on f a) (Post G (e ++ (d ++ es)) R) b'
      by (Got tt) b' m = second R fact b' m.0 m.1 m.2
      by (Lost x) b' m = m

  abbrev pub Pairs : {A B : Type 0} → (A → B → Both → Type 0) → Both → List A → List B → Type 0
  Pairs Q b [] [] = Unit {0}
  Pairs Q b (x ∷ xs) (y ∷ ys) = Q x y b × Pairs Q b xs ys
  Pairs Q b _ _ = ⊥

  pub meets_post : {B : Type 0} (c : Call B) (post post' : B → Both → Type 0) (b : Both) → ((a : B) (b' : Both) → post a b' → post' a b') → Fits c post b → Fits c post' b
  meets_post (Give a) post post' b h m = h a b m
  meets_post Cut post post' b h m = tt
  meets_post (Tell x c) post post' b h m = (m.0, meets_post c post post' b h m.1)
  meets_post (Ask op tag k) post post' b h m = λ es others fit live.
      let r = m es others fit live in
      (r.0, meets_post (k (reply (after_all b es).store t.p op)) post post' (next (after_all b es) t.p op tag) h r.1)

  pub does_post : {A : Type 0} (es : List Op) (P : Both → Type 0) (c : Call (Tried A)) (F G : A → Both → Type 0) (d : List Op) → ((y : A) (b : Both) → F y b → G y b) → Does es P c F d → Does es P c G d
  does_post {A} es P c F G d h does R f b i pre r = meets_post c (Post F (d ++ es) R) (Post G (d ++ es) R) b (λ a b' m. by a b' m) (does R f b i pre r)
    where
      by : (a : Tried A) (b' : Both) → Post F (d ++ es) R a b' → Post G (d ++ es) R a b'
      by (Got y) b' m = (m.0, h y b' m.1, m.2)
      by (Lost x) b' m = m

  -- with a fact that holds to the end
  pub does_with : {A : Type 0} (es : List Op) (P S : Both → Type 0) (c : Call (Tried A)) (F : A → Both → Type 0) (d : List Op) → IsFact S → Does es P c F d → Does es (λ b. P b × S b) c (λ y b. F y b × S b) d
  does_with {A} es P S c F d fact does R f b i pre r =
      meets_post c (Post F (d ++ es) (λ b. S b × R b)) (Post (λ y b. F y b × S b) (d ++ es) R) b (λ a b' m. by a b' m) (does (λ b. S b × R b) (both_facts S R fact f) b i pre.0 (pre.1, r))
    where
      by : (a : Tried A) (b' : Both) → Post F (d ++ es) (λ b. S b × R b) a b' → Post (λ y b. F y b × S b) (d ++ es) R a b'
      by (Got y) b' m = (m.0, (m.1, m.2.0), m.2.1)
      by (Lost x) b' m = m

  pub does_weaken : {A : Type 0} (es : List Op) (P Q : Both → Type 0) (c : Call (Tried A)) (F : A → Both → Type 0) (d : List Op) → ((b : Both) → Q b → P b) → Does es P c F d → Does es Q c F d
  does_weaken es P Q c F d h does R f b i pre r = does R f b i (h b pre) r

  -- each item's fact, and the writes of all, those of the later ones first
  pub does_all : {A : Type 0} (f : A → Call (Tried (Unit {0}))) (P Q : A → Both → Type 0) (d : A → List Op) → ((x : A) → IsFact (P x)) → ((x : A) → IsFact (Q x))
      → ((x : A) (es : List Op) → Does es (P x) (f x) (λ u. Q x) (d x)) → (xs : List A) (es : List Op) → Does es (λ b. Each (λ x. P x b) xs) (all f xs) (λ u b. Each (λ x. Q x b) xs) (all_writes d xs)
  does_all f P Q d p_fact q_fact one [] es = does_give es (λ b. Unit {0}) (tt {0}) (λ u b. Unit {0}) (λ b h. h)
  does_all f P Q d p_fact q_fact one (x ∷ xs) es =
      let Ps : Both → Type 0 = λ b. Each (λ y. P y b) xs in
      let Qs : Both → Type 0 = λ b. Each (λ y. Q y b) xs in
      let ps_fact : IsFact Ps = each_fact P p_fact xs in
      let first : Does es (λ b. P x b × Ps b) (f x) (λ u b. Q x b × Ps b) (d x) = does_with es (P x) Ps (f x) (λ u. Q x) (d x) ps_fact (one x es) in
      let rest : Does (d x ++ es) Ps (all f xs) (λ u. Qs) (all_writes d xs) = does_all f P Q d p_fact q_fact one xs (d x ++ es) in
      let later : Does (d x ++ es) (λ b. Ps b × Q x b) (all f xs) (λ u b. Qs b × Q x b) (all_writes d xs) = does_with (d x ++ es) Ps (Q x) (all f xs) (λ u. Qs) (all_writes d xs) (q_fact x) rest in
      does_post es (λ b. P x b × Ps b) (then (f x) (λ u. all f xs)) (λ u b. Qs b × Q x b) (λ u b. Q x b × Qs b) (all_writes d xs ++ d x) (λ u b h. (h.1, h.0))
      (does_both es (λ b. P x b × Ps b) (f x) (λ u. all f xs) (λ b. Q x b × Ps b) (λ u b. Qs b × Q x b) (d x) (all_writes d xs) first
      (does_weaken (d x ++ es) (λ b. Ps b × Q x b) (λ b. Q x b × Ps b) (all f xs) (λ u b. Qs b × Q x b) (all_writes d xs) (λ b h. (h.1, h.0)) later))

  -- one answer for each item, and nothing written
  pub does_each : {A B : Type 0} (f : A → Call (Tried B)) (P : A → Both → Type 0) (Q : A → B → Both → Type 0) (es : List Op) → ((x : A) → IsFact (P x)) → ((x : A) (y : B) → IsFact (Q x y))
      → ((x : A) → Does es (P x) (f x) (Q x) []) → (xs : List A) → Does es (λ b. Each (λ x. P x b) xs) (each f xs) (λ ys b. Pairs Q b xs ys) []
  does_each f P Q es p_fact q_fact one [] = does_give es (λ b. Unit {0}) [] (λ ys b. Pairs Q b [] ys) (λ b h. h)
  does_each {A} {B} f P Q es p_fact q_fact one (x ∷ xs) =
      let Ps : Both → Type 0 = λ b. Each (λ z. P z b) xs in
      let ps_fact : IsFact Ps = each_fact P p_fact xs in
      let first : Does es (λ b. P x b × Ps b) (f x) (λ y b. Q x y b × Ps b) [] = does_with es (P x) Ps (f x) (Q x) [] ps_fact (one x) in
      let rest : Does es Ps (each f xs) (λ ys b. Pairs Q b xs ys) [] = does_each f P Q es p_fact q_fact one xs in
      does_then es (λ b. P x b × Ps b) (f x) (λ y. then (each f xs) (λ ys. Give (Got (y ∷ ys)))) (λ y b. Q x y b × Ps b) (λ ys b. Pairs Q b (x ∷ xs) ys) [] first
      (λ y. does_then es (λ b. Q x y b × Ps b) (each f xs) (λ ys. Give (Got (y ∷ ys))) (λ ys b. Pairs Q b xs ys × Q x y b) (λ ys b. Pairs Q b (x ∷ xs) ys) []
      (does_weaken es (λ b. Ps b × Q x y b) (λ b. Q x y b × Ps b) (each f xs) (λ ys b. Pairs Q b xs ys × Q x y b) [] (λ b h. (h.1, h.0)) (does_with es Ps (Q x y) (each f xs) (λ ys b. Pairs Q b xs ys) [] (q_fact x y) rest))
      (λ ys. does_give es (λ b. Pairs Q b xs ys × Q x y b) (y ∷ ys) (λ zs b. Pairs Q b (x ∷ xs) zs) (λ b h. (h.1, h.0))))

  -- ---- locks

  abbrev pub HoldsNode : Node → Both → Type 0
  HoldsNode n b = HoldsToEnd b.store.holds t.p n

  saving_next : (b : Both) (op : Op) (may : MayCome t.classes t.Facts b.store b.objects t.p op Inside) → (desk_at (next b t.p op Inside).objects t.p.0).within ≡ Some (and_asked op may.0.0)
  unfolding desk_after
  saving_next b op may =
      ap (λ (x : Desk). x.within) (desk_own b.objects t.p.0 op (reply b.store t.p op) Inside)
      ∙ ap (within_after op (reply b.store t.p op) Inside (desk_at b.objects t.p.0).lists) may.0.1
      ∙ within_saving op (reply b.store t.p op) (desk_at b.objects t.p.0).lists may.0.0 may.1

  -- what is held to the end stays until the save's end
  pub holds_fact : (n : Node) → IsFact (HoldsNode n)
  holds_fact n = record {
    others = λ b e ne w fit h. (h.0, Rattle.store_core.proofs.GuardLaws.end_stays b.store e.pid e.op _ h.1 (λ is. absurd (ne (sym is))));
    own = λ b op w live may h.
        let w' = t.keeps b t.p op Inside w (live, inr may) in
        (h.0, Rattle.store_core.proofs.GuardLaws.end_stays b.store t.p op _ h.1 (λ is. open_stays b.store t.p op (still_open b op w live may w')));
  }
    where
      still_open : (b : Both) (op : Op) → t.Inv b → is_live b.store t.p ≡ true → MayCome t.classes t.Facts b.store b.objects t.p op Inside → t.Inv (next b t.p op Inside) → is_open (levels_at (next b t.p op Inside).store t.p.0) ≡ true
      still_open b op w live may w' = saving_open (levels_at (next b t.p op Inside).store t.p.0) (desk_at (next b t.p op Inside).objects t.p.0).lists (desk_at (next b t.p op Inside).objects t.p.0).within (and_asked op may.0.0)
          (saving_next b op may) ((t.has (next b t.p op Inside) w').aligned t.p)

  on_one : (P : Both → Type 0) (n : Node) (r : Reply) (again : Cause → Call (Tried (Unit {0}))) (es : List Op) (R : Both → Type 0) (b : Both) → In b es → R b → (r ≡ Granted → HoldsNode n b) → ((x : Cause) → Fits (again x) (Post (λ u. HoldsNode n) es R) b)
      → Fits (on_lock r again) (Post (λ u. HoldsNode n) es R) b
  on_one P n Granted again es R b i q got more = (i, got refl, q)
  on_one P n (Held h m d) again es R b i q got more = more (Busy h m)
  on_one P n _ again es R b i q got more = more NotFound

  lock_from : (tries : ℕ) (last : Cause) (n : Node) (es : List Op) → Does es (λ b. Unit {0}) (try_from last Inside tries (lock_to_end Exclusive n)) (λ u. HoldsNode n) []
  lock_from zero last n es R f b i pre r = (es, i)
  lock_from (suc j) last n es R f b i pre r = λ evs others fit live.
      let op = lock_to_end Exclusive n in
      let b' = after_all b evs in
      let i' = in_all b evs es others fit i in
      let r' = fact_all R f b evs others fit i.whole r in
      let may : MayCome t.classes t.Facts b'.store b'.objects t.p op Inside = ((i'.now, i'.is), tt, tt) in
      let i2 = in_next b' es [] op live tt tt (λ m x. refl) i' in
      let r2 = f.own b' op i'.whole live may r' in
      (may, on_one (λ b. Unit {0}) n (reply b'.store t.p op) (λ x. try_from x Inside j op) es R (next b' t.p op Inside) i2 r2 (λ e. holds_after b'.store t.p n e) (λ x. lock_from j x n es R f (next b' t.p op Inside) i2 tt r2))

  pub does_lock : (tries : ℕ) (n : Node) (es : List Op) → Does es (λ b. Unit {0}) (try Inside tries (lock_to_end Exclusive n)) (λ u. HoldsNode n) []
  does_lock tries n es = lock_from tries NotFound n es
