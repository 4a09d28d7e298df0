-- Ids are drawn for the new objects: each is a number of its counter that no live object and no earlier object of the save has.
use Rattle.std.proofs.Common.{◌≡◌, ◌≢◌, ◌⊎◌, inl, inr, ℕ, zero, suc, ◌+◌, ◌<◌, ◌^◌, ℤ, pos, Bool, true, false, cond, ◌||◌, nat_lt, List, [], ◌∷◌, ◌++◌, length, take, Option, Some, None, refl, sym, ap, subst, ◌∙◌}
use Rattle.std.specs.List.{list_any}
use Rattle.std.specs.FinMap.{get}
use Rattle.obj_kinds.specs.declared.name.ClassName.{ClassName}
use Rattle.obj_kinds.specs.declared.op.Op.{Op}
use Rattle.obj_kinds.specs.declared.op.Op.TheVariants.{Incr}
use Rattle.obj_kinds.specs.declared.op.Reply.{Reply}
use Rattle.obj_kinds.specs.declared.op.Reply.TheVariants.{Number, NumberLimit}
use Rattle.schema_kinds.specs.declared.key.Key.{Key}
use Rattle.store_core.specs.Machine.{State, is_live as lives, number_or, answer, reply}
use Rattle.store_core.specs.Numbers.{incremented}
use Rattle.store_calls.specs.Calls.{Give, Inside, Got, Lost, then}
use Rattle.object_calls.specs.Extents.{counter_node}
use Rattle.object_calls.specs.Saves.{Drawn, ToSave, Item, change_of, is_key, on_number, draw_one, draw_if, draw, item_with, items_from, items_of}
use Rattle.object_runs.specs.ObjectMachine.{Desk, Own, Within, desk_at, desk_after, apply_all, within_after}
use Rattle.object_runs.specs.Causes.{Each, Has}
use Rattle.object_runs.specs.Headline.{is_extent_of}
use Rattle.object_runs.specs.Runs.{Both}
use Rattle.object_runs.specs.Invariant.{changes, Present}
use Rattle.run_rules.specs.Steps.{next, and_asked}
use Rattle.run_rules.proofs.Whole.{desk_own}
use Rattle.sound_runs.specs.Closing.{entries_within, Draws, IsDrawn, AreDistinct}
use Rattle.sound_runs.specs.Backed.{Knows}
use Rattle.sound_runs.proofs.Counters.{Steps, counter_steps}
use Rattle.sound_runs.proofs.Viewed.{draws_are_fresh}
use Rattle.call_rules.specs.Settings.{Setting}
use Rattle.call_rules.proofs.Rules.{In, IsFact, Does, true_fact, both_facts, each_fact, within_saving, does_give, does_ask, does_then, does_weaken, does_with}
use Rattle.saving_rules.specs.Saving.{IsNumbered, IdsFor, AreIdsFor, key_with, IsFree, FreeBy, AreFree, IsLive, NoneHas, IsNoLater, AreApart}
use Rattle.saving_rules.proofs.Works.{apart_key}
use Rattle.saving_rules.proofs.Facts.{IsSteadySetting, four_facts, drawn_fact, knows_fact}

or_left : (a b : Bool) → (a || b) ≡ false → a ≡ false
or_left false b e = refl
or_left true b e = absurd (cc e)

or_right : (a b : Bool) → (a || b) ≡ false → b ≡ false
or_right false b e = e
or_right true b e = absurd (cc e)

neither : (a b : Bool) → a ≡ false → b ≡ false → (a || b) ≡ false
neither false b e f = f
neither true b e f = absurd (cc e)

abbrev itemed : (Drawn → List Item) → Drawn → ToSave → Option (List ℕ) → Drawn → List Item
itemed rest all o x ds = Rattle.object_calls.specs.Saves.keyed rest all o x ds

module _ (t : Setting) (steady : IsSteadySetting t) (is_live : Key → Bool) where
  -- a new object's key was drawn
  abbrev pub IsBorn : Item → Both → Type 0
  IsBorn i b = i.is_new ≡ true → IsDrawn b.objects t.p.0 i.key

  pub are_high : (all : Drawn) (os : List ToSave) (ds : Drawn) → Each (λ (o : ToSave). nat_lt 0 o.level ≡ true) os → Each (λ (i : Item). nat_lt 0 i.level ≡ true) (items_from all os ds)
  are_high all [] ds h = tt
  are_high all (o ∷ os) ds h = by o.id ds (λ e. are_high all os e h.1)
    where
      by : (x : Option (List ℕ)) (ds : Drawn) → ((e : Drawn) → Each (λ (i : Item). nat_lt 0 i.level ≡ true) (items_from all os e)) → Each (λ (i : Item). nat_lt 0 i.level ≡ true) (itemed (items_from all os) all o x ds)
      by (Some id) ds more = (h.0, more ds)
      by None [] more = tt
      by None (d ∷ ds) more = (h.0, more ds)

module _ (t : Setting) (steady : IsSteadySetting t) (is_live : Key → Bool) (known : List (Key × ClassName)) where
  abbrev IsTakenId : List Key → Key → Bool
  IsTakenId keys key = is_live key || list_any (is_key key) keys

  -- the number's key was drawn, and neither a live object nor an earlier one has it
  abbrev pub IsNew : ℕ → ClassName → List Key → ℕ × List ℕ → Both → Type 0
  IsNew number extent keys d b = (d.0 ≡ number) × IsNumbered d.1 × IsFree is_live known keys (key_with extent d.1) × IsDrawn b.objects t.p.0 (key_with extent d.1)

  abbrev pub DrewBy : ℕ → ClassName → (List Key → Drawn → Both → Type 0) → List Key → Option (List ℕ) → Drawn → Both → Type 0
  DrewBy number extent rest keys (Some id) ds b = rest keys ds b
  DrewBy number extent rest keys None [] b = ⊥
  DrewBy number extent rest keys None (d ∷ ds) b = IsNew number extent keys d b × rest (key_with extent d.1 ∷ keys) ds b

  abbrev pub Drew : List Key → List ToSave → Drawn → Both → Type 0
  Drew keys [] [] b = Unit {0}
  Drew keys [] (d ∷ ds) b = ⊥
  Drew keys (o ∷ os) ds b = DrewBy o.number o.extent (λ ks e c. Drew ks os e c) keys o.id ds b

  new_fact : (number : ℕ) (extent : ClassName) (keys : List Key) (d : ℕ × List ℕ) → IsFact t (IsNew number extent keys d)
  new_fact number extent keys d =
      four_facts t (λ b. d.0 ≡ number) (λ b. IsNumbered d.1) (λ b. IsFree is_live known keys (key_with extent d.1)) (λ b. IsDrawn b.objects t.p.0 (key_with extent d.1))
      (true_fact t (d.0 ≡ number)) (true_fact t (IsNumbered d.1)) (true_fact t (IsFree is_live known keys (key_with extent d.1))) (drawn_fact t steady (key_with extent d.1))

  pub drew_fact : (keys : List Key) (os : List ToSave) (ds : Drawn) → IsFact t (Drew keys os ds)
  drew_fact keys [] [] = true_fact t (Unit {0})
  drew_fact keys [] (d ∷ ds) = true_fact t ⊥
  drew_fact keys (o ∷ os) ds = by o.id ds (λ ks e. drew_fact ks os e)
    where
      by : (x : Option (List ℕ)) (ds : Drawn) → ((ks : List Key) (e : Drawn) → IsFact t (Drew ks os e)) → IsFact t (λ b. DrewBy o.number o.extent (λ ks e c. Drew ks os e c) keys x ds b)
      by (Some id) ds more = more keys ds
      by None [] more = true_fact t ⊥
      by None (d ∷ ds) more = both_facts t (IsNew o.number o.extent keys d) (λ b. Drew (key_with o.extent d.1 ∷ keys) os ds b) (new_fact o.number o.extent keys d) (more (key_with o.extent d.1 ∷ keys) ds)

  -- ---- one draw

  abbrev OneKey : ClassName → List Key → Key → Both → Type 0
  OneKey extent keys key b =
      (key ≡ key_with extent key.id) × IsNumbered key.id × IsFree is_live known keys (key_with extent key.id) × IsDrawn b.objects t.p.0 (key_with extent key.id)

  one_key_fact : (extent : ClassName) (keys : List Key) (key : Key) → IsFact t (OneKey extent keys key)
  one_key_fact extent keys key =
      four_facts t (λ b. key ≡ key_with extent key.id) (λ b. IsNumbered key.id) (λ b. IsFree is_live known keys (key_with extent key.id)) (λ b. IsDrawn b.objects t.p.0 (key_with extent key.id))
      (true_fact t (key ≡ key_with extent key.id)) (true_fact t (IsNumbered key.id)) (true_fact t (IsFree is_live known keys (key_with extent key.id))) (drawn_fact t steady (key_with extent key.id))

  abbrev Numbers : ClassName → List Key → Key → Reply → Type 0
  Numbers extent keys key r = (i : ℕ) × (r ≡ Number (pos (suc i))) × (key ≡ key_with extent (suc i ∷ [])) × (IsTakenId keys (key_with extent (suc i ∷ [])) ≡ false)

  got_number : (extent : ClassName) (keys : List Key) (key : Key) (r : Reply) → on_number is_live keys extent r ≡ Got key → Numbers extent keys key r
  got_number extent keys key (Number (pos (suc i))) e = by (IsTakenId keys (key_with extent (suc i ∷ []))) refl e
    where
      by : (c : Bool) → IsTakenId keys (key_with extent (suc i ∷ [])) ≡ c → cond c (Lost (Rattle.obj_kinds.specs.declared.cause.Cause.TheVariants.IdTaken (suc i ∷ []))) (Got (key_with extent (suc i ∷ []))) ≡ Got key → Numbers extent keys key (Number (pos (suc i)))
      by true f g = absurd (cc g)
      by false f g = (i, refl, (let same : key_with extent (suc i ∷ []) ≡ key = cc g in sym same), f)
  got_number extent keys key NumberLimit e = absurd (cc e)
  got_number extent keys key _ e = absurd (cc e)

  told_number : (s : State) (extent : ClassName) → reply s t.p (Incr (counter_node extent) (pos 1)) ≡ number_or (incremented (get s.globals (counter_node extent)) (pos 1))
  unfolding reply answer
  told_number s extent = refl

  -- a counter's number is within its limit
  in_limit : (b : Both) (extent : ClassName) (i : ℕ) → t.Inv b → is_extent_of t.classes extent ≡ true → reply b.store t.p (Incr (counter_node extent) (pos 1)) ≡ Number (pos (suc i)) → suc i < 10 ^ 18
  in_limit b extent i w real told = by (counter_steps (get b.store.globals (counter_node extent)) at.number at.counts)
    where
      at : Rattle.object_runs.specs.Headline.IsCounted b.store.globals b.objects.world extent
      at = (steady.steady b w).invariant.counted b.objects.world extent real (Present refl)

      number : Number (pos (suc i)) ≡ Number (pos (at.number + 1)) → at.number + 1 ≡ suc i
      number e = cc e

      by : Steps (get b.store.globals (counter_node extent)) at.number → suc i < 10 ^ 18
      by (Steps.Up e small) = subst (λ n. n < 10 ^ 18) (number (sym told ∙ told_number b.store extent ∙ ap number_or e)) small
      by (Steps.Full e) = absurd (cc (sym told ∙ told_number b.store extent ∙ ap number_or e))

  abbrev DrawnAt : Key → Option Within → List Own → Type 0
  DrawnAt key w os = (e : Own) × Has e (entries_within w os) × Draws key e

  -- what was counted up is drawn then
  drawn_now : (b : Both) (es : List Op) (extent : ClassName) (i : ℕ) → In t b es → reply b.store t.p (Incr (counter_node extent) (pos 1)) ≡ Number (pos i) → IsDrawn (next b t.p (Incr (counter_node extent) (pos 1)) Inside).objects t.p.0 (key_with extent (i ∷ []))
  unfolding desk_after
  drawn_now b es extent i h told =
      let op = Incr (counter_node extent) (pos 1) in
      let key = key_with extent (i ∷ []) in
      let newest : Own = record { op = op; reply = reply b.store t.p op; view = apply_all (desk_at b.objects t.p.0).lists b.objects.world } in
      let now : DrawnAt key (Some (and_asked op h.now)) (newest ∷ (desk_at b.objects t.p.0).own) = (newest, inl refl, (refl, (i, told, refl))) in
      subst (λ (x : Desk). DrawnAt key x.within x.own) (sym (desk_own b.objects t.p.0 op (reply b.store t.p op) Inside))
      (subst (λ w. DrawnAt key w (newest ∷ (desk_at b.objects t.p.0).own))
      (sym (ap (within_after op (reply b.store t.p op) Inside (desk_at b.objects t.p.0).lists) h.is ∙ within_saving t op (reply b.store t.p op) (desk_at b.objects t.p.0).lists h.now tt)) now)

  -- ---- what the process knows

  abbrev Knowing : Both → Type 0
  Knowing b = Each (λ (k : Key × ClassName). Knows t.classes b.store b.objects t.p.0 k.0 k.1) known

  knowing_fact : IsFact t Knowing
  knowing_fact = each_fact t (λ (k : Key × ClassName) b. Knows t.classes b.store b.objects t.p.0 k.0 k.1) (λ k. knows_fact t steady k.0 k.1) known

  -- a number that is drawn is no id that the process knows
  unknown : (b : Both) (extent : ClassName) (i : ℕ) → t.Inv b → reply b.store t.p (Incr (counter_node extent) (pos 1)) ≡ Number (pos i) → (ks : List (Key × ClassName)) → Each (λ (k : Key × ClassName). Knows t.classes b.store b.objects t.p.0 k.0 k.1) ks
      → list_any (λ (k : Key × ClassName). is_key (key_with extent (i ∷ [])) k.0) ks ≡ false
  unknown b extent i w told [] h = refl
  unknown b extent i w told (k ∷ ks) h = neither (is_key (key_with extent (i ∷ [])) k.0) _
      (apart_key (key_with extent (i ∷ [])) k.0 (λ same. draws_are_fresh t.classes b.store b.objects t.p k.0 k.1 i (steady.steady b w).invariant (steady.steady b w).backed h.0
      (subst (λ (e : ClassName). reply b.store t.p (Incr (counter_node e) (pos 1)) ≡ Number (pos i)) (ap (λ (j : Key). j.extent) same) told) (ap (λ (j : Key). j.id) (sym same))))
      (unknown b extent i w told ks h.1)

  does_draw_one : (extent : ClassName) (keys : List Key) → is_extent_of t.classes extent ≡ true → Does t [] Knowing (draw_one is_live keys extent) (OneKey extent keys) []
  does_draw_one extent keys real = does_ask t [] Knowing (Incr (counter_node extent) (pos 1)) (on_number is_live keys extent) (OneKey extent keys) [] knowing_fact tt (λ n x. refl) (λ b h. ((extent, real, refl), refl))
      (λ b key i h live e.
      (let g = got_number extent keys key (reply b.store t.p (Incr (counter_node extent) (pos 1))) e in
      let d = drawn_now b [] extent (suc g.0) i g.1 in
      let free : IsFree is_live known keys (key_with extent (suc g.0 ∷ [])) = (g.3, unknown b extent (suc g.0) i.whole g.1 known h) in
      subst (λ k. OneKey extent keys k (next b t.p (Incr (counter_node extent) (pos 1)) Inside)) (sym g.2) (refl, (g.0, refl, in_limit b extent g.0 i.whole real g.1), free, d)))

  -- ---- all draws

  abbrev OneKnowing : ClassName → List Key → Key → Both → Type 0
  OneKnowing extent keys key b = OneKey extent keys key b × Knowing b

  pub does_draw : (os : List ToSave) → Each (λ (o : ToSave). is_extent_of t.classes o.extent ≡ true) os → (keys : List Key) → Does t [] Knowing (draw is_live keys os) (λ ds b. Drew keys os ds b) []
  does_draw [] real keys = does_give t [] Knowing [] (λ ds b. Drew keys [] ds b) (λ b h. tt)
  does_draw (o ∷ os) real keys = by o.id (does_draw os real.1)
    where
      by : (x : Option (List ℕ)) → ((ks : List Key) → Does t [] Knowing (draw is_live ks os) (λ ds b. Drew ks os ds b) [])
          → Does t [] Knowing (draw_if is_live (λ ks. draw is_live ks os) keys o.number o.extent x) (λ ds b. DrewBy o.number o.extent (λ ks e c. Drew ks os e c) keys x ds b) []
      by (Some id) more = more keys
      by None more =
          does_then t [] Knowing (draw_one is_live keys o.extent) (λ key. then (draw is_live (key ∷ keys) os) (λ ids. Give (Got ((o.number, key.id) ∷ ids)))) (OneKnowing o.extent keys) (λ ds b. DrewBy o.number o.extent (λ ks e c. Drew ks os e c) keys None ds b) []
          (does_weaken t [] (λ b. Knowing b × Knowing b) Knowing (draw_one is_live keys o.extent) (OneKnowing o.extent keys) [] (λ b h. (h, h))
          (does_with t [] Knowing Knowing (draw_one is_live keys o.extent) (OneKey o.extent keys) [] knowing_fact (does_draw_one o.extent keys real.0)))
          (λ key. does_then t [] (OneKnowing o.extent keys key) (draw is_live (key ∷ keys) os) (λ ids. Give (Got ((o.number, key.id) ∷ ids))) (λ ids b. Drew (key ∷ keys) os ids b × OneKey o.extent keys key b) (λ ds b. DrewBy o.number o.extent (λ ks e c. Drew ks os e c) keys None ds b) []
          (does_weaken t [] (λ b. Knowing b × OneKey o.extent keys key b) (OneKnowing o.extent keys key) (draw is_live (key ∷ keys) os) (λ ids b. Drew (key ∷ keys) os ids b × OneKey o.extent keys key b) [] (λ b h. (h.1, h.0))
          (does_with t [] Knowing (OneKey o.extent keys key) (draw is_live (key ∷ keys) os) (λ ids b. Drew (key ∷ keys) os ids b) [] (one_key_fact o.extent keys key) (more (key ∷ keys))))
          (λ ids. does_give t [] (λ b. Drew (key ∷ keys) os ids b × OneKey o.extent keys key b) ((o.number, key.id) ∷ ids) (λ ds b. DrewBy o.number o.extent (λ ks e c. Drew ks os e c) keys None ds b)
          (λ b h. ((refl, h.1.1, h.1.2, h.1.3), subst (λ k. Drew (k ∷ keys) os ids b) h.1.0 h.0))))

  -- ---- what follows

  pub ids_for : (keys : List Key) (os : List ToSave) (ds : Drawn) (b : Both) → Drew keys os ds b → AreIdsFor os ds
  ids_for keys [] [] b h = tt
  ids_for keys [] (d ∷ ds) b h = absurd h
  ids_for keys (o ∷ os) ds b h = by o.id ds h (λ ks e. ids_for ks os e b)
    where
      by : (x : Option (List ℕ)) (ds : Drawn) → DrewBy o.number o.extent (λ ks e c. Drew ks os e c) keys x ds b → ((ks : List Key) (e : Drawn) → Drew ks os e b → AreIdsFor os e) → IdsFor (AreIdsFor os) o x ds
      by (Some id) ds h more = more keys ds h
      by None [] h more = absurd h
      by None (d ∷ ds) h more = (h.0.0, h.0.1, more (key_with o.extent d.1 ∷ keys) ds h.1)

  pub free_for : (keys : List Key) (os : List ToSave) (ds : Drawn) (b : Both) → Drew keys os ds b → AreFree is_live known keys os ds
  free_for keys [] ds b h = tt
  free_for keys (o ∷ os) ds b h = by o.id ds h (λ ks e. free_for ks os e b)
    where
      by : (x : Option (List ℕ)) (ds : Drawn) → DrewBy o.number o.extent (λ ks e c. Drew ks os e c) keys x ds b → ((ks : List Key) (e : Drawn) → Drew ks os e b → AreFree is_live known ks os e)
          → FreeBy is_live known o.extent (λ ks e. AreFree is_live known ks os e) keys x ds
      by (Some id) ds h more = more keys ds h
      by None [] h more = absurd h
      by None (d ∷ ds) h more = (h.0.2, more (key_with o.extent d.1 ∷ keys) ds h.1)

  pub are_born : (all : Drawn) (keys : List Key) (os : List ToSave) (ds : Drawn) (b : Both) → Drew keys os ds b → Each (λ i. IsBorn t steady is_live i b) (items_from all os ds)
  are_born all keys [] ds b h = tt
  are_born all keys (o ∷ os) ds b h = by o.id ds h (λ ks e. are_born all ks os e b)
    where
      by : (x : Option (List ℕ)) (ds : Drawn) → DrewBy o.number o.extent (λ ks e c. Drew ks os e c) keys x ds b → ((ks : List Key) (e : Drawn) → Drew ks os e b → Each (λ i. IsBorn t steady is_live i b) (items_from all os e)) → Each (λ i. IsBorn t steady is_live i b) (itemed (items_from all os) all o x ds)
      by (Some id) ds h more = ((λ e. absurd (cc e)), more keys ds h)
      by None [] h more = absurd h
      by None (d ∷ ds) h more = ((λ e. h.0.3), more (key_with o.extent d.1 ∷ keys) ds h.1)

  -- ---- no key stands twice

  live_apart : (k j : Key) → is_live k ≡ true → is_live j ≡ false → is_key k j ≡ false
  live_apart k j e f = apart_key k j (λ same. cc (sym e ∙ ap is_live same ∙ f))

  -- the key of a live object that isn't among them
  none_live : (all : Drawn) (keys : List Key) (os : List ToSave) (ds : Drawn) (b : Both) (k : Key) → is_live k ≡ true → NoneHas k os → Drew keys os ds b → changes (change_of (items_from all os ds)) k ≡ false
  none_live all keys [] ds b k live none h = refl
  none_live all keys (o ∷ os) ds b k live none h = by o.id refl ds h (λ ks e. none_live all ks os e b k live none.1)
    where
      old_apart : (id : List ℕ) → o.id ≡ Some id → (o.id ≡ None) ⊎ ((id : List ℕ) × (o.id ≡ Some id) × (is_key k (key_with o.extent id) ≡ false)) → is_key k (key_with o.extent id) ≡ false
      old_apart id is (inl e) = absurd (cc (sym is ∙ e))
      old_apart id is (inr e) = (let two : Some id ≡ Some e.0 = sym is ∙ e.1 in let same : id ≡ e.0 = cc two in ap (λ x. is_key k (key_with o.extent x)) same ∙ e.2)

      by : (x : Option (List ℕ)) → o.id ≡ x → (ds : Drawn) → DrewBy o.number o.extent (λ ks e c. Drew ks os e c) keys x ds b → ((ks : List Key) (e : Drawn) → Drew ks os e b → changes (change_of (items_from all os e)) k ≡ false)
          → changes (change_of (itemed (items_from all os) all o x ds)) k ≡ false
      by (Some id) is ds h more = neither (is_key k (key_with o.extent id)) _ (old_apart id is none.0) (more keys ds h)
      by None is [] h more = absurd h
      by None is (d ∷ ds) h more = neither (is_key k (key_with o.extent d.1)) _ (live_apart k (key_with o.extent d.1) live (or_left (is_live (key_with o.extent d.1)) _ h.0.2.0)) (more (key_with o.extent d.1 ∷ keys) ds h.1)

  any_at : (k j : Key) (keys : List Key) → list_any (is_key j) keys ≡ false → Has k keys → is_key k j ≡ false
  any_at k j [] e h = absurd h
  any_at k j (x ∷ keys) e (inl same) = apart_key k j (λ is. cc (sym (or_left (is_key j x) (list_any (is_key j) keys) e) ∙ ap (is_key j) (sym same ∙ is) ∙ Rattle.std.proofs.Common.ap Rattle.std.specs.Ordering.is_eq (Rattle.std.proofs.lemmas.Cmp.tied_itself Rattle.schema_kinds.specs.KeyLaws.key_total j)))
  any_at k j (x ∷ keys) e (inr h) = any_at k j keys (or_right (is_key j x) (list_any (is_key j) keys) e) h

  -- a key that was drawn before them
  none_drawn : (all : Drawn) (keys : List Key) (os : List ToSave) (ds : Drawn) (b : Both) (k : Key) → is_live k ≡ false → Has k keys → Each (λ (o : ToSave). IsLive is_live o.extent o.id) os → Drew keys os ds b → changes (change_of (items_from all os ds)) k ≡ false
  none_drawn all keys [] ds b k new has lives h = refl
  none_drawn all keys (o ∷ os) ds b k new has lives h = by o.id lives.0 ds h (λ ks e has. none_drawn all ks os e b k new has lives.1)
    where
      by : (x : Option (List ℕ)) → IsLive is_live o.extent x → (ds : Drawn) → DrewBy o.number o.extent (λ ks e c. Drew ks os e c) keys x ds b
          → ((ks : List Key) (e : Drawn) → Has k ks → Drew ks os e b → changes (change_of (items_from all os e)) k ≡ false) → changes (change_of (itemed (items_from all os) all o x ds)) k ≡ false
      by (Some id) live ds h more = neither (is_key k (key_with o.extent id)) _ (apart_key k (key_with o.extent id) (λ same. cc (sym new ∙ ap is_live same ∙ live))) (more keys ds has h)
      by None live [] h more = absurd h
      by None live (d ∷ ds) h more = neither (is_key k (key_with o.extent d.1)) _ (any_at k (key_with o.extent d.1) keys (or_right (is_live (key_with o.extent d.1)) _ h.0.2.0) has) (more (key_with o.extent d.1 ∷ keys) ds (inr has) h.1)

  pub are_distinct : (all : Drawn) (keys : List Key) (os : List ToSave) (ds : Drawn) (b : Both) → Each (λ (o : ToSave). IsLive is_live o.extent o.id) os → AreApart os → Drew keys os ds b → AreDistinct (change_of (items_from all os ds))
  are_distinct all keys [] ds b lives apart h = tt
  are_distinct all keys (o ∷ os) ds b lives apart h = by o.id lives.0 apart.0 ds h (λ ks e. are_distinct all ks os e b lives.1 apart.1)
    where
      by : (x : Option (List ℕ)) → IsLive is_live o.extent x → IsNoLater o.extent x os → (ds : Drawn) → DrewBy o.number o.extent (λ ks e c. Drew ks os e c) keys x ds b
          → ((ks : List Key) (e : Drawn) → Drew ks os e b → AreDistinct (change_of (items_from all os e))) → AreDistinct (change_of (itemed (items_from all os) all o x ds))
      by (Some id) live none ds h more = (none_live all keys os ds b (key_with o.extent id) live none h, more keys ds h)
      by None live none [] h more = absurd h
      by None live none (d ∷ ds) h more =
          (none_drawn all (key_with o.extent d.1 ∷ keys) os ds b (key_with o.extent d.1) (or_left (is_live (key_with o.extent d.1)) _ h.0.2.0) (inl refl) lives.1 h.1, more (key_with o.extent d.1 ∷ keys) ds h.1)
