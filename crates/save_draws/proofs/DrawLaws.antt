-- Draws of ids, one after the other.
use Rattle.std.proofs.Common.{◌≡◌, ℕ, zero, suc, ℤ, pos, negsuc, Bool, true, false, cond, ◌||◌, ◌&&◌, ◌<◌, List, [], ◌∷◌, ◌++◌, drop, length, append-nil, Option, None, Some, refl, sym, ap, subst, ◌∙◌, arith}
use Rattle.std.specs.Prelude.{slice_get, is_some, MatchOption, Result, Ok, Err, IfOk, OnErr}
use Rattle.std.specs.List.{list_any}
use Rattle.std.specs.BTreeSet.{insert_key}
use Rattle.std.proofs.lemmas.List.{append_assoc}
use Rattle.obj_kinds.specs.declared.name.ClassName.{ClassName}
use Rattle.obj_kinds.specs.declared.node.Node.{Node}
use Rattle.obj_kinds.specs.declared.op.Op.TheVariants.{Incr}
use Rattle.obj_kinds.specs.declared.op.Reply.{Reply}
use Rattle.obj_kinds.specs.declared.op.Reply.TheVariants as reply
use Rattle.obj_kinds.specs.declared.cause.Cause.{Cause}
use Rattle.obj_kinds.specs.declared.cause.Cause.TheVariants.{IdTaken}
use Rattle.obj_kinds.specs.Limits.{is_legal_reply}
use Rattle.schema_kinds.specs.declared.key.Key.{Key}
use Rattle.schema_kinds.specs.Worlds.{key_cmp}
use Rattle.store_calls.specs.Calls.{Call, Give, Ask, Tell, Cut, Inside, bind, Tried, Got, Lost, then, then_on, answered, run}
use Rattle.store_calls.specs.Plans.{AsksFor, SaysNext, IsAfter}
use Rattle.object_calls.specs.Extents.{counter_node}
use Rattle.object_calls.specs.Saves.{Drawn, ToSave, is_key, on_number, draw_one, draw_if, draw}
use Rattle.read_plan.proofs.CallLaws.{then_then, drop_at, drop_end}
use Rattle.save_draws.specs.declared.drawing.Newcomer.{Newcomer}
use Rattle.save_draws.specs.declared.drawing.Phase.{Phase}
use Rattle.save_draws.specs.declared.drawing.Phase.TheVariants as phase
use Rattle.save_draws.specs.declared.drawing.DrawStep.{DrawStep}
use Rattle.save_draws.specs.declared.drawing.DrawStep.TheVariants as step
use Rattle.obj_kinds.specs.declared.memory.NoMemory.{NoMemory}
use Rattle.save_draws.specs.Draws.{newcomer_if, newcomers, Draws, id_of_number, key_told, number_judged, with_drawn, draw_each, left_of, to_come, IsBegun, IsJudged, IsNext, GoesOn, GoesBehind, IsTaken, Stays, is_asking, is_judging, is_told, is_placed}
use Rattle.save_draws.proofs.KeyLaws.{inserted}

-- what a number tells
pub number_is : (is_live : Key → Bool) (keys : List Key) (extent : ClassName) (z : ℤ) → number_judged is_live keys extent (id_of_number z) ≡ on_number is_live keys extent (reply.Number z)
number_is is_live keys extent (pos zero) = refl
number_is is_live keys extent (pos (suc i)) = refl
number_is is_live keys extent (negsuc i) = refl

-- nothing comes behind
give_back : {A : Type 0} (c : Call (Tried A)) → then c (λ a. Give (Got a)) ≡ c
give_back (Give (Got a)) = refl
give_back (Give (Lost x)) = refl
give_back (Tell x c) = ap (λ d. Tell x d) (give_back c)
give_back Cut = refl
give_back (Ask op tag k) = λ i. Ask op tag (λ r. give_back (k r) i)

module _ (is_live : Key → Bool) where
  -- ---- keys that tell the same

  abbrev Alike : List Key → List Key → Type 0
  Alike xs ys = (k : Key) → list_any (is_key k) xs ≡ list_any (is_key k) ys

  judged_alike : (xs ys : List Key) → Alike xs ys → (extent : ClassName) (x : Option (List ℕ)) → number_judged is_live xs extent x ≡ number_judged is_live ys extent x
  judged_alike xs ys h extent None = refl
  judged_alike xs ys h extent (Some id) =
      let key : Key = record { extent = extent; id = id } in ap (λ b. cond (is_live key || b) (Lost (IdTaken id)) (Got key)) (h key)

  told_alike : (xs ys : List Key) → Alike xs ys → (extent : ClassName) (r : Reply) → on_number is_live xs extent r ≡ on_number is_live ys extent r
  told_alike xs ys h extent (reply.Number z) = sym (number_is is_live xs extent z) ∙ judged_alike xs ys h extent (id_of_number z) ∙ number_is is_live ys extent z
  told_alike xs ys h extent reply.NumberLimit = refl
  told_alike xs ys h extent reply.Granted = refl
  told_alike xs ys h extent (reply.Held p n m) = refl
  told_alike xs ys h extent reply.Done = refl
  told_alike xs ys h extent (reply.Found v) = refl
  told_alike xs ys h extent reply.Absent = refl
  told_alike xs ys h extent (reply.Next s) = refl
  told_alike xs ys h extent reply.NoNext = refl
  told_alike xs ys h extent (reply.State k) = refl
  told_alike xs ys h extent reply.NotHeld = refl
  told_alike xs ys h extent reply.NoTran = refl
  told_alike xs ys h extent reply.TooDeep = refl

  draws_alike : (ns : List Newcomer) (xs ys : List Key) → Alike xs ys → draw_each is_live xs ns ≡ draw_each is_live ys ns
  draws_alike [] xs ys h = refl
  draws_alike (n ∷ ns) xs ys h =
      λ i. Ask (Incr (counter_node n.extent) (pos 1)) Inside
      (λ r. then (Give (told_alike xs ys h n.extent r i)) (λ key. then (draws_alike ns (key ∷ xs) (key ∷ ys) (λ k. ap (λ b. is_key k key || b) (h k)) i) (λ ids. Give (Got ((n.number, key.id) ∷ ids)))))

  -- ---- the draws of a save

  new_if : (o : ToSave) (os : List ToSave) (x : Option (List ℕ)) → ((keys : List Key) → draw is_live keys os ≡ draw_each is_live keys (newcomers os)) → (keys : List Key)
      → draw_if is_live (λ ks. draw is_live ks os) keys o.number o.extent x ≡ draw_each is_live keys (newcomer_if o x (newcomers os))
  new_if o os (Some id) more keys = more keys
  new_if o os None more keys = λ i. then (draw_one is_live keys o.extent) (λ key. then (more (key ∷ keys) i) (λ ids. Give (Got ((o.number, key.id) ∷ ids))))

  new_drawn : (os : List ToSave) (keys : List Key) → draw is_live keys os ≡ draw_each is_live keys (newcomers os)
  new_drawn [] keys = refl
  new_drawn (o ∷ os) keys = new_if o os o.id (new_drawn os) keys

  begun_with : (news : List Newcomer) → IsBegun is_live (record { news = news; at = 0; keys = []; ids = [] }) phase.Drawing
  unfolding to_come left_of
  begun_with news os is = give_back (draw_each is_live [] news) ∙ ap (draw_each is_live []) (sym is) ∙ sym (new_drawn os [])

  pub begun : (d : Draws) → d.at ≡ 0 → d.keys ≡ [] → d.ids ≡ [] → IsBegun is_live d phase.Drawing
  begun d at keys ids = subst (λ e. IsBegun is_live e phase.Drawing) (sym same) (begun_with d.news)
    where
      same : d ≡ record { news = d.news; at = 0; keys = []; ids = [] }
      same = λ i. record { news = d.news; at = at i; keys = keys i; ids = ids i }

  -- ---- the next object

  abbrev before : Draws → Drawn → Call (Tried Drawn)
  before d ids = Give (Got (d.ids ++ ids))

  pub asks_next : (d : Draws) (n : Newcomer) → slice_get d.news d.at ≡ Some n → SaysNext (AsksFor (Incr (counter_node n.extent) (pos 1))) (λ most. to_come is_live d phase.Drawing)
  unfolding to_come left_of
  asks_next d n e most = (Inside, ap (λ ns. run (then (draw_each is_live d.keys ns) (before d)) []) (drop_at d.news d.at n e))

  pub asks_at : (d : Draws) (p : Phase) (n : Newcomer) (counter : Node) → p ≡ phase.Drawing → slice_get d.news d.at ≡ Some n → counter ≡ counter_node n.extent → SaysNext (AsksFor (Incr counter (pos 1))) (λ most. to_come is_live d p)
  asks_at d p n counter is there same =
      subst (λ q. SaysNext (AsksFor (Incr counter (pos 1))) (λ most. to_come is_live d q)) (sym is)
      (subst (λ k. SaysNext (AsksFor (Incr k (pos 1))) (λ most. to_come is_live d phase.Drawing)) (sym same) (asks_next d n there))

  pub all_drawn : (d : Draws) → slice_get d.news d.at ≡ None → to_come is_live d phase.Drawing ≡ Give (Got d.ids)
  unfolding to_come left_of
  all_drawn d e =
      ap (λ ns. then (draw_each is_live d.keys ns) (before d)) (drop_end d.news d.at e)
      ∙ ap (λ ids. Give (Got ids)) (append-nil d.ids)

  taken_at : (d : Draws) (x : Option Newcomer) (r : Reply) → slice_get d.news d.at ≡ x → is_some x ≡ true → IsAfter r (λ most. to_come is_live d phase.Drawing) (λ most. to_come is_live d (phase.Judging r))
  unfolding to_come left_of
  taken_at d None r e h most rs le = absurd (cc h)
  taken_at d (Some n) r e h most rs le =
      ap (λ ns. run (answered (then (draw_each is_live d.keys ns) (before d)) r) rs) (drop_at d.news d.at n e)
      ∙ sym (ap (λ ns. run (then (draw_each is_live d.keys ns) (before d)) (r ∷ rs)) (drop_at d.news d.at n e))

  pub taken : (d : Draws) (p : Phase) (r : Reply) → is_asking d p ≡ true → IsTaken is_live r d p d (phase.Judging r)
  taken d phase.Drawing r h = taken_at d (slice_get d.news d.at) r refl h
  taken d (phase.Judging q) r h = absurd (cc h)
  taken d (phase.Over x) r h = absurd (cc h)
  taken d phase.Told r h = absurd (cc h)

  -- ---- its reply

  module _ (d : Draws) (n : Newcomer) (r : Reply) (there : slice_get d.news d.at ≡ Some n) where
    abbrev rest : List Newcomer
    rest = drop (suc d.at) d.news

    abbrev goes_on : Key → Call (Tried Drawn)
    goes_on key = then (draw_each is_live (key ∷ d.keys) rest) (λ ids. Give (Got ((n.number, key.id) ∷ ids)))

    told_is : (t : Tried Key) → t ≡ on_number is_live d.keys n.extent r → answered (left_of is_live d) r ≡ then (then_on goes_on t) (before d)
    unfolding left_of
    told_is t e = ap (λ ns. answered (then (draw_each is_live d.keys ns) (before d)) r) (drop_at d.news d.at n there) ∙ ap (λ u. then (then_on goes_on u) (before d)) (sym e)

    pub judged_lost : (x : Cause) → Lost x ≡ on_number is_live d.keys n.extent r → answered (left_of is_live d) r ≡ Give (Lost x)
    judged_lost x e = told_is (Lost x) e

    judged_got : (key : Key) → Got key ≡ on_number is_live d.keys n.extent r → answered (left_of is_live d) r ≡ left_of is_live (with_drawn d n.number key (insert_key key_cmp d.keys key))
    unfolding left_of
    judged_got key e =
        told_is (Got key) e
        ∙ then_then (draw_each is_live (key ∷ d.keys) rest) (λ ids. Give (Got ((n.number, key.id) ∷ ids))) (before d)
        ∙ sym (λ i. then (draw_each is_live (key ∷ d.keys) rest) (λ ids. Give (Got (append_assoc d.ids ((n.number, key.id) ∷ []) ids i))))
        ∙ ap (λ c. then c (λ ids. Give (Got ((d.ids ++ (n.number, key.id) ∷ []) ++ ids)))) (draws_alike rest (key ∷ d.keys) (insert_key key_cmp d.keys key) (λ k. sym (inserted d.keys key k)))

    pub judged_kept : (key : Key) (e : Draws) → Got key ≡ on_number is_live d.keys n.extent r → e ≡ with_drawn d n.number key (insert_key key_cmp d.keys key) → answered (left_of is_live d) r ≡ left_of is_live e
    judged_kept key e h is = judged_got key h ∙ ap (left_of is_live) (sym is)

  -- ---- the reply was judged, where there was one

  pub judged_on : (d e : Draws) (p : Phase) (r : Reply) → p ≡ phase.Judging r → IsJudged is_live d r e None → GoesBehind is_live d p e phase.Drawing
  unfolding to_come
  judged_on d e p r is h = (refl, refl, rw is (sym h))

  pub judged_off : (d e : Draws) (p : Phase) (r : Reply) (x : Cause) → p ≡ phase.Judging r → IsJudged is_live d r e (Some x) → GoesBehind is_live d p e (phase.Over x)
  unfolding to_come
  judged_off d e p r x is h = (refl, refl, rw is (sym h))

  -- what comes behind what has the same to do
  pub next_behind : (d e f : Draws) (before mid : Phase) (s : DrawStep) → to_come is_live e mid ≡ to_come is_live d before → IsNext is_live s e mid f → IsNext is_live s d before f
  next_behind d e f before mid (step.Ask op) same h = λ most. (let next = h most in (next.0, ap (λ c. run c []) (sym same) ∙ next.1))
  next_behind d e f before mid (step.Draw (Ok u)) same h = sym same ∙ h
  next_behind d e f before mid (step.Draw (Err x)) same h = sym same ∙ h

  pub goes_behind : (d e f : Draws) (before mid now : Phase) (s : DrawStep) → to_come is_live e mid ≡ to_come is_live d before → GoesOn is_live s e mid f now → GoesOn is_live s d before f now
  goes_behind d e f before mid now (step.Ask op) same h = h ∙ same
  goes_behind d e f before mid now (step.Draw a) same h = h

-- ---- steps

module _ (is_live : Key → Bool) where
  pub next_ok : (d e f : Draws) (before mid : Phase) (x : Result DrawStep NoMemory) → GoesBehind is_live d before e mid → IfOk x (λ s. (l : Key → Bool) → IsNext l s e mid f) → IfOk x (λ s. IsNext is_live s d before f)
  next_ok d e f before mid (Ok s) on h = next_behind is_live d e f before mid s on.2 (h is_live)
  next_ok d e f before mid (Err x) on h = h

  pub goes_ok : (d e f : Draws) (before mid now : Phase) (x : Result DrawStep NoMemory) → GoesBehind is_live d before e mid → IfOk x (λ s. (l : Key → Bool) → GoesOn l s e mid f now) → IfOk x (λ s. GoesOn is_live s d before f now)
  goes_ok d e f before mid now (Ok s) on h = goes_behind is_live d e f before mid now s on.2 (h is_live)
  goes_ok d e f before mid now (Err x) on h = h

  pub stays_same : (d e : Draws) (before now : Phase) → e ≡ d → now ≡ before → is_told before ≡ false → is_placed d before ≡ true → Stays is_live d before e now
  stays_same d e before now same is told placed = rw same (rw is (told, placed, refl))

  placed_mid : (e : Draws) (mid : Phase) → is_judging mid ≡ false → is_placed e mid ≡ true
  placed_mid e phase.Drawing h = refl
  placed_mid e (phase.Judging r) h = absurd (cc h)
  placed_mid e (phase.Over x) h = refl
  placed_mid e phase.Told h = refl

  pub stays_behind : (d e f : Draws) (before mid now : Phase) → GoesBehind is_live d before e mid → f ≡ e → now ≡ mid → Stays is_live d before f now
  stays_behind d e f before mid now on same is = rw same (rw is (on.1, placed_mid e mid on.0, on.2))

  pub stays_err : (d e f : Draws) (before mid now : Phase) (x : Result DrawStep NoMemory) → GoesBehind is_live d before e mid → f ≡ e → OnErr x (now ≡ mid) → OnErr x (Stays is_live d before f now)
  stays_err d e f before mid now (Ok s) on same h = h
  stays_err d e f before mid now (Err x) on same h = stays_behind d e f before mid now on same h

-- ---- what is taken back

front : {A : Type 0} (xs ys : List A) (x y : A) → xs ++ x ∷ [] ≡ ys ++ y ∷ [] → xs ≡ ys
front [] [] x y e = refl
front [] (z ∷ []) x y e = absurd (cc e)
front [] (z ∷ w ∷ ys) x y e = absurd (cc e)
front (z ∷ []) [] x y e = absurd (cc e)
front (z ∷ w ∷ xs) [] x y e = absurd (cc e)
front (z ∷ xs) (w ∷ ys) x y e =
    let head : z ≡ w = cc in
    let rest : xs ++ x ∷ [] ≡ ys ++ y ∷ [] = cc in
    (λ i. head i ∷ front xs ys x y rest i)

filled : {A : Type 0} (xs : List A) (x : A) → xs ++ x ∷ [] ≡ [] → ⊥
filled [] x e = absurd (cc e)
filled (y ∷ xs) x e = absurd (cc e)

pub popped : {A : Type 0} (old before now : List A) (x : A) (r : Option A) → old ≡ before ++ x ∷ [] → MatchOption r ((old ≡ []) × (now ≡ [])) (λ last. old ≡ now ++ last ∷ []) → now ≡ before
popped old before now x None e h = absurd (filled before x (sym e ∙ h.0))
popped old before now x (Some last) e h = front now before last x (sym h ∙ e)

-- ---- places

pub is_there : {A : Type 0} (xs : List A) (n : ℕ) (x : A) → slice_get xs n ≡ Some x → n < length xs
is_there [] n x e = absurd (cc e)
is_there (y ∷ ys) zero x e = omega arith
is_there (y ∷ ys) (suc n) x e = let less = is_there ys n x e in omega (arith, less)

and_true : (a b : Bool) → a ≡ true → b ≡ true → a && b ≡ true
and_true true b h k = k
and_true false b h k = absurd (cc h)

pub and_first : (a b : Bool) → a && b ≡ true → a ≡ true
and_first true b h = refl
and_first false b h = absurd (cc h)

pub and_second : (a b : Bool) → a && b ≡ true → b ≡ true
and_second true b h = h
and_second false b h = absurd (cc h)

pub taken_placed : (d : Draws) (p : Phase) (r : Reply) → is_asking d p ≡ true → is_legal_reply r ≡ true → is_placed d (phase.Judging r) ≡ true
taken_placed d phase.Drawing r h k = and_true (is_some (slice_get d.news d.at)) (is_legal_reply r) h k
taken_placed d (phase.Judging q) r h k = absurd (cc h)
taken_placed d (phase.Over x) r h k = absurd (cc h)
taken_placed d phase.Told r h k = absurd (cc h)

pub placed_there : (d : Draws) (p : Phase) (r : Reply) → p ≡ phase.Judging r → is_placed d p ≡ true → is_some (slice_get d.news d.at) ≡ true
placed_there d p r is h = and_first (is_some (slice_get d.news d.at)) (is_legal_reply r) (sym (ap (is_placed d) is) ∙ h)

pub placed_legal : (d : Draws) (p : Phase) (r : Reply) → p ≡ phase.Judging r → is_placed d p ≡ true → is_legal_reply r ≡ true
placed_legal d p r is h = and_second (is_some (slice_get d.news d.at)) (is_legal_reply r) (sym (ap (is_placed d) is) ∙ h)
