-- From one move to a step, and from step to step.
use Rattle.std.proofs.Common.{◌≡◌, ℕ, zero, suc, ◌+◌, ◌-◌, ◌*◌, ◌<◌, ◌≤◌, Bool, true, false, List, [], ◌∷◌, length, drop, min, slice_get, ltb, IfNone, length-drop, Option, Some, None, refl, sym, ap, ◌∙◌, subst, arith}
use Rattle.std.proofs.Math.Nat.{suc-mul}
use Rattle.std.proofs.lemmas.Bool.{ltb-true, ltb-false}
use Rattle.std.proofs.lemmas.Option.{slice_get_within}
use std.Path.{fun_ext}
use Rattle.os_kinds.specs.declared.val.Val.{Val}
use Rattle.os_kinds.specs.declared.call.ScriptEnd.TheVariants as end
use Rattle.os_meaning.specs.Frames.{Ends, Spends, Asks, Vars, loses_some}
use Rattle.os_code.specs.declared.instruction.Instruction.{Instruction}
use Rattle.os_code.specs.Machine.{Next, act, back, walk, spent, from, flat}
use Rattle.os_machine.specs.Moves.{Moved, move}
use Rattle.os_machine.specs.Receiving.{takes}
use Rattle.os_machine.specs.Leading.{at, showing, goes_with, Leads}
use Rattle.os_machine.specs.States.{Left, behind, Quiets, IsOut, frame_at, frame_with, telling, Quiet, TellsOf, Tells, StepsOf, Steps, left, Took, Passes}
use Rattle.os_kinds.specs.declared.call.Answer.{Answer}
use Rattle.os_machine.specs.declared.stepped.Awaits.{Awaits}
use Rattle.os_machine.specs.declared.stepped.Stepped.{Stepped}
use Rattle.os_machine.specs.declared.stepped.Stepped.TheVariants as step
use Rattle.os_machine.specs.declared.work.Work.{Work}
use Rattle.os_machine.specs.declared.local.Told.{Told}
use Rattle.os_machine.specs.declared.local.Told.TheVariants as told
use Rattle.os_machine.specs.declared.local.Local.{Local}
use Rattle.os_machine.proofs.Doing.{does}

abbrev Code : Type 0
Code = List Instruction

-- ---- places in the code

opened : (code : Code) (p : ℕ) (i : Instruction) → slice_get code p ≡ Some i → drop p code ≡ i ∷ drop (suc p) code
opened [] p i h = cc
opened (x ∷ code) zero i h = let e : x ≡ i = cc in ap (λ y. y ∷ code) e
opened (x ∷ code) (suc p) i h = opened code p i h

beyond : (code : Code) (p : ℕ) → slice_get code p ≡ None → drop p code ≡ []
beyond [] zero h = refl
beyond [] (suc p) h = refl
beyond (x ∷ code) zero h = cc
beyond (x ∷ code) (suc p) h = beyond code p h

drop_end : (k : ℕ) (code : Code) → length code ≤ k → drop k code ≡ []
drop_end zero [] h = refl
drop_end (suc k) [] h = refl
drop_end zero (x ∷ code) h = absurd (omega arith)
drop_end (suc k) (x ∷ code) h = drop_end k code (omega arith)

drop_more : (j k : ℕ) (code : Code) → drop k (drop j code) ≡ drop (j + k) code
drop_more zero k code = let e : 0 + k ≡ k = omega arith in ap (λ n. drop n code) (sym e)
drop_more (suc j) zero [] = sym (drop_end (suc j + 0) [] (omega arith))
drop_more (suc j) (suc k) [] = sym (drop_end (suc j + suc k) [] (omega arith))
drop_more (suc j) k (x ∷ code) = let e : suc j + k ≡ suc (j + k) = omega arith in drop_more j k code ∙ ap (λ n. drop n (x ∷ code)) (sym e)

within_end : (b : Bool) (k : ℕ) (code : Code) → ltb k (length code) ≡ b → drop (min k (length code)) code ≡ drop k code
within_end true k code h = let e : min k (length code) ≡ k = omega (arith, ltb-true k (length code) h) in ap (λ n. drop n code) e
within_end false k code h =
    let far : length code ≤ k = ltb-false k (length code) h in
    let e : min k (length code) ≡ length code = omega arith in
    ap (λ n. drop n code) e ∙ drop_end (length code) code (omega arith) ∙ sym (drop_end k code far)

-- behind so many instructions from a place on
behind_is : (p k q : ℕ) (code : Code) → q ≡ min (p + k) (length code) → drop q code ≡ drop k (drop p code)
behind_is p k q code h = ap (λ n. drop n code) h ∙ within_end (ltb (p + k) (length code)) (p + k) code refl ∙ sym (drop_more p k code)

skips : (this : Option Val) (code : Code) (f : Code → Next) (k : ℕ) (xs : Code) (w : Work) → at (walk this code f k xs) w ≡ at (walk this code f 0 (drop k xs)) w
skips this code f zero xs w = refl
skips this code f (suc k) [] w = refl
skips this code f (suc k) (x ∷ xs) w = skips this code f k xs w

-- the frame from a place on is that behind so many instructions from a place before
goes_from : (this : Option Val) (code : Code) (p k : ℕ) (w : Work) (new : Local) → new ≡ record { place = min (p + k) (length code); this = this; work = w } → (n : ℕ) → at (walk this code (spent this code n) k (drop p code)) w ≡ frame_at code new n
unfolding frame_at
goes_from this code p k w new e n =
    skips this code (spent this code n) k (drop p code) w
    ∙ ap (λ r. at (walk this code (spent this code n) 0 r) w) (sym (behind_is p k (min (p + k) (length code)) code refl))
    ∙ ap (λ l. at (from l.this code n (drop l.place code)) l.work) (sym e)

-- ---- units

module _ (code : Code) (old : Local) (next : ℕ) (f : Left) (starts : (n : ℕ) → f n ≡ at (spent old.this code n (drop next code)) old.work) where
  unit_first : (n : ℕ) → f n ≡ behind 1 (frame_at code (record old { place = next })) n
  unfolding frame_at
  unit_first zero = starts zero
  unit_first (suc n) = starts (suc n)

  took : (before after : ℕ) (new : Local) (t : Option Told) → Took next before after old new t → StepsOf code t before after f new
  took before after new None h = (1, omega (arith, h.none.1), λ n. unit_first n ∙ ap (λ l. behind 1 (frame_at code l) n) (sym h.none.0))
  took before after new (Some x) h =
      let out : TellsOf code told.Fuel before after f new = (h.some.3, frame_at code (record old { place = next }), λ n. unit_first n ∙ ap (λ b. behind (suc b) (frame_at code (record old { place = next })) n) (sym h.some.2)) in
      subst (λ y. TellsOf code y before after f new) (sym h.some.0) out

-- ---- one instruction

module _ (code : Code) (i : Instruction) (old : Local) (here : slice_get code old.place ≡ Some i) where
  abbrev rest : Code
  rest = drop (suc old.place) code

  abbrev moved : Moved
  moved = move old.this i old.work

  abbrev goes : ℕ → ℕ → Next
  goes n k = walk old.this code (spent old.this code n) k rest

  abbrev spends : ℕ → Next
  spends n = spent old.this code n rest

  abbrev again : ℕ → ℕ → Next
  again n b = spent old.this code n (back old.this code b rest)

  -- the instruction at the place
  begins : (n : ℕ) (w : Work) → at (act old.this i (goes n) (spends n) (again n)) w ≡ frame_at code (record old { work = w }) n
  unfolding frame_at
  begins n w = ap (λ r. at (walk old.this code (spent old.this code n) 0 r) w) (sym (opened code old.place i here))

  leads : (n : ℕ) → Leads old.this (goes n) (spends n) (again n) (frame_at code old n) (frame_at code (record old { work = moved.1 }) n) moved
  leads n =
      subst (λ f. Leads old.this (goes n) (spends n) (again n) f (frame_at code (record old { work = moved.1 }) n) moved) (begins n old.work)
      (subst (λ f. Leads old.this (goes n) (spends n) (again n) (at (act old.this i (goes n) (spends n) (again n)) old.work) f moved) (begins n moved.1)
      (does old.this (goes n) (spends n) (again n) i old.work.stack old.work.numbers old.work.vars))

-- nothing is shown
still : (u : ℕ) (f g : Left) → ((n : ℕ) → f n ≡ g n) → Quiets u u f g
still u f g h = (0, omega arith, h)

-- a move from a place, with what comes of it
module _ (code : Code) (i : Instruction) (old mid new : Local) (before after : ℕ) where
  -- the frame before, and what follows
  abbrev Led : Stepped → Type 0
  Led s = (n : ℕ) → Leads old.this (λ k. walk old.this code (spent old.this code n) k (drop (suc old.place) code)) (spent old.this code n (drop (suc old.place) code)) (λ b. spent old.this code n (back old.this code b (drop (suc old.place) code)))
      (frame_at code old n) (frame_at code mid n) (s, mid.work)

  module _ (inside : old.place < length code) (placed : mid.place ≡ old.place) (same : mid.this ≡ old.this) where
    goes_on : (k n : ℕ) → new ≡ record mid { place = min (mid.place + 1 + k) (length code) } → at (walk old.this code (spent old.this code n) k (drop (suc old.place) code)) mid.work ≡ frame_at code new n
    goes_on k n e =
        let p : mid.place + 1 ≡ suc old.place = omega (arith, placed) in
        goes_from old.this code (suc old.place) k mid.work new (e ∙ ap (λ q. record mid { place = min (q + k) (length code) }) p ∙ ap (λ t. record { place = min (suc old.place + k) (length code); this = t; work = mid.work }) same) n

    unchanged : (t : Told) → after ≡ before → ((n : ℕ) → frame_at code old n ≡ telling code t new n) → Quiets before after (frame_at code old) (telling code t new)
    unchanged t e h = subst (λ a. Quiets before a (frame_at code old) (telling code t new)) (sym e) (still before (frame_at code old) (telling code t new) h)

    says : (t : Option Told) (x : Told) → t ≡ Some x → TellsOf code x before after (frame_at code old) new → Steps code t before after old new
    says t x e h = subst (λ y. Steps code y before after old new) (sym e) h

    waits : (c : Awaits) (x : Answer) (n : ℕ) → new ≡ record mid { place = mid.place + 1 } → goes_with (λ k. walk old.this code (spent old.this code n) k (drop (suc old.place) code)) (takes c x mid.work) ≡ frame_with code new c x n
    unfolding frame_with
    waits c x n e =
        let p : suc old.place ≡ mid.place + 1 = omega (arith, placed) in
        ap (λ q. goes_with (λ k. walk old.this code (spent old.this code n) k (drop q code)) (takes c x mid.work)) p
        ∙ ap (λ t. goes_with (λ k. walk t code (spent t code n) k (drop (mid.place + 1) code)) (takes c x mid.work)) (sym same)
        ∙ ap (λ l. goes_with (λ k. walk l.this code (spent l.this code n) k (drop l.place code)) (takes c x l.work)) (sym e)

    -- a unit is taken first
    units : (n next : ℕ) (xs : Code) → xs ≡ drop next code → at (spent old.this code n xs) mid.work ≡ at (spent mid.this code n (drop next code)) mid.work
    units n next xs e = ap (λ l. at (spent old.this code n l) mid.work) e ∙ ap (λ t. at (spent t code n (drop next code)) mid.work) (sym same)

    behind_it : drop (suc old.place) code ≡ drop (mid.place + 1) code
    behind_it = let p : suc old.place ≡ mid.place + 1 = omega (arith, placed) in ap (λ q. drop q code) p

    back_to : (b : ℕ) → back old.this code b (drop (suc old.place) code) ≡ drop (mid.place + 1 - b) code
    back_to b =
        let p : length code - (length (drop (suc old.place) code) + b) ≡ mid.place + 1 - b = omega (arith, length-drop (suc old.place) code, placed) in
        ap (λ q. drop q code) p

    pub comes : (s : Stepped) (t : Option Told) → Led s → Passes (length code) before after s mid t new → Steps code t before after old new
    comes (step.Goes k) t led p =
        let quiet : Quiet code before after old new = subst (λ a. Quiet code before a old new) (sym p.2) (still before (frame_at code old) (frame_at code new) (λ n. led n ∙ goes_on k n p.1)) in
        subst (λ y. Steps code y before after old new) (sym p.0) quiet
    comes (step.Shows s k) t led p = says t (told.Shows s) p.0 (unchanged (told.Shows s) p.2 (λ n. led n ∙ ap (showing s) (goes_on k n p.1)))
    comes (step.Stays s) t led p = says t (told.Shows s) p.0 (unchanged (told.Shows s) p.2 (λ n. led n ∙ ap (λ l. showing s (frame_at code l n)) (sym p.1)))
    comes (step.Asks c a) t led p = says t (told.Asks c a) p.0 (unchanged (told.Asks c a) p.2 (λ n. led n ∙ ap (Asks c) (fun_ext (λ x. waits a x n p.1))))
    comes (step.Leaves v) t led p = says t (told.Leaves v) p.0 (unchanged (told.Leaves v) p.2 (λ n. led n ∙ ap (λ o. loses_some o (Ends (end.Done v))) (sym (ap (λ l. l.this) p.1 ∙ same))))
    comes step.Spends t led p = took code mid (mid.place + 1) (frame_at code old) (λ n. led n ∙ units n (mid.place + 1) _ behind_it) before after new t p
    comes (step.Returns b) t led p = took code mid (mid.place + 1 - b) (frame_at code old) (λ n. led n ∙ units n (mid.place + 1 - b) _ (back_to b)) before after new t p
    comes (step.Fails e line) t led p = says t (told.Fails e line) p.0 (unchanged (told.Fails e line) p.2 led)
    comes step.Halts t led p = says t told.Halts p.0 (unchanged told.Halts p.2 led)

-- a whole step
pub steps : (code : Code) (i : Instruction) (old new : Local) (w : Work) (s : Stepped) (before after : ℕ) (t : Option Told) → slice_get code old.place ≡ Some i → (s, w) ≡ move old.this i old.work → Passes (length code) before after s (record old { work = w }) t new → Steps code t before after old new
steps code i old new w s before after t here is p =
    let mid : Local = record old { work = w } in
    let led : Led code i old mid new before after s = λ n. subst (λ m. Leads old.this (goes code i old here n) (spends code i old here n) (again code i old here n) (frame_at code old n) (frame_at code (record old { work = m.1 }) n) m) (sym is) (leads code i old here n) in
    comes code i old mid new before after (slice_get_within code old.place i here) refl refl s t led p

-- behind the last instruction
pub none_at : (code : Code) (u : ℕ) (old : Local) → slice_get code old.place ≡ None → Tells code told.Halts u u old old
unfolding frame_at
none_at code u old h = (0, omega arith, λ n. ap (λ r. at (walk old.this code (spent old.this code n) 0 r) old.work) (beyond code old.place h))

-- ---- what is left falls

less_by_place : (code : Code) (u : ℕ) (old new : Local) (k place : ℕ) → place < length code → old.place ≡ place → new.place ≡ min (place + 1 + k) (length code) → left code u new < left code u old
less_by_place code u old new k place h e q = omega arith

less_by_unit : (code : Code) (u v : ℕ) (old new : Local) → v ≡ u + 1 → left code u new < left code v old
less_by_unit code u v old new h =
    let one : v ≡ suc u = omega (arith, h) in
    let more : v * (length code + 1) ≡ u * (length code + 1) + (length code + 1) = ap (λ n. n * (length code + 1)) one ∙ suc-mul u (length code + 1) in
    omega (arith, more)

silent : (P : Type 0) (t : Option Told) (x : Told) → t ≡ Some x → IfNone t P
silent P t x e = subst (λ y. IfNone y P) (sym e) tt

pub falls : (code : Code) (before after : ℕ) (old mid new : Local) (s : Stepped) (t : Option Told) → old.place < length code → mid.place ≡ old.place → Passes (length code) before after s mid t new → IfNone t (left code after new < left code before old)
falls code before after old mid new (step.Goes k) t h e p =
    let q : new.place ≡ min (old.place + 1 + k) (length code) = ap (λ l. l.place) p.1 ∙ ap (λ x. min (x + 1 + k) (length code)) e in
    let less : left code before new < left code before old = less_by_place code before old new k old.place h refl q in
    let less_all : left code after new < left code before old = subst (λ a. left code a new < left code before old) (sym p.2) less in
    subst (λ x. IfNone x (left code after new < left code before old)) (sym p.0) less_all
falls code before after old mid new (step.Shows s k) t h e p = silent _ t _ p.0
falls code before after old mid new (step.Stays s) t h e p = silent _ t _ p.0
falls code before after old mid new (step.Asks c a) t h e p = silent _ t _ p.0
falls code before after old mid new (step.Leaves v) t h e p = silent _ t _ p.0
falls code before after old mid new step.Spends None h e p = less_by_unit code after before old new p.none.1
falls code before after old mid new step.Spends (Some x) h e p = tt
falls code before after old mid new (step.Returns b) None h e p = less_by_unit code after before old new p.none.1
falls code before after old mid new (step.Returns b) (Some x) h e p = tt
falls code before after old mid new (step.Fails name line) t h e p = silent _ t _ p.0
falls code before after old mid new step.Halts t h e p = silent _ t _ p.0

-- ---- one step after the other

pub behind_more : (j k : ℕ) (f : Left) (n : ℕ) → behind j (behind k f) n ≡ behind (j + k) f n
behind_more zero k f n = let e : 0 + k ≡ k = omega arith in ap (λ m. behind m f n) (sym e)
behind_more (suc j) k f zero = let e : suc j + k ≡ suc (j + k) = omega arith in ap (λ m. behind m f 0) (sym e)
behind_more (suc j) k f (suc n) = let e : suc j + k ≡ suc (j + k) = omega arith in ap Spends (behind_more j k f n) ∙ ap (λ m. behind m f (suc n)) (sym e)

pub quiet_none : (code : Code) (u : ℕ) (l : Local) → Quiet code u u l l
quiet_none code u l = (0, omega arith, λ n. refl)

module _ (a b : ℕ) (x y : Left) (p : Quiets a b x y) where
  on_from : (k : ℕ) (f : Left) → ((n : ℕ) → y n ≡ behind k f n) → (n : ℕ) → x n ≡ behind (p.0 + k) f n
  on_from k f h n = p.2 n ∙ ap (λ g. behind p.0 g n) (fun_ext h) ∙ behind_more p.0 k f n

  pub quiets_then : (c : ℕ) (z : Left) → Quiets b c y z → Quiets a c x z
  quiets_then c z q = (p.0 + q.0, omega (arith, p.1, q.1), on_from q.0 z q.2)

  pub out_then : (c : ℕ) → IsOut b c y → IsOut a c x
  out_then c q = let e : p.0 + suc b ≡ suc a = omega (arith, p.1) in (q.0, q.1, λ n. on_from (suc b) q.1 q.2 n ∙ ap (λ m. behind m q.1 n) e)

  pub tells_then : (code : Code) (c : ℕ) (t : Told) (new : Local) → TellsOf code t b c y new → TellsOf code t a c x new
  tells_then code c (told.Shows s) new h = quiets_then c _ h
  tells_then code c (told.Asks call awaits) new h = quiets_then c _ h
  tells_then code c (told.Leaves v) new h = quiets_then c _ h
  tells_then code c (told.Fails e line) new h = quiets_then c _ h
  tells_then code c told.Halts new h = quiets_then c _ h
  tells_then code c told.Fuel new h = out_then c h

-- ---- units that are owed

-- the first units of a frame, paid
paid_first : (k a : ℕ) (f : Left) → k ≤ a → Quiets a (a - k) (behind k f) f
paid_first k a f le = (k, omega arith, λ n. refl)

pub pays : (code : Code) (k a b : ℕ) (f : Left) (t : Told) (new : Local) → k ≤ a → TellsOf code t (a - k) b f new → TellsOf code t a b (behind k f) new
pays code k a b f t new le h = tells_then a (a - k) (behind k f) f (paid_first k a f le) code b t new h

-- more is owed than there is
pub owes : (k a : ℕ) (f : Left) → a < k → IsOut a 0 (behind k f)
owes k a f lt =
    let e : suc a + (k - suc a) ≡ k = omega arith in
    (refl, behind (k - suc a) f, λ n. ap (λ m. behind m f n) (sym e) ∙ sym (behind_more (suc a) (k - suc a) f n))

-- what was taken is owed again
pub owed_again : (k a b : ℕ) (f g : Left) → k ≤ a → Quiets (a - k) b f g → (n : ℕ) → behind (a - b) g n ≡ behind k f n
owed_again k a b f g le q n =
    let e : k + q.0 ≡ a - b = omega (arith, q.1) in
    ap (λ m. behind m g n) (sym e) ∙ sym (behind_more k q.0 g n) ∙ ap (λ h. behind k h n) (sym (fun_ext q.2))

-- ---- the beginning, and behind an answer

pub starts : (code : Code) (l : Local) (this : Option Val) (vars : Vars) → l ≡ record { place = 0; this = this; work = record { stack = []; numbers = []; vars = vars } } → (n : ℕ) → frame_at code l n ≡ flat this n code vars
unfolding frame_at
starts code l this vars e n = ap (λ l. at (from l.this code n (drop l.place code)) l.work) e

pub passed : (code : Code) (k : ℕ) (old new : Local) (w : Work) → new ≡ record old { place = min (old.place + k) (length code); work = w } → (n : ℕ) → at (walk old.this code (spent old.this code n) k (drop old.place code)) w ≡ frame_at code new n
passed code k old new w e n = goes_from old.this code old.place k w new e n
