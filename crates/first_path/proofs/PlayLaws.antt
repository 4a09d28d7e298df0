-- One act further in the playing of a script.
use Rattle.std.proofs.Common.{◌≡◌, ℕ, suc, Bool, true, false, cond, length-append, ◌+◌, ◌-◌, ◌^◌, ◌<◌, ◌≤◌, min, List, [], ◌∷◌, ◌++◌, reverse, length, get_or, take, drop, Option, Some, None, codes, refl, sym, ap, subst, ◌∙◌, arith, append_assoc}
use Rattle.std.specs.Option.{IfSome, is_some}
use Rattle.std.specs.List.{flat_map}
use Rattle.std.proofs.lemmas.List.{reverse-append, take-append-drop, take_more, drop_all, take_all, length-map, length-reverse}
use Rattle.std.proofs.lemmas.Grind.{flat_map-append}
use Rattle.std.proofs.Math.Seq.{drop-cons}
use Rattle.obj_edges.specs.Told.{Rises, Adds, AddsFront}
use Rattle.first_path.specs.World.{AreKnown, IsKnown, world_after, world_of, first_saves, saved_fields, place_among}
use Rattle.first_path.specs.Amid.{PastKnown, IsAmid}
use Rattle.first_path.specs.Steps.{CanStep, Steps, Stands}
use Rattle.first_path.specs.Play.{print_of, prints_of, AddsCut, IsWhole, IsCut}
use Rattle.first_path.specs.declared.act.Act.{Act}
use Rattle.first_path.specs.declared.act.Act.TheVariants.{Make, Fill, Save}
use Rattle.first_path.specs.declared.session.Session.{Session}
use Rattle.first_path.proofs.WorldLaws.{next_stands, can_step}

some_same : {A : Type 0} (a b : A) → Some a ≡ Some b → a ≡ b
some_same a b h = cc

adds_more : (old now new : Option (List ℕ)) (xs ys : List ℕ) → Adds old now xs → Adds now new ys → Adds old new (xs ++ ys)
adds_more None now new xs ys h k = tt
adds_more (Some before) None new xs ys h k = cc
adds_more (Some before) (Some at) new xs ys h k = k ∙ ap (λ b. Some (b ++ ys)) (some_same at (before ++ xs) h) ∙ ap Some (append_assoc before xs ys)

adds_cut : (old now new : Option (List ℕ)) (xs ys : List ℕ) → Adds old now xs → AddsFront now new ys → AddsCut old new xs ys
adds_cut None now new xs ys h k = tt
adds_cut (Some before) None new xs ys h k = cc
adds_cut (Some before) (Some at) new xs ys h (front, rest, split, told) = (front, rest, split, told ∙ ap (λ b. Some (b ++ front)) (some_same at (before ++ xs) h))

latest : (done : List Act) (act : Act) → reverse (done ++ act ∷ []) ≡ act ∷ reverse done
latest done act = reverse-append done (act ∷ [])

world_at : (n : ℕ) (done : List Act) (act : Act) (s : Session) → Stands n (act ∷ reverse done) s → s.saved ≡ world_of n (done ++ act ∷ [])
unfolding world_of
world_at n done act s stands = stands.saved ∙ ap (world_after n) (sym (latest done act))

module _ (n : ℕ) (done rest : List Act) (act : Act) (s new : Session) (old now : Option (List ℕ)) (faults faults' : ℕ) (amid : IsAmid n done (act ∷ rest) s old now faults faults') where
  pub amid_can : CanStep act s
  amid_can = can_step n (reverse done) s amid.stands amid.known act amid.others.0

  after_step : Steps act s new → Stands n (act ∷ reverse done) new
  after_step steps = next_stands n (reverse done) s amid.stands amid.known act new amid.others.0 steps

  pub amid_step : (now' : Option (List ℕ)) (faults'' : ℕ) → Steps act s new → Adds now now' (print_of act) → faults' ≤ faults'' → IsAmid n (done ++ act ∷ []) rest new old now' faults faults''
  amid_step now' faults'' steps printed rise = record {
    stands = subst (λ past. Stands n past new) (sym (latest done act)) (after_step steps);
    known = subst (PastKnown n) (sym (latest done act)) (amid.others.0, amid.known);
    others = subst (λ past. AreKnown n past rest) (sym (latest done act)) amid.others.1;
    printed = subst (Adds old now') (sym (flat_map-append print_of done (act ∷ []) ∙ ap (λ p. prints_of done ++ p) (nothing_more (print_of act)))) (adds_more old now now' (prints_of done) (print_of act) amid.printed printed);
    faults_rise = let e = amid.faults_rise in omega arith;
  }
    where
      nothing_more : (xs : List ℕ) → xs ++ [] ≡ xs
      nothing_more [] = refl
      nothing_more (x ∷ xs) = ap (λ ys. x ∷ ys) (nothing_more xs)

  pub amid_cut : (now' : Option (List ℕ)) (faults'' object : ℕ) → Steps act s new → act ≡ Save object → AddsFront now now' (print_of act) → Rises faults' faults'' → IsCut n (done ++ act ∷ rest) old now' faults faults'' new.saved
  amid_cut now' faults'' object steps is printed rises = record {
    front = done;
    object = object;
    rest = rest;
    split = ap (λ a. done ++ a ∷ rest) is;
    printed = adds_cut old now now' (prints_of done) (codes "1\n") amid.printed (subst (λ a. AddsFront now now' (print_of a)) is printed);
    rises = let e = amid.faults_rise in omega arith;
    world = world_at n done act new (after_step steps) ∙ ap (λ a. world_of n (done ++ a ∷ [])) is;
  }

pub amid_end : (n : ℕ) (acts : List Act) (s : Session) (old now : Option (List ℕ)) (faults faults' : ℕ) → IsAmid n acts [] s old now faults faults' → IsWhole n acts old now s.saved
unfolding world_of
amid_end n acts s old now faults faults' amid = record { printed = amid.printed; world = amid.stands.saved }

-- THE ACT AT AN INDEX

pub at_index : (acts : List Act) (k : ℕ) (act : Act) → k < length acts → act ≡ get_or acts k act → drop k acts ≡ act ∷ drop (k + 1) acts
at_index acts k act less is =
    let next : k + 1 ≡ suc k = omega arith in
    drop-cons acts k act less ∙ ap (λ a. a ∷ drop (suc k) acts) (sym is) ∙ ap (λ j. act ∷ drop j acts) (sym next)

pub whole_at : (acts : List Act) (k : ℕ) (act : Act) → k < length acts → act ≡ get_or acts k act → acts ≡ take k acts ++ act ∷ drop (k + 1) acts
whole_at acts k act less is = sym (take-append-drop k acts) ∙ ap (λ r. take k acts ++ r) (at_index acts k act less is)

pub front_at : (acts : List Act) (k : ℕ) (act : Act) → k < length acts → act ≡ get_or acts k act → take (k + 1) acts ≡ take k acts ++ act ∷ []
front_at acts k act less is = take_more acts k act less ∙ ap (λ a. take k acts ++ a ∷ []) (sym is)

-- AT THE END NOTHING IS LEFT

module _ (n : ℕ) (acts : List Act) (k : ℕ) (s : Session) (old now : Option (List ℕ)) (faults faults' : ℕ) where
  pub amid_at : (act : Act) → k < length acts → act ≡ get_or acts k act → IsAmid n (take k acts) (drop k acts) s old now faults faults' → IsAmid n (take k acts) (act ∷ drop (k + 1) acts) s old now faults faults'
  amid_at act less is amid = subst (λ rest. IsAmid n (take k acts) rest s old now faults faults') (at_index acts k act less is) amid

  pub end_at : length acts ≤ k → IsAmid n (take k acts) (drop k acts) s old now faults faults' → IsWhole n acts old now s.saved
  end_at le amid =
      let done = subst (λ front. IsAmid n front (drop k acts) s old now faults faults') (take_all k acts le) amid in
      amid_end n acts s old now faults faults' (subst (λ rest. IsAmid n acts rest s old now faults faults') (drop_all {X = Act} k acts le) done)

pub amid_moved : {n : ℕ} {front done rest : List Act} {s : Session} {old now : Option (List ℕ)} {faults faults' : ℕ} → done ≡ front → IsAmid n front rest s old now faults faults' → IsAmid n done rest s old now faults faults'
amid_moved {n} {front} {done} {rest} {s} {old} {now} {faults} {faults'} same amid = subst (λ (fs : List Act). IsAmid n fs rest s old now faults faults') (sym same) amid

-- NO MORE ROWS THAN ACTS

saves_few : (before : List Act) → length (first_saves before) ≤ length before
saves_few [] = omega arith
saves_few (Make ∷ before) = let few = saves_few before in omega arith
saves_few (Fill object place text ∷ before) = let few = saves_few before in omega arith
saves_few (Save object ∷ before) = by (is_some (place_among (first_saves before) object)) (saves_few before)
  where
    by : (b : Bool) → length (first_saves before) ≤ length before → length (cond b (first_saves before) (first_saves before ++ object ∷ [])) ≤ suc (length before)
    by true few = omega arith
    by false few = omega (arith, length-append (first_saves before) (object ∷ []))

world_few : (n : ℕ) (acts : List Act) → length (world_of n acts) ≤ length acts
unfolding world_of
world_few n acts = omega (arith, saves_few (reverse acts), length-map (first_saves (reverse acts)) (saved_fields n (reverse acts)), length-reverse acts)

pub whole_few : (n : ℕ) (acts : List Act) (old new : Option (List ℕ)) (saved : List (List (List ℕ))) → IsWhole n acts old new saved → length saved ≤ length acts
whole_few n acts old new saved is = omega (arith, ap length is.world, world_few n acts)

pub cut_few : (n : ℕ) (acts : List Act) (old new : Option (List ℕ)) (faults faults' : ℕ) (saved : List (List (List ℕ))) → IsCut n acts old new faults faults' saved → length saved ≤ length acts
cut_few n acts old new faults faults' saved is =
    omega (arith, ap length is.world, world_few n (is.front ++ Save is.object ∷ []), length-append is.front (Save is.object ∷ []), ap length is.split, length-append is.front (Save is.object ∷ is.rest))
