-- One line further in the reading of a script.
use Rattle.std.proofs.Common.{◌≡◌, ◌≢◌, ◌⊎◌, inl, inr, ℕ, zero, suc, ◌+◌, ◌-◌, ◌≤◌, ◌<◌, ◌==◌, Bool, true, false, length, cond, List, [], ◌∷◌, ◌++◌, Option, Some, None, refl, sym, ap, subst, ◌∙◌, arith, append_assoc, append-nil}
use Rattle.std.specs.Option.{option_map, option_and_then}
use Rattle.std.proofs.lemmas.Bool.Decides.{Decides-eqb}
use Rattle.std.specs.Ordering.{is_eq}
use Rattle.std.specs.BTreeMap.{get}
use Rattle.obj_kinds.specs.SubOrder.{text_cmp}
use Rattle.first_path.specs.Lines.{Line, New, Fill, Save}
use Rattle.first_path.specs.LineReading.{line_in}
use Rattle.first_path.specs.Meaning.{History, made, named, act_with, act_of, with_act, property_of}
use Rattle.first_path.specs.Reading.{names_of, Learns, IsUnderstood, IsNoAct}
use Rattle.first_path.specs.Script.{script_in}
use Rattle.first_path.specs.Turns.{IsBetween}
use Rattle.first_path.specs.declared.act.Act.{Act}
use Rattle.first_path.specs.declared.act.Act.TheVariants as act
use Rattle.first_path.specs.declared.script.Reading.{Reading}
use Rattle.first_path.proofs.ScriptLaws.{script_in-nil, script_in-full, script_in-none, script_in-step}

-- an act depends on the objects that the variables name alone
act_with-same : (props : List (List ℕ)) (f g : List ℕ → Option ℕ) → ((var : List ℕ) → f var ≡ g var) → (line : Line) → act_with props f line ≡ act_with props g line
act_with-same props f g same (New var) = refl
act_with-same props f g same (Fill var prop text) = ap (option_and_then (λ object. option_map (λ place. act.Fill object place text) (property_of props prop))) (same var)
act_with-same props f g same (Save var) = ap (option_map (λ object. act.Save object)) (same var)

-- the variables after the line
names_after : (before : History) (old new : Reading) (line : Line) → ((var : List ℕ) → names_of old var ≡ named before var) → old.made ≡ made before → Learns line old new → (var : List ℕ) → names_of new var ≡ named (line ∷ before) var
names_after before old new (New name) names made_is learnt var =
    learnt.0.0 var ∙ λ i. cond (is_eq (text_cmp name var)) (Some (made_is i)) (names var i)
names_after before old new (Fill name prop text) names made_is learnt var = ap (λ m. get text_cmp m var) learnt.0 ∙ names var
names_after before old new (Save name) names made_is learnt var = ap (λ m. get text_cmp m var) learnt.0 ∙ names var

made_after : (before : History) (old new : Reading) (line : Line) → old.made ≡ made before → Learns line old new → new.made ≡ made (line ∷ before)
made_after before old new (New name) made_is learnt = learnt.1 ∙ ap (λ n. suc n) made_is
made_after before old new (Fill name prop text) made_is learnt = learnt.1 ∙ made_is
made_after before old new (Save name) made_is learnt = learnt.1 ∙ made_is

few_after : (old new : Reading) (line : Line) (room : ℕ) → old.made + suc room ≤ 10000 → Learns line old new → new.made + room ≤ 10000
few_after old new (New name) room few learnt = let e = learnt.1 in omega arith
few_after old new (Fill name prop text) room few learnt = let e = learnt.1 in omega arith
few_after old new (Save name) room few learnt = let e = learnt.1 in omega arith

joined : (acts : List Act) (a : Act) (o : Option (List Act)) → option_map (λ more. (acts ++ a ∷ []) ++ more) o ≡ option_map (λ more. acts ++ more) (option_map (λ more. a ∷ more) o)
joined acts a None = refl
joined acts a (Some more) = ap Some (append_assoc acts (a ∷ []) more)

pub next_turn : (class : List ℕ) (props : List (List ℕ)) (text : List ℕ) (byte : ℕ) (here : List ℕ) (room : ℕ) (old new : Reading) (line : Line) (rest : List ℕ) → IsBetween class props text (byte ∷ here) (suc room) old
    → line_in class (byte ∷ here) ≡ Some (line, rest) → IsUnderstood props line old new → IsBetween class props text rest room new
next_turn class props text byte here room old new line rest is found understood = record {
  before = line ∷ is.before;
  names = names_after is.before old new line is.names is.made_is understood.learnt;
  made_is = made_after is.before old new line is.made_is understood.learnt;
  few = few_after old new line room is.few understood.learnt;
  read =
      let others = script_in room class props (line ∷ is.before) rest in
      let acts : act_of props is.before line ≡ Some understood.act = sym (act_with-same props (names_of old) (named is.before) is.names line) ∙ understood.means in
      let whole : script_in (suc room) class props is.before (byte ∷ here) ≡ option_map (λ more. understood.act ∷ more) others =
      script_in-step room class props is.before byte here line rest found ∙ ap (λ a. with_act a others) acts in
      ap (λ acts. option_map (λ more. acts ++ more) others) understood.added
      ∙ joined old.acts understood.act others
      ∙ ap (option_map (λ more. old.acts ++ more)) (sym whole)
      ∙ is.read;
}

pub turn_full : (class : List ℕ) (props : List (List ℕ)) (text : List ℕ) (byte : ℕ) (here : List ℕ) (r : Reading) → IsBetween class props text (byte ∷ here) 0 r → script_in 10000 class props [] text ≡ None
turn_full class props text byte here r is = sym is.read ∙ ap (option_map (λ more. r.acts ++ more)) (script_in-full class props is.before byte here)

pub turn_unread : (class : List ℕ) (props : List (List ℕ)) (text : List ℕ) (byte : ℕ) (here : List ℕ) (room : ℕ) (r : Reading) → IsBetween class props text (byte ∷ here) (suc room) r → line_in class (byte ∷ here) ≡ None
    → script_in 10000 class props [] text ≡ None
turn_unread class props text byte here room r is none = sym is.read ∙ ap (option_map (λ more. r.acts ++ more)) (script_in-none room class props is.before byte here none)

pub turn_unknown : (class : List ℕ) (props : List (List ℕ)) (text : List ℕ) (byte : ℕ) (here : List ℕ) (room : ℕ) (r : Reading) (line : Line) (rest : List ℕ) → IsBetween class props text (byte ∷ here) (suc room) r
    → line_in class (byte ∷ here) ≡ Some (line, rest) → IsNoAct props line r → script_in 10000 class props [] text ≡ None
turn_unknown class props text byte here room r line rest is found none =
    let acts : act_of props is.before line ≡ None = sym (act_with-same props (names_of r) (named is.before) is.names line) ∙ none in
    sym is.read ∙ ap (option_map (λ more. r.acts ++ more)) (script_in-step room class props is.before byte here line rest found ∙ ap (λ a. with_act a (script_in room class props (line ∷ is.before) rest)) acts)

pub last_turn : (class : List ℕ) (props : List (List ℕ)) (text : List ℕ) (room : ℕ) (r : Reading) → IsBetween class props text [] room r → script_in 10000 class props [] text ≡ Some r.acts
last_turn class props text room r is = sym is.read ∙ ap (option_map (λ more. r.acts ++ more)) (script_in-nil room class props is.before) ∙ ap Some (append-nil r.acts)

-- THE TURNS AT A REST THAT ISN'T EMPTY

module _ (class : List ℕ) (props : List (List ℕ)) (text : List ℕ) where
  pub next_at : (here : List ℕ) (room : ℕ) (old new : Reading) (line : Line) (rest : List ℕ) → (length here == 0) ≡ false → room ≢ 0 → IsBetween class props text here room old → line_in class here ≡ Some (line, rest)
      → IsUnderstood props line old new → IsBetween class props text rest (room - 1) new
  next_at [] room old new line rest some more is found understood = cc
  next_at (byte ∷ here) zero old new line rest some more is found understood = absurd (more refl)
  next_at (byte ∷ here) (suc room) old new line rest some more is found understood =
      let less : suc room - 1 ≡ room = omega arith in
      subst (λ n. IsBetween class props text rest n new) (sym less) (next_turn class props text byte here room old new line rest is found understood)

  pub full_at : (here : List ℕ) (room : ℕ) (r : Reading) → (length here == 0) ≡ false → room ≡ 0 → IsBetween class props text here room r → script_in 10000 class props [] text ≡ None
  full_at [] room r some none is = cc
  full_at (byte ∷ here) room r some none is = turn_full class props text byte here r (subst (λ n. IsBetween class props text (byte ∷ here) n r) none is)

  pub refused_at : (here : List ℕ) (room : ℕ) (r : Reading) → (length here == 0) ≡ false → room ≢ 0 → IsBetween class props text here room r
      → (line_in class here ≡ None) ⊎ ((line : Line) × (rest : List ℕ) × (line_in class here ≡ Some (line, rest)) × IsNoAct props line r) → script_in 10000 class props [] text ≡ None
  refused_at [] room r some more is why = cc
  refused_at (byte ∷ here) zero r some more is why = absurd (more refl)
  refused_at (byte ∷ here) (suc room) r some more is (inl none) = turn_unread class props text byte here room r is none
  refused_at (byte ∷ here) (suc room) r some more is (inr why) = turn_unknown class props text byte here room r why.0 why.1 is why.2 why.3

  pub last_at : (here : List ℕ) (room : ℕ) (r : Reading) → (length here == 0) ≡ true → IsBetween class props text here room r → script_in 10000 class props [] text ≡ Some r.acts
  last_at [] room r none is = last_turn class props text room r is
  last_at (byte ∷ here) room r none is = let zero_len : length (byte ∷ here) ≡ 0 = (Decides-eqb (length (byte ∷ here)) 0).0 none in absurd (omega arith)
