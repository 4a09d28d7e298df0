-- What is read of a script is what its form says, and the other way round.
use Rattle.std.proofs.Common.{◌≡◌, ℕ, zero, suc, ◌+◌, ◌≤◌, ◌<◌, Bool, true, false, ◌&&◌, List, [], ◌∷◌, ◌++◌, length, Option, Some, None, codes, refl, sym, ap, subst, ◌∙◌, arith, append_assoc}
use Rattle.std.specs.Option.{option_map}
use Rattle.std.specs.List.{flat_map, list_all}
use Rattle.first_path.specs.Lines.{Line, New, Fill, Save, line_text, is_formed}
use Rattle.first_path.specs.LineReading.{line_in}
use Rattle.first_path.specs.Meaning.{History, act_of, with_act, acts_of}
use Rattle.first_path.specs.Script.{IsScript, turned, script_in}
use Rattle.first_path.specs.declared.act.Act.{Act}
use Rattle.first_path.proofs.LineLaws.{IsSpelt, line_in-is, both_true}
use Rattle.first_path.proofs.LineTakes.{line_in-takes}

pub script_in-nil : (room : ℕ) (class : List ℕ) (props : List (List ℕ)) (before : History) → script_in room class props before [] ≡ Some []
unfolding script_in
script_in-nil zero class props before = refl
script_in-nil (suc room) class props before = refl

pub script_in-full : (class : List ℕ) (props : List (List ℕ)) (before : History) (byte : ℕ) (text : List ℕ) → script_in 0 class props before (byte ∷ text) ≡ None
unfolding script_in
script_in-full class props before byte text = refl

pub script_in-none : (room : ℕ) (class : List ℕ) (props : List (List ℕ)) (before : History) (byte : ℕ) (text : List ℕ) → line_in class (byte ∷ text) ≡ None → script_in (suc room) class props before (byte ∷ text) ≡ None
unfolding script_in
script_in-none room class props before byte text none = rw none refl

pub script_in-step : (room : ℕ) (class : List ℕ) (props : List (List ℕ)) (before : History) (byte : ℕ) (text : List ℕ) (line : Line) (rest : List ℕ) → line_in class (byte ∷ text) ≡ Some (line, rest)
    → script_in (suc room) class props before (byte ∷ text) ≡ with_act (act_of props before line) (script_in room class props (line ∷ before) rest)
unfolding script_in
script_in-step room class props before byte text line rest found = rw found refl

-- the lines of a text that was read
pub record AreLines (room : ℕ) (class : List ℕ) (props : List (List ℕ)) (before : History) (text : List ℕ) (acts : List Act) : Type 0 where
  pub lines : List Line
  pub spelt : text ≡ flat_map (line_text class) lines
  pub formed : list_all is_formed lines ≡ true
  pub few : length lines ≤ room
  pub meant : acts_of props before lines ≡ Some acts

-- what is done behind an act that there is
record Continues (a : Option Act) (others : Option (List Act)) (acts : List Act) : Type 0 where
  act : Act
  more : List Act
  first : a ≡ Some act
  rest : others ≡ Some more
  joined : act ∷ more ≡ acts

continues : (a : Option Act) (others : Option (List Act)) (acts : List Act) → with_act a others ≡ Some acts → Continues a others acts
continues None others acts h = cc
continues (Some act) None acts h = cc
continues (Some act) (Some more) acts h = record { act = act; more = more; first = refl; rest = refl; joined = cc }

lines_more : (room : ℕ) (class : List ℕ) (props : List (List ℕ)) (before : History) (text rest : List ℕ) (acts : List Act) (line : Line) → IsSpelt class text line rest
    → (found : Continues (act_of props before line) (script_in room class props (line ∷ before) rest) acts) → AreLines room class props (line ∷ before) rest found.more → AreLines (suc room) class props before text acts
lines_more room class props before text rest acts line is found others = record {
  lines = line ∷ others.lines;
  spelt = is.split ∙ ap (λ r. line_text class line ++ r) others.spelt;
  formed = rw is.formed others.formed;
  few = let e = others.few in omega arith;
  meant = rw (found.first, others.meant) (ap Some found.joined);
}

pub script_in-is : (room : ℕ) (class : List ℕ) (props : List (List ℕ)) (before : History) (text : List ℕ) (acts : List Act) → script_in room class props before text ≡ Some acts → AreLines room class props before text acts
script_in-is room class props before [] acts h =
    let none : [] ≡ acts = let e = script_in-nil room class props before in cc in
    subst (AreLines room class props before []) none record { lines = []; spelt = refl; formed = refl; few = omega arith; meant = refl }
script_in-is zero class props before (byte ∷ text) acts h = let e = script_in-full class props before byte text in cc
script_in-is (suc room) class props before (byte ∷ text) acts h = by (line_in class (byte ∷ text)) refl (λ b t a. script_in-is room class props b t a)
  where
    by : (o : Option (Line × List ℕ)) → line_in class (byte ∷ text) ≡ o → ((b : History) (t : List ℕ) (a : List Act) → script_in room class props b t ≡ Some a → AreLines room class props b t a)
        → AreLines (suc room) class props before (byte ∷ text) acts
    by None e again = let none = script_in-none room class props before byte text e in cc
    by (Some p) e again =
        let found = continues (act_of props before p.0) (script_in room class props (p.0 ∷ before) p.1) acts (sym (script_in-step room class props before byte text p.0 p.1 e) ∙ h) in
        lines_more room class props before (byte ∷ text) p.1 acts p.0 (line_in-is class (byte ∷ text) p e) found (again (p.0 ∷ before) p.1 found.more found.rest)

-- no line is empty
first_byte : (class : List ℕ) (line : Line) (rest : List ℕ) → (byte : ℕ) × (text : List ℕ) × (line_text class line ++ rest ≡ byte ∷ text)
first_byte class (New var) rest = (83, _, refl)
first_byte class (Fill var prop text) rest = (83, _, refl)
first_byte class (Save var) rest = (87, _, refl)

pub script_in-takes : (room : ℕ) (class : List ℕ) (props : List (List ℕ)) (before : History) (lines : List Line) (acts : List Act) → list_all is_formed lines ≡ true → length lines ≤ room → acts_of props before lines ≡ Some acts
    → script_in room class props before (flat_map (line_text class) lines) ≡ Some acts
script_in-takes room class props before [] acts formed few meant = script_in-nil room class props before ∙ meant
script_in-takes zero class props before (line ∷ lines) acts formed few meant = absurd (omega arith)
script_in-takes (suc room) class props before (line ∷ lines) acts formed few meant =
    let parts = both_true (is_formed line) (list_all is_formed lines) formed in
    let rest = flat_map (line_text class) lines in
    let first = first_byte class line rest in
    let read : line_in class (first.0 ∷ first.1) ≡ Some (line, rest) = subst (λ t. line_in class t ≡ Some (line, rest)) first.2 (line_in-takes class line rest parts.0) in
    let found = continues (act_of props before line) (acts_of props (line ∷ before) lines) acts meant in
    let others = script_in-takes room class props (line ∷ before) lines found.more parts.1 (omega arith) found.rest in
    subst (λ t. script_in (suc room) class props before t ≡ Some acts) (sym first.2)
    (script_in-step room class props before first.0 first.1 line rest read ∙ rw (found.first, others) (ap Some found.joined))

pub script_of_read : (class : List ℕ) (props : List (List ℕ)) (text : List ℕ) (acts : List Act) → script_in 10000 class props [] text ≡ Some acts → (lines : List Line) × IsScript class props text lines acts
script_of_read class props text acts h =
    let are = script_in-is 10000 class props [] text acts h in
    (are.lines, record { spelt = are.spelt; formed = are.formed; few = are.few; meant = are.meant })

pub no_script : (class : List ℕ) (props : List (List ℕ)) (text : List ℕ) → script_in 10000 class props [] text ≡ None → (lines : List Line) (acts : List Act) → IsScript class props text lines acts → ⊥
no_script class props text none lines acts is =
    let some = ap (script_in 10000 class props []) is.spelt ∙ script_in-takes 10000 class props [] lines acts is.formed is.few is.meant in
    cc
