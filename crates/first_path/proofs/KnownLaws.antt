-- The acts of a script speak of objects that were made and of properties that there are.
use Rattle.std.proofs.Common.{◌≡◌, ℕ, zero, suc, ◌<◌, ◌≤◌, Bool, true, false, cond, List, [], ◌∷◌, length, Option, Some, None, refl, sym, ap, subst, ◌∙◌, arith}
use Rattle.std.specs.Option.{option_map, option_and_then}
use Rattle.std.specs.Ordering.{is_eq}
use Rattle.std.specs.Str.{bytes_eq}
use Rattle.obj_kinds.specs.SubOrder.{text_cmp}
use Rattle.first_path.specs.Lines.{Line, New, Fill, Save}
use Rattle.first_path.specs.Meaning.{History, made, named, place_of, property_of, act_of, acts_of, with_act}
use Rattle.first_path.specs.World.{Past, objects_made, IsKnown, AreKnown}
use Rattle.first_path.specs.Script.{IsScript}
use Rattle.first_path.specs.declared.act.Act.{Act}
use Rattle.first_path.specs.declared.act.Act.TheVariants as act

named-below : (before : History) (var : List ℕ) (object : ℕ) → named before var ≡ Some object → object < made before
named-below [] var object h = cc
named-below (New name ∷ before) var object h = by (named-below before var object) (is_eq (text_cmp name var)) h
  where
    by : (named before var ≡ Some object → object < made before) → (b : Bool) → cond b (Some (made before)) (named before var) ≡ Some object → object < suc (made before)
    by again true e = let same : made before ≡ object = cc in omega arith
    by again false e = let less = again e in omega arith
named-below (Fill name prop text ∷ before) var object h = named-below before var object h
named-below (Save name ∷ before) var object h = named-below before var object h

place-below : {A : Type 0} (test : A → Bool) (xs : List A) (place : ℕ) → place_of test xs ≡ Some place → place < length xs
place-below test [] place h = cc
place-below {A} test (x ∷ xs) place h = by (λ n e. place-below test xs n e) (test x) (place_of test xs) refl h
  where
    by : ((n : ℕ) → place_of test xs ≡ Some n → n < length xs) → (b : Bool) (o : Option ℕ) → place_of test xs ≡ o → cond b (Some 0) (option_map (λ n. suc n) o) ≡ Some place → place < suc (length xs)
    by again true o e k = let zero_is : 0 ≡ place = cc in omega arith
    by again false None e k = cc
    by again false (Some n) e k = let next : suc n ≡ place = cc in let less = again n e in omega arith

record Continues (a : Option Act) (others : Option (List Act)) (acts : List Act) : Type 0 where
  act : Act
  more : List Act
  first : a ≡ Some act
  rest : others ≡ Some more
  joined : act ∷ more ≡ acts

continues : (a : Option Act) (others : Option (List Act)) (acts : List Act) → with_act a others ≡ Some acts → Continues a others acts
continues None others acts h = cc
continues (Some a) None acts h = cc
continues (Some a) (Some more) acts h = record { act = a; more = more; first = refl; rest = refl; joined = cc }

-- what an act does to the count of objects, and that it is known
record Follows (props : List (List ℕ)) (before : History) (line : Line) (past : Past) (a : Act) : Type 0 where
  known : IsKnown (length props) past a
  count : objects_made (a ∷ past) ≡ made (line ∷ before)

module _ (props : List (List ℕ)) (before : History) (past : Past) (same : objects_made past ≡ made before) where
  follows : (line : Line) (a : Act) → act_of props before line ≡ Some a → Follows props before line past a
  follows (New var) a h =
      let is : act.Make ≡ a = cc in
      subst (Follows props before (New var) past) is record { known = tt; count = ap (λ n. suc n) same }
  follows (Fill var prop text) a h = by (named before var) refl (property_of props prop) refl h
    where
      by : (o : Option ℕ) → named before var ≡ o → (p : Option ℕ) → property_of props prop ≡ p → option_and_then (λ object. option_map (λ place. act.Fill object place text) p) o ≡ Some a → Follows props before (Fill var prop text) past a
      by None e p k h = cc
      by (Some object) e None k h = cc
      by (Some object) e (Some place) k h =
          let is : act.Fill object place text ≡ a = cc in
          let below = named-below before var object e in
          subst (Follows props before (Fill var prop text) past) is record { known = (omega arith, place-below (λ q. bytes_eq q prop) props place k); count = same }
  follows (Save var) a h = by (named before var) refl h
    where
      by : (o : Option ℕ) → named before var ≡ o → option_map (λ object. act.Save object) o ≡ Some a → Follows props before (Save var) past a
      by None e h = cc
      by (Some object) e h =
          let is : act.Save object ≡ a = cc in
          let below = named-below before var object e in
          subst (Follows props before (Save var) past) is record { known = omega arith; count = same }

are_known : (props : List (List ℕ)) (before : History) (past : Past) (lines : List Line) (acts : List Act) → objects_made past ≡ made before → acts_of props before lines ≡ Some acts → AreKnown (length props) past acts
are_known props before past [] acts same h = let none : [] ≡ acts = cc in subst (AreKnown (length props) past) none tt
are_known props before past (line ∷ lines) acts same h =
    let found = continues (act_of props before line) (acts_of props (line ∷ before) lines) acts h in
    let one = follows props before past same line found.act found.first in
    subst (AreKnown (length props) past) found.joined (one.known, are_known props (line ∷ before) (found.act ∷ past) lines found.more one.count found.rest)

pub script_known : (class : List ℕ) (props : List (List ℕ)) (text : List ℕ) (lines : List Line) (acts : List Act) → IsScript class props text lines acts → AreKnown (length props) [] acts
script_known class props text lines acts is = are_known props [] [] lines acts refl is.meant

acts_count : (props : List (List ℕ)) (before : History) (lines : List Line) (acts : List Act) → acts_of props before lines ≡ Some acts → length acts ≡ length lines
acts_count props before [] acts h = let none : [] ≡ acts = cc in ap length (sym none)
acts_count props before (line ∷ lines) acts h =
    let found = continues (act_of props before line) (acts_of props (line ∷ before) lines) acts h in
    ap length (sym found.joined) ∙ ap (λ n. suc n) (acts_count props (line ∷ before) lines found.more found.rest)

pub script_few : (class : List ℕ) (props : List (List ℕ)) (text : List ℕ) (lines : List Line) (acts : List Act) → IsScript class props text lines acts → length acts ≤ 10000
script_few class props text lines acts is = let same = acts_count props [] lines acts is.meant in let few = is.few in omega arith
