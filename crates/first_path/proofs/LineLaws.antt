-- A line is read exactly where it is spelt, and what follows it is left.
use Rattle.std.proofs.Common.{◌≡◌, ℕ, zero, suc, ◌+◌, ◌<◌, ◌≤◌, Bool, true, false, ◌&&◌, ◌==◌, nat_le, cond, List, [], ◌∷◌, ◌++◌, length, take, drop, Option, Some, None, IsTrue, codes, refl, sym, ap, subst, ◌∙◌, arith, append_assoc}
use Rattle.std.specs.Option.{option_map, option_and_then}
use Rattle.std.specs.List.{list_all}
use Rattle.std.proofs.lemmas.List.{take-append-drop}
use Rattle.std.proofs.lemmas.Bool.Decides.{Decides-eqb}
use Rattle.first_class.specs.Names.{is_alphanumeric, is_letter, is_digit, is_name}
use Rattle.first_path.specs.Pieces.{after, span, piece, name_in, text_in, is_text_byte, is_short}
use Rattle.first_path.specs.Lines.{Line, New, Fill, Save, line_text, is_formed}
use Rattle.first_path.specs.LineReading.{new_end, set_in, new_in, value_in, fill_in, save_in, first_of, line_in}

and_then-is : {A B : Type 0} (f : A → Option B) (o : Option A) (b : B) → option_and_then f o ≡ Some b → (a : A) × (o ≡ Some a) × (f a ≡ Some b)
and_then-is f None b h = cc
and_then-is f (Some a) b h = (a, refl, h)

map-is : {A B : Type 0} (f : A → B) (o : Option A) (b : B) → option_map f o ≡ Some b → (a : A) × (o ≡ Some a) × (f a ≡ b)
map-is f None b h = cc
map-is f (Some a) b h = (a, refl, cc)

pub both_true : (a b : Bool) → (a && b) ≡ true → (a ≡ true) × (b ≡ true)
both_true true b h = (refl, h)
both_true false b h = cc

same_byte : (a b : ℕ) → (a == b) ≡ true → a ≡ b
same_byte a b h = (Decides-eqb a b).0 h

-- LITERALS

pub after-is : (literal text rest : List ℕ) → after literal text ≡ Some rest → text ≡ literal ++ rest
after-is [] text rest h = cc
after-is (byte ∷ literal) [] rest h = cc
after-is (byte ∷ literal) (first ∷ text) rest h = by (byte == first) refl h (after-is literal text rest)
  where
    by : (b : Bool) → (byte == first) ≡ b → cond b (after literal text) None ≡ Some rest → (after literal text ≡ Some rest → text ≡ literal ++ rest) → first ∷ text ≡ byte ∷ (literal ++ rest)
    by true e h again = let tail = again h in let head = same_byte byte first e in cc
    by false e h again = cc

pub after-takes : (literal rest : List ℕ) → after literal (literal ++ rest) ≡ Some rest
after-takes [] rest = refl
after-takes (byte ∷ literal) rest = ap (λ b. cond b (after literal (literal ++ rest)) None) ((Decides-eqb byte byte).1 refl) ∙ after-takes literal rest

-- PIECES

pub piece-is : (test : ℕ → Bool) (is_kind : List ℕ → Bool) (text : List ℕ) (p : List ℕ × List ℕ) → piece test is_kind text ≡ Some p → (text ≡ p.0 ++ p.1) × (is_kind p.0 ≡ true) × (list_all test p.0 ≡ true)
piece-is test is_kind text p h = by (is_kind (take (span test text) text)) refl h
  where
    all : (t : List ℕ) → list_all test (take (span test t) t) ≡ true
    all [] = refl
    all (byte ∷ t) = at (test byte) refl (all t)
      where
        at : (b : Bool) → test byte ≡ b → list_all test (take (span test t) t) ≡ true → list_all test (take (cond b (suc (span test t)) 0) (byte ∷ t)) ≡ true
        at true e more = rw e more
        at false e more = refl

    parts : (q : List ℕ × List ℕ) → q ≡ p → (text ≡ q.0 ++ q.1) × (is_kind q.0 ≡ true) × (list_all test q.0 ≡ true) → (text ≡ p.0 ++ p.1) × (is_kind p.0 ≡ true) × (list_all test p.0 ≡ true)
    parts q same facts = subst (λ (o : List ℕ × List ℕ). (text ≡ o.0 ++ o.1) × (is_kind o.0 ≡ true) × (list_all test o.0 ≡ true)) same facts

    by : (b : Bool) → is_kind (take (span test text) text) ≡ b → cond b (Some (take (span test text) text, drop (span test text) text)) None ≡ Some p → (text ≡ p.0 ++ p.1) × (is_kind p.0 ≡ true) × (list_all test p.0 ≡ true)
    by true e h = parts (take (span test text) text, drop (span test text) text) (cc) (sym (take-append-drop (span test text) text), e, all text)
    by false e h = cc

-- the byte behind a piece ends it
span-all : (test : ℕ → Bool) (word : List ℕ) (byte : ℕ) (rest : List ℕ) → list_all test word ≡ true → test byte ≡ false → span test (word ++ byte ∷ rest) ≡ length word
span-all test [] byte rest all ends = rw ends refl
span-all test (first ∷ word) byte rest all ends =
    let parts = both_true (test first) (list_all test word) all in
    rw parts.0 (ap (λ n. suc n) (span-all test word byte rest parts.1 ends))

take-front : (word rest : List ℕ) → take (length word) (word ++ rest) ≡ word
take-front [] rest = refl
take-front (first ∷ word) rest = ap (λ w. first ∷ w) (take-front word rest)

drop-front : (word rest : List ℕ) → drop (length word) (word ++ rest) ≡ rest
drop-front [] rest = refl
drop-front (first ∷ word) rest = drop-front word rest

pub piece-takes : (test : ℕ → Bool) (is_kind : List ℕ → Bool) (word : List ℕ) (byte : ℕ) (rest : List ℕ) → list_all test word ≡ true → is_kind word ≡ true → test byte ≡ false
    → piece test is_kind (word ++ byte ∷ rest) ≡ Some (word, byte ∷ rest)
piece-takes test is_kind word byte rest all kind ends =
    let at : (n : ℕ) → n ≡ length word → cond {A = Option (List ℕ × List ℕ)} (is_kind (take n (word ++ byte ∷ rest))) (Some (take n (word ++ byte ∷ rest), drop n (word ++ byte ∷ rest))) None ≡ Some (word, byte ∷ rest) =
    λ n same. rw (same, take-front word (byte ∷ rest), drop-front word (byte ∷ rest), kind) refl in
    at (span test (word ++ byte ∷ rest)) (span-all test word byte rest all ends)

-- a name has letters and digits alone
name_all : (name : List ℕ) → is_name name ≡ true → list_all is_alphanumeric name ≡ true
name_all [] h = refl
name_all (first ∷ others) h =
    let parts = both_true (is_letter first && list_all is_alphanumeric others) (nat_le (length others) 30) h in
    let letters = both_true (is_letter first) (list_all is_alphanumeric others) parts.0 in
    rw letters.0 letters.1

pub name_in-is : (text : List ℕ) (p : List ℕ × List ℕ) → name_in text ≡ Some p → (text ≡ p.0 ++ p.1) × (is_name p.0 ≡ true) × (list_all is_alphanumeric p.0 ≡ true)
name_in-is = piece-is is_alphanumeric is_name

pub name_in-takes : (name : List ℕ) (byte : ℕ) (rest : List ℕ) → is_name name ≡ true → is_alphanumeric byte ≡ false → name_in (name ++ byte ∷ rest) ≡ Some (name, byte ∷ rest)
name_in-takes name byte rest is ends = piece-takes is_alphanumeric is_name name byte rest (name_all name is) is ends

-- LINES

spelt4 : (a b c d r : List ℕ) → a ++ (b ++ (c ++ (d ++ r))) ≡ (a ++ (b ++ (c ++ d))) ++ r
spelt4 a b c d r = sym (simp append_assoc)

pub spelt3 : (a b c r : List ℕ) → a ++ (b ++ (c ++ r)) ≡ (a ++ (b ++ c)) ++ r
spelt3 a b c r = sym (simp append_assoc)

pub spelt5 : (a b c d e r : List ℕ) → a ++ (b ++ (c ++ (d ++ (e ++ r)))) ≡ (a ++ (b ++ (c ++ (d ++ e)))) ++ r
spelt5 a b c d e r = sym (simp append_assoc)

pub spelt7 : (a b c d e f g r : List ℕ) → a ++ (b ++ (c ++ (d ++ (e ++ (f ++ (g ++ r)))))) ≡ (a ++ (b ++ (c ++ (d ++ (e ++ (f ++ g)))))) ++ r
spelt7 a b c d e f g r = sym (simp append_assoc)

set_in-is : (text : List ℕ) (v : List ℕ × List ℕ) → set_in text ≡ Some v → (text ≡ codes "Set " ++ (v.0 ++ v.1)) × (is_name v.0 ≡ true)
set_in-is text v h =
    let first = and_then-is name_in (after (codes "Set ") text) v h in
    let name = name_in-is first.0 v first.2 in
    (after-is (codes "Set ") text first.0 first.1 ∙ ap (λ r. codes "Set " ++ r) name.0, name.1)

new_end-is : (class text rest : List ℕ) → new_end class text ≡ Some rest → text ≡ codes "=##class(" ++ (class ++ (codes ").%New()\n" ++ rest))
new_end-is class text rest h =
    let last = and_then-is (after (codes ").%New()\n")) (option_and_then (after class) (after (codes "=##class(") text)) rest h in
    let middle = and_then-is (after class) (after (codes "=##class(") text) last.0 last.1 in
    after-is (codes "=##class(") text middle.0 middle.1
    ∙ ap (λ r. codes "=##class(" ++ r) (after-is class middle.0 last.0 middle.2 ∙ ap (λ r. class ++ r) (after-is (codes ").%New()\n") last.0 rest last.2))

-- the line that was read, and what follows it
pub record IsSpelt (class text : List ℕ) (line : Line) (rest : List ℕ) : Type 0 where
  pub split : text ≡ line_text class line ++ rest
  pub formed : is_formed line ≡ true

new_in-is : (class text : List ℕ) (v : List ℕ × List ℕ) → new_in class text ≡ Some v → IsSpelt class text (New v.0) v.1
unfolding new_in
new_in-is class text v h =
    let first = and_then-is (λ (w : List ℕ × List ℕ). option_map (λ (rest : List ℕ). (w.0, rest)) (new_end class w.1)) (set_in text) v h in
    let set = set_in-is text first.0 first.1 in
    let ended = map-is (λ (rest : List ℕ). (first.0.0, rest)) (new_end class first.0.1) v first.2 in
    subst (λ (w : List ℕ × List ℕ). IsSpelt class text (New w.0) w.1) ended.2 record {
      split = set.0 ∙ ap (λ r. codes "Set " ++ (first.0.0 ++ r)) (new_end-is class first.0.1 ended.0 ended.1)
          ∙ spelt5 (codes "Set ") first.0.0 (codes "=##class(") class (codes ").%New()\n") ended.0;
      formed = set.1;
    }

save_in-is : (class text : List ℕ) (v : List ℕ × List ℕ) → save_in text ≡ Some v → IsSpelt class text (Save v.0) v.1
unfolding save_in
save_in-is class text v h =
    let first = and_then-is (λ (w : List ℕ × List ℕ). option_map (λ (rest : List ℕ). (w.0, rest)) (after (codes ".%Save(),!\n") w.1)) (option_and_then name_in (after (codes "Write ") text)) v h in
    let begun = and_then-is name_in (after (codes "Write ") text) first.0 first.1 in
    let name = name_in-is begun.0 first.0 begun.2 in
    let ended = map-is (λ (rest : List ℕ). (first.0.0, rest)) (after (codes ".%Save(),!\n") first.0.1) v first.2 in
    subst (λ (w : List ℕ × List ℕ). IsSpelt class text (Save w.0) w.1) ended.2 record {
      split = after-is (codes "Write ") text begun.0 begun.1 ∙ ap (λ r. codes "Write " ++ r) (name.0 ∙ ap (λ r. first.0.0 ++ r) (after-is (codes ".%Save(),!\n") first.0.1 ended.0 ended.1))
          ∙ spelt3 (codes "Write ") first.0.0 (codes ".%Save(),!\n") ended.0;
      formed = name.1;
    }

abbrev Assigned : Type 0
Assigned = List ℕ × List ℕ × List ℕ

and_all : (a b c d : Bool) → a ≡ true → b ≡ true → c ≡ true → d ≡ true → (a && b && c && d) ≡ true
and_all true true true d h k l m = m
and_all false b c d h k l m = cc
and_all true false c d h k l m = cc
and_all true true false d h k l m = cc

record IsAssigned (text : List ℕ) (a : Assigned) : Type 0 where
  split : text ≡ codes "." ++ (a.0 ++ (codes "=\"" ++ (a.1 ++ (codes "\"\n" ++ a.2))))
  prop : is_name a.0 ≡ true
  short : is_short a.1 ≡ true
  plain : list_all is_text_byte a.1 ≡ true

value_in-is : (text : List ℕ) (a : Assigned) → value_in text ≡ Some a → IsAssigned text a
unfolding value_in
value_in-is text a h =
    let prop = and_then-is (λ (p : List ℕ × List ℕ). option_and_then (λ (t : List ℕ × List ℕ). option_map (λ (rest : List ℕ). (p.0, t.0, rest)) (after (codes "\"\n") t.1)) (option_and_then text_in (after (codes "=\"") p.1)))
    (option_and_then name_in (after (codes ".") text)) a h in
    let begun = and_then-is name_in (after (codes ".") text) prop.0 prop.1 in
    let name = name_in-is begun.0 prop.0 begun.2 in
    let value = and_then-is (λ (t : List ℕ × List ℕ). option_map (λ (rest : List ℕ). (prop.0.0, t.0, rest)) (after (codes "\"\n") t.1)) (option_and_then text_in (after (codes "=\"") prop.0.1)) a prop.2 in
    let quoted = and_then-is text_in (after (codes "=\"") prop.0.1) value.0 value.1 in
    let plain = piece-is is_text_byte is_short quoted.0 value.0 quoted.2 in
    let ended = map-is (λ (rest : List ℕ). (prop.0.0, value.0.0, rest)) (after (codes "\"\n") value.0.1) a value.2 in
    subst (IsAssigned text) ended.2 record {
      split = after-is (codes ".") text begun.0 begun.1
          ∙ ap (λ r. codes "." ++ r) (name.0
          ∙ ap (λ r. prop.0.0 ++ r) (after-is (codes "=\"") prop.0.1 quoted.0 quoted.1
          ∙ ap (λ r. codes "=\"" ++ r) (plain.0 ∙ ap (λ r. value.0.0 ++ r) (after-is (codes "\"\n") value.0.1 ended.0 ended.1))));
      prop = name.1;
      short = plain.1;
      plain = plain.2;
    }

fill_in-is : (class text : List ℕ) (f : List ℕ × List ℕ × List ℕ × List ℕ) → fill_in text ≡ Some f → IsSpelt class text (Fill f.0 f.1 f.2) f.3
unfolding fill_in
fill_in-is class text f h =
    let first = and_then-is (λ (v : List ℕ × List ℕ). option_map (λ (p : Assigned). (v.0, p.0, p.1, p.2)) (value_in v.1)) (set_in text) f h in
    let set = set_in-is text first.0 first.1 in
    let ended = map-is (λ (p : Assigned). (first.0.0, p.0, p.1, p.2)) (value_in first.0.1) f first.2 in
    let value = value_in-is first.0.1 ended.0 ended.1 in
    subst (λ (g : List ℕ × List ℕ × List ℕ × List ℕ). IsSpelt class text (Fill g.0 g.1 g.2) g.3) ended.2 record {
      split = set.0 ∙ ap (λ r. codes "Set " ++ (first.0.0 ++ r)) value.split
          ∙ spelt7 (codes "Set ") first.0.0 (codes ".") ended.0.0 (codes "=\"") ended.0.1 (codes "\"\n") ended.0.2;
      formed = and_all (is_name first.0.0) (is_name ended.0.0) (is_short ended.0.1) (list_all is_text_byte ended.0.1) set.1 value.prop value.short value.plain;
    }

pub line_in-is : (class text : List ℕ) (p : Line × List ℕ) → line_in class text ≡ Some p → IsSpelt class text p.0 p.1
unfolding line_in
line_in-is class text p h = new (new_in class text) refl h
  where
    at : (q : Line × List ℕ) → q ≡ p → IsSpelt class text q.0 q.1 → IsSpelt class text p.0 p.1
    at q same facts = subst (λ (o : Line × List ℕ). IsSpelt class text o.0 o.1) same facts

    save : (o : Option (List ℕ × List ℕ)) → save_in text ≡ o → option_map {U = Line × List ℕ} (λ v. (Save v.0, v.1)) o ≡ Some p → IsSpelt class text p.0 p.1
    save None e h = cc
    save (Some v) e h = at (Save v.0, v.1) (cc) (save_in-is class text v e)

    fill : (o : Option (List ℕ × List ℕ × List ℕ × List ℕ)) → fill_in text ≡ o → first_of {A = Line × List ℕ} (option_map (λ f. (Fill f.0 f.1 f.2, f.3)) o) (option_map (λ v. (Save v.0, v.1)) (save_in text)) ≡ Some p → IsSpelt class text p.0 p.1
    fill None e h = save (save_in text) refl h
    fill (Some f) e h = at (Fill f.0 f.1 f.2, f.3) (cc) (fill_in-is class text f e)

    new : (o : Option (List ℕ × List ℕ)) → new_in class text ≡ o
        → first_of {A = Line × List ℕ} (option_map (λ v. (New v.0, v.1)) o) (first_of (option_map (λ f. (Fill f.0 f.1 f.2, f.3)) (fill_in text)) (option_map (λ v. (Save v.0, v.1)) (save_in text))) ≡ Some p → IsSpelt class text p.0 p.1
    new None e h = fill (fill_in text) refl h
    new (Some v) e h = at (New v.0, v.1) (cc) (new_in-is class text v e)
