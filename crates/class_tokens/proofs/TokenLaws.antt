-- The tokens of a text and what stands between them are the whole text.
use Rattle.std.proofs.Common.{◌≡◌, ◌⊎◌, inl, inr, ℕ, zero, suc, ◌+◌, ◌-◌, ◌≤◌, ◌<◌, Bool, true, false, not, ◌&&◌, ◌||◌, if◌then◌else◌, ◌==◌, Option, Some, None, List, [], ◌∷◌, ◌++◌, take, drop, length, slice_index, codes, refl, sym, ap, subst, ◌∙◌, arith}
use Rattle.std.proofs.Common.{eqb-true}
use Rattle.std.proofs.lemmas.List.{take-append-drop, length-drop, length-take}
use Rattle.std.specs.List.{prefix_len}
use Rattle.std.specs.Char.{is_ascii_digit, is_ascii_alphanumeric}
use Rattle.text_reading.specs.Tokens.{Bytes, Tok, Toks}
use Rattle.text_reading.proofs.Theory.{bool_cases}
use Rattle.class_tokens.specs.declared.token.Kind.{Kind}
use Rattle.class_tokens.specs.declared.token.Kind.TheVariants as k
use Rattle.class_tokens.specs.declared.blocks.Part.{Part}
use Rattle.class_tokens.specs.declared.blocks.Part.TheVariants.{Code}
use Rattle.class_tokens.specs.declared.mode.At.{At}
use Rattle.class_tokens.specs.declared.mode.At.TheVariants as at
use Rattle.class_tokens.specs.declared.mode.Joint.{Joint}
use Rattle.class_tokens.specs.declared.mode.Joint.TheVariants as j
use Rattle.class_tokens.specs.declared.mode.Mode.{Mode}
use Rattle.class_tokens.specs.declared.chars.Set.TheVariants as set
use Rattle.class_tokens.specs.ClassBytes.{is_ascii, is_in, past}
use Rattle.class_tokens.specs.ClassBlocks.{Cut, quoted_from, comment_from, depth_after, storage_from, part_after, is_code, body_from, is_closing, top, open_after, balanced_from}
use Rattle.class_tokens.specs.ClassModes.{after, start}
use Rattle.class_tokens.specs.ClassTokens.{is_space, IsBetween, Space, Comment, IsLongest, AreTokens, Over, Between, Token}
use Rattle.text_reading.proofs.LexingLaws.{tokens_none, tokens_goes, tokens_first}
use Rattle.class_tokens.specs.ClassLex.{digits, same_letters, head_word, type_word, member_word, left_out_word, or_else, word_kind, is_at_own_name, single_word, first_word, kind_by, kind_of_word, word, begins_word, slash, brace_at, brace, parenthesis, is_joined, single, token, is_blank, tok, tokens, file_tokens}

-- a cut of a token that is no blank, with at least so many bytes
pub record IsSolid (at : ℕ) (c : Cut) : Type 0 where
  pub rises : at ≤ c.1
  pub solid : is_blank c.0 ≡ false

solid_if : (at : ℕ) (b : Bool) (c d : Cut) → (b ≡ true → IsSolid at c) → (b ≡ false → IsSolid at d) → IsSolid at (if b then c else d)
solid_if at true c d f g = f refl
solid_if at false c d f g = g refl

later : (at : ℕ) (c : Cut) → IsSolid (at + 1) c → IsSolid at c
later at c s = let r = s.rises in record { rises = omega arith; solid = s.solid }

more : (at : ℕ) (kind : Kind) (n : ℕ) → at ≤ n → is_blank kind ≡ false → IsSolid at (kind, n)
more at kind n h s = record { rises = h; solid = s }

quoted_solid : (may_close : Bool) (at : ℕ) (z : Bytes) → IsSolid at (quoted_from may_close at z)
quoted_solid true at [] = more at k.Text at (omega arith) refl
quoted_solid false at [] = more at k.OpenText at (omega arith) refl
quoted_solid true at (b ∷ z) = solid_if at (b == 34) _ _ (λ _. later at _ (quoted_solid false (at + 1) z)) (λ _. more at k.Text at (omega arith) refl)
quoted_solid false at (b ∷ z) = solid_if at (is_ascii b) _ _ (λ _. later at _ (quoted_solid (b == 34) (at + 1) z)) (λ _. more at k.BadText at (omega arith) refl)

storage_solid : (depth at : ℕ) (z : Bytes) → IsSolid at (storage_from depth at z)
storage_solid depth at [] = more at k.OpenBlock at (omega arith) refl
storage_solid depth at (b ∷ z) =
    solid_if at (is_ascii b) _ _
    (λ _. solid_if at (b == 125 && depth == 0) _ _ (λ _. more at k.Block (at + 1) (omega arith) refl) (λ _. later at _ (storage_solid (depth_after depth b) (at + 1) z)))
    (λ _. more at k.BadBlock at (omega arith) refl)

body_solid : (depth : ℕ) (p : Part) (at : ℕ) (z : Bytes) → IsSolid at (body_from depth p at z)
body_solid depth p at [] = more at k.OpenBlock at (omega arith) refl
body_solid depth p at (b ∷ z) =
    solid_if at (is_ascii b) _ _
    (λ _. solid_if at (is_code p && b == 125 && depth == 0) _ _ (λ _. more at k.Block (at + 1) (omega arith) refl)
    (λ _. later at _ (body_solid (if is_code p then depth_after depth b else depth) (part_after p b (slice_index z 0)) (at + 1) z)))
    (λ _. more at k.BadBlock at (omega arith) refl)

balanced_solid : (due : Bytes) (quoted : Bool) (at : ℕ) (z : Bytes) → IsSolid at (balanced_from due quoted at z)
balanced_solid due true at [] = more at k.OpenBlock at (omega arith) refl
balanced_solid due false at [] = more at k.OpenBlock at (omega arith) refl
balanced_solid due true at (b ∷ z) = solid_if at (is_ascii b) _ _ (λ _. later at _ (balanced_solid due (not (b == 34)) (at + 1) z)) (λ _. more at k.BadBlock at (omega arith) refl)
balanced_solid due false at (b ∷ z) =
    solid_if at (is_ascii b) _ _
    (λ _. solid_if at (is_closing b && not (top due == b)) _ _ (λ _. more at k.TornBlock at (omega arith) refl)
    (λ _. solid_if at (is_closing b && length due == 1) _ _ (λ _. more at k.Block (at + 1) (omega arith) refl) (λ _. later at _ (balanced_solid (open_after due b) (b == 34) (at + 1) z))))
    (λ _. more at k.BadBlock at (omega arith) refl)

comment_rises : (at : ℕ) (z : Bytes) → at ≤ (comment_from at z).1
comment_rises at [] = omega arith
comment_rises at (b ∷ z) =
    elim (bool_cases (is_ascii b)) [
      | inr h ↦ rw h (omega arith)
      | inl h ↦ elim (bool_cases (b == 42 && slice_index z 0 == 47)) [
        | inl e ↦ rw (h, e) (omega arith)
        | inr e ↦ rw (h, e) (let r = comment_rises (at + 1) z in omega arith)
      ]
    ]

-- ---- words

abbrev IsNoBlank : Option Kind → Type 0
IsNoBlank None = Unit {0}
IsNoBlank (Some kind) = is_blank kind ≡ false

record Solid (o : Option Kind) : Type 0 where
  is : IsNoBlank o

some_if : (b : Bool) (kind : Kind) (o : Option Kind) → is_blank kind ≡ false → Solid o → Solid (if b then Some kind else o)
some_if true kind o s r = record { is = s }
some_if false kind o s r = r

or_solid : (o : Option Kind) (kind : Kind) → Solid o → is_blank kind ≡ false → is_blank (or_else o kind) ≡ false
or_solid None kind s r = r
or_solid (Some found) kind s r = s.is

pick_solid : (b : Bool) (one rest : Kind) → is_blank one ≡ false → is_blank rest ≡ false → is_blank (if b then one else rest) ≡ false
pick_solid true one rest s r = s
pick_solid false one rest s r = r

head_solid : (w : Bytes) → Solid (head_word w)
unfolding head_word
head_solid w = some_if (same_letters w (codes "class")) k.Class _ refl (some_if (same_letters w (codes "extends")) k.Extends _ refl (some_if (same_letters w (codes "not")) k.Not _ refl (some_if (same_letters w (codes "on")) k.On _ refl (record { is = tt }))))

type_solid : (w : Bytes) → Solid (type_word w)
unfolding type_word
type_solid w = some_if (same_letters w (codes "as")) k.As _ refl (some_if (same_letters w (codes "list")) k.List _ refl (some_if (same_letters w (codes "array")) k.Array _ refl (some_if (same_letters w (codes "of")) k.Of _ refl (record { is = tt }))))

member_solid : (w : Bytes) → Solid (member_word w)
unfolding member_word
member_solid w =
    some_if (same_letters w (codes "property")) k.Property _ refl (some_if (same_letters w (codes "relationship")) k.Relationship _ refl (some_if (same_letters w (codes "index")) k.Index _ refl (some_if (same_letters w (codes "parameter")) k.Parameter _ refl (some_if (same_letters w (codes "method")) k.Method _ refl (some_if (same_letters w (codes "classmethod")) k.ClassMethod _ refl (some_if (same_letters w (codes "storage")) k.Storage _ refl (record { is = tt })))))))

word_kind_solid : (w : Bytes) → is_blank (word_kind w) ≡ false
unfolding word_kind
word_kind_solid w = or_solid (head_word w) _ (head_solid w) (or_solid (type_word w) _ (type_solid w) (or_solid (member_word w) _ (member_solid w) (pick_solid (left_out_word w) k.LeftOut k.Name refl refl)))

first_solid : (m : Mode) (percent : Bool) (w : Bytes) (next : ℕ) → is_blank (first_word m percent w next) ≡ false
unfolding first_word single_word
first_solid m percent w next =
    let plain : is_blank (if percent then k.Percent else word_kind w) ≡ false = pick_solid percent k.Percent (word_kind w) refl (word_kind_solid w) in
    pick_solid (next == 46) _ _ plain (pick_solid (is_at_own_name m.at) k.Bare _ refl (pick_solid m.equals k.Lone _ refl plain))

kind_solid : (joint : Joint) (m : Mode) (percent : Bool) (w : Bytes) (next : ℕ) → is_blank (kind_by joint m percent w next) ≡ false
kind_solid j.Torn m percent w next = refl
kind_solid j.Dotted m percent w next = pick_solid percent k.Percent k.Name refl refl
kind_solid j.Apart m percent w next = first_solid m percent w next
kind_solid j.Joined m percent w next = first_solid m percent w next

word_solid : (m : Mode) (z : Bytes) → IsSolid 1 (word m z)
word_solid m z = more 1 _ (past set.Word z 1) (omega arith) (kind_solid m.joint m _ _ _)

digits_solid : (z : Bytes) → IsSolid 1 (digits z)
digits_solid z = more 1 _ (past set.Digits z 1) (omega arith) (pick_solid _ k.LongDigits k.Digits refl refl)

brace_solid : (m : Mode) (z : Bytes) → IsSolid 1 (brace m z)
brace_solid m z = solid_if 1 m.equals _ _ (λ _. balanced_solid (125 ∷ []) false 1 z) (λ _. brace_at_solid m.at z)
  where
    brace_at_solid : (a : At) (z : Bytes) → IsSolid 1 (brace_at a z)
    brace_at_solid at.Outside z = more 1 k.LBrace 1 (omega arith) refl
    brace_at_solid at.OwnName z = more 1 k.LBrace 1 (omega arith) refl
    brace_at_solid at.Member z = body_solid 0 Code 1 z
    brace_at_solid at.Inside z = body_solid 0 Code 1 z
    brace_at_solid at.InStorage z = storage_solid 0 1 z

paren_solid : (m : Mode) (z : Bytes) → IsSolid 1 (parenthesis m z)
paren_solid m z = solid_if 1 m.equals _ _ (λ _. balanced_solid (41 ∷ []) false 1 z) (λ _. more 1 k.LParen 1 (omega arith) refl)

-- ---- each token has a byte

rises_if : (b : Bool) (c d : Cut) → 1 ≤ c.1 → 1 ≤ d.1 → 1 ≤ (if b then c else d).1
rises_if true c d h g = h
rises_if false c d h g = g

slash_rises : (z : Bytes) → 1 ≤ (slash z).1
slash_rises z = rises_if (slice_index z 1 == 47) _ _ (omega arith) (rises_if (slice_index z 1 == 42) _ _ (let r = comment_rises 2 (drop 2 z) in omega arith) (omega arith))

pub token_rises : (m : Mode) (b : ℕ) (z : Bytes) → 1 ≤ (token m (b ∷ z)).1
unfolding token
token_rises m b z =
    rises_if (begins_word (b ∷ z)) _ _ (word_solid m (b ∷ z)).rises
    (rises_if (is_ascii_digit b) _ _ (digits_solid (b ∷ z)).rises
    (rises_if (b == 34) _ _ (quoted_solid false 1 z).rises
    (rises_if (b == 47) _ _ (slash_rises (b ∷ z))
    (rises_if (b == 123) _ _ (brace_solid m z).rises (rises_if (b == 40) _ _ (paren_solid m z).rises (omega arith))))))

-- ---- what stands between tokens

piece_if : (b : Bool) (c d : Cut) (z : Bytes) → (b ≡ true → is_blank c.0 ≡ true → IsBetween (take c.1 z)) → (b ≡ false → is_blank d.0 ≡ true → IsBetween (take d.1 z))
    → is_blank (if b then c else d).0 ≡ true → IsBetween (take (if b then c else d).1 z)
piece_if true c d z f g h = f refl h
piece_if false c d z f g h = g refl h

never : {A : Type 0} (c : Cut) → is_blank c.0 ≡ false → is_blank c.0 ≡ true → A
never c s h = absurd (let f = sym s ∙ h in (cc))

take_two : (n a b : ℕ) (z : Bytes) → 2 ≤ n → take n (a ∷ b ∷ z) ≡ a ∷ b ∷ take (n - 2) z
take_two zero a b z h = absurd (omega arith)
take_two (suc zero) a b z h = absurd (omega arith)
take_two (suc (suc n)) a b z h = let e : suc (suc n) - 2 ≡ n = omega arith in rw e refl

comment_piece : (n a b : ℕ) (z : Bytes) → 2 ≤ n → a ≡ 47 → (b ≡ 47) ⊎ (b ≡ 42) → IsBetween (take n (a ∷ b ∷ z))
comment_piece n a b z h e o = subst IsBetween (sym (take_two n a b z h)) (subst (λ x. IsBetween (x ∷ b ∷ take (n - 2) z)) (sym e) (Comment b (take (n - 2) z) o))

slash_piece : (b : ℕ) (z : Bytes) → b ≡ 47 → is_blank (slash (b ∷ z)).0 ≡ true → IsBetween (take (slash (b ∷ z)).1 (b ∷ z))
slash_piece b [] e h = absurd (cc)
slash_piece b (n ∷ z) e h =
    piece_if (n == 47) _ _ (b ∷ n ∷ z) (λ is _. comment_piece (past set.Line (b ∷ n ∷ z) 2) b n z (omega arith) e (inl (eqb-true _ _ is)))
    (λ _ g. piece_if (n == 42) _ _ (b ∷ n ∷ z) (λ is _. comment_piece (comment_from 2 z).1 b n z (comment_rises 2 z) e (inr (eqb-true _ _ is))) (λ _ f. absurd (cc)) g) h

single_if : (b : Bool) (one rest : Kind) → is_blank one ≡ false → (is_blank rest ≡ true → ⊥) → is_blank (if b then one else rest) ≡ true → ⊥
single_if true one rest s f h = let g = sym s ∙ h in (cc)
single_if false one rest s f h = f h

single_blank : (m : Mode) (b : ℕ) → is_blank (single m b) ≡ true → is_space b ≡ true
unfolding single
single_blank m b h = elim (bool_cases (is_space b)) [
  | inl is ↦ is
  | inr away ↦ absurd (single_if (b == 44) k.Comma _ refl (single_if (b == 59) k.Semicolon _ refl (single_if (b == 61) k.Equals _ refl (single_if (b == 45) k.Minus _ refl
      (single_if (b == 41) k.RParen _ refl (single_if (b == 91) k.LBracket _ refl (single_if (b == 93) k.RBracket _ refl (single_if (b == 125) k.RBrace _ refl
      (single_if (b == 46) _ _ (pick_solid (is_joined m.joint) k.Dot k.Other refl refl) (single_if (is_ascii b) k.Other k.NotAscii refl (λ f. cc)))))))))) (rw away at h))
]

pub piece_between : (m : Mode) (b : ℕ) (z : Bytes) → is_blank (token m (b ∷ z)).0 ≡ true → IsBetween (take (token m (b ∷ z)).1 (b ∷ z))
unfolding token
piece_between m b z h =
    piece_if (begins_word (b ∷ z)) _ _ (b ∷ z) (λ _ f. never (word m (b ∷ z)) (word_solid m (b ∷ z)).solid f)
    (λ _. piece_if (is_ascii_digit b) _ _ (b ∷ z) (λ _ f. never (digits (b ∷ z)) (digits_solid (b ∷ z)).solid f)
    (λ _. piece_if (b == 34) _ _ (b ∷ z) (λ _ f. never (quoted_from false 1 z) (quoted_solid false 1 z).solid f)
    (λ _. piece_if (b == 47) _ _ (b ∷ z) (λ is f. slash_piece b z (eqb-true _ _ is) f)
    (λ _. piece_if (b == 123) _ _ (b ∷ z) (λ _ f. never (brace m z) (brace_solid m z).solid f)
    (λ _. piece_if (b == 40) _ _ (b ∷ z) (λ _ f. never (parenthesis m z) (paren_solid m z).solid f) (λ _ f. Space b (single_blank m b f))))))) h

-- ---- each token is as long as it can be

prefix_stops : (p : ℕ → Bool) → p 0 ≡ false → (z : Bytes) → p (slice_index (drop (prefix_len p z) z) 0) ≡ false
prefix_stops p none [] = none
prefix_stops p none (b ∷ z) = elim (bool_cases (p b)) [
  | inl here ↦ let e : 1 + prefix_len p z ≡ suc (prefix_len p z) = omega arith in rw (here, e) (prefix_stops p none z)
  | inr gone ↦ rw gone gone
]

drop_nothing : (n : ℕ) → drop {A = ℕ} n [] ≡ []
drop_nothing zero = refl
drop_nothing (suc n) = refl

drop_plus : (a n : ℕ) (z : Bytes) → drop (a + n) z ≡ drop n (drop a z)
drop_plus zero n z = let e : 0 + n ≡ n = omega arith in rw e refl
drop_plus (suc a) n [] = let e : suc a + n ≡ suc (a + n) = omega arith in rw e (sym (drop_nothing n))
drop_plus (suc a) n (b ∷ z) = let e : suc a + n ≡ suc (a + n) = omega arith in rw e (drop_plus a n z)

step : (at n b : ℕ) (z : Bytes) → at + 1 ≤ n → drop (n - at) (b ∷ z) ≡ drop (n - (at + 1)) z
step at n b z h = let e : n - at ≡ suc (n - (at + 1)) = omega arith in rw e refl

quote_stops : (may_close : Bool) (at : ℕ) (z : Bytes) → (quoted_from may_close at z).0 ≡ k.Text → (slice_index (drop ((quoted_from may_close at z).1 - at) z) 0 == 34) ≡ false
quote_stops true at [] h = let e : at - at ≡ 0 = omega arith in rw e refl
quote_stops false at [] h = absurd (cc)
quote_stops true at (b ∷ z) h = elim (bool_cases (b == 34)) [
  | inl is ↦ rw (is, step at (quoted_from false (at + 1) z).1 b z (quoted_solid false (at + 1) z).rises) (quote_stops false (at + 1) z (rw is at h))
  | inr away ↦ let e : at - at ≡ 0 = omega arith in rw (away, e) away
]
quote_stops false at (b ∷ z) h = elim (bool_cases (is_ascii b)) [
  | inl is ↦ rw (is, step at (quoted_from (b == 34) (at + 1) z).1 b z (quoted_solid (b == 34) (at + 1) z).rises) (quote_stops (b == 34) (at + 1) z (rw is at h))
  | inr away ↦ absurd (let f = rw away at h in (cc))
]

alnum_digit : (b : ℕ) → is_ascii_alphanumeric b ≡ false → is_ascii_digit b ≡ false
alnum_digit b g = elim (bool_cases (is_ascii_digit b)) [ inl h ↦ absurd (let f = rw h at g in (cc)) | inr h ↦ h ]

word_end : (m : Mode) (z : Bytes) → is_ascii_alphanumeric (slice_index (drop (word m z).1 z) 0) ≡ false
word_end m z = rw (drop_plus 1 (prefix_len is_ascii_alphanumeric (drop 1 z)) z) (prefix_stops is_ascii_alphanumeric refl (drop 1 z))

digits_end : (z : Bytes) → is_ascii_digit (slice_index (drop (digits z).1 z) 0) ≡ false
digits_end z = rw (drop_plus 1 (prefix_len is_ascii_digit (drop 1 z)) z) (prefix_stops is_ascii_digit refl (drop 1 z))

drop_one_more : (n b : ℕ) (z : Bytes) → 1 ≤ n → drop n (b ∷ z) ≡ drop (n - 1) z
drop_one_more zero b z h = absurd (omega arith)
drop_one_more (suc n) b z h = let e : suc n - 1 ≡ n = omega arith in rw e refl

quote_end : (m : Mode) (z : Bytes) → (token m (34 ∷ z)).0 ≡ k.Text → (slice_index (drop (token m (34 ∷ z)).1 (34 ∷ z)) 0 == 34) ≡ false
unfolding token begins_word
quote_end m z h = rw (drop_one_more (quoted_from false 1 z).1 34 z (quoted_solid false 1 z).rises) (quote_stops false 1 z h)

string_end : (m : Mode) (b : ℕ) (z : Bytes) → b ≡ 34 → (token m (b ∷ z)).0 ≡ k.Text → (slice_index (drop (token m (b ∷ z)).1 (b ∷ z)) 0 == 34) ≡ false
string_end m b z e = subst (λ a. (token m (a ∷ z)).0 ≡ k.Text → (slice_index (drop (token m (a ∷ z)).1 (a ∷ z)) 0 == 34) ≡ false) (sym e) (quote_end m z)

word_token : (m : Mode) (b : ℕ) (z : Bytes) → begins_word (b ∷ z) ≡ true → token m (b ∷ z) ≡ word m (b ∷ z)
unfolding token
word_token m b z h = rw h refl

digits_token : (m : Mode) (b : ℕ) (z : Bytes) → begins_word (b ∷ z) ≡ false → is_ascii_digit b ≡ true → token m (b ∷ z) ≡ digits (b ∷ z)
unfolding token
digits_token m b z h d = rw (h, d) refl

longest : (m : Mode) (b : ℕ) (z : Bytes) → IsLongest (token m (b ∷ z)).0 (b ∷ z) (drop (token m (b ∷ z)).1 (b ∷ z))
longest m b z =
    let ended : begins_word (b ∷ z) ≡ true → is_ascii_alphanumeric (slice_index (drop (token m (b ∷ z)).1 (b ∷ z)) 0) ≡ false =
    λ h. subst (λ c. is_ascii_alphanumeric (slice_index (drop c.1 (b ∷ z)) 0) ≡ false) (sym (word_token m b z h)) (word_end m (b ∷ z)) in
    record {
      word = ended;
      number = λ d. elim (bool_cases (begins_word (b ∷ z))) [
        | inl h ↦ alnum_digit (slice_index (drop (token m (b ∷ z)).1 (b ∷ z)) 0) (ended h)
        | inr h ↦ subst (λ c. is_ascii_digit (slice_index (drop c.1 (b ∷ z)) 0) ≡ false) (sym (digits_token m b z h d)) (digits_end (b ∷ z))
      ];
      string = λ q kind. string_end m b z (eqb-true _ _ q) kind;
    }

-- ---- the whole text

cut : (n : ℕ) (m : Mode) (z : Bytes) → length z ≤ n → AreTokens z (tokens m z)
cut n m [] h = subst (λ ts. AreTokens [] ts) (sym (tokens_none token after is_blank m)) Over
cut zero m (b ∷ z) h = absurd (omega arith)
cut (suc n) m (b ∷ z) h =
    let size = (token m (b ∷ z)).1 in
    let rises : 1 ≤ size = token_rises m b z in
    let whole = take-append-drop size (b ∷ z) in
    let fewer : length (drop size (b ∷ z)) ≤ n = omega (arith, length-drop size (b ∷ z)) in
    let rest = cut n (after m (token m (b ∷ z)).0) (drop size (b ∷ z)) fewer in
    elim (bool_cases (is_blank (token m (b ∷ z)).0)) [
      | inl blank ↦
          subst (λ u. AreTokens u (tokens m (b ∷ z))) whole
          (subst (λ ts. AreTokens (take size (b ∷ z) ++ drop size (b ∷ z)) ts) (tokens_goes token after is_blank m b z blank rises)
          (Between (take size (b ∷ z)) (drop size (b ∷ z)) (tokens (after m (token m (b ∷ z)).0) (drop size (b ∷ z))) (piece_between m b z blank) rest))
      | inr solid ↦
          let some : 1 ≤ length (take size (b ∷ z)) = omega (arith, length-take size (b ∷ z)) in
          subst (λ u. AreTokens u (tokens m (b ∷ z))) whole
          (subst (λ ts. AreTokens (take size (b ∷ z) ++ drop size (b ∷ z)) ts) (sym (tokens_first token after is_blank m b z solid rises))
          (Token (tok m (b ∷ z)) (drop size (b ∷ z)) (tokens (after m (token m (b ∷ z)).0) (drop size (b ∷ z))) some (ap length (sym whole))
          (subst (λ u. IsLongest (token m (b ∷ z)).0 u (drop size (b ∷ z))) (sym whole) (longest m b z)) rest))
    ]

pub text_cut : (text : Bytes) → AreTokens text (file_tokens text)
text_cut text = cut (length text) start text (omega arith)
