-- A written value is read back.
use Rattle.std.proofs.Common.{◌≡◌, ◌≢◌, ℕ, zero, suc, ◌+◌, ◌-◌, ◌≤◌, ℤ, Bool, true, false, ◌==◌, nat_le, nat_lt, List, [], ◌∷◌, ◌++◌, map, length, Option, None, Some, Ok, refl, sym, ap, subst, ◌∙◌, eqb-true, arith}
use Rattle.std.specs.Prelude.{codes}
use Rattle.std.proofs.lemmas.List.{append_assoc, append-nil}
use Rattle.std.proofs.lemmas.Bool.Decides.{nat_tests}
use Rattle.obj_kinds.specs.declared.value.Value.{Value, map-Value}
use Rattle.obj_kinds.specs.declared.value.Value.TheVariants.{Str, List as Listed, rolls-Str, rolls-List}
use Rattle.obj_kinds.specs.declared.value.Value.TheOpen.{Value-F}
use Rattle.obj_kinds.specs.declared.value.Value.TheViews.{roll-Value}
use Rattle.obj_kinds.specs.declared.value.Value.TheFolds.{ind-Value}
use Rattle.obj_kinds.specs.Subscript.{whole_of}
use Rattle.obj_kinds.specs.Values.{all_true, all_texts, all_nested, nested}
use Rattle.obj_kinds.specs.Limits.{is_legal_text, is_legal_value}
use Rattle.obj_kinds.proofs.ValueLaws.{fold-Str, fold-List, nested-none, nested-List, all_texts-Str, all_texts-List}
use Rattle.obj_kinds.proofs.Numbers.{printed-whole_of}
use Rattle.global_dump.specs.Lines.{text_value, more_parts, joined, value_step as written, value_text}
use Rattle.dump_reading.specs.declared.place.Place.{Place}
use Rattle.dump_reading.specs.declared.place.Place.TheVariants as place
use Rattle.dump_reading.specs.declared.place.Turn.{Turn}
use Rattle.dump_reading.specs.declared.place.Turn.TheVariants.{Moves, Puts, Ends, Wrong}
use Rattle.dump_reading.specs.declared.value_reader.ValuePlace.{ValuePlace}
use Rattle.dump_reading.specs.declared.value_reader.ValuePlace.TheVariants as at
use Rattle.dump_reading.specs.declared.value_reader.ValueReader.{ValueReader}
use Rattle.dump_reading.specs.Taking.{taken}
use Rattle.dump_reading.specs.Places.{turn, is_whole, is_bare}
use Rattle.dump_reading.specs.Building.{Open, with_value, whole_value}
use Rattle.dump_reading.specs.ValueReading.{value_start, is_long, with_item, behind, behind_item, item_turn, value_step, is_whole_value, ends_at, finished, if_legal, value_in}
use Rattle.dump_reading.proofs.Spelling.{Spells, Done, Move, Put, Spelt, quoted_spelt, number_spelt}
use Rattle.dump_reading.proofs.TakenLaws.{none_taken, chain, on}
use Rattle.dump_reading.proofs.NodeLaws.{both, ends_at_comma, ends_at_end}

-- within the limits so far
abbrev pub state : ValuePlace → List ℕ → ℕ → Open → ValueReader
state p t d ls = record { place = p; text = t; depth = d; lists = ls; is_over = false }

-- ---- texts and numbers

item_moves : (p q : Place) (b : ℕ) (t : List ℕ) (d : ℕ) (ls : Open) → turn p b ≡ Moves q → value_step (state (at.Item p) t d ls) b ≡ Ok (state (at.Item q) t d ls)
unfolding value_step
item_moves p q b t d ls e = ap (item_turn p (state (at.Item p) t d ls) b) e

item_puts : (p q : Place) (b c : ℕ) (t : List ℕ) (d : ℕ) (ls : Open) → turn p b ≡ Puts q c → value_step (state (at.Item p) t d ls) b ≡ Ok (state (at.Item q) (t ++ c ∷ []) d ls)
unfolding value_step
item_puts p q b c t d ls e = ap (item_turn p (state (at.Item p) t d ls) b) e

item_ends : (p : Place) (b : ℕ) (t : List ℕ) (d : ℕ) (ls : Open) → turn p b ≡ Ends → value_step (state (at.Item p) t d ls) b ≡ behind_item (is_bare p) (state (at.Item p) t d ls) b
unfolding value_step
item_ends p b t d ls e = ap (item_turn p (state (at.Item p) t d ls) b) e

through_item : {p q : Place} {z u : List ℕ} → Spells p z q u → (t : List ℕ) (d : ℕ) (ls : Open) → taken value_step (state (at.Item p) t d ls) z ≡ Ok (state (at.Item q) (t ++ u) d ls)
through_item (Done {p = p}) t d ls = none_taken value_step (state (at.Item p) t d ls) ∙ ap (λ w. Ok (state (at.Item p) w d ls)) (sym (append-nil t))
through_item (Move {p = p} {q = q} {r = r} {b = b} {z = z} {u = u} e more) t d ls = on value_step _ _ b z _ (item_moves p q b t d ls e) (through_item more t d ls)
through_item (Put {p = p} {q = q} {r = r} {b = b} {c = c} {z = z} {u = u} e more) t d ls =
    on value_step _ _ b z _ (item_puts p q b c t d ls e) (through_item more (t ++ c ∷ []) d ls ∙ ap (λ w. Ok (state (at.Item r) w d ls)) (append_assoc t (c ∷ []) u))

-- where a value may begin
abbrev pub first_place : Bool → ValuePlace
first_place true = at.Opened
first_place false = at.Item place.Start

no_end : (b : ℕ) (r : Turn) → turn place.Start b ≡ r → r ≢ Wrong → (b == 41) ≡ false
unfolding turn
no_end b r e n = by (b == 41) refl
  where
    by : (t : Bool) → (b == 41) ≡ t → t ≡ false
    by true f = let is : b ≡ 41 = eqb-true b 41 f in absurd (n (sym e ∙ ap (turn place.Start) is))
    by false f = refl

opened_is : (b : ℕ) (t : List ℕ) (d : ℕ) (ls : Open) → (b == 41) ≡ false → value_step (state at.Opened t d ls) b ≡ item_turn place.Start (state at.Opened t d ls) b (turn place.Start b)
unfolding value_step
opened_is b t d ls e = rw e refl

-- a spelling that begins a value
pub first_through : {q : Place} {z u : List ℕ} → Spells place.Start z q u → is_whole q ≡ true → (first : Bool) (d : ℕ) (ls : Open) → taken value_step (state (first_place first) [] d ls) z ≡ Ok (state (at.Item q) u d ls)
unfolding is_whole
first_through s w false d ls = through_item s [] d ls
first_through (Done {p = place.Start}) w true d ls = absurd (cc w)
first_through (Move {p = place.Start} {q = q} {r = r} {b = b} {z = z} {u = u} e more) w true d ls =
    on value_step _ _ b z _ (opened_is b [] d ls (no_end b (Moves q) e (λ f. cc f)) ∙ ap (item_turn place.Start (state at.Opened [] d ls) b) e) (through_item more [] d ls)
first_through (Put {p = place.Start} {q = q} {r = r} {b = b} {c = c} {z = z} {u = u} e more) w true d ls =
    on value_step _ _ b z _ (opened_is b [] d ls (no_end b (Puts q c) e (λ f. cc f)) ∙ ap (item_turn place.Start (state at.Opened [] d ls) b) e) (through_item more (c ∷ []) d ls)

-- ---- a value is read

-- what follows it goes on as behind a list
pub record Settles (s : ValueReader) (d : ℕ) (ls : Open) : Type 0 where
  pub comma : value_step s 44 ≡ behind (state at.Behind [] d ls) 44
  pub end : value_step s 41 ≡ behind (state at.Behind [] d ls) 41
  pub ends : ends_at s.place ≡ true
  pub depth : s.depth ≡ d
  pub value : d ≡ 0 → value_in (finished s) ≡ if_legal (whole_value ls)

item_put : (p : Place) (t : List ℕ) (d : ℕ) (ls : Open) → is_long (is_bare p) t ≡ false → with_item (is_bare p) (state (at.Item p) t d ls) ≡ state (at.Item p) [] d (with_value (Str t) ls)
item_put p t d ls e = rw e refl

pub item_settles : (p : Place) (t : List ℕ) (d : ℕ) (ls : Open) → is_whole p ≡ true → is_long (is_bare p) t ≡ false → Settles (state (at.Item p) t d ls) d (with_value (Str t) ls)
item_settles p t d ls w e = record {
  comma = item_ends p 44 t d ls (ends_at_comma p w) ∙ ap (λ s. behind s 44) (item_put p t d ls e);
  end = item_ends p 41 t d ls (ends_at_end p w) ∙ ap (λ s. behind s 41) (item_put p t d ls e);
  ends = w;
  depth = refl;
  value = λ z. rw (z, w, e) refl;
}

pub behind_settles : (d : ℕ) (ls : Open) → Settles (state at.Behind [] d ls) d ls
unfolding value_step
behind_settles d ls = record { comma = refl; end = refl; ends = refl; depth = refl; value = λ z. rw z refl }

pub record ReadFrom (v : Value) (first : Bool) (d : ℕ) (ls : Open) : Type 0 where
  pub last : ValueReader
  pub settles : Settles last d (with_value v ls)
  pub path : taken value_step (state (first_place first) [] d ls) (value_text v) ≡ Ok last

-- lists may stand in one another as deep as is left
abbrev Reads : Value → Type 0
Reads v = (k : ℕ) → nested v k ≡ true → all_texts is_legal_text v ≡ true → (first : Bool) (d : ℕ) (ls : Open) → 1 ≤ length ls → length ls + k ≤ 17 → ReadFrom v first d ls

-- ---- a text

pub record TextSpelt (t : List ℕ) : Type 0 where
  pub bare : Bool
  pub spelt : Spelt bare place.Start (text_value t) t
  pub short : is_long bare t ≡ false

pub text_spelt : (t : List ℕ) → is_legal_text t ≡ true → TextSpelt t
unfolding is_legal_text
text_spelt t h = by (whole_of t) refl
  where
    by : (o : Option ℤ) → whole_of t ≡ o → TextSpelt t
    by None e = record {
      bare = false;
      spelt = rw e (quoted_spelt t (both _ _ h).1);
      short = refl;
    }
    by (Some z) e =
        let is = printed-whole_of t z e in
        record {
          bare = true;
          spelt = rw e (subst (λ w. Spelt true place.Start w w) (sym is.1) (number_spelt z is.0));
          short = rw e refl;
        }

text_reads : (t : List ℕ) → Reads (Str t)
text_reads t k n h first d ls some few =
    let s = text_spelt t (sym (all_texts-Str is_legal_text t) ∙ h) in
    let short : is_long (is_bare s.spelt.last) t ≡ false = ap (λ bare. is_long bare t) s.spelt.form ∙ s.short in
    record {
      last = state (at.Item s.spelt.last) t d ls;
      settles = item_settles s.spelt.last t d ls s.spelt.whole short;
      path = ap (taken value_step (state (first_place first) [] d ls)) (fold-Str written t) ∙ first_through s.spelt.path s.spelt.whole first d ls;
    }

-- ---- a list

-- the bytes `$lb(` open one
pub list_opens : (first : Bool) (d : ℕ) (ls : Open) → length ls ≤ 16 → (z : List ℕ) → taken value_step (state (first_place first) [] d ls) (codes "$lb(" ++ z) ≡ taken value_step (state at.Opened [] (d + 1) ([] ∷ ls)) z
unfolding value_step turn
list_opens first d ls few z =
    on value_step (state (first_place first) [] d ls) (state (at.Item place.Dollar) [] d ls) 36 _ _ (by first)
    (on value_step _ (state at.Letter [] d ls) 108 _ _ refl
    (on value_step _ (state at.Name [] d ls) 98 _ _ refl
    (on value_step _ (state at.Opened [] (d + 1) ([] ∷ ls)) 40 _ _ (rw (room (length ls) few) refl) refl)))
  where
    by : (first : Bool) → value_step (state (first_place first) [] d ls) 36 ≡ Ok (state (at.Item place.Dollar) [] d ls)
    by true = refl
    by false = refl

    room : (n : ℕ) → n ≤ 16 → nat_le 17 n ≡ false
    room n h = grind (arith, nat_tests)

deeper : (d : ℕ) → (d + 1 == 0) ≡ false
deeper d = grind (arith, nat_tests)

back : (d : ℕ) → d + 1 - 1 ≡ d
back d = omega arith

inside : (d : ℕ) → nat_lt 0 (d + 1) ≡ true
inside d = grind (arith, nat_tests)

-- `)` ends it
pub list_ends : (vs items : List Value) (d : ℕ) (ls : Open) → behind (state at.Behind [] (d + 1) (vs ∷ items ∷ ls)) 41 ≡ Ok (state at.Behind [] d (with_value (Listed vs) (items ∷ ls)))
list_ends vs items d ls = rw (deeper d, back d) refl

pub item_follows : (d : ℕ) (ls : Open) → behind (state at.Behind [] (d + 1) ls) 44 ≡ Ok (state (at.Item place.Start) [] (d + 1) ls)
item_follows d ls = rw (inside d) refl

-- what each of the values asks
abbrev AllRead : ℕ → List Value → Type 0
AllRead k [] = Unit {0}
AllRead k (v ∷ vs) = ((first : Bool) (d : ℕ) (ls : Open) → 1 ≤ length ls → length ls + k ≤ 17 → ReadFrom v first d ls) × AllRead k vs

more_read : (k : ℕ) (vs : List Value) → AllRead k vs → (done items : List Value) (d : ℕ) (ls : Open) → length ls + 2 + k ≤ 17 → (s : ValueReader) → Settles s (d + 1) (done ∷ items ∷ ls) → taken value_step s (more_parts (map value_text vs) ++ 41 ∷ []) ≡ Ok (state at.Behind [] d (with_value (Listed (done ++ vs)) (items ∷ ls)))
more_read k [] all done items d ls few s st =
    on value_step s _ 41 [] _ (st.end ∙ list_ends done items d ls) (none_taken value_step _)
    ∙ ap (λ w. Ok (state at.Behind [] d (with_value (Listed w) (items ∷ ls)))) (sym (append-nil done))
more_read k (v ∷ vs) all done items d ls few s st =
    let r = all.0 false (d + 1) (done ∷ items ∷ ls) (omega arith) (omega arith) in
    on value_step s _ 44 (value_text v ++ more_parts (map value_text vs) ++ 41 ∷ []) _ (st.comma ∙ item_follows d (done ∷ items ∷ ls))
    (ap (taken value_step (state (at.Item place.Start) [] (d + 1) (done ∷ items ∷ ls))) (append_assoc (value_text v) (more_parts (map value_text vs)) (41 ∷ []))
    ∙ chain value_step _ _ (value_text v) (more_parts (map value_text vs) ++ 41 ∷ []) _ r.path (more_read k vs all.1 (done ++ v ∷ []) items d ls few r.last r.settles)
    ∙ ap (λ w. Ok (state at.Behind [] d (with_value (Listed w) (items ∷ ls)))) (append_assoc done (v ∷ []) vs))

items_read : (k : ℕ) (vs : List Value) → AllRead k vs → (items : List Value) (d : ℕ) (ls : Open) → length ls + 2 + k ≤ 17 → taken value_step (state at.Opened [] (d + 1) ([] ∷ items ∷ ls)) (joined (map value_text vs) ++ 41 ∷ []) ≡ Ok (state at.Behind [] d (with_value (Listed vs) (items ∷ ls)))
unfolding value_step
items_read k [] all items d ls few = on value_step (state at.Opened [] (d + 1) ([] ∷ items ∷ ls)) _ 41 [] _ (list_ends [] items d ls) (none_taken value_step _)
items_read k (v ∷ vs) all items d ls few =
    let r = all.0 true (d + 1) ([] ∷ items ∷ ls) (omega arith) (omega arith) in
    ap (taken value_step (state at.Opened [] (d + 1) ([] ∷ items ∷ ls))) (append_assoc (value_text v) (more_parts (map value_text vs)) (41 ∷ []))
    ∙ chain value_step _ _ (value_text v) (more_parts (map value_text vs) ++ 41 ∷ []) _ r.path (more_read k vs all.1 (v ∷ []) items d ls few r.last r.settles)

list_read : (k : ℕ) (vs : List Value) → AllRead k vs → (first : Bool) (d : ℕ) (ls : Open) → 1 ≤ length ls → length ls + suc k ≤ 17 → ReadFrom (Listed vs) first d ls
list_read k vs all first d [] some few = absurd (omega arith)
list_read k vs all first d (items ∷ ls) some few = record {
  last = state at.Behind [] d (with_value (Listed vs) (items ∷ ls));
  settles = behind_settles d (with_value (Listed vs) (items ∷ ls));
  path =
      ap (taken value_step (state (first_place first) [] d (items ∷ ls))) (fold-List written vs ∙ append_assoc (codes "$lb(") (joined (map value_text vs)) (41 ∷ []))
      ∙ list_opens first d (items ∷ ls) (omega arith) (joined (map value_text vs) ++ 41 ∷ [])
      ∙ items_read k vs all items d ls (omega arith);
}

-- ---- any value

each_reads : (k : ℕ) (ps : List ((v : Value) × Reads v)) → all_nested k (map nested (map (λ p. p.0) ps)) ≡ true → all_true (map (all_texts is_legal_text) (map (λ p. p.0) ps)) ≡ true → AllRead k (map (λ p. p.0) ps)
each_reads k [] n h = tt
each_reads k (p ∷ ps) n h =
    let deep = both (nested p.0 k) _ n in
    let texts = both (all_texts is_legal_text p.0) _ h in
    (p.1 k deep.0 texts.0, each_reads k ps deep.1 texts.1)

reads_roll : (y : Value-F ((v : Value) × Reads v)) → Reads (roll-Value (map-Value ((v : Value) × Reads v) Value (λ e. e.0) y))
reads_roll (Value-F.Str t) = subst Reads (sym (rolls-Str t)) (text_reads t)
reads_roll (Value-F.List ps) = subst Reads (sym (rolls-List (map (λ p. p.0) ps))) (by)
  where
    by : Reads (Listed (map (λ p. p.0) ps))
    by zero n h = absurd (cc (sym (nested-none (map (λ p. p.0) ps)) ∙ n))
    by (suc k) n h =
        list_read k (map (λ p. p.0) ps) (each_reads k ps (sym (nested-List (map (λ p. p.0) ps) k) ∙ n) (sym (all_texts-List is_legal_text (map (λ p. p.0) ps)) ∙ h))

reads : (v : Value) → Reads v
reads = ind-Value Reads (λ x y is. subst (λ z. Reads (roll-Value z)) is (reads_roll y))

pub record ValueIsRead (v : Value) : Type 0 where
  pub last : ValueReader
  pub whole : is_whole_value last ≡ true
  pub value : value_in (finished last) ≡ Some v
  pub path : taken value_step value_start (value_text v) ≡ Ok last

pub value_is_read : (v : Value) → is_legal_value v ≡ true → ValueIsRead v
unfolding is_legal_value
value_is_read v h =
    let texts = both _ _ h in
    let light = both _ _ texts.0 in
    let r = reads v 16 light.0 texts.1 false 0 ([] ∷ []) (omega arith) (omega arith) in
    record {
      last = r.last;
      whole = rw (r.settles.depth, r.settles.ends) refl;
      value = r.settles.value refl ∙ rw h refl;
      path = r.path;
    }
