-- A value that is read is spelt: nothing else is accepted.
use Rattle.std.proofs.Common.{◌≡◌, ◌≢◌, ℕ, zero, suc, ◌+◌, ◌-◌, ◌*◌, ◌≤◌, ℤ, Bool, true, false, not, ◌&&◌, ◌||◌, ◌==◌, nat_le, nat_lt, if◌then◌else◌, ◌⊎◌, inl, inr, List, [], ◌∷◌, ◌++◌, length, Option, None, Some, is_some, is_none, Result, Ok, Err, refl, sym, ap, subst, ◌∙◌, eqb-true, arith}
use Rattle.std.specs.Prelude.{codes, cond}
use Rattle.std.proofs.lemmas.List.{append_assoc, append-nil}
use Rattle.std.proofs.lemmas.Bool.Decides.{nat_tests}
use Rattle.obj_kinds.specs.declared.value.Value.{Value}
use Rattle.obj_kinds.specs.declared.value.Value.TheVariants.{Str, List as Listed}
use Rattle.obj_kinds.specs.Subscript.{whole_of}
use Rattle.obj_kinds.specs.Quoted.{quoted}
use Rattle.obj_kinds.specs.Limits.{is_legal_value}
use Rattle.global_dump.specs.Lines.{text_value}
use Rattle.dump_reading.specs.declared.place.Place.{Place}
use Rattle.dump_reading.specs.declared.place.Place.TheVariants as place
use Rattle.dump_reading.specs.declared.place.Turn.{Turn}
use Rattle.dump_reading.specs.declared.place.Turn.TheVariants.{Moves, Puts, Ends, Wrong}
use Rattle.dump_reading.specs.declared.stop.DumpWhy.{DumpWhy}
use Rattle.dump_reading.specs.declared.stop.DumpWhy.TheVariants.{BadValue}
use Rattle.dump_reading.specs.declared.value_reader.ValuePlace.{ValuePlace}
use Rattle.dump_reading.specs.declared.value_reader.ValuePlace.TheVariants as at
use Rattle.dump_reading.specs.declared.value_reader.ValueReader.{ValueReader}
use Rattle.dump_reading.specs.Taking.{taken}
use Rattle.dump_reading.specs.Places.{only, digit_or, turn, is_whole, is_bare}
use Rattle.dump_reading.specs.Building.{Open, with_value, closed, is_full, whole_value}
use Rattle.dump_reading.specs.ValueReading.{value_start, put_value, is_long, with_item, open_at, opened, ended, behind, is_list_letter, letter, item_turn, item, value_step_at, value_step, is_whole_value, ends_at, finished_at, finished, if_legal, value_in}
use Rattle.dump_reading.specs.Spellings.{IsTextSpelt, AreItemsSpelt, IsListSpelt, IsValueSpelt}
use Rattle.dump_reading.proofs.Spelling.{Spells, Done}
use Rattle.dump_reading.proofs.TakenLaws.{outcome, none_taken, taken_on, taken_bad}
use Rattle.dump_reading.proofs.TailLaws.{inside_move, inside_put, only_move, only_put, doubled_put, doubled_move, first_move, first_put, more_move, code_move, code_put, digit_put, digit_move, spelling_is}
use Rattle.dump_reading.proofs.NodeSound.{snoc_move, snoc_put, ends_whole, more_snoc, some_is}

-- ---- only the start leads to `$`, and nothing leads to the start

record FromStart (p r : Place) (b : ℕ) : Type 0 where
  pub no_start : r ≢ place.Start
  pub dollar : r ≡ place.Dollar → (p ≡ place.Start) × (b ≡ 36)

-- a place that is neither
from_other : (p r x : Place) (b : ℕ) → x ≡ r → x ≢ place.Start → x ≢ place.Dollar → FromStart p r b
from_other p r x b e n m = record { no_start = λ f. n (e ∙ f); dollar = λ f. absurd (m (e ∙ f)) }

moves_from : (p r : Place) (b : ℕ) → turn p b ≡ Moves r → FromStart p r b
unfolding turn
moves_from place.Opened r b e = from_other place.Opened r place.Emptied b (inside_move place.Emptied r b e).1 (λ f. cc f) (λ f. cc f)
moves_from place.Inside r b e = from_other place.Inside r place.Quote b (inside_move place.Quote r b e).1 (λ f. cc f) (λ f. cc f)
moves_from place.Reopened r b e = from_other place.Reopened r place.Requoted b (inside_move place.Requoted r b e).1 (λ f. cc f) (λ f. cc f)
moves_from place.Emptied r b e = absurd (let f = doubled_move b r Ends e in cc)
moves_from place.Requoted r b e = absurd (let f = doubled_move b r Wrong e in cc)
moves_from place.Quote r b e = from_other place.Quote r place.Joined b (only_move 95 b place.Joined r Ends (λ f. cc f) (doubled_move b r (only 95 place.Joined Ends b) e)).1 (λ f. cc f) (λ f. cc f)
moves_from place.Joined r b e = from_other place.Joined r place.JoinedDollar b (only_move 36 b place.JoinedDollar r Wrong (λ f. cc f) e).1 (λ f. cc f) (λ f. cc f)
moves_from place.Dollar r b e = from_other place.Dollar r place.Letter b (only_move 99 b place.Letter r Wrong (λ f. cc f) e).1 (λ f. cc f) (λ f. cc f)
moves_from place.JoinedDollar r b e = from_other place.JoinedDollar r place.Letter b (only_move 99 b place.Letter r Wrong (λ f. cc f) e).1 (λ f. cc f) (λ f. cc f)
moves_from place.Letter r b e = from_other place.Letter r place.Number b (only_move 40 b place.Number r Wrong (λ f. cc f) e).1 (λ f. cc f) (λ f. cc f)
moves_from place.Number r b e = from_other place.Number r (place.Code (b - 48)) b (first_move b r e).at (λ f. cc f) (λ f. cc f)
moves_from (place.Code n) r b e = from_other (place.Code n) r (place.Code (n * 10 + (b - 48))) b (more_move n b r (code_move n b r e)).at (λ f. cc f) (λ f. cc f)
moves_from place.Closed r b e = from_other place.Closed r place.Rejoined b (only_move 95 b place.Rejoined r Ends (λ f. cc f) e).1 (λ f. cc f) (λ f. cc f)
moves_from place.Rejoined r b e = from_other place.Rejoined r place.Reopened b (only_move 34 b place.Reopened r Wrong (λ f. cc f) e).1 (λ f. cc f) (λ f. cc f)
moves_from place.Zero r b e = absurd (cc e)
moves_from place.Digits r b e = absurd (digit_move b r Ends (λ f. cc f) e)
moves_from place.Minus r b e = absurd (minus (b == 48) e)
  where
    minus : (t : Bool) → (if t then Wrong else digit_or Wrong b) ≡ Moves r → ⊥
    minus true h = cc
    minus false h = digit_move b r Wrong (λ f. cc f) h
moves_from place.Start r b e = start (b == 34) (b == 36) (b == 45) (b == 48) refl e
  where
    start : (s v w x : Bool) → (b == 36) ≡ v
        → (if s then Moves place.Opened else (if v then Moves place.Dollar else (if w then Puts place.Minus 45 else (if x then Puts place.Zero 48 else digit_or Wrong b)))) ≡ Moves r
        → FromStart place.Start r b
    start true v w x g h = let same : place.Opened ≡ r = cc in from_other place.Start r place.Opened b same (λ f. cc f) (λ f. cc f)
    start false true w x g h = let same : place.Dollar ≡ r = cc in record { no_start = λ f. cc (same ∙ f); dollar = λ f. (refl, eqb-true b 36 g) }
    start false false true x g h = absurd (cc)
    start false false false true g h = absurd (cc)
    start false false false false g h = absurd (digit_move b r Wrong (λ f. cc f) h)

puts_from : (p r : Place) (b c : ℕ) → turn p b ≡ Puts r c → (r ≢ place.Start) × (r ≢ place.Dollar)
unfolding turn
puts_from place.Opened r b c e = let i = (inside_put place.Emptied r b c e).at in (λ f. cc (i ∙ f), λ f. cc (i ∙ f))
puts_from place.Inside r b c e = let i = (inside_put place.Quote r b c e).at in (λ f. cc (i ∙ f), λ f. cc (i ∙ f))
puts_from place.Reopened r b c e = let i = (inside_put place.Requoted r b c e).at in (λ f. cc (i ∙ f), λ f. cc (i ∙ f))
puts_from place.Emptied r b c e = let i = (doubled_put b c r Ends (λ f. cc f) e).1 in (λ f. cc (i ∙ f), λ f. cc (i ∙ f))
puts_from place.Requoted r b c e = let i = (doubled_put b c r Wrong (λ f. cc f) e).1 in (λ f. cc (i ∙ f), λ f. cc (i ∙ f))
puts_from place.Quote r b c e = let i = (doubled_put b c r (only 95 place.Joined Ends b) (only_put 95 b c place.Joined r Ends (λ f. cc f)) e).1 in (λ f. cc (i ∙ f), λ f. cc (i ∙ f))
puts_from place.Joined r b c e = absurd (only_put 36 b c place.JoinedDollar r Wrong (λ f. cc f) e)
puts_from place.Dollar r b c e = absurd (only_put 99 b c place.Letter r Wrong (λ f. cc f) e)
puts_from place.JoinedDollar r b c e = absurd (only_put 99 b c place.Letter r Wrong (λ f. cc f) e)
puts_from place.Letter r b c e = absurd (only_put 40 b c place.Number r Wrong (λ f. cc f) e)
puts_from place.Number r b c e = absurd (first_put b c r e)
puts_from place.Closed r b c e = absurd (only_put 95 b c place.Rejoined r Ends (λ f. cc f) e)
puts_from place.Rejoined r b c e = absurd (only_put 34 b c place.Reopened r Wrong (λ f. cc f) e)
puts_from (place.Code n) r b c e = by (code_put n b c r e).at
  where
    by : ((b ≡ 44) × (place.Number ≡ r)) ⊎ ((b ≡ 41) × (place.Closed ≡ r)) → (r ≢ place.Start) × (r ≢ place.Dollar)
    by (inl i) = (λ f. cc (i.1 ∙ f), λ f. cc (i.1 ∙ f))
    by (inr i) = (λ f. cc (i.1 ∙ f), λ f. cc (i.1 ∙ f))
puts_from place.Zero r b c e = absurd (cc e)
puts_from place.Digits r b c e = let i = (digit_put b c r Ends (λ f. cc f) e).0 in (λ f. cc (i ∙ f), λ f. cc (i ∙ f))
puts_from place.Minus r b c e = by (b == 48) e
  where
    by : (t : Bool) → (if t then Wrong else digit_or Wrong b) ≡ Puts r c → (r ≢ place.Start) × (r ≢ place.Dollar)
    by true h = absurd (cc)
    by false h = let i = (digit_put b c r Wrong (λ f. cc f) h).0 in (λ f. cc (i ∙ f), λ f. cc (i ∙ f))
puts_from place.Start r b c e = by (b == 34) (b == 36) (b == 45) (b == 48) e
  where
    by : (s v w x : Bool) → (if s then Moves place.Opened else (if v then Moves place.Dollar else (if w then Puts place.Minus 45 else (if x then Puts place.Zero 48 else digit_or Wrong b)))) ≡ Puts r c → (r ≢ place.Start) × (r ≢ place.Dollar)
    by true v w x h = absurd (cc)
    by false true w x h = absurd (cc)
    by false false true x h = let i : place.Minus ≡ r = cc in (λ f. cc (i ∙ f), λ f. cc (i ∙ f))
    by false false false true h = let i : place.Zero ≡ r = cc in (λ f. cc (i ∙ f), λ f. cc (i ∙ f))
    by false false false false h = let i = (digit_put b c r Wrong (λ f. cc f) h).0 in (λ f. cc (i ∙ f), λ f. cc (i ∙ f))

-- what is read of a text or a number
record Part (p : Place) (y t : List ℕ) : Type 0 where
  pub path : Spells place.Start y p t
  pub start : p ≡ place.Start → (y ≡ []) × (t ≡ [])
  pub dollar : p ≡ place.Dollar → (y ≡ 36 ∷ []) × (t ≡ [])

no_part : Part place.Start [] []
no_part = record { path = Done; start = λ e. (refl, refl); dollar = λ e. absurd (cc e) }

part_moves : (p r : Place) (b : ℕ) (y t : List ℕ) → turn p b ≡ Moves r → Part p y t → Part r (y ++ b ∷ []) t
part_moves p r b y t e s =
    let f = moves_from p r b e in
    record {
      path = snoc_move b s.path e;
      start = λ h. absurd (f.no_start h);
      dollar = λ h. let g = f.dollar h in let k = s.start g.0 in (ap (λ w. w ++ b ∷ []) k.0 ∙ ap (λ c. c ∷ []) g.1, k.1);
    }

part_puts : (p r : Place) (b c : ℕ) (y t : List ℕ) → turn p b ≡ Puts r c → Part p y t → Part r (y ++ b ∷ []) (t ++ c ∷ [])
part_puts p r b c y t e s =
    let f = puts_from p r b c e in
    record { path = snoc_put b c s.path e; start = λ h. absurd (f.0 h); dollar = λ h. absurd (f.1 h) }

-- ---- items

-- the comma in front of an item
abbrev comma : List Value → List ℕ
comma [] = []
comma (v ∷ vs) = 44 ∷ []

items_snoc : (spelt : Value → List ℕ → Type 0) (vs : List Value) (v : Value) (c a : List ℕ) → AreItemsSpelt spelt vs c → spelt v a → AreItemsSpelt spelt (vs ++ v ∷ []) (c ++ (comma vs ++ a))
items_snoc spelt [] v c a e h = (a, [], ap (λ y. y ++ a) e ∙ sym (append-nil a), h, refl)
items_snoc spelt (x ∷ xs) v c a q h = (q.0, q.1 ++ 44 ∷ a, ap (λ y. y ++ 44 ∷ a) q.2 ∙ append_assoc q.0 q.1 (44 ∷ a), q.3, more_snoc spelt xs v q.1 a q.4 h)

-- how deep lists may go on within so many open ones
abbrev room : Open → ℕ
room outer = 16 - length outer

-- what is read up to the end of the last item
abbrev Front : Open → List ℕ → Type 0
Front [] z = ⊥
Front (items ∷ []) z = AreItemsSpelt (IsValueSpelt 16) items z
Front (items ∷ around ∷ outer) z =
    (y : List ℕ) × (c : List ℕ) × (z ≡ y ++ ((comma around ++ codes "$lb(") ++ c)) × (length (around ∷ outer) ≤ 16) × AreItemsSpelt (IsValueSpelt (room (around ∷ outer))) items c × Front (around ∷ outer) y

abbrev head_comma : Open → List ℕ
head_comma [] = []
head_comma (items ∷ outer) = comma items

-- a value of the innermost list
abbrev room_in : Open → ℕ
room_in [] = 0
room_in (items ∷ outer) = room outer

front_put : (ls : Open) (z a : List ℕ) (v : Value) → Front ls z → IsValueSpelt (room_in ls) v a → Front (with_value v ls) (z ++ (head_comma ls ++ a))
front_put [] z a v f h = absurd f
front_put (items ∷ []) z a v f h = items_snoc (IsValueSpelt 16) items v z a f h
front_put (items ∷ around ∷ outer) z a v f h = (
  f.0,
  f.1 ++ (comma items ++ a),
  ap (λ w. w ++ (comma items ++ a)) f.2 ∙ append_assoc f.0 ((comma around ++ codes "$lb(") ++ f.1) (comma items ++ a) ∙ ap (λ w. f.0 ++ w) (append_assoc (comma around ++ codes "$lb(") f.1 (comma items ++ a)),
  f.3,
  items_snoc (IsValueSpelt (room (around ∷ outer))) items v f.1 a f.4 h,
  f.5,
)

-- a text at any depth
text_at : (k : ℕ) (v : Value) (z : List ℕ) → IsTextSpelt v z → IsValueSpelt k v z
unfolding IsValueSpelt
text_at zero v z q = q
text_at (suc k) v z q = inl q

list_at : (k : ℕ) (v : Value) (z : List ℕ) → IsListSpelt (IsValueSpelt k) v z → IsValueSpelt (suc k) v z
unfolding IsValueSpelt
list_at k v z q = inr q

deeper_room : (outer : Open) (around : List Value) → length (around ∷ outer) ≤ 16 → suc (room (around ∷ outer)) ≡ room outer
deeper_room outer around h = omega arith

-- the innermost list ends
front_close : (items around : List Value) (outer : Open) (z : List ℕ) → Front (items ∷ around ∷ outer) z → Front (closed (items ∷ around ∷ outer)) (z ++ 41 ∷ [])
front_close items around outer z f =
    let whole : IsListSpelt (IsValueSpelt (room (around ∷ outer))) (Listed items) (codes "$lb(" ++ f.1 ++ 41 ∷ []) = (items, f.1, refl, refl, f.4) in
    let value : IsValueSpelt (room outer) (Listed items) (codes "$lb(" ++ f.1 ++ 41 ∷ []) =
    subst (λ k. IsValueSpelt k (Listed items) (codes "$lb(" ++ f.1 ++ 41 ∷ [])) (deeper_room outer around f.3) (list_at (room (around ∷ outer)) (Listed items) (codes "$lb(" ++ f.1 ++ 41 ∷ []) whole) in
    subst (Front (closed (items ∷ around ∷ outer))) (sym shape) (front_put (around ∷ outer) f.0 (codes "$lb(" ++ f.1 ++ 41 ∷ []) (Listed items) f.5 value)
  where
    shape : z ++ 41 ∷ [] ≡ f.0 ++ (comma around ++ (codes "$lb(" ++ f.1 ++ 41 ∷ []))
    shape =
        ap (λ w. w ++ 41 ∷ []) f.2 ∙ append_assoc f.0 ((comma around ++ codes "$lb(") ++ f.1) (41 ∷ []) ∙ ap (λ w. f.0 ++ (w ++ 41 ∷ [])) (append_assoc (comma around) (codes "$lb(") f.1)
        ∙ ap (λ w. f.0 ++ w) (append_assoc (comma around) (codes "$lb(" ++ f.1) (41 ∷ []))

-- ---- what is read, place by place

abbrev AtPlace : ValuePlace → List ℕ → ValueReader → Type 0
AtPlace (at.Item p) z s = (f : List ℕ) × (y : List ℕ) × (z ≡ f ++ (head_comma s.lists ++ y)) × Front s.lists f × Part p y s.text
AtPlace at.Letter z s = (f : List ℕ) × (z ≡ f ++ (head_comma s.lists ++ 36 ∷ 108 ∷ [])) × Front s.lists f × (s.text ≡ [])
AtPlace at.Name z s = (f : List ℕ) × (z ≡ f ++ (head_comma s.lists ++ 36 ∷ 108 ∷ 98 ∷ [])) × Front s.lists f × (s.text ≡ [])
AtPlace at.Opened z s = (head_comma s.lists ≡ []) × Front s.lists z × (s.text ≡ [])
AtPlace at.Behind z s = Front s.lists z × (s.text ≡ []) × (head_comma s.lists ≡ 44 ∷ [])

abbrev Told : ValuePlace → List ℕ → ValueReader → Type 0
Told p z s = s.is_over ≡ false → (s.depth + 1 ≡ length s.lists) × AtPlace p z s

abbrev Reads : List ℕ → ValueReader → Type 0
Reads z s = Told s.place z s

abbrev ReadsNext : List ℕ → Result ValueReader DumpWhy → Type 0
ReadsNext z (Ok t) = Reads z t
ReadsNext z (Err why) = Unit {0}

-- ---- turns

same_length : (v : Value) (ls : Open) → length (with_value v ls) ≡ length ls
same_length v [] = refl
same_length v (items ∷ outer) = refl

text_sound : (y t : List ℕ) (p : Place) → Spells place.Start y p t → is_whole p ≡ true → is_long (is_bare p) t ≡ false → IsTextSpelt (Str t) y
text_sound y t p s w e = (t, refl, by (spelling_is s w))
  where
    found : (o : Bool) → is_some (whole_of t) ≡ o → is_none (whole_of t) ≡ false → cond (is_some (whole_of t)) t (quoted t) ≡ t
    found true f g = rw f refl
    found false f g = absurd (never (whole_of t) f g)
      where
        never : (o : Option ℤ) → is_some o ≡ false → is_none o ≡ false → ⊥
        never None f g = cc
        never (Some z) f g = cc

    by : (y ≡ quoted t) ⊎ ((y ≡ t) × (is_bare p ≡ true)) → (y ≡ text_value t) ⊎ (y ≡ quoted t)
    by (inl q) = inr q
    by (inr q) = inl (q.0 ∙ sym (found (is_some (whole_of t)) refl (sym (ap (λ b. is_long b t) q.1) ∙ e)))

some_comma : (items : List Value) (v : Value) → comma (items ++ v ∷ []) ≡ 44 ∷ []
some_comma [] v = refl
some_comma (x ∷ xs) v = refl

put_comma : (v : Value) (ls : Open) (z : List ℕ) → Front ls z → head_comma (with_value v ls) ≡ 44 ∷ []
put_comma v [] z f = absurd f
put_comma v (items ∷ outer) z f = some_comma items v

-- a text or a number ends
item_told : (z : List ℕ) (s : ValueReader) (p : Place) → is_whole p ≡ true → Told (at.Item p) z s → Told at.Behind z (with_item (is_bare p) s)
item_told z s p w h = by s.is_over (is_long (is_bare p) s.text) refl refl
  where
    by : (o l : Bool) → s.is_over ≡ o → is_long (is_bare p) s.text ≡ l → Told at.Behind z (put_value (o || l) (Str s.text) s)
    by true l e f = λ over. absurd (cc over)
    by false true e f = λ over. absurd (cc over)
    by false false e f =
        λ over.
        let q = h e in
        let r = q.1 in
        let value = text_at (room_in s.lists) (Str s.text) r.1 (text_sound r.1 s.text p r.4.path w f) in (
          q.0 ∙ sym (same_length (Str s.text) s.lists),
          (subst (Front (with_value (Str s.text) s.lists)) (sym r.2) (front_put s.lists r.0 r.1 (Str s.text) r.3 value), refl, put_comma (Str s.text) s.lists r.0 r.3),
        )

-- what is read is the items of the open lists
abbrev IsFront : List ℕ → ValueReader → Type 0
IsFront z s = s.is_over ≡ false → (s.depth + 1 ≡ length s.lists) × Front s.lists z × (s.text ≡ [])

record ClosedTold (ls : Open) (d : ℕ) (z : List ℕ) : Type 0 where
  pub front : Front (closed ls) (z ++ 41 ∷ [])
  pub depth : d - 1 + 1 ≡ length (closed ls)
  pub some : head_comma (closed ls) ≡ 44 ∷ []

no_zero : (d : ℕ) → d + 1 ≡ 1 → (d == 0) ≡ true
no_zero d e = let g : d ≡ 0 = omega (arith, e) in ap (λ n. n == 0) g

lower : (d n : ℕ) → d + 1 ≡ suc (suc n) → d - 1 + 1 ≡ suc n
lower d n e = omega (arith, e)

close_told : (ls : Open) (d : ℕ) (z : List ℕ) → d + 1 ≡ length ls → (d == 0) ≡ false → Front ls z → ClosedTold ls d z
close_told [] d z e f q = absurd q
close_told (items ∷ []) d z e f q = absurd (cc (sym f ∙ no_zero d e))
close_told (items ∷ around ∷ outer) d z e f q = record { front = front_close items around outer z q; depth = lower d (length outer) e; some = some_comma around (Listed items) }

-- the innermost list ends
ended_told : (z : List ℕ) (s : ValueReader) → IsFront z s → ReadsNext (z ++ 41 ∷ []) (ended s)
ended_told z s h = by (s.depth == 0) refl
  where
    kept : (o : Bool) → s.is_over ≡ o → (s.depth == 0) ≡ false → Told at.Behind (z ++ 41 ∷ []) (record s { place = at.Behind; depth = s.depth - 1; lists = (if o then s.lists else closed s.lists) })
    kept true e f = λ over. absurd (cc (sym e ∙ over))
    kept false e f = λ over. let q = h e in let r = close_told s.lists s.depth z q.0 f q.1 in (r.depth, (r.front, q.2, r.some))

    by : (t : Bool) → (s.depth == 0) ≡ t → ReadsNext (z ++ 41 ∷ []) (if t then Err BadValue else Ok (record s { place = at.Behind; depth = s.depth - 1; lists = (if s.is_over then s.lists else closed s.lists) }))
    by true f = tt
    by false f = kept s.is_over refl f

behind_told : (z : List ℕ) (s : ValueReader) (b : ℕ) → Told at.Behind z s → ReadsNext (z ++ b ∷ []) (behind s b)
behind_told z s b h = by (b == 41) (b == 44) (nat_lt 0 s.depth) refl refl
  where
    front : IsFront z s
    front over = let q = h over in (q.0, q.1.0, q.1.1)

    follows : ReadsNext (z ++ 44 ∷ []) (Ok (record s { place = at.Item place.Start }))
    follows over =
        let q = h over in
        (q.0, (z, [], ap (λ w. z ++ w) (sym (append-nil (head_comma s.lists) ∙ q.1.2)), q.1.0, subst (Part place.Start []) (sym q.1.1) no_part))

    by : (t u v : Bool) → (b == 41) ≡ t → (b == 44) ≡ u → ReadsNext (z ++ b ∷ []) (if t then ended s else (if u && v then Ok (record s { place = at.Item place.Start }) else Err BadValue))
    by true u v e f = subst (λ c. ReadsNext (z ++ c ∷ []) (ended s)) (sym (eqb-true b 41 e)) (ended_told z s front)
    by false true true e f = subst (λ c. ReadsNext (z ++ c ∷ []) (Ok (record s { place = at.Item place.Start }))) (sym (eqb-true b 44 f)) follows
    by false true false e f = tt
    by false false v e f = tt

letter_is : (p : Place) (b : ℕ) → is_list_letter p b ≡ true → (p ≡ place.Dollar) × (b ≡ 108)
letter_is place.Dollar b h = (refl, eqb-true b 108 h)
letter_is _ b h = absurd (cc h)

further : (f h y : List ℕ) (b : ℕ) (z : List ℕ) → z ≡ f ++ (h ++ y) → z ++ b ∷ [] ≡ f ++ (h ++ (y ++ b ∷ []))
further f h y b z e = ap (λ w. w ++ b ∷ []) e ∙ append_assoc f (h ++ y) (b ∷ []) ∙ ap (λ w. f ++ w) (append_assoc h y (b ∷ []))

letter_told : (z : List ℕ) (s : ValueReader) (p : Place) (b : ℕ) → Told (at.Item p) z s → ReadsNext (z ++ b ∷ []) (letter p s b)
letter_told z s p b h = by (is_list_letter p b) refl
  where
    by : (t : Bool) → is_list_letter p b ≡ t → ReadsNext (z ++ b ∷ []) (if t then Ok (record s { place = at.Letter }) else Err BadValue)
    by true e =
        λ over.
        let i = letter_is p b e in
        let q = h over in
        let r = q.1 in
        let d = r.4.dollar i.0 in
        (q.0, (r.0, further r.0 (head_comma s.lists) r.1 b z r.2 ∙ ap (λ w. r.0 ++ (head_comma s.lists ++ (w ++ b ∷ []))) d.0 ∙ ap (λ c. r.0 ++ (head_comma s.lists ++ 36 ∷ c ∷ [])) i.1, r.3, d.1))
    by false e = tt

turn_told : (z : List ℕ) (s : ValueReader) (p : Place) (b : ℕ) (r : Turn) → turn p b ≡ r → Told (at.Item p) z s → ReadsNext (z ++ b ∷ []) (item_turn p s b r)
turn_told z s p b (Moves r) e h = λ over. let q = h over in let k = q.1 in (q.0, (k.0, k.1 ++ b ∷ [], further k.0 (head_comma s.lists) k.1 b z k.2, k.3, part_moves p r b k.1 s.text e k.4))
turn_told z s p b (Puts r c) e h = λ over. let q = h over in let k = q.1 in (q.0, (k.0, k.1 ++ b ∷ [], further k.0 (head_comma s.lists) k.1 b z k.2, k.3, part_puts p r b c k.1 s.text e k.4))
turn_told z s p b Ends e h = behind_told z (with_item (is_bare p) s) b (item_told z s p (ends_whole p b e) h)
turn_told z s p b Wrong e h = letter_told z s p b h

not_full : (n : ℕ) → nat_le 17 n ≡ false → n ≤ 16
not_full n h = grind (arith, nat_tests)

more_depth : (d n : ℕ) → d + 1 ≡ n → d + 1 + 1 ≡ suc n
more_depth d n e = omega (arith, e)

open_front : (ls : Open) (f z : List ℕ) → z ≡ f ++ (head_comma ls ++ 36 ∷ 108 ∷ 98 ∷ []) → Front ls f → length ls ≤ 16 → Front ([] ∷ ls) (z ++ 40 ∷ [])
open_front [] f z e q few = absurd q
open_front (around ∷ outer) f z e q few =
    (f, [], further f (comma around) (36 ∷ 108 ∷ 98 ∷ []) 40 z e ∙ ap (λ w. f ++ w) (sym (append-nil (comma around ++ codes "$lb("))), few, refl, q)

opened_told : (z : List ℕ) (s : ValueReader) → Told at.Name z s → Told at.Opened (z ++ 40 ∷ []) (opened s)
opened_told z s h = by s.is_over (is_full s.lists) refl refl
  where
    by : (o l : Bool) → s.is_over ≡ o → is_full s.lists ≡ l → Told at.Opened (z ++ 40 ∷ []) (open_at (o || l) s)
    by true l e f = λ over. absurd (cc over)
    by false true e f = λ over. absurd (cc over)
    by false false e f =
        λ over.
        let q = h e in
        (more_depth s.depth (length s.lists) q.0, (refl, open_front s.lists q.1.0 z q.1.1 q.1.2 (not_full (length s.lists) f), q.1.3))

step_told : (pl : ValuePlace) (z : List ℕ) (s : ValueReader) (b : ℕ) → Told pl z s → ReadsNext (z ++ b ∷ []) (value_step_at pl s b)
step_told (at.Item p) z s b h = turn_told z s p b (turn p b) refl h
step_told at.Letter z s b h = by (b == 98) refl
  where
    by : (t : Bool) → (b == 98) ≡ t → ReadsNext (z ++ b ∷ []) (if t then Ok (record s { place = at.Name }) else Err BadValue)
    by true e =
        λ over.
        let q = h over in
        (q.0, (q.1.0, further q.1.0 (head_comma s.lists) (36 ∷ 108 ∷ []) b z q.1.1 ∙ ap (λ c. q.1.0 ++ (head_comma s.lists ++ 36 ∷ 108 ∷ c ∷ [])) (eqb-true b 98 e), q.1.2, q.1.3))
    by false e = tt
step_told at.Name z s b h = by (b == 40) refl
  where
    by : (t : Bool) → (b == 40) ≡ t → ReadsNext (z ++ b ∷ []) (if t then Ok (opened s) else Err BadValue)
    by true e = subst (λ c. Told at.Opened (z ++ c ∷ []) (opened s)) (sym (eqb-true b 40 e)) (opened_told z s h)
    by false e = tt
step_told at.Opened z s b h = by (b == 41) refl
  where
    front : IsFront z s
    front over = let q = h over in (q.0, q.1.1, q.1.2)

    first : Told (at.Item place.Start) z s
    first over =
        let q = h over in
        (q.0, (z, [], sym (append-nil z) ∙ ap (λ w. z ++ w) (sym (append-nil (head_comma s.lists) ∙ q.1.0)), q.1.1, subst (Part place.Start []) (sym q.1.2) no_part))

    by : (t : Bool) → (b == 41) ≡ t → ReadsNext (z ++ b ∷ []) (if t then ended s else item place.Start s b)
    by true e = subst (λ c. ReadsNext (z ++ c ∷ []) (ended s)) (sym (eqb-true b 41 e)) (ended_told z s front)
    by false e = turn_told z s place.Start b (turn place.Start b) refl first
step_told at.Behind z s b h = behind_told z s b h

all_told : (y : List ℕ) (s t : ValueReader) (z : List ℕ) → taken value_step s y ≡ Ok t → Reads z s → Reads (z ++ y) t
unfolding value_step
all_told [] s t z e h =
    let f : Ok s ≡ Ok t = sym (none_taken value_step s) ∙ e in
    let is : s ≡ t = cc in
    subst (λ w. Reads w t) (sym (append-nil z)) (subst (Reads z) is h)
all_told (b ∷ y) s t z e h = elim (outcome value_step s b) [
  | inl o ↦
      subst (λ w. Reads w t) (append_assoc z (b ∷ []) y)
      (all_told y o.0 t (z ++ b ∷ []) (sym (taken_on value_step s o.0 b y o.1) ∙ e) (subst (ReadsNext (z ++ b ∷ [])) o.1 (step_told s.place z s b h)))
  | inr o ↦ absurd (let f = sym (taken_bad value_step s b y o.0 o.1) ∙ e in cc)
]

-- ---- a value

start_told : Reads [] value_start
start_told over = (refl, ([], [], refl, refl, no_part))

whole_sound : (ls : Open) (z : List ℕ) (v : Value) → whole_value ls ≡ Some v → Front ls z → IsValueSpelt 16 v z
whole_sound ((x ∷ []) ∷ []) z v e f =
    let is : x ≡ v = some_is x v e in
    subst (λ w. IsValueSpelt 16 w z) is (subst (IsValueSpelt 16 x) (sym (f.2 ∙ ap (λ y. f.0 ++ y) f.4 ∙ append-nil f.0)) f.3)
whole_sound [] z v e f = absurd (cc e)
whole_sound ([] ∷ []) z v e f = absurd (cc e)
whole_sound ((x ∷ y ∷ ys) ∷ []) z v e f = absurd (cc e)
whole_sound ([] ∷ around ∷ outer) z v e f = absurd (cc e)
whole_sound ((x ∷ []) ∷ around ∷ outer) z v e f = absurd (cc e)
whole_sound ((x ∷ y ∷ ys) ∷ around ∷ outer) z v e f = absurd (cc e)

-- the value of a reading that passed no limit
in_is : (s : ValueReader) (v : Value) → value_in s ≡ Some v → (s.is_over ≡ false) × (whole_value s.lists ≡ Some v)
in_is s v = by s.is_over refl
  where
    legal : (o : Option Value) → if_legal o ≡ Some v → o ≡ Some v
    legal None h = h
    legal (Some w) h = pick (is_legal_value w) h
      where
        pick : (t : Bool) → (if t then Some w else None) ≡ Some v → Some w ≡ Some v
        pick true h = h
        pick false h = absurd (cc h)

    by : (o : Bool) → s.is_over ≡ o → (if o then None else if_legal (whole_value s.lists)) ≡ Some v → (s.is_over ≡ false) × (whole_value s.lists ≡ Some v)
    by true e h = absurd (cc h)
    by false e h = (e, legal (whole_value s.lists) h)

behind_sound : (z : List ℕ) (s : ValueReader) (v : Value) → Told at.Behind z s → value_in s ≡ Some v → IsValueSpelt 16 v z
behind_sound z s v h e = let i = in_is s v e in whole_sound s.lists z v i.1 (h i.0).1.0

end_sound : (pl : ValuePlace) (z : List ℕ) (s : ValueReader) (v : Value) → ends_at pl ≡ true → Told pl z s → value_in (finished_at pl s) ≡ Some v → IsValueSpelt 16 v z
end_sound (at.Item p) z s v w h e = behind_sound z (with_item (is_bare p) s) v (item_told z s p w h) (ap value_in (sym (ap (λ t. if t then with_item (is_bare p) s else s) w)) ∙ e)
end_sound at.Behind z s v w h e = behind_sound z s v h e
end_sound at.Letter z s v w h e = absurd (cc w)
end_sound at.Name z s v w h e = absurd (cc w)
end_sound at.Opened z s v w h e = absurd (cc w)

pub value_is_spelt : (z : List ℕ) (s : ValueReader) (v : Value) → taken value_step value_start z ≡ Ok s → is_whole_value s ≡ true → value_in (finished s) ≡ Some v → IsValueSpelt 16 v z
value_is_spelt z s v e w f = by (nat_lt 0 s.depth) refl w f
  where
    by : (t : Bool) → nat_lt 0 s.depth ≡ t → not t && ends_at s.place ≡ true → value_in (if t then s else finished_at s.place s) ≡ Some v → IsValueSpelt 16 v z
    by true g w f = absurd (cc w)
    by false g w f = end_sound s.place z s v w (all_told z value_start s [] e start_told) f
