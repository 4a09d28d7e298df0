-- A node that is read is spelt: nothing else is accepted.
use Rattle.std.proofs.Common.{◌≡◌, ◌≢◌, ℕ, ◌+◌, ◌-◌, ◌*◌, ℤ, Bool, true, false, not, ◌&&◌, ◌||◌, ◌==◌, nat_le, nat_lt, if◌then◌else◌, ◌⊎◌, inl, inr, List, [], ◌∷◌, ◌++◌, length, Option, None, Some, Result, Ok, Err, refl, sym, ap, subst, ◌∙◌, eqb-true}
use Rattle.std.proofs.lemmas.List.{append_assoc, append-nil}
use Rattle.obj_kinds.specs.declared.sub.Sub.{Sub}
use Rattle.obj_kinds.specs.declared.sub.Sub.TheVariants.{Num}
use Rattle.obj_kinds.specs.declared.node.Node.{Node}
use Rattle.obj_kinds.specs.Subscript.{whole_of, sub_by, sub_of}
use Rattle.obj_kinds.specs.Limits.{is_global_first, is_global_byte, is_legal_node}
use Rattle.obj_kinds.specs.LeadingNumber.{is_digit}
use Rattle.obj_kinds.specs.Quoted.{is_plain, quoted}
use Rattle.obj_kinds.specs.NodeText.{sub_text}
use Rattle.obj_kinds.proofs.Numbers.{printed-whole_of}
use Rattle.dump_reading.specs.declared.place.Place.{Place}
use Rattle.dump_reading.specs.declared.place.Place.TheVariants as place
use Rattle.dump_reading.specs.declared.place.Turn.{Turn}
use Rattle.dump_reading.specs.declared.place.Turn.TheVariants.{Moves, Puts, Ends, Wrong}
use Rattle.dump_reading.specs.declared.stop.DumpWhy.{DumpWhy}
use Rattle.dump_reading.specs.declared.stop.DumpWhy.TheVariants.{BadNode}
use Rattle.dump_reading.specs.declared.node_reader.NodePlace.{NodePlace}
use Rattle.dump_reading.specs.declared.node_reader.NodePlace.TheVariants as at
use Rattle.dump_reading.specs.declared.node_reader.NodeReader.{NodeReader}
use Rattle.dump_reading.specs.Taking.{taken}
use Rattle.dump_reading.specs.Places.{inside_or, doubled_or, only, first_digit, more_digits, behind_code, digit_or, turn, is_whole, is_bare}
use Rattle.dump_reading.specs.NodeReading.{node_start, may_end, is_whole_node, number_or, number_sub, quoted_sub, spelt_sub, in_name, put_sub, with_sub, behind_sub, sub_turn, node_step_at, node_step, node_of, node_in}
use Rattle.dump_reading.specs.LineReading.{node_or, node_said, node_read}
use Rattle.dump_reading.specs.Spellings.{AreMoreSpelt, IsSubSpelt, AreSubsSpelt, IsNodeSpelt}
use Rattle.dump_reading.proofs.Spelling.{Spells, Done, Move, Put}
use Rattle.dump_reading.proofs.TakenLaws.{outcome, none_taken, taken_on, taken_bad}
use Rattle.dump_reading.proofs.TailLaws.{spelling_is}

-- ---- one turn more

pub snoc_move : {p q r : Place} {z u : List ℕ} (b : ℕ) → Spells p z q u → turn q b ≡ Moves r → Spells p (z ++ b ∷ []) r u
snoc_move b Done e = Move e Done
snoc_move b (Move f more) e = Move f (snoc_move b more e)
snoc_move b (Put f more) e = Put f (snoc_move b more e)

pub snoc_put : {p q r : Place} {z u : List ℕ} (b c : ℕ) → Spells p z q u → turn q b ≡ Puts r c → Spells p (z ++ b ∷ []) r (u ++ c ∷ [])
snoc_put b c Done e = Put e Done
snoc_put b c (Move f more) e = Move f (snoc_put b c more e)
snoc_put b c (Put f more) e = Put f (snoc_put b c more e)

-- ---- a spelling ends where it is whole

inside_ends : (p : Place) (b : ℕ) → inside_or p b ≢ Ends
inside_ends p b = by (b == 34) (is_plain b)
  where
    by : (t u : Bool) → (if t then Moves p else (if u then Puts place.Inside b else Wrong)) ≡ Ends → ⊥
    by true u h = cc
    by false true h = cc
    by false false h = cc

only_ends : (w b : ℕ) (p : Place) → only w p Wrong b ≢ Ends
only_ends w b p = by (b == w)
  where
    by : (t : Bool) → (if t then Moves p else Wrong) ≡ Ends → ⊥
    by true h = cc
    by false h = cc

doubled_ends : (b : ℕ) → doubled_or Wrong b ≢ Ends
doubled_ends b = by (b == 34)
  where
    by : (t : Bool) → (if t then Puts place.Inside 34 else Wrong) ≡ Ends → ⊥
    by true h = cc
    by false h = cc

first_ends : (b : ℕ) → first_digit b ≢ Ends
first_ends b = by (is_digit b)
  where
    by : (t : Bool) → (if t then Moves (place.Code (b - 48)) else Wrong) ≡ Ends → ⊥
    by true h = cc
    by false h = cc

more_ends : (n b : ℕ) → more_digits n b ≢ Ends
more_ends n b = by (is_digit b && nat_lt 0 n && nat_le (n * 10 + (b - 48)) 255)
  where
    by : (t : Bool) → (if t then Moves (place.Code (n * 10 + (b - 48))) else Wrong) ≡ Ends → ⊥
    by true h = cc
    by false h = cc

code_ends : (n b : ℕ) → behind_code n b ≢ Ends
code_ends n b = by (is_plain n) (b == 44) (b == 41)
  where
    by : (t u v : Bool) → (if t then more_digits n b else (if u then Puts place.Number n else (if v then Puts place.Closed n else more_digits n b))) ≡ Ends → ⊥
    by true u v h = more_ends n b h
    by false true v h = cc
    by false false true h = cc
    by false false false h = more_ends n b h

digit_ends : (b : ℕ) → digit_or Wrong b ≢ Ends
digit_ends b = by (is_digit b)
  where
    by : (t : Bool) → (if t then Puts place.Digits b else Wrong) ≡ Ends → ⊥
    by true h = cc
    by false h = cc

start_ends : (b : ℕ) → turn place.Start b ≢ Ends
unfolding turn
start_ends b = by (b == 34) (b == 36) (b == 45) (b == 48)
  where
    by : (s v w x : Bool) → (if s then Moves place.Opened else (if v then Moves place.Dollar else (if w then Puts place.Minus 45 else (if x then Puts place.Zero 48 else digit_or Wrong b)))) ≡ Ends → ⊥
    by true v w x h = cc
    by false true w x h = cc
    by false false true x h = cc
    by false false false true h = cc
    by false false false false h = digit_ends b h

minus_ends : (b : ℕ) → turn place.Minus b ≢ Ends
unfolding turn
minus_ends b = by (b == 48)
  where
    by : (t : Bool) → (if t then Wrong else digit_or Wrong b) ≡ Ends → ⊥
    by true h = cc
    by false h = digit_ends b h

pub ends_whole : (p : Place) (b : ℕ) → turn p b ≡ Ends → is_whole p ≡ true
unfolding turn is_whole
ends_whole place.Emptied b e = refl
ends_whole place.Quote b e = refl
ends_whole place.Closed b e = refl
ends_whole place.Zero b e = refl
ends_whole place.Digits b e = refl
ends_whole place.Start b e = absurd (start_ends b e)
ends_whole place.Minus b e = absurd (minus_ends b e)
ends_whole place.Opened b e = absurd (inside_ends place.Emptied b e)
ends_whole place.Inside b e = absurd (inside_ends place.Quote b e)
ends_whole place.Reopened b e = absurd (inside_ends place.Requoted b e)
ends_whole place.Requoted b e = absurd (doubled_ends b e)
ends_whole place.Joined b e = absurd (only_ends 36 b place.JoinedDollar e)
ends_whole place.Dollar b e = absurd (only_ends 99 b place.Letter e)
ends_whole place.JoinedDollar b e = absurd (only_ends 99 b place.Letter e)
ends_whole place.Letter b e = absurd (only_ends 40 b place.Number e)
ends_whole place.Rejoined b e = absurd (only_ends 34 b place.Reopened e)
ends_whole place.Number b e = absurd (first_ends b e)
ends_whole (place.Code n) b e = absurd (code_ends n b e)

-- ---- a subscript

pub some_is : {A : Type 0} (x y : A) → Some x ≡ Some y → x ≡ y
some_is x y e = cc

number_sound : (o : Option ℤ) (t : List ℕ) (x : Sub) → whole_of t ≡ o → number_or o ≡ Some x → (sub_of t ≡ x) × (t ≡ sub_text x)
number_sound None t x e h = absurd (cc)
number_sound (Some n) t x e h =
    let is : Num n ≡ x = some_is (Num n) x h in
    (ap (sub_by t) e ∙ is, (printed-whole_of t n e).1 ∙ ap sub_text is)

quoted_sound : (t : List ℕ) (x : Sub) → quoted_sub t ≡ Some x → sub_of t ≡ x
unfolding quoted_sub
quoted_sound t x = by (nat_le 1 (length t) && nat_le (length t) 255)
  where
    by : (c : Bool) → (if c then Some (sub_of t) else None) ≡ Some x → sub_of t ≡ x
    by true h = some_is (sub_of t) x h
    by false h = absurd (cc)

sub_sound : (y t : List ℕ) (p : Place) (x : Sub) → Spells place.Start y p t → is_whole p ≡ true → spelt_sub (is_bare p) t ≡ Some x → IsSubSpelt x y
unfolding number_sub
sub_sound y t p x s w e = by (is_bare p) refl e (spelling_is s w)
  where
    by : (bare : Bool) → is_bare p ≡ bare → spelt_sub bare t ≡ Some x → (y ≡ quoted t) ⊎ ((y ≡ t) × (is_bare p ≡ true)) → IsSubSpelt x y
    by true f e (inl q) = inr (t, q, (number_sound (whole_of t) t x refl e).0)
    by true f e (inr q) = inl (q.0 ∙ (number_sound (whole_of t) t x refl e).1)
    by false f e (inl q) = inr (t, q, quoted_sound t x e)
    by false f e (inr q) = absurd (cc (sym f ∙ q.1))

-- ---- subscripts in front

pub more_snoc : {A : Type 0} (spelt : A → List ℕ → Type 0) (xs : List A) (x : A) (z a : List ℕ) → AreMoreSpelt spelt xs z → spelt x a → AreMoreSpelt spelt (xs ++ x ∷ []) (z ++ 44 ∷ a)
more_snoc spelt [] x z a e h = (a, [], ap (λ y. y ++ 44 ∷ a) e ∙ ap (λ y. 44 ∷ y) (sym (append-nil a)), h, refl)
more_snoc spelt (y ∷ ys) x z a q h = (q.0, q.1 ++ 44 ∷ a, ap (λ y. y ++ 44 ∷ a) q.2 ∙ ap (λ y. 44 ∷ y) (append_assoc q.0 q.1 (44 ∷ a)), q.3, more_snoc spelt ys x q.1 a q.4 h)

-- some subscripts, and this byte behind them
abbrev Closes : ℕ → List Sub → List ℕ → Type 0
Closes c [] f = ⊥
Closes c (x ∷ xs) f = (a : List ℕ) × (b : List ℕ) × (f ≡ 40 ∷ a ++ b ++ c ∷ []) × IsSubSpelt x a × AreMoreSpelt IsSubSpelt xs b

-- what stands in front of a subscript, behind the name
abbrev Fronts : List Sub → List ℕ → Type 0
Fronts [] f = f ≡ 40 ∷ []
Fronts (x ∷ xs) f = Closes 44 (x ∷ xs) f

fronts_put : (c : ℕ) (subs : List Sub) (f : List ℕ) (y : Sub) (a : List ℕ) → Fronts subs f → IsSubSpelt y a → Closes c (subs ++ y ∷ []) (f ++ a ++ c ∷ [])
fronts_put c [] f y a e h = (a, [], ap (λ g. g ++ a ++ c ∷ []) e ∙ ap (λ w. 40 ∷ w ++ c ∷ []) (sym (append-nil a)), h, refl)
fronts_put c (x ∷ xs) f y a q h = (
  q.0,
  q.1 ++ 44 ∷ a,
  ap (λ g. g ++ a ++ c ∷ []) q.2 ∙ ap (λ g. g ++ c ∷ []) (append_assoc (40 ∷ q.0 ++ q.1) (44 ∷ []) a) ∙ ap (λ g. 40 ∷ g ++ c ∷ []) (append_assoc q.0 q.1 (44 ∷ a)),
  q.3,
  more_snoc IsSubSpelt xs y q.1 a q.4 h,
)

closes_fronts : (subs : List Sub) (y : Sub) (f : List ℕ) → Closes 44 (subs ++ y ∷ []) f → Fronts (subs ++ y ∷ []) f
closes_fronts [] y f q = q
closes_fronts (x ∷ xs) y f q = q

closes_subs : (subs : List Sub) (y : Sub) (f : List ℕ) → Closes 41 (subs ++ y ∷ []) f → AreSubsSpelt (subs ++ y ∷ []) f
closes_subs [] y f q = q
closes_subs (x ∷ xs) y f q = q

-- ---- what is read, place by place

abbrev AtPlace : NodePlace → List ℕ → NodeReader → Type 0
AtPlace at.Caret z s = (z ≡ []) × (s.global ≡ []) × (s.subs ≡ []) × (s.text ≡ [])
AtPlace at.First z s = (z ≡ 94 ∷ []) × (s.global ≡ []) × (s.subs ≡ []) × (s.text ≡ [])
AtPlace at.Name z s = (z ≡ 94 ∷ s.global) × (s.subs ≡ []) × (s.text ≡ [])
AtPlace at.Dot z s = (z ≡ 94 ∷ s.global) × (s.subs ≡ []) × (s.text ≡ [])
AtPlace (at.Sub p) z s = (f : List ℕ) × (y : List ℕ) × (z ≡ 94 ∷ s.global ++ (f ++ y)) × Fronts s.subs f × Spells place.Start y p s.text
AtPlace at.Behind z s = (f : List ℕ) × (z ≡ 94 ∷ s.global ++ f) × AreSubsSpelt s.subs f

abbrev Reads : List ℕ → NodeReader → Type 0
Reads z s = s.is_over ≡ false → AtPlace s.place z s

abbrev ReadsNext : List ℕ → Result NodeReader DumpWhy → Type 0
ReadsNext z (Ok t) = Reads z t
ReadsNext z (Err why) = Unit {0}

name_next : (z : List ℕ) (s : NodeReader) (b : ℕ) → (s.is_over ≡ false → (z ≡ 94 ∷ s.global) × (s.subs ≡ []) × (s.text ≡ [])) → Reads (z ++ b ∷ []) (record s { place = in_name b; global = s.global ++ b ∷ [] })
name_next z s b h o = by (b == 46) (h o)
  where
    by : (t : Bool) → (z ≡ 94 ∷ s.global) × (s.subs ≡ []) × (s.text ≡ []) → AtPlace (if t then at.Dot else at.Name) (z ++ b ∷ []) (record s { place = if t then at.Dot else at.Name; global = s.global ++ b ∷ [] })
    by true h = (ap (λ y. y ++ b ∷ []) h.0, h.1, h.2)
    by false h = (ap (λ y. y ++ b ∷ []) h.0, h.1, h.2)

goes_next : (z : List ℕ) (s : NodeReader) (b : ℕ) (t : Bool) → (s.is_over ≡ false → (z ≡ 94 ∷ s.global) × (s.subs ≡ []) × (s.text ≡ [])) → ReadsNext (z ++ b ∷ []) (if t then Ok (record s { place = in_name b; global = s.global ++ b ∷ [] }) else Err BadNode)
goes_next z s b true h = name_next z s b h
goes_next z s b false h = tt

-- a subscript ends
end_next : (c : ℕ) (z : List ℕ) (s : NodeReader) (p : Place) (o : Option Sub) → is_whole p ≡ true → spelt_sub (is_bare p) s.text ≡ o → (s.is_over ≡ false → AtPlace (at.Sub p) z s)
    → (put_sub s o).is_over ≡ false → (f : List ℕ) × (z ++ c ∷ [] ≡ 94 ∷ s.global ++ f) × Closes c (put_sub s o).subs f
end_next c z s p None w e h over = absurd (cc over)
end_next c z s p (Some x) w e h over =
    let q = h over in (
      q.0 ++ q.1 ++ c ∷ [],
      ap (λ y. y ++ c ∷ []) q.2 ∙ append_assoc (94 ∷ s.global) (q.0 ++ q.1) (c ∷ []),
      fronts_put c s.subs q.0 x q.1 q.3 (sub_sound q.1 s.text p x q.4 w e),
    )

comma_next : (z : List ℕ) (s : NodeReader) (p : Place) (o : Option Sub) → is_whole p ≡ true → spelt_sub (is_bare p) s.text ≡ o → (s.is_over ≡ false → AtPlace (at.Sub p) z s) → Reads (z ++ 44 ∷ []) (record (put_sub s o) { place = at.Sub place.Start })
comma_next z s p None w e h over = absurd (cc over)
comma_next z s p (Some x) w e h over =
    let q = end_next 44 z s p (Some x) w e h over in
    (q.0, [], q.1 ∙ ap (λ y. 94 ∷ s.global ++ y) (sym (append-nil q.0)), closes_fronts s.subs x q.0 q.2, Done)

last_next : (z : List ℕ) (s : NodeReader) (p : Place) (o : Option Sub) → is_whole p ≡ true → spelt_sub (is_bare p) s.text ≡ o → (s.is_over ≡ false → AtPlace (at.Sub p) z s) → Reads (z ++ 41 ∷ []) (record (put_sub s o) { place = at.Behind })
last_next z s p None w e h over = absurd (cc over)
last_next z s p (Some x) w e h over =
    let q = end_next 41 z s p (Some x) w e h over in
    (q.0, q.1, closes_subs s.subs x q.0 q.2)

behind_next : (z : List ℕ) (s : NodeReader) (p : Place) (b : ℕ) → is_whole p ≡ true → (s.is_over ≡ false → AtPlace (at.Sub p) z s) → ReadsNext (z ++ b ∷ []) (behind_sub (is_bare p) s b)
behind_next z s p b w h = by (b == 44) (b == 41) refl refl
  where
    by : (t u : Bool) → (b == 44) ≡ t → (b == 41) ≡ u
        → ReadsNext (z ++ b ∷ []) (if t then Ok (record (with_sub (is_bare p) s) { place = at.Sub place.Start }) else (if u then Ok (record (with_sub (is_bare p) s) { place = at.Behind }) else Err BadNode))
    by true u e f = subst (λ c. Reads (z ++ c ∷ []) (record (with_sub (is_bare p) s) { place = at.Sub place.Start })) (sym (eqb-true b 44 e)) (comma_next z s p (spelt_sub (is_bare p) s.text) w refl h)
    by false true e f = subst (λ c. Reads (z ++ c ∷ []) (record (with_sub (is_bare p) s) { place = at.Behind })) (sym (eqb-true b 41 f)) (last_next z s p (spelt_sub (is_bare p) s.text) w refl h)
    by false false e f = tt

turn_next : (z : List ℕ) (s : NodeReader) (p : Place) (b : ℕ) (r : Turn) → turn p b ≡ r → (s.is_over ≡ false → AtPlace (at.Sub p) z s) → ReadsNext (z ++ b ∷ []) (sub_turn p s b r)
turn_next z s p b (Moves r) e h = λ over. let q = h over in (q.0, q.1 ++ b ∷ [], ap (λ y. y ++ b ∷ []) q.2 ∙ append_assoc (94 ∷ s.global) (q.0 ++ q.1) (b ∷ []) ∙ ap (λ y. 94 ∷ s.global ++ y) (append_assoc q.0 q.1 (b ∷ [])), q.3, snoc_move b q.4 e)
turn_next z s p b (Puts r c) e h = λ over. let q = h over in (q.0, q.1 ++ b ∷ [], ap (λ y. y ++ b ∷ []) q.2 ∙ append_assoc (94 ∷ s.global) (q.0 ++ q.1) (b ∷ []) ∙ ap (λ y. 94 ∷ s.global ++ y) (append_assoc q.0 q.1 (b ∷ [])), q.3, snoc_put b c q.4 e)
turn_next z s p b Ends e h = behind_next z s p b (ends_whole p b e) h
turn_next z s p b Wrong e h = tt

step_next : (pl : NodePlace) (z : List ℕ) (s : NodeReader) (b : ℕ) → (s.is_over ≡ false → AtPlace pl z s) → ReadsNext (z ++ b ∷ []) (node_step_at pl s b)
step_next at.Caret z s b h = by (b == 94) refl
  where
    by : (t : Bool) → (b == 94) ≡ t → ReadsNext (z ++ b ∷ []) (if t then Ok (record s { place = at.First }) else Err BadNode)
    by true e = λ over. let q = h over in (ap (λ y. y ++ b ∷ []) q.0 ∙ ap (λ c. c ∷ []) (eqb-true b 94 e), q.1, q.2, q.3)
    by false e = tt
step_next at.First z s b h = by (is_global_first b)
  where
    by : (t : Bool) → ReadsNext (z ++ b ∷ []) (if t then Ok (record s { place = at.Name; global = s.global ++ b ∷ [] }) else Err BadNode)
    by true = λ over. let q = h over in (ap (λ y. y ++ b ∷ []) q.0 ∙ ap (λ g. 94 ∷ g ++ b ∷ []) (sym q.1), q.2, q.3)
    by false = tt
step_next at.Name z s b h = by (b == 40) refl
  where
    by : (t : Bool) → (b == 40) ≡ t → ReadsNext (z ++ b ∷ []) (if t then Ok (record s { place = at.Sub place.Start }) else (if is_global_byte b then Ok (record s { place = in_name b; global = s.global ++ b ∷ [] }) else Err BadNode))
    by true e =
        λ over.
        let q = h over in (
          40 ∷ [],
          [],
          ap (λ y. y ++ b ∷ []) q.0 ∙ ap (λ c. 94 ∷ s.global ++ c ∷ []) (eqb-true b 40 e),
          subst (λ l. Fronts l (40 ∷ [])) (sym q.1) refl,
          subst (λ t. Spells place.Start [] place.Start t) (sym q.2) Done,
        )
    by false e = goes_next z s b (is_global_byte b) h
step_next at.Dot z s b h = goes_next z s b (is_global_byte b) h
step_next (at.Sub p) z s b h = turn_next z s p b (turn p b) refl h
step_next at.Behind z s b h = tt

all_next : (y : List ℕ) (s t : NodeReader) (z : List ℕ) → taken node_step s y ≡ Ok t → Reads z s → Reads (z ++ y) t
unfolding node_step
all_next [] s t z e h =
    let f : Ok s ≡ Ok t = sym (none_taken node_step s) ∙ e in
    let is : s ≡ t = cc in
    subst (λ w. Reads w t) (sym (append-nil z)) (subst (Reads z) is h)
all_next (b ∷ y) s t z e h = elim (outcome node_step s b) [
  | inl o ↦
      subst (λ w. Reads w t) (append_assoc z (b ∷ []) y)
      (all_next y o.0 t (z ++ b ∷ []) (sym (taken_on node_step s o.0 b y o.1) ∙ e) (subst (ReadsNext (z ++ b ∷ [])) o.1 (step_next s.place z s b h)))
  | inr o ↦ absurd (let f = sym (taken_bad node_step s b y o.0 o.1) ∙ e in cc)
]

-- ---- a node

-- the node of a reading that passed no limit
in_is : (s : NodeReader) (n : Node) → node_in s ≡ Some n → (s.is_over ≡ false) × (node_of s ≡ n)
in_is s n = by s.is_over (is_legal_node (node_of s)) refl
  where
    by : (over legal : Bool) → s.is_over ≡ over → (if over || not legal then None else Some (node_of s)) ≡ Some n → (s.is_over ≡ false) × (node_of s ≡ n)
    by true legal e h = absurd (cc)
    by false true e h = (e, some_is (node_of s) n h)
    by false false e h = absurd (cc)

place_sound : (pl : NodePlace) (z : List ℕ) (s : NodeReader) → may_end pl ≡ true → AtPlace pl z s → IsNodeSpelt (node_of s) z
place_sound at.Name z s w q = ([], q.0 ∙ sym (append-nil (94 ∷ s.global)), subst (λ l. AreSubsSpelt l []) (sym q.1) refl)
place_sound at.Behind z s w q = (q.0, q.1, q.2)
place_sound at.Caret z s w q = absurd (cc w)
place_sound at.First z s w q = absurd (cc w)
place_sound at.Dot z s w q = absurd (cc w)
place_sound (at.Sub p) z s w q = absurd (cc w)

start_reads : Reads [] node_start
start_reads over = (refl, refl, refl, refl)

pub node_is_spelt : (z : List ℕ) (s : NodeReader) (n : Node) → taken node_step node_start z ≡ Ok s → is_whole_node s ≡ true → node_in s ≡ Some n → IsNodeSpelt n z
node_is_spelt z s n e w f =
    let is = in_is s n f in
    subst (λ m. IsNodeSpelt m z) is.1 (place_sound s.place z s w (all_next z node_start s [] e start_reads is.0))

pub read_is_spelt : (z : List ℕ) (n : Node) → node_read z ≡ Ok n → IsNodeSpelt n z
unfolding node_read
read_is_spelt z n e = by (taken node_step node_start z) refl e
  where
    ended : (s : NodeReader) (w : Bool) (o : Option Node) → is_whole_node s ≡ w → node_in s ≡ o → taken node_step node_start z ≡ Ok s → (if w then node_or o else Err BadNode) ≡ Ok n → IsNodeSpelt n z
    ended s true (Some m) f g t h = let is : m ≡ n = cc in node_is_spelt z s n t f (g ∙ ap Some is)
    ended s true None f g t h = absurd (cc)
    ended s false o f g t h = absurd (cc)

    by : (r : Result NodeReader DumpWhy) → taken node_step node_start z ≡ r → node_said r ≡ Ok n → IsNodeSpelt n z
    by (Ok s) t h = ended s (is_whole_node s) (node_in s) refl refl t h
    by (Err why) t h = absurd (cc)
