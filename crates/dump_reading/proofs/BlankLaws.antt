-- No line has a line feed or a byte 13 in it.
use Rattle.std.proofs.Common.{◌≡◌, ◌≢◌, ℕ, zero, suc, ◌-◌, Bool, true, false, ◌==◌, ◌⊎◌, inl, inr, List, [], ◌∷◌, length, Result, Ok, Err, refl, sym, ap, subst, ◌∙◌, eqb-true}
use Rattle.std.specs.Prelude.{slice_index}
use Rattle.obj_kinds.specs.Quoted.{is_plain}
use Rattle.text_lines.specs.Lines.{NoFeed, without_return}
use Rattle.dump_reading.specs.declared.place.Place.{Place}
use Rattle.dump_reading.specs.declared.place.Place.TheVariants as place
use Rattle.dump_reading.specs.declared.place.Turn.{Turn}
use Rattle.dump_reading.specs.declared.place.Turn.TheVariants.{Ends, Wrong}
use Rattle.dump_reading.specs.declared.node_reader.NodePlace.{NodePlace}
use Rattle.dump_reading.specs.declared.node_reader.NodePlace.TheVariants as node_at
use Rattle.dump_reading.specs.declared.node_reader.NodeReader.{NodeReader}
use Rattle.dump_reading.specs.declared.value_reader.ValuePlace.{ValuePlace}
use Rattle.dump_reading.specs.declared.value_reader.ValuePlace.TheVariants as value_at
use Rattle.dump_reading.specs.declared.value_reader.ValueReader.{ValueReader}
use Rattle.dump_reading.specs.declared.line.Line.{Line}
use Rattle.dump_reading.specs.declared.stop.DumpWhy.{DumpWhy}
use Rattle.dump_reading.specs.Taking.{taken}
use Rattle.dump_reading.specs.Places.{turn}
use Rattle.dump_reading.specs.NodeReading.{sub_turn, node_step_at, node_step}
use Rattle.dump_reading.specs.ValueReading.{is_list_letter, item_turn, value_step_at, value_step}
use Rattle.dump_reading.specs.LineReading.{with_node, with_read, line_step}
use Rattle.dump_reading.proofs.TakenLaws.{outcome, taken_on, taken_bad}

-- a line feed, or a byte 13
abbrev blank : Bool → ℕ
blank true = 10
blank false = 13

abbrev Stops : Turn → Type 0
Stops r = (r ≡ Ends) ⊎ (r ≡ Wrong)

code_stops : (code : ℕ) (c : Bool) → turn (place.Code code) (blank c) ≡ Wrong
unfolding turn
code_stops code c = by (is_plain code) refl c
  where
    by : (t : Bool) → is_plain code ≡ t → (c : Bool) → turn (place.Code code) (blank c) ≡ Wrong
    by true e true = rw e refl
    by true e false = rw e refl
    by false e true = rw e refl
    by false e false = rw e refl

turn_stops : (p : Place) (c : Bool) → Stops (turn p (blank c))
unfolding turn
turn_stops (place.Code code) c = inr (code_stops code c)
turn_stops place.Emptied true = inl refl
turn_stops place.Emptied false = inl refl
turn_stops place.Quote true = inl refl
turn_stops place.Quote false = inl refl
turn_stops place.Closed true = inl refl
turn_stops place.Closed false = inl refl
turn_stops place.Zero true = inl refl
turn_stops place.Zero false = inl refl
turn_stops place.Digits true = inl refl
turn_stops place.Digits false = inl refl
turn_stops _ true = inr refl
turn_stops _ false = inr refl

abbrev IsRefused : {A W : Type 0} → Result A W → Type 0
IsRefused (Ok a) = ⊥
IsRefused (Err why) = Unit {0}

-- ---- in a node

sub_stops : (p : Place) (s : NodeReader) (c : Bool) (r : Turn) → Stops r → IsRefused (sub_turn p s (blank c) r)
sub_stops p s true r (inl e) = subst (λ r. IsRefused (sub_turn p s 10 r)) (sym e) tt
sub_stops p s false r (inl e) = subst (λ r. IsRefused (sub_turn p s 13 r)) (sym e) tt
sub_stops p s c r (inr e) = subst (λ r. IsRefused (sub_turn p s (blank c) r)) (sym e) tt

node_stops : (p : NodePlace) (s : NodeReader) (c : Bool) → IsRefused (node_step_at p s (blank c))
node_stops (node_at.Sub p) s c = sub_stops p s c (turn p (blank c)) (turn_stops p c)
node_stops _ s true = tt
node_stops _ s false = tt

-- ---- in a value

no_letter : (p : Place) (c : Bool) → is_list_letter p (blank c) ≡ false
no_letter place.Dollar true = refl
no_letter place.Dollar false = refl
no_letter _ c = refl

item_stops : (p : Place) (s : ValueReader) (c : Bool) (r : Turn) → Stops r → IsRefused (item_turn p s (blank c) r)
item_stops p s true r (inl e) = subst (λ r. IsRefused (item_turn p s 10 r)) (sym e) tt
item_stops p s false r (inl e) = subst (λ r. IsRefused (item_turn p s 13 r)) (sym e) tt
item_stops p s c r (inr e) = subst (λ r. IsRefused (item_turn p s (blank c) r)) (sym e) (rw (no_letter p c) tt)

value_stops : (p : ValuePlace) (s : ValueReader) (c : Bool) → IsRefused (value_step_at p s (blank c))
value_stops (value_at.Item p) s c = item_stops p s c (turn p (blank c)) (turn_stops p c)
value_stops value_at.Opened s true = item_stops place.Start s true (turn place.Start 10) (turn_stops place.Start true)
value_stops value_at.Opened s false = item_stops place.Start s false (turn place.Start 13) (turn_stops place.Start false)
value_stops _ s true = tt
value_stops _ s false = tt

-- ---- in a line

with_node_stops : (s : Line) (r : Result NodeReader DumpWhy) → IsRefused r → IsRefused (with_node s r)
with_node_stops s (Ok n) h = h
with_node_stops s (Err why) h = tt

with_read_stops : (s : Line) (r : Result ValueReader DumpWhy) → IsRefused r → IsRefused (with_read s r)
with_read_stops s (Ok n) h = h
with_read_stops s (Err why) h = tt

line_stops : (s : Line) (c : Bool) → IsRefused (line_step s (blank c))
unfolding line_step node_step value_step
line_stops s c = by s.node s.value s.is_behind c
  where
    by : (n : NodeReader) (v : ValueReader) (t c : Bool) → IsRefused (line_step (record { node = n; value = v; is_behind = t }) (blank c))
    by n v true c = with_read_stops (record { node = n; value = v; is_behind = true }) (value_step v (blank c)) (value_stops v.place v c)
    by n v false true = with_node_stops (record { node = n; value = v; is_behind = false }) (node_step n 10) (node_stops n.place n true)
    by n v false false = with_node_stops (record { node = n; value = v; is_behind = false }) (node_step n 13) (node_stops n.place n false)

-- the byte isn't among these
abbrev pub Lacks : ℕ → List ℕ → Type 0
Lacks c [] = Unit {0}
Lacks c (b ∷ z) = (b ≢ c) × Lacks c z

pub lacks_blank : (c : Bool) (z : List ℕ) (s t : Line) → taken line_step s z ≡ Ok t → Lacks (blank c) z
lacks_blank c [] s t e = tt
lacks_blank c (b ∷ z) s t e = elim (outcome line_step s b) [
  | inl o ↦ (λ is. subst IsRefused (ap (line_step s) (sym is) ∙ o.1) (line_stops s c), lacks_blank c z o.0 t (sym (taken_on line_step s o.0 b z o.1) ∙ e))
  | inr o ↦ absurd (let f = sym (taken_bad line_step s b z o.0 o.1) ∙ e in cc)
]

pub no_feed : (z : List ℕ) → Lacks 10 z → NoFeed z
unfolding NoFeed
no_feed [] h = tt
no_feed (b ∷ z) h = (h.0, no_feed z h.1)

no_return_at : (z : List ℕ) → Lacks 13 z → (i : ℕ) → (slice_index z i == 13) ≡ false
no_return_at [] h i = refl
no_return_at (b ∷ z) h zero = by (b == 13) refl
  where
    by : (t : Bool) → (b == 13) ≡ t → t ≡ false
    by true e = absurd (h.0 (eqb-true b 13 e))
    by false e = refl
no_return_at (b ∷ z) h (suc i) = no_return_at z h.1 i

pub no_return : (z : List ℕ) → Lacks 13 z → without_return z ≡ z
unfolding without_return
no_return z h = rw (no_return_at z h (length z - 1)) refl
