-- A written line is read back.
use Rattle.std.proofs.Common.{◌≡◌, ℕ, Bool, true, false, ◌==◌, inl, inr, List, [], ◌∷◌, Some, Result, Ok, Err, refl, sym, ap, ◌∙◌, eqb-true}
use Rattle.obj_kinds.specs.declared.node.Node.{Node}
use Rattle.obj_kinds.specs.declared.value.Value.{Value}
use Rattle.obj_kinds.specs.Limits.{is_legal_node, is_legal_value}
use Rattle.obj_kinds.specs.NodeText.{node_text}
use Rattle.global_dump.specs.Lines.{value_text, line_text}
use Rattle.dump_reading.specs.declared.node_reader.NodePlace.{NodePlace}
use Rattle.dump_reading.specs.declared.node_reader.NodePlace.TheVariants as at
use Rattle.dump_reading.specs.declared.node_reader.NodeReader.{NodeReader}
use Rattle.dump_reading.specs.declared.value_reader.ValueReader.{ValueReader}
use Rattle.dump_reading.specs.declared.line.Line.{Line}
use Rattle.dump_reading.specs.declared.stop.DumpWhy.TheVariants.{BadNode}
use Rattle.dump_reading.specs.Taking.{taken}
use Rattle.dump_reading.specs.NodeReading.{node_start, may_end, is_whole_node, node_step_at, node_step, node_in}
use Rattle.dump_reading.specs.ValueReading.{value_start, value_step, is_whole_value, finished, value_in}
use Rattle.dump_reading.specs.LineReading.{line_start, with_node, with_read, line_step, said, said_of, line_read, node_said, node_read}
use Rattle.dump_reading.proofs.TakenLaws.{outcome, none_taken, taken_on, taken_bad, chain, on}
use Rattle.dump_reading.proofs.NodeLaws.{node_is_read}
use Rattle.dump_reading.proofs.ValueLaws.{value_is_read}

-- ---- in front of `=`

abbrev pub front : NodeReader → Line
front s = record line_start { node = s }

abbrev pub behind_node : NodeReader → ValueReader → Line
behind_node s v = record { node = s; value = v; is_behind = true }

-- no node goes on with `=` where it may end
stops : (p : NodePlace) → may_end p ≡ true → (s : NodeReader) → node_step_at p s 61 ≡ Err BadNode
stops at.Name h s = refl
stops at.Behind h s = refl
stops _ h s = cc

stops_whole : (s : NodeReader) → is_whole_node s ≡ true → node_step s 61 ≡ Err BadNode
unfolding node_step
stops_whole s h = stops s.place h s

front_goes : (s t : NodeReader) (b : ℕ) → node_step s b ≡ Ok t → line_step (front s) b ≡ Ok (front t)
unfolding line_step
front_goes s t b e = by (b == 61) (is_whole_node s) refl refl
  where
    by : (x y : Bool) → (b == 61) ≡ x → is_whole_node s ≡ y → line_step (front s) b ≡ Ok (front t)
    by true true f g = absurd (let is : b ≡ 61 = eqb-true b 61 f in let stop = sym e ∙ ap (node_step s) is ∙ stops_whole s g in cc)
    by true false f g = rw (f, g) (ap (with_node (front s)) e)
    by false y f g = rw f (ap (with_node (front s)) e)

pub front_taken : (z : List ℕ) (s t : NodeReader) → taken node_step s z ≡ Ok t → taken line_step (front s) z ≡ Ok (front t)
front_taken [] s t e = none_taken line_step (front s) ∙ ap ended (sym (none_taken node_step s) ∙ e)
  where
    ended : {W : Type 0} → Result NodeReader W → Result Line W
    ended (Ok u) = Ok (front u)
    ended (Err why) = Err why
front_taken (b ∷ z) s t e = elim (outcome node_step s b) [
  | inl o ↦ on line_step _ _ b z _ (front_goes s o.0 b o.1) (front_taken z o.0 t (sym (taken_on node_step s o.0 b z o.1) ∙ e))
  | inr o ↦ absurd (let f = sym (taken_bad node_step s b z o.0 o.1) ∙ e in cc)
]

-- ---- behind it

value_goes : (s : NodeReader) (v w : ValueReader) (b : ℕ) → value_step v b ≡ Ok w → line_step (behind_node s v) b ≡ Ok (behind_node s w)
unfolding line_step
value_goes s v w b e = ap (with_read (behind_node s v)) e

pub value_taken : (z : List ℕ) (s : NodeReader) (v w : ValueReader) → taken value_step v z ≡ Ok w → taken line_step (behind_node s v) z ≡ Ok (behind_node s w)
value_taken [] s v w e = none_taken line_step (behind_node s v) ∙ ap ended (sym (none_taken value_step v) ∙ e)
  where
    ended : {W : Type 0} → Result ValueReader W → Result Line W
    ended (Ok u) = Ok (behind_node s u)
    ended (Err why) = Err why
value_taken (b ∷ z) s v w e = elim (outcome value_step v b) [
  | inl o ↦ on line_step _ _ b z _ (value_goes s v o.0 b o.1) (value_taken z s o.0 w (sym (taken_on value_step v o.0 b z o.1) ∙ e))
  | inr o ↦ absurd (let f = sym (taken_bad value_step v b z o.0 o.1) ∙ e in cc)
]

pub equals : (s : NodeReader) → is_whole_node s ≡ true → line_step (front s) 61 ≡ Ok (behind_node s value_start)
unfolding line_step
equals s h = rw h refl

-- ---- the laws

pub said_is : (s : NodeReader) (v : ValueReader) (n : Node) (x : Value) → node_in s ≡ Some n → is_whole_value v ≡ true → value_in (finished v) ≡ Some x → said (behind_node s v) ≡ Ok (n, x)
unfolding said
said_is s v n x e w f = rw (w, e, f) refl

-- all bytes of the line are taken
pub line_taken : (n : Node) (x : Value) → is_legal_node n ≡ true → is_legal_value x ≡ true → (s : Line) × (taken line_step line_start (line_text n x) ≡ Ok s) × (said s ≡ Ok (n, x))
line_taken n x hn hx =
    let node = node_is_read n hn in
    let value = value_is_read x hx in (
      behind_node node.last value.last,
      chain line_step line_start (front node.last) (node_text n) (61 ∷ value_text x) (Ok (behind_node node.last value.last)) (front_taken (node_text n) node_start node.last node.path)
          (on line_step (front node.last) (behind_node node.last value_start) 61 (value_text x) _ (equals node.last node.whole) (value_taken (value_text x) node.last value_start value.last value.path)),
      said_is node.last value.last n x node.node value.whole value.value,
    )

pub line_is_read : (n : Node) (x : Value) → is_legal_node n ≡ true → is_legal_value x ≡ true → line_read (line_text n x) ≡ Ok (n, x)
unfolding line_read
line_is_read n x hn hx = let t = line_taken n x hn hx in ap said_of t.1 ∙ t.2

pub node_is_read_back : (n : Node) → is_legal_node n ≡ true → node_read (node_text n) ≡ Ok n
unfolding node_read
node_is_read_back n h = let r = node_is_read n h in ap node_said r.path ∙ rw (r.whole, r.node) refl
