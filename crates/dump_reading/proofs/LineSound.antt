-- A line that is read is spelt: nothing else is accepted.
use Rattle.std.proofs.Common.{◌≡◌, ℕ, Bool, true, false, ◌&&◌, ◌==◌, if◌then◌else◌, inl, inr, List, [], ◌∷◌, ◌++◌, Option, None, Some, Result, Ok, Err, refl, sym, ap, subst, ◌∙◌, eqb-true}
use Rattle.std.proofs.lemmas.List.{append_assoc, append-nil}
use Rattle.obj_kinds.specs.declared.node.Node.{Node}
use Rattle.obj_kinds.specs.declared.value.Value.{Value}
use Rattle.dump_reading.specs.declared.stop.DumpWhy.{DumpWhy}
use Rattle.dump_reading.specs.declared.stop.DumpWhy.TheVariants.{BadNode, BadValue}
use Rattle.dump_reading.specs.declared.node_reader.NodeReader.{NodeReader}
use Rattle.dump_reading.specs.declared.value_reader.ValueReader.{ValueReader}
use Rattle.dump_reading.specs.declared.line.Line.{Line}
use Rattle.dump_reading.specs.Taking.{taken}
use Rattle.dump_reading.specs.NodeReading.{node_start, is_whole_node, node_step, node_in}
use Rattle.dump_reading.specs.ValueReading.{value_start, value_step, is_whole_value, finished, value_in}
use Rattle.dump_reading.specs.LineReading.{line_start, with_node, with_read, line_step, both_of, said, said_of, line_read}
use Rattle.dump_reading.specs.Spellings.{IsLineSpelt}
use Rattle.dump_reading.proofs.TakenLaws.{outcome, none_taken, taken_on, taken_bad, chain}
use Rattle.dump_reading.proofs.NodeSound.{node_is_spelt}
use Rattle.dump_reading.proofs.ValueSound.{value_is_spelt}

-- one byte more
node_more : (a : List ℕ) (s t : NodeReader) (b : ℕ) → taken node_step node_start a ≡ Ok s → node_step s b ≡ Ok t → taken node_step node_start (a ++ b ∷ []) ≡ Ok t
node_more a s t b e f = chain node_step node_start s a (b ∷ []) (Ok t) e (taken_on node_step s t b [] f ∙ none_taken node_step t)

value_more : (a : List ℕ) (s t : ValueReader) (b : ℕ) → taken value_step value_start a ≡ Ok s → value_step s b ≡ Ok t → taken value_step value_start (a ++ b ∷ []) ≡ Ok t
value_more a s t b e f = chain value_step value_start s a (b ∷ []) (Ok t) e (taken_on value_step s t b [] f ∙ none_taken value_step t)

-- what is read of a line, in front of `=` and behind it
abbrev Told : Bool → List ℕ → NodeReader → ValueReader → Type 0
Told false z n v = (taken node_step node_start z ≡ Ok n) × (v ≡ value_start)
Told true z n v = (a : List ℕ) × (b : List ℕ) × (z ≡ a ++ 61 ∷ b) × (taken node_step node_start a ≡ Ok n) × (is_whole_node n ≡ true) × (taken value_step value_start b ≡ Ok v)

abbrev Reads : List ℕ → Line → Type 0
Reads z s = Told s.is_behind z s.node s.value

abbrev ReadsNext : List ℕ → Result Line DumpWhy → Type 0
ReadsNext z (Ok t) = Reads z t
ReadsNext z (Err why) = Unit {0}

abbrev line_of : NodeReader → ValueReader → Bool → Line
line_of n v t = record { node = n; value = v; is_behind = t }

front_next : (z : List ℕ) (n : NodeReader) (v : ValueReader) (b : ℕ) → Told false z n v → ReadsNext (z ++ b ∷ []) (line_step (line_of n v false) b)
unfolding line_step
front_next z n v b h = by (b == 61) (is_whole_node n) refl refl
  where
    named : (r : Result NodeReader DumpWhy) → node_step n b ≡ r → ReadsNext (z ++ b ∷ []) (with_node (line_of n v false) r)
    named (Ok m) e = (node_more z n m b h.0 e, h.1)
    named (Err why) e = tt

    by : (t u : Bool) → (b == 61) ≡ t → is_whole_node n ≡ u → ReadsNext (z ++ b ∷ []) (if t && u then Ok (line_of n v true) else with_node (line_of n v false) (node_step n b))
    by true true e f = (z, [], ap (λ c. z ++ c ∷ []) (eqb-true b 61 e), h.0, f, none_taken value_step value_start ∙ ap Ok (sym h.1))
    by true false e f = named (node_step n b) refl
    by false u e f = named (node_step n b) refl

behind_next : (z : List ℕ) (n : NodeReader) (v : ValueReader) (b : ℕ) → Told true z n v → ReadsNext (z ++ b ∷ []) (line_step (line_of n v true) b)
unfolding line_step
behind_next z n v b h = by (value_step v b) refl
  where
    by : (r : Result ValueReader DumpWhy) → value_step v b ≡ r → ReadsNext (z ++ b ∷ []) (with_read (line_of n v true) r)
    by (Ok w) e = (h.0, h.1 ++ b ∷ [], ap (λ y. y ++ b ∷ []) h.2 ∙ append_assoc h.0 (61 ∷ h.1) (b ∷ []), h.3, h.4, value_more h.1 v w b h.5 e)
    by (Err why) e = tt

next : (z : List ℕ) (n : NodeReader) (v : ValueReader) (t : Bool) (b : ℕ) → Told t z n v → ReadsNext (z ++ b ∷ []) (line_step (line_of n v t) b)
next z n v false b h = front_next z n v b h
next z n v true b h = behind_next z n v b h

all_next : (y : List ℕ) (s t : Line) (z : List ℕ) → taken line_step s y ≡ Ok t → Reads z s → Reads (z ++ y) t
all_next [] s t z e h =
    let f : Ok s ≡ Ok t = sym (none_taken line_step s) ∙ e in
    let is : s ≡ t = cc in
    subst (λ w. Reads w t) (sym (append-nil z)) (subst (Reads z) is h)
all_next (b ∷ y) s t z e h = elim (outcome line_step s b) [
  | inl o ↦
      subst (λ w. Reads w t) (append_assoc z (b ∷ []) y)
      (all_next y o.0 t (z ++ b ∷ []) (sym (taken_on line_step s o.0 b y o.1) ∙ e) (subst (ReadsNext (z ++ b ∷ [])) o.1 (next z s.node s.value s.is_behind b h)))
  | inr o ↦ absurd (let f = sym (taken_bad line_step s b y o.0 o.1) ∙ e in cc)
]

both_is : (n : Option Node) (v : Option Value) (e : Node × Value) → both_of n v ≡ Ok e → (n ≡ Some e.0) × (v ≡ Some e.1)
both_is None v e h = absurd (cc h)
both_is (Some n) None e h = absurd (cc h)
both_is (Some n) (Some v) e h = let is : (n, v) ≡ e = cc in (ap (λ (p : Node × Value). Some p.0) is, ap (λ (p : Node × Value). Some p.1) is)

said_sound : (z : List ℕ) (s : Line) (e : Node × Value) → Reads z s → said s ≡ Ok e → IsLineSpelt e.0 e.1 z
unfolding said
said_sound z s e h f = by s.is_behind (is_whole_value s.value) refl h f
  where
    by : (t u : Bool) → is_whole_value s.value ≡ u → Told t z s.node s.value → (if t then (if u then both_of (node_in s.node) (value_in (finished s.value)) else Err BadValue) else Err BadNode) ≡ Ok e → IsLineSpelt e.0 e.1 z
    by true true w h f =
        let i = both_is (node_in s.node) (value_in (finished s.value)) e f in
        (h.0, h.1, h.2, node_is_spelt h.0 s.node e.0 h.3 h.4 i.0, value_is_spelt h.1 s.value e.1 h.5 w i.1)
    by true false w h f = absurd (cc f)
    by false u w h f = absurd (cc f)

start_reads : Reads [] line_start
start_reads = (none_taken node_step node_start, refl)

pub line_is_spelt : (z : List ℕ) (e : Node × Value) → line_read z ≡ Ok e → IsLineSpelt e.0 e.1 z
unfolding line_read
line_is_spelt z e f = by (taken line_step line_start z) refl f
  where
    by : (r : Result Line DumpWhy) → taken line_step line_start z ≡ r → said_of r ≡ Ok e → IsLineSpelt e.0 e.1 z
    by (Ok s) t f = said_sound z s e (all_next z line_start s [] t start_reads) f
    by (Err why) t f = absurd (cc f)
