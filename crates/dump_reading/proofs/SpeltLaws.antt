-- Whatever is spelt as the grammar says is read.
use Rattle.std.proofs.Common.{◌≡◌, ℕ, zero, suc, ◌+◌, ◌≤◌, ◌<◌, ◌^◌, ℤ, pos, negsuc, Bool, true, false, ◌&&◌, nat_le, ◌⊎◌, inl, inr, List, [], ◌∷◌, ◌++◌, length, Option, None, Some, Ok, refl, sym, ap, subst, ◌∙◌, arith}
use borrow.Author.Tests.{lt-ltb}
use lib.Signed.{mag}
use Rattle.std.specs.Prelude.{codes}
use Rattle.std.specs.Fmt.{signed_decimal}
use Rattle.std.specs.Str.{IsAscii}
use Rattle.std.specs.Char.{is_ascii}
use Rattle.std.specs.List.{list_all}
use Rattle.std.proofs.lemmas.Fmt.{IsAscii-signed, decimal_nonempty, length_signed_le}
use Rattle.std.proofs.lemmas.List.{append_assoc, append-nil}
use Rattle.std.proofs.lemmas.Bool.Decides.{nat_tests}
use Rattle.obj_kinds.specs.declared.sub.Sub.{Sub}
use Rattle.obj_kinds.specs.declared.node.Node.{Node}
use Rattle.obj_kinds.specs.declared.value.Value.{Value}
use Rattle.obj_kinds.specs.declared.value.Value.TheVariants.{List as Listed}
use Rattle.obj_kinds.specs.Subscript.{IsWhole, whole_of, sub_by, sub_of}
use Rattle.obj_kinds.specs.Limits.{is_legal_text, is_sub_text, is_legal_sub, is_global_name, is_legal_node, is_legal_value}
use Rattle.obj_kinds.specs.Quoted.{quoted}
use Rattle.obj_kinds.specs.Values.{all_true, all_texts}
use Rattle.obj_kinds.proofs.Numbers.{printed-whole_of}
use Rattle.obj_kinds.proofs.ValueLaws.{all_texts-Str, all_texts-List}
use Rattle.global_dump.specs.Lines.{text_value}
use Rattle.std.specs.Prelude.{map}
use Rattle.dump_reading.specs.declared.place.Place.{Place}
use Rattle.dump_reading.specs.declared.place.Place.TheVariants as place
use Rattle.dump_reading.specs.declared.node_reader.NodePlace.TheVariants as at
use Rattle.dump_reading.specs.declared.node_reader.NodeReader.{NodeReader}
use Rattle.dump_reading.specs.declared.value_reader.ValuePlace.TheVariants as value_at
use Rattle.dump_reading.specs.declared.value_reader.ValueReader.{ValueReader}
use Rattle.dump_reading.specs.Taking.{taken}
use Rattle.dump_reading.specs.Places.{is_whole, is_bare}
use Rattle.dump_reading.specs.Building.{Open, with_value}
use Rattle.dump_reading.specs.NodeReading.{node_start, is_whole_node, quoted_sub, spelt_sub, node_step, node_of, node_in}
use Rattle.dump_reading.specs.ValueReading.{value_start, is_long, value_step, is_whole_value, finished, value_in}
use Rattle.dump_reading.specs.LineReading.{line_start, line_step, said_of, line_read, node_said, node_read}
use Rattle.dump_reading.specs.Spellings.{AreMoreSpelt, IsSubSpelt, AreSubsSpelt, IsNodeSpelt, IsTextSpelt, AreItemsSpelt, IsListSpelt, IsValueSpelt, IsLineSpelt}
use Rattle.dump_reading.proofs.Spelling.{Spelt, quoted_spelt}
use Rattle.dump_reading.proofs.TakenLaws.{none_taken, chain, on}
use Rattle.dump_reading.proofs.NodeLaws.{both, in_sub, through_sub, sub_spelt, with_subs, behind, sub_then, sub_last, named, name_read, opens, node_is}
use Rattle.dump_reading.proofs.ValueLaws.{state, first_place, first_through, Settles, item_settles, behind_settles, text_spelt, list_opens, list_ends, item_follows}
use Rattle.dump_reading.proofs.LineLaws.{front, behind_node, front_taken, value_taken, equals, said_is}

-- ---- subscripts

-- the bytes spell the subscript
record SubAs (x : Sub) (z : List ℕ) : Type 0 where
  pub bare : Bool
  pub text : List ℕ
  pub spelt : Spelt bare place.Start z text
  pub is : spelt_sub bare text ≡ Some x

all_ascii : (text : List ℕ) → IsAscii text → list_all is_ascii text ≡ true
all_ascii [] h = refl
all_ascii (byte ∷ text) h = ap (λ b. b && list_all is_ascii text) (lt-ltb byte 128 (h 0)) ∙ all_ascii text (λ i. h (suc i))

small : (z : ℤ) → IsWhole z → mag z < 2 ^ 63
small (pos n) h = omega arith
small (negsuc n) h = omega arith

short : (z : ℤ) → IsWhole z → mag z + 1 < 10 ^ 19
short (pos n) h = omega arith
short (negsuc n) h = omega arith

some_bytes : (z : ℤ) → IsWhole z → 1 ≤ length (signed_decimal z)
some_bytes (pos n) h = let f = decimal_nonempty n (omega arith) in omega arith
some_bytes (negsuc n) h = omega arith

tested : (m n : ℕ) → m ≤ n → nat_le m n ≡ true
tested m n h = grind (arith, nat_tests)

-- a text in quotes that is read as a subscript within the limits
record SubText (t : List ℕ) : Type 0 where
  pub some : nat_le 1 (length t) ≡ true
  pub few : nat_le (length t) 255 ≡ true
  pub ascii : list_all is_ascii t ≡ true

number_text : (z : ℤ) → IsWhole z → SubText (signed_decimal z)
number_text z h = record {
  some = tested 1 (length (signed_decimal z)) (some_bytes z h);
  few = let f = length_signed_le 19 z (short z h) (small z h) in tested (length (signed_decimal z)) 255 (omega arith);
  ascii = all_ascii (signed_decimal z) (IsAscii-signed z (small z h));
}

sub_text_of : (t : List ℕ) → is_legal_sub (sub_of t) ≡ true → SubText t
unfolding is_legal_sub is_sub_text
sub_text_of t h = by (whole_of t) refl h
  where
    by : (o : Option ℤ) → whole_of t ≡ o → is_legal_sub (sub_by t o) ≡ true → SubText t
    by None e h =
        let a = both (nat_le 1 (length t) && nat_le (length t) 255 && list_all is_ascii t) _ h in
        let b = both (nat_le 1 (length t) && nat_le (length t) 255) (list_all is_ascii t) a.0 in
        let c = both (nat_le 1 (length t)) (nat_le (length t) 255) b.0 in
        record { some = c.0; few = c.1; ascii = b.1 }
    by (Some z) e h = let is = printed-whole_of t z e in subst SubText (sym is.1) (number_text z is.0)

sub_as : (x : Sub) (z : List ℕ) → is_legal_sub x ≡ true → IsSubSpelt x z → SubAs x z
unfolding quoted_sub
sub_as x z h (inl e) = let s = sub_spelt x h in record { bare = s.bare; text = s.text; spelt = subst (λ w. Spelt s.bare place.Start w s.text) (sym e) s.spelt; is = s.is }
sub_as x z h (inr q) =
    let s = sub_text_of q.0 (subst (λ y. is_legal_sub y ≡ true) (sym q.2) h) in
    record { bare = false; text = q.0; spelt = subst (λ w. Spelt false place.Start w q.0) (sym q.1) (quoted_spelt q.0 s.ascii); is = rw (s.some, s.few) (ap Some q.2) }

-- what follows a subscript
more_as : (rest : List Sub) (z : List ℕ) → list_all is_legal_sub rest ≡ true → AreMoreSpelt IsSubSpelt rest z → (g : List ℕ) (x : Sub) (p : Place) (t : List ℕ) (subs : List Sub) → is_whole p ≡ true → spelt_sub (is_bare p) t ≡ Some x
    → taken node_step (in_sub p t (with_subs g subs)) (z ++ 41 ∷ []) ≡ Ok (behind g (subs ++ x ∷ rest))
more_as [] z h e g x p t subs w f =
    ap (λ y. taken node_step (in_sub p t (with_subs g subs)) (y ++ 41 ∷ [])) e ∙ on node_step _ _ 41 [] _ (sub_last p t g subs x w f) (none_taken node_step (behind g (subs ++ x ∷ [])))
more_as (y ∷ rest) z h q g x p t subs w f =
    let ok = both (is_legal_sub y) (list_all is_legal_sub rest) h in
    let s = sub_as y q.0 ok.0 q.3 in
    let form : spelt_sub (is_bare s.spelt.last) s.text ≡ Some y = ap (λ bare. spelt_sub bare s.text) s.spelt.form ∙ s.is in
    ap (λ y. taken node_step (in_sub p t (with_subs g subs)) (y ++ 41 ∷ [])) q.2
    ∙ on node_step _ _ 44 (q.0 ++ q.1 ++ 41 ∷ []) _ (sub_then p t g subs x w f)
    (ap (taken node_step (in_sub place.Start [] (with_subs g (subs ++ x ∷ [])))) (append_assoc q.0 q.1 (41 ∷ []))
    ∙ chain node_step _ _ q.0 (q.1 ++ 41 ∷ []) _ (through_sub s.spelt.path [] (with_subs g (subs ++ x ∷ [])))
    (more_as rest q.1 ok.1 q.4 g y s.spelt.last s.text (subs ++ x ∷ []) s.spelt.whole form)
    ∙ ap (λ l. Ok (behind g l)) (append_assoc subs (x ∷ []) (y ∷ rest)))

-- ---- nodes

record NodeAs (g : List ℕ) (subs : List Sub) (z : List ℕ) : Type 0 where
  pub last : NodeReader
  pub whole : is_whole_node last ≡ true
  pub within : last.is_over ≡ false
  pub node : node_of last ≡ record { global = g; subs = subs }
  pub path : taken node_step node_start z ≡ Ok last

subs_as : (subs : List Sub) (g s : List ℕ) → is_global_name g ≡ true → list_all is_legal_sub subs ≡ true → AreSubsSpelt subs s → NodeAs g subs (94 ∷ g ++ s)
subs_as [] g s h hs e = record {
  last = named at.Name g;
  whole = refl;
  within = refl;
  node = refl;
  path = ap (λ y. taken node_step node_start (94 ∷ g ++ y)) e ∙ ap (taken node_step node_start) (append-nil (94 ∷ g)) ∙ name_read g h;
}
subs_as (x ∷ rest) g s h hs q =
    let ok = both (is_legal_sub x) (list_all is_legal_sub rest) hs in
    let a = sub_as x q.0 ok.0 q.3 in
    let form : spelt_sub (is_bare a.spelt.last) a.text ≡ Some x = ap (λ bare. spelt_sub bare a.text) a.spelt.form ∙ a.is in
    record {
      last = behind g (x ∷ rest);
      whole = refl;
      within = refl;
      node = refl;
      path =
          ap (λ y. taken node_step node_start (94 ∷ g ++ y)) q.2
          ∙ chain node_step _ _ (94 ∷ g) (40 ∷ q.0 ++ q.1 ++ 41 ∷ []) _ (name_read g h)
          (on node_step _ _ 40 (q.0 ++ q.1 ++ 41 ∷ []) _ (opens g)
          (ap (taken node_step (in_sub place.Start [] (with_subs g []))) (append_assoc q.0 q.1 (41 ∷ []))
          ∙ chain node_step _ _ q.0 (q.1 ++ 41 ∷ []) _ (through_sub a.spelt.path [] (with_subs g []))
          (more_as rest q.1 ok.1 q.4 g x a.spelt.last a.text [] a.spelt.whole form)));
    }

record NodeSpelt (n : Node) (z : List ℕ) : Type 0 where
  pub last : NodeReader
  pub whole : is_whole_node last ≡ true
  pub node : node_in last ≡ Some n
  pub path : taken node_step node_start z ≡ Ok last

node_as : (n : Node) (z : List ℕ) → is_legal_node n ≡ true → IsNodeSpelt n z → NodeSpelt n z
unfolding is_legal_node
node_as n z h q =
    let subs = both (is_global_name n.global && nat_le (length n.subs) 8) (list_all is_legal_sub n.subs) h in
    let few = both (is_global_name n.global) (nat_le (length n.subs) 8) subs.0 in
    let a = subs_as n.subs n.global q.0 few.0 subs.1 q.2 in
    record { last = a.last; whole = a.whole; node = node_is n a.last h a.within a.node; path = ap (taken node_step node_start) q.1 ∙ a.path }

pub node_spelt_is_read : (n : Node) (z : List ℕ) → is_legal_node n ≡ true → IsNodeSpelt n z → node_read z ≡ Ok n
unfolding node_read
node_spelt_is_read n z h q = let r = node_as n z h q in ap node_said r.path ∙ rw (r.whole, r.node) refl

-- ---- values

record ReadAs (v : Value) (z : List ℕ) (first : Bool) (d : ℕ) (ls : Open) : Type 0 where
  pub last : ValueReader
  pub settles : Settles last d (with_value v ls)
  pub path : taken value_step (state (first_place first) [] d ls) z ≡ Ok last

abbrev ReadsAs : ℕ → Value → List ℕ → Type 0
ReadsAs k v z = all_texts is_legal_text v ≡ true → (first : Bool) (d : ℕ) (ls : Open) → 1 ≤ length ls → length ls + k ≤ 17 → ReadAs v z first d ls

record TextAs (t z : List ℕ) : Type 0 where
  pub bare : Bool
  pub spelt : Spelt bare place.Start z t
  pub short : is_long bare t ≡ false

text_form : (t z : List ℕ) → is_legal_text t ≡ true → (z ≡ text_value t) ⊎ (z ≡ quoted t) → TextAs t z
unfolding is_legal_text
text_form t z h (inl e) = let s = text_spelt t h in record { bare = s.bare; spelt = subst (λ w. Spelt s.bare place.Start w t) (sym e) s.spelt; short = s.short }
text_form t z h (inr e) = record { bare = false; spelt = subst (λ w. Spelt false place.Start w t) (sym e) (quoted_spelt t (both (nat_le (length t) 32767) (list_all is_ascii t) h).1); short = refl }

text_as : (k : ℕ) (v : Value) (z : List ℕ) → IsTextSpelt v z → ReadsAs k v z
text_as k v z q h first d ls some few =
    let t = q.0 in
    let s = text_form t z (sym (all_texts-Str is_legal_text t) ∙ subst (λ x. all_texts is_legal_text x ≡ true) q.1 h) q.2 in
    let short : is_long (is_bare s.spelt.last) t ≡ false = ap (λ bare. is_long bare t) s.spelt.form ∙ s.short in
    subst (λ x. ReadAs x z first d ls) (sym q.1) (record {
      last = state (value_at.Item s.spelt.last) t d ls;
      settles = item_settles s.spelt.last t d ls s.spelt.whole short;
      path = first_through s.spelt.path s.spelt.whole first d ls;
    })

module _ (k : ℕ) (each : (v : Value) (z : List ℕ) → IsValueSpelt k v z → ReadsAs k v z) where
  items_more : (vs : List Value) (z : List ℕ) → AreMoreSpelt (IsValueSpelt k) vs z → all_true (map (all_texts is_legal_text) vs) ≡ true → (done items : List Value) (d : ℕ) (ls : Open) → length ls + 2 + k ≤ 17 → (s : ValueReader) → Settles s (d + 1) (done ∷ items ∷ ls)
      → taken value_step s (z ++ 41 ∷ []) ≡ Ok (state value_at.Behind [] d (with_value (Listed (done ++ vs)) (items ∷ ls)))
  items_more [] z e h done items d ls few s st =
      ap (λ y. taken value_step s (y ++ 41 ∷ [])) e ∙ on value_step s _ 41 [] _ (st.end ∙ list_ends done items d ls) (none_taken value_step _)
      ∙ ap (λ w. Ok (state value_at.Behind [] d (with_value (Listed w) (items ∷ ls)))) (sym (append-nil done))
  items_more (v ∷ vs) z q h done items d ls few s st =
      let ok = both (all_texts is_legal_text v) (all_true (map (all_texts is_legal_text) vs)) h in
      let r = each v q.0 q.3 ok.0 false (d + 1) (done ∷ items ∷ ls) (omega arith) (omega arith) in
      ap (λ y. taken value_step s (y ++ 41 ∷ [])) q.2
      ∙ on value_step s _ 44 (q.0 ++ q.1 ++ 41 ∷ []) _ (st.comma ∙ item_follows d (done ∷ items ∷ ls))
      (ap (taken value_step (state (value_at.Item place.Start) [] (d + 1) (done ∷ items ∷ ls))) (append_assoc q.0 q.1 (41 ∷ []))
      ∙ chain value_step _ _ q.0 (q.1 ++ 41 ∷ []) _ r.path (items_more vs q.1 q.4 ok.1 (done ++ v ∷ []) items d ls few r.last r.settles)
      ∙ ap (λ w. Ok (state value_at.Behind [] d (with_value (Listed w) (items ∷ ls)))) (append_assoc done (v ∷ []) vs))

  items_as : (vs : List Value) (z : List ℕ) → AreItemsSpelt (IsValueSpelt k) vs z → all_true (map (all_texts is_legal_text) vs) ≡ true → (items : List Value) (d : ℕ) (ls : Open) → length ls + 2 + k ≤ 17
      → taken value_step (state value_at.Opened [] (d + 1) ([] ∷ items ∷ ls)) (z ++ 41 ∷ []) ≡ Ok (state value_at.Behind [] d (with_value (Listed vs) (items ∷ ls)))
  unfolding value_step
  items_as [] z e h items d ls few =
      ap (λ y. taken value_step (state value_at.Opened [] (d + 1) ([] ∷ items ∷ ls)) (y ++ 41 ∷ [])) e
      ∙ on value_step (state value_at.Opened [] (d + 1) ([] ∷ items ∷ ls)) _ 41 [] _ (list_ends [] items d ls) (none_taken value_step _)
  items_as (v ∷ vs) z q h items d ls few =
      let ok = both (all_texts is_legal_text v) (all_true (map (all_texts is_legal_text) vs)) h in
      let r = each v q.0 q.3 ok.0 true (d + 1) ([] ∷ items ∷ ls) (omega arith) (omega arith) in
      ap (λ y. taken value_step (state value_at.Opened [] (d + 1) ([] ∷ items ∷ ls)) (y ++ 41 ∷ [])) q.2
      ∙ ap (taken value_step (state value_at.Opened [] (d + 1) ([] ∷ items ∷ ls))) (append_assoc q.0 q.1 (41 ∷ []))
      ∙ chain value_step _ _ q.0 (q.1 ++ 41 ∷ []) _ r.path (items_more vs q.1 q.4 ok.1 (v ∷ []) items d ls few r.last r.settles)

  list_at : (vs : List Value) (x : List ℕ) → AreItemsSpelt (IsValueSpelt k) vs x → all_true (map (all_texts is_legal_text) vs) ≡ true → (first : Bool) (d : ℕ) (ls : Open) → 1 ≤ length ls → length ls + suc k ≤ 17
      → ReadAs (Listed vs) (codes "$lb(" ++ x ++ codes ")") first d ls
  list_at vs x q h first d [] some few = absurd (omega arith)
  list_at vs x q h first d (items ∷ ls) some few = record {
    last = state value_at.Behind [] d (with_value (Listed vs) (items ∷ ls));
    settles = behind_settles d (with_value (Listed vs) (items ∷ ls));
    path =
        ap (taken value_step (state (first_place first) [] d (items ∷ ls))) (append_assoc (codes "$lb(") x (41 ∷ []))
        ∙ list_opens first d (items ∷ ls) (omega arith) (x ++ 41 ∷ [])
        ∙ items_as vs x q h items d ls (omega arith);
  }

  list_as : (v : Value) (z : List ℕ) → IsListSpelt (IsValueSpelt k) v z → ReadsAs (suc k) v z
  list_as v z q h first d ls some few =
      let texts = sym (all_texts-List is_legal_text q.0) ∙ subst (λ w. all_texts is_legal_text w ≡ true) q.2 h in
      subst (λ w. ReadAs w z first d ls) (sym q.2) (subst (λ y. ReadAs (Listed q.0) y first d ls) (sym q.3) (list_at q.0 q.1 q.4 texts first d ls some few))

value_as : (k : ℕ) (v : Value) (z : List ℕ) → IsValueSpelt k v z → ReadsAs k v z
unfolding IsValueSpelt
value_as zero v z q = text_as zero v z q
value_as (suc k) v z (inl q) = text_as (suc k) v z q
value_as (suc k) v z (inr q) = list_as k (value_as k) v z q

-- ---- lines

pub line_spelt_is_read : (n : Node) (v : Value) (z : List ℕ) → is_legal_node n ≡ true → is_legal_value v ≡ true → IsLineSpelt n v z → line_read z ≡ Ok (n, v)
unfolding line_read is_legal_value
line_spelt_is_read n v z hn hv q =
    let node = node_as n q.0 hn q.3 in
    let texts = both _ (all_texts is_legal_text v) hv in
    let r = value_as 16 v q.1 q.4 texts.1 false 0 ([] ∷ []) (omega arith) (omega arith) in
    let value : value_in (finished r.last) ≡ Some v = r.settles.value refl ∙ rw hv refl in
    let whole : is_whole_value r.last ≡ true = rw (r.settles.depth, r.settles.ends) refl in
    ap said_of
    (ap (taken line_step line_start) q.2
    ∙ chain line_step line_start (front node.last) q.0 (61 ∷ q.1) (Ok (behind_node node.last r.last)) (front_taken q.0 node_start node.last node.path)
    (on line_step (front node.last) (behind_node node.last value_start) 61 q.1 _ (equals node.last node.whole) (value_taken q.1 node.last value_start r.last r.path)))
    ∙ said_is node.last r.last n v node.node whole value
