-- A written node is read back.
use Rattle.std.proofs.Common.{◌≡◌, ℕ, suc, ◌-◌, ◌^◌, Bool, true, false, not, ◌&&◌, if◌then◌else◌, ◌==◌, nat_le, List, [], ◌∷◌, ◌++◌, length, slice_get, Option, None, Some, is_none, Ok, unsigned_abs, refl, sym, ap, subst, ◌∙◌, eqb-true, arith}
use borrow.Author.Tests.{ltb-true}
use Rattle.std.specs.Fmt.{signed_decimal}
use Rattle.std.specs.Char.{is_ascii}
use Rattle.std.specs.List.{list_all}
use Rattle.std.proofs.lemmas.List.{append_assoc, append-nil}
use Rattle.obj_kinds.specs.declared.sub.Sub.{Sub}
use Rattle.obj_kinds.specs.declared.sub.Sub.TheVariants.{Num, Str}
use Rattle.obj_kinds.specs.declared.node.Node.{Node}
use Rattle.obj_kinds.specs.Subscript.{IsWhole, whole_of, sub_by}
use Rattle.obj_kinds.specs.Limits.{is_sub_text, is_legal_sub, is_global_first, is_global_byte, byte_passes, is_global_name, is_legal_node}
use Rattle.obj_kinds.specs.NodeText.{sub_text, more_subs, subs_text, node_text}
use Rattle.obj_kinds.proofs.Numbers.{whole_of-printed}
use Rattle.dump_reading.specs.declared.place.Place.{Place}
use Rattle.dump_reading.specs.declared.place.Place.TheVariants as place
use Rattle.dump_reading.specs.declared.place.Turn.TheVariants.{Moves, Puts, Ends}
use Rattle.dump_reading.specs.declared.node_reader.NodePlace.{NodePlace}
use Rattle.dump_reading.specs.declared.node_reader.NodePlace.TheVariants as at
use Rattle.dump_reading.specs.declared.node_reader.NodeReader.{NodeReader}
use Rattle.dump_reading.specs.Taking.{taken}
use Rattle.dump_reading.specs.Places.{turn, is_whole, is_bare}
use Rattle.dump_reading.specs.NodeReading.{node_start, is_whole_node, number_or, number_sub, quoted_sub, spelt_sub, in_name, put_sub, behind_sub, sub_turn, node_step, node_of, node_in}
use Rattle.dump_reading.proofs.Spelling.{Spells, Done, Move, Put, Spelt, quoted_spelt, number_spelt}
use Rattle.dump_reading.proofs.TakenLaws.{none_taken, chain, on}

pub both : (a b : Bool) → a && b ≡ true → (a ≡ true) × (b ≡ true)
both true b h = (refl, h)
both false b h = cc

-- ---- subscripts

abbrev pub in_sub : Place → List ℕ → NodeReader → NodeReader
in_sub p t s = record s { place = at.Sub p; text = t }

sub_moves : (p q : Place) (b : ℕ) (t : List ℕ) (s : NodeReader) → turn p b ≡ Moves q → node_step (in_sub p t s) b ≡ Ok (in_sub q t s)
unfolding node_step
sub_moves p q b t s e = ap (sub_turn p (in_sub p t s) b) e

sub_puts : (p q : Place) (b c : ℕ) (t : List ℕ) (s : NodeReader) → turn p b ≡ Puts q c → node_step (in_sub p t s) b ≡ Ok (in_sub q (t ++ c ∷ []) s)
unfolding node_step
sub_puts p q b c t s e = ap (sub_turn p (in_sub p t s) b) e

sub_ends : (p : Place) (b : ℕ) (t : List ℕ) (s : NodeReader) → turn p b ≡ Ends → node_step (in_sub p t s) b ≡ behind_sub (is_bare p) (in_sub p t s) b
unfolding node_step
sub_ends p b t s e = ap (sub_turn p (in_sub p t s) b) e

-- a spelling within a subscript
pub through_sub : {p q : Place} {z u : List ℕ} → Spells p z q u → (t : List ℕ) (s : NodeReader) → taken node_step (in_sub p t s) z ≡ Ok (in_sub q (t ++ u) s)
through_sub (Done {p = p}) t s = none_taken node_step (in_sub p t s) ∙ ap (λ w. Ok (in_sub p w s)) (sym (append-nil t))
through_sub (Move {p = p} {q = q} {r = r} {b = b} {z = z} {u = u} e more) t s = on node_step _ _ b z _ (sub_moves p q b t s e) (through_sub more t s)
through_sub (Put {p = p} {q = q} {r = r} {b = b} {c = c} {z = z} {u = u} e more) t s =
    on node_step _ _ b z _ (sub_puts p q b c t s e) (through_sub more (t ++ c ∷ []) s ∙ ap (λ w. Ok (in_sub r w s)) (append_assoc t (c ∷ []) u))

pub ends_at_comma : (p : Place) → is_whole p ≡ true → turn p 44 ≡ Ends
unfolding turn is_whole
ends_at_comma place.Emptied h = refl
ends_at_comma place.Quote h = refl
ends_at_comma place.Closed h = refl
ends_at_comma place.Zero h = refl
ends_at_comma place.Digits h = refl
ends_at_comma _ h = cc

pub ends_at_end : (p : Place) → is_whole p ≡ true → turn p 41 ≡ Ends
unfolding turn is_whole
ends_at_end place.Emptied h = refl
ends_at_end place.Quote h = refl
ends_at_end place.Closed h = refl
ends_at_end place.Zero h = refl
ends_at_end place.Digits h = refl
ends_at_end _ h = cc

pub none_is : {A : Type 0} (o : Option A) → is_none o ≡ true → o ≡ None
none_is None h = refl
none_is (Some a) h = cc

-- the bytes of a subscript spell it
pub record SubSpelt (x : Sub) : Type 0 where
  pub bare : Bool
  pub text : List ℕ
  pub spelt : Spelt bare place.Start (sub_text x) text
  pub is : spelt_sub bare text ≡ Some x

pub sub_spelt : (x : Sub) → is_legal_sub x ≡ true → SubSpelt x
unfolding is_legal_sub is_sub_text number_sub quoted_sub
sub_spelt (Num z) h =
    let whole : IsWhole z = ltb-true (unsigned_abs z) (10 ^ 18) h in
    record { bare = true; text = signed_decimal z; spelt = number_spelt z whole; is = ap number_or (whole_of-printed (signed_decimal z) z whole refl) }
sub_spelt (Str t) h =
    let a = both (nat_le 1 (length t) && nat_le (length t) 255 && list_all is_ascii t) (is_none (whole_of t)) h in
    let b = both (nat_le 1 (length t) && nat_le (length t) 255) (list_all is_ascii t) a.0 in
    record { bare = false; text = t; spelt = quoted_spelt t b.1; is = rw b.0 (ap (λ o. Some (sub_by t o)) (none_is (whole_of t) a.1)) }

-- the name and the subscripts so far
abbrev pub with_subs : List ℕ → List Sub → NodeReader
with_subs g subs = record node_start { global = g; subs = subs }

abbrev pub behind : List ℕ → List Sub → NodeReader
behind g subs = record (with_subs g subs) { place = at.Behind }

pub sub_then : (p : Place) (t g : List ℕ) (subs : List Sub) (x : Sub) → is_whole p ≡ true → spelt_sub (is_bare p) t ≡ Some x → node_step (in_sub p t (with_subs g subs)) 44 ≡ Ok (in_sub place.Start [] (with_subs g (subs ++ x ∷ [])))
sub_then p t g subs x w e = sub_ends p 44 t (with_subs g subs) (ends_at_comma p w) ∙ ap (λ o. Ok (record (put_sub (in_sub p t (with_subs g subs)) o) { place = at.Sub place.Start })) e

pub sub_last : (p : Place) (t g : List ℕ) (subs : List Sub) (x : Sub) → is_whole p ≡ true → spelt_sub (is_bare p) t ≡ Some x → node_step (in_sub p t (with_subs g subs)) 41 ≡ Ok (behind g (subs ++ x ∷ []))
sub_last p t g subs x w e = sub_ends p 41 t (with_subs g subs) (ends_at_end p w) ∙ ap (λ o. Ok (record (put_sub (in_sub p t (with_subs g subs)) o) { place = at.Behind })) e

-- what follows a subscript, where this is what follows a comma
abbrev FollowsComma : List ℕ → List Sub → Type 0
FollowsComma g [] = Unit {0}
FollowsComma g (y ∷ more) = (subs : List Sub) → taken node_step (in_sub place.Start [] (with_subs g subs)) (sub_text y ++ more_subs more ++ 41 ∷ []) ≡ Ok (behind g (subs ++ y ∷ more))

behind_one : (rest : List Sub) (g : List ℕ) → FollowsComma g rest → (x : Sub) (p : Place) (t : List ℕ) (subs : List Sub) → is_whole p ≡ true → spelt_sub (is_bare p) t ≡ Some x → taken node_step (in_sub p t (with_subs g subs)) (more_subs rest ++ 41 ∷ []) ≡ Ok (behind g (subs ++ x ∷ rest))
behind_one [] g f x p t subs w e = on node_step _ _ 41 [] _ (sub_last p t g subs x w e) (none_taken node_step (behind g (subs ++ x ∷ [])))
behind_one (y ∷ more) g f x p t subs w e =
    on node_step _ _ 44 (sub_text y ++ more_subs more ++ 41 ∷ []) _ (sub_then p t g subs x w e) (f (subs ++ x ∷ []) ∙ ap (λ l. Ok (behind g l)) (append_assoc subs (x ∷ []) (y ∷ more)))

one_on : (rest : List Sub) (x : Sub) → is_legal_sub x ≡ true → (g : List ℕ) → FollowsComma g rest → (subs : List Sub) → taken node_step (in_sub place.Start [] (with_subs g subs)) (sub_text x ++ more_subs rest ++ 41 ∷ []) ≡ Ok (behind g (subs ++ x ∷ rest))
one_on rest x h g f subs =
    let s = sub_spelt x h in
    let form : spelt_sub (is_bare s.spelt.last) s.text ≡ Some x = ap (λ bare. spelt_sub bare s.text) s.spelt.form ∙ s.is in
    ap (taken node_step (in_sub place.Start [] (with_subs g subs))) (append_assoc (sub_text x) (more_subs rest) (41 ∷ []))
    ∙ chain node_step _ _ (sub_text x) (more_subs rest ++ 41 ∷ []) _ (through_sub s.spelt.path [] (with_subs g subs)) (behind_one rest g f x s.spelt.last s.text subs s.spelt.whole form)

all_follow : (rest : List Sub) → list_all is_legal_sub rest ≡ true → (g : List ℕ) → FollowsComma g rest
all_follow [] hs g = tt
all_follow (y ∷ more) hs g =
    let ok = both (is_legal_sub y) (list_all is_legal_sub more) hs in
    λ subs. one_on more y ok.0 g (all_follow more ok.1 g) subs

-- ---- the name

abbrev pub named : NodePlace → List ℕ → NodeReader
named p g = record node_start { place = p; global = g }

-- within a name, behind a dot or not
abbrev name_at : Bool → NodePlace
name_at dot = if dot then at.Dot else at.Name

no_parenthesis : (b : ℕ) → is_global_byte b ≡ true → (b == 40) ≡ false
no_parenthesis b h = by (b == 40) refl
  where
    by : (t : Bool) → (b == 40) ≡ t → t ≡ false
    by true e = let is : b ≡ 40 = eqb-true b 40 e in let f = subst (λ c. is_global_byte c ≡ true) is h in cc
    by false e = refl

name_goes : (dot : Bool) (b : ℕ) → is_global_byte b ≡ true → (g : List ℕ) → node_step (named (name_at dot) g) b ≡ Ok (named (in_name b) (g ++ b ∷ []))
unfolding node_step
name_goes true b h g = rw h refl
name_goes false b h g = rw (no_parenthesis b h, h) refl

-- where the reading of a name stands behind these bytes
lastly : NodePlace → List ℕ → NodePlace
lastly p [] = p
lastly p (b ∷ g) = lastly (in_name b) g

name_on : (g : List ℕ) → list_all is_global_byte g ≡ true → (dot : Bool) (before : List ℕ) → taken node_step (named (name_at dot) before) g ≡ Ok (named (lastly (name_at dot) g) (before ++ g))
unfolding lastly
name_on [] h dot before = none_taken node_step (named (name_at dot) before) ∙ ap (λ w. Ok (named (name_at dot) w)) (sym (append-nil before))
name_on (b ∷ g) h dot before =
    let ok = both (is_global_byte b) (list_all is_global_byte g) h in
    on node_step _ _ b g _ (name_goes dot b ok.0 before) (name_on g ok.1 (b == 46) (before ++ b ∷ []) ∙ ap (λ w. Ok (named (lastly (in_name b) g) w)) (append_assoc before (b ∷ []) g))

-- a name that doesn't end with a dot
ends_in_name : (g : List ℕ) (b : ℕ) → byte_passes (λ c. not (c == 46)) (slice_get (b ∷ g) (length g)) ≡ true → lastly (in_name b) g ≡ at.Name
unfolding lastly
ends_in_name [] b h = by (b == 46) refl h
  where
    by : (t : Bool) → (b == 46) ≡ t → not (b == 46) ≡ true → in_name b ≡ at.Name
    by true e h = absurd (let f = sym (ap not e) ∙ h in cc)
    by false e h = rw e refl
ends_in_name (c ∷ g) b h = ends_in_name g c h

first_goes : (b : ℕ) → is_global_first b ≡ true → node_step (record node_start { place = at.First }) b ≡ Ok (named at.Name (b ∷ []))
unfolding node_step
first_goes b h = rw h refl

abbrev pub NameIsRead : List ℕ → Type 0
NameIsRead g = taken node_step node_start (94 ∷ g) ≡ Ok (named at.Name g)

pub name_read : (g : List ℕ) → is_global_name g ≡ true → NameIsRead g
unfolding is_global_name node_step lastly
name_read [] h = absurd (cc h)
name_read (b ∷ g) h =
    let few = both _ _ h in
    let all = both _ _ few.0 in
    let ends = both _ _ all.0 in
    let bytes = both (is_global_byte b) (list_all is_global_byte g) all.1 in
    let last : lastly at.Name g ≡ at.Name = by g ends.1 in
    on node_step _ (record node_start { place = at.First }) 94 (b ∷ g) _ refl
    (on node_step _ _ b g _ (first_goes b ends.0) (name_on g bytes.1 false (b ∷ []) ∙ ap (λ p. Ok (named p (b ∷ g))) last))
  where
    -- the first byte is no dot
    by : (g : List ℕ) → byte_passes (λ c. not (c == 46)) (slice_get (b ∷ g) (length (b ∷ g) - 1)) ≡ true → lastly at.Name g ≡ at.Name
    by [] h = refl
    by (c ∷ more) h = ends_in_name more c (subst (λ k. byte_passes (λ c. not (c == 46)) (slice_get (b ∷ c ∷ more) k) ≡ true) less h)
      where
        less : length (b ∷ c ∷ more) - 1 ≡ suc (length more)
        less = omega arith

-- ---- the node

record NodeEnds (g : List ℕ) (subs : List Sub) : Type 0 where
  pub last : NodeReader
  pub whole : is_whole_node last ≡ true
  pub within : last.is_over ≡ false
  pub node : node_of last ≡ record { global = g; subs = subs }
  pub path : taken node_step node_start (94 ∷ g ++ subs_text subs) ≡ Ok last

pub opens : (g : List ℕ) → node_step (named at.Name g) 40 ≡ Ok (in_sub place.Start [] (with_subs g []))
unfolding node_step
opens g = refl

node_ends : (subs : List Sub) (g : List ℕ) → is_global_name g ≡ true → list_all is_legal_sub subs ≡ true → NodeEnds g subs
node_ends [] g h hs = record {
  last = named at.Name g;
  whole = refl;
  within = refl;
  node = refl;
  path = ap (taken node_step node_start) (append-nil (94 ∷ g)) ∙ name_read g h;
}
node_ends (x ∷ rest) g h hs =
    let ok = both (is_legal_sub x) (list_all is_legal_sub rest) hs in
    record {
      last = behind g (x ∷ rest);
      whole = refl;
      within = refl;
      node = refl;
      path =
          chain node_step _ _ (94 ∷ g) (40 ∷ sub_text x ++ more_subs rest ++ 41 ∷ []) _ (name_read g h)
          (on node_step _ _ 40 (sub_text x ++ more_subs rest ++ 41 ∷ []) _ (opens g) (one_on rest x ok.0 g (all_follow rest ok.1 g) []));
    }

pub record NodeIsRead (n : Node) : Type 0 where
  pub last : NodeReader
  pub whole : is_whole_node last ≡ true
  pub node : node_in last ≡ Some n
  pub path : taken node_step node_start (node_text n) ≡ Ok last

pub node_is : (n : Node) (s : NodeReader) → is_legal_node n ≡ true → s.is_over ≡ false → node_of s ≡ n → node_in s ≡ Some n
node_is n s h o e = rw (o, e, h) refl

pub node_is_read : (n : Node) → is_legal_node n ≡ true → NodeIsRead n
unfolding is_legal_node node_text
node_is_read n h =
    let subs = both _ _ h in
    let few = both _ _ subs.0 in
    let ends = node_ends n.subs n.global few.0 subs.1 in
    record { last = ends.last; whole = ends.whole; node = node_is n ends.last h ends.within ends.node; path = ends.path }
