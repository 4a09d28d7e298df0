-- A member that is taken out.
use Rattle.std.proofs.Common.{suc, ◌≡◌, ℕ, ◌+◌, cond, Bool, true, false, Option, Some, None, IsSome, List, [], ◌∷◌, length, refl, ap, sym, subst, ◌∙◌, arith, slice_set}
use Rattle.std.specs.List.{position, slice_get, remove}
use Rattle.std.specs.Option.{option_map}
use Rattle.std.proofs.lemmas.Bool.{eqb-true}
use Rattle.oref_table.specs.declared.oref.Oref.{Oref}
use Rattle.oref_table.specs.declared.slot.Slot.{Slot}
use Rattle.oref_table.specs.declared.slot.Slot.TheVariants.{Members}
use Rattle.oref_table.specs.declared.obj.Entry.{Entry}
use Rattle.oref_table.specs.declared.obj.Freed.{Freed}
use Rattle.oref_table.specs.Refs.{times, numbers}
use Rattle.oref_table.specs.Memory.{Object, Memory, IsLive, first_that, at_first, without_first, object_of, edited, loosed}
use Rattle.oref_table.specs.Entries.{refs_all, seen_one, lowered, is_entry, with_entry_slot, AreCounted}
use Rattle.oref_table.specs.Exchanges.{DropsFirst}
use Rattle.oref_table.specs.Stands.{memory_of, IsTable}
use Rattle.oref_table.specs.Filling.{with_slot, is_member, HasMember}
use Rattle.oref_table.proofs.RefLaws.{refs-members}
use Rattle.oref_table.proofs.FirstLaws.{place_in, position-is, first-at}
use Rattle.oref_table.proofs.Counting.{covered-none, loosened-none}
use Rattle.oref_table.proofs.EditLaws.{length-at_first, object-found}
use Rattle.oref_table.proofs.FillLaws.{IsFilled, fill-any, times-slot}
use Rattle.oref_table.proofs.ReleaseLaws.{length-lowered}
use Rattle.oref_table.proofs.InsertLaws.{slots-of}

without-absent : {X : Type 0} (p : X → Bool) (xs : List X) → place_in p xs ≡ None → without_first p xs ≡ xs
without-absent p [] e = refl
without-absent {X = X} p (x ∷ xs) e = absent-step (p x) (place_in p xs) (without-absent p xs) e
  where
    absent-step : (b : Bool) (o : Option ℕ) → (o ≡ None → without_first p xs ≡ xs) → cond b (Some 0) (option_map suc o) ≡ None → cond b xs (x ∷ without_first p xs) ≡ x ∷ xs
    absent-step true o h e = cc
    absent-step false None h e = ap (λ t. x ∷ t) (h refl)
    absent-step false (Some j) h e = cc

-- the two exits of the search among the members
pub without-none-is : {X : Type 0} (p : X → Bool) (xs : List X) → position p xs ≡ None → xs ≡ without_first p xs
without-none-is p xs e = sym (without-absent p xs (sym (position-is p xs) ∙ e))

pub without-some-is : {X : Type 0} (p : X → Bool) (xs : List X) (k : ℕ) (d : X) → position p xs ≡ Some k → remove xs k ≡ without_first p xs
without-some-is p xs k d e = sym (first-at p xs d k (sym (position-is p xs) ∙ e)).others

times-step : (x k : ℕ) (o : Oref) (os w : List Oref) (b : Bool) (f : Option Oref) → is_member k o ≡ b → (IsSome f → times x (numbers w) + times x (k ∷ []) ≡ times x (numbers os)) → IsSome (cond b (Some o) f) → times x (numbers (cond b os (o ∷ w))) + times x (k ∷ []) ≡ times x (numbers (o ∷ os))
times-step x k o os w true f e h s =
    let same : o.0 ≡ k = eqb-true o.0 k e in
    let z : times x (o.0 ∷ []) ≡ times x (k ∷ []) = ap (λ n. times x (n ∷ [])) same in
    omega (arith, z)
times-step x k o os w false f e h s = omega (arith, h s)

times-member : (x k : ℕ) (os : List Oref) → IsSome (first_that (is_member k) os) → times x (numbers (without_first (is_member k) os)) + times x (k ∷ []) ≡ times x (numbers os)
times-member x k [] s = cc
times-member x k (o ∷ os) s = times-step x k o os (without_first (is_member k) os) (is_member k o) (first_that (is_member k) os) refl (times-member x k os) s

pub drop-member : (es : List Entry) (last : ℕ) (fs : List Freed) (n places at member : ℕ) (r : Entry) (members : List Oref) (before : List Entry) → IsTable es last fs places → first_that (is_entry n) es ≡ Some r → slice_get r.obj.slots at ≡ Some (Members members) → IsSome (first_that (is_member member) members) → before ≡ lowered (member ∷ []) (at_first (is_entry n) (with_entry_slot at (Members (without_first (is_member member) members))) es) → IsFilled (edited (memory_of es last fs) n (with_slot at (Members (without_first (is_member member) members)))) before
unfolding AreCounted loosed edited
drop-member es last fs n places at member r members before t found there some so =
    let slot : Slot = Members (without_first (is_member member) members) in
    let m : Memory = edited (memory_of es last fs) n (with_slot at slot) in
    let f = fill-any es last fs n places r (λ slots. slice_set slots at slot) (member ∷ []) [] before t found
    (covered-none (refs_all es) es t.counted) (λ x e. refl)
    (λ x. omega (arith, times-slot x r.obj.slots at slot (Members members) there, ap (times x) (refs-members members), ap (times x) (refs-members (without_first (is_member member) members)), times-member x member members some))
    so in
    let same : loosed m [] ≡ m = λ i. record { objects = loosened-none m.objects i; last = last; freed = fs } in
    subst (λ (w : Memory). IsFilled w before) same f

members-part : (a b : List Oref) → Some (Members a) ≡ Some (Members b) → a ≡ b
members-part a b e = cc

entry-part : (a b : Entry) → Some a ≡ Some b → a ≡ b
entry-part a b e = cc

-- the slot has members, and the number is one of them
abbrev pub HasMemberAt : ℕ → ℕ → List Slot → Type 0
HasMemberAt at member slots = (members : List Oref) × (slice_get slots at ≡ Some (Members members)) × IsSome (first_that (is_member member) members)

pub record IsTaken (m : Memory) (n at member : ℕ) (es before : List Entry) : Type 0 where
  pub object : Object
  pub members : List Oref
  pub found : object_of n m.objects ≡ Some object
  pub there : slice_get object.slots at ≡ Some (Members members)
  pub filled : IsFilled (edited m n (with_slot at (Members (without_first (is_member member) members)))) before
  pub long : length before ≡ length es

pub take-member : (es : List Entry) (last : ℕ) (fs : List Freed) (n places at member : ℕ) (mid before : List Entry) → IsTable es last fs places → IsLive (memory_of es last fs) n → HasMember (memory_of es last fs) n at member → DropsFirst n at member es mid → before ≡ lowered (member ∷ []) mid → IsTaken (memory_of es last fs) n at member es before
take-member es last fs n places at member mid before t live has s low =
    let r : Entry = s.0 in
    let members : List Oref = s.1 in
    let slot : Slot = Members (without_first (is_member member) members) in
    let own = slots-of (HasMemberAt at member) es n live has in
    let one : own.0 ≡ r = entry-part own.0 r (sym own.1 ∙ s.2) in
    let kept : HasMemberAt at member r.obj.slots = subst (λ (e : Entry). HasMemberAt at member e.obj.slots) one own.2 in
    let same : kept.0 ≡ members = members-part kept.0 members (sym kept.1 ∙ s.3) in
    let some : IsSome (first_that (is_member member) members) = subst (λ (v : List Oref). IsSome (first_that (is_member member) v)) same kept.2 in
    let all : before ≡ lowered (member ∷ []) (at_first (is_entry n) (with_entry_slot at slot) es) = low ∙ ap (lowered (member ∷ [])) s.4 in
    record {
      object = seen_one (refs_all es) r;
      members = members;
      found = object-found es n r s.2;
      there = s.3;
      filled = drop-member es last fs n places at member r members before t s.2 s.3 some all;
      long = ap length all ∙ length-lowered (member ∷ []) (at_first (is_entry n) (with_entry_slot at slot) es) ∙ length-at_first (is_entry n) (with_entry_slot at slot) es;
    }
