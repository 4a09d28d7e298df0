-- A set of a part keeps the memory: the copy of the part stands there, with the objects that it has of its own.
use Rattle.std.proofs.Common.{◌≡◌, ◌≤◌, ℕ, ◌+◌, List, [], ◌∷◌, ◌++◌, length, None, Some, refl, ap, sym, subst, ◌∙◌, arith}
use Rattle.std.specs.Option.{IsSomeAnd}
use Rattle.std.specs.List.{AllByRecursion}
use Rattle.obj_kinds.specs.declared.name.ClassName.{ClassName}
use Rattle.obj_kinds.specs.declared.id.Id.{Id}
use Rattle.schema_kinds.specs.declared.class.Class.{Class}
use Rattle.oref_table.specs.declared.obj.NewObj.{NewObj}
use Rattle.oref_table.specs.Refs.{times}
use Rattle.oref_table.specs.Memory.{Object, Memory, object_of, object_refs, refs_among}
use Rattle.oref_table.specs.Sound.{AreRising, HasKey, IsFree, AreSingle, IsSound}
use Rattle.obj_shape.specs.Fitting.{FitsSchema, TableFits}
use Rattle.obj_shape.specs.Wholeness.{IsWhole}
use Rattle.part_copies.specs.Copies.{Copies, objects_from, first_held, with_copies}
use Rattle.part_copies.specs.Making.{AreCopies, copy_of}
use Rattle.part_copies.proofs.FitCopies.{copies-fit}
use Rattle.part_copies.proofs.MakeCopies.{are-copies}
use Rattle.part_copies.proofs.NewLaws.{copies-outside}
use Rattle.memory_laws.specs.Kept.{IsGood, Keeps}
use Rattle.memory_laws.proofs.Dead.{none-both, dead-object}

-- ---- numbers rise

rising-lower : (first last final : ℕ) (ns : List Object) → first ≤ last → AreRising last final ns → AreRising first final ns
rising-lower first last final [] low h = omega (arith, low, h)
rising-lower first last final (o ∷ os) low h = (omega (arith, low, h.0), h.1)

rising-more : (first last final : ℕ) (os ns : List Object) → AreRising first last os → AreRising last final ns → AreRising first final (os ++ ns)
rising-more first last final [] ns h more = rising-lower first last final ns h more
rising-more first last final (o ∷ os) ns h more = (h.0, rising-more o.number last final os ns h.1 more)

objects-rise : (start : ℕ) (ns : List NewObj) → AreRising start (start + length ns) (objects_from start ns)
objects-rise start [] = omega arith
objects-rise start (n ∷ ns) = (omega arith, subst (λ k. AreRising (start + 1) k (objects_from (start + 1) ns)) (omega arith) (objects-rise (start + 1) ns))

first-rises : (start last : ℕ) (os : List Object) → AreRising start last os → AreRising start last (first_held os)
first-rises start last [] h = h
first-rises start last (o ∷ os) h = h

-- ---- new objects have no id

abbrev IsKeyless : Object → Type 0
IsKeyless o = o.id ≡ None

no-key : (o : Object) (extent : ClassName) (id : Id) → IsKeyless o → HasKey extent id o → ⊥
no-key o extent id none h = let some : Some id ≡ None = sym h.1 ∙ none in cc

objects-keyless : (start : ℕ) (ns : List NewObj) → AllByRecursion IsKeyless (objects_from start ns)
objects-keyless start [] = tt
objects-keyless start (n ∷ ns) = (refl, objects-keyless (start + 1) ns)

first-keyless : (os : List Object) → AllByRecursion IsKeyless os → AllByRecursion IsKeyless (first_held os)
first-keyless [] h = h
first-keyless (o ∷ os) h = h

free-keyless : (extent : ClassName) (id : Id) (os : List Object) → AllByRecursion IsKeyless os → IsFree extent id os
free-keyless extent id [] h = tt
free-keyless extent id (o ∷ os) h = (no-key o extent id h.0, free-keyless extent id os h.1)

single-keyless : (os : List Object) → AllByRecursion IsKeyless os → AreSingle os
single-keyless [] h = tt
single-keyless (o ∷ os) h = ((λ extent id k. absurd (no-key o extent id h.0 k)), single-keyless os h.1)

free-more : (extent : ClassName) (id : Id) (os ns : List Object) → IsFree extent id os → IsFree extent id ns → IsFree extent id (os ++ ns)
free-more extent id [] ns h more = more
free-more extent id (o ∷ os) ns h more = (h.0, free-more extent id os ns h.1 more)

single-more : (os ns : List Object) → AreSingle os → AllByRecursion IsKeyless ns → AreSingle (os ++ ns)
single-more [] ns h none = single-keyless ns none
single-more (o ∷ os) ns h none = ((λ extent id k. free-more extent id os ns (h.0 extent id k) (free-keyless extent id ns none)), single-more os ns h.1 none)

-- ---- what fits names live objects alone

none-named : (classes : List Class) (w : Memory) (k : ℕ) → object_of k w.objects ≡ None → (os : List Object) → AllByRecursion (FitsSchema classes w) os → times k (refs_among os) ≡ 0
none-named classes w k dead [] h = refl
none-named classes w k dead (o ∷ os) h = none-both k (object_refs o) (refs_among os) (dead-object classes w k dead o h.0) (none-named classes w k dead os h.1)

-- ---- the copy of a live object

module _ (classes : List Class) (m : Memory) (level n : ℕ) (o : Object) (whole : IsWhole classes) (few : level ≤ 4) (good : IsGood classes m) (live : object_of n m.objects ≡ Some o) where
  abbrev pub copies : Copies ℕ
  copies = copy_of classes m level o

  abbrev pub copied : Memory
  copied = with_copies m copies

  are : AreCopies m copies
  are = are-copies classes m level n o good.sound live

  rising : AreRising 0 copied.last copied.objects
  rising =
      rising-more 0 m.last copied.last m.objects (first_held (objects_from m.last copies.made)) good.sound.rising
      (subst (λ k. AreRising m.last k (first_held (objects_from m.last copies.made))) (sym are.adds.long)
      (first-rises m.last (m.last + length copies.made) (objects_from m.last copies.made) (objects-rise m.last copies.made)))

  pub copied-fit : TableFits classes copied
  copied-fit = (copies-fit classes m level n o whole few good.sound good.fits live).0

  pub copy-there : IsSomeAnd (object_of copies.copy copied.objects) (λ t. t.class ≡ o.class)
  copy-there = subst (λ k. IsSomeAnd (object_of k copied.objects) (λ t. t.class ≡ o.class)) (sym are.first) (copies-fit classes m level n o whole few good.sound good.fits live).1

  copied-sound : IsSound copied
  unfolding TableFits
  copied-sound = record {
    rising = rising;
    closed = λ k dead. none-named classes copied k dead copied.objects copied-fit;
    single = single-more m.objects (first_held (objects_from m.last copies.made)) good.sound.single (first-keyless (objects_from m.last copies.made) (objects-keyless m.last copies.made));
  }

  -- the copy has one hold outside, and all others are as they were
  pub copied-keeps : Keeps classes m copied (copies.copy ∷ []) []
  copied-keeps = record {
    good = record { sound = copied-sound; fits = copied-fit };
    holds = λ k. omega (arith, copies-outside m copies are.some.0 are.some.1 good.sound are.some.2 k, ap (λ c. times k (c ∷ [])) are.first);
  }
