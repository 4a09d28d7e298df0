-- The live object of a key.
use Rattle.std.proofs.Common.{◌≡◌, ℕ, ◌==◌, cond, Bool, true, false, List, [], ◌∷◌, map, Option, None, Some, IsSome, is_some, refl, ap, sym, subst, ◌∙◌}
use Rattle.std.specs.Ordering.{is_eq}
use Rattle.std.specs.Cmp.{tied_itself}
use Rattle.std.proofs.lemmas.Bool.{eqb-true}
use Rattle.obj_kinds.specs.declared.name.ClassName.{ClassName}
use Rattle.obj_kinds.specs.declared.id.Id.{Id}
use Rattle.schema_kinds.specs.declared.class.Class.{Class}
use Rattle.schema_kinds.specs.declared.key.Key.{Key}
use Rattle.schema_kinds.specs.KeyLaws.{key_total, key_exact}
use Rattle.schema_kinds.specs.Worlds.{key_cmp}
use Rattle.obj_kinds.proofs.LineLaws.{tie}
use Rattle.oref_table.specs.Memory.{Object, Memory, object_of, is_numbered}
use Rattle.oref_table.specs.Sound.{HasKey, IsFree, AreSingle, IsSound}
use Rattle.oref_table.proofs.EditLaws.{found-all}
use Rattle.object_calls.specs.Memories.{key_by, key_of, has_key, live_from, live_with}
use Rattle.object_members.specs.Seeing.{seen_part, memories}

module _ (key : Key) where
  abbrev Has : Object → Type 0
  Has o = HasKey key.extent key.id o

  -- whether an object has the key is what the test tells
  abbrev is_its : Option Object → Bool
  is_its x = has_key key (key_of (seen_part x))

  tells : (o : Object) → Has o → is_its (Some o) ≡ true
  tells o h = ap (λ e. has_key key (key_by e o.id)) h.0 ∙ ap (λ i. has_key key (key_by (Some key.extent) i)) h.1 ∙ ap is_eq (tied_itself key_total key)

  told_by : (o : Object) (e : Option ClassName) (i : Option Id) → o.extent ≡ e → o.id ≡ i → has_key key (key_by e i) ≡ true → Has o
  told_by o None i p q h = cc
  told_by o (Some e) None p q h = cc
  told_by o (Some e) (Some i) p q h =
      let same : key ≡ record { extent = e; id = i } = key_exact key (record { extent = e; id = i }) (tie (key_cmp key (record { extent = e; id = i })) h) in
      (p ∙ ap (λ (k : Key). Some k.extent) (sym same), q ∙ ap (λ (k : Key). Some k.id) (sym same))

  told : (x : Option Object) → is_its x ≡ true → (o : Object) × (x ≡ Some o) × Has o
  told None h = cc
  told (Some o) h = (o, refl, told_by o o.extent o.id refl refl h)

  not_told : (x : Option Object) → ((o : Object) → x ≡ Some o → ¬ Has o) → is_its x ≡ false
  not_told x h = by (is_its x) refl
    where
      by : (b : Bool) → is_its x ≡ b → is_its x ≡ false
      by true e = let p = told x e in absurd (h p.0 p.1 p.2)
      by false e = e

  -- two live objects with the key are one
  one_place : (k n : ℕ) (x q o : Object) (os : List Object) (b c : Bool) → (x.number == k) ≡ b → (x.number == n) ≡ c → (Has x → IsFree key.extent key.id os) → Has q → Has o
      → (object_of k os ≡ Some q → object_of n os ≡ Some o → k ≡ n) → cond b (Some x) (object_of k os) ≡ Some q → cond c (Some x) (object_of n os) ≡ Some o → k ≡ n
  one_place k n x q o os true true e d free hq ho more f g = sym (eqb-true x.number k e) ∙ eqb-true x.number n d
  one_place k n x q o os true false e d free hq ho more f g =
      let same : q ≡ x = cc in
      absurd (found-all (λ p. ¬ Has p) (is_numbered n) os o (free (subst Has same hq)) g ho)
  one_place k n x q o os false true e d free hq ho more f g =
      let same : o ≡ x = cc in
      absurd (found-all (λ p. ¬ Has p) (is_numbered k) os q (free (subst Has same ho)) f hq)
  one_place k n x q o os false false e d free hq ho more f g = more f g

  one_number : (k n : ℕ) (q o : Object) (os : List Object) → AreSingle os → Has q → Has o → object_of k os ≡ Some q → object_of n os ≡ Some o → k ≡ n
  one_number k n q o [] s hq ho f g = cc
  one_number k n q o (x ∷ os) s hq ho f g =
      one_place k n x q o os (x.number == k) (x.number == n) refl refl (s.0 key.extent key.id) hq ho (one_number k n q o os s.1 hq ho) f g

  module _ (classes : List Class) (m : Memory) where
    none_from : IsFree key.extent key.id m.objects → (ns : List ℕ) → live_from (memories classes) m key ns ≡ None
    none_from free [] = refl
    none_from free (n ∷ ns) =
        ap (λ b. cond b (Some n) (live_from (memories classes) m key ns))
        (not_told (object_of n m.objects) (λ o e. found-all (λ p. ¬ Has p) (is_numbered n) m.objects o free e))
        ∙ none_from free ns

    -- no object is live, where none has the key
    pub none_live : IsFree key.extent key.id m.objects → live_with (memories classes) m key ≡ None
    none_live free = none_from free (map (λ (o : Object). o.number) m.objects)

    module _ (n : ℕ) (mine : is_its (object_of n m.objects) ≡ true) (alone : (k : ℕ) → is_its (object_of k m.objects) ≡ true → k ≡ n) where
      some_step : (x : Object) (os : List Object) (b c : Bool) → is_its (object_of x.number m.objects) ≡ b → (x.number == n) ≡ c
          → (IsSome (object_of n os) → live_from (memories classes) m key (map (λ (o : Object). o.number) os) ≡ Some n)
          → IsSome (cond c (Some x) (object_of n os)) → cond b (Some x.number) (live_from (memories classes) m key (map (λ (o : Object). o.number) os)) ≡ Some n
      some_step x os true c e d more h = ap Some (alone x.number e)
      some_step x os false true e d more h =
          let wrong = ap (λ k. is_its (object_of k m.objects)) (eqb-true x.number n d) in cc
      some_step x os false false e d more h = more h

      some_from : (os : List Object) → IsSome (object_of n os) → live_from (memories classes) m key (map (λ (o : Object). o.number) os) ≡ Some n
      some_from [] h = cc
      some_from (x ∷ os) h = some_step x os (is_its (object_of x.number m.objects)) (x.number == n) refl refl (some_from os) h

    -- the one that has the key is
    pub one_live : IsSound m → (n : ℕ) (o : Object) → object_of n m.objects ≡ Some o → Has o → live_with (memories classes) m key ≡ Some n
    one_live sound n o e h =
        some_from n (ap is_its e ∙ tells o h)
        (λ k f. let p = told (object_of k m.objects) f in one_number k n p.0 o m.objects sound.single p.2 h p.1 e)
        m.objects (ap is_some e)
