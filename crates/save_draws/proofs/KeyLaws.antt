-- Keys that live objects have, and keys that were drawn.
use Rattle.std.proofs.Common.{◌≡◌, ℕ, ◌==◌, cond, Bool, true, false, ◌||◌, List, [], ◌∷◌, Option, None, Some, refl, ap, sym, ◌∙◌}
use Rattle.std.specs.Option.{IsSomeAnd, IfSome, IfNone}
use Rattle.std.specs.Ordering.{is_eq, match_ordering}
use Rattle.std.specs.List.{list_any}
use Rattle.std.specs.BTreeSet.{insert_key}
use Rattle.std.specs.declared.cmp.Ordering.{Ordering}
use Rattle.std.specs.declared.cmp.Ordering.TheVariants.{Less, Equal, Greater}
use Rattle.std.specs.Cmp.{tied_itself}
use Rattle.obj_kinds.specs.declared.name.ClassName.{ClassName}
use Rattle.obj_kinds.specs.declared.id.Id.{Id}
use Rattle.obj_kinds.proofs.LineLaws.{tie}
use Rattle.schema_kinds.specs.declared.key.Key.{Key}
use Rattle.schema_kinds.specs.KeyLaws.{key_total, key_exact}
use Rattle.schema_kinds.specs.Worlds.{key_cmp}
use Rattle.oref_table.specs.declared.oref.Oref.{Oref}
use Rattle.oref_table.specs.Memory.{Object, Memory, object_of, is_numbered}
use Rattle.oref_table.specs.Sound.{HasKey, IsFree}
use Rattle.object_calls.specs.Memories.{key_by, has_key}
use Rattle.object_calls.specs.Saves.{is_key}
use Rattle.save_draws.specs.Draws.{is_live_in}

module _ (key : Key) where
  abbrev Has : Object → Type 0
  Has o = HasKey key.extent key.id o

  abbrev test : Object → Bool
  test o = has_key key (key_by o.extent o.id)

  tells : (o : Object) → Has o → test o ≡ true
  tells o h = ap (λ e. has_key key (key_by e o.id)) h.0 ∙ ap (λ i. has_key key (key_by (Some key.extent) i)) h.1 ∙ ap is_eq (tied_itself key_total key)

  told_by : (o : Object) (e : Option ClassName) (i : Option Id) → o.extent ≡ e → o.id ≡ i → has_key key (key_by e i) ≡ true → Has o
  told_by o None i p q h = cc
  told_by o (Some e) None p q h = cc
  told_by o (Some e) (Some i) p q h =
      let same : key ≡ record { extent = e; id = i } = key_exact key (record { extent = e; id = i }) (tie (key_cmp key (record { extent = e; id = i })) h) in
      (p ∙ ap (λ (k : Key). Some k.extent) (sym same), q ∙ ap (λ (k : Key). Some k.id) (sym same))

  or_true : (b c : Bool) → c ≡ true → b || c ≡ true
  or_true true c h = refl
  or_true false c h = h

  found_step : (x : Object) (os : List Object) (n : ℕ) (b : Bool) → (IsSomeAnd (object_of n os) Has → list_any test os ≡ true)
      → IsSomeAnd (cond b (Some x) (object_of n os)) Has → test x || list_any test os ≡ true
  found_step x os n true more h = ap (λ b. b || list_any test os) (tells x h)
  found_step x os n false more h = or_true (test x) (list_any test os) (more h)

  found_in : (os : List Object) (n : ℕ) → IsSomeAnd (object_of n os) Has → list_any test os ≡ true
  found_in [] n h = absurd h
  found_in (x ∷ os) n h = found_step x os n (x.number == n) (found_in os n) h

  pub live_found : (m : Memory) (n : ℕ) → IsSomeAnd (object_of n m.objects) Has → is_live_in m key ≡ true
  live_found m n h = found_in m.objects n h

  none_step : (x : Object) (os : List Object) (b : Bool) → test x ≡ b → ¬ Has x → list_any test os ≡ false → b || list_any test os ≡ false
  none_step x os true e free rest = absurd (free (told_by x x.extent x.id refl refl e))
  none_step x os false e free rest = rest

  none_in : (os : List Object) → IsFree key.extent key.id os → list_any test os ≡ false
  none_in [] free = refl
  none_in (x ∷ os) free = none_step x os (test x) refl free.0 (none_in os free.1)

  pub live_none : (m : Memory) → IsFree key.extent key.id m.objects → is_live_in m key ≡ false
  live_none m free = none_in m.objects free

  -- what the table tells
  pub live_some : (m : Memory) (x : Option Oref) (o : Oref) → x ≡ Some o → IfSome x (λ q. IsSomeAnd (object_of q.0 m.objects) (HasKey key.extent key.id)) → true ≡ is_live_in m key
  live_some m None o e h = absurd (cc e)
  live_some m (Some q) o e h = sym (live_found m q.0 h)

  pub live_nowhere : (m : Memory) (x : Option Oref) → x ≡ None → IfNone x (IsFree key.extent key.id m.objects) → false ≡ is_live_in m key
  live_nowhere m None e h = sym (live_none m h)
  live_nowhere m (Some q) e h = absurd (cc e)

-- ---- one more key

swap : (a b c : Bool) → a || (b || c) ≡ b || (a || c)
swap true true c = refl
swap true false c = refl
swap false b c = refl

twice : (b c : Bool) → b || c ≡ b || (b || c)
twice true c = refl
twice false c = refl

pub inserted : (xs : List Key) (key k : Key) → list_any (is_key k) (insert_key key_cmp xs key) ≡ is_key k key || list_any (is_key k) xs
inserted [] key k = refl
inserted (x ∷ xs) key k = by (key_cmp key x) refl (inserted xs key k)
  where
    by : (o : Ordering) → key_cmp key x ≡ o → list_any (is_key k) (insert_key key_cmp xs key) ≡ is_key k key || list_any (is_key k) xs
        → list_any (is_key k) (match_ordering o (key ∷ x ∷ xs) (x ∷ xs) (x ∷ insert_key key_cmp xs key)) ≡ is_key k key || (is_key k x || list_any (is_key k) xs)
    by Less e more = refl
    by Equal e more = twice (is_key k x) (list_any (is_key k) xs) ∙ ap (λ (y : Key). is_key k y || (is_key k x || list_any (is_key k) xs)) (sym (key_exact key x e))
    by Greater e more = ap (λ b. is_key k x || b) more ∙ swap (is_key k x) (is_key k key) (list_any (is_key k) xs)
