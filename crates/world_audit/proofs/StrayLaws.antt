-- Strays that are noted.
use Rattle.std.proofs.Common.{◌≡◌, ◌⊎◌, inl, inr, Bool, List, [], ◌∷◌, map, Option, None, Some, option_to_list, refl, sym, ap, subst, ◌∙◌}
use Rattle.obj_kinds.specs.declared.node.Node.{Node}
use Rattle.obj_kinds.specs.declared.value.Value.{Value}
use Rattle.schema_kinds.specs.declared.class.Class.{Class}
use Rattle.world_audit.specs.Finds.{Finds}
use Rattle.world_audit.specs.Least.{IsAmong, IsElement, IsUpTo, noted}
use Rattle.world_audit.specs.Objects.{Told}
use Rattle.world_audit.specs.Strays.{stray_of, note_strays}
use Rattle.world_audit.proofs.LeastLaws.{noted_keeps, noted_all, noted_from}

module _ (classes : List Class) (finds : Finds) (q : Node → Bool) where
  abbrev faults : Node × Value → List Node
  faults e = option_to_list (stray_of classes finds e.0 (q e.0))

  pub strays_keep : (es : Told) (least : Option Node) (n : Node) → IsUpTo least n → IsUpTo (note_strays classes finds least es (map (λ e. q e.0) es)) n
  strays_keep [] least n h = h
  strays_keep (e ∷ es) least n h = strays_keep es (noted least (faults e)) n (noted_keeps (faults e) least n h)

  pub strays_all : (es : Told) (least : Option Node) (e : Node × Value) (n : Node) → IsElement e es → stray_of classes finds e.0 (q e.0) ≡ Some n → IsUpTo (note_strays classes finds least es (map (λ d. q d.0) es)) n
  strays_all [] least e n is h = absurd is
  strays_all (d ∷ ds) least e n (inl same) h =
      let here : stray_of classes finds d.0 (q d.0) ≡ Some n = ap (λ (p : Node × Value). stray_of classes finds p.0 (q p.0)) (sym same) ∙ h in
      let among : IsAmong n (faults d) = subst (λ o. IsAmong n (option_to_list o)) (sym here) (inl refl) in
      strays_keep ds (noted least (faults d)) n (noted_all (faults d) least n among)
  strays_all (d ∷ ds) least e n (inr more) h = strays_all ds (noted least (faults d)) e n more h

  one_of : (o : Option Node) (n : Node) → IsAmong n (option_to_list o) → o ≡ Some n
  one_of None n h = absurd h
  one_of (Some m) n (inl same) = ap Some (sym same)
  one_of (Some m) n (inr h) = absurd h

  pub strays_from : (es : Told) (least : Option Node) (n : Node) → note_strays classes finds least es (map (λ e. q e.0) es) ≡ Some n → (least ≡ Some n) ⊎ ((e : Node × Value) × IsElement e es × (stray_of classes finds e.0 (q e.0) ≡ Some n))
  strays_from [] least n h = inl h
  strays_from (d ∷ ds) least n h = by (strays_from ds (noted least (faults d)) n h)
    where
      here : (least ≡ Some n) ⊎ IsAmong n (faults d) → (least ≡ Some n) ⊎ ((e : Node × Value) × IsElement e (d ∷ ds) × (stray_of classes finds e.0 (q e.0) ≡ Some n))
      here (inl k) = inl k
      here (inr k) = inr (d, inl refl, one_of (stray_of classes finds d.0 (q d.0)) n k)

      by : (noted least (faults d) ≡ Some n) ⊎ ((e : Node × Value) × IsElement e ds × (stray_of classes finds e.0 (q e.0) ≡ Some n)) → (least ≡ Some n) ⊎ ((e : Node × Value) × IsElement e (d ∷ ds) × (stray_of classes finds e.0 (q e.0) ≡ Some n))
      by (inl k) = here (noted_from (faults d) least n k)
      by (inr k) = inr (k.0, inr k.1, k.2)
