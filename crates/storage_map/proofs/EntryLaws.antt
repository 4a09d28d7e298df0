-- The key of an index, value by value.
use Rattle.std.proofs.Common.{◌≡◌, ℕ, Bool, true, false, not, cond, ◌&&◌, ◌||◌, List, [], ◌∷◌, ◌++◌, map, Option, None, Some, is_some, option_map, length, arith, refl, sym, ap, ◌∙◌}
use Rattle.std.proofs.lemmas.List.{append-nil}
use Rattle.std.specs.List.{list_any}
use Rattle.obj_kinds.specs.declared.sub.Sub.{Sub}
use Rattle.schema_kinds.specs.declared.class.Index.{Index}
use Rattle.schema_kinds.specs.declared.prop.Prop.{Prop}
use Rattle.schema_kinds.specs.declared.record.Field.{Field}
use Rattle.storage_map.specs.Entries.{value_of, or_blank, index_key}

-- the subscripts of a key, none where an empty value is refused
abbrev pub key_from : Bool → List (Option Sub) → Option (List Sub)
key_from unique [] = Some []
key_from unique (v ∷ vs) = cond (unique && not (is_some v)) None (option_map (λ subs. or_blank v ∷ subs) (key_from unique vs))

any_empty : List (Option Sub) → Bool
any_empty vs = list_any (λ v. not (is_some v)) vs

key_by : (unique : Bool) (vs : List (Option Sub)) → key_from unique vs ≡ cond (unique && list_any (λ v. not (is_some v)) vs) None (Some (map or_blank vs))
key_by true [] = refl
key_by false [] = refl
key_by true (None ∷ vs) = refl
key_by true (Some s ∷ vs) = ap (option_map (λ subs. s ∷ subs)) (key_by true vs) ∙ by (list_any (λ v. not (is_some v)) vs)
  where
    by : (b : Bool) → option_map (λ subs. s ∷ subs) (cond b None (Some (map or_blank vs))) ≡ cond b None (Some (s ∷ map or_blank vs))
    by true = refl
    by false = refl
key_by false (v ∷ vs) = ap (option_map (λ subs. or_blank v ∷ subs)) (key_by false vs)

pub key_is : (i : Index) (valued : List (Prop × Field)) → index_key i valued ≡ key_from i.unique (map (λ name. value_of name valued) i.props)
unfolding index_key
key_is i valued = sym (key_by i.unique (map (λ name. value_of name valued) i.props))

module _ (unique : Bool) (value : List ℕ → Option Sub) where
  -- no name is left
  pub key_done : {whole : Option (List Sub)} (subs : List Sub) (rest : List (List ℕ)) → rest ≡ [] → option_map (λ more. subs ++ more) (key_from unique (map value rest)) ≡ whole → Some subs ≡ whole
  key_done subs rest none h = ap Some (sym (append-nil subs)) ∙ ap (λ (names : List (List ℕ)). option_map (λ more. subs ++ more) (key_from unique (map value names))) (sym none) ∙ h

  -- an empty value, where the key is unique
  pub key_refused : {whole : Option (List Sub)} (subs : List Sub) (rest : List (List ℕ)) (name : List ℕ) (more : List (List ℕ)) → rest ≡ name ∷ more → unique ≡ true → value name ≡ None
      → option_map (λ more. subs ++ more) (key_from unique (map value rest)) ≡ whole → None ≡ whole
  key_refused {whole} subs rest name more is single empty h =
      let none : key_from unique (map value rest) ≡ None = ap (λ (names : List (List ℕ)). key_from unique (map value names)) is ∙ refused (value name) single empty in
      sym (ap (option_map (λ more. subs ++ more)) none) ∙ h
    where
      refused : (v : Option Sub) → unique ≡ true → v ≡ None → cond (unique && not (is_some v)) None (option_map (λ ss. or_blank v ∷ ss) (key_from unique (map value more))) ≡ None
      refused None s e = rw s refl
      refused (Some w) s e = cc

pub nil_of : {A : Type 0} (xs : List A) → length xs ≡ 0 → xs ≡ []
nil_of [] h = refl
nil_of (x ∷ xs) h = absurd (omega arith)
