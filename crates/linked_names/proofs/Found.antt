-- Indexes and one sides of a class, among the entries that linking looks at.
use Rattle.std.proofs.Common.{◌≡◌, ℕ, Bool, true, false, cond, ◌||◌, ◌⊎◌, inl, inr, List, [], ◌∷◌, ◌++◌, filter_map, slice_get, Option, None, Some, option_map, refl, sym, ap, subst, ◌∙◌}
use Rattle.std.specs.List.{list_any, cons_option}
use Rattle.std.specs.Option.{option_and_then}
use Rattle.obj_kinds.specs.Texts.{same_text}
use Rattle.obj_kinds.proofs.TextLaws.{is-same_text}
use Rattle.schema_kinds.specs.declared.class.Index.{Index}
use Rattle.schema_kinds.specs.declared.kind.Kind.{Kind}
use Rattle.schema_kinds.specs.declared.kind.Kind.TheVariants as k
use Rattle.schema_kinds.specs.declared.prop.Prop.{Prop}
use Rattle.schema_kinds.specs.declared.tree.ClassTree.{ClassTree}
use Rattle.schema_kinds.specs.declared.tree.PropTree.{PropTree}
use Rattle.class_facts.specs.declared.spots.Spot.{Spot}
use Rattle.class_facts.specs.declared.members.Members.{Members}
use Rattle.class_facts.specs.Trees.{prop_at, index_at}
use Rattle.class_facts.specs.Facts.{Facts, prop_pairs}
use Rattle.class_extents.specs.declared.entry.Entry.{Entry}
use Rattle.class_extents.specs.Extents.{is_one_side, side_by, side_entry, alone_on, index_entry, entry_name}
use Rattle.class_meaning.specs.Meaning.{kind_by, prop_with, prop_of}
use Rattle.storage_map.specs.Worlds.{is_side_named}
use Rattle.object_runs.specs.Causes.{Has}
use Rattle.linked_storage.proofs.EntryLaws.{IsHeld, one_side}

-- something of a list that passes a test
pub any_has : {A : Type 0} (test : A → Bool) (xs : List A) → list_any test xs ≡ true → (x : A) × Has x xs × (test x ≡ true)
any_has test [] h = absurd (cc h)
any_has {A} test (x ∷ xs) h = by (test x) refl h (any_has test xs)
  where
    by : (b : Bool) → test x ≡ b → (b || list_any test xs) ≡ true → (list_any test xs ≡ true → (y : A) × Has y xs × (test y ≡ true)) → (y : A) × Has y (x ∷ xs) × (test y ≡ true)
    by true e r more = (x, inl refl, e)
    by false e r more = let m = more r in (m.0, inr m.1, m.2)

module _ (trees : List ClassTree) where
  -- the entry of an index
  pub record IsIndexEntry (all : List Members) (x : Index) (spots : List Spot) (es : List Entry) : Type 0 where
    pub entry : Entry
    pub among : Has entry.spot spots
    pub held : IsHeld entry es
    pub no_side : entry.is_side ≡ false
    pub at : index_at trees entry.spot ≡ Some x
    pub on : entry.on ≡ alone_on (prop_pairs (slice_get all entry.spot.class)) x

  later : (o : Option Entry) (all : List Members) (x : Index) (s : Spot) (ss : List Spot) (es : List Entry) → IsIndexEntry all x ss es → IsIndexEntry all x (s ∷ ss) (cons_option o es)
  later None all x s ss es r = record { entry = r.entry; among = inr r.among; held = r.held; no_side = r.no_side; at = r.at; on = r.on }
  later (Some e) all x s ss es r = record { entry = r.entry; among = inr r.among; held = inr r.held; no_side = r.no_side; at = r.at; on = r.on }

  pub index_held : (all : List Members) (x : Index) (spots : List Spot) → Has x (filter_map (index_at trees) spots) → IsIndexEntry all x spots (filter_map (index_entry trees all) spots)
  index_held all x [] h = absurd h
  index_held all x (s ∷ ss) h = by (index_at trees s) refl h (index_held all x ss)
    where
      made : Index → Entry
      made y = record { is_side = false; spot = s; on = alone_on (prop_pairs (slice_get all s.class)) y }

      by : (o : Option Index) → index_at trees s ≡ o → Has x (cons_option o (filter_map (index_at trees) ss)) → (Has x (filter_map (index_at trees) ss) → IsIndexEntry all x ss (filter_map (index_entry trees all) ss))
          → IsIndexEntry all x (s ∷ ss) (cons_option (option_map (λ y. record { is_side = false; spot = s; on = alone_on (prop_pairs (slice_get all s.class)) y }) o) (filter_map (index_entry trees all) ss))
      by None e r more = later None all x s ss (filter_map (index_entry trees all) ss) (more r)
      by (Some y) e (inl same) more = record { among = inl refl; entry = record { is_side = false; spot = s; on = alone_on (prop_pairs (slice_get all s.class)) y }; held = inl refl; no_side = refl; at = e ∙ ap Some (sym same); on = ap (alone_on (prop_pairs (slice_get all s.class))) (sym same) }
      by (Some y) e (inr r) more = later (Some (record { is_side = false; spot = s; on = alone_on (prop_pairs (slice_get all s.class)) y })) all x s ss (filter_map (index_entry trees all) ss) (more r)

  -- the entry of a one side
  pub record IsSideEntry (f : Facts) (p : Prop) (es : List Entry) : Type 0 where
    pub entry : Entry
    pub held : IsHeld entry es
    pub side : entry.is_side ≡ true
    pub on : entry.on ≡ None
    pub tree : PropTree
    pub at : prop_at trees entry.spot ≡ Some tree
    pub named : tree.name ≡ p.name
    pub one : is_one_side tree.form ≡ true
    pub kind : kind_by f tree.of tree.form ≡ Some p.kind

  module _ (f : Facts) where
    behind : (o : Option Entry) (p : Prop) (es : List Entry) → IsSideEntry f p es → IsSideEntry f p (cons_option o es)
    behind None p es r = r
    behind (Some e) p es r = record { entry = r.entry; held = inr r.held; side = r.side; on = r.on; tree = r.tree; at = r.at; named = r.named; one = r.one; kind = r.kind }

    pub side_held : (p : Prop) (target : _) (inverse : List ℕ) (spots : List Spot) → p.kind ≡ k.One target inverse → Has p (filter_map (λ s. option_and_then (prop_of f) (prop_at trees s)) spots) → IsSideEntry f p (filter_map (side_entry trees) spots)
    side_held p target inverse [] is h = absurd h
    side_held p target inverse (s ∷ ss) is h = by (prop_at trees s) refl h (side_held p target inverse ss is)
      where
        rest : List Prop
        rest = filter_map (λ t. option_and_then (prop_of f) (prop_at trees t)) ss

        made : (q : PropTree) → prop_at trees s ≡ Some q → is_one_side q.form ≡ true → q.name ≡ p.name → kind_by f q.of q.form ≡ Some p.kind → IsSideEntry f p (cons_option (side_by s q) (filter_map (side_entry trees) ss))
        made q at one name kind =
            subst (λ b. IsSideEntry f p (cons_option (cond b (Some (record { is_side = true; spot = s; on = None })) None) (filter_map (side_entry trees) ss))) (sym one)
            record { entry = record { is_side = true; spot = s; on = None }; held = inl refl; side = refl; on = refl; tree = q; at = at; named = name; one = one; kind = kind }

        here : (q : PropTree) → prop_at trees s ≡ Some q → (o : Option Kind) → kind_by f q.of q.form ≡ o → Has p (cons_option (option_map (prop_with q) o) (filter_map (λ t. option_and_then (prop_of f) (prop_at trees t)) ss))
            → (Has p (filter_map (λ t. option_and_then (prop_of f) (prop_at trees t)) ss) → IsSideEntry f p (filter_map (side_entry trees) ss)) → IsSideEntry f p (cons_option (side_by s q) (filter_map (side_entry trees) ss))
        here q at None e r more = behind (side_by s q) p (filter_map (side_entry trees) ss) (more r)
        here q at (Some kind) e (inr r) more = behind (side_by s q) p (filter_map (side_entry trees) ss) (more r)
        here q at (Some kind) e (inl same) more =
            let name : q.name ≡ p.name = ap (λ (x : Prop). x.name) (sym same) in
            let kinds : kind ≡ k.One target inverse = ap (λ (x : Prop). x.kind) (sym same) ∙ is in
            let one = one_side trees f p.name q q.form kind e (ap (is_side_named p.name (prop_with q kind)) kinds ∙ is-same_text q.name p.name name) in
            made q at one.0 name (e ∙ ap (λ (x : Prop). Some x.kind) (sym same))

        by : (o : Option PropTree) → prop_at trees s ≡ o → Has p (cons_option (option_and_then (prop_of f) o) (filter_map (λ t. option_and_then (prop_of f) (prop_at trees t)) ss))
            → (Has p (filter_map (λ t. option_and_then (prop_of f) (prop_at trees t)) ss) → IsSideEntry f p (filter_map (side_entry trees) ss)) → IsSideEntry f p (cons_option (option_and_then (side_by s) o) (filter_map (side_entry trees) ss))
        by None at r more = more r
        by (Some q) at r more = here q at (kind_by f q.of q.form) refl r more

    -- where a property of a class is declared
    pub record IsPropOf (p : Prop) (spots : List Spot) : Type 0 where
      pub spot : Spot
      pub among : Has spot spots
      pub tree : PropTree
      pub at : prop_at trees spot ≡ Some tree
      pub named : tree.name ≡ p.name
      pub kind : kind_by f tree.of tree.form ≡ Some p.kind

    pub prop_held : (p : Prop) (spots : List Spot) → Has p (filter_map (λ s. option_and_then (prop_of f) (prop_at trees s)) spots) → IsPropOf p spots
    prop_held p [] h = absurd h
    prop_held p (s ∷ ss) h = by (prop_at trees s) refl h (prop_held p ss)
      where
        later_prop : IsPropOf p ss → IsPropOf p (s ∷ ss)
        later_prop r = record { spot = r.spot; among = inr r.among; tree = r.tree; at = r.at; named = r.named; kind = r.kind }

        here : (q : PropTree) → prop_at trees s ≡ Some q → (o : Option Kind) → kind_by f q.of q.form ≡ o → Has p (cons_option (option_map (prop_with q) o) (filter_map (λ t. option_and_then (prop_of f) (prop_at trees t)) ss))
            → (Has p (filter_map (λ t. option_and_then (prop_of f) (prop_at trees t)) ss) → IsPropOf p ss) → IsPropOf p (s ∷ ss)
        here q at None e r more = later_prop (more r)
        here q at (Some kind) e (inr r) more = later_prop (more r)
        here q at (Some kind) e (inl same) more =
            record { spot = s; among = inl refl; tree = q; at = at; named = ap (λ (x : Prop). x.name) (sym same); kind = e ∙ ap (λ (x : Prop). Some x.kind) (sym same) }

        by : (o : Option PropTree) → prop_at trees s ≡ o → Has p (cons_option (option_and_then (prop_of f) o) (filter_map (λ t. option_and_then (prop_of f) (prop_at trees t)) ss))
            → (Has p (filter_map (λ t. option_and_then (prop_of f) (prop_at trees t)) ss) → IsPropOf p ss) → IsPropOf p (s ∷ ss)
        by None at r more = later_prop (more r)
        by (Some q) at r more = here q at (kind_by f q.of q.form) refl r more
