-- Locks to the end, and the kills of the entries of a record whose guards are held.
use Rattle.std.proofs.Common.{◌≡◌, ◌⊎◌, inl, inr, ⊎_elim, ℕ, suc, Bool, true, false, not, cond, ◌||◌, List, [], ◌∷◌, ◌++◌, map, filter, Option, Some, None, is_some, option_map, refl, sym, ap, subst, ◌∙◌}
use Rattle.std.specs.List.{filter_map, cons_option}
use Rattle.std.specs.Ordering.{eq_by_cmp, is_eq}
use Rattle.std.proofs.lemmas.Cmp.{tied_itself}
use Rattle.std.specs.FinMap.{find, get, entries as listed, get-entries}
use Rattle.obj_kinds.specs.declared.name.ClassName.{ClassName}
use Rattle.obj_kinds.specs.declared.node.Node.{Node}
use Rattle.obj_kinds.specs.declared.sub.Sub.{Sub}
use Rattle.obj_kinds.specs.declared.value.Value.{Value}
use Rattle.obj_kinds.specs.declared.op.Op.{Op}
use Rattle.obj_kinds.specs.declared.op.Op.TheVariants.{Kill}
use Rattle.obj_kinds.specs.declared.op.Mode.TheVariants.{Exclusive}
use Rattle.obj_kinds.specs.Ids.{id_text}
use Rattle.obj_kinds.specs.Subscript.{sub_of}
use Rattle.obj_kinds.specs.Order.{node_cmp, covers}
use Rattle.obj_kinds.proofs.OrderLemmas.{node_total}
use Rattle.schema_kinds.specs.declared.class.Class.{Class}
use Rattle.schema_kinds.specs.declared.class.Index.{Index}
use Rattle.schema_kinds.specs.declared.key.Key.{Key}
use Rattle.schema_kinds.specs.declared.kind.Kind.{Kind}
use Rattle.schema_kinds.specs.declared.kind.Kind.TheVariants as kind
use Rattle.schema_kinds.specs.declared.kind.Item.TheVariants as of
use Rattle.schema_kinds.specs.declared.prop.Prop.{Prop}
use Rattle.schema_kinds.specs.declared.record.Field.{Field}
use Rattle.schema_kinds.specs.declared.record.Field.TheOpen.{Field-F}
use Rattle.schema_kinds.specs.declared.record.Field.TheViews.{out-Field}
use Rattle.schema_kinds.specs.declared.record.Record.{Record}
use Rattle.schema_kinds.specs.Classes.{class_of, extent_of}
use Rattle.record_layout.specs.Inverse.{AreGood}
use Rattle.record_layout.specs.Shapes.{Form, single, form_of, forms_of, IsPart, IsElement, IsField, IsRowField, IsOfForm, AreOfForms}
use Rattle.record_layout.specs.Rows.{data_node}
use Rattle.storage_map.specs.Changes.{stale, entries_if}
use Rattle.storage_map.specs.Entries.{pair_up, indexed, index_key, key_node, entry_node, entry_if, indexes_of, props_in, entries}
use Rattle.storage_map.specs.Worlds.{owner, IsKeyOf}
use Rattle.storage_map.specs.Keys.{Unique, unique_in, uniques_of, Side, side_in, sides_of}
use Rattle.world_images.proofs.EntryLaws.{entries_belong, entry_there}
use Rattle.store_core.specs.Guard.{HoldsGuard, HoldsToEnd}
use Rattle.store_calls.specs.Calls.{Call, Inside, Tried, Got, all, then, try}
use Rattle.object_calls.specs.Asking.{Does as Done, done, does, when, lock_to_end, kill}
use Rattle.object_calls.specs.Keys.{side_node}
use Rattle.object_calls.specs.Deletes.{lock_end, lock_if}
use Rattle.object_runs.specs.Causes.{Each, Has}
use Rattle.object_runs.specs.Runs.{Both}
use Rattle.object_runs.specs.Invariant.{HoldsRow, key_guard}
use Rattle.run_rules.specs.Steps.{OwnsWritten, next}
use Rattle.call_rules.specs.Settings.{Setting}
use Rattle.call_rules.specs.Schemas.{IsStorableSchema}
use Rattle.call_rules.proofs.Rules.{IsFact, In, Does, HoldsNode, holds_fact, both_facts, true_fact, each_fact, does_give, does_ask, does_then, does_both, does_post, does_weaken, does_with, does_lock, all_writes}
use Rattle.call_rules.proofs.Writes.{kills_of, kill_ops}
use Rattle.call_rules.proofs.Owned.{Came, valued_of, value_and_came, guard_held}
use Rattle.call_rules.proofs.Gone.{entry_alone}

-- ---- each of a list

each_at : {A B : Type 0} (P : B → Type 0) (f : A → B) (q : A → Bool) (xs : List A) (x : A) → Each P (map f (filter q xs)) → Has x xs → q x ≡ true → P (f x)
each_at P f q [] x h has e = absurd has
each_at {A} {B} P f q (y ∷ xs) x h has e = by (q y) refl h has (each_at P f q xs x)
  where
    by : (b : Bool) → q y ≡ b → Each P (map f (cond b (y ∷ filter q xs) (filter q xs))) → (x ≡ y) ⊎ Has x xs → (Each P (map f (filter q xs)) → Has x xs → q x ≡ true → P (f x)) → P (f x)
    by true g h (inl same) more = subst (λ z. P (f z)) (sym same) h.0
    by true g h (inr has) more = more h.1 has e
    by false g h (inl same) more = absurd (cc (sym g ∙ ap q (sym same) ∙ e))
    by false g h (inr has) more = more h has e

each_mapped : {A B : Type 0} (P : B → Type 0) (f : A → Option B) (xs : List A) (x : A) (y : B) → Each P (filter_map f xs) → Has x xs → f x ≡ Some y → P y
each_mapped P f [] x y h has e = absurd has
each_mapped {A} {B} P f (z ∷ xs) x y h has e = by (f z) refl h has (each_mapped P f xs x y)
  where
    by : (o : Option B) → f z ≡ o → Each P (cons_option o (filter_map f xs)) → (x ≡ z) ⊎ Has x xs → (Each P (filter_map f xs) → Has x xs → f x ≡ Some y → P y) → P y
    by None g h (inl same) more = absurd (cc (sym g ∙ ap f (sym same) ∙ e))
    by None g h (inr has) more = more h has e
    by (Some b) g h (inl same) more = let one : b ≡ y = (let two : Some b ≡ Some y = sym g ∙ ap f (sym same) ∙ e in cc two) in subst P one h.0
    by (Some b) g h (inr has) more = more h.1 has e

-- the nodes that are killed were in the old pairs
kills_found : (whole : List (Node × Value)) (q : Node × Value → Bool) (es : List (Node × Value)) → ((m : Node) → is_some (find node_cmp m es) ≡ true → is_some (find node_cmp m whole) ≡ true) → Each (λ m. is_some (find node_cmp m whole) ≡ true) (map (λ e. e.0) (filter q es))
kills_found whole q [] h = tt
kills_found whole q (e ∷ es) h = by (q e) (kills_found whole q es (λ m g. h m (later m g)))
  where
    later : (m : Node) → is_some (find node_cmp m es) ≡ true → is_some (find node_cmp m (e ∷ es)) ≡ true
    later m g = on (eq_by_cmp node_cmp m e.0)
      where
        on : (b : Bool) → is_some (cond b (Some e.1) (find node_cmp m es)) ≡ true
        on true = refl
        on false = g

    here : is_some (find node_cmp e.0 (e ∷ es)) ≡ true
    here = ap (λ b. is_some (cond b (Some e.1) (find node_cmp e.0 es))) (ap is_eq (tied_itself node_total e.0))

    by : (b : Bool) → Each (λ m. is_some (find node_cmp m whole) ≡ true) (map (λ e. e.0) (filter q es)) → Each (λ m. is_some (find node_cmp m whole) ≡ true) (map (λ e. e.0) (cond b (e ∷ filter q es) (filter q es)))
    by true rest = (h e.0 here, rest)
    by false rest = rest

pub some_of : (o : Option Value) → is_some o ≡ true → (v : Value) × (o ≡ Some v)
some_of None e = absurd (cc e)
some_of (Some v) e = (v, refl)

each_map : {A : Type 0} (P Q : A → Type 0) (xs : List A) → ((x : A) → P x → Q x) → Each P xs → Each Q xs
each_map P Q [] h e = tt
each_map P Q (x ∷ xs) h e = (h x e.0, each_map P Q xs h e.1)

pub stale_there : (classes : List Class) (key : Key) (r : Record) (new : List (Node × Value)) → Each (λ m. (v : Value) × (get (entries classes key r) m ≡ Some v)) (stale (listed (entries classes key r)) new)
unfolding stale
stale_there classes key r new = each_map _ _ _ (λ m e. let g = some_of (find node_cmp m (listed (entries classes key r))) e in (g.0, get-entries (entries classes key r) m ∙ g.1))
    (kills_found (listed (entries classes key r)) (λ e. not (is_some (find node_cmp e.0 new))) (listed (entries classes key r)) (λ m h. h))

-- ---- a one side's field is a target

one_target : (classes : List Class) (part : ClassName → List Field → Type 0) (c : ClassName) (f : Field-F Field) (s : Sub) (class inverse' : ClassName) (inverse : List ℕ) → IsElement classes part (of.Ref c) f → indexed (kind.One class inverse) f ≡ Some s
    → (id : List ℕ) × (f ≡ Field-F.Target (Some id)) × (s ≡ sub_of (id_text id))
one_target classes part c (Field-F.Target (Some id)) s class i inverse h e = (id, refl, let same : sub_of (id_text id) ≡ s = cc e in sym same)
one_target classes part c (Field-F.Target None) s class i inverse h e = absurd (cc e)
one_target classes part c (Field-F.Plain t) s class i inverse h e = absurd h
one_target classes part c (Field-F.Part p) s class i inverse h e = absurd h
one_target classes part c (Field-F.List l) s class i inverse h e = absurd h
one_target classes part c (Field-F.Map m) s class i inverse h e = absurd h

shaped : (classes : List Class) (ps : List Prop) (fs : List Field) (e : Prop × Field) (class : ClassName) (inverse : List ℕ) → AreOfForms classes (forms_of ps) fs
    → Has e (pair_up (filter (λ p. is_some (form_of p.kind)) ps) fs) → e.0.kind ≡ kind.One class inverse → IsOfForm classes (single (of.Ref class)) e.1
shaped classes [] fs e class inverse good has is = absurd has
shaped classes (p ∷ ps) fs e class inverse good has is = by (λ gs g h. shaped classes ps gs e class inverse g h is) (form_of p.kind) refl fs good has
  where
    by : ((gs : List Field) → AreOfForms classes (forms_of ps) gs → Has e (pair_up (filter (λ p. is_some (form_of p.kind)) ps) gs) → IsOfForm classes (single (of.Ref class)) e.1)
        → (o : Option Form) → form_of p.kind ≡ o → (fs : List Field) → AreOfForms classes (cons_option o (forms_of ps)) fs → Has e (pair_up (cond (is_some o) (p ∷ filter (λ p. is_some (form_of p.kind)) ps) (filter (λ p. is_some (form_of p.kind)) ps)) fs) → IsOfForm classes (single (of.Ref class)) e.1
    by more None f fs good has = more fs good has
    by more (Some form) f [] good has = absurd has
    by more (Some form) f (g ∷ gs) good (inl same) =
        let kinds : form_of p.kind ≡ Some (single (of.Ref class)) = ap (λ (x : Prop × Field). form_of x.0.kind) (sym same) ∙ ap form_of is in
        let forms : form ≡ single (of.Ref class) = (let two : Some form ≡ Some (single (of.Ref class)) = sym f ∙ kinds in cc two) in
        subst (λ x. IsOfForm classes x e.1) forms (subst (λ (x : Prop × Field). IsOfForm classes form x.1) (sym same) good.0)
    by more (Some form) f (g ∷ gs) good (inr has) = more gs good.1 has

pub side_target : (classes : List Class) (r : Record) (e : Prop × Field) (class : ClassName) (inverse : List ℕ) (s : Sub) → AreOfForms classes (forms_of (props_in (class_of classes r.class))) r.fields → Has e (valued_of classes r) → e.0.kind ≡ kind.One class inverse
    → indexed e.0.kind (out-Field e.1) ≡ Some s → (id : List ℕ) × (out-Field e.1 ≡ Field-F.Target (Some id)) × (s ≡ sub_of (id_text id))
unfolding IsRowField
side_target classes r e class inverse s good has is at =
    one_target classes (IsPart 4 classes) class (out-Field e.1) s class class inverse (shaped classes (props_in (class_of classes r.class)) r.fields e class inverse good has is) (ap (λ k. indexed k (out-Field e.1)) (sym is) ∙ at)

-- ---- locks

module _ (t : Setting) where
  abbrev pub HoldsIf : Option Node → Both → Type 0
  HoldsIf None b = Unit {0}
  HoldsIf (Some n) b = HoldsToEnd b.store.holds t.p n

  pub if_fact : (o : Option Node) → IsFact t (HoldsIf o)
  if_fact None = true_fact t (Unit {0})
  if_fact (Some n) = holds_fact t n

  pub does_lock_if : (classes : List Class) (tries most : ℕ) (es : List Op) (o : Option Node) → Does t es (λ b. Unit {0}) (lock_if classes tries most o) (λ u. HoldsIf o) []
  does_lock_if classes tries most es None = does_give t es (λ b. Unit {0}) (tt {0}) (λ u b. Unit {0}) (λ b h. tt)
  does_lock_if classes tries most es (Some n) = does_lock t tries n es

  -- facts of all items, where nothing is written
  pub facts_of : {A : Type 0} (f : A → Done) (Q : A → Both → Type 0) → ((x : A) → IsFact t (Q x)) → (es : List Op) → ((x : A) → Does t es (λ b. Unit {0}) (f x) (λ u. Q x) []) → (xs : List A)
      → Does t es (λ b. Unit {0}) (all f xs) (λ u b. Each (λ x. Q x b) xs) []
  facts_of f Q fact es one [] = does_give t es (λ b. Unit {0}) (tt {0}) (λ u b. Unit {0}) (λ b h. tt)
  facts_of f Q fact es one (x ∷ xs) =
      does_then t es (λ b. Unit {0}) (f x) (λ u. all f xs) (λ u. Q x) (λ u b. Q x b × Each (λ y. Q y b) xs) [] (one x)
      (λ u. does_post t es (Q x) (all f xs) (λ u b. Each (λ y. Q y b) xs × Q x b) (λ u b. Q x b × Each (λ y. Q y b) xs) [] (λ u b h. (h.1, h.0))
      (does_weaken t es (λ b. Unit {0} × Q x b) (Q x) (all f xs) (λ u b. Each (λ y. Q y b) xs × Q x b) [] (λ b h. (tt, h))
      (does_with t es (λ b. Unit {0}) (Q x) (all f xs) (λ u b. Each (λ y. Q y b) xs) [] (fact x) (facts_of f Q fact es one xs))))

  -- ---- all keys and entries of one sides of a record are held

  abbrev pub AllHeld : Key → Record → Both → Type 0
  AllHeld key r b = Each (λ (u : Unique). HoldsIf u.node b) (uniques_of t.classes key r) × Each (λ (s : Side). HoldsIf (side_node key s.name s.target) b) (sides_of t.classes r)

  pub held_fact : (key : Key) (r : Record) → IsFact t (AllHeld key r)
  held_fact key r = both_facts t (λ b. Each (λ (u : Unique). HoldsIf u.node b) (uniques_of t.classes key r)) (λ b. Each (λ (s : Side). HoldsIf (side_node key s.name s.target) b) (sides_of t.classes r))
      (each_fact t (λ (u : Unique). HoldsIf u.node) (λ u. if_fact u.node) (uniques_of t.classes key r)) (each_fact t (λ (s : Side). HoldsIf (side_node key s.name s.target)) (λ s. if_fact (side_node key s.name s.target)) (sides_of t.classes r))

  module _ (schema : IsStorableSchema t.classes) (key : Key) (real : IsKeyOf t.classes key) (r : Record) (in' : extent_of t.classes r.class ≡ Some key.extent)
      (good : AreOfForms t.classes (forms_of (props_in (class_of t.classes r.class))) r.fields) where
    by_unique : (b : Both) → AllHeld key r b → (i : Index) → Has i (indexes_of (class_of t.classes r.class)) → i.unique ≡ true → (subs : List Sub) → index_key i (valued_of t.classes r) ≡ Some subs → HoldsToEnd b.store.holds t.p (key_node key i.name subs)
    by_unique b h i has unique subs is =
        subst (λ o. HoldsIf (option_map (key_node key i.name) o) b) is
        (each_at (λ (u : Unique). HoldsIf u.node b) (unique_in key (valued_of t.classes r)) (λ i. i.unique) (indexes_of (class_of t.classes r.class)) i h.0 has unique)

    by_side : (b : Both) (m : Node) → AllHeld key r b → (e : Prop × Field) → Has e (valued_of t.classes r) → (class : ClassName) (inverse : List ℕ) → e.0.kind ≡ kind.One class inverse → (s : Sub) → indexed e.0.kind (out-Field e.1) ≡ Some s → m ≡ entry_node key e.0.name (s ∷ []) → HoldsToEnd b.store.holds t.p m
    by_side b m h e has class inverse is s at node =
        let target = side_target t.classes r e class inverse s good has is at in
        let side : side_in e e.0.kind ≡ Some (record { name = e.0.name; class = class; target = Some target.0 }) =
        ap (side_in e) is ∙ ap (λ f. Some (record { name = e.0.name; class = class; target = Rattle.storage_map.specs.Keys.target_in f })) target.1 in
        let held = each_mapped (λ (s : Side). HoldsIf (side_node key s.name s.target) b) (λ e. side_in e e.0.kind) (valued_of t.classes r) e (record { name = e.0.name; class = class; target = Some target.0 }) h.1 has side in
        subst (HoldsToEnd b.store.holds t.p) (ap (λ x. entry_node key e.0.name (x ∷ [])) (sym target.2) ∙ sym node) held

    -- an entry of the record may be killed
    pub owns_entry : (b : Both) (m : Node) (v : Value) → get (entries t.classes key r) m ≡ Some v → HoldsRow b.store.holds t.p key → AllHeld key r b → OwnsWritten t.classes b.store.holds t.p (Kill m)
    owns_entry b m v there row held =
        let mine : owner t.classes m ≡ Some key = entries_belong t.classes key r m v real in' there in
        let p = entry_there t.classes key r m v there in (
          (key, mine),
          λ n k own cov.
              (let same = entry_alone t.classes key real r.class in' (schema.even key.extent) p.0 p.1 m p.2 n k own cov in
              let keys : key ≡ k = one key k (sym mine ∙ ap (owner t.classes) (sym same) ∙ own) in (
                subst (HoldsRow b.store.holds t.p) keys row,
                subst (λ x. HoldsGuard b.store.holds t.p (key_guard t.classes x)) (sym same)
                    (guard_held t.classes key real schema r in' b.store.holds t.p m mine (value_and_came t.classes key r m v there).0
                    (λ i has unique subs is at. by_unique b held i has unique subs is) (λ e has class inverse is s at node. by_side b m held e has class inverse is s at node)),
              )),
        )
      where
        one : (a c : Key) → Some a ≡ Some c → a ≡ c
        one a c e = cc e
