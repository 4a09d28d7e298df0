-- Where nothing stands below the node of its members in the view, an object has none.
use Rattle.std.proofs.Common.{◌≡◌, ◌⊎◌, inl, inr, ℕ, Bool, true, false, cond, ◌&&◌, List, [], ◌∷◌, ◌++◌, Option, Some, None, is_some, option_map, refl, sym, ap, subst, ◌∙◌}
use Rattle.std.specs.List.{list_any, filter_map, cons_option}
use Rattle.std.specs.Ordering.{eq_by_cmp, is_eq}
use Rattle.std.proofs.lemmas.Cmp.{tied_itself}
use Rattle.std.specs.FinMap.{find, get, get-from_entries}
use Rattle.obj_kinds.specs.declared.name.ClassName.{ClassName}
use Rattle.obj_kinds.specs.declared.node.Node.{Node}
use Rattle.obj_kinds.specs.declared.sub.Sub.{Sub}
use Rattle.obj_kinds.specs.declared.value.Value.{Value}
use Rattle.obj_kinds.specs.declared.value.Value.TheVariants as value
use Rattle.obj_kinds.specs.Ids.{id_text}
use Rattle.obj_kinds.specs.Subscript.{sub_of}
use Rattle.obj_kinds.specs.Order.{node_cmp, covers}
use Rattle.obj_kinds.specs.Texts.{same_text}
use Rattle.obj_kinds.proofs.OrderLemmas.{node_total}
use Rattle.obj_kinds.proofs.TextLaws.{is-same_text}
use Rattle.schema_kinds.specs.declared.class.Class.{Class}
use Rattle.schema_kinds.specs.declared.key.Key.{Key}
use Rattle.schema_kinds.specs.declared.kind.Kind.{Kind}
use Rattle.schema_kinds.specs.declared.kind.Kind.TheVariants as kind
use Rattle.schema_kinds.specs.declared.prop.Prop.{Prop}
use Rattle.schema_kinds.specs.declared.record.Field.{Field}
use Rattle.schema_kinds.specs.declared.record.Field.TheOpen.{Field-F}
use Rattle.schema_kinds.specs.declared.record.Field.TheViews.{out-Field}
use Rattle.schema_kinds.specs.declared.record.Record.{Record}
use Rattle.schema_kinds.specs.Classes.{class_of, extent_of}
use Rattle.schema_kinds.specs.Worlds.{World}
use Rattle.global_tree.specs.Below.{child}
use Rattle.record_layout.specs.Rows.{rows}
use Rattle.storage_map.specs.Markers.{is_extent}
use Rattle.storage_map.specs.Entries.{indexed, key_node, entry_node, entry_if, side_entry, side_entries, index_entries, indexes_of, props_in, entry_list, valued_empty, entries}
use Rattle.storage_map.specs.Worlds.{or_value, stands_at, is_side_named, owner, IsKeyOf}
use Rattle.storage_map.specs.Keys.{Side, side_in, sides_of, target_in}
use Rattle.storage_map.specs.SoundWorlds.{IsSound}
use Rattle.storage_map.proofs.OwnerLaws.{id_back}
use Rattle.world_images.proofs.EntryLaws.{class_listed, entries_belong}
use Rattle.store_core.specs.Guard.{Unguarded, GuardedBy}
use Rattle.object_calls.specs.Extents.{extent_at}
use Rattle.object_calls.specs.Keys.{ManySide, members_node}
use Rattle.object_runs.specs.Causes.{Has, IsMember}
use Rattle.object_runs.specs.Invariant.{is_side_name, names_target, key_guard, shown}
use Rattle.call_rules.specs.Settings.{Setting}
use Rattle.call_rules.specs.Schemas.{IsStorableSchema}
use Rattle.call_rules.proofs.Apart.{IsBelow}
use Rattle.call_rules.proofs.Owned.{valued_of, has_mapped, any_at, any_has, entry_guard, prop_has}
use Rattle.call_rules.proofs.Gone.{covers_below}

pub both : (a b : Bool) → a ≡ true → b ≡ true → (a && b) ≡ true
both true b e f = f
both false b e f = absurd (cc e)

-- ---- an entry of a one side stands

pub has_found : (n : Node) (ns : List Node) → Has n ns → find node_cmp n (valued_empty ns) ≡ Some (value.Str [])
has_found n [] h = absurd h
has_found n (m ∷ ns) (inl same) = ap (λ b. cond b (Some (value.Str [])) (find node_cmp n (valued_empty ns))) (ap (λ k. eq_by_cmp node_cmp n k) (sym same) ∙ ap is_eq (tied_itself node_total n))
has_found n (m ∷ ns) (inr h) = by (eq_by_cmp node_cmp n m) (has_found n ns h)
  where
    by : (b : Bool) → find node_cmp n (valued_empty ns) ≡ Some (value.Str []) → cond b (Some (value.Str [])) (find node_cmp n (valued_empty ns)) ≡ Some (value.Str [])
    by true e = refl
    by false e = e

pub mapped_has : {A B : Type 0} (f : A → Option B) (xs : List A) (x : A) (y : B) → Has x xs → f x ≡ Some y → Has y (filter_map f xs)
mapped_has f [] x y h e = absurd h
mapped_has {A} {B} f (z ∷ xs) x y (inl same) e = by (f z) (ap f (sym same) ∙ e)
  where
    by : (o : Option B) → o ≡ Some y → Has y (cons_option o (filter_map f xs))
    by None g = absurd (cc g)
    by (Some b) g = inl (let one : b ≡ y = cc g in sym one)
mapped_has {A} {B} f (z ∷ xs) x y (inr h) e = by (f z) (mapped_has f xs x y h e)
  where
    by : (o : Option B) → Has y (filter_map f xs) → Has y (cons_option o (filter_map f xs))
    by None g = g
    by (Some b) g = inr g

pub append_has : {A : Type 0} (x : A) (xs ys : List A) → Has x ys → Has x (xs ++ ys)
append_has x [] ys h = h
append_has x (y ∷ xs) ys h = inr (append_has x xs ys h)

pub side_stands : (classes : List Class) (key : Key) (q : Record) (e : Prop × Field) (n : Node) → Has e (valued_of classes q) → side_entry key e e.0.kind ≡ Some n → get (entries classes key q) n ≡ Some (value.Str [])
unfolding entries entry_list
side_stands classes key q e n has is =
    let valued = valued_of classes q in
    let indexes = indexes_of (class_of classes q.class) in
    get-from_entries node_total (valued_empty (index_entries key indexes valued ++ side_entries key valued)) n
    ∙ has_found n (index_entries key indexes valued ++ side_entries key valued) (append_has n (index_entries key indexes valued) (side_entries key valued) (mapped_has (λ e. side_entry key e e.0.kind) valued e n has is))

pub shown_some : (classes : List Class) (key : Key) (q : Record) (n : Node) (v : Value) → get (entries classes key q) n ≡ Some v → stands_at classes key n q ≡ None → ⊥
unfolding stands_at
shown_some classes key q n v e none = by (get (rows classes key q) n) (sym (ap (or_value (get (rows classes key q) n)) e) ∙ none)
  where
    by : (o : Option Value) → or_value o (Some v) ≡ None → ⊥
    by None f = cc f
    by (Some w) f = cc f

-- ---- the one side of a member

record IsSideOf (e : Prop × Field) (s : Side) : Type 0 where
  class : ClassName
  inverse : List ℕ
  is_one : e.0.kind ≡ kind.One class inverse
  name : s.name ≡ e.0.name
  target : s.target ≡ target_in (out-Field e.1)

side_is : (e : Prop × Field) (s : Side) (k : Kind) → e.0.kind ≡ k → side_in e k ≡ Some s → IsSideOf e s
side_is e s (kind.One class inverse) is h =
    let same : record { name = e.0.name; class = class; target = target_in (out-Field e.1) } ≡ s = cc h in
    record { class = class; inverse = inverse; is_one = is; name = ap (λ (x : Side). x.name) (sym same); target = ap (λ (x : Side). x.target) (sym same) }
side_is e s k is h = absurd (cc h)

pub target_out : (f : Field-F Field) (id : List ℕ) (c : ClassName) (inverse : List ℕ) → target_in f ≡ Some id → indexed (kind.One c inverse) f ≡ Some (sub_of (id_text id))
target_out (Field-F.Target (Some j)) id c inverse e = let same : j ≡ id = cc e in ap (λ x. Some (sub_of (id_text x))) same
target_out (Field-F.Target None) id c inverse e = absurd (cc e)
target_out (Field-F.Plain x) id c inverse e = absurd (cc e)
target_out (Field-F.Part x) id c inverse e = absurd (cc e)
target_out (Field-F.List x) id c inverse e = absurd (cc e)
target_out (Field-F.Map x) id c inverse e = absurd (cc e)

-- a one side of the class names one of the extent
side_named : (classes : List Class) (extent : ClassName) (q : Record) (p : Prop) (c : ClassName) (inverse : List ℕ) → extent_of classes q.class ≡ Some extent → Has p (props_in (class_of classes q.class)) → p.kind ≡ kind.One c inverse → is_side_name classes extent p.name ≡ true
side_named classes extent q p c inverse in' has is = by (class_of classes q.class) refl has
  where
    of_extent : (o : Option ClassName) → o ≡ Some extent → is_extent extent o ≡ true
    of_extent (Some e) is = let same : e ≡ extent = cc is in ap (λ (x : ClassName). is_extent extent (Some x)) same ∙ is-same_text extent.0 extent.0 refl
    of_extent None is = absurd (cc is)

    by : (o : Option Class) → class_of classes q.class ≡ o → Has p (props_in o) → is_side_name classes extent p.name ≡ true
    by None e h = absurd h
    by (Some k) e h =
        let l = class_listed classes q.class k e in
        any_at _ classes l.place k l.there
        (both _ _ (of_extent (extent_of classes k.name) (ap (extent_of classes) l.named ∙ in')) (any_has (λ x. is_side_named p.name x x.kind) k.props p h (ap (is_side_named p.name p) is ∙ is-same_text p.name p.name refl)))

-- a child of the node of the members
abbrev pub IsChild : Node → Node → Key → Type 0
IsChild x n j = (s : Sub) × (n ≡ child x s)

module _ (t : Setting) (schema : IsStorableSchema t.classes) (v : World) (sound : IsSound t.classes v) (m : ManySide) (holder : Key) (real : IsKeyOf t.classes holder) where
  abbrev x : Node
  x = members_node t.classes m holder.id

  entry_child : (id : List ℕ) (name : List ℕ) → name ≡ m.side → entry_node (record { extent = extent_at t.classes m.class; id = id }) name (sub_of (id_text holder.id) ∷ []) ≡ child (members_node t.classes m holder.id) (sub_of (id_text id))
  unfolding entry_node key_node
  entry_child id name same = ap (λ w. entry_node (record { extent = extent_at t.classes m.class; id = id }) w (sub_of (id_text holder.id) ∷ [])) same

  pub no_member : ((n : Node) (j : Key) → IsBelow t (members_node t.classes m holder.id) n j → IsChild (members_node t.classes m holder.id) n j → shown t.classes j n (get v j) ≡ None) → (id : List ℕ) → IsMember t.classes v m holder id → ⊥
  no_member bare id member =
      let key : Key = record { extent = extent_at t.classes m.class; id = id } in
      let q = member.object in
      let at = sound.records key q member.there in
      let from = has_mapped (λ e. side_in e e.0.kind) (valued_of t.classes q) member.side member.has in
      let e = from.0 in
      let side = side_is e member.side e.0.kind refl from.2 in
      let n = entry_node key e.0.name (sub_of (id_text holder.id) ∷ []) in
      let name : e.0.name ≡ m.side = sym side.name ∙ member.named in
      let is_child : n ≡ child (members_node t.classes m holder.id) (sub_of (id_text id)) = entry_child id e.0.name name in
      let found : side_entry key e e.0.kind ≡ Some n =
      ap (side_entry key e) side.is_one
      ∙ ap (λ o. entry_if key e.0.name (option_map (λ s. s ∷ []) o)) (ap (λ k. indexed k (out-Field e.1)) side.is_one ∙ target_out (out-Field e.1) holder.id side.class side.inverse (sym side.target ∙ member.target)) in
      let stands = side_stands t.classes key q e n from.1 found in
      let own : owner t.classes n ≡ Some key = entries_belong t.classes key q n (value.Str []) at.key_of at.record_of.extent stands in
      let prop = prop_has t.classes key at.key_of schema q at.record_of.extent e from.1 in
      let guard : key_guard t.classes n ≡ GuardedBy n =
      entry_guard t.classes key at.key_of e.0.name (sub_of (id_text holder.id) ∷ []) own
      ∙ ap (λ c. cond c (GuardedBy (key_node key e.0.name (sub_of (id_text holder.id) ∷ []))) (cond (is_side_name t.classes key.extent e.0.name && names_target (sub_of (id_text holder.id) ∷ sub_of (id_text key.id) ∷ [])) (GuardedBy n) Unguarded))
      (schema.sides q.class key.extent e.0 side.class side.inverse at.record_of.extent prop side.is_one)
      ∙ ap (λ c. cond c (GuardedBy n) Unguarded)
      (both _ _ (side_named t.classes key.extent q e.0 side.class side.inverse at.record_of.extent prop side.is_one) (ap is_some (id_back holder.id real.id.0 real.id.1))) in
      let below : IsBelow t (members_node t.classes m holder.id) n key = record { owned = own; guard = n; guarded = guard; covered = ap (covers (members_node t.classes m holder.id)) is_child ∙ covers_below (members_node t.classes m holder.id) (sub_of (id_text id) ∷ []) } in
      shown_some t.classes key q n (value.Str []) stands (sym (ap (shown t.classes key n) member.there) ∙ bare n key below (sub_of (id_text id), is_child))
