-- Where nothing stands below a key node while the objects of a save are written, the node is vacant.
use Rattle.std.proofs.Common.{◌≡◌, ◌≢◌, inl, inr, ℕ, Bool, true, false, cond, ◌&&◌, ◌||◌, List, [], ◌∷◌, ◌++◌, map, filter, Option, Some, None, option_map, refl, sym, ap, subst, ◌∙◌}
use Rattle.std.specs.List.{list_any}
use Rattle.std.specs.FinMap.{get, entries as listed}
use Rattle.obj_kinds.specs.declared.node.Node.{Node}
use Rattle.obj_kinds.specs.declared.sub.Sub.{Sub}
use Rattle.obj_kinds.specs.declared.value.Value.{Value}
use Rattle.obj_kinds.specs.declared.value.Value.TheVariants as value
use Rattle.obj_kinds.specs.declared.op.Op.{Op}
use Rattle.obj_kinds.specs.Ids.{id_text}
use Rattle.obj_kinds.specs.Subscript.{sub_of}
use Rattle.obj_kinds.specs.Order.{covers}
use Rattle.schema_kinds.specs.declared.class.Index.{Index}
use Rattle.schema_kinds.specs.declared.key.Key.{Key}
use Rattle.schema_kinds.specs.declared.record.Record.{Record}
use Rattle.schema_kinds.specs.Classes.{class_of}
use Rattle.schema_kinds.specs.Worlds.{World}
use Rattle.global_tree.specs.Below.{child}
use Rattle.global_tree.proofs.StepLaws.{covers_itself}
use Rattle.storage_map.specs.Changes.{stale, entries_if}
use Rattle.storage_map.specs.Entries.{index_key, key_node, entry_node, indexes_of, entries}
use Rattle.storage_map.specs.Keys.{same_node, Unique, unique_in}
use Rattle.storage_map.specs.Worlds.{owner}
use Rattle.storage_map.specs.SoundWorlds.{IsSoundAt, IsSound, has_key_node}
use Rattle.world_images.proofs.EntryLaws.{entries_belong, entry_there}
use Rattle.store_core.specs.Guard.{Unguarded, GuardedBy}
use Rattle.object_calls.specs.Edits.{edits_of}
use Rattle.object_calls.specs.Saves.{Work}
use Rattle.object_calls.proofs.EditLaws.{edits_are_changes}
use Rattle.object_runs.specs.Causes.{Each, Has}
use Rattle.object_runs.specs.Invariant.{is_side_name, names_target, key_guard, written, shown}
use Rattle.sound_runs.specs.Closing.{AreDistinct, put_in, has_node_if, stands_by, entry_stands, IsVacant}
use Rattle.call_rules.specs.Settings.{Setting}
use Rattle.call_rules.specs.Schemas.{IsStorableSchema}
use Rattle.call_rules.proofs.Rules.{all_writes, written-append}
use Rattle.call_rules.proofs.Apart.{IsBelow}
use Rattle.call_rules.proofs.Owned.{valued_of, entry_guard, unique_named}
use Rattle.call_rules.proofs.Gone.{entry_alone}
use Rattle.call_rules.proofs.Writes.{no_kills}
use Rattle.good_deletes.proofs.NoMembers.{IsChild, shown_some}
use Rattle.saving_rules.proofs.Moved.{same_nodes}
use Rattle.saving_rules.proofs.Lists.{each_to, each_has, stale_gone}
use Rattle.saving_rules.proofs.Places.{index_stands}
use Rattle.saving_rules.proofs.Works.{apart_key, puts, work_at, work_has, puts_at, front_at, back_at, distinct_front, IsWork, first_of, later_of, none_at, one_at, first_leaves, later_leaves, whole_work}

-- ---- the entry below a key node that a record has

pub any_mapped : {A B : Type 0} (p : B → Bool) (f : A → B) (q : A → Bool) (xs : List A) → list_any p (map f (filter q xs)) ≡ true → (x : A) × Has x xs × (q x ≡ true) × (p (f x) ≡ true)
any_mapped p f q [] e = absurd (cc e)
any_mapped {A} {B} p f q (x ∷ xs) e = by (q x) refl e (any_mapped p f q xs)
  where
    Found : Type 0
    Found = (y : A) × Has y (x ∷ xs) × (q y ≡ true) × (p (f y) ≡ true)

    later : ((y : A) × Has y xs × (q y ≡ true) × (p (f y) ≡ true)) → Found
    later g = (g.0, inr g.1, g.2, g.3)

    at : (b : Bool) → p (f x) ≡ b → q x ≡ true → (b || list_any p (map f (filter q xs))) ≡ true → (list_any p (map f (filter q xs)) ≡ true → (y : A) × Has y xs × (q y ≡ true) × (p (f y) ≡ true)) → Found
    at true g h e more = (x, inl refl, h, g)
    at false g h e more = later (more e)

    by : (b : Bool) → q x ≡ b → list_any p (map f (cond b (x ∷ filter q xs) (filter q xs))) ≡ true → (list_any p (map f (filter q xs)) ≡ true → (y : A) × Has y xs × (q y ≡ true) × (p (f y) ≡ true)) → Found
    by true h e more = at (p (f x)) refl h e more
    by false h e more = later (more e)

any_none : (p : Node → Bool) (ns : List Node) → Each (λ n. p n ≡ false) ns → list_any p ns ≡ false
any_none p [] h = refl
any_none p (n ∷ ns) h = ap (λ b. b || list_any p ns) h.0 ∙ any_none p ns h.1

pub not_true : (b : Bool) → (b ≡ true → ⊥) → b ≡ false
not_true true h = absurd (h refl)
not_true false h = refl

both_of : (a b : Bool) → (a && b) ≡ true → (a ≡ true) × (b ≡ true)
both_of true b e = (refl, e)
both_of false b e = absurd (cc e)

module _ (t : Setting) (schema : IsStorableSchema t.classes) where
  pub record EntryBelow (j : Key) (q : Record) (n : Node) : Type 0 where
    pub node : Node
    pub is : node ≡ child n (sub_of (id_text j.id))
    pub there : get (entries t.classes j q) node ≡ Some (value.Str [])
    pub below : IsBelow t n node j

  entry_child : (j : Key) (name : List ℕ) (subs : List Sub) → entry_node j name subs ≡ child (key_node j name subs) (sub_of (id_text j.id))
  unfolding entry_node key_node
  entry_child j name subs = refl

  pub entry_below : (j : Key) (q : Record) (n : Node) → IsSoundAt t.classes j q → has_key_node t.classes j q n ≡ true → EntryBelow j q n
  entry_below j q n at e =
      let f = any_mapped (λ (u : Unique). same_node u.node (Some n)) (unique_in j (valued_of t.classes q)) (λ i. i.unique) (indexes_of (class_of t.classes q.class)) e in
      by f.0 f.1 f.2 (index_key f.0 (valued_of t.classes q)) refl (same_nodes _ _ f.3)
    where
      by : (i : Index) → Has i (indexes_of (class_of t.classes q.class)) → i.unique ≡ true → (o : Option (List Sub)) → index_key i (valued_of t.classes q) ≡ o → option_map (key_node j i.name) (index_key i (valued_of t.classes q)) ≡ Some n → EntryBelow j q n
      by i has unique None is same = absurd (cc (sym (ap (option_map (key_node j i.name)) is) ∙ same))
      by i has unique (Some subs) is same =
          let at_node : key_node j i.name subs ≡ n = (let two : Some (key_node j i.name subs) ≡ Some n = sym (ap (option_map (key_node j i.name)) is) ∙ same in cc two) in
          let m = entry_node j i.name subs in
          let there = index_stands t.classes j q i subs has is in
          let own : owner t.classes m ≡ Some j = entries_belong t.classes j q m (value.Str []) at.key_of at.record_of.extent there in
          let guard : key_guard t.classes m ≡ GuardedBy (key_node j i.name subs) =
          entry_guard t.classes j at.key_of i.name subs own
          ∙ ap (λ c. cond c (GuardedBy (key_node j i.name subs)) (cond (is_side_name t.classes j.extent i.name && names_target (subs ++ sub_of (id_text j.id) ∷ [])) (GuardedBy m) Unguarded)) (unique_named t.classes j at.key_of schema q at.record_of.extent i has unique) in
          record {
            node = m;
            is = entry_child j i.name subs ∙ ap (λ x. child x (sub_of (id_text j.id))) at_node;
            there = there;
            below = record { owned = own; guard = n; guarded = guard ∙ ap GuardedBy at_node; covered = covers_itself n };
          }

  -- an entry that old and new record have isn't killed
  pub kept_entry : (u : Work) → IsWork t.classes u → (r : Record) → u.old ≡ Some r → IsSoundAt t.classes u.item.key r → (e : Node) → owner t.classes e ≡ Some u.item.key → get (entries t.classes u.item.key u.item.now) e ≡ Some (value.Str [])
      → (x : Option Value) → written (first_of t.classes u) e x ≡ x
  kept_entry u is r old at e own there x =
      let key = u.item.key in
      let edits = edits_of t.classes key u.old (Some u.item.now) in
      no_kills edits.entry_kills e x
      (any_none (λ k. covers k e) edits.entry_kills
      (subst (Each (λ m. covers m e ≡ false)) (sym (edits_are_changes t.classes key u.old (Some u.item.now)).entry_kills)
      (each_to (λ m. ((v : Value) × (get (entries_if t.classes key u.old) m ≡ Some v)) × (get (entries t.classes key u.item.now) m ≡ None)) (λ m. covers m e ≡ false) (stale (listed (entries_if t.classes key u.old)) (listed (entries t.classes key u.item.now)))
      (λ m g. not_true (covers m e) (λ c.
      (let was : get (entries t.classes key r) m ≡ Some g.0.0 = ap (λ o. get (entries_if t.classes key o) m) (sym old) ∙ g.0.1 in
      let p = entry_there t.classes key r m g.0.0 was in
      let same : e ≡ m = entry_alone t.classes key at.key_of r.class at.record_of.extent (schema.even key.extent) p.0 p.1 m p.2 e key own c in
      cc (sym there ∙ ap (get (entries t.classes key u.item.now)) same ∙ g.1))))
      (stale_gone (entries_if t.classes key u.old) (entries t.classes key u.item.now)))))

  -- ---- a node is vacant

  module _ (v : World) (sound : IsSound t.classes v) (front : List Work) (w : Work) (back : List Work) (are : Each (IsWork t.classes) (front ++ w ∷ back)) (apart : AreDistinct (puts (front ++ w ∷ back)))
      (seen : Each (λ (u : Work). get v u.item.key ≡ u.old) (front ++ w ∷ back)) where
    abbrev pub so_far : List Op
    so_far = all_writes (later_of t.classes) front ++ all_writes (first_of t.classes) (front ++ w ∷ back)

    front_are : (xs ys : List Work) → Each (IsWork t.classes) (xs ++ ys) → Each (IsWork t.classes) xs
    front_are [] ys h = tt
    front_are (x ∷ xs) ys h = (h.0, front_are xs ys h.1)

    parted : (e : Node) (x : Option Value) → written so_far e x ≡ written (all_writes (later_of t.classes) front) e (written (all_writes (first_of t.classes) (front ++ w ∷ back)) e x)
    parted e x = written-append (all_writes (later_of t.classes) front) (all_writes (first_of t.classes) (front ++ w ∷ back)) e x

    seen_at : (u : Work) → Has u (front ++ w ∷ back) → get v u.item.key ≡ u.old
    seen_at u has = each_has (λ (u : Work). get v u.item.key ≡ u.old) (front ++ w ∷ back) u seen has

    is_at : (u : Work) → Has u (front ++ w ∷ back) → IsWork t.classes u
    is_at u has = each_has (IsWork t.classes) (front ++ w ∷ back) u are has

    module _ (n : Node) (bare : (e : Node) (j : Key) → IsBelow t n e j → IsChild n e j → written so_far e (shown t.classes j e (get v j)) ≡ None) (j : Key) (ne : j ≢ w.item.key) where
      skip_w : work_at j (w ∷ back) ≡ work_at j back
      skip_w = ap (λ b. cond b (Some w) (work_at j back)) (apart_key j w.item.key ne)

      -- one that is written already has no entry there
      by_front : (u : Work) → work_at j front ≡ Some u → has_key_node t.classes j u.item.now n ≡ true → ⊥
      by_front u at e =
          let whole = front_at j front (w ∷ back) u at in
          let h = work_has j (front ++ w ∷ back) u whole in
          let is = is_at u h.0 in
          let b = entry_below j u.item.now n (subst (λ k. IsSoundAt t.classes k u.item.now) (sym h.1) is.at) e in
          let own : owner t.classes b.node ≡ Some j = b.below.owned in
          let now : written so_far b.node (shown t.classes j b.node (get v j)) ≡ shown t.classes j b.node (Some u.item.now) =
          parted b.node (shown t.classes j b.node (get v j))
          ∙ one_at t.classes (later_of t.classes) (later_leaves t.classes schema.even) b.node j own front (front_are front (w ∷ back) are) (distinct_front front (w ∷ back) apart) u at _
          ∙ ap (written (later_of t.classes u) b.node) (one_at t.classes (first_of t.classes) (first_leaves t.classes schema.even) b.node j own (front ++ w ∷ back) are apart u whole (shown t.classes j b.node (get v j)))
          ∙ subst (λ k. owner t.classes b.node ≡ Some k → written (later_of t.classes u) b.node (written (first_of t.classes u) b.node (shown t.classes k b.node (get v k))) ≡ shown t.classes k b.node (Some u.item.now)) (sym h.1)
          (λ own'. ap (λ o. written (later_of t.classes u) b.node (written (first_of t.classes u) b.node (shown t.classes u.item.key b.node o))) (seen_at u h.0) ∙ whole_work t.classes schema.even u is b.node own') own in
          shown_some t.classes j u.item.now b.node (value.Str []) b.there (sym now ∙ bare b.node j b.below (sub_of (id_text j.id), b.is))

      -- one that comes later and keeps its entry there
      by_back : work_at j front ≡ None → (u : Work) → work_at j back ≡ Some u → (o : Option Record) → get v j ≡ o → has_node_if t.classes j o n ≡ true → has_key_node t.classes j u.item.now n ≡ true → ⊥
      by_back none u at None there had has = cc had
      by_back none u at (Some r) there had has =
          let whole : work_at j (front ++ w ∷ back) ≡ Some u = back_at j front (w ∷ back) none ∙ skip_w ∙ at in
          let h = work_has j (front ++ w ∷ back) u whole in
          let is = is_at u h.0 in
          let b = entry_below j u.item.now n (subst (λ k. IsSoundAt t.classes k u.item.now) (sym h.1) is.at) has in
          let own : owner t.classes b.node ≡ Some j = b.below.owned in
          let c = entry_below j r n (sound.records j r there) had in
          let nodes : b.node ≡ c.node = b.is ∙ sym c.is in
          let was : u.old ≡ Some r = sym (seen_at u h.0) ∙ ap (get v) (sym h.1) ∙ there in
          let left : written so_far b.node (shown t.classes j b.node (get v j)) ≡ shown t.classes j b.node (get v j) =
          parted b.node (shown t.classes j b.node (get v j))
          ∙ none_at t.classes (later_of t.classes) (later_leaves t.classes schema.even) b.node j own front (front_are front (w ∷ back) are) none _
          ∙ one_at t.classes (first_of t.classes) (first_leaves t.classes schema.even) b.node j own (front ++ w ∷ back) are apart u whole (shown t.classes j b.node (get v j))
          ∙ kept_entry u is r was (subst (λ k. IsSoundAt t.classes k r) h.1 (sound.records j r there)) b.node (own ∙ ap Some h.1) (ap (λ k. get (entries t.classes k u.item.now) b.node) (sym h.1) ∙ b.there) _ in
          shown_some t.classes j r b.node (value.Str []) (ap (get (entries t.classes j r)) nodes ∙ c.there) (sym (ap (shown t.classes j b.node) there) ∙ sym left ∙ bare b.node j b.below (sub_of (id_text j.id), b.is))

      -- one that isn't saved
      by_none : work_at j front ≡ None → work_at j back ≡ None → (o : Option Record) → get v j ≡ o → has_node_if t.classes j o n ≡ true → ⊥
      by_none none gone None there had = cc had
      by_none none gone (Some r) there had =
          let b = entry_below j r n (sound.records j r there) had in
          let own : owner t.classes b.node ≡ Some j = b.below.owned in
          let left : written so_far b.node (shown t.classes j b.node (get v j)) ≡ shown t.classes j b.node (get v j) =
          parted b.node (shown t.classes j b.node (get v j))
          ∙ none_at t.classes (later_of t.classes) (later_leaves t.classes schema.even) b.node j own front (front_are front (w ∷ back) are) none _
          ∙ none_at t.classes (first_of t.classes) (first_leaves t.classes schema.even) b.node j own (front ++ w ∷ back) are (back_at j front (w ∷ back) none ∙ skip_w ∙ gone) _ in
          shown_some t.classes j r b.node (value.Str []) b.there (sym (ap (shown t.classes j b.node) there) ∙ sym left ∙ bare b.node j b.below (sub_of (id_text j.id), b.is))

      stands_not : (a : Option Work) → work_at j front ≡ a → (c : Option Work) → work_at j back ≡ c
          → stands_by t.classes (option_map (λ (u : Work). u.item.now) a) (option_map (λ (u : Work). u.item.now) c) (get v j) j n ≡ true → ⊥
      stands_not (Some u) at c back_at' e = by_front u at e
      stands_not None at (Some u) back_at' e = let g = both_of (has_node_if t.classes j (get v j) n) (has_key_node t.classes j u.item.now n) e in by_back at u back_at' (get v j) refl g.0 g.1
      stands_not None at None back_at' e = by_none at back_at' (get v j) refl e

      pub no_entry : entry_stands t.classes v (puts front) (puts back) j n ≡ false
      no_entry = not_true _ (λ e. stands_not (work_at j front) refl (work_at j back) refl
          (ap (λ y. stands_by t.classes y (option_map (λ (u : Work). u.item.now) (work_at j back)) (get v j) j n) (sym (puts_at j front)) ∙ ap (λ y. stands_by t.classes (put_in (puts front) j) y (get v j) j n) (sym (puts_at j back)) ∙ e))

    pub vacant : (n : Node) → ((e : Node) (j : Key) → IsBelow t n e j → IsChild n e j → written so_far e (shown t.classes j e (get v j)) ≡ None) → IsVacant t.classes v (puts front) w.item.key (puts back) n
    vacant n bare id ne = no_entry n bare (record { extent = w.item.key.extent; id = id }) (λ same. ne (ap (λ (k : Key). k.id) same))
