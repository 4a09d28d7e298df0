-- A world of the objects of faultless nodes is one that a run may start with.
use Rattle.std.proofs.Common.{◌≡◌, ◌≢◌, ◌≤◌, ℕ, Bool, true, false, ◌||◌, nat_le, List, [], ◌∷◌, ◌++◌, map, filter, Option, None, Some, option_map, refl, sym, ap, subst, ◌∙◌}
use Rattle.std.specs.declared.cmp.Ordering.{Ordering}
use Rattle.std.specs.declared.cmp.Ordering.TheVariants.{Less, Equal, Greater}
use Rattle.std.specs.Ordering.{ordering_reverse}
use Rattle.std.specs.Option.{option_and_then}
use Rattle.std.specs.List.{list_any}
use Rattle.std.specs.FinMap.{find, get, from_sorted, is_sorted, get-from_sorted}
use Rattle.std.proofs.lemmas.Bool.{leb-true}
use Rattle.std.proofs.lemmas.List.{append_cancel_left, append_cancel_right}
use Rattle.obj_kinds.specs.declared.name.ClassName.{ClassName}
use Rattle.obj_kinds.specs.declared.node.Node.{Node}
use Rattle.obj_kinds.specs.declared.sub.Sub.{Sub}
use Rattle.obj_kinds.specs.declared.value.Value.{Value}
use Rattle.obj_kinds.specs.Ids.{id_text}
use Rattle.obj_kinds.specs.Subscript.{sub_of}
use Rattle.obj_kinds.specs.Values.{same_value}
use Rattle.obj_kinds.specs.Order.{node_cmp}
use Rattle.obj_kinds.specs.OrderLaws.{node_total, node_exact}
use Rattle.obj_kinds.proofs.Sorted.{truth}
use Rattle.obj_kinds.proofs.ValueLaws.{same_value-is, is-same_value}
use Rattle.global_tree.proofs.MapLaws.{one_key}
use Rattle.schema_kinds.specs.declared.class.Class.{Class}
use Rattle.schema_kinds.specs.declared.class.Index.{Index}
use Rattle.schema_kinds.specs.declared.key.Key.{Key}
use Rattle.schema_kinds.specs.declared.prop.Prop.{Prop}
use Rattle.schema_kinds.specs.declared.record.Field.{Field}
use Rattle.schema_kinds.specs.declared.record.Record.{Record}
use Rattle.schema_kinds.specs.Classes.{class_of}
use Rattle.schema_kinds.specs.Worlds.{World}
use Rattle.storage_map.specs.Entries.{index_key, key_node, indexes_of, props_in, with_fields}
use Rattle.storage_map.specs.Keys.{Side, same_node, unique_in, target_key}
use Rattle.storage_map.specs.SoundWorlds.{has_key_node, Clash, IsSoundAt, IsMet}
use Rattle.storage_map.specs.Worlds.{owner, id_of_sub, stands_at, owned_at, image, IsKeyOf}
use Rattle.storage_map.proofs.OwnerLaws.{id_back}
use Rattle.record_reading.specs.Damage.{damage}
use Rattle.world_audit.specs.Objects.{Told, nodes_of, IsObject, IsWorldOf}
use Rattle.world_audit.specs.Counters.{counter_number}
use Rattle.world_audit.specs.Faults.{IsMetBy, entry_below, HasKeyNode, stray, strange, broken, missing, second, no_count, below_id, IsFaultless}
use Rattle.world_audit.specs.Laws.{AreNodes, AreStorable}
use Rattle.world_audit.specs.Openings.{is_object_node, is_extent_of, counter_node, first_number, Counts, IsCounted, Opening}
use Rattle.world_audit.proofs.CounterLaws.{number_counts, counts_number}
use Rattle.world_audit.proofs.NodeLaws.{legal_node_found, undamaged_reads, object_rows, object_passes}
use Rattle.world_audit.proofs.OwnerLaws.{owner_is_real}

image_at : (classes : List Class) (w : World) (n : Node) (o : Option Key) → owner classes n ≡ o → image classes w n ≡ owned_at classes w n o
unfolding image
image_at classes w n o e = ap (owned_at classes w n) e

-- ---- keys of unique indexes

-- a key's node stands in the index global of the extent
pub key_node_global : (classes : List Class) (key : Key) (r : Record) (n : Node) → has_key_node classes key r n ≡ true → n.global ≡ key.extent.0 ++ 73 ∷ []
unfolding key_node
key_node_global classes key r n h = any (filter (λ i. i.unique) (indexes_of (class_of classes r.class))) h
  where
    valued : List (Prop × Field)
    valued = with_fields (props_in (class_of classes r.class)) r.fields

    at : (i : Index) (o : Option (List Sub)) → same_node (option_map (key_node key i.name) o) (Some n) ≡ true → n.global ≡ key.extent.0 ++ 73 ∷ []
    at i None k = cc
    at i (Some subs) k = ap (λ (m : Node). m.global) (sym (one_key node_exact (key_node key i.name subs) n k))

    any : (is : List Index) → list_any (λ u. same_node u.node (Some n)) (map (unique_in key (with_fields (props_in (class_of classes r.class)) r.fields)) is) ≡ true → n.global ≡ key.extent.0 ++ 73 ∷ []
    any [] k = cc
    any (i ∷ is) k = by (same_node (option_map (key_node key i.name) (index_key i (with_fields (props_in (class_of classes r.class)) r.fields))) (Some n)) refl k (any is)
      where
        by : (b : Bool) → same_node (option_map (key_node key i.name) (index_key i (with_fields (props_in (class_of classes r.class)) r.fields))) (Some n) ≡ b
            → (b || list_any (λ u. same_node u.node (Some n)) (map (unique_in key (with_fields (props_in (class_of classes r.class)) r.fields)) is)) ≡ true
            → (list_any (λ u. same_node u.node (Some n)) (map (unique_in key (with_fields (props_in (class_of classes r.class)) r.fields)) is) ≡ true → n.global ≡ key.extent.0 ++ 73 ∷ []) → n.global ≡ key.extent.0 ++ 73 ∷ []
        by true e j more = at i (index_key i (with_fields (props_in (class_of classes r.class)) r.fields)) e
        by false e j more = more j

-- keys of one index global whose entries below a node are one are one
pub one_entry : (classes : List Class) (n : Node) (a b : Key) → IsKeyOf classes a → IsKeyOf classes b → a.extent.0 ++ 73 ∷ [] ≡ b.extent.0 ++ 73 ∷ [] → entry_below n a ≡ entry_below n b → a ≡ b
one_entry classes n a b real also global same =
    let extent : a.extent.0 ≡ b.extent.0 = append_cancel_right a.extent.0 b.extent.0 (73 ∷ []) global in
    let subs : sub_of (id_text a.id) ∷ [] ≡ sub_of (id_text b.id) ∷ [] = append_cancel_left n.subs (sub_of (id_text a.id) ∷ []) (sub_of (id_text b.id) ∷ []) (ap (λ (m : Node). m.subs) same) in
    let sub : sub_of (id_text a.id) ≡ sub_of (id_text b.id) = cc in
    let ids : Some a.id ≡ Some b.id = sym (id_back a.id real.id.0 real.id.1) ∙ ap id_of_sub sub ∙ id_back b.id also.id.0 also.id.1 in
    let id : a.id ≡ b.id = cc in
    λ i. record { extent = record { 0 = extent i }; id = id i }

module _ (classes : List Class) (nodes : Told) (w : World) (storable : AreStorable classes) (are : AreNodes nodes) (good : IsFaultless classes nodes) (given : IsWorldOf classes nodes w) where
  found : (n : Node) → get (from_sorted {R = node_cmp} nodes) n ≡ find node_cmp n nodes
  found n = get-from_sorted node_cmp nodes n (truth (is_sorted node_cmp nodes) are.rising)

  sound_at : (key : Key) (r : Record) → get w key ≡ Some r → IsSoundAt classes key r
  sound_at key r got =
      let o = (given key r).0 got in
      let p = object_rows classes nodes key r storable are o in
      record { key_of = o.real; record_of = record { extent = p.0.extent; id = o.real.id; fields = p.0.fields }; limits = object_passes classes nodes key r storable are o }

  none_twice : (a b : Key) → Clash classes w a b → ⊥
  none_twice a b c = by (node_cmp (entry_below c.node a) (entry_below c.node b)) refl
    where
      first_has : HasKeyNode classes nodes a c.node
      first_has = record { own = c.one; object = (given a c.one).0 c.first.0; has = c.first.1 }

      second_has : HasKeyNode classes nodes b c.node
      second_has = record { own = c.other; object = (given b c.other).0 c.second.0; has = c.second.1 }

      by : (o : Ordering) → node_cmp (entry_below c.node a) (entry_below c.node b) ≡ o → ⊥
      by Less e = good.none (entry_below c.node b) (second (record { node = c.node; first = a; second = b; apart = c.apart; first_has = first_has; second_has = second_has; later = e; entry = refl }))
      by Equal e =
          c.apart (one_entry classes c.node a b first_has.object.real second_has.object.real
          (sym (key_node_global classes a c.one c.node c.first.1) ∙ key_node_global classes b c.other c.node c.second.1) (node_exact (entry_below c.node a) (entry_below c.node b) e))
      by Greater e =
          good.none (entry_below c.node a)
          (second (record { node = c.node; first = b; second = a; apart = λ same. c.apart (sym same); first_has = second_has; second_has = first_has; later = node_total.antisymm (entry_below c.node b) (entry_below c.node a) ∙ ap ordering_reverse e; entry = refl }))

  met : (s : Side) (o : Option (List ℕ)) → IsMetBy classes nodes s o → IsMet classes w s o
  met s None m = tt
  met s (Some id) m = (m.0, (given (target_key classes s.class id) m.0).1 m.1, m.2)

  -- where an object is, its nodes are there and no others
  of_object : (n : Node) (key : Key) (r : Record) → is_object_node classes n ≡ true → owner classes n ≡ Some key → IsObject classes nodes key r → (o : Option Value) → find node_cmp n nodes ≡ o → o ≡ stands_at classes key n r
  of_object n key r own belongs object None e = by (stands_at classes key n r) refl
    where
      by : (s : Option Value) → stands_at classes key n r ≡ s → None ≡ s
      by None k = refl
      by (Some v) k = absurd (good.none n (missing (record { key = key; own = r; object = object; value = v; stands = k; missing = e })))
  of_object n key r own belongs object (Some v) e = by (stands_at classes key n r) refl
    where
      differs : stands_at classes key n r ≢ Some v → ⊥
      differs d = good.none n (strange (record { value = v; stored = record { there = e; own = own }; key = key; belongs = belongs; own = r; object = object; differs = d }))

      test : (u : Value) → stands_at classes key n r ≡ Some u → (b : Bool) → same_value u v ≡ b → Some v ≡ Some u
      test u k true t = ap Some (sym (same_value-is u v t))
      test u k false t = absurd (differs (λ j. let one : u ≡ v = (let two : Some u ≡ Some v = sym k ∙ j in cc) in let yes = is-same_value u v one in cc))

      by : (s : Option Value) → stands_at classes key n r ≡ s → Some v ≡ s
      by None k = absurd (differs (λ j. let no : None ≡ Some v = sym k ∙ j in cc))
      by (Some u) k = test u k (same_value u v) refl

  -- and elsewhere there is none
  of_none : (n : Node) (key : Key) → is_object_node classes n ≡ true → owner classes n ≡ Some key → get w key ≡ None → (o : Option Value) → find node_cmp n nodes ≡ o → o ≡ None
  of_none n key own belongs gone None e = refl
  of_none n key own belongs gone (Some v) e = absurd (by (damage classes key (nodes_of nodes key)) refl)
    where
      real : IsKeyOf classes key
      real = owner_is_real classes n key (legal_node_found nodes n v are e) belongs

      by : (d : Option Node) → damage classes key (nodes_of nodes key) ≡ d → ⊥
      by None k =
          let p = undamaged_reads classes key (nodes_of nodes key) k in
          let no : None ≡ Some p.0 = sym gone ∙ (given key p.0).1 (record { real = real; whole = k; reads = p.1 }) in
          cc
      by (Some d) k = good.none d (broken (record { some_node = n; value = v; stored = record { there = e; own = own }; key = key; belongs = belongs; broken = k }))

  imaged : (n : Node) → is_object_node classes n ≡ true → find node_cmp n nodes ≡ image classes w n
  imaged n own = by (owner classes n) refl
    where
      with_key : (key : Key) → owner classes n ≡ Some key → (o : Option Record) → get w key ≡ o → find node_cmp n nodes ≡ option_and_then (stands_at classes key n) o
      with_key key belongs None e = of_none n key own belongs e (find node_cmp n nodes) refl
      with_key key belongs (Some r) e = of_object n key r own belongs ((given key r).0 e) (find node_cmp n nodes) refl

      with_none : owner classes n ≡ None → (o : Option Value) → find node_cmp n nodes ≡ o → o ≡ None
      with_none belongs None e = refl
      with_none belongs (Some v) e = absurd (good.none n (stray (record { value = v; stored = record { there = e; own = own }; none = belongs })))

      by : (o : Option Key) → owner classes n ≡ o → find node_cmp n nodes ≡ image classes w n
      by None e = with_none e (find node_cmp n nodes) refl ∙ sym (image_at classes w n None e)
      by (Some key) e = with_key key e (get w key) refl ∙ sym (image_at classes w n (Some key) e)

  counted : (extent : ClassName) → is_extent_of classes extent ≡ true → IsCounted (from_sorted nodes) w extent
  counted extent real = by (counter_number (find node_cmp (counter_node extent) nodes)) refl
    where
      enough : (number : ℕ) → Counts (find node_cmp (counter_node extent) nodes) number → (key : Key) (r : Record) → get w key ≡ Some r → key.extent ≡ extent → first_number key.id ≤ number
      enough number counts key r got same = test (nat_le (first_number key.id) number) refl
        where
          here : counter_node extent ≡ counter_node key.extent
          here = ap counter_node (sym same)

          test : (b : Bool) → nat_le (first_number key.id) number ≡ b → first_number key.id ≤ number
          test true t = leb-true (first_number key.id) number t
          test false t =
              absurd (good.none (counter_node extent)
              (below_id (record { key = key; own = r; object = (given key r).0 got; node = here; number = number; counts = counts; low = Rattle.std.proofs.lemmas.Bool.leb-false (first_number key.id) number t })))

      by : (o : Option ℕ) → counter_number (find node_cmp (counter_node extent) nodes) ≡ o → IsCounted (from_sorted nodes) w extent
      by None e =
          absurd (good.none (counter_node extent)
          (no_count (record { extent = extent; real = real; node = refl; none = λ number counts. let no : None ≡ Some number = sym e ∙ counts_number (find node_cmp (counter_node extent) nodes) number counts in cc })))
      by (Some number) e =
          let counts = number_counts (find node_cmp (counter_node extent) nodes) number e in
          record {
            number = number;
            counts = subst (λ v. Counts v number) (sym (found (counter_node extent))) counts;
            enough = enough number counts;
          }

  pub is_opening : Opening classes (from_sorted nodes) w
  is_opening = record {
    sound = record {
      records = sound_at;
      apart = none_twice;
      targets = λ key r s got has. met s s.target (good.targeted key r s ((given key r).0 got) has);
    };
    image = λ n own. found n ∙ imaged n own;
    counters = counted;
  }
