-- The nodes of a start have no fault, and its world is the one that they give.
use Rattle.std.proofs.Common.{◌≡◌, ℕ, Bool, true, false, cond, List, [], Option, None, Some, refl, sym, ap, subst, ◌∙◌, arith}
use Rattle.std.specs.Option.{option_and_then}
use Rattle.std.specs.FinMap.{find, get, from_sorted, entries as listed, get-from_sorted, get-empty}
use Rattle.obj_kinds.specs.declared.node.Node.{Node}
use Rattle.obj_kinds.specs.declared.value.Value.{Value}
use Rattle.obj_kinds.specs.Order.{node_cmp, covers}
use Rattle.obj_kinds.proofs.Sorted.{truth}
use Rattle.std.specs.FinMap.{is_sorted}
use Rattle.schema_kinds.specs.declared.class.Class.{Class}
use Rattle.schema_kinds.specs.declared.key.Key.{Key}
use Rattle.schema_kinds.specs.declared.record.Record.{Record}
use Rattle.schema_kinds.specs.Worlds.{World}
use Rattle.record_layout.specs.Rows.{data_node, rows}
use Rattle.record_layout.specs.Reading.{Read}
use Rattle.storage_map.specs.Changes.{rows_if}
use Rattle.storage_map.specs.Entries.{has_legal_entries}
use Rattle.storage_map.specs.Keys.{Side, target_key}
use Rattle.storage_map.specs.SoundWorlds.{passes_no_limit, Clash, IsSoundAt, IsMet}
use Rattle.storage_map.specs.Worlds.{owner, stands_at, owned_at, image, IsKeyOf}
use Rattle.storage_map.proofs.OrderedLaws.{none_listed}
use Rattle.record_reading.specs.Damage.{damage}
use Rattle.record_reading.specs.Laws.{IsStoredAt}
use Rattle.record_reading.proofs.RecordLaws.{rows_are_nodes}
use Rattle.world_images.proofs.EntryLaws.{and_second}
use Rattle.world_images.proofs.ImageLaws.{nodes_belong}
use Rattle.world_audit.specs.Objects.{Told, nodes_of, IsObject, IsWorldOf}
use Rattle.world_audit.specs.Faults.{IsStray, IsStrange, IsBroken, IsMissing, IsSecond, IsMetBy, IsUntargeted, IsNoCount, IsBelowId, IsFault, stray, strange, broken, missing, second, untargeted, no_count, below_id, AreTargeted, IsFaultless}
use Rattle.world_audit.specs.Laws.{AreNodes, AreStorable}
use Rattle.world_audit.specs.Openings.{is_object_node, counter_node, Counts, IsCounted, Opening}
use Rattle.world_audit.proofs.CounterLaws.{counts_one}
use Rattle.world_audit.proofs.NodeLaws.{find_under, under_rise, are_entries, none_is_damaged}
use Rattle.world_audit.proofs.OwnerLaws.{covered_belongs, covered_is_object, row_is_covered, stands_covered, stands_is_object}

legal_entries : (classes : List Class) (key : Key) (r : Record) → passes_no_limit classes key r ≡ true → has_legal_entries classes key r ≡ true
unfolding passes_no_limit
legal_entries classes key r h = and_second _ (has_legal_entries classes key r) h

image_at : (classes : List Class) (w : World) (n : Node) (o : Option Key) → owner classes n ≡ o → image classes w n ≡ owned_at classes w n o
unfolding image
image_at classes w n o e = ap (owned_at classes w n) e

module _ (classes : List Class) (nodes : Told) (w : World) (storable : AreStorable classes) (are : AreNodes nodes) (opening : Opening classes (from_sorted nodes) w) where
  found : (n : Node) → find node_cmp n nodes ≡ get (from_sorted {R = node_cmp} nodes) n
  found n = sym (get-from_sorted node_cmp nodes n (truth (is_sorted node_cmp nodes) are.rising))

  -- a node of the schema has the value of the image
  imaged : (n : Node) → is_object_node classes n ≡ true → find node_cmp n nodes ≡ image classes w n
  imaged n own = found n ∙ opening.image n own

  -- the nodes of a key are the rows of its record
  key_node : (key : Key) (o : Option Record) → get w key ≡ o → IsKeyOf classes key → (n : Node) → find node_cmp n (nodes_of nodes key) ≡ get (rows_if classes key o) n
  key_node key o got real n = by (covers (data_node key) n) refl
    where
      inside : (o : Option Record) → covers (data_node key) n ≡ true → option_and_then (stands_at classes key n) o ≡ get (rows_if classes key o) n
      inside None over = sym (get-empty node_cmp n)
      inside (Some r) over = stands_covered classes key r n over

      outside : (o : Option Record) → covers (data_node key) n ≡ false → None ≡ get (rows_if classes key o) n
      outside None apart = sym (get-empty node_cmp n)
      outside (Some r) apart = at (get (rows classes key r) n) refl
        where
          at : (v : Option Value) → get (rows classes key r) n ≡ v → None ≡ v
          at None e = refl
          at (Some v) e = let over = row_is_covered classes key r n v e in cc

      by : (b : Bool) → covers (data_node key) n ≡ b → find node_cmp n (nodes_of nodes key) ≡ get (rows_if classes key o) n
      by true over =
          find_under (data_node key) n nodes ∙ ap (λ b. cond b (find node_cmp n nodes) None) over
          ∙ imaged n (covered_is_object classes key n real over) ∙ image_at classes w n (Some key) (covered_belongs classes key n real over)
          ∙ ap (option_and_then (stands_at classes key n)) got ∙ inside o over
      by false apart = find_under (data_node key) n nodes ∙ ap (λ b. cond b (find node_cmp n nodes) None) apart ∙ outside o apart

  key_nodes : (key : Key) (o : Option Record) → get w key ≡ o → IsKeyOf classes key → nodes_of nodes key ≡ listed (rows_if classes key o)
  key_nodes key o got real = are_entries (nodes_of nodes key) (rows_if classes key o) (under_rise (data_node key) nodes are.rising) (key_node key o got real)

  -- each record of the world is the object of its key
  pub to_object : (key : Key) (r : Record) → get w key ≡ Some r → IsObject classes nodes key r
  to_object key r got =
      let s : IsSoundAt classes key r = opening.sound.records key r got in
      let stored : IsStoredAt classes key r = record { extent = s.record_of.extent; fields = s.record_of.fields; entries = legal_entries classes key r s.limits } in
      let p = rows_are_nodes classes key (nodes_of nodes key) r (under_rise (data_node key) nodes are.rising) (storable r.class key.extent s.record_of.extent) stored (key_nodes key (Some r) got s.key_of) in
      record { real = s.key_of; whole = p.0; reads = p.1 }

  -- and there is no other object
  pub from_object : (key : Key) (r : Record) → IsObject classes nodes key r → get w key ≡ Some r
  from_object key r o = by (get w key) refl
    where
      by : (v : Option Record) → get w key ≡ v → get w key ≡ Some r
      by None e =
          let none : nodes_of nodes key ≡ [] = key_nodes key None e o.real ∙ sym none_listed in
          let no : Some (data_node key) ≡ None = sym (none_is_damaged classes key) ∙ ap (damage classes key) (sym none) ∙ o.whole in
          cc
      by (Some q) e =
          let p = to_object key q e in
          let one : Read q ≡ Read r = sym p.reads ∙ o.reads in
          let same : q ≡ r = cc in
          e ∙ ap Some same

  no_stray : (n : Node) → IsStray classes nodes n → ⊥
  no_stray n f = let no : Some f.value ≡ None = sym f.stored.there ∙ imaged n f.stored.own ∙ image_at classes w n None f.none in cc

  no_strange : (n : Node) → IsStrange classes nodes n → ⊥
  no_strange n f =
      f.differs (sym (sym f.stored.there ∙ imaged n f.stored.own ∙ image_at classes w n (Some f.key) f.belongs ∙ ap (option_and_then (stands_at classes f.key n)) (from_object f.key f.own f.object)))

  no_broken : (n : Node) → IsBroken classes nodes n → ⊥
  no_broken n f = by (get w f.key) refl
    where
      by : (o : Option Record) → get w f.key ≡ o → ⊥
      by None e =
          let no : Some f.value ≡ None = sym f.stored.there ∙ imaged f.some_node f.stored.own ∙ image_at classes w f.some_node (Some f.key) f.belongs ∙ ap (option_and_then (stands_at classes f.key f.some_node)) e in cc
      by (Some r) e = let no : Some n ≡ None = sym f.broken ∙ (to_object f.key r e).whole in cc

  no_missing : (n : Node) → IsMissing classes nodes n → ⊥
  no_missing n f =
      let got = from_object f.key f.own f.object in
      let s : IsSoundAt classes f.key f.own = opening.sound.records f.key f.own got in
      let belongs = nodes_belong classes f.key f.own n f.value s.key_of s.record_of.extent f.stands in
      let no : None ≡ Some f.value =
      sym f.missing ∙ imaged n (stands_is_object classes f.key f.own n f.value s.key_of f.stands) ∙ image_at classes w n (Some f.key) belongs ∙ ap (option_and_then (stands_at classes f.key n)) got ∙ f.stands in
      cc

  no_second : (n : Node) → IsSecond classes nodes n → ⊥
  no_second n f =
      let a = f.first_has in
      let b = f.second_has in
      let clash : Clash classes w f.first f.second =
      record { node = f.node; one = a.own; other = b.own; apart = f.apart; first = (from_object f.first a.own a.object, a.has); second = (from_object f.second b.own b.object, b.has) } in
      opening.sound.apart f.first f.second clash

  met_by : (s : Side) (o : Option (List ℕ)) → IsMet classes w s o → IsMetBy classes nodes s o
  met_by s None m = tt
  met_by s (Some id) m = (m.0, to_object (target_key classes s.class id) m.0 m.1, m.2)

  are_targeted : AreTargeted classes nodes
  are_targeted key r s o has = met_by s s.target (opening.sound.targets key r s (from_object key r o) has)

  no_untargeted : (n : Node) → IsUntargeted classes nodes n → ⊥
  no_untargeted n f = f.unmet (subst (IsMetBy classes nodes f.side) f.names (are_targeted f.key f.own f.side f.object f.has))

  no_no_count : (n : Node) → IsNoCount classes nodes n → ⊥
  no_no_count n f =
      let c : IsCounted (from_sorted nodes) w f.extent = opening.counters f.extent f.real in
      f.none c.number (subst (λ v. Counts v c.number) (sym (found (counter_node f.extent)) ∙ ap (λ m. find node_cmp m nodes) (sym f.node)) c.counts)

  no_below_id : (n : Node) → IsBelowId classes nodes n → ⊥
  no_below_id n f =
      let c : IsCounted (from_sorted nodes) w f.key.extent = opening.counters f.key.extent f.object.real.extent in
      let counts : Counts (find node_cmp n nodes) c.number = subst (λ v. Counts v c.number) (sym (found (counter_node f.key.extent)) ∙ ap (λ m. find node_cmp m nodes) (sym f.node)) c.counts in
      let one : f.number ≡ c.number = counts_one (find node_cmp n nodes) f.number c.number f.counts counts in
      let enough = c.enough f.key f.own (from_object f.key f.own f.object) refl in
      let low = f.low in
      omega (arith, one, enough, low)

  no_fault : (n : Node) → IsFault classes nodes n → ⊥
  no_fault n (stray f) = no_stray n f
  no_fault n (strange f) = no_strange n f
  no_fault n (broken f) = no_broken n f
  no_fault n (missing f) = no_missing n f
  no_fault n (second f) = no_second n f
  no_fault n (untargeted f) = no_untargeted n f
  no_fault n (no_count f) = no_no_count n f
  no_fault n (below_id f) = no_below_id n f

  pub is_faultless : IsFaultless classes nodes
  is_faultless = record { none = no_fault; targeted = are_targeted }

  pub is_world_of : IsWorldOf classes nodes w
  is_world_of key r = (to_object key r, from_object key r)
