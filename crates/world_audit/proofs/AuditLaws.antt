-- What is noted is the least fault, and nothing is where there is none.
use Rattle.std.proofs.Common.{◌≡◌, ◌≢◌, ◌⊎◌, inl, inr, ℕ, Bool, true, false, cond, ◌||◌, nat_lt, List, [], ◌∷◌, ◌++◌, map, Option, None, Some, is_some, Result, Ok, Err, IfOk, IfErr, refl, sym, ap, subst, ◌∙◌}
use Rattle.std.specs.declared.cmp.Ordering.{Ordering}
use Rattle.std.specs.declared.cmp.Ordering.TheVariants.{Less, Equal, Greater}
use Rattle.std.specs.Ordering.{is_eq, eq_by_cmp, ordering_reverse, nat_cmp}
use Rattle.std.specs.Cmp.Lexicographic.{slice_cmp, nat_list_cmp_total}
use Rattle.std.specs.List.{list_any, list_all}
use Rattle.std.specs.FinMap.{find, get, from_sorted, entries as listed, is_sorted, get-from_sorted, get-entries}
use Rattle.std.proofs.lemmas.Bool.{ltb-true, lt-ltb}
use Rattle.std.proofs.lemmas.Cmp.{tied_itself}
use Rattle.obj_kinds.specs.declared.node.Node.{Node}
use Rattle.obj_kinds.specs.declared.value.Value.{Value}
use Rattle.obj_kinds.specs.declared.value.Value.TheVariants as value
use Rattle.obj_kinds.specs.Limits.{is_legal_node}
use Rattle.obj_kinds.specs.Order.{node_cmp, covers}
use Rattle.obj_kinds.specs.OrderLaws.{node_total, node_exact}
use Rattle.obj_kinds.proofs.LineLaws.{covers_itself}
use Rattle.obj_kinds.proofs.Sorted.{truth}
use Rattle.obj_kinds.proofs.TextLaws.{same_text-is}
use Rattle.schema_kinds.specs.declared.class.Class.{Class}
use Rattle.schema_kinds.specs.declared.key.Key.{Key}
use Rattle.schema_kinds.specs.declared.record.Record.{Record}
use Rattle.schema_kinds.specs.Classes.{class_names, is_own_global}
use Rattle.schema_kinds.specs.KeyLaws.{key_total, key_exact}
use Rattle.schema_kinds.specs.Worlds.{World, key_cmp}
use Rattle.record_layout.specs.Rows.{data_node, rows}
use Rattle.record_layout.specs.Reading.{Reading, Read, Damaged}
use Rattle.storage_map.specs.Entries.{entry_list}
use Rattle.storage_map.specs.Keys.{Side, sides_of, target_key}
use Rattle.storage_map.specs.SoundWorlds.{HasSide}
use Rattle.storage_map.specs.Worlds.{owner, stands_at, or_key, is_root_named, IsKeyOf}
use Rattle.record_reading.specs.Damage.{damage, missing_row}
use Rattle.record_reading.specs.Rows.{read_record}
use Rattle.global_tree.specs.Below.{or_else}
use Rattle.world_images.proofs.EntryLaws.{and_first}
use Rattle.world_images.proofs.ImageLaws.{nodes_belong}
use Rattle.world_audit.specs.declared.found.Found.{Found}
use Rattle.world_audit.specs.declared.found.Found.TheVariants.{Whole, Broken}
use Rattle.record_reading.specs.declared.error.FormError.{FormError}
use Rattle.record_reading.specs.declared.error.FormError.TheVariants as damaged_form
use Rattle.world_audit.specs.Answers.{IsJudged, Judges, TellsNode, TellsFault, TellsMemory}
use Rattle.world_audit.specs.Counters.{counter_number}
use Rattle.world_audit.specs.Counts.{if_low, low, low_of, if_none, count_of}
use Rattle.world_audit.specs.Faults.{IsStray, IsStrange, IsBroken, IsMissing, entry_below, HasKeyNode, IsSecond, IsMetBy, entry_of_side, IsUntargeted, IsNoCount, IsBelowId, IsFault, stray, strange, broken, missing, second, untargeted, no_count, below_id, AreTargeted}
use Rattle.world_audit.specs.Finds.{Finds, found_by, found_at, with_nodes, broken_in, broken_of, of_whole, wholes}
use Rattle.world_audit.specs.Firsts.{Firsts, record_nodes, nodes_of_found, is_first, firsts_of, second_of, seconds_for}
use Rattle.world_audit.specs.Laws.{AreNodes, AreStorable}
use Rattle.world_audit.specs.Least.{IsAmong, IsElement, IsUpTo, note_each, note_pairs}
use Rattle.world_audit.specs.Marks.{is_entered, entries_of, lacking_of, mark_finds, no_marks}
use Rattle.world_audit.specs.Objects.{Told, nodes_under, nodes_of, IsObject, IsWorldOf}
use Rattle.world_audit.specs.Openings.{is_object_node, counter_node, first_number, Counts, Opening}
use Rattle.world_audit.specs.Owners.{row_key, entry_owner}
use Rattle.world_audit.specs.Sides.{IsMetIn, IsUnmet, Notes, IsSideIn, IsSideOfAny}
use Rattle.world_audit.specs.Strays.{of_found, of_owner, of_row, stray_at, stray_of, note_strays}
use Rattle.world_audit.proofs.CounterLaws.{number_counts, counts_number}
use Rattle.world_audit.proofs.EntryMarks.{entry_stands, stands_entry, lacking_is, is_lacking, entered_empty, empty_entered, in_finds, marks_are, marked_entry, entry_marked}
use Rattle.world_audit.proofs.FindLaws.{found_element, element_found, find_whole, whole_of, wholes_rise, finds_sound, finds_complete, finds_rise}
use Rattle.world_audit.proofs.FirstLaws.{record_has, has_record, IsAtMost, first_is_least, first_has, entries_go_by_ids}
use Rattle.world_audit.proofs.LeastLaws.{each_keeps, each_all, each_from, pairs_keep, pairs_all, pairs_from}
use Rattle.world_audit.proofs.NodeLaws.{find_under, legal_node_found, undamaged_reads, none_is_damaged, object_rows}
use Rattle.world_audit.proofs.OwnerLaws.{covers_is, row_global, covered_belongs, covered_is_object, stands_covered, stands_elsewhere, stands_is_object, entry_apart, own_is_extent, owner_is, row_key_is, entry_owner_is, owner_is_real, extent_owns_data, two_letters}
use Rattle.world_audit.proofs.FaultlessLaws.{is_opening}
use Rattle.world_audit.proofs.StartLaws.{is_faultless}
use Rattle.world_audit.proofs.StrayLaws.{strays_keep, strays_all, strays_from}

abbrev id_cmp : List ℕ → List ℕ → Ordering
id_cmp = slice_cmp nat_cmp

-- ---- what is found of a key

found_whole : (key : Key) (d : Option Node) (reading : Reading Record) (r : Record) → found_by key d reading ≡ Whole r → (d ≡ None) × (reading ≡ Read r)
found_whole key (Some n) reading r h = cc
found_whole key None (Read q) r h = let same : q ≡ r = cc in (refl, ap Read same)
found_whole key None (Damaged way) r h = cc

row_is_there : (classes : List Class) (key : Key) (nodes : Told) → damage classes key nodes ≡ None → is_some (find node_cmp (data_node key) nodes) ≡ true
unfolding damage
row_is_there classes key nodes h = by (is_some (find node_cmp (data_node key) nodes)) refl (none_first (missing_row key nodes) _ h)
  where
    none_first : (a b : Option Node) → or_else a b ≡ None → a ≡ None
    none_first None b k = refl
    none_first (Some x) b k = cc

    by : (b : Bool) → is_some (find node_cmp (data_node key) nodes) ≡ b → cond b None (Some (data_node key)) ≡ None → b ≡ true
    by true e k = refl
    by false e k = cc

module _ (classes : List Class) (nodes : Told) (storable : AreStorable classes) (are : AreNodes nodes) where
  abbrev finds : Finds
  finds = with_nodes classes nodes [] nodes

  in_nodes : (n : Node) (v : Value) → find node_cmp n nodes ≡ Some v → IsElement (n, v) nodes
  in_nodes n v h = found_element node_cmp node_total node_exact nodes n v h

  from_nodes : (e : Node × Value) → IsElement e nodes → find node_cmp e.0 nodes ≡ Some e.1
  from_nodes e h = element_found node_cmp node_total node_exact nodes e are.rising h

  in_finds_at : (k : Key) (f : Found) → find key_cmp k finds ≡ Some f → IsElement (k, f) finds
  in_finds_at k f h = found_element key_cmp key_total key_exact finds k f h

  from_finds : (e : Key × Found) → IsElement e finds → find key_cmp e.0 finds ≡ Some e.1
  from_finds e h = element_found key_cmp key_total key_exact finds e (finds_rise classes nodes) h

  -- a key that was found is real
  found_real : (k : Key) (f : Found) → find key_cmp k finds ≡ Some f → IsKeyOf classes k
  found_real k f h =
      let p = finds_sound classes nodes k f h in
      (row_key_is classes p.node k (legal_node_found nodes p.node p.value are (from_nodes (p.node, p.value) p.there)) p.belongs).real

  to_object : (k : Key) (r : Record) → find key_cmp k finds ≡ Some (Whole r) → IsObject classes nodes k r
  unfolding found_at
  to_object k r h =
      let p = finds_sound classes nodes k (Whole r) h in
      let q = found_whole k (damage classes k (nodes_of nodes k)) (read_record classes k (nodes_of nodes k)) r (sym p.is) in
      record { real = found_real k (Whole r) h; whole = q.0; reads = q.1 }

  covered_key : (k : Key) (n : Node) → IsKeyOf classes k → is_legal_node n ≡ true → covers (data_node k) n ≡ true → row_key classes n ≡ Some k
  covered_key k n real legal over = by (row_key classes n) refl (sym (owner_is classes n) ∙ covered_belongs classes k n real over)
    where
      by : (o : Option Key) → row_key classes n ≡ o → or_key o (entry_owner classes n) ≡ Some k → o ≡ Some k
      by (Some j) e h = h
      by None e h =
          let p = covers_is (data_node k) n over in
          absurd (two_letters k.extent.0 k.extent.0 (sym (row_global k p.0) ∙ ap (λ (m : Node). m.global) (sym p.1) ∙ (entry_owner_is classes n k legal h).global))

  found_object : (k : Key) (r : Record) → IsObject classes nodes k r → found_at classes nodes k ≡ Whole r
  unfolding found_at
  found_object k r o = ap (λ d. found_by k d (read_record classes k (nodes_of nodes k))) o.whole ∙ ap (found_by k None) o.reads

  from_object : (k : Key) (r : Record) → IsObject classes nodes k r → find key_cmp k finds ≡ Some (Whole r)
  from_object k r o = by (find node_cmp (data_node k) nodes) refl
    where
      row : is_some (cond (covers (data_node k) (data_node k)) (find node_cmp (data_node k) nodes) None) ≡ true
      row = ap is_some (sym (find_under (data_node k) (data_node k) nodes)) ∙ row_is_there classes k (nodes_of nodes k) o.whole

      there : is_some (find node_cmp (data_node k) nodes) ≡ true
      there = ap (λ b. is_some (cond b (find node_cmp (data_node k) nodes) None)) (sym (covers_itself (data_node k))) ∙ row

      by : (v : Option Value) → find node_cmp (data_node k) nodes ≡ v → find key_cmp k finds ≡ Some (Whole r)
      by None e = let no : false ≡ true = ap is_some (sym e) ∙ there in cc
      by (Some v) e =
          finds_complete classes nodes (data_node k, v) k (in_nodes (data_node k) v e) (covered_key k (data_node k) o.real (legal_node_found nodes (data_node k) v are e) (covers_itself (data_node k)))
          ∙ ap Some (found_object k r o)

  broken_damage : (k : Key) (d : Node) → find key_cmp k finds ≡ Some (Broken d) → damage classes k (nodes_of nodes k) ≡ Some d
  unfolding found_at
  broken_damage k d h = by (damage classes k (nodes_of nodes k)) refl (sym (finds_sound classes nodes k (Broken d) h).is)
    where
      none : (reading : Reading Record) → read_record classes k (nodes_of nodes k) ≡ reading → damage classes k (nodes_of nodes k) ≡ None → found_by k None reading ≡ Broken d → None ≡ Some d
      none (Read r) e g j = cc
      none (Damaged way) e g j = let p = undamaged_reads classes k (nodes_of nodes k) g in let no : Read p.0 ≡ Damaged way = sym p.1 ∙ e in cc

      by : (o : Option Node) → damage classes k (nodes_of nodes k) ≡ o → found_by k o (read_record classes k (nodes_of nodes k)) ≡ Broken d → o ≡ Some d
      by None e j = none (read_record classes k (nodes_of nodes k)) refl e j
      by (Some m) e j = let same : m ≡ d = cc in ap Some same

  damage_broken : (k : Key) (d : Node) → damage classes k (nodes_of nodes k) ≡ Some d → found_at classes nodes k ≡ Broken d
  unfolding found_at
  damage_broken k d h = ap (λ o. found_by k o (read_record classes k (nodes_of nodes k))) h

  -- the world of what was found
  pub is_world : IsWorldOf classes nodes (from_sorted (wholes finds))
  is_world k r = (λ h. to_object k r (whole_back (find key_cmp k finds) (sym whole ∙ h)), λ o. whole ∙ ap whole_of (from_object k r o))
    where
      whole : get (from_sorted {R = key_cmp} (wholes finds)) k ≡ whole_of (find key_cmp k finds)
      whole = get-from_sorted key_cmp (wholes finds) k (truth (is_sorted key_cmp (wholes finds)) (wholes_rise finds (finds_rise classes nodes))) ∙ find_whole finds k (finds_rise classes nodes)

      whole_back : (o : Option Found) → whole_of o ≡ Some r → o ≡ Some (Whole r)
      whole_back None h = cc
      whole_back (Some (Whole q)) h = let same : q ≡ r = cc in ap (λ p. Some (Whole p)) same
      whole_back (Some (Broken d)) h = cc

  -- ---- what is noted is a fault

  broken_sound : (e : Key × Found) (n : Node) → IsElement e finds → IsAmong n (broken_of e) → IsFault classes nodes n
  broken_sound e n is h = by e.1 refl h
    where
      at : (d : Node) → e.1 ≡ Broken d → n ≡ d → IsFault classes nodes n
      at d g same =
          let found : find key_cmp e.0 finds ≡ Some (Broken d) = from_finds e is ∙ ap Some g in
          let p = finds_sound classes nodes e.0 (Broken d) found in
          let there = from_nodes (p.node, p.value) p.there in
          let row = row_key_is classes p.node e.0 (legal_node_found nodes p.node p.value are there) p.belongs in
          broken
          (record {
            some_node = p.node;
            value = p.value;
            stored = record { there = there; own = covered_is_object classes e.0 p.node row.real row.over };
            key = e.0;
            belongs = covered_belongs classes e.0 p.node row.real row.over;
            broken = broken_damage e.0 d found ∙ ap Some (sym same);
          })

      by : (f : Found) → e.1 ≡ f → IsAmong n (broken_in f) → IsFault classes nodes n
      by (Whole r) g k = absurd k
      by (Broken d) g (inl same) = at d g same
      by (Broken d) g (inr k) = absurd k

  -- an entry of a record stands there with the empty text
  entry_at : (k : Key) (r : Record) (n : Node) → IsAmong n (entry_list classes k r) → stands_at classes k n r ≡ Some (value.Str [])
  entry_at k r n h = by (covers (data_node k) n) refl
    where
      by : (b : Bool) → covers (data_node k) n ≡ b → stands_at classes k n r ≡ Some (value.Str [])
      by true over = absurd (entry_apart classes k k r n (value.Str []) (entry_stands classes k r n h) over)
      by false apart = stands_elsewhere classes k r n apart ∙ entry_stands classes k r n h

  lacking_sound : (e : Key × Found) (n : Node) → IsElement e finds → IsAmong n (lacking_of classes nodes e) → IsFault classes nodes n
  lacking_sound e n is h = by e.1 refl h
    where
      at : (r : Record) → IsObject classes nodes e.0 r → IsAmong n (entry_list classes e.0 r) → (o : Option Value) → find node_cmp n nodes ≡ o → is_entered o ≡ false → IsFault classes nodes n
      at r o entry None there k = missing (record { key = e.0; own = r; object = o; value = value.Str []; stands = entry_at e.0 r n entry; missing = there })
      at r o entry (Some v) there k =
          let stands = entry_at e.0 r n entry in
          strange
          (record {
            value = v;
            stored = record { there = there; own = stands_is_object classes e.0 r n (value.Str []) o.real stands };
            key = e.0;
            belongs = nodes_belong classes e.0 r n (value.Str []) o.real (object_rows classes nodes e.0 r storable are o).0.extent stands;
            own = r;
            object = o;
            differs = λ same. let both : Some (value.Str []) ≡ Some v = sym stands ∙ same in let empty : v ≡ value.Str [] = one_value both in let yes = empty_entered v empty in cc;
          })
        where
          one_value : {v : Value} → Some (value.Str []) ≡ Some v → v ≡ value.Str []
          one_value both = sym (ap (λ q. Rattle.std.specs.Option.unwrap_or q (value.Str [])) both)

      by : (f : Found) → e.1 ≡ f → IsAmong n (Rattle.world_audit.specs.Marks.lacking nodes (of_whole f (entry_list classes e.0))) → IsFault classes nodes n
      by (Whole r) g k =
          let p = lacking_is nodes (entry_list classes e.0 r) n k in
          at r (to_object e.0 r (from_finds e is ∙ ap Some g)) p.0 (find node_cmp n nodes) refl p.1
      by (Broken d) g k = absurd k

  abbrev firsts : Firsts
  firsts = firsts_of classes [] finds

  -- a record that has a key
  with_node : (e : Key × Found) (n : Node) → IsElement e finds → IsElement n (nodes_of_found classes e) → HasKeyNode classes nodes e.0 n
  with_node e n is h = by e.1 refl h
    where
      by : (f : Found) → e.1 ≡ f → IsElement n (of_whole f (record_nodes classes e.0)) → HasKeyNode classes nodes e.0 n
      by (Whole r) g k = record { own = r; object = to_object e.0 r (from_finds e is ∙ ap Some g); has = record_has classes e.0 r n k }
      by (Broken d) g k = absurd k

  before_of : (k id : List ℕ) → is_eq (id_cmp k id) ≡ false → id_cmp id k ≢ Less → id_cmp k id ≡ Less
  before_of k id apart not_before = by (id_cmp k id) refl apart
    where
      by : (o : Ordering) → id_cmp k id ≡ o → is_eq o ≡ false → o ≡ Less
      by Less e h = refl
      by Equal e h = cc
      by Greater e h = absurd (not_before (nat_list_cmp_total.antisymm id k ∙ ap ordering_reverse e))

  second_sound : (e : Key × Found) (n m : Node) → IsElement e finds → IsElement n (nodes_of_found classes e) → IsAmong m (second_of firsts e.0 n) → IsFault classes nodes m
  second_sound e n m is has h = by (find node_cmp n firsts) refl h
    where
      mine : HasKeyNode classes nodes e.0 n
      mine = with_node e n is has

      at : (k : List ℕ) → find node_cmp n firsts ≡ Some k → is_eq (id_cmp k e.0.id) ≡ false → m ≡ entry_below n e.0 → IsFault classes nodes m
      at k found apart same = of (first_has classes finds [] n k found)
        where
          of : (find node_cmp n (Rattle.std.specs.Prelude.[]) ≡ Some k) ⊎ ((d : Key × Found) × IsElement d finds × IsElement n (nodes_of_found classes d) × (k ≡ d.0.id)) → IsFault classes nodes m
          of (inl gone) = cc
          of (inr p) =
              let d = p.0 in
              let other = with_node d n p.1 p.2 in
              let least : id_cmp e.0.id k ≢ Less = subst (λ o. IsAtMost o e.0.id) found (first_is_least classes finds [] e n is has) in
              let before : id_cmp d.0.id e.0.id ≡ Less = ap (λ i. id_cmp i e.0.id) (sym p.3) ∙ before_of k e.0.id apart least in
              second
              (record {
                node = n;
                first = d.0;
                second = e.0;
                apart = λ one. let tie = tied_itself nat_list_cmp_total e.0.id in let less : id_cmp e.0.id e.0.id ≡ Less = ap (λ (j : Key). id_cmp j.id e.0.id) (sym one) ∙ before in cc;
                first_has = other;
                second_has = mine;
                later = entries_go_by_ids n d.0 e.0 other.object.real.id.0 other.object.real.id.1 mine.object.real.id.0 mine.object.real.id.1 ∙ before;
                entry = same;
              })

      tested : (k : List ℕ) → find node_cmp n firsts ≡ Some k → (b : Bool) → is_eq (id_cmp k e.0.id) ≡ b → IsAmong m (cond b [] (entry_below n e.0 ∷ [])) → IsFault classes nodes m
      tested k found true t j = absurd j
      tested k found false t (inl same) = at k found t same
      tested k found false t (inr j) = absurd j

      by : (o : Option (List ℕ)) → find node_cmp n firsts ≡ o → IsAmong m (cond (is_first o e.0.id) [] (entry_below n e.0 ∷ [])) → IsFault classes nodes m
      by None g j = absurd (subst (λ o. IsAtMost o e.0.id) g (first_is_least classes finds [] e n is has))
      by (Some k) g j = tested k g (is_eq (id_cmp k e.0.id)) refl j

  met_to : (s : Side) (o : Option (List ℕ)) → IsMetIn classes finds s o → IsMetBy classes nodes s o
  met_to s None m = tt
  met_to s (Some id) m = (m.0, to_object (target_key classes s.class id) m.0 m.1, m.2)

  met_from : (s : Side) (o : Option (List ℕ)) → IsMetBy classes nodes s o → IsMetIn classes finds s o
  met_from s None m = tt
  met_from s (Some id) m = (m.0, from_object (target_key classes s.class id) m.0 m.1, m.2)

  unmet_sound : (k : Key) (s : Side) (n : Node) → IsSideOfAny classes finds k s → IsUnmet classes finds k s n → IsFault classes nodes n
  unmet_sound k s n i u =
      let e = i.0 in
      let p : IsSideIn classes e k s = i.2 in
      let object = to_object e.0 p.own (from_finds e i.1 ∙ ap Some p.whole) in
      untargeted
      (record {
        key = k;
        own = p.own;
        object = subst (λ (j : Key). IsObject classes nodes j p.own) (sym p.key) object;
        side = s;
        has = p.has;
        id = u.id;
        names = u.names;
        unmet = λ m. u.unmet (met_from s (Some u.id) m);
        entry = u.entry;
      })

  none_under : (row : Node) (es : Told) → ((e : Node × Value) → IsElement e es → covers row e.0 ≡ false) → nodes_under row es ≡ []
  none_under row [] none = refl
  none_under row (e ∷ es) none = ap (λ b. cond b (e ∷ nodes_under row es) (nodes_under row es)) (none e (inl refl)) ∙ none_under row es (λ d h. none d (inr h))

  -- a key that wasn't found has no nodes
  no_nodes : (k : Key) → IsKeyOf classes k → find key_cmp k finds ≡ None → nodes_of nodes k ≡ []
  no_nodes k real gone = none_under (data_node k) nodes (λ e h. by e h (covers (data_node k) e.0) refl)
    where
      by : (e : Node × Value) → IsElement e nodes → (b : Bool) → covers (data_node k) e.0 ≡ b → b ≡ false
      by e h false t = refl
      by e h true t =
          let key = covered_key k e.0 real (legal_node_found nodes e.0 e.1 are (from_nodes e h)) t in
          let no : None ≡ Some (found_at classes nodes k) = sym gone ∙ finds_complete classes nodes e k h key in
          cc

  abbrev is_marked : Node → Bool
  is_marked n = in_finds classes finds n

  -- an entry of an object is marked
  object_marked : (k : Key) (r : Record) (n : Node) → find key_cmp k finds ≡ Some (Whole r) → IsAmong n (entry_list classes k r) → is_marked n ≡ true
  object_marked k r n found h = entry_marked classes finds (k, Whole r) n (in_finds_at k (Whole r) found) h

  -- what is marked is an entry of its key's record
  marked_object : (n : Node) → is_marked n ≡ true → (k : Key) × (r : Record) × (find key_cmp k finds ≡ Some (Whole r)) × IsAmong n (entry_list classes k r)
  marked_object n h = let p = marked_entry classes finds n h in by p.0 p.0.1 refl p.1 p.2
    where
      by : (e : Key × Found) (f : Found) → e.1 ≡ f → IsElement e finds → IsAmong n (of_whole e.1 (entry_list classes e.0)) → (k : Key) × (r : Record) × (find key_cmp k finds ≡ Some (Whole r)) × IsAmong n (entry_list classes k r)
      by e (Whole r) g is k = (e.0, r, from_finds e is ∙ ap Some g, subst (λ f. IsAmong n (of_whole f (entry_list classes e.0))) g k)
      by e (Broken d) g is k = absurd (subst (λ f. IsAmong n (of_whole f (entry_list classes e.0))) g k)

  owner_of_entry : (n : Node) → row_key classes n ≡ None → owner classes n ≡ entry_owner classes n
  owner_of_entry n none = owner_is classes n ∙ ap (λ o. or_key o (entry_owner classes n)) none

  stray_sound : (e : Node × Value) (n : Node) → IsElement e nodes → stray_of classes finds e.0 (is_marked e.0) ≡ Some n → IsFault classes nodes n
  stray_sound e n is h = by (is_marked e.0) refl h
    where
      there : find node_cmp e.0 nodes ≡ Some e.1
      there = from_nodes e is

      legal : is_legal_node e.0 ≡ true
      legal = legal_node_found nodes e.0 e.1 are there

      with_found : (own : is_object_node classes e.0 ≡ true) → row_key classes e.0 ≡ None → is_marked e.0 ≡ false → (k : Key) → entry_owner classes e.0 ≡ Some k → (f : Option Found) → find key_cmp k finds ≡ f → of_found e.0 k f ≡ Some n → IsFault classes nodes n
      with_found own row unmarked k belongs None g j =
          let same : data_node k ≡ n = cc in
          let mine = owner_of_entry e.0 row ∙ belongs in
          let real = owner_is_real classes e.0 k legal mine in
          broken
          (record {
            some_node = e.0;
            value = e.1;
            stored = record { there = there; own = own };
            key = k;
            belongs = mine;
            broken = ap (damage classes k) (no_nodes k real g) ∙ none_is_damaged classes k ∙ ap Some same;
          })
      with_found own row unmarked k belongs (Some (Broken d)) g j = cc
      with_found own row unmarked k belongs (Some (Whole r)) g j =
          let same : e.0 ≡ n = cc in
          let object = to_object k r g in
          subst (IsFault classes nodes) same
          (strange
          (record {
            value = e.1;
            stored = record { there = there; own = own };
            key = k;
            belongs = owner_of_entry e.0 row ∙ belongs;
            own = r;
            object = object;
            differs = λ stands. covered (covers (data_node k) e.0) refl object stands;
          }))
        where
          covered : (b : Bool) → covers (data_node k) e.0 ≡ b → IsObject classes nodes k r → stands_at classes k e.0 r ≡ Some e.1 → ⊥
          covered true over object stands = let no : None ≡ Some k = sym row ∙ covered_key k e.0 object.real legal over in cc
          covered false apart object stands =
              let p = stands_entry classes k r e.0 e.1 (sym (stands_elsewhere classes k r e.0 apart) ∙ stands) in
              let yes = object_marked k r e.0 g p.among in
              cc

      with_owner : is_object_node classes e.0 ≡ true → row_key classes e.0 ≡ None → is_marked e.0 ≡ false → (o : Option Key) → entry_owner classes e.0 ≡ o → of_owner finds e.0 o ≡ Some n → IsFault classes nodes n
      with_owner own row unmarked None g j =
          let same : e.0 ≡ n = cc in
          subst (IsFault classes nodes) same (stray (record { value = e.1; stored = record { there = there; own = own }; none = owner_of_entry e.0 row ∙ g }))
      with_owner own row unmarked (Some k) g j = with_found own row unmarked k g (find key_cmp k finds) refl j

      with_row : is_object_node classes e.0 ≡ true → is_marked e.0 ≡ false → (o : Option Key) → row_key classes e.0 ≡ o → of_row classes finds e.0 o ≡ Some n → IsFault classes nodes n
      with_row own unmarked None g j = with_owner own g unmarked (entry_owner classes e.0) refl j
      with_row own unmarked (Some k) g j = cc

      owned : (b : Bool) → is_object_node classes e.0 ≡ b → is_marked e.0 ≡ false → cond b (of_row classes finds e.0 (row_key classes e.0)) None ≡ Some n → IsFault classes nodes n
      owned true g unmarked j = with_row g unmarked (row_key classes e.0) refl j
      owned false g unmarked j = cc

      by : (b : Bool) → is_marked e.0 ≡ b → cond b None (stray_at classes finds e.0) ≡ Some n → IsFault classes nodes n
      by true g j = cc
      by false g j = owned (is_object_node classes e.0) refl g j

  low_sound : (e : Key × Found) (n : Node) → IsElement e finds → IsAmong n (low_of nodes e) → IsFault classes nodes n
  low_sound e n is h = by e.1 refl h
    where
      counted : (r : Record) → IsObject classes nodes e.0 r → (o : Option ℕ) → counter_number (find node_cmp (counter_node e.0.extent) nodes) ≡ o → IsAmong n (if_low o (first_number e.0.id) (counter_node e.0.extent)) → IsFault classes nodes n
      counted r object None g k = absurd k
      counted r object (Some number) g k = test (nat_lt number (first_number e.0.id)) refl k
        where
          test : (b : Bool) → nat_lt number (first_number e.0.id) ≡ b → IsAmong n (cond b (counter_node e.0.extent ∷ []) []) → IsFault classes nodes n
          test true t (inl same) =
              below_id
              (record {
                key = e.0;
                own = r;
                object = object;
                node = same;
                number = number;
                counts = subst (λ m. Counts (find node_cmp m nodes) number) (sym same) (number_counts (find node_cmp (counter_node e.0.extent) nodes) number g);
                low = ltb-true number (first_number e.0.id) t;
              })
          test true t (inr j) = absurd j
          test false t j = absurd j

      by : (f : Found) → e.1 ≡ f → IsAmong n (of_whole f (λ r. low nodes e.0)) → IsFault classes nodes n
      by (Whole r) g k = counted r (to_object e.0 r (from_finds e is ∙ ap Some g)) (counter_number (find node_cmp (counter_node e.0.extent) nodes)) refl k
      by (Broken d) g k = absurd k

  count_sound : (c : Class) (n : Node) → IsAmong n (count_of classes nodes c) → IsFault classes nodes n
  count_sound c n h = by (is_own_global classes (counter_node c.name).global) refl h
    where
      counted : is_own_global classes (counter_node c.name).global ≡ true → (o : Option ℕ) → counter_number (find node_cmp (counter_node c.name) nodes) ≡ o → IsAmong n (if_none o (counter_node c.name)) → IsFault classes nodes n
      counted own None g (inl same) =
          no_count
          (record {
            extent = c.name;
            real = own_is_extent classes c.name own;
            node = same;
            none = λ number counts. let no : None ≡ Some number = sym g ∙ counts_number (find node_cmp (counter_node c.name) nodes) number (subst (λ m. Counts (find node_cmp m nodes) number) same counts) in cc;
          })
      counted own None g (inr k) = absurd k
      counted own (Some number) g k = absurd k

      by : (b : Bool) → is_own_global classes (counter_node c.name).global ≡ b → IsAmong n (cond b (if_none (counter_number (find node_cmp (counter_node c.name) nodes)) (counter_node c.name)) []) → IsFault classes nodes n
      by true g k = counted g (counter_number (find node_cmp (counter_node c.name) nodes)) refl k
      by false g k = absurd k

  -- ---- each fault is noted

  module _ (l1 l2 l3 l4 l5 l6 l7 : Option Node) (b1 : l1 ≡ note_each broken_of None finds) (b2 : l2 ≡ note_each (lacking_of classes nodes) l1 finds)
      (b3 : l3 ≡ note_pairs (nodes_of_found classes) (seconds_for firsts) l2 finds) (b4 : Notes classes finds (IsSideOfAny classes finds) l3 l4)
      (b5 : l5 ≡ note_strays classes finds l4 nodes (map (λ e. is_marked e.0) nodes)) (b6 : l6 ≡ note_each (low_of nodes) l5 finds) (b7 : l7 ≡ note_each (count_of classes nodes) l6 classes) where
    up7 : (n : Node) → IsUpTo l6 n → IsUpTo l7 n
    up7 n h = subst (λ l. IsUpTo l n) (sym b7) (each_keeps (count_of classes nodes) classes l6 n h)

    up6 : (n : Node) → IsUpTo l5 n → IsUpTo l7 n
    up6 n h = up7 n (subst (λ l. IsUpTo l n) (sym b6) (each_keeps (low_of nodes) finds l5 n h))

    up5 : (n : Node) → IsUpTo l4 n → IsUpTo l7 n
    up5 n h = up6 n (subst (λ l. IsUpTo l n) (sym b5) (strays_keep classes finds is_marked nodes l4 n h))

    up4 : (n : Node) → IsUpTo l3 n → IsUpTo l7 n
    up4 n h = up5 n (b4.keeps n h)

    up3 : (n : Node) → IsUpTo l2 n → IsUpTo l7 n
    up3 n h = up4 n (subst (λ l. IsUpTo l n) (sym b3) (pairs_keep (nodes_of_found classes) (seconds_for firsts) finds l2 n h))

    up2 : (n : Node) → IsUpTo l1 n → IsUpTo l7 n
    up2 n h = up3 n (subst (λ l. IsUpTo l n) (sym b2) (each_keeps (lacking_of classes nodes) finds l1 n h))

    note_broken : (k : Key) (n : Node) → find key_cmp k finds ≡ Some (Broken n) → IsUpTo l7 n
    note_broken k n h = up2 n (subst (λ l. IsUpTo l n) (sym b1) (each_all broken_of finds None (k, Broken n) n (in_finds_at k (Broken n) h) (inl refl)))

    note_lacking : (k : Key) (r : Record) (n : Node) → find key_cmp k finds ≡ Some (Whole r) → IsAmong n (entry_list classes k r) → is_entered (find node_cmp n nodes) ≡ false → IsUpTo l7 n
    note_lacking k r n found h none =
        up3 n (subst (λ l. IsUpTo l n) (sym b2) (each_all (lacking_of classes nodes) finds l1 (k, Whole r) n (in_finds_at k (Whole r) found) (is_lacking nodes (entry_list classes k r) n h none)))

    note_stray : (m n : Node) (v : Value) → find node_cmp m nodes ≡ Some v → stray_of classes finds m (is_marked m) ≡ Some n → IsUpTo l7 n
    note_stray m n v there h = up6 n (subst (λ l. IsUpTo l n) (sym b5) (strays_all classes finds is_marked nodes l4 (m, v) n (in_nodes m v there) h))

    -- an unmarked node of the schema that stands at no row and below none
    stray_is : (n : Node) → is_object_node classes n ≡ true → row_key classes n ≡ None → is_marked n ≡ false → stray_of classes finds n (is_marked n) ≡ of_owner finds n (entry_owner classes n)
    stray_is n own row unmarked =
        ap (λ b. cond b None (stray_at classes finds n)) unmarked ∙ ap (λ b. cond b (of_row classes finds n (row_key classes n)) None) own ∙ ap (of_row classes finds n) row

    stray_noted : (n : Node) → IsStray classes nodes n → IsUpTo l7 n
    stray_noted n f = by (row_key classes n) refl (sym (owner_is classes n) ∙ f.none)
      where
        marks : (b : Bool) → is_marked n ≡ b → b ≡ false
        marks false e = refl
        marks true e =
            let p = marked_object n e in
            let object = to_object p.0 p.1 p.2 in
            let mine = nodes_belong classes p.0 p.1 n (value.Str []) object.real (object_rows classes nodes p.0 p.1 storable are object).0.extent (entry_at p.0 p.1 n p.3) in
            let no : Some p.0 ≡ None = sym mine ∙ f.none in
            cc

        unmarked : is_marked n ≡ false
        unmarked = marks (is_marked n) refl

        entry : row_key classes n ≡ None → (o : Option Key) → entry_owner classes n ≡ o → o ≡ None → IsUpTo l7 n
        entry row (Some k) e h = cc
        entry row None e h = note_stray n n f.value f.stored.there (stray_is n f.stored.own row unmarked ∙ ap (of_owner finds n) e)

        by : (o : Option Key) → row_key classes n ≡ o → or_key o (entry_owner classes n) ≡ None → IsUpTo l7 n
        by (Some k) e h = cc
        by None e h = entry e (entry_owner classes n) refl h

    -- a node of a key that isn't one of the rows of its object
    no_row : (n : Node) (v : Value) (k : Key) (r : Record) → find node_cmp n nodes ≡ Some v → owner classes n ≡ Some k → IsObject classes nodes k r → stands_at classes k n r ≢ Some v → covers (data_node k) n ≡ false
    no_row n v k r there belongs object differs = by (covers (data_node k) n) refl
      where
        by : (b : Bool) → covers (data_node k) n ≡ b → b ≡ false
        by false e = refl
        by true e =
            let rows_are = (object_rows classes nodes k r storable are object).1 in
            let found : find node_cmp n (nodes_of nodes k) ≡ Some v = find_under (data_node k) n nodes ∙ ap (λ b. cond b (find node_cmp n nodes) None) e ∙ there in
            absurd (differs (stands_covered classes k r n e ∙ get-entries (rows classes k r) n ∙ sym (ap (find node_cmp n) rows_are) ∙ found))

    strange_noted : (n : Node) → IsStrange classes nodes n → IsUpTo l7 n
    strange_noted n f = by (row_key classes n) refl
      where
        there : find node_cmp n nodes ≡ Some f.value
        there = f.stored.there

        legal : is_legal_node n ≡ true
        legal = legal_node_found nodes n f.value are there

        found : find key_cmp f.key finds ≡ Some (Whole f.own)
        found = from_object f.key f.own f.object

        apart : covers (data_node f.key) n ≡ false
        apart = no_row n f.value f.key f.own there f.belongs f.object f.differs

        entered : (b : Bool) → is_entered (Some f.value) ≡ b → IsAmong n (entry_list classes f.key f.own) → IsUpTo l7 n
        entered false e h = note_lacking f.key f.own n found h (ap is_entered there ∙ e)
        entered true e h = absurd (f.differs (entry_at f.key f.own n h ∙ ap Some (sym (entered_empty f.value e))))

        marked : row_key classes n ≡ None → (b : Bool) → is_marked n ≡ b → IsUpTo l7 n
        marked row false e =
            note_stray n n f.value there
            (stray_is n f.stored.own row e ∙ ap (of_owner finds n) (sym (owner_of_entry n row) ∙ f.belongs) ∙ ap (of_found n f.key) found)
        marked row true e =
            let p = marked_object n e in
            let object = to_object p.0 p.1 p.2 in
            let mine = nodes_belong classes p.0 p.1 n (value.Str []) object.real (object_rows classes nodes p.0 p.1 storable are object).0.extent (entry_at p.0 p.1 n p.3) in
            let same : Some p.0 ≡ Some f.key = sym mine ∙ f.belongs in
            let key : p.0 ≡ f.key = cc in
            let whole : Some (Whole p.1) ≡ Some (Whole f.own) = sym p.2 ∙ ap (λ j. find key_cmp j finds) key ∙ found in
            let own : p.1 ≡ f.own = cc in
            entered (is_entered (Some f.value)) refl (subst (λ (j : Key). IsAmong n (entry_list classes j f.own)) key (subst (λ (q : Record). IsAmong n (entry_list classes p.0 q)) own p.3))

        by : (o : Option Key) → row_key classes n ≡ o → IsUpTo l7 n
        by None e = marked e (is_marked n) refl
        by (Some j) e =
            let row = row_key_is classes n j legal e in
            let same : Some j ≡ Some f.key = sym (covered_belongs classes j n row.real row.over) ∙ f.belongs in
            let key : j ≡ f.key = cc in
            let no : true ≡ false = sym row.over ∙ ap (λ (i : Key). covers (data_node i) n) key ∙ apart in
            cc

    broken_noted : (n : Node) → IsBroken classes nodes n → IsUpTo l7 n
    broken_noted n f = by (row_key classes f.some_node) refl
      where
        there : find node_cmp f.some_node nodes ≡ Some f.value
        there = f.stored.there

        legal : is_legal_node f.some_node ≡ true
        legal = legal_node_found nodes f.some_node f.value are there

        real : IsKeyOf classes f.key
        real = owner_is_real classes f.some_node f.key legal f.belongs

        marked : find key_cmp f.key finds ≡ None → (b : Bool) → is_marked f.some_node ≡ b → b ≡ false
        marked gone false e = refl
        marked gone true e =
            let p = marked_object f.some_node e in
            let object = to_object p.0 p.1 p.2 in
            let mine = nodes_belong classes p.0 p.1 f.some_node (value.Str []) object.real (object_rows classes nodes p.0 p.1 storable are object).0.extent (entry_at p.0 p.1 f.some_node p.3) in
            let same : Some p.0 ≡ Some f.key = sym mine ∙ f.belongs in
            let key : p.0 ≡ f.key = cc in
            let no : Some (Whole p.1) ≡ None = sym p.2 ∙ ap (λ j. find key_cmp j finds) key ∙ gone in
            cc

        of_find : row_key classes f.some_node ≡ None → (o : Option Found) → find key_cmp f.key finds ≡ o → IsUpTo l7 n
        of_find row (Some (Whole r)) e = let no : Some n ≡ None = sym f.broken ∙ (to_object f.key r e).whole in cc
        of_find row (Some (Broken d)) e = let same : Some d ≡ Some n = sym (broken_damage f.key d e) ∙ f.broken in let one : d ≡ n = cc in subst (IsUpTo l7) one (note_broken f.key d e)
        of_find row None e =
            let row_is : Some (data_node f.key) ≡ Some n = sym (none_is_damaged classes f.key) ∙ ap (damage classes f.key) (sym (no_nodes f.key real e)) ∙ f.broken in
            note_stray f.some_node n f.value there
            (stray_is f.some_node f.stored.own row (marked e (is_marked f.some_node) refl) ∙ ap (of_owner finds f.some_node) (sym (owner_of_entry f.some_node row) ∙ f.belongs) ∙ ap (of_found f.some_node f.key) e ∙ row_is)

        by : (o : Option Key) → row_key classes f.some_node ≡ o → IsUpTo l7 n
        by None e = of_find e (find key_cmp f.key finds) refl
        by (Some j) e =
            let row = row_key_is classes f.some_node j legal e in
            let same : Some j ≡ Some f.key = sym (covered_belongs classes j f.some_node row.real row.over) ∙ f.belongs in
            let key : j ≡ f.key = cc in
            note_broken f.key n (finds_complete classes nodes (f.some_node, f.value) f.key (in_nodes f.some_node f.value there) (e ∙ ap Some key) ∙ ap Some (damage_broken f.key n f.broken))

    missing_noted : (n : Node) → IsMissing classes nodes n → IsUpTo l7 n
    missing_noted n f = by (covers (data_node f.key) n) refl
      where
        by : (b : Bool) → covers (data_node f.key) n ≡ b → IsUpTo l7 n
        by false apart =
            let p = stands_entry classes f.key f.own n f.value (sym (stands_elsewhere classes f.key f.own n apart) ∙ f.stands) in
            note_lacking f.key f.own n (from_object f.key f.own f.object) p.among (ap is_entered f.missing)
        by true over =
            let rows_are = (object_rows classes nodes f.key f.own storable are f.object).1 in
            let no : None ≡ Some f.value =
            sym (find_under (data_node f.key) n nodes ∙ ap (λ b. cond b (find node_cmp n nodes) None) over ∙ f.missing) ∙ ap (find node_cmp n) rows_are ∙ sym (get-entries (rows classes f.key f.own) n)
            ∙ sym (stands_covered classes f.key f.own n over) ∙ f.stands in
            cc

    second_noted : (n : Node) → IsSecond classes nodes n → IsUpTo l7 n
    second_noted n f = by (find node_cmp f.node firsts) refl
      where
        a : HasKeyNode classes nodes f.first f.node
        a = f.first_has

        b : HasKeyNode classes nodes f.second f.node
        b = f.second_has

        a_in : IsElement (f.first, Whole a.own) finds
        a_in = in_finds_at f.first (Whole a.own) (from_object f.first a.own a.object)

        b_in : IsElement (f.second, Whole b.own) finds
        b_in = in_finds_at f.second (Whole b.own) (from_object f.second b.own b.object)

        a_node : IsElement f.node (nodes_of_found classes (f.first, Whole a.own))
        a_node = has_record classes f.first a.own f.node a.has

        b_node : IsElement f.node (nodes_of_found classes (f.second, Whole b.own))
        b_node = has_record classes f.second b.own f.node b.has

        before : id_cmp f.first.id f.second.id ≡ Less
        before = sym (entries_go_by_ids f.node f.first f.second a.object.real.id.0 a.object.real.id.1 b.object.real.id.0 b.object.real.id.1) ∙ f.later

        at_most : IsAtMost (find node_cmp f.node firsts) f.first.id
        at_most = first_is_least classes finds [] (f.first, Whole a.own) f.node a_in a_node

        noted_here : (o : Option (List ℕ)) → find node_cmp f.node firsts ≡ o → is_first o f.second.id ≡ false → IsUpTo l7 n
        noted_here o e apart =
            let among : IsAmong n (second_of firsts f.second f.node) =
            subst (λ q. IsAmong n (cond (is_first q f.second.id) [] (entry_below f.node f.second ∷ []))) (sym e) (subst (λ t. IsAmong n (cond t [] (entry_below f.node f.second ∷ []))) (sym apart) (inl f.entry)) in
            up4 n (subst (λ l. IsUpTo l n) (sym b3) (pairs_all (nodes_of_found classes) (seconds_for firsts) finds l2 (f.second, Whole b.own) f.node n b_in b_node among))

        apart_from : (k : List ℕ) → find node_cmp f.node firsts ≡ Some k → (r : Ordering) → id_cmp k f.second.id ≡ r → is_eq r ≡ false
        apart_from k e Less g = refl
        apart_from k e Greater g = refl
        apart_from k e Equal g =
            let least : id_cmp f.first.id k ≢ Less = subst (λ o. IsAtMost o f.first.id) e at_most in
            let tied : id_cmp k f.first.id ≡ id_cmp f.second.id f.first.id = nat_list_cmp_total.congr k f.second.id f.first.id g in
            let less : id_cmp f.first.id k ≡ Less = nat_list_cmp_total.antisymm f.first.id k ∙ ap ordering_reverse tied ∙ sym (nat_list_cmp_total.antisymm f.first.id f.second.id) ∙ before in
            absurd (least less)

        by : (o : Option (List ℕ)) → find node_cmp f.node firsts ≡ o → IsUpTo l7 n
        by None e = absurd (subst (λ o. IsAtMost o f.first.id) e at_most)
        by (Some k) e = noted_here (Some k) e (apart_from k e (id_cmp k f.second.id) refl)

    side_of : (k : Key) (r : Record) (s : Side) → IsObject classes nodes k r → HasSide s (sides_of classes r) → IsSideOfAny classes finds k s
    side_of k r s o has = ((k, Whole r), in_finds_at k (Whole r) (from_object k r o), record { own = r; whole = refl; key = refl; has = has })

    untargeted_noted : (n : Node) → IsUntargeted classes nodes n → IsUpTo l7 n
    untargeted_noted n f = by (b4.met f.key f.side (side_of f.key f.own f.side f.object f.has))
      where
        same_entry : (m : Node) → IsUnmet classes finds f.key f.side m → m ≡ n
        same_entry m u = let both : Some u.id ≡ Some f.id = sym u.names ∙ f.names in let ids : u.id ≡ f.id = cc in u.entry ∙ ap (entry_of_side f.key f.side.name) ids ∙ sym f.entry

        by : IsMetIn classes finds f.side f.side.target ⊎ ((m : Node) × IsUnmet classes finds f.key f.side m × IsUpTo l4 m) → IsUpTo l7 n
        by (inl met) = absurd (f.unmet (met_to f.side (Some f.id) (subst (IsMetIn classes finds f.side) f.names met)))
        by (inr k) = up5 n (subst (IsUpTo l4) (same_entry k.0 k.1) k.2)

    count_noted : (n : Node) → IsNoCount classes nodes n → IsUpTo l7 n
    count_noted n f = by (root_of classes f.real)
      where
        root_of : (cs : List Class) → list_any (is_root_named (class_names classes) f.extent) cs ≡ true → (c : Class) × IsElement c cs × (c.name.0 ≡ f.extent.0)
        root_of [] h = cc
        root_of (c ∷ cs) h = at (is_root_named (class_names classes) f.extent c) refl h (root_of cs)
          where
            at : (b : Bool) → is_root_named (class_names classes) f.extent c ≡ b → (b || list_any (is_root_named (class_names classes) f.extent) cs) ≡ true
                → (list_any (is_root_named (class_names classes) f.extent) cs ≡ true → (d : Class) × IsElement d cs × (d.name.0 ≡ f.extent.0)) → (d : Class) × IsElement d (c ∷ cs) × (d.name.0 ≡ f.extent.0)
            at true e k more = (c, inl refl, same_text-is c.name.0 f.extent.0 (and_first (Rattle.obj_kinds.specs.Texts.same_text c.name.0 f.extent.0) (Rattle.schema_kinds.specs.Classes.is_root (class_names classes) c) e))
            at false e k more = let p = more k in (p.0, inr p.1, p.2)

        by : (c : Class) × IsElement c classes × (c.name.0 ≡ f.extent.0) → IsUpTo l7 n
        by p =
            let c = p.0 in
            let here : counter_node c.name ≡ n = (λ i. record { global = p.2 i ++ 68 ∷ []; subs = [] }) ∙ sym f.node in
            let own : is_own_global classes (counter_node c.name).global ≡ true = ap (λ (m : Node). is_own_global classes m.global) (here ∙ f.node) ∙ extent_owns_data classes f.extent f.real in
            let none : (o : Option ℕ) → counter_number (find node_cmp (counter_node c.name) nodes) ≡ o → o ≡ None = λ o e. is_none here o e in
            let among : IsAmong n (count_of classes nodes c) =
            subst (λ b. IsAmong n (cond b (if_none (counter_number (find node_cmp (counter_node c.name) nodes)) (counter_node c.name)) [])) (sym own)
            (subst (λ o. IsAmong n (if_none o (counter_node c.name))) (sym (none (counter_number (find node_cmp (counter_node c.name) nodes)) refl)) (inl (sym here))) in
            subst (λ l. IsUpTo l n) (sym b7) (each_all (count_of classes nodes) classes l6 c n p.1 among)
          where
            is_none : {m : Node} → m ≡ n → (o : Option ℕ) → counter_number (find node_cmp m nodes) ≡ o → o ≡ None
            is_none here None e = refl
            is_none {m = m} here (Some number) e = absurd (f.none number (subst (λ k. Counts (find node_cmp k nodes) number) here (number_counts (find node_cmp m nodes) number e)))

    below_noted : (n : Node) → IsBelowId classes nodes n → IsUpTo l7 n
    below_noted n f =
        let number : counter_number (find node_cmp (counter_node f.key.extent) nodes) ≡ Some f.number = ap (λ m. counter_number (find node_cmp m nodes)) (sym f.node) ∙ counts_number (find node_cmp n nodes) f.number f.counts in
        let among : IsAmong n (low nodes f.key) =
        subst (λ o. IsAmong n (if_low o (first_number f.key.id) (counter_node f.key.extent))) (sym number)
        (subst (λ b. IsAmong n (cond b (counter_node f.key.extent ∷ []) [])) (sym (lt-ltb f.number (first_number f.key.id) f.low)) (inl f.node)) in
        up7 n (subst (λ l. IsUpTo l n) (sym b6) (each_all (low_of nodes) finds l5 (f.key, Whole f.own) n (in_finds_at f.key (Whole f.own) (from_object f.key f.own f.object)) among))

    all_noted : (n : Node) → IsFault classes nodes n → IsUpTo l7 n
    all_noted n (stray f) = stray_noted n f
    all_noted n (strange f) = strange_noted n f
    all_noted n (broken f) = broken_noted n f
    all_noted n (missing f) = missing_noted n f
    all_noted n (second f) = second_noted n f
    all_noted n (untargeted f) = untargeted_noted n f
    all_noted n (no_count f) = count_noted n f
    all_noted n (below_id f) = below_noted n f

    -- ---- and nothing else is

    from1 : (n : Node) → l1 ≡ Some n → IsFault classes nodes n
    from1 n h = by (each_from broken_of finds None n (sym b1 ∙ h))
      where
        by : (None ≡ Some n) ⊎ ((e : Key × Found) × IsElement e finds × IsAmong n (broken_of e)) → IsFault classes nodes n
        by (inl k) = cc
        by (inr k) = broken_sound k.0 n k.1 k.2

    from2 : (n : Node) → l2 ≡ Some n → IsFault classes nodes n
    from2 n h = by (each_from (lacking_of classes nodes) finds l1 n (sym b2 ∙ h))
      where
        by : (l1 ≡ Some n) ⊎ ((e : Key × Found) × IsElement e finds × IsAmong n (lacking_of classes nodes e)) → IsFault classes nodes n
        by (inl k) = from1 n k
        by (inr k) = lacking_sound k.0 n k.1 k.2

    from3 : (n : Node) → l3 ≡ Some n → IsFault classes nodes n
    from3 n h = by (pairs_from (nodes_of_found classes) (seconds_for firsts) finds l2 n (sym b3 ∙ h))
      where
        by : (l2 ≡ Some n) ⊎ ((e : Key × Found) × (m : Node) × IsElement e finds × IsElement m (nodes_of_found classes e) × IsAmong n (seconds_for firsts e m)) → IsFault classes nodes n
        by (inl k) = from2 n k
        by (inr k) = second_sound k.0 k.1 n k.2 k.3 k.4

    from4 : (n : Node) → l4 ≡ Some n → IsFault classes nodes n
    from4 n h = by (b4.from n h)
      where
        by : (l3 ≡ Some n) ⊎ ((k : Key) × (s : Side) × IsSideOfAny classes finds k s × IsUnmet classes finds k s n) → IsFault classes nodes n
        by (inl k) = from3 n k
        by (inr k) = unmet_sound k.0 k.1 n k.2 k.3

    from5 : (n : Node) → l5 ≡ Some n → IsFault classes nodes n
    from5 n h = by (strays_from classes finds is_marked nodes l4 n (sym b5 ∙ h))
      where
        by : (l4 ≡ Some n) ⊎ ((e : Node × Value) × IsElement e nodes × (stray_of classes finds e.0 (is_marked e.0) ≡ Some n)) → IsFault classes nodes n
        by (inl k) = from4 n k
        by (inr k) = stray_sound k.0 n k.1 k.2

    from6 : (n : Node) → l6 ≡ Some n → IsFault classes nodes n
    from6 n h = by (each_from (low_of nodes) finds l5 n (sym b6 ∙ h))
      where
        by : (l5 ≡ Some n) ⊎ ((e : Key × Found) × IsElement e finds × IsAmong n (low_of nodes e)) → IsFault classes nodes n
        by (inl k) = from5 n k
        by (inr k) = low_sound k.0 n k.1 k.2

    from7 : (n : Node) → l7 ≡ Some n → IsFault classes nodes n
    from7 n h = by (each_from (count_of classes nodes) classes l6 n (sym b7 ∙ h))
      where
        by : (l6 ≡ Some n) ⊎ ((c : Class) × IsElement c classes × IsAmong n (count_of classes nodes c)) → IsFault classes nodes n
        by (inl k) = from6 n k
        by (inr k) = count_sound k.0 n k.2

    targeted_where : l7 ≡ None → AreTargeted classes nodes
    targeted_where none k r s o has = by (b4.met k s (side_of k r s o has))
      where
        by : IsMetIn classes finds s s.target ⊎ ((m : Node) × IsUnmet classes finds k s m × IsUpTo l4 m) → IsMetBy classes nodes s s.target
        by (inl met) = met_to s s.target met
        by (inr u) = absurd (subst (λ l. IsUpTo l u.0) none (up5 u.0 u.2))

    pub judged : IsJudged classes nodes l7
    judged = by l7 refl
      where
        by : (o : Option Node) → l7 ≡ o → IsJudged classes nodes o
        by None e = record { none = λ n f. subst (λ l. IsUpTo l n) e (all_noted n f); targeted = targeted_where e }
        by (Some m) e = record { fault = from7 m e; least = λ n f. subst (λ l. IsUpTo l n) e (all_noted n f) }

-- the same of what the passes of an audit make
pub judged_by : (classes : List Class) (nodes : Told) (all : Finds) (marks : List Bool) (seen : Firsts) (l1 l2 l3 l4 l5 l6 l7 : Option Node) → AreNodes nodes → all ≡ with_nodes classes nodes [] nodes
    → marks ≡ mark_finds classes nodes (no_marks nodes) all → seen ≡ firsts_of classes [] all → l1 ≡ note_each broken_of None all → l2 ≡ note_each (lacking_of classes nodes) l1 all
    → l3 ≡ note_pairs (nodes_of_found classes) (seconds_for seen) l2 all → Notes classes all (IsSideOfAny classes all) l3 l4 → l5 ≡ note_strays classes all l4 nodes marks
    → l6 ≡ note_each (low_of nodes) l5 all → l7 ≡ note_each (count_of classes nodes) l6 classes → Judges classes nodes l7
judged_by classes nodes all marks seen l1 l2 l3 l4 l5 l6 l7 are is marks_is seen_is b1 b2 b3 b4 b5 b6 b7 =
    let found = with_nodes classes nodes [] nodes in
    let one_seen : seen ≡ firsts_of classes [] found = seen_is ∙ ap (firsts_of classes []) is in
    let one_marks : marks ≡ map (λ e. in_finds classes found e.0) nodes = marks_is ∙ ap (mark_finds classes nodes (no_marks nodes)) is ∙ marks_are classes nodes found in
    record {
      are = are;
      judged = λ storable.
          judged classes nodes storable are l1 l2 l3 l4 l5 l6 l7 (b1 ∙ ap (note_each broken_of None) is) (b2 ∙ ap (note_each (lacking_of classes nodes) l1) is)
          (b3 ∙ (λ i. note_pairs (nodes_of_found classes) (seconds_for (one_seen i)) l2 (is i))) (subst (λ fs. Notes classes fs (IsSideOfAny classes fs) l3 l4) is b4)
          (b5 ∙ (λ i. note_strays classes (is i) l4 nodes (one_marks i))) (b6 ∙ ap (note_each (low_of nodes) l5) is) b7;
    }

-- what is answered then
pub record Answers (classes : List Class) (nodes : Told) (r : Result World FormError) : Type 0 where
  pub world : AreStorable classes → IfOk r (Opening classes (from_sorted nodes))
  pub damaged : AreStorable classes → IfErr r (TellsFault classes nodes)
  pub accepts : (w : World) → AreStorable classes → Opening classes (from_sorted nodes) w → IfErr r TellsMemory

pub answered : (classes : List Class) (nodes : Told) (all : Finds) (fault : Option Node) (r : Result World FormError) → all ≡ with_nodes classes nodes [] nodes → Judges classes nodes fault
    → IfOk r (λ w. (w ≡ from_sorted (wholes all)) × (fault ≡ None)) → IfErr r (TellsNode fault) → Answers classes nodes r
answered classes nodes all fault (Ok w) is j ok err = record {
  world = λ storable.
      subst (Opening classes (from_sorted nodes)) (sym ok.0)
      (is_opening classes nodes (from_sorted (wholes all)) storable j.are (subst (IsJudged classes nodes) ok.1 (j.judged storable))
      (subst (λ fs. IsWorldOf classes nodes (from_sorted (wholes fs))) (sym is) (is_world classes nodes storable j.are)));
  damaged = λ storable. tt;
  accepts = λ v storable opening. tt;
}
answered classes nodes all fault (Err (damaged_form.Damaged n)) is j ok err = record {
  world = λ storable. tt;
  damaged = λ storable. subst (IsJudged classes nodes) err (j.judged storable);
  accepts = λ v storable opening. (is_faultless classes nodes v storable j.are opening).none n (subst (IsJudged classes nodes) err (j.judged storable)).fault;
}
answered classes nodes all fault (Err damaged_form.NoMemory) is j ok err = record { world = λ storable. tt; damaged = λ storable. tt; accepts = λ v storable opening. tt }
