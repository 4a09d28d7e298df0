-- The changes between two records turn the nodes of the one into those of the other, and leave the nodes of all other keys.
use Rattle.std.proofs.Common.{◌≡◌, ◌≢◌, ◌+◌, ℕ, zero, suc, Bool, true, false, cond, not, ◌&&◌, ◌||◌, List, [], ◌∷◌, ◌++◌, map, filter, length, Option, None, Some, is_some, refl, sym, ap, subst, ◌∙◌, arith}
use Rattle.std.specs.List.{list_any}
use Rattle.std.specs.Option.{option_and_then}
use Rattle.std.specs.Ordering.{eq_by_cmp}
use Rattle.std.specs.FinMap.{find, get, empty, entries as listed, contains_key, get-entries, get-from_entries, get-empty}
use Rattle.std.proofs.lemmas.List.{append_assoc, append-nil}
use Rattle.obj_kinds.specs.declared.name.ClassName.{ClassName}
use Rattle.obj_kinds.specs.declared.node.Node.{Node}
use Rattle.obj_kinds.specs.declared.sub.Sub.{Sub}
use Rattle.obj_kinds.specs.declared.sub.Sub.TheVariants.{Str}
use Rattle.obj_kinds.specs.declared.value.Value.{Value}
use Rattle.obj_kinds.specs.Ids.{id_text}
use Rattle.obj_kinds.specs.Subscript.{sub_of}
use Rattle.obj_kinds.specs.Texts.{same_text}
use Rattle.obj_kinds.specs.Order.{text_cmp, sub_cmp, node_cmp, covers, is_front}
use Rattle.obj_kinds.proofs.OrderLemmas.{node_total, sub_exact}
use Rattle.obj_kinds.proofs.TextLaws.{same_text-is, is-same_text, text_tie-is}
use Rattle.global_tree.proofs.MapLaws.{one_key}
use Rattle.schema_kinds.specs.declared.class.Class.{Class}
use Rattle.schema_kinds.specs.declared.key.Key.{Key}
use Rattle.schema_kinds.specs.declared.record.Record.{Record}
use Rattle.schema_kinds.specs.Classes.{class_names, class_of, extent_of}
use Rattle.record_layout.specs.Layout.{layout_of}
use Rattle.record_layout.specs.Rows.{Globals, data_node, below, marker, nodes_below, row_list, rows}
use Rattle.storage_map.specs.Changes.{same_there, stale, differing, or_set, edited, rows_if, entries_if, AreChanges, NoneBelow}
use Rattle.storage_map.specs.declared.edits.Edits.{Edits}
use Rattle.storage_map.specs.Entries.{key_node, entry_node, entries}
use Rattle.storage_map.specs.Worlds.{first_sub, last_sub, extent_with, key_at, or_key, entry_key, has_entries, extent_has, owner, or_value, stands_at, IsKeyOf}
use Rattle.storage_map.proofs.OrderedLaws.{none_listed}
use Rattle.storage_map.proofs.OwnerLaws.{rows_belong}
use Rattle.storage_map.proofs.ApartLaws.{none_kept, none_below_rows}
use Rattle.storage_map.proofs.ChangeLaws.{NodePairs, changes_turn}
use Rattle.world_images.specs.Images.{AreEven, IsEvenExtent, stands_if, IsOfClass, changed, IsTurned}
use Rattle.world_images.proofs.EntryLaws.{and_first, and_second, last_letter, other_letter, index_extent, IsEntry, entry_there, entry_owner, extent_entry}
use Rattle.world_images.proofs.ImageLaws.{row_way, row_belongs, none_below_entries}

abbrev has : Node → NodePairs → Bool
has n es = is_some (find node_cmp n es)

some_of : {A : Type 0} (o : Option A) → is_some o ≡ true → (a : A) × (o ≡ Some a)
some_of None h = cc
some_of (Some a) h = (a, refl)

-- TWO LISTS OF KILLS AND OF SETS

find_append : (n : Node) (xs ys : NodePairs) → find node_cmp n (xs ++ ys) ≡ or_set (find node_cmp n xs) (find node_cmp n ys)
find_append n [] ys = refl
find_append n (x ∷ xs) ys = by (eq_by_cmp node_cmp n x.0) (find_append n xs ys)
  where
    by : (b : Bool) → find node_cmp n (xs ++ ys) ≡ or_set (find node_cmp n xs) (find node_cmp n ys) → cond b (Some x.1) (find node_cmp n (xs ++ ys)) ≡ or_set (cond b (Some x.1) (find node_cmp n xs)) (find node_cmp n ys)
    by true h = refl
    by false h = h

any_append : (p : Node → Bool) (xs ys : List Node) → list_any p (xs ++ ys) ≡ (list_any p xs || list_any p ys)
any_append p [] ys = refl
any_append p (x ∷ xs) ys = by (p x) (any_append p xs ys)
  where
    by : (b : Bool) → list_any p (xs ++ ys) ≡ (list_any p xs || list_any p ys) → (b || list_any p (xs ++ ys)) ≡ ((b || list_any p xs) || list_any p ys)
    by true h = refl
    by false h = h

none_left : (n : Node) (p : Node × Value → Bool) (es : NodePairs) → find node_cmp n es ≡ None → find node_cmp n (filter p es) ≡ None
none_left n p [] h = refl
none_left n p (e ∷ es) h = by (eq_by_cmp node_cmp n e.0) refl h (p e) (none_left n p es)
  where
    by : (b : Bool) → eq_by_cmp node_cmp n e.0 ≡ b → cond b (Some e.1) (find node_cmp n es) ≡ None → (c : Bool) → (find node_cmp n es ≡ None → find node_cmp n (filter p es) ≡ None) → find node_cmp n (cond c (e ∷ filter p es) (filter p es)) ≡ None
    by true t k c more = cc
    by false t k true more = ap (λ b. cond b (Some e.1) (find node_cmp n (filter p es))) t ∙ more k
    by false t k false more = more k

pub none_set : (old new : Globals) (n : Node) → get new n ≡ None → find node_cmp n (differing (listed old) (listed new)) ≡ None
unfolding differing
none_set old new n h = none_left n (λ e. not (same_there (find node_cmp e.0 (listed old)) e.1)) (listed new) (sym (get-entries new n) ∙ h)

pub none_killed : (old new : Globals) (n : Node) → ((m : Node) (v : Value) → get old m ≡ Some v → covers m n ≡ false) → list_any (λ k. covers k n) (stale (listed old) (listed new)) ≡ false
unfolding stale
none_killed old new n apart =
    none_kept n (λ m. not (is_some (find node_cmp m (listed new)))) (listed old) (listed old) (λ m was gone. let v = some_of (find node_cmp m (listed old)) was in apart m v.0 (get-entries old m ∙ v.1)) (λ m h. h)

module _ (R S E F g : Globals) (n : Node) where
  abbrev all_kills : List Node
  all_kills = stale (listed E) (listed F) ++ stale (listed R) (listed S)

  abbrev all_sets : NodePairs
  all_sets = differing (listed R) (listed S) ++ differing (listed E) (listed F)

  abbrev killed : Globals → Globals → Bool
  killed old new = list_any (λ k. covers k n) (stale (listed old) (listed new))

  abbrev set : Globals → Globals → Option Value
  set old new = find node_cmp n (differing (listed old) (listed new))

  parted : edited all_kills all_sets g n ≡ or_set (or_set (set R S) (set E F)) (cond (killed E F || killed R S) None (get g n))
  parted =
      ap (λ o. or_set o (cond (list_any (λ k. covers k n) all_kills) None (get g n))) (find_append n (differing (listed R) (listed S)) (differing (listed E) (listed F)))
      ∙ ap (λ b. or_set (or_set (set R S) (set E F)) (cond b None (get g n))) (any_append (λ k. covers k n) (stale (listed E) (listed F)) (stale (listed R) (listed S)))

  nothing_behind : (o : Option Value) → or_set o None ≡ o
  nothing_behind None = refl
  nothing_behind (Some v) = refl

  -- where the second maps have nothing to say
  pub by_first : get F n ≡ None → killed E F ≡ false → NoneBelow R S → get g n ≡ get R n → edited all_kills all_sets g n ≡ get S n
  by_first none apart free same =
      parted ∙ ap (λ o. or_set (or_set (set R S) o) (cond (killed E F || killed R S) None (get g n))) (none_set E F n none)
      ∙ ap (λ o. or_set o (cond (killed E F || killed R S) None (get g n))) (nothing_behind (set R S))
      ∙ ap (λ b. or_set (set R S) (cond (b || killed R S) None (get g n))) apart
      ∙ ap (λ o. or_set (set R S) (cond (killed R S) None o)) same
      ∙ changes_turn R S n free

  or_false : (b : Bool) → (b || false) ≡ b
  or_false true = refl
  or_false false = refl

  -- where the first maps have nothing to say
  pub by_second : get S n ≡ None → killed R S ≡ false → NoneBelow E F → get g n ≡ get E n → edited all_kills all_sets g n ≡ get F n
  by_second none apart free same =
      parted ∙ ap (λ o. or_set (or_set o (set E F)) (cond (killed E F || killed R S) None (get g n))) (none_set R S n none)
      ∙ ap (λ b. or_set (set E F) (cond (killed E F || b) None (get g n))) apart
      ∙ ap (λ b. or_set (set E F) (cond b None (get g n))) (or_false (killed E F))
      ∙ ap (λ o. or_set (set E F) (cond (killed E F) None o)) same
      ∙ changes_turn E F n free

  -- where none has
  pub by_none : get S n ≡ None → killed R S ≡ false → get F n ≡ None → killed E F ≡ false → edited all_kills all_sets g n ≡ get g n
  by_none no_row rows_apart no_entry entries_apart =
      parted ∙ ap (λ o. or_set (or_set o (set E F)) (cond (killed E F || killed R S) None (get g n))) (none_set R S n no_row)
      ∙ ap (λ o. or_set o (cond (killed E F || killed R S) None (get g n))) (none_set E F n no_entry)
      ∙ ap (λ b. cond (b || killed R S) None (get g n)) entries_apart ∙ ap (λ b. cond b None (get g n)) rows_apart

-- WHAT A NODE COVERS

pub front_is : (front way : List Sub) → is_front front way ≡ true → (rest : List Sub) × (way ≡ front ++ rest)
front_is [] way h = (way, refl)
front_is (x ∷ front) [] h = cc
front_is (x ∷ front) (y ∷ way) h =
    let head : y ≡ x = sym (one_key sub_exact x y (and_first (eq_by_cmp sub_cmp x y) (is_front front way) h)) in
    let more = front_is front way (and_second (eq_by_cmp sub_cmp x y) (is_front front way) h) in
    (more.0, λ i. head i ∷ more.1 i)

pub covers_is : (m n : Node) → covers m n ≡ true → (rest : List Sub) × (n ≡ below m rest)
unfolding covers
covers_is m n h =
    let g : n.global ≡ m.global = sym (one_key (λ x y t. text_tie-is x y t) m.global n.global (and_first (eq_by_cmp text_cmp m.global n.global) (is_front m.subs n.subs) h)) in
    let s = front_is m.subs n.subs (and_second (eq_by_cmp text_cmp m.global n.global) (is_front m.subs n.subs) h) in
    (s.0, λ i. record { global = g i; subs = s.1 i })

pub row_global : (key : Key) (way : List Sub) → (below (data_node key) way).global ≡ key.extent.0 ++ 68 ∷ []
unfolding data_node
row_global key way = refl

pub entry_global : (key : Key) (name : List ℕ) (values : List Sub) → (entry_node key name values).global ≡ key.extent.0 ++ 73 ∷ []
unfolding entry_node key_node
entry_global key name values = refl

pub entry_subs : (key : Key) (name : List ℕ) (values : List Sub) → (entry_node key name values).subs ≡ Str name ∷ values ++ sub_of (id_text key.id) ∷ []
unfolding entry_node key_node
entry_subs key name values = refl

pub one_key_of : (a b : Key) → Some a ≡ Some b → a ≡ b
one_key_of a b e = cc

-- a node of another letter
pub two_letters : (extent : List ℕ) → extent ++ 68 ∷ [] ≡ extent ++ 73 ∷ [] → ⊥
two_letters extent e = let letter : 68 ≡ 73 = last_letter extent extent 68 73 e in omega (arith, letter)

needed : (b : Bool) (o : Option Key) (k : Key) → cond b o None ≡ Some k → b ≡ true
needed true o k e = refl
needed false o k e = cc

longer : (xs : List Sub) (id : Sub) (rest : List Sub) → length (xs ++ id ∷ rest) ≡ suc (length xs + length rest)
longer [] id rest = omega arith
longer (x ∷ xs) id rest = let h = longer xs id rest in omega (arith, h)

pub key_needs : (classes : List Class) (name : List ℕ) (id : Sub) (values rest : List Sub) (extent : ClassName) (k : Key) → entry_key classes (Str name ∷ values ++ id ∷ rest) extent ≡ Some k → extent_has classes extent name (length values + length rest) ≡ true
key_needs classes name id [] rest extent k h =
    ap (extent_has classes extent name) (let e : 0 + length rest ≡ length rest = omega arith in e) ∙ needed (extent_has classes extent name (length rest)) (key_at classes (last_sub (id ∷ rest)) extent) k h
key_needs classes name id (v ∷ vs) rest extent k h =
    ap (extent_has classes extent name) (let l = longer vs id rest in let e : suc (length vs) + length rest ≡ length (vs ++ id ∷ rest) = omega (arith, l) in e)
    ∙ needed (extent_has classes extent name (length (vs ++ id ∷ rest))) (key_at classes (last_sub (v ∷ vs ++ id ∷ rest)) extent) k h

row_found : (classes : List Class) (key : Key) (r : Record) (m : Node) (v : Value) → get (rows classes key r) m ≡ Some v → (way : List Sub) × (m ≡ below (data_node key) way)
unfolding rows row_list
row_found classes key r m v h =
    let ways = nodes_below (layout_of classes r.class) (marker key.extent r.class) r.fields in
    row_way (data_node key) ways m v (sym (get-from_entries node_total (map (λ e. (below (data_node key) e.0, e.1)) ways) m) ∙ h)

nothing_stale : (new : Globals) (n : Node) → list_any (λ k. covers k n) (stale (listed (empty {K = Node} {X = Value} {R = node_cmp})) (listed new)) ≡ false
unfolding stale
nothing_stale new n = ap (λ (es : NodePairs). list_any (λ k. covers k n) (map (λ e. e.0) (filter (λ e. not (is_some (find node_cmp e.0 (listed new)))) es))) (sym none_listed)

-- ONE OBJECT AMONG OTHERS

module _ (classes : List Class) (key : Key) (class : ClassName) (real : IsKeyOf classes key) (in' : extent_of classes class ≡ Some key.extent) (even : IsEvenExtent classes key.extent) where
  even_of : (o : Option Class) → class_of classes class ≡ o → AreEven o
  even_of None e = tt
  even_of (Some c) e = λ name m n first second. even name m n (extent_entry classes key.extent class c name m e in' first) (extent_entry classes key.extent class c name n e in' second)

  -- ROWS

  pub row_there : (o : Option Record) (m : Node) (v : Value) → get (rows_if classes key o) m ≡ Some v → (way : List Sub) × (m ≡ below (data_node key) way)
  row_there None m v h = let no : None ≡ Some v = sym (get-empty node_cmp m) ∙ h in cc
  row_there (Some r) m v h = row_found classes key r m v h

  free_rows : (old new : Option Record) → IsOfClass class old → IsOfClass class new → NoneBelow (rows_if classes key old) (rows_if classes key new)
  free_rows None new a b n there = nothing_stale (rows_if classes key new) n
  free_rows (Some r) None a b n there = let no : false ≡ true = ap is_some (sym (get-empty node_cmp n)) ∙ there in cc
  free_rows (Some r) (Some q) a b n there = none_below_rows classes key r q (a ∙ sym b) n there

  -- ENTRIES

  pub entry_of : (o : Option Record) (m : Node) (v : Value) → IsOfClass class o → get (entries_if classes key o) m ≡ Some v → (c : Class) × (class_of classes class ≡ Some c) × IsEntry key c m
  entry_of None m v a h = let no : None ≡ Some v = sym (get-empty node_cmp m) ∙ h in cc
  entry_of (Some r) m v a h = let p = entry_there classes key r m v h in (p.0, ap (class_of classes) (sym a) ∙ p.1, p.2)

  free_entries : (old new : Option Record) → IsOfClass class old → IsOfClass class new → NoneBelow (entries_if classes key old) (entries_if classes key new)
  free_entries None new a b n there = nothing_stale (entries_if classes key new) n
  free_entries (Some r) None a b n there = let no : false ≡ true = ap is_some (sym (get-empty node_cmp n)) ∙ there in cc
  free_entries (Some r) (Some q) a b n there = none_below_entries classes key r q (a ∙ sym b) (subst (λ (c : ClassName). AreEven (class_of classes c)) (sym b) (even_of (class_of classes class) refl)) n there

  stands : (n : Node) (o : Option Record) → stands_if classes key n o ≡ or_value (get (rows_if classes key o) n) (get (entries_if classes key o) n)
  unfolding stands_at
  stands n None = sym (ap (λ o. or_value o (get (entries_if classes key None) n)) (get-empty node_cmp n) ∙ get-empty node_cmp n)
  stands n (Some r) = refl

  -- A NODE OF THE DATA GLOBAL

  module _ (n : Node) (in_data : n.global ≡ key.extent.0 ++ 68 ∷ []) where
    no_entry_global : (c : Class) → IsEntry key c n → ⊥
    no_entry_global c p = two_letters key.extent.0 (sym in_data ∙ ap (λ (k : Node). k.global) p.node ∙ entry_global key p.name p.values)

    no_entry : (o : Option Record) → IsOfClass class o → get (entries_if classes key o) n ≡ None
    no_entry o a = by (get (entries_if classes key o) n) refl
      where
        by : (w : Option Value) → get (entries_if classes key o) n ≡ w → w ≡ None
        by None e = refl
        by (Some v) e = let p = entry_of o n v a e in absurd (no_entry_global p.0 p.2)

    entry_apart : (o : Option Record) → IsOfClass class o → (m : Node) (v : Value) → get (entries_if classes key o) m ≡ Some v → covers m n ≡ false
    entry_apart o a m v h = by (covers m n) refl
      where
        by : (b : Bool) → covers m n ≡ b → b ≡ false
        by false e = refl
        by true e =
            let p = entry_of o m v a h in
            let q = covers_is m n e in
            absurd (two_letters key.extent.0 (sym in_data ∙ ap (λ (k : Node). k.global) q.1 ∙ ap (λ (k : Node). k.global) p.2.node ∙ entry_global key p.2.name p.2.values))

  -- ANY OTHER

  module _ (n : Node) (other : n.global ≡ key.extent.0 ++ 68 ∷ [] → ⊥) where
    no_row : (o : Option Record) → get (rows_if classes key o) n ≡ None
    no_row o = by (get (rows_if classes key o) n) refl
      where
        by : (w : Option Value) → get (rows_if classes key o) n ≡ w → w ≡ None
        by None e = refl
        by (Some v) e = let p = row_there o n v e in absurd (other (ap (λ (k : Node). k.global) p.1 ∙ row_global key p.0))

    row_apart : (o : Option Record) (m : Node) (v : Value) → get (rows_if classes key o) m ≡ Some v → covers m n ≡ false
    row_apart o m v h = by (covers m n) refl
      where
        by : (b : Bool) → covers m n ≡ b → b ≡ false
        by false e = refl
        by true e =
            let p = row_there o m v h in
            let q = covers_is m n e in
            absurd (other (ap (λ (k : Node). k.global) q.1 ∙ ap (λ (k : Node). k.global) p.1 ∙ row_global key p.0))

  -- A NODE OF ANOTHER KEY

  module _ (n : Node) (k : Key) (owned : owner classes n ≡ Some k) (apart : k ≢ key) where
    not_mine : owner classes n ≡ Some key → ⊥
    not_mine e = apart (one_key_of k key (sym owned ∙ e))

    pub their_row : (o : Option Record) → get (rows_if classes key o) n ≡ None
    their_row o = by (get (rows_if classes key o) n) refl
      where
        by : (w : Option Value) → get (rows_if classes key o) n ≡ w → w ≡ None
        by None e = refl
        by (Some v) e = let p = row_there o n v e in absurd (not_mine (ap (owner classes) p.1 ∙ rows_belong classes key p.0 real))

    pub their_row_apart : (o : Option Record) (m : Node) (v : Value) → get (rows_if classes key o) m ≡ Some v → covers m n ≡ false
    their_row_apart o m v h = by (covers m n) refl
      where
        by : (b : Bool) → covers m n ≡ b → b ≡ false
        by false e = refl
        by true e =
            let p = row_there o m v h in
            let q = covers_is m n e in
            let way : n ≡ below (data_node key) (p.0 ++ q.0) = q.1 ∙ ap (λ (m' : Node). below m' q.0) p.1 ∙ (λ i. record { global = (data_node key).global; subs = append_assoc (data_node key).subs p.0 q.0 i }) in
            absurd (not_mine (ap (owner classes) way ∙ rows_belong classes key (p.0 ++ q.0) real))

    pub entry_owned : (c : Class) → class_of classes class ≡ Some c → (m : Node) → IsEntry key c m → owner classes m ≡ Some key
    entry_owned c is m p = ap (owner classes) p.node ∙ entry_owner classes key p.name p.values real (extent_entry classes key.extent class c p.name (length p.values) is in' p.has)

    pub their_entry : (o : Option Record) → IsOfClass class o → get (entries_if classes key o) n ≡ None
    their_entry o a = by (get (entries_if classes key o) n) refl
      where
        by : (w : Option Value) → get (entries_if classes key o) n ≡ w → w ≡ None
        by None e = refl
        by (Some v) e = let p = entry_of o n v a e in absurd (not_mine (entry_owned p.0 p.1 n p.2))

    -- below an entry stands nothing of another key
    pub entry_end : (c : Class) → class_of classes class ≡ Some c → (m : Node) → IsEntry key c m → (rest : List Sub) → n ≡ below m rest → ⊥
    unfolding owner
    entry_end c is m p rest at = by rest (even p.name (length p.values) (length p.values + length rest) (extent_entry classes key.extent class c p.name (length p.values) is in' p.has) used) at
      where
        whole : n ≡ record { global = key.extent.0 ++ 73 ∷ []; subs = Str p.name ∷ p.values ++ sub_of (id_text key.id) ∷ rest }
        whole =
            at ∙ ap (λ (k' : Node). below k' rest) p.node
            ∙ (λ i. record { global = entry_global key p.name p.values i; subs = (ap (λ l. l ++ rest) (entry_subs key p.name p.values) ∙ ap (λ l. Str p.name ∷ l) (append_assoc p.values (sub_of (id_text key.id) ∷ []) rest)) i })

        told : entry_key classes (Str p.name ∷ p.values ++ sub_of (id_text key.id) ∷ rest) key.extent ≡ Some k
        told =
            sym (
            ap (λ o. or_key (option_and_then (key_at classes (first_sub (Str p.name ∷ p.values ++ sub_of (id_text key.id) ∷ rest))) o) (option_and_then (entry_key classes (Str p.name ∷ p.values ++ sub_of (id_text key.id) ∷ rest)) (extent_with (class_names classes) 73 (key.extent.0 ++ 73 ∷ []) classes))) (other_letter (class_names classes) key.extent.0 classes)
            ∙ ap (option_and_then (entry_key classes (Str p.name ∷ p.values ++ sub_of (id_text key.id) ∷ rest))) (index_extent (class_names classes) key.extent classes real.extent)
            ) ∙ ap (owner classes) (sym whole) ∙ owned

        used : extent_has classes key.extent p.name (length p.values + length rest) ≡ true
        used = key_needs classes p.name (sub_of (id_text key.id)) p.values rest key.extent k told

        by : (more : List Sub) → length p.values ≡ length p.values + length more → n ≡ below m more → ⊥
        by [] e here = not_mine (ap (owner classes) (here ∙ (λ i. record { global = m.global; subs = append-nil m.subs i })) ∙ entry_owned c is m p)
        by (s ∷ ss) e here = omega (arith, e)

    pub their_entry_apart : (o : Option Record) → IsOfClass class o → (m : Node) (v : Value) → get (entries_if classes key o) m ≡ Some v → covers m n ≡ false
    their_entry_apart o a m v h = by (covers m n) refl
      where
        by : (b : Bool) → covers m n ≡ b → b ≡ false
        by false e = refl
        by true e = let p = entry_of o m v a h in let q = covers_is m n e in absurd (entry_end p.0 p.1 m p.2 q.0 q.1)

  -- WHAT THE CHANGES DO

  pub nodes_turn : (old new : Option Record) (e : Edits) (g : Globals) (n : Node) → IsOfClass class old → IsOfClass class new → AreChanges classes key old new e → IsTurned classes key old new e g n
  nodes_turn old new e g n a b are = record { own = λ mine was. whole ∙ at (same_text n.global (key.extent.0 ++ 68 ∷ [])) refl was; others = λ k owned apart. whole ∙ left k owned apart }
    where
      whole : changed e g n ≡ edited (all_kills (rows_if classes key old) (rows_if classes key new) (entries_if classes key old) (entries_if classes key new) g n) (all_sets (rows_if classes key old) (rows_if classes key new) (entries_if classes key old) (entries_if classes key new) g n) g n
      whole = λ i. edited (are.entry_kills i ++ are.row_kills i) (are.row_sets i ++ are.entry_sets i) g n

      first_only : (o p : Option Value) → p ≡ None → or_value o p ≡ o
      first_only None p h = h
      first_only (Some v) p h = refl

      at : (t : Bool) → same_text n.global (key.extent.0 ++ 68 ∷ []) ≡ t → get g n ≡ stands_if classes key n old
          → edited (all_kills (rows_if classes key old) (rows_if classes key new) (entries_if classes key old) (entries_if classes key new) g n) (all_sets (rows_if classes key old) (rows_if classes key new) (entries_if classes key old) (entries_if classes key new) g n) g n ≡ stands_if classes key n new
      at true t was =
          let in_data = same_text-is n.global (key.extent.0 ++ 68 ∷ []) t in
          by_first (rows_if classes key old) (rows_if classes key new) (entries_if classes key old) (entries_if classes key new) g n (no_entry n in_data new b)
          (none_killed (entries_if classes key old) (entries_if classes key new) n (entry_apart n in_data old a)) (free_rows old new a b)
          (was ∙ stands n old ∙ first_only (get (rows_if classes key old) n) (get (entries_if classes key old) n) (no_entry n in_data old a))
          ∙ sym (stands n new ∙ first_only (get (rows_if classes key new) n) (get (entries_if classes key new) n) (no_entry n in_data new b))
      at false t was =
          let other : n.global ≡ key.extent.0 ++ 68 ∷ [] → ⊥ = λ d. let is : same_text n.global (key.extent.0 ++ 68 ∷ []) ≡ true = is-same_text n.global (key.extent.0 ++ 68 ∷ []) d in cc in
          by_second (rows_if classes key old) (rows_if classes key new) (entries_if classes key old) (entries_if classes key new) g n (no_row n other new)
          (none_killed (rows_if classes key old) (rows_if classes key new) n (row_apart n other old)) (free_entries old new a b)
          (was ∙ stands n old ∙ ap (λ o. or_value o (get (entries_if classes key old) n)) (no_row n other old))
          ∙ sym (stands n new ∙ ap (λ o. or_value o (get (entries_if classes key new) n)) (no_row n other new))

      left : (k : Key) → owner classes n ≡ Some k → k ≢ key → edited (all_kills (rows_if classes key old) (rows_if classes key new) (entries_if classes key old) (entries_if classes key new) g n) (all_sets (rows_if classes key old) (rows_if classes key new) (entries_if classes key old) (entries_if classes key new) g n) g n ≡ get g n
      left k owned apart =
          by_none (rows_if classes key old) (rows_if classes key new) (entries_if classes key old) (entries_if classes key new) g n (their_row n k owned apart new)
          (none_killed (rows_if classes key old) (rows_if classes key new) n (their_row_apart n k owned apart old)) (their_entry n k owned apart new b)
          (none_killed (entries_if classes key old) (entries_if classes key new) n (their_entry_apart n k owned apart old a))
