-- Which nodes belong to a key: those at or below its row, and entries.
use Rattle.std.proofs.Common.{◌≡◌, ◌≢◌, ◌<◌, ◌^◌, ◌+◌, ◌-◌, ◌⊎◌, inl, inr, ℕ, zero, suc, pos, negsuc, ℤ, Bool, true, false, cond, ◌&&◌, ◌||◌, nat_eq, List, [], ◌∷◌, ◌++◌, map, length, take, drop, Option, None, Some, is_none, refl, sym, ap, subst, ◌∙◌, arith}
use Rattle.std.specs.List.{list_any, list_all}
use Rattle.std.specs.Option.{option_and_then}
use Rattle.std.specs.Ordering.{eq_by_cmp}
use Rattle.std.specs.Fmt.{decimal}
use Rattle.std.specs.FinMap.{find, get, get-entries, get-from_entries}
use Rattle.std.proofs.lemmas.Bool.{eqb-true, ltb-true}
use Rattle.std.proofs.lemmas.List.{append_cancel_right}
use Rattle.obj_kinds.specs.declared.name.ClassName.{ClassName}
use Rattle.obj_kinds.specs.declared.node.Node.{Node}
use Rattle.obj_kinds.specs.declared.sub.Sub.{Sub}
use Rattle.obj_kinds.specs.declared.sub.Sub.TheVariants.{Num, Str}
use Rattle.obj_kinds.specs.declared.value.Value.{Value}
use Rattle.obj_kinds.specs.Ids.{IsId, id_text}
use Rattle.obj_kinds.specs.IdReading.{before_bar, positive, with_rest, part_in, after_bars, ended, ended_or, third, second, id_in}
use Rattle.obj_kinds.specs.Subscript.{sub_of, sub_by, whole_of}
use Rattle.obj_kinds.specs.Limits.{is_sub_text, is_legal_sub, is_legal_node}
use Rattle.obj_kinds.specs.Texts.{same_text}
use Rattle.obj_kinds.specs.Order.{text_cmp, sub_cmp, covers, is_front}
use Rattle.obj_kinds.specs.OrderLaws.{node_total, sub_exact}
use Rattle.obj_kinds.proofs.LineLaws.{front_itself}
use Rattle.obj_kinds.proofs.Numbers.{whole_of-printed}
use Rattle.obj_kinds.proofs.TextLaws.{same_text-is, is-same_text, text_tie-is, text_ties-itself}
use Rattle.global_tree.proofs.MapLaws.{one_key}
use Rattle.schema_kinds.specs.declared.class.Class.{Class}
use Rattle.schema_kinds.specs.declared.key.Key.{Key}
use Rattle.schema_kinds.specs.declared.record.Record.{Record}
use Rattle.schema_kinds.specs.Classes.{class_names, is_with, is_root, is_global_of, is_own_global}
use Rattle.record_layout.specs.Shapes.{id_length}
use Rattle.record_layout.specs.Layout.{layout_of}
use Rattle.record_layout.specs.Rows.{data_node, below, marker, nodes_below, row_list, rows}
use Rattle.storage_map.specs.Entries.{key_node, entry_node, entries}
use Rattle.storage_map.specs.Worlds.{id_of_sub, first_sub, last_sub, extent_with, extent_has, entry_key, key_with, key_at, or_key, or_value, owner, stands_at, is_root_named, IsKeyOf}
use Rattle.storage_map.proofs.OwnerLaws.{rows_belong}
use Rattle.world_images.proofs.EntryLaws.{and_first, and_second, last_letter, entry_there}
use Rattle.world_images.proofs.ImageLaws.{row_way}
use Rattle.world_audit.specs.Openings.{is_object_node}
use Rattle.world_audit.specs.Owners.{single_key, row_key, entry_owner}

pub and_both : (a b : Bool) → a ≡ true → b ≡ true → (a && b) ≡ true
and_both true b h k = k
and_both false b h k = cc

or_left : (a b : Bool) → a ≡ true → (a || b) ≡ true
or_left true b h = refl
or_left false b h = cc

or_right : (a b : Bool) → b ≡ true → (a || b) ≡ true
or_right true b h = refl
or_right false b h = h

pub any_more : {A : Type 0} (p q : A → Bool) → ((x : A) → p x ≡ true → q x ≡ true) → (xs : List A) → list_any p xs ≡ true → list_any q xs ≡ true
any_more p q more [] h = cc
any_more p q more (x ∷ xs) h = by (p x) refl h (any_more p q more xs)
  where
    by : (b : Bool) → p x ≡ b → (b || list_any p xs) ≡ true → (list_any p xs ≡ true → list_any q xs ≡ true) → (q x || list_any q xs) ≡ true
    by true e k rest = or_left (q x) (list_any q xs) (more x e)
    by false e k rest = or_right (q x) (list_any q xs) (rest k)

-- ---- nodes at or below a row

front_is : (front way : List Sub) → is_front front way ≡ true → (rest : List Sub) × (way ≡ front ++ rest)
front_is [] way h = (way, refl)
front_is (x ∷ front) [] h = cc
front_is (x ∷ front) (y ∷ way) h =
    let head : y ≡ x = sym (one_key sub_exact x y (and_first (eq_by_cmp sub_cmp x y) (is_front front way) h)) in
    let more = front_is front way (and_second (eq_by_cmp sub_cmp x y) (is_front front way) h) in
    (more.0, λ i. head i ∷ more.1 i)

pub covers_is : (m n : Node) → covers m n ≡ true → (rest : List Sub) × (n ≡ below m rest)
unfolding covers
covers_is m n h =
    let g : n.global ≡ m.global = sym (one_key (λ x y t. text_tie-is x y t) m.global n.global (and_first (eq_by_cmp text_cmp m.global n.global) (is_front m.subs n.subs) h)) in
    let s = front_is m.subs n.subs (and_second (eq_by_cmp text_cmp m.global n.global) (is_front m.subs n.subs) h) in
    (s.0, λ i. record { global = g i; subs = s.1 i })

front_of : (front rest : List Sub) → is_front front (front ++ rest) ≡ true
front_of [] rest = refl
front_of (x ∷ front) rest = and_both (eq_by_cmp sub_cmp x x) (is_front front (front ++ rest)) (and_first (eq_by_cmp sub_cmp x x) (is_front front front) (front_itself (x ∷ front))) (front_of front rest)

pub covers_below : (m : Node) (rest : List Sub) → covers m (below m rest) ≡ true
unfolding covers
covers_below m rest = and_both (eq_by_cmp text_cmp m.global m.global) (is_front m.subs (m.subs ++ rest)) (ap Rattle.std.specs.Ordering.is_eq (text_ties-itself m.global)) (front_of m.subs rest)

pub row_global : (key : Key) (way : List Sub) → (below (data_node key) way).global ≡ key.extent.0 ++ 68 ∷ []
unfolding data_node
row_global key way = refl

pub entry_global : (key : Key) (name : List ℕ) (values : List Sub) → (entry_node key name values).global ≡ key.extent.0 ++ 73 ∷ []
unfolding entry_node key_node
entry_global key name values = refl

pub covered_belongs : (classes : List Class) (key : Key) (n : Node) → IsKeyOf classes key → covers (data_node key) n ≡ true → owner classes n ≡ Some key
covered_belongs classes key n real h = let p = covers_is (data_node key) n h in ap (owner classes) p.1 ∙ rows_belong classes key p.0 real

own_data : (names : List (List ℕ)) (extent : ClassName) (c : Class) → is_root_named names extent c ≡ true → is_global_of names (extent.0 ++ 68 ∷ []) c ≡ true
own_data names extent c h =
    let name : c.name.0 ≡ extent.0 = same_text-is c.name.0 extent.0 (and_first (same_text c.name.0 extent.0) (is_root names c) h) in
    let global : is_with (extent.0 ++ 68 ∷ []) c.name.0 68 ≡ true = is-same_text (extent.0 ++ 68 ∷ []) (c.name.0 ++ 68 ∷ []) (ap (λ t. t ++ 68 ∷ []) (sym name)) in
    and_both (is_with (extent.0 ++ 68 ∷ []) c.name.0 68 || is_with (extent.0 ++ 68 ∷ []) c.name.0 73) (is_root names c)
    (or_left (is_with (extent.0 ++ 68 ∷ []) c.name.0 68) (is_with (extent.0 ++ 68 ∷ []) c.name.0 73) global) (and_second (same_text c.name.0 extent.0) (is_root names c) h)

own_index : (names : List (List ℕ)) (extent : ClassName) (c : Class) → is_root_named names extent c ≡ true → is_global_of names (extent.0 ++ 73 ∷ []) c ≡ true
own_index names extent c h =
    let name : c.name.0 ≡ extent.0 = same_text-is c.name.0 extent.0 (and_first (same_text c.name.0 extent.0) (is_root names c) h) in
    let global : is_with (extent.0 ++ 73 ∷ []) c.name.0 73 ≡ true = is-same_text (extent.0 ++ 73 ∷ []) (c.name.0 ++ 73 ∷ []) (ap (λ t. t ++ 73 ∷ []) (sym name)) in
    and_both (is_with (extent.0 ++ 73 ∷ []) c.name.0 68 || is_with (extent.0 ++ 73 ∷ []) c.name.0 73) (is_root names c)
    (or_right (is_with (extent.0 ++ 73 ∷ []) c.name.0 68) (is_with (extent.0 ++ 73 ∷ []) c.name.0 73) global) (and_second (same_text c.name.0 extent.0) (is_root names c) h)

-- the data and index globals of an extent are the schema's own
pub extent_owns_data : (classes : List Class) (extent : ClassName) → list_any (is_root_named (class_names classes) extent) classes ≡ true → is_own_global classes (extent.0 ++ 68 ∷ []) ≡ true
extent_owns_data classes extent h = any_more (is_root_named (class_names classes) extent) (is_global_of (class_names classes) (extent.0 ++ 68 ∷ [])) (own_data (class_names classes) extent) classes h

pub extent_owns_index : (classes : List Class) (extent : ClassName) → list_any (is_root_named (class_names classes) extent) classes ≡ true → is_own_global classes (extent.0 ++ 73 ∷ []) ≡ true
extent_owns_index classes extent h = any_more (is_root_named (class_names classes) extent) (is_global_of (class_names classes) (extent.0 ++ 73 ∷ [])) (own_index (class_names classes) extent) classes h

below_is_object : (classes : List Class) (key : Key) (way : List Sub) → IsKeyOf classes key → is_object_node classes (below (data_node key) way) ≡ true
unfolding is_object_node data_node
below_is_object classes key way real = and_both (is_own_global classes (key.extent.0 ++ 68 ∷ [])) true (extent_owns_data classes key.extent real.extent) refl

pub covered_is_object : (classes : List Class) (key : Key) (n : Node) → IsKeyOf classes key → covers (data_node key) n ≡ true → is_object_node classes n ≡ true
covered_is_object classes key n real h = let p = covers_is (data_node key) n h in ap (is_object_node classes) p.1 ∙ below_is_object classes key p.0 real

entry_is_object : (classes : List Class) (key : Key) (name : List ℕ) (values : List Sub) → IsKeyOf classes key → is_object_node classes (entry_node key name values) ≡ true
unfolding is_object_node entry_node key_node
entry_is_object classes key name values real = and_both (is_own_global classes (key.extent.0 ++ 73 ∷ [])) true (extent_owns_index classes key.extent real.extent) refl

-- ---- what a record has

-- a node of the rows is at or below the row
pub row_is_covered : (classes : List Class) (key : Key) (r : Record) (n : Node) (v : Value) → get (rows classes key r) n ≡ Some v → covers (data_node key) n ≡ true
unfolding rows row_list
row_is_covered classes key r n v h =
    let ways = nodes_below (layout_of classes r.class) (marker key.extent r.class) r.fields in
    let p = row_way (data_node key) ways n v (sym (get-from_entries node_total (map (λ e. (below (data_node key) e.0, e.1)) ways) n) ∙ h) in
    ap (covers (data_node key)) p.1 ∙ covers_below (data_node key) p.0

pub two_letters : (a b : List ℕ) → a ++ 68 ∷ [] ≡ b ++ 73 ∷ [] → ⊥
two_letters a b e = let letter : 68 ≡ 73 = last_letter a b 68 73 e in omega (arith, letter)

-- no entry is at or below a row
pub entry_apart : (classes : List Class) (key other : Key) (r : Record) (n : Node) (v : Value) → get (entries classes key r) n ≡ Some v → covers (data_node other) n ≡ true → ⊥
entry_apart classes key other r n v h over =
    let p = entry_there classes key r n v h in
    let q = covers_is (data_node other) n over in
    two_letters other.extent.0 key.extent.0 (sym (row_global other q.0) ∙ ap (λ (k : Node). k.global) (sym q.1) ∙ ap (λ (k : Node). k.global) p.2.node ∙ entry_global key p.2.name p.2.values)

-- at or below the row a record has its rows, and elsewhere its entries
pub stands_covered : (classes : List Class) (key : Key) (r : Record) (n : Node) → covers (data_node key) n ≡ true → stands_at classes key n r ≡ get (rows classes key r) n
unfolding stands_at
stands_covered classes key r n over = by (get (rows classes key r) n) (get (entries classes key r) n) refl
  where
    by : (o e : Option Value) → get (entries classes key r) n ≡ e → or_value o e ≡ o
    by (Some v) e h = refl
    by None None h = refl
    by None (Some v) h = absurd (entry_apart classes key key r n v h over)

pub stands_elsewhere : (classes : List Class) (key : Key) (r : Record) (n : Node) → covers (data_node key) n ≡ false → stands_at classes key n r ≡ get (entries classes key r) n
unfolding stands_at
stands_elsewhere classes key r n apart = by (get (rows classes key r) n) refl
  where
    by : (o : Option Value) → get (rows classes key r) n ≡ o → or_value o (get (entries classes key r) n) ≡ get (entries classes key r) n
    by None h = refl
    by (Some v) h = let over = row_is_covered classes key r n v h in cc

-- a node of a record is one of the schema, and no counter
pub stands_is_object : (classes : List Class) (key : Key) (r : Record) (n : Node) (v : Value) → IsKeyOf classes key → stands_at classes key n r ≡ Some v → is_object_node classes n ≡ true
stands_is_object classes key r n v real h = by (covers (data_node key) n) refl
  where
    by : (b : Bool) → covers (data_node key) n ≡ b → is_object_node classes n ≡ true
    by true over = covered_is_object classes key n real over
    by false apart =
        let p = entry_there classes key r n v (sym (stands_elsewhere classes key r n apart) ∙ h) in
        ap (is_object_node classes) p.2.node ∙ entry_is_object classes key p.2.name p.2.values real

-- ---- the key of a node

pub owner_is : (classes : List Class) (n : Node) → owner classes n ≡ or_key (row_key classes n) (entry_owner classes n)
unfolding owner row_key entry_owner
owner_is classes n = refl

-- an extent that is found by a global's name
pub record IsFoundBy (classes : List Class) (names : List (List ℕ)) (letter : ℕ) (global : List ℕ) (extent : ClassName) : Type 0 where
  pub global_is : global ≡ extent.0 ++ letter ∷ []
  pub named : list_any (is_root_named names extent) classes ≡ true

pub found_by : (names : List (List ℕ)) (letter : ℕ) (global : List ℕ) (extent : ClassName) (cs : List Class) → extent_with names letter global cs ≡ Some extent → IsFoundBy cs names letter global extent
found_by names letter global extent [] h = cc
found_by names letter global extent (c ∷ cs) h = by (is_with global c.name.0 letter && is_root names c) refl h (found_by names letter global extent cs)
  where
    by : (b : Bool) → (is_with global c.name.0 letter && is_root names c) ≡ b → cond b (Some c.name) (extent_with names letter global cs) ≡ Some extent
        → (extent_with names letter global cs ≡ Some extent → IsFoundBy cs names letter global extent) → IsFoundBy (c ∷ cs) names letter global extent
    by true e k more =
        let same : c.name ≡ extent = cc in
        let global_is : global ≡ c.name.0 ++ letter ∷ [] = same_text-is global (c.name.0 ++ letter ∷ []) (and_first (is_with global c.name.0 letter) (is_root names c) e) in
        record {
          global_is = global_is ∙ ap (λ (t : ClassName). t.0 ++ letter ∷ []) same;
          named = or_left (is_root_named names extent c) (list_any (is_root_named names extent) cs)
              (and_both (same_text c.name.0 extent.0) (is_root names c) (is-same_text c.name.0 extent.0 (ap (λ (t : ClassName). t.0) same)) (and_second (is_with global c.name.0 letter) (is_root names c) e));
        }
    by false e k more = let p = more k in record { global_is = p.global_is; named = or_right (is_root_named names extent c) (list_any (is_root_named names extent) cs) p.named }

-- ids that have more than one number

long_third : (a b : ℕ) (text : List ℕ) (id : List ℕ) → third a b text ≡ Some id → length id ≡ 1 → ⊥
long_third a b text id h one = by (after_bars text) h
  where
    last : (c : ℕ × List ℕ) → ended (a ∷ b ∷ c.0 ∷ []) c.1 ≡ Some id → ⊥
    last c k = at c.1 k
      where
        at : (rest : List ℕ) → ended (a ∷ b ∷ c.0 ∷ []) rest ≡ Some id → ⊥
        at [] j = let same : a ∷ b ∷ c.0 ∷ [] ≡ id = cc in let long : length id ≡ 3 = ap length (sym same) in omega (arith, long, one)
        at (x ∷ xs) j = cc

    part : (o : Option (ℕ × List ℕ)) → option_and_then (λ c. ended (a ∷ b ∷ c.0 ∷ []) c.1) o ≡ Some id → ⊥
    part None k = cc
    part (Some c) k = last c k

    by : (o : Option (List ℕ)) → option_and_then (λ r. option_and_then (λ c. ended (a ∷ b ∷ c.0 ∷ []) c.1) (part_in r)) o ≡ Some id → ⊥
    by None k = cc
    by (Some r) k = part (part_in r) k

long_second : (a : ℕ) (text : List ℕ) (id : List ℕ) → second a text ≡ Some id → length id ≡ 1 → ⊥
long_second a text id h one = by (after_bars text) h
  where
    last : (b : ℕ) (rest : List ℕ) → ended_or (a ∷ b ∷ []) rest (third a b rest) ≡ Some id → ⊥
    last b [] k = let same : a ∷ b ∷ [] ≡ id = cc in let long : length id ≡ 2 = ap length (sym same) in omega (arith, long, one)
    last b (x ∷ xs) k = long_third a b (x ∷ xs) id k one

    part : (o : Option (ℕ × List ℕ)) → option_and_then (λ b. ended_or (a ∷ b.0 ∷ []) b.1 (third a b.0 b.1)) o ≡ Some id → ⊥
    part None k = cc
    part (Some b) k = last b.0 b.1 k

    by : (o : Option (List ℕ)) → option_and_then (λ r. option_and_then (λ b. ended_or (a ∷ b.0 ∷ []) b.1 (third a b.0 b.1)) (part_in r)) o ≡ Some id → ⊥
    by None k = cc
    by (Some r) k = part (part_in r) k

all_taken : (n : ℕ) (xs : List ℕ) → drop n xs ≡ [] → take n xs ≡ xs
all_taken zero [] h = refl
all_taken zero (x ∷ xs) h = cc
all_taken (suc n) [] h = refl
all_taken (suc n) (x ∷ xs) h = ap (λ l. x ∷ l) (all_taken n xs h)

-- an id of one number is a whole number's text
one_is_whole : (text id : List ℕ) → id_in text ≡ Some id → length id ≡ 1 → is_none (whole_of text) ≡ false
unfolding id_in part_in
one_is_whole text id h one = by (whole_of (take (before_bar text) text)) (drop (before_bar text) text) refl refl h
  where
    whole : (z : ℤ) → whole_of (take (before_bar text) text) ≡ Some z → drop (before_bar text) text ≡ [] → is_none (whole_of text) ≡ false
    whole z e d = ap (λ t. is_none (whole_of t)) (sym (all_taken (before_bar text) text d)) ∙ ap is_none e

    split : (n : ℕ) (rest : List ℕ) → drop (before_bar text) text ≡ rest → ended_or (n ∷ []) rest (second n rest) ≡ Some id → (z : ℤ) → whole_of (take (before_bar text) text) ≡ Some z → is_none (whole_of text) ≡ false
    split n [] d k z e = whole z e d
    split n (x ∷ xs) d k z e = absurd (long_second n (x ∷ xs) id k one)

    by : (o : Option ℤ) (rest : List ℕ) → whole_of (take (before_bar text) text) ≡ o → drop (before_bar text) text ≡ rest
        → option_and_then (λ a. ended_or (a.0 ∷ []) a.1 (second a.0 a.1)) (with_rest (positive o) rest) ≡ Some id → is_none (whole_of text) ≡ false
    by None rest e d k = cc
    by (Some (negsuc n)) rest e d k = cc
    by (Some (pos zero)) rest e d k = cc
    by (Some (pos (suc n))) rest e d k = split (suc n) rest d k (pos (suc n)) e

-- the id of a legal subscript
pub record IsIdBy (s : Sub) (id : List ℕ) : Type 0 where
  pub is_id : IsId id
  pub writes : sub_of (id_text id) ≡ s

pub id_by : (s : Sub) (id : List ℕ) → is_legal_sub s ≡ true → id_of_sub s ≡ Some id → length id ≡ 1 → IsIdBy s id
unfolding is_legal_sub
id_by (Num (negsuc n)) id legal h one = cc
id_by (Num (pos zero)) id legal h one = cc
id_by (Num (pos (suc n))) id legal h one =
    let same : suc n ∷ [] ≡ id = cc in
    let few : suc n < 10 ^ 18 = ltb-true (suc n) (10 ^ 18) legal in
    subst (IsIdBy (Num (pos (suc n)))) same (record { is_id = (omega arith, few); writes = ap (sub_by (decimal (suc n))) (whole_of-printed (decimal (suc n)) (pos (suc n)) few refl) })
id_by (Str text) id legal h one =
    let no : is_none (whole_of text) ≡ true = and_second (is_sub_text text) (is_none (whole_of text)) legal in
    let yes = one_is_whole text id h one in
    cc

first_legal : (subs : List Sub) (s : Sub) → list_all is_legal_sub subs ≡ true → first_sub subs ≡ Some s → (is_legal_sub s ≡ true) × ((rest : List Sub) × (subs ≡ s ∷ rest))
first_legal [] s all h = cc
first_legal (t ∷ ts) s all h = let same : t ≡ s = cc in (ap is_legal_sub (sym same) ∙ and_first (is_legal_sub t) (list_all is_legal_sub ts) all, (ts, ap (λ u. u ∷ ts) same))

pub legal_subs : (n : Node) → is_legal_node n ≡ true → list_all is_legal_sub n.subs ≡ true
unfolding is_legal_node
legal_subs n h = and_second _ (list_all is_legal_sub n.subs) h

-- the key that a subscript tells in an extent
pub record IsKeyBy (classes : List Class) (s : Sub) (extent : ClassName) (key : Key) : Type 0 where
  pub extent_is : key.extent ≡ extent
  pub long : length key.id ≡ 1
  pub id : id_of_sub s ≡ Some key.id

pub key_by : (classes : List Class) (s : Sub) (extent : ClassName) (key : Key) → key_at classes (Some s) extent ≡ Some key → IsKeyBy classes s extent key
key_by classes s extent key h = by (id_of_sub s) refl h
  where
    at : (id : List ℕ) (b : Bool) → nat_eq (length id) (id_length classes extent) ≡ b → id_of_sub s ≡ Some id → cond b (Some (record { extent = extent; id = id })) None ≡ Some key → IsKeyBy classes s extent key
    at id true e is k = let same : record { extent = extent; id = id } ≡ key = cc in subst (IsKeyBy classes s extent) same (record { extent_is = refl; long = eqb-true (length id) 1 e; id = is })
    at id false e is k = cc

    by : (o : Option (List ℕ)) → id_of_sub s ≡ o → option_and_then (key_with classes extent) o ≡ Some key → IsKeyBy classes s extent key
    by None e k = cc
    by (Some id) e k = at id (nat_eq (length id) (id_length classes extent)) refl e k

pub record IsRowOf (classes : List Class) (n : Node) (key : Key) : Type 0 where
  pub real : IsKeyOf classes key
  pub over : covers (data_node key) n ≡ true

-- a node within its limits that belongs to a key by its first subscript is at or below the key's row
pub row_key_is : (classes : List Class) (n : Node) (key : Key) → is_legal_node n ≡ true → row_key classes n ≡ Some key → IsRowOf classes n key
unfolding row_key data_node
row_key_is classes n key legal h = by (extent_with (class_names classes) 68 n.global classes) refl h
  where
    with_sub : (extent : ClassName) (s : Sub) (rest : List Sub) → n.subs ≡ s ∷ rest → is_legal_sub s ≡ true → IsFoundBy classes (class_names classes) 68 n.global extent → IsKeyBy classes s extent key → IsRowOf classes n key
    with_sub extent s rest is good found k =
        let i = id_by s key.id good k.id k.long in
        let global : n.global ≡ key.extent.0 ++ 68 ∷ [] = found.global_is ∙ ap (λ (e : ClassName). e.0 ++ 68 ∷ []) (sym k.extent_is) in
        let subs : n.subs ≡ sub_of (id_text key.id) ∷ rest = is ∙ ap (λ t. t ∷ rest) (sym i.writes) in
        let node : n ≡ below (data_node key) rest = λ j. record { global = global j; subs = subs j } in
        record {
          real = record { extent = ap (λ (e : ClassName). list_any (is_root_named (class_names classes) e) classes) k.extent_is ∙ found.named; id = (i.is_id, k.long) };
          over = ap (covers (data_node key)) node ∙ covers_below (data_node key) rest;
        }

    with_first : (extent : ClassName) (o : Option Sub) → first_sub n.subs ≡ o → IsFoundBy classes (class_names classes) 68 n.global extent → key_at classes o extent ≡ Some key → IsRowOf classes n key
    with_first extent None e found k = cc
    with_first extent (Some s) e found k = let p = first_legal n.subs s (legal_subs n legal) e in with_sub extent s p.1.0 p.1.1 p.0 found (key_by classes s extent key k)

    by : (o : Option ClassName) → extent_with (class_names classes) 68 n.global classes ≡ o → option_and_then (key_at classes (first_sub n.subs)) o ≡ Some key → IsRowOf classes n key
    by None e k = cc
    by (Some extent) e k = with_first extent (first_sub n.subs) refl (found_by (class_names classes) 68 n.global extent classes e) k

last_legal : (subs : List Sub) (s : Sub) → list_all is_legal_sub subs ≡ true → last_sub subs ≡ Some s → is_legal_sub s ≡ true
last_legal [] s all h = cc
last_legal (t ∷ []) s all h = let same : t ≡ s = cc in ap is_legal_sub (sym same) ∙ and_first (is_legal_sub t) true all
last_legal (t ∷ u ∷ ts) s all h = last_legal (u ∷ ts) s (and_second (is_legal_sub t) (list_all is_legal_sub (u ∷ ts)) all) h

pub record IsEntryOf (classes : List Class) (n : Node) (key : Key) : Type 0 where
  pub real : IsKeyOf classes key
  pub global : n.global ≡ key.extent.0 ++ 73 ∷ []

-- the same by its last subscript
pub entry_owner_is : (classes : List Class) (n : Node) (key : Key) → is_legal_node n ≡ true → entry_owner classes n ≡ Some key → IsEntryOf classes n key
unfolding entry_owner
entry_owner_is classes n key legal h = by (extent_with (class_names classes) 73 n.global classes) refl h
  where
    with_sub : (extent : ClassName) (o : Option Sub) → ((s : Sub) → o ≡ Some s → is_legal_sub s ≡ true) → IsFoundBy classes (class_names classes) 73 n.global extent → key_at classes o extent ≡ Some key → IsEntryOf classes n key
    with_sub extent None good found k = cc
    with_sub extent (Some s) good found k =
        let b = key_by classes s extent key k in
        let i = id_by s key.id (good s refl) b.id b.long in
        record {
          real = record { extent = ap (λ (e : ClassName). list_any (is_root_named (class_names classes) e) classes) b.extent_is ∙ found.named; id = (i.is_id, b.long) };
          global = found.global_is ∙ ap (λ (e : ClassName). e.0 ++ 73 ∷ []) (sym b.extent_is);
        }

    tested : (extent : ClassName) (b : Bool) (o : Option Sub) → ((s : Sub) → o ≡ Some s → is_legal_sub s ≡ true) → IsFoundBy classes (class_names classes) 73 n.global extent → cond b (key_at classes o extent) None ≡ Some key → IsEntryOf classes n key
    tested extent true o good found k = with_sub extent o good found k
    tested extent false o good found k = cc

    with_subs : (extent : ClassName) (subs : List Sub) → list_all is_legal_sub subs ≡ true → IsFoundBy classes (class_names classes) 73 n.global extent → entry_key classes subs extent ≡ Some key → IsEntryOf classes n key
    with_subs extent [] all found k = cc
    with_subs extent (Num z ∷ ss) all found k = cc
    with_subs extent (Str name ∷ []) all found k = cc
    with_subs extent (Str name ∷ s ∷ ss) all found k =
        tested extent (extent_has classes extent name (length ss)) (last_sub (s ∷ ss)) (λ t e. last_legal (s ∷ ss) t (and_second (is_legal_sub (Str name)) (list_all is_legal_sub (s ∷ ss)) all) e) found k

    by : (o : Option ClassName) → extent_with (class_names classes) 73 n.global classes ≡ o → option_and_then (entry_key classes n.subs) o ≡ Some key → IsEntryOf classes n key
    by None e k = cc
    by (Some extent) e k = with_subs extent n.subs (legal_subs n legal) (found_by (class_names classes) 73 n.global extent classes e) k

-- a key that some node within its limits belongs to is real
pub owner_is_real : (classes : List Class) (n : Node) (key : Key) → is_legal_node n ≡ true → owner classes n ≡ Some key → IsKeyOf classes key
owner_is_real classes n key legal h = by (row_key classes n) refl (sym (owner_is classes n) ∙ h)
  where
    by : (o : Option Key) → row_key classes n ≡ o → or_key o (entry_owner classes n) ≡ Some key → IsKeyOf classes key
    by None e k = (entry_owner_is classes n key legal k).real
    by (Some j) e k = let same : j ≡ key = cc in (row_key_is classes n key legal (e ∙ ap Some same)).real

-- a text within the limits of a subscript is no id of one number
abbrev key_with_id : ClassName → List ℕ → Key
key_with_id extent id = record { extent = extent; id = id }

pub no_text_key : (text : List ℕ) (extent : ClassName) → is_legal_sub (Str text) ≡ true → single_key (Some (Str text)) extent ≡ None
unfolding is_legal_sub
no_text_key text extent legal = by (id_in text) refl
  where
    test : (id : List ℕ) → id_in text ≡ Some id → (b : Bool) → nat_eq (length id) 1 ≡ b → cond b (Some (key_with_id extent id)) None ≡ None
    test id e true k =
        let no : is_none (whole_of text) ≡ true = and_second (is_sub_text text) (is_none (whole_of text)) legal in
        let yes = one_is_whole text id e (eqb-true (length id) 1 k) in
        cc
    test id e false k = refl

    by : (o : Option (List ℕ)) → id_in text ≡ o → option_and_then (λ id. cond (nat_eq (length id) 1) (Some (key_with_id extent id)) None) o ≡ None
    by None e = refl
    by (Some id) e = test id e (nat_eq (length id) 1) refl

pub legal_first : (n : Node) (s : Sub) (rest : List Sub) → is_legal_node n ≡ true → n.subs ≡ s ∷ rest → is_legal_sub s ≡ true
legal_first n s rest legal is = and_first (is_legal_sub s) (list_all is_legal_sub rest) (ap (list_all is_legal_sub) (sym is) ∙ legal_subs n legal)

-- ---- the extent of a global, by its last letter

abbrev pub IsLetter : ℕ → Type 0
IsLetter letter = (letter ≡ 68) ⊎ (letter ≡ 73)

pub no_bytes_no_extent : (classes : List Class) (letter : ℕ) (global : List ℕ) → length global ≡ 0 → None ≡ extent_with (class_names classes) letter global classes
no_bytes_no_extent classes letter global none = by (extent_with (class_names classes) letter global classes) refl
  where
    by : (o : Option ClassName) → extent_with (class_names classes) letter global classes ≡ o → None ≡ o
    by None e = refl
    by (Some extent) e =
        let long : length global ≡ length (extent.0 ++ letter ∷ []) = ap length (found_by (class_names classes) letter global extent classes e).global_is in
        let more : length (extent.0 ++ letter ∷ []) ≡ length extent.0 + 1 = Rattle.std.proofs.lemmas.List.length-append extent.0 (letter ∷ []) in
        absurd (omega (arith, none, long, more))

pub other_letter_no_extent : (classes : List Class) (letter last : ℕ) (global name : List ℕ) → global ≡ name ++ last ∷ [] → last ≢ letter → None ≡ extent_with (class_names classes) letter global classes
other_letter_no_extent classes letter last global name is other = by (extent_with (class_names classes) letter global classes) refl
  where
    by : (o : Option ClassName) → extent_with (class_names classes) letter global classes ≡ o → None ≡ o
    by None e = refl
    by (Some extent) e = absurd (other (last_letter name extent.0 last letter (sym is ∙ (found_by (class_names classes) letter global extent classes e).global_is)))

pub not_own_no_extent : (classes : List Class) (letter : ℕ) (global : List ℕ) → IsLetter letter → is_own_global classes global ≡ false → None ≡ extent_with (class_names classes) letter global classes
not_own_no_extent classes letter global which not_own = by (extent_with (class_names classes) letter global classes) refl
  where
    owned : (extent : ClassName) → IsLetter letter → IsFoundBy classes (class_names classes) letter global extent → is_own_global classes global ≡ true
    owned extent (inl data_one) f = ap (is_own_global classes) (f.global_is ∙ ap (λ l. extent.0 ++ l ∷ []) data_one) ∙ extent_owns_data classes extent f.named
    owned extent (inr index_one) f = ap (is_own_global classes) (f.global_is ∙ ap (λ l. extent.0 ++ l ∷ []) index_one) ∙ extent_owns_index classes extent f.named

    by : (o : Option ClassName) → extent_with (class_names classes) letter global classes ≡ o → None ≡ o
    by None e = refl
    by (Some extent) e = let yes = owned extent which (found_by (class_names classes) letter global extent classes e) in cc

own_found : (names : List (List ℕ)) (letter : ℕ) (global name : List ℕ) (cs : List Class) → IsLetter letter → global ≡ name ++ letter ∷ [] → list_any (is_global_of names global) cs ≡ true → extent_with names letter global cs ≡ None → ⊥
own_found names letter global name [] which is any none = cc
own_found names letter global name (c ∷ cs) which is any none =
    by (is_with global c.name.0 letter && is_root names c) refl (is_global_of names global c) refl any none (own_found names letter global name cs which is)
  where
    wrong : (other : ℕ) → letter ≢ other → is_with global c.name.0 other ≡ true → ⊥
    wrong other apart w = apart (last_letter name c.name.0 letter other (sym is ∙ same_text-is global (c.name.0 ++ other ∷ []) w))

    pick : IsLetter letter → (d i : Bool) → is_with global c.name.0 68 ≡ d → is_with global c.name.0 73 ≡ i → (d || i) ≡ true → is_with global c.name.0 letter ≡ true
    pick (inl l) true i e f h = ap (is_with global c.name.0) l ∙ e
    pick (inl l) false true e f h = absurd (wrong 73 (λ k. let no : 68 ≡ 73 = sym l ∙ k in omega (arith, no)) f)
    pick (inl l) false false e f h = cc
    pick (inr l) d true e f h = ap (is_with global c.name.0) l ∙ f
    pick (inr l) true false e f h = absurd (wrong 68 (λ k. let no : 73 ≡ 68 = sym l ∙ k in omega (arith, no)) e)
    pick (inr l) false false e f h = cc

    by : (t : Bool) → (is_with global c.name.0 letter && is_root names c) ≡ t → (g : Bool) → is_global_of names global c ≡ g → (g || list_any (is_global_of names global) cs) ≡ true
        → cond t (Some c.name) (extent_with names letter global cs) ≡ None → (list_any (is_global_of names global) cs ≡ true → extent_with names letter global cs ≡ None → ⊥) → ⊥
    by true e g f a n more = cc
    by false e false f a n more = more a n
    by false e true f a n more =
        let with_one = and_first (is_with global c.name.0 68 || is_with global c.name.0 73) (is_root names c) f in
        let here = and_both (is_with global c.name.0 letter) (is_root names c) (pick which (is_with global c.name.0 68) (is_with global c.name.0 73) refl refl with_one)
        (and_second (is_with global c.name.0 68 || is_with global c.name.0 73) (is_root names c) f) in
        cc

abbrev named : List ℕ → Option ClassName
named text = Some (record { 0 = text })

pub own_extent : (classes : List Class) (letter last : ℕ) (global name text : List ℕ) → IsLetter letter → global ≡ name ++ last ∷ [] → last ≡ letter → is_own_global classes global ≡ true → text ≡ name → named text ≡ extent_with (class_names classes) letter global classes
own_extent classes letter last global name text which is same own written = ap named written ∙ by (extent_with (class_names classes) letter global classes) refl
  where
    whole : global ≡ name ++ letter ∷ []
    whole = is ∙ ap (λ l. name ++ l ∷ []) same

    by : (o : Option ClassName) → extent_with (class_names classes) letter global classes ≡ o → named name ≡ o
    by None e = absurd (own_found (class_names classes) letter global name classes which whole own e)
    by (Some extent) e =
        let f = found_by (class_names classes) letter global extent classes e in
        let t : name ≡ extent.0 = append_cancel_right name extent.0 (letter ∷ []) (sym whole ∙ f.global_is) in
        ap named t

-- ---- the key of an entry

last_is : (values : List Sub) (id : Sub) → last_sub (values ++ id ∷ []) ≡ Some id
last_is [] id = refl
last_is (v ∷ []) id = refl
last_is (v ∷ w ∷ vs) id = last_is (w ∷ vs) id

pub values_key : (classes : List Class) (extent : ClassName) (name : List ℕ) (values rest : List Sub) (id : Sub) → values ≡ rest ++ id ∷ [] → extent_has classes extent name (length values - 1) ≡ true
    → single_key (Some id) extent ≡ entry_key classes (Str name ∷ values) extent
values_key classes extent name [] [] id is has = cc
values_key classes extent name [] (r ∷ rest) id is has = cc
values_key classes extent name (v ∷ vs) rest id is has =
    let one : length (v ∷ vs) - 1 ≡ length vs = omega arith in
    let last : last_sub (v ∷ vs) ≡ Some id = ap last_sub is ∙ last_is rest id in
    ap (λ o. single_key o extent) (sym last)
    ∙ ap (λ b. cond b (key_at classes (last_sub (v ∷ vs)) extent) None) (sym (ap (extent_has classes extent name) (sym one) ∙ has))

-- a class whose data global is the schema's own names an extent
pub own_is_extent : (classes : List Class) (name : ClassName) → is_own_global classes (name.0 ++ 68 ∷ []) ≡ true → list_any (is_root_named (class_names classes) name) classes ≡ true
own_is_extent classes name own =
    (found_by (class_names classes) 68 (name.0 ++ 68 ∷ []) name classes (sym (own_extent classes 68 68 (name.0 ++ 68 ∷ []) name.0 name.0 (inl refl) refl refl own refl))).named
