-- The image of a world is that of its records, and changes only where the world does.
use Rattle.std.proofs.Common.{◌≡◌, ◌≢◌, ◌≤◌, ℕ, Bool, true, false, cond, not, List, [], ◌∷◌, map, length, Option, None, Some, is_some, refl, sym, ap, subst, ◌∙◌, arith, ◌↔◌}
use Rattle.std.specs.Option.{option_and_then}
use Rattle.std.specs.Ordering.{eq_by_cmp, is_eq}
use Rattle.std.specs.FinMap.{find, get, insert, remove, entries as listed, contains_key, get-entries, get-from_entries, get-insert, get-remove}
use Rattle.std.proofs.lemmas.Cmp.{tied_itself}
use Rattle.obj_kinds.specs.declared.node.Node.{Node}
use Rattle.obj_kinds.specs.declared.sub.Sub.{Sub}
use Rattle.obj_kinds.specs.declared.value.Value.{Value}
use Rattle.obj_kinds.specs.Order.{node_cmp, covers}
use Rattle.obj_kinds.proofs.OrderLemmas.{node_total, node_exact}
use Rattle.global_tree.proofs.MapLaws.{one_key}
use Rattle.schema_kinds.specs.declared.class.Class.{Class}
use Rattle.schema_kinds.specs.declared.key.Key.{Key}
use Rattle.schema_kinds.specs.declared.record.Record.{Record}
use Rattle.schema_kinds.specs.Classes.{class_of, extent_of}
use Rattle.schema_kinds.specs.Worlds.{World, key_cmp}
use Rattle.schema_kinds.specs.KeyLaws.{key_total, key_exact}
use Rattle.record_layout.specs.Layout.{layout_of}
use Rattle.record_layout.specs.Rows.{data_node, below, marker, nodes_below, row_list, rows}
use Rattle.storage_map.specs.Changes.{stale, differing, edited, NoneBelow}
use Rattle.storage_map.specs.Entries.{entry_node, entries}
use Rattle.storage_map.specs.Worlds.{owner, has_entries, or_value, stands_at, owned_at, image, IsKeyOf}
use Rattle.storage_map.proofs.OwnerLaws.{rows_belong}
use Rattle.storage_map.proofs.ApartLaws.{none_kept, same_covered}
use Rattle.storage_map.proofs.ChangeLaws.{changes_turn}
use Rattle.world_images.specs.Images.{AreAtTheirKeys, IsGiven, IsImageWith, IsImageWithout, AreEven}
use Rattle.world_images.proofs.EntryLaws.{IsEntry, entry_there, entries_belong, one_entry_name, even_long}

-- a node of the rows stands at or below the row
pub row_way : (row : Node) (ways : List (List Sub × Value)) (n : Node) (v : Value) → find node_cmp n (map (λ e. (below row e.0, e.1)) ways) ≡ Some v → (way : List Sub) × (n ≡ below row way)
row_way row [] n v h = cc
row_way row (w ∷ ws) n v h = by (eq_by_cmp node_cmp n (below row w.0)) refl h (row_way row ws n v)
  where
    by : (b : Bool) → eq_by_cmp node_cmp n (below row w.0) ≡ b → cond b (Some w.1) (find node_cmp n (map (λ e. (below row e.0, e.1)) ws)) ≡ Some v
        → (find node_cmp n (map (λ e. (below row e.0, e.1)) ws) ≡ Some v → (way : List Sub) × (n ≡ below row way)) → (way : List Sub) × (n ≡ below row way)
    by true e k more = (w.0, one_key node_exact n (below row w.0) e)
    by false e k more = more k

pub row_belongs : (classes : List Class) (key : Key) (r : Record) (n : Node) (v : Value) → IsKeyOf classes key → get (rows classes key r) n ≡ Some v → owner classes n ≡ Some key
unfolding rows row_list
row_belongs classes key r n v real h =
    let ways = nodes_below (layout_of classes r.class) (marker key.extent r.class) r.fields in
    let p = row_way (data_node key) ways n v (sym (get-from_entries node_total (map (λ e. (below (data_node key) e.0, e.1)) ways) n) ∙ h) in
    ap (owner classes) p.1 ∙ rows_belong classes key p.0 real

pub nodes_belong : (classes : List Class) (key : Key) (r : Record) (n : Node) (v : Value) → IsKeyOf classes key → extent_of classes r.class ≡ Some key.extent → stands_at classes key n r ≡ Some v → owner classes n ≡ Some key
unfolding stands_at
nodes_belong classes key r n v real in' h = by (get (rows classes key r) n) refl h
  where
    by : (o : Option Value) → get (rows classes key r) n ≡ o → or_value o (get (entries classes key r) n) ≡ Some v → owner classes n ≡ Some key
    by None e k = entries_belong classes key r n v real in' k
    by (Some w) e k = row_belongs classes key r n w real e

pub nodes_apart : (classes : List Class) (a b : Key) (r q : Record) (n : Node) (v w : Value) → IsKeyOf classes a → IsKeyOf classes b → extent_of classes r.class ≡ Some a.extent → extent_of classes q.class ≡ Some b.extent
    → stands_at classes a n r ≡ Some v → stands_at classes b n q ≡ Some w → a ≡ b
nodes_apart classes a b r q n v w real also in' also_in first second = one (sym (nodes_belong classes a r n v real in' first) ∙ nodes_belong classes b q n w also also_in second)
  where
    one : Some a ≡ Some b → a ≡ b
    one e = cc

pub image_is : (classes : List Class) (w : World) (n : Node) (v : Value) → AreAtTheirKeys classes w → (image classes w n ≡ Some v) ↔ IsGiven classes w n v
unfolding image
image_is classes w n v at = (given (owner classes n), λ g. let k = at g.0 g.1 g.2 in ap (owned_at classes w n) (nodes_belong classes g.0 g.1 n v k.0 k.1 g.3) ∙ ap (option_and_then (stands_at classes g.0 n)) g.2 ∙ g.3)
  where
    of_record : (key : Key) (o : Option Record) → get w key ≡ o → option_and_then (stands_at classes key n) o ≡ Some v → IsGiven classes w n v
    of_record key None e h = cc
    of_record key (Some r) e h = (key, r, e, h)

    given : (o : Option Key) → owned_at classes w n o ≡ Some v → IsGiven classes w n v
    given None h = cc
    given (Some key) h = of_record key (get w key) refl h

other_key : (classes : List Class) (n : Node) (key : Key) (o : Option Key) → owner classes n ≡ o → owner classes n ≢ Some key → (k : Key) → o ≡ Some k → eq_by_cmp key_cmp k key ≡ false
other_key classes n key o e other k is = by (eq_by_cmp key_cmp k key) refl
  where
    by : (b : Bool) → eq_by_cmp key_cmp k key ≡ b → b ≡ false
    by true h = absurd (other (e ∙ is ∙ ap Some (one_key key_exact k key h)))
    by false h = refl

pub image_with : (classes : List Class) (w : World) (key : Key) (r : Record) (n : Node) → IsImageWith classes w key r n
unfolding image
image_with classes w key r n = record {
  own = λ mine. ap (owned_at classes (insert w key r) n) mine ∙ ap (option_and_then (stands_at classes key n)) (get-insert key_total w key r key ∙ ap (λ o. cond (is_eq o) (Some r) (get w key)) (tied_itself key_total key));
  others = λ other. by (owner classes n) refl other;
}
  where
    by : (o : Option Key) → owner classes n ≡ o → owner classes n ≢ Some key → owned_at classes (insert w key r) n o ≡ owned_at classes w n o
    by None e other = refl
    by (Some k) e other = ap (option_and_then (stands_at classes k n)) (get-insert key_total w key r k ∙ ap (λ b. cond b (Some r) (get w k)) (other_key classes n key (Some k) e other k refl))

pub image_without : (classes : List Class) (w : World) (key : Key) (n : Node) → IsImageWithout classes w key n
unfolding image
image_without classes w key n = record {
  own = λ mine. ap (owned_at classes (remove w key) n) mine ∙ ap (option_and_then (stands_at classes key n)) (get-remove key_total w key key ∙ ap (λ o. cond (is_eq o) None (get w key)) (tied_itself key_total key));
  others = λ other. by (owner classes n) refl other;
}
  where
    by : (o : Option Key) → owner classes n ≡ o → owner classes n ≢ Some key → owned_at classes (remove w key) n o ≡ owned_at classes w n o
    by None e other = refl
    by (Some k) e other = ap (option_and_then (stands_at classes k n)) (get-remove key_total w key k ∙ ap (λ b. cond b None (get w k)) (other_key classes n key (Some k) e other k refl))

-- CHANGES OF ENTRIES

some_of : {A : Type 0} (o : Option A) → is_some o ≡ true → (a : A) × (o ≡ Some a)
some_of None h = cc
some_of (Some a) h = (a, refl)

one_class : (o : Option Class) (c d : Class) (word : List ℕ) (m n : ℕ) → o ≡ Some c → o ≡ Some d → AreEven o → has_entries word m c ≡ true → has_entries word n d ≡ true → m ≡ n
one_class None c d word m n is also even has also_has = cc
one_class (Some e) c d word m n is also even has also_has =
    let first : c ≡ e = cc in
    let second : d ≡ e = cc in
    even word m n (ap (has_entries word m) (sym first) ∙ has) (ap (has_entries word n) (sym second) ∙ also_has)

pub none_below_entries : (classes : List Class) (key : Key) (old new : Record) → old.class ≡ new.class → AreEven (class_of classes new.class) → NoneBelow (entries classes key old) (entries classes key new)
unfolding stale
none_below_entries classes key old new same even n there =
    none_kept n (λ m. not (is_some (find node_cmp m (listed (entries classes key new))))) (listed (entries classes key old)) (listed (entries classes key old)) safe (λ m h. h)
  where
    -- an old entry that covers a new one is this one
    one_node : (m : Node) (v w : Value) → get (entries classes key new) n ≡ Some v → get (entries classes key old) m ≡ Some w → covers m n ≡ true → m ≡ n
    one_node m v w here was over =
        let p = entry_there classes key new n v here in
        let q = entry_there classes key old m w was in
        let name : q.2.name ≡ p.2.name = one_entry_name key key q.2.name p.2.name q.2.values p.2.values (ap (λ k. covers k (entry_node key p.2.name p.2.values)) (sym q.2.node) ∙ ap (covers m) (sym p.2.node) ∙ over) in
        let long : length q.2.values ≡ length p.2.values =
        one_class (class_of classes new.class) q.0 p.0 p.2.name (length q.2.values) (length p.2.values) (ap (class_of classes) (sym same) ∙ q.1) p.1 even (ap (λ t. has_entries t (length q.2.values) q.0) (sym name) ∙ q.2.has) p.2.has in
        let subs : length m.subs ≡ length n.subs = even_long key key m n q.0 p.0 q.2 p.2 long in
        same_covered m n over (omega (arith, subs))

    safe : (m : Node) → is_some (find node_cmp m (listed (entries classes key old))) ≡ true → not (is_some (find node_cmp m (listed (entries classes key new)))) ≡ true → covers m n ≡ false
    safe m was gone = by (covers m n) refl
      where
        by : (b : Bool) → covers m n ≡ b → b ≡ false
        by false e = refl
        by true e =
            let v = some_of (get (entries classes key new) n) there in
            let w = some_of (find node_cmp m (listed (entries classes key old))) was in
            let one = one_node m v.0 w.0 v.1 (get-entries (entries classes key old) m ∙ w.1) e in
            let here : is_some (find node_cmp m (listed (entries classes key new))) ≡ true = ap is_some (sym (get-entries (entries classes key new) m)) ∙ ap (λ k. is_some (get (entries classes key new) k)) one ∙ there in
            let no : not (is_some (find node_cmp m (listed (entries classes key new)))) ≡ false = ap not here in
            cc

pub entries_turn : (classes : List Class) (key : Key) (old new : Record) (n : Node) → old.class ≡ new.class → AreEven (class_of classes new.class)
    → edited (stale (listed (entries classes key old)) (listed (entries classes key new))) (differing (listed (entries classes key old)) (listed (entries classes key new))) (entries classes key old) n ≡ get (entries classes key new) n
entries_turn classes key old new n same even = changes_turn (entries classes key old) (entries classes key new) n (none_below_entries classes key old new same even)
