-- What a save or delete writes of one object turns its nodes into those of the new record, and leaves the nodes of all others.
use Rattle.std.proofs.Common.{◌≡◌, ◌≢◌, Bool, true, false, cond, ◌||◌, List, [], ◌∷◌, ◌++◌, map, Option, Some, None, refl, sym, ap, subst, ◌∙◌}
use Rattle.std.specs.List.{list_any}
use Rattle.std.specs.Ordering.{eq_by_cmp, is_eq}
use Rattle.std.proofs.lemmas.Cmp.{tied_itself}
use Rattle.std.specs.FinMap.{find, get, insert, empty, entries as listed, get-empty, get-insert}
use Rattle.obj_kinds.specs.declared.name.ClassName.{ClassName}
use Rattle.obj_kinds.specs.declared.node.Node.{Node}
use Rattle.obj_kinds.specs.declared.value.Value.{Value}
use Rattle.obj_kinds.specs.declared.op.Op.{Op}
use Rattle.obj_kinds.specs.declared.op.Op.TheVariants.{Set, Kill}
use Rattle.obj_kinds.specs.declared.op.Pid.{Pid}
use Rattle.obj_kinds.specs.Order.{node_cmp, covers}
use Rattle.obj_kinds.proofs.OrderLemmas.{node_total}
use Rattle.schema_kinds.specs.declared.class.Class.{Class}
use Rattle.schema_kinds.specs.declared.key.Key.{Key}
use Rattle.schema_kinds.specs.declared.record.Record.{Record}
use Rattle.schema_kinds.specs.Classes.{extent_of}
use Rattle.global_tree.specs.Contents.{Globals}
use Rattle.storage_map.specs.declared.edits.Edits.{Edits}
use Rattle.storage_map.specs.Changes.{rows_if, entries_if}
use Rattle.storage_map.specs.Worlds.{owner, IsKeyOf}
use Rattle.world_images.specs.Images.{IsEvenExtent, IsOfClass, stands_if, changed}
use Rattle.world_images.proofs.TurnLaws.{nodes_turn, none_set, none_killed, their_row, their_row_apart, their_entry, their_entry_apart}
use Rattle.store_core.specs.Machine.{State, opening, after}
use Rattle.object_calls.specs.Edits.{edits_of}
use Rattle.object_calls.proofs.EditLaws.{edits_are_changes}
use Rattle.object_runs.specs.Causes.{Each}
use Rattle.object_runs.specs.Invariant.{wrote, written, shown}
use Rattle.image_laws.specs.Played.{played, set_of, writes_of}
use Rattle.image_laws.proofs.PlayedLaws.{killed-globals, set-globals, writes_are_written}
use Rattle.call_rules.proofs.Rules.{all_writes, written-append}

abbrev pub kill_ops : Node → List Op
kill_ops m = Kill m ∷ []

abbrev pub set_ops : Node × Value → List Op
set_ops e = Set e.0 e.1 ∷ []

abbrev pub kills_of : List Node → List Op
kills_of = all_writes kill_ops

abbrev pub sets_of : List (Node × Value) → List Op
sets_of = all_writes set_ops

-- ---- at one node

pub after_kills : (ks : List Node) (n : Node) (x : Option Value) → written (kills_of ks) n x ≡ cond (list_any (λ k. covers k n) ks) None x
after_kills [] n x = refl
after_kills (k ∷ ks) n x = written-append (kills_of ks) (kill_ops k) n x ∙ after_kills ks n (wrote (Kill k) n x) ∙ by (covers k n) (list_any (λ k. covers k n) ks)
  where
    by : (a b : Bool) → cond b None (cond a None x) ≡ cond (a || b) None x
    by true true = refl
    by true false = refl
    by false true = refl
    by false false = refl

pub no_kills : (ks : List Node) (n : Node) (x : Option Value) → list_any (λ k. covers k n) ks ≡ false → written (kills_of ks) n x ≡ x
no_kills ks n x e = after_kills ks n x ∙ ap (λ b. cond b None x) e

pub no_sets : (es : List (Node × Value)) (n : Node) (x : Option Value) → find node_cmp n es ≡ None → written (sets_of es) n x ≡ x
no_sets [] n x e = refl
no_sets (e ∷ es) n x none = written-append (sets_of es) (set_ops e) n x ∙ by (eq_by_cmp node_cmp n e.0) refl none (no_sets es n)
  where
    by : (b : Bool) → eq_by_cmp node_cmp n e.0 ≡ b → cond b (Some e.1) (find node_cmp n es) ≡ None → ((x : Option Value) → find node_cmp n es ≡ None → written (sets_of es) n x ≡ x) → written (sets_of es) n (cond (eq_by_cmp node_cmp n e.0) (Some e.1) x) ≡ x
    by true f g more = absurd (cc g)
    by false f g more = ap (λ b. written (sets_of es) n (cond b (Some e.1) x)) f ∙ more x g

-- ---- through the store machine

abbrev IsWrite : Op → Type 0
IsWrite (Set m v) = Unit {0}
IsWrite (Kill m) = Unit {0}
IsWrite _ = ⊥

one_write : (s : State) (p : Pid) (op : Op) (n : Node) → IsWrite op → get (after s p op).globals n ≡ wrote op n (get s.globals n)
one_write s p (Set m v) n is = set-globals s p (m, v) n
one_write s p (Kill m) n is = killed-globals s p m n
one_write s p op n is = absurd is

alone : Op → List Op
alone op = op ∷ []

played_written : (s : State) (p : Pid) (ops : List Op) (n : Node) → Each IsWrite ops → get (played s p ops).globals n ≡ written (all_writes (λ op. op ∷ []) ops) n (get s.globals n)
played_written s p [] n h = refl
played_written s p (op ∷ ops) n h =
    played_written (after s p op) p ops n h.1 ∙ ap (written (all_writes (λ op. op ∷ []) ops) n) (one_write s p op n h.0)
    ∙ sym (written-append (all_writes (λ op. op ∷ []) ops) (op ∷ []) n (get s.globals n))

pub writes_append : {A : Type 0} (d : A → List Op) (xs ys : List A) (n : Node) (x : Option Value) → written (all_writes d (xs ++ ys)) n x ≡ written (all_writes d ys) n (written (all_writes d xs) n x)
writes_append d [] ys n x = refl
writes_append d (z ∷ xs) ys n x =
    written-append (all_writes d (xs ++ ys)) (d z) n x ∙ writes_append d xs ys n (written (d z) n x) ∙ ap (written (all_writes d ys) n) (sym (written-append (all_writes d xs) (d z) n x))

kills_mapped : (ks : List Node) → all_writes (λ (op : Op). op ∷ []) (map Kill ks) ≡ kills_of ks
kills_mapped [] = refl
kills_mapped (k ∷ ks) = ap (λ xs. xs ++ Kill k ∷ []) (kills_mapped ks)

sets_mapped : (es : List (Node × Value)) → all_writes (λ (op : Op). op ∷ []) (map set_of es) ≡ sets_of es
sets_mapped [] = refl
sets_mapped (e ∷ es) = ap (λ xs. xs ++ Set e.0 e.1 ∷ []) (sets_mapped es)

kill_writes : (ks : List Node) (more : List Op) → Each IsWrite more → Each IsWrite (map Kill ks ++ more)
kill_writes [] more h = h
kill_writes (k ∷ ks) more h = (tt, kill_writes ks more h)

set_writes : (es : List (Node × Value)) → Each IsWrite (map set_of es)
set_writes [] = tt
set_writes (e ∷ es) = (tt, set_writes es)

-- the nodes that have a value there
with_value : (n : Node) (x : Option Value) → (g : Globals) × (get g n ≡ x)
with_value n None = (empty, get-empty node_cmp n)
with_value n (Some v) = (insert empty n v, get-insert node_total (empty {K = Node} {X = Value} {R = node_cmp}) n v n ∙ ap (λ b. cond b (Some v) (get (empty {K = Node} {X = Value} {R = node_cmp}) n)) (ap is_eq (tied_itself node_total n)))

-- ---- of one object

module _ (e : Edits) where
  -- old entries are killed first; then the rows are killed and set, and the entries set
  abbrev pub first_writes : List Op
  first_writes = kills_of e.entry_kills

  abbrev pub later_writes : List Op
  later_writes = sets_of e.entry_sets ++ (sets_of e.row_sets ++ kills_of e.row_kills)

  whole_writes : (n : Node) (x : Option Value) → written (all_writes (λ (op : Op). op ∷ []) (writes_of e)) n x ≡ written later_writes n (written first_writes n x)
  whole_writes n x =
      writes_append (λ (op : Op). op ∷ []) (map Kill (e.entry_kills ++ e.row_kills)) (map set_of (e.row_sets ++ e.entry_sets)) n x
      ∙ ap (λ ops. written ops n (written (all_writes (λ (op : Op). op ∷ []) (map Kill (e.entry_kills ++ e.row_kills))) n x)) (sets_mapped (e.row_sets ++ e.entry_sets))
      ∙ ap (λ ops. written (sets_of (e.row_sets ++ e.entry_sets)) n (written ops n x)) (kills_mapped (e.entry_kills ++ e.row_kills))
      ∙ writes_append set_ops e.row_sets e.entry_sets n (written (kills_of (e.entry_kills ++ e.row_kills)) n x)
      ∙ ap (λ y. written (sets_of e.entry_sets) n (written (sets_of e.row_sets) n y)) (writes_append kill_ops e.entry_kills e.row_kills n x)
      ∙ sym (written-append (sets_of e.entry_sets) (sets_of e.row_sets ++ kills_of e.row_kills) n (written first_writes n x)
      ∙ ap (written (sets_of e.entry_sets) n) (written-append (sets_of e.row_sets) (kills_of e.row_kills) n (written first_writes n x)))

shown_stands : (classes : List Class) (key : Key) (n : Node) (o : Option Record) → shown classes key n o ≡ stands_if classes key n o
shown_stands classes key n None = refl
shown_stands classes key n (Some r) = refl

module _ (classes : List Class) (key : Key) (class : ClassName) (real : IsKeyOf classes key) (in' : extent_of classes class ≡ Some key.extent) (even : IsEvenExtent classes key.extent)
    (old new : Option Record) (of_old : IsOfClass class old) (of_new : IsOfClass class new) (n : Node) where
  abbrev edits : Edits
  edits = edits_of classes key old new

  pub own_work : owner classes n ≡ Some key → written (later_writes edits) n (written (first_writes edits) n (shown classes key n old)) ≡ shown classes key n new
  own_work own =
      let g = with_value n (shown classes key n old) in
      let s = opening 0 g.0 in
      let p : Pid = record { 0 = 0 } in
      sym (whole_writes edits n (shown classes key n old))
      ∙ ap (written (all_writes (λ (op : Op). op ∷ []) (writes_of edits)) n) (sym g.1)
      ∙ sym (played_written s p (writes_of edits) n (kill_writes (edits.entry_kills ++ edits.row_kills) (map set_of (edits.row_sets ++ edits.entry_sets)) (set_writes (edits.row_sets ++ edits.entry_sets))))
      ∙ writes_are_written classes key old new s p n
      ∙ (nodes_turn classes key class real in' even old new edits g.0 n of_old of_new (edits_are_changes classes key old new)).own own (g.1 ∙ shown_stands classes key n old)
      ∙ sym (shown_stands classes key n new)

  module _ (k : Key) (owned : owner classes n ≡ Some k) (apart : k ≢ key) (x : Option Value) where
    pub first_foreign : written (first_writes edits) n x ≡ x
    first_foreign = no_kills edits.entry_kills n x (ap (list_any (λ k. covers k n)) (edits_are_changes classes key old new).entry_kills
        ∙ none_killed (entries_if classes key old) (entries_if classes key new) n (their_entry_apart classes key class real in' even n k owned apart old of_old))

    pub later_foreign : written (later_writes edits) n x ≡ x
    later_foreign =
        let are = edits_are_changes classes key old new in
        written-append (sets_of edits.entry_sets) (sets_of edits.row_sets ++ kills_of edits.row_kills) n x
        ∙ no_sets edits.entry_sets n (written (sets_of edits.row_sets ++ kills_of edits.row_kills) n x) (ap (find node_cmp n) are.entry_sets ∙ none_set (entries_if classes key old) (entries_if classes key new) n (their_entry classes key class real in' even n k owned apart new of_new))
        ∙ written-append (sets_of edits.row_sets) (kills_of edits.row_kills) n x
        ∙ no_sets edits.row_sets n (written (kills_of edits.row_kills) n x) (ap (find node_cmp n) are.row_sets ∙ none_set (rows_if classes key old) (rows_if classes key new) n (their_row classes key class real in' even n k owned apart new))
        ∙ no_kills edits.row_kills n x (ap (list_any (λ k. covers k n)) are.row_kills ∙ none_killed (rows_if classes key old) (rows_if classes key new) n (their_row_apart classes key class real in' even n k owned apart old))
