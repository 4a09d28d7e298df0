-- A read with a lower bound of its walks answers what it answers with a higher one, where it isn't cut; and which record a row of a class gives.
use Rattle.std.proofs.Common.{◌≡◌, ℕ, zero, suc, ◌+◌, ◌≤◌, Bool, true, false, cond, List, [], ◌∷◌, length, Option, Some, None, refl, sym, ap, subst, ◌∙◌, arith}
use Rattle.std.specs.FinMap.{get, entries}
use Rattle.obj_kinds.specs.declared.name.ClassName.{ClassName}
use Rattle.obj_kinds.specs.declared.cause.Cause.{Cause}
use Rattle.obj_kinds.specs.declared.node.Node.{Node}
use Rattle.obj_kinds.specs.declared.sub.Sub.{Sub}
use Rattle.obj_kinds.specs.declared.sub.Sub.TheVariants.{Str}
use Rattle.obj_kinds.specs.declared.value.Value.{Value}
use Rattle.obj_kinds.specs.declared.op.Op.{Op}
use Rattle.obj_kinds.specs.declared.op.Op.TheVariants.{Get}
use Rattle.obj_kinds.specs.declared.op.Pid.{Pid}
use Rattle.obj_kinds.specs.declared.op.Reply.{Reply}
use Rattle.schema_kinds.specs.declared.class.Class.{Class}
use Rattle.schema_kinds.specs.declared.key.Key.{Key}
use Rattle.schema_kinds.specs.declared.kind.Item.{Item}
use Rattle.schema_kinds.specs.declared.record.Field.{Field}
use Rattle.schema_kinds.specs.declared.record.Record.{Record}
use Rattle.schema_kinds.specs.Worlds.{World}
use Rattle.record_layout.specs.Inverse.{each_read}
use Rattle.record_layout.specs.Items.{row_field}
use Rattle.record_layout.specs.Layout.{Layout, layout_of}
use Rattle.record_layout.specs.Rows.{data_node, below}
use Rattle.global_tree.specs.Below.{step_below, if_after}
use Rattle.record_reading.specs.Keys.{keys_below, keys_after, key_then}
use Rattle.record_reading.specs.Rows.{items_behind}
use Rattle.storage_map.specs.Entries.{has_legal_entries}
use Rattle.storage_map.specs.Markers.{row_class}
use Rattle.storage_map.specs.SoundWorlds.{IsSound}
use Rattle.storage_map.specs.Worlds.{IsKeyOf}
use Rattle.store_core.specs.Machine.{State, reply}
use Rattle.store_calls.specs.Calls.{Call, Give, Ask, Tell, Cut, Tag, Tried, Got, Lost, then, each, Round, Again, Ends, round, turns}
use Rattle.store_calls.specs.Walks.{first_walk, walk_turn, walk}
use Rattle.read_laws.specs.Undisturbed.{undisturbed, HasFewElements}
use Rattle.read_laws.specs.Shown.{ShowsAt}
use Rattle.read_laws.proofs.ShownLaws.{reads_show_worlds}
use Rattle.object_calls.specs.Extents.{refuses_none}
use Rattle.object_calls.specs.Reading.{value_found, or_damaged_at, read_list, is_element, read_array, within_limits, read_below, read_as, on_marker, on_row, read}
use Rattle.call_rules.specs.Schemas.{IsStorableSchema}
use Rattle.call_rules.proofs.Alike.{has_storable}

-- ---- the same call, cut earlier

abbrev pub IsCutOf : {A : Type 0} → Call A → Call A → Type 0
IsCutOf Cut d = Unit {0}
IsCutOf (Give a) d = d ≡ Give a
IsCutOf {A} (Tell x c) d = (e : Call A) × (d ≡ Tell x e) × IsCutOf c e
IsCutOf {A} (Ask op tag k) d = (j : Reply → Call A) × (d ≡ Ask op tag j) × ((r : Reply) → IsCutOf (k r) (j r))

cut_same : {A : Type 0} (c : Call A) → IsCutOf c c
cut_same Cut = tt
cut_same (Give a) = refl
cut_same (Tell x c) = (c, refl, cut_same c)
cut_same (Ask op tag k) = (k, refl, λ r. cut_same (k r))

cut_then : {A B : Type 0} (c d : Call (Tried A)) (f g : A → Call (Tried B)) → IsCutOf c d → ((a : A) → IsCutOf (f a) (g a)) → IsCutOf (then c f) (then d g)
cut_then Cut d f g h more = tt
cut_then (Give (Lost x)) d f g h more = ap (λ e. then e g) h
cut_then (Give (Got a)) d f g h more = subst (λ e. IsCutOf (f a) (then e g)) (sym h) (more a)
cut_then (Tell x c) d f g h more = (then h.0 g, ap (λ e. then e g) h.1, cut_then c h.0 f g h.2 more)
cut_then (Ask op tag k) d f g h more = ((λ r. then (h.0 r) g), ap (λ e. then e g) h.1, λ r. cut_then (k r) (h.0 r) f g (h.2 r) more)

cut_each : {A B : Type 0} (f g : A → Call (Tried B)) → ((x : A) → IsCutOf (f x) (g x)) → (xs : List A) → IsCutOf (each f xs) (each g xs)
cut_each f g h [] = refl
cut_each f g h (x ∷ xs) =
    cut_then (f x) (g x) (λ y. then (each f xs) (λ ys. Give (Got (y ∷ ys)))) (λ y. then (each g xs) (λ ys. Give (Got (y ∷ ys)))) (h x)
    (λ y. cut_then (each f xs) (each g xs) (λ ys. Give (Got (y ∷ ys))) (λ ys. Give (Got (y ∷ ys))) (cut_each f g h xs) (λ ys. refl))

cut_turns : {S A : Type 0} (body : S → Call (Tried (Round S A))) (n k : ℕ) (s : S) → IsCutOf (turns n body s) (turns (n + k) body s)
cut_turns body zero k s = tt
cut_turns {S} {A} body (suc n) k s = subst (λ m. IsCutOf (turns (suc n) body s) (turns m body s)) (let e : suc (n + k) ≡ suc n + k = omega arith in e)
    (cut_then (body s) (body s) (round (turns n body)) (round (turns (n + k) body)) (cut_same (body s)) (by (cut_turns body n k)))
  where
    by : ((s : S) → IsCutOf (turns n body s) (turns (n + k) body s)) → (x : Round S A) → IsCutOf (round (turns n body) x) (round (turns (n + k) body) x)
    by more (Again t) = more t
    by more (Ends a) = refl

cut_answers : {A : Type 0} (replies : Op → Reply) (c d : Call A) (a : A) → IsCutOf c d → undisturbed replies c ≡ Some a → undisturbed replies d ≡ Some a
cut_answers replies Cut d a h e = absurd (cc e)
cut_answers replies (Give b) d a h e = ap (undisturbed replies) h ∙ e
cut_answers replies (Tell x c) d a h e = ap (undisturbed replies) h.1 ∙ cut_answers replies c h.0 a h.2 e
cut_answers replies (Ask op tag k) d a h e = ap (undisturbed replies) h.1 ∙ cut_answers replies (k (replies op)) (h.0 (replies op)) a (h.2 (replies op)) e

-- ---- a read of a row that has a class

-- what goes on behind a first part was answered by the rest
then_got : {A B : Type 0} (replies : Op → Reply) (c : Call (Tried A)) (f : A → Call (Tried B)) (b : B) → undisturbed replies (then c f) ≡ Some (Got b) → (a : A) × (undisturbed replies (f a) ≡ Some (Got b))
then_got replies Cut f b e = absurd (cc e)
then_got replies (Give (Lost x)) f b e = absurd (cc e)
then_got replies (Give (Got a)) f b e = (a, e)
then_got replies (Tell x c) f b e = then_got replies c f b e
then_got replies (Ask op tag k) f b e = then_got replies (k (replies op)) f b e

module _ (classes : List Class) (key : Key) (tag : Tag) where
  module _ (most more : ℕ) where
    cut_array : (a : List ℕ × Item) → IsCutOf (read_array classes key tag most a) (read_array classes key tag (most + more) a)
    unfolding walk
    cut_array a = cut_then (walk (below (data_node key) (Str a.0 ∷ [])) tag (is_element classes key tag most a.1) most first_walk) (walk (below (data_node key) (Str a.0 ∷ [])) tag (is_element classes key tag (most + more) a.1) (most + more) first_walk) _ _
        (cut_turns (walk_turn (below (data_node key) (Str a.0 ∷ [])) tag (is_element classes key tag most a.1)) most more first_walk) (λ es. refl)

    cut_below : (class : ClassName) (layout : Layout) (first : List Field) → IsCutOf (read_below classes key tag most class layout first) (read_below classes key tag (most + more) class layout first)
    cut_below class layout first =
        cut_then (each (read_list classes key tag most) layout.lower) (each (read_list classes key tag (most + more)) layout.lower) _ _ (cut_same (each (read_list classes key tag most) layout.lower)) (λ lists.
        cut_then (each (read_array classes key tag most) layout.arrays) (each (read_array classes key tag (most + more)) layout.arrays) _ _ (cut_each (read_array classes key tag most) (read_array classes key tag (most + more)) cut_array layout.arrays) (λ maps. refl))

    cut_as : (class : ClassName) (items : List Value) → IsCutOf (read_as classes key tag most class items) (read_as classes key tag (most + more) class items)
    unfolding read_as
    cut_as class items =
        cut_then (Give (or_damaged_at (data_node key) (each_read (row_field classes) (layout_of classes class).root items))) (Give (or_damaged_at (data_node key) (each_read (row_field classes) (layout_of classes class).root items)))
        (read_below classes key tag most class (layout_of classes class)) (read_below classes key tag (most + more) class (layout_of classes class))
        refl (λ first. cut_below class (layout_of classes class) first)

    cut_row : (o : Option Value) → IsCutOf (on_row classes key tag most refuses_none o) (on_row classes key tag (most + more) refuses_none o)
    cut_row None = refl
    cut_row (Some v) = by (row_class classes key.extent v)
      where
        by : (o : Option ClassName) → IsCutOf (on_marker classes key tag most refuses_none (items_behind v) o) (on_marker classes key tag (most + more) refuses_none (items_behind v) o)
        by None = refl
        by (Some class) = cut_as class (items_behind v)

  within_class : (most : ℕ) (r : Record) (o : Option Record) → within_limits classes key tag most r ≡ Got o → (q : Record) × (o ≡ Some q) × (q.class ≡ r.class)
  within_class most r o = by (has_legal_entries classes key r)
    where
      by : (c : Bool) → cond c (Got (Some r)) (Lost (Rattle.obj_kinds.specs.declared.cause.Cause.TheVariants.Damaged (data_node key))) ≡ Got o → (q : Record) × (o ≡ Some q) × (q.class ≡ r.class)
      by true e = (r, cc e, refl)
      by false e = absurd (cc e)

  given : {A : Type 0} (x y : A) → Some x ≡ Some y → x ≡ y
  given x y e = cc e

  -- it is a record of this class
  pub read_class : (most : ℕ) (replies : Op → Reply) (class : ClassName) (items : List Value) (o : Option Record) → undisturbed replies (read_as classes key tag most class items) ≡ Some (Got o) → (q : Record) × (o ≡ Some q) × (q.class ≡ class)
  unfolding read_as
  read_class most replies class items o e =
      let first = then_got replies (Give (or_damaged_at (data_node key) (each_read (row_field classes) (layout_of classes class).root items))) (read_below classes key tag most class (layout_of classes class)) o e in
      let lists = then_got replies (each (read_list classes key tag most) (layout_of classes class).lower) _ o first.1 in
      let maps = then_got replies (each (read_array classes key tag most) (layout_of classes class).arrays) _ o lists.1 in
      within_class most _ o (given _ _ maps.1)

-- ---- what a read of a sound world answers

keys_short : (n : Node) (last : Option Sub) (es : List (Node × Value)) → length (keys_after n last es) ≤ length es
keys_short n last [] = omega arith
keys_short n last (e ∷ es) = by (if_after last (step_below n e.0)) (λ k. keys_short n k es)
  where
    by : (o : Option Sub) → ((k : Option Sub) → length (keys_after n k es) ≤ length es) → length (key_then o (keys_after n last es) (λ k. keys_after n (Some k) es)) ≤ suc (length es)
    by None h = let a = h last in omega (arith, a)
    by (Some k) h = let a = h (Some k) in omega (arith, a)

few : (key : Key) (nodes : List (Node × Value)) (most : ℕ) → HasFewElements key nodes (most + suc (length nodes))
unfolding keys_below
few key nodes most name = let a = keys_short (below (data_node key) (Str name ∷ [])) None nodes in omega (arith, a)

-- where no class is refused and it isn't cut, it is what the world has
pub row_tells : (classes : List Class) (key : Key) (tag : Tag) (most : ℕ) (s : State) (p : Pid) (w : World) (y : Tried (Option Record))
    → IsStorableSchema classes → IsKeyOf classes key → IsSound classes w → ShowsAt classes s.globals w key
    → undisturbed (reply s p) (on_row classes key tag most refuses_none (value_found (reply s p (Get (data_node key))))) ≡ Some y → y ≡ Got (get w key)
unfolding read
row_tells classes key tag most s p w y schema real sound shows e =
    let more = suc (length (entries s.globals)) in
    let row = value_found (reply s p (Get (data_node key))) in
    let all = reads_show_worlds classes key tag (most + more) s p w (few key (entries s.globals) most) real (has_storable classes w key schema sound) shows in
    one (sym (cut_answers (reply s p) (on_row classes key tag most refuses_none row) (on_row classes key tag (most + more) refuses_none row) y (cut_row classes key tag most more row) e) ∙ all)
  where
    one : Some y ≡ Some (Got (get w key)) → y ≡ Got (get w key)
    one f = cc f

-- a row that has a class is that of a record of this class
pub row_has_class : (classes : List Class) (key : Key) (tag : Tag) (s : State) (p : Pid) (w : World) (v : Value) (class : ClassName)
    → IsStorableSchema classes → IsKeyOf classes key → IsSound classes w → ShowsAt classes s.globals w key
    → value_found (reply s p (Get (data_node key))) ≡ Some v → row_class classes key.extent v ≡ Some class → (q : Record) × (get w key ≡ Some q) × (q.class ≡ class)
unfolding read
row_has_class classes key tag s p w v class schema real sound shows e f =
    let most = 1 + suc (length (entries s.globals)) in
    let all = reads_show_worlds classes key tag most s p w (few key (entries s.globals) 1) real (has_storable classes w key schema sound) shows in
    read_class classes key tag most (reply s p) class (items_behind v) (get w key)
    (subst (λ m. undisturbed (reply s p) (on_marker classes key tag most refuses_none (items_behind v) m) ≡ Some (Got (get w key))) f
    (subst (λ o. undisturbed (reply s p) (on_row classes key tag most refuses_none o) ≡ Some (Got (get w key))) e all))
