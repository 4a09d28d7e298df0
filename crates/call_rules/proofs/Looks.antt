-- Calls that only look at or below the row of a key; the read of a record is one.
use Rattle.std.proofs.Common.{◌≡◌, ℕ, zero, suc, Bool, true, false, cond, List, [], ◌∷◌, ◌++◌, Option, Some, None, refl, sym, ap, ◌∙◌, append_assoc}
use Rattle.obj_kinds.specs.declared.name.ClassName.{ClassName}
use Rattle.obj_kinds.specs.declared.node.Node.{Node}
use Rattle.obj_kinds.specs.declared.sub.Sub.{Sub}
use Rattle.obj_kinds.specs.declared.sub.Sub.TheVariants.{Str}
use Rattle.obj_kinds.specs.declared.value.Value.{Value}
use Rattle.obj_kinds.specs.declared.op.Op.{Op}
use Rattle.obj_kinds.specs.declared.op.Op.TheVariants.{Get, Order}
use Rattle.obj_kinds.specs.declared.op.Reply.{Reply}
use Rattle.obj_kinds.specs.declared.op.Reply.TheVariants.{Found, Next}
use Rattle.obj_kinds.specs.declared.cause.Cause.{Cause}
use Rattle.schema_kinds.specs.declared.class.Class.{Class}
use Rattle.schema_kinds.specs.declared.key.Key.{Key}
use Rattle.schema_kinds.specs.declared.kind.Item.{Item}
use Rattle.schema_kinds.specs.declared.record.Field.{Field}
use Rattle.schema_kinds.specs.declared.record.Record.{Record}
use Rattle.record_layout.specs.Shapes.{Form}
use Rattle.record_layout.specs.Inverse.{each_read}
use Rattle.record_layout.specs.Items.{row_field}
use Rattle.record_layout.specs.Layout.{Layout, layout_of}
use Rattle.record_layout.specs.Rows.{data_node, below}
use Rattle.record_reading.specs.Rows.{items_behind}
use Rattle.storage_map.specs.Markers.{row_class}
use Rattle.store_calls.specs.Calls.{Call, Give, Ask, Tell, Cut, Tag, bind, Tried, Got, Lost, then, then_on, each, Round, Again, Ends, round, turns}
use Rattle.store_calls.specs.Walks.{child, Elements, Walk, first_walk, on_element, element, on_key, walk_turn, walk}
use Rattle.object_calls.specs.Reading.{value_found, or_damaged_at, read_list, is_element, read_array, read_below, read_as, on_refusal, on_marker, on_row, read}

abbrev pub LooksBelow : Key → Op → Type 0
LooksBelow key (Get n) = (way : List Sub) × (n ≡ below (data_node key) way)
LooksBelow key (Order n s) = (way : List Sub) × (n ≡ below (data_node key) way)
LooksBelow key _ = ⊥

-- each operation, whatever the replies, looks at or below the row, and nothing is told
abbrev pub OnlyLooks : {A : Type 0} → Key → Tag → Call A → Type 0
OnlyLooks key tag (Give a) = Unit {0}
OnlyLooks key tag Cut = Unit {0}
OnlyLooks key tag (Tell x c) = ⊥
OnlyLooks key tag (Ask op t k) = LooksBelow key op × (t ≡ tag) × ((r : Reply) → OnlyLooks key tag (k r))

module _ (key : Key) (tag : Tag) where
  pub only_bind : {A B : Type 0} (c : Call A) (f : A → Call B) → OnlyLooks key tag c → ((a : A) → OnlyLooks key tag (f a)) → OnlyLooks key tag (bind c f)
  only_bind (Give a) f h g = g a
  only_bind Cut f h g = tt
  only_bind (Tell x c) f h g = absurd h
  only_bind (Ask op t k) f h g = (h.0, h.1, λ r. only_bind (k r) f (h.2 r) g)

  only_then : {A B : Type 0} (c : Call (Tried A)) (f : A → Call (Tried B)) → OnlyLooks key tag c → ((a : A) → OnlyLooks key tag (f a)) → OnlyLooks key tag (then c f)
  only_then {A} c f h g = only_bind c (then_on f) h by
    where
      by : (x : Tried A) → OnlyLooks key tag (then_on f x)
      by (Got a) = g a
      by (Lost x) = tt

  only_each : {A B : Type 0} (f : A → Call (Tried B)) → ((x : A) → OnlyLooks key tag (f x)) → (xs : List A) → OnlyLooks key tag (each f xs)
  only_each f h [] = tt
  only_each f h (x ∷ xs) = only_then (f x) (λ y. then (each f xs) (λ ys. Give (Got (y ∷ ys)))) (h x) (λ y. only_then (each f xs) (λ ys. Give (Got (y ∷ ys))) (only_each f h xs) (λ ys. tt))

  only_turns : {S A : Type 0} (body : S → Call (Tried (Round S A))) → ((s : S) → OnlyLooks key tag (body s)) → (most : ℕ) (s : S) → OnlyLooks key tag (turns most body s)
  only_turns body h zero s = tt
  only_turns {S} {A} body h (suc n) s = only_then (body s) (round (turns n body)) (h s) (by (only_turns body h n))
    where
      by : ((s : S) → OnlyLooks key tag (turns n body s)) → (x : Round S A) → OnlyLooks key tag (round (turns n body) x)
      by more (Again s') = more s'
      by more (Ends a) = tt

  only_walk : (way : List Sub) (n : Node) → n ≡ below (data_node key) way → (is_form : Node → Value → Bool) (most : ℕ) (w : Walk) → OnlyLooks key tag (walk n tag is_form most w)
  unfolding walk child
  only_walk way n is is_form most w = only_turns (walk_turn n tag is_form) (λ v. ((way, is), refl, λ r. on v r)) most w
    where
      below_child : (s : Sub) → child n s ≡ below (data_node key) (way ++ s ∷ [])
      below_child s = ap (λ (m : Node). record { global = m.global; subs = m.subs ++ s ∷ [] }) is ∙ (λ i. record { global = (data_node key).global; subs = append_assoc (data_node key).subs way (s ∷ []) i })

      on : (v : Walk) (r : Reply) → OnlyLooks key tag (on_key n tag is_form v.found r)
      on v (Next s) = ((way ++ s ∷ [], below_child s), refl, λ r. tt)
      on v _ = tt

  module _ (classes : List Class) (most : ℕ) where
    only_list : (l : List ℕ × List Form) → OnlyLooks key tag (read_list classes key tag most l)
    only_list l = ((Str l.0 ∷ [], refl), refl, λ r. tt)

    only_array : (a : List ℕ × Item) → OnlyLooks key tag (read_array classes key tag most a)
    only_array a = only_then (walk (below (data_node key) (Str a.0 ∷ [])) tag (is_element classes key tag most a.1) most first_walk) _ (only_walk (Str a.0 ∷ []) (below (data_node key) (Str a.0 ∷ [])) refl (is_element classes key tag most a.1) most first_walk) (λ es. tt)

    only_below : (class : ClassName) (layout : Layout) (first : List Field) → OnlyLooks key tag (read_below classes key tag most class layout first)
    only_below class layout first =
        only_then (each (read_list classes key tag most) layout.lower) _ (only_each (read_list classes key tag most) only_list layout.lower) (λ lists.
        only_then (each (read_array classes key tag most) layout.arrays) _ (only_each (read_array classes key tag most) only_array layout.arrays) (λ maps. tt))

    only_as : (class : ClassName) (items : List Value) → OnlyLooks key tag (read_as classes key tag most class items)
    unfolding read_as
    only_as class items =
        only_then (Give (or_damaged_at (data_node key) (each_read (row_field classes) (layout_of classes class).root items))) (read_below classes key tag most class (layout_of classes class)) tt
        (λ first. only_below class (layout_of classes class) first)

    pub only_row : (refuses : ClassName → Option Cause) (o : Option Value) → OnlyLooks key tag (on_row classes key tag most refuses o)
    only_row refuses None = tt
    only_row refuses (Some v) = marked (row_class classes key.extent v)
      where
        refused : (class : ClassName) (x : Option Cause) → OnlyLooks key tag (on_refusal classes key tag most class (items_behind v) x)
        refused class (Some x) = tt
        refused class None = only_as class (items_behind v)

        marked : (o : Option ClassName) → OnlyLooks key tag (on_marker classes key tag most refuses (items_behind v) o)
        marked None = tt
        marked (Some class) = refused class (refuses class)
