-- What a read by a store's replies tells of a sound world; and stores that agree at and below a row reply alike there.
use Rattle.std.proofs.Common.{Ordering, Less, Equal, Greater, ◌≡◌, ◌≢◌, ℕ, suc, ◌+◌, ◌≤◌, ◌<◌, Bool, true, false, List, [], ◌∷◌, ◌++◌, length, Option, Some, None, is_some, refl, sym, ap, subst, ◌∙◌, arith, append_assoc}
use Rattle.std.specs.Ordering.{ordering_reverse}
use Rattle.std.specs.FinMap.{get, contains_key, entries}
use Rattle.obj_kinds.specs.declared.name.ClassName.{ClassName}
use Rattle.obj_kinds.specs.declared.node.Node.{Node}
use Rattle.obj_kinds.specs.declared.sub.Sub.{Sub}
use Rattle.obj_kinds.specs.declared.sub.Sub.TheVariants.{Str}
use Rattle.obj_kinds.specs.declared.value.Value.{Value}
use Rattle.obj_kinds.specs.declared.op.Pid.{Pid}
use Rattle.obj_kinds.specs.declared.op.Op.{Op}
use Rattle.obj_kinds.specs.declared.op.Op.TheVariants.{Get, Order}
use Rattle.obj_kinds.specs.declared.op.Reply.{Reply}
use Rattle.obj_kinds.specs.declared.cause.Cause.{Cause}
use Rattle.obj_kinds.specs.Order.{sub_cmp, covers}
use Rattle.obj_kinds.proofs.OrderLemmas.{sub_total, sub_exact}
use Rattle.schema_kinds.specs.declared.class.Class.{Class}
use Rattle.schema_kinds.specs.declared.key.Key.{Key}
use Rattle.schema_kinds.specs.declared.record.Record.{Record}
use Rattle.schema_kinds.specs.Worlds.{World}
use Rattle.global_tree.specs.Contents.{Globals}
use Rattle.global_tree.specs.Below.{child, next_below, IsThere, IsNext, IsLast, is_after, step_below, if_after}
use Rattle.global_tree.proofs.NextLaws.{is_next, is_last}
use Rattle.global_tree.proofs.MapLaws.{one_key}
use Rattle.record_layout.specs.Rows.{data_node, below}
use Rattle.record_reading.specs.Keys.{key_then, keys_after, keys_below}
use Rattle.record_reading.specs.Laws.{IsStoredAt}
use Rattle.storage_map.specs.Entries.{has_legal_entries}
use Rattle.storage_map.specs.Worlds.{owner, IsKeyOf}
use Rattle.storage_map.specs.SoundWorlds.{IsSound, passes_no_limit}
use Rattle.storage_map.proofs.OwnerLaws.{rows_belong}
use Rattle.world_images.proofs.EntryLaws.{and_second}
use Rattle.world_images.proofs.TurnLaws.{covers_is}
use Rattle.store_core.specs.Machine.{State, found_or, next_or, reply}
use Rattle.store_calls.specs.Calls.{Tag, Got}
use Rattle.object_calls.specs.Extents.{refuses_none}
use Rattle.object_calls.specs.Reading.{read}
use Rattle.read_laws.specs.Undisturbed.{undisturbed, HasFewElements}
use Rattle.read_laws.specs.Shown.{HasStorable, ShowsAt}
use Rattle.read_laws.proofs.ShownLaws.{reads_show_worlds}
use Rattle.call_rules.specs.Schemas.{IsStorableSchema}
use Rattle.call_rules.proofs.Looks.{LooksBelow}
use Rattle.call_rules.proofs.Lesser.{less_read, less_answers}

-- ---- what stands next below a node

neither : (s t : Sub) → sub_cmp s t ≢ Less → sub_cmp t s ≢ Less → s ≡ t
neither s t h k = by (sub_cmp s t) refl
  where
    by : (o : Ordering) → sub_cmp s t ≡ o → s ≡ t
    by Less e = absurd (h e)
    by Equal e = sub_exact s t e
    by Greater e = absurd (k (sub_total.antisymm t s ∙ ap ordering_reverse e))

module _ (g h : Globals) (n : Node) (alike : (s : Sub) (m : Node) → covers (child n s) m ≡ true → get g m ≡ get h m) where
  there : (s : Sub) → IsThere g n s → IsThere h n s
  there s is = (is.0, is.1, ap is_some (sym (alike s is.0 is.1)) ∙ is.2)

  back : (s : Sub) → IsThere h n s → IsThere g n s
  back s is = (is.0, is.1, ap is_some (alike s is.0 is.1) ∙ is.2)

  pub next_alike : (after : Option Sub) → next_below g n after ≡ next_below h n after
  next_alike after = by (next_below g n after) refl (next_below h n after) refl
    where
      by : (a : Option Sub) → next_below g n after ≡ a → (b : Option Sub) → next_below h n after ≡ b → next_below g n after ≡ next_below h n after
      by None e None f = e ∙ sym f
      by None e (Some t) f = let one = is_next h n after t f in absurd (is_last g n after e t one.late (back t one.there))
      by (Some s) e None f = let one = is_next g n after s e in absurd (is_last h n after f s one.late (there s one.there))
      by (Some s) e (Some t) f =
          let one = is_next g n after s e in
          let two = is_next h n after t f in
          e ∙ ap Some (neither s t (λ less. two.least s one.late (there s one.there) less) (λ less. one.least t two.late (back t two.there) less)) ∙ sym f

-- ---- stores that agree at the nodes of a key

module _ (classes : List Class) (key : Key) (real : IsKeyOf classes key) (g h : Globals) (alike : (n : Node) → owner classes n ≡ Some key → get g n ≡ get h n) where
  below_below : (way : List Sub) (s : Sub) (m : Node) → covers (child (below (data_node key) way) s) m ≡ true → owner classes m ≡ Some key
  below_below way s m c =
      let rest = covers_is (child (below (data_node key) way) s) m c in
      ap (owner classes) (rest.1 ∙ (λ i. record { global = (data_node key).global; subs = (append_assoc ((data_node key).subs ++ way) (s ∷ []) rest.0 ∙ append_assoc (data_node key).subs way (s ∷ rest.0)) i }))
      ∙ rows_belong classes key (way ++ s ∷ rest.0) real

  pub get_alike : (way : List Sub) → get g (below (data_node key) way) ≡ get h (below (data_node key) way)
  get_alike way = alike (below (data_node key) way) (rows_belong classes key way real)

  pub order_alike : (way : List Sub) (after : Option Sub) → next_below g (below (data_node key) way) after ≡ next_below h (below (data_node key) way) after
  order_alike way after = next_alike g h (below (data_node key) way) (λ s m c. alike m (below_below way s m c)) after

pub replies_alike : (classes : List Class) (key : Key) (s u : State) (p : Pid) (op : Op) → IsKeyOf classes key → ((n : Node) → owner classes n ≡ Some key → get s.globals n ≡ get u.globals n) → LooksBelow key op → reply s p op ≡ reply u p op
unfolding reply Rattle.store_core.specs.Machine.answer
replies_alike classes key s u p (Get n) real alike looks =
    ap found_or (ap (get s.globals) looks.1 ∙ get_alike classes key real s.globals u.globals alike looks.0 ∙ ap (get u.globals) (sym looks.1))
replies_alike classes key s u p (Order n after) real alike looks =
    ap next_or (ap (λ m. next_below s.globals m after) looks.1 ∙ order_alike classes key real s.globals u.globals alike looks.0 after ∙ ap (λ m. next_below u.globals m after) (sym looks.1))
replies_alike classes key s u p op real alike looks = absurd looks

-- ---- a read of a sound world

keys_short : (n : Node) (last : Option Sub) (es : List (Node × Value)) → length (keys_after n last es) ≤ length es
keys_short n last [] = omega arith
keys_short n last (e ∷ es) = by (if_after last (step_below n e.0)) (λ k. keys_short n k es)
  where
    by : (o : Option Sub) → ((k : Option Sub) → length (keys_after n k es) ≤ length es) → length (key_then o (keys_after n last es) (λ k. keys_after n (Some k) es)) ≤ suc (length es)
    by None h = let a = h last in omega (arith, a)
    by (Some k) h = let a = h (Some k) in omega (arith, a)

few : (key : Key) (nodes : List (Node × Value)) (most : ℕ) → HasFewElements key nodes (most + suc (length nodes))
unfolding keys_below
few key nodes most name = let a = keys_short (below (data_node key) (Str name ∷ [])) None nodes in omega (arith, a)

pub has_storable : (classes : List Class) (w : World) (key : Key) → IsStorableSchema classes → IsSound classes w → HasStorable classes w key
unfolding passes_no_limit
has_storable classes w key schema sound r there =
    let at = sound.records key r there in
    (schema.storable r.class key.extent at.record_of.extent, record { extent = at.record_of.extent; fields = at.record_of.fields; entries = and_second _ (has_legal_entries classes key r) at.limits })

-- where it answers a record or none, this is what the world has
pub read_tells : (classes : List Class) (key : Key) (tag : Tag) (most : ℕ) (refuses : ClassName → Option Cause) (s : State) (p : Pid) (w : World) (o : Option Record)
    → IsStorableSchema classes → IsKeyOf classes key → IsSound classes w → ShowsAt classes s.globals w key
    → undisturbed (reply s p) (read classes key tag most refuses) ≡ Some (Got o) → o ≡ get w key
read_tells classes key tag most refuses s p w o schema real sound shows e =
    let more = suc (length (entries s.globals)) in
    one (sym (less_answers (reply s p) (read classes key tag most refuses) (read classes key tag (most + more) refuses_none) o (less_read classes key tag most more refuses) e)
    ∙ reads_show_worlds classes key tag (most + more) s p w (few key (entries s.globals) most) real (has_storable classes w key schema sound) shows)
  where
    one : Some (Got o) ≡ Some (Got (get w key)) → o ≡ get w key
    one f = cc f
