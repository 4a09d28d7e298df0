-- A load asks for the nodes of its own key alone.
use Rattle.std.proofs.Common.{◌≡◌, ℕ, zero, suc, ◌-◌, Bool, true, false, List, [], ◌∷◌, ◌++◌, append-nil, Option, None, Some, refl, sym, ap, ◌∙◌}
use Rattle.std.specs.Prelude.{◌&&◌, ◌==◌, cond, nat_lt}
use Rattle.std.proofs.lemmas.List.{append_assoc}
use Rattle.obj_kinds.specs.declared.name.ClassName.{ClassName}
use Rattle.obj_kinds.specs.declared.node.Node.{Node}
use Rattle.obj_kinds.specs.declared.sub.Sub.{Sub}
use Rattle.obj_kinds.specs.declared.sub.Sub.TheVariants.{Str}
use Rattle.obj_kinds.specs.declared.value.Value.{Value}
use Rattle.obj_kinds.specs.declared.cause.Cause.{Cause}
use Rattle.obj_kinds.specs.declared.op.Op.{Op}
use Rattle.obj_kinds.specs.declared.op.Op.TheVariants.{Get, Order}
use Rattle.obj_kinds.specs.declared.op.Mode.{Mode}
use Rattle.obj_kinds.specs.declared.op.Mode.TheVariants.{Shared, Exclusive}
use Rattle.obj_kinds.specs.declared.op.Reply.{Reply}
use Rattle.obj_kinds.specs.declared.op.Reply.TheVariants.{Next, Granted, Held}
use Rattle.schema_kinds.specs.declared.class.Class.{Class}
use Rattle.schema_kinds.specs.declared.key.Key.{Key}
use Rattle.schema_kinds.specs.declared.kind.Item.{Item}
use Rattle.schema_kinds.specs.declared.record.Field.{Field}
use Rattle.schema_kinds.specs.declared.record.Record.{Record}
use Rattle.record_layout.specs.Rows.{data_node, below}
use Rattle.record_layout.specs.Shapes.{Form}
use Rattle.record_layout.specs.Layout.{Layout, layout_of}
use Rattle.storage_map.specs.Markers.{row_class}
use Rattle.record_reading.specs.Rows.{items_behind}
use Rattle.store_calls.specs.Calls.{Call, Give, Ask, Tell, Cut, bind, Tag, Plain, Tried, Got, Lost, then, then_on, each, on_lock, try, try_from, Round, Again, Ends, round, turns, answered, step, asked_by, asked}
use Rattle.store_calls.specs.Walks.{Elements, Walk, child, on_key, walk_turn, walk, first_walk}
use Rattle.object_calls.specs.Asking.{when, does, timed_from, lock_counted, unlock}
use Rattle.object_calls.specs.Extents.{refuses_other}
use Rattle.object_calls.specs.Reading.{is_element, read_list, read_array, read_below, read_as, on_refusal, on_marker, on_row, value_found, read}
use Rattle.object_calls.specs.Loads.{LoadCall, load_mode, load_gives, load_ends, keeps_lock, load_read, load_locked, load_by, load, raise_lock, raise_ends, raise}
use Rattle.read_plan.specs.Reads.{IsOwnNode}
use Rattle.load_plan.specs.Own.{IsOfKey, AsksOnly, AreAll}

-- ---- calls of parts

module _ (P : Op → Type 0) where
  only_bind : {A B : Type 0} (c : Call A) (f : A → Call B) → AsksOnly P c → ((a : A) → AsksOnly P (f a)) → AsksOnly P (bind c f)
  only_bind (Give a) f h g = g a
  only_bind (Ask op tag k) f h g = (h.0, λ r. only_bind (k r) f (h.1 r) g)
  only_bind (Tell x c) f h g = only_bind c f h g
  only_bind Cut f h g = tt

  on_then : {A B : Type 0} (f : A → Call (Tried B)) → ((a : A) → AsksOnly P (f a)) → (x : Tried A) → AsksOnly P (then_on f x)
  on_then f g (Got a) = g a
  on_then f g (Lost x) = tt

  only_then : {A B : Type 0} (c : Call (Tried A)) (f : A → Call (Tried B)) → AsksOnly P c → ((a : A) → AsksOnly P (f a)) → AsksOnly P (then c f)
  only_then c f h g = only_bind c (then_on f) h (on_then f g)

  only_each : {A B : Type 0} (f : A → Call (Tried B)) → ((a : A) → AsksOnly P (f a)) → (xs : List A) → AsksOnly P (each f xs)
  only_each f g [] = tt
  only_each f g (x ∷ xs) = only_then (f x) (λ y. then (each f xs) (λ ys. Give (Got (y ∷ ys)))) (g x) (λ y. only_then (each f xs) (λ ys. Give (Got (y ∷ ys))) (only_each f g xs) (λ ys. tt))

  only_timed : {A : Type 0} (n : ℕ) (c : Call A) → AsksOnly P c → AsksOnly P (timed_from n c)
  only_timed n (Give a) h = tt
  only_timed n (Ask op tag k) h = (h.0, λ r. only_timed (suc n) (k r) (h.1 r))
  only_timed n (Tell x c) h = only_timed n c h
  only_timed n Cut h = tt

  only_try : (last : Cause) (tag : Tag) (n : ℕ) (op : Op) → P op → AsksOnly P (try_from last tag n op)
  only_try last tag zero op h = tt
  only_try last tag (suc n) op h = (h, λ r. by (λ x. only_try x tag n op h) r)
    where
      by : ((x : Cause) → AsksOnly P (try_from x tag n op)) → (r : Reply) → AsksOnly P (on_lock r (λ x. try_from x tag n op))
      by again Granted = tt
      by again (Held p m mode) = again _
      by again r = again _

  only_turns : {S A : Type 0} (body : S → Call (Tried (Round S A))) → ((s : S) → AsksOnly P (body s)) → (n : ℕ) (s : S) → AsksOnly P (turns n body s)
  only_turns body g zero s = tt
  only_turns {S} {A} body g (suc n) s = only_then (body s) (round (turns n body)) (g s) (by (only_turns body g n))
    where
      by : ((s : S) → AsksOnly P (turns n body s)) → (x : Round S A) → AsksOnly P (round (turns n body) x)
      by more (Again t) = more t
      by more (Ends a) = tt

  -- ---- what is asked by these replies

  only_answered : {A : Type 0} (c : Call A) (r : Reply) → AsksOnly P c → AsksOnly P (answered c r)
  only_answered (Give a) r h = tt
  only_answered (Ask op tag k) r h = h.1 r
  only_answered (Tell x c) r h = only_answered c r h
  only_answered Cut r h = tt

  only_step : {A : Type 0} (c : Call A) (rest : List Op) → AsksOnly P c → AreAll P rest → AreAll P (asked_by (step c) rest)
  only_step (Give a) rest h k = tt
  only_step (Ask op tag j) rest h k = (h.0, k)
  only_step (Tell x c) rest h k = only_step c rest h k
  only_step Cut rest h k = tt

  only_asked : {A : Type 0} (c : Call A) → AsksOnly P c → (rs : List Reply) → AreAll P (asked c rs)
  only_asked c h [] = only_step c [] h tt
  only_asked c h (r ∷ rs) = only_step c (asked (answered c r) rs) h (only_asked (answered c r) (only_answered c r h) rs)

-- ---- a read

module _ (classes : List Class) (key : Key) (tag : Tag) (most : ℕ) where
  abbrev named : List ℕ → Node
  named name = below (data_node key) (Str name ∷ [])

  own_row : IsOwnNode key (data_node key)
  own_row = ([], ap (λ subs. record { global = (data_node key).global; subs = subs }) (sym (append-nil (data_node key).subs)))

  own_child : (name : List ℕ) (k : Sub) → IsOwnNode key (child (named name) k)
  unfolding child
  own_child name k = (Str name ∷ k ∷ [], ap (λ subs. record { global = (data_node key).global; subs = subs }) (append_assoc (data_node key).subs (Str name ∷ []) (k ∷ [])))

  list_own : (l : List ℕ × List Form) → AsksOnly (IsOfKey key) (read_list classes key tag most l)
  list_own l = ((Str l.0 ∷ [], refl), λ r. tt)

  walk_own : (name : List ℕ) (is_form : Node → Value → Bool) (w : Walk) → AsksOnly (IsOfKey key) (walk (named name) tag is_form most w)
  unfolding walk
  walk_own name is_form w = only_turns (IsOfKey key) (walk_turn (named name) tag is_form) (λ s. ((Str name ∷ [], refl), λ r. by s.found r)) most w
    where
      by : (found : Elements) (r : Reply) → AsksOnly (IsOfKey key) (on_key (named name) tag is_form found r)
      by found (Next k) = (own_child name k, λ r. tt)
      by found r = tt

  array_own : (a : List ℕ × Item) → AsksOnly (IsOfKey key) (read_array classes key tag most a)
  array_own a = only_then (IsOfKey key) (walk (named a.0) tag (is_element classes key tag most a.1) most first_walk) _ (walk_own a.0 (is_element classes key tag most a.1) first_walk) (λ es. tt)

  below_own : (class : ClassName) (layout : Layout) (first : List Field) → AsksOnly (IsOfKey key) (read_below classes key tag most class layout first)
  below_own class layout first =
      only_then (IsOfKey key) (each (read_list classes key tag most) layout.lower) _ (only_each (IsOfKey key) (read_list classes key tag most) list_own layout.lower)
      (λ lists. only_then (IsOfKey key) (each (read_array classes key tag most) layout.arrays) _ (only_each (IsOfKey key) (read_array classes key tag most) array_own layout.arrays) (λ maps. tt))

  as_own : (class : ClassName) (items : List Value) → AsksOnly (IsOfKey key) (read_as classes key tag most class items)
  unfolding read_as
  as_own class items = on_then (IsOfKey key) (read_below classes key tag most class (layout_of classes class)) (below_own class (layout_of classes class)) _

  row_own : (refuses : ClassName → Option Cause) (o : Option Value) → AsksOnly (IsOfKey key) (on_row classes key tag most refuses o)
  row_own refuses None = tt
  row_own refuses (Some v) = by (row_class classes key.extent v)
    where
      refused : (class : ClassName) (o : Option Cause) → AsksOnly (IsOfKey key) (on_refusal classes key tag most class (items_behind v) o)
      refused class (Some x) = tt
      refused class None = as_own class (items_behind v)

      by : (o : Option ClassName) → AsksOnly (IsOfKey key) (on_marker classes key tag most refuses (items_behind v) o)
      by None = tt
      by (Some class) = refused class (refuses class)

  read_own : (refuses : ClassName → Option Cause) → AsksOnly (IsOfKey key) (read classes key tag most refuses)
  unfolding read
  read_own refuses = (own_row, λ r. row_own refuses (value_found r))

-- ---- a load

module _ (classes : List Class) (tries most : ℕ) (l : LoadCall) where
  gives_own : (more : ℕ) (x : Tried (Option Record) × ℕ) → AsksOnly (IsOfKey l.key) (load_gives classes tries most l more x)
  gives_own more (Got (Some r), n) = tt
  gives_own more (Got None, n) = tt
  gives_own more (Lost x, n) = tt

  ends_own : (mode : Mode) (x : Tried (Option Record) × ℕ) (b : Bool) → AsksOnly (IsOfKey l.key) (load_ends classes tries most l mode x b)
  ends_own mode x true = gives_own 0 x
  ends_own mode x false = (refl, λ r. gives_own 1 x)

  abbrev the_read : Call (Tried (Option Record) × ℕ)
  the_read = load_read classes tries most l

  read_is_own : AsksOnly (IsOfKey l.key) the_read
  read_is_own = only_timed (IsOfKey l.key) 0 (read classes l.key Plain most (refuses_other classes l.class)) (read_own classes l.key Plain most (refuses_other classes l.class))

  locked_own : (mode : Mode) (x : Tried (Unit {0})) → AsksOnly (IsOfKey l.key) (load_locked classes tries most l mode x)
  locked_own mode (Lost x) = tt
  locked_own mode (Got u) =
      only_bind (IsOfKey l.key) the_read (λ x. load_ends classes tries most l mode x (keeps_lock classes tries most l x.0)) read_is_own (λ x. ends_own mode x (keeps_lock classes tries most l x.0))

  by_own : (mode : Option Mode) → AsksOnly (IsOfKey l.key) (load_by classes tries most l mode)
  by_own None = only_bind (IsOfKey l.key) the_read (load_gives classes tries most l 0) read_is_own (gives_own 0)
  by_own (Some mode) =
      only_bind (IsOfKey l.key) (try Plain tries (lock_counted mode (data_node l.key))) (load_locked classes tries most l mode) (only_try (IsOfKey l.key) _ Plain tries (lock_counted mode (data_node l.key)) refl) (locked_own mode)

pub load_own : (classes : List Class) (tries most : ℕ) (l : LoadCall) → AsksOnly (IsOfKey l.key) (load classes tries most l)
unfolding load
load_own classes tries most l = by_own classes tries most l (load_mode classes tries most l)

pub load_asks : (classes : List Class) (tries most : ℕ) (l : LoadCall) (rs : List Reply) → AreAll (IsOfKey l.key) (asked (load classes tries most l) rs)
load_asks classes tries most l rs = only_asked (IsOfKey l.key) (load classes tries most l) (load_own classes tries most l) rs

-- ---- a raise

module _ (tries : ℕ) (key : Key) (class : ClassName) where
  try_own : (mode : Mode) → AsksOnly (IsOfKey key) (try Plain tries (lock_counted mode (data_node key)))
  try_own mode = only_try (IsOfKey key) _ Plain tries (lock_counted mode (data_node key)) refl

  lock_own : (a b : Bool) → AsksOnly (IsOfKey key) (cond a (try Plain tries (lock_counted Exclusive (data_node key))) (when b (try Plain tries (lock_counted Shared (data_node key)))))
  lock_own true b = try_own Exclusive
  lock_own false true = try_own Shared
  lock_own false false = tt

  back_own : (b : Bool) → AsksOnly (IsOfKey key) (when b (does Plain (unlock Shared (data_node key))))
  back_own true = (refl, λ r. tt)
  back_own false = tt

  raised_own : (u v : ℕ) (x : Tried (Unit {0})) → AsksOnly (IsOfKey key) (raise_ends tries key class u v x)
  raised_own u v (Lost x) = tt
  raised_own u v (Got w) = back_own (v == 4 && u == 3)

  when_own : (u v : ℕ) (b : Bool) → AsksOnly (IsOfKey key) (when b (bind (raise_lock tries key class v) (raise_ends tries key class u v)))
  when_own u v true = only_bind (IsOfKey key) (raise_lock tries key class v) (raise_ends tries key class u v) (lock_own (v == 4) (v == 3)) (raised_own u v)
  when_own u v false = tt

pub raise_own : (tries : ℕ) (key : Key) (class : ClassName) (u v : ℕ) → AsksOnly (IsOfKey key) (raise tries key class u v)
unfolding raise
raise_own tries key class u v = when_own tries key class u v (nat_lt u v)
