-- Facts at a commit carry over to a later state, where holds, held views, vacant nodes, unnamed keys and draws do.
use Rattle.std.proofs.Common.{◌≡◌, inl, inr, ℕ, List, [], ◌∷◌, ◌++◌, Option, Some, None, sym, ◌∙◌, subst}
use Rattle.std.specs.FinMap.{get}
use Rattle.obj_kinds.specs.declared.node.Node.{Node}
use Rattle.obj_kinds.specs.declared.op.Pid.{Pid}
use Rattle.obj_kinds.specs.declared.op.Mode.TheVariants.{Shared, Exclusive}
use Rattle.schema_kinds.specs.declared.class.Class.{Class}
use Rattle.schema_kinds.specs.declared.key.Key.{Key}
use Rattle.schema_kinds.specs.declared.record.Record.{Record}
use Rattle.schema_kinds.specs.declared.record.Part.TheVariants.{Put, Del}
use Rattle.schema_kinds.specs.Worlds.{Change}
use Rattle.record_layout.specs.Rows.{data_node}
use Rattle.storage_map.specs.Keys.{sides_of, target_key}
use Rattle.store_core.specs.Machine.{State}
use Rattle.store_core.specs.Guard.{HoldsToEnd}
use Rattle.object_calls.specs.Keys.{MovedKey, MovedSide, ManySide, many_sides, members_node, moved_keys, moved_sides, uniques_of}
use Rattle.object_runs.specs.ObjectMachine.{Desks, view}
use Rattle.object_runs.specs.Causes.{Each, uniques_in, sides_in_view, keys_changed, sides_changed}
use Rattle.object_runs.specs.Invariant.{HoldsRow, HoldsShared}
use Rattle.sound_runs.specs.Closing.{IsVacant, IsUnnamed, IsDrawn, IsKnownOrDrawn, IsTakenNode, IsMetTarget, IsSafePut, AreSafe, HasNoMembers, IsSafeChange, Saves, Deletes}
use Rattle.sound_runs.specs.Reads.{HoldsSome}
use Rattle.sound_runs.proofs.Viewed.{there, shared_there}

module _ (classes : List Class) (s s2 : State) (o o2 : Desks) (p : Pid)
    (ends : (n : Node) → HoldsToEnd s.holds p n → HoldsToEnd s2.holds p n)
    (shares : (n : Node) → HoldsShared s.holds p n → HoldsShared s2.holds p n)
    (views : (k : Key) → HoldsSome s.holds p (data_node k) → get (view o2 p.0) k ≡ get (view o p.0) k)
    (vacants : (front : Change) (key : Key) (back : Change) (n : Node) → HoldsToEnd s.holds p n → IsVacant classes (view o p.0) front key back n → IsVacant classes (view o2 p.0) front key back n)
    (unnameds : (key : Key) (m : ManySide) → HoldsRow s.holds p key → IsUnnamed classes (view o p.0) key m → IsUnnamed classes (view o2 p.0) key m)
    (draws : (key : Key) → IsDrawn o p.0 key → IsDrawn o2 p.0 key) where
  row_some : (k : Key) → HoldsRow s.holds p k → HoldsSome s.holds p (data_node k)
  row_some k x = (Exclusive, x.0, there s.holds p (data_node k) x)

  known_kept : (key : Key) (r : Record) → HoldsRow s.holds p key → IsKnownOrDrawn classes s o p key r → IsKnownOrDrawn classes s2 o2 p key r
  known_kept key r row (inl x) = inl (x.0, views key (row_some key row) ∙ x.1, x.2)
  known_kept key r row (inr x) = inr (draws key x)

  node_kept : (front : Change) (key : Key) (back : Change) (x : Option Node) → IsTakenNode classes s o p front key back x → IsTakenNode classes s2 o2 p front key back x
  node_kept front key back None x = tt
  node_kept front key back (Some n) x = (ends n x.0, vacants front key back n x.0 x.1)

  shared_some : (n : Node) → HoldsShared s.holds p n → HoldsSome s.holds p n
  shared_some n (inl x) = (Exclusive, x.0, there s.holds p n x)
  shared_some n (inr x) = (Shared, x.0, shared_there s.holds p n x)

  target_kept : (change : Change) (m : MovedSide) (x : Option (List ℕ)) → IsMetTarget classes s o p change m x → IsMetTarget classes s2 o2 p change m x
  target_kept change m None x = tt
  target_kept change m (Some id) (inl x) = inl x
  target_kept change m (Some id) (inr x) =
      inr (x.0, views (target_key classes m.class id) (shared_some (data_node (target_key classes m.class id)) x.3) ∙ x.1, x.2, shares (data_node (target_key classes m.class id)) x.3)

  nodes_kept : (front : Change) (key : Key) (back : Change) (ms : List MovedKey) → Each (λ (m : MovedKey). IsTakenNode classes s o p front key back m.new) ms → Each (λ (m : MovedKey). IsTakenNode classes s2 o2 p front key back m.new) ms
  nodes_kept front key back [] x = tt
  nodes_kept front key back (m ∷ ms) x = (node_kept front key back m.new x.0, nodes_kept front key back ms x.1)

  sides_kept : (change : Change) (ms : List MovedSide) → Each (λ (m : MovedSide). IsMetTarget classes s o p change m m.new) ms → Each (λ (m : MovedSide). IsMetTarget classes s2 o2 p change m m.new) ms
  sides_kept change [] x = tt
  sides_kept change (m ∷ ms) x = (target_kept change m m.new x.0, sides_kept change ms x.1)

  put_kept : (change front : Change) (key : Key) (r : Record) (back : Change) → IsSafePut classes s o p change front key r back → IsSafePut classes s2 o2 p change front key r back
  put_kept change front key r back x = record {
    row = ends (data_node key) x.row;
    sound = x.sound;
    known = known_kept key r x.row x.known;
    keys = subst (λ y. Each (λ (m : MovedKey). IsTakenNode classes s2 o2 p front key back m.new) (moved_keys (uniques_in classes key y) (uniques_of classes key r))) (sym (views key (row_some key x.row)))
        (nodes_kept front key back (keys_changed classes (view o p.0) key r) x.keys);
    sides = subst (λ y. Each (λ (m : MovedSide). IsMetTarget classes s2 o2 p change m m.new) (moved_sides (sides_in_view classes y) (sides_of classes r))) (sym (views key (row_some key x.row)))
        (sides_kept change (sides_changed classes (view o p.0) key r) x.sides);
  }

  puts_kept : (change front rest : Change) → AreSafe classes s o p change front rest → AreSafe classes s2 o2 p change front rest
  puts_kept change front [] x = tt
  puts_kept change front (Put key r ∷ rest) x = (put_kept change front key r rest x.0, puts_kept change (front ++ Put key r ∷ []) rest x.1)
  puts_kept change front (Del key ∷ rest) x = absurd x.0

  members_kept : (key : Key) (ms : List ManySide) → HoldsRow s.holds p key → Each (HasNoMembers classes s o p key) ms → Each (HasNoMembers classes s2 o2 p key) ms
  members_kept key [] row x = tt
  members_kept key (m ∷ ms) row x =
      (record { held = ends (members_node classes m key.id) x.0.held; unnamed = unnameds key m row x.0.unnamed }, members_kept key ms row x.1)

  pub safe_kept : (change : Change) → IsSafeChange classes s o p change → IsSafeChange classes s2 o2 p change
  safe_kept change (Saves distinct safe) = Saves distinct (puts_kept change [] change safe)
  safe_kept change (Deletes key is x) = Deletes key is (record {
    row = ends (data_node key) x.row;
    object = x.object;
    there = views key (row_some key x.row) ∙ x.there;
    members = members_kept key (many_sides classes x.object.class) x.row x.members;
  })
