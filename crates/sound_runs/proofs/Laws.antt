-- The laws, put together.
use Rattle.std.proofs.Common.{◌≡◌, ℕ, ◌≤◌, true, [], unwrap_or, refl, sym, ap, ◌∙◌, subst}
use Rattle.std.specs.Ordering.{nat_cmp}
use Rattle.std.specs.FinMap.{get, get-empty}
use Rattle.schema_kinds.specs.declared.record.Part.TheVariants.{Put}
use Rattle.schema_kinds.specs.Worlds.{World}
use Rattle.store_core.specs.Guard.{names}
use Rattle.store_core.proofs.FrameLaws.{no_levels}
use Rattle.object_calls.specs.Extents.{counter_node}
use Rattle.object_runs.specs.ObjectMachine.{Desk, desk_at, clear_desk, view, first_desks}
use Rattle.object_runs.specs.Causes.{Has}
use Rattle.object_runs.specs.Headline.{is_extent_of, first_number}
use Rattle.object_runs.specs.Invariant.{IsPending, IsPossible, Pending}
use Rattle.sound_runs.specs.Closing.{entries_within}
use Rattle.sound_runs.specs.Laws.{SavesKeepSound, DeletesKeepSound, ApartStaysSound, EntriesKeepSound, EntriesKeepBacked, StartIsBacked, KnowledgeStays, ViewsAreKnown, DrawsAreKnown}
use Rattle.sound_runs.proofs.Saved.{saved_sound}
use Rattle.sound_runs.proofs.Deleted.{deleted_sound}
use Rattle.sound_runs.proofs.Both.{both_sound}
use Rattle.sound_runs.proofs.Sound.{next_sound}
use Rattle.sound_runs.proofs.Counters.{counts_one}
use Rattle.sound_runs.proofs.Drawn.{unnamed_then, counted_then, unborn_then, agree_then, knows_then}
use Rattle.sound_runs.proofs.Kept.{targets_then, nodes_then, deletes_then}

pub saves_keep_sound : SavesKeepSound
saves_keep_sound classes s o p change distinct safe sound unborn = saved_sound classes s o p change distinct safe sound unborn

pub deletes_keep_sound : DeletesKeepSound
deletes_keep_sound classes s o p key pairs safe sound = deleted_sound classes s o p key safe pairs sound

pub apart_stays_sound : ApartStaysSound
apart_stays_sound classes w one other both mine theirs a sc sd =
    both_sound classes w one other both mine theirs a.in_one a.in_other a.as_one a.as_other a.keys a.nodes a.mine_older a.theirs_older sc sd

pub entries_keep_sound : EntriesKeepSound
entries_keep_sound classes s o p op tag pairs inv backed orderly = record {
  targets = targets_then classes s o p inv backed op tag orderly;
  deletes = deletes_then classes s o p inv backed op tag orderly;
  sound = next_sound classes s o p inv backed op tag orderly pairs;
  counted = counted_then classes s o p inv backed op tag orderly;
  classes_agree = agree_then classes s o p inv backed op tag orderly;
}

pub entries_keep_backed : EntriesKeepBacked
entries_keep_backed classes s o p op tag inv backed orderly = record {
  unnamed = unnamed_then classes s o p inv backed op tag orderly;
  drawn = unborn_then classes s o p inv backed op tag orderly;
  nodes = nodes_then classes s o p inv backed op tag orderly;
}

-- ---- the start

no_desk : (w : World) (p : ℕ) → desk_at (first_desks w) p ≡ clear_desk
no_desk w p = ap (λ o. unwrap_or o clear_desk) (get-empty nat_cmp p)

pub start_is_backed : StartIsBacked
start_is_backed classes pids g w = record {
  unnamed = λ p extent real. ap (λ ls. names ls (counter_node extent)) (no_levels pids p.0);
  drawn = λ p key d. absurd (nothing d.0 (subst (λ (x : Desk). Has d.0 (entries_within x.within x.own)) (no_desk w p) d.1));
  nodes = λ p key r n h e. absurd (subst (λ (x : Desk). IsPending x.lists (Put key r)) (no_desk w p.0) h);
}
  where
    nothing : {A : Type 0} (e : A) → Has e [] → ⊥
    nothing e h = h

-- ---- what a process knows

pub knowledge_stays : KnowledgeStays
knowledge_stays classes s o p op tag q key class inv backed orderly knows own = knows_then classes s o p inv backed op tag orderly q key class knows own

pub views_are_known : ViewsAreKnown
views_are_known classes s o p key r inv backed e = record {
  extent = real;
  known = record {
    class_is = λ w q h f. inv.classes_agree w (view o p) key q r h possible f e;
    counted = λ w h. (inv.counted w key.extent real h, low w h);
  };
  undrawn = λ q ne d. cc (sym ((backed.drawn q key d).nowhere (view o p) possible) ∙ e);
}
  where
    possible : IsPossible o (view o p)
    possible = Pending p (desk_at o p).lists ([], refl) refl

    real : is_extent_of classes key.extent ≡ true
    real = ((inv.sound (view o p) (Pending p (desk_at o p).lists ([], refl) refl)).records key r e).key_of.extent

    low : (w : World) (h : IsPossible o w) → first_number key.id ≤ (inv.counted w key.extent real h).number
    low w h =
        let here = inv.counted (view o p) key.extent real possible in
        let at = inv.counted w key.extent real h in
        subst (λ x. first_number key.id ≤ x) (counts_one (get s.globals (counter_node key.extent)) here.number at.number here.counts at.counts) (here.enough key r e refl)

pub draws_are_known : DrawsAreKnown
draws_are_known classes s o p key class inv backed d = record {
  extent = (backed.drawn p key d).extent;
  known = record {
    class_is = λ w q h f. absurd (cc (sym ((backed.drawn p key d).nowhere w h) ∙ f));
    counted = λ w h. (inv.counted w key.extent (backed.drawn p key d).extent h, low w h);
  };
  undrawn = λ q ne x. ne ((backed.drawn p key d).alone q x);
}
  where
    low : (w : World) (h : IsPossible o w) → first_number key.id ≤ (inv.counted w key.extent (backed.drawn p key d).extent h).number
    low w h =
        let here = (backed.drawn p key d).counted in
        let at = inv.counted w key.extent (backed.drawn p key d).extent h in
        subst (λ x. first_number key.id ≤ x) (counts_one (get s.globals (counter_node key.extent)) here.number at.number here.counts at.counts) here.enough
