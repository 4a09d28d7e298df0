use Rattle.std.proofs.Common.{refl, subst, List, ℕ, IsSome}
use Rattle.std.specs.List.{position}
use Rattle.obj_kinds.specs.Texts.{same_text}
use Rattle.obj_kinds.proofs.TextLaws.{is-same_text}
use Rattle.oref_table.proofs.KeyIndex.{met-insert}
use Rattle.oref_table.proofs.keys.Keys.meet.Goals as goal

pub returns-clause-met : goal.returns-clause-met
returns-clause-met c =
    subst (λ (n : List ℕ). IsSome (position (same_text n) c.insert.new.self.keys)) c.in_ok-copy.ensures
    (met-insert (same_text c.in_ok-copy.field-0) c.in_ok-copy.field-0 c.args.self.now.extents.keys c.insert.new.self.keys (is-same_text c.in_ok-copy.field-0 c.in_ok-copy.field-0 refl) c.in_ok-insert.ensures.keys)
