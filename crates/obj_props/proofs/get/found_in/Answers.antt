use Rattle.std.proofs.Common.{ℕ, List, Option, subst}
use Rattle.std.specs.Prelude.{IfOk, IfErr}
use Rattle.schema_kinds.specs.declared.prop.Prop.{Prop}
use Rattle.obj_props.specs.Contents.{IsFound, IsMissing}
use Rattle.obj_props.specs.Properties.{prop_place}
use Rattle.obj_props.proofs.get.found_in.Goals as goal

pub slot_at-requires : goal.slot_at-requires
slot_at-requires c = rw c.props_of-props.ensures (c.requires.few c.args.obj.now.class)

pub returns-clause-ok : goal.returns-clause-ok
returns-clause-ok c =
    subst (λ (ps : List Prop). IfOk c.slot_at.result (λ f. IsFound c.args.schema.now ps c.args.obj.now (prop_place c.args.name.now ps) f.at f.level f.content)) c.props_of-props.ensures
    (subst (λ (p : Option ℕ). IfOk c.slot_at.result (λ f. IsFound c.args.schema.now c.props_of-props.result.now c.args.obj.now p f.at f.level f.content)) c.prop_place-place.ensures c.slot_at.ensures.ok)

pub returns-clause-err : goal.returns-clause-err
returns-clause-err c =
    subst (λ (ps : List Prop). IfErr c.slot_at.result (IsMissing ps c.args.obj.now (prop_place c.args.name.now ps))) c.props_of-props.ensures
    (subst (λ (p : Option ℕ). IfErr c.slot_at.result (IsMissing c.props_of-props.result.now c.args.obj.now p)) c.prop_place-place.ensures c.slot_at.ensures.err)
