use Rattle.std.proofs.Common.{◌≡◌, Some, slice_get, length, refl, ap, sym, subst, arith}
use Rattle.obj_props.specs.Properties.{prop_place}
use Rattle.obj_shape.proofs.FitLaws.{fits-at}
use Rattle.prop_setting.proofs.PropLaws.{has-slot, live-object, named-at, prop_refused, prop_set, within}
use Rattle.prop_setting.proofs.set.set_prop.Goals as goal

pub overflow_cast-spot : goal.overflow_cast-spot
overflow_cast-spot c =
    let o = live-object c.args.table.now c.args.oref.0 c.requires.live in
    let props = c.props_at-props.ensures o.0 o.1 in
    omega (arith, within c.props_at-props.result.now c.in-Some.at c.in-Some-prop_in.prop.now c.in-Some-prop_in.ensures.some, ap (λ ps. length ps) props, c.requires.whole.few o.0.class)

pub set_kind-requires-clause-slot : goal.set_kind-requires-clause-slot
set_kind-requires-clause-slot c =
    let o = live-object c.args.table.now c.args.oref.0 c.requires.live in
    let got = subst (λ ps. slice_get ps c.in-Some.at ≡ Some c.in-Some-prop_in.prop.now) (c.props_at-props.ensures o.0 o.1) c.in-Some-prop_in.ensures.some in
    has-slot c.args.schema.now c.args.table.now c.args.oref.0 c.in-Some.at o.0 c.in-Some-prop_in.prop.now c.requires.fits o.1 got

pub set_kind-requires-clause-level : goal.set_kind-requires-clause-level
set_kind-requires-clause-level c =
    let o = live-object c.args.table.now c.args.oref.0 c.requires.live in
    omega (arith, c.level_at.ensures o.0 o.1, (fits-at c.args.schema.now c.args.table.now c.args.oref.0 o.0 c.requires.fits o.1).level)

pub returns-clause-ok : goal.returns-clause-ok
returns-clause-ok c =
    let o = live-object c.args.table.now c.args.oref.0 c.requires.live in
    let props = c.props_at-props.ensures o.0 o.1 in
    let got = subst (λ ps. slice_get ps c.in-Some.at ≡ Some c.in-Some-prop_in.prop.now) props c.in-Some-prop_in.ensures.some in
    let place = subst (λ ps. prop_place c.args.name.now ps ≡ Some c.in-Some.at) props (sym c.in-Some.ensures) in
    prop_set c.args.schema.now c.args.table.now c.set_kind.new.table c.args.oref.0 c.args.name.now c.args.with c.in-Some.at c.level_at.result o.0 c.in-Some-prop_in.prop.now c.set_kind.result o.1 place got (c.level_at.ensures o.0 o.1) c.set_kind.ensures.ok

pub returns-clause-err : goal.returns-clause-err
returns-clause-err c =
    let o = live-object c.args.table.now c.args.oref.0 c.requires.live in
    let props = c.props_at-props.ensures o.0 o.1 in
    let got = subst (λ ps. slice_get ps c.in-Some.at ≡ Some c.in-Some-prop_in.prop.now) props c.in-Some-prop_in.ensures.some in
    let place = subst (λ ps. prop_place c.args.name.now ps ≡ Some c.in-Some.at) props (sym c.in-Some.ensures) in
    prop_refused c.args.schema.now c.args.table.now c.set_kind.new.table c.args.oref.0 c.args.name.now c.args.with o.0 c.in-Some-prop_in.prop.now c.set_kind.result o.1 (named-at c.args.schema.now o.0 c.args.name.now c.in-Some.at c.in-Some-prop_in.prop.now place got) c.set_kind.ensures.err

pub returns-clause-fits : goal.returns-clause-fits
returns-clause-fits c =
    let o = live-object c.args.table.now c.args.oref.0 c.requires.live in
    let got = subst (λ ps. slice_get ps c.in-Some.at ≡ Some c.in-Some-prop_in.prop.now) (c.props_at-props.ensures o.0 o.1) c.in-Some-prop_in.ensures.some in
    c.set_kind.ensures.fits (o.0, c.in-Some-prop_in.prop.now, o.1, got, refl) c.requires.named c.requires.given
