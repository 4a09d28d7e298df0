use Rattle.std.proofs.Common.{◌≡◌, ◌∙◌, List, take, drop, ◌+◌, refl, sym, ap, subst, arith}
use Rattle.first_path.specs.declared.act.Act.{Act}
use Rattle.first_path.specs.Play.{IsCut, IsWhole}
use Rattle.first_path.specs.Amid.{IsAmid}
use Rattle.first_path.proofs.PlayLaws.{amid_can, amid_step, amid_cut, amid_moved, whole_few, cut_few, whole_at, front_at, amid_at, end_at}
use Rattle.first_path.proofs.playing.play.Goals as goal

pub step-requires : goal.step-requires
step-requires g c =
    let amid = amid_at c.args.properties c.args.acts.now c.loop-act.act-index c.loop-act.session _ _ _ _ c.act-item.result c.loop-act-test.true c.act-item.is c.loop-act.invariant in
    amid_can c.args.properties _ _ c.act-item.result c.loop-act.session c.loop-act.session _ _ _ _ amid

pub returns-in-Failed : goal.returns-in-Failed
returns-in-Failed g c =
    let acts = c.args.acts.now in
    let k = c.loop-act.act-index in
    let act = c.act-item.result in
    let amid = amid_at c.args.properties acts k c.loop-act.session _ _ _ _ act c.loop-act-test.true c.act-item.is c.loop-act.invariant in
    let failed = c.in-Failed.ensures.failed refl in
    let cut = amid_cut c.args.properties _ _ act c.loop-act.session c.step.new.self _ _ _ _ amid _ _ failed.0 c.in_ok-step.ensures failed.1 failed.2 (c.in-Failed.ensures.rises refl) in
    let played : IsCut c.args.properties acts (g.D.Device.bytes c.args.device.now) (g.D.Device.bytes c.print.new.device) (g.D.Device.faults c.args.device.now) (g.D.Device.faults c.print.new.device) c.into_saved.result =
    rw (whole_at acts k act c.loop-act-test.true c.act-item.is, c.into_saved.ensures) cut in
    record { few = cut_few _ _ _ _ _ _ _ played; played = played }

pub loop-act-preserved : goal.loop-act-preserved
loop-act-preserved g c =
    let acts = c.args.acts.now in
    let k = c.loop-act.act-index in
    let act = c.act-item.result in
    let amid = amid_at c.args.properties acts k c.loop-act.session _ _ _ _ act c.loop-act-test.true c.act-item.is c.loop-act.invariant in
    let more = amid_step c.args.properties _ _ act c.loop-act.session c.step.new.self _ _ _ _ amid _ _ c.in_ok-step.ensures (c.in-Done.ensures.done refl) c.in-Done.ensures.never_falls in
    amid_moved (front_at acts k act c.loop-act-test.true c.act-item.is) more

pub returns : goal.returns
returns g c =
    let whole = end_at c.args.properties c.args.acts.now c.loop-act.act-index c.loop-act.session _ _ _ _ c.loop-act-test.false c.loop-act.invariant in
    let played : IsWhole c.args.properties c.args.acts.now (g.D.Device.bytes c.args.device.now) (g.D.Device.bytes c.loop-act.device) c.into_saved-2.result = rw c.into_saved-2.ensures whole in
    record { few = whole_few _ _ _ _ _ played; played = played }
