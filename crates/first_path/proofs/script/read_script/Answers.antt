use Rattle.std.proofs.Common.{◌≡◌, ◌≢◌, ◌==◌, not, true, false, Bool, Result, Err, ap, sym, ◌∙◌, arith, length}
use Rattle.std.proofs.lemmas.Result.{err_from_is_err_and}
use Rattle.first_path.proofs.ScriptLaws.{script_of_read, no_script}
use Rattle.first_path.proofs.ScriptTurns.{next_at, full_at, refused_at, last_at}
use Rattle.first_path.proofs.KnownLaws.{script_known, script_few}
use Rattle.first_path.proofs.script.read_script.Goals as goal

same_error : {T E : Type 0} (r : Result T E) (e y d : E) → r ≡ Err y → y ≡ e → r ≡ Err d → e ≡ d
same_error r e y d is same refused = cc

pub returns-then-room-eq0-clause-refused : goal.returns-then-room-eq0-clause-refused
returns-then-room-eq0-clause-refused c refused =
    no_script c.args.class.now.name.0 c.args.class.now.props c.args.text.now
    (full_at _ _ _ c.loop-rest.rest.now c.loop-rest.room c.loop-rest.reading (sym c.is_empty.ensures ∙ c.loop-rest-test.true) c.if-room-eq0.true c.loop-rest.invariant)

pub returns-in_err-rest-clause-refused : goal.returns-in_err-rest-clause-refused
returns-in_err-rest-clause-refused c refused =
    let exit = err_from_is_err_and c.from_residual.result c.from_residual.ensures.1 in
    let why = c.in_err-rest.ensures.refused (ap Err (same_error _ _ _ _ exit.1 exit.2 refused)) in
    no_script c.args.class.now.name.0 c.args.class.now.props c.args.text.now
    (refused_at _ _ _ c.loop-rest.rest.now c.loop-rest.room c.loop-rest.reading (sym c.is_empty.ensures ∙ c.loop-rest-test.true) c.if-room-eq0.false c.loop-rest.invariant why)

pub loop-rest-preserved : goal.loop-rest-preserved
loop-rest-preserved c =
    let turn = c.in_ok-rest.ensures.ok in
    next_at _ _ _ c.loop-rest.rest.now c.loop-rest.room c.loop-rest.reading c.turn.new.self turn.0 c.in_ok-rest.rest.now (sym c.is_empty.ensures ∙ c.loop-rest-test.true) c.if-room-eq0.false c.loop-rest.invariant turn.1 turn.2

pub returns-clause-found : goal.returns-clause-found
returns-clause-found c =
    script_of_read c.args.class.now.name.0 c.args.class.now.props c.args.text.now c.loop-rest.reading.acts
    (last_at _ _ _ c.loop-rest.rest.now c.loop-rest.room c.loop-rest.reading (sym c.is_empty.ensures ∙ c.loop-rest-test.false) c.loop-rest.invariant)

pub returns-clause-known : goal.returns-clause-known
returns-clause-known c = let script = returns-clause-found c in script_known c.args.class.now.name.0 c.args.class.now.props c.args.text.now script.0 c.loop-rest.reading.acts script.1

pub returns-clause-few : goal.returns-clause-few
returns-clause-few c = let script = returns-clause-found c in script_few c.args.class.now.name.0 c.args.class.now.props c.args.text.now script.0 c.loop-rest.reading.acts script.1
