-- A command, and so a whole frame, keeps the account: between commands only variables and the object whose method runs have
-- places. Each of its units ends at a point of its own.
use Rattle.std.proofs.Common.{◌≤◌, ℕ, zero, suc, ◌+◌, ℤ, ◌+ℤ◌, Bool, true, false, ◌||◌, List, [], ◌∷◌, Option, Some, None, refl, arith}
use Rattle.obj_kinds.specs.declared.node.Node.{Node}
use Rattle.obj_kinds.specs.declared.op.Mode.{Mode}
use Rattle.os_kinds.specs.declared.val.Val.{Val}
use Rattle.os_kinds.specs.declared.call.Answer.{Answer}
use Rattle.os_kinds.specs.declared.command.LockAction.{LockAction}
use Rattle.os_kinds.specs.declared.command.LockAction.TheVariants.{Renew, Add, Remove}
use Rattle.os_kinds.specs.declared.command.Command.{Command as Tree}
use Rattle.os_value.specs.Readings.{whole}
use Rattle.os_meaning.specs.Syntax as s
use Rattle.os_meaning.specs.Syntax.{Name, Expr, Place, Target, Assignment, Claim, Action, Command, Block, Branches}
use Rattle.os_meaning.specs.Tree.{script_of}
use Rattle.os_meaning.specs.Values.{text_value, number_value, number_of, truth}
use Rattle.os_meaning.specs.Frames.{Frame, Vars, Rest, value_in, with_var, without_var, read, object_here}
use Rattle.os_meaning.specs.Commands.{tries, locks, renews, is_within, advances, meets, assigns, assigns_all, writes_all, calls_all, kills_all, timed, locks_all, leaves, acts, acts_where, chooses, number, last_number}
use Rattle.os_meaning.specs.Meaning.{Test, Body, turn, turns, does, runs, takes, frame, meaning}
use Rattle.os_meaning.specs.Accounts.{count, count_some, count_each, count_vars, Balances}
use Rattle.os_meaning.specs.Units.{IsMetered, units_taken, points_passed}
use Rattle.os_meaning.proofs.Meters.{meter_cut, meter_bounded}
use Rattle.os_meaning.proofs.Balances.{Keeps, kept, ends, spends, points, asks, cut, lost, lost_each, lost_some, lost_vars, printed, set_counts, kill_counts, checks, replied, was_tried, was_done, was_back, was_begun, was_committed, was_undone, noded, set_at, killed_at, written}
use Rattle.os_meaning.proofs.ExprBalances.{either, valued, subscripted}

module _ (o : ℕ) where
  -- ---- locks

  pub tried : {taken : Bool} (n : Node) (mode : Mode) (times : Option ℕ) (f : Frame) (k : ℕ) → Keeps o taken f k → Keeps o taken (tries n mode times f) k
  tried n mode times f k b = asks o _ _ k (λ a. was_tried o a f k b)

  pub locked : {taken : Bool} (action : LockAction) (renewed : Bool) (n : Node) (mode : Mode) (times : Option ℕ) (f : Frame) (k : ℕ) → Keeps o taken f k → Keeps o taken (locks action renewed n mode times f) k
  locked Renew false n mode times f k b = asks o _ _ k (λ a. replied o a _ k (λ r. was_done o r _ k (tried n mode times f k b)))
  locked Renew true n mode times f k b = tried n mode times f k b
  locked Add renewed n mode times f k b = tried n mode times f k b
  locked Remove renewed n mode times f k b = asks o _ _ k (λ a. replied o a _ k (λ r. was_back o r f k b))

  module _ (this : Option Val) where
    abbrev k : ℕ
    k = count_some o this

    -- what follows a command
    abbrev Follows : Bool → Rest → Type 0
    Follows taken go = (ws : Vars) → Keeps o taken (go ws) (k + count_vars o ws)

    module _ (line : ℕ) where
      pub left : {taken : Bool} (v : Val) (vars : Vars) → Keeps o taken (leaves this line v vars) (k + count o v + count_vars o vars)
      left v vars = lost_vars o vars _ (k + count o v) _ refl (lost_some o this _ (count o v) _ (omega arith) (ends o _ _ refl))

      pub met : {taken : Bool} (cs : List Expr) (vars : Vars) (hit miss : Rest) → Follows taken hit → Follows taken miss → Keeps o taken (meets this line cs vars hit miss) (k + count_vars o vars)
      met [] vars hit miss a b = a vars
      met (c ∷ cs) vars hit miss a b =
          valued o this line c vars _ k (λ v ws. checks o (truth v) line _ _ (λ t. lost o v _ (k + count_vars o ws) _ (omega arith)
          (either o t _ _ _ (met cs ws hit miss a b) (b ws))))

      pub assigned : (target : Target) (e : Expr) (vars : Vars) (go : Rest) → Follows false go → Keeps o true (assigns this line target e vars go) (k + count_vars o vars)
      assigned (s.OfPlace (s.Local x)) e vars go b =
          valued o this line e vars _ k (λ v ws. lost_some o (value_in x ws) _ (k + count_vars o (with_var x v ws)) _ (omega (arith, set_counts o x v ws))
          (points o _ _ (b (with_var x v ws))))
      assigned (s.OfPlace (s.Global g subs)) e vars go b =
          kept o _ _ (omega arith) (subscripted o this line subs [] vars _ k (λ vs ws. valued o this line e ws _ (k + count_each o vs) (λ v us.
          set_at o g vs v line _ _ (lost o v _ (k + count_each o vs + count_vars o us) _ (omega arith) (lost_each o vs _ (k + count_vars o us) _ (omega arith) (points o _ _ (b us)))))))
      assigned (s.OfOwn name) e vars go b =
          checks o (object_here this) line _ _ (λ object. valued o this line e vars _ k (λ v ws.
          written o object name v line _ _ (lost o v _ (k + count_vars o ws) _ (omega arith) (points o _ _ (b ws)))))
      assigned (s.OfProperty object name) e vars go b =
          valued o this line object vars _ k (λ on ws. kept o _ _ (omega arith) (valued o this line e ws _ (k + count o on) (λ v us.
          written o on name v line _ _ (lost o v _ (k + count o on + count_vars o us) _ (omega arith) (lost o on _ (k + count_vars o us) _ (omega arith) (points o _ _ (b us)))))))

      pub all_assigned : (list : List Assignment) (vars : Vars) (go : Rest) → Follows false go → Keeps o false (assigns_all this line list vars go) (k + count_vars o vars)
      all_assigned [] vars go b = b vars
      all_assigned (a ∷ rest) vars go b = spends o _ _ (assigned a.target a.value vars _ (λ ws. all_assigned rest ws go b))

      pub all_written : (list : List (Option Expr)) (vars : Vars) (go : Rest) → Follows false go → Keeps o false (writes_all this line list vars go) (k + count_vars o vars)
      all_written [] vars go b = b vars
      all_written (None ∷ rest) vars go b = spends o _ _ (printed o (10 ∷ []) _ _ (points o _ _ (all_written rest vars go b)))
      all_written (Some e ∷ rest) vars go b =
          spends o _ _ (valued o this line e vars _ k (λ v ws. checks o _ line _ _ (λ t. printed o t _ _ (lost o v _ (k + count_vars o ws) _ (omega arith) (points o _ _ (all_written rest ws go b))))))

      pub all_called : (list : List Expr) (vars : Vars) (go : Rest) → Follows false go → Keeps o false (calls_all this line list vars go) (k + count_vars o vars)
      all_called [] vars go b = b vars
      all_called (e ∷ rest) vars go b =
          spends o _ _ (valued o this line e vars _ k (λ v ws. lost o v _ (k + count_vars o ws) _ (omega arith) (points o _ _ (all_called rest ws go b))))

      pub all_killed : (list : List Place) (vars : Vars) (go : Rest) → Follows false go → Keeps o false (kills_all this line list vars go) (k + count_vars o vars)
      all_killed [] vars go b = b vars
      all_killed (s.Local x ∷ rest) vars go b =
          spends o _ _ (lost_some o (value_in x vars) _ (k + count_vars o (without_var x vars)) _ (omega (arith, kill_counts o x vars)) (points o _ _ (all_killed rest (without_var x vars) go b)))
      all_killed (s.Global g subs ∷ rest) vars go b =
          spends o _ _ (kept o _ _ (omega arith) (subscripted o this line subs [] vars _ k (λ vs ws.
          killed_at o g vs line _ _ (lost_each o vs _ (k + count_vars o ws) _ (omega arith) (points o _ _ (all_killed rest ws go b))))))

      pub was_timed : {taken : Bool} (e : Option Expr) (vars : Vars) (go : Option ℕ → Option Val → Rest) (j : ℕ) → ((t : Option ℕ) (v : Option Val) (ws : Vars) → Keeps o taken (go t v ws) (j + count_some o v + count_vars o ws)) → Keeps o taken (timed this line e vars go) (j + count_vars o vars)
      was_timed None vars go j b = kept o _ _ (omega arith) (b None None vars)
      was_timed (Some e) vars go j b = valued o this line e vars _ j (λ v ws. checks o (number_of v) line _ _ (λ z. b _ (Some v) ws))

      pub all_locked : (renewed : Bool) (list : List Claim) (vars : Vars) (go : Rest) → Follows false go → Keeps o false (locks_all this line renewed list vars go) (k + count_vars o vars)
      all_locked renewed [] vars go b = b vars
      all_locked renewed (c ∷ rest) vars go b =
          spends o _ _ (kept o _ _ (omega arith) (subscripted o this line c.subs [] vars _ k (λ vs ws. was_timed c.timeout ws _ (k + count_each o vs) (λ times v us.
          noded o c.global vs line _ _ (λ n. locked c.action renewed n c.mode times _ _
          (lost_some o v _ (k + count_each o vs + count_vars o us) _ (omega arith) (lost_each o vs _ (k + count_vars o us) _ (omega arith)
          (points o _ _ (all_locked (renewed || renews c.action) rest us go b)))))))))

      pub acted : (action : Action) (vars : Vars) (go quit : Rest) → Follows false go → Follows false quit → Keeps o false (acts this line action vars go quit) (k + count_vars o vars)
      acted (s.Set list) vars go quit a b = all_assigned list vars go a
      acted (s.Write list) vars go quit a b = all_written list vars go a
      acted (s.Do list) vars go quit a b = all_called list vars go a
      acted (s.Kill list) vars go quit a b = all_killed list vars go a
      acted s.KillAll vars go quit a b = spends o _ _ (lost_vars o vars _ (k + 0) _ (omega arith) (points o _ _ (a [])))
      acted (s.Lock list) vars go quit a b = all_locked false list vars go a
      acted s.UnlockAll vars go quit a b = spends o _ _ (asks o _ _ _ (λ x. replied o x _ _ (λ r. was_done o r _ _ (points o _ _ (a vars)))))
      acted s.TStart vars go quit a b = spends o _ _ (asks o _ _ _ (λ x. replied o x _ _ (λ r. was_begun o line r _ _ (points o _ _ (a vars)))))
      acted s.TCommit vars go quit a b = spends o _ _ (asks o _ _ _ (λ x. replied o x _ _ (λ r. was_committed o line r _ _ (points o _ _ (a vars)))))
      acted s.TRollback vars go quit a b = spends o _ _ (asks o _ _ _ (λ x. replied o x _ _ (λ r. was_done o r _ _ (points o _ _ (a vars)))))
      acted s.TRollbackOne vars go quit a b = spends o _ _ (asks o _ _ _ (λ x. replied o x _ _ (λ r. was_undone o r _ _ (points o _ _ (a vars)))))
      acted s.Quit vars go quit a b = spends o _ _ (points o _ _ (b vars))
      acted (s.QuitWith e) vars go quit a b = spends o _ _ (valued o this line e vars _ k (λ v ws. points o _ _ (left v ws)))
      acted s.Halt vars go quit a b = spends o _ _ (ends o _ _ tt)

      pub acted_where : (c : Option Expr) (action : Action) (vars : Vars) (go quit : Rest) → Follows false go → Follows false quit → Keeps o false (acts_where this line c action vars go quit) (k + count_vars o vars)
      acted_where None action vars go quit a b = acted action vars go quit a b
      acted_where (Some c) action vars go quit a b =
          met (c ∷ []) vars _ _ (λ ws. points o _ _ (acted action ws go quit a b)) (λ ws. points o _ _ (a ws))

      pub chosen : (cs : List Expr) (vars : Vars) (hit miss : Rest) → Follows false hit → Follows false miss → Keeps o false (chooses this line cs vars hit miss) (k + count_vars o vars)
      chosen [] vars hit miss a b = a vars
      chosen (c ∷ cs) vars hit miss a b =
          spends o _ _ (met (c ∷ []) vars _ _ (λ ws. points o _ _ (chosen cs ws hit miss a b)) (λ ws. points o _ _ (b ws)))

      pub numbered : {taken : Bool} (e : Expr) (vars : Vars) (go : ℤ → Rest) → ((z : ℤ) → Follows taken (go z)) → Keeps o taken (number this line e vars go) (k + count_vars o vars)
      numbered e vars go b = valued o this line e vars _ k (λ v ws. checks o (number_of v) line _ _ (λ z. lost o v _ (k + count_vars o ws) _ (omega arith) (b z ws)))

      pub last_numbered : {taken : Bool} (e : Option Expr) (vars : Vars) (go : Option ℤ → Rest) → ((z : Option ℤ) → Follows taken (go z)) → Keeps o taken (last_number this line e vars go) (k + count_vars o vars)
      last_numbered None vars go b = b None vars
      last_numbered (Some e) vars go b = numbered e vars _ (λ z. b (Some z))

      pub advanced : {taken : Bool} (x : Name) (last : Option ℤ) (step : ℤ) (vars : Vars) (hit miss : Rest) → Follows taken hit → Follows taken miss → Keeps o taken (advances line x last step vars hit miss) (k + count_vars o vars)
      advanced x last step vars hit miss a b =
          checks o (read (value_in x vars)) line _ _ (λ v. checks o (number_of v) line _ _ (λ n. checks o (whole (n +ℤ step)) line _ _ (λ z.
          either o (is_within last step z) _ _ _
          (lost_some o (value_in x vars) _ (k + count_vars o (with_var x (number_value z) vars)) _ (omega (arith, set_counts o x (number_value z) vars)) (a (with_var x (number_value z) vars)))
          (b vars))))

    -- ---- loops

    abbrev Tests : Bool → Test → Type 0
    Tests taken test = (vars : Vars) (hit miss : Rest) → Follows taken hit → Follows taken miss → Keeps o taken (test vars hit miss) (k + count_vars o vars)

    pub turned : (test : Test) (body : Body) (next go : Rest) → Tests true test → Tests false body → Follows false next → Follows false go → Follows false (turn test body next go)
    turned test body next go t b n g vars =
        spends o _ _ (t vars _ _ (λ ws. points o _ _ (b ws next go n g)) (λ ws. points o _ _ (g ws)))

    pub all_turned : (most : ℕ) (test : Test) (body : Body) (go : Rest) → Tests true test → Tests false body → Follows false go → Follows false (turns most test body go)
    all_turned zero test body go t b g vars = ends o _ _ tt
    all_turned (suc most) test body go t b g vars = turned test body _ go t b (all_turned most test body go t b g) g vars

    module _ (most : ℕ) where
      mutual
        pub done : (c : Command) (vars : Vars) (go quit : Rest) → Follows false go → Follows false quit → Keeps o false (does this most c vars go quit) (k + count_vars o vars)
        done (s.Plain line post action) vars go quit a b = acted_where line post action vars go quit a b
        done (s.If branches) vars go quit a b = taken branches vars go quit a b
        done (s.While line cs block) vars go quit a b =
            turned _ _ _ go (met line cs) (ran block) (all_turned most _ _ go (met line cs) (ran block) a) a vars
        done (s.Loop line block) vars go quit a b =
            spends o _ _ (points o _ _ (turned _ _ _ go (met line []) (ran block) (all_turned most _ _ go (met line []) (ran block) a) a vars))
        done (s.For line x first step last block) vars go quit a b =
            spends o _ _ (numbered line first vars _ (λ n ws. numbered line step ws _ (λ d us. last_numbered line last us _ (λ l ys.
            lost_some o (value_in x ys) _ (k + count_vars o (with_var x (number_value n) ys)) _ (omega (arith, set_counts o x (number_value n) ys))
            (points o _ _ (turned _ _ _ go (λ zs hit miss h m. either o (is_within l d n) _ _ _ (h zs) (m zs)) (ran block)
            (all_turned most _ _ go (advanced line x l d) (ran block) a) a (with_var x (number_value n) ys)))))))

        pub ran : (block : Block) (vars : Vars) (go quit : Rest) → Follows false go → Follows false quit → Keeps o false (runs this most block vars go quit) (k + count_vars o vars)
        ran s.Empty vars go quit a b = a vars
        ran (s.Then c block) vars go quit a b = done c vars _ quit (λ ws. ran block ws go quit a b) b

        pub taken : (branches : Branches) (vars : Vars) (go quit : Rest) → Follows false go → Follows false quit → Keeps o false (takes this most branches vars go quit) (k + count_vars o vars)
        taken (s.Else block) vars go quit a b = ran block vars go quit a b
        taken (s.Branch line cs block more) vars go quit a b =
            chosen line cs vars _ _ (λ ws. ran block ws go quit a b) (λ ws. taken more ws go quit a b)

      pub framed : (script : Block) (vars : Vars) → Keeps o false (frame this most script vars) (k + count_vars o vars)
      unfolding frame
      framed script vars = ran script vars _ _ (λ ws. kept o _ _ (omega arith) (left 0 (text_value []) ws)) (λ ws. kept o _ _ (omega arith) (left 0 (text_value []) ws))

pub accounted : (o : ℕ) (this : Option Val) (units : ℕ) (script : List Tree) (vars : Vars) → Balances o (meaning this units script vars) (count_some o this + count_vars o vars)
unfolding meaning
accounted o this units script vars = cut o (frame this units (script_of script) vars) units _ (framed o this units (script_of script) vars).it

pub metered : (this : Option Val) (units : ℕ) (script : List Tree) (vars : Vars) → IsMetered false (meaning this units script vars)
unfolding meaning
metered this units script vars = meter_cut false (frame this units (script_of script) vars) units (framed 0 this units (script_of script) vars).meter

pub bounded : (this : Option Val) (units : ℕ) (script : List Tree) (vars : Vars) (answers : List Answer) → units_taken (meaning this units script vars) answers ≤ suc (points_passed (meaning this units script vars) answers)
bounded this units script vars answers = omega (arith, meter_bounded false (meaning this units script vars) answers (metered this units script vars))
