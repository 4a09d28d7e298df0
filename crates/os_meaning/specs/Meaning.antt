-- What a script means: its blocks, loops and branches, and a whole frame.
use Rattle.std.specs.Prelude.{ℕ, zero, suc, cond, List, [], Option}
use Rattle.os_kinds.specs.declared.command.Command.{Command as Tree}
use Rattle.os_kinds.specs.declared.call.ScriptEnd.TheVariants as end
use Rattle.os_kinds.specs.declared.val.Val.{Val}
use Rattle.os_meaning.specs.Syntax as s
use Rattle.os_meaning.specs.Syntax.{Command, Block, Branches}
use Rattle.os_meaning.specs.Tree.{script_of}
use Rattle.os_meaning.specs.Values.{text_value, number_value}
use Rattle.os_meaning.specs.Frames.{Frame, Ends, Points, Spends, Vars, Rest, loses_some, value_in, with_var, within}
use Rattle.os_meaning.specs.Commands.{meets, acts_where, chooses, number, last_number, is_within, advances, leaves}

-- what a test before a turn does, where the turn and the end follow
abbrev pub Test : Type 0
Test = Vars → Rest → Rest → Frame

-- what a turn does, where the next test and the end follow
abbrev pub Body : Type 0
Body = Vars → Rest → Rest → Frame

-- A turn and all that follows it. The test takes a unit, and ends at a point.
abbrev pub turn : Test → Body → Rest → Rest → Rest
turn test body next go vars = Spends (test vars (λ vars. Points (body vars next go)) (λ vars. Points (go vars)))

-- at most so many turns
abbrev pub turns : ℕ → Test → Body → Rest → Rest
turns zero test body go vars = Ends end.Fuel
turns (suc most) test body go vars = turn test body (turns most test body go) go vars

module _ (this : Option Val) (most : ℕ) where
  abbrev mutual
    -- a command, where each loop makes at most so many turns after its first one, and `quit` is what follows a QUIT
    pub does : Command → Vars → Rest → Rest → Frame
    does (s.Plain line post action) vars go quit = acts_where this line post action vars go quit
    does (s.If branches) vars go quit = takes branches vars go quit
    does (s.While line cs block) vars go quit =
        turn (meets this line cs) (runs block) (turns most (meets this line cs) (runs block) go) go vars
    does (s.Loop line block) vars go quit =
        Spends (Points (turn (meets this line []) (runs block) (turns most (meets this line []) (runs block) go) go vars))
    -- the three numbers of the header are evaluated once, then the variable is set
    does (s.For line x first step last block) vars go quit =
        Spends (number this line first vars (λ a vars. number this line step vars (λ d vars. last_number this line last vars (λ b vars.
        loses_some (value_in x vars) (Points
        (turn (λ vars hit miss. cond (is_within b d a) (hit vars) (miss vars)) (runs block) (turns most (advances line x b d) (runs block) go) go (with_var x (number_value a) vars)))))))

    pub runs : Block → Vars → Rest → Rest → Frame
    runs s.Empty vars go quit = go vars
    runs (s.Then c block) vars go quit = does c vars (λ vars. runs block vars go quit) quit

    pub takes : Branches → Vars → Rest → Rest → Frame
    takes (s.Else block) vars go quit = runs block vars go quit
    takes (s.Branch line cs block more) vars go quit =
        chooses this line cs vars (λ vars. runs block vars go quit) (λ vars. takes more vars go quit)

  -- A whole frame: at its end, and at a QUIT outside loops, it leaves with the empty text.
  unfoldable pub frame : Block → Vars → Frame
  frame script vars = runs script vars (leaves this 0 (text_value [])) (leaves this 0 (text_value []))

-- what the tree of a script means with so many units, for the object whose method it is, and these variables
unfoldable pub meaning : Option Val → ℕ → List Tree → Vars → Frame
meaning this units script vars = within (frame this units (script_of script) vars) units
