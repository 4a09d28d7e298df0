use Rattle.record_layout.proofs.line.+push_line.Given as goal

-- each superclass has one step less above it
abbrev pub decreases-push_line : goal.decreases-push_line
decreases-push_line l = l.most
