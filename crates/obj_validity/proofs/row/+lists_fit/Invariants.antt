use Rattle.obj_validity.proofs.row.+lists_fit.Given as goal

abbrev pub decreases-lists_fit : goal.decreases-lists_fit
decreases-lists_fit l = l.most
