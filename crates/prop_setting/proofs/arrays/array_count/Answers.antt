use Rattle.prop_setting.proofs.arrays.array_count.Goals as goal

pub returns : goal.returns
returns c = λ at level i pairs h. (c.find_array-spot.ensures.same at level i pairs h).2
