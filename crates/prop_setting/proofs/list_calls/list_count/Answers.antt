use Rattle.prop_setting.proofs.list_calls.list_count.Goals as goal

pub returns : goal.returns
returns c = λ at level i items h. (c.find_list-spot.ensures.same at level i items h).2
