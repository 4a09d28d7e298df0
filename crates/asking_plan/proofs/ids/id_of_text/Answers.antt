use Rattle.std.proofs.Common.{rules, ◌≡◌, length, sym, ◌∙◌}
use Rattle.asking_plan.proofs.IdLaws.{text_found, long_one, not_long}
use Rattle.asking_plan.proofs.ids.id_of_text.Goals as goal

pub returns-then-len-eq1 : goal.returns-then-len-eq1
returns-then-len-eq1 c =
    let long : length c.in-Some.id ≡ 1 = search rules in
    sym (text_found c.args.text.now c.in-Some.id c.in-Some.ensures.found.0 c.in-Some.ensures.found.1 ∙ long_one c.in-Some.id long)

pub returns-else-len-eq1 : goal.returns-else-len-eq1
returns-else-len-eq1 c =
    sym (text_found c.args.text.now c.in-Some.id c.in-Some.ensures.found.0 c.in-Some.ensures.found.1 ∙ not_long c.in-Some.id (search rules))
