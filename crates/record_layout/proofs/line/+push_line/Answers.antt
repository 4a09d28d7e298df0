use Rattle.std.proofs.Common.{◌≡◌, ◌++◌, ◌∷◌, [], ◌-◌, sym, ◌∙◌, map, reverse, slice_get}
use Rattle.std.specs.List.{filter_map}
use Rattle.schema_kinds.specs.Hierarchy.{chain, firsts_of}
use Rattle.schema_kinds.specs.Classes.{headers_of}
use Rattle.record_layout.proofs.LineLaws.{line_under, on_ok, joined}
use Rattle.record_layout.proofs.line.+push_line.Goals as goal

pub returns-in_ok-push_line-in-Some : goal.returns-in_ok-push_line-in-Some
returns-in_ok-push_line-in-Some t c =
    let firsts = firsts_of (headers_of c.args.schema.now) in
    let pick = filter_map (slice_get c.args.schema.now) in
    let above = pick (reverse (chain (c.args.most - 1) firsts c.in-Some.above)) in
    let under : pick (reverse (chain c.args.most firsts c.args.place)) ≡ above ++ pick (c.args.place ∷ []) =
    line_under c.args.schema.now firsts c.args.most c.args.place c.in-Some.above c.if-most-eq0.false (sym c.place_above.ensures ∙ c.in-Some.is) in
    on_ok c.push_class-in-Some.result c.push_class-in-Some.ensures (λ e. joined (map (λ k. k.now) c.args.line.now.items) above (pick (c.args.place ∷ [])) c.in_ok-push_line-in-Some.ensures e under)
