use Rattle.std.proofs.Common.{◌≡◌, length, map, subst, sym, ap, ◌∙◌}
use Rattle.schema_kinds.specs.Links.{AreWithin, AreAllAbove}
use Rattle.schema_kinds.specs.Hierarchy.{super_places, first_place, names_of, links_of, firsts_of}
use Rattle.schema_kinds.proofs.Hierarchies.{links-within, length-map}
use Rattle.schema_kinds.proofs.hierarchy.Hierarchy.new.Goals as goal

pub find_above-requires : goal.find_above-requires
find_above-requires c =
    let links : c.as_slice.result.now ≡ map (λ h. super_places c.args.names h.supers) c.args.headers.now = c.as_slice.ensures ∙ c.in_ok-links.ensures in
    let long : length c.args.names ≡ length c.as_slice.result.now = ap length c.requires ∙ length-map (λ h. h.name.0) c.args.headers.now ∙ sym (length-map (λ h. super_places c.args.names h.supers) c.args.headers.now) ∙ ap length (sym links) in
    subst (AreWithin c.as_slice.result.now) long (subst (λ l. AreWithin l (length c.args.names)) (sym links) (links-within c.args.names c.args.headers.now))

pub returns : goal.returns
returns c =
    let firsts : c.in_ok-firsts.firsts ≡ firsts_of c.args.headers.now = c.in_ok-firsts.ensures ∙ ap (λ n. map (λ h. first_place n h.supers) c.args.headers.now) c.requires in
    let links : c.in_ok-links.links ≡ links_of c.args.headers.now = c.in_ok-links.ensures ∙ ap (λ n. map (λ h. super_places n h.supers) c.args.headers.now) c.requires in
    let same : c.as_slice.result.now ≡ links_of c.args.headers.now = c.as_slice.ensures ∙ links in
    let long : length c.as_slice.result.now ≡ length c.args.headers.now = ap length same ∙ length-map (λ h. super_places (names_of c.args.headers.now) h.supers) c.args.headers.now in
    record {
      names = c.requires;
      firsts = firsts;
      links = links;
      above = subst (λ n. AreAllAbove (links_of c.args.headers.now) n c.in_ok-above.above) long (subst (λ l. AreAllAbove l (length c.as_slice.result.now) c.in_ok-above.above) same c.in_ok-above.ensures);
    }
