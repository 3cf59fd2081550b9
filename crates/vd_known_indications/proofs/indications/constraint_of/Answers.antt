use Rattle.std.proofs.Common.{None, Some, ap, slice_get, sym, ◌≡◌, ◌∙◌}
use Rattle.std.proofs.lemmas.Option.{slice_get-get_or, slice_get_past}
use Rattle.vd_meaning.specs.Facets.{nth}
use Rattle.vd_static_parts.proofs.PartLemmas.{nth_here, nth_missing}
use Rattle.vd_known_indications.proofs.indications.constraint_of.Goals as goal

pub returns-in-Some : goal.returns-in-Some
returns-in-Some c = λ subtypes e ms are.
    let at = c.in-Some.ensures.lookup in
    let g : slice_get c.args.nodes.now 1 ≡ Some c.in-Some.node.now = slice_get-get_or c.args.nodes.now 1 c.in-Some.node.now at.3.0 ∙ ap Some (sym at.1) in
    c.constraint_at.ensures subtypes e (nth 1 ms) (nth_here subtypes e 1 c.args.nodes.now ms c.in-Some.node.now are g).sense

pub returns-in-None : goal.returns-in-None
returns-in-None c = λ subtypes e ms are.
    let at = c.in-None.ensures.lookup in
    let g : slice_get c.args.nodes.now 1 ≡ None = slice_get_past c.args.nodes.now 1 at.3 in
    ap (λ m. m.is_present) (nth_missing subtypes e 1 c.args.nodes.now ms are g)
