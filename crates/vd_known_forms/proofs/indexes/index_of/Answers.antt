use Rattle.std.proofs.Common.{Some, ap, slice_get, sym, ◌≡◌, ◌∙◌}
use Rattle.std.proofs.lemmas.Option.{slice_get-get_or}
use Rattle.vd_meaning.specs.Facets.{nth}
use Rattle.vd_static_parts.proofs.PartLemmas.{nth_here}
use Rattle.vd_known_forms.proofs.indexes.index_of.Goals as goal

pub returns-in-Some-clause-is : goal.returns-in-Some-clause-is
returns-in-Some-clause-is c = λ d k ks ms knows are.
    let at = c.in-Some.ensures.lookup in
    let part = c.in-Some.part.now in
    let here : slice_get c.args.parts.now 0 ≡ Some part = slice_get-get_or c.args.parts.now 0 part at.3.0 ∙ ap Some (sym at.1) in
    c.index_in.ensures.is d k ks (nth 0 ms) knows (nth_here c.args.design.now.table.subtypes k.env 0 c.args.parts.now ms part are here).sense

pub returns-in-None-clause-within : goal.returns-in-None-clause-within
returns-in-None-clause-within c = c.known_later.ensures.within c.args.design.now.table.subtypes
