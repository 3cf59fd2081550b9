use Rattle.std.proofs.Common.{◌∙◌, [], ap, refl, sym}
use Rattle.vd_meaning.specs.Tables.{table}
use Rattle.vd_port_modes.specs.Source.{design_in}
use Rattle.vd_trees.specs.declared.revision.Revision.TheVariants.{V2019}
use Rattle.vd_known_notes.proofs.walking.known_notes.Goals as goal

pub follow-requires : goal.follow-requires
follow-requires c = λ k.
    let i = c.in_ok-interfaces.interfaces in
    let d = design_in i in
    let same = ap (λ z. table z.revision z.tree.declarations) c.in_ok-interfaces.ensures ∙ ap (λ ds. table V2019 ds) (sym c.declarations.ensures) in
    ((refl, tt), record { found = []; here = []; round = []; knows = c.in_ok-design.ensures d same })
