use Rattle.std.proofs.Common.{ℕ, Bool, ap, sym, ◌∙◌}
use Rattle.std.specs.List.{filter}
use Rattle.vd_regions.specs.Scopes.{declaration_at}
use Rattle.vd_naming.specs.Selected.{Means}
use Rattle.vd_name_clauses.specs.Generics.{is_generic}
use Rattle.vd_name_clauses.proofs.MeantLemmas.{meant_those}
use Rattle.vd_name_clauses.proofs.generics.meant_that.Goals as goal

pub returns-in_ok-those-in-None : goal.returns-in_ok-those-in-None
returns-in_ok-those-in-None c =
    let test : ℕ → Bool = λ k. is_generic c.args.generic (declaration_at c.args.names.now.scopes k).class in
    c.means.ensures ∙ ap Means (c.in_ok-those-in-None.ensures ∙ ap (filter test) c.declarations.ensures)
    ∙ sym (meant_those test c.args.meant.now (sym c.in-None.ensures))
