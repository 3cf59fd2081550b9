use Rattle.std.proofs.Common.{◌≡◌, ℕ, List, drop, is_some}
use Rattle.vd_meaning.specs.Facets.{MapElement}
use Rattle.vd_meaning.specs.Generics.{element_for}
use Rattle.vd_meaning.specs.Tables.{table}
use Rattle.vd_name_rules.specs.Elements.{has}
use Rattle.vd_trees.specs.declared.revision.Revision.TheVariants.{V2019}
use Rattle.vd_value_rules.specs.Operators.{any_found}
use Rattle.vd_name_rules.proofs.instances.any_found.Given as goal

abbrev pub invariant-loop-at : goal.invariant-loop-at
invariant-loop-at l = (xs : List MapElement) → ((k g : ℕ) → has l.elements k g ≡ is_some (element_for k g xs))
    → any_found (table V2019 l.operators.declarations.now) l.at (drop l.at l.generics) (drop l.at l.copies) xs
    ≡ any_found (table V2019 l.operators.declarations.now) 0 l.generics l.copies xs
