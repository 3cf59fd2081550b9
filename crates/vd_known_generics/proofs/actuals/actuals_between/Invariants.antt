use Rattle.std.proofs.Common.{◌∷◌, ◌++◌, List, drop}
use Rattle.vd_known_generics.proofs.ActualLemmas.{all_from}
use Rattle.vd_known_generics.specs.Actuals.{AreActuals}
use Rattle.vd_known_generics.specs.Elements.{AreElements}
use Rattle.vd_known_generics.specs.declared.actuals.Actual.{Actual}
use Rattle.vd_known_designs.specs.Designs.{Knows}
use Rattle.vd_meaning.specs.Facets.{MapElement}
use Rattle.vd_value_rules.specs.Designs.{Design}
use Rattle.vd_value_rules.specs.Knowledge.{Known}
use Rattle.vd_known_generics.proofs.actuals.actuals_between.Given as goal

abbrev pub invariant-loop-at : goal.invariant-loop-at
invariant-loop-at l =
    (d : Design) (k : Known) (ks : List Known) (ys : List MapElement) → Knows d l.design (k ∷ ks) → AreElements k.env l.nodes ys → (xs : List Actual)
    → AreActuals l.design.table.subtypes d.table xs (all_from d k ys l.at (drop l.at l.generics) (drop l.at l.copies))
    → AreActuals l.design.table.subtypes d.table (l.actuals.items ++ xs) (all_from d k ys 0 l.generics l.copies)
