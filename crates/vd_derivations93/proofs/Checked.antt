-- The pieces of derivations are those of the grammar, and lead back.
use Rattle.std.proofs.Common.{refl}
use Rattle.vd_grammar93.specs.Grammar.{grammar, actions}
use Rattle.vd_grammar93.proofs.Checked.{grammar_is_checked}
use Rattle.vd_derivations.specs.Laws.{LeadBack, IsFileOf, DesignsAreDerived, HaveNoOtherShape}
use Rattle.vd_derivations.proofs.DesignLemmas.{leads_back, alone}
use Rattle.vd_derivations93.proofs.Standpoints.{standpoints, file_row}

checked : LeadBack grammar actions standpoints
checked = record { rows = refl }

file : IsFileOf grammar actions standpoints file_row
file = record { facts = refl; derives = refl; leaves = refl; stand = refl }

pub derived : DesignsAreDerived grammar actions
derived = leads_back grammar actions standpoints file_row checked file

pub no_other : HaveNoOtherShape grammar actions
no_other = alone grammar actions grammar_is_checked derived
