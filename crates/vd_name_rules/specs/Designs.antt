-- What the rule hangs on: the declarations of a design of revision 2019, and nothing round a node.
use Rattle.std.specs.Prelude.{List, []}
use Rattle.vd_declarations.specs.declared.declarations.Declaration.{Declaration}
use Rattle.vd_walks.specs.Least.{Judge}
use Rattle.vd_meaning.specs.Tables.{table}
use Rattle.vd_resolved.specs.declared.node.Resolved.{Resolved}
use Rattle.vd_trees.specs.declared.revision.Revision.TheVariants.{V2019}
use Rattle.vd_value_rules.specs.Designs.{Design}
use Rattle.vd_value_rules.specs.Operators.{broken_operator}

-- a design with these declarations and no units
abbrev pub design : List Declaration → Design
design ds = record { revision = V2019; table = table V2019 ds; units = record { units = []; views = [] } }

abbrev pub operator_judge : List Declaration → Judge Resolved (Unit {0})
operator_judge ds = record {
  broken = λ s n text place parts. broken_operator (design ds) n place parts;
  down = λ s n text place parts. s;
  along = λ s n text place parts. s;
}
