-- Use clauses as code keeps them.
use Rattle.std.specs.Prelude.{List, map}
use Rattle.vd_regions.specs.declared.clauses.UseClause.{UseClause}
use Rattle.vd_regions.specs.Scopes.{Clause}

abbrev pub clause_of : UseClause → Clause
clause_of c = record { from = c.from; name = c.name }

abbrev pub clauses_of : List UseClause → List Clause
clauses_of clauses = map clause_of clauses
