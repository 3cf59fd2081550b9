use Rattle.std.proofs.Common.{◌≡◌, drop, map, slice_index_or}
use Rattle.vd_meaning.specs.Tables.{no_declaration, table}
use Rattle.vd_trees.specs.declared.revision.Revision.TheVariants.{V2019}
use Rattle.vd_value_rules.specs.Operators.{any_nine_valued}
use Rattle.vd_name_rules.proofs.operators.any_nine_valued.Given as goal

abbrev pub invariant-loop-parameter : goal.invariant-loop-parameter
invariant-loop-parameter l =
    any_nine_valued (table V2019 l.declarations) (map (λ p. (slice_index_or l.declarations p no_declaration).mark) (drop l.parameter-index l.parameters))
    ≡ any_nine_valued (table V2019 l.declarations) (map (λ p. (slice_index_or l.declarations p no_declaration).mark) l.parameters)
