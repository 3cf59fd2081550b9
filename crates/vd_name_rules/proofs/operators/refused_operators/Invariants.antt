use Rattle.std.proofs.Common.{◌≡◌, ◌<◌, ℕ, false, length, slice_index_or}
use Rattle.vd_meaning.specs.Tables.{table}
use Rattle.vd_trees.specs.declared.revision.Revision.TheVariants.{V2019}
use Rattle.vd_value_rules.specs.Operators.{is_refused_operator}
use Rattle.vd_name_rules.proofs.operators.refused_operators.Given as goal

abbrev pub invariant-loop-number : goal.invariant-loop-number
invariant-loop-number l = record {
  as_many : length l.refused.items ≡ l.number;
  told : (n : ℕ) → n < l.number → slice_index_or l.refused.items n false ≡ is_refused_operator (table V2019 l.declarations) n;
}
