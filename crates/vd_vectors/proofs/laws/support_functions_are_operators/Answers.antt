use Rattle.vd_vectors.proofs.SupportLemmas.{conditions_are, equal_values, equal_bits_are, equal_vectors_are, equal_bit_vectors_are, comparisons_are, reductions_are, bit_reductions_are, vs_are, sv_are, bvs_are, bsv_are, sll_is, srl_is, rol_is, ror_is, dashes_are, unequal_values, unequal_bits_are, unequal_vectors_are, unequal_bit_vectors_are, denied_reductions, denied_bit_reductions, denied_vs, denied_sv, denied_bvs, denied_bsv}
use Rattle.vd_vectors.proofs.laws.support_functions_are_operators.Goals as goal

pub returns-clause-same : goal.returns-clause-same
returns-clause-same c = record {
  condition = conditions_are;
  equal = equal_values;
  equal_bits = equal_bits_are;
  equal_vectors = equal_vectors_are;
  equal_bit_vectors = equal_bit_vectors_are;
  comparisons = comparisons_are;
  reductions = reductions_are;
  bit_reductions = bit_reductions_are;
  vector_and_value = vs_are;
  value_and_vector = sv_are;
  bit_vector_and_bit = bvs_are;
  bit_and_bit_vector = bsv_are;
  left_shifts = sll_is;
  right_shifts = srl_is;
  left_rotations = rol_is;
  right_rotations = ror_is;
  dashes = dashes_are;
}

pub returns-clause-denied : goal.returns-clause-denied
returns-clause-denied c = record {
  unequal = unequal_values;
  unequal_bits = unequal_bits_are;
  unequal_vectors = unequal_vectors_are;
  unequal_bit_vectors = unequal_bit_vectors_are;
  reductions = denied_reductions;
  bit_reductions = denied_bit_reductions;
  vector_and_value = denied_vs;
  value_and_vector = denied_sv;
  bit_vector_and_bit = denied_bvs;
  bit_and_bit_vector = denied_bsv;
}
