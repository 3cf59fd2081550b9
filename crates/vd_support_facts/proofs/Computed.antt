-- The facts, computed.
use Rattle.std.proofs.Common.{refl}
use Rattle.std.specs.Fmt.{digits}
use Rattle.vd_predefined.specs.Table.{standard_types, standard_operators, logic_types, logic_operators}
use Rattle.vd_support_facts.specs.Matching.{MatchingFacts, BitMatchingFacts}
use Rattle.vd_support_facts.specs.Reductions.{ReductionFacts, BitReductionFacts}
use Rattle.vd_support_facts.specs.Mixed.{MixedFacts, BitMixedFacts}
use Rattle.vd_support_facts.specs.Shifts.{ShiftFacts, RotationFacts}
use Rattle.vd_support_facts.specs.Texts.{TextFacts}

pub matching : MatchingFacts
unfolding standard_types standard_operators logic_types logic_operators digits
matching = record { conditions = record { text = refl; operator = refl }; values = record { text = refl; operator = refl }; vectors = record { text = refl; operator = refl }; dashes = refl }

pub bit_matching : BitMatchingFacts
unfolding standard_types standard_operators logic_types logic_operators digits
bit_matching = record { values = record { text = refl; operator = refl }; vectors = record { text = refl; operator = refl }; less = record { text = refl; operator = refl }; at_most = record { text = refl; operator = refl }; greater = record { text = refl; operator = refl }; at_least = record { text = refl; operator = refl } }

pub reductions : ReductionFacts
unfolding standard_types standard_operators logic_types logic_operators digits
reductions = record { conjunctions = record { text = refl; operator = refl }; disjunctions = record { text = refl; operator = refl }; exclusions = record { text = refl; operator = refl } }

pub bit_reductions : BitReductionFacts
unfolding standard_types standard_operators logic_types logic_operators digits
bit_reductions = record { conjunctions = record { text = refl; operator = refl }; disjunctions = record { text = refl; operator = refl }; exclusions = record { text = refl; operator = refl } }

pub mixed : MixedFacts
unfolding standard_types standard_operators logic_types logic_operators digits
mixed = record { and_vs = record { text = refl; operator = refl }; or_vs = record { text = refl; operator = refl }; xor_vs = record { text = refl; operator = refl }; and_sv = record { text = refl; operator = refl }; or_sv = record { text = refl; operator = refl }; xor_sv = record { text = refl; operator = refl } }

pub bit_mixed : BitMixedFacts
unfolding standard_types standard_operators logic_types logic_operators digits
bit_mixed = record { and_vs = record { text = refl; operator = refl }; or_vs = record { text = refl; operator = refl }; xor_vs = record { text = refl; operator = refl }; and_sv = record { text = refl; operator = refl }; or_sv = record { text = refl; operator = refl }; xor_sv = record { text = refl; operator = refl } }

pub shifts : ShiftFacts
unfolding standard_types standard_operators logic_types logic_operators digits
shifts = record { left = record { text = refl; operator = refl }; far_left = refl; right = record { text = refl; operator = refl }; far_right = refl }

pub rotations : RotationFacts
unfolding standard_types standard_operators logic_types logic_operators digits
rotations = record { left = record { text = refl; operator = refl }; far_left = refl; right = record { text = refl; operator = refl }; far_right = refl }

pub texts : TextFacts
unfolding standard_types standard_operators logic_types logic_operators digits
texts = record { values = record { text = refl; operator = refl }; vectors = record { text = refl; operator = refl } }
