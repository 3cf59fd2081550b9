use Rattle.vd_operators.proofs.SupportTexts.{values_written, vectors_written}
use Rattle.vd_operators.proofs.laws.support_texts_are_operators.Goals as goal

pub returns : goal.returns
returns c = record { of_value = values_written; of_vector = vectors_written }
