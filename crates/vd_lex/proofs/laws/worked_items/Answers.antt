use Rattle.std.proofs.Common.{refl}
use Rattle.vd_lex.proofs.laws.worked_items.Goals as goal

pub returns : goal.returns
returns c = record {
  a_name = refl;
  a_word = refl;
  a_name_of_1993 = refl;
  a_number = refl;
  a_number_and_a_point = refl;
  bits = refl;
  a_text = refl;
  a_letter = refl;
  an_attribute = refl;
  a_mark = refl;
  no_byte_of_1993 = refl;
  no_end = refl;
  no_name = refl;
  no_digit = refl;
  no_whole_number = refl;
  no_cut = refl;
  no_identifier = refl;
}
