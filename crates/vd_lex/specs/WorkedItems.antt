-- One token of each kind, and one break of each rule, computed from the definitions alone, so that a reader can hold these against
-- the standard.
use Rattle.std.specs.Prelude.{◌≡◌, [], Some, None, codes, decimal}
use Rattle.vd_trees.specs.declared.revision.Revision.TheVariants.{V2019, V1993}
use Rattle.vd_tokens.specs.declared.kinds.Kind.TheVariants as kind
use Rattle.vd_lex.specs.Items.{token, broken, item_at}

pub record WorkedItems : Type 0 where
  pub a_name : item_at V2019 None (codes "Ab_1;") ≡ token 4 kind.Name (codes "ab_1")
  pub a_word : item_at V2019 None (codes "View p") ≡ token 4 (kind.Word 111) []
  pub a_name_of_1993 : item_at V1993 None (codes "View p") ≡ token 4 kind.Name (codes "view")
  pub a_number : item_at V2019 None (codes "16#F_f#E1,") ≡ token 9 kind.Number (decimal 4080)
  pub a_number_and_a_point : item_at V2019 None (codes "1.x") ≡ token 1 kind.Number (decimal 1)
  pub bits : item_at V2019 None (codes "12SX\"F-\" ") ≡ token 8 kind.Bits (codes "11111111----")
  pub a_text : item_at V2019 None (codes "\"a\"\"b\"&") ≡ token 6 kind.Quoted (codes "a\"b")
  pub a_letter : item_at V2019 None (codes "'''") ≡ token 3 kind.Letter (codes "'")
  pub an_attribute : item_at V2019 (Some kind.Name) (codes "'a'") ≡ token 1 (kind.Mark 1) []
  pub a_mark : item_at V2019 None (codes "?/=a") ≡ token 3 (kind.Mark 26) []
  pub no_byte_of_1993 : item_at V1993 None (codes "?=") ≡ broken None 101
  pub no_end : item_at V2019 None (codes "\"ab") ≡ broken None 102
  pub no_name : item_at V2019 None (codes "a__b") ≡ broken None 103
  pub no_digit : item_at V2019 None (codes "8#8#") ≡ broken (Some kind.Number) 104
  pub no_whole_number : item_at V2019 None (codes "1E-3") ≡ broken None 105
  pub no_cut : item_at V2019 None (codes "3X\"F\"") ≡ broken None 106
  pub no_identifier : item_at V2019 None (codes "\\a\\") ≡ broken None 107
