-- Names as they stand in a text. (IEEE 1076, lexical elements; designators)
use Rattle.std.specs.Prelude.{ℕ, List}
use Rattle.vd_forms.specs.declared.form.Form.{Form}
use Rattle.vd_forms.specs.declared.form.Form.TheVariants as form
use Rattle.vd_visible.specs.Types.{letter_name}
use Rattle.vd_ways.specs.Ways.{symbol_name}

-- an identifier, a character literal with its apostrophes, an operator symbol with its quotation marks in lower case
abbrev pub declared_name : Form → List ℕ → List ℕ
declared_name form.Letter text = letter_name text
declared_name form.Quoted text = symbol_name text
declared_name _ text = text
