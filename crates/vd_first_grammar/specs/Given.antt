-- What a function returned is what reading gives, unless memory ran out.
use Rattle.std.specs.Prelude.{◌≡◌, List, Result, Ok, Err}
use Rattle.vd_first_lex.specs.declared.tokens.Token.{Token}
use Rattle.vd_first_grammar.specs.declared.reader_steps.Stop.{Stop}
use Rattle.vd_first_grammar.specs.declared.reader_steps.Stop.TheVariants.{Hopeless, Nesting, Memory}
use Rattle.vd_first_grammar.specs.declared.reader_steps.Expected.{Expected}
use Rattle.vd_first_grammar.specs.declared.reader_steps.Expected.TheVariants as expected
use Rattle.vd_first_grammar.specs.Symbols.{Symbol, word, mark, named, ending}
use Rattle.vd_first_grammar.specs.Reader.{Outcome, got, stuck, deep}

abbrev pub symbol_of : Expected → Symbol
symbol_of (expected.Word n) = word n
symbol_of (expected.Mark n) = mark n
symbol_of (expected.Named text) = named text.now
symbol_of expected.End = ending

abbrev pub Fails : {A : Type 0} → Stop → Outcome A → Type 0
Fails (Hopeless rest) o = o ≡ stuck rest.now
Fails (Nesting rest) o = o ≡ deep rest.now
Fails Memory o = Unit {0}

abbrev pub Gives : {X A : Type 0} → (X → A × List Token) → Result X Stop → Outcome A → Type 0
Gives view (Ok x) o = o ≡ got (view x)
Gives view (Err e) o = Fails e o
