-- What the grammar's call answers.
use Rattle.std.specs.Prelude.{◌≡◌, List, Result, Ok, Err}
use Rattle.vd_forest.specs.Forest.{Forest}
use Rattle.vd_first_trees.specs.declared.form.Form.{Form}
use Rattle.vd_trees.specs.declared.revision.Revision.{Revision}
use Rattle.vd_first_lex.specs.declared.tokens.Token.{Token}
use Rattle.vd_first_grammar.specs.declared.reader.GrammarEnd.{GrammarEnd}
use Rattle.vd_first_grammar.specs.declared.reader.GrammarEnd.TheVariants as ends
use Rattle.vd_first_grammar.specs.declared.reader_steps.Stop.{Stop}
use Rattle.vd_first_grammar.specs.declared.reader_steps.Stop.TheVariants.{Hopeless, Nesting, Memory}
use Rattle.vd_first_grammar.specs.Refusals.{place_of_token}
use Rattle.vd_first_grammar.specs.Readings.{Reading, tree, hopeless, too_deep, IsReading}

-- the answer is the tree of a reading, or what is refused; memory may run out at any time
abbrev pub AnswersReading : {X : Type 0} → Revision → (X → Forest Form) → List Token → Result X GrammarEnd → Type 0
AnswersReading r view ts (Ok x) = IsReading r ts (tree (view x))
AnswersReading r view ts (Err (ends.Refused x)) = (x.rule ≡ 201) × IsReading r ts (hopeless x.place)
AnswersReading r view ts (Err ends.Nesting) = IsReading r ts too_deep
AnswersReading r view ts (Err ends.Memory) = Unit {0}

-- what is answered where reading stopped
abbrev pub end_of : Stop → GrammarEnd
end_of (Hopeless rest) = ends.Refused (record { place = place_of_token rest.now 0; rule = 201 })
end_of (Nesting rest) = ends.Nesting
end_of Memory = ends.Memory

-- a token list has one answer alone
abbrev pub OneReading : Type 0
OneReading = (r : Revision) (ts : List Token) (a b : Reading) → IsReading r ts a → IsReading r ts b → a ≡ b
