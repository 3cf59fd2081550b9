-- What the steps of accepting a text give.
use Rattle.std.specs.Prelude.{◌≡◌, Some}
use Rattle.vd_bytes.specs.declared.answers.Limit.{Limit}
use Rattle.vd_bytes.specs.declared.answers.Limit.TheVariants.{Nesting, Nesting93}
use Rattle.vd_forest.specs.Forest.{Forest}
use Rattle.vd_first_trees.specs.declared.form.Form.{Form}
use Rattle.vd_trees.specs.declared.revision.Revision.{Revision}
use Rattle.vd_trees.specs.declared.revision.Revision.TheVariants.{V2019, V1993}
use Rattle.vd_first_grammar.specs.declared.reader.GrammarEnd.{GrammarEnd}
use Rattle.vd_first_grammar.specs.declared.reader.GrammarEnd.TheVariants as grammar
use Rattle.vd_first_accept.specs.declared.acceptance.ConvertEnd.{ConvertEnd}
use Rattle.vd_first_accept.specs.declared.acceptance.ConvertEnd.TheVariants as ends
use Rattle.vd_first_accept.specs.Unknown.{first_unknown}

-- the name of a revision's nesting limit
abbrev pub nesting_of : Revision → Limit
nesting_of V2019 = Nesting
nesting_of V1993 = Nesting93

-- what is answered where no tree is read
abbrev pub unread_end : Revision → GrammarEnd → ConvertEnd
unread_end r (grammar.Refused x) = ends.Refused x
unread_end r grammar.Nesting = ends.Limit (nesting_of r)
unread_end r grammar.Memory = ends.Memory

-- the first name that is no port is refused by rule 303
abbrev pub NamesEnd : Forest Form → ConvertEnd → Type 0
NamesEnd units (ends.Refused x) = (x.rule ≡ 303) × (first_unknown units ≡ Some x.place)
NamesEnd units (ends.Limit limit) = ⊥
NamesEnd units ends.Memory = Unit {0}
