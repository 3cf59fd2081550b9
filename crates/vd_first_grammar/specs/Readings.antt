-- What the grammar answers for a token list.
use Rattle.std.specs.Prelude.{◌≡◌, ℕ, List}
use Rattle.vd_bytes.specs.declared.places.Place.{Place}
use Rattle.vd_forest.specs.Forest.{Forest}
use Rattle.vd_first_trees.specs.declared.form.Form.{Form}
use Rattle.vd_trees.specs.declared.revision.Revision.{Revision}
use Rattle.vd_first_lex.specs.declared.tokens.Token.{Token}
use Rattle.vd_first_grammar.specs.Derivations.{File}
use Rattle.vd_first_grammar.specs.Refusals.{IsRead, IsRefusedAt, IsTooDeepAt, place_of_token}
use Rattle.vd_first_grammar.specs.Shapes.{file_shape}

pub data Reading : Type 0 where
  tree : (t : Forest Form) → Reading
  hopeless : (p : Place) → Reading
  too_deep : Reading

abbrev pub IsReading : Revision → List Token → Reading → Type 0
IsReading r ts (tree t) = (f : File) × IsRead r ts f × (t ≡ file_shape f)
IsReading r ts (hopeless p) = (k : ℕ) × IsRefusedAt r ts k × (p ≡ place_of_token ts k)
IsReading r ts too_deep = (k : ℕ) × IsTooDeepAt r ts k
