-- The grammar isn't ambiguous: no token list has two derivations, in either revision.
-- (IEEE 1076: design file.)
use Rattle.std.specs.Prelude.{◌≡◌}
use Rattle.vd_trees.specs.declared.revision.Revision.{Revision}
use Rattle.vd_first_grammar.specs.Derivations.{File, IsFile, file_tokens}

abbrev pub HasOneDerivation : Type 0
HasOneDerivation = (r : Revision) (f g : File) → IsFile r f → IsFile r g → file_tokens f ≡ file_tokens g → f ≡ g
