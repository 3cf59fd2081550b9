-- The tokens that are written for a 2019 file are a 1993 text, whatever places they have.
use Rattle.std.proofs.Common.{List, [], ◌∷◌, refl, sym, ap, ◌∙◌}
use Rattle.std.proofs.lemmas.List.{map-append}
use Rattle.vd_forest.proofs.ForestLemmas.{same_trans}
use Rattle.vd_trees.specs.declared.revision.Revision.TheVariants.{V1993}
use Rattle.vd_first_lex.specs.declared.tokens.Token.{Token}
use Rattle.vd_first_grammar.specs.Derivations.{File, file_tokens}
use Rattle.vd_first_grammar.specs.Shapes.{file_shape}
use Rattle.vd_first_print.specs.Writing.{design_tokens}
use Rattle.vd_first_print.specs.ReadingBack.{placeless, all_placeless, placeless_end}
use Rattle.vd_first_written.specs.Written.{IsText93, written_tree, WrittenIs93}
use Rattle.vd_first_written.proofs.Replaced.{file, Replaced, replaced}
use Rattle.vd_first_written.proofs.PlacelessGrammar.{is_file_alike}
use Rattle.vd_first_written.proofs.PlacelessNames.{conditions_alike, known_alike}
use Rattle.vd_first_written.proofs.PlacelessShapes.{shape_alike}
use Rattle.vd_first_written.proofs.WrittenFile.{written_file}
use Rattle.vd_first_written.proofs.WrittenText.{file_is, conditions_met, names_known, tree_is, tokens_are}

-- a 1993 text stays one when its tokens get other places
pub text_replaced : (ts : List Token) (f : File) (us : List Token) (r : Replaced file f us) → IsText93 ts f → IsText93 us r.new
text_replaced ts f us r text =
    record {
      is_file = is_file_alike V1993 f r.new (sym r.same) text.is_file;
      tokens = r.tokens;
      conditions = conditions_alike f r.new (sym r.same) text.conditions;
      known = known_alike f r.new (sym r.same) text.known;
    }

pub written_is_93 : WrittenIs93
written_is_93 ts f possible is tokens conditions known us same =
    let new = written_file f in
    let text : IsText93 (file_tokens new) new =
    record { is_file = file_is f is; tokens = refl; conditions = conditions_met f is conditions; known = names_known f is known } in
    let own = ap all_placeless (tokens_are f is) ∙ map-append placeless (design_tokens (written_tree f)) (placeless_end ∷ []) ∙ sym same in
    let r = replaced file new us own in
    record {
      file = r.new;
      is_text = text_replaced (file_tokens new) new us r text;
      tree = same_trans (file_shape r.new) (file_shape new) (written_tree f) (shape_alike r.new new r.same) (record { same = tree_is f is });
    }
