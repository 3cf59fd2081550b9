-- The tokens that are written for a file are those that a token list of 1993 can have.
use Rattle.std.proofs.Common.{sym, subst}
use Rattle.std.specs.List.{AllByRecursion}
use Rattle.vd_trees.specs.declared.revision.Revision.TheVariants.{V2019}
use Rattle.vd_first_trees.specs.declared.form.Form.TheVariants as form
use Rattle.vd_first_trees.specs.Validity.{file_slots}
use Rattle.vd_first_lex.specs.Lexings.{IsPossible}
use Rattle.vd_first_grammar.specs.Shapes.{file_shape}
use Rattle.vd_first_grammar.proofs.Valid.{file_valid}
use Rattle.vd_first_passes.proofs.WrittenLemmas.{written_valid}
use Rattle.vd_first_print.specs.declared.writing.Position.TheVariants.{First}
use Rattle.vd_first_written.specs.Written.{written_tree, WrittenAreGiven}
use Rattle.vd_first_written.proofs.Given.{parts_given}

pub written_are_given : WrittenAreGiven
written_are_given ts f possible is tokens conditions known =
    let valid = file_valid V2019 f is (subst (AllByRecursion (IsPossible V2019)) (sym tokens) possible) in
    parts_given form.StatementPart First file_slots (written_tree f) (written_valid file_slots (file_shape f) valid)
