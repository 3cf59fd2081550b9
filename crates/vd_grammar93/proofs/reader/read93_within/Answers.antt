use Rattle.std.proofs.Common.{sym, subst}
use Rattle.std.specs.Prelude.{MatchResult, Result, Ok, Err}
use Rattle.vd_trees.specs.declared.revision.Revision.TheVariants.{V1993}
use Rattle.vd_gram.specs.Same.{IsSameGrammar}
use Rattle.vd_gram.proofs.SameLemmas.{say_the_same}
use Rattle.vd_shapes.specs.Rows.{IsListed}
use Rattle.vd_shapes.proofs.SameLemmas.{same_end}
use Rattle.vd_valid_shapes.proofs.ReadingLemmas.{same_designs, same_shape}
use Rattle.vd_grammar93.specs.Grammar.{grammar, actions}
use Rattle.vd_grammar93.proofs.Checked.{checked, same}
use Rattle.vd_grammar93.proofs.Valid.{designs}
use Rattle.vd_grammar93.proofs.reader.read93_within.Goals as goal

pub of-table-requires : goal.of-table-requires
of-table-requires c = checked c.lists.result c.table.result c.lists.ensures (subst (λ l. IsListed l c.table.result) c.in_ok-rows.ensures c.table.ensures)

pub read_design93-requires-clause-designs : goal.read_design93-requires-clause-designs
read_design93-requires-clause-designs c =
    let is = same c.lists.result c.table.result c.lists.ensures (subst (λ l. IsListed l c.table.result) c.in_ok-rows.ensures c.table.ensures) in
    let one = subst (λ t. IsSameGrammar t grammar) (sym c.of-table.ensures) is in
    same_designs say_the_same c.of-table.result.table grammar one actions V1993 designs

either : {T E : Type 0} (r : Result T E) (P P' : T → Type 0) (Q Q' : E → Type 0) → ((x : T) → P x → P' x) → ((e : E) → Q e → Q' e)
    → MatchResult r P Q → MatchResult r P' Q'
either (Ok x) P P' Q Q' f g h = f x h
either (Err e) P P' Q Q' f g h = g e h

pub returns : goal.returns
returns c =
    let is = same c.lists.result c.table.result c.lists.ensures (subst (λ l. IsListed l c.table.result) c.in_ok-rows.ensures c.table.ensures) in
    let one = subst (λ t. IsSameGrammar t grammar) (sym c.of-table.ensures) is in
    either c.read_design93.result _ _ _ _
    (λ f h. same_shape say_the_same c.of-table.result.table grammar one actions c.args.tokens.now c.args.deep f h)
    (λ e h. same_end say_the_same c.of-table.result.table grammar one c.args.tokens.now c.args.deep e h)
    c.read_design93.ensures
