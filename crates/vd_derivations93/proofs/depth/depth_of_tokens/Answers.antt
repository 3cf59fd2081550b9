use Rattle.std.proofs.Common.{sym, subst, ◌∙◌}
use Rattle.std.specs.Prelude.{IfOk, Result, Ok, Err}
use Rattle.vd_gram.specs.Same.{IsSameGrammar}
use Rattle.vd_shapes.specs.Rows.{IsListed}
use Rattle.vd_shapes.specs.Reading.{symbols_in}
use Rattle.vd_grammar93.specs.Grammar.{grammar}
use Rattle.vd_grammar93.proofs.Checked.{checked, same}
use Rattle.vd_derivations93.specs.Depths.{IsText, IsDepth}
use Rattle.vd_derivations93.proofs.DepthLemmas.{text_there, depth_there}
use Rattle.vd_derivations93.proofs.depth.depth_of_tokens.Goals as goal

pub of-table-requires : goal.of-table-requires
of-table-requires c = checked c.lists.result c.table.result c.lists.ensures (subst (λ l. IsListed l c.table.result) c.in_ok-rows.ensures c.table.ensures)

pub depth_of_symbols-requires : goal.depth_of_symbols-requires
depth_of_symbols-requires c =
    let is = same c.lists.result c.table.result c.lists.ensures (subst (λ l. IsListed l c.table.result) c.in_ok-rows.ensures c.table.ensures) in
    let one = subst (λ t. IsSameGrammar t grammar) (sym c.of-table.ensures) is in
    record { text = subst (IsText c.of-table.result.table) (sym (c.deref.ensures.value ∙ c.in_ok-symbols.ensures)) (text_there c.of-table.result.table grammar one (symbols_in c.args.tokens.now) c.requires.text) }

if_ok : {T E : Type 0} (r : Result T E) (P Q : T → Type 0) → ((x : T) → P x → Q x) → IfOk r P → IfOk r Q
if_ok (Ok x) P Q f h = f x h
if_ok (Err e) P Q f h = h

pub returns : goal.returns
returns c =
    let is = same c.lists.result c.table.result c.lists.ensures (subst (λ l. IsListed l c.table.result) c.in_ok-rows.ensures c.table.ensures) in
    let one = subst (λ t. IsSameGrammar t grammar) (sym c.of-table.ensures) is in
    if_ok c.depth_of_symbols.result (λ d. IsDepth c.of-table.result.table c.deref.result.now d) (λ d. IsDepth grammar (symbols_in c.args.tokens.now) d)
    (λ d h. depth_there c.of-table.result.table grammar one (symbols_in c.args.tokens.now) d (subst (λ ss. IsDepth c.of-table.result.table ss d) (c.deref.ensures.value ∙ c.in_ok-symbols.ensures) h))
    c.depth_of_symbols.ensures
