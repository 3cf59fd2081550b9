use Rattle.std.proofs.Common.{◌++◌, length, replicate, map, sym, ap, ◌∙◌, subst, arith, length-append}
use Rattle.std.proofs.lemmas.List.{length-replicate}
use Rattle.std.specs.List.{AllByRecursion}
use Rattle.vd_tokens.specs.Cells.{lexeme_in, IsWithin}
use Rattle.vd_tokens.proofs.CellLemmas.{on_err, still_lexemes, still_within, keeps_behind, pushed_within, pushed_lexemes}
use Rattle.vd_tokens.proofs.tokens.Tokens.push_filled.Goals as goal

pub returns-in_err-append-clause-unchanged : goal.returns-in_err-append-clause-unchanged
returns-in_err-append-clause-unchanged c =
    on_err c.from_residual-in_err-append.result (still_lexemes c.self.inside.texts.items c.append.new.bytes.items c.self.inside.cells.items c.in_err-append.ensures.keeps c.self.invariant ∙ c.self.view_is)

pub invariant_of-self-in_err-push : goal.invariant_of-self-in_err-push
invariant_of-self-in_err-push c =
    let old = c.self.inside.texts.items in
    let new = c.append.new.bytes.items in
    let kept = still_within old new c.self.inside.cells.items (keeps_behind old new _ c.in_ok-append.ensures.added) c.self.invariant in
    subst (AllByRecursion (IsWithin (length new))) (sym c.in_err-push.ensures.items) kept

pub returns-in_err-push-clause-unchanged : goal.returns-in_err-push-clause-unchanged
returns-in_err-push-clause-unchanged c =
    let old = c.self.inside.texts.items in
    let new = c.append.new.bytes.items in
    let same = still_lexemes old new c.self.inside.cells.items (keeps_behind old new _ c.in_ok-append.ensures.added) c.self.invariant in
    on_err c.from_residual-in_err-push.result (ap (map (lexeme_in new)) c.in_err-push.ensures.items ∙ (same ∙ c.self.view_is))

pub invariant_of-self-2 : goal.invariant_of-self-2
invariant_of-self-2 c =
    let old = c.self.inside.texts.items in
    let text = replicate c.args.count c.args.fill ++ c.args.text.now in
    let e = length-append (replicate c.args.count c.args.fill) c.args.text.now in
    let k = length-replicate c.args.count c.args.fill in
    let within = pushed_within old text c.self.inside.cells.items (record { kind = c.args.kind; place = c.args.place; start = c.in_ok-start.start; length = c.in_ok-length.length }) c.self.invariant (omega arith) (omega (arith, e, k)) in
    rw (c.in_ok-push.ensures.items, c.in_ok-append.ensures.added) within

pub returns-clause-added : goal.returns-clause-added
returns-clause-added c =
    let old = c.self.inside.texts.items in
    let text = replicate c.args.count c.args.fill ++ c.args.text.now in
    let e = length-append (replicate c.args.count c.args.fill) c.args.text.now in
    let k = length-replicate c.args.count c.args.fill in
    let added = pushed_lexemes old text c.self.inside.cells.items (record { kind = c.args.kind; place = c.args.place; start = c.in_ok-start.start; length = c.in_ok-length.length }) c.self.invariant (omega arith) (omega (arith, e, k)) in
    rw (c.in_ok-push.ensures.items, c.in_ok-append.ensures.added, ← c.self.view_is) added
