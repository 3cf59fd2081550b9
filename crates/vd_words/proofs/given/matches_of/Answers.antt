use Rattle.std.proofs.Common.{◌≡◌, ◌∙◌, true, ap, sym, subst, map, string_bytes}
use Rattle.vd_words.specs.declared.command.WordsEnd.TheVariants.{NotTaken}
use Rattle.vd_words.specs.Words.{texts_of}
use Rattle.vd_words.specs.Given.{line, is_plain_line}
use Rattle.vd_words.proofs.Readings.{silent}
use Rattle.vd_words.proofs.Finding.{told_by, untold_by}
use Rattle.vd_words.proofs.given.matches_of.Goals as goal

pub returns-then-not-is_plain_line-clause-not_taken : goal.returns-then-not-is_plain_line-clause-not_taken
returns-then-not-is_plain_line-clause-not_taken c _ =
    (silent (texts_of c.args.words.now.items) (ap (λ ws. is_plain_line (texts_of ws)) (sym c.deref.ensures.value) ∙ sym c.is_plain_line.ensures ∙ c.if-not-is_plain_line.true)).free

pub returns-in-Ok-clause-taken : goal.returns-in-Ok-clause-taken
returns-in-Ok-clause-taken c =
    let plain : is_plain_line (texts_of c.args.words.now.items) ≡ true = ap (λ ws. is_plain_line (texts_of ws)) (sym c.deref.ensures.value) ∙ sym c.is_plain_line.ensures ∙ c.if-not-is_plain_line.false in
    told_by _ _ (texts_of c.args.words.now.items) c.in-Ok.matches c.in_ok-command.ensures (ap texts_of c.as_slice.ensures.value) plain c.in-Ok.ensures.matches c.in-Ok.ensures.kinds

pub returns-in-Err-clause-not_taken : goal.returns-in-Err-clause-not_taken
returns-in-Err-clause-not_taken c is =
    let plain : is_plain_line (texts_of c.args.words.now.items) ≡ true = ap (λ ws. is_plain_line (texts_of ws)) (sym c.deref.ensures.value) ∙ sym c.is_plain_line.ensures ∙ c.if-not-is_plain_line.false in
    let end : c.end_of.result ≡ NotTaken = cc in
    untold_by _ _ (texts_of c.args.words.now.items) c.in-Err.error c.in_ok-command.ensures (ap texts_of c.as_slice.ensures.value) plain c.in-Err.ensures.kinds (λ out. c.end_of.ensures end (c.kind.ensures ∙ out))
