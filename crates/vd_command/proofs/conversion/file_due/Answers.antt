use Rattle.std.proofs.Common.{refl, sym, subst, arith}
use Rattle.vd_first_lex.specs.Lexings.{ColumnsFit}
use Rattle.vd_first_lex.proofs.LineLemmas.{columns_fit}
use Rattle.vd_first_lower.specs.Conversions.{refused, beyond, converted, IsConversion, EndsAs}
use Rattle.vd_first_lower.proofs.Alone.{fits_alone}
use Rattle.vd_first_lower.proofs.OneConversion.{one_conversion}
use Rattle.vd_command.proofs.FirstLemmas.{refused_is_not_first, beyond_is_not_first}
use Rattle.vd_command.proofs.conversion.file_due.Goals as goal

pub convert-requires-clause-columns : goal.convert-requires-clause-columns
convert-requires-clause-columns c =
    fits_alone c.in_ok-selected.selected
    (subst ColumnsFit (sym c.in_ok-selected.ensures) (columns_fit 0 c.args.bytes.now (omega (arith, c.requires.few))))

pub returns-in-Ok-clause-first : goal.returns-in-Ok-clause-first
returns-in-Ok-clause-first c =
    let answer = converted c.in-Ok.converted.design c.in-Ok.converted.map.rows c.in-Ok.converted.units in
    let is = subst (λ s. IsConversion s answer) c.in_ok-selected.ensures (c.in-Ok.ensures.exact c.in_ok-selected.selected refl) in
    record {
      content = c.args.bytes.now;
      alone = refl;
      design = c.in-Ok.converted.design;
      rows = c.in-Ok.converted.map.rows;
      units = c.in-Ok.converted.units;
      is = is;
      due_is = c.in_ok-conversion_due-in-Ok.ensures;
    }

pub returns-in-Err-Refused-clause-other : goal.returns-in-Err-Refused-clause-other
returns-in-Err-Refused-clause-other c =
    let answer = refused c.in-Err-Refused.field-0-0 in
    let is = subst (λ s. IsConversion s answer) c.in_ok-selected.ensures (subst (EndsAs c.in_ok-selected.selected) c.in-Err-Refused.field-0-is (c.in-Err-Refused.ensures.exact c.in_ok-selected.selected refl)) in
    λ none. refused_is_not_first one_conversion c.args.bytes.now c.in-Err-Refused.field-0-0 is

pub returns-in-Err-Limit-clause-other : goal.returns-in-Err-Limit-clause-other
returns-in-Err-Limit-clause-other c =
    let answer = beyond c.in-Err-Limit.field-0-0 in
    let is = subst (λ s. IsConversion s answer) c.in_ok-selected.ensures (subst (EndsAs c.in_ok-selected.selected) c.in-Err-Limit.field-0-is (c.in-Err-Limit.ensures.exact c.in_ok-selected.selected refl)) in
    λ none. beyond_is_not_first one_conversion c.args.bytes.now c.in-Err-Limit.field-0-0 is
