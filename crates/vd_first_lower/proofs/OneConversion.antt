-- A file has one conversion: it is determined by what accepting the file answers.
use Rattle.std.proofs.Common.{◌≡◌, refl, sym, ap, ◌∙◌}
use Rattle.vd_trees.specs.declared.revision.Revision.TheVariants.{V2019}
use Rattle.vd_first_lex.specs.declared.selected.Selected.{Selected}
use Rattle.vd_first_grammar.specs.Shapes.{file_shape}
use Rattle.vd_first_accept.specs.Acceptance as acceptance
use Rattle.vd_first_accept.specs.Acceptance.{Acceptance, IsAcceptance}
use Rattle.vd_first_accept.proofs.OneAcceptance.{one_acceptance}
use Rattle.vd_first_print.specs.Writing.{design_tokens}
use Rattle.vd_first_print.specs.Layout.{layout_of}
use Rattle.vd_first_names.specs.Maps.{design_rows}
use Rattle.vd_first_passes.specs.Lowering.{lowered}
use Rattle.vd_first_passes.specs.Flavour.{flavoured}
use Rattle.vd_first_lower.specs.Conversions.{Answer, refused, beyond, converted, design_text, map_rows, IsConversion}
use Rattle.vd_first_lower.specs.Steps.{HasOneConversion}

-- what is written for a text that is answered so
abbrev written_for : Acceptance → Answer
written_for (acceptance.refused x) = refused x
written_for (acceptance.beyond limit) = beyond limit
written_for (acceptance.accepted units) = converted (layout_of (design_tokens (flavoured (lowered units)))) (design_rows units) 2

record Path (s : Selected) (a : Answer) : Type 0 where
  answer : Acceptance
  is_answer : IsAcceptance V2019 s answer
  written : a ≡ written_for answer

path : (s : Selected) (a : Answer) → IsConversion s a → Path s a
path s (refused x) h = record { answer = acceptance.refused x; is_answer = h; written = refl }
path s (beyond limit) h = record { answer = acceptance.beyond limit; is_answer = h; written = refl }
path s (converted design rows units) c =
    record {
      answer = acceptance.accepted (file_shape c.file);
      is_answer = record { tokens = c.tokens; has_tokens = c.has_tokens; file = c.file; read = c.read; known = c.known; units_are = refl };
      written =
          ap (λ d. converted d rows units) c.design_is
          ∙ ap (λ r. converted (design_text c.file) r units) c.rows_are
          ∙ ap (λ u. converted (design_text c.file) (map_rows c.file) u) c.units_are;
    }

pub one_conversion : HasOneConversion
one_conversion s a b x y =
    let p = path s a x in
    let q = path s b y in
    p.written ∙ ap written_for (one_acceptance V2019 s p.answer q.answer p.is_answer q.is_answer) ∙ sym q.written
