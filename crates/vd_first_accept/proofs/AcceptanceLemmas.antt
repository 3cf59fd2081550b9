-- What the steps of accepting a text give together.
use Rattle.std.proofs.Common.{List, sym, ap, ◌∙◌, None, ◌≡◌, inr}
use Rattle.vd_forest.specs.Forest.{Forest}
use Rattle.vd_first_trees.specs.declared.form.Form.{Form}
use Rattle.vd_trees.specs.declared.revision.Revision.{Revision}
use Rattle.vd_first_lex.specs.declared.selected.Selected.{Selected}
use Rattle.vd_first_lex.specs.declared.tokens.Token.{Token}
use Rattle.vd_first_grammar.specs.Readings.{tree, IsReading}
use Rattle.vd_first_accept.specs.declared.acceptance.ConvertEnd.{ConvertEnd}
use Rattle.vd_first_accept.specs.declared.acceptance.ConvertEnd.TheVariants as ends
use Rattle.vd_first_accept.specs.Unknown.{first_unknown}
use Rattle.vd_first_accept.specs.Acceptance.{HasTokens, IsAccepted, IsUnaccepted}
use Rattle.vd_first_accept.specs.Steps.{NamesEnd}
use Rattle.vd_first_accept.proofs.UnknownFound.{names_known, names_unknown}

module _ (r : Revision) (s : Selected) (ts : List Token) (has : HasTokens r s ts) where
  -- a tree is read, and each name in it is a port
  pub accepts : (units searched : Forest Form) → searched ≡ units → IsReading r ts (tree units) → first_unknown searched ≡ None → IsAccepted r s units
  accepts units searched same reading known =
      record {
        tokens = ts;
        has_tokens = has;
        file = reading.0;
        read = reading.1;
        known = names_known reading.0 (ap first_unknown (sym (same ∙ reading.2)) ∙ known);
        units_are = reading.2;
      }

  -- a tree is read, and a name in it is no port
  pub names_refused : (units searched : Forest Form) (e : ConvertEnd) → searched ≡ units → IsReading r ts (tree units) → NamesEnd searched e → IsUnaccepted r s e
  names_refused units searched (ends.Refused x) same reading w =
      let n = names_unknown reading.0 x.place (ap first_unknown (sym (same ∙ reading.2)) ∙ w.1) in
      inr (inr (record {
        rule = w.0;
        tokens = ts;
        has_tokens = has;
        file = reading.0;
        read = reading.1;
        name = n.name;
        unknown = n.first;
        place = n.place;
      }))
  names_refused units searched (ends.Limit limit) same reading w = absurd w
  names_refused units searched ends.Memory same reading w = tt
