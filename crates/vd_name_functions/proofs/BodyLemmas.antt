-- Functions that their bodies declare.
use Rattle.std.proofs.Common.{◌≡◌, ℕ, Bool, cond, List, Option, Some, None, ap, subst, ◌∙◌}
use Rattle.vd_bytes.specs.declared.answers.Refused.{Refused}
use Rattle.vd_declarations.specs.declared.declarations.Declaration.{Declaration}
use Rattle.vd_forest.specs.Forest.{Forest, nothing, more}
use Rattle.vd_forest.specs.Store.{Holds}
use Rattle.vd_walks.specs.Least.{lesser}
use Rattle.vd_resolved.specs.declared.node.Resolved.{Resolved}
use Rattle.vd_name_rows.specs.Designs.{Design}
use Rattle.vd_name_rows.specs.Entering.{Entering, entering}
use Rattle.vd_name_rows.specs.Members.{next_number}
use Rattle.vd_name_rows.specs.Noting.{with_span, with_body, tied_to}
use Rattle.vd_name_rows.specs.declared.notes.Span.{Span}
use Rattle.vd_name_entering.specs.Entered.{IsEntered}
use Rattle.vd_name_entering.specs.Made.{IsMade}
use Rattle.vd_name_entering.specs.declared.made.Made.{Made}
use Rattle.vd_naming.specs.Endings.{Ended}
use Rattle.vd_naming.specs.Expressions.{resolved}
use Rattle.vd_naming.specs.Functions.{header_span, is_tied, entering_body, function_of_body, body_of}
use Rattle.vd_name_functions.specs.Bodies.{ended_body}

-- the end of a body is noted, where it stands in this unit
abbrev pub noted_end : Bool → ℕ → ℕ → Design → Design
noted_end tied k unit d = cond tied (tied_to k unit (with_body k d)) (with_body k d)

module _ (x : Ended) (tied : Bool) (k : ℕ) (new : Declaration) where
  pub body_entered : (region unit : ℕ) (span : Span) (d1 d2 d3 : Design) (first : Option Refused) → region ≡ x.outer.region → unit ≡ x.outer.unit
      → span ≡ header_span x → IsEntered d1 first (entering region new x.inner.design) → d2 ≡ with_span k span d1 → d3 ≡ noted_end tied k unit d2
      → IsEntered d3 first (ended_body x tied k new)
  body_entered region unit span d1 d2 d3 first round same is entered spanned noted = record {
    design =
        noted
        ∙ ap (noted_end tied k unit) (spanned ∙ ap (λ s. with_span k s d1) is ∙ ap (with_span k (header_span x)) entered.design)
        ∙ ap (λ r. noted_end tied k unit (with_span k (header_span x) (entering r new x.inner.design).design)) round
        ∙ ap (λ u. noted_end tied k u (with_span k (header_span x) (entering x.outer.region new x.inner.design).design)) same;
    first = entered.first ∙ ap (λ r. (entering r new x.inner.design).first) round;
  }

  -- where it is known whether the body is tied
  body_known : tied ≡ is_tied x new.class k → ended_body x tied k new ≡ entering_body x k new
  body_known is =
      let e = entering x.outer.region new x.inner.design in
      ap (λ b. record e { design = noted_end b k x.outer.unit (with_span k (header_span x) e.design) }) is

  abbrev node : ℕ → Forest Resolved
  node n = more (resolved x.form (Some n) None) x.text x.place x.inner.tree nothing

  pub body_made : (store : List (Forest Resolved)) (d : Design) (first : Option Refused) (made : Made) → k ≡ next_number x.inner.design → new ≡ function_of_body x
      → tied ≡ is_tied x new.class k → IsEntered d first (ended_body x tied k new)
      → Holds store made.tree (node k) → made.first ≡ lesser x.inner.first first
      → IsMade store d made (body_of None x)
  body_made store d first made number is tie entered held refused =
      let at_number : entering_body x k new ≡ entering_body x (next_number x.inner.design) (function_of_body x) =
      ap (λ n. entering_body x n new) number ∙ ap (entering_body x (next_number x.inner.design)) is in
      let whole = body_known tie ∙ at_number in
      record {
        holds = subst (λ n. Holds store made.tree (node n)) number held;
        design = entered.design ∙ ap (λ (e : Entering). e.design) whole;
        first = refused ∙ ap (lesser x.inner.first) (entered.first ∙ ap (λ (e : Entering). e.first) whole);
      }
