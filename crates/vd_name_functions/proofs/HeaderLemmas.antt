-- What the end of a header changes, whatever trees and refusals stand beside it.
use Rattle.std.proofs.Common.{◌≡◌, ℕ, List, Option, Some, None, refl, sym, ap, subst, ◌∙◌}
use Rattle.vd_bytes.specs.declared.answers.Refused.{Refused}
use Rattle.vd_declarations.specs.declared.declarations.Declaration.{Declaration}
use Rattle.vd_forest.specs.Forest.{Forest, nothing}
use Rattle.vd_forest.specs.Store.{Holds}
use Rattle.vd_resolved.specs.declared.node.Resolved.{Resolved}
use Rattle.vd_name_rows.specs.Designs.{At, Design, Outcome, gives}
use Rattle.vd_name_entering.specs.Made.{IsMade}
use Rattle.vd_name_entering.specs.declared.made.Made.{Made}
use Rattle.vd_naming.specs.Functions.{header_ends, header_ends_as, declaration_of_body, written_function}

tree_kept : (known : Option ℕ) (at : At) (d : Design) (new : Declaration) (tree : Forest Resolved) (first : Option Refused)
    → (header_ends_as known at d new (gives at d tree first)).tree ≡ tree
tree_kept None at d new tree first = refl
tree_kept (Some k) at d new tree first = refl

same_design : (known : Option ℕ) (at : At) (d : Design) (new : Declaration) (tree : Forest Resolved) (first : Option Refused)
    → (header_ends_as known at d new (gives at d nothing None)).design ≡ (header_ends_as known at d new (gives at d tree first)).design
same_design None at d new tree first = refl
same_design (Some k) at d new tree first = refl

pub same_place : (known : Option ℕ) (at : At) (d : Design) (new : Declaration) (tree : Forest Resolved) (first : Option Refused)
    → (header_ends_as known at d new (gives at d nothing None)).at ≡ (header_ends_as known at d new (gives at d tree first)).at
same_place None at d new tree first = refl
same_place (Some k) at d new tree first = refl

first_kept : (known : Option ℕ) (at : At) (d : Design) (new : Declaration) (tree : Forest Resolved) (first : Option Refused)
    → (header_ends_as known at d new (gives at d tree first)).first ≡ first
first_kept None at d new tree first = refl
first_kept (Some k) at d new tree first = refl

-- a header that ends by what was found is the end of the header
abbrev pub header_of : At → Design → Declaration
header_of at d = written_function (record { name = at.word; place = at.word_place }) at.mark at.region d

module _ (at : At) (d d' : Design) (known : Option ℕ) (new : Declaration) (tree : Forest Resolved) (before : Option Refused) where
  ends_by : known ≡ declaration_of_body at d new → new ≡ header_of at d
      → header_ends_as known at d new (gives at d tree before) ≡ header_ends (gives at d tree before)
  ends_by found is =
      ap (λ k. header_ends_as k at d new (gives at d tree before)) found
      ∙ ap (λ n. header_ends_as (declaration_of_body at d n) at d n (gives at d tree before)) is

  pub header_made : (store : List (Forest Resolved)) (made : Made) → known ≡ declaration_of_body at d new → new ≡ header_of at d
      → d' ≡ (header_ends_as known at d new (gives at d nothing None)).design
      → made.first ≡ before → Holds store made.tree tree → IsMade store d' made (header_ends (gives at d tree before))
  header_made store made found is design first_is held =
      subst (IsMade store d' made) (ends_by found is)
      (record {
        holds = record { within = held.within; is = held.is ∙ sym (tree_kept known at d new tree before) };
        design = design ∙ same_design known at d new tree before;
        first = first_is ∙ sym (first_kept known at d new tree before);
      })

  pub header_place : (at' : At) → known ≡ declaration_of_body at d new → new ≡ header_of at d
      → at' ≡ (header_ends_as known at d new (gives at d nothing None)).at
      → at' ≡ (header_ends (gives at d tree before)).at
  header_place at' found is place = place ∙ same_place known at d new tree before ∙ ap (λ (o : Outcome). o.at) (ends_by found is)

-- ---- what a mark came to is the outcome of the mark

outcome_is : (o : Outcome) (at : At) (d : Design) (first : Option Refused) → at ≡ o.at → d ≡ o.design → first ≡ o.first → gives at d o.tree first ≡ o
outcome_is o at d first at_is design_is first_is =
    ap (λ a. gives a d o.tree first) at_is ∙ ap (λ e. gives o.at e o.tree first) design_is ∙ ap (gives o.at o.design o.tree) first_is

module _ (o want : Outcome) (at : At) (d d' : Design) (first : Option Refused) where
  pub mark_made : (store : List (Forest Resolved)) (made : ℕ) (ended : Made) → at ≡ o.at → d ≡ o.design → first ≡ o.first → o ≡ want
      → Holds store made o.tree
      → ((s : List (Forest Resolved)) (tree : Forest Resolved) → Holds s made tree → IsMade s d' ended (header_ends (gives at d tree first)))
      → IsMade store d' ended (header_ends want)
  mark_made store made ended at_is design_is first_is whole held by_tree =
      subst (λ x. IsMade store d' ended (header_ends x)) (outcome_is o at d first at_is design_is first_is ∙ whole) (by_tree store o.tree held)

  pub mark_place : (at' : At) → at ≡ o.at → d ≡ o.design → first ≡ o.first → o ≡ want
      → ((tree : Forest Resolved) → at' ≡ (header_ends (gives at d tree first)).at) → at' ≡ (header_ends want).at
  mark_place at' at_is design_is first_is whole by_tree =
      by_tree o.tree ∙ ap (λ (x : Outcome). (header_ends x).at) (outcome_is o at d first at_is design_is first_is ∙ whole)
