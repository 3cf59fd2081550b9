-- The elements of a map, one by one: their trees are collected in the other order.
use Rattle.std.proofs.Common.{◌≡◌, ◌≤◌, ◌<◌, ◌+◌, ℕ, List, [], ◌∷◌, length, map, drop, get_or, Option, refl, ap, sym, subst, ◌∙◌}
use Rattle.std.proofs.lemmas.List.{drop_more, drop_all}
use Rattle.vd_bytes.specs.declared.answers.Refused.{Refused}
use Rattle.vd_bytes.specs.declared.places.Place.{Place}
use Rattle.vd_forest.specs.Forest.{Forest, nothing, more, turned}
use Rattle.vd_forest.specs.Store.{at, Holds, Extends}
use Rattle.vd_forest.proofs.StoreLemmas.{turned_grown, extends_trans}
use Rattle.vd_forms.specs.declared.form.Form.{Form}
use Rattle.vd_walks.specs.Least.{lesser}
use Rattle.vd_walks.proofs.OrderLaws.{lesser_brackets, lesser_right}
use Rattle.vd_resolved.specs.declared.node.Resolved.{Resolved}
use Rattle.vd_name_rows.specs.Designs.{At, Design, Outcome}
use Rattle.vd_naming.specs.Associations.{Element}
use Rattle.vd_naming.specs.Actuals.{Known}
use Rattle.vd_naming.specs.Generics.{beside, element_outcome, elements_outcome}
use Rattle.vd_name_maps.specs.Seen.{seen_element}
use Rattle.vd_name_maps.specs.declared.element.Element as code
use Rattle.vd_name_entering.specs.Made.{IsMade}
use Rattle.vd_name_entering.specs.declared.made.Made.{Made}
use Rattle.vd_name_maps.proofs.StayLemmas.{elements_stay}

-- ---- the elements that are left

pub one_less : (xs : List code.Element) (i : ℕ) (x : code.Element) → i < length xs → x ≡ get_or xs i x
    → map seen_element (drop i xs) ≡ seen_element x ∷ map seen_element (drop (i + 1) xs)
one_less xs i x within is = ap (map seen_element) (drop_more xs i x within ∙ ap (λ y. y ∷ drop (i + 1) xs) (sym is))

pub none_left : (xs : List code.Element) (i : ℕ) → length xs ≤ i → map seen_element (drop i xs) ≡ []
none_left xs i past = ap (map seen_element) (drop_all i xs past)

-- ---- what they come to

module _ (a : At) (d : Design) (k : Known) where
  without_trees : (es : List Element) → elements_outcome a d k es nothing ≡ elements_outcome a d k [] nothing
  without_trees [] = refl
  without_trees (e ∷ es) = refl

  -- what is so of a loop's state, where all elements come to `all`
  pub record Kept (start : List (Forest Resolved)) (all : Outcome) (es : List Element) (store : List (Forest Resolved)) (trees : ℕ) (first : Option Refused)
      (left : Forest Form) : Type 0 where
    pub trees_in : trees ≤ length store
    pub tree : turned (at store trees) (elements_outcome a d k es left).tree ≡ all.tree
    pub first_is : lesser first (elements_outcome a d k es left).first ≡ all.first
    pub extends : Extends start store

  module _ (start : List (Forest Resolved)) (all : Outcome) where
    pub same_kept : (es : List Element) (store store' : List (Forest Resolved)) (trees trees' : ℕ) (first first' : Option Refused) (left left' : Forest Form)
        → store' ≡ store → trees' ≡ trees → first' ≡ first → left' ≡ left → Kept start all es store trees first left
        → Kept start all es store' trees' first' left'
    same_kept es store store' trees trees' first first' left left' stores numbers refusals lefts kept =
        subst (λ s. Kept start all es s trees' first' left') (sym stores)
        (subst (λ n. Kept start all es store n first' left') (sym numbers)
        (subst (λ r. Kept start all es store trees r left') (sym refusals)
        (subst (λ t. Kept start all es store trees first t) (sym lefts) kept)))

    -- one element more
    pub next_kept : (fs hs gs : List (Forest Resolved)) (es rest : List Element) (e : Element) (trees new : ℕ) (made : Made) (first : Option Refused)
        (left next inner : Forest Form) (f : Form) (text : List ℕ) (place : Place)
        → es ≡ e ∷ rest → left ≡ more f text place inner next → Kept start all es fs trees first left
        → IsMade hs d made (element_outcome e.generic a d k e.actual f text place inner) → Extends fs hs
        → Holds gs new (turned (at hs made.tree) (at hs trees)) → Extends hs gs
        → Kept start all rest gs new (lesser first made.first) next
    next_kept fs hs gs es rest e trees new made first left next inner f text place listed opened kept is grown added grown_again =
        let o = element_outcome e.generic a d k e.actual f text place inner in
        let behind = elements_outcome a d k rest next in
        let split : elements_outcome a d k es left ≡ beside o behind =
        ap (λ xs. elements_outcome a d k xs left) listed ∙ ap (elements_outcome a d k (e ∷ rest)) opened
        in
        record {
          trees_in = added.within;
          tree =
              turned_grown hs gs trees new (elements_outcome a d k es left).tree behind.tree o.tree all.tree (ap (λ p. p.tree) split)
              (record { within = added.within; is = added.is ∙ ap (λ t. turned t (at hs trees)) is.holds.is })
              (ap (λ t. turned t (elements_outcome a d k es left).tree) (grown.keeps trees kept.trees_in) ∙ kept.tree);
          first_is =
              ap (λ r. lesser (lesser first r) behind.first) is.first ∙ lesser_brackets first o.first behind.first
              ∙ ap (λ p. lesser first p.first) (sym split) ∙ kept.first_is;
          extends = extends_trans start fs gs kept.extends (extends_trans fs hs gs grown grown_again);
        }

    -- an element without a tree
    pub still_kept : (es rest : List Element) (store : List (Forest Resolved)) (trees : ℕ) (first : Option Refused) (left : Forest Form)
        → left ≡ nothing → Kept start all es store trees first left → Kept start all rest store trees first left
    still_kept es rest store trees first left none kept =
        let same : elements_outcome a d k rest left ≡ elements_outcome a d k es left =
        ap (elements_outcome a d k rest) none ∙ without_trees rest ∙ sym (without_trees es) ∙ ap (elements_outcome a d k es) (sym none)
        in
        record {
          trees_in = kept.trees_in;
          tree = ap (λ o. turned (at store trees) o.tree) same ∙ kept.tree;
          first_is = ap (λ o. lesser first o.first) same ∙ kept.first_is;
          extends = kept.extends;
        }

  none_come_to : (left : Forest Form) → elements_outcome a d k [] left ≡ elements_outcome a d k [] nothing
  none_come_to nothing = refl
  none_come_to (more f text place parts next) = refl

  -- the end
  pub all_made : (start store last : List (Forest Resolved)) (all : List Element) (parts : Forest Form) (es : List Element) (trees made : ℕ) (first : Option Refused)
      (left : Forest Form) → es ≡ [] → Kept start (elements_outcome a d k all parts) es store trees first left
      → Holds last made (turned (at store trees) nothing)
      → IsMade last d (record { tree = made; first = first }) (elements_outcome a d k all parts)
  all_made start store last all parts es trees made first left none kept held =
      let end : elements_outcome a d k es left ≡ elements_outcome a d k [] nothing = ap (λ xs. elements_outcome a d k xs left) none ∙ none_come_to left in
      record {
        holds = record { within = held.within; is = held.is ∙ ap (λ o. turned (at store trees) o.tree) (sym end) ∙ kept.tree };
        design = sym (elements_stay a d k all parts).design;
        first = sym (lesser_right first) ∙ ap (λ o. lesser first o.first) (sym end) ∙ kept.first_is;
      }
