-- Lists of branches and of generates, from the first on. No name has a dash, so that a caller can name each in `#[tactic(auto, using(..))]`.
use Rattle.std.proofs.Common.{◌≡◌, ◌≤◌, ℕ, zero, suc, List, length, sym, ap, ◌∙◌, arith}
use Rattle.vd_bytes.specs.declared.places.Place.{Place}
use Rattle.vd_forest.specs.Forest.{Forest, joined, more, nothing, turned}
use Rattle.vd_forest.specs.Store.{at, Holds, Extends}
use Rattle.vd_forest.proofs.ForestLemmas.{turned_turned}
use Rattle.vd_forest.proofs.StoreLemmas.{extends_same, extends_trans, within_more, at_more, kept}
use Rattle.vd_notes.specs.declared.noted.Noted.{Noted}
use Rattle.vd_lowering.specs.Generates.{all_branches, all_generates, case_branch, not_taken, one_generate}
use Rattle.vd_lowering.specs.declared.operators.TypeRow.{TypeRow}

pub joined_turned : (fs hs gs : List (Forest Noted)) (front rest turning number : ℕ) → Extends fs hs → rest ≤ length fs
    → Holds hs turning (turned (at fs front) (at fs 0)) → Holds gs number (turned (at hs turning) (at hs rest)) → Holds gs number (joined (at fs front) (at fs rest))
joined_turned fs hs gs front rest turning number grown within first second = record {
  within = second.within;
  is =
      second.is ∙ ap (λ f. turned f (at hs rest)) first.is ∙ turned_turned (at fs front) nothing (at hs rest)
      ∙ ap (joined (at fs front)) (grown.keeps rest within);
}

pub branch_step : (rows : List TypeRow) (place : Place) (selector own : Forest Noted) (fs gs : List (Forest Noted)) (k next made new : ℕ) (want : Forest Noted)
    (n : Noted) (t : List ℕ) (p : Place) (ps : Forest Noted)
    → at fs k ≡ more n t p ps (at fs next) → Extends fs gs → next ≤ length fs → own ≡ selector
    → Holds gs new (case_branch rows place own (at fs k) (at fs made))
    → turned (at fs made) (all_branches rows place selector (at fs k)) ≡ want
    → turned (at gs new) (all_branches rows place selector (at gs next)) ≡ want
branch_step rows place selector own fs gs k next made new want n t p ps opened grown within same held before =
    ap (λ f. turned (at gs new) (all_branches rows place selector f)) (grown.keeps next within)
    ∙ ap (λ f. turned f (all_branches rows place selector (at fs next)))
    (held.is ∙ ap (λ s. case_branch rows place s (at fs k) (at fs made)) same ∙ ap (λ f. case_branch rows place selector f (at fs made)) opened)
    ∙ ap (λ f. turned (at fs made) (all_branches rows place selector f)) (sym opened)
    ∙ before

pub generate_step : (rows : List TypeRow) (n : Noted) (text : List ℕ) (place : Place) (name : List ℕ) (label own : Forest Noted) (fs hs gs : List (Forest Noted))
    (k rest earlier made new later : ℕ) (want next : Forest Noted) (m : Noted) (t : List ℕ) (p : Place) (ps : Forest Noted)
    → at fs k ≡ more m t p ps (at fs rest) → Extends fs hs → Extends hs gs → k ≤ length fs → rest ≤ length fs → earlier ≤ length fs → own ≡ label
    → Holds hs new (one_generate rows n text place name own (at fs earlier) (at fs k) (at fs made))
    → Holds gs later (not_taken rows place (at hs earlier) (at hs k))
    → turned (at fs made) (all_generates rows n text place name label (at fs earlier) (at fs k) next) ≡ want
    → turned (at gs new) (all_generates rows n text place name label (at gs later) (at gs rest) next) ≡ want
generate_step rows n text place name label own fs hs gs k rest earlier made new later want next m t p ps opened first second k_in rest_in earlier_in same held other before =
    let grown = extends_trans fs hs gs first second in
    ap (λ f. turned (at gs new) (all_generates rows n text place name label (at gs later) f next)) (grown.keeps rest rest_in)
    ∙ ap (λ e. turned (at gs new) (all_generates rows n text place name label e (at fs rest) next))
    (other.is ∙ ap (λ e. not_taken rows place e (at hs k)) (first.keeps earlier earlier_in) ∙ ap (not_taken rows place (at fs earlier)) (first.keeps k k_in ∙ opened))
    ∙ ap (λ f. turned f (all_generates rows n text place name label (not_taken rows place (at fs earlier) (more m t p ps nothing)) (at fs rest) next))
    (second.keeps new held.within ∙ held.is ∙ ap (λ l. one_generate rows n text place name l (at fs earlier) (at fs k) (at fs made)) same
    ∙ ap (λ f. one_generate rows n text place name label (at fs earlier) f (at fs made)) opened)
    ∙ ap (λ f. turned (at fs made) (all_generates rows n text place name label (at fs earlier) f next)) (sym opened)
    ∙ before

-- ---- where no branch is left

pub branches_end : (rows : List TypeRow) (place : Place) (selector : Forest Noted) (hs gs : List (Forest Noted)) (k made new : ℕ) (want : Forest Noted)
    → k ≤ 0 → Holds gs new (turned (at hs made) (at hs 0)) → turned (at hs made) (all_branches rows place selector (at hs k)) ≡ want → Holds gs new want
branches_end rows place selector hs gs zero made new want end held before = record { within = held.within; is = held.is ∙ before }
branches_end rows place selector hs gs (suc k) made new want end held before = absurd (omega (arith, end))

pub generates_end : (rows : List TypeRow) (n : Noted) (text : List ℕ) (place : Place) (name : List ℕ) (label earlier : Forest Noted) (fs hs gs : List (Forest Noted)) (k made next new : ℕ) (want : Forest Noted)
    → k ≤ 0 → Extends fs hs → next ≤ length fs → Holds gs new (turned (at hs made) (at hs next))
    → turned (at hs made) (all_generates rows n text place name label earlier (at hs k) (at fs next)) ≡ want → Holds gs new want
generates_end rows n text place name label earlier fs hs gs zero made next new want end grown within held before =
    record { within = held.within; is = held.is ∙ ap (turned (at hs made)) (grown.keeps next within) ∙ before }
generates_end rows n text place name label earlier fs hs gs (suc k) made next new want end grown within held before = absurd (omega (arith, end))

pub ruleset joining = (extends_same, extends_trans, within_more, at_more, kept, joined_turned)

pub ruleset branching = (extends_same, extends_trans, within_more, at_more, kept, branch_step, branches_end)

pub ruleset generating = (extends_same, extends_trans, within_more, at_more, kept, generate_step, generates_end)
