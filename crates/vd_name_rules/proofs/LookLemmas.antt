-- What is seen of the trees of a design from their leaves on is what the rule says of them. No name has a dash, so that a caller can name
-- each in `#[tactic(auto, using(..))]`.
use Rattle.std.proofs.Common.{◌≡◌, ℕ, zero, suc, ◌+◌, ◌<◌, Bool, true, false, ◌&&◌, if◌then◌else◌, List, [], ◌∷◌, drop, length, slice_index_or, get_or, Option, Some, None, refl, sym, ap, ap₂, ◌∙◌, add-one, drop-cons}
use Rattle.std.specs.List.{filter}
use Rattle.vd_name_rules.specs.declared.looking.Looked.{Looked}
use Rattle.vd_name_rules.specs.Looking.{unseen, all_do_nothing, first_among, without_effect, own_refusal, looked}
use Rattle.vd_bytes.specs.declared.answers.Refused.{Refused}
use Rattle.vd_bytes.specs.declared.places.Place.{Place}
use Rattle.vd_forest.specs.Forest.{Forest, nothing, more, no_place, skipped}
use Rattle.vd_forms.specs.declared.form.Form.{Form}
use Rattle.vd_walks.specs.Least.{Judge, lesser, least_of, least}
use Rattle.vd_walks.proofs.OrderLaws.{lesser_brackets}
use Rattle.vd_resolved.specs.Trees.{ResolvedTree}
use Rattle.vd_resolved.specs.declared.node.Resolved.{Resolved}
use Rattle.vd_rewriting.specs.Folding.{folded}
use Rattle.vd_value_rules.specs.Groups.{assignments, firsts_by, judge_by}
use Rattle.vd_value_rules.proofs.WalkLemmas.{firsts_of_rules_alone}
use Rattle.vd_value_rules.specs.declared.firsts.Firsts.{Firsts}
use Rattle.vd_trees.specs.declared.revision.Revision.{Revision}
use Rattle.vd_value_rules.specs.Choices.{place_at}
use Rattle.vd_value_rules.specs.Designs.{design_of}
use Rattle.vd_value_rules.specs.Judging.{refused_if}
use Rattle.vd_value_rules.specs.Names.{all_of, broken_assignment, do_nothing, does_nothing_by, nth_truth}
use Rattle.vd_value_rules.specs.Rules.{is_of_names}
use Rattle.vd_value_rules.specs.Standings.{beginning}
use Rattle.vd_forms.specs.declared.form.Form.TheVariants as form

-- ---- what is seen of some trees

nothing_at : (f : Forest Resolved) (n : ℕ) → (slice_index_or (folded looked f) n unseen).does_nothing ≡ nth_truth n (do_nothing f)
nothing_at nothing n = refl
nothing_at (more node text place parts next) zero = ap₂ (does_nothing_by node.form) (nothing_at parts 0) (nothing_at parts 2)
nothing_at (more node text place parts next) (suc n) = nothing_at next n

all_nothing : (f : Forest Resolved) → all_do_nothing (folded looked f) ≡ all_of (do_nothing f)
all_nothing nothing = refl
all_nothing (more node text place parts next) =
    ap₂ (λ b c. b && c) (ap₂ (does_nothing_by node.form) (nothing_at parts 0) (nothing_at parts 2)) (all_nothing next)

drop_none : (n : ℕ) → drop n (folded looked nothing) ≡ []
drop_none zero = refl
drop_none (suc n) = refl

dropped : (n : ℕ) (f : Forest Resolved) → drop n (folded looked f) ≡ folded looked (skipped n f)
dropped zero f = refl
dropped (suc n) nothing = sym (drop_none n) ∙ dropped n nothing
dropped (suc n) (more node text place parts next) = dropped n next

place_seen : (n : ℕ) (f : Forest Resolved) → (slice_index_or (folded looked f) n unseen).place ≡ place_at n f
place_seen zero nothing = refl
place_seen (suc n) nothing = place_nothing n
  where
    place_nothing : (n : ℕ) → no_place ≡ place_at n nothing
    place_nothing zero = refl
    place_nothing (suc n) = place_nothing n
place_seen zero (more node text place parts next) = refl
place_seen (suc n) (more node text place parts next) = place_seen n next

-- ---- what is refused

one_refused : (b : Bool) (r : Refused) → (if b then Some r else None) ≡ least_of (if b then r ∷ [] else [])
one_refused true r = refl
one_refused false r = refl

abbrev refusal : Place → Refused
refusal place = record { place = place; rule = 402 }

effect_seen : (target waveform : ℕ) (parts : Forest Resolved)
    → without_effect target waveform (folded looked parts) ≡ least_of (Rattle.vd_value_rules.specs.Names.without_effect target waveform parts)
effect_seen target waveform parts =
    ap₂ (λ b p. if b then Some (refusal p) else None) (ap all_do_nothing (dropped waveform parts) ∙ all_nothing (skipped waveform parts)) (place_seen target parts)
    ∙ one_refused (all_of (do_nothing (skipped waveform parts))) (refusal (place_at target parts))

own_seen : (f : Form) (parts : Forest Resolved) → own_refusal f (folded looked parts) ≡ least_of (broken_assignment f parts)
own_seen form.SignalAssignment parts = effect_seen 0 2 parts
own_seen form.ConcurrentAssignment parts = effect_seen 0 2 parts
own_seen form.SelectedSignalAssignment parts = effect_seen 2 4 parts
own_seen _ parts = refl

-- by whatever states the rule is asked
first_seen : {S : Type 0} (judge : Judge Resolved S)
    → ((s : S) (n : Resolved) (text : List ℕ) (place : Place) (parts : Forest Resolved) → judge.broken s n text place parts ≡ broken_assignment n.form parts)
    → (s : S) (f : Forest Resolved) → first_among (folded looked f) ≡ least judge s f
first_seen judge is s nothing = refl
first_seen judge is s (more n text place parts next) =
    let own = own_refusal n.form (folded looked parts) in
    lesser_brackets own (first_among (folded looked parts)) (first_among (folded looked next))
    ∙ ap₂ lesser (own_seen n.form parts ∙ ap least_of (sym (is s n text place parts)))
    (ap₂ lesser (first_seen judge is (judge.down s n text place parts) parts) (first_seen judge is (judge.along s n text place parts) next))

rule_alone : (b : Bool) (place : Place) → filter is_of_names (refused_if b place 402) ≡ []
rule_alone true place = refl
rule_alone false place = refl

no_names : (f : Form) (parts : Forest Resolved) → filter is_of_names (broken_assignment f parts) ≡ []
no_names form.SignalAssignment parts = rule_alone (all_of (do_nothing (skipped 2 parts))) (place_at 0 parts)
no_names form.ConcurrentAssignment parts = rule_alone (all_of (do_nothing (skipped 2 parts))) (place_at 0 parts)
no_names form.SelectedSignalAssignment parts = rule_alone (all_of (do_nothing (skipped 4 parts))) (place_at 2 parts)
no_names _ parts = refl

abbrev pub with_rules : Option Refused → Firsts
with_rules o = record { of_names = None; of_rules = o }

pub seen_of_design : (r : Revision) (tree : ResolvedTree) → firsts_by assignments r tree ≡ record { of_names = None; of_rules = first_among (folded looked tree.units) }
seen_of_design r tree =
    firsts_of_rules_alone assignments r tree (λ d s n text place parts. no_names n.form parts)
    ∙ ap with_rules (sym (first_seen (judge_by assignments (design_of r tree)) (λ s n text place parts. refl) beginning tree.units))

-- ---- a loop

-- one more of a list, from the one that is next
pub next_among : (ms : List Looked) (i : ℕ) (m : Looked) (found later all : Option Refused) → i < length ms
    → later ≡ lesser found (get_or ms i m).refused → lesser found (first_among (drop i ms)) ≡ all → lesser later (first_among (drop (i + 1) ms)) ≡ all
next_among ms i m found later all within is before =
    let next = get_or ms i m in
    let split : drop i ms ≡ next ∷ drop (i + 1) ms = rw (add-one, drop-cons ms i m) in
    ap (λ o. lesser o (first_among (drop (i + 1) ms))) is ∙ lesser_brackets found next.refused (first_among (drop (i + 1) ms))
    ∙ ap (λ l. lesser found (first_among l)) (sym split) ∙ before
