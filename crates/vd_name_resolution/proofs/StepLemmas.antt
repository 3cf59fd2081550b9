-- What steps do, and what a tree whose parts are walked comes to.
use Rattle.std.proofs.Common.{◌≡◌, ◌∙◌, Bool, true, false, not, cond, ℕ, List, Option, refl, sym, ap}
use Rattle.vd_bytes.specs.declared.answers.Refused.{Refused}
use Rattle.vd_bytes.specs.declared.places.Place.{Place}
use Rattle.vd_forest.specs.Forest.{Forest}
use Rattle.vd_forms.specs.declared.form.Form.{Form}
use Rattle.vd_forms.specs.declared.form.Form.TheVariants as form
use Rattle.vd_forms.specs.Forms.{is_among, expressions}
use Rattle.vd_walks.specs.Least.{lesser}
use Rattle.vd_walks.proofs.OrderLaws.{lesser_right}
use Rattle.vd_name_rows.specs.Designs.{At, Design, Outcome}
use Rattle.vd_name_rows.specs.Rows.{row_of}
use Rattle.vd_name_rows.specs.declared.steps.Step.{Step}
use Rattle.vd_name_rows.specs.declared.steps.Step.TheVariants as step
use Rattle.vd_naming.specs.Naming.{Kept, Entered, done, ended, looked_at, left_by, looked}
use Rattle.vd_naming.specs.Openings.{Opened}
use Rattle.vd_name_entering.specs.declared.made.Made.{Made}
use Rattle.vd_resolved.specs.declared.node.Resolved.{Resolved}
use Rattle.vd_walks.specs.Outcomes.{IsEntry}
use Rattle.vd_walks.specs.Walking.{Done, Inside}
use Rattle.vd_walks.specs.declared.walking.Entry.TheVariants as answer
use Rattle.vd_name_resolution.specs.Done.{IsDone}
use Rattle.vd_name_resolution.specs.declared.kinds.Kind.TheVariants as kind
use Rattle.vd_name_resolution.specs.Inside.{opened_by, ended_at, behind_view}
use Rattle.vd_name_resolution.specs.Kinds.{goes_inside, kind_of}

-- a tree that is gone into, as its step opens it
abbrev pub inside_of : Step → At → Opened → Entered
inside_of s at o = Inside o.at o.design (record { step = s; outer = at; inside = o.at; first = o.first })

no_way : {A : Type 0} → false ≡ true → A
no_way is = absurd (cc)

chosen_inside : (b : Bool) (o : Outcome) (e : Entered) → not b ≡ true → cond b (Done o) e ≡ e
chosen_inside false o e is = refl
chosen_inside true o e is = no_way is

pub entered : (whole : Forest Form) (s : Step) (f : Form) (text : List ℕ) (place : Place) (parts : Forest Form) (at : At) (d : Design)
    → goes_inside s f ≡ true → done whole s f text place parts at d ≡ inside_of s at (opened_by s f at d place parts)
entered whole step.Look f text place parts at d is = refl
entered whole step.Within f text place parts at d is = refl
entered whole step.ViewSubtype f text place parts at d is = refl
entered whole step.Chosen f text place parts at d is =
    chosen_inside (is_among expressions f) _ (looked step.Chosen f place parts at d) is
entered whole step.ArrayIndex form.UnconstrainedIndex text place parts at d is = refl
entered whole step.ArrayIndex _ text place parts at d is = no_way is
entered whole _ f text place parts at d is = no_way is

-- a step of no group of calls goes inside
pub inside_goes : (s : Step) (f : Form) → kind_of s ≡ kind.Inside → goes_inside s f ≡ true
inside_goes step.Look f is = refl
inside_goes step.Within f is = refl
inside_goes step.ViewSubtype f is = refl
inside_goes _ f is = absurd (cc)

-- what a step makes by itself is its entry
pub made_entry : (store : List (Forest Resolved)) (d : Design) (at : At) (made : Made) (e : Entered) → IsDone store d at made e
    → IsEntry {I = Kept} store d (answer.Done (record { tree = made.tree; at = at; first = made.first })) e
made_entry store d at made (Done o) is = record {
  within = is.made_is.holds.within;
  is =
      ap (λ t. Done (record { tree = t; at = at; design = d; first = made.first })) is.made_is.holds.is
      ∙ ap (λ a. Done (record { tree = o.tree; at = a; design = d; first = made.first })) is.at_is
      ∙ ap (λ x. Done (record { tree = o.tree; at = o.at; design = x; first = made.first })) is.made_is.design
      ∙ ap (λ f. Done (record { tree = o.tree; at = o.at; design = o.design; first = f })) is.made_is.first;
}
made_entry store d at made (Inside inside d' kept) is = elim is [ ]

-- what the ending comes to, with the refusals in front of the parts and of the subtype behind a view
abbrev pub with_refusals : Kept → Form → Outcome → Outcome
with_refusals k f o = record o { first = lesser (lesser k.first o.first) (behind_view k.step f k.outer o.at.mark) }

left_as : (s : Step) (f : Form) (place : Place) (at : At) (first : Option Refused) (o : Outcome)
    → left_by s f place at (record o { first = lesser first o.first }) ≡ record o { first = lesser (lesser first o.first) (behind_view s f at o.at.mark) }
left_as step.ViewSubtype form.Absent place at first o = ap (λ r. record o { first = r }) (sym (lesser_right (lesser first o.first)))
left_as step.ViewSubtype f place at first o = refl
left_as s f place at first o = ap (λ r. record o { first = r }) (sym (lesser_right (lesser first o.first)))

pub left : (whole : Forest Form) (k : Kept) (f : Form) (text : List ℕ) (place : Place) (parts : Forest Form) (inner : Outcome)
    → left_by k.step f place k.outer (looked_at whole k f text place parts inner)
    ≡ with_refusals k f (ended whole (row_of f).ending (ended_at k f text place parts inner))
left whole k f text place parts inner = left_as k.step f place k.outer k.first (ended whole (row_of f).ending (ended_at k f text place parts inner))
