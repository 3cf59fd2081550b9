-- The whole walk keeps the syntax.
use Rattle.std.proofs.Common.{◌≡◌, ◌⊎◌, inl, inr, ℕ, Bool, true, List, [], ◌∷◌, refl, sym, ap, ◌∙◌, subst}
use Rattle.vd_bytes.specs.declared.places.Place.{Place}
use Rattle.vd_forest.specs.Forest.{Forest, nothing, more, joined}
use Rattle.vd_forms.specs.declared.form.Form.{Form}
use Rattle.vd_forms.specs.declared.form.Form.TheVariants as form
use Rattle.vd_forms.specs.Slots.{Slot, slots_of}
use Rattle.vd_forms.specs.Validity.{forms_of, fits, keeps_brackets, AreValid}
use Rattle.vd_trees.specs.declared.revision.Revision.{Revision}
use Rattle.vd_resolved.specs.Trees.{syntax_of}
use Rattle.vd_walks.specs.Walking.{Done, Inside, through, walked}
use Rattle.vd_name_rows.specs.Designs.{At, Design, Outcome}
use Rattle.vd_name_rows.specs.Rows.{row_of}
use Rattle.vd_name_rows.specs.declared.steps.Step.{Step}
use Rattle.vd_name_rows.specs.declared.steps.Step.TheVariants as step
use Rattle.vd_naming.specs.Endings.{Ended}
use Rattle.vd_naming.specs.Naming.{steps_behind, step_of, stepped, Kept, Entered, looked_at, left_by, done, naming}
use Rattle.vd_naming.specs.Views.{of_viewed_record}
use Rattle.vd_naming_laws.specs.Keeping.{first_step, IsSameNode, IsImplied, Keeps}
use Rattle.vd_naming_laws.proofs.Trees.{syntax_joined}
use Rattle.vd_naming_laws.proofs.Fitting.{valid_alone}
use Rattle.vd_naming_laws.proofs.Steps.{IsBehind}
use Rattle.vd_naming_laws.proofs.Endings.{ended_kept}
use Rattle.vd_naming_laws.proofs.Rows.{suits, suit, rows_suit, first_in}
use Rattle.vd_naming_laws.proofs.Entries.{IsEntered, done_enters}

-- ---- trees that are the same are kept

pub same_keep : (r : Revision) (steps : List Step) (rest : Step) (ts : Forest Form) → Keeps r steps rest ts ts
same_keep r steps rest nothing = tt
same_keep r steps rest (more f text place parts next) =
    (inl (record { same_form = refl; same_text = refl; same_place = refl }, same_keep r (row_of f).steps (row_of f).rest parts), same_keep r (steps_behind steps) rest next)

-- ---- one tree, by its step

-- what one tree comes to, where its step is this
abbrev pub KeepsOne : Revision → Step → Form → List ℕ → Place → Forest Form → Forest Form → Type 0
KeepsOne r s f text place parts made = Keeps r (s ∷ []) step.Skip (more f text place parts nothing) made

pub record IsCome (r : Revision) (s : Step) (at : At) (f : Form) (text : List ℕ) (place : Place) (parts : Forest Form) (o : Outcome) : Type 0 where
  pub tree_is : KeepsOne r s f text place parts (syntax_of o.tree)
  pub behind : IsBehind at o

done_one : (r : Revision) (s : Step) (f : Form) (text : List ℕ) (place : Place) (parts made : Forest Form)
    → (made ≡ more f text place parts nothing) ⊎ IsImplied r s f text place parts made → KeepsOne r s f text place parts made
done_one r s f text place parts made (inl same) =
    subst (KeepsOne r s f text place parts) (sym same) (same_keep r (s ∷ []) step.Skip (more f text place parts nothing))
done_one r s f text place parts made (inr i) =
    subst (KeepsOne r s f text place parts) (sym i.under)
    (inr (record { revision = i.revision; condition = i.condition; expression = i.expression; under = refl }), tt)

inside_one : (r : Revision) (s : Step) (f : Form) (text : List ℕ) (place : Place) (parts inner made : Forest Form)
    → Keeps r (row_of f).steps (row_of f).rest parts inner → made ≡ more f text place inner nothing → KeepsOne r s f text place parts made
inside_one r s f text place parts inner made k e =
    subst (KeepsOne r s f text place parts) (sym e) (inl (record { same_form = refl; same_text = refl; same_place = refl }, k), tt)

-- ---- the end of a tree whose parts are walked

-- the subtype of a view is refused at most
viewed_same : (f : Form) (place : Place) (at : At) (o : Outcome) → (of_viewed_record f place at o).tree ≡ o.tree
viewed_same form.Absent place at o = refl
viewed_same _ place at o = refl

viewed_at : (f : Form) (place : Place) (at : At) (o : Outcome) → (of_viewed_record f place at o).at ≡ o.at
viewed_at form.Absent place at o = refl
viewed_at _ place at o = refl

left_same : (s : Step) (f : Form) (place : Place) (at : At) (o : Outcome) → (left_by s f place at o).tree ≡ o.tree
left_same step.ViewSubtype f place at o = viewed_same f place at o
left_same _ f place at o = refl

left_at : (s : Step) (f : Form) (place : Place) (at : At) (o : Outcome) → (left_by s f place at o).at ≡ o.at
left_at step.ViewSubtype f place at o = viewed_at f place at o
left_at _ f place at o = refl

module _ (whole : Forest Form) (k : Kept) (f : Form) (text : List ℕ) (place : Place) (parts : Forest Form) (inner : Outcome) where
  abbrev leaving : Outcome
  leaving = (naming whole).leave k f text place parts inner

  leaves_tree : syntax_of leaving.tree ≡ more f text place (syntax_of inner.tree) nothing
  leaves_tree =
      let x : Ended = record { form = f; text = text; place = place; parts = parts; outer = k.outer; inside = k.inside; inner = inner } in
      ap syntax_of (left_same k.step f place k.outer (looked_at whole k f text place parts inner)) ∙ (ended_kept x whole (row_of f).ending).tree_is

  leaves_behind : IsBehind k.outer leaving
  leaves_behind =
      let x : Ended = record { form = f; text = text; place = place; parts = parts; outer = k.outer; inside = k.inside; inner = inner } in
      let b = (ended_kept x whole (row_of f).ending).behind in
      let e = left_at k.step f place k.outer (looked_at whole k f text place parts inner) in
      record {
        revision = ap (λ a. a.revision) e ∙ b.revision;
        steps = ap (λ a. a.steps) e ∙ b.steps;
        rest = ap (λ a. a.rest) e ∙ b.rest;
      }

-- ---- a tree

-- what is known at a place: its revision, and the steps that are left
pub record IsAt (r : Revision) (steps : List Step) (rest : Step) (at : At) : Type 0 where
  pub revision : at.revision ≡ r
  pub steps_are : at.steps ≡ steps
  pub rest_is : at.rest ≡ rest

module _ (whole : Forest Form) (r : Revision) (s : Step) (at : At) (f : Form) (text : List ℕ) (place : Place) (parts : Forest Form) (revision : at.revision ≡ r)
    (inner : (inside : At) (d : Design) → IsAt r (row_of f).steps (row_of f).rest inside
    → Keeps r (row_of f).steps (row_of f).rest parts (syntax_of (walked (naming whole) parts inside d).tree)) where
  through_keeps : (e : Entered) → IsEntered r s at f text place parts e
      → IsCome r s at f text place parts (through (naming whole) f text place parts (walked (naming whole) parts) e)
  through_keeps (Done o) h = record { tree_is = done_one r s f text place parts (syntax_of o.tree) h.tree_is; behind = h.behind }
  through_keeps (Inside inside d k) h =
      let o = walked (naming whole) parts inside d in
      let b = leaves_behind whole k f text place parts o in
      record {
        tree_is = inside_one r s f text place parts (syntax_of o.tree) (syntax_of (leaving whole k f text place parts o).tree)
            (inner inside d (record { revision = h.revision ∙ revision; steps_are = h.steps; rest_is = h.rest })) (leaves_tree whole k f text place parts o);
        behind = record {
          revision = b.revision ∙ ap (λ a. a.revision) h.outer;
          steps = b.steps ∙ ap (λ a. a.steps) h.outer;
          rest = b.rest ∙ ap (λ a. a.rest) h.outer;
        };
      }

-- ---- trees side by side

keeps_more : (r : Revision) (s : Step) (steps : List Step) (rest : Step) (f : Form) (text : List ℕ) (place : Place) (parts next made others : Forest Form)
    → s ≡ first_step steps rest → KeepsOne r s f text place parts made → Keeps r (steps_behind steps) rest next others
    → Keeps r steps rest (more f text place parts next) (joined made others)
keeps_more r s steps rest f text place parts next nothing others e one k = absurd one
keeps_more r s steps rest f text place parts next (more g text' place' parts' nothing) others e one k = (
  subst (λ t. (IsSameNode f text place g text' place' × Keeps r (row_of f).steps (row_of f).rest parts parts')
      ⊎ IsImplied r t f text place parts (more g text' place' parts' nothing)) e one.0,
  k,
)
keeps_more r s steps rest f text place parts next (more g text' place' parts' (more h text'' place'' parts'' next')) others e one k = absurd one.1

first_is : (steps : List Step) (rest : Step) → (elim steps as (λ _. Step) [ [] ↦ rest | s ∷ left ↦ s ]) ≡ first_step steps rest
first_is [] rest = refl
first_is (s ∷ left) rest = refl

step_is : (steps : List Step) (rest : Step) (at : At) → at.steps ≡ steps → at.rest ≡ rest → step_of at ≡ first_step steps rest
step_is steps rest at s t = first_is at.steps at.rest ∙ ap (λ ss. first_step ss at.rest) s ∙ ap (first_step steps) t

pub walk_keeps : (whole : Forest Form) (r : Revision) (ts : Forest Form) (keep : Bool) (steps : List Step) (rest : Step) (ss : List Slot) (at : At) (d : Design)
    → IsAt r steps rest at → suit steps rest ss ≡ true → fits ss (forms_of ts) ≡ true → AreValid r keep ts
    → Keeps r steps rest ts (syntax_of (walked (naming whole) ts at d).tree)
walk_keeps whole r nothing keep steps rest ss at d is suit_here fit v = tt
walk_keeps whole r (more f text place parts next) keep steps rest ss at d is suit_here fit v =
    let s = step_of at in
    let same : s ≡ first_step steps rest = step_is steps rest at is.steps_are is.rest_is in
    let first = first_in steps rest ss f (forms_of next) suit_here fit in
    let suits_here : suits s first.forms ≡ true = subst (λ t. suits t first.forms ≡ true) (sym same) first.first_suits in
    let entry = done whole s f text place parts (stepped at) d in
    let entered = done_enters r keep whole (stepped at) d f text place parts is.revision (valid_alone r keep f text place parts next v) first.forms first.among s suits_here in
    let o = through (naming whole) f text place parts (walked (naming whole) parts) entry in
    let come = through_keeps whole r s (stepped at) f text place parts is.revision
    (λ inside e there. walk_keeps whole r parts (keeps_brackets f parts) (row_of f).steps (row_of f).rest (slots_of r f) inside e there (rows_suit r f) v.1 v.4)
    entry entered in
    let others = walk_keeps whole r next keep (steps_behind steps) rest first.left o.at o.design
    (record {
      revision = come.behind.revision ∙ is.revision;
      steps_are = come.behind.steps ∙ ap steps_behind is.steps_are;
      rest_is = come.behind.rest ∙ is.rest_is;
    }) first.left_suit first.left_fit v.5 in
    let p = walked (naming whole) next o.at o.design in
    subst (Keeps r steps rest (more f text place parts next)) (sym (syntax_joined o.tree p.tree))
    (keeps_more r s steps rest f text place parts next (syntax_of o.tree) (syntax_of p.tree) same come.tree_is others)
