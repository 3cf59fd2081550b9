-- What the parts of a node are to it, by its row. No name has a dash, so that a caller can name each in `#[tactic(auto, using(..))]`.
use Rattle.std.proofs.Common.{◌≡◌, ◌∙◌, ap, refl}
use Rattle.vd_forest.specs.Forest.{Forest}
use Rattle.vd_forms.specs.declared.form.Form.{Form}
use Rattle.vd_resolved.specs.declared.node.Resolved.{Resolved}
use Rattle.vd_contexts.specs.Rows.{assigned, by_row, by_sort, fixed, row_of, sort}
use Rattle.vd_contexts.specs.declared.rows.Row.{Row}
use Rattle.vd_contexts.specs.declared.rows.Row.TheVariants as row
use Rattle.vd_contexts.specs.declared.rows.Sort.{Sort}
use Rattle.vd_value_rules.specs.Designs.{Design}
use Rattle.vd_value_rules.specs.Standings.{Standing, State, standings}
use Rattle.vd_forms.specs.declared.form.Form.TheVariants as form

pub by_row_is : (f : Form) (d : Design) (s : State) (n : Resolved) (parts : Forest Resolved) → by_row (row_of f) d s n parts ≡ standings f d s n parts
by_row_is form.ConstantDeclaration d s n parts = refl
by_row_is form.GenericConstant d s n parts = refl
by_row_is form.SignalDeclaration d s n parts = refl
by_row_is form.VariableDeclaration d s n parts = refl
by_row_is form.PortDeclaration d s n parts = refl
by_row_is form.SignalAssignment d s n parts = refl
by_row_is form.ConcurrentAssignment d s n parts = refl
by_row_is form.VariableAssignment d s n parts = refl
by_row_is form.SelectedSignalAssignment d s n parts = refl
by_row_is form.SelectedVariableAssignment d s n parts = refl
by_row_is form.ReturnStatement d s n parts = refl
by_row_is form.ConditionalWaveform d s n parts = refl
by_row_is form.ConditionalValue d s n parts = refl
by_row_is form.ConditionalReturn d s n parts = refl
by_row_is form.GuardedWaveform d s n parts = refl
by_row_is form.GuardedValue d s n parts = refl
by_row_is form.DelayedWaveform d s n parts = refl
by_row_is form.SelectedWaveform d s n parts = refl
by_row_is form.SelectedValue d s n parts = refl
by_row_is form.Aggregate d s n parts = refl
by_row_is form.Qualification d s n parts = refl
by_row_is form.Association d s n parts = refl
by_row_is form.OthersAssociation d s n parts = refl
by_row_is form.AssociationChoices d s n parts = refl
by_row_is form.Name d s n parts = refl
by_row_is form.OperatorName d s n parts = refl
by_row_is form.Arguments d s n parts = refl
by_row_is form.GenericMap d s n parts = refl
by_row_is form.PortMap d s n parts = refl
by_row_is form.EntityInstantiation d s n parts = refl
by_row_is form.PackageInstantiation d s n parts = refl
by_row_is form.FunctionInstantiation d s n parts = refl
by_row_is _ d s n parts = refl

pub found_is : (f : Form) (d : Design) (s : State) (n : Resolved) (parts : Forest Resolved) (r : Row) (k : Sort) → r ≡ row_of f → k ≡ sort r
    → by_sort k r d s n parts ≡ standings f d s n parts
found_is f d s n parts r k is sorted =
    ap (λ x. by_sort x r d s n parts) sorted ∙ ap (λ x. by_row x d s n parts) is ∙ by_row_is f d s n parts

pub fixed_otherwise : (r : Row) (own : Standing) → ¬ (r ≡ row.Branches) → ¬ (r ≡ row.Guarded) → ¬ (r ≡ row.Choosing) → ¬ (r ≡ row.Remaining) → ¬ (r ≡ row.Naming)
    → fixed r own ≡ assigned r
fixed_otherwise row.Branches own a b c d e = absurd (a refl)
fixed_otherwise row.Guarded own a b c d e = absurd (b refl)
fixed_otherwise row.Choosing own a b c d e = absurd (c refl)
fixed_otherwise row.Remaining own a b c d e = absurd (d refl)
fixed_otherwise row.Naming own a b c d e = absurd (e refl)
fixed_otherwise _ own a b c d e = refl
