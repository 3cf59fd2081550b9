-- What steps do with a tree: they go inside it, or make it by itself in one of four groups of calls.
use Rattle.std.specs.Prelude.{Bool, true, false, not}
use Rattle.vd_forms.specs.declared.form.Form.{Form}
use Rattle.vd_forms.specs.declared.form.Form.TheVariants as form
use Rattle.vd_forms.specs.Forms.{is_among, expressions}
use Rattle.vd_name_rows.specs.declared.steps.Step.{Step}
use Rattle.vd_name_rows.specs.declared.steps.Step.TheVariants as step
use Rattle.vd_name_resolution.specs.declared.kinds.Kind.{Kind}
use Rattle.vd_name_resolution.specs.declared.kinds.Kind.TheVariants as kind

abbrev pub kind_of : Step → Kind
kind_of step.Skip = kind.Word
kind_of step.Word = kind.Word
kind_of step.SimpleName = kind.Word
kind_of step.Names = kind.Word
kind_of step.Label = kind.Word
kind_of step.LabelName = kind.Word
kind_of step.Mark = kind.Word
kind_of step.ViewName = kind.Word
kind_of step.Converse = kind.Word
kind_of (step.Expression want) = kind.Expression
kind_of step.Chosen = kind.Expression
kind_of step.Surplus = kind.Expression
kind_of step.Target = kind.Expression
kind_of step.Selector = kind.Expression
kind_of (step.Parameter object) = kind.Expression
kind_of step.IndexMark = kind.Expression
kind_of step.ArrayIndex = kind.Expression
kind_of step.Result = kind.Expression
kind_of step.LibraryWord = kind.Clause
kind_of step.UseName = kind.Clause
kind_of step.ContextName = kind.Clause
kind_of step.EntityWord = kind.Clause
kind_of step.ElementNames = kind.Clause
kind_of step.InstanceEntity = kind.Clause
kind_of step.InstanceArchitecture = kind.Clause
kind_of step.GenericPackage = kind.Clause
kind_of step.GenericFunctionName = kind.Clause
kind_of step.Generics = kind.Map
kind_of step.Ports = kind.Map
kind_of step.Look = kind.Inside
kind_of step.Within = kind.Inside
kind_of step.ViewSubtype = kind.Inside

abbrev pub is_open_index : Form → Bool
is_open_index form.UnconstrainedIndex = true
is_open_index _ = false

-- whether the parts of a tree of this form are walked
abbrev pub goes_inside : Step → Form → Bool
goes_inside step.Look f = true
goes_inside step.Within f = true
goes_inside step.ViewSubtype f = true
goes_inside step.Chosen f = not (is_among expressions f)
goes_inside step.ArrayIndex f = is_open_index f
goes_inside _ f = false

abbrev pub is_within : Step → Bool
is_within step.Within = true
is_within _ = false

abbrev pub is_of_view : Step → Bool
is_of_view step.ViewSubtype = true
is_of_view _ = false
