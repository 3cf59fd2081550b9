-- Subtypes as trees.
use Rattle.std.proofs.Common.{refl, ◌≡◌}
use Rattle.vd_environments.specs.Environments.{element_make, literals_of}
use Rattle.vd_forest.specs.Forest.{Forest, more, nothing}
use Rattle.vd_value_rules.specs.Indicated.{element_indicated, indicated_in}
use Rattle.vd_value_rules.specs.declared.forms.IndicatedForm.{IndicatedForm}
use Rattle.vd_value_rules.specs.declared.forms.IndicatedForm.TheVariants as form

-- the literals of an array's elements
pub element_literals : (f : Forest IndicatedForm) → literals_of (element_indicated (indicated_in f)).make ≡ literals_of (element_make (indicated_in f).make)
element_literals nothing = refl
element_literals (more (form.Scalar s is_resolved range) text place parts next) = refl
element_literals (more (form.Unbounded index known) text place parts next) = refl
element_literals (more (form.Bounded index b known) text place parts next) = refl
element_literals (more form.Record text place parts next) = refl
element_literals (more form.Literal text place parts next) = refl
