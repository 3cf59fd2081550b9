-- What opening a form comes to, in words of contracts.
use Rattle.std.specs.Prelude.{◌≡◌, Bool, true, false, Option, None}
use Rattle.vd_bytes.specs.declared.answers.Refused.{Refused}
use Rattle.vd_forest.specs.Forest.{Forest}
use Rattle.vd_forms.specs.declared.form.Form.{Form}
use Rattle.vd_forms.specs.declared.form.Form.TheVariants as form
use Rattle.vd_name_rows.specs.Designs.{At, Design}
use Rattle.vd_name_rows.specs.declared.steps.Opening.{Opening as Kind}
use Rattle.vd_name_rows.specs.declared.steps.Opening.TheVariants as opening
use Rattle.vd_naming.specs.Endings.{form_of_next}
use Rattle.vd_naming.specs.Openings.{Opened, has_form, is_loop}
use Rattle.vd_bytes.specs.declared.places.Place.{Place}

-- the design behind it, what is known inside, and the first rule that is broken
pub record IsOpened (d : Design) (inside : At) (refused : Option Refused) (want : Opened) : Type 0 where
  pub design : d ≡ want.design
  pub at : inside ≡ want.at
  pub first : refused ≡ want.first

-- what is known inside where no region is opened
abbrev pub at_hand : Kind → At → Place → Forest Form → At
at_hand opening.OfSelection at place parts = record at { is_matching = has_form form.Matching parts; selector = None }
at_hand opening.OfReturn at place parts = record at { mark = at.result }
at_hand opening.OfElements at place parts = record at { viewed = at.mark }
at_hand opening.OfLabel at place parts = record at { is_loop = is_loop (form_of_next parts) }
at_hand opening.OfInstance at place parts = record at { label_place = place }
at_hand _ at place parts = at

-- a package body opens with rules that may be broken
abbrev pub is_package_body : Kind → Bool
is_package_body opening.OfPackageBody = true
is_package_body _ = false
