-- What is answered of files of revision 2019 that are to be converted.
use Rattle.std.specs.Prelude.{◌≡◌, ◌<◌, ◌≤◌, ℕ, List, Option, None, Some}
use Rattle.vd_accepting.specs.Phases.{IsAccepted, first_broken, resolved_design}
use Rattle.vd_bytes.specs.declared.answers.Limit.{Limit}
use Rattle.vd_bytes.specs.declared.answers.Limit.TheVariants as limits
use Rattle.vd_bytes.specs.declared.answers.Refused.{Refused}
use Rattle.vd_bytes.specs.declared.places.Place.{Place}
use Rattle.vd_design_files.specs.Files.{refused, beyond, holds, IsAnswer}
use Rattle.vd_design_files.specs.declared.answers.DesignEnd.{DesignEnd}
use Rattle.vd_design_files.specs.declared.answers.DesignEnd.TheVariants as reading
use Rattle.vd_directives.specs.declared.selected.Line.{Line}
use Rattle.vd_forest.specs.Forest.{Forest, place_of, tree_count}
use Rattle.vd_forms.specs.declared.form.Form.{Form}
use Rattle.vd_trees.specs.declared.revision.Revision.TheVariants.{V2019}
use Rattle.vd_weighing.specs.Weights.{weight_of}
use Rattle.vd_modes.specs.declared.conversion.ConvertEnd.{ConvertEnd}
use Rattle.vd_modes.specs.declared.conversion.ConvertEnd.TheVariants as end

-- ---- a design

-- how much is to be made of some units
abbrev pub weight : Forest Form → ℕ
weight units = weight_of (resolved_design V2019 units).declarations (resolved_design V2019 units).units

-- they break no rule, and their weight is within the limit
pub record IsLegal (units : Forest Form) : Type 0 where
  pub accepted : IsAccepted V2019 units
  pub light : weight units ≤ 4000000

-- the place, or the first one of the first file where there is none
abbrev pub place_or_first : Option Place → Place
place_or_first None = record { file = 0; line = 1; column = 1 }
place_or_first (Some place) = place

-- that they can't be converted yet, at the first unit
abbrev pub unconverted : Forest Form → Refused
unconverted units = record { place = place_or_first (place_of units); rule = 199 }

-- the first rule that they break is refused; or 199, where they break none
pub data IsRefusedIn (units : Forest Form) (x : Refused) : Type 0 where
  broken : first_broken V2019 units ≡ Some x → IsRefusedIn units x
  not_yet : IsLegal units → x ≡ unconverted units → IsRefusedIn units x

-- the limit of nodes is passed: they break no rule, and their weight is above it
pub record IsHeavy (units : Forest Form) (limit : Limit) : Type 0 where
  pub accepted : IsAccepted V2019 units
  pub heavy : 4000000 < weight units
  pub nodes : limit ≡ limits.Nodes

-- why nothing is written of them. Want of memory says nothing
abbrev pub IsEndOfDesign : Forest Form → ConvertEnd → Type 0
IsEndOfDesign units (end.Refused x) = IsRefusedIn units x
IsEndOfDesign units (end.Limit limit) = IsHeavy units limit
IsEndOfDesign units end.Memory = Unit {0}

-- ---- files

abbrev pub end_of_files : DesignEnd → ConvertEnd
end_of_files (reading.Refused x) = end.Refused x
end_of_files (reading.Limit limit) = end.Limit limit
end_of_files reading.Memory = end.Memory

-- a rule is refused, of those on texts or in the design that the files hold. The first argument is the tool type
pub data IsRefused (tool : List ℕ) (contents : List (List ℕ)) (x : Refused) : Type 0 where
  of_texts : IsAnswer tool contents (refused x) → IsRefused tool contents x
  of_design : (units : Forest Form) (warnings : List (List Line)) → IsAnswer tool contents (holds units warnings) → IsRefusedIn units x
      → IsRefused tool contents x

-- a limit is passed, likewise
pub data IsBeyond (tool : List ℕ) (contents : List (List ℕ)) (limit : Limit) : Type 0 where
  of_texts : IsAnswer tool contents (beyond limit) → IsBeyond tool contents limit
  of_design : (units : Forest Form) (warnings : List (List Line)) → IsAnswer tool contents (holds units warnings) → IsHeavy units limit
      → IsBeyond tool contents limit

abbrev pub RefusesRule : List ℕ → List (List ℕ) → ConvertEnd → Type 0
RefusesRule tool contents (end.Refused x) = IsRefused tool contents x
RefusesRule tool contents (end.Limit limit) = Unit {0}
RefusesRule tool contents end.Memory = Unit {0}

abbrev pub PassesLimit : List ℕ → List (List ℕ) → ConvertEnd → Type 0
PassesLimit tool contents (end.Refused x) = Unit {0}
PassesLimit tool contents (end.Limit limit) = IsBeyond tool contents limit
PassesLimit tool contents end.Memory = Unit {0}

-- the files hold so many units with these warnings, and may be converted
pub record AreConverted (tool : List ℕ) (contents : List (List ℕ)) (count : ℕ) (warnings : List (List Line)) : Type 0 where
  pub units : Forest Form
  pub read : IsAnswer tool contents (holds units warnings)
  pub legal : IsLegal units
  pub counted : count ≡ tree_count units
