-- What is kept of a name, and what of that is looked at.
use Rattle.std.specs.Prelude.{ℕ, List, [], Option, Some, None}
use Rattle.vd_naming.specs.Selected.{Meant, Means, Breaks}

-- a rule that the name breaks, or else what it means
abbrev pub kept : Option ℕ → List ℕ → Meant
kept None ks = Means ks
kept (Some rule) ks = Breaks rule

-- a name that breaks a rule means nothing
abbrev pub declarations_of : Meant → List ℕ
declarations_of (Means ks) = ks
declarations_of (Breaks rule) = []

abbrev pub broken_by : Meant → Option ℕ
broken_by (Means ks) = None
broken_by (Breaks rule) = Some rule
