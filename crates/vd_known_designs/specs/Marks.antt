-- The marks that are given to each design, by rows.
use Rattle.std.specs.Prelude.{◌≡◌, ◌≤◌, List, [], length, ℕ}
use Rattle.vd_environments.specs.Environments.{Env, Indicated}
use Rattle.vd_forest.specs.Forest.{Forest}
use Rattle.vd_forest.specs.Store.{at}
use Rattle.vd_predefined.specs.Table.{characters}
use Rattle.vd_value_rules.specs.Indicated.{texts_in}
use Rattle.vd_value_rules.specs.declared.forms.IndicatedForm.{IndicatedForm}
use Rattle.vd_known_designs.specs.declared.literals.Literals.{Literals}
use Rattle.vd_known_designs.specs.declared.literals.Literals.TheVariants as literals
use Rattle.vd_known_designs.specs.declared.literals.LiteralLists.{LiteralLists}
use Rattle.vd_known_designs.specs.declared.marks.Sort.{Sort}
use Rattle.vd_known_designs.specs.declared.marks.Sort.TheVariants.{AnyArray, Scalar}
use Rattle.vd_known_designs.specs.declared.marks.Mark.{Mark}
use Rattle.vd_meaning.specs.Given.{arrays, bits, denoted_in, logics, scalars, severities, truths}
use Rattle.vd_value_rules.specs.Knowledge.{Known, both_changed, nothing_known}

-- ---- literals

abbrev pub literals_of : Literals → List (List ℕ)
literals_of literals.Numbers = []
literals_of literals.Truths = truths
literals_of literals.Bits = bits
literals_of literals.Characters = characters
literals_of literals.Severities = severities
literals_of literals.Logics = logics

-- the number stands for the literals
pub record HasTexts (store : List (Forest IndicatedForm)) (number : ℕ) (texts : List (List ℕ)) : Type 0 where
  pub within : number ≤ length store
  pub are : texts_in (at store number) ≡ texts

pub record HasLiterals (store : List (Forest IndicatedForm)) (x : LiteralLists) : Type 0 where
  pub truths : HasTexts store x.truths truths
  pub bits : HasTexts store x.bits bits
  pub characters : HasTexts store x.characters characters
  pub severities : HasTexts store x.severities severities
  pub logics : HasTexts store x.logics logics

-- ---- marks

abbrev pub indicated_by : Sort → Indicated
indicated_by (Scalar s literals resolved) = scalars s (literals_of literals) resolved
indicated_by (AnyArray index s literals resolved) = arrays index (scalars s (literals_of literals) resolved)

abbrev pub mark_of : Mark → ℕ × Indicated
mark_of m = (m.0, indicated_by m.1)

-- where these marks are declared
abbrev pub marked : List (ℕ × Indicated) → Env → Env
marked ms e = record e { denotes = denoted_in ms }

abbrev pub marks_known : List (ℕ × Indicated) → Known
marks_known ms = both_changed (marked ms) nothing_known
