-- The texts of functions that are known at a place, in the order in which they came: of a function the last one counts.
use Rattle.std.specs.Prelude.{List, None, Option, Some, [], map, ℕ, ◌++◌, ◌≡◌, ◌∷◌}
use Rattle.vd_body_rules.specs.declared.declaring.Declares.{Declares}
use Rattle.vd_body_rules.specs.declared.texts.Entry.{Entry}
use Rattle.vd_environments.specs.Environments.{with_entry}
use Rattle.vd_forest.specs.Forest.{Forest, more, nothing}
use Rattle.vd_meaning.specs.Meanings.{made}
use Rattle.vd_meaning.specs.Names.{number_or}
use Rattle.vd_resolved.specs.declared.node.Resolved.{Resolved}
use Rattle.vd_value_rules.specs.Declaring.{AFunction, APackage, Declaring, InOrder, declaring}
use Rattle.vd_value_rules.specs.Designs.{Design}
use Rattle.vd_value_rules.specs.Knowledge.{meaning_at}
use Rattle.vd_body_rules.specs.declared.declaring.Declares.TheVariants as declares

-- ---- what trees declare: parts of functions, under their numbers

abbrev pub texted : Declaring → Declares
texted InOrder = declares.Inside
texted APackage = declares.Inside
texted AFunction = declares.Function
texted _ = declares.Nothing

-- a node, where its parts declare these
abbrev pub texts_by : Declares → Design → Resolved → Forest Resolved → List (ℕ × Forest Resolved) → List (ℕ × Forest Resolved)
texts_by declares.Inside d n parts inner = inner
texts_by declares.Function d n parts inner = inner ++ (number_or (made n (meaning_at d 1 parts)), parts) ∷ []
texts_by declares.Nothing d n parts inner = []

abbrev pub texts_declared : Design → Forest Resolved → List (ℕ × Forest Resolved)
texts_declared d nothing = []
texts_declared d (more n text place parts next) = texts_by (texted (declaring n.form)) d n parts (texts_declared d parts) ++ texts_declared d next

-- ---- what is known

-- the text of each function, behind others
abbrev pub behind : (ℕ → Forest Resolved) → List (ℕ × Forest Resolved) → ℕ → Forest Resolved
behind known [] = known
behind known (x ∷ xs) = behind (with_entry x.0 x.1 known) xs

abbrev pub known_texts : List (ℕ × Forest Resolved) → ℕ → Forest Resolved
known_texts xs = behind (λ _. nothing) xs

-- ---- as it is kept: each text with the one that it took the place of

abbrev pub text_of : Entry → ℕ × Forest Resolved
text_of e = (e.number, e.text)

abbrev pub texts_of : List Entry → List (ℕ × Forest Resolved)
texts_of es = map text_of es

abbrev pub or_nothing : Option (Forest Resolved) → Forest Resolved
or_nothing None = nothing
or_nothing (Some text) = text

abbrev pub AreLinked : (ℕ → Forest Resolved) → List Entry → Type 0
AreLinked known [] = Unit {0}
AreLinked known (e ∷ es) = (or_nothing e.before ≡ known e.number) × AreLinked (with_entry e.number e.text known) es

-- a table of the last texts
pub record IsTable (es : List Entry) (latest : ℕ → Option (Forest Resolved)) : Type 0 where
  pub last : (k : ℕ) → or_nothing (latest k) ≡ known_texts (texts_of es) k
  pub linked : AreLinked (λ _. nothing) es
