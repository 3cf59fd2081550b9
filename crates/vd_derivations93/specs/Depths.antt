-- How deep marked nodes stand in one another in the derivation of some symbols.
use Rattle.std.specs.Prelude.{ℕ, ◌≡◌, ◌≤◌, min, List}
use Rattle.vd_gram.specs.declared.tables.Table.{Table}
use Rattle.vd_forest.specs.Forest.{Forest}
use Rattle.vd_forms.specs.declared.form.Form.{Form}
use Rattle.vd_grammar93.specs.Grammar.{grammar}
use Rattle.vd_derivations.specs.Laws.{IsDerivationOf}
use Rattle.vd_gram.specs.Derivations.{Trees, IsDerivation, IsParse, yield, depth}

-- the symbols have a derivation
pub record IsText (t : Table) (symbols : List ℕ) : Type 0 where
  pub tree : Trees
  pub derived : IsDerivation t tree
  pub yields : yield tree ≡ symbols

-- and it is read within a limit
pub record HasParse (t : Table) (symbols : List ℕ) (deep : ℕ) : Type 0 where
  pub tree : Trees
  pub parse : IsParse t symbols deep tree

-- the depth of a tree, or the greatest u32 where it is more
abbrev pub bounded_depth : Table → Trees → ℕ
bounded_depth t tree = min (depth t tree) 4294967295

-- the number is the depth of each derivation of the symbols. They differ in the places of their leaves alone
pub record IsDepth (t : Table) (symbols : List ℕ) (number : ℕ) : Type 0 where
  pub is : (tree : Trees) → IsDerivation t tree → yield tree ≡ symbols → number ≡ bounded_depth t tree

-- the depth lies between these numbers
pub record IsBetween (t : Table) (symbols : List ℕ) (low high : ℕ) : Type 0 where
  pub above : (tree : Trees) → IsDerivation t tree → yield tree ≡ symbols → low ≤ bounded_depth t tree
  pub below : (tree : Trees) → IsDerivation t tree → yield tree ≡ symbols → bounded_depth t tree ≤ high

-- the number is the depth of each derivation of a design's tokens
pub record IsDepthOf (units : Forest Form) (number : ℕ) : Type 0 where
  pub is : (tree : Trees) → IsDerivationOf grammar units tree → number ≡ bounded_depth grammar tree
