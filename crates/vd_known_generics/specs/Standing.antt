-- Generics that stand for their actuals, one after the other, in memory.
use Rattle.std.specs.Prelude.{◌≡◌, ◌∷◌, List, ℕ}
use Rattle.vd_environments.specs.Environments.{Function, Static, never}
use Rattle.vd_known_generics.specs.Actuals.{AreActuals, results_of}
use Rattle.vd_known_generics.specs.declared.actuals.Actual.{Actual}
use Rattle.vd_known_designs.specs.Designs.{Knows}
use Rattle.vd_known_designs.specs.declared.design.KnownDesign.{KnownDesign}
use Rattle.vd_meaning.specs.Names.{calls_known}
use Rattle.vd_meaning.specs.Operators.{function_of}
use Rattle.vd_meaning.specs.Tables.{followed}
use Rattle.vd_value_rules.specs.Declaring.{KnownAndLeft, TwoActuals, function_denoted}
use Rattle.vd_value_rules.specs.Designs.{Design}
use Rattle.vd_value_rules.specs.Knowledge.{Known, TwoIndicated, denoted}

-- what is known so far, and the actuals that are left
pub record Stands (d : Design) (x : KnownDesign) (left : List Actual) (s : KnownAndLeft) (ks : List Known) : Type 0 where
  pub knows : Knows d x (s.known ∷ ks)
  pub are_left : AreActuals x.table.subtypes d.table left s.left

-- something is known, and these are the actuals of something
pub record CanStand (x : KnownDesign) (left : List Actual) : Type 0 where
  pub design : Design
  pub so_far : KnownAndLeft
  pub round : List Known
  pub stands : Stands design x left so_far round

-- so far, what comes to all where the rest stands too
pub record StandsSoFar {A : Type 0} (d : Design) (x : KnownDesign) (left : List Actual) (ks : List Known) (rest : KnownAndLeft → A) (all : A) : Type 0 where
  pub so_far : KnownAndLeft
  pub stands : Stands d x left so_far ks
  pub comes_to : rest so_far ≡ all

-- a function that gives something, of which the environment for choices has the subtype alone
abbrev pub called_stands : ℕ → TwoIndicated → (gives other : Function) → Static → Known → Known
called_stands n i gives other calls k = denoted n (function_denoted i.own gives calls) (function_denoted i.choosing other never) k

-- a function that stands for its actual, which is what it is where the generics in front of it stand for theirs
abbrev pub function_of_copy : Design → ℕ → TwoActuals → Known → Known
function_of_copy d n a k =
    let f = followed d.table a.copy in
    called_stands n (results_of d k f) (function_of d.table f k.env) (function_of d.table f k.choosing) (calls_known d.table f k.env) k
