-- What nodes declare, as the code tells it apart and as it is defined.
use Rattle.std.proofs.Common.{◌≡◌, ◌∷◌, List, ap, refl, subst, sym, ◌∙◌}
use Rattle.std.specs.Prelude.{OnOk, Result}
use Rattle.vd_forest.specs.Forest.{Forest}
use Rattle.vd_known_units.specs.Kinds.{declaring_as, declaring_of}
use Rattle.vd_known_units.specs.declared.kinds.Declaring.{Declaring}
use Rattle.vd_known_designs.specs.Designs.{Knows}
use Rattle.vd_known_designs.specs.declared.design.KnownDesign.{KnownDesign}
use Rattle.vd_resolved.specs.declared.node.Resolved.{Resolved}
use Rattle.vd_value_rules.specs.Declaring as rules
use Rattle.vd_value_rules.specs.Declaring.{declared, declared_by, declaring}
use Rattle.vd_value_rules.specs.Designs.{Design}
use Rattle.vd_value_rules.specs.Knowledge.{Known}

read_again : (k : rules.Declaring) → declaring_of (declaring_as k) ≡ k
read_again rules.Nothing = refl
read_again rules.InOrder = refl
read_again rules.APackage = refl
read_again rules.AType = refl
read_again rules.ASubtype = refl
read_again rules.Constants = refl
read_again rules.Variables = refl
read_again rules.SomeSignals = refl
read_again rules.SomePorts = refl
read_again rules.ViewPorts = refl
read_again rules.GenericConstants = refl
read_again rules.SomeParameters = refl
read_again rules.AFunction = refl
read_again rules.AGenericFunction = refl
read_again rules.FunctionInstance = refl
read_again rules.PackageInstance = refl

-- what the code has told apart, by what it found
pub told_apart : (k : rules.Declaring) (made found : Declaring) → made ≡ declaring_as k → made ≡ found → declaring_of found ≡ k
told_apart k made found is of = ap declaring_of (sym of ∙ is) ∙ read_again k

-- what is declared by one of two kinds that are the same
pub of_kind : {A E : Type 0} (j l : rules.Declaring) (d : Design) (n : Resolved) (parts : Forest Resolved) (inner k : Known) (ks : List Known) (y : KnownDesign)
    (r : Result A E) → l ≡ j → OnOk r (Knows d y (declared_by j d n parts inner k ∷ ks)) → OnOk r (Knows d y (declared_by l d n parts inner k ∷ ks))
of_kind j l d n parts inner k ks y r is known = subst (λ q. OnOk r (Knows d y (declared_by q d n parts inner k ∷ ks))) (sym is) known
