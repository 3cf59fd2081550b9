-- Subtypes that are scalar.
use Rattle.std.proofs.Common.{◌≡◌, ◌∙◌, ap, refl, sym}
use Rattle.std.specs.Prelude.{None, Option, Some, is_some}
use Rattle.vd_composites.specs.Subtypes.{Arrays, Records, Scalars, Subtype}
use Rattle.vd_composites.specs.declared.scalars.ScalarSubtype.{ScalarSubtype}
use Rattle.vd_environments.specs.Environments.{or_senseless}
use Rattle.vd_environments.specs.Got.{is_got}
use Rattle.vd_meaning.specs.Names.{scalars_of}
use Rattle.vd_value_rules.specs.Actuals.{is_scalar}

some_got : (o : Option ScalarSubtype) → is_got (or_senseless o) ≡ is_some o
some_got None = refl
some_got (Some s) = refl

got_scalar : (s : Subtype) → is_got (scalars_of s) ≡ is_scalar s
got_scalar (Scalars s) = refl
got_scalar (Arrays index bounds element) = refl
got_scalar (Records fields) = refl

pub scalar_is : (o : Option ScalarSubtype) (s : Subtype) → or_senseless o ≡ scalars_of s → is_some o ≡ is_scalar s
scalar_is o s same = sym (some_got o) ∙ ap is_got same ∙ got_scalar s
