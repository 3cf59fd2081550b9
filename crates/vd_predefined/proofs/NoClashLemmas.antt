-- What is given has no clash: computed over the tables.
use Rattle.std.proofs.Common.{◌≡◌, refl, None}
use Rattle.vd_trees.specs.declared.revision.Revision.{Revision}
use Rattle.vd_trees.specs.declared.revision.Revision.TheVariants.{V2019, V1993}
use Rattle.vd_predefined.specs.Table.{standard_types, standard_operators, logic_types, logic_operators}
use Rattle.vd_predefined.specs.GivenClashes.{clash_of_units, clash_of_packages}

pub no_clash_of_units : clash_of_units ≡ None
no_clash_of_units = refl

pub no_clash_of_packages : (r : Revision) → clash_of_packages r ≡ None
unfolding standard_types standard_operators logic_types logic_operators
no_clash_of_packages V2019 = refl
no_clash_of_packages V1993 = refl
