-- What can be instantiated. (IEEE 1076-2019, generic packages; generic subprograms)
use Rattle.std.specs.Prelude.{Bool}
use Rattle.vd_declarations.specs.declared.classes.Class.{Class}
use Rattle.vd_naming.specs.Functions.{is_uninstantiated_function}
use Rattle.vd_naming.specs.Selected.{is_uninstantiated}
use Rattle.vd_name_clauses.specs.declared.generics.Generic.{Generic}
use Rattle.vd_name_clauses.specs.declared.generics.Generic.TheVariants as generic

abbrev pub is_generic : Generic → Class → Bool
is_generic generic.Package c = is_uninstantiated c
is_generic generic.Function c = is_uninstantiated_function c
