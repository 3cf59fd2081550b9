-- The scalar values among nodes.
use Rattle.std.specs.Prelude.{List, [], ◌++◌, ◌∷◌, option_to_list}
use Rattle.vd_values.specs.declared.scalar.Scalar.{Scalar}
use Rattle.vd_composites.specs.declared.nodes.Node.{Node}
use Rattle.vd_composites.specs.Nodes.{scalar_in}

abbrev pub scalars_in : List Node → List Scalar
scalars_in [] = []
scalars_in (n ∷ ns) = option_to_list (scalar_in (n ∷ [])) ++ scalars_in ns
