-- What kinds of things forms declare at their ends.
use Rattle.vd_name_rows.specs.declared.steps.Ending.{Ending}
use Rattle.vd_name_rows.specs.declared.steps.Ending.TheVariants as ending
use Rattle.vd_name_resolution.specs.declared.end_kinds.Kind.{Kind}
use Rattle.vd_name_resolution.specs.declared.end_kinds.Kind.TheVariants as kind

abbrev pub kind_of : Ending → Kind
kind_of (ending.Objects object names) = kind.Object
kind_of ending.AllPorts = kind.Object
kind_of ending.NewType = kind.Object
kind_of ending.NewSubtype = kind.Object
kind_of ending.NewView = kind.View
kind_of ending.NewGenericType = kind.Function
kind_of ending.NewGenericFunction = kind.Function
kind_of ending.NewFunction = kind.Function
kind_of ending.BodyEnds = kind.Function
kind_of ending.NewFunctionInstance = kind.Instance
kind_of ending.NewEntity = kind.Unit
kind_of ending.NewArchitecture = kind.Unit
kind_of ending.NewPackage = kind.Unit
kind_of ending.PackageBodyEnds = kind.Unit
kind_of ending.NewPackageInstance = kind.Instance
kind_of ending.NewContext = kind.Unit
kind_of _ = kind.Node
