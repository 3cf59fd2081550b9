-- The attribute of a type that a name calls.
use Rattle.std.proofs.Common.{◌≡◌, Option, Some, ap}
use Rattle.vd_meaning.specs.Names.{Attributed, Named, TypeAttribute}
use Rattle.vd_static_values.specs.Names.{callee_of, type_attribute}
use Rattle.vd_static_values.specs.declared.names.TypeAttribute.{TypeAttribute as KnownAttribute}

pub same_attribute : (p : Named) (a : TypeAttribute) (callee : Option KnownAttribute) (b : KnownAttribute) → p.callee ≡ Attributed a → p.callee ≡ callee_of callee → callee ≡ Some b
    → type_attribute b ≡ a
same_attribute p a callee b of known is =
    let same : callee_of callee ≡ Attributed (type_attribute b) = ap callee_of is in cc
