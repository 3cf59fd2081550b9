use Rattle.std.proofs.Common.{◌≡◌, ◌++◌, drop}
use Rattle.vd_naming.specs.Copies.{numbers_of_copies}
use Rattle.vd_name_instances.specs.Sources.{seen_copying}
use Rattle.vd_name_instances.proofs.copying.Copying.numbers_of_copies.Given as goal

abbrev pub invariant-loop-id : goal.invariant-loop-id
invariant-loop-id l = l.copies.items ++ numbers_of_copies (seen_copying l.self) (drop l.id-index l.ids) ≡ numbers_of_copies (seen_copying l.self) l.ids
