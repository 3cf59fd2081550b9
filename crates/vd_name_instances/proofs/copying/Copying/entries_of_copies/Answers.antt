use Rattle.std.proofs.Common.{rules}
use Rattle.vd_naming.specs.Copies.{entries_of_copies, some_of}
use Rattle.vd_name_instances.specs.Sources.{seen_copying}
use Rattle.vd_name_instances.proofs.AddingLemmas.{entry_copied}
use Rattle.vd_name_instances.proofs.copying.Copying.entries_of_copies.Goals as goal

pub loop-next-preserved : goal.loop-next-preserved
loop-next-preserved c =
    let source = c.args.self.now in
    let entered = c.args.names.now.scopes.entered in
    entry_copied (seen_copying source) c.loop-next.next source.span.end (search rules) entered c.loop-next.copies.items c.push.new.self.items
    (entries_of_copies (seen_copying source) source.span.first (some_of source.span.first source.span.end entered))
    (search rules) (search rules) c.loop-next.invariant
