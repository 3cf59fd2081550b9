use Rattle.std.proofs.Common.{rules, map}
use Rattle.vd_naming.specs.Copies.{copy_of_region, some_of}
use Rattle.vd_name_instances.specs.Copied.{seen_region}
use Rattle.vd_name_instances.specs.Sources.{seen_copying}
use Rattle.vd_name_instances.proofs.AddingLemmas.{region_copied}
use Rattle.vd_name_instances.proofs.copying.Copying.regions_of_copies.Goals as goal

pub loop-next-preserved : goal.loop-next-preserved
loop-next-preserved c =
    let source = c.args.self.now in
    let regions = c.args.names.now.scopes.regions in
    region_copied (seen_copying source) c.loop-next.next source.span.end_region (search rules) regions (map seen_region c.loop-next.copies.items)
    (map seen_region c.push_copy.new.copies.items)
    (map (copy_of_region (seen_copying source)) (some_of source.span.first_region source.span.end_region regions))
    (search rules) (search rules) c.loop-next.invariant
