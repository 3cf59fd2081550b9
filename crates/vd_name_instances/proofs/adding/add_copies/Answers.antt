use Rattle.std.proofs.Common.{rules}
use Rattle.vd_name_rows.specs.Designs.{sight}
use Rattle.vd_naming.specs.Copies.{copying}
use Rattle.vd_name_instances.proofs.AddingLemmas.{all_added}
use Rattle.vd_name_instances.proofs.adding.add_copies.Goals as goal

pub returns-clause-design : goal.returns-clause-design
returns-clause-design c =
    let d = c.args.names.now in
    all_added c.in_ok-entries.field-0 (copying c.args.id c.args.outer.now.region (sight c.args.outer.now d) c.args.actuals.now d)
    d c.add_entries.new.names c.add_regions.new.names c.note_copies.new.names c.in_ok-entries.ensures (search rules) (search rules) (search rules)
