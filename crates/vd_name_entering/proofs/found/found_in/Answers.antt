use Rattle.std.proofs.Common.{◌∙◌, ap}
use Rattle.std.specs.List.{filter}
use Rattle.vd_regions.specs.Scopes.{declaration_at}
use Rattle.vd_name_rows.specs.Members.{is_of, numbers_in}
use Rattle.vd_naming.specs.Units.{first_of, is_named}
use Rattle.vd_name_entering.proofs.NamedLemmas.{first_swapped}
use Rattle.vd_name_entering.proofs.found.found_in.Goals as goal

pub loop-id-init : goal.loop-id-init
loop-id-init c =
    ap (λ ks. first_of (filter (λ k. is_of c.args.sort (declaration_at c.args.names.now.scopes k).class) ks))
    (c.deref-id-items.ensures.value ∙ c.in_ok-found.ensures)
    ∙ first_swapped (λ k. is_of c.args.sort (declaration_at c.args.names.now.scopes k).class) (is_named c.args.names.now c.args.name.now)
    (numbers_in c.args.region 0 c.args.names.now.scopes.entered)
