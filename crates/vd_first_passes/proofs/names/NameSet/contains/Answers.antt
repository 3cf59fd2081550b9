use Rattle.std.proofs.Common.{sym, ap, ◌∙◌}
use Rattle.std.specs.List.{list_any}
use Rattle.std.specs.Str.{bytes_eq}
use Rattle.vd_forest.proofs.TextLemmas.{list_any-map}
use Rattle.vd_first_passes.proofs.names.NameSet.contains.Goals as goal

pub returns : goal.returns
returns c =
    c.contains.ensures ∙ sym (list_any-map (λ v. v.items) c.args.name.now c.self.inside.set.keys)
    ∙ ap (list_any (bytes_eq c.args.name.now)) c.self.view_is
