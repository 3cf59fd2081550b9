use Rattle.std.proofs.Common.{sym, ap, ◌∙◌}
use Rattle.std.specs.List.{list_any}
use Rattle.std.specs.Str.{bytes_eq}
use Rattle.vd_forest.specs.Texts.{with_text}
use Rattle.vd_forest.proofs.TextLemmas.{list_any-map, added}
use Rattle.vd_first_passes.proofs.names.NameSet.insert.Goals as goal

pub returns-clause-names : goal.returns-clause-names
returns-clause-names c =
    let keys = c.self.inside.set.keys in
    let absent = sym (list_any-map (λ v. v.items) c.args.name.now keys) ∙ ap (list_any (bytes_eq c.args.name.now)) c.self.view_is ∙ sym c.contains.ensures ∙ c.if-contains.false in
    (added (λ v. v.items) c.args.name.now keys c.insert.new.self.keys c.in_ok-owned.owned c.in_ok-owned.ensures.items absent c.in_ok-insert.ensures.keys).table
    ∙ ap (λ ts. with_text ts c.args.name.now) c.self.view_is
