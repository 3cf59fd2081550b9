use Rattle.std.proofs.Common.{ap, ◌∙◌}
use Rattle.vd_forest.specs.Texts.{with_text}
use Rattle.vd_first_grammar.proofs.NamesLemmas.{with_text-map}
use Rattle.vd_first_grammar.proofs.reader_names.Names.add.Goals as goal

pub returns : goal.returns
returns c =
    with_text-map (λ v. v.items) c.self.inside.set.keys c.insert.new.self.keys c.in_ok-owned.owned c.in_ok-insert.ensures.keys
    ∙ ap (λ names. with_text names c.in_ok-owned.owned.items) c.self.view_is
    ∙ ap (λ t. with_text c.args.self.now t) c.in_ok-owned.ensures.items
