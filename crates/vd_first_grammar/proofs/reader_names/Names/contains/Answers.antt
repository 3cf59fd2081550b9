use Rattle.std.proofs.Common.{sym, ap, ◌∙◌}
use Rattle.vd_first_grammar.specs.Reader.{among}
use Rattle.vd_first_grammar.proofs.NamesLemmas.{among-map}
use Rattle.vd_first_grammar.proofs.reader_names.Names.contains.Goals as goal

pub returns : goal.returns
returns c =
    c.contains.ensures
    ∙ sym (among-map (λ v. v.items) c.args.name.now c.self.inside.set.keys)
    ∙ ap (λ names. among names c.args.name.now) c.self.view_is
