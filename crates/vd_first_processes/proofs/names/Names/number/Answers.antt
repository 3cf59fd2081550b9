use Rattle.std.proofs.Common.{length, nat_lt, sym, ap, ◌∙◌}
use Rattle.std.specs.List.{position_or_len}
use Rattle.std.specs.Str.{bytes_eq}
use Rattle.vd_forest.proofs.TextLemmas.{list_any-map}
use Rattle.std.proofs.lemmas.List.{length-map}
use Rattle.vd_first_elaboration.specs.Processes.{number_of}
use Rattle.vd_first_processes.proofs.NameLemmas.{some_place, place_is_number, absent}
use Rattle.vd_first_processes.proofs.names.Names.number.Goals as goal

pub returns-in-Some : goal.returns-in-Some
returns-in-Some c =
    let keys = c.self.inside.set.keys in
    let name = c.args.name.now in
    let place = position_or_len (λ v. bytes_eq name v.items) keys in
    sym (some_place (nat_lt place (length keys)) place c.in-Some.index (sym c.in-Some.ensures.index))
    ∙ place_is_number (λ v. v.items) name keys
    ∙ ap (λ ns. number_of ns name) c.self.view_is

pub returns-in-None : goal.returns-in-None
returns-in-None c =
    let keys = c.self.inside.set.keys in
    let name = c.args.name.now in
    c.len.ensures.len
    ∙ sym (absent _ name (list_any-map (λ v. v.items) name keys ∙ sym c.in-None.ensures.found) ∙ length-map keys (λ v. v.items))
    ∙ ap (λ ns. number_of ns name) c.self.view_is
