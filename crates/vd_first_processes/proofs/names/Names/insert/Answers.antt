use Rattle.std.proofs.Common.{◌≡◌, not, sym, ap, ◌∙◌, subst}
use Rattle.std.specs.List.{list_any}
use Rattle.std.specs.Str.{bytes_eq}
use Rattle.vd_forest.specs.Texts.{with_text}
use Rattle.vd_forest.proofs.TextLemmas.{list_any-map, with_text_found, added}
use Rattle.vd_first_processes.proofs.names.Names.insert.Goals as goal

pub returns-then-contains-clause-is_new : goal.returns-then-contains-clause-is_new
returns-then-contains-clause-is_new c =
    let name = c.args.name.now in
    let there = sym (c.contains.ensures ∙ sym (list_any-map (λ v. v.items) name c.self.inside.set.keys) ∙ ap (list_any (bytes_eq name)) c.self.view_is) ∙ c.if-contains.true in
    sym (ap not there)

pub returns-then-contains-clause-names : goal.returns-then-contains-clause-names
returns-then-contains-clause-names c =
    let name = c.args.name.now in
    sym (subst (λ ts. with_text ts name ≡ ts) c.self.view_is (with_text_found (λ v. v.items) name c.self.inside.set.keys (sym c.contains.ensures ∙ c.if-contains.true)))

pub returns-clause-is_new : goal.returns-clause-is_new
returns-clause-is_new c =
    let name = c.args.name.now in
    let absent = sym (c.contains.ensures ∙ sym (list_any-map (λ v. v.items) name c.self.inside.set.keys) ∙ ap (list_any (bytes_eq name)) c.self.view_is) ∙ c.if-contains.false in
    sym (ap not absent)

pub returns-clause-names : goal.returns-clause-names
returns-clause-names c =
    let keys = c.self.inside.set.keys in
    let name = c.args.name.now in
    let absent = sym c.contains.ensures ∙ c.if-contains.false in
    (added (λ v. v.items) name keys c.insert.new.self.keys c.in_ok-owned.owned c.in_ok-owned.ensures.items absent c.in_ok-insert.ensures.keys).table
    ∙ ap (λ ts. with_text ts name) c.self.view_is
