use Rattle.std.proofs.Common.{◌≡◌, drop, refl, ap, subst, ◌∙◌}
use Rattle.vd_forms.specs.Validity.{keeps_brackets}
use Rattle.vd_shapes.specs.Standing.{keeps_by, planted_all, trees_of}
use Rattle.vd_shapes.proofs.StandingLemmas.{within_made, trees_made}
use Rattle.vd_shapes.proofs.growing.Growing.make.Goals as goal

pub returns : goal.returns
returns c =
    let g = c.args.self.now in
    let one = c.are_one_expression.ensures g.store g.tokens.now in
    let keeps = subst (λ l. c.keeps_brackets-keep.result ≡ keeps_brackets c.args.form (planted_all (trees_of g.store g.tokens.now (drop c.args.base l)))) c.deref.ensures.value (c.keeps_brackets-keep.ensures ∙ ap (keeps_by c.args.form) one) in
    record {
      tables = record { actions = refl; tokens = refl };
      same_frames = refl;
      same_taken = refl;
      within = within_made g.store c.gather.new.store g.entries.items c.gather.new.entries.items c.push.new.self.items _ c.args.base c.requires.within c.in_ok-parts.ensures.left c.in_ok-parts.ensures.extends c.in_ok-parts.ensures.holds.within c.in_ok-push.ensures.items;
      trees = trees_made g.store c.gather.new.store g.tokens.now g.entries.items c.gather.new.entries.items c.push.new.self.items c.args.form c.args.base c.args.start c.in_ok-parts.parts c.keeps_brackets-keep.result
          c.requires.within c.in_ok-parts.ensures.left c.in_ok-parts.ensures.extends c.in_ok-parts.ensures.holds keeps c.in_ok-push.ensures.items;
    }
