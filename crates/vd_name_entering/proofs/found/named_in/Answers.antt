use Rattle.std.proofs.Common.{◌≡◌, ◌∙◌, ap, arith, drop, reverse}
use Rattle.vd_regions.specs.Found.{entered_in}
use Rattle.vd_name_entering.proofs.NamedLemmas.{turned_in}
use Rattle.vd_name_entering.proofs.found.named_in.Goals as goal

pub returns : goal.returns
returns c =
    let all : c.loop-left.left ≡ 0 = omega (arith, c.loop-left-test.false) in
    c.loop-left.invariant.turned
    ∙ ap (λ n. reverse (drop n c.in_ok-newest.newest.items)) all
    ∙ ap reverse c.in_ok-newest.ensures
    ∙ ap (λ s. reverse (entered_in s c.args.region c.args.name.now)) c.regions.ensures
    ∙ turned_in c.args.names.now c.args.region c.args.name.now
