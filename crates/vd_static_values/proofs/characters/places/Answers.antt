use Rattle.std.proofs.Common.{ap, arith, get_or, ◌<◌}
use Rattle.vd_environments.specs.Got.{is_got}
use Rattle.vd_plain_values.proofs.StringLemmas.{no_place, one_place}
use Rattle.vd_plain_values.specs.Strings.{places_in}
use Rattle.vd_static_values.proofs.CharacterLemmas.{known_place, unknown_place}
use Rattle.vd_static_values.proofs.characters.places.Goals as goal

pub loop-code-preserved : goal.loop-code-preserved
loop-code-preserved c = λ ls has.
    let text = c.args.text.now in
    let i = c.loop-code.code-index in
    let fits = c.type_inv.text i in
    let below : get_or text i 0 < 256 = omega (arith, fits) in
    one_place ls text i c.in-Some.place c.loop-code.made.items c.push.new.self.items (places_in ls text) c.loop-code-test.true
    (known_place c.args.table.now ls (get_or text i 0) c.in-Some.place has below c.in-Some.is) c.in_ok-push-in-Some.ensures.items (c.loop-code.invariant ls has)

pub returns-in-None : goal.returns-in-None
returns-in-None c = λ ls has.
    let text = c.args.text.now in
    let i = c.loop-code.code-index in
    let fits = c.type_inv.text i in
    let below : get_or text i 0 < 256 = omega (arith, fits) in
    ap is_got (no_place ls text i c.loop-code.made.items (places_in ls text) c.loop-code-test.true
    (unknown_place c.args.table.now ls (get_or text i 0) has below c.in-None.is) (c.loop-code.invariant ls has))
