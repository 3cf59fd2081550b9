use Rattle.std.proofs.Common.{◌≡◌, true, false, nat_eq, ◌∷◌, sym, ap, subst, reverse, eq-eqb, arith, ◌∙◌}
use Rattle.std.proofs.lemmas.Bool.{ne_eqb}
use Rattle.vd_shapes.specs.Machine.{opened, begun_with, closed, counted, with_opened}
use Rattle.vd_shapes.specs.Standing.{StandsAt, AreFrames, trees_of}
use Rattle.vd_shapes.proofs.StandingLemmas.{reverse_last}
use Rattle.vd_shapes.proofs.growing.Growing.begin.Goals as goal

pub returns-then-parts-gt0-clause-stands : goal.returns-then-parts-gt0-clause-stands
returns-then-parts-gt0-clause-stands c = λ m h.
    let g = c.args.self.now in
    let p = c.in_ok-frame.ensures m h in
    let some : nat_eq c.args.parts 0 ≡ false = ne_eqb c.args.parts 0 (λ e. omega (arith, e, c.if-parts-gt0.true)) in
    let is = c.action_of.ensures g.tokens.now in
    subst (StandsAt (record g { frames = c.push.new.self })) (λ i. with_opened g.actions.now g.tokens.now (sym some i) (opened (is i) c.args.parts m) m)
    (record {
      within = p.within;
      taken = p.taken;
      frames = subst (λ fs. AreFrames fs (opened c.action_of.result c.args.parts m ∷ m.open_ones) (trees_of g.store g.tokens.now g.entries.items) (begun_with c.action_of.result m.so_far))
          (sym (ap reverse c.in_ok-push.ensures.items ∙ reverse_last g.frames.items c.in_ok-frame.frame)) p.frames;
    })

pub count_part-requires : goal.count_part-requires
count_part-requires c =
    record { machine = _; stands = c.in_ok-close.ensures.stands _ _ (c.in_ok-frame.ensures c.requires.machine c.requires.stands) }

pub returns-clause-stands : goal.returns-clause-stands
returns-clause-stands c = λ m h.
    let g = c.args.self.now in
    let p = c.in_ok-frame.ensures m h in
    let none : nat_eq c.args.parts 0 ≡ true = eq-eqb c.args.parts 0 (omega (arith, c.if-parts-gt0.false)) in
    let is = c.action_of.ensures g.tokens.now in
    let o = opened c.action_of.result c.args.parts m in
    let ended = c.in_ok-close.ensures.stands o (record m { so_far = begun_with c.action_of.result m.so_far }) p in
    let told = c.in_ok-count_part.ensures.stands (record m { so_far = closed g.actions.now g.tokens.now o.action o.start o.outer (begun_with o.action m.so_far) }) ended in
    let k = c.in_ok-close.ensures.kept in
    let own = subst (StandsAt c.count_part.new.self) (λ i. counted (k.actions i).now (k.tokens i).now m.open_ones (closed g.actions.now g.tokens.now o.action o.start o.outer (begun_with o.action m.so_far)) m.taken) told in
    subst (StandsAt c.count_part.new.self) (λ i. with_opened g.actions.now g.tokens.now (sym none i) (opened (is i) c.args.parts m) m) own
