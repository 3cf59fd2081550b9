use Rattle.std.proofs.Common.{◌<◌, ◌++◌, [], ◌∷◌, refl, sym, subst, ◌∙◌}
use Rattle.std.specs.Prelude.{MatchOption}
use Rattle.vd_gram.specs.declared.steps.Step.TheVariants.{Node}
use Rattle.vd_gram.specs.Pending.{symbols_of}
use Rattle.vd_gram.specs.Runs.{IsNoChoice}
use Rattle.vd_gram.specs.Readings.{IsExpanded}
use Rattle.vd_gram.proofs.WeightLemmas.{weight}
use Rattle.vd_gram.proofs.AdvanceLemmas.{ahead_from_stands, ahead_popped, ahead_expanded, refused_untold, lighter_expanded}
use Rattle.vd_gram.proofs.reading.Reading.advance.Goals as goal
use Rattle.vd_gram.proofs.reading.Reading.advance.Given.{Over}

pub loop-next-init : goal.loop-next-init
loop-next-init g c =
    let s = c.requires in
    record {
      kept = refl;
      looking = record {
        steps = s.steps;
        taken = s.taken;
        ahead = ahead_from_stands c.args.checked.now.table c.args.checked.now.checked c.args.symbols.now c.args.deep c.args.place s.steps c.args.self.now s.stands;
      };
    }

pub returns-in-None-clause-answer : goal.returns-in-None-clause-answer
returns-in-None-clause-answer g c =
    let t = c.args.checked.now.table in
    let i = c.loop-next.invariant.looking in
    let before = record c.loop-next.self { stack = c.pop.new.self } in
    let ahead = ahead_popped t c.args.checked.now.checked c.args.symbols.now c.args.deep c.args.place c.in-Some.next c.pop.new.self i.steps c.loop-next.self c.in-Some.ensures i.ahead in
    let none : IsNoChoice t c.in-Some.next.symbol c.symbol_ahead-ahead.result =
    subst (λ o. MatchOption o (IsNoChoice t c.in-Some.next.symbol c.symbol_ahead-ahead.result) (λ m. IsExpanded t c.symbol_ahead-ahead.result c.in-Some.next m.production m.parts before c.expand.new.self)) c.in-None.is c.in_ok-expand.ensures.expanded in
    refused_untold t c.args.checked.now.checked c.args.symbols.now c.args.deep c.args.place c.in-Some.next i.steps before (sym c.is_terminal.ensures ∙ c.if-is_terminal.false) ahead
    (subst (IsNoChoice t c.in-Some.next.symbol) c.symbol_ahead-ahead.ensures none)

expanded : (g : Over) (c : goal.In_ok-node-in-Some-2 g)
    → IsExpanded c.args.checked.now.table c.symbol_ahead-ahead.result c.in-Some.next c.in-Some-2.made.production c.in-Some-2.made.parts (record c.loop-next.self { stack = c.pop.new.self }) c.expand.new.self
expanded g c =
    subst (λ o. MatchOption o (IsNoChoice c.args.checked.now.table c.in-Some.next.symbol c.symbol_ahead-ahead.result) (λ m. IsExpanded c.args.checked.now.table c.symbol_ahead-ahead.result c.in-Some.next m.production m.parts (record c.loop-next.self { stack = c.pop.new.self }) c.expand.new.self)) c.in-Some-2.is c.in_ok-expand.ensures.expanded

pub loop-next-smaller : goal.loop-next-smaller
loop-next-smaller g c =
    let t = c.args.checked.now.table in
    let falls = lighter_expanded t c.args.checked.now.checked c.symbol_ahead-ahead.result c.in-Some-2.made.production c.in-Some-2.made.parts c.in-Some.next (record c.loop-next.self { stack = c.pop.new.self }) c.expand.new.self (expanded g c) in
    subst (λ qs. weight t (symbols_of c.expand.new.self.stack) < weight t (symbols_of qs)) (sym c.in-Some.ensures) falls

pub loop-next-preserved : goal.loop-next-preserved
loop-next-preserved g c =
    let t = c.args.checked.now.table in
    let i = c.loop-next.invariant.looking in
    let made = c.in-Some-2.made in
    let before = record c.loop-next.self { stack = c.pop.new.self } in
    let ahead = ahead_popped t c.args.checked.now.checked c.args.symbols.now c.args.deep c.args.place c.in-Some.next c.pop.new.self i.steps c.loop-next.self c.in-Some.ensures i.ahead in
    record {
      kept = c.in_ok-node-in-Some-2.ensures.kept ∙ c.loop-next.invariant.kept;
      looking = record {
        steps = i.steps ++ Node made.production made.parts ∷ [];
        taken = c.in_ok-node-in-Some-2.ensures.told i.steps i.taken;
        ahead =
            ahead_expanded t c.args.checked.now.checked c.args.symbols.now c.args.deep c.args.place made.production made.parts c.in-Some.next i.steps before c.expand.new.self
            (sym c.is_terminal.ensures ∙ c.if-is_terminal.false) ahead
            (subst (λ x. IsExpanded t x c.in-Some.next made.production made.parts before c.expand.new.self) c.symbol_ahead-ahead.ensures (expanded g c)) c.in_ok-expand.ensures.choices;
      };
    }

pub node-requires : goal.node-requires
node-requires g c = (c.loop-next.invariant.looking.steps, c.loop-next.invariant.looking.taken)
