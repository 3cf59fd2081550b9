use Rattle.std.proofs.Common.{◌≡◌, ◌-◌, ◌++◌, ◌∷◌, List, ℕ, [], sym, ap, ◌∙◌, append_assoc}
use Rattle.vd_regions.specs.Scopes.{continued, chain_of}
use Rattle.vd_regions.proofs.LinkLemmas.{chain_step, chain_end}
use Rattle.vd_regions.proofs.regions.Regions.chain.Goals as goal

-- two pieces more, and then the rest
two_more : (regions pushed all here rest : List ℕ) (at : ℕ) → pushed ≡ regions ++ at ∷ [] → all ≡ pushed ++ here
    → all ++ rest ≡ regions ++ (at ∷ (here ++ rest))
two_more regions pushed all here rest at p q =
    ap (λ xs. xs ++ rest) (q ∙ ap (λ xs. xs ++ here) p)
    ∙ append_assoc (regions ++ at ∷ []) here rest
    ∙ append_assoc regions (at ∷ []) (here ++ rest)

pub loop-left-preserved : goal.loop-left-preserved
loop-left-preserved c =
    two_more c.loop-left.regions.items c.push.new.self.items c.add_continued.new.found.items (continued c.args.self.now c.loop-left.at)
    (chain_of (c.loop-left.left - 1) c.args.self.now c.outer-at.result) c.loop-left.at c.in_ok-push.ensures.items c.in_ok-add_continued.ensures
    ∙ ap (λ r. c.loop-left.regions.items ++ (c.loop-left.at ∷ (continued c.args.self.now c.loop-left.at ++ chain_of (c.loop-left.left - 1) c.args.self.now r))) c.outer-at.ensures
    ∙ ap (λ xs. c.loop-left.regions.items ++ xs) (sym (chain_step c.args.self.now c.loop-left.at c.loop-left.left c.loop-left-test.true c.if-at-eq0.false))
    ∙ c.loop-left.invariant

pub returns-then-at-eq0 : goal.returns-then-at-eq0
returns-then-at-eq0 c =
    c.in_ok-add_continued.ensures
    ∙ ap (λ xs. xs ++ continued c.args.self.now c.loop-left.at) c.in_ok-push.ensures.items
    ∙ append_assoc c.loop-left.regions.items (c.loop-left.at ∷ []) (continued c.args.self.now c.loop-left.at)
    ∙ ap (λ xs. c.loop-left.regions.items ++ xs) (sym (chain_end c.args.self.now c.loop-left.at c.loop-left.left c.loop-left-test.true c.if-at-eq0.true))
    ∙ c.loop-left.invariant
