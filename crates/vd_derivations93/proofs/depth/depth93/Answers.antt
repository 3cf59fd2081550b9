use Rattle.std.specs.Prelude.{IfOk, Result, Ok, Err}
use Rattle.vd_shapes.specs.Reading.{symbols_in}
use Rattle.vd_grammar93.specs.Grammar.{grammar, actions}
use Rattle.vd_derivations93.specs.Depths.{IsDepth, IsDepthOf}
use Rattle.vd_derivations93.proofs.Checked.{derived}
use Rattle.vd_derivations93.proofs.DepthLemmas.{design_text, design_depth}
use Rattle.vd_derivations93.proofs.depth.depth93.Goals as goal

pub depth_of_tokens-requires : goal.depth_of_tokens-requires
depth_of_tokens-requires c =
    record { text = design_text grammar actions c.args.design.now c.in_ok-tokens.tokens (derived c.args.design.now c.units-units.ensures.valid) c.in_ok-tokens.ensures }

if_ok : {T E : Type 0} (r : Result T E) (P Q : T → Type 0) → ((x : T) → P x → Q x) → IfOk r P → IfOk r Q
if_ok (Ok x) P Q f h = f x h
if_ok (Err e) P Q f h = h

pub returns : goal.returns
returns c =
    if_ok c.depth_of_tokens.result (λ d. IsDepth grammar (symbols_in c.in_ok-tokens.tokens) d) (λ d. IsDepthOf c.args.design.now d)
    (λ d h. design_depth c.args.design.now c.in_ok-tokens.tokens d c.in_ok-tokens.ensures h) c.depth_of_tokens.ensures
