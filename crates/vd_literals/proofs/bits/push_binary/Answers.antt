use Rattle.std.proofs.Common.{◌≡◌, ◌≤◌, ◌+◌, ◌-◌, ◌*◌, ◌++◌, ◌∷◌, [], ◌/◌, ◌%◌, ◌^◌, sym, ap, ◌∙◌, arith, append_assoc}
use Rattle.vd_literals.specs.Bits.{binary}
use Rattle.vd_literals.proofs.BitsLemmas.{binary-step, small_power}
use Rattle.vd_literals.proofs.bits.push_binary.Goals as goal

pub loop-left-preserved : goal.loop-left-preserved
loop-left-preserved c =
    let old = c.loop-left.buffer.items in
    let k = c.loop-left.left in
    let v = c.args.value in
    let e = binary-step k v c.loop-left-test.true in
    let added : c.push.new.self.items ≡ old ++ (48 + v / 2 ^ (k - 1) % 2) ∷ [] = c.in_ok-push.ensures.items ∙ ap (λ u. old ++ (48 + v / u % 2) ∷ []) (small_power (k - 1) (omega arith)) in
    record {
      pushed = ap (λ xs. xs ++ binary (k - 1) v) added ∙ (append_assoc old ((48 + v / 2 ^ (k - 1) % 2) ∷ []) (binary (k - 1) v) ∙ (ap (λ xs. old ++ xs) (sym e) ∙ c.loop-left.invariant.pushed));
      small = omega arith;
    }
