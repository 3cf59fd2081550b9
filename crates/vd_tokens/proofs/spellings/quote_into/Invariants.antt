use Rattle.std.proofs.Common.{◌≡◌, ◌++◌, ◌∷◌, drop}
use Rattle.vd_tokens.specs.Spellings.{doubled}
use Rattle.vd_tokens.proofs.spellings.quote_into.Given as goal

-- with the bytes that are left put in, the text is what it is to become
abbrev pub invariant-loop-b : goal.invariant-loop-b
invariant-loop-b l = l.out.items ++ doubled (drop l.b-index l.text) ≡ l.fn.out.items ++ 34 ∷ doubled l.text
