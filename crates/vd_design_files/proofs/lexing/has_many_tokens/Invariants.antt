use Rattle.std.proofs.Common.{◌≡◌, ◌+◌, take}
use Rattle.vd_design_files.specs.Files.{token_count}
use Rattle.vd_design_files.proofs.lexing.has_many_tokens.Given as goal

abbrev pub invariant-loop-tokens : goal.invariant-loop-tokens
invariant-loop-tokens l = l.left + token_count (take l.tokens-index l.lists) ≡ 2000000
