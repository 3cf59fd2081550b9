-- The numbers of the limits that the code and the definitions of what is refused go by.
use Rattle.std.specs.Prelude.{◌≡◌}
use Rattle.vd_first_lex.specs.declared.tokens.TheConstants.{TOKENS_LIMIT, NESTING_LIMIT, NESTING93_LIMIT}
use Rattle.vd_first_tracing.specs.declared.printing.TheConstants.{OUTPUT_LIMIT}

pub record AreTheLimits : Type 0 where
  pub tokens : TOKENS_LIMIT ≡ 2000000
  pub nesting : NESTING_LIMIT ≡ 200
  pub nesting93 : NESTING93_LIMIT ≡ 2000
  pub output : OUTPUT_LIMIT ≡ 67108864
