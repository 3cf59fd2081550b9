-- Symbols that a reader still waits for.
use Rattle.std.specs.Prelude.{ℕ, List, map, refl}
use Rattle.std.specs.Coded.{Coded, code_by, coded×, coded_ℕ}
use Rattle.vd_gram.specs.declared.stack.Pending.{Pending}

abbrev pub coded_pending : Coded Pending
coded_pending =
    code_by (ℕ × ℕ) (coded× coded_ℕ coded_ℕ) (λ q. (q.symbol, q.depth)) (λ t. record { symbol = t.0; depth = t.1 }) (λ _. refl)

-- symbols that all stand at one depth
abbrev pub at_depth : ℕ → List ℕ → List Pending
at_depth depth symbols = map (λ symbol. record { symbol = symbol; depth = depth }) symbols

abbrev pub symbols_of : List Pending → List ℕ
symbols_of pending = map (λ q. q.symbol) pending
