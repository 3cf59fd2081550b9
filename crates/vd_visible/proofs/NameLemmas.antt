-- Names that are texts.
use Rattle.std.proofs.Common.{◌≡◌, ℕ, Bool, true, false, List, [], refl, sym, ap}
use Rattle.std.specs.Bool.{if◌then◌else◌}
use Rattle.std.specs.Str.{IsUtf8, is_utf8}
use Rattle.std.proofs.lemmas.Str.{IsUtf8-from_is_utf8, is_utf8-from_IsUtf8}

-- a text names what is given
pub named_by_text : (name : List ℕ) (given : List ℕ) → IsUtf8 name → given ≡ (if is_utf8 name then given else [])
named_by_text name given is = sym (ap (λ b. if b then given else []) (is_utf8-from_IsUtf8 name is))

-- other bytes name nothing
pub nothing_named : (name : List ℕ) (given : List ℕ) → ¬ (IsUtf8 name) → [] ≡ (if is_utf8 name then given else [])
nothing_named name given none = go (is_utf8 name) (λ e. none (IsUtf8-from_is_utf8 name e))
  where
    go : (b : Bool) → (b ≡ true → ⊥) → [] ≡ (if b then given else [])
    go true h = absurd (h refl)
    go false h = refl

pub ruleset names = (named_by_text, nothing_named)
