-- Literals in quotation marks, by the type that they have.
use Rattle.std.proofs.Common.{◌≡◌, List, None, Option, Some, ap, false, subst, sym, ℕ}
use Rattle.vd_composites.specs.Composites.{Value}
use Rattle.vd_composites.specs.Stops.{◌>>=◌}
use Rattle.vd_environments.specs.Environments.{Env, Indicated}
use Rattle.vd_environments.specs.Got.{Got, is_got}
use Rattle.vd_meaning.specs.Literals.{string}
use Rattle.vd_meaning.specs.Names.{number_or}
use Rattle.vd_meaning.specs.Operators.{marked}
use Rattle.vd_value_rules.specs.Knowledge.{indicated_of}
use Rattle.vd_values.specs.declared.scalar.Scalar.{Scalar}

module _ (text : List ℕ) (e : Env) where
  abbrev pub string_marked : Option ℕ → Got (Value Scalar)
  string_marked mark = marked mark e >>= λ s. string s (e.denotes (number_or mark)).make text

  pub string_by : (mark : Option ℕ) (m : ℕ) (i : Indicated) (P : Got (Value Scalar) → Type 0) → mark ≡ Some m → i ≡ indicated_of (e.denotes m)
      → P (string i.subtype i.make text) → P (string_marked mark)
  string_by mark m i P is same here = subst (λ q. P (string_marked q)) (sym is) (subst (λ (j : Indicated). P (string j.subtype j.make text)) same here)

  -- without a type there is none
  pub no_string : (mark : Option ℕ) → mark ≡ None → is_got (string_marked mark) ≡ false
  no_string mark is = ap (λ q. is_got (string_marked q)) is
