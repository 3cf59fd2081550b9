-- What the functions of the support package for `to_string` give: bare characters, with the bounds 1 to n.
use Rattle.std.specs.Prelude.{List, [], ◌∷◌, map, codes}
use Rattle.vd_operators.specs.declared.op.Op.TheVariants.{Unary}
use Rattle.vd_operators.specs.declared.op.UnaryOp.TheVariants.{Text}
use Rattle.vd_operators.specs.declared.texts.TextOperator.TheVariants.{LogicText, LogicsText}
use Rattle.vd_operators.specs.Support.{characters}
use Rattle.vd_support_facts.specs.TextBodies.{vd_str, vd_strv}
use Rattle.vd_support_facts.specs.Calls.{Agree, Case, gives, for_each, logics, string, upto, downto, nothing_from_zero, nothing_at_the_least}

abbrev pub of_values : List Case
of_values = for_each characters (map (λ c. string (upto 1 1) (c ∷ [])) (codes "UX01ZWLH-"))

abbrev pub of_vectors : List Case
of_vectors =
    gives (logics nothing_from_zero [] ∷ []) (string (upto 1 0) [])
    ∷ gives (logics nothing_at_the_least [] ∷ []) (string (upto 1 0) [])
    ∷ gives (logics (downto 0 0) (codes "Z") ∷ []) (string (upto 1 1) (codes "Z"))
    ∷ gives (logics (downto 2 0) (codes "0-H") ∷ []) (string (upto 1 3) (codes "0-H"))
    ∷ gives (logics (upto 5 10) (codes "UX1WLH") ∷ []) (string (upto 1 6) (codes "UX1WLH")) ∷ []

pub record TextFacts : Type 0 where
  pub values : Agree (vd_str ∷ []) (Unary (Text LogicText)) of_values
  pub vectors : Agree (vd_str ∷ vd_strv ∷ []) (Unary (Text LogicsText)) of_vectors
