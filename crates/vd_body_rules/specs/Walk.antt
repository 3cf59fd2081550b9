-- Bodies in the order of the text: the texts of functions go down and along, and behind most nodes those in it are forgotten.
use Rattle.std.specs.Prelude.{List, [], length, take, ℕ, ◌++◌, ◌∷◌}
use Rattle.vd_body_rules.specs.Texts.{known_texts, texted}
use Rattle.vd_body_rules.specs.declared.declaring.Declares.{Declares}
use Rattle.vd_body_rules.specs.declared.walk.Kept.{Kept}
use Rattle.vd_forest.specs.Forest.{Forest}
use Rattle.vd_walks.specs.Least.{least_of, lesser}
use Rattle.vd_meaning.specs.Meanings.{made}
use Rattle.vd_meaning.specs.Names.{number_or}
use Rattle.vd_resolved.specs.declared.node.Resolved.{Resolved}
use Rattle.vd_value_rules.specs.Bodies.{body_broken}
use Rattle.vd_value_rules.specs.Declaring.{declaring}
use Rattle.vd_value_rules.specs.Designs.{Design}
use Rattle.vd_value_rules.specs.Knowledge.{meaning_at, nothing_known}
use Rattle.vd_value_rules.specs.Standings.{State, beginning}
use Rattle.vd_walks.specs.Walking.{Inside, Walker}
use Rattle.vd_body_rules.specs.declared.declaring.Declares.TheVariants as declares

-- where these texts of functions are known
abbrev pub knowing : (ℕ → Forest Resolved) → State
knowing functions = record beginning { known = record nothing_known { functions = functions } }

-- what is left of the texts behind a node in front of which there were so many
abbrev pub texts_left : Declares → Design → Resolved → Forest Resolved → ℕ → List (ℕ × Forest Resolved) → List (ℕ × Forest Resolved)
texts_left declares.Inside d n parts count xs = xs
texts_left declares.Function d n parts count xs = xs ++ (number_or (made n (meaning_at d 1 parts)), parts) ∷ []
texts_left declares.Nothing d n parts count xs = take count xs

abbrev pub bodies_walker : {G D : Type 0} → Design → Walker Resolved G (List (ℕ × Forest Resolved)) D Kept
bodies_walker d = record {
  enter = λ n text place parts texts table.
      Inside texts table (record { count = length texts; refused = least_of (body_broken n.form d (knowing (known_texts texts)) n place parts) });
  leave = λ kept n text place parts inner. record inner {
    at = texts_left (texted (declaring n.form)) d n parts kept.count inner.at;
    first = lesser kept.refused inner.first;
  };
}
