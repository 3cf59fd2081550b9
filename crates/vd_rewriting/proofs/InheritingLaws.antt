-- Laws of passes with states. No name has a dash, so that a caller can name each in `#[tactic(auto, using(..))]`.
use Rattle.std.proofs.Common.{◌≡◌, List, [], refl, ap, ◌∙◌}
use Rattle.vd_forest.specs.Forest.{Forest, nothing, more}
use Rattle.vd_rewriting.specs.Folding.{Meaning, folded}
use Rattle.vd_rewriting.specs.Inheriting.{Rules, rewritten_under, rules_of, same_rules, RelatesNodes, RelatesMeanings}
use Rattle.vd_rewriting.specs.Rewriting.{Pass, rewritten, same_pass}
use Rattle.vd_rewriting.proofs.RewritingLaws.{rewritten_same}

-- a pass at whose nodes old and new meanings are related relates those of each forest
pub relates_meanings : {F G S M N : Type 0} (before : Meaning F M) (after : Meaning G N) (related : S → List M → List N → Type 0) (rules : Rules F G S)
    → ((state : S) → related state [] []) → RelatesNodes before after related rules → RelatesMeanings before after related rules
relates_meanings before after related rules none relates state nothing = none state
relates_meanings before after related rules none relates state (more form text place parts next) =
    relates state form text place parts
    (rewritten_under rules (rules.down state form text place parts) parts)
    (rewritten_under rules (rules.along state form text place parts) next)
    (folded before next)
    (relates_meanings before after related rules none relates (rules.down state form text place parts) parts)
    (relates_meanings before after related rules none relates (rules.along state form text place parts) next)

-- a pass that knows no state
pub rewritten_without : {F G : Type 0} (pass : Pass F G) (state : Unit {0}) (f : Forest F) → rewritten_under (rules_of pass) state f ≡ rewritten pass f
rewritten_without pass state nothing = refl
rewritten_without pass state (more form text place parts next) =
    ap (λ a. pass form text place parts a (rewritten_under (rules_of pass) state next)) (rewritten_without pass state parts)
    ∙ ap (pass form text place parts (rewritten pass parts)) (rewritten_without pass state next)

pub same_without : {F : Type 0} (state : Unit {0}) (f : Forest F) → rewritten_under same_rules state f ≡ f
same_without state f = rewritten_without same_pass state f ∙ rewritten_same f
