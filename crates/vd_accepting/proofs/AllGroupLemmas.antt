-- The groups that are asked apart and those of one walk are all groups.
use Rattle.std.proofs.Common.{◌≡◌, Option, ap, ap₂, sym, ◌∙◌}
use Rattle.vd_bytes.specs.declared.answers.Refused.{Refused}
use Rattle.vd_walks.proofs.OrderLaws.{lesser_brackets}
use Rattle.vd_walks.specs.Least.{lesser}
use Rattle.vd_resolved.specs.Trees.{ResolvedTree}
use Rattle.vd_value_rules.proofs.FirstLemmas.{lesser_either}
use Rattle.vd_value_rules.proofs.GroupLemmas.{firsts_of_either, groups_are_all}
use Rattle.vd_value_rules.specs.Groups.{aggregates, all_firsts, assignments, bodies, bounds, choices, either_group, firsts_by, firsts_of, instances, joined_firsts, names_in_functions, names_used, operators, static_expressions, types, view_ports}
use Rattle.vd_value_rules.specs.declared.firsts.Firsts.{Firsts}
use Rattle.vd_trees.specs.declared.revision.Revision.{Revision}
use Rattle.vd_value_rules.specs.Rules.{broken_in}
use Rattle.vd_accepting.specs.Walking.{asked}

last_four : (i t p o : Option Refused) → lesser (lesser i t) (lesser p o) ≡ lesser i (lesser p (lesser o t))
last_four i t p o =
    lesser_brackets i t (lesser p o) ∙ ap (lesser i) (lesser_either t (lesser p o) ∙ lesser_brackets p o t)

bodies_first : (i t b p o : Option Refused) → lesser (lesser i t) (lesser b (lesser p o)) ≡ lesser b (lesser i (lesser p (lesser o t)))
bodies_first i t b p o =
    lesser_either (lesser i t) (lesser b (lesser p o)) ∙ lesser_brackets b (lesser p o) (lesser i t)
    ∙ ap (lesser b) (lesser_either (lesser p o) (lesser i t) ∙ last_four i t p o)

-- six groups of one walk and three others, in the order of all groups
nine : (c a s w i t b p o : Option Refused)
    → lesser (lesser c (lesser a (lesser s (lesser w (lesser i t))))) (lesser b (lesser p o))
    ≡ lesser c (lesser a (lesser s (lesser w (lesser b (lesser i (lesser p (lesser o t)))))))
nine c a s w i t b p o =
    let rest : Option Refused = lesser b (lesser p o) in
    lesser_brackets c (lesser a (lesser s (lesser w (lesser i t)))) rest
    ∙ ap (lesser c) (lesser_brackets a (lesser s (lesser w (lesser i t))) rest
    ∙ ap (lesser a) (lesser_brackets s (lesser w (lesser i t)) rest
    ∙ ap (lesser s) (lesser_brackets w (lesser i t) rest ∙ ap (lesser w) (bodies_first i t b p o))))

nine_firsts : (c a s w i t b p o : Firsts)
    → joined_firsts (joined_firsts c (joined_firsts a (joined_firsts s (joined_firsts w (joined_firsts i t))))) (joined_firsts b (joined_firsts p o))
    ≡ joined_firsts c (joined_firsts a (joined_firsts s (joined_firsts w (joined_firsts b (joined_firsts i (joined_firsts p (joined_firsts o t)))))))
nine_firsts c a s w i t b p o =
    let both : Option Refused → Option Refused → Firsts = λ x y. record { of_names = x; of_rules = y } in
    ap₂ both (nine c.of_names a.of_names s.of_names w.of_names i.of_names t.of_names b.of_names p.of_names o.of_names)
    (nine c.of_rules a.of_rules s.of_rules w.of_rules i.of_rules t.of_rules b.of_rules p.of_rules o.of_rules)

-- what the walk asks is six groups
six : (r : Revision) (tree : ResolvedTree) → firsts_by asked r tree
    ≡ joined_firsts (firsts_by choices r tree) (joined_firsts (firsts_by aggregates r tree) (joined_firsts (firsts_by static_expressions r tree)
    (joined_firsts (firsts_by bounds r tree) (joined_firsts (firsts_by instances r tree) (firsts_by types r tree)))))
six r tree =
    firsts_of_either choices (either_group aggregates (either_group static_expressions (either_group bounds (either_group instances types)))) r tree
    ∙ ap (joined_firsts (firsts_by choices r tree))
    (firsts_of_either aggregates (either_group static_expressions (either_group bounds (either_group instances types))) r tree
    ∙ ap (joined_firsts (firsts_by aggregates r tree))
    (firsts_of_either static_expressions (either_group bounds (either_group instances types)) r tree
    ∙ ap (joined_firsts (firsts_by static_expressions r tree))
    (firsts_of_either bounds (either_group instances types) r tree
    ∙ ap (joined_firsts (firsts_by bounds r tree)) (firsts_of_either instances types r tree))))

-- the order in which the groups are put together
all_together : (r : Revision) (tree : ResolvedTree)
    → joined_firsts (firsts_by names_used r tree) (joined_firsts (firsts_by names_in_functions r tree) (joined_firsts (firsts_by assignments r tree)
    (joined_firsts (firsts_by asked r tree) (joined_firsts (firsts_by bodies r tree) (joined_firsts (firsts_by view_ports r tree) (firsts_by operators r tree))))))
    ≡ firsts_of (broken_in r tree)
all_together r tree =
    ap (λ x. joined_firsts (firsts_by names_used r tree) (joined_firsts (firsts_by names_in_functions r tree) (joined_firsts (firsts_by assignments r tree) x)))
    (ap (λ x. joined_firsts x (joined_firsts (firsts_by bodies r tree) (joined_firsts (firsts_by view_ports r tree) (firsts_by operators r tree)))) (six r tree)
    ∙ nine_firsts (firsts_by choices r tree) (firsts_by aggregates r tree) (firsts_by static_expressions r tree) (firsts_by bounds r tree)
    (firsts_by instances r tree) (firsts_by types r tree) (firsts_by bodies r tree) (firsts_by view_ports r tree) (firsts_by operators r tree))
    ∙ groups_are_all r tree

-- the first refusals of each are those of all
pub groups_joined : (r : Revision) (tree : ResolvedTree) (n f a v b p o : Firsts)
    → n ≡ firsts_by names_used r tree → f ≡ firsts_by names_in_functions r tree → a ≡ firsts_by assignments r tree → v ≡ firsts_by asked r tree
    → b ≡ firsts_by bodies r tree → p ≡ firsts_by view_ports r tree → o ≡ firsts_by operators r tree
    → joined_firsts n (joined_firsts f (joined_firsts a (joined_firsts v (joined_firsts b (joined_firsts p o))))) ≡ firsts_of (broken_in r tree)
groups_joined r tree n f a v b p o is_n is_f is_a is_v is_b is_p is_o =
    ap₂ joined_firsts is_n (ap₂ joined_firsts is_f (ap₂ joined_firsts is_a (ap₂ joined_firsts is_v (ap₂ joined_firsts is_b (ap₂ joined_firsts is_p is_o)))))
    ∙ all_together r tree
