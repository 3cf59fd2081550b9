-- What is asked of ports with views. No name has a dash, so that a caller can name each in `#[tactic(auto, using(..))]`.
use Rattle.std.proofs.Common.{◌≡◌, ◌&&◌, Bool, true, false, [], Option, None, refl, sym, ap, ◌∙◌}
use Rattle.std.specs.List.{filter}
use Rattle.vd_bytes.specs.declared.answers.Refused.{Refused}
use Rattle.vd_bytes.specs.declared.places.Place.{Place}
use Rattle.vd_forest.specs.Forest.{Forest}
use Rattle.vd_forms.specs.declared.form.Form.{Form}
use Rattle.vd_walks.specs.Least.{least}
use Rattle.vd_name_rules.specs.Judges.{view_judge}
use Rattle.vd_port_modes.specs.Source.{Source, design_in}
use Rattle.vd_resolved.specs.Trees.{ResolvedTree}
use Rattle.vd_resolved.specs.declared.node.Resolved.{Resolved}
use Rattle.vd_value_rules.proofs.WalkLemmas.{firsts_of_names_alone, least_without_state}
use Rattle.vd_value_rules.specs.Groups.{firsts_by, is_of_rules, judge_by, view_ports}
use Rattle.vd_value_rules.specs.declared.firsts.Firsts.{Firsts}
use Rattle.vd_trees.specs.declared.revision.Revision.{Revision}
use Rattle.vd_value_rules.specs.Choices.{place_at}
use Rattle.vd_value_rules.specs.Designs.{Design, design_of}
use Rattle.vd_value_rules.specs.Judging.{refused_if}
use Rattle.vd_value_rules.specs.Knowledge.{meaning_at}
use Rattle.vd_value_rules.specs.Names.{are_other_types, broken_view_port, subtype_mark, view_type}
use Rattle.vd_value_rules.specs.Standings.{beginning}
use Rattle.vd_forms.specs.declared.form.Form.TheVariants as form

of_names_alone : (b : Bool) (place : Place) → filter is_of_rules (refused_if b place 308) ≡ []
of_names_alone true place = refl
of_names_alone false place = refl

no_rules : (f : Form) (d : Design) (parts : Forest Resolved) → filter is_of_rules (broken_view_port f d parts) ≡ []
no_rules form.ViewPort d parts =
    of_names_alone ((meaning_at d 4 parts).is_present && are_other_types (subtype_mark d parts) (view_type d parts)) (place_at 2 parts)
no_rules _ d parts = refl

pub views_are_found : (r : Revision) (tree : ResolvedTree) (found : Option Refused) → found ≡ least (view_judge (design_of r tree)) tt tree.units
    → record { of_names = found; of_rules = None } ≡ firsts_by view_ports r tree
views_are_found r tree found is =
    let both : Option Refused → Firsts = λ a. record { of_names = a; of_rules = None } in
    ap both
    (is ∙ sym (least_without_state (judge_by view_ports (design_of r tree)) (view_judge (design_of r tree)) (λ s t n text place parts. refl) beginning tt tree.units))
    ∙ sym (firsts_of_names_alone view_ports r tree (λ d s n text place parts. no_rules n.form d parts))

-- step by step, as it is computed
pub views_from : (r : Revision) (tree : ResolvedTree) (s : Source) (units : Forest Resolved) (found : Option Refused)
    → s ≡ record { revision = r; tree = tree } → units ≡ tree.units → found ≡ least (view_judge (design_in s)) tt units
    → record { of_names = found; of_rules = None } ≡ firsts_by view_ports r tree
views_from r tree s units found is_source is_units is =
    views_are_found r tree found
    (is ∙ ap (λ z. least (view_judge (design_in z)) tt units) is_source ∙ ap (least (view_judge (design_of r tree)) tt) is_units)
