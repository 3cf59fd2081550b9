-- What names break in the states of the rules, they break in the smaller ones.
use Rattle.std.proofs.Common.{◌≡◌, ◌++◌, suc, Bool, true, false, not, Option, refl, sym, ap, ap₂, ◌∙◌}
use Rattle.std.specs.List.{filter}
use Rattle.vd_bytes.specs.declared.answers.Refused.{Refused}
use Rattle.vd_bytes.specs.declared.places.Place.{Place}
use Rattle.vd_forest.specs.Forest.{Forest}
use Rattle.vd_forms.specs.declared.form.Form.{Form}
use Rattle.vd_walks.specs.Least.{least}
use Rattle.vd_name_rules.proofs.RowLemmas.{AreAlike, parts_alike, row0}
use Rattle.vd_name_rules.specs.Coming.{all_of, coming_by, sort_of}
use Rattle.vd_name_rules.specs.Judges.{name_judge, used, used_at}
use Rattle.vd_name_rules.specs.Rows.{row_of}
use Rattle.vd_name_rules.specs.declared.coming.Coming.{Coming}
use Rattle.vd_name_rules.specs.declared.coming.Sort.TheVariants.{Read}
use Rattle.vd_port_modes.specs.Source.{Source, design_in}
use Rattle.vd_resolved.specs.Trees.{ResolvedTree}
use Rattle.vd_resolved.specs.declared.node.Resolved.{Resolved}
use Rattle.vd_value_rules.proofs.WalkLemmas.{filtered, firsts_are_least, least_alike}
use Rattle.vd_value_rules.specs.Groups.{firsts_by, is_of_rules, judge_by, name_used, names_used}
use Rattle.vd_value_rules.specs.declared.firsts.Firsts.{Firsts}
use Rattle.vd_trees.specs.declared.revision.Revision.{Revision}
use Rattle.vd_value_rules.specs.Designs.{Design, design_of}
use Rattle.vd_value_rules.specs.Judging.{refused_if}
use Rattle.vd_value_rules.specs.Names.{broken_as, may_be_assigned, names_view_port, reads_out}
use Rattle.vd_value_rules.specs.Reaching.{Reached, reached}
use Rattle.vd_value_rules.specs.Rules.{is_of_names}
use Rattle.vd_value_rules.specs.Standings as standings
use Rattle.vd_value_rules.specs.Standings.{Standing, State, beginning, standing}
use Rattle.vd_forms.specs.declared.form.Form.TheVariants as form

abbrev pub kind_asked : Bool → Refused → Bool
kind_asked true = is_of_names
kind_asked false = is_of_rules

names_of_reads : (a b : Bool) (place : Place) → filter is_of_names (refused_if a place 308 ++ refused_if b place 401) ≡ refused_if a place 308
names_of_reads true true place = refl
names_of_reads true false place = refl
names_of_reads false true place = refl
names_of_reads false false place = refl

names_of_targets : (a b : Bool) (place : Place) → filter is_of_names (refused_if a place 308 ++ refused_if b place 402) ≡ refused_if a place 308
names_of_targets true true place = refl
names_of_targets true false place = refl
names_of_targets false true place = refl
names_of_targets false false place = refl

rules_of_reads : (a b : Bool) (place : Place) → filter is_of_rules (refused_if a place 308 ++ refused_if b place 401) ≡ refused_if b place 401
rules_of_reads true true place = refl
rules_of_reads true false place = refl
rules_of_reads false true place = refl
rules_of_reads false false place = refl

rules_of_targets : (a b : Bool) (place : Place) → filter is_of_rules (refused_if a place 308 ++ refused_if b place 402) ≡ refused_if b place 402
rules_of_targets true true place = refl
rules_of_targets true false place = refl
rules_of_targets false true place = refl
rules_of_targets false false place = refl

used_names : (a : Standing) (d : Design) (place : Place) (r : Reached) → filter is_of_names (broken_as a d place r) ≡ used true (sort_of a) d place r
used_names (standings.Evaluated b) d place r = names_of_reads (names_view_port d r) (reads_out d r) place
used_names (standings.Copied b) d place r = names_of_reads (names_view_port d r) (reads_out d r) place
used_names (standings.Passed b) d place r = names_of_reads (names_view_port d r) (reads_out d r) place
used_names (standings.MappedTo ns) d place r = names_of_reads (names_view_port d r) (reads_out d r) place
used_names standings.Associated d place r = refl
used_names standings.Formal d place r = refl
used_names (standings.Assigned true) d place r = names_of_targets (names_view_port d r) (not (may_be_assigned true d r)) place
used_names (standings.Assigned false) d place r = names_of_targets (names_view_port d r) (not (may_be_assigned false d r)) place

used_rules : (a : Standing) (d : Design) (place : Place) (r : Reached) → filter is_of_rules (broken_as a d place r) ≡ used false (sort_of a) d place r
used_rules (standings.Evaluated b) d place r = rules_of_reads (names_view_port d r) (reads_out d r) place
used_rules (standings.Copied b) d place r = rules_of_reads (names_view_port d r) (reads_out d r) place
used_rules (standings.Passed b) d place r = rules_of_reads (names_view_port d r) (reads_out d r) place
used_rules (standings.MappedTo ns) d place r = rules_of_reads (names_view_port d r) (reads_out d r) place
used_rules standings.Associated d place r = refl
used_rules standings.Formal d place r = refl
used_rules (standings.Assigned true) d place r = rules_of_targets (names_view_port d r) (not (may_be_assigned true d r)) place
used_rules (standings.Assigned false) d place r = rules_of_targets (names_view_port d r) (not (may_be_assigned false d r)) place

used_either : (b : Bool) (a : Standing) (d : Design) (place : Place) (r : Reached) → filter (kind_asked b) (broken_as a d place r) ≡ used b (sort_of a) d place r
used_either true a d place r = used_names a d place r
used_either false a d place r = used_rules a d place r

used_here : (f : Form) (b : Bool) (d : Design) (s : State) (c : Coming) (place : Place) (parts : Forest Resolved) → sort_of (standing s) ≡ c.first
    → filter (kind_asked b) (name_used f d s place parts) ≡ used_at f b d c place parts
used_here form.Name b d s c place parts first = used_either b (standing s) d place (reached d parts) ∙ ap (λ x. used b x d place (reached d parts)) first
used_here _ b d s c place parts first = refl

abbrev Alike : State → Coming → Type 0
Alike s c = AreAlike s.coming c

pub names_alike : (b : Bool) (d : Design) (f : Forest Resolved) → least (filtered (kind_asked b) (judge_by names_used d)) beginning f ≡ least (name_judge b d) (all_of Read) f
names_alike b d f =
    least_alike (filtered (kind_asked b) (judge_by names_used d)) (name_judge b d) Alike
    (λ s c n text place parts alike. used_here n.form b d s c place parts (alike 0))
    (λ s c n text place parts alike k. parts_alike n.form d s n parts k ∙ ap (λ own. Rattle.vd_name_rules.proofs.RowLemmas.sort_after k (coming_by (row_of n.form) d own n parts)) (alike 0))
    (λ s c n text place parts alike k. alike (suc k))
    beginning (all_of Read) f row0

pub names_are_found : (r : Revision) (tree : ResolvedTree) (of_names of_rules : Option Refused)
    → of_names ≡ least (name_judge true (design_of r tree)) (all_of Read) tree.units
    → of_rules ≡ least (name_judge false (design_of r tree)) (all_of Read) tree.units
    → record { of_names = of_names; of_rules = of_rules } ≡ firsts_by names_used r tree
names_are_found r tree of_names of_rules names rules =
    let both : Option Refused → Option Refused → Firsts = λ a b. record { of_names = a; of_rules = b } in
    ap₂ both (names ∙ sym (names_alike true (design_of r tree) tree.units)) (rules ∙ sym (names_alike false (design_of r tree) tree.units))
    ∙ sym (firsts_are_least names_used r tree)

-- step by step, as it is computed
pub names_from : (r : Revision) (tree : ResolvedTree) (s : Source) (start : Coming) (units : Forest Resolved) (of_names of_rules : Option Refused)
    → s ≡ record { revision = r; tree = tree } → start ≡ all_of Read → units ≡ tree.units
    → of_names ≡ least (name_judge true (design_in s)) start units
    → of_rules ≡ least (name_judge false (design_in s)) start units
    → record { of_names = of_names; of_rules = of_rules } ≡ firsts_by names_used r tree
names_from r tree s start units of_names of_rules is_source begins is_units names rules =
    names_are_found r tree of_names of_rules (names ∙ same true) (rules ∙ same false)
  where
    same : (b : Bool) → least (name_judge b (design_in s)) start units ≡ least (name_judge b (design_of r tree)) (all_of Read) tree.units
    same b =
        ap (λ z. least (name_judge b (design_in z)) start units) is_source
        ∙ ap₂ (λ c f. least (name_judge b (design_of r tree)) c f) begins is_units
