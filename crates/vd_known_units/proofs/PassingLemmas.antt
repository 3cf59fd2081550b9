-- What is known at the end of the parts of a node, and behind it.
use Rattle.std.proofs.Common.{◌≡◌, ◌∷◌, List, refl}
use Rattle.vd_walks.specs.Positions.{Along, Down, Position, Tree, passed, tree_with}
use Rattle.vd_forest.specs.Forest.{Forest, more, nothing}
use Rattle.vd_forms.specs.declared.form.Form.{Form}
use Rattle.vd_forms.specs.declared.form.Form.TheVariants as form
use Rattle.vd_resolved.specs.declared.node.Resolved.{Resolved}
use Rattle.vd_value_rules.specs.Declaring.{declaring, unit_declared_by, units_declared}
use Rattle.vd_value_rules.specs.Designs.{Design}
use Rattle.vd_value_rules.specs.Groups.{Breaking}
use Rattle.vd_value_rules.specs.Knowledge.{Known}
use Rattle.vd_value_rules.specs.Standings.{known_down}
use Rattle.vd_known_designs.specs.Designs.{IsReady, Knows}
use Rattle.vd_known_designs.specs.declared.design.KnownDesign.{KnownDesign}
use Rattle.vd_known_units.specs.Passing.{declared_inside, known_by, seen_outside}

-- ---- what is known at the end of trees

pub behind_known : (asked : Breaking) (d : Design) (p : Position Resolved) (f : Forest Resolved) → known_by asked d (passed p f) ≡ units_declared d f (known_by asked d p)
behind_known asked d p nothing = refl
behind_known asked d p (more n text place parts next) = behind_known asked d (Along (tree_with n text place parts) ∷ p) next

pub end_known : (asked : Breaking) (d : Design) (p : Position Resolved) (x : Tree Resolved) → known_by asked d (passed (Down x ∷ p) x.parts) ≡ declared_inside d x.form x.parts (known_by asked d p)
end_known asked d p x = behind_known asked d (Down x ∷ p) x.parts

-- ---- the body of a function is seen from outside behind it, all else as it is

pub seen_otherwise : (f : Form) (d : Design) (n : Resolved) (parts : Forest Resolved) (k : Known) → ¬ (f ≡ form.FunctionBody)
    → seen_outside f d n parts k ≡ units_declared d parts (known_down f d n parts k)
seen_otherwise form.FunctionBody d n parts k other = absurd (other refl)
seen_otherwise _ d n parts k other = refl

pub seen_same : (f : Form) (d : Design) (n : Resolved) (parts : Forest Resolved) (k : Known)
    → unit_declared_by (declaring f) d n parts (seen_outside f d n parts k) k ≡ unit_declared_by (declaring f) d n parts (units_declared d parts k) k
seen_same form.ProcessStatement d n parts k = refl
seen_same form.FunctionBody d n parts k = refl
seen_same form.ForLoop d n parts k = refl
seen_same form.ForGenerate d n parts k = refl
seen_same _ d n parts k = refl

-- ---- calls after which all is known that was

pub ready_kept : (x y : KnownDesign) → IsReady x → ((d : Design) (ks : List Known) → Knows d x ks → Knows d y ks) → IsReady y
ready_kept x y ready kept =
    record { design = ready.design; now = ready.now; round = ready.round; knows = kept ready.design (ready.now ∷ ready.round) ready.knows }
