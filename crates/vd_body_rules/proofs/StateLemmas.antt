-- What declarations make known of the texts of functions, and that they make known nothing else of them. No name has a dash, so that a caller
-- can name each in `#[tactic(auto, using(..))]`.
use Rattle.std.proofs.Common.{◌≡◌, Bool, Err, List, Ok, [], ap, false, refl, sym, true, ℕ, ◌∙◌, ◌∷◌}
use Rattle.vd_body_rules.proofs.TextLemmas.{behind_both}
use Rattle.vd_body_rules.specs.Texts.{behind, texted, texts_by, texts_declared}
use Rattle.vd_composites.specs.Composites.{Value}
use Rattle.vd_environments.specs.Environments.{Static, with_entry}
use Rattle.vd_environments.specs.Got.{Got}
use Rattle.vd_forest.specs.Forest.{Forest, more, nothing}
use Rattle.vd_forms.specs.declared.form.Form.{Form}
use Rattle.vd_meaning.specs.Meanings.{made}
use Rattle.vd_meaning.specs.Names.{number_or}
use Rattle.vd_resolved.specs.declared.node.Resolved.{Resolved}
use Rattle.vd_value_rules.specs.Declaring.{AFunction, AGenericFunction, APackage, Constants, Declaring, GenericConstants, InOrder, SomeParameters, SomePorts, SomeSignals, Variables, ViewPorts, declaring, parameters_known, unit_declared_by, units_declared, with_package}
use Rattle.vd_value_rules.specs.Designs.{Design}
use Rattle.vd_value_rules.specs.Knowledge.{Known, TwoIndicated, constant_of, constants_of, indicated_twice, later_objects, meaning_at, parts_at, signals_known, view_port_indicated}
use Rattle.vd_value_rules.specs.Standings.{known_down}
use Rattle.vd_values.specs.declared.scalar.Scalar.{Scalar}
use Rattle.vd_forms.specs.declared.form.Form.TheVariants as form

-- ---- objects

later_keep : (ns : List ℕ) (i : TwoIndicated) (s : Static) (k : Known) → (later_objects ns i s k).functions ≡ k.functions
later_keep [] i s k = refl
later_keep (n ∷ ns) i s k = later_keep ns i s _

signals_keep : (ns : List ℕ) (i : TwoIndicated) (k : Known) → (signals_known ns i k).functions ≡ k.functions
signals_keep [] i k = refl
signals_keep (n ∷ ns) i k = signals_keep ns i _

constant_keeps : (n : ℕ) (i : TwoIndicated) (s : Static) (v : Got (Value Scalar)) (k : Known) → (constant_of n i s v k).functions ≡ k.functions
constant_keeps n i s (Ok v) k = refl
constant_keeps n i s (Err halt) k = refl

constants_keep : (ns : List ℕ) (i : TwoIndicated) (s : Static) (v : Got (Value Scalar)) (k : Known) → (constants_of ns i s v k).functions ≡ k.functions
constants_keep [] i s v k = refl
constants_keep (n ∷ ns) i s v k = constants_keep ns i s v (constant_of n i s v k) ∙ constant_keeps n i s v k

parameters_keep : (d : Design) (f : Forest Resolved) (k : Known) → (parameters_known d f k).functions ≡ k.functions
parameters_keep d nothing k = refl
parameters_keep d (more n text place parts next) k =
    parameters_keep d next _ ∙ later_keep (meaning_at d 1 parts).numbers (indicated_twice d k (parts_at 3 parts)) _ k

package_keeps : (b : Bool) (n : ℕ) (parts : Forest Resolved) (k : Known) → (with_package b n parts k).functions ≡ k.functions
package_keeps true n parts k = refl
package_keeps false n parts k = refl

-- ---- a node, where it is known what its parts declare

node_declares : (kind : Declaring) (d : Design) (n : Resolved) (parts : Forest Resolved) (inner k : Known) (es : List (ℕ × Forest Resolved))
    → inner.functions ≡ behind k.functions es
    → (unit_declared_by kind d n parts inner k).functions ≡ behind k.functions (texts_by (texted kind) d n parts es)
node_declares InOrder d n parts inner k es is = is
node_declares APackage d n parts inner k es is = package_keeps (meaning_at d 1 parts).is_present (number_or (made n (meaning_at d 0 parts))) parts inner ∙ is
node_declares Constants d n parts inner k es is = constants_keep (meaning_at d 0 parts).numbers (indicated_twice d k (parts_at 1 parts)) _ _ k
node_declares Variables d n parts inner k es is = later_keep (meaning_at d 0 parts).numbers (indicated_twice d k (parts_at 1 parts)) _ k
node_declares SomeSignals d n parts inner k es is = signals_keep (meaning_at d 0 parts).numbers (indicated_twice d k (parts_at 1 parts)) k
node_declares SomePorts d n parts inner k es is = signals_keep (meaning_at d 1 parts).numbers (indicated_twice d k (parts_at 3 parts)) k
node_declares ViewPorts d n parts inner k es is = signals_keep (meaning_at d 1 parts).numbers (view_port_indicated d k parts) k
node_declares GenericConstants d n parts inner k es is = later_keep (meaning_at d 1 parts).numbers (indicated_twice d k (parts_at 3 parts)) _ k
node_declares SomeParameters d n parts inner k es is = later_keep (meaning_at d 1 parts).numbers (indicated_twice d k (parts_at 3 parts)) _ k
node_declares AFunction d n parts inner k es is =
    let f = number_or (made n (meaning_at d 1 parts)) in
    ap (with_entry f parts) is ∙ sym (behind_both k.functions es ((f, parts) ∷ []))
node_declares AGenericFunction d n parts inner k es is = parameters_keep d (parts_at 2 parts) k
node_declares _ d n parts inner k es is = refl

-- ---- trees

pub trees_declare : (d : Design) (f : Forest Resolved) (k : Known) → (units_declared d f k).functions ≡ behind k.functions (texts_declared d f)
trees_declare d nothing k = refl
trees_declare d (more n text place parts next) k =
    let here = texts_by (texted (declaring n.form)) d n parts (texts_declared d parts) in
    let known = unit_declared_by (declaring n.form) d n parts (units_declared d parts k) k in
    trees_declare d next known
    ∙ ap (λ g. behind g (texts_declared d next)) (node_declares (declaring n.form) d n parts (units_declared d parts k) k (texts_declared d parts) (trees_declare d parts k))
    ∙ sym (behind_both k.functions here (texts_declared d next))

pub along_declares : (d : Design) (n : Resolved) (parts : Forest Resolved) (k : Known)
    → (unit_declared_by (declaring n.form) d n parts (units_declared d parts k) k).functions
    ≡ behind k.functions (texts_by (texted (declaring n.form)) d n parts (texts_declared d parts))
along_declares d n parts k =
    node_declares (declaring n.form) d n parts (units_declared d parts k) k (texts_declared d parts) (trees_declare d parts k)

pub down_keeps : (f : Form) (d : Design) (n : Resolved) (parts : Forest Resolved) (k : Known) → (known_down f d n parts k).functions ≡ k.functions
down_keeps form.ProcessStatement d n parts k = refl
down_keeps form.FunctionBody d n parts k = refl
down_keeps form.ForLoop d n parts k = refl
down_keeps form.ForGenerate d n parts k = refl
down_keeps _ d n parts k = refl
