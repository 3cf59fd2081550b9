-- Type definitions by their forms. No name has a dash, so that a caller can name each in `#[tactic(auto, using(..))]`.
use Rattle.std.proofs.Common.{◌≡◌, List, ap, false, sym, true, ℕ, ◌∙◌}
use Rattle.vd_bytes.specs.declared.places.Place.{Place}
use Rattle.vd_forest.specs.Forest.{Forest, more}
use Rattle.vd_forms.specs.declared.form.Form.{Form}
use Rattle.vd_meaning.specs.Declarations.{record_type}
use Rattle.vd_resolved.specs.declared.node.Resolved.{Resolved}
use Rattle.vd_value_rules.specs.Designs.{Design}
use Rattle.vd_value_rules.specs.Knowledge.{Known, TwoIndicated, fields_defined, type_defined, type_of_form}

abbrev pub defined_twice : Design → Known → Forest Resolved → TwoIndicated
defined_twice d k f = record { own = type_defined d false k f; choosing = type_defined d true k f }

abbrev pub of_form_twice : Design → Known → Form → Forest Resolved → TwoIndicated
of_form_twice d k g parts = record { own = type_of_form g d false k parts; choosing = type_of_form g d true k parts }

abbrev pub record_twice : Design → Known → Forest Resolved → TwoIndicated
record_twice d k elements = record { own = record_type (fields_defined d false k elements); choosing = record_type (fields_defined d true k elements) }

pub type_first : (d : Design) (k : Known) (f : Forest Resolved) (n : Resolved) (text : List ℕ) (place : Place) (parts next : Forest Resolved) (g : Form)
    → f ≡ more n text place parts next → n.form ≡ g → of_form_twice d k g parts ≡ defined_twice d k f
type_first d k f n text place parts next g is form = sym (ap (defined_twice d k) is ∙ ap (λ h. of_form_twice d k h parts) form)
