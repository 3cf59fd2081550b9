-- Instances that are declared, and what is refused of them beside.
use Rattle.std.proofs.Common.{◌≡◌, List, Option, Some, None, option_map, sym, ap, subst, ◌∙◌}
use Rattle.vd_bytes.specs.declared.answers.Refused.{Refused}
use Rattle.vd_declarations.specs.declared.classes.Class.TheVariants as class
use Rattle.vd_declarations.specs.declared.declarations.Declaration.{Declaration}
use Rattle.vd_forest.specs.Forest.{Forest, nothing, more}
use Rattle.vd_forest.specs.Store.{Holds}
use Rattle.vd_walks.specs.Least.{lesser}
use Rattle.vd_resolved.specs.declared.node.Resolved.{Resolved}
use Rattle.vd_name_rows.specs.Designs.{Design, Outcome}
use Rattle.vd_name_rows.specs.Entering.{Entering, declaration_of, entering}
use Rattle.vd_name_entering.specs.Entered.{IsEntered}
use Rattle.vd_name_entering.specs.Made.{IsMade}
use Rattle.vd_name_entering.specs.declared.made.Made.{Made}
use Rattle.vd_naming.specs.Expressions.{resolved}
use Rattle.vd_naming.specs.Endings.{Ended, word_of}
use Rattle.vd_naming.specs.Units.{entering_unit}
use Rattle.vd_naming.specs.Copies.{Copying, number_behind, numbers_of_copies, type_of_copy, with_copies}
use Rattle.vd_naming.specs.Instances.{package_instance, package_declared, function_instance, function_declared, with_instance}
use Rattle.vd_name_instances.specs.Copied.{IsInstance}
use Rattle.vd_name_instances.specs.declared.instances.Instance.{Instance}

-- a declaration with what it takes from that of the package or function
abbrev pub with_taken : Instance → Declaration → Declaration
with_taken i declared = record declared { parameters = i.parameters; generics = i.generics; inside = Some i.inside }

module _ (x : Ended) (c : Copying) (i : Instance) (is : IsInstance i c) where
  taken : (declared : Declaration) → with_taken i declared
      ≡ record declared { parameters = numbers_of_copies c c.generic.parameters; generics = numbers_of_copies c c.generic.generics; inside = Some c.first_region }
  taken declared =
      ap (λ ks. record declared { parameters = ks; generics = i.generics; inside = Some i.inside }) is.parameters
      ∙ ap (λ ks. record declared { parameters = numbers_of_copies c c.generic.parameters; generics = ks; inside = Some i.inside }) is.generics
      ∙ ap (λ r. record declared { parameters = numbers_of_copies c c.generic.parameters; generics = numbers_of_copies c c.generic.generics; inside = Some r }) is.inside

  pub package_made : (declared : Declaration) (copied new : Design) (first : Option Refused) (store : List (Forest Resolved)) (made : Made)
      → declared ≡ with_taken i (declaration_of class.PackageInstance (word_of x) None)
      → copied ≡ with_copies c x.inner.design
      → IsEntered new first (entering_unit declared copied)
      → Holds store made.tree (more (resolved x.form (Some i.number) None) x.text x.place x.inner.tree nothing)
      → made.first ≡ lesser x.inner.first first
      → IsMade store new made (package_declared x c)
  package_made declared copied new first store made built with_all entered held refused =
      let enters : entering_unit declared copied ≡ entering_unit (package_instance x c) (with_copies c x.inner.design) =
      ap (λ e. entering_unit e copied) (built ∙ taken (declaration_of class.PackageInstance (word_of x) None))
      ∙ ap (entering_unit (package_instance x c)) with_all in
      record {
        holds = subst (λ n. Holds store made.tree (more (resolved x.form (Some n) None) x.text x.place x.inner.tree nothing)) is.number held;
        design = entered.design ∙ ap (λ (e : Entering). e.design) enters;
        first = refused ∙ ap (lesser x.inner.first) (entered.first ∙ ap (λ (e : Entering). e.first) enters);
      }

  pub function_made : (declared : Declaration) (copied noted new : Design) (first : Option Refused) (store : List (Forest Resolved)) (made : Made)
      → declared ≡ with_taken i (declaration_of class.Function (word_of x) i.mark)
      → copied ≡ with_copies c x.inner.design
      → noted ≡ with_instance x.outer.is_package i.number copied
      → IsEntered new first (entering x.outer.region declared noted)
      → Holds store made.tree (more (resolved x.form (Some i.number) None) x.text x.place x.inner.tree nothing)
      → made.first ≡ lesser x.inner.first first
      → IsMade store new made (function_declared x c)
  function_made declared copied noted new first store made built with_all with_notes entered held refused =
      let noted_is : noted ≡ with_instance x.outer.is_package (number_behind c) (with_copies c x.inner.design) =
      with_notes ∙ ap (λ n. with_instance x.outer.is_package n copied) is.number
      ∙ ap (with_instance x.outer.is_package (number_behind c)) with_all in
      let declared_is : declared ≡ function_instance x c =
      built ∙ ap (λ t. with_taken i (declaration_of class.Function (word_of x) t)) is.mark
      ∙ taken (declaration_of class.Function (word_of x) (option_map (type_of_copy c) c.generic.mark)) in
      let enters : entering x.outer.region declared noted
      ≡ entering x.outer.region (function_instance x c) (with_instance x.outer.is_package (number_behind c) (with_copies c x.inner.design)) =
      ap (λ e. entering x.outer.region e noted) declared_is ∙ ap (entering x.outer.region (function_instance x c)) noted_is in
      record {
        holds = subst (λ n. Holds store made.tree (more (resolved x.form (Some n) None) x.text x.place x.inner.tree nothing)) is.number held;
        design = entered.design ∙ ap (λ (e : Entering). e.design) enters;
        first = refused ∙ ap (lesser x.inner.first) (entered.first ∙ ap (λ (e : Entering). e.first) enters);
      }

-- what is refused beside
pub made_refused : (store : List (Forest Resolved)) (d : Design) (made also : Made) (o : Outcome) (r s : Option Refused)
    → IsMade store d made o → also ≡ record made { first = lesser made.first r } → r ≡ s → IsMade store d also (record o { first = lesser o.first s })
made_refused store d made also o r s is with_it same = record {
  holds = subst (λ n. Holds store n o.tree) (sym (ap (λ (m : Made). m.tree) with_it)) is.holds;
  design = is.design;
  first = ap (λ (m : Made). m.first) with_it ∙ ap (λ f. lesser f r) is.first ∙ ap (lesser o.first) same;
}
