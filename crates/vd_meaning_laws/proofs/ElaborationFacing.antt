-- Parts that are alike, of which one facet is given anew.
use Rattle.std.proofs.Common.{◌≡◌, ℕ, List, Option, map}
use Rattle.std.specs.List.{AllZip}
use Rattle.vd_values.specs.declared.scalar.Scalar.{Scalar}
use Rattle.vd_composites.specs.Composites.{Value}
use Rattle.vd_environments.specs.Got.{Got}
use Rattle.vd_environments.specs.Environments.{Env}
use Rattle.vd_meaning.specs.NodeFacets.{ElementMode, ViewElement, View, Ports, Actual, Elaborating, Unit', Part}
use Rattle.vd_meaning_laws.specs.Agreement.{Link, Alike, number_in}
use Rattle.vd_meaning_laws.specs.ElaborationAgreement.{element_mode_in, element_in, view_under, AlikePorts, AlikeActual, AlikeElaborating, AlikeUnit, AlikePart}

module _ (l : Link) where
  pub with_named : {p q : Part} → AlikePart l p q → (x y : List ℕ) → (y ≡ map l.number x) → AlikePart l (record p { named = x }) (record q { named = y })
  with_named h x y z = record { meaning = h.meaning; named = z; formal = h.formal; mode = h.mode; elements = h.elements; views = h.views; ports = h.ports; defaults = h.defaults; actuals = h.actuals; declaring = h.declaring; region = h.region; ahead = h.ahead; elaborating = h.elaborating; otherwise = h.otherwise; cases = h.cases; units = h.units }

  pub with_formal : {p q : Part} → AlikePart l p q → (x y : Option ℕ) → (y ≡ number_in l x) → AlikePart l (record p { formal = x }) (record q { formal = y })
  with_formal h x y z = record { meaning = h.meaning; named = h.named; formal = z; mode = h.mode; elements = h.elements; views = h.views; ports = h.ports; defaults = h.defaults; actuals = h.actuals; declaring = h.declaring; region = h.region; ahead = h.ahead; elaborating = h.elaborating; otherwise = h.otherwise; cases = h.cases; units = h.units }

  pub with_mode : {p q : Part} → AlikePart l p q → (x y : ElementMode) → (y ≡ element_mode_in l x) → AlikePart l (record p { mode = x }) (record q { mode = y })
  with_mode h x y z = record { meaning = h.meaning; named = h.named; formal = h.formal; mode = z; elements = h.elements; views = h.views; ports = h.ports; defaults = h.defaults; actuals = h.actuals; declaring = h.declaring; region = h.region; ahead = h.ahead; elaborating = h.elaborating; otherwise = h.otherwise; cases = h.cases; units = h.units }

  pub with_elements : {p q : Part} → AlikePart l p q → (x y : List ViewElement) → (y ≡ map (element_in l) x) → AlikePart l (record p { elements = x }) (record q { elements = y })
  with_elements h x y z = record { meaning = h.meaning; named = h.named; formal = h.formal; mode = h.mode; elements = z; views = h.views; ports = h.ports; defaults = h.defaults; actuals = h.actuals; declaring = h.declaring; region = h.region; ahead = h.ahead; elaborating = h.elaborating; otherwise = h.otherwise; cases = h.cases; units = h.units }

  pub with_views : {p q : Part} → AlikePart l p q → (x y : List View) → (y ≡ map (view_under l) x) → AlikePart l (record p { views = x }) (record q { views = y })
  with_views h x y z = record { meaning = h.meaning; named = h.named; formal = h.formal; mode = h.mode; elements = h.elements; views = z; ports = h.ports; defaults = h.defaults; actuals = h.actuals; declaring = h.declaring; region = h.region; ahead = h.ahead; elaborating = h.elaborating; otherwise = h.otherwise; cases = h.cases; units = h.units }

  pub with_ports : {p q : Part} → AlikePart l p q → (x y : List Ports) → (AllZip (AlikePorts l) x y) → AlikePart l (record p { ports = x }) (record q { ports = y })
  with_ports h x y z = record { meaning = h.meaning; named = h.named; formal = h.formal; mode = h.mode; elements = h.elements; views = h.views; ports = z; defaults = h.defaults; actuals = h.actuals; declaring = h.declaring; region = h.region; ahead = h.ahead; elaborating = h.elaborating; otherwise = h.otherwise; cases = h.cases; units = h.units }

  pub with_defaults : {p q : Part} → AlikePart l p q → (x y : List (List ℕ)) → (y ≡ map (map l.number) x) → AlikePart l (record p { defaults = x }) (record q { defaults = y })
  with_defaults h x y z = record { meaning = h.meaning; named = h.named; formal = h.formal; mode = h.mode; elements = h.elements; views = h.views; ports = h.ports; defaults = z; actuals = h.actuals; declaring = h.declaring; region = h.region; ahead = h.ahead; elaborating = h.elaborating; otherwise = h.otherwise; cases = h.cases; units = h.units }

  pub with_actuals : {p q : Part} → AlikePart l p q → (x y : List Actual) → (AllZip (AlikeActual l) x y) → AlikePart l (record p { actuals = x }) (record q { actuals = y })
  with_actuals h x y z = record { meaning = h.meaning; named = h.named; formal = h.formal; mode = h.mode; elements = h.elements; views = h.views; ports = h.ports; defaults = h.defaults; actuals = z; declaring = h.declaring; region = h.region; ahead = h.ahead; elaborating = h.elaborating; otherwise = h.otherwise; cases = h.cases; units = h.units }

  pub with_declaring : {p q : Part} → AlikePart l p q → (x y : Elaborating) → (AlikeElaborating l x y) → AlikePart l (record p { declaring = x }) (record q { declaring = y })
  with_declaring h x y z = record { meaning = h.meaning; named = h.named; formal = h.formal; mode = h.mode; elements = h.elements; views = h.views; ports = h.ports; defaults = h.defaults; actuals = h.actuals; declaring = z; region = h.region; ahead = h.ahead; elaborating = h.elaborating; otherwise = h.otherwise; cases = h.cases; units = h.units }

  pub with_region : {p q : Part} → AlikePart l p q → (x y : Elaborating) → (AlikeElaborating l x y) → AlikePart l (record p { region = x }) (record q { region = y })
  with_region h x y z = record { meaning = h.meaning; named = h.named; formal = h.formal; mode = h.mode; elements = h.elements; views = h.views; ports = h.ports; defaults = h.defaults; actuals = h.actuals; declaring = h.declaring; region = z; ahead = h.ahead; elaborating = h.elaborating; otherwise = h.otherwise; cases = h.cases; units = h.units }

  pub with_ahead : {p q : Part} → AlikePart l p q → (x y : List ℕ → Elaborating) → ((label : List ℕ) → AlikeElaborating l (x label) (y label)) → AlikePart l (record p { ahead = x }) (record q { ahead = y })
  with_ahead h x y z = record { meaning = h.meaning; named = h.named; formal = h.formal; mode = h.mode; elements = h.elements; views = h.views; ports = h.ports; defaults = h.defaults; actuals = h.actuals; declaring = h.declaring; region = h.region; ahead = z; elaborating = h.elaborating; otherwise = h.otherwise; cases = h.cases; units = h.units }

  pub with_elaborating : {p q : Part} → AlikePart l p q → (x y : List ℕ → Elaborating) → ((label : List ℕ) → AlikeElaborating l (x label) (y label)) → AlikePart l (record p { elaborating = x }) (record q { elaborating = y })
  with_elaborating h x y z = record { meaning = h.meaning; named = h.named; formal = h.formal; mode = h.mode; elements = h.elements; views = h.views; ports = h.ports; defaults = h.defaults; actuals = h.actuals; declaring = h.declaring; region = h.region; ahead = h.ahead; elaborating = z; otherwise = h.otherwise; cases = h.cases; units = h.units }

  pub with_otherwise : {p q : Part} → AlikePart l p q → (x y : List ℕ → Elaborating → Elaborating) → ((label : List ℕ) (f g : Elaborating) → AlikeElaborating l f g → AlikeElaborating l (x label f) (y label g)) → AlikePart l (record p { otherwise = x }) (record q { otherwise = y })
  with_otherwise h x y z = record { meaning = h.meaning; named = h.named; formal = h.formal; mode = h.mode; elements = h.elements; views = h.views; ports = h.ports; defaults = h.defaults; actuals = h.actuals; declaring = h.declaring; region = h.region; ahead = h.ahead; elaborating = h.elaborating; otherwise = z; cases = h.cases; units = h.units }

  pub with_cases : {p q : Part} → AlikePart l p q → (x y : List ℕ → (Env → Got (Value Scalar)) → Elaborating) → ((label : List ℕ) (s s' : Env → Got (Value Scalar)) → Alike l s s' → AlikeElaborating l (x label s) (y label s')) → AlikePart l (record p { cases = x }) (record q { cases = y })
  with_cases h x y z = record { meaning = h.meaning; named = h.named; formal = h.formal; mode = h.mode; elements = h.elements; views = h.views; ports = h.ports; defaults = h.defaults; actuals = h.actuals; declaring = h.declaring; region = h.region; ahead = h.ahead; elaborating = h.elaborating; otherwise = h.otherwise; cases = z; units = h.units }

  pub with_units : {p q : Part} → AlikePart l p q → (x y : List Unit') → (AllZip (AlikeUnit l) x y) → AlikePart l (record p { units = x }) (record q { units = y })
  with_units h x y z = record { meaning = h.meaning; named = h.named; formal = h.formal; mode = h.mode; elements = h.elements; views = h.views; ports = h.ports; defaults = h.defaults; actuals = h.actuals; declaring = h.declaring; region = h.region; ahead = h.ahead; elaborating = h.elaborating; otherwise = h.otherwise; cases = h.cases; units = z }
