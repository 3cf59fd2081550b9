-- The place behind a map: the actuals of its types and functions are known there.
use Rattle.std.proofs.Common.{◌≡◌, ℕ, List, ◌++◌, ap, sym, ◌∙◌}
use Rattle.std.specs.List.{flat_map}
use Rattle.vd_bytes.specs.declared.places.Place.{Place}
use Rattle.vd_forest.specs.Forest.{Forest}
use Rattle.vd_forms.specs.declared.form.Form.{Form}
use Rattle.vd_visible.specs.Sights.{Standpoint, sight_from}
use Rattle.vd_name_rows.specs.declared.at.Actual.{Actual}
use Rattle.vd_name_rows.specs.Designs.{At, Design, standpoint, sight}
use Rattle.vd_naming.specs.Associations.{Element}
use Rattle.vd_naming.specs.Actuals.{Known, types_given}
use Rattle.vd_naming.specs.Generics.{function_for, functions_given, map_between}
use Rattle.vd_name_actuals.specs.StandIns.{Pairs}
use Rattle.vd_name_maps.proofs.StayLemmas.{elements_stay}

-- what is known at a standpoint of pairs
abbrev known_from : Standpoint → Pairs → Known
known_from p pairs = record { sight = sight_from p; generics = pairs.generics; types = pairs.actuals }

abbrev with_actuals : List Actual → At → At
with_actuals given at = record at { actuals = given }

abbrev both : List ℕ → List Actual → Pairs
both generics types = record { generics = generics; actuals = types }

pub actuals_behind : (at : At) (d : Design) (generics : List ℕ) (es : List Element) (f : Form) (text : List ℕ) (place : Place) (parts : Forest Form)
    (p : Standpoint) (pairs : Pairs) (types given : List Actual)
    → p ≡ standpoint at d → pairs ≡ record { generics = generics; actuals = types } → types ≡ types_given at d es
    → given ≡ types ++ flat_map (function_for d (record { sight = sight_from p; generics = pairs.generics; types = pairs.actuals }) es) generics
    → record at { actuals = given } ≡ (map_between generics es at d f text place parts).at
actuals_behind at d generics es f text place parts p pairs types given here pairs_are types_are given_is =
    let k : Known = record { sight = sight at d; generics = generics; types = types_given at d es } in
    let same : known_from p pairs ≡ k =
    ap (λ q. known_from q pairs) here ∙ ap (known_from (standpoint at d)) (pairs_are ∙ ap (both generics) types_are)
    in
    let all : given ≡ k.types ++ functions_given d k es =
    given_is ∙ ap (λ ts. ts ++ flat_map (function_for d (known_from p pairs) es) generics) types_are
    ∙ ap (λ j. types_given at d es ++ flat_map (function_for d j es) generics) same
    in
    ap (λ xs. with_actuals xs at) all ∙ ap (with_actuals (k.types ++ functions_given d k es)) (sym (elements_stay at d k es parts).place)
