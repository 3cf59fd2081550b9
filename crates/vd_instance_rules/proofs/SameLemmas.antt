-- Associations break what they break as they are read from memory: of an actual the first tree counts alone.
use Rattle.std.proofs.Common.{◌++◌, ◌≡◌, ◌∙◌, ◌∷◌, ◌&&◌, ◌||◌, List, [], ap, ap₂, false, not, refl, sym, true, ℕ, if◌then◌else◌}
use Rattle.std.specs.List.{list_all, list_any}
use Rattle.std.specs.Prelude.{None, Option, Some, is_some}
use Rattle.vd_meaning.specs.Building.{BothWays, Input, Mode, Output}
use Rattle.vd_meaning.specs.NodeFacets.{ByMode, ByView, ElementMode}
use Rattle.vd_environments.specs.Environments.{Env, is_static}
use Rattle.vd_forest.specs.Forest.{Forest, more, nothing}
use Rattle.vd_instance_rules.proofs.SeenLemmas.{associated_behind}
use Rattle.vd_instance_rules.specs.Instances.{read_association, read_associations}
use Rattle.vd_meaning.specs.Tables.{is_vector, same_type}
use Rattle.vd_port_associations.specs.Associations.{AreAssociations, alone}
use Rattle.vd_port_associations.specs.declared.associations.PortAssociation.{PortAssociation as WrittenAssociation}
use Rattle.vd_resolved.specs.declared.node.Resolved.{Resolved}
use Rattle.vd_value_rules.specs.Actuals.{ActualSort, AnExpression, ConvertedPort, FormalSort, NoActual, NoFormal, PortAssociation, PortMap, SignalConverted, SignalNamed, SignalPassed, WholePort, actual_broken, actual_sort, against, all_associations_broken, are_in_order, are_known, association_broken, expression_broken, for_port, formal_broken, has_composite_generic, has_default, input_broken, is_associated, is_missing, is_open_actual, is_read, is_refused_later, may_be_converted, needs_actual, output_broken, port_of_formal, takes_conversion, view_broken}
use Rattle.vd_value_rules.specs.Choices.{first_meaning}
use Rattle.vd_value_rules.specs.Designs.{Design, Oriented, mode_of_port, straight}
use Rattle.vd_value_rules.specs.Judging.{refused_if}
use Rattle.vd_value_rules.specs.Names.{broken_as_value, may_be_driven}

-- ---- the first tree

open_alone : (f : Forest Resolved) → is_open_actual f ≡ is_open_actual (alone f)
open_alone nothing = refl
open_alone (more n text place parts next) = refl

read_alone : (f : Forest Resolved) → is_read f ≡ is_read (alone f)
read_alone nothing = refl
read_alone (more n text place parts next) = refl

module _ (d : Design) (e : Env) where
  sort_alone : (f : Forest Resolved) → actual_sort d e f ≡ actual_sort d e (alone f)
  sort_alone nothing = refl
  sort_alone (more n text place parts next) = refl

  known_alone : (f : Forest Resolved) → (first_meaning d f).known e ≡ (first_meaning d (alone f)).known e
  known_alone nothing = refl
  known_alone (more n text place parts next) = refl

  -- ---- two associations with the same place, and whose actuals have the same first tree

  module _ (x : PortMap) (a b : PortAssociation) (here : a.place ≡ b.place) (first : alone a.actual ≡ alone b.actual) where
    known_same : (first_meaning d a.actual).known e ≡ (first_meaning d b.actual).known e
    known_same = known_alone a.actual ∙ ap (λ f. (first_meaning d f).known e) first ∙ sym (known_alone b.actual)

    expression_same : (port : ℕ) → expression_broken d e x port a ≡ expression_broken d e x port b
    expression_same port =
        ap₂ (λ s p. refused_if (not (is_static s) && is_refused_later d.revision (has_composite_generic d e x port)) p 310) known_same here

    against_same : against a ≡ against b
    against_same = ap (λ p. refused_if true p 310) here

    input_same : (port : ℕ) (s : ActualSort) → input_broken d e x port a s ≡ input_broken d e x port b s
    input_same port NoActual = ap (λ p. refused_if (not (has_default d port)) p 310) here
    input_same port (SignalNamed place r) = refl
    input_same port (SignalConverted mark place r) = ap (λ p. refused_if (not (is_vector mark)) p 310) here
    input_same port SignalPassed = against_same
    input_same port (AnExpression place r) = ap (λ l. broken_as_value d place r ++ l) (expression_same port)

    output_same : (m : Mode) (s : ActualSort) → output_broken d m a s ≡ output_broken d m b s
    output_same m NoActual = refl
    output_same m (SignalNamed place r) = refl
    output_same m (SignalConverted mark place r) =
        ap (λ l. if takes_conversion d.revision m && is_vector mark then refused_if (not (may_be_driven d r)) place 402 else l) against_same
    output_same m SignalPassed = against_same
    output_same m (AnExpression place r) = against_same

    view_same : (o : Oriented) (s : ActualSort) → view_broken d o a s ≡ view_broken d o b s
    view_same o NoActual = against_same
    view_same o (SignalNamed place r) = refl
    view_same o (SignalConverted mark place r) = against_same
    view_same o SignalPassed = against_same
    view_same o (AnExpression place r) = against_same

    actual_same : (port : ℕ) (m : ElementMode) (s : ActualSort) → actual_broken d e x port a m s ≡ actual_broken d e x port b m s
    actual_same port (ByMode Input) s = input_same port s
    actual_same port (ByMode Output) s = output_same Output s
    actual_same port (ByMode BothWays) s = output_same BothWays s
    actual_same port (ByView view k) s = view_same (straight (ByView view k)) s

    formal_same : (f : FormalSort) → formal_broken d f a ≡ formal_broken d f b
    formal_same (WholePort port) = refl
    formal_same (ConvertedPort mark port) =
        ap₂ (λ o p. refused_if (o || not (is_vector mark && may_be_converted d port (mode_of_port d port))) p 310)
        (open_alone a.actual ∙ ap is_open_actual first ∙ sym (open_alone b.actual)) here
    formal_same NoFormal = against_same

    sort_same : actual_sort d e a.actual ≡ actual_sort d e b.actual
    sort_same = sort_alone a.actual ∙ ap (actual_sort d e) first ∙ sym (sort_alone b.actual)

    port_same : (o : Option ℕ) → for_port (λ port. actual_broken d e x port a (mode_of_port d port) (actual_sort d e a.actual)) o
        ≡ for_port (λ port. actual_broken d e x port b (mode_of_port d port) (actual_sort d e b.actual)) o
    port_same None = refl
    port_same (Some port) =
        actual_same port (mode_of_port d port) (actual_sort d e a.actual) ∙ ap (actual_broken d e x port b (mode_of_port d port)) sort_same

    read_same : is_read a.actual ≡ is_read b.actual
    read_same = read_alone a.actual ∙ ap is_read first ∙ sym (read_alone b.actual)

    association_same : a.formal ≡ b.formal → association_broken d e x a ≡ association_broken d e x b
    association_same formal =
        ap₂ (λ xs ys. xs ++ ys) (formal_same a.formal ∙ ap (λ f. formal_broken d f b) formal)
        (ap₂ (λ c l. if c then l else []) read_same
        (port_same (port_of_formal a.formal)
        ∙ ap (λ f. for_port (λ port. actual_broken d e x port b (mode_of_port d port) (actual_sort d e b.actual)) (port_of_formal f)) formal))

  -- ---- all associations of a port map

  module _ (x : PortMap) where
    all_same : (ws : List WrittenAssociation) (as' bs cs : List PortAssociation) → AreAssociations ws as'
        → ((p : Option ℕ) → is_associated bs p ≡ is_associated cs p)
        → all_associations_broken d e x bs as' ≡ all_associations_broken d e x cs (read_associations ws)
    all_same [] [] bs cs are seen = refl
    all_same [] (a ∷ as') bs cs are seen = absurd are
    all_same (w ∷ ws) [] bs cs are seen = absurd are
    all_same (w ∷ ws) (a ∷ as') bs cs are seen =
        let b = read_association w in
        ap₂ (λ xs ys. xs ++ ys)
        (ap₂ (λ xs ys. xs ++ ys)
        (ap₂ (λ c p. refused_if c p 310) (seen (port_of_formal a.formal) ∙ ap (λ f. is_associated cs (port_of_formal f)) are.0.formal) are.0.place)
        (association_same x a b are.0.place are.0.actual are.0.formal))
        (all_same ws as' (bs ++ a ∷ []) (cs ++ b ∷ []) are.1
        (λ p. associated_behind bs a p ∙ ap₂ (λ c f. c || same_type (port_of_formal f) p) (seen p) are.0.formal ∙ sym (associated_behind cs b p)))

seen_same : (ws : List WrittenAssociation) (as' : List PortAssociation) (p : Option ℕ) → AreAssociations ws as'
    → is_associated as' p ≡ is_associated (read_associations ws) p
seen_same [] [] p are = refl
seen_same [] (a ∷ as') p are = absurd are
seen_same (w ∷ ws) [] p are = absurd are
seen_same (w ∷ ws) (a ∷ as') p are = ap₂ (λ f c. same_type (port_of_formal f) p || c) are.0.formal (seen_same ws as' p are.1)

for_ports_same : (ws : List WrittenAssociation) (as' : List PortAssociation) → AreAssociations ws as'
    → list_all (λ a. is_some (port_of_formal a.formal)) as' ≡ list_all (λ a. is_some (port_of_formal a.formal)) (read_associations ws)
for_ports_same [] [] are = refl
for_ports_same [] (a ∷ as') are = absurd are
for_ports_same (w ∷ ws) [] are = absurd are
for_ports_same (w ∷ ws) (a ∷ as') are = ap₂ (λ f c. is_some (port_of_formal f) && c) are.0.formal (for_ports_same ws as' are.1)

missing_same : (d : Design) (ws : List WrittenAssociation) (as' : List PortAssociation) (ports : List ℕ) → AreAssociations ws as'
    → list_any (is_missing d as') ports ≡ list_any (is_missing d (read_associations ws)) ports
missing_same d ws as' [] are = refl
missing_same d ws as' (p ∷ ps) are =
    ap₂ (λ b c. (needs_actual d p (mode_of_port d p) && not b) || c) (seen_same ws as' (Some p) are) (missing_same d ws as' ps are)

-- what is broken by the elements of a port map
pub port_map_same : (d : Design) (e : Env) (x : PortMap) (ws : List WrittenAssociation) (as' : List PortAssociation) (ports : List ℕ) (elements : Forest Resolved)
    → AreAssociations ws as'
    → all_associations_broken d e x [] (read_associations ws)
    ++ refused_if (are_known (read_associations ws) elements && list_any (is_missing d (read_associations ws)) ports) x.place 310
    ≡ all_associations_broken d e x [] as' ++ refused_if (are_known as' elements && list_any (is_missing d as') ports) x.place 310
port_map_same d e x ws as' ports elements are = sym
    (ap₂ (λ xs ys. xs ++ ys) (all_same d e x ws as' [] [] are (λ p. refl))
    (ap₂ (λ k b. refused_if ((k && are_in_order false elements) && b) x.place 310) (for_ports_same ws as' are) (missing_same d ws as' ports are)))
