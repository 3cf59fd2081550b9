-- When two trees come to the same in elaboration, where the declarations of the one have other numbers in the other.
use Rattle.std.specs.Prelude.{◌≡◌, ℕ, List, map, Ok, Err}
use Rattle.std.specs.List.{AllZip}
use Rattle.vd_values.specs.declared.scalar.Scalar.{Scalar}
use Rattle.vd_trees.specs.declared.paths.Scope.{Scope}
use Rattle.vd_composites.specs.Composites.{Value}
use Rattle.vd_environments.specs.Got.{Got}
use Rattle.vd_environments.specs.Environments.{Env}
use Rattle.vd_meaning.specs.Building.{Placed, Made, Built, State}
use Rattle.vd_meaning.specs.NodeFacets.{ElementMode, ByMode, ByView, ViewElement, View, Ports, Generics, Actual, Instance, Hierarchy, Elaborating, PackageText, Unit', EntityUnit, ArchitectureUnit, PackageUnit, Part}
use Rattle.vd_meaning_laws.specs.Agreement.{Link, number_in, Agree, Alike, AlikeCommands, AlikeRunning}
use Rattle.vd_meaning_laws.specs.Renumbering.{AlikeMeaning, AlikeObjects, AlikeFormal, pair_in}

-- ---- interfaces with other numbers

abbrev pub element_mode_in : Link → ElementMode → ElementMode
element_mode_in l (ByMode m) = ByMode m
element_mode_in l (ByView d k) = ByView (number_in l d) k

abbrev pub element_in : Link → ViewElement → ViewElement
element_in l x = record { name = x.name; mode = element_mode_in l x.mode }

abbrev pub view_under : Link → View → View
view_under l v = record { view = l.number v.view; mark = number_in l v.mark; elements = map (element_in l) v.elements }

pub record AlikePorts (l : Link) (p q : Ports) : Type 0 where
  pub names : q.names ≡ p.names
  pub objects : AlikeObjects l p.objects q.objects
  pub has_subtype : q.has_subtype ≡ p.has_subtype
  pub named : q.named ≡ map l.number p.named
  pub mode : q.mode ≡ element_mode_in l p.mode

pub record AlikeGenerics (l : Link) (a b : Generics) : Type 0 where
  pub objects : AllZip (AlikeObjects l) a.objects b.objects
  pub defaults : b.defaults ≡ map (map l.number) a.defaults

pub record AlikeActual (l : Link) (a b : Actual) : Type 0 where
  pub formal : b.formal ≡ number_in l a.formal
  pub meaning : AlikeMeaning l a.meaning b.meaning

pub record AlikeInstance (l : Link) (x y : Instance) : Type 0 where
  pub label : y.label ≡ x.label
  pub entity : y.entity ≡ x.entity
  pub architecture : y.architecture ≡ x.architecture
  pub generics : AllZip (AlikeActual l) x.generics y.generics
  pub ports : AllZip (AlikeActual l) x.ports y.ports

-- ---- what is made

pub record AlikePlaced (l : Link) (p q : Placed) : Type 0 where
  pub running : AlikeRunning l p.running q.running
  pub scope : q.scope ≡ p.scope

-- the same signals, sources and drivers, and processes that do the same
pub record AlikeMade (l : Link) (m n : Made) : Type 0 where
  pub signals : n.signals ≡ m.signals
  pub counted : n.counted ≡ m.counted
  pub sources : n.sources ≡ m.sources
  pub driven : n.driven ≡ m.driven
  pub processes : AllZip (AlikePlaced l) m.processes n.processes

pub record AlikeState (l : Link) (s t : State) : Type 0 where
  pub env : Agree l s.env t.env
  pub made : AlikeMade l s.made t.made

-- related results, or the same stop or limit
abbrev pub AlikeBuilt : {A B : Type 0} → (A → B → Type 0) → Built A → Built B → Type 0
AlikeBuilt R (Ok x) (Ok y) = R x y
AlikeBuilt R (Ok x) (Err f) = ⊥
AlikeBuilt R (Err f) (Ok y) = ⊥
AlikeBuilt R (Err f) (Err g) = g ≡ f

abbrev pub AlikeStates : Link → Built State → Built State → Type 0
AlikeStates l f g = AlikeBuilt (AlikeState l) f g

pub record AlikeHierarchy (l : Link) (h k : Hierarchy) : Type 0 where
  pub ahead : (scope : Scope) (x y : Instance) → AlikeInstance l x y → (s t : State) → AlikeState l s t → AlikeStates l (h.ahead scope x s) (k.ahead scope y t)
  pub instance : (scope : Scope) (x y : Instance) → AlikeInstance l x y → (s t : State) → AlikeState l s t → AlikeStates l (h.instance scope x s) (k.instance scope y t)

abbrev pub AlikeElaborating : Link → Elaborating → Elaborating → Type 0
AlikeElaborating l f g = (h k : Hierarchy) → AlikeHierarchy l h k → (scope : Scope) (s t : State) → AlikeState l s t → AlikeStates l (f h scope s) (g k scope t)

-- ---- units and parts

pub record AlikePackage (l : Link) (p q : PackageText) : Type 0 where
  pub sort : q.sort ≡ p.sort
  pub name : q.name ≡ p.name
  pub number : q.number ≡ l.number p.number
  pub generics : AllZip (AlikeFormal l) p.generics q.generics
  pub declaring : AlikeElaborating l p.declaring q.declaring
  pub declarations : AllZip (AlikeCommands l) p.declarations q.declarations
  pub actuals : Alike l p.actuals q.actuals
  pub copies : q.copies ≡ map (pair_in l) p.copies

abbrev pub AlikeUnit : Link → Unit' → Unit' → Type 0
AlikeUnit l (EntityUnit name generics ports) (EntityUnit name' generics' ports') =
    (name' ≡ name) × AlikeGenerics l generics generics' × AllZip (AlikePorts l) ports ports'
AlikeUnit l (ArchitectureUnit name entity region) (ArchitectureUnit name' entity' region') =
    (name' ≡ name) × (entity' ≡ entity) × AlikeElaborating l region region'
AlikeUnit l (PackageUnit p) (PackageUnit q) = AlikePackage l p q
AlikeUnit l _ _ = ⊥

pub record AlikePart (l : Link) (p q : Part) : Type 0 where
  pub meaning : AlikeMeaning l p.meaning q.meaning
  pub named : q.named ≡ map l.number p.named
  pub formal : q.formal ≡ number_in l p.formal
  pub mode : q.mode ≡ element_mode_in l p.mode
  pub elements : q.elements ≡ map (element_in l) p.elements
  pub views : q.views ≡ map (view_under l) p.views
  pub ports : AllZip (AlikePorts l) p.ports q.ports
  pub defaults : q.defaults ≡ map (map l.number) p.defaults
  pub actuals : AllZip (AlikeActual l) p.actuals q.actuals
  pub declaring : AlikeElaborating l p.declaring q.declaring
  pub region : AlikeElaborating l p.region q.region
  pub ahead : (label : List ℕ) → AlikeElaborating l (p.ahead label) (q.ahead label)
  pub elaborating : (label : List ℕ) → AlikeElaborating l (p.elaborating label) (q.elaborating label)
  pub otherwise : (label : List ℕ) (f g : Elaborating) → AlikeElaborating l f g → AlikeElaborating l (p.otherwise label f) (q.otherwise label g)
  pub cases : (label : List ℕ) (s s' : Env → Got (Value Scalar)) → Alike l s s' → AlikeElaborating l (p.cases label s) (q.cases label s')
  pub units : AllZip (AlikeUnit l) p.units q.units
