-- Names with their pieces, one behind the other.
use Rattle.std.proofs.Common.{◌≡◌, ◌∷◌, List, None, Option, Some, [], drop, false, is_some, subst, true}
use Rattle.vd_environments.specs.Environments.{Env}
use Rattle.vd_forest.specs.Forest.{Forest}
use Rattle.vd_value_rules.specs.declared.forms.IndicatedForm.{IndicatedForm}
use Rattle.vd_meaning.specs.Facets.{Meaning, from}
use Rattle.vd_meaning.specs.Meanings.{named_by}
use Rattle.vd_meaning.specs.Names.{Attributed, Callee, Named, NoCallee}
use Rattle.vd_meaning.specs.Names as names
use Rattle.vd_static_values.specs.Names.{IsName, callee_of, type_attribute}
use Rattle.vd_static_values.specs.Nodes.{AreNodes, IsPiece}
use Rattle.vd_static_values.specs.declared.names.KnownName.{KnownName}
use Rattle.vd_static_values.specs.declared.names.TypeAttribute.{TypeAttribute}
use Rattle.vd_static_values.specs.declared.nodes.Node.{Node}

-- ---- what a next piece calls

pub with_callee : (P : Type 0) (c : Callee) (o : Option TypeAttribute) → is_some o ≡ true → c ≡ callee_of o
    → ((a : names.TypeAttribute) → c ≡ Attributed a → P) → P
with_callee P c None some is go = absurd (cc)
with_callee P c (Some a) some is go = go (type_attribute a) is

pub no_callee : (c : Callee) (o : Option TypeAttribute) → is_some o ≡ false → c ≡ callee_of o → c ≡ NoCallee
no_callee c None none is = is
no_callee c (Some a) none is = absurd (cc)

-- ---- further pieces

pub nodes_behind : (subtypes : List (Forest IndicatedForm)) (e : Env) (xs : List Node) (ms : List Meaning) → AreNodes subtypes e xs ms
    → AreNodes subtypes e (drop 1 xs) (from 1 ms)
nodes_behind subtypes e [] [] nodes = tt
nodes_behind subtypes e [] (m ∷ ms) nodes = absurd nodes
nodes_behind subtypes e (x ∷ xs) [] nodes = absurd nodes
nodes_behind subtypes e (x ∷ xs) (m ∷ ms) nodes = nodes.1

-- With the pieces that are left the name comes to the whole one.
pub record ComesTo (subtypes : List (Forest IndicatedForm)) (e : Env) (x : KnownName) (left : List Node) (whole : Named) : Type 0 where
  pub so_far : Named
  pub ms : List Meaning
  pub name : IsName subtypes e x so_far
  pub nodes : AreNodes subtypes e left ms
  pub is : named_by so_far ms ≡ whole

module _ (subtypes : List (Forest IndicatedForm)) (e : Env) where
  last_name : (x : KnownName) (p whole : Named) (ms : List Meaning) → IsName subtypes e x p → AreNodes subtypes e [] ms → named_by p ms ≡ whole
      → IsName subtypes e x whole
  last_name x p whole [] name nodes is = subst (IsName subtypes e x) is name
  last_name x p whole (m ∷ ms) name nodes is = absurd nodes

  pub comes_at_last : (x : KnownName) (left : List Node) (whole : Named) → left ≡ [] → ComesTo subtypes e x left whole → IsName subtypes e x whole
  comes_at_last x [] whole none way = last_name x way.so_far whole way.ms way.name way.nodes way.is
  comes_at_last x (node ∷ left) whole none way = absurd (cc)

  next_name : (x y : KnownName) (node : Node) (left : List Node) (p whole : Named) (ms : List Meaning) → IsName subtypes e x p
      → ((q : Named) (f : Named → Named) → IsName subtypes e x q → IsPiece subtypes e node.piece f → IsName subtypes e y (f q))
      → AreNodes subtypes e (node ∷ left) ms → named_by p ms ≡ whole → ComesTo subtypes e y left whole
  next_name x y node left p whole [] name applied nodes is = absurd nodes
  next_name x y node left p whole (m ∷ ms) name applied nodes is =
      record { so_far = m.piece p; ms = ms; name = applied p m.piece name nodes.0.piece; nodes = nodes.1; is = is }

  pub comes_further : (x y : KnownName) (node : Node) (left all : List Node) (whole : Named) → all ≡ node ∷ left
      → ((q : Named) (f : Named → Named) → IsName subtypes e x q → IsPiece subtypes e node.piece f → IsName subtypes e y (f q))
      → ComesTo subtypes e x all whole → ComesTo subtypes e y left whole
  comes_further x y node left all whole begins applied way =
      next_name x y node left way.so_far whole way.ms way.name applied (subst (λ xs. AreNodes subtypes e xs way.ms) begins way.nodes) way.is
