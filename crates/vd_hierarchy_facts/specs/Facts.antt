-- What designs of revision 2019 with instances, generates and several drivers show when they run. The texts of the designs stand in front of their trees.
use Rattle.std.specs.Prelude.{◌≡◌, [], ◌∷◌, codes}
use Rattle.vd_trees.specs.declared.revision.Revision.TheVariants.{V2019}
use Rattle.vd_elaboration_facts.specs.Designs.{lines}
use Rattle.vd_design_facts.specs.Designs.{traced}
use Rattle.vd_hierarchy_facts.specs.Implicit as implicit
use Rattle.vd_hierarchy_facts.specs.Alternatives as alternatives
use Rattle.vd_hierarchy_facts.specs.Drivers as drivers
use Rattle.vd_hierarchy_facts.specs.Converted as converted
use Rattle.vd_hierarchy_facts.specs.BothWays as both_ways
use Rattle.vd_hierarchy_facts.specs.Indexes as indexes
use Rattle.vd_hierarchy_facts.specs.Actuals as actuals
use Rattle.vd_hierarchy_facts.specs.GenericPorts as generic_ports

pub record ElaborationFacts : Type 0 where
  -- an expression as an actual stands for an implicit signal in front of the instance
  pub implicit : traced V2019 implicit.design (codes "t") 100
      ≡ lines (codes "cycle 0 0 0" ∷ codes "t.a = '1'" ∷ codes "t.b = '0'" ∷ codes "t.u'x = 'U'" ∷ codes "t.u.x = 'U'"
      ∷ codes "cycle 1 0 1" ∷ codes "t.u'x = '1'" ∷ codes "t.u.x = '1'" ∷ codes "quiet" ∷ [])
  -- where the first condition of a generate holds, the second, whose evaluation would stop, isn't evaluated
  pub alternatives : traced V2019 alternatives.design (codes "v") 100
      ≡ lines (codes "cycle 0 0 0" ∷ codes "v.s = '0'" ∷ codes "cycle 1 0 1" ∷ codes "v.s = '1'" ∷ codes "quiet" ∷ [])
  -- two drivers of a signal that isn't resolved
  pub two_drivers : traced V2019 drivers.design (codes "x") 100 ≡ lines (codes "stop TwoSources 0 0 x" ∷ [])
  -- indexes of enumerations in paths, a generate for each value, and the least INTEGER as a default
  pub indexes : traced V2019 indexes.design (codes "t") 100
      ≡ lines (codes "cycle 0 0 0" ∷ codes "t.f(idle) = '0'" ∷ codes "t.f(busy) = '0'" ∷ codes "t.g('a') = -2147483647"
      ∷ codes "t.g('b') = -2147483647" ∷ codes "t.l(idle).r = '0'" ∷ codes "t.l(busy).r = '0'" ∷ codes "cycle 1 0 1" ∷ codes "t.f(idle) = '1'"
      ∷ codes "t.f(busy) = '1'" ∷ codes "cycle 2 0 2" ∷ codes "t.l(idle).r = '1'" ∷ codes "t.l(busy).r = '1'" ∷ codes "quiet" ∷ [])
  -- a static expression is a constant value; another one an implicit signal of the port's subtype with the generic's value; a signal; and `open`
  pub actuals : traced V2019 actuals.design (codes "t") 100
      ≡ lines (codes "cycle 0 0 0" ∷ codes "t.s(0) = '0'" ∷ codes "t.s(1) = '1'" ∷ codes "t.u1.x(1) = '1'" ∷ codes "t.u1.x(0) = '0'"
      ∷ codes "t.u2'x(2) = 'U'" ∷ codes "t.u2'x(1) = 'U'" ∷ codes "t.u2'x(0) = 'U'" ∷ codes "t.u2.x(2) = 'U'" ∷ codes "t.u2.x(1) = 'U'"
      ∷ codes "t.u2.x(0) = 'U'" ∷ codes "t.u3.x(1) = '0'" ∷ codes "t.u3.x(0) = '1'" ∷ codes "t.u4.x(0) = '0'" ∷ codes "cycle 1 0 1"
      ∷ codes "t.u2'x(2) = '0'" ∷ codes "t.u2'x(1) = '1'" ∷ codes "t.u2'x(0) = '1'" ∷ codes "t.u2.x(2) = '0'" ∷ codes "t.u2.x(1) = '1'"
      ∷ codes "t.u2.x(0) = '1'" ∷ codes "quiet" ∷ [])
  -- the subtype of an implicit signal, where a generic has its default, which names another one, and where the subtype of a generic names another one
  pub generic_ports : traced V2019 generic_ports.design (codes "t") 100
      ≡ lines (codes "cycle 0 0 0" ∷ codes "t.a(1) = '1'" ∷ codes "t.a(2) = '0'" ∷ codes "t.u'x(1) = '0'" ∷ codes "t.u'x(2) = '0'"
      ∷ codes "t.u.x(1) = '0'" ∷ codes "t.u.x(2) = '0'" ∷ codes "t.v'x(0) = '0'" ∷ codes "t.v'x(1) = '0'" ∷ codes "t.v.x(0) = '0'"
      ∷ codes "t.v.x(1) = '0'" ∷ codes "cycle 1 0 1" ∷ codes "t.u'x(2) = '1'" ∷ codes "t.u.x(2) = '1'" ∷ codes "t.v'x(1) = '1'"
      ∷ codes "t.v.x(1) = '1'" ∷ codes "quiet" ∷ [])

pub record VectorFacts : Type 0 where
  -- an `out` port of STD_ULOGIC_VECTOR is a source of a signal of STD_LOGIC_VECTOR, which the parent drives too
  pub output : traced V2019 converted.design (codes "p") 100
      ≡ lines (codes "cycle 0 0 0" ∷ codes "p.s(1) = 'U'" ∷ codes "p.s(0) = 'U'" ∷ codes "p.u.q(1) = 'U'" ∷ codes "p.u.q(0) = 'U'"
      ∷ codes "cycle 1 0 1" ∷ codes "p.s(1) = 'X'" ∷ codes "p.s(0) = '0'" ∷ codes "p.u.q(1) = '1'" ∷ codes "p.u.q(0) = '0'" ∷ codes "quiet" ∷ [])
  -- an `inout` port is besides what the signal is: '1' and '0' are 'X', '0' and 'Z' are '0'
  pub both_ways : traced V2019 both_ways.design (codes "p") 100
      ≡ lines (codes "cycle 0 0 0" ∷ codes "p.s(1) = 'U'" ∷ codes "p.s(0) = 'U'" ∷ codes "p.u.q(1) = 'U'" ∷ codes "p.u.q(0) = 'U'"
      ∷ codes "p.u.r(1) = 'U'" ∷ codes "p.u.r(0) = 'U'"
      ∷ codes "cycle 1 0 1" ∷ codes "p.s(1) = 'X'" ∷ codes "p.s(0) = '0'" ∷ codes "p.u.q(1) = 'X'" ∷ codes "p.u.q(0) = '0'"
      ∷ codes "cycle 2 0 2" ∷ codes "p.u.r(1) = 'X'" ∷ codes "p.u.r(0) = '0'" ∷ codes "quiet" ∷ [])
