-- What designs of revision 1993 show when they run. Most are what the designs of revision 2019 in vd_design_facts and vd_hierarchy_facts are written as, and show the same.
use Rattle.std.specs.Prelude.{◌≡◌, [], ◌∷◌, codes}
use Rattle.vd_trees.specs.declared.revision.Revision.TheVariants.{V1993}
use Rattle.vd_elaboration_facts.specs.Designs.{lines}
use Rattle.vd_design_facts.specs.Designs.{traced}
use Rattle.vd_design_facts93.specs.Once as once
use Rattle.vd_design_facts93.specs.Delayed as delayed
use Rattle.vd_design_facts93.specs.Implicit as implicit
use Rattle.vd_design_facts93.specs.Alternatives as alternatives
use Rattle.vd_design_facts93.specs.Overflow as overflow
use Rattle.vd_design_facts93.specs.Drivers as drivers
use Rattle.vd_design_facts93.specs.Converted as converted
use Rattle.vd_design_facts93.specs.BothWays as both_ways
use Rattle.vd_design_facts93.specs.BoundsOfSlices as bounds

pub record ProcessFacts : Type 0 where
  -- a process that waits for nothing runs once
  pub nothing_read : traced V1993 once.design (codes "p") 100
      ≡ lines (codes "cycle 0 0 0" ∷ codes "report 0 0 note once" ∷ codes "quiet" ∷ [])
  -- an empty branch leaves the transaction that stands before it
  pub unaffected : traced V1993 delayed.design (codes "w") 100
      ≡ lines (codes "cycle 0 0 0" ∷ codes "w.s = '0'" ∷ codes "w.c = false"
      ∷ codes "cycle 1 5000000 0" ∷ codes "w.s = '1'" ∷ codes "quiet" ∷ [])
  -- a sum that is no INTEGER stops the run
  pub overflow : traced V1993 overflow.design (codes "o") 100
      ≡ lines (codes "cycle 0 0 0" ∷ codes "o.c = 2147483645" ∷ codes "cycle 1 0 1" ∷ codes "o.c = 2147483646"
      ∷ codes "cycle 2 0 2" ∷ codes "stop Overflow 0 2 o" ∷ [])

pub record ElaborationFacts : Type 0 where
  -- the signal that stands for an expression, and its assignment in front of the instance
  pub implicit : traced V1993 implicit.design (codes "t") 100
      ≡ lines (codes "cycle 0 0 0" ∷ codes "t.a = '1'" ∷ codes "t.b = '0'" ∷ codes "t.u_x = 'U'" ∷ codes "t.u.x = 'U'"
      ∷ codes "cycle 1 0 1" ∷ codes "t.u_x = '1'" ∷ codes "t.u.x = '1'" ∷ codes "quiet" ∷ [])
  -- where the first condition of an `and` doesn't hold, the second, whose evaluation would stop, isn't evaluated
  pub alternatives : traced V1993 alternatives.design (codes "v") 100
      ≡ lines (codes "cycle 0 0 0" ∷ codes "v.s = '0'" ∷ codes "cycle 1 0 1" ∷ codes "v.s = '1'" ∷ codes "quiet" ∷ [])
  -- two drivers of a signal that isn't resolved
  pub two_drivers : traced V1993 drivers.design (codes "x") 100 ≡ lines (codes "stop TwoSources 0 0 x" ∷ [])

pub record ConversionFacts : Type 0 where
  -- an `out` port of one vector type is a source of a signal of the other, which the parent drives too
  pub of_formal : traced V1993 converted.design (codes "p") 100
      ≡ lines (codes "cycle 0 0 0" ∷ codes "p.s(1) = 'U'" ∷ codes "p.s(0) = 'U'" ∷ codes "p.u.q(1) = 'U'" ∷ codes "p.u.q(0) = 'U'"
      ∷ codes "cycle 1 0 1" ∷ codes "p.s(1) = 'X'" ∷ codes "p.s(0) = '0'" ∷ codes "p.u.q(1) = '1'" ∷ codes "p.u.q(0) = '0'" ∷ codes "quiet" ∷ [])
  -- an `inout` port is besides what the signal is: '1' and '0' are 'X', '0' and 'Z' are '0'
  pub of_both : traced V1993 both_ways.design (codes "p") 100
      ≡ lines (codes "cycle 0 0 0" ∷ codes "p.s(1) = 'U'" ∷ codes "p.s(0) = 'U'" ∷ codes "p.u.q(1) = 'U'" ∷ codes "p.u.q(0) = 'U'"
      ∷ codes "p.u.r(1) = 'U'" ∷ codes "p.u.r(0) = 'U'"
      ∷ codes "cycle 1 0 1" ∷ codes "p.s(1) = 'X'" ∷ codes "p.s(0) = '0'" ∷ codes "p.u.q(1) = 'X'" ∷ codes "p.u.q(0) = '0'"
      ∷ codes "cycle 2 0 2" ∷ codes "p.u.r(1) = 'X'" ∷ codes "p.u.r(0) = '0'" ∷ codes "quiet" ∷ [])
  -- a parameter without bounds of its own has those of its actual, also where that is a conversion of a slice from 7 on
  pub bounds : traced V1993 bounds.design (codes "b") 100
      ≡ lines (codes "cycle 0 0 0" ∷ codes "b.s(7) = 'U'" ∷ codes "b.s(6) = 'U'" ∷ codes "b.s(5) = 'U'" ∷ codes "b.s(4) = 'U'" ∷ codes "b.s(3) = 'U'"
      ∷ codes "b.s(2) = 'U'" ∷ codes "b.s(1) = 'U'" ∷ codes "b.s(0) = 'U'" ∷ codes "b.n = 0" ∷ codes "cycle 1 0 1" ∷ codes "b.n = 7" ∷ codes "quiet" ∷ [])
