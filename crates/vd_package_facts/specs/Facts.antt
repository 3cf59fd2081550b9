-- What designs of revision 2019 with packages, instances of packages and functions, and views show when they run. The texts of the designs stand in front
-- of their trees.
use Rattle.std.specs.Prelude.{◌≡◌, [], ◌∷◌, codes}
use Rattle.vd_trees.specs.declared.revision.Revision.TheVariants.{V2019}
use Rattle.vd_elaboration_facts.specs.Designs.{lines}
use Rattle.vd_design_facts.specs.Designs.{traced}
use Rattle.vd_package_facts.specs.Instances as instances
use Rattle.vd_package_facts.specs.Links as links
use Rattle.vd_package_facts.specs.FunctionInstances as function_instances
use Rattle.vd_package_facts.specs.NestedViews as nested

pub record PackageFacts : Type 0 where
  -- two instances of one package, with a type and a constant each: turned(('0', '1')) is ('1', '0'), and turned((7, 3)) is (3, 7)
  pub instances : traced V2019 instances.design (codes "g") 100
      ≡ lines (codes "cycle 0 0 0" ∷ codes "g.x.a = '0'" ∷ codes "g.x.b = '1'" ∷ codes "g.y.a = 3" ∷ codes "g.y.b = 3"
      ∷ codes "cycle 1 0 1" ∷ codes "g.x.a = '1'" ∷ codes "g.x.b = '0'" ∷ codes "g.y.b = 7" ∷ codes "quiet" ∷ [])
  -- two instances of one function, with a type and its "<" each: imax(3, 5) is 5, and smax(idle, busy) is busy
  pub function_instances : traced V2019 function_instances.design (codes "f") 100
      ≡ lines (codes "cycle 0 0 0" ∷ codes "f.i = 5" ∷ codes "f.s = busy" ∷ codes "quiet" ∷ [])

pub record ViewFacts : Type 0 where
  -- ports with a view and its converse, a clock by timeouts, and a matching case: 34 events in the cycles from 1 to 20
  pub links : traced V2019 links.design (codes "bulk_top") 20
      ≡ lines (codes "cycle 0 0 0" ∷ codes "bulk_top.l_0.d = 'U'" ∷ codes "bulk_top.l_0.r = 'U'" ∷ codes "bulk_top.l_1.d = 'U'"
      ∷ codes "bulk_top.l_1.r = 'U'" ∷ codes "bulk_top.d_1.i.d = 'U'" ∷ codes "bulk_top.d_1.i.r = 'U'" ∷ codes "bulk_top.d_1.o.d = 'U'"
      ∷ codes "bulk_top.d_1.o.r = 'U'" ∷ codes "cycle 1 0 1" ∷ codes "bulk_top.l_0.d = '0'" ∷ codes "bulk_top.l_1.d = 'X'"
      ∷ codes "bulk_top.l_1.r = '1'" ∷ codes "bulk_top.d_1.i.d = '0'" ∷ codes "bulk_top.d_1.o.d = 'X'" ∷ codes "bulk_top.d_1.o.r = '1'"
      ∷ codes "cycle 2 0 2" ∷ codes "bulk_top.l_0.r = '1'" ∷ codes "bulk_top.l_1.d = '0'" ∷ codes "bulk_top.d_1.i.r = '1'"
      ∷ codes "bulk_top.d_1.o.d = '0'" ∷ codes "cycle 3 5000000 0" ∷ codes "cycle 4 5000000 1" ∷ codes "bulk_top.l_0.d = '1'"
      ∷ codes "bulk_top.d_1.i.d = '1'" ∷ codes "cycle 5 5000000 2" ∷ codes "bulk_top.l_1.d = '1'" ∷ codes "bulk_top.d_1.o.d = '1'"
      ∷ codes "cycle 6 10000000 0" ∷ codes "cycle 7 10000000 1" ∷ codes "bulk_top.l_0.d = '0'" ∷ codes "bulk_top.d_1.i.d = '0'"
      ∷ codes "cycle 8 10000000 2" ∷ codes "bulk_top.l_1.d = '0'" ∷ codes "bulk_top.d_1.o.d = '0'" ∷ codes "cycle 9 15000000 0"
      ∷ codes "cycle 10 15000000 1" ∷ codes "bulk_top.l_0.d = '1'" ∷ codes "bulk_top.d_1.i.d = '1'" ∷ codes "cycle 11 15000000 2"
      ∷ codes "bulk_top.l_1.d = '1'" ∷ codes "bulk_top.d_1.o.d = '1'" ∷ codes "cycle 12 20000000 0" ∷ codes "cycle 13 20000000 1"
      ∷ codes "bulk_top.l_0.d = '0'" ∷ codes "bulk_top.d_1.i.d = '0'" ∷ codes "cycle 14 20000000 2" ∷ codes "bulk_top.l_1.d = '0'"
      ∷ codes "bulk_top.d_1.o.d = '0'" ∷ codes "cycle 15 25000000 0" ∷ codes "cycle 16 25000000 1" ∷ codes "bulk_top.l_0.d = '1'"
      ∷ codes "bulk_top.d_1.i.d = '1'" ∷ codes "cycle 17 25000000 2" ∷ codes "bulk_top.l_1.d = '1'" ∷ codes "bulk_top.d_1.o.d = '1'"
      ∷ codes "cycle 18 30000000 0" ∷ codes "cycle 19 30000000 1" ∷ codes "bulk_top.l_0.d = '0'" ∷ codes "bulk_top.d_1.i.d = '0'"
      ∷ codes "cycle 20 30000000 2" ∷ codes "bulk_top.l_1.d = '0'" ∷ codes "bulk_top.d_1.o.d = '0'" ∷ codes "done" ∷ [])
  -- an element of a view that has a view of its own; the converse swaps both. A transaction of an equal value has a cycle without an event
  pub nested : traced V2019 nested.design (codes "t") 100
      ≡ lines (codes "cycle 0 0 0" ∷ codes "t.s.a = 'U'" ∷ codes "t.s.b = 'U'" ∷ codes "t.s.sub.c = 'U'"
      ∷ codes "t.u.p.a = 'U'" ∷ codes "t.u.p.b = 'U'" ∷ codes "t.u.p.sub.c = 'U'" ∷ codes "t.v.p.a = 'U'" ∷ codes "t.v.p.b = 'U'" ∷ codes "t.v.p.sub.c = 'U'"
      ∷ codes "cycle 1 0 1" ∷ codes "t.s.a = '1'" ∷ codes "t.u.p.a = '1'" ∷ codes "t.v.p.a = '1'" ∷ codes "cycle 2 0 2"
      ∷ codes "cycle 3 1000000 0" ∷ codes "t.s.sub.c = '1'" ∷ codes "t.u.p.sub.c = '1'" ∷ codes "t.v.p.sub.c = '1'"
      ∷ codes "cycle 4 1000000 1" ∷ codes "t.s.b = '1'" ∷ codes "t.u.p.b = '1'" ∷ codes "t.v.p.b = '1'" ∷ codes "quiet" ∷ [])
