-- What designs of revision 1993 with packages show when they run, functions of the support package among them. They are what designs of revision 2019 in
-- vd_design_facts and vd_package_facts are written as, and show the same.
use Rattle.std.specs.Prelude.{◌≡◌, [], ◌∷◌, codes}
use Rattle.vd_trees.specs.declared.revision.Revision.TheVariants.{V1993}
use Rattle.vd_elaboration_facts.specs.Designs.{lines}
use Rattle.vd_design_facts.specs.Designs.{traced}
use Rattle.vd_package_facts93.specs.Matching as matching
use Rattle.vd_package_facts93.specs.FirstChoice as first_choice
use Rattle.vd_package_facts93.specs.Instances as instances
use Rattle.vd_package_facts93.specs.Links as links

pub record MatchingFacts : Type 0 where
  -- a selector that holds '-' is a failure
  pub dash : traced V1993 matching.design (codes "m") 100
      ≡ lines (codes "cycle 0 0 0" ∷ codes "report 0 0 failure vdown: matching case selector holds '-'" ∷ codes "stop Failure 0 0 m" ∷ [])
  -- and "1X0" has the first choice, "1--"
  pub first : traced V1993 first_choice.design (codes "m") 100
      ≡ lines (codes "cycle 0 0 0" ∷ codes "report 0 0 note first"
      ∷ codes "m.sel(2) = '1'" ∷ codes "m.sel(1) = 'X'" ∷ codes "m.sel(0) = '0'" ∷ codes "quiet" ∷ [])

pub record PackageFacts : Type 0 where
  -- two packages that are instances of one, with a type and a constant each: turned(('0', '1')) is ('1', '0'), and turned((7, 3)) is (3, 7)
  pub instances : traced V1993 instances.design (codes "g") 100
      ≡ lines (codes "cycle 0 0 0" ∷ codes "g.x.a = '0'" ∷ codes "g.x.b = '1'" ∷ codes "g.y.a = 3" ∷ codes "g.y.b = 3"
      ∷ codes "cycle 1 0 1" ∷ codes "g.x.a = '1'" ∷ codes "g.x.b = '0'" ∷ codes "g.y.b = 7" ∷ codes "quiet" ∷ [])

pub record ViewFacts : Type 0 where
  -- the elements of such ports are ports of their own, and the matching case is written with the support package: the same events
  pub links : traced V1993 links.design (codes "bulk_top") 20
      ≡ lines (codes "cycle 0 0 0" ∷ codes "bulk_top.l_0.d = 'U'" ∷ codes "bulk_top.l_0.r = 'U'" ∷ codes "bulk_top.l_1.d = 'U'"
      ∷ codes "bulk_top.l_1.r = 'U'" ∷ codes "bulk_top.d_1.i_d = 'U'" ∷ codes "bulk_top.d_1.i_r = 'U'" ∷ codes "bulk_top.d_1.o_d = 'U'"
      ∷ codes "bulk_top.d_1.o_r = 'U'" ∷ codes "cycle 1 0 1" ∷ codes "bulk_top.l_0.d = '0'" ∷ codes "bulk_top.l_1.d = 'X'"
      ∷ codes "bulk_top.l_1.r = '1'" ∷ codes "bulk_top.d_1.i_d = '0'" ∷ codes "bulk_top.d_1.o_d = 'X'" ∷ codes "bulk_top.d_1.o_r = '1'"
      ∷ codes "cycle 2 0 2" ∷ codes "bulk_top.l_0.r = '1'" ∷ codes "bulk_top.l_1.d = '0'" ∷ codes "bulk_top.d_1.i_r = '1'"
      ∷ codes "bulk_top.d_1.o_d = '0'" ∷ codes "cycle 3 5000000 0" ∷ codes "cycle 4 5000000 1" ∷ codes "bulk_top.l_0.d = '1'"
      ∷ codes "bulk_top.d_1.i_d = '1'" ∷ codes "cycle 5 5000000 2" ∷ codes "bulk_top.l_1.d = '1'" ∷ codes "bulk_top.d_1.o_d = '1'"
      ∷ codes "cycle 6 10000000 0" ∷ codes "cycle 7 10000000 1" ∷ codes "bulk_top.l_0.d = '0'" ∷ codes "bulk_top.d_1.i_d = '0'"
      ∷ codes "cycle 8 10000000 2" ∷ codes "bulk_top.l_1.d = '0'" ∷ codes "bulk_top.d_1.o_d = '0'" ∷ codes "cycle 9 15000000 0"
      ∷ codes "cycle 10 15000000 1" ∷ codes "bulk_top.l_0.d = '1'" ∷ codes "bulk_top.d_1.i_d = '1'" ∷ codes "cycle 11 15000000 2"
      ∷ codes "bulk_top.l_1.d = '1'" ∷ codes "bulk_top.d_1.o_d = '1'" ∷ codes "cycle 12 20000000 0" ∷ codes "cycle 13 20000000 1"
      ∷ codes "bulk_top.l_0.d = '0'" ∷ codes "bulk_top.d_1.i_d = '0'" ∷ codes "cycle 14 20000000 2" ∷ codes "bulk_top.l_1.d = '0'"
      ∷ codes "bulk_top.d_1.o_d = '0'" ∷ codes "cycle 15 25000000 0" ∷ codes "cycle 16 25000000 1" ∷ codes "bulk_top.l_0.d = '1'"
      ∷ codes "bulk_top.d_1.i_d = '1'" ∷ codes "cycle 17 25000000 2" ∷ codes "bulk_top.l_1.d = '1'" ∷ codes "bulk_top.d_1.o_d = '1'"
      ∷ codes "cycle 18 30000000 0" ∷ codes "cycle 19 30000000 1" ∷ codes "bulk_top.l_0.d = '0'" ∷ codes "bulk_top.d_1.i_d = '0'"
      ∷ codes "cycle 20 30000000 2" ∷ codes "bulk_top.l_1.d = '0'" ∷ codes "bulk_top.d_1.o_d = '0'" ∷ codes "done" ∷ [])
