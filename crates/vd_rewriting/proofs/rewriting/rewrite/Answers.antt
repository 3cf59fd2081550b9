use Rattle.std.proofs.Common.{◌≡◌, ◌<◌, ◌+◌, length, sym, ◌∙◌, subst, arith}
use Rattle.std.proofs.lemmas.Grind.{common_steps}
use Rattle.vd_forest.proofs.StoreLemmas.{extends_trans}
use Rattle.vd_rewriting.proofs.RewritingLemmas.{IsTable, entry_is, table_more}
use Rattle.vd_rewriting.proofs.rewriting.rewrite.Goals as goal

pub loop-older-preserved : goal.loop-older-preserved
loop-older-preserved g c =
    let i = c.loop-older.invariant in
    let v = c.visit-visited.result in
    let fs = c.stands-number.result.0.now in
    let pass = g.P.Rewriting.pass c.loop-older.by in
    let table = c.loop-older.table.items in
    let last : c.loop-older.older + 1 ≡ length table = sym i.entries in
    let parts_in : v.parts < length table = omega arith in
    let next_in : v.next < length table = omega arith in
    let made = c.in_ok-made in
    let more =
    table_more pass fs c.loop-older.out c.make.new.out table (c.loop-older.older + 1) v.parts v.next c.index-parts.result.now c.index-next.result.now made.made
    v.node.form v.node.text.now v.node.place v.node.parts i.table made.ensures.extends last
    (entry_is pass fs c.loop-older.out table v.parts c.index-parts.result.now i.table parts_in c.index-parts.ensures)
    (entry_is pass fs c.loop-older.out table v.next c.index-next.result.now i.table next_in c.index-next.ensures)
    c.visit-visited.ensures.is c.visit-visited.ensures.parts made.ensures.holds in
    record {
      entries = grind (arith, common_steps);
      table =
          subst (λ p. IsTable p fs c.make.new.out c.push-in-loop-older.new.self.items) (sym made.ensures.same_pass)
          (subst (IsTable pass fs c.make.new.out) (sym c.in_ok-push-2.ensures.items) more);
      extends = extends_trans _ _ _ i.extends made.ensures.extends;
      same_pass = made.ensures.same_pass ∙ i.same_pass;
    }
