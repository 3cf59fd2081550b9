use Rattle.std.proofs.Common.{◌≡◌, sym, ap, subst, ◌∙◌}
use Rattle.vd_forest.specs.Store.{Holds}
use Rattle.vd_shapes.specs.Shapes.{shape}
use Rattle.vd_shapes.specs.Standing.{planted_all, trees_of}
use Rattle.vd_shapes.proofs.ShapeLemmas.{shape_stands}
use Rattle.vd_shapes.proofs.shaping.shape.Goals as goal

pub returns : goal.returns
returns c =
    let told = c.in_ok-tell.ensures.answer in
    let g = c.tell.new.builder in
    let given = c.in_ok-growing.ensures.tables in
    let a : g.actions.now ≡ c.args.actions.now = ap (λ q. q.0) c.in_ok-tell.ensures.kept ∙ given.0 in
    let t : g.tokens.now ≡ c.args.tokens.now = ap (λ q. q.1) c.in_ok-tell.ensures.kept ∙ given.1 in
    let stands = shape_stands c.args.table.now.table c.args.symbols.now c.args.deep g told.tree told.parse told.taken in
    record {
      tree = told.tree;
      parse = told.parse;
      holds =
          subst (Holds c.gather.new.store c.in_ok-number.number)
          (ap (λ ts. planted_all (trees_of g.store ts g.entries.items)) (sym t) ∙ (stands ∙ (λ i. shape (a i) (t i) told.tree))) c.in_ok-number.ensures.holds;
    }
