use Rattle.std.proofs.Common.{◌∙◌, sym, subst, reverse, arith}
use Rattle.std.proofs.lemmas.List.{length-map}
use Rattle.vd_shapes.specs.declared.growing.Frame.{Frame}
use Rattle.vd_shapes.specs.declared.growing.Growing.{Growing}
use Rattle.vd_forms.specs.declared.form.Form.{Form}
use Rattle.vd_shapes.specs.Machine.{Open, Machine, closed}
use Rattle.vd_shapes.specs.Standing.{AreFrames, trees_of, tree_of, IsMade, IsPopped, IsMakeable, PoppedAt, StandsAt}
use Rattle.vd_shapes.proofs.FrameLemmas.{closes_group, closes_make, closes_wrap, base_popped}
use Rattle.vd_shapes.proofs.growing.Growing.close.Goals as goal

makeable : (g : Growing) (f : Frame) → IsPopped g f → IsMakeable g f.base
makeable g f p =
    let within = base_popped g.actions.now g.tokens.now f p.open_one (reverse g.frames.items) p.machine.open_ones (trees_of g.store g.tokens.now g.entries.items) p.machine.so_far p.stands.frames in
    record { base_in = omega (arith, within, length-map g.entries.items (tree_of g.store g.tokens.now)); within = p.stands.within }

pub make-requires-in-Wrap : goal.make-requires-in-Wrap
make-requires-in-Wrap c = makeable c.args.self.now c.args.frame c.requires

pub returns-in-Group-clause-stands : goal.returns-in-Group-clause-stands
returns-in-Group-clause-stands c = λ o m p.
    let g = c.args.self.now in
    record {
      within = p.within;
      taken = p.taken;
      frames = closes_group g.actions.now g.tokens.now c.args.frame o (reverse g.frames.items) m.open_ones (trees_of g.store g.tokens.now g.entries.items) m.so_far p.frames c.in-Group.is;
    }

-- a node was made of what stood there
stands_made : (g h : Growing) (f : Frame) (form : Form) (o : Open) (m : Machine) → PoppedAt g f o m → IsMade g h form f.base f.start
    → AreFrames (reverse g.frames.items) m.open_ones (trees_of h.store h.tokens.now h.entries.items) (closed g.actions.now g.tokens.now o.action o.start o.outer m.so_far)
    → StandsAt h (record m { so_far = closed g.actions.now g.tokens.now o.action o.start o.outer m.so_far })
stands_made g h f form o m p made frames = record {
  within = made.within;
  taken = made.same_taken ∙ p.taken;
  frames = subst (λ fs. AreFrames (reverse fs.items) m.open_ones (trees_of h.store h.tokens.now h.entries.items) (closed g.actions.now g.tokens.now o.action o.start o.outer m.so_far)) (sym made.same_frames) frames;
}

pub returns-in_ok-make-in-Make-clause-stands : goal.returns-in_ok-make-in-Make-clause-stands
returns-in_ok-make-in-Make-clause-stands c = λ o m p.
    let g = c.args.self.now in
    let f = c.args.frame in
    let made = c.in_ok-make-in-Make.ensures in
    stands_made g c.make.new.self f c.in-Make.form o m p made
    (subst (λ ts. AreFrames (reverse g.frames.items) m.open_ones ts (closed g.actions.now g.tokens.now o.action o.start o.outer m.so_far)) (sym made.trees)
    (closes_make g.actions.now g.tokens.now f o (reverse g.frames.items) m.open_ones (trees_of g.store g.tokens.now g.entries.items) m.so_far p.frames c.in-Make.form c.in-Make.is))

pub returns-in_ok-make-in-Wrap-clause-stands : goal.returns-in_ok-make-in-Wrap-clause-stands
returns-in_ok-make-in-Wrap-clause-stands c = λ o m p.
    let g = c.args.self.now in
    let f = c.args.frame in
    let made = c.in_ok-make-in-Wrap.ensures in
    stands_made g c.make-in-Wrap.new.self f c.in-Wrap.form o m p made
    (subst (λ ts. AreFrames (reverse g.frames.items) m.open_ones ts (closed g.actions.now g.tokens.now o.action o.start o.outer m.so_far)) (sym made.trees)
    (closes_wrap g.actions.now g.tokens.now f o (reverse g.frames.items) m.open_ones (trees_of g.store g.tokens.now g.entries.items) m.so_far p.frames c.in-Wrap.form c.in-Wrap.is))
