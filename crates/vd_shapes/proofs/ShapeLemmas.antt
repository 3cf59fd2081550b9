-- Shapes at the start and at the end of a text.
use Rattle.std.proofs.Common.{◌≡◌, ℕ, List, [], ◌∷◌, reverse, refl, sym, ap, subst, ◌∙◌}
use Rattle.std.specs.List.{AllByRecursion}
use Rattle.vd_gram.specs.declared.tables.Table.{Table}
use Rattle.vd_gram.specs.Derivations.{Trees, nothing as no_tree, leaf, node, tree_count, Derive, IsParse}
use Rattle.vd_gram.specs.Runs.{steps_of}
use Rattle.vd_forest.specs.Forest.{Forest, nothing, reversed}
use Rattle.vd_forms.specs.declared.form.Form.{Form}
use Rattle.vd_shapes.specs.declared.actions.Action.TheVariants.{Splice}
use Rattle.vd_shapes.specs.declared.growing.Frame.{Frame}
use Rattle.vd_shapes.specs.declared.growing.Growing.{Growing}
use Rattle.vd_shapes.specs.Shapes.{shape}
use Rattle.vd_shapes.specs.Machine.{begun}
use Rattle.vd_shapes.specs.Standing.{StandsAt, IsGrown, planted_all, trees_of, AreFrames}
use Rattle.vd_shapes.proofs.FrameLemmas.{reversed_planted}
use Rattle.vd_shapes.proofs.MachineLemmas.{all_told}

pub nothing_grown : (g : Growing) → g.entries.items ≡ [] → g.frames.items ≡ record { action = Splice; left = 1; base = 0; start = 0 } ∷ [] → g.taken ≡ 0 → IsGrown g []
nothing_grown g entries frames taken = record {
  stands = record {
    within = subst (AllByRecursion _) (sym entries) tt;
    taken = taken;
    frames =
        subst (λ fs. AreFrames (reverse fs) begun.open_ones (trees_of g.store g.tokens.now g.entries.items) nothing) (sym frames)
        (subst (λ es. AreFrames (record { action = Splice; left = 1; base = 0; start = 0 } ∷ []) begun.open_ones (trees_of g.store g.tokens.now es) nothing) (sym entries)
        (record { action = refl; left = refl; start = refl }, (refl, refl)));
  };
}

one_tree : (t : Table) (s : ℕ) (f : Trees) → Derive t (s ∷ []) f → tree_count f ≡ 1
one_tree t s no_tree d = absurd d
one_tree t s (leaf x p no_tree) d = refl
one_tree t s (leaf x p (leaf y q n)) d = absurd d.2
one_tree t s (leaf x p (node k ps n)) d = absurd d.2
one_tree t s (node k ps no_tree) d = refl
one_tree t s (node k ps (leaf y q n)) d = absurd d.4
one_tree t s (node k ps (node j qs n)) d = absurd d.4

-- what stands there once a derivation is told is its shape
pub shape_stands : (t : Table) (symbols : List ℕ) (deep : ℕ) (g : Growing) (f : Trees) → IsParse t symbols deep f → IsGrown g (steps_of f)
    → planted_all (trees_of g.store g.tokens.now g.entries.items) ≡ shape g.actions.now g.tokens.now f
shape_stands t symbols deep g f p h =
    let s = subst (StandsAt g) (all_told g.actions.now g.tokens.now f (one_tree t t.start f p.derived)) h.stands in
    sym (reversed_planted (trees_of g.store g.tokens.now g.entries.items)) ∙ ap reversed (sym (none_open (reverse g.frames.items) s.frames))
  where
    none_open : {a : Forest Form} (fs : List Frame) → AreFrames fs [] (trees_of g.store g.tokens.now g.entries.items) a
        → a ≡ planted_all (reverse (trees_of g.store g.tokens.now g.entries.items))
    none_open [] k = k
    none_open (f ∷ fs) k = absurd k
