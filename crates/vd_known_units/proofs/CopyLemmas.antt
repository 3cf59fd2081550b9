-- What an instance declares for what its package declares, one by one.
use Rattle.std.proofs.Common.{◌≡◌, ◌+◌, ◌++◌, ◌<◌, List, [], ◌∷◌, ap, ap₂, append_assoc, arith, get_or, length, refl, suc, sym, take, ℕ, ◌∙◌}
use Rattle.std.proofs.Math.Seq.{take-suc}
use Rattle.std.proofs.lemmas.List.{append-nil, get_or_default}
use Rattle.vd_declarations.specs.declared.declarations.Declaration.{Declaration}
use Rattle.vd_known_units.specs.Copies.{copies_there, parameters_there, with_parameters_there}
use Rattle.vd_meaning.specs.Tables.{copies_in, declared_in, pairs, table}
use Rattle.vd_port_modes.proofs.CopyLemmas.{pairs_more}
use Rattle.vd_port_modes.specs.Source.{declared_there}
use Rattle.vd_trees.specs.declared.revision.Revision.{Revision}
use Rattle.vd_value_rules.specs.Declaring.{with_parameters}
use Rattle.vd_value_rules.specs.Designs.{Design}

-- ---- pairs of two lists

pub pair_added : (ms ns : List ℕ) (j a b x y : ℕ) (old made grown : List (ℕ × ℕ)) → j < length ms → j < length ns → x ≡ get_or ms j a → y ≡ get_or ns j b
    → made ≡ old ++ take j (pairs ms ns) → grown ≡ made ++ (x, y) ∷ [] → grown ≡ old ++ take (j + 1) (pairs ms ns)
pair_added ms ns j a b x y old made grown within_ms within_ns x_is y_is made_is grown_is =
    let first = x_is ∙ get_or_default ms j a 0 within_ms in
    let second = y_is ∙ get_or_default ns j b 0 within_ns in
    grown_is ∙ ap₂ (λ xs p. xs ++ p ∷ []) made_is (ap₂ (λ p q. (p, q)) first second)
    ∙ append_assoc old (take j (pairs ms ns)) ((get_or ms j 0, get_or ns j 0) ∷ [])
    ∙ ap (λ xs. old ++ xs) (sym (pairs_more ms ns j within_ms within_ns))

-- ---- with the parameters of functions

with_more : (ds : List Declaration) (cs : List (ℕ × ℕ)) (c : ℕ × ℕ)
    → with_parameters_there ds (cs ++ c ∷ []) ≡ with_parameters_there ds cs ++ c ∷ parameters_there ds c
with_more ds [] c = ap (λ ps. c ∷ ps) (append-nil (parameters_there ds c))
with_more ds (b ∷ cs) c =
    ap (λ ps. b ∷ (parameters_there ds b ++ ps)) (with_more ds cs c)
    ∙ ap (λ ps. b ∷ ps) (sym (append_assoc (parameters_there ds b) (with_parameters_there ds cs) (c ∷ parameters_there ds c)))

-- one pair more of the list
pub one_pair_more : (ds : List Declaration) (cs made grown after : List (ℕ × ℕ)) (j : ℕ) (c other : ℕ × ℕ) (ps : List (ℕ × ℕ)) → j < length cs
    → c ≡ get_or cs j other → made ≡ with_parameters_there ds (take j cs) → grown ≡ made ++ c ∷ [] → after ≡ grown ++ ps → ps ≡ parameters_there ds c
    → after ≡ with_parameters_there ds (take (j + 1) cs)
one_pair_more ds cs made grown after j c other ps inside is made_is grown_is after_is ps_is =
    let next : j + 1 ≡ suc j = omega arith in
    after_is ∙ ap (λ x. x ++ ps) grown_is ∙ append_assoc made (c ∷ []) ps ∙ ap (λ x. x ++ c ∷ ps) made_is
    ∙ ap (λ x. with_parameters_there ds (take j cs) ++ c ∷ x) ps_is
    ∙ sym (ap (λ k. with_parameters_there ds (take k cs)) next ∙ ap (with_parameters_there ds) (take-suc cs j other inside)
    ∙ with_more ds (take j cs) (get_or cs j other) ∙ ap (λ m. with_parameters_there ds (take j cs) ++ m ∷ parameters_there ds m) (sym is))

-- ---- the same, by the table of a design

module _ (d : Design) (r : Revision) (ds : List Declaration) (is : d.table ≡ table r ds) where
  parameters_are : (c : ℕ × ℕ) → parameters_there ds c ≡ pairs (d.table.declared c.0).parameters (d.table.declared c.1).parameters
  parameters_are c = ap₂ pairs (ap (λ t. (t.declared c.0).parameters) (sym is)) (ap (λ t. (t.declared c.1).parameters) (sym is))

  all_parameters_are : (cs : List (ℕ × ℕ)) → with_parameters_there ds cs ≡ with_parameters d cs
  all_parameters_are [] = refl
  all_parameters_are (c ∷ cs) = ap₂ (λ ps qs. c ∷ (ps ++ qs)) (parameters_are c) (all_parameters_are cs)

  declared_is : (n : ℕ) → declared_there ds n ≡ declared_in d.table n
  declared_is n = ap (λ t. declared_in t n) (sym is)

  pub copies_are : (original instance : ℕ) → with_parameters_there ds (copies_there ds original instance) ≡ with_parameters d (copies_in d.table original instance)
  copies_are original instance =
      ap (with_parameters_there ds) (ap₂ pairs (declared_is original) (declared_is instance)) ∙ all_parameters_are (copies_in d.table original instance)
