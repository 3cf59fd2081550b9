-- The scalar values among the nodes of a value are its leaves.
use Rattle.std.proofs.Common.{◌≡◌, ℕ, zero, suc, ◌+◌, List, [], ◌∷◌, ◌++◌, Some, refl, sym, ap, ◌∙◌}
use Rattle.std.proofs.lemmas.List.{append_assoc, append-nil}
use Rattle.vd_values.specs.declared.scalar.Scalar.{Scalar}
use Rattle.vd_values.specs.declared.scalar.Scalar.TheVariants.{Integer as OfInteger, Literal as OfLiteral, Time as OfTime}
use Rattle.vd_composites.specs.declared.nodes.Node.{Node}
use Rattle.vd_composites.specs.declared.nodes.Node.TheVariants.{Integer, Literal, Time, Array as ArrayNode, Right, Fields as FieldsNode}
use Rattle.vd_composites.specs.Ranges.{length_of}
use Rattle.vd_composites.specs.Composites.{Items, none, item, count, without, first_of, leaves, all_leaves}
use Rattle.vd_composites.specs.Leaves.{scalars_in}
use Rattle.vd_composites.specs.Nodes.{bounds_from, read, after, value_in}
use Rattle.vd_composites.proofs.NodeLemmas.{counted}

-- the first items and the others have the leaves of all
leaves_split : (n : ℕ) (vs : Items Scalar) → all_leaves (first_of n vs) ++ all_leaves (without n vs) ≡ all_leaves vs
leaves_split zero vs = refl
leaves_split (suc n) none = refl
leaves_split (suc n) (item v vs) =
    append_assoc (leaves v) (all_leaves (first_of n vs)) (all_leaves (without n vs)) ∙ ap (λ xs. leaves v ++ xs) (leaves_split n vs)

all_read : (m : ℕ) (ns : List Node) → after m ns ≡ Some 0 → all_leaves (read ns) ≡ scalars_in ns
all_read m [] h = refl
all_read zero (n ∷ ns) h = absurd cc
all_read (suc m) (Integer x ∷ ns) h = ap (λ xs. OfInteger x ∷ xs) (all_read m ns h)
all_read (suc m) (Literal p ∷ ns) h = ap (λ xs. OfLiteral p ∷ xs) (all_read m ns h)
all_read (suc m) (Time t ∷ ns) h = ap (λ xs. OfTime t ∷ xs) (all_read m ns h)
all_read (suc m) (ArrayNode left down ∷ Right right ∷ ns) h =
    leaves_split (length_of (bounds_from left down right)) (read ns) ∙ all_read (length_of (bounds_from left down right) + m) ns h
all_read (suc m) (FieldsNode n ∷ ns) h = leaves_split n (read ns) ∙ all_read (n + m) ns h
all_read (suc m) (n ∷ ns) h = absurd cc

one_read : (vs : Items Scalar) → count vs ≡ 1 → leaves (value_in vs) ≡ all_leaves vs
one_read none h = absurd cc
one_read (item v none) h = sym (append-nil (leaves v))
one_read (item v (item w vs)) h = absurd cc

pub leaves_read : (ns : List Node) → after 1 ns ≡ Some 0 → scalars_in ns ≡ leaves (value_in (read ns))
leaves_read ns h = sym (one_read (read ns) (counted 1 ns h) ∙ all_read 1 ns h)
