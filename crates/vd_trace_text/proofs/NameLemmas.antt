-- Names with dots between them, and with a dot behind each.
use Rattle.std.proofs.Common.{◌≡◌, ℕ, ◌-◌, false, List, [], ◌∷◌, ◌++◌, length, take, map, refl, sym, ap, ◌∙◌, append_assoc, length-append, arith}
use Rattle.std.proofs.Math.Seq.{take-append_seam}
use Rattle.std.specs.Prelude.{◌==◌}
use Rattle.std.specs.List.{flat_map}
use Rattle.std.proofs.lemmas.Grind.{flat_map-append}
use Rattle.std.proofs.lemmas.List.{append-nil}
use Rattle.std.proofs.lemmas.List.Folds.{flat_map-map}
use Rattle.vd_trees.specs.declared.paths.Label.{Label}
use Rattle.vd_trees.specs.declared.paths.Level.{Level}
use Rattle.vd_trees.specs.declared.paths.Path.{Path}
use Rattle.vd_trees.specs.declared.paths.Scope.{Scope}
use Rattle.vd_trees.specs.Paths.{dotted, label_text, top_names, way_to, step_text, path_text, scope_names, scope_text}
use Rattle.vd_trace_text.specs.Names.{with_dot, label_with_dot, labels_of, way_with_dots}

-- a way is the top's name and two rows of labels
pub way_with_dots-parts : (levels : List Level) (generates : List Label)
    → way_with_dots levels generates ≡ flat_map with_dot (top_names levels) ++ (flat_map label_with_dot (labels_of levels) ++ flat_map label_with_dot generates)
way_with_dots-parts levels generates =
    let labels : List Label = labels_of levels ++ generates in
    flat_map-append with_dot (top_names levels) (map label_text labels)
    ∙ ap (λ x. flat_map with_dot (top_names levels) ++ x) (flat_map-map with_dot label_text labels ∙ flat_map-append label_with_dot (labels_of levels) generates)

-- these texts, written one behind the other
pub written_way : (old top labels new : List ℕ) (levels : List Level) (generates : List Label)
    → top ≡ old ++ flat_map with_dot (top_names levels)
    → labels ≡ top ++ flat_map label_with_dot (labels_of levels)
    → new ≡ labels ++ flat_map label_with_dot generates
    → new ≡ old ++ way_with_dots levels generates
written_way old top labels new levels generates t l n =
    let f : List ℕ = flat_map with_dot (top_names levels) in
    let g : List ℕ = flat_map label_with_dot (labels_of levels) in
    let h : List ℕ = flat_map label_with_dot generates in
    n ∙ ap (λ x. x ++ h) (l ∙ ap (λ x. x ++ g) t) ∙ append_assoc (old ++ f) g h ∙ append_assoc old f (g ++ h) ∙ ap (λ x. old ++ x) (sym (way_with_dots-parts levels generates))

-- the dot behind the last name is the only one that is too many
pub flat_map-with_dot : (x : List ℕ) (xs : List (List ℕ)) → flat_map with_dot (x ∷ xs) ≡ dotted (x ∷ xs) ++ 46 ∷ []
flat_map-with_dot x [] = append-nil (with_dot x)
flat_map-with_dot x (y ∷ ys) =
    append_assoc x (46 ∷ []) (flat_map with_dot (y ∷ ys)) ∙ ap (λ f. x ++ 46 ∷ f) (flat_map-with_dot y ys) ∙ sym (append_assoc x (46 ∷ dotted (y ∷ ys)) (46 ∷ []))

dotted-cons : (x : List ℕ) (xs : List (List ℕ)) (last : List ℕ) → dotted (x ∷ xs ++ last ∷ []) ≡ x ++ 46 ∷ dotted (xs ++ last ∷ [])
dotted-cons x [] last = refl
dotted-cons x (y ∷ ys) last = refl

-- names with dots, and a last one
pub dotted-push : (xs : List (List ℕ)) (last : List ℕ) → dotted (xs ++ last ∷ []) ≡ flat_map with_dot xs ++ last
dotted-push [] last = refl
dotted-push (x ∷ xs) last =
    dotted-cons x xs last
    ∙ ap (λ f. x ++ 46 ∷ f) (dotted-push xs last)
    ∙ sym (append_assoc x (46 ∷ []) (flat_map with_dot xs ++ last))
    ∙ sym (append_assoc (with_dot x) (flat_map with_dot xs) last)

-- a path is its way, its object and the steps into that
pub written_path : (old way object new : List ℕ) (p : Path)
    → way ≡ old ++ way_with_dots p.levels p.generates
    → object ≡ way ++ p.object
    → new ≡ object ++ flat_map step_text p.rest
    → new ≡ old ++ path_text p
written_path old way object new p w o n =
    let names : List ℕ = way_with_dots p.levels p.generates in
    let rest : List ℕ = flat_map step_text p.rest in
    n
    ∙ ap (λ x. x ++ rest) (o ∙ ap (λ x. x ++ p.object) w ∙ append_assoc old names p.object ∙ ap (λ x. old ++ x) (sym (dotted-push (way_to p.levels p.generates) p.object)))
    ∙ append_assoc old (dotted (way_to p.levels p.generates ++ p.object ∷ [])) rest

-- the names of a scope inside an entity
scope_names-dotted : (levels : List Level) (s : Scope) → false ≡ (length levels == 0) → way_with_dots levels s.generates ≡ dotted (scope_names levels s) ++ 46 ∷ []
scope_names-dotted [] s inside = cc
scope_names-dotted (top ∷ levels) s inside = flat_map-with_dot top.entity (map label_text (labels_of (top ∷ levels) ++ s.generates))

without_last : (front : List ℕ) (last : ℕ) (whole new : List ℕ) → whole ≡ front ++ last ∷ [] → new ≡ take (length whole - 1) whole → new ≡ front
without_last front last whole new w n =
    let shorter : length (front ++ last ∷ []) - 1 ≡ length front = simp length-append (omega arith) in
    n ∙ ap (λ x. take (length x - 1) x) w ∙ ap (λ k. take k (front ++ last ∷ [])) shorter ∙ take-append_seam front (last ∷ [])

-- a way without its last dot is a scope
pub written_scope : (old way new : List ℕ) (s : Scope) → false ≡ (length s.levels == 0) → way ≡ old ++ way_with_dots s.levels s.generates → new ≡ take (length way - 1) way → new ≡ old ++ scope_text s
written_scope old way new s inside w n =
    without_last (old ++ scope_text s) 46 way new
    (w ∙ ap (λ x. old ++ x) (scope_names-dotted s.levels s inside) ∙ sym (append_assoc old (scope_text s) (46 ∷ [])))
    n
