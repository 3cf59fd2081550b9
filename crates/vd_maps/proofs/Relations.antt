-- The test for a join says what the relation between rows and paths says.
use Rattle.std.proofs.Common.{◌≡◌, ◌⊎◌, inl, inr, ℕ, true, false, List, [], ◌∷◌, ◌++◌, Option, Some, None, refl, sym, ap, ◌∙◌, subst, append_assoc}
use Rattle.std.proofs.lemmas.Bool.{or_cases, or_left, and_parts, and_from}
use Rattle.std.specs.Prelude.{is_some, ◌&&◌}
use Rattle.std.specs.List.{list_any}
use Rattle.vd_trees.specs.declared.paths.PathStep.{PathStep}
use Rattle.vd_trees.specs.declared.paths.Path.{Path}
use Rattle.vd_trees.specs.declared.rows.Row.{Row}
use Rattle.vd_trees.specs.Paths.{dotted}
use Rattle.vd_first_names.specs.Joins.{label_names, JoinsBy}
use Rattle.vd_first_names.specs.Joins as rows
use Rattle.vd_joins.specs.Joins.{map_of, levels_join, last_level, same_indexes, is_object, object_names, left_by, leave_same, stands_at, is_row_of, gives_objects, objects_join, joins}
use Rattle.vd_maps.specs.Laws.{JoinsAreThoseOfRows}
use Rattle.vd_maps.proofs.Names.{left_by_name, takes}
use Rattle.vd_maps.proofs.Tests.{Found, found, any_there, indexes_decide, steps_decide, levels_decide, object_kind, stands_by, stands_there}

-- ---- what both names leave

record LeaveSame (a b : Option (List PathStep)) : Type 0 where
  behind : List PathStep
  left : a ≡ Some behind
  right : b ≡ Some behind

both_leave : (a b : Option (List PathStep)) → leave_same a b ≡ true → LeaveSame a b
both_leave None b h = cc
both_leave (Some s) None h = cc
both_leave (Some s) (Some t) h = record { behind = s; left = refl; right = ap Some (sym ((steps_decide s t).0 h)) }

leaves_one : (a b : Option (List PathStep)) (behind : List PathStep) → a ≡ Some behind → b ≡ Some behind → leave_same a b ≡ true
leaves_one a b behind e f =
    subst (λ x. leave_same x b ≡ true) (sym e) (subst (λ y. leave_same (Some behind) y ≡ true) (sym f) ((steps_decide behind behind).1 refl))

-- the name of an object and fields of it
object_text : (p : Path) (name : List ℕ) (fields : List (List ℕ)) → name ≡ dotted (object_names p ++ fields) → name ≡ rows.object_name p.generates p.object fields
object_text p name fields e = e ∙ ap dotted (append_assoc (label_names p.generates) (p.object ∷ []) fields)

module _ (rs : List Row) (p q : Path) where
  -- ---- from the test

  by_row : rows.LevelsJoin rs [] p.levels q.levels → rows.SameIndexes p.generates q.generates → Found (gives_objects p q) rs → rows.Joins rs p q
  by_row levels indexes f =
      let row = f.item in
      let a = and_parts (is_row_of p row) (leave_same (left_by row.name19 (object_names p) p.rest) (left_by row.name93 (object_names q) q.rest)) f.passes in
      let b = and_parts (is_object row.kind) (stands_at row (last_level p.levels) && is_some (left_by row.name19 (object_names p) p.rest)) a.0 in
      let c = and_parts (stands_at row (last_level p.levels)) (is_some (left_by row.name19 (object_names p) p.rest)) b.1 in
      let place = stands_by row p.levels (last_level p.levels) refl c.0 in
      let left = both_leave (left_by row.name19 (object_names p) p.rest) (left_by row.name93 (object_names q) q.rest) a.1 in
      let t = takes p.rest row.name19 (object_names p) left.behind left.left in
      let u = takes q.rest row.name93 (object_names q) left.behind left.right in (
        row,
        record {
          stands = f.stands;
          object = (object_kind row.kind).0 b.0;
          levels = levels;
          level = place.level;
          last = place.last;
          unit = place.unit;
          indexes = indexes;
          fields19 = t.fields;
          fields93 = u.fields;
          behind = left.behind;
          rest19 = t.steps_are;
          rest93 = u.steps_are;
          name19 = object_text p row.name19 t.fields t.name_is;
          name93 = object_text q row.name93 u.fields u.name_is;
        },
      )

  found_or_stays : (list_any (gives_objects p q) rs ≡ true) ⊎ (false ≡ true) → Found (gives_objects p q) rs
  found_or_stays (inl h) = found (gives_objects p q) rs h
  found_or_stays (inr h) = cc

  to_rows : joins (map_of rs) p q ≡ true → rows.Joins rs p q
  to_rows h =
      let a = and_parts (levels_join (map_of rs) [] p.levels q.levels) (same_indexes p.generates q.generates && objects_join (map_of rs) p q) h in
      let b = and_parts (same_indexes p.generates q.generates) (objects_join (map_of rs) p q) a.1 in
      by_row ((levels_decide rs [] p.levels q.levels).0 a.0) ((indexes_decide p.generates q.generates).0 b.0)
      (found_or_stays (or_cases (list_any (gives_objects p q) rs) false b.1))

  -- ---- and back

  left_is : (r : Path) (name : List ℕ) (fields : List (List ℕ)) (behind : List PathStep) → r.rest ≡ rows.field_steps fields ++ behind → name ≡ rows.object_name r.generates r.object fields
      → left_by name (object_names r) r.rest ≡ Some behind
  left_is r name fields behind steps e =
      ap (left_by name (object_names r)) steps ∙ left_by_name (label_names r.generates) r.object fields behind name e

  gives : (row : Row) → JoinsBy rs row p q → gives_objects p q row ≡ true
  gives row j =
      let left = left_is p row.name19 j.fields19 j.behind j.rest19 j.name19 in
      let right = left_is q row.name93 j.fields93 j.behind j.rest93 j.name93 in
      and_from _ _
      (and_from _ _ ((object_kind row.kind).1 j.object) (and_from _ _ (stands_there row p.levels j.level j.last j.unit) (ap is_some left)))
      (leaves_one _ _ j.behind left right)

  from_rows : rows.Joins rs p q → joins (map_of rs) p q ≡ true
  from_rows z =
      and_from _ _ ((levels_decide rs [] p.levels q.levels).1 z.1.levels)
      (and_from _ _ ((indexes_decide p.generates q.generates).1 z.1.indexes) (or_left (list_any (gives_objects p q) rs) false (any_there (gives_objects p q) rs z.0 z.1.stands (gives z.0 z.1))))

pub joins_are_those_of_rows : JoinsAreThoseOfRows
joins_are_those_of_rows rs p q = (to_rows rs p q, from_rows rs p q)
