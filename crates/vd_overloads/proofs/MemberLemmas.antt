-- Lists of prefixes with the same members.
use Rattle.std.proofs.Common.{◌≡◌, ◌<◌, ◌≤◌, ◌+◌, ℕ, inl, inr, List, [], ◌∷◌, ◌++◌, drop, length, get_or, sym, ap, subst, ◌∙◌, append_assoc, append-nil}
use Rattle.std.proofs.lemmas.List.{drop_more, drop_all}
use Rattle.std.specs.List.{Contains, flat_map}
use Rattle.std.proofs.lemmas.List.Elements.{Contains-append_left, Contains-append_right, Contains-append_cases}
use Rattle.vd_forest.specs.Forest.{Forest, nothing, more}
use Rattle.vd_forms.specs.declared.form.Form.{Form}
use Rattle.vd_readings.proofs.MemberLemmas.{single, in_flat_map, from_flat_map}
use Rattle.vd_visible.specs.Sights.{Sight}
use Rattle.vd_states.specs.declared.states.Prefix.{Prefix}
use Rattle.vd_states.specs.declared.ways.Way.{Way}
use Rattle.vd_overloads.specs.Goals.{SameMembers, behind, ends_behind, prefix_of, prefixes_behind}

pub itself : (ps : List Prefix) → SameMembers ps ps
itself ps = record { all = λ p c. c; no_more = λ p c. c }

pub through : (ps qs rs : List Prefix) → SameMembers ps qs → SameMembers qs rs → SameMembers ps rs
through ps qs rs a b = record { all = λ p c. a.all p (b.all p c); no_more = λ p c. b.no_more p (a.no_more p c) }

pub and_more : (ps qs rs : List Prefix) → SameMembers ps qs → SameMembers (ps ++ rs) (qs ++ rs)
and_more ps qs rs a = record {
  all = λ p c. elim (Contains-append_cases qs rs p c) [ inl d ↦ Contains-append_left ps rs p (a.all p d) | inr d ↦ Contains-append_right ps rs p d ];
  no_more = λ p c. elim (Contains-append_cases ps rs p c) [ inl d ↦ Contains-append_left qs rs p (a.no_more p d) | inr d ↦ Contains-append_right qs rs p d ];
}

pub stands_already : (ps : List Prefix) (q : Prefix) → Contains ps q → SameMembers ps (ps ++ q ∷ [])
stands_already ps q within = record {
  all = λ p c. elim (Contains-append_cases ps (q ∷ []) p c) [ inl d ↦ d | inr d ↦ subst (λ x. Contains ps x) (single q p d) within ];
  no_more = λ p c. Contains-append_left ps (q ∷ []) p c;
}

pub put_behind : (ps qs : List Prefix) → ps ≡ qs → SameMembers ps qs
put_behind ps qs is = subst (λ x. SameMembers ps x) is (itself ps)

pub same_behind : (s : Sight) (f : Forest Form) (ps qs : List Prefix) → SameMembers ps qs → SameMembers (ends_behind s ps f) (ends_behind s qs f)
same_behind s nothing ps qs a = a
same_behind s (more form text place parts next) ps qs a =
    same_behind s next (flat_map (behind s form text parts) ps) (flat_map (behind s form text parts) qs) (record {
      all = λ p c. let by = from_flat_map (behind s form text parts) qs p c in in_flat_map (behind s form text parts) ps by.0 p (a.all by.0 by.1) by.2;
      no_more = λ p c. let by = from_flat_map (behind s form text parts) ps p c in in_flat_map (behind s form text parts) qs by.0 p (a.no_more by.0 by.1) by.2;
    })

-- ---- one more of those that are gone through

pub way_step : (ways : List Way) (i : ℕ) (way : Way) (found found' whole : List Prefix) → i < length ways → way ≡ get_or ways i way
    → SameMembers found' (found ++ prefix_of way.after ∷ []) → SameMembers (found ++ prefixes_behind (drop i ways)) whole
    → SameMembers (found' ++ prefixes_behind (drop (i + 1) ways)) whole
way_step ways i way found found' whole within is added so_far =
    let rest = prefixes_behind (drop (i + 1) ways) in
    through (found' ++ rest) ((found ++ prefix_of way.after ∷ []) ++ rest) whole (and_more found' (found ++ prefix_of way.after ∷ []) rest added)
    (subst (λ (list : List Prefix). SameMembers list whole)
    (ap (λ (ws : List Way). found ++ prefixes_behind ws) (drop_more ways i way within) ∙ ap (λ (w : Way). found ++ prefix_of w.after ∷ rest) (sym is)
    ∙ sym (append_assoc found (prefix_of way.after ∷ []) rest)) so_far)

pub prefix_step : (f : Prefix → List Prefix) (prefixes : List Prefix) (i : ℕ) (prefix : Prefix) (found found' whole : List Prefix) → i < length prefixes
    → prefix ≡ get_or prefixes i prefix → SameMembers found' (found ++ f prefix) → SameMembers (found ++ flat_map f (drop i prefixes)) whole
    → SameMembers (found' ++ flat_map f (drop (i + 1) prefixes)) whole
prefix_step f prefixes i prefix found found' whole within is added so_far =
    let rest = flat_map f (drop (i + 1) prefixes) in
    through (found' ++ rest) ((found ++ f prefix) ++ rest) whole (and_more found' (found ++ f prefix) rest added)
    (subst (λ (list : List Prefix). SameMembers list whole)
    (ap (λ (ps : List Prefix). found ++ flat_map f ps) (drop_more prefixes i prefix within) ∙ ap (λ (p : Prefix). found ++ (f p ++ rest)) (sym is)
    ∙ sym (append_assoc found (f prefix) rest)) so_far)

-- and at the end
pub no_ways_left : (ways : List Way) (i : ℕ) (found whole : List Prefix) → length ways ≤ i → SameMembers (found ++ prefixes_behind (drop i ways)) whole
    → SameMembers found whole
no_ways_left ways i found whole all so_far =
    subst (λ (list : List Prefix). SameMembers list whole) (ap (λ (ws : List Way). found ++ prefixes_behind ws) (drop_all i ways all) ∙ append-nil found) so_far

pub no_prefixes_left : (f : Prefix → List Prefix) (prefixes : List Prefix) (i : ℕ) (found whole : List Prefix) → length prefixes ≤ i
    → SameMembers (found ++ flat_map f (drop i prefixes)) whole → SameMembers found whole
no_prefixes_left f prefixes i found whole all so_far =
    subst (λ (list : List Prefix). SameMembers list whole) (ap (λ (ps : List Prefix). found ++ flat_map f ps) (drop_all i prefixes all) ∙ append-nil found) so_far
