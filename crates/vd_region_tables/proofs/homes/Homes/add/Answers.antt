use Rattle.std.proofs.Common.{◌≡◌, ◌∷◌, [], ℕ, List, Option, Some, None, Vec, Global, rules, inl, inr, cond, arith, sym, ap, subst, ◌∙◌}
use Rattle.std.specs.List.{Contains}
use Rattle.std.specs.Map.{lookup}
use Rattle.std.specs.Option.{option_map_or}
use Rattle.std.specs.Str.{bytes_eq}
use Rattle.std.proofs.lemmas.Bool.{cases_Bool}
use Rattle.std.proofs.lemmas.List.Elements.{Contains-append_left}
use Rattle.std.proofs.lemmas.Slice.Eq.{bytes_eq-Decides}
use Rattle.indexmap.specs.IndexMap.{get}
use Rattle.vd_region_tables.specs.declared.keys.Name.{Name}
use Rattle.vd_region_tables.specs.Tables.{same_name}
use Rattle.vd_region_tables.proofs.homes.Homes.add.Goals as goal

no_member : (r : ℕ) → Contains [] r → ⊥
no_member r (k, within, is) = omega (arith, within)

-- where a name's value changes to one with all that was there
kept : {X : Type 0} (items : X → List ℕ) (old new : Name → Option X) (own : Name) (w : X)
    → ((q : Name) → new q ≡ cond (same_name own q) (Some w) (old q))
    → ((q : Name) → own.bytes.items ≡ q.bytes.items → (r : ℕ) → Contains (option_map_or items (old q) []) r → Contains (items w) r)
    → (q : Name) (r : ℕ) → Contains (option_map_or items (old q) []) r → Contains (option_map_or items (new q) []) r
kept items old new own w updated grown q r m = elim (cases_Bool (same_name own q)) [
  | inl same ↦ subst (λ o. Contains (option_map_or items o []) r) (sym (updated q ∙ ap (λ b. cond b (Some w) (old q)) same))
      (grown q ((bytes_eq-Decides _ _).0 same) r m)
  | inr other ↦ subst (λ o. Contains (option_map_or items o []) r) (sym (updated q ∙ ap (λ b. cond b (Some w) (old q)) other)) m
]

-- what stands at a name is what stands at another with the same bytes
found_at : {X : Type 0} (items : X → List ℕ) (entries : List (Name × X)) (own q : Name) (o : Option X) → own.bytes.items ≡ q.bytes.items
    → lookup (same_name own) entries ≡ o → (r : ℕ) → Contains (option_map_or items (lookup (same_name q) entries) []) r → Contains (option_map_or items o []) r
found_at {X} items entries own q o same found r m =
    subst (λ o. Contains (option_map_or items o []) r) (ap (λ bytes. lookup {X = X} (λ (k : Name). bytes_eq bytes k.bytes.items) entries) (sym same) ∙ found) m

pub returns-in_err-push-clause-kept : goal.returns-in_err-push-clause-kept
returns-in_err-push-clause-kept c =
    kept (λ (v : Vec ℕ Global). v.items) (get same_name c.args.self.now.map) (get same_name (c.get_mut.follows.lender c.push.new.self)) c.args.name c.push.new.self
    ((c.get_mut.follows.holds c.push.new.self).3 (search rules)).0
    (λ q same r m. subst (λ xs. Contains xs r) (sym c.in_err-push.ensures.items)
    (found_at (λ (v : Vec ℕ Global). v.items) c.args.self.now.map.entries c.args.name q (Some c.in-Some.regions.now) same (sym c.in-Some.ensures.value) r m))

pub returns-in-Some-clause-kept : goal.returns-in-Some-clause-kept
returns-in-Some-clause-kept c =
    kept (λ (v : Vec ℕ Global). v.items) (get same_name c.args.self.now.map) (get same_name (c.get_mut.follows.lender c.push.new.self)) c.args.name c.push.new.self
    ((c.get_mut.follows.holds c.push.new.self).3 (search rules)).0
    (λ q same r m. subst (λ xs. Contains xs r) (sym c.in_ok-push.ensures.items)
    (Contains-append_left c.in-Some.regions.now.items (c.args.region ∷ []) r
    (found_at (λ (v : Vec ℕ Global). v.items) c.args.self.now.map.entries c.args.name q (Some c.in-Some.regions.now) same (sym c.in-Some.ensures.value) r m)))

pub returns-clause-kept : goal.returns-clause-kept
returns-clause-kept c =
    kept (λ (v : Vec ℕ Global). v.items) (get same_name c.args.self.now.map) (get same_name c.insert.new.self) c.args.name c.push-2.new.self
    (λ q. c.in_ok-insert.ensures.updates.0 q
    ∙ ap (λ m. cond (same_name c.args.name q) (Some c.push-2.new.self) (get same_name m q)) c.get_mut.follows.holds-at-none)
    (λ q same r m. absurd (no_member r
    (found_at (λ (v : Vec ℕ Global). v.items) c.args.self.now.map.entries c.args.name q None same (sym c.in_default.ensures.value) r m)))
