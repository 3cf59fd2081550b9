use Rattle.std.proofs.Common.{◌≡◌, ◌<◌, ℕ, List, length, get_or, sym, ap, subst, ◌∙◌}
use Rattle.std.specs.List.{Contains}
use Rattle.vd_regions.specs.declared.entries.Entered.{Entered}
use Rattle.vd_regions.specs.Scopes.{Scopes, nothing_entered}
use Rattle.vd_regions.specs.Runs.{SeesAs, nearest}
use Rattle.vd_regions.proofs.RunLemmas.{sees_on, sees_nearest}
use Rattle.vd_regions.proofs.regions.Regions.go_to_first.Goals as goal

-- these have each region that declares the name
AreHomesOf : List Entered → List ℕ → List ℕ → Type 0
AreHomesOf es name homes = (k : ℕ) → k < length es → (get_or es k nothing_entered).declaration.name ≡ name → Contains homes (get_or es k nothing_entered).region

pub returns-clause-sees : goal.returns-clause-sees
unfolding AreHomesOf
returns-clause-sees c =
    let s = c.args.self.now in
    let name = c.args.key.now.name.items in
    let homes = c.homes-homes.result.now in
    let near = c.go_outwards.new.key.region in
    let bytes : c.in_ok-bytes.bytes.items ≡ c.args.key.now.name.items = c.in_ok-bytes.ensures.items ∙ c.deref.ensures.value in
    let all : AreHomesOf c.args.self.now.entered c.args.key.now.name.items c.homes-homes.result.now =
    subst (λ n. AreHomesOf c.args.self.now.entered n c.homes-homes.result.now) bytes
    (subst (λ es. AreHomesOf es c.in_ok-bytes.bytes.items c.homes-homes.result.now) (ap (λ (s : Scopes). s.entered) c.self.view_is) c.homes-homes.ensures) in
    subst (λ n. SeesAs c.args.self.now c.args.key.now.name.items c.args.key.now.region n) (sym c.nearest-key.ensures)
    (sees_on s name c.args.key.now.region near (nearest near c.run-run.result homes) c.go_outwards.ensures.sees
    (sees_nearest s name homes all c.run-run.result near c.go_outwards.ensures.run))
