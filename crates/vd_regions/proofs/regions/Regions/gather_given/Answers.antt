use Rattle.std.proofs.Common.{◌≡◌, ◌<◌, ◌++◌, ℕ, List, length, get_or, sym, ap, subst, ◌∙◌}
use Rattle.std.specs.List.{Contains}
use Rattle.vd_regions.specs.declared.entries.Entered.{Entered}
use Rattle.vd_regions.specs.Scopes.{Scopes, nothing_entered}
use Rattle.vd_regions.specs.Found.{given_among}
use Rattle.vd_regions.proofs.GivenLemmas.{from_among, in_among}
use Rattle.vd_regions.proofs.regions.Regions.gather_given.Goals as goal

-- these have each region that declares a name
AreHomesOf : List Entered → List ℕ → List ℕ → Type 0
AreHomesOf es name homes = (k : ℕ) → k < length es → (get_or es k nothing_entered).declaration.name ≡ name → Contains homes (get_or es k nothing_entered).region

pub returns-clause-found : goal.returns-clause-found
unfolding AreHomesOf
returns-clause-found c = λ k.
    let s = c.args.self.now in
    let name = c.args.key.now.name.items in
    let homes = c.homes-homes.result.now in
    let found : c.add_given_among.new.found.items ≡ given_among s name c.args.regions.now homes =
    c.in_ok-add_given_among.ensures.found ∙ ap (λ xs. xs ++ given_among s name c.args.regions.now homes) c.new-found.ensures.items in
    let bytes : c.in_ok-bytes.bytes.items ≡ name = c.in_ok-bytes.ensures.items ∙ c.deref.ensures.value in
    let all : AreHomesOf c.args.self.now.entered c.args.key.now.name.items c.homes-homes.result.now =
    subst (λ n. AreHomesOf c.args.self.now.entered n c.homes-homes.result.now) bytes
    (subst (λ es. AreHomesOf es c.in_ok-bytes.bytes.items c.homes-homes.result.now) (ap (λ (s : Scopes). s.entered) c.self.view_is) c.homes-homes.ensures) in (
      λ m. from_among s name c.args.regions.now homes k (subst (λ xs. Contains xs k) found m),
      λ m. subst (λ xs. Contains xs k) (sym found) (in_among s name c.args.regions.now homes all k m),
    )
