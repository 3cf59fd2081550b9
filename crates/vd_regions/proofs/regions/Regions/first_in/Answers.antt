use Rattle.std.proofs.Common.{◌≡◌, ℕ, List, false, Option, Some, None, length, refl, sym, ap, subst, ◌∙◌, true≢false}
use Rattle.std.specs.Option.{is_some}
use Rattle.vd_declarations.specs.Classes.{is_function, is_copy}
use Rattle.vd_regions.specs.declared.entries.Entered.{Entered}
use Rattle.vd_region_tables.specs.declared.table.Table.{Table}
use Rattle.vd_regions.specs.Scopes.{Scopes}
use Rattle.vd_regions.specs.Found.{earlier}
use Rattle.vd_regions.specs.Links.{first_below}
use Rattle.vd_regions.specs.Indexes.{IsTable, IsSortOf, stands_alone_in, first_by_sorts}
use Rattle.vd_regions.proofs.SortLemmas.{first_of_plain, first_by_tables}
use Rattle.vd_regions.proofs.regions.Regions.first_in.Goals as goal

none_of : {X : Type 0} (o : Option X) → is_some o ≡ false → o ≡ None
none_of None e = refl
none_of (Some x) e = absurd (true≢false e)

-- the table of the key is that of the region and the name
of_key : (es fs : List Entered) (region r : ℕ) (name n : List ℕ) (table : Table) → es ≡ fs → r ≡ region → n ≡ name → IsTable es r n table
    → IsTable fs region name table
of_key es fs region r name n table same_list same_region same_name is =
    subst (λ xs. IsTable xs region name table) same_list
    (subst (λ x. IsTable es x name table) same_region (subst (λ x. IsTable es r x table) same_name is))

pub returns-then-not-is_overloadable : goal.returns-then-not-is_overloadable
returns-then-not-is_overloadable c =
    let table : IsTable c.args.self.now.entered c.args.region c.args.new.now.name c.table-table.result =
    of_key c.self.inside.catalog c.args.self.now.entered c.args.region c.in_ok-key.key.region c.args.new.now.name c.in_ok-key.key.name.items c.table-table.result
    (ap (λ (s : Scopes). s.entered) c.self.view_is) c.in_ok-key.ensures.0 (c.in_ok-key.ensures.1 ∙ c.as_slice.ensures) c.table-table.ensures in
    table.begins
    ∙ sym (first_of_plain c.args.self.now c.args.region c.args.new.now (sym c.is_overloadable.ensures ∙ c.if-not-is_overloadable.true)
    (sym c.library.ensures ∙ none_of c.library.result (sym c.is_some.ensures ∙ c.if-is_some.false)))

pub returns : goal.returns
returns c =
    let seen : c.self.inside.catalog ≡ c.args.self.now.entered = ap (λ (s : Scopes). s.entered) c.self.view_is in
    let table : IsTable c.args.self.now.entered c.args.region c.args.new.now.name c.table-table.result =
    of_key c.self.inside.catalog c.args.self.now.entered c.args.region c.in_ok-key.key.region c.args.new.now.name c.in_ok-key.key.name.items c.table-table.result
    seen c.in_ok-key.ensures.0 (c.in_ok-key.ensures.1 ∙ c.as_slice.ensures) c.table-table.ensures in
    let sort : IsSortOf c.args.self.now.entered c.args.region c.args.new.now c.in_ok-sort.sort =
    subst (λ es. IsSortOf es c.args.region c.args.new.now c.in_ok-sort.sort) seen c.in_ok-sort.ensures in
    let sorted : c.first_of_sorts-overloaded.result
    ≡ first_by_sorts c.args.self.now.entered c.in_ok-sort.sort (is_function c.args.new.now.class) (is_copy c.args.new.now.class) =
    c.first_of_sorts-overloaded.ensures
    ∙ ap (λ b. first_by_sorts c.args.self.now.entered c.in_ok-sort.sort b c.is_copy.result) c.is_function.ensures
    ∙ ap (first_by_sorts c.args.self.now.entered c.in_ok-sort.sort (is_function c.args.new.now.class)) c.is_copy.ensures in
    c.earlier.ensures
    ∙ ap (λ o. earlier o c.first_of_sorts-overloaded.result) table.begins_alone
    ∙ ap (earlier (first_below (stands_alone_in c.args.region c.args.new.now.name) c.args.self.now.entered (length c.args.self.now.entered))) sorted
    ∙ sym (first_by_tables c.args.self.now c.args.region c.args.new.now c.in_ok-sort.sort sort (sym c.is_overloadable.ensures ∙ c.if-not-is_overloadable.false))
