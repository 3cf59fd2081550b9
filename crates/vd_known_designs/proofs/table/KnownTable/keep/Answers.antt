use Rattle.std.proofs.Common.{◌≡◌, ◌+◌, ◌++◌, None, Some, arith, vec_len}
use Rattle.std.specs.Option.{MatchOption, option_to_list}
use Rattle.vd_known_designs.proofs.KnownLemmas.{known_kept, none_before}
use Rattle.vd_known_designs.specs.Known.{HasKnown}
use Rattle.vd_known_designs.proofs.table.KnownTable.keep.Goals as goal

pub returns-clause-known : goal.returns-clause-known
returns-clause-known c = λ t now k ks known.
    let x = c.args.self.now in
    let left = c.pop.new.self in
    elim c.pop.result
    as (λ r. x.marks.items ≡ left.items ++ option_to_list r → MatchOption r ((vec_len x.marks ≡ 0) × (vec_len left ≡ 0)) (λ _. vec_len left + 1 ≡ vec_len x.marks)
    → HasKnown t x.subtypes x.contents x.log.items left.items now ks) [
      | None ↦ λ popped cases. none_before t x.subtypes x.contents x.log.items x.marks.items now k ks (omega (arith, cases.0)) known
      | Some m ↦ λ popped cases. known_kept t x.subtypes x.contents x.log.items x.marks.items left.items m now k ks popped known
    ] c.pop.ensures.items c.pop.ensures.cases
