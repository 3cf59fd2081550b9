use Rattle.std.proofs.Common.{None, Some, sym, ap, ◌∙◌, subst}
use Rattle.vd_composites.specs.Answers.{Answers}
use Rattle.vd_composites.specs.declared.scalars.ScalarSubtype.{ScalarSubtype}
use Rattle.vd_composites.specs.declared.scalars.ScalarType.TheVariants.{Integers}
use Rattle.vd_composites.specs.Subtypes.{Arrays, Records, no_more}
use Rattle.vd_subtypes.specs.Heads.{fit_head}
use Rattle.vd_subtypes.proofs.HeadLemmas.{fits_by_head, fields_of, fields_long}
use Rattle.vd_subtypes.specs.declared.heads.SubtypeHead.TheVariants.{Record as RecordHead}
use Rattle.vd_subtypes.proofs.heads.fit.Goals as goal

pub returns-in-Unbounded : goal.returns-in-Unbounded
returns-in-Unbounded c =
    let s = Arrays c.in-Unbounded.index None (Records no_more) in
    subst (Answers c.fit_free.result) (fits_by_head s c.in-Ok.copy ∙ (λ i. fit_head (sym c.in-Unbounded.is i) (c.in-Ok.ensures i))) (c.fit_free.ensures (Records no_more))

pub returns-in-Bounded : goal.returns-in-Bounded
returns-in-Bounded c =
    let index : ScalarSubtype = record { of_type = Integers; range = c.in-Bounded.bounds } in
    let s = Arrays index (Some c.in-Bounded.bounds) (Records no_more) in
    subst (Answers c.fit_bounded.result) (fits_by_head s c.in-Ok.copy ∙ (λ i. fit_head (sym c.in-Bounded.is i) (c.in-Ok.ensures i))) (c.fit_bounded.ensures index (Records no_more))

pub returns-in-Record : goal.returns-in-Record
returns-in-Record c =
    let of = fields_of c.in-Record.fields in
    subst (Answers c.fit_record.result)
    (fits_by_head (Records of) c.in-Ok.copy ∙ ap (λ n. fit_head (RecordHead n) c.in-Ok.copy) (fields_long c.in-Record.fields) ∙ (λ i. fit_head (sym c.in-Record.is i) (c.in-Ok.ensures i)))
    (c.fit_record.ensures of (fields_long c.in-Record.fields))
