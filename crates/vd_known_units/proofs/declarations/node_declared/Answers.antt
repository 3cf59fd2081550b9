use Rattle.std.proofs.Common.{◌∷◌, subst, sym}
use Rattle.vd_known_units.proofs.KindLemmas.{of_kind, told_apart}
use Rattle.vd_known_units.specs.Kinds.{alone_of, kept_of}
use Rattle.vd_known_units.specs.declared.kinds.Declaring.TheVariants as made
use Rattle.vd_known_designs.specs.Designs.{Knows}
use Rattle.vd_known_forms.proofs.FormLemmas.{ready_again}
use Rattle.vd_value_rules.specs.Declaring.{declared_by, declaring}
use Rattle.vd_known_units.proofs.declarations.node_declared.Goals as goal

pub kept_declared-requires : goal.kept_declared-requires
kept_declared-requires c =
    let r = c.requires.remembering in
    record { ready = ready_again r.design c.keep.new.design r.now r.round (c.keep.ensures.knows r.design r.now r.before r.round r.knows) }

pub alone_declared-requires : goal.alone_declared-requires
alone_declared-requires c =
    let r = c.requires.remembering in
    record { ready = ready_again r.design c.back.new.design r.before r.round (c.back.ensures.knows r.design r.now r.before r.round r.knows) }

pub returns-in-Kept : goal.returns-in-Kept
returns-in-Kept c = record {
  knows = λ d inner k ks views knows.
      let n = c.args.node.now in
      of_kind (kept_of c.in-Kept.kept) (declaring n.form) d n c.args.parts.now inner k ks c.kept_declared.new.design c.kept_declared.result
      (sym (told_apart (declaring n.form) c.declaring_of.result (made.Kept c.in-Kept.kept) c.declaring_of.ensures c.in-Kept.is))
      (c.kept_declared.ensures.knows d inner k ks (c.keep.ensures.knows d inner k ks knows));
}

pub returns-in-Alone : goal.returns-in-Alone
returns-in-Alone c = record {
  knows = λ d inner k ks views knows.
      let n = c.args.node.now in
      of_kind (alone_of c.in-Alone.alone) (declaring n.form) d n c.args.parts.now inner k ks c.alone_declared.new.design c.alone_declared.result
      (sym (told_apart (declaring n.form) c.declaring_of.result (made.Alone c.in-Alone.alone) c.declaring_of.ensures c.in-Alone.is))
      (c.alone_declared.ensures.knows d inner k ks views (c.back.ensures.knows d inner k ks knows));
}

pub returns-in-PackageInstance : goal.returns-in-PackageInstance
returns-in-PackageInstance c = record {
  knows = λ d inner k ks views knows.
      let n = c.args.node.now in
      subst (λ q. Knows d c.back-in-PackageInstance.new.design (declared_by q d n c.args.parts.now inner k ∷ ks))
      (told_apart (declaring n.form) c.declaring_of.result made.PackageInstance c.declaring_of.ensures c.in-PackageInstance.is)
      (c.back-in-PackageInstance.ensures.knows d inner k ks knows);
}
