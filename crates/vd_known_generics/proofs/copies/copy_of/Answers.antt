use Rattle.std.proofs.Common.{refl, subst, sym}
use Rattle.vd_known_generics.proofs.CopyLemmas.{entry_of}
use Rattle.vd_static_values.specs.Entries.{IsEntry}
use Rattle.vd_known_generics.proofs.copies.copy_of.Goals as goal

pub returns : goal.returns
returns c = λ d k ks knows.
    let fs = c.args.design.now.table.subtypes in
    let own = k.env.denotes c.args.copy.0 in
    record {
      number_is = refl;
      entry_is = subst (λ x. IsEntry fs d.table x own) (sym c.in_ok-entry.ensures) (entry_of fs d.table own c.entry.result (c.entry.ensures d.table k ks knows.known));
      choosing_is = c.choosing.ensures d.table k ks knows.known;
    }
