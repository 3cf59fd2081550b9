use Rattle.std.proofs.Common.{◌∷◌, ◌∙◌, arith}
use Rattle.std.proofs.lemmas.List.{nil_from_length}
use Rattle.vd_known_generics.proofs.CopyLemmas.{all_set, set_step}
use Rattle.vd_known_generics.proofs.InstanceLemmas.{table_changed}
use Rattle.vd_value_rules.specs.Declaring.{taken_known}
use Rattle.vd_value_rules.specs.Knowledge.{denoted}
use Rattle.vd_known_generics.proofs.copies.set_copies.Goals as goal

pub loop-copy-preserved : goal.loop-copy-preserved
loop-copy-preserved c =
    let x = c.loop-copy.design in
    let y = c.set.new.self in
    let same = c.in_ok-set.ensures.same in
    record {
      knows = λ d from k ks cs are knows.
          set_step d x (record x { table = y }) from c.in-Some.copy c.loop-copy.copy-iterator.rest.items c.next.new.self.rest.items ks (taken_known cs from k)
          c.in-Some.ensures.steps.0 (c.loop-copy.invariant.knows d from k ks cs are knows) same
          (λ own other l entry choosing here. table_changed d x y (l ∷ ks) (denoted c.in-Some.copy.number own other l ∷ ks) same here
          (λ table. c.in_ok-set.ensures.known d.table own other l ks table entry choosing));
      same = same ∙ c.loop-copy.invariant.same;
    }

pub returns-clause-knows : goal.returns-clause-knows
returns-clause-knows c = λ d from k ks cs are knows.
    let rest = c.loop-copy.copy-iterator.rest in
    all_set d c.loop-copy.design from (taken_known cs from k) rest.items ks
    (nil_from_length rest.items (omega (arith, c.in-None.ensures.steps.0, rest.ok))) (c.loop-copy.invariant.knows d from k ks cs are knows)
