use Rattle.std.proofs.Common.{sym, subst}
use Rattle.vd_subtypes.specs.Stacks.{Begins, TakesRecord}
use Rattle.vd_subtypes.proofs.StackLemmas.{if_ok_map, record_begins}
use Rattle.vd_subtypes.proofs.defaults.default_at.Goals as goal

pub returns-in-Record : goal.returns-in-Record
returns-in-Record c =
    if_ok_map c.record_of.result (TakesRecord c.in-Record.fields c.args.stack.now.items c.record_of.new.stack.items) (Begins c.args.node c.args.stack.now.items c.record_of.new.stack.items)
    (λ v t. subst (λ n. Begins n c.args.stack.now.items c.record_of.new.stack.items v) (sym c.in-Record.is) (record_begins c.in-Record.fields c.args.stack.now.items c.record_of.new.stack.items v t)) c.record_of.ensures
