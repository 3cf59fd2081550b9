use Rattle.std.proofs.Common.{subst, sym, ◌++◌}
use Rattle.vd_given_choices.specs.Texts.{AreCounted, IsCounted}
use Rattle.vd_choice_rules.proofs.CountLemmas.{no_text_more, text_more}
use Rattle.vd_choice_rules.specs.Texts.{items_where}
use Rattle.vd_choices.specs.Texts.{texts_of}
use Rattle.vd_given_choices.specs.Refusals.{listed}
use Rattle.vd_choice_rules.proofs.covering.add_text.Goals as goal

pub returns-in_ok-push : goal.returns-in_ok-push
returns-in_ok-push c = λ ts are.
    let counted = subst (IsCounted c.in_ok-counted.counted.positions.items) c.deref.ensures.value c.in_ok-counted.ensures in
    subst (λ o. AreCounted (texts_of c.push.new.self.items) (ts ++ listed (items_where o))) (sym c.in-Some.is)
    (text_more c.args.texts.now.items c.push.new.self.items c.in_ok-counted.counted ts c.in-Some.positions.items c.in_ok-push.ensures.items counted are)

pub returns-in_default : goal.returns-in_default
returns-in_default c = λ ts are.
    subst (λ o. AreCounted (texts_of c.args.texts.now.items) (ts ++ listed (items_where o))) (sym c.in_default.is) (no_text_more c.args.texts.now.items ts are)
