use Rattle.vd_plain_values.proofs.operators.operate_on_all.Goals as goal

pub returns-in-Join : goal.returns-in-Join
returns-in-Join c = λ s is. rw c.in-Join.is (c.join.ensures s is)
