-- One map behind another, for elaborations.
use Rattle.std.proofs.Common.{refl, ◌∙◌}
use Rattle.vd_trees.specs.declared.paths.Scope.{Scope}
use Rattle.vd_meaning.specs.Building.{Failing, Stopped, Limited}
use Rattle.vd_meaning.specs.Elaborations.{Elaborates, Fails, NoTop}
use Rattle.vd_joins.specs.Joins.{Joining}
use Rattle.vd_maps.specs.SameRuns.{ScopesJoin, EndAlike}
use Rattle.vd_maps.specs.Laws.{ElaborationsCompose, ElaborationsJoinAll}
use Rattle.vd_maps.proofs.Composed.{runs_compose, joins_compose}

ends_compose : (first second whole : Joining) → ((s t u : Scope) → ScopesJoin first s t → ScopesJoin second t u → ScopesJoin whole s u)
    → (f g h : Failing) → EndAlike first f g → EndAlike second g h → EndAlike whole f h
ends_compose first second whole scopes (Stopped h s) (Stopped k t) (Stopped l u) a b =
    record { kind = a.kind ∙ b.kind; time = refl; delta = refl; scope = scopes s t u a.scope b.scope; text = a.text ∙ b.text }
ends_compose first second whole scopes (Stopped h s) (Stopped k t) (Limited l) a b = absurd b
ends_compose first second whole scopes (Stopped h s) (Limited k) h' a b = absurd a
ends_compose first second whole scopes (Limited l) (Stopped k t) h' a b = absurd a
ends_compose first second whole scopes (Limited l) (Limited k) (Stopped h s) a b = absurd b
ends_compose first second whole scopes (Limited l) (Limited k) (Limited i) a b = a ∙ b

pub elaborations_compose : ElaborationsCompose
elaborations_compose first second whole left middle top (Elaborates m) (Elaborates n) (Elaborates o) c one r s = runs_compose first second whole m n o c one r s
elaborations_compose first second whole left middle top (Fails f) (Fails g) (Fails h) c one r s = ends_compose first second whole c f g h r s
elaborations_compose first second whole left middle top NoTop NoTop NoTop c one r s = r
elaborations_compose first second whole left middle top (Elaborates m) (Elaborates n) (Fails h) c one r s = absurd s
elaborations_compose first second whole left middle top (Elaborates m) (Elaborates n) NoTop c one r s = absurd s
elaborations_compose first second whole left middle top (Elaborates m) (Fails g) z c one r s = absurd r
elaborations_compose first second whole left middle top (Elaborates m) NoTop z c one r s = absurd r
elaborations_compose first second whole left middle top (Fails f) (Elaborates n) z c one r s = absurd r
elaborations_compose first second whole left middle top (Fails f) (Fails g) (Elaborates o) c one r s = absurd s
elaborations_compose first second whole left middle top (Fails f) (Fails g) NoTop c one r s = absurd s
elaborations_compose first second whole left middle top (Fails f) NoTop z c one r s = absurd r
elaborations_compose first second whole left middle top NoTop (Elaborates n) z c one r s = absurd r
elaborations_compose first second whole left middle top NoTop (Fails g) z c one r s = absurd r
elaborations_compose first second whole left middle top NoTop NoTop (Elaborates o) c one r s = absurd s
elaborations_compose first second whole left middle top NoTop NoTop (Fails h) c one r s = absurd s

pub elaborations_join_all : ElaborationsJoinAll
elaborations_join_all first second whole left middle top (Elaborates m) (Elaborates n) (Elaborates o) c r s = joins_compose first second whole m n o c r s
elaborations_join_all first second whole left middle top (Fails f) (Fails g) (Fails h) c r s = ends_compose first second whole c f g h r s
elaborations_join_all first second whole left middle top NoTop NoTop NoTop c r s = r
elaborations_join_all first second whole left middle top (Elaborates m) (Elaborates n) (Fails h) c r s = absurd s
elaborations_join_all first second whole left middle top (Elaborates m) (Elaborates n) NoTop c r s = absurd s
elaborations_join_all first second whole left middle top (Elaborates m) (Fails g) z c r s = absurd r
elaborations_join_all first second whole left middle top (Elaborates m) NoTop z c r s = absurd r
elaborations_join_all first second whole left middle top (Fails f) (Elaborates n) z c r s = absurd r
elaborations_join_all first second whole left middle top (Fails f) (Fails g) (Elaborates o) c r s = absurd s
elaborations_join_all first second whole left middle top (Fails f) (Fails g) NoTop c r s = absurd s
elaborations_join_all first second whole left middle top (Fails f) NoTop z c r s = absurd r
elaborations_join_all first second whole left middle top NoTop (Elaborates n) z c r s = absurd r
elaborations_join_all first second whole left middle top NoTop (Fails g) z c r s = absurd r
elaborations_join_all first second whole left middle top NoTop NoTop (Elaborates o) c r s = absurd s
elaborations_join_all first second whole left middle top NoTop NoTop (Fails h) c r s = absurd s
