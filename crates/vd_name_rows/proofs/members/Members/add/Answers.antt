use Rattle.std.proofs.Common.{◌++◌, ◌==◌, ◌∷◌, [], get_or, ap, ◌∙◌, cond}
use Rattle.vd_name_rows.proofs.RoomLemmas.{after_put}
use Rattle.vd_name_rows.proofs.members.Members.add.Goals as goal

pub returns : goal.returns
returns c = λ r.
    after_put (λ own. own.items) c.self.inside.lists.items c.make_room.new.self c.args.region c.index_mut.result.now c.push.new.self (c.args.id ∷ [])
    c.self.view_is c.in_ok-make_room.ensures.within c.index_mut.ensures.value c.in_ok-push.ensures.items r
    ∙ ap (λ ks. cond (r == c.args.region) (ks ++ c.args.id ∷ []) (get_or c.make_room.new.self r [])) (c.make_room.ensures.same c.args.region)
    ∙ ap (λ ks. cond (r == c.args.region) (get_or c.args.self.now c.args.region [] ++ c.args.id ∷ []) ks) (c.make_room.ensures.same r)
