-- Numbers on the nodes of a list, put on one by one.
use Rattle.std.proofs.Common.{◌≡◌, ℕ, suc, List, refl, sym, ap, ◌∙◌}
use Rattle.vd_bytes.specs.declared.places.Place.{Place}
use Rattle.vd_forest.specs.Forest.{Forest, nothing, more, next_of, turned, with_next}
use Rattle.vd_forest.specs.Store.{at, Holds}
use Rattle.vd_forms.specs.declared.form.Form.{Form}
use Rattle.vd_resolved.specs.declared.node.Resolved.{Resolved}
use Rattle.vd_name_rows.specs.Entering.{numbered}
use Rattle.vd_naming.specs.Endings.{literals_numbered, with_literals}

-- the first node with its number goes before those that have theirs
pub numbered_step : (n : ℕ) (left made : Forest Resolved)
    → turned (with_next (numbered n left) made) (numbered (suc n) (next_of left)) ≡ turned made (numbered n left)
numbered_step n nothing made = refl
numbered_step n (more node text place parts next) made = refl

-- a type declaration whose definition has its numbers
pub relinked : (old mid new : List (Forest Resolved)) (f : Form) (t k numbered made : ℕ) (node : Resolved) (text : List ℕ) (place : Place) (parts next : Forest Resolved)
    → at old k ≡ more node text place parts next → at mid k ≡ at old k → at mid numbered ≡ literals_numbered f t next
    → Holds new made (with_next (at mid k) (at mid numbered)) → Holds new made (with_literals f t (at old k))
relinked old mid new f t k numbered made node text place parts next opened same is held = record {
  within = held.within;
  is =
      held.is
      ∙ ap (λ g. with_next g (at mid numbered)) (same ∙ opened)
      ∙ ap (more node text place parts) is
      ∙ ap (with_literals f t) (sym opened);
}
