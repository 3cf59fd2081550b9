-- Parts that are counted, in the code and by the machine.
use Rattle.std.proofs.Common.{◌≡◌, ◌≤◌, List, [], ◌∷◌, ◌++◌, reverse, refl, sym, ap, subst, ◌∙◌, arith}
use Rattle.vd_tokens.specs.Lexemes.{Lexeme}
use Rattle.vd_forest.specs.Forest.{Forest}
use Rattle.vd_forms.specs.declared.form.Form.{Form}
use Rattle.vd_shapes.specs.declared.actions.Action.{Action}
use Rattle.vd_shapes.specs.declared.growing.Frame.{Frame}
use Rattle.vd_shapes.specs.declared.growing.Growing.{Growing}
use Rattle.vd_shapes.specs.Machine.{Open, Machine, closed, counted}
use Rattle.vd_shapes.specs.Standing.{StandsAt, PoppedAt, IsStanding, IsPopped, HasSameTables}
use Rattle.vd_shapes.proofs.StandingLemmas.{innermost, reverse_last}
use Rattle.vd_shapes.proofs.MachineLemmas.{counted_ends}

-- what is still to be counted comes to what was to be counted
pub record CountsTo (actions : List Action) (tokens : List Lexeme) (g : Growing) (m : Machine) : Type 0 where
  pub open_ones : List Open
  pub so_far : Forest Form
  pub stands : StandsAt g (record { open_ones = open_ones; so_far = so_far; taken = m.taken })
  pub same : counted actions tokens open_ones so_far m.taken ≡ counted actions tokens m.open_ones m.so_far m.taken

pub record IsCounting (old g : Growing) : Type 0 where
  pub standing : IsStanding g
  pub kept : HasSameTables old g
  pub each : (m : Machine) → StandsAt old m → CountsTo old.actions.now old.tokens.now g m

pub counting_begins : (g : Growing) → IsStanding g → IsCounting g g
counting_begins g s = record {
  standing = s;
  kept = record { actions = refl; tokens = refl };
  each = λ m h. record { open_ones = m.open_ones; so_far = m.so_far; stands = h; same = refl };
}

-- the innermost open production is taken off
pub record TakesOff (g after : Growing) (f : Frame) (m : Machine) : Type 0 where
  pub open_one : Open
  pub others : List Open
  pub are : m.open_ones ≡ open_one ∷ others
  pub stands : PoppedAt after f open_one (record { open_ones = others; so_far = m.so_far; taken = m.taken })

abbrev pub without : Growing → Growing → Growing
without g after = record g { frames = after.frames }

pub takes_off : (g after : Growing) (f : Frame) (m : Machine) → StandsAt g m → g.frames.items ≡ after.frames.items ++ f ∷ [] → TakesOff g (without g after) f m
takes_off g after f m h split =
    let i = innermost f (reverse after.frames.items) (reverse g.frames.items) m.open_ones _ m.so_far (ap reverse split ∙ reverse_last after.frames.items f) h.frames in
    record {
      open_one = i.open_one;
      others = i.others;
      are = i.are;
      stands = record { within = h.within; taken = h.taken; frames = i.frames };
    }

pub is_popped : (old g after : Growing) (f : Frame) → IsCounting old g → g.frames.items ≡ after.frames.items ++ f ∷ [] → IsPopped (without g after) f
is_popped old g after f c split =
    let t = takes_off g after f c.standing.machine c.standing.stands split in
    record { open_one = t.open_one; machine = _; stands = t.stands }

-- what the closing of a production leaves
unfoldable pub Closes : Growing → Growing → Frame → Type 0
Closes g new f =
    (o : Open) (m : Machine) → PoppedAt g f o m → StandsAt new (record m { so_far = closed g.actions.now g.tokens.now o.action o.start o.outer m.so_far })

pub counting_goes_on : (old g after new : Growing) (f : Frame) → IsCounting old g → g.frames.items ≡ after.frames.items ++ f ∷ [] → f.left ≤ 1
    → HasSameTables (without g after) new → Closes (without g after) new f → IsCounting old new
unfolding Closes
counting_goes_on old g after new f c split low kept closes =
    let t = takes_off g after f c.standing.machine c.standing.stands split in
    record {
      standing = record { machine = _; stands = closes t.open_one _ t.stands };
      kept = record { actions = kept.actions ∙ c.kept.actions; tokens = kept.tokens ∙ c.kept.tokens };
      each = each;
    }
  where
    each : (m : Machine) → StandsAt old m → CountsTo old.actions.now old.tokens.now new m
    each m h =
        let k = c.each m h in
        let t = takes_off g after f (record { open_ones = k.open_ones; so_far = k.so_far; taken = m.taken }) k.stands split in
        let o = t.open_one in
        let own = closes o _ t.stands in
        let low_one : o.left ≤ 1 = omega (arith, t.stands.frames.0.left, low) in
        record {
          open_ones = t.others;
          so_far = closed old.actions.now old.tokens.now o.action o.start o.outer k.so_far;
          stands =
              subst (λ x. StandsAt new (record { open_ones = t.others; so_far = x; taken = m.taken }))
              (λ i. closed (c.kept.actions i).now (c.kept.tokens i).now o.action o.start o.outer k.so_far) own;
          same =
              sym (counted_ends old.actions.now old.tokens.now o t.others k.so_far m.taken low_one)
              ∙ (ap (λ os. counted old.actions.now old.tokens.now os k.so_far m.taken) (sym t.are) ∙ k.same);
        }
