use Rattle.std.proofs.Common.{sym, ap, subst, ◌∙◌, arith, rules, false, ◌||◌, [], ◌∷◌, get_or, ◌+◌, ◌≡◌}
use Rattle.std.specs.Str.{bytes_eq}
use Rattle.vd_visible.specs.Sights.{sight_from, name_of}
use Rattle.vd_visible.specs.Types.{is_literal_of, letter_name}
use Rattle.vd_visible.proofs.CharacterLemmas.{AreMarked, none_marked, one_more_marked, all_marked}
use Rattle.vd_visible.proofs.surroundings.Surroundings.characters_of.Goals as goal

pub loop-next-init : goal.loop-next-init
loop-next-init c =
    let s = sight_from c.args.self.now in
    let start : c.args.mark + 1 ≡ c.number.result + 1 = ap (λ n. n + 1) (sym c.number.ensures) in record {
      many = search rules;
      within = omega (arith, c.number.type_inv);
      marked = subst (AreMarked s c.args.mark c.no_marks-found.result) start (none_marked s c.args.mark c.no_marks-found.result c.no_marks-found.ensures);
    }

pub returns-then-not-is_literal_of : goal.returns-then-not-is_literal_of
returns-then-not-is_literal_of c =
    let s = sight_from c.args.self.now in
    let none = sym (ap (is_literal_of s c.args.mark) c.of-literal.ensures) ∙ sym c.is_literal_of.ensures ∙ c.if-not-is_literal_of.true in
    all_marked s c.args.mark c.loop-next.found c.loop-next.next none c.loop-next.invariant.marked

pub loop-next-preserved : goal.loop-next-preserved
loop-next-preserved c =
    let s = sight_from c.args.self.now in
    let is = sym (ap (is_literal_of s c.args.mark) c.of-literal.ensures) ∙ sym c.is_literal_of.ensures ∙ c.if-not-is_literal_of.false in
    let name : c.name_of.result.now ≡ name_of s c.loop-next.next = c.name_of.ensures ∙ ap (name_of s) c.of-literal.ensures in
    record {
      many = search rules;
      within = omega (arith, c.loop-next-test.true);
      marked = one_more_marked s c.args.mark c.loop-next.found c.mark_letter.new.found c.loop-next.next (omega (arith, c.loop-next-test.true)) is
          (λ letter. c.mark_letter.ensures letter ∙ ap (λ n. get_or c.loop-next.found letter false || bytes_eq n (letter_name (letter ∷ []))) name)
          c.loop-next.invariant.marked;
    }
