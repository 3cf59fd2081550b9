use Rattle.std.proofs.Common.{◌+◌, ◌≤◌, length, drop, ap, sym, ◌∙◌, Bor, List, ℕ}
use Rattle.std.proofs.lemmas.List.{drop_all, length-map}
use Rattle.vd_lex.proofs.TableLemmas.{filled, texts, filled-more, filled-none}
use Rattle.vd_lex.proofs.tables.set_of.Goals as goal

pub loop-word-init : goal.loop-word-init
loop-word-init c = ap (λ ks. filled (texts ks) (texts c.args.words.now)) c.new-set.ensures.empty

pub loop-word-preserved : goal.loop-word-preserved
loop-word-preserved c =
    let ws = c.args.words.now in
    ap (λ ks. filled (texts ks) (drop (c.loop-word.word-index + 1) (texts ws))) c.in_ok-insert.ensures.keys
    ∙ (filled-more c.loop-word.set.keys ws c.loop-word.word-index _ _ c.loop-word-test.true c.as_bytes.ensures.value ∙ c.loop-word.invariant)

pub returns : goal.returns
unfolding filled
returns c =
    let all : length (texts c.args.words.now) ≤ c.loop-word.word-index = rw (length-map c.args.words.now (λ (w : Bor (List ℕ)). w.now)) c.loop-word-test.false in
    sym (filled-none (texts c.loop-word.set.keys) _ (drop_all c.loop-word.word-index (texts c.args.words.now) all)) ∙ c.loop-word.invariant
