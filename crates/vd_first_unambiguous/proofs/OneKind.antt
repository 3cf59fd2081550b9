-- A token is of one kind alone.
use Rattle.std.proofs.Common.{◌≡◌, ℕ, sym, ◌∙◌}
use Rattle.vd_first_lex.specs.declared.tokens.Kind.TheVariants.{Name, Word, Mark}
use Rattle.vd_first_lex.specs.declared.tokens.Token.{Token}
use Rattle.vd_first_grammar.specs.Symbols.{word, mark, IsName, Is}

pub name_or_word : (n : ℕ) (t : Token) → IsName t → Is (word n) t → ⊥
name_or_word n t h k = let both : Name ≡ Word n = sym h ∙ k in cc

pub name_or_mark : (n : ℕ) (t : Token) → IsName t → Is (mark n) t → ⊥
name_or_mark n t h k = let both : Name ≡ Mark n = sym h ∙ k in cc

pub word_or_mark : (m n : ℕ) (t : Token) → Is (word m) t → Is (mark n) t → ⊥
word_or_mark m n t h k = let both : Word m ≡ Mark n = sym h ∙ k in cc

word_number : (m n : ℕ) → Word m ≡ Word n → m ≡ n
word_number m n h = cc

mark_number : (m n : ℕ) → Mark m ≡ Mark n → m ≡ n
mark_number m n h = cc

pub other_word : (m n : ℕ) → (m ≡ n → ⊥) → (t : Token) → Is (word m) t → Is (word n) t → ⊥
other_word m n differ t h k = differ (word_number m n (sym h ∙ k))

pub other_mark : (m n : ℕ) → (m ≡ n → ⊥) → (t : Token) → Is (mark m) t → Is (mark n) t → ⊥
other_mark m n differ t h k = differ (mark_number m n (sym h ∙ k))
