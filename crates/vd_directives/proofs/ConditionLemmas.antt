-- What is read piece by piece is the condition.
use Rattle.std.proofs.Common.{◌≡◌, ◌≤◌, ℕ, zero, suc, Bool, true, false, not, List, [], ◌∷◌, length, Option, Some, None, if◌then◌else◌, refl, sym, ap, ◌∙◌, arith}
use Rattle.vd_directives.specs.declared.words.Keyword.{Keyword}
use Rattle.vd_directives.specs.declared.words.Keyword.TheVariants.{Not, Then, Join, Other}
use Rattle.vd_directives.specs.declared.words.Known.{Known}
use Rattle.vd_directives.specs.declared.conditions.Chain.{Chain}
use Rattle.vd_directives.specs.declared.conditions.Bracket.{Bracket}
use Rattle.vd_directives.specs.declared.conditions.Awaited.TheVariants.{Relation, Behind, Relator, Text, More, End}
use Rattle.vd_directives.specs.declared.pieces.Piece.{Piece}
use Rattle.vd_directives.specs.declared.pieces.Piece.TheVariants.{Word, Quoted, Compare, Opening, Closing}
use Rattle.vd_directives.specs.Conditions.{is_identifier, known_of, text_of, relates, keyword_of, joined, goes_on, Reading, formless, reads, close_after, closed, against, compared, bracketed, relation_of_word, relation, more_of, chain_after, after_relation, condition, then_alone, before_then, whole, condition_of}
use Rattle.vd_directives.specs.Steps.{reader, opened, at_word, at_keyword, run}
use Rattle.vd_directives.specs.Stacks.{is_nil}

module _ (tool : List ℕ) where
  -- ---- a condition takes no more pieces than there are

  abbrev IsWithin : ℕ → Reading → Type 0
  IsWithin m formless = Unit {0}
  IsWithin m (reads value rest) = length rest ≤ m

  close_within : (m : ℕ) (negated value : Bool) (rest : List Piece) → length rest ≤ m → IsWithin m (close_after negated value rest)
  close_within m negated value [] le = tt
  close_within m negated value (Closing ∷ rest) le = omega arith
  close_within m negated value (Opening ∷ rest) le = tt
  close_within m negated value (Word w ∷ rest) le = tt
  close_within m negated value (Quoted t ∷ rest) le = tt
  close_within m negated value (Compare r ∷ rest) le = tt

  closed_within : (m : ℕ) (negated : Bool) (r : Reading) → IsWithin m r → IsWithin m (closed negated r)
  closed_within m negated formless h = tt
  closed_within m negated (reads value rest) h = close_within m negated value rest h

  against_within : (m : ℕ) (text : List ℕ) (relator : _) (ps : List Piece) → length ps ≤ m → IsWithin m (against text relator ps)
  against_within m text relator [] le = tt
  against_within m text relator (Quoted t ∷ rest) le = omega arith
  against_within m text relator (Word w ∷ rest) le = tt
  against_within m text relator (Compare r ∷ rest) le = tt
  against_within m text relator (Opening ∷ rest) le = tt
  against_within m text relator (Closing ∷ rest) le = tt

  compared_within : (m : ℕ) (text : List ℕ) (ps : List Piece) → length ps ≤ m → IsWithin m (compared text ps)
  compared_within m text [] le = tt
  compared_within m text (Compare r ∷ rest) le = let shorter : length rest ≤ m = omega arith in against_within m text r rest shorter
  compared_within m text (Word w ∷ rest) le = tt
  compared_within m text (Quoted t ∷ rest) le = tt
  compared_within m text (Opening ∷ rest) le = tt
  compared_within m text (Closing ∷ rest) le = tt

  -- what reads a condition keeps within the pieces
  abbrev KeepsWithin : ℕ → (List Piece → Reading) → Type 0
  KeepsWithin m inside = (ps : List Piece) → length ps ≤ m → IsWithin m (inside ps)

  bracketed_within : (m : ℕ) (inside : List Piece → Reading) → KeepsWithin m inside → KeepsWithin m (bracketed inside)
  bracketed_within m inside keeps [] le = tt
  bracketed_within m inside keeps (Opening ∷ rest) le =
      let shorter : length rest ≤ m = omega arith in closed_within m true (inside rest) (keeps rest shorter)
  bracketed_within m inside keeps (Word w ∷ rest) le = tt
  bracketed_within m inside keeps (Quoted t ∷ rest) le = tt
  bracketed_within m inside keeps (Compare r ∷ rest) le = tt
  bracketed_within m inside keeps (Closing ∷ rest) le = tt

  if_within : (m : ℕ) (b : Bool) (r : Reading) → IsWithin m r → IsWithin m (if b then r else formless)
  if_within m true r h = h
  if_within m false r h = tt

  word_within : (m : ℕ) (inside : List Piece → Reading) → KeepsWithin m inside → (word : List ℕ) (rest : List Piece) (k : Keyword) → length rest ≤ m
      → IsWithin m (relation_of_word tool inside word rest k)
  word_within m inside keeps word rest Not le = bracketed_within m inside keeps rest le
  word_within m inside keeps word rest Then le = if_within m (is_identifier word) (compared (text_of tool (known_of word)) rest) (compared_within m (text_of tool (known_of word)) rest le)
  word_within m inside keeps word rest (Join o) le = if_within m (is_identifier word) (compared (text_of tool (known_of word)) rest) (compared_within m (text_of tool (known_of word)) rest le)
  word_within m inside keeps word rest Other le = if_within m (is_identifier word) (compared (text_of tool (known_of word)) rest) (compared_within m (text_of tool (known_of word)) rest le)

  relation_within : (m : ℕ) (inside : List Piece → Reading) → KeepsWithin m inside → KeepsWithin m (relation tool inside)
  relation_within m inside keeps [] le = tt
  relation_within m inside keeps (Opening ∷ rest) le =
      let shorter : length rest ≤ m = omega arith in closed_within m false (inside rest) (keeps rest shorter)
  relation_within m inside keeps (Word w ∷ rest) le = let shorter : length rest ≤ m = omega arith in word_within m inside keeps w rest (keyword_of w) shorter
  relation_within m inside keeps (Quoted t ∷ rest) le = tt
  relation_within m inside keeps (Compare r ∷ rest) le = tt
  relation_within m inside keeps (Closing ∷ rest) le = tt

  abbrev KeepsAllWithin : ℕ → (Option Chain → List Piece → Reading) → Type 0
  KeepsAllWithin m next = (chain : Option Chain) → KeepsWithin m (next chain)

  more_within : (m : ℕ) (next : Option Chain → List Piece → Reading) → KeepsAllWithin m next → (chain : Option Chain) (value : Bool) (word : List ℕ) (rest : List Piece) (k : Keyword)
      → length (Word word ∷ rest) ≤ m → IsWithin m (more_of next chain value word rest k)
  more_within m next keeps chain value word rest (Join o) le =
      let shorter : length rest ≤ m = omega arith in
      if_within m (goes_on chain o) (next (Some (record { operator = o; so_far = value })) rest) (keeps (Some (record { operator = o; so_far = value })) rest shorter)
  more_within m next keeps chain value word rest Not le = le
  more_within m next keeps chain value word rest Then le = le
  more_within m next keeps chain value word rest Other le = le

  chain_within : (m : ℕ) (next : Option Chain → List Piece → Reading) → KeepsAllWithin m next → (chain : Option Chain) (value : Bool) (rest : List Piece) → length rest ≤ m
      → IsWithin m (chain_after next chain value rest)
  chain_within m next keeps chain value [] le = le
  chain_within m next keeps chain value (Word w ∷ rest) le = more_within m next keeps chain value w rest (keyword_of w) le
  chain_within m next keeps chain value (Quoted t ∷ rest) le = le
  chain_within m next keeps chain value (Compare r ∷ rest) le = le
  chain_within m next keeps chain value (Opening ∷ rest) le = le
  chain_within m next keeps chain value (Closing ∷ rest) le = le

  after_within : (m : ℕ) (next : Option Chain → List Piece → Reading) → KeepsAllWithin m next → (chain : Option Chain) (r : Reading) → IsWithin m r
      → IsWithin m (after_relation next chain r)
  after_within m next keeps chain formless h = tt
  after_within m next keeps chain (reads value rest) h = chain_within m next keeps chain (joined chain value) rest h

  condition_within : (m n : ℕ) → KeepsAllWithin m (condition tool n)
  condition_within m zero chain ps le = tt
  condition_within m (suc n) chain ps le =
      after_within m (condition tool n) (condition_within m n) chain (relation tool (condition tool n None) ps)
      (relation_within m (condition tool n None) (condition_within m n None) ps le)

  -- ---- what comes of the pieces behind a condition that is read, in the brackets that are open

  abbrev closes : Bool → Bracket → List Bracket → List Piece → Option Bool
  closes value bracket outer [] = None
  closes value bracket outer (Closing ∷ rest) =
      run tool (Some (reader (More (joined bracket.outside (if bracket.negated then not value else value))) bracket.outside outer)) rest
  closes value bracket outer (p ∷ rest) = None

  abbrev comes_of : Bool → List Piece → List Bracket → Option Bool
  comes_of value rest [] = before_then value rest
  comes_of value rest (bracket ∷ outer) = closes value bracket outer rest

  abbrev outcome : Reading → List Bracket → Option Bool
  outcome formless outer = None
  outcome (reads value rest) outer = comes_of value rest outer

  -- the steps from a relation on give what the condition gives
  abbrev Follows : ℕ → Type 0
  Follows n = (ps : List Piece) (chain : Option Chain) (outer : List Bracket) → length ps ≤ n
      → run tool (Some (reader Relation chain outer)) ps ≡ outcome (condition tool n chain ps) outer

  if_follows : (n : ℕ) → Follows n → (b : Bool) (chain : Option Chain) (ps : List Piece) (outer : List Bracket) → length ps ≤ n
      → run tool (if b then Some (reader Relation chain outer) else None) ps ≡ outcome (if b then condition tool n chain ps else formless) outer
  if_follows n follows true chain ps outer le = follows ps chain outer le
  if_follows n follows false chain ps outer le = refl

  then_follows : (value : Bool) (chain : Option Chain) (word : List ℕ) (ps : List Piece) (outer : List Bracket) → keyword_of word ≡ Then
      → run tool (if is_nil outer then Some (reader (End value) chain outer) else None) ps ≡ comes_of value (Word word ∷ ps) outer
  then_follows value chain word [] [] is = ap (λ k. then_alone value k []) (sym is)
  then_follows value chain word (p ∷ ps) [] is = ap (λ k. then_alone value k (p ∷ ps)) (sym is)
  then_follows value chain word ps (bracket ∷ outer) is = refl

  not_follows : (value : Bool) (word : List ℕ) (ps : List Piece) (outer : List Bracket) → keyword_of word ≡ Not → None ≡ comes_of value (Word word ∷ ps) outer
  not_follows value word ps [] is = ap (λ k. then_alone value k ps) (sym is)
  not_follows value word ps (bracket ∷ outer) is = refl

  other_follows : (value : Bool) (word : List ℕ) (ps : List Piece) (outer : List Bracket) → keyword_of word ≡ Other → None ≡ comes_of value (Word word ∷ ps) outer
  other_follows value word ps [] is = ap (λ k. then_alone value k ps) (sym is)
  other_follows value word ps (bracket ∷ outer) is = refl

  word_follows : (n : ℕ) → Follows n → (value : Bool) (chain : Option Chain) (word : List ℕ) (ps : List Piece) (outer : List Bracket) (k : Keyword) → keyword_of word ≡ k
      → length ps ≤ n → run tool (at_keyword value chain outer k) ps ≡ outcome (more_of (condition tool n) chain value word ps k) outer
  word_follows n follows value chain word ps outer (Join o) is le =
      if_follows n follows (goes_on chain o) (Some (record { operator = o; so_far = value })) ps outer le
  word_follows n follows value chain word ps outer Then is le = then_follows value chain word ps outer is
  word_follows n follows value chain word ps outer Not is le = not_follows value word ps outer is
  word_follows n follows value chain word ps outer Other is le = other_follows value word ps outer is

  more_follows : (n : ℕ) → Follows n → (value : Bool) (chain : Option Chain) (rest : List Piece) (outer : List Bracket) → length rest ≤ n
      → run tool (Some (reader (More value) chain outer)) rest ≡ outcome (chain_after (condition tool n) chain value rest) outer
  more_follows n follows value chain [] [] le = refl
  more_follows n follows value chain [] (bracket ∷ outer) le = refl
  more_follows n follows value chain (Word w ∷ rest) outer le =
      let shorter : length rest ≤ n = omega arith in word_follows n follows value chain w rest outer (keyword_of w) refl shorter
  more_follows n follows value chain (Closing ∷ rest) [] le = refl
  more_follows n follows value chain (Closing ∷ rest) (bracket ∷ outer) le = refl
  more_follows n follows value chain (Quoted t ∷ rest) [] le = refl
  more_follows n follows value chain (Quoted t ∷ rest) (bracket ∷ outer) le = refl
  more_follows n follows value chain (Compare r ∷ rest) [] le = refl
  more_follows n follows value chain (Compare r ∷ rest) (bracket ∷ outer) le = refl
  more_follows n follows value chain (Opening ∷ rest) [] le = refl
  more_follows n follows value chain (Opening ∷ rest) (bracket ∷ outer) le = refl

  -- a bracket is closed, and what stands round it goes on
  bracket_follows : (n : ℕ) → Follows n → (negated : Bool) (chain : Option Chain) (outer : List Bracket) (r : Reading) → IsWithin n r
      → outcome r (record { negated = negated; outside = chain } ∷ outer) ≡ outcome (after_relation (condition tool n) chain (closed negated r)) outer
  bracket_follows n follows negated chain outer formless h = refl
  bracket_follows n follows negated chain outer (reads value []) h = refl
  bracket_follows n follows negated chain outer (reads value (Closing ∷ rest)) h =
      let shorter : length rest ≤ n = omega arith in
      more_follows n follows (joined chain (if negated then not value else value)) chain rest outer shorter
  bracket_follows n follows negated chain outer (reads value (Word w ∷ rest)) h = refl
  bracket_follows n follows negated chain outer (reads value (Quoted t ∷ rest)) h = refl
  bracket_follows n follows negated chain outer (reads value (Compare r ∷ rest)) h = refl
  bracket_follows n follows negated chain outer (reads value (Opening ∷ rest)) h = refl

  opened_follows : (n : ℕ) → Follows n → (negated : Bool) (chain : Option Chain) (ps : List Piece) (outer : List Bracket) → length ps ≤ n
      → run tool (Some (opened negated chain outer)) ps ≡ outcome (after_relation (condition tool n) chain (closed negated (condition tool n None ps))) outer
  opened_follows n follows negated chain ps outer le =
      follows ps None (record { negated = negated; outside = chain } ∷ outer) le
      ∙ bracket_follows n follows negated chain outer (condition tool n None ps) (condition_within n n None ps le)

  text_follows : (n : ℕ) → Follows n → (chain : Option Chain) (known : Known) (relator : _) (ps : List Piece) (outer : List Bracket) → length ps ≤ n
      → run tool (Some (reader (Text known relator) chain outer)) ps ≡ outcome (after_relation (condition tool n) chain (against (text_of tool known) relator ps)) outer
  text_follows n follows chain known relator [] outer le = refl
  text_follows n follows chain known relator (Quoted t ∷ rest) outer le =
      let shorter : length rest ≤ n = omega arith in more_follows n follows (joined chain (relates relator (text_of tool known) t)) chain rest outer shorter
  text_follows n follows chain known relator (Word w ∷ rest) outer le = refl
  text_follows n follows chain known relator (Compare r ∷ rest) outer le = refl
  text_follows n follows chain known relator (Opening ∷ rest) outer le = refl
  text_follows n follows chain known relator (Closing ∷ rest) outer le = refl

  relator_follows : (n : ℕ) → Follows n → (chain : Option Chain) (known : Known) (ps : List Piece) (outer : List Bracket) → length ps ≤ n
      → run tool (Some (reader (Relator known) chain outer)) ps ≡ outcome (after_relation (condition tool n) chain (compared (text_of tool known) ps)) outer
  relator_follows n follows chain known [] outer le = refl
  relator_follows n follows chain known (Compare r ∷ rest) outer le =
      let shorter : length rest ≤ n = omega arith in text_follows n follows chain known r rest outer shorter
  relator_follows n follows chain known (Word w ∷ rest) outer le = refl
  relator_follows n follows chain known (Quoted t ∷ rest) outer le = refl
  relator_follows n follows chain known (Opening ∷ rest) outer le = refl
  relator_follows n follows chain known (Closing ∷ rest) outer le = refl

  name_follows : (n : ℕ) → Follows n → (b : Bool) (chain : Option Chain) (known : Known) (ps : List Piece) (outer : List Bracket) → length ps ≤ n
      → run tool (if b then Some (reader (Relator known) chain outer) else None) ps
      ≡ outcome (after_relation (condition tool n) chain (if b then compared (text_of tool known) ps else formless)) outer
  name_follows n follows true chain known ps outer le = relator_follows n follows chain known ps outer le
  name_follows n follows false chain known ps outer le = refl

  behind_follows : (n : ℕ) → Follows n → (chain : Option Chain) (ps : List Piece) (outer : List Bracket) → length ps ≤ n
      → run tool (Some (reader Behind chain outer)) ps ≡ outcome (after_relation (condition tool n) chain (bracketed (condition tool n None) ps)) outer
  behind_follows n follows chain [] outer le = refl
  behind_follows n follows chain (Opening ∷ rest) outer le = let shorter : length rest ≤ n = omega arith in opened_follows n follows true chain rest outer shorter
  behind_follows n follows chain (Word w ∷ rest) outer le = refl
  behind_follows n follows chain (Quoted t ∷ rest) outer le = refl
  behind_follows n follows chain (Compare r ∷ rest) outer le = refl
  behind_follows n follows chain (Closing ∷ rest) outer le = refl

  first_follows : (n : ℕ) → Follows n → (chain : Option Chain) (word : List ℕ) (ps : List Piece) (outer : List Bracket) (k : Keyword) → length ps ≤ n
      → run tool (at_word word chain outer k) ps ≡ outcome (after_relation (condition tool n) chain (relation_of_word tool (condition tool n None) word ps k)) outer
  first_follows n follows chain word ps outer Not le = behind_follows n follows chain ps outer le
  first_follows n follows chain word ps outer Then le = name_follows n follows (is_identifier word) chain (known_of word) ps outer le
  first_follows n follows chain word ps outer (Join o) le = name_follows n follows (is_identifier word) chain (known_of word) ps outer le
  first_follows n follows chain word ps outer Other le = name_follows n follows (is_identifier word) chain (known_of word) ps outer le

  follows : (n : ℕ) → Follows n
  follows zero [] chain outer le = refl
  follows zero (p ∷ ps) chain outer le = absurd (omega arith)
  follows (suc n) [] chain outer le = refl
  follows (suc n) (Opening ∷ ps) chain outer le = let shorter : length ps ≤ n = omega arith in opened_follows n (follows n) false chain ps outer shorter
  follows (suc n) (Word w ∷ ps) chain outer le =
      let shorter : length ps ≤ n = omega arith in first_follows n (follows n) chain w ps outer (keyword_of w) shorter
  follows (suc n) (Quoted t ∷ ps) chain outer le = refl
  follows (suc n) (Compare r ∷ ps) chain outer le = refl
  follows (suc n) (Closing ∷ ps) chain outer le = refl

  outermost : (r : Reading) → outcome r [] ≡ whole r
  outermost formless = refl
  outermost (reads value rest) = refl

  -- the whole run
  pub run_all : (ps : List Piece) → run tool (Some (reader Relation None [])) ps ≡ condition_of tool ps
  run_all ps = follows (length ps) ps None [] (omega arith) ∙ outermost (condition tool (length ps) None ps)
