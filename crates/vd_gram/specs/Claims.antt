-- What a table's claims have to be, so that one symbol tells which production comes next.
use Rattle.std.specs.Prelude.{ℕ, Bool, true, false, ◌&&◌, ◌||◌, not, nat_lt, nat_eq, List, [], ◌∷◌, ◌++◌, Option, Some, None, if◌then◌else◌, count_by, find}
use Rattle.std.specs.List.{list_all, list_any}
use Rattle.vd_gram.specs.declared.tables.Production.{Production}
use Rattle.vd_gram.specs.declared.tables.Claim.{Claim}
use Rattle.vd_gram.specs.declared.tables.Table.{Table}

-- ---- lists as sets

abbrev pub has : List ℕ → ℕ → Bool
has xs x = list_any (λ y. nat_eq y x) xs

-- each of the first is one of the second
abbrev pub is_within : List ℕ → List ℕ → Bool
is_within xs ys = list_all (has ys) xs

-- none of the first is one of the second
abbrev pub is_apart : List ℕ → List ℕ → Bool
is_apart xs ys = list_all (λ x. not (has ys x)) xs

-- ---- symbols

-- the end of a text counts as a symbol
abbrev pub end_symbol : ℕ
end_symbol = 65535

abbrev pub is_terminal : Table → ℕ → Bool
is_terminal t s = nat_lt s t.terminals

abbrev pub is_nonterminal : Table → ℕ → Bool
is_nonterminal t s = not (is_terminal t s) && not (nat_eq s end_symbol)

-- ---- what is claimed

-- the claim of a symbol
abbrev pub claim_of : Table → ℕ → Option Claim
claim_of t s = find (λ c. nat_eq c.symbol s) t.claims.now

abbrev pub empty_claim : Option Claim → Bool
empty_claim None = false
empty_claim (Some c) = c.empty

abbrev pub first_claim : Option Claim → List ℕ
first_claim None = []
first_claim (Some c) = c.first.now

abbrev pub follow_claim : Option Claim → List ℕ
follow_claim None = []
follow_claim (Some c) = c.follow.now

abbrev pub has_rank_below : ℕ → Option Claim → Bool
has_rank_below rank None = false
has_rank_below rank (Some c) = nat_lt c.rank rank

-- the symbol can become the empty text. A terminal can't
abbrev pub can_be_empty : Table → ℕ → Bool
can_be_empty t s = not (is_terminal t s) && empty_claim (claim_of t s)

-- the symbols that can stand behind it
abbrev pub follow_of : Table → ℕ → List ℕ
follow_of t s = follow_claim (claim_of t s)

-- the symbols that its texts can begin with. Those of a terminal begin with itself
abbrev pub first_of : Table → ℕ → List ℕ
first_of t s = if is_terminal t s then s ∷ [] else first_claim (claim_of t s)

abbrev pub can_all_be_empty : Table → List ℕ → Bool
can_all_be_empty t ss = list_all (can_be_empty t) ss

-- the symbols that a text of some symbols can begin with
abbrev pub firsts_of : Table → List ℕ → List ℕ
firsts_of t [] = []
firsts_of t (s ∷ ss) = first_of t s ++ (if can_be_empty t s then firsts_of t ss else [])

-- the symbols that tell that a production comes next
abbrev pub signs_of : Table → Production → List ℕ
signs_of t p = firsts_of t p.right.now ++ (if can_all_be_empty t p.right.now then follow_of t p.left else [])

-- ---- the claims are closed under the productions

-- the symbol is a nonterminal with one claim
abbrev pub is_claimed : Table → ℕ → Bool
is_claimed t s = is_nonterminal t s && nat_eq (count_by (λ c. nat_eq c.symbol s) t.claims.now) 1

-- a terminal, or a nonterminal with one claim
abbrev pub is_known : Table → ℕ → Bool
is_known t s = is_terminal t s || is_claimed t s

-- the same of a symbol of a follow set, where the end may stand too
abbrev pub is_known_or_end : Table → ℕ → Bool
is_known_or_end t s = is_known t s || nat_eq s end_symbol

-- what can stand behind a symbol with the symbols `ss` behind it, where `after` can stand behind all of them
abbrev pub follow_is_closed : Table → List ℕ → ℕ → List ℕ → Bool
follow_is_closed t after s ss =
    is_terminal t s
    || (is_within (firsts_of t ss) (follow_of t s) && (not (can_all_be_empty t ss) || is_within after (follow_of t s)))

-- the same for each symbol of a right side
abbrev pub follows_are_closed : Table → List ℕ → List ℕ → Bool
follows_are_closed t after [] = true
follows_are_closed t after (s ∷ ss) = follow_is_closed t after s ss && follows_are_closed t after ss

-- a production's symbols have a claim each
abbrev pub names_are_claimed : Table → Production → Bool
names_are_claimed t p = is_claimed t p.left && list_all (is_known t) p.right.now

-- what is claimed of its left covers its right
abbrev pub sets_are_closed : Table → Production → Bool
sets_are_closed t p =
    (not (can_all_be_empty t p.right.now) || can_be_empty t p.left)
    && is_within (firsts_of t p.right.now) (first_claim (claim_of t p.left))
    && follows_are_closed t (follow_of t p.left) p.right.now

abbrev pub is_closed_under : Table → Production → Bool
is_closed_under t p = names_are_claimed t p && sets_are_closed t p

-- a text can end behind the start
abbrev pub start_is_claimed : Table → Bool
start_is_claimed t = is_claimed t t.start && has (follow_of t t.start) end_symbol

-- a claim is the only one on its nonterminal, and each nonterminal in its sets has one claim too
abbrev pub claim_is_known : Table → Claim → Bool
claim_is_known t c = is_claimed t c.symbol && list_all (is_known t) c.first.now && list_all (is_known_or_end t) c.follow.now

-- the nonterminals of the claims and the marked ones have one claim each. The end is no terminal, so that it stands in follow
-- sets alone
abbrev pub other_names_are_claimed : Table → Bool
other_names_are_claimed t = not (is_terminal t end_symbol) && list_all (claim_is_known t) t.claims.now && list_all (is_known t) t.marked.now

-- each nonterminal of the table has one claim, wherever it stands, and what is claimed covers the productions
abbrev pub claims_are_closed : Table → Bool
claims_are_closed t = start_is_claimed t && list_all (is_closed_under t) t.productions.now && other_names_are_claimed t

-- ---- the ranks show what they claim

-- the symbol is a nonterminal of a lower rank
abbrev pub has_lower_rank : Table → ℕ → ℕ → Bool
has_lower_rank t rank s = is_nonterminal t s && has_rank_below rank (claim_of t s)

-- each nonterminal in front of which only symbols stand that can be empty
abbrev pub fronts_are_lower : Table → ℕ → List ℕ → Bool
fronts_are_lower t rank [] = true
fronts_are_lower t rank (s ∷ ss) =
    (is_terminal t s || has_lower_rank t rank s) && (not (can_be_empty t s) || fronts_are_lower t rank ss)

-- a symbol of which a text is shown, once it is shown of all lower ranks
abbrev pub is_shown : Table → ℕ → ℕ → Bool
is_shown t rank s = is_terminal t s || can_be_empty t s || has_lower_rank t rank s

abbrev pub is_of : Claim → Production → Bool
is_of c p = nat_eq p.left c.symbol

-- the nonterminal has a production of symbols that can all be empty
abbrev pub has_empty : Table → Claim → Bool
has_empty t c = list_any (λ p. is_of c p && can_all_be_empty t p.right.now) t.productions.now

-- no production of the nonterminal begins with it or a higher one
abbrev pub is_not_left_recursive : Table → Claim → Bool
is_not_left_recursive t c = list_all (λ p. not (is_of c p) || fronts_are_lower t c.rank p.right.now) t.productions.now

-- the nonterminal has a production whose symbols are shown to have a text
abbrev pub has_text : Table → Claim → Bool
has_text t c = list_any (λ p. is_of c p && list_all (is_shown t c.rank) p.right.now) t.productions.now

abbrev pub rank_shows : Table → Claim → Bool
rank_shows t c = is_not_left_recursive t c && has_text t c && (not c.empty || has_empty t c)

abbrev pub ranks_show : Table → Bool
ranks_show t = list_all (rank_shows t) t.claims.now

-- ---- the alternatives of each nonterminal are told apart by one symbol

-- no symbol tells of both, and at most one of them can be empty
abbrev pub are_told_apart : Table → Production → Production → Bool
are_told_apart t p q =
    not (nat_eq p.left q.left)
    || (is_apart (signs_of t p) (signs_of t q) && not (can_all_be_empty t p.right.now && can_all_be_empty t q.right.now))

abbrev pub all_told_apart : Table → List Production → Bool
all_told_apart t [] = true
all_told_apart t (p ∷ ps) = list_all (are_told_apart t p) ps && all_told_apart t ps

-- ---- all of it

unfoldable pub is_checked : Table → Bool
is_checked t = claims_are_closed t && ranks_show t && all_told_apart t t.productions.now
