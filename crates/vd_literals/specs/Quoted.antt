-- Texts between quotation marks. (IEEE 1076, string literals: a mark inside is written twice, and the text stands on one line.)
use Rattle.std.specs.Prelude.{ℕ, ◌+◌, ◌-◌, Bool, true, false, ◌&&◌, ◌==◌, List, [], ◌∷◌, take, drop, Option, Some, None, if◌then◌else◌}
use Rattle.vd_tokens.specs.Spellings.{is_graphic}
use Rattle.vd_literals.specs.declared.quoted.Before.{Before}
use Rattle.vd_literals.specs.declared.quoted.Before.TheVariants.{Start, Character, Underscore}
use Rattle.vd_literals.specs.declared.quoted.Role.{Role}
use Rattle.vd_literals.specs.declared.quoted.Role.TheVariants.{Stops, Ends, Goes, MayEnd, Doubled}

abbrev pub shifted : ℕ → Option ℕ → Option ℕ
shifted k None = None
shifted k (Some n) = Some (k + n)

abbrev pub first_some : Option ℕ → Option ℕ → Option ℕ
first_some None o = o
first_some (Some n) o = Some n

abbrev pub begins_with : ℕ → List ℕ → Bool
begins_with m [] = false
begins_with m (b ∷ bs) = b == m

-- a text may end where its last character is no underscore between two others
abbrev pub may_close : Before → Bool
may_close Start = true
may_close Character = true
may_close Underscore = false

abbrev pub is_character : Before → Bool
is_character Start = false
is_character Character = true
is_character Underscore = false

-- at a mark (34), with another one behind it or not
abbrev pub at_mark : Before → List ℕ → Role
at_mark s bs =
    if begins_with 34 bs then (if may_close s then MayEnd else Doubled) else (if may_close s then Ends else Stops)

-- at an underscore
abbrev pub at_underscore : Before → Role
at_underscore s = if is_character s then Goes Underscore else Stops

-- what the first byte is to a text in marks of which something stands before. Where underscores (95) count, they are single and
-- between characters
abbrev pub role_of : Bool → Before → List ℕ → Role
role_of single s [] = Stops
role_of single s (b ∷ bs) =
    if b == 34 then at_mark s bs
    else (if single && b == 95 then at_underscore s else (if is_graphic b then Goes Character else Stops))

-- how many bytes the longest text in marks has behind its first mark, its last mark included, if it has an end
abbrev pub marks_end : Bool → Before → List ℕ → Option ℕ
marks_end single s [] = None
marks_end single s (b ∷ []) = elim (role_of single s (b ∷ [])) [ Stops ↦ None | Ends ↦ Some 1 | Goes next ↦ None | MayEnd ↦ Some 1 | Doubled ↦ None ]
marks_end single s (b ∷ c ∷ cs) =
    elim (role_of single s (b ∷ c ∷ cs)) [
      | Stops ↦ None
      | Ends ↦ Some 1
      | Goes next ↦ shifted 1 (marks_end single next (c ∷ cs))
      | MayEnd ↦ first_some (shifted 2 (marks_end single Character cs)) (Some 1)
      | Doubled ↦ shifted 2 (marks_end single Character cs)
    ]

-- the text with each doubled mark single
abbrev pub undoubled : List ℕ → List ℕ
undoubled [] = []
undoubled (b ∷ []) = b ∷ []
undoubled (b ∷ c ∷ cs) = elim (b == 34) [ true ↦ b ∷ undoubled cs | false ↦ b ∷ undoubled (c ∷ cs) ]
