-- Lists by numbers, behind the last of which stand empty ones.
use Rattle.std.proofs.Common.{◌≡◌, ◌<◌, ◌==◌, ◌++◌, ℕ, zero, suc, false, cond, List, [], ◌∷◌, length, map, get_or, set, refl, sym, ap, ◌∙◌, arith}
use Rattle.std.proofs.lemmas.Bool.Decides.{nat_tests}
use Rattle.std.proofs.lemmas.List.{get_or-map, map-set, length-map}

-- nothing more stands where there is room for one more number
pub room_for_more : (lists : List (List ℕ)) (k : ℕ) → get_or (lists ++ [] ∷ []) k [] ≡ get_or lists k []
room_for_more [] zero = refl
room_for_more [] (suc k) = refl
room_for_more (own ∷ lists) zero = refl
room_for_more (own ∷ lists) (suc k) = room_for_more lists k

other_number : (m n : ℕ) → (m ≡ n → ⊥) → (m == n) ≡ false
other_number m n other = grind (arith, nat_tests)

same_successors : (m n : ℕ) → (m == n) ≡ (suc m == suc n)
same_successors m n = grind (arith, nat_tests)

-- what stands there after a change
pub after_setting : (lists : List (List ℕ)) (n : ℕ) (ks : List ℕ) (k : ℕ) → n < length lists
    → get_or (set lists n ks) k [] ≡ cond (k == n) ks (get_or lists k [])
after_setting [] n ks k inside = absurd (omega arith)
after_setting (own ∷ lists) zero ks zero inside = refl
after_setting (own ∷ lists) zero ks (suc k) inside = ap (λ b. cond b ks (get_or lists k [])) (sym (other_number (suc k) 0 (omega arith)))
after_setting (own ∷ lists) (suc n) ks zero inside = ap (λ b. cond b ks own) (sym (other_number 0 (suc n) (omega arith)))
after_setting (own ∷ lists) (suc n) ks (suc k) inside =
    after_setting lists n ks k (omega arith) ∙ ap (λ b. cond b ks (get_or lists k [])) (same_successors k n)

-- the same of lists as code keeps them
pub after_put : {A : Type 0} (f : A → List ℕ) (lists : List A) (seen : List (List ℕ)) (n : ℕ) (p q : A) (ks : List ℕ)
    → map f lists ≡ seen → n < length seen → p ≡ get_or lists n p → f q ≡ f p ++ ks
    → (k : ℕ) → get_or (map f (set lists n q)) k [] ≡ cond (k == n) (get_or seen n [] ++ ks) (get_or seen k [])
after_put f lists seen n p q ks view inside read put k =
    let within : n < length (map f lists) = omega (arith, inside, ap (λ (xs : List (List ℕ)). length xs) view) in
    let here : n < length lists = omega (arith, within, length-map lists f) in
    let is : f q ≡ get_or seen n [] ++ ks = put ∙ ap (λ x. f x ++ ks) read ∙ ap (λ x. x ++ ks) (sym (get_or-map f lists n p [] here) ∙ ap (λ xs. get_or xs n []) view) in
    ap (λ xs. get_or xs k []) (map-set f lists n q)
    ∙ after_setting (map f lists) n (f q) k within
    ∙ ap (λ x. cond (k == n) x (get_or (map f lists) k [])) is
    ∙ ap (λ xs. cond (k == n) (get_or seen n [] ++ ks) (get_or xs k [])) view
