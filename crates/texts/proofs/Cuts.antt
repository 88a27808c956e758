-- Texts that are put together of parts, and cut.
use Rattle.std.proofs.Common.{◌≡◌, ℕ, zero, suc, ◌+◌, ◌≤◌, List, [], ◌∷◌, ◌++◌, length, take, refl, sym, ap, ◌∙◌, arith}
use Rattle.std.proofs.lemmas.List.{append_assoc, append-nil, take_all}
use Rattle.std.proofs.Math.Seq.{take-append-add}
use Rattle.texts.specs.Texts.{cut}

take_front : (n : ℕ) (xs ys : List ℕ) → take n (take n xs ++ ys) ≡ take n (xs ++ ys)
take_front zero xs ys = refl
take_front (suc n) [] ys = refl
take_front (suc n) (x ∷ xs) ys = ap (λ l. x ∷ l) (take_front n xs ys)

-- what is cut once more at the end may be whole before
pub cut_front : (xs ys : List ℕ) → cut (cut xs ++ ys) ≡ cut (xs ++ ys)
unfolding cut
cut_front xs ys = take_front 1536 xs ys

-- what fits is not cut
pub cut_none : (xs : List ℕ) → length xs ≤ 1536 → cut xs ≡ xs
unfolding cut
cut_none xs h = take_all 1536 xs h

-- a text with what there is room for behind it
pub cut_room : (xs ys : List ℕ) (room : ℕ) → room + length xs ≡ 1536 → xs ++ take room ys ≡ cut (xs ++ ys)
unfolding cut
cut_room xs ys room e = let n : length xs + room ≡ 1536 = omega arith in sym (take-append-add xs ys room) ∙ ap (λ n. take n (xs ++ ys)) n

-- a full text
pub cut_full : (xs ys : List ℕ) → length xs ≡ 1536 → xs ≡ cut (xs ++ ys)
cut_full xs ys e = sym (append-nil xs) ∙ cut_room xs ys 0 (omega arith)

-- one part and then another
pub cut_on : (w x y s t : List ℕ) → x ≡ cut (w ++ s) → y ≡ cut (x ++ t) → y ≡ cut (w ++ (s ++ t))
cut_on w x y s t p q = q ∙ (ap (λ l. cut (l ++ t)) p ∙ (cut_front (w ++ s) t ∙ ap cut (append_assoc w s t)))
