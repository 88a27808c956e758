-- The parts of a text are the text, parted at each such byte.
use Rattle.std.proofs.Common.{◌≡◌, ℕ, zero, suc, ◌<◌, eqb, List, [], ◌∷◌, length, get_or, sym, subst, ⊎_elim, le_of_suc-le-suc, arith}
use Rattle.std.proofs.lemmas.Bool.{cases_eq, eq-eqb, ne_eqb}
use Rattle.std.proofs.lemmas.List.Splits.{slice_split-cons_yes, slice_split-cons_no, join_with_byte-slice_split}
use Rattle.std.specs.List.{onto_first}
use Rattle.dayline.specs.Parts.{parts, Parted}

-- no part has the byte
abbrev Free : ℕ → List (List ℕ) → Type 0
Free at ps = (i k : ℕ) → i < length ps → k < length (get_or ps i []) → get_or (get_or ps i []) k 0 ≡ at → ⊥

free_empty : (at : ℕ) (ps : List (List ℕ)) → Free at ps → Free at ([] ∷ ps)
free_empty at ps f zero k h l e = omega arith
free_empty at ps f (suc i) k h l e = f i k (le_of_suc-le-suc h) l e

free_onto : (at b : ℕ) (ps : List (List ℕ)) → (b ≡ at → ⊥) → Free at ps → Free at (onto_first b ps)
free_onto at b [] ne f zero zero h l e = ne e
free_onto at b [] ne f zero (suc k) h l e = omega arith
free_onto at b [] ne f (suc i) k h l e = omega arith
free_onto at b (p ∷ ps) ne f zero zero h l e = ne e
free_onto at b (p ∷ ps) ne f zero (suc k) h l e = f zero k (omega arith) (le_of_suc-le-suc l) e
free_onto at b (p ∷ ps) ne f (suc i) k h l e = f (suc i) k h l e

free : (at : ℕ) (text : List ℕ) → Free at (parts at text)
free at [] = free_empty at [] (λ i k h l e. omega arith)
free at (b ∷ bs) =
    ⊎_elim
    (λ (e : b ≡ at). subst (Free at) (sym (slice_split-cons_yes (λ b. eqb b at) b bs (eq-eqb b at e))) (free_empty at (parts at bs) (free at bs)))
    (λ (ne : b ≡ at → ⊥). subst (Free at) (sym (slice_split-cons_no (λ b. eqb b at) b bs (ne_eqb b at ne))) (free_onto at b (parts at bs) ne (free at bs)))
    (cases_eq b at)

pub parted : (at : ℕ) (text : List ℕ) → Parted at text (parts at text)
parted at text = record { whole = join_with_byte-slice_split at text; free = free at text }
