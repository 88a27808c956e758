-- The output put together of its pieces.
use Rattle.std.proofs.Common.{◌≡◌, ℕ, suc, ◌+◌, ◌<◌, List, [], ◌∷◌, ◌++◌, map, length, get_or, take, ℤ, Ok, Err, Result, ap, add-zero, zero-add, add-suc, suc-add, arith}
use Rattle.std.proofs.lemmas.List.{append_assoc, append-nil, length-map, length-take-le, map_more}
use Rattle.model.specs.Labels.{text_of}
use Rattle.model.specs.Plans.{View}
use Rattle.model.specs.declared.labels.Label.{Label}
use Rattle.output.specs.Output.{earliest_of, latest_of, point_line, point_lines}

-- a point with a label is one of the points whose names are the labels' texts
pub has_name : (labels : List Label) (names : List (List ℕ)) (p : ℕ) → map text_of labels ≡ names → p < length labels → p < length names
has_name labels names p e h = omega (arith, length-map labels text_of, ap length e)

-- ---- the lines of the points, one more

lines_last : (m : View) (p : ℕ) (ls : List (List ℕ)) (label : List ℕ) → point_lines m p (ls ++ label ∷ []) ≡ point_lines m p ls ++ point_line label (earliest_of m (p + length ls)) (latest_of m (p + length ls))
lines_last m p [] label = simp (append-nil, add-zero)
lines_last m p (l ∷ ls) label = simp (lines_last m (suc p) ls label, append_assoc, add-suc, suc-add)

pub lines_more : (m : View) (labels : List Label) (i : ℕ) (d : Label) → i < length labels
    → point_lines m 0 (map text_of (take (i + 1) labels)) ≡ point_lines m 0 (map text_of (take i labels)) ++ point_line (text_of (get_or labels i d)) (earliest_of m i) (latest_of m i)
lines_more m labels i d h =
    let n : length (take i labels) ≡ i = length-take-le i labels (omega arith) in
    simp (map_more text_of labels i d h, lines_last m 0 (map text_of (take i labels)), length-map, n, zero-add)

-- ---- what a call answered

pub ok_pair : {E : Type 0} (r : Result (ℤ × ℤ) E) (a b x y : ℤ) → r ≡ Ok (a, b) → r ≡ Ok (x, y) → (a ≡ x) × (b ≡ y)
ok_pair r a b x y p q = let e : ◌≡◌ {A = ℤ × ℤ} (a, b) (x, y) = cc in (ap (λ w. w.0) e, ap (λ w. w.1) e)

pub ok_err : {X E : Type 0} (r : Result X E) (x : X) (why : E) → r ≡ Ok x → r ≡ Err why → ⊥
ok_err r x why p q = cc
