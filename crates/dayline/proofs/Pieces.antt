-- The parts of a text, part by part.
use Rattle.std.proofs.Common.{◌≡◌, ℕ, zero, suc, ◌+◌, ◌-◌, ◌<◌, ◌≤◌, true, false, List, [], ◌∷◌, ◌++◌, map, length, get_or, take, drop, Some, None, sym, ap, ◌∙◌, arith, Bor}
use Rattle.std.specs.Prelude.{◌==◌, slice_get}
use Rattle.std.specs.List.{AllWithin, HoldsAt, position_or_len}
use Rattle.std.proofs.lemmas.List.{append_assoc, map_push, take_rest, length-take, length-drop, get_or-take}
use Rattle.std.proofs.lemmas.List.Splits.{slice_split_none, slice_split_first, length-slice_split}
use Rattle.std.proofs.lemmas.List.Sums.{position_or_len_is, count_by-le-length}
use Rattle.std.proofs.lemmas.Option.{slice_get_past, slice_get-get_or}
use Rattle.dayline.specs.Parts.{parts, lines_of, place_of}

module _ (at : ℕ) (text : List ℕ) where
  -- no such byte
  pub uncut : AllWithin (λ b. b == at ≡ false) text 0 (length text) → parts at text ≡ text ∷ []
  uncut none = slice_split_none (λ b. b == at) text (λ k d h. none k d (omega arith) h)

  -- the first such byte stands at i
  cut_first : (i : ℕ) → i < length text → HoldsAt (λ b. b == at ≡ true) text i → AllWithin (λ b. b == at ≡ false) text 0 i → parts at text ≡ take i text ∷ parts at (drop (i + 1) text)
  cut_first i h here none =
      let e : position_or_len (λ b. b == at) text ≡ i = position_or_len_is (λ b. b == at) text i 0 (omega arith) (λ k l. none k 0 (omega arith) l) (λ l. here 0) in
      rw e at (slice_split_first (λ b. b == at) text 0 (omega arith))

  -- the same as `text[..i]` and `text[i + 1..]` are seen in code
  pub cut_at : (i : ℕ) → i < length text → HoldsAt (λ b. b == at ≡ true) text i → AllWithin (λ b. b == at ≡ false) text 0 i
      → (parts at text ≡ take i text ∷ parts at (take (length text - (i + 1)) (drop (i + 1) text)))
      × (length (take i text) + 1 + length (take (length text - (i + 1)) (drop (i + 1) text)) ≡ length text)
  cut_at i h here none = rw take_rest (cut_first i h here none, simp (length-take, length-drop) (omega arith))

  -- every text has a part
  pub some_part : 0 < length (parts at text)
  some_part = omega (arith, length-slice_split (λ b. b == at) text)

-- ---- from one part to the next

pub next_part : (i : ℕ) (ps : List (List ℕ)) (f : List ℕ) (gs : List (List ℕ)) → drop i ps ≡ f ∷ gs → (drop (suc i) ps ≡ gs) × (place_of (suc i) ps ≡ place_of i ps + (length f + 1))
next_part zero [] f gs e = absurd (omega (arith, ap length e))
next_part zero (p ∷ ps) f gs e =
    let tail : ps ≡ gs = cc in
    let head : p ≡ f = cc in
    (tail, omega (arith, ap length head))
next_part (suc i) [] f gs e = absurd (omega (arith, ap length e))
next_part (suc i) (p ∷ ps) f gs e = let r = next_part i ps f gs e in (r.0, omega (arith, r.1))

pub length_before : (i : ℕ) (ps qs : List (List ℕ)) → drop i ps ≡ qs → 0 < length qs → length ps ≡ i + length qs
length_before i ps qs e h = omega (arith, ap length e, length-drop i ps)

-- the part at an index, by the parts from it on
pub part_here : (i : ℕ) (ps : List (List ℕ)) (f : List ℕ) (gs : List (List ℕ)) → drop i ps ≡ f ∷ gs → f ≡ get_or ps i []
part_here zero [] f gs e = absurd (omega (arith, ap length e))
part_here zero (p ∷ ps) f gs e = cc
part_here (suc i) [] f gs e = absurd (omega (arith, ap length e))
part_here (suc i) (p ∷ ps) f gs e = part_here i ps f gs e

-- ---- lines

lines_length : (text : List ℕ) → length (lines_of text) ≡ length (parts 10 text) - 1
lines_length text = simp length-take (omega arith)

-- the line at an index, by the parts from it on
pub line_here : (text : List ℕ) (n : ℕ) (rest line after : List ℕ) → drop n (parts 10 text) ≡ parts 10 rest → parts 10 rest ≡ line ∷ parts 10 after → Some line ≡ slice_get (lines_of text) n
line_here text n rest line after d e =
    let ps = parts 10 text in
    let l = length_before n ps (line ∷ parts 10 after) (d ∙ e) (omega arith) in
    let more = some_part 10 after in
    let in_lines : n < length (lines_of text) = omega (arith, lines_length text, l) in
    ap (λ x. Some x) (part_here n ps line (parts 10 after) (d ∙ e) ∙ sym (get_or-take (length ps - 1) ps n [] (omega (arith, l)))) ∙ sym (slice_get-get_or (lines_of text) n [] in_lines)

pub line_unended : (text : List ℕ) (n : ℕ) (rest : List ℕ) → drop n (parts 10 text) ≡ parts 10 rest → parts 10 rest ≡ rest ∷ [] → None ≡ slice_get (lines_of text) n
line_unended text n rest d e =
    let l = length_before n (parts 10 text) (rest ∷ []) (d ∙ e) (omega arith) in
    sym (slice_get_past (lines_of text) n (omega (arith, lines_length text, l)))

-- a line, and those of what stands behind it
lines_more : (rest line after : List ℕ) → parts 10 rest ≡ line ∷ parts 10 after → lines_of rest ≡ line ∷ lines_of after
lines_more rest line after e =
    let ps = parts 10 after in
    let more = some_part 10 after in
    let n : suc (length ps) - 1 ≡ suc (length ps - 1) = omega (arith, more) in
    ap (λ qs. take (length qs - 1) qs) e ∙ ap (λ k. take k (line ∷ ps)) n

pub lines_none : (rest : List ℕ) → parts 10 rest ≡ rest ∷ [] → lines_of rest ≡ []
lines_none rest e = ap (λ qs. take (length qs - 1) qs) e

pub line_split : (before items : List (Bor (List ℕ))) (line : Bor (List ℕ)) (text rest after : List ℕ) → parts 10 rest ≡ line.now ∷ parts 10 after → items ≡ before ++ line ∷ []
    → map (λ x. x.now) before ++ lines_of rest ≡ lines_of text → map (λ x. x.now) items ++ lines_of after ≡ lines_of text
line_split before items line text rest after e i h =
    ap (λ ls. map (λ x. x.now) ls ++ lines_of after) i
    ∙ (ap (λ ls. ls ++ lines_of after) (map_push (λ x. x.now) before line)
    ∙ (append_assoc (map (λ x. x.now) before) (line.now ∷ []) (lines_of after)
    ∙ (ap (λ ls. map (λ x. x.now) before ++ ls) (sym (lines_more rest line.now after e)) ∙ h)))

-- ---- how many

-- a line has at least the byte that ends it
pub few_lines : (text : List ℕ) → length (lines_of text) ≤ length text
few_lines text = omega (arith, lines_length text, length-slice_split (λ b. b == 10) text, count_by-le-length (λ b. b == 10) text)
