-- How long the output is at the most.
use Rattle.std.proofs.Common.{ℕ, suc, ◌*◌, ◌^◌, ◌<◌, ◌≤◌, List, [], ◌∷◌, map, length, ℤ, pos, negsuc, ◌≤ℤ◌, codes, arith}
use Rattle.std.specs.Int.Signed.{mag}
use Rattle.std.proofs.lemmas.Fmt.{length-decimal-le, length_signed_le}
use Rattle.std.proofs.lemmas.List.{length-append, length-take}
use Rattle.std.proofs.lemmas.Int.{ints}
use Rattle.std.specs.Fmt.{signed_decimal}
use Rattle.model.specs.Labels.{text_of}
use Rattle.model.specs.Plans.{View}
use Rattle.model.specs.Verdicts.{word_of}
use Rattle.model.specs.declared.labels.Label.{Label}
use Rattle.model.specs.declared.verdicts.Verdict.{Verdict}
use Rattle.model.specs.declared.verdicts.Verdict.TheVariants.{NoPlan, Open, AnyPlan}
use Rattle.output.specs.Output.{earliest_of, latest_of, point_line, point_lines, point_table, verdict_table}
use Rattle.runs.specs.declared.answers.Answer.{Answer}

-- a number from -10,081 to 10,081
abbrev pub Near : ℤ → Type 0
Near z = (negsuc 10080 ≤ℤ z) × (z ≤ℤ pos 10081)

near_mag : (z : ℤ) → Near z → mag z ≤ 10081
near_mag (pos n) h = omega (arith, ints)
near_mag (negsuc n) h = omega (arith, ints)

near_length : (z : ℤ) → Near z → length (signed_decimal z) ≤ 6
near_length z h = let n = near_mag z h in length_signed_le 5 z (omega arith) (omega arith)

text_length : (label : Label) → length (text_of label) ≤ 8
text_length label = omega (arith, label.short, length-take label.len label.bytes)

point_length : (label : Label) (from to : ℤ) → Near from → Near to → length (point_line (text_of label) from to) ≤ 23
point_length label from to hf ht =
    let l = text_length label in
    let f = near_length from hf in
    let t = near_length to ht in
    simp length-append (omega arith)

-- a table of numbers from -10,081 to 10,080
module _ (m : View) (low : (i j : ℕ) → negsuc 10080 ≤ℤ m.at i j) (high : (i j : ℕ) → m.at i j ≤ℤ pos 10080) where
  earliest_near : (p : ℕ) → Near (earliest_of m p)
  earliest_near p = let l = low p 0 in let h = high p 0 in (omega (arith, ints), omega (arith, ints))

  latest_near : (p : ℕ) → Near (latest_of m p)
  latest_near p = let l = low 0 p in let h = high 0 p in (omega (arith, ints), omega (arith, ints))

  lines_length : (p : ℕ) (labels : List Label) → length (point_lines m p (map text_of labels)) ≤ 23 * length labels
  lines_length p [] = omega arith
  lines_length p (l ∷ ls) =
      let first = point_line (text_of l) (earliest_of m p) (latest_of m p) in
      let a = point_length l (earliest_of m p) (latest_of m p) (earliest_near p) (latest_near p) in
      let b = lines_length (suc p) ls in
      omega (arith, length-append first (point_lines m (suc p) (map text_of ls)))

  pub table_length : (labels : List Label) → length labels ≤ 64 → length (point_table m (map text_of labels)) ≤ 1494
  table_length labels few =
      let a = lines_length 0 labels in
      omega (arith, length-append (codes "label earliest latest\n") (point_lines m 0 (map text_of labels)))

word_length : (v : Verdict) → length (word_of v) ≤ 6
word_length NoPlan = omega arith
word_length Open = omega arith
word_length AnyPlan = omega arith

pub verdict_length : (a : Answer) → a.count < 2 ^ 32 → length (verdict_table a) ≤ 32
verdict_length a h =
    let w = word_length a.verdict in
    let d = length-decimal-le 10 a.count (omega arith) (omega arith) (omega arith) in
    simp length-append (omega arith)
