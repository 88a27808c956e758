-- The order of reading, as code parts the lines of hall.day.
use Rattle.std.proofs.Common.{◌≡◌, ℕ, ◌+◌, min, List, map, length, take, drop, None, sym, refl, ap, ◌∙◌, Bor}
use Rattle.std.proofs.lemmas.List.{take_min, drop_min, take-map, drop-map, length-map}
use Rattle.daytables.specs.declared.due.Due.TheVariants.{FloorNames, LabelNames, PlaceNames}
use Rattle.dayfile.specs.Reading.{Read, unread, read_from, go_on, read_lines}
use Rattle.dayfile.specs.declared.faults.DayFile.TheVariants.{Bridge, Hall}

module _ (hall floor places : List (Bor (List ℕ))) (n : ℕ) (least : n ≡ min 4 (length hall)) (front : floor ≡ take n hall) (back : places ≡ drop n hall) where
  floor_is : floor ≡ take 4 hall
  floor_is = front ∙ (ap (λ k. take k hall) least ∙ take_min 4 hall)

  floor_part : map (λ x. x.now) floor ≡ take 4 (map (λ x. x.now) hall)
  floor_part = ap (map (λ x. x.now)) floor_is ∙ sym (take-map (λ x. x.now) 4 hall)

  place_part : map (λ x. x.now) places ≡ drop 4 (map (λ x. x.now) hall)
  place_part = ap (map (λ x. x.now)) (back ∙ (ap (λ k. drop k hall) least ∙ drop_min 4 hall)) ∙ sym (drop-map (λ x. x.now) 4 hall)

  floor_length : length floor ≡ length (take 4 (map (λ x. x.now) hall))
  floor_length = sym (length-map floor (λ (x : Bor (List ℕ)). x.now)) ∙ ap length floor_part

  -- the three parts, one after another
  pub in_order : (bridge : List (Bor (List ℕ))) (r₀ r₁ r₂ r₃ : Read) → r₀ ≡ unread None
      → r₁ ≡ go_on r₀ (read_from Hall FloorNames 1 (map (λ x. x.now) floor))
      → r₂ ≡ go_on r₁ (read_from Bridge LabelNames 1 (map (λ x. x.now) bridge))
      → r₃ ≡ go_on r₂ (read_from Hall PlaceNames (length floor + 1) (map (λ x. x.now) places))
      → r₃ ≡ read_lines (map (λ x. x.now) bridge) (map (λ x. x.now) hall)
  unfolding read_lines
  in_order bridge r₀ r₁ r₂ r₃ e₀ e₁ e₂ e₃ = rw (e₃, e₂, e₁, e₀, floor_part, floor_length, place_part) refl
