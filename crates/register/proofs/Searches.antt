-- What a binary search by number finds among rising numbers.
use Rattle.std.proofs.Common.{◌≡◌, ℕ, ◌<◌, List, [], ◌∷◌, length, get_or, Some, Result, Ok, Err, IfOk, IfErr, sym, subst, arith}
use Rattle.register.proofs.Looks.{lookup_absent, lookup_at}
use Rattle.register.specs.Lookups.{number_of, numbers, Gap}
use Rattle.register.specs.Standing.{items_of, IsAt, IsGapFor}
use Rattle.register.specs.declared.records.Numbered.{Numbered}
use Rattle.register.specs.declared.registers.Register.{Register}
use Rattle.std.proofs.lemmas.Bool.Decides.{nat_tests}
use Rattle.std.proofs.lemmas.Cmp.{ranked}
use Rattle.std.proofs.lemmas.List.{get_or-map, length-map}
use Rattle.std.proofs.lemmas.Option.{none-some}
use Rattle.std.specs.List.Sorted.{IsSearchInRange, IsBinarySearchResult, IsNonDecreasingBy}
use Rattle.std.specs.Ordering.{nat_cmp, ordering_index}
use Rattle.std.specs.Result.{result_ok}

-- what holds of the place that a search found
pub at_found : (P : ℕ → Type 0) (o : Result ℕ ℕ) (i : ℕ) → Some i ≡ result_ok o → IfOk o P → P i
at_found P (Ok j) i e h = let same : j ≡ i = cc in subst P same h
at_found P (Err j) i e h = absurd (none-some i (sym e))

module _ {T : Type 0} where
  -- what holds of the number of the record at a place
  numbered_at : (P : ℕ → Type 0) (xs : List (Numbered T)) (i : ℕ) → i < length xs → ((d : Numbered T) → P (number_of (get_or xs i d))) → P (get_or (numbers xs) i 0)
  numbered_at P [] i l h = absurd (omega arith)
  numbered_at P (x ∷ xs) i l h = subst P (sym (get_or-map number_of (x ∷ xs) i x 0 l)) (h x)

  module _ {MOST : ℕ} (r : Register T MOST) (n : ℕ) where
    abbrev xs : List (Numbered T)
    xs = items_of r

    -- the comparisons with n rise along the list
    comparisons_rise : IsNonDecreasingBy (λ x. ordering_index (nat_cmp (number_of x) n)) xs
    comparisons_rise i j d le l =
        let a = get_or-map number_of xs i d 0 (omega arith) in
        let b = get_or-map number_of xs j d 0 l in
        grind (arith, nat_tests, r.rises i j 0, length-map xs number_of)

    pub searched : (o : Result ℕ ℕ) → IsSearchInRange o (length xs) → IsBinarySearchResult (λ x. nat_cmp (number_of x) n) xs o → record { found : IfOk o (IsAt r n); absent : IfErr o (IsGapFor r n) }
    searched (Ok i) l equal =
        let is = numbered_at (λ m. m ≡ n) xs i l (λ d. ranked _ n _ (sym (equal d))) in
        record {
          found = record { in_range = l; is = is; stood = lookup_at xs n i l is (λ k m e. omega (arith, r.rises k i 0 m (omega (arith, length-map xs number_of)))) };
          absent = tt;
        }
    searched (Err i) l parted =
        let at = parted comparisons_rise in
        let len = length-map xs number_of in
        let gap : Gap (numbers xs) n i = record {
          before = λ k h. numbered_at (λ m. m < n) xs k (omega arith) (λ d. ranked _ n _ (sym (at.0 k d (omega arith) h)));
          behind = λ k h m. numbered_at (λ m. n < m) xs k (omega arith) (λ d. ranked _ n _ (sym (at.1 k d h (omega arith))));
        } in
        record {
          found = tt;
          absent = record { in_range = l; gap = gap; none = lookup_absent xs n (λ k m e. grind (arith, gap.before k, gap.behind k, len)) };
        }
