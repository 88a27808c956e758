-- Rising slip numbers, after an insertion and a removal.
use Rattle.std.proofs.Common.{◌≡◌, ℕ, suc, ◌+◌, ◌-◌, ◌<◌, ◌≤◌, List, ◌∷◌, length, get_or, take, drop, subst, arith}
use Rattle.register.specs.Lookups.{Rises, Gap}
use Rattle.std.proofs.lemmas.List.{get_or_default}
use Rattle.std.proofs.lemmas.List.Edits.{length-insert, get_or-insert_below, get_or-insert_at, get_or-insert_above}
use Rattle.std.proofs.lemmas.List.Elements.{All-cons, All-append, All-take, All-drop}
use Rattle.std.specs.List.{All, insert, remove}

-- each number of the new list is an old one before the gap, n at it, or an old one moved up by one
pub rises_inserted : (ns : List ℕ) (n i : ℕ) → i ≤ length ns → Rises ns → Gap ns n i → Rises (insert ns i n)
rises_inserted ns n i h r g a b d lt l =
    let new = insert ns i n in
    let len = length-insert ns i n h in
    let below : (k : ℕ) → k < i → get_or new k 0 ≡ get_or ns k 0 = λ k s. get_or-insert_below ns i n 0 k s h in
    let here : (k : ℕ) → k ≡ i → get_or new k 0 ≡ n = λ k e. rw e (get_or-insert_at ns i n 0 h) in
    let above : (k : ℕ) → i < k → get_or new k 0 ≡ get_or ns (k - 1) 0 = λ k s. subst (λ q. get_or new q 0 ≡ get_or ns (k - 1) 0) {x = k - 1 + 1} (omega arith) (get_or-insert_above ns i n 0 (k - 1) (omega arith) h) in
    let rises : get_or new a 0 < get_or new b 0 = grind (arith, below a, here a, above a, below b, here b, above b, r a b 0, r a (b - 1) 0, r (a - 1) (b - 1) 0, g.before a, g.behind (b - 1)) in
    omega (arith, get_or_default new a d 0 (omega arith), get_or_default new b d 0 l)

-- what holds of each number, after either
module _ (P : ℕ → Type 0) (ns : List ℕ) (i : ℕ) (all : All P ns) where
  pub all_inserted : (n : ℕ) → P n → All P (insert ns i n)
  all_inserted n h = All-append P (take i ns) (n ∷ drop i ns) (All-take P i ns all) (All-cons P n (drop i ns) h (All-drop P i ns all))

  pub all_removed : All P (remove ns i)
  all_removed = All-append P (take i ns) (drop (suc i) ns) (All-take P i ns all) (All-drop P (suc i) ns all)
