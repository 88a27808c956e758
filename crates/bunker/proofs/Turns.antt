-- The turns of a loop over the uses of a bunker.
use Rattle.std.proofs.Common.{◌≡◌, ℕ, ◌+◌, ◌<◌, ◌≤◌, ◌⊎◌, List, [], ◌∷◌, ◌++◌, map, length, get_or, take, pos, sym, ap, ◌∙◌, subst, inl, inr, ⊎_elim, arith}
use Rattle.bunker.specs.Ranges.{Light}
use Rattle.bunker.specs.Records.{uses_of}
use Rattle.bunker.specs.declared.bunkers.Bunker.{Bunker}
use Rattle.model.proofs.Gathers.{under_number}
use Rattle.model.proofs.Members.{in_either, in_front, in_last, in_place, in_taken}
use Rattle.model.specs.Uses.{In}
use Rattle.model.specs.declared.slips.Use.{Use}
use Rattle.register.proofs.Gathered.{standing_items}
use Rattle.register.specs.Lookups.{what_of}
use Rattle.register.specs.Standing.{items_of, stands}
use Rattle.register.specs.declared.records.Numbered.{Numbered}
use Rattle.std.proofs.lemmas.List.{take_more, take_all, get_or-map, length-map, length-take}

-- ---- a list of which one more is passed

-- what a program reads where there is nothing
abbrev pub blank : Numbered Use
blank = record { number = 0; what = record { first = 0; last = 0; kilos = pos 0 } }

-- the use u stands at the place i
pub record Turn (us : List Use) (i : ℕ) (u : Use) : Type 0 where
  pub more : take (i + 1) us ≡ take i us ++ u ∷ []
  pub here : In u us

module _ (us : List Use) (i : ℕ) (u : Use) (t : Turn us i u) where
  pub in_next : (v : Use) → In v (take (i + 1) us) → In v (take i us) ⊎ (u ≡ v)
  in_next v h = ⊎_elim inl (⊎_elim inr (λ z. absurd z)) (in_either v (take i us) (u ∷ []) (subst (λ vs. In v vs) t.more h))

  pub in_still : (v : Use) → In v (take i us) → In v (take (i + 1) us)
  in_still v h = subst (λ vs. In v vs) (sym t.more) (in_front v (take i us) (u ∷ []) h)

  pub in_now : In u (take (i + 1) us)
  in_now = subst (λ vs. In u vs) (sym t.more) (in_last u (take i us))

  -- what holds of each use before holds of each use so far
  pub each_more : (P : Use → Type 0) → ((v : Use) → In v (take i us) → P v) → P u → (v : Use) → In v (take (i + 1) us) → P v
  each_more P before here v h = ⊎_elim (before v) (λ e. subst P e here) (in_next v h)

-- ---- the records of a bunker

module _ (b : Bunker) (xs : List (Numbered Use)) (i : ℕ) (same : xs ≡ items_of b.uses) where
  count : length (uses_of b) ≡ length xs
  count = ap (λ ys. length (map what_of ys)) (sym same) ∙ length-map xs what_of

  pub turn : i < length xs → Turn (uses_of b) i (get_or xs i blank).what
  turn h =
      let inside : i < length (uses_of b) = omega (arith, count) in
      let e : get_or (uses_of b) i blank.what ≡ (get_or xs i blank).what = ap (λ ys. get_or (map what_of ys) i blank.what) (sym same) ∙ get_or-map what_of xs i blank blank.what h in
      record {
        more = take_more (uses_of b) i blank.what inside ∙ ap (λ u. take i (uses_of b) ++ u ∷ []) e;
        here = subst (λ u. In u (uses_of b)) e (in_place (uses_of b) i blank.what inside);
      }

  pub passed : length xs ≤ i → take i (uses_of b) ≡ uses_of b
  passed h = take_all i (uses_of b) (omega (arith, count))

module _ (b : Bunker) where
  pub few_uses : (i : ℕ) → length (take i (uses_of b)) ≤ 32
  few_uses i = omega (arith, length-take i (uses_of b), length-map (items_of b.uses) what_of, b.uses.few)

  pub light_use : (u : Use) → In u (uses_of b) → Light u
  light_use u h =
      let w = under_number u 1 9999 (stands b.uses) (subst (λ us. In u us) (sym (standing_items b.uses)) h) in
      b.light w.0 u w.1

  pub light_front : (i : ℕ) (u : Use) → In u (take i (uses_of b)) → Light u
  light_front i u h = light_use u (in_taken u i (uses_of b) h)
