-- The levels of a bunker, use by use.
use Rattle.std.proofs.Common.{◌≡◌, ℕ, ◌+◌, Bool, cond, List, [], ◌∷◌, ◌++◌, take, ℤ, pos, negsuc, ◌+ℤ◌, ◌≤ℤ◌, sym, ap, ◌∙◌, subst, arith}
use Rattle.bunker.specs.Choices.{high_of, low_of, Leaves}
use Rattle.bunker.specs.Ranges.{Small}
use Rattle.bunker.specs.Records.{uses_of}
use Rattle.bunker.specs.declared.bunkers.Bunker.{Bunker}
use Rattle.bunker.specs.declared.options.Options.{Options}
use Rattle.bunker.specs.declared.options.Options.TheVariants.{Both, Active, Idle, Neither}
use Rattle.bunker.proofs.Turns.{Turn, few_uses, light_use, light_front}
use Rattle.bunker_laws.proofs.Ranges.{Among, high_within, low_within, total_high_within, total_low_within}
use Rattle.bunker_laws.proofs.Sums.{total_le}
use Rattle.bunker_laws.specs.Bunkers.{total, worth, can_be_active, can_be_idle, high, low}
use Rattle.model.specs.Plans.{View}
use Rattle.model.specs.declared.moments.Moment.{Moment}
use Rattle.model.specs.declared.slips.Use.{Use}
use Rattle.std.proofs.lemmas.Int.{ints}
use Rattle.std.specs.Int.{int_max, int_min}

total_push : (f : Use → ℤ) (us : List Use) (u : Use) → total f (us ++ u ∷ []) ≡ (total f us +ℤ f u)
total_push f [] u = omega (arith, ints)
total_push f (v ∷ us) u = let e = total_push f us u in omega (arith, ints)

-- at most a million, either way
pub high_small : (o : Options) → Small (high_of o)
high_small (Both w) = (grind (arith, ints, w.small.0), grind (arith, ints, w.small.1))
high_small (Active w) = w.small
high_small Idle = (omega (arith, ints), omega (arith, ints))
high_small Neither = (omega (arith, ints), omega (arith, ints))

pub low_small : (o : Options) → Small (low_of o)
low_small (Both w) = (grind (arith, ints, w.small.0), grind (arith, ints, w.small.1))
low_small (Active w) = w.small
low_small Idle = (omega (arith, ints), omega (arith, ints))
low_small Neither = (omega (arith, ints), omega (arith, ints))

-- the options that are left are worth what the moment leaves open
pub leaves_high : (o : Options) (a i : Bool) (z : ℤ) → Leaves o a i z → high_of o ≡ cond a (cond i (int_max z (pos 0)) z) (pos 0)
leaves_high (Both w) a i z h = cc
leaves_high (Active w) a i z h = cc
leaves_high Idle a i z h = cc
leaves_high Neither a i z h = cc

pub leaves_low : (o : Options) (a i : Bool) (z : ℤ) → Leaves o a i z → low_of o ≡ cond a (cond i (int_min z (pos 0)) z) (pos 0)
leaves_low (Both w) a i z h = cc
leaves_low (Active w) a i z h = cc
leaves_low Idle a i z h = cc
leaves_low Neither a i z h = cc

low_high : (m : View) (x : Moment) (u : Use) → low m x u ≤ℤ high m x u
low_high m x u = options (can_be_active m x u) (can_be_idle m x u) (worth u)
  where
    options : (a i : Bool) (w : ℤ) → cond a (cond i (int_min w (pos 0)) w) (pos 0) ≤ℤ cond a (cond i (int_max w (pos 0)) w) (pos 0)
    options a i w = grind (arith, ints)

-- the sums over the first i uses
pub record Front (m : View) (x : Moment) (us : List Use) : Type 0 where
  pub deep : negsuc 31999999 ≤ℤ total (low m x) us
  pub order : total (low m x) us ≤ℤ total (high m x) us
  pub tall : total (high m x) us ≤ℤ pos 32000000

pub front_levels : (b : Bunker) (m : View) (x : Moment) (i : ℕ) → Front m x (take i (uses_of b))
front_levels b m x i = record {
  deep = (total_low_within (take i (uses_of b)) m x 32 (few_uses b i) (light_front b i)).0;
  order = total_le (take i (uses_of b)) (low m x) (high m x) (λ u _. low_high m x u);
  tall = (total_high_within (take i (uses_of b)) m x 32 (few_uses b i) (light_front b i)).1;
}

-- the sum over the first i uses, and what the next one adds
pub record Adds (f : Use → ℤ) (us : List Use) (i : ℕ) (z : ℤ) : Type 0 where
  pub before : Among 32000000 (total f (take i us))
  pub here : Among 1000000 z
  pub after : total f (take (i + 1) us) ≡ (total f (take i us) +ℤ z)

module _ (b : Bunker) (m : View) (x : Moment) (i : ℕ) (u : Use) (o : Options) (t : Turn (uses_of b) i u) (l : Leaves o (can_be_active m x u) (can_be_idle m x u) (worth u)) where
  after : (f : Use → ℤ) → total f (take (i + 1) (uses_of b)) ≡ (total f (take i (uses_of b)) +ℤ f u)
  after f = ap (total f) t.more ∙ total_push f (take i (uses_of b)) u

  pub adds_high : (z : ℤ) → z ≡ high_of o → Adds (high m x) (uses_of b) i z
  adds_high z e =
      let same : z ≡ high m x u = e ∙ leaves_high o _ _ _ l in
      subst (λ y. Adds (high m x) (uses_of b) i y) (sym same) (record {
        before = total_high_within (take i (uses_of b)) m x 32 (few_uses b i) (light_front b i);
        here = high_within m x u 1000000 (light_use b u t.here);
        after = after (high m x);
      })

  pub adds_low : (z : ℤ) → z ≡ low_of o → Adds (low m x) (uses_of b) i z
  adds_low z e =
      let same : z ≡ low m x u = e ∙ leaves_low o _ _ _ l in
      subst (λ y. Adds (low m x) (uses_of b) i y) (sym same) (record {
        before = total_low_within (take i (uses_of b)) m x 32 (few_uses b i) (light_front b i);
        here = low_within m x u 1000000 (light_use b u t.here);
        after = after (low m x);
      })
