-- A bunker over the uses that stand in it: the plans that it allows, and what it tells of a table.
use Rattle.std.specs.Prelude.{◌≡◌, ℕ, ◌≤◌, Bool, true, false, cond, not, ◌&&◌, ◌||◌, ◌⊎◌, List, [], ◌∷◌, ℤ, pos, negsuc, ◌+ℤ◌, ◌-ℤ◌, neg_ℤ, ◌≤ℤ◌, ◌<ℤ◌, Some, None, ◌==◌, int_le, int_lt, nat_le, nat_lt}
use Rattle.std.specs.Int.{int_max, int_min}
use Rattle.model.specs.Meanings.{Meaning}
use Rattle.model.specs.Plans.{Plan, View}
use Rattle.model.specs.Uses.{Uses, In, standing}
use Rattle.model.specs.declared.moments.Moment.{Moment}
use Rattle.model.specs.declared.moments.Moment.TheVariants.{Point, Minute}
use Rattle.model.specs.declared.slips.Use.{Use}
use Rattle.bunker_laws.specs.declared.settings.Settings.{Settings}

-- ---- uses and levels

-- a use with one point is a delivery, any other a loan
abbrev pub delivery : Use → Bool
delivery u = u.first == u.last

-- A use is active once it counts, a delivery that is done or a loan that is out, and idle otherwise, a delivery that is due or a
-- loan that is in. Active it is worth this much, idle 0.
abbrev pub worth : Use → ℤ
worth u = cond (delivery u) u.kilos (neg_ℤ u.kilos)

-- a delivery is active from its minute on, a loan from the minute of `first` until just before that of `last`
abbrev pub active : Plan → ℕ → Use → Bool
active t k u = nat_le (t u.first) k && (delivery u || nat_lt k (t u.last))

-- the sum over all uses
abbrev pub total : (Use → ℤ) → List Use → ℤ
total f [] = pos 0
total f (u ∷ us) = f u +ℤ total f us

-- what stands in the bunker at minute k
abbrev pub level_at : Settings → List Use → Plan → ℕ → ℤ
level_at s us t k = s.start +ℤ total (λ u. cond (active t k u) (worth u) (pos 0)) us

pub record Allows (s : Settings) (us : List Use) (t : Plan) : Type 0 where
  pub room : (k : ℕ) → k ≤ 10080 → (s.floor ≤ℤ level_at s us t k) × (level_at s us t k ≤ℤ s.roof)
  pub order : (u : Use) → In u us → t u.first ≤ t u.last

-- ---- moments

-- the point p comes no later than the moment, as far as the table is sure of it
abbrev pub sure_by : View → ℕ → Moment → Bool
sure_by m p (Point q) = int_le (m.at q p) (pos 0)
sure_by m p (Minute k) = int_le (m.at 0 p) (pos k)

-- it comes after the moment
abbrev pub sure_after : View → ℕ → Moment → Bool
sure_after m p (Point q) = int_lt (m.at p q) (pos 0)
sure_after m p (Minute k) = int_lt (m.at p 0) (neg_ℤ (pos k))

-- the bounds that say "p by the moment" and "p after the moment"
abbrev pub ByBound : ℕ → Moment → ℕ → ℕ → ℤ → Type 0
ByBound p (Point q) i j b = (i ≡ q) × (j ≡ p) × (b ≡ pos 0)
ByBound p (Minute k) i j b = (i ≡ 0) × (j ≡ p) × (b ≡ pos k)

abbrev pub AfterBound : ℕ → Moment → ℕ → ℕ → ℤ → Type 0
AfterBound p (Point q) i j b = (i ≡ p) × (j ≡ q) × (b ≡ negsuc 0)
AfterBound p (Minute k) i j b = (i ≡ p) × (j ≡ 0) × (b ≡ negsuc k)

-- the minute of a moment under a plan
abbrev pub minute_of : Plan → Moment → ℕ
minute_of t (Point q) = t q
minute_of t (Minute k) = k

-- the moments that a bunker looks at: every minute, and each point that a use names
pub data Looked (us : List Use) (x : Moment) : Type 0 where
  minute : (k : ℕ) → k ≤ 10080 → x ≡ Minute k → Looked us x
  first : (u : Use) → In u us → x ≡ Point u.first → Looked us x
  last : (u : Use) → In u us → x ≡ Point u.last → Looked us x

-- ---- options at a moment

abbrev pub can_be_active : View → Moment → Use → Bool
can_be_active m x u = not (sure_after m u.first x) && (delivery u || not (sure_by m u.last x))

abbrev pub can_be_idle : View → Moment → Use → Bool
can_be_idle m x u = not (sure_by m u.first x && (delivery u || sure_after m u.last x))

-- the largest worth among the options that are open, or 0
abbrev pub high : View → Moment → Use → ℤ
high m x u = cond (can_be_active m x u) (cond (can_be_idle m x u) (int_max (worth u) (pos 0)) (worth u)) (pos 0)

-- the smallest
abbrev pub low : View → Moment → Use → ℤ
low m x u = cond (can_be_active m x u) (cond (can_be_idle m x u) (int_min (worth u) (pos 0)) (worth u)) (pos 0)

abbrev pub highest : Settings → List Use → View → Moment → ℤ
highest s us m x = s.start +ℤ total (high m x) us

abbrev pub lowest : Settings → List Use → View → Moment → ℤ
lowest s us m x = s.start +ℤ total (low m x) us

-- both options of the use are open, and the one of worth w is ruled out: with it no level is left between floor and roof
pub record RuledOut (s : Settings) (us : List Use) (m : View) (x : Moment) (u : Use) (w : ℤ) : Type 0 where
  pub active_open : can_be_active m x u ≡ true
  pub idle_open : can_be_idle m x u ≡ true
  pub no_room : (((highest s us m x -ℤ high m x u) +ℤ w) <ℤ s.floor) ⊎ (s.roof <ℤ ((lowest s us m x -ℤ low m x u) +ℤ w))

-- ---- what it tells of a table

-- the bounds that follow for the use u from what is ruled out at the moment x
pub data Follows (s : Settings) (us : List Use) (m : View) (x : Moment) (u : Use) (i j : ℕ) (b : ℤ) : Type 0 where
  -- not idle: a delivery is done by x; a loan is out, so `first` is by x and `last` after x
  starts : RuledOut s us m x u (pos 0) → ByBound u.first x i j b → Follows s us m x u i j b
  lasts : delivery u ≡ false → RuledOut s us m x u (pos 0) → AfterBound u.last x i j b → Follows s us m x u i j b
  -- not active: a delivery is due after x; a loan that ends after x begins after x, and one that began by x is over by x
  waits : (delivery u || sure_after m u.last x) ≡ true → RuledOut s us m x u (worth u) → AfterBound u.first x i j b → Follows s us m x u i j b
  ends : delivery u ≡ false → sure_by m u.first x ≡ true → RuledOut s us m x u (worth u) → ByBound u.last x i j b → Follows s us m x u i j b

pub data Gives (s : Settings) (us : List Use) (m : View) (i j : ℕ) (b : ℤ) : Type 0 where
  -- a loan ends no earlier than it begins
  order : (u : Use) → In u us → delivery u ≡ false → i ≡ u.last → j ≡ u.first → b ≡ pos 0 → Gives s us m i j b
  follows : (x : Moment) → Looked us x → (u : Use) → In u us → Follows s us m x u i j b → Gives s us m i j b

pub data Refuses (s : Settings) (us : List Use) (m : View) : Type 0 where
  under : (x : Moment) → Looked us x → highest s us m x <ℤ s.floor → Refuses s us m
  over : (x : Moment) → Looked us x → s.roof <ℤ lowest s us m x → Refuses s us m
  reversed : (u : Use) → In u us → delivery u ≡ false → m.at u.first u.last <ℤ pos 0 → Refuses s us m

pub record Vouches (s : Settings) (us : List Use) (m : View) : Type 0 where
  pub room : (u : Use) (p : ℕ) → In u us → (p ≡ u.first) ⊎ (p ≡ u.last) → (s.floor ≤ℤ lowest s us m (Point p)) × (highest s us m (Point p) ≤ℤ s.roof)
  pub order : (u : Use) → In u us → delivery u ≡ false → m.at u.last u.first ≤ℤ pos 0

-- a bunker has one place, whose level it tells
abbrev pub meaning : Settings → Uses → Meaning
meaning s us = record {
  allows = Allows s (standing (us 0));
  refuses = Refuses s (standing (us 0));
  vouches = Vouches s (standing (us 0));
  gives = Gives s (standing (us 0));
  level = λ t place x. level_at s (standing (us 0)) t (minute_of t x);
  levels = λ m place x. cond (place == 0) (Some (highest s (standing (us 0)) m x, lowest s (standing (us 0)) m x)) None;
}
