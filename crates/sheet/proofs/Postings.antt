-- Why a slip or a use is not posted, and what stands after.
use Rattle.std.proofs.Common.{Ok, Err, ◌≡◌, ℕ, ◌<◌, Bool, true, false, not, ◌&&◌, eqb, ltb, leb, length, pos, neg_ℤ, is_some, Some, None, Option, sym, refl, ap, ◌∙◌, subst, ⊎_elim, arith}
use lib.Signed.{le_z}
use Rattle.std.proofs.lemmas.Bool.{cases_eq, lt-leb, le-leb}
use Rattle.std.proofs.lemmas.Bool.Decides.{nat_tests}
use Rattle.std.proofs.lemmas.Option.{same_Some}
use Rattle.model.specs.Closed.{Slips, SlipsHeld}
use Rattle.model.specs.Limits.{places_of, not_taken, answer}
use Rattle.model.specs.Uses.{standing}
use Rattle.model.specs.declared.refusals.Refusal.{Refusal}
use Rattle.model.specs.declared.refusals.Refusal.TheVariants.{NoPlace, BadSlipNumber, NoPoint, SamePoint, BadDistance, NumberStands, SlipsFull}
use Rattle.model.specs.declared.slips.Distance.{Distance}
use Rattle.model.specs.declared.slips.Use.{Use}
use Rattle.register.proofs.Gathered.{standing_length}
use Rattle.register.specs.Lookups.{put_at}
use Rattle.register.specs.Numbers.{is_number}
use Rattle.register.specs.Standing.{stands, Accepts, Refuses}
use Rattle.register.specs.declared.registers.NoInsert.{NoInsert}
use Rattle.register.specs.declared.registers.NoInsert.TheVariants.{OutOfRange, Stands, Full}
use Rattle.register.specs.declared.registers.Register.{Register}
use Rattle.runs.specs.Shown.{Shown}
use Rattle.runs.specs.declared.calls.Call.TheVariants.{PostDistance}
use Rattle.sheet.proofs.CallEnds.{refused, refused_as, accepted, passed, stopped}
use Rattle.runs.specs.Days.{Day, Takes, first, points, not_posted, not_used}
use Rattle.sheet.specs.Sheets.{Changed, or_else, bad_ends, bad_distance, slip_refusal}

-- ---- the checks in two parts

first_or : (a : Bool) (why : Refusal) (o others : Option Refusal) → first a why (or_else o others) ≡ or_else (first a why o) others
first_or true why o others = refl
first_or false why o others = refl

module _ {S : Type 0} (takes : Takes S) (d : Day S) where
  abbrev rest_posted : ℕ → Option Refusal
  rest_posted k = first (is_some (d.slips k)) NumberStands (first (leb 256 (length (standing d.slips))) SlipsFull None)

  posted_parts : (k : ℕ) (s : Distance) → not_posted takes d k s ≡ or_else (bad_distance (points d) d.horizon k s) (rest_posted k)
  posted_parts k s =
      let m = first (not (le_z (neg_ℤ (pos d.horizon)) s.minutes && le_z s.minutes (pos d.horizon))) in
      let e = first (eqb s.from s.to) SamePoint in
      let p = first (not (ltb s.from (points d) && ltb s.to (points d))) NoPoint in
      let b = first (not (is_number k)) BadSlipNumber in
      ap (λ o. b (p (e o))) (first_or _ BadDistance None (rest_posted k))
      ∙ (ap (λ o. b (p o)) (first_or _ SamePoint (m BadDistance None) (rest_posted k))
      ∙ (ap b (first_or _ NoPoint (e (m BadDistance None)) (rest_posted k))
      ∙ first_or _ BadSlipNumber (p (e (m BadDistance None))) (rest_posted k)))

  pub not_posted_holds : (k : ℕ) (s : Distance) (why : Refusal) → bad_distance (points d) d.horizon k s ≡ Some why → not_posted takes d k s ≡ Some why
  not_posted_holds k s why e = posted_parts k s ∙ ap (λ o. or_else o (rest_posted k)) e

  module _ (r : Register Distance 256) (same : d.slips ≡ stands r) (k : ℕ) (s : Distance) (proper : bad_distance (points d) d.horizon k s ≡ None) where
    rest : not_posted takes d k s ≡ rest_posted k
    rest = posted_parts k s ∙ ap (λ o. or_else o (rest_posted k)) proper

    long : length (standing d.slips) ≡ length (standing (stands r))
    long = ap (λ f. length (standing f)) same

    pub posted_accepted : (x : Register Distance 256) → Accepts r x k s → not_posted takes d k s ≡ None
    posted_accepted x a =
        let free : is_some (d.slips k) ≡ false = ap is_some (ap (λ f. f k) same ∙ a.free) in
        let room : leb 256 (length (standing d.slips)) ≡ false = lt-leb 256 _ (omega (arith, long, standing_length r, a.room)) in
        rest ∙ rw (free, room)

    pub posted_refused : (why : NoInsert) → is_number k ≡ true → Refuses r k why → not_posted takes d k s ≡ Some (slip_refusal why)
    posted_refused OutOfRange number out = absurd (out number)
    posted_refused Stands number w =
        let stood : is_some (d.slips k) ≡ true = ap is_some (ap (λ f. f k) same) ∙ w.1 in
        rest ∙ rw stood
    posted_refused Full number w =
        let free : is_some (d.slips k) ≡ false = ap is_some (ap (λ f. f k) same ∙ w.1) in
        let full : leb 256 (length (standing d.slips)) ≡ true = le-leb 256 _ (omega (arith, long, standing_length r, w.2)) in
        rest ∙ rw (free, full)

  -- a place that there is
  module _ (place k : ℕ) (u : Use) (reached : ltb place (places_of (takes.width d.settings)) ≡ true) where
    abbrev rest_used : Option Refusal
    rest_used = not_taken (takes.width d.settings) (takes.most d.settings) (takes.form d.settings) d.uses place k u

    used_parts : not_used takes d place k u ≡ or_else (bad_ends (points d) k u.first u.last) rest_used
    used_parts =
        let p = first (not (ltb u.first (points d) && ltb u.last (points d))) NoPoint in
        let b = first (not (is_number k)) BadSlipNumber in
        ap (λ t. first (not t) NoPlace (b (p rest_used))) reached
        ∙ (ap b (first_or _ NoPoint None rest_used) ∙ first_or _ BadSlipNumber (p None) rest_used)

    pub used_by_limits : bad_ends (points d) k u.first u.last ≡ None → not_used takes d place k u ≡ rest_used
    used_by_limits e = used_parts ∙ ap (λ o. or_else o rest_used) e

-- a slip that passes the checks names points of the sheet, under a slip number
pub proper_slip : (n h k : ℕ) (s : Distance) → bad_distance n h k s ≡ None → (is_number k ≡ true) × ((s.from < n) × (s.to < n))
proper_slip n h k s e = (grind (arith, nat_tests), (grind (arith, nat_tests), grind (arith, nat_tests)))

-- ---- how a posting of a slip ends, on a sheet of n points

module _ {S : Type 0} (takes : Takes S) (d : Day S) (shown : Shown) (n k : ℕ) (s : Distance) (same : n ≡ points d) where
  pub slip_stopped : (why : Refusal) → Err why ≡ answer (bad_distance n d.horizon k s) → Changed takes d shown (PostDistance k s) (tt {0}) (Err why) d shown
  slip_stopped why e = refused takes d shown (PostDistance k s) _ why (not_posted_holds takes d k s why (subst (λ m. bad_distance m d.horizon k s ≡ Some why) same (stopped _ _ e)))

  module _ (r x : Register Distance 256) (stood : d.slips ≡ stands r) (fine : Ok tt ≡ answer (bad_distance n d.horizon k s)) where
    good : bad_distance (points d) d.horizon k s ≡ None
    good = subst (λ m. bad_distance m d.horizon k s ≡ None) same (passed _ fine)

    abbrev with_slips : Slips → Day S
    with_slips slips = record { horizon = d.horizon; labels = d.labels; slips = slips; settings = d.settings; uses = d.uses }

    pub slip_taken : Accepts r x k s → Changed takes d shown (PostDistance k s) (tt {0}) (Ok tt) (with_slips (stands x)) Shown.nothing
    slip_taken a = accepted takes d shown (PostDistance k s) _ _ _ (posted_accepted takes d r stood k s good x a) (ap with_slips (a.after ∙ ap (λ f. put_at f k (Some s)) (sym stood))) refl

    pub slip_left : (why : NoInsert) → Refuses r k why → x ≡ r → Changed takes d shown (PostDistance k s) (tt {0}) (Err (slip_refusal why)) (with_slips (stands x)) shown
    slip_left why w left = refused_as takes d shown (PostDistance k s) _ _ _ _ (posted_refused takes d r stood k s good why (proper_slip _ _ k s good).0 w) refl (ap with_slips (ap (λ y. stands y) left ∙ sym stood))

-- ---- what stands after

-- a slip that the checks let pass stands among slips that name points below n
pub posted_held : (m n h k : ℕ) (s : Distance) (f g : Slips) → m ≡ n → Ok tt ≡ answer (bad_distance m h k s) → g ≡ put_at f k (Some s) → SlipsHeld n f → SlipsHeld n g
posted_held m n h k s f g same fine after held j x e = ⊎_elim
    (λ here. subst (λ y. (y.from < n) × (y.to < n)) (same_Some s x (sym (at_same here) ∙ e)) within)
    (λ ne. held j x (sym (elsewhere ne) ∙ e))
    (cases_eq j k)
  where
    within : (s.from < n) × (s.to < n)
    within = subst (λ p. (s.from < p) × (s.to < p)) same (proper_slip m h k s (passed _ fine)).1

    at_same : j ≡ k → g j ≡ Some s
    at_same here = grind (arith, nat_tests)

    elsewhere : (j ≡ k → ⊥) → g j ≡ f j
    elsewhere ne = grind (arith, nat_tests)
