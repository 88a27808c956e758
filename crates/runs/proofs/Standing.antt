-- What stands after a list of calls is what the calls tell.
use Rattle.std.proofs.Common.{◌≡◌, ℕ, zero, suc, ◌≤◌, ◌⊎◌, List, [], ◌∷◌, Some, None, Option, refl, ap, ◌∙◌, inl, inr, ⊎_elim, arith}
use Rattle.std.proofs.lemmas.Bool.Decides.{nat_tests}
use Rattle.model.specs.Uses.{Uses}
use Rattle.model.specs.declared.slips.Distance.{Distance}
use Rattle.model.specs.declared.slips.Use.{Use}
use Rattle.runs.proofs.Afters.{by_step}
use Rattle.runs.specs.Days.{Day, Takes, ruled, refusal, changed, step, after}
use Rattle.runs.specs.Runs.{At, Accepted, SlipStands, UseStands}
use Rattle.runs.specs.declared.calls.Call.{Call}
use Rattle.runs.specs.declared.calls.Call.TheVariants.{PostDistance, PostUse, WithdrawDistance, WithdrawUse}

-- Under one key, look reads the record that stands, if any; a call can post one there, and one call withdraws it.
record Keyed {S X : Type 0} (takes : Takes S) (look : Day S → Option X) (posts : X → Call) (withdraws : Call) : Type 0 where
  posted : (d : Day S) (x : X) → look (changed takes d (posts x)) ≡ Some x
  withdrawn : (d : Day S) → look (changed takes d withdraws) ≡ None
  -- what stands after a call stood before it or was posted by it
  comes : (d : Day S) (c : Call) (x : X) → look (changed takes d c) ≡ Some x → (look d ≡ Some x) ⊎ (c ≡ posts x)
  -- what stands is not posted over: it stays unless it is withdrawn
  goes : (d : Day S) (c : Call) (x : X) → refusal takes d c ≡ None → look d ≡ Some x → (look (changed takes d c) ≡ Some x) ⊎ (c ≡ withdraws)

module _ {S X : Type 0} (takes : Takes S) (look : Day S → Option X) (posts : X → Call) (withdraws : Call) (keyed : Keyed takes look posts withdraws) where
  -- from place n of the list on, no accepted call withdraws what stands
  abbrev KeptFrom : Day S → List Call → ℕ → Type 0
  KeptFrom d calls n = (j : ℕ) → n ≤ j → At takes d calls j withdraws → Accepted takes d calls j → ⊥

  -- the posting at place i was accepted, and no accepted withdrawal followed
  abbrev PostedAt : Day S → List Call → X → ℕ → Type 0
  PostedAt d calls x i = At takes d calls i (posts x) × Accepted takes d calls i × KeptFrom d calls (suc i)

  -- ---- one more call in front

  module _ (d : Day S) (c : Call) (cs : List Call) where
    kept_later : (n : ℕ) → KeptFrom (step takes d c) cs n → KeptFrom d (c ∷ cs) (suc n)
    kept_later n kept zero le at ok = absurd (omega arith)
    kept_later n kept (suc j) le at ok = kept j (omega arith) (omega arith, at.1) ok

    kept_rest : (n : ℕ) → KeptFrom d (c ∷ cs) (suc n) → KeptFrom (step takes d c) cs n
    kept_rest n kept j le at ok = kept (suc j) (omega arith) (omega arith, at.1) ok

    kept_all : (c ≡ withdraws → refusal takes d c ≡ None → ⊥) → KeptFrom d (c ∷ cs) 1 → KeptFrom d (c ∷ cs) 0
    kept_all here later zero le at ok = here at.1 ok
    kept_all here later (suc j) le at ok = later (suc j) (omega arith) at ok

  -- ---- what stands was posted

  -- what stands in the end was posted, or stood before the first call, and was not withdrawn
  abbrev Origin : Day S → List Call → X → Type 0
  Origin d calls x = ((i : ℕ) × PostedAt d calls x i) ⊎ ((look d ≡ Some x) × KeptFrom d calls 0)

  origin : (d : Day S) (calls : List Call) (x : X) → look (after takes d calls) ≡ Some x → Origin d calls x
  origin d [] x e = inr (e, λ j le at ok. omega (arith, at.0))
  origin d (c ∷ cs) x e =
      ⊎_elim
      (λ w. inl (suc w.0, ((omega (arith, w.1.0.0), w.1.0.1), w.1.1, kept_later d c cs (suc w.0) w.1.2)))
      (λ w. by_step takes d c (λ next. look next ≡ Some x → Origin d (c ∷ cs) x) (refused (kept_later d c cs 0 w.1)) (accepted (kept_later d c cs 0 w.1)) w.0)
      (origin (step takes d c) cs x e)
    where
      refused : KeptFrom d (c ∷ cs) 1 → (refusal takes d c ≡ None → ⊥) → look d ≡ Some x → Origin d (c ∷ cs) x
      refused kept not-ok stands = inr (stands, kept_all d c cs (λ _ ok. not-ok ok) kept)

      accepted : KeptFrom d (c ∷ cs) 1 → refusal takes d c ≡ None → look (changed takes d c) ≡ Some x → Origin d (c ∷ cs) x
      accepted kept ok stands =
          ⊎_elim
          (λ before. inr (before, kept_all d c cs (λ is _. (let gone = ap (λ b. look (changed takes d b)) is ∙ keyed.withdrawn d in cc)) kept))
          (λ posting. inl (0, ((omega arith, posting), ok, kept)))
          (keyed.comes d c x stands)

  -- ---- what was posted stands

  stays : (d : Day S) (calls : List Call) (x : X) → look d ≡ Some x → KeptFrom d calls 0 → look (after takes d calls) ≡ Some x
  stays d [] x e kept = e
  stays d (c ∷ cs) x e kept =
      stays (step takes d c) cs x
      (by_step takes d c (λ next. look next ≡ Some x) (λ _. e) (λ ok. ⊎_elim (λ stands. stands) (λ is. absurd (kept 0 (omega arith) (omega arith, is) ok)) (keyed.goes d c x ok e)))
      (kept_rest d c cs 0 (λ j le. kept j (omega arith)))

  posted_stands : (d : Day S) (calls : List Call) (x : X) (i : ℕ) → PostedAt d calls x i → look (after takes d calls) ≡ Some x
  posted_stands d [] x i w = absurd (omega (arith, w.0.0))
  posted_stands d (c ∷ cs) x zero w =
      stays (step takes d c) cs x
      (by_step takes d c (λ next. look next ≡ Some x) (λ not-ok. absurd (not-ok w.1)) (λ _. ap (λ b. look (changed takes d b)) w.0.1 ∙ keyed.posted d x))
      (kept_rest d c cs 0 w.2)
  posted_stands d (c ∷ cs) x (suc i) w = posted_stands (step takes d c) cs x i ((omega (arith, w.0.0), w.0.1), w.1, kept_rest d c cs (suc i) w.2)

  -- where nothing stands before the first call, what stands is what was posted and not withdrawn
  told : (d : Day S) (calls : List Call) (x : X) → look d ≡ None → (look (after takes d calls) ≡ Some x → (i : ℕ) × PostedAt d calls x i) × ((i : ℕ) → PostedAt d calls x i → look (after takes d calls) ≡ Some x)
  told d calls x none = (λ e. ⊎_elim (λ w. w) (λ w. cc) (origin d calls x e), posted_stands d calls x)

-- ---- slips and uses

module _ {S : Type 0} (takes : Takes S) where
  slip_keyed : (k : ℕ) → Keyed takes (λ d. d.slips k) (PostDistance k) (WithdrawDistance k)
  slip_keyed k = record { posted = λ d x. grind (arith, nat_tests); withdrawn = λ d. grind (arith, nat_tests); comes = λ d c x e. grind (arith, nat_tests); goes = λ d c x ok e. grind (arith, nat_tests) }

  use_keyed : (place k : ℕ) → Keyed takes (λ d. d.uses place k) (PostUse place k) (WithdrawUse place k)
  use_keyed place k = record { posted = λ d x. grind (arith, nat_tests); withdrawn = λ d. grind (arith, nat_tests); comes = λ d c x e. grind (arith, nat_tests); goes = λ d c x ok e. grind (arith, nat_tests) }

  module _ (h : ℕ) (s : S) (us : Uses) (calls : List Call) where
    -- a distance slip stands exactly if the calls say so
    pub slips_told : (k : ℕ) (x : Distance) → ((after takes (ruled h s us) calls).slips k ≡ Some x → SlipStands takes (ruled h s us) calls k x) × (SlipStands takes (ruled h s us) calls k x → (after takes (ruled h s us) calls).slips k ≡ Some x)
    slips_told k x =
        let both = told takes (λ d. d.slips k) (PostDistance k) (WithdrawDistance k) (slip_keyed k) (ruled h s us) calls x refl in
        (λ e. let w = both.0 e in record { place = w.0; posted = w.1.0; accepted = w.1.1; kept = w.1.2 }, λ w. both.1 w.place (w.posted, w.accepted, w.kept))

    -- and a use likewise, where none stands at ruling
    pub uses_told : ((place k : ℕ) → us place k ≡ None) → (place k : ℕ) (u : Use) → ((after takes (ruled h s us) calls).uses place k ≡ Some u → UseStands takes (ruled h s us) calls place k u) × (UseStands takes (ruled h s us) calls place k u → (after takes (ruled h s us) calls).uses place k ≡ Some u)
    uses_told none place k u =
        let both = told takes (λ d. d.uses place k) (PostUse place k) (WithdrawUse place k) (use_keyed place k) (ruled h s us) calls u (none place k) in
        (λ e. let w = both.0 e in record { place = w.0; posted = w.1.0; accepted = w.1.1; kept = w.1.2 }, λ w. both.1 w.place (w.posted, w.accepted, w.kept))
