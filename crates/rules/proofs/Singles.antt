-- A limit of one place takes and holds uses as its register does.
use Rattle.std.proofs.Common.{◌≡◌, ℕ, zero, suc, ◌<◌, ◌≤◌, Bool, true, false, cond, not, eqb, List, [], ◌∷◌, length, is_some, Some, None, Ok, Err, MatchResult, IsErrAnd, Decides, Option, Result, sym, refl, ap, ◌∙◌, arith}
use Rattle.std.proofs.lemmas.Bool.{both_ways, not-true, not_from_false, ne_eqb}
use Rattle.std.proofs.lemmas.Bool.Decides.{nat_tests}
use Rattle.std.proofs.lemmas.Result.{err_from_is_err_and}
use Rattle.model.specs.Limits.{not_taken, answer, at_first}
use Rattle.model.specs.Uses.{single, gather, standing}
use Rattle.model.specs.declared.refusals.Refusal.{Refusal}
use Rattle.model.specs.declared.slips.Use.{Use}
use Rattle.register.proofs.Gathered.{standing_length}
use Rattle.register.proofs.Puts.{put_here}
use Rattle.register.specs.Lookups.{lookup}
use Rattle.register.specs.Standing.{items_of, stands, Accepts, Refuses}
use Rattle.register.specs.declared.records.Numbered.{Numbered}
use Rattle.register.specs.declared.registers.NoInsert.{NoInsert}
use Rattle.register.specs.declared.registers.NoInsert.TheVariants.{OutOfRange, Stands, Full}
use Rattle.register.specs.declared.registers.Register.{Register}
use Rattle.rules.specs.Calls.{AnyUse}
use Rattle.rules.specs.Singles.{refusal_for}

-- a use of the form, between points that a sheet can have
module _ {most : ℕ} (r : Register Use most) (place number : ℕ) (u : Use) (fits : Bool) (here : place ≤ 0) (first : u.first ≤ 63) (last : u.last ≤ 63) (formed : fits ≡ true) where
  abbrev Why : Option Refusal → Type 0
  Why o = not_taken 1 (at_first most 0) (λ q v. fits) (single (stands r)) place number u ≡ o

  taken_where_accepted : (s : Register Use most) → Accepts r s number u → Why None
  taken_where_accepted s a =
      let room : length (standing (stands r)) < most = omega (arith, standing_length r, a.room) in
      grind (arith, nat_tests, a.proper, a.free)

  refused_by_register : (why : NoInsert) → Refuses r number why → Why (Some (refusal_for most why))
  refused_by_register OutOfRange out = grind (arith, nat_tests)
  refused_by_register Stands w = grind (arith, nat_tests, w.0, w.1)
  refused_by_register Full w =
      let full : most ≤ length (standing (stands r)) = omega (arith, standing_length r, w.2) in
      grind (arith, nat_tests, w.0, w.1)

  -- the answer, where `because` makes the register's causes into refusals
  pub answered : {because : NoInsert → Refusal → Type 0} (s : Register Use most) (inserted : Result Unit NoInsert) (told : Result Unit Refusal) → MatchResult inserted (λ _. Accepts r s number u) (λ why. Refuses r number why × (s ≡ r)) → MatchResult inserted (λ x. told ≡ Ok x) (λ why. IsErrAnd told (because why)) → ((why : NoInsert) (e : Refusal) → because why e → e ≡ refusal_for most why) → told ≡ answer (not_taken 1 (at_first most 0) (λ q v. fits) (single (stands r)) place number u)
  answered s (Ok x) told done ok causes = ok ∙ sym (ap answer (taken_where_accepted s done))
  answered s (Err why) told done failed causes =
      let p = err_from_is_err_and told failed in
      p.1 ∙ (ap Err (causes why p.0 p.2) ∙ sym (ap answer (refused_by_register why done.0)))

-- nothing is gathered from nothing
gather_nothing : (k n : ℕ) → gather {X = Use} k n (λ j. None) ≡ []
unfolding gather
gather_nothing k zero = refl
gather_nothing k (suc n) = gather_nothing (suc k) n

-- at place 0 stand at most the register's most uses, and elsewhere none
pub few_single : {most : ℕ} (r : Register Use most) (place : ℕ) → length (standing (single (stands r) place)) ≤ at_first most 0 place
few_single {most} r place = by (eqb place 0)
  where
    by : (here : Bool) → length (standing (cond here (stands r) (λ k. None))) ≤ cond here most 0
    by true = omega (arith, standing_length r, r.few)
    by false = omega (arith, ap length (gather_nothing 1 9999))

-- any use stands where the register is not empty
pub any_single : {most : ℕ} (r : Register Use most) (empty : Bool) → empty ≡ eqb (length (items_of r)) 0 → Decides (not empty) (AnyUse (single (stands r)))
any_single r = by (items_of r)
  where
    by : (xs : List (Numbered Use)) (empty : Bool) → empty ≡ eqb (length xs) 0 → Decides (not empty) (AnyUse (single (lookup xs)))
    by [] empty e = (λ h. absurd (both_ways empty (not-true empty h) e), λ w. let h = w.2 in grind (arith, nat_tests))
    by (x ∷ xs) empty e = (λ h. (0, x.number, ap is_some (put_here (lookup xs) x.number (Some x.what))), λ w. not_from_false empty (e ∙ ne_eqb (length (x ∷ xs)) 0 (λ z. omega arith)))
