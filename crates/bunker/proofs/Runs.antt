-- Runs of minutes, joined.
use Rattle.std.proofs.Common.{◌≡◌, ℕ, ◌+◌, Bool, true, false, not, List, take, ℤ, pos, neg_ℤ, sym, refl, ap, ◌∙◌, subst, inl, inr, ⊎_elim, arith}
use lib.Signed.{le_z, lt_z}
use Rattle.bunker.proofs.Turns.{Turn, in_still, in_now, each_more}
use Rattle.bunker.specs.Stretches.{RunEnds, SameAt, SameFor, Alike, LongestFrom}
use Rattle.model.specs.Plans.{View}
use Rattle.model.specs.declared.moments.Moment.TheVariants.{Minute}
use Rattle.model.specs.declared.slips.Use.{Use}
use Rattle.std.proofs.lemmas.Int.{ints}
use Rattle.std.proofs.lemmas.Bool.{false≢true}
use Rattle.std.proofs.lemmas.Bool.Decides.{nat_tests}

-- the end of a run in which P holds bounds one in which Q holds too
pub run_then : (P Q : ℕ → Type 0) (first last mid end : ℕ) → RunEnds P first last mid → RunEnds Q first mid end → RunEnds (λ k. P k × Q k) first last end
run_then P Q first last mid end p q = record {
  order = q.order;
  inside = omega (arith, p.inside, q.inside);
  throughout = λ k from to. (p.throughout k from (omega (arith, q.inside)), q.throughout k from to);
  longest = ⊎_elim (λ (e : end ≡ mid). ⊎_elim (λ (f : mid ≡ last). inl (e ∙ f)) (λ broken. inr (λ w. broken (subst (λ n. P (n + 1)) e w.0))) p.longest) (λ broken. inr (λ w. broken w.1)) q.longest;
}

pub run_like : (P Q : ℕ → Type 0) (first last end : ℕ) → ((k : ℕ) → P k → Q k) → ((k : ℕ) → Q k → P k) → RunEnds P first last end → RunEnds Q first last end
run_like P Q first last end to from r = record {
  order = r.order;
  inside = r.inside;
  throughout = λ k a b. to k (r.throughout k a b);
  longest = ⊎_elim inl (λ broken. inr (λ w. broken (from (end + 1) w))) r.longest;
}

-- "after" at a minute is that the change, which stands with the other sign, has not come
turned : (z : ℤ) (k : ℕ) → lt_z z (neg_ℤ (pos k)) ≡ not (le_z (neg_ℤ z) (pos k))
turned z k = grind (arith, ints, nat_tests)

pub to_after : (z : ℤ) (k l : ℕ) → le_z (neg_ℤ z) (pos k) ≡ le_z (neg_ℤ z) (pos l) → lt_z z (neg_ℤ (pos k)) ≡ lt_z z (neg_ℤ (pos l))
to_after z k l e = turned z k ∙ ap not e ∙ sym (turned z l)

pub from_after : (z : ℤ) (k l : ℕ) → lt_z z (neg_ℤ (pos k)) ≡ lt_z z (neg_ℤ (pos l)) → le_z (neg_ℤ z) (pos k) ≡ le_z (neg_ℤ z) (pos l)
from_after z k l e = not_same _ _ (sym (turned z k) ∙ e ∙ turned z l)
  where
    not_same : (a b : Bool) → not a ≡ not b → a ≡ b
    not_same true true e = refl
    not_same false false e = refl
    not_same true false e = absurd (false≢true e)
    not_same false true e = absurd (false≢true (sym e))

-- the two changes at a point
pub run_point : (m : View) (p first last next mid end : ℕ) (a b : ℤ) → RunEnds (λ k. le_z a (pos first) ≡ le_z a (pos k)) first last mid → next ≡ first → RunEnds (λ k. le_z b (pos next) ≡ le_z b (pos k)) next mid end → a ≡ m.at 0 p → b ≡ neg_ℤ (m.at p 0) → RunEnds (λ k. SameAt m p (Minute first) (Minute k)) first last end
run_point m p first last next mid end a b by same after by-is after_is =
    run_like _ (λ k. SameAt m p (Minute first) (Minute k)) first last end
    (λ k w. (subst (λ z. le_z z (pos first) ≡ le_z z (pos k)) by-is w.0, to_after (m.at p 0) first k (subst (λ z. le_z z (pos first) ≡ le_z z (pos k)) after_is w.1)))
    (λ k w. (subst (λ z. le_z z (pos first) ≡ le_z z (pos k)) (sym by-is) w.0, subst (λ z. le_z z (pos first) ≡ le_z z (pos k)) (sym after_is) (from_after (m.at p 0) first k w.1)))
    (run_then (λ k. le_z a (pos first) ≡ le_z a (pos k)) (λ k. le_z b (pos first) ≡ le_z b (pos k)) first last mid end by (subst (λ n. RunEnds (λ k. le_z b (pos n) ≡ le_z b (pos k)) n mid end) same after))

-- one use more
pub run_use : (m : View) (us : List Use) (i : ℕ) (u : Use) (first mid end : ℕ) → Turn us i u → LongestFrom m (take i us) first mid → RunEnds (λ k. SameFor m u (Minute first) (Minute k)) first mid end → LongestFrom m (take (i + 1) us) first end
run_use m us i u first mid end t before here =
    run_like _ (λ k. Alike m (take (i + 1) us) (Minute first) (Minute k)) first 10080 end
    (λ k w. each_more us i u t (λ v. SameFor m v (Minute first) (Minute k)) w.0 w.1)
    (λ k w. ((λ v h. w v (in_still us i u t v h)), w u (in_now us i u t)))
    (run_then (λ k. Alike m (take i us) (Minute first) (Minute k)) (λ k. SameFor m u (Minute first) (Minute k)) first 10080 mid end before here)
