-- How the steps of a propagation join.
use Rattle.std.proofs.Common.{◌≡◌, ℕ, ◌+◌, Bool, true, false, ◌⊎◌, List, take, ℤ, pos, negsuc, ◌≤ℤ◌, Decides, sym, refl, ap, ◌∙◌, subst, inl, inr, ⊎_elim, arith}
use Rattle.bunker.proofs.Turns.{Turn, in_next, in_still, in_now}
use Rattle.bunker.specs.Choices.{Leaves}
use Rattle.bunker.specs.Following.{ActiveBounds, IdleBounds, OrderBounds, FollowsFor, FollowsBefore, FollowsPoints}
use Rattle.bunker.specs.Records.{uses_of, told}
use Rattle.bunker.specs.declared.bunkers.Bunker.{Bunker}
use Rattle.bunker.specs.declared.options.Options.{Options}
use Rattle.bunker.specs.declared.options.Options.TheVariants.{Both, Active, Idle, Neither}
use Rattle.bunker.specs.declared.options.Worth.{Worth}
use Rattle.bunker_laws.specs.Bunkers.{worth, can_be_active, can_be_idle, Looked, RuledOut, Follows, Gives}
use Rattle.bunker_laws.specs.declared.settings.Settings.{Settings}
use Rattle.model.proofs.Narrowings.{narrowed_then, narrowed_like, narrowed_none}
use Rattle.model.specs.Narrowings.{Narrowed}
use Rattle.model.specs.Plans.{View}
use Rattle.model.specs.Uses.{In}
use Rattle.model.specs.declared.moments.Moment.{Moment}
use Rattle.model.specs.declared.moments.Moment.TheVariants.{Point, Minute}
use Rattle.model.specs.declared.slips.Use.{Use}
use Rattle.std.proofs.lemmas.Int.{ints}
use Rattle.std.proofs.lemmas.Bool.{false≢true}
use Rattle.std.proofs.lemmas.Bool.Decides.{not_from_Decides}
use Rattle.std.specs.Int.{int_max}
use Rattle.tables.proofs.Narrows.{One, narrowed_one}
use Rattle.tables.specs.Views.{lowered}
use Rattle.tables.specs.declared.tables.Table.{Table}

-- an entry lowered to a bound that is not below -10,081
pub lowered_to : (a b : View) (i j : ℕ) (v w : ℤ) → b ≡ lowered a i j (int_max v (negsuc 10080)) → v ≡ w → negsuc 10080 ≤ℤ w → Narrowed (One i j w) a b
lowered_to a b i j v w e same deep =
    let kept : int_max v (negsuc 10080) ≡ w = grind (arith, ints) in
    subst (Narrowed (One i j w) a) (sym (e ∙ ap (lowered a i j) kept)) (narrowed_one a i j w)

-- a step that is taken where the test passes, and left out where it does not
pub narrowed_if : (r : Bool) (P : Type 0) (G : ℕ → ℕ → ℤ → Type 0) (a b : View) → Decides r P → (r ≡ true → Narrowed G a b) → (r ≡ false → b ≡ a) → Narrowed (λ i j v. P × G i j v) a b
narrowed_if true P G a b d taken left = narrowed_like G (λ i j v. P × G i j v) a b (λ i j v h. (d.0 refl, h)) (λ i j v h. h.1) (taken refl)
narrowed_if false P G a b d taken left =
    subst (λ c. Narrowed (λ i j v. P × G i j v) a c) (sym (left refl)) (narrowed_none (λ i j v. P × G i j v) a (λ i j v h. not_from_Decides false d refl h.0))

-- one more use
pub narrowed_more : (G : Use → ℕ → ℕ → ℤ → Type 0) (us : List Use) (n : ℕ) (u : Use) (a b c : View) → Turn us n u → Narrowed (λ i j v. (w : Use) × In w (take n us) × G w i j v) a b → Narrowed (G u) b c → Narrowed (λ i j v. (w : Use) × In w (take (n + 1) us) × G w i j v) a c
narrowed_more G us n u a b c t before here =
    narrowed_like _ (λ i j v. (w : Use) × In w (take (n + 1) us) × G w i j v) a c
    (λ i j v. ⊎_elim (λ w. (w.0, in_still us n u t w.0 w.1, w.2)) (λ g. (u, in_now us n u t, g)))
    (λ i j v w. ⊎_elim (λ h. inl (w.0, h, w.2)) (λ e. inr (subst (λ z. G z i j v) (sym e) w.2)) (in_next us n u t w.0 w.1))
    (narrowed_then (λ i j v. (w : Use) × In w (take n us) × G w i j v) (G u) a b c before here)

-- what follows for a use: that it is active where idle is ruled out, and that it is idle where active is
module _ (s : Settings) (us : List Use) (m : View) (x : Moment) (u : Use) where
  abbrev Steps : ℕ → ℕ → ℤ → Type 0
  Steps i j v = (RuledOut s us m x u (pos 0) × ActiveBounds x u i j v) ⊎ (RuledOut s us m x u (worth u) × IdleBounds m x u i j v)

  to_follows : (i j : ℕ) (v : ℤ) → Steps i j v → Follows s us m x u i j v
  to_follows i j v (inl h) = ⊎_elim (λ by. Follows.starts h.0 by) (λ w. Follows.lasts w.0 h.0 w.1) h.1
  to_follows i j v (inr h) = ⊎_elim (λ w. Follows.waits w.0 h.0 w.1) (λ w. Follows.ends w.0.0 w.0.1 h.0 w.1) h.1

  from_follows : (i j : ℕ) (v : ℤ) → Follows s us m x u i j v → Steps i j v
  from_follows i j v (Follows.starts r by) = inl (r, inl by)
  from_follows i j v (Follows.lasts loan r after) = inl (r, inr (loan, after))
  from_follows i j v (Follows.waits late r after) = inr (r, inl (late, after))
  from_follows i j v (Follows.ends loan began r by) = inr (r, inr ((loan, began), by))

  pub follows_by : (a b c : View) → Narrowed (λ i j v. RuledOut s us m x u (pos 0) × ActiveBounds x u i j v) a b → Narrowed (λ i j v. RuledOut s us m x u (worth u) × IdleBounds m x u i j v) b c → Narrowed (Follows s us m x u) a c
  follows_by a b c first then = narrowed_like Steps (Follows s us m x u) a c to_follows from_follows (narrowed_then _ _ a b c first then)

  -- nothing follows unless both options are open
  pub none_follows : (o : Options) → Leaves o (can_be_active m x u) (can_be_idle m x u) (worth u) → ((w : Worth) → o ≡ Both w → ⊥) → (i j : ℕ) (v : ℤ) → Follows s us m x u i j v → ⊥
  none_follows o l none i j v f = ⊎_elim (λ h. not_open o l none h.0) (λ h. not_open o l none h.0) (from_follows i j v f)
    where
      not_open : {k : ℤ} (o : Options) → Leaves o (can_be_active m x u) (can_be_idle m x u) (worth u) → ((w : Worth) → o ≡ Both w → ⊥) → RuledOut s us m x u k → ⊥
      not_open (Both w) l none r = none w refl
      not_open (Active w) l none r = false≢true (sym l.1 ∙ r.idle_open)
      not_open Idle l none r = false≢true (sym l.0 ∙ r.active_open)
      not_open Neither l none r = false≢true (sym l.0 ∙ r.active_open)

-- what follows at a moment, over the same table and moment under other names
pub follows_there : (b : Bunker) (t t' : Table) (x x' : Moment) (before after : View) → t' ≡ t → x' ≡ x → Narrowed (told FollowsFor b t' (uses_of b) x') before after → Narrowed (told FollowsFor b t (uses_of b) x) before after
follows_there b t t' x x' before after same_table same_moment n =
    subst (λ y. Narrowed (told FollowsFor b t (uses_of b) y) before after) same_moment (subst (λ s. Narrowed (told FollowsFor b s (uses_of b) x') before after) same_table n)

-- all that a bunker gives: the order of the loans, what follows at the points of the uses, and what follows at the minutes
module _ (s : Settings) (us : List Use) (m : View) where
  abbrev Parts : ℕ → ℕ → ℤ → Type 0
  Parts i j v = (OrderBounds us i j v ⊎ FollowsPoints s us m us i j v) ⊎ FollowsBefore s us m 10081 i j v

  to_gives : (i j : ℕ) (v : ℤ) → Parts i j v → Gives s us m i j v
  to_gives i j v (inl (inl (u, h, (loan, (i-is, j-is, v-is))))) = Gives.order u h loan i-is j-is v-is
  to_gives i j v (inl (inr (w, h, inl (u, k, f)))) = Gives.follows (Point w.first) (Looked.first w h refl) u k f
  to_gives i j v (inl (inr (w, h, inr (u, k, f)))) = Gives.follows (Point w.last) (Looked.last w h refl) u k f
  to_gives i j v (inr (n, h, (u, k, f))) = Gives.follows (Minute n) (Looked.minute n (omega arith) refl) u k f

  from_gives : (i j : ℕ) (v : ℤ) → Gives s us m i j v → Parts i j v
  from_gives i j v (Gives.order u h loan i-is j-is v-is) = inl (inl (u, h, (loan, (i-is, j-is, v-is))))
  from_gives i j v (Gives.follows x (Looked.minute n h e) u k f) = inr (n, omega arith, (u, k, subst (λ y. Follows s us m y u i j v) e f))
  from_gives i j v (Gives.follows x (Looked.first w h e) u k f) = inl (inr (w, h, inl (u, k, subst (λ y. Follows s us m y u i j v) e f)))
  from_gives i j v (Gives.follows x (Looked.last w h e) u k f) = inl (inr (w, h, inr (u, k, subst (λ y. Follows s us m y u i j v) e f)))

  pub gives_by : (a b c d : View) → Narrowed (OrderBounds us) a b → Narrowed (FollowsPoints s us m us) b c → Narrowed (FollowsBefore s us m 10081) c d → Narrowed (Gives s us m) a d
  gives_by a b c d order points minutes = narrowed_like Parts (Gives s us m) a d to_gives from_gives (narrowed_then _ _ a c d (narrowed_then _ _ a b c order points) minutes)
