-- Loops that look for a use, and what their answers decide.
use Rattle.std.proofs.Common.{◌≡◌, ℕ, suc, ◌<◌, Bool, true, false, ◌⊎◌, List, [], ◌∷◌, map, length, get_or, Decides, MatchBool, sym, refl, subst, inl, inr, ⊎_elim, arith}
use Rattle.std.specs.List.{HoldsAt, AllWithin}
use Rattle.bunker.proofs.Turns.{blank}
use Rattle.bunker.specs.Records.{uses_of}
use Rattle.bunker.specs.declared.bunkers.Bunker.{Bunker}
use Rattle.model.proofs.Members.{in_at}
use Rattle.register.specs.Lookups.{what_of}
use Rattle.register.specs.Standing.{items_of}
use Rattle.register.specs.declared.records.Numbered.{Numbered}
use Rattle.bunker.specs.Rooms.{NoRoom, NoRoomBefore, NoRoomPoints, SomeReversed, Room, RoomPoints, AllOrdered}
use Rattle.bunker_laws.specs.Bunkers.{Looked, Refuses, Vouches}
use Rattle.bunker_laws.specs.declared.settings.Settings.{Settings}
use Rattle.model.specs.Plans.{View}
use Rattle.model.specs.Uses.{In}
use Rattle.model.specs.declared.moments.Moment.{Moment}
use Rattle.model.specs.declared.moments.Moment.TheVariants.{Point, Minute}
use Rattle.model.specs.declared.slips.Use.{Use}
use Rattle.std.proofs.lemmas.Bool.{false≢true}
use Rattle.std.proofs.lemmas.Bool.Decides.{Decides-like}

-- ---- a search through the records of a bunker, where r is the answer

-- a use that stands is that of a record
placed : (u : Use) (xs : List (Numbered Use)) → In u (map what_of xs) → (k : ℕ) × (k < length xs) × ((get_or xs k blank).what ≡ u)
placed u [] h = absurd h
placed u (x ∷ xs) (inl e) = (0, omega arith, e)
placed u (x ∷ xs) (inr h) = let w = placed u xs h in (suc w.0, omega arith, w.2)

module _ (P : Use → Type 0) (b : Bunker) (xs : List (Numbered Use)) (same : xs ≡ items_of b.uses) where
  pub decides_any : (r : Bool) → MatchBool r ((k : ℕ) × (k < length xs) × HoldsAt (λ x. P x.what) xs k) (AllWithin (λ x. P x.what → ⊥) xs 0 (length xs)) → Decides r ((u : Use) × In u (uses_of b) × P u)
  decides_any r h = subst (λ ys. Decides r ((u : Use) × In u (map what_of ys) × P u)) same (found r h)
    where
      found : (r : Bool) → MatchBool r ((k : ℕ) × (k < length xs) × HoldsAt (λ x. P x.what) xs k) (AllWithin (λ x. P x.what → ⊥) xs 0 (length xs)) → Decides r ((u : Use) × In u (map what_of xs) × P u)
      found true h = (λ e. ((get_or xs h.0 blank).what, in_at what_of xs h.0 blank h.1, h.2 blank), λ w. refl)
      found false h = (λ e. absurd (false≢true e), λ w. let p = placed w.0 xs w.1 in absurd (h p.0 blank (omega arith) p.1 (subst P (sym p.2) w.2)))

  pub decides_all : (r : Bool) → MatchBool r (AllWithin (λ x. P x.what) xs 0 (length xs)) ((k : ℕ) × (k < length xs) × HoldsAt (λ x. P x.what → ⊥) xs k) → Decides r ((u : Use) → In u (uses_of b) → P u)
  decides_all r h = subst (λ ys. Decides r ((u : Use) → In u (map what_of ys) → P u)) same (each r h)
    where
      each : (r : Bool) → MatchBool r (AllWithin (λ x. P x.what) xs 0 (length xs)) ((k : ℕ) × (k < length xs) × HoldsAt (λ x. P x.what → ⊥) xs k) → Decides r ((u : Use) → In u (map what_of xs) → P u)
      each true h = (λ e u i. let p = placed u xs i in subst P p.2 (h p.0 blank (omega arith) p.1), λ w. refl)
      each false h = (λ e. absurd (false≢true e), λ w. absurd (h.2 blank (w (get_or xs h.0 blank).what (in_at what_of xs h.0 blank h.1))))

-- ---- what the answers of the parts decide

module _ (s : Settings) (us : List Use) (m : View) where
  to_refuses : SomeReversed m us ⊎ (NoRoomPoints s us m us ⊎ NoRoomBefore s us m 10081) → Refuses s us m
  to_refuses (inl (u, h, (loan, l))) = Refuses.reversed u h loan l
  to_refuses (inr (inl (u, h, inl (inl l)))) = Refuses.under (Point u.first) (Looked.first u h refl) l
  to_refuses (inr (inl (u, h, inl (inr l)))) = Refuses.over (Point u.first) (Looked.first u h refl) l
  to_refuses (inr (inl (u, h, inr (inl l)))) = Refuses.under (Point u.last) (Looked.last u h refl) l
  to_refuses (inr (inl (u, h, inr (inr l)))) = Refuses.over (Point u.last) (Looked.last u h refl) l
  to_refuses (inr (inr (k, h, inl l))) = Refuses.under (Minute k) (Looked.minute k (omega arith) refl) l
  to_refuses (inr (inr (k, h, inr l))) = Refuses.over (Minute k) (Looked.minute k (omega arith) refl) l

  no_room : (x : Moment) → Looked us x → NoRoom s us m x → NoRoomPoints s us m us ⊎ NoRoomBefore s us m 10081
  no_room x (Looked.minute k h e) l = inr (k, omega arith, subst (NoRoom s us m) e l)
  no_room x (Looked.first u h e) l = inl (u, h, inl (subst (NoRoom s us m) e l))
  no_room x (Looked.last u h e) l = inl (u, h, inr (subst (NoRoom s us m) e l))

  from_refuses : Refuses s us m → SomeReversed m us ⊎ (NoRoomPoints s us m us ⊎ NoRoomBefore s us m 10081)
  from_refuses (Refuses.under x looked l) = inr (no_room x looked (inl l))
  from_refuses (Refuses.over x looked l) = inr (no_room x looked (inr l))
  from_refuses (Refuses.reversed u h loan l) = inl (u, h, (loan, l))

  -- the parts of a refusal
  pub decides_refuses : (r : Bool) → Decides r (SomeReversed m us ⊎ (NoRoomPoints s us m us ⊎ NoRoomBefore s us m 10081)) → Decides r (Refuses s us m)
  decides_refuses r d = Decides-like r to_refuses from_refuses d

  to_vouches : AllOrdered m us × RoomPoints s us m us → Vouches s us m
  to_vouches w = record {
    room = λ u p h. ⊎_elim (λ e. subst (λ q. Room s us m (Point q)) (sym e) (w.1 u h).0) (λ e. subst (λ q. Room s us m (Point q)) (sym e) (w.1 u h).1);
    order = w.0;
  }

  from_vouches : Vouches s us m → AllOrdered m us × RoomPoints s us m us
  from_vouches v = (v.order, λ u h. (v.room u u.first h (inl refl), v.room u u.last h (inr refl)))

  -- the parts of a vouching
  pub decides_vouches : (r : Bool) → Decides r (AllOrdered m us × RoomPoints s us m us) → Decides r (Vouches s us m)
  decides_vouches r d = Decides-like r to_vouches from_vouches d
