-- What a bunker tells at minutes that are alike.
use Rattle.std.proofs.Common.{◌≡◌, ℕ, ◌+◌, ◌<◌, ◌≤◌, ◌||◌, ◌⊎◌, List, ℤ, pos, negsuc, ◌+ℤ◌, ◌-ℤ◌, ◌≤ℤ◌, ◌<ℤ◌, sym, refl, ap, ◌∙◌, subst, inl, inr, ⊎_elim, arith, Bool, true, false, [], ◌∷◌, Option, Some, None, MatchOption, Decides}
use lib.Signed.{≤ℤ_refl}
use Rattle.bunker.specs.Following.{FollowsBefore, FollowsEnds}
use Rattle.bunker.specs.Rooms.{NoRoom, NoRoomBefore}
use Rattle.bunker_laws.proofs.Sums.{total_same}
use Rattle.bunker_laws.specs.Bunkers.{delivery, can_be_active, can_be_idle, high, low, highest, lowest, RuledOut, Follows}
use Rattle.bunker_laws.specs.declared.settings.Settings.{Settings}
use Rattle.bunker.specs.Stretches.{Alike, LongestFrom}
use Rattle.model.proofs.Narrowings.{narrowed_then}
use Rattle.model.specs.Narrowings.{Narrowed}
use Rattle.model.specs.Plans.{View}
use Rattle.model.specs.Uses.{In}
use Rattle.model.specs.declared.moments.Moment.{Moment}
use Rattle.model.specs.declared.moments.Moment.TheVariants.{Minute}
use Rattle.model.specs.declared.slips.Use.{Use}
use Rattle.bunker.specs.NextStretch.{NextStretch}
use Rattle.bunker.specs.Records.{uses_of}
use Rattle.bunker.specs.declared.bunkers.Bunker.{Bunker}
use Rattle.bunker.specs.declared.stretches.Stretch.{Stretch}
use Rattle.bunker.specs.declared.stretches.Stretches.{Stretches}
use Rattle.std.specs.Iterator.{Yields}
use Rattle.std.specs.List.{FoldsTo}
use Rattle.tables.specs.Views.{table_view}
use Rattle.tables.specs.declared.tables.Table.{Table}
use denote.Param.Members.{Mut, Called}
use Rattle.std.proofs.lemmas.Int.{ints}
use Rattle.std.proofs.lemmas.Bool.{cases_lt, false≢true}

-- ---- two moments that are alike

module _ (m : View) (us : List Use) (x y : Moment) (alike : Alike m us x y) where
  same_active : (u : Use) → In u us → can_be_active m x u ≡ can_be_active m y u
  same_active u h = let e = alike u h in cc

  same_idle : (u : Use) → In u us → can_be_idle m x u ≡ can_be_idle m y u
  same_idle u h = let e = alike u h in cc

  same_high : (u : Use) → In u us → high m x u ≡ high m y u
  same_high u h = let a = same_active u h in let i = same_idle u h in cc

  same_low : (u : Use) → In u us → low m x u ≡ low m y u
  same_low u h = let a = same_active u h in let i = same_idle u h in cc

  same_highest : (s : Settings) → highest s us m x ≡ highest s us m y
  same_highest s = ap (λ z. s.start +ℤ z) (total_same us (high m x) (high m y) same_high)

  same_lowest : (s : Settings) → lowest s us m x ≡ lowest s us m y
  same_lowest s = ap (λ z. s.start +ℤ z) (total_same us (low m x) (low m y) same_low)

  same_room : (s : Settings) → NoRoom s us m x → NoRoom s us m y
  same_room s (inl h) = inl (subst (λ z. z <ℤ s.floor) (same_highest s) h)
  same_room s (inr h) = inr (subst (λ z. s.roof <ℤ z) (same_lowest s) h)

  same_ruled : (s : Settings) (u : Use) (w : ℤ) → In u us → RuledOut s us m x u w → RuledOut s us m y u w
  same_ruled s u w h r =
      let up : ((highest s us m x -ℤ high m x u) +ℤ w) ≡ ((highest s us m y -ℤ high m y u) +ℤ w) = let a = same_highest s in let b = same_high u h in cc in
      let down : ((lowest s us m x -ℤ low m x u) +ℤ w) ≡ ((lowest s us m y -ℤ low m y u) +ℤ w) = let a = same_lowest s in let b = same_low u h in cc in
      record {
        active_open = sym (same_active u h) ∙ r.active_open;
        idle_open = sym (same_idle u h) ∙ r.idle_open;
        no_room = ⊎_elim (λ l. inl (subst (λ z. z <ℤ s.floor) up l)) (λ l. inr (subst (λ z. s.roof <ℤ z) down l)) r.no_room;
      }

alike_back : (m : View) (us : List Use) (x y : Moment) → Alike m us x y → Alike m us y x
alike_back m us x y h u i = let e = h u i in ((sym e.0.0, sym e.0.1), (sym e.1.0, sym e.1.1))

alike_then : (m : View) (us : List Use) (x y z : Moment) → Alike m us x y → Alike m us y z → Alike m us x z
alike_then m us x y z h g u i = let e = h u i in let f = g u i in ((e.0.0 ∙ f.0.0, e.0.1 ∙ f.0.1), (e.1.0 ∙ f.1.0, e.1.1 ∙ f.1.1))

-- bounds given under one name, each with one as low that is given under another
narrowed_low : (G H : ℕ → ℕ → ℤ → Type 0) (a b : View) → ((i j : ℕ) (v : ℤ) → G i j v → H i j v) → ((i j : ℕ) (v : ℤ) → H i j v → (w : ℤ) × G i j w × (w ≤ℤ v)) → Narrowed G a b → Narrowed H a b
narrowed_low G H a b to low g = record {
  points = g.points;
  least = λ i j hi hj.
      let l = g.least i j hi hj in
      record {
        below = l.below;
        under = λ v h. let e = low i j v h in let f = l.under e.0 e.1 in omega (arith, ints, e.2);
        reached = ⊎_elim inl (λ h. inr (to i j (b.at i j) h)) l.reached;
      };
}

-- ---- a stretch: its first minute gives the least "by", its last the least "after"

module _ (s : Settings) (us : List Use) (m : View) (first last : ℕ) (stretch : LongestFrom m us first last) where
  to_first : (k : ℕ) → first ≤ k → k ≤ last → Alike m us (Minute k) (Minute first)
  to_first k a b = alike_back m us (Minute first) (Minute k) (stretch.throughout k a b)

  to_last : (k : ℕ) → first ≤ k → k ≤ last → Alike m us (Minute k) (Minute last)
  to_last k a b = alike_then m us (Minute k) (Minute first) (Minute last) (to_first k a b) (stretch.throughout last stretch.order (omega arith))

  -- no room before the stretch or at its first minute: none up to its last
  pub no_room_more : (NoRoomBefore s us m first → ⊥) → (NoRoom s us m (Minute first) → ⊥) → NoRoomBefore s us m (last + 1) → ⊥
  no_room_more before here (k, h, l) =
      ⊎_elim (λ (a : k < first). before (k, a, l)) (λ (a : first ≤ k). here (same_room m us (Minute k) (Minute first) (to_first k a (omega arith)) s l)) (cases_lt k first)

  -- a bound that follows for a use at a minute of the stretch, and one as low at the first or the last
  abbrev AtEnds : Use → ℕ → ℕ → ℤ → Type 0
  AtEnds u i j v = (w : ℤ) × (Follows s us m (Minute first) u i j w ⊎ Follows s us m (Minute last) u i j w) × (w ≤ℤ v)

  at_ends : (k : ℕ) → first ≤ k → k ≤ last → (u : Use) → In u us → (i j : ℕ) (v : ℤ) → Follows s us m (Minute k) u i j v → AtEnds u i j v
  at_ends k a b u h i j v (Follows.starts r (i-is, j-is, v-is)) =
      (pos first, inl (Follows.starts (same_ruled m us (Minute k) (Minute first) (to_first k a b) s u (pos 0) h r) (i-is, j-is, refl)), omega (arith, ints))
  at_ends k a b u h i j v (Follows.lasts loan r (i-is, j-is, v-is)) =
      (negsuc last, inr (Follows.lasts loan (same_ruled m us (Minute k) (Minute last) (to_last k a b) s u (pos 0) h r) (i-is, j-is, refl)), omega (arith, ints))
  at_ends k a b u h i j v (Follows.waits late r (i-is, j-is, v-is)) =
      let alike = to_last k a b in
      (negsuc last, inr (Follows.waits (sym (ap (λ t. delivery u || t) (alike u h).1.1) ∙ late) (same_ruled m us (Minute k) (Minute last) alike s u _ h r) (i-is, j-is, refl)), omega (arith, ints))
  at_ends k a b u h i j v (Follows.ends loan began r (i-is, j-is, v-is)) =
      let alike = to_first k a b in
      (pos first, inl (Follows.ends loan (sym (alike u h).0.0 ∙ began) (same_ruled m us (Minute k) (Minute first) alike s u _ h r) (i-is, j-is, refl)), omega (arith, ints))

  -- what follows before the stretch and at its ends
  abbrev Ends : ℕ → ℕ → ℤ → Type 0
  Ends i j v = FollowsBefore s us m first i j v ⊎ FollowsEnds s us m first last i j v

  from_ends : (i j : ℕ) (v : ℤ) → Ends i j v → FollowsBefore s us m (last + 1) i j v
  from_ends i j v (inl (k, h, f)) = (k, omega (arith, stretch.order), f)
  from_ends i j v (inr (inl f)) = (first, omega (arith, stretch.order), f)
  from_ends i j v (inr (inr f)) = (last, omega arith, f)

  to_ends : (i j : ℕ) (v : ℤ) → FollowsBefore s us m (last + 1) i j v → (w : ℤ) × Ends i j w × (w ≤ℤ v)
  to_ends i j v (k, h, (u, here, f)) =
      ⊎_elim (λ (a : k < first). (v, inl (k, a, (u, here, f)), ≤ℤ_refl v))
      (λ (a : first ≤ k). let e = at_ends k a (omega arith) u here i j v f in (e.0, inr (⊎_elim (λ g. inl (u, here, g)) (λ g. inr (u, here, g)) e.1), e.2))
      (cases_lt k first)

  -- one stretch more
  pub narrowed_stretch : (a b c : View) → Narrowed (FollowsBefore s us m first) a b → Narrowed (FollowsEnds s us m first last) b c → Narrowed (FollowsBefore s us m (last + 1)) a c
  narrowed_stretch a b c before here = narrowed_low Ends (FollowsBefore s us m (last + 1)) a c from_ends to_ends (narrowed_then _ _ a b c before here)

-- ---- the stretches of a day, one behind the other

module _ (b : Bunker) (t : Table) where
  longest : (s u : Stretches) (x : Stretch) → s.bunker.now ≡ b → s.table.now ≡ t → NextStretch s (Some x) u → LongestFrom (table_view t) (uses_of b) s.first x.last
  longest s u x same_bunker same_table gave =
      subst (λ c. LongestFrom (table_view t) (uses_of c) s.first x.last) same_bunker (subst (λ d. LongestFrom (table_view d) (uses_of s.bunker.now) s.first x.last) same_table gave.stretch.2)

  pub narrowed_next : (s u : Stretches) (x : Stretch) → s.bunker.now ≡ b → s.table.now ≡ t → NextStretch s (Some x) u → (a c d : View) → Narrowed (FollowsBefore b.settings (uses_of b) (table_view t) s.first) a c → Narrowed (FollowsEnds b.settings (uses_of b) (table_view t) x.first x.last) c d → Narrowed (FollowsBefore b.settings (uses_of b) (table_view t) u.first) a d
  narrowed_next s u x same_bunker same_table gave a c d before here =
      subst (λ n. Narrowed (FollowsBefore b.settings (uses_of b) (table_view t) n) a d) (sym gave.stretch.1)
      (narrowed_stretch b.settings (uses_of b) (table_view t) s.first x.last (longest s u x same_bunker same_table gave) a c d before (subst (λ n. Narrowed (FollowsEnds b.settings (uses_of b) (table_view t) n x.last) c d) gave.stretch.0 here))

  abbrev Bare : ℕ → Type 0
  Bare = NoRoomBefore b.settings (uses_of b) (table_view t)

  abbrev BareAt : ℕ → Type 0
  BareAt k = NoRoom b.settings (uses_of b) (table_view t) (Minute k)

  -- what `any` answers where the bunker has room at each minute before those that are left
  module _ {F : Type 0} (g : Mut F (Stretch × Unit {0}) Bool) (f : F)
      (yes : (x : Stretch) (q : F) → Called g f (x, tt) true q → BareAt x.first)
      (no : (x : Stretch) (q : F) → Called g f (x, tt) false q → (q ≡ f) × (BareAt x.first → ⊥)) where
    pub decides_no_room : (r : Bool) (xs : List Stretch) (o : Option Stretch) (s u v : Stretches) (h j : F) → s.bunker.now ≡ b → s.table.now ≡ t → h ≡ f → (Bare s.first → ⊥) → Yields NextStretch s xs u → NextStretch u o v → FoldsTo (λ p x q. Called g p (x, tt) false q) h xs j → MatchOption o (r ≡ false) (λ x. (r ≡ true) × ((k : F) × Called g j (x, tt) true k)) → Decides r (Bare 10081)
    decides_no_room r [] None s u v h j same_bunker same_table same before here gave ran end =
        let e = ap (λ (a : Stretches). a.first) here in
        (λ yes. absurd (false≢true (sym end ∙ yes)), λ w. absurd (before (w.0, omega (arith, gave.stretch.0, w.1), w.2)))
    decides_no_room r [] (Some x) s u v h j same_bunker same_table same before here gave ran end =
        (λ _. (x.first, omega (arith, x.ordered, x.in_day), yes x end.1.0 (subst (λ p. Called g p (x, tt) true end.1.0) (sym ran ∙ same) end.1.1)), λ _. end.0)
    decides_no_room r (x ∷ xs) o s u v h j same_bunker same_table same before y gave ran end =
        let room = no x ran.0 (subst (λ p. Called g p (x, tt) false ran.0) same ran.1) in
        let behind = no_room_more b.settings (uses_of b) (table_view t) s.first x.last (longest s y.0 x same_bunker same_table y.1) before (subst (λ n. BareAt n → ⊥) y.1.stretch.0 room.1) in
        decides_no_room r xs o y.0 u v ran.0 j (y.1.bunker ∙ same_bunker) (y.1.table ∙ same_table) room.0 (subst (λ n. Bare n → ⊥) (sym y.1.stretch.1) behind) y.2 gave ran.2 end
