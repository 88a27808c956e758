use Rattle.std.proofs.Common.{◌≡◌, ℕ, Bool, true, ℤ, pos, Some, Option, Decides, sym, refl, ap, ◌∙◌, subst, arith}
use Rattle.bunker.proofs.Rooms.{ruled_out_told}
use Rattle.bunker.proofs.Steps.{narrowed_if, follows_by, none_follows}
use Rattle.bunker.proofs.Turns.{light_use}
use Rattle.bunker.proofs.bunkers.Bunker.propagate_use.Goals as goal
use Rattle.bunker.proofs.bunkers.Bunker.propagate_use.Goals.{Joined-rules_out, After-rules_out-2, then-rules_out, else-rules_out}
use Rattle.bunker.specs.Choices.{Leaves, both_of}
use Rattle.bunker.specs.Following.{ActiveBounds, IdleBounds}
use Rattle.bunker.specs.Records.{uses_of}
use Rattle.bunker.specs.declared.options.Options.{Options}
use Rattle.bunker.specs.declared.options.Options.TheVariants.{Both, Active, Idle, Neither}
use Rattle.bunker.specs.declared.options.Worth.{Worth}
use Rattle.bunker_laws.specs.Bunkers.{worth, RuledOut}
use Rattle.model.proofs.Narrowings.{narrowed_none}
use Rattle.model.specs.Narrowings.{Narrowed}
use Rattle.std.proofs.lemmas.Int.{ints}
use Rattle.std.proofs.lemmas.Bool.{both_ways}
use Rattle.tables.specs.Views.{bounds_view, table_view}

-- both options are left to a use whose options have a worth of both
both_left : (o : Options) (w : Worth) (active idle : Bool) (kilos : ℤ) → Some w ≡ both_of o → Leaves o active idle kilos → (active ≡ true) × (idle ≡ true) × (w.kilos ≡ kilos)
both_left (Both v) w active idle kilos e l = let same : w ≡ v = cc in (l.0, l.1, ap (λ (x : Worth). x.kilos) same ∙ l.2)
both_left (Active v) w active idle kilos e l = let z : ◌≡◌ {A = ℕ} 0 1 = cc in absurd (omega arith)
both_left Idle w active idle kilos e l = let z : ◌≡◌ {A = ℕ} 0 1 = cc in absurd (omega arith)
both_left Neither w active idle kilos e l = let z : ◌≡◌ {A = ℕ} 0 1 = cc in absurd (omega arith)

not_both : (o : Options) (r : Option Worth) → r ≡ both_of o → ((w : Worth) → r ≡ Some w → ⊥) → (w : Worth) → o ≡ Both w → ⊥
not_both o r e none w h = none w (e ∙ ap both_of h)

pub options-options-requires : goal.options-options-requires
options-options-requires c = light_use c.args.self.now c.args.what c.requires.stands

pub returns-in_default : goal.returns-in_default
returns-in_default c =
    let b = c.args.self.now in
    let here = c.args.day.here in
    narrowed_none _ (bounds_view c.args.bounds.now) (none_follows b.settings (uses_of b) (table_view here.table.now) here.at c.args.what c.options-options.result c.options-options.ensures (not_both c.options-options.result c.undecided.result c.undecided.ensures c.in_default.not-Some))

-- the first test, with the step that it leads to
if_not_idle : (c : Joined-rules_out) → Narrowed (λ i j v. RuledOut c.args.self.now.settings (uses_of c.args.self.now) (table_view c.args.day.here.table.now) c.args.day.here.at c.args.what (pos 0) × ActiveBounds c.args.day.here.at c.args.what i j v) (bounds_view c.args.bounds.now) (bounds_view c.if-rules_out.bounds)
if_not_idle c =
    let s = c.args.self.now.settings in
    let us = uses_of c.args.self.now in
    let m = table_view c.args.day.here.table.now in
    let x = c.args.day.here.at in
    let u = c.args.what in
    let l = c.args.profile.levels in
    let o = c.options-options.result in
    let both = both_left o c.in-Some.worth _ _ _ c.in-Some.ensures c.options-options.ensures in
    let d = ruled_out_told s us m x u l.highest l.lowest c.requires.levels o c.options-options.ensures both.0 both.1 c.rules_out.result (pos 0) (pos 0) refl c.rules_out.ensures in
    narrowed_if c.rules_out.result (RuledOut s us m x u (pos 0)) (ActiveBounds x u) (bounds_view c.args.bounds.now) (bounds_view c.if-rules_out.bounds) d
    (λ t. elim c.if-rules_out.branch [ then-rules_out w ↦ subst (λ b. Narrowed (ActiveBounds x u) (bounds_view c.args.bounds.now) (bounds_view b)) (sym w.bounds-is) w.require_active.ensures | else-rules_out w ↦ absurd (both_ways _ w.if-rules_out.false t) ])
    (λ t. elim c.if-rules_out.branch [ then-rules_out w ↦ absurd (both_ways _ t w.if-rules_out.true) | else-rules_out w ↦ ap bounds_view w.bounds-is ])

-- the second test
not_active : (c : After-rules_out-2) → Decides c.rules_out-2.result (RuledOut c.args.self.now.settings (uses_of c.args.self.now) (table_view c.args.day.here.table.now) c.args.day.here.at c.args.what (worth c.args.what))
not_active c =
    let l = c.args.profile.levels in
    let both = both_left c.options-options.result c.in-Some.worth _ _ _ c.in-Some.ensures c.options-options.ensures in
    ruled_out_told c.args.self.now.settings (uses_of c.args.self.now) (table_view c.args.day.here.table.now) c.args.day.here.at c.args.what l.highest l.lowest c.requires.levels c.options-options.result c.options-options.ensures both.0 both.1 c.rules_out-2.result _ (worth c.args.what) (omega (arith, ints)) c.rules_out-2.ensures

pub returns-then-rules_out-2 : goal.returns-then-rules_out-2
returns-then-rules_out-2 c =
    let places = goal.at.returns-then-rules_out-2 c in
    let s = c.args.self.now.settings in
    let us = uses_of c.args.self.now in
    let m = table_view c.args.day.here.table.now in
    let x = c.args.day.here.at in
    let u = c.args.what in
    let before = bounds_view c.args.bounds.now in
    let between = bounds_view c.if-rules_out.bounds in
    let after = bounds_view c.require_idle.new.bounds in
    follows_by s us m x u before between after (if_not_idle places.Joined-rules_out)
    (narrowed_if c.rules_out-2.result (RuledOut s us m x u (worth u)) (IdleBounds m x u) between after (not_active places.After-rules_out-2) (λ _. c.require_idle.ensures) (λ e. absurd (both_ways _ e c.if-rules_out-2.true)))

pub returns-else-rules_out-2 : goal.returns-else-rules_out-2
returns-else-rules_out-2 c =
    let places = goal.at.returns-else-rules_out-2 c in
    let s = c.args.self.now.settings in
    let us = uses_of c.args.self.now in
    let m = table_view c.args.day.here.table.now in
    let x = c.args.day.here.at in
    let u = c.args.what in
    let before = bounds_view c.args.bounds.now in
    let between = bounds_view c.if-rules_out.bounds in
    follows_by s us m x u before between between (if_not_idle places.Joined-rules_out)
    (narrowed_if c.rules_out-2.result (RuledOut s us m x u (worth u)) (IdleBounds m x u) between between (not_active places.After-rules_out-2) (λ e. absurd (both_ways _ c.if-rules_out-2.false e)) (λ _. refl))
