use Rattle.std.proofs.Common.{[], ◌∷◌, get_or, take, pos, sym, ap, ◌∙◌, subst, arith, take_all}
use mathlib.Core.List.{map-append}
use Rattle.std.proofs.lemmas.List.{take_more}
use Rattle.std.proofs.lemmas.Int.{ints}
use Rattle.std.proofs.lemmas.Result.{err_from_is_err_and}
use Rattle.model.proofs.Members.{in_at}
use Rattle.model.specs.Narrowings.{Narrowed}
use Rattle.register.specs.Lookups.{what_of}
use Rattle.register.specs.declared.records.Numbered.{Numbered}
use Rattle.model.specs.declared.slips.Distance.{Distance}
use Rattle.tables.specs.Views.{table_view}
use Rattle.tightening.specs.Asked.{distances, Posts}
use Rattle.tightening.proofs.Passes.{posts_more}
use Rattle.tightening.proofs.asked.post_slips.Goals as goal

abbrev blank : Numbered Distance
blank = record { number = 0; what = record { from = 0; to = 0; minutes = pos 0 } }

pub loop-slip-preserved : goal.loop-slip-preserved
loop-slip-preserved c =
    let xs = c.args.slips.now in
    let i = c.loop-slip.slip-index in
    let d = (get_or xs i blank).what in
    subst (λ ds. Narrowed (Posts ds) (table_view c.args.table.now) (table_view c.ask.new.table))
    (sym (ap distances (take_more xs i blank c.loop-slip-test.true) ∙ map-append what_of (take i xs) (get_or xs i blank ∷ [])))
    (posts_more (distances (take i xs)) d _ (table_view c.args.table.now) (table_view c.loop-slip.table) (table_view c.ask.new.table) (omega (arith, ints)) c.loop-slip.invariant c.in_ok-ask.ensures)

pub returns : goal.returns
returns c = subst (λ xs. Narrowed (Posts (distances xs)) (table_view c.args.table.now) (table_view c.loop-slip.table)) (take_all _ _ c.loop-slip-test.false) c.loop-slip.invariant

pub returns-in_err-ask : goal.returns-in_err-ask
returns-in_err-ask c =
    let xs = c.args.slips.now in
    let i = c.loop-slip.slip-index in
    let low = c.in_err-ask.ensures in
    rw (err_from_is_err_and c.from_residual.result c.from_residual.ensures.1).1 ((get_or xs i blank).what, in_at what_of xs i blank c.loop-slip-test.true, omega (arith, ints))
