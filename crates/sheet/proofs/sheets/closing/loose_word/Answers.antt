use Rattle.std.proofs.Common.{◌≡◌, ◌+◌, ◌<◌, true, false, ℤ, pos, ◌+ℤ◌, ◌≤ℤ◌, ◌<ℤ◌, sym, subst, arith}
use lib.Signed.{lt_z}
use Rattle.std.proofs.lemmas.Int.{ints}
use Rattle.runs.proofs.WordBits.{fixed_bit, loose_bit}
use Rattle.runs.specs.Shown.{LooseWord, loose}
use Rattle.tables.proofs.Entries.{points_few, at_low, at_high}
use Rattle.tables.specs.Views.{table_view}
use Rattle.sheet.proofs.sheets.closing.loose_word.Goals as goal
use Rattle.sheet.proofs.sheets.closing.loose_word.Goals.{then-get-gt0, else-get-gt0}

above : (x : ℤ) → pos 0 <ℤ x → lt_z (pos 0) x ≡ true
above x h = grind (arith, ints)

not_above : (x : ℤ) → x ≤ℤ pos 0 → lt_z (pos 0) x ≡ false
not_above x h = grind (arith, ints)

pub overflow_add-get : goal.overflow_add-get
overflow_add-get c =
    let b = c.args.table.now.bounds in
    let p = c.loop-p.p in
    omega (arith, ints, at_low b 0 p, at_high b 0 p, at_low b p 0, at_high b p 0, c.get.ensures, c.get-in-loop-p.ensures)

pub overflow_shl-word : goal.overflow_shl-word
overflow_shl-word c = omega (arith, points_few c.args.table.now.bounds, c.points-p-end.ensures)

pub loop-p-preserved : goal.loop-p-preserved
loop-p-preserved c =
    let m = table_view c.args.table.now in
    let b = c.args.table.now.bounds in
    let p = c.loop-p.p in
    let near : p < 64 = omega (arith, points_few b, c.points-p-end.ensures) in
    let low-0 = at_low b 0 p in
    let high-0 = at_high b 0 p in
    let low-p = at_low b p 0 in
    let high-p = at_high b p 0 in
    elim c.if-get-gt0.branch [
      | then-get-gt0 w ↦
          let passes : loose m p ≡ true = above (m.at 0 p +ℤ m.at p 0) (omega (arith, ints, c.get.ensures, c.get-in-loop-p.ensures)) in
          subst (λ n. LooseWord m (p + 1) n) (sym w.word-is) (loose_bit m p c.loop-p.word c.loop-p.invariant near passes)
      | else-get-gt0 w ↦
          let fails : loose m p ≡ false = not_above (m.at 0 p +ℤ m.at p 0) (omega (arith, ints, c.get.ensures, c.get-in-loop-p.ensures)) in
          subst (λ n. LooseWord m (p + 1) n) (sym w.word-is) (fixed_bit m p c.loop-p.word c.loop-p.invariant fails)
    ]
