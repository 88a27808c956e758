use Rattle.std.proofs.Common.{◌≡◌, ◌<◌, length, get_or, take, [], ℤ, pos, List, ap, subst, ◌∙◌, arith, w16, to_z, of_z, below_more}
use Rattle.std.proofs.lemmas.Int.{ints}
use Rattle.std.proofs.lemmas.Bool.{false≢true}
use Rattle.std.proofs.lemmas.List.{length-set, set-get_or, get_or-take}
use Rattle.tables.specs.Rows.{Within, LongWays, Relaxes, bound_in}
use Rattle.tables.proofs.Entries.{set_by}
use Rattle.tables.proofs.Rows.{all_long, one_short, relaxed_within, front_within, rows_more}
use Rattle.tables.proofs.bounds.relax.relax_rows.Goals as goal

pub returns-then-from-lt-LOWEST-clause-kept : goal.returns-then-from-lt-LOWEST-clause-kept
returns-then-from-lt-LOWEST-clause-kept c =
    rw (set-get_or c.loop-row.row-items c.loop-row.row-index []) (front_within (length c.args.over.now) c.args.rows.now c.loop-row.row-items c.loop-row.invariant.same c.loop-row.invariant.within c.requires.within)

pub returns-then-from-lt-LOWEST-clause-test : goal.returns-then-from-lt-LOWEST-clause-test
returns-then-from-lt-LOWEST-clause-test c =
    let i = c.loop-row.row-index in
    let over = c.args.over.now in
    let rows = c.args.rows.now in
    let inside : i < length over = omega (arith, c.loop-row.invariant.same) in
    let row : get_or c.loop-row.row-items i [] ≡ get_or rows i [] = c.loop-row.invariant.relaxes.rest i (omega arith) ∙ get_or-take (length over) rows i [] inside in
    let first = ap (λ (xs : List ℤ). get_or xs c.args.k (pos 0)) row in
    let within = (c.requires.within i (omega arith)).1 c.args.k in (
      λ e. absurd (false≢true e),
      λ long. absurd (one_short (bound_in rows i c.args.k) over c.shortest-shortest.result c.shortest-shortest.ensures within.0 (omega (arith, ints)) (long i inside)),
    )

pub relax_row-requires-clause-low : goal.relax_row-requires-clause-low
relax_row-requires-clause-low c =
    let within = (c.loop-row.invariant.within c.loop-row.row-index (omega (arith, c.loop-row.invariant.same))).1 c.args.k in
    all_long _ c.args.over.now c.shortest-shortest.result c.shortest-shortest.ensures (omega (arith, ints))

pub loop-row-preserved : goal.loop-row-preserved
loop-row-preserved c =
    let i = c.loop-row.row-index in
    let k = c.args.k in
    let over = c.args.over.now in
    let rows = c.args.rows.now in
    let items = c.loop-row.row-items in
    let so = c.loop-row.invariant in
    let inside : i < length over = omega (arith, so.same) in
    let there : i < length items = omega (arith, so.same) in
    let front : get_or items i [] ≡ get_or (take (length over) rows) i [] = so.relaxes.rest i (omega arith) in
    let row : get_or items i [] ≡ get_or rows i [] = front ∙ get_or-take (length over) rows i [] inside in
    let within = so.within i inside in
    let bound = within.1 k in
    let first : ℤ = to_z w16 (of_z w16 (get_or (get_or items i []) k (pos 0))) in
    let first_front : first ≡ bound_in (take (length over) rows) i k = omega (arith, ints, ap (λ (xs : List ℤ). get_or xs k (pos 0)) front) in
    let first_row : first ≡ bound_in rows i k = omega (arith, ints, ap (λ (xs : List ℤ). get_or xs k (pos 0)) row) in
    let long : LongWays first over = all_long first over c.shortest-shortest.result c.shortest-shortest.ensures (omega (arith, ints)) in
    let relaxed = c.relax_row.ensures in
    record {
      same = length-set items i _ ∙ so.same;
      within = set_by (length over) items i _ [] (λ (xs : List ℤ). (length xs ≡ 64) × Within xs) (relaxed_within first over (get_or items i []) _ long within relaxed) so.within;
      long = below_more _ _ so.long (subst (λ (x : ℤ). LongWays x over) first_row long);
      relaxes =
          rows_more k over i (take (length over) rows) items _ there so.relaxes
          (subst (λ (x : ℤ). Relaxes x over (length over) (get_or (take (length over) rows) i []) c.relax_row.new.row) first_front
          (subst (λ (xs : List ℤ). Relaxes first over (length over) xs c.relax_row.new.row) front relaxed));
    }

pub returns-clause-kept : goal.returns-clause-kept
returns-clause-kept c = front_within (length c.args.over.now) c.args.rows.now c.loop-row.row-items c.loop-row.invariant.same c.loop-row.invariant.within c.requires.within
