-- Reading a file, one line after another.
use Rattle.std.proofs.Common.{◌≡◌, ℕ, ◌+◌, ◌<◌, ◌≤◌, true, false, List, map, length, get_or, drop, Ok, Err, sym, ap, ◌∙◌, arith, Bor}
use Rattle.std.proofs.lemmas.List.{at_drop_more, at_drop_all}
use Rattle.std.proofs.lemmas.Bool.{cond-true, cond-false}
use Rattle.model.specs.declared.refusals.Refusal.TheVariants.{LineNotDue}
use Rattle.daytables.specs.Faults.{refusal_of}
use Rattle.daytables.specs.Tables.{Came, takes, may_end}
use Rattle.daytables.specs.declared.due.Due.{Due}
use Rattle.daytables.specs.declared.faults.LineFault.{LineFault}
use Rattle.dayfile.specs.Files.{place_at}
use Rattle.dayfile.specs.Reading.{Read, noted, refused, line_read, read_from}
use Rattle.dayfile.specs.declared.faults.DayFile.{DayFile}

-- the lines that are left, from line n on
abbrev pub read_rest : DayFile → Due → ℕ → List (Bor (List ℕ)) → Read → Read
read_rest file due n lines r = read_from file due n (map (λ x. x.now) lines) r

module _ (file : DayFile) (due : Due) (first : ℕ) (lines : List (Bor (List ℕ))) (i : ℕ) (r : Read) where
  -- reading goes on after the line at i
  abbrev next : Came → Read
  next came = read_rest file came.next (first + i + 1) (drop (i + 1) lines) (noted (place_at file (first + i)) came.said r)

  here : (d : Bor (List ℕ)) → i < length lines → read_rest file due (first + i) (drop i lines) r ≡ line_read (place_at file (first + i)) r next (takes due r.labels (get_or lines i d).now)
  unfolding read_from
  here d lt = at_drop_more (λ ls. read_rest file due (first + i) ls r) lines i d lt

  pub line_more : (d : Bor (List ℕ)) (came : Came) → i < length lines → Ok came ≡ takes due r.labels (get_or lines i d).now
      → read_rest file due (first + i) (drop i lines) r ≡ read_rest file came.next (first + (i + 1)) (drop (i + 1) lines) (noted (place_at file (first + i)) came.said r)
  line_more d came lt e =
      let one : first + i + 1 ≡ first + (i + 1) = omega arith in
      here d lt
      ∙ (ap (line_read (place_at file (first + i)) r next) (sym e)
      ∙ ap (λ n. read_rest file came.next n (drop (i + 1) lines) (noted (place_at file (first + i)) came.said r)) one)

  pub line_refused : (d : Bor (List ℕ)) (why : LineFault) → i < length lines → Err why ≡ takes due r.labels (get_or lines i d).now
      → read_rest file due (first + i) (drop i lines) r ≡ refused (place_at file (first + i)) (refusal_of why) r
  line_refused d why lt e = here d lt ∙ ap (line_read (place_at file (first + i)) r next) (sym e)

  pub lines_end : length lines ≤ i → may_end due ≡ true → read_rest file due (first + i) (drop i lines) r ≡ r
  unfolding read_from
  lines_end h e = at_drop_all (λ ls. read_rest file due (first + i) ls r) lines i h ∙ cond-true _ _ _ e

  pub lines_short : length lines ≡ i → may_end due ≡ false → read_rest file due (first + i) (drop i lines) r ≡ refused (place_at file (first + length lines)) LineNotDue r
  unfolding read_from
  lines_short h e =
      at_drop_all (λ ls. read_rest file due (first + i) ls r) lines i (omega arith)
      ∙ (cond-false _ _ _ e ∙ ap (λ n. refused (place_at file (first + n)) LineNotDue r) (sym h))
