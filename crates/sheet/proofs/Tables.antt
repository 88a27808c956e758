-- The points of a table that a sheet shows.
use Rattle.std.proofs.Common.{◌≡◌, ℕ, Bool, sym, subst}
use Rattle.runs.specs.Shown.{Answers}
use Rattle.runs.specs.declared.answers.Answer.{Answer}
use Rattle.sheet.specs.Sheets.{seen}
use Rattle.sheet.specs.declared.sheets.Shown.{Shown}
use Rattle.sheet.specs.declared.sheets.Shown.TheVariants.{Nothing, Bounds}
use Rattle.tables.specs.Views.{table_view}
use Rattle.tables.specs.declared.tables.Table.{Table}

-- where nothing is shown, no table is
pub nothing_whole : (n : ℕ) (t : Table) (any : Bool) → Nothing ≡ Bounds t any → (table_view t).points ≡ n
nothing_whole n t any e = cc

-- an answer for a table of k points, told of a sheet of n
pub answered : (n k : ℕ) (held shown : Shown) (a : Answer) → k ≡ n → shown ≡ held → Answers k (seen held) a → Answers n (seen shown) a
answered n k held shown a e same told = subst (λ s. Answers n (seen s) a) (sym same) (subst (λ m. Answers m (seen held) a) e told)
