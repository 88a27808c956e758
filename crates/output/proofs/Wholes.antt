-- The whole output, by what the sheet shows.
use Rattle.std.proofs.Common.{◌≡◌, ℕ, ◌^◌, ◌<◌, ◌≤◌, Bool, true, false, ◌⊎◌, List, [], ◌++◌, map, length, sym, refl, ap, ◌∙◌, inl, inr, arith}
use Rattle.std.proofs.lemmas.List.{append_assoc, length-append}
use Rattle.model.specs.Labels.{text_of}
use Rattle.model.specs.Plans.{View}
use Rattle.model.specs.declared.labels.Label.{Label}
use Rattle.model.specs.declared.verdicts.Verdict.{Verdict}
use Rattle.model.specs.declared.verdicts.Verdict.TheVariants.{NoPlan, Open, AnyPlan}
use Rattle.output.specs.Output.{line, point_table, verdict_table}
use Rattle.output.specs.Written.{IsOutput}
use Rattle.output.proofs.Lengths.{table_length, verdict_length}
use Rattle.runs.specs.Shown.{Shown, Answers, verdict_of}
use Rattle.runs.specs.declared.answers.Answer.{Answer}
use Rattle.sheet.specs.Sheets.{seen}
use Rattle.sheet.specs.declared.sheets.Shown.{Shown as Held}
use Rattle.sheet.specs.declared.sheets.Shown.TheVariants.{Nothing, NoPlan as HeldNone, Bounds}
use Rattle.tables.proofs.Entries.{at_low, at_high}
use Rattle.tables.specs.Views.{table_view}
use Rattle.texts.proofs.Cuts.{cut_none, cut_on}
use Rattle.texts.specs.Texts.{cut}

some_verdict : (any : Bool) → verdict_of any ≡ NoPlan → ⊥
some_verdict true e = cc
some_verdict false e = cc

-- "open" and "any plan" are not "no plan"
pub open_or_any : (v : Verdict) → (v ≡ Open) ⊎ (v ≡ AnyPlan) → v ≡ NoPlan → ⊥
open_or_any v (inl h) e = some_verdict false (sym h ∙ e)
open_or_any v (inr h) e = some_verdict true (sym h ∙ e)

-- at most 64 labels, and an answer for what is shown
module _ (labels : List Label) (few : length labels ≤ 64) (a : Answer) (small : a.count < 2 ^ 32) where
  pub short_output : (held : Held) (x : List ℕ) → Answers (length (map text_of labels)) (seen held) a → a.verdict ≡ NoPlan → x ≡ cut (verdict_table a) → IsOutput (map text_of labels) (seen held) x
  short_output Nothing x told e p = absurd told
  short_output HeldNone x told e p = record { answer = a; answers = told; bytes = p ∙ cut_none (verdict_table a) (omega (arith, verdict_length a small)) }
  short_output (Bounds t any) x told e p = absurd (some_verdict any (sym told.0 ∙ e))

  pub long_output : (held : Held) (x y : List ℕ) → Answers (length (map text_of labels)) (seen held) a → (a.verdict ≡ NoPlan → ⊥)
      → ((m : View) (any : Bool) → seen held ≡ Shown.bounds m any → x ≡ cut (point_table m (map text_of labels) ++ line []))
      → y ≡ cut (x ++ verdict_table a) → IsOutput (map text_of labels) (seen held) y
  long_output Nothing x y told some p q = absurd told
  long_output HeldNone x y told some p q = absurd (some told.0)
  long_output (Bounds t any) x y told some p q =
      let m = table_view t in
      let b = t.bounds in
      let names = point_table m (map text_of labels) in
      let v = verdict_table a in
      let long = table_length m (at_low b) (at_high b) labels few in
      let fits : length (names ++ (line [] ++ v)) ≤ 1536 = omega (arith, length-append names (line [] ++ v), verdict_length a small) in
      record {
        answer = a;
        answers = told;
        bytes = cut_on [] x y (names ++ line []) v (p m any refl) q ∙ (ap cut (append_assoc names (line []) v) ∙ cut_none (names ++ (line [] ++ v)) fits);
      }
