-- What writing leaves in a buffer.
use Rattle.std.specs.Prelude.{◌≡◌, ℕ, ◌<◌, ◌≤◌, ◌⊎◌, List, ◌++◌, length, drop, Ok, Err, Result}
use Rattle.model.specs.declared.refusals.Refusal.{Refusal}
use Rattle.model.specs.declared.refusals.Refusal.TheVariants.{NotTightened, BufferShort}
use Rattle.runs.specs.Shown.{Shown, Answers}
use Rattle.runs.specs.declared.answers.Answer.{Answer}
use Rattle.texts.specs.declared.texts.Text.{Text}
use Rattle.output.specs.Output.{output_of}

module _ (labels : List (List ℕ)) (shown : Shown) where
  -- the output for what is shown, with the answer of tightening for it
  pub record IsOutput (out : List ℕ) : Type 0 where
    pub answer : Answer
    pub answers : Answers (length labels) shown answer
    pub bytes : out ≡ output_of labels shown answer

  -- the text of the output; refused where nothing is shown
  abbrev pub IsText : Result Text Refusal → Type 0
  IsText (Ok text) = IsOutput text
  IsText (Err why) = (shown ≡ Shown.nothing) × (why ≡ NotTightened)

  -- Writing into a buffer. The output stands at the front, its length is told, and the bytes behind it stay. Refused where nothing
  -- is shown, and where the buffer is shorter than the output; the buffer stays as it was then.
  abbrev pub Wrote : (before after : List ℕ) → Result ℕ Refusal → Type 0
  Wrote before after (Ok n) = (out : List ℕ) × IsOutput out × (n ≡ length out) × (n ≤ length before) × (after ≡ out ++ drop n before)
  Wrote before after (Err why) =
      (after ≡ before)
      × (((why ≡ NotTightened) × (shown ≡ Shown.nothing))
      ⊎ ((why ≡ BufferShort) × ((out : List ℕ) × IsOutput out × (length before < length out))))
