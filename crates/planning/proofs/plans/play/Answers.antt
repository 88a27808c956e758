use Rattle.std.proofs.Common.{◌≡◌, true, false, subst, inl, inr, arith}
use Rattle.std.proofs.lemmas.Result.{err_from_is_err_and}
use Rattle.model.specs.Uses.{Uses, none}
use Rattle.model.specs.declared.refusals.Refusal.{Refusal}
use Rattle.model.specs.declared.refusals.Refusal.TheVariants.{OutOfMemory}
use Rattle.rules.specs.Calls.{AnyUse}
use Rattle.runs.specs.Days.{ruled, after}
use Rattle.runs.specs.Promise.{Promise}
use Rattle.sheet.specs.Replies.{FirstRefused}
use Rattle.sheet.specs.Rulings.{NotRuledFor}
use Rattle.sheet.specs.Sheets.{day_of, shown_of}
use Rattle.yard.specs.Yards.{settings_of, uses_of, takes, means}
use Rattle.planning.proofs.plans.play.Goals as goal

-- a sheet of 1,440 minutes over limits without a use is not ruled for want of memory alone
only_memory : (us : Uses) (why : Refusal) → us ≡ none → NotRuledFor 1440 us why → why ≡ OutOfMemory
only_memory us why empty (inl w) = absurd (w.1 (omega arith, omega arith))
only_memory us why empty (inr (inl w)) =
    let some : AnyUse none = subst AnyUse empty w.2 in
    let clash : false ≡ true = some.2 in
    absurd (grind arith)
only_memory us why empty (inr (inr w)) = w.0

pub returns-in_err-played : goal.returns-in_err-played
returns-in_err-played c =
    let p = err_from_is_err_and c.from_residual-in_err-played.result c.from_residual-in_err-played.ensures.1 in
    rw (p.1, p.2) (only_memory (uses_of c.in_ok-yard.yard) c.in_err-played.field-0.0.refusal c.in_ok-yard.ensures.uses c.in_err-played.ensures.promise.1)

pub returns : goal.returns
returns c =
    let built = c.in_ok-yard.ensures in
    let told = c.in_ok-played.ensures in
    let sheet = c.in_ok-played.played.sheet in
    let calls = c.args.calls.now in
    let s = settings_of c.in_ok-yard.yard in
    record {
      settings = s;
      left = built.left;
      right = built.right;
      day = subst (λ us. day_of settings_of uses_of sheet ≡ after takes (ruled 1440 s us) calls) built.uses told.day;
      promise = subst (λ us. Promise takes means 1440 s us calls (shown_of sheet)) built.uses told.promise;
      refused = subst (λ us. FirstRefused takes (ruled 1440 s us) calls c.in_ok-played.played.told.refused) built.uses told.refused;
    }
