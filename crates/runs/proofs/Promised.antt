-- The promise over runs, from what the sheet shows after the calls.
use Rattle.std.proofs.Common.{◌≡◌, ℕ, ◌≤◌, List, None, arith}
use Rattle.model.specs.Meanings.{Lawful}
use Rattle.model.specs.Uses.{Uses}
use Rattle.runs.proofs.Afters.{held_ruled, held_after, horizon_kept, settings_kept}
use Rattle.runs.proofs.Keeping.{kept}
use Rattle.runs.proofs.Standing.{slips_told, uses_told}
use Rattle.runs.specs.Days.{Day, Takes, ruled, after}
use Rattle.runs.specs.Held.{Held}
use Rattle.runs.specs.Promise.{Promise}
use Rattle.runs.specs.Runs.{Settled}
use Rattle.runs.specs.Shown.{Shown, Means, Shows}
use Rattle.runs.specs.declared.calls.Call.{Call}

module _ {S : Type 0} (takes : Takes S) (means : Means S) (h : ℕ) (s : S) (us : Uses) (calls : List Call) (shown : Shown) where
  abbrev reached : Day S
  reached = after takes (ruled h s us) calls

  pub promise : ((t : S) (vs : Uses) → Lawful vs (means t vs)) → h ≤ 10080 → ((place k : ℕ) → us place k ≡ None) → (Settled takes (ruled h s us) calls → Shows means reached shown) → Promise takes means h s us calls shown
  promise laws near no_use shows =
      let hours = horizon_kept takes (ruled h s us) calls in
      let held : Held reached = held_after takes (ruled h s us) calls (held_ruled h s us no_use) in
      record {
        slips = slips_told takes h s us calls;
        uses = uses_told takes h s us calls no_use;
        horizon = hours;
        settings = settings_kept takes (ruled h s us) calls;
        shows = shows;
        kept = λ settled. kept takes means reached shown (laws reached.settings reached.uses) (omega arith) held.some held.uses held.slips (shows settled);
      }
