use Rattle.std.proofs.Common.{◌≡◌, Some, refl, ◌∙◌, subst, rules}
use Rattle.std.proofs.lemmas.Result.{err_from_is_err_and, MatchResult-at_ok, MatchResult-at_err}
use Rattle.register.specs.Standing.{stands}
use Rattle.sheet.specs.Sheets.{slip_refusal}
use Rattle.sheet.proofs.CallEnds.{turned, vec_len-labels}
use Rattle.sheet.proofs.Postings.{posted_held, slip_stopped, slip_taken, slip_left}
use Rattle.sheet.proofs.Tables.{nothing_whole}
use Rattle.sheet.proofs.sheets.Sheet.post_distance.Goals as goal

pub returns-in_err-check_distance : goal.returns-in_err-check_distance
returns-in_err-check_distance g c =
    let p = err_from_is_err_and c.from_residual.result c.from_residual.ensures.1 in
    rw (p.1, p.2) (slip_stopped _ _ _ _ _ _ (c.len.ensures ∙ vec_len-labels c.args.self.now.labels) _ c.in_err-check_distance.ensures)

pub returns-in_err-map_err : goal.returns-in_err-map_err
returns-in_err-map_err g c =
    let p = err_from_is_err_and c.from_residual-in_err-map_err.result c.from_residual-in_err-map_err.ensures.1 in
    let w = MatchResult-at_err _ _ _ c.in_err-map_err.was (turned _ _ _ slip_refusal (λ e d h. search rules) c.insert.result c.map_err.result c.insert.ensures c.map_err.ensures.cases) in
    rw (p.1, p.2, w.2) (slip_left _ _ _ _ _ _ (c.len.ensures ∙ vec_len-labels c.args.self.now.labels) _ _ refl c.in_ok-check_distance.ensures w.0 w.1.0 w.1.1)

pub returns : goal.returns
returns g c =
    let w = MatchResult-at_ok _ _ _ c.in_ok-map_err.was (turned _ _ _ slip_refusal (λ e d h. search rules) c.insert.result c.map_err.result c.insert.ensures c.map_err.ensures.cases) in
    slip_taken _ _ _ _ _ _ (c.len.ensures ∙ vec_len-labels c.args.self.now.labels) _ _ refl c.in_ok-check_distance.ensures w

pub invariant_of-self : goal.invariant_of-self
invariant_of-self g c =
    let x = c.args.self.now in
    let w = MatchResult-at_err _ _ _ c.in_err-map_err.was (turned _ _ _ slip_refusal (λ e d h. search rules) c.insert.result c.map_err.result c.insert.ensures c.map_err.ensures.cases) in
    record {
      ahead = x.ahead;
      near = x.near;
      opened = x.opened;
      few = x.few;
      room = x.room;
      from_held = λ k s e. x.from_held k s (subst (λ r. stands r k ≡ Some s) w.1.1 e);
      to_held = λ k s e. x.to_held k s (subst (λ r. stands r k ≡ Some s) w.1.1 e);
      whole = x.whole;
    }

pub invariant_of-self-2 : goal.invariant_of-self-2
invariant_of-self-2 g c =
    let x = c.args.self.now in
    let w = MatchResult-at_ok _ _ _ c.in_ok-map_err.was (turned _ _ _ slip_refusal (λ e d h. search rules) c.insert.result c.map_err.result c.insert.ensures c.map_err.ensures.cases) in
    let held = posted_held _ _ _ _ _ (stands x.slips) (stands c.insert.new.self) c.len.ensures c.in_ok-check_distance.ensures w.after (λ k s e. (x.from_held k s e, x.to_held k s e)) in
    record {
      ahead = x.ahead;
      near = x.near;
      opened = x.opened;
      few = x.few;
      room = x.room;
      from_held = λ k s e. (held k s e).0;
      to_held = λ k s e. (held k s e).1;
      whole = nothing_whole _;
    }
