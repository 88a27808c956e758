use Rattle.std.proofs.Common.{◌≡◌, ℕ, List, [], ◌++◌, ◌∙◌, ap, sym, take, le_refl, IfSome, OnOk, Ok, Err, Some, None, Option, Result, true, is_ok}
use Rattle.std.proofs.lemmas.Bool.{false≢true}
use Rattle.std.proofs.lemmas.List.{take-take}
use Rattle.std.specs.Option.{option_map}
use Rattle.dayfolder.proofs.folders.read_capped.Goals as goal

-- what is kept of bytes that are the first of those that a reader tells
kept : {E : Type 0} (known : Option (List ℕ)) (r : Result ℕ E) (old bytes new : List ℕ) → true ≡ is_ok r → old ≡ [] → OnOk r (IfSome (option_map (take 65537) known) (λ xs. bytes ≡ old ++ xs)) → new ≡ take 65537 bytes → IfSome known (λ xs. new ≡ take 65537 xs)
kept None r old bytes new ok empty read cut = tt
kept (Some xs) (Ok n) old bytes new ok empty read cut = cut ∙ (ap (take 65537) (read ∙ ap (λ ys. ys ++ take 65537 xs) empty) ∙ take-take 65537 65537 xs (le_refl 65537))
kept (Some xs) (Err e) old bytes new ok empty read cut = absurd (false≢true (sym ok))

pub returns-clause-bytes : goal.returns-clause-bytes
returns-clause-bytes g c =
    kept (g.R.Read.remaining c.args.reader) c.read_to_end.result _ _ _ c.in_ok-ok.ensures.variant c.new-bytes.ensures.items
    (rw (← c.take.ensures.limit, ← c.take.ensures.inner) c.read_to_end.ensures.bytes)
    c.truncate.ensures.items
