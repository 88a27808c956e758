use Rattle.std.proofs.Common.{◌≡◌, ℕ, ◌+◌, cond, not, List, [], ◌∷◌, map, refl, ap, Bor, rules, tests}
use Rattle.std.proofs.lemmas.Iterator.{YieldsList-from_slice}
use Rattle.std.proofs.lemmas.Iterator.Search.{position_from_yields_List}
use Rattle.std.proofs.lemmas.List.{length-map}
use Rattle.std.specs.List.{position_or_len}
use Rattle.std.specs.Str.{bytes_eq}
use Rattle.daytables.proofs.labels.point_of.Goals as goal

position_or_len-map : (labels : List (Bor (List ℕ))) (word : List ℕ) → position_or_len (λ l. bytes_eq l word) (map (λ x. x.now) labels) ≡ position_or_len (λ l. bytes_eq l.now word) labels
position_or_len-map [] word = refl
position_or_len-map (l ∷ ls) word = ap (λ n. cond (not (bytes_eq l.now word)) (1 + n) 0) (position_or_len-map ls word)

pub returns : goal.returns
returns c =
    simp (position_or_len-map, length-map)
    (position_from_yields_List (λ l. bytes_eq l.now c.args.word.now) _ _ c.position.result c.position.ensures.ran (YieldsList-from_slice c.args.labels.now cc) (λ x b q k. search (rules, tests)))
