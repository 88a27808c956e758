-- The bytes of a text.
use Rattle.std.specs.Prelude.{ℕ, List, take}

-- as many of the bytes as a text holds, from the first on
unfoldable pub cut : List ℕ → List ℕ
cut bs = take 1536 bs
