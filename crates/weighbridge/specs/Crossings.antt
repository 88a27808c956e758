-- What a table tells of one crossing, or of one and those before it.
use Rattle.std.specs.Prelude.{◌≡◌, ℕ, ◌⊎◌, List, map, ℤ, pos, ◌≤ℤ◌, ◌<ℤ◌}
use Rattle.model.specs.Plans.{View}
use Rattle.model.specs.Uses.{In}
use Rattle.model.specs.declared.slips.Use.{Use}
use Rattle.register.specs.Lookups.{what_of}
use Rattle.register.specs.declared.records.Numbered.{Numbered}

-- the uses of numbered records
abbrev pub uses_of : List (Numbered Use) → List Use
uses_of xs = map what_of xs

-- b begins before a has ended
abbrev pub Early : View → Use → Use → Type 0
Early m a b = m.at a.last b.first <ℤ pos 0

-- each of the two begins before the other has ended
abbrev pub Overlap : View → Use → Use → Type 0
Overlap m a b = Early m a b × Early m b a

-- b overlaps one of the others
abbrev pub OverlapsOne : View → List Use → Use → Type 0
OverlapsOne m us b = (a : Use) × In a us × Overlap m a b

-- b ends before it begins, or overlaps one of the others
abbrev pub Conflicts : View → List Use → Use → Type 0
Conflicts m us b = (m.at b.first b.last <ℤ pos 0) ⊎ OverlapsOne m us b

-- one of the two is over when the other begins
abbrev pub Apart : View → Use → Use → Type 0
Apart m a b = (m.at b.first a.last ≤ℤ pos 0) ⊎ (m.at a.first b.last ≤ℤ pos 0)

-- b is apart from each of the others
abbrev pub ApartFromAll : View → List Use → Use → Type 0
ApartFromAll m us b = (a : Use) → In a us → Apart m a b

-- b ends no earlier than it begins, and is apart from all the others
abbrev pub Clear : View → List Use → Use → Type 0
Clear m us b = (m.at b.last b.first ≤ℤ pos 0) × ApartFromAll m us b

-- if b begins before a has ended: b ends by the time that a begins
abbrev pub Turn : View → Use → Use → ℕ → ℕ → ℤ → Type 0
Turn m a b i j c = Early m a b × (i ≡ a.first) × (j ≡ b.last) × (c ≡ pos 0)

-- b and one of the others, in either order
abbrev pub Turns : View → List Use → Use → ℕ → ℕ → ℤ → Type 0
Turns m us b i j c = (a : Use) × In a us × (Turn m a b i j c ⊎ Turn m b a i j c)

-- b ends no earlier than it begins, and takes its turns with the others
abbrev pub Precedence : View → List Use → Use → ℕ → ℕ → ℤ → Type 0
Precedence m us b i j c = ((i ≡ b.last) × (j ≡ b.first) × (c ≡ pos 0)) ⊎ Turns m us b i j c
