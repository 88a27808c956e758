-- The worked days. Point 0 of each is opening; the points behind it are numbered in the order of their labels.
use Rattle.std.specs.Prelude.{ℕ, List, [], ◌∷◌, ◌++◌, ℤ, pos, codes, Option, Result}
use Rattle.std.specs.Int.Signed.{le_z_yes}
use Rattle.model.specs.declared.moments.Moment.{Moment}
use Rattle.model.specs.declared.refusals.Refusal.{Refusal}
use Rattle.model.specs.declared.slips.Distance.{Distance}
use Rattle.model.specs.declared.slips.Use.{Use}
use Rattle.bunker_laws.specs.Bunkers.{meaning}
use Rattle.bunker_laws.specs.declared.settings.Settings.{Settings}
use Rattle.runs.specs.Days.{Day}
use Rattle.runs.specs.Shown.{Shown, Means, look_levels}
use Rattle.weighbridge_laws.specs.Weighbridges as bridges
use Rattle.worked_days.specs.Forms.{minus, slip, window, exactly, use_of, day}

abbrev pub bunker : Means Settings
bunker = meaning

-- the highest and the lowest level at the one place of a bunker
abbrev pub levels_at : Day Settings → Shown → Moment → Result (Option (ℤ × ℤ)) Refusal
levels_at d shown x = look_levels (λ _. 1) bunker d shown 0 x

-- a weighbridge has no settings
abbrev pub weighbridge : Means Unit
weighbridge _ us = bridges.meaning us

-- ---- distances alone, at a weighbridge without uses

abbrev pub day_a : Day Unit
day_a = day [] [] tt []

-- points 1 and 2, with 2 at most d minutes after 1 and at least one minute
abbrev pub slips_b : ℤ → List Distance
slips_b d = slip 1 2 d ∷ slip 2 1 (minus 1) ∷ []

abbrev pub labels_b : List (List ℕ)
labels_b = codes "p1" ∷ codes "p2" ∷ []

abbrev pub day_b : ℤ → Day Unit
day_b d = day labels_b (slips_b d) tt []

-- ---- an empty bunker, to which p brings 400 kilos and from which r takes them: p is point 1, and r point 2

abbrev pub labels_c : List (List ℕ)
labels_c = codes "p" ∷ codes "r" ∷ []

abbrev pub empty_bunker : Settings
empty_bunker = record { floor = pos 0; roof = pos 1000; start = pos 0; low = le_z_yes tt; above_floor = le_z_yes tt; below_roof = le_z_yes tt; high = le_z_yes tt }

abbrev pub uses_c : List Use
uses_c = use_of 1 1 (pos 400) ∷ use_of 2 2 (minus 400) ∷ []

-- the day with these slips
abbrev pub day_of400 : List Distance → Day Settings
day_of400 slips = day labels_c slips empty_bunker uses_c

abbrev pub slips_c : List Distance
slips_c = window 1 0 50 ++ window 2 20 60

abbrev pub slips_d : List Distance
slips_d = window 1 20 50 ++ window 2 0 20

abbrev pub slips_e : List Distance
slips_e = window 1 21 50 ++ window 2 0 20

abbrev pub day_c : Day Settings
day_c = day_of400 slips_c

abbrev pub day_d : Day Settings
day_d = day_of400 slips_d

abbrev pub day_e : Day Settings
day_e = day_of400 slips_e

-- ---- two loans of the one kilo of a bunker: from opening to point 1, at minute 10; and from a to b, ten minutes later. a is point 2,
-- and b point 3.

abbrev pub labels_f : List (List ℕ)
labels_f = codes "ten" ∷ codes "a" ∷ codes "b" ∷ []

abbrev pub one_kilo : Settings
one_kilo = record { floor = pos 0; roof = pos 1; start = pos 1; low = le_z_yes tt; above_floor = le_z_yes tt; below_roof = le_z_yes tt; high = le_z_yes tt }

abbrev pub slips_f : List Distance
slips_f = window 1 10 10 ++ (window 2 5 30 ++ exactly 2 3 10)

abbrev pub uses_f : List Use
uses_f = use_of 0 1 (pos 1) ∷ use_of 2 3 (pos 1) ∷ []

abbrev pub day_f : Day Settings
day_f = day labels_f slips_f one_kilo uses_f

-- ---- deliveries of 300 and -300 at p, and of -1 at r

abbrev pub almost_full : Settings
almost_full = record { floor = pos 0; roof = pos 1000; start = pos 900; low = le_z_yes tt; above_floor = le_z_yes tt; below_roof = le_z_yes tt; high = le_z_yes tt }

abbrev pub uses_g : List Use
uses_g = use_of 1 1 (pos 300) ∷ use_of 1 1 (minus 300) ∷ use_of 2 2 (minus 1) ∷ []

abbrev pub day_g : Day Settings
day_g = day labels_c [] almost_full uses_g

-- ---- two crossings of a weighbridge: from opening to point 1, at minute 10; and from b, which is point 2, to point 3, five minutes
-- later

abbrev pub labels_h : List (List ℕ)
labels_h = codes "ten" ∷ codes "b" ∷ codes "off" ∷ []

abbrev pub slips_h : List Distance
slips_h = window 1 10 10 ++ (window 2 5 30 ++ exactly 2 3 5)

abbrev pub uses_h : List Use
uses_h = use_of 0 1 (pos 0) ∷ use_of 2 3 (pos 0) ∷ []

abbrev pub day_h : Day Unit
day_h = day labels_h slips_h tt uses_h

-- ---- deliveries of 400 at p, at minute 20, and at q, at minute 30, and of -400 at r: p is point 1, q point 2, and r point 3

abbrev pub labels_i : List (List ℕ)
labels_i = codes "p" ∷ codes "q" ∷ codes "r" ∷ []

abbrev pub slips_i : List Distance
slips_i = window 1 20 20 ++ (window 2 30 30 ++ window 3 0 60)

abbrev pub uses_i : List Use
uses_i = use_of 1 1 (pos 400) ∷ use_of 2 2 (pos 400) ∷ use_of 3 3 (minus 400) ∷ []

abbrev pub day_i : Day Settings
day_i = day labels_i slips_i empty_bunker uses_i

-- ---- a full bunker: p brings a kilo at minute 10, q takes one at minute 20, and a loan of one goes from a to b. p is point 1, q point 2,
-- a point 3, and b point 4.

abbrev pub labels_j : List (List ℕ)
labels_j = codes "p" ∷ codes "q" ∷ codes "a" ∷ codes "b" ∷ []

abbrev pub slips_j : List Distance
slips_j = window 1 10 10 ++ (window 2 20 20 ++ (window 3 0 30 ++ window 4 0 30))

abbrev pub uses_j : List Use
uses_j = use_of 1 1 (pos 1) ∷ use_of 2 2 (minus 1) ∷ use_of 3 4 (pos 1) ∷ []

abbrev pub day_j : Day Settings
day_j = day labels_j slips_j one_kilo uses_j

-- ---- one use from a to b, a crossing or a loan: a is point 1, and b point 2

abbrev pub labels_k : List (List ℕ)
labels_k = codes "a" ∷ codes "b" ∷ []

abbrev pub slips_k : List Distance
slips_k = window 1 5 30

abbrev pub uses_k : ℤ → List Use
uses_k kilos = use_of 1 2 kilos ∷ []

abbrev pub crossing_k : Day Unit
crossing_k = day labels_k slips_k tt (uses_k (pos 0))

abbrev pub loan_k : Day Settings
loan_k = day labels_k slips_k one_kilo (uses_k (pos 1))

-- ---- two loans of the one kilo: from opening to b, and from minute 10 to minute 20. b is point 1; points 2 and 3 are held at these
-- minutes.

abbrev pub labels_l : List (List ℕ)
labels_l = codes "b" ∷ codes "ten" ∷ codes "twenty" ∷ []

abbrev pub slips_l : List Distance
slips_l = window 1 5 30 ++ (window 2 10 10 ++ window 3 20 20)

abbrev pub uses_l : List Use
uses_l = use_of 0 1 (pos 1) ∷ use_of 2 3 (pos 1) ∷ []

abbrev pub day_l : Day Settings
day_l = day labels_l slips_l one_kilo uses_l
