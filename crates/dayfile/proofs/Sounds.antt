-- Every reading keeps a place for each call, and has two bunkers unless there is a fault.
use Rattle.std.proofs.Common.{◌≡◌, ℕ, ◌+◌, Bool, true, false, cond, eqb, List, [], ◌∷◌, length, take, drop, Some, None, Ok, Err, Option, Result, IfOk, refl, ap, ◌∙◌}
use Rattle.std.proofs.lemmas.List.{length_push}
use Rattle.std.specs.Str.{bytes_eq}
use Rattle.dayline.specs.Parts.{lines_of}
use Rattle.model.specs.declared.refusals.Refusal.{Refusal}
use Rattle.model.specs.declared.refusals.Refusal.TheVariants.{LineNotDue}
use Rattle.daytables.specs.Rows.{floor_row, label_row, slip_row, place_row, ok_map}
use Rattle.daytables.specs.Tables.{Said, nothing, makes, names, posts, Came, came, names_of, names_due, filled, closed_or, takes, may_end}
use Rattle.daytables.specs.declared.due.Due.{Due}
use Rattle.daytables.specs.declared.due.Due.TheVariants.{FloorNames, FirstBunker, SecondBunker, FloorEnd, LabelNames, LabelRows, SlipNames, SlipRows, PlaceNames, PlaceRows, FileEnd}
use Rattle.daytables.specs.declared.due.Table.{Table}
use Rattle.daytables.specs.declared.due.Table.TheVariants as table
use Rattle.daytables.specs.declared.due.Table.TheVariants.{Floor, Label, Slip}
use Rattle.daytables.specs.declared.faults.LineFault.{LineFault}
use Rattle.daytables.specs.declared.faults.LineFault.TheVariants.{NotDue}
use Rattle.dayfile.specs.Files.{place_at, outcome}
use Rattle.dayfile.specs.Reading.{Read, unread, noted, refused, line_read, read_from, unless_fault, go_on, read_lines, if_readable, reads, Sound}
use Rattle.dayfile.specs.declared.faults.DayFile.{DayFile}
use Rattle.dayfile.specs.declared.faults.DayFile.TheVariants.{Bridge, Hall}
use Rattle.dayfile.specs.declared.faults.Fault.{Fault}
use Rattle.dayfile.specs.declared.faults.Place.{Place}

-- ---- how many bunkers there are where something is due

abbrev bunkers_at : Due → ℕ
bunkers_at FloorNames = 0
bunkers_at FirstBunker = 0
bunkers_at SecondBunker = 1
bunkers_at _ = 2

abbrev one_more : Said → ℕ → ℕ
one_more (makes b) n = n + 1
one_more _ n = n

ok_cond : {A : Type 0} (P : A → Type 0) (b : Bool) (x y : Result A LineFault) → IfOk x P → IfOk y P → IfOk (cond b x y) P
ok_cond P true x y h k = h
ok_cond P false x y h k = k

ok_map_holds : {A B : Type 0} (P : B → Type 0) (f : A → B) (r : Result A LineFault) → ((x : A) → P (f x)) → IfOk (ok_map f r) P
ok_map_holds P f (Ok x) h = h x
ok_map_holds P f (Err why) h = tt

-- a line leaves as many bunkers as what is due after it asks for
abbrev Counts : Due → Came → Type 0
Counts due c = one_more c.said (bunkers_at due) ≡ bunkers_at c.next

names_count : (due : Due) (table : Table) (next : Due) (l : List ℕ) → bunkers_at due ≡ bunkers_at next → IfOk (names_due table next l) (Counts due)
names_count due table next l e = ok_cond (Counts due) (bytes_eq l (names_of table)) (Ok (came next nothing)) (Err NotDue) e tt

bunker_counts : (due next : Due) (l : List ℕ) → bunkers_at due + 1 ≡ bunkers_at next → IfOk (filled l (ok_map (λ b. came next (makes b)) (floor_row l))) (Counts due)
bunker_counts due next l e = ok_cond (Counts due) (eqb (length l) 0) (Err NotDue) (ok_map (λ b. came next (makes b)) (floor_row l)) tt (ok_map_holds (Counts due) (λ b. came next (makes b)) (floor_row l) (λ b. e))

closed_counts : {A : Type 0} (due next : Due) (l : List ℕ) (f : A → Came) (row : Result A LineFault) → bunkers_at due ≡ bunkers_at next → ((x : A) → Counts due (f x)) → IfOk (closed_or next l (ok_map f row)) (Counts due)
closed_counts due next l f row e h = ok_cond (Counts due) (eqb (length l) 0) (Ok (came next nothing)) (ok_map f row) e (ok_map_holds (Counts due) f row h)

counts : (due : Due) (labels : List (List ℕ)) (l : List ℕ) → IfOk (takes due labels l) (Counts due)
counts FloorNames labels l = names_count FloorNames Floor FirstBunker l refl
counts FirstBunker labels l = bunker_counts FirstBunker SecondBunker l refl
counts SecondBunker labels l = bunker_counts SecondBunker FloorEnd l refl
counts FloorEnd labels l = ok_cond (Counts FloorEnd) (eqb (length l) 0) (Ok (came FileEnd nothing)) (Err NotDue) refl tt
counts LabelNames labels l = names_count LabelNames Label LabelRows l refl
counts LabelRows labels l = closed_counts LabelRows SlipNames l _ (label_row l) refl (λ w. refl)
counts SlipNames labels l = names_count SlipNames Slip SlipRows l refl
counts SlipRows labels l = closed_counts SlipRows FileEnd l _ (slip_row labels l) refl (λ e. refl)
counts PlaceNames labels l = names_count PlaceNames table.Place PlaceRows l refl
counts PlaceRows labels l = closed_counts PlaceRows FileEnd l _ (place_row labels l) refl (λ e. refl)
counts FileEnd labels l = tt

two_at_end : (due : Due) → may_end due ≡ true → bunkers_at due ≡ 2
two_at_end FloorNames e = cc
two_at_end FirstBunker e = cc
two_at_end SecondBunker e = cc
two_at_end _ e = refl

noted_bunkers : (at : Place) (said : Said) (r : Read) → length (noted at said r).bunkers ≡ one_more said (length r.bunkers)
noted_bunkers at (makes b) r = length_push r.bunkers b
noted_bunkers at _ r = refl

-- ---- each call has its place

abbrev Placed : Read → Type 0
Placed r = length r.places ≡ length r.calls

placed_noted : (at : Place) (said : Said) (r : Read) → Placed r → Placed (noted at said r)
placed_noted at nothing r h = h
placed_noted at (makes b) r h = h
placed_noted at (names word) r h = simp length_push (ap (λ n. n + 1) h)
placed_noted at (posts e) r h = simp length_push (ap (λ n. n + 1) h)

-- ---- both, from line to line

refused_sound : (at : Place) (why : Refusal) (r : Read) → Placed r → Sound (refused at why r)
refused_sound at why r p = record { placed = p; two = λ e. cc }

end_sound : (b : Bool) (at : Place) (r : Read) → Placed r → (b ≡ true → length r.bunkers ≡ 2) → Sound (cond b r (refused at LineNotDue r))
end_sound true at r p h = record { placed = p; two = λ e. h refl }
end_sound false at r p h = refused_sound at LineNotDue r p

line_sound : (due : Due) (at : Place) (r : Read) (next : Came → Read) (res : Result Came LineFault) → Placed r → IfOk res (Counts due) → ((c : Came) → Counts due c → Sound (next c)) → Sound (line_read at r next res)
line_sound due at r next (Ok c) p h k = k c h
line_sound due at r next (Err why) p h k = refused_sound at _ r p

from_sound : (file : DayFile) (due : Due) (n : ℕ) (ls : List (List ℕ)) (r : Read) → Placed r → length r.bunkers ≡ bunkers_at due → Sound (read_from file due n ls r)
unfolding read_from
from_sound file due n [] r p b = end_sound (may_end due) (place_at file n) r p (λ e. b ∙ two_at_end due e)
from_sound file due n (l ∷ ls) r p b =
    line_sound due (place_at file n) r _ (takes due r.labels l) p (counts due r.labels l)
    (λ c h.
    from_sound file c.next (n + 1) ls (noted (place_at file n) c.said r) (placed_noted (place_at file n) c.said r p)
    (noted_bunkers (place_at file n) c.said r ∙ (ap (one_more c.said) b ∙ h)))

unless_sound : (o : Option Fault) (r further : Read) → r.fault ≡ o → Sound r → (length r.bunkers ≡ 2 → Sound further) → Sound (unless_fault o r further)
unless_sound None r further e s k = k (s.two e)
unless_sound (Some f) r further e s k = s

go_sound : (r : Read) (next : Read → Read) → Sound r → (Placed r → length r.bunkers ≡ 2 → Sound (next r)) → Sound (go_on r next)
go_sound r next s k = unless_sound r.fault r (next r) refl s (k s.placed)

lines_sound : (bridge hall : List (List ℕ)) → Sound (read_lines bridge hall)
unfolding read_lines
lines_sound bridge hall =
    let floor = read_from Hall FloorNames 1 (take 4 hall) (unread None) in
    let points = go_on floor (read_from Bridge LabelNames 1 bridge) in
    go_sound points (read_from Hall PlaceNames (length (take 4 hall) + 1) (drop 4 hall))
    (go_sound floor (read_from Bridge LabelNames 1 bridge) (from_sound Hall FloorNames 1 (take 4 hall) (unread None) refl refl) (from_sound Bridge LabelNames 1 bridge floor))
    (from_sound Hall PlaceNames (length (take 4 hall) + 1) (drop 4 hall) points)

if_sound : (r : Result (Unit {0}) Fault) (read : Read) → Sound read → Sound (if_readable r read)
if_sound (Ok x) read s = s
if_sound (Err fault) read s = record { placed = refl; two = λ e. cc }

pub reads_sound : (bridge hall : List ℕ) → Sound (reads bridge hall)
reads_sound bridge hall = if_sound (outcome (Some bridge) (Some hall)) _ (lines_sound (lines_of bridge) (lines_of hall))
