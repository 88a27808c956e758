-- What a reading in code holds.
use Rattle.std.specs.Prelude.{map, vec_items}
use Rattle.daytables.specs.Rows.{entry_of}
use Rattle.dayfile.specs.Reading.{Read}
use Rattle.dayfile.specs.declared.reading.Reading.{Reading}

abbrev pub read_of : Reading → Read
read_of x = record { bunkers = vec_items x.bunkers; labels = map (λ x. x.now) (vec_items x.labels); calls = map entry_of (vec_items x.calls); places = vec_items x.places; fault = x.fault }
