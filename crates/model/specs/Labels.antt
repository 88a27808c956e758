-- Which texts are labels, and the text of a label.
use Rattle.std.specs.Prelude.{ℕ, Bool, ◌&&◌, List, length, take, nat_le}
use Rattle.std.specs.List.{list_all}
use Rattle.model.specs.Bytes.{label_byte}
use Rattle.model.specs.declared.labels.Label.{Label}

-- 1 to 8 bytes, each a-z or 0-9
abbrev pub is_label : List ℕ → Bool
is_label text = (nat_le 1 (length text) && nat_le (length text) 8) && list_all label_byte text

abbrev pub text_of : Label → List ℕ
text_of l = take l.len l.bytes
