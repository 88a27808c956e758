use Rattle.std.proofs.lemmas.List.{append_assoc}
use Rattle.texts.proofs.Cuts.{cut_front}
use Rattle.output.proofs.writing.push_verdict.Goals as goal

pub returns : goal.returns
returns c = simp (c.push-2.ensures, c.push_unsigned.ensures, c.push.ensures, c.push_bytes-2.ensures, c.word_of.ensures, c.push_bytes.ensures, cut_front, append_assoc)
