use Rattle.std.proofs.Common.{Ok, ap, sym, arith}
use Rattle.row_formats.specs.Sets.{set_of_word}
use Rattle.row_formats.proofs.Words.{word_back}
use Rattle.row_formats.proofs.reader.Reader.set.Goals as goal

pub returns : goal.returns
returns c =
    rw c.in_ok-word.ensures (ap (λ s. Ok (s, c.u64.new.self)) (sym (c.from_bits.ensures.same (set_of_word c.in_ok-word.word) (word_back c.in_ok-word.word (omega arith)))))
