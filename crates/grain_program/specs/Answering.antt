-- What comes of a connection, and what the program prints.
use Rattle.std.specs.Prelude.{◌≡◌, ℕ, ◌++◌, List, Option, Some, None, take, codes}
use Rattle.grain_supervise.specs.InMemory.{echo_text}
use Rattle.grain_program.specs.declared.answer.Answered.{Answered}
use Rattle.grain_program.specs.declared.answer.Answered.TheVariants as answered
use Rattle.grain_program.specs.declared.grain.GrainEnd.{GrainEnd}
use Rattle.grain_program.specs.declared.grain.GrainEnd.TheVariants as end
use Rattle.grain_program.specs.Stated.{text_of}

-- the echo of the text that the bytes of a connection state
abbrev pub IsEcho : List ℕ → List ℕ → Type 0
IsEcho bytes echo = (text : List ℕ) × (text_of bytes ≡ Some text) × (echo ≡ echo_text text)

-- what is written to a connection of these bytes, behind what was written before: the echo, nothing, or a part of the echo where the writing failed
abbrev pub GrainAnswers : List ℕ → List ℕ → Answered → Option (List ℕ) → Type 0
GrainAnswers bytes old answered.Echoed written = (echo : List ℕ) × IsEcho bytes echo × (written ≡ Some (old ++ echo))
GrainAnswers bytes old answered.NoText written = (text_of bytes ≡ None) × (written ≡ Some old)
GrainAnswers bytes old answered.ReadFailed written = written ≡ Some old
GrainAnswers bytes old answered.WriteFailed written = (echo : List ℕ) × IsEcho bytes echo × ((n : ℕ) × (written ≡ Some (old ++ take n echo)))

-- the line that says that connections are taken
abbrev pub ready_line : List ℕ
ready_line = codes "ready\n"

-- what is printed: that line, or a part of it where the printing failed
abbrev pub Prints : List ℕ → GrainEnd → Option (List ℕ) → Type 0
Prints old end.Done written = written ≡ Some (old ++ ready_line)
Prints old end.DoorFailed written = written ≡ Some (old ++ ready_line)
Prints old end.WriteFailed written = (n : ℕ) × (written ≡ Some (old ++ take n ready_line))
Prints old end.Memory written = written ≡ Some (old ++ ready_line)
