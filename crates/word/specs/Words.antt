-- What a Word says. Assumes nothing.
use Rattle.std.specs.Prelude.{ℕ, List, [], ◌++◌, Some, None, decimal, Option}
use Rattle.word.specs.declared.Word.{Word}

-- the decimal digits of a number that may be absent
abbrev pub written : Option ℕ → List ℕ
written None = []
written (Some n) = decimal n

-- the bytes of a Word
abbrev pub word_of : Word → List ℕ
word_of w = written w.front ++ (w.middle.now ++ written w.back)
