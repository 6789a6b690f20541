-- What a text that a reader takes holds. Assumes nothing.
use Rattle.std.specs.Prelude.{ℕ, List}
use Rattle.texts.specs.declared.text.Text.{Text}

abbrev pub bytes_of : Text → List ℕ
bytes_of t = t.bytes.now
