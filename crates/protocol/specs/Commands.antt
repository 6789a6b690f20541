-- What a line of the protocol asks. Assumes nothing.
use Rattle.std.specs.Prelude.{ℕ, cond, ◌||◌, List, Some, None, codes, Ok, Err, Result, Option}
use Rattle.std.specs.Str.{bytes_eq}
use Rattle.lines.specs.Line.{blank, comment}
use Rattle.lines.specs.Split.{word_of, rest_of}
use Rattle.protocol.specs.declared.asked.Form.{Form}
use Rattle.protocol.specs.declared.asked.Form.TheVariants.{SemVer}
use Rattle.protocol.specs.declared.asked.Command.{Command}
use Rattle.protocol.specs.declared.asked.Command.TheVariants.{New, Parse, Compare}
use Rattle.protocol.specs.declared.asked.BadCommand.{BadCommand}

-- a command with its fields: nothing is asked, nothing that is known, or one of the commands
pub data Asked : Type 0 where
  silent : Asked
  bad : Asked
  new : Form → List ℕ → Asked
  parse : Form → List ℕ → Asked
  compare : Form → List ℕ → List ℕ → Asked

-- a command, or none that is known
abbrev pub found : Result Command BadCommand → Asked
found (Ok (New form hex)) = new form hex.now
found (Ok (Parse form hex)) = parse form hex.now
found (Ok (Compare form first second)) = compare form first.now second.now
found (Err e) = bad

abbrev pub asked : Option (Result Command BadCommand) → Asked
asked None = silent
asked (Some r) = found r

abbrev pub form_of : List ℕ → Option Form
form_of word = cond (bytes_eq word (codes "semver")) (Some SemVer) None

-- a form and what stands behind it
abbrev pub with_form : Option Form → (Form → Asked) → Asked
with_form None f = bad
with_form (Some form) f = f form

abbrev pub new_of : List ℕ → Asked
new_of fields = with_form (form_of (word_of fields)) (λ form. new form (rest_of fields))

abbrev pub parse_of : List ℕ → Asked
parse_of fields = with_form (form_of (word_of fields)) (λ form. parse form (rest_of fields))

abbrev pub compare_of : List ℕ → Asked
compare_of fields = with_form (form_of (word_of fields)) (λ form. compare form (word_of (rest_of fields)) (rest_of (rest_of fields)))

-- by the first word
abbrev pub known_of : List ℕ → List ℕ → Asked
known_of word fields =
    cond (bytes_eq word (codes "new")) (new_of fields)
    (cond (bytes_eq word (codes "parse")) (parse_of fields)
    (cond (bytes_eq word (codes "cmpf")) (compare_of fields) bad))

abbrev pub command_of : List ℕ → Asked
command_of line = cond (blank line || comment line) silent (known_of (word_of line) (rest_of line))
