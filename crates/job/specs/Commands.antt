-- What a line of a job asks. Assumes nothing.
use Rattle.std.specs.Prelude.{ℕ, ◌-◌, Some, None, Option, cond, List, length, take, codes, ◌==◌, slice_index}
use Rattle.std.specs.Str.{bytes_eq}
use Rattle.lines.specs.Line.{blank, comment as commented}
use Rattle.lines.specs.Split.{word_of, rest_of}
use Rattle.job.specs.declared.command.Command.{Command}
use Rattle.job.specs.declared.command.Command.TheVariants.{Comment, Label, Against, Unknown}

-- the line without one carriage return at its end
abbrev pub without_return : List ℕ → List ℕ
without_return line = cond (slice_index line (length line - 1) == 13) (take (length line - 1) line) line

-- a command by its texts
pub data Asked : Type 0 where
  nothing : Asked
  comment : Asked
  label : List ℕ → Asked
  against : List ℕ → List ℕ → Asked
  unknown : Asked

abbrev pub asked : Option Command → Asked
asked None = nothing
asked (Some Comment) = comment
asked (Some (Label text)) = label text.now
asked (Some (Against first second)) = against first.now second.now
asked (Some Unknown) = unknown

-- a command by its name and what stands behind it: the last text goes to the end of the line, an earlier one to the first blank
abbrev pub named_of : List ℕ → List ℕ → Asked
named_of word rest =
    cond (bytes_eq word (codes "label")) (label rest)
    (cond (bytes_eq word (codes "against")) (against (word_of rest) (rest_of rest)) unknown)

-- a line of blanks asks nothing, one that begins with a number sign is a comment, and any other begins with a command's name
abbrev pub command_of : List ℕ → Asked
command_of line = cond (blank line) nothing (cond (commented line) comment (named_of (word_of line) (rest_of line)))
