-- What is written for a line. Assumes nothing.
use Rattle.std.specs.Prelude.{ℕ, cond, List, [], length, Ok, Err, Result, Some, None, Option, nat_le}
use Rattle.std.specs.Borrow.{Bor}
use Rattle.lines.specs.Hex.{unhexed}
use Rattle.protocol.specs.Commands.{Asked, silent, new, parse, compare, command_of}
use Rattle.lines.specs.Line.{comment}
use Rattle.protocol.specs.Commands as commands
use Rattle.protocol.specs.declared.answer.Answer.{Answer}
use Rattle.protocol.specs.declared.answer.Refusal.{Refusal}
use Rattle.protocol.specs.Answers.{Said, bad, said_in, new_answer, parse_answer, compare_answer}
use Rattle.replies.specs.Written.{line_of}

-- an answer beside the text in which its parts are
abbrev pub answered : Result (Bor (List ℕ) × Answer) Refusal → Said
answered (Ok (text, answer)) = said_in text.now (Ok answer)
answered (Err refusal) = said_in [] (Err refusal)

abbrev pub fitting : ℕ → Option (List ℕ) → Option (List ℕ)
fitting room None = None
fitting room (Some text) = cond (nat_le (length text) room) (Some text) None

-- the text that a field writes, if there is room for it
abbrev pub text_within : ℕ → List ℕ → Option (List ℕ)
text_within room hex = fitting room (unhexed hex)

-- a command whose field writes no text is none
abbrev pub with_text : Option (List ℕ) → (List ℕ → Said) → Said
with_text None f = bad
with_text (Some text) f = f text

-- what is written for a command, with room for each of two texts
abbrev pub reply : ℕ → ℕ → Asked → List ℕ
reply m n silent = []
reply m n commands.bad = line_of bad
reply m n (new form hex) = line_of (with_text (text_within m hex) (new_answer form))
reply m n (parse form hex) = line_of (with_text (text_within m hex) (parse_answer form))
reply m n (compare form first second) = line_of (with_text (text_within m first) (λ s. with_text (text_within n second) (λ t. compare_answer form s t)))

abbrev pub reply_to : ℕ → ℕ → List ℕ → List ℕ
reply_to m n line = reply m n (command_of line)

-- what is written for a line that is too long to be kept, by its first bytes
abbrev pub passed_over : List ℕ → List ℕ
passed_over front = cond (comment front) [] (line_of bad)
