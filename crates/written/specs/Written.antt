-- How the parts of a label are written. Assumes nothing.
use Rattle.std.specs.Prelude.{◌≡◌, ℕ, Result, OnOk, cond, List, [], ◌∷◌, ◌++◌, Some, None, codes, decimal, Option, ◌==◌}
use Rattle.std.specs.List.{flat_map}
use Rattle.chunk.specs.Piece as piece
use Rattle.chunk.specs.Piece.{Piece}
use Rattle.standard.specs.Parts as standard
use Rattle.version.specs.Parts as version
use Rattle.version.specs.Parts.{LastPart, numeric, rc, post, alphanum}
use Rattle.mess.specs.declared.sep.Sep.{Sep}
use Rattle.mess.specs.Signs.{sep_byte}
use Rattle.mess.specs.Parts as mess
use Rattle.mess.specs.Parts.{MChunk, digits, rev, plain}
use Rattle.versioning.specs.First.{ideal, general, complex}
use Rattle.versioning.specs.Labels.{Parts}

-- a text is added to bytes, where memory suffices
abbrev pub Adds : {T E : Type 0} → Result T E → List ℕ → List ℕ → List ℕ → Type 0
Adds result before after text = OnOk result (after ≡ before ++ text)

-- a comma, but at the first place
abbrev pub comma_before : ℕ → List ℕ
comma_before i = cond (i == 0) [] (codes ",")

-- a list, joined by commas
abbrev pub list_text : {A : Type 0} → (A → List ℕ) → List A → List ℕ
list_text text [] = []
list_text text (x ∷ xs) = text x ++ flat_map (λ y. codes "," ++ text y) xs

-- a chunk of a Release or of a General
abbrev pub piece_text : Piece → List ℕ
piece_text (piece.numeric n) = codes "N:" ++ decimal n
piece_text (piece.alphanum s) = codes "A:" ++ s

abbrev pub pieces_text : List Piece → List ℕ
pieces_text xs = list_text piece_text xs

-- what may be absent
abbrev pub option_text : {A : Type 0} → (A → List ℕ) → Option A → List ℕ
option_text text None = codes "_"
option_text text (Some x) = text x

abbrev pub release_text : Option (List Piece) → List ℕ
release_text release = option_text pieces_text release

abbrev pub meta_text : Option (List ℕ) → List ℕ
meta_text meta = option_text (λ s. s) meta

-- what stands behind the numbers of an Ideal, and behind the Last of a General
abbrev pub tail_text : Option (List Piece) → Option (List ℕ) → List ℕ
tail_text release meta = codes ";" ++ release_text release ++ codes ";" ++ meta_text meta

abbrev pub numbers_text : ℕ → ℕ → ℕ → List ℕ
numbers_text major minor patch = decimal major ++ codes ";" ++ decimal minor ++ codes ";" ++ decimal patch

abbrev pub ideal_text : standard.Parts → List ℕ
ideal_text p = codes "semver;" ++ numbers_text p.major p.minor p.patch ++ tail_text p.release p.meta

abbrev pub epoch_text : Option ℕ → List ℕ
epoch_text epoch = option_text decimal epoch

abbrev pub last_text : LastPart → List ℕ
last_text (numeric n) = codes "N:" ++ decimal n
last_text (rc a s b) = codes "R:" ++ decimal a ++ codes ":" ++ s ++ codes ":" ++ decimal b
last_text (post a s) = codes "P:" ++ decimal a ++ codes ":" ++ s
last_text (alphanum s) = codes "A:" ++ s

abbrev pub general_text : version.Parts → List ℕ
general_text p = codes "version;" ++ epoch_text p.epoch ++ codes ";" ++ pieces_text p.chunks ++ codes ";" ++ last_text p.last ++ tail_text p.release p.meta

abbrev pub mchunk_text : MChunk → List ℕ
mchunk_text (digits n w) = codes "D:" ++ decimal n ++ codes ":" ++ w
mchunk_text (rev n w) = codes "R:" ++ decimal n ++ codes ":" ++ w
mchunk_text (plain w) = codes "P:" ++ w

abbrev pub level_text : List MChunk → List ℕ
level_text cs = list_text mchunk_text cs

-- a further level behind its sign
abbrev pub further_text : Sep × List MChunk → List ℕ
further_text l = codes ";" ++ sep_byte l.0 ∷ codes ";" ++ level_text l.1

abbrev pub complex_text : mess.Parts → List ℕ
complex_text p = codes "mess;" ++ level_text p.first ++ flat_map further_text p.further

abbrev pub parts_text : Parts → List ℕ
parts_text (ideal p) = ideal_text p
parts_text (general p) = general_text p
parts_text (complex p) = complex_text p
