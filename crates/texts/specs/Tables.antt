-- What places and tables say of a text. Assumes nothing.
use Rattle.std.specs.Prelude.{◌≡◌, ℕ, ◌+◌, ◌<◌, ◌≤◌, cond, List, [], ◌∷◌, ◌++◌, length, take, replicate, Some, None, Option, nat_lt, slice_index_or, slice_set}
use Rattle.std.specs.List.{between}
use Rattle.texts.specs.declared.table.Span.{Span}
use Rattle.texts.specs.declared.table.Rows.{Rows}

-- the bytes of a span, as far as the text goes
abbrev pub bytes_in : List ℕ → Span → List ℕ
bytes_in text s = between s.from s.to text

-- the rows of a table: the first of its room, as many as it says
abbrev pub rows_of : {T : Type 0} → Rows T → List T
rows_of t = take t.count t.rows

-- one row more at the end, where there is room for 64
abbrev pub with_row : {T : Type 0} → List T → T → List T
with_row rows x = cond (nat_lt (length rows) 64) (rows ++ x ∷ []) rows

-- a table of no rows: its room filled
abbrev pub blank_rows : {T : Type 0} → T → Rows T
blank_rows x = record { rows = replicate 64 x; count = 0 }

-- a table with one row more, where there is room: the rest of the room stays, and a full table is the same
abbrev pub pushed : {T : Type 0} → Rows T → T → Rows T
pushed t x = cond (nat_lt t.count 64) (record { rows = slice_set t.rows t.count x; count = t.count + 1 }) t

-- the element at an index, if there is one
abbrev pub Taken : {X : Type 0} → List X → ℕ → Option X → Type 0
Taken {X = X} xs i None = length xs ≤ i
Taken {X = X} xs i (Some x) = (i < length xs) × ((d : X) → slice_index_or xs i d ≡ x)

-- the last element taken off a list xs, if there is one, which leaves ys
abbrev pub Popped : {X : Type 0} → List X → List X → Option X → Type 0
Popped xs ys None = (xs ≡ []) × (ys ≡ [])
Popped xs ys (Some x) = xs ≡ ys ++ (x ∷ [])
