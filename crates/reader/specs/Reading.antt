-- "a reader that holds the octets and its place in them": the place is the cursor. Assumes nothing.
use Rattle.std.specs.Prelude.{ℕ, ◌+◌, ◌-◌, ◌*◌, ◌^◌, min, Bool, cond, ◌||◌, List, [], ◌∷◌, ltb, leb, length, Option, Some, None, Result, Ok, Err}
use Rattle.std.specs.Borrow.{Bor}
use Rattle.format.specs.Bits.{span_of}
use Rattle.format.specs.Refusals.{◌gives◌, first}
use Rattle.format.specs.declared.Refusal.TheVariants.{Width, Short}
use Rattle.stream.specs.Cursor.{stepped}
use Rattle.stream.specs.declared.Cursor.{Cursor}
use Rattle.stream.specs.declared.Step.{Step}
use Rattle.format.specs.declared.Refusal.{Refusal}
use Rattle.reader.specs.declared.Reader.{Reader}

-- the reader of these octets at this cursor
abbrev pub reader_on : Bor (List ℕ) → Cursor → Reader
reader_on octets cursor = record { octets = octets; cursor = cursor }

-- "bit field width outside its range or starting bit above 7": here a field starts at any bit below 2^63, from where a
-- cursor moves on within 64 bits
abbrev pub outside : Cursor → Bool
outside c = ltb 32 c.width || leb (2 ^ 63) c.place.0

-- the number of a step, without the cursor behind it
abbrev pub number_in : Option Step → Option ℕ
number_in (Some step) = Some step.number
number_in None = None

-- "Bit reader: 5, 7": the next number, or none, of a field that the octets hold as far as its last number
unfoldable pub taken_at : List ℕ → Cursor → Result (Option ℕ) Refusal
taken_at octets c =
    first Err
    (outside c gives Width ∷ ltb (length octets) (span_of c.place.0 c.width c.left) gives Short ∷ [])
    (Ok (number_in (stepped octets c)))

-- the cursor behind the next k numbers, or behind the last; one that is refused stays
abbrev pub behind_numbers : Cursor → ℕ → Cursor
behind_numbers c k = record { place = record { 0 = c.place.0 + min k c.left * c.width }; width = c.width; left = c.left - k }

unfoldable pub moved_on : Cursor → ℕ → Cursor
moved_on c k = cond (outside c) c (behind_numbers c k)
