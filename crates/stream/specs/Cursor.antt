-- The cursor: document 01's fields, number by number. Assumes nothing.
use Rattle.std.specs.Prelude.{ℕ, ◌+◌, ◌-◌, ◌^◌, ◌≤◌, ◌<◌, cond, List, [], ◌∷◌, ltb, eqb, Option, Some, None, Result, Ok, Err}
use Rattle.format.specs.Bits.{number_at}
use Rattle.format.specs.Refusals.{◌gives◌, first}
use Rattle.format.specs.declared.BitPlace.{BitPlace}
use Rattle.format.specs.declared.Refusal.{Refusal}
use Rattle.format.specs.declared.Refusal.TheVariants.{Width}
use Rattle.stream.specs.declared.Cursor.{Cursor}
use Rattle.stream.specs.declared.Step.{Step}

-- "Reading takes widths 0 to 32"
unfoldable pub made_at : BitPlace → ℕ → ℕ → Result Cursor Refusal
made_at place width count =
    first Err (ltb 32 width gives Width ∷ []) (Ok (record { place = place; width = width; left = count }))

-- a cursor that moves on within 64 bits
pub record Inside (c : Cursor) : Type 0 where
  pub place : c.place.0 < 2 ^ 63
  pub width : c.width ≤ 32

-- the number at the cursor, and the cursor behind it; none where none is left
unfoldable pub stepped : List ℕ → Cursor → Option Step
stepped octets c =
    cond (eqb c.left 0) None
    (Some (record {
      number = number_at octets c.place.0 c.width;
      behind = record { place = record { 0 = c.place.0 + c.width }; width = c.width; left = c.left - 1 };
    }))
