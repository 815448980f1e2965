-- What the bit writer writes, once no row refuses. Assumes nothing.
use Rattle.std.specs.Prelude.{◌≡◌, false, List, ℕ, ◌^◌, ◌<◌, ◌≤◌, leb, length}
use Rattle.format.specs.Lists.{any_of}
use Rattle.format.specs.Bits.{span_of}

-- numbers, one or more, that fit their width and have room
pub record Job (lent : List ℕ) (s w : ℕ) (xs : List ℕ) : Type 0 where
  pub low : s ≤ 7
  pub pos : 0 < w
  pub top : w ≤ 32
  pub fit : any_of (leb (2 ^ w)) xs ≡ false
  pub room : span_of s w (length xs) ≤ length lent
  pub some : 0 < length xs
