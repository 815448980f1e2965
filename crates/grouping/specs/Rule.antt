-- The rule, as the code follows it: what the look-ahead is asked, what the next group is. Assumes nothing.
use Rattle.std.specs.Prelude.{◌≡◌, List, ◌∷◌, ℕ, ◌+◌, ◌<◌, ◌≤◌, length, get_or, drop}
use Rattle.std.proofs.Math.Seq.{slice}
use Rattle.format.specs.Lists.{greatest, least}
use Rattle.format.specs.Refusals.{limit}
use Rattle.format.specs.Grouping.{width_of, groups_of}
use Rattle.format.specs.declared.Group.{Group}

-- numbers that are all equal
abbrev pub Level : List ℕ → Type 0
Level numbers = least numbers ≡ greatest numbers

-- equal numbers end at i, unless all that are looked at are equal
abbrev pub Stops : List ℕ → ℕ → ℕ → ℕ → Type 0
Stops numbers end i reach = i < reach → get_or numbers i 0 ≡ get_or numbers end 0 → ⊥

-- the limits of packing, within which no sum of costs wraps
pub record Limits (numbers : List ℕ) (k : ℕ) : Type 0 where
  pub few : length numbers ≤ limit
  pub ahead : 0 < k
  pub near : k ≤ 65535

-- the numbers that the look-ahead takes, from `end` as far as `reach`: those before `level` are equal
pub record Seen (numbers : List ℕ) (end level reach : ℕ) : Type 0 where
  pub some : end < reach
  pub far : reach ≤ length numbers
  pub few : reach ≤ limit
  pub within : level ≤ reach
  pub flat : Level (slice end level numbers)

-- the numbers from `end` to `level` are known to be equal
pub record Known (numbers : List ℕ) (k end level : ℕ) : Type 0 where
  pub flat : Level (slice end level numbers)
  pub within : level ≤ length numbers
  pub near : level ≤ end + k

-- the next group, from a place on: the first of the groups that the rule makes of the numbers there
pub record NextGroup (k added : ℕ) (numbers : List ℕ) (at : ℕ) (g : Group) : Type 0 where
  pub first :
      groups_of width_of added k (drop at numbers)
      ≡ slice at (at + g.length) numbers ∷ groups_of width_of added k (drop (at + g.length) numbers)
  pub some : 0 < g.length
  pub within : at + g.length ≤ length numbers
  pub start : g.start ≡ at
  pub least : g.least ≡ least (slice at (at + g.length) numbers)
  pub width : g.width ≡ width_of (slice at (at + g.length) numbers)
