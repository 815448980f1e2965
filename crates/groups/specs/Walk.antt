-- The walk over all groups: one record for deciding and for storing. Assumes nothing.
use Rattle.std.specs.Prelude.{ℕ, ◌+◌, ◌*◌, ◌^◌, ◌≤◌, ◌≡◌}
use Rattle.format.specs.Unpacking.{Codes, points_before, bits_before}
use Rattle.format.specs.declared.Template.{Template}
use Rattle.laws.specs.Points.{holder_of}
use Rattle.groups.specs.declared.Walk.{Walk}

-- the first group is still to come
abbrev pub at_first : Walk
at_first = record { group = 0; points = 0; bits = 0 }

-- group g is the next, and the points and bits before it are those of these codes
abbrev pub walk_at : Template → Codes → ℕ → Walk
walk_at t codes g = record { group = g; points = points_before t codes g; bits = bits_before t codes g }

-- of the first n groups it is at the last that begins at the place or before it
abbrev pub holder_walk : Template → Codes → ℕ → ℕ → Walk
holder_walk t codes place n = walk_at t codes (holder_of t codes place n)

-- `next` is past a group of that width and length
pub record Further (walk : Walk) (width length : ℕ) (next : Walk) : Type 0 where
  pub group : next.group ≡ walk.group + 1
  pub points : next.points ≡ walk.points + length
  pub bits : next.bits ≡ walk.bits + length * width

-- the walk stands at a group of these codes, or behind the last, with the points and bits before it
pub record Walking (t : Template) (codes : Codes) (walk : Walk) : Type 0 where
  pub some : walk.group ≤ t.groups
  pub count : walk.points ≡ points_before t codes walk.group
  pub size : walk.bits ≡ bits_before t codes walk.group
  pub count_low : walk.points ≤ walk.group * 2 ^ 32
  pub size_low : walk.bits ≤ walk.group * 2 ^ 37
