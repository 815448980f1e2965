-- No packed point takes more than 32 bits: the points of a payload. These rest on `point-read`. Assumes nothing.
use Rattle.std.specs.Prelude.{List, ℕ, ◌≤◌, ◌<◌}
use Rattle.format.specs.Bits.{number_at}
use Rattle.format.specs.Unpacking.{codes_of, reference_of, group_width, group_length, said_by, point_at, points_up_to}
use Rattle.format.specs.declared.Template.{Template}
use Rattle.laws.specs.Bits.{bit-lt, number-below}
use Rattle.laws.specs.Points.{value_place, point-read}
use Rattle.laws.specs.Small.{AllSmall, Small, NoneWrong, small-joined, small-listed, small-point, width_low, reference-low}

module _ (start : ℕ) (t : Template) (payload : List ℕ) (low : t.width ≤ 31) (h : NoneWrong t (codes_of start t payload)) where
  small_at : (g : ℕ) → g < t.groups → (k : ℕ) → k < group_length t (codes_of start t payload) g → Small (point_at t (said_by start t payload) g k)
  small_at g l k m =
      let codes = codes_of start t payload in
      let w = group_width t codes g in
      let p = value_place start t codes g k in
      rw (point-read start t payload g k l m)
      (small-point t w (reference_of codes g) (number_at payload p w) (reference-low start t payload low g l) (number-below (bit-lt 8 payload) p w 31 (width_low t codes h g l)))

  pub small-points : AllSmall (points_up_to t (said_by start t payload) t.groups)
  unfolding points_up_to said_by
  small-points =
      small-joined t.groups _
      (λ g l. small-listed (group_length t (codes_of start t payload) g) (point_at t (said_by start t payload) g) (small_at g l))
