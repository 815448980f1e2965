-- What storing is asked. Assumes nothing.
use Rattle.std.specs.Prelude.{ℕ, ◌*◌, ◌≤◌}
use Rattle.format.specs.Refusals.{limit}
use Rattle.format.specs.Layout.{point_size}
use Rattle.format.specs.Unpacking.{Codes, points_before}
use Rattle.format.specs.declared.Template.{Template}
use Rattle.laws.specs.Small.{NoneWrong}

-- codes of which no group is refused, and room for all points in so many lent octets
pub record Roomy (t : Template) (codes : Codes) (octets : ℕ) : Type 0 where
  pub right : NoneWrong t codes
  pub few : points_before t codes t.groups ≤ limit
  pub room : points_before t codes t.groups * point_size ≤ octets
