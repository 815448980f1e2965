-- Where the parts of a payload are, and which of its groups holds a place, unless it is refused. Assumes nothing.
use Rattle.std.specs.Prelude.{ℕ, List, ◌++◌, length}
use Rattle.std.specs.declared.result.Result.{Result}
use Rattle.std.specs.declared.result.Result.TheVariants.{Ok, Err}
use Rattle.format.specs.Refusals.{Row, first}
use Rattle.format.specs.Template.{kind_refusals}
use Rattle.format.specs.Unpacking.{Codes, codes_of, points_before, bits_before, places_of, located_refusals}
use Rattle.format.specs.declared.Template.{Template}
use Rattle.format.specs.declared.Located.{Located}
use Rattle.format.specs.declared.Refusal.{Refusal}
use Rattle.groups.specs.Walk.{holder_walk}
use Rattle.group_fields.specs.declared.Surveyed.{Surveyed}

-- what these codes come to, and the group that holds a place
abbrev pub survey_of : ℕ → Template → Codes → ℕ → Surveyed
survey_of start t codes place = record {
  places = places_of start t (bits_before t codes t.groups);
  points = points_before t codes t.groups;
  holder = holder_walk t codes place t.groups;
}

-- unless one of the rows refuses
abbrev pub surveyed_by : List Row → ℕ → Template → Codes → ℕ → Result Surveyed Refusal
surveyed_by rows start t codes place = first Err rows (Ok (survey_of start t codes place))

-- by rows that go by the payload's length and its codes
abbrev pub surveyed_in : (ℕ → Codes → List Row) → ℕ → Template → List ℕ → ℕ → Result Surveyed Refusal
surveyed_in rows start t payload place = surveyed_by (rows (length payload) (codes_of start t payload)) start t (codes_of start t payload) place

-- under 5.2
abbrev pub survey52 : Template → List ℕ → ℕ → Result Surveyed Refusal
survey52 t payload place = surveyed_in (λ octets codes. kind_refusals t ++ located_refusals 0 t octets codes) 0 t payload place

-- where the parts are
abbrev pub located_in : Surveyed → Located
located_in surveyed = record { places = surveyed.places; points = surveyed.points }
