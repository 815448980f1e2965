-- Document 02, No. 3, "One point for the rigging boss". A place in the list is counted from 0. Assumes nothing.
use Rattle.std.specs.Prelude.{ℕ, List, [], ◌∷◌, ◌++◌, leb, length, get_or}
use Rattle.format.specs.Refusals.{Row, ◌gives◌, first}
use Rattle.format.specs.Unpacking.{codes_of, said_by, points_up_to, counted52}
use Rattle.format.specs.Section5.{named_by}
use Rattle.format.specs.declared.Refusal.TheVariants.{Section5, Place}
use Rattle.format.specs.declared.Template.{Template}
use Rattle.format.specs.declared.DecodedValue.TheVariants.{Missing1}
use Rattle.format.specs.declared.Named.{Named}
use Rattle.format.specs.declared.Named.TheVariants as named
use Rattle.format.specs.declared.Refusal.{Refusal}
use Rattle.format.specs.declared.DecodedValue.{DecodedValue}
use Rattle.std.specs.declared.result.Result.{Result}
use Rattle.std.specs.declared.result.Result.TheVariants.{Ok, Err}

-- "15 when the place is not below the declared count"
abbrev pub place_refusals : ℕ → ℕ → List Row
place_refusals place declared =
    leb declared place gives Place
    ∷ []

-- "refusals 1 to 9 are the same" as unpacking's; 15 "comes after 9, and 10 does not arise."
abbrev pub point_refusals : ℕ → Template → ℕ → List ℕ → List Row
point_refusals place t declared payload = counted52 t declared (length payload) (codes_of 0 t payload) ++ place_refusals place declared

-- "For template 5.2, answer one point (mark and number) from its place in the list. With room enough for the map, the answer equals
-- that place in the full unpacking": of the points that `unpack52` gives. Where none refuses, there is one at the place.
unfoldable pub point52 : ℕ → Template → ℕ → List ℕ → Result DecodedValue Refusal
point52 place t declared payload =
    first Err (point_refusals place t declared payload)
    (Ok (get_or (points_up_to t (said_by 0 t payload) t.groups) place Missing1))

-- by the octets of Section 5, as in No. 1. One of template 5.3 is none of 5.2: 14
abbrev pub point_named : ℕ → Result Named Refusal → List ℕ → Result DecodedValue Refusal
point_named place (Ok (named.Complex declared t)) payload = point52 place t declared payload
point_named place (Ok (named.Spatial declared t d)) payload = Err Section5
point_named place (Err r) payload = Err r

abbrev pub point_section5 : ℕ → List ℕ → List ℕ → Result DecodedValue Refusal
point_section5 place section5 payload = point_named place (named_by section5) payload
