-- Deciding goes on where a check left it, and where the parts are is a part of what is found. Assumes nothing.
use mathlib.Core.Path.{◌≡◌, refl, sym, ap, ◌∙◌}
use mathlib.Core.List.{List}
use Prim.Native.Nat.{ℕ, ◌≤◌, ◌<◌}
use native.Mathlib.Omega.{arith}
use lib.ListN.{length}
use Rattle.std.specs.Result.{MatchResult, IsOkAnd}
use Rattle.std.specs.declared.result.Result.{Result}
use Rattle.std.specs.declared.result.Result.TheVariants.{Ok, Err}
use Rattle.format.specs.Refusals.{Row, first}
use Rattle.format.specs.Template.{values_at, field_refusals}
use Rattle.format.specs.Unpacking.{Codes, codes_of, places_of, group_refusals, located_refusals, located_by, locate52}
use Rattle.format.specs.declared.Template.{Template}
use Rattle.format.specs.declared.Places.{Places}
use Rattle.format.specs.declared.Located.{Located}
use Rattle.format.specs.declared.Refusal.{Refusal}
use Rattle.format.specs.declared.Refusal.TheVariants.{Short}
use Rattle.laws.specs.Accepting.{Passing, Found, found-52}
use Rattle.laws.specs.First.{Clear, decides, leaves, first-through, passed, tests}
use Rattle.groups.specs.Walk.{holder_walk}
use Rattle.group_fields.proofs.Checks.{check-passed}
use Rattle.group_fields.specs.Surveying.{surveyed_by, surveyed_in, survey52, survey_of, located_in}
use Rattle.group_fields.specs.declared.Surveyed.{Surveyed}

-- ---- 6 and 5 are passed

module _ (t : Template) {x : Result (Unit {0}) Refusal} (ex : x ≡ first Err (field_refusals t) (Ok tt)) (passed : x ≡ Ok tt) where
  clear : Clear (field_refusals t)
  clear = check-passed _ ex passed

  pub passing : Passing t
  passing = record { few = omega (arith, tests, clear); width = omega (arith, tests, clear); widths = omega (arith, tests, clear); lengths = omega (arith, tests, clear) }

  module _ (start : ℕ) (payload : List ℕ) (place : ℕ) {p : Places} (e : p ≡ places_of start t 0) where
    begins : p.references.0 ≡ start
    unfolding places_of
    begins = rw e

    values-at : p.values.0 ≡ values_at start t
    unfolding places_of
    values-at = rw e

    pub fields-short : length payload < p.values.0 → Err Short ≡ surveyed_in (located_refusals start t) start t payload place
    fields-short l = decides Err Short _ _ (omega (arith, tests, clear, values-at))

    pub fields-there : {y : Result Surveyed Refusal} → p.values.0 ≤ length payload
        → y ≡ surveyed_in (group_refusals p.references.0 t) p.references.0 t payload place → y ≡ surveyed_in (located_refusals start t) start t payload place
    fields-there l ey = ey ∙ rw begins (leaves Err 6 _ _ (omega (arith, tests, clear, values-at)))

-- ---- where the parts are

abbrev located_of : Result Surveyed Refusal → Result Located Refusal
located_of (Ok surveyed) = Ok (located_in surveyed)
located_of (Err r) = Err r

pub map_located : (x : Result Surveyed Refusal) (y : Result Located Refusal) → MatchResult x (λ s. IsOkAnd y (λ l. l ≡ located_in s)) (λ r. y ≡ Err r) → y ≡ located_of x
map_located (Ok s) (Ok l) h = ap Ok h
map_located (Ok s) (Err r) h = absurd h
map_located (Err r) y h = h

pub located-by : (rows : List Row) (start : ℕ) (t : Template) (codes : Codes) (place : ℕ) {x : Result Surveyed Refusal}
    → x ≡ surveyed_by rows start t codes place → located_of x ≡ located_by rows start t codes
located-by rows start t codes place ex = rw ex (first-through Err Err located_of (λ r. refl) rows _)

pub located-52 : (t : Template) (payload : List ℕ) (place : ℕ) {x : Result Surveyed Refusal} → x ≡ survey52 t payload place → located_of x ≡ locate52 t payload
unfolding locate52
located-52 t payload place ex = located-by _ 0 t (codes_of 0 t payload) place ex

-- ---- a payload under 5.2 that is not refused

-- the parts, the points and the group that are found in it
pub record Walked52 (t : Template) (payload : List ℕ) (place : ℕ) (s : Surveyed) : Type 0 where
  pub found : Found t payload s.places s.points
  pub begins : s.places.references.0 ≡ 0
  pub holder-is : s.holder ≡ holder_walk t (codes_of 0 t payload) place t.groups

pub walked-52 : (t : Template) (payload : List ℕ) (place : ℕ) {x : Result Surveyed Refusal} {s : Surveyed}
    → x ≡ survey52 t payload place → x ≡ Ok s → Walked52 t payload place s
unfolding places_of
walked-52 t payload place {x} {s} ex e =
    let h = passed Err _ _ (sym e ∙ ex) (λ r z. (let d : ◌≡◌ {A = ℕ} 0 1 = cc in omega arith)) in
    let same : s ≡ survey_of 0 t (codes_of 0 t payload) place = cc h.1 in
    let there : Ok (located_in s) ≡ locate52 t payload = rw e at (located-52 t payload place ex) in
    record { found = found-52 t payload there; begins = rw same; holder-is = rw same }
