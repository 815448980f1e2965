-- What an input has that unpacking does not refuse, under 5.2 and 5.3 alike. Assumes nothing.
use Rattle.std.proofs.Math.Path.{◌≡◌}
use Rattle.std.specs.Prelude.{refl, List, ◌++◌, ℕ, suc, ◌*◌, ◌^◌, ◌≤◌, ◌<◌, length}
use Rattle.std.proofs.Common.{arith}
use Rattle.format.specs.Refusals.{Row, limit, room_refusals}
use Rattle.format.specs.Layout.{point_size}
use Rattle.format.specs.Bits.{span_of}
use Rattle.format.specs.Template.{widths_at, lengths_at, values_at, descriptors_end, kind_refusals}
use Rattle.format.specs.Unpacking.{Codes, codes_of, points_before, bits_before, places_of, located_refusals, counted_refusals, located_by, locate52}
use Rattle.format.specs.Differences.{described_refusals, locate53}
use Rattle.format.specs.declared.Template.{Template}
use Rattle.format.specs.declared.Differencing.{Differencing}
use Rattle.format.specs.declared.Places.{Places}
use Rattle.format.specs.declared.Located.{Located}
use Rattle.laws.specs.First.{Clear, passed, clear-front, clear_later, clear-row, among, tests}
use Rattle.laws.specs.Bits.{product}
use Rattle.laws.specs.Small.{NoneWrong}
use Rattle.laws.specs.Spans.{span-aligned}
use Rattle.format.specs.declared.Refusal.{Refusal}
use Rattle.std.specs.declared.result.Result.{Result}
use Rattle.std.specs.declared.result.Result.TheVariants.{Ok, Err}

-- a template that passed 6 and 5
pub record Passing (t : Template) : Type 0 where
  pub few : t.groups ≤ limit
  pub width : t.width ≤ 31
  pub widths : t.widths.bits ≤ 32
  pub lengths : t.lengths.bits ≤ 32

-- and where the parts of its payload are, behind descriptors of up to 12 octets
pub record Laid (t : Template) (p : Places) : Type 0 where
  pub passing : Passing t
  pub near : p.references.0 ≤ 12
  pub widths : p.widths.0 ≡ widths_at p.references.0 t
  pub lengths : p.lengths.0 ≡ lengths_at p.references.0 t
  pub values : p.values.0 ≡ values_at p.references.0 t
  pub widths-low : p.widths.0 < 2 ^ 42
  pub lengths-low : p.lengths.0 < 2 ^ 42
  pub values_low : p.values.0 < 2 ^ 42

field-low : (t : Template) → Passing t → (w : ℕ) → w ≤ 32 → span_of 0 w t.groups ≤ limit * 4
field-low t h w l = omega (arith, span-aligned w t.groups, product t.groups w limit 32 h.few l)

pub laid : (start bits : ℕ) {t : Template} {p : Places} → Passing t → start ≤ 12 → p ≡ places_of start t bits → Laid t p
unfolding places_of widths_at lengths_at values_at
laid start bits {t} h l e =
    let references = field-low t h t.width (omega arith) in
    let widths = field-low t h t.widths.bits h.widths in
    let lengths = field-low t h t.lengths.bits h.lengths in
    rw e record {
      passing = h;
      near = l;
      widths = refl;
      lengths = refl;
      values = refl;
      widths-low = omega arith;
      lengths-low = omega arith;
      values_low = omega arith;
    }

-- ---- where the parts are

-- the parts that are found in a payload, and how many points its groups come to
pub record Found (t : Template) (payload : List ℕ) (places : Places) (points : ℕ) : Type 0 where
  pub laid : Laid t places
  pub right : NoneWrong t (codes_of places.references.0 t payload)
  pub count : points ≡ points_before t (codes_of places.references.0 t payload) t.groups
  pub values : places.values.0 ≤ places.end.0
  pub end : places.end.0 ≤ length payload

-- where it is not refused
abbrev pub FoundIn : Template → List ℕ → Result Located Refusal → Type 0
FoundIn t payload (Ok l) = Found t payload l.places l.points
FoundIn t payload (Err r) = Unit

module _ (t : Template) (payload : List ℕ) where
  found : (rows : List Row) (start : ℕ) → (Clear rows → start ≤ 12) → (x : Result Located Refusal)
      → x ≡ located_by (rows ++ located_refusals start t (length payload) (codes_of start t payload)) start t (codes_of start t payload) → FoundIn t payload x
  unfolding places_of
  found rows start near (Ok l) e =
      let codes = codes_of start t payload in
      let left = located_refusals start t (length payload) codes in
      let places = places_of start t (bits_before t codes t.groups) in
      let h = passed Err (rows ++ left) (Ok (record { places = places; points = points_before t codes t.groups })) e (λ r z. (let d : ◌≡◌ {A = ℕ} 0 1 = cc in omega arith)) in
      let same : l.places ≡ places = cc h.1 in
      let count : l.points ≡ points_before t codes t.groups = cc h.1 in
      let clear = clear_later rows left h.0 in
      let passing : Passing t = record { few = omega (arith, tests); width = omega (arith, tests); widths = omega (arith, tests); lengths = omega (arith, tests) } in
      rw same record {
        laid = laid start _ passing (near (clear-front rows left h.0)) refl;
        right = clear-row left clear (search among depth 20);
        count = count;
        values = omega arith;
        end = omega (arith, tests);
      }
  found rows start near (Err r) e = tt

  pub found-52 : {x : Result Located Refusal} → x ≡ locate52 t payload → FoundIn t payload x
  unfolding locate52
  found-52 {x} e = found (kind_refusals t) 0 (λ h. omega arith) x e

  -- at most two first values and the minimum, of at most four octets each
  pub found-53 : (d : Differencing) {x : Result Located Refusal} → x ≡ locate53 t d payload → FoundIn t payload x
  unfolding locate53
  found-53 d {x} e = found (described_refusals t d (length payload)) (descriptors_end d) (λ h. product (suc d.order) d.octets 3 4 (omega (arith, tests)) (omega (arith, tests))) x e

-- ---- what is counted

-- a payload of so many octets with these codes, whose references begin at octet `start`, passed 6 to 9
pub record Counted (start : ℕ) (t : Template) (declared octets : ℕ) (codes : Codes) : Type 0 where
  pub passing : Passing t
  pub right : NoneWrong t codes
  pub end : (places_of start t (bits_before t codes t.groups)).end.0 ≤ octets
  pub count : points_before t codes t.groups ≡ declared
  pub few : declared ≤ limit

module _ (rows : List Row) (start : ℕ) (t : Template) (declared octets : ℕ) (codes : Codes) where
  pub counted : Clear (rows ++ counted_refusals start t declared octets codes) → Counted start t declared octets codes
  counted clear =
      let h = clear_later rows (counted_refusals start t declared octets codes) clear in
      record {
        passing = record { few = omega (arith, tests); width = omega (arith, tests); widths = omega (arith, tests); lengths = omega (arith, tests) };
        right = clear-row (counted_refusals start t declared octets codes) h (search among depth 20);
        end = omega (arith, tests);
        count = omega (arith, tests);
        few = omega (arith, tests);
      }

  -- and 10
  pub roomy : (lent : List ℕ) → Clear (rows ++ counted_refusals start t declared octets codes ++ room_refusals point_size lent declared) → declared * point_size ≤ length lent
  roomy lent clear =
      let h = clear_later (rows ++ counted_refusals start t declared octets codes) (room_refusals point_size lent declared) clear in
      omega (arith, tests)
