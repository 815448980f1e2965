-- What a point depends on, and where its mark is 0. Assumes nothing.
use Rattle.std.specs.Prelude.{◌≡◌, Bool, not, ◌||◌, cond, eqb, leb, ℤ, pos}
use Rattle.std.proofs.Math.Path.{refl, sym, ap}
use Rattle.std.proofs.Common.{subst, ◌∙◌, arith, leb-true, leb-false, get_or-append-add}
use Rattle.std.proofs.Math.Bool.{true, false}
use mathlib.Core.List.{List, [], ◌∷◌, ◌++◌, map, flat_map}
use Prim.Native.Nat.{ℕ, zero, suc, ◌+◌, ◌-◌, ◌*◌, ◌≤◌, ◌<◌}
use Rattle.std.proofs.Math.ListN.{length, get_or, get_or-append}
use Rattle.format.specs.Lists.{listed, total, joined}
use Rattle.format.specs.Bits.{number_at, field_of}
use Rattle.format.specs.Layout.{point_size, point_octets, mark_of, held_by}
use Rattle.format.specs.Template.{values_at}
use Rattle.format.specs.Unpacking.{Codes, codes_of, reference_of, group_width, group_length, points_before, bits_before, wrong_group, Said, said_by, counted_refusals, is_missing1, is_missing2, decoded, point_of, point_at, points_up_to}
use Rattle.format.specs.Differences.{raised, restored}
use Rattle.format.specs.declared.Template.{Template}
use Rattle.format.specs.declared.DecodedValue.{DecodedValue}
use Rattle.format.specs.declared.DecodedValue.TheVariants.{Normal, Missing1, Missing2}
use Rattle.laws.specs.Lists.{length-map, length-listed, get_or-listed, length-joined, total-next, total_ext, total-upto}
use Rattle.laws.specs.Stores.{length-flat}

-- ---- points in octets

pub size-point : (point : DecodedValue) → length (point_octets point) ≡ point_size
size-point point = ap suc (length-listed 8 _)

pub size-points : (points : List DecodedValue) → length (flat_map point_octets points) ≡ length points * point_size
size-points points = length-flat point_octets point_size size-point points

-- ---- the point at a place

-- the points of a group and of those before it are among those of more groups
pub points-within : (t : Template) (codes : Codes) (n g : ℕ) → g < n → points_before t codes g + group_length t codes g ≤ points_before t codes n
unfolding points_before
points-within t codes n g l =
    let more : ℕ = n - (g + 1) in
    let e : g + 1 + more ≡ n = omega arith in
    rw (← total-next g (group_length t codes)) (subst (λ (m : ℕ). total (g + 1) (group_length t codes) ≤ total m (group_length t codes)) e (total-upto (g + 1) more (group_length t codes)))

module _ (t : Template) (said : Said) where
  abbrev group : ℕ → List DecodedValue
  group g = listed (group_length t said.codes g) (point_at t said g)

  pub length-points : (n : ℕ) → length (points_up_to t said n) ≡ points_before t said.codes n
  unfolding points_up_to points_before
  length-points n = length-joined n group ∙ total_ext n _ _ (λ g l. length-listed (group_length t said.codes g) (point_at t said g))

  -- point k of group g stands behind the points of the groups before it, however many groups follow
  pub point-placed : (d : DecodedValue) (n g k : ℕ) → g < n → k < group_length t said.codes g
      → get_or (points_up_to t said n) (points_before t said.codes g + k) d ≡ point_at t said g k
  unfolding points_up_to joined
  point-placed d zero g k l m = absurd (omega arith)
  point-placed d (suc n) g k l m =
      by-test (leb n g) refl (λ (h : g < n). point-placed d n g k h m)
    where
      long : length (joined n group) ≡ points_before t said.codes n
      long = length-points n

      by-test : (b : Bool) → leb n g ≡ b → (g < n → get_or (joined n group) (points_before t said.codes g + k) d ≡ point_at t said g k)
          → get_or (joined n group ++ group n) (points_before t said.codes g + k) d ≡ point_at t said g k
      by-test true e earlier =
          let same : g ≡ n = omega (arith, leb-true n g e) in
          let here : k < group_length t said.codes n = rw same at m in
          rw (same, ← long) (get_or-append-add (joined n group) (group n) k d ∙ get_or-listed (group_length t said.codes n) (point_at t said n) d k here)
      by-test false e earlier =
          get_or-append (joined n group) (group n) d (points_before t said.codes g + k) (omega (arith, long, points-within t said.codes n g (leb-false n g e), m))
          ∙ earlier (leb-false n g e)

-- ---- the group that holds a place

module _ (t : Template) (codes : Codes) (place : ℕ) where
  -- a group begins at the place or before it
  abbrev begun : ℕ → Bool
  begun g = leb (points_before t codes g) place

  -- the last of the first n groups that does
  unfoldable pub holder_of : ℕ → ℕ
  holder_of zero = 0
  holder_of (suc n) = cond (begun n) n (holder_of n)

  -- it holds the place, and so is none without points
  pub record Holds (n g : ℕ) : Type 0 where
    pub among : g < n
    pub begins : points_before t codes g ≤ place
    pub ends : place < points_before t codes g + group_length t codes g

  -- every place of the list is one of a group
  pub held : (n : ℕ) → place < points_before t codes n → Holds n (holder_of n)
  unfolding holder_of points_before total
  held zero l = absurd (omega arith)
  held (suc n) l = by-test (begun n) refl (held n)
    where
      by-test : (b : Bool) → begun n ≡ b → (place < total n (group_length t codes) → Holds n (holder_of n)) → Holds (suc n) (cond b n (holder_of n))
      by-test true e earlier = record { among = omega arith; begins = omega (arith, leb-true); ends = l }
      by-test false e earlier =
          let h = earlier (omega (arith, leb-false)) in
          record { among = omega (arith, h.among); begins = h.begins; ends = h.ends }

-- ---- its own bits

module _ (start : ℕ) (t : Template) where
  -- where value k of group g begins
  abbrev pub value_place : Codes → ℕ → ℕ → ℕ
  value_place codes g k = values_at start t * 8 + bits_before t codes g + k * group_width t codes g

  -- a point is made of its group's width and reference and of the number at its place
  pub point-read : (payload : List ℕ) (g k : ℕ) → g < t.groups → k < group_length t (codes_of start t payload) g
      → point_at t (said_by start t payload) g k
      ≡ point_of t (group_width t (codes_of start t payload) g) (reference_of (codes_of start t payload) g)
      (number_at payload (value_place (codes_of start t payload) g k) (group_width t (codes_of start t payload) g))
  unfolding point_at said_by
  point-read payload g k l m =
      let codes = codes_of start t payload in
      let field : ℕ → List ℕ = λ i. field_of payload (values_at start t * 8 + bits_before t codes i) (group_width t codes i) (group_length t codes i) in
      ap (point_of t (group_width t codes g) (reference_of codes g))
      (ap (λ (xs : List ℕ). get_or xs k 0) (get_or-listed t.groups field [] g l)
      ∙ get_or-listed (group_length t codes g) (λ i. number_at payload (value_place codes g i) (group_width t codes g)) 0 k m)

  -- So payloads that agree in their width and length codes, in a group's reference and in the bits of one of its values
  -- have one point there, whatever else they hold (`point-own`, proofs/Points.antt),
  module _ (a b : List ℕ) (widths : (codes_of start t a).widths ≡ (codes_of start t b).widths) (lengths : (codes_of start t a).lengths ≡ (codes_of start t b).lengths) where
    abbrev codes : Codes
    codes = codes_of start t a

    -- and are refused alike
    pub counted_same : (declared octets : ℕ) → counted_refusals start t declared octets codes ≡ counted_refusals start t declared octets (codes_of start t b)
    unfolding group_width group_length wrong_group bits_before points_before
    counted_same declared octets = rw (widths, lengths)

-- ---- where the mark is 0

-- "value 2^w − 1 is missing 1 if m > 0; else 2^w − 2 is missing 2 if m = 2"
abbrev pub missing_code : Template → ℕ → ℕ → Bool
missing_code t w value = is_missing1 t w value || is_missing2 t w value

mark-decoded : (a b : Bool) (number : ℤ) → eqb (mark_of (cond a Missing1 (cond b Missing2 (Normal number)))) 0 ≡ not (a || b)
mark-decoded true b number = refl
mark-decoded false true number = refl
mark-decoded false false number = refl

-- exactly where the value, or in a group of width 0 the reference, is no missing code
pub mark-zero : (t : Template) (w reference value : ℕ)
    → eqb (mark_of (point_of t w reference value)) 0 ≡ not (cond (eqb w 0) (missing_code t t.width reference) (missing_code t w value))
unfolding point_of decoded
mark-zero t w reference value = by-test (eqb w 0)
  where
    by-test : (b : Bool) → eqb (mark_of (cond b (decoded t t.width reference reference) (decoded t w value (value + reference)))) 0 ≡ not (cond b (missing_code t t.width reference) (missing_code t w value))
    by-test true = mark-decoded (is_missing1 t t.width reference) (is_missing2 t t.width reference) (pos reference)
    by-test false = mark-decoded (is_missing1 t w value) (is_missing2 t w value) (pos (value + reference))

-- "a missing point holds number 0"
pub missing-holds : (point : DecodedValue) → (mark_of point ≡ 0 → ⊥) → held_by point ≡ pos 0
missing-holds (Normal z) h = absurd (h refl)
missing-holds Missing1 h = refl
missing-holds Missing2 h = refl

-- and restoring changes no mark
pub restored-marks : (order : ℕ) (firsts : List ℤ) (previous before minimum : ℤ) (packed : List DecodedValue)
    → map mark_of (restored order firsts previous before (map (raised minimum) packed)) ≡ map mark_of packed
unfolding restored raised map
restored-marks order firsts previous before minimum [] = refl
restored-marks order firsts previous before minimum (Missing1 ∷ packed) = ap (λ (l : List ℕ). 1 ∷ l) (restored-marks order firsts previous before minimum packed)
restored-marks order firsts previous before minimum (Missing2 ∷ packed) = ap (λ (l : List ℕ). 2 ∷ l) (restored-marks order firsts previous before minimum packed)
restored-marks order (value ∷ firsts) previous before minimum (Normal z ∷ packed) = ap (λ (l : List ℕ). 0 ∷ l) (restored-marks order firsts value previous minimum packed)
restored-marks order [] previous before minimum (Normal z ∷ packed) = ap (λ (l : List ℕ). 0 ∷ l) (restored-marks order [] _ previous minimum packed)

-- and as many points come of as many
pub length-restored : (order : ℕ) (firsts : List ℤ) (previous before minimum : ℤ) (packed : List DecodedValue)
    → length (restored order firsts previous before (map (raised minimum) packed)) ≡ length packed
length-restored order firsts previous before minimum packed =
    sym (length-map mark_of (restored order firsts previous before (map (raised minimum) packed))) ∙ ap length (restored-marks order firsts previous before minimum packed) ∙ length-map mark_of packed
