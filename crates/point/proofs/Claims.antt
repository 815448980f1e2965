-- The claims of document 02, No. 3. Assumes nothing.
use mathlib.Core.Path.{◌≡◌, refl, sym, ap, ◌∙◌}
use mathlib.Core.Bool.{Bool, true, false}
use mathlib.Core.Logic.{inl, inr, ⊎_elim}
use mathlib.Core.List.{List, ◌++◌, flat_map}
use Prim.Native.Nat.{ℕ, ◌-◌, ◌*◌, ◌≤◌, ◌<◌}
use native.Mathlib.Omega.{arith}
use borrow.Author.Tests.{leb-true, leb-false, le-leb, lt-leb}
use lib.Dec.{leb}
use lib.ListN.{length, get_or}
use Rattle.format.specs.Lists.{◌over◌}
use Rattle.format.specs.Refusals.{Row, first, refusal_number, room_refusals, Left, left}
use Rattle.format.specs.Layout.{point_size, point_octets}
use Rattle.format.specs.Template.{kind_refusals}
use Rattle.format.specs.Unpacking.{Codes, codes_of, points_before, said_by, points_up_to, counted52, unpack52}
use Rattle.format.specs.Point.{place_refusals, point_refusals, point52}
use Rattle.format.specs.declared.Refusal.{Refusal}
use Rattle.format.specs.declared.Refusal.TheVariants.{Place}
use Rattle.format.specs.declared.Template.{Template}
use Rattle.format.specs.declared.DecodedValue.{DecodedValue}
use Rattle.format.specs.declared.DecodedValue.TheVariants.{Missing1}
use Rattle.laws.specs.Accepting.{counted}
use Rattle.laws.specs.First.{Clear, Giving, outcome, gives-up-to, decides, clears, first-ext, first-joined, tests}
use Rattle.laws.specs.Points.{size-point, length-points, holder_of, counted_same}
use Rattle.laws.proofs.Points.{point-own}
use Rattle.laws.specs.Stores.{flat-cut}
use Rattle.point.specs.Claims.{octets_at, AsUnpacked, PlaceOfUnpacking, BySection5, Own, Agree, NumberThree}
use Rattle.point.proofs.Holding.{holds, passes, below}
use Rattle.std.specs.declared.result.Result.{Result}
use Rattle.std.specs.declared.result.Result.TheVariants.{Ok, Err}

-- ---- an answer is a point or a refusal, and not both

picked-once : {A : Type 0} {x : Result DecodedValue Refusal} {point : DecodedValue} {r : Refusal} → x ≡ Ok point → x ≡ Err r → A
picked-once p q = absurd (let d : ◌≡◌ {A = ℕ} 0 1 = cc in omega arith)

unpacked-once : {A : Type 0} {x : Result ℕ Refusal} {n : ℕ} {r : Refusal} → x ≡ Ok n → x ≡ Err r → A
unpacked-once p q = absurd (let d : ◌≡◌ {A = ℕ} 0 1 = cc in omega arith)

-- ---- the place of unpacking

module _ (place : ℕ) (t : Template) (declared : ℕ) (payload lent : List ℕ) (room : declared * point_size ≤ length lent) where
  abbrev codes : Codes
  codes = codes_of 0 t payload

  abbrev rows : List Row
  rows = counted52 t declared (length payload) codes

  abbrev points : List DecodedValue
  points = points_up_to t (said_by 0 t payload) t.groups

  abbrev placed : Result DecodedValue Refusal
  placed = first Err (place_refusals place declared) (Ok (get_or points place Missing1))

  point-first : point52 place t declared payload ≡ first Err rows placed
  unfolding point52 said_by
  point-first = first-joined Err rows (place_refusals place declared) (Ok (get_or points place Missing1))

  roomy : Clear (room_refusals point_size lent declared)
  roomy = omega (arith, tests)

  -- unpacking refuses as these rows do, since there is room
  unpack-first : unpack52 t declared payload lent
      ≡ first (λ r. left (Err r) lent) rows (left (Ok declared) (flat_map point_octets points over lent))
  unfolding unpack52 said_by
  unpack-first =
      first-joined (λ r. left (Err r) lent) rows (room_refusals point_size lent declared) _
      ∙ ap (first (λ r. left (Err r) lent) rows) (sym (clears (λ r. left (Err r) lent) (room_refusals point_size lent declared) _ roomy))

  -- one of these rows refuses both
  module _ (g : Giving rows) where
    point-given : point52 place t declared payload ≡ Err g.refusal
    point-given = point-first ∙ sym (decides Err g.refusal rows placed g.given)

    unpack-given : (unpack52 t declared payload lent).answer ≡ Err g.refusal
    unpack-given = ap (λ (l : Left (Result ℕ Refusal)). l.answer) (unpack-first ∙ sym (decides (λ r. left (Err r) lent) g.refusal rows _ g.given))

    low : refusal_number g.refusal ≤ 9
    low = gives-up-to 9 (refusal_number g.refusal) rows (omega arith) g.given

    both-refused : AsUnpacked place t declared payload lent
    both-refused =
        let p = point-given in
        let u = unpack-given in
        record {
          refused = λ r l. (λ q. (let same : g.refusal ≡ r = cc in u ∙ ap Err same), λ q. (let same : g.refusal ≡ r = cc in p ∙ ap Err same));
          past = (λ q. (let same : g.refusal ≡ Place = cc in absurd (omega (arith, low, ap refusal_number same))), λ q. unpacked-once q.0 u);
          no_other = λ r q. (let same : g.refusal ≡ r = cc in inl (omega (arith, low, ap refusal_number same)));
          same = λ point q. picked-once q p;
          there = λ q l. unpacked-once q u;
        }

  -- none refuses unpacking
  module _ (clear : Clear rows) where
    point-accepted : point52 place t declared payload ≡ placed
    point-accepted = point-first ∙ sym (clears Err rows placed clear)

    unpack-done : unpack52 t declared payload lent ≡ left (Ok declared) (flat_map point_octets points over lent)
    unpack-done = unpack-first ∙ sym (clears (λ r. left (Err r) lent) rows _ clear)

    answer-is : (unpack52 t declared payload lent).answer ≡ Ok declared
    answer-is = ap (λ (l : Left (Result ℕ Refusal)). l.answer) unpack-done

    long : length points ≡ declared
    unfolding said_by
    long = length-points t (said_by 0 t payload) t.groups ∙ (counted (kind_refusals t) 0 t declared (length payload) codes clear).count

    octets-are : place < declared → octets_at place (unpack52 t declared payload lent).buffer ≡ point_octets (get_or points place Missing1)
    octets-are l = ap (λ (x : Left (Result ℕ Refusal)). octets_at place x.buffer) unpack-done ∙ flat-cut point_octets point_size size-point points _ Missing1 place (omega (arith, long))

    no_place : declared ≤ place → point52 place t declared payload ≡ Err Place
    unfolding first
    no_place l = point-accepted ∙ rw (le-leb declared place l)

    a-place : place < declared → point52 place t declared payload ≡ Ok (get_or points place Missing1)
    unfolding first
    a-place l = point-accepted ∙ rw (lt-leb declared place l)

    unpacks : AsUnpacked place t declared payload lent
    unpacks = by-test (leb declared place) refl
      where
        by-test : (b : Bool) → leb declared place ≡ b → AsUnpacked place t declared payload lent
        by-test true e =
            let past = leb-true declared place e in
            let p = no_place past in
            let u = answer-is in
            record {
              refused = λ r l. (λ q. (let same : r ≡ Place = cc in absurd (omega (arith, l, ap refusal_number same))), unpacked-once u);
              past = (λ q. (u, past), λ q. p);
              no_other = λ r q. (let same : r ≡ Place = cc in inr same);
              same = λ point q. picked-once q p;
              there = λ q l. absurd (omega (arith, l, past));
            }
        by-test false e =
            let under = leb-false declared place e in
            let p = a-place under in
            let u = answer-is in
            record {
              refused = λ r l. (picked-once p, unpacked-once u);
              past = (picked-once p, λ q. absurd (omega (arith, q.1, under)));
              no_other = λ r q. picked-once p q;
              same = λ point q. (let is : get_or points place Missing1 ≡ point = cc in (u, under, octets-are under ∙ ap point_octets is));
              there = λ q l. record { point = get_or points place Missing1; is = p };
            }

place-of-unpacking : PlaceOfUnpacking
place-of-unpacking place t declared payload lent room =
    ⊎_elim (unpacks place t declared payload lent room) (both-refused place t declared payload lent room) (outcome (counted52 t declared (length payload) (codes_of 0 t payload)))

by-section5 : BySection5
by-section5 place section5 payload lent = record { one-point = λ declared t e. rw e; whole-map = λ declared t e. rw e; refused = λ r e. (rw e, rw e) }

-- ---- what it depends on

module _ (place : ℕ) (t : Template) (declared : ℕ) (a b : List ℕ) (agree : Agree place t declared a b) where
  abbrev codes_a : Codes
  codes_a = codes_of 0 t a

  abbrev rows_in : List ℕ → List Row
  rows_in payload = point_refusals place t declared payload

  rows_same : rows_in a ≡ rows_in b
  rows_same =
      rw agree.octets
      (ap (λ (rows : List Row). kind_refusals t ++ rows ++ (place_refusals place declared)) (counted_same 0 t a b agree.widths agree.lengths declared (length b)))

  -- the point that no row refuses
  own : Clear (rows_in a) → Own place t declared a (holder_of t codes_a place t.groups) (place - points_before t codes_a (holder_of t codes_a place t.groups))
  unfolding point52
  own clear =
      let counts = passes place t declared a clear in
      let h = holds place t declared a counts.right counts.count counts.few (below place t declared a clear) in
      record {
        answered = record { point = _; is = sym (clears Err (rows_in a) _ clear) };
        among = h.among;
        inside = omega (arith, h.begins, h.ends);
        there = omega (arith, h.begins);
      }

  point-same : Clear (rows_in a) → get_or (points_up_to t (said_by 0 t a) t.groups) place Missing1 ≡ get_or (points_up_to t (said_by 0 t b) t.groups) place Missing1
  point-same clear =
      let o = own clear in
      rw o.there (point-own 0 t a b agree.widths agree.lengths Missing1 _ _ o.among o.inside (agree.reference _ _ o) (agree.bits _ _ o))

  depends : point52 place t declared a ≡ point52 place t declared b
  unfolding point52 said_by
  depends =
      first-ext Err (rows_in a) _ _ (λ clear. ap Ok (point-same clear))
      ∙ ap (λ (rows : List Row). first Err rows (Ok (get_or (points_up_to t (said_by 0 t b) t.groups) place Missing1))) rows_same

pub number-three : NumberThree
number-three = (place-of-unpacking, by-section5, depends)
