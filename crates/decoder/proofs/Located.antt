-- What is decided from where the parts are on is what document 01's rows decide. Assumes nothing.
use mathlib.Core.Path.{◌≡◌, refl, sym, ap, ◌∙◌}
use mathlib.Core.List.{List, ◌++◌, flat_map}
use Prim.Native.Nat.{ℕ, ◌/◌}
use native.Mathlib.Omega.{arith}
use lib.ListN.{length}
use Rattle.format.specs.Lists.{◌over◌}
use Rattle.format.specs.Refusals.{Row, first, count_refusals, room_refusals, Left, left}
use Rattle.format.specs.Layout.{point_size, point_octets}
use Rattle.format.specs.Template.{kind_refusals, descriptors_end}
use Rattle.format.specs.Unpacking.{codes_of, points_before, bits_before, places_of, said_by, points_up_to, located_refusals, located_by, locate52, unpack52}
use Rattle.format.specs.Differences.{described_refusals, refusals53, locate53}
use Rattle.format.specs.declared.Template.{Template}
use Rattle.format.specs.declared.Differencing.{Differencing}
use Rattle.format.specs.declared.Refusal.{Refusal}
use Rattle.format.specs.declared.Located.{Located}
use Rattle.laws.specs.Accepting.{Laid, FoundIn, found-52, found-53}
use Rattle.laws.specs.First.{first-joined, first-through, passed, tests}
use Rattle.complex.specs.Room.{Roomy}
use Rattle.decoder.specs.Deciding.{last_refusals}
use Rattle.std.specs.declared.result.Result.{Result}
use Rattle.std.specs.declared.result.Result.TheVariants.{Ok, Err}

-- ---- 9, then 10

module _ (declared room : ℕ) where
  -- what is left of where the parts are
  abbrev pub decided_in : Result Located Refusal → Result Located Refusal
  decided_in (Ok l) = first Err (last_refusals declared room l.points) (Ok l)
  decided_in (Err r) = Err r

  -- from what the two refusals come to
  abbrev with : Located → Result (Unit {0}) Refusal → Result Located Refusal
  with l (Ok u) = Ok l
  with l (Err r) = Err r

  module _ {x : Result Located Refusal} {l : Located} (e : x ≡ Ok l) {y : Result (Unit {0}) Refusal} (ey : y ≡ first Err (last_refusals declared room l.points) (Ok tt)) where
    decided : with l y ≡ decided_in x
    decided = rw (e, ey) (first-through Err Err (with l) (λ r. refl) (last_refusals declared room l.points) (Ok tt))

    pub decided-other : {r : Refusal} → y ≡ Err r → Err r ≡ decided_in x
    decided-other d = rw d at decided

    pub decided-right : y ≡ Ok tt → Ok l ≡ decided_in x
    decided-right d = rw d at decided

  pub decided-none : {x : Result Located Refusal} {r : Refusal} → x ≡ Err r → Err r ≡ decided_in x
  decided-none e = rw e

-- ---- the rows of an operation

module _ (t : Template) (declared : ℕ) (payload lent : List ℕ) where
  abbrev refused : Refusal → Left (Result ℕ Refusal)
  refused r = left (Err r) lent

  -- a refusal, or the points at these places
  abbrev pub unpacked_in : Result Located Refusal → Left (Result ℕ Refusal)
  unpacked_in (Ok l) = left (Ok declared) (flat_map point_octets (points_up_to t (said_by l.places.references.0 t payload) t.groups) over lent)
  unpacked_in (Err r) = refused r

  abbrev pub decide : Result Located Refusal → Result Located Refusal
  decide = decided_in declared (length lent / point_size)

  -- rows as far as 7 for the values, then 9 and 10
  rows_in : (rows : List Row) (start : ℕ)
      → unpacked_in (decide (located_by rows start t (codes_of start t payload)))
      ≡ first refused (rows ++ (count_refusals (points_before t (codes_of start t payload) t.groups) declared ++ room_refusals point_size lent declared))
      (left (Ok declared) (flat_map point_octets (points_up_to t (said_by start t payload) t.groups) over lent))
  unfolding places_of
  rows_in rows start =
      let codes = codes_of start t payload in
      let count = points_before t codes t.groups in
      let at : Result Located Refusal = Ok (record { places = (places_of start t (bits_before t codes t.groups)); points = count }) in
      first-through Err refused (λ l. unpacked_in (decide l)) (λ r. refl) rows at
      ∙ ap (first refused rows) (first-through Err refused unpacked_in (λ r. refl) (last_refusals declared (length lent / point_size) count) at)
      ∙ sym (first-joined refused rows (count_refusals count declared ++ room_refusals point_size lent declared) _)

  module _ {x : Result Located Refusal} (ex : x ≡ locate52 t payload) where
    unpacked-52 : unpacked_in (decide x) ≡ unpack52 t declared payload lent
    unfolding locate52 unpack52 said_by
    unpacked-52 = rw ex (rows_in (kind_refusals t ++ located_refusals 0 t (length payload) (codes_of 0 t payload)) 0)

    pub refused-52 : {r : Refusal} → Err r ≡ decide x → left (Err r) lent ≡ unpack52 t declared payload lent
    refused-52 e = rw (← e) at unpacked-52

    pub done-52 : {l : Located} {after : List ℕ} → Ok l ≡ decide x → after ≡ flat_map point_octets (points_up_to t (said_by l.places.references.0 t payload) t.groups) over lent
        → left (Ok declared) after ≡ unpack52 t declared payload lent
    done-52 e ea = ap (left (Ok declared)) ea ∙ rw (← e) at unpacked-52

  pub packed-53 : (d : Differencing) {x : Result Located Refusal} → x ≡ locate53 t d payload
      → unpacked_in (decide x) ≡ first refused (refusals53 t d declared (length payload) (codes_of (descriptors_end d) t payload) lent)
      (left (Ok declared) (flat_map point_octets (points_up_to t (said_by (descriptors_end d) t payload) t.groups) over lent))
  unfolding locate53
  packed-53 d ex = rw ex (rows_in (described_refusals t d (length payload) ++ located_refusals (descriptors_end d) t (length payload) (codes_of (descriptors_end d) t payload)) (descriptors_end d))

-- ---- a payload that is not refused

module _ (t : Template) (declared : ℕ) (payload : List ℕ) (octets : ℕ) {l : Located} where
  found_at : (x : Result Located Refusal) → FoundIn t payload x → Ok l ≡ decided_in declared (octets / point_size) x
      → Laid t l.places × Roomy t (codes_of l.places.references.0 t payload) octets
  found_at (Ok m) f e =
      let h = passed Err (last_refusals declared (octets / point_size) m.points) (Ok m) e (λ r z. (let d : ◌≡◌ {A = ℕ} 0 1 = cc in omega arith)) in
      let clear = h.0 in
      let same : l ≡ m = cc h.1 in
      rw same (f.laid, record { right = f.right; few = omega (arith, tests, f.count); room = omega (arith, tests, f.count) })
  found_at (Err r) f e = absurd (let d : ◌≡◌ {A = ℕ} 0 1 = cc in omega arith)

  module _ {x : Result Located Refusal} (e : Ok l ≡ decided_in declared (octets / point_size) x) where
    pub found-at-52 : x ≡ locate52 t payload → Laid t l.places × Roomy t (codes_of l.places.references.0 t payload) octets
    found-at-52 ex = found_at x (found-52 t payload ex) e

    pub found-at-53 : (d : Differencing) → x ≡ locate53 t d payload → Laid t l.places × Roomy t (codes_of l.places.references.0 t payload) octets
    found-at-53 d ex = found_at x (found-53 t payload d ex) e
