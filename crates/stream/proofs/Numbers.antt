-- A number read out of gathered octets. Assumes nothing.
use mathlib.Core.Path.{◌≡◌, sym, ap, ◌∙◌}
use mathlib.Core.List.{List}
use Prim.Native.Nat.{ℕ, zero, suc, ◌+◌, ◌-◌, ◌*◌, ◌/◌, ◌%◌, ◌^◌, ◌≤◌, ◌<◌}
use native.Mathlib.Nat.{add-zero, mod-lt, lt_of_lt_of_le}
use native.Mathlib.Omega.{arith}
use Rattle.std.proofs.Common.{add-one}
use lib.Pow.{pow_pos, pow_mono}
use lib.ListN.{length, get_or}
use Rattle.std.proofs.lemmas.List.{get_or_past}
use Rattle.std.proofs.lemmas.Nat.{pow-add, shl_whole}
use mir.Val.{Fits}
use mir.Syntax.{w32, w64}
use Rattle.format.specs.Bits.{number_at}
use Rattle.laws.specs.Bits.{Octets, gathered, number_read}
use Rattle.stream.proofs.Claims.{one_number}

-- ---- octets, the last first

-- one more in front
gathered-front : (octets : List ℕ) (at k : ℕ) → gathered octets at (suc k) ≡ gathered octets (at + 1) k + get_or octets at 0 * 2 ^ (8 * k)
unfolding gathered
gathered-front octets at zero = rw add-zero (omega arith)
gathered-front octets at (suc k) =
    let e : at + suc k ≡ at + 1 + k = omega arith in
    let m : 8 * suc k ≡ 8 * k + 8 = omega arith in
    rw (e, m, pow-add 2 (8 * k) 8) (omega (arith, gathered-front octets at k))

-- a turn of the loop of `stream::gathered_there`
module _ (octets : List ℕ) (o : Octets octets) (place n k : ℕ) {number : ℕ} (h : k < n) (few : n ≤ 8) (e : number ≡ gathered octets (place + (n - k)) k) where
  pub gathered-turn : number + get_or octets (place + n - 1 - k) 0 * 2 ^ (8 * k) % 2 ^ 64 ≡ gathered octets (place + (n - (k + 1))) (k + 1)
  gathered-turn =
      let at : ℕ = place + (n - (k + 1)) in
      let here : place + n - 1 - k ≡ at = omega arith in
      let behind : place + (n - k) ≡ at + 1 = omega arith in
      rw (here, e, behind, shl_whole (get_or octets at 0) 8 (8 * k) 64 (o at) (omega arith)) (sym (ap (gathered octets at) (add-one k) ∙ gathered-front octets at k))

  pub turn_fits : Fits w64 (number + get_or octets (place + n - 1 - k) 0 * 2 ^ (8 * k) % 2 ^ 64)
  turn_fits = omega (arith, gathered-turn, one_number octets o (place + (n - (k + 1))) (k + 1) (omega arith))

-- ---- octets past the end

-- they are zeros
gathered-past : (octets : List ℕ) (at n m : ℕ) → length octets ≤ at + n → gathered octets at (n + m) ≡ gathered octets at n * 2 ^ (8 * m)
unfolding gathered
gathered-past octets at n zero h = rw add-zero (omega arith)
gathered-past octets at n (suc m) h =
    let e : n + suc m ≡ suc (n + m) = omega arith in
    let w : 8 * suc m ≡ 8 * m + 8 = omega arith in
    rw (e, w, pow-add 2 (8 * m) 8) (omega (arith, gathered-past octets at n m h, get_or_past octets (at + (n + m)) 0 (omega (arith, h))))

-- of five, as many are there as are gathered, and the others behind them
pub five-past : (octets : List ℕ) → Octets octets → (at n m : ℕ) {g : ℕ} → length octets ≤ at + n → n + m ≡ 5 → g ≡ gathered octets at n → g * 2 ^ (8 * m) % 2 ^ 64 ≡ gathered octets at 5
five-past octets o at n m h e eg =
    let p : gathered octets at 5 ≡ gathered octets at n * 2 ^ (8 * m) = ap (gathered octets at) (sym e) ∙ gathered-past octets at n m h in
    rw (eg, ← p) (omega (arith, one_number octets o at 5 (omega arith)))

-- ---- one shift and one remainder

-- a remainder by at most 2 to the 32
pub cut_fits : (x after width : ℕ) {r : ℕ} → width ≤ 32 → r ≡ x / 2 ^ after % 2 ^ width → Fits w32 r
cut_fits x after width w e = record { fits = rw e (lt_of_lt_of_le (mod-lt (x / 2 ^ after) (pow_pos width)) (pow_mono w)) }

-- out of as many octets as were gathered
pub number-gathered : (octets : List ℕ) → Octets octets → (at count bit width : ℕ) {g r : ℕ} → bit + width ≤ count * 8
    → g ≡ gathered octets at count → r ≡ g / 2 ^ (count * 8 - bit - width) % 2 ^ width → r ≡ number_at octets (at * 8 + bit) width
number-gathered octets o at count bit width h e er = er ∙ rw e (number_read octets o at count bit width h)

-- a place is a bit of an octet
pub number-placed : (octets : List ℕ) (place width : ℕ) {octet bit r : ℕ} → octet ≡ place / 8 → (bit ≡ place % 8) × (bit ≤ 7)
    → r ≡ number_at octets (octet * 8 + bit) width → r ≡ number_at octets place width
number-placed octets place width {octet} {bit} eo eb e = let p : octet * 8 + bit ≡ place = omega arith in rw p at e
