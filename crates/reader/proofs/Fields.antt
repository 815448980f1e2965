-- Number by number the reader gives the field that document 01's bit reader gives. Assumes nothing.
use mathlib.Core.Path.{◌≡◌, sym, ap, ◌∙◌}
use mathlib.Core.Bool.{false}
use mathlib.Core.List.{List}
use Prim.Native.Nat.{ℕ, zero, suc, ◌+◌, ◌-◌, ◌*◌, ◌^◌, ◌≤◌, ◌<◌, min}
use native.Mathlib.Nat.{add-mul, mul-zero, min-eq_left}
use native.Mathlib.Omega.{arith}
use borrow.Author.Tests.{le-ltb, lt-leb, ne_eqb}
use lib.ListN.{length, get_or}
use Rattle.format.specs.Bits.{number_at, field_of, span_of}
use Rattle.format.specs.Refusals.{first}
use Rattle.laws.specs.Lists.{get_or-listed}
use Rattle.laws.specs.Bits.{product}
use Rattle.laws.specs.Spans.{span_none, span-some}
use Rattle.stream.specs.Cursor.{stepped}
use Rattle.std.specs.Prelude.{Some, Ok}
use Rattle.stream.specs.declared.Cursor.{Cursor}
use Rattle.reader.specs.Reading.{outside, taken_at, moved_on}

-- what is left of a field reaches no further than the field
span_left : (s w n k : ℕ) → k < n → span_of (s + k * w) w (n - k) ≤ span_of s w n
span_left s zero n k l = rw (span_none (s + k * 0) 0 (n - k) (mul-zero (n - k))) (omega arith)
span_left s (suc w) n k l =
    let e : n - k + k ≡ n = omega arith in
    let all : (n - k) * suc w + k * suc w ≡ n * suc w = sym (add-mul (n - k) k (suc w)) ∙ ap (λ (m : ℕ). m * suc w) e in
    let some : 1 * 1 ≤ (n - k) * suc w = product 1 1 (n - k) (suc w) (omega arith) (omega arith) in
    rw (span-some (s + k * suc w) (suc w) (n - k) (omega arith), span-some s (suc w) n (omega arith)) (omega (arith, all))

abbrev at : ℕ → ℕ → ℕ → Cursor
at place width left = record { place = record { 0 = place }; width = width; left = left }

inside : (place width left : ℕ) → place < 2 ^ 63 → width ≤ 32 → outside (at place width left) ≡ false
inside place width left hp hw = rw (le-ltb 32 width hw, lt-leb (2 ^ 63) place hp)

moves : (s w n k : ℕ) → s ≤ 7 → w ≤ 32 → k < n → moved_on (at s w n) k ≡ at (s + k * w) w (n - k)
unfolding moved_on
moves s w n k hs hw l = let few : min k n ≡ k = min-eq_left (omega arith) in rw (inside s w n (omega arith) hw, few)

takes : (octets : List ℕ) (p w n : ℕ) → p < 2 ^ 63 → w ≤ 32 → span_of p w n ≤ length octets → 0 < n → taken_at octets (at p w n) ≡ Ok (Some (number_at octets p w))
unfolding taken_at stepped first
takes octets p w n hp hw there some = rw (inside p w n hp hw, le-ltb (length octets) (span_of p w n) there, ne_eqb n 0 (λ e. omega arith))

-- number k of a field that the bit reader accepts
pub field-taken : (octets : List ℕ) (s w n k : ℕ) → s ≤ 7 → w ≤ 32 → n < 2 ^ 32 → span_of s w n ≤ length octets → k < n
    → taken_at octets (moved_on (at s w n) k) ≡ Ok (Some (get_or (field_of octets s w n) k 0))
field-taken octets s w n k hs hw hn there l =
    ap (taken_at octets) (moves s w n k hs hw l)
    ∙ takes octets (s + k * w) w (n - k) (omega (arith, product k w 4294967296 32 (omega arith) hw)) hw (omega (arith, span_left s w n k l)) (omega arith)
    ∙ ap (λ (x : ℕ). Ok (Some x)) (sym (get_or-listed n (λ i. number_at octets (s + i * w) w) 0 k l))
