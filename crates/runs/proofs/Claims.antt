-- Document 02, No. 5: what it asks to be shown. Assumes nothing.
use mathlib.Core.Path.{◌≡◌, refl, sym, ap, ap₂, ◌∙◌}
use mathlib.Core.Bool.{Bool, true, false}
use mathlib.Core.List.{List, [], ◌∷◌, ◌++◌, append-nil, flat_map}
use Prim.Native.Nat.{ℕ, zero, suc, ◌+◌, ◌-◌, ◌*◌, ◌/◌, ◌^◌, ◌≤◌, ◌<◌}
use native.Mathlib.Nat.{zero-mul, zero-div, zero-mod, le-div_iff_mul-le}
use native.Mathlib.Omega.{arith}
use lib.Dec.{ltb}
use lib.ListN.{length, replicate, length-append, get_or-eq_default}
use lib.Seq.{take_at}
use borrow.Author.Tests.{ltb-true, ltb-false, eqb-true, eq-eqb}
use Rattle.format.specs.Lists.{listed, any_of, ◌over◌}
use Rattle.format.specs.Bits.{bit_in, bit_at, field_of, string_of, rounded_up}
use Rattle.format.specs.Layout.{level_size, level_octets}
use Rattle.format.specs.Refusals.{first, room_refusals, left}
use Rattle.format.specs.RunLength.{whole_codes, codes_up_to, base_of, levels_of, levels_up_to, only_padding, stops_before, codes_read, repeats_first, run_length_refusals, run_length_up_to}
use Rattle.format.specs.WritingRunLength.{runs_of, level_codes, level_payload, write_run_length_refusals, write_run_length}
use Rattle.laws.specs.First.{leaves, clears, tests}
use Rattle.laws.specs.Lists.{either_left, either-right, both, where-holds, where-first}
use Rattle.laws.specs.Bits.{bit-listed, field-add}
use Rattle.laws.specs.Strings.{bits-string, length-string, length-padded}
use Rattle.laws.specs.Parts.{field-alone}
use Rattle.laws.specs.Written.{fits_each}
use Rattle.laws.specs.RunLength.{behind, zero-padding}
use Rattle.runs.specs.Claims.{LevelsBack, AcceptedIsWritten, WritableIsAccepted, OnePayload, RunsAreLongest, NumberFive}
use Rattle.runs.proofs.These.{digits-these}
use Rattle.runs.proofs.Answer.{accepted}
use Rattle.runs.proofs.Longest.{runs-longest, runs-are}
use Rattle.runs.proofs.Few.{payload-few}
use Rattle.runs.proofs.Back.{levels-codes, first_code, codes-fit}
use Rattle.std.specs.declared.result.Result.TheVariants.{Ok, Err}

-- the front of a list that is as long as the list
front-all : (front rest : List ℕ) {all : List ℕ} → front ++ rest ≡ all → length front ≡ length all → front ≡ all
front-all front [] e h = sym (append-nil front) ∙ e
front-all front (x ∷ rest) e h = absurd (omega (arith, ap length e, length-append front (x ∷ rest)))

-- ---- reading a payload

module _ (b M : ℕ) (levels : List ℕ) (some : 0 < b) (low : M ≤ 2 ^ b - 1) (none_above : any_of (ltb M) levels ≡ false) where
  abbrev codes : List ℕ
  codes = level_codes b M levels

  abbrev payload : List ℕ
  payload = level_payload b M levels

  size-payload : length payload ≡ rounded_up (length codes * b)
  size-payload = length-padded (string_of b codes) ∙ ap rounded_up (length-string b codes)

  -- its first codes
  codes-there : codes_up_to b payload (length codes) ≡ codes
  codes-there = rw (append-nil payload) at (field-alone [] [] b codes (fits_each b codes (codes-fit b M low levels none_above)))

  levels-there : levels_up_to b M payload (length codes) ≡ levels
  unfolding levels_up_to
  levels-there = rw codes-there (levels-codes b M levels none_above)

  -- behind them only padding is left
  none-set : (i : ℕ) → length codes * b ≤ i → bit_at payload i ≡ 0
  unfolding bit_in
  none-set i l = by-test (ltb i (length payload * 8)) refl
    where
      by-test : (t : Bool) → ltb i (length payload * 8) ≡ t → bit_at payload i ≡ 0
      by-test true m =
          let inside : i < rounded_up (length (string_of b codes)) * 8 = omega (arith, ltb-true i (length payload * 8) m, length-padded (string_of b codes)) in
          bit-listed (bits-string b codes) (rounded_up (length (string_of b codes))) i inside ∙ get_or-eq_default (string_of b codes) 0 (omega (arith, length-string b codes))
      by-test false m = rw (get_or-eq_default payload 0 {n = i / 8} (omega (arith, ltb-false i (length payload * 8) m)), zero-div, zero-mod)

  padding-there : only_padding payload (length codes * b) ≡ true
  padding-there = zero-padding payload (length codes * b) (omega (arith, size-payload)) none-set

  whole-there : length codes ≤ whole_codes b payload
  whole-there = (le-div_iff_mul-le {k = b} {x = length codes} {y = length payload * 8} some).1 (omega (arith, size-payload))

  -- so reading stops there, or before
  abbrev read : ℕ
  read = codes_read b M (length levels) payload

  read-within : read ≤ length codes
  unfolding codes_read
  read-within =
      where-first (whole_codes b payload) (stops_before b M (length levels) payload) (length codes)
      (rw (levels-there, padding-there, eq-eqb (length levels) (length levels) refl))

  -- and wherever it stops, all levels are read
  read_all : levels_up_to b M payload read ≡ levels
  unfolding codes_read levels_up_to
  read_all = by-test (ltb read (length codes)) refl
    where
      by-test : (t : Bool) → ltb read (length codes) ≡ t → levels_up_to b M payload read ≡ levels
      by-test true h =
          let before : read < length codes = ltb-true read (length codes) h in
          let stops = where-holds (whole_codes b payload) (stops_before b M (length levels) payload) (omega (arith, before, whole-there)) in
          let reached = eqb-true (length (levels_up_to b M payload read)) (length levels) (both _ (only_padding payload (read * b)) stops).0 in
          let m : ℕ = length codes - read in
          let e : read + m ≡ length codes = omega (arith, before) in
          let r = behind M (base_of b M) 0 1 (field_of payload 0 b read) in
          let front = sym (r.levels (field_of payload (0 + read * b) b m)) ∙ ap (levels_of M (base_of b M) 0 1) (sym (field-add payload 0 b read m)) ∙ ap (levels_up_to b M payload) e ∙ levels-there in
          front-all (levels_up_to b M payload read) _ front reached
      by-test false h = let e : read ≡ length codes = omega (arith, read-within, ltb-false read (length codes) h) in rw e levels-there

  -- of no codes there is no octet
  none_left : codes ≡ [] → whole_codes b payload - length codes ≡ 0
  none_left none =
      let size : length payload ≡ 0 = omega (arith, size-payload, ap (λ (l : List ℕ). length l * b) none, zero-mul b) in
      let whole : whole_codes b payload ≡ 0 = ap (λ (n : ℕ). n * 8 / b) size ∙ zero-div b in
      omega arith

  -- the first code of all is a level
  pub first-level : repeats_first M (codes_up_to b payload (whole_codes b payload)) ≡ false
  unfolding listed repeats_first
  first-level =
      let m : ℕ = whole_codes b payload - length codes in
      let e : length codes + m ≡ whole_codes b payload = omega (arith, whole-there) in
      let all : codes_up_to b payload (whole_codes b payload) ≡ codes ++ field_of payload (0 + length codes * b) b m =
      ap (codes_up_to b payload) (sym e) ∙ field-add payload 0 b (length codes) m ∙ ap (λ (l : List ℕ). l ++ field_of payload (0 + length codes * b) b m) codes-there in
      rw all (first_code b M levels (field_of payload (0 + length codes * b) b m) none_above (λ none. ap (λ (n : ℕ). repeats_first M (field_of payload (0 + length codes * b) b n)) (none_left none)))

levels-back : LevelsBack
unfolding run_length_up_to
levels-back b M levels w lent =
    let payload = level_payload b M levels in
    let read = codes_read b M (length levels) payload in
    let all = read_all b M levels w.coding.some w.coding.low w.none_above in
    let reached = ap length all in
    sym
    (leaves (λ r. left (Err r) lent) 6 (run_length_refusals b M (length levels) payload read lent) _
    (omega (arith, tests, w.coding.some, w.coding.few, w.coding.low, w.limited, first-level b M levels w.coding.some w.coding.low w.none_above, reached)))
    ∙ ap
    (λ (l : List ℕ). first (λ r. left (Err r) lent) (room_refusals level_size lent (length levels)) (left (Ok (length levels)) (flat_map level_octets l over lent)))
    all

-- levels of no bits are all 0
zeros : (levels : List ℕ) → any_of (ltb 0) levels ≡ false → levels ≡ replicate (length levels) 0
unfolding any_of
zeros [] h = refl
zeros (level ∷ levels) h =
    let low = ltb-false 0 level (either_left (ltb 0 level) (any_of (ltb 0) levels) h) in
    ap₂ (λ (x : ℕ) (l : List ℕ). x ∷ l) (omega arith) (zeros levels (either-right (ltb 0 level) (any_of (ltb 0) levels) h))

one-payload : OnePayload
one-payload zero M levels others low h k e p =
    let none : M ≡ 0 = omega arith in
    zeros levels (rw none at h) ∙ ap (λ (n : ℕ). replicate n 0) e ∙ sym (zeros others (rw none at k))
one-payload (suc b) M levels others low h k e p =
    sym (read_all (suc b) M levels (omega arith) low h) ∙ rw (e, p) (read_all (suc b) M others (omega arith) low k)

accepted-written : AcceptedIsWritten
accepted-written b M levels lent octets payload e =
    let p = accepted b M levels lent (sym e) in
    let clear = p.0 in (
      record { coding = record { some = omega (arith, tests); few = omega (arith, tests); low = omega (arith, tests) }; none_above = clear.1.1.1.0; limited = omega (arith, tests) },
      rw (p.1, p.2) (take_at (level_payload b M levels) _ (length (level_payload b M levels)) refl),
    )

writable-accepted : WritableIsAccepted
unfolding write_run_length
writable-accepted b M levels lent w room =
    sym (clears (λ r. left (Err r) lent) (write_run_length_refusals b M levels lent) _ (omega (arith, tests, w.coding.some, w.coding.few, w.coding.low, w.none_above, w.limited)))

are-longest : RunsAreLongest
are-longest levels = (runs-longest levels, λ runs l. sym (runs-are runs l.none-empty l.none-twice) ∙ ap runs_of l.make)

pub number-five : NumberFive
number-five = (levels-back, accepted-written, writable-accepted, payload-few, one-payload, are-longest, digits-these)
