-- Writing a field with the pen. Assumes nothing.
use mathlib.Core.Path.{◌≡◌, refl, sym, ap, ap₂, ◌∙◌}
use mathlib.Core.Bool.{false}
use mathlib.Core.List.{List, [], ◌∷◌, ◌++◌, append-nil}
use Prim.Native.Nat.{ℕ, ◌+◌, ◌-◌, ◌*◌, ◌/◌, ◌%◌, ◌^◌, ◌≤◌, ◌<◌}
use native.Mathlib.Nat.{zero-add, zero-mul, mul-pos, suc-mul, mul-le-mul_right}
use native.Mathlib.Numerals.{add-one}
use native.Mathlib.Omega.{arith}
use lib.Dec.{leb}
use lib.ListN.{length, get_or, take, length-append}
use lib.Seq.{take-suc, take_all, length-take-le}
use Rattle.format.specs.Lists.{listed, any_of}
use Rattle.format.specs.Bits.{bit_at, number_of, bit, string_of, span_of, rounded_up, written, write_refusals, write_field}
use Rattle.format.specs.Refusals.{left}
use Rattle.format.specs.declared.OctetPlace.{OctetPlace}
use Rattle.std.specs.declared.result.Result.TheVariants.{Ok}
use Rattle.laws.specs.First.{Clear, clears}
use Rattle.laws.specs.Lists.{length-listed, get_or-listed}
use Rattle.laws.specs.Bits.{bit-lt, number-ext, number-mid, octet as octet-is}
use Rattle.laws.specs.Strings.{bits-listed, length-string, string-append}
use Rattle.laws.specs.Spans.{span-some}
use Rattle.laws.specs.Written.{fits_each, written-empty}
use Rattle.writer.specs.Pen.{Held, Ready, Moved, Finished}
use Rattle.writer.specs.Job.{Job}
use Rattle.writer.specs.declared.Pen.{Pen}
use Rattle.writer.proofs.Pens.{moved_none, moved_then, moved_ready}

-- ---- number by number

pub none-moved : (w : ℕ) (xs : List ℕ) (p : Pen) (octets : List ℕ) → Moved p (string_of w (take 0 xs)) octets octets p
unfolding listed
none-moved w xs p octets = rw (zero-mul w) (moved_none p octets)

module _ (w : ℕ) (xs : List ℕ) (k : ℕ) (l : k < length xs) where
  string-next : string_of w (take (k + 1) xs) ≡ string_of w (take k xs) ++ string_of w (get_or xs k 0 ∷ [])
  string-next = rw (add-one k, take-suc xs k 0 l) (string-append w (take k xs) (get_or xs k 0 ∷ []))

  -- there is room for one number more
  pub number-ready : {p q : Pen} {octets octets' : List ℕ} → Ready p (length xs * w) octets → Moved p (string_of w (take k xs)) octets octets' q → Ready q w octets'
  number-ready r m =
      moved_ready m w r
      (omega (arith, length-string w (take k xs), ap (λ (n : ℕ). n * w) (length-take-le k xs (omega arith)), mul-le-mul_right w l, suc-mul k w))

  -- and it is written
  pub number-moved : {p q r : Pen} {octets octets' octets'' : List ℕ} {x : ℕ} → Moved p (string_of w (take k xs)) octets octets' q → x ≡ get_or xs k 0
      → Moved q (string_of w (x ∷ [])) octets' octets'' r → Moved p (string_of w (take (k + 1) xs)) octets octets'' r
  number-moved m e n = rw (string-next, ← e) (moved_then m n)

pub number_fits : (w : ℕ) (xs : List ℕ) (k : ℕ) {x : ℕ} → any_of (leb (2 ^ w)) xs ≡ false → x ≡ get_or xs k 0 → k < length xs → x < 2 ^ w
number_fits w xs k h ex l = omega (arith, fits_each w xs h k l)

pub all_moved : {p q : Pen} {octets octets' : List ℕ} (w : ℕ) (xs : List ℕ) (k : ℕ) → Moved p (string_of w (take k xs)) octets octets' q → length xs ≤ k
    → Moved p (string_of w xs) octets octets' q
all_moved w xs k m l = rw (take_all k xs l) at m

-- ---- from the first octet's bits before the start to the end

module _ {lent : List ℕ} {s w : ℕ} {xs : List ℕ} (j : Job lent s w xs) where
  length-written : length (listed s (bit_at lent) ++ string_of w xs) ≡ s + length xs * w
  length-written = length-append (listed s (bit_at lent)) (string_of w xs) ∙ omega (arith, length-listed s (bit_at lent), length-string w xs)

  pub span-is : span_of s w (length xs) ≡ rounded_up (length (listed s (bit_at lent) ++ string_of w xs))
  span-is = rw length-written (span-some s w (length xs) (mul-pos j.some j.pos))

  pub job-room : 0 < length lent
  job-room = omega (arith, span-is, j.room, length-written, mul-pos j.some j.pos)

  -- the pen that holds the first octet's bits before the start
  module _ {x : ℕ} (octet : get_or lent 0 0 < 256) (ex : x ≡ get_or lent 0 0 / 2 ^ (8 - s) % 2 ^ s) where
    job-held : Held (listed s (bit_at lent)) lent lent 0 x s
    unfolding listed
    job-held =
        let m : 8 ≡ 0 + s + (8 - s) = omega (arith, j.low) in
        record {
          bits = bits-listed s (bit_at lent) (bit-lt 8 lent);
          count = length-listed s (bit_at lent) ∙ omega arith;
          value =
              ex ∙ ap (λ (y : ℕ). y / 2 ^ (8 - s) % 2 ^ s) (sym (octet-is lent 0 octet) ∙ ap (number_of (bit_at lent) 0) m)
              ∙ number-mid (bit-lt 8 lent) 0 0 s (8 - s)
              ∙ number-ext (bit_at lent) (bit (listed s (bit_at lent))) 0 0 s (λ i l. rw zero-add (sym (get_or-listed s (bit_at lent) 0 i l)));
          front = refl;
          long = refl;
        }

  module _ {x : ℕ} {few : s ≤ 7} {small : x < 2 ^ s} where
    pub job-ready : Ready (record { place = record { 0 = 0 }; number = x; pending = s; few = few; small = small }) (length xs * w) lent
    job-ready = record { room = omega (arith, span-is, j.room, length-written) }

    module _ {q : Pen} {octets : List ℕ} (m : Moved (record { place = record { 0 = 0 }; number = x; pending = s; few = few; small = small }) (string_of w xs) lent octets q) where
      pub job-finish : Ready q 0 octets
      job-finish = moved_ready m 0 job-ready (omega (arith, length-string w xs))

      pub job-done : get_or lent 0 0 < 256 → x ≡ get_or lent 0 0 / 2 ^ (8 - s) % 2 ^ s → {octets' : List ℕ} → Finished q octets octets' → octets' ≡ written [] lent s w xs
      job-done octet ex f = rw (append-nil (listed s (bit_at lent) ++ string_of w xs), span-is) (f _ _ (m.held _ _ (job-held octet ex)))

-- ---- the answer

-- where no row refuses: the span, and what is written, which of an empty list is nothing
module _ (xs : List ℕ) (s w : ℕ) (lent : List ℕ) {span : OctetPlace} (e : span.0 ≡ span_of s w (length xs)) (h : Clear (write_refusals xs s w lent)) where
  pub field-written : {octets : List ℕ} → octets ≡ written [] lent s w xs → left (Ok span) octets ≡ write_field xs s w lent
  unfolding write_field
  field-written d = ap₂ (λ (n : ℕ) (o : List ℕ). left (Ok (record { 0 = n })) o) e d ∙ clears _ _ _ h

  pub field-empty : length xs ≡ 0 → left (Ok span) lent ≡ write_field xs s w lent
  field-empty n = field-written (written-empty [] lent s w xs n)
