-- What document 02, No. 4, asks to be shown, to be read beside it. The proofs stand in proofs/Claims.antt, and what shows that each
-- premise is needed in proofs/Needed.antt. Assumes nothing.
use Rattle.std.specs.Prelude.{◌≡◌, ◌⊎◌, false, ℕ, ◌-◌, ◌*◌, ◌^◌, ◌≤◌, ◌<◌, length}
use mathlib.Core.List.{List, flat_map}
use Rattle.format.specs.Lists.{◌over◌}
use Rattle.format.specs.Bits.{bit_at}
use Rattle.format.specs.Layout.{level_size, level_octets}
use Rattle.format.specs.Refusals.{limit, first, room_refusals, Left, left}
use Rattle.format.specs.RunLength.{whole_codes, codes_up_to, levels_up_to, codes_read, repeats_first, run_length_up_to, run_length}
use Rattle.format.specs.declared.Refusal.{Refusal}
use Rattle.format.specs.declared.Refusal.TheVariants.{Points}
use Rattle.std.specs.declared.result.Result.{Result}
use Rattle.std.specs.declared.result.Result.TheVariants.{Ok, Err}

-- Document 01's rule, which No. 4 amends: "All whole codes in the payload are read".
abbrev pub run_length_of_all : ℕ → ℕ → ℕ → List ℕ → List ℕ → Left (Result ℕ Refusal)
run_length_of_all b M declared payload lent = run_length_up_to b M declared payload (whole_codes b payload) lent

-- ---- "Nothing accepted earlier changes.": answer and lent levels

abbrev pub NothingAcceptedChanges : Type 0
NothingAcceptedChanges =
    (b M declared : ℕ) (payload lent : List ℕ) (count : ℕ) → (run_length_of_all b M declared payload lent).answer ≡ Ok count
    → run_length b M declared payload lent ≡ run_length_of_all b M declared payload lent

-- ---- "Refusals: 9 is narrowed as said."

-- Exactly here the two rules differ. A whole code is among the bits that are left, so that b is 1 to 7.
pub record PaddingLeft (b M declared : ℕ) (payload : List ℕ) : Type 0 where
  -- neither 5 nor 11 refuses, nor 9 for a count above its limit
  pub low : M ≤ 2 ^ b - 1
  pub level-first : repeats_first M (codes_up_to b payload (whole_codes b payload)) ≡ false
  pub limited : declared ≤ limit
  -- "once the declared count is reached", "before any code": so many codes, and there is another
  pub codes : ℕ
  pub another : codes < whole_codes b payload
  pub reached : length (levels_up_to b M payload codes) ≡ declared
  -- "fewer than 8 bits are left, all zero"; past the payload's end a bit is 0
  pub few : length payload * 8 - codes * b < 8
  pub none-set : (i : ℕ) → codes * b ≤ i → bit_at payload i ≡ 0

-- Where padding is left, document 01's rule refuses with 9, and this one answers the levels of those codes, or 10 where too little
-- is lent. Everywhere else the two answer alike, 5, 11 and 10 too.
pub record Narrowed (b M declared : ℕ) (payload lent : List ℕ) : Type 0 where
  pub elsewhere : (run_length b M declared payload lent ≡ run_length_of_all b M declared payload lent) ⊎ PaddingLeft b M declared payload
  pub refused : PaddingLeft b M declared payload → run_length_of_all b M declared payload lent ≡ left (Err Points) lent
  pub accepted : (p : PaddingLeft b M declared payload) → run_length b M declared payload lent
      ≡ first (λ r. left (Err r) lent) (room_refusals level_size lent declared)
      (left (Ok declared) (flat_map level_octets (levels_up_to b M payload p.codes) over lent))

abbrev pub NineNarrowed : Type 0
NineNarrowed = (b M declared : ℕ) (payload lent : List ℕ) → Narrowed b M declared payload lent

-- 11 looks at a code that is read: whatever is declared, reading does not stop before the first.
abbrev pub FirstIsRead : Type 0
FirstIsRead = (b M declared : ℕ) (payload : List ℕ) → 0 < whole_codes b payload → 0 < codes_read b M declared payload

abbrev pub NumberFour : Type 0
NumberFour = NothingAcceptedChanges × NineNarrowed × FirstIsRead
