-- A payload that is written where it has room. Assumes nothing.
use mathlib.Core.Path.{◌≡◌, refl, ap₂, ◌∙◌}
use mathlib.Core.List.{List, []}
use Prim.Native.Nat.{ℕ, ◌≤◌, ◌<◌}
use native.Mathlib.Omega.{arith}
use lib.ListN.{length}
use Rattle.format.specs.Lists.{listed, ◌over◌}
use Rattle.format.specs.Bits.{number_of, padded}
use Rattle.format.specs.Refusals.{left}
use Rattle.format.specs.declared.Refusal.TheVariants.{Room}
use Rattle.format.specs.declared.OctetPlace.{OctetPlace}
use Rattle.std.specs.declared.result.Result.TheVariants.{Ok, Err}
use Rattle.laws.specs.First.{decides, clears, tests}
use Rattle.laws.specs.Strings.{length-padded}
use Rattle.writer.specs.Pen.{fresh, Ready, Moved, Finished, payload_lent}
use Rattle.writer.specs.declared.Pen.{Pen}

module _ (payload lent : List ℕ) {octets : OctetPlace} (e : octets.0 ≡ length payload) where
  pub lent-refused : length lent < octets.0 → left (Err Room) lent ≡ payload_lent payload lent
  lent-refused l = decides (λ r. left (Err r) lent) Room _ _ ((λ h. omega arith), λ h. omega (arith, tests))

  pub lent_written : octets.0 ≤ length lent → {written : List ℕ} → written ≡ payload over lent → left (Ok octets) written ≡ payload_lent payload lent
  lent_written l d = ap₂ (λ (n : ℕ) (o : List ℕ). left (Ok (record { 0 = n })) o) e d ∙ clears (λ r. left (Err r) lent) _ _ (omega (arith, tests), tt)

-- a string of bits that a pen writes from the first octet on
module _ {string lent octets : List ℕ} {q : Pen} (m : Moved (fresh (record { 0 = 0 })) string lent octets q) where
  pub first-ready : length (padded string) ≤ length lent → Ready q 0 octets
  first-ready l = record { room = omega (arith, m.place, m.long, length-padded string) }

  pub first_done : {octets' : List ℕ} → Finished q octets octets' → octets' ≡ padded string over lent
  unfolding listed number_of
  first_done f = f _ _ (m.held [] lent (record { bits = λ i. omega arith; count = refl; value = refl; front = refl; long = refl }))
