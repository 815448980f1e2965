-- What writing levels answers. Assumes nothing.
use mathlib.Core.Path.{◌≡◌, refl, sym, ap, ap₂, ◌∙◌}
use mathlib.Core.Bool.{Bool, true, false}
use mathlib.Core.List.{List}
use Prim.Native.Nat.{ℕ, ◌≤◌, ◌<◌}
use native.Mathlib.Omega.{arith}
use lib.Dec.{ltb}
use lib.ListN.{length, drop}
use Rattle.format.specs.Lists.{any_of, ◌over◌}
use Rattle.format.specs.Refusals.{Row, limit, refusal_number, first, Left, left}
use Rattle.format.specs.RunLength.{code_refusals}
use Rattle.format.specs.WritingRunLength.{level_payload, write_run_length_refusals, write_run_length}
use Rattle.format.specs.declared.Refusal.{Refusal}
use Rattle.format.specs.declared.Refusal.TheVariants.{Numbers}
use Rattle.format.specs.declared.OctetPlace.{OctetPlace}
use Rattle.laws.specs.First.{Gives, Clear, gives-front, decides, leaves, passed, tests}
use Rattle.writer.specs.Pen.{payload_lent}
use Rattle.runs.specs.Runs.{counted}
use Rattle.std.specs.declared.result.Result.{Result}
use Rattle.std.specs.declared.result.Result.TheVariants.{Ok, Err}

-- octets that are answered are those of the payload
pub span-counted : (b M : ℕ) (levels : List ℕ) {s : Result OctetPlace Refusal} {octets : OctetPlace} → s ≡ counted b M levels → s ≡ Ok octets
    → (any_of (ltb M) levels ≡ false) × (octets.0 ≡ length (level_payload b M levels))
span-counted b M levels es e =
    let p = passed Err _ _ (sym e ∙ es) (λ r d. cc) in
    (p.0.0, cc)

-- what is accepted: no row refuses, and the payload stands in as many octets as it has
pub accepted : (b M : ℕ) (levels lent : List ℕ) {octets : OctetPlace} {payload : List ℕ} → left (Ok octets) payload ≡ write_run_length b M levels lent
    → Clear (write_run_length_refusals b M levels lent) × (octets.0 ≡ length (level_payload b M levels)) × (payload ≡ level_payload b M levels over lent)
unfolding write_run_length
accepted b M levels lent e =
    let p = passed (λ r. left (Err r) lent) (write_run_length_refusals b M levels lent) _ e (λ r d. cc (ap (λ (x : Left (Result OctetPlace Refusal)). x.answer) d)) in
    (p.0, cc (ap (λ (x : Left (Result OctetPlace Refusal)). x.answer) p.1), ap (λ (x : Left (Result OctetPlace Refusal)). x.buffer) p.1)

module _ (b M : ℕ) (levels lent : List ℕ) where
  abbrev rows : List Row
  rows = write_run_length_refusals b M levels lent

  refused : (r : Refusal) → Gives (refusal_number r) rows → left (Err r) lent ≡ write_run_length b M levels lent
  unfolding write_run_length
  refused r h = decides _ r _ _ h

  pub refused-code : (r : Refusal) → Gives (refusal_number r) (code_refusals b M) → left (Err r) lent ≡ write_run_length b M levels lent
  refused-code r h = refused r (gives-front (refusal_number r) (code_refusals b M) (drop (length (code_refusals b M)) rows) h)

  module _ (clear : Clear (code_refusals b M)) where
    -- 13 for "more than 4,194,304 levels"
    pub refused-many : limit < length levels → left (Err Numbers) lent ≡ write_run_length b M levels lent
    refused-many l = refused Numbers (omega (arith, tests, clear))

    module _ (few : length levels ≤ limit) {x y : ℕ} (ex : x ≡ b) (ey : y ≡ M) {s : Result OctetPlace Refusal} (es : s ≡ counted x y levels) where
      counted_is : s ≡ counted b M levels
      counted_is = es ∙ ap₂ (λ (x y : ℕ). counted x y levels) ex ey

      -- and for "a level above M"
      pub refused-above : {r : Refusal} → s ≡ Err r → left (Err r) lent ≡ write_run_length b M levels lent
      unfolding first
      refused-above {r} e = by-test (any_of (ltb M) levels) refl
        where
          by-test : (t : Bool) → any_of (ltb M) levels ≡ t → left (Err r) lent ≡ write_run_length b M levels lent
          by-test true h =
              let is : counted b M levels ≡ Err Numbers = rw h in
              ap (λ (a : Result OctetPlace Refusal). left a lent) (sym e ∙ counted_is ∙ is) ∙ refused Numbers (omega (arith, tests, clear))
          by-test false h =
              let is : counted b M levels ≡ Ok (record { 0 = length (level_payload b M levels) }) = rw h in
              cc (e, counted_is, is)

      module _ {octets : OctetPlace} (e : s ≡ Ok octets) where
        -- 10 is left
        pub left-to-room : {answer : Result OctetPlace Refusal} {payload : List ℕ} → left answer payload ≡ payload_lent (level_payload x y levels) lent → left answer payload ≡ write_run_length b M levels lent
        unfolding write_run_length
        left-to-room h =
            let none : any_of (ltb M) levels ≡ false = rw ey at (span-counted x y levels es e).0 in
            h ∙ ap₂ (λ (x y : ℕ). payload_lent (level_payload x y levels) lent) ex ey
            ∙ leaves (λ r. left (Err r) lent) 5 rows _ (omega (arith, tests, clear, none))
