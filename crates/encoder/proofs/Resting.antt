-- From the stored groups to the payload and the summary. Assumes nothing.
use mathlib.Core.Path.{◌≡◌, refl, sym, ap, ◌∙◌}
use mathlib.Core.List.{List, [], ◌∷◌}
use Prim.Native.Nat.{ℕ, ◌<◌, ◌^◌}
use native.Mathlib.Omega.{arith}
use lib.Dec.{ltb}
use lib.ListN.{length}
use Rattle.std.specs.declared.result.Result.{Result}
use Rattle.std.specs.declared.result.Result.TheVariants.{Ok, Err}
use Rattle.format.specs.Lists.{◌over◌}
use Rattle.format.specs.Layout.{in_fours}
use Rattle.format.specs.Refusals.{◌gives◌, first, Left, left}
use Rattle.format.specs.Packing.{template_of, payload_of, summary_numbers}
use Rattle.format.specs.declared.OctetPlace.{OctetPlace}
use Rattle.format.specs.declared.Packed.{Packed}
use Rattle.format.specs.declared.Refusal.{Refusal}
use Rattle.format.specs.declared.Refusal.TheVariants.{Room}
use Rattle.format.specs.declared.Template.{Template}
use Rattle.laws.specs.First.{passed, first-through}
use Rattle.section7.specs.Parts.{payload_lent}

-- what is left once the groups are stored: the answer, and the payload and the summary as they are left
pub record Rest : Type 0 where
  pub answer : Result Packed Refusal
  pub payload : List ℕ
  pub summary : List ℕ

abbrev pub rest : List ℕ → List (List ℕ) → List ℕ → List ℕ → Rest
rest numbers groups payload summary =
    let template = template_of numbers groups in
    let octets = payload_of template groups in
    first (λ r. record { answer = Err r; payload = payload; summary = summary }) (ltb (length payload) (length octets) gives Room ∷ [])
    (record {
      answer = Ok (record { template = template; octets = record { 0 = length octets } });
      payload = octets over payload;
      summary = in_fours (summary_numbers template template.groups (length octets)) over summary;
    })

-- what the payload's outcome is made: the answer, and the summary
abbrev packed_by : Template → Result OctetPlace Refusal → Result Packed Refusal
packed_by t (Ok octets) = Ok (record { template = t; octets = octets })
packed_by t (Err r) = Err r

abbrev summarised : Template → List ℕ → Result OctetPlace Refusal → List ℕ
summarised t summary (Ok octets) = in_fours (summary_numbers t t.groups octets.0) over summary
summarised t summary (Err r) = summary

abbrev after : Template → List ℕ → Left (Result OctetPlace Refusal) → Rest
after t summary outcome = record { answer = packed_by t outcome.answer; payload = outcome.buffer; summary = summarised t summary outcome.answer }

abbrev spans : Result OctetPlace Refusal → ℕ
spans (Ok octets) = octets.0
spans (Err r) = 0

module _ (numbers : List ℕ) (groups : List (List ℕ)) (payload summary : List ℕ) where
  abbrev t : Template
  t = template_of numbers groups

  module _ {template : Template} (et : template ≡ t) {answer : Result OctetPlace Refusal} {leaves : List ℕ} (e : left answer leaves ≡ payload_lent (payload_of template groups) payload) where
    given : left answer leaves ≡ payload_lent (payload_of t groups) payload
    given = rw et at e

    whole : {a : Result OctetPlace Refusal} → answer ≡ a → after t summary (left a leaves) ≡ rest numbers groups payload summary
    whole d = ap (λ (x : Result OctetPlace Refusal). after t summary (left x leaves)) (sym d) ∙ ap (after t summary) given ∙ first-through _ _ (after t summary) (λ r. refl) _ _

    pub rest-refused : {r : Refusal} → answer ≡ Err r → record { answer = Err r; payload = leaves; summary = summary } ≡ rest numbers groups payload summary
    rest-refused d = whole d

    pub rest-packed : {octets : OctetPlace} → answer ≡ Ok octets → {written : List ℕ} → written ≡ in_fours (summary_numbers template template.groups octets.0) over summary
        → record { answer = Ok (record { template = template; octets = octets }); payload = leaves; summary = written } ≡ rest numbers groups payload summary
    rest-packed d s = rw (s, et) (whole d)

    pub rest-short : {octets : OctetPlace} → answer ≡ Ok octets → length (payload_of t groups) < 2 ^ 32 → octets.0 < 2 ^ 32
    rest-short d h =
        let p = passed (λ r. left (Err r) payload) _ _ given (λ r f. absurd (let x = sym d ∙ ap (λ (x : Left (Result OctetPlace Refusal)). x.answer) f in cc)) in
        omega (arith, ap spans (sym d ∙ ap (λ (x : Left (Result OctetPlace Refusal)). x.answer) p.1))
