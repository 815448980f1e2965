-- "What is written is read back": the bit writer and the bit reader together. Assumes nothing.
use Rattle.std.specs.Prelude.{◌≡◌, List, [], ℕ, ◌*◌, ◌≤◌, length}
use Rattle.std.proofs.Common.{sym, ap, ◌∙◌, arith}
use Rattle.format.specs.Lists.{◌over◌}
use Rattle.format.specs.Refusals.{Left, left}
use Rattle.format.specs.Bits.{number_of, bit, span_of, octets_of, written_bits, written, field_of, write_refusals, read_refusals, read_field, write_field}
use Rattle.format.specs.declared.OctetPlace.{OctetPlace}
use Rattle.laws.specs.First.{clears, clear-row, among, passed, tests}
use Rattle.laws.specs.Lists.{length-listed, length_over}
use Rattle.laws.specs.Written.{read-written}
use Rattle.format.specs.declared.Refusal.{Refusal}
use Rattle.std.specs.declared.result.Result.{Result}
use Rattle.std.specs.declared.result.Result.TheVariants.{Ok, Err}

abbrev spans : Result OctetPlace Refusal → ℕ
spans (Ok octets) = 1
spans (Err r) = 0

-- whatever list the writer accepted, the reader gives it back from the octets that the writer left
pub written-is-read : (xs : List ℕ) (s w : ℕ) (lent numbers : List ℕ) {span : OctetPlace} {octets : List ℕ}
    → left (Ok span) octets ≡ write_field xs s w lent → length xs ≤ length numbers
    → left (Ok tt) (xs over numbers) ≡ read_field octets s w (length xs) numbers
unfolding read_field write_field
written-is-read xs s w lent numbers {span} {octets} e room =
    let p = passed (λ r. left (Err r) lent) (write_refusals xs s w lent) _ e (λ r d. absurd (omega (arith, ap (λ (x : Left (Result OctetPlace Refusal)). spans x.answer) d))) in
    let same : octets ≡ written [] lent s w xs = ap (λ (x : Left (Result OctetPlace Refusal)). x.buffer) p.1 in
    let clear = p.0 in
    let n = span_of s w (length xs) in
    let long : length octets ≡ length lent =
    ap length same ∙ length_over (octets_of (written_bits [] lent s w xs) n) lent (omega (arith, tests, length-listed n (λ j. number_of (bit (written_bits [] lent s w xs)) (j * 8) 8))) in
    let back : field_of octets s w (length xs) ≡ xs = rw same (read-written [] lent s w xs (λ j. omega arith) (clear-row (write_refusals xs s w lent) clear (search among depth 20))) in
    ap (λ (l : List ℕ). left (Ok tt) (l over numbers)) (sym back)
    ∙ clears (λ r. left (Err r) numbers) (read_refusals octets s w (length xs) numbers) _ (omega (arith, tests, long))
