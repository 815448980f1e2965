-- The laws of run-length maps. Assumes nothing.
use Rattle.std.specs.Prelude.{◌≡◌, Bool, List, [], ◌∷◌, ◌++◌, replicate}
use Rattle.std.proofs.Math.Path.{refl, sym}
use Rattle.std.proofs.Common.{ap, ◌∙◌, append_assoc}
use Rattle.std.proofs.Math.Bool.{true, false}
use Prim.Native.Nat.{ℕ, zero, suc, ◌+◌, ◌-◌, ◌*◌, ◌/◌, ◌≤◌, ◌<◌}
use Rattle.std.proofs.Math.Nat.{zero-div, zero-mod}
use native.Mathlib.Omega.{arith}
use Rattle.std.proofs.Math.Dec.{ltb}
use Rattle.std.proofs.Math.ListN.{length, get_or-eq_default}
use borrow.Author.Tests.{ltb-true, ltb-false, lt-ltb, le-ltb, eq-eqb, eqb-true}
use Rattle.format.specs.Bits.{bit_in, bit_at, number_at, field_of}
use Rattle.format.specs.RunLength.{base_of, levels_of, levels_up_to, only_padding}
use Rattle.laws.specs.Lists.{both, listed-ext, listed_same, length_more}
use Rattle.laws.specs.Bits.{bit-lt, number_bit, number-zero, field-add}

-- ---- codes behind other codes: they go on from the level and the weight that those leave

pub record Behind (M base level weight : ℕ) (codes : List ℕ) : Type 0 where
  pub last : ℕ
  pub raised : ℕ
  pub levels : (more : List ℕ) → levels_of M base level weight (codes ++ more) ≡ levels_of M base level weight codes ++ levels_of M base last raised more

pub behind : (M base level weight : ℕ) (codes : List ℕ) → Behind M base level weight codes
unfolding levels_of
behind M base level weight [] = record { last = level; raised = weight; levels = λ more. refl }
behind M base level weight (code ∷ codes) = by-test (ltb M code) refl (behind M base level (weight * base) codes) (behind M base code 1 codes)
  where
    by-test : (t : Bool) → ltb M code ≡ t → Behind M base level (weight * base) codes → Behind M base code 1 codes → Behind M base level weight (code ∷ codes)
    by-test true h r s = record {
      last = r.last;
      raised = r.raised;
      levels = λ more.
          rw (h, r.levels more)
          (sym (append_assoc (replicate ((code - M - 1) * weight) level) (levels_of M base level (weight * base) codes) (levels_of M base r.last r.raised more)));
    }
    by-test false h r s = record { last = s.last; raised = s.raised; levels = λ more. rw (h, s.levels more) }

-- ---- padding

-- a level that stands several times; code 0 is one, whatever M is
pub levels-same : (M base last weight level n : ℕ) → level ≤ M → levels_of M base last weight (replicate n level) ≡ replicate n level
unfolding levels_of
levels-same M base last weight level zero l = refl
levels-same M base last weight level (suc n) l = rw (le-ltb M level l) (ap (λ (levels : List ℕ). level ∷ levels) (levels-same M base level 1 level n l))

module _ (payload : List ℕ) (p : ℕ) where
  -- "fewer than 8 bits are left, all zero": and past the payload's end there is none
  pub padding-few : only_padding payload p ≡ true → length payload * 8 - p < 8
  unfolding only_padding
  padding-few h = ltb-true (length payload * 8 - p) 8 (both (ltb (length payload * 8 - p) 8) _ h).0

  pub padding-zero : only_padding payload p ≡ true → (i : ℕ) → p ≤ i → bit_at payload i ≡ 0
  unfolding only_padding bit_in
  padding-zero h i l = by-test (ltb i (length payload * 8)) refl
    where
      by-test : (t : Bool) → ltb i (length payload * 8) ≡ t → bit_at payload i ≡ 0
      by-test true m =
          let w : ℕ = length payload * 8 - p in
          let none : number_at payload p w ≡ 0 = eqb-true (number_at payload p w) 0 (both (ltb w 8) _ h).1 in
          let here : p + (i - p) ≡ i = omega arith in
          sym (ap (bit_at payload) here) ∙ sym (number_bit (bit-lt 8 payload) p w (i - p) (omega (arith, ltb-true i (length payload * 8) m))) ∙ rw (none, zero-div, zero-mod)
      by-test false m = rw (get_or-eq_default payload 0 {n = i / 8} (omega (arith, ltb-false i (length payload * 8) m)), zero-div, zero-mod)

  pub zero-padding : length payload * 8 - p < 8 → ((i : ℕ) → p ≤ i → bit_at payload i ≡ 0) → only_padding payload p ≡ true
  unfolding only_padding
  zero-padding few none =
      let w : ℕ = length payload * 8 - p in
      rw (lt-ltb w 8 few) (eq-eqb (number_at payload p w) 0 (number-zero (bit_at payload) p w (λ i l. none (p + i) (omega arith))))

-- behind padding every code is a level more, whether it is whole or not
pub levels-padded : (b M : ℕ) (payload : List ℕ) (n m : ℕ) → only_padding payload (n * b) ≡ true
    → levels_up_to b M payload (n + m) ≡ levels_up_to b M payload n ++ replicate m 0
unfolding levels_up_to
levels-padded b M payload n m h =
    let zeros : field_of payload (0 + n * b) b m ≡ replicate m 0 =
    listed-ext m (λ k. number_at payload (0 + n * b + k * b) b) (λ k. 0)
    (λ k l. number-zero (bit_at payload) (0 + n * b + k * b) b (λ i q. padding-zero payload (n * b) h (0 + n * b + k * b + i) (omega arith)))
    ∙ listed_same m 0 in
    let r = behind M (base_of b M) 0 1 (field_of payload 0 b n) in
    rw (field-add payload 0 b n m, zeros) (r.levels (replicate m 0) ∙ rw (levels-same M (base_of b M) r.last r.raised 0 m (omega arith)))

pub length-padded : (b M : ℕ) (payload : List ℕ) (n k : ℕ) → only_padding payload (n * b) ≡ true → n < k
    → length (levels_up_to b M payload n) < length (levels_up_to b M payload k)
length-padded b M payload n k h l =
    let m : ℕ = k - n in
    let e : n + m ≡ k = omega arith in
    let grown : length (levels_up_to b M payload (n + m)) ≡ length (levels_up_to b M payload n) + m =
    ap length (levels-padded b M payload n m h) ∙ length_more (levels_up_to b M payload n) m 0 in
    omega (arith, grown, ap (λ (q : ℕ). length (levels_up_to b M payload q)) e)
