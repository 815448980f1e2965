-- A point in the lent octets, between others. Assumes nothing.
use mathlib.Core.Path.{◌≡◌, sym, ap, ◌∙◌}
use mathlib.Core.List.{List, [], ◌∷◌, ◌++◌, append_assoc}
use Prim.Native.Nat.{ℕ, suc, ◌+◌, ◌-◌, ◌*◌, ◌/◌, ◌%◌, ◌^◌}
use native.Mathlib.Omega.{arith}
use lib.IntN.{ℤ, pos}
use lib.ListN.{length, get_or, length-append, get_or-append}
use lib.Seq.{sets, get_or_at, get_or-append-add}
use Rattle.format.specs.Bits.{number_at}
use Rattle.format.specs.Layout.{big_endian, point_size, point_octets, mark_of, twos_complement}
use Rattle.format.specs.declared.DecodedValue.{DecodedValue}
use Rattle.format.specs.declared.DecodedValue.TheVariants.{Normal}
use Rattle.laws.specs.Stores.{sets-mid, number-back}
use Rattle.laws.specs.Lists.{length-listed, get_or-listed}
use Rattle.diff.specs.Restoring.{Lying}

-- ---- what is read

pub mark-lies : {k : ℕ} {octets : List ℕ} {packed : DecodedValue} {front behind : List ℕ} {mark : ℕ} → Lying k octets packed front behind → mark ≡ get_or octets (k * point_size) 0
    → mark ≡ mark_of packed
mark-lies {k} {octets} {packed} {front} {behind} l e = e ∙ rw l.there (get_or_at front (mark_of packed) _ 0 (k * point_size) l.long)

pub number-lies : {k : ℕ} {octets : List ℕ} {n m : ℕ} {front behind : List ℕ} → Lying k octets (Normal (pos n)) front behind → m ≡ number_at octets ((k * point_size + 5) * 8) 32 → m ≡ n
number-lies {k} {octets} {n} {m} {front} {behind} l e =
    let octet : ℕ → ℕ = λ i. n / 256 ^ (8 - suc i) % 256 in
    e
    ∙ number-back octets (k * point_size + 5) 4 n
    (λ i h.
    let there = at (k * point_size + 5 + i) (suc (4 + i)) (omega arith) in
    let p : 4 - suc i ≡ 8 - suc (4 + i) = omega arith in
    rw p
    (there ∙ get_or-append (big_endian 8 n) behind 0 (4 + i) (omega (arith, length-listed 8 octet)) ∙ get_or-listed 8 octet 0 (4 + i) (omega arith)))
    l.small
  where
    at : (p j : ℕ) → p ≡ k * point_size + j → get_or octets p 0 ≡ get_or (point_octets (Normal (pos n)) ++ behind) j 0
    at p j h = rw (h, l.there, ← l.long) (get_or-append-add front (point_octets (Normal (pos n)) ++ behind) j 0)

-- ---- what is stored

-- a point's number, behind its mark
pub number-stored : {k : ℕ} {octets : List ℕ} {z : ℤ} (y : ℤ) {front behind octets' : List ℕ} → Lying k octets (Normal z) front behind
    → octets' ≡ sets octets (k * point_size + 1) (big_endian 8 (twos_complement y)) → octets' ≡ front ++ (point_octets (Normal y) ++ behind)
number-stored {k} {octets} {z} y {front} {behind} l e =
    let old = big_endian 8 (twos_complement z) in
    let new = big_endian 8 (twos_complement y) in
    let same : length new ≡ length old = length-listed 8 (λ i. twos_complement y / 256 ^ (8 - suc i) % 256) ∙ sym (length-listed 8 (λ i. twos_complement z / 256 ^ (8 - suc i) % 256)) in
    e
    ∙ ap (λ (o : List ℕ). sets o (k * point_size + 1) new) (l.there ∙ sym (append_assoc front (0 ∷ []) (old ++ behind)))
    ∙ sets-mid (front ++ (0 ∷ [])) old new behind (k * point_size + 1) (length-append front (0 ∷ []) ∙ omega (arith, l.long)) same
    ∙ append_assoc front (0 ∷ []) (new ++ behind)
