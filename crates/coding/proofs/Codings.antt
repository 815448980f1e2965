-- The step of some lengths, and how lengths are coded. Assumes nothing.
use Rattle.std.proofs.Common.{◌≡◌, ℕ, ◌+◌, ◌-◌, ◌/◌, ◌<◌, ◌≤◌, List, [], ◌∷◌, ◌++◌, map, length, take, sym, ◌∙◌, ap, arith}
use mathlib.Core.List.{map-append}
use Rattle.std.proofs.lemmas.List.{length-map}
use Rattle.format.specs.Lists.{greatest, least}
use Rattle.format.specs.Grouping.{bits, digits_in, width_of}
use Rattle.format.specs.Packing.{gcd, gcd_from, increment_of, width_coding, length_coding, template_of}
use Rattle.format.specs.declared.Group.{Group}
use Rattle.format.specs.declared.Lengths.{Lengths}
use Rattle.format.specs.declared.Widths.{Widths}
use Rattle.laws.specs.Codes.{but-last-snoc, last_snoc}
use Rattle.laws.specs.Groups.{own_numbers, own_groups, length-own, width-upto}
use Rattle.numbers.specs.declared.Window.{Window}
use Rattle.numbers.specs.Windows.{window_of}
use Rattle.numbers.specs.Records.{IsAt, Recorded}
use Rattle.numbers.proofs.Recordings.{own-numbers}
use Rattle.coding.specs.Codes.{widths_in, lengths_in, Codable}
use Rattle.coding.proofs.Divisors.{gcd-snoc}
use Rattle.coding.proofs.Firsts.{firsts-next, firsts-all, firsts-last, least-below, greatest-less}

-- the differences of some lengths from one that is no greater
abbrev pub differences : ℕ → List ℕ → List ℕ
differences r xs = map (λ x. x - r) xs

-- ---- the step

module _ (groups : List Group) (r : ℕ) where
  pub length-there : (k : ℕ) {g : Group} → r ≤ least (lengths_in groups) → k < length groups → IsAt groups k g → r ≤ g.length
  length-there k h l e = omega (arith, least-below (λ g. g.length) groups k l e)

  -- a turn of the loop
  pub step-next : (k : ℕ) {g : Group} {s t : ℕ} → k < length groups → s ≡ gcd_from 0 (differences r (lengths_in (take k groups))) → IsAt groups k g → t ≡ gcd s (g.length - r)
      → t ≡ gcd_from 0 (differences r (lengths_in (take (k + 1) groups)))
  step-next k {g} {s} {t} l es e et =
      rw (et, es, firsts-next (λ g. g.length) groups k l e, map-append (λ x. x - r) (lengths_in (take k groups)) (g.length ∷ []))
      (sym (gcd-snoc 0 (differences r (lengths_in (take k groups))) (g.length - r)))

  pub step-last : (k : ℕ) {s : ℕ} → length groups ≤ k → s ≡ gcd_from 0 (differences r (lengths_in (take k groups))) → s ≡ gcd_from 0 (differences r (lengths_in groups))
  step-last k l e = e ∙ ap (λ (xs : List ℕ). gcd_from 0 (differences r xs)) (firsts-all (λ g. g.length) groups k l)

-- ---- the coding

-- the coding, from the window of all lengths but the last
abbrev coded_by : Window → ℕ → ℕ → ℕ → Lengths
coded_by w increment last n = record { reference = w.least; increment = increment; last = last; bits = n }

lengths-snoc : (xs : List ℕ) (x : ℕ) → let i = increment_of (gcd_from 0 (differences (least xs) xs)) in
    length_coding (xs ++ (x ∷ [])) ≡ coded_by (window_of xs) i x (bits ((greatest xs - least xs) / i))
unfolding length_coding
lengths-snoc xs x = rw (but-last-snoc xs x, last_snoc xs x, greatest-less (least xs) xs)

module _ (groups : List Group) (some : 0 < length groups) {n : ℕ} (en : n ≡ length groups) {g : Group} (e : IsAt groups (n - 1) g) where
  lengths-last : lengths_in groups ≡ lengths_in (take (length groups - 1) groups) ++ (g.length ∷ [])
  lengths-last = firsts-last (λ g. g.length) groups some (rw en at e)

  -- of one length, and of more
  pub one-coded : n ≡ 1 → record { reference = 0; increment = 0; last = g.length; bits = 0 } ≡ length_coding (lengths_in groups)
  unfolding greatest least gcd_from increment_of bits digits_in
  one-coded o =
      let none : length groups - 1 ≡ 0 = omega arith in
      sym (ap length_coding (lengths-last ∙ ap (λ (k : ℕ). lengths_in (take k groups) ++ (g.length ∷ [])) none) ∙ lengths-snoc [] g.length)

  pub all_coded : {most : List Group} → most ≡ take (length groups - 1) groups → {w : Window} {s i b : ℕ} → w ≡ window_of (lengths_in most) → s ≡ gcd_from 0 (differences w.least (lengths_in most))
      → (i ≡ increment_of s) × (i ≤ 255) → (b ≡ bits ((w.greatest - w.least) / i)) × (b ≤ 32) → coded_by w i g.length b ≡ length_coding (lengths_in groups)
  all_coded em {w} {s} {i} {b} ew es ei eb =
      rw (eb.0, ei.0, es, ew, em, lengths-last) (sym (lengths-snoc (lengths_in (take (length groups - 1) groups)) g.length))

-- ---- the template

-- the records of groups of numbers that packing takes can be coded
pub codable : {numbers : List ℕ} {groups : List Group} → Recorded numbers groups → Codable groups
codable h = record { some = h.some; few = h.few; narrow = λ d k l. width-upto (h.each d k l) 32 (omega (arith, h.small)) }

-- the numbers of the records are those of the groups
pub template-is : (groups : List Group) {n top b : ℕ} → n ≡ length groups → (b ≡ bits top) × (b ≤ 32) → {w : Widths} → w ≡ width_coding (widths_in groups) → {l : Lengths} → l ≡ length_coding (lengths_in groups)
    → (numbers : List ℕ) → Recorded numbers groups → top ≡ greatest numbers
    → record { width = b; splitting = 1; management = 0; groups = n; widths = w; lengths = l } ≡ template_of numbers (own_groups numbers groups)
unfolding template_of
template-is groups en eb ew el numbers s et =
    rw (
      en,
      eb.0,
      et,
      ew,
      el,
      length-map groups (own_numbers numbers),
      own-numbers numbers (λ g. g.width) width_of (λ r h. h.width) groups s.each,
      own-numbers numbers (λ g. g.length) length (λ r h. sym (length-own h)) groups s.each,
    )
