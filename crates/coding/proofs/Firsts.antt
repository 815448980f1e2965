-- A number of each of the first groups. Assumes nothing.
use Rattle.std.proofs.Common.{◌≡◌, ℕ, ◌+◌, ◌-◌, ◌<◌, ◌≤◌, List, [], ◌∷◌, ◌++◌, map, length, get_or, take, sym, ap, ◌∙◌, arith}
use Rattle.std.proofs.lemmas.List.{map_more, get_or-map, length-map, length-take, take_all}
use Rattle.format.specs.Lists.{greatest, least}
use Rattle.format.specs.Grouping.{bits}
use Rattle.format.specs.Packing.{width_coding}
use Rattle.format.specs.declared.Group.{Group}
use Rattle.laws.specs.Extremes.{least-lower}
use Rattle.laws.specs.Groups.{group_in}
use Rattle.numbers.specs.declared.Window.{Window}
use Rattle.numbers.specs.Windows.{window_of, widened_by}
use Rattle.numbers.proofs.Windows.{window_more}
use Rattle.numbers.specs.Records.{IsAt}
use Rattle.coding.specs.Codes.{widths_in, Codable}

-- ---- any numbers

-- the greatest difference is that of the greatest
pub greatest-less : (r : ℕ) (xs : List ℕ) → greatest (map (λ n. n - r) xs) ≡ greatest xs - r
unfolding greatest
greatest-less r [] = omega arith
greatest-less r (x ∷ xs) = omega (arith, greatest-less r xs)

pub window-least : (xs : List ℕ) {w : Window} → w ≡ window_of xs → w.least ≤ least xs
window-least xs e = rw e (omega arith)

-- ---- those of groups

module _ (number : Group → ℕ) (groups : List Group) where
  abbrev pub firsts : ℕ → List ℕ
  firsts k = map number (take k groups)

  pub firsts-next : (k : ℕ) {g : Group} → k < length groups → IsAt groups k g → firsts (k + 1) ≡ firsts k ++ (number g ∷ [])
  firsts-next k {g} l e = map_more number groups k g l ∙ ap (λ (h : Group). firsts k ++ (number h ∷ [])) (sym (e g))

  pub firsts-all : (k : ℕ) → length groups ≤ k → firsts k ≡ map number groups
  firsts-all k l = ap (map number) (take_all k groups l)

  pub firsts-last : {g : Group} → 0 < length groups → IsAt groups (length groups - 1) g → map number groups ≡ firsts (length groups - 1) ++ (number g ∷ [])
  firsts-last l e =
      sym (firsts-all (length groups - 1 + 1) (omega arith)) ∙ firsts-next (length groups - 1) (omega arith) e

  pub window-first : {g : Group} {x : ℕ} {w : Window} → 0 < length groups → IsAt groups 0 g → x ≡ number g → w ≡ window_of (x ∷ []) → w ≡ window_of (firsts 1)
  window-first l e ex ew = ew ∙ ap window_of (ap (λ (y : ℕ). y ∷ []) ex ∙ sym (firsts-next 0 l e))

  -- a turn of a loop that widens a window
  pub window-next : (k : ℕ) {g : Group} {x : ℕ} {w v : Window} → 0 < k → k < length groups → w ≡ window_of (firsts k) → IsAt groups k g → x ≡ number g → v ≡ widened_by w x
      → v ≡ window_of (firsts (k + 1))
  window-next k {g} p l ew e ex ev =
      rw (firsts-next k l e) (window_more (firsts k) ew (number g) (omega (arith, length-map (take k groups) number, length-take k groups)) ex ev)

  least-at : (k : ℕ) (d : Group) → k < length groups → least (map number groups) ≤ number (get_or groups k d)
  least-at k d l = rw (← get_or-map number groups k d 0 l) (least-lower (map number groups) k (omega (arith, length-map groups number)))

  pub least-below : (k : ℕ) {g : Group} → k < length groups → IsAt groups k g → least (map number groups) ≤ number g
  least-below k {g} l e = rw (← e g) at (least-at k g l)

-- the first width, so the least too, is a number of one octet
pub least-width : (groups : List Group) → Codable groups → {w : Window} → w ≡ window_of (widths_in groups) → w.least < 256
least-width groups h e =
    let d = group_in [] 0 in rw e (omega (arith, least-at (λ g. g.width) groups 0 d h.some, h.narrow d 0 h.some))

pub widths-coded : (xs : List ℕ) {w : Window} → w ≡ window_of xs → {b : ℕ} → b ≡ bits (w.greatest - w.least) → record { reference = w.least; bits = b } ≡ width_coding xs
unfolding width_coding
widths-coded xs e eb = rw (eb, e)
