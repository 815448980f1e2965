-- A part that starts on an octet. Assumes nothing.
use Rattle.std.proofs.Common.{◌≡◌, ℕ, ◌+◌, ◌*◌, ◌<◌, ◌≤◌, List, ◌++◌, map, length, get_or, take, drop, refl, sym, ap, ap₂, ◌∙◌, arith}
use native.Mathlib.Nat.{mul-zero, add-mul, le_refl}
use lib.ListN.{length-append, take-append-drop}
use lib.Seq.{sets, sets-eq, ext_get_or, get_or-take, length-take-le, get_or-append-add}
use Rattle.format.specs.Lists.{listed, ◌over◌}
use Rattle.format.specs.Bits.{bit_at, number_of, bit, string_of, octets_of, rounded_up, padded}
use Rattle.format.specs.declared.Group.{Group}
use Rattle.format.specs.declared.OctetPlace.{OctetPlace}
use Rattle.laws.specs.Lists.{length-listed, get_or-listed, listed-ext, listed-add, length-map}
use Rattle.laws.specs.Bits.{bit-lt, number-ext, octet}
use Rattle.laws.specs.Strings.{bits-listed, octets-front, number_past, length-string, string-append, length-padded}
use Rattle.writer.specs.Pen.{Held, Ready, Moved, Finished, fresh}
use Rattle.writer.specs.declared.Pen.{Pen}
use Rattle.writer.proofs.Pens.{fresh-ready, moved_ready, moved_then}

-- octets are those of their bits
octets-own : (octets : List ℕ) → ((k : ℕ) → get_or octets k 0 < 256) → (n : ℕ) → n ≤ length octets → octets_of (listed (n * 8) (bit_at octets)) n ≡ take n octets
octets-own octets h n l =
    let own : ℕ → ℕ = λ j. number_of (bit (listed (n * 8) (bit_at octets))) (j * 8) 8 in
    ext_get_or 0 _ _ (length-listed n own ∙ sym (length-take-le n octets l))
    (λ k m.
    let m' : k < n = omega (arith, length-listed n own) in
    get_or-listed n own 0 k m'
    ∙ number-ext (bit (listed (n * 8) (bit_at octets))) (bit_at octets) (k * 8) (k * 8) 8 (λ i b. get_or-listed (n * 8) (bit_at octets) 0 (k * 8 + i) (omega arith))
    ∙ octet octets k (h k) ∙ sym (get_or-take n octets k 0 m'))

-- whole octets, and those of what follows them
octets-behind : (string more : List ℕ) (at n : ℕ) → length string ≡ at * 8 → octets_of (string ++ more) (at + n) ≡ octets_of string at ++ octets_of more n
octets-behind string more at n e =
    listed-add at n (λ j. number_of (bit (string ++ more)) (j * 8) 8)
    ∙ ap₂ (λ (a b : List ℕ). a ++ b) (octets-front string more at (omega arith))
    (listed-ext n _ _ (λ j l. number-ext (bit (string ++ more)) (bit more) ((at + j) * 8) (j * 8) 8
    (λ i m. ap (bit (string ++ more)) (omega arith) ∙ get_or-append-add string more (j * 8 + i) 0)))

-- no bits are no octets
pub none-set : (w : ℕ) (xs octets : List ℕ) (at : ℕ) → w ≡ 0 → octets ≡ sets octets at (padded (string_of w xs))
unfolding listed
none-set w xs octets at e =
    let none : length (string_of w xs) ≡ 0 = length-string w xs ∙ ap (λ (n : ℕ). length xs * n) e ∙ mul-zero (length xs) in
    ap (λ (n : ℕ). sets octets at (octets_of (string_of w xs) (rounded_up n))) (sym none)

module _ {p : Pen} {place : OctetPlace} (e : p ≡ fresh place) {more octets octets' : List ℕ} {q : Pen} (m : Moved p more octets octets' q) where
  -- what the part has room for behind what is written
  pub part-ready : (n : ℕ) → place.0 + rounded_up (length more + n) ≤ length octets → Ready q n octets'
  part-ready n l = moved_ready m n (fresh-ready e (length more + n) l) (le_refl (length more + n))

  -- what stood before the part is as good as written by the pen
  pub part-done : place.0 + rounded_up (length more) ≤ length octets → ((k : ℕ) → get_or octets k 0 < 256) → {octets'' : List ℕ} → Finished q octets' octets'' → octets'' ≡ sets octets place.0 (padded more)
  part-done room below f =
      let at = place.0 in
      let string = listed (at * 8) (bit_at octets) in
      let long : length string ≡ at * 8 = length-listed (at * 8) (bit_at octets) in
      let own : octets_of string at ≡ take at octets = octets-own octets below at (omega arith) in
      let front : length (take at octets) ≡ at = length-take-le at octets (omega arith) in
      let all : rounded_up (length (string ++ more)) ≡ at + rounded_up (length more) = omega (arith, length-append string more, long) in
      let held : Held string octets octets at 0 0 = record {
        bits = bits-listed (at * 8) (bit_at octets) (bit-lt 8 octets);
        count = omega arith;
        value = sym (number_past string (at * 8) 0 (omega arith));
        front = rw (own, front) (sym (take-append-drop at octets));
        long = refl;
      } in
      f _ _ ((rw e at m).held string octets held)
      ∙ ap (λ (o : List ℕ). o over octets) (ap (octets_of (string ++ more)) all ∙ octets-behind string more at (rounded_up (length more)) long ∙ ap (λ (o : List ℕ). o ++ padded more) own)
      ∙ ap (λ (i : ℕ). take at octets ++ padded more ++ drop i octets) (length-append (take at octets) (padded more) ∙ ap (λ (i : ℕ). i + length (padded more)) front)
      ∙ sym (sets-eq (padded more) octets at (omega (arith, length-padded more)))

-- codes of groups, and the codes behind them
module _ (coded : Group → ℕ) (w : ℕ) (groups : List Group) (last : List ℕ) where
  abbrev codes : List ℕ
  codes = map coded groups

  size-codes : length (string_of w codes) ≡ length groups * w
  size-codes = length-string w codes ∙ ap (λ (n : ℕ). n * w) (length-map coded groups)

  size-all : length (string_of w (codes ++ last)) ≡ (length groups + length last) * w
  size-all = rw (string-append w codes last, length-append) (omega (arith, size-codes, length-string w last, add-mul (length groups) (length last) w))

  module _ {p : Pen} {place : OctetPlace} (e : p ≡ fresh place) {octets : List ℕ} (room : place.0 + rounded_up ((length groups + length last) * w) ≤ length octets) where
    pub codes-ready : Ready p (length groups * w) octets
    codes-ready = fresh-ready e (length groups * w) (omega (arith, add-mul (length groups) (length last) w))

    module _ {octets' : List ℕ} {q : Pen} (m : Moved p (string_of w codes) octets octets' q) where
      pub last-ready : Ready q (length last * w) octets'
      last-ready = part-ready e m (length last * w) (omega (arith, size-codes, add-mul (length groups) (length last) w))

      module _ {octets'' : List ℕ} {r : Pen} (n : Moved q (string_of w last) octets' octets'' r) where
        all-moved : Moved p (string_of w (codes ++ last)) octets octets'' r
        all-moved = rw (string-append w codes last) (moved_then m n)

        pub all_ready : Ready r 0 octets''
        all_ready = part-ready e all-moved 0 (omega (arith, size-all))

        pub all_done : ((k : ℕ) → get_or octets k 0 < 256) → {written : List ℕ} → Finished r octets'' written → written ≡ sets octets place.0 (padded (string_of w (codes ++ last)))
        all_done below f = part-done e all-moved (omega (arith, size-all)) below f
