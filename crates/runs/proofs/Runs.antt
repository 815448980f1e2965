-- The longest runs of a list of levels. Assumes nothing.
use mathlib.Core.Path.{◌≡◌, refl, sym, ap, ◌∙◌}
use mathlib.Core.Bool.{Bool, true, false, ◌||◌}
use mathlib.Core.List.{List, [], ◌∷◌, ◌++◌, append_assoc}
use Prim.Native.Nat.{ℕ, zero, suc, ◌+◌, ◌-◌, ◌*◌, ◌^◌, ◌≤◌, ◌<◌}
use native.Mathlib.Nat.{add-zero, sub_self}
use native.Mathlib.Numerals.{add-one}
use native.Mathlib.Omega.{arith}
use lib.Dec.{eqb}
use lib.ListN.{length, get_or, replicate, drop, drop_of_length-le, replicate-append-replicate}
use lib.Seq.{drop-cons}
use borrow.Author.Tests.{eq-eqb}
use Rattle.format.specs.Lists.{whole_ones, any_of}
use Rattle.format.specs.Bits.{bit_at, number_at}
use Rattle.format.specs.Layout.{level_size, levels_in}
use Rattle.format.specs.WritingRunLength.{runs_from, runs_of}
use Rattle.format.specs.declared.LevelRun.{LevelRun}
use Rattle.laws.specs.Lists.{length-listed}
use Rattle.laws.specs.Stores.{field_at}
use Rattle.laws.specs.Bits.{Octets, gathered, gathered-bits, bit-lt, number_lt, number-add}
use Rattle.runs.specs.Runs.{starts_with, Stands, four_times, Begins}

-- ---- a run and what stands behind it

runs-add : (level n k : ℕ) (behind : List ℕ) → runs_from level n (replicate k level ++ behind) ≡ runs_from level (n + k) behind
unfolding runs_from
runs-add level n zero behind = rw (add-zero n)
runs-add level n (suc k) behind =
    let e : suc n + k ≡ n + suc k = omega arith in
    rw (eq-eqb level level refl) (runs-add level (suc n) k behind ∙ ap (λ (m : ℕ). runs_from level m behind) e)

runs-end : (level n : ℕ) (behind : List ℕ) → starts_with level behind ≡ false → runs_from level n behind ≡ record { level = level; length = n } ∷ runs_of behind
unfolding runs_from runs_of starts_with
runs-end level n [] h = refl
runs-end level n (next ∷ behind) h = rw h

pub runs-first : (level n : ℕ) (behind : List ℕ) → 0 < n → starts_with level behind ≡ false
    → runs_of (replicate n level ++ behind) ≡ record { level = level; length = n } ∷ runs_of behind
unfolding runs_of
runs-first level zero behind l h = absurd (omega arith)
runs-first level (suc n) behind l h = let e : 1 + n ≡ suc n = omega arith in runs-add level 1 n behind ∙ rw e (runs-end level (suc n) behind h)

pub any_same : (f : ℕ → Bool) (level n : ℕ) → f level ≡ false → any_of f (replicate n level) ≡ false
unfolding any_of
any_same f level zero h = refl
any_same f level (suc n) h = rw h (any_same f level n h)

pub any-replicate : (f : ℕ → Bool) (level n : ℕ) (behind : List ℕ) → 0 < n → any_of f (replicate n level ++ behind) ≡ (f level || any_of f behind)
unfolding any_of
any-replicate f level zero behind l = absurd (omega arith)
any-replicate f level (suc zero) behind l = refl
any-replicate f level (suc (suc n)) behind l = ap (λ (t : Bool). f level || t) (any-replicate f level (suc n) behind (omega arith)) ∙ again (f level) (any_of f behind)
  where
    again : (s t : Bool) → (s || (s || t)) ≡ (s || t)
    again true t = refl
    again false t = refl

-- those from a place on are the run there, and those behind it
pub begins-runs : {levels : List ℕ} {place : ℕ} {run : LevelRun} → Begins levels place run → runs_of (drop place levels) ≡ run ∷ runs_of (drop (place + run.length) levels)
begins-runs {run = run} b = ap runs_of b.here ∙ runs-first run.level run.length _ b.some b.longest

-- and behind the last level there are none
pub runs-none : (levels : List ℕ) (place : ℕ) → length levels ≤ place → runs_of (drop place levels) ≡ []
unfolding runs_of
runs-none levels place l = rw (drop_of_length-le levels {i = place} l)

-- ---- finding it

pub starts-not : (level : ℕ) (levels : List ℕ) (place : ℕ) {count : ℕ} → count ≡ length levels → count ≤ place → false ≡ starts_with level (drop place levels)
unfolding starts_with
starts-not level levels place e l = rw (drop_of_length-le levels {i = place} (omega arith))

pub starts_is : (level : ℕ) (levels : List ℕ) (place : ℕ) {count x : ℕ} → count ≡ length levels → place < count → x ≡ get_or levels place 0 → eqb x level ≡ starts_with level (drop place levels)
unfolding starts_with
starts_is level levels place n l e = rw (e, drop-cons levels place 0 (omega arith))

module _ {levels : List ℕ} {place level : ℕ} where
  pub stands-none : place ≤ length levels → Stands levels place level place
  stands-none l = record { low = omega arith; within = l; here = rw (sub_self place) }

  pub stands_one : place < length levels → level ≡ get_or levels place 0 → Stands levels place level (place + 1)
  stands_one l e =
      let one : place + 1 - place ≡ 1 = omega arith in
      record { low = omega arith; within = omega arith; here = rw (one, add-one place, e) (drop-cons levels place 0 l) }

  pub stands_on : {middle end : ℕ} → Stands levels place level middle → Stands levels middle level end → Stands levels place level end
  stands_on {middle} {end} s t =
      let all : (middle - place) + (end - middle) ≡ end - place = omega (arith, s.low, t.low) in
      record {
        low = omega (arith, s.low, t.low);
        within = t.within;
        here =
            s.here ∙ ap (λ (l : List ℕ). replicate (middle - place) level ++ l) t.here
            ∙ sym (append_assoc (replicate (middle - place) level) (replicate (end - middle) level) (drop end levels))
            ∙ ap (λ (l : List ℕ). l ++ drop end levels) (replicate-append-replicate (middle - place) (end - middle) level ∙ ap (λ (n : ℕ). replicate n level) all);
      }

pub stands-end : (levels : List ℕ) {place level end : ℕ} → place < end → Stands levels place level end → starts_with level (drop end levels) ≡ false
    → Begins levels place (record { level = level; length = end - place })
stands-end levels {place} {end = end} some s h =
    let all : place + (end - place) ≡ end = omega (arith, s.low) in
    record { some = omega arith; within = omega (arith, s.low, s.within); here = rw all s.here; longest = rw all h }

-- ---- four at a time

four_same : {level a b c d : ℕ} → level < 65536 → a < 65536 → b < 65536 → c < 65536 → d < 65536 → ((a * 65536 + b) * 65536 + c) * 65536 + d ≡ level * four_times
    → (level ≡ a) × (level ≡ b) × (level ≡ c) × (level ≡ d)
four_same {level} {a} {b} {c} {d} l la lb lc ld e =
    let first : level ≡ a = omega arith in
    let three : (b * 65536 + c) * 65536 + d ≡ level * 4295032833 = omega arith in
    let second : level ≡ b = omega (arith, three) in
    let two : c * 65536 + d ≡ level * 65537 = omega arith in
    (first, second, omega (arith, two), omega (arith, two))

-- eight octets are four numbers of sixteen bits, and a number that stands four times in 64 bits is each of them
module _ (octets : List ℕ) (o : Octets octets) (place level : ℕ) (small : level < 2 ^ 16) (there : place + 4 ≤ length (levels_in octets)) where
  level-is : (i : ℕ) → i < 4 → get_or (levels_in octets) (place + i) 0 ≡ number_at octets (place * level_size * 8 + i * 16) 16
  level-is i l =
      let e : (place + i) * 16 ≡ place * level_size * 8 + i * 16 = omega arith in
      let inside : place + i < whole_ones level_size octets = omega (arith, length-listed (whole_ones level_size octets) (λ k. number_at octets (0 + k * 16) 16)) in
      sym (field_at octets 16 (whole_ones level_size octets) (place + i) inside) ∙ ap (λ (p : ℕ). number_at octets p 16) e

  pub stands-four : {x : ℕ} → x ≡ gathered octets (place * level_size) 8 → x ≡ level * four_times → Stands (levels_in octets) place level (place + 4)
  stands-four ex e =
      let p : ℕ = place * level_size * 8 in
      let f = bit_at octets in
      let low : (q : ℕ) → number_at octets q 16 < 2 ^ 16 = λ q. number_lt (bit-lt 8 octets) q 16 in
      let all : number_at octets p 64 ≡ level * four_times = sym (gathered-bits octets o (place * level_size) 8) ∙ sym ex ∙ e in
      let split : number_at octets p 64 ≡ ((number_at octets (p + 0) 16 * 65536 + number_at octets (p + 16) 16) * 65536 + number_at octets (p + 32) 16) * 65536 + number_at octets (p + 48) 16 =
      number-add f p 48 16
      ∙ ap (λ (x : ℕ). x * 65536 + number_at octets (p + 48) 16)
      (number-add f p 32 16 ∙ ap (λ (x : ℕ). x * 65536 + number_at octets (p + 32) 16) (number-add f p 16 16 ∙ ap (λ (q : ℕ). number_at octets q 16 * 65536 + number_at octets (p + 16) 16) (sym (add-zero p)))) in
      let same = four_same small (low (p + 0)) (low (p + 16)) (low (p + 32)) (low (p + 48)) (sym split ∙ all) in
      let more : (i : ℕ) → i < 4 → level ≡ number_at octets (p + i * 16) 16 → Stands (levels_in octets) place level (place + i) → Stands (levels_in octets) place level (place + suc i) =
      λ i l d before. let next : place + i + 1 ≡ place + suc i = omega arith in rw next at (stands_on before (stands_one (omega arith) (d ∙ sym (level-is i l)))) in
      let none : Stands (levels_in octets) place level (place + 0) = rw (add-zero place) (stands-none (omega arith)) in
      more 3 (omega arith) same.3 (more 2 (omega arith) same.2 (more 1 (omega arith) same.1 (more 0 (omega arith) same.0 none)))
