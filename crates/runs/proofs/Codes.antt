-- The codes of runs, one run after another. Assumes nothing.
use mathlib.Core.Path.{◌≡◌, refl, sym, ap, ◌∙◌}
use mathlib.Core.Bool.{Bool, true, false, ◌||◌, false≢true}
use mathlib.Core.List.{List, [], ◌∷◌, map, flat_map}
use Prim.Native.Nat.{ℕ, ◌+◌, ◌-◌, ◌^◌, ◌≤◌, ◌<◌}
use native.Mathlib.Omega.{arith}
use lib.Dec.{ltb}
use lib.Pow.{pow_pos}
use lib.ListN.{length, replicate, length-append, length-replicate}
use borrow.Author.Tests.{lt-ltb, le-ltb}
use Rattle.format.specs.Lists.{any_of}
use Rattle.format.specs.Bits.{span_of}
use Rattle.format.specs.WritingRunLength.{digits_of, runs_of, run_codes, level_codes}
use Rattle.format.specs.declared.Refusal.TheVariants.{Numbers}
use Rattle.format.specs.declared.LevelRun.{LevelRun}
use Rattle.format.specs.declared.OctetPlace.{OctetPlace}
use Rattle.laws.specs.First.{decides, clears}
use Rattle.laws.specs.Lists.{length-map, either-right}
use Rattle.laws.specs.Saying.{part-size}
use Rattle.run_length.specs.declared.coding.LevelCoding.{LevelCoding}
use Rattle.runs.specs.Runs.{counted}
use Rattle.runs.specs.Claims.{unrolled_run, is_empty}
use Rattle.runs.proofs.Runs.{any-replicate}
use Rattle.runs.proofs.Longest.{runs-longest, run-some}
use Rattle.std.specs.declared.result.Result.TheVariants.{Ok, Err}

-- ---- codes fit their bits

module _ (c : LevelCoding) where
  pub level-fits : {level : ℕ} → level ≤ c.greatest → level < 2 ^ c.bits
  level-fits l = omega (arith, c.accepted.low, pow_pos c.bits)

-- ---- of a run

module _ (M base : ℕ) (run : LevelRun) where
  pub codes-repeated : base < 2 → run_codes M base run ≡ replicate run.length run.level
  unfolding run_codes
  codes-repeated l = rw (lt-ltb base 2 l)

  pub codes-digits : 2 ≤ base → run_codes M base run ≡ run.level ∷ map (λ digit. M + 1 + digit) (digits_of base (run.length - 1))
  unfolding run_codes
  codes-digits l = rw (le-ltb base 2 l)

  pub count-repeated : base < 2 → run.length ≡ length (run_codes M base run)
  count-repeated l = sym (ap length (codes-repeated l) ∙ length-replicate run.length run.level)

  pub count-digits : 2 ≤ base → 1 + length (digits_of base (run.length - 1)) ≡ length (run_codes M base run)
  count-digits l = omega (arith, ap length (codes-digits l), length-map (λ (digit : ℕ). M + 1 + digit) (digits_of base (run.length - 1)))

-- ---- of all runs

abbrev pub codes_of : LevelCoding → List LevelRun → List ℕ
codes_of c runs = flat_map (run_codes c.greatest c.base) runs

pub codes_all : (c : LevelCoding) (levels : List ℕ) → codes_of c (runs_of levels) ≡ level_codes c.bits c.greatest levels
unfolding level_codes
codes_all c levels = rw c.base_is

-- ---- counting them

-- the runs before `left` take so many codes, and none of them is above the greatest
pub record Counting (c : LevelCoding) (levels : List ℕ) (codes : ℕ) (left : List LevelRun) : Type 0 where
  pub some : any_of is_empty left ≡ false
  pub all : codes + length (codes_of c left) ≡ length (level_codes c.bits c.greatest levels)
  pub above : any_of (ltb c.greatest) levels ≡ any_of (ltb c.greatest) (flat_map unrolled_run left)

pub counting-start : (c : LevelCoding) (levels : List ℕ) {left : List LevelRun} → left ≡ runs_of levels → Counting c levels 0 left
counting-start c levels e =
    let l = runs-longest levels in
    rw e record { some = l.none-empty; all = omega (arith, ap length (codes_all c levels)); above = ap (any_of (ltb c.greatest)) (sym l.make) }

module _ {c : LevelCoding} {levels : List ℕ} {codes : ℕ} {left : List LevelRun} (i : Counting c levels codes left) where
  module _ {run : LevelRun} {rest : List LevelRun} (e : left ≡ run ∷ rest) where
    here : Counting c levels codes (run ∷ rest)
    here = rw e at i

    pub counting-some : 0 < run.length
    counting-some = run-some run rest here.some

    above-first : any_of (ltb c.greatest) levels ≡ (ltb c.greatest run.level || any_of (ltb c.greatest) (flat_map unrolled_run rest))
    unfolding flat_map
    above-first = here.above ∙ any-replicate (ltb c.greatest) run.level run.length (flat_map unrolled_run rest) counting-some

    pub counting-above : c.greatest < run.level → Err Numbers ≡ counted c.bits c.greatest levels
    counting-above l =
        let found : any_of (ltb c.greatest) levels ≡ true = above-first ∙ ap (λ (t : Bool). t || any_of (ltb c.greatest) (flat_map unrolled_run rest)) (lt-ltb c.greatest run.level l) in
        decides Err Numbers _ _ (λ e. refl, λ e. absurd (false≢true (sym e ∙ found)))

    pub counting-next : run.level ≤ c.greatest → {n : ℕ} → n ≡ length (run_codes c.greatest c.base run) → Counting c levels (codes + n) rest
    unfolding flat_map any_of
    counting-next l en = record {
      some = either-right (is_empty run) (any_of is_empty rest) here.some;
      all = omega (arith, here.all, en, length-append (run_codes c.greatest c.base run) (codes_of c rest));
      above = above-first ∙ ap (λ (t : Bool). t || any_of (ltb c.greatest) (flat_map unrolled_run rest)) (le-ltb c.greatest run.level l);
    }

  pub counting-end : left ≡ [] → {octets : OctetPlace} → octets.0 ≡ span_of 0 c.bits codes → Ok octets ≡ counted c.bits c.greatest levels
  unfolding flat_map any_of
  counting-end e {octets} es =
      let end : Counting c levels codes [] = rw e at i in
      ap (λ (n : ℕ). Ok (record { 0 = n })) (es ∙ sym (part-size c.bits (level_codes c.bits c.greatest levels) (omega (arith, end.all))))
      ∙ clears Err _ _ (end.above, tt)
