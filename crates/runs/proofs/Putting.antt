-- Codes of one width, put one behind another. Assumes nothing.
use mathlib.Core.Path.{◌≡◌, refl, sym, ap, ◌∙◌}
use mathlib.Core.Bool.{false}
use mathlib.Core.List.{List, [], ◌∷◌, ◌++◌, append_assoc, append-nil, map, flat_map}
use Prim.Native.Nat.{ℕ, suc, ◌+◌, ◌-◌, ◌*◌, ◌≤◌, ◌<◌}
use native.Mathlib.Nat.{sub-zero, zero-mul, one-mul, add-mul, mul-le-mul_right}
use native.Mathlib.Omega.{arith}
use lib.Dec.{ltb, leb}
use lib.ListN.{length, replicate, length-append}
use borrow.Author.Tests.{leb-false}
use Rattle.format.specs.Lists.{listed, any_of}
use Rattle.format.specs.Bits.{string_of}
use Rattle.format.specs.WritingRunLength.{digits_of, runs_of, run_codes, level_codes, level_payload}
use Rattle.format.specs.declared.LevelRun.{LevelRun}
use Rattle.laws.specs.Lists.{either_left, either-right}
use Rattle.laws.specs.Strings.{length-string, length-padded, string-append}
use Rattle.writer.specs.Pen.{fresh, Ready, Moved}
use Rattle.writer.specs.declared.Pen.{Pen}
use Rattle.writer.proofs.Pens.{fresh-ready, moved_none, moved_then, moved_ready}
use Rattle.run_length.specs.declared.coding.LevelCoding.{LevelCoding}
use Rattle.runs.specs.Runs.{digit_codes}
use Rattle.runs.proofs.Codes.{codes-repeated, codes-digits, codes_of, codes_all}
use Rattle.runs.proofs.These.{digits-these}
use Rattle.runs.proofs.Longest.{LowRuns, first_some, first-low, others, runs-of}

-- of all codes those before `rest` are put
pub record CodesPut (b : ℕ) (all rest : List ℕ) (p : Pen) (octets octets' : List ℕ) (q : Pen) : Type 0 where
  pub done : List ℕ
  pub all-is : all ≡ done ++ rest
  pub moved : Moved p (string_of b done) octets octets' q

pub put-start : (b : ℕ) (all : List ℕ) (p : Pen) (octets : List ℕ) → CodesPut b all all p octets octets p
unfolding listed
put-start b all p octets = record { done = []; all-is = refl; moved = rw (zero-mul b) (moved_none p octets) }

module _ {b : ℕ} {all rest : List ℕ} {p q : Pen} {octets octets' : List ℕ} (x : CodesPut b all rest p octets octets' q) where
  module _ (codes behind : List ℕ) (e : rest ≡ codes ++ behind) where
    -- there is room for the next ones
    pub put-ready : Ready p (length all * b) octets → Ready q (length codes * b) octets'
    put-ready r =
        let size : length all ≡ length x.done + (length codes + length behind) =
        ap length x.all-is ∙ length-append x.done rest ∙ ap (λ (l : List ℕ). length x.done + length l) e ∙ ap (λ (n : ℕ). length x.done + n) (length-append codes behind) in
        let few : (length x.done + length codes) * b ≤ length all * b = mul-le-mul_right b (omega arith) in
        moved_ready x.moved (length codes * b) r (omega (arith, length-string b x.done, few, add-mul (length x.done) (length codes) b))

    -- and they are put
    pub put-more : {r : Pen} {octets'' : List ℕ} → Moved q (string_of b codes) octets' octets'' r → CodesPut b all behind p octets octets'' r
    put-more m = record {
      done = x.done ++ codes;
      all-is = x.all-is ∙ ap (λ (l : List ℕ). x.done ++ l) e ∙ sym (append_assoc x.done codes behind);
      moved = rw (string-append b x.done codes) (moved_then x.moved m);
    }

  -- one of them
  pub put-ready-one : {code : ℕ} {behind : List ℕ} → rest ≡ code ∷ behind → Ready p (length all * b) octets → Ready q b octets'
  put-ready-one e r = rw (one-mul b) at (put-ready (_ ∷ []) _ e r)

  pub put-end : rest ≡ [] → Moved p (string_of b all) octets octets' q
  put-end e = rw (x.all-is, e, append-nil x.done) x.moved

-- ---- the digits of a number

-- those that are left are below the base, as all are
pub record DigitsPut (c : LevelCoding) (number : ℕ) (left : List ℕ) (p : Pen) (octets octets' : List ℕ) (q : Pen) : Type 0 where
  pub below : any_of (leb c.base) left ≡ false
  pub put : CodesPut c.bits (digit_codes c number) (map (λ digit. c.greatest + 1 + digit) left) p octets octets' q

pub digits-start : (c : LevelCoding) (number : ℕ) {left : List ℕ} (p : Pen) (octets : List ℕ) → 2 ≤ c.base → left ≡ digits_of c.base number → DigitsPut c number left p octets octets p
digits-start c number p octets some e = rw e record { below = (digits-these c.base number some).0.below; put = put-start _ _ p octets }

module _ {c : LevelCoding} {number : ℕ} {left : List ℕ} {p q : Pen} {octets octets' : List ℕ} (x : DigitsPut c number left p octets octets' q) where
  module _ {digit : ℕ} {rest : List ℕ} (e : left ≡ digit ∷ rest) where
    next-digit : DigitsPut c number (digit ∷ rest) p octets octets' q
    next-digit = rw e at x

    pub digit-low : digit < c.base
    unfolding any_of
    digit-low = leb-false c.base digit (either_left (leb c.base digit) (any_of (leb c.base) rest) next-digit.below)

    pub digit-ready : Ready p (length (digit_codes c number) * c.bits) octets → Ready q c.bits octets'
    digit-ready r = put-ready-one next-digit.put refl r

    pub digit-more : {r : Pen} {octets'' : List ℕ} → Moved q (string_of c.bits ((c.greatest + 1 + digit) ∷ [])) octets' octets'' r → DigitsPut c number rest p octets octets'' r
    unfolding any_of
    digit-more m = record { below = either-right (leb c.base digit) (any_of (leb c.base) rest) next-digit.below; put = put-more next-digit.put (_ ∷ []) _ refl m }

-- ---- a level that is repeated

pub repeated-start : (b level n : ℕ) (p : Pen) (octets : List ℕ) → CodesPut b (replicate n level) (replicate (n - 0) level) p octets octets p
repeated-start b level n p octets = rw (sub-zero n) (put-start b _ p octets)

module _ (level n : ℕ) {b k : ℕ} {p q : Pen} {octets octets' : List ℕ} (x : CodesPut b (replicate n level) (replicate (n - k) level) p octets octets' q) where
  module _ (l : k < n) where
    next_level : replicate (n - k) level ≡ level ∷ replicate (n - (k + 1)) level
    next_level = let e : n - k ≡ suc (n - (k + 1)) = omega arith in ap (λ (m : ℕ). replicate m level) e

    pub repeated-ready : Ready p (length (replicate n level) * b) octets → Ready q b octets'
    repeated-ready r = put-ready-one x next_level r

    pub repeated-more : {r : Pen} {octets'' : List ℕ} → Moved q (string_of b (level ∷ [])) octets' octets'' r → CodesPut b (replicate n level) (replicate (n - (k + 1)) level) p octets octets'' r
    repeated-more m = put-more x (_ ∷ []) _ next_level m

-- ---- a run

module _ (c : LevelCoding) (run : LevelRun) {p : Pen} {octets : List ℕ} (ready : Ready p (length (run_codes c.greatest c.base run) * c.bits) octets) where
  module _ (l : c.base < 2) where
    pub run-repeated-ready : Ready p (length (replicate run.length run.level) * c.bits) octets
    run-repeated-ready = rw (codes-repeated c.greatest c.base run l) at ready

    pub run-repeated : {octets' : List ℕ} {q : Pen} → Moved p (string_of c.bits (replicate run.length run.level)) octets octets' q
        → Moved p (string_of c.bits (run_codes c.greatest c.base run)) octets octets' q
    run-repeated m = rw (codes-repeated c.greatest c.base run l) m

  module _ (l : 2 ≤ c.base) where
    pub run-level-ready : Ready p c.bits octets
    run-level-ready = put-ready-one (put-start c.bits _ p octets) (codes-digits c.greatest c.base run l) ready

    module _ {octets' : List ℕ} {q : Pen} (m : Moved p (string_of c.bits (run.level ∷ [])) octets octets' q) where
      level-put : CodesPut c.bits (run_codes c.greatest c.base run) (digit_codes c (run.length - 1)) p octets octets' q
      level-put = put-more (put-start c.bits _ p octets) (_ ∷ []) _ (codes-digits c.greatest c.base run l) m

      pub run-digits-ready : Ready q (length (digit_codes c (run.length - 1)) * c.bits) octets'
      run-digits-ready = put-ready level-put (digit_codes c (run.length - 1)) [] (sym (append-nil (digit_codes c (run.length - 1)))) ready

      pub run_moved : {octets'' : List ℕ} {r : Pen} → Moved q (string_of c.bits (digit_codes c (run.length - 1))) octets' octets'' r
          → Moved p (string_of c.bits (run_codes c.greatest c.base run)) octets octets'' r
      run_moved n = put-end (put-more level-put (digit_codes c (run.length - 1)) [] (sym (append-nil (digit_codes c (run.length - 1)))) n) refl

-- ---- all runs

-- those that are left are low, as all are
pub record RunsPut (c : LevelCoding) (levels : List ℕ) (left : List LevelRun) (p : Pen) (octets octets' : List ℕ) (q : Pen) : Type 0 where
  pub low : LowRuns c.greatest left
  pub put : CodesPut c.bits (level_codes c.bits c.greatest levels) (codes_of c left) p octets octets' q

module _ (c : LevelCoding) (levels : List ℕ) where
  abbrev codes : List ℕ
  codes = level_codes c.bits c.greatest levels

  module _ {p : Pen} {octets : List ℕ} (e : p ≡ fresh (record { 0 = 0 }))
      (room : length (level_payload c.bits c.greatest levels) ≤ length octets) where
    pub runs-ready : Ready p (length codes * c.bits) octets
    runs-ready = fresh-ready e (length codes * c.bits) (omega (arith, length-padded (string_of c.bits codes), length-string c.bits codes))

    pub runs-start : any_of (ltb c.greatest) levels ≡ false → {left : List LevelRun} → left ≡ runs_of levels → RunsPut c levels left p octets octets p
    runs-start none el = rw el record { low = runs-of c.greatest levels none; put = rw (codes_all c levels) (put-start c.bits codes p octets) }

    module _ {left : List LevelRun} {octets' : List ℕ} {q : Pen} (x : RunsPut c levels left p octets octets' q) where
      module _ {run : LevelRun} {rest : List LevelRun} (el : left ≡ run ∷ rest) where
        next-run : RunsPut c levels (run ∷ rest) p octets octets' q
        next-run = rw el at x

        pub run-low : (run.level ≤ c.greatest) × (0 < run.length)
        run-low = (first-low next-run.low, first_some next-run.low)

        pub run-ready : Ready q (length (run_codes c.greatest c.base run) * c.bits) octets'
        unfolding flat_map
        run-ready = put-ready next-run.put (run_codes c.greatest c.base run) (codes_of c rest) refl runs-ready

        pub run_more : {octets'' : List ℕ} {r : Pen} → Moved q (string_of c.bits (run_codes c.greatest c.base run)) octets' octets'' r → RunsPut c levels rest p octets octets'' r
        unfolding flat_map
        run_more m = record { low = others next-run.low; put = put-more next-run.put (run_codes c.greatest c.base run) (codes_of c rest) refl m }

      pub runs-moved : left ≡ [] → Moved (fresh (record { 0 = 0 })) (string_of c.bits codes) octets octets' q
      unfolding flat_map
      runs-moved el = rw e at (put-end x.put (ap (codes_of c) el))
