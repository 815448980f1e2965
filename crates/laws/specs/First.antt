-- Which refusal is the first, from what the code knows at a return. Assumes nothing.
use Prim.Native.Nat.{ℕ, zero, suc, ◌≤◌, ◌<◌}
use Rattle.std.specs.Prelude.{◌≡◌, Bool, true, false, not, ◌⊎◌, eqb, get_or, take, drop}
use Rattle.std.proofs.Math.Path.{refl, ap}
use Rattle.std.proofs.Common.{sym, ◌∙◌, inl, inr, ⊎_elim, arith, le-ltb, eq-eqb, ne_eqb, ltb-true, ltb-false, eqb-true}
use mathlib.Core.List.{List, [], ◌∷◌, ◌++◌}
use Rattle.std.proofs.lemmas.Bool.{eqb-false, not-true, not-false}
use Rattle.format.specs.Refusals.{Row, ◌gives◌, first, refusal_number}
use Rattle.format.specs.declared.Refusal.{Refusal}
use Rattle.format.specs.declared.Refusal.TheVariants.{Splitting, Management, Order, Descriptors, Width, GroupCount, Short, GroupSize, Points, Room, Repeat, Beyond, Numbers, Section5, Place}

-- ---- `omega (arith, tests)` reads what a test comes to from the order of its numbers, and the other way round

pub not-equal-fails : (a b : ℕ) → a ≡ b → not (eqb a b) ≡ false
not-equal-fails a b h = ap not (eq-eqb a b h)

pub not-equal-true : (a b : ℕ) → not (eqb a b) ≡ true → a ≡ b → ⊥
not-equal-true a b h = eqb-false a b (not-true (eqb a b) h)

pub not-equal-false : (a b : ℕ) → not (eqb a b) ≡ false → a ≡ b
not-equal-false a b h = eqb-true a b (not-false (eqb a b) h)

-- a test that is none of numbers is read as a number of its own
unfoldable pub flag : Bool → ℕ
flag true = 1
flag false = 0

pub flag_true : (t : Bool) → t ≡ true → flag t ≡ 1
unfolding flag
flag_true t h = rw h

pub flag-false : (t : Bool) → t ≡ false → flag t ≡ 0
unfolding flag
flag-false t h = rw h

pub flag-fails : (t : Bool) → flag t ≡ 0 → t ≡ false
unfolding flag
flag-fails true h = absurd (omega arith)
flag-fails false h = refl

-- listed besides, it has `omega` read an equation of two tests
pub flag_same : (t u : Bool) → t ≡ u → flag t ≡ flag u
flag_same t u e = ap flag e

pub ruleset tests = (
  le-ltb,
  ne_eqb,
  not-equal-fails,
  ltb-true,
  ltb-false,
  eqb-true,
  eqb-false,
  not-equal-true,
  not-equal-false,
  flag_true,
  flag-false,
  flag-fails,
)

-- ---- a refusal is known by its number

abbrev refusal_of : ℕ → Refusal
refusal_of n = get_or (Place ∷ Splitting ∷ Management ∷ Order ∷ Descriptors ∷ Width ∷ GroupCount ∷ Short ∷ GroupSize ∷ Points ∷ Room ∷ Repeat ∷ Beyond ∷ Numbers ∷ Section5 ∷ Place ∷ []) n Place

back : (r : Refusal) → refusal_of (refusal_number r) ≡ r
back Splitting = refl
back Management = refl
back Order = refl
back Descriptors = refl
back Width = refl
back GroupCount = refl
back Short = refl
back GroupSize = refl
back Points = refl
back Room = refl
back Repeat = refl
back Beyond = refl
back Numbers = refl
back Section5 = refl
back Place = refl

-- "The call returns the refusal's number, or 0.": which no refusal has
pub refusal-some : (r : Refusal) → 0 < refusal_number r
refusal-some Splitting = omega arith
refusal-some Management = omega arith
refusal-some Order = omega arith
refusal-some Descriptors = omega arith
refusal-some Width = omega arith
refusal-some GroupCount = omega arith
refusal-some Short = omega arith
refusal-some GroupSize = omega arith
refusal-some Points = omega arith
refusal-some Room = omega arith
refusal-some Repeat = omega arith
refusal-some Beyond = omega arith
refusal-some Numbers = omega arith
refusal-some Section5 = omega arith
refusal-some Place = omega arith

-- two refusals of one number are one
pub same_number : {q r : Refusal} → refusal_number q ≡ refusal_number r → q ≡ r
same_number {q} {r} e = sym (back q) ∙ ap refusal_of e ∙ back r

-- ---- the first test that holds

-- gives number n
abbrev pub Gives : ℕ → List Row → Type 0
Gives n [] = ⊥
Gives n (t gives r ∷ rows) = (t ≡ true → n ≡ refusal_number r) × (t ≡ false → Gives n rows)

-- there is none
abbrev pub Clear : List Row → Type 0
Clear [] = Unit
Clear (t gives r ∷ rows) = (t ≡ false) × Clear rows

-- rows behind them do not change what is given
pub gives-front : (n : ℕ) (rows more : List Row) → Gives n rows → Gives n (rows ++ more)
gives-front n [] more h = absurd h
gives-front n (t gives r ∷ rows) more h = (h.0, λ e. gives-front n rows more (h.1 e))

-- a test that is among theirs: `search among` finds it wherever it stands
pub data Among (t : Bool) : List Row → Type 0 where
  here : {r : Refusal} {rows : List Row} → Among t (t gives r ∷ rows)
  later : {s : Bool} {r : Refusal} {rows : List Row} → Among t rows → Among t (s gives r ∷ rows)

pub ruleset among = (here, later)

-- a row of a list that is clear has a false test
pub clear-row : {t : Bool} (rows : List Row) → Clear rows → Among t rows → t ≡ false
clear-row {t = t} [] h among = elim among [ ]
clear-row (t gives r ∷ rows) h here = h.0
clear-row (s gives r ∷ rows) h (later a) = clear-row rows h.1 a

pub clear-front : (rows more : List Row) → Clear (rows ++ more) → Clear rows
clear-front [] more h = tt
clear-front (t gives r ∷ rows) more h = (h.0, clear-front rows more h.1)

pub clear-join : (rows more : List Row) → Clear rows → Clear more → Clear (rows ++ more)
clear-join [] more h k = k
clear-join (t gives r ∷ rows) more h k = (h.0, clear-join rows more h.1 k)

pub clear_later : (rows more : List Row) → Clear (rows ++ more) → Clear more
clear_later [] more h = h
clear_later (t gives r ∷ rows) more h = clear_later rows more h.1

-- rows refuse, or none does
pub record Giving (rows : List Row) : Type 0 where
  pub refusal : Refusal
  pub given : Gives (refusal_number refusal) rows

pub outcome : (rows : List Row) → Clear rows ⊎ Giving rows
outcome [] = inl tt
outcome (true gives r ∷ rows) = inr (record { refusal = r; given = (λ e. refl, λ e. absurd (let d : ◌≡◌ {A = ℕ} 0 1 = cc in omega arith)) })
outcome (false gives r ∷ rows) =
    ⊎_elim (λ clear. inl (refl, clear))
    (λ (g : Giving rows). inr (record { refusal = g.refusal; given = (λ e. absurd (let d : ◌≡◌ {A = ℕ} 0 1 = cc in omega arith), λ e. g.given) })) (outcome rows)

-- no row gives a number above n
abbrev pub UpTo : ℕ → List Row → Type 0
UpTo n [] = Unit
UpTo n (t gives r ∷ rows) = (refusal_number r ≤ n) × UpTo n rows

pub gives-up-to : (n m : ℕ) (rows : List Row) → UpTo n rows → Gives m rows → m ≤ n
gives-up-to n m [] u h = absurd h
gives-up-to n m (true gives r ∷ rows) u h = rw (h.0 refl) u.0
gives-up-to n m (false gives r ∷ rows) u h = gives-up-to n m rows u.1 (h.1 refl)

module _ {A : Type 0} (refused : Refusal → A) where
  -- a return that refuses
  pub decides : (q : Refusal) (rows : List Row) (a : A) → Gives (refusal_number q) rows → refused q ≡ first refused rows a
  unfolding first
  decides q [] a h = absurd h
  decides q (true gives r ∷ rows) a h = ap refused (same_number (h.0 refl))
  decides q (false gives r ∷ rows) a h = decides q rows a (h.1 refl)

  -- a return that refuses nothing
  pub clears : (rows : List Row) (a : A) → Clear rows → a ≡ first refused rows a
  unfolding first
  clears [] a h = refl
  clears (t gives r ∷ rows) a h = rw h.0 (clears rows a h.1)

  -- one that leaves all but the first n rows to a function that decides those
  pub leaves : (n : ℕ) (rows : List Row) (a : A) → Clear (take n rows) → first refused (drop n rows) a ≡ first refused rows a
  unfolding first
  leaves zero rows a h = refl
  leaves (suc n) [] a h = refl
  leaves (suc n) (t gives r ∷ rows) a h = rw h.0 (leaves n rows a h.1)

  -- the first of a joined list: of its first part, or else of its second
  pub first-joined : (rows more : List Row) (a : A) → first refused (rows ++ more) a ≡ first refused rows (first refused more a)
  unfolding first
  first-joined [] more a = refl
  first-joined (true gives r ∷ rows) more a = refl
  first-joined (false gives r ∷ rows) more a = first-joined rows more a

  -- an answer that is not a is the refusal of a row, whatever else is answered where none refuses
  pub refusal-stays : (rows : List Row) (a b : A) {x : A} → x ≡ first refused rows a → (x ≡ a → ⊥) → x ≡ first refused rows b
  unfolding first
  refusal-stays [] a b e h = absurd (h e)
  refusal-stays (true gives r ∷ rows) a b e h = e
  refusal-stays (false gives r ∷ rows) a b e h = refusal-stays rows a b e h

  -- what is answered where none refuses may be another that is equal there
  pub first-ext : (rows : List Row) (a b : A) → (Clear rows → a ≡ b) → first refused rows a ≡ first refused rows b
  unfolding first
  first-ext [] a b h = h tt
  first-ext (true gives r ∷ rows) a b h = refl
  first-ext (false gives r ∷ rows) a b h = first-ext rows a b (λ clear. h (refl, clear))

  -- an answer that is no refusal was refused by no row
  pub passed : (rows : List Row) (a : A) {x : A} → x ≡ first refused rows a → ((r : Refusal) → x ≡ refused r → ⊥) → Clear rows × (x ≡ a)
  unfolding first
  passed [] a e h = (tt, e)
  passed (true gives r ∷ rows) a e h = absurd (h r e)
  passed (false gives r ∷ rows) a e h = let p = passed rows a e h in ((refl, p.0), p.1)

-- what is made of an answer, refusals being made refusals, may as well be made of what is answered where none refuses
pub first-through : {A B : Type 0} (refused : Refusal → A) (refused' : Refusal → B) (f : A → B) → ((r : Refusal) → f (refused r) ≡ refused' r)
    → (rows : List Row) (a : A) → f (first refused rows a) ≡ first refused' rows (f a)
unfolding first
first-through refused refused' f h [] a = refl
first-through refused refused' f h (true gives r ∷ rows) a = h r
first-through refused refused' f h (false gives r ∷ rows) a = first-through refused refused' f h rows a
