-- The laws of octets that are written bit by bit. Assumes nothing.
use mathlib.Core.Path.{◌≡◌, refl, sym, ap, ◌∙◌}
use mathlib.Core.List.{List, [], ◌∷◌, ◌++◌, append-nil, append_assoc}
use Prim.Native.Nat.{ℕ, ◌+◌, ◌-◌, ◌*◌, ◌/◌, ◌%◌, ◌^◌, ◌≤◌, ◌<◌}
use native.Mathlib.Nat.{add-zero, zero-mul, one-mul, mod-eq_of_lt, mod-lt, lt_of_lt_of_le}
use native.Mathlib.Omega.{arith}
use lib.Arith.{digits_lt}
use lib.Pow.{pow-add, pow_mono, pow_pos}
use lib.ListN.{length, set, length-set, length-append}
use Rattle.format.specs.Lists.{◌over◌}
use Rattle.format.specs.Bits.{number_of, bit, string_of, octets_of, rounded_up}
use Rattle.format.specs.declared.OctetPlace.{OctetPlace}
use Rattle.laws.specs.Lists.{grown}
use Rattle.laws.specs.Bits.{number-add, number-mid}
use Rattle.laws.specs.Strings.{bits-append, bits-string, length-string, number-own, number-front, octets-front, number_past}
use Rattle.writer.specs.Pen.{Held, fresh, Ready, Moved}
use Rattle.writer.specs.declared.Pen.{Pen}

-- ---- what is held

module _ {string lent octets : List ℕ} {at number p : ℕ} (h : Held string lent octets at number p) where
  -- a number of w bits more
  pub held_number : (w x : ℕ) {y : ℕ} → x < 2 ^ w → y ≡ number * 2 ^ w + x → Held (string ++ string_of w (x ∷ [])) lent octets at y (p + w)
  held_number w x {y} l e =
      let more = string_of w (x ∷ []) in
      let e₁ : number_of (bit (string ++ more)) (at * 8) p ≡ number_of (bit string) (at * 8) p = number-front string more (at * 8) p (omega (arith, h.count)) in
      let e₂ : number_of (bit (string ++ more)) (at * 8 + p) w ≡ x =
      ap (λ (i : ℕ). number_of (bit (string ++ more)) i w) (omega (arith, h.count, zero-mul w))
      ∙ ap (λ (s : List ℕ). number_of (bit s) (length string + 0 * w) w) (sym (append-nil (string ++ more)))
      ∙ number-own string w (x ∷ []) [] 0 (omega arith) ∙ mod-eq_of_lt l in
      record {
        bits = bits-append string more h.bits (bits-string w (x ∷ []));
        count = length-append string more ∙ omega (arith, h.count, length-string w (x ∷ []), one-mul w);
        value = cc (number-add (bit (string ++ more)) (at * 8) p w, h.value);
        front = h.front ∙ ap (λ (o : List ℕ). o over lent) (sym (octets-front string more at (omega (arith, h.count))));
        long = h.long;
      }

  stored : {x : ℕ} → at < length lent → x ≡ number_of (bit string) (at * 8) 8 → set octets at x ≡ octets_of string (at + 1) over lent
  stored {x} l e = cc (grown (λ j. number_of (bit string) (j * 8) 8) lent at l, h.front)

  -- an octet goes out
  pub held-octet : at < length octets → 8 ≤ p → {x rest : ℕ} → x ≡ number / 2 ^ (p - 8) % 256 → rest ≡ number / 2 ^ 0 % 2 ^ (p - 8)
      → Held string lent (set octets at x) (at + 1) rest (p - 8)
  held-octet m l {x} {rest} ex er =
      let e₁ : 0 + 8 + (p - 8) ≡ p = omega arith in
      let e₂ : 8 + (p - 8) + 0 ≡ p = omega arith in
      let e₃ : at * 8 + 8 ≡ (at + 1) * 8 = omega arith in
      record {
        bits = h.bits;
        count = omega (arith, h.count);
        value = cc (number-mid h.bits (at * 8) 8 (p - 8) 0, h.value);
        front = stored (omega (arith, h.long)) (cc (number-mid h.bits (at * 8) 0 8 (p - 8), add-zero (at * 8), h.value));
        long = length-set octets at x ∙ h.long;
      }

  -- nothing is pending
  pub held-end : p ≡ 0 → octets ≡ octets_of string (rounded_up (length string)) over lent
  held-end e = let n : rounded_up (length string) ≡ at = omega (arith, h.count) in rw n h.front

  -- the bits that are pending, and zeros after them
  pub held-last : at < length octets → 0 < p → p ≤ 7 → {x : ℕ} → x ≡ number * 2 ^ (8 - p) / 2 ^ 0 % 256
      → set octets at x ≡ octets_of string (rounded_up (length string)) over lent
  held-last m l₁ l₂ {x} ex =
      let e : p + (8 - p) ≡ 8 = omega arith in
      let n : rounded_up (length string) ≡ at + 1 = omega (arith, h.count) in
      let y : number * 2 ^ (8 - p) ≡ number_of (bit string) (at * 8) 8 =
      cc (number-add (bit string) (at * 8) p (8 - p), number_past string (at * 8 + p) (8 - p) (omega (arith, h.count)), add-zero (number * 2 ^ (8 - p)), h.value) in
      rw n (stored (omega (arith, h.long)) (cc (number-mid h.bits (at * 8) 0 8 0, add-zero (at * 8))))

-- ---- octets that go out one after another

-- since the state with ₀, in which up to 39 bits were pending
pub record Emitting (octets₀ : List ℕ) (at₀ number₀ pending₀ : ℕ) (octets : List ℕ) (at number pending : ℕ) : Type 0 where
  pub place : at * 8 + pending ≡ at₀ * 8 + pending₀
  pub few : pending ≤ 39
  pub room : at * 8 + pending ≤ length octets * 8
  pub long : length octets ≡ length octets₀
  pub small : number < 2 ^ pending
  pub held : (string lent : List ℕ) → Held string lent octets₀ at₀ number₀ pending₀ → Held string lent octets at number pending

module _ {p : Pen} {octets : List ℕ} {w : ℕ} (r : Ready p w octets) where
  pub ready-small : p.number < 256
  ready-small = lt_of_lt_of_le p.small (pow_mono {j = 8} (omega (arith, p.few)))

  module _ {x y : ℕ} (l : (w ≤ 32) × (x < 2 ^ w)) (e : (y ≡ p.number * 2 ^ w) × (y ≤ 255 * 2 ^ 32)) where
    pub emitting-start : Emitting octets p.place.0 (y + x) (p.pending + w) octets p.place.0 (y + x) (p.pending + w)
    emitting-start = record {
      place = refl;
      few = omega (arith, p.few);
      room = omega (arith, r.room);
      long = refl;
      small = rw (e.0, pow-add 2 p.pending w) (digits_lt p.small l.1);
      held = λ string lent h. h;
    }

    pub emitting-end : {octets' : List ℕ} {at number pending : ℕ} → Emitting octets p.place.0 (y + x) (p.pending + w) octets' at number pending
        → {few : pending ≤ 7} {small : number < 2 ^ pending} → Moved p (string_of w (x ∷ [])) octets octets' (record { place = record { 0 = at }; number = number; pending = pending; few = few; small = small })
    emitting-end i = record {
      place = omega (arith, i.place, length-string w (x ∷ []), one-mul w);
      long = i.long;
      held = λ string lent h. i.held _ lent (held_number h w x l.1 (ap (λ (n : ℕ). n + x) e.0));
    }

module _ {octets₀ octets : List ℕ} {at₀ number₀ pending₀ at number pending : ℕ} (i : Emitting octets₀ at₀ number₀ pending₀ octets at number pending) (l : 8 ≤ pending) where
  pub emitting-more : {x rest : ℕ} → x ≡ number / 2 ^ (pending - 8) % 256 → rest ≡ number / 2 ^ 0 % 2 ^ (pending - 8)
      → Emitting octets₀ at₀ number₀ pending₀ (set octets at x) (at + 1) rest (pending - 8)
  emitting-more {x} ex er = record {
    place = omega (arith, i.place);
    few = omega (arith, i.few);
    room = omega (arith, i.room, length-set octets at x);
    long = length-set octets at x ∙ i.long;
    small = rw er (mod-lt _ (pow_pos _));
    held = λ string lent h. held-octet (i.held string lent h) (omega (arith, i.room)) l ex er;
  }

-- ---- from pen to pen

-- a pen on an octet of its own, with room for n bits
pub fresh-ready : {p : Pen} {place : OctetPlace} → p ≡ fresh place → (n : ℕ) {octets : List ℕ} → place.0 + rounded_up n ≤ length octets → Ready p n octets
fresh-ready {p} {place} e n l = rw e (record { room = omega arith })

pub moved_none : (p : Pen) (octets : List ℕ) → Moved p [] octets octets p
moved_none p octets = record { place = omega arith; long = refl; held = λ string lent h. rw (append-nil string) h }

module _ {p q : Pen} {a octets octets' : List ℕ} (m : Moved p a octets octets' q) where
  pub moved_then : {r : Pen} {b octets'' : List ℕ} → Moved q b octets' octets'' r → Moved p (a ++ b) octets octets'' r
  moved_then {b = b} n = record {
    place = omega (arith, m.place, n.place, length-append a b);
    long = n.long ∙ m.long;
    held = λ string lent h. rw (← append_assoc string a b) (n.held (string ++ a) lent (m.held string lent h));
  }

  pub moved_ready : {k : ℕ} (n : ℕ) → Ready p k octets → length a + n ≤ k → Ready q n octets'
  moved_ready n r l = record { room = omega (arith, m.place, m.long, r.room) }
