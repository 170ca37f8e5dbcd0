-- The block that closes a message: its set bit after the message's bits stands for the last window, and its zeros for nothing.
use mathlib.Core.Path.{◌≡◌, refl, sym, ap, ap₂, ◌∙◌}
use mathlib.Core.List.{List, [], ◌∷◌, ◌++◌}
use mathlib.Core.Logic.{⊎_elim}
use Prim.Native.Nat.{ℕ, zero, suc, ◌+◌, ◌-◌, ◌*◌, ◌/◌, ◌%◌, ◌^◌, ◌<◌, ◌≤◌}
use native.Mathlib.Omega.{arith}
use native.Mathlib.Nat.{add-zero, div-eq_of_lt, eq-zero-or-pos, lt_of_lt_of_le, mod-eq_of_lt, mul_assoc, pow-le-pow_right, pow-suc, zero-add, zero-div}
use lib.ListN.{drop, get_or, length, replicate}
use lib.Seq.{drop_at, get_or-drop}
use lib.Bits.{bit_xor, xor_zero_r}
use lib.Pow.{pow-add, shl_lt, shl-shr, shr_lt, shr-shr}
use lib.Dec.{eqb}
use borrow.Author.Tests.{eq-eqb, ne_eqb}
use Rattle.std.specs.Prelude.{if◌then◌else◌}
use Rattle.standard.specs.Notation.{◌⊕◌}
use Rattle.standard.specs.Bits.{M, bit_at, bit_of, window}
use Rattle.standard.specs.Integrity.{T, where_set}
use Rattle.standard.proofs.Sum.{sum-ext, sum-split}
use Rattle.standard.proofs.Xor.{xor_assoc}
use Rattle.mac_registers.specs.Tagging.{Tagging, last_tag}
use Rattle.mac_registers.specs.Inner.{last_byte}
use Rattle.mac_registers.proofs.Message.{M-drop, M-front}

-- a sum over bits that are not set is nothing
sum-none : (t : ℕ) (s : ℕ → ℕ) (o : ℕ) (m : ℕ → ℕ) (l : ℕ) → ((j : ℕ) → j < l → m j ≡ 0) → T t s o m l ≡ 0
unfolding T
sum-none t s o m zero h = refl
sum-none t s o m (suc l) h =
    ap₂ (λ (x b : ℕ). x ⊕ where_set b (window s (o + l) t)) (sum-none t s o m l (λ j k. h j (omega arith))) (h l (omega arith))

-- a set bit after n bits gives the window at n
pub sum-marked : (t : ℕ) (s m m' : ℕ → ℕ) (n : ℕ) → n < t → ((j : ℕ) → j < n → m' j ≡ m j) → m' n ≡ 1 → ((j : ℕ) → n < j → j < t → m' j ≡ 0)
    → T t s 0 m' t ≡ T t s 0 m n ⊕ window s n t
unfolding T
sum-marked t s m m' n h front at past =
    ap (T t s 0 m') whole
    ∙ sum-split t s 0 m' (suc n) (t - suc n)
    ∙ ap₂ bit_xor
    (ap₂ bit_xor (sum-ext t s s 0 0 m' m n (λ j l. refl) front) (ap₂ (λ (b x : ℕ). where_set b (window s x t)) at (zero-add n)))
    (sum-none t s (0 + suc n) (λ i. m' (suc n + i)) (t - suc n) (λ j l. past (suc n + j) (omega arith) (omega arith)))
    ∙ xor_zero_r (T t s 0 m n ⊕ window s n t)
  where
    whole : t ≡ suc n + (t - suc n)
    whole = omega arith

-- the bits of a marked byte
module _ (hi r : ℕ) (short : r < 8) where
  abbrev byte : ℕ
  byte = (hi * 2 + 1) * 2 ^ (7 - r)

  mark-at : bit_of 8 byte r ≡ 1
  unfolding bit_of
  mark-at = ap (λ (x : ℕ). byte / 2 ^ x % 2) e ∙ ap (λ (x : ℕ). x % 2) (shl-shr (hi * 2 + 1) (7 - r)) ∙ odd hi
    where
      e : 8 - suc r ≡ 7 - r
      e = omega arith

      odd : (x : ℕ) → (x * 2 + 1) % 2 ≡ 1
      odd x = omega arith

  mark-past : (i : ℕ) → r < i → i < 8 → bit_of 8 byte i ≡ 0
  unfolding bit_of
  mark-past i p l =
      ap₂ (λ (x y : ℕ). (hi * 2 + 1) * 2 ^ x / 2 ^ y % 2) e e'
      ∙ ap (λ (x : ℕ). x / 2 ^ (7 - i) % 2) (ap (λ (x : ℕ). (hi * 2 + 1) * x) (pow-add 2 (suc k) (7 - i)) ∙ sym (mul_assoc (hi * 2 + 1) (2 ^ suc k) (2 ^ (7 - i))))
      ∙ ap (λ (x : ℕ). x % 2) (shl-shr ((hi * 2 + 1) * 2 ^ suc k) (7 - i))
      ∙ ap (λ (x : ℕ). x % 2) (ap (λ (x : ℕ). (hi * 2 + 1) * x) (pow-suc 2 k) ∙ sym (mul_assoc (hi * 2 + 1) (2 ^ k) 2))
      ∙ even ((hi * 2 + 1) * 2 ^ k)
    where
      k : ℕ
      k = i - suc r

      e : 7 - r ≡ suc k + (7 - i)
      e = omega arith

      e' : 8 - suc i ≡ 7 - i
      e' = omega arith

      even : (x : ℕ) → x * 2 % 2 ≡ 0
      even x = omega arith

  mark-front : (b : ℕ) → hi ≡ b / 2 ^ (8 - r) → (i : ℕ) → i < r → bit_of 8 byte i ≡ bit_of 8 b i
  unfolding bit_of
  mark-front b e i p =
      ap (λ (x : ℕ). byte / 2 ^ x % 2) down
      ∙ ap (λ (x : ℕ). x % 2)
      (sym (shr-shr byte (7 - r) (1 + k))
      ∙ ap (λ (x : ℕ). x / 2 ^ (1 + k)) (shl-shr (hi * 2 + 1) (7 - r))
      ∙ sym (shr-shr (hi * 2 + 1) 1 k)
      ∙ ap (λ (x : ℕ). x / 2 ^ k) (half hi)
      ∙ ap (λ (x : ℕ). x / 2 ^ k) e
      ∙ shr-shr b (8 - r) k
      ∙ ap (λ (x : ℕ). b / 2 ^ x) up)
    where
      k : ℕ
      k = r - suc i

      down : 8 - suc i ≡ 7 - r + (1 + k)
      down = omega arith

      up : 8 - r + k ≡ 8 - suc i
      up = omega arith

      half : (x : ℕ) → (x * 2 + 1) / 2 ≡ x
      half x = omega arith

-- the marked byte fits
pub marked-lt : (b r : ℕ) → b < 2 ^ 8 → r < 8 → b / 2 ^ (8 - r) < 2 ^ r
marked-lt b r h l = shr_lt r (8 - r) (rw e h)
  where
    e : r + (8 - r) ≡ 8
    e = omega arith

pub marked-fits : (x r : ℕ) → x < 2 ^ r → r < 8 → (x * 2 + 1) * 2 ^ (7 - r) < 2 ^ 8
marked-fits x r h l = rw e at (shl_lt (suc r) (7 - r) odd)
  where
    e : suc r + (7 - r) ≡ 8
    e = omega arith

    odd : x * 2 + 1 < 2 ^ suc r
    odd = omega (arith, h, pow-suc 2 r)

pub marked-half : (x r : ℕ) → x < 2 ^ r → r < 8 → x < 2 ^ 7
marked-half x r h l = lt_of_lt_of_le h (pow-le-pow_right {n = 2} (omega arith) below)
  where
    below : r ≤ 7
    below = omega arith

pub last-byte-none : (rest : List ℕ) (r : ℕ) → r ≡ 0 → 128 ≡ last_byte rest r
unfolding last_byte
last-byte-none rest r e = rw (eq-eqb r 0 e) refl

pub last-byte-some : (tail : List ℕ) (q r : ℕ) → (r ≡ 0 → ⊥) → (get_or tail q 0 / 2 ^ (8 - r) * 2 + 1) * 2 ^ (7 - r) ≡ last_byte (drop q tail) r
unfolding last_byte
last-byte-some tail q r e =
    ap (λ (x : ℕ). (x / 2 ^ (8 - r) * 2 + 1) * 2 ^ (7 - r)) (sym (get_or-drop q tail 0 0 ∙ ap (λ (x : ℕ). get_or tail x 0) (add-zero q)))
    ∙ rw (ne_eqb r 0 e) refl

-- the byte that closes a message is a marked one
high_part : List ℕ → ℕ → ℕ
high_part rest r = if eqb r 0 then 0 else get_or rest 0 0 / 2 ^ (8 - r)

last-is : (rest : List ℕ) (r : ℕ) → last_byte rest r ≡ (high_part rest r * 2 + 1) * 2 ^ (7 - r)
unfolding last_byte high_part
last-is rest r =
    ⊎_elim
    (λ e. rw (eq-eqb r 0 e) (rw e refl))
    (λ p. rw (ne_eqb r 0 (λ e. omega arith)) refl)
    (eq-zero-or-pos r)

high_is : (rest : List ℕ) (r : ℕ) → 0 < r → high_part rest r ≡ get_or rest 0 0 / 2 ^ (8 - r)
unfolding high_part
high_is rest r p = rw (ne_eqb r 0 (λ e. omega arith)) refl

-- bits from a part of a message on
M-back : (l r : List ℕ) (i : ℕ) → M (l ++ r) (length l * 8 + i) ≡ M r i
M-back l r i = sym (M-drop (length l) (l ++ r) i) ∙ ap (λ (x : List ℕ). M x i) (drop_at l r (length l) refl)

M-first : (l : List ℕ) (i : ℕ) → i < 8 → M l i ≡ bit_of 8 (get_or l 0 0) i
unfolding M bit_at
M-first l i h = ap₂ (λ (x y : ℕ). bit_of 8 (get_or l x 0) y) (div-eq_of_lt h) (mod-eq_of_lt h)

M-zeros : (n i : ℕ) → M (replicate n 0) i ≡ 0
unfolding M bit_at bit_of
M-zeros n i = ap (λ (x : ℕ). x / 2 ^ (8 - suc (i % 8)) % 2) (zeros-at n (i / 8)) ∙ ap (λ (x : ℕ). x % 2) (zero-div (2 ^ (8 - suc (i % 8))))
  where
    zeros-at : (n j : ℕ) → ◌≡◌ {A = ℕ} (get_or (replicate n 0) j 0) 0
    zeros-at zero j = refl
    zeros-at (suc n) zero = refl
    zeros-at (suc n) (suc j) = zeros-at n j

module _ (waiting rest : List ℕ) (r zeros : ℕ) (short : r < 8) where
  abbrev block : List ℕ
  block = waiting ++ (last_byte rest r ∷ replicate zeros 0)

  abbrev n : ℕ
  n = length waiting * 8 + r

  -- bit i of the last byte, in the block
  in-last : (i : ℕ) → i < 8 → M block (length waiting * 8 + i) ≡ bit_of 8 ((high_part rest r * 2 + 1) * 2 ^ (7 - r)) i
  in-last i h = M-back waiting (last_byte rest r ∷ replicate zeros 0) i ∙ M-first (last_byte rest r ∷ replicate zeros 0) i h ∙ ap (λ (x : ℕ). bit_of 8 x i) (last-is rest r)

  block-front : (j : ℕ) → j < n → M block j ≡ M (waiting ++ rest) j
  block-front j h =
      ⊎_elim
      (λ e. M-front waiting (last_byte rest r ∷ replicate zeros 0) j (omega arith) ∙ sym (M-front waiting rest j (omega arith)))
      (λ p. ⊎_elim (λ e. M-front waiting (last_byte rest r ∷ replicate zeros 0) j (omega arith) ∙ sym (M-front waiting rest j (omega arith))) (λ q. partial q) (eq-zero-or-pos (suc j - length waiting * 8)))
      (eq-zero-or-pos r)
    where
      i : ℕ
      i = j - length waiting * 8

      partial : 0 < suc j - length waiting * 8 → M block j ≡ M (waiting ++ rest) j
      partial q =
          ap (M block) place
          ∙ in-last i (omega arith)
          ∙ mark-front (high_part rest r) r short (get_or rest 0 0) (high_is rest r (omega arith)) i (omega arith)
          ∙ sym (byte rest)
          ∙ sym (M-back waiting rest i)
          ∙ ap (M (waiting ++ rest)) (sym place)
        where
          place : j ≡ length waiting * 8 + i
          place = omega arith

          byte : (l : List ℕ) → M l i ≡ bit_of 8 (get_or l 0 0) i
          byte l = M-first l i (omega arith)

  block_at : M block n ≡ 1
  block_at = in-last r short ∙ mark-at (high_part rest r) r short

  block-past : (j : ℕ) → n < j → M block j ≡ 0
  block-past j h =
      ⊎_elim (λ e. late e) (λ p. ap (M block) place ∙ in-last i (omega arith) ∙ mark-past (high_part rest r) r short i (omega arith) (omega arith)) (eq-zero-or-pos (8 - i))
    where
      i : ℕ
      i = j - length waiting * 8

      place : j ≡ length waiting * 8 + i
      place = omega arith

      late : 8 - i ≡ 0 → M block j ≡ 0
      late e =
          ap (M block) place
          ∙ M-back waiting (last_byte rest r ∷ replicate zeros 0) i
          ∙ ap (M (last_byte rest r ∷ replicate zeros 0)) (omega arith)
          ∙ M-back (last_byte rest r ∷ []) (replicate zeros 0) (i - 8)
          ∙ M-zeros zeros (i - 8)

  -- so the block's sum is that of the bits left over, and the window after them
  pub last_sum : (t : ℕ) (s : ℕ → ℕ) → n < t → T t s 0 (M block) t ≡ T t s 0 (M (waiting ++ rest)) n ⊕ window s n t
  last_sum t s h = sum-marked t s (M (waiting ++ rest)) (M block) n h block-front block_at (λ j l k. block-past j l)

pub last_tag-is : (t : ℕ) (st : Tagging) (rest : List ℕ) (r zeros : ℕ) → r < 8 → length st.waiting * 8 + r < t
    → st.tag ⊕ T t (bit_of (t + t) st.key) 0 (M (st.waiting ++ (last_byte rest r ∷ replicate zeros 0))) t ≡ last_tag t st rest (length st.waiting * 8 + r)
unfolding last_tag
last_tag-is t st rest r zeros short h =
    ap (bit_xor st.tag) (last_sum st.waiting rest r zeros short t (bit_of (t + t) st.key) h)
    ∙ sym (xor_assoc st.tag (T t (bit_of (t + t) st.key) 0 (M (st.waiting ++ rest)) n) (window (bit_of (t + t) st.key) n t))
  where
    n : ℕ
    n = length st.waiting * 8 + r
