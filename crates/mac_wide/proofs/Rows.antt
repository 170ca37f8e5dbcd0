-- Two rows give the tag sum T, over the width and the number of message words: in a register that moves up all but its low bits stay right.
use mathlib.Core.Path.{◌≡◌, refl, sym, ap, ap₂, ◌∙◌}
use mathlib.Core.Bool.{Bool, true, false}
use mathlib.Core.List.{List, [], ◌∷◌, ◌++◌}
use Prim.Native.Nat.{ℕ, zero, suc, ◌+◌, ◌-◌, ◌*◌, ◌<◌, ◌≤◌}
use native.Mathlib.Nat.{mul-suc}
use native.Mathlib.Numerals.{add-one}
use native.Mathlib.Omega.{arith}
use lib.Bits.{bit_xor, xor_lt}
use lib.Dec.{ltb}
use lib.ListN.{length, take}
use borrow.Author.Tests.{le-ltb, lt-ltb}
use Rattle.std.specs.Prelude.{if◌then◌else◌}
use Rattle.standard.specs.Notation.{◌⊕◌, ◌⟨◌⟩, listed}
use Rattle.standard.specs.Bits.{window}
use Rattle.standard.specs.Integrity.{T}
use Rattle.standard.proofs.Listed.{listed-on}
use Rattle.standard.proofs.Register.{window-none, window-up, window-xor}
use Rattle.standard.proofs.Sum.{sum-ext, sum_lt, sum-split}
use Rattle.standard.proofs.Window.{window-ext}
use Rattle.standard.proofs.Xor.{xor-four}
use Rattle.mac_wide.specs.InnerRows.{four_on, over, raised}

-- n words of a stream, from a place on
abbrev pub words_from : (ℕ → ℕ) → ℕ → ℕ → List ℕ
words_from s p zero = []
words_from s p (suc n) = window s p 64 ∷ words_from s (p + 64) n

-- the bits of a register after k turns: in each it moves up by eight bits, and the turn's entry goes in
unfoldable pub turned : (ℕ → ℕ → ℕ) → ℕ → ℕ → ℕ
turned e zero i = 0
turned e (suc k) i = e k i ⊕ turned e k (8 + i)

-- the same for a register of D bits, in which an entry has no room for more
abbrev pub cut : ℕ → (ℕ → ℕ) → ℕ → ℕ
cut D f i = if ltb i D then f i else 0

unfoldable pub row : ℕ → (ℕ → ℕ → ℕ) → ℕ → ℕ → ℕ
row D e = turned (λ j. cut D (e j))

-- the entry of turn j: the bits of the key at four message bits of each of W words, the high ones of byte 7 - j of the word
unfoldable pub looked : (ℕ → ℕ) → (ℕ → ℕ) → ℕ → ℕ → ℕ → ℕ
looked s m zero j i = 0
looked s m (suc W) j i = looked s m W j i ⊕ T 1 s (64 * W + i) (λ b. m ((8 * W + 7 - j) * 8 + b)) 4

turned_none : (e : ℕ → ℕ → ℕ) (k i : ℕ) → ((j i' : ℕ) → i ≤ i' → e j i' ≡ 0) → turned e k i ≡ 0
unfolding turned
turned_none e zero i h = refl
turned_none e (suc k) i h = ap₂ bit_xor (h k i (omega arith)) (turned_none e k (8 + i) (λ j i' l. h j i' (omega arith)))

turned_lt : (e : ℕ → ℕ → ℕ) → ((j i : ℕ) → e j i < 2) → (k i : ℕ) → turned e k i < 2
unfolding turned
turned_lt e h zero i = omega arith
turned_lt e h (suc k) i = xor_lt 1 (e k i) (turned e k (8 + i)) (h k i) (turned_lt e h k (8 + i))

turned-xor : (e f : ℕ → ℕ → ℕ) (k i : ℕ) → turned (λ j i. e j i ⊕ f j i) k i ≡ turned e k i ⊕ turned f k i
unfolding turned
turned-xor e f zero i = refl
turned-xor e f (suc k) i =
    ap (bit_xor (e k i ⊕ f k i)) (turned-xor e f k (8 + i)) ∙ xor-four (e k i) (f k i) (turned e k (8 + i)) (turned f k (8 + i))

-- a register of D bits: what it has, and what it has not lost after k turns
cut-lt : (b : Bool) (x : ℕ) → x < 2 → (if b then x else 0) < 2
cut-lt true x h = h
cut-lt false x h = omega arith

pub row_lt : (D : ℕ) (e : ℕ → ℕ → ℕ) → ((j i : ℕ) → e j i < 2) → (k i : ℕ) → row D e k i < 2
unfolding row
row_lt D e h = turned_lt (λ j. cut D (e j)) (λ j i. cut-lt (ltb i D) (e j i) (h j i))

row-none : (D : ℕ) (e : ℕ → ℕ → ℕ) (k i : ℕ) → D ≤ i → row D e k i ≡ 0
unfolding row
row-none D e k i h = turned_none (λ j. cut D (e j)) k i (λ j i' l. ap (λ (b : Bool). if b then e j i' else 0) (le-ltb i' D (omega arith)))

row_is : (D : ℕ) (e : ℕ → ℕ → ℕ) (k i : ℕ) → i + 8 * k < D + 8 → row D e k i ≡ turned e k i
unfolding row turned
row_is D e zero i h = refl
row_is D e (suc k) i h =
    ap₂ (λ (b : Bool) (x : ℕ). (if b then e k i else 0) ⊕ x) (lt-ltb i D (omega arith)) (row_is D e k (8 + i) (omega arith))

-- words of streams
words-ext : (s r : ℕ → ℕ) (p n : ℕ) → ((i : ℕ) → i < p + n * 64 → s i ≡ r i) → words_from s p n ≡ words_from r p n
words-ext s r p zero e = refl
words-ext s r p (suc n) e =
    ap₂ (λ (x : ℕ) (l : List ℕ). x ∷ l) (window-ext s r p p 64 (λ j u. e (p + j) (omega arith))) (words-ext s r (p + 64) n (λ i u. e i (omega arith)))

words-end : (s : ℕ → ℕ) (p n x : ℕ) → x ≡ window s (p + n * 64) 64 → words_from s p n ++ (x ∷ []) ≡ words_from s p (suc n)
words-end s p zero x e = ap (λ (y : ℕ). y ∷ []) (e ∙ ap (λ (y : ℕ). window s y 64) place)
  where
    place : p + 0 * 64 ≡ p
    place = omega arith
words-end s p (suc n) x e = ap (λ (l : List ℕ). window s p 64 ∷ l) (words-end s (p + 64) n x (e ∙ ap (λ (y : ℕ). window s y 64) place))
  where
    place : p + suc n * 64 ≡ p + 64 + n * 64
    place = omega arith

words_take : (s : ℕ → ℕ) (p n : ℕ) → take n (words_from s p (suc n)) ≡ words_from s p n
words_take s p zero = refl
words_take s p (suc n) = ap (λ (l : List ℕ). window s p 64 ∷ l) (words_take s (p + 64) n)

over-words : (f g : ℕ → ℕ) → ((i : ℕ) → f i < 2) → ((i : ℕ) → g i < 2) → (k : ℕ)
    → ((p : ℕ) → raised k (window g p 64) (window g (p + 64) 64) ≡ window g (p + k) 64)
    → (p n : ℕ) → over k (words_from f p n) (words_from g p (suc n)) ≡ words_from (λ i. f i ⊕ g (k + i)) p n
over-words f g bf bg k up p zero = refl
over-words f g bf bg k up p (suc n) =
    ap₂ (λ (x : ℕ) (l : List ℕ). x ∷ l)
    (ap (bit_xor (window f p 64)) (up p ∙ window-ext g (λ i. g (k + i)) (p + k) p 64 (λ j u. ap g (place j)))
    ∙ window-xor f (λ i. g (k + i)) bf (λ i. bg (k + i)) p 64)
    (over-words f g bf bg k up (p + 64) n)
  where
    place : (j : ℕ) → p + k + j ≡ k + (p + j)
    place j = omega arith

-- word by word: each with the next one of the register below it
pub over-listed : (k n : ℕ) (vs xs : List ℕ) → length vs ≡ n → length xs ≡ n
    → listed (λ i. vs ⟨ i ⟩ ⊕ raised k (xs ⟨ i ⟩) (xs ⟨ i + 1 ⟩)) 0 n ≡ over k vs (xs ++ (0 ∷ []))
unfolding listed
over-listed k zero [] xs e f = refl
over-listed k zero (v ∷ vs) xs e f = absurd (omega (arith, e))
over-listed k (suc n) [] xs e f = absurd (omega (arith, e))
over-listed k (suc n) (v ∷ vs) [] e f = absurd (omega (arith, f))
over-listed k (suc n) (v ∷ vs) (x ∷ xs) e f =
    ap₂ (λ (y : ℕ) (l : List ℕ). y ∷ l) (ap (λ (y : ℕ). v ⊕ raised k x y) (first xs))
    (listed-on (λ i. (v ∷ vs) ⟨ i ⟩ ⊕ raised k ((x ∷ xs) ⟨ i ⟩) ((x ∷ xs) ⟨ i + 1 ⟩)) (λ i. vs ⟨ i ⟩ ⊕ raised k (xs ⟨ i ⟩) (xs ⟨ i + 1 ⟩)) 1 0 n
    (λ i. ap₂ (λ (p q : ℕ). (v ∷ vs) ⟨ p ⟩ ⊕ raised k ((x ∷ xs) ⟨ p ⟩) ((x ∷ xs) ⟨ q ⟩)) (one i) (one-more i))
    ∙ over-listed k n vs xs (omega (arith, e)) (omega (arith, f)))
  where
    one : (i : ℕ) → 1 + i ≡ suc (0 + i)
    one i = omega arith

    one-more : (i : ℕ) → 1 + i + 1 ≡ suc (0 + i + 1)
    one-more i = omega arith

    first : (xs : List ℕ) → xs ⟨ 0 ⟩ ≡ (xs ++ (0 ∷ [])) ⟨ 0 ⟩
    first [] = refl
    first (x ∷ xs) = refl

-- a turn of a register of n words
pub row_more : (e : ℕ → ℕ → ℕ) → ((j i : ℕ) → e j i < 2) → (n i : ℕ) (v x r : List ℕ) → v ≡ words_from (e i) 0 n → x ≡ words_from (row (n * 64) e i) 0 n
    → r ≡ over 8 v (x ++ (0 ∷ [])) → r ≡ words_from (row (n * 64) e (i + 1)) 0 n
unfolding row turned
row_more e h n i v x r ev ex er =
    er
    ∙ ap₂ (over 8) (ev ∙ words-ext (e i) (cut D (e i)) 0 n (λ j u. ap (λ (b : Bool). if b then e i j else 0) (sym (lt-ltb j D (omega arith)))))
    (ap (λ (l : List ℕ). l ++ (0 ∷ [])) ex
    ∙ words-end R 0 n 0 (sym (window-none R (0 + D) 64 (λ j. row-none D e i (0 + D + j) (omega arith)))))
    ∙ over-words (cut D (e i)) R (λ j. cut-lt (ltb j D) (e i j) (h i j)) (row_lt D e h i) 8 (window-up R (row_lt D e h i) 56 8) 0 n
    ∙ ap (λ (k : ℕ). words_from (row D e k) 0 n) (sym (add-one i))
  where
    D : ℕ
    D = n * 64

    R : ℕ → ℕ
    R = row D e i

module _ (s : ℕ → ℕ) (b : (i : ℕ) → s i < 2) where
  pub looked-lt : (m : ℕ → ℕ) (W j i : ℕ) → looked s m W j i < 2
  unfolding looked
  looked-lt m zero j i = omega arith
  looked-lt m (suc W) j i = xor_lt 1 (looked s m W j i) _ (looked-lt m W j i) (sum_lt 1 s b (64 * W + i) _ 4)

  same : (o o' : ℕ) (n n' : ℕ → ℕ) (l : ℕ) → o ≡ o' → ((j : ℕ) → n j ≡ n' j) → T 1 s o n l ≡ T 1 s o' n' l
  same o o' n n' l e f = sum-ext 1 s s o o' n n' l (λ j u. ap (λ (x : ℕ). s (x + j)) e) (λ j u. f j)

  -- one message word's part of an entry; and both rows of it after k turns, over its last k bytes
  abbrev piece : (ℕ → ℕ) → ℕ → ℕ → ℕ → ℕ
  piece m W j i = T 1 s (64 * W + i) (λ b. m ((8 * W + 7 - j) * 8 + b)) 4

  module _ (m : ℕ → ℕ) where
    word_rows : (W k i : ℕ) → k ≤ 8
        → turned (piece m W) k i ⊕ turned (piece (four_on m) W) k (4 + i) ≡ T 1 s (64 * W + i) (λ b. m (64 * W + 8 * (8 - k) + b)) (8 * k)
    unfolding turned T
    word_rows W zero i l = refl
    word_rows W (suc k) i l =
        xor-four (piece m W k i) (turned (piece m W) k (8 + i)) (piece (four_on m) W k (4 + i)) (turned (piece (four_on m) W) k (8 + (4 + i)))
        ∙ ap₂ bit_xor
        (ap₂ bit_xor (same o o (λ b. m ((8 * W + 7 - k) * 8 + b)) n 4 refl (λ j. ap m (at₀ j)))
        (same (64 * W + (4 + i)) (o + 4) (λ b. m (4 + ((8 * W + 7 - k) * 8 + b))) (λ b. n (4 + b)) 4 (omega arith) (λ j. ap m (at₄ j)))
        ∙ sym (sum-split 1 s o n 4 4))
        (ap (λ (x : ℕ). turned (piece m W) k (8 + i) ⊕ turned (piece (four_on m) W) k x) place
        ∙ word_rows W k (8 + i) (omega arith)
        ∙ same (64 * W + (8 + i)) (o + 8) (λ b. m (64 * W + 8 * (8 - k) + b)) (λ b. n (8 + b)) (8 * k) (omega arith) (λ j. ap m (at₈ j)))
        ∙ sym (sum-split 1 s o n 8 (8 * k))
        ∙ ap (T 1 s o n) size
      where
        o : ℕ
        o = 64 * W + i

        n : ℕ → ℕ
        n b = m (64 * W + 8 * (8 - suc k) + b)

        place : 8 + (4 + i) ≡ 4 + (8 + i)
        place = omega arith

        size : 8 + 8 * k ≡ 8 * suc k
        size = omega arith

        at₀ : (j : ℕ) → (8 * W + 7 - k) * 8 + j ≡ 64 * W + 8 * (8 - suc k) + j
        at₀ j = omega arith

        at₄ : (j : ℕ) → 4 + ((8 * W + 7 - k) * 8 + j) ≡ 64 * W + 8 * (8 - suc k) + (4 + j)
        at₄ j = omega arith

        at₈ : (j : ℕ) → 64 * W + 8 * (8 - k) + j ≡ 64 * W + 8 * (8 - suc k) + (8 + j)
        at₈ j = omega arith

    both-rows : (W i : ℕ) → turned (looked s m W) 8 i ⊕ turned (looked s (four_on m) W) 8 (4 + i) ≡ T 1 s i m (64 * W)
    unfolding looked T
    both-rows zero i = ap₂ bit_xor (turned_none (λ j i. 0) 8 i (λ j i' l. refl)) (turned_none (λ j i. 0) 8 (4 + i) (λ j i' l. refl))
    both-rows (suc W) i =
        ap₂ bit_xor (turned-xor (looked s m W) (piece m W) 8 i) (turned-xor (looked s (four_on m) W) (piece (four_on m) W) 8 (4 + i))
        ∙ xor-four (turned (looked s m W) 8 i) (turned (piece m W) 8 i) (turned (looked s (four_on m) W) 8 (4 + i)) (turned (piece (four_on m) W) 8 (4 + i))
        ∙ ap₂ bit_xor (both-rows W i)
        (word_rows W 8 i (omega arith) ∙ same (64 * W + i) (i + 64 * W) (λ b. m (64 * W + 0 + b)) (λ b. m (64 * W + b)) 64 (omega arith) (λ j. ap m (place j)))
        ∙ sym (sum-split 1 s i m (64 * W) 64)
        ∙ ap (T 1 s i m) (sym (mul-suc 64 W))
      where
        place : (j : ℕ) → 64 * W + 0 + j ≡ 64 * W + j
        place j = omega arith

    -- the law: W message words, and a tag of n words
    pub gathered-is : (n W i : ℕ) (x y : List ℕ) → i ≡ 8 → x ≡ words_from (row (suc n * 64) (looked s m W) i) 0 (suc n)
        → y ≡ words_from (row (suc n * 64) (looked s (four_on m) W) i) 0 (suc n) → over 4 (take n x) y ≡ words_from (λ i. T 1 s i m (64 * W)) 0 n
    gathered-is n W i x y e ex ey =
        ap₂ (over 4) (ap (take n) (ex ∙ ap (λ (k : ℕ). words_from (row D (looked s m W) k) 0 (suc n)) e) ∙ words_take high 0 n)
        (ey ∙ ap (λ (k : ℕ). words_from (row D (looked s (four_on m) W) k) 0 (suc n)) e)
        ∙ over-words high low (row_lt D (looked s m W) (looked-lt m W) 8) bits 4 (window-up low bits 60 4) 0 n
        ∙ words-ext (λ i. high i ⊕ low (4 + i)) (λ i. T 1 s i m (64 * W)) 0 n
        (λ i u. ap₂ bit_xor (row_is D (looked s m W) 8 i (omega arith)) (row_is D (looked s (four_on m) W) 8 (4 + i) (omega arith)) ∙ both-rows W i)
      where
        D : ℕ
        D = suc n * 64

        high : ℕ → ℕ
        high = row D (looked s m W) 8

        low : ℕ → ℕ
        low = row D (looked s (four_on m) W) 8

        bits : (i : ℕ) → low i < 2
        bits = row_lt D (looked s (four_on m) W) (looked-lt (four_on m) W) 8
