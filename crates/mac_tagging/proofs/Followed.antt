-- The tag rule's heart, once over the width t: after any bytes the state is known in closed form, by the keystream of the
-- generator at the start. Induction on the bytes; taken, drawn and blocks are carried as numbers, so that all stays linear.
use mathlib.Core.Path.{◌≡◌, refl, sym, ap, ap₂, ◌∙◌, subst}
use mathlib.Core.Logic.{⊎_elim}
use mathlib.Core.List.{List, [], ◌∷◌, ◌++◌, append_assoc, append-nil}
use Prim.Native.Nat.{ℕ, suc, ◌+◌, ◌*◌, ◌/◌, ◌%◌, ◌^◌, ◌<◌, ◌≤◌, ◌-◌}
use native.Mathlib.Omega.{arith}
use native.Mathlib.Nat.{div-eq_of_lt-le, eq-zero-or-pos, suc-mul, zero-add}
use native.Mathlib.Numerals.{add-one}
use lib.ListN.{drop, drop_of_length-le, length, length-append, length-drop}
use lib.Seq.{drop-append-le}
use lib.Bits.{bit_xor}
use lib.Pow.{low}
use Rattle.standard.proofs.Held.{moved-moved}
use Rattle.standard.specs.States.{Held, moved}
use Rattle.standard.specs.Notation.{◌⊕◌}
use Rattle.standard.specs.Bits.{M, bit_of, window, z}
use Rattle.standard.specs.Generator.{word_at}
use Rattle.standard.specs.Integrity.{T}
use Rattle.standard.proofs.Xor.{xor_assoc}
use Rattle.standard.proofs.Window.{bit-window, window-ext, window-lt, window-split}
use Rattle.standard.proofs.Sum.{sum-ext, sum-split}
use Rattle.mac_registers.specs.Tagging.{Tagging, absorbed, fed, updated}
use Rattle.mac_registers.proofs.Message.{M-drop, M-front, window-after, z-lt}
use Rattle.mac_registers.proofs.Cutting.{absorbed-fills, absorbed-waits}
use Rattle.standard.proofs.Register.{shl-keeps}

-- o is where the windows start, first the tag at the start, blocks the number of whole blocks, taken the bytes in them, drawn the words
pub record Followed (t o : ℕ) (σ : Held) (first : ℕ) (m : List ℕ) (st : Tagging) (blocks taken drawn : ℕ) : Type 0 where
  pub generator-is : st.generator ≡ moved drawn σ
  pub key-is : st.key ≡ window (z (word_at σ.meaning)) (o + taken * 8) (t + t)
  pub tag_is : st.tag ≡ first ⊕ T t (z (word_at σ.meaning)) o (M m) (taken * 8)
  pub waiting-is : st.waiting ≡ drop taken m
  pub taken_is : taken * 8 ≡ blocks * t
  pub drawn-is : drawn * 32 ≡ o + taken * 8 + t + t
  pub within : taken ≤ length m
  pub short : length m * 8 < taken * 8 + t

-- a window of 2t bits moved on by t bits
key-on : (s : ℕ → ℕ) → ((i : ℕ) → s i < 2) → (t a : ℕ)
    → window s a (t + t) * 2 ^ t % 2 ^ (t + t) + window s (a + t + t) t ≡ window s (a + t) (t + t)
key-on s b t a =
    ap (λ (x : ℕ). x + window s (a + t + t) t)
    (shl-keeps (window s a (t + t)) t t
    ∙ ap (λ (x : ℕ). x % 2 ^ t * 2 ^ t) (window-split s a t t)
    ∙ ap (λ (x : ℕ). x * 2 ^ t) (low (window s a t) t (window-lt s b (a + t) t)))
    ∙ sym (window-split s (a + t) t t)

module _ (t : ℕ) (whole : t % 32 ≡ 0) (o : ℕ) (σ : Held) (first : ℕ) where
  abbrev Z : ℕ → ℕ
  Z = z (word_at σ.meaning)

  -- n bits of a block, in the registers and over the keystream
  block-sum : (m : List ℕ) (st : Tagging) (k c w : ℕ) → Followed t o σ first m st k c w → (M' : ℕ → ℕ) (joined : List ℕ) (n : ℕ) → n ≤ t
      → ((j : ℕ) → j < c * 8 → M m j ≡ M joined j) → ((j : ℕ) → j < n → M' j ≡ M joined (c * 8 + j))
      → st.tag ⊕ T t (bit_of (t + t) st.key) 0 M' n ≡ first ⊕ T t Z o (M joined) (c * 8 + n)
  block-sum m st k c w f M' joined n h front rest =
      ap₂ bit_xor f.tag_is
      (ap (λ (x : ℕ). T t (bit_of (t + t) x) 0 M' n) f.key-is
      ∙ sum-ext t (bit_of (t + t) (window Z (o + c * 8) (t + t))) Z 0 (o + c * 8) M' (λ j. M joined (c * 8 + j)) n
      (λ j l. ap (bit_of (t + t) (window Z (o + c * 8) (t + t))) (zero-add j) ∙ bit-window Z (z-lt (word_at σ.meaning)) (o + c * 8) (t + t) j (omega arith))
      rest)
      ∙ xor_assoc first (T t Z o (M m) (c * 8)) (T t Z (o + c * 8) (λ j. M joined (c * 8 + j)) n)
      ∙ ap (bit_xor first)
      (ap (λ (x : ℕ). x ⊕ T t Z (o + c * 8) (λ j. M joined (c * 8 + j)) n) (sum-ext t Z Z o o (M m) (M joined) (c * 8) (λ j l. refl) front)
      ∙ sym (sum-split t Z o (M joined) (c * 8) n))

  -- the waiting bytes with more after them are the message's from the last block on
  pub waiting-bits : (m : List ℕ) (st : Tagging) (k c w : ℕ) → Followed t o σ first m st k c w → (rest : List ℕ) (j : ℕ)
      → M (st.waiting ++ rest) j ≡ M (m ++ rest) (c * 8 + j)
  waiting-bits m st k c w f rest j =
      ap (λ (x : List ℕ). M x j) (ap (λ (x : List ℕ). x ++ rest) f.waiting-is ∙ sym (drop-append-le c m rest f.within))
      ∙ M-drop c (m ++ rest) j

  waits : (m : List ℕ) (st : Tagging) (k c w b : ℕ) → Followed t o σ first m st k c w → suc (length st.waiting) * 8 < t
      → Followed t o σ first (m ++ (b ∷ [])) (absorbed t st b) k c w
  waits m st k c w b f h =
      rw (absorbed-waits t st b h)
      (record {
        generator-is = f.generator-is;
        key-is = f.key-is;
        tag_is =
            f.tag_is
            ∙ ap (bit_xor first)
            (sum-ext t Z Z o o (M m) (M (m ++ (b ∷ []))) (c * 8) (λ j l. refl) (λ j l. sym (M-front m (b ∷ []) j (omega (arith, f.within)))));
        waiting-is = ap (λ (x : List ℕ). x ++ (b ∷ [])) f.waiting-is ∙ sym (drop-append-le c m (b ∷ []) f.within);
        taken_is = f.taken_is;
        drawn-is = f.drawn-is;
        within = omega (arith, f.within, length-append m (b ∷ []));
        short = omega (arith, f.within, length-append m (b ∷ []), ap length f.waiting-is, length-drop c m);
      })

  fills : (m : List ℕ) (st : Tagging) (k c w b : ℕ) → Followed t o σ first m st k c w → t ≤ suc (length st.waiting) * 8
      → Followed t o σ first (m ++ (b ∷ [])) (absorbed t st b) (suc k) (c + t / 8) (w + t / 32)
  unfolding fed
  fills m st k c w b f h =
      rw (absorbed-fills t st b h)
      (record {
        generator-is = ap (moved (t / 32)) f.generator-is ∙ moved-moved w (t / 32) σ;
        key-is =
            ap₂ (λ (x : ℕ) (y : Held). x * 2 ^ t % 2 ^ (t + t) + window (z (word_at y.meaning)) 0 t) f.key-is f.generator-is
            ∙ ap (λ (x : ℕ). window Z (o + c * 8) (t + t) * 2 ^ t % 2 ^ (t + t) + x) (window-after t w σ ∙ ap (λ (x : ℕ). window Z x t) f.drawn-is)
            ∙ key-on Z (z-lt (word_at σ.meaning)) t (o + c * 8)
            ∙ ap (λ (x : ℕ). window Z x (t + t)) next;
        tag_is =
            block-sum m st k c w f (M (st.waiting ++ (b ∷ []))) (m ++ (b ∷ [])) t (omega arith)
            (λ j l. sym (M-front m (b ∷ []) j (omega (arith, f.within)))) (λ j l. waiting-bits m st k c w f (b ∷ []) j)
            ∙ ap (λ (x : ℕ). first ⊕ T t Z o (M (m ++ (b ∷ []))) x) bits;
        waiting-is = sym (drop_of_length-le (m ++ (b ∷ [])) {i = c + t / 8} full);
        taken_is = omega (arith, f.taken_is, suc-mul k t);
        drawn-is = omega (arith, f.drawn-is);
        within = omega (arith, length-append m (b ∷ []), f.within, ap length f.waiting-is, length-drop c m);
        short = omega (arith, f.short, f.within, full);
      })
    where
      full : length (m ++ (b ∷ [])) ≤ c + t / 8
      full = omega (arith, length-append m (b ∷ []), f.within, f.short)

      next : o + c * 8 + t ≡ o + (c + t / 8) * 8
      next = omega arith

      bits : c * 8 + t ≡ (c + t / 8) * 8
      bits = omega arith

  abbrev pub Follows : List ℕ → Tagging → Type 0
  Follows m st = (k : ℕ) × (c : ℕ) × (w : ℕ) × Followed t o σ first m st k c w

  -- any run of bytes, from any state in closed form
  pub followed-all : (r m : List ℕ) (st : Tagging) (k c w : ℕ) → Followed t o σ first m st k c w → Follows (m ++ r) (updated t st r)
  unfolding updated
  followed-all [] m st k c w f = (k, c, w, subst (λ (x : List ℕ). Followed t o σ first x st k c w) (sym (append-nil m)) f)
  followed-all (b ∷ r) m st k c w f =
      subst (λ (x : List ℕ). Follows x (updated t (absorbed t st b) r)) (append_assoc m (b ∷ []) r)
      (⊎_elim
      (λ e. followed-all r (m ++ (b ∷ [])) (absorbed t st b) (suc k) (c + t / 8) (w + t / 32) (fills m st k c w b f (omega arith)))
      (λ p. followed-all r (m ++ (b ∷ [])) (absorbed t st b) k c w (waits m st k c w b f (omega arith)))
      (eq-zero-or-pos (t - suc (length st.waiting) * 8)))

  -- the closing: n more bits, no more than a block, and the window after them
  pub followed-tag : (m : List ℕ) (st : Tagging) (k c w : ℕ) → Followed t o σ first m st k c w → (rest : List ℕ) (n : ℕ) → n ≤ t
      → st.tag ⊕ T t (bit_of (t + t) st.key) 0 (M (st.waiting ++ rest)) n ⊕ window (bit_of (t + t) st.key) n t
      ≡ first ⊕ T t Z o (M (m ++ rest)) (c * 8 + n) ⊕ window Z (o + (c * 8 + n)) t
  followed-tag m st k c w f rest n h =
      ap₂ bit_xor
      (block-sum m st k c w f (M (st.waiting ++ rest)) (m ++ rest) n h (λ j l. sym (M-front m rest j (omega (arith, f.within))))
      (λ j l. waiting-bits m st k c w f rest j))
      (ap (λ (x : ℕ). window (bit_of (t + t) x) n t) f.key-is
      ∙ window-ext (bit_of (t + t) (window Z (o + c * 8) (t + t))) Z n (o + (c * 8 + n)) t
      (λ j l. bit-window Z (z-lt (word_at σ.meaning)) (o + c * 8) (t + t) (n + j) (omega arith) ∙ ap Z (omega arith)))

-- how many blocks: floor(L/t), L the bits of m or up to seven more
pub blocks-are : {t o : ℕ} {σ : Held} {first : ℕ} {m : List ℕ} {st : Tagging} {k c w : ℕ} → t % 32 ≡ 0 → Followed t o σ first m st k c w
    → (L : ℕ) → length m * 8 ≤ L → L < length m * 8 + 8 → L / t ≡ k
blocks-are {t} {m = m} {k = k} whole f L le lt =
    div-eq_of_lt-le {k = k} t (omega (arith, f.taken_is, f.within)) (omega (arith, f.taken_is, f.short, suc-mul k t, add-one k, e))
  where
    e : (k + 1) * t ≡ suc k * t
    e = ap (λ (x : ℕ). x * t) (add-one k)
