-- Calls in turn draw what one call over both would: the words of an update, then of an update or a closing of what waits after it; by the
-- laws of division.
use mathlib.Core.Path.{◌≡◌, sym, ap, ap₂, ◌∙◌}
use Prim.Native.Nat.{ℕ, ◌+◌, ◌*◌, ◌/◌, ◌%◌, ◌<◌}
use native.Mathlib.Nat.{add_comm, add-mul-div_right, mod-add-div', mul-add, mul_assoc, mul_comm, mul-div-mul_left, zero-add, zero-div}
use native.Mathlib.Omega.{arith}
use lib.Dec.{lit<}
use Rattle.standard.specs.Integrity.{drawn_after-EIA3, drawn_after-ZUC256, drawn_by_tag-EIA3, drawn_by_tag-ZUC256, words_to_close-EIA3, words_to_close-ZUC256, words_to_update}

-- the blocks of m bytes, and of what is left of them with l bits
blocks-in-turn : (w m l : ℕ) → 0 < w → 8 * m / (w * 8) + (8 * (m % w) + l) / (w * 8) ≡ (8 * m + l) / (w * 8)
blocks-in-turn w m l pos =
    ap (λ (x : ℕ). x + (8 * (m % w) + l) / (w * 8)) (ap (λ (x : ℕ). 8 * m / x) (mul_comm w 8) ∙ mul-div-mul_left m w (lit< tt))
    ∙ add_comm (m / w) ((8 * (m % w) + l) / (w * 8))
    ∙ sym (add-mul-div_right (8 * (m % w) + l) (m / w) (omega arith))
    ∙ ap (λ (x : ℕ). x / (w * 8)) (omega (arith, mod-add-div' m w, mul_assoc (m / w) w 8))

module _ (w c a : ℕ) (pos : 0 < w) where
  pub close-in-turn-ZUC256 : (l : ℕ) → words_to_update (w * 8) c a + words_to_close-ZUC256 (w * 8) ((c + a) % w) l ≡ words_to_close-ZUC256 (w * 8) c (a * 8 + l)
  close-in-turn-ZUC256 l =
      sym (mul-add (w * 8 / 32) (8 * (c + a) / (w * 8)) ((8 * ((c + a) % w) + l) / (w * 8)))
      ∙ ap (λ (x : ℕ). w * 8 / 32 * x) (blocks-in-turn w (c + a) l pos ∙ ap (λ (x : ℕ). x / (w * 8)) bits)
    where
      bits : 8 * (c + a) + l ≡ 8 * c + (a * 8 + l)
      bits = omega arith

  pub update-in-turn : (b : ℕ) → words_to_update (w * 8) c a + words_to_update (w * 8) ((c + a) % w) b ≡ words_to_update (w * 8) c (a + b)
  update-in-turn b =
      ap (λ (x : ℕ). words_to_update (w * 8) c a + w * 8 / 32 * (x / (w * 8))) (mul-add 8 ((c + a) % w) b)
      ∙ close-in-turn-ZUC256 (8 * b)
      ∙ ap (λ (x : ℕ). w * 8 / 32 * (x / (w * 8))) bits
    where
      bits : 8 * c + (a * 8 + 8 * b) ≡ 8 * (c + (a + b))
      bits = omega arith

pub close-in-turn-EIA3 : (c a l : ℕ) → words_to_update (4 * 8) c a + words_to_close-EIA3 ((c + a) % 4) l ≡ words_to_close-EIA3 c (a * 8 + l)
close-in-turn-EIA3 c a l = omega arith

-- with the words of a start
pub all-EIA3 : (L : ℕ) → drawn_after-EIA3 0 + words_to_close-EIA3 0 L ≡ drawn_by_tag-EIA3 L
all-EIA3 L = omega arith

pub all-ZUC256 : (t L : ℕ) → drawn_after-ZUC256 t 0 + words_to_close-ZUC256 t 0 L ≡ drawn_by_tag-ZUC256 t L
all-ZUC256 t L =
    ap₂ (λ (x y : ℕ). t / 32 * (3 + x) + t / 32 * (y / t)) (zero-div t) (zero-add L) ∙ sym (mul-add (t / 32) 3 (L / t))

pub updates-EIA3 : (N : ℕ) → drawn_after-EIA3 0 + words_to_update (4 * 8) 0 N ≡ drawn_after-EIA3 N
updates-EIA3 N = omega arith

pub updates-ZUC256 : (t N : ℕ) → drawn_after-ZUC256 t 0 + words_to_update t 0 N ≡ drawn_after-ZUC256 t N
updates-ZUC256 t N =
    ap₂ (λ (x y : ℕ). t / 32 * (3 + x) + t / 32 * (8 * y / t)) (zero-div t) (zero-add N) ∙ sym (mul-add (t / 32) 3 (8 * N / t))
