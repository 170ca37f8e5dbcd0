-- Laws of the sum T of windows at set bits, over the width: its bound, what it reads, in two parts either way, linear; by induction on the length.
use mathlib.Core.Path.{◌≡◌, refl, sym, ap, ap₂, ◌∙◌}
use Prim.Native.Nat.{ℕ, zero, suc, ◌+◌, ◌*◌, ◌^◌, ◌<◌}
use native.Mathlib.Nat.{add-zero, add-suc, add_assoc}
use native.Mathlib.Omega.{arith}
use lib.Bits.{bit_xor, xor_self, xor_zero_r, xor_lt, xor_block}
use lib.Pow.{pow_pos}
use Rattle.standard.specs.Notation.{◌⊕◌}
use Rattle.standard.specs.Bits.{window}
use Rattle.standard.specs.Integrity.{where_set, T}
use Rattle.standard.proofs.Xor.{xor_assoc, xor-four}
use Rattle.standard.proofs.Window.{window-lt, window-ext, window-split}

where_set-lt : (b k x : ℕ) → x < 2 ^ k → where_set b x < 2 ^ k
where_set-lt zero k x h = pow_pos k
where_set-lt (suc b) k x h = h

pub sum_lt : (t : ℕ) (s : ℕ → ℕ) → ((i : ℕ) → s i < 2) → (o : ℕ) (m : ℕ → ℕ) (l : ℕ) → T t s o m l < 2 ^ t
unfolding T
sum_lt t s b o m zero = pow_pos t
sum_lt t s b o m (suc l) =
    xor_lt t (T t s o m l) (where_set (m l) (window s (o + l) t)) (sum_lt t s b o m l)
    (where_set-lt (m l) t (window s (o + l) t) (window-lt s b (o + l) t))

-- it depends on the bits that it reads alone
pub sum-ext : (t : ℕ) (s s' : ℕ → ℕ) (o o' : ℕ) (m m' : ℕ → ℕ) (l : ℕ) → ((j : ℕ) → j < l + t → s (o + j) ≡ s' (o' + j))
    → ((j : ℕ) → j < l → m j ≡ m' j) → T t s o m l ≡ T t s' o' m' l
unfolding T
sum-ext t s s' o o' m m' zero e f = refl
sum-ext t s s' o o' m m' (suc l) e f =
    ap₂ bit_xor (sum-ext t s s' o o' m m' l (λ j h. e j (omega arith)) (λ j h. f j (omega arith)))
    (ap₂ where_set (f l (omega arith))
    (window-ext s s' (o + l) (o' + l) t (λ j h. ap s (add_assoc o l j) ∙ e (l + j) (omega arith) ∙ ap s' (sym (add_assoc o' l j)))))

-- over two parts of the message
pub sum-split : (t : ℕ) (s : ℕ → ℕ) (o : ℕ) (m : ℕ → ℕ) (a b : ℕ) → T t s o m (a + b) ≡ T t s o m a ⊕ T t s (o + a) (λ i. m (a + i)) b
unfolding T
sum-split t s o m a zero = ap (T t s o m) (add-zero a) ∙ sym (xor_zero_r (T t s o m a))
sum-split t s o m a (suc b) =
    ap (T t s o m) (add-suc a b)
    ∙ ap₂ (λ (x y : ℕ). x ⊕ where_set (m (a + b)) (window s y t)) (sum-split t s o m a b) (sym (add_assoc o a b))
    ∙ xor_assoc (T t s o m a) (T t s (o + a) (λ i. m (a + i)) b) (where_set (m (a + b)) (window s (o + a + b) t))

where_set-join : (b k x y : ℕ) → where_set b (x * 2 ^ k + y) ≡ where_set b x * 2 ^ k + where_set b y
where_set-join zero k x y = omega arith
where_set-join (suc b) k x y = refl

-- in two parts of the width
pub sum-join : (a b : ℕ) (s : ℕ → ℕ) → ((i : ℕ) → s i < 2) → (o : ℕ) (m : ℕ → ℕ) (l : ℕ)
    → T (a + b) s o m l ≡ T a s o m l * 2 ^ b + T b s (o + a) m l
unfolding T
sum-join a b s d o m zero = omega arith
sum-join a b s d o m (suc l) =
    ap₂ bit_xor (sum-join a b s d o m l)
    (ap (where_set (m l)) (window-split s (o + l) a b ∙ ap (λ (x : ℕ). window s (o + l) a * 2 ^ b + window s x b) place)
    ∙ where_set-join (m l) b (window s (o + l) a) (window s (o + a + l) b))
    ∙ xor_block b (T a s o m l) (where_set (m l) (window s (o + l) a)) (T b s (o + a) m l) (where_set (m l) (window s (o + a + l) b))
    (sum_lt b s d (o + a) m l) (where_set-lt (m l) b (window s (o + a + l) b) (window-lt s d (o + a + l) b))
  where
    place : o + l + a ≡ o + a + l
    place = omega arith

-- linear in the message
where_set-xor : (x y w : ℕ) → x < 2 → y < 2 → where_set (x ⊕ y) w ≡ where_set x w ⊕ where_set y w
where_set-xor zero y w hx hy = refl
where_set-xor (suc zero) zero w hx hy = sym (xor_zero_r w)
where_set-xor (suc zero) (suc zero) w hx hy = sym (xor_self w)
where_set-xor (suc zero) (suc (suc y)) w hx hy = absurd (omega arith)
where_set-xor (suc (suc x)) y w hx hy = absurd (omega arith)

pub sum-linear : (t : ℕ) (s : ℕ → ℕ) (o : ℕ) (m n : ℕ → ℕ) → ((i : ℕ) → m i < 2) → ((i : ℕ) → n i < 2) → (l : ℕ)
    → T t s o (λ i. m i ⊕ n i) l ≡ T t s o m l ⊕ T t s o n l
unfolding T
sum-linear t s o m n bm bn zero = refl
sum-linear t s o m n bm bn (suc l) =
    ap₂ bit_xor (sum-linear t s o m n bm bn l) (where_set-xor (m l) (n l) (window s (o + l) t) (bm l) (bn l))
    ∙ xor-four (T t s o m l) (T t s o n l) (where_set (m l) (window s (o + l) t)) (where_set (n l) (window s (o + l) t))
