-- Tags of messages of one bit length: two differ by the windows where the messages differ, three xor to the tag of their xor.
-- Both rules are a sum T and a rest that the length alone decides, which cancels.
use mathlib.Core.Path.{◌≡◌, refl, sym, ap, ap₂, ◌∙◌}
use mathlib.Core.List.{List, [], ◌∷◌}
use Prim.Native.Nat.{ℕ, zero, suc, ◌+◌, ◌-◌, ◌*◌, ◌/◌, ◌%◌, ◌^◌, ◌<◌}
use native.Mathlib.Omega.{arith}
use lib.ListN.{get_or}
use lib.Bits.{bit_xor, differ, xor_comm, xor_self, xor_lt, xor_zero_r, xor_shr}
use Rattle.standard.specs.Notation.{◌⊕◌, ceil}
use Rattle.standard.specs.Bits.{bit_of, bit_at, M, differs, z, window}
use Rattle.standard.specs.Integrity.{T, tag-EIA3, tag-ZUC256}
use Rattle.standard.proofs.Xor.{xor_assoc, xor-four, xor-odd}
use Rattle.standard.proofs.Window.{bit_at_lt}
use Rattle.standard.proofs.Sum.{sum-ext, sum-linear}

pub M-lt : (m : List ℕ) (i : ℕ) → M m i < 2
unfolding M
M-lt m i = bit_at_lt 8 (λ j. get_or m j 0) i

module _ (t : ℕ) (s : ℕ → ℕ) (o : ℕ) (k l : ℕ) where
  -- a tag, by a message's bits: the sum and the rest k
  abbrev tagged : (ℕ → ℕ) → ℕ
  tagged m = T t s o m l ⊕ k

  two-tags : (m n : ℕ → ℕ) → ((i : ℕ) → m i < 2) → ((i : ℕ) → n i < 2) → tagged m ⊕ tagged n ≡ T t s o (λ i. m i ⊕ n i) l
  two-tags m n bm bn =
      xor-four (T t s o m l) k (T t s o n l) k
      ∙ ap (bit_xor (T t s o m l ⊕ T t s o n l)) (xor_self k)
      ∙ xor_zero_r (T t s o m l ⊕ T t s o n l)
      ∙ sym (sum-linear t s o m n bm bn l)

  three-tags : (a b c x : ℕ → ℕ) → ((i : ℕ) → a i < 2) → ((i : ℕ) → b i < 2) → ((i : ℕ) → c i < 2) → ((i : ℕ) → x i < 2)
      → ((i : ℕ) → i < l → x i ≡ a i ⊕ b i ⊕ c i) → tagged a ⊕ tagged b ⊕ tagged c ≡ tagged x
  three-tags a b c x ba bb bc bx e =
      ap (λ (y : ℕ). y ⊕ tagged c) (two-tags a b ba bb)
      ∙ sym (xor_assoc (T t s o (λ i. a i ⊕ b i) l) (T t s o c l) k)
      ∙ ap (λ (y : ℕ). y ⊕ k) (sym (sum-linear t s o (λ i. a i ⊕ b i) c (λ i. both i) bc l) ∙ sym same)
    where
      both : (i : ℕ) → a i ⊕ b i < 2
      both i = xor_lt 1 (a i) (b i) (ba i) (bb i)

      same : T t s o x l ≡ T t s o (λ i. a i ⊕ b i ⊕ c i) l
      same = sum-ext t s s o o x (λ i. a i ⊕ b i ⊕ c i) l (λ j h. refl) e

module _ (words : ℕ → ℕ) (l : ℕ) where
  EIA3-rest : ℕ
  EIA3-rest = window (z words) l 32 ⊕ window (z words) (32 * (ceil (l + 64) 32 - 1)) 32

  EIA3-is : (m : List ℕ) → tag-EIA3 words m l ≡ T 32 (z words) 0 (M m) l ⊕ EIA3-rest
  unfolding tag-EIA3 EIA3-rest
  EIA3-is m = xor_assoc (T 32 (z words) 0 (M m) l) (window (z words) l 32) (window (z words) (32 * (ceil (l + 64) 32 - 1)) 32)

  -- demand 3 (a): two tags differ by the windows at the bits where the messages differ
  pub EIA3-two : (m n : List ℕ) → tag-EIA3 words m l ⊕ tag-EIA3 words n l ≡ T 32 (z words) 0 (differs m n) l
  EIA3-two m n = ap₂ bit_xor (EIA3-is m) (EIA3-is n) ∙ two-tags 32 (z words) 0 EIA3-rest l (M m) (M n) (M-lt m) (M-lt n)

  -- demand 3 (b): three tags xor to the tag of a message x that is bit for bit their xor
  pub EIA3-three : (a b c x : List ℕ) → ((i : ℕ) → i < l → M x i ≡ M a i ⊕ M b i ⊕ M c i)
      → tag-EIA3 words a l ⊕ tag-EIA3 words b l ⊕ tag-EIA3 words c l ≡ tag-EIA3 words x l
  EIA3-three a b c x e =
      ap₂ bit_xor (ap₂ bit_xor (EIA3-is a) (EIA3-is b)) (EIA3-is c)
      ∙ three-tags 32 (z words) 0 EIA3-rest l (M a) (M b) (M c) (M x) (M-lt a) (M-lt b) (M-lt c) (M-lt x) e
      ∙ sym (EIA3-is x)

module _ (t : ℕ) (words : ℕ → ℕ) (l : ℕ) where
  ZUC256-rest : ℕ
  ZUC256-rest = window (z words) 0 t ⊕ window (z words) (t + l) t

  ZUC256-is : (m : List ℕ) → tag-ZUC256 t words m l ≡ T t (z words) t (M m) l ⊕ ZUC256-rest
  unfolding tag-ZUC256 ZUC256-rest
  ZUC256-is m =
      ap (λ (x : ℕ). x ⊕ window (z words) (t + l) t) (xor_comm (window (z words) 0 t) (T t (z words) t (M m) l))
      ∙ xor_assoc (T t (z words) t (M m) l) (window (z words) 0 t) (window (z words) (t + l) t)

  pub ZUC256-two : (m n : List ℕ) → tag-ZUC256 t words m l ⊕ tag-ZUC256 t words n l ≡ T t (z words) t (differs m n) l
  ZUC256-two m n = ap₂ bit_xor (ZUC256-is m) (ZUC256-is n) ∙ two-tags t (z words) t ZUC256-rest l (M m) (M n) (M-lt m) (M-lt n)

  pub ZUC256-three : (a b c x : List ℕ) → ((i : ℕ) → i < l → M x i ≡ M a i ⊕ M b i ⊕ M c i)
      → tag-ZUC256 t words a l ⊕ tag-ZUC256 t words b l ⊕ tag-ZUC256 t words c l ≡ tag-ZUC256 t words x l
  ZUC256-three a b c x e =
      ap₂ bit_xor (ap₂ bit_xor (ZUC256-is a) (ZUC256-is b)) (ZUC256-is c)
      ∙ three-tags t (z words) t ZUC256-rest l (M a) (M b) (M c) (M x) (M-lt a) (M-lt b) (M-lt c) (M-lt x) e
      ∙ sym (ZUC256-is x)

-- the bitwise xor of two messages, byte by byte, the longer one's end as it is
unfoldable pub xor_bytes : List ℕ → List ℕ → List ℕ
xor_bytes [] n = n
xor_bytes (a ∷ m) [] = a ∷ m
xor_bytes (a ∷ m) (b ∷ n) = (a ⊕ b) ∷ xor_bytes m n

get_or-xor_bytes : (m n : List ℕ) (i : ℕ) → get_or (xor_bytes m n) i 0 ≡ get_or m i 0 ⊕ get_or n i 0
unfolding xor_bytes
get_or-xor_bytes [] n i = refl
get_or-xor_bytes (a ∷ m) [] i = sym (xor_zero_r (get_or (a ∷ m) i 0))
get_or-xor_bytes (a ∷ m) (b ∷ n) zero = refl
get_or-xor_bytes (a ∷ m) (b ∷ n) (suc i) = get_or-xor_bytes m n i

differ-xor : (x y : ℕ) → x < 2 → y < 2 → differ x y ≡ x ⊕ y
differ-xor zero y hx hy = refl
differ-xor (suc zero) zero hx hy = refl
differ-xor (suc zero) (suc zero) hx hy = refl
differ-xor (suc zero) (suc (suc y)) hx hy = absurd (omega arith)
differ-xor (suc (suc x)) y hx hy = absurd (omega arith)

bit_of-xor : (n x y i : ℕ) → bit_of n (x ⊕ y) i ≡ bit_of n x i ⊕ bit_of n y i
unfolding bit_of
bit_of-xor n x y i =
    ap (λ (u : ℕ). u % 2) (xor_shr x y (n - suc i))
    ∙ xor-odd (x / 2 ^ (n - suc i)) (y / 2 ^ (n - suc i))
    ∙ differ-xor (x / 2 ^ (n - suc i) % 2) (y / 2 ^ (n - suc i) % 2) (omega arith) (omega arith)

-- it is bit for bit their xor
pub M-xor : (m n : List ℕ) (i : ℕ) → M (xor_bytes m n) i ≡ M m i ⊕ M n i
unfolding M bit_at
M-xor m n i =
    ap (λ (x : ℕ). bit_of 8 x (i % 8)) (get_or-xor_bytes m n (i / 8)) ∙ bit_of-xor 8 (get_or m (i / 8) 0) (get_or n (i / 8) 0) (i % 8)

pub M-xor₃ : (a b c : List ℕ) (i : ℕ) → M (xor_bytes (xor_bytes a b) c) i ≡ M a i ⊕ M b i ⊕ M c i
M-xor₃ a b c i = M-xor (xor_bytes a b) c i ∙ ap (λ (x : ℕ). x ⊕ M c i) (M-xor a b i)
