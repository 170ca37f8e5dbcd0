-- No two pairs of key and IV load alike: in ZUC-128 a cell is a byte of either beside constant bits; in ZUC-256 each byte stands at a place
-- of its own, which one computed test finds, and what is or'd onto a constant does not meet it. One law over the cell for each.
use mathlib.Core.Bool.{Bool, true, false, ◌&&◌}
use mathlib.Core.List.{List, [], ◌∷◌}
use mathlib.Core.Logic.{⊎_elim}
use mathlib.Core.Path.{◌≡◌, refl, sym, ap, ◌∙◌, subst}
use Prim.Native.Nat.{ℕ, zero, suc, ◌+◌, ◌-◌, ◌*◌, ◌/◌, ◌%◌, ◌^◌, ◌≤◌, ◌<◌}
use native.Mathlib.Nat.{add_assoc, add-sub_cancel_left, div-add-mod', div-lt_iff_lt-mul, eq-or-lt_of_le, eq-zero-or-pos, mod-lt, zero-add}
use native.Mathlib.Omega.{arith}
use borrow.Author.Tests.{eqb-true, le-ltb, lt-ltb, ltb-true}
use lib.Bits.{or_lt, or_zero_r}
use lib.Dec.{eqb, lit<, lit≤, ltb}
use lib.ListN.{get_or, length}
use lib.Pow.{pow_mono}
use Rattle.standard.specs.Bits.{M, bit_of, window}
use Rattle.standard.specs.Generator.{State}
use Rattle.standard.specs.Loading.{D, IV₂₅₆, cells₂₅₆, d-keystream, d-tag₁₂₈, d-tag₃₂, d-tag₆₄, load₁₂₈, load₂₅₆}
use Rattle.std.specs.Prelude.{if◌then◌else◌}
use Rattle.standard.specs.Notation.{◌⟨◌⟩, ◌∣◌, ◌‖₁₅◌, ◌‖₇◌, ◌‖₈◌, listed}
use Rattle.standard.proofs.Linear.{M-lt}
use Rattle.standard.proofs.Listed.{get_or-listed, length-listed}
use Rattle.standard.proofs.Parts.{OfBytes, or-parted, parted, same_entries}
use Rattle.standard.proofs.Table.{and_left, and_right, at, every}
use Rattle.standard.proofs.Window.{bit-window, window-cell, window-ext, window-lt}

-- cell i of sixteen that are given by a function
cell-is : (f : ℕ → ℕ) {s : List ℕ} → s ≡ listed f 0 16 → (i : ℕ) → i < 16 → s ⟨ i ⟩ ≡ f i
cell-is f e i h = ap (λ (s : List ℕ). s ⟨ i ⟩) e ∙ get_or-listed f 0 16 i h ∙ ap f (zero-add i)

-- ZUC-128: fifteen constant bits between two bytes
D-fits : (i : ℕ) → i < 16 → D ⟨ i ⟩ < 2 ^ 15
unfolding D
D-fits i h = ltb-true (D ⟨ i ⟩) (2 ^ 15) (at (λ j x. ltb x (2 ^ 15)) D refl i h)

pub load₁₂₈-apart : (k k' iv iv' : List ℕ) → OfBytes 16 k → OfBytes 16 k' → OfBytes 16 iv → OfBytes 16 iv' → load₁₂₈ k iv ≡ load₁₂₈ k' iv'
    → (k ≡ k') × (iv ≡ iv')
unfolding load₁₂₈
load₁₂₈-apart k k' iv iv' b b' v v' e = (
  same_entries 16 k k' b.long b'.long (λ i h. (bytes i h).0),
  same_entries 16 iv iv' v.long v'.long (λ i h. (bytes i h).1),
)
  where
    cell : List ℕ → List ℕ → ℕ → ℕ
    cell key vector i = key ⟨ i ⟩ ‖₁₅ D ⟨ i ⟩ ‖₈ vector ⟨ i ⟩

    bytes : (i : ℕ) → i < 16 → (k ⟨ i ⟩ ≡ k' ⟨ i ⟩) × (iv ⟨ i ⟩ ≡ iv' ⟨ i ⟩)
    bytes i h =
        let p = parted 8 (v.small i) (v'.small i) (sym (cell-is (cell k iv) refl i h) ∙ ap (λ (σ : State). σ.cells ⟨ i ⟩) e ∙ cell-is (cell k' iv') refl i h) in
        ((parted 15 (D-fits i h) (D-fits i h) p.0).0, p.1)

-- ZUC-256: windows side by side give back the bits under them. So do an IV's eight numbers of 6 bits, and with these bits its last six bytes
bits-under : (s s' : ℕ → ℕ) → ((i : ℕ) → s i < 2) → ((i : ℕ) → s' i < 2) → (o t n : ℕ) → 0 < t
    → ((j : ℕ) → j < n → window s (o + j * t) t ≡ window s' (o + j * t) t) → (q : ℕ) → q < n * t → s (o + q) ≡ s' (o + q)
bits-under s s' b b' o t n pos same q h =
    let j : ℕ = q / t in
    let r : ℕ = q % t in
    let l : r < t = mod-lt q pos in
    let on : o + q ≡ o + j * t + r = ap (λ (x : ℕ). o + x) (sym (div-add-mod' q t)) ∙ sym (add_assoc o (j * t) r) in
    ap s on
    ∙ sym (bit-window s b (o + j * t) t r l)
    ∙ ap (λ (x : ℕ). bit_of t x r) (same j ((div-lt_iff_lt-mul pos).1 h))
    ∙ bit-window s' b' (o + j * t) t r l
    ∙ ap s' (sym on)

number_is : (iv : List ℕ) (j : ℕ) → IV₂₅₆ iv (17 + j) ≡ window (M iv) (17 * 8 + j * 6) 6
unfolding IV₂₅₆
number_is iv j = rw (le-ltb (17 + j) 17 (omega arith)) (ap (λ (x : ℕ). window (M iv) (17 * 8 + x * 6) 6) (add-sub_cancel_left 17 j))

number_lt : (iv : List ℕ) (j : ℕ) → IV₂₅₆ iv (17 + j) < 2 ^ 6
number_lt iv j = rw (number_is iv j) (window-lt (M iv) (M-lt iv) (17 * 8 + j * 6) 6)

last-bytes : {iv iv' : List ℕ} → OfBytes 23 iv → OfBytes 23 iv' → ((j : ℕ) → j < 8 → IV₂₅₆ iv (17 + j) ≡ IV₂₅₆ iv' (17 + j))
    → (b : ℕ) → 17 ≤ b → b < 23 → iv ⟨ b ⟩ ≡ iv' ⟨ b ⟩
unfolding M
last-bytes {iv} {iv'} v v' same b low high =
    sym (is iv v)
    ∙ window-ext (M iv) (M iv') (b * 8) (b * 8) 8
    (λ j h.
    let on : b * 8 + j ≡ 17 * 8 + ((b - 17) * 8 + j) = omega arith in
    ap (M iv) on
    ∙ bits-under (M iv) (M iv') (M-lt iv) (M-lt iv') (17 * 8) 6 8 (lit< tt) (λ i l. sym (number_is iv i) ∙ same i l ∙ number_is iv' i) ((b - 17) * 8 + j) (omega arith)
    ∙ ap (M iv') (sym on))
    ∙ is iv' v'
  where
    is : (l : List ℕ) → OfBytes 23 l → window (M l) (b * 8) 8 ≡ l ⟨ b ⟩
    is l bytes = window-cell 8 (lit< tt) (λ j. get_or l j 0) b (bytes.small b)

-- byte n of a key and the IV behind it; and which of them is part j of cell i, by the load of the bytes' own numbers
abbrev byte : List ℕ → List ℕ → ℕ → ℕ
byte k iv n = if ltb n 32 then k ⟨ n ⟩ else iv ⟨ n - 32 ⟩

numbered : List ℕ
numbered = cells₂₅₆ (λ i. i) (λ i. 0) (λ i. 32 + i)

place : ℕ → ℕ → ℕ
place i zero = numbered ⟨ i ⟩ / 2 ^ 23
place i (suc zero) = numbered ⟨ i ⟩ / 2 ^ 8 % 2 ^ 8
place i (suc (suc j)) = numbered ⟨ i ⟩ % 2 ^ 8

-- what is or'd onto constant i, and how many bits that has
abbrev beside : List ℕ → List ℕ → ℕ → ℕ
beside k iv i =
    if ltb i 5 then 0
    else if ltb i 13 then IV₂₅₆ iv (17 + (i - 5))
    else if eqb i 13 then 0
    else if eqb i 14 then k ⟨ 31 ⟩ / 2 ^ 4
    else k ⟨ 31 ⟩ % 2 ^ 4

abbrev room : ℕ → ℕ
room i = if ltb i 5 then 0 else if ltb i 13 then 6 else if eqb i 13 then 0 else if eqb i 14 then 4 else 4

abbrev Room : ℕ → ℕ → Type 0
Room x bits = (x < 2 ^ bits) × (bits ≤ 6)

choose : (b : Bool) {x y m n : ℕ} → Room x m → Room y n → Room (if b then x else y) (if b then m else n)
choose true p q = p
choose false p q = q

roomy : (k iv : List ℕ) → OfBytes 32 k → (i : ℕ) → Room (beside k iv i) (room i)
roomy k iv b i =
    choose (ltb i 5) (lit< tt, lit≤ tt)
    (choose (ltb i 13) (number_lt iv (i - 5), lit≤ tt)
    (choose (eqb i 13) (lit< tt, lit≤ tt) (choose (eqb i 14) (omega (arith, b.small 31), lit≤ tt) (omega arith, lit≤ tt))))

-- a row of constants of 7 bits, each clear where bits are or'd onto it
pub record Clear (d : List ℕ) : Type 0 where
  pub long : length d ≡ 16
  pub clear : every (λ i x. ltb x (2 ^ 7) && eqb (x % 2 ^ room i) 0) 0 d ≡ true

pub clear-keystream : Clear d-keystream
unfolding d-keystream
clear-keystream = record { long = refl; clear = refl }

pub clear-tag₃₂ : Clear d-tag₃₂
unfolding d-tag₃₂
clear-tag₃₂ = record { long = refl; clear = refl }

pub clear-tag₆₄ : Clear d-tag₆₄
unfolding d-tag₆₄
clear-tag₆₄ = record { long = refl; clear = refl }

pub clear-tag₁₂₈ : Clear d-tag₁₂₈
unfolding d-tag₁₂₈
clear-tag₁₂₈ = record { long = refl; clear = refl }

-- the load, cell by cell: a constant with nothing beside it stays as it is
abbrev around : List ℕ → List ℕ → (ℕ → ℕ) → ℕ → ℕ
around k iv middle i = byte k iv (place i 0) ‖₇ middle i ‖₈ byte k iv (place i 1) ‖₈ byte k iv (place i 2)

abbrev middle : List ℕ → List ℕ → List ℕ → ℕ → ℕ
middle d k iv i = d ⟨ i ⟩ ∣ beside k iv i

cells_are : (d k iv : List ℕ) → (load₂₅₆ d k iv).cells ≡ listed (around k iv (middle d k iv)) 0 16
unfolding load₂₅₆ cells₂₅₆ IV₂₅₆ listed place numbered
cells_are d k iv = λ t. listed (around k iv (λ i. if eqb (room i) 0 then sym (or_zero_r (d ⟨ i ⟩)) t else middle d k iv i)) 0 16

-- the first of the 48 places that has byte n, as 3·i + j; the test that bytes o, o + 1, .. have one, computed for K0 .. K30 and IV0 .. IV16
abbrev first : List ℕ → ℕ → ℕ
first [] n = 0
first (m ∷ rest) n = if eqb m n then 0 else suc (first rest n)

abbrev found : ℕ → ℕ → ℕ → Bool
found o n c = eqb (place (c / 3) (c % 3)) (o + n) && ltb c 48

abbrev homes : ℕ → ℕ → List ℕ
homes o m = listed (λ n. first (listed (λ c. place (c / 3) (c % 3)) 0 48) (o + n)) 0 m

key-found : every (found 0) 0 (homes 0 31) ≡ true
unfolding cells₂₅₆ listed place numbered
key-found = refl

iv-found : every (found 32) 0 (homes 32 17) ≡ true
unfolding cells₂₅₆ listed place numbered
iv-found = refl

-- a load's parts are bounded
module _ (d k iv : List ℕ) (r : Clear d) (b : OfBytes 32 k) (v : OfBytes 23 iv) where
  byte-lt : (n : ℕ) → byte k iv n < 2 ^ 8
  byte-lt n = either (ltb n 32)
    where
      either : (t : Bool) → (if t then k ⟨ n ⟩ else iv ⟨ n - 32 ⟩) < 2 ^ 8
      either true = b.small n
      either false = v.small (n - 32)

  rule : (i : ℕ) → i < 16 → ltb (d ⟨ i ⟩) (2 ^ 7) && eqb (d ⟨ i ⟩ % 2 ^ room i) 0 ≡ true
  rule i h = at (λ j x. ltb x (2 ^ 7) && eqb (x % 2 ^ room j) 0) d r.clear i (subst (λ (n : ℕ). i < n) (sym r.long) h)

  clear_at : (i : ℕ) → i < 16 → d ⟨ i ⟩ % 2 ^ room i ≡ 0
  clear_at i h = eqb-true (d ⟨ i ⟩ % 2 ^ room i) 0 (and_right (ltb (d ⟨ i ⟩) (2 ^ 7)) _ (rule i h))

  middle-lt : (i : ℕ) → i < 16 → middle d k iv i < 2 ^ 7
  middle-lt i h =
      let fits = roomy k iv b i in
      let wide : 2 ^ room i ≤ 2 ^ 6 = pow_mono fits.1 in
      or_lt 7 (d ⟨ i ⟩) (beside k iv i) (ltb-true (d ⟨ i ⟩) (2 ^ 7) (and_left _ _ (rule i h))) (omega (arith, fits.0, wide))

-- two loads, with any two rows: row, key and IV are the same
module _ (d d' k k' iv iv' : List ℕ) (r : Clear d) (r' : Clear d') (b : OfBytes 32 k) (b' : OfBytes 32 k') (v : OfBytes 23 iv) (v' : OfBytes 23 iv')
    (e : load₂₅₆ d k iv ≡ load₂₅₆ d' k' iv') where
  parts : (i : ℕ) → i < 16
      → (byte k iv (place i 0) ≡ byte k' iv' (place i 0)) × (middle d k iv i ≡ middle d' k' iv' i)
      × (byte k iv (place i 1) ≡ byte k' iv' (place i 1)) × (byte k iv (place i 2) ≡ byte k' iv' (place i 2))
  parts i h =
      let same = sym (cell-is _ (cells_are d k iv) i h) ∙ ap (λ (σ : State). σ.cells ⟨ i ⟩) e ∙ cell-is _ (cells_are d' k' iv') i h in
      let p = parted 8 (byte-lt d k iv r b v (place i 2)) (byte-lt d' k' iv' r' b' v' (place i 2)) same in
      let q = parted 8 (byte-lt d k iv r b v (place i 1)) (byte-lt d' k' iv' r' b' v' (place i 1)) p.0 in
      let m = parted 7 (middle-lt d k iv r b v i h) (middle-lt d' k' iv' r' b' v' i h) q.0 in
      (m.0, m.1, q.1, p.1)

  placed : (i j : ℕ) → i < 16 → byte k iv (place i j) ≡ byte k' iv' (place i j)
  unfolding place
  placed i zero h = (parts i h).0
  placed i (suc zero) h = (parts i h).2
  placed i (suc (suc j)) h = (parts i h).3

  byte-same : (o m : ℕ) → every (found o) 0 (homes o m) ≡ true → (n : ℕ) → n < m → byte k iv (o + n) ≡ byte k' iv' (o + n)
  byte-same o m test n h =
      let c : ℕ = homes o m ⟨ n ⟩ in
      let ok = at (found o) (homes o m) test n (subst (λ (l : ℕ). n < l) (sym (length-listed _ 0 m)) h) in
      let inside : c < 48 = ltb-true c 48 (and_right (eqb (place (c / 3) (c % 3)) (o + n)) (ltb c 48) ok) in
      subst (λ (x : ℕ). byte k iv x ≡ byte k' iv' x) (eqb-true (place (c / 3) (c % 3)) (o + n) (and_left _ (ltb c 48) ok)) (placed (c / 3) (c % 3) (omega arith))

  -- a constant, and what was or'd onto it
  or_same : (i : ℕ) → i < 16 → (d ⟨ i ⟩ ≡ d' ⟨ i ⟩) × (beside k iv i ≡ beside k' iv' i)
  or_same i h =
      or-parted (room i) (d ⟨ i ⟩) (d' ⟨ i ⟩) (beside k iv i) (beside k' iv' i) (clear_at d k iv r b v i h) (clear_at d' k' iv' r' b' v' i h)
      (roomy k iv b i).0 (roomy k' iv' b' i).0 (parts i h).1

  number_same : (j : ℕ) → j < 8 → IV₂₅₆ iv (17 + j) ≡ IV₂₅₆ iv' (17 + j)
  number_same j h = sym (is k iv) ∙ (or_same (5 + j) (omega arith)).1 ∙ is k' iv'
    where
      is : (key vector : List ℕ) → beside key vector (5 + j) ≡ IV₂₅₆ vector (17 + j)
      is key vector = rw (le-ltb (5 + j) 5 (omega arith), lt-ltb (5 + j) 13 (omega arith), add-sub_cancel_left 5 j) refl

  key-byte : (i : ℕ) → i < 32 → k ⟨ i ⟩ ≡ k' ⟨ i ⟩
  key-byte i h =
      ⊎_elim
      (λ (q : suc i ≡ 32).
      let at-end : i ≡ 31 = omega arith in
      let high : k ⟨ 31 ⟩ / 2 ^ 4 ≡ k' ⟨ 31 ⟩ / 2 ^ 4 = (or_same 14 (lit< tt)).1 in
      let low : k ⟨ 31 ⟩ % 2 ^ 4 ≡ k' ⟨ 31 ⟩ % 2 ^ 4 = (or_same 15 (lit< tt)).1 in
      rw at-end (omega arith))
      (λ (l : suc i < 32). sym (is k iv) ∙ byte-same 0 31 key-found i (omega arith) ∙ is k' iv') (eq-or-lt_of_le h)
    where
      is : (key vector : List ℕ) → byte key vector (0 + i) ≡ key ⟨ i ⟩
      is key vector = rw (zero-add i, lt-ltb i 32 h) refl

  iv-byte : (i : ℕ) → i < 23 → iv ⟨ i ⟩ ≡ iv' ⟨ i ⟩
  iv-byte i h =
      ⊎_elim (λ (q : i - 16 ≡ 0). sym (is k iv) ∙ byte-same 32 17 iv-found i (omega arith) ∙ is k' iv')
      (λ (l : 0 < i - 16). last-bytes v v' number_same i (omega arith) h) (eq-zero-or-pos (i - 16))
    where
      is : (key vector : List ℕ) → byte key vector (32 + i) ≡ vector ⟨ i ⟩
      is key vector = rw (le-ltb (32 + i) 32 (omega arith)) (ap (λ (n : ℕ). vector ⟨ n ⟩) (add-sub_cancel_left 32 i))

  pub load₂₅₆-apart : (d ≡ d') × (k ≡ k') × (iv ≡ iv')
  load₂₅₆-apart = (
    same_entries 16 d d' r.long r'.long (λ i h. (or_same i h).0),
    same_entries 32 k k' b.long b'.long key-byte,
    same_entries 23 iv iv' v.long v'.long iv-byte,
  )
