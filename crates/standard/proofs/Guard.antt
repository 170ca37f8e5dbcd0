-- The laws of a guard's links: bits gathered into a number and read again, by induction on the bits; a window moved up, and a COUNT that
-- joins the set, by which bits agree.
use mathlib.Core.Bool.{Bool, true, false, ◌&&◌, ◌||◌, and-false}
use mathlib.Core.Logic.{⊎_elim}
use mathlib.Core.Path.{◌≡◌, refl, sym, ap, ap₂, ◌∙◌, subst}
use Prim.Native.Nat.{ℕ, zero, suc, ◌+◌, ◌-◌, ◌*◌, ◌/◌, ◌%◌, ◌^◌, ◌<◌, ◌≤◌, max}
use native.Mathlib.Nat.{add-mul, add-suc, add-zero, max-eq_left, max-eq_right, mod-eq_of_lt, mod-lt, mod-one, mul_assoc, mul_comm, mul-mod_left, not-suc-le-zero, one-mul, two-pow-succ, zero-mul}
use native.Mathlib.Omega.{arith}
use lib.Arith.{digits_mod}
use lib.Dec.{eqb, leb}
use lib.Pow.{high, low, mod-pow-add, pow-add, shl_lt}
use borrow.Author.Tests.{eq-eqb, le-leb, lt-leb, lt-ltb, ne_eqb}
use Rattle.standard.specs.Guard.{Link, accepting, fresh, gathered, is_set, knows, link_over, window_counts}
use Rattle.std.specs.Prelude.{if◌then◌else◌}
use Rattle.standard.proofs.Each.{place}

-- one bit more
more_lt : (b : Bool) (a n : ℕ) → a < 2 ^ n → a + (if b then 2 ^ n else 0) < 2 ^ suc n
more_lt true a n h = omega (arith, two-pow-succ n)
more_lt false a n h = omega (arith, two-pow-succ n)

more-up : (b : Bool) (a r k m : ℕ) → a * 2 ^ k + r + (if b then 2 ^ (k + m) else 0) ≡ (a + (if b then 2 ^ m else 0)) * 2 ^ k + r
more-up true a r k m = omega (arith, pow-add 2 k m, mul_comm (2 ^ k) (2 ^ m), add-mul a (2 ^ m) (2 ^ k))
more-up false a r k m = add-zero (a * 2 ^ k + r) ∙ ap (λ (x : ℕ). x * 2 ^ k + r) (sym (add-zero a))

digit : (b k : ℕ) → b < 2 → (if eqb b 1 then k else 0) ≡ b * k
digit zero k h = sym (zero-mul k)
digit (suc zero) k h = sym (one-mul k)
digit (suc (suc b)) k h = absurd (omega arith)

weight : (b : Bool) (k : ℕ) → (if b then k else 0) ≡ (if b then 1 else 0) * k
weight true k = sym (one-mul k)
weight false k = sym (zero-mul k)

bit-lt : (b : Bool) → (if b then 1 else 0) < 2
bit-lt true = omega arith
bit-lt false = omega arith

bit-back : (b : Bool) → eqb (if b then 1 else 0) 1 ≡ b
bit-back true = refl
bit-back false = refl

-- how large, and by which bits
pub gathered-lt : (f : ℕ → Bool) (n : ℕ) → gathered f n < 2 ^ n
unfolding gathered
gathered-lt f zero = omega arith
gathered-lt f (suc n) = more_lt (f n) (gathered f n) n (gathered-lt f n)

gathered-on : (f g : ℕ → Bool) (n : ℕ) → ((i : ℕ) → i < n → f i ≡ g i) → gathered f n ≡ gathered g n
unfolding gathered
gathered-on f g zero e = refl
gathered-on f g (suc n) e =
    ap₂ (λ (a : ℕ) (b : Bool). a + (if b then 2 ^ n else 0)) (gathered-on f g n (λ i h. e i (omega arith))) (e n (omega arith))

gathered-split : (f : ℕ → Bool) (k m : ℕ) → gathered f (k + m) ≡ gathered (λ i. f (k + i)) m * 2 ^ k + gathered f k
unfolding gathered
gathered-split f k zero = ap (gathered f) (add-zero k) ∙ omega (arith, zero-mul (2 ^ k))
gathered-split f k (suc m) =
    ap (gathered f) (add-suc k m)
    ∙ ap (λ (a : ℕ). a + (if f (k + m) then 2 ^ (k + m) else 0)) (gathered-split f k m)
    ∙ more-up (f (k + m)) (gathered (λ i. f (k + i)) m) (gathered f k) k m

gathered_none : (f : ℕ → Bool) (n : ℕ) → ((i : ℕ) → i < n → f i ≡ false) → gathered f n ≡ 0
unfolding gathered
gathered_none f zero e = refl
gathered_none f (suc n) e =
    ap₂ (λ (a : ℕ) (b : Bool). a + (if b then 2 ^ n else 0)) (gathered_none f n (λ i h. e i (omega arith))) (e n (omega arith))

gathered-past : (f : ℕ → Bool) (k m : ℕ) → ((i : ℕ) → f (k + i) ≡ false) → gathered f (k + m) ≡ gathered f k
gathered-past f k m e =
    gathered-split f k m
    ∙ ap (λ (a : ℕ). a * 2 ^ k + gathered f k) (gathered_none (λ i. f (k + i)) m (λ i h. e i))
    ∙ omega (arith, zero-mul (2 ^ k))

-- a bit of what was gathered, and what is gathered from a number's own bits
pub set-gathered : (f : ℕ → Bool) (n i : ℕ) → i < n → is_set (gathered f n) i ≡ f i
unfolding is_set gathered
set-gathered f n i h =
    ap (λ (x : ℕ). eqb (x / 2 ^ i % 2) 1)
    (ap (gathered f) e
    ∙ gathered-split f (suc i) m
    ∙ omega (arith, ap (λ (x : ℕ). gathered (λ j. f (suc i + j)) m * x) (two-pow-succ i), weight (f i) (2 ^ i), add-mul (gathered (λ j. f (suc i + j)) m * 2) b (2 ^ i), mul_assoc (gathered (λ j. f (suc i + j)) m) 2 (2 ^ i)))
    ∙ ap (λ (x : ℕ). eqb (x % 2) 1) (high (gathered (λ j. f (suc i + j)) m * 2 + b) i (gathered-lt f i))
    ∙ ap (λ (x : ℕ). eqb x 1) (digits_mod (gathered (λ j. f (suc i + j)) m) (bit-lt (f i)))
    ∙ bit-back (f i)
  where
    m : ℕ
    m = n - suc i

    e : n ≡ suc i + m
    e = omega arith

    b : ℕ
    b = if f i then 1 else 0

gathered-own : (x n : ℕ) → gathered (is_set x) n ≡ x % 2 ^ n
unfolding gathered is_set
gathered-own x zero = sym (mod-one x)
gathered-own x (suc n) =
    ap₂ (λ (a b : ℕ). a + b) (gathered-own x n) (digit (x / 2 ^ n % 2) (2 ^ n) (mod-lt (x / 2 ^ n) (omega arith)))
    ∙ omega (arith, mod-pow-add x 1 n, ap (λ (k : ℕ). x % 2 ^ k) e)
  where
    e : 1 + n ≡ suc n
    e = omega arith

-- one bit more that is set, and all of them moved up
gathered-join : (f : ℕ → Bool) (k n : ℕ) → k < n → f k ≡ false → gathered (λ i. eqb i k || f i) n ≡ gathered f n + 2 ^ k
unfolding gathered
gathered-join f k zero h e = absurd (not-suc-le-zero h)
gathered-join f k (suc n) h e =
    ⊎_elim
    (λ l. rw (ne_eqb n k (λ q. omega arith)) (ap (λ (a : ℕ). a + (if f n then 2 ^ n else 0)) (gathered-join f k n l e) ∙ omega arith))
    (λ w. ⊎_elim
    (λ q. subst (λ (j : ℕ). f j ≡ false → gathered (λ i. eqb i j || f i) n + (if eqb n j || f n then 2 ^ n else 0) ≡ gathered f n + (if f n then 2 ^ n else 0) + 2 ^ j) (sym q)
    (λ off. rw (eq-eqb n n refl, off)
    (ap (λ (a : ℕ). a + 2 ^ n) (gathered-on (λ i. eqb i n || f i) f n (λ i l. rw (ne_eqb i n (λ p. omega arith)) refl)) ∙ omega arith)) e)
    (λ l. absurd (omega arith)) w)
    (place k n)

gathered-up : (f : ℕ → Bool) (d n : ℕ) → gathered (λ i. leb d i && f (i - d)) n ≡ gathered f n * 2 ^ d % 2 ^ n
gathered-up f d n = ⊎_elim (λ l. far l) (λ w. near (⊎_elim (λ q. omega arith) (λ l. omega arith) w)) (place n d)
  where
    g : ℕ → Bool
    g i = leb d i && f (i - d)

    below : (i : ℕ) → i < d → g i ≡ false
    below i l = rw (lt-leb d i l) refl

    far : n < d → gathered g n ≡ gathered f n * 2 ^ d % 2 ^ n
    far l =
        gathered_none g n (λ i h. below i (omega arith))
        ∙ sym (ap (λ (x : ℕ). x % 2 ^ n)
        (ap (λ (k : ℕ). gathered f n * 2 ^ k) e ∙ ap (λ (x : ℕ). gathered f n * x) (pow-add 2 (d - n) n) ∙ sym (mul_assoc (gathered f n) (2 ^ (d - n)) (2 ^ n)))
        ∙ mul-mod_left (gathered f n * 2 ^ (d - n)) (2 ^ n))
      where
        e : d ≡ d - n + n
        e = omega arith

    near : d ≤ n → gathered g n ≡ gathered f n * 2 ^ d % 2 ^ n
    near h =
        ap (gathered g) e
        ∙ gathered-split g d m
        ∙ ap₂ (λ (a b : ℕ). a * 2 ^ d + b)
        (gathered-on (λ i. g (d + i)) f m (λ i l. rw (le-leb d (d + i) (omega arith)) (ap f (omega arith))))
        (gathered_none g d below)
        ∙ add-zero (gathered f m * 2 ^ d)
        ∙ sym (ap (λ (k : ℕ). gathered f k * 2 ^ d % 2 ^ k) e'
        ∙ ap (λ (x : ℕ). x * 2 ^ d % 2 ^ (m + d)) (gathered-split f m d)
        ∙ ap (λ (x : ℕ). x % 2 ^ (m + d))
        (add-mul (q * 2 ^ m) (gathered f m) (2 ^ d) ∙ ap (λ (x : ℕ). x + gathered f m * 2 ^ d) (mul_assoc q (2 ^ m) (2 ^ d) ∙ ap (λ (x : ℕ). q * x) (sym (pow-add 2 m d))))
        ∙ low q (m + d) (shl_lt m d (gathered-lt f m)))
      where
        m : ℕ
        m = n - d

        q : ℕ
        q = gathered (λ i. f (m + i)) d

        e : n ≡ d + m
        e = omega arith

        e' : n ≡ m + d
        e' = omega arith

-- a COUNT of a link's window, one above it and one below
inside : (link : Link) (n : ℕ) → n ≤ link.highest → link.highest - n < window_counts → knows link n ≡ is_set link.accepted (link.highest - n)
unfolding knows
inside link n h w = rw (le-leb n link.highest h, lt-ltb (link.highest - n) window_counts w) refl

pub knows-above : (link : Link) (n : ℕ) → link.highest < n → knows link n ≡ false
unfolding knows
knows-above link n h = rw (lt-leb n link.highest h) refl

-- what a link knows that was made of a set
pub knows_over : (H : ℕ) (S : ℕ → Bool) (n : ℕ) → n ≤ H → H - n < window_counts → knows (link_over H S) n ≡ S n
unfolding link_over
knows_over H S n h w =
    inside (link_over H S) n h w
    ∙ set-gathered (λ i. leb i H && S (H - i)) window_counts (H - n) w
    ∙ rw (le-leb (H - n) H (omega arith)) (ap S (omega arith))

pub over-on : (h : ℕ) (S S' : ℕ → Bool) → ((n : ℕ) → n ≤ h → h - n < window_counts → S n ≡ S' n) → link_over h S ≡ link_over h S'
unfolding link_over
over-on h S S' e =
    ap (λ (a : ℕ). record { highest = h; accepted = a })
    (gathered-on (λ i. leb i h && S (h - i)) (λ i. leb i h && S' (h - i)) window_counts
    (λ i l. ⊎_elim (λ b. same i l (omega arith)) (λ w. ⊎_elim (λ b. same i l (omega arith)) (λ b. rw (lt-leb i h b) refl) w) (place i h)))
  where
    same : (i : ℕ) → i < window_counts → i ≤ h → (leb i h && S (h - i)) ≡ (leb i h && S' (h - i))
    same i l b = ap (λ (x : Bool). leb i h && x) (e (h - i) (omega arith) (omega arith))

pub fresh-over : link_over 0 (λ n. false) ≡ fresh
unfolding link_over
fresh-over = ap (λ (a : ℕ). record { highest = 0; accepted = a }) (gathered_none (λ i. leb i 0 && false) window_counts (λ i h. and-false (leb i 0)))

-- the bits of a link that stand for a COUNT
module _ (link : Link) where
  abbrev top : ℕ
  top = link.highest

  abbrev stands : ℕ → Bool
  stands i = leb i top && knows link (top - i)

  -- those of the number up to bit `highest`
  stands-bit : (i : ℕ) → i < window_counts → i ≤ top → stands i ≡ is_set link.accepted i
  stands-bit i l h =
      rw (le-leb i top h)
      (inside link (top - i) (omega arith) (omega arith) ∙ ap (is_set link.accepted) (omega arith))

  pub standing-low : top < 63 → (link_over top (knows link)).accepted ≡ link.accepted % 2 ^ suc top
  unfolding link_over
  standing-low h =
      ap (gathered stands) e
      ∙ gathered-past stands (suc top) (63 - top) (λ i. rw (lt-leb (suc top + i) top (omega arith)) refl)
      ∙ gathered-on stands (is_set link.accepted) (suc top) (λ i l. stands-bit i (omega arith) (omega arith))
      ∙ gathered-own link.accepted (suc top)
    where
      e : 64 ≡ suc top + (63 - top)
      e = omega arith

  pub standing-high : 63 ≤ top → link.accepted < 2 ^ 64 → (link_over top (knows link)).accepted ≡ link.accepted
  unfolding link_over
  standing-high h fits =
      gathered-on stands (is_set link.accepted) window_counts (λ i l. stands-bit i l (omega arith)) ∙ gathered-own link.accepted 64 ∙ mod-eq_of_lt fits

  pub standing-lt : (link_over top (knows link)).accepted < 2 ^ 64
  unfolding link_over
  standing-lt = gathered-lt stands window_counts

  -- a COUNT of the window by its bit
  pub standing-knows : (n : ℕ) → n ≤ top → top - n < window_counts → is_set (link_over top (knows link)).accepted (top - n) ≡ knows link n
  unfolding link_over
  standing-knows n h w =
      set-gathered stands window_counts (top - n) w
      ∙ rw (le-leb (top - n) top (omega arith)) (ap (knows link) (omega arith))

  pub accepting-lt : (COUNT : ℕ) → (accepting link COUNT).accepted < 2 ^ 64
  unfolding accepting link_over
  accepting-lt COUNT =
      gathered-lt (λ i. leb i (max top COUNT) && (eqb (max top COUNT - i) COUNT || knows link (max top COUNT - i))) window_counts

  -- a COUNT inside the window sets its bit
  pub accepting-inside : (COUNT : ℕ) → COUNT ≤ top → top - COUNT < window_counts → knows link COUNT ≡ false
      → accepting link COUNT ≡ record { highest = top; accepted = (link_over top (knows link)).accepted + 2 ^ (top - COUNT) }
  unfolding accepting link_over
  accepting-inside COUNT h w off =
      ap (λ (m : ℕ). link_over m (λ n. eqb n COUNT || knows link n)) (max-eq_left h)
      ∙ ap (λ (a : ℕ). record { highest = top; accepted = a })
      (gathered-on (λ i. leb i top && (eqb (top - i) COUNT || knows link (top - i))) (λ i. eqb i (top - COUNT) || stands i) window_counts
      (λ i l. ⊎_elim (λ b. other i (omega arith) (λ e. omega arith)) (λ v. ⊎_elim (λ b. at i b) (λ b. ⊎_elim (λ c. other i (omega arith) (λ e. omega arith)) (λ u. ⊎_elim (λ c. other i (omega arith) (λ e. omega arith)) (λ c. past i c) u) (place i top)) v) (place i (top - COUNT)))
      ∙ gathered-join stands (top - COUNT) window_counts w (rw (le-leb (top - COUNT) top (omega arith)) (ap (knows link) (omega arith) ∙ off)))
    where
      at : (i : ℕ) → i ≡ top - COUNT → (leb i top && (eqb (top - i) COUNT || knows link (top - i))) ≡ (eqb i (top - COUNT) || stands i)
      at i e = rw (eq-eqb i (top - COUNT) e, le-leb i top (omega arith), eq-eqb (top - i) COUNT (omega arith)) refl

      other : (i : ℕ) → i ≤ top → (i ≡ top - COUNT → ⊥) → (leb i top && (eqb (top - i) COUNT || knows link (top - i))) ≡ (eqb i (top - COUNT) || stands i)
      other i b n = rw (ne_eqb i (top - COUNT) n, le-leb i top b, ne_eqb (top - i) COUNT (λ e. n (omega arith))) refl

      past : (i : ℕ) → top < i → (leb i top && (eqb (top - i) COUNT || knows link (top - i))) ≡ (eqb i (top - COUNT) || stands i)
      past i b = rw (ne_eqb i (top - COUNT) (λ e. omega arith), lt-leb i top b) refl

  -- one above it moves the window up
  pub accepting-above : (COUNT : ℕ) → top < COUNT
      → accepting link COUNT ≡ record { highest = COUNT; accepted = (link_over top (knows link)).accepted * 2 ^ (COUNT - top) % 2 ^ 64 + 1 }
  unfolding accepting link_over
  accepting-above COUNT h =
      ap (λ (m : ℕ). link_over m (λ n. eqb n COUNT || knows link n)) (max-eq_right (omega arith))
      ∙ ap (λ (a : ℕ). record { highest = COUNT; accepted = a })
      (gathered-on (λ i. leb i COUNT && (eqb (COUNT - i) COUNT || knows link (COUNT - i))) (λ i. eqb i 0 || moved i) window_counts
      (λ i l. each i)
      ∙ gathered-join moved 0 window_counts (omega arith) (rw (lt-leb up 0 (omega arith)) refl)
      ∙ ap (λ (x : ℕ). x + 1) (gathered-up stands up window_counts))
    where
      up : ℕ
      up = COUNT - top

      moved : ℕ → Bool
      moved i = leb up i && stands (i - up)

      -- the first, those above the old window, those in it, and those below 0
      each : (i : ℕ) → (leb i COUNT && (eqb (COUNT - i) COUNT || knows link (COUNT - i))) ≡ (eqb i 0 || moved i)
      each zero = rw (le-leb 0 COUNT (omega arith), eq-eqb (COUNT - 0) COUNT (omega arith)) refl
      each (suc j) =
          rw (ne_eqb (suc j) 0 (λ e. omega arith))
          (⊎_elim (λ b. rw (lt-leb up (suc j) b, le-leb (suc j) COUNT (omega arith), ne_eqb (COUNT - suc j) COUNT (λ e. omega arith)) (knows-above link (COUNT - suc j) (omega arith)))
          (λ w. kept (⊎_elim (λ e. omega arith) (λ l. omega arith) w)) (place (suc j) up))
        where
          kept : up ≤ suc j → (leb (suc j) COUNT && (eqb (COUNT - suc j) COUNT || knows link (COUNT - suc j))) ≡ moved (suc j)
          kept b =
              ⊎_elim (λ l. within (omega arith))
              (λ w. ⊎_elim (λ l. within (omega arith)) (λ l. below l) w) (place (suc j) COUNT)
            where
              below : COUNT < suc j → (leb (suc j) COUNT && (eqb (COUNT - suc j) COUNT || knows link (COUNT - suc j))) ≡ moved (suc j)
              below l = rw (lt-leb (suc j) COUNT l, le-leb up (suc j) b, lt-leb (suc j - up) top (omega arith)) refl

              within : suc j ≤ COUNT → (leb (suc j) COUNT && (eqb (COUNT - suc j) COUNT || knows link (COUNT - suc j))) ≡ moved (suc j)
              within l =
                  rw (le-leb (suc j) COUNT l, ne_eqb (COUNT - suc j) COUNT (λ e. omega arith), le-leb up (suc j) b, le-leb (suc j - up) top (omega arith))
                  (ap (knows link) (omega arith))
