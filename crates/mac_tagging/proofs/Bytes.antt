-- What bytes do to the state that a held struct packs: they wait behind the others, or fill a block.
use mathlib.Core.Path.{◌≡◌, refl, sym, ap, ap₂, ◌∙◌}
use mathlib.Core.List.{List, ◌∷◌, ◌++◌}
use Prim.Native.Nat.{ℕ, zero, suc, ◌+◌, ◌-◌, ◌*◌, ◌<◌, ◌≤◌}
use native.Mathlib.Omega.{arith}
use native.Mathlib.Nat.{suc-mul, zero-mul}
use lib.ListN.{drop, length, length-append, replicate, set, take}
use lib.Seq.{drop_at, drop-drop, paste, set_at, take_all, take_at}
use Rattle.mac_registers.specs.Stored.{packed, tagging_of}
use Rattle.mac_registers.specs.Inner.{Good, Holds}
use Rattle.standard.specs.States.{Stored}
use Rattle.mac_registers.specs.Tagging.{Tagging, fed, updated}
use Rattle.mac_registers.specs.InnerBlocks.{Blocks}
use Rattle.mac_registers.proofs.Cutting.{updated-block, updated-on, updated-waits}
use Rattle.mac_registers.proofs.Packed.{at_packed, good-updated, width-most}
use Rattle.mac_blocks.proofs.Moves.{block-is, cnt-is, cnt-lt, cnt-most, emptied, emptied-held}

-- a store at the first free place, of n places
set_next : (n : ℕ) (l rem : List ℕ) (k b : ℕ) → rem ≡ l ++ replicate (n - k) 0 → k ≡ length l → k < n
    → set rem k b ≡ l ++ (b ∷ replicate (n - suc k) 0)
set_next n l rem k b e m h =
    ap (λ (x : List ℕ). set x k b) (e ∙ ap (λ (x : ℕ). l ++ replicate x 0) d) ∙ set_at l 0 (replicate (n - suc k) 0) b k (sym m)
  where
    d : n - k ≡ suc (n - suc k)
    d = omega arith

drop-zeros : (k n : ℕ) → drop {A = ℕ} k (replicate n 0) ≡ replicate (n - k) 0
drop-zeros zero n = let same : n ≡ n - 0 = omega arith in ap (λ (m : ℕ). replicate m 0) same
drop-zeros (suc k) zero = let none : 0 ≡ 0 - suc k = omega arith in ap (λ (m : ℕ). replicate m 0) none
drop-zeros (suc k) (suc n) = let less : n - k ≡ suc n - suc k = omega arith in drop-zeros k n ∙ ap (λ (m : ℕ). replicate m 0) less

module _ (s : Stored) (h : Holds s) where
  -- the waiting bytes with one more
  pub rem-next : (b : ℕ) → set s.rem s.cnt b ≡ (tagging_of s).waiting ++ (b ∷ replicate (16 - suc s.cnt) 0)
  unfolding packed
  rem-next b =
      set_next 16 (tagging_of s).waiting s.rem s.cnt b
      (sym (ap (λ (x : Stored). x.rem) h.packs) ∙ ap (λ (n : ℕ). (tagging_of s).waiting ++ replicate (16 - n) 0) (cnt-is s h)) (sym (cnt-is s h)) (cnt-most s h)

  -- and with several, in the same 16 places
  pub behind-is : (m : List ℕ) → s.cnt + length m ≤ 16
      → paste s.rem s.cnt m (length m) ≡ (tagging_of s).waiting ++ m ++ replicate (16 - (s.cnt + length m)) 0
  unfolding tagging_of packed
  behind-is m l =
      ap₂ (λ (x y : List ℕ). take s.cnt s.rem ++ x ++ y) (take_all (length m) m (omega arith))
      (sym (drop-drop (length m) s.cnt s.rem)
      ∙ ap (drop (length m))
      (ap (drop s.cnt) (sym (ap (λ (x : Stored). x.rem) h.packs))
      ∙ drop_at (take s.cnt s.rem) (replicate (16 - length (take s.cnt s.rem)) 0) s.cnt (cnt-is s h))
      ∙ drop-zeros (length m) (16 - length (take s.cnt s.rem))
      ∙ ap (λ (n : ℕ). replicate n 0) left)
    where
      left : 16 - length (take s.cnt s.rem) - length m ≡ 16 - (s.cnt + length m)
      left = rw (cnt-is s h) (omega arith)

  -- bytes that complete no block wait
  pub waits-are : (m : List ℕ) → s.cnt + length m < s.width
      → record { generator = s.generator; key = s.key; tag = s.tag; rem = paste s.rem s.cnt m (length m); cnt = s.cnt + length m; width = s.width }
      ≡ packed s.width (updated (s.width * 8) (tagging_of s) m)
  unfolding packed tagging_of
  waits-are m l =
      (λ i. record {
        generator = s.generator;
        key = ap (λ (x : Stored). x.key) (sym h.packs) i;
        tag = ap (λ (x : Stored). x.tag) (sym h.packs) i;
        rem =
            (behind-is m (omega (arith, width-most h.good.a-width))
            ∙ ap (λ (n : ℕ). (tagging_of s).waiting ++ m ++ replicate (16 - n) 0) (sym longer)) i;
        cnt = (sym longer) i;
        width = s.width;
      })
      ∙ ap (packed s.width) (sym (updated-waits (s.width * 8) m (tagging_of s) (omega (arith, cnt-is s h))))
    where
      longer : length ((tagging_of s).waiting ++ m) ≡ s.cnt + length m
      longer = length-append (tagging_of s).waiting m ∙ ap (λ (n : ℕ). n + length m) (cnt-is s h)

-- bytes that fill a block: one block, with nothing waiting before it
one-count : (n w at : ℕ) → 0 < w → at ≡ 0 + n * w → at ≤ w → w < at + w → at ≡ w
one-count zero w at p e le lt = absurd (omega (arith, zero-mul w))
one-count (suc zero) w at p e le lt = omega (arith, suc-mul 0 w, zero-mul w)
one-count (suc (suc n)) w at p e le lt = absurd (omega (arith, suc-mul (suc n) w, suc-mul n w))

pub one-block-is : (s : Stored) (h : Holds s) (m : List ℕ) → s.cnt + length m ≡ s.width → (r : Stored) (at : ℕ)
    → Blocks (emptied s h) (take s.width (paste s.rem s.cnt m (length m))) 0 r at → r ≡ packed s.width (updated (s.width * 8) (tagging_of s) m)
unfolding fed tagging_of
one-block-is s h m l r at k =
    k.held
    ∙ ap (λ (x : List ℕ). packed w (updated (w * 8) (tagging_of (emptied s h)) x)) (ap (λ (n : ℕ). take n block) whole ∙ take_all w block (omega (arith, full)))
    ∙ sym (block-is (emptied s h) (emptied-held s h) block refl full)
    ∙ ap (λ (x : List ℕ). packed w (fed (w * 8) (tagging_of s) x)) filled
    ∙ ap (packed w) (sym (updated-block (w * 8) m (tagging_of s) (omega (arith, cnt-lt s h)) (omega (arith, cnt-is s h))))
  where
    w : ℕ
    w = s.width

    block : List ℕ
    block = take w (paste s.rem s.cnt m (length m))

    waiting : List ℕ
    waiting = (tagging_of s).waiting

    long : length (waiting ++ m) ≡ w
    long = length-append waiting m ∙ ap (λ (n : ℕ). n + length m) (cnt-is s h) ∙ l

    filled : block ≡ waiting ++ m
    filled =
        ap (take w) (behind-is s h m (omega (arith, width-most h.good.a-width)))
        ∙ take_at (waiting ++ m) (replicate (16 - (s.cnt + length m)) 0) w long

    full : length block ≡ w
    full = ap length filled ∙ long

    whole : at - 0 ≡ w
    whole = omega (arith, one-count k.count w at (omega (arith, cnt-lt s h)) k.at-is (omega (arith, k.within, full)) (omega (arith, k.all, full)))

-- an update part by part
pub part-on : {w : ℕ} {st : Tagging} → Good w st → (m : List ℕ) (i at : ℕ) {s r : Stored} → i ≤ at → s ≡ packed w (updated (w * 8) st (take i m))
    → r ≡ packed s.width (updated (s.width * 8) (tagging_of s) (take (at - i) (drop i m))) → r ≡ packed w (updated (w * 8) st (take at m))
part-on {w} {st} g m i at h e f =
    f
    ∙ at_packed (λ x y. packed x (updated (x * 8) y (take (at - i) (drop i m)))) e (good-updated (take i m) g)
    ∙ ap (packed w) (updated-on (w * 8) st m i at h)
