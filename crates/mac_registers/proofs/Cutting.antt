-- Updates: cutting does not matter, a byte waits or completes a block, a whole block is one feed; by induction on the bytes.
use mathlib.Core.Path.{◌≡◌, refl, sym, ap, ap₂, ◌∙◌}
use mathlib.Core.List.{List, [], ◌∷◌, ◌++◌, append-nil}
use Prim.Native.Nat.{ℕ, suc, ◌+◌, ◌*◌, ◌-◌, ◌<◌, ◌≤◌}
use native.Mathlib.Omega.{arith}
use lib.ListN.{drop, length, length-append, take}
use lib.Seq.{append_snoc, drop-drop, take-add}
use borrow.Author.Tests.{le-ltb, lt-ltb}
use Rattle.mac_registers.specs.Tagging.{Tagging, absorbed, fed, updated}

-- the cutting of a message into updates does not matter
pub updated-append : (t : ℕ) (st : Tagging) (a b : List ℕ) → updated t st (a ++ b) ≡ updated t (updated t st a) b
unfolding updated
updated-append t st [] b = refl
updated-append t st (x ∷ a) b = updated-append t (absorbed t st x) a b

-- the bytes so far, and the next ones
pub updated-on : (t : ℕ) (st : Tagging) (m : List ℕ) (i at : ℕ) → i ≤ at
    → updated t (updated t st (take i m)) (take (at - i) (drop i m)) ≡ updated t st (take at m)
updated-on t st m i at h =
    sym (updated-append t st (take i m) (take (at - i) (drop i m)))
    ∙ ap (updated t st) (sym (take-add i (at - i) m) ∙ ap (λ (n : ℕ). take n m) e)
  where
    e : i + (at - i) ≡ at
    e = omega arith

-- the same from a place on
pub updated-from : (t : ℕ) (st : Tagging) (m : List ℕ) (from i at : ℕ) → from ≤ i → i ≤ at
    → updated t (updated t st (take (i - from) (drop from m))) (take (at - i) (drop i m)) ≡ updated t st (take (at - from) (drop from m))
updated-from t st m from i at h k =
    ap₂ (λ (n : ℕ) (l : List ℕ). updated t (updated t st (take (i - from) (drop from m))) (take n l)) more (sym rest)
    ∙ updated-on t st (drop from m) (i - from) (at - from) (omega arith)
  where
    more : at - i ≡ at - from - (i - from)
    more = omega arith

    place : from + (i - from) ≡ i
    place = omega arith

    rest : drop (i - from) (drop from m) ≡ drop i m
    rest = drop-drop (i - from) from m ∙ ap (λ (n : ℕ). drop n m) place

pub absorbed-waits : (t : ℕ) (st : Tagging) (b : ℕ) → suc (length st.waiting) * 8 < t
    → absorbed t st b ≡ record { generator = st.generator; key = st.key; tag = st.tag; waiting = st.waiting ++ (b ∷ []) }
unfolding absorbed
absorbed-waits t st b h = rw (lt-ltb (suc (length st.waiting) * 8) t h) refl

pub absorbed-fills : (t : ℕ) (st : Tagging) (b : ℕ) → t ≤ suc (length st.waiting) * 8 → absorbed t st b ≡ fed t st (st.waiting ++ (b ∷ []))
unfolding absorbed
absorbed-fills t st b h = rw (le-ltb (suc (length st.waiting) * 8) t h) refl

-- bytes that complete a block, at every width
pub updated-block : (t : ℕ) (m : List ℕ) (st : Tagging) → 0 < length m → length st.waiting * 8 + length m * 8 ≡ t
    → updated t st m ≡ fed t st (st.waiting ++ m)
unfolding updated fed
updated-block t [] st p e = absurd (omega arith)
updated-block t (b ∷ []) st p e = absorbed-fills t st b (omega arith)
updated-block t (b ∷ d ∷ m) st p e =
    ap (λ (x : Tagging). updated t (absorbed t x d) m) (absorbed-waits t st b (omega arith))
    ∙ updated-block t (d ∷ m) (record { generator = st.generator; key = st.key; tag = st.tag; waiting = st.waiting ++ (b ∷ []) })
    (omega arith) (omega (arith, length-append st.waiting (b ∷ [])))
    ∙ ap (fed t st) (append_snoc st.waiting b (d ∷ m))

-- bytes that do not complete one
pub updated-waits : (t : ℕ) (m : List ℕ) (st : Tagging) → length st.waiting * 8 + length m * 8 < t
    → updated t st m ≡ record { generator = st.generator; key = st.key; tag = st.tag; waiting = st.waiting ++ m }
unfolding updated
updated-waits t [] st h = λ i. record { generator = st.generator; key = st.key; tag = st.tag; waiting = sym (append-nil st.waiting) i }
updated-waits t (b ∷ m) st h =
    ap (λ (x : Tagging). updated t x m) (absorbed-waits t st b (omega arith))
    ∙ updated-waits t m (record { generator = st.generator; key = st.key; tag = st.tag; waiting = st.waiting ++ (b ∷ []) })
    (omega (arith, length-append st.waiting (b ∷ [])))
    ∙ ap (λ (l : List ℕ). record { generator = st.generator; key = st.key; tag = st.tag; waiting = l }) (append_snoc st.waiting b m)
