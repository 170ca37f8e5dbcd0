-- A state goes into its array and comes back as it was, and an array into a state and back; by their entries written out.
use lib.Dec.{lit<}
use lib.ListN.{get_or-append, drop, length, length-append, length-drop, take}
use lib.Seq.{ext_get_or, get_or-append-add, get_or_at, get_or-drop, get_or-take, length-take-le, take-append-le, take_at}
use mathlib.Core.List.{List, [], ◌∷◌, ◌++◌}
use mathlib.Core.Path.{◌≡◌, refl, sym, ap, ◌∙◌, subst}
use native.Mathlib.Omega.{arith}
use Prim.Native.Nat.{ℕ, zero, suc, ◌+◌, ◌-◌, ◌*◌, ◌^◌, ◌<◌, ◌≤◌}
use Rattle.capi_arrays.proofs.Regrouped.{regrouped-back, regrouped-length}
use Rattle.capi_arrays.specs.Arrays.{array_of, held_from, held_in, placed, regrouped, stored_in, tag_array_of}
use Rattle.standard.specs.States.{Counted, Held, Stored}
use Rattle.standard.proofs.Listed.{get_or-listed, is-listed, length-listed}
use Rattle.standard.specs.Notation.{◌⟨◌⟩, listed}
use Rattle.zuc.proofs.Turning.{cells-back, length-places, places-back}
use Rattle.zuc.specs.Reading.{cells_from, places_of}

-- a part of a list, written out
pub part-listed : (a : List ℕ) (from n : ℕ) → from + n ≤ length a → listed (λ k. a ⟨ k ⟩) from n ≡ take n (drop from a)
part-listed a from n h =
    let whole : n ≤ length (drop from a) = omega (arith, length-drop from a) in
    ext_get_or 0 (listed (λ k. a ⟨ k ⟩) from n) (take n (drop from a)) (length-listed (λ k. a ⟨ k ⟩) from n ∙ sym (length-take-le n (drop from a) whole))
    (λ k l.
    let b : k < n = omega (arith, length-listed (λ k. a ⟨ k ⟩) from n) in
    get_or-listed (λ k. a ⟨ k ⟩) from n k b ∙ sym (get_or-take n (drop from a) k 0 b ∙ get_or-drop from a k 0))

-- a whole list, written out
pub all_listed : (a : List ℕ) (n : ℕ) → length a ≡ n → listed (λ k. a ⟨ k ⟩) 0 n ≡ a
all_listed a n e = sym (is-listed (λ k. a ⟨ k ⟩) a n e (λ k h. refl))

-- places and registers, and what is held, whatever the index
pub from-placed : (h : Held) → length h.meaning.cells ≡ 16 → held_from h.start (placed h) ≡ h
unfolding placed held_from
from-placed h e =
    let σ = h.meaning in
    let places : List ℕ = places_of h.start σ.cells in
    let full : length places ≡ 16 = length-places h.start σ.cells ∙ e in
    λ i. record {
      meaning =
          record {
            cells = (ap (cells_from h.start) (take_at places (σ.R₁ ∷ σ.R₂ ∷ []) 16 full) ∙ cells-back h.start σ.cells) i;
            R₁ = get_or_at places σ.R₁ (σ.R₂ ∷ []) 0 16 full i;
            R₂ = (ap (λ (n : ℕ). (places ++ (σ.R₁ ∷ σ.R₂ ∷ [])) ⟨ n + 1 ⟩) (sym full) ∙ get_or-append-add places (σ.R₁ ∷ σ.R₂ ∷ []) 1 0) i;
          };
      start = h.start;
    }

-- the first eighteen of so many words
pub placed-from : (start : ℕ) (a : List ℕ) → 18 ≤ length a → placed (held_from start a) ≡ listed (λ k. a ⟨ k ⟩) 0 18
unfolding placed held_from listed
placed-from start a h =
    ap (λ (s : List ℕ). s ++ (a ⟨ 16 ⟩ ∷ a ⟨ 17 ⟩ ∷ [])) (places-back start (take 16 a) ∙ sym (part-listed a 0 16 (omega arith)))

pub placed-length : (h : Held) → length h.meaning.cells ≡ 16 → length (placed h) ≡ 18
unfolding placed
placed-length h e =
    length-append (places_of h.start h.meaning.cells) (h.meaning.R₁ ∷ h.meaning.R₂ ∷ [])
    ∙ ap (λ (n : ℕ). n + 2) (length-places h.start h.meaning.cells ∙ e)

-- generators
pub held-array : (a : List ℕ) → length a ≡ 20 → array_of (held_in a) ≡ a
unfolding array_of held_in listed held_from
held-array a e = ap (λ (s : List ℕ). s ++ (a ⟨ 18 ⟩ ∷ a ⟨ 19 ⟩ ∷ [])) (placed-from (a ⟨ 18 ⟩) a (omega arith)) ∙ all_listed a 20 e

-- only the first eighteen words are read
front : (start : ℕ) (a b : List ℕ) → length a ≡ 18 → held_from start (a ++ b) ≡ held_from start a
unfolding held_from
front start a b full =
    λ i. record {
      meaning =
          record {
            cells = cells_from start (take-append-le 16 a b (omega arith) i);
            R₁ = get_or-append a b 0 16 (omega arith) i;
            R₂ = get_or-append a b 0 17 (omega arith) i;
          };
      start = start;
    }

pub array-held : (g : Counted Held) → length g.held.meaning.cells ≡ 16 → held_in (array_of g) ≡ g
unfolding array_of held_in
array-held g e =
    let h = g.held in
    let last : List ℕ = h.start ∷ g.count ∷ [] in
    let full = placed-length h e in
    let held =
    ap (λ (n : ℕ). held_from n (placed h ++ last)) (get_or_at (placed h) h.start (g.count ∷ []) 0 18 full)
    ∙ front h.start (placed h) last full
    ∙ from-placed h e in
    λ i. record { held = held i; count = (ap (λ (n : ℕ). (placed h ++ last) ⟨ n + 1 ⟩) (sym full) ∙ get_or-append-add (placed h) last 1 0) i }

-- a number out of two lists, by what holds of each entry of both and of 0
pub append-fits : (P : ℕ → Type 0) (xs ys : List ℕ) → ((k : ℕ) → P (xs ⟨ k ⟩)) → ((k : ℕ) → P (ys ⟨ k ⟩)) → (k : ℕ) → P ((xs ++ ys) ⟨ k ⟩)
append-fits P [] ys px py k = py k
append-fits P (x ∷ xs) ys px py zero = px 0
append-fits P (x ∷ xs) ys px py (suc k) = append-fits P xs ys (λ j. px (suc j)) py k

-- and out of a part of one
take-fits : (P : ℕ → Type 0) → P 0 → (n : ℕ) (xs : List ℕ) → ((k : ℕ) → P (xs ⟨ k ⟩)) → (k : ℕ) → P (take n xs ⟨ k ⟩)
take-fits P none zero xs px k = none
take-fits P none (suc n) [] px k = none
take-fits P none (suc n) (x ∷ xs) px zero = px 0
take-fits P none (suc n) (x ∷ xs) px (suc k) = take-fits P none n xs (λ j. px (suc j)) k

-- so of cells that stay put, or are read
pub turned-fits : (P : ℕ → Type 0) → P 0 → (n : ℕ) (s : List ℕ) → ((k : ℕ) → P (s ⟨ k ⟩)) → (k : ℕ) → P ((drop n s ++ take n s) ⟨ k ⟩)
turned-fits P none n s ps = append-fits P (drop n s) (take n s) (λ k. subst P (sym (get_or-drop n s k 0)) (ps (n + k))) (take-fits P none n s ps)

-- what holds of every struct by the types of its fields
pub record Fit (s : Stored) : Type 0 where
  pub cells-full : length s.generator.meaning.cells ≡ 16
  pub cells : (k : ℕ) → s.generator.meaning.cells ⟨ k ⟩ < 2 ^ 32
  pub R₁ : s.generator.meaning.R₁ < 2 ^ 32
  pub R₂ : s.generator.meaning.R₂ < 2 ^ 32
  pub key-full : length s.key ≡ 4
  pub tag-full : length s.tag ≡ 2
  pub rem-full : length s.rem ≡ 16
  pub rem : (k : ℕ) → s.rem ⟨ k ⟩ < 2 ^ 8

registers-fit : (a b : ℕ) → a < 2 ^ 32 → b < 2 ^ 32 → (k : ℕ) → (a ∷ b ∷ []) ⟨ k ⟩ < 2 ^ 32
registers-fit a b ha hb zero = ha
registers-fit a b ha hb (suc zero) = hb
registers-fit a b ha hb (suc (suc k)) = lit< tt

placed-fits : (s : Stored) → Fit s → (k : ℕ) → placed s.generator ⟨ k ⟩ < 2 ^ 32
unfolding placed places_of
placed-fits s fit =
    let h = s.generator in
    append-fits (λ (x : ℕ). x < 2 ^ 32) (places_of h.start h.meaning.cells) (h.meaning.R₁ ∷ h.meaning.R₂ ∷ [])
    (turned-fits (λ (x : ℕ). x < 2 ^ 32) (lit< tt) (length h.meaning.cells - h.start) h.meaning.cells fit.cells)
    (registers-fit h.meaning.R₁ h.meaning.R₂ fit.R₁ fit.R₂)

pub array-stored : (c : Counted Stored) → Fit c.held → stored_in (tag_array_of c) ≡ c
unfolding tag_array_of stored_in regrouped listed
array-stored c fit =
    (λ i. stored_in
    (tag_array_of (record { held = record { generator = g; key = sym key i; tag = sym tag i; rem = s.rem; cnt = s.cnt; width = s.width }; count = c.count })))
    ∙ (λ i. record {
      held =
          record {
            generator = (ap (held_from g.start) words ∙ from-placed g fit.cells-full) i;
            key = key i;
            tag = tag i;
            rem = regrouped-back 8 64 2 16 (lit< tt) (lit< tt) refl s.rem fit.rem-full (λ k h. fit.rem k) i;
            cnt = s.cnt;
            width = s.width;
          };
      count = c.count;
    })
  where
    s : Stored
    s = c.held

    g : Held
    g = s.generator

    key : listed (λ k. s.key ⟨ k ⟩) 0 4 ≡ s.key
    key = all_listed s.key 4 fit.key-full

    tag : listed (λ k. s.tag ⟨ k ⟩) 0 2 ≡ s.tag
    tag = all_listed s.tag 2 fit.tag-full

    words : regrouped 64 32 18 (regrouped 32 64 9 (placed g)) ≡ placed g
    words = regrouped-back 32 64 9 18 (lit< tt) (lit< tt) refl (placed g) (placed-length g fit.cells-full) (λ k h. placed-fits s fit k)

-- a part of an array grouped anew and back, in numbers of 64 bits
part-back : (n c d from : ℕ) → 0 < n → c * n ≡ d * 64 → (a : List ℕ) → from + d ≤ length a → ((k : ℕ) → k < length a → a ⟨ k ⟩ < 2 ^ 64)
    → regrouped n 64 d (regrouped 64 n c (take d (drop from a))) ≡ take d (drop from a)
part-back n c d from pos same a h fits =
    regrouped-back 64 n c d (lit< tt) pos same (take d (drop from a)) (length-take-le d (drop from a) (omega (arith, length-drop from a)))
    (λ k l. subst (λ (x : ℕ). x < 2 ^ 64) (sym (get_or-take d (drop from a) k 0 l ∙ get_or-drop from a k 0)) (fits (from + k) (omega arith)))

pub stored-array : (a : List ℕ) → length a ≡ 21 → ((k : ℕ) → k < length a → a ⟨ k ⟩ < 2 ^ 64) → tag_array_of (stored_in a) ≡ a
unfolding tag_array_of stored_in listed held_from
stored-array a e fits =
    (λ i. (ap (regrouped 32 64 9) (placed-from (a ⟨ 9 ⟩) halves (omega (arith, full)) ∙ all_listed halves 18 full)
    ∙ part-back 32 18 9 0 (lit< tt) refl a (omega arith) fits
    ∙ sym (part-listed a 0 9 (omega arith))) i
    ++ (a ⟨ 9 ⟩
    ∷ a ⟨ 10 ⟩
    ∷ sym (part-listed a 11 4 (omega arith)) i
    ++ (sym (part-listed a 15 2 (omega arith)) i
    ++ ((part-back 8 16 2 17 (lit< tt) refl a (omega arith) fits ∙ sym (part-listed a 17 2 (omega arith))) i ++ (a ⟨ 19 ⟩ ∷ a ⟨ 20 ⟩ ∷ [])))))
    ∙ all_listed a 21 e
  where
    halves : List ℕ
    halves = regrouped 64 32 18 (take 9 a)

    full : length halves ≡ 18
    full = regrouped-length 64 32 18 (take 9 a)
