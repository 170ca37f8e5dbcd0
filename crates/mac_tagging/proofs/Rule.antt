-- The rule, once over the width t: a start, updates and a closing give the standard's tag of the joined message, and draw the
-- words that document 01 counts. From the closed form of the state.
use mathlib.Core.Path.{◌≡◌, refl, sym, ap, ap₂, ◌∙◌}
use mathlib.Core.List.{List, [], ◌++◌, append_assoc}
use mathlib.Core.Logic.{⊎_elim}
use mathlib.Core.Bool.{Bool}
use Prim.Native.Nat.{ℕ, ◌+◌, ◌*◌, ◌/◌, ◌%◌, ◌^◌, ◌<◌, ◌≤◌, ◌-◌}
use native.Mathlib.Omega.{arith}
use native.Mathlib.Nat.{add-zero, eq-zero-or-pos, mul-add, mul_assoc, mul_comm, zero-add}
use lib.ListN.{drop, length, length-append, length-drop, take, take-append-drop}
use lib.Seq.{length-take-le}
use lib.Bits.{bit_xor, xor_zero_r}
use lib.Pow.{low}
use borrow.Author.Tests.{eq-eqb, ne_eqb}
use Rattle.standard.proofs.Held.{moved_more, word_moved}
use Rattle.standard.specs.States.{Held, moved}
use Rattle.std.specs.Prelude.{if◌then◌else◌}
use Rattle.standard.specs.Notation.{◌⊕◌, ceil}
use Rattle.standard.specs.Bits.{M, window, z}
use Rattle.standard.specs.Generator.{word, word_at}
use Rattle.standard.specs.Integrity.{T, drawn_after-EIA3, drawn_after-ZUC256, drawn_by_tag-EIA3, drawn_by_tag-ZUC256, tag-EIA3, tag-ZUC256}
use Rattle.standard.proofs.Extra.{extra-word, window-word}
use Rattle.standard.proofs.Generator.{word_at-lt}
use Rattle.standard.proofs.Window.{window-lt, window-split}
use Rattle.mac_registers.specs.Tagging.{Tagging, begun-EIA3, begun-ZUC256, closed-EIA3, closed-ZUC256, ended, extra_word, last_tag, left_over, updated}
use Rattle.mac_registers.specs.Inner.{extra_state}
use Rattle.mac_registers.proofs.Message.{z-lt}
use Rattle.mac_registers.proofs.Cutting.{updated-append}
use Rattle.mac_tagging.proofs.Followed.{Followed, Follows, blocks-are, followed-all, followed-tag}

-- what both rules share: o and first as the start has them
module _ (t : ℕ) (whole : t % 32 ≡ 0) (o : ℕ) (σ : Held) (first : ℕ) (start : Tagging) (w₀ : ℕ) (at-start : Followed t o σ first [] start 0 0 w₀) where
  pub after-updates : (m : List ℕ) → Follows t whole o σ first m (updated t start m)
  after-updates m = followed-all t whole o σ first m [] start 0 0 w₀ at-start

  module _ (m tail : List ℕ) (l : ℕ) (fits : l ≤ length tail * 8) where
    -- the bytes that have been taken in before the bits left over
    taken-in : List ℕ
    taken-in = m ++ take (l / 8) tail

    taken-bits : length taken-in * 8 + l % 8 ≡ length m * 8 + l
    unfolding taken-in
    taken-bits = omega (arith, length-append m (take (l / 8) tail), length-take-le (l / 8) tail (omega arith))

    ended_is : ended t (updated t start m) tail l ≡ updated t start taken-in
    unfolding ended taken-in
    ended_is = sym (updated-append t start m (take (l / 8) tail))

    at-end : Follows t whole o σ first taken-in (updated t start taken-in)
    at-end = after-updates taken-in

    pub closed_is : closed-ZUC256 t (updated t start m) tail l
        ≡ first ⊕ T t (z (word_at σ.meaning)) o (M (m ++ tail)) (length m * 8 + l) ⊕ window (z (word_at σ.meaning)) (o + (length m * 8 + l)) t
    unfolding closed-ZUC256 last_tag left_over taken-in
    closed_is =
        ap (λ (x : Tagging). last_tag t x (drop (l / 8) tail) (left_over x l)) ended_is
        ∙ followed-tag t whole o σ first taken-in st at-end.0 at-end.1 at-end.2 f (drop (l / 8) tail) (length st.waiting * 8 + l % 8)
        (omega (arith, waiting, f.short, f.within, f.taken_is))
        ∙ ap₂ (λ (x : List ℕ) (y : ℕ). first ⊕ T t (z (word_at σ.meaning)) o (M x) y ⊕ window (z (word_at σ.meaning)) (o + y) t)
        (append_assoc m (take (l / 8) tail) (drop (l / 8) tail) ∙ ap (λ (x : List ℕ). m ++ x) (take-append-drop (l / 8) tail))
        (omega (arith, waiting, f.within, taken-bits))
      where
        st : Tagging
        st = updated t start taken-in

        f : Followed t o σ first taken-in st at-end.0 at-end.1 at-end.2
        f = at-end.3

        waiting : length st.waiting ≡ length taken-in - at-end.1
        waiting = ap length f.waiting-is ∙ length-drop at-end.1 taken-in

begun-ZUC256-followed : (t : ℕ) → t % 32 ≡ 0 → 0 < t → (σ : Held)
    → Followed t t σ (window (z (word_at σ.meaning)) 0 t) [] (begun-ZUC256 t σ) 0 0 (3 * (t / 32))
unfolding begun-ZUC256 T
begun-ZUC256-followed t whole pos σ =
    record {
      generator-is = refl;
      key-is = ap (λ (x : ℕ). window (z (word_at σ.meaning)) x (t + t)) (sym (add-zero t));
      tag_is = sym (xor_zero_r (window (z (word_at σ.meaning)) 0 t));
      waiting-is = refl;
      taken_is = omega arith;
      drawn-is = omega arith;
      within = omega arith;
      short = omega arith;
    }

begun-EIA3-followed : (σ : Held) → Followed 32 0 σ 0 [] (begun-EIA3 σ) 0 0 2
unfolding begun-EIA3 T
begun-EIA3-followed σ =
    record {
      generator-is = refl;
      key-is = refl;
      tag_is = refl;
      waiting-is = refl;
      taken_is = omega arith;
      drawn-is = omega arith;
      within = omega arith;
      short = omega arith;
    }

-- t/32 words for each t bits: three times at the start, and once for each block
words-drawn : (t w k : ℕ) → t % 32 ≡ 0 → w * 32 ≡ t + k * t + t + t → w ≡ t / 32 * (3 + k)
words-drawn t w k whole e = omega (arith, e, split, whole-t)
  where
    u : ℕ
    u = t / 32

    whole-t : k * t ≡ u * k * 32
    whole-t =
        ap (λ (x : ℕ). k * x) t-is
        ∙ sym (mul_assoc k u 32)
        ∙ ap (λ (x : ℕ). x * 32) (mul_comm k u)
      where
        t-is : t ≡ u * 32
        t-is = omega arith

    split : u * (3 + k) ≡ u * 3 + u * k
    split = mul-add u 3 k

module _ (t : ℕ) (whole : t % 32 ≡ 0) (pos : 0 < t) (σ : Held) where
  abbrev first : ℕ
  first = window (z (word_at σ.meaning)) 0 t

  followed : (m : List ℕ) → Follows t whole t σ first m (updated t (begun-ZUC256 t σ) m)
  followed = after-updates t whole t σ first (begun-ZUC256 t σ) (3 * (t / 32)) (begun-ZUC256-followed t whole pos σ)

  drawn-at : (m : List ℕ) (L : ℕ) → length m * 8 ≤ L → L < length m * 8 + 8
      → (updated t (begun-ZUC256 t σ) m).generator ≡ moved (t / 32 * (3 + L / t)) σ
  drawn-at m L le lt =
      (followed m).3.generator-is
      ∙ ap (λ (n : ℕ). moved n σ)
      (words-drawn t (followed m).2 (followed m).0 whole (omega (arith, (followed m).3.drawn-is, (followed m).3.taken_is))
      ∙ ap (λ (n : ℕ). t / 32 * (3 + n)) (sym (blocks-are whole (followed m).3 L le lt)))

  -- the words drawn by a start and updates of m
  pub drawn-ZUC256 : (m : List ℕ) → (updated t (begun-ZUC256 t σ) m).generator ≡ moved (drawn_after-ZUC256 t (length m)) σ
  drawn-ZUC256 m = drawn-at m (8 * length m) (omega arith) (omega arith)

  module _ (m tail : List ℕ) (l : ℕ) (fits : l ≤ length tail * 8) where
    -- THE RULE, at every width: a start, updates of m in any cutting, and a closing by l bits of a tail
    pub rule-ZUC256 : closed-ZUC256 t (updated t (begun-ZUC256 t σ) m) tail l ≡ tag-ZUC256 t (word_at σ.meaning) (m ++ tail) (length m * 8 + l)
    unfolding tag-ZUC256
    rule-ZUC256 = closed_is t whole t σ first (begun-ZUC256 t σ) (3 * (t / 32)) (begun-ZUC256-followed t whole pos σ) m tail l fits

    -- and the words drawn when it is closed: no word more than the updates of its whole bytes
    pub drawn-closing-ZUC256 : (ended t (updated t (begun-ZUC256 t σ) m) tail l).generator ≡ moved (drawn_by_tag-ZUC256 t (length m * 8 + l)) σ
    unfolding ended
    drawn-closing-ZUC256 =
        ap (λ (x : Tagging). x.generator) (sym (updated-append t (begun-ZUC256 t σ) m (take (l / 8) tail)))
        ∙ drawn-at (m ++ take (l / 8) tail) (length m * 8 + l) (omega (arith, bytes)) (omega (arith, bytes))
      where
        bytes : length (m ++ take (l / 8) tail) ≡ length m + l / 8
        bytes = length-append m (take (l / 8) tail) ∙ ap (λ (n : ℕ). length m + n) (length-take-le (l / 8) tail (omega arith))

module _ (σ : Held) where
  followed-EIA3 : (m : List ℕ) → Follows 32 refl 0 σ 0 m (updated 32 (begun-EIA3 σ) m)
  followed-EIA3 = after-updates 32 refl 0 σ 0 (begun-EIA3 σ) 2 (begun-EIA3-followed σ)

  pub drawn-EIA3 : (m : List ℕ) → (updated 32 (begun-EIA3 σ) m).generator ≡ moved (drawn_after-EIA3 (length m)) σ
  drawn-EIA3 m =
      (followed-EIA3 m).3.generator-is
      ∙ ap (λ (n : ℕ). moved n σ)
      (omega (arith, (followed-EIA3 m).3.drawn-is, (followed-EIA3 m).3.taken_is, (followed-EIA3 m).3.within, (followed-EIA3 m).3.short))

  -- with n bits left over, the extra word is word number ceil(L/32) + 1, and the last one drawn
  module _ (m : List ℕ) (r : ℕ) (short : r < 8) where
    abbrev st : Tagging
    st = updated 32 (begun-EIA3 σ) m

    abbrev left : ℕ
    left = length st.waiting * 8 + r

    abbrev L : ℕ
    L = length m * 8 + r

    waiting : length st.waiting ≡ length m - (followed-EIA3 m).1
    waiting = ap length (followed-EIA3 m).3.waiting-is ∙ length-drop (followed-EIA3 m).1 m

    extra_word-is : extra_word st left ≡ word_at σ.meaning (ceil L 32 + 1)
    unfolding extra_word
    extra_word-is =
        ⊎_elim
        (λ e. ap (λ (x : Bool). if x then st.key % 2 ^ 32 else word st.generator.meaning) (eq-eqb left 0 e)
        ∙ ap (λ (x : ℕ). x % 2 ^ 32) (f.key-is ∙ window-split S (0 + c * 8) 32 32)
        ∙ low (window S (0 + c * 8) 32) 32 (window-lt S (z-lt (word_at σ.meaning)) (0 + c * 8 + 32) 32)
        ∙ ap (λ (x : ℕ). window S x 32) (at e)
        ∙ window-word (word_at σ.meaning) (ceil L 32 + 1) (word_at-lt σ.meaning (ceil L 32 + 1)))
        (λ p. ap (λ (x : Bool). if x then st.key % 2 ^ 32 else word st.generator.meaning) (ne_eqb left 0 (λ e. omega arith))
        ∙ ap (λ (k : Held). word k.meaning) f.generator-is ∙ word_moved w σ ∙ ap (word_at σ.meaning) (drawn p))
        (eq-zero-or-pos left)
      where
        f : Followed 32 0 σ 0 m st (followed-EIA3 m).0 (followed-EIA3 m).1 (followed-EIA3 m).2
        f = (followed-EIA3 m).3

        c : ℕ
        c = (followed-EIA3 m).1

        w : ℕ
        w = (followed-EIA3 m).2

        S : ℕ → ℕ
        S = z (word_at σ.meaning)

        at : left ≡ 0 → 0 + c * 8 + 32 ≡ (ceil L 32 + 1) * 32
        at e =
            let whole : L ≡ (followed-EIA3 m).0 * 32 = omega (arith, waiting, f.within, f.taken_is) in
            let up : ceil L 32 ≡ (followed-EIA3 m).0 = rw whole (omega arith) in
            rw up (omega (arith, f.taken_is))

        drawn : 0 < left → w ≡ ceil L 32 + 1
        drawn p = omega (arith, waiting, f.within, f.taken_is, f.drawn-is, f.short)

    extra_state-is : extra_state st left ≡ moved (drawn_by_tag-EIA3 L) σ
    unfolding extra_state
    extra_state-is =
        ⊎_elim
        (λ e. ap (λ (x : Bool). if x then st.generator else moved 1 st.generator) (eq-eqb left 0 e)
        ∙ f.generator-is ∙ ap (λ (n : ℕ). moved n σ) (omega (arith, waiting, f.within, f.taken_is, f.drawn-is)))
        (λ p. ap (λ (x : Bool). if x then st.generator else moved 1 st.generator) (ne_eqb left 0 (λ e. omega arith))
        ∙ ap (moved 1) f.generator-is ∙ sym (moved_more (followed-EIA3 m).2 σ)
        ∙ ap (λ (n : ℕ). moved n σ) (omega (arith, waiting, f.within, f.taken_is, f.drawn-is, f.short)))
        (eq-zero-or-pos left)
      where
        f : Followed 32 0 σ 0 m st (followed-EIA3 m).0 (followed-EIA3 m).1 (followed-EIA3 m).2
        f = (followed-EIA3 m).3

  module _ (m tail : List ℕ) (l : ℕ) (fits : l ≤ length tail * 8) where
    abbrev end : Tagging
    end = ended 32 (updated 32 (begun-EIA3 σ) m) tail l

    end_is : end ≡ updated 32 (begun-EIA3 σ) (m ++ take (l / 8) tail)
    unfolding ended
    end_is = sym (updated-append 32 (begun-EIA3 σ) m (take (l / 8) tail))

    bits : length (m ++ take (l / 8) tail) * 8 + l % 8 ≡ length m * 8 + l
    bits = omega (arith, length-append m (take (l / 8) tail), length-take-le (l / 8) tail (omega arith))

    -- THE RULE of ZUC-128 and EIA3
    pub rule-EIA3 : closed-EIA3 (updated 32 (begun-EIA3 σ) m) tail l ≡ tag-EIA3 (word_at σ.meaning) (m ++ tail) (length m * 8 + l)
    unfolding closed-EIA3 left_over tag-EIA3
    rule-EIA3 =
        ap₂ bit_xor
        (closed_is 32 refl 0 σ 0 (begun-EIA3 σ) 2 (begun-EIA3-followed σ) m tail l fits
        ∙ ap (λ (x : ℕ). T 32 (z (word_at σ.meaning)) 0 (M (m ++ tail)) (length m * 8 + l) ⊕ window (z (word_at σ.meaning)) x 32) (zero-add (length m * 8 + l)))
        (ap (λ (x : Tagging). extra_word x (length x.waiting * 8 + l % 8)) end_is
        ∙ extra_word-is (m ++ take (l / 8) tail) (l % 8) (omega arith)
        ∙ ap (λ (x : ℕ). word_at σ.meaning (ceil x 32 + 1)) bits
        ∙ sym (extra-word (word_at σ.meaning) (word_at-lt σ.meaning) (length m * 8 + l)))

    pub drawn-closing-EIA3 : extra_state end (left_over end l) ≡ moved (drawn_by_tag-EIA3 (length m * 8 + l)) σ
    unfolding left_over
    drawn-closing-EIA3 =
        ap (λ (x : Tagging). extra_state x (length x.waiting * 8 + l % 8)) end_is
        ∙ extra_state-is (m ++ take (l / 8) tail) (l % 8) (omega arith)
        ∙ ap (λ (x : ℕ). moved (ceil x 32 + 2) σ) bits
