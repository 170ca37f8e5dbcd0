-- Laws of clearing: bytes zeroed from a place on, and the high bits of the byte before, are what clean mode keeps.
use mathlib.Core.Logic.{⊎_elim}
use mathlib.Core.List.{List, ◌++◌}
use mathlib.Core.Path.{◌≡◌, refl, sym, ap, ap₂, ◌∙◌, subst}
use Prim.Native.Nat.{ℕ, ◌+◌, ◌*◌, ◌/◌, ◌%◌, ◌^◌, ◌<◌, ◌≤◌}
use native.Mathlib.Omega.{arith}
use lib.Bits.{xor_lt}
use lib.ListN.{length, get_or, set, take, drop, length-drop, take-append-drop}
use lib.Seq.{get_or-drop, length-take-le}
use borrow.Author.Tests.{lt-ltb, le-ltb}
use Rattle.standard.specs.Bits.{byte_of}
use Rattle.standard.specs.Confidentiality.{keep_high, kept_by_clean, mask_clean, masked, masked_buffer}
use Rattle.standard.specs.Notation.{◌⊕◌, each_from}
use Rattle.standard.proofs.Each.{each_append, each-each, each-ext, each_set, is-each, length-each, place}
use Rattle.standard.proofs.Kept.{keep_all, keep-none, clean-before, clean_at, clean_after}
use Rattle.zuc_loading.proofs.Loaded.{byte-lt}
use Rattle.mask.specs.Inner.{zeroed, cleared}

pub zeroed-before : (from j byte : ℕ) → j < from → zeroed from j byte ≡ byte
zeroed-before from j byte h = rw (lt-ltb j from h) refl

pub zeroed-past : (from j byte : ℕ) → from ≤ j → 0 ≡ zeroed from j byte
zeroed-past from j byte h = rw (le-ltb j from h) refl

cleared-before : (q k j byte : ℕ) → j < q → byte ≡ cleared (q * 8 + k) j byte
cleared-before q k j byte h = rw (clean-before q k j h) (sym (keep_all byte))

cleared-past : (q k j byte : ℕ) → k ≤ 8 → q < j → byte < 2 ^ 8 → 0 ≡ cleared (q * 8 + k) j byte
cleared-past q k j byte b h low = rw (clean_after q k j b h) (sym (keep-none byte low))

-- where the buffer ends before byte q there is nothing to clear
pub clear_none : (buf : List ℕ) (q k : ℕ) → length buf ≤ q → buf ≡ each_from (cleared (q * 8 + k)) 0 buf
clear_none buf q k h = is-each (cleared (q * 8 + k)) 0 buf buf refl (λ i l. cleared-before q k (0 + i) (get_or buf i 0) (omega arith))

pub clear-from : (buf : List ℕ) (q k v : ℕ) → ((i : ℕ) → get_or buf i 0 < 2 ^ 8) → k ≤ 8 → q < length buf → v ≡ keep_high k (get_or buf q 0)
    → set (each_from (zeroed (q + 1)) 0 buf) q v ≡ each_from (cleared (q * 8 + k)) 0 buf
clear-from buf q k v bytes b h e =
    each_set (cleared (q * 8 + k)) (zeroed (q + 1)) buf q v h (e ∙ ap (λ (x : ℕ). keep_high x (get_or buf q 0)) (sym (clean_at q k b)))
    (λ i n. ⊎_elim (λ l. zeroed-before (q + 1) i (get_or buf i 0) (omega arith) ∙ cleared-before q k i (get_or buf i 0) l)
    (λ w. ⊎_elim (λ d. absurd (n d))
    (λ l. sym (zeroed-past (q + 1) i (get_or buf i 0) (omega arith)) ∙ cleared-past q k i (get_or buf i 0) b l (bytes i)) w)
    (place i q))

-- a byte past the kept bits, masked or not
past : (words : ℕ → ℕ) (end j byte : ℕ) → end ≤ j * 8 → byte < 2 ^ 8 → cleared end j byte ≡ cleared end j (masked words j byte)
unfolding kept_by_clean masked
past words end j byte h low =
    let none : kept_by_clean end j ≡ 0 = omega arith in
    let k = byte_of (words (j / 4)) (j % 4) in
    rw none (keep-none byte low ∙ sym (keep-none (byte ⊕ k) (xor_lt 8 byte k low (byte-lt (words (j / 4)) (j % 4)))))

-- masked up to a place that the kept bits do not pass, and cleared past these: as if all of it were masked
pub clear-masked : (words : ℕ → ℕ) (buf part : List ℕ) (to end : ℕ) → ((i : ℕ) → get_or buf i 0 < 2 ^ 8) → to ≤ length buf → (to < length buf → end ≤ to * 8)
    → part ≡ each_from (masked words) 0 (take to buf) → each_from (cleared end) 0 (part ++ drop to buf) ≡ mask_clean words end buf
unfolding masked_buffer
clear-masked words buf part to end bytes inside reached e =
    ap (λ (p : List ℕ). each_from (cleared end) 0 (p ++ rest)) e
    ∙ each_append (cleared end) 0 (each_from (masked words) 0 front) rest
    ∙ ap₂ ◌++◌ (each-each (cleared end) (masked words) 0 front)
    (ap (λ (k : ℕ). each_from (cleared end) (0 + k) rest) (length-each (masked words) 0 front)
    ∙ each-ext (cleared end) both (0 + length front) (0 + length front) rest
    (λ i h. past words end (0 + length front + i) (get_or rest i 0) (omega (arith, reached (omega (arith, length-drop to buf)), at)) (subst (λ (x : ℕ). x < 2 ^ 8) (sym (get_or-drop to buf i 0)) (bytes (to + i)))))
    ∙ sym (each_append both 0 front rest)
    ∙ ap (each_from both 0) (take-append-drop to buf)
  where
    front : List ℕ
    front = take to buf

    rest : List ℕ
    rest = drop to buf

    both : ℕ → ℕ → ℕ
    both j byte = cleared end j (masked words j byte)

    at : length front ≡ to
    at = length-take-le to buf inside
