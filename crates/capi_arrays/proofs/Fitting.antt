-- A tag in the making, begun and then fed bytes, comes back from its array as it was; by the generator's steps and induction on the bytes.
use lib.Dec.{lit<, ltb}
use lib.ListN.{length, length-append, length-replicate, get_or-eq_default, replicate}
use mathlib.Core.Bool.{Bool, true, false}
use mathlib.Core.List.{List, [], ◌∷◌, ◌++◌}
use mathlib.Core.Logic.{⊎_elim}
use mathlib.Core.Path.{◌≡◌, refl, sym, subst}
use native.Mathlib.Nat.{eq-zero-or-pos}
use native.Mathlib.Omega.{arith}
use Prim.Native.Nat.{ℕ, zero, suc, ◌-◌, ◌*◌, ◌/◌, ◌%◌, ◌^◌, ◌<◌}
use Rattle.capi_arrays.proofs.Packing.{Fit, append-fits, array-stored}
use Rattle.capi_arrays.specs.Arrays.{stored_in, tag_array_of}
use Rattle.mac_registers.proofs.Packed.{width-most}
use Rattle.mac_registers.specs.Inner.{Good, Width}
use Rattle.mac_registers.specs.Stored.{key_words, packed, tag_words}
use Rattle.mac_registers.specs.Tagging.{Tagging, absorbed, begun-EIA3, begun-ZUC256, fed, updated}
use Rattle.standard.proofs.Cells.{Cells}
use Rattle.standard.proofs.Permutation.{S₀-permutation, S₁-permutation}
use Rattle.standard.specs.Generator.{F, S, State, initialised, next, started, work_step}
use Rattle.std.specs.Prelude.{if◌then◌else◌}
use Rattle.standard.specs.Notation.{◌⟨◌⟩}
use Rattle.standard.specs.States.{Counted, Held, Stored, from_zero, moved}

-- registers of 32 bits: those of every state at rest
abbrev Registers : State → Type 0
Registers σ = (σ.R₁ < 2 ^ 32) × (σ.R₂ < 2 ^ 32)

S-lt : (X : ℕ) → S X < 2 ^ 32
unfolding S
S-lt X =
    omega (
      arith,
      S₀-permutation.below (X / 2 ^ 24 % 2 ^ 8) (omega arith),
      S₁-permutation.below (X / 2 ^ 16 % 2 ^ 8) (omega arith),
      S₀-permutation.below (X / 2 ^ 8 % 2 ^ 8) (omega arith),
      S₁-permutation.below (X % 2 ^ 8) (omega arith),
    )

registers-F : (σ : State) → Registers (F σ)
unfolding F
registers-F σ = (S-lt _, S-lt _)

registers-started : (loaded : State) → Registers (started loaded)
unfolding started
registers-started loaded = registers-F (initialised 32 loaded)

registers-moved : (n : ℕ) (h : Held) → Registers h.meaning → Registers (moved n h).meaning
unfolding moved next
registers-moved zero h r = r
registers-moved (suc n) h r = registers-F (work_step (moved n h).meaning)

-- what an array has room for
pub record Small (st : Tagging) : Type 0 where
  pub registers : Registers st.generator.meaning
  pub waiting : (k : ℕ) → st.waiting ⟨ k ⟩ < 2 ^ 8

pub small-EIA3 : (loaded : State) → Small (begun-EIA3 (from_zero (started loaded)))
unfolding begun-EIA3
small-EIA3 loaded = record { registers = registers-moved 2 (from_zero (started loaded)) (registers-started loaded); waiting = λ k. lit< tt }

pub small-ZUC256 : (t : ℕ) (loaded : State) → Small (begun-ZUC256 t (from_zero (started loaded)))
unfolding begun-ZUC256
small-ZUC256 t loaded =
    record { registers = registers-moved (3 * (t / 32)) (from_zero (started loaded)) (registers-started loaded); waiting = λ k. lit< tt }

one_byte : (b : ℕ) → b < 2 ^ 8 → (k : ℕ) → (b ∷ []) ⟨ k ⟩ < 2 ^ 8
one_byte b h zero = h
one_byte b h (suc k) = lit< tt

small-absorbed : (t : ℕ) {st : Tagging} (b : ℕ) → b < 2 ^ 8 → Small st → Small (absorbed t st b)
unfolding absorbed fed
small-absorbed t {st} b h s = by (ltb (suc (length st.waiting) * 8) t)
  where
    longer : Tagging
    longer = record { generator = st.generator; key = st.key; tag = st.tag; waiting = st.waiting ++ (b ∷ []) }

    by : (waits : Bool) → Small (if waits then longer else fed t st (st.waiting ++ (b ∷ [])))
    by true = record { registers = s.registers; waiting = append-fits (λ (x : ℕ). x < 2 ^ 8) st.waiting (b ∷ []) s.waiting (one_byte b h) }
    by false = record { registers = registers-moved (t / 32) st.generator s.registers; waiting = λ k. lit< tt }

pub small-updated : (t : ℕ) (m : List ℕ) → ((k : ℕ) → m ⟨ k ⟩ < 2 ^ 8) → {st : Tagging} → Small st → Small (updated t st m)
unfolding updated
small-updated t [] h s = s
small-updated t (b ∷ m) h s = small-updated t m (λ k. h (suc k)) (small-absorbed t b (h 0) s)

-- packed, it fits
cells_fit : {s : List ℕ} → Cells s → (k : ℕ) → s ⟨ k ⟩ < 2 ^ 32
cells_fit {s} c k =
    ⊎_elim
    (λ (e : 16 - k ≡ 0). subst (λ (x : ℕ). x < 2 ^ 32) (sym (get_or-eq_default s 0 (omega (arith, c.full, e)))) (lit< tt))
    (λ (p : 0 < 16 - k). omega (arith, c.high k (omega arith)))
    (eq-zero-or-pos (16 - k))

zeros-fit : (n k : ℕ) → replicate n 0 ⟨ k ⟩ < 2 ^ 8
zeros-fit zero k = lit< tt
zeros-fit (suc n) zero = lit< tt
zeros-fit (suc n) (suc k) = zeros-fit n k

four-keys : {w : ℕ} → Width w → (k : ℕ) → length (key_words w k) ≡ 4
unfolding key_words
four-keys v k = ⊎_elim (λ e. rw e refl) (λ o. ⊎_elim (λ e. rw e refl) (λ e. rw e refl) o) v

two-tags : {w : ℕ} → Width w → (t : ℕ) → length (tag_words w t) ≡ 2
unfolding tag_words
two-tags v t = ⊎_elim (λ e. rw e refl) (λ o. ⊎_elim (λ e. rw e refl) (λ e. rw e refl) o) v

packed-fits : {w : ℕ} {st : Tagging} → Good w st → Small st → Fit (packed w st)
unfolding packed
packed-fits {w} {st} g s =
    let n = length st.waiting in
    record {
      cells-full = g.sound.cells.full;
      cells = cells_fit g.sound.cells;
      R₁ = s.registers.0;
      R₂ = s.registers.1;
      key-full = four-keys g.a-width st.key;
      tag-full = two-tags g.a-width st.tag;
      rem-full = omega (arith, length-append st.waiting (replicate (16 - n) 0), length-replicate {A = ℕ} (16 - n) 0, g.short, width-most g.a-width);
      rem = append-fits (λ (x : ℕ). x < 2 ^ 8) st.waiting (replicate (16 - n) 0) s.waiting (zeros-fit (16 - n));
    }

pub packed-array : {w : ℕ} {st : Tagging} → Good w st → Small st → {c : Counted Stored} → c.held ≡ packed w st → stored_in (tag_array_of c) ≡ c
packed-array g h {c} e = array-stored c (subst Fit (sym e) (packed-fits g h))
