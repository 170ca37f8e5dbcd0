-- Bytes taken into any state with less than a block waiting draw just the words that an update would, and leave so many waiting; by induction on the bytes.
use mathlib.Core.List.{List, [], ◌∷◌}
use mathlib.Core.Logic.{⊎_elim}
use mathlib.Core.Path.{◌≡◌, sym, ap, ap₂, ◌∙◌, subst}
use Prim.Native.Nat.{ℕ, suc, ◌+◌, ◌-◌, ◌*◌, ◌/◌, ◌%◌, ◌<◌}
use native.Mathlib.Nat.{div-eq_of_lt, div_self, eq-zero-or-pos, mod-add-mod, mod-eq_of_lt, mod-lt, mod_self, mul-one, mul-zero}
use native.Mathlib.Omega.{arith}
use lib.ListN.{length, length-append}
use Rattle.standard.specs.Integrity.{words_to_update}
use Rattle.standard.specs.States.{Held, moved}
use Rattle.standard.proofs.Held.{moved-moved, moved_none}
use Rattle.mac_registers.specs.Tagging.{Tagging, absorbed, fed, updated}
use Rattle.mac_registers.proofs.Cutting.{absorbed-fills, absorbed-waits}
use Rattle.mac_counts.proofs.InTurn.{update-in-turn}

-- from a state to another by n bytes
abbrev pub Drew : (w : ℕ) (st st' : Tagging) (n : ℕ) → Type 0
Drew w st st' n =
    (st'.generator ≡ moved (words_to_update (w * 8) (length st.waiting) n) st.generator) × (length st'.waiting ≡ (length st.waiting + n) % w)

-- the words of bytes that complete no block, and of those that complete one
pub none-drawn : (w c n : ℕ) → c + n < w → words_to_update (w * 8) c n ≡ 0
none-drawn w c n h = ap (λ (x : ℕ). w * 8 / 32 * x) (div-eq_of_lt (omega arith)) ∙ mul-zero (w * 8 / 32)

one-drawn : (w c n : ℕ) → 0 < w → c + n ≡ w → words_to_update (w * 8) c n ≡ w * 8 / 32
one-drawn w c n p e = ap (λ (x : ℕ). w * 8 / 32 * (x / (w * 8))) bits ∙ ap (λ (x : ℕ). w * 8 / 32 * x) (div_self (omega arith)) ∙ mul-one (w * 8 / 32)
  where
    bits : 8 * (c + n) ≡ w * 8
    bits = omega arith

module _ {w : ℕ} (pos : 0 < w) where
  drew-none : (st : Tagging) → length st.waiting < w → Drew w st st 0
  drew-none st short =
      let few : length st.waiting + 0 < w = omega arith in (
        sym (ap (λ (n : ℕ). moved n st.generator) (none-drawn w (length st.waiting) 0 few) ∙ moved_none st.generator),
        omega (arith, mod-eq_of_lt few),
      )

  drew-byte : (st : Tagging) → length st.waiting < w → (b : ℕ) → Drew w st (absorbed (w * 8) st b) 1
  unfolding fed
  drew-byte st short b =
      ⊎_elim
      (λ e. rw (absorbed-fills (w * 8) st b (omega arith))
      (let full : length st.waiting + 1 ≡ w = omega arith in (
        sym (ap (λ (n : ℕ). moved n st.generator) (one-drawn w (length st.waiting) 1 pos full)),
        sym (ap (λ (n : ℕ). n % w) full ∙ mod_self w),
      )))
      (λ p. rw (absorbed-waits (w * 8) st b (omega arith))
      (let few : length st.waiting + 1 < w = omega arith in (
        sym (ap (λ (n : ℕ). moved n st.generator) (none-drawn w (length st.waiting) 1 few) ∙ moved_none st.generator),
        length-append st.waiting (b ∷ []) ∙ sym (mod-eq_of_lt few),
      )))
      (eq-zero-or-pos (w * 8 - suc (length st.waiting) * 8))

  drew-then : (st mid end : Tagging) (a b : ℕ) → Drew w st mid a → Drew w mid end b → Drew w st end (a + b)
  drew-then st mid end a b p q =
      let c : ℕ = length st.waiting in (
        q.0
            ∙ ap₂ (λ (n : ℕ) (h : Held). moved (words_to_update (w * 8) n b) h) p.1 p.0
            ∙ moved-moved (words_to_update (w * 8) c a) (words_to_update (w * 8) ((c + a) % w) b) st.generator
            ∙ ap (λ (n : ℕ). moved n st.generator) (update-in-turn w c a pos b),
        q.1 ∙ ap (λ (n : ℕ). (n + b) % w) p.1 ∙ mod-add-mod (c + a) w b ∙ ap (λ (n : ℕ). n % w) (omega arith),
      )

  pub drew-updated : (m : List ℕ) (st : Tagging) → length st.waiting < w → Drew w st (updated (w * 8) st m) (length m)
  unfolding updated
  drew-updated [] st short = drew-none st short
  drew-updated (b ∷ m) st short =
      let first = drew-byte st short b in
      let next : Tagging = absorbed (w * 8) st b in
      let few : length next.waiting < w = subst (λ (n : ℕ). n < w) (sym first.1) (mod-lt (length st.waiting + 1) pos) in
      let all = drew-then st next (updated (w * 8) next m) 1 (length m) first (drew-updated m next few) in
      let n : 1 + length m ≡ suc (length m) = omega arith in
      rw n at all
