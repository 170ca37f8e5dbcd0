-- NO TWO STARTS ALIKE, request 2026-11: states that stand behind accepted starts, with as many words drawn and equal in meaning, stand behind
-- starts that were given the same; and what that says of ZUC-128, ZUC-256, EEA3 and EIA3. By the law of the definitions at the states' count.
use mathlib.Core.List.{List}
use mathlib.Core.Logic.{⊎_elim}
use mathlib.Core.Path.{◌≡◌, refl, sym, ap, ◌∙◌, subst}
use Prim.Native.Nat.{ℕ, ◌%◌, ◌^◌, ◌<◌}
use native.Mathlib.Omega.{arith}
use lib.Dec.{eqb, lit<}
use lib.ListN.{length}
use Rattle.standard.specs.Generator.{State, after, started}
use Rattle.standard.specs.Loading.{d-keystream, d-tag₁₂₈, d-tag₃₂, d-tag₆₄, row_of}
use Rattle.std.specs.Prelude.{if◌then◌else◌}
use Rattle.standard.specs.Notation.{◌⟨◌⟩}
use Rattle.standard.specs.States.{Counted, Held, from_zero, moved, zeros}
use Rattle.standard.proofs.Held.{moved-meaning}
use Rattle.zuc_apart.specs.Given.{Given, load_of, of_EEA3, of_EIA3, zuc128, zuc256}
use Rattle.zuc_apart.proofs.Apart.{ranged, states-apart}
use Rattle.zuc_apart.proofs.Vectors.{EEA3-keeps, EIA3-keeps, shared, shared-only}
use Rattle.mac_registers.specs.Inner.{Width}
use Rattle.starts.specs.Stands.{Meet, Stands}
use Rattle.starts.proofs.Standing.{stands_at, stands-proper}

-- the state that is meant
meant : {a : Given} {g : Counted Held} → Stands a g → g.held.meaning ≡ after g.count (started (load_of a))
meant {a} {g} s = ap (λ (h : Held). h.meaning) (stands_at s) ∙ moved-meaning g.count (from_zero (started (load_of a)))

pub no-two-alike : {a b : Given} {g k : Counted Held} → Stands a g → Stands b k → Meet g k → a ≡ b
no-two-alike {a} {b} {g} s t m =
    states-apart a b (stands-proper s) (stands-proper t) g.count
    (sym (meant s) ∙ m.meaning ∙ meant t ∙ ap (λ (n : ℕ). after n (started (load_of b))) (sym m.count))

-- and the other way: what was given and how many words were drawn say which state it is, with its start index
pub one_state : {a : Given} {g k : Counted Held} → Stands a g → Stands a k → g.count ≡ k.count → g ≡ k
one_state {a} s t e =
    λ i. record { held = (stands_at s ∙ ap (λ (n : ℕ). moved n (from_zero (started (load_of a)))) e ∙ sym (stands_at t)) i; count = e i }

-- it has sixteen cells
pub full : {a : Given} {g : Counted Held} → Stands a g → length g.held.meaning.cells ≡ 16
full {a} {g} s = ap (λ (σ : State). length σ.cells) (meant s) ∙ (ranged a (stands-proper s) g.count).sound.full

-- the zeros that a refused start hands back, and a closed tag, stand behind no start
pub zeros-nowhere : {a : Given} {g : Counted Held} → Stands a g → g.held.meaning ≡ zeros.meaning → ⊥
unfolding zeros
zeros-nowhere {a} {g} s e =
    let low : 0 < (after g.count (started (load_of a))).cells ⟨ 0 ⟩ = (ranged a (stands-proper s) g.count).sound.low 0 (lit< tt) in
    let none : (after g.count (started (load_of a))).cells ⟨ 0 ⟩ ≡ 0 = ap (λ (σ : State). σ.cells ⟨ 0 ⟩) (sym (meant s) ∙ e) in
    omega (arith, low, none)

-- what a start was given, by its parts
abbrev row_in : Given → List ℕ
row_in (zuc128 key iv) = key
row_in (zuc256 d key iv) = d

abbrev key_in : Given → List ℕ
key_in (zuc128 key iv) = key
key_in (zuc256 d key iv) = key

abbrev iv_in : Given → List ℕ
iv_in (zuc128 key iv) = iv
iv_in (zuc256 d key iv) = iv

abbrev Is128 : Given → Type 0
Is128 (zuc128 key iv) = Unit {0}
Is128 (zuc256 d key iv) = ⊥

module _ {g k : Counted Held} {key key' : List ℕ} where
  -- ZUC-128, by any of its calls: key and IV are the same
  pub zuc128-apart : {iv iv' : List ℕ} → Stands (zuc128 key iv) g → Stands (zuc128 key' iv') k → Meet g k → (key ≡ key') × (iv ≡ iv')
  zuc128-apart s t m = let e = no-two-alike s t m in (ap key_in e, ap iv_in e)

  -- ZUC-256: so are they, and the row of constants
  pub zuc256-apart : {d d' iv iv' : List ℕ} → Stands (zuc256 d key iv) g → Stands (zuc256 d' key' iv') k → Meet g k → (d ≡ d') × (key ≡ key') × (iv ≡ iv')
  zuc256-apart s t m = let e = no-two-alike s t m in (ap row_in e, ap key_in e, ap iv_in e)

  -- one of either never
  pub kinds-apart : {d iv iv' : List ℕ} → Stands (zuc128 key iv) g → Stands (zuc256 d key' iv') k → Meet g k → ⊥
  kinds-apart s t m = subst Is128 (no-two-alike s t m) tt

  -- EEA3 and EIA3: key, COUNT, the bearer's low 5 bits and the direction's low bit are the same
  module _ (c c' b b' d d' : ℕ) (p : c < 2 ^ 32) (p' : c' < 2 ^ 32) where
    pub eea3-apart : Stands (of_EEA3 c b d key) g → Stands (of_EEA3 c' b' d' key') k → Meet g k
        → (key ≡ key') × ((c ≡ c') × (b % 2 ^ 5 ≡ b' % 2 ^ 5) × (d % 2 ≡ d' % 2))
    eea3-apart s t m = let e = zuc128-apart s t m in (e.0, EEA3-keeps c c' b b' d d' p p' e.1)

    pub eia3-apart : Stands (of_EIA3 c b d key) g → Stands (of_EIA3 c' b' d' key') k → Meet g k
        → (key ≡ key') × ((c ≡ c') × (b % 2 ^ 5 ≡ b' % 2 ^ 5) × (d % 2 ≡ d' % 2))
    eia3-apart s t m = let e = zuc128-apart s t m in (e.0, EIA3-keeps c c' b b' d d' p p' e.1)

    -- one of each, under one key, with one COUNT and bearer: only where both directions are 0
    pub eea3-eia3-only : Stands (of_EEA3 c b d key) g → Stands (of_EIA3 c' b' d' key') k → Meet g k
        → (key ≡ key') × ((c ≡ c') × (b % 2 ^ 5 ≡ b' % 2 ^ 5) × (d % 2 ≡ 0) × (d' % 2 ≡ 0))
    eea3-eia3-only s t m = let e = zuc128-apart s t m in (e.0, shared-only c c' b b' d d' p p' e.1)

-- and there they do: after as many words they are one state
pub eea3-eia3-meet : {g k : Counted Held} {key : List ℕ} (c b d d' : ℕ) → d % 2 ≡ 0 → d' % 2 ≡ 0 → Stands (of_EEA3 c b d key) g → Stands (of_EIA3 c b d' key) k
    → g.count ≡ k.count → g ≡ k
eea3-eia3-meet {g} {key = key} c b d d' e e' s t n = one_state (subst (λ (iv : List ℕ). Stands (zuc128 key iv) g) (shared c b d d' e e') s) t n

-- ZUC-256, by the tag's width: a row says which, 0 being the keystream's
width_in : List ℕ → ℕ
width_in d = if eqb (d ⟨ 0 ⟩) 0x23 then (if eqb (d ⟨ 2 ⟩) 0x24 then 8 else 16) else if eqb (d ⟨ 2 ⟩) 0x25 then 4 else 0

width_back : (w : ℕ) → Width w → width_in (row_of w) ≡ w
unfolding width_in d-tag₃₂ d-tag₆₄ d-tag₁₂₈
width_back w = ⊎_elim (λ e. rw e refl) (⊎_elim (λ e. rw e refl) (λ e. rw e refl))

width-none : width_in d-keystream ≡ 0
unfolding width_in d-keystream
width-none = refl

module _ {g k : Counted Held} {key key' iv iv' : List ℕ} (w : ℕ) (v : Width w) where
  pub widths-apart : (w' : ℕ) → Width w' → Stands (zuc256 (row_of w) key iv) g → Stands (zuc256 (row_of w') key' iv') k → Meet g k → w ≡ w'
  widths-apart w' v' s t m = sym (width_back w v) ∙ ap width_in (zuc256-apart s t m).0 ∙ width_back w' v'

  pub keystream-tag-apart : Stands (zuc256 d-keystream key iv) g → Stands (zuc256 (row_of w) key' iv') k → Meet g k → ⊥
  keystream-tag-apart s t m =
      let e : 0 ≡ w = sym width-none ∙ ap width_in (zuc256-apart s t m).0 ∙ width_back w v in
      ⊎_elim (λ (f : w ≡ 4). omega (arith, e, f)) (⊎_elim (λ (f : w ≡ 8). omega (arith, e, f)) (λ (f : w ≡ 16). omega (arith, e, f))) v
