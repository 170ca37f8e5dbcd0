-- Inner definitions: the linear transforms by their list of rotations. That L1 and L2 are these is proved (proofs/Mixing.antt).
use Rattle.std.specs.Prelude.{List, [], ◌∷◌, ℕ}
use Rattle.standard.specs.Notation.{◌⊕◌, ◌⋘◌}

-- x with its rotations by ks, the last one first
abbrev pub mixed : List ℕ → ℕ → ℕ
mixed [] x = x
mixed (k ∷ ks) x = mixed ks x ⊕ x ⋘ k

abbrev pub rotations₁ : List ℕ
rotations₁ = 24 ∷ 18 ∷ 10 ∷ 2 ∷ []

abbrev pub rotations₂ : List ℕ
rotations₂ = 30 ∷ 22 ∷ 14 ∷ 8 ∷ []
