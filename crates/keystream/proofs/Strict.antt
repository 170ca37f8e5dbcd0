-- The strict EEA3 start (request 2026-04): on numbers that pass 8 it is the plain one; when it is accepted, and when refused by 8; and that
-- it takes bearer and direction as given. By the laws of strict forms.
use mathlib.Core.List.{List, [], ◌∷◌, ◌++◌}
use mathlib.Core.Logic.{◌↔◌}
use mathlib.Core.Path.{◌≡◌, ◌∙◌, ap, refl, sym}
use Prim.Native.Nat.{ℕ}
use lib.ListN.{length}
use Rattle.standard.specs.Confidentiality.{half_iv-EEA3}
use Rattle.standard.specs.Loading.{load₁₂₈}
use Rattle.standard.specs.Refusals.{accepted, bad_field, bad_key, key_test, tested}
use Rattle.standard.proofs.Fields.{InField, OutOfField, Strict, as-given-EEA3, in_field, strict-accepted, strict-answer, strict-fits, strict-refused}
use Rattle.keystream.specs.Starts.{StartOutcome, accepted_start, refused_start, start-EEA3, strict_start-EEA3}

module _ (count bearer direction : ℕ) (key : List ℕ) where
  -- its answer, by the document's own line
  abbrev pub given : StartOutcome
  given = accepted_start (load₁₂₈ key (half_iv-EEA3 count bearer direction ++ half_iv-EEA3 count bearer direction))

  abbrev pub form : Strict StartOutcome
  form =
      record {
        key = key;
        bearer = bearer;
        direction = direction;
        rest = [];
        refused = refused_start;
        answer = given;
        number = λ (o : StartOutcome). o.number;
        told = λ n. refl;
        ok = refl;
        numbered = tt;
        others = tt;
      }

  -- ON INPUT THAT PASSES 8 the two forms give one outcome
  pub strict-eea3 : InField bearer direction → strict_start-EEA3 count bearer direction key ≡ start-EEA3 count bearer direction key
  unfolding strict_start-EEA3 start-EEA3
  strict-eea3 h =
      in_field form h
      ∙ ap (λ (iv : List ℕ). tested (key_test 16 key ∷ []) refused_start (accepted_start (load₁₂₈ key iv))) (sym (as-given-EEA3 bearer direction count h))

  module _ (o : StartOutcome) (is : o ≡ strict_start-EEA3 count bearer direction key) where
    -- it is accepted exactly if the key has 16 bytes and both numbers fit
    pub strict-eea3-accepted : (o.number ≡ accepted) ↔ ((length key ≡ 16) × InField bearer direction)
    unfolding strict_start-EEA3
    strict-eea3-accepted = let exactly = strict-accepted form o is in (λ e. let h = exactly.0 e in (h.0, h.1), λ h. exactly.1 (h.0, h.1, tt))

    -- refused by 8 exactly if the key has 16 bytes and one does not fit
    pub strict-eea3-refused : (o.number ≡ bad_field) ↔ ((length key ≡ 16) × OutOfField bearer direction)
    unfolding strict_start-EEA3
    strict-eea3-refused = strict-refused form o is

    -- AS GIVEN: refused neither by 2 nor by 8 it saw numbers that fit, and its IV is the document's of these very numbers
    pub strict-eea3-fits : (o.number ≡ bad_key → ⊥) → (o.number ≡ bad_field → ⊥) → InField bearer direction
    unfolding strict_start-EEA3
    strict-eea3-fits = strict-fits form o is

    pub strict-eea3-as-given : o.number ≡ accepted → o ≡ given
    unfolding strict_start-EEA3
    strict-eea3-as-given = strict-answer form o is
