-- The strict EIA3 forms (request 2026-04) as strict forms, and that on numbers that pass 8 each is the plain one.
use mathlib.Core.List.{List, [], ◌∷◌}
use mathlib.Core.Path.{◌≡◌, ◌∙◌, ap, refl, sym}
use Prim.Native.Nat.{ℕ}
use native.Mathlib.Omega.{arith}
use lib.Dec.{lit<}
use Rattle.standard.specs.Generator.{keystream}
use Rattle.standard.specs.Integrity.{bytes_iv-EIA3, drawn_by_tag-EIA3, tag-EIA3}
use Rattle.standard.specs.Loading.{load₁₂₈}
use Rattle.standard.specs.Refusals.{accepted, bad_bits, bad_field, bits_test, key_test, limit_test, spent, tested}
use Rattle.standard.proofs.Fields.{InField, Strict, as-given-EIA3, in_field}
use Rattle.mac.specs.Calls.{Once, Outcome, begun_tag-128, once_outcome-EIA3, refused_once, refused_tag, start_outcome-EIA3, strict_once_outcome-EIA3, strict_start_outcome-EIA3}

module _ (count bearer direction : ℕ) (key : List ℕ) where
  abbrev pub start-form : Strict Outcome
  start-form =
      record {
        key = key;
        bearer = bearer;
        direction = direction;
        rest = [];
        refused = refused_tag;
        answer = begun_tag-128 (load₁₂₈ key (bytes_iv-EIA3 count bearer direction));
        number = λ (o : Outcome). o.number;
        told = λ n. refl;
        ok = refl;
        numbered = tt;
        others = tt;
      }

  pub strict-eia3 : InField bearer direction → strict_start_outcome-EIA3 count bearer direction key ≡ start_outcome-EIA3 count bearer direction key
  unfolding strict_start_outcome-EIA3 start_outcome-EIA3
  strict-eia3 h =
      in_field start-form h
      ∙ ap (λ (iv : List ℕ). tested (key_test 16 key ∷ []) refused_tag (begun_tag-128 (load₁₂₈ key iv))) (sym (as-given-EIA3 bearer direction count h))

  module _ (message : List ℕ) (l : ℕ) where
    abbrev pub once-form : Strict (Once ℕ)
    once-form =
        record {
          key = key;
          bearer = bearer;
          direction = direction;
          rest = bits_test l message ∷ limit_test 0 (drawn_by_tag-EIA3 l) ∷ [];
          refused = refused_once 0;
          answer = record { number = accepted; tag = tag-EIA3 (keystream (load₁₂₈ key (bytes_iv-EIA3 count bearer direction))) message l };
          number = λ (o : Once ℕ). o.number;
          told = λ n. refl;
          ok = refl;
          numbered = (lit< tt, (lit< tt, tt));
          others = (λ (e : bad_bits ≡ bad_field). omega arith, (λ (e : spent ≡ bad_field). omega arith, tt));
        }

    pub strict-once-eia3 : InField bearer direction
        → strict_once_outcome-EIA3 count bearer direction key message l ≡ once_outcome-EIA3 count bearer direction key message l
    unfolding strict_once_outcome-EIA3 once_outcome-EIA3
    strict-once-eia3 h =
        in_field once-form h
        ∙ ap (λ (iv : List ℕ). tested (key_test 16 key ∷ bits_test l message ∷ limit_test 0 (drawn_by_tag-EIA3 l) ∷ []) (refused_once 0) (record { number = accepted; tag = tag-EIA3 (keystream (load₁₂₈ key iv)) message l }))
        (sym (as-given-EIA3 bearer direction count h))
