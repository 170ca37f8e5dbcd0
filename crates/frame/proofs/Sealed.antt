-- What EEA3 and EIA3 in one call give of a key, fields and a body that they take: the standard's masked body and tag; by their tests.
use mathlib.Core.List.{List, [], ◌∷◌}
use mathlib.Core.Path.{◌≡◌}
use Prim.Native.Nat.{ℕ, ◌+◌, ◌*◌}
use native.Mathlib.Omega.{arith}
use borrow.Author.Tests.{eq-eqb, le-leb}
use lib.ListN.{length}
use Rattle.standard.specs.Confidentiality.{words_to_mask_clean}
use Rattle.standard.specs.Frame.{Fields, masked_body, tag_over}
use Rattle.standard.specs.Integrity.{drawn_by_tag-EIA3}
use Rattle.standard.specs.Refusals.{accepted, bits_test, field_test, key_test, limit_test}
use Rattle.standard.specs.States.{limit}
use Rattle.standard.proofs.Tested.{passed}
use Rattle.mac.specs.Calls.{refused_once, strict_once_outcome-EIA3}
use Rattle.mask.specs.Once.{drawn_once, strict_clean-EEA3, strict_tested}
use Rattle.mask.specs.Once as mask
use Rattle.frame.specs.Inner.{Sealable}

module _ (key : List ℕ) (f : Fields) (body : List ℕ) (s : Sealable key f body) where
  pub masked-is : strict_clean-EEA3 f.COUNT f.bearer f.direction key f.L body ≡ drawn_once (words_to_mask_clean f.L) (masked_body key f body)
  unfolding strict_tested masked_body
  masked-is =
      passed (key_test 16 key ∷ field_test f.bearer f.direction ∷ bits_test f.L body ∷ limit_test 0 (words_to_mask_clean f.L) ∷ []) (mask.refused_once body)
      (drawn_once (words_to_mask_clean f.L) (masked_body key f body))
      (eq-eqb (length key) 16 s.key-bytes, (s.fields, (le-leb f.L (length body * 8) s.fits, (le-leb (0 + words_to_mask_clean f.L) limit (omega (arith, s.low)), tt))))

  pub tag_is : strict_once_outcome-EIA3 f.COUNT f.bearer f.direction key body f.L ≡ record { number = accepted; tag = tag_over key f body }
  unfolding strict_once_outcome-EIA3 tag_over
  tag_is =
      passed (key_test 16 key ∷ field_test f.bearer f.direction ∷ bits_test f.L body ∷ limit_test 0 (drawn_by_tag-EIA3 f.L) ∷ []) (refused_once 0)
      (record { number = accepted; tag = tag_over key f body })
      (eq-eqb (length key) 16 s.key-bytes, (s.fields, (le-leb f.L (length body * 8) s.fits, (le-leb (0 + drawn_by_tag-EIA3 f.L) limit (omega (arith, s.low)), tt))))
