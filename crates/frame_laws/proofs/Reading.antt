-- When a frame is read (request 2026-01): exactly if it has a frame's form and the tag is right; by 10 exactly if the form is there and the tag is
-- not; a refused read leaves the frame as it came; no read meets 16, and none takes more than 65538 bytes. By the tests' values.
use mathlib.Core.Bool.{Bool, true, false, ◌&&◌}
use mathlib.Core.List.{List, [], ◌∷◌, ◌++◌}
use mathlib.Core.Logic.{◌↔◌, ◌⊎◌, inl, inr}
use mathlib.Core.Path.{◌≡◌, refl, sym, ap, ap₂, ◌∙◌}
use Prim.Native.Nat.{ℕ, ◌+◌, ◌-◌, ◌^◌, ◌<◌, ◌≤◌}
use native.Mathlib.Omega.{arith}
use borrow.Author.Tests.{eq-eqb, eqb-false, eqb-true, le-leb, leb-false, leb-true, ne_eqb}
use lib.Dec.{eqb, leb, lit<}
use lib.ListN.{length}
use Rattle.standard.specs.Frame.{body_in, fields_in, masked_body, tag_in, tag_over, two_at, with_body}
use Rattle.standard.specs.Integrity.{drawn_by_tag-EIA3}
use Rattle.std.specs.Prelude.{if◌then◌else◌}
use Rattle.standard.specs.Notation.{◌⟨◌⟩}
use Rattle.standard.specs.Refusals.{Test, accepted, bad_frame, bad_key, bad_length, bad_tag, key_test, spent, tested}
use Rattle.standard.specs.States.{limit}
use Rattle.standard.proofs.Fields.{field-passed, field-passes}
use Rattle.standard.proofs.Table.{and_left, and_right}
use Rattle.standard.proofs.Tested.{AllPass}
use Rattle.zuc_loading.proofs.Loaded.{Bytes}
use Rattle.frame.specs.Outcome.{Readout, body_test, draw_test, length_test, no_fields, range_test, read_outcome, read_tests, tag_test, version_test}
use Rattle.frame_laws.specs.Taken.{Framed, TagRight}
use Rattle.frame_laws.proofs.Fits.{fits-exactly}
use Rattle.frame_laws.proofs.Joined.{four-lt}
use Rattle.frame_laws.proofs.Parts.{body-length}
use Rattle.frame_laws.proofs.Told.{Call, Place, pass-both, pass-first, told-answer, told-by, told-exactly, told-refused}

module _ (CK IK frame : List ℕ) where
  abbrev reading : Call Readout
  reading =
      record {
        number = λ x. x.number;
        tests = read_tests CK IK frame;
        refused = λ number. record { number = number; fields = no_fields; frame = frame };
        answer = record { number = accepted; fields = fields_in frame; frame = with_body frame (masked_body CK (fields_in frame) (body_in frame)) };
        told = λ n. refl;
        fine = refl;
        numbered = (lit< tt, (lit< tt, (lit< tt, (lit< tt, (lit< tt, (lit< tt, (lit< tt, (lit< tt, tt))))))));
      }

  -- the tests before those of the limit and the tag say just that there is a frame's form
  abbrev before_length : List Test
  before_length = key_test 16 CK ∷ key_test 16 IK ∷ version_test frame ∷ []

  abbrev form_tests : List Test
  form_tests = before_length ++ (length_test frame ∷ range_test (fields_in frame) ∷ body_test (fields_in frame) frame ∷ [])

  passed-framed : AllPass form_tests → Framed CK IK frame
  passed-framed all =
      let least = leb-true 17 (length frame) (and_left (leb 17 (length frame)) (eqb (frame ⟨ 0 ⟩) 1) all.1.1.0) in
      let field = field-passed (fields_in frame).bearer (fields_in frame).direction all.1.1.1.1.0 in
      let fits = (fits-exactly (fields_in frame).L (body_in frame)).0 all.1.1.1.1.1.0 in
      record {
        CK-bytes = eqb-true (length CK) 16 all.0;
        IK-bytes = eqb-true (length IK) 16 all.1.0;
        least = least;
        version = eqb-true (frame ⟨ 0 ⟩) 1 (and_right (leb 17 (length frame)) (eqb (frame ⟨ 0 ⟩) 1) all.1.1.0);
        length-field = eqb-true (two_at frame 1) (length frame - 3) all.1.1.1.0;
        bearer = field.0;
        direction = field.1;
        body_bytes = fits.0 ∙ body-length frame least;
        no-bit-past = fits.1;
      }

  framed-passes : Framed CK IK frame → AllPass form_tests
  framed-passes w = (
    eq-eqb (length CK) 16 w.CK-bytes,
    (
      eq-eqb (length IK) 16 w.IK-bytes,
      (
        ap₂ ◌&&◌ (le-leb 17 (length frame) w.least) (eq-eqb (frame ⟨ 0 ⟩) 1 w.version),
        (
          eq-eqb (two_at frame 1) (length frame - 3) w.length-field,
          (
            field-passes (fields_in frame).bearer (fields_in frame).direction (w.bearer, w.direction),
            ((fits-exactly (fields_in frame).L (body_in frame)).1 (w.body_bytes ∙ sym (body-length frame w.least), w.no-bit-past), tt),
          ),
        ),
      ),
    ),
  )

  abbrev words : ℕ
  words = drawn_by_tag-EIA3 (fields_in frame).L

  length-place : Place (read_tests CK IK frame) (length_test frame)
  length-place =
      record {
        before = before_length;
        after = range_test (fields_in frame) ∷ body_test (fields_in frame) frame ∷ draw_test (fields_in frame) ∷ tag_test IK frame ∷ [];
        there = refl;
        refusal = λ e. omega arith;
        none_before = (λ e. omega arith, (λ e. omega arith, (λ e. omega arith, tt)));
        none_after = (λ e. omega arith, (λ e. omega arith, (λ e. omega arith, (λ e. omega arith, tt))));
      }

  limit-place : Place (read_tests CK IK frame) (draw_test (fields_in frame))
  limit-place =
      record {
        before = form_tests;
        after = tag_test IK frame ∷ [];
        there = refl;
        refusal = λ e. omega arith;
        none_before = (λ e. omega arith, (λ e. omega arith, (λ e. omega arith, (λ e. omega arith, (λ e. omega arith, (λ e. omega arith, tt))))));
        none_after = (λ e. omega arith, tt);
      }

  tag-place : Place (read_tests CK IK frame) (tag_test IK frame)
  tag-place =
      record {
        before = form_tests ++ (draw_test (fields_in frame) ∷ []);
        after = [];
        there = refl;
        refusal = λ e. omega arith;
        none_before = (λ e. omega arith, (λ e. omega arith, (λ e. omega arith, (λ e. omega arith, (λ e. omega arith, (λ e. omega arith, (λ e. omega arith, tt)))))));
        none_after = tt;
      }

  module _ (o : Readout) (told : o ≡ read_outcome CK IK frame) where
    -- an accepted read: what it saw, what it answers and what it leaves
    pub accepted-framed : o.number ≡ accepted → Framed CK IK frame × TagRight IK frame
    unfolding read_outcome
    accepted-framed e =
        let all = (told-exactly reading o told).0 e in (
          passed-framed (pass-first form_tests (draw_test (fields_in frame) ∷ tag_test IK frame ∷ []) all),
          eqb-true (tag_in frame) (tag_over IK (fields_in frame) (body_in frame)) all.1.1.1.1.1.1.1.0,
        )

    pub read_is : o.number ≡ accepted → (o.fields ≡ fields_in frame) × (o.frame ≡ with_body frame (masked_body CK (fields_in frame) (body_in frame)))
    unfolding read_outcome
    read_is e = let is = told-answer reading o told e in (ap (λ (x : Readout). x.fields) is, ap (λ (x : Readout). x.frame) is)

    -- A REFUSED READ leaves every byte as it came, and answers no fields
    pub refused-read-untouched : (o.number ≡ accepted → ⊥) → (o.frame ≡ frame) × (o.fields ≡ no_fields)
    unfolding read_outcome
    refused-read-untouched other =
        let is = told-refused reading o told other in (ap (λ (x : Readout). x.frame) is, ap (λ (x : Readout). x.fields) is)

    -- so nothing is unmasked where the tag is wrong
    pub wrong-tag-untouched : (TagRight IK frame → ⊥) → (o.number ≡ accepted → ⊥) × (o.frame ≡ frame) × (o.fields ≡ no_fields)
    wrong-tag-untouched wrong =
        let other : o.number ≡ accepted → ⊥ = λ e. wrong (accepted-framed e).1 in
        let as-it-came = refused-read-untouched other in
        (other, as-it-came.0, as-it-came.1)

    -- a bit length of four bytes draws no more words than the limit
    module _ (low : (fields_in frame).L < 2 ^ 32) where
      few_words : 0 + words ≤ limit
      few_words = omega arith

      pub framed-accepted : Framed CK IK frame → TagRight IK frame → o.number ≡ accepted
      unfolding read_outcome
      framed-accepted w right =
          (told-exactly reading o told).1
          (pass-both form_tests (draw_test (fields_in frame) ∷ tag_test IK frame ∷ []) (framed-passes w)
          (le-leb (0 + words) limit few_words, (eq-eqb (tag_in frame) (tag_over IK (fields_in frame) (body_in frame)) right, tt)))

      framed-wrong : Framed CK IK frame → (TagRight IK frame → ⊥) → o.number ≡ bad_tag
      unfolding read_outcome tag-place
      framed-wrong w wrong =
          (told-by reading o told (tag_test IK frame) tag-place).1
          (pass-both form_tests (draw_test (fields_in frame) ∷ []) (framed-passes w) (le-leb (0 + words) limit few_words, tt), ne_eqb (tag_in frame) (tag_over IK (fields_in frame) (body_in frame)) wrong)

      never-reached : o.number ≡ spent → ⊥
      unfolding read_outcome limit-place
      never-reached e =
          omega (arith, few_words, leb-false (0 + words) limit ((told-by reading o told (draw_test (fields_in frame)) limit-place).0 e).1)

    wrong-framed : o.number ≡ bad_tag → Framed CK IK frame × (TagRight IK frame → ⊥)
    unfolding read_outcome tag-place
    wrong-framed e =
        let h = (told-by reading o told (tag_test IK frame) tag-place).0 e in
        (passed-framed (pass-first form_tests (draw_test (fields_in frame) ∷ []) h.0), eqb-false (tag_in frame) (tag_over IK (fields_in frame) (body_in frame)) h.1)

    module _ (small : Bytes frame) where
      low : (fields_in frame).L < 2 ^ 32
      low = four-lt (frame ⟨ 9 ⟩) (frame ⟨ 10 ⟩) (frame ⟨ 11 ⟩) (frame ⟨ 12 ⟩) (small 9) (small 10) (small 11) (small 12)

      -- WHEN A READ IS ACCEPTED, and when it is refused by 10
      pub read-accepted : (o.number ≡ accepted) ↔ (Framed CK IK frame × TagRight IK frame)
      read-accepted = (accepted-framed, λ w. framed-accepted low w.0 w.1)

      pub wrong-tag-refused : (o.number ≡ bad_tag) ↔ (Framed CK IK frame × (TagRight IK frame → ⊥))
      wrong-tag-refused = (wrong-framed, λ w. framed-wrong low w.0 w.1)

      -- NO READ MEETS 16
      pub read-never-spent : o.number ≡ spent → ⊥
      read-never-spent = never-reached low

      -- MORE THAN 65538 BYTES are refused by 7, since no length field holds so many; or before it by 2 or 6
      module _ (long : 65538 < length frame) where
        other_length : eqb (two_at frame 1) (length frame - 3) ≡ false
        other_length = ne_eqb (two_at frame 1) (length frame - 3) (λ e. omega (arith, small 1, small 2))

        pub too-long-by-7 : length CK ≡ 16 → length IK ≡ 16 → frame ⟨ 0 ⟩ ≡ 1 → o.number ≡ bad_length
        unfolding read_outcome length-place
        too-long-by-7 ck ik version =
            (told-by reading o told (length_test frame) length-place).1
            ((eq-eqb (length CK) 16 ck, (eq-eqb (length IK) 16 ik, (ap₂ ◌&&◌ (le-leb 17 (length frame) (omega arith)) (eq-eqb (frame ⟨ 0 ⟩) 1 version), tt))), other_length)

        pub too-long-refused : (o.number ≡ bad_key) ⊎ ((o.number ≡ bad_frame) ⊎ (o.number ≡ bad_length))
        unfolding read_outcome tested
        too-long-refused = by (eqb (length CK) 16) (eqb (length IK) 16) (leb 17 (length frame) && eqb (frame ⟨ 0 ⟩) 1) (ap (λ (x : Readout). x.number) told ∙ rw other_length refl)
          where
            by : (a b c : Bool) → o.number ≡ reading.number (if a then (if b then (if c then reading.refused bad_length else reading.refused bad_frame) else reading.refused bad_key) else reading.refused bad_key)
                → (o.number ≡ bad_key) ⊎ ((o.number ≡ bad_frame) ⊎ (o.number ≡ bad_length))
            by true true true e = inr (inr e)
            by true true false e = inr (inl e)
            by true false c e = inl e
            by false b c e = inl e
