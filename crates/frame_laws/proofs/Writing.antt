-- When a frame is written (request 2026-01): exactly if keys, lengths, fields and body are as said, so that every content has a frame; a refused write
-- leaves the frame as it came. By the tests' values.
use mathlib.Core.List.{List, [], ◌∷◌, ◌++◌}
use mathlib.Core.Logic.{◌↔◌}
use mathlib.Core.Path.{◌≡◌, refl, sym, ap, subst, ◌∙◌}
use Prim.Native.Nat.{ℕ, ◌+◌, ◌≤◌}
use native.Mathlib.Omega.{arith}
use borrow.Author.Tests.{eq-eqb, eqb-true, le-leb, leb-false, leb-true}
use lib.Dec.{lit<}
use lib.ListN.{length}
use Rattle.standard.specs.Frame.{Fields, body_in, frame_of}
use Rattle.standard.specs.Integrity.{drawn_by_tag-EIA3}
use Rattle.standard.specs.Refusals.{Test, accepted, key_test, spent}
use Rattle.standard.specs.States.{limit}
use Rattle.standard.proofs.Fields.{field-passed, field-passes}
use Rattle.standard.proofs.Tested.{AllPass}
use Rattle.frame.specs.Outcome.{Written, body_test, draw_test, least_test, most_test, range_test, write_outcome, write_tests}
use Rattle.frame_laws.specs.Taken.{Contents, NoBitPast, Writable}
use Rattle.frame_laws.proofs.Fits.{fits-exactly}
use Rattle.frame_laws.proofs.Parts.{body-length, body-there, whole_length}
use Rattle.frame_laws.proofs.Told.{Call, Place, pass-both, pass-first, told-answer, told-by, told-exactly, told-refused}

module _ (CK IK : List ℕ) (f : Fields) (frame : List ℕ) where
  abbrev writing : Call Written
  writing =
      record {
        number = λ x. x.number;
        tests = write_tests CK IK f frame;
        refused = λ number. record { number = number; frame = frame };
        answer = record { number = accepted; frame = frame_of CK IK f (body_in frame) };
        told = λ n. refl;
        fine = refl;
        numbered = (lit< tt, (lit< tt, (lit< tt, (lit< tt, (lit< tt, (lit< tt, (lit< tt, tt)))))));
      }

  -- the tests before that of the limit say just what a writer takes
  abbrev form_tests : List Test
  form_tests =
      key_test 16 CK ∷ key_test 16 IK ∷ least_test frame ∷ most_test frame ∷ range_test f ∷ body_test f frame ∷ []

  passed-writable : AllPass form_tests → Writable CK IK f frame
  passed-writable all =
      let least = leb-true 17 (length frame) all.1.1.0 in
      let field = field-passed f.bearer f.direction all.1.1.1.1.0 in
      let fits = (fits-exactly f.L (body_in frame)).0 all.1.1.1.1.1.0 in
      record {
        CK-bytes = eqb-true (length CK) 16 all.0;
        IK-bytes = eqb-true (length IK) 16 all.1.0;
        least = least;
        most = omega (arith, leb-true (length frame) 65538 all.1.1.1.0);
        bearer = field.0;
        direction = field.1;
        body_bytes = fits.0 ∙ body-length frame least;
        no-bit-past = fits.1;
      }

  writable-passes : Writable CK IK f frame → AllPass form_tests
  writable-passes w = (
    eq-eqb (length CK) 16 w.CK-bytes,
    (
      eq-eqb (length IK) 16 w.IK-bytes,
      (
        le-leb 17 (length frame) w.least,
        (
          le-leb (length frame) 65538 (omega (arith, w.most)),
          (
            field-passes f.bearer f.direction (w.bearer, w.direction),
            ((fits-exactly f.L (body_in frame)).1 (w.body_bytes ∙ sym (body-length frame w.least), w.no-bit-past), tt),
          ),
        ),
      ),
    ),
  )

  -- and then the limit is far off: a body of at most 65521 bytes draws few words
  abbrev words : ℕ
  words = drawn_by_tag-EIA3 f.L

  few_words : Writable CK IK f frame → 0 + words ≤ limit
  few_words w = omega (arith, w.most, w.body_bytes)

  limit-place : Place (write_tests CK IK f frame) (draw_test f)
  limit-place =
      record {
        before = form_tests;
        after = [];
        there = refl;
        refusal = λ e. omega arith;
        none_before = (λ e. omega arith, (λ e. omega arith, (λ e. omega arith, (λ e. omega arith, (λ e. omega arith, (λ e. omega arith, tt))))));
        none_after = tt;
      }

  module _ (o : Written) (told : o ≡ write_outcome CK IK f frame) where
    -- WHEN A WRITE IS ACCEPTED
    pub write-accepted : (o.number ≡ accepted) ↔ Writable CK IK f frame
    unfolding write_outcome
    write-accepted =
        let exactly = told-exactly writing o told in (
          λ e. passed-writable (pass-first form_tests (draw_test f ∷ []) (exactly.0 e)),
          λ w. exactly.1 (pass-both form_tests (draw_test f ∷ []) (writable-passes w) (le-leb (0 + words) limit (few_words w), tt)),
        )

    -- and what it then leaves; refused, it leaves every byte as it came
    pub write-is : o.number ≡ accepted → o.frame ≡ frame_of CK IK f (body_in frame)
    unfolding write_outcome
    write-is e = ap (λ (x : Written). x.frame) (told-answer writing o told e)

    pub refused-write-untouched : (o.number ≡ accepted → ⊥) → o.frame ≡ frame
    unfolding write_outcome
    refused-write-untouched other = ap (λ (x : Written). x.frame) (told-refused writing o told other)

    -- NO WRITE MEETS 16: where its test is reached it passes
    pub write-never-spent : o.number ≡ spent → ⊥
    unfolding write_outcome limit-place
    write-never-spent e =
        let h = (told-by writing o told (draw_test f) limit-place).0 e in
        omega (arith, few_words (passed-writable h.0), leb-false (0 + words) limit h.1)

-- EVERY CONTENT HAS A FRAME: whatever 13 bytes stand before the plain body and whatever four after it, the write is accepted, and every byte of
-- the frame is by the keys and the contents alone
module _ (CK IK : List ℕ) (f : Fields) (body : List ℕ) (c : Contents f body) (ck : length CK ≡ 16) (ik : length IK ≡ 16) where
  module _ (head tail : List ℕ) (before : length head ≡ 13) (after : length tail ≡ 4) where
    abbrev lent : List ℕ
    lent = head ++ (body ++ tail)

    lent_writable : Writable CK IK f lent
    lent_writable =
        let long = whole_length head body tail before after in
        record {
          CK-bytes = ck;
          IK-bytes = ik;
          least = omega (arith, long);
          most = omega (arith, long, c.most);
          bearer = c.bearer;
          direction = c.direction;
          body_bytes = omega (arith, long, c.bytes);
          no-bit-past = subst (NoBitPast f.L) (sym (body-there head body tail before after)) c.no-bit-past;
        }

    pub every-content : (o : Written) → o ≡ write_outcome CK IK f lent → (o.number ≡ accepted) × (o.frame ≡ frame_of CK IK f body)
    every-content o told =
        let ok = (write-accepted CK IK f lent o told).1 lent_writable in
        (ok, write-is CK IK f lent o told ok ∙ ap (frame_of CK IK f) (body-there head body tail before after))
