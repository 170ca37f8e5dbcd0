-- A write and a read of one frame (request 2026-01): what is written is read, what was read is written again, and an accepted frame is the only one
-- with its contents. By the parts of a frame, since a body that fits is plain again when masked twice.
use mathlib.Core.List.{List, ◌++◌}
use mathlib.Core.Logic.{◌↔◌}
use mathlib.Core.Path.{◌≡◌, sym, ap, ap₂, subst, ◌∙◌}
use Prim.Native.Nat.{ℕ, ◌-◌, ◌^◌, ◌<◌, ◌≤◌}
use native.Mathlib.Omega.{arith}
use lib.ListN.{length}
use Rattle.standard.specs.Bits.{bytes_of}
use Rattle.standard.specs.Frame.{Fields, body_in, fields_in, frame_of, head_of, masked_body, tag_over, with_body}
use Rattle.standard.specs.Notation.{◌⟨◌⟩, ceil}
use Rattle.standard.specs.Refusals.{accepted}
use Rattle.zuc_loading.proofs.Loaded.{Bytes}
use Rattle.frame.specs.Outcome.{Readout, Written, read_outcome, write_outcome}
use Rattle.frame_laws.specs.Taken.{Contents, Framed, NoBitPast, Sealed, TagRight, Writable}
use Rattle.frame_laws.proofs.Fits.{masked-clear, masked-length, masked-twice}
use Rattle.frame_laws.proofs.Joined.{four-lt}
use Rattle.frame_laws.proofs.Parts.{body-length, body-there, frame_is, frame_of-body, frame_of-fields, frame_of-length, frame_of-tag, frame_of-two, frame_of-version, head-length, head_in, tail-length, tail_in}
use Rattle.frame_laws.proofs.Reading.{accepted-framed, framed-accepted, read_is}
use Rattle.frame_laws.proofs.Writing.{every-content, write-accepted, write-is}

-- another body in a frame is found there
body-in-with : (frame body : List ℕ) → 17 ≤ length frame → body_in (with_body frame body) ≡ body
body-in-with frame body least = body-there (head_in frame) body (tail_in frame) (head-length frame least) (tail-length frame least)

-- THE FRAME OF ANY CONTENTS is read, and its contents are answered
module _ (CK IK : List ℕ) (f : Fields) (body : List ℕ) (c : Contents f body) (ck : length CK ≡ 16) (ik : length IK ≡ 16) (count : f.COUNT < 2 ^ 32) where
  abbrev made : List ℕ
  made = frame_of CK IK f body

  low : f.L < 2 ^ 32
  low = omega (arith, c.most, c.bytes)

  made-fields : fields_in made ≡ f
  made-fields = frame_of-fields CK IK f body count low

  made-framed : Framed CK IK made
  made-framed =
      let long = frame_of-length CK IK f body in
      record {
        CK-bytes = ck;
        IK-bytes = ik;
        least = omega (arith, long);
        version = frame_of-version CK IK f body;
        length-field = frame_of-two CK IK f body c.most ∙ omega (arith, long);
        bearer = subst (λ (g : Fields). g.bearer ≤ 31) (sym made-fields) c.bearer;
        direction = subst (λ (g : Fields). g.direction ≤ 1) (sym made-fields) c.direction;
        body_bytes = ap (λ (g : Fields). ceil g.L 8) made-fields ∙ omega (arith, long, c.bytes);
        no-bit-past =
            subst (λ (g : Fields). NoBitPast g.L (body_in made)) (sym made-fields)
            (subst (NoBitPast f.L) (sym (frame_of-body CK IK f body)) (masked-clear CK f body));
      }

  made-tag : TagRight IK made
  made-tag = frame_of-tag CK IK f body ∙ sym (ap₂ (tag_over IK) made-fields (frame_of-body CK IK f body))

  module _ (o : Readout) (told : o ≡ read_outcome CK IK made) where
    made-read : (o.number ≡ accepted) × (o.fields ≡ f) × (o.frame ≡ with_body made body)
    made-read =
        let ok = framed-accepted CK IK made o told (subst (λ (g : Fields). g.L < 2 ^ 32) (sym made-fields) low) made-framed made-tag in
        let is = read_is CK IK made o told ok in (
          ok,
          is.0 ∙ made-fields,
          is.1
              ∙ ap (with_body made) (ap₂ (masked_body CK) made-fields (frame_of-body CK IK f body) ∙ masked-twice CK f body c.no-bit-past),
        )

-- WHAT THE WRITER WRITES, THE READER RETURNS
module _ (CK IK : List ℕ) (f : Fields) (count : f.COUNT < 2 ^ 32) (frame : List ℕ)
    (written : Written) (wrote : written ≡ write_outcome CK IK f frame) (ok : written.number ≡ accepted)
    (read : Readout) (then : read ≡ read_outcome CK IK written.frame) where
  writable-contents : Writable CK IK f frame → Contents f (body_in frame)
  writable-contents w =
      let long = body-length frame w.least in
      record {
        bearer = w.bearer;
        direction = w.direction;
        most = omega (arith, long, w.most);
        bytes = w.body_bytes ∙ sym long;
        no-bit-past = w.no-bit-past;
      }

  pub written-is-read : (read.number ≡ accepted) × (read.fields ≡ f) × (body_in read.frame ≡ body_in frame) × (read.frame ≡ with_body written.frame (body_in frame))
  written-is-read =
      let w = (write-accepted CK IK f frame written wrote).0 ok in
      let is = write-is CK IK f frame written wrote ok in
      let back = made-read CK IK f (body_in frame) (writable-contents w) w.CK-bytes w.IK-bytes count read (then ∙ ap (read_outcome CK IK) is) in
      let least : 17 ≤ length (frame_of CK IK f (body_in frame)) = omega (arith, frame_of-length CK IK f (body_in frame)) in (
        back.0,
        back.1,
        ap body_in back.2 ∙ body-in-with (frame_of CK IK f (body_in frame)) (body_in frame) least,
        back.2 ∙ ap (λ (l : List ℕ). with_body l (body_in frame)) (sym is),
      )

-- AN ACCEPTED FRAME is the standard's frame of what its reader answers and leaves
module _ (CK IK frame : List ℕ) (small : Bytes frame) (read : Readout) (told : read ≡ read_outcome CK IK frame) (ok : read.number ≡ accepted) where
  framed : Framed CK IK frame
  framed = (accepted-framed CK IK frame read told ok).0

  abbrev plain : List ℕ
  plain = masked_body CK (fields_in frame) (body_in frame)

  plain-length : length plain ≡ length frame - 17
  plain-length = masked-length CK (fields_in frame) (body_in frame) ∙ body-length frame framed.least

  plain-contents : Contents (fields_in frame) plain
  plain-contents =
      record {
        bearer = framed.bearer;
        direction = framed.direction;
        most = omega (arith, plain-length, framed.length-field, small 1, small 2);
        bytes = framed.body_bytes ∙ sym plain-length;
        no-bit-past = masked-clear CK (fields_in frame) (body_in frame);
      }

  frame-of-plain : frame ≡ frame_of CK IK (fields_in frame) plain
  unfolding frame_of
  frame-of-plain =
      frame_is frame framed.least small framed.version framed.length-field
      ∙ ap₂ (λ (n tag : ℕ). head_of (fields_in frame) n ++ (body_in frame ++ bytes_of tag)) (sym plain-length) (accepted-framed CK IK frame read told ok).1
      ∙ ap (λ (masked : List ℕ). head_of (fields_in frame) (length plain) ++ (masked ++ bytes_of (tag_over IK (fields_in frame) masked)))
      (sym (masked-twice CK (fields_in frame) (body_in frame) framed.no-bit-past))

  left-plain : body_in read.frame ≡ plain
  left-plain = ap body_in (read_is CK IK frame read told ok).1 ∙ body-in-with frame plain framed.least

  pub accepted-is-frame : frame ≡ frame_of CK IK read.fields (body_in read.frame)
  accepted-is-frame = frame-of-plain ∙ sym (ap₂ (frame_of CK IK) (read_is CK IK frame read told ok).0 left-plain)

  -- WHAT THE READER ACCEPTED, THE WRITER WRITES AGAIN
  pub read-is-written : (written : Written) → written ≡ write_outcome CK IK read.fields read.frame → (written.number ≡ accepted) × (written.frame ≡ frame)
  read-is-written written then =
      let is = read_is CK IK frame read told ok in
      let again = every-content CK IK (fields_in frame) plain plain-contents framed.CK-bytes framed.IK-bytes (head_in frame) (tail_in frame)
      (head-length frame framed.least) (tail-length frame framed.least) written (then ∙ ap₂ (write_outcome CK IK) is.0 is.1) in
      (again.0, again.1 ∙ sym frame-of-plain)

-- ONE FRAME for its contents
module _ (CK IK a b : List ℕ) (small : Bytes a) (small' : Bytes b)
    (read read' : Readout) (told : read ≡ read_outcome CK IK a) (ok : read.number ≡ accepted) (told' : read' ≡ read_outcome CK IK b) (ok' : read'.number ≡ accepted) where
  pub one-frame : read.fields ≡ read'.fields → body_in read.frame ≡ body_in read'.frame → a ≡ b
  one-frame fields plain =
      accepted-is-frame CK IK a small read told ok ∙ ap₂ (frame_of CK IK) fields plain ∙ sym (accepted-is-frame CK IK b small' read' told' ok')

-- A READER TAKES THE STANDARD'S FRAMES and no others
module _ (CK IK frame : List ℕ) (small : Bytes frame) (read : Readout) (told : read ≡ read_outcome CK IK frame) where
  accepted-sealed : read.number ≡ accepted → Sealed CK IK frame
  accepted-sealed ok =
      let w = framed CK IK frame small read told ok in
      record {
        CK-bytes = w.CK-bytes;
        IK-bytes = w.IK-bytes;
        fields = fields_in frame;
        body = plain CK IK frame small read told ok;
        count = four-lt (frame ⟨ 3 ⟩) (frame ⟨ 4 ⟩) (frame ⟨ 5 ⟩) (frame ⟨ 6 ⟩) (small 3) (small 4) (small 5) (small 6);
        contents = plain-contents CK IK frame small read told ok;
        is = frame-of-plain CK IK frame small read told ok;
      }

  pub reads-frames : (read.number ≡ accepted) ↔ Sealed CK IK frame
  reads-frames = (
    accepted-sealed,
    λ s. (made-read CK IK s.fields s.body s.contents s.CK-bytes s.IK-bytes s.count read (told ∙ ap (read_outcome CK IK) s.is)).0,
  )
