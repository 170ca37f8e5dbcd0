-- Any two outcomes that the promise of writing or of reading allows are equal, answer, fields and every byte of the frame; and neither call
-- asks anything.
use mathlib.Core.List.{List}
use mathlib.Core.Path.{◌≡◌, refl, sym, ap, ◌∙◌}
use Prim.Native.Nat.{ℕ}
use Rattle.standard.proofs.Promise.{AsksNothing, Tight}
use Rattle.std.specs.Prelude.{Err, Ok, Result, ⊤}
use Rattle.std.specs.Result.{result_unwrap_or}
use Rattle.refusals.proofs.Once.{answer-once}
use Rattle.refusals.specs.declared.Refusal.{Refusal}
use Rattle.refusals.specs.Numbers.{answer_number}
use Rattle.frame.specs.declared.FrameFields.{FrameFields}
use Rattle.frame.specs.Outcome.{Readout, Written, fields_of, read_told, written_told}
use Rattle.frame.proofs.read.Reads as read
use Rattle.frame.proofs.write.Reads as write

-- a refused read is read as fields of zeros
none : FrameFields
none = record { count = 0; bearer = 0; direction = 0; bits = 0 }

read_is : (r : Result FrameFields Refusal) (frame : List ℕ)
    → read_told r frame ≡ record { number = answer_number r; fields = fields_of (result_unwrap_or r none); frame = frame }
unfolding none
read_is (Ok f) frame = refl
read_is (Err refusal) frame = refl

pub tight-write : Tight {Seen = Result ⊤ Refusal × List ℕ} write.Post (λ κs r s. (r, s.1.1.1.0.now))
tight-write κs a r r' s s' p q =
    let e : written_told r s.1.1.1.0.now ≡ written_told r' s'.1.1.1.0.now = p ∙ sym q in
    λ i. (answer-once tt r r' (ap (λ (o : Written). o.number) e) refl i, (e i).frame)

pub asks-nothing-write : AsksNothing write.Pre
asks-nothing-write κs a = tt

pub tight-read : Tight {Seen = Result FrameFields Refusal × List ℕ} read.Post (λ κs r s. (r, s.1.1.0.now))
tight-read κs a r r' s s' p q =
    let e = sym (read_is r s.1.1.0.now) ∙ p ∙ sym q ∙ read_is r' s'.1.1.0.now in
    λ i. (
      answer-once none r r' (ap (λ (o : Readout). o.number) e)
          (λ j. let f = (e j).fields in record { count = f.COUNT; bearer = f.bearer; direction = f.direction; bits = f.L }) i,
      (e i).frame,
    )

pub asks-nothing-read : AsksNothing read.Pre
asks-nothing-read κs a = tt
