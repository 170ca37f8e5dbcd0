-- Any two outcomes that the promise of a masking call allows are equal, result, state handed back and every byte of the buffer; and none of
-- the calls asks anything. Number and count tell an answer.
use mathlib.Core.List.{List}
use mathlib.Core.Path.{◌≡◌, sym, ap, ◌∙◌}
use Prim.Native.Nat.{ℕ}
use Rattle.standard.proofs.Promise.{AsksNothing, Tight}
use Rattle.std.specs.Prelude.{Result}
use Rattle.refusals.proofs.Once.{answer-once}
use Rattle.refusals.specs.declared.Refusal.{Refusal}
use Rattle.mask.specs.Once.{Once, once_told}
use Rattle.zuc.specs.declared.Generator.{Generator}
use Rattle.zuc.proofs.Turning.{counted-once}
use Rattle.mask.specs.Outcome.{Outcome, told}
use Rattle.mask.proofs.mask_crate.Reads as mask-crate
use Rattle.mask.proofs.mask_clean.Reads as mask-clean
use Rattle.mask.proofs.eea3.mask_crate.Reads as eea3-mask-crate
use Rattle.mask.proofs.eea3.mask_clean.Reads as eea3-mask-clean
use Rattle.mask.proofs.eea3.mask_crate_strict.Reads as eea3-mask-crate-strict
use Rattle.mask.proofs.eea3.mask_clean_strict.Reads as eea3-mask-clean-strict

-- what is told tells what is returned
told-all : (r r' : Result ℕ Refusal) (g g' : Generator) (b b' : List ℕ) → told r g b ≡ told r' g' b'
    → ◌≡◌ {A = Result ℕ Refusal × (Generator × List ℕ)} (r, (g, b)) (r', (g', b'))
told-all r r' g g' b b' e =
    λ i. (
      answer-once 0 r r' (ap (λ (o : Outcome). o.number) e) (ap (λ (o : Outcome). o.count) e) i,
      (counted-once g g' (ap (λ (o : Outcome). o.state) e) i, (e i).buffer),
    )

pub tight-mask-crate : Tight {Seen = Result ℕ Refusal × (Generator × List ℕ)} mask-crate.Post (λ κs r s. (r, (s.0.now, s.1.0.now)))
tight-mask-crate κs a r r' s s' p q = told-all r r' s.0.now s'.0.now s.1.0.now s'.1.0.now (p ∙ sym q)

pub asks-nothing-mask-crate : AsksNothing mask-crate.Pre
asks-nothing-mask-crate κs a = tt

pub tight-mask-clean : Tight {Seen = Result ℕ Refusal × (Generator × List ℕ)} mask-clean.Post (λ κs r s. (r, (s.0.now, s.1.0.now)))
tight-mask-clean κs a r r' s s' p q = told-all r r' s.0.now s'.0.now s.1.0.now s'.1.0.now (p ∙ sym q)

pub asks-nothing-mask-clean : AsksNothing mask-clean.Pre
asks-nothing-mask-clean κs a = tt

-- EEA3 in one call: the answer and the buffer
once-all : (r r' : Result ℕ Refusal) (b b' : List ℕ) → once_told r b ≡ once_told r' b' → ◌≡◌ {A = Result ℕ Refusal × List ℕ} (r, b) (r', b')
once-all r r' b b' e = λ i. (answer-once 0 r r' (ap (λ (o : Once). o.number) e) (ap (λ (o : Once). o.count) e) i, (e i).buffer)

pub tight-eea3-mask-crate : Tight {Seen = Result ℕ Refusal × List ℕ} eea3-mask-crate.Post (λ κs r s. (r, s.1.1.1.1.0.now))
tight-eea3-mask-crate κs a r r' s s' p q = once-all r r' s.1.1.1.1.0.now s'.1.1.1.1.0.now (p ∙ sym q)

pub asks-nothing-eea3-mask-crate : AsksNothing eea3-mask-crate.Pre
asks-nothing-eea3-mask-crate κs a = tt

pub tight-eea3-mask-clean : Tight {Seen = Result ℕ Refusal × List ℕ} eea3-mask-clean.Post (λ κs r s. (r, s.1.1.1.1.0.now))
tight-eea3-mask-clean κs a r r' s s' p q = once-all r r' s.1.1.1.1.0.now s'.1.1.1.1.0.now (p ∙ sym q)

pub asks-nothing-eea3-mask-clean : AsksNothing eea3-mask-clean.Pre
asks-nothing-eea3-mask-clean κs a = tt

pub tight-eea3-mask-crate-strict : Tight {Seen = Result ℕ Refusal × List ℕ} eea3-mask-crate-strict.Post (λ κs r s. (r, s.1.1.1.1.0.now))
tight-eea3-mask-crate-strict κs a r r' s s' p q = once-all r r' s.1.1.1.1.0.now s'.1.1.1.1.0.now (p ∙ sym q)

pub asks-nothing-eea3-mask-crate-strict : AsksNothing eea3-mask-crate-strict.Pre
asks-nothing-eea3-mask-crate-strict κs a = tt

pub tight-eea3-mask-clean-strict : Tight {Seen = Result ℕ Refusal × List ℕ} eea3-mask-clean-strict.Post (λ κs r s. (r, s.1.1.1.1.0.now))
tight-eea3-mask-clean-strict κs a r r' s s' p q = once-all r r' s.1.1.1.1.0.now s'.1.1.1.1.0.now (p ∙ sym q)

pub asks-nothing-eea3-mask-clean-strict : AsksNothing eea3-mask-clean-strict.Pre
asks-nothing-eea3-mask-clean-strict κs a = tt
