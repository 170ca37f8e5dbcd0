-- THE THEOREM of requests 2026-08 and 2026-09, of every call that is lent a state: alike states get equal numbers, words, counts, tags and
-- buffers, and states that are alike again. Each promise is an equation whose outcomes agree.
use mathlib.Core.List.{List}
use mathlib.Core.Path.{◌≡◌, refl, sym, ap, ◌∙◌, subst₂}
use Prim.Native.Nat.{ℕ}
use Rattle.standard.specs.States.{Counted, Held, Stored, formed, formed-128, tag_formed}
use Rattle.zuc.specs.Reading.{counted_of}
use Rattle.keystream.proofs.Tight.{in-place-post}
use Rattle.keystream.proofs.fill.Reads as fill
use Rattle.keystream.proofs.generate.Reads as generate
use Rattle.keystream.specs.Draws.{DrawOutcome, draw_outcome, draw_told, fill_outcome, fill_told}
use Rattle.mac.proofs.zuc128.finish.Reads as zuc128-finish
use Rattle.mac.proofs.zuc128.update.Reads as zuc128-update
use Rattle.mac.proofs.zuc256.finish.Reads as zuc256-finish
use Rattle.mac.proofs.zuc256.update.Reads as zuc256-update
use Rattle.mac.specs.Calls.{finish_outcome-128, finish_outcome-256, finish_told, no_words, update_outcome, update_told}
use Rattle.mac.specs.Reading.{tagged_of-128, tagged_of-256}
use Rattle.mask.proofs.mask_clean.Reads as mask-clean
use Rattle.mask.proofs.mask_crate.Reads as mask-crate
use Rattle.mask.specs.Outcome.{clean_outcome, crate_outcome, told}
use Rattle.alike.specs.Alike.{AlikeGenerator, AlikeTag}
use Rattle.alike.specs.Same.{AgreeClosing, AgreeDraw, AgreeFill, AgreeMask, AgreeUpdate, SameAnswers}
use Rattle.alike.proofs.Outcomes.{clean-agrees, crate-agrees, draw-agrees, fill-agrees, finish-128-agrees, finish-256-agrees, update_agrees}
use Rattle.alike.proofs.Tags.{same-formed, same-formed-128}

-- what two calls tell agrees, where what a definition gives for either does
module _ {O St Rest : Type 0} (Like : St → St → Type 0) (Agrees : O → O → Type 0) (outcome : St → Rest → O)
    (law : (h k : St) (x : Rest) → Like h k → Agrees (outcome h x) (outcome k x)) where
  pub as-told : {h k : St} {x x' : Rest} {o o' : O} → Like h k → x ≡ x' → o ≡ outcome h x → o' ≡ outcome k x' → Agrees o o'
  as-told {h} {k} {x} e same p q = subst₂ Agrees (sym p) (ap (outcome k) same ∙ sym q) (law h k x e)

-- draws, by value and in place
draw : {h k : Counted Held} {o o' : DrawOutcome} → AlikeGenerator h k → o ≡ draw_outcome h → o' ≡ draw_outcome k → AgreeDraw o o'
draw e = as-told AlikeGenerator AgreeDraw (λ (h : Counted Held) (x : Unit {0}). draw_outcome h) (λ h k x. draw-agrees) e refl

pub same-generate : SameAnswers AlikeGenerator AgreeDraw generate.Post (λ κs a. counted_of a.0) (λ κs a. tt {0}) (λ κs r s. draw_told r.answer r.state)
same-generate κs κs' a a' r r' s s' e x = draw e

pub same-generate-in-place : SameAnswers AlikeGenerator AgreeDraw in-place-post (λ κs a. counted_of a.0.now) (λ κs a. tt {0})
    (λ κs r s. draw_told r s.0.now)
same-generate-in-place κs κs' a a' r r' s s' e x = draw e

-- a buffer of words
pub same-fill : SameAnswers AlikeGenerator AgreeFill fill.Post (λ κs a. counted_of a.0.now) (λ κs a. a.1.0.now) (λ κs r s. fill_told r s.0.now s.1.0.now)
same-fill κs κs' a a' r r' s s' = as-told AlikeGenerator AgreeFill fill_outcome (λ h k buffer e. fill-agrees e buffer)

-- masks
pub same-mask-crate : SameAnswers {Rest = ℕ × List ℕ} AlikeGenerator AgreeMask mask-crate.Post (λ κs a. counted_of a.0.now) (λ κs a. (a.1.1.0, a.1.0.now))
    (λ κs r s. told r s.0.now s.1.0.now)
same-mask-crate κs κs' a a' r r' s s' =
    as-told AlikeGenerator AgreeMask (λ (h : Counted Held) (x : ℕ × List ℕ). crate_outcome h x.0 x.1) (λ h k x e. crate-agrees e x.0 x.1)

pub same-mask-clean : SameAnswers {Rest = ℕ × List ℕ} AlikeGenerator AgreeMask mask-clean.Post (λ κs a. counted_of a.0.now) (λ κs a. (a.1.1.0, a.1.0.now))
    (λ κs r s. told r s.0.now s.1.0.now)
same-mask-clean κs κs' a a' r r' s s' =
    as-told AlikeGenerator AgreeMask (λ (h : Counted Held) (x : ℕ × List ℕ). clean_outcome h x.0 x.1) (λ h k x e. clean-agrees e x.0 x.1)

-- updates of tags
pub same-zuc128-update : SameAnswers AlikeTag AgreeUpdate zuc128-update.Post (λ κs a. tagged_of-128 a.0.now) (λ κs a. a.1.0.now) (λ κs r s. update_told r (tagged_of-128 s.0.now))
same-zuc128-update κs κs' a a' r r' s s' =
    as-told AlikeTag AgreeUpdate (λ (t : Counted Stored). update_outcome (tag_formed formed-128 t) t) (λ t u m e. update_agrees e formed-128 (same-formed-128 e.held) m)

pub same-zuc256-update : SameAnswers AlikeTag AgreeUpdate zuc256-update.Post (λ κs a. tagged_of-256 a.0.now) (λ κs a. a.1.0.now) (λ κs r s. update_told r (tagged_of-256 s.0.now))
same-zuc256-update κs κs' a a' r r' s s' =
    as-told AlikeTag AgreeUpdate (λ (t : Counted Stored). update_outcome (tag_formed formed t) t) (λ t u m e. update_agrees e formed (same-formed e.held) m)

-- closings
pub same-zuc128-finish : SameAnswers {Rest = List ℕ × ℕ} AlikeTag AgreeClosing zuc128-finish.Post (λ κs a. tagged_of-128 a.0.now)
    (λ κs a. (a.1.0.now, a.1.1.0)) (λ κs r s. finish_told 0 r (tagged_of-128 s.0.now))
same-zuc128-finish κs κs' a a' r r' s s' =
    as-told AlikeTag AgreeClosing (λ (t : Counted Stored) (x : List ℕ × ℕ). finish_outcome-128 t x.0 x.1) (λ t u x e. finish-128-agrees e x.0 x.1)

pub same-zuc256-finish : SameAnswers {Rest = List ℕ × ℕ} AlikeTag AgreeClosing zuc256-finish.Post (λ κs a. tagged_of-256 a.0.now)
    (λ κs a. (a.1.0.now, a.1.1.0)) (λ κs r s. finish_told no_words r (tagged_of-256 s.0.now))
same-zuc256-finish κs κs' a a' r r' s s' =
    as-told AlikeTag AgreeClosing (λ (t : Counted Stored) (x : List ℕ × ℕ). finish_outcome-256 t x.0 x.1) (λ t u x e. finish-256-agrees e x.0 x.1)
