-- `mask_by`: the cells loaded are in range, and the words of what start-up makes of them are the keystream.
use mathlib.Core.Path.{◌≡◌, ◌∙◌, ap, subst, sym}
use native.Mathlib.Omega.{arith}
use Prim.Native.Nat.{ℕ}
use Rattle.standard.proofs.Cells.{Cells}
use Rattle.standard.proofs.Generator.{stream-is}
use Rattle.standard.specs.Confidentiality.{mask_clean}
use Rattle.standard.specs.Generator.{State, started, word_at}
use Rattle.standard.specs.Loading.{load₁₂₈}
use Rattle.zuc.specs.Reading.{loaded_of}
use Rattle.zuc_loading.proofs.Loaded.{IV-EEA3-bytes, cells-128}
use Rattle.mask.specs.Inner.{end_of}
use Rattle.mask.proofs.Once.{loaded}
use Rattle.mask.proofs.eea3.mask_by.Goals as goal

pub mask_loaded-requires : goal.mask_loaded-requires
mask_loaded-requires c =
    let loaded-is : loaded_of c.load-loaded.result ≡ loaded c.args.count c.args.bearer c.args.direction c.args.key.now =
    c.load-loaded.ensures ∙ ap (load₁₂₈ c.args.key.now) c.iv-v.ensures in
    let a = c.args in
    let cells = cells-128 a.key.now _ (λ i. (c.shared_slice_known-1.given i).fits) (IV-EEA3-bytes a.count a.bearer a.direction) in
    let e = c.requires.enough in
    record { cells = subst (λ (σ : State). Cells σ.cells) (sym loaded-is) cells; enough = record { kept = e.kept; inside = e.inside; reached = e.reached; masking = omega arith; drawn = omega arith } }

pub returns : goal.returns
returns c =
    let loaded-is : loaded_of c.load-loaded.result ≡ loaded c.args.count c.args.bearer c.args.direction c.args.key.now =
    c.load-loaded.ensures ∙ ap (load₁₂₈ c.args.key.now) c.iv-v.ensures in
    let a = c.args in
    let words = ap (λ (σ : State). word_at (started σ)) loaded-is ∙ sym (stream-is (loaded a.count a.bearer a.direction a.key.now)) in
    c.mask_loaded.ensures ∙ ap (λ (ws : ℕ → ℕ). mask_clean ws (end_of a.bits a.reach) a.buf.now) words
